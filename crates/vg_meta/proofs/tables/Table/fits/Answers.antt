use Rattle.std.proofs.Common.{◌-◌, ◌^◌, List, length, min, ap, ◌∙◌, arith}
use Rattle.std.proofs.lemmas.Bool.{leb-true, le-leb}
use Rattle.vg_meta.specs.Roomy.{RoomyTable, RoomyRow, table_alone, rows_alone}
use Rattle.vg_meta.specs.Changes.{changed, applied}
use Rattle.vg_meta.specs.Writing.{volumes_text}
use Rattle.vg_meta.proofs.WriteLaws.{length-text}
use Rattle.vg_meta.proofs.tables.Table.fits.Goals as goal

pub returns : goal.returns
returns c =
    let k = c.args.self.now in
    let change = c.args.change.now in
    let rows_are = c.deref.ensures.value ∙ ap (λ (t : RoomyTable). t.rows) c.self.view_is in
    let size =
    c.changed_length.ensures ∙ ap (λ (hs : List RoomyRow). min (length (volumes_text (changed (rows_alone hs) change))) (2 ^ 64 - 1)) rows_are in
    let all = length-text (applied (table_alone k) change) in
    record {
      fits = (
        λ h. let low = leb-true c.saturating_add.result c.args.limit h in omega (arith, size, all, c.saturating_add.ensures, low),
        λ h. le-leb c.saturating_add.result c.args.limit (omega (arith, size, all, c.saturating_add.ensures, h)),
      );
    }
