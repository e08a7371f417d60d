use Rattle.std.proofs.Common.{◌≡◌, ◌≤◌, length, sym, ap, subst, arith}
use Rattle.vg_meta.specs.Roomy.{table_alone}
use Rattle.vg_meta.specs.Tables.{VolumeTable, new_table}
use Rattle.vg_meta.specs.Text.{text, HasText}
use Rattle.vg_store.proofs.NewGroups.{records_few, new_text, new_has_text}
use Rattle.vg_store.proofs.formats.Draft.new.Goals as goal

pub encode-length-requires-clause-fits : goal.encode-length-requires-clause-fits
encode-length-requires-clause-fits c =
    let r = c.record_extents.result in
    let same : length (text (table_alone c.in_ok-table.table)) ≡ length (text (new_table r)) = ap (λ (t : VolumeTable). length (text t)) c.in_ok-table.ensures.table in
    omega (arith, same, new_text r, records_few c.args.geometry.extent c.args.geometry.in_range.extent_least, c.record_extents.ensures)

pub encode-length-requires-clause-numbers : goal.encode-length-requires-clause-numbers
encode-length-requires-clause-numbers c =
    let r = c.record_extents.result in
    let few : r ≤ 16 = omega (arith, records_few c.args.geometry.extent c.args.geometry.in_range.extent_least, c.record_extents.ensures) in
    subst HasText (sym c.in_ok-table.ensures.table) (new_has_text r few)
