use Rattle.std.proofs.Common.{List, ◌≡◌, ◌++◌, ◌∷◌, [], ◌<◌, ◌≤◌, ap, sym, subst, length, ◌∙◌}
use Rattle.std.specs.Prelude.{get_or}
use Rattle.vg_meta.specs.Roomy.{RoomyRow, table_alone}
use Rattle.sm_log_reading.specs.declared.logs.DiskPieces.{DiskPieces}
use Rattle.sm_recover.specs.Tracked.{disk_logged}
use Rattle.sm_recover.proofs.TrackedLaws.{next_none, next_some, all_done, disks_listed}
use Rattle.sm_recover.proofs.tracked.logged_disks.Goals as goal

pub loop-volume-preserved-in_default : goal.loop-volume-preserved-in_default
loop-volume-preserved-in_default c =
    let rows = c.args.table.now.rows in
    let i = c.loop-volume.volume-index in
    let below = subst (λ (hs : List RoomyRow). i < length hs) c.volumes-volume-items.ensures.volumes c.loop-volume-test.true in
    let here = subst (λ (hs : List RoomyRow). c.volume-item.result ≡ get_or hs i c.volume-item.result) c.volumes-volume-items.ensures.volumes c.volume-item.is in
    record {
      made = c.loop-volume.invariant.made ∙ sym (next_none (λ (h : RoomyRow). disk_logged (table_alone c.args.table.now) c.args.tree.now.rows h.row) rows i c.volume-item.result below here (sym c.disk_logged.ensures ∙ c.in_default.is));
    }

pub loop-volume-preserved : goal.loop-volume-preserved
loop-volume-preserved c =
    let rows = c.args.table.now.rows in
    let i = c.loop-volume.volume-index in
    let below = subst (λ (hs : List RoomyRow). i < length hs) c.volumes-volume-items.ensures.volumes c.loop-volume-test.true in
    let here = subst (λ (hs : List RoomyRow). c.volume-item.result ≡ get_or hs i c.volume-item.result) c.volumes-volume-items.ensures.volumes c.volume-item.is in
    record {
      made = c.in-Ok.ensures.items ∙ ap (λ (ds : List DiskPieces). ds ++ c.in-Some.disk ∷ []) c.loop-volume.invariant.made
          ∙ sym (next_some (λ (h : RoomyRow). disk_logged (table_alone c.args.table.now) c.args.tree.now.rows h.row) rows i c.volume-item.result c.in-Some.disk below here (sym c.disk_logged.ensures ∙ c.in-Some.is));
    }

pub returns : goal.returns
returns c =
    let rows = c.args.table.now.rows in
    let i = c.loop-volume.volume-index in
    let past = subst (λ (hs : List RoomyRow). length hs ≤ i) c.volumes-volume-items.ensures.volumes c.loop-volume-test.false in
    c.loop-volume.invariant.made ∙ all_done (λ (h : RoomyRow). disk_logged (table_alone c.args.table.now) c.args.tree.now.rows h.row) rows i past
    ∙ disks_listed c.args.table.now c.args.tree.now.rows
