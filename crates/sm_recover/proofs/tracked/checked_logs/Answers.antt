use Rattle.std.proofs.Common.{ap, sym, subst, ◌∙◌}
use Rattle.vg_meta.specs.Roomy.{RoomyTable, table_alone}
use Rattle.sm_standing.specs.LogChecks.{log_fault}
use Rattle.sm_ready.specs.Stores.{store_content}
use Rattle.sm_checks.specs.Openable.{IsStoppedBy}
use Rattle.sm_recover.specs.Tracked.{logged_disks}
use Rattle.sm_recover.proofs.LogsRead.{logs_are_read, why_not}
use Rattle.sm_recover.proofs.tracked.checked_logs.Goals as goal

pub returns-in-Ok-read_logs-clause-read : goal.returns-in-Ok-read_logs-clause-read
returns-in-Ok-read_logs-clause-read g c =
    let e = c.in-Ok-read_logs.ensures in
    let same = c.deref.ensures.value ∙ c.in-Ok.ensures ∙ ap (λ (k : RoomyTable). logged_disks (table_alone k) c.args.tree.now.rows) c.table.ensures.table in
    logs_are_read g.S.Store c.args.store.now c.args.tree.now.rows c.table.ensures.spread c.requires.pieces c.deref.result.now same c.in-Ok-read_logs.logs e.read e.numbered e.few c.rows-rows.ensures.rising e.logs

pub returns-clause-cause : goal.returns-clause-cause
returns-clause-cause g c =
    let same = c.deref.ensures.value ∙ c.in-Ok.ensures ∙ ap (λ (k : RoomyTable). logged_disks (table_alone k) c.args.tree.now.rows) c.table.ensures.table in
    subst (IsStoppedBy g.S.Store.told (log_fault (store_content g.S.Store c.args.store.now)) (g.S.Store.faults c.args.store.now) (g.S.Store.faults c.read_logs.new.store)) (sym c.open_fault.ensures)
    (why_not g.S.Store c.args.store.now c.args.tree.now.rows c.table.ensures.spread c.requires.pieces c.deref.result.now same c.read_logs.new.store c.in-Err.fault c.in-Err.ensures.cause)
