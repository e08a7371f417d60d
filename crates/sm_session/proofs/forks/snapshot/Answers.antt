use Rattle.std.proofs.Common.{◌≡◌, None, Some, Option, false, refl, sym, ap, ◌∙◌}
use Rattle.std.specs.Option.{is_some}
use Rattle.std.proofs.lemmas.Bool.{true≢false}
use Rattle.sm_log.specs.Logs.{Log, log_of}
use Rattle.sm_machine.specs.declared.commands.Command.TheVariants.{Snapshot}
use Rattle.sm_ready.specs.Known.{shape_in}
use Rattle.sm_ready.specs.Sessions.{store_state}
use Rattle.sm_ready.proofs.TakenLaws.{is_told}
use Rattle.sm_session.proofs.LoggedLaws.{poor_stepped, stepped_same}
use Rattle.sm_session.proofs.SnapshotLaws.{step_unlogged, unlogged_carries}
use Rattle.sm_session.proofs.ToldLaws.{snapshot_still}
use Rattle.sm_session.proofs.forks.snapshot.Goals as goal

none_of : (o : Option Log) → false ≡ is_some o → o ≡ None
none_of None e = refl
none_of (Some l) e = absurd (true≢false (sym e))

-- memory was wanting for the split
pub returns-in_default-clause-taken : goal.returns-in_default-clause-taken
returns-in_default-clause-taken g c = λ told ready good.
    poor_stepped (is_told g.S.Store c.args.store.now c.args.memory.now c.requires.session.orderly c.requires.session.usable told ready (g.met.S.Store.leaves_now c.args.store.now told c.requires.session.usable)) good (Snapshot c.args.disk.now c.args.twin.now)

-- the disk has no log
pub returns-in-None-clause-taken : goal.returns-in-None-clause-taken
unfolding shape_in
returns-in-None-clause-taken g c = λ told ready good.
    let h = is_told g.S.Store c.args.store.now c.args.memory.now c.requires.session.orderly c.requires.session.usable told ready (g.met.S.Store.leaves_now c.args.store.now told c.requires.session.usable) in
    let none = none_of (log_of c.args.disk.now c.args.memory.now.logs) (ap is_some (sym c.in-None.is) ∙ c.in-Ok.ensures.tracked) in
    stepped_same h good c.derive.new.memory (Snapshot c.args.disk.now c.args.twin.now) c.derive.result c.derive.ensures.step (unlogged_carries _ c.args.disk.now c.args.twin.now none) (snapshot_still c.args.disk.now c.args.twin.now) c.derive.ensures.logs
    (step_unlogged (store_state g.S.Store c.args.store.now c.args.memory.now) c.args.disk.now c.args.twin.now none) (c.derive.ensures.taken told ready)
