use Rattle.std.proofs.Common.{inl, inr, ⊎_elim, arith, Ok, sym, ap, ◌∙◌, subst}
use Rattle.std.proofs.lemmas.Bool.{true≢false}
use Rattle.std.proofs.lemmas.Result.{err_from_is_err_and}
use Rattle.sm_machine.specs.Runs.{is_accepted}
use Rattle.sm_machine.specs.Tracking.{logs_after}
use Rattle.sm_machine.specs.declared.commands.Command.TheVariants.{Snapshot}
use Rattle.sm_machine.specs.declared.replies.Reply.TheVariants.{Done}
use Rattle.sm_ready.specs.Known.{shape_in}
use Rattle.sm_ready.specs.Taken.{StoreTakes}
use Rattle.sm_ready.proofs.FramingLaws.{more_steps, then_steps}
use Rattle.sm_ready.proofs.TakenLaws.{is_told}
use Rattle.sm_session.proofs.CarryLaws.{stopped_at}
use Rattle.sm_session.proofs.LoggedLaws.{ready_behind}
use Rattle.sm_session.proofs.SnapshotLaws.{can_split, fork_poor, fork_stopped, split_logs_are, split_stepped, split_stopped}
use Rattle.sm_session.specs.Stepped.{StoreSteps}
use Rattle.sm_session.proofs.forks.snapshot_tracked.Goals as goal

pub returns-in_err-other-clause-taken : goal.returns-in_err-other-clause-taken
returns-in_err-other-clause-taken g c = λ told ready good.
    let h = is_told g.S.Store c.args.store.now c.args.memory.now c.requires.session.orderly c.requires.session.usable told ready (g.met.S.Store.leaves_now c.args.store.now told c.requires.session.usable) in
    let e = err_from_is_err_and c.from_residual.result c.from_residual.ensures.1 in
    subst (StoreSteps g.S.Store (Snapshot c.args.disk.now c.args.twin.now) c.args.store.now c.args.memory.now c.derive.new.store c.derive.new.memory) (sym e.1)
    (fork_stopped h good c.args.disk.now c.args.twin.now c.requires.room.own c.requires.room.tracked c.requires.allowed c.derive.new.memory e.0 c.derive.ensures.step c.derive.ensures.logs
    (stopped_at g.S.Store c.args.store.now c.derive.new.store c.args.memory.now c.derive.new.memory (Snapshot c.args.disk.now c.args.twin.now) c.derive.result e.0 (c.derive.ensures.taken told ready)))

-- ---- memory was wanting

pub returns-in_default-clause-step : goal.returns-in_default-clause-step
returns-in_default-clause-step g c = more_steps (omega arith) c.derive.ensures.step

pub returns-in_default-clause-logs : goal.returns-in_default-clause-logs
returns-in_default-clause-logs g c = inl c.derive.ensures.logs

pub returns-in_default-clause-taken : goal.returns-in_default-clause-taken
returns-in_default-clause-taken g c = λ told ready good.
    let h = is_told g.S.Store c.args.store.now c.args.memory.now c.requires.session.orderly c.requires.session.usable told ready (g.met.S.Store.leaves_now c.args.store.now told c.requires.session.usable) in
    fork_poor h good c.args.disk.now c.args.twin.now c.requires.room.own c.requires.room.tracked c.requires.allowed c.derive.new.memory c.in_ok-other.other c.in_default.not-Done c.derive.ensures.step c.derive.ensures.logs
    (c.in_ok-other.ensures.taken told ready)

-- ---- the split failed

pub returns-in_err-split-clause-step : goal.returns-in_err-split-clause-step
returns-in_err-split-clause-step g c = then_steps c.derive.ensures.step c.split.ensures.step

pub returns-in_err-split-clause-taken : goal.returns-in_err-split-clause-taken
returns-in_err-split-clause-taken g c = λ told ready good.
    let h = is_told g.S.Store c.args.store.now c.args.memory.now c.requires.session.orderly c.requires.session.usable told ready (g.met.S.Store.leaves_now c.args.store.now told c.requires.session.usable) in
    let e = err_from_is_err_and c.from_residual-in_err-split.result c.from_residual-in_err-split.ensures.1 in
    let t : StoreTakes g.S.Store (Snapshot c.args.disk.now c.args.twin.now) c.args.store.now c.args.memory.now c.derive.new.store c.derive.new.memory (Ok Done) =
    subst (λ y. StoreTakes g.S.Store (Snapshot c.args.disk.now c.args.twin.now) c.args.store.now c.args.memory.now c.derive.new.store c.derive.new.memory (Ok y)) c.in-Done.is (c.in_ok-other.ensures.taken told ready) in
    let site = c.derive.ensures.step.site in
    let same = c.derive.ensures.logs in
    let can = can_split h good c.args.disk.now c.args.twin.now c.requires.room.own c.requires.room.tracked c.requires.allowed c.derive.new.store c.derive.new.memory t site same c.args.room _ c.requires.room c.requires.twin.0 c.requires.twin.1 in
    let ready_then = ready_behind g.S.Store c.args.store.now c.derive.new.store c.args.memory.now c.derive.new.memory (Snapshot c.args.disk.now c.args.twin.now) Done t site in
    subst (StoreSteps g.S.Store (Snapshot c.args.disk.now c.args.twin.now) c.args.store.now c.args.memory.now c.split.new.store c.split.new.memory) (sym e.1)
    (split_stopped h good c.args.disk.now c.args.twin.now c.requires.room.own c.requires.room.tracked c.requires.allowed c.derive.new.store c.derive.new.memory t site same c.args.room _ c.requires.room c.requires.twin.0 c.requires.twin.1
    c.in_ok-other.ensures.session_still.orderly.table.sequence c.split.ensures.step (c.split.ensures.split told ready_then can) (is_told g.S.Store c.derive.new.store c.derive.new.memory c.in_ok-other.ensures.session_still.orderly c.in_ok-other.ensures.session_still.usable told ready_then (g.met.S.Store.leaves_now c.derive.new.store told c.in_ok-other.ensures.session_still.usable)) e.0)

-- ---- all was done

pub returns-clause-step : goal.returns-clause-step
returns-clause-step g c = then_steps c.derive.ensures.step c.split.ensures.step

pub returns-clause-logs : goal.returns-clause-logs
unfolding logs_after shape_in
returns-clause-logs g c = ⊎_elim
    (λ is. inl (ap (λ m. m.logs) is ∙ c.derive.ensures.logs))
    (λ is. inr (ap (λ m. m.logs) is ∙ split_logs_are c.args.disk.now _ _ _ _ c.requires.twin.0 c.requires.twin.1 c.derive.ensures.logs)) c.in_ok-split.ensures.memory

pub returns-clause-refused : goal.returns-clause-refused
unfolding is_accepted
returns-clause-refused g c = λ e. absurd (true≢false e)

pub returns-clause-untouched : goal.returns-clause-untouched
unfolding is_accepted
returns-clause-untouched g c = λ e. absurd (true≢false e)

pub returns-clause-taken : goal.returns-clause-taken
returns-clause-taken g c = λ told ready good.
    let h = is_told g.S.Store c.args.store.now c.args.memory.now c.requires.session.orderly c.requires.session.usable told ready (g.met.S.Store.leaves_now c.args.store.now told c.requires.session.usable) in
    let t : StoreTakes g.S.Store (Snapshot c.args.disk.now c.args.twin.now) c.args.store.now c.args.memory.now c.derive.new.store c.derive.new.memory (Ok Done) =
    subst (λ y. StoreTakes g.S.Store (Snapshot c.args.disk.now c.args.twin.now) c.args.store.now c.args.memory.now c.derive.new.store c.derive.new.memory (Ok y)) c.in-Done.is (c.in_ok-other.ensures.taken told ready) in
    let site = c.derive.ensures.step.site in
    let same = c.derive.ensures.logs in
    let can = can_split h good c.args.disk.now c.args.twin.now c.requires.room.own c.requires.room.tracked c.requires.allowed c.derive.new.store c.derive.new.memory t site same c.args.room _ c.requires.room c.requires.twin.0 c.requires.twin.1 in
    let ready_then = ready_behind g.S.Store c.args.store.now c.derive.new.store c.args.memory.now c.derive.new.memory (Snapshot c.args.disk.now c.args.twin.now) Done t site in
    let x = c.split.ensures.split told ready_then can in
    split_stepped h good c.args.disk.now c.args.twin.now c.requires.room.own c.requires.room.tracked c.requires.allowed c.derive.new.store c.derive.new.memory t site same c.args.room _ c.requires.room c.requires.twin.0 c.requires.twin.1
    c.in_ok-other.ensures.session_still.orderly.table.sequence c.split.ensures.step x
    (is_told g.S.Store c.derive.new.store c.derive.new.memory c.in_ok-other.ensures.session_still.orderly c.in_ok-other.ensures.session_still.usable told ready_then (g.met.S.Store.leaves_now c.derive.new.store told c.in_ok-other.ensures.session_still.usable)) c.in_ok-split.was (c.split.ensures.step.site ∙ site) (c.in_ok-split.ensures.shape can) (x.ready c.in_ok-split.was)
