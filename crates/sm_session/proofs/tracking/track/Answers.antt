use Rattle.std.proofs.Common.{◌≡◌, inr, false, None, Ok, Err, sym, ap, ◌∙◌, subst}
use Rattle.std.proofs.lemmas.Bool.{true≢false}
use Rattle.std.proofs.lemmas.Result.{err_from_is_err_and}
use Rattle.sm_machine.specs.Refusals.{refusal}
use Rattle.sm_machine.specs.Runs.{is_accepted, takes_memory}
use Rattle.sm_machine.specs.Tracking.{logs_after}
use Rattle.sm_machine.specs.declared.commands.Command.TheVariants.{Track}
use Rattle.sm_machine.specs.declared.replies.Reply.TheVariants.{Done, No}
use Rattle.sm_base.specs.declared.refusals.Refusal.TheVariants.{NoMemory}
use Rattle.sm_ready.specs.Does.{store_shape}
use Rattle.sm_ready.specs.Framing.{StepsOn}
use Rattle.sm_ready.specs.Known.{shape_in}
use Rattle.sm_ready.proofs.TakenLaws.{is_told}
use Rattle.sm_session.specs.Carrying.{most_log_commits}
use Rattle.sm_session.specs.Stepped.{StoreSteps}
use Rattle.sm_session.proofs.CarryLaws.{between_poor}
use Rattle.sm_session.proofs.TrackLaws.{begin_stepped, begin_stopped, end_stepped, end_stopped, log_there, track_poor}
use Rattle.sm_session.proofs.tracking.track.Goals as goal

-- ---- tracking begins

pub returns-in-Ok-clause-step : goal.returns-in-Ok-clause-step
unfolding most_log_commits
returns-in-Ok-clause-step g c = subst (λ y. StepsOn g.S.Store (most_log_commits (Track c.args.disk.now y)) c.args.store.now c.begin.new.store) (sym c.if-on.true) c.begin.ensures.step

pub returns-in-Err-NoMemory-clause-step : goal.returns-in-Err-NoMemory-clause-step
unfolding most_log_commits
returns-in-Err-NoMemory-clause-step g c = subst (λ y. StepsOn g.S.Store (most_log_commits (Track c.args.disk.now y)) c.args.store.now c.begin.new.store) (sym c.if-on.true) c.begin.ensures.step

pub returns-in-Err-Device-clause-step : goal.returns-in-Err-Device-clause-step
unfolding most_log_commits
returns-in-Err-Device-clause-step g c = subst (λ y. StepsOn g.S.Store (most_log_commits (Track c.args.disk.now y)) c.args.store.now c.begin.new.store) (sym c.if-on.true) c.begin.ensures.step

pub returns-in-Err-NoMemory-clause-session_still : goal.returns-in-Err-NoMemory-clause-session_still
returns-in-Err-NoMemory-clause-session_still g c =
    let p = c.begin.ensures.poor (c.in-Err-NoMemory.is ∙ ap (λ f. Err f) c.in-Err-NoMemory.field-0-is) in between_poor c.args.memory.now c.begin.new.memory p.0 c.in-Err-NoMemory.ensures.kept c.requires.session

pub returns-in-Ok-clause-logs : goal.returns-in-Ok-clause-logs
unfolding logs_after
returns-in-Ok-clause-logs g c = inr (subst (λ y. c.begin.new.memory.logs ≡ logs_after (store_shape g.S.Store c.args.store.now c.args.memory.now) (Track c.args.disk.now y)) (sym c.if-on.true) (ap (λ m. m.logs) c.in-Ok.ensures.memory))

pub returns-in-Ok-clause-refused : goal.returns-in-Ok-clause-refused
unfolding is_accepted
returns-in-Ok-clause-refused g c = λ e. absurd (true≢false e)

pub returns-in-Ok-clause-untouched : goal.returns-in-Ok-clause-untouched
unfolding is_accepted
returns-in-Ok-clause-untouched g c = λ e. absurd (true≢false e)

pub returns-in-Err-NoMemory-clause-spared : goal.returns-in-Err-NoMemory-clause-spared
unfolding takes_memory
returns-in-Err-NoMemory-clause-spared g c = λ e. c.if-on.true

pub returns-in-Ok-clause-taken : goal.returns-in-Ok-clause-taken
returns-in-Ok-clause-taken g c = λ told ready good.
    subst (λ y. StoreSteps g.S.Store (Track c.args.disk.now y) c.args.store.now c.args.memory.now c.begin.new.store c.begin.new.memory (Ok Done)) (sym c.if-on.true)
    (begin_stepped (is_told g.S.Store c.args.store.now c.args.memory.now c.requires.session.orderly c.requires.session.usable told ready (g.met.S.Store.leaves_now c.args.store.now told c.requires.session.usable)) good c.args.disk.now
    (subst (λ y. refusal (store_shape g.S.Store c.args.store.now c.args.memory.now) (Track c.args.disk.now y) ≡ None) c.if-on.true c.requires.allowed)
    (c.begin.ensures.tracked told ready) (c.begin.ensures.numbered told ready) c.begin.ensures.step c.in-Ok.is (c.in-Ok.ensures.lasting told) c.begin.ensures.step.site c.in-Ok.ensures.shape)

pub returns-in-Err-NoMemory-clause-taken : goal.returns-in-Err-NoMemory-clause-taken
returns-in-Err-NoMemory-clause-taken g c = λ told ready good.
    let p = c.begin.ensures.poor (c.in-Err-NoMemory.is ∙ ap (λ f. Err f) c.in-Err-NoMemory.field-0-is) in
    track_poor (is_told g.S.Store c.args.store.now c.args.memory.now c.requires.session.orderly c.requires.session.usable told ready (g.met.S.Store.leaves_now c.args.store.now told c.requires.session.usable)) good c.args.disk.now c.args.on c.requires.allowed
    c.begin.new.memory c.begin.ensures.step p.0 p.1 c.in-Err-NoMemory.ensures.kept

pub returns-in-Err-Device-clause-taken : goal.returns-in-Err-Device-clause-taken
returns-in-Err-Device-clause-taken g c = λ told ready good.
    subst (λ y. StoreSteps g.S.Store (Track c.args.disk.now y) c.args.store.now c.args.memory.now c.begin.new.store c.begin.new.memory (Err _)) (sym c.if-on.true)
    (begin_stopped (is_told g.S.Store c.args.store.now c.args.memory.now c.requires.session.orderly c.requires.session.usable told ready (g.met.S.Store.leaves_now c.args.store.now told c.requires.session.usable)) good c.args.disk.now
    (subst (λ y. refusal (store_shape g.S.Store c.args.store.now c.args.memory.now) (Track c.args.disk.now y) ≡ None) c.if-on.true c.requires.allowed)
    (c.begin.ensures.tracked told ready) (c.begin.ensures.numbered told ready) c.begin.ensures.step _)

-- ---- tracking ends

pub end-requires-clause-tracked : goal.end-requires-clause-tracked
unfolding shape_in
end-requires-clause-tracked g c = log_there (store_shape g.S.Store c.args.store.now c.args.memory.now) c.args.disk.now c.args.on c.if-on.false c.requires.allowed

pub returns-in_err-end-clause-step : goal.returns-in_err-end-clause-step
unfolding most_log_commits
returns-in_err-end-clause-step g c = subst (λ y. StepsOn g.S.Store (most_log_commits (Track c.args.disk.now y)) c.args.store.now c.end.new.store) (sym c.if-on.false) c.end.ensures.step

pub returns-in_err-end-clause-taken : goal.returns-in_err-end-clause-taken
returns-in_err-end-clause-taken g c = λ told ready good.
    let e = err_from_is_err_and c.from_residual.result c.from_residual.ensures.1 in
    subst (λ y. StoreSteps g.S.Store (Track c.args.disk.now y) c.args.store.now c.args.memory.now c.end.new.store c.end.new.memory c.from_residual.result) (sym c.if-on.false)
    (subst (StoreSteps g.S.Store (Track c.args.disk.now false) c.args.store.now c.args.memory.now c.end.new.store c.end.new.memory) (sym e.1)
    (end_stopped (is_told g.S.Store c.args.store.now c.args.memory.now c.requires.session.orderly c.requires.session.usable told ready (g.met.S.Store.leaves_now c.args.store.now told c.requires.session.usable)) good c.args.disk.now
    (subst (λ y. refusal (store_shape g.S.Store c.args.store.now c.args.memory.now) (Track c.args.disk.now y) ≡ None) c.if-on.false c.requires.allowed)
    (c.end.ensures.removed told ready) c.end.ensures.step e.0))

pub returns-in_ok-end-clause-step : goal.returns-in_ok-end-clause-step
unfolding most_log_commits
returns-in_ok-end-clause-step g c = subst (λ y. StepsOn g.S.Store (most_log_commits (Track c.args.disk.now y)) c.args.store.now c.end.new.store) (sym c.if-on.false) c.end.ensures.step

pub returns-in_ok-end-clause-logs : goal.returns-in_ok-end-clause-logs
unfolding logs_after shape_in
returns-in_ok-end-clause-logs g c = inr (subst (λ y. c.end.new.memory.logs ≡ logs_after (store_shape g.S.Store c.args.store.now c.args.memory.now) (Track c.args.disk.now y)) (sym c.if-on.false) (ap (λ m. m.logs) c.in_ok-end.ensures.memory))

pub returns-in_ok-end-clause-refused : goal.returns-in_ok-end-clause-refused
unfolding is_accepted
returns-in_ok-end-clause-refused g c = λ e. absurd (true≢false e)

pub returns-in_ok-end-clause-untouched : goal.returns-in_ok-end-clause-untouched
unfolding is_accepted
returns-in_ok-end-clause-untouched g c = λ e. absurd (true≢false e)

pub returns-in_ok-end-clause-taken : goal.returns-in_ok-end-clause-taken
returns-in_ok-end-clause-taken g c = λ told ready good.
    subst (λ y. StoreSteps g.S.Store (Track c.args.disk.now y) c.args.store.now c.args.memory.now c.end.new.store c.end.new.memory (Ok Done)) (sym c.if-on.false)
    (end_stepped (is_told g.S.Store c.args.store.now c.args.memory.now c.requires.session.orderly c.requires.session.usable told ready (g.met.S.Store.leaves_now c.args.store.now told c.requires.session.usable)) good c.args.disk.now
    (subst (λ y. refusal (store_shape g.S.Store c.args.store.now c.args.memory.now) (Track c.args.disk.now y) ≡ None) c.if-on.false c.requires.allowed)
    (c.end.ensures.removed told ready) c.end.ensures.step c.in_ok-end.was (c.in_ok-end.ensures.lasting told) c.end.ensures.step.site c.in_ok-end.ensures.shape)
