use Rattle.std.proofs.Common.{arith, ◌≡◌, true, IfOk, Err, inr, refl, sym, ap, ap₂, ◌∙◌, subst}
use Rattle.std.proofs.lemmas.Bool.{true≢false}
use Rattle.std.proofs.lemmas.Result.{err_from_is_err_and}
use Rattle.sm_machine.specs.Collector.{IsLess, debt}
use Rattle.sm_machine.specs.Laws.{is_working}
use Rattle.sm_machine.specs.Runs.{is_accepted, is_settling}
use Rattle.sm_machine.specs.Steps.{reply_to}
use Rattle.sm_machine.specs.declared.commands.Command.TheVariants.{Gc}
use Rattle.sm_machine.specs.declared.replies.Reply.TheVariants as reply
use Rattle.sm_ready.specs.Does.{store_shape}
use Rattle.sm_ready.specs.Known.{shape_in}
use Rattle.sm_ready.specs.Sessions.{store_state}
use Rattle.sm_ready.specs.Taken.{StoreTakes}
use Rattle.sm_ready.proofs.DoesLaws.{does_err, does_ok}
use Rattle.sm_ready.proofs.TakenLaws.{is_told, taken_answered, taken_poor}
use Rattle.sm_ready.proofs.FramingLaws.{more_steps}
use Rattle.sm_session.proofs.CarryLaws.{between_poor, steps_none}
use Rattle.sm_session.proofs.CollectLaws.{gc_lowers, gc_reply, gc_rests, never_refused, others_spare, others_work, rests, starts}
use Rattle.sm_session.proofs.collecting.collect.Goals as goal

pub work-requires-clause-working : goal.work-requires-clause-working
work-requires-clause-working g c = others_work c.args.plan c.in_default.not-Blocked c.in_default.not-Idle

pub work-requires-clause-no_begin : goal.work-requires-clause-no_begin
work-requires-clause-no_begin g c = others_spare c.args.plan c.in_default.not-Begin c.in_default.not-Leaf c.in_default.not-Live

pub returns-in_err-work-in_default-clause-lowered : goal.returns-in_err-work-in_default-clause-lowered
returns-in_err-work-in_default-clause-lowered g c =
    let e = err_from_is_err_and c.from_residual.result c.from_residual.ensures.1 in
    let was = debt (store_shape g.S.Store c.args.store.now c.args.memory.now) in
    let is = debt (store_shape g.S.Store c.work.new.store c.work.new.memory) in
    subst (λ r. IfOk r (λ k. is_accepted k ≡ true → is_working c.args.plan ≡ true → ∥ IsLess is was ∥₁)) (sym e.1) tt

pub returns-in_err-work-in_default-clause-taken : goal.returns-in_err-work-in_default-clause-taken
returns-in_err-work-in_default-clause-taken g c = λ told ready.
    let e = err_from_is_err_and c.from_residual.result c.from_residual.ensures.1 in
    let here = is_told g.S.Store c.args.store.now c.args.memory.now c.requires.session.orderly c.requires.session.usable told ready (g.met.S.Store.leaves_now c.args.store.now told c.requires.session.usable) in
    subst (λ r. StoreTakes g.S.Store Gc c.args.store.now c.args.memory.now c.work.new.store c.work.new.memory r) (sym e.1)
    (does_err here Gc c.work.new.memory (never_refused (store_shape g.S.Store c.args.store.now c.args.memory.now)) (c.work.ensures.done told ready) e.0)

pub returns-in_ok-work-in_default-clause-refused : goal.returns-in_ok-work-in_default-clause-refused
unfolding is_accepted
returns-in_ok-work-in_default-clause-refused g c = λ e. absurd (true≢false e)

pub returns-in_ok-work-in_default-clause-untouched : goal.returns-in_ok-work-in_default-clause-untouched
unfolding is_accepted
returns-in_ok-work-in_default-clause-untouched g c = λ e. absurd (true≢false e)

pub returns-in_ok-work-in_default-clause-lowered : goal.returns-in_ok-work-in_default-clause-lowered
returns-in_ok-work-in_default-clause-lowered g c = λ yes working. c.in_ok-work-in_default.ensures.lowered

pub returns-in_ok-work-in_default-clause-taken : goal.returns-in_ok-work-in_default-clause-taken
unfolding reply_to shape_in
returns-in_ok-work-in_default-clause-taken g c = λ told ready.
    let here = is_told g.S.Store c.args.store.now c.args.memory.now c.requires.session.orderly c.requires.session.usable told ready (g.met.S.Store.leaves_now c.args.store.now told c.requires.session.usable) in
    let replied = ap₂ (λ q o. reply.Gc q o) (sym c.requires.planned) c.told-operation.ensures in
    does_ok here Gc c.work.new.memory (never_refused (store_shape g.S.Store c.args.store.now c.args.memory.now)) (c.work.ensures.done told ready)
    _ replied c.in_ok-work-in_default.was c.work.ensures.step.site (c.in_ok-work-in_default.ensures.shape told ready)

pub start-requires-clause-working : goal.start-requires-clause-working
start-requires-clause-working g c = starts c.args.plan c.in-Begin.is

pub returns-in-Ok-clause-refused : goal.returns-in-Ok-clause-refused
unfolding is_accepted
returns-in-Ok-clause-refused g c = λ e. absurd (true≢false e)

pub returns-in-Ok-clause-untouched : goal.returns-in-Ok-clause-untouched
unfolding is_accepted
returns-in-Ok-clause-untouched g c = λ e. absurd (true≢false e)

pub returns-in-Ok-clause-lowered : goal.returns-in-Ok-clause-lowered
returns-in-Ok-clause-lowered g c = λ yes working.
    gc_lowers (store_shape g.S.Store c.args.store.now c.args.memory.now) _ c.requires.session.orderly.well_formed c.in-Ok.ensures.shape (ap is_working c.requires.planned ∙ working)

pub returns-in-Ok-clause-taken : goal.returns-in-Ok-clause-taken
unfolding reply_to shape_in
returns-in-Ok-clause-taken g c = λ told ready.
    let here = is_told g.S.Store c.args.store.now c.args.memory.now c.requires.session.orderly c.requires.session.usable told ready (g.met.S.Store.leaves_now c.args.store.now told c.requires.session.usable) in
    let replied = ap₂ (λ q o. reply.Gc q o) (sym c.requires.planned) c.told-operation.ensures in
    does_ok here Gc c.start.new.memory (never_refused (store_shape g.S.Store c.args.store.now c.args.memory.now)) (c.start.ensures.done told ready)
    _ replied c.in-Ok.is c.start.ensures.step.site c.in-Ok.ensures.shape

pub returns-in-Err-NoMemory-clause-spared : goal.returns-in-Err-NoMemory-clause-spared
returns-in-Err-NoMemory-clause-spared g c = λ poor. starts c.args.plan c.in-Begin.is

pub returns-in-Err-NoMemory-clause-lowered : goal.returns-in-Err-NoMemory-clause-lowered
unfolding is_accepted
returns-in-Err-NoMemory-clause-lowered g c = λ yes. absurd (true≢false (sym yes))

pub returns-in-Err-NoMemory-clause-taken : goal.returns-in-Err-NoMemory-clause-taken
returns-in-Err-NoMemory-clause-taken g c = λ told ready.
    let p = c.start.ensures.poor (c.in-Err-NoMemory.is ∙ ap (λ f. Err f) c.in-Err-NoMemory.field-0-is) in
    let here = is_told g.S.Store c.args.store.now c.args.memory.now c.requires.session.orderly c.requires.session.usable told ready (g.met.S.Store.leaves_now c.args.store.now told c.requires.session.usable) in
    taken_poor here Gc c.start.new.memory p.0 p.1 p.2

pub returns-in-Err-Device-clause-taken : goal.returns-in-Err-Device-clause-taken
returns-in-Err-Device-clause-taken g c = λ told ready.
    let here = is_told g.S.Store c.args.store.now c.args.memory.now c.requires.session.orderly c.requires.session.usable told ready (g.met.S.Store.leaves_now c.args.store.now told c.requires.session.usable) in
    does_err here Gc c.start.new.memory (never_refused (store_shape g.S.Store c.args.store.now c.args.memory.now)) (c.start.ensures.done told ready) _

pub returns-in-Blocked-clause-taken : goal.returns-in-Blocked-clause-taken
unfolding is_settling reply_to shape_in
returns-in-Blocked-clause-taken g c = λ told ready.
    let σ = store_state g.S.Store c.args.store.now c.args.memory.now in
    let replied = ap₂ (λ q o. reply.Gc q o) (sym c.requires.planned) c.told-operation.ensures in
    let still = gc_rests σ c.requires.session.orderly.table.sequence (ap is_working c.requires.planned ∙ rests c.args.plan c.in-Blocked.is) in
    let here = is_told g.S.Store c.args.store.now c.args.memory.now c.requires.session.orderly c.requires.session.usable told ready (g.met.S.Store.leaves_now c.args.store.now told c.requires.session.usable) in
    taken_answered here Gc (inr (replied ∙ sym (gc_reply σ))) still refl

pub returns-in-Ok-clause-step : goal.returns-in-Ok-clause-step
returns-in-Ok-clause-step g c = more_steps (omega arith) c.start.ensures.step

pub returns-in-Err-NoMemory-clause-step : goal.returns-in-Err-NoMemory-clause-step
returns-in-Err-NoMemory-clause-step g c = more_steps (omega arith) c.start.ensures.step

pub returns-in-Err-Device-clause-step : goal.returns-in-Err-Device-clause-step
returns-in-Err-Device-clause-step g c = more_steps (omega arith) c.start.ensures.step

pub returns-in-Err-NoMemory-clause-session_still : goal.returns-in-Err-NoMemory-clause-session_still
returns-in-Err-NoMemory-clause-session_still g c = let p = c.start.ensures.poor (c.in-Err-NoMemory.is ∙ ap (λ f. Err f) c.in-Err-NoMemory.field-0-is) in between_poor c.args.memory.now c.start.new.memory p.0 p.2 c.requires.session

pub returns-in-Blocked-clause-step : goal.returns-in-Blocked-clause-step
returns-in-Blocked-clause-step g c = steps_none g.S.Store 5 c.args.store.now (λ told usable t image. g.met.S.Store.leaves_now c.args.store.now told usable t image) c.requires.session.usable
