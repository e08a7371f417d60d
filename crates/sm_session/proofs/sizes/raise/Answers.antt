use Rattle.std.proofs.Common.{Err, refl, sym, ap, ◌∙◌, subst}
use Rattle.std.specs.Result.{IsOk}
use Rattle.std.proofs.lemmas.Bool.{lt-ltb, true≢false}
use Rattle.sm_run.specs.Runs.{may_want_memory}
use Rattle.sm_machine.specs.Runs.{is_accepted}
use Rattle.sm_machine.specs.Steps.{reply_to}
use Rattle.sm_machine.specs.declared.commands.Command.TheVariants as command
use Rattle.sm_machine.specs.declared.replies.Reply.TheVariants.{Size}
use Rattle.sm_ready.specs.Known.{shape_in}
use Rattle.sm_ready.proofs.DoesLaws.{does_err, does_ok}
use Rattle.sm_ready.proofs.TakenLaws.{is_told, taken_poor}
use Rattle.sm_session.proofs.CarryLaws.{between_poor}
use Rattle.sm_session.proofs.sizes.raise.Goals as goal

pub returns-in-Ok-clause-refused : goal.returns-in-Ok-clause-refused
unfolding is_accepted
returns-in-Ok-clause-refused g c = λ e. absurd (true≢false e)

pub returns-in-Ok-clause-untouched : goal.returns-in-Ok-clause-untouched
unfolding is_accepted
returns-in-Ok-clause-untouched g c = λ e. absurd (true≢false e)

pub returns-in-Ok-clause-taken : goal.returns-in-Ok-clause-taken
unfolding reply_to shape_in
returns-in-Ok-clause-taken g c = λ told ready.
    does_ok (is_told g.S.Store c.args.store.now c.args.memory.now c.requires.session.orderly c.requires.session.usable told ready (g.met.S.Store.leaves_now c.args.store.now told c.requires.session.usable)) (command.Resize c.args.disk.now c.args.size) c.resize.new.memory c.requires.allowed (c.resize.ensures.done told ready)
    _ (ap Size c.in-Ok.ensures.size) (subst IsOk (sym c.in-Ok.is) refl) c.resize.ensures.step.site c.in-Ok.ensures.shape

pub returns-in-Err-NoMemory-clause-taken : goal.returns-in-Err-NoMemory-clause-taken
returns-in-Err-NoMemory-clause-taken g c = λ told ready. let p = c.resize.ensures.poor (c.in-Err-NoMemory.is ∙ ap (λ f. Err f) c.in-Err-NoMemory.field-0-is) in taken_poor (is_told g.S.Store c.args.store.now c.args.memory.now c.requires.session.orderly c.requires.session.usable told ready (g.met.S.Store.leaves_now c.args.store.now told c.requires.session.usable)) (command.Resize c.args.disk.now c.args.size) c.resize.new.memory p.0 p.1 p.2

pub returns-in-Err-Device-clause-taken : goal.returns-in-Err-Device-clause-taken
returns-in-Err-Device-clause-taken g c = λ told ready. does_err (is_told g.S.Store c.args.store.now c.args.memory.now c.requires.session.orderly c.requires.session.usable told ready (g.met.S.Store.leaves_now c.args.store.now told c.requires.session.usable)) (command.Resize c.args.disk.now c.args.size) c.resize.new.memory c.requires.allowed (c.resize.ensures.done told ready) _

pub returns-in-Err-NoMemory-clause-session_still : goal.returns-in-Err-NoMemory-clause-session_still
returns-in-Err-NoMemory-clause-session_still g c = let p = c.resize.ensures.poor (c.in-Err-NoMemory.is ∙ ap (λ f. Err f) c.in-Err-NoMemory.field-0-is) in between_poor c.args.memory.now c.resize.new.memory p.0 p.2 c.requires.session

pub returns-in-Err-NoMemory-clause-spared : goal.returns-in-Err-NoMemory-clause-spared
unfolding may_want_memory
returns-in-Err-NoMemory-clause-spared g c = λ _. lt-ltb 0 _ (c.resize.ensures.wants (c.in-Err-NoMemory.is ∙ ap (λ f. Err f) c.in-Err-NoMemory.field-0-is))
