use Rattle.std.proofs.Common.{◌≡◌, Bool, true, false, List, ℕ, Err, refl, sym, ap, ◌∙◌}
use Rattle.std.proofs.lemmas.Bool.{true≢false}
use Rattle.sm_machine.specs.Disks.{Disk}
use Rattle.sm_machine.specs.Runs.{is_accepted}
use Rattle.sm_machine.specs.Shapes.{Shape}
use Rattle.sm_machine.specs.Steps.{reply_to}
use Rattle.sm_machine.specs.declared.replies.Reply.TheVariants.{Done}
use Rattle.sm_clone.specs.Forking.{forking}
use Rattle.sm_ready.specs.Sessions.{store_state}
use Rattle.sm_ready.proofs.DoesLaws.{does_err, does_ok}
use Rattle.sm_ready.proofs.TakenLaws.{is_told, taken_poor}
use Rattle.sm_session.proofs.CarryLaws.{between_poor}
use Rattle.sm_session.proofs.forks.derive.Goals as goal

pub returns-in-Ok-clause-refused : goal.returns-in-Ok-clause-refused
unfolding is_accepted
returns-in-Ok-clause-refused g c = λ e. absurd (true≢false e)

pub returns-in-Ok-clause-untouched : goal.returns-in-Ok-clause-untouched
unfolding is_accepted
returns-in-Ok-clause-untouched g c = λ e. absurd (true≢false e)

-- the reply of either command
replied : (ds : List Disk) (σ : Shape) (u twin : List ℕ) (read_only : Bool) → reply_to ds σ (forking u twin read_only) ≡ Done
unfolding reply_to
replied ds σ u twin true = refl
replied ds σ u twin false = refl

pub returns-in-Ok-clause-taken : goal.returns-in-Ok-clause-taken
returns-in-Ok-clause-taken g c = λ told ready.
    does_ok (is_told g.S.Store c.args.store.now c.args.memory.now c.requires.session.orderly c.requires.session.usable told ready (g.met.S.Store.leaves_now c.args.store.now told c.requires.session.usable)) (forking c.args.disk.now c.args.twin.now c.args.read_only) c.fork.new.memory c.requires.allowed (c.fork.ensures.done told ready)
    _ (sym (replied (store_state g.S.Store c.args.store.now c.args.memory.now).disks (store_state g.S.Store c.args.store.now c.args.memory.now).shape c.args.disk.now c.args.twin.now c.args.read_only)) c.in-Ok.is c.fork.ensures.step.site c.in-Ok.ensures.shape

pub returns-in-Err-NoMemory-clause-taken : goal.returns-in-Err-NoMemory-clause-taken
returns-in-Err-NoMemory-clause-taken g c = λ told ready. let p = c.fork.ensures.poor (c.in-Err-NoMemory.is ∙ ap (λ f. Err f) c.in-Err-NoMemory.field-0-is) in taken_poor (is_told g.S.Store c.args.store.now c.args.memory.now c.requires.session.orderly c.requires.session.usable told ready (g.met.S.Store.leaves_now c.args.store.now told c.requires.session.usable)) (forking c.args.disk.now c.args.twin.now c.args.read_only) c.fork.new.memory p.0 p.1 p.2

pub returns-in-Err-Device-clause-taken : goal.returns-in-Err-Device-clause-taken
returns-in-Err-Device-clause-taken g c = λ told ready. does_err (is_told g.S.Store c.args.store.now c.args.memory.now c.requires.session.orderly c.requires.session.usable told ready (g.met.S.Store.leaves_now c.args.store.now told c.requires.session.usable)) (forking c.args.disk.now c.args.twin.now c.args.read_only) c.fork.new.memory c.requires.allowed (c.fork.ensures.done told ready) _

pub returns-in-Err-NoMemory-clause-session_still : goal.returns-in-Err-NoMemory-clause-session_still
returns-in-Err-NoMemory-clause-session_still g c = let p = c.fork.ensures.poor (c.in-Err-NoMemory.is ∙ ap (λ f. Err f) c.in-Err-NoMemory.field-0-is) in between_poor c.args.memory.now c.fork.new.memory p.0 p.2 c.requires.session
