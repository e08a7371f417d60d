use Rattle.std.proofs.Common.{refl, sym, ◌∙◌}
use Rattle.sm_machine.specs.Refusals.{is_taken}
use Rattle.sm_ready.specs.Known.{known}
use Rattle.sm_ready.proofs.CauseLaws.{taken_is}
use Rattle.sm_refusals.proofs.causes.is_taken.Goals as goal

pub returns-in-Some : goal.returns-in-Some
returns-in-Some c = λ s t o tidy. c.has_image.ensures ∙ sym (taken_is s t (known c.args.memory.now) c.args.command.now c.in-Some.disk o (sym c.new_uuid.ensures ∙ c.in-Some.is))

pub returns-in-None : goal.returns-in-None
unfolding is_taken
returns-in-None c = λ s t o tidy. rw (sym c.new_uuid.ensures ∙ c.in-None.is) refl
