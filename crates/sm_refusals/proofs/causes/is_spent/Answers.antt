use Rattle.std.proofs.Common.{◌^◌, ◌-◌, ap, ◌∙◌}
use Rattle.std.specs.Prelude.{is_some, nat_le}
use Rattle.sm_machine.specs.Refusals.{is_spent}
use Rattle.sm_ready.specs.Known.{shape_in}
use Rattle.sm_refusals.proofs.TurnLaws.{and_first, and_rest}
use Rattle.sm_refusals.proofs.causes.is_spent.Goals as goal

pub returns-then-is_some : goal.returns-then-is_some
unfolding is_spent shape_in
returns-then-is_some c = λ s m. and_rest _ _ _ _ c.if-is_some.true (c.is_some.ensures ∙ ap is_some c.new_uuid.ensures) (ap (nat_le (2 ^ 48 - 16)) c.seq.ensures.seq)

pub returns-else-is_some : goal.returns-else-is_some
unfolding is_spent shape_in
returns-else-is_some c = λ s m. and_first _ _ _ c.if-is_some.false (c.is_some.ensures ∙ ap is_some c.new_uuid.ensures)
