use Rattle.std.proofs.Common.{ap, ◌∙◌}
use Rattle.sm_machine.specs.Operations.{told}
use Rattle.sm_operation.proofs.CountLaws.{told_seen}
use Rattle.sm_operation.proofs.operations.Operation.told.Goals as goal

pub returns : goal.returns
returns c = told_seen c.self.inside.op _ c.self.inside.dirty.items c.self.invariant ∙ ap told c.self.view_is
