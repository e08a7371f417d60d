use Rattle.std.proofs.Common.{◌∙◌, arith}
use Rattle.sm_operation.specs.Kept.{dirty_in}
use Rattle.gc_plan.proofs.PlanLaws.{clean_few, clean_many}
use Rattle.gc_plan.proofs.planning.clean_or.Goals as goal

pub returns-then-count-le-DIRTY_LIMIT : goal.returns-then-count-le-DIRTY_LIMIT
returns-then-count-le-DIRTY_LIMIT c = clean_few (dirty_in c.args.operation.now) (omega (arith, c.requires, c.if-count-le-DIRTY_LIMIT.true))

pub returns : goal.returns
returns c = c.copy_or.ensures ∙ clean_many (dirty_in c.args.operation.now) c.least_dirty.result (omega (arith, c.requires, c.if-count-le-DIRTY_LIMIT.false)) c.least_dirty.ensures
