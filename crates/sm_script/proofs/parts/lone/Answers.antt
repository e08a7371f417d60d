use Rattle.sm_script.proofs.PartLaws.{alone-none, alone-some}
use Rattle.sm_script.proofs.parts.lone.Goals as goal

pub returns-then-is_some : goal.returns-then-is_some
returns-then-is_some c = alone-some c.args.command c.args.rest c.if-is_some.ensures

pub returns : goal.returns
returns c = alone-none c.args.command c.args.rest c.if-is_some.ensures
