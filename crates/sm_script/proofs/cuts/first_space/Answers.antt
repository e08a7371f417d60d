use Rattle.sm_script.proofs.CutLaws.{position-from_first}
use Rattle.sm_script.proofs.cuts.first_space.Goals as goal

pub returns : goal.returns
returns c = position-from_first c.args.line.now c.memchr.result c.memchr.ensures
