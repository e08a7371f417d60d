use Rattle.vhd_filling.proofs.EndLaws.{law_steady}
use Rattle.vhd_filling.proofs.laws.law_steady.Goals as goal

pub returns : goal.returns
returns c = law_steady
