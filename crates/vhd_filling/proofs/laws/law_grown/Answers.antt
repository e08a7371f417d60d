use Rattle.vhd_filling.proofs.GrownLaws.{law_grown}
use Rattle.vhd_filling.proofs.laws.law_grown.Goals as goal

pub returns : goal.returns
returns g c = λ f more after commits allowed room fills. law_grown g.S.Store f more commits allowed room fills
