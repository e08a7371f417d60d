use Rattle.lvhd_command.proofs.TruthLaws.{truthful_untracked}
use Rattle.lvhd_command.proofs.laws.law_untracked.Goals as goal

pub returns : goal.returns
returns c = λ size h none image allowed g on. truthful_untracked _ (none image g allowed on)
