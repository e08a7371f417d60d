use Rattle.std.proofs.Common.{refl}
use Rattle.examples_vhd.proofs.raw.Goals as goal

pub returns-clause-parent : goal.returns-clause-parent
returns-clause-parent c = λ v. refl

pub returns-clause-last : goal.returns-clause-last
returns-clause-last c = λ v. refl

pub returns-clause-behind : goal.returns-clause-behind
returns-clause-behind c = λ v. refl
