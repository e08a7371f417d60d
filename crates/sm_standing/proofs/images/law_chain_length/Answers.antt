use Rattle.std.proofs.Common.{suc, ap, ◌∙◌}
use Rattle.sm_standing.proofs.WalkLaws.{depth_top, depth_up, length_none, length_top, length_up}
use Rattle.sm_standing.proofs.images.law_chain_length.Goals as goal

pub returns-clause-top : goal.returns-clause-top
returns-clause-top c = depth_top

pub returns-clause-up : goal.returns-clause-up
returns-clause-up c = depth_up

pub returns-clause-none : goal.returns-clause-none
returns-clause-none c = length_none

pub returns-clause-one : goal.returns-clause-one
returns-clause-one c = length_top

pub returns-clause-more : goal.returns-clause-more
returns-clause-more c = length_up

pub returns-clause-missing : goal.returns-clause-missing
returns-clause-missing c = λ content k n p i is above gone. length_up content k n p i is above ∙ ap (λ m. suc m) (length_none content k p gone)
