-- one log fewer may be met
use Rattle.sm_logs.proofs.walks.+united.Given as goal

abbrev pub decreases-united : goal.decreases-united
decreases-united l = l.most
