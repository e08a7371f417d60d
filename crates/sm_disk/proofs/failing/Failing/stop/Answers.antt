use Rattle.sm_disk.proofs.FailingLaws.{stops_from_sooner}
use Rattle.sm_disk.proofs.failing.Failing.stop.Goals as goal

pub returns : goal.returns
returns c = rw c.sooner.ensures (rw (← c.self.view_is) (stops_from_sooner _ c.args.call))
