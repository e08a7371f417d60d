use Rattle.sm_disk.specs.Failing.{fails}
use Rattle.sm_disk.proofs.failing.Failing.fails_now.Goals as goal

pub returns : goal.returns
unfolding fails
returns c = rw (← c.self.view_is, c.is_due.ensures, c.contains.ensures.value, c.deref.ensures.value)
