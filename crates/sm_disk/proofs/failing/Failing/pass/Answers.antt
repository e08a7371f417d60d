use Rattle.std.proofs.Common.{sym}
use Rattle.sm_disk.proofs.FailingLaws.{passes, late_first}
use Rattle.sm_disk.proofs.failing.Failing.pass.Goals as goal

pub returns-clause-late : goal.returns-clause-late
returns-clause-late c = rw (← c.self.view_is) (sym (late_first _))

pub returns-clause-passed : goal.returns-clause-passed
returns-clause-passed c = rw (c.pass_by.ensures, c.count_down-self-inside.ensures, c.is_due.ensures, ← c.self.view_is) (passes _)
