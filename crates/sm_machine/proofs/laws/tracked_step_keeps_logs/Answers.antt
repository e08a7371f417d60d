use Rattle.sm_machine.proofs.TrackedLogs.{tracked_step_keeps_logs}
use Rattle.sm_machine.proofs.TrackedSnapshots.{tracked_step_keeps_snapshots}
use Rattle.sm_machine.proofs.laws.tracked_step_keeps_logs.Goals as goal

pub returns : goal.returns
returns c = record { logs = tracked_step_keeps_logs; snapshots = tracked_step_keeps_snapshots }
