use Rattle.sm_machine.proofs.BegunLogs.{begun_logs, begun_snapshots, ended_logs, ended_snapshots}
use Rattle.sm_machine.proofs.Tracked.{begun_shape, ended_shape, untracked_good}
use Rattle.sm_machine.proofs.Tracks.{begun_step, ended_step}
use Rattle.sm_machine.proofs.TrackedTruth.{begun_tells, ended_tells}
use Rattle.sm_machine.proofs.laws.tracking_keeps.Goals as goal

pub returns : goal.returns
returns c = record {
  begins = record { shape = begun_shape; logs = λ s u w g recorded none. begun_logs s w g u recorded none; snapshots = begun_snapshots; tells = begun_tells; step = begun_step };
  ends = record { shape = ended_shape; logs = λ s u w g. ended_logs s w g u; snapshots = ended_snapshots; tells = ended_tells; step = ended_step };
  none = untracked_good;
}
