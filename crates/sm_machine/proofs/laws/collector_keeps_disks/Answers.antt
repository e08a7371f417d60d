use Rattle.sm_machine.proofs.Together.{collector_keeps}
use Rattle.sm_machine.proofs.laws.collector_keeps_disks.Goals as goal

pub returns : goal.returns
returns c = record { disks = collector_keeps }
