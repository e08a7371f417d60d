use Rattle.sm_machine.proofs.New.{new_disks, new_well_formed}
use Rattle.sm_machine.proofs.laws.new_shape_is_well_formed.Goals as goal

pub returns : goal.returns
returns c = record { new = new_well_formed; disks = new_disks }
