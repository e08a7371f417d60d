use Rattle.lvhd_command.proofs.opening.into_disk.Goals as goal

pub returns-clause-leaves : goal.returns-clause-leaves
returns-clause-leaves g c = let leaves = rw c.into_inner.ensures at c.into_disk.ensures.leaves in leaves
