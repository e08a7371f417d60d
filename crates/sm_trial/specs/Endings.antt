-- What is counted of the machine where a trial has ended.
use Rattle.std.specs.Prelude.{◌≡◌, length}
use Rattle.sm_machine.specs.declared.commands.Command.TheVariants.{List as Listing, Stat}
use Rattle.sm_machine.specs.Shapes.{free}
use Rattle.sm_machine.specs.Steps.{State}
use Rattle.sm_machine.specs.Tracking.{tracked_step}
use Rattle.sm_trial.specs.declared.endings.Ending.{Ending}

-- so many disks, images and free extents, and the state behind the lines that told them, which change nothing
pub record HasCounted (σ σ' : State) (e : Ending) : Type 0 where
  pub disks : e.disks ≡ length σ.disks
  pub images : e.images ≡ length σ.shape.images
  pub free_extents : e.free ≡ free σ.shape
  pub state : σ' ≡ (tracked_step ((tracked_step σ Listing).after) Stat).after
