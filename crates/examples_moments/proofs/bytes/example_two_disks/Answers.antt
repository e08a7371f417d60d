use Rattle.sm_base.specs.declared.names.Name.TheVariants.{Vhd}
use Rattle.examples_moments.specs.Moments.{top, filled, child}
use Rattle.examples_moments.specs.Worked.{first, second, base}
use Rattle.examples_moments.proofs.WorkedDisks.{two_disks_shown, two_disks_image, pair_base, pair_first, pair_second}
use Rattle.examples_moments.proofs.WorkedSound.{two_disks_sound}
use Rattle.examples_moments.proofs.bytes.example_two_disks.Goals as goal

pub returns : goal.returns
returns c = record {
  base = two_disks_image (Vhd base) (top 17) pair_base;
  disk = two_disks_image (Vhd first) (filled 34) pair_first;
  twin = two_disks_image (Vhd second) child pair_second;
  disks = two_disks_shown;
  sound = two_disks_sound;
}
