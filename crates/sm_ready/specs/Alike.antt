-- What a stop leaves of a ready store, beside what a read gives.
use Rattle.std.specs.Prelude.{◌≡◌, ℕ, false, List}
use Rattle.sm_base.specs.declared.names.Name.{Name}
use Rattle.sm_machine.specs.Shapes.{Shape}
use Rattle.sm_standing.specs.Contents.{Content, record_of}
use Rattle.sm_standing.specs.Images.{image_of}
use Rattle.sm_standing.specs.Outlines.{outline}
use Rattle.sm_ready.specs.Ready.{is_written_in}

-- only own images of disks attached for writing hold otherwise
pub record IsAlike (σ : Shape) (c d : Content) : Type 0 where
  pub outline : outline d ≡ outline c
  pub images : (n : Name) → is_written_in σ n ≡ false → image_of d n ≡ image_of c n
  pub records : (u : List ℕ) → record_of d u ≡ record_of c u
