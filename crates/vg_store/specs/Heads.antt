-- The header of a text, and a buffer that begins with the text.
use Rattle.std.specs.Prelude.{◌≡◌, ℕ, ◌^◌, ◌<◌, List, length, take, sum}
use Rattle.vg_meta.specs.Tables.{VolumeTable}
use Rattle.vg_meta.specs.Text.{text}
use Rattle.vg_layout.specs.Sectors.{Pointer}

-- the pointer is that of a table's text, and the buffer begins with it
pub record IsPointerOf (t : VolumeTable) (at : Pointer) (buffer : List ℕ) : Type 0 where
  pub size : at.size ≡ length (text t)
  pub total : at.total ≡ sum (text t)
  pub total_fits : at.total < 2 ^ 32
  pub begins : take at.size buffer ≡ text t
