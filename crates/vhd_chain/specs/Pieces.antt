-- Pieces of a read through a chain: sectors that one image holds, or none.
use Rattle.std.specs.Prelude.{◌≡◌, ℕ, ◌+◌, ◌*◌, ◌<◌, ◌≤◌, nat_lt, if◌then◌else◌, List, length, Option, Some, None}
use Rattle.common_laws.specs.Lists.{◌>>=◌}
use Rattle.sm_base.specs.declared.names.Name.{Name}
use Rattle.sm_disk.specs.Sectors.{sector, zeros}
use Rattle.vg_volumes.specs.Stored.{Stored}
use Rattle.vhd_image.specs.Bodies.{sector_count, ImageStands, ImageIsTrue}
use Rattle.vhd_image.specs.Runs.{AreInRow, AreHeld, HoldsBytes}
use Rattle.vhd_image.specs.declared.images.Body.{Body}
use Rattle.vhd_chain.specs.Reading.{own_read}
use Rattle.vhd_chain.specs.Trees.{tree_row}
use Rattle.vhd_chain.specs.declared.rows.TreeRow.{TreeRow}

-- the image of this name, where it reaches past this sector
abbrev pub reaching : List TreeRow → Name → ℕ → Option Body
reaching rows n s = tree_row rows n >>= (λ r. if nat_lt s (sector_count r.image) then Some r.image else None)

-- The image holds each of so many sectors from this one on, and they stand in a row in its volume.
pub record HoldsAll (told : Type 0) (x : Stored) (at count : ℕ) (body : Body) : Type 0 where
  pub stands : ImageStands x body
  pub true_now : told → ImageIsTrue x body
  pub within : at + count ≤ sector_count body
  pub in_row : AreInRow x.site.geometry.block at count body
  pub held : told → AreHeld (own_read x body) at count

-- each of so many sectors from this one on is what `f` says: of an image what it holds, without one zeros
abbrev pub IsPiece : Stored → (ℕ → List ℕ) → ℕ → ℕ → Option Body → Type 0
IsPiece x f at count None = (k : ℕ) → k < count → f (at + k) ≡ zeros
IsPiece x f at count (Some body) = (k : ℕ) → k < count → own_read x body (at + k) ≡ Some (f (at + k))

-- these bytes are the sectors from this one on: those that an image holds, without one zeros
abbrev pub AreFilled : Stored → Option Body → ℕ → List ℕ → Type 0
AreFilled x None at bytes = (k : ℕ) → 512 * k < length bytes → sector bytes k ≡ zeros
AreFilled x (Some body) at bytes = HoldsBytes (own_read x body) at bytes
