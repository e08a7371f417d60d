-- What copying the sectors that an image holds in one block into another image asks of a store, and what it leaves (this project's format).
use Rattle.std.specs.Prelude.{◌≡◌, ◌⊎◌, ℕ, ◌+◌, ◌*◌, ◌<◌, ◌≤◌, false, if◌then◌else◌, List, Option, None, Some}
use Rattle.sm_base.specs.declared.sizes.Geometry.{Geometry}
use Rattle.sm_disk.specs.Held.{Held, May, reads}
use Rattle.sm_disk.specs.Sectors.{sector}
use Rattle.vhd_map.specs.Bitmaps.{is_set}
use Rattle.vg_volumes.specs.Stored.{stored, sectors_in, held_in, WorksOn}
use Rattle.vg_volumes.specs.declared.stores.Store.{Ghosts}
use Rattle.vhd_volumes.specs.Steps.{Does, Holds}
use Rattle.vhd_volumes.specs.Truth.{layout_in}
use Rattle.vhd_volumes.specs.Writes.{IsGuarded}
use Rattle.vhd_image.specs.Bodies.{ImageIsTrue, ImageStands, StandsIn, TrueIn, own_of, sector_count, volume_name}
use Rattle.vhd_image.specs.Steady.{AreApart}
use Rattle.vhd_image.specs.Written.{HasRoomForBlock, MayHaveGrown, MayHaveSlot}
use Rattle.vhd_image.specs.declared.images.Body.{Body}
use Rattle.vhd_image.specs.declared.images.Body.TheVariants.{Raw, Vhd}
use Rattle.vhd_chain.specs.Reading.{own_read}

-- Of so many sectors from `base` on those are marked that an image holds, each with its bytes at its place among those of all. `own` is
-- what the image holds.
abbrev pub AreGathered : (ℕ → Option (List ℕ)) → ℕ → List ℕ → List ℕ → ℕ → Type 0
AreGathered own base marks bytes count = (i : ℕ) → i < count → own (base + i) ≡ (if is_set marks i then Some (sector bytes i) else None)

-- from one sector on none is marked
abbrev pub AreUnmarkedFrom : ℕ → List ℕ → Type 0
AreUnmarkedFrom from marks = (i : ℕ) → from ≤ i → is_set marks i ≡ false

-- what a stop leaves of an image's sectors: of each what it could leave before, or what another image holds of it
abbrev pub IsMaskedBy : Geometry → ℕ → Body → (ℕ → Option (List ℕ)) → Held → Held → Type 0
IsMaskedBy g sectors (Raw volume size) own old new = (p : ℕ) (v : List ℕ) → May new p v → May old p v ⊎ (own p ≡ Some v)
IsMaskedBy g sectors (Vhd head m) own old new = IsGuarded (layout_in g head.footer sectors) (λ s bytes. own s ≡ Some bytes) old new

-- both images stand and are true, the other's volume is apart, it is as large, and the block is one of it and has room for a slot
pub record CanCopy {S : Type 0} (g : Ghosts S) (child parent : Body) (block : ℕ) (s : S) : Type 0 where
  pub child_stands : ImageStands (stored g s) child
  pub child_true : g.told → ImageIsTrue (stored g s) child
  pub stands : ImageStands (stored g s) parent
  pub is_true : g.told → ImageIsTrue (stored g s) parent
  pub apart : AreApart (stored g s) (volume_name child) (volume_name parent)
  pub size : sector_count parent ≡ sector_count child
  pub within : block * (g.site s).geometry.block + (g.site s).geometry.block ≤ sector_count child
  pub room : HasRoomForBlock (g.site s).geometry (sectors_in (stored g s) (volume_name parent)) block parent

-- at any moment: the parent's volume alone was worked on
pub record Copies {S : Type 0} (g : Ghosts S) (child old new : Body) (a b : S) : Type 0 where
  pub works : WorksOn g (volume_name old) a b
  pub masked : Does g (volume_name old) (IsMaskedBy (g.site a).geometry (sectors_in (stored g a) (volume_name old)) old (own_read (stored g a) child)) a b
  pub grown : MayHaveGrown old new

-- what the parent holds, as its volume is read
abbrev pub own_held : {S : Type 0} → Ghosts S → Body → S → S → ℕ → Option (List ℕ)
own_held g body a b k = own_of (g.site a).geometry (sectors_in (stored g a) (volume_name body)) body (reads (held_in (stored g b) (volume_name body))) k

-- so many sectors were copied, from this one on
pub record HasCopied {S : Type 0} (g : Ghosts S) (child : Body) (block at count : ℕ) (old new : Body) (a b : S) : Type 0 where
  pub slot : MayHaveSlot block old new
  pub stands : StandsIn (g.site a).geometry (sectors_in (stored g a) (volume_name old)) new
  pub is_true : Holds g (volume_name old) (λ h. TrueIn (g.site a).geometry (sectors_in (stored g a) (volume_name old)) h new) b
  pub copied : g.told → (k : ℕ) (bytes : List ℕ) → at ≤ k → k < at + count → own_read (stored g a) child k ≡ Some bytes → own_held g old a b k ≡ Some bytes
  pub kept : g.told → (k : ℕ) (bytes : List ℕ) → own_read (stored g a) child k ≡ Some bytes → own_held g old a a k ≡ Some bytes → own_held g old a b k ≡ Some bytes
