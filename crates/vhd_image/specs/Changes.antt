-- What a change of an image's head may leave of it at any moment.
use Rattle.std.specs.Prelude.{◌≡◌, ℕ, ◌*◌, ◌<◌, ◌⊎◌, List, Option, Some}
use Rattle.sm_base.specs.declared.names.Name.{Name}
use Rattle.sm_base.specs.declared.sizes.Geometry.{Geometry}
use Rattle.sm_disk.specs.Held.{Held, Allows}
use Rattle.vhd_layout.specs.Layouts.{Sectors, Layout, entry, entries_in_sectors}
use Rattle.vhd_layout.specs.Images.{IsValid, EachSlotHolds}
use Rattle.vhd_layout.specs.Contents.{size_at, parent_at}
use Rattle.vhd_volumes.specs.declared.heads.Head.{Head}
use Rattle.vhd_volumes.specs.Truth.{IsTrueIn, layout_in}
use Rattle.vhd_volumes.specs.Writes.{own_in}
use Rattle.vhd_image.specs.Made.{linked}
use Rattle.vhd_image.specs.Opened.{ReadsAsImage}
use Rattle.vhd_image.specs.declared.images.Body.{Body}
use Rattle.vhd_image.specs.declared.images.Body.TheVariants.{Raw, Vhd}

-- the image in w has the map of the one in v, and holds the same sectors with the same bytes
pub record SaysSame (l : Layout) (v w : Sectors) : Type 0 where
  pub own : (s : ℕ) → own_in l w s ≡ own_in l v s
  pub entries : (b : ℕ) → b < entries_in_sectors l → entry w b ≡ entry v b
  pub holds : EachSlotHolds l.block l.entries v → EachSlotHolds l.block l.entries w

-- the same, with the same size and the same parent
pub record IsSameImage (l : Layout) (v w : Sectors) : Type 0 where
  pub says : SaysSame l v w
  pub size : size_at l.sectors w ≡ size_at l.sectors v
  pub parent : parent_at w ≡ parent_at v

-- with the same parent, and its size or this one; a sector past the size of v is not held in w
pub record IsResized (l : Layout) (sectors : ℕ) (v w : Sectors) : Type 0 where
  pub says : SaysSame l v w
  pub size : (size_at l.sectors w ≡ size_at l.sectors v) ⊎ (size_at l.sectors w ≡ sectors)
  pub parent : parent_at w ≡ parent_at v

-- with the same size, and its parent or this one
pub record IsRelinked (l : Layout) (name : Name) (v w : Sectors) : Type 0 where
  pub says : SaysSame l v w
  pub size : size_at l.sectors w ≡ size_at l.sectors v
  pub parent : (parent_at w ≡ parent_at v) ⊎ (parent_at w ≡ Some name)

-- one image that a stop could leave before, of which the one in w is such a change
pub record IsChanged (l : Layout) (R : Sectors → Sectors → Type 0) (old : Held) (w : Sectors) : Type 0 where
  pub before : Sectors
  pub allowed : Allows l.sectors old before
  pub changed : R before w

-- whatever a stop may leave is a valid image, and such a change of one that a stop could leave before
pub record ChangesBy (l : Layout) (R : Sectors → Sectors → Type 0) (old new : Held) : Type 0 where
  pub valid : (w : Sectors) → Allows l.sectors new w → IsValid l.block l.entries l.sectors w
  pub from : (w : Sectors) → Allows l.sectors new w → IsChanged l R old w

-- the image in so many sectors says what it said, whatever a stop may leave, and is true as before
pub record StaysTrue (g : Geometry) (sectors : ℕ) (head : Head) (m : List (Option ℕ)) (old new : Held) : Type 0 where
  pub same : ChangesBy (layout_in g head.footer sectors) (IsSameImage (layout_in g head.footer sectors)) old new
  pub true_now : IsTrueIn g sectors new head m

-- in whichever first sectors of its volume the image was true, it says what it said, whatever a stop may leave, and is true as before
abbrev pub StaysTrueIn : Geometry → Head → List (Option ℕ) → Held → Held → Type 0
StaysTrueIn g head m old new = (part : ℕ) → IsTrueIn g part old head m → StaysTrue g part head m old new

-- in whichever first sectors of its volume the image was true, it ends now after so many sectors
abbrev pub EndsAt : Geometry → ℕ → Head → List (Option ℕ) → Held → Held → Type 0
EndsAt g sectors head m old new = (part : ℕ) → IsTrueIn g part old head m → ReadsAsImage g sectors new head m

-- the head with this size, in sectors
abbrev pub with_size : Head → ℕ → Head
with_size head sectors = record head { footer = record head.footer { current = 512 * sectors } }

-- the image with this size
abbrev pub resized : ℕ → Body → Body
resized sectors (Raw volume size) = Raw volume size
resized sectors (Vhd head m) = Vhd (with_size head sectors) m

-- the head with this parent
abbrev pub with_parent : Head → Body → Head
with_parent head parent = record head { header = linked head.header parent }

-- the image with this parent
abbrev pub relinked : Body → Body → Body
relinked parent (Raw volume size) = Raw volume size
relinked parent (Vhd head m) = Vhd (with_parent head parent) m
