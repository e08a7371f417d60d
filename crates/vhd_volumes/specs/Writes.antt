-- What a guest's write does to an image, and what a stop may leave of it at any moment.
use Rattle.std.specs.Prelude.{◌≡◌, ℕ, ◌+◌, ◌-◌, ◌/◌, ◌<◌, ◌≤◌, ◌⊎◌, zero, suc, List, length, Option, None, Some, slice_set}
use Rattle.sm_disk.specs.Held.{Held, Allows, reads}
use Rattle.vg_volumes.specs.Volumes.{KeepsAt}
use Rattle.vhd_map.specs.Slots.{slot_of, least_free_slot}
use Rattle.vhd_layout.specs.Layouts.{Sectors, Layout}
use Rattle.vhd_layout.specs.Images.{IsValid, EachSlotHolds}
use Rattle.vhd_layout.specs.Contents.{size_at, parent_at, own}

-- the sector s of the disk, where the image in the volume holds it
abbrev pub own_in : Layout → Sectors → ℕ → Option (List ℕ)
own_in l v s = own l.block (size_at l.sectors v) v s

-- The image in w follows the one in v, where W says which bytes a step writes at which sector of the disk: size and
-- parent are the same; each sector is held as it was, or is held with bytes that W writes there; and where each block
-- with a slot held a sector, it does.
pub record Follows (l : Layout) (W : ℕ → List ℕ → Type 0) (v w : Sectors) : Type 0 where
  pub size : size_at l.sectors w ≡ size_at l.sectors v
  pub parent : parent_at w ≡ parent_at v
  pub own : (s : ℕ) → (own_in l w s ≡ own_in l v s) ⊎ ((bytes : List ℕ) × W s bytes × (own_in l w s ≡ Some bytes))
  pub holds : EachSlotHolds l.block l.entries v → EachSlotHolds l.block l.entries w

-- one image that a stop could leave before, which the image in w follows
pub record IsFollowing (l : Layout) (W : ℕ → List ℕ → Type 0) (old : Held) (w : Sectors) : Type 0 where
  pub before : Sectors
  pub allowed : Allows l.sectors old before
  pub follows : Follows l W before w

-- At any moment of a step that writes what W says: whatever a stop may leave of the volume is a valid image, and follows
-- one that a stop could leave before.
pub record IsGuarded (l : Layout) (W : ℕ → List ℕ → Type 0) (old new : Held) : Type 0 where
  pub valid : (w : Sectors) → Allows l.sectors new w → IsValid l.block l.entries l.sectors w
  pub follows : (w : Sectors) → Allows l.sectors new w → IsFollowing l W old w

-- At each place but those that a step may write a read gives what it gave, and a stop leaves nothing that it could not
-- leave before.
abbrev pub KeepsBut : (ℕ → Type 0) → Held → Held → Type 0
KeepsBut W old new = KeepsAt (λ p. W p → ⊥) old new

-- an image in so many sectors keeps the copy of its footer, its header and its last sector
abbrev pub KeepsHeads : ℕ → Held → Held → Type 0
KeepsHeads sectors old new = KeepsBut (λ p. (3 ≤ p) × (p + 1 < sectors)) old new

-- What an image holds of the disk's sectors, `old` before a write of all that W says and `new` behind it: the written sectors with
-- their bytes, and of each other sector what it held.
pub record IsPutOver (W : ℕ → List ℕ → Type 0) (old new : ℕ → Option (List ℕ)) : Type 0 where
  pub inside : (s : ℕ) (value : List ℕ) → W s value → new s ≡ Some value
  pub outside : (s : ℕ) → ((value : List ℕ) → W s value → ⊥) → new s ≡ old s

-- once all was written that W says, a read gives it of the VHD image in the volume: the written sectors with their bytes, and of each
-- other sector what it held
abbrev pub HasWritten : Layout → (ℕ → List ℕ → Type 0) → Held → Held → Type 0
HasWritten l W old new = IsPutOver W (own_in l (reads old)) (own_in l (reads new))

-- the map once a block has a slot: a block that has none gets the least free one
unfoldable pub with_block : ℕ → List (Option ℕ) → List (Option ℕ)
with_block b m = elim (slot_of m b) [ None ↦ slice_set m b (Some (least_free_slot m)) | Some slot ↦ m ]

-- the map once so many blocks from this one on have slots, one after the other in rising order
unfoldable pub with_blocks : ℕ → ℕ → List (Option ℕ) → List (Option ℕ)
with_blocks b zero m = m
with_blocks b (suc count) m = with_blocks (suc b) count (with_block b m)

-- how many blocks so many bytes touch from a sector of the disk on
abbrev pub blocks_touched : ℕ → ℕ → ℕ → ℕ
blocks_touched block at len = (at + len / 512 - 1) / block - at / block + 1

-- the map once so many bytes were written from a sector of the disk on
abbrev pub written_map : ℕ → ℕ → ℕ → List (Option ℕ) → List (Option ℕ)
written_map block at len m = with_blocks (at / block) (blocks_touched block at len) m

-- the map has grown: each block keeps its slot
pub record HasGrown (old new : List (Option ℕ)) : Type 0 where
  pub long : length new ≡ length old
  pub keeps : (b slot : ℕ) → slot_of old b ≡ Some slot → slot_of new b ≡ Some slot
