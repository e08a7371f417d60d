-- What the beginning of a copy, of a hidden image or of a disk's leaf, asks of the shape and makes of it, and what the writes before its entry leave (this project's format).
use Rattle.std.specs.Prelude.{◌≡◌, ◌≢◌, ◌-◌, ◌≤◌, ◌⊎◌, ◌++◌, ℕ, max, true, length, List, [], Option, None, Some, is_some}
use Rattle.common_laws.specs.Lists.{In}
use Rattle.sm_base.specs.declared.names.Name.{Name}
use Rattle.sm_base.specs.declared.names.Name.TheVariants.{Coalesce, Leaf}
use Rattle.sm_machine.specs.Operations as op
use Rattle.sm_base.specs.declared.operations.Plan.{Plan}
use Rattle.sm_base.specs.declared.operations.Plan.TheVariants as plan
use Rattle.sm_disk.specs.Held.{Allows, Held}
use Rattle.sm_log.specs.Logs.{Log}
use Rattle.vg_meta.specs.Tables.{VolumeTable, extents_of, rows}
use Rattle.vg_extents.specs.Fits.{AreLeastFree}
use Rattle.vg_volumes.specs.Sites.{Site, area_size}
use Rattle.vhd_chain.specs.declared.rows.TreeRow.{TreeRow}
use Rattle.vhd_image.specs.Bodies.{sector_count}
use Rattle.sm_machine.specs.Collector.{count_either, size_of}
use Rattle.sm_machine.specs.Disks.{Disk}
use Rattle.sm_machine.specs.Shapes.{ImageRow, Shape, attached_as, image_uuid, is_rw, is_vhd, on_image, risen, thick_in, thin_in, top}
use Rattle.sm_run.specs.Between.{IsStill}
use Rattle.sm_standing.specs.Keeping.{IsKept}
use Rattle.sm_standing.specs.Logs.{IsLogged}
use Rattle.sm_standing.specs.Standing.{disks}
use Rattle.gc_coalesce.specs.Copying.{copy_of, is_hidden}
use Rattle.gc_coalesce.specs.declared.kinds.Kind.{Kind}
use Rattle.gc_coalesce.specs.declared.kinds.Kind.TheVariants as kinds
use Rattle.sm_ready.specs.Stores.{Leaving, MayShow, content_in}

-- how many sectors the image behind a row has
abbrev pub sectors_of : Option TreeRow → ℕ
sectors_of None = 0
sectors_of (Some r) = sector_count r.image

-- the step that begins to copy v into p, by what v is
abbrev pub begins : Kind → Name → Name → ℕ → Plan
begins kinds.Hidden v p to = plan.Begin v p to
begins kinds.Leaf v p to = plan.Leaf v p to
begins kinds.Live v p to = plan.Live v p to

-- the journal entry of the copy
abbrev pub copy_entry : Kind → Name → Name → Name
copy_entry kinds.Hidden v p = Coalesce (image_uuid v) (image_uuid p)
copy_entry kinds.Leaf v p = Leaf (image_uuid v) (image_uuid p)
copy_entry kinds.Live v p = Leaf (image_uuid v) (image_uuid p)

-- no operation runs; a VHD image v is the only one that reads through p, a VHD image that has room for the blocks of both, or a raw
-- one as large as v
pub record CanEnter (s : Shape) (v p : Name) : Type 0 where
  pub child : ImageRow
  pub parent : ImageRow
  pub child_there : In child s.images
  pub parent_there : In parent s.images
  pub child_named : child.name ≡ v
  pub parent_named : parent.name ≡ p
  pub vhd : is_vhd v ≡ true
  pub linked : child.parent ≡ Some p
  pub only : (i : ImageRow) → In i s.images → i.parent ≡ Some p → i ≡ child
  pub kind : (is_vhd p ≡ true) ⊎ (parent.size ≡ child.size)
  pub room : is_vhd p ≡ true → thin_in s (max (top parent.slots) (count_either parent.slots child.slots)) ≤ parent.extents
  pub idle : s.op ≡ op.Idle

-- what is asked besides where i is a disk's leaf: its parent q is a VHD image; the disk is attached or not, as the kind says; and where it
-- is attached for writing, q has extents for all blocks of the leaf's size
abbrev pub IsLeafOver : Shape → Kind → ImageRow → ImageRow → Type 0
IsLeafOver s kinds.Hidden i q = Unit {0}
IsLeafOver s kinds.Leaf i q = (is_vhd q.name ≡ true) × (attached_as (image_uuid i.name) s ≡ None)
IsLeafOver s kinds.Live i q = (is_vhd q.name ≡ true) × (is_some (attached_as (image_uuid i.name) s) ≡ true) × (is_rw (attached_as (image_uuid i.name) s) ≡ true → thick_in s i.size ≤ q.extents)

-- v is hidden, or a disk's leaf that may be folded, as the kind says
pub record CanBegin (s : Shape) (k : Kind) (v p : Name) : Type 0 where
  pub pair : CanEnter s v p
  pub shown : pair.child.hidden ≡ is_hidden k
  pub leaf : IsLeafOver s k pair.child pair.parent

-- the parent has the child's size
abbrev pub raised : Name → Name → Shape → Shape
raised child parent s = record s { images = on_image parent (λ i. record i { size = size_of child s }) s.images }

-- and the copy has begun, by one commit
abbrev pub entered : Kind → Name → Name → Shape → Shape
entered k child parent s = record s { sequence = risen s.sequence 1; images = (raised child parent s).images; op = copy_of k child parent 0 [] }

-- each volume has the extents that it had
abbrev pub KeepsExtents : VolumeTable → VolumeTable → Type 0
KeepsExtents t next = (n : Name) → extents_of (rows next n) ≡ extents_of (rows t n)

-- the volume of this name has the extents that it had, and then, where they were fewer than this number, the least free ones, as many
-- as were wanting; each other volume has those that it had
pub record IsWidened (count : ℕ) (t : VolumeTable) (n : Name) (to : ℕ) (next : VolumeTable) : Type 0 where
  pub more : List ℕ
  pub least : AreLeastFree count (to - length (extents_of (rows t n))) t more
  pub extents : extents_of (rows next n) ≡ extents_of (rows t n) ++ more
  pub others : (x : Name) → x ≢ n → extents_of (rows next x) ≡ extents_of (rows t x)

-- whatever a stop leaves of this area, while the table stands, is kept, has these logs and shows these disks, all sectors at once of an
-- image that might be left before
pub record LeavesStill (s : Site) (t : VolumeTable) (area : Held) (before : Leaving) (ds : List Disk) (logs : List Log) : Type 0 where
  pub kept : (image : ℕ → List ℕ) → Allows (area_size s) area image → IsKept (content_in s t image)
  pub shown : (image : ℕ → List ℕ) → Allows (area_size s) area image → IsStill (MayShow s before) ds (disks (content_in s t image))
  pub still : (image : ℕ → List ℕ) → Allows (area_size s) area image → MayShow s before (disks (content_in s t image))
  pub logged : (image : ℕ → List ℕ) → Allows (area_size s) area image → IsLogged (content_in s t image) logs
