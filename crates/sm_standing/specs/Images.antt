-- The images of a volume group and what is read through a chain of them (VHD specification, 'Differencing Hard
-- Disk Images'; the profile is this project's). At one sector an image either answers with bytes or sends up to its
-- parent: a turn. A sector past an image's own size is zeros. A raw image holds each of its sectors.
use Rattle.std.specs.Prelude.{ℕ, ◌*◌, zero, suc, nat_lt, List, length, map, [], Option, Some, None, if◌then◌else◌}
use Rattle.sm_base.specs.declared.names.Name.{Name}
use Rattle.sm_base.specs.declared.names.Name.TheVariants.{Mgt, Vhd, Raw, Old, Cbt, Clone, Inflate, Coalesce, Relink, Leaf}
use Rattle.sm_disk.specs.Sectors.{zeros}
use Rattle.vg_meta.specs.Tables.{Row}
use Rattle.common_laws.specs.Lists.{numbers, ◌>>=◌}
use Rattle.sm_machine.specs.Shapes.{same_image, chain_limit}
use Rattle.vhd_layout.specs.Contents.{ImageContent as LaidOut, raw_content}
use Rattle.vhd_layout.specs.Readings.{image_at}
use Rattle.sm_standing.specs.Contents.{Content, row, sectors_of, size_of}
use Rattle.sm_standing.specs.Entries.{making, head}

-- an image by itself: its size in sectors, its parent, the slots of its blocks, and what it holds of a sector
abbrev pub Image : Type 0
Image = LaidOut

-- while an image is being enlarged it lies in the extents that it had, which the entry says
abbrev pub image_extents : List Name → Name → ℕ → ℕ
image_extents entries n all = elim (head entries) [ None ↦ all | Some e ↦ entry_extents e n all ]
  where
    entry_extents : Name → Name → ℕ → ℕ
    entry_extents (Inflate u extents) n all = if same_image (Vhd u) n then extents else all
    entry_extents Mgt n all = all
    entry_extents (Vhd u) n all = all
    entry_extents (Raw u) n all = all
    entry_extents (Old u) n all = all
    entry_extents (Cbt u) n all = all
    entry_extents (Clone disk base twin) n all = all
    entry_extents (Coalesce child parent) n all = all
    entry_extents (Relink child parent) n all = all
    entry_extents (Leaf leaf parent) n all = all

-- a VHD image as it lies in its volume, where it is valid
unfoldable pub vhd_image : Content → Name → Row → Option Image
vhd_image c n r = image_at c.block c.entries (image_extents (making c.table) n (length r.extents) * c.extent) (sectors_of c n)

-- a raw image holds each of its sectors
unfoldable pub raw_image : Content → Name → Image
raw_image c n = raw_content (size_of c n) (sectors_of c n)

-- the image of a volume that is there and not new; an old leaf is none
unfoldable pub image_of : Content → Name → Option Image
image_of c (Raw u) = do
  r ← row c (Raw u)
  if r.fresh then None else Some (raw_image c (Raw u))
image_of c (Vhd u) = do
  r ← row c (Vhd u)
  if r.fresh then None else vhd_image c (Vhd u) r
image_of c Mgt = None
image_of c (Old u) = None
image_of c (Cbt u) = None
image_of c (Clone disk base twin) = None
image_of c (Inflate image extents) = None
image_of c (Coalesce child parent) = None
image_of c (Relink child parent) = None
image_of c (Leaf leaf parent) = None

-- what an image does with a sector: it answers, or sends up
pub data ImageAnswer : Type 0 where
  here : List ℕ → ImageAnswer
  up : Name → ImageAnswer

-- what it holds, else its parent, else zeros
abbrev pub held_or : Option (List ℕ) → Option Name → ImageAnswer
held_or (Some bytes) parent = here bytes
held_or None (Some p) = up p
held_or None None = here zeros

unfoldable pub answer_of : ℕ → Option Image → ImageAnswer
answer_of s None = here zeros
answer_of s (Some i) = if nat_lt s i.size then held_or (i.own s) i.parent else here zeros

-- at most so many images are walked; past them it is zeros
unfoldable pub walk : ℕ → (Name → ImageAnswer) → Name → List ℕ
walk zero f n = zeros
walk (suc most) f n = elim (f n) [ here bytes ↦ bytes | up p ↦ walk most f p ]

-- a sector as it is read through the chain of an image
unfoldable pub image_reads : Content → Name → ℕ → List ℕ
image_reads c n s = walk chain_limit (λ m. answer_of s (image_of c m)) n

-- all sectors of an image, read so
unfoldable pub sectors_read : Content → Name → List (List ℕ)
sectors_read c n = elim (image_of c n) [ None ↦ [] | Some i ↦ map (image_reads c n) (numbers 0 i.size) ]
