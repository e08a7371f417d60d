-- An image as contracts see it: a raw one, which is all sectors of its volume, or a VHD image with its head and its map.
use Rattle.std.specs.Prelude.{ℕ, ◌≤◌, nat_lt, if◌then◌else◌, List, Option, None, Some}
use Rattle.sm_base.specs.declared.names.Name.{Name}
use Rattle.sm_base.specs.declared.sizes.Geometry.{Geometry}
use Rattle.sm_disk.specs.Held.{Held}
use Rattle.vg_volumes.specs.Stored.{Stored, stored, sectors_in, held_in}
use Rattle.vg_volumes.specs.declared.stores.Store.{Ghosts}
use Rattle.vhd_map.specs.Slots.{top_of}
use Rattle.vhd_layout.specs.Layouts.{Sectors}
use Rattle.vhd_volumes.specs.declared.heads.Head.{Head}
use Rattle.vhd_volumes.specs.Truth.{IsStanding, IsTrueIn, disk_sectors, layout_in}
use Rattle.vhd_volumes.specs.Writes.{own_in}
use Rattle.vhd_image.specs.declared.images.Body.{Body}
use Rattle.vhd_image.specs.declared.images.Body.TheVariants.{Raw, Vhd}

-- the name of an image's volume
abbrev pub volume_name : Body → Name
volume_name (Raw volume sectors) = volume
volume_name (Vhd head m) = head.volume

-- the size of an image in sectors
abbrev pub sector_count : Body → ℕ
sector_count (Raw volume sectors) = sectors
sector_count (Vhd head m) = disk_sectors head.footer

-- the volume of an image's parent, or none
abbrev pub parent_name : Body → Option Name
parent_name (Raw volume sectors) = None
parent_name (Vhd head m) = head.header.parent

-- the map of an image, or none where it is raw
abbrev pub map_of : Body → Option (List (Option ℕ))
map_of (Raw volume sectors) = None
map_of (Vhd head m) = Some m

-- one more than the highest slot of an image, or 0 where it has none
abbrev pub top_slot : Body → ℕ
top_slot (Raw volume sectors) = 0
top_slot (Vhd head m) = top_of m

-- an image as it is in a volume of another name
abbrev pub in_volume : Name → Body → Body
in_volume to (Raw volume sectors) = Raw to sectors
in_volume to (Vhd head m) = Vhd (record head { volume = to }) m

-- a VHD image
abbrev pub IsVhd : Body → Type 0
IsVhd (Raw volume sectors) = ⊥
IsVhd (Vhd head m) = Unit {0}

-- a fact of head and map, where it is a VHD image
abbrev pub IfVhd : Body → (Head → List (Option ℕ) → Type 0) → Type 0
IfVhd (Raw volume sectors) P = Unit {0}
IfVhd (Vhd head m) P = P head m

-- the image stands in so many sectors: a raw one has room in them
abbrev pub StandsIn : Geometry → ℕ → Body → Type 0
StandsIn g sectors (Raw volume size) = size ≤ sectors
StandsIn g sectors (Vhd head m) = IsStanding g sectors head m

-- the image is true of what is held: of a raw one nothing is kept beside the name and the size
abbrev pub TrueIn : Geometry → ℕ → Held → Body → Type 0
TrueIn g sectors h (Raw volume size) = Unit {0}
TrueIn g sectors h (Vhd head m) = IsTrueIn g sectors h head m

-- the sector of the disk in so many sectors of a volume, where the image holds it
abbrev pub own_of : Geometry → ℕ → Body → Sectors → ℕ → Option (List ℕ)
own_of g sectors (Raw volume size) v s = if nat_lt s size then Some (v s) else None
own_of g sectors (Vhd head m) v s = own_in (layout_in g head.footer sectors) v s

-- ---- the same in its volume of a store

-- an image stands in its volume of a store
abbrev pub ImageStands : Stored → Body → Type 0
ImageStands x body = StandsIn x.site.geometry (sectors_in x (volume_name body)) body

-- an image is true of what its volume of a store holds
abbrev pub ImageIsTrue : Stored → Body → Type 0
ImageIsTrue x body = TrueIn x.site.geometry (sectors_in x (volume_name body)) (held_in x (volume_name body)) body

-- the sector of the disk, where the image there holds it
abbrev pub own_now : Stored → Body → Sectors → ℕ → Option (List ℕ)
own_now x body v s = own_of x.site.geometry (sectors_in x (volume_name body)) body v s

-- where it is a VHD image and the store tells its content: this is so of what its volume holds
abbrev pub IfVhdHolds : {S : Type 0} → Ghosts S → Body → (Head → List (Option ℕ) → Held → Type 0) → S → Type 0
IfVhdHolds g body P s = g.told → IfVhd body (λ head m. P head m (held_in (stored g s) head.volume))

-- where an image is a VHD image and the store tells its content: this happened to what its volume holds
abbrev pub IfVhdDoes : {S : Type 0} → Ghosts S → Body → (Head → List (Option ℕ) → Held → Held → Type 0) → S → S → Type 0
IfVhdDoes g body P old new = g.told → IfVhd body (λ head m. P head m (held_in (stored g old) head.volume) (held_in (stored g new) head.volume))
