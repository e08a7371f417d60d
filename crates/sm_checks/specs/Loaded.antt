-- What an opening reads into memory: the images that are not new, each off its volume.
use Rattle.std.specs.Prelude.{◌≡◌, ℕ, ◌*◌, ◌<◌, ◌≤◌, ◌&&◌, ◌⊎◌, not, true, false, List, length, map, take, Option, None, Some, if◌then◌else◌}
use Rattle.std.specs.List.{filter_map}
use Rattle.sm_machine.specs.WellFormed.{is_image_name}
use Rattle.sm_base.specs.declared.faults.OpenFault.{OpenFault}
use Rattle.sm_base.specs.declared.faults.OpenFault.TheVariants as fault
use Rattle.sm_base.specs.declared.faults.Place.TheVariants as at
use Rattle.sm_base.specs.declared.names.Name.{Name}
use Rattle.sm_base.specs.declared.names.Name.TheVariants.{Mgt, Vhd, Raw, Old, Cbt, Clone, Inflate, Coalesce, Relink, Leaf}
use Rattle.sm_base.specs.declared.sizes.Geometry.{Geometry}
use Rattle.sm_disk.specs.Held.{Held}
use Rattle.vg_meta.specs.Tables.{Row, VolumeTable}
use Rattle.vg_meta.specs.Roomy.{table_alone}
use Rattle.common_laws.specs.Lists.{In}
use Rattle.sm_standing.specs.Entries.{head, making}
use Rattle.sm_standing.specs.Images.{image_extents}
use Rattle.sm_standing.specs.Opened.{applied_all, changes_back, undone}
use Rattle.sm_standing.specs.Unfolded.{unfolded}
use Rattle.vg_volumes.specs.Stored.{Faults, Stored, held_in}
use Rattle.vg_volumes.specs.declared.stores.Store.{Ghosts}
use Rattle.vhd_image.specs.Bodies.{IfVhd, IsVhd, StandsIn}
use Rattle.vhd_image.specs.Opened.{HasNoImage, ReadsAsImage}
use Rattle.vhd_image.specs.declared.images.Body.{Body}
use Rattle.vhd_image.specs.declared.images.Body.TheVariants as body
use Rattle.vhd_chain.specs.Trees.{row_name, tree_row}
use Rattle.vhd_chain.specs.declared.rows.TreeRow.{TreeRow}

-- ---- what stands in a store while a fork or an enlargement is under way

-- a volume with the extents in which its image lies, by the entries of a table
abbrev pub as_read : List Name → Row → Row
as_read entries r = record r { extents = take (image_extents entries r.name (length r.extents)) r.extents }

-- the volumes of a table, so
abbrev pub read_volumes : VolumeTable → List Row
read_volumes t = map (as_read (making t)) t.volumes

-- the table without an enlargement: the entry of a fork stays
abbrev pub shortened_by : VolumeTable → Option Name → VolumeTable
shortened_by t (Some (Inflate u extents)) = applied_all t (changes_back t (Inflate u extents))
shortened_by t None = t
shortened_by t (Some Mgt) = t
shortened_by t (Some (Vhd u)) = t
shortened_by t (Some (Raw u)) = t
shortened_by t (Some (Old u)) = t
shortened_by t (Some (Cbt u)) = t
shortened_by t (Some (Clone disk base twin)) = t
shortened_by t (Some (Coalesce child parent)) = t
shortened_by t (Some (Relink child parent)) = t
shortened_by t (Some (Leaf leaf parent)) = t

unfoldable pub shortened : VolumeTable → VolumeTable
shortened t = shortened_by t (head (making t))

-- what a store holds, by another table
abbrev pub stored_with : {S : Type 0} → Ghosts S → S → VolumeTable → Stored
stored_with g s t = record { site = g.site s; table = t; area = g.area s }

-- what a store holds, by its table without an enlargement
abbrev pub stored_read : {S : Type 0} → Ghosts S → S → Stored
stored_read g s = stored_with g s (shortened (table_alone (g.table s)))

-- and once all that was under way is undone
abbrev pub stored_undone : {S : Type 0} → Ghosts S → S → Stored
stored_undone g s = stored_with g s (undone (unfolded (table_alone (g.table s))))

-- ---- the rows of the volumes

-- the row of a volume, with the image of one in memory: hidden, and in as many extents, as the table says
abbrev pub row_with : Row → Option TreeRow → Option TreeRow
row_with r None = None
row_with r (Some x) = Some (record { image = x.image; hidden = r.hidden; extents = length r.extents })

-- where the volume is that of a VHD or a raw image and not new, it is that of its name
abbrev pub row_among : List TreeRow → Row → Option TreeRow
row_among xs r = if is_image_name r.name && not r.fresh then row_with r (tree_row xs r.name) else None

-- these are the rows of the volumes, in their order, and no others
abbrev pub AreRowsOf : List Row → List TreeRow → Type 0
AreRowsOf rs xs = xs ≡ filter_map (row_among xs) rs

-- ---- what is read of an image

-- the image of a raw volume of so many sectors: it has no more blocks than a table has entries
pub record IsRawRead (g : Geometry) (sectors : ℕ) (n : Name) (image : Body) : Type 0 where
  pub is : image ≡ body.Raw n sectors
  pub fits : sectors ≤ g.entries * g.block

-- a VHD image of so many sectors: it stands in them, and where the content is told a read gives it
pub record IsVhdRead (told : Type 0) (g : Geometry) (sectors : ℕ) (h : Held) (image : Body) : Type 0 where
  pub vhd : IsVhd image
  pub stands : StandsIn g sectors image
  pub gives : told → IfVhd image (ReadsAsImage g sectors h)

-- the one or the other, by the volume's name
abbrev pub IsReadAs : Type 0 → Geometry → ℕ → Held → Name → Body → Type 0
IsReadAs told g sectors h (Raw u) image = IsRawRead g sectors (Raw u) image
IsReadAs told g sectors h (Vhd u) image = IsVhdRead told g sectors h image
IsReadAs told g sectors h Mgt image = ⊥
IsReadAs told g sectors h (Old u) image = ⊥
IsReadAs told g sectors h (Cbt u) image = ⊥
IsReadAs told g sectors h (Clone disk base twin) image = ⊥
IsReadAs told g sectors h (Inflate grown extents) image = ⊥
IsReadAs told g sectors h (Coalesce child parent) image = ⊥
IsReadAs told g sectors h (Relink child parent) image = ⊥
IsReadAs told g sectors h (Leaf leaf parent) image = ⊥

-- there is no such image: a raw one would have too many blocks; no valid VHD image is there, where the content is told
abbrev pub IsNoneRead : Type 0 → Geometry → ℕ → Held → Name → Type 0
IsNoneRead told g sectors h (Raw u) = g.entries * g.block < sectors
IsNoneRead told g sectors h (Vhd u) = told → HasNoImage g sectors h
IsNoneRead told g sectors h Mgt = ⊥
IsNoneRead told g sectors h (Old u) = ⊥
IsNoneRead told g sectors h (Cbt u) = ⊥
IsNoneRead told g sectors h (Clone disk base twin) = ⊥
IsNoneRead told g sectors h (Inflate image extents) = ⊥
IsNoneRead told g sectors h (Coalesce child parent) = ⊥
IsNoneRead told g sectors h (Relink child parent) = ⊥
IsNoneRead told g sectors h (Leaf leaf parent) = ⊥

-- the row of a volume, as it was read off what a store holds
pub record IsRow (told : Type 0) (x : Stored) (r : Row) (y : TreeRow) : Type 0 where
  pub named : row_name y ≡ r.name
  pub hidden : y.hidden ≡ r.hidden
  pub extents : y.extents ≡ length r.extents
  pub image : IsReadAs told x.site.geometry (length r.extents * x.site.geometry.extent) (held_in x r.name) r.name y.image

-- a volume of a VHD or a raw image that is not new: an old leaf is not read
pub record IsFilledImage (r : Row) : Type 0 where
  pub image : is_image_name r.name ≡ true
  pub filled : r.fresh ≡ false

-- each volume of an image that is not new has its row, as it was read
abbrev pub HasEachRow : Type 0 → Stored → List Row → List TreeRow → Type 0
HasEachRow told x rs ys = (r : Row) → In r rs → IsFilledImage r → (y : TreeRow) × (tree_row ys r.name ≡ Some y) × IsRow told x r y

-- why the image in so many sectors of a volume was not read: no memory, a fault of the device, or there is none
abbrev pub FailsToRead : {S : Type 0} → Ghosts S → Stored → Name → ℕ → OpenFault → S → S → Type 0
FailsToRead g x n sectors e old new = (e ≡ fault.NoMemory) ⊎ ((e ≡ fault.Device) × Faults g old new)
    ⊎ ((e ≡ fault.Damaged (at.Image n)) × IsNoneRead g.told x.site.geometry sectors (held_in x n) n)

-- why a volume's image was not read: and then the volume is that of an image and not new
pub record FailsAt {S : Type 0} (g : Ghosts S) (x : Stored) (r : Row) (e : OpenFault) (old new : S) : Type 0 where
  pub volume : IsFilledImage r
  pub fails : FailsToRead g x r.name (length r.extents * x.site.geometry.extent) e old new
