-- What giving more extents to the volume of a VHD image asks, and what it makes of table and memory (this project's format).
use Rattle.std.specs.Prelude.{◌≡◌, ℕ, ◌+◌, ◌-◌, ◌*◌, ◌<◌, ◌≤◌, List, [], ◌∷◌, length, Option, Some, None}
use Rattle.common_laws.specs.Lists.{change}
use Rattle.sm_base.specs.declared.names.Name.{Name}
use Rattle.sm_base.specs.declared.names.Name.TheVariants.{Vhd}
use Rattle.sm_disk.specs.Held.{Held}
use Rattle.vg_meta.specs.Roomy.{table_alone}
use Rattle.vg_meta.specs.Tables.{Row, VolumeTable, extents_of, rows, free as free_of}
use Rattle.vg_meta.specs.Changes.{AreFree, applied, grown, with_row}
use Rattle.vg_meta.specs.declared.changes.Change.{Change}
use Rattle.vg_meta.specs.declared.changes.Change.TheVariants.{Grow, Remove}
use Rattle.vg_extents.specs.Fits.{AreLeastFree}
use Rattle.vhd_chain.specs.declared.rows.TreeRow.{TreeRow}
use Rattle.vhd_chain.specs.Trees.{has_name, row_name, tree_row}
use Rattle.vg_volumes.specs.Sites.{Site, size_of, volume_of}
use Rattle.vg_volumes.specs.Volumes.{KeepsElsewhere}
use Rattle.vg_volumes.specs.declared.stores.Store.{Ghosts}
use Rattle.vhd_image.specs.Bodies.{IfVhd, IsVhd, top_slot}
use Rattle.vhd_image.specs.Changes.{EndsAt, StaysTrueIn}
use Rattle.vhd_volumes.specs.Writes.{KeepsBut}
use Rattle.sm_journal.specs.Entries.{putting}
use Rattle.sm_calls.specs.Calls.{Call, Commit, Work}
use Rattle.vhd_volumes.specs.Truth.{HasRoomFor}
use Rattle.sm_machine.specs.Shapes.{Shape, on_image, risen}

-- how many extents the volume behind a row has
abbrev pub extents_in : Option TreeRow → ℕ
extents_in None = 0
extents_in (Some r) = r.extents

-- the VHD image of this UUID is in memory, and its volume has fewer extents than this
pub record IsBelow (rows : List TreeRow) (u : List ℕ) (to : ℕ) : Type 0 where
  pub row : TreeRow
  pub there : tree_row rows (Vhd u) ≡ Some row
  pub below : row.extents < to

-- so many extents as are wanting to that number are free
abbrev pub HasFree : ℕ → VolumeTable → List TreeRow → List ℕ → ℕ → Type 0
HasFree count t rows u to = to ≤ extents_in (tree_row rows (Vhd u)) + length (free_of count t)

-- a change that gives a volume so many extents more: the least free ones
pub record IsGrowth (count : ℕ) (t : VolumeTable) (n : Name) (more : ℕ) (growth : Change) : Type 0 where
  pub extents : List ℕ
  pub is : growth ≡ Grow n extents
  pub least : AreLeastFree count more t extents
  pub extents_free : AreFree count t.volumes extents

-- a fact of a row, where there is one
abbrev pub IfRow : Option TreeRow → (TreeRow → Type 0) → Type 0
IfRow None P = Unit {0}
IfRow (Some r) P = P r

-- the row of this name has a VHD image of the volume of this name, which has room in the first so many extents of it, by site and table
pub record CanEndIn (s : Site) (t : VolumeTable) (rows : List TreeRow) (n : Name) (to : ℕ) : Type 0 where
  pub row : TreeRow
  pub there : tree_row rows n ≡ Some row
  pub named : row_name row ≡ n
  pub vhd : IsVhd row.image
  pub within : to * s.geometry.extent ≤ size_of s t n
  pub room : HasRoomFor s.geometry (top_slot row.image) (to * s.geometry.extent)

-- in a store the row of this name has a VHD image of the volume of this name, which has room in the first so many extents of it
abbrev pub CanEnd : {S : Type 0} → Ghosts S → S → List TreeRow → Name → ℕ → Type 0
CanEnd g x rows n to = CanEndIn (g.site x) (table_alone (g.table x)) rows n to

-- A footer was to be written into the last of so many extents of a volume: the other volumes are kept, this one keeps all but that sector,
-- and its image stays true.
pub record WritesEnd (s : Site) (t : VolumeTable) (n : Name) (o : Option TreeRow) (to : ℕ) (old new : Held) : Type 0 where
  pub beside : KeepsElsewhere s.geometry.extent (extents_of (rows t n)) old new
  pub others : KeepsBut (λ p. p ≡ to * s.geometry.extent - 1) (volume_of s t old n) (volume_of s t new n)
  pub stays : IfRow o (λ r. IfVhd r.image (λ head slots. StaysTrueIn s.geometry head slots (volume_of s t old n) (volume_of s t new n)))

-- a footer was written into the last of so many extents of a volume: the image ends there
abbrev pub EndsIn : Site → VolumeTable → Name → Option TreeRow → ℕ → Held → Held → Type 0
EndsIn s t n o to old new = IfRow o (λ r. IfVhd r.image (λ head slots. EndsAt s.geometry (to * s.geometry.extent) head slots (volume_of s t old n) (volume_of s t new n)))

-- the call that writes a footer into the last of so many extents of a volume
abbrev pub footer_call : Site → VolumeTable → Name → Option TreeRow → ℕ → Call
footer_call s t n o to = Work (WritesEnd s t n o to) (EndsIn s t n o to)

-- the calls that give a volume more extents: an entry is made, the volume grows, the footer is written at its new end, and the entry goes
abbrev pub growth_calls : Site → VolumeTable → Name → Change → Name → Option TreeRow → ℕ → List Call
growth_calls s t entry growth n o to =
    Commit (putting entry) ∷ Commit growth ∷ footer_call s (applied (applied t (putting entry)) growth) n o to ∷ Commit (Remove entry) ∷ []

-- the images in memory, once the volume of this name has so many extents
abbrev pub with_extents : Name → ℕ → List TreeRow → List TreeRow
with_extents n to rows = change (has_name n) (λ r. record r { extents = to }) rows

-- the shape, once the volume of a VHD image has so many extents, by three commits
abbrev pub inflated : List ℕ → ℕ → Shape → Shape
inflated u to s = record s { sequence = risen s.sequence 3; images = on_image (Vhd u) (λ i. record i { extents = to }) s.images }

-- the volume of a VHD image has so many extents, those from before and then the least free ones; each other volume is as it was
pub record IsEnlarged (count : ℕ) (t : VolumeTable) (u : List ℕ) (to : ℕ) (next : VolumeTable) : Type 0 where
  pub row : Row
  pub there : rows t (Vhd u) ≡ Some row
  pub more : List ℕ
  pub least : AreLeastFree count (to - length row.extents) t more
  pub volumes : next.volumes ≡ with_row (Vhd u) (grown more) t.volumes
