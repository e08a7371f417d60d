-- The disks of a repository (this project's format). A UUID is a disk by its standing volume: under the entry of a
-- fork the disk stands in the base where that is there, and neither base nor twin stands; under the entry of a leaf
-- that is being folded the leaf stands in the parent once it was renamed, and in its own name again, even while
-- hidden, once the parent took that; every other UUID stands in the visible VHD or raw image that has it and is not
-- new. Label, origin and whether it is a snapshot come from the disk's record.
use Rattle.std.specs.Prelude.{◌≡◌, ℕ, true, ◌&&◌, ◌||◌, List, [], ◌∷◌, Option, Some, None, is_some, if◌then◌else◌}
use Rattle.std.specs.List.{filter_map, find, flat_map}
use Rattle.std.specs.Str.{bytes_eq}
use Rattle.common_laws.specs.Lists.{In, ◌>>=◌}
use Rattle.sm_base.specs.declared.names.Name.{Name}
use Rattle.sm_base.specs.declared.names.Name.TheVariants.{Mgt, Vhd, Raw, Old, Cbt, Clone, Inflate, Coalesce, Relink, Leaf}
use Rattle.vg_meta.specs.Tables.{VolumeTable}
use Rattle.sm_machine.specs.Disks.{Disk, uuid_before}
use Rattle.sm_record.specs.declared.records.Record.{Record}
use Rattle.sm_standing.specs.Contents.{Content, record_of, records}
use Rattle.sm_standing.specs.Entries.{is_visible, image_with, is_leaf_renamed, is_leaf_swapped, making, folding, head}
use Rattle.sm_standing.specs.Images.{sectors_read}

-- where a UUID stands by itself
abbrev pub stands_plainly : VolumeTable → List ℕ → Option Name
stands_plainly t u = find (is_visible t) (Vhd u ∷ Raw u ∷ [])

-- under the entry of a fork
abbrev pub stands_forked : VolumeTable → Name → List ℕ → Option Name → Option Name
stands_forked t (Clone disk base twin) u plainly =
    if bytes_eq u disk then elim (image_with t base) [ None ↦ plainly | Some b ↦ Some b ]
    else if bytes_eq u base || bytes_eq u twin then None
    else plainly
stands_forked t Mgt u plainly = plainly
stands_forked t (Vhd v) u plainly = plainly
stands_forked t (Raw v) u plainly = plainly
stands_forked t (Old v) u plainly = plainly
stands_forked t (Cbt v) u plainly = plainly
stands_forked t (Inflate image extents) u plainly = plainly
stands_forked t (Coalesce child parent) u plainly = plainly
stands_forked t (Relink child parent) u plainly = plainly
stands_forked t (Leaf leaf parent) u plainly = plainly

-- under the entry of a leaf
abbrev pub stands_folded : VolumeTable → Name → List ℕ → Option Name → Option Name
stands_folded t (Leaf leaf parent) u plainly =
    if bytes_eq u leaf && is_leaf_renamed t leaf parent then Some (Vhd parent)
    else if bytes_eq u leaf && is_leaf_swapped t leaf parent then Some (Vhd leaf)
    else plainly
stands_folded t Mgt u plainly = plainly
stands_folded t (Vhd v) u plainly = plainly
stands_folded t (Raw v) u plainly = plainly
stands_folded t (Old v) u plainly = plainly
stands_folded t (Cbt v) u plainly = plainly
stands_folded t (Clone disk base twin) u plainly = plainly
stands_folded t (Inflate image extents) u plainly = plainly
stands_folded t (Coalesce child parent) u plainly = plainly
stands_folded t (Relink child parent) u plainly = plainly

abbrev pub under : (Name → Option Name → Option Name) → Option Name → Option Name → Option Name
under f None plainly = plainly
under f (Some e) plainly = f e plainly

-- the standing volume of a UUID, where it has one
unfoldable pub standing_volume : VolumeTable → List ℕ → Option Name
standing_volume t u =
    under (λ e. stands_forked t e u) (head (making t))
    (under (λ e. stands_folded t e u) (head (folding t))
    (stands_plainly t u))

-- the UUIDs that may be disks: those of images, and those that entries speak of
abbrev pub candidates : Name → List (List ℕ)
candidates (Vhd u) = u ∷ []
candidates (Raw u) = u ∷ []
candidates (Clone disk base twin) = disk ∷ []
candidates (Leaf leaf parent) = leaf ∷ []
candidates Mgt = []
candidates (Old u) = []
candidates (Cbt u) = []
candidates (Inflate image extents) = []
candidates (Coalesce child parent) = []
candidates (Relink child parent) = []

-- a UUID put in its place, once
unfoldable pub with_uuid : List ℕ → List (List ℕ) → List (List ℕ)
with_uuid u [] = u ∷ []
with_uuid u (v ∷ vs) = if uuid_before u v then u ∷ v ∷ vs else if bytes_eq u v then v ∷ vs else v ∷ with_uuid u vs

unfoldable pub in_order : List (List ℕ) → List (List ℕ)
in_order [] = []
in_order (u ∷ us) = with_uuid u (in_order us)

-- all of them, in order
unfoldable pub uuids : VolumeTable → List (List ℕ)
uuids t = in_order (flat_map (λ r. candidates r.name) t.volumes)

-- the disk of a UUID
abbrev pub disk_in : Content → List ℕ → Record → Name → Disk
disk_in c u r n = record { uuid = u; label = r.label; origin = r.origin; read_only = r.read_only; sectors = sectors_read c n }

-- the disk of a UUID, where a volume stands for it and it has a record
unfoldable pub disk_at : Content → List ℕ → Option Disk
disk_at c u = do
  n ← standing_volume c.table u
  r ← record_of c u
  Some (disk_in c u r n)

-- the disks, in order of UUID
unfoldable pub disks : Content → List Disk
disks c = filter_map (disk_at c) (uuids c.table)

-- each record is that of a disk
abbrev pub HasNoStray : Content → Type 0
HasNoStray c = (r : Record) → In r (records c) → is_some (standing_volume c.table r.uuid) ≡ true
