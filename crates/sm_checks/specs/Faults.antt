-- The checks of an opening, by what each of them looks at: the table with the sizes alone, the images in memory, or the
-- places of the records beside the table.
use Rattle.std.specs.Prelude.{◌≡◌, ◌⊎◌, ℕ, suc, Bool, true, false, ◌&&◌, ◌||◌, ◌==◌, not, nat_le, List, [], ◌∷◌, length, Option, Some, None, is_some, count_by, if◌then◌else◌}
use Rattle.std.specs.List.{list_any, slice_get}
use Rattle.std.specs.Str.{bytes_eq}
use Rattle.sm_base.specs.declared.faults.Place.{Place}
use Rattle.sm_base.specs.declared.names.Name.{Name}
use Rattle.sm_base.specs.declared.names.Name.TheVariants.{Mgt, Vhd, Raw, Old, Cbt, Clone, Inflate, Coalesce, Relink, Leaf}
use Rattle.sm_base.specs.declared.sizes.Geometry.{Geometry}
use Rattle.std.specs.declared.cmp.Ordering.TheVariants.{Less}
use Rattle.std.specs.Ordering.{is_lt}
use Rattle.sm_base.specs.Names.{name_cmp}
use Rattle.vg_meta.specs.Tables.{Row, VolumeTable, rows}
use Rattle.sm_machine.specs.Disks.{uuid_before}
use Rattle.sm_machine.specs.Shapes.{chain_limit, same_image}
use Rattle.common_laws.specs.Lists.{In, given}
use Rattle.sm_record.specs.declared.records.Record.{Record}
use Rattle.sm_mgt.specs.Places.{place_count, is_of, as_reading}
use Rattle.sm_standing.specs.Checks.{record_volume_fault, too_many_fault, misnamed_fault, second_entry_fault, lost_entry_fault, old_leaf_fault}
use Rattle.sm_standing.specs.Checks.{invalid_fault, tree_fault, entry_link_fault, has_uuid, is_no_larger, children}
use Rattle.sm_standing.specs.Outlines.{Outline}
use Rattle.sm_standing.specs.Entries.{folding_uuids, image_with, is_among, is_coalescing, is_folding_leaf, is_fork_made, is_hidden, is_inflating, is_leaf_copied, is_leaf_renamed, is_leaf_swapped, is_old_of, is_past, is_there, is_visible, of_row}
use Rattle.sm_standing.specs.Ordered.{uuid_cmp}
use Rattle.sm_standing.specs.Standing.{standing_volume}
use Rattle.vhd_image.specs.Bodies.{parent_name, sector_count}
use Rattle.vhd_image.specs.declared.images.Body.{Body}
use Rattle.vhd_chain.specs.Trees.{chain_length, children as children_in, parent_of, row_name, tree_row}
use Rattle.vhd_chain.specs.declared.rows.TreeRow.{TreeRow}
use Rattle.sm_ready.specs.Outlined.{link_in}

-- an outline with these sizes and this table
pub record HasTable (geometry : Geometry) (t : VolumeTable) (x : Outline) : Type 0 where
  pub extent : x.extent ≡ geometry.extent
  pub block : x.block ≡ geometry.block
  pub entries : x.entries ≡ geometry.entries
  pub table : x.table ≡ t

-- the checks that look at these alone, in their order
abbrev pub table_faults : Outline → List (Option Place)
table_faults x = record_volume_fault x
    ∷ too_many_fault x
    ∷ misnamed_fault x
    ∷ second_entry_fault x
    ∷ lost_entry_fault x
    ∷ old_leaf_fault x
    ∷ []

-- an image of a UUID is there, or an old leaf
abbrev pub has_any : VolumeTable → List ℕ → Bool
has_any t u = is_there t (Vhd u) || (is_there t (Raw u) || is_there t (Old u))

-- exactly one of them
abbrev pub has_one : VolumeTable → List ℕ → Bool
has_one t u = if is_there t (Vhd u) then not (is_there t (Raw u)) && not (is_there t (Old u)) else if is_there t (Raw u) then not (is_there t (Old u)) else is_there t (Old u)

-- one of them that is visible and not new
abbrev pub is_any_visible : VolumeTable → List ℕ → Bool
is_any_visible t u = is_visible t (Vhd u) || (is_visible t (Raw u) || is_visible t (Old u))

-- a fork before the disk's image is renamed
abbrev pub is_begun : VolumeTable → List ℕ → List ℕ → List ℕ → Bool
is_begun t disk base twin = not (has_any t base) && (not (has_any t twin) && (has_one t disk && is_any_visible t disk))

-- a fork that has no UUID of the entry of the other group
abbrev pub is_apart : VolumeTable → List ℕ → List ℕ → List ℕ → Bool
is_apart t disk base twin = not (list_any (is_among (disk ∷ base ∷ twin ∷ [])) (folding_uuids t))

-- a fork at a stage
abbrev pub is_fork_at_stage : VolumeTable → List ℕ → List ℕ → List ℕ → Bool
is_fork_at_stage t disk base twin =
    not (bytes_eq disk base) && (not (bytes_eq disk twin) && (not (bytes_eq base twin)
    && (is_apart t disk base twin && (is_begun t disk base twin || is_fork_made t disk base twin))))

-- a copy or a link at its stage, with UUIDs that are not still to come
abbrev pub is_copy_placed : VolumeTable → List ℕ → List ℕ → Bool
is_copy_placed t child parent = is_coalescing t child parent && (is_past t.sequence child && is_past t.sequence parent)

-- the folding of a leaf at one of its stages, with UUIDs that are not still to come
abbrev pub is_leaf_placed : VolumeTable → List ℕ → List ℕ → Bool
is_leaf_placed t leaf parent = is_folding_leaf t leaf parent && (is_past t.sequence leaf && is_past t.sequence parent)

-- an entry that stands at no stage, or whose UUIDs are still to come
abbrev pub is_entry_lost : VolumeTable → Name → Bool
is_entry_lost t (Inflate u extents) = not (is_inflating t u extents) || not (is_past t.sequence u)
is_entry_lost t (Clone disk base twin) =
    not (is_fork_at_stage t disk base twin) || not (is_past t.sequence disk && (is_past t.sequence base && is_past t.sequence twin))
is_entry_lost t (Coalesce child parent) = not (is_copy_placed t child parent)
is_entry_lost t (Relink child parent) = not (is_copy_placed t child parent)
is_entry_lost t (Leaf leaf parent) = not (is_leaf_placed t leaf parent)
is_entry_lost t Mgt = false
is_entry_lost t (Vhd u) = false
is_entry_lost t (Raw u) = false
is_entry_lost t (Old u) = false
is_entry_lost t (Cbt u) = false

-- an old leaf that does not belong to this entry, where there is one
abbrev pub is_old_by : VolumeTable → List ℕ → Option Name → Bool
is_old_by t u None = false
is_old_by t u (Some e) = is_old_of t u e

abbrev pub is_old_besides : VolumeTable → Option Name → Name → Bool
is_old_besides t e (Old u) = not (is_old_by t u e)
is_old_besides t e (Cbt u) = false
is_old_besides t e Mgt = false
is_old_besides t e (Vhd u) = false
is_old_besides t e (Raw u) = false
is_old_besides t e (Clone disk base twin) = false
is_old_besides t e (Inflate image extents) = false
is_old_besides t e (Coalesce child parent) = false
is_old_besides t e (Relink child parent) = false
is_old_besides t e (Leaf leaf parent) = false

-- the checks of the images pass: each is valid, and stands in its tree as it should, also where entries stand
pub record PassImages (x : Outline) : Type 0 where
  pub valid : invalid_fault x ≡ None
  pub placed : tree_fault x ≡ None
  pub linked : entry_link_fault x ≡ None

-- an outline with the links of these rows
abbrev pub HasLinks : List TreeRow → Outline → Type 0
HasLinks xs x = (n : Name) → x.links n ≡ link_in (tree_row xs n)

-- an outline in which each image has as many children as among these rows
pub record HasChildren (xs : List TreeRow) (x : Outline) : Type 0 where
  pub vhd : (u : List ℕ) → length (children x (Vhd u)) ≡ length (children_in xs (Vhd u))
  pub raw : (u : List ℕ) → length (children x (Raw u)) ≡ length (children_in xs (Raw u))

-- an outline in which each of these rows is seen: a volume has its name, and by that it is found
abbrev pub HasVolumes : List TreeRow → Outline → Type 0
HasVolumes xs x = (y : TreeRow) → In y xs → (r : Row) × In r x.table.volumes × (r.name ≡ row_name y) × (link_in (tree_row xs (row_name y)) ≡ link_in (Some y))

-- ---- the entry of a fork, by the images in memory

-- an image that has a parent of this UUID
abbrev pub is_over : List ℕ → Body → Bool
is_over base image = elim (parent_name image) [ None ↦ false | Some q ↦ has_uuid base q ]

-- one that has the base of a fork as parent, and is none of its two new images
abbrev pub is_other_child : List ℕ → List ℕ → List ℕ → TreeRow → Bool
is_other_child disk base twin y = is_over base y.image && (not (same_image (Vhd disk) (row_name y)) && not (same_image (Vhd twin) (row_name y)))

-- a new image that is in memory has the base as parent
abbrev pub is_new_over : List TreeRow → List ℕ → List ℕ → Bool
is_new_over xs base u = elim (tree_row xs (Vhd u)) [ None ↦ true | Some y ↦ is_over base y.image ]

-- no image but the two new ones has the base as parent, and those that are in memory have it
abbrev pub is_fork_linked_in : List TreeRow → List ℕ → List ℕ → List ℕ → Bool
is_fork_linked_in xs disk base twin = is_new_over xs base disk && (is_new_over xs base twin && not (list_any (is_other_child disk base twin) xs))

-- ---- the entry of a copy or of a link, by the images in memory

-- an image that is in memory, of a size that passes a test
abbrev pub is_as_large_in : List TreeRow → (ℕ → Bool) → Name → Bool
is_as_large_in xs test n = elim (tree_row xs n) [ None ↦ false | Some y ↦ test (sector_count y.image) ]

-- an image that has a parent of this UUID, which is such an image
abbrev pub has_parent_in : List TreeRow → List ℕ → (ℕ → Bool) → Body → Bool
has_parent_in xs parent test image = elim (parent_name image) [ None ↦ false | Some q ↦ has_uuid parent q && is_as_large_in xs test q ]

-- one image has a parent of this UUID
abbrev pub has_one_child : List TreeRow → List ℕ → Bool
has_one_child xs parent =
    ((length (children_in xs (Vhd parent)) == 1) && (length (children_in xs (Raw parent)) == 0))
    || ((length (children_in xs (Vhd parent)) == 0) && (length (children_in xs (Raw parent)) == 1))

-- the child of a copy has the parent, and no other has
abbrev pub is_copy_in : List TreeRow → List ℕ → List ℕ → Bool
is_copy_in xs child parent = elim (tree_row xs (Vhd child)) [ None ↦ false | Some y ↦ has_parent_in xs parent (nat_le 0) y.image && has_one_child xs parent ]

-- the child of a link has the parent, which is as large at least
abbrev pub is_link_in : List TreeRow → List ℕ → List ℕ → Bool
is_link_in xs child parent = elim (tree_row xs (Vhd child)) [ None ↦ false | Some y ↦ has_parent_in xs parent (nat_le (sector_count y.image)) y.image ]

-- ---- the entry of the folding of a leaf, by the images in memory

-- the parent that an image has is this one
abbrev pub is_parent_named : Name → Option Name → Bool
is_parent_named p None = false
is_parent_named p (Some q) = same_image q p

-- before the swap the leaf has the parent, and no other has; from then on the image that goes on has no children
abbrev pub is_leaf_linked_in : VolumeTable → List TreeRow → List ℕ → List ℕ → Bool
is_leaf_linked_in t xs leaf parent =
    if is_leaf_copied t leaf parent then is_parent_named (Vhd parent) (parent_of xs (Vhd leaf)) && (length (children_in xs (Vhd parent)) == 1)
    else if is_leaf_renamed t leaf parent then length (children_in xs (Vhd parent)) == 0
    else if is_leaf_swapped t leaf parent then length (children_in xs (Vhd leaf)) == 0
    else true

-- an entry whose images are linked otherwise than it says: of a fork where the base is there, of a copy, of a link or of a leaf
abbrev pub is_unlinked_in : VolumeTable → List TreeRow → Name → Bool
is_unlinked_in t xs (Clone disk base twin) = is_fork_made t disk base twin && not (is_fork_linked_in xs disk base twin)
is_unlinked_in t xs (Coalesce child parent) = not (is_copy_in xs child parent)
is_unlinked_in t xs (Relink child parent) = not (is_link_in xs child parent)
is_unlinked_in t xs (Leaf leaf parent) = not (is_leaf_linked_in t xs leaf parent)
is_unlinked_in t xs Mgt = false
is_unlinked_in t xs (Vhd u) = false
is_unlinked_in t xs (Raw u) = false
is_unlinked_in t xs (Old u) = false
is_unlinked_in t xs (Cbt u) = false
is_unlinked_in t xs (Inflate image extents) = false

-- a parent that is there in memory, not new, hidden and not larger
abbrev pub is_parent_right_in : VolumeTable → List TreeRow → ℕ → Name → Bool
is_parent_right_in t xs size p = is_hidden t p && is_no_larger size (link_in (tree_row xs p))

-- an image's parent is right where it has one
abbrev pub is_linked_in : VolumeTable → List TreeRow → Body → Bool
is_linked_in t xs image = elim (parent_name image) [ None ↦ true | Some p ↦ is_parent_right_in t xs (sector_count image) p ]

-- an image in memory that is linked wrongly, or whose chain is too long
abbrev pub is_astray_in : VolumeTable → List TreeRow → Row → Option TreeRow → Bool
is_astray_in t xs r None = false
is_astray_in t xs r (Some y) = not (is_linked_in t xs y.image && nat_le (chain_length xs (suc chain_limit) r.name) chain_limit)

-- so of VHD images alone
abbrev pub is_tree_astray : VolumeTable → List TreeRow → Row → Name → Bool
is_tree_astray t xs r (Vhd u) = is_astray_in t xs r (tree_row xs (Vhd u))
is_tree_astray t xs r Mgt = false
is_tree_astray t xs r (Raw u) = false
is_tree_astray t xs r (Old u) = false
is_tree_astray t xs r (Cbt u) = false
is_tree_astray t xs r (Clone disk base twin) = false
is_tree_astray t xs r (Inflate image extents) = false
is_tree_astray t xs r (Coalesce child parent) = false
is_tree_astray t xs r (Relink child parent) = false
is_tree_astray t xs r (Leaf leaf parent) = false

-- whether a volume is there and not hidden, also while it is new
abbrev pub is_unhidden : VolumeTable → Name → Bool
is_unhidden t n = of_row (λ r. not r.hidden) (rows t n)

-- a VHD image in memory that is not hidden, and so may be no parent
abbrev pub is_leaf_name : VolumeTable → List TreeRow → Name → Bool
is_leaf_name t xs (Vhd u) = is_some (tree_row xs (Vhd u)) && is_unhidden t (Vhd u)
is_leaf_name t xs Mgt = false
is_leaf_name t xs (Raw u) = false
is_leaf_name t xs (Old u) = false
is_leaf_name t xs (Cbt u) = false
is_leaf_name t xs (Clone disk base twin) = false
is_leaf_name t xs (Inflate image extents) = false
is_leaf_name t xs (Coalesce child parent) = false
is_leaf_name t xs (Relink child parent) = false
is_leaf_name t xs (Leaf leaf parent) = false

-- an image's parent, where it is such a one
abbrev pub leaf_parent : VolumeTable → List TreeRow → TreeRow → Option Name
leaf_parent t xs y = elim (parent_name y.image) [ None ↦ None | Some p ↦ given (is_leaf_name t xs p) p ]

-- the name of such a parent of an image in memory
abbrev pub IsLeafParent : VolumeTable → List TreeRow → Name → Type 0
IsLeafParent t xs n = (y : TreeRow) × In y xs × (leaf_parent t xs y ≡ Some n)

-- one of the names of which a fact holds, with no such name before it; none where there are none
abbrev pub IsFirstName : (Name → Type 0) → Option Name → Type 0
IsFirstName P None = (n : Name) → P n → ⊥
IsFirstName P (Some n) = P n × ((m : Name) → P m → is_lt (name_cmp m n) ≡ false)

-- an image in memory that is linked wrongly, whose chain is too long, or that is visible and has children
abbrev pub is_misplaced_in : VolumeTable → List TreeRow → Row → Option TreeRow → Bool
is_misplaced_in t xs r None = false
is_misplaced_in t xs r (Some y) = not (is_linked_in t xs y.image
    && (nat_le (chain_length xs (suc chain_limit) r.name) chain_limit
    && (r.hidden || (length (children_in xs r.name) == 0))))

-- the check speaks of VHD images alone
abbrev pub tree_wrong_in : VolumeTable → List TreeRow → Row → Name → Bool
tree_wrong_in t xs r (Vhd u) = is_misplaced_in t xs r (tree_row xs (Vhd u))
tree_wrong_in t xs r Mgt = false
tree_wrong_in t xs r (Raw u) = false
tree_wrong_in t xs r (Old u) = false
tree_wrong_in t xs r (Cbt u) = false
tree_wrong_in t xs r (Clone disk base twin) = false
tree_wrong_in t xs r (Inflate image extents) = false
tree_wrong_in t xs r (Coalesce child parent) = false
tree_wrong_in t xs r (Relink child parent) = false
tree_wrong_in t xs r (Leaf leaf parent) = false

-- an outline with these places of records
pub record HasPlaces (places : List (Option Record)) (x : Outline) : Type 0 where
  pub long : length places ≡ place_count
  pub each : (k : ℕ) (o : Option Record) → slice_get places k ≡ Some o → x.readings k ≡ as_reading o

-- a UUID of which a VHD or a raw image is visible and not new
abbrev pub is_shown : VolumeTable → List ℕ → Bool
is_shown t u = is_visible t (Vhd u) || is_visible t (Raw u)

-- whether a UUID is a disk, by the entry of a fork and by whether it is one without it: the disk stands in the base where that is
-- there, and neither base nor twin is one
abbrev pub is_disk_if : VolumeTable → Bool → Option Name → List ℕ → Bool
is_disk_if t alone (Some (Clone disk base twin)) u =
    if bytes_eq u disk then is_some (image_with t base) || alone
    else not (bytes_eq u base) && (not (bytes_eq u twin) && alone)
is_disk_if t alone None u = alone
is_disk_if t alone (Some Mgt) u = alone
is_disk_if t alone (Some (Vhd own)) u = alone
is_disk_if t alone (Some (Raw own)) u = alone
is_disk_if t alone (Some (Old own)) u = alone
is_disk_if t alone (Some (Cbt own)) u = alone
is_disk_if t alone (Some (Inflate image extents)) u = alone
is_disk_if t alone (Some (Coalesce child parent)) u = alone
is_disk_if t alone (Some (Relink child parent)) u = alone
is_disk_if t alone (Some (Leaf leaf parent)) u = alone

-- so where no leaf is being folded
abbrev pub is_disk_by : VolumeTable → Option Name → List ℕ → Bool
is_disk_by t made u = is_disk_if t (is_shown t u) made u

-- the leaf that is being folded is a disk while it is swapped
abbrev pub is_swapping : VolumeTable → Option Name → List ℕ → Bool
is_swapping t (Some (Leaf leaf parent)) u = bytes_eq u leaf && (is_leaf_renamed t leaf parent || is_leaf_swapped t leaf parent)
is_swapping t None u = false
is_swapping t (Some Mgt) u = false
is_swapping t (Some (Vhd own)) u = false
is_swapping t (Some (Raw own)) u = false
is_swapping t (Some (Old own)) u = false
is_swapping t (Some (Cbt own)) u = false
is_swapping t (Some (Clone disk base twin)) u = false
is_swapping t (Some (Inflate image extents)) u = false
is_swapping t (Some (Coalesce child parent)) u = false
is_swapping t (Some (Relink child parent)) u = false

abbrev pub is_disk_under : VolumeTable → Option Name → Option Name → List ℕ → Bool
is_disk_under t folded made u = is_disk_if t (is_swapping t folded u || is_shown t u) made u

-- whether a UUID is a disk that has no record or several
abbrev pub is_unrecorded_in : VolumeTable → List (Option Record) → List ℕ → Bool
is_unrecorded_in t places u = is_some (standing_volume t u) && not (count_by (is_of u) places == 1)

-- the UUID of an image, and that of the disk of a fork or of a leaf's folding, where it is such a disk
unfoldable pub unrecorded : VolumeTable → List (Option Record) → Name → Option (List ℕ)
unrecorded t places (Vhd u) = given (is_unrecorded_in t places u) u
unrecorded t places (Raw u) = given (is_unrecorded_in t places u) u
unrecorded t places (Clone disk base twin) = given (is_unrecorded_in t places disk) disk
unrecorded t places (Leaf leaf parent) = given (is_unrecorded_in t places leaf) leaf
unrecorded t places Mgt = None
unrecorded t places (Old u) = None
unrecorded t places (Cbt u) = None
unrecorded t places (Inflate image extents) = None
unrecorded t places (Coalesce child parent) = None
unrecorded t places (Relink child parent) = None

-- the lesser of two UUIDs, where there are two
abbrev pub lesser : Option (List ℕ) → Option (List ℕ) → Option (List ℕ)
lesser None b = b
lesser (Some a) None = Some a
lesser (Some a) (Some b) = if uuid_before b a then Some b else Some a

-- one of the UUIDs of which a fact holds, before each other of them; none where there are none
abbrev pub IsLeast : (List ℕ → Type 0) → Option (List ℕ) → Type 0
IsLeast P None = (u : List ℕ) → P u → ⊥
IsLeast P (Some u) = P u × ((v : List ℕ) → P v → (v ≡ u) ⊎ (uuid_cmp u v ≡ Less))
