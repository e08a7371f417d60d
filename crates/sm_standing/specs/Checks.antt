-- The checks of an opening from the sixth on, in their order, each with the place that it names (this project's
-- format). The first that fails gives the answer; a repository of which none fails is sound. Names are in byte order
-- of their spelling, as they stand in the table.
--    6. The volume of records is there with exactly its extents.
--    7. There are at most 500 images. No two of the VHD and raw images have the same UUID, and a base image's UUID
--       has a number below the table's sequence number.
--    8. There is at most one entry of each group. Each stands at a stage as far as the table shows it, and its base
--       UUIDs have numbers below the sequence number.
--    9. Each old leaf belongs to a swap that is under way.
--   10. Each VHD image that is not new is valid, and each raw image that is not new has at most as many blocks as a
--       table has entries.
--   11. The parent of each of these VHD images is there, not new, hidden and not larger; its chain has at most 30
--       images; a visible one has no children.
--   12. The entries' conditions on parents and children hold.
--   13. Each record sector is free or right, and each disk has exactly one record.
use Rattle.std.specs.Prelude.{◌≡◌, ℕ, zero, suc, ◌*◌, ◌==◌, ◌&&◌, ◌||◌, not, nat_lt, nat_le, Bool, true, false, List, [], ◌∷◌, ◌++◌, length, Option, Some, None, is_some, is_none, if◌then◌else◌}
use Rattle.std.specs.List.{filter, find, list_any}
use Rattle.std.specs.Ordering.{is_lt}
use Rattle.sm_base.specs.Names.{name_cmp}
use Rattle.sm_base.specs.declared.faults.Place.{Place}
use Rattle.sm_base.specs.declared.faults.Place.TheVariants as at
use Rattle.sm_base.specs.declared.names.Name.{Name}
use Rattle.sm_base.specs.declared.names.Name.TheVariants.{Mgt, Vhd, Raw, Old, Cbt, Clone, Inflate, Coalesce, Relink, Leaf}
use Rattle.vg_layout.specs.Places.{record_extents}
use Rattle.sm_base.specs.Kinds.{is_image as is_data, is_entry}
use Rattle.vg_meta.specs.Tables.{VolumeTable, Row, rows}
use Rattle.vg_volumes.specs.Volumes.{span}
use Rattle.common_laws.specs.Lists.{In, given, first_some, numbers}
use Rattle.sm_machine.specs.Shapes.{same_image, image_limit, chain_limit}
use Rattle.sm_record.specs.declared.records.Reading.{Reading}
use Rattle.sm_record.specs.declared.records.Reading.TheVariants.{Free, Taken, Damaged}
use Rattle.sm_standing.specs.Contents.{Content, record_count, is_record_of}
use Rattle.sm_standing.specs.Entries.{is_there, is_hidden, are_past, is_at_stage, is_old_of, is_fork_made, is_leaf_copied, is_leaf_renamed, is_leaf_swapped, folding, making, second}
use Rattle.sm_standing.specs.Outlines.{Outline, Link, parent_in, outline, outline_records}
use Rattle.sm_standing.specs.Standing.{standing_volume, uuids}

-- the name of the first volume that passes a test, in order of name
abbrev pub name_in : Option Row → Option Name
name_in None = None
name_in (Some r) = Some r.name

unfoldable pub first_name : (Row → Bool) → List Row → Option Name
first_name test rs = name_in (find test rs)

-- a place where there is a name
abbrev pub placed : (Name → Place) → Option Name → Option Place
placed place None = None
placed place (Some n) = Some (place n)

-- ---- 6: the volume of records

abbrev pub has_records : Outline → Option Row → Bool
has_records o None = false
has_records o (Some r) = length r.extents == record_extents o.extent

unfoldable pub record_volume_fault : Outline → Option Place
record_volume_fault o = given (not (has_records o (rows o.table Mgt))) at.Mgt

-- ---- 7: the images

abbrev pub images : VolumeTable → List Row
images t = filter (λ r. is_data r.name) t.volumes

unfoldable pub too_many_fault : Outline → Option Place
too_many_fault o = given (nat_lt image_limit (length (images o.table))) at.Images

-- a VHD and a raw image have one UUID
abbrev pub has_twin : VolumeTable → Name → Bool
has_twin t (Vhd u) = is_there t (Raw u)
has_twin t (Raw u) = is_there t (Vhd u)
has_twin t Mgt = false
has_twin t (Old u) = false
has_twin t (Cbt u) = false
has_twin t (Clone disk base twin) = false
has_twin t (Inflate image extents) = false
has_twin t (Coalesce child parent) = false
has_twin t (Relink child parent) = false
has_twin t (Leaf leaf parent) = false

abbrev pub is_misnamed : VolumeTable → Row → Bool
is_misnamed t r = is_data r.name && (has_twin t r.name || not (are_past t r.name))

unfoldable pub misnamed_fault : Outline → Option Place
misnamed_fault o = placed at.Image (first_name (is_misnamed o.table) o.table.volumes)

-- ---- 8: the entries, by the table

-- the lesser of two names, where there are two
abbrev pub lesser : Option Name → Option Name → Option Name
lesser None b = b
lesser (Some a) None = Some a
lesser (Some a) (Some b) = if is_lt (name_cmp a b) then Some a else Some b

unfoldable pub second_entry_fault : Outline → Option Place
second_entry_fault o = placed at.Journal (lesser (second (folding o.table)) (second (making o.table)))

abbrev pub is_lost : VolumeTable → Row → Bool
is_lost t r = is_entry r.name && not (is_at_stage t r.name && are_past t r.name)

unfoldable pub lost_entry_fault : Outline → Option Place
lost_entry_fault o = placed at.Journal (first_name (is_lost o.table) o.table.volumes)

-- ---- 9: old leaves

abbrev pub is_orphaned : VolumeTable → Name → Bool
is_orphaned t (Old u) = not (list_any (is_old_of t u) (folding t))
is_orphaned t (Cbt u) = false
is_orphaned t Mgt = false
is_orphaned t (Vhd u) = false
is_orphaned t (Raw u) = false
is_orphaned t (Clone disk base twin) = false
is_orphaned t (Inflate image extents) = false
is_orphaned t (Coalesce child parent) = false
is_orphaned t (Relink child parent) = false
is_orphaned t (Leaf leaf parent) = false

unfoldable pub old_leaf_fault : Outline → Option Place
old_leaf_fault o = placed at.Image (first_name (λ r. is_orphaned o.table r.name) o.table.volumes)

-- ---- 10: each image by itself

-- a raw image that has more blocks than a table has entries
abbrev pub is_oversize : ℕ → ℕ → ℕ → Row → Bool
is_oversize extent block entries r = nat_lt (entries * block) (span extent r.extents)

abbrev pub is_image_wrong : Outline → Row → Name → Bool
is_image_wrong o r (Vhd u) = is_none (o.links (Vhd u))
is_image_wrong o r (Raw u) = is_oversize o.extent o.block o.entries r
is_image_wrong o r Mgt = false
is_image_wrong o r (Old u) = false
is_image_wrong o r (Cbt u) = false
is_image_wrong o r (Clone disk base twin) = false
is_image_wrong o r (Inflate image extents) = false
is_image_wrong o r (Coalesce child parent) = false
is_image_wrong o r (Relink child parent) = false
is_image_wrong o r (Leaf leaf parent) = false

-- an image that is not new and fails the check of each image by itself
abbrev pub is_invalid : Outline → Row → Bool
is_invalid o r = not r.fresh && is_image_wrong o r r.name

-- the first image, by name, that fails the check of each image by itself
unfoldable pub invalid_fault : Outline → Option Place
invalid_fault o = placed at.Image (first_name (is_invalid o) o.table.volumes)

-- ---- 11: parents and chains

-- whether a link names this parent
abbrev pub parent_is : Name → Option Link → Bool
parent_is p None = false
parent_is p (Some i) = elim i.parent [ None ↦ false | Some q ↦ same_image q p ]

-- the volumes whose images have this parent
unfoldable pub children : Outline → Name → List Row
children o p = filter (λ r. parent_is p (o.links r.name)) o.table.volumes

-- the number of names from one up, each named as parent by the image below it, counted up to a limit
unfoldable pub depth : Outline → ℕ → Name → ℕ
depth o zero n = 0
depth o (suc most) n = suc (elim (parent_in o n) [ None ↦ 0 | Some p ↦ depth o most p ])

-- the number of images of a chain from one up, counted up to a limit: a parent that is not there is none
unfoldable pub chain_length : Outline → ℕ → Name → ℕ
chain_length o zero n = 0
chain_length o (suc most) n = elim (o.links n) [ None ↦ 0 | Some i ↦ suc (elim i.parent [ None ↦ 0 | Some p ↦ chain_length o most p ]) ]

-- an image of at most this size
abbrev pub is_no_larger : ℕ → Option Link → Bool
is_no_larger size None = false
is_no_larger size (Some i) = nat_le i.size size

-- a parent that is there, not new, hidden and not larger
abbrev pub is_parent_right : Outline → ℕ → Name → Bool
is_parent_right o size p = is_hidden o.table p && is_no_larger size (o.links p)

-- an image's parent is right where it has one
abbrev pub is_linked : Outline → Link → Bool
is_linked o i = elim i.parent [ None ↦ true | Some p ↦ is_parent_right o i.size p ]

-- an image that is linked wrongly, whose chain is too long, or that is visible and has children
abbrev pub is_misplaced : Outline → Row → Option Link → Bool
is_misplaced o r None = false
is_misplaced o r (Some i) = not (is_linked o i
    && (nat_le (chain_length o (suc chain_limit) r.name) chain_limit
    && (r.hidden || (length (children o r.name) == 0))))

-- the check speaks of VHD images alone
abbrev pub tree_wrong_as : Outline → Row → Name → Bool
tree_wrong_as o r (Vhd u) = is_misplaced o r (o.links (Vhd u))
tree_wrong_as o r Mgt = false
tree_wrong_as o r (Raw u) = false
tree_wrong_as o r (Old u) = false
tree_wrong_as o r (Cbt u) = false
tree_wrong_as o r (Clone disk base twin) = false
tree_wrong_as o r (Inflate image extents) = false
tree_wrong_as o r (Coalesce child parent) = false
tree_wrong_as o r (Relink child parent) = false
tree_wrong_as o r (Leaf leaf parent) = false

-- a VHD image that is linked wrongly, whose chain is too long, or that is visible and has children
abbrev pub is_tree_wrong : Outline → Row → Bool
is_tree_wrong o r = tree_wrong_as o r r.name

-- the first image, by name, that fails the check of parents and children
unfoldable pub tree_fault : Outline → Option Place
tree_fault o = placed at.Tree (first_name (is_tree_wrong o) o.table.volumes)

-- ---- 12: the entries, by parents and children

-- an image of this UUID
abbrev pub has_uuid : List ℕ → Name → Bool
has_uuid u n = same_image n (Vhd u) || same_image n (Raw u)

-- a test of an image; false where there is none
abbrev pub of_image : (Link → Bool) → Option Link → Bool
of_image test None = false
of_image test (Some i) = test i

-- a parent of this UUID, which passes a test
abbrev pub has_such_parent : Outline → List ℕ → (Link → Bool) → Option Name → Bool
has_such_parent o parent test None = false
has_such_parent o parent test (Some q) = has_uuid parent q && of_image test (o.links q)

-- child and parent pass a test
abbrev pub has_parent_of : Outline → List ℕ → List ℕ → (Link → Link → Bool) → Bool
has_parent_of o child parent test = of_image (λ v. has_such_parent o parent (test v) v.parent) (o.links (Vhd child))

-- all children of either image with this UUID
abbrev pub children_with : Outline → List ℕ → List Row
children_with o u = children o (Vhd u) ++ children o (Raw u)

-- a new image of a fork that is filled has the base as parent, and nothing else has
abbrev pub is_base_of : List ℕ → Option Link → Bool
is_base_of base None = true
is_base_of base (Some i) = elim i.parent [ None ↦ false | Some q ↦ has_uuid base q ]

abbrev pub is_fork_linked : Outline → List ℕ → List ℕ → List ℕ → Bool
is_fork_linked o disk base twin =
    not (is_fork_made o.table disk base twin)
    || (is_base_of base (o.links (Vhd disk))
    && (is_base_of base (o.links (Vhd twin))
    && (length (filter (λ r. not (same_image r.name (Vhd disk) || same_image r.name (Vhd twin))) (children_with o base)) == 0)))

abbrev pub is_leaf_linked : Outline → List ℕ → List ℕ → Bool
is_leaf_linked o leaf parent =
    if is_leaf_copied o.table leaf parent
    then parent_is (Vhd parent) (o.links (Vhd leaf)) && (length (children o (Vhd parent)) == 1)
    else if is_leaf_renamed o.table leaf parent then length (children o (Vhd parent)) == 0
    else if is_leaf_swapped o.table leaf parent then length (children o (Vhd leaf)) == 0
    else true

unfoldable pub is_entry_linked : Outline → Name → Bool
is_entry_linked o (Clone disk base twin) = is_fork_linked o disk base twin
is_entry_linked o (Coalesce child parent) =
    has_parent_of o child parent (λ v p. true) && (length (children_with o parent) == 1)
is_entry_linked o (Relink child parent) = has_parent_of o child parent (λ v p. nat_le v.size p.size)
is_entry_linked o (Leaf leaf parent) = is_leaf_linked o leaf parent
is_entry_linked o Mgt = true
is_entry_linked o (Vhd u) = true
is_entry_linked o (Raw u) = true
is_entry_linked o (Old u) = true
is_entry_linked o (Cbt u) = true
is_entry_linked o (Inflate image extents) = true

-- the first journal entry, by name, whose images are not linked as its stage wants
unfoldable pub entry_link_fault : Outline → Option Place
entry_link_fault o = placed at.Journal (first_name (λ r. not (is_entry_linked o r.name)) o.table.volumes)

-- ---- 13: the records

abbrev pub is_damaged : Reading → Bool
is_damaged Free = false
is_damaged (Taken r) = false
is_damaged Damaged = true

abbrev pub record_place : Option ℕ → Option Place
record_place None = None
record_place (Some k) = Some (at.Record k)

unfoldable pub record_fault : Outline → Option Place
record_fault o = record_place (find (λ k. is_damaged (o.readings k)) (numbers 0 record_count))

-- the UUIDs that are disks, in order
abbrev pub disk_uuids : Outline → List (List ℕ)
disk_uuids o = filter (λ u. is_some (standing_volume o.table u)) (uuids o.table)

abbrev pub is_unrecorded : Outline → List ℕ → Bool
is_unrecorded o u = not (length (filter (is_record_of u) (outline_records o)) == 1)

abbrev pub disk_place : Option (List ℕ) → Option Place
disk_place None = None
disk_place (Some u) = Some (at.Disk u)

-- the first disk, by UUID, that has no record, or more than one
unfoldable pub disk_fault : Outline → Option Place
disk_fault o = disk_place (find (is_unrecorded o) (disk_uuids o))

-- ---- all of them

-- the place that each check names, in their order
abbrev pub all_faults : Outline → List (Option Place)
all_faults o = record_volume_fault o
    ∷ too_many_fault o
    ∷ misnamed_fault o
    ∷ second_entry_fault o
    ∷ lost_entry_fault o
    ∷ old_leaf_fault o
    ∷ invalid_fault o
    ∷ tree_fault o
    ∷ entry_link_fault o
    ∷ record_fault o
    ∷ disk_fault o
    ∷ []

-- the place of the first check that fails on an outline
unfoldable pub fault_of : Outline → Option Place
fault_of o = first_some (all_faults o)

-- the place of the first check that fails on a content
abbrev pub first_fault : Content → Option Place
first_fault c = fault_of (outline c)

-- ---- where no leaf is being folded

-- an entry of the folding of a leaf
abbrev pub is_leaf_entry : Name → Bool
is_leaf_entry (Leaf leaf parent) = true
is_leaf_entry Mgt = false
is_leaf_entry (Vhd u) = false
is_leaf_entry (Raw u) = false
is_leaf_entry (Old u) = false
is_leaf_entry (Cbt u) = false
is_leaf_entry (Clone disk base twin) = false
is_leaf_entry (Inflate image extents) = false
is_leaf_entry (Coalesce child parent) = false
is_leaf_entry (Relink child parent) = false

-- no check fails on an outline, and no entry of the folding of a leaf is there. So no volume is an old leaf, as that belongs to such an entry
pub record PassesButLeaf (o : Outline) : Type 0 where
  pub sound : fault_of o ≡ None
  pub no_leaf : (r : Row) → In r o.table.volumes → is_leaf_entry r.name ≡ false

-- no check fails on a content, and no leaf is being folded in it
abbrev pub IsSoundButLeaf : Content → Type 0
IsSoundButLeaf c = PassesButLeaf (outline c)
