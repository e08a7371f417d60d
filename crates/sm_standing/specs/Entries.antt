-- Journal entries: volumes without extents whose names say which work is in progress, and the stages of that work
-- as far as the table of volumes shows them (this project's format).
use Rattle.std.specs.Prelude.{ℕ, ◌==◌, ◌&&◌, ◌||◌, not, nat_lt, nat_le, Bool, true, false, List, [], ◌∷◌, length, drop, Option, Some, None, is_some, is_none}
use Rattle.std.specs.List.{filter, find, list_any, list_all}
use Rattle.std.specs.Int.{w64, from_be_bytes}
use Rattle.std.specs.Str.{bytes_eq}
use Rattle.sm_base.specs.Names.{is_base}
use Rattle.sm_base.specs.declared.names.Name.{Name}
use Rattle.sm_base.specs.declared.names.Name.TheVariants.{Mgt, Vhd, Raw, Old, Cbt, Clone, Inflate, Coalesce, Relink, Leaf}
use Rattle.vg_meta.specs.Tables.{VolumeTable, Row, rows, names_of}

-- ---- volumes as the entries speak of them

-- a test of the volume of a name; false where there is none
abbrev pub of_row : (Row → Bool) → Option Row → Bool
of_row test None = false
of_row test (Some r) = test r

-- whether a volume of this name is there
abbrev pub is_there : VolumeTable → Name → Bool
is_there t n = is_some (rows t n)

-- whether the volume of a name is there, and not new
abbrev pub is_filled : VolumeTable → Name → Bool
is_filled t n = of_row (λ r. not r.fresh) (rows t n)

-- whether the volume of a name is there, not new, and hidden
abbrev pub is_hidden : VolumeTable → Name → Bool
is_hidden t n = of_row (λ r. r.hidden && not r.fresh) (rows t n)

-- whether the volume of a name is there, not new, and not hidden
abbrev pub is_visible : VolumeTable → Name → Bool
is_visible t n = of_row (λ r. not r.hidden && not r.fresh) (rows t n)

-- whether the volume of a name is not there, or not hidden
abbrev pub is_visible_or_gone : VolumeTable → Name → Bool
is_visible_or_gone t n = is_none (rows t n) || of_row (λ r. not r.hidden) (rows t n)

-- the images that have a UUID, the old leaf among them
abbrev pub images_with : VolumeTable → List ℕ → List Name
images_with t u = filter (is_there t) (Vhd u ∷ Raw u ∷ Old u ∷ [])

abbrev pub has_image : VolumeTable → List ℕ → Bool
has_image t u = not (length (images_with t u) == 0)

-- the VHD or raw image that has a UUID, visible or hidden
unfoldable pub image_with : VolumeTable → List ℕ → Option Name
image_with t u = find (is_there t) (Vhd u ∷ Raw u ∷ [])

-- ---- the two groups of entries

-- copying, linking and folding
abbrev pub is_folding : Name → Bool
is_folding (Coalesce child parent) = true
is_folding (Relink child parent) = true
is_folding (Leaf leaf parent) = true
is_folding Mgt = false
is_folding (Vhd u) = false
is_folding (Raw u) = false
is_folding (Old u) = false
is_folding (Cbt u) = false
is_folding (Clone disk base twin) = false
is_folding (Inflate image extents) = false

-- forking and enlarging
abbrev pub is_making : Name → Bool
is_making (Clone disk base twin) = true
is_making (Inflate image extents) = true
is_making Mgt = false
is_making (Vhd u) = false
is_making (Raw u) = false
is_making (Old u) = false
is_making (Cbt u) = false
is_making (Coalesce child parent) = false
is_making (Relink child parent) = false
is_making (Leaf leaf parent) = false

-- the names of volumes that pass a test, in order
abbrev pub names_in : VolumeTable → (Name → Bool) → List Name
names_in t test = filter test (names_of t.volumes)

-- the entries of what is being folded, in order of name
abbrev pub folding : VolumeTable → List Name
folding t = names_in t is_folding

-- the entries of what is being made, a fork or an enlargement, in order of name
abbrev pub making : VolumeTable → List Name
making t = names_in t is_making

-- the first of some names
abbrev pub head : List Name → Option Name
head [] = None
head (n ∷ ns) = Some n

-- the second of some names
abbrev pub second : List Name → Option Name
second [] = None
second (n ∷ ns) = head ns

-- ---- the number in a base image's UUID

-- the number in the last six bytes
abbrev pub base_number : List ℕ → ℕ
base_number u = from_be_bytes w64 (0 ∷ 0 ∷ drop 10 u)

-- a UUID of the form of base images has a number below the sequence number
abbrev pub is_past : ℕ → List ℕ → Bool
is_past sequence u = not (is_base u) || nat_lt (base_number u) sequence

-- the UUIDs in a name
abbrev pub uuids_in : Name → List (List ℕ)
uuids_in Mgt = []
uuids_in (Vhd u) = u ∷ []
uuids_in (Raw u) = u ∷ []
uuids_in (Old u) = u ∷ []
uuids_in (Cbt u) = []
uuids_in (Clone disk base twin) = disk ∷ base ∷ twin ∷ []
uuids_in (Inflate image extents) = image ∷ []
uuids_in (Coalesce child parent) = child ∷ parent ∷ []
uuids_in (Relink child parent) = child ∷ parent ∷ []
uuids_in (Leaf leaf parent) = leaf ∷ parent ∷ []

abbrev pub are_past : VolumeTable → Name → Bool
are_past t n = list_all (is_past t.sequence) (uuids_in n)

-- ---- stages, as far as the table shows them

-- enlarging: the image is there, not new, with at least the extents that it had
abbrev pub is_inflating : VolumeTable → List ℕ → ℕ → Bool
is_inflating t u extents = of_row (λ r. not r.fresh && nat_le extents (length r.extents)) (rows t (Vhd u))

-- forking, before the disk's image is renamed: no image has the base's UUID or the twin's, and the disk's is visible; an
-- old leaf counts as an image here
abbrev pub is_fork_begun : VolumeTable → List ℕ → List ℕ → List ℕ → Bool
is_fork_begun t disk base twin =
    not (has_image t base)
    && (not (has_image t twin)
    && ((length (images_with t disk) == 1) && (is_visible t (Vhd disk) || (is_visible t (Raw disk) || is_visible t (Old disk)))))

-- forking, afterwards: the base is there; the disk's and the twin's new images may be there, and then it is hidden
abbrev pub is_fork_made : VolumeTable → List ℕ → List ℕ → List ℕ → Bool
is_fork_made t disk base twin =
    (is_filled t (Vhd base) || is_filled t (Raw base))
    && (not (is_there t (Raw disk))
    && (not (is_there t (Raw twin))
    && (is_visible_or_gone t (Vhd disk)
    && (is_visible_or_gone t (Vhd twin)
    && ((not (is_there t (Vhd disk)) && not (is_there t (Vhd twin))) || (is_hidden t (Vhd base) || is_hidden t (Raw base)))))))

-- the UUIDs of the entry of the other group
abbrev pub folding_uuids : VolumeTable → List (List ℕ)
folding_uuids t = elim (head (folding t)) [ None ↦ [] | Some n ↦ uuids_in n ]

abbrev pub is_among : List (List ℕ) → List ℕ → Bool
is_among us u = list_any (λ v. bytes_eq v u) us

abbrev pub is_forking : VolumeTable → List ℕ → List ℕ → List ℕ → Bool
is_forking t disk base twin =
    not (bytes_eq disk base) && (not (bytes_eq disk twin) && (not (bytes_eq base twin)
    && (not (list_any (is_among (disk ∷ base ∷ twin ∷ [])) (folding_uuids t))
    && (is_fork_begun t disk base twin || is_fork_made t disk base twin))))

-- copying and linking: the child is there, hidden, and so is an image of the parent's UUID
abbrev pub is_coalescing : VolumeTable → List ℕ → List ℕ → Bool
is_coalescing t child parent = is_hidden t (Vhd child) && (is_hidden t (Vhd parent) || is_hidden t (Raw parent))

-- the folding of a leaf, before its swap: the leaf is there, and its parent hidden
abbrev pub is_leaf_copied : VolumeTable → List ℕ → List ℕ → Bool
is_leaf_copied t leaf parent = is_visible t (Vhd leaf) && (is_hidden t (Vhd parent) && not (is_there t (Old leaf)))

-- the folding of a leaf, after the leaf became an old leaf: no image has its name
abbrev pub is_leaf_renamed : VolumeTable → List ℕ → List ℕ → Bool
is_leaf_renamed t leaf parent =
    is_there t (Old leaf) && (is_hidden t (Vhd parent) && (not (is_there t (Vhd leaf)) && not (is_there t (Raw leaf))))

-- the folding of a leaf, after the parent took its name: the old leaf is still there
abbrev pub is_leaf_swapped : VolumeTable → List ℕ → List ℕ → Bool
is_leaf_swapped t leaf parent = is_there t (Old leaf) && (is_filled t (Vhd leaf) && not (is_there t (Vhd parent)))

-- the folding of a leaf, after the old leaf is gone
abbrev pub is_leaf_folded : VolumeTable → List ℕ → List ℕ → Bool
is_leaf_folded t leaf parent = is_visible t (Vhd leaf) && (not (is_there t (Old leaf)) && not (is_there t (Vhd parent)))

-- the folding of a leaf stands at one of its four stages
abbrev pub is_folding_leaf : VolumeTable → List ℕ → List ℕ → Bool
is_folding_leaf t leaf parent =
    is_leaf_copied t leaf parent || (is_leaf_renamed t leaf parent || (is_leaf_swapped t leaf parent || is_leaf_folded t leaf parent))

-- an entry stands at a stage; any other volume has none
unfoldable pub is_at_stage : VolumeTable → Name → Bool
is_at_stage t Mgt = true
is_at_stage t (Vhd u) = true
is_at_stage t (Raw u) = true
is_at_stage t (Old u) = true
is_at_stage t (Cbt u) = true
is_at_stage t (Clone disk base twin) = is_forking t disk base twin
is_at_stage t (Inflate image extents) = is_inflating t image extents
is_at_stage t (Coalesce child parent) = is_coalescing t child parent
is_at_stage t (Relink child parent) = is_coalescing t child parent
is_at_stage t (Leaf leaf parent) = is_folding_leaf t leaf parent

-- the old leaf of a swap that is under way
abbrev pub is_old_of : VolumeTable → List ℕ → Name → Bool
is_old_of t u (Leaf leaf parent) = bytes_eq leaf u && (is_leaf_renamed t leaf parent || is_leaf_swapped t leaf parent)
is_old_of t u Mgt = false
is_old_of t u (Vhd v) = false
is_old_of t u (Raw v) = false
is_old_of t u (Old v) = false
is_old_of t u (Cbt v) = false
is_old_of t u (Clone disk base twin) = false
is_old_of t u (Inflate image extents) = false
is_old_of t u (Coalesce child parent) = false
is_old_of t u (Relink child parent) = false
