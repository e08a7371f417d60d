-- What an opening makes of a content (this project's format): the commits of each repair, and the shape of what stands behind them.
--   1. An image that was being enlarged is cut to the extents that it had; the entry goes.
--   2. A fork: the twin goes; where the base is there the disk's new image goes, and the base is shown and takes the disk's name, keeping
--      its kind; the entry goes.
--   3. A link: each child is linked to the parent; the entry goes.
--   4. A copy: the entry goes.
--   5. A leaf: where it was renamed the parent takes its name; where the parent has its name that is shown, and the old leaf goes; the entry goes.
--   6. Each new volume goes.
-- Here 3 to 5 stand first, then 1 and 2, then 6; the program ends a link behind 1 and 2, which leaves the same. Each commit raises
-- the sequence number by one, up to the last. Records of no disk are cleared, which no shape shows.
use Rattle.std.specs.Prelude.{ℕ, not, nat_lt, Bool, false, List, [], ◌∷◌, ◌++◌, length, map, Option, None, Some, if◌then◌else◌}
use Rattle.std.specs.List.{filter}
use Rattle.std.specs.Str.{bytes_eq}
use Rattle.sm_base.specs.declared.names.Name.{Name}
use Rattle.sm_base.specs.declared.names.Name.TheVariants.{Mgt, Vhd, Raw, Old, Cbt, Clone, Inflate, Coalesce, Relink, Leaf}
use Rattle.vg_meta.specs.Changes.{applied}
use Rattle.vg_meta.specs.Tables.{Row, VolumeTable, name_eq, rows}
use Rattle.vg_meta.specs.declared.changes.Change.{Change}
use Rattle.vg_meta.specs.declared.changes.Change.TheVariants.{Cut, Mark, Remove, Rename}
use Rattle.vg_meta.specs.declared.changes.Tag.TheVariants.{Hidden}
use Rattle.sm_machine.specs.Shapes.{ImageRow, Shape, risen}
use Rattle.sm_standing.specs.Contents.{Content}
use Rattle.sm_standing.specs.Entries.{folding, head, image_with, is_leaf_renamed, is_leaf_swapped, is_there, making, of_row}
use Rattle.sm_standing.specs.Shapes.{shape}

-- the table behind some commits, made one after the other
abbrev pub applied_all : VolumeTable → List Change → VolumeTable
applied_all t [] = t
applied_all t (c ∷ cs) = applied_all (applied t c) cs

-- a commit where it is wanted
abbrev pub wanted : Bool → Change → List Change
wanted b c = if b then c ∷ [] else []

-- ---- repairs 1 and 2: what is being made is undone

-- a volume of more extents than this
abbrev pub is_longer : ℕ → Row → Bool
is_longer extents r = nat_lt extents (length r.extents)

-- the base takes the disk's name, and keeps its kind
abbrev pub under_name : Name → List ℕ → Name
under_name (Raw b) u = Raw u
under_name Mgt u = Vhd u
under_name (Vhd v) u = Vhd u
under_name (Old v) u = Vhd u
under_name (Cbt v) u = Vhd u
under_name (Clone disk base twin) u = Vhd u
under_name (Inflate image extents) u = Vhd u
under_name (Coalesce child parent) u = Vhd u
under_name (Relink child parent) u = Vhd u
under_name (Leaf leaf parent) u = Vhd u

-- the base of a fork is the disk's image again: its new image goes, and the base is shown and takes its name, of the same kind
abbrev pub base_changes : VolumeTable → List ℕ → Option Name → List Change
base_changes t disk None = []
base_changes t disk (Some base) = wanted (is_there t (Vhd disk)) (Remove (Vhd disk)) ++ (wanted (of_row (λ r. r.hidden) (rows t base)) (Mark base Hidden false) ++ Rename base (under_name base disk) ∷ [])

-- the commits that undo the work of an entry. An enlargement: the image is cut to the extents that it had, where it has more. A fork: the twin
-- goes, where it is there, and the base is the disk's image again, where an image has its UUID. The entry goes
abbrev pub changes_back : VolumeTable → Name → List Change
changes_back t (Inflate u extents) = wanted (of_row (is_longer extents) (rows t (Vhd u))) (Cut (Vhd u) extents) ++ Remove (Inflate u extents) ∷ []
changes_back t (Clone disk base twin) = wanted (is_there t (Vhd twin)) (Remove (Vhd twin)) ++ (base_changes t disk (image_with t base) ++ Remove (Clone disk base twin) ∷ [])
changes_back t Mgt = []
changes_back t (Vhd u) = []
changes_back t (Raw u) = []
changes_back t (Old u) = []
changes_back t (Cbt u) = []
changes_back t (Coalesce child parent) = []
changes_back t (Relink child parent) = []
changes_back t (Leaf leaf parent) = []

-- the commits that undo an enlargement or a fork, whose entry is the first of its group, in the order in which an opening makes them
unfoldable pub undo_changes : VolumeTable → List Change
undo_changes t = elim (head (making t)) [ None ↦ [] | Some n ↦ changes_back t n ]

-- the table without the enlargement or the fork
unfoldable pub undone : VolumeTable → VolumeTable
undone t = applied_all t (undo_changes t)

-- ---- repairs 3 to 5: what is being folded is ended

-- the parent that is to take the leaf's name is not being enlarged any more: repair 1 finds its image by name
abbrev pub parent_changes : VolumeTable → List ℕ → Option Name → List Change
parent_changes t parent (Some (Inflate u extents)) = if bytes_eq u parent then changes_back t (Inflate u extents) else []
parent_changes t parent None = []
parent_changes t parent (Some Mgt) = []
parent_changes t parent (Some (Vhd u)) = []
parent_changes t parent (Some (Raw u)) = []
parent_changes t parent (Some (Old u)) = []
parent_changes t parent (Some (Cbt u)) = []
parent_changes t parent (Some (Clone disk base twin)) = []
parent_changes t parent (Some (Coalesce child above)) = []
parent_changes t parent (Some (Relink child above)) = []
parent_changes t parent (Some (Leaf leaf above)) = []

-- once the parent has the leaf's name and is shown
abbrev pub leaf_gone : List ℕ → List ℕ → List Change
leaf_gone leaf parent = Remove (Old leaf) ∷ Remove (Leaf leaf parent) ∷ []

-- the commits that end the folding of a leaf. Where the leaf was renamed its parent takes its name. From then on that image is shown where it
-- is hidden, and the old leaf goes. At each stage the entry goes
abbrev pub leaf_changes : VolumeTable → List ℕ → List ℕ → List Change
leaf_changes t leaf parent =
    if is_leaf_renamed t leaf parent then parent_changes t parent (head (making t)) ++ (Rename (Vhd parent) (Vhd leaf) ∷ Mark (Vhd leaf) Hidden false ∷ leaf_gone leaf parent)
    else if is_leaf_swapped t leaf parent then wanted (of_row (λ r. r.hidden) (rows t (Vhd leaf))) (Mark (Vhd leaf) Hidden false) ++ leaf_gone leaf parent
    else Remove (Leaf leaf parent) ∷ []

-- of a copy and of a link the entry goes
abbrev pub changes_ending : VolumeTable → Option Name → List Change
changes_ending t None = []
changes_ending t (Some (Leaf leaf parent)) = leaf_changes t leaf parent
changes_ending t (Some Mgt) = Remove Mgt ∷ []
changes_ending t (Some (Vhd u)) = Remove (Vhd u) ∷ []
changes_ending t (Some (Raw u)) = Remove (Raw u) ∷ []
changes_ending t (Some (Old u)) = Remove (Old u) ∷ []
changes_ending t (Some (Cbt u)) = Remove (Cbt u) ∷ []
changes_ending t (Some (Clone disk base twin)) = Remove (Clone disk base twin) ∷ []
changes_ending t (Some (Inflate image extents)) = Remove (Inflate image extents) ∷ []
changes_ending t (Some (Coalesce child parent)) = Remove (Coalesce child parent) ∷ []
changes_ending t (Some (Relink child parent)) = Remove (Relink child parent) ∷ []

-- the commits that end a copy, a link or the folding of a leaf, whose entry is the first of its group, in the order in which an opening makes them
unfoldable pub end_changes : VolumeTable → List Change
end_changes t = changes_ending t (head (folding t))

-- the table without the entry of a copy, of a link or of the folding of a leaf
unfoldable pub ended : VolumeTable → VolumeTable
ended t = applied_all t (end_changes t)

-- the image that has the UUID of an entry's parent
abbrev pub parent_name : VolumeTable → List ℕ → Name
parent_name t u = elim (image_with t u) [ None ↦ Vhd u | Some n ↦ n ]

-- an image that reads through the one reads through the other
abbrev pub past_parent : Name → Name → Option Name → Option Name
past_parent v p None = None
past_parent v p (Some n) = if name_eq n v then Some p else Some n

abbrev pub linked_past : Name → Name → Shape → Shape
linked_past v p s = record s { images = map (λ (i : ImageRow). record i { parent = past_parent v p i.parent }) s.images }

abbrev pub linked_by : VolumeTable → Option Name → Shape → Shape
linked_by t (Some (Relink child parent)) s = linked_past (Vhd child) (parent_name t parent) s
linked_by t None s = s
linked_by t (Some Mgt) s = s
linked_by t (Some (Vhd u)) s = s
linked_by t (Some (Raw u)) s = s
linked_by t (Some (Old u)) s = s
linked_by t (Some (Cbt u)) s = s
linked_by t (Some (Clone disk base twin)) s = s
linked_by t (Some (Inflate image extents)) s = s
linked_by t (Some (Coalesce child parent)) s = s
linked_by t (Some (Leaf leaf parent)) s = s

-- a shape in which each child of an image has that image's parent for its own, where the table has an entry that links the image's children
abbrev pub linked_up : VolumeTable → Shape → Shape
linked_up t s = linked_by t (head (folding t)) s

-- ---- repair 6: each new volume goes

-- how many of these volumes are new, and those that are not
abbrev pub new_count : List Row → ℕ
new_count rs = length (filter (λ r. r.fresh) rs)

abbrev pub filled : List Row → List Row
filled rs = filter (λ r. not r.fresh) rs

-- the table without its new volumes, and its sequence number raised by one for each of them, up to the last
unfoldable pub cleaned : VolumeTable → VolumeTable
cleaned t = record { sequence = risen t.sequence (new_count t.volumes); volumes = filled t.volumes }

-- ---- what an opening makes of a content

abbrev pub on_table : Content → VolumeTable → Content
on_table c t = record c { table = t }

-- what an opening makes of a content: its shape with the table behind these commits, in which what is being folded is ended, what is being made
-- is undone and each new volume goes, and with the children of an image that is being linked past linked to that image's parent
unfoldable pub opened : Content → Shape
opened c = linked_up c.table (shape (on_table c (cleaned (undone (ended c.table)))))
