-- The folding of a leaf that a stop has cut short is ended before all else that is under way: what becomes of the table, and of the
-- images in memory.
use Rattle.std.specs.Prelude.{◌≡◌, ℕ, ◌+◌, ◌≤◌, true, false, List, [], ◌∷◌, ◌++◌, length, Option, None, Some, if◌then◌else◌}
use Rattle.sm_base.specs.Names.{IsName}
use Rattle.sm_base.specs.declared.names.Name.{Name}
use Rattle.sm_base.specs.declared.names.Name.TheVariants.{Mgt, Vhd, Raw, Old, Cbt, Clone, Inflate, Coalesce, Relink, Leaf}
use Rattle.vg_meta.specs.Tables.{VolumeTable}
use Rattle.vg_meta.specs.declared.changes.Change.{Change}
use Rattle.vg_meta.specs.declared.changes.Change.TheVariants.{Mark, Rename}
use Rattle.vg_meta.specs.declared.changes.Tag.TheVariants.{Hidden}
use Rattle.sm_standing.specs.Dropped.{drop_changes, dropped}
use Rattle.sm_standing.specs.Entries.{folding, head, is_leaf_renamed, making}
use Rattle.sm_standing.specs.Opened.{applied_all, end_changes, ended, leaf_changes, leaf_gone, new_count, parent_changes, undo_changes, wanted}
use Rattle.sm_standing.specs.Unfolded.{unfolded}
use Rattle.vhd_chain.specs.Trees.{tree_row, without}
use Rattle.vhd_chain.specs.declared.rows.TreeRow.{TreeRow}
use Rattle.sm_recover.specs.Backs.{base_back}
use Rattle.sm_recover.specs.Steps.{is_marked}

-- the parent takes the leaf's name, and is shown
abbrev pub name_taken : List ℕ → List ℕ → List Change
name_taken leaf parent = Rename (Vhd parent) (Vhd leaf) ∷ Mark (Vhd leaf) Hidden false ∷ []

-- the changes where the leaf was renamed, and where its parent has its name
abbrev pub renamed_changes : VolumeTable → List ℕ → List ℕ → List Change
renamed_changes t leaf parent = parent_changes t parent (head (making t)) ++ (name_taken leaf parent ++ leaf_gone leaf parent)

abbrev pub swapped_changes : VolumeTable → List ℕ → List ℕ → List Change
swapped_changes t leaf parent = wanted (is_marked t (Some (Vhd leaf))) (Mark (Vhd leaf) Hidden false) ++ leaf_gone leaf parent

-- the changes that end it, where its entry is there
abbrev pub leaf_ends : VolumeTable → Option Name → List Change
leaf_ends t (Some (Leaf leaf parent)) = leaf_changes t leaf parent
leaf_ends t None = []
leaf_ends t (Some Mgt) = []
leaf_ends t (Some (Vhd u)) = []
leaf_ends t (Some (Raw u)) = []
leaf_ends t (Some (Old u)) = []
leaf_ends t (Some (Cbt u)) = []
leaf_ends t (Some (Clone disk base twin)) = []
leaf_ends t (Some (Inflate image extents)) = []
leaf_ends t (Some (Coalesce child parent)) = []
leaf_ends t (Some (Relink child parent)) = []

-- the table without it
abbrev pub unleafed : VolumeTable → VolumeTable
unleafed t = applied_all t (leaf_ends t (head (folding t)))

-- the row of the image that goes on has the leaf's name, and is shown: where the leaf was renamed it is the parent's
abbrev pub leaf_back : VolumeTable → Option Name → List TreeRow → List TreeRow
leaf_back t (Some (Leaf leaf parent)) xs =
    if is_leaf_renamed t leaf parent then base_back (Vhd parent) (Vhd leaf) xs else base_back (Vhd leaf) (Vhd leaf) xs
leaf_back t None xs = xs
leaf_back t (Some Mgt) xs = xs
leaf_back t (Some (Vhd u)) xs = xs
leaf_back t (Some (Raw u)) xs = xs
leaf_back t (Some (Old u)) xs = xs
leaf_back t (Some (Cbt u)) xs = xs
leaf_back t (Some (Clone disk base twin)) xs = xs
leaf_back t (Some (Inflate image extents)) xs = xs
leaf_back t (Some (Coalesce child parent)) xs = xs
leaf_back t (Some (Relink child parent)) xs = xs

-- the rows in memory without it
unfoldable pub rows_ended : VolumeTable → List TreeRow → List TreeRow
rows_ended t xs = leaf_back t (head (folding t)) xs

-- the leaf's name is one, and no row has it while it is free
abbrev pub CanEnd : VolumeTable → Option Name → List TreeRow → Type 0
CanEnd t (Some (Leaf leaf parent)) xs = IsName (Vhd leaf) × (is_leaf_renamed t leaf parent ≡ true → tree_row (without (Vhd parent) xs) (Vhd leaf) ≡ None)
CanEnd t None xs = Unit {0}
CanEnd t (Some Mgt) xs = Unit {0}
CanEnd t (Some (Vhd u)) xs = Unit {0}
CanEnd t (Some (Raw u)) xs = Unit {0}
CanEnd t (Some (Old u)) xs = Unit {0}
CanEnd t (Some (Cbt u)) xs = Unit {0}
CanEnd t (Some (Clone disk base twin)) xs = Unit {0}
CanEnd t (Some (Inflate image extents)) xs = Unit {0}
CanEnd t (Some (Coalesce child parent)) xs = Unit {0}
CanEnd t (Some (Relink child parent)) xs = Unit {0}

-- once a leaf's folding is ended the entry of a copy or of a link is all that is left of its group, and no more commits end what is
-- under way than are counted: those that end an entry of that group, and those that undo a fork or an enlargement behind them
pub record IsEndedSo (t : VolumeTable) : Type 0 where
  pub bare : unfolded (unleafed t) ≡ ended t
  pub few : length (leaf_ends t (head (folding t))) + (length (undo_changes (unleafed t)) + length (folding (unleafed t))) ≤ length (end_changes t) + length (undo_changes (ended t))

-- the sequence number was raised at most by one for each volume that was new, and by one for each commit that ends or undoes what was under way
abbrev pub HasFewMends : VolumeTable → VolumeTable → Type 0
HasFewMends old new = new.sequence ≤ old.sequence + new_count old.volumes + (length (end_changes old) + length (undo_changes (ended old)))

-- the sequence number was raised at most by one for each log of no use, and then by one for each volume that is new and for each commit that ends
-- or undoes what is under way in the table without them
abbrev pub HasFewEnds : VolumeTable → VolumeTable → Type 0
HasFewEnds old new = new.sequence ≤ old.sequence + length (drop_changes old)
    + (new_count (dropped old).volumes + (length (end_changes (dropped old)) + length (undo_changes (ended (dropped old)))))
