-- The changes of a swap, and what it makes of the volumes and of the images in memory (this project's format).
use Rattle.std.specs.Prelude.{◌≡◌, ◌≢◌, ◌≤◌, IsSome, ℕ, Bool, true, false, List, [], ◌∷◌, Option, Some, None}
use Rattle.std.specs.Option.{option_map}
use Rattle.sm_base.specs.Kinds.{is_entry}
use Rattle.sm_base.specs.Names.{IsName}
use Rattle.sm_base.specs.declared.names.Name.{Name}
use Rattle.sm_base.specs.declared.names.Name.TheVariants.{Leaf, Old, Vhd}
use Rattle.vg_meta.specs.Tables.{Row, VolumeTable, rows}
use Rattle.vg_meta.specs.declared.changes.Change.{Change}
use Rattle.vg_meta.specs.declared.changes.Change.TheVariants.{Mark, Remove, Rename}
use Rattle.vg_meta.specs.declared.changes.Tag.TheVariants.{Hidden}
use Rattle.sm_machine.specs.Operations.{Op}
use Rattle.sm_machine.specs.Operations as op
use Rattle.sm_refs.specs.Attached.{Attached, count_of}
use Rattle.vhd_image.specs.Bodies.{in_volume}
use Rattle.vhd_chain.specs.Trees.{Tree, tree_row, with_row, without}
use Rattle.vhd_chain.specs.declared.rows.TreeRow.{TreeRow}

-- ---- the operation

-- a leaf is folded, attached or not
abbrev pub is_folding : Op → Bool
is_folding op.Idle = false
is_folding (op.Copy child parent cursor) = false
is_folding (op.Relink child parent) = false
is_folding (op.Leaf leaf parent cursor) = true
is_folding (op.Live leaf parent cursor dirty) = true

-- the folding of l into p, by whether the disk of l is attached
abbrev pub folding_of : Bool → Name → Name → ℕ → List ℕ → Op
folding_of true l p cursor dirty = op.Live l p cursor dirty
folding_of false l p cursor dirty = op.Leaf l p cursor

-- the operation folds l into p
abbrev pub IsFoldingOf : Op → Name → Name → Type 0
IsFoldingOf o l p = (attached : Bool) × (cursor : ℕ) × (dirty : List ℕ) × (o ≡ folding_of attached l p cursor dirty)

-- ---- the commits

-- the leaf becomes an old leaf; the parent gets the leaf's name, and is not hidden; the old leaf goes
abbrev pub front_changes : List ℕ → List ℕ → List Change
front_changes leaf parent = Rename (Vhd leaf) (Old leaf) ∷ Rename (Vhd parent) (Vhd leaf) ∷ Mark (Vhd leaf) Hidden false ∷ Remove (Old leaf) ∷ []

-- the changes that end the folding of a leaf: the leaf becomes an old leaf; the parent gets the leaf's name, and is not hidden; the old
-- leaf goes, and then the entry
abbrev pub swap_changes : List ℕ → List ℕ → List Change
swap_changes leaf parent = Rename (Vhd leaf) (Old leaf) ∷ Rename (Vhd parent) (Vhd leaf) ∷ Mark (Vhd leaf) Hidden false
    ∷ Remove (Old leaf) ∷ Remove (Leaf leaf parent) ∷ []

-- ---- the volumes

-- the parent's volume under the leaf's name, shown
abbrev pub shown_as : Name → Row → Row
shown_as leaf r = record r { name = leaf; hidden = false }

-- new is old behind a swap: the parent's volume, with its extents as they were, has the leaf's name and is shown, none has the parent's
-- name, and each other one but the entry is as it was
pub record IsMoved (old new : VolumeTable) (leaf parent : Name) : Type 0 where
  pub leaf_row : rows new leaf ≡ option_map (shown_as leaf) (rows old parent)
  pub parent_gone : rows new parent ≡ None
  pub others : (n : Name) → n ≢ leaf → n ≢ parent → is_entry n ≡ false → rows new n ≡ rows old n

-- ---- the images in memory

-- the parent's row, in the leaf's place
abbrev pub leaf_row : Name → TreeRow → TreeRow
leaf_row leaf r = record { image = in_volume leaf r.image; hidden = false; extents = r.extents }

-- the rows with the parent's in the leaf's place
abbrev pub swapped_rows : Name → Option TreeRow → Name → List TreeRow → List TreeRow
swapped_rows leaf None parent images = images
swapped_rows leaf (Some r) parent images = with_row (leaf_row leaf r) (without parent (without leaf images))

-- both are there, and are two
pub record CanFold (t : Tree) (leaf parent : Name) : Type 0 where
  pub leaf_there : IsSome (tree_row t.rows leaf)
  pub parent_there : IsSome (tree_row t.rows parent)
  pub apart : parent ≢ leaf
  pub named : IsName leaf

-- ---- the attachments

-- none is counted under the parent's name any more; each other volume is used as often as before
pub record IsUncounted (parent : Name) (old new : Attached) : Type 0 where
  pub disks : new.disks ≡ old.disks
  pub gone : count_of new parent ≡ 0
  pub others : (n : Name) → n ≢ parent → count_of new n ≡ count_of old n
  pub room : old.room ≤ new.room

-- the attachments behind a swap are those from before; or where the folded leaf is attached, none is counted under the parent's name any more
abbrev pub CountsAs : Op → Name → Attached → Attached → Type 0
CountsAs op.Idle parent old new = new ≡ old
CountsAs (op.Copy v p cursor) parent old new = new ≡ old
CountsAs (op.Relink v p) parent old new = new ≡ old
CountsAs (op.Leaf l p cursor) parent old new = new ≡ old
CountsAs (op.Live l p cursor dirty) parent old new = IsUncounted parent old new
