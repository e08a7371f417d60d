-- What is copied into its parent, what copying a block makes of the operation, and what it leaves of the parent (this project's format).
use Rattle.std.specs.Prelude.{◌≡◌, ◌⊎◌, ℕ, Bool, true, false, List, [], Some}
use Rattle.sm_base.specs.declared.names.Name.{Name}
use Rattle.sm_base.specs.declared.operations.Plan.TheVariants as plan
use Rattle.sm_machine.specs.Collector.{next_step}
use Rattle.sm_machine.specs.Operations.{Op, is_dirty}
use Rattle.sm_machine.specs.Operations as op
use Rattle.sm_machine.specs.Shapes.{Shape}
use Rattle.sm_operation.specs.Kept.{dirty_in}
use Rattle.sm_standing.specs.Contents.{Content}
use Rattle.sm_standing.specs.Images.{Image, image_of}
use Rattle.gc_coalesce.specs.declared.kinds.Kind.{Kind}
use Rattle.gc_coalesce.specs.declared.kinds.Kind.TheVariants as kinds

-- a copy runs: of a hidden image, or of a disk's leaf
abbrev pub copying : Op → Bool
copying op.Idle = false
copying (op.Copy child parent cursor) = true
copying (op.Relink child parent) = false
copying (op.Leaf leaf parent cursor) = true
copying (op.Live leaf parent cursor dirty) = true

-- whether what is copied is hidden
abbrev pub is_hidden : Kind → Bool
is_hidden kinds.Hidden = true
is_hidden kinds.Leaf = false
is_hidden kinds.Live = false

-- the copy of v into p, by what v is
abbrev pub copy_of : Kind → Name → Name → ℕ → List ℕ → Op
copy_of kinds.Hidden v p cursor dirty = op.Copy v p cursor
copy_of kinds.Leaf v p cursor dirty = op.Leaf v p cursor
copy_of kinds.Live v p cursor dirty = op.Live v p cursor dirty

-- the blocks below the cursor that have to be copied again: where it is not the leaf of an attached disk, none
abbrev pub dirty_of : Kind → List ℕ → List ℕ
dirty_of kinds.Hidden dirty = []
dirty_of kinds.Leaf dirty = []
dirty_of kinds.Live dirty = dirty

-- the operation copies v into p
abbrev pub IsCopyOf : Op → Name → Name → Type 0
IsCopyOf o v p = (k : Kind) × (cursor : ℕ) × (dirty : List ℕ) × (o ≡ copy_of k v p cursor dirty)

-- the collector's next step copies the block, or it is dirty
abbrev pub MayCopy : Op → Shape → ℕ → Type 0
MayCopy o s b = (next_step s ≡ plan.Copy b) ⊎ (is_dirty b (dirty_in o) ≡ true)

-- of each sector the parent holds what it held, or what the child holds of it
abbrev pub IsParentMasked : Content → Content → Name → Name → Type 0
IsParentMasked was now child parent = (v p q : Image) → image_of was child ≡ Some v → image_of was parent ≡ Some p → image_of now parent ≡ Some q
    → (k : ℕ) → (q.own k ≡ p.own k) ⊎ ((bytes : List ℕ) × (v.own k ≡ Some bytes) × (q.own k ≡ Some bytes))

-- of each sector the parent of a copy that runs holds what it held, or what the child holds of it
abbrev pub IsMasked : Op → Content → Content → Type 0
IsMasked op.Idle was now = Unit {0}
IsMasked (op.Copy child parent cursor) was now = IsParentMasked was now child parent
IsMasked (op.Relink child parent) was now = Unit {0}
IsMasked (op.Leaf leaf parent cursor) was now = IsParentMasked was now leaf parent
IsMasked (op.Live leaf parent cursor dirty) was now = IsParentMasked was now leaf parent
