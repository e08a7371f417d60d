-- The collector's operation (this project's format), with the blocks that are dirty where it folds the leaf of an attached disk: those
-- below the cursor that were written to since they were copied, in rising order. A cursor is the least block that may still have to be
-- copied.
use Rattle.std.specs.Prelude.{ℕ, ◌+◌, ◌==◌, not, nat_lt, Bool, true, false, List, [], ◌∷◌, length, if◌then◌else◌}
use Rattle.std.specs.List.{filter}
use Rattle.sm_base.specs.declared.names.Name.{Name}
use Rattle.sm_base.specs.declared.operations.Op.{Op as Told}
use Rattle.sm_base.specs.declared.operations.Op.TheVariants as as_told

-- what the collector is doing: nothing, the copy of a hidden image into its parent, the linking of its children to the parent, or the folding of
-- a leaf, which of an attached disk is live and has dirty blocks
pub data Op : Type 0 where
  Idle : Op
  Copy : Name → Name → ℕ → Op
  Relink : Name → Name → Op
  Leaf : Name → Name → ℕ → Op
  Live : Name → Name → ℕ → List ℕ → Op

-- an operation as `stat` tells it: of its dirty blocks their number
unfoldable pub told : Op → Told
told Idle = as_told.Idle
told (Copy v p cursor) = as_told.Copy v p cursor
told (Relink v p) = as_told.Relink v p
told (Leaf l p cursor) = as_told.Leaf l p cursor
told (Live l p cursor dirty) = as_told.Live l p cursor (length dirty)

-- the operation that has just begun, as told: nothing is dirty
abbrev pub begun : Told → Op
begun as_told.Idle = Idle
begun (as_told.Copy child parent cursor) = Copy child parent cursor
begun (as_told.Relink child parent) = Relink child parent
begun (as_told.Leaf leaf parent cursor) = Leaf leaf parent cursor
begun (as_told.Live leaf parent cursor count) = Live leaf parent cursor []

-- ---- dirty blocks

-- whether a block is one of the dirty blocks
abbrev pub is_dirty : ℕ → List ℕ → Bool
is_dirty b [] = false
is_dirty b (x ∷ xs) = if x == b then true else is_dirty b xs

-- the dirty blocks with one more, in its place, once
unfoldable pub with_dirty : ℕ → List ℕ → List ℕ
with_dirty b [] = b ∷ []
with_dirty b (x ∷ xs) = if nat_lt b x then b ∷ x ∷ xs else if x == b then x ∷ xs else x ∷ with_dirty b xs

-- the dirty blocks without one
unfoldable pub without_dirty : ℕ → List ℕ → List ℕ
without_dirty b xs = filter (λ x. not (x == b)) xs

-- the dirty blocks behind a write to some blocks: those of them that lie below the cursor are dirty too
unfoldable pub dirtied : ℕ → List ℕ → List ℕ → List ℕ
dirtied cursor [] dirty = dirty
dirtied cursor (b ∷ bs) dirty = dirtied cursor bs (if nat_lt b cursor then with_dirty b dirty else dirty)

-- the most blocks that may be dirty where the parent takes the leaf's place
abbrev pub dirty_limit : ℕ
dirty_limit = 16

-- ---- how it goes on

-- a block of the folded leaf was written to: of a live folding it is dirty where it is below the cursor
abbrev pub touched : ℕ → Op → Op
touched b Idle = Idle
touched b (Copy child parent cursor) = Copy child parent cursor
touched b (Relink child parent) = Relink child parent
touched b (Leaf leaf parent cursor) = Leaf leaf parent cursor
touched b (Live leaf parent cursor dirty) = Live leaf parent cursor (dirtied cursor (b ∷ []) dirty)

-- a block of a live folding was copied: one below the cursor is not dirty any more, and behind another the cursor goes on
abbrev pub went_on : Name → Name → ℕ → List ℕ → ℕ → Op
went_on l p cursor dirty b = elim (nat_lt b cursor) [ true ↦ Live l p cursor (without_dirty b dirty) | false ↦ Live l p (b + 1) dirty ]

-- the operation behind the copy of a block: the cursor goes on behind it, or a block below the cursor is not dirty any more
abbrev pub advanced : ℕ → Op → Op
advanced b Idle = Idle
advanced b (Copy child parent cursor) = Copy child parent (b + 1)
advanced b (Relink child parent) = Relink child parent
advanced b (Leaf leaf parent cursor) = Leaf leaf parent (b + 1)
advanced b (Live leaf parent cursor dirty) = went_on leaf parent cursor dirty b
