-- How an operation is kept: as it is told, beside flags of the first blocks; blocks behind the last flag are not dirty (this project's own).
use Rattle.std.specs.Prelude.{◌≡◌, ℕ, ◌+◌, ◌-◌, ◌≤◌, Bool, false, List, [], ◌∷◌, ◌++◌, length, replicate, Option, None, Some, if◌then◌else◌}
use Rattle.sm_base.specs.declared.operations.Op.{Op as Told}
use Rattle.sm_base.specs.declared.operations.Op.TheVariants as as_told
use Rattle.sm_machine.specs.Operations.{Op}
use Rattle.sm_machine.specs.Operations as op

-- the most blocks that an image may have
unfoldable pub block_limit : ℕ
block_limit = 1044480

-- the places from k on whose flags are set, in rising order
unfoldable pub flagged : ℕ → List Bool → List ℕ
flagged k [] = []
flagged k (b ∷ bs) = if b then k ∷ flagged (k + 1) bs else flagged (k + 1) bs

-- at least so many flags: the new ones are clear
abbrev pub lengthened : ℕ → List Bool → List Bool
lengthened count bs = bs ++ replicate (count - length bs) false

-- the operation with the blocks whose flags are set
abbrev pub seen : Told → List Bool → Op
seen as_told.Idle bs = op.Idle
seen (as_told.Copy v p cursor) bs = op.Copy v p cursor
seen (as_told.Relink v p) bs = op.Relink v p
seen (as_told.Leaf l p cursor) bs = op.Leaf l p cursor
seen (as_told.Live l p cursor count) bs = op.Live l p cursor (flagged 0 bs)

-- how many blocks an operation tells to be dirty: none where it is not live
abbrev pub count_of : Told → ℕ
count_of as_told.Idle = 0
count_of (as_told.Copy v p cursor) = 0
count_of (as_told.Relink v p) = 0
count_of (as_told.Leaf l p cursor) = 0
count_of (as_told.Live l p cursor count) = count

-- there are places for the flags of all blocks that an image may have, and as many flags are set as are told
pub record AreCounted (o : Told) (places : ℕ) (bs : List Bool) : Type 0 where
  pub room : block_limit ≤ places
  pub few : length bs ≤ block_limit
  pub counted : length (flagged 0 bs) ≡ count_of o

-- the dirty blocks of an operation
abbrev pub dirty_in : Op → List ℕ
dirty_in op.Idle = []
dirty_in (op.Copy v p cursor) = []
dirty_in (op.Relink v p) = []
dirty_in (op.Leaf l p cursor) = []
dirty_in (op.Live l p cursor dirty) = dirty

-- the least of some numbers in rising order
abbrev pub least : List ℕ → Option ℕ
least [] = None
least (b ∷ bs) = Some b
