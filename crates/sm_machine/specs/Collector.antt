-- The collector (this project's format): which step it takes next, what the step does to the shape, and the debt that it
-- works off. It removes hidden images that nothing reads through, cuts volumes to the extents that they need, copies the
-- blocks of a hidden image into its parent and links its children there, and folds a disk's leaf into its parent.
use Rattle.std.specs.Prelude.{ℕ, ◌+◌, ◌-◌, ◌<◌, ◌≡◌, ◌⊎◌, max, min, ◌==◌, ◌&&◌, ◌||◌, not, nat_lt, nat_le, Bool, true, false, List, [], ◌∷◌, ◌++◌, length, drop, Option, Some, None, is_some}
use Rattle.std.specs.List.{filter_map, find, list_any, slice_set}
use Rattle.std.specs.Option.{unwrap_or}
use Rattle.sm_base.specs.declared.names.Name.{Name}
use Rattle.sm_machine.specs.Operations.{Op}
use Rattle.sm_machine.specs.Operations as op
use Rattle.sm_base.specs.declared.operations.Plan.{Plan}
use Rattle.sm_base.specs.declared.operations.Plan.TheVariants as plan
use Rattle.common_laws.specs.Lists.{given, numbers, ◌>>=◌}
use Rattle.sm_machine.specs.Operations.{advanced, dirty_limit}
use Rattle.sm_machine.specs.Shapes.{Shape, ImageRow, image_uuid, is_vhd, slot_at, is_there, count_blocks, top, has_slot, find_image, with_image, without_image, on_image, children, attached_as, is_rw, image_extents, free, thick_in, thin_in}

-- ---- tables

-- the least slot that no block has
unfoldable pub least_free : List (Option ℕ) → ℕ
least_free slots = unwrap_or (find (λ k. not (has_slot k slots)) (numbers 0 (length slots))) (length slots)

-- a block gets the least free slot, if it has none yet
unfoldable pub with_block : ℕ → List (Option ℕ) → List (Option ℕ)
with_block b slots = elim (is_there (slot_at slots b)) [ true ↦ slots | false ↦ slice_set slots b (Some (least_free slots)) ]

-- the least block from one on that has a slot
unfoldable pub next_block : ℕ → List (Option ℕ) → Option ℕ
next_block cursor slots = find (λ b. is_there (slot_at slots b)) (numbers cursor (length slots - cursor))

-- the number of blocks that have a slot in one table or in the other
unfoldable pub count_either : List (Option ℕ) → List (Option ℕ) → ℕ
count_either [] ys = count_blocks ys
count_either (x ∷ xs) [] = count_blocks (x ∷ xs)
count_either (None ∷ xs) (None ∷ ys) = count_either xs ys
count_either (None ∷ xs) (Some k ∷ ys) = 1 + count_either xs ys
count_either (Some k ∷ xs) (y ∷ ys) = 1 + count_either xs ys

-- ---- pairs and leaves

-- an image that may be folded into its parent
pub record Pair : Type 0 where
  pub child : ImageRow
  pub parent : ImageRow

-- the own image of a disk that is attached for writing
abbrev pub is_written : Shape → ImageRow → Bool
is_written s i = not i.hidden && is_rw (attached_as (image_uuid i.name) s)

-- the extents that a VHD parent needs: as many as the blocks of both, or as many as all blocks where the child is written to
abbrev pub needed : Shape → Pair → ℕ
needed s p = elim (is_written s p.child) [ true ↦ thick_in s p.child.size | false ↦ thin_in s (max (top p.parent.slots) (count_either p.parent.slots p.child.slots)) ]

-- the extents that the parent is to have: those that it has, or those that it needs
unfoldable pub target : Shape → Pair → ℕ
target s p = elim (is_vhd p.parent.name) [ true ↦ max p.parent.extents (needed s p) | false ↦ p.parent.extents ]

-- the extents that the parent is to gain
abbrev pub growth : Shape → Pair → ℕ
growth s p = target s p - p.parent.extents

-- whether there is room for them
abbrev pub fits : Shape → Pair → Bool
fits s p = nat_le (growth s p) (free s)

-- whether an image has no children, or exactly one
abbrev pub is_childless : Shape → ImageRow → Bool
is_childless s i = length (children i.name s.images) == 0

abbrev pub has_one_child : Shape → ImageRow → Bool
has_one_child s i = length (children i.name s.images) == 1

-- the image and its parent, where the parent has no other child
abbrev pub with_parent : Shape → ImageRow → Option Pair
with_parent s v = do
  n ← v.parent
  p ← find_image n s.images
  given (has_one_child s p) (record { child = v; parent = p })

-- a hidden VHD image with children, whose parent is a VHD image, or a raw one of the same size
unfoldable pub pair_of : Shape → ImageRow → Option Pair
pair_of s v = do
  image ← given (v.hidden && is_vhd v.name) v
  parents ← given (not (is_childless s image)) image
  pair ← with_parent s parents
  given (is_vhd pair.parent.name || (pair.parent.size == pair.child.size)) pair

-- the VHD image of a disk that is not attached, whose parent is a VHD image
unfoldable pub leaf_of : Shape → ImageRow → Option Pair
leaf_of s l = do
  image ← given (not l.hidden && is_vhd l.name) l
  leaf ← given (not (is_some (attached_as (image_uuid image.name) s))) image
  pair ← with_parent s leaf
  given (is_vhd pair.parent.name) pair

-- the VHD image of a disk that is attached, whose parent is a VHD image
unfoldable pub live_of : Shape → ImageRow → Option Pair
live_of s l = do
  image ← given (not l.hidden && is_vhd l.name) l
  leaf ← given (is_some (attached_as (image_uuid image.name) s)) image
  pair ← with_parent s leaf
  given (is_vhd pair.parent.name) pair

-- all of them, in order of the child's name
abbrev pub pairs : Shape → List Pair
pairs s = filter_map (pair_of s) s.images

abbrev pub leaves : Shape → List Pair
leaves s = filter_map (leaf_of s) s.images

abbrev pub lives : Shape → List Pair
lives s = filter_map (live_of s) s.images

-- ---- what may be removed and cut

-- a hidden image that has no children
abbrev pub is_garbage : Shape → ImageRow → Bool
is_garbage s i = i.hidden && is_childless s i

-- a VHD image that has more extents than its slots need, and is not being written to
abbrev pub is_loose : Shape → ImageRow → Bool
is_loose s i = is_vhd i.name && not (is_written s i) && nat_lt (thin_in s (top i.slots)) i.extents

-- ---- the next step

-- the least of the growths, of which there is at least one
unfoldable pub least_growth : Shape → Pair → List Pair → ℕ
least_growth s p [] = growth s p
least_growth s p (q ∷ ps) = min (growth s p) (least_growth s q ps)

-- pairs or leaves are left, and none fits; else there is nothing to do
abbrev pub blocked : Shape → List Pair → Plan
blocked s [] = plan.Idle
blocked s (p ∷ ps) = plan.Blocked (least_growth s p ps) (free s)

-- no operation runs: the first rule that applies, with the least name
unfoldable pub plan_idle : Shape → Plan
plan_idle s = elim (find (is_garbage s) s.images) [
  | Some i ↦ plan.Remove i.name
  | None ↦ elim (find (is_loose s) s.images) [
    | Some i ↦ plan.Deflate i.name (thin_in s (top i.slots))
    | None ↦ elim (find (fits s) (pairs s)) [
      | Some p ↦ plan.Begin p.child.name p.parent.name (target s p)
      | None ↦ elim (find (fits s) (leaves s)) [
        | Some p ↦ plan.Leaf p.child.name p.parent.name (target s p)
        | None ↦ elim (find (fits s) (lives s)) [
          | Some p ↦ plan.Live p.child.name p.parent.name (target s p)
          | None ↦ blocked s (pairs s ++ (leaves s ++ lives s))
        ]
      ]
    ]
  ]
]

-- the table of the image of a name
abbrev pub table_of : Name → Shape → List (Option ℕ)
table_of n s = elim (find_image n s.images) [ None ↦ [] | Some i ↦ i.slots ]

-- the next block to copy, or else what comes when all are copied
abbrev pub copy_or : Plan → Option ℕ → Plan
copy_or done None = done
copy_or done (Some b) = plan.Copy b

-- the next child to link, or else the end
abbrev pub relink_or : List ImageRow → Plan
relink_or [] = plan.Finish
relink_or (child ∷ others) = plan.RelinkOne child.name

-- a copy goes on while its child has children
abbrev pub plan_copy : Shape → Name → ℕ → List ImageRow → Plan
plan_copy s child cursor [] = plan.Abandon
plan_copy s child cursor (i ∷ others) = copy_or plan.Turn (next_block cursor (table_of child s))

-- no block is left to copy: where too many are dirty the least of them is copied again, else the parent takes the leaf's place
abbrev pub clean_or : List ℕ → Plan
clean_or [] = plan.Swap
clean_or (b ∷ dirty) = elim (nat_lt dirty_limit (length (b ∷ dirty))) [ true ↦ plan.Copy b | false ↦ plan.Swap ]

-- the next step while this operation runs
unfoldable pub plan_running : Shape → Op → Plan
plan_running s op.Idle = plan_idle s
plan_running s (op.Copy child parent cursor) = plan_copy s child cursor (children child s.images)
plan_running s (op.Relink child parent) = relink_or (children child s.images)
plan_running s (op.Leaf leaf parent cursor) = copy_or plan.Swap (next_block cursor (table_of leaf s))
plan_running s (op.Live leaf parent cursor dirty) = copy_or (clean_or dirty) (next_block cursor (table_of leaf s))

-- the collector's next step
unfoldable pub next_step : Shape → Plan
next_step s = plan_running s s.op

-- ---- what a step does

-- a VHD parent gets the block; a raw one has it
abbrev pub given_block : ℕ → ImageRow → ImageRow
given_block b p = elim (is_vhd p.name) [ true ↦ record p { slots = with_block b p.slots } | false ↦ p ]

-- the parent gets these blocks, one after the other
unfoldable pub given_blocks : List ℕ → ImageRow → ImageRow
given_blocks [] p = p
given_blocks (b ∷ bs) p = given_blocks bs (given_block b p)

-- the parent gets the block, and the operation goes on
unfoldable pub copied : Op → ℕ → Shape → Shape
copied (op.Copy child parent cursor) b s = record s { images = on_image parent (given_block b) s.images; op = advanced b (op.Copy child parent cursor) }
copied (op.Leaf leaf parent cursor) b s = record s { images = on_image parent (given_block b) s.images; op = advanced b (op.Leaf leaf parent cursor) }
copied (op.Live leaf parent cursor dirty) b s = record s { images = on_image parent (given_block b) s.images; op = advanced b (op.Live leaf parent cursor dirty) }
copied op.Idle b s = s
copied (op.Relink child parent) b s = s

-- a copy whose blocks are all copied goes on by linking the children
unfoldable pub turned : Op → Op
turned (op.Copy child parent cursor) = op.Relink child parent
turned op.Idle = op.Idle
turned (op.Relink child parent) = op.Relink child parent
turned (op.Leaf leaf parent cursor) = op.Leaf leaf parent cursor
turned (op.Live leaf parent cursor dirty) = op.Live leaf parent cursor dirty

-- the child reads through the operation's parent from now on
unfoldable pub linked : Op → Name → Shape → Shape
linked (op.Relink v parent) child s = record s { images = on_image child (λ i. record i { parent = Some parent }) s.images }
linked op.Idle child s = s
linked (op.Copy v parent cursor) child s = s
linked (op.Leaf leaf parent cursor) child s = s
linked (op.Live leaf parent cursor dirty) child s = s

-- the parent under the leaf's name, for users to see
abbrev pub as_leaf : Name → ImageRow → ImageRow
as_leaf leaf p = record p { name = leaf; hidden = false }

abbrev pub with_found : Option ImageRow → (ImageRow → ImageRow) → List ImageRow → List ImageRow
with_found None f images = images
with_found (Some i) f images = with_image (f i) images

-- the leaf's image goes, and the parent takes its name
unfoldable pub swapped : Op → Shape → Shape
swapped (op.Leaf leaf parent cursor) s = record s { images = with_found (find_image parent s.images) (as_leaf leaf) (without_image parent (without_image leaf s.images)); op = op.Idle }
swapped (op.Live leaf parent cursor dirty) s = record s { images = with_found (find_image parent s.images) (λ p. as_leaf leaf (given_blocks dirty p)) (without_image parent (without_image leaf s.images)); op = op.Idle }
swapped op.Idle s = s
swapped (op.Copy child parent cursor) s = s
swapped (op.Relink child parent) s = s

-- the size of the image of a name
abbrev pub size_of : Name → Shape → ℕ
size_of n s = elim (find_image n s.images) [ None ↦ 0 | Some i ↦ i.size ]

-- the parent is enlarged to the child's size and to so many extents
abbrev pub enlarged : Name → Name → ℕ → Shape → List ImageRow
enlarged child parent to s = on_image parent (λ p. record p { size = size_of child s; extents = to }) s.images

-- the shape after a step of the collector, apart from the sequence number
unfoldable pub collected : Plan → Shape → Shape
collected plan.Abandon s = record s { op = op.Idle }
collected (plan.Copy b) s = copied s.op b s
collected plan.Turn s = record s { op = turned s.op }
collected (plan.RelinkOne child) s = linked s.op child s
collected plan.Finish s = record s { op = op.Idle }
collected plan.Swap s = swapped s.op s
collected (plan.Remove name) s = record s { images = without_image name s.images }
collected (plan.Deflate name to) s = record s { images = on_image name (λ i. record i { extents = to }) s.images }
collected (plan.Begin child parent to) s = record s { images = enlarged child parent to s; op = op.Copy child parent 0 }
collected (plan.Leaf leaf parent to) s = record s { images = enlarged leaf parent to s; op = op.Leaf leaf parent 0 }
collected (plan.Live leaf parent to) s = record s { images = enlarged leaf parent to s; op = op.Live leaf parent 0 [] }
collected (plan.Blocked need room) s = s
collected plan.Idle s = s

-- ---- the debt

-- what is left to do: the number of images, how far the operation is, what it has left, and the extents in use
pub record Debt : Type 0 where
  pub images : ℕ
  pub phase : ℕ
  pub left : ℕ
  pub used : ℕ

-- 4 where no operation runs and there is no childless hidden image, 3 under a copy or a fold, 2 while children are
-- linked, 1 where no operation runs and there is a childless hidden image
unfoldable pub phase : Shape → Op → ℕ
phase s op.Idle = elim (list_any (is_garbage s) s.images) [ true ↦ 1 | false ↦ 4 ]
phase s (op.Copy child parent cursor) = 3
phase s (op.Relink child parent) = 2
phase s (op.Leaf leaf parent cursor) = 3
phase s (op.Live leaf parent cursor dirty) = 3

-- the blocks from the cursor on, or the children that are to be linked
unfoldable pub items_left : Shape → Op → ℕ
items_left s op.Idle = 0
items_left s (op.Copy child parent cursor) = count_blocks (drop cursor (table_of child s))
items_left s (op.Relink child parent) = length (children child s.images)
items_left s (op.Leaf leaf parent cursor) = count_blocks (drop cursor (table_of leaf s))
items_left s (op.Live leaf parent cursor dirty) = count_blocks (drop cursor (table_of leaf s)) + length dirty

-- how much the collector has left to do: images first, then the phase, then what is left of the phase, then the extents in use
unfoldable pub debt : Shape → Debt
debt s = record { images = length s.images; phase = phase s s.op; left = items_left s s.op; used = s.others + image_extents s.images }

-- debts in dictionary order
abbrev pub IsLess : Debt → Debt → Type 0
IsLess a b = (a.images < b.images) ⊎ ((a.images ≡ b.images) × ((a.phase < b.phase) ⊎ ((a.phase ≡ b.phase) × ((a.left < b.left) ⊎ ((a.left ≡ b.left) × (a.used < b.used))))))
