-- The shape once each dirty block was copied: it is the same from each of the copies on, and the swap behind it is the swap that copies them itself.
use Rattle.std.proofs.Common.{◌≡◌, inl, inr, ℕ, ◌+◌, ◌<◌, ◌≤◌, ◌==◌, not, Bool, true, false, cond, List, [], ◌∷◌, length, map, Option, Some, None, refl, sym, ap, ap₂, ◌∙◌, arith, eqb-true}
use Rattle.std.proofs.lemmas.Bool.{lt-ltb}
use Rattle.std.proofs.lemmas.Option.{none-some, same_Some}
use Rattle.std.specs.List.{slice_set}
use Rattle.std.specs.Option.{option_map}
use Rattle.common_laws.specs.Lists.{In, when}
use Rattle.common_laws.proofs.Lists.{find-some}
use Rattle.sm_base.specs.declared.names.Name.{Name}
use Rattle.sm_base.specs.declared.names.Name.TheVariants.{Vhd}
use Rattle.sm_base.specs.declared.operations.Plan.TheVariants as plan
use Rattle.sm_machine.specs.Collector.{as_leaf, collected, copied, given_block, given_blocks, least_free, next_step, swapped, with_block, with_found}
use Rattle.sm_machine.specs.Commits.{plan_commits}
use Rattle.sm_machine.specs.Operations.{Op, without_dirty}
use Rattle.sm_machine.specs.Operations as op
use Rattle.sm_machine.specs.Shapes.{ImageRow, Shape, find_image, is_image, is_there, is_vhd, on_image, risen, same_image, slot_at, with_image, without_image}
use Rattle.sm_machine.specs.Steps.{shape_next}
use Rattle.sm_machine.specs.WellFormed.{IsLive, IsWellFormed, table_length}
use Rattle.sm_machine.specs.declared.commands.Command.TheVariants.{Gc}
use Rattle.sm_machine.proofs.Changes.{find-map, when-key}
use Rattle.sm_machine.proofs.Debts.{given_block_name}
use Rattle.sm_machine.proofs.ImageNames.{same_image-sound}
use Rattle.sm_machine.proofs.Lives.{is_same, there_given, there_new, there_within}
use Rattle.sm_machine.proofs.Swaps.{blocks_name}
use Rattle.sm_operation.specs.Kept.{dirty_in, least}
use Rattle.gc_coalesce.proofs.PlannedLaws.{gc_shape}
use Rattle.gc_live.specs.Cleaning.{clean_op, cleaned}

-- ---- lists

map_in : {A B : Type 0} (f g : A → B) (xs : List A) → ((x : A) → In x xs → f x ≡ g x) → map f xs ≡ map g xs
map_in f g [] same = refl
map_in f g (x ∷ xs) same = ap₂ (λ y ys. y ∷ ys) (same x (inl refl)) (map_in f g xs (λ y i. same y (inr i)))

-- an image that is changed twice
twice : (p : Name) (f g : ImageRow → ImageRow) → ((y : ImageRow) → (f y).name ≡ y.name) → (xs : List ImageRow) → on_image p g (on_image p f xs) ≡ on_image p (λ y. g (f y)) xs
twice p f g named [] = refl
twice p f g named (x ∷ xs) = ap₂ (λ y ys. y ∷ ys) (by (is_image p x) refl) (twice p f g named xs)
  where
    by : (c : Bool) → is_image p x ≡ c → when (is_image p (when c f x)) g (when c f x) ≡ when c (λ y. g (f y)) x
    by true e = ap (λ b. when b g (f x)) (ap (λ (n : Name). same_image n p) (named x) ∙ e)
    by false e = ap (λ b. when b g x) e

-- or not at all
nothing : (p : Name) (xs : List ImageRow) → on_image p (λ y. y) xs ≡ xs
nothing p [] = refl
nothing p (x ∷ xs) = ap₂ (λ y ys. y ∷ ys) (by (is_image p x)) (nothing p xs)
  where
    by : (c : Bool) → when c (λ (y : ImageRow). y) x ≡ x
    by true = refl
    by false = refl

-- it is left out as it would be without the change
without_same : (n p : Name) (f : ImageRow → ImageRow) → ((y : ImageRow) → (f y).name ≡ y.name) → (x : ImageRow) → is_image n (when (is_image p x) f x) ≡ is_image n x
without_same n p f named x = ap (λ (m : Name). same_image m n) (when-key (λ (y : ImageRow). y.name) f named (is_image p x) x)

without_changed : (p : Name) (f : ImageRow → ImageRow) → ((y : ImageRow) → (f y).name ≡ y.name) → (xs : List ImageRow) → without_image p (on_image p f xs) ≡ without_image p xs
without_changed p f named [] = refl
without_changed p f named (x ∷ xs) = ap (λ c. cond (not c) (when (is_image p x) f x ∷ without_image p (on_image p f xs)) (without_image p (on_image p f xs))) (without_same p p f named x)
    ∙ by (is_image p x) (without_changed p f named xs)
  where
    by : (c : Bool) → without_image p (on_image p f xs) ≡ without_image p xs
        → cond (not c) (when c f x ∷ without_image p (on_image p f xs)) (without_image p (on_image p f xs)) ≡ cond (not c) (x ∷ without_image p xs) (without_image p xs)
    by true rest = rest
    by false rest = ap (λ (ys : List ImageRow). x ∷ ys) rest

without_other : (n p : Name) (f : ImageRow → ImageRow) → ((y : ImageRow) → (f y).name ≡ y.name) → (xs : List ImageRow) → without_image n (on_image p f xs) ≡ on_image p f (without_image n xs)
without_other n p f named [] = refl
without_other n p f named (x ∷ xs) = ap (λ c. cond (not c) (when (is_image p x) f x ∷ without_image n (on_image p f xs)) (without_image n (on_image p f xs))) (without_same n p f named x)
    ∙ by (is_image n x) (without_other n p f named xs)
  where
    by : (c : Bool) → without_image n (on_image p f xs) ≡ on_image p f (without_image n xs)
        → cond (not c) (when (is_image p x) f x ∷ without_image n (on_image p f xs)) (without_image n (on_image p f xs)) ≡ on_image p f (cond (not c) (x ∷ without_image n xs) (without_image n xs))
    by true rest = rest
    by false rest = ap (λ (ys : List ImageRow). when (is_image p x) f x ∷ ys) rest

-- ---- a block that the parent has

given_twice : (b : ℕ) (y : ImageRow) → is_vhd y.name ≡ true → is_there (slot_at y.slots b) ≡ true → given_block b y ≡ y
unfolding with_block
given_twice b y vhd there =
    ap (λ c. elim c as (λ _. ImageRow) [ true ↦ record y { slots = with_block b y.slots } | false ↦ y ]) vhd
    ∙ ap (λ c. let z : ImageRow = record y { slots = elim c as (λ _. List (Option ℕ)) [ true ↦ y.slots | false ↦ slice_set y.slots b (Some (least_free y.slots)) ] } in z) there

has_block : (b : ℕ) (y : ImageRow) → is_vhd y.name ≡ true → b < length y.slots → is_there (slot_at (given_block b y).slots b) ≡ true
has_block b y vhd within = ap (λ c. is_there (slot_at (elim c as (λ _. ImageRow) [ true ↦ record y { slots = with_block b y.slots } | false ↦ y ]).slots b)) vhd ∙ there_new b y.slots within

-- it need not be given again
given_again : (b : ℕ) (xs : List ℕ) (y : ImageRow) → is_vhd y.name ≡ true → is_there (slot_at y.slots b) ≡ true → given_blocks (without_dirty b xs) y ≡ given_blocks xs y
unfolding given_blocks without_dirty
given_again b [] y vhd there = refl
given_again b (x ∷ xs) y vhd there =
    by (x == b) refl (given_again b xs y vhd there) (given_again b xs (given_block x y) (ap is_vhd (given_block_name x y) ∙ vhd) (there_given x b y there))
  where
    by : (c : Bool) → (x == b) ≡ c → given_blocks (without_dirty b xs) y ≡ given_blocks xs y → given_blocks (without_dirty b xs) (given_block x y) ≡ given_blocks xs (given_block x y)
        → given_blocks (cond (not c) (x ∷ without_dirty b xs) (without_dirty b xs)) y ≡ given_blocks xs (given_block x y)
    by true same here past = here ∙ sym (ap (given_blocks xs) (ap (λ z. given_block z y) (eqb-true x b same) ∙ given_twice b y vhd there))
    by false other here past = past

without_few : (b : ℕ) (xs : List ℕ) → length (without_dirty b xs) ≤ length xs
unfolding without_dirty
without_few b [] = omega arith
without_few b (x ∷ xs) = by (x == b) (without_few b xs)
  where
    by : (c : Bool) → length (without_dirty b xs) ≤ length xs → length (cond (not c) (x ∷ without_dirty b xs) (without_dirty b xs)) ≤ length (x ∷ xs)
    by true rest = omega (arith, rest)
    by false rest = omega (arith, rest)

-- ---- one of the dirty blocks was copied

vhd_table : (s : Shape) (n : Name) → is_vhd n ≡ true → table_length s n ≡ s.entries
unfolding is_vhd table_length
vhd_table s (Vhd u) e = refl
vhd_table s _ e = cc

module _ (s : Shape) (l p : Name) (cursor b : ℕ) (xs : List ℕ) (w : IsWellFormed (record s { op = op.Live l p cursor (b ∷ xs) })) where
  abbrev living : Shape
  living = record s { op = op.Live l p cursor (b ∷ xs) }

  live : IsLive living l p cursor (b ∷ xs)
  live = w.operation

  low : b < cursor
  low = (live.blocks b (inl refl)).0

  -- the operation without the block
  goes_on : op.went_on l p cursor (b ∷ xs) b ≡ op.Live l p cursor (without_dirty b xs)
  unfolding without_dirty
  goes_on =
      ap (λ c. elim c as (λ _. Op) [ true ↦ op.Live l p cursor (without_dirty b (b ∷ xs)) | false ↦ op.Live l p (b + 1) (b ∷ xs) ]) (lt-ltb b cursor low)
      ∙ ap (λ c. op.Live l p cursor (cond (not c) (b ∷ without_dirty b xs) (without_dirty b xs))) (is_same b)

  row_same : (y : ImageRow) → In y s.images → is_image p y ≡ true → given_blocks (without_dirty b xs) (given_block b y) ≡ given_blocks xs (given_block b y)
  row_same y there is =
      let c = live.only.link in
      let name : y.name ≡ p = same_image-sound y.name p is in
      let vhd : is_vhd y.name ≡ true = ap is_vhd name ∙ live.parent_vhd in
      let long = (w.images y there).table ∙ vhd_table living y.name vhd in
      let child_long = (w.images c.child c.there).table ∙ vhd_table living c.child.name (ap is_vhd c.is_named ∙ c.vhd) in
      let within = there_within b c.child.slots (live.blocks b (inl refl)).1 in
      given_again b xs (given_block b y) (ap is_vhd (given_block_name b y) ∙ vhd) (has_block b y vhd (omega (arith, within, long, child_long)))

  images_same : on_image p (given_blocks (without_dirty b xs)) (on_image p (given_block b) s.images) ≡ on_image p (given_blocks (b ∷ xs)) s.images
  unfolding given_blocks
  images_same =
      twice p (given_block b) (given_blocks (without_dirty b xs)) (given_block_name b) s.images
      ∙ map_in (λ y. when (is_image p y) (λ z. given_blocks (without_dirty b xs) (given_block b z)) y) (λ y. when (is_image p y) (λ z. given_blocks xs (given_block b z)) y) s.images
      (λ y there. by y there (is_image p y) refl)
    where
      by : (y : ImageRow) → In y s.images → (c : Bool) → is_image p y ≡ c → when c (λ z. given_blocks (without_dirty b xs) (given_block b z)) y ≡ when c (λ z. given_blocks xs (given_block b z)) y
      by y there true e = row_same y there e
      by y there false e = refl

  one_copied : (τ : Shape) → τ ≡ copied (op.Live l p cursor (b ∷ xs)) b living → cleaned τ.op τ ≡ cleaned (op.Live l p cursor (b ∷ xs)) living
  unfolding copied
  one_copied τ is =
      ap (λ (x : Shape). cleaned x.op x) is
      ∙ ap (λ o. cleaned o (record s { images = on_image p (given_block b) s.images; op = o })) goes_on
      ∙ ap (λ (is : List ImageRow). let x : Shape = record s { images = is; op = op.Live l p cursor [] } in x) images_same

-- the first of the dirty blocks was copied
more_by : (s : Shape) (o : Op) (b : ℕ) → IsWellFormed (record s { op = o }) → least (dirty_in o) ≡ Some b → (τ : Shape) → τ ≡ copied o b (record s { op = o }) → cleaned τ.op τ ≡ cleaned o (record s { op = o })
more_by s op.Idle b w first τ is = absurd (none-some b first)
more_by s (op.Copy v p cursor) b w first τ is = absurd (none-some b first)
more_by s (op.Relink v p) b w first τ is = absurd (none-some b first)
more_by s (op.Leaf l p cursor) b w first τ is = absurd (none-some b first)
more_by s (op.Live l p cursor []) b w first τ is = absurd (none-some b first)
more_by s (op.Live l p cursor (d ∷ xs)) b w first τ is = one_copied s l p cursor d xs w τ (is ∙ ap (λ x. copied (op.Live l p cursor (d ∷ xs)) x (record s { op = op.Live l p cursor (d ∷ xs) })) (sym (same_Some d b first)))

pub cleaned_more : (σ τ : Shape) (b : ℕ) → IsWellFormed σ → least (dirty_in σ.op) ≡ Some b → τ ≡ copied σ.op b σ → cleaned τ.op τ ≡ cleaned σ.op σ
cleaned_more σ τ b w first is = more_by σ σ.op b w first τ is

-- the operation, but for its dirty blocks, is as it was
pub clean_more : (σ : Shape) (b : ℕ) → IsWellFormed σ → least (dirty_in σ.op) ≡ Some b → clean_op (op.advanced b σ.op) ≡ clean_op σ.op
clean_more σ b w first = by σ.op w first
  where
    by : (o : Op) → IsWellFormed (record σ { op = o }) → least (dirty_in o) ≡ Some b → clean_op (op.advanced b o) ≡ clean_op o
    by op.Idle w first = absurd (none-some b first)
    by (op.Copy v p cursor) w first = absurd (none-some b first)
    by (op.Relink v p) w first = absurd (none-some b first)
    by (op.Leaf l p cursor) w first = absurd (none-some b first)
    by (op.Live l p cursor []) w first = absurd (none-some b first)
    by (op.Live l p cursor (d ∷ xs)) w first =
        ap (λ x. clean_op (op.went_on l p cursor (d ∷ xs) x)) (sym (same_Some d b first)) ∙ ap clean_op (goes_on σ l p cursor d xs w)

-- and fewer blocks are dirty
pub fewer_dirty : (σ : Shape) (b : ℕ) → IsWellFormed σ → least (dirty_in σ.op) ≡ Some b → length (dirty_in (op.advanced b σ.op)) < length (dirty_in σ.op)
fewer_dirty σ b w first = by σ.op w first
  where
    by : (o : Op) → IsWellFormed (record σ { op = o }) → least (dirty_in o) ≡ Some b → length (dirty_in (op.advanced b o)) < length (dirty_in o)
    by op.Idle w first = absurd (none-some b first)
    by (op.Copy v p cursor) w first = absurd (none-some b first)
    by (op.Relink v p) w first = absurd (none-some b first)
    by (op.Leaf l p cursor) w first = absurd (none-some b first)
    by (op.Live l p cursor []) w first = absurd (none-some b first)
    by (op.Live l p cursor (d ∷ xs)) w first =
        let is : dirty_in (op.went_on l p cursor (d ∷ xs) b) ≡ without_dirty d xs = ap (λ x. dirty_in (op.went_on l p cursor (d ∷ xs) x)) (sym (same_Some d b first)) ∙ ap dirty_in (goes_on σ l p cursor d xs w) in
        let long = ap (λ (ys : List ℕ). length ys) is in
        let few = without_few d xs in
        omega (arith, long, few)

-- ---- where none is dirty

pub cleaned_none : (σ : Shape) → dirty_in σ.op ≡ [] → cleaned σ.op σ ≡ σ
unfolding given_blocks
cleaned_none σ none = by σ.op none
  where
    by : (o : Op) → dirty_in o ≡ [] → cleaned o (record σ { op = o }) ≡ record σ { op = o }
    by op.Idle e = refl
    by (op.Copy v p cursor) e = refl
    by (op.Relink v p) e = refl
    by (op.Leaf l p cursor) e = refl
    by (op.Live l p cursor dirty) e =
        ap (λ ds. let x : Shape = record σ { images = on_image p (given_blocks ds) σ.images; op = op.Live l p cursor [] } in x) e
        ∙ ap₂ (λ (is : List ImageRow) ds. let x : Shape = record σ { images = is; op = op.Live l p cursor ds } in x) (nothing p σ.images) (sym e)

-- ---- the swap

module _ (σ : Shape) (l p : Name) (dirty : List ℕ) where
  abbrev given : List ImageRow
  given = on_image p (given_blocks dirty) σ.images

  found_given : find_image p given ≡ option_map (λ y. when (is_image p y) (given_blocks dirty) y) (find_image p σ.images)
  found_given = find-map (is_image p) (λ y. when (is_image p y) (given_blocks dirty) y) (λ y. without_same p p (given_blocks dirty) (blocks_name dirty) y) σ.images

  rest_given : without_image p (without_image l given) ≡ without_image p (without_image l σ.images)
  rest_given = ap (without_image p) (without_other l p (given_blocks dirty) (blocks_name dirty) σ.images) ∙ without_changed p (given_blocks dirty) (blocks_name dirty) (without_image l σ.images)

  swapped_given : with_found (find_image p given) (as_leaf l) (without_image p (without_image l given))
      ≡ with_found (find_image p σ.images) (λ q. as_leaf l (given_blocks dirty q)) (without_image p (without_image l σ.images))
  swapped_given = ap₂ (λ x ys. with_found x (as_leaf l) ys) found_given rest_given ∙ by (find_image p σ.images) refl
    where
      by : (x : Option ImageRow) → find_image p σ.images ≡ x → with_found (option_map (λ y. when (is_image p y) (given_blocks dirty) y) x) (as_leaf l) (without_image p (without_image l σ.images))
          ≡ with_found x (λ q. as_leaf l (given_blocks dirty q)) (without_image p (without_image l σ.images))
      by None e = refl
      by (Some y) e = ap (λ b. with_image (as_leaf l (when b (given_blocks dirty) y)) (without_image p (without_image l σ.images))) (find-some (is_image p) σ.images y e).1

swapped_by : (σ : Shape) (o : Op) → swapped (cleaned o (record σ { op = o })).op (cleaned o (record σ { op = o })) ≡ swapped o (record σ { op = o })
unfolding swapped given_blocks
swapped_by σ op.Idle = refl
swapped_by σ (op.Copy v p cursor) = refl
swapped_by σ (op.Relink v p) = refl
swapped_by σ (op.Leaf l p cursor) = refl
swapped_by σ (op.Live l p cursor dirty) = ap (λ (is : List ImageRow). let x : Shape = record σ { images = is; op = op.Idle } in x) (swapped_given σ l p dirty)

number_by : (σ : Shape) (o : Op) → (cleaned o (record σ { op = o })).sequence ≡ σ.sequence
number_by σ op.Idle = refl
number_by σ (op.Copy v p cursor) = refl
number_by σ (op.Relink v p) = refl
number_by σ (op.Leaf l p cursor) = refl
number_by σ (op.Live l p cursor dirty) = refl

-- the collector's swap is the same
pub swap_cleaned : (σ : Shape) → next_step σ ≡ plan.Swap → next_step (cleaned σ.op σ) ≡ plan.Swap → shape_next (cleaned σ.op σ) Gc ≡ shape_next σ Gc
unfolding collected plan_commits
swap_cleaned σ planned then =
    gc_shape (cleaned σ.op σ) plan.Swap then
    ∙ ap₂ (λ (x : Shape) n. let y : Shape = record x { sequence = risen n (0 + 5) } in y) (swapped_by σ σ.op) (number_by σ σ.op)
    ∙ sym (gc_shape σ plan.Swap planned)
