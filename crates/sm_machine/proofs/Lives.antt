-- Dirty blocks, and the tables in which they have slots.
use Rattle.std.proofs.Common.{◌≡◌, ◌⊎◌, inl, inr, ⊎_elim, ℕ, zero, suc, ◌<◌, ◌==◌, not, nat_lt, Bool, true, false, cond, List, [], ◌∷◌, length, Option, Some, None, refl, sym, ap, ◌∙◌, subst, eqb-true, arith}
use Rattle.std.specs.List.{slice_set}
use Rattle.std.proofs.lemmas.Bool.{eqb-false, ltb-true}
use Rattle.std.proofs.lemmas.List.{get_or-set_same, get_or-set_other}
use Rattle.common_laws.specs.Lists.{In, when}
use Rattle.common_laws.proofs.Lists.{In-filter}
use Rattle.sm_machine.specs.Operations.{dirtied, with_dirty, without_dirty}
use Rattle.sm_machine.specs.Shapes.{ImageRow, is_there, is_vhd, slot_at}
use Rattle.sm_machine.specs.Collector.{given_block, least_free, with_block}
use Rattle.sm_machine.specs.Steps.{with_blocks}
use Rattle.sm_machine.proofs.Changes.{filter_less}

pub is_same : (b : ℕ) → (b == b) ≡ true
is_same b = by (b == b) refl
  where
    by : (c : Bool) → (b == b) ≡ c → (b == b) ≡ true
    by true e = e
    by false e = absurd (eqb-false b b e refl)

-- ---- which blocks are dirty

in_with : (b x : ℕ) (dirty : List ℕ) → In b (with_dirty x dirty) → (b ≡ x) ⊎ In b dirty
unfolding with_dirty
in_with b x [] (inl is) = inl is
in_with b x [] (inr none) = absurd none
in_with b x (y ∷ ys) i = by (nat_lt x y) (y == x) (in_with b x ys) i
  where
    by : (l s : Bool) → (In b (with_dirty x ys) → (b ≡ x) ⊎ In b ys) → In b (cond l (x ∷ y ∷ ys) (cond s (y ∷ ys) (y ∷ with_dirty x ys))) → (b ≡ x) ⊎ ((b ≡ y) ⊎ In b ys)
    by true s rest (inl is) = inl is
    by true s rest (inr j) = inr j
    by false true rest j = inr j
    by false false rest (inl is) = inr (inl is)
    by false false rest (inr j) = ⊎_elim (λ is. inl is) (λ k. inr (inr k)) (rest j)

pub in_dirtied : (cursor b : ℕ) (bs dirty : List ℕ) → In b (dirtied cursor bs dirty) → In b dirty ⊎ (In b bs × (b < cursor))
unfolding dirtied
in_dirtied cursor b [] dirty i = inl i
in_dirtied cursor b (x ∷ xs) dirty i = by (nat_lt x cursor) refl (in_dirtied cursor b xs (cond (nat_lt x cursor) (with_dirty x dirty) dirty) i)
  where
    by : (c : Bool) → nat_lt x cursor ≡ c → In b (cond c (with_dirty x dirty) dirty) ⊎ (In b xs × (b < cursor)) → In b dirty ⊎ (((b ≡ x) ⊎ In b xs) × (b < cursor))
    by c e (inr w) = inr (inr w.0, w.1)
    by true e (inl j) = ⊎_elim (λ is. inr (inl is, subst (λ z. z < cursor) (sym is) (ltb-true x cursor e))) (λ old. inl old) (in_with b x dirty j)
    by false e (inl j) = inl j

pub in_without : (b x : ℕ) (dirty : List ℕ) → In b (without_dirty x dirty) → In b dirty
unfolding without_dirty
in_without b x dirty i = (In-filter (λ y. not (y == x)) dirty b i).0

pub without_less : (x : ℕ) (dirty : List ℕ) → In x dirty → length (without_dirty x dirty) < length dirty
unfolding without_dirty
without_less x dirty i = filter_less (λ y. not (y == x)) dirty x i (ap not (is_same x))

-- ---- blocks that have slots

pub there_kept : (b x : ℕ) (slots : List (Option ℕ)) → is_there (slot_at slots b) ≡ true → is_there (slot_at (with_block x slots) b) ≡ true
unfolding with_block
there_kept b x slots e = by (is_there (slot_at slots x)) refl
  where
    by : (c : Bool) → is_there (slot_at slots x) ≡ c → is_there (slot_at (elim c as (λ _. List (Option ℕ)) [ true ↦ slots | false ↦ slice_set slots x (Some (least_free slots)) ]) b) ≡ true
    by true is = e
    by false is = at (b == x) refl
      where
        at : (d : Bool) → (b == x) ≡ d → is_there (slot_at (slice_set slots x (Some (least_free slots))) b) ≡ true
        at true same = absurd (let z : true ≡ false = sym e ∙ ap (λ k. is_there (slot_at slots k)) (eqb-true b x same) ∙ is in cc)
        at false other = ap is_there (get_or-set_other slots x b (Some (least_free slots)) None (eqb-false b x other)) ∙ e

pub there_new : (b : ℕ) (slots : List (Option ℕ)) → b < length slots → is_there (slot_at (with_block b slots) b) ≡ true
unfolding with_block
there_new b slots within = by (is_there (slot_at slots b)) refl
  where
    by : (c : Bool) → is_there (slot_at slots b) ≡ c → is_there (slot_at (elim c as (λ _. List (Option ℕ)) [ true ↦ slots | false ↦ slice_set slots b (Some (least_free slots)) ]) b) ≡ true
    by true is = is
    by false is = ap is_there (get_or-set_same slots b (Some (least_free slots)) None within)

pub there_all : (b : ℕ) (bs : List ℕ) (slots : List (Option ℕ)) → is_there (slot_at slots b) ≡ true → is_there (slot_at (with_blocks bs slots) b) ≡ true
unfolding with_blocks
there_all b [] slots e = e
there_all b (x ∷ xs) slots e = there_all b xs (with_block x slots) (there_kept b x slots e)

pub there_written : (b : ℕ) (bs : List ℕ) (slots : List (Option ℕ)) → ((x : ℕ) (ys : List (Option ℕ)) → length (with_block x ys) ≡ length ys) → b < length slots → In b bs → is_there (slot_at (with_blocks bs slots) b) ≡ true
unfolding with_blocks
there_written b [] slots long within i = absurd i
there_written b (x ∷ xs) slots long within (inl is) = subst (λ y. is_there (slot_at (with_blocks xs (with_block y slots)) b) ≡ true) is (there_all b xs (with_block b slots) (there_new b slots within))
there_written b (x ∷ xs) slots long within (inr i) = there_written b xs (with_block x slots) long (subst (λ n. b < n) (sym (long x slots)) within) i

-- a block that has a slot is one of the table
pub there_within : (b : ℕ) (slots : List (Option ℕ)) → is_there (slot_at slots b) ≡ true → b < length slots
there_within b [] e = absurd (let z : false ≡ true = sym (no_more b) ∙ e in cc)
  where
    no_more : (b : ℕ) → is_there (slot_at [] b) ≡ false
    no_more zero = refl
    no_more (suc b) = refl
there_within zero (x ∷ xs) e = omega arith
there_within (suc b) (x ∷ xs) e = let r = there_within b xs e in omega (arith, r)

-- an image that may be changed keeps its slots where the change keeps them
pub there_when : (c : ℕ) (b : Bool) (f : ImageRow → ImageRow) (y : ImageRow) → ((z : ImageRow) → is_there (slot_at z.slots c) ≡ true → is_there (slot_at (f z).slots c) ≡ true)
    → is_there (slot_at y.slots c) ≡ true → is_there (slot_at (when b f y).slots c) ≡ true
there_when c true f y keeps e = keeps y e
there_when c false f y keeps e = e

pub there_given : (b c : ℕ) (z : ImageRow) → is_there (slot_at z.slots c) ≡ true → is_there (slot_at (given_block b z).slots c) ≡ true
there_given b c z e = by (is_vhd z.name)
  where
    by : (v : Bool) → is_there (slot_at (elim v as (λ _. ImageRow) [ true ↦ record z { slots = with_block b z.slots } | false ↦ z ]).slots c) ≡ true
    by true = there_kept c b z.slots e
    by false = e
