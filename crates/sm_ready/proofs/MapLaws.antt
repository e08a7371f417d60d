-- The machine's tables of slots are the maps of images: the same least free slot, the same blocks, the same numbers.
use Rattle.std.proofs.Common.{◌≡◌, ℕ, zero, suc, ◌+◌, ◌==◌, ◌||◌, max, not, Bool, true, false, cond, List, [], ◌∷◌, length, Option, Some, None, is_some, refl, sym, ap, ◌∙◌, arith, get_or, drop, ◌<◌}
use Rattle.std.specs.Prelude.{slice_set, unwrap_or}
use Rattle.std.proofs.lemmas.List.{get_or-drop, length-drop}
use Rattle.std.specs.List.{find, position_from, zip}
use Rattle.common_laws.specs.Lists.{numbers}
use Rattle.sm_machine.specs.Collector.{least_free, with_block, next_block, count_either}
use Rattle.sm_machine.specs.Shapes.{count_blocks, has_slot, is_there, slot_at, top}
use Rattle.sm_machine.specs.Steps.{with_blocks}
use Rattle.sm_refs.proofs.FromScratchLemmas.{one_more}
use Rattle.vhd_map.specs.Slots as map
use Rattle.vhd_map.specs.Slots.{free_from, is_used, least_free_slot, top_of, union_size, used_count}
use Rattle.vhd_volumes.specs.Writes as image

pub top_alike : (m : List (Option ℕ)) → top m ≡ top_of m
unfolding top
top_alike [] = refl
top_alike (None ∷ m) = let rest = top_alike m in omega (arith, rest)
top_alike (Some k ∷ m) = ap (max (k + 1)) (top_alike m)

pub count_alike : (m : List (Option ℕ)) → count_blocks m ≡ used_count m
unfolding count_blocks
count_alike [] = refl
count_alike (None ∷ m) = let rest = count_alike m in omega (arith, rest)
count_alike (Some k ∷ m) = ap (λ n. 1 + n) (count_alike m) ∙ sym (one_more is_some (Some k) m)

pub used_alike : (k : ℕ) (m : List (Option ℕ)) → has_slot k m ≡ is_used m k
used_alike k [] = refl
used_alike k (None ∷ m) = used_alike k m
used_alike k (Some j ∷ m) = by (used_alike k m) (j == k)
  where
    by : has_slot k m ≡ is_used m k → (b : Bool) → elim b as (λ _. Bool) [ true ↦ true | false ↦ has_slot k m ] ≡ (b || is_used m k)
    by rest true = refl
    by rest false = rest

free_alike : (m : List (Option ℕ)) (a n : ℕ) → unwrap_or (find (λ k. not (has_slot k m)) (numbers a n)) (a + n) ≡ free_from m n a
unfolding numbers
free_alike m a zero = omega arith
free_alike m a (suc n) = by (free_alike m (a + 1) n) (has_slot a m) (used_alike a m)
  where
    by : unwrap_or (find (λ k. not (has_slot k m)) (numbers (a + 1) n)) (a + 1 + n) ≡ free_from m n (a + 1) → (b : Bool) → b ≡ is_used m a
        → unwrap_or (cond (not b) (Some a) (find (λ k. not (has_slot k m)) (numbers (a + 1) n))) (a + suc n) ≡ cond (is_used m a) (free_from m n (a + 1)) a
    by rest true is = ap (unwrap_or (find (λ k. not (has_slot k m)) (numbers (a + 1) n))) (omega arith) ∙ rest ∙ ap (λ c. cond c (free_from m n (a + 1)) a) is
    by rest false is = ap (λ c. cond c (free_from m n (a + 1)) a) is

pub least_alike : (m : List (Option ℕ)) → least_free m ≡ least_free_slot m
unfolding least_free least_free_slot
least_alike m = ap (unwrap_or (find (λ k. not (has_slot k m)) (numbers 0 (length m)))) (omega arith) ∙ free_alike m 0 (length m)

-- a block that gets a slot
pub block_alike : (b : ℕ) (m : List (Option ℕ)) → with_block b m ≡ image.with_block b m
unfolding with_block image.with_block
block_alike b m = by (slot_at m b)
  where
    by : (o : Option ℕ) → elim (is_there o) as (λ _. List (Option ℕ)) [ true ↦ m | false ↦ slice_set m b (Some (least_free m)) ]
        ≡ elim o as (λ _. List (Option ℕ)) [ None ↦ slice_set m b (Some (least_free_slot m)) | Some slot ↦ m ]
    by None = ap (λ k. slice_set m b (Some k)) (least_alike m)
    by (Some k) = refl

pub blocks_alike : (b n : ℕ) (m : List (Option ℕ)) → with_blocks (numbers b n) m ≡ image.with_blocks b n m
unfolding numbers with_blocks image.with_blocks
blocks_alike b zero m = refl
blocks_alike b (suc n) m =
    blocks_alike (b + 1) n (with_block b m) ∙ ap (λ k. image.with_blocks k n (with_block b m)) (omega arith) ∙ ap (image.with_blocks (suc b) n) (block_alike b m)

-- the number of blocks that either has
abbrev has_either : Option ℕ × Option ℕ → Bool
has_either p = is_some p.0 || is_some p.1

pub either_alike : (m n : List (Option ℕ)) → length m ≡ length n → count_either m n ≡ union_size m n
unfolding count_either count_blocks
either_alike [] [] same = refl
either_alike [] (y ∷ n) same = absurd (omega (arith, same))
either_alike (x ∷ m) [] same = absurd (omega (arith, same))
either_alike (None ∷ m) (None ∷ n) same = let rest = either_alike m n (omega (arith, same)) in omega (arith, rest)
either_alike (None ∷ m) (Some k ∷ n) same = ap (λ n. 1 + n) (either_alike m n (omega (arith, same))) ∙ sym (one_more has_either (None, Some k) (zip m n))
either_alike (Some k ∷ m) (y ∷ n) same = ap (λ n. 1 + n) (either_alike m n (omega (arith, same))) ∙ sym (one_more has_either (Some k, y) (zip m n))

-- the next block that has a slot
next_from : (f : ℕ → Option ℕ) (xs : List (Option ℕ)) (c : ℕ) → ((k : ℕ) → k < length xs → f (c + k) ≡ get_or xs k None)
    → find (λ b. is_there (f b)) (numbers c (length xs)) ≡ position_from is_some c xs
unfolding numbers
next_from f [] c same = refl
next_from f (x ∷ xs) c same = by (next_from f xs (c + 1) (λ k below. ap f (omega arith) ∙ same (suc k) (omega (arith, below)))) x (ap f (omega arith) ∙ same 0 (omega arith))
  where
    by : find (λ b. is_there (f b)) (numbers (c + 1) (length xs)) ≡ position_from is_some (c + 1) xs → (y : Option ℕ) → f c ≡ y
        → cond (is_there (f c)) (Some c) (find (λ b. is_there (f b)) (numbers (c + 1) (length xs))) ≡ position_from is_some c (y ∷ xs)
    by rest None is = ap (λ o. cond (is_there o) (Some c) (find (λ b. is_there (f b)) (numbers (c + 1) (length xs)))) is ∙ rest
    by rest (Some k) is = ap (λ o. cond (is_there o) (Some c) (find (λ b. is_there (f b)) (numbers (c + 1) (length xs)))) is

pub next_alike : (cursor : ℕ) (m : List (Option ℕ)) → next_block cursor m ≡ map.next_block m cursor
unfolding next_block
next_alike cursor m =
    ap (λ n. find (λ b. is_there (slot_at m b)) (numbers cursor n)) (sym (length-drop cursor m))
    ∙ next_from (slot_at m) (drop cursor m) cursor (λ k below. sym (get_or-drop cursor m k None))
