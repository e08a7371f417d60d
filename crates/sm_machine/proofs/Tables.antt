-- Blocks of a table: how many are left from one on, and the next one.
use Rattle.std.proofs.Common.{◌≡◌, ℕ, zero, suc, ◌+◌, ◌-◌, ◌<◌, ◌≤◌, true, List, [], ◌∷◌, length, drop, Option, Some, None, sym, subst, arith}
use Rattle.common_laws.specs.Lists.{In, numbers}
use Rattle.sm_machine.specs.Shapes.{slot_at, is_there, count_blocks}
use Rattle.sm_machine.specs.Collector.{next_block}
use Rattle.common_laws.proofs.Lists.{find-some}
use Rattle.sm_machine.proofs.Changes.{in_numbers}

count-tail : (x : Option ℕ) (xs : List (Option ℕ)) → count_blocks xs ≤ count_blocks (x ∷ xs)
unfolding count_blocks
count-tail None xs = omega arith
count-tail (Some k) xs = omega arith

pub count-drop : (xs : List (Option ℕ)) (a b : ℕ) → a ≤ b → count_blocks (drop b xs) ≤ count_blocks (drop a xs)
count-drop [] zero zero h = omega arith
count-drop [] zero (suc b) h = omega arith
count-drop [] (suc a) zero h = omega arith
count-drop [] (suc a) (suc b) h = omega arith
count-drop (x ∷ xs) zero zero h = omega arith
count-drop (x ∷ xs) zero (suc b) h = let r : count_blocks (drop b xs) ≤ count_blocks (drop zero xs) = count-drop xs zero b (omega arith) in let q : count_blocks xs ≤ count_blocks (x ∷ xs) = count-tail x xs in omega arith
count-drop (x ∷ xs) (suc a) zero h = omega arith
count-drop (x ∷ xs) (suc a) (suc b) h = count-drop xs a b (omega arith)

there_counts : (x : Option ℕ) (xs : List (Option ℕ)) → is_there x ≡ true → count_blocks (x ∷ xs) ≡ suc (count_blocks xs)
unfolding count_blocks
there_counts None xs e = cc
there_counts (Some k) xs e = omega arith

pub count-there : (xs : List (Option ℕ)) (b : ℕ) → is_there (slot_at xs b) ≡ true → count_blocks (drop b xs) ≡ suc (count_blocks (drop (suc b) xs))
count-there [] zero e = cc
count-there [] (suc b) e = cc
count-there (x ∷ xs) zero e = there_counts x xs e
count-there (x ∷ xs) (suc b) e = count-there xs b e

-- a next block that is found has a slot, at the cursor or after it
pub next_found : (cursor b : ℕ) (xs : List (Option ℕ)) → next_block cursor xs ≡ Some b → (cursor ≤ b) × (is_there (slot_at xs b) ≡ true)
unfolding next_block
next_found cursor b xs e =
    let r : In b (numbers cursor (length xs - cursor)) × (is_there (slot_at xs b) ≡ true) = find-some (λ (k : ℕ). is_there (slot_at xs k)) (numbers cursor (length xs - cursor)) b e in
    ((in_numbers cursor (length xs - cursor) b r.0).0, r.1)

-- copying it leaves fewer
pub count-next : (cursor b : ℕ) (xs : List (Option ℕ)) → next_block cursor xs ≡ Some b → count_blocks (drop (b + 1) xs) < count_blocks (drop cursor xs)
count-next cursor b xs e =
    let f : (cursor ≤ b) × (is_there (slot_at xs b) ≡ true) = next_found cursor b xs e in
    let q : count_blocks (drop b xs) ≡ suc (count_blocks (drop (suc b) xs)) = count-there xs b f.1 in
    let m : count_blocks (drop b xs) ≤ count_blocks (drop cursor xs) = count-drop xs cursor b f.0 in
    let n : b + 1 ≡ suc b = omega arith in
    subst (λ (k : ℕ). count_blocks (drop k xs) < count_blocks (drop cursor xs)) (sym n) (omega arith)
