-- What a crash leaves by choices, place by place.
use Rattle.std.proofs.Common.{◌≡◌, ◌≢◌, ℕ, zero, suc, ◌+◌, ◌%◌, ◌<◌, ◌≤◌, ◌⊎◌, inl, inr, true, false, cond, ltb, List, [], ◌∷◌, ◌++◌, length, get_or, Option, Some, None, unwrap_or, sym, refl, ap, ◌∙◌, subst, arith}
use Rattle.std.specs.Map.{lookup, values_of, keys_of}
use Rattle.std.specs.BTreeMap.{is_at, insert_entry}
use Rattle.std.specs.Ordering.{nat_cmp, match_ordering}
use Rattle.std.specs.Cmp.{ranked, nat_cmp_is}
use Rattle.std.specs.declared.cmp.Ordering.TheVariants.{Less, Greater}
use Rattle.std.specs.List.Sorted.{IsStrictlySortedBy}
use Rattle.std.specs.List.{AllByRecursion}
use Rattle.std.specs.Option.{option_map}
use Rattle.std.proofs.lemmas.Bool.{cases_eq, cases_lt}
use Rattle.std.proofs.lemmas.Bool.Decides.{nat_tests}
use Rattle.std.proofs.lemmas.List.Elements.{All-nil, All-cons, All-head, All-tail, All-get_or}
use Rattle.std.proofs.lemmas.Map.Keys.{sorted_head, sorted_tail}
use Rattle.sm_disk.specs.Sectors.{IsSector}
use Rattle.sm_disk.specs.Memory.{HeldPlace, blank, value_of, weight, rank, pick, IsLeft, WrittenPlaces, slot_at, held_by, HoldsSectors, AllSectors}
use Rattle.sm_disk.proofs.SlotLaws.{is_at-same, is_at-apart}

-- the place with the value of this number, and nothing pending
abbrev pub rested : HeldPlace → ℕ → HeldPlace
rested k number = record { floor = value_of k number; pending = [] }

-- the places, of which the first has so many with pending values before it
abbrev pub left_of : List ℕ → ℕ → WrittenPlaces → WrittenPlaces
left_of choice before [] = []
left_of choice before (e ∷ slots) = (e.0, rested e.1 (pick choice before)) ∷ left_of choice (before + weight e.1.pending) slots

-- how many places have pending values
abbrev pub weights : WrittenPlaces → ℕ
weights [] = 0
weights (e ∷ slots) = weight e.1.pending + weights slots

-- how many of those below a place
abbrev pub weights_below : ℕ → WrittenPlaces → ℕ
weights_below p [] = 0
weights_below p (e ∷ slots) = cond (ltb e.0 p) (weight e.1.pending) 0 + weights_below p slots

pub weights-push : (slots : WrittenPlaces) (e : ℕ × HeldPlace) → weights (slots ++ e ∷ []) ≡ weights slots + weight e.1.pending
weights-push [] e = omega arith
weights-push (x ∷ slots) e = omega (arith, weights-push slots e)

pub weights-le : (slots : WrittenPlaces) → weights slots ≤ length slots
weights-le [] = omega arith
weights-le (x ∷ slots) = omega (arith, weights-le slots)

pub left_of-push : (choice : List ℕ) (before : ℕ) (slots : WrittenPlaces) (e : ℕ × HeldPlace)
    → left_of choice before (slots ++ e ∷ []) ≡ left_of choice before slots ++ (e.0, rested e.1 (pick choice (before + weights slots))) ∷ []
left_of-push choice before [] e = let none : before ≡ before + 0 = omega arith in ap (λ n. (e.0, rested e.1 (pick choice n)) ∷ []) none
left_of-push choice before (x ∷ slots) e =
    let more : (before + weight x.1.pending) + weights slots ≡ before + (weight x.1.pending + weights slots) = omega arith in
    ap (λ l. (x.0, rested x.1 (pick choice before)) ∷ l) (left_of-push choice (before + weight x.1.pending) slots e
    ∙ ap (λ n. left_of choice (before + weight x.1.pending) slots ++ (e.0, rested e.1 (pick choice n)) ∷ []) more)

less_from_cmp : (a b : ℕ) → nat_cmp a b ≡ Less → a < b
less_from_cmp a b h = ranked a b Less (sym h)

-- an entry behind all others goes to the end
insert-last : (slots : WrittenPlaces) (p : ℕ) (k : HeldPlace) → AllByRecursion (λ q. nat_cmp q p ≡ Less) (keys_of slots) → insert_entry nat_cmp slots p k ≡ slots ++ (p, k) ∷ []
insert-last [] p k all = refl
insert-last (e ∷ slots) p k all =
    let behind : nat_cmp p e.0 ≡ Greater = sym (nat_cmp_is p e.0 Greater (less_from_cmp e.0 p all.0)) in
    ap (λ o. match_ordering o ((p, k) ∷ e ∷ slots) ((e.0, k) ∷ slots) (e ∷ insert_entry nat_cmp slots p k)) behind
    ∙ ap (λ l. e ∷ l) (insert-last slots p k all.1)

keys-left_of : (choice : List ℕ) (before : ℕ) (slots : WrittenPlaces) → keys_of (left_of choice before slots) ≡ keys_of slots
keys-left_of choice before [] = refl
keys-left_of choice before (e ∷ slots) = ap (λ l. e.0 ∷ l) (keys-left_of choice (before + weight e.1.pending) slots)

-- sectors

IsSector-value_of : (k : HeldPlace) (number : ℕ) → HoldsSectors k → IsSector (value_of k number)
IsSector-value_of k number h =
    All-get_or (λ v. IsSector v) (k.floor ∷ k.pending) (number % (length k.pending + 1)) k.floor (omega arith)
    (All-cons (λ v. IsSector v) k.floor k.pending h.floor h.pending)

pub AllSectors-left_of : (choice : List ℕ) (before : ℕ) (slots : WrittenPlaces) → AllSectors slots → AllSectors (left_of choice before slots)
AllSectors-left_of choice before [] all = All-nil (λ k. HoldsSectors k)
AllSectors-left_of choice before (e ∷ slots) all =
    All-cons (λ k. HoldsSectors k) (rested e.1 (pick choice before)) (values_of (left_of choice (before + weight e.1.pending) slots))
    (record { floor = IsSector-value_of e.1 (pick choice before) (All-head (λ k. HoldsSectors k) e.1 (values_of slots) all); pending = All-nil (λ v. IsSector v) })
    (AllSectors-left_of choice (before + weight e.1.pending) slots (All-tail (λ k. HoldsSectors k) e.1 (values_of slots) all))

-- what each place has

lookup-past : (slots : WrittenPlaces) (p q : ℕ) → AllByRecursion (λ k. nat_cmp q k ≡ Less) (keys_of slots) → p ≤ q → lookup (is_at (nat_cmp p)) slots ≡ None
lookup-past [] p q all le = refl
lookup-past (e ∷ slots) p q all le =
    ap (λ b. cond b (Some e.1) (lookup (is_at (nat_cmp p)) slots)) (is_at-apart p e.0 (λ same. omega (arith, same, less_from_cmp q e.0 all.0)))
    ∙ lookup-past slots p q all.1 le

weights_below-past : (slots : WrittenPlaces) (p q : ℕ) → AllByRecursion (λ k. nat_cmp q k ≡ Less) (keys_of slots) → p ≤ q + 1 → weights_below p slots ≡ 0
weights_below-past [] p q all le = refl
weights_below-past (e ∷ slots) p q all le =
    let past = less_from_cmp q e.0 all.0 in
    let no : ltb e.0 p ≡ false = grind (arith, nat_tests) in
    ap (λ b. cond b (weight e.1.pending) 0 + weights_below p slots) no
    ∙ (let rest = weights_below-past slots p q all.1 le in omega (arith, rest))

abbrev looked : List ℕ → ℕ → WrittenPlaces → ℕ → Option HeldPlace
looked choice p slots n = option_map (λ k. rested k (pick choice n)) (lookup (is_at (nat_cmp p)) slots)

lookup-left_of : (choice : List ℕ) (before p : ℕ) (slots : WrittenPlaces) → IsStrictlySortedBy nat_cmp (keys_of slots)
    → lookup (is_at (nat_cmp p)) (left_of choice before slots) ≡ option_map (λ k. rested k (pick choice (before + weights_below p slots))) (lookup (is_at (nat_cmp p)) slots)
lookup-left_of choice before p [] sorted = refl
lookup-left_of choice before p (e ∷ slots) sorted =
    by (lookup-left_of choice (before + weight e.1.pending) p slots (sorted_tail nat_cmp e.0 (keys_of slots) sorted)) (cases_eq p e.0) (cases_lt e.0 p)
  where
    past : AllByRecursion (λ k. nat_cmp e.0 k ≡ Less) (keys_of slots)
    past = sorted_head nat_cmp e.0 (keys_of slots) sorted

    same_place : p ≡ e.0 → before ≡ before + weights_below p (e ∷ slots)
    same_place same =
        let no : ltb e.0 p ≡ false = grind (arith, nat_tests) in
        let none = weights_below-past slots p e.0 past (omega arith) in
        let all : weights_below p (e ∷ slots) ≡ 0 = ap (λ b. cond b (weight e.1.pending) 0 + weights_below p slots) no ∙ omega (arith, none) in
        omega (arith, all)

    by : lookup (is_at (nat_cmp p)) (left_of choice (before + weight e.1.pending) slots) ≡ looked choice p slots ((before + weight e.1.pending) + weights_below p slots)
        → (p ≡ e.0) ⊎ (p ≢ e.0) → (e.0 < p) ⊎ (p ≤ e.0)
        → lookup (is_at (nat_cmp p)) (left_of choice before (e ∷ slots)) ≡ option_map (λ k. rested k (pick choice (before + weights_below p (e ∷ slots)))) (lookup (is_at (nat_cmp p)) (e ∷ slots))
    by rest (inl same) _ =
        ap (λ b. cond b (Some (rested e.1 (pick choice before))) (lookup (is_at (nat_cmp p)) (left_of choice (before + weight e.1.pending) slots))) (is_at-same p e.0 same)
        ∙ ap (λ n. Some (rested e.1 (pick choice n))) (same_place same)
        ∙ ap (λ b. option_map (λ k. rested k (pick choice (before + weights_below p (e ∷ slots)))) (cond b (Some e.1) (lookup (is_at (nat_cmp p)) slots))) (sym (is_at-same p e.0 same))
    by rest (inr apart) (inl below) =
        let yes : ltb e.0 p ≡ true = grind (arith, nat_tests) in
        let sum : (before + weight e.1.pending) + weights_below p slots ≡ before + (weight e.1.pending + weights_below p slots) = omega arith in
        ap (λ b. cond b (Some (rested e.1 (pick choice before))) (lookup (is_at (nat_cmp p)) (left_of choice (before + weight e.1.pending) slots))) (is_at-apart p e.0 apart)
        ∙ rest ∙ ap (looked choice p slots) sum
        ∙ ap (λ b. looked choice p slots (before + (cond b (weight e.1.pending) 0 + weights_below p slots))) (sym yes)
        ∙ ap (λ b. option_map (λ k. rested k (pick choice (before + weights_below p (e ∷ slots)))) (cond b (Some e.1) (lookup (is_at (nat_cmp p)) slots))) (sym (is_at-apart p e.0 apart))
    by rest (inr apart) (inr above) =
        let none = lookup-past slots p e.0 past above in
        ap (λ b. cond b (Some (rested e.1 (pick choice before))) (lookup (is_at (nat_cmp p)) (left_of choice (before + weight e.1.pending) slots))) (is_at-apart p e.0 apart)
        ∙ rest
        ∙ ap (option_map (λ k. rested k (pick choice ((before + weight e.1.pending) + weights_below p slots)))) none
        ∙ ap (option_map (λ k. rested k (pick choice (before + weights_below p (e ∷ slots))))) (sym none)
        ∙ ap (λ b. option_map (λ k. rested k (pick choice (before + weights_below p (e ∷ slots)))) (cond b (Some e.1) (lookup (is_at (nat_cmp p)) slots))) (sym (is_at-apart p e.0 apart))

weights_below-none : (slots : WrittenPlaces) → weights_below 0 slots ≡ 0
weights_below-none [] = refl
weights_below-none (e ∷ slots) =
    let no : ltb e.0 0 ≡ false = grind (arith, nat_tests) in
    ap (λ b. cond b (weight e.1.pending) 0 + weights_below 0 slots) no ∙ omega (arith, weights_below-none slots)

slot_at-first : (e : ℕ × HeldPlace) (slots : WrittenPlaces) (p : ℕ) → p ≡ e.0 → slot_at (e ∷ slots) p ≡ e.1
unfolding slot_at
slot_at-first e slots p same = ap (λ b. unwrap_or (cond b (Some e.1) (lookup (is_at (nat_cmp p)) slots)) blank) (is_at-same p e.0 same)

slot_at-rest : (e : ℕ × HeldPlace) (slots : WrittenPlaces) (p : ℕ) → p ≢ e.0 → slot_at (e ∷ slots) p ≡ slot_at slots p
unfolding slot_at
slot_at-rest e slots p apart = ap (λ b. unwrap_or (cond b (Some e.1) (lookup (is_at (nat_cmp p)) slots)) blank) (is_at-apart p e.0 apart)

slot_at-nil : (p : ℕ) → slot_at [] p ≡ blank
unfolding slot_at
slot_at-nil p = refl

weights_below-suc : (slots : WrittenPlaces) → IsStrictlySortedBy nat_cmp (keys_of slots) → (p : ℕ) → weights_below (suc p) slots ≡ weights_below p slots + weight (slot_at slots p).pending
weights_below-suc [] sorted p = ap (λ (k : HeldPlace). 0 + weight k.pending) (sym (slot_at-nil p))
weights_below-suc (e ∷ slots) sorted p = by (weights_below-suc slots (sorted_tail nat_cmp e.0 (keys_of slots) sorted) p) (cases_eq p e.0)
  where
    past : AllByRecursion (λ k. nat_cmp e.0 k ≡ Less) (keys_of slots)
    past = sorted_head nat_cmp e.0 (keys_of slots) sorted

    by : weights_below (suc p) slots ≡ weights_below p slots + weight (slot_at slots p).pending
        → (p ≡ e.0) ⊎ (p ≢ e.0) → weights_below (suc p) (e ∷ slots) ≡ weights_below p (e ∷ slots) + weight (slot_at (e ∷ slots) p).pending
    by rest (inl same) =
        let yes : ltb e.0 (suc p) ≡ true = grind (arith, nat_tests) in
        let no : ltb e.0 p ≡ false = grind (arith, nat_tests) in
        let none = weights_below-past slots (suc p) e.0 past (omega arith) in
        let less = weights_below-past slots p e.0 past (omega arith) in
        let here = ap (λ (k : HeldPlace). weight k.pending) (slot_at-first e slots p same) in
        ap (λ b. cond b (weight e.1.pending) 0 + weights_below (suc p) slots) yes
        ∙ (let sum : weight e.1.pending + weights_below (suc p) slots ≡ (0 + weights_below p slots) + weight (slot_at (e ∷ slots) p).pending = omega (arith, none, less, here) in sum)
        ∙ ap (λ b. (cond b (weight e.1.pending) 0 + weights_below p slots) + weight (slot_at (e ∷ slots) p).pending) (sym no)
    by rest (inr apart) =
        let tests : ltb e.0 (suc p) ≡ ltb e.0 p = grind (arith, nat_tests) in
        let here = ap (λ (k : HeldPlace). weight k.pending) (slot_at-rest e slots p apart) in
        ap (λ b. cond b (weight e.1.pending) 0 + weights_below (suc p) slots) tests
        ∙ omega (arith, rest, here)

rank-weights : (slots : WrittenPlaces) → IsStrictlySortedBy nat_cmp (keys_of slots) → (p : ℕ) → rank (held_by slots) p ≡ weights_below p slots
unfolding rank
rank-weights slots sorted zero = sym (weights_below-none slots)
rank-weights slots sorted (suc p) =
    ap (λ n. n + weight (slot_at slots p).pending) (rank-weights slots sorted p) ∙ sym (weights_below-suc slots sorted p)

value_of-blank : (m : ℕ) (v : List ℕ) → get_or (v ∷ []) m v ≡ v
value_of-blank zero v = refl
value_of-blank (suc m) v = refl

slot_at-left_of : (choice : List ℕ) (slots : WrittenPlaces) → IsStrictlySortedBy nat_cmp (keys_of slots) → (p : ℕ)
    → slot_at (left_of choice 0 slots) p ≡ rested (slot_at slots p) (pick choice (weights_below p slots))
unfolding slot_at
slot_at-left_of choice slots sorted p =
    let none : 0 + weights_below p slots ≡ weights_below p slots = omega arith in
    ap (λ o. unwrap_or o blank) (lookup-left_of choice 0 p slots sorted
    ∙ ap (λ n. option_map (λ k. rested k (pick choice n)) (lookup (is_at (nat_cmp p)) slots)) none)
    ∙ by (pick choice (weights_below p slots)) (lookup (is_at (nat_cmp p)) slots)
  where
    by : (number : ℕ) (o : Option HeldPlace) → unwrap_or (option_map (λ k. rested k number) o) blank ≡ rested (unwrap_or o blank) number
    by number None = ap (λ v. let k : HeldPlace = record { floor = v; pending = [] } in k) (sym (value_of-blank (number % (0 + 1)) blank.floor))
    by number (Some k) = refl

pub IsLeft-left_of : (choice : List ℕ) (slots : WrittenPlaces) → IsStrictlySortedBy nat_cmp (keys_of slots) → IsLeft choice (held_by slots) (held_by (left_of choice 0 slots))
IsLeft-left_of choice slots sorted = record {
  floor = λ p. ap (λ (k : HeldPlace). k.floor) (slot_at-left_of choice slots sorted p)
      ∙ ap (λ n. value_of (slot_at slots p) (pick choice n)) (sym (rank-weights slots sorted p));
  pending = λ p. ap (λ (k : HeldPlace). k.pending) (slot_at-left_of choice slots sorted p);
}

-- a turn of the loop over the places
sorted_before : (xs : WrittenPlaces) (e : ℕ × HeldPlace) (rest : WrittenPlaces) → IsStrictlySortedBy nat_cmp (keys_of (xs ++ e ∷ rest)) → AllByRecursion (λ q. nat_cmp q e.0 ≡ Less) (keys_of xs)
sorted_before [] e rest sorted = tt
sorted_before (x ∷ xs) e rest sorted =
    (among xs (sorted_head nat_cmp x.0 (keys_of (xs ++ e ∷ rest)) sorted), sorted_before xs e rest (sorted_tail nat_cmp x.0 (keys_of (xs ++ e ∷ rest)) sorted))
  where
    among : (ys : WrittenPlaces) → AllByRecursion (λ k. nat_cmp x.0 k ≡ Less) (keys_of (ys ++ e ∷ rest)) → nat_cmp x.0 e.0 ≡ Less
    among [] all = all.0
    among (y ∷ ys) all = among ys all.1

pub left_of-turn : (choice : List ℕ) (xs : WrittenPlaces) (p : ℕ) (k : HeldPlace) (rest : WrittenPlaces) (made : WrittenPlaces) (before : ℕ) (kept : HeldPlace)
    → IsStrictlySortedBy nat_cmp (keys_of (xs ++ (p, k) ∷ rest)) → made ≡ left_of choice 0 xs → before ≡ weights xs
    → kept ≡ rested k (pick choice before) → insert_entry nat_cmp made p kept ≡ left_of choice 0 (xs ++ (p, k) ∷ [])
left_of-turn choice xs p k rest made before kept sorted is count rests =
    let P : List ℕ → Type 0 = λ l. AllByRecursion (λ q. nat_cmp q p ≡ Less) l in
    let last = subst P (sym (keys-left_of choice 0 xs)) (sorted_before xs (p, k) rest sorted) in
    let sum : weights xs ≡ 0 + weights xs = omega arith in
    ap (λ l. insert_entry nat_cmp l p kept) is
    ∙ insert-last (left_of choice 0 xs) p kept last
    ∙ ap (λ j. left_of choice 0 xs ++ (p, j) ∷ []) (rests ∙ ap (λ n. rested k (pick choice n)) (count ∙ sum))
    ∙ sym (left_of-push choice 0 xs (p, k))
