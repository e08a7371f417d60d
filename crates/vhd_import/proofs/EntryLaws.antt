-- Entries that are sorted by their places stand apart exactly where the table is right.
use Rattle.std.proofs.Common.{◌≡◌, ◌≢◌, ◌⊎◌, inl, inr, ⊎_elim, ℕ, zero, suc, ◌+◌, ◌<◌, ◌≤◌, Bool, true, false, not, cond, List, [], ◌∷◌, length, Option, Some, None, refl, sym, ap, ◌∙◌, arith, subst}
use Rattle.std.specs.Prelude.{◌==◌, nat_le, count_by, All, IsPermutation, ⊤}
use Rattle.std.specs.List.{AllByRecursion, filter, filter_map}
use Rattle.std.specs.List.Sorted.{IsNonDecreasingBy}
use Rattle.std.proofs.lemmas.Bool.{and_parts}
use Rattle.std.proofs.lemmas.Bool.Decides.{nat_tests}
use Rattle.std.proofs.lemmas.List.Elements.{All-cons, All-nil, recursion_from_All}
use Rattle.std.proofs.lemmas.List.Sums.{length-filter}
use Rattle.std.proofs.lemmas.List.Sorted.{All-permutation, IsPermutation-sym, sum_by-IsPermutation}
use Rattle.common_laws.specs.Lists.{In, given, numbers}
use Rattle.common_laws.proofs.Lists.{In-numbers, numbers-In}
use Rattle.vhd_map.specs.Places.{blank}
use Rattle.vhd_stream.specs.Files.{File, FileLayout, IsThere, entry, table_end}
use Rattle.vhd_import.specs.declared.tables.Entry.{Entry}
use Rattle.vhd_import.specs.Apart.{stand_apart}
use Rattle.vhd_import.specs.Entries.{entries_from, entry_for}
use Rattle.vhd_import.specs.Tables.{is_named, is_table_wrong}
use Rattle.vhd_import.proofs.TableLaws.{IsApart, apart-right, named-test, right-apart, there-test}
use Rattle.vhd_import.proofs.TestLaws.{is-given}

-- ---- what is given by elements

In-given : {A B : Type 0} (f : A → Option B) (xs : List A) (y : B) → In y (filter_map f xs) → (x : A) × In x xs × (f x ≡ Some y)
In-given f [] y i = absurd i
In-given {A} {B} f (x ∷ xs) y i = by (f x) refl (In-given f xs y)
  where
    by : (o : Option B) → f x ≡ o → (In y (filter_map f xs) → (x' : A) × In x' xs × (f x' ≡ Some y)) → (z : A) × In z (x ∷ xs) × (f z ≡ Some y)
    by None is rest = let j : In y (filter_map f xs) = rw is at i in let r = rest j in (r.0, inr r.1, r.2)
    by (Some z) is rest =
        let j : (y ≡ z) ⊎ In y (filter_map f xs) = rw is at i in
        ⊎_elim (λ same. (x, inl refl, is ∙ ap Some (sym same))) (λ more. let r = rest more in (r.0, inr r.1, r.2)) j

given-In : {A B : Type 0} (f : A → Option B) (xs : List A) (x : A) (y : B) → In x xs → f x ≡ Some y → In y (filter_map f xs)
given-In f [] x y i is = absurd i
given-In f (z ∷ xs) x y (inl same) is = let e : f z ≡ Some y = ap f (sym same) ∙ is in rw e (inl refl)
given-In {A} {B} f (z ∷ xs) x y (inr i) is = by (f z) refl (given-In f xs x y i is)
  where
    by : (o : Option B) → f z ≡ o → In y (filter_map f xs) → In y (filter_map f (z ∷ xs))
    by None e rest = rw e rest
    by (Some w) e rest = rw e (inr rest)

In-All : {A : Type 0} (P : A → Type 0) (xs : List A) (x : A) → AllByRecursion P xs → In x xs → P x
In-All P [] x all i = absurd i
In-All P (y ∷ xs) x all (inl is) = subst P (sym is) all.0
In-All P (y ∷ xs) x all (inr i) = In-All P xs x all.1 i

All-In : {A : Type 0} (P : A → Type 0) (xs : List A) → ((x : A) → In x xs → P x) → All P xs
All-In P [] each = All-nil P
All-In P (x ∷ xs) each = All-cons P x xs (each x (inl refl)) (All-In P xs (λ y i. each y (inr i)))

In-permutation : {A : Type 0} (xs ys : List A) (x : A) → IsPermutation xs ys → In x xs → In x ys
In-permutation xs ys x p i = In-All (λ z. In z ys) xs x (recursion_from_All _ xs (All-permutation (λ z. In z ys) ys xs (IsPermutation-sym xs ys p) (All-In (λ z. In z ys) ys (λ z j. j)))) i

-- ---- entries

of_block : ℕ → Entry → Bool
of_block b e = e.block == b

-- how many entries are of block b
how_many : ℕ → List Entry → ℕ
how_many b es = length (filter (of_block b) es)

-- each block has one entry at most
once-from : (place : ℕ → ℕ) (b first count : ℕ) → (how_many b (entries_from place first count) ≤ 1) × (b < first → how_many b (entries_from place first count) ≡ 0)
unfolding entries_from numbers of_block how_many
once-from place b first zero = (omega arith, λ less. refl)
once-from place b first (suc count) = by (place first == blank) refl (once-from place b (first + 1) count)
  where
    rest : List Entry
    rest = filter (of_block b) (entries_from place (first + 1) count)

    with_one : (t : Bool) → (first == b) ≡ t → (length rest ≤ 1) × (b < first + 1 → length rest ≡ 0) → (e : Entry)
        → (length (cond t (e ∷ rest) rest) ≤ 1) × (b < first → length (cond t (e ∷ rest) rest) ≡ 0)
    with_one true same r e = let n : first ≡ b = grind (arith, nat_tests) in let z = r.1 (omega (arith, n)) in (omega (arith, z), λ less. absurd (omega (arith, less, n)))
    with_one false other r e = (r.0, λ less. r.1 (omega (arith, less)))

    by : (t : Bool) → (place first == blank) ≡ t → (length rest ≤ 1) × (b < first + 1 → length rest ≡ 0)
        → (how_many b (entries_from place first (suc count)) ≤ 1) × (b < first → how_many b (entries_from place first (suc count)) ≡ 0)
    by true is r = rw is (r.0, λ less. r.1 (omega (arith, less)))
    by false is r = rw is (with_one (first == b) refl r (record { place = place first; block = first }))

-- ---- a sorted list

abbrev IsRising : List Entry → Type 0
IsRising [] = ⊤
IsRising (e ∷ []) = ⊤
IsRising (e ∷ d ∷ es) = (e.place ≤ d.place) × IsRising (d ∷ es)

abbrev place_of : Entry → ℕ
place_of e = e.place

rising : (es : List Entry) → IsNonDecreasingBy (λ (e : Entry). e.place) es → IsRising es
rising [] h = tt
rising (e ∷ []) h = tt
rising (e ∷ d ∷ es) h = (h 0 1 e (omega arith) (omega arith), rising (d ∷ es) (λ i j x low less. h (suc i) (suc j) x (omega (arith, low)) (omega (arith, less))))

-- ---- entries that stand apart

pub from-behind : (from long : ℕ) (es : List Entry) (d : Entry) → stand_apart from long es ≡ true → In d es → from ≤ d.place
unfolding stand_apart
from-behind from long [] d h i = absurd i
from-behind from long (e ∷ es) d h (inl is) = let t = (and_parts (nat_le from e.place) _ h).0 in let low : from ≤ e.place = grind (arith, nat_tests) in omega (arith, low, ap place_of is)
from-behind from long (e ∷ es) d h (inr i) =
    let p = and_parts (nat_le from e.place) (stand_apart (e.place + long) long es) h in
    let t = p.0 in
    let low : from ≤ e.place = grind (arith, nat_tests) in
    let rest = from-behind (e.place + long) long es d p.1 i in
    omega (arith, low, rest)

pairs-apart : (from long : ℕ) (es : List Entry) (d e : Entry) → stand_apart from long es ≡ true → In d es → In e es → d.block ≢ e.block → (d.place + long ≤ e.place) ⊎ (e.place + long ≤ d.place)
unfolding stand_apart
pairs-apart from long [] d e h i j differ = absurd i
pairs-apart from long (x ∷ es) d e h i j differ =
    let tail = (and_parts (nat_le from x.place) (stand_apart (x.place + long) long es) h).1 in by tail (λ k l. pairs-apart (x.place + long) long es d e tail k l differ) i j
  where
    by : stand_apart (x.place + long) long es ≡ true → (In d es → In e es → (d.place + long ≤ e.place) ⊎ (e.place + long ≤ d.place)) → (d ≡ x) ⊎ In d es → (e ≡ x) ⊎ In e es
        → (d.place + long ≤ e.place) ⊎ (e.place + long ≤ d.place)
    by tail rest (inl is) (inl other) = absurd (differ (ap (λ (z : Entry). z.block) (is ∙ sym other)))
    by tail rest (inl is) (inr k) = inl (let b = from-behind (x.place + long) long es e tail k in omega (arith, b, ap place_of is))
    by tail rest (inr k) (inl is) = inr (let b = from-behind (x.place + long) long es d tail k in omega (arith, b, ap place_of is))
    by tail rest (inr k) (inr l) = rest k l

-- what a list of entries is where its places are apart
record AreApart (from long : ℕ) (es : List Entry) : Type 0 where
  behind : (e : Entry) → In e es → from ≤ e.place
  apart : (d e : Entry) → In d es → In e es → d.block ≢ e.block → (d.place + long ≤ e.place) ⊎ (e.place + long ≤ d.place)
  once : (b : ℕ) → how_many b es ≤ 1

later : (low : ℕ) (d : Entry) (es : List Entry) → low ≤ d.place → IsRising (d ∷ es) → (x : Entry) → In x (d ∷ es) → low ≤ x.place
later low d es h rises x (inl is) = omega (arith, h, ap place_of is)
later low d [] h rises x (inr i) = absurd i
later low d (c ∷ es) h rises x (inr i) = later low c es (omega (arith, h, rises.0)) rises.1 x i

apart-stand : (from long : ℕ) (es : List Entry) → 0 < long → IsRising es → AreApart from long es → stand_apart from long es ≡ true
unfolding stand_apart of_block how_many
apart-stand from long [] some rises a = refl
apart-stand from long (e ∷ []) some rises a = let low = a.behind e (inl refl) in let t : nat_le from e.place ≡ true = grind (arith, nat_tests) in rw t refl
apart-stand from long (e ∷ d ∷ es) some rises a =
    let low = a.behind e (inl refl) in
    let t : nat_le from e.place ≡ true = grind (arith, nat_tests) in
    let differ : e.block ≢ d.block = λ same.
    let one = a.once e.block in
    let here : (e.block == e.block) ≡ true = grind (arith, nat_tests) in
    let next : (d.block == e.block) ≡ true = grind (arith, nat_tests) in
    let more : suc (suc (length (filter (of_block e.block) es))) ≤ 1 = rw (here, next) at one in
    omega (arith, more) in
    let next : e.place + long ≤ d.place = ⊎_elim (λ h. h) (λ h. omega (arith, h, rises.0, some)) (a.apart e d (inl refl) (inr (inl refl)) differ) in
    let tail : AreApart (e.place + long) long (d ∷ es) = record {
      behind = λ x i. later (e.place + long) d es next rises.1 x i;
      apart = λ x y i j. a.apart x y (inr i) (inr j);
      once = λ b. fewer (e.block == b) (filter (of_block b) (d ∷ es)) e (a.once b);
    } in
    rw t (apart-stand (e.place + long) long (d ∷ es) some rises.1 tail)
  where
    fewer : (t : Bool) (xs : List Entry) (x : Entry) → length (cond t (x ∷ xs) xs) ≤ 1 → length xs ≤ 1
    fewer true xs x h = omega (arith, h)
    fewer false xs x h = h

fewer-of : (b : ℕ) (xs ys : List Entry) → how_many b xs ≤ 1 → count_by (of_block b) ys ≡ count_by (of_block b) xs → how_many b ys ≤ 1
unfolding how_many
fewer-of b xs ys one same = omega (arith, one, same, length-filter (of_block b) xs, length-filter (of_block b) ys)

-- ---- entries of a file

module _ (f : FileLayout) (file : File) (es : List Entry) (same : IsPermutation (entries_from (entry f file) 0 f.blocks) es) where
  listed : List Entry
  listed = entries_from (entry f file) 0 f.blocks

  pub entry-listed : (b : ℕ) → IsThere f file b → In (record { place = entry f file b; block = b }) es
  unfolding entries_from
  entry-listed b is =
      let e : Entry = record { place = entry f file b; block = b } in
      let n : is_named f file b ≡ true = named-test f file b is in
      let g : entry_for (entry f file b) b ≡ Some e = ap (λ t. given t e) n in
      In-permutation (entries_from (entry f file) 0 f.blocks) es e same (given-In (λ c. entry_for (entry f file c) c) (numbers 0 f.blocks) b e (numbers-In 0 f.blocks b (omega arith) (omega (arith, is.below))) g)

  pub listed-entry : (e : Entry) → In e es → IsThere f file e.block × (e.place ≡ entry f file e.block)
  unfolding entries_from
  listed-entry e i =
      let j = In-permutation es (entries_from (entry f file) 0 f.blocks) e (IsPermutation-sym (entries_from (entry f file) 0 f.blocks) es same) i in
      let b = In-given (λ c. entry_for (entry f file c) c) (numbers 0 f.blocks) e j in
      let n = In-numbers 0 f.blocks b.0 b.1 in
      let g = is-given (not (entry f file b.0 == blank)) (record { place = entry f file b.0; block = b.0 }) e b.2 in
      let there = there-test f file b.0 (omega (arith, n.1)) g.0 in
      let block : b.0 ≡ e.block = ap (λ (x : Entry). x.block) g.1 in
      (subst (λ c. IsThere f file c) block there, sym (ap (λ (x : Entry). x.place) g.1) ∙ ap (entry f file) block)

  stand-right : stand_apart (table_end f) (1 + f.block) es ≡ true → IsApart f file
  stand-right h = record {
    behind = λ b is. from-behind (table_end f) (1 + f.block) es (record { place = entry f file b; block = b }) h (entry-listed b is);
    apart = λ b c is other differ.
        pairs-apart (table_end f) (1 + f.block) es (record { place = entry f file b; block = b }) (record { place = entry f file c; block = c }) h (entry-listed b is) (entry-listed c other) differ;
  }

  right-stand : IsNonDecreasingBy (λ (e : Entry). e.place) es → IsApart f file → stand_apart (table_end f) (1 + f.block) es ≡ true
  right-stand sorted a = apart-stand (table_end f) (1 + f.block) es (omega arith) (rising es sorted) (record {
    behind = λ e i. let l = listed-entry e i in let b = a.behind e.block l.0 in omega (arith, b, l.1);
    apart = λ d e i j differ.
        let k = listed-entry d i in
        let l = listed-entry e j in
        ⊎_elim (λ h. inl (omega (arith, h, k.1, l.1))) (λ h. inr (omega (arith, h, k.1, l.1))) (a.apart d.block e.block k.0 l.0 differ);
    once = λ b.
        let all : List Entry = entries_from (entry f file) 0 f.blocks in
        let one = (once-from (entry f file) b 0 f.blocks).0 in
        fewer-of b all es one (sum_by-IsPermutation (λ e. cond (of_block b e) 1 0) all es same);
  })

  pub sorted-right : IsNonDecreasingBy (λ (e : Entry). e.place) es → stand_apart (table_end f) (1 + f.block) es ≡ not (is_table_wrong f file)
  sorted-right sorted = by (stand_apart (table_end f) (1 + f.block) es) (is_table_wrong f file) refl refl
    where
      by : (s w : Bool) → stand_apart (table_end f) (1 + f.block) es ≡ s → is_table_wrong f file ≡ w → s ≡ not w
      by true true is wrong = absurd (let r = right-apart f file (stand-right is) in cc (sym wrong ∙ r))
      by true false is wrong = refl
      by false true is wrong = refl
      by false false is wrong = absurd (let r = right-stand sorted (apart-right f file wrong) in cc (sym is ∙ r))
