-- What one sector more puts on the disk, and how many slots it takes.
use Rattle.std.proofs.Common.{◌≡◌, ◌≢◌, inl, inr, ⊎_elim, ℕ, zero, suc, ◌+◌, ◌<◌, ◌≤◌, Bool, true, false, ◌&&◌, cond, List, [], ◌∷◌, ◌++◌, length, Option, Some, None, refl, sym, ap, ◌∙◌, arith}
use Rattle.std.specs.Prelude.{◌==◌, ◌||◌, nat_lt, nat_le, if◌then◌else◌}
use Rattle.std.specs.List.{cons_option, filter, filter_map, find, list_any}
use Rattle.std.proofs.lemmas.Bool.{and_from, and_parts, cases_eq}
use Rattle.std.proofs.lemmas.Bool.Decides.{nat_tests}
use Rattle.std.proofs.lemmas.List.{append-nil}
use Rattle.std.proofs.lemmas.List.Elements.{filter_map-append}
use Rattle.std.proofs.lemmas.List.Sums.{length-filter}
use Rattle.common_laws.specs.Lists.{In, numbers, ◌>>=◌}
use Rattle.common_laws.proofs.Lists.{In-numbers, find-only, find_none, numbers-In}
use Rattle.vhd_stream.specs.Files.{File, FileLayout, IsThere, entry, table_end}
use Rattle.vhd_import.specs.Heads.{is_dynamic, layout_at}
use Rattle.vhd_import.specs.Puts.{block_put, dynamic_put, has_sector, put_at}
use Rattle.vhd_import.specs.Room.{Target, distinct_blocks, filled_at, used}
use Rattle.vhd_import.specs.Tables.{is_named, is_table_wrong}
use Rattle.vhd_import.proofs.KeptLaws.{numbers-append}
use Rattle.vhd_import.proofs.TableLaws.{apart-right, named-test, there-test}
use Rattle.vhd_import.proofs.TestLaws.{any-given, given-any}

-- ---- puts

put-dynamic : (file : File) (f : FileLayout) (k : ℕ) → is_dynamic file ≡ true → layout_at file ≡ Some f → table_end f ≤ k → put_at file k ≡ (find (has_sector f file k) (numbers 0 f.blocks) >>= block_put f file k)
unfolding put_at dynamic_put
put-dynamic file f k dynamic at behind =
    let late : nat_le (table_end f) k ≡ true = grind (arith, nat_tests) in
    rw (dynamic, at, late) refl

-- a data sector of a block that is there is put as one of this block, since no other has it
pub put-of-block : (file : File) (f : FileLayout) (k b : ℕ) → is_dynamic file ≡ true → layout_at file ≡ Some f → is_table_wrong f file ≡ false → IsThere f file b → entry f file b < k → k ≤ entry f file b + f.block
    → put_at file k ≡ block_put f file k b
put-of-block file f k b dynamic at right there low high =
    let a = apart-right f file right in
    let behind = a.behind b there in
    let named = named-test f file b there in
    let first : nat_lt (entry f file b) k ≡ true = grind (arith, nat_tests) in
    let last : nat_le k (entry f file b + f.block) ≡ true = grind (arith, nat_tests) in
    let has : has_sector f file k b ≡ true = and_from (is_named f file b) (nat_lt (entry f file b) k && nat_le k (entry f file b + f.block)) named (and_from (nat_lt (entry f file b) k) (nat_le k (entry f file b + f.block)) first last) in
    let found = find-only (has_sector f file k) (numbers 0 f.blocks) b (numbers-In 0 f.blocks b (omega arith) (omega (arith, there.below))) has (λ c i other.
    let n = In-numbers 0 f.blocks c i in
    let p = and_parts (is_named f file c) (nat_lt (entry f file c) k && nat_le k (entry f file c + f.block)) other in
    let q = and_parts (nat_lt (entry f file c) k) (nat_le k (entry f file c + f.block)) p.1 in
    let also = there-test f file c (omega (arith, n.1)) p.0 in
    let after : entry f file c < k = let t = q.0 in grind (arith, nat_tests) in
    let within : k ≤ entry f file c + f.block = let t = q.1 in grind (arith, nat_tests) in
    ⊎_elim (λ same. same) (λ differ. absurd (⊎_elim (λ h. omega (arith, h, low, high, after, within)) (λ h. omega (arith, h, low, high, after, within)) (a.apart c b also there differ))) (cases_eq c b)) in
    put-dynamic file f k dynamic at (omega (arith, behind, low)) ∙ ap (λ (o : Option ℕ). o >>= block_put f file k) found

-- a sector of no block puts nothing
pub put-of-none : (file : File) (f : FileLayout) (k : ℕ) → is_dynamic file ≡ true → layout_at file ≡ Some f → ((b : ℕ) → b < f.blocks → has_sector f file k b ≡ false) → put_at file k ≡ None
unfolding put_at dynamic_put
put-of-none file f k dynamic at none =
    let lost : find (has_sector f file k) (numbers 0 f.blocks) ≡ None = find_none (has_sector f file k) (numbers 0 f.blocks) (λ b i. let n = In-numbers 0 f.blocks b i in none b (omega (arith, n.1))) in
    rw (dynamic, at) (by (nat_le (table_end f) k) lost)
  where
    by : (t : Bool) → find (has_sector f file k) (numbers 0 f.blocks) ≡ None → (if t then find (has_sector f file k) (numbers 0 f.blocks) >>= block_put f file k else None) ≡ None
    by true lost = ap (λ (o : Option ℕ). o >>= block_put f file k) lost
    by false lost = refl

-- ---- slots

any-append : (p : ℕ → Bool) (xs ys : List ℕ) → list_any p (xs ++ ys) ≡ (list_any p xs || list_any p ys)
any-append p [] ys = refl
any-append p (x ∷ xs) ys = ap (λ b. p x || b) (any-append p xs ys) ∙ joined (p x) (list_any p xs) (list_any p ys)
  where
    joined : (a b c : Bool) → (a || (b || c)) ≡ ((a || b) || c)
    joined true b c = refl
    joined false b c = refl

filter-same : (p q : ℕ → Bool) (xs : List ℕ) → ((x : ℕ) → In x xs → p x ≡ q x) → length (filter p xs) ≡ length (filter q xs)
filter-same p q [] same = refl
filter-same p q (x ∷ xs) same = by (p x) (q x) (same x (inl refl)) (filter-same p q xs (λ y i. same y (inr i)))
  where
    by : (a b : Bool) → a ≡ b → length (filter p xs) ≡ length (filter q xs) → length (cond a (x ∷ filter p xs) (filter p xs)) ≡ length (cond b (x ∷ filter q xs) (filter q xs))
    by true true h rest = ap suc rest
    by true false h rest = absurd (cc h)
    by false true h rest = absurd (cc h)
    by false false h rest = rest

more-here : (p q : ℕ → Bool) (x : ℕ) (xs : List ℕ) → p x ≡ false → q x ≡ true → length (filter q xs) ≡ length (filter p xs) → length (filter q (x ∷ xs)) ≡ length (filter p (x ∷ xs)) + 1
more-here p q x xs off on tail = rw (off, on) (omega (arith, tail))

more-there : (p q : ℕ → Bool) (x : ℕ) (xs : List ℕ) → q x ≡ p x → length (filter q xs) ≡ length (filter p xs) + 1 → length (filter q (x ∷ xs)) ≡ length (filter p (x ∷ xs)) + 1
more-there p q x xs same tail = by (p x) (q x) same
  where
    by : (a b : Bool) → b ≡ a → length (cond b (x ∷ filter q xs) (filter q xs)) ≡ length (cond a (x ∷ filter p xs) (filter p xs)) + 1
    by true true h = omega (arith, tail)
    by true false h = absurd (cc h)
    by false true h = absurd (cc h)
    by false false h = tail

-- a test that passes at one number more
one-more : (p q : ℕ → Bool) (b first count : ℕ) → p b ≡ false → q b ≡ true → ((c : ℕ) → c ≢ b → q c ≡ p c) → first ≤ b → b < first + count → length (filter q (numbers first count)) ≡ length (filter p (numbers first count)) + 1
unfolding numbers
one-more p q b first zero off on same low high = absurd (omega (arith, low, high))
one-more p q b first (suc count) off on same low high = ⊎_elim
    (λ (is : first ≡ b). more-here p q first (numbers (first + 1) count) (ap p is ∙ off) (ap q is ∙ on)
    (filter-same q p (numbers (first + 1) count) (λ c i. let n = In-numbers (first + 1) count c i in same c (λ e. omega (arith, e, is, n.0)))))
    (λ (differ : first ≡ b → ⊥). more-there p q first (numbers (first + 1) count) (same first differ) (one-more p q b (first + 1) count off on same (omega (arith, low, differ)) (omega (arith, high))))
    (cases_eq first b)

blocks-of : Target → File → ℕ → List ℕ
blocks-of t file count = filter_map (filled_at t file) (numbers 0 count)

blocks-more : (t : Target) (file : File) (k : ℕ) (o : Option ℕ) → filled_at t file k ≡ o → blocks-of t file (k + 1) ≡ blocks-of t file k ++ cons_option o []
unfolding numbers blocks-of
blocks-more t file k o is =
    let at : filled_at t file (0 + k) ≡ o = let e : 0 + k ≡ k = omega arith in ap (filled_at t file) e ∙ is in
    ap (filter_map (filled_at t file)) (numbers-append 0 k 1) ∙ filter_map-append (filled_at t file) (numbers 0 k) (numbers (0 + k) 1)
    ∙ ap (λ (x : Option ℕ). filter_map (filled_at t file) (numbers 0 k) ++ cons_option x []) at

-- block b is among those filled before
among : List ℕ → ℕ → Bool
among blocks b = list_any (λ c. c == b) blocks

used-is : (t : Target) (file : File) (count : ℕ) → used t file count ≡ length (filter (among (blocks-of t file count)) (numbers 0 t.entries))
unfolding used distinct_blocks blocks-of among
used-is t file count = sym (length-filter (λ b. list_any (λ c. c == b) (filter_map (filled_at t file) (numbers 0 count))) (numbers 0 t.entries))

among-more : (blocks : List ℕ) (b c : ℕ) → among (blocks ++ b ∷ []) c ≡ (among blocks c || ((b == c) || false))
unfolding among
among-more blocks b c = any-append (λ d. d == c) blocks (b ∷ [])

pub used-none : (t : Target) (file : File) (k : ℕ) → filled_at t file k ≡ None → used t file (k + 1) ≡ used t file k
used-none t file k is =
    let same : blocks-of t file (k + 1) ≡ blocks-of t file k = blocks-more t file k None is ∙ append-nil (blocks-of t file k) in
    used-is t file (k + 1) ∙ ap (λ bs. length (filter (among bs) (numbers 0 t.entries))) same ∙ sym (used-is t file k)

or-self : (a b : Bool) → (b ≡ true → a ≡ true) → (a || b) ≡ a
or-self true b h = refl
or-self false true h = let e : false ≡ true = h refl in absurd (cc e)
or-self false false h = refl

-- the block has a slot already
pub used-same : (t : Target) (file : File) (k j b : ℕ) → filled_at t file k ≡ Some b → j < k → filled_at t file j ≡ Some b → used t file (k + 1) ≡ used t file k
unfolding blocks-of among
used-same t file k j b is before same =
    let here : list_any (λ c. c == b) (filter_map (filled_at t file) (numbers 0 k)) ≡ true = given-any (filled_at t file) (numbers 0 k) j b (numbers-In 0 k j (omega arith) (omega (arith, before))) same in
    used-is t file (k + 1) ∙ ap (λ bs. length (filter (among bs) (numbers 0 t.entries))) (blocks-more t file k (Some b) is)
    ∙ filter-same (among (blocks-of t file k ++ b ∷ [])) (among (blocks-of t file k)) (numbers 0 t.entries) (λ c i.
    among-more (blocks-of t file k) b c ∙ or-self (among (blocks-of t file k) c) ((b == c) || false) (λ h. by c (b == c) refl h here))
    ∙ sym (used-is t file k)
  where
    by : (c : ℕ) (t' : Bool) → (b == c) ≡ t' → ((b == c) || false) ≡ true → among (blocks-of t file k) b ≡ true → among (blocks-of t file k) c ≡ true
    by c true e h here = let n : b ≡ c = grind (arith, nat_tests) in ap (among (blocks-of t file k)) (sym n) ∙ here
    by c false e h here = absurd (let d : false ≡ true = rw e at h in cc d)

-- the block gets a slot
pub used-more : (t : Target) (file : File) (k b : ℕ) → filled_at t file k ≡ Some b → b < t.entries → ((j : ℕ) → j < k → filled_at t file j ≢ Some b) → used t file (k + 1) ≡ used t file k + 1
unfolding blocks-of among
used-more t file k b is below new =
    let off : among (blocks-of t file k) b ≡ false = by (among (blocks-of t file k) b) refl in
    let yes : (b == b) ≡ true = grind (arith, nat_tests) in
    let on : among (blocks-of t file k ++ b ∷ []) b ≡ true = among-more (blocks-of t file k) b b ∙ rw (off, yes) refl in
    used-is t file (k + 1) ∙ ap (λ bs. length (filter (among bs) (numbers 0 t.entries))) (blocks-more t file k (Some b) is)
    ∙ one-more (among (blocks-of t file k)) (among (blocks-of t file k ++ b ∷ [])) b 0 t.entries off on (λ c differ.
    let no : (b == c) ≡ false = grind (arith, nat_tests) in among-more (blocks-of t file k) b c ∙ rw no (or-self (among (blocks-of t file k) c) false (λ h. absurd (cc h)))) (omega arith) (omega (arith, below))
    ∙ ap (λ n. n + 1) (sym (used-is t file k))
  where
    by : (a : Bool) → among (blocks-of t file k) b ≡ a → among (blocks-of t file k) b ≡ false
    by false e = e
    by true e = absurd (let j = any-given (filled_at t file) (numbers 0 k) b e in let n = In-numbers 0 k j.0 j.1 in new j.0 (omega (arith, n.1)) j.2)
