-- The test of a table says what the definition of a file asks of one.
use Rattle.std.proofs.Common.{◌≡◌, ◌≢◌, ◌⊎◌, inl, inr, ⊎_elim, ℕ, ◌+◌, ◌<◌, ◌≤◌, Bool, true, false, not, ◌&&◌, length, refl, sym, ap, ◌∙◌, arith}
use Rattle.std.specs.Prelude.{nat_lt, nat_le, ◌==◌, ◌||◌}
use Rattle.std.proofs.lemmas.Bool.{and_left, and_parts, cases_Bool, cases_lt, le-ltb, or_from, or_parts}
use Rattle.std.proofs.lemmas.Bool.Decides.{nat_tests}
use Rattle.vhd_layout.specs.Readings.{each_below, some_below}
use Rattle.vhd_map.specs.Places.{blank}
use Rattle.vhd_stream.specs.Files.{File, FileLayout, IsTable, IsThere, block_end, entry, table_end}
use Rattle.vhd_import.specs.Tables.{is_entry_wrong, is_named, is_table_wrong, overlap}
use Rattle.vhd_import.specs.Verdicts.{is_whole}
use Rattle.vhd_import.proofs.TestLaws.{each_below-at, each_below-from, some_below-at, some_below-none}

pub named-test : (f : FileLayout) (file : File) (b : ℕ) → IsThere f file b → is_named f file b ≡ true
named-test f file b is = let e : (entry f file b == blank) ≡ false = let n = is.named in grind (arith, nat_tests) in ap not e

pub there-test : (f : FileLayout) (file : File) (b : ℕ) → b < f.blocks → is_named f file b ≡ true → IsThere f file b
there-test f file b below t = record { below = below; named = λ same. let e : (entry f file b == blank) ≡ true = grind (arith, nat_tests) in let d : false ≡ true = rw e at t in cc d }

second-false : (a b : Bool) → a ≡ true → (a && b) ≡ false → b ≡ false
second-false true b is h = h
second-false false b is h = absurd (cc is)

apart-of : (x y n : ℕ) → (nat_lt x (y + n) && nat_lt y (x + n)) ≡ false → (y + n ≤ x) ⊎ (x + n ≤ y)
apart-of x y n h = ⊎_elim (λ low. ⊎_elim (λ other. absurd (let e : (nat_lt x (y + n) && nat_lt y (x + n)) ≡ true = grind (arith, nat_tests) in cc (sym e ∙ h))) (λ high. inr high) (cases_lt y (x + n))) (λ high. inl high) (cases_lt x (y + n))

-- ---- a table that passes is right

record IsRight (f : FileLayout) (file : File) (b : ℕ) : Type 0 where
  behind : table_end f ≤ entry f file b
  apart : (c : ℕ) → c < b → IsThere f file c → (block_end f file c ≤ entry f file b) ⊎ (block_end f file b ≤ entry f file c)

is-right : (f : FileLayout) (file : File) (b : ℕ) → IsThere f file b → is_entry_wrong f file b ≡ false → IsRight f file b
unfolding is_entry_wrong
is-right f file b is h =
    let clash : ℕ → Bool = λ c. is_named f file c && overlap f file b c in
    let rest : (nat_lt (entry f file b) (table_end f) || some_below clash b) ≡ false = second-false (is_named f file b) _ (named-test f file b is) h in
    let parts = or_parts (nat_lt (entry f file b) (table_end f)) (some_below clash b) rest in
    record {
      behind = let e = parts.0 in grind (arith, nat_tests);
      apart = λ c less other.
          let none : clash c ≡ false = some_below-at clash b c parts.1 less in
          let both_low = second-false (is_named f file c) _ (named-test f file c other) none in
          apart-of (entry f file b) (entry f file c) (1 + f.block) both_low;
    }

turned : {A B : Type 0} → A ⊎ B → B ⊎ A
turned (inl a) = inr a
turned (inr b) = inl b

pub whole-end : (file : File) (f : FileLayout) → is_whole file f ≡ true → table_end f ≤ length file
unfolding is_whole
whole-end file f h = let t = (and_parts (nat_le (table_end f) (length file)) _ h).0 in grind (arith, nat_tests)

-- each block that is there lies behind the whole table and overlaps no other
pub record IsApart (f : FileLayout) (file : File) : Type 0 where
  pub behind : (b : ℕ) → IsThere f file b → table_end f ≤ entry f file b
  pub apart : (b c : ℕ) → IsThere f file b → IsThere f file c → b ≢ c → (block_end f file b ≤ entry f file c) ⊎ (block_end f file c ≤ entry f file b)

pub apart-right : (f : FileLayout) (file : File) → is_table_wrong f file ≡ false → IsApart f file
apart-right f file right =
    let each : (b : ℕ) → IsThere f file b → IsRight f file b = λ b is. is-right f file b is (some_below-at (is_entry_wrong f file) f.blocks b right is.below) in
    record {
      behind = λ b is. (each b is).behind;
      apart = λ b c is other differ.
          ⊎_elim (λ less. (each c other).apart b less is) (λ more. let less : c < b = omega (arith, more, differ) in turned ((each b is).apart c less other)) (cases_lt b c);
    }

pub table-right : (f : FileLayout) (file : File) → is_table_wrong f file ≡ false → is_whole file f ≡ true → IsTable f file
unfolding is_whole
table-right f file right whole =
    let a = apart-right f file right in
    let fits : ℕ → Bool = λ b. not (is_named f file b) || nat_le (block_end f file b) (length file) in
    let parts = and_parts (nat_le (table_end f) (length file)) (each_below fits f.blocks) whole in
    record {
      behind = a.behind;
      whole = λ b is.
          let e : fits b ≡ true = each_below-at fits f.blocks b parts.1 is.below in
          let n : is_named f file b ≡ true = named-test f file b is in
          let t : nat_le (block_end f file b) (length file) ≡ true = rw n at e in
          grind (arith, nat_tests);
      apart = a.apart;
    }

-- ---- a right table passes

not-overlap : (x y n : ℕ) → (y + n ≤ x) ⊎ (x + n ≤ y) → (nat_lt x (y + n) && nat_lt y (x + n)) ≡ false
not-overlap x y n (inl h) = let e : nat_lt x (y + n) ≡ false = grind (arith, nat_tests) in rw e refl
not-overlap x y n (inr h) = let e : nat_lt y (x + n) ≡ false = grind (arith, nat_tests) in by (nat_lt x (y + n)) e
  where
    by : (a : Bool) → nat_lt y (x + n) ≡ false → (a && nat_lt y (x + n)) ≡ false
    by true e = e
    by false e = refl

right-entry : (f : FileLayout) (file : File) (b : ℕ) → IsApart f file → b < f.blocks → is_entry_wrong f file b ≡ false
unfolding is_entry_wrong
right-entry f file b table below = ⊎_elim there (λ n. and_left (is_named f file b) _ n) (cases_Bool (is_named f file b))
  where
    clash : ℕ → Bool
    clash c = is_named f file c && overlap f file b c

    one : IsThere f file b → (c : ℕ) → c < b → clash c ≡ false
    one is c less = ⊎_elim
        (λ n. let other = there-test f file c (omega (arith, less, below)) n in
        let o : overlap f file b c ≡ false = not-overlap (entry f file b) (entry f file c) (1 + f.block) (turned (table.apart b c is other (λ same. omega (arith, same, less)))) in
        rw (n, o) refl)
        (λ n. and_left (is_named f file c) _ n)
        (cases_Bool (is_named f file c))

    there : is_named f file b ≡ true → (is_named f file b && (nat_lt (entry f file b) (table_end f) || some_below clash b)) ≡ false
    there n =
        let is = there-test f file b below n in
        let low : nat_lt (entry f file b) (table_end f) ≡ false = le-ltb (entry f file b) (table_end f) (table.behind b is) in
        rw n (or_from (nat_lt (entry f file b) (table_end f)) (some_below clash b) low (some_below-none clash b (one is)))

pub right-apart : (f : FileLayout) (file : File) → IsApart f file → is_table_wrong f file ≡ false
right-apart f file table = some_below-none (is_entry_wrong f file) f.blocks (λ b below. right-entry f file b table below)

pub right-table : (f : FileLayout) (file : File) → IsTable f file → is_table_wrong f file ≡ false
right-table f file table = right-apart f file (record { behind = table.behind; apart = table.apart })

-- so is the front of one, of as many blocks as it has or fewer
pub right-front : (f : FileLayout) (file : File) (n : ℕ) → n ≤ f.blocks → IsTable f file → is_table_wrong (record f { blocks = n }) file ≡ false
unfolding entry
right-front f file n few table = right-apart (record f { blocks = n }) file (record { behind = λ b is. table.behind b (there b is); apart = λ b c is other. table.apart b c (there b is) (there c other) })
  where
    there : (b : ℕ) → IsThere (record f { blocks = n }) file b → IsThere f file b
    there b is = record { below = omega (arith, is.below, few); named = is.named }

pub right-whole : (f : FileLayout) (file : File) → table_end f ≤ length file → IsTable f file → is_whole file f ≡ true
unfolding is_whole
right-whole f file end table =
    let t : nat_le (table_end f) (length file) ≡ true = grind (arith, nat_tests) in
    rw t (each_below-from _ f.blocks fits)
  where
    fits : (b : ℕ) → b < f.blocks → (not (is_named f file b) || nat_le (block_end f file b) (length file)) ≡ true
    fits b below = ⊎_elim
        (λ n. let is = there-test f file b below n in
        let w = table.whole b is in
        let t : nat_le (block_end f file b) (length file) ≡ true = grind (arith, nat_tests) in
        rw (n, t) refl)
        (λ n. rw n refl)
        (cases_Bool (is_named f file b))
