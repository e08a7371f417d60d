-- What is kept of a table as its sectors are read.
use Rattle.std.proofs.Common.{◌≡◌, ◌⊎◌, inl, inr, ℕ, zero, suc, ◌+◌, ◌-◌, ◌*◌, ◌/◌, ◌%◌, ◌<◌, ◌≤◌, min, true, false, List, [], ◌∷◌, ◌++◌, length, length-append, Option, refl, sym, ap, ◌∙◌, arith, subst}
use Rattle.std.specs.Prelude.{◌==◌, All}
use Rattle.std.specs.List.{concat, filter_map}
use Rattle.std.proofs.Math.ListN.{get_or-append}
use Rattle.std.proofs.lemmas.Bool.{cases_lt}
use Rattle.std.proofs.lemmas.List.{append-nil, get_or-append-add}
use Rattle.std.proofs.lemmas.List.Elements.{All-append, All-cons, All-nil, filter_map-append}
use Rattle.std.proofs.lemmas.List.Folds.{concat-append}
use Rattle.common_laws.specs.Lists.{numbers}
use Rattle.common_laws.proofs.Lists.{In-numbers}
use Rattle.sm_base.specs.Numbers.{div_up}
use Rattle.sm_disk.specs.Streams.{Takes}
use Rattle.sm_disk.proofs.StreamLaws.{Takes-none, Takes-then}
use Rattle.sm_run.specs.Runs.{IsSpent}
use Rattle.vhd_map.specs.Places.{blank, word}
use Rattle.vhd_stream.specs.Files.{File, FileLayout, entry, sector_at}
use Rattle.vhd_import.specs.declared.tables.Entry.{Entry}
use Rattle.vhd_import.specs.declared.tables.TableRead.{TableRead}
use Rattle.vhd_import.specs.Entries.{IsPartRead, IsSomeRead, IsTableRead, entries_from, entry_for, table_entry}
use Rattle.vhd_import.proofs.TestLaws.{filter_map-same}

pub numbers-append : (a n m : ℕ) → numbers a (n + m) ≡ numbers a n ++ numbers (a + n) m
unfolding numbers
numbers-append a zero m = let e : zero + m ≡ m = omega arith in let d : a + zero ≡ a = omega arith in rw (e, d) refl
numbers-append a (suc n) m =
    let e : suc n + m ≡ suc (n + m) = omega arith in
    let d : a + suc n ≡ a + 1 + n = omega arith in
    rw (e, d) (ap (λ (l : List ℕ). a ∷ l) (numbers-append (a + 1) n m))

pub entries-append : (place : ℕ → ℕ) (a n m : ℕ) → entries_from place a (n + m) ≡ entries_from place a n ++ entries_from place (a + n) m
unfolding entries_from
entries-append place a n m =
    let keep : ℕ → Option Entry = λ b. entry_for (place b) b in
    ap (filter_map keep) (numbers-append a n m) ∙ filter_map-append keep (numbers a n) (numbers (a + n) m)

pub entries-same : (p q : ℕ → ℕ) (a n : ℕ) → ((b : ℕ) → a ≤ b → b < a + n → p b ≡ q b) → entries_from p a n ≡ entries_from q a n
unfolding entries_from
entries-same p q a n same =
    filter_map-same (λ b. entry_for (p b) b) (λ b. entry_for (q b) b) (numbers a n) (λ b i. let w = In-numbers a n b i in ap (λ e. entry_for e b) (same b w.0 w.1))

-- one entry more, which names a place or not
pub entries-there : (place : ℕ → ℕ) (a n e b : ℕ) → place (a + n) ≡ e → (e == blank) ≡ false → b ≡ a + n → entries_from place a (n + 1) ≡ entries_from place a n ++ record { place = e; block = b } ∷ []
unfolding entries_from numbers
entries-there place a n e b is there same = entries-append place a n 1 ∙ ap (λ (l : List Entry). entries_from place a n ++ l) (rw (is, there, same) refl)

pub entries-none : (place : ℕ → ℕ) (a n e : ℕ) → place (a + n) ≡ e → (e == blank) ≡ true → entries_from place a (n + 1) ≡ entries_from place a n
unfolding entries_from numbers
entries-none place a n e is none = entries-append place a n 1 ∙ ap (λ (l : List Entry). entries_from place a n ++ l) (rw (is, none) refl) ∙ append-nil (entries_from place a n)

-- ---- sectors of a table

front-entry : (sectors : List (List ℕ)) (s : List ℕ) (b : ℕ) → b < 128 * length sectors → table_entry (sectors ++ s ∷ []) b ≡ table_entry sectors b
unfolding table_entry
front-entry sectors s b low = ap (λ t. word t (b % 128)) (get_or-append sectors (s ∷ []) [] (b / 128) (omega (arith, low)))

last-entry : (sectors : List (List ℕ)) (s : List ℕ) (b : ℕ) → 128 * length sectors ≤ b → b < 128 * length sectors + 128 → table_entry (sectors ++ s ∷ []) b ≡ word s (b - 128 * length sectors)
unfolding table_entry
last-entry sectors s b low high =
    let at : b / 128 ≡ length sectors + 0 = omega (arith, low, high) in
    let rest : b % 128 ≡ b - 128 * length sectors = omega (arith, low, high) in
    ap (λ k. word (sector_at (sectors ++ s ∷ []) k) (b % 128)) at ∙ ap (λ t. word t (b % 128)) (get_or-append-add sectors (s ∷ []) 0 []) ∙ ap (word s) rest

-- so many sectors of a table were read, and of its first blocks the entries are kept that name a place
pub record IsKept (had left : Option (List ℕ)) (index blocks : ℕ) (kept : List Entry) (before now : ℕ) : Type 0 where
  pub sectors : List (List ℕ)
  pub whole : All (λ s. length s ≡ 512) sectors
  pub count : length sectors ≡ index
  pub takes : Takes had (concat sectors) left
  pub kept_are : kept ≡ entries_from (table_entry sectors) 0 (min blocks (128 * index))
  pub calm : now ≡ before

IsLong : List ℕ → Type 0
IsLong s = length s ≡ 512

pub none-kept : (content : Option (List ℕ)) (blocks : ℕ) (kept : List Entry) (faults : ℕ) → kept ≡ [] → IsKept content content 0 blocks kept faults faults
unfolding IsLong entries_from numbers
none-kept content blocks kept faults none = record {
  sectors = [];
  whole = All-nil IsLong;
  count = refl;
  takes = Takes-none content;
  kept_are = let z : min blocks (128 * 0) ≡ 0 = omega arith in none ∙ rw z refl;
  calm = refl;
}

no-more : (place : ℕ → ℕ) (first : ℕ) (l : List Entry) → l ++ entries_from place first 0 ≡ l
unfolding entries_from numbers
no-more place first l = append-nil l

pub more-kept : (had mid left : Option (List ℕ)) (index blocks count : ℕ) (kept after : List Entry) (sector : List ℕ) (before then now : ℕ) → IsKept had mid index blocks kept before then → length sector ≡ 512 → Takes mid sector left
    → count ≡ min (blocks - 128 * index) 128 → after ≡ kept ++ entries_from (λ b. word sector (b - 128 * index)) (128 * index) count → now ≡ then → IsKept had left (index + 1) blocks after before now
unfolding IsLong
more-kept had mid left index blocks count kept after sector before then now k long takes counted added calm = record {
  sectors = k.sectors ++ sector ∷ [];
  whole = All-append IsLong k.sectors (sector ∷ []) k.whole (All-cons IsLong sector [] long (All-nil IsLong));
  count = omega (arith, length-append k.sectors (sector ∷ []), k.count);
  takes = subst (λ bytes. Takes had bytes left) (sym (concat-append k.sectors (sector ∷ []) ∙ ap (λ (l : List ℕ). concat k.sectors ++ l) (append-nil sector)))
      (Takes-then had mid left (concat k.sectors) sector k.takes takes);
  kept_are = added ∙ ap (λ (l : List Entry). l ++ entries_from (λ b. word sector (b - 128 * index)) (128 * index) count) k.kept_are ∙ by (cases_lt (128 * index) blocks);
  calm = calm ∙ k.calm;
}
  where
    all : List (List ℕ)
    all = k.sectors ++ sector ∷ []

    front : entries_from (table_entry k.sectors) 0 (min blocks (128 * index)) ≡ entries_from (table_entry all) 0 (min blocks (128 * index))
    front = entries-same (table_entry k.sectors) (table_entry all) 0 (min blocks (128 * index)) (λ b low high. sym (front-entry k.sectors sector b (omega (arith, high, k.count))))

    by : (128 * index < blocks) ⊎ (blocks ≤ 128 * index) → entries_from (table_entry k.sectors) 0 (min blocks (128 * index)) ++ entries_from (λ b. word sector (b - 128 * index)) (128 * index) count ≡ entries_from (table_entry all) 0 (min blocks (128 * (index + 1)))
    by (inl some) =
        let from : min blocks (128 * index) ≡ 128 * index = omega (arith, some) in
        let to : min blocks (128 * (index + 1)) ≡ 128 * index + count = omega (arith, some, counted) in
        let start : 0 + 128 * index ≡ 128 * index = omega arith in
        let few : count ≤ 128 = omega (arith, counted) in
        let back : entries_from (λ b. word sector (b - 128 * index)) (128 * index) count ≡ entries_from (table_entry all) (128 * index) count =
        entries-same (λ b. word sector (b - 128 * index)) (table_entry all) (128 * index) count (λ b low high.
        ap (λ n. word sector (b - 128 * n)) (sym k.count) ∙ sym (last-entry k.sectors sector b (omega (arith, low, k.count)) (omega (arith, high, few, k.count)))) in
        ap (λ (l : List Entry). l ++ entries_from (λ b. word sector (b - 128 * index)) (128 * index) count) front
        ∙ ap (λ (l : List Entry). entries_from (table_entry all) 0 (min blocks (128 * index)) ++ l) back
        ∙ ap (λ n. entries_from (table_entry all) 0 n ++ entries_from (table_entry all) (128 * index) count) from
        ∙ ap (λ n. entries_from (table_entry all) 0 (128 * index) ++ entries_from (table_entry all) n count) (sym start)
        ∙ sym (entries-append (table_entry all) 0 (128 * index) count)
        ∙ ap (entries_from (table_entry all) 0) (sym to)
    by (inr none) =
        let zero_more : count ≡ 0 = omega (arith, none, counted) in
        let same : min blocks (128 * index) ≡ min blocks (128 * (index + 1)) = omega (arith, none) in
        ap (λ n. entries_from (table_entry k.sectors) 0 (min blocks (128 * index)) ++ entries_from (λ b. word sector (b - 128 * index)) (128 * index) n) zero_more
        ∙ no-more (λ b. word sector (b - 128 * index)) (128 * index) (entries_from (table_entry k.sectors) 0 (min blocks (128 * index)))
        ∙ front ∙ ap (entries_from (table_entry all) 0) same

-- what was read of a table that was read whole
pub all-kept : (had left : Option (List ℕ)) (index entries blocks : ℕ) (t : TableRead) (before now : ℕ) → IsKept had left index blocks t.kept.items before now → index ≡ div_up entries 128 → t.sectors ≡ index → IsTableRead had left entries blocks t
all-kept had left index entries blocks t before now k is same = record {
  sectors = k.sectors;
  part = [];
  read = record { whole = k.whole; less = omega arith; takes = subst (λ bytes. Takes had bytes left) (sym (append-nil (concat k.sectors))) k.takes };
  count = k.count ∙ sym same;
  all = inl (same ∙ is, refl);
  kept_are = k.kept_are ∙ ap (λ n. entries_from (table_entry k.sectors) 0 (min blocks (128 * n))) (sym same);
}

part-read : (had mid left : Option (List ℕ)) (index blocks : ℕ) (kept : List Entry) (part : List ℕ) (before now : ℕ) → (k : IsKept had mid index blocks kept before now) → length part < 512 → Takes mid part left → IsPartRead had left k.sectors part
part-read had mid left index blocks kept part before now k less takes = record { whole = k.whole; less = less; takes = Takes-then had mid left (concat k.sectors) part k.takes takes }

-- of one in which the file ended
pub ended-kept : (had mid left : Option (List ℕ)) (index entries blocks : ℕ) (t : TableRead) (part : List ℕ) (before now : ℕ) → IsKept had mid index blocks t.kept.items before now → length part < 512 → Takes mid part left → IsSpent left
    → index < div_up entries 128 → t.sectors ≡ index → IsTableRead had left entries blocks t
ended-kept had mid left index entries blocks t part before now k less takes spent more same = record {
  sectors = k.sectors;
  part = part;
  read = part-read had mid left index blocks t.kept.items part before now k less takes;
  count = k.count ∙ sym same;
  all = inr (omega (arith, more, same), spent);
  kept_are = k.kept_are ∙ ap (λ n. entries_from (table_entry k.sectors) 0 (min blocks (128 * n))) (sym same);
}

-- of one of which a sector was not read
pub left-kept : (had mid left : Option (List ℕ)) (index blocks : ℕ) (kept : List Entry) (before now : ℕ) → IsKept had mid index blocks kept before now → (part : List ℕ) × (length part < 512) × Takes mid part left → IsSomeRead had left
left-kept had mid left index blocks kept before now k p = (k.sectors, p.0, part-read had mid left index blocks kept p.0 before now k p.1 p.2)

-- and of one of which a sector was, but its entries not kept
pub whole-left : (had mid left : Option (List ℕ)) (index blocks : ℕ) (kept : List Entry) (sector : List ℕ) (before now : ℕ) → IsKept had mid index blocks kept before now → length sector ≡ 512 → Takes mid sector left → IsSomeRead had left
unfolding IsLong
whole-left had mid left index blocks kept sector before now k long takes =
    let bytes : concat (k.sectors ++ sector ∷ []) ++ [] ≡ concat k.sectors ++ sector =
    append-nil (concat (k.sectors ++ sector ∷ [])) ∙ concat-append k.sectors (sector ∷ []) ∙ ap (λ (l : List ℕ). concat k.sectors ++ l) (append-nil sector) in (
      k.sectors ++ sector ∷ [],
      [],
      record {
        whole = All-append IsLong k.sectors (sector ∷ []) k.whole (All-cons IsLong sector [] long (All-nil IsLong));
        less = omega arith;
        takes = subst (λ b. Takes had b left) (sym bytes) (Takes-then had mid left (concat k.sectors) sector k.takes takes);
      },
    )

-- what is kept of a table is what the file says, in which it stands behind so many sectors
pub kept-of-file : (f : FileLayout) (front sectors rest : File) → length front ≡ f.table → f.blocks ≤ 128 * length sectors
    → entries_from (table_entry sectors) 0 f.blocks ≡ entries_from (entry f (front ++ (sectors ++ rest))) 0 f.blocks
unfolding table_entry entry
kept-of-file f front sectors rest at fits = entries-same (table_entry sectors) (entry f (front ++ (sectors ++ rest))) 0 f.blocks (λ b low high.
    let place : f.table + b / 128 ≡ length front + b / 128 = omega (arith, at) in
    let same : sector_at (front ++ (sectors ++ rest)) (f.table + b / 128) ≡ sector_at sectors (b / 128) =
    ap (sector_at (front ++ (sectors ++ rest))) place ∙ get_or-append-add front (sectors ++ rest) (b / 128) [] ∙ get_or-append sectors rest [] (b / 128) (omega (arith, high, fits)) in
    ap (λ s. word s (b % 128)) (sym same))
