-- A sector of the table, read into a map entry by entry.
use Rattle.std.proofs.Common.{◌≡◌, ◌≢◌, ℕ, ◌+◌, ◌*◌, ◌/◌, ◌<◌, ◌≤◌, ◌⊎◌, true, false, eqb, List, length, take, get_or, set, slice_index, Option, Some, None, refl, sym, ap, ◌∙◌, inl, inr, ⊎_elim, eq-eqb, arith, length-set, get_or-set_same, get_or-set_other}
use Rattle.std.specs.List.{list_any}
use Rattle.std.proofs.lemmas.List.{get_or-take, length-take-le}
use Rattle.std.proofs.lemmas.List.Folds.{list_any_at}
use Rattle.std.proofs.lemmas.Bool.{cases_eq, cases_order, eqb-true, true≢false}
use Rattle.vhd_map.specs.Slots.{slot_of, is_used}
use Rattle.vhd_map.specs.Places.{blank, code, word, Named, NamesFree, IsReadable, NamesSlots}
use Rattle.vhd_map.specs.Kept.{slot_or_none}
use Rattle.vhd_map.proofs.Spots.{spot-same}
use Rattle.vhd_map.proofs.KeptLemmas.{slot_or_none-some}
use Rattle.vhd_map.proofs.SlotLemmas.{slot_of-set_same, slot_of-set_other, is_used-set_other}

-- an entry names one slot
pub code-same : (first block a b : ℕ) → code first block (Some a) ≡ code first block (Some b) → a ≡ b
code-same first block a b same = (spot-same first block a b 0 0 (omega arith) (omega arith) same).0

-- no entry was read yet
pub NamesSlots-none : (first block blocks slots : ℕ) (m : List (Option ℕ)) (index : ℕ) (sector found : List ℕ) → NamesSlots first block blocks slots m index sector found 0
NamesSlots-none first block blocks slots m index sector found = record {
  each = λ j below. absurd (omega arith);
  once = λ i j before below. absurd (omega arith);
}

module _ (first block blocks slots : ℕ) (m : List (Option ℕ)) (index : ℕ) (sector : List ℕ) where
  -- one entry more, a blank one
  pub NamesSlots-blank : (found : List ℕ) (n : ℕ) → NamesSlots first block blocks slots m index sector found n → word sector n ≡ blank → slice_index found n ≡ blank → NamesSlots first block blocks slots m index sector found (n + 1)
  NamesSlots-blank found n so_far empty unset = record {
    each = λ j below. ⊎_elim (λ e. inl (ap (word sector) e ∙ empty, ap (λ (k : ℕ). get_or found k 0) e ∙ unset)) (λ ne. so_far.each j (omega arith)) (cases_eq j n);
    once = λ i j before below filled. ⊎_elim (λ e. absurd (filled (ap (λ (k : ℕ). get_or found k 0) e ∙ unset))) (λ ne. so_far.once i j before (omega arith) filled) (cases_eq j n);
  }

  -- one entry more, which names a slot that none before it names
  pub NamesSlots-slot : (found : List ℕ) (n slot : ℕ) → NamesSlots first block blocks slots m index sector found n → n < length found → 128 * index + n < blocks → Named first block slots m (word sector n) slot → ((i : ℕ) → i < n → slice_index found i ≢ slot) → NamesSlots first block blocks slots m index sector (set found n slot) (n + 1)
  NamesSlots-slot found n slot so_far within block_in named new = record {
    each = λ j below. ⊎_elim (λ e. at e) (λ ne. rw (other j ne) (so_far.each j (omega arith))) (cases_eq j n);
    once = λ i j before below. ⊎_elim
        (λ e filled same. new i (omega arith) (sym (other i (omega arith)) ∙ (same ∙ (ap (λ (k : ℕ). get_or (set found n slot) k 0) e ∙ here))))
        (λ ne filled same. so_far.once i j before (omega arith) (λ b. filled (other j ne ∙ b)) (sym (other i (omega arith)) ∙ (same ∙ other j ne)))
        (cases_eq j n);
  }
    where
      here : get_or (set found n slot) n 0 ≡ slot
      here = get_or-set_same found n slot 0 within

      other : (j : ℕ) → j ≢ n → get_or (set found n slot) j 0 ≡ get_or found j 0
      other j ne = get_or-set_other found n j slot 0 ne

      at : {j : ℕ} → j ≡ n → ((word sector j ≡ blank) × (get_or (set found n slot) j 0 ≡ blank)) ⊎ ((128 * index + j < blocks) × Named first block slots m (word sector j) (get_or (set found n slot) j 0))
      at {j} e = rw (e, here) (inr (block_in, named))

  -- an entry that can't be read
  pub unreadable : (n : ℕ) → n < 128 → word sector n ≢ blank → ¬ ((128 * index + n < blocks) × NamesFree first block slots m (word sector n)) → ¬ IsReadable first block blocks slots m index sector
  unreadable n within filled bad readable = ⊎_elim (λ e. filled e) (λ ok. bad ok) (readable.each n within)

  -- a slot that two entries name
  pub unreadable_twice : (found : List ℕ) (n i slot : ℕ) → NamesSlots first block blocks slots m index sector found n → n < 128 → i < n → slot < 4294967295 → word sector n ≢ blank → word sector n ≡ code first block (Some slot) → slice_index found i ≡ slot → ¬ IsReadable first block blocks slots m index sector
  unreadable_twice found n i slot so_far within before small filled named same readable = ⊎_elim
      (λ e. omega (arith, e.1, same))
      (λ ok. let one = readable.once n i within (omega arith) filled (named ∙ sym (ok.1.named ∙ ap (λ (k : ℕ). code first block (Some k)) same)) in omega arith)
      (so_far.each i before)

  -- all entries are read
  pub IsReadable-from : (found : List ℕ) → slots < 4294967296 → NamesSlots first block blocks slots m index sector found 128 → IsReadable first block blocks slots m index sector
  IsReadable-from found small named = record {
    each = λ j within. ⊎_elim (λ e. inl e.0) (λ ok. inr (ok.0, (slice_index found j, ok.1))) (named.each j within);
    once = once;
  }
    where
      found_at : (j : ℕ) → j < 128 → word sector j ≢ blank → Named first block slots m (word sector j) (slice_index found j)
      found_at j within filled = ⊎_elim (λ e. absurd (filled e.0)) (λ ok. ok.1) (named.each j within)

      once : (i j : ℕ) → i < 128 → j < 128 → word sector i ≢ blank → word sector i ≡ word sector j → i ≡ j
      once i j within within' filled same =
          let here = found_at i within filled in
          let there = found_at j within' (λ e. filled (same ∙ e)) in
          let one = code-same first block (slice_index found i) (slice_index found j) (sym here.named ∙ (same ∙ there.named)) in
          ⊎_elim (λ e. e)
          (λ apart. ⊎_elim
          (λ less. absurd (named.once i j less within' (λ e. omega (arith, e, there.within)) one))
          (λ more. absurd (named.once j i more within (λ e. omega (arith, e, here.within)) (sym one))) apart)
          (cases_order i j)

-- the slot stands at place k among the first n that were found
pub found_before : (found : List ℕ) (n slot k : ℕ) → n ≤ length found → k < length (take n found) → eqb (get_or (take n found) k 0) slot ≡ true → (k < n) × (slice_index found k ≡ slot)
found_before found n slot k within low same =
    let near : k < n = omega (arith, low, length-take-le n found within) in
    (near, sym (get_or-take n found k 0 near) ∙ eqb-true (get_or (take n found) k 0) slot same)

-- it does not
pub not_found_before : (found : List ℕ) (n slot : ℕ) → n ≤ length found → list_any (λ y. eqb y slot) (take n found) ≡ false → (i : ℕ) → i < n → slice_index found i ≢ slot
not_found_before found n slot within none i low same =
    true≢false (sym (list_any_at (λ (y : ℕ). eqb y slot) (take n found) i 0 (omega (arith, length-take-le n found within)) (ap (λ (y : ℕ). eqb y slot) (get_or-take n found i 0 low ∙ same) ∙ eq-eqb slot slot refl)) ∙ none)

-- ---- the slots that were found are put into the map

-- the first n slots that were found stand in map m; all else is as in map `old`
pub record Filled (old : List (Option ℕ)) (index : ℕ) (found : List ℕ) (m : List (Option ℕ)) (n : ℕ) : Type 0 where
  pub long : length m ≡ length old
  pub others : (b : ℕ) → b / 128 ≢ index → slot_of m b ≡ slot_of old b
  pub filled : (k : ℕ) → k < n → slot_of m (128 * index + k) ≡ slot_or_none (slice_index found k)
  pub empty : (k : ℕ) → n ≤ k → k < 128 → slot_of m (128 * index + k) ≡ None
  pub free : (k : ℕ) → n ≤ k → k < 128 → slice_index found k ≢ blank → is_used m (slice_index found k) ≡ false

-- an entry that names no slot
pub Filled-skip : (old m : List (Option ℕ)) (index : ℕ) (found : List ℕ) (n : ℕ) → Filled old index found m n → n < 128 → slice_index found n ≡ blank → Filled old index found m (n + 1)
Filled-skip old m index found n so_far within unset = record {
  long = so_far.long;
  others = so_far.others;
  filled = λ k below. ⊎_elim (λ e. ap (λ (j : ℕ). slot_of m (128 * index + j)) e ∙ (so_far.empty n (omega arith) within ∙ sym (ap slot_or_none (ap (slice_index found) e ∙ unset)))) (λ ne. so_far.filled k (omega arith)) (cases_eq k n);
  empty = λ k low high. so_far.empty k (omega arith) high;
  free = λ k low high. so_far.free k (omega arith) high;
}

-- an entry that names a slot
pub Filled-put : (old m : List (Option ℕ)) (index : ℕ) (found : List ℕ) (n slot : ℕ) → Filled old index found m n → n < 128 → slice_index found n ≡ slot → slot ≢ blank → 128 * index + n < length m → ((k : ℕ) → n < k → k < 128 → slice_index found k ≢ blank → slot ≢ slice_index found k) → Filled old index found (set m (128 * index + n) (Some slot)) (n + 1)
Filled-put old m index found n slot so_far within is some block_in new = record {
  long = length-set m (128 * index + n) (Some slot) ∙ so_far.long;
  others = λ b ne. slot_of-set_other m (128 * index + n) slot b (λ e. ne (omega arith)) ∙ so_far.others b ne;
  filled = λ k below. ⊎_elim
      (λ e. ap (λ (j : ℕ). slot_of (set m (128 * index + n) (Some slot)) (128 * index + j)) e ∙ (slot_of-set_same m (128 * index + n) slot block_in ∙ (sym (slot_or_none-some slot some) ∙ sym (ap slot_or_none (ap (slice_index found) e ∙ is)))))
      (λ ne. slot_of-set_other m (128 * index + n) slot (128 * index + k) (λ e. ne (omega arith)) ∙ so_far.filled k (omega arith))
      (cases_eq k n);
  empty = λ k low high. slot_of-set_other m (128 * index + n) slot (128 * index + k) (λ e. omega arith) ∙ so_far.empty k (omega arith) high;
  free = λ k low high filled. is_used-set_other m (128 * index + n) slot (slice_index found k) block_in (so_far.empty n (omega arith) within) (λ e. new k (omega arith) high filled (sym e)) ∙ so_far.free k (omega arith) high filled;
}
