-- What the passes put stands where the write may put it.
use Rattle.std.proofs.Common.{◌≡◌, ℕ, ◌-◌, ◌*◌, ◌/◌, ◌<◌, ◌≤◌, List, length, Option, Some, None, sym, ap, ◌∙◌, subst, inl, inr, ⊎_elim}
use Rattle.std.proofs.lemmas.Option.{none-some, same_Some}
use Rattle.sm_disk.specs.Held.{Held, IsIn, May, Reaches, reads}
use Rattle.sm_disk.proofs.HeldLaws.{May-reads}
use Rattle.sm_disk.proofs.ReachesLaws.{Reaches-then, Reaches-wider, Reaches-keeps}
use Rattle.vhd_map.specs.Slots.{slot_of, least_free_slot}
use Rattle.vhd_map.proofs.SlotLemmas.{slot_of-set_same}
use Rattle.vhd_layout.specs.Layouts.{Sectors, Layout, Slots, place}
use Rattle.vhd_volumes.specs.Writes.{HasGrown, with_block}
use Rattle.vhd_write.specs.Passes.{PutsHeld, PutsBlock, PutsEntries, PutsTable, PutsRest, GoesOn}
use Rattle.vhd_write.specs.Spans.{IsSpan}
use Rattle.vhd_write.specs.WritePlaces.{HasOnlyBits, HasMoreBits, IsWritePlace, KeepsToPlaces}
use Rattle.vhd_write.proofs.BitLaws.{only-then}
use Rattle.vhd_write.proofs.LoopLaws.{span-touches, table-block}
use Rattle.vhd_write.proofs.MapLaws.{with_block-gives, with_block-new}
use Rattle.vhd_write.proofs.RestLaws.{AllPut}

-- a sector of the table that has the entry of one of the span's blocks
pub table-touched : (l : Layout) (m : Slots) {at count first end : ℕ} → IsSpan l.block at count first end → (index : ℕ) → first / 128 ≤ index → index ≤ (end - 1) / 128 → {y z : Held}
    → Reaches (PutsEntries l m index) y z → Reaches (PutsTable l (IsIn at (512 * count)) m) y z
table-touched l m {at} {count} {first} {end} span index low high r = Reaches-wider go r
  where
    go : (p : ℕ) (v : List ℕ) → PutsEntries l m index p v → PutsTable l (IsIn at (512 * count)) m p v
    go p v h =
        let t = table-block span index low high in
        record { b = t.0; touched = span-touches span t.0 t.1 t.2; puts = subst (λ x. PutsEntries l m x p v) (sym t.3) h }

module _ (l : Layout) (W : ℕ → List ℕ → Type 0) (M : ℕ → Type 0) where
  -- by equal reads
  pub places-as : (m n : Slots) {r s : Sectors} → ((p : ℕ) → r p ≡ s p) → (p : ℕ) (v : List ℕ) → IsWritePlace l W M m n r p v → IsWritePlace l W M m n s p v
  places-as m n same p v (inl h) = inl h
  places-as m n {r} {s} same p v (inr (inl h)) =
      let P : List ℕ → Type 0 = λ x. HasMoreBits l M h.b x v in
      inr (inl (record { b = h.b; k = h.k; touched = h.touched; has = h.has; here = h.here; fresh = h.fresh; more = λ j had. subst P (same p) (h.more j had) }))
  places-as m n same p v (inr (inr h)) = inr (inr h)

  sector_place : {m all : Slots} {r : Sectors} {b k p : ℕ} {v : List ℕ} → all b ≡ Some k → PutsHeld l W b k p v → IsWritePlace l W M m all r p v
  sector_place {m} {all} {r} {b} {k} has h = inl (record { b = b; k = k; i = h.i; within = h.within; puts = h.puts; has = has; here = h.here })

  -- what the first pass puts for one block, by a map that has its slot
  pub block-places : (c : ℕ) (m n all : List (Option ℕ)) → HasGrown m n → c < length n → HasGrown (with_block c n) all → {x y z : Held} → KeepsToPlaces l W M (slot_of m) (slot_of all) x y → Reaches (PutsBlock l W M n c) y z
      → KeepsToPlaces l W M (slot_of m) (slot_of all) x z
  block-places c m n all before within grown {x} {y} {z} r s = Reaches-then r (Reaches-wider go s)
    where
      new : slot_of n c ≡ None → slot_of all c ≡ Some (least_free_slot n)
      new none = grown.keeps c (least_free_slot n) (ap (λ x. slot_of x c) (with_block-new c n none) ∙ slot_of-set_same n c (least_free_slot n) within)

      go : (p : ℕ) (v : List ℕ) → PutsBlock l W M n c p v → IsWritePlace l W M (slot_of m) (slot_of all) (reads x) p v
      go p v (inl (k, has, h)) = sector_place (grown.keeps c k ((with_block-gives c n).grown.keeps c k has)) h
      go p v (inr (none, inl (touched, here, only))) = inr (inl (record {
        b = c;
        k = least_free_slot n;
        touched = touched;
        has = new none;
        here = here;
        fresh = λ without. only;
        more = λ j had. absurd (none-some j (sym none ∙ before.keeps c j had));
      }))
      go p v (inr (none, inr h)) = sector_place (new none) h

  -- and what the passes behind the sync put: the first one has put all blocks, and no bitmap of a slot in use
  module _ (m n : Slots) (x y : Held) (put : AllPut l W M m n (reads y)) (kept : (b k : ℕ) → m b ≡ Some k → reads y (place l k 0) ≡ reads x (place l k 0)) where
    rest_place : (p : ℕ) (v : List ℕ) → PutsRest l M n (reads y) p v → IsWritePlace l W M m n (reads x) p v
    rest_place p v (inl (b, k, has, h)) = inr (inl (record {
      b = b;
      k = k;
      touched = h.touched;
      has = has;
      here = h.here;
      fresh = λ none. only-then l M b (reads y p) v (let P : ℕ → Type 0 = λ q. HasOnlyBits l M b (reads y q) in subst P (sym h.here) ((put.each b).fresh k none has).only) h.more;
      more = λ j had.
          let same : k ≡ j = same_Some k j (sym has ∙ put.grown b j had) in
          let here : p ≡ place l j 0 = h.here ∙ ap (λ q. place l q 0) same in
          let was : reads y p ≡ reads x p = ap (reads y) here ∙ (kept b j had ∙ ap (reads x) (sym here)) in
          let P : List ℕ → Type 0 = λ w. HasMoreBits l M b w v in subst P was h.more;
    }))
    rest_place p v (inr h) = inr (inr (record { b = h.b; touched = h.touched; here = h.puts.here; entries = λ j below. inr (h.puts.sector j below) }))

    pub rest-places : {z : Held} → KeepsToPlaces l W M m n x y → GoesOn l M n y z → KeepsToPlaces l W M m n x z
    rest-places r (inl keeps) = Reaches-then r (Reaches-keeps (IsWritePlace l W M m n (reads x)) keeps)
    rest-places {z} r (inr goes) = Reaches-then r (let s : Reaches (IsWritePlace l W M m n (reads x)) y z = record {
      may = λ p v is. ⊎_elim
          (λ e. inl (subst (λ (w : List ℕ). May y p w) (sym e) (May-reads y p)))
          (λ h. inr (rest_place p v h)) (goes.may p v is);
      gives = λ p. ⊎_elim (λ e. inl e) (λ h. inr (rest_place p (reads z p) h)) (goes.gives p);
    } in s)
