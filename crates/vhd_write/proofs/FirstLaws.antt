-- What the first pass leaves of an image: each value is as it was, or holds new bytes.
use Rattle.std.proofs.Common.{◌≡◌, ◌≢◌, ℕ, ◌+◌, ◌-◌, ◌*◌, ◌<◌, ◌≤◌, ◌⊎◌, true, false, List, Some, None, sym, ap, ◌∙◌, subst, inl, inr, ⊎_elim, arith}
use Rattle.std.proofs.lemmas.Bool.{cases_Bool}
use Rattle.vhd_map.specs.Bitmaps.{is_set}
use Rattle.vhd_map.specs.Places.{blank}
use Rattle.vhd_layout.specs.Layouts.{Sectors, Layout, IsLayout, place, entry, code, entries_in_sectors, Slots, IsSlots}
use Rattle.vhd_layout.specs.Images.{IsValid, EachSlotHolds}
use Rattle.vhd_layout.specs.Contents.{value}
use Rattle.vhd_layout.proofs.ImageLaws.{option_cases, place-first, place-within, place-same, in_entries}
use Rattle.vhd_volumes.specs.Writes.{Follows}
use Rattle.vhd_write.specs.Passes.{PutsData}
use Rattle.vhd_write.proofs.ImageKept.{SameEnds, head-from_ends, entry-kept, value-blank, value-set, value-unset, StepsValue, follows-from_values}

-- w is v with some of the first pass's values
module _ (l : Layout) (ok : IsLayout l) (W : ℕ → List ℕ → Type 0) (m : Slots) (slots : IsSlots l m) (v w : Sectors)
    (each : (p : ℕ) → p < l.sectors → (w p ≡ v p) ⊎ PutsData l W m p (w p)) (room : l.first + 1 ≤ l.sectors) where
  -- no place of a slot in use, and no other part of it, but the new bytes of its block
  puts_low : (p : ℕ) (x : List ℕ) → PutsData l W m p x → (l.first ≤ p) × (p < l.sectors - 1)
  puts_low p x (inl (b, k, has, h)) =
      (omega (arith, place-first l k (1 + h.i), h.here), omega (arith, h.here, place-within l k (1 + h.i) (slots.fits b k has).1 (omega (arith, h.within))))
  puts_low p x (inr f) = (omega (arith, place-first l f.k f.j, f.here), omega (arith, f.here, place-within l f.k f.j f.below f.within))

  pub first-ends : SameEnds l v w
  first-ends = record {
    front = λ p below. ⊎_elim (λ e. e) (λ h. absurd (let low = puts_low p (w p) h in omega arith)) (each p (omega arith));
    last = ⊎_elim (λ e. e) (λ h. absurd (let low = puts_low (l.sectors - 1) (w (l.sectors - 1)) h in omega arith)) (each (l.sectors - 1) (omega arith));
  }

  place_in : (b k j : ℕ) → m b ≡ Some k → j < 1 + l.block → place l k j < l.sectors
  place_in b k j has within = omega (arith, place-within l k j (slots.fits b k has).1 within)

  -- the bitmap of a slot in use
  pub first-bitmap : (b k : ℕ) → m b ≡ Some k → w (place l k 0) ≡ v (place l k 0)
  first-bitmap b k has = ⊎_elim (λ e. e) (λ h. absurd (go h)) (each (place l k 0) (place_in b k 0 has (omega arith)))
    where
      go : PutsData l W m (place l k 0) (w (place l k 0)) → ⊥
      go (inl (c, o, had, h)) = let same = place-same l k o 0 (1 + h.i) (omega arith) (omega (arith, h.within)) h.here in omega (arith, same.1)
      go (inr f) = let same = place-same l k f.k 0 f.j (omega arith) f.within f.here in f.free b (has ∙ ap Some same.0)

  -- a sector of a slot in use
  pub first-data : (b k i : ℕ) → m b ≡ Some k → i < l.block → (w (place l k (1 + i)) ≡ v (place l k (1 + i))) ⊎ W (b * l.block + i) (w (place l k (1 + i)))
  first-data b k i has within = ⊎_elim (λ e. inl e) (λ h. inr (go h)) (each (place l k (1 + i)) (place_in b k (1 + i) has (omega arith)))
    where
      go : PutsData l W m (place l k (1 + i)) (w (place l k (1 + i))) → W (b * l.block + i) (w (place l k (1 + i)))
      go (inl (c, o, had, h)) =
          let same = place-same l k o (1 + i) (1 + h.i) (omega arith) (omega (arith, h.within)) h.here in
          let one : c ≡ b = slots.once c b k (had ∙ ap Some (sym same.0)) has in
          let i_is : h.i ≡ i = omega (arith, same.1) in
          let P : ℕ → Type 0 = λ x. W (x * l.block + i) (w (place l k (1 + i))) in
          let Q : ℕ → Type 0 = λ x. W (c * l.block + x) (w (place l k (1 + i))) in
          subst P one (subst Q i_is h.puts)
      go (inr f) = absurd (let same = place-same l k f.k (1 + i) f.j (omega arith) f.within f.here in f.free b (has ∙ ap Some same.0))

  -- v names no slot that m has not
  module _ (within : (b : ℕ) → b < entries_in_sectors l → (entry v b ≡ blank) ⊎ (entry v b ≡ code l (m b))) where
    pub first-within : (b : ℕ) → b < entries_in_sectors l → (entry w b ≡ blank) ⊎ (entry w b ≡ code l (m b))
    first-within b near = let e = entry-kept ok first-ends b near in ⊎_elim (λ h. inl (e ∙ h)) (λ h. inr (e ∙ h)) (within b near)

    both_blank : (b i : ℕ) → b < entries_in_sectors l → entry v b ≡ blank → value w b i ≡ value v b i
    both_blank b i near is = value-blank w b i (entry-kept ok first-ends b near ∙ is) ∙ sym (value-blank v b i is)

    pub first-values : StepsValue l (W) v w
    first-values b i below small = let near = in_entries l b below in
        ⊎_elim (λ e. inl (both_blank b i near e)) (λ e. by_slot near e (option_cases (m b))) (within b near)
      where
        Goal : Type 0
        Goal = (value w b i ≡ value v b i) ⊎ ((bytes : List ℕ) × W (b * l.block + i) bytes × (value w b i ≡ Some bytes))

        by_bit : (k : ℕ) → b < entries_in_sectors l → m b ≡ Some k → entry v b ≡ code l (Some k) → (is_set (v (place l k 0)) i ≡ true) ⊎ (is_set (v (place l k 0)) i ≡ false) → Goal
        by_bit k near has is (inr unset) =
            let low = (slots.fits b k has).0 in
            let is' = entry-kept ok first-ends b near ∙ is in
            let bits : is_set (w (place l k 0)) i ≡ false = ap (λ x. is_set x i) (first-bitmap b k has) ∙ unset in
            inl (value-unset l w b k i ok low is' bits ∙ sym (value-unset l v b k i ok low is unset))
        by_bit k near has is (inl set) =
            let low = (slots.fits b k has).0 in
            let is' = entry-kept ok first-ends b near ∙ is in
            let bits : is_set (w (place l k 0)) i ≡ true = ap (λ x. is_set x i) (first-bitmap b k has) ∙ set in
            let now = value-set l w b k i ok low is' bits in
            ⊎_elim
            (λ same. inl (now ∙ (ap Some same ∙ sym (value-set l v b k i ok low is set))))
            (λ puts. inr (w (place l k (1 + i)), puts, now))
            (first-data b k i has small)

        by_slot : b < entries_in_sectors l → entry v b ≡ code l (m b) → (m b ≡ None) ⊎ ((k : ℕ) × (m b ≡ Some k)) → Goal
        by_slot near is (inl none) = inl (both_blank b i near (is ∙ ap (code l) none))
        by_slot near is (inr (k, has)) = by_bit k near has (is ∙ ap (code l) has) (cases_Bool (is_set (v (place l k 0)) i))

    pub first-holds : EachSlotHolds l.block l.entries v → EachSlotHolds l.block l.entries w
    first-holds h = record { holds = λ b below filled. go b below (in_entries l b below) filled (within b (in_entries l b below)) (option_cases (m b)) }
      where
        go : (b : ℕ) → b < l.entries → b < entries_in_sectors l → entry w b ≢ blank → (entry v b ≡ blank) ⊎ (entry v b ≡ code l (m b)) → (m b ≡ None) ⊎ ((k : ℕ) × (m b ≡ Some k))
            → (i : ℕ) × (i < l.block) × (is_set (w (entry w b)) i ≡ true)
        go b below near filled (inl e) _ = absurd (filled (entry-kept ok first-ends b near ∙ e))
        go b below near filled (inr e) (inl none) = absurd (filled (entry-kept ok first-ends b near ∙ (e ∙ ap (code l) none)))
        go b below near filled (inr e) (inr (k, has)) =
            let same = entry-kept ok first-ends b near in
            let at_slot : entry v b ≡ place l k 0 = e ∙ ap (code l) has in
            let old = h.holds b below (λ x. filled (same ∙ x)) in
            let there : is_set (w (place l k 0)) old.0 ≡ true = ap (λ x. is_set x old.0) (first-bitmap b k has) ∙ (ap (λ p. is_set (v p) old.0) (sym at_slot) ∙ old.2) in
            (old.0, old.1, ap (λ p. is_set (w p) old.0) (same ∙ at_slot) ∙ there)

    pub first-follows : IsValid l.block l.entries l.sectors v → Follows l (W) v w
    first-follows valid = follows-from_values ok (head-from_ends ok first-ends) valid first-values first-holds
