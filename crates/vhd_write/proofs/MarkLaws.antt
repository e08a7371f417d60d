-- Writes of the marked ones of some sectors.
use Rattle.std.proofs.Common.{◌≡◌, ℕ, ◌+◌, ◌-◌, ◌*◌, ◌<◌, ◌≤◌, ◌⊎◌, true, false, List, length, replicate, Option, Some, None, refl, sym, ap, ◌∙◌, subst, inl, inr, ⊎_elim, arith}
use Rattle.std.proofs.lemmas.Bool.{cases_Bool, cases_lt, true≢false}
use Rattle.std.proofs.lemmas.Nat.{same_from_place}
use Rattle.std.proofs.lemmas.Option.{same_Some}
use Rattle.sm_disk.specs.Held.{Held, IsIn, Puts, Torn, Wrote, Reaches, reads}
use Rattle.sm_disk.specs.Sectors.{sector}
use Rattle.sm_disk.proofs.HeldLaws.{reads-wrote}
use Rattle.sm_disk.proofs.ReachesLaws.{Reaches-torn, Reaches-wider}
use Rattle.sm_disk.proofs.SectorLaws.{sector-part}
use Rattle.vhd_map.specs.Bitmaps.{is_set}
use Rattle.vhd_map.specs.Slots.{slot_of, least_free_slot}
use Rattle.vhd_layout.specs.Layouts.{Layout, Sectors, place}
use Rattle.vhd_layout.proofs.ImageLaws.{option_cases, place-part}
use Rattle.vhd_volumes.specs.Writes.{with_block}
use Rattle.vhd_write.specs.Marks.{HasMark, HasMarked, IsMarked, IsMarkedIn, PutsBitmap, PutsMarked, PutsMarkedIn}
use Rattle.vhd_write.specs.Passes.{HasBits, HasData, IsNewSlot, IsPut, PutsBlock, PutsHeld}
use Rattle.vhd_write.specs.Payloads.{piece_of}
use Rattle.vhd_write.specs.WritePlaces.{HasMoreBits, HasOnlyBits, Touches}
use Rattle.vhd_map.proofs.SlotLemmas.{slot_of-set_same}
use Rattle.vhd_write.proofs.BitLaws.{is_set-zeros, one-value}
use Rattle.vhd_write.proofs.GivenLaws.{IsGivenBy, IsWithin}
use Rattle.vhd_write.proofs.MapLaws.{with_block-held, with_block-new}

-- ---- places

module _ (count at : ℕ) (marks bytes : List ℕ) where
  pub marks-given : IsGivenBy (PutsMarked count at marks bytes) (IsMarked count at marks)
  marks-given = record {
    inside = λ p v h. record { i = h.i; within = h.within; here = h.here; marked = h.marked };
    some = λ p h. (sector bytes h.i, record { i = h.i; within = h.within; here = h.here; marked = h.marked; is = refl });
    either = λ p. by p (cases_lt p at) (cases_lt (p - at) count) (cases_Bool (is_set marks (p - at)));
  }
    where
      by : (p : ℕ) → (p < at) ⊎ (at ≤ p) → (p - at < count) ⊎ (count ≤ p - at) → (is_set marks (p - at) ≡ true) ⊎ (is_set marks (p - at) ≡ false) → IsMarked count at marks p ⊎ (IsMarked count at marks p → ⊥)
      by p (inl low) _ _ = inr (λ h. omega (arith, h.here))
      by p (inr _) (inr past) _ = inr (λ h. omega (arith, h.here, h.within))
      by p (inr from) (inl inside) (inl on) = inl (record { i = p - at; within = inside; here = omega arith; marked = on })
      by p (inr from) (inl inside) (inr off) = inr (λ h. let same : h.i ≡ p - at = omega (arith, h.here) in true≢false (sym (sym (ap (is_set marks) same) ∙ h.marked) ∙ off))

  -- what was put stays where no more is put than that
  pub marked-stays : (from until : ℕ) {y z : Held} → until ≤ count → Reaches (PutsMarked count at marks bytes) y z → HasMarked at marks bytes from until (reads y) → HasMarked at marks bytes from until (reads z)
  marked-stays from until {y} {z} most r before i low high marked = ⊎_elim
      (λ same. same ∙ before i low high marked)
      (λ h. let nth : h.i ≡ i = omega (arith, h.here) in h.is ∙ ap (sector bytes) nth)
      (r.gives (at + i))

-- some, and those behind them
pub marked-then : (at : ℕ) (marks bytes : List ℕ) (from mid until : ℕ) (r : Sectors) → HasMarked at marks bytes from mid r → HasMarked at marks bytes mid until r → HasMarked at marks bytes from until r
marked-then at marks bytes from mid until r f g i low high marked = ⊎_elim (λ front. f i low front marked) (λ behind. g i behind high marked) (cases_lt i mid)

-- of sectors that are not marked nothing is asked
pub unmarked-done : (at part count : ℕ) (marks bytes : List ℕ) (r : Sectors) → ((i : ℕ) → i < count → is_set marks (part + i) ≡ false) → HasMarked at marks bytes part (part + count) r
unmarked-done at part count marks bytes r off i low high on =
    let whole : part + (i - part) ≡ i = omega (arith, low) in
    absurd (true≢false (sym on ∙ (sym (ap (is_set marks) whole) ∙ off (i - part) (omega (arith, low, high)))))

-- a run of marked sectors
module _ (at part count wide place : ℕ) (marks bytes run : List ℕ) (run_is : run ≡ piece_of part count bytes) (long : length run ≡ 512 * count) (here : place ≡ at + part) (fits : part + count ≤ wide)
    (marked : (i : ℕ) → i < count → is_set marks (part + i) ≡ true) where
  run_puts : (p : ℕ) (v : List ℕ) → Puts place run p v → PutsMarked wide at marks bytes p v
  run_puts p v (i, is) =
      let near : p - place < count = omega (arith, i.0, i.1, long) in
      record {
        i = part + (p - place);
        within = omega (arith, near, fits);
        here = omega (arith, here, i.0);
        marked = marked (p - place) near;
        is = is ∙ (ap (λ x. sector x (p - place)) run_is ∙ sector-part bytes part (512 * count) (p - place) (omega (arith, near)));
      }

  pub run-reaches : {a c : Held} → Torn place run a c → Reaches (PutsMarked wide at marks bytes) a c
  run-reaches t = Reaches-wider run_puts (Reaches-torn t)

  pub run-done : {a c : Held} → Wrote place run a c → HasMarked at marks bytes part (part + count) (reads c)
  run-done {a} {c} w i low high on =
      let inside : IsIn place (length run) (at + i) = (omega (arith, here, low), omega (arith, here, high, long)) in
      let nth : at + i - place ≡ i - part = omega (arith, here) in
      let whole : part + (i - part) ≡ i = omega (arith, low) in
      reads-wrote w (at + i) inside
      ∙ (ap (sector run) nth
      ∙ (ap (λ x. sector x (i - part)) run_is
      ∙ (sector-part bytes part (512 * count) (i - part) (omega (arith, low, high))
      ∙ ap (sector bytes) whole)))

-- ---- the marked sectors of a block

module _ (l : Layout) (b : ℕ) (marks : List ℕ) where
  -- they lie in that block alone
  pub marks-within : IsWithin l (IsMarkedIn l.block b marks) b (b + 1)
  marks-within c i small h = let same = same_from_place c i b h.i l.block small h.within h.here in (omega (arith, same.0), omega (arith, same.0))

  -- sector i of it is marked
  marked_at : (i : ℕ) → i < l.block → IsMarkedIn l.block b marks (b * l.block + i) → is_set marks i ≡ true
  marked_at i small h = let same : h.i ≡ i = omega (arith, h.here) in sym (ap (is_set marks) same) ∙ h.marked

  is_marked : (i : ℕ) → i < l.block → is_set marks i ≡ true → IsMarkedIn l.block b marks (b * l.block + i)
  is_marked i small on = record { i = i; within = small; here = refl; marked = on }

  pub marks-touch : HasMark l.block marks → Touches l (IsMarkedIn l.block b marks) b
  marks-touch some = (some.0, some.1, is_marked some.0 some.1 some.2)

  pub marks-all : (bitmap : List ℕ) → ((i : ℕ) → i < l.block → is_set marks i ≡ true → is_set bitmap i ≡ true) → HasBits l (IsMarkedIn l.block b marks) b bitmap
  marks-all bitmap all i small h = all i small (marked_at i small h)

  pub marks-more : (old new : List ℕ) → ((i : ℕ) → (is_set new i ≡ is_set old i) ⊎ ((is_set new i ≡ true) × (i < l.block) × (is_set marks i ≡ true))) → HasMoreBits l (IsMarkedIn l.block b marks) b old new
  marks-more old new others i = ⊎_elim (λ same. inl same) (λ h. inr (h.0, h.1, is_marked i h.1 h.2)) (others i)

  pub marks-only : (n : ℕ) (new : List ℕ) → ((i : ℕ) → (is_set new i ≡ is_set (replicate {A = ℕ} n 0) i) ⊎ ((is_set new i ≡ true) × (i < l.block) × (is_set marks i ≡ true))) → HasOnlyBits l (IsMarkedIn l.block b marks) b new
  marks-only n new others i on = ⊎_elim (λ same. absurd (true≢false (sym on ∙ (same ∙ is_set-zeros n i)))) (λ h. (h.1, is_marked i h.1 h.2)) (others i)

  pub marks-new : (k : ℕ) (r : Sectors) → HasMark l.block marks → HasOnlyBits l (IsMarkedIn l.block b marks) b (r (place l k 0)) → HasBits l (IsMarkedIn l.block b marks) b (r (place l k 0)) → IsNewSlot l (IsMarkedIn l.block b marks) b k r
  marks-new k r some only each = record { only = only; each = each; some = marks-touch some }

  module _ (bytes : List ℕ) where
    -- in the slot k
    slot_puts : (k p : ℕ) (v : List ℕ) → PutsMarked l.block (place l k 1) marks bytes p v → PutsHeld l (PutsMarkedIn l.block b marks bytes) b k p v
    slot_puts k p v h = record {
      i = h.i;
      within = h.within;
      here = omega (arith, h.here, place-part l k 1, place-part l k (1 + h.i));
      puts = record { i = h.i; within = h.within; here = refl; marked = h.marked; is = h.is };
    }

    pub slot-reaches : (k : ℕ) {a c : Held} → Reaches (PutsMarked l.block (place l k 1) marks bytes) a c → Reaches (PutsHeld l (PutsMarkedIn l.block b marks bytes) b k) a c
    slot-reaches k r = Reaches-wider (slot_puts k) r

    pub slot-data : (k : ℕ) (r : Sectors) → HasMarked (place l k 1) marks bytes 0 l.block r → HasData l (PutsMarkedIn l.block b marks bytes) b k r
    slot-data k r done i v small h =
        let same : h.i ≡ i = omega (arith, h.here) in
        let at : place l k (1 + i) ≡ place l k 1 + i = omega (arith, place-part l k 1, place-part l k (1 + i)) in
        ap r at ∙ (done i (omega arith) small (sym (ap (is_set marks) same) ∙ h.marked) ∙ sym (h.is ∙ ap (sector bytes) same))

    -- the first pass
    pub bitmap-puts : (m : List (Option ℕ)) {a c : Held} → Reaches (PutsBitmap l (IsMarkedIn l.block b marks) m b) a c → Reaches (PutsBlock l (PutsMarkedIn l.block b marks bytes) (IsMarkedIn l.block b marks) m b) a c
    bitmap-puts m r = Reaches-wider (λ p v h. inr (h.without, inl (h.touched, h.here, h.only))) r

    -- the bitmap is as it was, where only data is put
    pub bitmap-stays : (k : ℕ) {y z : Held} → Reaches (PutsMarked l.block (place l k 1) marks bytes) y z → reads z (place l k 0) ≡ reads y (place l k 0)
    bitmap-stays k r = ⊎_elim (λ same. same) (λ h. absurd (omega (arith, h.here, place-part l k 1))) (r.gives (place l k 0))

    -- data in the slot that the block has behind the first pass
    pub data-puts : (m : List (Option ℕ)) (k : ℕ) → b < length m → slot_of (with_block b m) b ≡ Some k → {a c : Held} → Reaches (PutsMarked l.block (place l k 1) marks bytes) a c
        → Reaches (PutsBlock l (PutsMarkedIn l.block b marks bytes) (IsMarkedIn l.block b marks) m b) a c
    data-puts m k low has r = ⊎_elim
        (λ none. Reaches-wider (λ p v h. inr (none, inr (subst (λ x. PutsHeld l (PutsMarkedIn l.block b marks bytes) b x p v) (sym (new_slot none)) h))) (slot-reaches k r))
        (λ had. Reaches-wider (λ p v h. inl (k, ap (λ n. slot_of n b) (sym (with_block-held b m had.0 had.1)) ∙ has, h)) (slot-reaches k r))
        (option_cases (slot_of m b))
      where
        new_slot : slot_of m b ≡ None → least_free_slot m ≡ k
        new_slot none = same_Some (least_free_slot m) k (sym (ap (λ n. slot_of n b) (with_block-new b m none) ∙ slot_of-set_same m b (least_free_slot m) low) ∙ has)

    -- the block is put
    pub data-put : (o : Option ℕ) (n : List (Option ℕ)) (k : ℕ) → slot_of n b ≡ Some k → {y z : Held} → (o ≡ None → IsNewSlot l (IsMarkedIn l.block b marks) b k (reads y)) → Reaches (PutsMarked l.block (place l k 1) marks bytes) y z
        → HasMarked (place l k 1) marks bytes 0 l.block (reads z) → IsPut l (PutsMarkedIn l.block b marks bytes) (IsMarkedIn l.block b marks) o (slot_of n b) b (reads z)
    data-put o n k has {y} {z} new r done = record {
      data_is = λ j had. subst (λ x. HasData l (PutsMarkedIn l.block b marks bytes) b x (reads z)) (same_Some k j (sym has ∙ had)) (slot-data k (reads z) done);
      fresh = λ j none had. subst (λ x. IsNewSlot l (IsMarkedIn l.block b marks) b x (reads z)) (same_Some k j (sym has ∙ had)) (still (new none));
    }
      where
        still : IsNewSlot l (IsMarkedIn l.block b marks) b k (reads y) → IsNewSlot l (IsMarkedIn l.block b marks) b k (reads z)
        still h =
            let same = bitmap-stays k r in
            record {
              only = λ i on. h.only i (sym (ap (λ x. is_set x i) same) ∙ on);
              each = λ i small here. ap (λ x. is_set x i) same ∙ h.each i small here;
              some = h.some;
            }

-- the bitmap of a new slot
pub new-bitmap : (l : Layout) (b p : ℕ) (marks bitmap : List ℕ) (m : List (Option ℕ)) {a c : Held} → slot_of m b ≡ None → HasMark l.block marks → p ≡ place l (least_free_slot m) 0 → length bitmap ≡ 512
    → HasOnlyBits l (IsMarkedIn l.block b marks) b bitmap → Torn p bitmap a c → Reaches (PutsBitmap l (IsMarkedIn l.block b marks) m b) a c
new-bitmap l b p marks bitmap m none some is long only t = Reaches-wider go (Reaches-torn t)
  where
    go : (q : ℕ) (v : List ℕ) → Puts p bitmap q v → PutsBitmap l (IsMarkedIn l.block b marks) m b q v
    go q v h =
        let one = one-value p q bitmap v long h in
        let P : List ℕ → Type 0 = λ x. HasOnlyBits l (IsMarkedIn l.block b marks) b x in
        record { without = none; touched = marks-touch l b marks some; here = one.0 ∙ is; only = subst P (sym one.1) only }

-- it is that of a new slot
pub new-slot : (l : Layout) (b k p : ℕ) (marks bitmap : List ℕ) (r : Sectors) → HasMark l.block marks → p ≡ place l k 0 → r p ≡ bitmap → HasOnlyBits l (IsMarkedIn l.block b marks) b bitmap → HasBits l (IsMarkedIn l.block b marks) b bitmap
    → IsNewSlot l (IsMarkedIn l.block b marks) b k r
new-slot l b k p marks bitmap r some is read only each =
    let here : bitmap ≡ r (place l k 0) = sym read ∙ ap r is in
    marks-new l b marks k r some (subst (λ x. HasOnlyBits l (IsMarkedIn l.block b marks) b x) here only) (subst (λ x. HasBits l (IsMarkedIn l.block b marks) b x) here each)
