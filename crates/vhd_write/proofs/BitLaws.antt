-- The passes behind the sync: bitmaps and the table.
use Rattle.std.proofs.Common.{◌≡◌, ◌≢◌, ℕ, ◌+◌, ◌-◌, ◌*◌, ◌/◌, ◌%◌, ◌<◌, ◌≤◌, ◌⊎◌, Bool, true, false, eqb, List, length, get_or, replicate, Option, Some, sym, ap, ◌∙◌, subst, inl, inr, ⊎_elim, arith}
use Rattle.std.specs.Bool.{OnTrue}
use Rattle.std.specs.Int.{bit_at}
use Rattle.std.proofs.lemmas.Bool.{cases_lt, cases_eq, true≢false}
use Rattle.std.proofs.lemmas.List.{get_or-replicate, get_or_past, length-replicate}
use Rattle.std.proofs.lemmas.Nat.Bits.{bit_at-zero}
use Rattle.std.proofs.lemmas.Option.{same_Some}
use Rattle.sm_base.specs.Numbers.{first as first_of, div_up}
use Rattle.sm_disk.specs.Held.{Held, IsIn, IsWhole, Puts, Torn, Wrote, SameHeld, Reaches, reads}
use Rattle.sm_disk.specs.Sectors.{sector}
use Rattle.sm_disk.proofs.HeldLaws.{reads-wrote, in_one}
use Rattle.sm_disk.proofs.ReachesLaws.{Reaches-then, Reaches-wider, Reaches-same, Reaches-torn}
use Rattle.sm_disk.proofs.SectorLaws.{sector-one}
use Rattle.vhd_map.specs.Bitmaps.{is_set}
use Rattle.vhd_map.specs.Slots.{slot_of, IsMap}
use Rattle.vhd_layout.specs.Layouts.{Sectors, Layout, Slots, place, slot_count}
use Rattle.vhd_layout.proofs.ImageLaws.{place-same, place-within}
use Rattle.vhd_write.specs.Passes.{IsUnsetBeside, HasBits, PutsBitsOf, PutsBitsAll, AreSet, IsTableSector, PutsEntries}
use Rattle.vhd_write.specs.Spans.{IsPart}
use Rattle.vhd_write.specs.WritePlaces.{Touches, HasOnlyBits, HasMoreBits}

-- a bitmap of zeros has no bit set
pub is_set-zeros : (n i : ℕ) → is_set (replicate {A = ℕ} n 0) i ≡ false
unfolding is_set
is_set-zeros n i = ap (λ (x : ℕ). eqb (bit_at x (7 - i % 8)) 1) (zeros-at n (i / 8)) ∙ ap (λ (x : ℕ). eqb x 1) (bit_at-zero (7 - i % 8))
  where
    zeros-at : (n i : ℕ) → get_or (replicate {A = ℕ} n 0) i 0 ≡ 0
    zeros-at n i = ⊎_elim (λ within. get_or-replicate n i 0 0 within) (λ past. get_or_past (replicate {A = ℕ} n 0) i 0 (rw (length-replicate {A = ℕ} n 0) past)) (cases_lt i n)

pub on_true : {P Q : Type 0} (b : Bool) → (P → Q) → OnTrue b P → OnTrue b Q
on_true true f p = f p
on_true false f p = tt

pub place-low : (l : Layout) (k p size : ℕ) → k < slot_count l → p ≡ place l k 0 → size ≡ l.sectors → p < size
place-low l k p size below is same = let low = place-within l k 0 below (omega arith) in omega (arith, low, is, same)

pub sector-whole : (p len size : ℕ) → p < size → len ≡ 512 → IsWhole p len size
sector-whole p len size low long = record { some = omega arith; whole = omega (arith, long); within = omega arith }

-- a written value of one sector is that sector
pub one-value : (p q : ℕ) (v w : List ℕ) → length v ≡ 512 → Puts p v q w → (q ≡ p) × (w ≡ v)
one-value p q v w long h =
    let same = in_one p (length v) q long h.0 in
    let nth : q - p ≡ 0 = omega (arith, same) in
    (same, h.1 ∙ (ap (sector v) nth ∙ sector-one v long))

one-read : (p : ℕ) (v : List ℕ) {a c : Held} → length v ≡ 512 → Wrote p v a c → reads c p ≡ v
one-read p v long w =
    let nth : p - p ≡ 0 = omega arith in
    reads-wrote w p (omega arith, omega (arith, long)) ∙ (ap (sector v) nth ∙ sector-one v long)

-- ---- one bitmap

module _ (l : Layout) (b at len first count skip : ℕ) (part : IsPart l.block b at len first count skip) where
  pub part-touches : Touches l (IsIn at len) b
  part-touches = (first, omega (arith, part.fits, part.some), (omega (arith, part.skipped), omega (arith, part.skipped, part.inside, part.some)))

  -- a bit of the part is that of a given sector
  bit-in : (i : ℕ) → first ≤ i → i < first + count → (i < l.block) × IsIn at len (b * l.block + i)
  bit-in i low high = (omega (arith, part.fits, high), (omega (arith, part.skipped), omega (arith, part.skipped, part.inside)))

  pub bits-all : (bitmap : List ℕ) → ((i : ℕ) → first ≤ i → i < first + count → is_set bitmap i ≡ true) → HasBits l (IsIn at len) b bitmap
  bits-all bitmap set = λ i within here. let h = part.all i within here in set i h.0 h.1

  pub bits-more : (old new : List ℕ) → ((i : ℕ) → first ≤ i → i < first + count → is_set new i ≡ true) → ((i : ℕ) → (i < first) ⊎ (first + count ≤ i) → is_set new i ≡ is_set old i) → HasMoreBits l (IsIn at len) b old new
  bits-more old new set others = λ i. ⊎_elim
      (λ low. inl (others i (inl low)))
      (λ from_first. ⊎_elim
      (λ high. let h = bit-in i from_first high in inr (set i from_first high, h.0, h.1))
      (λ past. inl (others i (inr past)))
      (cases_lt i (first + count)))
      (cases_lt i first)

  pub bits-only : (bitmap : List ℕ) → IsUnsetBeside first count bitmap → HasOnlyBits l (IsIn at len) b bitmap
  bits-only bitmap unset = λ i on. ⊎_elim
      (λ low. absurd (true≢false (sym on ∙ unset i (inl low))))
      (λ from_first. ⊎_elim
      (λ high. bit-in i from_first high)
      (λ past. absurd (true≢false (sym on ∙ unset i (inr past))))
      (cases_lt i (first + count)))
      (cases_lt i first)

pub bitmap-reaches : (l : Layout) (M : ℕ → Type 0) (b k p : ℕ) (slot : Option ℕ) (old new : List ℕ) {a y z : Held} → Touches l M b → slot ≡ Some k → p ≡ place l k 0 → length new ≡ 512 → old ≡ reads a p → HasMoreBits l M b old new
    → SameHeld a y → Torn p new y z → Reaches (PutsBitsOf l M slot b (reads a)) a z
bitmap-reaches l M b k p slot old new {a} {y} {z} touched has is long gave more same t =
    Reaches-then (Reaches-same (PutsBitsOf l M slot b (reads a)) same) (Reaches-wider go (Reaches-torn t))
  where
    go : (q : ℕ) (v : List ℕ) → Puts p new q v → PutsBitsOf l M slot b (reads a) q v
    go q v h =
        let one = one-value p q new v long h in
        let was : old ≡ reads a q = gave ∙ ap (reads a) (sym one.0) in
        let N : List ℕ → List ℕ → Type 0 = λ x w. HasMoreBits l M b x w in
        (k, has, record { touched = touched; here = one.0 ∙ is; more = subst (λ x. N x v) was (subst (N old) (sym one.1) more) })

pub bitmap-done : (l : Layout) (M : ℕ → Type 0) (b k p : ℕ) (slot : Option ℕ) (r : Sectors) (bitmap : List ℕ) → slot ≡ Some k → p ≡ place l k 0 → r p ≡ bitmap → HasBits l M b bitmap → AreSet l M slot b r
bitmap-done l M b k p slot r bitmap has is read set = λ j had i within here.
    let same = same_Some k j (sym has ∙ had) in
    ap (λ x. is_set (r (place l x 0)) i) (sym same) ∙ (ap (λ x. is_set (r x) i) (sym is) ∙ (ap (λ x. is_set x i) read ∙ set i within here))

pub bitmap-wrote : (p : ℕ) (v : List ℕ) {a c : Held} → length v ≡ 512 → Wrote p v a c → reads c p ≡ v
bitmap-wrote p v long w = one-read p v long w

-- and still more bits
pub more-then : (l : Layout) (M : ℕ → Type 0) (b : ℕ) (x y z : List ℕ) → HasMoreBits l M b x y → HasMoreBits l M b y z → HasMoreBits l M b x z
more-then l M b x y z f g = λ i. ⊎_elim (λ same. ⊎_elim (λ old. inl (same ∙ old)) (λ h. inr (same ∙ h.0, h.1, h.2)) (f i)) (λ h. inr h) (g i)

pub only-then : (l : Layout) (M : ℕ → Type 0) (b : ℕ) (x y : List ℕ) → HasOnlyBits l M b x → HasMoreBits l M b x y → HasOnlyBits l M b y
only-then l M b x y only more = λ i on. ⊎_elim (λ same. only i (sym same ∙ on)) (λ h. (h.1, h.2)) (more i)

-- ---- all bitmaps

-- a bit that is set stays set
pub bits-stay : (l : Layout) (M : ℕ → Type 0) (m : Slots) (b p : ℕ) {a z : Held} → Reaches (PutsBitsAll l M m (reads a)) a z → HasBits l M b (reads a p) → HasBits l M b (reads z p)
bits-stay l M m b p {a} {z} r set = λ i within here. by i (set i within here) (r.gives p)
  where
    more : (i : ℕ) → is_set (reads a p) i ≡ true → (c : ℕ) → HasMoreBits l M c (reads a p) (reads z p) → is_set (reads z p) i ≡ true
    more i on c h = ⊎_elim (λ same. same ∙ on) (λ new. new.0) (h i)

    by : (i : ℕ) → is_set (reads a p) i ≡ true → (reads z p ≡ reads a p) ⊎ PutsBitsAll l M m (reads a) p (reads z p) → is_set (reads z p) i ≡ true
    by i on (inl same) = ap (λ x. is_set x i) same ∙ on
    by i on (inr (c, k, has, h)) = more i on c h.more

module _ (l : Layout) (M : ℕ → Type 0) (n : List (Option ℕ)) (good : IsMap n) where
  pub bits-reaches : (c : ℕ) {a y z : Held} → Reaches (PutsBitsAll l M (slot_of n) (reads a)) a y → Reaches (PutsBitsOf l M (slot_of n c) c (reads y)) y z → Reaches (PutsBitsAll l M (slot_of n) (reads a)) a z
  bits-reaches c {a} {y} {z} r s = Reaches-then r (Reaches-wider go s)
    where
      more : (p k : ℕ) (v : List ℕ) → slot_of n c ≡ Some k → p ≡ place l k 0 → HasMoreBits l M c (reads y p) v → (reads y p ≡ reads a p) ⊎ PutsBitsAll l M (slot_of n) (reads a) p (reads y p) → HasMoreBits l M c (reads a p) v
      more p k v has here h (inl same) = let P : List ℕ → Type 0 = λ x. HasMoreBits l M c x v in subst P same h
      more p k v has here h (inr (b, j, had, g)) =
          let one = place-same l j k 0 0 (omega arith) (omega arith) (sym g.here ∙ here) in
          let same : b ≡ c = good.once b c j had (has ∙ ap Some (sym one.0)) in
          let P : ℕ → Type 0 = λ x. HasMoreBits l M x (reads a p) (reads y p) in
          more-then l M c (reads a p) (reads y p) v (subst P same g.more) h

      go : (p : ℕ) (v : List ℕ) → PutsBitsOf l M (slot_of n c) c (reads y) p v → PutsBitsAll l M (slot_of n) (reads a) p v
      go p v (k, has, h) = (c, k, has, record { touched = h.touched; here = h.here; more = more p k v has h.here h.more (r.gives p) })

  pub bits-done : (first c : ℕ) {y z : Held} → Reaches (PutsBitsOf l M (slot_of n c) c (reads y)) y z
      → ((b : ℕ) → first ≤ b → b < c → AreSet l M (slot_of n b) b (reads y)) → AreSet l M (slot_of n c) c (reads z)
      → (b : ℕ) → first ≤ b → b < c + 1 → AreSet l M (slot_of n b) b (reads z)
  bits-done first c {y} {z} s before here = λ b low high. ⊎_elim
      (λ same. subst (λ x. AreSet l M (slot_of n x) x (reads z)) (sym same) here)
      (λ apart k has i within there.
      ap (λ x. is_set x i) (kept b k apart has) ∙ before b low (omega arith) k has i within there)
      (cases_eq b c)
    where
      kept : (b k : ℕ) → b ≢ c → slot_of n b ≡ Some k → reads z (place l k 0) ≡ reads y (place l k 0)
      kept b k apart has = ⊎_elim (λ e. e)
          (λ h. absurd (let one = place-same l k h.0 0 0 (omega arith) (omega arith) h.2.here in apart (good.once b c k has (h.1 ∙ ap Some (sym one.0)))))
          (s.gives (place l k 0))

-- ---- the table

pub table-low : (l : Layout) (index : ℕ) → l.first ≡ first_of l.entries → 128 * index < l.entries → 3 + index < l.first
unfolding first_of div_up
table-low l index begins within = omega (arith, begins)

pub table-reaches : (l : Layout) (m : Slots) (index p : ℕ) (v : List ℕ) {y z : Held} → 128 * index < l.entries → p ≡ 3 + index → length v ≡ 512 → IsTableSector l m index v → Torn p v y z → Reaches (PutsEntries l m index) y z
table-reaches l m index p v {y} {z} within is long right t = Reaches-wider go (Reaches-torn t)
  where
    go : (q : ℕ) (w : List ℕ) → Puts p v q w → PutsEntries l m index q w
    go q w h =
        let one = one-value p q v w long h in
        let P : List ℕ → Type 0 = λ x. IsTableSector l m index x in
        record { within = within; here = one.0 ∙ is; sector = subst P (sym one.1) right }

pub table-done : (l : Layout) (m : Slots) (index p : ℕ) (v : List ℕ) {y z : Held} → p ≡ 3 + index → length v ≡ 512 → IsTableSector l m index v → Wrote p v y z → IsTableSector l m index (reads z (3 + index))
table-done l m index p v {y} {z} is long right w =
    let read : reads z (3 + index) ≡ v = ap (reads z) (sym is) ∙ one-read p v long w in
    let P : List ℕ → Type 0 = λ x. IsTableSector l m index x in
    subst P (sym read) right
