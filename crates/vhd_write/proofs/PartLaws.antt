-- One block's part of the first pass.
use Rattle.std.proofs.Common.{◌≡◌, ℕ, ◌+◌, ◌-◌, ◌*◌, ◌^◌, ◌<◌, ◌≤◌, true, List, length, set, Option, Some, None, refl, sym, ap, ap₂, ◌∙◌, subst, subst₂, inl, inr, arith}
use Rattle.std.proofs.lemmas.Option.{none-some, same_Some}
use Rattle.sm_base.specs.Numbers.{first as first_of}
use Rattle.sm_base.specs.declared.sizes.Geometry.{Geometry}
use Rattle.sm_disk.specs.Held.{Held, IsIn, IsWhole, Puts, Torn, Wrote, Reaches, reads}
use Rattle.sm_disk.specs.Sectors.{sector}
use Rattle.sm_disk.proofs.HeldLaws.{reads-wrote, reads-elsewhere, torn_from_wrote}
use Rattle.sm_disk.proofs.ReachesLaws.{Reaches-torn, Reaches-wider}
use Rattle.sm_disk.proofs.SectorLaws.{sector-part}
use Rattle.vhd_map.specs.Bitmaps.{is_set}
use Rattle.vhd_map.specs.Places.{spot}
use Rattle.vhd_map.specs.Slots.{slot_of, top_of, least_free_slot}
use Rattle.vhd_map.proofs.Spots.{first-most, spot-part, spot-small}
use Rattle.vhd_map.proofs.SlotLemmas.{top_of-past, slot_of-set_same}
use Rattle.vhd_layout.specs.Layouts.{Sectors, Layout, place, slot_count}
use Rattle.vhd_layout.proofs.ImageLaws.{place-part, place-within, slots-fit}
use Rattle.vhd_volumes.specs.Writes.{with_block}
use Rattle.vhd_write.specs.Passes.{PutsHeld, IsUnsetBeside, PutsPart, PutsSlot, HasData, IsNewSlot, IsSlotFilled, IsPut}
use Rattle.vhd_write.specs.Payloads.{piece_of}
use Rattle.vhd_write.specs.Spans.{IsPart}
use Rattle.vhd_write.proofs.BitLaws.{one-value, part-touches, bits-only, bitmap-wrote}
use Rattle.vhd_write.proofs.MapLaws.{with_block-new, with_block-held}
use Rattle.vhd_write.proofs.PayloadLaws.{length-piece}

-- a place by equal sizes and slot
pub place_is : (p : ℕ) (g g' : Geometry) (s k j : ℕ) → p ≡ spot (first_of g.entries) g.block s j → g ≡ g' → s ≡ k → p ≡ spot (first_of g'.entries) g'.block k j
place_is p g g' s k j is e1 e2 = is ∙ ap₂ (λ (x : Geometry) (y : ℕ). spot (first_of x.entries) x.block y j) e1 e2

-- behind a part of a slot no place is numbered too high
pub place-low-enough : (g : Geometry) (slot j count p : ℕ) → p ≡ spot (first_of g.entries) g.block slot j → slot < g.entries → j + count ≤ 1 + g.block → p + count < 2 ^ 64
place-low-enough g slot j count p is below fits =
    let small = spot-small (first_of g.entries) g.block slot (first-most g.entries g.in_range.entries_most) g.in_range.block_most (omega (arith, below, g.in_range.entries_most)) in
    let part = spot-part (first_of g.entries) g.block slot j in
    omega (arith, is, small, part, fits, g.in_range.block_most)

-- a slot that the map has after all has room
pub slot-in : (l : Layout) (n : List (Option ℕ)) (b k : ℕ) → slot_of n b ≡ Some k → l.first + top_of n * (1 + l.block) + 1 ≤ l.sectors → k < slot_count l
slot-in l n b k has room = let fits = slots-fit l (top_of n) room in let low = top_of-past n b k has in omega (arith, fits, low)

-- the slot that a block is given has room
pub new-slot-in : (l : Layout) (m : List (Option ℕ)) (b : ℕ) → slot_of m b ≡ None → b < length m → l.first + top_of (with_block b m) * (1 + l.block) + 1 ≤ l.sectors → least_free_slot m < slot_count l
new-slot-in l m b none within room =
    slot-in l (with_block b m) b (least_free_slot m) (ap (λ n. slot_of n b) (with_block-new b m none) ∙ slot_of-set_same m b (least_free_slot m) within) room

-- the slot that it has, too
pub held-slot-in : (l : Layout) (m : List (Option ℕ)) (b k : ℕ) → slot_of m b ≡ Some k → l.first + top_of (with_block b m) * (1 + l.block) + 1 ≤ l.sectors → k < slot_count l
held-slot-in l m b k has room =
    slot-in l (with_block b m) b k (ap (λ n. slot_of n b) (with_block-held b m k has) ∙ has) room

-- a part by equal sizes
pub part_as : {size size' b at len len' first count skip : ℕ} → IsPart size b at len first count skip → size ≡ size' → len ≡ len' → IsPart size' b at len' first count skip
part_as {size} {size'} {b} {at} {len} {len'} {first} {count} {skip} p e1 e2 = subst₂ (λ x y. IsPart x b at y first count skip) e1 e2 p

-- so many sectors of a slot are whole sectors of the volume
pub part-whole : (l : Layout) (k j count p len size : ℕ) → k < slot_count l → j + count ≤ 1 + l.block → 0 < count → len ≡ 512 * count → p ≡ place l k j → size ≡ l.sectors → IsWhole p len size
part-whole l k j count p len size below fits some long is same =
    let last = place-within l k (j + (count - 1)) below (omega arith) in
    let a = place-part l k (j + (count - 1)) in
    let b = place-part l k j in
    record { some = omega arith; whole = omega arith; within = omega (arith, last, a, b, is, same, long) }

-- ---- a new slot

pub part-bitmap : (l : Layout) (k first count p : ℕ) (bitmap bytes : List ℕ) {a c : Held} → p ≡ place l k 0 → length bitmap ≡ 512 → IsUnsetBeside first count bitmap → Torn p bitmap a c → Reaches (PutsPart l k first count bytes) a c
part-bitmap l k first count p bitmap bytes {a} {c} is long unset t = Reaches-wider go (Reaches-torn t)
  where
    go : (q : ℕ) (v : List ℕ) → Puts p bitmap q v → PutsPart l k first count bytes q v
    go q v h =
        let one = one-value p q bitmap v long h in
        let P : List ℕ → Type 0 = λ x. IsUnsetBeside first count x in
        inl (one.0 ∙ is, subst P (sym one.1) unset)

pub part-data : (l : Layout) (k first count p : ℕ) (bytes : List ℕ) {a c : Held} → p ≡ place l k (1 + first) → Torn p bytes a c → Reaches (PutsPart l k first count bytes) a c
part-data l k first count p bytes is t = Reaches-wider (λ q v h. inr (subst (λ x. Puts x bytes q v) is h)) (Reaches-torn t)

pub slot-filled : (l : Layout) (k p q first count : ℕ) (bitmap bytes : List ℕ) {a b c : Held} → p ≡ place l k 0 → q ≡ place l k (1 + first) → length bitmap ≡ 512 → length bytes ≡ 512 * count
    → ((i : ℕ) → first ≤ i → i < first + count → is_set bitmap i ≡ true)
    → IsUnsetBeside first count bitmap
    → Wrote p bitmap a b → Wrote q bytes b c → IsSlotFilled l k first count bytes (reads c)
slot-filled l k p q first count bitmap bytes {a} {b} {c} is there short long set others w x = record {
  set = λ i low high. ap (λ y. is_set y i) bitmap_is ∙ set i low high;
  others = λ i away. ap (λ y. is_set y i) bitmap_is ∙ others i away;
  bytes_are = λ j below.
      let base = place-part l k (1 + first) in
      let part = place-part l k (1 + (first + j)) in
      let here : IsIn q (length bytes) (place l k (1 + (first + j))) = (omega (arith, there, base, part), omega (arith, there, base, part, long)) in
      let nth : place l k (1 + (first + j)) - q ≡ j = omega (arith, there, base, part) in
      reads-wrote x (place l k (1 + (first + j))) here ∙ ap (sector bytes) nth;
}
  where
    bitmap_is : reads c (place l k 0) ≡ bitmap
    bitmap_is =
        let base = place-part l k (1 + first) in
        reads-elsewhere (torn_from_wrote x) (place l k 0) (λ h. omega (arith, h.0, there, base))
        ∙ (ap (reads b) (sym is) ∙ bitmap-wrote p bitmap short w)

-- ---- the bytes of one block

module _ (l : Layout) (at : ℕ) (from : List ℕ) (b first count skip : ℕ) (part : IsPart l.block b at (length from) first count skip) where
  abbrev pub part_bytes : List ℕ
  part_bytes = piece_of skip count from

  pub part-long : length part_bytes ≡ 512 * count
  part-long = length-piece skip count from part.inside

  -- the part's sector j is one of the written ones
  pub part-in : (j : ℕ) → j < count → IsIn at (length from) (b * l.block + (first + j))
  part-in j below = (omega (arith, part.skipped), omega (arith, part.skipped, part.inside))

  part-sector : (j : ℕ) → j < count → sector part_bytes j ≡ sector from (b * l.block + (first + j) - at)
  part-sector j below =
      let nth : skip + j ≡ b * l.block + (first + j) - at = omega (arith, part.skipped) in
      sector-part from skip (512 * count) j (omega arith) ∙ ap (sector from) nth

  -- a sector that is written is the part's
  written : (i : ℕ) (v : List ℕ) → i < l.block → Puts at from (b * l.block + i) v → (first ≤ i) × (i < first + count) × (v ≡ sector part_bytes (i - first))
  written i v within puts =
      let h = part.all i within puts.0 in
      let nth : first + (i - first) ≡ i = omega (arith, h.0) in
      (h.0, h.1, puts.1 ∙ (ap (λ x. sector from (b * l.block + x - at)) (sym nth) ∙ sym (part-sector (i - first) (omega (arith, h.0, h.1)))))

  bytes-held : (k p : ℕ) → p ≡ place l k (1 + first) → (q : ℕ) (v : List ℕ) → Puts p part_bytes q v → PutsHeld l (Puts at from) b k q v
  bytes-held k p is q v h =
      let base = place-part l k (1 + first) in
      let nth : q - p < count = omega (arith, h.0.0, h.0.1, part-long) in
      let s = part-sector (q - p) nth in
      record {
        i = first + (q - p);
        within = omega (arith, part.fits, nth);
        here = omega (arith, h.0.0, is, base, place-part l k (1 + (first + (q - p))));
        puts = (part-in (q - p) nth, h.1 ∙ s);
      }

  -- into a slot

  pub held-puts : (k p : ℕ) {a c : Held} → p ≡ place l k (1 + first) → Torn p part_bytes a c → Reaches (PutsHeld l (Puts at from) b k) a c
  held-puts k p is t = Reaches-wider (bytes-held k p is) (Reaches-torn t)

  pub held-data : (k p : ℕ) {a c : Held} → p ≡ place l k (1 + first) → Wrote p part_bytes a c → HasData l (Puts at from) b k (reads c)
  held-data k p {a} {c} is w = λ i v within puts.
      let h = written i v within puts in
      let base = place-part l k (1 + first) in
      let there = place-part l k (1 + i) in
      let here : IsIn p (length part_bytes) (place l k (1 + i)) = (omega (arith, is, base, there, h.0), omega (arith, is, base, there, h.0, h.1, part-long)) in
      let nth : place l k (1 + i) - p ≡ i - first = omega (arith, is, base, there, h.0) in
      reads-wrote w (place l k (1 + i)) here ∙ (ap (sector part_bytes) nth ∙ sym h.2)

  pub held-put : (k : ℕ) (m : List (Option ℕ)) {r : Sectors} → slot_of m b ≡ Some k → HasData l (Puts at from) b k r → IsPut l (Puts at from) (IsIn at (length from)) (slot_of m b) (slot_of m b) b r
  held-put k m {r} has is = record {
    data_is = λ j had. subst (λ x. HasData l (Puts at from) b x r) (same_Some k j (sym has ∙ had)) is;
    fresh = λ j none had. absurd (none-some k (sym none ∙ has));
  }

  -- into a new slot

  pub new-puts : (k : ℕ) {a c : Held} → Reaches (PutsPart l k first count part_bytes) a c → Reaches (PutsSlot l (Puts at from) (IsIn at (length from)) b k) a c
  new-puts k r = Reaches-wider go r
    where
      go : (q : ℕ) (v : List ℕ) → PutsPart l k first count part_bytes q v → PutsSlot l (Puts at from) (IsIn at (length from)) b k q v
      go q v (inl (here, unset)) = inl (part-touches l b at (length from) first count skip part, here, bits-only l b at (length from) first count skip part v unset)
      go q v (inr h) = inr (bytes-held k (place l k (1 + first)) refl q v h)

  pub new-put : (m n : List (Option ℕ)) {r : Sectors} → n ≡ set m b (Some (least_free_slot m)) → b < length m → IsSlotFilled l (least_free_slot m) first count part_bytes r → IsPut l (Puts at from) (IsIn at (length from)) (slot_of m b) (slot_of n b) b r
  new-put m n {r} is within filled = record {
    data_is = λ j had. subst (λ x. HasData l (Puts at from) b x r) (slot_is j had) bytes_there;
    fresh = λ j none had. subst (λ x. IsNewSlot l (IsIn at (length from)) b x r) (slot_is j had) new_there;
  }
    where
      k : ℕ
      k = least_free_slot m

      slot_is : (j : ℕ) → slot_of n b ≡ Some j → least_free_slot m ≡ j
      slot_is j had = same_Some (least_free_slot m) j (sym (ap (λ x. slot_of x b) is ∙ slot_of-set_same m b (least_free_slot m) within) ∙ had)

      bytes_there : HasData l (Puts at from) b (least_free_slot m) r
      bytes_there i v small puts =
          let h = written i v small puts in
          let nth : first + (i - first) ≡ i = omega (arith, h.0) in
          ap (λ x. r (place l (least_free_slot m) (1 + x))) (sym nth) ∙ (filled.bytes_are (i - first) (omega (arith, h.0, h.1)) ∙ sym h.2)

      new_there : IsNewSlot l (IsIn at (length from)) b (least_free_slot m) r
      new_there = record {
        only = bits-only l b at (length from) first count skip part (r (place l (least_free_slot m) 0)) filled.others;
        each = λ i small here. let h = part.all i small here in filled.set i h.0 h.1;
        some = part-touches l b at (length from) first count skip part;
      }
