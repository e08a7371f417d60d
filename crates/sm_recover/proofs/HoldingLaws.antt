-- Where each block that has a slot holds a sector, so it is by the image's own table: the reverse of sm_ready's `holding_at`.
use Rattle.std.proofs.Common.{◌≡◌, ◌≢◌, ℕ, ◌+◌, ◌*◌, ◌/◌, ◌%◌, ◌<◌, nat_lt, Bool, true, false, cond, List, Some, None, refl, sym, ap, ap₂, ◌∙◌, arith}
use Rattle.std.specs.List.{slice_get, range_with_len}
use Rattle.std.specs.Prelude.{option_map}
use Rattle.std.proofs.lemmas.Bool.{ne_eqb}
use Rattle.std.proofs.lemmas.Nat.{same_from_place, mod_below, div-add-mod'}
use Rattle.std.proofs.lemmas.List.FromFn.{length-range_with_len, get_or-range_with_len}
use Rattle.std.proofs.lemmas.Option.{none-some, slice_get-map, slice_get-get_or}
use Rattle.vhd_map.specs.Bitmaps.{is_set}
use Rattle.vhd_map.specs.Places.{blank}
use Rattle.vhd_layout.specs.Contents.{content_at, layout_at, own, slot_at, slot_number, slots_at, size_at, value}
use Rattle.vhd_layout.specs.Images.{EachSlotHolds}
use Rattle.vhd_layout.specs.Layouts.{Sectors, Layout, entry}
use Rattle.sm_standing.specs.Keeping.{IsHolding}

-- a block whose entry is not blank has a slot
slot_given : (l : Layout) (v : Sectors) (b : ℕ) → b < l.entries → entry v b ≢ blank → slice_get (slots_at l v) b ≡ Some (Some (slot_number l (entry v b)))
unfolding slot_at
slot_given l v b below filled =
    let at : slice_get (range_with_len 0 l.entries) b ≡ Some b = slice_get-get_or (range_with_len 0 l.entries) b 0 (omega (arith, below, length-range_with_len 0 l.entries)) ∙ ap Some (get_or-range_with_len 0 l.entries b 0 below ∙ omega arith) in
    slice_get-map (slot_at l v) (range_with_len 0 l.entries) b ∙ ap (option_map (slot_at l v)) at
    ∙ ap (λ w. Some (cond w None (Some (slot_number l (entry v b))))) (ne_eqb (entry v b) blank filled)

-- a sector that is held has its bit
bit_set : (size : ℕ) (v : Sectors) (s b i : ℕ) (bytes : List ℕ) (w : Bool) → entry v b ≢ blank → cond w (value v b i) None ≡ Some bytes → is_set (v (entry v b)) i ≡ true
unfolding value
bit_set size v s b i bytes false filled is = absurd (none-some bytes is)
bit_set size v s b i bytes true filled is = by (is_set (v (entry v b)) i) refl
    (sym (ap (λ (c : Bool). cond c None (cond (is_set (v (entry v b)) i) (Some (v (entry v b + (1 + i)))) None)) (ne_eqb (entry v b) blank filled)) ∙ is)
  where
    by : (c : Bool) → is_set (v (entry v b)) i ≡ c → cond c (Some (v (entry v b + (1 + i)))) None ≡ Some bytes → is_set (v (entry v b)) i ≡ true
    by true bit is = bit
    by false bit is = absurd (none-some bytes is)

by_place : (block b i : ℕ) → i < block → ((b * block + i) / block ≡ b) × ((b * block + i) % block ≡ i)
by_place block b i below = same_from_place ((b * block + i) / block) ((b * block + i) % block) b i block (mod_below (b * block + i) block (omega (arith, below))) below (div-add-mod' (b * block + i) block)

pub holds_each : (block entries n : ℕ) (v : Sectors) → IsHolding block (content_at block entries n v) → EachSlotHolds block entries v
unfolding own
holds_each block entries n v holding = record {
  holds = λ b below filled.
      let w = holding b (slot_number (layout_at block entries n v) (entry v b)) (slot_given (layout_at block entries n v) v b below filled) in
      let place = by_place block b w.0 w.1 in (
        w.0,
        w.1,
        bit_set (size_at n v) v (b * block + w.0) b w.0 w.2.0 (nat_lt (b * block + w.0) (size_at n v)) filled
            (ap₂ (λ x y. cond (nat_lt (b * block + w.0) (size_at n v)) (value v x y) None) (sym place.0) (sym place.1) ∙ w.2.1),
      );
}
