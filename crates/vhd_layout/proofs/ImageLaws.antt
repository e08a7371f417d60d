-- The laws of places and images.
pub use Rattle.common_laws.proofs.Options.{option_cases}
use Rattle.std.proofs.Common.{◌≡◌, ◌≢◌, ℕ, ◌+◌, ◌-◌, ◌*◌, ◌/◌, ◌%◌, ◌<◌, ◌≤◌, ◌⊎◌, ◌==◌, ◌++◌, if◌then◌else◌, false, List, Option, Some, None, refl, sym, ap, ap₂, ◌∙◌, inl, inr, ⊎_elim, arith}
use Rattle.std.proofs.Math.Nat.{div-mul-le_self}
use Rattle.std.proofs.lemmas.Bool.{cases_lt, ne_eqb, cond-false}
use Rattle.std.proofs.lemmas.Nat.{div_below, same_from_place, le-div, mul-le}
use Rattle.std.specs.Option.{option_or}
use Rattle.std.specs.Result.{result_ok}
use Rattle.common_laws.proofs.Options.{option_cases}
use Rattle.vhd_fields.specs.Footers.{footer_read}
use Rattle.vhd_fields.specs.Headers.{header_read}
use Rattle.std.proofs.lemmas.Option.{none-some, same_Some}
use Rattle.sm_base.specs.Numbers.{first, div_up}
use Rattle.vhd_fields.specs.declared.footers.Footer.{Footer}
use Rattle.vhd_map.specs.Bitmaps.{is_set}
use Rattle.vhd_map.specs.Places.{blank, word, NamesFree}
use Rattle.vhd_map.specs.Slots.{is_used}
use Rattle.vhd_map.proofs.Spots.{spot-first, spot-part, spot-within, spot-same, spot-small, first-most}
use Rattle.vhd_map.proofs.SectorLemmas.{code-same}
use Rattle.vhd_map.proofs.SlotLemmas.{is_used-from_no_block}
use Rattle.vhd_layout.specs.Layouts.{Sectors, Layout, IsLayout, place, slot_count, entry, code, entries_in_sectors, Slots, IsSlots}
use Rattle.vhd_layout.specs.Images.{footer_at, header_at}
use Rattle.vhd_layout.specs.Contents.{value, size_at, parent_at}
use Rattle.vhd_layout.specs.Laws.{PlaceFirst, PlaceWithin, PlaceSame, PlacePart, PlaceSmall, TableFirst, LayoutOf, SlotsFit, SlotsNeed, CodeSame, OneHead, OneMap, HeadKept, ValueWithSlot, ValueWithoutSlot, ContentOfHead, TableReadable}

-- ---- places

pub place-first : PlaceFirst
place-first l k j = spot-first l.first l.block k j

pub place-part : PlacePart
place-part l k j = spot-part l.first l.block k j

pub place-same : PlaceSame
place-same l k other i j within within' same = spot-same l.first l.block k other i j within within' same

pub place-within : PlaceWithin
unfolding slot_count
place-within l k j below part =
    let whole : slot_count l * (1 + l.block) ≤ l.sectors - 1 - l.first = div-mul-le_self (l.sectors - 1 - l.first) (1 + l.block) in
    ⊎_elim
    (λ outside. absurd (let none : slot_count l < 1 = div_below (l.sectors - 1 - l.first) (1 + l.block) 1 (omega arith) (omega arith) in omega arith))
    (λ inside. spot-within l.first l.block k j (slot_count l) (l.sectors - 1) below part (omega arith))
    (cases_lt (l.sectors - 1) l.first)

pub place-small : PlaceSmall
place-small l k ok below =
    let low : l.first ≤ 8163 = rw ok.begins (first-most l.entries ok.entries_most) in
    spot-small l.first l.block k low ok.block_most (omega (arith, ok.entries_most))

pub table-first : TableFirst
unfolding entries_in_sectors first div_up
table-first l b ok below = omega (arith, ok.begins)

pub layout-of : LayoutOf
layout-of extent block entries blocks sectors ok = record {
  begins = refl;
  block_least = ok.block_least;
  block_most = ok.block_most;
  entries_least = ok.entries_least;
  entries_most = ok.entries_most;
}

pub slots-fit : SlotsFit
unfolding slot_count
slots-fit l top room = le-div top (l.sectors - 1 - l.first) (1 + l.block) (omega arith) (omega arith)

pub slots-need : SlotsNeed
unfolding slot_count
slots-need l top room few =
    let whole : slot_count l * (1 + l.block) ≤ l.sectors - 1 - l.first = div-mul-le_self (l.sectors - 1 - l.first) (1 + l.block) in
    let part : top * (1 + l.block) ≤ slot_count l * (1 + l.block) = mul-le top (1 + l.block) (slot_count l) (1 + l.block) few (omega arith) in
    omega (arith, whole, part)

-- one entry is that of one slot, or of none
entries_alike : (l : Layout) (o p : Option ℕ) → IsLayout l → ((k : ℕ) → o ≡ Some k → k < l.entries) → ((k : ℕ) → p ≡ Some k → k < l.entries) → code l o ≡ code l p → o ≡ p
entries_alike l None None ok small small' same = refl
entries_alike l None (Some k) ok small small' same = absurd (let low = place-small l k ok (small' k refl) in omega (arith, low, same))
entries_alike l (Some k) None ok small small' same = absurd (let low = place-small l k ok (small k refl) in omega (arith, low, same))
entries_alike l (Some k) (Some j) ok small small' same = ap Some (code-same l.first l.block k j same)

pub code-one : CodeSame
code-one l m n b ok small small' same = entries_alike l (m b) (n b) ok small small' same

-- ---- one image

pub one-head : OneHead
one-head block entries blocks blocks' sectors v footer footer' header header' wide head head' =
    let footers = same_Some footer footer' (sym head.footer_reads ∙ head'.footer_reads) in
    let headers = same_Some header header' (sym head.header_reads ∙ head'.header_reads) in
    let sizes : 512 * (blocks * block) ≡ 512 * (blocks' * block) = sym head.footer_fits.size ∙ (ap (λ (f : Footer). f.current) footers ∙ head'.footer_fits.size) in
    record { footers = footers; headers = headers; sizes = (same_from_place blocks 0 blocks' 0 block (omega arith) (omega arith) (omega (arith, sizes))).0 }

-- no block past the table has a slot
none_past : (l : Layout) (m : Slots) (b : ℕ) → IsSlots l m → l.blocks ≤ l.entries → entries_in_sectors l ≤ b → m b ≡ None
unfolding entries_in_sectors div_up
none_past l m b ok few far = ⊎_elim (λ e. e) (λ h. absurd (let near = ok.sized b h.0 h.1 in omega arith)) (option_cases (m b))

pub one-map : OneMap
one-map l v footer footer' header header' m n ok image image' b =
    ⊎_elim (λ near. code-one l m n b ok (λ k has. (image.slots.fits b k has).0) (λ k has. (image'.slots.fits b k has).0) (sym (image.table b near) ∙ image'.table b near))
    (λ far. none_past l m b image.slots image.head.footer_fits.most far ∙ sym (none_past l n b image'.slots image'.head.footer_fits.most far))
    (cases_lt b (entries_in_sectors l))

pub head-kept : HeadKept
unfolding footer_at header_at
head-kept l v w footer header zero one two last head = record {
  footer_reads = ap₂ (λ (a b : List ℕ). option_or (result_ok (footer_read a)) (result_ok (footer_read b))) last zero ∙ head.footer_reads;
  footer_fits = head.footer_fits;
  header_reads = ap₂ (λ (a b : List ℕ). result_ok (header_read (a ++ b))) one two ∙ head.header_reads;
  header_fits = head.header_fits;
  room = head.room;
}

-- ---- contents

-- sector i of a block by the block's entry
by_entry : Sectors → ℕ → ℕ → Option (List ℕ)
by_entry v i e = if e == blank then None else if is_set (v e) i then Some (v (e + (1 + i))) else None

value-by_entry : (v : Sectors) (b i : ℕ) → value v b i ≡ by_entry v i (entry v b)
unfolding value by_entry
value-by_entry v b i = refl

pub value-with_slot : ValueWithSlot
unfolding by_entry
value-with_slot l v m b k i ok is has below =
    let low = place-small l k ok below in
    value-by_entry v b i ∙ (ap (by_entry v i) (is ∙ ap (code l) has) ∙ (cond-false (place l k 0 == blank) None (if is_set (v (place l k 0)) i then Some (v (place l k 0 + (1 + i))) else None) (ne_eqb (place l k 0) blank (λ e. omega (arith, low, e)))
    ∙ ap (λ (p : ℕ). if is_set (v (place l k 0)) i then Some (v p) else None) (sym (place-part l k (1 + i)))))

pub value-without_slot : ValueWithoutSlot
unfolding by_entry
value-without_slot l v m b i is none = value-by_entry v b i ∙ ap (by_entry v i) (is ∙ ap (code l) none)

pub content-of_head : ContentOfHead
unfolding size_at parent_at
content-of_head l v footer header head =
    (rw head.footer_reads (omega (arith, head.footer_fits.size)), rw head.header_reads refl)

-- ---- tables

-- where entry b stands
entry-at : (v : Sectors) (index j : ℕ) → j < 128 → entry v (128 * index + j) ≡ word (v (3 + index)) j
entry-at v index j within =
    let row : (128 * index + j) / 128 ≡ index = omega arith in
    let column : (128 * index + j) % 128 ≡ j = omega arith in
    ap₂ (λ (s k : ℕ). word (v (3 + s)) k) row column

pub in_entries : (l : Layout) (b : ℕ) → b < l.entries → b < entries_in_sectors l
unfolding entries_in_sectors div_up
in_entries l b below = omega arith

in_table : (l : Layout) (index j : ℕ) → 128 * index < l.entries → j < 128 → 128 * index + j < entries_in_sectors l
unfolding entries_in_sectors div_up
in_table l index j within low = omega arith

pub table-readable : TableReadable
table-readable l v footer header m so_far index few ok image within before after low = record { each = each; once = once }
  where
    at : (j : ℕ) → j < 128 → word (v (3 + index)) j ≡ code l (m (128 * index + j))
    at j small = sym (entry-at v index j small) ∙ image.table (128 * index + j) (in_table l index j within small)

    free : (b k : ℕ) → 128 * index ≤ b → m b ≡ Some k → is_used so_far k ≡ false
    free b k here has = is_used-from_no_block so_far k (λ c used. ⊎_elim
        (λ near. absurd (let same = image.slots.once c b k (sym (before c near) ∙ used) has in omega arith))
        (λ far. none-some k (sym (after c far) ∙ used))
        (cases_lt c (128 * index)))

    each : (j : ℕ) → j < 128 → (word (v (3 + index)) j ≡ blank) ⊎ ((128 * index + j < l.blocks) × NamesFree l.first l.block few so_far (word (v (3 + index)) j))
    each j small = ⊎_elim
        (λ none. inl (at j small ∙ ap (code l) none))
        (λ h. let fits = image.slots.fits (128 * index + j) h.0 h.1 in
        inr (image.slots.sized (128 * index + j) h.0 h.1, (h.0, record { within = low h.0 fits.0 fits.1; free = free (128 * index + j) h.0 (omega arith) h.1; named = at j small ∙ ap (code l) h.1 })))
        (option_cases (m (128 * index + j)))

    alike : (i j : ℕ) → i < 128 → j < 128 → word (v (3 + index)) i ≡ word (v (3 + index)) j → m (128 * index + i) ≡ m (128 * index + j)
    alike i j small small' same = entries_alike l (m (128 * index + i)) (m (128 * index + j)) ok (λ k has. (image.slots.fits (128 * index + i) k has).0) (λ k has. (image.slots.fits (128 * index + j) k has).0) (sym (at i small) ∙ (same ∙ at j small'))

    once : (i j : ℕ) → i < 128 → j < 128 → word (v (3 + index)) i ≢ blank → word (v (3 + index)) i ≡ word (v (3 + index)) j → i ≡ j
    once i j small small' filled same = ⊎_elim
        (λ none. absurd (filled (at i small ∙ ap (code l) none)))
        (λ h. let other = alike i j small small' same in
        let one = image.slots.once (128 * index + i) (128 * index + j) h.0 h.1 (sym other ∙ h.1) in omega arith)
        (option_cases (m (128 * index + i)))
