-- A table that is read into a map sector by sector.
use Rattle.std.proofs.Common.{◌≡◌, ◌≢◌, ℕ, ◌+◌, ◌*◌, ◌/◌, ◌%◌, ◌<◌, ◌≤◌, min, List, length, replicate, Option, Some, None, zero, suc, refl, sym, ap, ◌∙◌, subst, ⊎_elim, arith}
use Rattle.std.proofs.lemmas.Bool.{cases_eq}
use Rattle.std.proofs.lemmas.Option.{none-some}
use Rattle.sm_base.specs.Numbers.{first, div_up}
use Rattle.vhd_map.specs.Places.{blank, word, IsReadable, NamesFree}
use Rattle.vhd_map.specs.Slots.{slot_of, IsMap}
use Rattle.vhd_map.proofs.SectorLemmas.{code-same}
use Rattle.vhd_layout.specs.Layouts.{Sectors, Layout, IsLayout, entry, code, entries_in_sectors}
use Rattle.vhd_layout.proofs.ImageLaws.{place-small, code-one, in_entries, table-readable}
use Rattle.vhd_volumes.specs.declared.heads.Head.{Head}
use Rattle.vhd_image.specs.Opened.{HasImageOf, few_slots, FitsIn, IsTableTo}

-- ---- the blank map

pub slot_of-blank : (n b : ℕ) → slot_of (replicate n None) b ≡ None
slot_of-blank zero b = refl
slot_of-blank (suc n) zero = refl
slot_of-blank (suc n) (suc b) = slot_of-blank n b

pub slot_of-blank_map : (n b : ℕ) (m : List (Option ℕ)) → m ≡ replicate n None → slot_of m b ≡ None
slot_of-blank_map n b m is = ap (λ (x : List (Option ℕ)). slot_of x b) is ∙ slot_of-blank n b

pub FitsIn-blank : (l : Layout) (n : ℕ) (m : List (Option ℕ)) → m ≡ replicate n None → FitsIn l m
FitsIn-blank l n m is = record {
  sized = λ b k has. absurd (none-some k (sym (slot_of-blank_map n b m is) ∙ has));
  few = λ b k has. absurd (none-some k (sym (slot_of-blank_map n b m is) ∙ has));
}

pub IsMap-blank : (n : ℕ) (m : List (Option ℕ)) → m ≡ replicate n None → IsMap m
IsMap-blank n m is = record {
  below = λ b k has. absurd (none-some k (sym (slot_of-blank_map n b m is) ∙ has));
  once = λ a b k has has'. absurd (none-some k (sym (slot_of-blank_map n a m is) ∙ has));
}

-- ---- one sector more

pub entry-in : (v : Sectors) (bytes : List ℕ) (index b : ℕ) → bytes ≡ v (3 + index) → b / 128 ≡ index → entry v b ≡ word bytes (b % 128)
entry-in v bytes index b at row = ap (λ (i : ℕ). word (v (3 + i)) (b % 128)) row ∙ ap (λ (x : List ℕ). word x (b % 128)) (sym at)

-- what a read of one sector of the table did to the map
pub record IsRead (l : Layout) (index : ℕ) (bytes : List ℕ) (old new : List (Option ℕ)) : Type 0 where
  pub ok : IsLayout l
  pub long : length new ≡ l.entries
  pub good : IsMap new
  pub readable : IsReadable l.first l.block l.blocks (few_slots l) old index bytes
  pub read : (j : ℕ) → j < 128 → word bytes j ≡ code l (slot_of new (128 * index + j))
  pub others : (b : ℕ) → b / 128 ≢ index → slot_of new b ≡ slot_of old b

module _ (l : Layout) (index : ℕ) (bytes : List ℕ) (old new : List (Option ℕ)) (r : IsRead l index bytes old new) where
  in_row : (b : ℕ) → b / 128 ≡ index → word bytes (b % 128) ≡ code l (slot_of new b)
  in_row b row =
      let at : 128 * index + b % 128 ≡ b = omega arith in
      r.read (b % 128) (omega arith) ∙ ap (λ (x : ℕ). code l (slot_of new x)) at

  record Named (b k : ℕ) : Type 0 where
    sized : b < l.blocks
    few : k < few_slots l

  named : (b k : ℕ) → b / 128 ≡ index → slot_of new b ≡ Some k → Named b k
  named b k row has = ⊎_elim none some (r.readable.each (b % 128) (omega arith))
    where
      is : word bytes (b % 128) ≡ code l (Some k)
      is = in_row b row ∙ ap (code l) has

      low : k < l.entries
      low = omega (arith, r.good.below b k has, r.long)

      none : word bytes (b % 128) ≡ blank → Named b k
      none e = absurd (let small = place-small l k r.ok low in omega (arith, small, sym is ∙ e))

      some : (128 * index + b % 128 < l.blocks) × NamesFree l.first l.block (few_slots l) old (word bytes (b % 128)) → Named b k
      some h =
          let same : k ≡ h.1.0 = code-same l.first l.block k h.1.0 (sym is ∙ h.1.1.named) in
          record { sized = omega (arith, h.0); few = omega (arith, same, h.1.1.within) }

  pub FitsIn-more : FitsIn l old → FitsIn l new
  FitsIn-more so_far = record {
    sized = λ b k has. ⊎_elim (λ row. (named b k row has).sized) (λ other. so_far.sized b k (sym (r.others b other) ∙ has)) (cases_eq (b / 128) index);
    few = λ b k has. ⊎_elim (λ row. (named b k row has).few) (λ other. so_far.few b k (sym (r.others b other) ∙ has)) (cases_eq (b / 128) index);
  }

  pub rest-more : ((b : ℕ) → 128 * index ≤ b → slot_of old b ≡ None) → (b : ℕ) → 128 * (index + 1) ≤ b → slot_of new b ≡ None
  rest-more rest b past = r.others b (λ row. omega arith) ∙ rest b (omega arith)

  pub IsTableTo-more : (v : Sectors) → bytes ≡ v (3 + index) → IsTableTo (128 * index) l v old → IsTableTo (128 * (index + 1)) l v new
  IsTableTo-more v at so_far b below = ⊎_elim
      (λ row. entry-in v bytes index b at row ∙ in_row b row)
      (λ other. so_far b (omega arith) ∙ ap (code l) (sym (r.others b other)))
      (cases_eq (b / 128) index)

-- ---- a sector that can't be read

pub unreadable-no_image : (l : Layout) (v : Sectors) (head : Head) (so_far : List (Option ℕ)) (index : ℕ) (bytes : List ℕ) → IsLayout l → length so_far ≡ l.entries → IsMap so_far → 128 * index < l.entries
    → ((b : ℕ) → 128 * index ≤ b → slot_of so_far b ≡ None) → IsTableTo (128 * index) l v so_far → bytes ≡ v (3 + index)
    → ¬ IsReadable l.first l.block l.blocks (few_slots l) so_far index bytes → ¬ HasImageOf l v head
unreadable-no_image l v head so_far index bytes ok long good within rest table at bad has =
    let m = has.0 in
    let image = has.1 in
    let before : (b : ℕ) → b < 128 * index → slot_of so_far b ≡ m b = λ b below.
    code-one l (slot_of so_far) m b ok (λ k is. omega (arith, good.below b k is, long)) (λ k is. (image.slots.fits b k is).0)
    (sym (table b below) ∙ image.table b (in_entries l b (omega arith))) in
    let readable = table-readable l v head.footer head.header m so_far index (few_slots l) ok image within before rest (λ k few few'. omega (arith, few, few')) in
    bad (subst (λ (x : List ℕ). IsReadable l.first l.block l.blocks (few_slots l) so_far index x) (sym at) readable)

-- ---- all sectors

pub rows-within : (l : Layout) (index rows : ℕ) → rows ≡ l.entries / 128 + min 1 (l.entries % 128) → index < rows → 128 * index < l.entries
rows-within l index rows are below = omega (arith, are, below)

pub rows-room : (entries sectors index rows : ℕ) → rows ≡ entries / 128 + min 1 (entries % 128) → first entries + 1 ≤ sectors → index < rows → 3 + index < sectors
unfolding first div_up
rows-room entries sectors index rows are room below = omega (arith, are, room, below)

pub rows-all : (l : Layout) (rows : ℕ) → rows ≡ l.entries / 128 + min 1 (l.entries % 128) → entries_in_sectors l ≡ 128 * rows
unfolding entries_in_sectors div_up
rows-all l rows are = omega (arith, are)
