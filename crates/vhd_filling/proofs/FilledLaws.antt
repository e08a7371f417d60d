-- What is held while the page is written, read back, begun and changed.
use Rattle.std.proofs.Common.{◌≡◌, ◌≢◌, ℕ, ◌+◌, ◌-◌, ◌*◌, ◌/◌, ◌%◌, ◌<◌, ◌≤◌, ◌⊎◌, inl, inr, true, false, List, length, set, Option, Some, None, refl, sym, ap, ap₂, ◌∙◌, subst, subst₂, ⊎_elim, eq-eqb, length-set, arith}
use Rattle.std.proofs.Math.Path.{fun_ext}
use Rattle.std.proofs.lemmas.Bool.{cases_Bool, cases_eq, cond-true, cond-false, eqb-true, ne_eqb, true≢false}
use Rattle.std.proofs.lemmas.Nat.{mod_below, div-add-mod'}
use Rattle.std.proofs.lemmas.Option.{none-some, same_Some}
use Rattle.sm_base.specs.Numbers.{first}
use Rattle.sm_base.specs.declared.sizes.Geometry.{Geometry}
use Rattle.sm_disk.specs.Held.{Held, IsWhole, Wrote, Gave, reads}
use Rattle.sm_disk.specs.Sectors.{sector, zeros}
use Rattle.sm_disk.proofs.HeldLaws.{reads-wrote, reads-elsewhere, torn_from_wrote}
use Rattle.vhd_map.specs.Slots.{slot_of, is_used, used_count, top_of, IsMap}
use Rattle.vhd_map.proofs.SlotLemmas.{is_used-from_no_block, slot_of-within, slot_of-set_same, slot_of-set_other, used_count-set, used_count-le, top_of-past, top_of-set, IsMap-set}
use Rattle.vhd_map.proofs.Spots.{spot-part, spot-same, spot-within}
use Rattle.vhd_layout.specs.Layouts.{Sectors}
use Rattle.vhd_layout.proofs.ImageLaws.{option_cases}
use Rattle.vhd_volumes.specs.Truth.{HasRoomFor}
use Rattle.vhd_filling.specs.Filled.{AreSet, HasBitmaps, HoldsSame, IsPut, IsSound, from_slot, held, is_block, place_in, slots_taken, with_slot, slot_given}
use Rattle.vhd_filling.specs.declared.fillings.Filling.{Filling}

-- ---- the page's block

pub block_is : (b : ℕ) (o : Option ℕ) → is_block b o ≡ true → o ≡ Some b
block_is b None e = absurd (true≢false (sym e))
block_is b (Some a) e = ap Some (eqb-true a b e)

pub block_at : (b : ℕ) (o : Option ℕ) → o ≡ Some b → is_block b o ≡ true
block_at b o e = ap (is_block b) e ∙ eq-eqb b b refl

block_not : (b a : ℕ) (o : Option ℕ) → o ≡ Some a → b ≢ a → is_block b o ≡ false
block_not b a o e other = ap (is_block b) e ∙ ne_eqb a b (λ s. other (sym s))

pub block_none : (b : ℕ) (o : Option ℕ) → o ≡ None → is_block b o ≡ false
block_none b o e = ap (is_block b) e

pub held-page : (f : Filling) (v : Sectors) (s : ℕ) → is_block (s / f.geometry.block) f.block ≡ true → held f v s ≡ sector f.page.items (1 + s % f.geometry.block)
held-page f v s is = cond-true (is_block (s / f.geometry.block) f.block) _ _ is

pub held-slot : (f : Filling) (v : Sectors) (s : ℕ) → is_block (s / f.geometry.block) f.block ≡ false → held f v s ≡ from_slot f.geometry v (s % f.geometry.block) (slot_of f.map (s / f.geometry.block))
held-slot f v s gone = cond-false (is_block (s / f.geometry.block) f.block) _ _ gone

pub part_low : (f : Filling) (s : ℕ) → 1 + s % f.geometry.block < 1 + f.geometry.block
part_low f s = let low = mod_below s f.geometry.block (omega (arith, f.geometry.in_range.block_least)) in omega (arith, low)

-- each slot has room where those that were taken have it
pub slot_low : (f : Filling) → IsSound f → (b k : ℕ) → slot_of f.map b ≡ Some k → k < slots_taken f
slot_low f sound b k has = omega (arith, top_of-past f.map b k has, sound.in_row)

pub slot_whole : (f : Filling) → IsSound f → (b k n : ℕ) → slot_of f.map b ≡ Some k → HasRoomFor f.geometry (slots_taken f) n → IsWhole (place_in f.geometry k 0) (length f.page.items) n
slot_whole f sound b k n has room =
    let block = f.geometry.block in
    let last : place_in f.geometry k block < n - 1 = spot-within (first f.geometry.entries) block k block (slots_taken f) (n - 1) (slot_low f sound b k has) (omega arith) (omega (arith, room)) in
    let part = spot-part (first f.geometry.entries) block k block in
    record { some = omega (arith, sound.long); whole = omega (arith, sound.long); within = omega (arith, sound.long, last, part) }

-- the same by a place and a length that are these
pub slot_whole_at : (f : Filling) → IsSound f → (g : Geometry) (b k n at len : ℕ) → g ≡ f.geometry → slot_of f.map b ≡ Some k → at ≡ place_in f.geometry k 0 → len ≡ length f.page.items → HasRoomFor g (slots_taken f) n → IsWhole at len n
slot_whole_at f sound g b k n at len same has place long room =
    let w = slot_whole f sound b k n has (subst (λ (z : Geometry). HasRoomFor z (slots_taken f) n) same room) in
    record { some = omega (arith, w.some, long); whole = omega (arith, w.whole, long); within = omega (arith, w.within, long, place) }

-- the page's block has a slot
pub page_slot : (f : Filling) → IsSound f → (b : ℕ) → f.block ≡ Some b → b < length f.map
page_slot f sound b at = ⊎_elim (λ none. absurd (sound.there b at none)) (λ some. slot_of-within f.map b some.0 some.1) (option_cases (slot_of f.map b))

-- ---- what a step leaves

-- the bitmaps stand, and what is held is the same
pub record StaysFilled (f f' : Filling) (v w : Sectors) : Type 0 where
  pub bitmaps : HasBitmaps f' w
  pub same : HoldsSame (held f v) (held f' w)

-- by sectors that read the same
pub reread : {f n : Filling} {v : Sectors} (h : Held) → ((p : ℕ) → reads h p ≡ v p) → StaysFilled f n v v → StaysFilled f n v (reads h)
reread {f} {n} {v} h same stays =
    let all : v ≡ (λ p. reads h p) = fun_ext (λ p. sym (same p)) in
    subst (λ (w : Sectors). StaysFilled f n v w) all stays

-- part j of a slot that a whole page was written to, and of any other slot
module _ (g : Geometry) (k : ℕ) (bytes : List ℕ) (long : length bytes ≡ 512 * (1 + g.block)) {x y : Held} (wrote : Wrote (place_in g k 0) bytes x y) where
  wrote-here : (j : ℕ) → j < 1 + g.block → reads y (place_in g k j) ≡ sector bytes j
  wrote-here j low =
      let part = spot-part (first g.entries) g.block k j in
      let off : place_in g k j - place_in g k 0 ≡ j = omega (arith, part) in
      reads-wrote wrote (place_in g k j) (omega (arith, part), omega (arith, part, long, low)) ∙ ap (sector bytes) off

  wrote-other : (c j : ℕ) → c ≢ k → j < 1 + g.block → reads y (place_in g c j) ≡ reads x (place_in g c j)
  wrote-other c j apart low = reads-elsewhere (torn_from_wrote wrote) (place_in g c j) (λ inside.
      let d = place_in g c j - place_in g k 0 in
      let within : d < 1 + g.block = omega (arith, inside.0, inside.1, long) in
      let at : place_in g c j ≡ place_in g k d = omega (arith, inside.0, spot-part (first g.entries) g.block k d) in
      apart (spot-same (first g.entries) g.block c k j d low within at).0)

-- the page is written at its slot
module _ (f : Filling) (sound : IsSound f) (b k : ℕ) (at : f.block ≡ Some b) (has : slot_of f.map b ≡ Some k) {x y : Held} (wrote : Wrote (place_in f.geometry k 0) f.page.items x y) (marked : HasBitmaps f (reads x)) where
  apart : (c j : ℕ) → slot_of f.map c ≡ Some j → c ≢ b → j ≢ k
  apart c j here other same = other (sound.good.once c b k (here ∙ ap Some same) has)

  pub left_page : StaysFilled f (record f { block = None }) (reads x) (reads y)
  left_page = record {
    bitmaps = record {
      page = marked.page;
      slots = λ c j here free. ⊎_elim
          (λ same. let one : j ≡ k = same_Some j k (sym here ∙ (ap (slot_of f.map) same ∙ has)) in
          subst (AreSet f.geometry.block) (sym (ap (λ (n : ℕ). reads y (place_in f.geometry n 0)) one ∙ wrote-here f.geometry k f.page.items sound.long wrote 0 (omega arith))) marked.page)
          (λ other. subst (AreSet f.geometry.block) (sym (wrote-other f.geometry k f.page.items sound.long wrote j 0 (apart c j here other) (omega arith))) (marked.slots c j here (block_not c b f.block at other)))
          (cases_eq c b);
    };
    same = λ s. ⊎_elim (page s) (slot s) (cases_Bool (is_block (s / f.geometry.block) f.block));
  }
    where
      page : (s : ℕ) → is_block (s / f.geometry.block) f.block ≡ true → held (record f { block = None }) (reads y) s ≡ held f (reads x) s
      page s is =
          let here : s / f.geometry.block ≡ b = same_Some (s / f.geometry.block) b (sym (block_is (s / f.geometry.block) f.block is) ∙ at) in
          ap (from_slot f.geometry (reads y) (s % f.geometry.block)) (ap (slot_of f.map) here ∙ has)
          ∙ (wrote-here f.geometry k f.page.items sound.long wrote (1 + s % f.geometry.block) (part_low f s) ∙ sym (held-page f (reads x) s is))

      slot : (s : ℕ) → is_block (s / f.geometry.block) f.block ≡ false → held (record f { block = None }) (reads y) s ≡ held f (reads x) s
      slot s gone = from (option_cases (slot_of f.map (s / f.geometry.block))) ∙ sym (held-slot f (reads x) s gone)
        where
          from : (slot_of f.map (s / f.geometry.block) ≡ None) ⊎ ((j : ℕ) × (slot_of f.map (s / f.geometry.block) ≡ Some j))
              → from_slot f.geometry (reads y) (s % f.geometry.block) (slot_of f.map (s / f.geometry.block)) ≡ from_slot f.geometry (reads x) (s % f.geometry.block) (slot_of f.map (s / f.geometry.block))
          from (inl none) = ap (from_slot f.geometry (reads y) (s % f.geometry.block)) none ∙ sym (ap (from_slot f.geometry (reads x) (s % f.geometry.block)) none)
          from (inr (j, here)) =
              let other : s / f.geometry.block ≢ b = λ e. true≢false (sym (block_at (s / f.geometry.block) f.block (at ∙ ap Some (sym e))) ∙ gone) in
              ap (from_slot f.geometry (reads y) (s % f.geometry.block)) here
              ∙ (wrote-other f.geometry k f.page.items sound.long wrote j (1 + s % f.geometry.block) (apart (s / f.geometry.block) j here other) (part_low f s)
              ∙ sym (ap (from_slot f.geometry (reads x) (s % f.geometry.block)) here))

-- the same by a place and bytes that are these
pub left_page_at : (f : Filling) → IsSound f → (b k place : ℕ) (bytes : List ℕ) → f.block ≡ Some b → slot_of f.map b ≡ Some k → place ≡ place_in f.geometry k 0 → bytes ≡ f.page.items → {x y : Held} → Wrote place bytes x y
    → HasBitmaps f (reads x) → StaysFilled f (record f { block = None }) (reads x) (reads y)
left_page_at f sound b k place bytes at has here is {x} {y} wrote marked = left_page f sound b k at has (subst₂ (λ (p : ℕ) (z : List ℕ). Wrote p z x y) here is wrote) marked

pub left_sound : (f : Filling) → IsSound f → IsSound (record f { block = None })
left_sound f sound = record { long = sound.long; entries = sound.entries; good = sound.good; in_row = sound.in_row; there = λ b at none. none-some b at }

-- the page is of no block
module _ (f n : Filling) (sound : IsSound f) (b : ℕ) (free : f.block ≡ None) where
  -- the page is read back from the block's slot
  module _ (k : ℕ) (has : slot_of f.map b ≡ Some k) (long : length n.page.items ≡ length f.page.items) where
    pub resumed_sound : IsSound (record f { block = Some b; page = n.page })
    resumed_sound = record {
      long = long ∙ sound.long;
      entries = sound.entries;
      good = sound.good;
      in_row = sound.in_row;
      there = λ c at none. none-some k (sym none ∙ (ap (slot_of f.map) (sym (same_Some b c at)) ∙ has));
    }

  module _ (k : ℕ) (has : slot_of f.map b ≡ Some k) (long : length n.page.items ≡ length f.page.items) (x : Held) (at : ℕ) (place : at ≡ place_in f.geometry k 0) (gave : Gave at x n.page.items) (marked : HasBitmaps f (reads x)) where
    read-back : (j : ℕ) → j < 1 + f.geometry.block → sector n.page.items j ≡ reads x (place_in f.geometry k j)
    read-back j low =
        let part = spot-part (first f.geometry.entries) f.geometry.block k j in
        let off : j ≡ place_in f.geometry k j - at = omega (arith, part, place) in
        ap (sector n.page.items) off ∙ gave (place_in f.geometry k j) (omega (arith, part, place), omega (arith, part, place, long, sound.long, low))

    pub resumed : StaysFilled f (record f { block = Some b; page = n.page }) (reads x) (reads x)
    resumed = record {
      bitmaps = record {
        page = subst (AreSet f.geometry.block) (sym (read-back 0 (omega arith))) (marked.slots b k has (block_none b f.block free));
        slots = λ c j here other. marked.slots c j here (block_none c f.block free);
      };
      same = λ s. ⊎_elim (page s) (λ gone. cond-false (is_block (s / f.geometry.block) (Some b)) _ _ gone ∙ sym (held-slot f (reads x) s (block_none _ f.block free))) (cases_Bool (is_block (s / f.geometry.block) (Some b)));
    }
      where
        page : (s : ℕ) → is_block (s / f.geometry.block) (Some b) ≡ true → held (record f { block = Some b; page = n.page }) (reads x) s ≡ held f (reads x) s
        page s is =
            let here : s / f.geometry.block ≡ b = sym (same_Some b (s / f.geometry.block) (block_is (s / f.geometry.block) (Some b) is)) in
            cond-true (is_block (s / f.geometry.block) (Some b)) _ _ is ∙ (read-back (1 + s % f.geometry.block) (part_low f s)
            ∙ (sym (ap (from_slot f.geometry (reads x) (s % f.geometry.block)) (ap (slot_of f.map) here ∙ has)) ∙ sym (held-slot f (reads x) s (block_none _ f.block free))))

  -- a block that has no slot gets one, and the page is zeros
  module _ (within : b < f.geometry.entries) (none : slot_of f.map b ≡ None) where
    pub next_free : is_used f.map (used_count f.map) ≡ false
    next_free = is_used-from_no_block f.map (used_count f.map) (λ c has. omega (arith, top_of-past f.map c (used_count f.map) has, sound.in_row))

    pub next_within : used_count f.map < length f.map
    next_within = omega (arith, used_count-set f.map b 0 (omega (arith, within, sound.entries)) none, used_count-le (set f.map b (Some 0)), length-set f.map b (Some 0))

    inside : b < length f.map
    inside = omega (arith, within, sound.entries)

    module _ (map : n.map ≡ set f.map b (Some (used_count f.map))) (long : length n.page.items ≡ length f.page.items) (bitmap : sector n.page.items 0 ≡ sector f.page.items 0)
        (blank : (i : ℕ) → 1 ≤ i → 512 * i + 512 ≤ length f.page.items → sector n.page.items i ≡ zeros) where
      slot_here : slot_of n.map b ≡ Some (used_count f.map)
      slot_here = ap (λ (m : List (Option ℕ)). slot_of m b) map ∙ slot_of-set_same f.map b (used_count f.map) inside

      slot_other : (c : ℕ) → c ≢ b → slot_of n.map c ≡ slot_of f.map c
      slot_other c other = ap (λ (m : List (Option ℕ)). slot_of m c) map ∙ slot_of-set_other f.map b (used_count f.map) c other

      pub begun_sound : IsSound (record f { map = n.map; block = Some b; page = n.page })
      begun_sound = record {
        long = long ∙ sound.long;
        entries = ap length map ∙ (length-set f.map b (Some (used_count f.map)) ∙ sound.entries);
        good = subst IsMap (sym map) (IsMap-set f.map b (used_count f.map) sound.good inside next_free next_within);
        in_row =
            let top = top_of-set f.map b (used_count f.map) inside none in
            let many = used_count-set f.map b (used_count f.map) inside none in
            subst (λ (m : List (Option ℕ)). top_of m ≡ used_count m) (sym map) (omega (arith, top, many, sound.in_row));
        there = λ c at gone. none-some (used_count f.map) (sym gone ∙ (ap (slot_of n.map) (sym (same_Some b c at)) ∙ slot_here));
      }

      pub begun_bitmaps : (v : Sectors) → HasBitmaps f v → HasBitmaps (record f { map = n.map; block = Some b; page = n.page }) v
      begun_bitmaps v marked = record {
        page = subst (AreSet f.geometry.block) (sym bitmap) marked.page;
        slots = λ c j here other. marked.slots c j (sym (slot_other c (λ e. true≢false (sym (block_at c (Some b) (ap Some (sym e))) ∙ other))) ∙ here) (block_none c f.block free);
      }

      pub begun_same : (v : Sectors) → HoldsSame (held f v) (held (record f { map = n.map; block = Some b; page = n.page }) v)
      begun_same v s = ⊎_elim (page s) (slot s) (cases_Bool (is_block (s / f.geometry.block) (Some b)))
        where
          page : (s : ℕ) → is_block (s / f.geometry.block) (Some b) ≡ true → held (record f { map = n.map; block = Some b; page = n.page }) v s ≡ held f v s
          page s is =
              let here : s / f.geometry.block ≡ b = sym (same_Some b (s / f.geometry.block) (block_is (s / f.geometry.block) (Some b) is)) in
              cond-true (is_block (s / f.geometry.block) (Some b)) _ _ is
              ∙ (blank (1 + s % f.geometry.block) (omega arith) (omega (arith, sound.long, part_low f s))
              ∙ (sym (ap (from_slot f.geometry v (s % f.geometry.block)) (ap (slot_of f.map) here ∙ none)) ∙ sym (held-slot f v s (block_none _ f.block free))))

          slot : (s : ℕ) → is_block (s / f.geometry.block) (Some b) ≡ false → held (record f { map = n.map; block = Some b; page = n.page }) v s ≡ held f v s
          slot s gone =
              let other : s / f.geometry.block ≢ b = λ e. true≢false (sym (block_at (s / f.geometry.block) (Some b) (ap Some (sym e))) ∙ gone) in
              cond-false (is_block (s / f.geometry.block) (Some b)) _ _ gone
              ∙ (ap (from_slot f.geometry v (s % f.geometry.block)) (slot_other (s / f.geometry.block) other) ∙ sym (held-slot f v s (block_none _ f.block free)))

-- a sector of the page is put
module _ (f n : Filling) (sound : IsSound f) (at : ℕ) (bytes : List ℕ) (here : f.block ≡ Some (at / f.geometry.block)) (long : length n.page.items ≡ length f.page.items)
    (put : sector n.page.items (1 + at % f.geometry.block) ≡ bytes) (others : (i : ℕ) → i ≢ 1 + at % f.geometry.block → sector n.page.items i ≡ sector f.page.items i) where
  pub put_sound : IsSound (record f { page = n.page })
  put_sound = record {
    long = long ∙ sound.long;
    entries = sound.entries;
    good = sound.good;
    in_row = sound.in_row;
    there = sound.there;
  }

  pub put_bitmaps : (v : Sectors) → HasBitmaps f v → HasBitmaps (record f { page = n.page }) v
  put_bitmaps v marked = record { page = subst (AreSet f.geometry.block) (sym (others 0 (λ e. omega (arith, e)))) marked.page; slots = marked.slots }

  pub put_held : (v : Sectors) → IsPut at bytes (held f v) (held (record f { page = n.page }) v)
  put_held v = record {
    here = cond-true (is_block (at / f.geometry.block) f.block) _ _ (block_at (at / f.geometry.block) f.block here) ∙ put;
    others = λ s away. ⊎_elim
        (λ is. let row : s / f.geometry.block ≡ at / f.geometry.block = same_Some _ _ (sym (block_is (s / f.geometry.block) f.block is) ∙ here) in
        cond-true (is_block (s / f.geometry.block) f.block) _ _ is
        ∙ (others (1 + s % f.geometry.block) (λ e. away (together row (omega (arith, e)))) ∙ sym (held-page f v s is)))
        (λ gone. cond-false (is_block (s / f.geometry.block) f.block) _ _ gone ∙ sym (held-slot f v s gone))
        (cases_Bool (is_block (s / f.geometry.block) f.block));
  }
    where
      together : {s : ℕ} → s / f.geometry.block ≡ at / f.geometry.block → s % f.geometry.block ≡ at % f.geometry.block → s ≡ at
      together {s} row part = sym (div-add-mod' s f.geometry.block) ∙ ap₂ (λ (q r : ℕ). q * f.geometry.block + r) row part ∙ div-add-mod' at f.geometry.block

-- zeros that are put into a block without a slot are there
pub zeros_held : (f : Filling) (at : ℕ) (v : Sectors) → IsSound f → slot_of f.map (at / f.geometry.block) ≡ None → held f v at ≡ zeros
zeros_held f at v sound none = held-slot f v at (⊎_elim (λ is. absurd (sound.there (at / f.geometry.block) (block_is (at / f.geometry.block) f.block is) none)) (λ gone. gone) (cases_Bool (is_block (at / f.geometry.block) f.block)))
    ∙ ap (from_slot f.geometry v (at % f.geometry.block)) none

-- ---- the map

pub with_slot-held : (b k : ℕ) (m : List (Option ℕ)) → slot_of m b ≡ Some k → with_slot b m ≡ m
with_slot-held b k m has = ap (slot_given b m) has

pub with_slot-new : (b : ℕ) (m : List (Option ℕ)) → slot_of m b ≡ None → with_slot b m ≡ set m b (Some (used_count m))
with_slot-new b m none = ap (slot_given b m) none

pub with_slot-count : (b : ℕ) (m : List (Option ℕ)) → b < length m → slot_of m b ≡ None → used_count (with_slot b m) ≡ used_count m + 1
with_slot-count b m below none = ap used_count (with_slot-new b m none) ∙ used_count-set m b (used_count m) below none

-- the slots of a map that has one more are those of the map, and that of the block
pub with_slot-others : (b : ℕ) (m : List (Option ℕ)) (c k : ℕ) → slot_of (with_slot b m) c ≡ Some k → (c ≡ b) ⊎ (slot_of m c ≡ Some k)
with_slot-others b m c k has = ⊎_elim
    (λ none. ⊎_elim (λ same. inl same) (λ other. inr (sym (ap (λ (x : List (Option ℕ)). slot_of x c) (with_slot-new b m none) ∙ slot_of-set_other m b (used_count m) c other) ∙ has)) (cases_eq c b))
    (λ some. inr (sym (ap (λ (x : List (Option ℕ)). slot_of x c) (with_slot-held b some.0 m some.1)) ∙ has))
    (option_cases (slot_of m b))
