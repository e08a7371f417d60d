-- The image at the end: a sector in each slot, the sectors that were put, and steady once nothing is pending.
use Rattle.std.proofs.Common.{◌≡◌, ◌≢◌, ℕ, ◌+◌, ◌-◌, ◌/◌, ◌%◌, ◌<◌, true, List, Option, Some, None, sym, ap, ap₂, ◌∙◌, subst, subst₂, ⊎_elim, arith}
use Rattle.std.proofs.Math.Path.{fun_ext}
use Rattle.std.proofs.lemmas.Bool.{cond-true}
use Rattle.std.proofs.lemmas.Nat.{mod_below}
use Rattle.sm_base.specs.Numbers.{first, IsGeometry}
use Rattle.sm_base.specs.declared.names.Name.{Name}
use Rattle.sm_base.specs.declared.sizes.Geometry.{Geometry}
use Rattle.sm_disk.specs.Held.{Held, reads}
use Rattle.vg_volumes.specs.Stored.{stored, sectors_in, held_in, Stays}
use Rattle.vg_volumes.specs.Volumes.{KeepsAt}
use Rattle.vg_volumes.specs.declared.stores.Store.{Ghosts}
use Rattle.vg_volumes.proofs.StoredLaws.{size_stays}
use Rattle.vhd_map.specs.Bitmaps.{is_set}
use Rattle.vhd_map.specs.Places.{blank}
use Rattle.vhd_map.specs.Slots.{slot_of, used_count}
use Rattle.vhd_map.proofs.Spots.{spot-first, spot-within}
use Rattle.vhd_layout.specs.Layouts.{Layout, IsLayout, Sectors, code, entry}
use Rattle.vhd_layout.specs.Images.{EachSlotHolds, IsImage}
use Rattle.vhd_layout.proofs.ImageLaws.{in_entries, option_cases}
use Rattle.vhd_volumes.specs.declared.heads.Head.{Head}
use Rattle.vhd_volumes.specs.Steady.{IsQuiet}
use Rattle.vhd_volumes.specs.Truth.{HasRoomFor, HasRoomIn, disk_sectors, layout_in}
use Rattle.vhd_volumes.specs.Writes.{own_in}
use Rattle.vhd_image.specs.Made.{IsInSlots}
use Rattle.vhd_image.specs.Opened.{ReadsAsImage}
use Rattle.vhd_image.specs.Steady.{IsSteady}
use Rattle.vhd_image.specs.declared.images.Body.TheVariants.{Vhd}
use Rattle.vhd_image.proofs.ContentLaws.{is-layout, own-slot, own-no_slot}
use Rattle.vhd_image.proofs.SteadyLaws.{steady_quiet}
use Rattle.vhd_filling.specs.Filled.{Fills, GoesOn, HasBitmaps, HasSectors, HoldsSame, IsSound, from_slot, held, held_now, or_zeros, place_in, slots_taken}
use Rattle.vhd_filling.specs.declared.fillings.Filling.{Filling}
use Rattle.vhd_filling.proofs.FilledLaws.{block_none, held-slot, part_low, slot_low}

module _ (f : Filling) (sound : IsSound f) (free : f.block ≡ None) (x y : Held) (n : ℕ) (head : Head) (room : HasRoomFor f.geometry (slots_taken f) n) (marked : HasBitmaps f (reads x))
    (is : ReadsAsImage f.geometry n y head f.map) (keeps : KeepsAt (IsInSlots f.geometry n) x y) where
  l : Layout
  l = layout_in f.geometry head.footer n

  lay : IsLayout (layout_in f.geometry head.footer n)
  lay = is-layout f.geometry head.footer n f.geometry.in_range

  -- each part of a slot reads as before
  kept_part : (b k j : ℕ) → slot_of f.map b ≡ Some k → j < 1 + f.geometry.block → reads y (place_in f.geometry k j) ≡ reads x (place_in f.geometry k j)
  kept_part b k j has low =
      let last : place_in f.geometry k j < n - 1 = spot-within (first f.geometry.entries) f.geometry.block k j (slots_taken f) (n - 1) (slot_low f sound b k has) low (omega (arith, room)) in
      keeps.reads (place_in f.geometry k j) (spot-first (first f.geometry.entries) f.geometry.block k j, omega (arith, last))

  set_part : (b k i : ℕ) → slot_of f.map b ≡ Some k → i < f.geometry.block → is_set (reads y (place_in f.geometry k 0)) i ≡ true
  set_part b k i has low = ap (λ (z : List ℕ). is_set z i) (kept_part b k 0 has (omega arith)) ∙ marked.slots b k has (block_none b f.block free) i low

  pub sealed_holding : EachSlotHolds f.geometry.block f.geometry.entries (reads y)
  sealed_holding = record { holds = holds }
    where
      holds : (b : ℕ) → b < f.geometry.entries → entry (reads y) b ≢ blank → (i : ℕ) × (i < f.geometry.block) × (is_set (reads y (entry (reads y) b)) i ≡ true)
      holds b below filled = ⊎_elim
          (λ none. absurd (filled (is.table b (in_entries (layout_in f.geometry head.footer n) b below) ∙ ap (code (layout_in f.geometry head.footer n)) none)))
          (λ some.
          let at : entry (reads y) b ≡ place_in f.geometry some.0 0 = is.table b (in_entries (layout_in f.geometry head.footer n) b below) ∙ ap (code (layout_in f.geometry head.footer n)) some.1 in
          let low : 0 < f.geometry.block = omega (arith, f.geometry.in_range.block_least) in
          (0, low, ap (λ (p : ℕ). is_set (reads y p) 0) at ∙ set_part b some.0 0 some.1 low))
          (option_cases (slot_of f.map b))

  pub sealed_held : (sectors : ℕ) → disk_sectors head.footer ≡ sectors → HasSectors (layout_in f.geometry head.footer n) sectors (held f (reads x)) (reads y)
  sealed_held sectors size s below =
      let block = f.geometry.block in
      let inside : s < disk_sectors head.footer = omega (arith, size, below) in
      let low : s % block < block = mod_below s block (omega (arith, f.geometry.in_range.block_least)) in
      let said = held-slot f (reads x) s (block_none (s / block) f.block free) in
      ⊎_elim
      (λ none. ap or_zeros (own-no_slot (layout_in f.geometry head.footer n) (reads y) head.footer head.header (slot_of f.map) s lay is inside none) ∙ sym (said ∙ ap (from_slot f.geometry (reads x) (s % block)) none))
      (λ some.
      ap or_zeros (own-slot (layout_in f.geometry head.footer n) (reads y) head.footer head.header (slot_of f.map) s some.0 lay is inside some.1
      ∙ cond-true (is_set (reads y (place_in f.geometry some.0 0)) (s % block)) _ _ (set_part (s / block) some.0 (s % block) some.1 low))
      ∙ (kept_part (s / block) some.0 (1 + s % block) some.1 (part_low f s) ∙ sym (said ∙ ap (from_slot f.geometry (reads x) (s % block)) some.1)))
      (option_cases (slot_of f.map (s / block)))

-- the same in a store, where the page was written and the image sealed
module _ {S : Type 0} (g : Ghosts S) (f n : Filling) (a b d : S) (fills : Fills g f a) (next : Fills g n b) (left : n.block ≡ None) (on : GoesOn f.map f n) (stays : Stays g a b) (room : HasRoomIn (stored g a) f.volume (slots_taken f)) (told : g.told)
    (head : Head) (is : ReadsAsImage (g.site b).geometry (sectors_in (stored g b) n.volume) (held_in (stored g d) n.volume) head n.map)
    (keeps : KeepsAt (IsInSlots (g.site b).geometry (sectors_in (stored g b) n.volume)) (held_in (stored g b) n.volume) (held_in (stored g d) n.volume)) where
  many : sectors_in (stored g b) n.volume ≡ sectors_in (stored g a) f.volume
  many = ap (sectors_in (stored g b)) on.volume ∙ size_stays f.volume stays

  sizes : (g.site a).geometry ≡ n.geometry
  sizes = fills.sizes ∙ sym on.geometry

  room_now : HasRoomFor n.geometry (slots_taken n) (sectors_in (stored g b) n.volume)
  room_now = subst₂ (λ (m : List (Option ℕ)) (k : ℕ). HasRoomFor n.geometry (used_count m) k) (sym on.map) (sym many)
      (subst (λ (z : Geometry). HasRoomFor z (slots_taken f) (sectors_in (stored g a) f.volume)) sizes room)

  is_now : ReadsAsImage n.geometry (sectors_in (stored g b) n.volume) (held_in (stored g d) n.volume) head n.map
  is_now = subst (λ (z : Geometry). ReadsAsImage z (sectors_in (stored g b) n.volume) (held_in (stored g d) n.volume) head n.map) next.sizes is

  keeps_now : KeepsAt (IsInSlots n.geometry (sectors_in (stored g b) n.volume)) (held_in (stored g b) n.volume) (held_in (stored g d) n.volume)
  keeps_now = subst (λ (z : Geometry). KeepsAt (IsInSlots z (sectors_in (stored g b) n.volume)) (held_in (stored g b) n.volume) (held_in (stored g d) n.volume)) next.sizes keeps

  pub end_holding : EachSlotHolds (g.site a).geometry.block (g.site a).geometry.entries (reads (held_in (stored g d) f.volume))
  end_holding = subst₂ (λ (z : Geometry) (v : Name). EachSlotHolds z.block z.entries (reads (held_in (stored g d) v))) (sym sizes) on.volume
      (sealed_holding n next.sound left (held_in (stored g b) n.volume) (held_in (stored g d) n.volume) (sectors_in (stored g b) n.volume) head room_now (next.marked told) is_now keeps_now)

  pub end_held : (sectors : ℕ) → disk_sectors head.footer ≡ sectors → HoldsSame (held_now g f a) (held_now g n b)
      → HasSectors (layout_in (g.site a).geometry head.footer (sectors_in (stored g a) f.volume)) sectors (held_now g f a) (reads (held_in (stored g d) f.volume))
  end_held sectors size same s below =
      let there = sealed_held n next.sound left (held_in (stored g b) n.volume) (held_in (stored g d) n.volume) (sectors_in (stored g b) n.volume) head room_now (next.marked told) is_now keeps_now sectors size s below in
      let l : layout_in (g.site a).geometry head.footer (sectors_in (stored g a) f.volume) ≡ layout_in n.geometry head.footer (sectors_in (stored g b) n.volume) =
      ap₂ (λ (z : Geometry) (k : ℕ). layout_in z head.footer k) sizes (sym many) in
      ap₂ (λ (z : Layout) (v : Name). or_zeros (own_in z (reads (held_in (stored g d) v)) s)) l (sym on.volume) ∙ (there ∙ same s)

-- an image with a sector in each slot is steady where the same is read and nothing is pending
pub law_steady : (g : Geometry) (n : ℕ) (head : Head) (m : List (Option ℕ)) (h quiet : Held) → IsGeometry g.extent g.block g.entries → ReadsAsImage g n h head m → EachSlotHolds g.block g.entries (reads h)
    → IsQuiet quiet → ((p : ℕ) → reads quiet p ≡ reads h p) → IsSteady g n quiet (Vhd head m)
law_steady g n head m h quiet ok is holds still same =
    let all : (λ p. reads h p) ≡ (λ p. reads quiet p) = fun_ext (λ p. sym (same p)) in
    steady_quiet g n head m ok quiet still (subst (λ (v : Sectors). IsImage (layout_in g head.footer n) v head.footer head.header (slot_of m)) all is) (subst (λ (v : Sectors). EachSlotHolds g.block g.entries v) all holds)
