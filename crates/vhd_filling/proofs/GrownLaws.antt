-- A new image that is filled while its volume gets more extents.
use Rattle.std.proofs.Common.{◌≡◌, ℕ, ◌+◌, ◌/◌, ◌%◌, ◌<◌, ◌++◌, ◌⊎◌, inl, inr, List, Some, None, refl, sym, ap, ◌∙◌, subst, subst₂, ⊎_elim, arith}
use Rattle.std.proofs.lemmas.Bool.{cases_Bool}
use Rattle.sm_base.specs.Numbers.{first}
use Rattle.sm_disk.specs.Held.{reads}
use Rattle.vg_meta.specs.Tables.{VolumeTable, rows, extents_of}
use Rattle.vg_meta.specs.Roomy.{table_alone}
use Rattle.vg_meta.specs.Changes.{Permits, grown}
use Rattle.vg_meta.specs.declared.changes.Change.TheVariants.{Grow}
use Rattle.vg_meta.proofs.RowLaws.{row_of-with_row_same}
use Rattle.vg_volumes.specs.Sites.{Site}
use Rattle.vg_volumes.specs.Stored.{stored, held_in, Commits}
use Rattle.vg_volumes.specs.Volumes.{KeepsAt, span, volume}
use Rattle.vg_volumes.specs.declared.stores.Store.{Ghosts}
use Rattle.vg_volumes.proofs.VolumeLaws.{Keeps-volume, KeepsAt-keeps, KeepsAt-then}
use Rattle.vhd_map.specs.Slots.{slot_of}
use Rattle.vhd_map.proofs.Spots.{spot-within}
use Rattle.vhd_layout.specs.Layouts.{Sectors}
use Rattle.vhd_layout.proofs.ImageLaws.{option_cases}
use Rattle.vhd_volumes.specs.Truth.{HasRoomFor, HasRoomIn}
use Rattle.vhd_volumes.proofs.SteadyLaws.{KeepsAt-longer}
use Rattle.vhd_filling.specs.Filled.{AreSet, Fills, HasBitmaps, HoldsSame, IsSound, from_slot, held_now, is_block, place_in, slots_taken}
use Rattle.vhd_filling.specs.declared.fillings.Filling.{Filling}
use Rattle.vhd_filling.proofs.FilledLaws.{StaysFilled, held-page, held-slot, part_low, slot_low}

-- where the sectors that have room for the slots read as before, the same is held
module _ (f : Filling) (sound : IsSound f) (v w : Sectors) (n : ℕ) (room : HasRoomFor f.geometry (slots_taken f) n) (same : (p : ℕ) → p < n → w p ≡ v p) (marked : HasBitmaps f v) where
  in_room : (b k j : ℕ) → slot_of f.map b ≡ Some k → j < 1 + f.geometry.block → place_in f.geometry k j < n
  in_room b k j has low = spot-within (first f.geometry.entries) f.geometry.block k j (slots_taken f) n (slot_low f sound b k has) low (omega (arith, room))

  pub kept_filled : StaysFilled f f v w
  kept_filled = record {
    bitmaps = record {
      page = marked.page;
      slots = λ b k has free. subst (AreSet f.geometry.block) (sym (same (place_in f.geometry k 0) (in_room b k 0 has (omega arith)))) (marked.slots b k has free);
    };
    same = λ s. ⊎_elim
        (λ is. held-page f w s is ∙ sym (held-page f v s is))
        (λ gone. held-slot f w s gone ∙ (from s (option_cases (slot_of f.map (s / f.geometry.block))) ∙ sym (held-slot f v s gone)))
        (cases_Bool (is_block (s / f.geometry.block) f.block));
  }
    where
      from : (s : ℕ) → (slot_of f.map (s / f.geometry.block) ≡ None) ⊎ ((k : ℕ) × (slot_of f.map (s / f.geometry.block) ≡ Some k))
          → from_slot f.geometry w (s % f.geometry.block) (slot_of f.map (s / f.geometry.block)) ≡ from_slot f.geometry v (s % f.geometry.block) (slot_of f.map (s / f.geometry.block))
      from s (inl none) = ap (from_slot f.geometry w (s % f.geometry.block)) none ∙ sym (ap (from_slot f.geometry v (s % f.geometry.block)) none)
      from s (inr (k, has)) =
          ap (from_slot f.geometry w (s % f.geometry.block)) has
          ∙ (same (place_in f.geometry k (1 + s % f.geometry.block)) (in_room (s / f.geometry.block) k (1 + s % f.geometry.block) has (part_low f s))
          ∙ sym (ap (from_slot f.geometry v (s % f.geometry.block)) has))

-- The volume gets more extents behind its end, by a commit: the image goes on to be filled, and holds what it held.
module _ {S : Type 0} (g : Ghosts S) (f : Filling) (more : List ℕ) {a b : S} (commits : Commits g (Grow f.volume more) a b) (allowed : Permits (g.site a).count (table_alone (g.table a)) (Grow f.volume more))
    (room : HasRoomIn (stored g a) f.volume (slots_taken f)) (fills : Fills g f a) where
  extents_had : List ℕ
  extents_had = extents_of (rows (table_alone (g.table a)) f.volume)

  extents_now : extents_of (rows (table_alone (g.table b)) f.volume) ≡ extents_had ++ more
  unfolding extents_had
  extents_now =
      ap (λ (t : VolumeTable). extents_of (rows t f.volume)) commits.table
      ∙ (ap extents_of (row_of-with_row_same (table_alone (g.table a)).volumes f.volume (grown more) allowed.row (λ s. refl) allowed.there)
      ∙ ap (λ o. extents_of o ++ more) (sym allowed.there))

  keeps : g.told → KeepsAt (λ p. p < span (g.site a).geometry.extent extents_had) (held_in (stored g a) f.volume) (held_in (stored g b) f.volume)
  unfolding extents_had
  keeps told =
      let x = (g.site a).geometry.extent in
      let there : KeepsAt (λ p. p < span x extents_had) (volume x extents_had (g.area a)) (volume x (extents_had ++ more) (g.area b)) =
      KeepsAt-then (KeepsAt-keeps _ (Keeps-volume x extents_had (commits.keeps told))) (KeepsAt-longer x extents_had more (g.area b)) in
      subst₂ (λ (s : Site) (es : List ℕ). KeepsAt (λ p. p < span x extents_had) (held_in (stored g a) f.volume) (volume s.geometry.extent es (g.area b))) (sym commits.site) (sym extents_now) there

  room_here : HasRoomFor f.geometry (slots_taken f) (span (g.site a).geometry.extent extents_had)
  unfolding extents_had
  room_here = subst (λ z. HasRoomFor z (slots_taken f) (span (g.site a).geometry.extent extents_had)) fills.sizes room

  stays : (told : g.told) → StaysFilled f f (reads (held_in (stored g a) f.volume)) (reads (held_in (stored g b) f.volume))
  stays told = kept_filled f fills.sound _ _ (span (g.site a).geometry.extent extents_had) room_here (λ p below. (keeps told).reads p below) (fills.marked told)

  pub law_grown : Fills g f b × (g.told → HoldsSame (held_now g f a) (held_now g f b))
  law_grown = (record { sound = fills.sound; sizes = ap (λ (s : Site). s.geometry) commits.site ∙ fills.sizes; marked = λ told. (stays told).bitmaps }, λ told. (stays told).same)
