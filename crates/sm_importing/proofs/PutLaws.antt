-- A put on a disk that is imported: what the image holds then, and the extents that it asks for.
use Rattle.std.proofs.Common.{◌≡◌, ◌≢◌, ⊎_elim, ℕ, ◌+◌, ◌-◌, ◌/◌, ◌<◌, ◌≤◌, true, false, List, [], ◌∷◌, length, length-set, is_some, Some, None, Err, refl, sym, ap, ap₂, ◌∙◌, arith}
use Rattle.std.specs.Prelude.{◌==◌, if◌then◌else◌}
use Rattle.std.proofs.lemmas.Bool.{cases_eq}
use Rattle.std.proofs.lemmas.Bool.Decides.{nat_tests}
use Rattle.sm_base.specs.Numbers.{thin}
use Rattle.sm_base.specs.declared.names.Name.TheVariants.{Vhd}
use Rattle.sm_base.specs.declared.refusals.Refusal.TheVariants as refusal
use Rattle.sm_base.specs.declared.sizes.Geometry.{Geometry}
use Rattle.sm_disk.specs.Held.{reads}
use Rattle.vg_meta.specs.Changes.{made, without}
use Rattle.vg_meta.specs.Tables.{VolumeTable, extents_of, free as free_of}
use Rattle.vg_volumes.specs.Sites.{Site}
use Rattle.vg_volumes.specs.Stored.{held_in, stored}
use Rattle.vg_volumes.specs.declared.stores.Store.{Ghosts}
use Rattle.vhd_map.specs.Slots.{slot_of}
use Rattle.vhd_map.proofs.SlotLemmas.{slot_of-replicate}
use Rattle.vhd_filling.specs.Filled.{Fills, HoldsSame, IsPut, TakesSlot, held_now, slots_taken, with_slot}
use Rattle.vhd_filling.specs.declared.fillings.Filling.{Filling}
use Rattle.vhd_filling.proofs.FilledLaws.{with_slot-count, with_slot-new}
use Rattle.vhd_import.specs.Making.{AnswersRoom, begin_lacks, filled, put_lacks, slots_of}
use Rattle.vhd_import.specs.Puts.{Put}
use Rattle.vhd_import.specs.Room.{Target, extents_for}
use Rattle.sm_ready.specs.Frames.{HasCommits}
use Rattle.sm_ready.specs.declared.memory.Memory.{Memory}
use Rattle.sm_ready.proofs.ChainLaws.{tab}
use Rattle.sm_importing.specs.Imports.{IsBegun, IsImporting, extents_of_volume, thin_in}
use Rattle.sm_importing.specs.Rooms.{IsLack}
use Rattle.sm_importing.specs.declared.faults.RoomFault.{RoomFault}
use Rattle.sm_importing.specs.declared.faults.RoomFault.TheVariants.{NoSpace, NoMemory, Device}
use Rattle.sm_importing.specs.Disks.{HoldsPuts, IsFilled, IsToBegin, put_fault, room_beside, room_for, target_of}
use Rattle.sm_importing.proofs.BlockLaws.{asks_enough, asks_more, asks_nothing, blocks_more, blocks_same, lacks_none, lacks_some, slots_are, takes_or_not}
use Rattle.sm_importing.proofs.ImportLaws.{thin_some}
use Rattle.sm_importing.proofs.RoomLaws.{least_enough, made_long, room_made, room_split}

put_of : ℕ → List ℕ → Put
put_of sector bytes = record { sector = sector; bytes = bytes }

-- what a sector holds once one of them was put
filled_put : (puts : List Put) (sector : ℕ) (bytes : List ℕ) (old new : ℕ → List ℕ) → IsPut sector bytes old new → ((k : ℕ) → old k ≡ filled puts k) → (k : ℕ) → new k ≡ filled (put_of sector bytes ∷ puts) k
unfolding filled put_of
filled_put puts sector bytes old new put h k = ⊎_elim
    (λ (same : k ≡ sector). let here : (sector == k) ≡ true = grind (arith, nat_tests) in
    ap new same ∙ put.here ∙ sym (ap (λ b. if b then bytes else filled puts k) here))
    (λ (other : k ≢ sector). let away : (sector == k) ≡ false = grind (arith, nat_tests) in
    put.others k other ∙ h k ∙ sym (ap (λ b. if b then bytes else filled puts k) away))
    (cases_eq k sector)

module _ {S : Type 0} {g : Ghosts S} where
  -- ---- what the image holds

  pub holds_put : {a d : S} {f n : Filling} (b : S) (sector : ℕ) (bytes : List ℕ) → Fills g f a → sector / f.geometry.block < f.geometry.entries
      → (g.told → HoldsSame (held_now g f a) (held_now g f b)) → (g.told → IsPut sector bytes (held_now g f b) (held_now g n d)) → n.geometry ≡ f.geometry
      → ((TakesSlot f sector bytes → ⊥) → n.map ≡ f.map) → (TakesSlot f sector bytes → n.map ≡ with_slot (sector / f.geometry.block) f.map)
      → (t : Target) (puts : List Put) → HoldsPuts g f a t puts → HoldsPuts g n d t (record { sector = sector; bytes = bytes } ∷ puts)
  unfolding put_of
  holds_put {a} {d} {f} {n} b sector bytes fills within same put sizes kept more t puts h = record {
    held = λ told. filled_put puts sector bytes (held_now g f b) (held_now g n d) (put told) (λ k. same told k ∙ h.held told k);
    blocks = ⊎_elim
        (λ takes. blocks_more f n t puts sector bytes sizes h.blocks fills.sound within takes (more takes))
        (λ none. blocks_same f n t puts sector bytes sizes h.blocks none (kept none))
        (takes_or_not f sector bytes);
  }

  -- ---- what it asks for

  -- the extents that are free beside those of the volume
  free_is : {s : S} {m : Memory} {u : List ℕ} {f : Filling} → IsFilled g s m u f → room_for g s u ≡ length (free_of (g.site s).count (tab g s)) + thin_in (g.site s) (slots_taken f)
  free_is {s} {u = u} h =
      let v = h.importing.volume in
      let own = ap (λ o. length (extents_of o)) (sym v.there) ∙ h.extents in
      omega (arith, room_split (g.site s).count (tab g s) (Vhd u) v.row h.importing.orderly.table v.there, own)

  module _ {s : S} {m : Memory} {u : List ℕ} {f : Filling} (h : IsFilled g s m u f) (sector : ℕ) (bytes : List ℕ) (within : sector / f.geometry.block < f.geometry.entries) (puts : List Put)
      (holds : HoldsPuts g f s (target_of f.geometry (room_for g s u)) puts) where
    abbrev t : Target
    t = target_of f.geometry (room_for g s u)

    abbrev p : Put
    p = record { sector = sector; bytes = bytes }

    abbrev k : ℕ
    k = slots_taken f

    before : slots_of t puts ≡ k
    before = slots_are f t puts h.fills.sound.entries holds.blocks

    after_none : (TakesSlot f sector bytes → ⊥) → slots_of t (p ∷ puts) ≡ k
    after_none none = slots_are f t (p ∷ puts) h.fills.sound.entries (blocks_same f f t puts sector bytes refl holds.blocks none refl)

    after_more : TakesSlot f sector bytes → slots_of t (p ∷ puts) ≡ k + 1
    after_more takes =
        let b = sector / f.geometry.block in
        let sound = h.fills.sound in
        let n : Filling = record f { map = with_slot b f.map } in
        let long : length n.map ≡ n.geometry.entries = ap length (with_slot-new b f.map takes.1) ∙ length-set f.map b (Some k) ∙ sound.entries in
        slots_are n t (p ∷ puts) long (blocks_more f n t puts sector bytes refl holds.blocks sound within takes refl) ∙ with_slot-count b f.map (omega (arith, within, sound.entries)) takes.1

    needs : (j : ℕ) → extents_for t j ≡ thin_in (g.site s) j
    needs j = ap (λ (z : Geometry). thin z.extent z.block z.entries j) (sym h.fills.sizes)

    left : t.free - extents_for t k ≡ length (free_of (g.site s).count (tab g s))
    left = omega (arith, free_is h, needs k)

    -- there is enough
    pub asks_room : (TakesSlot f sector bytes → thin_in (g.site s) (k + 1) - thin_in (g.site s) k ≤ length (free_of (g.site s).count (tab g s))) → put_lacks t p puts ≡ None
    asks_room enough = ⊎_elim
        (λ takes. let e = enough takes in asks_enough t p puts k before (k + 1) (after_more takes) (omega (arith, e, needs k, needs (k + 1), left)))
        (λ none. asks_nothing t p puts k before (after_none none))
        (takes_or_not f sector bytes)

    -- there is too little
    pub asks_lack : (fault : RoomFault) → TakesSlot f sector bytes → IsLack (thin_in (g.site s) (k + 1) - thin_in (g.site s) k) (length (free_of (g.site s).count (tab g s))) fault
        → AnswersRoom (put_lacks t p puts) (Err (put_fault fault))
    asks_lack (NoSpace need there) takes lack =
        let short : t.free - extents_for t k < extents_for t (k + 1) - extents_for t k = omega (arith, lack.0, lack.1, lack.2, needs k, needs (k + 1), left) in
        let one : extents_for t (k + 1) - extents_for t k ≡ need = omega (arith, lack.0, needs k, needs (k + 1)) in
        let two : t.free - extents_for t k ≡ there = left ∙ sym lack.1 in
        asks_more t p puts k before (k + 1) (after_more takes) short ∙ ap₂ (λ x y. Some (refusal.NoSpace x y)) one two
    asks_lack NoMemory takes lack = tt
    asks_lack Device takes lack = tt

  -- ---- the volume is made

  module _ {a : S} {m : Memory} {u : List ℕ} {f : Filling} {room : ℕ} (h : IsToBegin g a m u f room) (sizes : Geometry) (same_sizes : sizes ≡ f.geometry) where
    begin_needs : extents_for (target_of sizes room) 0 ≡ thin_in (g.site a) 0
    begin_needs = ap (λ (z : Geometry). thin z.extent z.block z.entries 0) (same_sizes ∙ sym h.sizes)

    pub begin_lack : (fault : RoomFault) → IsLack (thin_in (g.site a) 0) (length (free_of (g.site a).count (tab g a))) fault → AnswersRoom (begin_lacks (target_of sizes room)) (Err (put_fault fault))
    unfolding begin_lacks
    begin_lack (NoSpace need there) lack =
        let need_is : extents_for (target_of sizes room) 0 ≡ need = begin_needs ∙ sym lack.0 in
        let room_is : room ≡ there = h.room_is ∙ sym lack.1 in
        lacks_some (extents_for (target_of sizes room) 0) room (omega (arith, need_is, room_is, lack.2)) ∙ ap₂ (λ x y. Some (refusal.NoSpace x y)) need_is room_is
    begin_lack NoMemory lack = tt
    begin_lack Device lack = tt

    module _ {b : S} (site : g.site b ≡ g.site a) (importing : IsImporting g b m u) (w : IsBegun (g.site a).count (thin_in (g.site a) 0) (tab g a) (Vhd u) (tab g b))
        (others : without (Vhd u) (tab g b).volumes ≡ (tab g a).volumes) where
      pub begin_enough : begin_lacks (target_of sizes room) ≡ None
      unfolding begin_lacks
      begin_enough =
          let n = least_enough (g.site a).count (thin_in (g.site a) 0) (tab g a) w.extents w.least in
          lacks_none (extents_for (target_of sizes room) 0) room (omega (arith, n, begin_needs, h.room_is))

      pub begun_filled : IsFilled g b m u f
      begun_filled =
          let v = importing.volume in
          let long = made_long (tab g a) (tab g b) (Vhd u) (made (Vhd u) true w.extents) v.row (ap (λ (x : VolumeTable). x.volumes) w.made) others v.there in
          record {
            importing = importing;
            fills = record { sound = h.blank.sound; sizes = ap (λ (x : Site). x.geometry) site ∙ h.sizes; marked = λ told. h.blank.bitmaps _ };
            volume = h.volume;
            extents = ap (λ o. length (extents_of o)) v.there ∙ long ∙ w.least.many ∙ ap₂ (λ (x : Site) (j : ℕ). thin_in x j) (sym site) (sym h.blank.slots);
          }

      -- its one commit gave it an extent at least
      pub begun_few : HasCommits 1 (tab g a) (tab g b) → HasCommits (extents_of_volume (tab g b) (Vhd u)) (tab g a) (tab g b)
      begun_few one =
          let many = begun_filled.extents in
          let some = thin_some (g.site b) (slots_taken f) in
          omega (arith, one, many, some)

      pub begun_room : room ≡ room_for g b u
      begun_room = h.room_is ∙ sym (ap (λ (x : Site). room_beside x.count (tab g b) (Vhd u)) site ∙ room_made (g.site a).count (tab g a) (tab g b) (Vhd u) h.session.orderly.table others)

      pub begun_holds : HoldsPuts g f b (target_of sizes room) []
      unfolding filled
      begun_holds = record {
        held = λ told k. h.blank.held (reads (held_in (stored g b) f.volume)) k;
        blocks = record {
          block = ap (λ (z : Geometry). z.block) same_sizes;
          entries = ap (λ (z : Geometry). z.entries) same_sizes;
          blocks = λ b. ap is_some (ap (λ x. slot_of x b) h.blank.map ∙ slot_of-replicate f.geometry.entries b);
        };
      }
