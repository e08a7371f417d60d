use Rattle.std.proofs.Common.{◌≡◌, ℕ, ◌+◌, ◌*◌, ◌<◌, ◌≤◌, true, refl, sym, ◌∙◌, arith}
use Rattle.sm_disk.specs.Held.{IsIn, reads}
use Rattle.vhd_map.specs.Slots.{slot_of}
use Rattle.sm_disk.proofs.HeldLaws.{reads-same}
use Rattle.std.proofs.lemmas.Option.{same_Some}
use Rattle.vhd_map.specs.Bitmaps.{is_set}
use Rattle.vg_volumes.specs.Stored.{stored, held_in}
use Rattle.vg_volumes.proofs.StoredLaws.{works_then, size_stays}
use Rattle.vhd_volumes.specs.Truth.{layout_now}
use Rattle.vhd_write.proofs.PartLaws.{place_is, part_as, slot-in}
use Rattle.vhd_write.proofs.BitLaws.{place-low, sector-whole, part-touches, bits-all, bits-more, bitmap-reaches, bitmap-done, bitmap-wrote}
use Rattle.vhd_write.proofs.finish.set_bitmap.Goals as goal

pub get-requires : goal.get-requires
get-requires g c =
    let l = layout_now (stored g.S.Store c.args.store.now) c.args.head.now in
    let s = c.args.span.now in
    let p = c.part_of-part.result in
    let slot = c.in-Some.slot in
    let has = sym c.in-Some.ensures.slot in
    let part = part_as {len' = 512 * s.count} c.part_of-part.ensures c.requires.sizes refl in
    let is = place_is c.place_of-at.result _ (g.S.Store.site c.args.store.now).geometry slot slot 0 c.place_of-at.ensures c.geometry.ensures refl in
    let below = slot-in l c.args.map.now c.args.block slot has c.requires.room in
    place-low l slot c.place_of-at.result _ below is refl

pub returns-then-slot-fresh-clause-done : goal.returns-then-slot-fresh-clause-done
returns-then-slot-fresh-clause-done g c = λ told k has. c.requires.set told k has (omega (arith, c.if-slot-fresh.true, same_Some c.in-Some.slot k (c.in-Some.ensures.slot ∙ has)))

pub returns-then-has_bits-clause-done : goal.returns-then-has_bits-clause-done
returns-then-has_bits-clause-done g c = λ told.
    let l = layout_now (stored g.S.Store c.args.store.now) c.args.head.now in
    let s = c.args.span.now in
    let p = c.part_of-part.result in
    let slot = c.in-Some.slot in
    let has = sym c.in-Some.ensures.slot in
    let part = part_as {len' = 512 * s.count} c.part_of-part.ensures c.requires.sizes refl in
    let is = place_is c.place_of-at.result _ (g.S.Store.site c.args.store.now).geometry slot slot 0 c.place_of-at.ensures c.geometry.ensures refl in
    let below = slot-in l c.args.map.now c.args.block slot has c.requires.room in
    let set : (i : ℕ) → p.first ≤ i → i < p.first + p.count → is_set c.in_ok-bitmap.bitmap i ≡ true = c.if-has_bits.ensures.all in
    let read : reads (held_in (stored g.S.Store c.get.new.store) c.args.head.now.volume) c.place_of-at.result ≡ c.in_ok-bitmap.bitmap = reads-same (c.get.ensures.same told) c.place_of-at.result ∙ sym (c.in_ok-bitmap.ensures.gave told) in
    bitmap-done l (IsIn s.sector (512 * s.count)) c.args.block slot c.place_of-at.result (slot_of c.args.map.now c.args.block) (reads (held_in (stored g.S.Store c.get.new.store) c.args.head.now.volume)) c.in_ok-bitmap.bitmap has is read
    (bits-all l c.args.block s.sector (512 * s.count) p.first p.count p.skip part c.in_ok-bitmap.bitmap set)

pub put-requires : goal.put-requires
put-requires g c =
    let l = layout_now (stored g.S.Store c.args.store.now) c.args.head.now in
    let s = c.args.span.now in
    let p = c.part_of-part.result in
    let slot = c.in-Some.slot in
    let has = sym c.in-Some.ensures.slot in
    let part = part_as {len' = 512 * s.count} c.part_of-part.ensures c.requires.sizes refl in
    let is = place_is c.place_of-at.result _ (g.S.Store.site c.args.store.now).geometry slot slot 0 c.place_of-at.ensures c.geometry.ensures refl in
    let below = slot-in l c.args.map.now c.args.block slot has c.requires.room in
    let low = place-low l slot c.place_of-at.result _ below is refl in
    sector-whole c.place_of-at.result _ _ (omega (arith, low, size_stays c.args.head.now.volume c.get.ensures.works.stays)) c.set_bits.array_long

pub returns-in_err-put-clause-works : goal.returns-in_err-put-clause-works
returns-in_err-put-clause-works g c = works_then c.get.ensures.works c.put.ensures.works

pub returns-clause-works : goal.returns-clause-works
returns-clause-works g c = works_then c.get.ensures.works c.put.ensures.works

pub returns-in_err-put-clause-reaches : goal.returns-in_err-put-clause-reaches
returns-in_err-put-clause-reaches g c = λ told.
    let l = layout_now (stored g.S.Store c.args.store.now) c.args.head.now in
    let s = c.args.span.now in
    let p = c.part_of-part.result in
    let slot = c.in-Some.slot in
    let has = sym c.in-Some.ensures.slot in
    let part = part_as {len' = 512 * s.count} c.part_of-part.ensures c.requires.sizes refl in
    let is = place_is c.place_of-at.result _ (g.S.Store.site c.args.store.now).geometry slot slot 0 c.place_of-at.ensures c.geometry.ensures refl in
    let below = slot-in l c.args.map.now c.args.block slot has c.requires.room in
    bitmap-reaches l (IsIn s.sector (512 * s.count)) c.args.block slot c.place_of-at.result (slot_of c.args.map.now c.args.block) c.in_ok-bitmap.bitmap c.set_bits.new.bitmap (part-touches l c.args.block s.sector (512 * s.count) p.first p.count p.skip part) has is c.set_bits.array_long (c.in_ok-bitmap.ensures.gave told)
    (bits-more l c.args.block s.sector (512 * s.count) p.first p.count p.skip part c.in_ok-bitmap.bitmap c.set_bits.new.bitmap c.set_bits.ensures.set c.set_bits.ensures.others) (c.get.ensures.same told) (c.put.ensures.torn told)

pub returns-clause-reaches : goal.returns-clause-reaches
returns-clause-reaches g c = λ told.
    let l = layout_now (stored g.S.Store c.args.store.now) c.args.head.now in
    let s = c.args.span.now in
    let p = c.part_of-part.result in
    let slot = c.in-Some.slot in
    let has = sym c.in-Some.ensures.slot in
    let part = part_as {len' = 512 * s.count} c.part_of-part.ensures c.requires.sizes refl in
    let is = place_is c.place_of-at.result _ (g.S.Store.site c.args.store.now).geometry slot slot 0 c.place_of-at.ensures c.geometry.ensures refl in
    let below = slot-in l c.args.map.now c.args.block slot has c.requires.room in
    bitmap-reaches l (IsIn s.sector (512 * s.count)) c.args.block slot c.place_of-at.result (slot_of c.args.map.now c.args.block) c.in_ok-bitmap.bitmap c.set_bits.new.bitmap (part-touches l c.args.block s.sector (512 * s.count) p.first p.count p.skip part) has is c.set_bits.array_long (c.in_ok-bitmap.ensures.gave told)
    (bits-more l c.args.block s.sector (512 * s.count) p.first p.count p.skip part c.in_ok-bitmap.bitmap c.set_bits.new.bitmap c.set_bits.ensures.set c.set_bits.ensures.others) (c.get.ensures.same told) (c.put.ensures.torn told)

pub returns-clause-done : goal.returns-clause-done
returns-clause-done g c = λ told.
    let l = layout_now (stored g.S.Store c.args.store.now) c.args.head.now in
    let s = c.args.span.now in
    let p = c.part_of-part.result in
    let slot = c.in-Some.slot in
    let has = sym c.in-Some.ensures.slot in
    let part = part_as {len' = 512 * s.count} c.part_of-part.ensures c.requires.sizes refl in
    let is = place_is c.place_of-at.result _ (g.S.Store.site c.args.store.now).geometry slot slot 0 c.place_of-at.ensures c.geometry.ensures refl in
    let below = slot-in l c.args.map.now c.args.block slot has c.requires.room in
    bitmap-done l (IsIn s.sector (512 * s.count)) c.args.block slot c.place_of-at.result (slot_of c.args.map.now c.args.block) (reads (held_in (stored g.S.Store c.put.new.store) c.args.head.now.volume)) c.set_bits.new.bitmap has is (bitmap-wrote c.place_of-at.result c.set_bits.new.bitmap c.set_bits.array_long (c.in_ok-put.ensures.wrote told))
    (bits-all l c.args.block s.sector (512 * s.count) p.first p.count p.skip part c.set_bits.new.bitmap c.set_bits.ensures.set)
