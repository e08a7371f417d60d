use Rattle.std.proofs.Common.{◌≡◌, ◌+◌, length, ap, refl, rules, arith}
use Rattle.sm_base.specs.declared.sizes.Geometry.{Geometry}
use Rattle.sm_disk.proofs.ReachesLaws.{Reaches-then}
use Rattle.vhd_map.specs.Slots.{least_free_slot}
use Rattle.vg_volumes.specs.Stored.{stored}
use Rattle.vg_volumes.proofs.StoredLaws.{works_then, size_stays}
use Rattle.vhd_volumes.specs.Truth.{layout_now}
use Rattle.vhd_write.proofs.BitLaws.{place-low, sector-whole}
use Rattle.vhd_write.proofs.MapLaws.{least-below}
use Rattle.vhd_write.specs.Payloads.{piece_of}
use Rattle.vhd_write.proofs.PayloadLaws.{length-piece}
use Rattle.vhd_write.proofs.PartLaws.{place-low-enough, place_is, new-slot-in, part-whole, part-bitmap, part-data, slot-filled}
use Rattle.vhd_write.proofs.blocks.put_new.Goals as goal

-- ---- the slot has room

pub place_of-at-requires-clause-slot : goal.place_of-at-requires-clause-slot
place_of-at-requires-clause-slot g c =
    let low = least-below c.args.map.now c.args.block c.requires.without c.requires.within in
    omega (arith, low, c.least_free-slot.ensures.least, c.requires.entries, ap (λ (x : Geometry). x.entries) c.geometry-geometry.ensures)

pub place_of-data-requires-clause-slot : goal.place_of-data-requires-clause-slot
place_of-data-requires-clause-slot g c =
    let low = least-below c.args.map.now c.args.block c.requires.without c.requires.within in
    omega (arith, low, c.least_free-slot.ensures.least, c.requires.entries, ap (λ (x : Geometry). x.entries) c.geometry-geometry.ensures)

pub put-requires-2-clause-slot_in : goal.put-requires-2-clause-slot_in
put-requires-2-clause-slot_in g c =
    let low = least-below c.args.map.now c.args.block c.requires.without c.requires.within in
    omega (arith, low, c.least_free-slot.ensures.least)

pub put-requires : goal.put-requires
put-requires g c =
    let l = layout_now (stored g.S.Store c.args.store.now) c.args.head.now in
    let k = least_free_slot c.args.map.now in
    let is = place_is c.place_of-at.result _ (g.S.Store.site c.args.store.now).geometry _ k 0 c.place_of-at.ensures c.geometry-geometry.ensures c.least_free-slot.ensures.least in
    let below = new-slot-in l c.args.map.now c.args.block c.requires.without c.requires.within c.requires.room in
    let short : length c.bitmap_of-bitmap.result ≡ 512 = search rules in
    sector-whole c.place_of-at.result _ _ (place-low l k c.place_of-at.result _ below is refl) short

pub put_piece-requires-clause-whole : goal.put_piece-requires-clause-whole
put_piece-requires-clause-whole g c =
    let l = layout_now (stored g.S.Store c.args.store.now) c.args.head.now in
    let k = least_free_slot c.args.map.now in
    let there = place_is c.place_of-data.result _ (g.S.Store.site c.args.store.now).geometry _ k (1 + c.args.part.now.first) c.place_of-data.ensures c.geometry-geometry.ensures c.least_free-slot.ensures.least in
    let below = new-slot-in l c.args.map.now c.args.block c.requires.without c.requires.within c.requires.room in
    part-whole l k (1 + c.args.part.now.first) c.args.part.now.count c.place_of-data.result _ _ below (omega (arith, c.requires.part)) c.requires.some refl there
    (size_stays c.args.head.now.volume c.put.ensures.works.stays)

pub put_piece-requires-clause-low : goal.put_piece-requires-clause-low
put_piece-requires-clause-low g c =
    let low = least-below c.args.map.now c.args.block c.requires.without c.requires.within in
    place-low-enough c.geometry-geometry.result c.least_free-slot.result (1 + c.args.part.now.first) c.args.part.now.count c.place_of-data.result c.place_of-data.ensures
    (omega (arith, low, c.least_free-slot.ensures.least, c.requires.entries, ap (λ (x : Geometry). x.entries) c.geometry-geometry.ensures))
    (omega (arith, c.requires.part, ap (λ (x : Geometry). x.block) c.geometry-geometry.ensures))

-- ---- what the two writes leave

pub returns-in_err-put_piece-clause-works : goal.returns-in_err-put_piece-clause-works
returns-in_err-put_piece-clause-works g c = works_then c.put.ensures.works c.put_piece.ensures.works

pub returns-clause-works : goal.returns-clause-works
returns-clause-works g c = works_then c.put.ensures.works c.put_piece.ensures.works

pub returns-in_err-put-clause-reaches : goal.returns-in_err-put-clause-reaches
returns-in_err-put-clause-reaches g c = λ told.
    let l = layout_now (stored g.S.Store c.args.store.now) c.args.head.now in
    let k = least_free_slot c.args.map.now in
    let is = place_is c.place_of-at.result _ (g.S.Store.site c.args.store.now).geometry _ k 0 c.place_of-at.ensures c.geometry-geometry.ensures c.least_free-slot.ensures.least in
    let short : length c.bitmap_of-bitmap.result ≡ 512 = search rules in
    part-bitmap l k c.args.part.now.first c.args.part.now.count c.place_of-at.result c.bitmap_of-bitmap.result (piece_of c.args.part.now.skip c.args.part.now.count c.args.from.now) is short c.bitmap_of-bitmap.ensures.others (c.put.ensures.torn told)

pub returns-in_err-put_piece-clause-reaches : goal.returns-in_err-put_piece-clause-reaches
returns-in_err-put_piece-clause-reaches g c = λ told.
    let l = layout_now (stored g.S.Store c.args.store.now) c.args.head.now in
    let k = least_free_slot c.args.map.now in
    let is = place_is c.place_of-at.result _ (g.S.Store.site c.args.store.now).geometry _ k 0 c.place_of-at.ensures c.geometry-geometry.ensures c.least_free-slot.ensures.least in
    let there = place_is c.place_of-data.result _ (g.S.Store.site c.args.store.now).geometry _ k (1 + c.args.part.now.first) c.place_of-data.ensures c.geometry-geometry.ensures c.least_free-slot.ensures.least in
    let short : length c.bitmap_of-bitmap.result ≡ 512 = search rules in
    Reaches-then (part-bitmap l k c.args.part.now.first c.args.part.now.count c.place_of-at.result c.bitmap_of-bitmap.result (piece_of c.args.part.now.skip c.args.part.now.count c.args.from.now) is short c.bitmap_of-bitmap.ensures.others (c.put.ensures.torn told))
    (part-data l k c.args.part.now.first c.args.part.now.count c.place_of-data.result (piece_of c.args.part.now.skip c.args.part.now.count c.args.from.now) there (c.put_piece.ensures.torn told))

pub returns-clause-reaches : goal.returns-clause-reaches
returns-clause-reaches g c = λ told.
    let l = layout_now (stored g.S.Store c.args.store.now) c.args.head.now in
    let k = least_free_slot c.args.map.now in
    let is = place_is c.place_of-at.result _ (g.S.Store.site c.args.store.now).geometry _ k 0 c.place_of-at.ensures c.geometry-geometry.ensures c.least_free-slot.ensures.least in
    let there = place_is c.place_of-data.result _ (g.S.Store.site c.args.store.now).geometry _ k (1 + c.args.part.now.first) c.place_of-data.ensures c.geometry-geometry.ensures c.least_free-slot.ensures.least in
    let short : length c.bitmap_of-bitmap.result ≡ 512 = search rules in
    Reaches-then (part-bitmap l k c.args.part.now.first c.args.part.now.count c.place_of-at.result c.bitmap_of-bitmap.result (piece_of c.args.part.now.skip c.args.part.now.count c.args.from.now) is short c.bitmap_of-bitmap.ensures.others (c.put.ensures.torn told))
    (part-data l k c.args.part.now.first c.args.part.now.count c.place_of-data.result (piece_of c.args.part.now.skip c.args.part.now.count c.args.from.now) there (c.put_piece.ensures.torn told))

pub returns-clause-done : goal.returns-clause-done
returns-clause-done g c = λ told.
    let l = layout_now (stored g.S.Store c.args.store.now) c.args.head.now in
    let k = least_free_slot c.args.map.now in
    let is = place_is c.place_of-at.result _ (g.S.Store.site c.args.store.now).geometry _ k 0 c.place_of-at.ensures c.geometry-geometry.ensures c.least_free-slot.ensures.least in
    let there = place_is c.place_of-data.result _ (g.S.Store.site c.args.store.now).geometry _ k (1 + c.args.part.now.first) c.place_of-data.ensures c.geometry-geometry.ensures c.least_free-slot.ensures.least in
    let short : length c.bitmap_of-bitmap.result ≡ 512 = search rules in
    slot-filled l k c.place_of-at.result c.place_of-data.result c.args.part.now.first c.args.part.now.count c.bitmap_of-bitmap.result (piece_of c.args.part.now.skip c.args.part.now.count c.args.from.now) is there short (length-piece c.args.part.now.skip c.args.part.now.count c.args.from.now c.requires.inside)
    c.bitmap_of-bitmap.ensures.set c.bitmap_of-bitmap.ensures.others (c.in_ok-put.ensures.wrote told) (c.in_ok-put_piece.ensures.wrote told)
