use Rattle.std.proofs.Common.{◌≡◌, ◌+◌, ◌<◌, None, refl, sym, ap, ◌∙◌, inl, inr, rules, arith}
use Rattle.sm_base.specs.declared.sizes.Geometry.{Geometry}
use Rattle.sm_disk.proofs.ReachesLaws.{Reaches-wider}
use Rattle.vhd_map.specs.Slots.{slot_of, least_free_slot}
use Rattle.vg_volumes.specs.Stored.{stored}
use Rattle.vhd_volumes.specs.Truth.{layout_now}
use Rattle.vhd_write.proofs.MapLaws.{with_block-held, with_block-new}
use Rattle.vhd_write.proofs.PartLaws.{place-low-enough, place_is, part_as, held-slot-in, part-whole, held-puts, held-data, held-put, new-puts, new-put}
use Rattle.vhd_write.proofs.blocks.put_block.Goals as goal

pub put_piece-requires-clause-whole : goal.put_piece-requires-clause-whole
put_piece-requires-clause-whole g c =
    let l = layout_now (stored g.S.Store c.args.store.now) c.args.head.now in
    let p = c.part_of-part.result in
    let part = part_as c.part_of-part.ensures c.requires.sizes (sym c.requires.bytes) in
    let is = place_is c.place_of-at.result _ (g.S.Store.site c.args.store.now).geometry c.in-Some.slot c.in-Some.slot (1 + p.first) c.place_of-at.ensures c.geometry-geometry.ensures refl in
    part-whole l c.in-Some.slot (1 + p.first) p.count c.place_of-at.result _ _ (held-slot-in l c.args.map.now c.args.block c.in-Some.slot (sym c.in-Some.ensures.slot) c.requires.room) (omega (arith, part.fits)) part.some
    refl is refl

pub put_piece-requires-clause-low : goal.put_piece-requires-clause-low
put_piece-requires-clause-low g c =
    let low : c.in-Some.slot < c.geometry-geometry.result.entries = search rules in
    let part = part_as c.part_of-part.ensures c.requires.sizes (sym c.requires.bytes) in
    place-low-enough c.geometry-geometry.result c.in-Some.slot (1 + c.part_of-part.result.first) c.part_of-part.result.count c.place_of-at.result c.place_of-at.ensures low
    (omega (arith, part.fits, ap (λ (x : Geometry). x.block) c.geometry-geometry.ensures))

pub returns-in_err-put_piece-clause-reaches : goal.returns-in_err-put_piece-clause-reaches
returns-in_err-put_piece-clause-reaches g c = λ told.
    let l = layout_now (stored g.S.Store c.args.store.now) c.args.head.now in
    let p = c.part_of-part.result in
    let part = part_as c.part_of-part.ensures c.requires.sizes (sym c.requires.bytes) in
    let is = place_is c.place_of-at.result _ (g.S.Store.site c.args.store.now).geometry c.in-Some.slot c.in-Some.slot (1 + p.first) c.place_of-at.ensures c.geometry-geometry.ensures refl in
    Reaches-wider (λ q v h. inl (c.in-Some.slot, sym c.in-Some.ensures.slot, h)) (held-puts l c.args.span.now.sector c.args.from.now c.args.block p.first p.count p.skip part c.in-Some.slot c.place_of-at.result is (c.put_piece.ensures.torn told))

pub returns-in-Some-clause-put : goal.returns-in-Some-clause-put
returns-in-Some-clause-put g c = sym (with_block-held c.args.block c.args.map.now c.in-Some.slot (sym c.in-Some.ensures.slot))

pub returns-in-Some-clause-reaches : goal.returns-in-Some-clause-reaches
returns-in-Some-clause-reaches g c = λ told.
    let l = layout_now (stored g.S.Store c.args.store.now) c.args.head.now in
    let p = c.part_of-part.result in
    let part = part_as c.part_of-part.ensures c.requires.sizes (sym c.requires.bytes) in
    let is = place_is c.place_of-at.result _ (g.S.Store.site c.args.store.now).geometry c.in-Some.slot c.in-Some.slot (1 + p.first) c.place_of-at.ensures c.geometry-geometry.ensures refl in
    Reaches-wider (λ q v h. inl (c.in-Some.slot, sym c.in-Some.ensures.slot, h)) (held-puts l c.args.span.now.sector c.args.from.now c.args.block p.first p.count p.skip part c.in-Some.slot c.place_of-at.result is (c.put_piece.ensures.torn told))

pub returns-in-Some-clause-done : goal.returns-in-Some-clause-done
returns-in-Some-clause-done g c = λ told.
    let l = layout_now (stored g.S.Store c.args.store.now) c.args.head.now in
    let p = c.part_of-part.result in
    let part = part_as c.part_of-part.ensures c.requires.sizes (sym c.requires.bytes) in
    let is = place_is c.place_of-at.result _ (g.S.Store.site c.args.store.now).geometry c.in-Some.slot c.in-Some.slot (1 + p.first) c.place_of-at.ensures c.geometry-geometry.ensures refl in
    held-put l c.args.span.now.sector c.args.from.now c.args.block p.first p.count p.skip part c.in-Some.slot c.args.map.now (sym c.in-Some.ensures.slot)
    (held-data l c.args.span.now.sector c.args.from.now c.args.block p.first p.count p.skip part c.in-Some.slot c.place_of-at.result is (c.in_ok-put_piece.ensures.wrote told))

pub returns-in_err-put_new-clause-reaches : goal.returns-in_err-put_new-clause-reaches
returns-in_err-put_new-clause-reaches g c = λ told.
    let l = layout_now (stored g.S.Store c.args.store.now) c.args.head.now in
    let p = c.part_of-part.result in
    let part = part_as c.part_of-part.ensures c.requires.sizes (sym c.requires.bytes) in
    let none : slot_of c.args.map.now c.args.block ≡ None = search rules in
    Reaches-wider (λ q v h. inr (none, h)) (new-puts l c.args.span.now.sector c.args.from.now c.args.block p.first p.count p.skip part (least_free_slot c.args.map.now) (c.put_new.ensures.reaches told))

pub returns-clause-put : goal.returns-clause-put
returns-clause-put g c = let none : slot_of c.args.map.now c.args.block ≡ None = search rules in c.in_ok-put_new.ensures.put ∙ sym (with_block-new c.args.block c.args.map.now none)

pub returns-clause-reaches : goal.returns-clause-reaches
returns-clause-reaches g c = λ told.
    let l = layout_now (stored g.S.Store c.args.store.now) c.args.head.now in
    let p = c.part_of-part.result in
    let part = part_as c.part_of-part.ensures c.requires.sizes (sym c.requires.bytes) in
    let none : slot_of c.args.map.now c.args.block ≡ None = search rules in
    Reaches-wider (λ q v h. inr (none, h)) (new-puts l c.args.span.now.sector c.args.from.now c.args.block p.first p.count p.skip part (least_free_slot c.args.map.now) (c.put_new.ensures.reaches told))

pub returns-clause-done : goal.returns-clause-done
returns-clause-done g c = λ told.
    let l = layout_now (stored g.S.Store c.args.store.now) c.args.head.now in
    let p = c.part_of-part.result in
    let part = part_as c.part_of-part.ensures c.requires.sizes (sym c.requires.bytes) in
    new-put l c.args.span.now.sector c.args.from.now c.args.block p.first p.count p.skip part c.args.map.now c.put_new.new.map c.in_ok-put_new.ensures.put (omega (arith, c.requires.within, c.requires.to_end)) (c.in_ok-put_new.ensures.done told)
