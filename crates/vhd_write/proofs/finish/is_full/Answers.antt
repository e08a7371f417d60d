use Rattle.std.proofs.Common.{◌*◌, refl, sym, ap, ◌∙◌, subst}
use Rattle.sm_disk.specs.Held.{IsIn, reads}
use Rattle.vg_volumes.specs.Stored.{stored, held_in}
use Rattle.vhd_volumes.specs.Truth.{layout_now}
use Rattle.vhd_write.specs.Passes.{HasBits}
use Rattle.vhd_write.proofs.PartLaws.{place_is, part_as, slot-in}
use Rattle.vhd_write.proofs.BitLaws.{on_true, place-low, bits-all}
use Rattle.vhd_write.proofs.finish.is_full.Goals as goal

pub get-requires : goal.get-requires
get-requires g c =
    let l = layout_now (stored g.S.Store c.args.store.now) c.args.head.now in
    let s = c.args.span.now in
    let p = c.part_of-part.result in
    let slot = c.in-Some.slot in
    let has = sym c.in-Some.ensures.slot in
    let part = part_as {len' = 512 * s.count} c.part_of-part.ensures c.requires.sizes refl in
    let is = place_is c.place_of-at.result _ (g.S.Store.site c.args.store.now).geometry slot slot 0 c.place_of-at.ensures c.geometry.ensures refl in
    let below = slot-in l c.args.map.now c.args.block slot has c.requires.room in
    place-low l slot c.place_of-at.result _ below is refl

pub returns-clause-full : goal.returns-clause-full
returns-clause-full g c =
    let l = layout_now (stored g.S.Store c.args.store.now) c.args.head.now in
    let s = c.args.span.now in
    let p = c.part_of-part.result in
    let slot = c.in-Some.slot in
    let has = sym c.in-Some.ensures.slot in
    let part = part_as {len' = 512 * s.count} c.part_of-part.ensures c.requires.sizes refl in
    let is = place_is c.place_of-at.result _ (g.S.Store.site c.args.store.now).geometry slot slot 0 c.place_of-at.ensures c.geometry.ensures refl in
    let below = slot-in l c.args.map.now c.args.block slot has c.requires.room in
    on_true c.has_bits.result (λ set. (
      slot,
      has,
      λ told. subst (λ x. HasBits l (IsIn s.sector (512 * s.count)) c.args.block x)
          (c.in_ok-bitmap.ensures.gave told ∙ ap (reads (held_in (stored g.S.Store c.args.store.now) c.args.head.now.volume)) is)
          (bits-all l c.args.block s.sector (512 * s.count) p.first p.count p.skip part c.in_ok-bitmap.bitmap set),
    )) c.has_bits.ensures.all
