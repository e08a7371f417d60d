use Rattle.std.proofs.Common.{◌≡◌, ◌<◌, ◌+◌, ◌/◌, ◌%◌, Some, length, sym, ap, ◌∙◌, rules, arith}
use Rattle.sm_base.specs.declared.sizes.Geometry.{Geometry}
use Rattle.sm_disk.specs.Held.{reads}
use Rattle.vhd_layout.specs.Layouts.{place}
use Rattle.vhd_layout.proofs.ImageLaws.{place-part}
use Rattle.vg_volumes.specs.Stored.{stored, sectors_in, held_in}
use Rattle.vhd_volumes.specs.Truth.{layout_in}
use Rattle.vhd_image.proofs.ContentLaws.{is-layout, part-in, geometry-ok, place-read, block-read, part-small}
use Rattle.vhd_image.proofs.RunLaws.{run-held, gave-one}
use Rattle.vhd_image.proofs.reading.own_bytes.Goals as goal

pub overflow_add-place : goal.overflow_add-place
overflow_add-place g c =
    let e = c.geometry-geometry.ensures in
    let ok = c.geometry-geometry.result.in_range in
    let entries : c.geometry-geometry.result.entries ≡ (g.S.Store.site c.args.store.now).geometry.entries = ap (λ (x : Geometry). x.entries) e in
    let low = c.in-Some.ensures.map.below (c.args.sector / c.geometry-geometry.result.block) c.in-Some.slot (sym c.in-Some.ensures.slot) in
    let small = part-small c.geometry-geometry.result c.in-Some.slot ok (omega (arith, low, entries, c.requires.stands.entries)) in
    omega (arith, small, c.slot_place-place.ensures.place)

pub overflow_add-place-2 : goal.overflow_add-place-2
overflow_add-place-2 g c =
    let e = c.geometry-geometry.ensures in
    let ok = c.geometry-geometry.result.in_range in
    let entries : c.geometry-geometry.result.entries ≡ (g.S.Store.site c.args.store.now).geometry.entries = ap (λ (x : Geometry). x.entries) e in
    let low = c.in-Some.ensures.map.below (c.args.sector / c.geometry-geometry.result.block) c.in-Some.slot (sym c.in-Some.ensures.slot) in
    let small = part-small c.geometry-geometry.result c.in-Some.slot ok (omega (arith, low, entries, c.requires.stands.entries)) in
    let part : c.args.sector % c.geometry-geometry.result.block < c.geometry-geometry.result.block = omega (arith, ok.block_least) in
    omega (arith, small, c.slot_place-place.ensures.place, ok.block_most, part)

pub get_sectors-requires : goal.get_sectors-requires
get_sectors-requires g c =
    let e = c.geometry-geometry.ensures in
    let ok = geometry-ok e c.geometry-geometry.result.in_range in
    let geometry = (g.S.Store.site c.args.store.now).geometry in
    let n = sectors_in (stored g.S.Store c.args.store.now) c.args.head.now.volume in
    let l = layout_in geometry c.args.head.now.footer n in
    let k = c.in-Some.slot in
    let s = c.args.sector in
    let count = length c.args.to.now / 512 in
    let has = block-read c.args.map.now s (Some k) e c.in-Some.ensures.slot in
    let part : s % geometry.block ≡ s % c.geometry-geometry.result.block = ap (λ (x : Geometry). s % x.block) (sym e) in
    let inside = part-in geometry n c.args.head.now c.args.map.now ok c.requires.stands (s / geometry.block) k (s % geometry.block + count) has (omega (arith, c.requires.in_slot.0)) in
    let last = place-part l k (s % geometry.block + count) in
    record {
      some = c.requires.whole.some;
      whole = c.requires.whole.whole;
      within = omega (arith, inside, last, part, c.slot_place-place.ensures.place, place-read k e, c.requires.whole.whole);
    }

pub returns-clause-gave : goal.returns-clause-gave
returns-clause-gave g c = λ told j below.
    let e = c.geometry-geometry.ensures in
    let ok = geometry-ok e c.geometry-geometry.result.in_range in
    let geometry = (g.S.Store.site c.args.store.now).geometry in
    let n = sectors_in (stored g.S.Store c.args.store.now) c.args.head.now.volume in
    let h = held_in (stored g.S.Store c.args.store.now) c.args.head.now.volume in
    let l = layout_in geometry c.args.head.now.footer n in
    let k = c.in-Some.slot in
    let s = c.args.sector in
    let long : length c.get_sectors.new.to ≡ length c.args.to.now = search rules in
    let nth : j < length c.args.to.now / 512 = omega (arith, below, long, c.requires.whole.whole) in
    let has = block-read c.args.map.now s (Some k) e c.in-Some.ensures.slot in
    let part : s % geometry.block ≡ s % c.geometry-geometry.result.block = ap (λ (x : Geometry). s % x.block) (sym e) in
    let held = run-held l (reads h) c.args.head.now.footer c.args.head.now.header _ s (is-layout geometry c.args.head.now.footer n ok) (c.requires.true_now told).now k j
    (omega (arith, c.requires.in_slot.0, nth)) (omega (arith, c.requires.whole.within, nth)) has (c.requires.held told j nth) in
    let at : place l k (1 + (s % geometry.block + j)) ≡ c.slot_place-place.result + 1 + s % c.geometry-geometry.result.block + j = omega (arith, part, c.slot_place-place.ensures.place, place-read k e, place-part l k (1 + (s % geometry.block + j))) in
    held ∙ ap Some (gave-one _ h c.get_sectors.new.to j _ (c.in_ok-get_sectors.ensures.gave told) below at)
