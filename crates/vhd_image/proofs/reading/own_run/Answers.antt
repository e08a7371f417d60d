use Rattle.std.proofs.Common.{◌≡◌, ℕ, ◌<◌, ◌+◌, ◌/◌, ◌%◌, Some, None, List, sym, ap, ◌∙◌, arith}
use Rattle.std.specs.Prelude.{is_some}
use Rattle.sm_base.specs.declared.sizes.Geometry.{Geometry}
use Rattle.sm_disk.specs.Held.{reads}
use Rattle.vhd_map.specs.Bitmaps.{is_set}
use Rattle.vhd_map.specs.Slots.{slot_of}
use Rattle.vhd_layout.specs.Layouts.{place}
use Rattle.vg_volumes.specs.Stored.{stored, sectors_in, held_in}
use Rattle.vhd_volumes.specs.Truth.{layout_in}
use Rattle.vhd_volumes.specs.Writes.{own_in}
use Rattle.vhd_image.specs.Runs.{in_block}
use Rattle.vhd_image.proofs.ContentLaws.{is-layout, part-in, geometry-ok, place-read, block-read}
use Rattle.vhd_image.proofs.RunLaws.{run-no_slot, run-bit}
use Rattle.vhd_image.proofs.reading.own_run.Goals as goal

pub returns-in_default-clause-run : goal.returns-in_default-clause-run
returns-in_default-clause-run g c = λ told.
    let e = c.geometry-geometry.ensures in
    let ok = geometry-ok e c.geometry-geometry.result.in_range in
    let geometry = (g.S.Store.site c.args.store.now).geometry in
    let n = sectors_in (stored g.S.Store c.args.store.now) c.args.head.now.volume in
    let h = held_in (stored g.S.Store c.args.store.now) c.args.head.now.volume in
    let l = layout_in geometry c.args.head.now.footer n in
    let s = c.args.sector in
    let none : slot_of c.args.map.now (s / geometry.block) ≡ None = block-read c.args.map.now s None e c.in_default.ensures.slot in
    let block : geometry.block ≡ c.geometry-geometry.result.block = ap (λ (x : Geometry). x.block) (sym e) in
    let part : s % geometry.block ≡ s % c.geometry-geometry.result.block = ap (λ (x : Geometry). s % x.block) (sym e) in
    let within : c.min-within.result ≡ in_block geometry.block s c.args.most = omega (arith, c.min-within.ensures, block, part) in
    record {
      alike = λ j below. ap is_some (run-no_slot l (reads h) c.args.head.now.footer c.args.head.now.header _ s (is-layout geometry c.args.head.now.footer n ok) (c.requires.true_now told).now j (omega (arith, within)) (omega (arith, within)) none);
      longest = λ few. absurd (omega (arith, within));
    }

pub sector_of-requires : goal.sector_of-requires
sector_of-requires g c =
    let e = c.geometry-geometry.ensures in
    let ok = geometry-ok e c.geometry-geometry.result.in_range in
    let geometry = (g.S.Store.site c.args.store.now).geometry in
    let n = sectors_in (stored g.S.Store c.args.store.now) c.args.head.now.volume in
    let has = block-read c.args.map.now c.args.sector (Some c.in-Some.slot) e c.in-Some.ensures.slot in
    let inside = part-in geometry n c.args.head.now c.args.map.now ok c.requires.stands (c.args.sector / geometry.block) c.in-Some.slot 0 has (omega arith) in
    omega (arith, inside, c.slot_place.ensures.place, place-read c.in-Some.slot e)

pub returns-clause-run : goal.returns-clause-run
returns-clause-run g c = λ told.
    let e = c.geometry-geometry.ensures in
    let ok = geometry-ok e c.geometry-geometry.result.in_range in
    let geometry = (g.S.Store.site c.args.store.now).geometry in
    let n = sectors_in (stored g.S.Store c.args.store.now) c.args.head.now.volume in
    let h = held_in (stored g.S.Store c.args.store.now) c.args.head.now.volume in
    let l = layout_in geometry c.args.head.now.footer n in
    let k = c.in-Some.slot in
    let s = c.args.sector in
    let run = c.marked_run.result in
    let has = block-read c.args.map.now s (Some k) e c.in-Some.ensures.slot in
    let bits : c.in_ok-bits.bits ≡ reads h (place l k 0) = c.in_ok-bits.ensures.gave told ∙ ap (reads h) (c.slot_place.ensures.place ∙ place-read k e) in
    let block : geometry.block ≡ c.geometry-geometry.result.block = ap (λ (x : Geometry). x.block) (sym e) in
    let part : s % geometry.block ≡ s % c.geometry-geometry.result.block = ap (λ (x : Geometry). s % x.block) (sym e) in
    let within : c.min-within.result ≡ in_block geometry.block s c.args.most = omega (arith, c.min-within.ensures, block, part) in
    let bit : (j : ℕ) → s % geometry.block + j < geometry.block → j < c.args.most → is_some (own_in l (reads h) (s + j)) ≡ is_set c.in_ok-bits.bits (s % c.geometry-geometry.result.block + j) = λ j inside few.
    run-bit l (reads h) c.args.head.now.footer c.args.head.now.header _ s (is-layout geometry c.args.head.now.footer n ok) (c.requires.true_now told).now k j inside (omega (arith, few)) has
    ∙ ap (λ (b : List ℕ). is_set b (s % geometry.block + j)) (sym bits)
    ∙ ap (λ (p : ℕ). is_set c.in_ok-bits.bits (p + j)) part in
    record {
      alike = λ j below. bit j (omega (arith, within)) (omega (arith, within)) ∙ c.marked_run.ensures.alike j below;
      longest = λ few. bit run.sectors (omega (arith, within, few)) (omega (arith, within, few)) ∙ c.marked_run.ensures.longest (omega (arith, within, few));
    }
