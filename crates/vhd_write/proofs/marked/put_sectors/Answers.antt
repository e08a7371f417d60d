use Rattle.std.proofs.Common.{◌≡◌, ◌/◌, ◌<◌, length, refl, sym, ap, ◌∙◌, inr, subst₂, arith}
use Rattle.sm_base.specs.declared.sizes.Geometry.{Geometry}
use Rattle.sm_disk.specs.Held.{Reaches, reads}
use Rattle.sm_disk.proofs.ReachesLaws.{Reaches-then}
use Rattle.vhd_map.specs.Slots.{slot_of}
use Rattle.vg_volumes.specs.Sites.{Site}
use Rattle.vg_volumes.specs.Stored.{stored, held_in}
use Rattle.vg_volumes.proofs.StoredLaws.{works_then, size_stays}
use Rattle.vhd_volumes.specs.Truth.{layout_now}
use Rattle.vhd_volumes.specs.Writes.{with_block}
use Rattle.vhd_write.specs.Marks.{HasMarked, PutsMarked}
use Rattle.vhd_write.proofs.MapLaws.{with_block-gives, with_block-good}
use Rattle.vhd_write.proofs.MarkLaws.{bitmap-puts, data-puts, data-put}
use Rattle.vhd_write.proofs.PartLaws.{place-low-enough, place_is, part-whole, slot-in}
use Rattle.vhd_write.proofs.marked.put_sectors.Goals as goal

pub place_of-at-requires-clause-slot : goal.place_of-at-requires-clause-slot
place_of-at-requires-clause-slot g c =
    let e = c.in_ok-slot.ensures.put in
    let good = with_block-good c.args.block c.args.map.now c.requires.good c.requires.within in
    let low = good.below c.args.block c.in_ok-slot.slot (ap (λ n. slot_of n c.args.block) (sym e.0) ∙ e.1) in
    let long = (with_block-gives c.args.block c.args.map.now).grown.long in
    omega (arith, low, long, c.requires.entries, ap (λ (x : Geometry). x.entries) (c.geometry-geometry.ensures ∙ ap (λ (x : Site). x.geometry) c.slot_for.ensures.works.stays.site))

pub put_marked-requires-clause-whole : goal.put_marked-requires-clause-whole
put_marked-requires-clause-whole g c =
    let l = layout_now (stored g.S.Store c.args.store.now) c.args.head.now in
    let slot = c.in_ok-slot.slot in
    let has = c.in_ok-slot.ensures.put.1 in
    let same : g.S.Store.site c.slot_for.new.store ≡ g.S.Store.site c.args.store.now = c.slot_for.ensures.works.stays.site in
    let geo : c.geometry-geometry.result ≡ (g.S.Store.site c.args.store.now).geometry = c.geometry-geometry.ensures ∙ ap (λ (x : Site). x.geometry) same in
    let is = place_is c.place_of-at.result _ (g.S.Store.site c.args.store.now).geometry slot slot 1 c.place_of-at.ensures geo refl in
    let e = c.in_ok-slot.ensures.put in
    let below = slot-in l (with_block c.args.block c.args.map.now) c.args.block slot (ap (λ n. slot_of n c.args.block) (sym e.0) ∙ e.1) c.requires.room in
    part-whole l slot 1 l.block c.place_of-at.result _ _ below (omega arith) (omega (arith, (g.S.Store.site c.args.store.now).geometry.in_range.block_least)) c.requires.long is (size_stays c.args.head.now.volume c.slot_for.ensures.works.stays)

pub put_marked-requires-clause-low : goal.put_marked-requires-clause-low
put_marked-requires-clause-low g c =
    let l = layout_now (stored g.S.Store c.args.store.now) c.args.head.now in
    let slot = c.in_ok-slot.slot in
    let has = c.in_ok-slot.ensures.put.1 in
    let same : g.S.Store.site c.slot_for.new.store ≡ g.S.Store.site c.args.store.now = c.slot_for.ensures.works.stays.site in
    let geo : c.geometry-geometry.result ≡ (g.S.Store.site c.args.store.now).geometry = c.geometry-geometry.ensures ∙ ap (λ (x : Site). x.geometry) same in
    let is = place_is c.place_of-at.result _ (g.S.Store.site c.args.store.now).geometry slot slot 1 c.place_of-at.ensures geo refl in
    let e = c.in_ok-slot.ensures.put in
    let good = with_block-good c.args.block c.args.map.now c.requires.good c.requires.within in
    let below = good.below c.args.block slot (ap (λ n. slot_of n c.args.block) (sym e.0) ∙ e.1) in
    let long = (with_block-gives c.args.block c.args.map.now).grown.long in
    let low : slot < c.geometry-geometry.result.entries = omega (arith, below, long, c.requires.entries, ap (λ (x : Geometry). x.entries) geo) in
    let fits = place-low-enough c.geometry-geometry.result slot 1 l.block c.place_of-at.result c.place_of-at.ensures low (omega (arith, ap (λ (x : Geometry). x.block) geo)) in
    omega (arith, fits, c.requires.long)

pub put_marked-requires-clause-short : goal.put_marked-requires-clause-short
put_marked-requires-clause-short g c = omega (arith, c.requires.long, (g.S.Store.site c.args.store.now).geometry.in_range.block_most)

pub returns-in_err-slot-clause-reaches : goal.returns-in_err-slot-clause-reaches
returns-in_err-slot-clause-reaches g c = λ told.
    bitmap-puts (layout_now (stored g.S.Store c.args.store.now) c.args.head.now) c.args.block c.args.marks.now c.args.bytes.now c.args.map.now (c.slot_for.ensures.reaches told)

pub returns-in_err-put_marked-clause-works : goal.returns-in_err-put_marked-clause-works
returns-in_err-put_marked-clause-works g c = works_then c.slot_for.ensures.works c.put_marked.ensures.works

pub returns-clause-works : goal.returns-clause-works
returns-clause-works g c = works_then c.slot_for.ensures.works c.put_marked.ensures.works

pub returns-in_err-put_marked-clause-either : goal.returns-in_err-put_marked-clause-either
returns-in_err-put_marked-clause-either g c = inr c.in_ok-slot.ensures.put.0

pub returns-clause-either : goal.returns-clause-either
returns-clause-either g c = inr c.in_ok-slot.ensures.put.0

pub returns-in_err-put_marked-clause-reaches : goal.returns-in_err-put_marked-clause-reaches
returns-in_err-put_marked-clause-reaches g c = λ told.
    let l = layout_now (stored g.S.Store c.args.store.now) c.args.head.now in
    let slot = c.in_ok-slot.slot in
    let has = c.in_ok-slot.ensures.put.1 in
    let same : g.S.Store.site c.slot_for.new.store ≡ g.S.Store.site c.args.store.now = c.slot_for.ensures.works.stays.site in
    let geo : c.geometry-geometry.result ≡ (g.S.Store.site c.args.store.now).geometry = c.geometry-geometry.ensures ∙ ap (λ (x : Site). x.geometry) same in
    let is = place_is c.place_of-at.result _ (g.S.Store.site c.args.store.now).geometry slot slot 1 c.place_of-at.ensures geo refl in
    let e = c.in_ok-slot.ensures.put in
    let count : length c.args.bytes.now / 512 ≡ l.block = omega (arith, c.requires.long) in
    let before = held_in (stored g.S.Store c.slot_for.new.store) c.args.head.now.volume in
    let after = held_in (stored g.S.Store c.put_marked.new.store) c.args.head.now.volume in
    Reaches-then (bitmap-puts l c.args.block c.args.marks.now c.args.bytes.now c.args.map.now (c.slot_for.ensures.reaches told))
    (data-puts l c.args.block c.args.marks.now c.args.bytes.now c.args.map.now slot c.requires.within (ap (λ n. slot_of n c.args.block) (sym e.0) ∙ e.1)
    (subst₂ (λ n p. Reaches (PutsMarked n p c.args.marks.now c.args.bytes.now) before after) count is (c.put_marked.ensures.reaches told)))

pub returns-clause-reaches : goal.returns-clause-reaches
returns-clause-reaches g c = λ told.
    let l = layout_now (stored g.S.Store c.args.store.now) c.args.head.now in
    let slot = c.in_ok-slot.slot in
    let has = c.in_ok-slot.ensures.put.1 in
    let same : g.S.Store.site c.slot_for.new.store ≡ g.S.Store.site c.args.store.now = c.slot_for.ensures.works.stays.site in
    let geo : c.geometry-geometry.result ≡ (g.S.Store.site c.args.store.now).geometry = c.geometry-geometry.ensures ∙ ap (λ (x : Site). x.geometry) same in
    let is = place_is c.place_of-at.result _ (g.S.Store.site c.args.store.now).geometry slot slot 1 c.place_of-at.ensures geo refl in
    let e = c.in_ok-slot.ensures.put in
    let count : length c.args.bytes.now / 512 ≡ l.block = omega (arith, c.requires.long) in
    let before = held_in (stored g.S.Store c.slot_for.new.store) c.args.head.now.volume in
    let after = held_in (stored g.S.Store c.put_marked.new.store) c.args.head.now.volume in
    Reaches-then (bitmap-puts l c.args.block c.args.marks.now c.args.bytes.now c.args.map.now (c.slot_for.ensures.reaches told))
    (data-puts l c.args.block c.args.marks.now c.args.bytes.now c.args.map.now slot c.requires.within (ap (λ n. slot_of n c.args.block) (sym e.0) ∙ e.1)
    (subst₂ (λ n p. Reaches (PutsMarked n p c.args.marks.now c.args.bytes.now) before after) count is (c.put_marked.ensures.reaches told)))

pub returns-clause-done : goal.returns-clause-done
returns-clause-done g c = λ told.
    let l = layout_now (stored g.S.Store c.args.store.now) c.args.head.now in
    let slot = c.in_ok-slot.slot in
    let has = c.in_ok-slot.ensures.put.1 in
    let same : g.S.Store.site c.slot_for.new.store ≡ g.S.Store.site c.args.store.now = c.slot_for.ensures.works.stays.site in
    let geo : c.geometry-geometry.result ≡ (g.S.Store.site c.args.store.now).geometry = c.geometry-geometry.ensures ∙ ap (λ (x : Site). x.geometry) same in
    let is = place_is c.place_of-at.result _ (g.S.Store.site c.args.store.now).geometry slot slot 1 c.place_of-at.ensures geo refl in
    let e = c.in_ok-slot.ensures in
    let count : length c.args.bytes.now / 512 ≡ l.block = omega (arith, c.requires.long) in
    let before = held_in (stored g.S.Store c.slot_for.new.store) c.args.head.now.volume in
    let after = held_in (stored g.S.Store c.put_marked.new.store) c.args.head.now.volume in
    data-put l c.args.block c.args.marks.now c.args.bytes.now (slot_of c.args.map.now c.args.block) c.slot_for.new.map slot e.put.1 (λ none. e.fresh none told)
    (subst₂ (λ n p. Reaches (PutsMarked n p c.args.marks.now c.args.bytes.now) before after) count is (c.put_marked.ensures.reaches told))
    (subst₂ (λ n p. HasMarked p c.args.marks.now c.args.bytes.now 0 n (reads after)) count is (c.in_ok-put_marked.ensures.done told))
