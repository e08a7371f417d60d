use Rattle.std.proofs.Common.{◌≡◌, ◌≢◌, ℕ, ◌+◌, ◌-◌, ◌<◌, length, None, refl, sym, ap, ◌∙◌, subst, arith}
use Rattle.sm_disk.specs.Held.{IsIn, Puts, Reaches, reads}
use Rattle.sm_disk.proofs.ReachesLaws.{Reaches-none}
use Rattle.vhd_map.specs.Slots.{slot_of, top_of}
use Rattle.vg_volumes.specs.Stored.{stored, held_in}
use Rattle.vg_volumes.proofs.StoredLaws.{works_then, works_none}
use Rattle.vhd_volumes.specs.Truth.{layout_now}
use Rattle.vhd_volumes.specs.Writes.{with_block, with_blocks}
use Rattle.vhd_write.specs.Passes.{PutsBlock, PutsData, IsPut}
use Rattle.vhd_write.specs.Spans.{IsSpan, Given}
use Rattle.vhd_write.specs.WritePlaces.{IsWritePlace}
use Rattle.vhd_write.proofs.MapLaws.{given-none, given-more, given-to, top-grown, with_block-gives}
use Rattle.vhd_write.proofs.PartLaws.{new-slot-in}
use Rattle.vhd_write.proofs.LoopLaws.{span-order, put-none, put-reaches, put-more}
use Rattle.vhd_write.proofs.PlaceLaws.{block-places}
use Rattle.vhd_write.proofs.WorkLaws.{works_layout, works_room, room-less}
use Rattle.vhd_write.proofs.blocks.put_blocks.Goals as goal

pub loop-block-init : goal.loop-block-init
loop-block-init g c =
    let s = c.args.span.now in
    let l = layout_now (stored g.S.Store c.args.store.now) c.args.head.now in
    let held = held_in (stored g.S.Store c.args.store.now) c.args.head.now.volume in
    record {
      calm = refl;
      works = works_none c.args.head.now.volume c.args.store.now;
      given = given-none s.first c.args.map.now c.requires.good;
      reaches = λ told. Reaches-none (PutsData l (Puts s.sector c.args.from.now) (slot_of c.args.map.now)) held;
      places = λ told. Reaches-none (IsWritePlace l (Puts s.sector c.args.from.now) (IsIn s.sector (length c.args.from.now)) (slot_of c.args.map.now) (slot_of (with_blocks s.first (s.end - s.first) c.args.map.now)) (reads held)) held;
      done = λ told. put-none {l = l} {at = s.sector} {count = s.count} {end = s.end} c.args.from.now c.args.map.now (reads held) (subst (λ b. IsSpan b s.sector s.count s.first s.end) c.requires.sizes s.in_range) c.requires.bytes;
    }

pub put_block-requires-clause-room : goal.put_block-requires-clause-room
put_block-requires-clause-room g c =
    let i = c.loop-block.invariant in
    let first = c.args.span.now.first in
    let block = c.loop-block.block in
    let in_map : block < length c.args.map.now = omega (arith, c.loop-block-test.true, c.requires.within) in
    let next = given-more first block c.args.map.now c.loop-block.map c.loop-block.auto.block in_map i.given in
    let more = given-to first (block + 1) c.args.span.now.end c.args.map.now (with_block block c.loop-block.map) (omega (arith, c.loop-block.auto.block)) (omega (arith, c.loop-block-test.true)) next in
    let top = top-grown more in
    let room = room-less (g.S.Store.site c.args.store.now).geometry (top_of (with_block block c.loop-block.map)) _ _ top c.requires.room in
    works_room (top_of (with_block block c.loop-block.map)) i.works room

pub returns-in_err-put_block-clause-works : goal.returns-in_err-put_block-clause-works
returns-in_err-put_block-clause-works g c = works_then c.loop-block.invariant.works c.put_block.ensures.works

pub returns-in_err-put_block-clause-reaches : goal.returns-in_err-put_block-clause-reaches
returns-in_err-put_block-clause-reaches g c = λ told.
    let i = c.loop-block.invariant in
    let first = c.args.span.now.first in
    let block = c.loop-block.block in
    let in_map : block < length c.args.map.now = omega (arith, c.loop-block-test.true, c.requires.within) in
    let next = given-more first block c.args.map.now c.loop-block.map c.loop-block.auto.block in_map i.given in
    let more = given-to first (block + 1) c.args.span.now.end c.args.map.now (with_block block c.loop-block.map) (omega (arith, c.loop-block.auto.block)) (omega (arith, c.loop-block-test.true)) next in
    let top = top-grown more in
    let room = room-less (g.S.Store.site c.args.store.now).geometry (top_of (with_block block c.loop-block.map)) _ _ top c.requires.room in
    let l = layout_now (stored g.S.Store c.args.store.now) c.args.head.now in
    let new_in = λ (none : slot_of c.loop-block.map block ≡ None). new-slot-in l c.loop-block.map block none (omega (arith, in_map, i.given.grown.long)) room in
    let step = λ (told : g.S.Store.told). subst (λ x. Reaches (PutsBlock x (Puts c.args.span.now.sector c.args.from.now) (IsIn c.args.span.now.sector (length c.args.from.now)) c.loop-block.map block) (held_in (stored g.S.Store c.loop-block.store) c.args.head.now.volume) (held_in (stored g.S.Store c.put_block.new.store) c.args.head.now.volume)) (works_layout c.args.head.now i.works) (c.put_block.ensures.reaches told) in
    put-reaches l (Puts c.args.span.now.sector c.args.from.now) (IsIn c.args.span.now.sector (length c.args.from.now)) first block c.args.map.now c.loop-block.map i.given c.loop-block.auto.block new_in (i.reaches told) (step told)

pub returns-in_err-put_block-clause-places : goal.returns-in_err-put_block-clause-places
returns-in_err-put_block-clause-places g c = λ told.
    let i = c.loop-block.invariant in
    let first = c.args.span.now.first in
    let block = c.loop-block.block in
    let in_map : block < length c.args.map.now = omega (arith, c.loop-block-test.true, c.requires.within) in
    let next = given-more first block c.args.map.now c.loop-block.map c.loop-block.auto.block in_map i.given in
    let more = given-to first (block + 1) c.args.span.now.end c.args.map.now (with_block block c.loop-block.map) (omega (arith, c.loop-block.auto.block)) (omega (arith, c.loop-block-test.true)) next in
    let l = layout_now (stored g.S.Store c.args.store.now) c.args.head.now in
    let step = subst (λ x. Reaches (PutsBlock x (Puts c.args.span.now.sector c.args.from.now) (IsIn c.args.span.now.sector (length c.args.from.now)) c.loop-block.map block) (held_in (stored g.S.Store c.loop-block.store) c.args.head.now.volume) (held_in (stored g.S.Store c.put_block.new.store) c.args.head.now.volume)) (works_layout c.args.head.now i.works) (c.put_block.ensures.reaches told) in
    block-places l (Puts c.args.span.now.sector c.args.from.now) (IsIn c.args.span.now.sector (length c.args.from.now)) block c.args.map.now c.loop-block.map _ i.given.grown (omega (arith, in_map, i.given.grown.long)) more (i.places told) step

pub loop-block-preserved : goal.loop-block-preserved
loop-block-preserved g c =
    let i = c.loop-block.invariant in
    let first = c.args.span.now.first in
    let block = c.loop-block.block in
    let in_map : block < length c.args.map.now = omega (arith, c.loop-block-test.true, c.requires.within) in
    let next = given-more first block c.args.map.now c.loop-block.map c.loop-block.auto.block in_map i.given in
    let more = given-to first (block + 1) c.args.span.now.end c.args.map.now (with_block block c.loop-block.map) (omega (arith, c.loop-block.auto.block)) (omega (arith, c.loop-block-test.true)) next in
    let top = top-grown more in
    let room = room-less (g.S.Store.site c.args.store.now).geometry (top_of (with_block block c.loop-block.map)) _ _ top c.requires.room in
    let l = layout_now (stored g.S.Store c.args.store.now) c.args.head.now in
    let new_in = λ (none : slot_of c.loop-block.map block ≡ None). new-slot-in l c.loop-block.map block none (omega (arith, in_map, i.given.grown.long)) room in
    let step = λ (told : g.S.Store.told). subst (λ x. Reaches (PutsBlock x (Puts c.args.span.now.sector c.args.from.now) (IsIn c.args.span.now.sector (length c.args.from.now)) c.loop-block.map block) (held_in (stored g.S.Store c.loop-block.store) c.args.head.now.volume) (held_in (stored g.S.Store c.put_block.new.store) c.args.head.now.volume)) (works_layout c.args.head.now i.works) (c.put_block.ensures.reaches told) in
    let is = c.in_ok-put_block.ensures.put in
    let others = λ (b : ℕ) (apart : b ≢ block). ap (λ n. slot_of n b) is ∙ (with_block-gives block c.loop-block.map).others b apart in
    record {
      calm = c.in_ok-put_block.ensures.cause.1 ∙ i.calm;
      works = works_then i.works c.put_block.ensures.works;
      given = subst (Given first (block + 1) c.args.map.now) (sym is) next;
      reaches = λ told. put-reaches l (Puts c.args.span.now.sector c.args.from.now) (IsIn c.args.span.now.sector (length c.args.from.now)) first block c.args.map.now c.loop-block.map i.given c.loop-block.auto.block new_in (i.reaches told) (step told);
      places = λ told. block-places l (Puts c.args.span.now.sector c.args.from.now) (IsIn c.args.span.now.sector (length c.args.from.now)) block c.args.map.now c.loop-block.map _ i.given.grown (omega (arith, in_map, i.given.grown.long)) more (i.places told) (step told);
      done = λ told. put-more l (Puts c.args.span.now.sector c.args.from.now) (IsIn c.args.span.now.sector (length c.args.from.now)) first block c.args.map.now c.loop-block.map i.given c.loop-block.auto.block new_in is others (step told) (i.done told)
          (subst (λ x. IsPut x (Puts c.args.span.now.sector c.args.from.now) (IsIn c.args.span.now.sector (length c.args.from.now)) (slot_of c.loop-block.map block) (slot_of c.put_block.new.map block) block (reads (held_in (stored g.S.Store c.put_block.new.store) c.args.head.now.volume))) (works_layout c.args.head.now i.works) (c.in_ok-put_block.ensures.done told));
    }

pub returns-clause-given : goal.returns-clause-given
returns-clause-given g c =
    let same : c.loop-block.block ≡ c.args.span.now.end = omega (arith, c.loop-block-test.false, c.loop-block.auto.block-end (omega (arith, span-order c.args.span.now.in_range))) in
    subst (λ e. Given c.args.span.now.first e c.args.map.now c.loop-block.map) same c.loop-block.invariant.given
