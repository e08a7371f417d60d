use Rattle.std.proofs.Common.{sym, subst}
use Rattle.sm_disk.specs.Held.{reads}
use Rattle.vhd_map.specs.Slots.{slot_of}
use Rattle.vg_volumes.specs.Stored.{stored, held_in}
use Rattle.vg_volumes.proofs.StoredLaws.{works_then}
use Rattle.vhd_volumes.specs.Truth.{layout_now}
use Rattle.vhd_write.specs.WriteSpans.{AreNewSetIn}
use Rattle.vhd_write.proofs.LoopLaws.{true_on}
use Rattle.vhd_write.proofs.WorkLaws.{works_layout, works_room}
use Rattle.vhd_write.proofs.TopLaws.{room-all, new-map, new-room, new-set, new-stands, guarded-now, heads-now, places-now, still-now, written-now, guarded-then, heads-then, places-then, still-then, written-then}
use Rattle.vhd_write.proofs.writes.write.Goals as goal

pub first_pass-requires-clause-slots : goal.first_pass-requires-clause-slots
first_pass-requires-clause-slots g c = room-all c.args.from.now c.requires.stands c.requires.whole c.requires.slots c.span_of-span.ensures

pub finish-requires-clause-room : goal.finish-requires-clause-room
finish-requires-clause-room g c = works_room _ c.first_pass.ensures.works
    (new-room c.args.from.now c.requires.stands c.requires.whole c.requires.slots c.span_of-span.ensures c.in_ok-complete.ensures.given)

pub finish-requires-clause-set : goal.finish-requires-clause-set
finish-requires-clause-set g c = λ told.
    let l = layout_now (stored g.S.Store c.first_pass.new.store) c.args.head.now in
    let mid = reads (held_in (stored g.S.Store c.first_pass.new.store) c.args.head.now.volume) in
    subst (λ x. AreNewSetIn l c.span_of-span.result x (slot_of c.first_pass.new.map) mid) (sym c.top-fresh.ensures.top)
    (new-set c.args.from.now c.requires.stands c.requires.whole c.requires.slots c.span_of-span.ensures (c.requires.is_true told) (c.first_pass.ensures.reaches told)
    c.in_ok-complete.ensures.given (c.in_ok-complete.ensures.done told) (works_layout c.args.head.now c.first_pass.ensures.works))

-- ---- the store

pub returns-in_err-finish-clause-works : goal.returns-in_err-finish-clause-works
returns-in_err-finish-clause-works g c = works_then c.first_pass.ensures.works c.finish.ensures.works

pub returns-clause-works : goal.returns-clause-works
returns-clause-works g c = works_then c.first_pass.ensures.works c.finish.ensures.works

-- ---- the map

pub returns-then-complete-clause-map : goal.returns-then-complete-clause-map
returns-then-complete-clause-map g c =
    new-map c.args.from.now c.requires.stands c.requires.whole c.requires.slots c.span_of-span.ensures c.in_ok-complete.ensures.given

pub returns-clause-map : goal.returns-clause-map
returns-clause-map g c =
    new-map c.args.from.now c.requires.stands c.requires.whole c.requires.slots c.span_of-span.ensures c.in_ok-complete.ensures.given

pub returns-then-complete-clause-stands : goal.returns-then-complete-clause-stands
returns-then-complete-clause-stands g c =
    new-stands c.args.from.now c.requires.stands c.requires.whole c.requires.slots c.span_of-span.ensures c.in_ok-complete.ensures.given

pub returns-clause-stands : goal.returns-clause-stands
returns-clause-stands g c =
    new-stands c.args.from.now c.requires.stands c.requires.whole c.requires.slots c.span_of-span.ensures c.in_ok-complete.ensures.given

-- ---- what the volume holds behind the first pass

pub returns-in_err-complete-clause-guarded : goal.returns-in_err-complete-clause-guarded
returns-in_err-complete-clause-guarded g c = λ told.
    guarded-now c.args.from.now c.requires.stands c.requires.whole c.requires.slots c.span_of-span.ensures (c.requires.is_true told) (c.first_pass.ensures.reaches told)

pub returns-in_err-complete-clause-heads : goal.returns-in_err-complete-clause-heads
returns-in_err-complete-clause-heads g c = λ told.
    heads-now c.args.from.now c.requires.stands c.requires.whole c.requires.slots c.span_of-span.ensures (c.requires.is_true told) (c.first_pass.ensures.reaches told)

pub returns-then-complete-clause-guarded : goal.returns-then-complete-clause-guarded
returns-then-complete-clause-guarded g c = λ told.
    guarded-now c.args.from.now c.requires.stands c.requires.whole c.requires.slots c.span_of-span.ensures (c.requires.is_true told) (c.first_pass.ensures.reaches told)

pub returns-then-complete-clause-heads : goal.returns-then-complete-clause-heads
returns-then-complete-clause-heads g c = λ told.
    heads-now c.args.from.now c.requires.stands c.requires.whole c.requires.slots c.span_of-span.ensures (c.requires.is_true told) (c.first_pass.ensures.reaches told)

pub returns-then-complete-clause-still : goal.returns-then-complete-clause-still
returns-then-complete-clause-still g c = λ told.
    still-now c.args.from.now c.requires.stands c.requires.whole c.requires.slots c.span_of-span.ensures (c.requires.is_true told) (c.first_pass.ensures.reaches told)
    c.in_ok-complete.ensures.given (c.in_ok-complete.ensures.done told) told (true_on c.in_ok-complete.complete c.if-complete.true c.in_ok-complete.ensures.full)

pub returns-then-complete-clause-written : goal.returns-then-complete-clause-written
returns-then-complete-clause-written g c = λ told.
    written-now c.args.from.now c.requires.stands c.requires.whole c.requires.slots c.span_of-span.ensures (c.requires.is_true told) (c.first_pass.ensures.reaches told)
    c.in_ok-complete.ensures.given (c.in_ok-complete.ensures.done told) told (true_on c.in_ok-complete.complete c.if-complete.true c.in_ok-complete.ensures.full)

pub returns-in_err-complete-clause-places : goal.returns-in_err-complete-clause-places
returns-in_err-complete-clause-places g c = λ told.
    places-now c.args.from.now c.requires.stands c.requires.whole c.requires.slots c.span_of-span.ensures (c.first_pass.ensures.places told)

pub returns-then-complete-clause-places : goal.returns-then-complete-clause-places
returns-then-complete-clause-places g c = λ told.
    places-now c.args.from.now c.requires.stands c.requires.whole c.requires.slots c.span_of-span.ensures (c.first_pass.ensures.places told)

-- ---- and behind the rest

pub returns-in_err-finish-clause-guarded : goal.returns-in_err-finish-clause-guarded
returns-in_err-finish-clause-guarded g c = λ told.
    guarded-then c.args.from.now c.requires.stands c.requires.whole c.requires.slots c.span_of-span.ensures (c.requires.is_true told) (c.first_pass.ensures.reaches told)
    c.in_ok-complete.ensures.given (c.in_ok-complete.ensures.done told) (works_layout c.args.head.now c.first_pass.ensures.works) (c.finish.ensures.goes told)

pub returns-in_err-finish-clause-heads : goal.returns-in_err-finish-clause-heads
returns-in_err-finish-clause-heads g c = λ told.
    heads-then c.args.from.now c.requires.stands c.requires.whole c.requires.slots c.span_of-span.ensures (c.requires.is_true told) (c.first_pass.ensures.reaches told)
    c.in_ok-complete.ensures.given (c.in_ok-complete.ensures.done told) (works_layout c.args.head.now c.first_pass.ensures.works) (c.finish.ensures.goes told)

pub returns-clause-guarded : goal.returns-clause-guarded
returns-clause-guarded g c = λ told.
    guarded-then c.args.from.now c.requires.stands c.requires.whole c.requires.slots c.span_of-span.ensures (c.requires.is_true told) (c.first_pass.ensures.reaches told)
    c.in_ok-complete.ensures.given (c.in_ok-complete.ensures.done told) (works_layout c.args.head.now c.first_pass.ensures.works) (c.finish.ensures.goes told)

pub returns-clause-heads : goal.returns-clause-heads
returns-clause-heads g c = λ told.
    heads-then c.args.from.now c.requires.stands c.requires.whole c.requires.slots c.span_of-span.ensures (c.requires.is_true told) (c.first_pass.ensures.reaches told)
    c.in_ok-complete.ensures.given (c.in_ok-complete.ensures.done told) (works_layout c.args.head.now c.first_pass.ensures.works) (c.finish.ensures.goes told)

pub returns-clause-still : goal.returns-clause-still
returns-clause-still g c = λ told.
    still-then c.args.from.now c.requires.stands c.requires.whole c.requires.slots c.span_of-span.ensures (c.requires.is_true told) (c.first_pass.ensures.reaches told)
    c.in_ok-complete.ensures.given (c.in_ok-complete.ensures.done told) (works_layout c.args.head.now c.first_pass.ensures.works) c.has_slots-held.ensures.all (c.in_ok-finish.ensures.done told)

pub returns-clause-written : goal.returns-clause-written
returns-clause-written g c = λ told.
    written-then c.args.from.now c.requires.stands c.requires.whole c.requires.slots c.span_of-span.ensures (c.requires.is_true told) (c.first_pass.ensures.reaches told)
    c.in_ok-complete.ensures.given (c.in_ok-complete.ensures.done told) (works_layout c.args.head.now c.first_pass.ensures.works) c.has_slots-held.ensures.all (c.in_ok-finish.ensures.done told)

pub returns-in_err-finish-clause-places : goal.returns-in_err-finish-clause-places
returns-in_err-finish-clause-places g c = λ told.
    places-then c.args.from.now c.requires.stands c.requires.whole c.requires.slots c.span_of-span.ensures (c.requires.is_true told) (c.first_pass.ensures.reaches told)
    c.in_ok-complete.ensures.given (c.in_ok-complete.ensures.done told) (works_layout c.args.head.now c.first_pass.ensures.works) (c.first_pass.ensures.places told) (c.finish.ensures.goes told)

pub returns-clause-places : goal.returns-clause-places
returns-clause-places g c = λ told.
    places-then c.args.from.now c.requires.stands c.requires.whole c.requires.slots c.span_of-span.ensures (c.requires.is_true told) (c.first_pass.ensures.reaches told)
    c.in_ok-complete.ensures.given (c.in_ok-complete.ensures.done told) (works_layout c.args.head.now c.first_pass.ensures.works) (c.first_pass.ensures.places told) (c.finish.ensures.goes told)
