use Rattle.std.proofs.Common.{◌≡◌, ◌+◌, ◌∙◌, length, is_some, ap, sym, subst, rules, arith}
use Rattle.sm_disk.specs.Held.{reads}
use Rattle.sm_disk.proofs.ReachesLaws.{Reaches-same}
use Rattle.vg_volumes.specs.Sites.{Site}
use Rattle.vg_volumes.specs.Stored.{stored, held_in}
use Rattle.vg_volumes.proofs.StoredLaws.{works_then}
use Rattle.vhd_map.specs.Slots.{slot_of, top_of}
use Rattle.vhd_volumes.specs.Truth.{HasRoomIn, IsTrueOf, StandsNow, layout_now}
use Rattle.vhd_write.specs.Marks.{HasMark, IsMarkedIn, PutsMarkedIn}
use Rattle.vhd_write.specs.Passes.{GoesOn, IsFinished, IsPut}
use Rattle.vhd_write.proofs.BlockLaws.{block-guarded, block-heads, block-keeps, block-stands, block-still, block-written, guarded-on, heads-on, keeps-on, put-first, put-set-one, puts-first, still-on, written-on}
use Rattle.vhd_write.proofs.LoopLaws.{true_on}
use Rattle.vhd_write.proofs.MapLaws.{with_block-gives}
use Rattle.vhd_write.proofs.WorkLaws.{works_layout, works_room}
use Rattle.vhd_write.proofs.marked.write_marked.Goals as goal

pub put_sectors-requires-clause-some : goal.put_sectors-requires-clause-some
put_sectors-requires-clause-some g c = subst (λ (x : Site). HasMark x.geometry.block c.args.marks.now) (sym c.is_marked.ensures.works.stays.site) c.requires.some

pub put_sectors-requires-clause-room : goal.put_sectors-requires-clause-room
put_sectors-requires-clause-room g c = works_room _ c.is_marked.ensures.works c.requires.slots

pub end_block-requires-clause-some : goal.end_block-requires-clause-some
end_block-requires-clause-some g c =
    subst (λ (x : Site). HasMark x.geometry.block c.args.marks.now) (sym (works_then c.is_marked.ensures.works c.put_sectors.ensures.works).stays.site) c.requires.some

pub end_block-requires-clause-room : goal.end_block-requires-clause-room
end_block-requires-clause-room g c = works_room _ (works_then c.is_marked.ensures.works c.put_sectors.ensures.works)
    (subst (λ m. HasRoomIn (stored g.S.Store c.args.store.now) c.args.head.now.volume (top_of m)) (sym c.in_ok-put_sectors.ensures.put) c.requires.slots)

pub end_block-requires-clause-entries : goal.end_block-requires-clause-entries
end_block-requires-clause-entries g c =
    let long = (with_block-gives c.args.block c.args.map.now).grown.long in
    let same = works_then c.is_marked.ensures.works c.put_sectors.ensures.works in
    ap length c.in_ok-put_sectors.ensures.put ∙ long ∙ c.requires.stands.entries ∙ sym (ap (λ (x : Site). x.geometry.entries) same.stays.site)

pub end_block-requires-clause-within : goal.end_block-requires-clause-within
end_block-requires-clause-within g c =
    let long = (with_block-gives c.args.block c.args.map.now).grown.long in
    omega (arith, long, ap length c.in_ok-put_sectors.ensures.put, c.requires.stands.entries, c.requires.stands.most, c.requires.within)

pub end_block-requires-clause-set : goal.end_block-requires-clause-set
end_block-requires-clause-set g c =
    let had : c.is_some-held.result ≡ is_some (slot_of c.args.map.now c.args.block) = search rules in
    put-set-one c.is_some-held.result (slot_of c.args.map.now c.args.block) had
    (λ told. put-first c.args.block c.args.marks.now c.args.bytes.now _ _ _ (sym (works_layout c.args.head.now c.put_sectors.ensures.works)) (c.in_ok-put_sectors.ensures.done told))

-- ---- the store

pub returns-in_err-put_sectors-clause-works : goal.returns-in_err-put_sectors-clause-works
returns-in_err-put_sectors-clause-works g c = works_then c.is_marked.ensures.works c.put_sectors.ensures.works

pub returns-then-complete-clause-works : goal.returns-then-complete-clause-works
returns-then-complete-clause-works g c = works_then c.is_marked.ensures.works c.put_sectors.ensures.works

pub returns-in_err-end_block-clause-works : goal.returns-in_err-end_block-clause-works
returns-in_err-end_block-clause-works g c = works_then (works_then c.is_marked.ensures.works c.put_sectors.ensures.works) c.end_block.ensures.works

pub returns-clause-works : goal.returns-clause-works
returns-clause-works g c = works_then (works_then c.is_marked.ensures.works c.put_sectors.ensures.works) c.end_block.ensures.works

-- ---- behind the first pass

pub returns-in_err-complete-clause-guarded : goal.returns-in_err-complete-clause-guarded
returns-in_err-complete-clause-guarded g c = λ told.
    block-guarded c.requires.stands c.slot.ensures.map c.args.block c.args.marks.now c.args.bytes.now c.requires.within c.requires.slots (c.requires.is_true told) (Reaches-same _ (c.is_marked.ensures.same told))

pub returns-in_err-complete-clause-places : goal.returns-in_err-complete-clause-places
returns-in_err-complete-clause-places g c = λ told. Reaches-same _ (c.is_marked.ensures.same told)

pub returns-in_err-put_sectors-clause-guarded : goal.returns-in_err-put_sectors-clause-guarded
returns-in_err-put_sectors-clause-guarded g c = λ told.
    let was = c.requires.is_true told in
    let then = works_layout c.args.head.now c.is_marked.ensures.works in
    let r = puts-first c.args.block c.args.marks.now c.args.bytes.now c.args.map.now then (c.is_marked.ensures.same told) (c.put_sectors.ensures.reaches told) in
    block-guarded c.requires.stands c.slot.ensures.map c.args.block c.args.marks.now c.args.bytes.now c.requires.within c.requires.slots was r

pub returns-in_err-put_sectors-clause-heads : goal.returns-in_err-put_sectors-clause-heads
returns-in_err-put_sectors-clause-heads g c = λ told.
    let was = c.requires.is_true told in
    let then = works_layout c.args.head.now c.is_marked.ensures.works in
    let r = puts-first c.args.block c.args.marks.now c.args.bytes.now c.args.map.now then (c.is_marked.ensures.same told) (c.put_sectors.ensures.reaches told) in
    block-heads c.requires.stands c.slot.ensures.map c.args.block c.args.marks.now c.args.bytes.now c.requires.within c.requires.slots was r

pub returns-in_err-put_sectors-clause-places : goal.returns-in_err-put_sectors-clause-places
returns-in_err-put_sectors-clause-places g c = λ told.
    let was = c.requires.is_true told in
    let then = works_layout c.args.head.now c.is_marked.ensures.works in
    let r = puts-first c.args.block c.args.marks.now c.args.bytes.now c.args.map.now then (c.is_marked.ensures.same told) (c.put_sectors.ensures.reaches told) in
    block-keeps c.requires.stands c.slot.ensures.map c.args.block c.args.marks.now c.args.bytes.now c.requires.within c.requires.slots was r

pub returns-then-complete-clause-guarded : goal.returns-then-complete-clause-guarded
returns-then-complete-clause-guarded g c = λ told.
    let was = c.requires.is_true told in
    let then = works_layout c.args.head.now c.is_marked.ensures.works in
    let r = puts-first c.args.block c.args.marks.now c.args.bytes.now c.args.map.now then (c.is_marked.ensures.same told) (c.put_sectors.ensures.reaches told) in
    block-guarded c.requires.stands c.slot.ensures.map c.args.block c.args.marks.now c.args.bytes.now c.requires.within c.requires.slots was r

pub returns-then-complete-clause-heads : goal.returns-then-complete-clause-heads
returns-then-complete-clause-heads g c = λ told.
    let was = c.requires.is_true told in
    let then = works_layout c.args.head.now c.is_marked.ensures.works in
    let r = puts-first c.args.block c.args.marks.now c.args.bytes.now c.args.map.now then (c.is_marked.ensures.same told) (c.put_sectors.ensures.reaches told) in
    block-heads c.requires.stands c.slot.ensures.map c.args.block c.args.marks.now c.args.bytes.now c.requires.within c.requires.slots was r

pub returns-then-complete-clause-places : goal.returns-then-complete-clause-places
returns-then-complete-clause-places g c = λ told.
    let was = c.requires.is_true told in
    let then = works_layout c.args.head.now c.is_marked.ensures.works in
    let r = puts-first c.args.block c.args.marks.now c.args.bytes.now c.args.map.now then (c.is_marked.ensures.same told) (c.put_sectors.ensures.reaches told) in
    block-keeps c.requires.stands c.slot.ensures.map c.args.block c.args.marks.now c.args.bytes.now c.requires.within c.requires.slots was r

pub returns-then-complete-clause-still : goal.returns-then-complete-clause-still
returns-then-complete-clause-still g c = λ told.
    let l = layout_now (stored g.S.Store c.args.store.now) c.args.head.now in
    let W = PutsMarkedIn l.block c.args.block c.args.marks.now c.args.bytes.now in
    let M = IsMarkedIn l.block c.args.block c.args.marks.now in
    let was = c.requires.is_true told in
    let then = works_layout c.args.head.now c.is_marked.ensures.works in
    let r = puts-first c.args.block c.args.marks.now c.args.bytes.now c.args.map.now then (c.is_marked.ensures.same told) (c.put_sectors.ensures.reaches told) in
    let put = subst (λ n. IsPut l W M (slot_of c.args.map.now c.args.block) (slot_of n c.args.block) c.args.block (reads (held_in (stored g.S.Store c.put_sectors.new.store) c.args.head.now.volume))) c.in_ok-put_sectors.ensures.put
    (put-first c.args.block c.args.marks.now c.args.bytes.now _ _ _ then (c.in_ok-put_sectors.ensures.done told)) in
    subst (λ n. IsTrueOf l (held_in (stored g.S.Store c.put_sectors.new.store) c.args.head.now.volume) c.args.head.now (slot_of n)) (sym c.in_ok-put_sectors.ensures.put)
    (block-still c.requires.stands c.slot.ensures.map c.args.block c.args.marks.now c.args.bytes.now c.requires.within c.requires.slots was r put told (true_on c.in_ok-complete.complete c.if-complete.true c.in_ok-complete.ensures.full))

pub returns-then-complete-clause-written : goal.returns-then-complete-clause-written
returns-then-complete-clause-written g c = λ told.
    let l = layout_now (stored g.S.Store c.args.store.now) c.args.head.now in
    let W = PutsMarkedIn l.block c.args.block c.args.marks.now c.args.bytes.now in
    let M = IsMarkedIn l.block c.args.block c.args.marks.now in
    let was = c.requires.is_true told in
    let then = works_layout c.args.head.now c.is_marked.ensures.works in
    let r = puts-first c.args.block c.args.marks.now c.args.bytes.now c.args.map.now then (c.is_marked.ensures.same told) (c.put_sectors.ensures.reaches told) in
    let put = subst (λ n. IsPut l W M (slot_of c.args.map.now c.args.block) (slot_of n c.args.block) c.args.block (reads (held_in (stored g.S.Store c.put_sectors.new.store) c.args.head.now.volume))) c.in_ok-put_sectors.ensures.put
    (put-first c.args.block c.args.marks.now c.args.bytes.now _ _ _ then (c.in_ok-put_sectors.ensures.done told)) in
    block-written c.requires.stands c.slot.ensures.map c.args.block c.args.marks.now c.args.bytes.now c.requires.within c.requires.slots was r put told (true_on c.in_ok-complete.complete c.if-complete.true c.in_ok-complete.ensures.full)

pub returns-then-complete-clause-stands : goal.returns-then-complete-clause-stands
returns-then-complete-clause-stands g c = subst (λ n. StandsNow (stored g.S.Store c.args.store.now) c.args.head.now n) (sym c.in_ok-put_sectors.ensures.put) (block-stands c.requires.stands c.slot.ensures.map c.args.block c.args.marks.now c.args.bytes.now c.requires.within c.requires.slots)

pub returns-clause-stands : goal.returns-clause-stands
returns-clause-stands g c = subst (λ n. StandsNow (stored g.S.Store c.args.store.now) c.args.head.now n) (sym c.in_ok-put_sectors.ensures.put) (block-stands c.requires.stands c.slot.ensures.map c.args.block c.args.marks.now c.args.bytes.now c.requires.within c.requires.slots)

-- ---- and behind the rest

pub returns-in_err-end_block-clause-guarded : goal.returns-in_err-end_block-clause-guarded
returns-in_err-end_block-clause-guarded g c = λ told.
    let l = layout_now (stored g.S.Store c.args.store.now) c.args.head.now in
    let W = PutsMarkedIn l.block c.args.block c.args.marks.now c.args.bytes.now in
    let M = IsMarkedIn l.block c.args.block c.args.marks.now in
    let was = c.requires.is_true told in
    let then = works_layout c.args.head.now c.is_marked.ensures.works in
    let r = puts-first c.args.block c.args.marks.now c.args.bytes.now c.args.map.now then (c.is_marked.ensures.same told) (c.put_sectors.ensures.reaches told) in
    let put = subst (λ n. IsPut l W M (slot_of c.args.map.now c.args.block) (slot_of n c.args.block) c.args.block (reads (held_in (stored g.S.Store c.put_sectors.new.store) c.args.head.now.volume))) c.in_ok-put_sectors.ensures.put
    (put-first c.args.block c.args.marks.now c.args.bytes.now _ _ _ then (c.in_ok-put_sectors.ensures.done told)) in
    guarded-on c.requires.stands c.slot.ensures.map c.args.block c.args.marks.now c.args.bytes.now c.requires.within c.requires.slots was r put (works_layout c.args.head.now (works_then c.is_marked.ensures.works c.put_sectors.ensures.works)) (subst (λ n. GoesOn (layout_now (stored g.S.Store c.put_sectors.new.store) c.args.head.now) (IsMarkedIn (layout_now (stored g.S.Store c.put_sectors.new.store) c.args.head.now).block c.args.block c.args.marks.now) (slot_of n) (held_in (stored g.S.Store c.put_sectors.new.store) c.args.head.now.volume) (held_in (stored g.S.Store c.end_block.new.store) c.args.head.now.volume)) c.in_ok-put_sectors.ensures.put (c.end_block.ensures.goes told))

pub returns-in_err-end_block-clause-heads : goal.returns-in_err-end_block-clause-heads
returns-in_err-end_block-clause-heads g c = λ told.
    let l = layout_now (stored g.S.Store c.args.store.now) c.args.head.now in
    let W = PutsMarkedIn l.block c.args.block c.args.marks.now c.args.bytes.now in
    let M = IsMarkedIn l.block c.args.block c.args.marks.now in
    let was = c.requires.is_true told in
    let then = works_layout c.args.head.now c.is_marked.ensures.works in
    let r = puts-first c.args.block c.args.marks.now c.args.bytes.now c.args.map.now then (c.is_marked.ensures.same told) (c.put_sectors.ensures.reaches told) in
    let put = subst (λ n. IsPut l W M (slot_of c.args.map.now c.args.block) (slot_of n c.args.block) c.args.block (reads (held_in (stored g.S.Store c.put_sectors.new.store) c.args.head.now.volume))) c.in_ok-put_sectors.ensures.put
    (put-first c.args.block c.args.marks.now c.args.bytes.now _ _ _ then (c.in_ok-put_sectors.ensures.done told)) in
    heads-on c.requires.stands c.slot.ensures.map c.args.block c.args.marks.now c.args.bytes.now c.requires.within c.requires.slots was r put (works_layout c.args.head.now (works_then c.is_marked.ensures.works c.put_sectors.ensures.works)) (subst (λ n. GoesOn (layout_now (stored g.S.Store c.put_sectors.new.store) c.args.head.now) (IsMarkedIn (layout_now (stored g.S.Store c.put_sectors.new.store) c.args.head.now).block c.args.block c.args.marks.now) (slot_of n) (held_in (stored g.S.Store c.put_sectors.new.store) c.args.head.now.volume) (held_in (stored g.S.Store c.end_block.new.store) c.args.head.now.volume)) c.in_ok-put_sectors.ensures.put (c.end_block.ensures.goes told))

pub returns-in_err-end_block-clause-places : goal.returns-in_err-end_block-clause-places
returns-in_err-end_block-clause-places g c = λ told.
    let l = layout_now (stored g.S.Store c.args.store.now) c.args.head.now in
    let W = PutsMarkedIn l.block c.args.block c.args.marks.now c.args.bytes.now in
    let M = IsMarkedIn l.block c.args.block c.args.marks.now in
    let was = c.requires.is_true told in
    let then = works_layout c.args.head.now c.is_marked.ensures.works in
    let r = puts-first c.args.block c.args.marks.now c.args.bytes.now c.args.map.now then (c.is_marked.ensures.same told) (c.put_sectors.ensures.reaches told) in
    let put = subst (λ n. IsPut l W M (slot_of c.args.map.now c.args.block) (slot_of n c.args.block) c.args.block (reads (held_in (stored g.S.Store c.put_sectors.new.store) c.args.head.now.volume))) c.in_ok-put_sectors.ensures.put
    (put-first c.args.block c.args.marks.now c.args.bytes.now _ _ _ then (c.in_ok-put_sectors.ensures.done told)) in
    keeps-on c.requires.stands c.slot.ensures.map c.args.block c.args.marks.now c.args.bytes.now c.requires.within c.requires.slots was r put (works_layout c.args.head.now (works_then c.is_marked.ensures.works c.put_sectors.ensures.works)) (subst (λ n. GoesOn (layout_now (stored g.S.Store c.put_sectors.new.store) c.args.head.now) (IsMarkedIn (layout_now (stored g.S.Store c.put_sectors.new.store) c.args.head.now).block c.args.block c.args.marks.now) (slot_of n) (held_in (stored g.S.Store c.put_sectors.new.store) c.args.head.now.volume) (held_in (stored g.S.Store c.end_block.new.store) c.args.head.now.volume)) c.in_ok-put_sectors.ensures.put (c.end_block.ensures.goes told))

pub returns-clause-guarded : goal.returns-clause-guarded
returns-clause-guarded g c = λ told.
    let l = layout_now (stored g.S.Store c.args.store.now) c.args.head.now in
    let W = PutsMarkedIn l.block c.args.block c.args.marks.now c.args.bytes.now in
    let M = IsMarkedIn l.block c.args.block c.args.marks.now in
    let was = c.requires.is_true told in
    let then = works_layout c.args.head.now c.is_marked.ensures.works in
    let r = puts-first c.args.block c.args.marks.now c.args.bytes.now c.args.map.now then (c.is_marked.ensures.same told) (c.put_sectors.ensures.reaches told) in
    let put = subst (λ n. IsPut l W M (slot_of c.args.map.now c.args.block) (slot_of n c.args.block) c.args.block (reads (held_in (stored g.S.Store c.put_sectors.new.store) c.args.head.now.volume))) c.in_ok-put_sectors.ensures.put
    (put-first c.args.block c.args.marks.now c.args.bytes.now _ _ _ then (c.in_ok-put_sectors.ensures.done told)) in
    guarded-on c.requires.stands c.slot.ensures.map c.args.block c.args.marks.now c.args.bytes.now c.requires.within c.requires.slots was r put (works_layout c.args.head.now (works_then c.is_marked.ensures.works c.put_sectors.ensures.works)) (subst (λ n. GoesOn (layout_now (stored g.S.Store c.put_sectors.new.store) c.args.head.now) (IsMarkedIn (layout_now (stored g.S.Store c.put_sectors.new.store) c.args.head.now).block c.args.block c.args.marks.now) (slot_of n) (held_in (stored g.S.Store c.put_sectors.new.store) c.args.head.now.volume) (held_in (stored g.S.Store c.end_block.new.store) c.args.head.now.volume)) c.in_ok-put_sectors.ensures.put (c.end_block.ensures.goes told))

pub returns-clause-heads : goal.returns-clause-heads
returns-clause-heads g c = λ told.
    let l = layout_now (stored g.S.Store c.args.store.now) c.args.head.now in
    let W = PutsMarkedIn l.block c.args.block c.args.marks.now c.args.bytes.now in
    let M = IsMarkedIn l.block c.args.block c.args.marks.now in
    let was = c.requires.is_true told in
    let then = works_layout c.args.head.now c.is_marked.ensures.works in
    let r = puts-first c.args.block c.args.marks.now c.args.bytes.now c.args.map.now then (c.is_marked.ensures.same told) (c.put_sectors.ensures.reaches told) in
    let put = subst (λ n. IsPut l W M (slot_of c.args.map.now c.args.block) (slot_of n c.args.block) c.args.block (reads (held_in (stored g.S.Store c.put_sectors.new.store) c.args.head.now.volume))) c.in_ok-put_sectors.ensures.put
    (put-first c.args.block c.args.marks.now c.args.bytes.now _ _ _ then (c.in_ok-put_sectors.ensures.done told)) in
    heads-on c.requires.stands c.slot.ensures.map c.args.block c.args.marks.now c.args.bytes.now c.requires.within c.requires.slots was r put (works_layout c.args.head.now (works_then c.is_marked.ensures.works c.put_sectors.ensures.works)) (subst (λ n. GoesOn (layout_now (stored g.S.Store c.put_sectors.new.store) c.args.head.now) (IsMarkedIn (layout_now (stored g.S.Store c.put_sectors.new.store) c.args.head.now).block c.args.block c.args.marks.now) (slot_of n) (held_in (stored g.S.Store c.put_sectors.new.store) c.args.head.now.volume) (held_in (stored g.S.Store c.end_block.new.store) c.args.head.now.volume)) c.in_ok-put_sectors.ensures.put (c.end_block.ensures.goes told))

pub returns-clause-places : goal.returns-clause-places
returns-clause-places g c = λ told.
    let l = layout_now (stored g.S.Store c.args.store.now) c.args.head.now in
    let W = PutsMarkedIn l.block c.args.block c.args.marks.now c.args.bytes.now in
    let M = IsMarkedIn l.block c.args.block c.args.marks.now in
    let was = c.requires.is_true told in
    let then = works_layout c.args.head.now c.is_marked.ensures.works in
    let r = puts-first c.args.block c.args.marks.now c.args.bytes.now c.args.map.now then (c.is_marked.ensures.same told) (c.put_sectors.ensures.reaches told) in
    let put = subst (λ n. IsPut l W M (slot_of c.args.map.now c.args.block) (slot_of n c.args.block) c.args.block (reads (held_in (stored g.S.Store c.put_sectors.new.store) c.args.head.now.volume))) c.in_ok-put_sectors.ensures.put
    (put-first c.args.block c.args.marks.now c.args.bytes.now _ _ _ then (c.in_ok-put_sectors.ensures.done told)) in
    keeps-on c.requires.stands c.slot.ensures.map c.args.block c.args.marks.now c.args.bytes.now c.requires.within c.requires.slots was r put (works_layout c.args.head.now (works_then c.is_marked.ensures.works c.put_sectors.ensures.works)) (subst (λ n. GoesOn (layout_now (stored g.S.Store c.put_sectors.new.store) c.args.head.now) (IsMarkedIn (layout_now (stored g.S.Store c.put_sectors.new.store) c.args.head.now).block c.args.block c.args.marks.now) (slot_of n) (held_in (stored g.S.Store c.put_sectors.new.store) c.args.head.now.volume) (held_in (stored g.S.Store c.end_block.new.store) c.args.head.now.volume)) c.in_ok-put_sectors.ensures.put (c.end_block.ensures.goes told))

pub returns-clause-still : goal.returns-clause-still
returns-clause-still g c = λ told.
    let l = layout_now (stored g.S.Store c.args.store.now) c.args.head.now in
    let W = PutsMarkedIn l.block c.args.block c.args.marks.now c.args.bytes.now in
    let M = IsMarkedIn l.block c.args.block c.args.marks.now in
    let was = c.requires.is_true told in
    let then = works_layout c.args.head.now c.is_marked.ensures.works in
    let r = puts-first c.args.block c.args.marks.now c.args.bytes.now c.args.map.now then (c.is_marked.ensures.same told) (c.put_sectors.ensures.reaches told) in
    let put = subst (λ n. IsPut l W M (slot_of c.args.map.now c.args.block) (slot_of n c.args.block) c.args.block (reads (held_in (stored g.S.Store c.put_sectors.new.store) c.args.head.now.volume))) c.in_ok-put_sectors.ensures.put
    (put-first c.args.block c.args.marks.now c.args.bytes.now _ _ _ then (c.in_ok-put_sectors.ensures.done told)) in
    let had : c.is_some-held.result ≡ is_some (slot_of c.args.map.now c.args.block) = search rules in
    subst (λ n. IsTrueOf l (held_in (stored g.S.Store c.end_block.new.store) c.args.head.now.volume) c.args.head.now (slot_of n)) (sym c.in_ok-put_sectors.ensures.put)
    (still-on c.requires.stands c.slot.ensures.map c.args.block c.args.marks.now c.args.bytes.now c.requires.within c.requires.slots was r put (works_layout c.args.head.now (works_then c.is_marked.ensures.works c.put_sectors.ensures.works)) had (subst (λ n. IsFinished (layout_now (stored g.S.Store c.put_sectors.new.store) c.args.head.now) (IsMarkedIn (layout_now (stored g.S.Store c.put_sectors.new.store) c.args.head.now).block c.args.block c.args.marks.now) (slot_of n) c.args.block (c.args.block + 1) c.is_some-held.result (held_in (stored g.S.Store c.put_sectors.new.store) c.args.head.now.volume) (held_in (stored g.S.Store c.end_block.new.store) c.args.head.now.volume)) c.in_ok-put_sectors.ensures.put (c.in_ok-end_block.ensures.done told)))

pub returns-clause-written : goal.returns-clause-written
returns-clause-written g c = λ told.
    let l = layout_now (stored g.S.Store c.args.store.now) c.args.head.now in
    let W = PutsMarkedIn l.block c.args.block c.args.marks.now c.args.bytes.now in
    let M = IsMarkedIn l.block c.args.block c.args.marks.now in
    let was = c.requires.is_true told in
    let then = works_layout c.args.head.now c.is_marked.ensures.works in
    let r = puts-first c.args.block c.args.marks.now c.args.bytes.now c.args.map.now then (c.is_marked.ensures.same told) (c.put_sectors.ensures.reaches told) in
    let put = subst (λ n. IsPut l W M (slot_of c.args.map.now c.args.block) (slot_of n c.args.block) c.args.block (reads (held_in (stored g.S.Store c.put_sectors.new.store) c.args.head.now.volume))) c.in_ok-put_sectors.ensures.put
    (put-first c.args.block c.args.marks.now c.args.bytes.now _ _ _ then (c.in_ok-put_sectors.ensures.done told)) in
    let had : c.is_some-held.result ≡ is_some (slot_of c.args.map.now c.args.block) = search rules in
    written-on c.requires.stands c.slot.ensures.map c.args.block c.args.marks.now c.args.bytes.now c.requires.within c.requires.slots was r put (works_layout c.args.head.now (works_then c.is_marked.ensures.works c.put_sectors.ensures.works)) had (subst (λ n. IsFinished (layout_now (stored g.S.Store c.put_sectors.new.store) c.args.head.now) (IsMarkedIn (layout_now (stored g.S.Store c.put_sectors.new.store) c.args.head.now).block c.args.block c.args.marks.now) (slot_of n) c.args.block (c.args.block + 1) c.is_some-held.result (held_in (stored g.S.Store c.put_sectors.new.store) c.args.head.now.volume) (held_in (stored g.S.Store c.end_block.new.store) c.args.head.now.volume)) c.in_ok-put_sectors.ensures.put (c.in_ok-end_block.ensures.done told))
