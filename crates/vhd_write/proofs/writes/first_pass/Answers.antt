use Rattle.std.proofs.Common.{length, subst}
use Rattle.sm_disk.specs.Held.{IsIn, Puts, reads}
use Rattle.sm_disk.proofs.ReachesLaws.{Reaches-same}
use Rattle.vhd_map.specs.Slots.{slot_of}
use Rattle.vg_volumes.specs.Stored.{stored, held_in}
use Rattle.vg_volumes.proofs.StoredLaws.{works_then}
use Rattle.vhd_write.specs.Passes.{ArePut}
use Rattle.vhd_write.proofs.WorkLaws.{works_layout, works_room}
use Rattle.vhd_write.proofs.TopLaws.{first-puts, first-places}
use Rattle.vhd_write.proofs.writes.first_pass.Goals as goal

pub put_blocks-requires-clause-room : goal.put_blocks-requires-clause-room
put_blocks-requires-clause-room g c = works_room _ c.is_complete.ensures.works c.requires.slots

pub returns-in_err-put_blocks-clause-works : goal.returns-in_err-put_blocks-clause-works
returns-in_err-put_blocks-clause-works g c = works_then c.is_complete.ensures.works c.put_blocks.ensures.works

pub returns-clause-works : goal.returns-clause-works
returns-clause-works g c = works_then c.is_complete.ensures.works c.put_blocks.ensures.works

pub returns-in_err-complete-clause-reaches : goal.returns-in_err-complete-clause-reaches
returns-in_err-complete-clause-reaches g c = λ told. Reaches-same _ (c.is_complete.ensures.same told)

pub returns-in_err-put_blocks-clause-reaches : goal.returns-in_err-put_blocks-clause-reaches
returns-in_err-put_blocks-clause-reaches g c = λ told.
    first-puts (Puts c.args.span.now.sector c.args.from.now) (slot_of c.args.map.now) (works_layout c.args.head.now c.is_complete.ensures.works) (c.is_complete.ensures.same told) (c.put_blocks.ensures.reaches told)

pub returns-clause-reaches : goal.returns-clause-reaches
returns-clause-reaches g c = λ told.
    first-puts (Puts c.args.span.now.sector c.args.from.now) (slot_of c.args.map.now) (works_layout c.args.head.now c.is_complete.ensures.works) (c.is_complete.ensures.same told) (c.put_blocks.ensures.reaches told)

pub returns-in_err-complete-clause-places : goal.returns-in_err-complete-clause-places
returns-in_err-complete-clause-places g c = λ told. Reaches-same _ (c.is_complete.ensures.same told)

pub returns-in_err-put_blocks-clause-places : goal.returns-in_err-put_blocks-clause-places
returns-in_err-put_blocks-clause-places g c = λ told.
    first-places (Puts c.args.span.now.sector c.args.from.now) (IsIn c.args.span.now.sector (length c.args.from.now)) (slot_of c.args.map.now) _ (works_layout c.args.head.now c.is_complete.ensures.works) (c.is_complete.ensures.same told) (c.put_blocks.ensures.places told)

pub returns-clause-places : goal.returns-clause-places
returns-clause-places g c = λ told.
    first-places (Puts c.args.span.now.sector c.args.from.now) (IsIn c.args.span.now.sector (length c.args.from.now)) (slot_of c.args.map.now) _ (works_layout c.args.head.now c.is_complete.ensures.works) (c.is_complete.ensures.same told) (c.put_blocks.ensures.places told)

pub returns-clause-done : goal.returns-clause-done
returns-clause-done g c = λ told.
    let s = c.args.span.now in
    let mid = held_in (stored g.S.Store c.put_blocks.new.store) c.args.head.now.volume in
    subst (λ l. ArePut l (Puts s.sector c.args.from.now) (IsIn s.sector (length c.args.from.now)) (slot_of c.args.map.now) (slot_of c.put_blocks.new.map) s.end (reads mid))
    (works_layout c.args.head.now c.is_complete.ensures.works) (c.in_ok-put_blocks.ensures.done told)
