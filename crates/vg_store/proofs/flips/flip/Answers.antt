use Rattle.std.proofs.Common.{◌≡◌, length, inl, arith}
use Rattle.sm_disk.proofs.HeldLaws.{Keeps-then}
use Rattle.vg_layout.specs.Fields.{places_in, pointer}
use Rattle.vg_layout.specs.Places.{area_place}
use Rattle.vg_store.proofs.CommitLaws.{slot_crash, slot_stands, header_crash, header_stands, group_after, area_same}
use Rattle.vg_store.proofs.BesideLaws.{beside_reached}
use Rattle.vg_store.proofs.FlipLaws.{current_apart, in_front, slot_clear, header_clear, header_front, whole_from, len_most, reaches_area, other_place, in_slot, step_of, header_puts, header_staged}
use Rattle.vg_store.proofs.flips.flip.Goals as goal

pub put-requires : goal.put-requires
put-requires g c =
    whole_from (places_in c.args.frame.now) c.args.next.now.slot c.place.result (length c.args.text.now) c.args.next.now.length (g.D.Disk.size c.args.disk.now) c.requires.apart
    c.place.ensures c.requires.sectors c.requires.fits c.requires.some

pub returns-in_err-put-clause-keeps : goal.returns-in_err-put-clause-keeps
returns-in_err-put-clause-keeps g c = λ told layout own.
    area_same layout c.place.result _ _ c.args.text.now
    (in_front (places_in c.args.frame.now) (area_place layout) c.args.next.now.slot c.place.result (length c.args.text.now) c.args.next.now.length (current_apart layout (places_in c.args.frame.now) own) c.place.ensures c.requires.sectors c.requires.fits)
    (c.put.ensures.reaches told)

pub returns-in_err-put-clause-crash : goal.returns-in_err-put-clause-crash
returns-in_err-put-clause-crash g c = λ told area p at t u bytes n fits v image left.
    slot_crash _ area _ _ p at t u v bytes c.args.text.now c.place.result image n.group fits (other_place n c.place.result c.place.ensures)
    (in_slot n (length c.args.text.now) (len_most (places_in c.args.frame.now) (length c.args.text.now) c.args.next.now.length c.requires.sectors c.requires.fits)) (c.put.ensures.reaches told) left

pub returns-in_err-put-clause-stands : goal.returns-in_err-put-clause-stands
returns-in_err-put-clause-stands g c = λ told p at t u bytes n image allowed.
    inl (slot_stands _ _ _ p at t bytes c.args.text.now c.place.result image n.group (reaches_area n) (other_place n c.place.result c.place.ensures)
    (in_slot n (length c.args.text.now) (len_most (places_in c.args.frame.now) (length c.args.text.now) c.args.next.now.length c.requires.sectors c.requires.fits)) (c.put.ensures.reaches told) allowed)

pub returns-in_err-put-clause-beside : goal.returns-in_err-put-clause-beside
returns-in_err-put-clause-beside g c = λ told layout area own.
    beside_reached layout area c.place.result _ _ c.args.text.now
    (slot_clear (places_in c.args.frame.now) layout c.args.next.now.slot c.place.result (length c.args.text.now) c.args.next.now.length own c.place.ensures c.requires.sectors c.requires.fits)
    (in_front (places_in c.args.frame.now) (area_place layout) c.args.next.now.slot c.place.result (length c.args.text.now) c.args.next.now.length (current_apart layout (places_in c.args.frame.now) own) c.place.ensures c.requires.sectors c.requires.fits)
    (c.put.ensures.reaches told)

pub returns-in_err-put-2-clause-keeps : goal.returns-in_err-put-2-clause-keeps
returns-in_err-put-2-clause-keeps g c = λ told layout own.
    let long : length c.write.new.to ≡ 512 = omega arith in
    Keeps-then
    (area_same layout c.place.result _ _ c.args.text.now
    (in_front (places_in c.args.frame.now) (area_place layout) c.args.next.now.slot c.place.result (length c.args.text.now) c.args.next.now.length (current_apart layout (places_in c.args.frame.now) own) c.place.ensures c.requires.sectors c.requires.fits)
    (c.put.ensures.reaches told))
    (area_same layout c.args.frame.now.header _ _ c.write.new.to (header_front (places_in c.args.frame.now) (area_place layout) (length c.write.new.to) (current_apart layout (places_in c.args.frame.now) own) long) (c.put-2.ensures.reaches told))

pub returns-in_err-put-2-clause-crash : goal.returns-in_err-put-2-clause-crash
returns-in_err-put-2-clause-crash g c = λ told area p at t u bytes n fits v image left.
    let long : length c.write.new.to ≡ 512 = omega arith in
    header_crash _ area _ _ _ p at (pointer c.args.next.now) t u v bytes c.args.text.now c.write.new.to c.place.result image
    (step_of n c.place.result c.place.ensures (record { settled = c.in_ok-put.ensures.settled told; within = c.in_ok-put.ensures.within told; elsewhere = c.in_ok-put.ensures.elsewhere told }))
    fits c.write.ensures long (header_puts n c.write.new.to (c.put-2.ensures.reaches told)) left

pub returns-in_err-put-2-clause-stands : goal.returns-in_err-put-2-clause-stands
returns-in_err-put-2-clause-stands g c = λ told p at t u bytes n image allowed.
    let long : length c.write.new.to ≡ 512 = omega arith in
    header_stands _ _ _ _ p at (pointer c.args.next.now) t u bytes c.args.text.now c.write.new.to c.place.result image
    (step_of n c.place.result c.place.ensures (record { settled = c.in_ok-put.ensures.settled told; within = c.in_ok-put.ensures.within told; elsewhere = c.in_ok-put.ensures.elsewhere told }))
    (reaches_area n) c.write.ensures long (header_puts n c.write.new.to (c.put-2.ensures.reaches told)) allowed

pub returns-in_err-put-2-clause-beside : goal.returns-in_err-put-2-clause-beside
returns-in_err-put-2-clause-beside g c = λ told layout area own.
    let long : length c.write.new.to ≡ 512 = omega arith in
    Keeps-then
    (beside_reached layout area c.place.result _ _ c.args.text.now
    (slot_clear (places_in c.args.frame.now) layout c.args.next.now.slot c.place.result (length c.args.text.now) c.args.next.now.length own c.place.ensures c.requires.sectors c.requires.fits)
    (in_front (places_in c.args.frame.now) (area_place layout) c.args.next.now.slot c.place.result (length c.args.text.now) c.args.next.now.length (current_apart layout (places_in c.args.frame.now) own) c.place.ensures c.requires.sectors c.requires.fits)
    (c.put.ensures.reaches told))
    (beside_reached layout area c.args.frame.now.header _ _ c.write.new.to (header_clear (places_in c.args.frame.now) layout (length c.write.new.to) own long)
    (header_front (places_in c.args.frame.now) (area_place layout) (length c.write.new.to) (current_apart layout (places_in c.args.frame.now) own) long) (c.put-2.ensures.reaches told))

pub returns-clause-keeps : goal.returns-clause-keeps
returns-clause-keeps g c = λ told layout own.
    let long : length c.write.new.to ≡ 512 = omega arith in
    Keeps-then
    (area_same layout c.place.result _ _ c.args.text.now
    (in_front (places_in c.args.frame.now) (area_place layout) c.args.next.now.slot c.place.result (length c.args.text.now) c.args.next.now.length (current_apart layout (places_in c.args.frame.now) own) c.place.ensures c.requires.sectors c.requires.fits)
    (c.put.ensures.reaches told))
    (area_same layout c.args.frame.now.header _ _ c.write.new.to (header_front (places_in c.args.frame.now) (area_place layout) (length c.write.new.to) (current_apart layout (places_in c.args.frame.now) own) long) (c.put-2.ensures.reaches told))

pub returns-clause-crash : goal.returns-clause-crash
returns-clause-crash g c = λ told area p at t u bytes n fits v image left.
    let long : length c.write.new.to ≡ 512 = omega arith in
    header_crash _ area _ _ _ p at (pointer c.args.next.now) t u v bytes c.args.text.now c.write.new.to c.place.result image
    (step_of n c.place.result c.place.ensures (record { settled = c.in_ok-put.ensures.settled told; within = c.in_ok-put.ensures.within told; elsewhere = c.in_ok-put.ensures.elsewhere told }))
    fits c.write.ensures long (header_puts n c.write.new.to (c.put-2.ensures.reaches told)) left

pub returns-clause-stands : goal.returns-clause-stands
returns-clause-stands g c = λ told p at t u bytes n image allowed.
    let long : length c.write.new.to ≡ 512 = omega arith in
    header_stands _ _ _ _ p at (pointer c.args.next.now) t u bytes c.args.text.now c.write.new.to c.place.result image
    (step_of n c.place.result c.place.ensures (record { settled = c.in_ok-put.ensures.settled told; within = c.in_ok-put.ensures.within told; elsewhere = c.in_ok-put.ensures.elsewhere told }))
    (reaches_area n) c.write.ensures long (header_puts n c.write.new.to (c.put-2.ensures.reaches told)) allowed

pub returns-clause-flipped : goal.returns-clause-flipped
returns-clause-flipped g c = λ told p at t u bytes n.
    let long : length c.write.new.to ≡ 512 = omega arith in
    group_after _ _ _ _ p at (pointer c.args.next.now) t u bytes c.args.text.now c.write.new.to c.place.result
    (step_of n c.place.result c.place.ensures (record { settled = c.in_ok-put.ensures.settled told; within = c.in_ok-put.ensures.within told; elsewhere = c.in_ok-put.ensures.elsewhere told }))
    c.write.ensures long
    (header_staged n (record { settled = c.in_ok-put-2.ensures.settled told; within = c.in_ok-put-2.ensures.within told; elsewhere = c.in_ok-put-2.ensures.elsewhere told }))

pub returns-clause-beside : goal.returns-clause-beside
returns-clause-beside g c = λ told layout area own.
    let long : length c.write.new.to ≡ 512 = omega arith in
    Keeps-then
    (beside_reached layout area c.place.result _ _ c.args.text.now
    (slot_clear (places_in c.args.frame.now) layout c.args.next.now.slot c.place.result (length c.args.text.now) c.args.next.now.length own c.place.ensures c.requires.sectors c.requires.fits)
    (in_front (places_in c.args.frame.now) (area_place layout) c.args.next.now.slot c.place.result (length c.args.text.now) c.args.next.now.length (current_apart layout (places_in c.args.frame.now) own) c.place.ensures c.requires.sectors c.requires.fits)
    (c.put.ensures.reaches told))
    (beside_reached layout area c.args.frame.now.header _ _ c.write.new.to (header_clear (places_in c.args.frame.now) layout (length c.write.new.to) own long)
    (header_front (places_in c.args.frame.now) (area_place layout) (length c.write.new.to) (current_apart layout (places_in c.args.frame.now) own) long) (c.put-2.ensures.reaches told))
