use Rattle.std.proofs.Common.{Err, refl, sym, ap, ◌∙◌, subst}
use Rattle.std.proofs.lemmas.Bool.{true≢false}
use Rattle.vhd_import.specs.Making.{AnswersRoom, begin_lacks}
use Rattle.vhd_import.specs.declared.disks.PutFault.{PutFault}
use Rattle.sm_importing.specs.Disks.{target_of}
use Rattle.sm_importing.proofs.PutLaws.{begin_enough, begin_lack, begun_few, begun_filled, begun_holds, begun_room}
use Rattle.sm_ready.proofs.FramingLaws.{reads_between}
use Rattle.sm_importing.proofs.AnswerLaws.{err_has}
use Rattle.sm_importing.proofs.FaultLaws.{device_is, device_not, not_device, put_device}
use Rattle.sm_importing.proofs.SinceLaws.{cut_since, made_since, unmade_since}
use Rattle.sm_importing.proofs.disks.ImportingNewDisk.begin.Goals as goal

pub invariant_of-self : goal.invariant_of-self
invariant_of-self g c =
    let s = c.args.self.now in
    let h = s.to_begin c.if-self.false c.requires.new in
    let e = c.in-Ok.ensures in
    record {
      to_begin = λ whole begun. absurd (true≢false begun);
      filled = λ whole begun. begun_filled h s.sizes (s.sizes_are whole) e.step.site e.importing e.table e.volumes;
      room_is = λ whole begun. begun_room h s.sizes (s.sizes_are whole) e.step.site e.importing e.table e.volumes;
      unmade = λ over begun. absurd (true≢false begun);
      sizes_are = s.sizes_are;
    }

pub returns-in-Ok-clause-holds : goal.returns-in-Ok-clause-holds
returns-in-Ok-clause-holds g c =
    let s = c.args.self.now in
    let whole = c.if-self.false in
    let e = c.in-Ok.ensures in
    (whole, begun_holds (s.to_begin whole c.requires.new) s.sizes (s.sizes_are whole) e.step.site e.importing e.table e.volumes)

pub returns-in-Ok-clause-room : goal.returns-in-Ok-clause-room
returns-in-Ok-clause-room g c =
    let s = c.args.self.now in
    let whole = c.if-self.false in
    let e = c.in-Ok.ensures in
    begin_enough (s.to_begin whole c.requires.new) s.sizes (s.sizes_are whole) e.step.site e.importing e.table e.volumes

pub returns-in-Ok-clause-since : goal.returns-in-Ok-clause-since
returns-in-Ok-clause-since g c = λ o h.
    let s = c.args.self.now in
    let whole = c.if-self.false in
    let e = c.in-Ok.ensures in
    let few = begun_few (s.to_begin whole c.requires.new) s.sizes (s.sizes_are whole) e.step.site e.importing e.table e.volumes e.step.few in
    made_since c.begin-made.new.store e.step whole c.requires.new few e.since h

pub returns-then-is_device-clause-since : goal.returns-then-is_device-clause-since
returns-then-is_device-clause-since g c = λ o h.
    let e = c.begin-made.ensures in
    let device = put_device c.put_fault-why.result (sym c.is_device.ensures ∙ c.if-is_device.true) in
    let failed = e.cause.device (device_is c.begin-made.result c.in-Err.fault c.put_fault-why.result c.in-Err.is c.put_fault-why.ensures (ap Err device)) in
    cut_since c.begin-made.new.store e.step c.if-self.false c.requires.new failed e.stops h

pub invariant_of-self-else-is_device : goal.invariant_of-self-else-is_device
invariant_of-self-else-is_device g c =
    let s = c.args.self.now in
    let e = c.begin-made.ensures in
    let other = sym c.is_device.ensures ∙ c.if-is_device.false in
    let calm = device_not c.begin-made.result c.in-Err.fault c.put_fault-why.result c.in-Err.is c.put_fault-why.ensures (not_device (Err c.put_fault-why.result) c.put_fault-why.result refl other) in
    record {
      to_begin = λ whole begun. absurd (true≢false whole);
      filled = λ whole begun. absurd (true≢false whole);
      room_is = λ whole begun. absurd (true≢false whole);
      unmade = λ over new. reads_between s.memory (err_has c.begin-made.result c.in-Err.fault c.in-Err.is e.poor calm).0 (s.to_begin c.if-self.false new).session;
      sizes_are = λ whole. absurd (true≢false whole);
    }

pub returns-else-is_device-clause-room : goal.returns-else-is_device-clause-room
returns-else-is_device-clause-room g c =
    let s = c.args.self.now in
    let whole = c.if-self.false in
    subst (λ (why : PutFault). AnswersRoom (begin_lacks (target_of s.sizes s.room)) (Err why)) (sym c.put_fault-why.ensures)
    (begin_lack (s.to_begin whole c.requires.new) s.sizes (s.sizes_are whole) c.in-Err.fault c.in-Err.ensures.lack)

pub returns-else-is_device-clause-since : goal.returns-else-is_device-clause-since
returns-else-is_device-clause-since g c = λ o h.
    let e = c.begin-made.ensures in
    unmade_since c.begin-made.new.store e.step c.if-self.false c.requires.new e.stops h
