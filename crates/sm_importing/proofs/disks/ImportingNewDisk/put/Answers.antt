use Rattle.std.proofs.Common.{◌≡◌, Err, sym, ap, ap₂, ◌∙◌, subst, subst₂}
use Rattle.vhd_import.specs.Making.{AnswersRoom, put_lacks}
use Rattle.vhd_import.specs.Puts.{Put}
use Rattle.vhd_import.specs.Room.{Target}
use Rattle.sm_importing.specs.Disks.{HoldsPuts, room_for, target_of}
use Rattle.sm_importing.proofs.FaultLaws.{not_device, ok_not, put_device}
use Rattle.sm_importing.proofs.SinceLaws.{put_since, stopped_since}
use Rattle.sm_importing.proofs.disks.ImportingNewDisk.put.Goals as goal

pub returns-in-Ok-clause-holds : goal.returns-in-Ok-clause-holds
returns-in-Ok-clause-holds g c = λ puts h. (h.0, c.in-Ok.ensures.holds (target_of c.args.self.now.sizes c.args.self.now.room) puts h.1)

pub returns-in-Ok-clause-since : goal.returns-in-Ok-clause-since
returns-in-Ok-clause-since g c = λ o h.
    let e = c.put_sector-done.ensures in
    put_since c.put_sector-done.new.store e.step c.if-self.false c.requires.begun (e.grows (ok_not _ _ _ c.in-Ok.is)) (e.since (ok_not _ _ _ c.in-Ok.is)) h

pub returns-then-is_device-clause-since : goal.returns-then-is_device-clause-since
returns-then-is_device-clause-since g c = λ o h.
    let e = c.put_sector-done.ensures in
    stopped_since c.put_sector-done.new.store e.step c.if-self.false c.requires.begun (e.device (c.in-Err.is ∙ ap Err (put_device c.in-Err.fault (sym c.is_device.ensures ∙ c.if-is_device.true)))) e.stops h

pub returns-else-is_device-clause-since : goal.returns-else-is_device-clause-since
returns-else-is_device-clause-since g c = λ o h.
    let e = c.put_sector-done.ensures in
    let calm = not_device c.put_sector-done.result c.in-Err.fault c.in-Err.is (sym c.is_device.ensures ∙ c.if-is_device.false) in
    put_since c.put_sector-done.new.store e.step c.if-self.false c.requires.begun (e.grows calm) (e.since calm) h

pub returns-else-is_device-clause-room : goal.returns-else-is_device-clause-room
returns-else-is_device-clause-room g c = λ puts h.
    let s = c.args.self.now in
    let whole = c.if-self.false in
    let p : Put = record { sector = c.args.sector; bytes = c.args.bytes.now } in
    let same : target_of s.sizes s.room ≡ target_of s.filling.geometry (room_for g.S.Store s.store s.disk) = ap₂ target_of (s.sizes_are whole) (s.room_is whole c.requires.begun) in
    subst₂ (λ (x : Target) r. AnswersRoom (put_lacks x p puts) r) (sym same) c.in-Err.is
    (c.put_sector-done.ensures.room puts (subst (λ (x : Target). HoldsPuts g.S.Store s.filling s.store x puts) same h.1))
