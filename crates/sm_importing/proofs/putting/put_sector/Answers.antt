use Rattle.std.proofs.Common.{Err, sym, subst}
use Rattle.vhd_import.specs.Making.{AnswersRoom, put_lacks}
use Rattle.vhd_import.specs.declared.disks.PutFault.{PutFault}
use Rattle.sm_importing.specs.Disks.{room_for, target_of}
use Rattle.sm_importing.proofs.FaultLaws.{device_not, ok_not}
use Rattle.sm_importing.proofs.PutLaws.{asks_lack, asks_room, holds_put}
use Rattle.sm_importing.proofs.WriteLaws.{put_filled, put_goes_on, put_grows, put_steps, put_still, put_stops, room_fills, room_had, room_more}
use Rattle.sm_importing.proofs.putting.put_sector.Goals as goal

pub put-requires-clause-fills : goal.put-requires-clause-fills
put-requires-clause-fills g c = room_fills c.in-Ok.ensures.room

pub put-requires-clause-room : goal.put-requires-clause-room
put-requires-clause-room g c = room_had c.in-Ok.ensures.room

pub put-requires-clause-room_more : goal.put-requires-clause-room_more
put-requires-clause-room_more g c = room_more c.in-Ok.ensures.room

-- ---- the sector was put

pub returns-in-Ok-put-clause-step : goal.returns-in-Ok-put-clause-step
returns-in-Ok-put-clause-step g c = put_steps c.in-Ok.ensures.room c.put.ensures.works g.met.S.Store.leaves_now c.make_room-room.ensures.step

pub returns-in-Ok-put-clause-grows : goal.returns-in-Ok-put-clause-grows
returns-in-Ok-put-clause-grows g c = λ calm. put_grows c.in-Ok.ensures.room c.put.ensures.works (c.make_room-room.ensures.grows (ok_not _ _ _ c.in-Ok.is))

pub returns-in-Ok-put-clause-still : goal.returns-in-Ok-put-clause-still
returns-in-Ok-put-clause-still g c = λ had told. put_still c.in-Ok.ensures.room c.put.ensures.works c.in-Ok.ensures.still c.put.ensures.beside had told

pub returns-in-Ok-put-clause-filled : goal.returns-in-Ok-put-clause-filled
returns-in-Ok-put-clause-filled g c = λ calm.
    let e = c.in-Ok-put.ensures in
    put_filled c.in-Ok.ensures.room c.put.ensures.works c.put.new.self e.fills e.volume e.as_many e.one_more

pub returns-in-Ok-put-clause-holds : goal.returns-in-Ok-put-clause-holds
returns-in-Ok-put-clause-holds g c =
    let e = c.in-Ok-put.ensures in
    holds_put c.make_room-room.new.store c.args.sector c.args.bytes.now c.requires.filled.fills c.requires.within c.in-Ok.ensures.held e.held e.geometry e.map e.map_more

pub returns-in-Ok-put-clause-room : goal.returns-in-Ok-put-clause-room
returns-in-Ok-put-clause-room g c = λ puts holds.
    asks_room c.requires.filled c.args.sector c.args.bytes.now c.requires.within puts holds c.in-Ok.ensures.enough

pub returns-in-Ok-put-clause-since : goal.returns-in-Ok-put-clause-since
returns-in-Ok-put-clause-since g c = λ calm o since.
    put_goes_on c.in-Ok.ensures.room c.put.ensures.works g.met.S.Store.leaves_now (c.make_room-room.ensures.since (ok_not _ _ _ c.in-Ok.is)) o since

pub returns-in-Ok-put-clause-stops : goal.returns-in-Ok-put-clause-stops
returns-in-Ok-put-clause-stops g c = λ o since.
    put_stops c.in-Ok.ensures.room c.put.ensures.works g.met.S.Store.leaves_now (c.make_room-room.ensures.since (ok_not _ _ _ c.in-Ok.is)) o since

-- ---- a call of the store failed

pub returns-in-Err-put-clause-step : goal.returns-in-Err-put-clause-step
returns-in-Err-put-clause-step g c = put_steps c.in-Ok.ensures.room c.put.ensures.works g.met.S.Store.leaves_now c.make_room-room.ensures.step

pub returns-in-Err-put-clause-stops : goal.returns-in-Err-put-clause-stops
returns-in-Err-put-clause-stops g c = λ o since.
    put_stops c.in-Ok.ensures.room c.put.ensures.works g.met.S.Store.leaves_now (c.make_room-room.ensures.since (ok_not _ _ _ c.in-Ok.is)) o since

-- ---- there is no room

pub returns-in-Err-clause-room : goal.returns-in-Err-clause-room
returns-in-Err-clause-room g c = λ puts holds.
    let lacking = put_lacks (target_of c.args.filling.now.geometry (room_for g.S.Store c.args.store.now c.args.disk.now)) (record { sector = c.args.sector; bytes = c.args.bytes.now }) puts in
    subst (λ (why : PutFault). AnswersRoom lacking (Err why)) (sym c.put_fault.ensures)
    (asks_lack c.requires.filled c.args.sector c.args.bytes.now c.requires.within puts holds c.in-Err.fault c.in-Err.ensures.takes c.in-Err.ensures.lack)

pub returns-in-Err-clause-grows : goal.returns-in-Err-clause-grows
returns-in-Err-clause-grows g c = λ calm.
    c.make_room-room.ensures.grows (device_not c.make_room-room.result c.in-Err.fault c.put_fault.result c.in-Err.is c.put_fault.ensures calm)

pub returns-in-Err-clause-since : goal.returns-in-Err-clause-since
returns-in-Err-clause-since g c = λ calm.
    c.make_room-room.ensures.since (device_not c.make_room-room.result c.in-Err.fault c.put_fault.result c.in-Err.is c.put_fault.ensures calm)
