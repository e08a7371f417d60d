use Rattle.std.proofs.Common.{sym, arith}
use Rattle.tests_vhd.proofs.RoomLaws.{room-to-write}
use Rattle.tests_vhd.proofs.images.has_room.Goals as goal

pub returns-clause-room : goal.returns-clause-room
returns-clause-room c =
    room-to-write c.args.geometry.now c.args.sectors c.args.at c.args.length c.args.image.now c.in-Some.map.now (sym c.in-Some.ensures) c.slot-slot.ensures.map c.requires
    (record { some = omega arith; whole = omega arith; within = omega arith })
    (omega arith) (omega arith)
