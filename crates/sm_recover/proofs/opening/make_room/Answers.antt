use Rattle.std.proofs.Common.{length, ap, ◌∙◌, arith}
use Rattle.vg_meta.specs.Roomy.{RoomyTable}
use Rattle.vg_volumes.proofs.StoredLaws.{reads_room}
use Rattle.sm_ready.proofs.RowRoomLaws.{rows_made}
use Rattle.sm_recover.proofs.opening.make_room.Goals as goal

pub returns-clause-room : goal.returns-clause-room
returns-clause-room g c =
    rows_made (g.S.Store.table c.args.store.now) (g.S.Store.table c.reserve_rows.new.self) (length c.volumes-rows.result.now)
    (ap length c.volumes-rows.ensures.volumes ∙ ap (λ (k : RoomyTable). length k.rows) c.table.ensures.table) c.reserve_rows.ensures.table
    (omega (arith, c.saturating_sub.ensures, c.in_ok-reserve_rows.ensures.made))

pub returns-in_err-reserve_rows-clause-reads : goal.returns-in_err-reserve_rows-clause-reads
returns-in_err-reserve_rows-clause-reads g c = let e = c.reserve_rows.ensures in reads_room e.same e.device e.table e.no_less e.leaves

pub returns-clause-reads : goal.returns-clause-reads
returns-clause-reads g c = let e = c.reserve_rows.ensures in reads_room e.same e.device e.table e.no_less e.leaves
