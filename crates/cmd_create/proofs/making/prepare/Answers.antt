use Rattle.vg_volumes.proofs.StoredLaws.{reads_room}
use Rattle.cmd_create.proofs.making.prepare.Goals as goal

pub returns-in_err-reserve_rows-clause-reads : goal.returns-in_err-reserve_rows-clause-reads
returns-in_err-reserve_rows-clause-reads g c = let e = c.reserve_rows.ensures in reads_room e.same e.device e.table e.no_less e.leaves

pub returns-clause-reads : goal.returns-clause-reads
returns-clause-reads g c = let e = c.reserve_rows.ensures in reads_room e.same e.device e.table e.no_less e.leaves
