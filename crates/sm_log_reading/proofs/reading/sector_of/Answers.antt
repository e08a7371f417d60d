use Rattle.std.proofs.Common.{◌≡◌, length, rules}
use Rattle.sm_disk.proofs.HeldLaws.{gave_one}
use Rattle.vg_volumes.specs.Stored.{stored, held_in}
use Rattle.vg_volumes.proofs.CallLaws.{reads_from}
use Rattle.vg_volumes.proofs.StoredLaws.{stays_from}
use Rattle.sm_log_reading.proofs.reading.sector_of.Goals as goal

pub returns-in_err-read-clause-only : goal.returns-in_err-read-clause-only
returns-in_err-read-clause-only g c = let e = c.read.ensures in reads_from (stays_from e.site e.table e.no_less e.counts e.beside) e.device e.same e.leaves

pub returns-clause-only : goal.returns-clause-only
returns-clause-only g c = let e = c.read.ensures in reads_from (stays_from e.site e.table e.no_less e.counts e.beside) e.device e.same e.leaves

pub returns-clause-gave : goal.returns-clause-gave
returns-clause-gave g c = λ told.
    let long : length c.read.new.to ≡ 512 = search rules in
    gave_one _ (held_in (stored g.S.Store c.args.store.now) c.args.volume.now) _ long (c.in_ok-read.ensures.gave told)
