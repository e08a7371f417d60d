use Rattle.vg_meta.specs.Roomy.{table_alone}
use Rattle.vg_meta.specs.Tables.{rows, extents_of}
use Rattle.vg_volumes.proofs.StoredLaws.{works_keeps}
use Rattle.vg_volumes.proofs.VolumeLaws.{IsSettled-volume}
use Rattle.vg_volumes.proofs.CallLaws.{keeps_in}
use Rattle.vg_volumes.proofs.StoredLaws.{stays_from}
use Rattle.vhd_write.proofs.calls.settle.Goals as goal

pub returns-in_err-sync-clause-works : goal.returns-in_err-sync-clause-works
returns-in_err-sync-clause-works g c = let e = c.sync.ensures in works_keeps c.args.volume.now (stays_from e.site e.table e.no_less e.counts e.beside) e.keeps

pub returns-clause-works : goal.returns-clause-works
returns-clause-works g c = let e = c.sync.ensures in works_keeps c.args.volume.now (stays_from e.site e.table e.no_less e.counts e.beside) e.keeps

pub returns-in_err-sync-clause-keeps : goal.returns-in_err-sync-clause-keeps
returns-in_err-sync-clause-keeps g c = λ told. keeps_in c.args.volume.now (returns-in_err-sync-clause-works g c).stays (c.sync.ensures.keeps told)

pub returns-clause-keeps : goal.returns-clause-keeps
returns-clause-keeps g c = λ told. keeps_in c.args.volume.now (returns-clause-works g c).stays (c.sync.ensures.keeps told)

pub returns-clause-settled : goal.returns-clause-settled
returns-clause-settled g c = λ told.
    let s = c.sync.new.self in
    IsSettled-volume (g.S.Store.site s).geometry.extent (extents_of (rows (table_alone (g.S.Store.table s)) c.args.volume.now)) (g.S.Store.area s) (c.in_ok-sync.ensures.settled told)
