use Rattle.std.proofs.Common.{◌≡◌, length, rules}
use Rattle.sm_disk.specs.Held.{Held, Torn, Wrote}
use Rattle.vg_volumes.specs.Stored.{stored, held_in}
use Rattle.vg_volumes.proofs.CallLaws.{works_from, held_from}
use Rattle.vg_volumes.proofs.StoredLaws.{stays_from}
use Rattle.vhd_image.proofs.CallLaws.{may_put, reads-put}
use Rattle.vhd_image.proofs.steps.put_sector.Goals as goal

pub returns-in_err-write-clause-works : goal.returns-in_err-write-clause-works
returns-in_err-write-clause-works g c = let e = c.write.ensures in works_from c.args.volume.now (stays_from e.site e.table e.no_less e.counts e.beside) e.elsewhere

pub returns-clause-works : goal.returns-clause-works
returns-clause-works g c = let e = c.write.ensures in works_from c.args.volume.now (stays_from e.site e.table e.no_less e.counts e.beside) e.elsewhere

pub returns-in_err-write-clause-may_put : goal.returns-in_err-write-clause-may_put
returns-in_err-write-clause-may_put g c = λ told.
    let long : length c.args.from.now ≡ 512 = search rules in
    let a = held_in (stored g.S.Store c.args.store.now) c.args.volume.now in
    may_put long (held_from c.args.volume.now (λ (h : Held). Torn c.args.at c.args.from.now a h) (returns-in_err-write-clause-works g c).stays (c.write.ensures.torn told))

pub returns-clause-may_put : goal.returns-clause-may_put
returns-clause-may_put g c = λ told.
    let long : length c.args.from.now ≡ 512 = search rules in
    let a = held_in (stored g.S.Store c.args.store.now) c.args.volume.now in
    may_put long (held_from c.args.volume.now (λ (h : Held). Torn c.args.at c.args.from.now a h) (returns-clause-works g c).stays (c.write.ensures.torn told))

pub returns-clause-put : goal.returns-clause-put
returns-clause-put g c = λ told.
    let long : length c.args.from.now ≡ 512 = search rules in
    let a = held_in (stored g.S.Store c.args.store.now) c.args.volume.now in
    reads-put long (held_from c.args.volume.now (λ (h : Held). Wrote c.args.at c.args.from.now a h) (returns-clause-works g c).stays (c.in_ok-write.ensures.wrote told))
