use Rattle.sm_ready.proofs.ShowLaws.{settled_ready}
use Rattle.sm_ready.proofs.TakenLaws.{is_told}
use Rattle.sm_recover.proofs.TakenOver.{one_table}
use Rattle.sm_ready.specs.Stores.{store_content}
use Rattle.sm_session.proofs.PassLaws.{kept_passes}
use Rattle.sm_session.proofs.TellingLaws.{opened_told}
use Rattle.sm_session.proofs.sessions.Session.begin.Goals as goal

pub returns-in_default-clause-few_left : goal.returns-in_default-clause-few_left
returns-in_default-clause-few_left g c = λ told.
    one_table g.S.Store c.args.store (g.met.S.Store.versions c.args.store) c.requires.usable (g.met.S.Store.leaves_old c.args.store told) (g.met.S.Store.leaves_now c.args.store told)

pub returns-in_default-new-clause-few_left : goal.returns-in_default-new-clause-few_left
returns-in_default-new-clause-few_left g c = λ told.
    one_table g.S.Store c.args.store (g.met.S.Store.versions c.args.store) c.requires.usable (g.met.S.Store.leaves_old c.args.store told) (g.met.S.Store.leaves_now c.args.store told)

pub returns-in-Ok-settle-clause-kept : goal.returns-in-Ok-settle-clause-kept
returns-in-Ok-settle-clause-kept g c = λ told holding.
    let e = c.in-Ok-settle.ensures in
    kept_passes (is_told g.S.Store c.settle.new.store c.in-Ok-settle.memory e.orderly e.usable_still told (e.ready told holding) (g.met.S.Store.leaves_now c.settle.new.store told e.usable_still)) e.good_logs

pub returns-in-Ok-settle-clause-begins : goal.returns-in-Ok-settle-clause-begins
returns-in-Ok-settle-clause-begins g c = λ told holding.
    let e = c.in-Ok-settle.ensures in
    settled_ready (is_told g.S.Store c.settle.new.store c.in-Ok-settle.memory e.orderly e.usable_still told (e.ready told holding) (g.met.S.Store.leaves_now c.settle.new.store told e.usable_still)) (e.settled told)

pub returns-in-Ok-settle-clause-told : goal.returns-in-Ok-settle-clause-told
returns-in-Ok-settle-clause-told g c = λ told holding truthful.
    let e = c.in-Ok-settle.ensures in
    opened_told (is_told g.S.Store c.settle.new.store c.in-Ok-settle.memory e.orderly e.usable_still told (e.ready told holding) (g.met.S.Store.leaves_now c.settle.new.store told e.usable_still)) e.good_logs
    (store_content g.S.Store c.args.store) (e.settled told) (e.disks told holding) (e.logs told holding) truthful
