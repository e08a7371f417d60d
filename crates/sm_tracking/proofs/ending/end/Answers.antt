use Rattle.sm_ready.proofs.TakenLaws.{is_told}
use Rattle.sm_tracking.proofs.EndLaws.{end_between, end_lasting, end_outcome, end_shape, may_end}
use Rattle.sm_tracking.proofs.ending.end.Goals as goal

pub stop-requires : goal.stop-requires
stop-requires g c = may_end g.S.Store c.args.store.now c.args.store.now c.args.memory.now c.args.disk.now c.args.memory.now.logs c.requires.session c.requires.tracked

pub returns-clause-session_still : goal.returns-clause-session_still
returns-clause-session_still g c =
    end_between g.S.Store c.args.store.now c.stop.new.store c.args.memory.now c.args.disk.now c.stop.new.logs c.requires.session c.requires.tracked c.stop.result c.stop.ensures.commits c.stop.ensures.logs

pub returns-clause-shape : goal.returns-clause-shape
returns-clause-shape g c =
    end_shape g.S.Store c.args.store.now c.stop.new.store c.args.memory.now c.args.disk.now c.stop.new.logs c.requires.session c.requires.tracked c.stop.result c.stop.ensures.commits c.stop.ensures.logs

pub returns-clause-lasting : goal.returns-clause-lasting
returns-clause-lasting g c =
    end_lasting g.S.Store c.args.store.now c.stop.new.store c.args.memory.now c.args.disk.now c.stop.new.logs c.requires.session c.requires.tracked c.stop.result c.stop.ensures.commits

pub returns-clause-removed : goal.returns-clause-removed
returns-clause-removed g c = λ told ready.
    end_outcome g.S.Store c.args.store.now c.stop.new.store c.args.memory.now c.args.disk.now c.stop.new.logs c.requires.session c.requires.tracked c.stop.result
    (is_told g.S.Store c.args.store.now c.args.memory.now c.requires.session.orderly c.requires.session.usable told ready (g.met.S.Store.leaves_now c.args.store.now told c.requires.session.usable))
    c.stop.ensures.commits c.stop.ensures.logs c.stop.ensures.fails c.stop.ensures.crash
