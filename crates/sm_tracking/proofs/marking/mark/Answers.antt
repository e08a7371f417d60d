use Rattle.std.proofs.Common.{List, ap}
use Rattle.sm_log.specs.Logs.{Log}
use Rattle.sm_ready.proofs.TakenLaws.{is_told}
use Rattle.sm_tracking.proofs.MarkLaws.{marked_between, marked_changed, room_marked}
use Rattle.sm_tracking.proofs.OrderLaws.{with_memory}
use Rattle.sm_tracking.proofs.marking.mark.Goals as goal

pub touch-requires-clause-room : goal.touch-requires-clause-room
touch-requires-clause-room g c = room_marked {g = g.S.Store} {a = c.args.store.now} c.args.memory.now c.args.disk.now c.requires.session

pub returns-clause-session_still : goal.returns-clause-session_still
returns-clause-session_still g c =
    marked_between {g = g.S.Store} c.args.memory.now c.args.disk.now c.args.sector c.args.count (with_memory c.touch.new.logs c.args.memory.now) (ap (λ (ls : List Log). with_memory ls c.args.memory.now) c.touch.ensures.logs) c.requires.session c.touch.ensures.works

pub returns-clause-marked : goal.returns-clause-marked
returns-clause-marked g c = λ told ready within.
    marked_changed {g = g.S.Store} c.args.memory.now c.args.disk.now c.args.sector c.args.count c.touch.new.logs c.touch.result
    (is_told g.S.Store c.args.store.now c.args.memory.now c.requires.session.orderly c.requires.session.usable told ready (g.met.S.Store.leaves_now c.args.store.now told c.requires.session.usable))
    c.touch.ensures.logs c.touch.ensures.works (g.met.S.Store.leaves_now c.touch.new.store) c.requires.some within c.touch.ensures.marks c.touch.ensures.lasts c.touch.ensures.still
