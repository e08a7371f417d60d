use Rattle.sm_recover.proofs.GiveBackLaws.{taken_room}
use Rattle.sm_recover.proofs.memory.take_out.Goals as goal

pub returns-clause-room : goal.returns-clause-room
returns-clause-room c = taken_room c.args.tree.now c.take.new.self c.args.name.now c.take.result c.rows-rows.ensures.order c.take.ensures.taken c.take.ensures.rows c.take.ensures.some c.take.ensures.none
