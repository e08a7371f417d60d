use Rattle.std.proofs.Common.{◌+◌, take, drop, ◌∙◌, arith}
use Rattle.vg_meta.specs.Roomy.{rows_alone}
use Rattle.vg_meta.specs.Changes.{without}
use Rattle.vg_meta.proofs.SpliceLaws.{room_as, room_front, room_back, few_all, puts_as, rows_then, two_pieces, without_place}
use Rattle.vg_meta.proofs.splices.put_removed.Goals as goal

pub put_volumes-back_at-requires-clause-few : goal.put_volumes-back_at-requires-clause-few
put_volumes-back_at-requires-clause-few c =
    let front = c.split_at.result.0.now in
    let back = c.split_at-2.result.1.now in
    let hs = c.args.volumes.now in
    few_all front c.args.at _
    (room_front (rows_alone front) (rows_alone back) c.args.at _
    (room_as _ (without c.args.name.now (rows_alone hs)) c.args.at _
    (two_pieces front back (take c.in-Some.index hs) (drop (c.in-Some.index + 1) hs) c.split_at.ensures.front c.split_at-2.ensures.back
    ∙ without_place hs c.args.name.now c.in-Some.index c.in-Some.ensures.found) c.requires.room))

pub put_volumes-back_at-requires-clause-room : goal.put_volumes-back_at-requires-clause-room
put_volumes-back_at-requires-clause-room c =
    let front = c.split_at.result.0.now in
    let back = c.split_at-2.result.1.now in
    let hs = c.args.volumes.now in
    (room_front (rows_alone front) (rows_alone back) c.args.at _
    (room_as _ (without c.args.name.now (rows_alone hs)) c.args.at _
    (two_pieces front back (take c.in-Some.index hs) (drop (c.in-Some.index + 1) hs) c.split_at.ensures.front c.split_at-2.ensures.back
    ∙ without_place hs c.args.name.now c.in-Some.index c.in-Some.ensures.found) c.requires.room)).room

pub put_volumes-requires-clause-few : goal.put_volumes-requires-clause-few
put_volumes-requires-clause-few c =
    let front = c.split_at.result.0.now in
    let back = c.split_at-2.result.1.now in
    let hs = c.args.volumes.now in
    few_all back c.put_volumes-back_at.result _
    (room_back (rows_alone front) (rows_alone back) c.args.at c.put_volumes-back_at.result _
    (room_as _ (without c.args.name.now (rows_alone hs)) c.args.at _
    (two_pieces front back (take c.in-Some.index hs) (drop (c.in-Some.index + 1) hs) c.split_at.ensures.front c.split_at-2.ensures.back
    ∙ without_place hs c.args.name.now c.in-Some.index c.in-Some.ensures.found) c.requires.room) c.put_volumes-back_at.ensures.behind)

pub put_volumes-requires-clause-room : goal.put_volumes-requires-clause-room
put_volumes-requires-clause-room c =
    let front = c.split_at.result.0.now in
    let back = c.split_at-2.result.1.now in
    let hs = c.args.volumes.now in
    let behind =
    room_back (rows_alone front) (rows_alone back) c.args.at c.put_volumes-back_at.result _
    (room_as _ (without c.args.name.now (rows_alone hs)) c.args.at _
    (two_pieces front back (take c.in-Some.index hs) (drop (c.in-Some.index + 1) hs) c.split_at.ensures.front c.split_at-2.ensures.back
    ∙ without_place hs c.args.name.now c.in-Some.index c.in-Some.ensures.found) c.requires.room) c.put_volumes-back_at.ensures.behind in
    omega (arith, behind.room)

pub returns : goal.returns
returns c =
    let front = c.split_at.result.0.now in
    let back = c.split_at-2.result.1.now in
    let hs = c.args.volumes.now in
    puts_as c.args.grammar _ (without c.args.name.now (rows_alone hs)) c.args.at _ c.args.to.now _
    (two_pieces front back (take c.in-Some.index hs) (drop (c.in-Some.index + 1) hs) c.split_at.ensures.front c.split_at-2.ensures.back
    ∙ without_place hs c.args.name.now c.in-Some.index c.in-Some.ensures.found)
    (rows_then c.args.grammar (rows_alone front) (rows_alone back) c.args.at _ _ c.args.to.now _ _ (omega (arith, c.requires.room)) c.put_volumes-back_at.ensures c.put_volumes.ensures)
