use Rattle.std.proofs.Common.{◌≡◌, ◌++◌, arith}
use Rattle.vg_meta.specs.Tables.{row_of}
use Rattle.vg_meta.specs.Roomy.{rows_alone}
use Rattle.vg_meta.specs.Changes.{put, put_some, renamed, without}
use Rattle.vg_meta.proofs.SpliceLaws.{room_as, room_front, room_back, few_all, puts_as, rows_then, moved_front, moved_back}
use Rattle.vg_meta.proofs.splices.put_renamed.Goals as goal

pub put_created-back_at-requires : goal.put_created-back_at-requires
put_created-back_at-requires c =
    let first = put c.renamed-entry.result (rows_alone c.split_at.result.0.now) in
    let second = rows_alone c.split_at-2.result.1.now in
    let left = put_some (row_of (rows_alone c.args.volumes.now) c.args.from.now) (renamed c.args.other.now) (without c.args.from.now (rows_alone c.args.volumes.now)) in
    let whole : first ++ second ≡ left =
    moved_front c.args.volumes.now c.args.from.now c.args.other.now c.in-Some.index c.slot-in_front.result c.index-volumes-index.result c.renamed-entry.result
    c.split_at.result.0.now c.split_at-2.result.1.now c.split_at.ensures.front c.split_at-2.ensures.back
    c.in-Some.ensures.found c.index-volumes-index.is c.renamed-entry.ensures c.slot-in_front.ensures.slot c.if-in_front-front.true in
    room_front first second c.args.at _ (room_as _ left c.args.at _ whole c.requires.room)

pub put_volumes-requires-clause-few : goal.put_volumes-requires-clause-few
put_volumes-requires-clause-few c =
    let first = put c.renamed-entry.result (rows_alone c.split_at.result.0.now) in
    let second = rows_alone c.split_at-2.result.1.now in
    let left = put_some (row_of (rows_alone c.args.volumes.now) c.args.from.now) (renamed c.args.other.now) (without c.args.from.now (rows_alone c.args.volumes.now)) in
    let whole : first ++ second ≡ left =
    moved_front c.args.volumes.now c.args.from.now c.args.other.now c.in-Some.index c.slot-in_front.result c.index-volumes-index.result c.renamed-entry.result
    c.split_at.result.0.now c.split_at-2.result.1.now c.split_at.ensures.front c.split_at-2.ensures.back
    c.in-Some.ensures.found c.index-volumes-index.is c.renamed-entry.ensures c.slot-in_front.ensures.slot c.if-in_front-front.true in
    few_all c.split_at-2.result.1.now c.put_created-back_at.result _
    (room_back first second c.args.at c.put_created-back_at.result _ (room_as _ left c.args.at _ whole c.requires.room) c.put_created-back_at.ensures.behind)

pub put_volumes-requires-clause-room : goal.put_volumes-requires-clause-room
put_volumes-requires-clause-room c =
    let first = put c.renamed-entry.result (rows_alone c.split_at.result.0.now) in
    let second = rows_alone c.split_at-2.result.1.now in
    let left = put_some (row_of (rows_alone c.args.volumes.now) c.args.from.now) (renamed c.args.other.now) (without c.args.from.now (rows_alone c.args.volumes.now)) in
    let whole : first ++ second ≡ left =
    moved_front c.args.volumes.now c.args.from.now c.args.other.now c.in-Some.index c.slot-in_front.result c.index-volumes-index.result c.renamed-entry.result
    c.split_at.result.0.now c.split_at-2.result.1.now c.split_at.ensures.front c.split_at-2.ensures.back
    c.in-Some.ensures.found c.index-volumes-index.is c.renamed-entry.ensures c.slot-in_front.ensures.slot c.if-in_front-front.true in
    let behind = room_back first second c.args.at c.put_created-back_at.result _ (room_as _ left c.args.at _ whole c.requires.room) c.put_created-back_at.ensures.behind in
    omega (arith, behind.room)

pub put_volumes-back_at-requires-clause-few : goal.put_volumes-back_at-requires-clause-few
put_volumes-back_at-requires-clause-few c =
    let first = rows_alone c.split_at.result.0.now in
    let second = put c.renamed-entry.result (rows_alone c.split_at-2.result.1.now) in
    let left = put_some (row_of (rows_alone c.args.volumes.now) c.args.from.now) (renamed c.args.other.now) (without c.args.from.now (rows_alone c.args.volumes.now)) in
    let whole : first ++ second ≡ left =
    moved_back c.args.volumes.now c.args.from.now c.args.other.now c.in-Some.index c.slot-in_front.result c.index-volumes-index.result c.renamed-entry.result
    c.split_at.result.0.now c.split_at-2.result.1.now c.split_at.ensures.front c.split_at-2.ensures.back
    c.in-Some.ensures.found c.index-volumes-index.is c.renamed-entry.ensures c.slot-in_front.ensures.slot (omega (arith, c.if-in_front-front.false)) in
    few_all c.split_at.result.0.now c.args.at _ (room_front first second c.args.at _ (room_as _ left c.args.at _ whole c.requires.room))

pub put_volumes-back_at-requires-clause-room : goal.put_volumes-back_at-requires-clause-room
put_volumes-back_at-requires-clause-room c =
    let first = rows_alone c.split_at.result.0.now in
    let second = put c.renamed-entry.result (rows_alone c.split_at-2.result.1.now) in
    let left = put_some (row_of (rows_alone c.args.volumes.now) c.args.from.now) (renamed c.args.other.now) (without c.args.from.now (rows_alone c.args.volumes.now)) in
    let whole : first ++ second ≡ left =
    moved_back c.args.volumes.now c.args.from.now c.args.other.now c.in-Some.index c.slot-in_front.result c.index-volumes-index.result c.renamed-entry.result
    c.split_at.result.0.now c.split_at-2.result.1.now c.split_at.ensures.front c.split_at-2.ensures.back
    c.in-Some.ensures.found c.index-volumes-index.is c.renamed-entry.ensures c.slot-in_front.ensures.slot (omega (arith, c.if-in_front-front.false)) in
    (room_front first second c.args.at _ (room_as _ left c.args.at _ whole c.requires.room)).room

pub put_created-requires : goal.put_created-requires
put_created-requires c =
    let first = rows_alone c.split_at.result.0.now in
    let second = put c.renamed-entry.result (rows_alone c.split_at-2.result.1.now) in
    let left = put_some (row_of (rows_alone c.args.volumes.now) c.args.from.now) (renamed c.args.other.now) (without c.args.from.now (rows_alone c.args.volumes.now)) in
    let whole : first ++ second ≡ left =
    moved_back c.args.volumes.now c.args.from.now c.args.other.now c.in-Some.index c.slot-in_front.result c.index-volumes-index.result c.renamed-entry.result
    c.split_at.result.0.now c.split_at-2.result.1.now c.split_at.ensures.front c.split_at-2.ensures.back
    c.in-Some.ensures.found c.index-volumes-index.is c.renamed-entry.ensures c.slot-in_front.ensures.slot (omega (arith, c.if-in_front-front.false)) in
    let behind = room_back first second c.args.at c.put_volumes-back_at.result _ (room_as _ left c.args.at _ whole c.requires.room) c.put_volumes-back_at.ensures.behind in
    record { few = behind.few; room = omega (arith, behind.room) }

pub returns-then-in_front-front : goal.returns-then-in_front-front
returns-then-in_front-front c =
    let first = put c.renamed-entry.result (rows_alone c.split_at.result.0.now) in
    let second = rows_alone c.split_at-2.result.1.now in
    let left = put_some (row_of (rows_alone c.args.volumes.now) c.args.from.now) (renamed c.args.other.now) (without c.args.from.now (rows_alone c.args.volumes.now)) in
    let whole : first ++ second ≡ left =
    moved_front c.args.volumes.now c.args.from.now c.args.other.now c.in-Some.index c.slot-in_front.result c.index-volumes-index.result c.renamed-entry.result
    c.split_at.result.0.now c.split_at-2.result.1.now c.split_at.ensures.front c.split_at-2.ensures.back
    c.in-Some.ensures.found c.index-volumes-index.is c.renamed-entry.ensures c.slot-in_front.ensures.slot c.if-in_front-front.true in
    puts_as c.args.grammar _ left c.args.at _ c.args.to.now _ whole
    (rows_then c.args.grammar first second c.args.at _ _ c.args.to.now _ _ (omega (arith, c.requires.room)) c.put_created-back_at.ensures c.put_volumes.ensures)

pub returns-else-in_front-front : goal.returns-else-in_front-front
returns-else-in_front-front c =
    let first = rows_alone c.split_at.result.0.now in
    let second = put c.renamed-entry.result (rows_alone c.split_at-2.result.1.now) in
    let left = put_some (row_of (rows_alone c.args.volumes.now) c.args.from.now) (renamed c.args.other.now) (without c.args.from.now (rows_alone c.args.volumes.now)) in
    let whole : first ++ second ≡ left =
    moved_back c.args.volumes.now c.args.from.now c.args.other.now c.in-Some.index c.slot-in_front.result c.index-volumes-index.result c.renamed-entry.result
    c.split_at.result.0.now c.split_at-2.result.1.now c.split_at.ensures.front c.split_at-2.ensures.back
    c.in-Some.ensures.found c.index-volumes-index.is c.renamed-entry.ensures c.slot-in_front.ensures.slot (omega (arith, c.if-in_front-front.false)) in
    puts_as c.args.grammar _ left c.args.at _ c.args.to.now _ whole
    (rows_then c.args.grammar first second c.args.at _ _ c.args.to.now _ _ (omega (arith, c.requires.room)) c.put_volumes-back_at.ensures c.put_created.ensures)
