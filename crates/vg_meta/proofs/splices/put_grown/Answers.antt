use Rattle.vg_meta.specs.Roomy.{rows_alone}
use Rattle.vg_meta.specs.Changes.{with_row, grown}
use Rattle.vg_meta.proofs.SpliceLaws.{room_as, puts_as, with_place}
use Rattle.vg_meta.proofs.splices.put_grown.Goals as goal

pub put_in_stead-requires-clause-room : goal.put_in_stead-requires-clause-room
put_in_stead-requires-clause-room c =
    room_as _ (with_row c.args.name.now (grown c.args.extents.now) (rows_alone c.args.volumes.now)) c.args.at _
    (with_place c.args.volumes.now c.args.name.now (grown c.args.extents.now) c.in-Some.index c.index-volumes-index.result c.grown-entry.result
    c.in-Some.ensures.found c.index-volumes-index.is c.grown-entry.ensures) c.requires.room

pub returns : goal.returns
returns c =
    puts_as c.args.grammar _ (with_row c.args.name.now (grown c.args.extents.now) (rows_alone c.args.volumes.now)) c.args.at _ c.args.to.now _
    (with_place c.args.volumes.now c.args.name.now (grown c.args.extents.now) c.in-Some.index c.index-volumes-index.result c.grown-entry.result
    c.in-Some.ensures.found c.index-volumes-index.is c.grown-entry.ensures) c.put_in_stead.ensures
