use Rattle.std.proofs.Common.{take, drop, sym, ◌∙◌}
use Rattle.vg_meta.specs.Roomy.{rows_alone}
use Rattle.vg_meta.specs.Changes.{put}
use Rattle.vg_meta.proofs.SpliceLaws.{room_as, puts_as, pieces}
use Rattle.vg_meta.proofs.splices.put_created.Goals as goal

pub put_between-requires : goal.put_between-requires
put_between-requires c =
    let hs = c.args.volumes.now in
    room_as _ (put c.args.entry.now (rows_alone hs)) c.args.at _
    (pieces c.split_at.result.0.now c.split_at.result.1.now (take c.slot.result hs) (drop c.slot.result hs) c.args.entry.now c.split_at.ensures.front c.split_at.ensures.back
    ∙ c.slot.ensures.place c.args.entry.now (sym c.name.ensures)) c.requires

pub returns : goal.returns
returns c =
    let hs = c.args.volumes.now in
    puts_as c.args.grammar _ (put c.args.entry.now (rows_alone hs)) c.args.at _ c.args.to.now _
    (pieces c.split_at.result.0.now c.split_at.result.1.now (take c.slot.result hs) (drop c.slot.result hs) c.args.entry.now c.split_at.ensures.front c.split_at.ensures.back
    ∙ c.slot.ensures.place c.args.entry.now (sym c.name.ensures)) c.put_between.ensures
