use Rattle.std.proofs.Common.{◌+◌, ◌∷◌, ◌++◌, take, drop}
use Rattle.vg_meta.specs.Roomy.{rows_alone}
use Rattle.vg_meta.proofs.SpliceLaws.{room_as, puts_as, pieces}
use Rattle.vg_meta.proofs.splices.put_in_stead.Goals as goal

pub put_between-requires : goal.put_between-requires
put_between-requires c =
    let front = take c.args.index c.args.volumes.now in
    let back = drop (c.args.index + 1) c.args.volumes.now in
    room_as _ (rows_alone front ++ c.args.entry.now ∷ rows_alone back) c.args.at _
    (pieces c.split_at.result.0.now c.split_at-2.result.1.now front back c.args.entry.now c.split_at.ensures.front c.split_at-2.ensures.back) c.requires.room

pub returns : goal.returns
returns c =
    let front = take c.args.index c.args.volumes.now in
    let back = drop (c.args.index + 1) c.args.volumes.now in
    puts_as c.args.grammar _ (rows_alone front ++ c.args.entry.now ∷ rows_alone back) c.args.at _ c.args.to.now _
    (pieces c.split_at.result.0.now c.split_at-2.result.1.now front back c.args.entry.now c.split_at.ensures.front c.split_at-2.ensures.back) c.put_between.ensures
