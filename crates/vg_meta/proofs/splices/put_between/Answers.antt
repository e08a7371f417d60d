use Rattle.std.proofs.Common.{◌∷◌, arith}
use Rattle.vg_meta.specs.Roomy.{rows_alone}
use Rattle.vg_meta.proofs.WriteLaws.{few_each}
use Rattle.vg_meta.proofs.SpliceLaws.{room_front, few_behind, rows_between}
use Rattle.vg_meta.proofs.splices.put_between.Goals as goal

pub put_volumes-entry_at-requires-clause-few : goal.put_volumes-entry_at-requires-clause-few
put_volumes-entry_at-requires-clause-few c =
    few_each c.args.front.now (room_front (rows_alone c.args.front.now) (c.args.entry.now ∷ rows_alone c.args.back.now) c.args.at _ c.requires).few

pub put_volumes-requires-clause-few : goal.put_volumes-requires-clause-few
put_volumes-requires-clause-few c =
    few_behind (rows_alone c.args.front.now) c.args.entry.now c.args.back.now c.args.at _ c.requires

pub returns : goal.returns
returns c =
    rows_between c.args.grammar (rows_alone c.args.front.now) (rows_alone c.args.back.now) c.args.entry.now c.args.at _ _ _ c.args.to.now _ _ _
    (omega (arith, c.requires.room)) c.put_volumes-entry_at.ensures c.put_entry-back_at.ensures c.put_volumes.ensures
