use Rattle.std.proofs.Common.{◌∙◌, arith}
use Rattle.std.proofs.lemmas.List.{length-set}
use Rattle.cmd_attach.proofs.ChainLaws.{no_room, one_more}
use Rattle.cmd_attach.proofs.chains.chain_into.Goals as goal

pub loop-count-preserved : goal.loop-count-preserved
loop-count-preserved c =
    let i = c.loop-count.invariant in (
      length-set c.loop-count.to c.loop-count.count c.in-Some.name ∙ i.0,
      omega (arith, c.loop-count-test.true),
      one_more c.args.tree.now.rows c.loop-count.to c.loop-count.count c.in-Some.name c.loop-count.next c.parent-next.result _ c.requires.images i.0 c.loop-count-test.true c.in-Some.is c.parent-next.ensures i.2,
    )

pub returns-after-loop-count-clause-names : goal.returns-after-loop-count-clause-names
returns-after-loop-count-clause-names c =
    let i = c.loop-count.invariant in
    no_room c.args.tree.now.rows c.loop-count.to c.loop-count.count c.loop-count.next _ (omega (arith, i.1, c.loop-count-test.false)) i.2
