-- A volume of the chain has its old count until its turn comes, and is given one more.
use Rattle.std.proofs.Common.{◌<◌, arith}
use Rattle.sm_refs.specs.Attached.{tally}
use Rattle.sm_refs.proofs.ChainLemmas.{more_step, same_yet_more, one_fits, at_volume}
use Rattle.sm_refs.proofs.tallies.count_more.Goals as goal

pub overflow_add-before : goal.overflow_add-before
overflow_add-before c =
    let old = tally c.args.counts.now.entries in
    let now = tally c.volumes.counts.entries in
    let chain = c.args.chain.now in
    let same = same_yet_more old now now chain c.volumes.volume-index c.volume-item.result c.volumes-test.true c.volume-item.is c.requires.differ c.count-before.result c.count-before.ensures c.volumes.invariant.counts in
    let below = at_volume (λ v. old v < 4294967295) chain c.volumes.volume-index c.volume-item.result c.volumes-test.true c.volume-item.is c.requires.below_most in
    omega (arith, same, below)

pub set_count-requires-clause-room : goal.set_count-requires-clause-room
set_count-requires-clause-room c = λ _ _.
    one_fits c.args.counts.now.entries c.volumes.counts.entries c.args.chain.now c.volumes.volume-index c.volume-item.result _ _ c.volumes-test.true c.volume-item.is c.volumes.invariant.counts c.requires.room c.volumes.invariant.room

pub volumes-preserved : goal.volumes-preserved
volumes-preserved c = record {
  counts = more_step (tally c.args.counts.now.entries) (tally c.volumes.counts.entries) (tally c.set_count.new.counts.entries) c.args.chain.now c.volumes.volume-index c.volume-item.result c.volumes-test.true c.volume-item.is c.requires.differ _ c.count-before.ensures c.volumes.invariant.counts c.set_count.ensures.given c.set_count.ensures.others;
  above = c.set_count.ensures.above;
  room = omega (arith, c.volumes.invariant.room, c.set_count.ensures.room);
}
