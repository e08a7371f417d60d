-- A volume of the chain has its old count until its turn comes, and is given one less.
use Rattle.std.proofs.Common.{◌<◌, arith}
use Rattle.sm_refs.specs.Attached.{tally}
use Rattle.sm_refs.proofs.ChainLemmas.{less_step, same_yet_less, at_volume}
use Rattle.sm_refs.proofs.tallies.count_less.Goals as goal

pub volumes-preserved : goal.volumes-preserved
volumes-preserved c =
    let old = tally c.args.counts.now.entries in
    let some = at_volume (λ v. 0 < old v) c.args.chain.now c.volumes.volume-index c.volume-item.result c.volumes-test.true c.volume-item.is c.requires.counted in
    record {
      counts = less_step old (tally c.volumes.counts.entries) (tally c.set_count.new.counts.entries) c.args.chain.now c.volumes.volume-index c.volume-item.result c.volumes-test.true c.volume-item.is c.requires.differ _ c.count-before.ensures some c.volumes.invariant.counts c.set_count.ensures.given c.set_count.ensures.others;
      above = c.set_count.ensures.above;
      room = omega (arith, c.volumes.invariant.room, c.set_count.ensures.room);
    }

pub overflow_sub-before : goal.overflow_sub-before
overflow_sub-before c =
    let old = tally c.args.counts.now.entries in
    let now = tally c.volumes.counts.entries in
    let chain = c.args.chain.now in
    let same = same_yet_less old now now chain c.volumes.volume-index c.volume-item.result c.volumes-test.true c.volume-item.is c.requires.differ c.count-before.result c.count-before.ensures c.volumes.invariant.counts in
    let some = at_volume (λ v. 0 < old v) chain c.volumes.volume-index c.volume-item.result c.volumes-test.true c.volume-item.is c.requires.counted in
    omega (arith, same, some)
