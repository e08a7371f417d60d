use Rattle.std.proofs.Common.{arith, ◌∙◌}
use Rattle.sm_disk.proofs.StreamLaws.{Adds-more}
use Rattle.sm_disk.proofs.streams.write_all.Goals as goal

pub loop-done-preserved : goal.loop-done-preserved
loop-done-preserved g c =
    let bytes = c.args.bytes.now in
    let done = c.loop-done.done in
    let added = c.in_ok-done.ensures.adds in
    let within = c.in_ok-done.ensures.within in
    record {
      within = omega (arith, c.split_at.ensures.back_len, within);
      added = Adds-more _ _ _ bytes done _ c.loop-done.invariant.added (rw (← c.split_at.ensures.back) added);
      calm = c.in_ok-done.ensures.cause.1 ∙ c.loop-done.invariant.calm;
    }
