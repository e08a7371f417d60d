use Rattle.std.proofs.Common.{arith, length-append, ◌∙◌}
use Rattle.vhd_import.proofs.ReadLaws.{taken-more}
use Rattle.vhd_import.proofs.reading.read_sector.Goals as goal

pub loop-done-preserved : goal.loop-done-preserved
loop-done-preserved g c =
    let held = c.loop-done.invariant in
    let rest = c.split_at_mut-rest.ensures in
    let read = c.in_ok-count.ensures in
    record {
      within = omega (arith, rest.back_len, read.within, c.read.auto.to, held.long, held.within);
      long = omega (arith, length-append c.split_at_mut-rest.result.0.now c.read.new.to, rest.front_len, rest.back_len, c.read.auto.to, held.long, held.within);
      takes = taken-more _ _ _ c.loop-done.to c.split_at_mut-rest.result.0.now c.read.new.to c.loop-done.done c.in_ok-count.count rest.front (omega (arith, held.long, held.within)) held.takes read.takes;
      calm = read.cause.1 ∙ held.calm;
    }
