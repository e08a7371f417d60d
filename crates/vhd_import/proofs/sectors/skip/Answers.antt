use Rattle.std.proofs.Common.{◌≡◌, ◌++◌, Err, refl, ◌∙◌, arith, rules}
use Rattle.vhd_import.proofs.FrontLaws.{counts-err, says-err}
use Rattle.vhd_import.proofs.SkipLaws.{more-skipped}
use Rattle.vhd_import.proofs.sectors.skip.Goals as goal

pub returns-in_err-whole_sector-clause-says : goal.returns-in_err-whole_sector-clause-says
returns-in_err-whole_sector-clause-says g c = λ t had front puts h long quiet unended.
    let k = c.loop-count.invariant.skipped t had front puts h long quiet in
    let is : c.from_residual.result ≡ Err c.in_err-whole_sector.field-0.0 = search rules in
    says-err t had c.from_residual.result c.in_err-whole_sector.field-0.0 is
    (c.in_err-whole_sector.ensures.says t had (front ++ k.more) puts k.read k.long (unended k.more (omega (arith, k.long, c.loop-count-test.true))))

pub returns-in_err-whole_sector-clause-counts : goal.returns-in_err-whole_sector-clause-counts
returns-in_err-whole_sector-clause-counts g c = λ d.
    let is : c.from_residual.result ≡ Err c.in_err-whole_sector.field-0.0 = search rules in
    counts-err c.from_residual.result c.in_err-whole_sector.field-0.0 _ _ _ _ _ _ is (c.in_err-whole_sector.ensures.counts d).1 c.loop-count.invariant.calm refl

pub loop-count-preserved : goal.loop-count-preserved
loop-count-preserved g c =
    let next = c.in_ok-whole_sector.ensures.read in
    record {
      few = omega (arith, next.0);
      calm = (c.in_ok-whole_sector.ensures.counts 0).0.0 ∙ c.loop-count.invariant.calm;
      skipped = λ t had front puts h long quiet.
          more-skipped t had _ _ front puts c.loop-count.count c.args.until c.whole_sector.new.to (c.loop-count.invariant.skipped t had front puts h long quiet) quiet (omega (arith, long, c.loop-count.auto.count))
          (omega (arith, c.loop-count-test.true)) next.0 c.whole_sector.array_long next.1;
    }

pub returns-clause-read : goal.returns-clause-read
returns-clause-read g c = λ t had front puts h long quiet.
    let k = c.loop-count.invariant.skipped t had front puts h long quiet in
    (k.more, k.read, omega (arith, k.long, c.loop-count-test.false, c.loop-count.auto.count-end, c.requires.order))
