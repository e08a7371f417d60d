use Rattle.std.proofs.Common.{◌≡◌, ◌++◌, Err, take, refl, sym, ◌∙◌, arith, rules, subst}
use Rattle.sm_disk.specs.Streams.{Takes}
use Rattle.vhd_import.specs.Progress.{FaultCounts, FaultSays, HasNext}
use Rattle.vhd_import.specs.declared.reading.Part.{Part}
use Rattle.vhd_import.specs.Verdicts.{sector_limit}
use Rattle.vhd_import.proofs.FrontLaws.{counts-err, says-err}
use Rattle.vhd_import.proofs.SkipLaws.{inside-says, more-skipped, still-read}
use Rattle.vhd_import.proofs.sectors.skip_rest.Goals as goal

pub returns-in_err-next_sector-clause-says : goal.returns-in_err-next_sector-clause-says
returns-in_err-next_sector-clause-says g c = λ t had front puts h long quiet.
    let k = c.loop-count.invariant.skipped t had front puts h long quiet in
    let is : c.from_residual.result ≡ Err c.in_err-next_sector.field-0.0 = search rules in
    says-err t had c.from_residual.result c.in_err-next_sector.field-0.0 is (c.in_err-next_sector.ensures.says t had (front ++ k.more) puts k.read k.long)

pub returns-in_err-next_sector-clause-counts : goal.returns-in_err-next_sector-clause-counts
returns-in_err-next_sector-clause-counts g c = λ d.
    let is : c.from_residual.result ≡ Err c.in_err-next_sector.field-0.0 = search rules in
    counts-err c.from_residual.result c.in_err-next_sector.field-0.0 _ _ _ _ _ _ is (c.in_err-next_sector.ensures.counts d).1 c.loop-count.invariant.calm refl

pub loop-count-preserved : goal.loop-count-preserved
loop-count-preserved g c =
    let i = c.loop-count.invariant in
    let next = subst (λ (p : Part). HasNext c.loop-count.count p (g.S.Source.content c.loop-count.source) c.next_sector.new.to (g.S.Source.content c.next_sector.new.source)) c.in-Whole.is c.in_ok-next_sector.ensures.read in
    record {
      from = omega (arith, i.from);
      few = omega (arith, next.0);
      calm = (c.in_ok-next_sector.ensures.counts 0).0.0 ∙ i.calm;
      skipped = λ t had front puts h long quiet.
          more-skipped t had _ _ front puts c.loop-count.count sector_limit c.next_sector.new.to (i.skipped t had front puts h long quiet) quiet (omega (arith, long, i.from)) next.0 next.0 c.next_sector.array_long next.1;
    }

pub returns-then-part-gt0-clause-says : goal.returns-then-part-gt0-clause-says
returns-then-part-gt0-clause-says g c = λ t had front puts h long quiet.
    let k = c.loop-count.invariant.skipped t had front puts h long quiet in
    let next = subst (λ (p : Part). HasNext c.loop-count.count p (g.S.Source.content c.loop-count.source) c.next_sector.new.to (g.S.Source.content c.next_sector.new.source)) c.in-End.is c.in_ok-next_sector.ensures.read in
    subst (FaultSays t had) (sym c.cut.ensures) (inside-says t had _ _ (front ++ k.more) puts c.next_sector.new.to c.in-End.part c.loop-count.count k.read k.long next c.next_sector.array_long c.if-part-gt0.true)

pub returns-then-part-gt0-clause-counts : goal.returns-then-part-gt0-clause-counts
returns-then-part-gt0-clause-counts g c = λ d.
    (tt, subst (FaultCounts (g.S.Source.faults c.args.source.now) (g.S.Source.faults c.next_sector.new.source) d d) (sym c.cut.ensures) ((c.in_ok-next_sector.ensures.counts 0).0.0 ∙ c.loop-count.invariant.calm, refl))

pub returns-in-End-clause-read : goal.returns-in-End-clause-read
returns-in-End-clause-read g c = λ t had front puts h long quiet.
    let k = c.loop-count.invariant.skipped t had front puts h long quiet in
    let next = subst (λ (p : Part). HasNext c.loop-count.count p (g.S.Source.content c.loop-count.source) c.next_sector.new.to (g.S.Source.content c.next_sector.new.source)) c.in-End.is c.in_ok-next_sector.ensures.read in
    let none : c.in-End.part ≡ 0 = omega (arith, c.if-part-gt0.false) in
    let still = subst (λ n. Takes (g.S.Source.content c.loop-count.source) (take n c.next_sector.new.to) (g.S.Source.content c.next_sector.new.source)) none next.2 in
    (k.more, still-read t had _ _ (front ++ k.more) puts k.read still)

pub returns-in-End-clause-counts : goal.returns-in-End-clause-counts
returns-in-End-clause-counts g c = λ d. (((c.in_ok-next_sector.ensures.counts 0).0.0 ∙ c.loop-count.invariant.calm, refl), tt)
