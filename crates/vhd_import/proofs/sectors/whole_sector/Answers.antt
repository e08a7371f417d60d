use Rattle.std.proofs.Common.{◌≡◌, Err, refl, sym, subst, rules}
use Rattle.vhd_import.specs.Progress.{FaultCounts, FaultSays, HasNext}
use Rattle.vhd_import.specs.declared.reading.Part.{Part}
use Rattle.vhd_import.proofs.FrontLaws.{counts-err, end-cut, says-err}
use Rattle.vhd_import.proofs.sectors.whole_sector.Goals as goal

pub returns-in_err-next_sector-clause-says : goal.returns-in_err-next_sector-clause-says
returns-in_err-next_sector-clause-says g c = λ t had front puts h long unended.
    let is : c.from_residual.result ≡ Err c.in_err-next_sector.field-0.0 = search rules in
    says-err t had c.from_residual.result c.in_err-next_sector.field-0.0 is (c.in_err-next_sector.ensures.says t had front puts h long)

pub returns-in_err-next_sector-clause-counts : goal.returns-in_err-next_sector-clause-counts
returns-in_err-next_sector-clause-counts g c = λ d.
    let is : c.from_residual.result ≡ Err c.in_err-next_sector.field-0.0 = search rules in
    counts-err c.from_residual.result c.in_err-next_sector.field-0.0 _ _ _ _ _ _ is (c.in_err-next_sector.ensures.counts d).1 refl refl

pub returns-in-Whole-clause-counts : goal.returns-in-Whole-clause-counts
returns-in-Whole-clause-counts g c = λ d. (((c.in_ok-next_sector.ensures.counts d).0.0, refl), tt)

pub returns-in-End-clause-says : goal.returns-in-End-clause-says
returns-in-End-clause-says g c = λ t had front puts h long unended.
    let next = subst (λ (p : Part). HasNext c.args.count p (g.S.Source.content c.args.source.now) c.next_sector.new.to (g.S.Source.content c.next_sector.new.source)) c.in-End.is c.in_ok-next_sector.ensures.read in
    subst (FaultSays t had) (sym c.cut.ensures) (end-cut t had _ _ front puts c.next_sector.new.to c.in-End.field-0 c.args.count h long next c.next_sector.array_long unended)

pub returns-in-End-clause-counts : goal.returns-in-End-clause-counts
returns-in-End-clause-counts g c = λ d.
    (tt, subst (FaultCounts (g.S.Source.faults c.args.source.now) (g.S.Source.faults c.next_sector.new.source) d d) (sym c.cut.ensures) ((c.in_ok-next_sector.ensures.counts d).0.0, refl))
