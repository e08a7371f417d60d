use Rattle.std.proofs.Common.{sym, arith, subst}
use Rattle.vhd_import.specs.Progress.{FaultSays}
use Rattle.vhd_import.proofs.PlaceLaws.{stopped-cut, stopped-read}
use Rattle.vhd_import.proofs.dynamic.whole_table.Goals as goal

pub returns-then-count-lt-MOST_SECTORS-clause-says : goal.returns-then-count-lt-MOST_SECTORS-clause-says
returns-then-count-lt-MOST_SECTORS-clause-says g c = λ t had front puts long when.
    let s = when (omega (arith, c.if-count-end.false, c.requires.order)) in
    subst (FaultSays t had) (sym c.cut.ensures) (stopped-cut t had _ front puts c.args.count s long (omega (arith, c.if-count-lt-MOST_SECTORS.true)))

pub returns-clause-says : goal.returns-clause-says
returns-clause-says g c = λ t had front puts long when.
    let s = when (omega (arith, c.if-count-end.false, c.requires.order)) in
    c.whole_sector.ensures.says t had front puts (stopped-read t had _ front puts c.args.count s long (omega (arith, c.if-count-lt-MOST_SECTORS.false))) long s.unended
