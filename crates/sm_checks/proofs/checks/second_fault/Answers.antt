use Rattle.std.proofs.Common.{◌≡◌, None, ap, ◌∙◌, rules}
use Rattle.sm_base.specs.declared.faults.Place.TheVariants as at
use Rattle.sm_standing.specs.Checks.{placed}
use Rattle.sm_checks.proofs.CheckLaws.{second_at}
use Rattle.sm_checks.proofs.checks.second_fault.Goals as goal

pub returns-in_err-name : goal.returns-in_err-name
returns-in_err-name c = λ seen is.
    let none : c.from_residual.result ≡ None = search rules in
    second_at c.args.table.now seen is c.second_folding_in.ensures c.second_entry.ensures (none ∙ ap (placed at.Journal) c.in_err-name.ensures)

pub returns : goal.returns
returns c = λ seen is. second_at c.args.table.now seen is c.second_folding_in.ensures c.second_entry.ensures (ap (placed at.Journal) c.in_ok-name.ensures)
