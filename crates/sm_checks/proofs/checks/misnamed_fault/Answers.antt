use Rattle.std.proofs.Common.{◌≡◌, None, Some, ap, rules}
use Rattle.sm_base.specs.declared.faults.Place.TheVariants as at
use Rattle.sm_standing.specs.Checks.{is_misnamed, misnamed_fault}
use Rattle.sm_checks.proofs.CheckLaws.{first_at}
use Rattle.sm_checks.proofs.checks.misnamed_fault.Goals as goal

pub returns-in_err-volume : goal.returns-in_err-volume
unfolding misnamed_fault
returns-in_err-volume c = λ seen is.
    let none : c.from_residual.result ≡ None = search rules in
    first_at at.Image is_misnamed c.args.table.now is c.volumes.ensures.volumes c.in_err-volume.ensures none

pub returns : goal.returns
unfolding misnamed_fault
returns c = λ seen is. first_at at.Image is_misnamed c.args.table.now is c.volumes.ensures.volumes c.in_ok-volume.ensures (ap (λ n. Some (at.Image n)) c.name.ensures.name)
