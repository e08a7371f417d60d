use Rattle.std.proofs.Common.{◌≡◌, None, Some, ap, rules}
use Rattle.sm_base.specs.declared.faults.Place.TheVariants as at
use Rattle.sm_checks.proofs.CheckLaws.{old_at}
use Rattle.sm_checks.proofs.checks.old_fault.Goals as goal

pub returns-in_err-volume : goal.returns-in_err-volume
returns-in_err-volume c = λ seen is no_entry.
    let none : c.from_residual.result ≡ None = search rules in
    old_at c.args.table.now seen is no_entry c.volumes.ensures.volumes c.in_err-volume.ensures none

pub returns : goal.returns
returns c = λ seen is no_entry. old_at c.args.table.now seen is no_entry c.volumes.ensures.volumes c.in_ok-volume.ensures (ap (λ n. Some (at.Image n)) c.name.ensures.name)
