use Rattle.std.proofs.Common.{◌≡◌, None, Some, ap, rules}
use Rattle.sm_base.specs.declared.faults.Place.TheVariants as at
use Rattle.sm_base.specs.declared.names.Name.{Name}
use Rattle.sm_checks.proofs.LinkLaws.{links_at}
use Rattle.sm_checks.proofs.links.link_fault.Goals as goal

pub returns-in_err-volume : goal.returns-in_err-volume
returns-in_err-volume c = λ seen is links volumes counted.
    let none : c.from_residual.result ≡ None = search rules in
    links_at c.args.table.now c.args.tree.now.rows seen is links volumes counted c.volumes.ensures.volumes c.in_err-volume.ensures none

pub returns : goal.returns
returns c = λ seen is links volumes counted.
    links_at c.args.table.now c.args.tree.now.rows seen is links volumes counted c.volumes.ensures.volumes c.in_ok-volume.ensures (ap (λ (n : Name). Some (at.Journal n)) c.name.ensures.name)
