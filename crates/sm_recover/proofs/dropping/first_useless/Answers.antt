use Rattle.std.proofs.Common.{◌≡◌, None, Some, ap, rules}
use Rattle.sm_recover.proofs.DropLaws.{useless_at}
use Rattle.sm_recover.proofs.dropping.first_useless.Goals as goal

pub returns-in_err-volume : goal.returns-in_err-volume
returns-in_err-volume c =
    let none : c.from_residual.result ≡ None = search rules in
    useless_at c.args.table.now c.volumes.ensures.volumes c.in_err-volume.ensures none

pub returns : goal.returns
returns c = useless_at c.args.table.now c.volumes.ensures.volumes c.in_ok-volume.ensures (ap Some c.name.ensures.name)
