use Rattle.std.proofs.Common.{◌≡◌, None, Some, refl, ap, rules}
use Rattle.sm_standing.specs.Entries.{is_making}
use Rattle.sm_checks.proofs.CheckLaws.{first_entry_at}
use Rattle.sm_checks.proofs.EntryOrder.{first_among, making_entries}
use Rattle.sm_checks.proofs.entries.entry_in.Goals as goal

pub returns-in_err-volume : goal.returns-in_err-volume
returns-in_err-volume c =
    let none : c.from_residual.result ≡ None = search rules in
    first_entry_at is_making c.args.table.now refl (first_among is_making c.args.table.now making_entries c.entries_of.ensures c.in_err-volume.ensures) none

pub returns : goal.returns
returns c =
    first_entry_at is_making c.args.table.now refl (first_among is_making c.args.table.now making_entries c.entries_of.ensures c.in_ok-volume.ensures) (ap Some c.name.ensures.name)
