use Rattle.std.proofs.Common.{◌≡◌, ◌||◌, None, Some, sym, ap, ap₂, ◌∙◌}
use Rattle.vg_meta.specs.Roomy.{table_alone}
use Rattle.sm_standing.specs.Entries.{folding, head, making}
use Rattle.sm_checks.specs.Faults.{is_disk_if, is_shown, is_swapping}
use Rattle.sm_checks.proofs.DiskLaws.{disk_under}
use Rattle.sm_checks.proofs.disks.is_disk.Goals as goal

pub returns-in-Some : goal.returns-in-Some
returns-in-Some c =
    let t = table_alone c.args.table.now in
    let u = c.args.uuid.now in
    let found : head (making t) ≡ Some c.in-Some.entry = sym c.entry_in.ensures ∙ c.in-Some.is in
    c.is_disk_if.ensures ∙ ap₂ (λ b o. is_disk_if t b o u) c.is_disk_alone-alone.ensures (sym found) ∙ sym (disk_under t u)

pub returns-in-None : goal.returns-in-None
returns-in-None c =
    let t = table_alone c.args.table.now in
    let u = c.args.uuid.now in
    let none : head (making t) ≡ None = sym c.entry_in.ensures ∙ c.in-None.is in
    c.is_disk_alone-alone.ensures ∙ ap (λ o. is_disk_if t (is_swapping t (head (folding t)) u || is_shown t u) o u) (sym none) ∙ sym (disk_under t u)
