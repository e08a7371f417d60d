use Rattle.std.proofs.Common.{◌≡◌, None, Some, true, sym, subst, ◌∙◌, rules}
use Rattle.vg_meta.specs.Roomy.{table_alone}
use Rattle.sm_checks.specs.Faults.{IsLeast, is_unrecorded_in}
use Rattle.sm_checks.proofs.DiskLaws.{disk_fault_is}
use Rattle.sm_checks.proofs.disks.disk_fault.Goals as goal

pub returns-in_err-uuid : goal.returns-in_err-uuid
returns-in_err-uuid c = λ seen is has.
    let none : c.from_residual.result ≡ None = search rules in
    none ∙ sym (disk_fault_is seen c.args.table.now c.args.mgt.now None is has
    (subst (λ m. IsLeast (λ u. is_unrecorded_in (table_alone c.args.table.now) m u ≡ true) None) c.uuid_counts.ensures c.in_err-uuid.ensures))

pub returns : goal.returns
returns c = λ seen is has. sym (disk_fault_is seen c.args.table.now c.args.mgt.now (Some c.in_ok-uuid.uuid) is has
    (subst (λ m. IsLeast (λ u. is_unrecorded_in (table_alone c.args.table.now) m u ≡ true) (Some c.in_ok-uuid.uuid)) c.uuid_counts.ensures c.in_ok-uuid.ensures))
