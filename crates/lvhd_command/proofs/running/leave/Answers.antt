use Rattle.std.proofs.Common.{sym, ap, ◌∙◌, subst}
use Rattle.vg_layout.specs.Fields.{plate}
use Rattle.vg_store.specs.Groups.{LeavesGroup}
use Rattle.lvhd_command.proofs.running.leave.Goals as goal

pub returns-clause-one : goal.returns-clause-one
returns-clause-one g c = λ told whole t image left.
    let leaves = rw c.into_store.ensures.store at c.into_disk.ensures.leaves in
    let disk = c.into_disk.ensures.disk ∙ ap (λ cache. cache.inner.disk) c.into_store.ensures.store in
    (leaves told ((c.args.session.between whole).usable) t image (subst (λ d. LeavesGroup (g.D.Disk.size d) (g.D.Disk.held d) (plate c.args.session.store.inner.label) t image) (sym disk) left)).table_is
