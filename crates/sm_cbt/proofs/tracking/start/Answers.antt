use Rattle.sm_cbt.specs.Making.{FailsToMake}
use Rattle.sm_log.specs.Logs.{Log, new_log}
use Rattle.std.proofs.Common.{◌≡◌, ℕ, Bool, List, length, ap₂, subst, ◌∙◌}
use Rattle.sm_cbt.proofs.MakeLaws.{fails_from}
use Rattle.sm_cbt.proofs.tracking.start.Goals as goal

pub returns-in_default-make-clause-fails : goal.returns-in_default-make-clause-fails
returns-in_default-make-clause-fails g c = λ e.
    let is : c.new-log.result ≡ new_log c.args.disk.now (length c.args.extents.items) c.args.pieces =
    c.new-log.ensures ∙ ap₂ (λ (n : ℕ) (bs : List Bool). let l : Log = record { disk = c.args.disk.now; extents = n; tag = 0; since = 0; bits = bs } in l) (c.len-count.ensures ∙ c.args.extents.ok.0) c.in-Ok.ensures in
    subst (λ (l : Log). FailsToMake g.S.Store l c.args.extents.items c.args.store.now c.make.new.store) is
    (fails_from {g = g.S.Store} c.new-log.result c.args.extents.items c.reserve_rows.ensures.same.0 c.reserve_rows.ensures.table c.reserve_rows.ensures.same.1 c.reserve_rows.ensures.device.1 c.reserve_rows.ensures.same.3 c.in_default-make.ensures.fails)
