use Rattle.std.proofs.Common.{◌≡◌, true, fold, None, sym, subst, arith}
use Rattle.std.proofs.lemmas.Grind.{common_steps}
use Rattle.vg_meta.specs.Roomy.{table_alone}
use Rattle.sm_checks.specs.Faults.{IsLeast, is_unrecorded_in}
use Rattle.sm_checks.proofs.DiskLaws.{least_unrecorded, with_unrecorded}
use Rattle.sm_checks.proofs.disks.least_unrecorded.Goals as goal

pub returns : goal.returns
returns c =
    let t = table_alone c.args.table.now in
    let all : c.loop-volume.least ≡ fold (with_unrecorded t c.args.counts.now) None c.args.table.now.rows = grind (arith, common_steps) in
    subst (IsLeast (λ u. is_unrecorded_in t c.args.counts.now u ≡ true)) (sym all) (least_unrecorded c.args.table.now c.args.counts.now)
