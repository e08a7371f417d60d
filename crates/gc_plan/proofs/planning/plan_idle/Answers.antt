use Rattle.std.proofs.Common.{length, sym, ap, ◌∙◌}
use Rattle.vg_meta.specs.Roomy.{table_alone}
use Rattle.vg_meta.specs.Tables.{free as free_of}
use Rattle.sm_ready.specs.Known.{known, shape_in}
use Rattle.sm_ready.proofs.SumLaws.{free_counted}
use Rattle.gc_plan.specs.Planning.{deflation, else_plan, fold_next}
use Rattle.gc_plan.proofs.PlanLaws.{idle_by}
use Rattle.gc_plan.proofs.planning.plan_idle.Goals as goal

pub returns-in-Some : goal.returns-in-Some
returns-in-Some c = λ s same o tidy.
    let t = table_alone c.args.table.now in
    let σ = shape_in s t (known c.args.memory.now) in
    ap (λ x. else_plan x (else_plan (deflation σ) (fold_next σ))) (c.in-Some.ensures s t o tidy) ∙ sym (idle_by σ)

pub returns-in-Some-deflation : goal.returns-in-Some-deflation
returns-in-Some-deflation c = λ s same o tidy.
    let t = table_alone c.args.table.now in
    let σ = shape_in s t (known c.args.memory.now) in
    ap (λ x. else_plan x (fold_next σ)) (c.in-Some-deflation.ensures s t same.same_sizes o tidy)
    ∙ ap (λ x. else_plan x (else_plan (deflation σ) (fold_next σ))) (c.in-None.ensures s t o tidy) ∙ sym (idle_by σ)

pub returns-in-None-deflation : goal.returns-in-None-deflation
returns-in-None-deflation c = λ s same o tidy.
    let t = table_alone c.args.table.now in
    let m = known c.args.memory.now in
    let σ = shape_in s t m in
    let room = c.free.ensures.free ∙ ap (λ n. length (free_of n t)) (sym same.same_count) ∙ sym (free_counted s t m tidy.none_new o) in
    c.plan_fold.ensures s t same.same_sizes o tidy room
    ∙ ap (λ x. else_plan x (fold_next σ)) (c.in-None-deflation.ensures s t same.same_sizes o tidy)
    ∙ ap (λ x. else_plan x (else_plan (deflation σ) (fold_next σ))) (c.in-None.ensures s t o tidy) ∙ sym (idle_by σ)
