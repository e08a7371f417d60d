use Rattle.std.proofs.Common.{List, Some, map, sym, ap, ◌∙◌, subst, refl}
use Rattle.sm_base.specs.declared.operations.Plan.TheVariants as plan
use Rattle.common_laws.specs.Lists.{In, first_some, given}
use Rattle.vhd_chain.specs.Trees.{row_name}
use Rattle.vhd_chain.specs.declared.rows.TreeRow.{TreeRow}
use Rattle.sm_ready.specs.Known.{known, shape_in}
use Rattle.gc_plan.proofs.PlanLaws.{removal_in, removed}
use Rattle.gc_plan.proofs.StepLaws.{caught, ended, item_in, passed}
use Rattle.gc_plan.proofs.finding.removal.Goals as goal

pub loop-row-init : goal.loop-row-init
loop-row-init c = λ s t o tidy. refl

pub loop-row-preserved : goal.loop-row-preserved
loop-row-preserved c = λ s t o tidy.
    let F = removed (shape_in s t (known c.args.memory.now)) in
    let rows = c.rows-rows.result.now in
    let x = c.row-item.result in
    let there = subst (λ (rs : List TreeRow). In x rs) c.rows-rows.ensures.rows (item_in rows c.loop-row.row-index x c.loop-row-test.true c.row-item.is) in
    passed F rows c.loop-row.row-index x c.loop-row-test.true c.row-item.is (ap (λ b. given b (plan.Remove (row_name x))) (sym (c.is_garbage.ensures s t o tidy there) ∙ c.if-is_garbage.false))
    ∙ c.loop-row.invariant s t o tidy

pub returns-then-is_garbage : goal.returns-then-is_garbage
returns-then-is_garbage c = λ s t o tidy.
    let m = known c.args.memory.now in
    let F = removed (shape_in s t m) in
    let rows = c.rows-rows.result.now in
    let x = c.row-item.result in
    let there = subst (λ (rs : List TreeRow). In x rs) c.rows-rows.ensures.rows (item_in rows c.loop-row.row-index x c.loop-row-test.true c.row-item.is) in
    ap (λ n. Some (plan.Remove n)) c.name.ensures
    ∙ sym (caught F rows c.loop-row.row-index x (plan.Remove (row_name x)) c.loop-row-test.true c.row-item.is (ap (λ b. given b (plan.Remove (row_name x))) (sym (c.is_garbage.ensures s t o tidy there) ∙ c.if-is_garbage.true)))
    ∙ c.loop-row.invariant s t o tidy ∙ ap (λ (rs : List TreeRow). first_some (map F rs)) c.rows-rows.ensures.rows ∙ sym (removal_in s t m)

pub returns : goal.returns
returns c = λ s t o tidy.
    let m = known c.args.memory.now in
    let F = removed (shape_in s t m) in
    sym (ended F c.rows-rows.result.now c.loop-row.row-index c.loop-row-test.false)
    ∙ c.loop-row.invariant s t o tidy ∙ ap (λ (rs : List TreeRow). first_some (map F rs)) c.rows-rows.ensures.rows ∙ sym (removal_in s t m)
