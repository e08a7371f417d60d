use Rattle.std.proofs.Common.{List, map, sym, ap, ◌∙◌, subst, refl}
use Rattle.common_laws.specs.Lists.{In, first_some}
use Rattle.common_laws.proofs.Options.{none_of_some}
use Rattle.vhd_chain.specs.declared.rows.TreeRow.{TreeRow}
use Rattle.sm_ready.specs.Known.{known, shape_in}
use Rattle.gc_plan.proofs.PlanLaws.{folded, folding_in}
use Rattle.gc_plan.proofs.StepLaws.{caught_by, ended, item_in, passed}
use Rattle.gc_plan.proofs.finding.folding.Goals as goal

pub loop-row-init : goal.loop-row-init
loop-row-init c = λ s t same o tidy room. refl

pub loop-row-preserved : goal.loop-row-preserved
loop-row-preserved c = λ s t same o tidy room.
    let F = folded c.args.kind (shape_in s t (known c.args.memory.now)) in
    let rows = c.rows-rows.result.now in
    let x = c.row-item.result in
    let there = subst (λ (rs : List TreeRow). In x rs) c.rows-rows.ensures.rows (item_in rows c.loop-row.row-index x c.loop-row-test.true c.row-item.is) in
    passed F rows c.loop-row.row-index x c.loop-row-test.true c.row-item.is (sym (c.begin_at-plan.ensures s t same o tidy room there) ∙ none_of_some _ (sym c.is_some.ensures ∙ c.if-is_some.false))
    ∙ c.loop-row.invariant s t same o tidy room

pub returns-then-is_some : goal.returns-then-is_some
returns-then-is_some c = λ s t same o tidy room.
    let m = known c.args.memory.now in
    let F = folded c.args.kind (shape_in s t m) in
    let rows = c.rows-rows.result.now in
    let x = c.row-item.result in
    let there = subst (λ (rs : List TreeRow). In x rs) c.rows-rows.ensures.rows (item_in rows c.loop-row.row-index x c.loop-row-test.true c.row-item.is) in
    sym (caught_by F rows c.loop-row.row-index c.begin_at-plan.result x c.loop-row-test.true c.row-item.is (c.begin_at-plan.ensures s t same o tidy room there) (sym c.is_some.ensures ∙ c.if-is_some.true))
    ∙ c.loop-row.invariant s t same o tidy room ∙ ap (λ (rs : List TreeRow). first_some (map F rs)) c.rows-rows.ensures.rows ∙ sym (folding_in s t m c.args.kind)

pub returns : goal.returns
returns c = λ s t same o tidy room.
    let m = known c.args.memory.now in
    let F = folded c.args.kind (shape_in s t m) in
    sym (ended F c.rows-rows.result.now c.loop-row.row-index c.loop-row-test.false)
    ∙ c.loop-row.invariant s t same o tidy room ∙ ap (λ (rs : List TreeRow). first_some (map F rs)) c.rows-rows.ensures.rows ∙ sym (folding_in s t m c.args.kind)
