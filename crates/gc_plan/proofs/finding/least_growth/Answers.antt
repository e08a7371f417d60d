use Rattle.std.proofs.Common.{List, map, drop, ◌+◌, sym, ap, ◌∙◌, subst, refl}
use Rattle.common_laws.specs.Lists.{In}
use Rattle.vhd_chain.specs.declared.rows.TreeRow.{TreeRow}
use Rattle.sm_ready.specs.Known.{known, shape_in}
use Rattle.gc_plan.specs.Planning.{lesser}
use Rattle.gc_plan.proofs.PlanLaws.{grown, least_growth_in}
use Rattle.gc_plan.proofs.StepLaws.{item_in, least_ended, least_in, least_more}
use Rattle.gc_plan.proofs.finding.least_growth.Goals as goal

pub loop-row-init : goal.loop-row-init
loop-row-init c = λ s t same o tidy. refl

pub loop-row-preserved : goal.loop-row-preserved
loop-row-preserved c = λ s t same o tidy.
    let F = grown c.args.kind (shape_in s t (known c.args.memory.now)) in
    let rows = c.rows-rows.result.now in
    let i = c.loop-row.row-index in
    let x = c.row-item.result in
    let there = subst (λ (rs : List TreeRow). In x rs) c.rows-rows.ensures.rows (item_in rows i x c.loop-row-test.true c.row-item.is) in
    ap (λ o. lesser o (least_in (map F (drop (i + 1) rows)))) (c.lesser-least.ensures ∙ ap (lesser c.loop-row.least) (c.growth_at.ensures s t same o tidy there))
    ∙ least_more F rows i c.loop-row.least x c.loop-row-test.true c.row-item.is ∙ c.loop-row.invariant s t same o tidy

pub returns : goal.returns
returns c = λ s t same o tidy.
    let m = known c.args.memory.now in
    let F = grown c.args.kind (shape_in s t m) in
    sym (least_ended F c.rows-rows.result.now c.loop-row.row-index c.loop-row.least c.loop-row-test.false)
    ∙ c.loop-row.invariant s t same o tidy ∙ ap (λ (rs : List TreeRow). least_in (map F rs)) c.rows-rows.ensures.rows ∙ sym (least_growth_in s t m c.args.kind)
