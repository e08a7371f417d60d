use Rattle.std.proofs.Common.{List, Some, map, sym, ap, ap₂, ◌∙◌, subst, refl}
use Rattle.sm_base.specs.declared.operations.Plan.TheVariants as plan
use Rattle.common_laws.specs.Lists.{In, first_some, given}
use Rattle.vhd_chain.specs.Reading.{slots_of}
use Rattle.vhd_chain.specs.Trees.{row_name}
use Rattle.vhd_chain.specs.declared.rows.TreeRow.{TreeRow}
use Rattle.sm_machine.specs.Shapes.{thin_in, top}
use Rattle.sm_ready.specs.Known.{known, shape_in}
use Rattle.gc_plan.proofs.PlanLaws.{deflated, deflation_in}
use Rattle.gc_plan.proofs.StepLaws.{caught, ended, item_in, passed}
use Rattle.gc_plan.proofs.finding.deflation.Goals as goal

pub loop-row-init : goal.loop-row-init
loop-row-init c = λ s t same o tidy. refl

pub loop-row-preserved : goal.loop-row-preserved
loop-row-preserved c = λ s t same o tidy.
    let σ = shape_in s t (known c.args.memory.now) in
    let rows = c.rows-rows.result.now in
    let x = c.row-item.result in
    let there = subst (λ (rs : List TreeRow). In x rs) c.rows-rows.ensures.rows (item_in rows c.loop-row.row-index x c.loop-row-test.true c.row-item.is) in
    let cut = plan.Deflate (row_name x) (thin_in σ (top (slots_of x.image))) in
    passed (deflated σ) rows c.loop-row.row-index x c.loop-row-test.true c.row-item.is (ap (λ b. given b cut) (sym (c.is_loose.ensures s t same o tidy there) ∙ c.if-is_loose.false))
    ∙ c.loop-row.invariant s t same o tidy

pub returns-then-is_loose : goal.returns-then-is_loose
returns-then-is_loose c = λ s t same o tidy.
    let m = known c.args.memory.now in
    let σ = shape_in s t m in
    let rows = c.rows-rows.result.now in
    let x = c.row-item.result in
    let there = subst (λ (rs : List TreeRow). In x rs) c.rows-rows.ensures.rows (item_in rows c.loop-row.row-index x c.loop-row-test.true c.row-item.is) in
    let cut = plan.Deflate (row_name x) (thin_in σ (top (slots_of x.image))) in
    ap₂ (λ n k. Some (plan.Deflate n k)) c.name.ensures (c.enough.ensures m s t same o tidy there)
    ∙ sym (caught (deflated σ) rows c.loop-row.row-index x cut c.loop-row-test.true c.row-item.is (ap (λ b. given b cut) (sym (c.is_loose.ensures s t same o tidy there) ∙ c.if-is_loose.true)))
    ∙ c.loop-row.invariant s t same o tidy ∙ ap (λ (rs : List TreeRow). first_some (map (deflated σ) rs)) c.rows-rows.ensures.rows ∙ sym (deflation_in s t m)

pub returns : goal.returns
returns c = λ s t same o tidy.
    let m = known c.args.memory.now in
    let F = deflated (shape_in s t m) in
    sym (ended F c.rows-rows.result.now c.loop-row.row-index c.loop-row-test.false)
    ∙ c.loop-row.invariant s t same o tidy ∙ ap (λ (rs : List TreeRow). first_some (map F rs)) c.rows-rows.ensures.rows ∙ sym (deflation_in s t m)
