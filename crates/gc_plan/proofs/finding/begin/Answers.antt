use Rattle.std.proofs.Common.{sym, ap, ap₂, ◌∙◌}
use Rattle.sm_base.specs.declared.operations.Plan.TheVariants as plan
use Rattle.sm_ready.specs.Known.{known, shape_in}
use Rattle.vhd_chain.specs.Trees.{row_name}
use Rattle.gc_plan.specs.Planning.{as_pair, begun}
use Rattle.gc_plan.specs.declared.pairs.Kind.{Kind}
use Rattle.gc_plan.proofs.finding.begin.Goals as goal

pub returns-in-Hidden : goal.returns-in-Hidden
returns-in-Hidden c = λ s t same o tidy p.
    let q = c.args.pair.now in
    ap₂ (λ a b. plan.Begin a b c.target-to.result) c.name-child.ensures c.name-parent.ensures
    ∙ ap (plan.Begin (row_name q.child.now) (row_name q.parent.now)) (c.target-to.ensures s t same o tidy p)
    ∙ ap (λ (k : Kind). begun k (shape_in s t (known c.args.memory.now)) (as_pair q)) (sym c.in-Hidden.is)

pub returns-in-Leaf : goal.returns-in-Leaf
returns-in-Leaf c = λ s t same o tidy p.
    let q = c.args.pair.now in
    ap₂ (λ a b. plan.Leaf a b c.target-to.result) c.name-child.ensures c.name-parent.ensures
    ∙ ap (plan.Leaf (row_name q.child.now) (row_name q.parent.now)) (c.target-to.ensures s t same o tidy p)
    ∙ ap (λ (k : Kind). begun k (shape_in s t (known c.args.memory.now)) (as_pair q)) (sym c.in-Leaf.is)

pub returns-in-Live : goal.returns-in-Live
returns-in-Live c = λ s t same o tidy p.
    let q = c.args.pair.now in
    ap₂ (λ a b. plan.Live a b c.target-to.result) c.name-child.ensures c.name-parent.ensures
    ∙ ap (plan.Live (row_name q.child.now) (row_name q.parent.now)) (c.target-to.ensures s t same o tidy p)
    ∙ ap (λ (k : Kind). begun k (shape_in s t (known c.args.memory.now)) (as_pair q)) (sym c.in-Live.is)
