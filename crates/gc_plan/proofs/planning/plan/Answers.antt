use Rattle.std.proofs.Common.{length, sym, ap, ap₂, ◌∙◌}
use Rattle.sm_base.specs.declared.operations.Plan.TheVariants as plan
use Rattle.vg_meta.specs.Roomy.{table_alone}
use Rattle.sm_machine.specs.Collector.{clean_or, copy_or, next_step, plan_running}
use Rattle.sm_machine.proofs.Told.{told_copy, told_idle, told_leaf, told_live, told_relink}
use Rattle.sm_operation.specs.Kept.{dirty_in}
use Rattle.sm_ready.specs.Known.{known, shape_in}
use Rattle.gc_plan.proofs.planning.plan.Goals as goal

pub returns-in-Idle-clause-exact : goal.returns-in-Idle-clause-exact
unfolding next_step plan_running shape_in
returns-in-Idle-clause-exact c = λ s same o tidy.
    let σ = shape_in s (table_alone c.args.table.now) (known c.args.memory.now) in
    c.plan_idle.ensures s same o tidy ∙ sym (ap (plan_running σ) (told_idle c.args.memory.now.operation (sym c.told.ensures ∙ c.in-Idle.is)))

pub returns-in-Copy-clause-exact : goal.returns-in-Copy-clause-exact
unfolding next_step plan_running shape_in
returns-in-Copy-clause-exact c = λ s same o tidy.
    let t = table_alone c.args.table.now in
    c.plan_copy.ensures s t o tidy ∙ sym (ap (plan_running (shape_in s t (known c.args.memory.now))) (told_copy c.in-Copy.child c.in-Copy.parent c.in-Copy.cursor c.args.memory.now.operation (sym c.told.ensures ∙ c.in-Copy.is)))

pub returns-in-Relink-clause-exact : goal.returns-in-Relink-clause-exact
unfolding next_step plan_running shape_in
returns-in-Relink-clause-exact c = λ s same o tidy.
    let t = table_alone c.args.table.now in
    c.plan_relink.ensures s t o tidy ∙ sym (ap (plan_running (shape_in s t (known c.args.memory.now))) (told_relink c.in-Relink.child c.in-Relink.parent c.args.memory.now.operation (sym c.told.ensures ∙ c.in-Relink.is)))

pub returns-in-Leaf-clause-exact : goal.returns-in-Leaf-clause-exact
unfolding next_step plan_running shape_in
returns-in-Leaf-clause-exact c = λ s same o tidy.
    let t = table_alone c.args.table.now in
    c.copy_or.ensures ∙ ap (copy_or plan.Swap) (c.next_block.ensures s t o tidy) ∙ sym (ap (plan_running (shape_in s t (known c.args.memory.now))) (told_leaf c.in-Leaf.leaf c.in-Leaf.parent c.in-Leaf.cursor c.args.memory.now.operation (sym c.told.ensures ∙ c.in-Leaf.is)))

-- of a live folding the blocks that are dirty are those of the operation in memory
pub clean_or-done-requires : goal.clean_or-done-requires
clean_or-done-requires c =
    let k = c.in-Live in
    let live = told_live k.leaf k.parent k.cursor k.dirty c.args.memory.now.operation (sym c.told.ensures ∙ k.is) in
    sym live.2 ∙ sym (ap (λ o. length (dirty_in o)) live.1)

pub returns-in-Live-clause-exact : goal.returns-in-Live-clause-exact
unfolding next_step plan_running shape_in
returns-in-Live-clause-exact c = λ s same o tidy.
    let t = table_alone c.args.table.now in
    let m = known c.args.memory.now in
    let k = c.in-Live in
    let live = told_live k.leaf k.parent k.cursor k.dirty c.args.memory.now.operation (sym c.told.ensures ∙ k.is) in
    c.copy_or-in-Live.ensures ∙ ap₂ copy_or (c.clean_or-done.ensures ∙ ap (λ o. clean_or (dirty_in o)) live.1) (c.next_block-in-Live.ensures s t o tidy)
    ∙ sym (ap (plan_running (shape_in s t m)) live.1)
