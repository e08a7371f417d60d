use Rattle.std.proofs.Common.{List, sym, ap, ◌∙◌}
use Rattle.vhd_chain.specs.Trees.{children}
use Rattle.sm_machine.specs.Collector.{relink_or}
use Rattle.sm_machine.specs.Shapes.{ImageRow}
use Rattle.sm_ready.specs.Known.{known}
use Rattle.gc_plan.proofs.ImageLaws.{children_found}
use Rattle.gc_plan.proofs.PlanLaws.{link_ended, link_next}
use Rattle.gc_plan.proofs.planning.plan_relink.Goals as goal

pub returns-in-Some : goal.returns-in-Some
returns-in-Some c = λ s t o tidy.
    link_next (children c.args.memory.now.tree.rows c.args.child.now) c.in-Some.child c.in-Some.ensures.first
    ∙ ap (λ (is : List ImageRow). relink_or is) (sym (children_found s t (known c.args.memory.now) c.args.child.now o))

pub returns-in-None : goal.returns-in-None
returns-in-None c = λ s t o tidy.
    link_ended (children c.args.memory.now.tree.rows c.args.child.now) c.in-None.ensures.first
    ∙ ap (λ (is : List ImageRow). relink_or is) (sym (children_found s t (known c.args.memory.now) c.args.child.now o))
