use Rattle.std.proofs.Common.{◌==◌, sym, ap, ◌∙◌}
use Rattle.vhd_chain.specs.Trees.{row_name}
use Rattle.sm_ready.specs.Known.{known}
use Rattle.gc_plan.proofs.ImageLaws.{children_counted}
use Rattle.gc_plan.proofs.images.is_childless.Goals as goal

pub returns : goal.returns
returns c = λ s t o tidy i.
    ap (λ n. n == 0) (c.child_count.ensures i ∙ sym (children_counted s t (known c.args.memory.now) (row_name c.args.row.now) o))
