use Rattle.std.proofs.Common.{◌≤◌, ◌*◌, max, ap, ap₂, subst, sym, ◌∙◌, arith}
use Rattle.sm_base.specs.declared.sizes.Geometry.{Geometry}
use Rattle.vhd_chain.specs.Reading.{slots_of}
use Rattle.vhd_image.specs.Bodies.{sector_count}
use Rattle.sm_machine.specs.Shapes.{thin_in}
use Rattle.sm_ready.specs.Known.{known, shape_in}
use Rattle.sm_ready.proofs.LookLaws.{shown_size}
use Rattle.gc_plan.specs.Planning.{as_pair}
use Rattle.gc_plan.proofs.ImageLaws.{table_few}
use Rattle.gc_plan.proofs.PairLaws.{either_few, needed_thick, needed_thin, same_tables}
use Rattle.gc_plan.proofs.pairs.needed.Goals as goal

pub returns-then-is_written : goal.returns-then-is_written
returns-then-is_written c = λ s t same o tidy p.
    let m = known c.args.memory.now in
    let σ = shape_in s t m in
    let q = c.args.pair.now in
    let within = subst (λ (g : Geometry). sector_count q.child.now.image ≤ g.entries * g.block) same (shown_size s t m q.child.now o p.child) in
    ((rw c.sectors.ensures at c.thick.ensures.exact) within s t m same) ∙ needed_thick σ (as_pair q) (sym (c.is_written.ensures s t o tidy p.child) ∙ c.if-is_written.true)

pub returns-else-is_written : goal.returns-else-is_written
returns-else-is_written c = λ s t same o tidy p.
    let m = known c.args.memory.now in
    let σ = shape_in s t m in
    let q = c.args.pair.now in
    let long = same_tables s t m o q p c.requires in
    let count = c.count_either.ensures long in
    let few : c.max.result ≤ c.args.geometry.now.entries =
    omega (
      arith,
      c.max.ensures,
      c.top.ensures.within,
      count,
      either_few (slots_of q.parent.now.image) (slots_of q.child.now.image) long,
      table_few s t m q.parent.now o p.parent,
      ap (λ (g : Geometry). g.entries) same,
    ) in
    c.thin.ensures few s t m same ∙ ap (thin_in σ) (c.max.ensures ∙ ap₂ max c.top.ensures.top count)
    ∙ needed_thin σ (as_pair q) (sym (c.is_written.ensures s t o tidy p.child) ∙ c.if-is_written.false)
