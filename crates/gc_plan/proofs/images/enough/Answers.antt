use Rattle.std.proofs.Common.{◌≤◌, ap, ◌∙◌, arith}
use Rattle.sm_base.specs.declared.sizes.Geometry.{Geometry}
use Rattle.sm_machine.specs.Shapes.{thin_in}
use Rattle.sm_ready.specs.Known.{shape_in}
use Rattle.gc_plan.proofs.ImageLaws.{table_few}
use Rattle.gc_plan.proofs.images.enough.Goals as goal

pub returns : goal.returns
returns c = λ m s t same o tidy i.
    let few : c.top.result ≤ c.args.geometry.now.entries = omega (arith, c.top.ensures.within, table_few s t m c.args.row.now o i, ap (λ (g : Geometry). g.entries) same) in
    c.thin.ensures few s t m same ∙ ap (thin_in (shape_in s t m)) c.top.ensures.top
