use Rattle.std.proofs.Common.{◌≡◌, sym, ap, ◌∙◌, arith}
use Rattle.sm_base.specs.Numbers.{thin}
use Rattle.sm_base.specs.declared.sizes.Geometry.{Geometry}
use Rattle.sm_ready.specs.Known.{shape_in}
use Rattle.sm_ready.proofs.NeedLaws.{thin_few}
use Rattle.gc_plan.proofs.images.thin.Goals as goal

pub overflow_cast-result : goal.overflow_cast-result
overflow_cast-result c =
    let g = c.args.geometry.now in
    omega (arith, c.thin.ensures, thin_few g.extent g.block g.entries c.from-slots.result g.in_range (omega (arith, c.min.ensures, c.from-slots.ensures)))

pub returns : goal.returns
unfolding shape_in
returns c = λ few s t m same.
    let g = c.args.geometry.now in
    let all : c.from-slots.result ≡ c.args.slots = omega (arith, c.min.ensures, c.from-slots.ensures, few) in
    c.thin.ensures ∙ ap (thin g.extent g.block g.entries) all ∙ ap (λ (h : Geometry). thin h.extent h.block h.entries c.args.slots) (sym same)
