use Rattle.std.proofs.Common.{sym, ap, ◌∙◌, arith}
use Rattle.sm_base.specs.Numbers.{thin}
use Rattle.sm_base.specs.declared.sizes.Geometry.{Geometry}
use Rattle.sm_ready.specs.Known.{shape_in}
use Rattle.sm_ready.proofs.NeedLaws.{thin_few}
use Rattle.sm_ready.proofs.needs.thin.Goals as goal

pub returns-clause-exact : goal.returns-clause-exact
unfolding shape_in
returns-clause-exact c = λ s t m same. c.thin.ensures ∙ ap (λ (h : Geometry). thin h.extent h.block h.entries 0) (sym same)

pub returns-clause-few : goal.returns-clause-few
returns-clause-few c =
    let g = c.args.geometry.now in
    omega (arith, c.thin.ensures, thin_few g.extent g.block g.entries 0 g.in_range (omega arith))
