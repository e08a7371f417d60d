use Rattle.std.proofs.Common.{◌≡◌, ◌≤◌, ◌*◌, sym, ap, ◌∙◌, arith}
use Rattle.sm_base.specs.Numbers.{thick}
use Rattle.sm_base.specs.declared.sizes.Geometry.{Geometry}
use Rattle.sm_ready.specs.Known.{shape_in}
use Rattle.sm_ready.proofs.NeedLaws.{thick_few}
use Rattle.sm_ready.proofs.needs.thick.Goals as goal

pub returns-clause-exact : goal.returns-clause-exact
unfolding shape_in
returns-clause-exact c = λ within s t m same.
    let g = c.args.geometry.now in
    let all : c.min.result ≡ c.args.sectors = rw (c.min.ensures, c.from.ensures, c.from-2.ensures) (omega (arith, within)) in
    c.thick.ensures ∙ ap (thick g.extent g.block g.entries) all ∙ ap (λ (h : Geometry). thick h.extent h.block h.entries c.args.sectors) (sym same)

pub returns-clause-few : goal.returns-clause-few
returns-clause-few c =
    let g = c.args.geometry.now in
    let within : c.min.result ≤ g.entries * g.block = rw (sym c.from.ensures, sym c.from-2.ensures) (omega (arith, c.min.ensures)) in
    omega (arith, c.thick.ensures, thick_few g.extent g.block g.entries c.min.result g.in_range within)
