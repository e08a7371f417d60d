use Rattle.std.proofs.Common.{◌+◌, ◌*◌, ◌≤◌, sym, ap, ap₂, ◌∙◌, subst}
use Rattle.sm_base.specs.declared.sizes.Geometry.{Geometry}
use Rattle.vhd_image.specs.Bodies.{sector_count}
use Rattle.sm_machine.specs.Refusals.{fork_need}
use Rattle.std.specs.Option.{option_copied}
use Rattle.sm_machine.specs.Refusals.{with_image_of}
use Rattle.sm_ready.specs.Known.{known, shape_in}
use Rattle.sm_ready.proofs.LookLaws.{image_is, shown_in, shown_size}
use Rattle.sm_ready.proofs.needs.fork_need.Goals as goal

pub returns-in-Some-clause-exact : goal.returns-in-Some-clause-exact
returns-in-Some-clause-exact c = λ s t same o tidy.
    let m = known c.args.memory.now in
    let there = sym c.image.ensures ∙ ap option_copied c.in-Some.is in
    let size = subst (λ (g : Geometry). sector_count c.in-Some.row.now.image ≤ g.entries * g.block) same (shown_size s t m c.in-Some.row.now o (shown_in m.rows c.args.disk.now _ there)) in
    ap₂ (λ a b. a + b)
    ((rw c.sectors.ensures at c.wanted.ensures.exact) size s t same o tidy) (c.thin.ensures.exact s t m same)
    ∙ sym (ap (with_image_of (fork_need (shape_in s t m) c.args.disk.now)) (image_is s t m c.args.disk.now _ o there))

pub returns-in-None-clause-exact : goal.returns-in-None-clause-exact
returns-in-None-clause-exact c = λ s t same o tidy.
    let m = known c.args.memory.now in
    sym (ap (with_image_of (fork_need (shape_in s t m) c.args.disk.now)) (image_is s t m c.args.disk.now _ o (sym c.image.ensures ∙ ap option_copied c.in-None.is)))
