use Rattle.std.proofs.Common.{◌*◌, ◌==◌, ◌&&◌, ◌||◌, nat_lt, sym, ap, ap₂, ◌∙◌}
use Rattle.sm_base.specs.declared.sizes.Geometry.{Geometry}
use Rattle.sm_machine.specs.Refusals.{rounded}
use Rattle.sm_ready.specs.Known.{shape_in}
use Rattle.sm_refusals.proofs.causes.is_bad.Goals as goal

pub returns : goal.returns
unfolding shape_in
returns c = λ s t m same.
    let g = c.args.geometry.now in
    c.passes.ensures
    ∙ rw (c.from.ensures, c.from-2.ensures, c.from-3.ensures, c.from-4.ensures)
    (ap₂ (λ (h : Geometry) (n : _). (c.args.size == 0) || nat_lt (h.entries * h.block) n || (c.args.raw && nat_lt (c.args.extents * h.extent) n)) (sym same.same_sizes) (c.rounded-sectors.ensures s t m same.same_sizes)
    ∙ ap (λ n. (c.args.size == 0) || nat_lt (s.geometry.entries * s.geometry.block) (rounded (shape_in s t m) c.args.raw c.args.size) || (c.args.raw && nat_lt (n * s.geometry.extent) (rounded (shape_in s t m) c.args.raw c.args.size))) (sym same.same_count))
