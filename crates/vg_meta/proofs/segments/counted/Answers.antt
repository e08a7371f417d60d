use Rattle.std.proofs.Common.{◌≡◌, ℕ, length, take, get_or, subst, arith}
use Rattle.std.specs.List.{range_with_len}
use Rattle.std.proofs.lemmas.List.{get_or_default}
use Rattle.std.proofs.lemmas.Option.{slice_get_within}
use Rattle.vg_meta.proofs.SegmentSteps.{counted_more, counts_up}
use Rattle.vg_meta.proofs.segments.counted.Goals as goal

pub loop-index-preserved : goal.loop-index-preserved
loop-index-preserved c =
    let es = c.args.extents.now in
    let i = c.loop-index.index in
    let e = get_or es i 0 in
    counted_more es c.args.from i e c.loop-index-test.true (get_or_default es i 0 e c.loop-index-test.true) (omega (arith, c.from.ensures, c.if-from-index.false)) c.loop-index.invariant

pub returns : goal.returns
returns c =
    let es = c.args.extents.now in
    let all : c.loop-index.index ≡ length es = omega arith in
    counts_up es c.args.from (length es) (omega arith) (subst (λ (k : ℕ). take k es ≡ range_with_len c.args.from k) all c.loop-index.invariant)
    (λ e there. absurd (omega (arith, slice_get_within es (length es) e there)))
