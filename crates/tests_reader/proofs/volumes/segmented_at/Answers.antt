use Rattle.std.proofs.Common.{◌≡◌, ◌++◌, List, ℕ, sym, subst, rules, arith}
use Rattle.std.specs.List.{range_with_len}
use Rattle.std.proofs.lemmas.Bool.{iff_false}
use Rattle.vg_meta.specs.Segments.{GoesOn}
use Rattle.vg_meta.proofs.SegmentTextLaws.{next_segment, long_next, goes_on_there}
use Rattle.vg_meta.proofs.SegmentSteps.{segments_first, segments_more}
use Rattle.tests_reader.proofs.volumes.segmented_at.Goals as goal

pub loop-init : goal.loop-init
loop-init c = segments_first c.args.count c.args.count c.args.bytes.now c.in-Some.number c.in-Some.rest.now c.new-extents.result.items c.new-extents.ensures.items c.in-Some.ensures.number

pub returns-in_default-pair_at-clause-none : goal.returns-in_default-pair_at-clause-none
returns-in_default-pair_at-clause-none c = λ all rest among e.
    let es = c.loop.extents.items in
    let n = next_segment c.args.bytes.now c.loop.rest.now c.in-Some.number c.args.count c.args.count es (omega arith) (omega arith) c.loop.invariant.few c.in-Some.ensures.fits
    (omega (arith, c.loop.invariant.many, c.loop-test.true)) c.loop.invariant.read all rest among e in
    absurd (omega (arith, long_next c.args.count c.args.count es c.loop.rest.now n, c.in_default-pair_at.ensures.none))

pub returns-then-not-goes_on-clause-none : goal.returns-then-not-goes_on-clause-none
returns-then-not-goes_on-clause-none c = λ all rest among e.
    let es = c.loop.extents.items in
    let first = c.in-Some-pair_at.first in
    let many = c.in-Some-pair_at.many in
    let n = next_segment c.args.bytes.now c.loop.rest.now c.in-Some.number c.args.count c.args.count es (omega arith) (omega arith) c.loop.invariant.few c.in-Some.ensures.fits
    (omega (arith, c.loop.invariant.many, c.loop-test.true)) c.loop.invariant.read all rest among e in
    let goes = goes_on_there c.args.count c.args.count es c.loop.rest.now c.in-Some-pair_at.after.now first many n c.in-Some-pair_at.ensures.numbers
    c.in-Some-pair_at.ensures.fit.0 c.in-Some-pair_at.ensures.fit.1 in
    iff_false c.goes_on.ensures c.if-not-goes_on.true (subst (λ (l : List ℕ). GoesOn c.args.count c.args.count l first many) (sym c.deref.ensures.value) goes)

pub loop-preserved : goal.loop-preserved
loop-preserved c =
    let es = c.loop.extents.items in
    let first = c.in-Some-pair_at.first in
    let many = c.in-Some-pair_at.many in
    let goes = subst (λ (l : List ℕ). GoesOn c.args.count c.args.count l first many) c.deref.ensures.value (c.goes_on.ensures.0 c.if-not-goes_on.false) in
    let pushed : c.push_run.new.extents.items ≡ es ++ range_with_len first many = search rules in
    segments_more c.args.count c.args.count c.args.bytes.now c.in-Some.number c.loop.rest.now c.in-Some-pair_at.after.now es c.push_run.new.extents.items first many c.loop.counter
    c.loop.invariant goes c.in-Some-pair_at.ensures.numbers pushed
