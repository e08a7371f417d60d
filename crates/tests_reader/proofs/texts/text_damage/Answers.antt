use Rattle.std.proofs.Common.{rules, arith, None, subst, sym, ◌∙◌, List, ℕ}
use Rattle.tests_reader.specs.SoFar.{row, seen}
use Rattle.tests_reader.proofs.TextLaws.{IsRead, read_first, read_more, no_number_there, no_volume_there, bytes_there, whole, some_left, none_left}
use Rattle.vg_meta.proofs.DecodeLaws.{damaged_first, damaged_sequence}
use Rattle.tests_reader.proofs.texts.text_damage.Goals as goal

pub returns-in_default-clause-damage : goal.returns-in_default-clause-damage
returns-in_default-clause-damage c = damaged_first c.args.count c.args.text.now c.in_default.ensures.none

pub returns-then-sequence-ge-SEQUENCES-clause-damage : goal.returns-then-sequence-ge-SEQUENCES-clause-damage
returns-then-sequence-ge-SEQUENCES-clause-damage c =
    damaged_sequence c.args.count c.args.text.now c.in-Some.sequence c.in-Some.behind.now c.in-Some.ensures.number c.in-Some.ensures.fits c.if-sequence-ge-SEQUENCES.true

pub returns-in_default-number_at-clause-damage : goal.returns-in_default-number_at-clause-damage
returns-in_default-number_at-clause-damage c =
    no_number_there c.args.grammar c.args.count c.in-Some.sequence c.args.text.now c.in-Some.behind.now c.in-Some.ensures.number (omega (arith, c.if-sequence-ge-SEQUENCES.false))
    c.in_default-number_at.ensures.none

pub loop-init : goal.loop-init
loop-init c =
    subst (λ (met : List ℕ). IsRead c.args.grammar c.args.count c.in-Some-number_at.rest.now c.in-Some-number_at.rest.now None met 0) (sym c.new-met.ensures.items)
    (read_first c.args.grammar c.args.count c.in-Some-number_at.rest.now)

pub returns-in_default-2-clause-damage : goal.returns-in_default-2-clause-damage
returns-in_default-2-clause-damage c =
    no_volume_there c.args.grammar c.args.count c.in-Some.sequence c.in-Some-number_at.volumes c.args.text.now c.in-Some.behind.now c.in-Some-number_at.rest.now c.loop.rest.now (seen c.loop.before)
    c.loop.met.items c.loop.counter c.in-Some.ensures.number c.in-Some-number_at.ensures.number (omega (arith, c.if-sequence-ge-SEQUENCES.false)) c.in-Some-number_at.ensures.fits
    c.loop.invariant c.loop-test.true (search rules)

pub loop-preserved : goal.loop-preserved
loop-preserved c =
    read_more c.args.grammar c.args.count c.in-Some-number_at.rest.now c.loop.rest.now c.in-Some-2.after.now (seen c.loop.before) (row c.in-Some-2._volume) c.in-Some-2.spelled.now
    c.loop.met.items c.next_volume.new.met.items c.loop.counter c.loop.invariant (search rules) (search rules)

pub returns-then-is_empty-clause-damage : goal.returns-then-is_empty-clause-damage
returns-then-is_empty-clause-damage c =
    whole c.args.grammar c.args.count c.in-Some.sequence c.in-Some-number_at.volumes c.args.text.now c.in-Some.behind.now c.in-Some-number_at.rest.now c.loop.rest.now (seen c.loop.before)
    c.loop.met.items c.loop.counter c.ranges.count.fits c.in-Some.ensures.number c.in-Some-number_at.ensures.number (omega (arith, c.if-sequence-ge-SEQUENCES.false))
    c.in-Some-number_at.ensures.fits c.loop.invariant (omega (arith, c.loop.auto.counter-end, c.loop-test.false))
    (none_left c.loop.rest.now (sym c.is_empty.ensures ∙ c.if-is_empty.true))

pub returns-clause-damage : goal.returns-clause-damage
returns-clause-damage c =
    bytes_there c.args.grammar c.args.count c.in-Some.sequence c.in-Some-number_at.volumes c.args.text.now c.in-Some.behind.now c.in-Some-number_at.rest.now c.loop.rest.now (seen c.loop.before)
    c.loop.met.items c.loop.counter c.in-Some.ensures.number c.in-Some-number_at.ensures.number (omega (arith, c.if-sequence-ge-SEQUENCES.false))
    c.in-Some-number_at.ensures.fits c.loop.invariant (omega (arith, c.loop.auto.counter-end, c.loop-test.false))
    (some_left c.loop.rest.now (sym c.is_empty.ensures ∙ c.if-is_empty.false))
