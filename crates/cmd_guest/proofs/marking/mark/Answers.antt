use Rattle.std.proofs.Common.{◌≡◌, ◌-◌, ℕ, List, true, refl, sym, ap, ◌∙◌, arith}
use Rattle.common_laws.specs.Lists.{numbers}
use Rattle.sm_machine.specs.Steps.{written_op}
use Rattle.sm_machine.proofs.Told.{written_apart, written_none}
use Rattle.gc_abandon.specs.Abandoning.{folded_pair}
use Rattle.cmd_guest.proofs.MarkLaws.{marked_more}
use Rattle.cmd_guest.proofs.marking.mark.Goals as goal

pub is_folded-requires : goal.is_folded-requires
is_folded-requires c = λ leaf parent is. c.requires.image leaf parent (ap folded_pair (sym c.told.ensures) ∙ is)

pub returns-then-not-is_folded : goal.returns-then-not-is_folded
returns-then-not-is_folded c = sym (written_apart c.args.disk.now (numbers c.args.first (c.args.end - c.args.first)) c.args.operation.now (sym (c.is_folded.ensures c.args.operation.now (sym c.told.ensures)) ∙ c.if-not-is_folded.true))

pub loop-block-init : goal.loop-block-init
unfolding numbers
loop-block-init c = record {
  marked = sym (ap (λ k. written_op c.args.disk.now (numbers c.args.first k) c.args.operation.now) (let e : c.args.first - c.args.first ≡ 0 = omega arith in e) ∙ written_none c.args.disk.now c.args.operation.now);
  up = omega arith;
}

pub touch-requires : goal.touch-requires
touch-requires c = let few = c.requires.few (sym (c.is_folded.ensures c.args.operation.now (sym c.told.ensures)) ∙ c.if-not-is_folded.false) in omega (arith, few, c.loop-block-test.true)

pub loop-block-preserved : goal.loop-block-preserved
loop-block-preserved c = record {
  marked = c.touch.ensures ∙ marked_more c.args.disk.now c.args.first c.loop-block.block c.args.operation.now c.loop-block.operation (sym (c.is_folded.ensures c.args.operation.now (sym c.told.ensures)) ∙ c.if-not-is_folded.false) c.loop-block.invariant.up c.loop-block.invariant.marked;
  up = let e = c.loop-block.invariant.up in omega (arith, e);
}

pub returns : goal.returns
returns c = c.loop-block.invariant.marked
    ∙ ap (λ k. written_op c.args.disk.now (numbers c.args.first k) c.args.operation.now)
    (let most = c.loop-block.auto.block-end c.requires.order in let up = c.loop-block.invariant.up in omega (arith, most, up, c.loop-block-test.false))
