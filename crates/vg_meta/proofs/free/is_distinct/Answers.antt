use Rattle.std.proofs.Common.{List, ℕ, get_or, refl, sym, ap, ◌∙◌}
use Rattle.vg_meta.specs.Tables.{is_one_of}
use Rattle.vg_meta.proofs.FreeLaws.{rising_distinct, found_twice, distinct_more, distinct_end}
use Rattle.vg_meta.proofs.free.is_distinct.Goals as goal

pub returns-then-rising : goal.returns-then-rising
returns-then-rising c = (λ h. rising_distinct c.args.extents.now (c.requires c.if-rising.true), λ h. refl)

pub returns-then-has : goal.returns-then-has
returns-then-has c = (
  λ h. absurd cc,
  λ h. absurd (found_twice c.args.extents.now c.loop-at.at _ c.loop-at-test.true refl
      (ap (λ (l : List ℕ). is_one_of l (get_or c.args.extents.now c.loop-at.at 0)) (sym c.split_at.ensures.back) ∙ sym c.has.ensures ∙ c.if-has.true) h),
)

pub loop-at-preserved : goal.loop-at-preserved
loop-at-preserved c =
    distinct_more c.args.extents.now c.loop-at.at _ c.loop-at-test.true refl
    (ap (λ (l : List ℕ). is_one_of l (get_or c.args.extents.now c.loop-at.at 0)) (sym c.split_at.ensures.back) ∙ sym c.has.ensures ∙ c.if-has.false) c.loop-at.invariant

pub returns : goal.returns
returns c = (λ h. distinct_end c.args.extents.now c.loop-at.at c.loop-at-test.false c.loop-at.invariant, λ h. refl)
