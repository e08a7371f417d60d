use Rattle.std.proofs.Common.{sym, ◌∙◌}
use Rattle.std.proofs.lemmas.Bool.{true≢false, iff_false}
use Rattle.vg_meta.proofs.FreeLaws.{free_ways, below_from}
use Rattle.vg_meta.proofs.free.are_free.Goals as goal
use Rattle.vg_meta.proofs.free.are_free.Goals.{then-are_below, else-are_below}

pub returns-then-is_distinct : goal.returns-then-is_distinct
returns-then-is_distinct c =
    elim c.if-are_below.branch [
      | then-are_below w ↦ free_ways c.args.count c.args.volumes.now c.args.extents.now c.are_unused.result
          (sym c.are_below.ensures ∙ w.if-are_below.true) (w.is_distinct.ensures.0 (sym w.value-is ∙ c.if-is_distinct.true)) c.are_unused.ensures
      | else-are_below w ↦ absurd (true≢false (sym c.if-is_distinct.true ∙ w.value-is ∙ w.if-are_below.false))
    ]

pub returns-else-is_distinct : goal.returns-else-is_distinct
returns-else-is_distinct c = (
  λ h. absurd (true≢false (sym h ∙ c.if-is_distinct.false)),
  λ f. elim c.if-are_below.branch [
    | then-are_below w ↦ absurd (iff_false w.is_distinct.ensures (sym w.value-is ∙ c.if-is_distinct.false) f.distinct)
    | else-are_below w ↦ absurd (true≢false (sym (below_from c.args.count c.args.extents.now f.below) ∙ sym c.are_below.ensures ∙ w.if-are_below.false))
  ],
)
