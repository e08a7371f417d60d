use Rattle.std.proofs.Common.{◌≤◌, length, take, sum, sym, ap, ◌∙◌, arith}
use Rattle.std.proofs.lemmas.List.{length-take}
use Rattle.vg_store.specs.Openings.{by_sum}
use Rattle.vg_store.proofs.OpeningLaws.{damaged_told}
use Rattle.vg_store.proofs.openings.table_on.Goals as goal

pub returns-then-sum_of-header-clause-err : goal.returns-then-sum_of-header-clause-err
returns-then-sum_of-header-clause-err g c =
    (λ told. by_sum (λ e. c.if-sum_of-header.true (c.sum_of.ensures ∙ ap sum (c.in-Ok.ensures.text told) ∙ e)), c.in-Ok.ensures.cause.1)

pub returns-in-Err-Damaged-clause-err : goal.returns-in-Err-Damaged-clause-err
returns-in-Err-Damaged-clause-err g c = (
  λ told.
      let bytes = take c.args.header.now.length c.read_text.new.buffer in
      let short : length bytes ≤ 8519680 = omega (arith, length-take c.args.header.now.length c.read_text.new.buffer, c.requires.fits, c.requires.few) in
      damaged_told c.args.grammar c.args.extents c.args.header.now.sum bytes _ c.in-Err-Damaged.at (c.in-Ok.ensures.text told) (sym (ap sum (c.in-Ok.ensures.text told)) ∙ sym c.sum_of.ensures ∙ c.if-sum_of-header.false) short
      (rw c.in-Err-Damaged.field-0-is at c.in-Err-Damaged.ensures.fault),
  c.in-Ok.ensures.cause.1,
)
