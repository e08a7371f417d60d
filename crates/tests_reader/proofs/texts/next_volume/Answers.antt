use Rattle.std.proofs.Common.{rules, inl, inr, sym, ◌∙◌}
use Rattle.tests_reader.specs.SoFar.{row, seen}
use Rattle.tests_reader.proofs.TextLaws.{IsFound, so_more, so_none, so_stop}
use Rattle.tests_reader.proofs.texts.next_volume.Goals as goal
use Rattle.tests_reader.proofs.texts.next_volume.Goals.{else-rises-via-then-rises+in_ok-are_new+else-branch, else-rises-via-else-rises}

pub returns-then-branch-clause-next : goal.returns-then-branch-clause-next
returns-then-branch-clause-next c =
    let f : IsFound c.args.grammar c.args.count c.args.bytes.now (row c.in-Some.volume) c.in-Some.spelled.now c.in-Some.rest.now = record {
      low = c.ranges.count.fits;
      volume = search rules;
      few = search rules;
      fit = search rules;
      named = search rules;
      text = search rules;
    } in
    so_more c.args.grammar c.args.count c.args.bytes.now (row c.in-Some.volume) c.in-Some.spelled.now c.in-Some.rest.now c.args.met.now.items c.are_new.new.met.items (seen c.args.before) f
    (sym c.rises.ensures ∙ c.if-rises.true)
    (search rules) (search rules)

pub returns-clause-none : goal.returns-clause-none
returns-clause-none c =
    let f : IsFound c.args.grammar c.args.count c.args.bytes.now (row c.in-Some.volume) c.in-Some.spelled.now c.in-Some.rest.now = record {
      low = c.ranges.count.fits;
      volume = search rules;
      few = search rules;
      fit = search rules;
      named = search rules;
      text = search rules;
    } in
    so_stop c.args.grammar c.args.count c.args.bytes.now (row c.in-Some.volume) c.in-Some.spelled.now c.in-Some.rest.now c.args.met.now.items (seen c.args.before) f
    (elim c.else-rises.branch [
      | else-rises-via-then-rises+in_ok-are_new+else-branch w ↦ inr (search rules)
      | else-rises-via-else-rises w ↦ inl (sym c.rises.ensures ∙ w.if-rises.false)
    ])

pub returns-in_default-clause-none : goal.returns-in_default-clause-none
returns-in_default-clause-none c = λ rs so. so_none c.args.grammar c.args.count c.args.bytes.now (search rules) rs
