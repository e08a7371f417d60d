use Rattle.std.proofs.Common.{rules}
use Rattle.tests_reader.proofs.OpeningLaws.{wrong_sum, right_sum}
use Rattle.tests_reader.specs.Answers.{by_text}
use Rattle.tests_reader.proofs.openings.text_fault.Goals as goal

pub returns-then-sum_between-sum : goal.returns-then-sum_between-sum
returns-then-sum_between-sum c =
    wrong_sum c.args.grammar c.args.count c.args.sum c.sum_between.result c.args.text.now c.sum_between.ensures c.if-sum_between-sum.true

pub returns : goal.returns
returns c = by_text c.in-Some.at (right_sum c.args.sum c.sum_between.result c.args.text.now c.sum_between.ensures c.if-sum_between-sum.false) (search rules)
