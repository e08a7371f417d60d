use Rattle.std.proofs.Common.{arith, sym, ◌∙◌}
use Rattle.std.proofs.lemmas.Bool.Decides.{nat_tests}
use Rattle.sm_script.proofs.FieldLaws.{sectors_none, sectors_whole}
use Rattle.sm_script.proofs.fields.sectors_in.Goals as goal
use Rattle.sm_script.proofs.fields.sectors_in.Goals.{then-is_empty-via-then-is_empty, then-is_empty-via-else-is_empty+then-word-ne0}

pub returns-then-is_empty : goal.returns-then-is_empty
returns-then-is_empty c =
    sym (sectors_none c.args.word.now (elim c.then-is_empty.branch [
      | then-is_empty-via-then-is_empty w ↦ λ some _. grind (arith, nat_tests, w.if-is_empty.ensures)
      | then-is_empty-via-else-is_empty+then-word-ne0 w ↦ λ _ whole. w.if-word-ne0.true whole
    ]))

pub returns-in-Some : goal.returns-in-Some
returns-in-Some c = sym c.in-Some.ensures.decoded ∙ sectors_whole c.args.word.now c.if-is_empty.ensures c.if-word-ne0.false

pub returns-in-None : goal.returns-in-None
returns-in-None c = sym c.in-None.ensures.decoded ∙ sectors_whole c.args.word.now c.if-is_empty.ensures c.if-word-ne0.false
