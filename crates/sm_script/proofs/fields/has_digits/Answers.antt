use Rattle.sm_script.proofs.FieldLaws.{several_digits}
use Rattle.sm_script.proofs.fields.has_digits.Goals as goal

pub returns-else-word-eq1 : goal.returns-else-word-eq1
returns-else-word-eq1 c = several_digits c.args.word.now c.if-is_empty.ensures c.if-all_digits.ensures c.if-word-eq1.false
