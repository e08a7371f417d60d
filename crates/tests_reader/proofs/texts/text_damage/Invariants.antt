use Rattle.tests_reader.specs.SoFar.{seen}
use Rattle.tests_reader.proofs.TextLaws.{IsRead}
use Rattle.tests_reader.proofs.texts.text_damage.Given as goal

abbrev pub invariant-loop : goal.invariant-loop
invariant-loop l = IsRead l.grammar l.count l.initial.rest l.rest (seen l.before) l.met.items l.counter
