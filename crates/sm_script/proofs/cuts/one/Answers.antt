use Rattle.std.proofs.Common.{ℕ, List, length, Option, Bor, arith, ap, sym}
use Rattle.std.specs.Prelude.{option_copied}
use Rattle.sm_script.specs.Cuts.{words_behind}
use Rattle.sm_script.proofs.CutLaws.{two_words}
use Rattle.sm_script.proofs.cuts.one.Goals as goal

pub returns-then-is_some-clause-other : goal.returns-then-is_some-clause-other
returns-then-is_some-clause-other c = λ single.
    let more = two_words c.first_word.result.1 _ _ (sym c.if-is_some.ensures) c.first_word.ensures.words in
    let rest = ap (λ (r : Option (Bor (List ℕ))). words_behind (option_copied r)) c.in_ok-rest.was in
    omega (arith, more, ap length rest)
