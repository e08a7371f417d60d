use Rattle.std.proofs.Common.{◌+◌, ◌∷◌, ◌++◌, take, sym, ap, ◌∙◌}
use Rattle.std.proofs.lemmas.List.{take_rest}
use Rattle.sm_machine.specs.Lines.{words}
use Rattle.sm_script.proofs.CutLaws.{IsCut-from_space, words-from_none}
use Rattle.sm_script.proofs.cuts.first_word.Goals as goal

pub returns-in-Some-clause-words : goal.returns-in-Some-clause-words
returns-in-Some-clause-words c =
    let line = c.args.line.now in
    let end = c.in-Some.end in
    (IsCut-from_space line end c.in-Some.ensures).words ∙ ap (λ rest. take end line ∷ words rest) (sym (take_rest line (end + 1)))

pub returns-in-Some-clause-bytes : goal.returns-in-Some-clause-bytes
returns-in-Some-clause-bytes c =
    let line = c.args.line.now in
    let end = c.in-Some.end in
    (IsCut-from_space line end c.in-Some.ensures).bytes ∙ ap (λ rest. take end line ++ (32 ∷ rest)) (sym (take_rest line (end + 1)))

pub returns-in-None-clause-words : goal.returns-in-None-clause-words
returns-in-None-clause-words c = words-from_none c.args.line.now c.in-None.ensures
