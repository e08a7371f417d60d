use Rattle.std.proofs.Common.{◌≡◌, ◌∷◌, [], codes, decimal, ap, sym, ◌∙◌}
use Rattle.sm_script.proofs.PieceLaws.{Writes-same}
use Rattle.lvhd_command.specs.Texts.{line_of, fault_words}
use Rattle.lvhd_command.proofs.texts.print_fault.Goals as goal

pub returns-in-NotARepository : goal.returns-in-NotARepository
unfolding line_of fault_words
returns-in-NotARepository g c =
    let words : c.text.result ∷ c.text-in-NotARepository.result ∷ [] ≡ codes "error" ∷ codes "NotARepository" ∷ [] = cc (c.text.ensures, c.text-in-NotARepository.ensures) in
    Writes-same (ap line_of (words ∙ ap fault_words (sym c.in-NotARepository.is))) c.write_line.ensures

pub returns-in-Unsupported : goal.returns-in-Unsupported
unfolding line_of fault_words
returns-in-Unsupported g c =
    let words : c.text-in-Unsupported.result ∷ c.text-in-Unsupported-2.result ∷ c.count.result ∷ [] ≡ codes "error" ∷ codes "Unsupported" ∷ decimal c.in-Unsupported.version ∷ []
    = cc (c.text-in-Unsupported.ensures, c.text-in-Unsupported-2.ensures, c.count.ensures) in
    Writes-same (ap line_of (words ∙ ap fault_words (sym c.in-Unsupported.is))) c.write_line-in-Unsupported.ensures

pub returns-in-Damaged : goal.returns-in-Damaged
unfolding line_of fault_words
returns-in-Damaged g c = Writes-same (ap (λ f. line_of (fault_words f)) (sym c.in-Damaged.is)) c.print_damaged.ensures
