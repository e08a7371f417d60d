use Rattle.std.proofs.Common.{◌≡◌, ◌∷◌, [], ap}
use Rattle.sm_script.proofs.PieceLaws.{Writes-same}
use Rattle.lvhd_command.specs.Texts.{line_of, unknown_words}
use Rattle.lvhd_command.proofs.texts.print_unknown.Goals as goal

pub returns : goal.returns
unfolding line_of unknown_words
returns g c =
    let words : c.text.result ∷ c.text-2.result ∷ [] ≡ unknown_words = cc (c.text.ensures, c.text-2.ensures) in
    Writes-same (ap line_of words) c.write_line.ensures
