use Rattle.std.proofs.Common.{◌≡◌, ◌∷◌, [], ap}
use Rattle.sm_script.proofs.PieceLaws.{Writes-same}
use Rattle.lvhd_command.specs.Texts.{line_of, too_small_words}
use Rattle.lvhd_command.proofs.texts.print_too_small.Goals as goal

pub returns : goal.returns
unfolding line_of too_small_words
returns g c =
    let words : c.text.result ∷ c.text-2.result ∷ c.number.result ∷ [] ≡ too_small_words c.args.sectors = cc (c.text.ensures, c.text-2.ensures, c.number.ensures) in
    Writes-same (ap line_of words) c.write_line.ensures
