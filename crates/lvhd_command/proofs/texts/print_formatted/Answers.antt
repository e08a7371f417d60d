use Rattle.std.proofs.Common.{◌≡◌, ◌∷◌, [], ap}
use Rattle.sm_script.proofs.PieceLaws.{Writes-same}
use Rattle.lvhd_command.specs.Texts.{line_of, formatted_words}
use Rattle.lvhd_command.proofs.texts.print_formatted.Goals as goal

pub returns : goal.returns
unfolding line_of formatted_words
returns g c =
    let words : c.text.result ∷ c.text-2.result ∷ c.count.result ∷ c.text-3.result ∷ c.count-2.result ∷ [] ≡ formatted_words c.args.extents c.args.free
    = cc (c.text.ensures, c.text-2.ensures, c.count.ensures, c.text-3.ensures, c.count-2.ensures) in
    Writes-same (ap line_of words) c.write_line.ensures
