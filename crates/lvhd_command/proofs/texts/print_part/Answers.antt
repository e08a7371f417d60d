use Rattle.std.proofs.Common.{◌≡◌, ◌∷◌, [], codes, ap}
use Rattle.sm_script.proofs.PieceLaws.{Writes-same}
use Rattle.lvhd_command.specs.Texts.{line_of}
use Rattle.lvhd_command.proofs.texts.print_part.Goals as goal

pub returns : goal.returns
unfolding line_of
returns g c =
    let words : c.text.result ∷ c.text-2.result ∷ c.args.kind ∷ c.args.part ∷ [] ≡ codes "error" ∷ codes "Damaged" ∷ c.args.kind ∷ c.args.part ∷ [] = cc (c.text.ensures, c.text-2.ensures) in
    Writes-same (ap line_of words) c.write_line.ensures
