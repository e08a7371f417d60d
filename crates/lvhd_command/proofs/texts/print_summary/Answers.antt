use Rattle.std.proofs.Common.{◌≡◌, ◌∷◌, [], ap}
use Rattle.sm_script.proofs.PieceLaws.{Writes-same}
use Rattle.lvhd_command.specs.Texts.{line_of}
use Rattle.lvhd_command.specs.Trials.{summary_words}
use Rattle.lvhd_command.proofs.texts.print_summary.Goals as goal

pub returns : goal.returns
unfolding line_of summary_words
returns g c =
    let words : c.text.result ∷ c.number.result ∷ c.text-2.result ∷ c.text-3.result ∷ c.text-4.result ∷ c.count.result ∷ c.text-5.result ∷ c.count-2.result ∷ c.text-6.result ∷ c.number-2.result
    ∷ c.text-7.result ∷ c.number-3.result ∷ c.text-8.result ∷ c.count-3.result ∷ c.text-9.result ∷ c.number-4.result ∷ []
    ≡ summary_words c.args.number c.args.tally.now c.args.ending.now.disks c.args.ending.now.images c.args.ending.now.free
    = cc (
      c.text.ensures,
      c.number.ensures,
      c.text-2.ensures,
      c.text-3.ensures,
      c.text-4.ensures,
      c.count.ensures,
      c.text-5.ensures,
      c.count-2.ensures,
      c.text-6.ensures,
      c.number-2.ensures,
      c.text-7.ensures,
      c.number-3.ensures,
      c.text-8.ensures,
      c.count-3.ensures,
      c.text-9.ensures,
      c.number-4.ensures,
    ) in
    Writes-same (ap line_of words) c.write_line.ensures
