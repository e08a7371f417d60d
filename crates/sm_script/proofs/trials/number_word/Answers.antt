use Rattle.std.proofs.Common.{◌<◌, ◌^◌, arith}
use Rattle.std.proofs.lemmas.Fmt.{length-decimal-le}
use Rattle.sm_script.proofs.trials.number_word.Goals as goal

pub returns-clause-short : goal.returns-clause-short
returns-clause-short c =
    let few : c.args.number < 10 ^ 20 = omega (arith, c.ranges.number.fits) in
    rw c.number.ensures (length-decimal-le 20 c.args.number (omega arith) few c.ranges.number.fits)
