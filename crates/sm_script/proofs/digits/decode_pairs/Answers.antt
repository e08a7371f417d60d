use Rattle.std.proofs.Common.{rules, refl, arith}
use Rattle.sm_machine.specs.Lines.{hex_bytes}
use Rattle.sm_script.proofs.DigitLaws.{all_read, behind_none, no_high, no_low, pair_more}
use Rattle.sm_script.proofs.digits.decode_pairs.Goals as goal

pub loop-index-init : goal.loop-index-init
loop-index-init c = record { long = refl; read = behind_none (hex_bytes c.args.digits.now) }

pub returns-in_err-high : goal.returns-in_err-high
returns-in_err-high c =
    rw c.from_residual.ensures
    (no_high c.args.digits.now c.loop-index.bytes c.loop-index.index (omega (arith, c.requires.pairs, c.loop-index.invariant.long, c.loop-index-test.true)) c.loop-index.invariant.read c.in_err-high.ensures)

pub returns-in_err-low : goal.returns-in_err-low
returns-in_err-low c =
    rw c.from_residual-in_err-low.ensures
    (no_low c.args.digits.now c.loop-index.bytes c.loop-index.index (omega (arith, c.requires.pairs, c.loop-index.invariant.long, c.loop-index-test.true)) c.loop-index.invariant.read
    c.in_ok-high.high c.in_ok-high.ensures c.in_err-low.ensures)

pub loop-index-preserved : goal.loop-index-preserved
loop-index-preserved c = record {
  long = search rules;
  read = pair_more c.args.digits.now c.loop-index.bytes c.loop-index.index (omega (arith, c.requires.pairs, c.loop-index-test.true)) c.loop-index.invariant.read
      c.in_ok-high.high c.in_ok-low.low c.in_ok-high.ensures c.in_ok-low.ensures (omega (arith, c.loop-index.invariant.long, c.loop-index-test.true));
}

pub returns : goal.returns
returns c = all_read c.args.digits.now c.loop-index.bytes c.loop-index.index (omega (arith, c.requires.pairs, c.loop-index.invariant.long)) (omega (arith, c.loop-index.invariant.long, c.loop-index-test.false)) c.loop-index.invariant.read
