use Rattle.std.proofs.Common.{refl, arith}
use Rattle.sm_script.specs.declared.digits.TheConstants.{VALUES}
use Rattle.sm_script.proofs.DigitLaws.{digit_none, digit_some}
use Rattle.sm_script.proofs.digits.value_of.Goals as goal

pub returns-then-value : goal.returns-then-value
returns-then-value c = digit_none VALUES c.args.digit c.if-value.true (omega (arith, c.ranges.digit.fits)) refl

pub returns : goal.returns
returns c = digit_some VALUES c.args.digit c.if-value.false (omega (arith, c.ranges.digit.fits)) refl
