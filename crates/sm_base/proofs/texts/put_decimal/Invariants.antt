use Rattle.std.proofs.Common.{ℕ, List, ◌+◌, ◌≡◌, ◌<◌, ◌≤◌, ◌^◌, ◌++◌, drop, length, decimal}
use Rattle.sm_base.proofs.texts.put_decimal.Given as goal

-- the digits from `start` on are written, and the others are those of `rest`
pub record IsWritten (digits : List ℕ) (start rest number : ℕ) : Type 0 where
  pub text : decimal number ≡ decimal rest ++ drop (start + 1) digits
  pub place : start ≤ 9
  pub room : rest < 10 ^ (start + 1)
  pub long : length digits ≡ 10

abbrev pub invariant-loop-rest : goal.invariant-loop-rest
invariant-loop-rest l = IsWritten l.digits l.start l.rest l.fn.number

abbrev pub decreases-loop-rest : goal.decreases-loop-rest
decreases-loop-rest l = l.rest
