use Rattle.std.proofs.Common.{◌≡◌, ℕ, ◌<◌, ◌≤◌, length, get_or, bit_or}
use Rattle.sm_log.proofs.bits.unite.Given as goal

-- the bytes up to this one have the bits of both
abbrev pub invariant-loop-i : goal.invariant-loop-i
invariant-loop-i l = record {
  long : length l.bytes ≡ length l.fn.bytes;
  done : (k : ℕ) → k < l.i → get_or l.bytes k 0 ≡ bit_or (get_or l.fn.bytes k 0) (get_or l.others k 0);
  rest : (k : ℕ) → l.i ≤ k → get_or l.bytes k 0 ≡ get_or l.fn.bytes k 0;
}
