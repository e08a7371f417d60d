use Rattle.std.proofs.Common.{◌≡◌, ◌*◌, length, take, drop}
use Rattle.sm_machine.specs.Lines.{hex_bytes}
use Rattle.sm_script.proofs.DigitLaws.{behind}
use Rattle.sm_script.proofs.digits.decode_pairs.Given as goal

-- the bytes up to this one are those that the digits in front of it spell
abbrev pub invariant-loop-index : goal.invariant-loop-index
invariant-loop-index l = record {
  long : length l.bytes ≡ length l.fn.bytes;
  read : hex_bytes l.fn.digits ≡ behind (take l.index l.bytes) (hex_bytes (drop (2 * l.index) l.fn.digits));
}
