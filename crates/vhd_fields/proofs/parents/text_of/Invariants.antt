use Rattle.std.proofs.Common.{◌≡◌, ℕ, ◌+◌, ◌*◌, ◌<◌, slice_index, length}
use Rattle.vhd_fields.proofs.parents.text_of.Given as goal

abbrev pub invariant-loop-unit : goal.invariant-loop-unit
invariant-loop-unit l = record {
  long : length l.text ≡ 40;
  read : (k : ℕ) → k < l.unit → slice_index l.text k ≡ slice_index l.field (2 * k + 1);
}
