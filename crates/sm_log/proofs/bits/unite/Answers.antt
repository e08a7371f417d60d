use Rattle.std.proofs.Common.{◌≡◌, ◌<◌, ◌≤◌, ◌⊎◌, ◌∙◌, ℕ, inl, inr, length, get_or, bit_or, arith, sym, ap}
use Rattle.std.proofs.lemmas.Bool.{cases_lt}
use Rattle.std.proofs.lemmas.List.{get_or_past}
use Rattle.std.specs.Int.Bits.{or_zero_r}
use Rattle.sm_log.proofs.ByteLaws.{either-bytes}
use Rattle.sm_log.proofs.bits.unite.Goals as goal

pub returns : goal.returns
returns c = either-bytes c.args.others.now c.args.bytes.now c.loop-i.bytes c.loop-i.invariant.long (λ k. by k (cases_lt k (length c.args.others.now)))
  where
    by : (k : ℕ) → (k < length c.args.others.now) ⊎ (length c.args.others.now ≤ k) → get_or c.loop-i.bytes k 0 ≡ bit_or (get_or c.args.bytes.now k 0) (get_or c.args.others.now k 0)
    by k (inl w) = c.loop-i.invariant.done k (omega arith)
    by k (inr far) = c.loop-i.invariant.rest k (omega arith)
        ∙ sym (ap (λ (y : ℕ). bit_or (get_or c.args.bytes.now k 0) y) (get_or_past c.args.others.now k 0 far) ∙ or_zero_r (get_or c.args.bytes.now k 0))
