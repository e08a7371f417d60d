use Rattle.std.proofs.Common.{◌≢◌, ℕ, ◌<◌, ◌≤◌, None}
use Rattle.vhd_map.specs.Slots.{slot_of}
use Rattle.vhd_write.proofs.writes.has_slots.Given as goal

-- the blocks below the counter have slots
abbrev pub invariant-loop-block : goal.invariant-loop-block
invariant-loop-block l = (b : ℕ) → l.span.first ≤ b → b < l.block → slot_of l.map b ≢ None
