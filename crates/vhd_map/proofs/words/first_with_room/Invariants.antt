use Rattle.std.proofs.Common.{◌≡◌, ℕ, ◌-◌, ◌^◌, ◌<◌, ◌≤◌, length, slice_index}
use Rattle.vhd_map.proofs.words.first_with_room.Given as goal

abbrev pub invariant-loop-word : goal.invariant-loop-word
invariant-loop-word l = (l.word < length l.words) × (l.from ≤ l.word) × ((w : ℕ) → l.from ≤ w → w < l.word → slice_index l.words w ≡ 2 ^ 64 - 1)

abbrev pub decreases-loop-word : goal.decreases-loop-word
decreases-loop-word l = length l.words - l.word
