use Rattle.std.proofs.Common.{◌≡◌, ◌+◌, ◌++◌, length, take}
use Rattle.sm_script.specs.Pieces.{led}
use Rattle.sm_script.proofs.trials.put_words.Given as goal

abbrev pub invariant-loop-word : goal.invariant-loop-word
invariant-loop-word l = record {
  place : l.at ≡ length l.verb + length (led 32 (take l.word-index l.words));
  written : take l.at l.to ≡ l.verb ++ led 32 (take l.word-index l.words);
}
