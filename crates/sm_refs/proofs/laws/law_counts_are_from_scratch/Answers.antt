-- One call after the other, from nothing.
use Rattle.std.proofs.Common.{[]}
use Rattle.sm_refs.proofs.FromScratchLemmas.{nothing_attached, runs_right}
use Rattle.sm_refs.proofs.laws.law_counts_are_from_scratch.Goals as goal

pub returns : goal.returns
returns c = λ calls first last now none no_count runs. runs_right calls first last [] now (nothing_attached first none no_count) runs
