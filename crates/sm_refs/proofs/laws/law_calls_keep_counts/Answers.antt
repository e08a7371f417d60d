-- Call by call.
use Rattle.sm_refs.proofs.FromScratchLemmas.{kept_right}
use Rattle.sm_refs.proofs.laws.law_calls_keep_counts.Goals as goal

pub returns : goal.returns
returns c = kept_right
