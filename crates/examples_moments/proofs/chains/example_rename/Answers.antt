use Rattle.examples_moments.proofs.ChainExample.{rename_turns, rename_before, rename_after}
use Rattle.examples_moments.proofs.chains.example_rename.Goals as goal

pub returns : goal.returns
returns c = record {
  renamed = rename_turns;
  before = rename_before;
  after = rename_after;
}
