use Rattle.std.proofs.Common.{arith}
use Rattle.examples_ready.proofs.MemoryFails.{wide_only}
use Rattle.examples_ready.proofs.failing_memory.example_wide.Goals as goal

pub returns : goal.returns
returns c = record {
  fails = λ o. let few = o.few_extents in omega (arith, few);
  only = wide_only;
}
