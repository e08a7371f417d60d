use Rattle.sm_base.specs.declared.names.Name.TheVariants.{Coalesce}
use Rattle.examples_moments.specs.Worked.{second, base}
use Rattle.examples_ready.specs.Repositories.{copy}
use Rattle.examples_ready.proofs.CopyOrderly.{copy_has_shape, copy_orderly}
use Rattle.examples_ready.proofs.ChainReady.{copy_ready, chain_tidy}
use Rattle.examples_ready.proofs.working.example_copying.Goals as goal

pub returns : goal.returns
returns c = record {
  shape = copy_has_shape;
  orderly = copy_orderly;
  ready = copy_ready;
  tidy = chain_tidy (Coalesce second base) copy;
}
