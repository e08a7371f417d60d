use Rattle.sm_base.specs.declared.names.Name.TheVariants.{Relink}
use Rattle.examples_moments.specs.Worked.{second, base}
use Rattle.examples_ready.specs.Repositories.{link}
use Rattle.examples_ready.proofs.LinkOrderly.{link_has_shape, link_orderly, link_step}
use Rattle.examples_ready.proofs.ChainReady.{link_ready, chain_tidy}
use Rattle.examples_ready.proofs.working.example_linking.Goals as goal

pub returns : goal.returns
returns c = record {
  shape = link_has_shape;
  orderly = link_orderly;
  ready = link_ready;
  tidy = chain_tidy (Relink second base) link;
  step = link_step;
}
