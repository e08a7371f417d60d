use Rattle.std.proofs.Common.{[], ◌∷◌, ⊎_elim}
use Rattle.examples_ready.proofs.LiveOrderly.{live_has_shape, live_orderly}
use Rattle.examples_ready.proofs.LiveReady.{live_ready, live_tidy}
use Rattle.examples_ready.proofs.working.example_living.Goals as goal

pub returns : goal.returns
returns c = record {
  shape = live_has_shape (0 ∷ []);
  orderly = live_orderly (0 ∷ []) (λ b i. ⊎_elim (λ is. is) (λ none. absurd none) i);
  ready = live_ready;
  tidy = live_tidy (0 ∷ []);
}
