use Rattle.std.proofs.Common.{refl}
use Rattle.vg_meta.specs.Changes.{without}
use Rattle.vg_meta.specs.Tables.{name_eq}
use Rattle.sm_standing.specs.Unfolded.{unfolded}
use Rattle.examples_standing.proofs.outlines.example_unfolded.Goals as goal

pub returns-clause-unfolded : goal.returns-clause-unfolded
unfolding unfolded without name_eq
returns-clause-unfolded c = refl

pub returns-clause-none : goal.returns-clause-none
unfolding unfolded
returns-clause-none c = refl
