use Rattle.std.proofs.Common.{◌∙◌}
use Rattle.sm_standing.proofs.EnlargingLaws.{enlarging_sound, stands_alike}
use Rattle.examples_standing.specs.SmallContents.{one}
use Rattle.examples_standing.specs.SmallOutlines.{thin_outline, enlarging_table}
use Rattle.examples_standing.proofs.EnlargingExample.{thin_beside, thin_enlarging, thin_sound, thin_stands}
use Rattle.examples_standing.proofs.outlines.example_enlarging.Goals as goal

pub returns-clause-enlarging : goal.returns-clause-enlarging
returns-clause-enlarging c = thin_enlarging

pub returns-clause-before : goal.returns-clause-before
returns-clause-before c = thin_sound

pub returns-clause-sound : goal.returns-clause-sound
returns-clause-sound c = enlarging_sound thin_outline enlarging_table one 1 thin_enlarging thin_sound

pub returns-clause-stands : goal.returns-clause-stands
returns-clause-stands c = stands_alike thin_outline enlarging_table one 1 thin_enlarging one ∙ thin_stands

pub returns-clause-beside : goal.returns-clause-beside
returns-clause-beside c = thin_beside
