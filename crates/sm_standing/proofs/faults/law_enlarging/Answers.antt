use Rattle.sm_standing.proofs.EnlargingLaws.{enlarging_sound, stands_alike, uuids_alike}
use Rattle.sm_standing.proofs.faults.law_enlarging.Goals as goal

pub returns-clause-sound : goal.returns-clause-sound
returns-clause-sound c = enlarging_sound

pub returns-clause-stands : goal.returns-clause-stands
returns-clause-stands c = λ o t u v extents w. stands_alike o t u extents w v

pub returns-clause-uuids : goal.returns-clause-uuids
returns-clause-uuids c = uuids_alike
