use Rattle.std.proofs.Common.{All}
use Rattle.sm_mgt.specs.Places.{IsProperPlace, ReadsAsPlaces}
use Rattle.sm_mgt.proofs.management.places_in.Given as goal

-- the sectors so far read as the places so far, which are right
abbrev pub invariant-loop-index : goal.invariant-loop-index
invariant-loop-index l = ReadsAsPlaces l.bytes l.index l.places.items × All IsProperPlace l.places.items
