use Rattle.std.proofs.Common.{rules}
use Rattle.sm_mgt.specs.Places.{place_for}
use Rattle.sm_mgt.proofs.PlaceLaws.{place_within}
use Rattle.sm_mgt.proofs.management.place_of.Goals as goal

pub returns-clause-within : goal.returns-clause-within
unfolding place_for
returns-clause-within c = place_within c.args.places.now c.args.uuid.now _ (search rules)
