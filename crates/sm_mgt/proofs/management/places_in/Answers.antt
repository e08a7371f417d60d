use Rattle.std.proofs.Common.{refl, inr, arith}
use Rattle.std.proofs.lemmas.List.Elements.{All-push}
use Rattle.sm_mgt.specs.Places.{IsProperPlace}
use Rattle.sm_mgt.proofs.PlaceLaws.{ReadsAsPlaces-push, first_damaged}
use Rattle.sm_mgt.proofs.management.places_in.Goals as goal

pub returns-in_default-clause-damaged : goal.returns-in_default-clause-damaged
returns-in_default-clause-damaged c =
    inr (c.loop-index.index, first_damaged _ _ _ c.loop-index.invariant.0 (omega arith) (c.place_at.ensures.damaged c.in_default.is), refl)

pub loop-index-preserved : goal.loop-index-preserved
loop-index-preserved c =
    let i = c.loop-index.invariant in
    rw c.in-Ok.ensures.items (ReadsAsPlaces-push _ _ _ _ i.0 c.in-Some.ensures.right, All-push IsProperPlace _ _ i.1 c.in-Some.ensures.proper)
