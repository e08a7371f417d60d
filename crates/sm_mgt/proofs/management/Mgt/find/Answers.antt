use Rattle.std.proofs.Common.{find, IfSome, subst, sym, ap, ◌∙◌}
use Rattle.std.specs.Option.{option_copied}
use Rattle.sm_record.specs.Records.{IsRecord}
use Rattle.sm_mgt.specs.Places.{IsProperPlace, is_of}
use Rattle.sm_mgt.proofs.FindLaws.{find_proper}
use Rattle.sm_mgt.proofs.management.Mgt.find.Goals as goal

pub returns-clause-proper : goal.returns-clause-proper
returns-clause-proper c =
    subst (λ o. IfSome o IsRecord) (sym c.as_ref.ensures.value)
    (find_proper IsProperPlace (is_of c.args.uuid.now) c.self.inside.places.items _ c.self.invariant.proper
    (ap (find (is_of c.args.uuid.now)) (sym c.deref.ensures.value) ∙ sym c.taken_place.ensures ∙ ap option_copied c.in_ok-taken_place.was))
