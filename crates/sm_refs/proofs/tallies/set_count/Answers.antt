-- The entry of the volume goes, or has the count in its place, or stands behind the others.
use Rattle.std.proofs.Common.{◌<◌, Some, None, sym, ap, ◌∙◌, subst, arith}
use Rattle.std.proofs.lemmas.Bool.{false≢true}
use Rattle.indexmap.specs.IndexMap.{spare}
use Rattle.sm_refs.specs.Attached.{same_name, tally}
use Rattle.sm_refs.specs.Tallies.{AreAbove}
use Rattle.sm_refs.proofs.TallyLemmas.{AreAbove-without, AreAbove-insert_entry, AreAbove-set_value, left_for_one, lookup-without, tally_given, tally_others}
use Rattle.sm_refs.proofs.tallies.set_count.Goals as goal

pub unreachable-requires : goal.unreachable-requires
unfolding same_name
unreachable-requires c =
    let left : 0 < spare c.args.counts.now = left_for_one c.args.counts.now.entries c.args.volume.now c.args.count _ c.len-len.ensures.unique c.requires.above (sym c.in_default.ensures.value) c.if-count-eq0.false c.requires.room in
    false≢true (c.in_default-insert.ensures.succeeds (subst (λ m. 0 < spare m) (sym c.get_mut.follows.holds-at-none) left))

-- ---- a count of 0

pub returns-then-count-eq0-clause-given : goal.returns-then-count-eq0-clause-given
unfolding same_name
returns-then-count-eq0-clause-given c =
    ap (λ es. tally es c.args.volume.now) c.remove.ensures.entries
    ∙ tally_given c.args.counts.now.entries _ c.args.volume.now None (lookup-without c.args.counts.now.entries c.args.volume.now) ∙ sym c.if-count-eq0.true

pub returns-then-count-eq0-clause-others : goal.returns-then-count-eq0-clause-others
unfolding same_name
returns-then-count-eq0-clause-others c = λ other apart.
    ap (λ es. tally es other) c.remove.ensures.entries
    ∙ tally_others c.args.counts.now.entries _ c.args.volume.now None (lookup-without c.args.counts.now.entries c.args.volume.now) other apart

pub returns-then-count-eq0-clause-above : goal.returns-then-count-eq0-clause-above
returns-then-count-eq0-clause-above c = subst AreAbove (sym c.remove.ensures.entries) (AreAbove-without _ c.args.counts.now.entries c.requires.above)

-- ---- a volume that has a count

pub returns-in-Some-clause-above : goal.returns-in-Some-clause-above
returns-in-Some-clause-above c =
    subst AreAbove (sym (c.get_mut.follows.holds c.args.count).0) (AreAbove-set_value _ c.args.counts.now.entries c.args.count c.requires.above (omega arith))

-- ---- a volume that has none

pub returns-clause-above : goal.returns-clause-above
unfolding same_name
returns-clause-above c =
    subst AreAbove (sym c.in-Ok.ensures.entries)
    (AreAbove-insert_entry _ c.args.volume.now c.args.count (subst (λ m. AreAbove m.entries) (sym c.get_mut.follows.holds-at-none) c.requires.above) (omega arith))

pub returns-clause-others : goal.returns-clause-others
unfolding same_name
returns-clause-others c = λ other apart.
    tally_others c.get_mut.follows.lender-at-none.entries c.insert.new.self.entries c.args.volume.now (Some c.args.count) c.in-Ok.ensures.updates.0 other apart
    ∙ ap (λ m. tally m.entries other) c.get_mut.follows.holds-at-none
