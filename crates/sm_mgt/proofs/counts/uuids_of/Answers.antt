use Rattle.std.proofs.Common.{map, sym, ap, ◌∙◌, arith}
use Rattle.std.proofs.lemmas.List.{take_all}
use Rattle.sm_mgt.specs.Counts.{uuid_in}
use Rattle.sm_mgt.proofs.counts.uuids_of.Goals as goal

pub returns : goal.returns
returns c =
    let n = c.loop-place.place in
    let i = c.loop-place.invariant in
    sym (take_all n c.loop-place.uuids (omega (arith, i.0, c.loop-place-test.false))) ∙ i.1
    ∙ ap (map uuid_in) (take_all n c.args.places.now (omega (arith, c.requires, c.loop-place-test.false)))
