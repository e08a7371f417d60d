use Rattle.std.proofs.Common.{◌≡◌, ◌-◌, ap, ◌∙◌, arith}
use Rattle.std.specs.Prelude.{count_by}
use Rattle.sm_mgt.specs.Places.{is_of}
use Rattle.sm_mgt.proofs.CountLaws.{counted}
use Rattle.sm_mgt.proofs.counts.UuidCounts.count.Goals as goal

pub overflow_sub-result : goal.overflow_sub-result
overflow_sub-result c =
    let all = c.count_up_to.ensures ∙ counted c.args.uuid.now c.self.inside.places.now c.self.inside.uuids c.self.invariant in
    omega (arith, all, c.count_before.ensures)

pub returns : goal.returns
returns c =
    let all = c.count_up_to.ensures ∙ counted c.args.uuid.now c.self.inside.places.now c.self.inside.uuids c.self.invariant in
    let same : c.count_up_to.result - c.count_before.result ≡ count_by (is_of c.args.uuid.now) c.self.inside.places.now = omega (arith, all, c.count_before.ensures) in
    same ∙ ap (count_by (is_of c.args.uuid.now)) c.self.view_is
