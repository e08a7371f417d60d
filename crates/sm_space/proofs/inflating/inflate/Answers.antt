use Rattle.std.proofs.Common.{inl, refl, ◌∙◌, arith}
use Rattle.vg_volumes.specs.Stored.{Stored}
use Rattle.sm_standing.specs.Standing.{disks}
use Rattle.sm_ready.specs.Stores.{content_in, content_now}
use Rattle.sm_ready.proofs.ChainLaws.{done_behind, ready_read}
use Rattle.sm_ready.proofs.FramingLaws.{more_steps, reads_between, stays_steps, then_steps}
use Rattle.sm_space.proofs.InflatingLaws.{only_read, still_read}
use Rattle.sm_space.proofs.inflating.inflate.Goals as goal

pub returns-in_default-clause-step : goal.returns-in_default-clause-step
returns-in_default-clause-step g c =
    let r = c.plan_growth.ensures.reads.stays in
    more_steps (omega arith) (stays_steps r (λ told. g.met.S.Store.leaves_now c.plan_growth.new.store told (r.failed ∙ c.requires.session.usable)))

pub returns-in_default-clause-done : goal.returns-in_default-clause-done
returns-in_default-clause-done g c = λ told ready.
    let e = c.plan_growth.ensures in
    let s = c.requires.session in
    only_read c.args.memory.now s.orderly s.usable told ready (g.met.S.Store.leaves_now c.args.store.now told s.usable) e.reads e.same.1 e.leaves _ _ (λ fine. absurd (let x = fine in cc)) refl

pub returns-in_default-clause-still : goal.returns-in_default-clause-still
returns-in_default-clause-still g c = λ told ready again w image l. record { table = w; image = image; left = inl (c.plan_growth.ensures.leaves w image l); shown = refl }

pub enlarge-requires-clause-session : goal.enlarge-requires-clause-session
enlarge-requires-clause-session g c = reads_between c.args.memory.now c.plan_growth.ensures.reads c.requires.session

pub returns-in_default-enlarge-clause-step : goal.returns-in_default-enlarge-clause-step
returns-in_default-enlarge-clause-step g c =
    let r = c.plan_growth.ensures.reads.stays in
    then_steps (stays_steps r (λ told. g.met.S.Store.leaves_now c.plan_growth.new.store told (r.failed ∙ c.requires.session.usable))) c.enlarge.ensures.step

pub returns-in_default-enlarge-clause-done : goal.returns-in_default-enlarge-clause-done
returns-in_default-enlarge-clause-done g c = λ told ready.
    let e = c.plan_growth.ensures in
    done_behind _ (λ (x : Stored). disks (content_now x.site x.table x.area)) e.reads e.same.1 e.leaves (λ fine. absurd (let x = fine in cc))
    (c.enlarge.ensures.done told (ready_read c.args.memory.now e.reads e.same.1 ready))

pub returns-in_default-enlarge-clause-still : goal.returns-in_default-enlarge-clause-still
returns-in_default-enlarge-clause-still g c = λ told ready again w image l.
    let e = c.plan_growth.ensures in
    still_read e.reads e.same.1 e.leaves (λ s. disks (content_in s w image)) (c.enlarge.ensures.still told (ready_read c.args.memory.now e.reads e.same.1 ready) again w image l)

pub returns-clause-step : goal.returns-clause-step
returns-clause-step g c =
    let r = c.plan_growth.ensures.reads.stays in
    then_steps (stays_steps r (λ told. g.met.S.Store.leaves_now c.plan_growth.new.store told (r.failed ∙ c.requires.session.usable))) c.enlarge.ensures.step

pub returns-clause-done : goal.returns-clause-done
returns-clause-done g c = λ told ready.
    let e = c.plan_growth.ensures in
    done_behind _ (λ (x : Stored). disks (content_now x.site x.table x.area)) e.reads e.same.1 e.leaves (λ fine. c.in-Ok-enlarge.is)
    (c.enlarge.ensures.done told (ready_read c.args.memory.now e.reads e.same.1 ready))

pub returns-clause-still : goal.returns-clause-still
returns-clause-still g c = λ told ready again w image l.
    let e = c.plan_growth.ensures in
    still_read e.reads e.same.1 e.leaves (λ s. disks (content_in s w image)) (c.enlarge.ensures.still told (ready_read c.args.memory.now e.reads e.same.1 ready) again w image l)
