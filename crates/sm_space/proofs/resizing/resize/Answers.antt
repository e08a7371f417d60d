use Rattle.std.proofs.Common.{◌∙◌, refl, sym, subst}
use Rattle.std.specs.Result.{IsOk}
use Rattle.vg_volumes.specs.Stored.{Stored}
use Rattle.sm_machine.specs.declared.commands.Command.TheVariants as command
use Rattle.sm_machine.specs.Steps.{disks_next}
use Rattle.sm_standing.specs.Standing.{disks}
use Rattle.sm_ready.specs.Known.{known, shape_in}
use Rattle.sm_ready.specs.Does.{store_shape}
use Rattle.sm_ready.specs.Stores.{content_now, store_content}
use Rattle.sm_ready.proofs.ChainLaws.{done_behind, might_show, only_crash, ready_read, still_before}
use Rattle.sm_ready.proofs.FramingLaws.{reads_between, stays_steps, then_steps}
use Rattle.sm_space.proofs.InflatingLaws.{only_read}
use Rattle.sm_space.proofs.resizing.resize.Goals as goal

-- nothing was written
pub returns-in_default-clause-done : goal.returns-in_default-clause-done
returns-in_default-clause-done g c = λ told ready.
    let e = c.plan_larger.ensures in
    let r = c.requires.session in
    let done = only_read c.args.memory.now r.orderly r.usable told ready (g.met.S.Store.leaves_now c.args.store.now told r.usable) e.reads e.same.1 e.leaves (known c.args.memory.now) ⊥ (λ fine. fine) refl in
    only_crash (λ fine. let x = fine in cc) (λ v image l.
    let w = done.crash v image l in
    (w.0, still_before (disks_next (disks (store_content g.S.Store c.args.store.now)) (store_shape g.S.Store c.args.store.now c.args.memory.now) (command.Resize c.args.disk.now c.args.size)) _ (might_show g.S.Store r.usable told) w.1)) done.logged

pub resize_given-requires-clause-session : goal.resize_given-requires-clause-session
resize_given-requires-clause-session g c = reads_between c.args.memory.now c.plan_larger.ensures.reads c.requires.session

pub returns-in_default-resize_given-clause-step : goal.returns-in_default-resize_given-clause-step
returns-in_default-resize_given-clause-step g c =
    let r = c.plan_larger.ensures.reads.stays in
    then_steps (stays_steps r (λ told. g.met.S.Store.leaves_now c.plan_larger.new.store told (r.failed ∙ c.requires.session.usable))) c.resize_given.ensures.step

pub returns-in_default-resize_given-clause-done : goal.returns-in_default-resize_given-clause-done
returns-in_default-resize_given-clause-done g c = λ told ready.
    let e = c.plan_larger.ensures in
    done_behind _ (λ (x : Stored). disks_next (disks (content_now x.site x.table x.area)) (shape_in x.site x.table (known c.args.memory.now)) (command.Resize c.args.disk.now c.args.size)) e.reads e.same.1 e.leaves (λ fine. absurd (let x = fine in cc))
    (c.resize_given.ensures.done told (ready_read c.args.memory.now e.reads e.same.1 ready))

pub returns-clause-step : goal.returns-clause-step
returns-clause-step g c =
    let r = c.plan_larger.ensures.reads.stays in
    then_steps (stays_steps r (λ told. g.met.S.Store.leaves_now c.plan_larger.new.store told (r.failed ∙ c.requires.session.usable))) c.resize_given.ensures.step

pub returns-clause-done : goal.returns-clause-done
returns-clause-done g c = λ told ready.
    let e = c.plan_larger.ensures in
    done_behind _ (λ (x : Stored). disks_next (disks (content_now x.site x.table x.area)) (shape_in x.site x.table (known c.args.memory.now)) (command.Resize c.args.disk.now c.args.size)) e.reads e.same.1 e.leaves (λ fine. subst IsOk (sym c.in-Ok-resize_given.is) refl)
    (c.resize_given.ensures.done told (ready_read c.args.memory.now e.reads e.same.1 ready))
