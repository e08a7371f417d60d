use Rattle.std.proofs.Common.{◌∙◌, arith}
use Rattle.vg_meta.specs.Roomy.{table_alone}
use Rattle.vg_volumes.specs.Stored.{Stored}
use Rattle.sm_machine.specs.Disks.{with_disk}
use Rattle.sm_standing.specs.Standing.{disks}
use Rattle.sm_ready.specs.Known.{known}
use Rattle.sm_ready.specs.Stores.{content_now}
use Rattle.sm_ready.proofs.ChainLaws.{done_behind, ready_read}
use Rattle.sm_ready.proofs.FramingLaws.{more_steps, reads_between, stays_steps, then_steps}
use Rattle.cmd_create.specs.Making.{new_disk}
use Rattle.cmd_create.proofs.VhdLaws.{new_vhd}
use Rattle.cmd_create.proofs.vhd_making.make_vhd.Goals as goal

pub record_of-entry-requires : goal.record_of-entry-requires
record_of-entry-requires g c =
    let r = c.requires in
    record { not_nil = (new_vhd (g.S.Store.site c.args.store.now) (table_alone (g.S.Store.table c.args.store.now)) (known c.args.memory.now) c.args.disk c.args.label r.disk.size r.session.orderly r.session.tidy r.disk.accepted).not_nil }

pub returns-in_default-make_vhd_disk-clause-done : goal.returns-in_default-make_vhd_disk-clause-done
returns-in_default-make_vhd_disk-clause-done g c = λ told ready enough.
    let e = c.prepare_vhd.ensures in
    done_behind _ (λ (x : Stored). with_disk (new_disk c.args.disk c.args.label c.args.sectors) (disks (content_now x.site x.table x.area))) e.reads e.same.1 e.leaves (λ fine. absurd (let x = fine in cc))
    (rw c.record_of-entry.ensures.is at (c.make_vhd_disk.ensures.done told (ready_read c.args.memory.now e.reads e.same.1 ready)))

pub returns-clause-shape : goal.returns-clause-shape
returns-clause-shape g c =
    let e = c.prepare_vhd.ensures in
    rw (c.record_of-entry.ensures.is, e.same.0, e.table) at c.in-Ok-make_vhd_disk.ensures.shape

pub returns-clause-done : goal.returns-clause-done
returns-clause-done g c = λ told ready enough.
    let e = c.prepare_vhd.ensures in
    done_behind _ (λ (x : Stored). with_disk (new_disk c.args.disk c.args.label c.args.sectors) (disks (content_now x.site x.table x.area))) e.reads e.same.1 e.leaves (λ fine. c.in-Ok-make_vhd_disk.is)
    (rw c.record_of-entry.ensures.is at (c.make_vhd_disk.ensures.done told (ready_read c.args.memory.now e.reads e.same.1 ready)))

-- ---- the frame

pub make_vhd_disk-requires-clause-session : goal.make_vhd_disk-requires-clause-session
make_vhd_disk-requires-clause-session g c = reads_between c.args.memory.now c.prepare_vhd.ensures.reads c.requires.session

pub returns-in_default-clause-step : goal.returns-in_default-clause-step
returns-in_default-clause-step g c =
    let s = c.prepare_vhd.ensures.reads.stays in
    more_steps (omega arith) (stays_steps s (λ told. g.met.S.Store.leaves_now c.prepare_vhd.new.store told (s.failed ∙ c.requires.session.usable)))

pub returns-in_default-make_vhd_disk-clause-step : goal.returns-in_default-make_vhd_disk-clause-step
returns-in_default-make_vhd_disk-clause-step g c =
    let s = c.prepare_vhd.ensures.reads.stays in
    then_steps (stays_steps s (λ told. g.met.S.Store.leaves_now c.prepare_vhd.new.store told (s.failed ∙ c.requires.session.usable))) c.make_vhd_disk.ensures.step

pub returns-clause-step : goal.returns-clause-step
returns-clause-step g c =
    let s = c.prepare_vhd.ensures.reads.stays in
    then_steps (stays_steps s (λ told. g.met.S.Store.leaves_now c.prepare_vhd.new.store told (s.failed ∙ c.requires.session.usable))) c.make_vhd_disk.ensures.step
