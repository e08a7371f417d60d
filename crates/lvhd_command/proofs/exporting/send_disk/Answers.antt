use Rattle.std.proofs.Common.{sym, ap, ◌∙◌, subst}
use Rattle.vg_layout.specs.Sectors.{Plate}
use Rattle.vg_store.specs.Groups.{LeavesGroup}
use Rattle.vg_volumes.specs.Sites.{Site}
use Rattle.lvhd_command.specs.Devices.{StandsAlways, plate_at}
use Rattle.lvhd_command.proofs.exporting.send_disk.Goals as goal

pub send_or_refuse-status-requires : goal.send_or_refuse-status-requires
send_or_refuse-status-requires g c = rw (c.into_parts-store.ensures.store, c.into_parts-store.ensures.memory) (record { session = c.args.session.between c.requires.whole })

pub returns-clause-calm : goal.returns-clause-calm
returns-clause-calm g c = λ other.
    let calm = rw c.into_parts-store.ensures.store at c.send_or_refuse-status.ensures.calm in
    ap g.D.Disk.faults c.into_disk-disk.ensures.disk ∙ calm other

pub returns-clause-stands : goal.returns-clause-stands
returns-clause-stands g c = λ told.
    let reads = rw c.into_parts-store.ensures.store at c.send_or_refuse-status.ensures.reads in
    subst (λ (s : Site). StandsAlways (g.D.Disk.size c.into_disk-disk.result) (g.D.Disk.held c.into_disk-disk.result) s) reads.stays.site (c.into_disk-disk.ensures.stands told)

pub returns-clause-one : goal.returns-clause-one
returns-clause-one g c = λ told t image l.
    let old = c.args.session.store in
    let new = c.send_or_refuse-status.new.store in
    let reads = rw c.into_parts-store.ensures.store at c.send_or_refuse-status.ensures.reads in
    let usable = reads.stays.failed ∙ (c.args.session.between c.requires.whole).usable in
    let here = subst (λ (p : Plate). LeavesGroup (g.D.Disk.size c.into_disk-disk.result) (g.D.Disk.held c.into_disk-disk.result) p t image) (sym (ap plate_at reads.stays.site)) l in
    (c.into_disk-disk.ensures.leaves told usable t image here).table_is ∙ reads.stays.table

pub returns-clause-sent : goal.returns-clause-sent
returns-clause-sent g c = λ told ready.
    let by_store = rw c.into_parts-store.ensures.store at c.send_or_refuse-status.ensures.sent in
    let sent = rw c.into_parts-store.ensures.memory at by_store in
    sent told ready.0
