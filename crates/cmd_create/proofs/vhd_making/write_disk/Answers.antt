use Rattle.std.proofs.Common.{ℕ, List, sym, ap, ◌∙◌, subst}
use Rattle.sm_base.specs.Names.{base_uuid}
use Rattle.sm_base.specs.declared.names.Name.TheVariants.{Mgt, Vhd}
use Rattle.sm_disk.specs.Held.{Held, reads}
use Rattle.vg_meta.specs.Roomy.{RoomyTable, table_alone}
use Rattle.vg_volumes.specs.Sites.{volume_of}
use Rattle.vg_volumes.specs.Stored.{stored, sectors_in}
use Rattle.vg_volumes.proofs.StoredLaws.{stays_then}
use Rattle.vhd_image.specs.Made.{IsNewImage}
use Rattle.sm_ready.proofs.MadeLaws.{kept_there, worked_here, written_there}
use Rattle.sm_ready.proofs.MakingLaws.{middle_first, middle_then, places_stay}
use Rattle.cmd_create.specs.Vhds.{HasHead, IsImaged, disk_head}
use Rattle.cmd_create.proofs.RawLaws.{place_of}
use Rattle.cmd_create.proofs.VhdLaws.{new_roomy, vhd_image}
use Rattle.cmd_create.proofs.vhd_making.write_disk.Goals as goal

pub make-requires-clause-room : goal.make-requires-clause-room
make-requires-clause-room g c = new_roomy (g.S.Store.site c.args.store.now) (table_alone (g.S.Store.table c.args.store.now)) (Vhd c.args.entry.uuid) c.requires.new

pub returns-in_err-image-clause-middle : goal.returns-in_err-image-clause-middle
returns-in_err-image-clause-middle g c =
    let r = c.requires in
    middle_first c.args.memory.now (Vhd c.args.entry.uuid) _ c.args.entry r.new.row (vhd_image _) r.proper r.orderly r.new.there r.new.fresh c.make.ensures.works

pub put-requires-clause-size : goal.put-requires-clause-size
put-requires-clause-size g c = places_stay c.args.memory.now c.requires.orderly c.make.ensures.works.stays

pub returns-in_err-put-clause-stays : goal.returns-in_err-put-clause-stays
returns-in_err-put-clause-stays g c = stays_then c.make.ensures.works.stays c.put.ensures.writes.stays

pub returns-in_err-put-clause-middle : goal.returns-in_err-put-clause-middle
returns-in_err-put-clause-middle g c =
    let r = c.requires in
    middle_then c.args.memory.now (Vhd c.args.entry.uuid) _ c.args.entry r.new.row (vhd_image _) r.proper r.orderly r.new.there r.new.fresh c.make.ensures.works c.put.ensures.writes

pub returns-clause-stays : goal.returns-clause-stays
returns-clause-stays g c = stays_then c.make.ensures.works.stays c.put.ensures.writes.stays

pub returns-clause-middle : goal.returns-clause-middle
returns-clause-middle g c =
    let r = c.requires in
    middle_then c.args.memory.now (Vhd c.args.entry.uuid) _ c.args.entry r.new.row (vhd_image _) r.proper r.orderly r.new.there r.new.fresh c.make.ensures.works c.put.ensures.writes

pub returns-clause-written : goal.returns-clause-written
returns-clause-written g c = λ told.
    let x = stored g.S.Store c.args.store.now in
    let made = c.in_ok-image.ensures in
    let here = worked_here c.requires.orderly.table (λ e. (let y = e in cc)) c.make.ensures.works c.in_ok-put.ensures.wrote told in
    let uid = c.base_uuid-uid.result in
    let head = disk_head x.site.geometry c.args.entry.uuid c.args.now c.args.sectors uid in
    subst (λ (id : List ℕ). IsImaged x.site x.table (disk_head x.site.geometry c.args.entry.uuid c.args.now c.args.sectors id) c.args.entry (place_of c.args.memory.now c.args.entry) x.area (g.S.Store.area c.put.new.store))
    (c.base_uuid-uid.ensures ∙ ap base_uuid (c.seq.ensures.seq ∙ ap (λ (k : RoomyTable). k.sequence) c.table.ensures.table))
    (record {
      image = subst (λ (h : Held). IsNewImage x head h) (sym here) (made.image told);
      bytes = subst (λ (h : Held). HasHead (sectors_in x (Vhd c.args.entry.uuid)) head (reads h)) (sym here) (record { first = made.first told; header = made.header told; last = made.last told });
      between = volume_of x.site x.table (g.S.Store.area c.make.new.store) Mgt;
      kept = kept_there c.requires.orderly.table (λ e. (let y = e in cc)) c.make.ensures.works c.in_ok-put.ensures.wrote told;
      records = written_there c.requires.orderly.table (λ e. (let y = e in cc)) c.make.ensures.works c.in_ok-put.ensures.wrote told;
    })
