use Rattle.std.proofs.Common.{◌+◌, ◌*◌, arith}
use Rattle.vg_layout.specs.Fields.{layout_number, plate}
use Rattle.vg_layout.specs.Places.{area_place}
use Rattle.vg_meta.specs.Roomy.{table_alone}
use Rattle.vg_store.proofs.BesideLaws.{beside_written}
use Rattle.vg_store.proofs.HoldingLaws.{no_more-front, rests_still, stands_still, taken_still}
use Rattle.vg_store.proofs.StoreLaws.{extents_on_device}
use Rattle.vg_store.proofs.stores.GroupStore.write.Goals as goal

pub write_volume-requires-clause-on : goal.write_volume-requires-clause-on
write_volume-requires-clause-on g c =
    let s = c.args.self.now in
    extents_on_device (layout_number s.label.layout) (g.D.Disk.size s.disk) s.label.extents s.label.geometry.extent (table_alone s.table) c.args.volume.now c.in-Some.volume.now.row c.extents.result.now
    s.spelled.table s.area c.in-Some.ensures.found.row c.extents.ensures.extents

pub invariant_of-self : goal.invariant_of-self
invariant_of-self g c =
    let s = c.args.self.now in
    let same = c.write_volume.ensures.size in
    record {
      few = s.few;
      area = omega (arith, s.area, same);
      known = s.known;
      room = s.room;
      spelled = s.spelled;
      fits = s.fits;
      current = s.current;
      summed = s.summed;
      rests = λ told usable. rests_still same (no_more-front (c.write_volume.ensures.front told)) (s.rests told usable);
      taken = λ told early. taken_still (table_alone s.table) same s.known early s.room s.fits (no_more-front (c.write_volume.ensures.front told)) (s.taken told early);
      stands = λ told. stands_still (g.D.Disk.held s.disk) (g.D.Disk.held c.write_volume.new.disk) (plate s.label) same (no_more-front (c.write_volume.ensures.front told)) (s.stands told);
    }

pub returns-clause-beside : goal.returns-clause-beside
returns-clause-beside g c = λ told.
    let s = c.args.self.now in
    let on = extents_on_device (layout_number s.label.layout) (area_place (layout_number s.label.layout) + s.label.extents * s.label.geometry.extent) s.label.extents s.label.geometry.extent (table_alone s.table) c.args.volume.now c.in-Some.volume.now.row c.extents.result.now
    s.spelled.table (omega arith) c.in-Some.ensures.found.row c.extents.ensures.extents
    in
    beside_written (layout_number s.label.layout) (s.label.extents * s.label.geometry.extent) s.label.geometry.extent c.extents.result.now (g.D.Disk.held s.disk) (g.D.Disk.held c.write_volume.new.disk) on
    (c.write_volume.ensures.front told) (c.write_volume.ensures.elsewhere told)
