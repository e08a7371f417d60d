use Rattle.std.proofs.Common.{◌+◌, ◌*◌, arith}
use Rattle.sm_disk.proofs.WindowLaws.{Keeps-moved}
use Rattle.vg_layout.specs.Places.{area_place}
use Rattle.vg_meta.specs.Roomy.{table_alone}
use Rattle.vg_layout.specs.Fields.{layout_number, plate}
use Rattle.vg_store.proofs.BesideLaws.{beside_kept}
use Rattle.vg_store.proofs.HoldingLaws.{no_more-keeps, rests_still, stands_still, taken_still, LeavesGroup-keeps}
use Rattle.vg_store.proofs.stores.GroupStore.sync.Goals as goal

pub invariant_of-self : goal.invariant_of-self
invariant_of-self g c =
    let s = c.args.self.now in
    let same = c.sync.ensures.size in
    record {
      few = s.few;
      area = omega (arith, s.area, same);
      known = s.known;
      room = s.room;
      spelled = s.spelled;
      fits = s.fits;
      current = s.current;
      summed = s.summed;
      rests = λ told usable. rests_still same (no_more-keeps (layout_number s.label.layout) (c.sync.ensures.keeps told)) (s.rests told usable);
      taken = λ told early. taken_still (table_alone s.table) same s.known early s.room s.fits (no_more-keeps (layout_number s.label.layout) (c.sync.ensures.keeps told)) (s.taken told early);
      stands = λ told. stands_still (g.D.Disk.held s.disk) (g.D.Disk.held c.sync.new.self) (plate s.label) same (no_more-keeps (layout_number s.label.layout) (c.sync.ensures.keeps told)) (s.stands told);
    }

pub returns-clause-keeps : goal.returns-clause-keeps
returns-clause-keeps g c = λ told. Keeps-moved (λ q. area_place (layout_number c.args.self.now.label.layout) + q) (c.sync.ensures.keeps told)

pub returns-clause-leaves : goal.returns-clause-leaves
returns-clause-leaves g c = λ told t image left. LeavesGroup-keeps c.sync.ensures.size (c.sync.ensures.keeps told) left

pub returns-clause-beside : goal.returns-clause-beside
returns-clause-beside g c = λ told. beside_kept (layout_number c.args.self.now.label.layout) (c.args.self.now.label.extents * c.args.self.now.label.geometry.extent) (c.sync.ensures.keeps told)
