use Rattle.std.proofs.Common.{◌*◌}
use Rattle.vg_layout.specs.Fields.{layout_number}
use Rattle.vg_store.specs.Leaving.{few_extents}
use Rattle.vg_store.proofs.StoreLaws.{area_sectors}
use Rattle.vg_store.proofs.stores.GroupStore.extents.Goals as goal

pub returns-clause-sectors : goal.returns-clause-sectors
returns-clause-sectors g c = λ told.
    let s = c.args.self.now in
    area_sectors (layout_number s.label.layout) (g.D.Disk.size s.disk) (s.label.extents * s.label.geometry.extent) (g.D.Disk.held s.disk) s.area (c.sectors-sectors.ensures.sectors told)

pub returns-clause-few : goal.returns-clause-few
returns-clause-few g c = few_extents (layout_number c.args.self.now.label.layout) c.args.self.now.few
