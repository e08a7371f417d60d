use Rattle.vg_meta.specs.Roomy.{table_alone}
use Rattle.vg_memory.proofs.StoreLaws.{extents_in_area, kept_area}
use Rattle.vg_memory.proofs.stores.MemoryStoreStore.read.Goals as goal

pub read_sectors-requires-clause-inside : goal.read_sectors-requires-clause-inside
read_sectors-requires-clause-inside c =
    let s = c.self.inside in
    extents_in_area s.area.sectors s.extents s.geometry.extent (table_alone s.table) c.args.volume.now c.in-Some.volume.now.row c.extents.result.now
    c.self.invariant.spread c.self.invariant.sectors c.in-Some.ensures.found.row c.extents.ensures.extents

pub invariant_of-self : goal.invariant_of-self
invariant_of-self c = kept_area c.self.invariant c.read_sectors.ensures.size c.read_sectors.ensures.quiet
