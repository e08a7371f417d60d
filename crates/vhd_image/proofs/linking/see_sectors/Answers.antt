use Rattle.std.proofs.Common.{arith}
use Rattle.vg_meta.specs.Roomy.{table_alone}
use Rattle.vg_meta.specs.Tables.{rows, extents_of}
use Rattle.vg_meta.proofs.ByName.{spread}
use Rattle.vhd_image.proofs.ContentLaws.{geometry-ok}
use Rattle.vhd_image.proofs.SectorsIn.{HasSectors-volume}
use Rattle.vhd_image.proofs.linking.see_sectors.Goals as goal

pub returns : goal.returns
returns g c = λ told.
    let site = g.S.Store.site c.args.store.now in
    let table = table_alone (g.S.Store.table c.args.store.now) in
    let ok = geometry-ok c.geometry-geometry.ensures c.geometry-geometry.result.in_range in
    HasSectors-volume site.count site.geometry.extent (extents_of (rows table c.args.volume.now)) (g.S.Store.area c.args.store.now) (omega (arith, ok.extent_least)) (λ i e is. (spread site.count table c.table-table.ensures.spread).below c.args.volume.now i e is) (c.extents-extents.ensures.sectors told)
