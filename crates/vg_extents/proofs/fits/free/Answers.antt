use Rattle.std.proofs.Common.{List, ap, arith}
use Rattle.vg_meta.specs.Tables.{extents_in}
use Rattle.vg_meta.specs.Roomy.{RoomyRow, table_alone, rows_alone}
use Rattle.vg_extents.proofs.CountLaws.{low, length-free}
use Rattle.vg_extents.proofs.fits.free.Goals as goal

pub overflow_sub-result : goal.overflow_sub-result
overflow_sub-result c =
    omega (
      arith,
      length-free c.args.extents (table_alone c.args.table.now) c.volumes.ensures.table.volumes.distinct,
      c.used_below.ensures,
      ap (λ (hs : List RoomyRow). low c.args.extents (extents_in (rows_alone hs))) c.volumes.ensures.volumes,
    )

pub returns : goal.returns
returns c = record {
  free = omega (
    arith,
    length-free c.args.extents (table_alone c.args.table.now) c.volumes.ensures.table.volumes.distinct,
    c.used_below.ensures,
    ap (λ (hs : List RoomyRow). low c.args.extents (extents_in (rows_alone hs))) c.volumes.ensures.volumes,
  );
}
