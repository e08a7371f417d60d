use Rattle.std.proofs.Common.{ap, arith}
use Rattle.vg_extents.proofs.CountLaws.{low, low-so_far}
use Rattle.vg_extents.proofs.fits.used_below.Goals as goal

pub overflow_cast-total : goal.overflow_cast-total
overflow_cast-total c =
    omega (
      arith,
      low-so_far c.args.count c.args.volumes.now c.loop-volume.volume-index c.volume-item.result c.loop-volume-test.true c.volume-item.is c.requires,
      c.low.ensures,
      ap (low c.args.count) c.extents.ensures.extents,
    )

pub overflow_add-total : goal.overflow_add-total
overflow_add-total c =
    omega (
      arith,
      low-so_far c.args.count c.args.volumes.now c.loop-volume.volume-index c.volume-item.result c.loop-volume-test.true c.volume-item.is c.requires,
      c.low.ensures,
      ap (low c.args.count) c.extents.ensures.extents,
      c.loop-volume.invariant,
    )
