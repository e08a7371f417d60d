use Rattle.std.proofs.Common.{◌^◌, arith}
use Rattle.vg_meta.specs.Roomy.{rows_alone}
use Rattle.vg_meta.proofs.WriteLaws.{length-rows}
use Rattle.vg_meta.proofs.SpliceLaws.{count_created, count_removed, count_same}
use Rattle.vg_meta.proofs.splices.changed_count.Goals as goal

pub overflow_sub-result : goal.overflow_sub-result
overflow_sub-result c =
    omega (arith, length-rows c.args.volumes.now, count_removed (2 ^ 32) (rows_alone c.args.volumes.now) c.args.change.now c.in-Remove.name c.in-Remove.is c.requires.allowed)

pub returns-in-Create : goal.returns-in-Create
returns-in-Create c =
    omega (
      arith,
      length-rows c.args.volumes.now,
      count_created (rows_alone c.args.volumes.now) c.args.change.now c.in-Create.name c.in-Create.fresh c.in-Create.extents c.in-Create.is,
    )

pub returns-in-Remove : goal.returns-in-Remove
returns-in-Remove c =
    omega (arith, length-rows c.args.volumes.now, count_removed (2 ^ 32) (rows_alone c.args.volumes.now) c.args.change.now c.in-Remove.name c.in-Remove.is c.requires.allowed)

pub returns-in-Rename : goal.returns-in-Rename
returns-in-Rename c = omega (arith, length-rows c.args.volumes.now, count_same (2 ^ 32) (rows_alone c.args.volumes.now) c.args.change.now c.in-Rename.is c.requires.allowed)

pub returns-in-Rename-2 : goal.returns-in-Rename-2
returns-in-Rename-2 c = omega (arith, length-rows c.args.volumes.now, count_same (2 ^ 32) (rows_alone c.args.volumes.now) c.args.change.now c.in-Rename.is c.requires.allowed)

pub returns-in-Rename-3 : goal.returns-in-Rename-3
returns-in-Rename-3 c = omega (arith, length-rows c.args.volumes.now, count_same (2 ^ 32) (rows_alone c.args.volumes.now) c.args.change.now c.in-Rename.is c.requires.allowed)

pub returns-in-Rename-4 : goal.returns-in-Rename-4
returns-in-Rename-4 c = omega (arith, length-rows c.args.volumes.now, count_same (2 ^ 32) (rows_alone c.args.volumes.now) c.args.change.now c.in-Rename.is c.requires.allowed)
