use Rattle.std.proofs.Common.{arith}
use Rattle.sm_base.specs.Numbers.{div_up}
use Rattle.vhd_import.specs.Beginnings.{layout_by}
use Rattle.vhd_import.proofs.PlaceLaws.{as-part}
use Rattle.vhd_import.proofs.dynamic.read_entries.Goals as goal

pub returns-in-Ok-clause-read : goal.returns-in-Ok-clause-read
unfolding div_up
returns-in-Ok-clause-read g c =
    as-part _ _ (layout_by c.args.numbers) c.in-Ok.table c.min-entries.result c.min-blocks.result c.min-within.result c.requires.table c.requires.fits (omega (arith, c.min-within.ensures, c.from-whole.ensures, c.div_ceil.ensures))
    (omega (arith, c.min-entries.ensures)) (omega (arith, c.min-blocks.ensures)) c.in-Ok.ensures.read
