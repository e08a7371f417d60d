use Rattle.std.proofs.Common.{◌≡◌, take, ltb}
use Rattle.std.specs.List.{count_by}
use Rattle.vg_meta.specs.Tables.{extents_in}
use Rattle.vg_meta.specs.Roomy.{rows_alone}
use Rattle.vg_extents.proofs.fits.used_below.Given as goal

abbrev pub invariant-loop-volume : goal.invariant-loop-volume
invariant-loop-volume l = l.total ≡ count_by (λ e. ltb e l.count) (extents_in (rows_alone (take l.volume-index l.volumes)))
