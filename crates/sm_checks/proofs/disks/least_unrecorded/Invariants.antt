use Rattle.std.proofs.Common.{◌≡◌, take, fold, None}
use Rattle.vg_meta.specs.Roomy.{table_alone}
use Rattle.sm_checks.proofs.DiskLaws.{with_unrecorded}
use Rattle.sm_checks.proofs.disks.least_unrecorded.Given as goal

-- the least among the volumes so far
abbrev pub invariant-loop-volume : goal.invariant-loop-volume
invariant-loop-volume l = l.least ≡ fold (with_unrecorded (table_alone l.table) l.counts) None (take l.volume-index l.table.rows)
