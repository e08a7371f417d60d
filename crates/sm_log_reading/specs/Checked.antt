-- The disks whose logs an opening reads.
use Rattle.std.specs.Prelude.{◌≡◌, ℕ, false, true, List, map, Some, is_some}
use Rattle.sm_base.specs.declared.names.Name.TheVariants.{Cbt}
use Rattle.vg_meta.specs.Tables.{Row}
use Rattle.common_laws.specs.Lists.{In}
use Rattle.sm_standing.specs.Contents.{Content, row}
use Rattle.sm_standing.specs.LogChecks.{standing_pieces}
use Rattle.sm_standing.specs.Ordered.{Rising, uuid_cmp}
use Rattle.sm_standing.specs.Standing.{standing_volume}
use Rattle.sm_log_reading.specs.declared.logs.DiskPieces.{DiskPieces}

-- disks that are there, in order of UUID, each with the number of its pieces; none is missing that has a log which is not new
pub record AreDisksOf (c : Content) (ds : List DiskPieces) : Type 0 where
  pub in_order : Rising uuid_cmp (map (λ (d : DiskPieces). d.disk) ds)
  pub stands : (d : DiskPieces) → In d ds → is_some (standing_volume c.table d.disk) ≡ true
  pub pieces : (d : DiskPieces) → In d ds → d.pieces ≡ standing_pieces c d.disk
  pub all : (u : List ℕ) (r : Row) → row c (Cbt u) ≡ Some r → r.fresh ≡ false → is_some (standing_volume c.table u) ≡ true
      → In u (map (λ (d : DiskPieces). d.disk) ds)
