-- A store that was ready is ready once the volumes of logs alone were changed, and nothing is pending.
use Rattle.std.proofs.Common.{◌≡◌, ℕ, ◌<◌, ◌*◌, false, List, refl, sym, ap, ◌∙◌, subst}
use Rattle.sm_base.specs.Kinds.{is_log}
use Rattle.sm_base.specs.declared.names.Name.{Name}
use Rattle.sm_base.specs.declared.names.Name.TheVariants.{Cbt, Mgt}
use Rattle.sm_disk.specs.Held.{Held, IsSettled, Keeps, reads}
use Rattle.sm_log.specs.Logs.{Log}
use Rattle.sm_log_rows.specs.LogRows.{AreApartFromLogs}
use Rattle.sm_mgt.specs.Places.{records_held}
use Rattle.sm_standing.specs.Logs.{IsLogged}
use Rattle.sm_standing.specs.Standing.{disks}
use Rattle.vg_meta.specs.Tables.{VolumeTable, extents_of}
use Rattle.vg_volumes.specs.Sites.{Site, volume_of}
use Rattle.vg_volumes.specs.Volumes.{span}
use Rattle.vhd_chain.specs.Trees.{row_name}
use Rattle.sm_ready.proofs.LeftLaws.{now_sector}
use Rattle.sm_ready.proofs.OperationLaws.{below_alike}
use Rattle.sm_ready.proofs.Orders.{named_row}
use Rattle.sm_ready.proofs.RepairLaws.{all_quiet}
use Rattle.sm_ready.proofs.RestLaws.{agrees_keeps, steady_keeps}
use Rattle.sm_ready.specs.Known.{Known}
use Rattle.sm_ready.specs.Orderly.{IsOrderly}
use Rattle.sm_ready.specs.Ready.{IsReady}
use Rattle.sm_ready.specs.Stores.{content_now}
use Rattle.sm_tracking.proofs.ApartLaws.{AreBeside, disks_beside, images_beside}
use Rattle.sm_tracking.proofs.OrderLaws.{image_no_log, with_known}

-- each volume but a log keeps what it holds, from one table to another
abbrev pub KeepsVolumes : Site → VolumeTable → VolumeTable → Held → Held → Type 0
KeepsVolumes s t v old new = (n : Name) → is_log n ≡ false → Keeps (volume_of s t old n) (volume_of s v new n)

module _ {s : Site} {t v : VolumeTable} {m : Known} (old new : Held) (o : IsOrderly s t m) (tables : AreApartFromLogs t v) (keeps : KeepsVolumes s t v old new) where
  pub reads_beside : AreBeside s t v (reads old) (reads new)
  reads_beside = record {
    tables = tables;
    sectors = λ n no_log p below.
        now_sector s v new n p (subst (λ (k : ℕ). p < k) (ap (λ r. span s.geometry.extent (extents_of r)) (sym (tables.same n no_log))) below)
        ∙ (keeps n no_log).reads p ∙ sym (now_sector s t old n p below);
  }

  pub shown_beside : disks (content_now s v new) ≡ disks (content_now s t old)
  shown_beside = disks_beside o reads_beside

  pub ready_beside : IsReady s t old m → IsSettled new → (ls : List Log) → IsLogged (content_now s v new) ls → IsReady s v new (with_known ls m)
  ready_beside ready settled ls logged = record {
    firm = record {
      images = λ r i. steady_keeps s.geometry (r.extents * s.geometry.extent) (volume_of s t old (row_name r)) (volume_of s v new (row_name r)) r.image
          (keeps (row_name r) (image_no_log (row_name r) (named_row s t m r o i))) (ready.firm.images r i);
      quiet = λ r i still. all_quiet s v new settled (row_name r);
      below = below_alike (content_now s t old) (content_now s v new) m.op refl refl (λ n _. images_beside o reads_beside n) ready.firm.below;
    };
    records = agrees_keeps (records_held s t old) (records_held s v new) m.places (keeps Mgt refl) ready.records;
    recorded = all_quiet s v new settled Mgt;
    logs = logged;
    logged = λ u. all_quiet s v new settled (Cbt u);
  }
