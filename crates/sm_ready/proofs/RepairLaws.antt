-- The repairs of an opening, step by step, for images of any kind: whatever a stop leaves is kept and shows the disks from
-- before, and memory is ready again behind each step.
use Rattle.std.proofs.Common.{◌≡◌, inl, ℕ, ◌*◌, nat_lt, Bool, true, false, cond, List, [], Option, refl, sym, ap, ◌∙◌, subst}
use Rattle.std.proofs.Math.Path.{fun_ext}
use Rattle.sm_base.specs.declared.names.Name.{Name}
use Rattle.sm_base.specs.declared.names.Name.TheVariants.{Mgt, Cbt}
use Rattle.sm_disk.specs.Held.{Held, IsSettled, Keeps, reads}
use Rattle.sm_disk.proofs.HeldLaws.{Keeps-then}
use Rattle.vg_meta.specs.Changes.{applied}
use Rattle.vg_meta.specs.Tables.{VolumeTable, Row, rows, extents_of}
use Rattle.vg_meta.specs.declared.changes.Change.TheVariants.{Remove}
use Rattle.vg_meta.proofs.ChangeLaws.{IsTable-applied}
use Rattle.vg_volumes.specs.Commits.{IsAfter}
use Rattle.vg_volumes.specs.Sites.{Site, area_size, volume_of}
use Rattle.vg_volumes.specs.Volumes.{span, spot, volume}
use Rattle.vg_volumes.proofs.VolumeLaws.{Keeps-volume}
use Rattle.sm_record.specs.declared.records.Record.{Record}
use Rattle.sm_mgt.specs.Places.{Agrees, records_held}
use Rattle.sm_standing.specs.Images.{image_of}
use Rattle.sm_standing.specs.LogChecks.{HasLogsOf}
use Rattle.sm_standing.specs.Standing.{disks}
use Rattle.vhd_chain.specs.Trees.{row_name}
use Rattle.vhd_volumes.specs.Steady.{IsQuiet}
use Rattle.vhd_volumes.proofs.SteadyLaws.{quiet_settled}
use Rattle.sm_ready.specs.Done.{at_rest}
use Rattle.sm_ready.specs.Known.{Known}
use Rattle.sm_ready.specs.Orderly.{IsOrderly}
use Rattle.sm_ready.specs.Ready.{IsReady}
use Rattle.sm_ready.specs.Repairs.{IsSame}
use Rattle.sm_ready.specs.Stores.{content_in, content_now}
use Rattle.sm_ready.proofs.CommitLaws.{law_settled, rested, volume_rested}
use Rattle.sm_ready.proofs.BesideLaws.{IsBeside, disks_beside, orderly_beside, ready_beside}
use Rattle.sm_ready.proofs.GoneLaws.{goes_alone}
use Rattle.sm_ready.proofs.KeptLaws.{law_kept}
use Rattle.sm_ready.proofs.LeftLaws.{IsLeft, image_quiet, left_in, left_now, ready_places}
use Rattle.sm_ready.proofs.LogLaws.{holds_keeps, holds_ready}
use Rattle.sm_ready.proofs.LogRows.{name_apart}
use Rattle.sm_ready.proofs.OperationLaws.{below_alike}
use Rattle.sm_ready.proofs.RestLaws.{ready_rest, steady_keeps}
use Rattle.sm_ready.proofs.SameLogs.{raised_same, same_logs_commit, same_logs_keep, same_logs_left, same_logs_then}
use Rattle.sm_ready.proofs.StrayLaws.{IsSwept, swept_disks, swept_in, with_places}

volume_settled : (extent : ℕ) (es : List ℕ) (area : Held) → IsSettled area → IsSettled (volume extent es area)
unfolding volume
volume_settled extent es area settled p = by (nat_lt p (span extent es))
  where
    by : (b : Bool) → cond b (area.pending (spot extent es p)) [] ≡ []
    by true = settled (spot extent es p)
    by false = refl

-- where nothing is pending, nothing is in any volume
pub all_quiet : (s : Site) (t : VolumeTable) (area : Held) → IsSettled area → (n : Name) → IsQuiet (volume_of s t area n)
all_quiet s t area settled n = quiet_settled (volume_of s t area n) (volume_settled s.geometry.extent (extents_of (rows t n)) area settled)

-- what is ready is so once a sync has made all of it last
pub ready_synced : (s : Site) (t : VolumeTable) (old new : Held) (m : Known) → IsReady s t old m → Keeps old new → IsSettled new → IsReady s t new m
ready_synced s t old new m ready keeps settled =
    subst (λ h. IsReady s t h m) (sym (rested old new keeps settled))
    (ready_rest s t t old m m ready (λ r i. record { row = r; there = i; image = refl; extents = refl; same = refl }) refl refl ready.logs (volume_rested s t (reads old)) ready.firm.below)

-- what a stop leaves of a ready store in which nothing is pending
pub same_left : (s : Site) (t : VolumeTable) (area : Held) (m : Known) (image : ℕ → List ℕ) → IsOrderly s t m → IsReady s t area m → IsSettled area → IsLeft s area image → IsSame (content_now s t area) (content_in s t image)
same_left s t area m image o ready settled left = record {
  table = o.table;
  kept = law_kept s t area m image o ready.firm (left_in s t m area image o left) (ready_places s t area m image o ready left);
  same_disks = law_settled s t area m image o ready (all_quiet s t area settled) left;
  same_logs = same_logs_left (holds_ready s t area m o ready) o.table image left;
}

-- ---- a new volume goes

module _ (s : Site) (t : VolumeTable) (old : Held) (m : Known) (x : Name) (r : Row) (o : IsOrderly s t m) (ready : IsReady s t old m) (h : IsBeside s t x r (Remove x)) where
  -- after its commit
  pub gone_ready : (new : Held) → Keeps old new → IsSettled new → IsReady s (applied t (Remove x)) new m
  gone_ready new keeps settled = subst (λ a. IsReady s (applied t (Remove x)) a m) (sym (rested old new keeps settled)) (ready_beside s t old m x r (Remove x) o ready h (goes_alone o.table h))

  pub gone_disks : (new : Held) → Keeps old new → IsSettled new → disks (content_now s (applied t (Remove x)) new) ≡ disks (content_now s t old)
  gone_disks new keeps settled = ap (λ a. disks (content_now s (applied t (Remove x)) a)) (rested old new keeps settled) ∙ disks_beside s t old m x r (Remove x) o ready h (goes_alone o.table h)

  gone_logs : HasLogsOf (content_now s t old) (content_now s (applied t (Remove x)) (at_rest (reads old)))
  gone_logs = same_logs_commit (holds_ready s t old m o ready) (applied t (Remove x)) (IsTable-applied s.count t (Remove x) o.table h.allows) (λ u. (goes_alone o.table h).others (Cbt u) (name_apart x h.image u)) (raised_same (Remove x) o.table)

  pub gone_same_logs : (new : Held) → Keeps old new → IsSettled new → HasLogsOf (content_now s t old) (content_now s (applied t (Remove x)) new)
  gone_same_logs new keeps settled = subst (λ a. HasLogsOf (content_now s t old) (content_now s (applied t (Remove x)) a)) (sym (rested old new keeps settled)) gone_logs

  -- a stop behind it
  pub gone_stop : (v : VolumeTable) (image : ℕ → List ℕ) → IsAfter (area_size s) (applied t (Remove x)) old v image → IsSame (content_now s t old) (content_in s v image)
  gone_stop v image after =
      let w = same_left s (applied t (Remove x)) (at_rest (reads old)) m image (orderly_beside s t m x r (Remove x) o h (goes_alone o.table h)) (ready_beside s t old m x r (Remove x) o ready h (goes_alone o.table h)) (λ p. refl) (λ p below. inl (after.sectors p below)) in
      subst (λ l. IsSame (content_now s t old) (content_in s l image)) (sym after.table_is) (record {
        table = w.table;
        kept = w.kept;
        same_disks = w.same_disks ∙ disks_beside s t old m x r (Remove x) o ready h (goes_alone o.table h);
        same_logs = same_logs_then gone_logs w.same_logs;
      })

-- ---- records of no disk are wiped, and a sync makes it last

module _ (s : Site) (t : VolumeTable) (m : Known) (old mid new : Held) (o : IsOrderly s t m) (ready : IsReady s t old m) (swept : IsSwept s t m old mid) (keeps : Keeps mid new) where
  swept_images : IsSettled old → (n : Name) → image_of (content_now s t new) n ≡ image_of (content_now s t old) n
  swept_images settled n =
      ap (λ image. image_of (content_in s t image) n) (fun_ext keeps.reads)
      ∙ image_quiet s t old m (reads mid) n o ready.firm (swept_in s t m old mid o ready swept (reads mid) (left_now s mid)) (all_quiet s t old settled n)

  pub swept_ready : (ps : List (Option Record)) → IsSettled new → Agrees (records_held s t new) ps → IsSettled old → IsReady s t new (with_places ps m)
  swept_ready ps settled agrees before = record {
    firm = record {
      images = λ q i. steady_keeps s.geometry (q.extents * s.geometry.extent) (volume_of s t old (row_name q)) (volume_of s t new (row_name q)) q.image
          (Keeps-then (swept.images q i) (Keeps-volume s.geometry.extent (extents_of (rows t (row_name q))) keeps)) (ready.firm.images q i);
      quiet = λ q i still. all_quiet s t new settled (row_name q);
      below = below_alike (content_now s t old) (content_now s t new) m.op refl refl (λ n _. swept_images before n) ready.firm.below;
    };
    records = agrees;
    recorded = all_quiet s t new settled Mgt;
    logs = (holds_keeps (holds_ready s t old m o ready) new (λ u. Keeps-then (swept.logs u) (Keeps-volume s.geometry.extent (extents_of (rows t (Cbt u))) keeps))).logs;
    logged = λ u. all_quiet s t new settled (Cbt u);
  }

  pub swept_same_logs : HasLogsOf (content_now s t old) (content_now s t new)
  swept_same_logs = same_logs_keep (holds_ready s t old m o ready) new (λ u. Keeps-then (swept.logs u) (Keeps-volume s.geometry.extent (extents_of (rows t (Cbt u))) keeps))

  pub swept_now : IsSettled old → disks (content_now s t new) ≡ disks (content_now s t old)
  swept_now settled =
      ap (λ image. disks (content_in s t image)) (fun_ext keeps.reads)
      ∙ swept_disks s t m old mid o ready swept (reads mid) (left_now s mid) (all_quiet s t old settled)
