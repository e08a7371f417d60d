-- A commit of one change, from a ready store to a ready one.
use Rattle.std.proofs.Common.{◌≡◌, inl, inr, ℕ, nat_lt, Bool, true, false, cond, List, [], map, refl, sym, ap, ap₂, ◌∙◌, subst}
use Rattle.std.proofs.Math.Path.{fun_ext}
use Rattle.sm_base.specs.declared.names.Name.{Name}
use Rattle.sm_base.specs.declared.names.Name.TheVariants.{Cbt}
use Rattle.sm_disk.specs.Held.{Held, Keeps, IsSettled, reads}
use Rattle.sm_disk.proofs.HeldLaws.{reads-settled, may_settled}
use Rattle.vg_meta.specs.Tables.{IsTable, VolumeTable, rows, extents_of}
use Rattle.vg_volumes.specs.Commits.{IsBefore, IsEither}
use Rattle.vg_volumes.specs.Sites.{Site, area_size, volume_of}
use Rattle.vg_volumes.specs.Volumes.{span, volume}
use Rattle.sm_machine.specs.Disks.{Disk}
use Rattle.sm_machine.specs.Runs.{face, HasSector}
use Rattle.sm_log.specs.Logs.{Log}
use Rattle.sm_standing.specs.Keeping.{IsKept}
use Rattle.sm_standing.specs.Logs.{IsLogged}
use Rattle.sm_standing.specs.Standing.{disks}
use Rattle.sm_run.specs.Between.{IsBetween, IsStill, IsAlready}
use Rattle.sm_ready.specs.Done.{HasDone, IsCommit, at_rest}
use Rattle.sm_ready.specs.Known.{Known}
use Rattle.sm_ready.specs.Orderly.{IsOrderly}
use Rattle.sm_ready.specs.Ready.{IsReady}
use Rattle.vhd_volumes.specs.Steady.{IsQuiet}
use Rattle.sm_ready.specs.Stores.{Leaving, MayShow, content_in, content_now}
use Rattle.sm_ready.proofs.AlikeLaws.{disks_alike, faces_alike}
use Rattle.sm_ready.proofs.KeptLaws.{law_kept}
use Rattle.sm_ready.proofs.LogLaws.{HoldsLogs, holds_commit, holds_ready, logged_either}
use Rattle.sm_ready.proofs.LeftLaws.{IsLeft, left_in, law_left_now, image_quiet, ready_places}

-- what is held where nothing is pending, and reads are kept
pub rested : (old new : Held) → Keeps old new → IsSettled new → new ≡ at_rest (reads old)
rested old new keeps settled =
    ap₂ (λ (f : ℕ → List ℕ) (p : ℕ → List (List ℕ)). let h : Held = record { floor = f; pending = p } in h) (fun_ext (λ p. sym (reads-settled new p (settled p)) ∙ keeps.reads p)) (fun_ext settled)

pub volume_rested : (s : Site) (t : VolumeTable) (image : ℕ → List ℕ) (n : Name) → IsQuiet (volume_of s t (at_rest image) n)
unfolding volume
volume_rested s t image n p v may = may_settled (volume_of s t (at_rest image) n) p v (by (nat_lt p (span s.geometry.extent (extents_of (rows t n))))) may
  where
    none : List (List ℕ)
    none = []

    by : (b : Bool) → cond b none none ≡ []
    by true = refl
    by false = refl

-- Where nothing is pending, a stop leaves the disks that a read gives
pub law_settled : (s : Site) (t : VolumeTable) (area : Held) (m : Known) (image : ℕ → List ℕ) → IsOrderly s t m → IsReady s t area m → ((n : Name) → IsQuiet (volume_of s t area n)) → IsLeft s area image
    → disks (content_in s t image) ≡ disks (content_now s t area)
law_settled s t area m image o ready settled left =
    let alike = law_left_now s t area m image o ready left in
    disks_alike (content_now s t area) (content_in s t image) refl (λ n. image_quiet s t area m image n o ready.firm (left_in s t m area image o left) (settled n)) alike.records

-- what a stop leaves of a ready store might have been left
pub still : (s : Site) (t : VolumeTable) (area : Held) (m : Known) (before : Leaving) (image : ℕ → List ℕ) → IsOrderly s t m → IsReady s t area m → IsLeft s area image → before t image
    → IsStill (MayShow s before) (disks (content_now s t area)) (disks (content_in s t image))
still s t area m before image o ready left was =
    let alike = law_left_now s t area m image o ready left in
    record {
      faces = faces_alike (content_now s t area) (content_in s t image) alike.outline alike.records;
      sectors = λ u k bytes h. (disks (content_in s t image), record { table = t; image = image; left = was; shown = refl }, h);
    }

pub already : (before : List Disk → Type 0) (new ds : List Disk) → ds ≡ new → IsAlready before new ds
already before new ds is = record {
  faces = ap (map face) is;
  sectors = λ u k bytes h. inr (subst (λ (d : List Disk). HasSector d u k bytes) is h);
}

-- each image that a stop may leave, while the table stands, is kept and shows the disks from before
pub record IsSafe (s : Site) (t : VolumeTable) (area : Held) (before : Leaving) (ds : List Disk) : Type 0 where
  pub kept : (image : ℕ → List ℕ) → IsLeft s area image → IsKept (content_in s t image)
  pub shown : (image : ℕ → List ℕ) → IsLeft s area image → IsStill (MayShow s before) ds (disks (content_in s t image))

-- as of a ready store
pub ready_safe : (s : Site) (t : VolumeTable) (area : Held) (m : Known) (before : Leaving) → IsOrderly s t m → IsReady s t area m → ((image : ℕ → List ℕ) → IsBefore (area_size s) t area t image → before t image)
    → IsSafe s t area before (disks (content_now s t area))
ready_safe s t area m before o ready might = record {
  kept = λ image left. law_kept s t area m image o ready.firm (left_in s t m area image o left) (ready_places s t area m image o ready left);
  shown = λ image left. still s t area m before image o ready left (might image (record { table_is = refl; sectors = left }));
}

-- a commit from a safe store to a table of which memory is ready, on what a read gives
pub law_commit : (s : Site) (t u : VolumeTable) (old new : Held) (m' : Known) (before leaves : Leaving) (ok : Type 0) (was ds : List Disk)
    → IsSafe s t old before was → IsOrderly s u m' → IsReady s u (at_rest (reads old)) m'
    → IsCommit s t u old new leaves ok → disks (content_now s u (at_rest (reads old))) ≡ ds
    → ((v : VolumeTable) (image : ℕ → List ℕ) → leaves v image → IsKept (content_in s v image) × IsBetween (MayShow s before) was ds (disks (content_in s v image)))
law_commit s t u old new m' before leaves ok was ds safe o' ready' commit is v image l = by (commit.crash v image l)
  where
    by : IsEither (area_size s) t u old v image → IsKept (content_in s v image) × IsBetween (MayShow s before) was ds (disks (content_in s v image))
    by (inl at) =
        subst (λ l. IsKept (content_in s l image) × IsBetween (MayShow s before) was ds (disks (content_in s l image))) (sym at.table_is)
        (safe.kept image at.sectors, inl (safe.shown image at.sectors))
    by (inr after) =
        let left : IsLeft s (at_rest (reads old)) image = λ p below. inl (after.sectors p below) in
        subst (λ l. IsKept (content_in s l image) × IsBetween (MayShow s before) was ds (disks (content_in s l image))) (sym after.table_is) (
          law_kept s u (at_rest (reads old)) m' image o' ready'.firm (left_in s u m' (at_rest (reads old)) image o' left) (ready_places s u (at_rest (reads old)) m' image o' ready' left),
          inr (already (MayShow s before) ds (disks (content_in s u image))
              (law_settled s u (at_rest (reads old)) m' image o' ready' (volume_rested s u (reads old)) left ∙ is)),
        )

-- whatever a commit leaves that keeps the rows of logs
pub logged_commit : {s : Site} {t u : VolumeTable} {old new : Held} {ls : List Log} {leaves : Leaving} {ok : Type 0} → HoldsLogs s t old ls → IsTable s.count t → IsTable s.count u
    → ((w : List ℕ) → rows u (Cbt w) ≡ rows t (Cbt w)) → IsCommit s t u old new leaves ok → (v : VolumeTable) (image : ℕ → List ℕ) → leaves v image → IsLogged (content_in s v image) ls
logged_commit {s} {t} {u} {old} holds table next same commit v image l =
    logged_either holds (holds_commit holds u next same (λ w. volume_rested s u (reads old) (Cbt w))) table next v image (commit.crash v image l)

pub law_single_commit : (s : Site) (t u : VolumeTable) (old new : Held) (m m' : Known) (before leaves : Leaving) (ok : Type 0) (ds : List Disk)
    → IsOrderly s t m → IsReady s t old m → IsOrderly s u m' → IsReady s u (at_rest (reads old)) m'
    → ((image : ℕ → List ℕ) → IsBefore (area_size s) t old t image → before t image)
    → IsCommit s t u old new leaves ok → disks (content_now s u (at_rest (reads old))) ≡ ds
    → m'.logs ≡ m.logs → HasDone s t u old new m' before leaves ok ds
law_single_commit s t u old new m m' before leaves ok ds o ready o' ready' might commit is same_logs = record {
  ready = λ fine. subst (λ h. IsReady s u h m') (sym (rested old new commit.keeps (commit.settled fine))) ready';
  settled = commit.settled;
  shown = λ fine. ap (λ h. disks (content_now s u h)) (rested old new commit.keeps (commit.settled fine)) ∙ is;
  crash = law_commit s t u old new m' before leaves ok (disks (content_now s t old)) ds (ready_safe s t old m before o ready might) o' ready' commit is;
  logged = λ v image l. logged_either (subst (HoldsLogs s t old) (sym same_logs) (holds_ready s t old m o ready)) (holds_ready s u (at_rest (reads old)) m' o' ready') o.table o'.table v image (commit.crash v image l);
}
