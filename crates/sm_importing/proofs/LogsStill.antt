-- What a stop leaves passes the check of logs where no log changes, and each disk that was there shows as it was.
use Rattle.std.proofs.Common.{◌≡◌, ◌<◌, ◌≤◌, ⊎_elim, ℕ, List, IsSome, true, Some, None, length, refl, sym, ap, subst, ◌∙◌, arith}
use Rattle.std.proofs.lemmas.Option.{same_Some}
use Rattle.common_laws.specs.Lists.{In}
use Rattle.common_laws.proofs.Bytes.{bytes_eq-same}
use Rattle.common_laws.proofs.Lists.{In-map, In-map_at, find-some}
use Rattle.sm_disk.specs.Held.{Held}
use Rattle.sm_log.specs.Logs.{Log, is_log_of}
use Rattle.sm_machine.specs.Disks.{Disk}
use Rattle.sm_machine.specs.Runs.{Face, face}
use Rattle.sm_machine.specs.Shapes.{Shape}
use Rattle.sm_machine.specs.Tracking.{AreGoodLogs}
use Rattle.sm_machine.specs.WellFormed.{IsWellFormed}
use Rattle.sm_machine.proofs.LogDisks.{disk_there}
use Rattle.sm_ready.specs.Frames.{IsNoLower}
use Rattle.sm_ready.specs.Known.{Known, shape_in}
use Rattle.sm_ready.specs.Orderly.{IsOrderly}
use Rattle.sm_ready.specs.Ready.{IsReady}
use Rattle.sm_ready.specs.Stores.{content_in, content_now}
use Rattle.sm_ready.proofs.DiskShape.{are_disks}
use Rattle.sm_run.specs.Between.{IsBetween}
use Rattle.sm_standing.specs.Contents.{Content}
use Rattle.sm_standing.specs.Keeping.{IsKept}
use Rattle.sm_standing.specs.LogChecks.{IsLogLike, log_fault}
use Rattle.sm_standing.specs.Logs.{IsLogged, log_at}
use Rattle.sm_standing.specs.Standing.{disk_at, disks}
use Rattle.sm_standing.proofs.DiskLists.{disks_at}
use Rattle.sm_standing.proofs.LogPassLaws.{logs_pass}
use Rattle.vg_meta.specs.Tables.{VolumeTable}
use Rattle.vg_volumes.specs.Sites.{Site}

module _ (site : Site) (t v : VolumeTable) (area : Held) (m : Known) (image : ℕ → List ℕ) (before : List Disk → Type 0) (ends : List Disk) (o : IsOrderly site t m) (ready : IsReady site t area m)
    (w : IsWellFormed (shape_in site t m)) (good : AreGoodLogs (shape_in site t m)) (kept : IsKept (content_in site v image))
    (between : IsBetween before (disks (content_now site t area)) ends (disks (content_in site v image))) (still : (d : Disk) → In d (disks (content_now site t area)) → In d ends)
    (logged : IsLogged (content_in site v image) m.logs) (lower : IsNoLower t v) where
  abbrev c : Content
  c = content_in site v image

  abbrev was : List Disk
  was = disks (content_now site t area)

  abbrev s : Shape
  s = shape_in site t m

  -- a disk from before shows with its face
  shown : (e : Disk) → In e was → (d : Disk) × In d (disks c) × (face e ≡ face d)
  shown e i = ⊎_elim
      (λ k. In-map face (disks c) (face e) (subst (λ (fs : List Face). In (face e) fs) (sym k.faces) (In-map_at face was e i)))
      (λ k. In-map face (disks c) (face e) (subst (λ (fs : List Face). In (face e) fs) (sym k.faces) (In-map_at face ends e (still e i)))) between

  one_disk : (d e : Disk) → In d (disks c) → In e (disks c) → d.uuid ≡ e.uuid → d ≡ e
  one_disk d e i k same = same_Some d e (sym (disks_at c d i) ∙ (ap (disk_at c) same ∙ disks_at c e k))

  later : s.sequence ≤ v.sequence
  unfolding shape_in
  later = let most = w.sequence in omega (arith, most, lower)

  its_log : (u : List ℕ) (l : Log) → log_at c u ≡ Some l → In l m.logs × (is_log_of u l ≡ true)
  its_log u l is = find-some (is_log_of u) m.logs l (sym (logged u).read ∙ is)

  like : (u : List ℕ) (l : Log) → log_at c u ≡ Some l → (k : Log) × In k s.logs × IsLogLike k l × (l.since < v.sequence)
  unfolding shape_in
  like u l is =
      let f = its_log u l is in
      let g = good.good l f.0 in
      (l, f.0, record { disk = refl; extents = refl; tag = refl; pieces = refl }, omega (arith, g.since, later))

  seen : (d : Disk) (l : Log) → In d (disks c) → log_at c d.uuid ≡ Some l → (e : Disk) × In e was × (e.uuid ≡ d.uuid) × (length e.sectors ≡ length d.sectors)
  unfolding shape_in
  seen d l i is =
      let f = its_log d.uuid l is in
      let own : l.disk ≡ d.uuid = bytes_eq-same l.disk d.uuid f.1 in
      let e = disk_there was s w (are_disks site t area m o ready w) l.disk (good.good l f.0).disk in
      let k = shown e.0 e.1 in
      let same : k.0 ≡ d = one_disk k.0 d k.1 i (sym (ap (λ (x : Face). x.uuid) k.2) ∙ (e.2 ∙ own)) in
      (e.0, e.1, e.2 ∙ own, ap (λ (x : Face). x.size) k.2 ∙ ap (λ (x : Disk). length x.sectors) same)

  pub pass_by : log_fault c ≡ None
  unfolding shape_in
  pass_by = logs_pass c s was kept.sound w (are_disks site t area m o ready w) good refl later (λ u r i named full. subst IsSome (sym (logged u).read) ((logged u).there r i named full)) like seen
