-- The log of a disk goes by one commit between two steps: what a stop leaves, and what is known behind it.
use Rattle.std.proofs.Common.{◌≡◌, ◌≢◌, inl, inr, ⊎_elim, ℕ, ◌+◌, ◌-◌, ◌<◌, ◌^◌, min, not, false, List, Option, Some, None, Result, OnOk, OnErr, Ok, Err, refl, sym, ap, ap₂, ◌∙◌, subst, subst₂, arith}
use Rattle.std.specs.Prelude.{IsSome}
use Rattle.std.proofs.Math.Logic.{∥∥₁_map}
use Rattle.std.proofs.Math.Path.{fun_ext}
use Rattle.std.proofs.lemmas.Bool.{true≢false}
use Rattle.std.proofs.lemmas.Option.{none-some}
use Rattle.common_laws.proofs.Bytes.{same_or_not}
use Rattle.common_laws.proofs.Lists.{In-filter}
use Rattle.sm_base.specs.declared.faults.Failed.{Failed}
use Rattle.sm_base.specs.declared.names.Name.{Name}
use Rattle.sm_base.specs.declared.names.Name.TheVariants.{Cbt}
use Rattle.sm_disk.proofs.HeldLaws.{may_settled}
use Rattle.sm_disk.specs.Held.{IsSettled, Keeps, reads}
use Rattle.sm_log.specs.Logs.{Log, is_log_of, log_extents, log_of, without_log}
use Rattle.sm_log_rows.proofs.ChangedLaws.{apart_from_logs}
use Rattle.sm_log_rows.proofs.DroppedLaws.{removed_short}
use Rattle.sm_logs.proofs.OrderLaws.{rising_without}
use Rattle.sm_machine.proofs.LogLists.{extents-without}
use Rattle.sm_machine.proofs.Tracked.{keeps_logged}
use Rattle.sm_machine.specs.Shapes.{Shape, risen}
use Rattle.sm_machine.specs.Tracking.{ended}
use Rattle.sm_machine.specs.WellFormed.{IsWellFormed}
use Rattle.sm_standing.proofs.WorldLaws.{spot_below}
use Rattle.sm_standing.specs.Contents.{sectors_of}
use Rattle.sm_standing.specs.Keeping.{IsKept}
use Rattle.sm_standing.specs.Logs.{IsLogOf, IsLogged}
use Rattle.sm_standing.specs.Standing.{disks}
use Rattle.vg_layout.specs.Places.{record_extents}
use Rattle.vg_meta.proofs.ByName.{changes_by_name, spread}
use Rattle.vg_meta.proofs.ChangeLaws.{IsTable-applied}
use Rattle.vg_meta.specs.Changes.{Permits, applied}
use Rattle.vg_meta.specs.Tables.{Row, VolumeTable, extents_of, rows}
use Rattle.vg_meta.specs.declared.changes.Change.{Change}
use Rattle.vg_meta.specs.declared.changes.Change.TheVariants.{Remove}
use Rattle.vg_volumes.proofs.VolumeLaws.{Keeps-volume}
use Rattle.vg_volumes.specs.Sites.{Fits, Site, area_size, size_of, volume_of}
use Rattle.vg_volumes.specs.Stored.{CanCommit, Commits, FailsToCommit, IsEitherOf, Leaves, stored}
use Rattle.vg_volumes.specs.Volumes.{piece, spot, volume}
use Rattle.vg_volumes.specs.declared.stores.Store.{Ghosts}
use Rattle.vhd_chain.specs.Trees.{row_name}
use Rattle.sm_ready.proofs.ChainLaws.{err_not_ok, might_show, tab}
use Rattle.sm_ready.proofs.FitLaws.{fits_orderly}
use Rattle.sm_ready.proofs.FrameLaws.{true_kept, volume_commits}
use Rattle.sm_ready.proofs.FramingLaws.{commit_steps, failed_steps}
use Rattle.sm_ready.proofs.LeftLaws.{extent_some, left_now}
use Rattle.sm_ready.proofs.LogLaws.{logged_one, none_here}
use Rattle.sm_ready.proofs.LogRows.{HasLogRow, log_in_list, log_row}
use Rattle.sm_ready.proofs.LogStores.{logs_told}
use Rattle.sm_ready.proofs.Orders.{named_row}
use Rattle.sm_ready.proofs.RoomLaws.{rows_commits}
use Rattle.sm_ready.proofs.RowLaws.{found_in}
use Rattle.sm_ready.proofs.TakenLaws.{IsTold}
use Rattle.sm_ready.specs.Does.{store_shape}
use Rattle.sm_ready.specs.Framing.{IsBetweenSteps, StepsOn}
use Rattle.sm_ready.specs.Known.{Known, known, log_face, row_face, shape_in}
use Rattle.sm_ready.specs.Orderly.{IsOrderly}
use Rattle.sm_ready.specs.Ready.{IsReady, IsTidy}
use Rattle.sm_ready.specs.Stores.{MayShow, StoreLeaves, content_in, content_now, store_content}
use Rattle.sm_ready.specs.declared.memory.Memory.{Memory}
use Rattle.sm_tracking.proofs.ApartLaws.{AreBeside, disks_beside, kept_beside}
use Rattle.sm_tracking.proofs.ListLaws.{fewer_left, none_without, other_without}
use Rattle.sm_tracking.proofs.OrderLaws.{AreLogsOf, IsOneLog, image_no_log, orderly_beside, tidy_beside, with_known, with_memory}
use Rattle.sm_tracking.proofs.ReadyLaws.{KeepsVolumes, ready_beside, shown_beside}
use Rattle.sm_tracking.proofs.StopLaws.{choice_kept, choice_logged, choice_shown, kept_safe, no_log_apart}
use Rattle.sm_tracking.specs.Tracking.{HasChangedLogs, IsLoggedBetween}

once_raised : (n : ℕ) → n < 2 ^ 48 → min (n + 1) (2 ^ 48 - 1) ≡ risen n 1
once_raised n low = omega (arith, low)

-- ---- the commit

abbrev removing : List ℕ → Change
removing d = Remove (Cbt d)

module _ {s : Site} {t : VolumeTable} {m : Known} (d : List ℕ) (l : Log) (o : IsOrderly s t m) (tidy : IsTidy t m) (found : log_of d m.logs ≡ Some l) where
  abbrev after : VolumeTable
  after = applied t (removing d)

  abbrev less : List Log
  less = without_log d m.logs

  its_row : HasLogRow t l
  its_row = log_row s t m l o (log_in_list m.logs d l found).0

  pub may_go : Permits s.count t (removing d)
  may_go = record { row = its_row.row; there = subst (λ (u : List ℕ). rows t (Cbt u) ≡ Some its_row.row) (log_in_list m.logs d l found).1 its_row.there; not_mgt = λ e. (let z = e in cc) }

  pub can_go : {S : Type 0} (g : Ghosts S) (a : S) → g.site a ≡ s → tab g a ≡ t → g.failed a ≡ false → CanCommit g (removing d) a
  can_go g a site table usable = record {
    usable = usable;
    allowed = subst₂ (λ (y : Site) (u : VolumeTable). Permits y.count u (removing d)) (sym site) (sym table) may_go;
    room = tt;
    fits = subst₂ (λ (y : Site) (u : VolumeTable). Fits y.count u (removing d)) (sym site) (sym table) (let short = removed_short t (Cbt d) in let fits = fits_orderly s t m o in omega (arith, short, fits));
  }

  pub one_less : IsOneLog s t after d None
  one_less = record {
    tables = apart_from_logs t (removing d) refl o.table.sequence;
    table = IsTable-applied s.count t (removing d) o.table may_go;
    others = λ n other. (changes_by_name s.count t (removing d) o.table may_go).others n other;
    there = (changes_by_name s.count t (removing d) o.table may_go).does.2;
    full = λ r e. absurd (none-some r e);
  }

  logs_less : AreLogsOf s after less
  logs_less = record {
    faces = λ u. ⊎_elim
        (λ is. subst (λ (v : List ℕ). row_face (rows after (Cbt v)) ≡ log_face (log_of v less)) (sym is) (ap row_face one_less.there ∙ ap log_face (sym (none_without d m.logs))))
        (λ apart. ap row_face (one_less.others (Cbt u) (λ e. apart (let z : u ≡ d = cc in z))) ∙ o.logs u ∙ ap log_face (sym (other_without d u m.logs apart))) (same_or_not u d);
    few = let most = o.few_logs in let shorter = fewer_left (λ (y : Log). not (is_log_of d y)) m.logs in omega (arith, most, shorter);
    rising = rising_without m.logs d o.logs_in_order;
    room = λ y i. o.log_room y (In-filter (λ (z : Log). not (is_log_of d z)) m.logs y i).0;
  }

  pub shape_less : shape_in s after (with_known less m) ≡ ended (shape_in s t m) d
  unfolding shape_in
  shape_less = ap₂ (λ (k n : ℕ). let σ : Shape = record (shape_in s t m) { sequence = k; others = n; logs = less } in σ)
      (once_raised t.sequence o.table.sequence)
      (let e : log_extents less + record_extents s.geometry.extent ≡ log_extents m.logs + record_extents s.geometry.extent + log_extents less - log_extents m.logs = omega arith in e)

  well_less : ∥ IsWellFormed (shape_in s after (with_known less m)) ∥₁
  unfolding shape_in
  well_less = ∥∥₁_map o.well_formed (λ w. subst IsWellFormed (sym shape_less) (keeps_logged (shape_in s t m) less 1 w (omega arith) (let e = extents-without d m.logs in omega (arith, e))))

  pub orderly_less : IsOrderly s after (with_known less m)
  orderly_less = orderly_beside o tidy one_less less logs_less well_less

  pub tidy_less : IsTidy after (with_known less m)
  tidy_less = tidy_beside o tidy one_less less

-- ---- stops

module _ {S : Type 0} {g : Ghosts S} {a : S} {m : Memory} (d : List ℕ) (l : Log) (h : IsTold g a m) (tidy : IsTidy (tab g a) (known m)) (found : log_of d m.logs ≡ Some l) where
  abbrev s : Site
  s = g.site a

  abbrev t : VolumeTable
  t = tab g a

  abbrev v : VolumeTable
  v = applied t (removing d)

  abbrev Stops : VolumeTable → (ℕ → List ℕ) → Type 0
  Stops w image = IsKept (content_in s w image) × MayShow s (StoreLeaves g a) (disks (content_in s w image)) × IsLoggedBetween (content_in s w image) m.logs (without_log d m.logs)

  it : IsOneLog s t v d None
  it = one_less d l h.orderly tidy found

  module _ (image : ℕ → List ℕ) (same : (p : ℕ) → p < area_size s → image p ≡ reads (g.area a) p) where
    sector : (n : Name) → n ≢ Cbt d → (p : ℕ) → p < size_of s t n → sectors_of (content_in s v image) n p ≡ sectors_of (store_content g a) n p
    unfolding sectors_of piece
    sector n other p below =
        ap (λ (r : Option Row). image (spot s.geometry.extent (extents_of r) p)) (it.others n other)
        ∙ same (spot s.geometry.extent (extents_of (rows t n)) p) (spot_below s.count s.geometry.extent (rows t) n p (spread s.count t h.orderly.table) (extent_some s t (known m) h.orderly) below)

    beside : AreBeside s t v (reads (g.area a)) image
    beside = record { tables = it.tables; sectors = λ n no_log. sector n (no_log_apart n d no_log) }

    pub less_logged : IsLogged (content_in s v image) (without_log d m.logs)
    less_logged u = ⊎_elim
        (λ is. subst (λ (w : List ℕ). IsLogOf (content_in s v image) w (log_of w (without_log d m.logs))) (sym is) (record {
          read = none_here (content_in s v image) d it.there ∙ sym (none_without d m.logs);
          there = λ r i named full. absurd (none-some r (sym it.there ∙ ap (rows v) (sym named) ∙ found_in v.volumes it.table.volumes.rising r i));
        }))
        (λ apart.
        let other : Cbt u ≢ Cbt d = λ e. apart (let z : u ≡ d = cc in z) in
        subst (IsLogOf (content_in s v image) u) (sym (other_without d u m.logs apart)) (logged_one (logs_told h) v it.table image u (it.others (Cbt u) other) (sector (Cbt u) other))) (same_or_not u d)

    less_stop : Stops v image
    less_stop = (
      kept_beside h.orderly beside ((kept_safe h).kept (reads (g.area a)) (left_now s (g.area a))),
      subst (MayShow s (StoreLeaves g a)) (sym (disks_beside h.orderly beside)) (might_show g h.usable h.told),
      λ u. (log_of u (without_log d m.logs), less_logged u, inr (inl refl)),
    )

  end_stop : (w : VolumeTable) (image : ℕ → List ℕ) → IsEitherOf (stored g a) (removing d) w image → Stops w image
  end_stop w image (inl i) = (choice_kept h w image i, choice_shown h w image i, λ u. (log_of u m.logs, choice_logged h w image i u, inl refl))
  end_stop w image (inr i) = subst (λ (u : VolumeTable). Stops u image) (sym i.table_is) (less_stop image i.sectors)

  tracked_of : {b : S} (n : Memory) (ok : Type 0) → (ok → IsReady (g.site b) (tab g b) (g.area b) (known n)) → (ok → IsSettled (g.area b)) → disks (store_content g b) ≡ disks (store_content g a)
      → ((w : VolumeTable) (image : ℕ → List ℕ) → StoreLeaves g b w image → Stops w image) → HasChangedLogs g a m b n (without_log d m.logs) ok
  tracked_of n ok ready settled shown stops = record {
    ready = ready;
    settled = λ fine was. settled fine;
    shown = shown;
    crash = λ w image left. (let z = stops w image left in (z.0, z.1));
    logged = λ w image left. (stops w image left).2;
  }

  pub end_failed : {b : S} (n : Memory) (ok : Type 0) → (ok → ⊥) → FailsToCommit g a b → ((w : VolumeTable) (image : ℕ → List ℕ) → g.leaves b w image → IsEitherOf (stored g a) (removing d) w image)
      → HasChangedLogs g a m b n (without_log d m.logs) ok
  end_failed {b} n ok never fails says = tracked_of n ok (λ fine. absurd (never fine)) (λ fine. absurd (never fine))
      (ap₂ (λ (y : Site) (u : VolumeTable). disks (content_now y u (g.area b))) fails.site fails.table
      ∙ ap (λ (f : ℕ → List ℕ). disks (content_in s t f)) (fun_ext (fails.keeps h.told).reads))
      (λ w image left. end_stop w image (⊎_elim (λ at. says w image at) (λ z. absurd (true≢false (sym fails.stuck ∙ z.1))) left))

  pub end_tracked : {b : S} (n : Memory) (ok : Type 0) → known n ≡ with_known (without_log d m.logs) (known m) → Commits g (removing d) a b
      → ((w : VolumeTable) (image : ℕ → List ℕ) → g.leaves b w image → IsEitherOf (stored g a) (removing d) w image) → HasChangedLogs g a m b n (without_log d m.logs) ok
  end_tracked {b} n ok memory c says = tracked_of n ok
      (λ fine. subst₂ (λ (y : Site) (u : VolumeTable). IsReady y u (g.area b) (known n)) (sym c.site) (sym c.table)
      (subst (IsReady s v (g.area b)) (sym memory) (ready_beside (g.area a) (g.area b) h.orderly it.tables volumes h.ready (c.settled h.told) (without_log d m.logs) (less_logged (reads (g.area b)) (λ p below. (c.keeps h.told).reads p)))))
      (λ fine. c.settled h.told)
      (ap₂ (λ (y : Site) (u : VolumeTable). disks (content_now y u (g.area b))) c.site c.table ∙ shown_beside (g.area a) (g.area b) h.orderly it.tables volumes)
      (λ w image left. ⊎_elim (λ at. end_stop w image (says w image at))
      (λ z. subst (λ (u : VolumeTable). Stops u image) (sym (z.2.table_is ∙ c.table))
      (less_stop image (λ p below. may_settled (g.area b) p (image p) (c.settled h.told p) (z.2.sectors p (subst (λ (y : Site). p < area_size y) (sym c.site) below)) ∙ (c.keeps h.told).reads p))) left)
    where
      volumes : KeepsVolumes s t v (g.area a) (g.area b)
      volumes n no_log = subst (λ (r : Option Row). Keeps (volume_of s t (g.area a) n) (volume s.geometry.extent (extents_of r) (g.area b))) (sym (it.others n (no_log_apart n d no_log)))
          (Keeps-volume s.geometry.extent (extents_of (rows t n)) (c.keeps h.told))

-- ---- between two steps, by how the commit ended

module _ {S : Type 0} (g : Ghosts S) (a b : S) (m : Memory) (d : List ℕ) (new : List Log) where
  abbrev less_of : List Log
  less_of = without_log d m.logs

  pub its_log : IsSome (log_of d m.logs) → (l : Log) × (log_of d m.logs ≡ Some l)
  its_log some = by (log_of d m.logs) refl some
    where
      by : (o : Option Log) → log_of d m.logs ≡ o → IsSome o → (l : Log) × (log_of d m.logs ≡ Some l)
      by None is e = absurd (true≢false (sym e))
      by (Some l) is e = (l, is)

  module _ (i : IsBetweenSteps g a m) (some : IsSome (log_of d m.logs)) where
    l : Log
    l = (its_log some).0

    found : log_of d m.logs ≡ Some l
    unfolding l
    found = (its_log some).1

    pub may_end : CanCommit g (removing d) a
    may_end = can_go d l i.orderly i.tidy found g a refl refl i.usable

    between : Commits g (removing d) a b → IsBetweenSteps g b (with_memory less_of m)
    between c = record {
      usable = c.usable;
      orderly = subst₂ (λ (s : Site) (v : VolumeTable). IsOrderly s v (with_known less_of (known m))) (sym c.site) (sym c.table) (orderly_less d l i.orderly i.tidy found);
      tidy = subst (λ (v : VolumeTable). IsTidy v (with_known less_of (known m))) (sym c.table) (tidy_less d l i.orderly i.tidy found);
      true_images = true_kept g m (with_memory less_of m) c.site (λ told r j. (
        j,
        volume_commits r i.orderly.table may_end.allowed
            (no_log_apart (row_name r) d (image_no_log (row_name r) (named_row (g.site a) (tab g a) (known m) r i.orderly j))) c told,
      )) i.true_images;
      rows = rows_commits may_end c i.rows;
      tree_room = i.tree_room;
      attachment_room = i.attachment_room;
    }

    pub end_between : (r : Result (Unit {0}) Failed) → OnOk r (Commits g (removing d) a b) → OnOk r (new ≡ less_of) → OnOk r (IsBetweenSteps g b (with_memory new m))
    end_between (Ok v) c e = subst (λ (ls : List Log). IsBetweenSteps g b (with_memory ls m)) (sym e) (between c)
    end_between (Err f) c e = tt

    pub end_shape : (r : Result (Unit {0}) Failed) → OnOk r (Commits g (removing d) a b) → OnOk r (new ≡ less_of) → OnOk r (store_shape g b (with_memory new m) ≡ ended (store_shape g a m) d)
    end_shape (Ok v) c e = ap (λ (ls : List Log). store_shape g b (with_memory ls m)) e
        ∙ ap₂ (λ (s : Site) (v : VolumeTable). shape_in s v (with_known less_of (known m))) c.site c.table ∙ shape_less d l i.orderly i.tidy found
    end_shape (Err f) c e = tt

    pub end_memory : (r : Result (Unit {0}) Failed) → OnOk r (new ≡ less_of) → OnOk r (with_memory new m ≡ with_memory less_of m)
    end_memory (Ok v) e = ap (λ (ls : List Log). with_memory ls m) e
    end_memory (Err f) e = tt

    pub end_lasting : (r : Result (Unit {0}) Failed) → OnOk r (Commits g (removing d) a b) → OnOk r (g.told → IsSettled (g.area b))
    end_lasting (Ok v) c = c.settled
    end_lasting (Err f) c = tt

    pub end_steps : (r : Result (Unit {0}) Failed) → OnOk r (Commits g (removing d) a b) → OnErr r (FailsToCommit g a b) → Leaves g b (IsEitherOf (stored g a) (removing d)) → StepsOn g 1 a b
    end_steps (Ok v) c f says = commit_steps c says
    end_steps (Err e) c f says = failed_steps (removing d) f says

    pub end_outcome : (r : Result (Unit {0}) Failed) → IsTold g a m → OnOk r (Commits g (removing d) a b) → OnOk r (new ≡ less_of) → OnErr r (FailsToCommit g a b) → Leaves g b (IsEitherOf (stored g a) (removing d))
        → HasChangedLogs g a m b (with_memory new m) less_of (r ≡ Ok tt)
    end_outcome (Ok v) h c e f says = end_tracked d l h i.tidy found (with_memory new m) (Ok v ≡ Ok tt) (ap (λ (ls : List Log). with_known ls (known m)) e) c (says h.told)
    end_outcome (Err x) h c e f says = end_failed d l h i.tidy found (with_memory new m) (Err x ≡ Ok tt) (err_not_ok (Err x) tt refl) f (says h.told)
