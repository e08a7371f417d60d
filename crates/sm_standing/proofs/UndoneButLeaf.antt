-- Where all checks pass and no leaf is being folded: what an enlargement or a fork that was cut short, where there is one, leaves of a content, and what
-- stands while it is undone.
use Rattle.std.proofs.Common.{◌≡◌, ◌⊎◌, inl, inr, ℕ, zero, suc, ◌≤◌, Bool, true, false, not, ◌&&◌, List, [], ◌∷◌, ◌++◌, take, Option, None, Some, refl, sym, ap, ◌∙◌, subst}
use Rattle.std.proofs.lemmas.Bool.{true≢false}
use Rattle.sm_base.specs.Numbers.{IsGeometry}
use Rattle.sm_base.specs.declared.names.Name.{Name}
use Rattle.sm_base.specs.declared.names.Name.TheVariants.{Mgt, Vhd, Clone, Inflate}
use Rattle.common_laws.specs.Lists.{◌>>=◌}
use Rattle.vg_meta.specs.Changes.{Permits, applied}
use Rattle.vg_meta.specs.declared.changes.Change.{Change}
use Rattle.vg_meta.specs.declared.changes.Change.TheVariants.{Cut, Remove}
use Rattle.vg_meta.proofs.ChangeLaws.{IsTable-applied}
use Rattle.vg_meta.specs.Tables.{VolumeTable, IsTable, rows}
use Rattle.sm_standing.specs.Apart.{is_apart}
use Rattle.sm_standing.specs.Contents.{Content, record_count, size_of}
use Rattle.sm_standing.specs.Entries.{head, is_hidden, is_making, making, of_row}
use Rattle.sm_standing.specs.Forks.{forked}
use Rattle.sm_standing.specs.Images.{image_of}
use Rattle.sm_standing.specs.Keeping.{HasNoEmptySlot, IsKept}
use Rattle.sm_standing.specs.Opened.{applied_all, changes_back, is_longer, opened, undo_changes, undone, wanted}
use Rattle.sm_standing.specs.Outlines.{outline}
use Rattle.sm_standing.specs.PlainSound.{PlainSound, SimpleSound}
use Rattle.sm_standing.specs.Standing.{disks}
use Rattle.sm_standing.specs.Undone.{AllPermit, IsBeingEnlarged, IsSameArea, IsUndoing, from_entry, image_back, row_back, undone_content, undone_from}
use Rattle.sm_standing.specs.Worlds.{with_table}
use Rattle.sm_standing.proofs.AreaLaws.{area_disks, area_images, area_kept, records_room}
use Rattle.sm_standing.proofs.EnlargedLaws.{images_enlarging}
use Rattle.sm_standing.proofs.EnlargingLaws.{hidden_alike}
use Rattle.sm_standing.proofs.ForkContents.{images_apart}
use Rattle.sm_standing.proofs.ForkRuns.{AllRun, run_permits, run_taken}
use Rattle.sm_standing.proofs.ForkUndone.{fork_parts, its_stage, n as n_of, fork_disks, fork_holding, fork_images, fork_kept, fork_permits, fork_rows, fork_table, fork_undone, fork_undone_disks}
use Rattle.sm_standing.proofs.OpenedLaws.{opened_undone}
use Rattle.sm_standing.proofs.PlainDisks.{no_folding, no_making, simple_folding}
use Rattle.sm_standing.proofs.PlainKept.{simple_is_known, simple_is_plain, simple_well}
use Rattle.sm_standing.proofs.UndoneContents.{IsBetween, before_it, between_enlarging, now, between_cut, between_disks, between_kept, between_now, disks_undone_at, holding_undone, images_undone_at, sound_undone, undone_disks, undone_kept}
use Rattle.sm_standing.proofs.UndoneLaws.{IsBeingForked, changes_are, cut_table, enlarged_or_not, may_cut, may_remove, undone_is, undone_is_table, undone_later, undone_none}

-- the commits that undo an enlargement, and others behind them: each is allowed in its turn
module _ (count : ℕ) (t : VolumeTable) (u : List ℕ) (extents : ℕ) (w : IsBeingEnlarged t u extents) (P L : VolumeTable → Type 0) (first : P t) (next : P (cut_table t u extents w)) where
  pub enlarged_run : (cs : List Change) → AllRun count P L (undone t) cs → AllRun count P L t (wanted (of_row (is_longer extents) (rows t (Vhd u))) (Cut (Vhd u) extents) ++ Remove (Inflate u extents) ∷ cs)
  enlarged_run cs rest = by (of_row (is_longer extents) (rows t (Vhd u))) refl
    where
      cut_is : (b : Bool) → of_row (is_longer extents) (rows t (Vhd u)) ≡ b → cut_table t u extents w ≡ applied_all t (wanted b (Cut (Vhd u) extents))
      cut_is b is = ap (λ x. applied_all t (wanted x (Cut (Vhd u) extents))) is

      removed : (x : VolumeTable) → cut_table t u extents w ≡ x → AllRun count P L (applied x (Remove (Inflate u extents))) cs
      removed x is = subst (λ y. AllRun count P L y cs) (undone_is t u extents w ∙ ap (λ y. applied y (Remove (Inflate u extents))) is) rest

      may : (x : VolumeTable) → cut_table t u extents w ≡ x → Permits count x (Remove (Inflate u extents))
      may x is = subst (λ y. Permits count y (Remove (Inflate u extents))) is (may_remove t u extents w count)

      by : (b : Bool) → of_row (is_longer extents) (rows t (Vhd u)) ≡ b → AllRun count P L t (wanted b (Cut (Vhd u) extents) ++ Remove (Inflate u extents) ∷ cs)
      by false is = (first, may t (cut_is false is), removed t (cut_is false is))
      by true is = (
        first,
        may_cut t u extents w count (sym (ap (of_row (is_longer extents)) w.there) ∙ is),
        (subst P (cut_is true is) next, may (applied t (Cut (Vhd u) extents)) (cut_is true is), removed (applied t (Cut (Vhd u) extents)) (cut_is true is)),
      )

module _ (c : Content) (table : IsTable c.count c.table) (geometry : IsGeometry c.extent c.block c.entries) (s : SimpleSound c) where
  pub room : record_count ≤ size_of c Mgt
  room = records_room c geometry (simple_is_known c s)

  -- ---- in each case

  either : (making c.table ≡ []) ⊎ (((u : List ℕ) × (extents : ℕ) × IsBeingEnlarged c.table u extents) ⊎ IsBeingForked c.table)
  either = enlarged_or_not c.count c.table table s.one_entry s.at_stage

  as_it_was : making c.table ≡ [] → undone_content c ≡ c
  as_it_was none = ap (λ (t : VolumeTable). record c { table = t }) (undone_none c.table none)

  pub table_undone : IsTable c.count (undone c.table)
  table_undone = by either
    where
      by : (making c.table ≡ []) ⊎ (((u : List ℕ) × (extents : ℕ) × IsBeingEnlarged c.table u extents) ⊎ IsBeingForked c.table) → IsTable c.count (undone c.table)
      by (inl none) = subst (IsTable c.count) (sym (undone_none c.table none)) table
      by (inr (inl k)) = undone_is_table c.table k.0 k.1 k.2 c.count table
      by (inr (inr k)) = fork_table c table geometry room s k.0 k.1 k.2 k.3

  from_itself : (n : Name) → making c.table ≡ [] → undone_from c.table n ≡ Some n
  unfolding undone_from
  from_itself n none = ap (λ ns. elim (head ns) as (λ _. Option Name) [ None ↦ Some n | Some e ↦ from_entry c.table e n ]) none

  from_enlarged : (n : Name) (u : List ℕ) (extents : ℕ) → IsBeingEnlarged c.table u extents → undone_from c.table n ≡ Some n
  unfolding undone_from
  from_enlarged n u extents w = ap (λ ns. elim (head ns) as (λ _. Option Name) [ None ↦ Some n | Some e ↦ from_entry c.table e n ]) w.entry

  pub but_leaf_images : (n : Name) → image_of (undone_content c) n ≡ image_back c n
  but_leaf_images n = by either
    where
      by : (making c.table ≡ []) ⊎ (((u : List ℕ) × (extents : ℕ) × IsBeingEnlarged c.table u extents) ⊎ IsBeingForked c.table) → image_of (undone_content c) n ≡ image_back c n
      by (inl none) = ap (λ x. image_of x n) (as_it_was none) ∙ sym (ap (λ o. o >>= image_of c) (from_itself n none))
      by (inr (inl k)) = images_undone_at c k.0 k.1 k.2 table geometry room (undone c.table).sequence n ∙ sym (ap (λ o. o >>= image_of c) (from_enlarged n k.0 k.1 k.2))
      by (inr (inr k)) = fork_images c table geometry room s k.0 k.1 k.2 k.3 n

  -- nothing is under way without it, and all is sound
  pub but_leaf_undone : PlainSound (undone_content c)
  but_leaf_undone = by either
    where
      by : (making c.table ≡ []) ⊎ (((u : List ℕ) × (extents : ℕ) × IsBeingEnlarged c.table u extents) ⊎ IsBeingForked c.table) → PlainSound (undone_content c)
      by (inl none) = subst PlainSound (sym (as_it_was none)) (simple_is_plain c s none)
      by (inr (inl k)) = sound_undone c k.0 k.1 k.2 table geometry room s (undone c.table).sequence (undone_later c.table k.0 k.1 k.2 c.count table)
      by (inr (inr k)) = fork_undone c table geometry room s k.0 k.1 k.2 k.3

  -- behind a fork its volumes are those that there were
  pub but_leaf_rows : (disk base twin : List ℕ) → making c.table ≡ Clone disk base twin ∷ [] → (n : Name) → rows (undone c.table) n ≡ row_back c.table n
  but_leaf_rows disk base twin entry n = fork_rows c table geometry room s disk base twin entry n

  pub but_leaf_holding : HasNoEmptySlot c → HasNoEmptySlot (undone_content c)
  but_leaf_holding holding = by either
    where
      by : (making c.table ≡ []) ⊎ (((u : List ℕ) × (extents : ℕ) × IsBeingEnlarged c.table u extents) ⊎ IsBeingForked c.table) → HasNoEmptySlot (undone_content c)
      by (inl none) = subst HasNoEmptySlot (sym (as_it_was none)) holding
      by (inr (inl k)) = holding_undone c k.0 k.1 k.2 table geometry room (undone c.table).sequence holding
      by (inr (inr k)) = fork_holding c table geometry room s k.0 k.1 k.2 k.3 holding

  pub but_leaf_disks : disks (undone_content c) ≡ disks c
  but_leaf_disks = by either
    where
      by : (making c.table ≡ []) ⊎ (((u : List ℕ) × (extents : ℕ) × IsBeingEnlarged c.table u extents) ⊎ IsBeingForked c.table) → disks (undone_content c) ≡ disks c
      by (inl none) = ap disks (as_it_was none)
      by (inr (inl k)) = disks_undone_at c k.0 k.1 k.2 table geometry room (undone c.table).sequence
      by (inr (inr k)) = fork_undone_disks c table geometry room s k.0 k.1 k.2 k.3

  pub but_leaf_opened : opened (undone_content c) ≡ opened c
  but_leaf_opened =
      let plain = (let d = but_leaf_undone in d.only) in
      opened_undone c (simple_folding c.table.volumes s.only) (no_folding (undone c.table).volumes plain) (no_making (undone c.table).volumes plain)

  -- ---- whatever a stop leaves while it is undone

  changes_none : making c.table ≡ [] → undo_changes c.table ≡ []
  unfolding undo_changes
  changes_none none = ap (λ ns. elim (head ns) as (λ _. List Change) [ None ↦ [] | Some n ↦ changes_back c.table n ]) none

  all_one : making c.table ≡ [] → (v : VolumeTable) → IsUndoing c.table v → v ≡ c.table
  all_one none v k = k.1 ∙ ap (λ cs. applied_all c.table (take k.0 cs)) (changes_none none) ∙ by k.0
    where
      by : (k : ℕ) → applied_all c.table (take k []) ≡ c.table
      by zero = refl
      by (suc k) = refl

  -- the table, or behind the cut, or without the entry
  abbrev IsStep : (u : List ℕ) (extents : ℕ) → IsBeingEnlarged c.table u extents → VolumeTable → Type 0
  IsStep u extents w v = (v ≡ c.table) ⊎ ((v ≡ cut_table c.table u extents w) ⊎ (v ≡ undone c.table))

  abbrev IsAny : VolumeTable → Type 0
  IsAny v = Unit {0}

  enlarging_run : (u : List ℕ) (extents : ℕ) (w : IsBeingEnlarged c.table u extents) → AllRun c.count (IsStep u extents w) IsAny c.table (undo_changes c.table)
  enlarging_run u extents w =
      subst (AllRun c.count (IsStep u extents w) IsAny c.table) (sym (changes_are c.table u extents w))
      (enlarged_run c.count c.table u extents w (IsStep u extents w) IsAny (inl refl) (inr (inl refl)) [] (inr (inr refl), tt))

  step_of : (u : List ℕ) (extents : ℕ) (w : IsBeingEnlarged c.table u extents) (v : VolumeTable) → IsUndoing c.table v → IsStep u extents w v
  step_of u extents w v k = subst (IsStep u extents w) (sym k.1) (run_taken c.count (IsStep u extents w) IsAny c.table (undo_changes c.table) (enlarging_run u extents w) k.0)

  -- each change is allowed in its turn, and each table is one
  pub but_leaf_permits : AllPermit c.count c.table (undo_changes c.table)
  but_leaf_permits = by either
    where
      by : (making c.table ≡ []) ⊎ (((u : List ℕ) × (extents : ℕ) × IsBeingEnlarged c.table u extents) ⊎ IsBeingForked c.table) → AllPermit c.count c.table (undo_changes c.table)
      by (inl none) = subst (AllPermit c.count c.table) (sym (changes_none none)) tt
      by (inr (inl k)) = run_permits c.count (IsStep k.0 k.1 k.2) IsAny c.table (undo_changes c.table) (enlarging_run k.0 k.1 k.2)
      by (inr (inr k)) = fork_permits c table geometry room s k.0 k.1 k.2 k.3

  pub undoing_table : (v : VolumeTable) → IsUndoing c.table v → IsTable c.count v
  undoing_table v k = subst (IsTable c.count) (sym k.1) (by c.table (undo_changes c.table) k.0 table but_leaf_permits)
    where
      by : (t : VolumeTable) (cs : List Change) (k : ℕ) → IsTable c.count t → AllPermit c.count t cs → IsTable c.count (applied_all t (take k cs))
      by t [] zero is may = is
      by t [] (suc k) is may = is
      by t (x ∷ cs) zero is may = is
      by t (x ∷ cs) (suc k) is may = by (applied t x) cs k (IsTable-applied c.count t x is may.0) may.1

  pub undoing_kept : HasNoEmptySlot c → (v : VolumeTable) (area : ℕ → List ℕ) → IsUndoing c.table v → IsSameArea c area → IsKept (with_table c v area)
  undoing_kept holding v area undoing same = by either
    where
      at : (u : VolumeTable) → v ≡ u → IsKept (with_table c u area) → IsKept (with_table c v area)
      at u is kept = subst (λ x. IsKept (with_table c x area)) (sym is) kept

      step : (u : List ℕ) (extents : ℕ) (w : IsBeingEnlarged c.table u extents) → IsStep u extents w v → IsKept (with_table c v area)
      step u extents w (inl is) = at c.table is (between_kept c u extents w table geometry room s holding c.table area (between_now c u extents w table geometry room) same)
      step u extents w (inr (inl is)) =
          at (cut_table c.table u extents w) is
          (between_kept c u extents w table geometry room s holding (cut_table c.table u extents w) area (between_cut c u extents w table geometry room) same)
      step u extents w (inr (inr is)) = at (undone c.table) is (undone_kept c u extents w table geometry room s holding area same)

      by : (making c.table ≡ []) ⊎ (((u : List ℕ) × (extents : ℕ) × IsBeingEnlarged c.table u extents) ⊎ IsBeingForked c.table) → IsKept (with_table c v area)
      by (inl none) = at c.table (all_one none v undoing) (area_kept c table geometry (simple_is_known c s) area same (simple_well c s.only holding))
      by (inr (inl k)) = step k.0 k.1 k.2 (step_of k.0 k.1 k.2 v undoing)
      by (inr (inr k)) = fork_kept c table geometry room s k.0 k.1 k.2 k.3 holding v area undoing same

  pub undoing_disks : (v : VolumeTable) (area : ℕ → List ℕ) → IsUndoing c.table v → IsSameArea c area → disks (with_table c v area) ≡ disks c
  undoing_disks v area undoing same = by either
    where
      at : (u : VolumeTable) → v ≡ u → disks (with_table c u area) ≡ disks c → disks (with_table c v area) ≡ disks c
      at u is shown = ap (λ x. disks (with_table c x area)) is ∙ shown

      step : (u : List ℕ) (extents : ℕ) (w : IsBeingEnlarged c.table u extents) → IsStep u extents w v → disks (with_table c v area) ≡ disks c
      step u extents w (inl is) = at c.table is (between_disks c u extents w table geometry room c.table area (between_now c u extents w table geometry room) same)
      step u extents w (inr (inl is)) =
          at (cut_table c.table u extents w) is
          (between_disks c u extents w table geometry room (cut_table c.table u extents w) area (between_cut c u extents w table geometry room) same)
      step u extents w (inr (inr is)) = at (undone c.table) is (undone_disks c u extents w table geometry room area same)

      by : (making c.table ≡ []) ⊎ (((u : List ℕ) × (extents : ℕ) × IsBeingEnlarged c.table u extents) ⊎ IsBeingForked c.table) → disks (with_table c v area) ≡ disks c
      by (inl none) = at c.table (all_one none v undoing) (area_disks c table geometry (simple_is_known c s) area same)
      by (inr (inl k)) = step k.0 k.1 k.2 (step_of k.0 k.1 k.2 v undoing)
      by (inr (inr k)) = fork_disks c table geometry room s k.0 k.1 k.2 k.3 v area undoing same

  -- an image that speaks of no fork is as it was, and as hidden
  abbrev pub SpeaksNoFork : Name → Type 0
  SpeaksNoFork n = (disk base twin : List ℕ) → making c.table ≡ Clone disk base twin ∷ [] → is_apart (forked disk base twin) n ≡ true

  pub undoing_images : (v : VolumeTable) (area : ℕ → List ℕ) → IsUndoing c.table v → IsSameArea c area → (n : Name) → SpeaksNoFork n → image_of (with_table c v area) n ≡ image_of c n
  undoing_images v area undoing same n apart = by either
    where
      at : (x : VolumeTable) → v ≡ x → image_of (with_table c x area) n ≡ image_of c n → image_of (with_table c v area) n ≡ image_of c n
      at x is shown = ap (λ y. image_of (with_table c y area) n) is ∙ shown

      still : image_of (with_table c c.table area) n ≡ image_of c n
      still = area_images c table geometry (simple_is_known c s) area same n

      step : (u : List ℕ) (extents : ℕ) (w : IsBeingEnlarged c.table u extents) → IsStep u extents w v → image_of (with_table c v area) n ≡ image_of c n
      step u extents w (inl is) = at c.table is still
      step u extents w (inr (inl is)) =
          let cut = cut_table c.table u extents w in
          at cut is
          (images_enlarging (before_it c u extents w table geometry room) (with_table c cut area) u extents (between_enlarging c u extents w table geometry room cut area (between_cut c u extents w table geometry room) same) n
          ∙ sym (images_enlarging (before_it c u extents w table geometry room) c u extents (now c u extents w table geometry room) n))
      step u extents w (inr (inr is)) = at (undone c.table) is (images_undone_at (with_table c c.table area) u extents w table geometry room (undone c.table).sequence n ∙ still)

      by : (making c.table ≡ []) ⊎ (((u : List ℕ) × (extents : ℕ) × IsBeingEnlarged c.table u extents) ⊎ IsBeingForked c.table) → image_of (with_table c v area) n ≡ image_of c n
      by (inl none) = at c.table (all_one none v undoing) still
      by (inr (inl k)) = step k.0 k.1 k.2 (step_of k.0 k.1 k.2 v undoing)
      by (inr (inr (disk, base, twin, entry))) =
          let part = fork_parts c table geometry room s disk base twin entry v undoing in
          images_apart c disk base twin (n_of c table geometry room s disk base twin entry) table geometry room entry s (its_stage c table geometry room s disk base twin entry) v part.0 part.1 part.2 area same n
          (apart disk base twin entry)

  pub undoing_hidden : (v : VolumeTable) → IsUndoing c.table v → (n : Name) → is_making n ≡ false → SpeaksNoFork n → is_hidden v n ≡ is_hidden c.table n
  undoing_hidden v undoing n no_entry apart = by either
    where
      enlarged : (u : List ℕ) (extents : ℕ) (w : IsBeingEnlarged c.table u extents) (x : VolumeTable) → IsBetween c u extents w table geometry room x → is_hidden x n ≡ is_hidden (undone c.table) n
      enlarged u extents w x between =
          hidden_alike (outline (before_it c u extents w table geometry room)) x u extents (between_enlarging c u extents w table geometry room x c.area between (λ p below. refl)).table n
          (λ is. true≢false (sym (ap is_making is) ∙ no_entry))

      step : (u : List ℕ) (extents : ℕ) (w : IsBeingEnlarged c.table u extents) → IsStep u extents w v → is_hidden v n ≡ is_hidden c.table n
      step u extents w (inl is) = ap (λ x. is_hidden x n) is
      step u extents w (inr (inl is)) =
          ap (λ x. is_hidden x n) is ∙ enlarged u extents w (cut_table c.table u extents w) (between_cut c u extents w table geometry room) ∙ sym (enlarged u extents w c.table (between_now c u extents w table geometry room))
      step u extents w (inr (inr is)) = ap (λ x. is_hidden x n) is ∙ sym (enlarged u extents w c.table (between_now c u extents w table geometry room))

      by : (making c.table ≡ []) ⊎ (((u : List ℕ) × (extents : ℕ) × IsBeingEnlarged c.table u extents) ⊎ IsBeingForked c.table) → is_hidden v n ≡ is_hidden c.table n
      by (inl none) = ap (λ x. is_hidden x n) (all_one none v undoing)
      by (inr (inl k)) = step k.0 k.1 k.2 (step_of k.0 k.1 k.2 v undoing)
      by (inr (inr (disk, base, twin, entry))) =
          let part = fork_parts c table geometry room s disk base twin entry v undoing in
          ap (of_row (λ r. r.hidden && not r.fresh)) (part.2.apart n (apart disk base twin entry))
