-- What a stop leaves while a log is made between two steps, and what is known once it is made.
use Rattle.std.proofs.Common.{◌≡◌, ◌≢◌, ◌⊎◌, inl, inr, ⊎_elim, ℕ, ◌<◌, true, false, List, length, Option, Some, None, refl, sym, ap, ◌∙◌, subst, subst₂, arith}
use Rattle.std.proofs.lemmas.Bool.{true≢false}
use Rattle.std.proofs.lemmas.Option.{same_Some}
use Rattle.common_laws.proofs.Bytes.{same_or_not}
use Rattle.sm_base.specs.Kinds.{is_log}
use Rattle.sm_base.specs.declared.names.Name.{Name}
use Rattle.sm_base.specs.declared.names.Name.TheVariants.{Cbt}
use Rattle.sm_cbt.proofs.MakeLaws.{all_in}
use Rattle.sm_cbt.proofs.SpellLaws.{spells_same}
use Rattle.sm_cbt.specs.Making.{AsReadBeside, FailsToMake, IsMaking, Makes, Spells, WritesOnly, begun_table, made_table}
use Rattle.sm_disk.proofs.HeldLaws.{may_settled}
use Rattle.sm_disk.specs.Held.{Keeps, reads}
use Rattle.sm_log.specs.Logs.{Log, log_of, with_log}
use Rattle.sm_log_rows.proofs.DroppedLaws.{apart_itself}
use Rattle.sm_log_rows.specs.LogRows.{AreApartFromLogs}
use Rattle.sm_standing.proofs.WorldLaws.{spot_below}
use Rattle.sm_standing.specs.Contents.{Content, sectors_of}
use Rattle.sm_standing.specs.Keeping.{IsKept}
use Rattle.sm_standing.specs.Logs.{IsLogOf, IsLogged}
use Rattle.sm_standing.specs.Standing.{disks}
use Rattle.vg_meta.proofs.ByName.{spread}
use Rattle.vg_meta.specs.Changes.{made}
use Rattle.vg_meta.specs.Tables.{IsTable, Row, VolumeTable, extents_of, rows}
use Rattle.vg_volumes.proofs.ApartLaws.{elsewhere}
use Rattle.vg_volumes.proofs.SpotLaws.{spot_below as spot_of_all}
use Rattle.vg_volumes.proofs.VolumeLaws.{volume_reads}
use Rattle.vg_volumes.specs.Sites.{Site, area_size, size_of, volume_of}
use Rattle.vg_volumes.specs.Stored.{IsChoiceOf, OnlyReads, Stored, stored}
use Rattle.vg_volumes.specs.Volumes.{IsElsewhere, piece, span, spot, volume}
use Rattle.vg_volumes.specs.declared.stores.Store.{Ghosts}
use Rattle.sm_ready.proofs.AfterLaws.{spots_keep}
use Rattle.sm_ready.proofs.ChainLaws.{might_show, stored_same, tab}
use Rattle.sm_ready.proofs.LeftLaws.{extent_some, left_now}
use Rattle.sm_ready.proofs.LogLaws.{logged_one, none_yet, spelled_here}
use Rattle.sm_ready.proofs.LogStores.{logs_told}
use Rattle.sm_ready.proofs.RowLaws.{found_in}
use Rattle.sm_ready.proofs.TakenLaws.{IsTold, held_same}
use Rattle.sm_ready.specs.Known.{known}
use Rattle.sm_ready.specs.Ready.{IsReady}
use Rattle.sm_ready.specs.Stores.{MayShow, StoreLeaves, content_in, content_now, store_content}
use Rattle.sm_ready.specs.declared.memory.Memory.{Memory}
use Rattle.sm_tracking.proofs.ApartLaws.{AreBeside, disks_beside, kept_beside}
use Rattle.sm_tracking.proofs.MadeLaws.{IsToLog, apart_begun, begun_is_table, begun_others, begun_row, may_make, one_log}
use Rattle.sm_tracking.proofs.OrderLaws.{with_known}
use Rattle.sm_tracking.proofs.ReadyLaws.{KeepsVolumes, ready_beside, shown_beside}
use Rattle.sm_tracking.proofs.SpelledLaws.{read_spelled}
use Rattle.sm_tracking.proofs.StopLaws.{choice_kept, choice_logged, choice_shown, kept_safe, no_log_apart}
use Rattle.sm_tracking.proofs.TwinLaws.{other_with, own_with}
use Rattle.sm_tracking.specs.Tracking.{AreBetween, HasChangedLogs, IsLoggedBetween}

-- ---- a call that only read, and failed

module _ {S : Type 0} {g : Ghosts S} {a b : S} {m : Memory} (h : IsTold g a m) where
  same_store : OnlyReads g a b → stored g b ≡ stored g a
  same_store only = stored_same only (held_same (g.area a) (g.area b) (only.held h.told))

  read_choice : OnlyReads g a b → ((v : VolumeTable) (image : ℕ → List ℕ) → g.leaves b v image → g.leaves a v image) → (v : VolumeTable) (image : ℕ → List ℕ) → StoreLeaves g b v image → IsChoiceOf (stored g a) v image
  read_choice only fewer v image left = ⊎_elim (λ at. h.now v image (fewer v image at)) (λ w. subst (λ (y : Stored). IsChoiceOf y v image) (same_store only) w.2) left

  pub reads_tracked : (n : Memory) (ok : Type 0) (ls : List Log) → (ok → ⊥) → OnlyReads g a b → ((v : VolumeTable) (image : ℕ → List ℕ) → g.leaves b v image → g.leaves a v image) → HasChangedLogs g a m b n ls ok
  reads_tracked n ok ls never only fewer = record {
    ready = λ fine. absurd (never fine);
    settled = λ fine. absurd (never fine);
    shown = ap (λ (y : Stored). disks (content_now y.site y.table y.area)) (same_store only);
    crash = λ v image left. (let i = read_choice only fewer v image left in (choice_kept h v image i, choice_shown h v image i));
    logged = λ v image left u. (log_of u m.logs, choice_logged h v image (read_choice only fewer v image left) u, inl refl);
  }

  -- of a disk without a log a stop leaves none
  pub reads_unlogged : (u : List ℕ) → log_of u m.logs ≡ None → OnlyReads g a b → ((v : VolumeTable) (image : ℕ → List ℕ) → g.leaves b v image → g.leaves a v image) → (v : VolumeTable) (image : ℕ → List ℕ) → StoreLeaves g b v image
      → IsLogOf (content_in (g.site a) v image) u None
  reads_unlogged u none only fewer v image left = subst (IsLogOf (content_in (g.site a) v image) u) none (choice_logged h v image (read_choice only fewer v image left) u)

module _ {S : Type 0} {g : Ghosts S} {a : S} {m : Memory} {l : Log} {es : List ℕ} (h : IsTold g a m) (x : IsToLog (g.site a) (tab g a) (known m) l es) where
  abbrev s : Site
  s = g.site a

  abbrev t : VolumeTable
  t = tab g a

  abbrev after : VolumeTable
  after = made_table t l es

  abbrev more : List Log
  more = with_log l m.logs

  own_more : log_of l.disk more ≡ Some l
  own_more = own_with l m.logs x.absent

  -- a place of another volume is none of the log's
  away : (v : VolumeTable) → IsTable s.count v → ((n : Name) → n ≢ Cbt l.disk → rows v n ≡ rows t n) → extents_of (rows v (Cbt l.disk)) ≡ es
      → (n : Name) → n ≢ Cbt l.disk → (p : ℕ) → p < size_of s t n → IsElsewhere s.geometry.extent es (spot s.geometry.extent (extents_of (rows t n)) p)
  away v table others own n other p below =
      let same : rows v n ≡ rows t n = others n other in
      let in_now : p < size_of s v n = subst (λ (r : Option Row). p < span s.geometry.extent (extents_of r)) (sym same) below in
      subst₂ (λ (us vs : List ℕ). IsElsewhere s.geometry.extent us (spot s.geometry.extent vs p)) own (ap extents_of same)
      (elsewhere s.count s.geometry.extent (rows v) (Cbt l.disk) n p (spread s.count v table) (extent_some s t (known m) h.orderly) other in_now)

  in_area : (n : Name) (p : ℕ) → p < size_of s t n → spot s.geometry.extent (extents_of (rows t n)) p < area_size s
  in_area n p below = spot_below s.count s.geometry.extent (rows t) n p (spread s.count t h.orderly.table) (extent_some s t (known m) h.orderly) below

  abbrev Stops : VolumeTable → (ℕ → List ℕ) → Type 0
  Stops v image = IsKept (content_in s v image) × MayShow s (StoreLeaves g a) (disks (content_in s v image)) × IsLoggedBetween (content_in s v image) m.logs more
      × (IsLogOf (content_in s v image) l.disk None ⊎ (0 < v.sequence))

  -- ---- a table with the log's volume on these extents, and all else as a read gives it

  module _ (v : VolumeTable) (image : ℕ → List ℕ) (tables : AreApartFromLogs t v) (table : IsTable s.count v) (others : (n : Name) → n ≢ Cbt l.disk → rows v n ≡ rows t n)
      (own : extents_of (rows v (Cbt l.disk)) ≡ es) (as_read : AsReadBeside (stored g a) es image) where
    abbrev now : Content
    now = content_in s v image

    sector_at : (n : Name) → n ≢ Cbt l.disk → (p : ℕ) → p < size_of s t n → sectors_of now n p ≡ sectors_of (store_content g a) n p
    unfolding sectors_of piece
    sector_at n other p below =
        ap (λ (r : Option Row). image (spot s.geometry.extent (extents_of r) p)) (others n other)
        ∙ as_read (spot s.geometry.extent (extents_of (rows t n)) p) (in_area n p below) (away v table others own n other p below)

    beside : AreBeside s t v (reads (g.area a)) image
    beside = record { tables = tables; sectors = λ n no_log p below. sector_at n (no_log_apart n l.disk no_log) p below }

    stop_kept : IsKept now
    stop_kept = kept_beside h.orderly beside ((kept_safe h).kept (reads (g.area a)) (left_now s (g.area a)))

    stop_shown : MayShow s (StoreLeaves g a) (disks now)
    stop_shown = subst (MayShow s (StoreLeaves g a)) (sym (disks_beside h.orderly beside)) (might_show g h.usable h.told)

    -- the log of another disk
    other_log : (w : List ℕ) → w ≢ l.disk → IsLogOf now w (log_of w m.logs)
    other_log w apart =
        let other : Cbt w ≢ Cbt l.disk = λ e. apart (let z : w ≡ l.disk = cc in z) in
        logged_one (logs_told h) v table image w (others (Cbt w) other) (λ p below. sector_at (Cbt w) other p below)

    pub stops : IsLogOf now l.disk None ⊎ IsLogOf now l.disk (Some l) → IsLogOf now l.disk None ⊎ (0 < v.sequence) → Stops v image
    stops its numbered = (
      stop_kept,
      stop_shown,
      λ w. ⊎_elim
          (λ is. subst (λ (y : List ℕ). (o : Option Log) × IsLogOf now y o × ((o ≡ log_of y m.logs) ⊎ ((o ≡ log_of y more) ⊎ AreBetween (log_of y m.logs) (log_of y more) o))) (sym is)
          (⊎_elim (λ none. (None, none, inl (sym x.absent))) (λ whole. (Some l, whole, inr (inl (sym own_more)))) its))
          (λ apart. (log_of w m.logs, other_log w apart, inl refl)) (same_or_not w l.disk),
      numbered,
    )

    pub all_logged : IsLogOf now l.disk (Some l) → IsLogged now more
    all_logged its w = ⊎_elim
        (λ is. subst (λ (y : List ℕ). IsLogOf now y (log_of y more)) (sym is) (subst (IsLogOf now l.disk) (sym own_more) its))
        (λ apart. subst (IsLogOf now w) (sym (other_with w l m.logs apart)) (other_log w apart)) (same_or_not w l.disk)

    -- the log, while its volume is new, and once it is whole
    pub log_new : rows v (Cbt l.disk) ≡ Some (made (Cbt l.disk) true es) → IsLogOf now l.disk None
    log_new there = record {
      read = none_yet now l.disk (made (Cbt l.disk) true es) there refl;
      there = λ r i named full. absurd (true≢false (ap (λ (q : Row). q.fresh) (same_Some _ _ (sym there ∙ ap (rows v) (sym named) ∙ found_in v.volumes table.volumes.rising r i)) ∙ full));
    }

    pub log_whole : rows v (Cbt l.disk) ≡ Some (made (Cbt l.disk) false es) → Spells l (piece s.geometry.extent es image) → IsLogOf now l.disk (Some l)
    unfolding sectors_of
    log_whole there spells = record {
      read = spelled_here now l.disk (made (Cbt l.disk) false es) there refl
          ∙ read_spelled l.disk (length es) (sectors_of now (Cbt l.disk)) l refl x.long (subst (λ (r : Option Row). Spells l (piece s.geometry.extent (extents_of r) image)) (sym there) spells);
      there = λ r i named full. refl;
    }

  -- ---- while it is made

  at_choice : (v : VolumeTable) (image : ℕ → List ℕ) → IsChoiceOf (stored g a) v image → Stops v image
  at_choice v image i = (
    choice_kept h v image i,
    choice_shown h v image i,
    λ w. (log_of w m.logs, choice_logged h v image i w, inl refl),
    inl (subst (IsLogOf (content_in s v image) l.disk) x.absent (choice_logged h v image i l.disk)),
  )

  at_begun : (image : ℕ → List ℕ) → AsReadBeside (stored g a) es image → Stops (begun_table t l es) image
  at_begun image beside =
      let own = ap extents_of (begun_row x) in
      let none = log_new (begun_table t l es) image (apart_begun x) (begun_is_table x) (begun_others x) own beside (begun_row x) in
      stops (begun_table t l es) image (apart_begun x) (begun_is_table x) (begun_others x) own beside (inl none) (inl none)

  abbrev WithLog : (ℕ → List ℕ) → Type 0
  WithLog image = Stops after image × IsLogged (content_in s after image) more

  at_made : (image : ℕ → List ℕ) → AsReadBeside (stored g a) es image → Spells l (piece s.geometry.extent es image) → WithLog image
  at_made image beside spells =
      let o = one_log x in
      let own = ap extents_of o.there in
      let its = log_whole after image o.tables o.table o.others own beside o.there spells in
      (stops after image o.tables o.table o.others own beside (inr its) (inr raised), all_logged after image o.tables o.table o.others own beside its)
    where
      raised : 0 < after.sequence
      raised = omega arith

  pub at_stop : (v : VolumeTable) (image : ℕ → List ℕ) → IsMaking (stored g a) l es v image → Stops v image
  at_stop v image (inl choice) = at_choice v image choice
  at_stop v image (inr (inl begun)) = subst (λ (y : VolumeTable). Stops y image) (sym begun.table) (at_begun image begun.beside)
  at_stop v image (inr (inr whole)) = subst (λ (y : VolumeTable). Stops y image) (sym whole.table) (at_made image whole.beside whole.spells).0

  -- whatever a stop leaves, where the store says so of itself, and where no commit failed
  pub left_making : {b : S} → ((v : VolumeTable) (image : ℕ → List ℕ) → g.leaves b v image → IsMaking (stored g a) l es v image)
      → (g.failed b ≡ false → (v : VolumeTable) (image : ℕ → List ℕ) → IsChoiceOf (stored g b) v image → Stops v image)
      → (v : VolumeTable) (image : ℕ → List ℕ) → StoreLeaves g b v image → Stops v image
  left_making {b} says choice v image left = ⊎_elim (λ at. at_stop v image (says v image at)) (λ w. choice w.1 v image w.2) left

  -- ---- the other volumes, and the disks

  away_made : (n : Name) → n ≢ Cbt l.disk → (p : ℕ) → p < size_of s t n → IsElsewhere s.geometry.extent es (spot s.geometry.extent (extents_of (rows t n)) p)
  away_made = let o = one_log x in away after o.table o.others (ap extents_of o.there)

  module _ {b : S} (w : WritesOnly g es a b) where
    pub keeps_at : (n : Name) → n ≢ Cbt l.disk → Keeps (volume s.geometry.extent (extents_of (rows t n)) (g.area a)) (volume s.geometry.extent (extents_of (rows t n)) (g.area b))
    keeps_at n other = spots_keep s.geometry.extent (extents_of (rows t n)) (λ p. IsElsewhere s.geometry.extent es p) (g.area a) (g.area b) (w.elsewhere h.told) (λ p below. away_made n other p below)

    pub volumes : (v : VolumeTable) → ((n : Name) → is_log n ≡ false → rows v n ≡ rows t n) → KeepsVolumes s t v (g.area a) (g.area b)
    volumes v same n no_log = subst (λ (r : Option Row). Keeps (volume_of s t (g.area a) n) (volume s.geometry.extent (extents_of r) (g.area b))) (sym (same n no_log)) (keeps_at n (no_log_apart n l.disk no_log))

    pub shown_still : (tab g b ≡ t) ⊎ ((tab g b ≡ begun_table t l es) ⊎ (tab g b ≡ after)) → disks (store_content g b) ≡ disks (store_content g a)
    shown_still table =
        ap (λ (y : Site). disks (content_now y (tab g b) (g.area b))) w.site
        ∙ ⊎_elim (λ is. by t is (apart_itself t)) (⊎_elim (λ is. by (begun_table t l es) is (apart_begun x)) (λ is. by after is (one_log x).tables)) table
      where
        by : (y : VolumeTable) → tab g b ≡ y → AreApartFromLogs t y → disks (content_now s (tab g b) (g.area b)) ≡ disks (content_now s t (g.area a))
        by y is tables = ap (λ (z : VolumeTable). disks (content_now s z (g.area b))) is ∙ shown_beside (g.area a) (g.area b) h.orderly tables (volumes y tables.same)

  -- the making failed
  pub fails_tracked : {b : S} (n : Memory) (ok : Type 0) → (ok → ⊥) → ((v : VolumeTable) (image : ℕ → List ℕ) → g.leaves b v image → IsMaking (stored g a) l es v image) → FailsToMake g l es a b
      → HasChangedLogs g a m b n more ok
  fails_tracked {b} n ok never says fails =
      let left = left_making says (λ usable v image i. at_stop v image (fails.choice h.told usable v image i)) in
      record {
        ready = λ fine. absurd (never fine);
        settled = λ fine. absurd (never fine);
        shown = shown_still fails.writes (⊎_elim inl (λ e. inr (inl e)) fails.table);
        crash = λ v image i. (let w = left v image i in (w.0, w.1));
        logged = λ v image i. (left v image i).2;
      }

  pub fails_numbered : {b : S} → ((v : VolumeTable) (image : ℕ → List ℕ) → g.leaves b v image → IsMaking (stored g a) l es v image) → FailsToMake g l es a b
      → (v : VolumeTable) (image : ℕ → List ℕ) → StoreLeaves g b v image → IsLogOf (content_in s v image) l.disk None ⊎ (0 < v.sequence)
  fails_numbered {b} says fails v image i = (left_making says (λ usable w j c. at_stop w j (fails.choice h.told usable w j c)) v image i).3

  -- ---- once it is made

  module _ {b : S} (k : Makes g l es a b) where
    -- an image that has what a read gives
    at_end : (image : ℕ → List ℕ) → ((p : ℕ) → p < area_size s → image p ≡ reads (g.area b) p) → WithLog image
    unfolding piece
    at_end image same = at_made image (λ p below elsewhere. same p below ∙ (k.writes.elsewhere h.told).reads p elsewhere)
        (spells_same l (reads (volume s.geometry.extent es (g.area b))) (piece s.geometry.extent es image)
        (λ q low.
        let below : q < span s.geometry.extent es = omega (arith, low, (may_make x).sectors) in
        same (spot s.geometry.extent es q) (spot_of_all q (all_in s.count s.geometry.extent t.volumes es x.extents_free) below) ∙ sym (volume_reads s.geometry.extent es (g.area b) q below))
        (subst (λ (r : Option Row). Spells l (reads (volume s.geometry.extent (extents_of r) (g.area b)))) (one_log x).there
        (subst₂ (λ (y : Site) (v : VolumeTable). Spells l (reads (volume_of y v (g.area b) (Cbt l.disk)))) k.writes.site k.table (k.spells h.told))))

    -- what a stop leaves behind it
    choice_behind : (v : VolumeTable) (image : ℕ → List ℕ) → IsChoiceOf (stored g b) v image → Stops v image
    choice_behind v image i = subst (λ (y : VolumeTable). Stops y image) (sym (i.table_is ∙ k.table))
        (at_end image (λ p below. may_settled (g.area b) p (image p) (k.settled h.told p) (i.sectors p (subst (λ (y : Site). p < area_size y) (sym k.writes.site) below)))).0

    pub makes_tracked : (n : Memory) (ok : Type 0) → known n ≡ with_known more (known m) → ((v : VolumeTable) (image : ℕ → List ℕ) → g.leaves b v image → IsMaking (stored g a) l es v image)
        → HasChangedLogs g a m b n more ok
    makes_tracked n ok memory says =
        let left = left_making says (λ usable. choice_behind) in
        record {
          ready = λ fine. subst₂ (λ (y : Site) (v : VolumeTable). IsReady y v (g.area b) (known n)) (sym k.writes.site) (sym k.table)
              (subst (IsReady s after (g.area b)) (sym memory) (ready_beside (g.area a) (g.area b) h.orderly (one_log x).tables (volumes k.writes after (one_log x).tables.same) h.ready (k.settled h.told) more
              (at_end (reads (g.area b)) (λ p below. refl)).1));
          settled = λ fine was. k.settled h.told;
          shown = shown_still k.writes (inr (inr k.table));
          crash = λ v image i. (let w = left v image i in (w.0, w.1));
          logged = λ v image i. (left v image i).2;
        }

    pub makes_numbered : ((v : VolumeTable) (image : ℕ → List ℕ) → g.leaves b v image → IsMaking (stored g a) l es v image)
        → (v : VolumeTable) (image : ℕ → List ℕ) → StoreLeaves g b v image → IsLogOf (content_in s v image) l.disk None ⊎ (0 < v.sequence)
    makes_numbered says v image i = (left_making says (λ usable. choice_behind) v image i).3
