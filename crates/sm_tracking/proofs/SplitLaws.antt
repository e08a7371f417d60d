-- What a stop leaves while a log is split between two steps, and what is known once it is split.
use Rattle.std.proofs.Common.{◌≡◌, ◌≢◌, ◌⊎◌, inl, inr, ⊎_elim, ℕ, ◌*◌, ◌<◌, ◌≤◌, Bool, true, false, List, length, Option, Some, None, refl, sym, ap, ap₂, ◌∙◌, subst, subst₂, arith}
use Rattle.std.proofs.lemmas.Bool.{true≢false}
use Rattle.std.proofs.lemmas.List.{length-replicate}
use Rattle.std.proofs.lemmas.Option.{same_Some}
use Rattle.common_laws.proofs.Bytes.{same_or_not}
use Rattle.sm_base.specs.declared.names.Name.{Name}
use Rattle.sm_base.specs.declared.names.Name.TheVariants.{Cbt}
use Rattle.sm_cbt.proofs.SpellLaws.{spells_same}
use Rattle.sm_cbt.proofs.MakeLaws.{all_in}
use Rattle.sm_cbt.specs.Making.{AsReadBeside, Spells, begun_table}
use Rattle.sm_cbt.specs.Splitting.{FailsToSplit, IsInSplit, IsSplitting, LeavesEitherHead, LeavesNewHead, Splits, WritesBoth}
use Rattle.sm_disk.proofs.HeldLaws.{may_settled}
use Rattle.sm_disk.specs.Held.{reads}
use Rattle.sm_log.specs.Logs.{Log, begun_anew, log_of, log_sectors}
use Rattle.sm_log_rows.specs.LogRows.{AreApartFromLogs}
use Rattle.sm_log_rows.proofs.DroppedLaws.{apart_itself}
use Rattle.sm_standing.specs.Contents.{Content, sectors_of}
use Rattle.sm_standing.specs.Keeping.{IsKept}
use Rattle.sm_standing.specs.Logs.{IsLogOf, IsLogged, log_read}
use Rattle.sm_standing.specs.Standing.{disks}
use Rattle.vg_meta.specs.Changes.{made}
use Rattle.vg_meta.specs.Tables.{IsTable, Row, VolumeTable, extents_of, rows}
use Rattle.vg_volumes.proofs.SpotLaws.{spot_below as spot_of_all}
use Rattle.vg_volumes.proofs.VolumeLaws.{volume_reads}
use Rattle.vg_volumes.specs.Sites.{Site, area_size, size_of, volume_of}
use Rattle.vg_volumes.specs.Stored.{IsChoiceOf, held_in, sectors_in, stored}
use Rattle.vg_volumes.specs.Volumes.{piece, span, spot, volume}
use Rattle.vg_volumes.specs.declared.stores.Store.{Ghosts}
use Rattle.sm_ready.proofs.ChainLaws.{might_show, tab}
use Rattle.sm_ready.proofs.LeftLaws.{left_now, now_sector, size_there}
use Rattle.sm_ready.proofs.LogLaws.{logged_one, none_yet, spelled_here}
use Rattle.sm_ready.proofs.LogStores.{logs_told}
use Rattle.sm_ready.proofs.RowLaws.{found_in}
use Rattle.sm_ready.proofs.TakenLaws.{IsTold}
use Rattle.sm_ready.specs.Known.{known}
use Rattle.sm_ready.specs.Ready.{IsReady}
use Rattle.sm_ready.specs.Stores.{MayShow, StoreLeaves, content_in, content_now, store_content}
use Rattle.sm_ready.specs.declared.memory.Memory.{Memory}
use Rattle.sm_tracking.proofs.AnewLaws.{IsToSplit, logs_split, to_log}
use Rattle.sm_tracking.proofs.ApartLaws.{AreBeside, disks_beside, kept_beside}
use Rattle.sm_tracking.proofs.MadeLaws.{apart_begun, begun_is_table, begun_others, begun_row, may_make, one_log}
use Rattle.sm_tracking.proofs.OrderLaws.{with_known}
use Rattle.sm_tracking.proofs.PlaceLaws.{away_both, away_made, away_new, in_area, its_row, made_t, own_in, own_other, row_there, volumes}
use Rattle.sm_tracking.proofs.OwnLaws.{HasBegunAnew, IsReadAnew, cleared_bit, read_anew}
use Rattle.sm_tracking.proofs.SpelledLaws.{read_spelled, spelled_read}
use Rattle.sm_tracking.proofs.ReadyLaws.{ready_beside, shown_beside}
use Rattle.sm_tracking.proofs.StopLaws.{choice_kept, choice_logged, choice_shown, kept_safe, no_log_apart}
use Rattle.sm_tracking.proofs.TwinLaws.{changed_found, else_found, twin_found}
use Rattle.sm_tracking.specs.Tracking.{AreBetween, HasChangedLogs, IsLogBetween, IsLoggedBetween, IsSplitInOrder}

-- a log that begins anew is between that from before and that from after
anew_between : (tag : ℕ) (own now : Log) → HasBegunAnew tag own now → IsLogBetween own (begun_anew tag own) now
anew_between tag own now h = record {
  disk = h.disk;
  extents = h.extents;
  tag = h.tag_stays;
  since = h.since;
  pieces = h.pieces;
  bits = λ k below. ⊎_elim inl (λ cleared. inr (cleared ∙ sym (cleared_bit (length own.bits) k))) (h.bits k below);
}

module _ {S : Type 0} {g : Ghosts S} {a : S} {m : Memory} {u : List ℕ} {own twin : Log} {es : List ℕ} (h : IsTold g a m) (x : IsToSplit (g.site a) (tab g a) (known m) u own twin es) where
  abbrev s : Site
  s = g.site a

  abbrev t : VolumeTable
  t = tab g a

  abbrev anew : Log
  anew = begun_anew twin.tag own

  abbrev final : List Log
  final = logs_split x

  -- where the logs end
  twin_final : log_of twin.disk final ≡ Some twin
  twin_final = twin_found u twin own (begun_anew twin.tag) m.logs (λ l. refl) x.found x.absent

  own_final : log_of u final ≡ Some anew
  own_final = changed_found u twin own (begun_anew twin.tag) m.logs (λ l. refl) x.found x.absent

  else_final : (v : List ℕ) → v ≢ u → v ≢ twin.disk → log_of v final ≡ log_of v m.logs
  else_final = else_found u twin own (begun_anew twin.tag) m.logs (λ l. refl) x.found x.absent

  -- what the disk's log was read off
  size_own : sectors_in (stored g a) (Cbt u) ≡ own.extents * s.geometry.extent
  size_own = size_there s t (Cbt u) (its_row g a m x).row (row_there g a m x) ∙ ap (λ (n : ℕ). n * s.geometry.extent) (its_row g a m x).long

  room_own : log_sectors (length own.bits) ≤ sectors_in (stored g a) (Cbt u)
  room_own = subst (λ (n : ℕ). log_sectors (length own.bits) ≤ n) (sym size_own) (h.orderly.log_room own (own_in g a m x).0)

  was_spelled : Spells own (reads (held_in (stored g a) (Cbt u)))
  was_spelled =
      let read : log_read u (length (its_row g a m x).row.extents) (sectors_of (store_content g a) (Cbt u)) ≡ Some own =
      sym (spelled_here (store_content g a) u (its_row g a m x).row (row_there g a m x) (its_row g a m x).filled) ∙ (h.ready.logs u).read ∙ x.found in
      spells_same own (sectors_of (store_content g a) (Cbt u)) (reads (held_in (stored g a) (Cbt u)))
      (λ q low. sym (now_sector s t (g.area a) (Cbt u) q (let room = room_own in omega (arith, low, room)))) (spelled_read u (length (its_row g a m x).row.extents) (sectors_of (store_content g a) (Cbt u)) own read).spells

  -- ---- a table with the twin's volume on these extents

  abbrev Stops : VolumeTable → (ℕ → List ℕ) → Type 0
  Stops v image = IsKept (content_in s v image) × MayShow s (StoreLeaves g a) (disks (content_in s v image)) × IsLoggedBetween (content_in s v image) m.logs final
      × IsSplitInOrder (content_in s v image) u twin.disk m.logs final

  -- each volume but these has in an image what a read gave
  abbrev AsRead : (Name → Type 0) → (ℕ → List ℕ) → Type 0
  AsRead Other image = (n : Name) → Other n → (p : ℕ) → p < size_of s t n → image (spot s.geometry.extent (extents_of (rows t n)) p) ≡ reads (g.area a) (spot s.geometry.extent (extents_of (rows t n)) p)

  module _ (v : VolumeTable) (image : ℕ → List ℕ) (tables : AreApartFromLogs t v) (table : IsTable s.count v) (others : (n : Name) → n ≢ Cbt twin.disk → rows v n ≡ rows t n)
      (as_read : AsRead (λ n. (n ≢ Cbt twin.disk) × (n ≢ Cbt u)) image) where
    abbrev now : Content
    now = content_in s v image

    sector_at : (n : Name) → n ≢ Cbt twin.disk → (p : ℕ) → p < size_of s t n
        → image (spot s.geometry.extent (extents_of (rows t n)) p) ≡ reads (g.area a) (spot s.geometry.extent (extents_of (rows t n)) p) → sectors_of now n p ≡ sectors_of (store_content g a) n p
    unfolding sectors_of piece
    sector_at n other p below is = ap (λ (r : Option Row). image (spot s.geometry.extent (extents_of r) p)) (others n other) ∙ is

    beside : AreBeside s t v (reads (g.area a)) image
    beside = record { tables = tables; sectors = λ n no_log p below. sector_at n (no_log_apart n twin.disk no_log) p below (as_read n (no_log_apart n twin.disk no_log, no_log_apart n u no_log) p below) }

    stop_kept : IsKept now
    stop_kept = kept_beside h.orderly beside ((kept_safe h).kept (reads (g.area a)) (left_now s (g.area a)))

    stop_shown : MayShow s (StoreLeaves g a) (disks now)
    stop_shown = subst (MayShow s (StoreLeaves g a)) (sym (disks_beside h.orderly beside)) (might_show g h.usable h.told)

    -- the log of another disk
    other_log : (w : List ℕ) → w ≢ twin.disk → w ≢ u → IsLogOf now w (log_of w m.logs)
    other_log w away far =
        let one : Cbt w ≢ Cbt twin.disk = λ e. away (let z : w ≡ twin.disk = cc in z) in
        let two : Cbt w ≢ Cbt u = λ e. far (let z : w ≡ u = cc in z) in
        logged_one (logs_told h) v table image w (others (Cbt w) one) (λ p below. sector_at (Cbt w) one p below (as_read (Cbt w) (one, two) p below))

    -- the disk's log stands as before, or the twin's stands
    in_order : IsLogOf now u (log_of u m.logs) ⊎ IsLogOf now twin.disk (Some twin) → IsSplitInOrder now u twin.disk m.logs final
    in_order order = ⊎_elim (λ same. inl same) (λ whole. inr (subst (IsLogOf now twin.disk) (sym twin_final) whole)) order

    -- so all of them, by the logs of the two
    pub stops : IsLogOf now twin.disk None ⊎ IsLogOf now twin.disk (Some twin) → (o : Option Log) × IsLogOf now u o × ((o ≡ log_of u m.logs) ⊎ ((o ≡ log_of u final) ⊎ AreBetween (log_of u m.logs) (log_of u final) o))
        → IsLogOf now u (log_of u m.logs) ⊎ IsLogOf now twin.disk (Some twin) → Stops v image
    stops its own_log order = (
      stop_kept,
      stop_shown,
      λ w. ⊎_elim
          (λ is. subst (λ (y : List ℕ). (o : Option Log) × IsLogOf now y o × ((o ≡ log_of y m.logs) ⊎ ((o ≡ log_of y final) ⊎ AreBetween (log_of y m.logs) (log_of y final) o))) (sym is)
          (⊎_elim (λ none. (None, none, inl (sym x.absent))) (λ whole. (Some twin, whole, inr (inl (sym twin_final)))) its))
          (λ away. ⊎_elim
          (λ is. subst (λ (y : List ℕ). (o : Option Log) × IsLogOf now y o × ((o ≡ log_of y m.logs) ⊎ ((o ≡ log_of y final) ⊎ AreBetween (log_of y m.logs) (log_of y final) o))) (sym is) own_log)
          (λ far. (log_of w m.logs, other_log w away far, inl refl)) (same_or_not w u))
          (same_or_not w twin.disk),
      in_order order,
    )

    pub final_logged : IsLogOf now twin.disk (Some twin) → IsLogOf now u (Some anew) → IsLogged now final
    final_logged its mine w = ⊎_elim
        (λ is. subst (λ (y : List ℕ). IsLogOf now y (log_of y final)) (sym is) (subst (IsLogOf now twin.disk) (sym twin_final) its))
        (λ away. ⊎_elim
        (λ is. subst (λ (y : List ℕ). IsLogOf now y (log_of y final)) (sym is) (subst (IsLogOf now u) (sym own_final) mine))
        (λ far. subst (IsLogOf now w) (sym (else_final w far away)) (other_log w away far)) (same_or_not w u))
        (same_or_not w twin.disk)

    -- the twin's log, while its volume is new, and once it is whole
    pub twin_new : rows v (Cbt twin.disk) ≡ Some (made (Cbt twin.disk) true es) → IsLogOf now twin.disk None
    twin_new there = record {
      read = none_yet now twin.disk (made (Cbt twin.disk) true es) there refl;
      there = λ r i named full. absurd (true≢false (ap (λ (q : Row). q.fresh) (same_Some _ _ (sym there ∙ ap (rows v) (sym named) ∙ found_in v.volumes table.volumes.rising r i)) ∙ full));
    }

    pub twin_whole : rows v (Cbt twin.disk) ≡ Some (made (Cbt twin.disk) false es) → Spells twin (piece s.geometry.extent es image) → IsLogOf now twin.disk (Some twin)
    unfolding sectors_of
    twin_whole there spells = record {
      read = spelled_here now twin.disk (made (Cbt twin.disk) false es) there refl
          ∙ read_spelled twin.disk (length es) (sectors_of now (Cbt twin.disk)) twin refl x.long (subst (λ (r : Option Row). Spells twin (piece s.geometry.extent (extents_of r) image)) (sym there) spells);
      there = λ r i named full. refl;
    }

    -- the disk's log, by what its volume spells
    pub own_whole : (l : Log) → log_read own.disk own.extents (piece s.geometry.extent (extents_of (rows t (Cbt u))) image) ≡ Some l → IsLogOf now u (Some l)
    unfolding sectors_of
    own_whole l read = record {
      read = spelled_here now u (its_row g a m x).row (others (Cbt u) (own_other g a m x) ∙ (row_there g a m x)) (its_row g a m x).filled
          ∙ ap₂ (λ (w : List ℕ) (n : ℕ). log_read w n (sectors_of now (Cbt u))) (sym (own_in g a m x).1) (its_row g a m x).long
          ∙ ap (λ (r : Option Row). log_read own.disk own.extents (piece s.geometry.extent (extents_of r) image)) (others (Cbt u) (own_other g a m x)) ∙ read;
      there = λ r i named full. refl;
    }

    -- as a read gave it
    pub own_before : ((p : ℕ) → p < size_of s t (Cbt u) → image (spot s.geometry.extent (extents_of (rows t (Cbt u))) p) ≡ reads (g.area a) (spot s.geometry.extent (extents_of (rows t (Cbt u))) p)) → IsLogOf now u (log_of u m.logs)
    own_before same = logged_one (logs_told h) v table image u (others (Cbt u) (own_other g a m x)) (λ p below. sector_at (Cbt u) (own_other g a m x) p below (same p below))

    pub own_still : IsLogOf now u (log_of u m.logs) → (o : Option Log) × IsLogOf now u o × ((o ≡ log_of u m.logs) ⊎ ((o ≡ log_of u final) ⊎ AreBetween (log_of u m.logs) (log_of u final) o))
    own_still before = (log_of u m.logs, before, inl refl)

  -- ---- while the twin's log is made

  at_choice : (v : VolumeTable) (image : ℕ → List ℕ) → IsChoiceOf (stored g a) v image → Stops v image
  at_choice v image i = (choice_kept h v image i, choice_shown h v image i, λ w. (log_of w m.logs, choice_logged h v image i w, inl refl), inl (choice_logged h v image i u))

  at_begun : (image : ℕ → List ℕ) → AsReadBeside (stored g a) es image → Stops (begun_table t twin es) image
  at_begun image beside =
      let k = to_log x in
      let away = (away_new g a m x) (begun_table t twin es) (begun_is_table k) (begun_others k) (ap extents_of (begun_row k)) in
      let read : AsRead (λ n. n ≢ Cbt twin.disk) image = λ n other p below. beside (spot s.geometry.extent (extents_of (rows t n)) p) ((in_area g a m x) n p below) (away n other p below) in
      let both : AsRead (λ n. (n ≢ Cbt twin.disk) × (n ≢ Cbt u)) image = λ n other p below. read n other.0 p below in
      let before = own_before (begun_table t twin es) image (apart_begun k) (begun_is_table k) (begun_others k) both (read (Cbt u) (own_other g a m x)) in
      stops (begun_table t twin es) image (apart_begun k) (begun_is_table k) (begun_others k) both
      (inl (twin_new (begun_table t twin es) image (apart_begun k) (begun_is_table k) (begun_others k) both (begun_row k)))
      (own_still (begun_table t twin es) image (apart_begun k) (begun_is_table k) (begun_others k) both before) (inl before)

  at_made : (image : ℕ → List ℕ) → AsReadBeside (stored g a) es image → Spells twin (piece s.geometry.extent es image) → Stops (made_t g a m x) image
  at_made image beside spells =
      let o = one_log (to_log x) in
      let read : AsRead (λ n. n ≢ Cbt twin.disk) image = λ n other p below. beside (spot s.geometry.extent (extents_of (rows t n)) p) ((in_area g a m x) n p below) ((away_made g a m x) n other p below) in
      let both : AsRead (λ n. (n ≢ Cbt twin.disk) × (n ≢ Cbt u)) image = λ n other p below. read n other.0 p below in
      let before = own_before (made_t g a m x) image o.tables o.table o.others both (read (Cbt u) (own_other g a m x)) in
      stops (made_t g a m x) image o.tables o.table o.others both
      (inr (twin_whole (made_t g a m x) image o.tables o.table o.others both o.there spells))
      (own_still (made_t g a m x) image o.tables o.table o.others both before) (inl before)

  -- ---- while the disk's log is written anew

  -- the volume of a disk's log has one head or the other, or the new one and bits of either
  abbrev LeavesOwn : List ℕ → (ℕ → List ℕ) → Type 0
  LeavesOwn w image = LeavesEitherHead anew (sectors_in (stored g a) (Cbt w)) (reads (held_in (stored g a) (Cbt w))) (piece s.geometry.extent (extents_of (rows t (Cbt w))) image)
      ⊎ LeavesNewHead anew (sectors_in (stored g a) (Cbt w)) (reads (held_in (stored g a) (Cbt w))) (piece s.geometry.extent (extents_of (rows t (Cbt w))) image)

  at_splitting : (image : ℕ → List ℕ) → IsSplitting (stored g a) twin anew es (made_t g a m x) image → Stops (made_t g a m x) image
  at_splitting image i =
      let o = one_log (to_log x) in
      let both : AsRead (λ n. (n ≢ Cbt twin.disk) × (n ≢ Cbt u)) image = λ n other p below. i.beside (spot s.geometry.extent (extents_of (rows t n)) p) ((in_area g a m x) n p below) ((away_both g a m x) n other p below) in
      let r = own_now image i in
      let whole = twin_whole (made_t g a m x) image o.tables o.table o.others both o.there i.twin_read in
      stops (made_t g a m x) image o.tables o.table o.others both (inr whole)
      (Some r.now, own_whole (made_t g a m x) image o.tables o.table o.others both r.now r.read, between r.now r.begins) (inr whole)
    where
      own_now : (image : ℕ → List ℕ) → IsSplitting (stored g a) twin anew es (made_t g a m x) image → IsReadAnew twin.tag own (piece s.geometry.extent (extents_of (rows t (Cbt u))) image)
      own_now image i =
          let order = subst (λ (w : List ℕ). LeavesOwn w image) (own_in g a m x).1 i.order in
          read_anew twin.tag own i.proper (sectors_in (stored g a) (Cbt u)) (reads (held_in (stored g a) (Cbt u))) (piece s.geometry.extent (extents_of (rows t (Cbt u))) image) room_own was_spelled order

      between : (now : Log) → (now ≡ own) ⊎ HasBegunAnew twin.tag own now → (Some now ≡ log_of u m.logs) ⊎ ((Some now ≡ log_of u final) ⊎ AreBetween (log_of u m.logs) (log_of u final) (Some now))
      between l (inl same) = inl (ap Some same ∙ sym x.found)
      between l (inr begins) = inr (inr (subst₂ (λ (o p : Option Log). AreBetween o p (Some l)) (sym x.found) (sym own_final) (anew_between twin.tag own l begins)))

  pub at_stop : (v : VolumeTable) (image : ℕ → List ℕ) → IsInSplit (stored g a) twin anew es v image → Stops v image
  at_stop v image (inl (inl choice)) = at_choice v image choice
  at_stop v image (inl (inr (inl begun))) = subst (λ (y : VolumeTable). Stops y image) (sym begun.table) (at_begun image begun.beside)
  at_stop v image (inl (inr (inr whole))) = subst (λ (y : VolumeTable). Stops y image) (sym whole.table) (at_made image whole.beside whole.spells)
  at_stop v image (inr i) = subst (λ (y : VolumeTable). Stops y image) (sym i.table) (at_splitting image (at_table i))
    where
      at_table : IsSplitting (stored g a) twin anew es v image → IsSplitting (stored g a) twin anew es (made_t g a m x) image
      at_table i = record { proper = i.proper; table = refl; beside = i.beside; twin_read = i.twin_read; order = i.order }

  pub left_split : {b : S} → ((v : VolumeTable) (image : ℕ → List ℕ) → g.leaves b v image → IsInSplit (stored g a) twin anew es v image)
      → (g.failed b ≡ false → (v : VolumeTable) (image : ℕ → List ℕ) → IsChoiceOf (stored g b) v image → Stops v image)
      → (v : VolumeTable) (image : ℕ → List ℕ) → StoreLeaves g b v image → Stops v image
  left_split {b} says choice v image left = ⊎_elim (λ at. at_stop v image (says v image at)) (λ w. choice w.1 v image w.2) left

  pub shown_still : {b : S} → WritesBoth g anew es a b → (tab g b ≡ t) ⊎ ((tab g b ≡ begun_table t twin es) ⊎ (tab g b ≡ made_t g a m x)) → disks (store_content g b) ≡ disks (store_content g a)
  shown_still {b} w table =
      ap (λ (y : Site). disks (content_now y (tab g b) (g.area b))) w.site
      ∙ ⊎_elim (λ is. by t is (apart_itself t)) (⊎_elim (λ is. by (begun_table t twin es) is (apart_begun (to_log x))) (λ is. by (made_t g a m x) is (one_log (to_log x)).tables)) table
    where
      by : (y : VolumeTable) → tab g b ≡ y → AreApartFromLogs t y → disks (content_now s (tab g b) (g.area b)) ≡ disks (content_now s t (g.area a))
      by y is tables = ap (λ (z : VolumeTable). disks (content_now s z (g.area b))) is ∙ shown_beside (g.area a) (g.area b) h.orderly tables (volumes g a m x h.told w y tables.same)

  -- it failed
  pub fails_tracked : {b : S} (n : Memory) (ok : Type 0) → (ok → ⊥) → ((v : VolumeTable) (image : ℕ → List ℕ) → g.leaves b v image → IsInSplit (stored g a) twin anew es v image) → FailsToSplit g twin anew es a b
      → HasChangedLogs g a m b n final ok
  fails_tracked {b} n ok never says fails =
      let left = left_split says (λ usable v image i. at_stop v image (fails.choice h.told usable v image i)) in
      record {
        ready = λ fine. absurd (never fine);
        settled = λ fine. absurd (never fine);
        shown = shown_still fails.writes fails.table;
        crash = λ v image l. (let w = left v image l in (w.0, w.1));
        logged = λ v image l. (left v image l).2;
      }

  pub fails_in_order : {b : S} → ((v : VolumeTable) (image : ℕ → List ℕ) → g.leaves b v image → IsInSplit (stored g a) twin anew es v image) → FailsToSplit g twin anew es a b
      → (v : VolumeTable) (image : ℕ → List ℕ) → StoreLeaves g b v image → IsSplitInOrder (content_in s v image) u twin.disk m.logs final
  fails_in_order {b} says fails v image l = (left_split says (λ usable w i c. at_stop w i (fails.choice h.told usable w i c)) v image l).3

  -- ---- once it is split

  module _ {b : S} (k : Splits g twin anew es a b) where
    -- the sectors of a volume in an image that has what a read gives
    piece_read : (l : Log) (us : List ℕ) (image : ℕ → List ℕ) → log_sectors (length l.bits) ≤ span s.geometry.extent us → ((q : ℕ) → q < span s.geometry.extent us → image (spot s.geometry.extent us q) ≡ reads (g.area b) (spot s.geometry.extent us q))
        → Spells l (reads (volume s.geometry.extent us (g.area b))) → Spells l (piece s.geometry.extent us image)
    unfolding piece
    piece_read l us image room same spells = spells_same l (reads (volume s.geometry.extent us (g.area b))) (piece s.geometry.extent us image)
        (λ q low. let below : q < span s.geometry.extent us = omega (arith, low, room) in same q below ∙ sym (volume_reads s.geometry.extent us (g.area b) q below)) spells

    abbrev WithBoth : (ℕ → List ℕ) → Type 0
    WithBoth image = Stops (made_t g a m x) image × IsLogged (content_in s (made_t g a m x) image) final

    -- an image that has what a read gives
    at_end : (image : ℕ → List ℕ) → ((p : ℕ) → p < area_size s → image p ≡ reads (g.area b) p) → WithBoth image
    at_end image same =
        let o = one_log (to_log x) in
        let both : AsRead (λ n. (n ≢ Cbt twin.disk) × (n ≢ Cbt u)) image = λ n other p below.
        same (spot s.geometry.extent (extents_of (rows t n)) p) ((in_area g a m x) n p below) ∙ (k.writes.elsewhere h.told).reads (spot s.geometry.extent (extents_of (rows t n)) p) ((away_both g a m x) n other p below) in
        let its : Spells twin (piece s.geometry.extent es image) =
        piece_read twin es image (may_make (to_log x)).sectors (λ q below. same (spot s.geometry.extent es q) (spot_of_all q (all_in s.count s.geometry.extent t.volumes es x.extents_free) below))
        (subst (λ (r : Option Row). Spells twin (reads (volume s.geometry.extent (extents_of r) (g.area b)))) o.there
        (subst₂ (λ (y : Site) (v : VolumeTable). Spells twin (reads (volume_of y v (g.area b) (Cbt twin.disk)))) k.writes.site k.table (k.twin_read h.told))) in
        let mine : Spells anew (piece s.geometry.extent (extents_of (rows t (Cbt u))) image) =
        piece_read anew (extents_of (rows t (Cbt u))) image room_anew (λ q below. same (spot s.geometry.extent (extents_of (rows t (Cbt u))) q) ((in_area g a m x) (Cbt u) q below))
        (subst (λ (r : Option Row). Spells anew (reads (volume s.geometry.extent (extents_of r) (g.area b)))) (o.others (Cbt u) (own_other g a m x))
        (subst (λ (w : List ℕ). Spells anew (reads (volume_of s (made_t g a m x) (g.area b) (Cbt w)))) (own_in g a m x).1
        (subst₂ (λ (y : Site) (v : VolumeTable). Spells anew (reads (volume_of y v (g.area b) (Cbt anew.disk)))) k.writes.site k.table (k.own_read h.told)))) in
        let twin_is = twin_whole (made_t g a m x) image o.tables o.table o.others both o.there its in
        let own_is = own_whole (made_t g a m x) image o.tables o.table o.others both anew (read_spelled own.disk own.extents (piece s.geometry.extent (extents_of (rows t (Cbt u))) image) anew refl refl mine) in
        (stops (made_t g a m x) image o.tables o.table o.others both (inr twin_is) (Some anew, own_is, inr (inl (sym own_final))) (inr twin_is), final_logged (made_t g a m x) image o.tables o.table o.others both twin_is own_is)
      where
        room_anew : log_sectors (length anew.bits) ≤ span s.geometry.extent (extents_of (rows t (Cbt u)))
        room_anew = subst (λ (n : ℕ). log_sectors n ≤ span s.geometry.extent (extents_of (rows t (Cbt u)))) (sym (length-replicate {A = Bool} (length own.bits) false)) room_own

    -- what a stop leaves behind it
    choice_behind : (v : VolumeTable) (image : ℕ → List ℕ) → IsChoiceOf (stored g b) v image → Stops v image
    choice_behind v image i = subst (λ (y : VolumeTable). Stops y image) (sym (i.table_is ∙ k.table))
        (at_end image (λ p below. may_settled (g.area b) p (image p) (k.settled h.told p) (i.sectors p (subst (λ (y : Site). p < area_size y) (sym k.writes.site) below)))).0

    pub splits_tracked : (n : Memory) (ok : Type 0) → known n ≡ with_known final (known m) → ((v : VolumeTable) (image : ℕ → List ℕ) → g.leaves b v image → IsInSplit (stored g a) twin anew es v image)
        → HasChangedLogs g a m b n final ok
    splits_tracked n ok memory says =
        let left = left_split says (λ usable. choice_behind) in
        record {
          ready = λ fine. subst₂ (λ (y : Site) (v : VolumeTable). IsReady y v (g.area b) (known n)) (sym k.writes.site) (sym k.table)
              (subst (IsReady s (made_t g a m x) (g.area b)) (sym memory) (ready_beside (g.area a) (g.area b) h.orderly (one_log (to_log x)).tables (volumes g a m x h.told k.writes (made_t g a m x) (one_log (to_log x)).tables.same) h.ready (k.settled h.told) final
              (at_end (reads (g.area b)) (λ p below. refl)).1));
          settled = λ fine was. k.settled h.told;
          shown = shown_still k.writes (inr (inr k.table));
          crash = λ v image l. (let w = left v image l in (w.0, w.1));
          logged = λ v image l. (left v image l).2;
        }

    pub splits_in_order : ((v : VolumeTable) (image : ℕ → List ℕ) → g.leaves b v image → IsInSplit (stored g a) twin anew es v image)
        → (v : VolumeTable) (image : ℕ → List ℕ) → StoreLeaves g b v image → IsSplitInOrder (content_in s v image) u twin.disk m.logs final
    splits_in_order says v image l = (left_split says (λ usable. choice_behind) v image l).3
