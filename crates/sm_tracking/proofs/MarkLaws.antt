-- Pieces of a disk are marked in its log between two steps: what a stop leaves, and what is known behind it.
use Rattle.std.proofs.Common.{◌≡◌, ◌≢◌, ◌⊎◌, inl, inr, ⊎_elim, ℕ, ◌+◌, ◌-◌, ◌*◌, ◌<◌, ◌≤◌, Bool, true, false, List, [], ◌∷◌, length, Option, Some, None, Result, OnOk, Ok, refl, sym, ap, ap₂, ◌∙◌, subst, subst₂, arith}
use Rattle.std.specs.Prelude.{IfSome, IsOk}
use Rattle.std.specs.List.{list_all}
use Rattle.std.specs.Option.{option_map}
use Rattle.std.proofs.Math.Logic.{∥∥₁_map}
use Rattle.std.proofs.lemmas.Bool.{and_parts, true≢false}
use Rattle.common_laws.specs.Lists.{In, when}
use Rattle.common_laws.proofs.Bytes.{same_or_not}
use Rattle.common_laws.proofs.Lists.{In-map}
use Rattle.sm_base.specs.declared.faults.Failed.{Failed}
use Rattle.sm_base.specs.declared.names.Name.{Name}
use Rattle.sm_base.specs.declared.names.Name.TheVariants.{Cbt}
use Rattle.sm_cbt.proofs.LogLaws.{on_found, on_long}
use Rattle.sm_cbt.proofs.MarkLaws.{log_disk, touched_long}
use Rattle.sm_cbt.specs.Marks.{IsMark, IsMarkPlace, IsWithinLog, Lasts, Marks}
use Rattle.sm_disk.proofs.HeldLaws.{May-reads}
use Rattle.sm_disk.specs.Held.{Reaches, reads}
use Rattle.sm_log.proofs.BitLaws.{marked-keeps, marked-others}
use Rattle.sm_log.proofs.ByteLaws.{same_flags}
use Rattle.sm_log.specs.Coded.{packed_sector}
use Rattle.sm_log.specs.Logs.{Log, bit, is_log_of, log_extents, log_of, log_sectors, marked, on_log, pieces_touched, touched}
use Rattle.sm_logs.proofs.OrderLaws.{rising_on}
use Rattle.sm_logs.specs.Held.{is_touched}
use Rattle.sm_machine.proofs.LogLists.{extents-on_log}
use Rattle.sm_machine.proofs.Tracked.{keeps_logged}
use Rattle.sm_machine.specs.Shapes.{Shape, risen}
use Rattle.sm_machine.specs.Tracking.{with_logs}
use Rattle.sm_machine.specs.WellFormed.{IsWellFormed}
use Rattle.sm_standing.specs.Contents.{Content, sectors_of}
use Rattle.sm_standing.specs.Keeping.{IsKept}
use Rattle.sm_standing.specs.Logs.{IsLogOf, IsLogged, log_read}
use Rattle.sm_standing.specs.Standing.{disks}
use Rattle.vg_layout.specs.Places.{record_extents}
use Rattle.vg_meta.specs.Tables.{VolumeTable, extents_of, rows}
use Rattle.vg_volumes.specs.Sites.{Site, size_of, volume_of}
use Rattle.vg_volumes.specs.Stored.{IsChoiceOf, WorksOn, held_in, sectors_in, stored}
use Rattle.vg_volumes.specs.Volumes.{KeepsElsewhere}
use Rattle.vg_volumes.specs.declared.stores.Store.{Ghosts}
use Rattle.vhd_chain.specs.Trees.{row_name}
use Rattle.sm_log_rows.specs.LogRows.{AreApartFromLogs}
use Rattle.sm_ready.proofs.AfterLaws.{other_keeps}
use Rattle.sm_ready.proofs.ChainLaws.{tab}
use Rattle.sm_ready.proofs.FrameLaws.{true_kept, volume_works}
use Rattle.sm_ready.proofs.LeaveLaws.{left_choice}
use Rattle.sm_ready.proofs.LeftLaws.{IsLeft, extent_some, left_now, left_volume, now_sector, quiet_sector, size_there}
use Rattle.sm_ready.proofs.LogLaws.{logged_one, spelled_here}
use Rattle.sm_ready.proofs.LogRows.{HasLogRow, log_in_list, log_old, log_row}
use Rattle.sm_ready.proofs.LogStores.{logs_stop, logs_told}
use Rattle.sm_ready.proofs.Orders.{named_row}
use Rattle.sm_ready.proofs.RoomLaws.{rows_stays}
use Rattle.sm_ready.proofs.ShowLaws.{kept_ready}
use Rattle.sm_ready.proofs.SpliceLaws.{splice_left, splice_other, with_volume}
use Rattle.sm_ready.proofs.TakenLaws.{IsTold}
use Rattle.sm_ready.specs.Framing.{IsBetweenSteps}
use Rattle.sm_ready.specs.Known.{Known, known, log_face, shape_in}
use Rattle.sm_ready.specs.Orderly.{HasLogRoom, IsOrderly}
use Rattle.sm_ready.specs.Ready.{IsReady, IsTidy, is_written_in}
use Rattle.sm_ready.specs.Sessions.{IsReadyStore}
use Rattle.sm_ready.specs.Stores.{MayShow, StoreLeaves, content_in, content_now, store_content}
use Rattle.sm_ready.specs.declared.memory.Memory.{Memory}
use Rattle.sm_tracking.proofs.ApartLaws.{AreBeside, disks_beside, kept_beside}
use Rattle.sm_tracking.proofs.ListLaws.{other_on}
use Rattle.sm_tracking.proofs.OrderLaws.{AreLogsOf, IsOneLog, image_no_log, orderly_beside, tidy_beside, with_known, with_memory}
use Rattle.sm_tracking.proofs.ReadLaws.{between_marked, read_marked, read_now, whole_marked}
use Rattle.sm_tracking.proofs.ReadyLaws.{KeepsVolumes, ready_beside, shown_beside}
use Rattle.sm_tracking.proofs.StopLaws.{kept_safe, no_log_apart}
use Rattle.sm_tracking.specs.Tracking.{AreBetween, HasChangedLogs, IsLoggedBetween}

-- ---- the marked log among the others

module _ (u : List ℕ) (sector count : ℕ) (ls : List Log) where
  abbrev marks : Log → Log
  marks = touched sector count

  abbrev more : List Log
  more = on_log u marks ls

  pub own_marked : log_of u more ≡ option_map marks (log_of u ls)
  own_marked = on_found u marks ls (λ l. refl)

  pub other_marked : (v : List ℕ) → v ≢ u → log_of v more ≡ log_of v ls
  other_marked v apart = other_on u v marks ls (λ l. refl) apart

  face_map : (o : Option Log) → log_face (option_map marks o) ≡ log_face o
  face_map None = refl
  face_map (Some l) = refl

  -- what the table says of them is the same
  face_marked : (v : List ℕ) → log_face (log_of v ls) ≡ log_face (log_of v more)
  face_marked v = ⊎_elim
      (λ is. subst (λ (w : List ℕ). log_face (log_of w ls) ≡ log_face (log_of w more)) (sym is) (sym (ap log_face own_marked ∙ face_map (log_of u ls))))
      (λ apart. ap log_face (sym (other_marked v apart))) (same_or_not v u)

-- a log in which all of these pieces are marked stays as it is
all_set : (bits : List Bool) (ks : List ℕ) → list_all (bit bits) ks ≡ true → (k : ℕ) → In k ks → bit bits k ≡ true
all_set bits [] all k i = absurd i
all_set bits (j ∷ ks) all k (inl is) = subst (λ (x : ℕ). bit bits x ≡ true) (sym is) (and_parts (bit bits j) (list_all (bit bits) ks) all).0
all_set bits (j ∷ ks) all k (inr i) = all_set bits ks (and_parts (bit bits j) (list_all (bit bits) ks) all).1 k i

pub set_already : (sector count : ℕ) (l : Log) → list_all (bit l.bits) (pieces_touched sector count) ≡ true → touched sector count l ≡ l
set_already sector count l all = ap (λ (bs : List Bool). let r : Log = record l { bits = bs } in r) (same_flags (marked ks l.bits) l.bits (touched_long sector count l) (λ k below. by k (bit l.bits k) refl))
  where
    ks : List ℕ
    ks = pieces_touched sector count

    by : (k : ℕ) (b : Bool) → bit l.bits k ≡ b → bit (marked ks l.bits) k ≡ bit l.bits k
    by k true e = marked-keeps ks l.bits k e ∙ sym e
    by k false e = marked-others ks l.bits k (λ i. true≢false (sym (all_set l.bits ks all k i) ∙ e))

-- ---- memory with the marks

apart_same : (t : VolumeTable) → AreApartFromLogs t t
apart_same t = record { same = λ n no_log. refl; kept = λ test none. refl; among = λ r i. inr i; spoken = refl; later = omega arith }

module _ {s : Site} {t : VolumeTable} {m : Known} (u : List ℕ) (sector count : ℕ) (o : IsOrderly s t m) (tidy : IsTidy t m) where
  abbrev more_of : List Log
  more_of = on_log u (touched sector count) m.logs

  same_table : IsOneLog s t t u (rows t (Cbt u))
  same_table = record { tables = apart_same t; table = o.table; others = λ n other. refl; there = refl; full = λ r is. log_old s t m u r o is }

  room_when : (b : Bool) (l : Log) → HasLogRoom s.geometry.extent l → HasLogRoom s.geometry.extent (when b (touched sector count) l)
  room_when true l room = subst (λ (n : ℕ). log_sectors n ≤ l.extents * s.geometry.extent) (sym (touched_long sector count l)) room
  room_when false l room = room

  logs_more : AreLogsOf s t more_of
  logs_more = record {
    faces = λ v. o.logs v ∙ face_marked u sector count m.logs v;
    few = let long = on_long u (touched sector count) m.logs in let most = o.few_logs in omega (arith, long, most);
    rising = rising_on m.logs u (touched sector count) (λ l. refl) o.logs_in_order;
    room = λ y i. let w = In-map (λ (x : Log). when (is_log_of u x) (touched sector count) x) m.logs y i in
        subst (HasLogRoom s.geometry.extent) (sym w.2) (room_when (is_log_of u w.0) w.0 (o.log_room w.0 w.1));
  }

  shape_more : shape_in s t (with_known more_of m) ≡ with_logs more_of 0 (shape_in s t m)
  unfolding shape_in
  shape_more = ap₂ (λ (k n : ℕ). let σ : Shape = record (shape_in s t m) { sequence = k; others = n; logs = more_of } in σ)
      (let few = o.table.sequence in let e : t.sequence ≡ risen t.sequence 0 = omega (arith, few) in e)
      (let e : log_extents more_of + record_extents s.geometry.extent ≡ log_extents m.logs + record_extents s.geometry.extent + log_extents more_of - log_extents m.logs = omega arith in e)

  well_more : ∥ IsWellFormed (shape_in s t (with_known more_of m)) ∥₁
  unfolding shape_in
  well_more = ∥∥₁_map o.well_formed (λ w. subst IsWellFormed (sym shape_more) (keeps_logged (shape_in s t m) more_of 0 w (omega arith)
      (let e = extents-on_log u (touched sector count) (λ l. refl) m.logs in omega (arith, e))))

  pub orderly_more : IsOrderly s t (with_known more_of m)
  orderly_more = orderly_beside o tidy same_table more_of logs_more well_more

  pub tidy_more : IsTidy t (with_known more_of m)
  tidy_more = tidy_beside o tidy same_table more_of

-- ---- between two steps

pub marked_between : {S : Type 0} {g : Ghosts S} {a b : S} (m : Memory) (u : List ℕ) (sector count : ℕ) (n : Memory) → n ≡ with_memory (on_log u (touched sector count) m.logs) m → IsBetweenSteps g a m → WorksOn g (Cbt u) a b
    → IsBetweenSteps g b n
marked_between {S} {g} {a} {b} m u sector count n memory i works = subst (IsBetweenSteps g b) (sym memory) (record {
  usable = works.stays.failed ∙ i.usable;
  orderly = subst₂ (λ (s : Site) (t : VolumeTable). IsOrderly s t (with_known more (known m))) (sym works.stays.site) (sym works.stays.table) (orderly_more u sector count i.orderly i.tidy);
  tidy = subst (λ (t : VolumeTable). IsTidy t (with_known more (known m))) (sym works.stays.table) (tidy_more u sector count i.orderly i.tidy);
  true_images = true_kept g m (with_memory more m) works.stays.site (λ told r j. (j, volume_works r i.orderly.table (no_log_apart (row_name r) u (image_no_log (row_name r) (named_row (g.site a) (tab g a) (known m) r i.orderly j))) works told)) i.true_images;
  rows = rows_stays works.stays i.rows;
  tree_room = i.tree_room;
  attachment_room = i.attachment_room;
})
  where
    more : List Log
    more = on_log u (touched sector count) m.logs

-- the log's volume has the sectors for it
pub room_marked : {S : Type 0} {g : Ghosts S} {a : S} (m : Memory) (u : List ℕ) → IsBetweenSteps g a m → IfSome (log_of u m.logs) (λ l. log_sectors (length l.bits) ≤ sectors_in (stored g a) (Cbt u))
room_marked {S} {g} {a} m u i = by (log_of u m.logs) refl
  where
    by : (o : Option Log) → log_of u m.logs ≡ o → IfSome o (λ l. log_sectors (length l.bits) ≤ sectors_in (stored g a) (Cbt u))
    by None e = tt
    by (Some l) e =
        let w = log_in_list m.logs u l e in
        let r = log_row (g.site a) (tab g a) (known m) l i.orderly w.0 in
        let there : rows (tab g a) (Cbt u) ≡ Some r.row = ap (λ (v : List ℕ). rows (tab g a) (Cbt v)) (sym w.1) ∙ r.there in
        let size : size_of (g.site a) (tab g a) (Cbt u) ≡ l.extents * (g.site a).geometry.extent = size_there (g.site a) (tab g a) (Cbt u) r.row there ∙ ap (λ (n : ℕ). n * (g.site a).geometry.extent) r.long in
        let room = i.orderly.log_room l w.0 in
        omega (arith, size, room)

-- ---- what a stop leaves

module _ {S : Type 0} {g : Ghosts S} {a b : S} {m : Memory} (u : List ℕ) (sector count : ℕ) (l : Log) (h : IsTold g a m) (found : log_of u m.logs ≡ Some l) (works : WorksOn g (Cbt u) a b) (marks : Marks g (touched sector count l) sector count a b) where
  abbrev s : Site
  s = g.site a

  abbrev t : VolumeTable
  t = tab g a

  abbrev after : Log
  after = touched sector count l

  abbrev now_logs : List Log
  now_logs = on_log u (touched sector count) m.logs

  pos : 0 < s.geometry.extent
  pos = extent_some s t (known m) h.orderly

  own : l.disk ≡ u
  own = log_disk u m.logs l found

  keeps : KeepsElsewhere s.geometry.extent (extents_of (rows t (Cbt u))) (g.area a) (g.area b)
  keeps = works.elsewhere h.told

  reached : Reaches (IsMark after.bits sector count) (volume_of s t (g.area a) (Cbt u)) (volume_of s t (g.area b) (Cbt u))
  reached = subst₂ (λ (y : Site) (v : VolumeTable). Reaches (IsMark after.bits sector count) (volume_of s t (g.area a) (Cbt u)) (volume_of y v (g.area b) (Cbt u))) works.stays.site works.stays.table
      (subst (λ (w : List ℕ). Reaches (IsMark after.bits sector count) (held_in (stored g a) (Cbt w)) (held_in (stored g b) (Cbt w))) own (marks h.told))

  its_row : HasLogRow t l
  its_row = log_row s t (known m) l h.orderly (log_in_list m.logs u l found).0

  there : rows t (Cbt u) ≡ Some its_row.row
  there = ap (λ (w : List ℕ). rows t (Cbt w)) (sym own) ∙ its_row.there

  room : log_sectors (length l.bits) ≤ size_of s t (Cbt u)
  room =
      let size : size_of s t (Cbt u) ≡ l.extents * s.geometry.extent = size_there s t (Cbt u) its_row.row there ∙ ap (λ (n : ℕ). n * s.geometry.extent) its_row.long in
      let fits = h.orderly.log_room l (log_in_list m.logs u l found).0 in
      omega (arith, size, fits)

  was : Content
  was = store_content g a

  read_was : log_read u (length its_row.row.extents) (sectors_of (store_content g a) (Cbt u)) ≡ Some l
  read_was = sym (spelled_here (store_content g a) u its_row.row there its_row.filled) ∙ (h.ready.logs u).read ∙ found

  own_now : log_of u now_logs ≡ Some after
  own_now = own_marked u sector count m.logs ∙ ap (option_map (touched sector count)) found

  volumes : KeepsVolumes s t t (g.area a) (g.area b)
  volumes n no_log = other_keeps s t (g.area a) (g.area b) (Cbt u) n h.orderly.table pos keeps (no_log_apart n u no_log)

  pub marked_shown : disks (store_content g b) ≡ disks (store_content g a)
  marked_shown = ap₂ (λ (y : Site) (v : VolumeTable). disks (content_now y v (g.area b))) works.stays.site works.stays.table ∙ shown_beside (g.area a) (g.area b) h.orderly (apart_same t) volumes

  module _ (image : ℕ → List ℕ) (left : IsLeft s (g.area b) image) where
    abbrev now : Content
    now = content_in s t image

    each : (p : ℕ) → p < log_sectors (length l.bits) → (sectors_of (content_in s t image) (Cbt u) p ≡ sectors_of (store_content g a) (Cbt u) p) ⊎ IsMark after.bits sector count p (sectors_of (content_in s t image) (Cbt u) p)
    each p low =
        let below : p < size_of s t (Cbt u) = omega (arith, low, room) in
        ⊎_elim (λ may. inl (h.ready.logged u p (sectors_of (content_in s t image) (Cbt u) p) may ∙ sym (now_sector s t (g.area a) (Cbt u) p below))) (λ mark. inr mark)
        (reached.may p (sectors_of (content_in s t image) (Cbt u) p) (left_volume s t (known m) (g.area b) image (Cbt u) h.orderly left p below))

    -- what a stop might have left before: the log's volume as a read gave it
    abbrev earlier : ℕ → List ℕ
    earlier = with_volume s.geometry.extent (extents_of (rows t (Cbt u))) (reads (volume_of s t (g.area a) (Cbt u))) image

    earlier_left : IsLeft s (g.area a) earlier
    earlier_left = splice_left s t (Cbt u) (g.area a) (g.area b) (reads (volume_of s t (g.area a) (Cbt u))) image keeps (λ p below. May-reads (volume_of s t (g.area a) (Cbt u)) p) left

    others : (n : Name) → n ≢ Cbt u → (p : ℕ) → p < size_of s t n → sectors_of (content_in s t image) n p ≡ sectors_of (content_in s t earlier) n p
    others n other p below = sym (splice_other s t (Cbt u) n (reads (volume_of s t (g.area a) (Cbt u))) image p h.orderly.table pos other below)

    beside : AreBeside s t t earlier image
    beside = record { tables = apart_same t; sectors = λ n no_log. others n (no_log_apart n u no_log) }

    pub marked_kept : IsKept (content_in s t image)
    marked_kept = kept_beside h.orderly beside ((kept_safe h).kept earlier earlier_left)

    pub marked_may : MayShow s (StoreLeaves g a) (disks (content_in s t image))
    marked_may = record { table = t; image = earlier; left = inr (h.told, h.usable, record { table_is = refl; sectors = earlier_left }); shown = disks_beside h.orderly beside }

    other_log : (w : List ℕ) → w ≢ u → IsLogOf (content_in s t image) w (log_of w m.logs)
    other_log w apart = logged_one (logs_told h) t h.orderly.table image w refl (λ p below.
        others (Cbt w) (λ e. apart (let z : w ≡ u = cc in z)) p below
        ∙ quiet_sector s t (g.area a) earlier (Cbt w) (left_volume s t (known m) (g.area a) earlier (Cbt w) h.orderly earlier_left) (h.ready.logged w) p below)

    abbrev found_log : Log
    found_log = read_now u (length its_row.row.extents) (sectors_of (store_content g a) (Cbt u)) (sectors_of (content_in s t image) (Cbt u)) l sector count read_was each

    own_log : IsLogOf (content_in s t image) u (Some found_log)
    own_log = record {
      read = spelled_here (content_in s t image) u its_row.row there its_row.filled
          ∙ read_marked u (length its_row.row.extents) (sectors_of (store_content g a) (Cbt u)) (sectors_of (content_in s t image) (Cbt u)) l sector count read_was each;
      there = λ r i named full. refl;
    }

    pub marked_logged : IsLoggedBetween (content_in s t image) m.logs now_logs
    marked_logged w = ⊎_elim
        (λ is. subst (λ (v : List ℕ). (o : Option Log) × IsLogOf (content_in s t image) v o × ((o ≡ log_of v m.logs) ⊎ ((o ≡ log_of v now_logs) ⊎ AreBetween (log_of v m.logs) (log_of v now_logs) o))) (sym is) (
          Some found_log,
          own_log,
          inr (inr (subst₂ (λ (x y : Option Log). AreBetween x y (Some found_log)) (sym found) (sym own_now)
              (between_marked u (length its_row.row.extents) (sectors_of (store_content g a) (Cbt u)) (sectors_of (content_in s t image) (Cbt u)) l sector count read_was each))),
        ))
        (λ apart. (log_of w m.logs, other_log w apart, inl refl)) (same_or_not w u)

    -- where all marks are there
    whole_log : 1 ≤ count → ((p : ℕ) → p < log_sectors (length l.bits) → IsMarkPlace sector count p → sectors_of (content_in s t image) (Cbt u) p ≡ packed_sector (p - 1) after.bits) → IsLogged (content_in s t image) now_logs
    whole_log some all w = ⊎_elim
        (λ is. subst (λ (v : List ℕ). IsLogOf (content_in s t image) v (log_of v now_logs)) (sym is) (subst (IsLogOf (content_in s t image) u)
        (ap (λ (x : Log). Some x) (whole_marked u (length its_row.row.extents) (sectors_of (store_content g a) (Cbt u)) (sectors_of (content_in s t image) (Cbt u)) l sector count read_was each some all) ∙ sym own_now) own_log))
        (λ apart. subst (IsLogOf (content_in s t image) w) (sym (other_marked u sector count m.logs w apart)) (other_log w apart)) (same_or_not w u)

  -- ---- once the marks last

  pub marked_ready : 1 ≤ count → Lasts g after sector count b → IsReadyStore g b (with_memory now_logs m)
  marked_ready some lasts = subst₂ (λ (y : Site) (v : VolumeTable). IsReady y v (g.area b) (with_known now_logs (known m))) (sym works.stays.site) (sym works.stays.table)
      (ready_beside (g.area a) (g.area b) h.orderly (apart_same t) volumes h.ready (lasts.settled h.told) now_logs (whole_log (reads (g.area b)) (left_now s (g.area b)) some all))
    where
      all : (p : ℕ) → p < log_sectors (length l.bits) → IsMarkPlace sector count p → sectors_of (content_now s t (g.area b)) (Cbt u) p ≡ packed_sector (p - 1) after.bits
      all p low place =
          now_sector s t (g.area b) (Cbt u) p (omega (arith, low, room))
          ∙ subst₂ (λ (y : Site) (v : VolumeTable). reads (volume_of y v (g.area b) (Cbt u)) p ≡ packed_sector (p - 1) after.bits) works.stays.site works.stays.table
          (subst (λ (w : List ℕ). reads (held_in (stored g b) (Cbt w)) p ≡ packed_sector (p - 1) after.bits) own (lasts.marks h.told p place))

  -- ---- the call

  pub worked : (n : Memory) (ok : Type 0) → n ≡ with_memory now_logs m → (g.failed b ≡ false → (v : VolumeTable) (image : ℕ → List ℕ) → g.leaves b v image → IsChoiceOf (stored g b) v image) → 1 ≤ count → (ok → Lasts g after sector count b)
      → HasChangedLogs g a m b n now_logs ok
  worked n ok memory now_b some lasts = record {
    ready = λ fine. subst (IsReadyStore g b) (sym memory) (marked_ready some (lasts fine));
    settled = λ fine _. (lasts fine).settled h.told;
    shown = marked_shown;
    crash = λ v image at. let i = choice v image at in
        subst (λ (x : VolumeTable). IsKept (content_in s x image) × MayShow s (StoreLeaves g a) (disks (content_in s x image))) (sym i.0) (marked_kept image i.1, marked_may image i.1);
    logged = λ v image at. let i = choice v image at in
        subst (λ (x : VolumeTable). IsLoggedBetween (content_in s x image) m.logs now_logs) (sym i.0) (marked_logged image i.1);
  }
    where
      choice : (v : VolumeTable) (image : ℕ → List ℕ) → StoreLeaves g b v image → (v ≡ t) × IsLeft s (g.area b) image
      choice v image at =
          let i = left_choice g.told (g.site b) (tab g b) (g.area b) (g.leaves b) (g.failed b) (now_b (works.stays.failed ∙ h.usable)) v image at in
          (i.table_is ∙ works.stays.table, subst (λ (y : Site). IsLeft y (g.area b) image) works.stays.site i.sectors)

-- ---- nothing was to be marked

module _ {S : Type 0} {g : Ghosts S} {a : S} {m : Memory} (u : List ℕ) (sector count : ℕ) (h : IsTold g a m) (already : is_touched u sector count m.logs ≡ true) where
  abbrev same_logs : List Log
  same_logs = on_log u (touched sector count) m.logs

  own_same : (o : Option Log) → log_of u m.logs ≡ o → option_map (touched sector count) o ≡ o
  own_same None e = refl
  own_same (Some l) e = ap (λ (x : Log). Some x) (set_already sector count l (sym (ap (λ (o : Option Log). elim o as (λ _. Bool) [ None ↦ true | Some l ↦ list_all (bit l.bits) (pieces_touched sector count) ]) e) ∙ already))

  each_same : (w : List ℕ) → log_of w same_logs ≡ log_of w m.logs
  each_same w = ⊎_elim
      (λ is. subst (λ (v : List ℕ). log_of v same_logs ≡ log_of v m.logs) (sym is) (own_marked u sector count m.logs ∙ own_same (log_of u m.logs) refl))
      (λ apart. other_marked u sector count m.logs w apart) (same_or_not w u)

  still_ready : IsReadyStore g a (with_memory same_logs m)
  unfolding shape_in is_written_in
  still_ready = record {
    firm = record { images = h.ready.firm.images; quiet = h.ready.firm.quiet; below = h.ready.firm.below };
    records = h.ready.records;
    recorded = h.ready.recorded;
    logs = λ w. subst (IsLogOf (store_content g a) w) (sym (each_same w)) (h.ready.logs w);
    logged = h.ready.logged;
  }

  pub untouched : (n : Memory) (ok : Type 0) → n ≡ with_memory same_logs m → HasChangedLogs g a m a n same_logs ok
  untouched n ok memory = record {
    ready = λ fine. subst (IsReadyStore g a) (sym memory) still_ready;
    settled = λ fine was. was;
    shown = refl;
    crash = λ v image left. (kept_ready h v image left, record { table = v; image = image; left = left; shown = refl });
    logged = λ v image left w. (log_of w m.logs, logs_stop g a (logs_told h) h.orderly.table h.now v image left w, inl refl);
  }

-- ---- in all

pub marked_changed : {S : Type 0} {g : Ghosts S} {a b : S} (m : Memory) (u : List ℕ) (sector count : ℕ) (new : List Log) (r : Result (Unit {0}) Failed) → IsTold g a m → new ≡ on_log u (touched sector count) m.logs → WorksOn g (Cbt u) a b
    → (g.told → g.failed b ≡ false → (v : VolumeTable) (image : ℕ → List ℕ) → g.leaves b v image → IsChoiceOf (stored g b) v image) → 1 ≤ count → IfSome (log_of u m.logs) (IsWithinLog sector count)
    → IfSome (log_of u new) (λ l. Marks g l sector count a b) → (is_touched u sector count m.logs ≡ false → IfSome (log_of u new) (λ l. IsWithinLog sector count l → OnOk r (Lasts g l sector count b)))
    → (is_touched u sector count m.logs ≡ true → IsOk r × (b ≡ a)) → HasChangedLogs g a m b (with_memory new m) (on_log u (touched sector count) m.logs) (r ≡ Ok tt)
marked_changed {S} {g} {a} {b} m u sector count new r h memory works now_b some within marks lasts still = by (is_touched u sector count m.logs) refl
  where
    more : List Log
    more = on_log u (touched sector count) m.logs

    swapped : with_memory new m ≡ with_memory more m
    swapped = ap (λ (ls : List Log). with_memory ls m) memory

    of_log : (o : Option Log) → log_of u m.logs ≡ o → is_touched u sector count m.logs ≡ false → HasChangedLogs g a m b (with_memory new m) more (r ≡ Ok tt)
    of_log None found unset = absurd (true≢false (sym (ap (λ (o : Option Log). elim o as (λ _. Bool) [ None ↦ true | Some l ↦ list_all (bit l.bits) (pieces_touched sector count) ]) found) ∙ unset))
    of_log (Some l) found unset =
        let own : log_of u new ≡ Some (touched sector count l) = ap (log_of u) memory ∙ own_marked u sector count m.logs ∙ ap (option_map (touched sector count)) found in
        let did : Marks g (touched sector count l) sector count a b = subst (λ (o : Option Log). IfSome o (λ l. Marks g l sector count a b)) own marks in
        let fits : IsWithinLog sector count l = subst (λ (o : Option Log). IfSome o (IsWithinLog sector count)) found within in
        let last : IsWithinLog sector count (touched sector count l) → OnOk r (Lasts g (touched sector count l) sector count b) = subst (λ (o : Option Log). IfSome o (λ l. IsWithinLog sector count l → OnOk r (Lasts g l sector count b))) own (lasts unset) in
        let fits_now : IsWithinLog sector count (touched sector count l) = subst (λ (n : ℕ). sector + count ≤ 128 * n) (sym (touched_long sector count l)) fits in
        worked u sector count l h found works did (with_memory new m) (r ≡ Ok tt) swapped (now_b h.told) some (λ fine. subst (λ (x : Result (Unit {0}) Failed). OnOk x (Lasts g (touched sector count l) sector count b)) fine (last fits_now))

    by : (c : Bool) → is_touched u sector count m.logs ≡ c → HasChangedLogs g a m b (with_memory new m) more (r ≡ Ok tt)
    by true e = subst (λ (x : S). HasChangedLogs g a m x (with_memory new m) more (r ≡ Ok tt)) (sym (still e).1) (untouched u sector count h e (with_memory new m) (r ≡ Ok tt) swapped)
    by false e = of_log (log_of u m.logs) refl e
