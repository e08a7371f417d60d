-- What a step does to logs keeps them good.
use Rattle.std.proofs.Common.{◌≡◌, ◌≢◌, ℕ, ◌+◌, ◌-◌, ◌*◌, ◌/◌, ◌^◌, ◌<◌, ◌≤◌, Bool, true, false, not, List, map, length, Option, Some, None, refl, sym, ap, ◌∙◌, subst, inl, inr, arith}
use Rattle.std.specs.Prelude.{is_some}
use Rattle.std.specs.List.{find}
use Rattle.std.specs.Str.{bytes_eq}
use Rattle.std.proofs.lemmas.Bool.{leb-false, or_parts}
use Rattle.std.proofs.lemmas.List.{length-replicate}
use Rattle.common_laws.specs.Lists.{In, Distinct, Sorted, when}
use Rattle.common_laws.proofs.Bytes.{bytes_eq-apart, bytes_eq-same, bytes_eq-refl}
use Rattle.common_laws.proofs.Lists.{Distinct-filter, Distinct-insert, In-filter, In-insert, In-insert_new, In-map, Sorted-filter, find-none, find-some}
use Rattle.sm_base.specs.declared.refusals.Refusal.{Refusal}
use Rattle.sm_log.specs.Logs.{Log, is_log_of, log_before, log_extents, log_of, log_sectors, on_log, with_log, without_log, begun_anew, split_of, touched, twin_log, pieces_touched, piece_count}
use Rattle.sm_log.proofs.BitLaws.{marked-long}
use Rattle.sm_machine.specs.declared.commands.Command.{Command}
use Rattle.sm_machine.specs.declared.commands.Command.TheVariants.{Create, Delete, Attach, Detach, Snapshot, Clone, Resize, Label, Write, Fill, Read, Flush, Gc, List as Listing, Stat, Track, Changed}
use Rattle.sm_machine.specs.Disks.{Disk, sector_bytes, filled, is_disk, on_disk, sectors_of_bytes, with_disk}
use Rattle.sm_machine.specs.Shapes.{Shape, risen}
use Rattle.sm_machine.specs.Refusals.{of_log, is_tracked, is_unknown, named, is_outside, is_out_of_range, refusal, rounded}
use Rattle.sm_machine.specs.Commits.{commits, is_given_up, own_commits}
use Rattle.sm_machine.specs.Steps.{State, accepted, disks_next, fork_disks, grown_disk, shape_next, written_disk}
use Rattle.sm_machine.specs.Tracking.{AreGoodLogs, IsGoodLog, log_commits, logs_after, tracked, tracked_step, tracked_unless, with_logs}
use Rattle.sm_machine.specs.WellFormed.{AreDisksOf, HasRecord, IsWellFormed, uuid_le}
use Rattle.sm_machine.proofs.BegunLogs.{begun_logs}
use Rattle.sm_machine.proofs.Fresh
use Rattle.sm_machine.proofs.Forks.{IsForkable}
use Rattle.sm_machine.proofs.LogDisks.{IsOfDisk, KeepsDisk, Stays, are_blanks, blanks, disk_pieces_are, disk_recorded, disk_there, log_disk, stays_beside, stays_changed, stays_forked, stays_kept, stays_same}
use Rattle.sm_machine.proofs.LogLists.{disks-on_log, log_found, no_log, sorted-with_log}
use Rattle.sm_machine.proofs.Numbers.{risen-last, risen-up}
use Rattle.sm_machine.proofs.Passed.{IsPassed, passed}
use Rattle.sm_machine.proofs.Steps.{at_least_eight, next_keeps, risen-above, snapshot_facts}
use Rattle.sm_machine.proofs.Together.{length-cut, length-overwritten, next_together, within}
use Rattle.sm_machine.proofs.Tracked.{IsBeside, next_beside}
use Rattle.sm_machine.proofs.Tracks.{begun_by, record_known}

-- a log as another was, but for its bits and the snapshot since which it has them
pub record IsLike (l m : Log) : Type 0 where
  pub disk : m.disk ≡ l.disk
  pub extents : m.extents ≡ l.extents
  pub tag : m.tag ≡ l.tag
  pub long : length m.bits ≡ length l.bits

-- a change of a log that leaves it like it was
abbrev pub Gentle : (Log → Log) → Type 0
Gentle f = (l : Log) → IsLike l (f l)

pub like_when : (f : Log → Log) → Gentle f → (b : Bool) (l : Log) → IsLike l (when b f l)
like_when f gentle true l = gentle l
like_when f gentle false l = record { disk = refl; extents = refl; tag = refl; long = refl }

pub touched_gentle : (sector count : ℕ) → Gentle (touched sector count)
touched_gentle sector count l = record { disk = refl; extents = refl; tag = refl; long = marked-long (pieces_touched sector count) l.bits }

pub anew_gentle : (tag : ℕ) → Gentle (begun_anew tag)
anew_gentle tag l = record { disk = refl; extents = refl; tag = refl; long = length-replicate (length l.bits) false }

-- two logs with one tag, other than 0, are one log
abbrev OneTag : List Log → Type 0
OneTag logs = (a b : Log) → In a logs → In b logs → a.tag ≡ b.tag → a.tag ≢ 0 → a ≡ b

-- ---- one log changed

module _ (u : List ℕ) (f : Log → Log) (gentle : Gentle f) (logs : List Log) where
  -- each log is one of before, changed or not
  pub was : (m : Log) → In m (on_log u f logs) → (l : Log) × In l logs × (m ≡ when (is_log_of u l) f l)
  was m h = In-map (λ (l : Log). when (is_log_of u l) f l) logs m h

  disks_same : map (λ (l : Log). l.disk) (on_log u f logs) ≡ map (λ (l : Log). l.disk) logs
  disks_same = disks-on_log u f (λ l. (gentle l).disk) logs

  order_same : Sorted uuid_le (map (λ (l : Log). l.disk) logs) → Sorted uuid_le (map (λ (l : Log). l.disk) (on_log u f logs))
  order_same d = subst (Sorted uuid_le) (sym disks_same) d

  once_same : Distinct (map (λ (l : Log). l.disk) logs) → Distinct (map (λ (l : Log). l.disk) (on_log u f logs))
  once_same d = subst (λ (us : List (List ℕ)). Distinct us) (sym disks_same) d

  tags_same : OneTag logs → OneTag (on_log u f logs)
  tags_same one a b h k e t =
      let x : (l : Log) × In l logs × (a ≡ when (is_log_of u l) f l) = was a h in
      let y : (l : Log) × In l logs × (b ≡ when (is_log_of u l) f l) = was b k in
      let p : a.tag ≡ x.0.tag = ap (λ (l : Log). l.tag) x.2 ∙ (like_when f gentle (is_log_of u x.0) x.0).tag in
      let q : b.tag ≡ y.0.tag = ap (λ (l : Log). l.tag) y.2 ∙ (like_when f gentle (is_log_of u y.0) y.0).tag in
      let same : x.0 ≡ y.0 = one x.0 y.0 x.1 y.1 (sym p ∙ (e ∙ q)) (λ z. t (p ∙ z)) in
      x.2 ∙ (ap (λ (l : Log). when (is_log_of u l) f l) same ∙ sym y.2)

-- ---- from one shape to the next

module _ (s : Shape) (w : IsWellFormed s) (g : AreGoodLogs s) (c : Command) (p : IsPassed s c) where
  abbrev pub t : Shape
  t = shape_next s c

  abbrev pub next_disks : List Disk
  next_disks = disks_next (blanks s) s c

  pub next_well : IsWellFormed t
  next_well = next_keeps s c w p

  pub next_are : AreDisksOf next_disks t
  next_are = next_together (blanks s) s c w (are_blanks s w) p

  beside : IsBeside s t
  beside = next_beside s c

  not_lower : s.sequence ≤ t.sequence
  unfolding shape_next
  not_lower = risen-up s.sequence (commits s c) w.sequence

  not_lower_counted : (k : ℕ) → s.sequence ≤ risen t.sequence k
  not_lower_counted k = omega (arith, not_lower, risen-up t.sequence k next_well.sequence)

  -- the disks of these logs stay
  abbrev StayFor : List Log → Type 0
  StayFor logs = (l : Log) (d : Disk) → In l logs → In d (blanks s) → d.uuid ≡ l.disk → Stays next_disks d

  -- a log whose disk stays
  like_good : (logs : List Log) (k : ℕ) (l m : Log) → In l s.logs → IsLike l m → m.since < risen t.sequence k → ((d : Disk) → In d (blanks s) → d.uuid ≡ l.disk → Stays next_disks d)
      → IsGoodLog (with_logs logs k t) m
  like_good logs k l m h like since stay =
      let good : IsGoodLog s l = g.good l h in
      let d : (d : Disk) × In d (blanks s) × (d.uuid ≡ l.disk) = disk_there (blanks s) s w (are_blanks s w) l.disk good.disk in
      let o : IsOfDisk d.0 l = log_disk (blanks s) s w (are_blanks s w) l good d.0 d.1 d.2 in
      let n : Stays next_disks d.0 = stay d.0 d.1 d.2 in
      let now : IsOfDisk n.now m = record {
        named = n.uuid ∙ (o.named ∙ sym like.disk);
        pieces = like.long ∙ (o.pieces ∙ ap piece_count (sym n.long));
      } in
      record {
        disk = disk_recorded next_disks t next_well next_are n.now m.disk n.there now.named;
        pieces = λ i e. disk_pieces_are next_disks t next_well next_are n.now m n.there now i e;
        room = subst (λ (x : ℕ). log_sectors (length m.bits) ≤ m.extents * x) (sym beside.extent)
            (subst (λ (x : ℕ). log_sectors (length m.bits) ≤ x * s.extent) (sym like.extents) (subst (λ (x : ℕ). log_sectors x ≤ l.extents * s.extent) (sym like.long) good.room));
        tag = omega (arith, like.tag, good.tag, not_lower_counted k);
        since = since;
      }

  since_counted : (k : ℕ) (l : Log) → In l s.logs → l.since < risen t.sequence k
  since_counted k l h = omega (arith, (g.good l h).since, not_lower_counted k)

  room_next : log_extents t.logs ≤ t.others
  room_next = let e : log_extents t.logs ≡ log_extents s.logs = ap log_extents beside.logs in omega (arith, e, beside.others, g.within)

  -- the logs are as they were
  same_logs : StayFor s.logs → AreGoodLogs (with_logs s.logs 0 t)
  same_logs stay = record {
    in_order = g.in_order;
    one_log = g.one_log;
    good = λ l h. like_good s.logs 0 l l h (record { disk = refl; extents = refl; tag = refl; long = refl }) (since_counted 0 l h) (λ d. stay l d h);
    one_tag = g.one_tag;
    within = omega (arith, room_next);
  }

  -- bits of a disk's log are set
  touched_logs : (u : List ℕ) (sector count : ℕ) → StayFor s.logs → AreGoodLogs (with_logs (on_log u (touched sector count) s.logs) 0 t)
  touched_logs u sector count stay =
      let f = touched sector count in
      let gentle : Gentle f = touched_gentle sector count in
      record {
        in_order = order_same u f gentle s.logs g.in_order;
        one_log = once_same u f gentle s.logs g.one_log;
        good = λ m h. (let x : (l : Log) × In l s.logs × (m ≡ when (is_log_of u l) f l) = was u f gentle s.logs m h in
            subst (IsGoodLog (with_logs (on_log u f s.logs) 0 t)) (sym x.2)
            (like_good (on_log u f s.logs) 0 x.0 (when (is_log_of u x.0) f x.0) x.1 (like_when f gentle (is_log_of u x.0) x.0) (since_same (is_log_of u x.0) x.0 (since_counted 0 x.0 x.1)) (λ d. stay x.0 d x.1)));
        one_tag = tags_same u f gentle s.logs g.one_tag;
        within = omega (arith, room_next);
      }
    where
      since_same : (b : Bool) (l : Log) → l.since < risen t.sequence 0 → (when b (touched sector count) l).since < risen t.sequence 0
      since_same true l h = h
      since_same false l h = h

  -- a log goes
  fewer_logs : (u : List ℕ) (k : ℕ) → StayFor (without_log u s.logs) → AreGoodLogs (with_logs (without_log u s.logs) k t)
  fewer_logs u k stay =
      let kept : Log → Bool = λ l. not (is_log_of u l) in
      let old : (l : Log) → In l (without_log u s.logs) → In l s.logs = λ l h. (In-filter kept s.logs l h).0 in
      record {
        in_order = Sorted-filter (λ (l : Log). l.disk) uuid_le kept s.logs g.in_order;
        one_log = Distinct-filter (λ (l : Log). l.disk) kept s.logs g.one_log;
        good = λ l h. like_good (without_log u s.logs) k l l (old l h) (record { disk = refl; extents = refl; tag = refl; long = refl }) (since_counted k l (old l h)) (λ d. stay l d h);
        one_tag = λ a b h i. g.one_tag a b (old a h) (old b i);
        within = omega (arith, room_next);
      }

-- ---- a snapshot

module _ (s : Shape) (w : IsWellFormed s) (g : AreGoodLogs s) (u twin : List ℕ) (p : IsPassed s (Snapshot u twin)) where
  abbrev pub forked : Shape
  forked = shape_next s (Snapshot u twin)

  forkable : IsForkable s u twin
  forkable = snapshot_facts s u twin p

  abbrev pub fork : List Disk
  fork = disks_next (blanks s) s (Snapshot u twin)

  fork_stays : (d : Disk) → In d (blanks s) → Stays fork d
  unfolding disks_next
  fork_stays d i = stays_forked u twin true (find (is_disk u) (blanks s)) (blanks s) d i

  -- the snapshot's tag is below the sequence number
  tag_below : s.sequence < risen forked.sequence 2
  unfolding shape_next commits own_commits
  tag_below =
      let small : s.sequence < 2 ^ 48 - 16 = leb-false (2 ^ 48 - 16) s.sequence forkable.not_spent in
      let above : s.sequence < forked.sequence = risen-above s.sequence (commits s (Snapshot u twin)) small (at_least_eight (is_given_up s (Snapshot u twin))) in
      omega (arith, above, risen-up forked.sequence 2 (risen-last s.sequence (commits s (Snapshot u twin))))

  -- the snapshot is for reading alone, and as large as its disk
  pub record IsTwinOf (l : Log) : Type 0 where
    pub now : Disk
    pub there : In now fork
    pub uuid : now.uuid ≡ twin
    pub pieces : length l.bits ≡ piece_count (length now.sectors)
    pub read_only : now.read_only ≡ true

  abbrev twin_disk : Disk → Disk
  twin_disk b = record { uuid = twin; label = b.label; origin = Some u; read_only = true; sectors = b.sectors }

  twin_in : (o : Option Disk) (b : Disk) → o ≡ Some b → In (twin_disk b) (fork_disks u twin true o (blanks s))
  unfolding with_disk
  twin_in (Some x) b e = let q : x ≡ b = cc in subst (λ (y : Disk). In (twin_disk y) (fork_disks u twin true (Some x) (blanks s))) q (In-insert_new _ (twin_disk x) (blanks s))
  twin_in None b e = cc

  pub twin_there : (l : Log) → In l s.logs → l.disk ≡ u → IsTwinOf l
  unfolding disks_next
  twin_there l h named = by (find (is_disk u) (blanks s)) refl
    where
      by : (o : Option Disk) → find (is_disk u) (blanks s) ≡ o → IsTwinOf l
      by None e =
          let d : (d : Disk) × In d (blanks s) × (d.uuid ≡ l.disk) = disk_there (blanks s) s w (are_blanks s w) l.disk (g.good l h).disk in
          let f : is_disk u d.0 ≡ false = find-none (is_disk u) (blanks s) d.0 e d.1 in
          let t : is_disk u d.0 ≡ true = subst (λ (v : List ℕ). bytes_eq v u ≡ true) (sym (d.2 ∙ named)) (bytes_eq-refl u) in
          cc
      by (Some b) e =
          let k : In b (blanks s) × (is_disk u b ≡ true) = find-some (is_disk u) (blanks s) b e in
          let o : IsOfDisk b l = log_disk (blanks s) s w (are_blanks s w) l (g.good l h) b k.0 (bytes_eq-same b.uuid u k.1 ∙ sym named) in
          record { now = twin_disk b; there = twin_in (find (is_disk u) (blanks s)) b e; uuid = refl; pieces = o.pieces; read_only = refl }

  module _ (l : Log) (h : In l s.logs) (named : l.disk ≡ u) where
    abbrev anew : Log → Log
    anew = begun_anew s.sequence

    abbrev mine : Log
    mine = twin_log twin s.sequence l

    abbrev all : List Log
    all = with_log mine (on_log u anew s.logs)

    abbrev now : Shape
    now = with_logs all 2 forked

    twin_good : IsGoodLog now mine
    twin_good =
        let n : IsTwinOf l = twin_there l h named in
        let well : IsWellFormed forked = next_well s w g (Snapshot u twin) p in
        let are : AreDisksOf fork forked = next_are s w g (Snapshot u twin) p in
        let o : IsOfDisk n.now mine = record { named = n.uuid; pieces = n.pieces } in
        record {
          disk = disk_recorded fork forked well are n.now twin n.there n.uuid;
          pieces = λ i e. disk_pieces_are fork forked well are n.now mine n.there o i e;
          room = subst (λ (x : ℕ). log_sectors (length l.bits) ≤ l.extents * x) (sym (beside s w g (Snapshot u twin) p).extent) (g.good l h).room;
          tag = tag_below;
          since = since_counted s w g (Snapshot u twin) p 2 l h;
        }

    since_anew : (b : Bool) (x : Log) → In x s.logs → (when b anew x).since < risen forked.sequence 2
    since_anew true x i = tag_below
    since_anew false x i = since_counted s w g (Snapshot u twin) p 2 x i

    each_good : (m : Log) → In m all → IsGoodLog now m
    unfolding with_log
    each_good m i = elim (In-insert log_before mine (on_log u anew s.logs) m i) [
      | inl e ↦ subst (IsGoodLog now) (sym e) twin_good
      | inr k ↦
          (let x : (x : Log) × In x s.logs × (m ≡ when (is_log_of u x) anew x) = was u anew (anew_gentle s.sequence) s.logs m k in
          subst (IsGoodLog now) (sym x.2)
          (like_good s w g (Snapshot u twin) p all 2 x.0 (when (is_log_of u x.0) anew x.0) x.1 (like_when anew (anew_gentle s.sequence) (is_log_of u x.0) x.0) (since_anew (is_log_of u x.0) x.0 x.1)
          (λ d j e. fork_stays d j)))
    ]

    twin_new : In twin (map (λ (l : Log). l.disk) (on_log u anew s.logs)) → ⊥
    twin_new i =
        let x : (x : Log) × In x s.logs × (twin ≡ x.disk) = In-map (λ (l : Log). l.disk) s.logs twin (subst (λ (us : List (List ℕ)). In twin us) (disks_same u anew (anew_gentle s.sequence) s.logs) i) in
        let r : HasRecord s x.0.disk = (g.good x.0 x.1).disk in
        Fresh.no_record s w twin forkable.not_taken r.0 r.1 (r.2 ∙ sym x.2)

    tag_apart : (m : Log) → In m (on_log u anew s.logs) → s.sequence ≡ m.tag → ⊥
    tag_apart m i e =
        let x : (x : Log) × In x s.logs × (m ≡ when (is_log_of u x) anew x) = was u anew (anew_gentle s.sequence) s.logs m i in
        let q : m.tag ≡ x.0.tag = ap (λ (l : Log). l.tag) x.2 ∙ (like_when anew (anew_gentle s.sequence) (is_log_of u x.0) x.0).tag in
        let r : x.0.tag < s.sequence = (g.good x.0 x.1).tag in
        omega (arith, e, q, r)

    one_tag_all : OneTag all
    unfolding with_log
    one_tag_all a b i j e t = elim (In-insert log_before mine (on_log u anew s.logs) a i) [
      | inl x ↦ (elim (In-insert log_before mine (on_log u anew s.logs) b j) [
        | inl y ↦ x ∙ sym y
        | inr k ↦ absurd (tag_apart b k (sym (ap (λ (l : Log). l.tag) x) ∙ e))
      ])
      | inr k ↦ (elim (In-insert log_before mine (on_log u anew s.logs) b j) [
        | inl y ↦ absurd (tag_apart a k (sym (ap (λ (l : Log). l.tag) y) ∙ sym e))
        | inr n ↦ tags_same u anew (anew_gentle s.sequence) s.logs g.one_tag a b k n e t
      ])
    ]

    once_all : Distinct (map (λ (l : Log). l.disk) all)
    unfolding with_log
    once_all = Distinct-insert (λ (l : Log). l.disk) log_before mine (on_log u anew s.logs) (once_same u anew (anew_gentle s.sequence) s.logs g.one_log) twin_new

    room_forked : log_extents forked.logs ≤ forked.others
    room_forked =
        let n : IsBeside s forked = next_beside s (Snapshot u twin) in
        let e : log_extents forked.logs ≡ log_extents s.logs = ap log_extents n.logs in
        omega (arith, e, n.others, g.within)

    split_logs : AreGoodLogs now
    split_logs = record {
      in_order = sorted-with_log mine (on_log u anew s.logs) (order_same u anew (anew_gentle s.sequence) s.logs g.in_order);
      one_log = once_all;
      good = each_good;
      one_tag = one_tag_all;
      within = omega (arith, room_forked);
    }

  split_good : (o : Option Log) → log_of u s.logs ≡ o → AreGoodLogs (with_logs (split_of u twin s.sequence o s.logs) (of_log (λ (l : Log). 2) o) forked)
  split_good None e = same_logs s w g (Snapshot u twin) p (λ l d h i q. fork_stays d i)
  split_good (Some l) e = let k : In l s.logs × (l.disk ≡ u) = log_found u s.logs l e in split_logs l k.0 k.1

-- ---- every command

none_of : (o : Option Log) → is_some o ≡ false → o ≡ None
none_of None e = refl
none_of (Some l) e = cc

apart : (u : List ℕ) (logs : List Log) (l : Log) → In l (without_log u logs) → l.disk ≢ u
apart u logs l h same =
    let f : not (is_log_of u l) ≡ true = (In-filter (λ (l : Log). not (is_log_of u l)) logs l h).1 in
    let t : is_log_of u l ≡ true = subst (λ (v : List ℕ). bytes_eq v u ≡ true) (sym same) (bytes_eq-refl u) in
    let q : not (is_log_of u l) ≡ false = ap not t in
    cc

-- so many sectors written within a disk leave it as long
written_keeps : (sector count : ℕ) (sectors : List (List ℕ)) (d : Disk) → length sectors ≡ count → sector + count ≤ length d.sectors → KeepsDisk (written_disk sector sectors) d
written_keeps sector count sectors d n h = record { uuid = refl; long = length-overwritten sector sectors d.sectors (omega arith); read_only = refl }

module _ (s : Shape) (w : IsWellFormed s) (g : AreGoodLogs s) where
  write_stays : (u : List ℕ) (sector count : ℕ) (sectors : List (List ℕ)) → length sectors ≡ count → is_outside s u sector count ≡ false → (d : Disk) → In d (blanks s) → Stays (on_disk u (written_disk sector sectors) (blanks s)) d
  write_stays u sector count sectors n e d i = stays_changed u (written_disk sector sectors) (blanks s) d i (λ same. written_keeps sector count sectors d n (within (blanks s) s w (are_blanks s w) u sector count e d i same))

  -- the logs of a command that stay: all but that of a disk that is deleted
  abbrev pub rest : Command → List Log
  rest (Delete u) = without_log u s.logs
  rest (Track u false) = without_log u s.logs
  rest c = s.logs

  -- their disks stay
  pub stays : (c : Command) → IsPassed s c → (l : Log) (d : Disk) → In l (rest c) → In d (blanks s) → d.uuid ≡ l.disk → Stays (disks_next (blanks s) s c) d
  unfolding is_tracked is_out_of_range disks_next
  stays (Create u size raw label) p l d h i q = stays_beside _ (blanks s) d i
  stays (Delete u) p l d h i q = stays_kept (λ (d : Disk). not (is_disk u d)) (blanks s) d i (ap not (bytes_eq-apart d.uuid u (λ same. apart u s.logs l h (sym q ∙ same))))
  stays (Attach u mode) p l d h i q = stays_same (blanks s) d i
  stays (Detach u) p l d h i q = stays_same (blanks s) d i
  stays (Snapshot u twin) p l d h i q = stays_forked u twin true (find (is_disk u) (blanks s)) (blanks s) d i
  stays (Clone u twin) p l d h i q = stays_forked u twin false (find (is_disk u) (blanks s)) (blanks s) d i
  stays (Resize u size) p l d h i q =
      stays_changed u (grown_disk (rounded s false size)) (blanks s) d i (λ same. absurd (no_log u s.logs l (none_of (log_of u s.logs) p.tracked) h (sym q ∙ same)))
  stays (Label u text) p l d h i q = stays_changed u (λ (d : Disk). record d { label = text }) (blanks s) d i (λ same. record { uuid = refl; long = refl; read_only = refl })
  stays (Write u sector bytes) p l d h i q =
      write_stays u sector (length bytes / sector_bytes) (sectors_of_bytes bytes) (length-cut (length bytes / sector_bytes) bytes) (or_parts (is_outside s u sector (length bytes / sector_bytes)) _ p.out_of_range).0 d i
  stays (Fill u sector count byte) p l d h i q = write_stays u sector count (filled count byte) (length-replicate count _) p.out_of_range d i
  stays (Read u sector count) p l d h i q = stays_same (blanks s) d i
  stays (Flush u) p l d h i q = stays_same (blanks s) d i
  stays Gc p l d h i q = stays_same (blanks s) d i
  stays Listing p l d h i q = stays_same (blanks s) d i
  stays Stat p l d h i q = stays_same (blanks s) d i
  stays (Track u on) p l d h i q = stays_same (blanks s) d i
  stays (Changed u n) p l d h i q = stays_same (blanks s) d i

  pub tracked_good : (c : Command) → IsPassed s c → AreGoodLogs (tracked s c (shape_next s c))
  unfolding logs_after log_commits is_tracked is_unknown named
  tracked_good (Create u size raw label) p = same_logs s w g (Create u size raw label) p (stays (Create u size raw label) p)
  tracked_good (Delete u) p = fewer_logs s w g (Delete u) p u (of_log (λ (l : Log). 1) (log_of u s.logs)) (stays (Delete u) p)
  tracked_good (Attach u mode) p = same_logs s w g (Attach u mode) p (stays (Attach u mode) p)
  tracked_good (Detach u) p = same_logs s w g (Detach u) p (stays (Detach u) p)
  tracked_good (Snapshot u twin) p = split_good s w g u twin p (log_of u s.logs) refl
  tracked_good (Clone u twin) p = same_logs s w g (Clone u twin) p (stays (Clone u twin) p)
  tracked_good (Resize u size) p = same_logs s w g (Resize u size) p (stays (Resize u size) p)
  tracked_good (Label u text) p = same_logs s w g (Label u text) p (stays (Label u text) p)
  tracked_good (Write u sector bytes) p = touched_logs s w g (Write u sector bytes) p u sector (length bytes / sector_bytes) (stays (Write u sector bytes) p)
  tracked_good (Fill u sector count byte) p = touched_logs s w g (Fill u sector count byte) p u sector count (stays (Fill u sector count byte) p)
  tracked_good (Read u sector count) p = same_logs s w g (Read u sector count) p (stays (Read u sector count) p)
  tracked_good (Flush u) p = same_logs s w g (Flush u) p (stays (Flush u) p)
  tracked_good Gc p = same_logs s w g Gc p (stays Gc p)
  tracked_good Listing p = same_logs s w g Listing p (stays Listing p)
  tracked_good Stat p = same_logs s w g Stat p (stays Stat p)
  tracked_good (Track u true) p = subst AreGoodLogs (sym (begun_by s u w)) (begun_logs s w g u (record_known s u p.unknown) (none_of (log_of u s.logs) p.tracked))
  tracked_good (Track u false) p = fewer_logs s w g (Track u false) p u 1 (stays (Track u false) p)
  tracked_good (Changed u n) p = same_logs s w g (Changed u n) p (stays (Changed u n) p)

good_by : (σ : State) (c : Command) (o : Option Refusal) → refusal σ.shape c ≡ o → IsWellFormed σ.shape → AreGoodLogs σ.shape → AreGoodLogs ((tracked_unless o σ c).after.shape)
unfolding accepted
good_by σ c (Some r) e w g = g
good_by σ c None e w g = tracked_good σ.shape w g c (passed σ.shape c e)

pub tracked_step_keeps_logs : (σ : State) (c : Command) → IsWellFormed σ.shape → AreGoodLogs σ.shape → AreGoodLogs ((tracked_step σ c).after.shape)
unfolding tracked_step
tracked_step_keeps_logs σ c w g = good_by σ c (refusal σ.shape c) refl w g
