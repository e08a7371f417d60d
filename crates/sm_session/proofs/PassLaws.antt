-- Whatever a stop leaves in a step passes the check of logs.
use Rattle.std.proofs.Common.{◌≡◌, ◌≢◌, ◌⊎◌, inl, inr, ⊎_elim, ℕ, ◌*◌, ◌<◌, ◌≤◌, ◌^◌, not, Bool, true, false, List, length, map, Option, Some, None, refl, sym, ap, ◌∙◌, subst, arith}
use Rattle.std.specs.Prelude.{IsSome}
use Rattle.std.specs.List.{filter}
use Rattle.std.proofs.Math.Logic.{∥∥₁_elim}
use Rattle.std.proofs.Props.{props}
use Rattle.std.proofs.lemmas.Bool.{true≢false}
use Rattle.std.proofs.lemmas.List.{length-replicate}
use Rattle.std.proofs.lemmas.Option.{none-some}
use Rattle.common_laws.specs.Lists.{In, when}
use Rattle.common_laws.proofs.Bytes.{bytes_eq-refl, bytes_eq-same}
use Rattle.common_laws.proofs.Lists.{In-filter, In-insert, In-insert_old, In-map, In-map_at, filter-In}
use Rattle.sm_base.specs.declared.names.Name.TheVariants.{Cbt}
use Rattle.sm_base.specs.declared.refusals.Refusal.{Refusal}
use Rattle.sm_cbt.proofs.MarkLaws.{touched_long}
use Rattle.sm_log.specs.Logs.{Log, begun_anew, is_log_of, log_before, log_of, log_sectors, on_log, piece_count, split_of, touched, twin_log, with_log, without_log}
use Rattle.sm_machine.proofs.LogDisks.{log_disk}
use Rattle.sm_machine.proofs.Tracked.{tracked_keeps_disks, tracked_step_keeps_shape}
use Rattle.sm_machine.proofs.TrackedLogs.{tracked_step_keeps_logs}
use Rattle.sm_machine.specs.Disks.{Disk, is_disk}
use Rattle.sm_machine.specs.Refusals.{refusal}
use Rattle.sm_machine.specs.Runs.{Face, face}
use Rattle.sm_machine.specs.Shapes.{Shape}
use Rattle.sm_machine.specs.Steps.{State, accepted, disks_next}
use Rattle.sm_machine.specs.Tracking.{AreGoodLogs, logs_after, tracked_step, tracked_unless}
use Rattle.sm_machine.specs.WellFormed.{AreDisksOf, IsWellFormed}
use Rattle.sm_machine.specs.declared.commands.Command.{Command}
use Rattle.sm_machine.specs.declared.commands.Command.TheVariants as command
use Rattle.sm_run.specs.Between.{IsBetween}
use Rattle.sm_standing.proofs.LogLaws.{has_volume}
use Rattle.sm_standing.proofs.LogPassLaws.{pass_by_disks}
use Rattle.sm_standing.specs.Checks.{first_fault}
use Rattle.sm_standing.specs.Contents.{Content}
use Rattle.sm_standing.specs.Keeping.{IsKept}
use Rattle.sm_standing.specs.LogChecks.{HasRightLog, HaveOneTag, IsLogLike, log_fault}
use Rattle.sm_standing.specs.Logs.{IsLogOf, IsLogged, log_at}
use Rattle.sm_standing.specs.Standing.{disks}
use Rattle.vg_meta.specs.Tables.{Row, VolumeTable}
use Rattle.vg_volumes.specs.declared.stores.Store.{Ghosts}
use Rattle.sm_ready.proofs.ChainLaws.{tab}
use Rattle.sm_ready.proofs.LeaveLaws.{left_choice}
use Rattle.sm_ready.proofs.LogRows.{log_in_list}
use Rattle.sm_ready.proofs.LogStores.{logs_stop, logs_told}
use Rattle.sm_ready.proofs.ShowLaws.{faces_ready, kept_ready}
use Rattle.sm_ready.proofs.TakenLaws.{IsTold}
use Rattle.sm_ready.proofs.DiskShape.{are_disks}
use Rattle.sm_ready.specs.Framing.{StepsOn}
use Rattle.sm_ready.specs.Frames.{IsNoLower}
use Rattle.sm_ready.specs.Known.{known, shape_in}
use Rattle.sm_ready.specs.Sessions.{KeepsAll, store_state}
use Rattle.sm_ready.specs.Stores.{MayShow, StoreLeaves, content_in}
use Rattle.sm_ready.specs.declared.memory.Memory.{Memory}
use Rattle.sm_tracking.specs.Tracking.{AreBetween, IsLogBetween, IsLoggedBetween}

-- ---- logs that a step carries along

-- Each log behind a step is like one from before it, with the same since; and each from before it, of a disk that is there behind it, is like
-- one behind it.
pub record Carries (old new : State) : Type 0 where
  pub from : (l : Log) → In l new.shape.logs → (m : Log) × In m old.shape.logs × IsLogLike m l × (l.since ≡ m.since)
  pub to : (m : Log) → In m old.shape.logs → (d : Disk) → In d new.disks → d.uuid ≡ m.disk → (l : Log) × In l new.shape.logs × IsLogLike m l

pub like_same : (l : Log) → IsLogLike l l
like_same l = record { disk = refl; extents = refl; tag = refl; pieces = refl }

pub same_carried : (old new : State) → new.shape.logs ≡ old.shape.logs → Carries old new
same_carried old new same = record {
  from = λ l i. (l, subst (In l) same i, like_same l, refl);
  to = λ m i d j own. (m, subst (In m) (sym same) i, like_same m);
}

marked_carried : (old new : State) (u : List ℕ) (sector count : ℕ) → new.shape.logs ≡ on_log u (touched sector count) old.shape.logs → Carries old new
marked_carried old new u sector count is = record {
  from = λ l i. let w = In-map mark old.shape.logs l (subst (In l) is i) in
      (w.0, w.1, subst (IsLogLike w.0) (sym w.2) (like (is_log_of u w.0) w.0), ap (λ (x : Log). x.since) w.2 ∙ since (is_log_of u w.0) w.0);
  to = λ m i d j own. (mark m, subst (In (mark m)) (sym is) (In-map_at mark old.shape.logs m i), like (is_log_of u m) m);
}
  where
    mark : Log → Log
    mark x = when (is_log_of u x) (touched sector count) x

    like : (b : Bool) (l : Log) → IsLogLike l (when b (touched sector count) l)
    like true l = record { disk = refl; extents = refl; tag = refl; pieces = touched_long sector count l }
    like false l = like_same l

    since : (b : Bool) (l : Log) → (when b (touched sector count) l).since ≡ l.since
    since true l = refl
    since false l = refl

less_carried : (old new : State) (u : List ℕ) → new.shape.logs ≡ without_log u old.shape.logs → new.disks ≡ filter (λ d. not (is_disk u d)) old.disks → Carries old new
less_carried old new u is gone = record {
  from = λ l i. (l, (In-filter (λ (x : Log). not (is_log_of u x)) old.shape.logs l (subst (In l) is i)).0, like_same l, refl);
  to = λ m i d j own. by m i d j own (is_log_of u m) refl;
}
  where
    by : (m : Log) → In m old.shape.logs → (d : Disk) → In d new.disks → d.uuid ≡ m.disk → (b : Bool) → is_log_of u m ≡ b → (l : Log) × In l new.shape.logs × IsLogLike m l
    by m i d j own true e =
        let kept : not (is_disk u d) ≡ true = (In-filter (λ (x : Disk). not (is_disk u x)) old.disks d (subst (In d) gone j)).1 in
        let its : is_disk u d ≡ true = subst (λ (v : List ℕ). is_disk v d ≡ true) (own ∙ bytes_eq-same m.disk u e) (bytes_eq-refl d.uuid) in
        absurd (true≢false (sym kept ∙ ap not its))
    by m i d j own false e = (m, subst (In m) (sym is) (filter-In (λ (x : Log). not (is_log_of u x)) old.shape.logs m i (ap not e)), like_same m)

none_split : (u twin : List ℕ) (tag : ℕ) (logs : List Log) (o : Option Log) → o ≡ None → split_of u twin tag o logs ≡ logs
none_split u twin tag logs o e = ap (λ (x : Option Log). split_of u twin tag x logs) e

accepted_carried : (σ : State) (c : Command) → ((u twin : List ℕ) → c ≡ command.Snapshot u twin → log_of u σ.shape.logs ≡ None) → ((u : List ℕ) (on : Bool) → c ≡ command.Track u on → ⊥) → Carries σ ((tracked_unless None σ c).after)
unfolding accepted logs_after disks_next
accepted_carried σ (command.Create u size raw label) none no_track = same_carried σ _ refl
accepted_carried σ (command.Delete u) none no_track = less_carried σ _ u refl refl
accepted_carried σ (command.Attach u mode) none no_track = same_carried σ _ refl
accepted_carried σ (command.Detach u) none no_track = same_carried σ _ refl
accepted_carried σ (command.Snapshot u twin) none no_track = same_carried σ _ (none_split u twin σ.shape.sequence σ.shape.logs (log_of u σ.shape.logs) (none u twin refl))
accepted_carried σ (command.Clone u twin) none no_track = same_carried σ _ refl
accepted_carried σ (command.Resize u size) none no_track = same_carried σ _ refl
accepted_carried σ (command.Label u text) none no_track = same_carried σ _ refl
accepted_carried σ (command.Write u sector bytes) none no_track = marked_carried σ _ u sector _ refl
accepted_carried σ (command.Fill u sector count byte) none no_track = marked_carried σ _ u sector count refl
accepted_carried σ (command.Read u sector count) none no_track = same_carried σ _ refl
accepted_carried σ (command.Flush u) none no_track = same_carried σ _ refl
accepted_carried σ command.Gc none no_track = same_carried σ _ refl
accepted_carried σ command.List none no_track = same_carried σ _ refl
accepted_carried σ command.Stat none no_track = same_carried σ _ refl
accepted_carried σ (command.Track u on) none no_track = absurd (no_track u on refl)
accepted_carried σ (command.Changed u n) none no_track = same_carried σ _ refl

-- a command that no cause refuses takes no snapshot of a tracked disk, and neither begins nor ends tracking
abbrev pub CarriesLogs : Shape → Command → Type 0
CarriesLogs s c = refusal s c ≡ None → ((u twin : List ℕ) → c ≡ command.Snapshot u twin → log_of u s.logs ≡ None) × ((u : List ℕ) (on : Bool) → c ≡ command.Track u on → ⊥)

pub step_carried : (σ : State) (c : Command) → CarriesLogs σ.shape c → Carries σ ((tracked_step σ c).after)
unfolding tracked_step
step_carried σ c carries = by (refusal σ.shape c) refl
  where
    by : (o : Option Refusal) → refusal σ.shape c ≡ o → Carries σ ((tracked_unless o σ c).after)
    by None e = let w = carries e in accepted_carried σ c w.0 w.1
    by (Some r) e = same_carried σ _ refl

-- ---- a content between two states

-- a state whose logs are good
pub record IsGoodState (σ : State) : Type 0 where
  pub well : IsWellFormed σ.shape
  pub are : AreDisksOf σ.disks σ.shape
  pub good : AreGoodLogs σ.shape

-- each log that is left is like one of a shape with good logs, with numbers that were used, and has a bit for each piece of its disk
module _ (c : Content) (s : Shape) (sound : first_fault c ≡ None) (good : AreGoodLogs s) (extent : c.extent ≡ s.extent)
    (there : (u : List ℕ) (r : Row) → In r c.table.volumes → r.name ≡ Cbt u → r.fresh ≡ false → IsSome (log_at c u))
    (like : (u : List ℕ) (l : Log) → log_at c u ≡ Some l → (m : Log) × In m s.logs × IsLogLike m l × (l.tag < c.table.sequence) × (l.since < c.table.sequence))
    (pieces : (d : Disk) (l : Log) → In d (disks c) → log_at c d.uuid ≡ Some l → length l.bits ≡ piece_count (length d.sectors)) where
  one_tag : HaveOneTag c
  one_tag u v a b is_a is_b stands_u stands_v same tagged =
      let x = like u a is_a in
      let y = like v b is_b in
      let one : x.0 ≡ y.0 = good.one_tag x.0 y.0 x.1 y.1 (sym x.2.tag ∙ same ∙ y.2.tag) (λ z. tagged (x.2.tag ∙ z)) in
      sym (has_volume c u a is_a).own ∙ x.2.disk ∙ ap (λ (l : Log). l.disk) one ∙ sym y.2.disk ∙ (has_volume c v b is_b).own

  right : (d : Disk) (l : Log) → In d (disks c) → log_at c d.uuid ≡ Some l → HasRightLog c d.uuid (piece_count (length d.sectors))
  right d l i is =
      let x = like d.uuid l is in
      let g = good.good x.0 x.1 in
      record {
        log = l;
        here = is;
        pieces = pieces d l i is;
        room = subst (λ (n : ℕ). log_sectors (length l.bits) ≤ l.extents * n) (sym extent) (subst (λ (n : ℕ). log_sectors (length l.bits) ≤ n * s.extent) (sym x.2.extents)
            (subst (λ (n : ℕ). log_sectors n ≤ x.0.extents * s.extent) (sym x.2.pieces) g.room));
        tag = x.3;
        since = x.4;
      }

  like_passes : log_fault c ≡ None
  like_passes = pass_by_disks c one_tag sound (λ d r i k named full. by d i (log_at c d.uuid) refl (there d.uuid r k named full))
    where
      by : (d : Disk) → In d (disks c) → (o : Option Log) → log_at c d.uuid ≡ o → IsSome o → HasRightLog c d.uuid (piece_count (length d.sectors))
      by d i None is some = absurd (true≢false (sym some))
      by d i (Some l) is some = right d l i is

-- a disk of other disks has the same face
abbrev IsSeen : Disk → List Disk → Type 0
IsSeen d ds = (e : Disk) × In e ds × (face d ≡ face e)

pub seen : (d : Disk) (xs ds : List Disk) → In d xs → map face xs ≡ map face ds → IsSeen d ds
seen d xs ds i same = In-map face ds (face d) (subst (In (face d)) same (In-map_at face xs d i))

-- each log is like one behind a split
pub like_split : (u : List ℕ) (twin : Log) (tag : ℕ) (logs : List Log) (m : Log) → In m logs → (k : Log) × In k (with_log twin (on_log u (begun_anew tag) logs)) × IsLogLike m k
unfolding with_log
like_split u twin tag logs m i = (
  anew m,
  In-insert_old log_before twin (on_log u (begun_anew tag) logs) (anew m) (In-map_at anew logs m i),
  like (is_log_of u m) m,
)
  where
    anew : Log → Log
    anew x = when (is_log_of u x) (begun_anew tag) x

    like : (b : Bool) (l : Log) → IsLogLike l (when b (begun_anew tag) l)
    like true l = record { disk = refl; extents = refl; tag = refl; pieces = length-replicate {A = Bool} (length l.bits) false }
    like false l = like_same l

-- a log that is like a good one has as many bits as its disk has pieces
like_long : (σ : State) → IsGoodState σ → (d e : Disk) (m l : Log) → In e σ.disks → face d ≡ face e → In m σ.shape.logs → IsLogLike m l → l.disk ≡ d.uuid → length l.bits ≡ piece_count (length d.sectors)
like_long σ g d e m l i same at like own =
    let of = log_disk σ.disks σ.shape g.well g.are m (g.good.good m at) e i (sym (ap (λ (f : Face). f.uuid) same) ∙ sym own ∙ like.disk) in
    like.pieces ∙ of.pieces ∙ ap (λ (f : Face). piece_count f.size) (sym same)

-- a content that has the very logs from before, where each of them is like one behind it
module _ (c : Content) (old new : State) (sound : first_fault c ≡ None) (was : IsGoodState old) (now : IsGoodState new) (extent : c.extent ≡ old.shape.extent) (later : old.shape.sequence ≤ c.table.sequence)
    (faces : (map face (disks c) ≡ map face old.disks) ⊎ (map face (disks c) ≡ map face new.disks)) (logged : IsLogged c old.shape.logs)
    (behind : (m : Log) → In m old.shape.logs → (k : Log) × In k new.shape.logs × IsLogLike m k) where
  in_old : (u : List ℕ) (l : Log) → log_at c u ≡ Some l → In l old.shape.logs
  in_old u l is = (log_in_list old.shape.logs u l (sym (logged u).read ∙ is)).0

  pub front_passes : log_fault c ≡ None
  front_passes = like_passes c old.shape sound was.good extent (λ u r i named full. subst IsSome (sym (logged u).read) ((logged u).there r i named full))
      (λ u l is. let i = in_old u l is in (l, i, like_same l, omega (arith, (was.good.good l i).tag, later), omega (arith, (was.good.good l i).since, later)))
      (λ d l i is. let at = in_old d.uuid l is in let own = (has_volume c d.uuid l is).own in ⊎_elim
      (λ same. let e = seen d (disks c) old.disks i same in like_long old was d e.0 l l e.1 e.2 at (like_same l) own)
      (λ same. let e = seen d (disks c) new.disks i same in let k = behind l at in
      like_long new now d e.0 k.0 l e.1 e.2 k.1 (record { disk = sym k.2.disk; extents = sym k.2.extents; tag = sym k.2.tag; pieces = sym k.2.pieces }) own) faces)

module _ (c : Content) (old new : State) (sound : first_fault c ≡ None) (was : IsGoodState old) (now : IsGoodState new) (extent : c.extent ≡ old.shape.extent) (later : old.shape.sequence ≤ c.table.sequence)
    (faces : (map face (disks c) ≡ map face old.disks) ⊎ (map face (disks c) ≡ map face new.disks)) (logged : IsLoggedBetween c old.shape.logs new.shape.logs) where
  -- a log that is left is one from before, one from behind, or between such
  from_either : (P : Log → Type 0) → ((l : Log) → In l old.shape.logs → P l) → ((l : Log) → In l new.shape.logs → P l) → ((m k l : Log) → In m old.shape.logs → In k new.shape.logs → IsLogBetween m k l → P l)
      → (u : List ℕ) (l : Log) → log_at c u ≡ Some l → P l
  from_either P early late between u l is =
      let w = logged u in
      let same : w.0 ≡ Some l = sym w.1.read ∙ is in
      ⊎_elim (λ e. early l (log_in_list old.shape.logs u l (sym e ∙ same)).0)
      (λ v. ⊎_elim (λ e. late l (log_in_list new.shape.logs u l (sym e ∙ same)).0)
      (λ b. by (log_of u old.shape.logs) (log_of u new.shape.logs) refl refl (subst (AreBetween (log_of u old.shape.logs) (log_of u new.shape.logs)) same b)) v) w.2
    where
      by : (x y : Option Log) → log_of u old.shape.logs ≡ x → log_of u new.shape.logs ≡ y → AreBetween x y (Some l) → P l
      by None y is_x is_y b = absurd b
      by (Some m) None is_x is_y b = absurd b
      by (Some m) (Some k) is_x is_y b = between m k l (log_in_list old.shape.logs u m is_x).0 (log_in_list new.shape.logs u k is_y).0 b

  there_left : (u : List ℕ) (r : Row) → In r c.table.volumes → r.name ≡ Cbt u → r.fresh ≡ false → IsSome (log_at c u)
  there_left u r i named full = subst IsSome (sym (logged u).1.read) ((logged u).1.there r i named full)

  own_left : (u : List ℕ) (l : Log) → log_at c u ≡ Some l → l.disk ≡ u
  own_left u l is = (has_volume c u l is).own

  -- ---- where each log behind is like one from before

  module _ (carried : Carries old new) where
    abbrev HasKin : Log → Type 0
    HasKin l = (m : Log) × In m old.shape.logs × IsLogLike m l × (l.tag < c.table.sequence) × (l.since < c.table.sequence)

    kin_of : (m l : Log) → In m old.shape.logs → IsLogLike m l → l.since < old.shape.sequence → HasKin l
    kin_of m l i like since = (m, i, like, omega (arith, like.tag, (was.good.good m i).tag, later), omega (arith, since, later))

    old_kin : (l : Log) → In l old.shape.logs → HasKin l
    old_kin l i = kin_of l l i (like_same l) (was.good.good l i).since

    new_since : (k : Log) → In k new.shape.logs → k.since < old.shape.sequence
    new_since k i = let w = carried.from k i in let low = (was.good.good w.0 w.1).since in omega (arith, w.3, low)

    new_kin : (l : Log) → In l new.shape.logs → HasKin l
    new_kin l i = let w = carried.from l i in kin_of w.0 l w.1 w.2 (new_since l i)

    kin : (u : List ℕ) (l : Log) → log_at c u ≡ Some l → HasKin l
    kin = from_either HasKin old_kin new_kin (λ m k l i j b. kin_of m l i (record { disk = b.disk; extents = b.extents; tag = b.tag; pieces = b.pieces })
        (let low = new_since k j in omega (arith, b.since, low)))

    pieces_left : (d : Disk) (l : Log) → In d (disks c) → log_at c d.uuid ≡ Some l → length l.bits ≡ piece_count (length d.sectors)
    pieces_left d l i is = ⊎_elim early late faces
      where
        early : map face (disks c) ≡ map face old.disks → length l.bits ≡ piece_count (length d.sectors)
        early same =
            let e = seen d (disks c) old.disks i same in
            let x = kin d.uuid l is in
            like_long old was d e.0 x.0 l e.1 e.2 x.1 x.2 (own_left d.uuid l is)

        late : map face (disks c) ≡ map face new.disks → length l.bits ≡ piece_count (length d.sectors)
        late same =
            let e = seen d (disks c) new.disks i same in
            let x = kin d.uuid l is in
            let y = carried.to x.0 x.1 e.0 e.1 (sym (ap (λ (f : Face). f.uuid) e.2) ∙ sym (own_left d.uuid l is) ∙ x.2.disk) in
            like_long new now d e.0 y.0 l e.1 e.2 y.1 (record {
              disk = x.2.disk ∙ sym y.2.disk;
              extents = x.2.extents ∙ sym y.2.extents;
              tag = x.2.tag ∙ sym y.2.tag;
              pieces = x.2.pieces ∙ sym y.2.pieces;
            }) (own_left d.uuid l is)

    pub between_passes : log_fault c ≡ None
    between_passes = like_passes c old.shape sound was.good extent there_left kin pieces_left

  -- ---- where a log was split, by so low a number, for a disk that was not there

  module _ (u twin : List ℕ) (own : Log) (found : log_of u old.shape.logs ≡ Some own) (split : new.shape.logs ≡ with_log (twin_log twin old.shape.sequence own) (on_log u (begun_anew old.shape.sequence) old.shape.logs))
      (same_extent : new.shape.extent ≡ old.shape.extent) (used : old.shape.sequence < c.table.sequence) (fresh : (d : Disk) → In d old.disks → d.uuid ≢ twin) where
    abbrev anew : Log → Log
    anew x = when (is_log_of u x) (begun_anew old.shape.sequence) x

    anew_like : (b : Bool) (l : Log) → IsLogLike l (when b (begun_anew old.shape.sequence) l)
    anew_like true l = record { disk = refl; extents = refl; tag = refl; pieces = length-replicate {A = Bool} (length l.bits) false }
    anew_like false l = like_same l

    anew_since : (b : Bool) (l : Log) → l.since < old.shape.sequence → (when b (begun_anew old.shape.sequence) l).since ≤ old.shape.sequence
    anew_since true l low = omega arith
    anew_since false l low = omega (arith, low)

    -- each log behind is the twin's, or like one from before
    abbrev IsKnown : Log → Type 0
    IsKnown l = (l ≡ twin_log twin old.shape.sequence own) ⊎ ((m : Log) × In m old.shape.logs × IsLogLike m l × (l.since ≤ old.shape.sequence))

    known_new : (l : Log) → In l new.shape.logs → IsKnown l
    unfolding with_log
    known_new l i = ⊎_elim (λ is. inl is) (λ j.
        let w = In-map anew old.shape.logs l j in
        inr (w.0, w.1, subst (IsLogLike w.0) (sym w.2) (anew_like (is_log_of u w.0) w.0), subst (λ (x : Log). x.since ≤ old.shape.sequence) (sym w.2) (anew_since (is_log_of u w.0) w.0 (was.good.good w.0 w.1).since)))
        (In-insert log_before (twin_log twin old.shape.sequence own) (on_log u (begun_anew old.shape.sequence) old.shape.logs) l (subst (In l) split i))

    -- each from before is like one behind
    like_behind : (m : Log) → In m old.shape.logs → (k : Log) × In k new.shape.logs × IsLogLike m k
    like_behind m i = let k = like_split u (twin_log twin old.shape.sequence own) old.shape.sequence old.shape.logs m i in (k.0, subst (In k.0) (sym split) k.1, k.2)

    turned : {m k l : Log} → IsLogLike m k → IsLogLike m l → IsLogLike k l
    turned x y = record { disk = y.disk ∙ sym x.disk; extents = y.extents ∙ sym x.extents; tag = y.tag ∙ sym x.tag; pieces = y.pieces ∙ sym x.pieces }

    abbrev HasHeir : Log → Type 0
    HasHeir l = (m : Log) × In m new.shape.logs × IsLogLike m l × (l.tag < c.table.sequence) × (l.since < c.table.sequence)

    heir_of : (m l : Log) → In m old.shape.logs → IsLogLike m l → l.since ≤ old.shape.sequence → HasHeir l
    heir_of m l i like since =
        let k = like_behind m i in
        let low = (was.good.good m i).tag in
        (k.0, k.1, turned k.2 like, omega (arith, like.tag, low, used), omega (arith, since, used))

    own_since : own.since < old.shape.sequence
    own_since = (was.good.good own (log_in_list old.shape.logs u own found).0).since

    new_heir : (l : Log) → In l new.shape.logs → HasHeir l
    new_heir l i = ⊎_elim
        (λ is. (l, i, like_same l, subst (λ (x : Log). x.tag < c.table.sequence) (sym is) used, subst (λ (x : Log). x.since < c.table.sequence) (sym is) (omega (arith, own_since, used))))
        (λ w. heir_of w.0 l w.1 w.2 w.3) (known_new l i)

    new_low : (k : Log) → In k new.shape.logs → k.since ≤ old.shape.sequence
    new_low k i = ⊎_elim (λ is. subst (λ (x : Log). x.since ≤ old.shape.sequence) (sym is) (omega (arith, own_since))) (λ w. w.3) (known_new k i)

    heir : (v : List ℕ) (l : Log) → log_at c v ≡ Some l → HasHeir l
    heir = from_either HasHeir (λ l i. heir_of l l i (like_same l) (omega (arith, (was.good.good l i).since))) new_heir
        (λ m k l i j b. heir_of m l i (record { disk = b.disk; extents = b.extents; tag = b.tag; pieces = b.pieces }) (let low = new_low k j in omega (arith, b.since, low)))

    heir_long : (d : Disk) (l : Log) → In d (disks c) → log_at c d.uuid ≡ Some l → length l.bits ≡ piece_count (length d.sectors)
    heir_long d l i is = ⊎_elim early late faces
      where
        x : HasHeir l
        x = heir d.uuid l is

        early : map face (disks c) ≡ map face old.disks → length l.bits ≡ piece_count (length d.sectors)
        early same =
            let e = seen d (disks c) old.disks i same in
            let its : e.0.uuid ≡ x.0.disk = sym (ap (λ (f : Face). f.uuid) e.2) ∙ sym (own_left d.uuid l is) ∙ x.2.disk in
            ⊎_elim (λ is_twin. absurd (fresh e.0 e.1 (its ∙ ap (λ (y : Log). y.disk) is_twin)))
            (λ w. like_long old was d e.0 w.0 l e.1 e.2 w.1 (record {
              disk = x.2.disk ∙ w.2.disk;
              extents = x.2.extents ∙ w.2.extents;
              tag = x.2.tag ∙ w.2.tag;
              pieces = x.2.pieces ∙ w.2.pieces;
            }) (own_left d.uuid l is)) (known_new x.0 x.1)

        late : map face (disks c) ≡ map face new.disks → length l.bits ≡ piece_count (length d.sectors)
        late same = let e = seen d (disks c) new.disks i same in like_long new now d e.0 x.0 l e.1 e.2 x.1 x.2 (own_left d.uuid l is)

    pub split_passes : log_fault c ≡ None
    split_passes = like_passes c new.shape sound now.good (extent ∙ sym same_extent) there_left heir heir_long

  -- ---- where a log goes, and its disk stays

  module _ (fewer : (l : Log) → In l new.shape.logs → In l old.shape.logs) (still : map face (disks c) ≡ map face old.disks) where
    abbrev HasElder : Log → Type 0
    HasElder l = (m : Log) × In m old.shape.logs × IsLogLike m l × (l.tag < c.table.sequence) × (l.since < c.table.sequence)

    elder_of : (m l : Log) → In m old.shape.logs → IsLogLike m l → l.since < old.shape.sequence → HasElder l
    elder_of m l i like since = (m, i, like, omega (arith, like.tag, (was.good.good m i).tag, later), omega (arith, since, later))

    old_elder : (l : Log) → In l old.shape.logs → HasElder l
    old_elder l i = elder_of l l i (like_same l) (was.good.good l i).since

    elder : (u : List ℕ) (l : Log) → log_at c u ≡ Some l → HasElder l
    elder = from_either HasElder old_elder (λ l i. old_elder l (fewer l i)) (λ m k l i j b. elder_of m l i (record { disk = b.disk; extents = b.extents; tag = b.tag; pieces = b.pieces })
        (let low = (was.good.good k (fewer k j)).since in omega (arith, b.since, low)))

    pub fewer_passes : log_fault c ≡ None
    fewer_passes = like_passes c old.shape sound was.good extent there_left elder
        (λ d l i is. let e = seen d (disks c) old.disks i still in let x = elder d.uuid l is in like_long old was d e.0 x.0 l e.1 e.2 x.1 x.2 (own_left d.uuid l is))

  -- ---- where a log begins, with the numbers 0

  module _ (begun : Log) (untagged : begun.tag ≡ 0) (since_none : begun.since ≡ 0) (numbered : IsLogOf c begun.disk None ⊎ (0 < c.table.sequence))
      (either : (l : Log) → In l new.shape.logs → (l ≡ begun) ⊎ In l old.shape.logs) (more : (l : Log) → In l old.shape.logs → In l new.shape.logs)
      (same_extent : new.shape.extent ≡ old.shape.extent) (still : map face (disks c) ≡ map face new.disks) where
    abbrev HasNewer : Log → Type 0
    HasNewer l = log_at c l.disk ≡ Some l → (m : Log) × In m new.shape.logs × IsLogLike m l × (l.tag < c.table.sequence) × (l.since < c.table.sequence)

    old_newer : (l : Log) → In l old.shape.logs → HasNewer l
    old_newer l i is = (l, more l i, like_same l, omega (arith, (was.good.good l i).tag, later), omega (arith, (was.good.good l i).since, later))

    -- the new log itself is left only where the number is above 0
    begun_number : (l : Log) → l ≡ begun → log_at c l.disk ≡ Some l → 0 < c.table.sequence
    begun_number l same is = ⊎_elim (λ none. absurd (none-some l (sym none.read ∙ ap (λ (x : Log). log_at c x.disk) (sym same) ∙ is))) (λ above. above) numbered

    new_newer : (l : Log) → In l new.shape.logs → HasNewer l
    new_newer l i is = ⊎_elim
        (λ same. let above = begun_number l same is in (l, i, like_same l, omega (arith, ap (λ (x : Log). x.tag) same, untagged, above), omega (arith, ap (λ (x : Log). x.since) same, since_none, above)))
        (λ j. old_newer l j is) (either l i)

    -- the since of a log behind the beginning
    low_since : (k : Log) → In k new.shape.logs → (k.since ≡ 0) ⊎ (k.since < old.shape.sequence)
    low_since k j = ⊎_elim (λ same. inl (ap (λ (x : Log). x.since) same ∙ since_none)) (λ i. inr (was.good.good k i).since) (either k j)

    between_newer : (m k l : Log) → In m old.shape.logs → In k new.shape.logs → IsLogBetween m k l → HasNewer l
    between_newer m k l i j b is =
        let low = (was.good.good m i).tag in (
          m,
          more m i,
          record { disk = b.disk; extents = b.extents; tag = b.tag; pieces = b.pieces },
          omega (arith, b.tag, low, later),
          ⊎_elim (λ none. omega (arith, b.since, none, low, later)) (λ less. omega (arith, b.since, less, later)) (low_since k j),
        )

    newer : (u : List ℕ) (l : Log) → log_at c u ≡ Some l → (m : Log) × In m new.shape.logs × IsLogLike m l × (l.tag < c.table.sequence) × (l.since < c.table.sequence)
    newer u l is = from_either HasNewer old_newer new_newer between_newer u l is (ap (log_at c) (own_left u l is) ∙ is)

    pub begun_passes : log_fault c ≡ None
    begun_passes = like_passes c new.shape sound now.good (extent ∙ sym same_extent) there_left newer
        (λ d l i is. let e = seen d (disks c) new.disks i still in let x = newer d.uuid l is in like_long new now d e.0 x.0 l e.1 e.2 x.1 x.2 (own_left d.uuid l is))

-- ---- what a stop leaves of a step

-- disks that are between have the faces of before or of after
pub faces_between : (before : List Disk → Type 0) (old new ds : List Disk) → IsBetween before old new ds → (map face ds ≡ map face old) ⊎ (map face ds ≡ map face new)
faces_between before old new ds (inl still) = inl still.faces
faces_between before old new ds (inr already) = inr already.faces

-- the number of what a stop leaves is no lower than that of before
pub later_left : {S : Type 0} {g : Ghosts S} {a b : S} {most : ℕ} → g.told → StepsOn g most a b → (tab g a).sequence < 2 ^ 48 → (v : VolumeTable) (image : ℕ → List ℕ) → StoreLeaves g b v image → (tab g a).sequence ≤ v.sequence
later_left {S} {g} {a} {b} told steps few v image left = ⊎_elim
    (λ at. let low : IsNoLower (tab g a) v = steps.no_lower_left told v image at in omega (arith, low, few))
    (λ w. let low : IsNoLower (tab g a) v = subst (IsNoLower (tab g a)) (sym w.2.table_is) steps.no_lower in omega (arith, low, few)) left

-- a stop that leaves a content which passes the other checks, with disks and logs between those of before and of after
module _ {S : Type 0} {g : Ghosts S} {a : S} {m : Memory} (h : IsTold g a m) (good : ∥ AreGoodLogs (store_state g a m).shape ∥₁) where
  pub step_passes : {b : S} {most : ℕ} (c : Command) → StepsOn g most a b → CarriesLogs (store_state g a m).shape c
      → ((v : VolumeTable) (image : ℕ → List ℕ) → StoreLeaves g b v image → IsKept (content_in (g.site a) v image)
      × IsBetween (MayShow (g.site a) (StoreLeaves g a)) (store_state g a m).disks (tracked_step (store_state g a m) c).after.disks (disks (content_in (g.site a) v image)))
      → ((v : VolumeTable) (image : ℕ → List ℕ) → StoreLeaves g b v image → IsLoggedBetween (content_in (g.site a) v image) m.logs (tracked_step (store_state g a m) c).after.shape.logs)
      → (v : VolumeTable) (image : ℕ → List ℕ) → StoreLeaves g b v image → log_fault (content_in (g.site a) v image) ≡ None
  unfolding shape_in
  step_passes c steps carries crash logged v image left = ∥∥₁_elim h.orderly.well_formed (hlevel props) (λ w. ∥∥₁_elim good (hlevel props) (λ x.
      let σ : State = store_state g a m in
      let are = are_disks (g.site a) (tab g a) (g.area a) (known m) h.orderly h.ready w in
      let z = crash v image left in
      between_passes (content_in (g.site a) v image) σ (tracked_step σ c).after z.0.sound (record { well = w; are = are; good = x })
      (record { well = tracked_step_keeps_shape σ c w x; are = tracked_keeps_disks σ c w are; good = tracked_step_keeps_logs σ c w x }) refl (later_left h.told steps h.orderly.table.sequence v image left)
      (faces_between (MayShow (g.site a) (StoreLeaves g a)) σ.disks (tracked_step σ c).after.disks (disks (content_in (g.site a) v image)) z.1) (logged v image left) (step_carried σ c carries)))

  -- a store between two steps: whatever a stop leaves is kept, and passes the check of logs
  pub kept_passes : KeepsAll (g.site a) (StoreLeaves g a)
  unfolding shape_in
  kept_passes v image left = record {
    kept = kept_ready h v image left;
    passes = ∥∥₁_elim h.orderly.well_formed (hlevel props) (λ w. ∥∥₁_elim good (hlevel props) (λ x.
        let σ : State = store_state g a m in
        let now : IsGoodState σ = record { well = w; are = are_disks (g.site a) (tab g a) (g.area a) (known m) h.orderly h.ready w; good = x } in
        let is = ap (λ (t : VolumeTable). t.sequence) (left_choice g.told (g.site a) (tab g a) (g.area a) (g.leaves a) (g.failed a) h.now v image left).table_is in
        between_passes (content_in (g.site a) v image) σ σ (kept_ready h v image left).sound now now refl (omega (arith, is))
        (inl (faces_ready h (disks (content_in (g.site a) v image)) (record { table = v; image = image; left = left; shown = refl })))
        (λ u. (log_of u m.logs, logs_stop g a (logs_told h) h.orderly.table h.now v image left u, inl refl)) (same_carried σ σ refl)));
  }
