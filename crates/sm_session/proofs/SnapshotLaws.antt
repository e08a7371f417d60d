-- A snapshot is made of a tracked disk, and then the disk's log is split: what they make together.
use Rattle.std.proofs.Common.{◌≡◌, ◌≢◌, inl, inr, ⊎_elim, zero, suc, ℕ, ◌-◌, ◌*◌, ◌<◌, ◌≤◌, ◌^◌, List, length, Option, Some, None, Result, Ok, Err, refl, sym, ap, ap₂, ◌∙◌, subst, arith}
use Rattle.std.proofs.Math.Logic.{∥∥₁_elim}
use Rattle.std.proofs.Props.{props}
use Rattle.std.proofs.lemmas.Bool.{leb-false}
use Rattle.std.proofs.lemmas.Option.{same_Some}
use Rattle.common_laws.specs.Lists.{In}
use Rattle.sm_base.proofs.NumberLemmas.{div_up-pos}
use Rattle.sm_base.specs.declared.faults.Failed.{Failed}
use Rattle.sm_log.specs.Logs.{Log, begun_anew, log_of, on_log, split as split_logs, split_of, twin_log, with_log}
use Rattle.sm_machine.proofs.Attaches.{is_its_image}
use Rattle.sm_machine.proofs.Fresh.{no_record}
use Rattle.sm_machine.proofs.Guests.{disk_image_is}
use Rattle.sm_machine.proofs.LogDisks.{its_record}
use Rattle.sm_machine.proofs.LogRoom.{tracked_room}
use Rattle.sm_machine.proofs.Passed.{passed}
use Rattle.sm_machine.proofs.Steps.{at_least_eight, risen-above, snapshot_facts}
use Rattle.sm_machine.proofs.Tracked.{next_beside, tracked_keeps_disks, tracked_step_keeps_shape}
use Rattle.sm_machine.proofs.TrackedLogs.{tracked_step_keeps_logs}
use Rattle.sm_machine.specs.Commits.{commits, is_given_up, own_commits}
use Rattle.sm_machine.specs.Disks.{Disk}
use Rattle.sm_machine.specs.Refusals.{is_spent, is_taken, log_need, new_uuid, of_log, refusal}
use Rattle.sm_machine.specs.Shapes.{Shape, disk_image, free}
use Rattle.sm_machine.specs.Steps.{Outcome, State, accepted, disks_next, reply_to, shape_next, step}
use Rattle.sm_machine.specs.Tracking.{AreGoodLogs, AreOfSnapshots, log_commits, logs_after, tracked_step, with_logs, with_tracked}
use Rattle.sm_machine.specs.WellFormed.{IsWellFormed, record_of}
use Rattle.sm_machine.specs.declared.commands.Command.{Command}
use Rattle.sm_machine.specs.declared.commands.Command.TheVariants as command
use Rattle.sm_machine.specs.declared.replies.Reply.{Reply}
use Rattle.sm_machine.specs.declared.replies.Reply.TheVariants.{Done}
use Rattle.sm_run.specs.Between.{IsBetween}
use Rattle.sm_standing.specs.Keeping.{IsKept}
use Rattle.sm_standing.specs.Logs.{IsLogged}
use Rattle.sm_standing.specs.Standing.{disks}
use Rattle.vg_meta.specs.Tables.{VolumeTable}
use Rattle.vg_volumes.specs.Sites.{Site}
use Rattle.vg_volumes.specs.declared.stores.Store.{Ghosts}
use Rattle.sm_ready.proofs.ChainLaws.{tab}
use Rattle.sm_ready.proofs.DiskShape.{are_disks}
use Rattle.sm_ready.proofs.LogRows.{log_in_list}
use Rattle.sm_ready.proofs.TakenLaws.{IsTold, step_accepted}
use Rattle.sm_ready.specs.Does.{store_shape}
use Rattle.sm_ready.specs.Framing.{StepsOn}
use Rattle.sm_ready.specs.Known.{known, shape_in}
use Rattle.sm_ready.specs.Ready.{IsReady}
use Rattle.sm_ready.specs.Sessions.{IsReadyStore, state_in, store_state}
use Rattle.sm_ready.specs.Stores.{MayShow, StoreLeaves, content_in}
use Rattle.sm_ready.specs.Taken.{StoreTakes}
use Rattle.sm_ready.specs.declared.memory.Memory.{Memory}
use Rattle.sm_tracking.specs.Rooms.{CanSplit, IsRoomFor}
use Rattle.sm_tracking.specs.Tracking.{HasChangedLogs, IsLoggedBetween}
use Rattle.sm_tracking.specs.declared.rooms.Room.{Room}
use Rattle.sm_session.proofs.LoggedLaws.{Crashes, Passes, later_crash, later_logged, later_stepped, later_stopped, logs_behind, step_same, still_logged, tracked_behind}
use Rattle.sm_session.proofs.PassLaws.{CarriesLogs, IsGoodState, faces_between, front_passes, later_left, like_split, split_passes}
use Rattle.sm_session.specs.Stepped.{StoreSteps}
use Rattle.sm_session.specs.Truth.{AreTaken, AreTold, LeavesTold, StandIn}
use Rattle.sm_session.proofs.ShownLaws.{AreBetween, Behind, later_shown, split_tells, still_tells}
use Rattle.sm_session.proofs.TagLaws.{split_taken}
use Rattle.sm_session.proofs.ToldLaws.{snapshot_still}
use Rattle.sm_session.proofs.TruthLaws.{IsOfSplit, logged_in, split_left}
use Rattle.sm_machine.proofs.TrackedSnapshots.{tracked_step_keeps_snapshots}
use Rattle.sm_machine.specs.Runs.{HasSector, is_accepted, is_settling}
use Rattle.sm_ready.proofs.ShowLaws.{settled_ready}

-- ---- the machine's snapshot

-- the number rises
snapshot_raises : (s : Shape) (u twin : List ℕ) → refusal s (command.Snapshot u twin) ≡ None → s.sequence < (shape_next s (command.Snapshot u twin)).sequence
unfolding shape_next commits own_commits is_spent new_uuid
snapshot_raises s u twin passes =
    let small : s.sequence < 2 ^ 48 - 16 = leb-false (2 ^ 48 - 16) s.sequence (snapshot_facts s u twin (passed s (command.Snapshot u twin) passes)).not_spent in
    risen-above s.sequence _ small (at_least_eight (is_given_up s (command.Snapshot u twin)))

-- a disk of so many blocks has a piece
positive : (a b : ℕ) → 0 < a → 0 < b → 0 < a * b
positive zero b e f = absurd (omega (arith, e))
positive (suc a) zero e f = absurd (omega (arith, f))
positive (suc a) (suc b) e f = omega arith

-- a good log has a bit at least
some_bits : (s : Shape) → IsWellFormed s → AreGoodLogs s → (l : Log) → In l s.logs → 1 ≤ length l.bits
some_bits s w good l i =
    let g = good.good l i in
    let k = w.disks g.disk.0 g.disk.1 in
    let row = k.0 in
    let found : disk_image l.disk s ≡ Some row = disk_image_is s w l.disk row k.1 (is_its_image row l.disk k.2 (k.3 ∙ g.disk.2)) in
    let size = (w.images row k.1).whole in
    let some : 0 < size.0 * s.block = positive size.0 s.block size.2 (omega (arith, w.geometry.block_least)) in
    subst (λ (n : ℕ). 1 ≤ n) (sym (g.pieces row found)) (div_up-pos row.size 128 (omega arith) (subst (λ (n : ℕ). 0 < n) (sym size.1) some))

module _ {S : Type 0} {g : Ghosts S} {a : S} {m : Memory} (h : IsTold g a m) (good : ∥ AreGoodLogs (store_state g a m).shape ∥₁) (u twin : List ℕ) (own : Log) (found : log_of u m.logs ≡ Some own)
    (passes : refusal (store_state g a m).shape (command.Snapshot u twin) ≡ None) where
  abbrev snapshot : Command
  snapshot = command.Snapshot u twin

  abbrev was : State
  was = store_state g a m

  abbrev now : Outcome
  now = tracked_step was (command.Snapshot u twin)

  abbrev its : List Log
  its = with_log (twin_log twin (tab g a).sequence own) (on_log u (begun_anew (tab g a).sequence) m.logs)

  behind : now ≡ with_tracked was.shape snapshot (step was snapshot)
  behind = tracked_behind was snapshot passes

  after_logs : logs_after was.shape snapshot ≡ its
  unfolding logs_after shape_in
  after_logs = ap (λ (o : Option Log). split_of u twin (tab g a).sequence o m.logs) found

  logs_are : now.after.shape.logs ≡ its
  logs_are = logs_behind was snapshot passes ∙ after_logs

  same_extent : now.after.shape.extent ≡ was.shape.extent
  unfolding accepted
  same_extent = ap (λ (o : Outcome). o.after.shape.extent) behind ∙ ap (λ (o : Outcome). o.after.shape.extent) (step_accepted was snapshot passes) ∙ (next_beside was.shape snapshot).extent

  -- by states whose logs are known to be good
  module _ (w : IsWellFormed was.shape) (x : AreGoodLogs was.shape) where
    old_good : IsGoodState was
    old_good = record { well = w; are = are_disks (g.site a) (tab g a) (g.area a) (known m) h.orderly h.ready w; good = x }

    new_good : IsGoodState now.after
    new_good = record {
      well = tracked_step_keeps_shape was snapshot w x;
      are = tracked_keeps_disks was snapshot w old_good.are;
      good = tracked_step_keeps_logs was snapshot w x;
    }

    -- the twin is no disk yet
    fresh : (d : Disk) → In d was.disks → d.uuid ≢ twin
    unfolding is_taken new_uuid
    fresh d i same = no_record was.shape w twin (passed was.shape snapshot passes).taken (record_of d) (its_record was.disks was.shape w old_good.are d i) same

  -- ---- in front of the split

  front_whole : {b : S} {most : ℕ} (n : Memory) → StepsOn g most a b → n.logs ≡ m.logs → Crashes h good b snapshot → ((v : VolumeTable) (image : ℕ → List ℕ) → StoreLeaves g b v image → IsLogged (content_in (g.site a) v image) n.logs)
      → Passes h good b
  unfolding shape_in
  front_whole n steps same crash logged v image left = ∥∥₁_elim h.orderly.well_formed (hlevel props) (λ w. ∥∥₁_elim good (hlevel props) (λ x.
      let z = crash v image left in
      front_passes (content_in (g.site a) v image) was now.after z.0.sound (old_good w x) (new_good w x) refl (later_left h.told steps h.orderly.table.sequence v image left)
      (faces_between (MayShow (g.site a) (StoreLeaves g a)) was.disks now.after.disks (disks (content_in (g.site a) v image)) z.1) (subst (IsLogged (content_in (g.site a) v image)) same (logged v image left))
      (λ l i. let k = like_split u (twin_log twin (tab g a).sequence own) (tab g a).sequence m.logs l i in (k.0, subst (In k.0) (sym logs_are) k.1, k.2))))

  -- whatever a stop leaves of the fork, as the step tells it
  fork_crash : (b : S) (n : Memory) (r : Result Reply Failed) → StoreTakes g snapshot a m b n r → Crashes h good b snapshot
  fork_crash b n r t = subst (λ (o : Outcome). (v : VolumeTable) (image : ℕ → List ℕ) → StoreLeaves g b v image → IsKept (content_in (g.site a) v image)
      × IsBetween (MayShow (g.site a) (StoreLeaves g a)) was.disks o.after.disks (disks (content_in (g.site a) v image))) (sym behind) t.crash

  -- ---- what logs tell

  -- a log that a stop leaves of the snapshot
  abbrev IsLeft : Log → Type 0
  IsLeft l = IsOfSplit u own (twin_log twin (tab g a).sequence own) (tab g a).sequence m.logs l

  taken_left : (b : S) → AreBetween h b now.after.disks → AreOfSnapshots was.shape → (v : VolumeTable) (image : ℕ → List ℕ) → StoreLeaves g b v image → (ls : List Log)
      → (IsWellFormed was.shape → AreGoodLogs was.shape → (l : Log) → In l ls → IsLeft l) → AreTaken (disks (content_in (g.site a) v image)) ls
  unfolding shape_in
  taken_left b between marked v image left ls each = ∥∥₁_elim h.orderly.well_formed (hlevel props) (λ w. ∥∥₁_elim good (hlevel props) (λ x.
      let ds : List Disk = disks (content_in (g.site a) v image) in
      split_taken ds was now.after u twin (tab g a).sequence own (log_in_list m.logs u own found).0 (old_good w x) (new_good w x) marked (tracked_step_keeps_snapshots was snapshot w x marked)
      (faces_between (MayShow (g.site a) (StoreLeaves g a)) was.disks now.after.disks ds (between v image left)) logs_are (fresh w x)
      (λ l i. (let k = like_split u (twin_log twin (tab g a).sequence own) (tab g a).sequence m.logs l i in (k.0, subst (In k.0) (sym logs_are) k.1, k.2))) ls (each w x)))

  fork_told : (b : S) (n : Memory) → Crashes h good b snapshot → n.logs ≡ m.logs → ((v : VolumeTable) (image : ℕ → List ℕ) → StoreLeaves g b v image → IsLogged (content_in (g.site a) v image) n.logs)
      → AreTold (g.site a) (StoreLeaves g a) was.shape → LeavesTold (g.site a) (StoreLeaves g b)
  unfolding shape_in
  fork_told b n crash same logged told v image left ls stand =
      let between : AreBetween h b now.after.disks = λ y i l. (crash y i l).1 in
      let there : (l : Log) → In l ls → In l m.logs = λ l i. subst (In l) same (logged_in (content_in (g.site a) v image) n.logs ls (logged v image left) stand l i) in (
        taken_left b between told.taken v image left ls (λ w x l i. inr (inl (there l i))),
        ∥∥₁_elim h.orderly.well_formed (hlevel props) (λ w. ∥∥₁_elim good (hlevel props) (λ x. still_tells h (old_good w x) told.tells b snapshot ls (snapshot_still u twin) between there)),
      )

  -- the fork failed
  pub fork_stopped : {b : S} {most : ℕ} (n : Memory) (f : Failed) → StepsOn g most a b → n.logs ≡ m.logs → StoreTakes g snapshot a m b n (Err f) → StoreSteps g snapshot a m b n (Err f)
  fork_stopped {b} n f steps same t = record {
    reply = tt;
    ready = tt;
    settled = tt;
    crash = fork_crash b n (Err f) t;
    logged = still_logged h good n snapshot same t.logged;
    passes = front_whole n steps same (fork_crash b n (Err f) t) t.logged;
    truthful = fork_told b n (fork_crash b n (Err f) t) same t.logged;
  }

  -- memory was wanting for it
  pub fork_poor : {b : S} {most : ℕ} (n : Memory) (y : Reply) → (y ≡ Done → ⊥) → StepsOn g most a b → n.logs ≡ m.logs → StoreTakes g snapshot a m b n (Ok y) → StoreSteps g snapshot a m b n (Ok y)
  unfolding accepted reply_to
  fork_poor {b} n y other steps same t = record {
    reply = ⊎_elim (λ poor. inl poor) (λ whole. absurd (other (whole.0 ∙ ap (λ (o : Outcome). o.reply) (step_accepted was snapshot passes)))) t.reply;
    ready = t.ready;
    settled = t.settled;
    crash = fork_crash b n (Ok y) t;
    logged = still_logged h good n snapshot same t.logged;
    passes = front_whole n steps same (fork_crash b n (Ok y) t) t.logged;
    truthful = fork_told b n (fork_crash b n (Ok y) t) same t.logged;
  }

  -- ---- behind it

  module _ (b : S) (n : Memory) (t : StoreTakes g snapshot a m b n (Ok Done)) (site : g.site b ≡ g.site a) (same : n.logs ≡ m.logs) where
    -- the state is the machine's, without what the snapshot does to logs
    forked : state_in (g.site a) (tab g b) (g.area b) (known n) ≡ (step was snapshot).after
    forked = ⊎_elim (λ poor. absurd (let z = poor.0 in cc)) (λ whole. whole.1) t.reply

    forked_shape : store_shape g b n ≡ shape_next was.shape snapshot
    unfolding accepted
    forked_shape = ap (λ (s : Site). shape_in s (tab g b) (known n)) site ∙ ap (λ (z : State). z.shape) forked ∙ ap (λ (o : Outcome). o.after.shape) (step_accepted was snapshot passes)

    raised : (tab g a).sequence < (tab g b).sequence
    unfolding shape_in
    raised = subst (λ (s : Shape). (tab g a).sequence < s.sequence) (sym forked_shape) (snapshot_raises was.shape u twin passes)

    module _ (r : Room) (count : ℕ) (room : IsRoomFor count m.logs u r) (named : r.log.disk ≡ twin) (tagged : r.log.tag ≡ (tab g a).sequence) where
      its_log : r.log ≡ twin_log r.log.disk r.log.tag own
      its_log = room.room.log ∙ ap (twin_log r.log.disk r.log.tag) (same_Some room.own own (sym room.tracked ∙ found))

      -- there is room for the twin's log
      pub can_split : CanSplit (store_shape g b n) r
      unfolding log_need shape_in
      can_split = record {
        some = ∥∥₁_elim h.orderly.well_formed (hlevel props) (λ w. ∥∥₁_elim good (hlevel props) (λ x.
            subst (λ (l : Log). 1 ≤ length l.bits) (sym its_log) (some_bits was.shape w x own (log_in_list m.logs u own found).0)));
        enough = ∥∥₁_elim h.orderly.well_formed (hlevel props) (λ w.
            subst (λ (s : Shape). r.log.extents ≤ free s) (sym forked_shape) (subst (λ (k : ℕ). k ≤ free (shape_next was.shape snapshot)) (ap (of_log (λ l. l.extents)) found ∙ ap (λ (l : Log). l.extents) (sym its_log))
            (tracked_room was.shape snapshot w passes)));
      }

      aims : split_logs u r.log.disk r.log.tag n.logs ≡ logs_after was.shape snapshot
      unfolding logs_after shape_in
      aims = ap₂ (λ (v : List ℕ) (k : ℕ). split_logs u v k n.logs) named tagged ∙ ap (split_logs u twin (tab g a).sequence) same

      module _ {e : S} {k : Memory} {ok : Type 0} {most : ℕ} (few : (tab g b).sequence < 2 ^ 48) (steps : StepsOn g most b e) (x : HasChangedLogs g b n e k (split_logs u r.log.disk r.log.tag n.logs) ok) where
        split_whole : Passes h good e
        unfolding shape_in
        split_whole v image left = ∥∥₁_elim h.orderly.well_formed (hlevel props) (λ w. ∥∥₁_elim good (hlevel props) (λ y.
            let z = later_crash h good snapshot Done passes t site same aims x v image left in
            let low = later_left h.told steps few v image left in
            split_passes (content_in (g.site a) v image) was now.after z.0.sound (old_good w y) (new_good w y) refl (omega (arith, low, raised))
            (faces_between (MayShow (g.site a) (StoreLeaves g a)) was.disks now.after.disks (disks (content_in (g.site a) v image)) z.1) (later_logged h good snapshot Done passes t site same aims x v image left)
            u twin own found logs_are same_extent (omega (arith, low, raised)) (fresh w y)))

        -- the twin had no log
        no_twin : log_of twin m.logs ≡ None
        no_twin = subst (λ (v : List ℕ). log_of v m.logs ≡ None) named room.absent

        -- behind the fork all lasts, so a stop shows the machine's disks alone
        settled_shown : IsTold g b n → (v : List ℕ) (i : ℕ) (bytes : List ℕ) → Behind h e v i bytes → HasSector (disks_next was.disks was.shape snapshot) v i bytes
        unfolding is_accepted is_settling accepted
        settled_shown later v i bytes s =
            let w = later_shown h b e n k _ ok site x v i bytes s in
            let may : MayShow (g.site b) (StoreLeaves g b) w.0 = subst (λ (y : Site). MayShow y (StoreLeaves g b) w.0) (sym site) w.1 in
            let has : HasSector (store_state g b n).disks v i bytes = (settled_ready later (t.settled refl refl) w.0 may).sectors v i bytes w.2 in
            subst (λ (ds : List Disk). HasSector ds v i bytes)
            (ap (λ (y : Site). (state_in y (tab g b) (g.area b) (known n)).disks) site ∙ ap (λ (z : State). z.disks) forked ∙ ap (λ (o : Outcome). o.after.disks) (step_accepted was snapshot passes)) has

        split_told : IsTold g b n → AreTold (g.site a) (StoreLeaves g a) was.shape → LeavesTold (g.site a) (StoreLeaves g e)
        unfolding shape_in
        split_told later told v image left ls stand =
            let logged : (y : VolumeTable) (i : ℕ → List ℕ) → StoreLeaves g e y i → IsLoggedBetween (content_in (g.site a) y i) m.logs its =
            λ y i l. subst (IsLoggedBetween (content_in (g.site a) y i) m.logs) logs_are (later_logged h good snapshot Done passes t site same aims x y i l) in
            let each : IsWellFormed was.shape → AreGoodLogs was.shape → (l : Log) → In l ls → IsLeft l =
            λ w y. split_left u twin (tab g a).sequence own m.logs found y.one_log no_twin (content_in (g.site a) v image) ls (logged v image left) stand in (
              taken_left e (λ y i l. (later_crash h good snapshot Done passes t site same aims x y i l).1) told.taken v image left ls each,
              ∥∥₁_elim h.orderly.well_formed (hlevel props) (λ w. ∥∥₁_elim good (hlevel props) (λ y. split_tells h (old_good w y) told.tells e u twin own ls found no_twin passes (settled_shown later) (each w y))),
            )

        pub split_stopped : IsTold g b n → (f : Failed) → StoreSteps g snapshot a m e k (Err f)
        split_stopped later f = later_stopped h good snapshot Done passes t site same aims x split_whole (split_told later) f

        pub split_stepped : IsTold g b n → ok → g.site e ≡ g.site a → store_shape g e k ≡ with_logs (split_logs u r.log.disk r.log.tag n.logs) 2 (store_shape g b n) → IsReadyStore g e k → StoreSteps g snapshot a m e k (Ok Done)
        unfolding log_commits shape_in
        split_stepped later fine site_end shaped ready = later_stepped h good snapshot Done passes t site same aims x fine (λ z. (let q = z in cc)) site_end
            (ap (λ (s : Site). shape_in s (tab g e) (known k)) (sym site_end) ∙ shaped
            ∙ ap₂ (λ (ls : List Log) (s : Shape). with_logs ls 2 s) aims (ap (λ (s : Site). shape_in s (tab g b) (known n)) site)
            ∙ ap (λ (j : ℕ). with_logs (logs_after was.shape snapshot) j (shape_in (g.site a) (tab g b) (known n))) (sym (ap (of_log (λ l. 2)) found)))
            split_whole (split_told later) (subst (λ (s : Site). IsReady s (tab g e) (g.area e) (known k)) site_end ready)

-- what a split makes of the logs is the machine's
pub split_logs_are : (u v twin : List ℕ) (k tag : ℕ) {ls ms : List Log} → v ≡ twin → k ≡ tag → ls ≡ ms → split_logs u v k ls ≡ split_logs u twin tag ms
split_logs_are u v twin k tag {ls} {ms} named tagged same = ap₂ (λ (w : List ℕ) (n : ℕ). split_logs u w n ls) named tagged ∙ ap (split_logs u twin tag) same

-- ---- a disk without a log

pub unlogged_carries : (s : Shape) (u twin : List ℕ) → log_of u s.logs ≡ None → CarriesLogs s (command.Snapshot u twin)
unlogged_carries s u twin none passes = (
  λ v w e. subst (λ (x : List ℕ). log_of x s.logs ≡ None) (let z : u ≡ v = (let q = e in cc) in z) none,
  λ v on e. (let q = e in cc),
)

pub step_unlogged : (σ : State) (u twin : List ℕ) → log_of u σ.shape.logs ≡ None → tracked_step σ (command.Snapshot u twin) ≡ step σ (command.Snapshot u twin)
step_unlogged σ u twin none = step_same σ (command.Snapshot u twin) (λ v sector bytes e. absurd (let q = e in cc)) (λ v sector count byte e. absurd (let q = e in cc)) (λ v e. absurd (let q = e in cc))
    (λ v w e. subst (λ (x : List ℕ). log_of x σ.shape.logs ≡ None) (let z : u ≡ v = (let q = e in cc) in z) none) (λ v on e. absurd (let q = e in cc))
