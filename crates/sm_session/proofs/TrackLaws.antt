-- Tracking of a disk begins or ends, and what changed between two disks: what the step tells of it.
use Rattle.std.proofs.Common.{◌≡◌, ◌≢◌, ◌⊎◌, inl, inr, ⊎_elim, ℕ, ◌<◌, ◌^◌, not, Bool, true, false, List, map, Option, Some, None, Result, Ok, Err, refl, sym, ap, ap₂, ◌∙◌, subst, arith}
use Rattle.std.specs.Prelude.{IsSome, is_none, is_some}
use Rattle.std.proofs.Math.Logic.{∥∥₁_elim}
use Rattle.std.proofs.Props.{props}
use Rattle.std.proofs.lemmas.Bool.{true≢false}
use Rattle.common_laws.specs.Lists.{In}
use Rattle.common_laws.proofs.Lists.{In-filter, In-insert, In-insert_old}
use Rattle.sm_base.specs.declared.faults.Failed.{Failed}
use Rattle.sm_base.specs.declared.refusals.Refusal.TheVariants.{NoMemory}
use Rattle.sm_disk.specs.Held.{IsSettled}
use Rattle.sm_log.specs.Logs.{Log, changed, is_log_of, log_before, log_of, new_log, with_log, without_log}
use Rattle.sm_machine.proofs.Passed.{passed}
use Rattle.sm_machine.proofs.Tracked.{tracked_keeps_disks, tracked_step_keeps_shape}
use Rattle.sm_machine.proofs.TrackedLogs.{tracked_step_keeps_logs}
use Rattle.sm_machine.specs.Commits.{gives_up, is_given_up, own_commits}
use Rattle.sm_machine.specs.Disks.{Disk}
use Rattle.sm_machine.specs.Refusals.{disk_pieces, is_tracked, is_untracked, log_room, refusal}
use Rattle.sm_machine.specs.Runs.{face, is_settling}
use Rattle.sm_machine.specs.Shapes.{Shape}
use Rattle.sm_machine.specs.Steps.{Outcome, State, accepted, changed_text, disks_next, reply_to, shape_after, step}
use Rattle.sm_machine.specs.Tracking.{AreGoodLogs, begun, ended, log_commits, logs_after, tracked, tracked_step, with_logs}
use Rattle.sm_machine.specs.WellFormed.{IsWellFormed}
use Rattle.sm_machine.specs.declared.commands.Command.{Command}
use Rattle.sm_machine.specs.declared.commands.Command.TheVariants as command
use Rattle.sm_machine.specs.declared.replies.Reply.{Reply}
use Rattle.sm_machine.specs.declared.replies.Reply.TheVariants.{Changed, Done, No}
use Rattle.sm_standing.specs.Logs.{IsLogOf, IsLogged}
use Rattle.sm_standing.specs.Standing.{disks}
use Rattle.vg_meta.specs.Tables.{VolumeTable}
use Rattle.vg_volumes.specs.Sites.{Site}
use Rattle.vg_volumes.specs.Stored.{OnlyReads}
use Rattle.vg_volumes.specs.declared.stores.Store.{Ghosts}
use Rattle.sm_ready.proofs.ChainLaws.{tab}
use Rattle.sm_ready.proofs.DiskShape.{are_disks}
use Rattle.sm_ready.proofs.FramingLaws.{stays_steps}
use Rattle.sm_ready.proofs.ShowLaws.{faces_ready}
use Rattle.sm_ready.proofs.TakenLaws.{IsTold, step_accepted, step_still, taken_answered, taken_poor}
use Rattle.sm_ready.specs.Does.{store_shape}
use Rattle.sm_ready.specs.Framing.{StepsOn}
use Rattle.sm_ready.specs.Known.{known, shape_in}
use Rattle.sm_ready.specs.Ready.{IsReady, IsTidy}
use Rattle.sm_ready.specs.Refusing.{Recalls}
use Rattle.sm_ready.specs.Sessions.{state_in, store_state}
use Rattle.sm_ready.specs.Stores.{MayShow, StoreLeaves, content_in, content_now}
use Rattle.sm_ready.specs.Taken.{StoreTakes, StoreTakesTo}
use Rattle.sm_ready.specs.declared.memory.Memory.{Memory}
use Rattle.sm_session.proofs.LoggedLaws.{Crashes, Logs, Passes, logs_behind, shown_between, step_same, stepped_same, still_logged, tracked_behind}
use Rattle.sm_session.proofs.PassLaws.{IsGoodState, begun_passes, faces_between, fewer_passes, front_passes, later_left, like_same}
use Rattle.sm_session.specs.Stepped.{StoreSteps}
use Rattle.sm_session.specs.Truth.{AreTold, LeavesTold, StandIn}
use Rattle.sm_session.proofs.ShownLaws.{AreBetween, grown_tells, still_tells}
use Rattle.sm_session.proofs.TagLaws.{HasTagOf, still_taken, tag_same}
use Rattle.sm_session.proofs.ToldLaws.{changed_still, track_still}
use Rattle.sm_session.proofs.TruthLaws.{grown_left, logged_in, origin, with_grow, without_left}
use Rattle.sm_tracking.specs.Tracking.{HasChangedLogs, IsLoggedBetween}
use Rattle.vg_volumes.proofs.StoredLaws.{stays_none}

-- ---- the machine's step

module _ (σ : State) (u : List ℕ) (on : Bool) (passes : refusal σ.shape (command.Track u on) ≡ None) where
  pub track_reply : (tracked_step σ (command.Track u on)).reply ≡ Done
  unfolding accepted reply_to
  track_reply = ap (λ (o : Outcome). o.reply) (tracked_behind σ (command.Track u on) passes) ∙ ap (λ (o : Outcome). o.reply) (step_accepted σ (command.Track u on) passes)

  -- the disks stay, and the shape gets other logs
  pub track_after : σ.shape.sequence < 2 ^ 48
      → (tracked_step σ (command.Track u on)).after ≡ record { disks = σ.disks; shape = with_logs (logs_after σ.shape (command.Track u on)) (log_commits σ.shape (command.Track u on)) σ.shape }
  unfolding disks_next shape_after is_given_up gives_up own_commits
  track_after few =
      ap (λ (o : Outcome). o.after) (tracked_behind σ (command.Track u on) passes)
      ∙ ap (λ (z : State). let y : State = record { disks = z.disks; shape = tracked σ.shape (command.Track u on) z.shape } in y) (step_still σ (command.Track u on) passes few refl refl refl refl)

-- ---- a step that begins or ends tracking

module _ {S : Type 0} {g : Ghosts S} {a : S} {m : Memory} (h : IsTold g a m) (good : ∥ AreGoodLogs (store_state g a m).shape ∥₁) (u : List ℕ) (on : Bool)
    (passes : refusal (store_state g a m).shape (command.Track u on) ≡ None) where
  abbrev was : State
  was = store_state g a m

  abbrev now : Outcome
  now = tracked_step (store_state g a m) (command.Track u on)

  after_is : now.after ≡ record { disks = was.disks; shape = with_logs (logs_after was.shape (command.Track u on)) (log_commits was.shape (command.Track u on)) was.shape }
  unfolding shape_in
  after_is = track_after was u on passes h.orderly.table.sequence

  disks_same : now.after.disks ≡ was.disks
  disks_same = ap (λ (z : State). z.disks) after_is

  extent_same : now.after.shape.extent ≡ was.shape.extent
  extent_same = ap (λ (z : State). z.shape.extent) after_is

  logs_are : now.after.shape.logs ≡ logs_after was.shape (command.Track u on)
  logs_are = logs_behind was (command.Track u on) passes

  -- by states whose logs are known to be good
  module _ (w : IsWellFormed was.shape) (x : AreGoodLogs was.shape) where
    old_good : IsGoodState was
    old_good = record { well = w; are = are_disks (g.site a) (tab g a) (g.area a) (known m) h.orderly h.ready w; good = x }

    new_good : IsGoodState now.after
    new_good = record {
      well = tracked_step_keeps_shape was (command.Track u on) w x;
      are = tracked_keeps_disks was (command.Track u on) w old_good.are;
      good = tracked_step_keeps_logs was (command.Track u on) w x;
    }

  -- what is left of it tells the truth
  abbrev pub Told : S → Type 0
  Told b = AreTold (g.site a) (StoreLeaves g a) was.shape → LeavesTold (g.site a) (StoreLeaves g b)

  -- the disks have the faces from before
  abbrev pub FacesStay : S → Type 0
  FacesStay b = (v : VolumeTable) (image : ℕ → List ℕ) → StoreLeaves g b v image → map face (disks (content_in (g.site a) v image)) ≡ map face was.disks

  -- where each log that is left is one of memory
  pub few_told : (b : S) → FacesStay b → AreBetween h b now.after.disks
      → (IsGoodState was → (v : VolumeTable) (image : ℕ → List ℕ) → StoreLeaves g b v image → (ls : List Log) → StandIn (content_in (g.site a) v image) ls → (l : Log) → In l ls → In l m.logs) → Told b
  unfolding shape_in
  few_told b still between there told v image left ls stand = (
    ∥∥₁_elim h.orderly.well_formed (hlevel props) (λ w. ∥∥₁_elim good (hlevel props) (λ x.
        let i = there (old_good w x) v image left ls stand in
        still_taken (disks (content_in (g.site a) v image)) was (old_good w x) told.taken (still v image left) ls (λ l j tagged. (l, i l j, tag_same l)))),
    ∥∥₁_elim h.orderly.well_formed (hlevel props) (λ w. ∥∥₁_elim good (hlevel props) (λ x.
        still_tells h (old_good w x) told.tells b (command.Track u on) ls (track_still u on) between (there (old_good w x) v image left ls stand))),
  )

  module _ {b : S} {n : Memory} {ls : List Log} {ok : Type 0} (aims : ls ≡ logs_after was.shape (command.Track u on)) (x : HasChangedLogs g a m b n ls ok) where
    track_crash : Crashes h good b (command.Track u on)
    track_crash v image l = (let w = x.crash v image l in (w.0, shown_between h good _ _ w.1))

    track_logged : Logs h good b (command.Track u on)
    track_logged v image l = subst (IsLoggedBetween (content_in (g.site a) v image) m.logs) (aims ∙ sym logs_are) (x.logged v image l)

    -- the disks that a stop shows have the faces from before
    faces_still : (v : VolumeTable) (image : ℕ → List ℕ) → StoreLeaves g b v image → map face (disks (content_in (g.site a) v image)) ≡ map face was.disks
    faces_still v image l = faces_ready h (disks (content_in (g.site a) v image)) (x.crash v image l).1

    -- it failed
    pub track_stopped : Passes h good b → Told b → (f : Failed) → StoreSteps g (command.Track u on) a m b n (Err f)
    track_stopped whole told f = record { reply = tt; ready = tt; settled = tt; crash = track_crash; logged = track_logged; passes = whole; truthful = told }

    -- it succeeded
    module _ (fine : ok) (lasting : IsSettled (g.area b)) (site : g.site b ≡ g.site a)
        (shaped : store_shape g b n ≡ with_logs (logs_after was.shape (command.Track u on)) (log_commits was.shape (command.Track u on)) was.shape) where
      shown : disks (content_now (g.site a) (tab g b) (g.area b)) ≡ was.disks
      shown = ap (λ (s : Site). disks (content_now s (tab g b) (g.area b))) (sym site) ∙ x.shown

      state_is : state_in (g.site a) (tab g b) (g.area b) (known n) ≡ now.after
      state_is = ap₂ (λ (ds : List Disk) (s : Shape). let z : State = record { disks = ds; shape = s } in z) shown (ap (λ (s : Site). shape_in s (tab g b) (known n)) (sym site) ∙ shaped) ∙ sym after_is

      pub track_stepped : Passes h good b → Told b → StoreSteps g (command.Track u on) a m b n (Ok Done)
      track_stepped whole told = record {
        reply = inr (sym (track_reply was u on passes), state_is);
        ready = subst (λ (s : Site). IsReady s (tab g b) (g.area b) (known n)) site (x.ready fine);
        settled = λ yes settles. lasting;
        crash = track_crash;
        logged = track_logged;
        passes = whole;
        truthful = told;
      }

    -- what logs tell, where one goes
    pub ending_told : ls ≡ without_log u m.logs → Told b
    unfolding shape_in
    ending_told are = few_told b faces_still (λ v image l. (track_crash v image l).1)
        (λ now v image left ks stand. without_left (content_in (g.site a) v image) u m.logs ks now.good.one_log (subst (IsLoggedBetween (content_in (g.site a) v image) m.logs) are (x.logged v image left)) stand)

    -- and where one comes
    module _ (begun : Log) (untagged : begun.tag ≡ 0) (since_none : begun.since ≡ 0) (are : ls ≡ with_log begun m.logs) (absent : log_of begun.disk m.logs ≡ None) where
      begun_left : (v : VolumeTable) (image : ℕ → List ℕ) → StoreLeaves g b v image → IsLoggedBetween (content_in (g.site a) v image) m.logs (with_log begun m.logs)
      begun_left v image left = subst (IsLoggedBetween (content_in (g.site a) v image) m.logs) are (x.logged v image left)

      -- a log with a tag that is left has that of one of memory
      tag_left : (v : VolumeTable) (image : ℕ → List ℕ) → StoreLeaves g b v image → (ks : List Log) → StandIn (content_in (g.site a) v image) ks → (l : Log) → In l ks → l.tag ≢ 0 → (k : Log) × In k m.logs × HasTagOf k l
      unfolding with_log
      tag_left v image left ks stand l i tagged = ⊎_elim (λ early. (l, early, tag_same l))
          (λ w. ⊎_elim
          (λ late. ⊎_elim (λ e. absurd (tagged (ap (λ (y : Log). y.tag) e ∙ untagged))) (λ j. (l, j, tag_same l)) (In-insert log_before begun m.logs l late))
          (λ both. (both.was, both.in_old, record { disk = both.between.disk; tag = both.between.tag })) w)
          (origin (content_in (g.site a) v image) m.logs (with_log begun m.logs) (begun_left v image left) l (stand l i))

      pub beginning_told : Told b
      unfolding shape_in
      beginning_told told v image left ks stand = (
        ∥∥₁_elim h.orderly.well_formed (hlevel props) (λ w. ∥∥₁_elim good (hlevel props) (λ y.
            still_taken (disks (content_in (g.site a) v image)) was (old_good w y) told.taken (faces_still v image left) ks (tag_left v image left ks stand))),
        ∥∥₁_elim h.orderly.well_formed (hlevel props) (λ w. ∥∥₁_elim good (hlevel props) (λ y.
            grown_tells h (old_good w y) told.tells b n ls ks ok x
            (grown_left (content_in (g.site a) v image) m.logs (with_log begun m.logs) ks y.one_log (with_grow begun m.logs absent untagged since_none) (begun_left v image left) stand))),
      )

    -- what the check of logs finds, where no log comes
    pub ending_passes : {most : ℕ} → ((l : Log) → In l ls → In l m.logs) → StepsOn g most a b → Passes h good b
    unfolding shape_in
    ending_passes fewer steps v image left = ∥∥₁_elim h.orderly.well_formed (hlevel props) (λ w. ∥∥₁_elim good (hlevel props) (λ y.
        let still = faces_still v image left in
        fewer_passes (content_in (g.site a) v image) was now.after (x.crash v image left).0.sound (old_good w y) (new_good w y) refl (later_left h.told steps h.orderly.table.sequence v image left)
        (inl still) (track_logged v image left) (λ l i. fewer l (subst (In l) (logs_are ∙ sym aims) i)) still))

    -- and where one comes
    pub beginning_passes : {most : ℕ} (begun : Log) → begun.tag ≡ 0 → begun.since ≡ 0 → ls ≡ with_log begun m.logs
        → ((v : VolumeTable) (image : ℕ → List ℕ) → StoreLeaves g b v image → IsLogOf (content_in (g.site a) v image) begun.disk None ⊎ (0 < v.sequence)) → StepsOn g most a b → Passes h good b
    unfolding shape_in with_log
    beginning_passes begun untagged since_none are numbered steps v image left = ∥∥₁_elim h.orderly.well_formed (hlevel props) (λ w. ∥∥₁_elim good (hlevel props) (λ y.
        let still = faces_still v image left in
        let all : now.after.shape.logs ≡ with_log begun m.logs = logs_are ∙ sym aims ∙ are in
        begun_passes (content_in (g.site a) v image) was now.after (x.crash v image left).0.sound (old_good w y) (new_good w y) refl (later_left h.told steps h.orderly.table.sequence v image left)
        (inl still) (track_logged v image left) begun untagged since_none (numbered v image left)
        (λ l i. In-insert log_before begun m.logs l (subst (In l) all i)) (λ l i. subst (In l) (sym all) (In-insert_old log_before begun m.logs l i))
        extent_same (still ∙ ap (λ (ds : List Disk). map face ds) (sym disks_same))))

-- memory was wanting for a log, and nothing was done
module _ {S : Type 0} {g : Ghosts S} {a : S} {m : Memory} (h : IsTold g a m) (good : ∥ AreGoodLogs (store_state g a m).shape ∥₁) (u : List ℕ) (on : Bool)
    (passes : refusal (store_state g a m).shape (command.Track u on) ≡ None) where
  pub track_poor : {b : S} {most : ℕ} (n : Memory) → StepsOn g most a b → OnlyReads g a b → ((t : VolumeTable) (image : ℕ → List ℕ) → g.leaves b t image → g.leaves a t image) → n ≡ m
      → StoreSteps g (command.Track u on) a m b n (Ok (No NoMemory))
  unfolding shape_in
  track_poor {b} n steps reads fewer same =
      let o : Outcome = tracked_step (store_state g a m) (command.Track u on) in
      let w : StoreTakesTo (tracked_step (store_state g a m) (command.Track u on)) g (command.Track u on) a m b n (Ok (No NoMemory)) = taken_poor h (command.Track u on) n reads fewer same in
      let logs = ap (λ (k : Memory). k.logs) same in
      record {
        reply = w.reply;
        ready = w.ready;
        settled = w.settled;
        crash = w.crash;
        logged = still_logged h good n (command.Track u on) logs w.logged;
        passes = λ v image left. ∥∥₁_elim h.orderly.well_formed (hlevel props) (λ x. ∥∥₁_elim good (hlevel props) (λ y.
            let z = w.crash v image left in
            let whole = old_good h good u on passes x y in
            front_passes (content_in (g.site a) v image) (store_state g a m) (store_state g a m) z.0.sound whole whole refl (later_left h.told steps h.orderly.table.sequence v image left)
            (⊎_elim (λ e. inl e) (λ e. inl (e ∙ ap (λ (ds : List Disk). map face ds) (disks_same h good u on passes)))
            (faces_between (MayShow (g.site a) (StoreLeaves g a)) (store_state g a m).disks o.after.disks (disks (content_in (g.site a) v image)) z.1))
            (subst (IsLogged (content_in (g.site a) v image)) logs (w.logged v image left)) (λ l i. (l, i, like_same l))));
        truthful = few_told h good u on passes b
            (λ v image left. ⊎_elim (λ e. e) (λ e. e ∙ ap (λ (ds : List Disk). map face ds) (disks_same h good u on passes))
            (faces_between (MayShow (g.site a) (StoreLeaves g a)) (store_state g a m).disks o.after.disks (disks (content_in (g.site a) v image)) (w.crash v image left).1))
            (λ v image left. (w.crash v image left).1)
            (λ now v image left ls stand l i. subst (In l) logs (logged_in (content_in (g.site a) v image) n.logs ls (w.logged v image left) stand l i));
      }

-- ---- the logs

-- a disk whose tracking ends is tracked
pub log_there : (s : Shape) (u : List ℕ) (on : Bool) → on ≡ false → refusal s (command.Track u on) ≡ None → IsSome (log_of u s.logs)
unfolding is_untracked
log_there s u true off passes = absurd (true≢false off)
log_there s u false off passes = by (log_of u s.logs) (passed s (command.Track u false) passes).untracked
  where
    by : (o : Option Log) → is_none o ≡ false → IsSome o
    by None e = absurd (true≢false e)
    by (Some l) e = refl

-- all logs but one are among those from before
without_within : (u : List ℕ) (logs : List Log) (l : Log) → In l (without_log u logs) → In l logs
without_within u logs l i = (In-filter (λ (x : Log). not (is_log_of u x)) logs l i).0

-- ---- tracking begins

module _ {S : Type 0} {g : Ghosts S} {a : S} {m : Memory} (h : IsTold g a m) (good : ∥ AreGoodLogs (store_state g a m).shape ∥₁) (u : List ℕ) (passes : refusal (store_state g a m).shape (command.Track u true) ≡ None)
    {b : S} {n : Memory} {ok : Type 0} {most : ℕ} (x : HasChangedLogs g a m b n (begun (store_shape g a m) u).logs ok)
    (numbered : (v : VolumeTable) (image : ℕ → List ℕ) → StoreLeaves g b v image → IsLogOf (content_in (g.site a) v image) u None ⊎ (0 < v.sequence)) (steps : StepsOn g most a b) where
  begin_aims : (begun (store_shape g a m) u).logs ≡ logs_after (store_state g a m).shape (command.Track u true)
  unfolding logs_after
  begin_aims = refl

  begin_whole : Passes h good b
  unfolding shape_in
  begin_whole = beginning_passes h good u true passes begin_aims x (new_log u (log_room (store_shape g a m) u) (disk_pieces u (store_shape g a m))) refl refl refl numbered steps

  -- the disk had no log
  no_log_yet : log_of u m.logs ≡ None
  unfolding is_tracked shape_in
  no_log_yet = by (log_of u m.logs) (passed (store_state g a m).shape (command.Track u true) passes).tracked
    where
      by : (o : Option Log) → is_some o ≡ false → o ≡ None
      by None e = refl
      by (Some l) e = absurd (true≢false e)

  begin_told : Told h good u true passes b
  unfolding shape_in
  begin_told = beginning_told h good u true passes begin_aims x (new_log u (log_room (store_shape g a m) u) (disk_pieces u (store_shape g a m))) refl refl refl no_log_yet

  pub begin_stopped : (f : Failed) → StoreSteps g (command.Track u true) a m b n (Err f)
  begin_stopped f = track_stopped h good u true passes begin_aims x begin_whole begin_told f

  pub begin_stepped : ok → IsSettled (g.area b) → g.site b ≡ g.site a → store_shape g b n ≡ begun (store_shape g a m) u → StoreSteps g (command.Track u true) a m b n (Ok Done)
  unfolding logs_after log_commits
  begin_stepped fine lasting site shaped = track_stepped h good u true passes begin_aims x fine lasting site shaped begin_whole begin_told

-- ---- tracking ends

module _ {S : Type 0} {g : Ghosts S} {a : S} {m : Memory} (h : IsTold g a m) (good : ∥ AreGoodLogs (store_state g a m).shape ∥₁) (u : List ℕ) (passes : refusal (store_state g a m).shape (command.Track u false) ≡ None)
    {b : S} {n : Memory} {ok : Type 0} {most : ℕ} (x : HasChangedLogs g a m b n (without_log u m.logs) ok) (steps : StepsOn g most a b) where
  end_aims : without_log u m.logs ≡ logs_after (store_state g a m).shape (command.Track u false)
  unfolding logs_after shape_in
  end_aims = refl

  end_whole : Passes h good b
  end_whole = ending_passes h good u false passes end_aims x (without_within u m.logs) steps

  pub end_stopped : (f : Failed) → StoreSteps g (command.Track u false) a m b n (Err f)
  end_stopped f = track_stopped h good u false passes end_aims x end_whole (ending_told h good u false passes end_aims x refl) f

  pub end_stepped : ok → IsSettled (g.area b) → g.site b ≡ g.site a → store_shape g b n ≡ ended (store_shape g a m) u → StoreSteps g (command.Track u false) a m b n (Ok Done)
  unfolding logs_after log_commits
  end_stepped fine lasting site shaped = track_stepped h good u false passes end_aims x fine lasting site shaped end_whole (ending_told h good u false passes end_aims x refl)

-- ---- what changed

-- its reply
changed_reply : (σ : State) (u n : List ℕ) → refusal σ.shape (command.Changed u n) ≡ None
    → (step σ (command.Changed u n)).reply ≡ Changed (changed_text (disk_pieces u σ.shape) (changed (disk_pieces u σ.shape) u n σ.shape.logs))
unfolding accepted reply_to
changed_reply σ u n passes = ap (λ (o : Outcome). o.reply) (step_accepted σ (command.Changed u n) passes)

changed_after : (σ : State) (u n : List ℕ) → refusal σ.shape (command.Changed u n) ≡ None → σ.shape.sequence < 2 ^ 48 → (step σ (command.Changed u n)).after ≡ σ
unfolding disks_next shape_after is_given_up gives_up own_commits
changed_after σ u n passes few = step_still σ (command.Changed u n) passes few refl refl refl refl

-- it is answered, or memory is wanting
pub changed_stepped : {S : Type 0} {g : Ghosts S} {a : S} {m : Memory} → IsTold g a m → ∥ AreGoodLogs (store_state g a m).shape ∥₁ → IsTidy (tab g a) (known m) → (u n : List ℕ) (y : Reply)
    → refusal (store_state g a m).shape (command.Changed u n) ≡ None
    → (y ≡ No NoMemory) ⊎ ((pieces : ℕ) × Recalls (λ σ. disk_pieces u σ) (known m) pieces × (y ≡ Changed (changed_text pieces (changed pieces u n m.logs))))
    → StoreSteps g (command.Changed u n) a m a m (Ok y)
unfolding is_settling shape_in
changed_stepped {S} {g} {a} {m} h good tidy u n y passes answer =
    let σ : State = store_state g a m in
    let told : (y ≡ No NoMemory) ⊎ (y ≡ (step σ (command.Changed u n)).reply) = ⊎_elim (λ poor. inl poor)
    (λ w. inr (w.2 ∙ ap (λ (k : ℕ). Changed (changed_text k (changed k u n m.logs))) (w.1 (g.site a) (tab g a) h.orderly tidy) ∙ sym (changed_reply σ u n passes))) answer in
    let t : StoreTakes g (command.Changed u n) a m a m (Ok y) = taken_answered h (command.Changed u n) told (changed_after σ u n passes h.orderly.table.sequence) refl in
    stepped_same h good m (command.Changed u n) (Ok y) (stays_steps (stays_none a) (λ told. h.now)) (λ no. ((λ v twin e. absurd (let q = e in cc)), (λ v on e. (let q = e in cc)))) (changed_still u n) refl
    (step_same σ (command.Changed u n) (λ v sector bytes e. absurd (let q = e in cc)) (λ v sector count byte e. absurd (let q = e in cc)) (λ v e. absurd (let q = e in cc))
    (λ v twin e. absurd (let q = e in cc)) (λ v on e. absurd (let q = e in cc))) t
