-- A step between marks and the end of a log: what they make together.
use Rattle.std.proofs.Common.{◌≡◌, ◌⊎◌, inl, inr, ⊎_elim, ℕ, zero, suc, eq-eqb, ◌+◌, ◌-◌, ◌/◌, Bool, true, false, List, length, Option, Some, None, Result, IfOk, Ok, Err, refl, sym, ap, ap₂, ◌∙◌, subst, arith}
use Rattle.std.specs.Prelude.{IfSome, ◌==◌, ◌*◌, ◌≤◌}
use Rattle.std.proofs.Math.Logic.{∥∥₁_elim}
use Rattle.std.proofs.Props.{props}
use Rattle.std.proofs.lemmas.Bool.{or_parts, true≢false}
use Rattle.std.proofs.lemmas.Option.{none-some}
use Rattle.common_laws.specs.Lists.{In}
use Rattle.common_laws.proofs.Bytes.{bytes_eq-same}
use Rattle.common_laws.proofs.Lists.{find-some}
use Rattle.sm_base.proofs.NumberLemmas.{le-div_up}
use Rattle.sm_base.specs.declared.faults.Failed.{Failed}
use Rattle.sm_base.specs.declared.refusals.Refusal.{Refusal}
use Rattle.sm_base.specs.declared.refusals.Refusal.TheVariants.{NoMemory}
use Rattle.vg_meta.specs.Roomy.{table_alone}
use Rattle.vg_meta.specs.Tables.{VolumeTable}
use Rattle.vg_volumes.specs.Sites.{Site}
use Rattle.vg_volumes.specs.declared.stores.Store.{Ghosts}
use Rattle.sm_log.specs.Logs.{Log, is_log_of, log_extents, log_of, on_log, piece_count, split_of, touched, without_log}
use Rattle.sm_machine.specs.declared.commands.Command.{Command}
use Rattle.sm_machine.specs.declared.commands.Command.TheVariants as command
use Rattle.sm_machine.specs.declared.replies.Reply.{Reply}
use Rattle.sm_machine.specs.declared.replies.Reply.TheVariants.{No}
use Rattle.sm_machine.specs.Commits.{commits, gives_up, is_given_up, own_commits}
use Rattle.sm_machine.specs.Disks.{Disk, sector_bytes}
use Rattle.sm_machine.specs.declared.replies.Reply.TheVariants as reply
use Rattle.sm_machine.specs.Refusals.{refusal, forked, images_needed, is_bad_size, is_deep, is_in_use, is_not_attached, is_out_of_range, is_outside, is_raw_disk, is_read_only, is_reserved, is_shrink, is_spent, is_taken, is_too_many, is_tracked, is_unknown, is_untracked, lacks_space, named, need, new_uuid, of_log}
use Rattle.sm_machine.specs.Runs.{is_accepted, takes_memory}
use Rattle.sm_machine.specs.Shapes.{Shape, free, risen}
use Rattle.sm_machine.specs.Steps.{Outcome, State, accepted, disks_next, reply_to, shape_after, shape_next, step}
use Rattle.sm_machine.specs.Tracking.{AreGoodLogs, log_commits, logs_after, tracked, tracked_step, tracked_unless, with_logs, with_tracked}
use Rattle.sm_machine.specs.WellFormed.{IsWellFormed}
use Rattle.sm_machine.proofs.LogDisks.{are_blanks, blanks, disk_there, log_disk}
use Rattle.sm_machine.proofs.LogLists.{extents-on_log}
use Rattle.sm_machine.proofs.Passed.{passed}
use Rattle.sm_machine.proofs.Together.{within}
use Rattle.sm_run.specs.Runs.{may_want_memory}
use Rattle.sm_cbt.specs.Marks.{IsWithinLog}
use Rattle.sm_machine.proofs.Tracked.{unlogged_is_step}
use Rattle.sm_run.specs.Between.{IsBetween}
use Rattle.sm_standing.specs.Keeping.{IsKept}
use Rattle.sm_standing.specs.LogChecks.{log_fault}
use Rattle.sm_standing.specs.Standing.{disks}
use Rattle.sm_ready.specs.Known.{known, shape_in}
use Rattle.sm_ready.specs.Ready.{IsReady}
use Rattle.sm_ready.specs.Sessions.{IsReadyStore, state_in, store_state}
use Rattle.sm_ready.specs.Stores.{MayShow, StoreLeaves, content_in, content_now, store_content}
use Rattle.sm_ready.specs.Taken.{HasTakenTo, StoreTakes, StoreTakesTo}
use Rattle.sm_ready.specs.declared.memory.Memory.{Memory}
use Rattle.sm_ready.proofs.ShowLaws.{faces_ready}
use Rattle.sm_ready.proofs.TakenLaws.{IsTold, step_accepted, taken_poor, taken_refused}
use Rattle.vg_volumes.proofs.StoredLaws.{reads_none, stays_none, works_none}
use Rattle.sm_ready.proofs.FramingLaws.{stays_steps}
use Rattle.sm_ready.specs.Framing.{StepsOn}
use Rattle.sm_standing.specs.Logs.{IsLogOf, IsLogged}
use Rattle.cmd_guest.specs.Writing.{WritesOnly}
use Rattle.sm_base.specs.declared.names.Name.TheVariants.{Cbt}
use Rattle.vg_layout.specs.Places.{record_extents}
use Rattle.vg_volumes.specs.Stored.{Stays, WorksOn}
use Rattle.sm_ready.specs.Does.{store_shape}
use Rattle.sm_session.specs.Carrying.{MarksAndWritesIts, MarksLast, WritesOnlyIts, is_of_logs}
use Rattle.sm_session.specs.Stepped.{StoreSteps}
use Rattle.sm_session.specs.Truth.{AreTold, LeavesTold, StandIn}
use Rattle.sm_session.proofs.PassLaws.{CarriesLogs, kept_passes, step_passes}
use Rattle.sm_session.proofs.ShownLaws.{IsWriteOf}
use Rattle.sm_session.proofs.TellingLaws.{now_told}
use Rattle.sm_session.proofs.ToldLaws.{delete_still, grown_told, marked_told, still_told}
use Rattle.sm_session.proofs.TruthLaws.{Grow, logged_in, without_left}
use Rattle.sm_machine.proofs.TrackedDisks.{writes}
use Rattle.sm_tracking.specs.Tracking.{HasChangedLogs, IsLoggedBetween}

-- ---- the machine's step

tracked_accepted : (σ : State) (c : Command) → refusal σ.shape c ≡ None → tracked_step σ c ≡ with_tracked σ.shape c (accepted σ c)
unfolding tracked_step
tracked_accepted σ c passes = ap (λ (r : Option Refusal). tracked_unless r σ c) passes

-- a command that is not refused: its step, and then what it does to logs
pub tracked_behind : (σ : State) (c : Command) → refusal σ.shape c ≡ None → tracked_step σ c ≡ with_tracked σ.shape c (step σ c)
tracked_behind σ c passes = tracked_accepted σ c passes ∙ ap (with_tracked σ.shape c) (sym (step_accepted σ c passes))

none_split : (u twin : List ℕ) (tag : ℕ) (logs : List Log) (o : Option Log) → o ≡ None → split_of u twin tag o logs ≡ logs
none_split u twin tag logs o e = ap (λ (x : Option Log). split_of u twin tag x logs) e

-- commands that do nothing to logs, where a snapshot is of a disk without one
logs_same : (s : Shape) (c : Command) → ((u : List ℕ) (sector : ℕ) (bytes : List ℕ) → c ≡ command.Write u sector bytes → ⊥) → ((u : List ℕ) (sector count byte : ℕ) → c ≡ command.Fill u sector count byte → ⊥) → ((u : List ℕ) → c ≡ command.Delete u → ⊥)
    → ((u twin : List ℕ) → c ≡ command.Snapshot u twin → log_of u s.logs ≡ None) → ((u : List ℕ) (on : Bool) → c ≡ command.Track u on → ⊥) → (logs_after s c ≡ s.logs) × (log_commits s c ≡ 0)
unfolding logs_after log_commits
logs_same s (command.Create u size raw label) no_write no_fill no_delete none no_track = (refl, refl)
logs_same s (command.Delete u) no_write no_fill no_delete none no_track = absurd (no_delete u refl)
logs_same s (command.Attach u mode) no_write no_fill no_delete none no_track = (refl, refl)
logs_same s (command.Detach u) no_write no_fill no_delete none no_track = (refl, refl)
logs_same s (command.Snapshot u twin) no_write no_fill no_delete none no_track = (none_split u twin s.sequence s.logs (log_of u s.logs) (none u twin refl), ap (of_log (λ (l : Log). 2)) (none u twin refl))
logs_same s (command.Clone u twin) no_write no_fill no_delete none no_track = (refl, refl)
logs_same s (command.Resize u size) no_write no_fill no_delete none no_track = (refl, refl)
logs_same s (command.Label u text) no_write no_fill no_delete none no_track = (refl, refl)
logs_same s (command.Write u sector bytes) no_write no_fill no_delete none no_track = absurd (no_write u sector bytes refl)
logs_same s (command.Fill u sector count byte) no_write no_fill no_delete none no_track = absurd (no_fill u sector count byte refl)
logs_same s (command.Read u sector count) no_write no_fill no_delete none no_track = (refl, refl)
logs_same s (command.Flush u) no_write no_fill no_delete none no_track = (refl, refl)
logs_same s command.Gc no_write no_fill no_delete none no_track = (refl, refl)
logs_same s command.List no_write no_fill no_delete none no_track = (refl, refl)
logs_same s command.Stat no_write no_fill no_delete none no_track = (refl, refl)
logs_same s (command.Track u on) no_write no_fill no_delete none no_track = absurd (no_track u on refl)
logs_same s (command.Changed u n) no_write no_fill no_delete none no_track = (refl, refl)

pub step_same : (σ : State) (c : Command) → ((u : List ℕ) (sector : ℕ) (bytes : List ℕ) → c ≡ command.Write u sector bytes → ⊥) → ((u : List ℕ) (sector count byte : ℕ) → c ≡ command.Fill u sector count byte → ⊥) → ((u : List ℕ) → c ≡ command.Delete u → ⊥)
    → ((u twin : List ℕ) → c ≡ command.Snapshot u twin → log_of u σ.shape.logs ≡ None) → ((u : List ℕ) (on : Bool) → c ≡ command.Track u on → ⊥) → tracked_step σ c ≡ step σ c
step_same σ c no_write no_fill no_delete none no_track = let e = logs_same σ.shape c no_write no_fill no_delete none no_track in unlogged_is_step σ c e.0 e.1

-- ---- marks, and then a write

-- a shape with marks in a disk's log
abbrev pub marked_shape : List ℕ → ℕ → ℕ → Shape → Shape
marked_shape u sector count s = record s { logs = on_log u (touched sector count) s.logs }

twice_risen : (n : ℕ) → risen (risen n 0) 0 ≡ risen n 0
twice_risen n = omega arith

marked_others : (u : List ℕ) (sector count : ℕ) (s : Shape) → s.others + log_extents (on_log u (touched sector count) s.logs) - log_extents s.logs ≡ s.others
marked_others u sector count s = omega (arith, extents-on_log u (touched sector count) (λ l. refl) s.logs)

-- the numbers of a shape
numbered : (s : Shape) (n k others more : ℕ) → n ≡ k → others ≡ more → record s { sequence = n; others = others } ≡ record s { sequence = k; others = more }
numbered s n k others more e f = ap₂ (λ (x y : ℕ). let t : Shape = record s { sequence = x; others = y } in t) e f

write_next : (s : Shape) (u : List ℕ) (sector : ℕ) (bytes : List ℕ) → shape_next (marked_shape u sector (length bytes / sector_bytes) s) (command.Write u sector bytes) ≡ tracked s (command.Write u sector bytes) (shape_next s (command.Write u sector bytes))
unfolding shape_next shape_after is_given_up gives_up commits own_commits logs_after log_commits
write_next s u sector bytes = sym (numbered (shape_next (marked_shape u sector (length bytes / sector_bytes) s) (command.Write u sector bytes)) _ _ _ _ (twice_risen s.sequence) (marked_others u sector (length bytes / sector_bytes) s))

fill_next : (s : Shape) (u : List ℕ) (sector count byte : ℕ) → shape_next (marked_shape u sector count s) (command.Fill u sector count byte) ≡ tracked s (command.Fill u sector count byte) (shape_next s (command.Fill u sector count byte))
unfolding shape_next shape_after is_given_up gives_up commits own_commits logs_after log_commits
fill_next s u sector count byte = sym (numbered (shape_next (marked_shape u sector count s) (command.Fill u sector count byte)) _ _ _ _ (twice_risen s.sequence) (marked_others u sector count s))

write_passes : (s : Shape) (u : List ℕ) (sector : ℕ) (bytes : List ℕ) (logs : List Log) → refusal s (command.Write u sector bytes) ≡ None → refusal (record s { logs = logs }) (command.Write u sector bytes) ≡ None
unfolding refusal is_reserved is_unknown is_taken is_in_use is_not_attached is_read_only is_raw_disk is_tracked is_untracked is_out_of_range is_bad_size is_shrink is_deep is_too_many is_spent lacks_space need named new_uuid forked images_needed free
write_passes s u sector bytes logs h = h

fill_passes : (s : Shape) (u : List ℕ) (sector count byte : ℕ) (logs : List Log) → refusal s (command.Fill u sector count byte) ≡ None → refusal (record s { logs = logs }) (command.Fill u sector count byte) ≡ None
unfolding refusal is_reserved is_unknown is_taken is_in_use is_not_attached is_read_only is_raw_disk is_tracked is_untracked is_out_of_range is_bad_size is_shrink is_deep is_too_many is_spent lacks_space need named new_uuid forked images_needed free
fill_passes s u sector count byte logs h = h

-- a step behind marks
behind_marks : (σ : State) (c : Command) (u : List ℕ) (sector count : ℕ) → refusal σ.shape c ≡ None → refusal (marked_shape u sector count σ.shape) c ≡ None
    → reply_to σ.disks (marked_shape u sector count σ.shape) c ≡ reply_to σ.disks σ.shape c → disks_next σ.disks (marked_shape u sector count σ.shape) c ≡ disks_next σ.disks σ.shape c
    → shape_next (marked_shape u sector count σ.shape) c ≡ tracked σ.shape c (shape_next σ.shape c)
    → step (record { disks = σ.disks; shape = marked_shape u sector count σ.shape }) c ≡ tracked_step σ c
unfolding accepted
behind_marks σ c u sector count passes behind replies same_disks same_shape =
    step_accepted (record { disks = σ.disks; shape = marked_shape u sector count σ.shape }) c behind
    ∙ ap₂ (λ (y : Reply) (z : State). let o : Outcome = record { reply = y; after = z } in o) replies
    (ap₂ (λ (ds : List Disk) (t : Shape). let z : State = record { disks = ds; shape = t } in z) same_disks same_shape)
    ∙ sym (tracked_accepted σ c passes)

pub write_of : {c : Command} {u : List ℕ} {sector : ℕ} {bytes : List ℕ} (n : ℕ) → c ≡ command.Write u sector bytes → n ≡ length bytes → IsWriteOf c u sector (n / sector_bytes)
write_of {bytes = bytes} n is long = inl (bytes, is, ap (λ (k : ℕ). k / sector_bytes) long)

module _ {u : List ℕ} {sector count : ℕ} where
  -- such a command
  pub passes_marked : (c : Command) (s : Shape) (logs : List Log) → IsWriteOf c u sector count → refusal s c ≡ None → refusal (record s { logs = logs }) c ≡ None
  passes_marked c s logs (inl w) h = subst (λ (k : Command). refusal (record s { logs = logs }) k ≡ None) (sym w.1) (write_passes s u sector w.0 logs (subst (λ (k : Command). refusal s k ≡ None) w.1 h))
  passes_marked c s logs (inr w) h = subst (λ (k : Command). refusal (record s { logs = logs }) k ≡ None) (sym w.1) (fill_passes s u sector count w.0 logs (subst (λ (k : Command). refusal s k ≡ None) w.1 h))

  pub logs_marked : (c : Command) (s : Shape) → IsWriteOf c u sector count → logs_after s c ≡ on_log u (touched sector count) s.logs
  unfolding logs_after
  logs_marked c s (inl w) = ap (logs_after s) w.1 ∙ ap (λ (n : ℕ). on_log u (touched sector n) s.logs) (sym w.2)
  logs_marked c s (inr w) = ap (logs_after s) w.1

  pub step_marked : (σ : State) (c : Command) → IsWriteOf c u sector count → refusal σ.shape c ≡ None → step (record { disks = σ.disks; shape = marked_shape u sector count σ.shape }) c ≡ tracked_step σ c
  unfolding reply_to disks_next
  step_marked σ c (inl w) passes =
      subst (λ (k : Command). step (record { disks = σ.disks; shape = marked_shape u sector count σ.shape }) k ≡ tracked_step σ k) (sym w.1)
      (subst (λ (n : ℕ). step (record { disks = σ.disks; shape = marked_shape u sector n σ.shape }) (command.Write u sector w.0) ≡ tracked_step σ (command.Write u sector w.0)) (sym w.2)
      (behind_marks σ (command.Write u sector w.0) u sector (length w.0 / sector_bytes) (ap (refusal σ.shape) (sym w.1) ∙ passes)
      (write_passes σ.shape u sector w.0 (on_log u (touched sector (length w.0 / sector_bytes)) σ.shape.logs) (ap (refusal σ.shape) (sym w.1) ∙ passes)) refl refl (write_next σ.shape u sector w.0)))
  step_marked σ c (inr w) passes =
      subst (λ (k : Command). step (record { disks = σ.disks; shape = marked_shape u sector count σ.shape }) k ≡ tracked_step σ k) (sym w.1)
      (behind_marks σ (command.Fill u sector count w.0) u sector count (ap (refusal σ.shape) (sym w.1) ∙ passes)
      (fill_passes σ.shape u sector count w.0 (on_log u (touched sector count) σ.shape.logs) (ap (refusal σ.shape) (sym w.1) ∙ passes)) refl refl (fill_next σ.shape u sector count w.0))

  -- it never wants memory
  pub never_poor : (c : Command) (s : Shape) → IsWriteOf c u sector count → may_want_memory s c ≡ true → ⊥
  unfolding may_want_memory takes_memory
  never_poor c s (inl w) h = true≢false (sym h ∙ ap (may_want_memory s) w.1)
  never_poor c s (inr w) h = true≢false (sym h ∙ ap (may_want_memory s) w.1)

  -- it has sectors, all within the disk
  pub in_range : (c : Command) (s : Shape) → IsWriteOf c u sector count → refusal s c ≡ None → is_outside s u sector count ≡ false
  unfolding is_out_of_range
  in_range c s (inl w) h =
      ap (is_outside s u sector) w.2 ∙ (or_parts (is_outside s u sector (length w.0 / sector_bytes)) _ (ap (is_out_of_range s) (sym w.1) ∙ (passed s c h).out_of_range)).0
  in_range c s (inr w) h = ap (is_out_of_range s) (sym w.1) ∙ (passed s c h).out_of_range

  pub some_sectors : (c : Command) (s : Shape) → IsWriteOf c u sector count → refusal s c ≡ None → 1 ≤ count
  some_sectors c s w h = by count refl
    where
      by : (n : ℕ) → count ≡ n → 1 ≤ count
      by zero e = absurd (true≢false (sym (eq-eqb count 0 e) ∙ (or_parts (count == 0) _ (in_range c s w h)).0))
      by (suc n) e = omega (arith, e)

  -- its sectors have bits in the disk's log
  pub fits : (c : Command) (s : Shape) → IsWriteOf c u sector count → refusal s c ≡ None → IsWellFormed s → AreGoodLogs s → (l : Log) → In l s.logs → l.disk ≡ u → IsWithinLog sector count l
  fits c s w h well good l at same =
      let d = disk_there (blanks s) s well (are_blanks s well) l.disk (good.good l at).disk in
      let o = log_disk (blanks s) s well (are_blanks s well) l (good.good l at) d.0 d.1 d.2 in
      let r : sector + count ≤ length d.0.sectors = within (blanks s) s well (are_blanks s well) u sector count (in_range c s w h) d.0 d.1 (d.2 ∙ same) in
      let up : length d.0.sectors ≤ piece_count (length d.0.sectors) * 128 = le-div_up (length d.0.sectors) 128 (omega arith) in
      omega (arith, r, up, o.pieces)

  pub fits_log : (c : Command) (s : Shape) → IsWriteOf c u sector count → refusal s c ≡ None → ∥ IsWellFormed s ∥₁ → ∥ AreGoodLogs s ∥₁ → IfSome (log_of u s.logs) (IsWithinLog sector count)
  fits_log c s w h well good = by (log_of u s.logs) refl
    where
      by : (o : Option Log) → log_of u s.logs ≡ o → IfSome o (IsWithinLog sector count)
      by None e = tt
      by (Some l) e =
          let f : In l s.logs × (is_log_of u l ≡ true) = find-some (is_log_of u) s.logs l e in
          ∥∥₁_elim well (hlevel props) (λ x. ∥∥₁_elim good (hlevel props) (λ y. fits c s w h x y l f.0 (bytes_eq-same l.disk u f.1)))

-- what is refused is refused with a cause
pub refused_is : (r : Reply) → is_accepted r ≡ false → (x : Refusal) × (r ≡ No x)
unfolding is_accepted
refused_is (reply.No x) e = (x, refl)
refused_is _ e = absurd (true≢false e)

-- where want of memory is the one cause, and never comes, a reply accepts
pub accepts : (r : Reply) (P : Type 0) → (P → ⊥) → ((x : Refusal) → r ≡ No x → x ≡ NoMemory) → (r ≡ No NoMemory → P) → is_accepted r ≡ false → ⊥
accepts r P never poor spared e =
    let x = refused_is r e in
    never (spared (x.1 ∙ ap No (poor x.0 x.1)))

-- ---- what a stop may show

between_more : (P Q : List Disk → Type 0) → ((ds : List Disk) → P ds → Q ds) → (old new ds : List Disk) → IsBetween P old new ds → IsBetween Q old new ds
between_more P Q more old new ds (inl still) = inl (record { faces = still.faces; sectors = λ u k bytes h. (let w = still.sectors u k bytes h in (w.0, more w.0 w.1, w.2)) })
between_more P Q more old new ds (inr already) = inr (record { faces = already.faces; sectors = λ u k bytes h. ⊎_elim (λ w. inl (w.0, more w.0 w.1, w.2)) (λ w. inr w) (already.sectors u k bytes h) })

-- the machine's logs behind a command that is not refused
pub logs_behind : (σ : State) (c : Command) → refusal σ.shape c ≡ None → (tracked_step σ c).after.shape.logs ≡ logs_after σ.shape c
logs_behind σ c passes = ap (λ (o : Outcome). o.after.shape.logs) (tracked_behind σ c passes)

-- a write carries each log along
pub write_carries : {u : List ℕ} {sector count : ℕ} (c : Command) (s : Shape) → IsWriteOf c u sector count → CarriesLogs s c
write_carries {u} {sector} c s (inl w) passes = (
  λ v twin e. absurd (let z : command.Write u sector w.0 ≡ command.Snapshot v twin = sym w.1 ∙ e in cc),
  λ v on e. (let z : command.Write u sector w.0 ≡ command.Track v on = sym w.1 ∙ e in cc),
)
write_carries {u} {sector} {count} c s (inr w) passes = (
  λ v twin e. absurd (let z : command.Fill u sector count w.0 ≡ command.Snapshot v twin = sym w.1 ∙ e in cc),
  λ v on e. (let z : command.Fill u sector count w.0 ≡ command.Track v on = sym w.1 ∙ e in cc),
)

-- and so does a deletion those of the disks that stay
pub delete_carries : (c : Command) (s : Shape) (u : List ℕ) → c ≡ command.Delete u → CarriesLogs s c
delete_carries c s u is passes = (
  λ v twin e. absurd (let z : command.Delete u ≡ command.Snapshot v twin = sym is ∙ e in cc),
  λ v on e. (let z : command.Delete u ≡ command.Track v on = sym is ∙ e in cc),
)

module _ {S : Type 0} {g : Ghosts S} {a : S} {m : Memory} (h : IsTold g a m) (good : ∥ AreGoodLogs (store_state g a m).shape ∥₁) where
  -- what a stop leaves of a command, and with which logs
  abbrev pub Crashes : S → Command → Type 0
  Crashes b c = (v : VolumeTable) (image : ℕ → List ℕ) → StoreLeaves g b v image → IsKept (content_in (g.site a) v image)
      × IsBetween (MayShow (g.site a) (StoreLeaves g a)) (store_state g a m).disks (tracked_step (store_state g a m) c).after.disks (disks (content_in (g.site a) v image))

  abbrev pub Logs : S → Command → Type 0
  Logs b c = (v : VolumeTable) (image : ℕ → List ℕ) → StoreLeaves g b v image → IsLoggedBetween (content_in (g.site a) v image) m.logs (tracked_step (store_state g a m) c).after.shape.logs

  -- a call that failed
  stopped : {b : S} {most : ℕ} (n : Memory) (c : Command) (f : Failed) → StepsOn g most a b → CarriesLogs (store_state g a m).shape c → Crashes b c → Logs b c → (AreTold (g.site a) (StoreLeaves g a) (store_state g a m).shape → LeavesTold (g.site a) (StoreLeaves g b))
      → StoreSteps g c a m b n (Err f)
  stopped n c f steps carries crash logged told = record {
    reply = tt;
    ready = tt;
    settled = tt;
    crash = crash;
    logged = logged;
    passes = step_passes h good c steps carries crash logged;
    truthful = told;
  }

  -- logs that are those from before
  pub still_logged : {b : S} (n : Memory) (c : Command) → n.logs ≡ m.logs → ((v : VolumeTable) (image : ℕ → List ℕ) → StoreLeaves g b v image → IsLogged (content_in (g.site a) v image) n.logs) → Logs b c
  still_logged n c same logged v image l u = (log_of u m.logs, subst (λ (ls : List Log). IsLogOf (content_in (g.site a) v image) u (log_of u ls)) same (logged v image l u), inl refl)

  -- what a stop leaves of a command that writes no sectors, and leaves the logs
  same_told : {b : S} (n : Memory) (c : Command) → CarriesLogs (store_state g a m).shape c → writes c ≡ false → Crashes b c → n.logs ≡ m.logs → ((v : VolumeTable) (image : ℕ → List ℕ) → StoreLeaves g b v image → IsLogged (content_in (g.site a) v image) n.logs)
      → AreTold (g.site a) (StoreLeaves g a) (store_state g a m).shape → LeavesTold (g.site a) (StoreLeaves g b)
  same_told {b} n c carries still crash same logged =
      still_told h good b c carries (λ v image l. (crash v image l).1) (still_logged n c same logged) still
      (λ _ v image left ls stand l i. subst (In l) same (logged_in (content_in (g.site a) v image) n.logs ls (logged v image left) stand l i))

  -- disks that a stop might have shown are between
  pub shown_between : (new ds : List Disk) → MayShow (g.site a) (StoreLeaves g a) ds → IsBetween (MayShow (g.site a) (StoreLeaves g a)) (store_state g a m).disks new ds
  shown_between new ds may = inl (record { faces = faces_ready h ds may; sectors = λ u k bytes is. (ds, may, is) })

  -- a command that does nothing to logs
  pub stepped_same : {b : S} {most : ℕ} (n : Memory) (c : Command) (r : Result Reply Failed) → StepsOn g most a b → CarriesLogs (store_state g a m).shape c → writes c ≡ false → n.logs ≡ m.logs → tracked_step (store_state g a m) c ≡ step (store_state g a m) c
      → StoreTakes g c a m b n r → StoreSteps g c a m b n r
  stepped_same {b} n c r steps carries still logs same t =
      let w : StoreTakesTo (tracked_step (store_state g a m) c) g c a m b n r = subst (λ (o : Outcome). StoreTakesTo o g c a m b n r) (sym same) t in
      let logged : Logs b c = still_logged n c logs w.logged in
      record {
        reply = w.reply;
        ready = w.ready;
        settled = w.settled;
        crash = w.crash;
        logged = logged;
        passes = step_passes h good c steps carries w.crash logged;
        truthful = same_told n c carries still w.crash logs w.logged;
      }

  -- a call that failed, and left the logs
  pub stopped_same : {b : S} {most : ℕ} (n : Memory) (c : Command) (f : Failed) → StepsOn g most a b → CarriesLogs (store_state g a m).shape c → writes c ≡ false → n.logs ≡ m.logs → refusal (store_state g a m).shape c ≡ None → StoreTakes g c a m b n (Err f)
      → StoreSteps g c a m b n (Err f)
  stopped_same {b} n c f steps carries still logs passes t =
      let crash : Crashes b c =
      subst (λ (ds : List Disk). (v : VolumeTable) (image : ℕ → List ℕ) → StoreLeaves g b v image → IsKept (content_in (g.site a) v image) × IsBetween (MayShow (g.site a) (StoreLeaves g a)) (store_state g a m).disks ds (disks (content_in (g.site a) v image)))
      (ap (λ (o : Outcome). o.after.disks) (sym (tracked_behind (store_state g a m) c passes))) t.crash in
      stopped n c f steps carries crash (still_logged n c logs t.logged) (same_told n c carries still crash logs t.logged)

  -- ---- marks before it

  module _ {b : S} {n : Memory} {ls : List Log} {ok : Type 0} (site : g.site b ≡ g.site a) (x : HasChangedLogs g a m b n ls ok) where
    -- they failed
    pub marks_stopped : {most : ℕ} (c : Command) (f : Failed) → StepsOn g most a b → CarriesLogs (store_state g a m).shape c → ls ≡ (tracked_step (store_state g a m) c).after.shape.logs → Grow m.logs ls → StoreSteps g c a m b n (Err f)
    marks_stopped c f steps carries aims grow =
        let crash : Crashes b c = λ v image l. (let w = x.crash v image l in (w.0, shown_between _ _ w.1)) in
        let logged : Logs b c = λ v image l. subst (IsLoggedBetween (content_in (g.site a) v image) m.logs) aims (x.logged v image l) in
        stopped n c f steps carries crash logged (grown_told h good b c carries (λ v image l. (crash v image l).1) logged n ls ok x grow)

    -- the command behind them
    module _ (e : S) (k : Memory) (c : Command) (r : Result Reply Failed) (same : step (store_state g b n) c ≡ tracked_step (store_state g a m) c) (rich : IfOk r (λ y. y ≡ No NoMemory → ⊥)) where
      abbrev o : Outcome
      o = tracked_step (store_state g a m) c

      placed : StoreTakes g c b n e k r → HasTakenTo o (g.site a) c (table_alone (g.table b)) (g.area b) (known n) (table_alone (g.table e)) (g.area e) (known k) (StoreLeaves g b) (StoreLeaves g e) r
      placed t =
          subst (λ (s : Site). HasTakenTo o s c (table_alone (g.table b)) (g.area b) (known n) (table_alone (g.table e)) (g.area e) (known k) (StoreLeaves g b) (StoreLeaves g e) r) site
          (subst (λ (y : Outcome). StoreTakesTo y g c b n e k r) same t)

      replied : (r : Result Reply Failed) (P : Type 0) → IfOk r (λ y. y ≡ No NoMemory → ⊥) → IfOk r (λ y. ((y ≡ No NoMemory) × P) ⊎ ((y ≡ o.reply) × (state_in (g.site a) (table_alone (g.table e)) (g.area e) (known k) ≡ o.after)))
          → IfOk r (λ y. ((y ≡ No NoMemory) × (state_in (g.site a) (table_alone (g.table e)) (g.area e) (known k) ≡ store_state g a m)) ⊎ ((y ≡ o.reply) × (state_in (g.site a) (table_alone (g.table e)) (g.area e) (known k) ≡ o.after)))
      replied (Ok y) P rich (inl poor) = absurd (rich poor.0)
      replied (Ok y) P rich (inr whole) = inr whole
      replied (Err f) P rich w = tt

      shown_site : disks (content_now (g.site a) (table_alone (g.table b)) (g.area b)) ≡ disks (store_content g a)
      shown_site = ap (λ (s : Site). disks (content_now s (table_alone (g.table b)) (g.area b))) (sym site) ∙ x.shown

      -- what might be shown behind the marks might have been shown before them
      earlier : (ds : List Disk) → MayShow (g.site a) (StoreLeaves g b) ds → MayShow (g.site a) (StoreLeaves g a) ds
      earlier ds may = subst (MayShow (g.site a) (StoreLeaves g a)) (sym may.shown) (x.crash may.table may.image may.left).1

      pub marks_stepped : {most : ℕ} (u : List ℕ) (sector count : ℕ) → IsWriteOf c u sector count → refusal (store_state g a m).shape c ≡ None → StepsOn g most a e → CarriesLogs (store_state g a m).shape c → k.logs ≡ o.after.shape.logs → StoreTakes g c b n e k r
          → StoreSteps g c a m e k r
      unfolding shape_in
      marks_stepped u sector count is passes steps carries aims t =
          let w = placed t in
          let crash : Crashes e c = λ v image l. (let z = w.crash v image l in (
            z.0,
            subst (λ (was : List Disk). IsBetween (MayShow (g.site a) (StoreLeaves g a)) was o.after.disks (disks (content_in (g.site a) v image))) shown_site
                (between_more (MayShow (g.site a) (StoreLeaves g b)) (MayShow (g.site a) (StoreLeaves g a)) earlier _ _ _ z.1),
          )) in
          let logged : Logs e c = λ v image l u. (log_of u k.logs, w.logged v image l u, inr (inl (ap (log_of u) aims))) in
          let marked : k.logs ≡ on_log u (touched sector count) m.logs = aims ∙ logs_behind (store_state g a m) c passes ∙ logs_marked c (store_state g a m).shape is in
          record {
            reply = replied r _ rich w.reply;
            ready = w.ready;
            settled = w.settled;
            crash = crash;
            logged = logged;
            passes = step_passes h good c steps carries crash logged;
            truthful = marked_told h good e c carries (λ v image l. (crash v image l).1) logged u sector count is passes
                (λ v image left ls stand l i. subst (In l) marked (logged_in (content_in (g.site a) v image) k.logs ls (w.logged v image left) stand l i));
          }

  -- ---- a call that changes logs behind it

  -- whatever a stop leaves passes the check of logs
  abbrev pub Passes : S → Type 0
  Passes b = (v : VolumeTable) (image : ℕ → List ℕ) → StoreLeaves g b v image → log_fault (content_in (g.site a) v image) ≡ None

  module _ {b e : S} {n k : Memory} {ls : List Log} {ok : Type 0} (c : Command) (y : Reply) (passes : refusal (store_state g a m).shape c ≡ None) (t : StoreTakes g c a m b n (Ok y)) (site : g.site b ≡ g.site a) (logs : n.logs ≡ m.logs)
      (aims : ls ≡ logs_after (store_state g a m).shape c) (x : HasChangedLogs g b n e k ls ok) where
    abbrev was : State
    was = store_state g a m

    abbrev now : Outcome
    now = tracked_step was c

    behind : now ≡ with_tracked was.shape c (step was c)
    behind = tracked_behind was c passes

    stops : (v : VolumeTable) (image : ℕ → List ℕ) → StoreLeaves g e v image → IsKept (content_in (g.site a) v image) × MayShow (g.site a) (StoreLeaves g b) (disks (content_in (g.site a) v image))
    stops = subst (λ (s : Site). (v : VolumeTable) (image : ℕ → List ℕ) → StoreLeaves g e v image → IsKept (content_in s v image) × MayShow s (StoreLeaves g b) (disks (content_in s v image))) site x.crash

    pub later_crash : Crashes e c
    later_crash v image l =
        let z = stops v image l in
        let may = z.1 in (
          z.0,
          subst (λ (ds : List Disk). IsBetween (MayShow (g.site a) (StoreLeaves g a)) was.disks ds (disks (content_in (g.site a) v image))) (ap (λ (o : Outcome). o.after.disks) (sym behind))
              (subst (IsBetween (MayShow (g.site a) (StoreLeaves g a)) was.disks (step was c).after.disks) (sym may.shown) (t.crash may.table may.image may.left).1),
        )

    pub later_logged : Logs e c
    later_logged v image l = subst (IsLoggedBetween (content_in (g.site a) v image) m.logs) (aims ∙ sym (logs_behind was c passes))
        (subst (λ (s : Site). IsLoggedBetween (content_in s v image) m.logs ls) site
        (subst (λ (ms : List Log). IsLoggedBetween (content_in (g.site b) v image) ms ls) logs (x.logged v image l)))

    -- what is left of it is told
    abbrev pub LaterTold : Type 0
    LaterTold = AreTold (g.site a) (StoreLeaves g a) was.shape → LeavesTold (g.site a) (StoreLeaves g e)

    pub later_stopped : Passes e → LaterTold → (f : Failed) → StoreSteps g c a m e k (Err f)
    later_stopped whole told f = record { reply = tt; ready = tt; settled = tt; crash = later_crash; logged = later_logged; passes = whole; truthful = told }

    -- it succeeded
    module _ (fine : ok) (rich : y ≡ No NoMemory → ⊥) (site_end : g.site e ≡ g.site a)
        (shaped : shape_in (g.site a) (table_alone (g.table e)) (known k) ≡ with_logs (logs_after was.shape c) (log_commits was.shape c) (shape_in (g.site a) (table_alone (g.table b)) (known n))) where
      shown : disks (content_now (g.site a) (table_alone (g.table e)) (g.area e)) ≡ disks (content_now (g.site a) (table_alone (g.table b)) (g.area b))
      shown = ap (λ (s : Site). disks (content_now s (table_alone (g.table e)) (g.area e))) (sym site_end) ∙ x.shown ∙ ap (λ (s : Site). disks (content_now s (table_alone (g.table b)) (g.area b))) site

      after : state_in (g.site a) (table_alone (g.table b)) (g.area b) (known n) ≡ (step was c).after → state_in (g.site a) (table_alone (g.table e)) (g.area e) (known k) ≡ now.after
      after q =
          ap₂ (λ (ds : List Disk) (s : Shape). let z : State = record { disks = ds; shape = s } in z) (shown ∙ ap (λ (z : State). z.disks) q)
          (shaped ∙ ap (with_logs (logs_after was.shape c) (log_commits was.shape c)) (ap (λ (z : State). z.shape) q))
          ∙ ap (λ (o : Outcome). o.after) (sym behind)

      ended : ((y ≡ No NoMemory) × (state_in (g.site a) (table_alone (g.table b)) (g.area b) (known n) ≡ was)) ⊎ ((y ≡ (step was c).reply) × (state_in (g.site a) (table_alone (g.table b)) (g.area b) (known n) ≡ (step was c).after))
          → ((y ≡ No NoMemory) × (state_in (g.site a) (table_alone (g.table e)) (g.area e) (known k) ≡ was)) ⊎ ((y ≡ now.reply) × (state_in (g.site a) (table_alone (g.table e)) (g.area e) (known k) ≡ now.after))
      ended (inl poor) = absurd (rich poor.0)
      ended (inr whole) = inr (whole.0 ∙ ap (λ (o : Outcome). o.reply) (sym behind), after whole.1)

      pub later_stepped : Passes e → LaterTold → IsReady (g.site a) (table_alone (g.table e)) (g.area e) (known k) → StoreSteps g c a m e k (Ok y)
      later_stepped whole told ready = record {
        reply = ended t.reply;
        ready = ready;
        settled = λ yes settles. x.settled fine (t.settled yes settles);
        crash = later_crash;
        logged = later_logged;
        passes = whole;
        truthful = told;
      }

  -- ---- a log goes behind it

  module _ {b e : S} {n k : Memory} {ok : Type 0} {most : ℕ} (u : List ℕ) (y : Reply) (passes : refusal (store_state g a m).shape (command.Delete u) ≡ None) (t : StoreTakes g (command.Delete u) a m b n (Ok y)) (site : g.site b ≡ g.site a) (logs : n.logs ≡ m.logs)
      (x : HasChangedLogs g b n e k (without_log u n.logs) ok) (steps : StepsOn g most a e) where
    aims : without_log u n.logs ≡ logs_after (store_state g a m).shape (command.Delete u)
    unfolding logs_after shape_in
    aims = ap (without_log u) logs

    whole : Passes e
    whole = step_passes h good (command.Delete u) steps (delete_carries (command.Delete u) (store_state g a m).shape u refl) (later_crash (command.Delete u) y passes t site logs aims x) (later_logged (command.Delete u) y passes t site logs aims x)

    told : LaterTold (command.Delete u) y passes t site logs aims x
    unfolding logs_after shape_in
    told = still_told h good e (command.Delete u) (delete_carries (command.Delete u) (store_state g a m).shape u refl) (λ v image l. (later_crash (command.Delete u) y passes t site logs aims x v image l).1)
        (later_logged (command.Delete u) y passes t site logs aims x) (delete_still (command.Delete u) u refl)
        (λ now v image left ls stand. without_left (content_in (g.site a) v image) u m.logs ls now.good.one_log
        (subst (IsLoggedBetween (content_in (g.site a) v image) m.logs) (logs_behind (store_state g a m) (command.Delete u) passes) (later_logged (command.Delete u) y passes t site logs aims x v image left)) stand)

    pub end_stopped : (f : Failed) → StoreSteps g (command.Delete u) a m e k (Err f)
    end_stopped f = later_stopped (command.Delete u) y passes t site logs aims x whole told f

    -- it succeeded
    pub end_stepped : ok → (y ≡ No NoMemory → ⊥) → g.site e ≡ g.site a
        → shape_in (g.site a) (table_alone (g.table e)) (known k) ≡ with_logs (without_log u m.logs) (of_log (λ l. 1) (log_of u m.logs)) (shape_in (g.site a) (table_alone (g.table b)) (known n))
        → IsReady (g.site a) (table_alone (g.table e)) (g.area e) (known k) → StoreSteps g (command.Delete u) a m e k (Ok y)
    unfolding logs_after log_commits shape_in
    end_stepped fine rich site_end shaped ready = later_stepped (command.Delete u) y passes t site logs aims x fine rich site_end shaped whole told ready

-- ---- marks, and what the session tells of a write besides

-- where memory is never wanting
pub rich_spared : (r : Result Reply Failed) (P Q : Type 0) → (P → ⊥) → IfOk r (λ y. y ≡ No NoMemory → P) → IfOk r (λ y. y ≡ No NoMemory → Q)
rich_spared (Ok y) P Q never spared = λ e. absurd (never (spared e))
rich_spared (Err f) P Q never spared = tt

-- each reply accepts
pub rich_refused : (r : Result Reply Failed) (P Q : Type 0) → (P → ⊥) → IfOk r (λ y. (x : Refusal) → y ≡ No x → x ≡ NoMemory) → IfOk r (λ y. y ≡ No NoMemory → P) → IfOk r (λ y. is_accepted y ≡ false → Q)
rich_refused (Ok y) P Q never poor spared = λ e. absurd (accepts y P never poor spared e)
rich_refused (Err f) P Q never poor spared = tt

module _ (u : List ℕ) (sector count : ℕ) {S : Type 0} (g : Ghosts S) (a b : S) (m n : Memory) where
  -- the shape behind marks
  pub shape_marked : Stays g a b → n ≡ record m { logs = on_log u (touched sector count) m.logs } → store_shape g b n ≡ marked_shape u sector count (store_shape g a m)
  unfolding shape_in
  shape_marked stays mem =
      ap₂ (λ (s : Site) (t : VolumeTable). shape_in s t (known n)) stays.site stays.table
      ∙ ap (λ (k : Memory). shape_in (g.site a) (table_alone (g.table a)) (known k)) mem
      ∙ ap (λ (k : ℕ). let s : Shape = record (marked_shape u sector count (store_shape g a m)) { others = k + record_extents (g.site a).geometry.extent } in s) (extents-on_log u (touched sector count) (λ l. refl) m.logs)

  -- and the state
  pub state_marked : Stays g a b → n ≡ record m { logs = on_log u (touched sector count) m.logs } → disks (store_content g b) ≡ disks (store_content g a)
      → store_state g b n ≡ record { disks = (store_state g a m).disks; shape = marked_shape u sector count (store_shape g a m) }
  state_marked stays mem shown = ap₂ (λ (ds : List Disk) (s : Shape). let z : State = record { disks = ds; shape = s } in z) shown (shape_marked stays mem)

same_puts : {S : Type 0} {g : Ghosts S} (m : Memory) (logs : List Log) (v : List ℕ) (at : ℕ) (bytes : List ℕ) (x y : S) → WritesOnly g (record m { logs = logs }) v at bytes x y → WritesOnly g m v at bytes x y
same_puts m logs v at bytes x y p = record { works = p.works; places = p.places }

module _ {u : List ℕ} {sector count : ℕ} {S : Type 0} {g : Ghosts S} {a b : S} (m : Memory) where
  -- marks alone
  pub marks_puts : (c : Command) → IsWriteOf c u sector count → WorksOn g (Cbt u) a b → MarksAndWritesIts g m c a b
  marks_puts c (inl w) works = subst (λ (k : Command). MarksAndWritesIts g m k a b) (sym w.1) (b, works, inl refl)
  marks_puts c (inr w) works = subst (λ (k : Command). MarksAndWritesIts g m k a b) (sym w.1) (b, works, inl refl)

  -- marks, and then the write
  pub marks_then : (c : Command) (n : Memory) (e : S) → IsWriteOf c u sector count → WorksOn g (Cbt u) a b → n ≡ record m { logs = on_log u (touched sector count) m.logs }
      → (g.told → IsReadyStore g a m → IfSome (log_of u m.logs) (IsWithinLog sector count) → IsReadyStore g b n) → WritesOnlyIts g n c b e → MarksAndWritesIts g m c a e
  marks_then c n e (inl w) works mem last puts =
      let p : WritesOnlyIts g (record m { logs = on_log u (touched sector count) m.logs }) (command.Write u sector w.0) b e = subst (λ (k : Memory). WritesOnlyIts g k (command.Write u sector w.0) b e) mem (subst (λ (k : Command). WritesOnlyIts g n k b e) w.1 puts) in
      let l : MarksLast g m u sector count a b = subst (λ (k : Memory). g.told → IsReadyStore g a m → IfSome (log_of u m.logs) (IsWithinLog sector count) → IsReadyStore g b k) mem last in
      subst (λ (k : Command). MarksAndWritesIts g m k a e) (sym w.1) (b, works, inr (subst (λ (k : ℕ). MarksLast g m u sector k a b) w.2 l, same_puts m _ u sector w.0 b e p))
  marks_then c n e (inr w) works mem last puts =
      let p : WritesOnlyIts g (record m { logs = on_log u (touched sector count) m.logs }) (command.Fill u sector count w.0) b e = subst (λ (k : Memory). WritesOnlyIts g k (command.Fill u sector count w.0) b e) mem (subst (λ (k : Command). WritesOnlyIts g n k b e) w.1 puts) in
      let l : MarksLast g m u sector count a b = subst (λ (k : Memory). g.told → IsReadyStore g a m → IfSome (log_of u m.logs) (IsWithinLog sector count) → IsReadyStore g b k) mem last in
      subst (λ (k : Command). MarksAndWritesIts g m k a e) (sym w.1) (b, works, inr (l, same_puts m _ u sector _ b e p))

-- ---- behind a deletion

module _ {S : Type 0} (g : Ghosts S) (a b : S) (m n : Memory) where
  -- the sectors are as memory says
  pub ready_behind : (c : Command) (y : Reply) → StoreTakes g c a m b n (Ok y) → g.site b ≡ g.site a → IsReadyStore g b n
  ready_behind c y t site = subst (λ (s : Site). IsReady s (table_alone (g.table b)) (g.area b) (known n)) (sym site) t.ready

  -- the shape once a log went
  pub shape_end : (e : S) (k : Memory) (u : List ℕ) → g.site e ≡ g.site a → g.site b ≡ g.site a → n.logs ≡ m.logs
      → store_shape g e k ≡ with_logs (without_log u n.logs) (of_log (λ l. 1) (log_of u n.logs)) (store_shape g b n)
      → shape_in (g.site a) (table_alone (g.table e)) (known k) ≡ with_logs (without_log u m.logs) (of_log (λ l. 1) (log_of u m.logs)) (shape_in (g.site a) (table_alone (g.table b)) (known n))
  shape_end e k u site_end site logs is =
      ap (λ (s : Site). shape_in s (table_alone (g.table e)) (known k)) (sym site_end) ∙ is
      ∙ ap₂ (λ (ls : List Log) (s : Site). with_logs (without_log u ls) (of_log (λ l. 1) (log_of u ls)) (shape_in s (table_alone (g.table b)) (known n))) logs site

-- a deletion never wants memory
pub delete_rich : (c : Command) (s : Shape) (u : List ℕ) → c ≡ command.Delete u → may_want_memory s c ≡ true → ⊥
unfolding may_want_memory takes_memory
delete_rich c s u is h = true≢false (sym h ∙ ap (may_want_memory s) is)

-- a command that is none of logs alone
pub not_of_logs : (c : Command) → ((u : List ℕ) (on : Bool) → c ≡ command.Track u on → ⊥) → ((u n : List ℕ) → c ≡ command.Changed u n → ⊥) → is_of_logs c ≡ false
unfolding is_of_logs
not_of_logs (command.Track u on) no_track no_changed = absurd (no_track u on refl)
not_of_logs (command.Changed u n) no_track no_changed = absurd (no_changed u n refl)
not_of_logs _ no_track no_changed = refl

-- what no guest writes
pub no_marks : {S : Type 0} (g : Ghosts S) (m : Memory) (c : Command) (a b : S) → ((u : List ℕ) (sector : ℕ) (bytes : List ℕ) → c ≡ command.Write u sector bytes → ⊥) → ((u : List ℕ) (sector count byte : ℕ) → c ≡ command.Fill u sector count byte → ⊥)
    → MarksAndWritesIts g m c a b
no_marks g m (command.Write u sector bytes) a b no_write no_fill = absurd (no_write u sector bytes refl)
no_marks g m (command.Fill u sector count byte) a b no_write no_fill = absurd (no_fill u sector count byte refl)
no_marks g m _ a b no_write no_fill = tt

-- nothing was put
pub nothing_put : {S : Type 0} (g : Ghosts S) (m : Memory) (c : Command) (a : S) → MarksAndWritesIts g m c a a
nothing_put g m (command.Write u sector bytes) a = (a, works_none (Cbt u) a, inl refl)
nothing_put g m (command.Fill u sector count byte) a = (a, works_none (Cbt u) a, inl refl)
nothing_put g m _ a = tt

-- a refused command does nothing
pub refused_stepped : {S : Type 0} {g : Ghosts S} {a : S} {m : Memory} → IsTold g a m → ∥ AreGoodLogs (store_state g a m).shape ∥₁ → (c : Command) (x : Refusal) → refusal (store_state g a m).shape c ≡ Some x → StoreSteps g c a m a m (Ok (No x))
unfolding tracked_step shape_in
refused_stepped {S} {g} {a} {m} h good c x is =
    let w : StoreTakesTo (tracked_step (store_state g a m) c) g c a m a m (Ok (No x)) = taken_refused h c x (ap (λ (r : Option Refusal). tracked_unless r (store_state g a m) c) is) in
    let logged : Logs h good a c = still_logged h good m c refl w.logged in
    record {
      reply = w.reply;
      ready = w.ready;
      settled = w.settled;
      crash = w.crash;
      logged = logged;
      passes = step_passes h good c (stays_steps (stays_none a) (λ told. h.now)) (λ passes. absurd (none-some x (sym passes ∙ is))) w.crash logged;
      truthful = λ told. now_told h good told.taken told.tells;
    }

-- where memory is wanting before anything was done, nothing was
pub poor_stepped : {S : Type 0} {g : Ghosts S} {a : S} {m : Memory} → IsTold g a m → ∥ AreGoodLogs (store_state g a m).shape ∥₁ → (c : Command) → StoreSteps g c a m a m (Ok (No NoMemory))
unfolding shape_in
poor_stepped {S} {g} {a} {m} h good c =
    let w : StoreTakesTo (tracked_step (store_state g a m) c) g c a m a m (Ok (No NoMemory)) = taken_poor h c m (reads_none a) (λ t image left. left) refl in
    record {
      reply = w.reply;
      ready = w.ready;
      settled = w.settled;
      crash = w.crash;
      logged = still_logged h good m c refl w.logged;
      passes = λ v image left. (kept_passes h good v image left).passes;
      truthful = λ told. now_told h good told.taken told.tells;
    }
