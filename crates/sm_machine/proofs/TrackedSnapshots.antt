-- Each log with a tag is that of a snapshot, over each step.
use Rattle.std.proofs.Common.{◌≡◌, ◌≢◌, ◌/◌, ℕ, true, false, not, List, length, Option, Some, None, refl, sym, ap, ◌∙◌, subst, inl, inr}
use Rattle.common_laws.specs.Lists.{In, when}
use Rattle.common_laws.proofs.Lists.{In-filter, In-insert}
use Rattle.sm_base.specs.declared.refusals.Refusal.{Refusal}
use Rattle.sm_log.specs.Logs.{Log, begun_anew, is_log_of, log_before, log_of, new_log, on_log, split_of, touched, twin_log, with_log, without_log}
use Rattle.sm_machine.specs.declared.commands.Command.{Command}
use Rattle.sm_machine.specs.declared.commands.Command.TheVariants.{Create, Delete, Attach, Detach, Snapshot, Clone, Resize, Label, Write, Fill, Read, Flush, Gc, List as Listing, Stat, Track, Changed}
use Rattle.sm_machine.specs.Disks.{Disk, sector_bytes}
use Rattle.sm_machine.specs.Shapes.{Shape}
use Rattle.sm_machine.specs.Refusals.{disk_pieces, is_snapshot, log_room, refusal}
use Rattle.sm_machine.specs.Steps.{State, accepted, disks_next, shape_next}
use Rattle.sm_machine.specs.Tracking.{AreGoodLogs, AreOfSnapshots, logs_after, tracked_step, tracked_unless}
use Rattle.sm_machine.specs.WellFormed.{IsWellFormed}
use Rattle.sm_machine.proofs.LogDisks.{Stays, are_blanks, blanks, disk_snapshot, disk_there}
use Rattle.sm_machine.proofs.LogLists.{log_found}
use Rattle.sm_machine.proofs.Passed.{IsPassed, passed}
use Rattle.sm_machine.proofs.TrackedLogs.{Gentle, IsLike, IsTwinOf, anew_gentle, like_when, next_are, next_well, rest, stays, touched_gentle, twin_there, was}

module _ (s : Shape) (w : IsWellFormed s) (g : AreGoodLogs s) (a : AreOfSnapshots s) where
  -- a log of before whose disk stays
  like_marked : (c : Command) (p : IsPassed s c) (l m : Log) → In l s.logs → In l (rest s w g c) → IsLike l m → m.tag ≢ 0 → is_snapshot m.disk (shape_next s c) ≡ true
  like_marked c p l m h k like t =
      let d : (d : Disk) × In d (blanks s) × (d.uuid ≡ l.disk) = disk_there (blanks s) s w (are_blanks s w) l.disk (g.good l h).disk in
      let n : Stays (disks_next (blanks s) s c) d.0 = stays s w g c p l d.0 k d.1 d.2 in
      let old : is_snapshot l.disk s ≡ true = a l h (λ z. t (like.tag ∙ z)) in
      let marked : d.0.read_only ≡ true = sym (disk_snapshot (blanks s) s w (are_blanks s w) d.0 l.disk d.1 d.2) ∙ old in
      disk_snapshot (disks_next (blanks s) s c) (shape_next s c) (next_well s w g c p) (next_are s w g c p) n.now m.disk n.there (n.uuid ∙ (d.2 ∙ sym like.disk)) ∙ (n.read_only ∙ marked)

  -- each of these logs with a tag is that of a snapshot
  abbrev Marked : Command → List Log → Type 0
  Marked c logs = (l : Log) → In l logs → l.tag ≢ 0 → is_snapshot l.disk (shape_next s c) ≡ true

  same_marked : (c : Command) (p : IsPassed s c) → ((l : Log) → In l s.logs → In l (rest s w g c)) → Marked c s.logs
  same_marked c p kept l h t = like_marked c p l l h (kept l h) (record { disk = refl; extents = refl; tag = refl; long = refl }) t

  changed_marked : (c : Command) (p : IsPassed s c) → ((l : Log) → In l s.logs → In l (rest s w g c)) → (u : List ℕ) (f : Log → Log) → Gentle f → Marked c (on_log u f s.logs)
  changed_marked c p kept u f gentle m h t =
      let x : (l : Log) × In l s.logs × (m ≡ when (is_log_of u l) f l) = was u f gentle s.logs m h in
      like_marked c p x.0 m x.1 (kept x.0 x.1) (subst (IsLike x.0) (sym x.2) (like_when f gentle (is_log_of u x.0) x.0)) t

  fewer_marked : (u : List ℕ) (p : IsPassed s (Delete u)) → Marked (Delete u) (without_log u s.logs)
  fewer_marked u p l h t = like_marked (Delete u) p l l (In-filter (λ (x : Log). not (is_log_of u x)) s.logs l h).0 h (record { disk = refl; extents = refl; tag = refl; long = refl }) t

  twin_marked : (u twin : List ℕ) (p : IsPassed s (Snapshot u twin)) (l : Log) → In l s.logs → l.disk ≡ u → is_snapshot twin (shape_next s (Snapshot u twin)) ≡ true
  twin_marked u twin p l h e =
      let n : IsTwinOf s w g u twin p l = twin_there s w g u twin p l h e in
      disk_snapshot (disks_next (blanks s) s (Snapshot u twin)) (shape_next s (Snapshot u twin)) (next_well s w g (Snapshot u twin) p) (next_are s w g (Snapshot u twin) p) n.now twin n.there n.uuid ∙ n.read_only

  split_marked : (u twin : List ℕ) (p : IsPassed s (Snapshot u twin)) (o : Option Log) → log_of u s.logs ≡ o → Marked (Snapshot u twin) (split_of u twin s.sequence o s.logs)
  unfolding with_log
  split_marked u twin p None e m h t = same_marked (Snapshot u twin) p (λ l h. h) m h t
  split_marked u twin p (Some l) e m h t =
      let k : In l s.logs × (l.disk ≡ u) = log_found u s.logs l e in
      elim (In-insert log_before (twin_log twin s.sequence l) (on_log u (begun_anew s.sequence) s.logs) m h) [
        | inl q ↦ subst (λ (x : Log). is_snapshot x.disk (shape_next s (Snapshot u twin)) ≡ true) (sym q) (twin_marked u twin p l k.0 k.1)
        | inr i ↦ changed_marked (Snapshot u twin) p (λ l h. h) u (begun_anew s.sequence) (anew_gentle s.sequence) m i t
      ]

  begun_marked : (u : List ℕ) (p : IsPassed s (Track u true)) → Marked (Track u true) (with_log (new_log u (log_room s u) (disk_pieces u s)) s.logs)
  unfolding with_log
  begun_marked u p l h t = elim (In-insert log_before (new_log u (log_room s u) (disk_pieces u s)) s.logs l h) [
    | inl e ↦ absurd (t (ap (λ (x : Log). x.tag) e))
    | inr k ↦ same_marked (Track u true) p (λ l h. h) l k t
  ]

  ended_marked : (u : List ℕ) (p : IsPassed s (Track u false)) → Marked (Track u false) (without_log u s.logs)
  ended_marked u p l h t = like_marked (Track u false) p l l (In-filter (λ (x : Log). not (is_log_of u x)) s.logs l h).0 h (record { disk = refl; extents = refl; tag = refl; long = refl }) t

  marked_after : (c : Command) → IsPassed s c → Marked c (logs_after s c)
  unfolding logs_after with_log
  marked_after (Create u size raw label) p = same_marked (Create u size raw label) p (λ l h. h)
  marked_after (Delete u) p = fewer_marked u p
  marked_after (Attach u mode) p = same_marked (Attach u mode) p (λ l h. h)
  marked_after (Detach u) p = same_marked (Detach u) p (λ l h. h)
  marked_after (Snapshot u twin) p = split_marked u twin p (log_of u s.logs) refl
  marked_after (Clone u twin) p = same_marked (Clone u twin) p (λ l h. h)
  marked_after (Resize u size) p = same_marked (Resize u size) p (λ l h. h)
  marked_after (Label u text) p = same_marked (Label u text) p (λ l h. h)
  marked_after (Write u sector bytes) p = changed_marked (Write u sector bytes) p (λ l h. h) u (touched sector (length bytes / sector_bytes)) (touched_gentle sector (length bytes / sector_bytes))
  marked_after (Fill u sector count byte) p = changed_marked (Fill u sector count byte) p (λ l h. h) u (touched sector count) (touched_gentle sector count)
  marked_after (Read u sector count) p = same_marked (Read u sector count) p (λ l h. h)
  marked_after (Flush u) p = same_marked (Flush u) p (λ l h. h)
  marked_after Gc p = same_marked Gc p (λ l h. h)
  marked_after Listing p = same_marked Listing p (λ l h. h)
  marked_after Stat p = same_marked Stat p (λ l h. h)
  marked_after (Track u true) p = begun_marked u p
  marked_after (Track u false) p = ended_marked u p
  marked_after (Changed u n) p = same_marked (Changed u n) p (λ l h. h)

marked_by : (σ : State) (c : Command) (o : Option Refusal) → refusal σ.shape c ≡ o → IsWellFormed σ.shape → AreGoodLogs σ.shape → AreOfSnapshots σ.shape
    → AreOfSnapshots ((tracked_unless o σ c).after.shape)
unfolding accepted
marked_by σ c (Some r) e w g a = a
marked_by σ c None e w g a = marked_after σ.shape w g a c (passed σ.shape c e)

pub tracked_step_keeps_snapshots : (σ : State) (c : Command) → IsWellFormed σ.shape → AreGoodLogs σ.shape → AreOfSnapshots σ.shape → AreOfSnapshots ((tracked_step σ c).after.shape)
unfolding tracked_step
tracked_step_keeps_snapshots σ c w g a = marked_by σ c (refusal σ.shape c) refl w g a
