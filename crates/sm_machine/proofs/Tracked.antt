-- What a step does to logs keeps a shape well-formed; where no disk is tracked it is nothing.
use Rattle.std.proofs.Common.{◌≡◌, ℕ, ◌+◌, ◌-◌, ◌/◌, ◌≤◌, Bool, true, false, List, [], length, map, Option, Some, None, refl, sym, ap, ◌∙◌, subst, arith}
use Rattle.std.specs.Prelude.{is_none}
use Rattle.sm_base.specs.declared.names.Name.{Name}
use Rattle.sm_base.specs.declared.operations.Plan.{Plan}
use Rattle.sm_base.specs.declared.operations.Plan.TheVariants as plan
use Rattle.sm_base.specs.declared.refusals.Refusal.{Refusal}
use Rattle.common_laws.specs.Lists.{In, Distinct, Sorted}
use Rattle.sm_log.specs.Logs.{Log, log_of, log_extents, new_log, on_log, with_log, without_log, begun_anew, split, split_of, touched, twin_log}
use Rattle.sm_machine.specs.Operations.{Op}
use Rattle.sm_machine.specs.Operations as op
use Rattle.sm_machine.specs.declared.commands.Command.{Command}
use Rattle.sm_machine.specs.declared.commands.Command.TheVariants.{Create, Delete, Attach, Detach, Snapshot, Clone, Resize, Label, Write, Fill, Read, Flush, Gc, List as Listing, Stat, Track, Changed}
use Rattle.sm_machine.specs.Disks.{sector_bytes}
use Rattle.sm_machine.specs.Shapes.{Shape, free, last_sequence, risen}
use Rattle.sm_machine.specs.Refusals.{disk_pieces, is_untracked, log_need, log_room, of_log, refusal}
use Rattle.sm_machine.specs.Collector.{collected, copied, linked, next_step, swapped}
use Rattle.sm_machine.specs.Commits.{commits, is_given_up}
use Rattle.sm_machine.specs.Steps.{State, accepted, unless_refused, step, given_up, shape_after, shape_next}
use Rattle.sm_machine.specs.Tracking.{AreGoodLogs, AreUntracked, begins_log, begun, ended, log_commits, logs_after, tracked, tracked_step, tracked_unless, with_logs}
use Rattle.sm_machine.specs.WellFormed.{AreDisksOf, IsWellFormed, uuid_le}
use Rattle.sm_machine.proofs.Counted.{keeps_counted}
use Rattle.sm_machine.proofs.LogRoom.{tracked_room}
use Rattle.sm_machine.proofs.LogLists.{extents-on_log, extents-with_log, extents-without}
use Rattle.sm_machine.proofs.Numbers.{risen-last, risen-up}
use Rattle.sm_machine.proofs.Passed.{IsPassed, passed}
use Rattle.sm_machine.proofs.Steps.{next_keeps}
use Rattle.sm_machine.proofs.Together.{step_keeps_disks}

-- ---- a step leaves logs, the extents of others, and the size of an extent

pub record IsBeside (s t : Shape) : Type 0 where
  pub logs : t.logs ≡ s.logs
  pub others : t.others ≡ s.others
  pub extent : t.extent ≡ s.extent

same_beside : (s : Shape) → IsBeside s s
same_beside s = record { logs = refl; others = refl; extent = refl }

copied_beside : (o : Op) (b : ℕ) (s : Shape) → IsBeside s (copied o b s)
unfolding copied
copied_beside op.Idle b s = record { logs = refl; others = refl; extent = refl }
copied_beside (op.Copy v p cursor) b s = record { logs = refl; others = refl; extent = refl }
copied_beside (op.Relink v p) b s = record { logs = refl; others = refl; extent = refl }
copied_beside (op.Leaf l p cursor) b s = record { logs = refl; others = refl; extent = refl }
copied_beside (op.Live l p cursor dirty) b s = record { logs = refl; others = refl; extent = refl }

linked_beside : (o : Op) (c : Name) (s : Shape) → IsBeside s (linked o c s)
unfolding linked
linked_beside op.Idle c s = record { logs = refl; others = refl; extent = refl }
linked_beside (op.Copy v p cursor) c s = record { logs = refl; others = refl; extent = refl }
linked_beside (op.Relink v p) c s = record { logs = refl; others = refl; extent = refl }
linked_beside (op.Leaf l p cursor) c s = record { logs = refl; others = refl; extent = refl }
linked_beside (op.Live l p cursor dirty) c s = record { logs = refl; others = refl; extent = refl }

swapped_beside : (o : Op) (s : Shape) → IsBeside s (swapped o s)
unfolding swapped
swapped_beside op.Idle s = record { logs = refl; others = refl; extent = refl }
swapped_beside (op.Copy v p cursor) s = record { logs = refl; others = refl; extent = refl }
swapped_beside (op.Relink v p) s = record { logs = refl; others = refl; extent = refl }
swapped_beside (op.Leaf l p cursor) s = record { logs = refl; others = refl; extent = refl }
swapped_beside (op.Live l p cursor dirty) s = record { logs = refl; others = refl; extent = refl }

gc_beside : (q : Plan) (s : Shape) → IsBeside s (collected q s)
unfolding collected
gc_beside (plan.Copy b) s = copied_beside s.op b s
gc_beside (plan.RelinkOne c) s = linked_beside s.op c s
gc_beside plan.Swap s = swapped_beside s.op s
gc_beside plan.Abandon s = record { logs = refl; others = refl; extent = refl }
gc_beside plan.Turn s = record { logs = refl; others = refl; extent = refl }
gc_beside plan.Finish s = record { logs = refl; others = refl; extent = refl }
gc_beside (plan.Remove name) s = record { logs = refl; others = refl; extent = refl }
gc_beside (plan.Deflate name to) s = record { logs = refl; others = refl; extent = refl }
gc_beside (plan.Begin child parent to) s = record { logs = refl; others = refl; extent = refl }
gc_beside (plan.Leaf leaf parent to) s = record { logs = refl; others = refl; extent = refl }
gc_beside (plan.Live leaf parent to) s = record { logs = refl; others = refl; extent = refl }
gc_beside (plan.Blocked needed room) s = same_beside s
gc_beside plan.Idle s = same_beside s

after_beside : (s : Shape) (c : Command) → IsBeside s (shape_after s c)
unfolding shape_after
after_beside s (Create u size raw label) = record { logs = refl; others = refl; extent = refl }
after_beside s (Delete u) = record { logs = refl; others = refl; extent = refl }
after_beside s (Attach u mode) = record { logs = refl; others = refl; extent = refl }
after_beside s (Detach u) = record { logs = refl; others = refl; extent = refl }
after_beside s (Snapshot u twin) = record { logs = refl; others = refl; extent = refl }
after_beside s (Clone u twin) = record { logs = refl; others = refl; extent = refl }
after_beside s (Resize u size) = record { logs = refl; others = refl; extent = refl }
after_beside s (Label u text) = record { logs = refl; others = refl; extent = refl }
after_beside s (Write u sector bytes) = record { logs = refl; others = refl; extent = refl }
after_beside s (Fill u sector count byte) = record { logs = refl; others = refl; extent = refl }
after_beside s (Read u sector count) = same_beside s
after_beside s (Flush u) = same_beside s
after_beside s Gc = gc_beside (next_step s) s
after_beside s Listing = same_beside s
after_beside s Stat = same_beside s
after_beside s (Track u on) = same_beside s
after_beside s (Changed u n) = same_beside s

given_beside : (s t : Shape) (b : Bool) → IsBeside s t → IsBeside s (given_up b t)
given_beside s t true h = record { logs = h.logs; others = h.others; extent = h.extent }
given_beside s t false h = h

pub next_beside : (s : Shape) (c : Command) → IsBeside s (shape_next s c)
unfolding shape_next
next_beside s c =
    let h : IsBeside s (given_up (is_given_up s c) (shape_after s c)) = given_beside s (shape_after s c) (is_given_up s c) (after_beside s c) in
    record { logs = h.logs; others = h.others; extent = h.extent }

-- ---- other logs keep a shape well-formed

pub keeps_logged : (s : Shape) (logs : List Log) (k : ℕ) → IsWellFormed s → log_extents s.logs ≤ s.others → log_extents logs ≤ log_extents s.logs + free s → IsWellFormed (with_logs logs k s)
unfolding free
keeps_logged s logs k w within room = keeps_counted s (risen s.sequence k) (s.others + log_extents logs - log_extents s.logs) logs w (risen-up s.sequence k w.sequence) (risen-last s.sequence k)
    (omega (arith, within, room, w.room))

-- ---- how many extents the logs have after a command

need_split : (u twin : List ℕ) (tag : ℕ) (logs : List Log) (o : Option Log) → log_extents (split_of u twin tag o logs) ≤ log_extents logs + of_log (λ (l : Log). l.extents) o
need_split u twin tag logs None = omega arith
need_split u twin tag logs (Some l) =
    omega (arith, extents-with_log (twin_log twin tag l) (on_log u (begun_anew tag) logs), extents-on_log u (begun_anew tag) (λ l. refl) logs)

after_need : (s : Shape) (c : Command) → log_extents (logs_after s c) ≤ log_extents s.logs + log_need s c
unfolding logs_after log_need
after_need s (Create u size raw label) = omega arith
after_need s (Delete u) = omega (arith, extents-without u s.logs)
after_need s (Attach u mode) = omega arith
after_need s (Detach u) = omega arith
after_need s (Snapshot u twin) = need_split u twin s.sequence s.logs (log_of u s.logs)
after_need s (Clone u twin) = omega arith
after_need s (Resize u size) = omega arith
after_need s (Label u text) = omega arith
after_need s (Write u sector bytes) = omega (arith, extents-on_log u (touched sector (length bytes / sector_bytes)) (λ l. refl) s.logs)
after_need s (Fill u sector count byte) = omega (arith, extents-on_log u (touched sector count) (λ l. refl) s.logs)
after_need s (Read u sector count) = omega arith
after_need s (Flush u) = omega arith
after_need s Gc = omega arith
after_need s Listing = omega arith
after_need s Stat = omega arith
after_need s (Track u true) = omega (arith, extents-with_log (new_log u (log_room s u) (disk_pieces u s)) s.logs)
after_need s (Track u false) = omega (arith, extents-without u s.logs)
after_need s (Changed u n) = omega arith

tracked_keeps : (s : Shape) (c : Command) → IsWellFormed (shape_next s c) → AreGoodLogs s → log_need s c ≤ free (shape_next s c) → IsWellFormed (tracked s c (shape_next s c))
tracked_keeps s c w g room =
    let t = shape_next s c in
    let b : IsBeside s t = next_beside s c in
    let same : log_extents t.logs ≡ log_extents s.logs = ap log_extents b.logs in
    keeps_logged t (logs_after s c) (log_commits s c) w (omega (arith, same, b.others, g.within)) (omega (arith, same, room, after_need s c))

shape_by : (σ : State) (c : Command) (o : Option Refusal) → refusal σ.shape c ≡ o → IsWellFormed σ.shape → AreGoodLogs σ.shape
    → IsWellFormed ((tracked_unless o σ c).after.shape)
unfolding accepted
shape_by σ c (Some r) e w g = w
shape_by σ c None e w g = tracked_keeps σ.shape c (next_keeps σ.shape c w (passed σ.shape c e)) g (tracked_room σ.shape c w e)

pub tracked_step_keeps_shape : (σ : State) (c : Command) → IsWellFormed σ.shape → AreGoodLogs σ.shape → IsWellFormed ((tracked_step σ c).after.shape)
unfolding tracked_step
tracked_step_keeps_shape σ c w g = shape_by σ c (refusal σ.shape c) refl w g

pub begun_shape : (s : Shape) (u : List ℕ) → IsWellFormed s → AreGoodLogs s → log_room s u ≤ free s → IsWellFormed (begun s u)
begun_shape s u w g room = keeps_logged s (with_log (new_log u (log_room s u) (disk_pieces u s)) s.logs) 2 w g.within (omega (arith, room, extents-with_log (new_log u (log_room s u) (disk_pieces u s)) s.logs))

pub ended_shape : (s : Shape) (u : List ℕ) → IsWellFormed s → AreGoodLogs s → IsWellFormed (ended s u)
ended_shape s u w g = keeps_logged s (without_log u s.logs) 1 w g.within (omega (arith, extents-without u s.logs))

-- ---- disks and reply

disks_by : (o : Option Refusal) (σ : State) (c : Command) → (tracked_unless o σ c).after.disks ≡ (unless_refused o σ c).after.disks
unfolding accepted
disks_by (Some r) σ c = refl
disks_by None σ c = refl

pub tracked_disks : (σ : State) (c : Command) → (tracked_step σ c).after.disks ≡ (step σ c).after.disks
unfolding tracked_step step
tracked_disks σ c = disks_by (refusal σ.shape c) σ c

reply_by : (o : Option Refusal) (σ : State) (c : Command) → (tracked_unless o σ c).reply ≡ (unless_refused o σ c).reply
unfolding accepted
reply_by (Some r) σ c = refl
reply_by None σ c = refl

pub tracked_reply : (σ : State) (c : Command) → (tracked_step σ c).reply ≡ (step σ c).reply
unfolding tracked_step step
tracked_reply σ c = reply_by (refusal σ.shape c) σ c

together_by : (o : Option Refusal) (σ : State) (c : Command) → AreDisksOf ((unless_refused o σ c).after.disks) ((unless_refused o σ c).after.shape) → AreDisksOf ((tracked_unless o σ c).after.disks) ((tracked_unless o σ c).after.shape)
unfolding accepted
together_by (Some r) σ c a = a
together_by None σ c a = record { recorded = a.recorded; sizes = a.sizes }

pub tracked_keeps_disks : (σ : State) (c : Command) → IsWellFormed σ.shape → AreDisksOf σ.disks σ.shape → AreDisksOf ((tracked_step σ c).after.disks) ((tracked_step σ c).after.shape)
unfolding tracked_step step
tracked_keeps_disks σ c w a = together_by (refusal σ.shape c) σ c (step_keeps_disks σ c w a)

-- ---- commits

counted_twice : (n j k : ℕ) → risen (risen n j) k ≡ risen n (j + k)
counted_twice n j k = omega arith

pub tracked_counted : (s : Shape) (c : Command) → (tracked s c (shape_next s c)).sequence ≡ risen s.sequence (commits s c + log_commits s c)
unfolding shape_next
tracked_counted s c = counted_twice s.sequence (commits s c) (log_commits s c)

-- ---- no disk is tracked

none_after : (s : Shape) (c : Command) → s.logs ≡ [] → begins_log c ≡ false → logs_after s c ≡ []
unfolding logs_after begins_log
none_after s (Create u size raw label) e b = e
none_after s (Delete u) e b = ap (without_log u) e
none_after s (Attach u mode) e b = e
none_after s (Detach u) e b = e
none_after s (Snapshot u twin) e b = ap (split u twin s.sequence) e
none_after s (Clone u twin) e b = e
none_after s (Resize u size) e b = e
none_after s (Label u text) e b = e
none_after s (Write u sector bytes) e b = ap (on_log u (touched sector (length bytes / sector_bytes))) e
none_after s (Fill u sector count byte) e b = ap (on_log u (touched sector count)) e
none_after s (Read u sector count) e b = e
none_after s (Flush u) e b = e
none_after s Gc e b = e
none_after s Listing e b = e
none_after s Stat e b = e
none_after s (Track u true) e b = cc
none_after s (Track u false) e b = ap (without_log u) e
none_after s (Changed u n) e b = e

none_counted : (s : Shape) (c : Command) → s.logs ≡ [] → begins_log c ≡ false → IsPassed s c → log_commits s c ≡ 0
unfolding log_commits begins_log is_untracked
none_counted s (Create u size raw label) e b p = refl
none_counted s (Delete u) e b p = ap (λ (ls : List Log). of_log (λ (l : Log). 1) (log_of u ls)) e
none_counted s (Attach u mode) e b p = refl
none_counted s (Detach u) e b p = refl
none_counted s (Snapshot u twin) e b p = ap (λ (ls : List Log). of_log (λ (l : Log). 2) (log_of u ls)) e
none_counted s (Clone u twin) e b p = refl
none_counted s (Resize u size) e b p = refl
none_counted s (Label u text) e b p = refl
none_counted s (Write u sector bytes) e b p = refl
none_counted s (Fill u sector count byte) e b p = refl
none_counted s (Read u sector count) e b p = refl
none_counted s (Flush u) e b p = refl
none_counted s Gc e b p = refl
none_counted s Listing e b p = refl
none_counted s Stat e b p = refl
none_counted s (Track u true) e b p = cc
none_counted s (Track u false) e b p = let t : is_none (log_of u s.logs) ≡ true = ap (λ (ls : List Log). is_none (log_of u ls)) e in cc
none_counted s (Changed u n) e b p = refl

-- a shape with the logs that it has, and no commit more
same_logged : (t : Shape) (logs : List Log) → logs ≡ t.logs → t.sequence ≤ last_sequence → with_logs logs 0 t ≡ t
same_logged t logs e h =
    let n : risen t.sequence 0 ≡ t.sequence = omega arith in
    let o : t.others + log_extents t.logs - log_extents t.logs ≡ t.others = omega arith in
    ap (λ (ls : List Log). with_logs ls 0 t) e
    ∙ (ap (λ (x : ℕ). record t { sequence = x; others = t.others + log_extents t.logs - log_extents t.logs }) n ∙ ap (λ (x : ℕ). record t { others = x }) o)

next_last : (s : Shape) (c : Command) → (shape_next s c).sequence ≤ last_sequence
unfolding shape_next
next_last s c = risen-last s.sequence (commits s c)

same_tracked : (s : Shape) (c : Command) → logs_after s c ≡ s.logs → log_commits s c ≡ 0 → tracked s c (shape_next s c) ≡ shape_next s c
same_tracked s c same none =
    let t = shape_next s c in
    ap (λ (k : ℕ). with_logs (logs_after s c) k t) none ∙ same_logged t (logs_after s c) (same ∙ sym (next_beside s c).logs) (next_last s c)

unlogged_by : (σ : State) (c : Command) (o : Option Refusal) → refusal σ.shape c ≡ o → logs_after σ.shape c ≡ σ.shape.logs
    → (IsPassed σ.shape c → log_commits σ.shape c ≡ 0) → tracked_unless o σ c ≡ unless_refused o σ c
unfolding accepted
unlogged_by σ c (Some r) e same none = refl
unlogged_by σ c None e same none =
    ap (λ (t : Shape). record { reply = (accepted σ c).reply; after = record { disks = (accepted σ c).after.disks; shape = t } })
    (same_tracked σ.shape c same (none (passed σ.shape c e)))

pub unlogged_is_step : (σ : State) (c : Command) → logs_after σ.shape c ≡ σ.shape.logs → log_commits σ.shape c ≡ 0 → tracked_step σ c ≡ step σ c
unfolding tracked_step step
unlogged_is_step σ c same none = unlogged_by σ c (refusal σ.shape c) refl same (λ p. none)

pub untracked_is_step : (σ : State) (c : Command) → AreUntracked σ.shape → begins_log c ≡ false → tracked_step σ c ≡ step σ c
unfolding tracked_step step
untracked_is_step σ c none b = unlogged_by σ c (refusal σ.shape c) refl (none_after σ.shape c none b ∙ sym none) (none_counted σ.shape c none b)

pub untracked_good : (s : Shape) → AreUntracked s → AreGoodLogs s
unfolding log_extents
untracked_good s none = record {
  in_order = subst (λ (ls : List Log). Sorted uuid_le (map (λ (l : Log). l.disk) ls)) (sym none) tt;
  one_log = subst (λ (ls : List Log). Distinct (map (λ (l : Log). l.disk) ls)) (sym none) tt;
  good = λ l h. absurd (subst (λ (ls : List Log). In l ls) none h);
  one_tag = λ a b h k e t. absurd (subst (λ (ls : List Log). In a ls) none h);
  within = omega (arith, ap log_extents none);
}
