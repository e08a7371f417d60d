-- Every step keeps a shape well-formed.
use Rattle.std.proofs.Common.{◌≡◌, ℕ, ◌+◌, ◌-◌, ◌^◌, ◌<◌, ◌≤◌, ◌/◌, nat_lt, Bool, true, false, Option, Some, None, refl, sym, subst, arith}
use Rattle.std.specs.Prelude.{length}
use Rattle.std.proofs.lemmas.Bool.{le-ltb, leb-false, ltb-false, or_parts}
use Rattle.sm_base.specs.declared.operations.Mode.TheVariants.{Ro, Rw}
use Rattle.sm_machine.specs.Operations as op
use Rattle.sm_base.specs.declared.refusals.Refusal.{Refusal}
use Rattle.sm_machine.specs.declared.commands.Command.{Command}
use Rattle.sm_machine.specs.declared.commands.Command.TheVariants.{Create, Delete, Attach, Detach, Snapshot, Clone, Resize, Label, Write, Fill, Read, Flush, Gc, List as Listing, Stat, Track, Changed}
use Rattle.sm_machine.specs.Disks.{sector_bytes}
use Rattle.sm_machine.specs.Shapes.{Shape, disk_image, free, risen, last_sequence}
use Rattle.sm_machine.specs.Refusals.{fork_need, log_need, refusal, with_image_of, named, new_uuid, forked, images_needed, need, is_reserved, is_unknown, is_taken, is_deep, is_too_many, is_spent, lacks_space}
use Rattle.sm_machine.specs.Collector.{next_step, collected}
use Rattle.sm_machine.specs.Commits.{folds, gives_up, is_given_up, commits, own_commits, one_if}
use Rattle.sm_machine.specs.Steps.{State, accepted, unless_refused, step, given_up, shape_after, shape_next, delete_shape, attach_shape, detach_shape, resize_shape, fork_shape}
use Rattle.sm_machine.specs.WellFormed.{IsWellFormed}
use Rattle.sm_machine.proofs.Passed.{IsPassed, passed}
use Rattle.sm_machine.proofs.Numbers.{risen-up, risen-last}
use Rattle.sm_machine.proofs.Counted.{keeps_counted}
use Rattle.sm_machine.proofs.Create.{created}
use Rattle.sm_machine.proofs.Guests.{write_keeps, label_keeps, detach_keeps, detach_operation}
use Rattle.sm_machine.proofs.Resizes.{resize_keeps, operation_resized}
use Rattle.sm_machine.proofs.Attaches.{attach_ro_keeps, attach_ro_operation, attach_rw_keeps, attach_rw_operation}
use Rattle.sm_machine.proofs.Deletes.{delete_keeps, delete_operation}
use Rattle.sm_machine.proofs.Forks.{IsForkable, fork_keeps, fork_operation}
use Rattle.sm_machine.proofs.GcSteps.{gc_keeps, gc_sequence}

-- the commits are counted
counted : (s t : Shape) (k : ℕ) → IsWellFormed s → t.sequence ≡ s.sequence → IsWellFormed t → IsWellFormed (record t { sequence = risen s.sequence k })
counted s t k w e h = keeps_counted t (risen s.sequence k) t.others t.logs h (subst (λ (n : ℕ). n ≤ risen s.sequence k) (sym e) (risen-up s.sequence k w.sequence)) (risen-last s.sequence k) h.room

-- ---- commands that give a fold of their disk's leaf up

delete_given : (s : Shape) → IsWellFormed s → (u : _) → IsPassed s (Delete u) → (b : Bool) → folds s.op u ≡ b → IsWellFormed (given_up b (delete_shape s u))
delete_given s w u p true e = delete_keeps s w u p op.Idle tt
delete_given s w u p false e = delete_keeps s w u p s.op (delete_operation s w u p s.op e w.operation)

detach_given : (s : Shape) → IsWellFormed s → (u : _) → (b : Bool) → folds s.op u ≡ b → IsWellFormed (given_up b (detach_shape s u))
detach_given s w u true e = detach_keeps s w u op.Idle tt
detach_given s w u false e = detach_keeps s w u s.op (detach_operation s w u s.op e w.operation)

given_sequence : (b : Bool) (t : Shape) → (given_up b t).sequence ≡ t.sequence
given_sequence true t = refl
given_sequence false t = refl

resize_given : (s : Shape) → IsWellFormed s → (u : _) (bytes : ℕ) → IsPassed s (Resize u bytes) → (b : Bool) → folds s.op u ≡ b → IsWellFormed (given_up b (resize_shape s u bytes))
resize_given s w u bytes p true e = resize_keeps s w u bytes p op.Idle tt
resize_given s w u bytes p false e = resize_keeps s w u bytes p s.op (operation_resized s w u bytes p s.op e w.operation)

ro_given : (s : Shape) → IsWellFormed s → (u : _) → IsPassed s (Attach u Ro) → (b : Bool) → folds s.op u ≡ b → IsWellFormed (given_up b (attach_shape s u Ro))
ro_given s w u p true e = attach_ro_keeps s w u p op.Idle tt
ro_given s w u p false e = attach_ro_keeps s w u p s.op (attach_ro_operation s w u p s.op e w.operation)

rw_given : (s : Shape) → IsWellFormed s → (u : _) → IsPassed s (Attach u Rw) → (b : Bool) → folds s.op u ≡ b → IsWellFormed (given_up b (attach_shape s u Rw))
rw_given s w u p true e = attach_rw_keeps s w u p op.Idle tt
rw_given s w u p false e = attach_rw_keeps s w u p s.op (attach_rw_operation s w u p s.op e w.operation)

-- ---- forks

-- where a sum is free, so is its first part
less_space : (free a b : ℕ) → nat_lt free (a + b) ≡ false → nat_lt free a ≡ false
less_space free a b e =
    let h : a + b ≤ free = ltb-false free (a + b) e in
    le-ltb free a (omega (arith, h))

pub snapshot_facts : (s : Shape) (u twin : _) → IsPassed s (Snapshot u twin) → IsForkable s u twin
unfolding is_reserved is_unknown is_taken is_deep is_too_many is_spent lacks_space named new_uuid forked images_needed need
snapshot_facts s u twin p = record {
  not_base = (or_parts _ _ p.reserved).1;
  not_taken = p.taken;
  is_known = p.unknown;
  not_deep = p.deep;
  not_many = p.too_many;
  not_spent = p.spent;
  has_space = less_space (free s) (with_image_of (fork_need s u) (disk_image u s)) (log_need s (Snapshot u twin)) p.space;
}

pub clone_facts : (s : Shape) (u twin : _) → IsPassed s (Clone u twin) → IsForkable s u twin
unfolding is_reserved is_unknown is_taken is_deep is_too_many is_spent lacks_space named new_uuid forked images_needed need
clone_facts s u twin p = record { not_base = (or_parts _ _ p.reserved).1; not_taken = p.taken; is_known = p.unknown; not_deep = p.deep; not_many = p.too_many; not_spent = p.spent; has_space = p.space }

pub risen-above : (n k : ℕ) → n < 2 ^ 48 - 16 → 8 ≤ k → n < risen n k
risen-above n k h g = omega arith

fork_given : (s : Shape) → IsWellFormed s → (u twin : _) → IsForkable s u twin → (read_only : Bool) (k : ℕ) → 8 ≤ k → (b : Bool) → folds s.op u ≡ b → IsWellFormed (record (given_up b (fork_shape s u twin read_only)) { sequence = risen s.sequence k })
fork_given s w u twin f read_only k h b e =
    let small : s.sequence < 2 ^ 48 - 16 = leb-false (2 ^ 48 - 16) s.sequence f.not_spent in
    by_given b e (risen-above s.sequence k small h) (risen-last s.sequence k)
  where
    by_given : (c : Bool) → folds s.op u ≡ c → s.sequence < risen s.sequence k → risen s.sequence k ≤ last_sequence → IsWellFormed (record (given_up c (fork_shape s u twin read_only)) { sequence = risen s.sequence k })
    by_given true q above most = fork_keeps s w u twin f read_only (risen s.sequence k) above most op.Idle tt
    by_given false q above most = fork_keeps s w u twin f read_only (risen s.sequence k) above most s.op (fork_operation s w u twin f read_only (risen s.sequence k) above most s.op q w.operation)

pub at_least_eight : (b : Bool) → 8 ≤ one_if b + 8
at_least_eight true = omega arith
at_least_eight false = omega arith

-- ---- every command

pub next_keeps : (s : Shape) (c : Command) → IsWellFormed s → IsPassed s c → IsWellFormed (shape_next s c)
unfolding shape_next is_given_up gives_up shape_after commits own_commits
next_keeps s (Create u size raw label) w p = created s w u size raw label p
next_keeps s (Delete u) w p = counted s (given_up (folds s.op u) (delete_shape s u)) (one_if (folds s.op u) + 1) w (given_sequence (folds s.op u) (delete_shape s u)) (delete_given s w u p (folds s.op u) refl)
next_keeps s (Attach u Ro) w p = counted s (given_up (folds s.op u) (attach_shape s u Ro)) _ w (given_sequence (folds s.op u) (attach_shape s u Ro)) (ro_given s w u p (folds s.op u) refl)
next_keeps s (Attach u Rw) w p = counted s (given_up (folds s.op u) (attach_shape s u Rw)) _ w (given_sequence (folds s.op u) (attach_shape s u Rw)) (rw_given s w u p (folds s.op u) refl)
next_keeps s (Detach u) w p = counted s (given_up (folds s.op u) (detach_shape s u)) _ w (given_sequence (folds s.op u) (detach_shape s u)) (detach_given s w u (folds s.op u) refl)
next_keeps s (Snapshot u twin) w p = fork_given s w u twin (snapshot_facts s u twin p) true (one_if (folds s.op u) + 8) (at_least_eight (folds s.op u)) (folds s.op u) refl
next_keeps s (Clone u twin) w p = fork_given s w u twin (clone_facts s u twin p) false (one_if (folds s.op u) + 8) (at_least_eight (folds s.op u)) (folds s.op u) refl
next_keeps s (Resize u size) w p = counted s (given_up (folds s.op u) (resize_shape s u size)) _ w (given_sequence (folds s.op u) (resize_shape s u size)) (resize_given s w u size p (folds s.op u) refl)
next_keeps s (Label u text) w p = counted s _ _ w refl (label_keeps s w u text)
next_keeps s (Write u sector bytes) w p = counted s _ _ w refl (write_keeps s w u sector (length bytes / sector_bytes))
next_keeps s (Fill u sector count byte) w p = counted s _ _ w refl (write_keeps s w u sector count)
next_keeps s (Read u sector count) w p = counted s s _ w refl w
next_keeps s (Flush u) w p = counted s s _ w refl w
next_keeps s Gc w p = counted s (collected (next_step s) s) _ w (gc_sequence (next_step s) s) (gc_keeps s w)
next_keeps s Listing w p = counted s s _ w refl w
next_keeps s Stat w p = counted s s _ w refl w
next_keeps s (Track u on) w p = counted s s _ w refl w
next_keeps s (Changed u n) w p = counted s s _ w refl w

by_refusal : (σ : State) (c : Command) (o : Option Refusal) → refusal σ.shape c ≡ o → IsWellFormed σ.shape → IsWellFormed ((unless_refused o σ c).after.shape)
unfolding accepted
by_refusal σ c (Some r) e w = w
by_refusal σ c None e w = next_keeps σ.shape c w (passed σ.shape c e)

pub step_keeps_shape : (σ : State) (c : Command) → IsWellFormed σ.shape → IsWellFormed ((step σ c).after.shape)
unfolding step
step_keeps_shape σ c w = by_refusal σ c (refusal σ.shape c) refl w
