-- What a command's own crate tells of it, as a step tells it.
use Rattle.std.proofs.Common.{◌≡◌, ◌⊎◌, inl, ◌≤◌, ℕ, Bool, true, false, List, Result, IfOk, OnOk, Ok, Err, Some, refl, sym, ◌∙◌, subst, arith}
use Rattle.sm_base.specs.declared.faults.Failed.{Failed}
use Rattle.sm_base.specs.declared.operations.Mode.{Mode}
use Rattle.sm_base.specs.declared.refusals.Refusal.{Refusal}
use Rattle.sm_base.specs.declared.refusals.Refusal.TheVariants.{NoMemory}
use Rattle.sm_machine.specs.Refusals.{refusal}
use Rattle.std.proofs.lemmas.Bool.{true≢false}
use Rattle.vg_volumes.specs.declared.stores.Store.{Ghosts}
use Rattle.sm_machine.specs.Shapes.{Shape}
use Rattle.sm_machine.specs.declared.commands.Command.{Command}
use Rattle.sm_machine.specs.declared.commands.Command.TheVariants as command
use Rattle.sm_machine.specs.declared.replies.Reply.{Reply}
use Rattle.sm_machine.specs.declared.replies.Reply.TheVariants.{No}
use Rattle.sm_ready.specs.Taken.{StoreTakes}
use Rattle.sm_ready.specs.declared.memory.Memory.{Memory}
use Rattle.sm_session.specs.Carrying.{WritesOnlyIts, is_guests, is_of_logs, most_commits}
use Rattle.vg_meta.specs.Tables.{VolumeTable}
use Rattle.vg_volumes.specs.Stored.{IsChoiceOf, OnlyReads, Stays, stored}
use Rattle.sm_disk.proofs.ReachesLaws.{Reaches-none}
use Rattle.vg_volumes.proofs.StoredLaws.{stays_none, works_none}
use Rattle.std.specs.Prelude.{⊤}
use Rattle.cmd_guest.specs.Writing.{WritesOnly}
use Rattle.sm_ready.specs.Frames.{HasTrueImages}
use Rattle.sm_ready.specs.Framing.{IsBetweenSteps, StepsOn}
use Rattle.sm_ready.specs.Sessions.{HasAttachmentRoom, HasRows, HasTreeRoom, IsOrderlyStore, IsTidyStore}
use Rattle.sm_ready.proofs.FramingLaws.{more_steps, reads_between, stays_steps}

-- what is told of a command at any result is told of it where it failed
pub stopped_at : {S : Type 0} (g : Ghosts S) (a b : S) (m n : Memory) (c : Command) (r : Result Reply Failed) (f : Failed) → StoreTakes g c a m b n r → StoreTakes g c a m b n (Err f)
stopped_at g a b m n c r f taken = record { reply = tt; ready = tt; settled = tt; crash = taken.crash; logged = taken.logged }

-- no other command is a guest's
pub not_guests : (c : Command) → is_guests c ≡ true → ((u : List ℕ) (mode : Mode) → c ≡ command.Attach u mode → ⊥) → ((u : List ℕ) → c ≡ command.Detach u → ⊥) → ((u : List ℕ) (sector : ℕ) (bytes : List ℕ) → c ≡ command.Write u sector bytes → ⊥)
    → ((u : List ℕ) (sector count byte : ℕ) → c ≡ command.Fill u sector count byte → ⊥) → ((u : List ℕ) (sector count : ℕ) → c ≡ command.Read u sector count → ⊥) → ((u : List ℕ) → c ≡ command.Flush u → ⊥) → ⊥
unfolding is_guests
not_guests (command.Attach u mode) guests no_attach no_detach no_write no_fill no_read no_flush = no_attach u mode refl
not_guests (command.Detach u) guests no_attach no_detach no_write no_fill no_read no_flush = no_detach u refl
not_guests (command.Write u sector bytes) guests no_attach no_detach no_write no_fill no_read no_flush = no_write u sector bytes refl
not_guests (command.Fill u sector count byte) guests no_attach no_detach no_write no_fill no_read no_flush = no_fill u sector count byte refl
not_guests (command.Read u sector count) guests no_attach no_detach no_write no_fill no_read no_flush = no_read u sector count refl
not_guests (command.Flush u) guests no_attach no_detach no_write no_fill no_read no_flush = no_flush u refl
not_guests _ guests no_attach no_detach no_write no_fill no_read no_flush = true≢false (sym guests)

-- a command of no other kind, and not of logs alone, is a guest's
pub others_guests : (c : Command) → ((u : List ℕ) (size : ℕ) (raw : Bool) (label : List ℕ) → c ≡ command.Create u size raw label → ⊥) → ((u : List ℕ) → c ≡ command.Delete u → ⊥) → ((u text : List ℕ) → c ≡ command.Label u text → ⊥)
    → ((u : List ℕ) (size : ℕ) → c ≡ command.Resize u size → ⊥) → ((u twin : List ℕ) → c ≡ command.Snapshot u twin → ⊥)
    → ((u twin : List ℕ) → c ≡ command.Clone u twin → ⊥) → (c ≡ command.List → ⊥) → (c ≡ command.Stat → ⊥) → (c ≡ command.Gc → ⊥) → is_of_logs c ≡ false → is_guests c ≡ true
unfolding is_guests is_of_logs
others_guests (command.Create u size raw label) no_create no_delete no_label no_resize no_snapshot no_clone no_list no_stat no_gc no_logs = absurd (no_create u size raw label refl)
others_guests (command.Delete u) no_create no_delete no_label no_resize no_snapshot no_clone no_list no_stat no_gc no_logs = absurd (no_delete u refl)
others_guests (command.Label u text) no_create no_delete no_label no_resize no_snapshot no_clone no_list no_stat no_gc no_logs = absurd (no_label u text refl)
others_guests (command.Resize u size) no_create no_delete no_label no_resize no_snapshot no_clone no_list no_stat no_gc no_logs = absurd (no_resize u size refl)
others_guests (command.Snapshot u twin) no_create no_delete no_label no_resize no_snapshot no_clone no_list no_stat no_gc no_logs = absurd (no_snapshot u twin refl)
others_guests (command.Clone u twin) no_create no_delete no_label no_resize no_snapshot no_clone no_list no_stat no_gc no_logs = absurd (no_clone u twin refl)
others_guests command.List no_create no_delete no_label no_resize no_snapshot no_clone no_list no_stat no_gc no_logs = absurd (no_list refl)
others_guests command.Stat no_create no_delete no_label no_resize no_snapshot no_clone no_list no_stat no_gc no_logs = absurd (no_stat refl)
others_guests command.Gc no_create no_delete no_label no_resize no_snapshot no_clone no_list no_stat no_gc no_logs = absurd (no_gc refl)
others_guests (command.Track u on) no_create no_delete no_label no_resize no_snapshot no_clone no_list no_stat no_gc no_logs = absurd (true≢false no_logs)
others_guests (command.Changed u n) no_create no_delete no_label no_resize no_snapshot no_clone no_list no_stat no_gc no_logs = absurd (true≢false no_logs)
others_guests _ no_create no_delete no_label no_resize no_snapshot no_clone no_list no_stat no_gc no_logs = refl

-- ---- want of memory

-- what holds of every reply holds of the one that came, if one came
pub of_reply : (P : Reply → Type 0) (result : Result Reply Failed) → ((r : Reply) → P r) → IfOk result P
of_reply P (Ok r) all = all r
of_reply P (Err e) all = tt

-- what holds anyway holds of a call that succeeded
pub on_ok : {T E : Type 0} (r : Result T E) {P : Type 0} → P → OnOk r P
on_ok (Ok v) h = h
on_ok (Err e) h = tt

-- ---- what a command did to the store, and what it leaves of the session

module _ {S : Type 0} {g : Ghosts S} {a b : S} where
  -- a command that makes so many commits
  pub steps_by : (c k : Command) (n : ℕ) → c ≡ k → n ≤ most_commits k → StepsOn g n a b → StepsOn g (most_commits c) a b
  steps_by c k n is few s = subst (λ x. StepsOn g (most_commits x) a b) (sym is) (more_steps few s)

  -- a call that commits nothing
  pub steps_stay : (most : ℕ) → (g.told → g.failed b ≡ false → (t : VolumeTable) (image : ℕ → List ℕ) → g.leaves b t image → IsChoiceOf (stored g b) t image) → g.failed a ≡ false → Stays g a b → StepsOn g most a b
  steps_stay most now usable s = more_steps (omega arith) (stays_steps s (λ told. now told (s.failed ∙ usable)))

  -- where memory was wanting
  pub between_poor : (m n : Memory) → OnlyReads g a b → n ≡ m → IsBetweenSteps g a m → IsBetweenSteps g b n
  between_poor m n reads same i = subst (IsBetweenSteps g b) (sym same) (reads_between m reads i)

-- no call was made
pub steps_none : {S : Type 0} (g : Ghosts S) (most : ℕ) (a : S) → (g.told → g.failed a ≡ false → (t : VolumeTable) (image : ℕ → List ℕ) → g.leaves a t image → IsChoiceOf (stored g a) t image) → g.failed a ≡ false → StepsOn g most a a
steps_none g most a now usable = steps_stay most now usable (stays_none a)

-- and nothing was put
none_put : {S : Type 0} (g : Ghosts S) (m : Memory) (u : List ℕ) (at : ℕ) (bytes : List ℕ) (a : S) → WritesOnly g m u at bytes a a
none_put g m u at bytes a = record { works = works_none _ a; places = λ r is told. Reaches-none _ _ }

pub writes_none : {S : Type 0} (g : Ghosts S) (m : Memory) (c : Command) (a : S) → WritesOnlyIts g m c a a
writes_none g m (command.Write u at bytes) a = none_put g m u at bytes a
writes_none g m (command.Fill u at count byte) a = none_put g m u at _ a
writes_none g m _ a = tt

-- a call that tells part by part what it leaves of the session
pub between_parts : {S : Type 0} (g : Ghosts S) (a b : S) (m n : Memory) (r : Result ⊤ Failed) → IsBetweenSteps g a m → OnOk r (g.failed b ≡ false) → OnOk r (IsOrderlyStore g b n)
    → (IsTidyStore g a m → OnOk r (IsTidyStore g b n)) → OnOk r (HasTrueImages g b n) → (HasRows (g.table a) → OnOk r (HasRows (g.table b))) → HasTreeRoom n → HasAttachmentRoom n → OnOk r (IsBetweenSteps g b n)
between_parts g a b m n (Ok u) i usable orderly tidy true_images rows tree_room attachment_room = record {
  usable = usable;
  orderly = orderly;
  tidy = tidy i.tidy;
  true_images = true_images;
  rows = rows i.rows;
  tree_room = tree_room;
  attachment_room = attachment_room;
}
between_parts g a b m n (Err e) i usable orderly tidy true_images rows tree_room attachment_room = tt

-- where a command is refused for want of memory alone, it is refused for that or by its first cause
pub only_poor : (σ : Shape) (c : Command) (r : Result Reply Failed) → IfOk r (λ k. (x : Refusal) → k ≡ No x → x ≡ NoMemory) → IfOk r (λ k. (x : Refusal) → k ≡ No x → (x ≡ NoMemory) ⊎ (refusal σ c ≡ Some x))
only_poor σ c (Ok k) poor = λ x same. inl (poor x same)
only_poor σ c (Err e) poor = tt
