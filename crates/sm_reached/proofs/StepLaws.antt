-- A command that no cause refuses, on shapes: what it keeps, and how the sequence number rises.
use Rattle.std.proofs.Common.{◌≡◌, ℕ, ◌+◌, ◌-◌, ◌^◌, ◌<◌, ◌≤◌, List, [], ◌∷◌, ◌++◌, Option, Some, None, refl, sym, ap, ◌∙◌, subst, arith}
use Rattle.std.proofs.lemmas.Bool.{leb-false}
use Rattle.common_laws.specs.Lists.{In}
use Rattle.sm_base.specs.declared.refusals.Refusal.{Refusal}
use Rattle.sm_log.specs.Logs.{Log}
use Rattle.sm_machine.specs.declared.commands.Command.{Command}
use Rattle.sm_machine.specs.declared.commands.Command.TheVariants.{Create, Delete, Attach, Detach, Snapshot, Clone, Resize, Label, Write, Fill, Read, Flush, Gc, List as Listing, Stat, Track, Changed}
use Rattle.sm_machine.specs.Commits.{commits, is_given_up, own_commits}
use Rattle.sm_machine.specs.Shapes.{Shape}
use Rattle.sm_machine.specs.Refusals.{refusal}
use Rattle.sm_machine.specs.Steps.{State, accepted, shape_next}
use Rattle.sm_machine.specs.Tracking.{AreGoodLogs, AreOfSnapshots, log_commits, tracked, tracked_step, tracked_unless}
use Rattle.sm_machine.specs.WellFormed.{IsWellFormed}
use Rattle.sm_machine.proofs.LogLists.{log_found}
use Rattle.sm_machine.proofs.Numbers.{risen-up}
use Rattle.sm_machine.proofs.Passed.{passed}
use Rattle.sm_machine.proofs.Steps.{at_least_eight, risen-above, snapshot_facts}
use Rattle.sm_machine.proofs.Tracked.{tracked_counted, tracked_step_keeps_shape}
use Rattle.sm_machine.proofs.TrackedLogs.{tracked_step_keeps_logs}
use Rattle.sm_machine.proofs.TrackedSnapshots.{tracked_step_keeps_snapshots}
use Rattle.sm_reached.proofs.SourceLaws.{source}

-- the shape behind a command that was accepted
abbrev pub next : Shape → Command → Shape
next s c = tracked s c (shape_next s c)

-- a shape as a run has them
pub record IsSound (s : Shape) : Type 0 where
  pub well : IsWellFormed s
  pub good : AreGoodLogs s
  pub snapshots : AreOfSnapshots s

pub next_is : (σ : State) (c : Command) → refusal σ.shape c ≡ None → (tracked_step σ c).after.shape ≡ next σ.shape c
unfolding tracked_step accepted
next_is σ c e = by (refusal σ.shape c) e
  where
    by : (o : Option Refusal) → o ≡ None → (tracked_unless o σ c).after.shape ≡ next σ.shape c
    by None q = refl
    by (Some r) q = cc

pub next_sound : (s : Shape) (c : Command) → refusal s c ≡ None → IsSound s → IsSound (next s c)
next_sound s c e b =
    let σ : State = record { disks = []; shape = s } in
    record {
      well = subst IsWellFormed (next_is σ c e) (tracked_step_keeps_shape σ c b.well b.good);
      good = subst AreGoodLogs (next_is σ c e) (tracked_step_keeps_logs σ c b.well b.good);
      snapshots = subst AreOfSnapshots (next_is σ c e) (tracked_step_keeps_snapshots σ c b.well b.good b.snapshots);
    }

-- ---- the sequence number

pub not_lower : (s : Shape) (c : Command) → IsWellFormed s → s.sequence ≤ (next s c).sequence
not_lower s c w = subst (λ (n : ℕ). s.sequence ≤ n) (sym (tracked_counted s c)) (risen-up s.sequence (commits s c + log_commits s c) w.sequence)

-- it rises where a snapshot is taken
pub higher : (s : Shape) (u twin : List ℕ) → refusal s (Snapshot u twin) ≡ None → s.sequence < (next s (Snapshot u twin)).sequence
unfolding commits own_commits
higher s u twin e =
    let small : s.sequence < 2 ^ 48 - 16 = leb-false (2 ^ 48 - 16) s.sequence (snapshot_facts s u twin (passed s (Snapshot u twin) e)).not_spent in
    let eight : 8 ≤ commits s (Snapshot u twin) = at_least_eight (is_given_up s (Snapshot u twin)) in
    let most : 8 ≤ commits s (Snapshot u twin) + log_commits s (Snapshot u twin) = omega (arith, eight) in
    subst (λ (n : ℕ). s.sequence < n) (sym (tracked_counted s (Snapshot u twin))) (risen-above s.sequence (commits s (Snapshot u twin) + log_commits s (Snapshot u twin)) small most)

not_some : (l : Log) → None ≡ Some l → ⊥
not_some l e = cc

-- a command that takes a snapshot of a disk with a log
source_parts : (s : Shape) (c : Command) (l : Log) → source s c ≡ Some l → (u : List ℕ) × (twin : List ℕ) × (c ≡ Snapshot u twin) × In l s.logs
source_parts s (Snapshot u twin) l q = (u, twin, refl, (log_found u s.logs l q).0)
source_parts s (Create u size raw label) l q = absurd (not_some l q)
source_parts s (Delete u) l q = absurd (not_some l q)
source_parts s (Attach u mode) l q = absurd (not_some l q)
source_parts s (Detach u) l q = absurd (not_some l q)
source_parts s (Clone u twin) l q = absurd (not_some l q)
source_parts s (Resize u size) l q = absurd (not_some l q)
source_parts s (Label u text) l q = absurd (not_some l q)
source_parts s (Write u sector bytes) l q = absurd (not_some l q)
source_parts s (Fill u sector count byte) l q = absurd (not_some l q)
source_parts s (Read u sector count) l q = absurd (not_some l q)
source_parts s (Flush u) l q = absurd (not_some l q)
source_parts s Gc l q = absurd (not_some l q)
source_parts s Listing l q = absurd (not_some l q)
source_parts s Stat l q = absurd (not_some l q)
source_parts s (Track u on) l q = absurd (not_some l q)
source_parts s (Changed u n) l q = absurd (not_some l q)

pub source_in : (s : Shape) (c : Command) (l : Log) → source s c ≡ Some l → In l s.logs
source_in s c l q = (source_parts s c l q).3

pub higher_source : (s : Shape) (c : Command) (l : Log) → refusal s c ≡ None → source s c ≡ Some l → s.sequence < (next s c).sequence
higher_source s c l e q =
    let p : (u : List ℕ) × (twin : List ℕ) × (c ≡ Snapshot u twin) × In l s.logs = source_parts s c l q in
    subst (λ (x : Command). s.sequence < (next s x).sequence) (sym p.2) (higher s p.0 p.1 (sym (ap (refusal s) p.2) ∙ e))

-- ---- one command after the other

unfoldable pub next_all : Shape → List Command → Shape
next_all s [] = s
next_all s (c ∷ cs) = next_all (next s c) cs

-- no cause refuses any of them
abbrev pub AllPass : Shape → List Command → Type 0
AllPass s [] = Unit {0}
AllPass s (c ∷ cs) = (refusal s c ≡ None) × AllPass (next s c) cs

pub sound_all : (s : Shape) (cs : List Command) → AllPass s cs → IsSound s → IsSound (next_all s cs)
unfolding next_all
sound_all s [] a b = b
sound_all s (c ∷ cs) a b = sound_all (next s c) cs a.1 (next_sound s c a.0 b)

pub next_append : (s : Shape) (cs ds : List Command) → next_all s (cs ++ ds) ≡ next_all (next_all s cs) ds
unfolding next_all
next_append s [] ds = refl
next_append s (c ∷ cs) ds = next_append (next s c) cs ds

pub pass_append : (s : Shape) (cs ds : List Command) → AllPass s (cs ++ ds) → AllPass s cs × AllPass (next_all s cs) ds
unfolding next_all
pass_append s [] ds a = (tt, a)
pass_append s (c ∷ cs) ds a = let r : AllPass (next s c) cs × AllPass (next_all (next s c) cs) ds = pass_append (next s c) cs ds a.1 in ((a.0, r.0), r.1)
