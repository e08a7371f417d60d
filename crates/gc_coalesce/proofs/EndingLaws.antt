-- The steps by which an operation of the collector ends, or is replaced by the next: as the machine's.
use Rattle.std.proofs.Common.{◌≡◌, ⊎_elim, inr, ℕ, true, List, [], ◌∷◌, Option, Some, None, refl, sym, ap, ◌∙◌, subst, subst₂}
use Rattle.common_laws.specs.Lists.{In}
use Rattle.common_laws.proofs.Lists.{filter-In}
use Rattle.sm_base.specs.Kinds.{is_entry}
use Rattle.sm_base.specs.Names.{IsName}
use Rattle.sm_base.specs.declared.names.Name.{Name}
use Rattle.sm_base.specs.declared.names.Name.TheVariants.{Coalesce, Relink}
use Rattle.sm_machine.specs.Operations.{Op}
use Rattle.sm_machine.specs.Operations as op
use Rattle.sm_base.specs.declared.operations.Plan.TheVariants as plan
use Rattle.vg_meta.specs.Tables.{IsVolume, Row, VolumeTable, names_of, rows}
use Rattle.vg_meta.specs.Changes.{raised}
use Rattle.vg_meta.specs.declared.changes.Change.{Change}
use Rattle.vg_meta.specs.declared.changes.Change.TheVariants.{Rename}
use Rattle.vg_meta.proofs.RowLaws.{row_of-name}
use Rattle.vg_volumes.specs.Sites.{Site}
use Rattle.vg_volumes.specs.Stored.{Commits, FailsToCommit, IsEitherOf, stored}
use Rattle.vg_volumes.specs.declared.stores.Store.{Ghosts}
use Rattle.sm_machine.specs.Collector.{collected, next_step, turned}
use Rattle.sm_machine.specs.Commits.{plan_commits}
use Rattle.sm_machine.specs.Shapes.{Shape, image_uuid}
use Rattle.sm_machine.specs.Steps.{disks_next, shape_next}
use Rattle.sm_machine.specs.WellFormed.{IsOperation}
use Rattle.sm_machine.specs.declared.commands.Command.TheVariants.{Gc}
use Rattle.sm_standing.specs.Entries.{names_in}
use Rattle.sm_standing.proofs.DisksShown.{row_of-In}
use Rattle.sm_ready.specs.Does.{StoreDoes, store_shape}
use Rattle.sm_ready.specs.Known.{Known, entry_of, known, shape_in}
use Rattle.sm_ready.specs.Orderly.{IsOrderly}
use Rattle.sm_ready.specs.Sessions.{IsOrderlyStore}
use Rattle.sm_ready.specs.declared.memory.Memory.{Memory}
use Rattle.sm_ready.proofs.ChainLaws.{tab}
use Rattle.sm_ready.proofs.RowLaws.{All-In, In-names}
use Rattle.sm_ready.proofs.TakenLaws.{IsTold}
use Rattle.gc_abandon.proofs.EndingLaws.{IsEnding, done_as, entry_row, failed_end}
use Rattle.gc_coalesce.proofs.CopiedLaws.{all_copied}
use Rattle.gc_coalesce.proofs.PlannedLaws.{gc_shape, none_left}
use Rattle.gc_abandon.proofs.EntryLaws.{entry_replaced}

-- another is none
none_other : (t : VolumeTable) (e f : Name) → names_in t is_entry ≡ e ∷ [] → is_entry f ≡ true → (f ≡ e → ⊥) → rows t f ≡ None
none_other t e f one is other = by (rows t f) refl
  where
    by : (r : Option Row) → rows t f ≡ r → r ≡ None
    by None at = refl
    by (Some r) at = absurd (⊎_elim (λ same. other same) (λ none. none)
        (subst (In f) one (filter-In is_entry (names_of t.volumes) f (subst (λ n. In n (names_of t.volumes)) (row_of-name t.volumes f r at) (In-names t.volumes r (row_of-In t.volumes f r at).0)) is)))

-- the machine's shape where a step ends it
pub step_abandon : (s : Site) (t : VolumeTable) (m : Known) → next_step (shape_in s t m) ≡ plan.Abandon → record (shape_in s t m) { sequence = raised t.sequence; op = op.Idle } ≡ shape_next (shape_in s t m) Gc
unfolding shape_in collected plan_commits
step_abandon s t m planned = sym (gc_shape (shape_in s t m) plan.Abandon planned)

pub step_finish : (s : Site) (t : VolumeTable) (m : Known) → next_step (shape_in s t m) ≡ plan.Finish → record (shape_in s t m) { sequence = raised t.sequence; op = op.Idle } ≡ shape_next (shape_in s t m) Gc
unfolding shape_in collected plan_commits
step_finish s t m planned = sym (gc_shape (shape_in s t m) plan.Finish planned)

-- children are linked next
to_turn : (s : Site) (t : VolumeTable) (m : Known) (v p : Name) (cursor : ℕ) → IsOrderly s t m → next_step (shape_in s t m) ≡ plan.Turn → m.op ≡ op.Copy v p cursor
    → IsEnding s t m (op.Relink v p) (Rename (Coalesce (image_uuid v) (image_uuid p)) (Relink (image_uuid v) (image_uuid p)))
unfolding shape_in IsName
to_turn s t m v p cursor o planned is =
    let from = Coalesce (image_uuid v) (image_uuid p) in
    let to = Relink (image_uuid v) (image_uuid p) in
    let one : names_in t is_entry ≡ from ∷ [] = o.entries ∙ ap entry_of is in
    let r = entry_row t from one in
    let proper : IsName from = subst IsName (row_of-name t.volumes from r.0 r.1) (All-In IsVolume t.volumes r.0 o.table.volumes.each (row_of-In t.volumes from r.0 r.1).0).name in
    record {
      orderly = o;
      permits = record {
        row = r.0;
        there = r.1;
        name_proper = proper;
        new_name = none_other t from to one refl (λ same. (let z = same in cc));
        same_kind = inr (refl, refl);
      };
      room = λ k. tt;
      of_entries = λ n of. ⊎_elim (λ same. ap is_entry same) (λ same. ap is_entry same) of;
      entry = entry_replaced t from to r.0 r.1 refl refl one;
      works = λ w. (subst (IsOperation (shape_in s t m)) is w.operation).link;
      roomy = tt;
      below = λ area ready. all_copied s t area m v p cursor o ready.firm is (none_left s t m v p cursor planned is);
    }

pub step_turn : (s : Site) (t : VolumeTable) (m : Known) (v p : Name) (cursor : ℕ) → next_step (shape_in s t m) ≡ plan.Turn → m.op ≡ op.Copy v p cursor
    → record (shape_in s t m) { sequence = raised t.sequence; op = op.Relink v p } ≡ shape_next (shape_in s t m) Gc
unfolding shape_in collected plan_commits turned
step_turn s t m v p cursor planned is =
    sym (gc_shape (shape_in s t m) plan.Turn planned ∙ ap (λ y. let x : Shape = record (shape_in s t m) { sequence = raised t.sequence; op = turned y } in x) is)

-- ---- in a store

module _ {S : Type 0} (g : Ghosts S) (a : S) (m : Memory) (o : IsOrderlyStore g a m) where
  pub turns : {v p from to : Name} {cursor : ℕ} → next_step (store_shape g a m) ≡ plan.Turn → m.operation ≡ op.Copy v p cursor
      → from ≡ Coalesce (image_uuid v) (image_uuid p) → to ≡ Relink (image_uuid v) (image_uuid p) → IsEnding (g.site a) (tab g a) (known m) (op.Relink v p) (Rename from to)
  turns {v} {p} {cursor = cursor} planned is copy link =
      subst₂ (λ n k. IsEnding (g.site a) (tab g a) (known m) (op.Relink v p) (Rename n k)) (sym copy) (sym link) (to_turn (g.site a) (tab g a) (known m) v p cursor o planned is)

module _ {S : Type 0} (g : Ghosts S) (a : S) (m : Memory) {x : Op} {change : Change} (h : IsEnding (g.site a) (tab g a) (known m) x change) where
  -- as a step of the collector
  module _ {b : S} (c : Commits g change a b) where
    pub gc_end : IsTold g a m → ((v : VolumeTable) (image : ℕ → List ℕ) → g.leaves b v image → IsEitherOf (stored g a) change v image) → (n : Memory) → n ≡ record m { operation = x } → (ok : Type 0) → StoreDoes g Gc a m b n ok
    unfolding disks_next
    gc_end k stop n is ok = done_as g a m h c k stop n is ok

  pub gc_failed : IsTold g a m → {b : S} (n : Memory) (ok : Type 0) → (ok → ⊥) → n.logs ≡ m.logs → FailsToCommit g a b
      → ((v : VolumeTable) (image : ℕ → List ℕ) → g.leaves b v image → IsEitherOf (stored g a) change v image) → StoreDoes g Gc a m b n ok
  unfolding disks_next
  gc_failed k n ok never same_logs fails stop = failed_end g a m h k n ok never same_logs fails stop
