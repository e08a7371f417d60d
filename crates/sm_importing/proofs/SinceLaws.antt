-- What holds of the store that an import was begun on, as its volume is made, written to and grows, and where a call fails.
use Rattle.std.proofs.Common.{◌≡◌, Bool, true, false, List, ℕ, refl, sym, ◌∙◌, subst, subst₂, arith}
use Rattle.std.proofs.lemmas.Bool.{true≢false}
use Rattle.sm_base.specs.declared.names.Name.TheVariants.{Vhd}
use Rattle.sm_disk.specs.Held.{Rose}
use Rattle.sm_disk.proofs.HeldLaws.{Keeps-then}
use Rattle.vg_volumes.specs.declared.stores.Store.{Ghosts}
use Rattle.sm_ready.specs.Framing.{StepsOn}
use Rattle.sm_ready.specs.Frames.{HasCommits}
use Rattle.sm_ready.specs.Sessions.{IsReadyStore}
use Rattle.sm_ready.specs.declared.memory.Memory.{Memory}
use Rattle.sm_ready.proofs.ChainLaws.{tab}
use Rattle.sm_importing.specs.Imports.{GoesOnImporting, GrowsEachCommit, ImportsSince, LeavesStill, StopsImporting, extents_of_volume}
use Rattle.sm_importing.specs.Disks.{Begin, IsSince}
use Rattle.sm_importing.proofs.LowerLaws.{lower_step}

module _ {S : Type 0} {g : Ghosts S} {o : Begin S} {s : S} {m : Memory} {u : List ℕ} {most : ℕ} (n : S) (step : StepsOn g most s n) where
  -- ---- the volume is made, or not

  module _ (h : IsSince g o s m u false false) where
    at : s ≡ o.store
    at = h.unbegun refl refl

    ready_at : IsReadyStore g o.store o.memory → IsReadyStore g s m
    ready_at ready = subst₂ (λ x y. IsReadyStore g x y) (sym at) (sym h.memory) ready

    pub since_made : HasCommits (extents_of_volume (tab g n) (Vhd u)) (tab g s) (tab g n) → (g.told → IsReadyStore g s m → ImportsSince g u m s n) → IsSince g o n m u true false
    since_made few goes = record {
      memory = h.memory;
      disk = h.disk;
      site = step.site ∙ h.site;
      beside = λ told. Keeps-then (h.beside told) (step.beside told);
      unbegun = λ whole begun. absurd (true≢false begun);
      goes_on = λ told ready whole begun.
          subst (λ z. ImportsSince g z o.memory o.store n) h.disk (subst₂ (λ x y. ImportsSince g u y x n) at h.memory (goes told (ready_at ready)));
      stops = λ told ready over. absurd (true≢false (sym over));
      counts = omega (arith, h.counts, step.counts);
      failed = λ over begun. absurd (true≢false (sym over));
      few = λ whole begun. subst (λ x. HasCommits (extents_of_volume (tab g n) (Vhd u)) (tab g x) (tab g n)) at few;
      no_lower = lower_step step h.no_lower;
    }

    pub since_unmade : (g.told → IsReadyStore g s m → LeavesStill g m s n) → IsSince g o n m u false true
    since_unmade stops = record {
      memory = h.memory;
      disk = h.disk;
      site = step.site ∙ h.site;
      beside = λ told. Keeps-then (h.beside told) (step.beside told);
      unbegun = λ whole begun. absurd (true≢false whole);
      goes_on = λ told ready whole begun. absurd (true≢false whole);
      stops = λ told ready over. subst₂ (λ y x. LeavesStill g y x n) h.memory at (stops told (ready_at ready));
      counts = omega (arith, h.counts, step.counts);
      failed = λ over begun. absurd (true≢false (sym begun));
      few = λ whole begun. absurd (true≢false whole);
      no_lower = lower_step step h.no_lower;
    }

    pub since_cut : Rose (g.faults s) (g.faults n) → (g.told → IsReadyStore g s m → LeavesStill g m s n) → IsSince g o n m u true true
    since_cut rose stops = record {
      memory = h.memory;
      disk = h.disk;
      site = step.site ∙ h.site;
      beside = λ told. Keeps-then (h.beside told) (step.beside told);
      unbegun = λ whole begun. absurd (true≢false whole);
      goes_on = λ told ready whole begun. absurd (true≢false whole);
      stops = λ told ready over. subst₂ (λ y x. LeavesStill g y x n) h.memory at (stops told (ready_at ready));
      counts = omega (arith, h.counts, step.counts);
      failed = λ over begun. omega (arith, h.counts, rose);
      few = λ whole begun. absurd (true≢false whole);
      no_lower = lower_step step h.no_lower;
    }

  -- ---- behind that

  module _ (h : IsSince g o s m u true false) where
    before : g.told → IsReadyStore g o.store o.memory → ImportsSince g u m o.store s
    before told ready =
        let i = h.goes_on told ready refl refl in
        subst₂ (λ z y. ImportsSince g z y o.store s) (sym h.disk) (sym h.memory) i

    pub since_goes_on : GrowsEachCommit (Vhd u) (tab g s) (tab g n) → GoesOnImporting g u m s n → IsSince g o n m u true false
    since_goes_on grows goes = record {
      memory = h.memory;
      disk = h.disk;
      site = step.site ∙ h.site;
      beside = λ told. Keeps-then (h.beside told) (step.beside told);
      unbegun = λ whole begun. absurd (true≢false begun);
      goes_on = λ told ready whole begun. subst₂ (λ z y. ImportsSince g z y o.store n) h.disk h.memory (goes o.store (before told ready));
      stops = λ told ready over. absurd (true≢false (sym over));
      counts = omega (arith, h.counts, step.counts);
      failed = λ over begun. absurd (true≢false (sym over));
      few = λ whole begun. let had = h.few refl refl in omega (arith, had, grows.longer, grows.few);
      no_lower = lower_step step h.no_lower;
    }

    pub since_stopped : Rose (g.faults s) (g.faults n) → StopsImporting g u m s n → IsSince g o n m u true true
    since_stopped rose stops = record {
      memory = h.memory;
      disk = h.disk;
      site = step.site ∙ h.site;
      beside = λ told. Keeps-then (h.beside told) (step.beside told);
      unbegun = λ whole begun. absurd (true≢false whole);
      goes_on = λ told ready whole begun. absurd (true≢false whole);
      stops = λ told ready over. subst (λ y. LeavesStill g y o.store n) h.memory (stops o.store (before told ready));
      counts = omega (arith, h.counts, step.counts);
      failed = λ over begun. omega (arith, h.counts, rose);
      few = λ whole begun. absurd (true≢false whole);
      no_lower = lower_step step h.no_lower;
    }

  -- ---- the same by what the disk says of itself

  module _ {b v : Bool} (whole : v ≡ false) where
    pub made_since : b ≡ false → HasCommits (extents_of_volume (tab g n) (Vhd u)) (tab g s) (tab g n) → (g.told → IsReadyStore g s m → ImportsSince g u m s n) → IsSince g o s m u b v → IsSince g o n m u true v
    made_since new few goes h = subst (λ y. IsSince g o n m u true y) (sym whole) (since_made (subst₂ (λ x y. IsSince g o s m u x y) new whole h) few goes)

    pub unmade_since : b ≡ false → (g.told → IsReadyStore g s m → LeavesStill g m s n) → IsSince g o s m u b v → IsSince g o n m u b true
    unmade_since new stops h = subst (λ x. IsSince g o n m u x true) (sym new) (since_unmade (subst₂ (λ x y. IsSince g o s m u x y) new whole h) stops)

    pub cut_since : b ≡ false → Rose (g.faults s) (g.faults n) → (g.told → IsReadyStore g s m → LeavesStill g m s n) → IsSince g o s m u b v → IsSince g o n m u true true
    cut_since new rose stops h = since_cut (subst₂ (λ x y. IsSince g o s m u x y) new whole h) rose stops

    pub put_since : b ≡ true → GrowsEachCommit (Vhd u) (tab g s) (tab g n) → GoesOnImporting g u m s n → IsSince g o s m u b v → IsSince g o n m u b v
    put_since begun grows goes h = subst₂ (λ x y. IsSince g o n m u x y) (sym begun) (sym whole) (since_goes_on (subst₂ (λ x y. IsSince g o s m u x y) begun whole h) grows goes)

    pub stopped_since : b ≡ true → Rose (g.faults s) (g.faults n) → StopsImporting g u m s n → IsSince g o s m u b v → IsSince g o n m u b true
    stopped_since begun rose stops h = subst (λ x. IsSince g o n m u x true) (sym begun) (since_stopped (subst₂ (λ x y. IsSince g o s m u x y) begun whole h) rose stops)
