-- A trial, line by line.
use Rattle.std.proofs.Common.{◌≡◌, ◌≢◌, ℕ, suc, ◌-◌, ◌<◌, arith, Result, Ok, Err, refl, sym, ap, ◌∙◌, subst}
use Rattle.std.specs.Prelude.{OnOk}
use Rattle.sm_machine.specs.Runs.{taken, after_run, ample}
use Rattle.sm_machine.specs.Steps.{State}
use Rattle.sm_trial.specs.declared.tallies.Tally.{Tally}
use Rattle.sm_trial.specs.Tallies.{Comes, Goes, HasTried, tally_after, no_replies}
use Rattle.sm_script.specs.Trials.{lines_drawn, trial_count, trial_lines}

pub comes-all : (σ : State) (x : ℕ) → Comes σ no_replies trial_count x (after_run σ (ample (trial_lines x))) (tally_after σ (ample (trial_lines x)) no_replies)
comes-all σ x = record { state = refl; counts = refl }

next : (σ σ' : State) (t t' : Tally) (n x x' : ℕ) (end : State) (total : Tally) (is_ready : Type 0) → Goes σ t x σ' t' x' is_ready → Comes σ t (suc n) x end total → Comes σ' t' n x' end total
unfolding lines_drawn after_run tally_after taken
next σ σ' t t' n x x' end total is_ready g c = record {
  state = rw (g.state, g.next) c.state;
  counts = rw (g.state, g.next, g.counted) c.counts;
}

pub comes-next : (σ σ' : State) (t t' : Tally) (left x x' : ℕ) (end : State) (total : Tally) (is_ready : Type 0) → 0 < left → Goes σ t x σ' t' x' is_ready
    → Comes σ t left x end total → Comes σ' t' (left - 1) x' end total
comes-next σ σ' t t' left x x' end total is_ready some g c =
    let is : left ≡ suc (left - 1) = omega arith in
    next σ σ' t t' (left - 1) x x' end total is_ready g (rw is at c)

pub comes-end : (σ σ' : State) (t : Tally) (left x x' : ℕ) → left ≡ 0 → Comes σ' t left x' (after_run σ (ample (trial_lines x))) (tally_after σ (ample (trial_lines x)) no_replies) → HasTried σ σ' (trial_lines x) t
unfolding lines_drawn after_run tally_after
comes-end σ σ' t left x x' none c = let e = rw none at c in record { state = e.state; counts = e.counts }

-- what succeeded did not fail
pub ok_no_err : {A E : Type 0} (x : A) (e : E) {r : Result A E} → r ≡ Ok x → r ≢ Err e
ok_no_err x e is failed = let h = sym is ∙ failed in (let k = h in cc)

-- a failure owes nothing that a success owes
pub owes_nothing : {A E : Type 0} {r : Result A E} (e : E) (P : Type 0) → r ≡ Err e → OnOk r P
owes_nothing e P is = subst (λ x. OnOk x P) (sym is) tt

-- a failure that is answered as it came
pub as_answered : {A B E : Type 0} {r : Result A E} {s : Result B E} (x y e : E) → r ≡ Err x → s ≡ Err y → y ≡ x → s ≢ Err e → r ≢ Err e
as_answered x y e is says same other failed = other (says ∙ ap (λ z. Err z) (same ∙ (let h = sym is ∙ failed in (let k = h in cc))))
