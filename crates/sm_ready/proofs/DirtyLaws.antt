-- Blocks that are dirty once more were written to, or one less.
use Rattle.std.proofs.Common.{◌≡◌, ◌≢◌, ◌⊎◌, inl, inr, ⊎_elim, ℕ, ◌<◌, ◌==◌, not, nat_lt, Bool, true, false, cond, List, [], ◌∷◌, refl, sym, ap, ◌∙◌, subst, eqb-true}
use Rattle.std.proofs.lemmas.Bool.{eqb-false}
use Rattle.std.proofs.lemmas.Bool.{true≢false, lt-ltb}
use Rattle.common_laws.specs.Lists.{In}
use Rattle.sm_machine.specs.Operations.{dirtied, is_dirty, with_dirty, without_dirty}

same : (b : ℕ) → (b == b) ≡ true
same b = by (b == b) refl
  where
    by : (c : Bool) → (b == b) ≡ c → (b == b) ≡ true
    by true e = e
    by false e = absurd (eqb-false b b e refl)

-- a block that is not dirty once one more is, is another, and was not dirty
pub with_none : (b x : ℕ) (dirty : List ℕ) → is_dirty b (with_dirty x dirty) ≡ false → (b ≢ x) × (is_dirty b dirty ≡ false)
unfolding with_dirty
with_none b x [] none = ((λ e. true≢false (sym (ap (λ c. cond c true false) (ap (λ z. x == z) e ∙ same x)) ∙ none)), refl)
with_none b x (y ∷ ys) none = by (nat_lt x y) (y == x) (with_none b x ys) refl none
  where
    Both : Type 0
    Both = (b ≢ x) × (cond (y == b) true (is_dirty b ys) ≡ false)

    put : Bool → Bool → List ℕ
    put l s = cond l (x ∷ y ∷ ys) (cond s (y ∷ ys) (y ∷ with_dirty x ys))

    by : (l s : Bool) → (is_dirty b (with_dirty x ys) ≡ false → (b ≢ x) × (is_dirty b ys ≡ false)) → (y == x) ≡ s → is_dirty b (put l s) ≡ false → Both
    by true s rest e none = first (x == b) refl none
      where
        first : (c : Bool) → (x == b) ≡ c → cond c true (cond (y == b) true (is_dirty b ys)) ≡ false → Both
        first true is none = absurd (true≢false none)
        first false is none = ((λ e. true≢false (sym (ap (λ z. x == z) e ∙ same x) ∙ is)), none)
    by false true rest e none = (
      (λ q. true≢false (sym (ap (λ c. cond c true (is_dirty b ys)) (ap (λ z. y == z) q ∙ e)) ∙ none)),
      none,
    )
    by false false rest e none = first (y == b) none
      where
        first : (c : Bool) → cond c true (is_dirty b (with_dirty x ys)) ≡ false → (b ≢ x) × (cond c true (is_dirty b ys) ≡ false)
        first true none = absurd (true≢false none)
        first false none = rest none

-- a block that is not dirty behind a write was not dirty, and was not written to below the cursor
pub dirtied_none : (cursor b : ℕ) (bs dirty : List ℕ) → is_dirty b (dirtied cursor bs dirty) ≡ false → (is_dirty b dirty ≡ false) × (In b bs → b < cursor → ⊥)
unfolding dirtied
dirtied_none cursor b [] dirty none = (none, λ i below. i)
dirtied_none cursor b (x ∷ xs) dirty none = by (nat_lt x cursor) refl (dirtied_none cursor b xs (cond (nat_lt x cursor) (with_dirty x dirty) dirty) none)
  where
    by : (c : Bool) → nat_lt x cursor ≡ c → (is_dirty b (cond c (with_dirty x dirty) dirty) ≡ false) × (In b xs → b < cursor → ⊥) → (is_dirty b dirty ≡ false) × ((b ≡ x) ⊎ In b xs → b < cursor → ⊥)
    by true e r = (let w = with_none b x dirty r.0 in (w.1, λ i below. ⊎_elim (λ is. w.0 is) (λ rest. r.1 rest below) i))
    by false e r = (r.0, λ i below. ⊎_elim (λ is. true≢false (sym (lt-ltb x cursor (subst (λ z. z < cursor) is below)) ∙ e)) (λ rest. r.1 rest below) i)

-- a block that is not dirty once one less is, is that one, or was not dirty
pub without_none : (b x : ℕ) (dirty : List ℕ) → is_dirty b (without_dirty x dirty) ≡ false → (b ≡ x) ⊎ (is_dirty b dirty ≡ false)
unfolding without_dirty
without_none b x [] none = inr refl
without_none b x (y ∷ ys) none = by (y == x) refl (without_none b x ys) none
  where
    by : (c : Bool) → (y == x) ≡ c → (is_dirty b (without_dirty x ys) ≡ false → (b ≡ x) ⊎ (is_dirty b ys ≡ false)) → is_dirty b (cond (not c) (y ∷ without_dirty x ys) (without_dirty x ys)) ≡ false
        → (b ≡ x) ⊎ (cond (y == b) true (is_dirty b ys) ≡ false)
    by true e rest none = at (y == b) refl (rest none)
      where
        at : (d : Bool) → (y == b) ≡ d → (b ≡ x) ⊎ (is_dirty b ys ≡ false) → (b ≡ x) ⊎ (cond d true (is_dirty b ys) ≡ false)
        at true is r = inl (sym (eqb-true y b is) ∙ eqb-true y x e)
        at false is r = r
    by false e rest none = at (y == b) none
      where
        at : (d : Bool) → cond d true (is_dirty b (without_dirty x ys)) ≡ false → (b ≡ x) ⊎ (cond d true (is_dirty b ys) ≡ false)
        at true none = absurd (true≢false none)
        at false none = rest none
