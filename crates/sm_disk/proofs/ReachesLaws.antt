-- Laws of `Reaches`: what a crash or a read may show after several calls.
use Rattle.std.proofs.Common.{◌≡◌, ℕ, ◌-◌, ◌<◌, ◌⊎◌, inl, inr, List, [], ◌∷◌, ◌++◌, length, sym, refl, ap, ◌∙◌, subst}
use Rattle.sm_disk.specs.Sectors.{sector}
use Rattle.sm_disk.specs.Held.{Held, newest, reads, May, Allows, IsIn, Torn, SameHeld, Keeps, IsSettled, Reaches, Puts}
use Rattle.sm_disk.proofs.HeldLaws.{Keeps-same, may-torn, May-reads, may_settled, newest-push, reads-at, image_of}

pub Reaches-none : (W : ℕ → List ℕ → Type 0) (h : Held) → Reaches W h h
Reaches-none W h = record { may = λ p v m. inl m; gives = λ p. inl refl }

pub Reaches-then : {W : ℕ → List ℕ → Type 0} {a b c : Held} → Reaches W a b → Reaches W b c → Reaches W a c
Reaches-then {W} {a} {b} {c} r s = record {
  may = λ p v m. may_by p v (s.may p v m);
  gives = λ p. gives_by p (s.gives p) (r.gives p);
}
  where
    may_by : (p : ℕ) (v : List ℕ) → May b p v ⊎ W p v → May a p v ⊎ W p v
    may_by p v (inl was) = r.may p v was
    may_by p v (inr is) = inr is

    gives_by : (p : ℕ) → (reads c p ≡ reads b p) ⊎ W p (reads c p) → (reads b p ≡ reads a p) ⊎ W p (reads b p)
        → (reads c p ≡ reads a p) ⊎ W p (reads c p)
    gives_by p (inr is) _ = inr is
    gives_by p (inl same) (inl was) = inl (same ∙ was)
    gives_by p (inl same) (inr is) = let P : List ℕ → Type 0 = λ v. W p v in inr (subst P (sym same) is)

-- with more that may be written
pub Reaches-wider : {W V : ℕ → List ℕ → Type 0} {a b : Held} → ((p : ℕ) (v : List ℕ) → W p v → V p v) → Reaches W a b → Reaches V a b
Reaches-wider {W} {V} {a} {b} wider r = record {
  may = λ p v m. may_by p v (r.may p v m);
  gives = λ p. gives_by p (r.gives p);
}
  where
    may_by : (p : ℕ) (v : List ℕ) → May a p v ⊎ W p v → May a p v ⊎ V p v
    may_by p v (inl was) = inl was
    may_by p v (inr is) = inr (wider p v is)

    gives_by : (p : ℕ) → (reads b p ≡ reads a p) ⊎ W p (reads b p) → (reads b p ≡ reads a p) ⊎ V p (reads b p)
    gives_by p (inl same) = inl same
    gives_by p (inr is) = inr (wider p (reads b p) is)

pub Reaches-keeps : (W : ℕ → List ℕ → Type 0) {a b : Held} → Keeps a b → Reaches W a b
Reaches-keeps W k = record { may = λ p v m. inl (k.may p v m); gives = λ p. inl (k.reads p) }

pub Reaches-same : (W : ℕ → List ℕ → Type 0) {a b : Held} → SameHeld a b → Reaches W a b
Reaches-same W s = Reaches-keeps W (Keeps-same s)

pub Reaches-torn : {at : ℕ} {bytes : List ℕ} {a b : Held} → Torn at bytes a b → Reaches (Puts at bytes) a b
Reaches-torn {at} {bytes} {a} {b} t = record {
  may = λ p v m. may-torn t p v m;
  gives = λ p. gives_by p (t.pending p);
}
  where
    gives_by : (p : ℕ) → (b.pending p ≡ a.pending p) ⊎ (IsIn at (length bytes) p × (b.pending p ≡ a.pending p ++ sector bytes (p - at) ∷ []))
        → (reads b p ≡ reads a p) ⊎ Puts at bytes p (reads b p)
    gives_by p (inl same) = inl (reads-at a b p (t.floor p) same)
    gives_by p (inr (here, more)) = inr (here, ap (newest (b.floor p)) more ∙ newest-push (b.floor p) (a.pending p) (sector bytes (p - at)))

-- where nothing was pending, a crash leaves what a read gave or what was written
pub may_reached : {W : ℕ → List ℕ → Type 0} {a b : Held} → IsSettled a → Reaches W a b
    → (p : ℕ) (v : List ℕ) → May b p v → (v ≡ reads a p) ⊎ W p v
may_reached {W} {a} {b} settled r p v m = by (r.may p v m)
  where
    by : May a p v ⊎ W p v → (v ≡ reads a p) ⊎ W p v
    by (inl was) = inl (may_settled a p v (settled p) was)
    by (inr is) = inr is

-- for each image that may be left now there is one that might have been left before, and at each place
-- the two are equal or it was written there
pub image_before : {W : ℕ → List ℕ → Type 0} {a b : Held} (size : ℕ) (image : ℕ → List ℕ) → Reaches W a b → Allows size b image
    → (before : ℕ → List ℕ) × Allows size a before × ((p : ℕ) → p < size → (image p ≡ before p) ⊎ W p (image p))
image_before {W} {a} {b} size image r allowed =
    image_of size a (λ p v. (image p ≡ v) ⊎ W p (image p)) (λ p below. by p (r.may p (image p) (allowed p below)))
  where
    by : (p : ℕ) → May a p (image p) ⊎ W p (image p) → (v : List ℕ) × May a p v × ((image p ≡ v) ⊎ W p (image p))
    by p (inl was) = (image p, was, inl refl)
    by p (inr is) = (reads a p, May-reads a p, inr is)
