-- What a volume holds, at a place and past its end.
use Rattle.std.proofs.Common.{◌≡◌, ℕ, ◌<◌, ◌≤◌, cond, ◌⊎◌, inl, inr, Bool, true, false, List, [], refl, sym, ap, ap₂, ◌∙◌, subst}
use Rattle.std.specs.Prelude.{Contains, nat_lt}
use Rattle.std.proofs.lemmas.Bool.{lt-ltb, le-ltb, cases_lt}
use Rattle.sm_disk.specs.Held.{Held, IsSettled, Keeps, May, SameHeld, newest, reads}
use Rattle.sm_disk.proofs.HeldLaws.{reads-at, may-at}
use Rattle.vg_volumes.specs.Volumes.{SameElsewhere, KeepsAt, KeepsElsewhere, spot, span, volume}

pub volume_floor : (x : ℕ) (es : List ℕ) (a : Held) (p : ℕ) → p < span x es → (volume x es a).floor p ≡ a.floor (spot x es p)
unfolding volume
volume_floor x es a p below = ap (λ b. cond b (a.floor (spot x es p)) []) (lt-ltb p (span x es) below)

pub volume_pending : (x : ℕ) (es : List ℕ) (a : Held) (p : ℕ) → p < span x es → (volume x es a).pending p ≡ a.pending (spot x es p)
unfolding volume
volume_pending x es a p below = ap (λ b. cond b (a.pending (spot x es p)) []) (lt-ltb p (span x es) below)

pub volume_reads : (x : ℕ) (es : List ℕ) (a : Held) (p : ℕ) → p < span x es → reads (volume x es a) p ≡ reads a (spot x es p)
volume_reads x es a p below = ap₂ newest (volume_floor x es a p below) (volume_pending x es a p below)

-- a place of a volume may be left what the place of the area may
pub volume_may : (x : ℕ) (es : List ℕ) (a : Held) (p : ℕ) (v : List ℕ) → p < span x es → May a (spot x es p) v → May (volume x es a) p v
unfolding volume
volume_may x es a p v below m = subst (λ b. (v ≡ cond b (a.floor (spot x es p)) []) ⊎ Contains (cond b (a.pending (spot x es p)) []) v) (sym (lt-ltb p (span x es) below)) m

pub may_volume : (x : ℕ) (es : List ℕ) (a : Held) (p : ℕ) (v : List ℕ) → p < span x es → May (volume x es a) p v → May a (spot x es p) v
unfolding volume
may_volume x es a p v below m = subst (λ b. (v ≡ cond b (a.floor (spot x es p)) []) ⊎ Contains (cond b (a.pending (spot x es p)) []) v) (lt-ltb p (span x es) below) m

pub past_floor : (x : ℕ) (es : List ℕ) (a : Held) (p : ℕ) → span x es ≤ p → (volume x es a).floor p ≡ []
unfolding volume
past_floor x es a p past = ap (λ b. cond b (a.floor (spot x es p)) []) (le-ltb p (span x es) past)

pub past_pending : (x : ℕ) (es : List ℕ) (a : Held) (p : ℕ) → span x es ≤ p → (volume x es a).pending p ≡ []
unfolding volume
past_pending x es a p past = ap (λ b. cond b (a.pending (spot x es p)) []) (le-ltb p (span x es) past)

-- where the area keeps its floor a volume does
pub volume_floor_same : (x : ℕ) (es : List ℕ) (a b : Held) → ((p : ℕ) → b.floor p ≡ a.floor p) → (p : ℕ) → (volume x es b).floor p ≡ (volume x es a).floor p
volume_floor_same x es a b same p = by (cases_lt p (span x es))
  where
    by : (p < span x es) ⊎ (span x es ≤ p) → (volume x es b).floor p ≡ (volume x es a).floor p
    by (inl below) = volume_floor x es b p below ∙ same (spot x es p) ∙ sym (volume_floor x es a p below)
    by (inr past) = past_floor x es b p past ∙ sym (past_floor x es a p past)

-- ---- what a volume holds follows what the area holds

pub Keeps-volume : (x : ℕ) (es : List ℕ) {a b : Held} → Keeps a b → Keeps (volume x es a) (volume x es b)
unfolding volume
Keeps-volume x es {a} {b} k = record {
  reads = λ p. same (nat_lt p (span x es)) (spot x es p);
  may = λ p v m. before (nat_lt p (span x es)) (spot x es p) v m;
}
  where
    same : (t : Bool) (q : ℕ) → newest (cond t (b.floor q) []) (cond t (b.pending q) []) ≡ newest (cond t (a.floor q) []) (cond t (a.pending q) [])
    same true q = k.reads q
    same false q = refl

    before : (t : Bool) (q : ℕ) (v : List ℕ) → (v ≡ cond t (b.floor q) []) ⊎ Contains (cond t (b.pending q) []) v → (v ≡ cond t (a.floor q) []) ⊎ Contains (cond t (a.pending q) []) v
    before true q v m = k.may q v m
    before false q v m = m

pub SameHeld-volume : (x : ℕ) (es : List ℕ) {a b : Held} → SameHeld a b → SameHeld (volume x es a) (volume x es b)
unfolding volume
SameHeld-volume x es {a} {b} s = record {
  floor = λ p. ap (λ y. cond (nat_lt p (span x es)) y []) (s.floor (spot x es p));
  pending = λ p. ap (λ y. cond (nat_lt p (span x es)) y []) (s.pending (spot x es p));
}

pub IsSettled-volume : (x : ℕ) (es : List ℕ) (a : Held) → IsSettled a → IsSettled (volume x es a)
unfolding volume
IsSettled-volume x es a s = λ p. by (nat_lt p (span x es)) (spot x es p)
  where
    by : (t : Bool) (q : ℕ) → cond t (a.pending q) [] ≡ []
    by true q = s q
    by false q = refl

-- ---- elsewhere

pub SameElsewhere-none : (x : ℕ) (es : List ℕ) (a : Held) → SameElsewhere x es a a
SameElsewhere-none x es a = record { floor = λ p away. refl; pending = λ p away. refl }

-- what two calls leave elsewhere, both leave
pub SameElsewhere-then : {x : ℕ} {es : List ℕ} {a b c : Held} → SameElsewhere x es a b → SameElsewhere x es b c → SameElsewhere x es a c
SameElsewhere-then s t = record { floor = λ p away. t.floor p away ∙ s.floor p away; pending = λ p away. t.pending p away ∙ s.pending p away }

-- ---- at some places

pub KeepsAt-none : (P : ℕ → Type 0) (a : Held) → KeepsAt P a a
KeepsAt-none P a = record { reads = λ p at. refl; may = λ p v at m. m }

pub KeepsAt-then : {P : ℕ → Type 0} {a b c : Held} → KeepsAt P a b → KeepsAt P b c → KeepsAt P a c
KeepsAt-then f g = record {
  reads = λ p at. g.reads p at ∙ f.reads p at;
  may = λ p v at m. f.may p v at (g.may p v at m);
}

-- a sync
pub KeepsAt-keeps : (P : ℕ → Type 0) {a b : Held} → Keeps a b → KeepsAt P a b
KeepsAt-keeps P k = record { reads = λ p at. k.reads p; may = λ p v at m. k.may p v m }

-- a write of the volume
pub KeepsElsewhere-same : {x : ℕ} {es : List ℕ} {a b : Held} → SameElsewhere x es a b → KeepsElsewhere x es a b
KeepsElsewhere-same {x} {es} {a} {b} s = record {
  reads = λ p away. reads-at a b p (s.floor p away) (s.pending p away);
  may = λ p v away m. may-at a b p v (s.floor p away) (s.pending p away) m;
}
