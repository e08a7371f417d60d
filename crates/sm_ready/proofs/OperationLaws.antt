-- The images at which an operation of the collector works, where others come beside them.
use Rattle.std.proofs.Common.{◌≡◌, ◌≢◌, ◌⊎◌, inl, inr, ⊎_elim, ℕ, ◌*◌, ◌/◌, ◌<◌, Bool, false, List, [], refl, sym, ap, ◌∙◌, subst}
use Rattle.sm_base.specs.declared.names.Name.{Name}
use Rattle.sm_machine.specs.Operations.{Op, is_dirty}
use Rattle.sm_machine.specs.Operations as op
use Rattle.common_laws.specs.Lists.{In}
use Rattle.common_laws.proofs.Lists.{In-insert}
use Rattle.sm_machine.specs.Shapes.{Shape, ImageRow, DiskRecord, with_image}
use Rattle.sm_machine.specs.WellFormed.{IsWellFormed, IsChild, IsOperation}
use Rattle.sm_machine.proofs.Chains.{IsThere}
use Rattle.sm_standing.specs.Contents.{Content}
use Rattle.sm_standing.specs.Images.{image_of}
use Rattle.sm_ready.specs.Orderly.{IsRoomyFor, IsRoomyIn}
use Rattle.sm_ready.specs.Ready.{IsBelow, IsHeldBelow}

-- it works at these images
abbrev pub WorksAt : Op → Name → Type 0
WorksAt op.Idle n = ⊥
WorksAt (op.Copy v p cursor) n = (n ≡ v) ⊎ (n ≡ p)
WorksAt (op.Relink v p) n = (n ≡ v) ⊎ (n ≡ p)
WorksAt (op.Leaf l p cursor) n = (n ≡ l) ⊎ (n ≡ p)
WorksAt (op.Live l p cursor dirty) n = (n ≡ l) ⊎ (n ≡ p)

-- ---- what the parent holds already

held_alike : (c d : Content) (v p : Name) (cursor : ℕ) (dirty : List ℕ) → d.block ≡ c.block → image_of d v ≡ image_of c v → image_of d p ≡ image_of c p → IsHeldBelow c v p cursor dirty
    → IsHeldBelow d v p cursor dirty
held_alike c d v p cursor dirty block child parent h = record {
  child = h.child;
  parent = h.parent;
  image = child ∙ h.image;
  under = parent ∙ h.under;
  size = h.size;
  held = λ k bytes below clean. h.held k bytes (subst (λ b. k < cursor * b) block below) (subst (λ b. is_dirty (k / b) dirty ≡ false) block clean);
}

-- it holds as much where both images are the same
pub below_alike : (c d : Content) (o : Op) → d.block ≡ c.block → d.entries ≡ c.entries → ((n : Name) → WorksAt o n → image_of d n ≡ image_of c n) → IsBelow c o → IsBelow d o
below_alike c d op.Idle block entries same h = tt
below_alike c d (op.Copy v p cursor) block entries same h = held_alike c d v p cursor [] block (same v (inl refl)) (same p (inr refl)) h
below_alike c d (op.Relink v p) block entries same h = subst (λ k. IsHeldBelow d v p k []) (sym entries) (held_alike c d v p c.entries [] block (same v (inl refl)) (same p (inr refl)) h)
below_alike c d (op.Leaf l p cursor) block entries same h = held_alike c d l p cursor [] block (same l (inl refl)) (same p (inr refl)) h
below_alike c d (op.Live l p cursor dirty) block entries same h = held_alike c d l p cursor dirty block (same l (inl refl)) (same p (inr refl)) h

-- ---- they are there

child_there : (σ : Shape) (w : IsWellFormed σ) (shown : Bool) (v p n : Name) → IsChild σ shown v p → (n ≡ v) ⊎ (n ≡ p) → IsThere σ.images n
child_there σ w shown v p n h (inl is) = (h.child, h.there, h.is_named ∙ sym is)
child_there σ w shown v p n h (inr is) = let q = w.parents h.child p h.there h.linked in (q.parent, q.there, q.is_named ∙ sym is)

there_in : (σ : Shape) (w : IsWellFormed σ) (o : Op) (n : Name) → IsOperation σ o → WorksAt o n → IsThere σ.images n
there_in σ w op.Idle n h works = absurd works
there_in σ w (op.Copy v p cursor) n h works = child_there σ w _ v p n h.link works
there_in σ w (op.Relink v p) n h works = child_there σ w _ v p n h works
there_in σ w (op.Leaf l p cursor) n h works = child_there σ w _ l p n h.0.link works
there_in σ w (op.Live l p cursor dirty) n h works = child_there σ w _ l p n h.only.link works

pub works_there : (σ : Shape) → IsWellFormed σ → (n : Name) → WorksAt σ.op n → IsThere σ.images n
works_there σ w n works = there_in σ w σ.op n w.operation works

-- ---- and have as much room, where another image comes beside them

module _ (σ : Shape) (k : ℕ) (rs : List DiskRecord) (i : ImageRow) where
  abbrev pub with_more : Shape
  with_more = record σ { sequence = k; records = rs; images = with_image i σ.images }

  was_in : (x : ImageRow) → In x (with_image i σ.images) → x.name ≢ i.name → In x σ.images
  unfolding with_image
  was_in x h other = ⊎_elim (λ is. absurd (other (ap (λ (y : ImageRow). y.name) is))) (λ there. there) (In-insert _ i σ.images x h)

  roomy_for : (v p : Name) → v ≢ i.name → p ≢ i.name → IsRoomyFor σ v p → IsRoomyFor with_more v p
  roomy_for v p not_child not_parent h = λ x q there below is under vhd. h x q (was_in x there (λ same. not_child (sym is ∙ same))) (was_in q below (λ same. not_parent (sym under ∙ same))) is under vhd

  pub roomy_more : (o : Op) → ((n : Name) → WorksAt o n → n ≢ i.name) → IsRoomyIn σ o → IsRoomyIn with_more o
  roomy_more op.Idle other h = tt
  roomy_more (op.Copy v p cursor) other h = roomy_for v p (other v (inl refl)) (other p (inr refl)) h
  roomy_more (op.Relink v p) other h = tt
  roomy_more (op.Leaf l p cursor) other h = roomy_for l p (other l (inl refl)) (other p (inr refl)) h
  roomy_more (op.Live l p cursor dirty) other h = roomy_for l p (other l (inl refl)) (other p (inr refl)) h
