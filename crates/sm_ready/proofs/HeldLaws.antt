-- What the parent of a copy holds of its child, behind a guest's write into the child and behind the copy of one block.
use Rattle.std.proofs.Common.{◌≡◌, ◌⊎◌, inl, inr, ⊎_elim, ℕ, ◌+◌, ◌-◌, ◌*◌, ◌/◌, ◌<◌, ◌≤◌, false, List, Some, None, refl, sym, ap, ◌∙◌, subst, arith}
use Rattle.std.proofs.lemmas.Bool.{cases_lt}
use Rattle.std.proofs.Math.Nat.{div-mul-le_self, le-div_iff_mul-le}
use Rattle.std.proofs.lemmas.Nat.{div_below, le-div}
use Rattle.std.proofs.lemmas.Option.{none-some, same_Some}
use Rattle.common_laws.specs.Lists.{In, numbers}
use Rattle.common_laws.proofs.Lists.{numbers-In}
use Rattle.sm_base.specs.declared.names.Name.{Name}
use Rattle.sm_standing.specs.Contents.{Content}
use Rattle.sm_standing.specs.Images.{Image, image_of}
use Rattle.sm_machine.specs.Operations.{dirtied, is_dirty, without_dirty}
use Rattle.sm_ready.specs.Ready.{IsHeldBelow}
use Rattle.sm_ready.proofs.DirtyLaws.{dirtied_none, without_none}

-- ---- a guest's write into the leaf

div-le : (a b k : ℕ) → 0 < k → a ≤ b → a / k ≤ b / k
div-le a b k pos le = (le-div_iff_mul-le {k = k} {x = a / k} {y = b} pos).1 (let e = div-mul-le_self a k in omega (arith, e, le))

-- the blocks that so many sectors from one on touch
abbrev pub touched_by : ℕ → ℕ → ℕ → List ℕ
touched_by block at n = numbers (at / block) ((at + n - 1) / block + 1 - at / block)

-- a sector of a block that was not touched was not written
untouched : (block at n k : ℕ) → 0 < block → 0 < n → (In (k / block) (touched_by block at n) → ⊥) → (k < at) ⊎ (at + n ≤ k)
untouched block at n k some count away = ⊎_elim (λ low. inl low) (λ no_less. ⊎_elim
    (λ inside. absurd (away (numbers-In (at / block) ((at + n - 1) / block + 1 - at / block) (k / block) (div-le at k block some no_less)
    (let up = div-le k (at + n - 1) block some (omega (arith, inside, count)) in let low = div-le at k block some no_less in omega (arith, up, low)))))
    (λ past. inr past) (cases_lt k (at + n))) (cases_lt k at)

-- sectors of the child were written, so many from one on, and its parent was not
pub record IsChildWritten (c d : Content) (l p : Name) (at n : ℕ) : Type 0 where
  pub block : d.block ≡ c.block
  pub was : Image
  pub now : Image
  pub before : image_of c l ≡ Some was
  pub after : image_of d l ≡ Some now
  pub size : now.size ≡ was.size
  pub outside : (k : ℕ) → (k < at) ⊎ (at + n ≤ k) → now.own k ≡ was.own k
  pub parent : image_of d p ≡ image_of c p

pub held_written : (c d : Content) (l p : Name) (cursor : ℕ) (dirty : List ℕ) (at n : ℕ) → IsChildWritten c d l p at n → 0 < c.block → 0 < n → IsHeldBelow c l p cursor dirty
    → IsHeldBelow d l p cursor (dirtied cursor (touched_by c.block at n) dirty)
held_written c d l p cursor dirty at n w some count h = record {
  child = w.now;
  parent = h.parent;
  image = w.after;
  under = w.parent ∙ h.under;
  size = h.size ∙ ap (λ (i : Image). i.size) child_is ∙ sym w.size;
  held = λ k value below clean has.
      let at_k : k < cursor * c.block = subst (λ b. k < cursor * b) w.block below in
      let f = dirtied_none cursor (k / c.block) (touched_by c.block at n) dirty (subst (λ b. is_dirty (k / b) (dirtied cursor (touched_by c.block at n) dirty) ≡ false) w.block clean) in
      let away = untouched c.block at n k some count (λ i. f.1 i (div_below k c.block cursor some at_k)) in
      h.held k value at_k f.0 (ap (λ (i : Image). i.own k) child_is ∙ sym (w.outside k away) ∙ has);
}
  where
    child_is : h.child ≡ w.was
    child_is = same_Some h.child w.was (sym h.image ∙ w.before)

-- ---- the copy of a block

-- each block that is settled then was copied, was settled before, or is one of which the child holds nothing
pub record IsCopiedOver (c d : Content) (v p : Name) (cursor cursor' : ℕ) (dirty dirty' : List ℕ) (b : ℕ) : Type 0 where
  pub block : d.block ≡ c.block
  pub child_same : image_of d v ≡ image_of c v
  pub was : IsHeldBelow c v p cursor dirty
  pub now : Image
  pub there : image_of d p ≡ Some now
  pub size : now.size ≡ was.parent.size
  pub copied : (k : ℕ) (bytes : List ℕ) → k / c.block ≡ b → was.child.own k ≡ Some bytes → now.own k ≡ Some bytes
  pub kept : (k : ℕ) (bytes : List ℕ) → was.child.own k ≡ Some bytes → was.parent.own k ≡ Some bytes → now.own k ≡ Some bytes
  pub rest : (x : ℕ) → x < cursor' → is_dirty x dirty' ≡ false → (x ≡ b) ⊎ (((x < cursor) × (is_dirty x dirty ≡ false)) ⊎ ((k : ℕ) → k / c.block ≡ x → was.child.own k ≡ None))

pub held_copied : (c d : Content) (v p : Name) (cursor cursor' : ℕ) (dirty dirty' : List ℕ) (b : ℕ) → 0 < c.block → IsCopiedOver c d v p cursor cursor' dirty dirty' b → IsHeldBelow d v p cursor' dirty'
held_copied c d v p cursor cursor' dirty dirty' b some h = record {
  child = h.was.child;
  parent = h.now;
  image = h.child_same ∙ h.was.image;
  under = h.there;
  size = h.size ∙ h.was.size;
  held = λ k bytes below clean has.
      let at_k : k < cursor' * c.block = subst (λ z. k < cursor' * z) h.block below in
      ⊎_elim (λ is. h.copied k bytes is has)
      (λ other. ⊎_elim
      (λ old. h.kept k bytes has (h.was.held k bytes (inside k cursor old.0) old.1 has))
      (λ none. absurd (none-some bytes (sym (none k refl) ∙ has))) other)
      (h.rest (k / c.block) (div_below k c.block cursor' some at_k) (subst (λ z. is_dirty (k / z) dirty' ≡ false) h.block clean));
}
  where
    inside : (k cursor : ℕ) → k / c.block < cursor → k < cursor * c.block
    inside k cursor less = ⊎_elim (λ below. below) (λ past. absurd (let z = le-div cursor k c.block some past in omega (arith, z, less))) (cases_lt k (cursor * c.block))

-- the cursor goes on: the child holds nothing between it and the block
pub rest_advanced : (cursor b : ℕ) (dirty : List ℕ) (None_at : ℕ → Type 0) → ((x : ℕ) → cursor ≤ x → x < b → None_at x)
    → (x : ℕ) → x < b + 1 → is_dirty x dirty ≡ false → (x ≡ b) ⊎ (((x < cursor) × (is_dirty x dirty ≡ false)) ⊎ None_at x)
rest_advanced cursor b dirty None_at between x below clean = ⊎_elim
    (λ old. inr (inl (old, clean)))
    (λ late. ⊎_elim (λ less. inr (inr (between x late less))) (λ no_less. inl (omega (arith, no_less, below))) (cases_lt x b)) (cases_lt x cursor)

-- a dirty block was copied again
pub rest_cleaned : (cursor b : ℕ) (dirty : List ℕ) (None_at : ℕ → Type 0) → (x : ℕ) → x < cursor → is_dirty x (without_dirty b dirty) ≡ false
    → (x ≡ b) ⊎ (((x < cursor) × (is_dirty x dirty ≡ false)) ⊎ None_at x)
rest_cleaned cursor b dirty None_at x below clean = ⊎_elim (λ is. inl is) (λ old. inr (inl (below, old))) (without_none x b dirty clean)
