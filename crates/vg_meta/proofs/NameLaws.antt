-- Names are told apart by `name_eq`, and are totally ordered.
use Rattle.std.proofs.Common.{◌≡◌, ◌≢◌, Bool, true, false, ◌&&◌, ◌==◌, refl, sym, ap, ap₂, subst, ◌∙◌}
use Rattle.std.specs.Prelude.{bytes_eq}
use Rattle.std.proofs.Common.{Ordering}
use Rattle.std.specs.Ordering.{is_lt, ordering_reverse}
use Rattle.std.specs.declared.cmp.Ordering.TheVariants.{Less, Equal, Greater}
use Rattle.std.proofs.lemmas.Bool.{true≢false, eqb-true, eq-eqb, and_parts, and_from}
use Rattle.common_laws.proofs.Bytes.{bytes_eq-same, bytes_eq-refl}
use Rattle.sm_base.specs.declared.names.Name.{Name}
use Rattle.sm_base.specs.declared.names.Name.TheVariants.{Mgt, Vhd, Raw, Old, Cbt, Clone, Inflate, Coalesce, Relink, Leaf}
use Rattle.sm_base.specs.Names.{IsName, name_cmp}
use Rattle.sm_base.proofs.OrderLemmas.{name_cmp_total, name_cmp-itself, name_cmp-same}
use Rattle.vg_meta.specs.Tables.{name_eq}

-- the test is true of one name alone
pub name_eq-true : (a b : Name) → name_eq a b ≡ true → a ≡ b
unfolding name_eq
name_eq-true Mgt Mgt h = refl
name_eq-true (Vhd u) (Vhd v) h = ap Vhd (bytes_eq-same u v h)
name_eq-true (Raw u) (Raw v) h = ap Raw (bytes_eq-same u v h)
name_eq-true (Old u) (Old v) h = ap Old (bytes_eq-same u v h)
name_eq-true (Cbt u) (Cbt v) h = ap Cbt (bytes_eq-same u v h)
name_eq-true (Clone d b t) (Clone e c u) h =
    let p = and_parts (bytes_eq d e && bytes_eq b c) (bytes_eq t u) h in
    let q = and_parts (bytes_eq d e) (bytes_eq b c) p.0 in
    let d_is : d ≡ e = bytes_eq-same d e q.0 in
    let b_is : b ≡ c = bytes_eq-same b c q.1 in
    let t_is : t ≡ u = bytes_eq-same t u p.1 in
    cc
name_eq-true (Inflate i m) (Inflate j n) h =
    let p = and_parts (bytes_eq i j) (m == n) h in
    ap₂ Inflate (bytes_eq-same i j p.0) (eqb-true m n p.1)
name_eq-true (Coalesce c p) (Coalesce d q) h =
    let r = and_parts (bytes_eq c d) (bytes_eq p q) h in
    ap₂ Coalesce (bytes_eq-same c d r.0) (bytes_eq-same p q r.1)
name_eq-true (Relink c p) (Relink d q) h =
    let r = and_parts (bytes_eq c d) (bytes_eq p q) h in
    ap₂ Relink (bytes_eq-same c d r.0) (bytes_eq-same p q r.1)
name_eq-true (Leaf c p) (Leaf d q) h =
    let r = and_parts (bytes_eq c d) (bytes_eq p q) h in
    ap₂ Leaf (bytes_eq-same c d r.0) (bytes_eq-same p q r.1)
name_eq-true _ _ h = absurd cc

pub name_eq-refl : (a : Name) → name_eq a a ≡ true
unfolding name_eq
name_eq-refl Mgt = refl
name_eq-refl (Vhd u) = bytes_eq-refl u
name_eq-refl (Raw u) = bytes_eq-refl u
name_eq-refl (Old u) = bytes_eq-refl u
name_eq-refl (Cbt u) = bytes_eq-refl u
name_eq-refl (Clone d b t) = and_from _ _ (and_from _ _ (bytes_eq-refl d) (bytes_eq-refl b)) (bytes_eq-refl t)
name_eq-refl (Inflate i m) = and_from _ _ (bytes_eq-refl i) (eq-eqb m m refl)
name_eq-refl (Coalesce c p) = and_from _ _ (bytes_eq-refl c) (bytes_eq-refl p)
name_eq-refl (Relink c p) = and_from _ _ (bytes_eq-refl c) (bytes_eq-refl p)
name_eq-refl (Leaf l p) = and_from _ _ (bytes_eq-refl l) (bytes_eq-refl p)

-- what is true of the test's two answers
pub name_eq-same : (a b : Name) → a ≡ b → name_eq a b ≡ true
name_eq-same a b e = subst (λ (x : Name). name_eq a x ≡ true) e (name_eq-refl a)

pub name_eq-other : (a b : Name) → a ≢ b → name_eq a b ≡ false
name_eq-other a b other = go (name_eq a b) refl
  where
    go : (t : Bool) → name_eq a b ≡ t → name_eq a b ≡ false
    go true h = absurd (other (name_eq-true a b h))
    go false h = h

pub name_eq-false : (a b : Name) → name_eq a b ≡ false → a ≢ b
name_eq-false a b h e = let t : name_eq a b ≡ true = name_eq-same a b e in cc

-- a name that is not behind another, nor that one itself, is in front of it
pub before_from : (a b : Name) → IsName a → IsName b → a ≢ b → is_lt (name_cmp a b) ≡ false → name_cmp b a ≡ Less
before_from a b p q other h = go (name_cmp a b) refl
  where
    go : (o : Ordering) → name_cmp a b ≡ o → name_cmp b a ≡ Less
    go Less e = absurd (true≢false (sym (ap is_lt e) ∙ h))
    go Equal e = absurd (other (name_cmp-same a b p q e))
    go Greater e = name_cmp_total.antisymm b a ∙ ap ordering_reverse e

pub less_from : (a b : Name) → is_lt (name_cmp a b) ≡ true → name_cmp a b ≡ Less
less_from a b h = go (name_cmp a b) refl
  where
    go : (o : Ordering) → name_cmp a b ≡ o → name_cmp a b ≡ Less
    go Less e = e
    go Equal e = absurd (true≢false (sym h ∙ ap is_lt e))
    go Greater e = absurd (true≢false (sym h ∙ ap is_lt e))

-- no name is in front of itself
pub less_other : (a b : Name) → name_cmp a b ≡ Less → a ≢ b
less_other a b h e =
    let tied : name_cmp a a ≡ Equal = name_cmp-itself a in
    let same_name : name_cmp a a ≡ name_cmp a b = ap (λ (x : Name). name_cmp a x) e in
    cc
