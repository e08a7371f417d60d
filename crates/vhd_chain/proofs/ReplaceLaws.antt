-- The rows once one stands in the place of another of its name.
use Rattle.std.proofs.Common.{◌≡◌, ℕ, zero, suc, List, [], ◌∷◌, map, Some, refl, sym, ap, subst, ◌∙◌, take}
use Rattle.std.specs.Prelude.{slice_get, slice_set}
use Rattle.std.specs.List.{AllByRecursion}
use Rattle.std.specs.List.Sorted.{IsStrictlySortedBy}
use Rattle.common_laws.specs.Lists.{change}
use Rattle.sm_base.specs.declared.names.Name.{Name}
use Rattle.sm_base.specs.Names.{IsName, name_cmp}
use Rattle.vg_meta.proofs.NameLaws.{name_eq-same}
use Rattle.vhd_chain.specs.Places.{IsPlace}
use Rattle.vhd_chain.specs.Trees.{AreOrdered, row_name, has_name, with_replaced}
use Rattle.vhd_chain.specs.declared.rows.TreeRow.{TreeRow}
use Rattle.vhd_chain.proofs.OrderLaws.{IsRising, others_behind}
use Rattle.vhd_chain.proofs.PlaceLaws.{AreOthers}

-- ---- the order is that of the names

set_names : (rs : List TreeRow) (i : ℕ) (s r : TreeRow) → slice_get rs i ≡ Some s → row_name r ≡ row_name s → map row_name (slice_set rs i r) ≡ map row_name rs
set_names [] i s r at same = absurd cc
set_names (x ∷ rs) zero s r at same =
    let is : x ≡ s = cc in
    ap (λ (n : Name). n ∷ map row_name rs) (same ∙ ap row_name (sym is))
set_names (x ∷ rs) (suc i) s r at same = ap (λ (l : List Name). row_name x ∷ l) (set_names rs i s r at same)

names_set : (rs : List TreeRow) (i : ℕ) (s r : TreeRow) → slice_get rs i ≡ Some s → row_name r ≡ row_name s → AllByRecursion (λ t. IsName (row_name t)) rs
    → AllByRecursion (λ t. IsName (row_name t)) (slice_set rs i r)
names_set [] i s r at same all = absurd cc
names_set (x ∷ rs) zero s r at same all =
    let is : x ≡ s = cc in
    (subst IsName (ap row_name is ∙ sym same) all.0, all.1)
names_set (x ∷ rs) (suc i) s r at same all = (all.0, names_set rs i s r at same all.1)

pub ordered_set : (rs : List TreeRow) (n : Name) (i : ℕ) (r : TreeRow) → IsPlace rs n i → row_name r ≡ n → AreOrdered rs → AreOrdered (slice_set rs i r)
ordered_set rs n i r p is o =
    let same : row_name r ≡ row_name p.held = is ∙ sym p.named in
    record {
      names = names_set rs i p.held r p.at same o.names;
      rising = subst (IsStrictlySortedBy name_cmp) (sym (set_names rs i p.held r p.at same)) o.rising;
    }

-- ---- it is the only one that changed

change_none : (rs : List TreeRow) (n : Name) (r : TreeRow) → AreOthers n rs → change (has_name n) (λ s. r) rs ≡ rs
change_none [] n r others = refl
change_none (x ∷ rs) n r others = rw others.0 (ap (λ (l : List TreeRow). x ∷ l) (change_none rs n r others.1))

changed : (rs : List TreeRow) (n : Name) (i : ℕ) (s r : TreeRow) → slice_get rs i ≡ Some s → row_name s ≡ n → AreOthers n (take i rs) → IsRising rs
    → slice_set rs i r ≡ change (has_name n) (λ t. r) rs
unfolding IsStrictlySortedBy
changed [] n i s r at named others rising = absurd cc
changed (x ∷ rs) n zero s r at named others rising =
    let same : x ≡ s = cc in
    let is : row_name x ≡ n = ap row_name same ∙ named in
    rw (name_eq-same (row_name x) n is) (ap (λ (l : List TreeRow). r ∷ l) (sym (change_none rs n r (subst (λ (m : Name). AreOthers m rs) is (others_behind rs (row_name x) rising.0)))))
changed (x ∷ rs) n (suc i) s r at named others rising =
    rw others.0 (ap (λ (l : List TreeRow). x ∷ l) (changed rs n i s r at named others.1 rising.1))

pub replaced_at : (rs : List TreeRow) (i : ℕ) (r : TreeRow) → IsPlace rs (row_name r) i → AreOrdered rs → slice_set rs i r ≡ with_replaced r rs
replaced_at rs i r p o = changed rs (row_name r) i p.held r p.at p.named p.before o.rising
