-- The order of the rows after one is put in and after one is taken out.
use Rattle.std.proofs.Common.{◌≡◌, ℕ, zero, suc, Bool, true, false, not, cond, List, [], ◌∷◌, map, Option, Some, None, refl, sym, ap, subst, ◌∙◌, take}
use Rattle.std.specs.Prelude.{slice_get, remove, filter, IfSome}
use Rattle.std.specs.Ordering.{is_lt, ordering_reverse}
use Rattle.std.specs.declared.cmp.Ordering.TheVariants.{Less}
use Rattle.std.specs.List.{AllByRecursion, find}
use Rattle.std.specs.List.Sorted.{IsStrictlySortedBy}
use Rattle.std.proofs.lemmas.Bool.{cond_both}
use Rattle.common_laws.specs.Lists.{insert_by}
use Rattle.sm_base.specs.declared.names.Name.{Name}
use Rattle.sm_base.specs.Names.{name_cmp, IsName}
use Rattle.sm_base.proofs.OrderLemmas.{name_cmp_total, name_cmp-itself}
use Rattle.vg_meta.proofs.NameLaws.{name_eq-same, name_eq-other, name_eq-false, before_from, less_from, less_other}
use Rattle.vg_meta.proofs.RowLaws.{front_of}
use Rattle.vhd_chain.specs.Trees.{AreOrdered, row_name, has_name, tree_row, is_before, with_row, without, is_child_of, children, first_name, IsLeastName}
use Rattle.vhd_chain.specs.Places.{IsPlace}
use Rattle.vhd_chain.specs.declared.rows.TreeRow.{TreeRow}
use Rattle.vhd_chain.proofs.PlaceLaws.{AreOthers}

abbrev pub IsRising : List TreeRow → Type 0
IsRising rs = IsStrictlySortedBy name_cmp (map row_name rs)

-- the row's name is less than all of these
abbrev pub IsLeast : Name → List TreeRow → Type 0
IsLeast n rs = AllByRecursion (λ m. name_cmp n m ≡ Less) (map row_name rs)

none_parts : (b : Bool) (s : TreeRow) (x : Option TreeRow) → cond b (Some s) x ≡ None → (b ≡ false) × (x ≡ None)
none_parts true s x h = absurd cc
none_parts false s x h = (refl, h)

pub none_head : (s : TreeRow) (rs : List TreeRow) (n : Name) → tree_row (s ∷ rs) n ≡ None → (has_name n s ≡ false) × (tree_row rs n ≡ None)
unfolding tree_row
none_head s rs n h = none_parts (has_name n s) s (find (has_name n) rs) h

pub ordered_first : AreOrdered []
unfolding IsStrictlySortedBy
ordered_first = record { names = tt; rising = tt }

-- ---- one row more

names_with : (rs : List TreeRow) (r : TreeRow) → IsName (row_name r) → AllByRecursion (λ s. IsName (row_name s)) rs
    → AllByRecursion (λ s. IsName (row_name s)) (with_row r rs)
unfolding insert_by
names_with [] r one all = (one, tt)
names_with (s ∷ rs) r one all =
    cond_both (is_before r s) (r ∷ s ∷ rs) (s ∷ with_row r rs) (λ (l : List TreeRow). AllByRecursion (λ x. IsName (row_name x)) l)
    (λ e. (one, all)) (λ e. (all.0, names_with rs r one all.1))

least_with : (rs : List TreeRow) (r : TreeRow) (n : Name) → name_cmp n (row_name r) ≡ Less → IsLeast n rs → IsLeast n (with_row r rs)
unfolding insert_by
least_with [] r n one all = (one, tt)
least_with (s ∷ rs) r n one all =
    cond_both (is_before r s) (r ∷ s ∷ rs) (s ∷ with_row r rs) (λ (l : List TreeRow). IsLeast n l)
    (λ e. (one, all)) (λ e. (all.0, least_with rs r n one all.1))

rising_with : (rs : List TreeRow) (r : TreeRow) → IsName (row_name r) → AllByRecursion (λ s. IsName (row_name s)) rs
    → tree_row rs (row_name r) ≡ None → IsRising rs → IsRising (with_row r rs)
unfolding insert_by IsStrictlySortedBy
rising_with [] r is each none rising = (tt, tt)
rising_with (s ∷ rs) r is each none rising =
    let p = none_head s rs (row_name r) none in
    cond_both (is_before r s) (r ∷ s ∷ rs) (s ∷ with_row r rs) (λ (l : List TreeRow). (is_before r s ≡ false → name_cmp (row_name s) (row_name r) ≡ Less) → IsRising l)
    (λ e _. let first = less_from (row_name r) (row_name s) e in ((first, front_of (row_name r) (row_name s) (map row_name rs) first rising.0), rising))
    (λ e behind. (least_with rs r (row_name s) (behind e) rising.0, rising_with rs r is each.1 p.1 rising.1))
    (λ e. before_from (row_name r) (row_name s) is each.0 (λ k. name_eq-false (row_name s) (row_name r) p.0 (sym k)) e)

pub ordered_with : (rs : List TreeRow) (r : TreeRow) → IsName (row_name r) → tree_row rs (row_name r) ≡ None → AreOrdered rs → AreOrdered (with_row r rs)
ordered_with rs r is none o = record { names = names_with rs r is o.names; rising = rising_with rs r is o.names none o.rising }

-- ---- one row less

names_filter : (t : TreeRow → Bool) (rs : List TreeRow) → AllByRecursion (λ s. IsName (row_name s)) rs → AllByRecursion (λ s. IsName (row_name s)) (filter t rs)
names_filter t [] all = tt
names_filter t (s ∷ rs) all =
    cond_both (t s) (s ∷ filter t rs) (filter t rs) (λ (l : List TreeRow). AllByRecursion (λ x. IsName (row_name x)) l)
    (λ e. (all.0, names_filter t rs all.1)) (λ e. names_filter t rs all.1)

least_filter : (t : TreeRow → Bool) (rs : List TreeRow) (m : Name) → IsLeast m rs → IsLeast m (filter t rs)
least_filter t [] m all = tt
least_filter t (s ∷ rs) m all =
    cond_both (t s) (s ∷ filter t rs) (filter t rs) (λ (l : List TreeRow). IsLeast m l)
    (λ e. (all.0, least_filter t rs m all.1)) (λ e. least_filter t rs m all.1)

rising_filter : (t : TreeRow → Bool) (rs : List TreeRow) → IsRising rs → IsRising (filter t rs)
unfolding IsStrictlySortedBy
rising_filter t [] rising = tt
rising_filter t (s ∷ rs) rising =
    cond_both (t s) (s ∷ filter t rs) (filter t rs) (λ (l : List TreeRow). IsRising l)
    (λ e. (least_filter t rs (row_name s) rising.0, rising_filter t rs rising.1)) (λ e. rising_filter t rs rising.1)

ordered_filter : (t : TreeRow → Bool) (rs : List TreeRow) → AreOrdered rs → AreOrdered (filter t rs)
ordered_filter t rs o = record { names = names_filter t rs o.names; rising = rising_filter t rs o.rising }

pub ordered_without : (rs : List TreeRow) (n : Name) → AreOrdered rs → AreOrdered (without n rs)
ordered_without rs n o = ordered_filter (λ r. not (has_name n r)) rs o

-- a row behind one of a name has another name
pub others_behind : (rs : List TreeRow) (n : Name) → IsLeast n rs → AreOthers n rs
others_behind [] n all = tt
others_behind (s ∷ rs) n all = (name_eq-other (row_name s) n (λ e. less_other n (row_name s) all.0 (sym e)), others_behind rs n all.1)

-- where no row has the name, none is taken out
pub without_none : (rs : List TreeRow) (n : Name) → AreOthers n rs → without n rs ≡ rs
without_none [] n others = refl
without_none (s ∷ rs) n others = rw others.0 (ap (λ (l : List TreeRow). s ∷ l) (without_none rs n others.1))

pub others_of : (rs : List TreeRow) (n : Name) → tree_row rs n ≡ None → AreOthers n rs
others_of [] n none = tt
others_of (s ∷ rs) n none = let p = none_head s rs n none in (p.0, others_of rs n p.1)

removed : (rs : List TreeRow) (n : Name) (i : ℕ) (r : TreeRow) → slice_get rs i ≡ Some r → row_name r ≡ n → AreOthers n (take i rs) → IsRising rs
    → remove rs i ≡ without n rs
unfolding IsStrictlySortedBy
removed [] n i r at named others rising = absurd cc
removed (x ∷ rs) n zero r at named others rising =
    let same : x ≡ r = cc in
    let is : row_name x ≡ n = ap row_name same ∙ named in
    rw (name_eq-same (row_name x) n is) (sym (without_none rs n (subst (λ (m : Name). AreOthers m rs) is (others_behind rs (row_name x) rising.0))))
removed (x ∷ rs) n (suc i) r at named others rising =
    rw others.0 (ap (λ (l : List TreeRow). x ∷ l) (removed rs n i r at named others.1 rising.1))

-- a row taken out at its place
pub without_at : (rs : List TreeRow) (n : Name) (i : ℕ) → IsPlace rs n i → AreOrdered rs → remove rs i ≡ without n rs
without_at rs n i p o = removed rs n i p.held p.at p.named p.before o.rising

-- ---- the first row is the least

none_less : (n : Name) (rs : List TreeRow) → IsLeast n rs → IsLeastName rs n
none_less n [] all = tt
none_less n (s ∷ rs) all = (ap is_lt (name_cmp_total.antisymm (row_name s) n ∙ ap ordering_reverse all.0), none_less n rs all.1)

first_least : (rs : List TreeRow) → IsRising rs → IfSome (first_name rs) (IsLeastName rs)
unfolding IsStrictlySortedBy
first_least [] rising = tt
first_least (s ∷ rs) rising = (ap is_lt (name_cmp-itself (row_name s)), none_less (row_name s) rs rising.0)

pub least_of_children : (rs : List TreeRow) (p : Name) → AreOrdered rs → IfSome (first_name (children rs p)) (IsLeastName (children rs p))
least_of_children rs p o = first_least (children rs p) (rising_filter (is_child_of p) rs o.rising)
