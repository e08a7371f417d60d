-- The rows by name: after one is put in, after one is taken out, and that each is found. Upper crates cite these.
use Rattle.std.proofs.Common.{◌≡◌, ◌≢◌, Bool, true, false, not, cond, List, [], ◌∷◌, Option, Some, None, refl, sym, ap, subst, ◌∙◌, inl, inr}
use Rattle.std.specs.List.{find}
use Rattle.std.proofs.lemmas.Bool.{cond_both}
use Rattle.std.specs.declared.cmp.Ordering.TheVariants.{Less}
use Rattle.std.specs.List.Sorted.{IsStrictlySortedBy}
use Rattle.common_laws.specs.Lists.{In, insert_by, when}
use Rattle.common_laws.proofs.Lists.{find-some}
use Rattle.sm_base.specs.declared.names.Name.{Name}
use Rattle.sm_base.specs.Names.{name_cmp}
use Rattle.vg_meta.proofs.NameLaws.{less_other, name_eq-true, name_eq-same, name_eq-other, name_eq-false}
use Rattle.vhd_chain.specs.Trees.{AreOrdered, row_name, has_name, tree_row, is_before, with_row, without, with_replaced}
use Rattle.vhd_chain.specs.declared.rows.TreeRow.{TreeRow}
use Rattle.vhd_chain.proofs.OrderLaws.{IsLeast, IsRising, none_head}

-- a look-up at a head of this name, and of another
at_head : (s : TreeRow) (rs : List TreeRow) (n : Name) → row_name s ≡ n → tree_row (s ∷ rs) n ≡ Some s
unfolding tree_row
at_head s rs n e = rw (name_eq-same (row_name s) n e) refl

past_head : (s : TreeRow) (rs : List TreeRow) (n : Name) → row_name s ≢ n → tree_row (s ∷ rs) n ≡ tree_row rs n
unfolding tree_row
past_head s rs n e = rw (name_eq-other (row_name s) n e) refl

-- a look-up goes on behind a head as behind another list
same_head : (s : TreeRow) (xs ys : List TreeRow) (n : Name) → tree_row xs n ≡ tree_row ys n → tree_row (s ∷ xs) n ≡ tree_row (s ∷ ys) n
unfolding tree_row
same_head s xs ys n e = ap (λ (o : Option TreeRow). cond (has_name n s) (Some s) o) e

-- the name of what is found
pub tree_row-name : (rs : List TreeRow) (n : Name) (r : TreeRow) → tree_row rs n ≡ Some r → row_name r ≡ n
unfolding tree_row
tree_row-name [] n r h = absurd cc
tree_row-name (s ∷ rs) n r h =
    cond_both (has_name n s) (Some s) (find (has_name n) rs) (λ (o : Option TreeRow). o ≡ Some r → row_name r ≡ n)
    (λ e k. let same : s ≡ r = cc in ap row_name (sym same) ∙ name_eq-true (row_name s) n e)
    (λ e k. tree_row-name rs n r k) h

pub tree_row-with_same : (rs : List TreeRow) (r : TreeRow) → tree_row rs (row_name r) ≡ None → tree_row (with_row r rs) (row_name r) ≡ Some r
unfolding insert_by
tree_row-with_same [] r none = at_head r [] (row_name r) refl
tree_row-with_same (s ∷ rs) r none =
    cond_both (is_before r s) (r ∷ s ∷ rs) (s ∷ with_row r rs) (λ (l : List TreeRow). tree_row l (row_name r) ≡ Some r)
    (λ e. at_head r (s ∷ rs) (row_name r) refl)
    (λ e. let p = none_head s rs (row_name r) none in past_head s (with_row r rs) (row_name r) (name_eq-false (row_name s) (row_name r) p.0) ∙ tree_row-with_same rs r p.1)

pub tree_row-with_other : (rs : List TreeRow) (r : TreeRow) (n : Name) → row_name r ≢ n → tree_row (with_row r rs) n ≡ tree_row rs n
unfolding insert_by
tree_row-with_other [] r n other = past_head r [] n other
tree_row-with_other (s ∷ rs) r n other =
    cond_both (is_before r s) (r ∷ s ∷ rs) (s ∷ with_row r rs) (λ (l : List TreeRow). tree_row l n ≡ tree_row (s ∷ rs) n)
    (λ e. past_head r (s ∷ rs) n other)
    (λ e. same_head s (with_row r rs) rs n (tree_row-with_other rs r n other))

pub tree_row-without_same : (rs : List TreeRow) (n : Name) → tree_row (without n rs) n ≡ None
unfolding tree_row
tree_row-without_same [] n = refl
tree_row-without_same (s ∷ rs) n = go (has_name n s) refl (tree_row-without_same rs n)
  where
    go : (b : Bool) → has_name n s ≡ b → tree_row (without n rs) n ≡ None → tree_row (cond (not b) (s ∷ without n rs) (without n rs)) n ≡ None
    go true e rest = rest
    go false e rest = past_head s (without n rs) n (name_eq-false (row_name s) n e) ∙ rest

pub tree_row-without_other : (rs : List TreeRow) (m n : Name) → m ≢ n → tree_row (without m rs) n ≡ tree_row rs n
tree_row-without_other [] m n other = refl
tree_row-without_other (s ∷ rs) m n other = go (has_name m s) refl (tree_row-without_other rs m n other)
  where
    go : (b : Bool) → has_name m s ≡ b → tree_row (without m rs) n ≡ tree_row rs n
        → tree_row (cond (not b) (s ∷ without m rs) (without m rs)) n ≡ tree_row (s ∷ rs) n
    go true e rest = rest ∙ sym (past_head s rs n (λ k. other (sym (name_eq-true (row_name s) m e) ∙ k)))
    go false e rest = same_head s (without m rs) rs n rest

pub tree_row-replaced_other : (rs : List TreeRow) (r : TreeRow) (n : Name) → row_name r ≢ n → tree_row (with_replaced r rs) n ≡ tree_row rs n
tree_row-replaced_other [] r n other = refl
tree_row-replaced_other (s ∷ rs) r n other = go (has_name (row_name r) s) refl (tree_row-replaced_other rs r n other)
  where
    go : (b : Bool) → has_name (row_name r) s ≡ b → tree_row (with_replaced r rs) n ≡ tree_row rs n → tree_row (when b (λ t. r) s ∷ with_replaced r rs) n ≡ tree_row (s ∷ rs) n
    go true e rest =
        let named : row_name s ≡ row_name r = name_eq-true (row_name s) (row_name r) e in
        past_head r (with_replaced r rs) n other ∙ rest ∙ sym (past_head s rs n (λ k. other (sym named ∙ k)))
    go false e rest = same_head s (with_replaced r rs) rs n rest

pub tree_row-replaced_same : (rs : List TreeRow) (r s : TreeRow) → tree_row rs (row_name r) ≡ Some s → tree_row (with_replaced r rs) (row_name r) ≡ Some r
unfolding tree_row
tree_row-replaced_same [] r s h = absurd cc
tree_row-replaced_same (x ∷ rs) r s h = go (has_name (row_name r) x) refl (λ k. tree_row-replaced_same rs r s k) h
  where
    go : (b : Bool) → has_name (row_name r) x ≡ b → (find (has_name (row_name r)) rs ≡ Some s → tree_row (with_replaced r rs) (row_name r) ≡ Some r)
        → cond b (Some x) (find (has_name (row_name r)) rs) ≡ Some s → tree_row (when b (λ t. r) x ∷ with_replaced r rs) (row_name r) ≡ Some r
    go true e rest h = at_head r (with_replaced r rs) (row_name r) refl
    go false e rest h = past_head x (with_replaced r rs) (row_name r) (name_eq-false (row_name x) (row_name r) e) ∙ rest h

-- ---- a row that is found is among the rows, and each of these is found

pub tree_row-In : (rs : List TreeRow) (n : Name) (r : TreeRow) → tree_row rs n ≡ Some r → In r rs
unfolding tree_row
tree_row-In rs n r h = (find-some (has_name n) rs r h).0

least_In : (m : Name) (rs : List TreeRow) (r : TreeRow) → IsLeast m rs → In r rs → name_cmp m (row_name r) ≡ Less
least_In m [] r all h = absurd h
least_In m (s ∷ rs) r all (inl e) = subst (λ (x : TreeRow). name_cmp m (row_name x) ≡ Less) (sym e) all.0
least_In m (s ∷ rs) r all (inr h) = least_In m rs r all.1 h

rising_In : (rs : List TreeRow) (r : TreeRow) → IsRising rs → In r rs → tree_row rs (row_name r) ≡ Some r
unfolding IsStrictlySortedBy
rising_In [] r rising h = absurd h
rising_In (s ∷ rs) r rising (inl e) = at_head s rs (row_name r) (ap row_name (sym e)) ∙ ap Some (sym e)
rising_In (s ∷ rs) r rising (inr h) =
    past_head s rs (row_name r) (less_other (row_name s) (row_name r) (least_In (row_name s) rs r rising.0 h)) ∙ rising_In rs r rising.1 h

pub In-tree_row : (rs : List TreeRow) (r : TreeRow) → AreOrdered rs → In r rs → tree_row rs (row_name r) ≡ Some r
In-tree_row rs r o h = rising_In rs r o.rising h
