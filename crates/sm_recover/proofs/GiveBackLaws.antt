-- Rows that are taken out of memory: how many are left, and which names are free.
use Rattle.std.proofs.Common.{◌≡◌, ◌≢◌, ◌⊎◌, inl, inr, ℕ, ◌+◌, Bool, true, false, cond, not, List, [], ◌∷◌, length, map, Option, Some, None, refl, sym, ap, ◌∙◌, subst, arith}
use Rattle.std.specs.Prelude.{IfNone, IfSome}
use Rattle.std.specs.List.{AllByRecursion}
use Rattle.std.specs.List.Sorted.{IsStrictlySortedBy}
use Rattle.std.specs.declared.cmp.Ordering.TheVariants.{Less}
use Rattle.std.proofs.lemmas.Option.{none-some}
use Rattle.sm_base.specs.Names.{name_cmp}
use Rattle.sm_base.specs.declared.names.Name.{Name}
use Rattle.sm_base.specs.declared.names.Name.TheVariants.{Mgt, Vhd, Raw, Old, Cbt, Clone, Inflate, Coalesce, Relink, Leaf}
use Rattle.vg_meta.specs.Tables.{VolumeTable, name_eq}
use Rattle.vg_meta.proofs.NameLaws.{less_other, name_eq-other, name_eq-true}
use Rattle.sm_standing.specs.Entries.{head, making}
use Rattle.sm_standing.specs.Opened.{under_name}
use Rattle.vhd_chain.specs.Trees.{AreOrdered, Tree, row_name, tree_row, with_row, without}
use Rattle.vhd_chain.specs.declared.rows.TreeRow.{TreeRow}
use Rattle.vhd_chain.proofs.ByName.{tree_row-without_other, tree_row-without_same}
use Rattle.sm_recover.specs.Backs.{IsFreeAgain, base_back, entry_back, row_back, rows_back}
use Rattle.sm_recover.proofs.UndoneLaws.{decide}

without_none : (n : Name) (rs : List TreeRow) → AllByRecursion (λ (m : Name). name_cmp n m ≡ Less) (map row_name rs) → without n rs ≡ rs
without_none n [] all = refl
without_none n (r ∷ rs) all =
    ap (λ b. cond (not b) (r ∷ without n rs) (without n rs)) (name_eq-other (row_name r) n (λ e. less_other n (row_name r) all.0 (sym e))) ∙ ap (λ (qs : List TreeRow). r ∷ qs) (without_none n rs all.1)

one_out : (n : Name) (rs : List TreeRow) (r : TreeRow) → IsStrictlySortedBy name_cmp (map row_name rs) → tree_row rs n ≡ Some r → length (without n rs) + 1 ≡ length rs
unfolding tree_row IsStrictlySortedBy
one_out n [] r rising there = absurd (none-some r there)
one_out n (s ∷ rs) r rising there = by (name_eq (row_name s) n) refl there (λ later. one_out n rs r rising.1 later)
  where
    by : (b : Bool) → name_eq (row_name s) n ≡ b → cond b (Some s) (tree_row rs n) ≡ Some r → (tree_row rs n ≡ Some r → length (without n rs) + 1 ≡ length rs) → length (cond (not b) (s ∷ without n rs) (without n rs)) + 1 ≡ length (s ∷ rs)
    by true is at rest =
        let none = without_none n rs (subst (λ (m : Name). AllByRecursion (λ (k : Name). name_cmp m k ≡ Less) (map row_name rs)) (name_eq-true (row_name s) n is) rising.0) in
        omega (arith, ap (λ (qs : List TreeRow). length qs) none)
    by false is at rest = let e = rest at in omega (arith, e)

pub taken_room : (old new : Tree) (n : Name) (o : Option TreeRow) → AreOrdered old.rows → o ≡ tree_row old.rows n → new.rows ≡ without n old.rows → IfSome o (λ r. new.spare ≡ old.spare + 1) → IfNone o (new ≡ old)
    → length new.rows + new.spare ≡ length old.rows + old.spare
taken_room old new n None ordered is rows more same = ap (λ (t : Tree). length t.rows + t.spare) same
taken_room old new n (Some r) ordered is rows more same =
    let e = one_out n old.rows r ordered.rising (sym is) in omega (arith, e, ap (λ (xs : List TreeRow). length xs) rows, more)

-- a name that no row has
pub none_kept : (rs : List TreeRow) (m n : Name) → tree_row rs n ≡ None → tree_row (without m rs) n ≡ None
none_kept rs m n none = by (decide m n)
  where
    by : (m ≡ n) ⊎ (m ≡ n → ⊥) → tree_row (without m rs) n ≡ None
    by (inl is) = subst (λ k. tree_row (without k rs) n ≡ None) (sym is) (tree_row-without_same rs n)
    by (inr other) = tree_row-without_other rs m n other ∙ none

-- the disk's name is free
pub free_back : (from : Name) (d w : List ℕ) (xs : List TreeRow) → IsFreeAgain d xs → tree_row (without from (without (Vhd d) (without (Vhd w) xs))) (under_name from d) ≡ None
free_back from d w xs free = by from
  where
    vhd : (n : Name) → tree_row (without n (without (Vhd d) (without (Vhd w) xs))) (Vhd d) ≡ None
    vhd n = none_kept (without (Vhd d) (without (Vhd w) xs)) n (Vhd d) (tree_row-without_same (without (Vhd w) xs) (Vhd d))

    by : (n : Name) → tree_row (without n (without (Vhd d) (without (Vhd w) xs))) (under_name n d) ≡ None
    by (Raw v) = none_kept (without (Vhd d) (without (Vhd w) xs)) (Raw v) (Raw d) (none_kept (without (Vhd w) xs) (Vhd d) (Raw d) (none_kept xs (Vhd w) (Raw d) free.no_raw))
    by (Vhd v) = vhd (Vhd v)
    by n = vhd n

-- by the entry that is found
pub rows_none : (t : VolumeTable) (xs : List TreeRow) → head (making t) ≡ None → rows_back t xs ≡ xs
unfolding rows_back
rows_none t xs none = ap (λ o. entry_back t o xs) none

pub rows_some : (t : VolumeTable) (xs : List TreeRow) (n : Name) → head (making t) ≡ Some n → rows_back t xs ≡ entry_back t (Some n) xs
unfolding rows_back
rows_some t xs n found = ap (λ o. entry_back t o xs) found

-- no other entry changes memory
pub other_back : (t : VolumeTable) (n : Name) (xs : List TreeRow) → ((d b w : List ℕ) → n ≢ Clone d b w) → entry_back t (Some n) xs ≡ xs
other_back t (Clone d b w) xs other = absurd (other d b w refl)
other_back t Mgt xs other = refl
other_back t (Vhd u) xs other = refl
other_back t (Raw u) xs other = refl
other_back t (Old u) xs other = refl
other_back t (Cbt u) xs other = refl
other_back t (Inflate u e) xs other = refl
other_back t (Coalesce v p) xs other = refl
other_back t (Relink v p) xs other = refl
other_back t (Leaf l p) xs other = refl

-- without a base in memory nothing changes
pub base_none : (from to : Name) (xs : List TreeRow) → tree_row xs from ≡ None → base_back from to xs ≡ xs
base_none from to xs none = ap (λ o. elim o as (λ _. List TreeRow) [ None ↦ xs | Some y ↦ with_row (row_back to y) (without from xs) ]) none

pub if_none_of : {A P : Type 0} {o : Option A} → o ≡ None → IfNone o P → P
if_none_of {P = P} is p = subst (λ o. IfNone o P) is p
