-- The place of a row, and the place at which one is put in.
use Rattle.std.proofs.Common.{◌≡◌, ◌≢◌, ℕ, zero, suc, ◌+◌, ◌<◌, ◌≤◌, Bool, true, false, not, List, [], ◌∷◌, ◌++◌, length, get_or, take, drop, drop-cons, add-one, Some, None, refl, sym, ap, ◌∙◌, arith}
use Rattle.std.specs.Prelude.{slice_get}
use Rattle.std.specs.List.{AllByRecursion}
use Rattle.std.specs.List.Sorted.{IsStrictlySortedBy}
use Rattle.std.specs.declared.cmp.Ordering.TheVariants.{Less}
use Rattle.std.proofs.lemmas.Option.{slice_get_within, get_or_from_slice_get}
use Rattle.common_laws.specs.Lists.{insert_by}
use Rattle.sm_base.specs.declared.names.Name.{Name}
use Rattle.sm_base.specs.Names.{name_cmp}
use Rattle.vg_meta.specs.Halves.{AreUpTo, IsInOrder}
use Rattle.vg_meta.proofs.NameLaws.{name_eq-same, name_eq-other, less_other}
use Rattle.vg_meta.proofs.Halving.{name_of, stands_last}
use Rattle.vhd_chain.specs.Trees.{AreOrdered, row_name, has_name, tree_row, is_before, with_row}
use Rattle.vhd_chain.specs.Places.{IsPlace}
use Rattle.vhd_chain.specs.declared.rows.TreeRow.{TreeRow}

-- no row of these has the name
abbrev pub AreOthers : Name → List TreeRow → Type 0
AreOthers n rs = AllByRecursion (λ r. has_name n r ≡ false) rs

pub none_named : (rs : List TreeRow) (n : Name) → AreOthers n rs → tree_row rs n ≡ None
unfolding tree_row
none_named [] n others = refl
none_named (r ∷ rs) n others = rw others.0 (none_named rs n others.1)

get_at : (rs : List TreeRow) (i : ℕ) (r : TreeRow) → i < length rs → r ≡ get_or rs i r → slice_get rs i ≡ Some r
get_at [] i r lt is = absurd (omega arith)
get_at (x ∷ rs) zero r lt is = ap Some (sym is)
get_at (x ∷ rs) (suc i) r lt is = get_at rs i r (omega arith) is

pub sought_found : (rs : List TreeRow) (n : Name) (i : ℕ) (r : TreeRow) → i < length rs → r ≡ get_or rs i r → row_name r ≡ n
    → AreOthers n (take i rs) → IsPlace rs n i
sought_found rs n i r lt is named others = record { held = r; at = get_at rs i r lt is; named = named; before = others }

-- in a list in order no row in front of one has its name
others_in_front : (rs : List TreeRow) (n : Name) (i : ℕ) (r : TreeRow) → i < length rs → r ≡ get_or rs i r → row_name r ≡ n → IsInOrder row_name rs → AreOthers n (take i rs)
unfolding IsStrictlySortedBy
others_in_front [] n i r lt is named order = absurd (omega arith)
others_in_front (x ∷ rs) n zero r lt is named order = tt
others_in_front (x ∷ rs) n (suc i) r lt is named order =
    let behind = name_of row_name (λ (m : Name). name_cmp (row_name x) m ≡ Less) rs i r (omega arith) order.0 in
    let other : row_name x ≢ n = λ e. less_other (row_name x) (row_name (get_or rs i r)) behind (e ∙ sym named ∙ ap row_name is) in
    (name_eq-other (row_name x) n other, others_in_front rs n i r (omega arith) is named order.1)

pub found_in_order : (rs : List TreeRow) (n : Name) (i : ℕ) (r : TreeRow) → i < length rs → r ≡ get_or rs i r → row_name r ≡ n → AreOrdered rs → IsPlace rs n i
found_in_order rs n i r lt is named o = sought_found rs n i r lt is named (others_in_front rs n i r lt is named o.rising)

others_of_each : (rs : List TreeRow) (n : Name) → ((j : ℕ) (d : TreeRow) → j < length rs → row_name (get_or rs j d) ≡ n → ⊥) → AreOthers n rs
others_of_each [] n never = tt
others_of_each (x ∷ rs) n never =
    (name_eq-other (row_name x) n (λ e. never 0 x (omega arith) e), others_of_each rs n (λ j d within e. never (suc j) d (omega arith) e))

-- where no name is up to this one, no row has it
pub none_up_to : (rs : List TreeRow) (n : Name) (i : ℕ) → i ≡ 0 → i ≤ length rs → AreOrdered rs → AreUpTo row_name n rs i → tree_row rs n ≡ None
none_up_to rs n i zero_is long o up_to = none_named rs n (others_of_each rs n (λ j d within e.
    let last = stands_last row_name n rs i o.rising long up_to j d within e in absurd (omega (arith, last, zero_is))))

same_at : (rs : List TreeRow) (i : ℕ) (a b : TreeRow) → i < length rs → get_or rs i a ≡ get_or rs i b
same_at [] i a b lt = absurd (omega arith)
same_at (x ∷ rs) zero a b lt = refl
same_at (x ∷ rs) (suc i) a b lt = same_at rs i a b (omega arith)

-- and where the last that is has another name
pub none_last : (rs : List TreeRow) (n : Name) (i k : ℕ) (r : TreeRow) → k + 1 ≡ i → i ≤ length rs → AreOrdered rs → AreUpTo row_name n rs i
    → r ≡ get_or rs k r → row_name r ≢ n → tree_row rs n ≡ None
none_last rs n i k r last_is long o up_to is other = none_named rs n (others_of_each rs n (λ j d within e.
    let last = stands_last row_name n rs i o.rising long up_to j d within e in
    let same : j ≡ k = omega (arith, last, last_is) in
    other (ap row_name (is ∙ same_at rs k r d (omega arith)) ∙ sym (ap (λ (m : ℕ). row_name (get_or rs m d)) same) ∙ e)))

-- the row at the place is the row of the name
row_at : (rs : List TreeRow) (n : Name) (i : ℕ) (r : TreeRow) → slice_get rs i ≡ Some r → row_name r ≡ n → AreOthers n (take i rs) → tree_row rs n ≡ Some r
unfolding tree_row
row_at [] n i r at named others = absurd cc
row_at (x ∷ rs) n zero r at named others =
    let same : x ≡ r = cc in
    rw (name_eq-same (row_name x) n (ap row_name same ∙ named)) (ap Some same)
row_at (x ∷ rs) n (suc i) r at named others = rw others.0 (row_at rs n i r at named others.1)

pub placed : (rs : List TreeRow) (n : Name) (i : ℕ) (p : IsPlace rs n i) → tree_row rs n ≡ Some p.held
placed rs n i p = row_at rs n i p.held p.at p.named p.before

-- ---- the place at which a row is put in

pub opened : (rs : List TreeRow) (i : ℕ) (r : TreeRow) → i < length rs → r ≡ get_or rs i r → drop i rs ≡ r ∷ drop (i + 1) rs
opened rs i r lt is = rw (add-one) (drop-cons rs i r lt ∙ ap (λ (x : TreeRow). x ∷ drop (suc i) rs) (sym is))

not_true : (b : Bool) → not b ≡ true → b ≡ false
not_true true h = absurd cc
not_true false h = refl

not_false : (b : Bool) → not b ≡ false → b ≡ true
not_false true h = refl
not_false false h = absurd cc

with_before : (r s : TreeRow) (rs : List TreeRow) → is_before r s ≡ true → with_row r (s ∷ rs) ≡ r ∷ s ∷ rs
unfolding insert_by
with_before r s rs h = rw h refl

with_behind : (r s : TreeRow) (rs : List TreeRow) → is_before r s ≡ false → with_row r (s ∷ rs) ≡ s ∷ with_row r rs
unfolding insert_by
with_behind r s rs h = rw h refl

with_last : (r : TreeRow) → with_row r [] ≡ r ∷ []
unfolding insert_by
with_last r = refl

-- where the rows are parted by a name, a row of that name belongs
pub put_up_to : (rs : List TreeRow) (n : Name) (i : ℕ) → i ≤ length rs → AreUpTo row_name n rs i → (r : TreeRow) → row_name r ≡ n → take i rs ++ r ∷ drop i rs ≡ with_row r rs
put_up_to [] n zero long up_to r named = sym (with_last r)
put_up_to [] n (suc i) long up_to r named = absurd (omega arith)
put_up_to (x ∷ rs) n zero long up_to r named =
    let test : is_before r x ≡ true = rw named (not_false _ (up_to.1 0 x (omega arith) (omega arith))) in
    sym (with_before r x rs test)
put_up_to (x ∷ rs) n (suc i) long up_to r named =
    let test : is_before r x ≡ false = rw named (not_true _ (up_to.0 0 x (omega arith) (omega arith))) in
    let rest : AreUpTo row_name n rs i = (λ k d low high. up_to.0 (suc k) d (omega arith) (omega arith), λ k d low high. up_to.1 (suc k) d (omega arith) (omega arith)) in
    ap (λ (l : List TreeRow). x ∷ l) (put_up_to rs n i (omega arith) rest r named) ∙ sym (with_behind r x rs test)

pub gone : {X : Type 0} (xs : List X) (i : ℕ) → length xs ≤ i → drop i xs ≡ []
gone [] zero h = refl
gone [] (suc i) h = refl
gone (x ∷ xs) zero h = absurd (omega arith)
gone (x ∷ xs) (suc i) h = gone xs i (omega arith)

pub within : (rs : List TreeRow) (n : Name) (i : ℕ) → IsPlace rs n i → i < length rs
within rs n i p = slice_get_within rs i p.held p.at

-- what an index reads there is the row of the name
pub read_at : (rs : List TreeRow) (n : Name) (i : ℕ) (r : TreeRow) → IsPlace rs n i → r ≡ get_or rs i r → Some r ≡ tree_row rs n
read_at rs n i r p is = sym (placed rs n i p ∙ ap Some (sym (is ∙ get_or_from_slice_get rs i p.held r p.at)))
