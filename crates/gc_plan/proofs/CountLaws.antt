-- Rows in rising order of name by their places, and the counting of children row by row.
use Rattle.std.proofs.Common.{◌≡◌, ◌≢◌, inl, inr, ℕ, zero, suc, ◌+◌, ◌<◌, ◌≤◌, ◌==◌, Bool, true, false, ltb, ltb-true, ltb-false, Some, None, refl, sym, ap, subst, ◌∙◌, arith}
use Rattle.std.proofs.Common.{List, [], ◌∷◌, map, length, get_or, set, drop, replicate}
use Rattle.std.proofs.lemmas.Bool.{true≢false, eqb-true, eq-eqb}
use Rattle.std.proofs.lemmas.List.{get_or_default, get_or-replicate, get_or-set_same, get_or-set_other}
use Rattle.std.proofs.lemmas.Option.{same_Some}
use Rattle.std.specs.List.{AllByRecursion}
use Rattle.std.specs.List.Sorted.{IsPartitionPoint, IsPartitionedBy, IsStrictlySortedBy}
use Rattle.std.specs.Ordering.{is_lt}
use Rattle.std.specs.declared.cmp.Ordering.TheVariants.{Less}
use Rattle.common_laws.specs.Lists.{In}
use Rattle.sm_base.specs.declared.names.Name.{Name}
use Rattle.sm_base.specs.Names.{name_cmp}
use Rattle.sm_base.proofs.OrderLemmas.{name_cmp_total}
use Rattle.vg_meta.proofs.NameLaws.{less_from, less_other, name_eq-other}
use Rattle.vhd_image.specs.Bodies.{parent_name}
use Rattle.vhd_chain.specs.Trees.{AreOrdered, children, is_child_of, row_name, tree_row}
use Rattle.vhd_chain.specs.declared.rows.TreeRow.{TreeRow}
use Rattle.vhd_chain.proofs.ByName.{In-tree_row}
use Rattle.vhd_chain.proofs.LinkLaws.{count_child, count_none, count_other}
use Rattle.sm_machine.proofs.Changes.{filter_le}
use Rattle.gc_plan.specs.Counting.{AreCounted, HasNoParent, HasNone, IsParentPlace, IsPlaceOf}
use Rattle.gc_plan.proofs.StepLaws.{item_in}

-- ---- places

all_at : (P : Name → Type 0) (rs : List TreeRow) (j : ℕ) (d : TreeRow) → AllByRecursion P (map row_name rs) → j < length rs → P (row_name (get_or rs j d))
all_at P [] j d all lt = absurd (omega (arith, lt))
all_at P (r ∷ rs) zero d all lt = all.0
all_at P (r ∷ rs) (suc j) d all lt = all_at P rs j d all.1 (omega (arith, lt))

rising_at : (rs : List TreeRow) (i j : ℕ) (d : TreeRow) → IsStrictlySortedBy name_cmp (map row_name rs) → i < j → j < length rs
    → name_cmp (row_name (get_or rs i d)) (row_name (get_or rs j d)) ≡ Less
unfolding IsStrictlySortedBy
rising_at [] i j d rising less lt = absurd (omega (arith, lt))
rising_at (r ∷ rs) i zero d rising less lt = absurd (omega (arith, less))
rising_at (r ∷ rs) zero (suc j) d rising less lt = all_at (λ m. name_cmp (row_name r) m ≡ Less) rs j d rising.0 (omega (arith, lt))
rising_at (r ∷ rs) (suc i) (suc j) d rising less lt = rising_at rs i j d rising.1 (omega (arith, less)) (omega (arith, lt))

-- rows at two places have two names
names_apart : (rs : List TreeRow) (i j : ℕ) (d : TreeRow) → AreOrdered rs → i < length rs → j < length rs → i ≢ j
    → row_name (get_or rs i d) ≢ row_name (get_or rs j d)
names_apart rs i j d o i_in j_in other = by (ltb i j) refl
  where
    by : (b : Bool) → ltb i j ≡ b → row_name (get_or rs i d) ≢ row_name (get_or rs j d)
    by true h = less_other _ _ (rising_at rs i j d o.rising (ltb-true i j h) j_in)
    by false h = λ e. less_other _ _ (rising_at rs j i d o.rising (omega (arith, ltb-false i j h, other)) i_in) (sym e)

-- the rows whose names are less than one stand in front
pub parted : (rs : List TreeRow) (n : Name) → AreOrdered rs → IsPartitionedBy (λ (r : TreeRow). is_lt (name_cmp (row_name r) n)) rs
parted rs n o = λ i j d le j_in h. by i j d le j_in h (ltb i j) refl
  where
    by : (i j : ℕ) (d : TreeRow) → i ≤ j → j < length rs → is_lt (name_cmp (row_name (get_or rs j d)) n) ≡ true → (b : Bool) → ltb i j ≡ b
        → is_lt (name_cmp (row_name (get_or rs i d)) n) ≡ true
    by i j d le j_in h true less = ap is_lt (name_cmp_total.trans _ _ _ (rising_at rs i j d o.rising (ltb-true i j less) j_in) (less_from _ _ h))
    by i j d le j_in h false less = let same : j ≡ i = omega (arith, ltb-false i j less, le) in subst (λ k. is_lt (name_cmp (row_name (get_or rs k d)) n) ≡ true) same h

-- where the row behind them has another name, no row has that one
pub none_parted : (rs : List TreeRow) (n : Name) (at : ℕ) → AreOrdered rs
    → IsPartitionPoint (λ (r : TreeRow). is_lt (name_cmp (row_name r) n) ≡ true) (λ (r : TreeRow). is_lt (name_cmp (row_name r) n) ≡ false) rs at
    → ((d : TreeRow) → at < length rs → row_name (get_or rs at d) ≢ n) → HasNone rs n
none_parted rs n at o point other = λ i d lt named. by i d lt named (ltb i at) refl (ltb at i) refl
  where
    by : (i : ℕ) (d : TreeRow) → i < length rs → row_name (get_or rs i d) ≡ n → (a : Bool) → ltb i at ≡ a → (b : Bool) → ltb at i ≡ b → ⊥
    by i d lt named true before b _ = less_other _ n (less_from _ _ (point.0 i d (omega arith) (ltb-true i at before))) named
    by i d lt named false _ true behind =
        let less = subst (λ m. name_cmp (row_name (get_or rs at d)) m ≡ Less) named (rising_at rs at i d o.rising (ltb-true at i behind) lt) in
        true≢false (sym (ap is_lt less) ∙ point.1 at d (omega arith) (omega (arith, ltb-true at i behind, lt)))
    by i d lt named false not_before false not_behind =
        let same : i ≡ at = omega (arith, ltb-false i at not_before, ltb-false at i not_behind) in
        other d (omega (arith, same, lt)) (subst (λ k. row_name (get_or rs k d) ≡ n) same named)

-- what is looked up by name
pub found_at : (rs : List TreeRow) (n : Name) (at : ℕ) (r : TreeRow) → AreOrdered rs → IsPlaceOf rs n at → r ≡ get_or rs at r → Some r ≡ tree_row rs n
found_at rs n at r o p is =
    sym (In-tree_row rs r o (item_in rs at r p.within is)) ∙ ap (tree_row rs) (ap row_name is ∙ p.named r)

pub found_none : (rs : List TreeRow) (n : Name) → HasNone rs n → None ≡ tree_row rs n
unfolding tree_row
found_none [] n none = refl
found_none (r ∷ rs) n none = rw (name_eq-other (row_name r) n (none 0 r (omega arith))) (found_none rs n (λ i d lt. none (suc i) d (omega (arith, lt))))

-- ---- counting

-- each row's number, and its children among the rows from one on, are its children
abbrev pub AreCountedTo : List TreeRow → ℕ → List ℕ → Type 0
AreCountedTo rs k counts = (i : ℕ) (d : TreeRow) → i < length rs
    → get_or counts i 0 + length (children (drop k rs) (row_name (get_or rs i d))) ≡ length (children rs (row_name (get_or rs i d)))

pub counted_first : (rs : List TreeRow) (n : ℕ) → length rs ≤ n → AreCountedTo rs 0 (replicate n 0)
counted_first rs n few = λ i d lt. omega (arith, get_or-replicate {A = ℕ} n i 0 0 (omega (arith, few, lt)))

pub counted_last : (rs : List TreeRow) (k : ℕ) (counts : List ℕ) → length rs ≤ k → length rs ≤ length counts → AreCountedTo rs k counts → AreCounted rs counts
counted_last rs k counts end room to = record { room = room; each = λ i d lt. omega (arith, to i d lt, count_none rs (row_name (get_or rs i d)) k end) }

-- a row without a parent among the rows
pub counted_past : (rs : List TreeRow) (k : ℕ) (r : TreeRow) (counts : List ℕ) → k < length rs → r ≡ get_or rs k r
    → HasNoParent rs r → AreCountedTo rs k counts → AreCountedTo rs (k + 1) counts
counted_past rs k r counts k_in is none to = λ i d lt. omega (arith, to i d lt, count_other rs (row_name (get_or rs i d)) k r k_in is (none i d lt))

-- and one whose parent stands at a place
pub counted_more : (rs : List TreeRow) (k : ℕ) (r : TreeRow) (counts : List ℕ) (at : ℕ) → AreOrdered rs → k < length rs → r ≡ get_or rs k r
    → length rs ≤ length counts → IsParentPlace rs r at → AreCountedTo rs k counts → AreCountedTo rs (k + 1) (set counts at (get_or counts at 0 + 1))
counted_more rs k r counts at o k_in is room up to = λ i d lt. by i d lt (i == at) refl
  where
    by : (i : ℕ) (d : TreeRow) → i < length rs → (b : Bool) → (i == at) ≡ b
        → get_or (set counts at (get_or counts at 0 + 1)) i 0 + length (children (drop (k + 1) rs) (row_name (get_or rs i d))) ≡ length (children rs (row_name (get_or rs i d)))
    by i d lt true e =
        let same : i ≡ at = eqb-true i at e in
        let own : row_name (get_or rs i d) ≡ up.parent = ap (λ j. row_name (get_or rs j d)) same ∙ up.place.named d in
        let raised : get_or (set counts at (get_or counts at 0 + 1)) i 0 ≡ get_or counts i 0 + 1 =
        subst (λ j. get_or (set counts at (get_or counts at 0 + 1)) j 0 ≡ get_or counts j 0 + 1) (sym same)
        (get_or-set_same counts at (get_or counts at 0 + 1) 0 (omega (arith, up.place.within, room))) in
        omega (arith, raised, to i d lt, count_child rs (row_name (get_or rs i d)) k r k_in is (up.linked ∙ ap Some (sym own)))
    by i d lt false e =
        let other : i ≢ at = λ same. true≢false (sym (eq-eqb i at same) ∙ e) in
        let apart : parent_name r.image ≢ Some (row_name (get_or rs i d)) =
        λ h. names_apart rs i at d o lt up.place.within other (same_Some _ _ (sym h ∙ up.linked ∙ ap Some (sym (up.place.named d)))) in
        omega (arith, get_or-set_other counts at i (get_or counts at 0 + 1) 0 other, to i d lt, count_other rs (row_name (get_or rs i d)) k r k_in is apart)

-- a number is no greater than the number of rows
pub counted_few : (rs : List TreeRow) (k : ℕ) (counts : List ℕ) (i : ℕ) (d : TreeRow)
    → AreCountedTo rs k counts → i < length rs → get_or counts i 0 ≤ length rs
counted_few rs k counts i d to lt = omega (arith, to i d lt, filter_le (is_child_of (row_name (get_or rs i d))) rs)

-- the number at the place of a row, and that a row of the tree has one
pub count_read : (rs : List TreeRow) (counts : List ℕ) (n : Name) (at x : ℕ) (d : TreeRow)
    → AreCounted rs counts → IsPlaceOf rs n at → x ≡ get_or counts at x → x ≡ length (children rs n)
count_read rs counts n at x d all p is =
    is ∙ get_or_default counts at x 0 (omega (arith, p.within, all.room)) ∙ all.each at d p.within ∙ ap (λ m. length (children rs m)) (p.named d)

pub has_place : (rs : List TreeRow) (r : TreeRow) → In r rs → HasNone rs (row_name r) → ⊥
has_place [] r there none = there
has_place (s ∷ rs) r (inl e) none = none 0 s (omega arith) (ap row_name (sym e))
has_place (s ∷ rs) r (inr there) none = has_place rs r there (λ i d lt. none (suc i) d (omega (arith, lt)))
