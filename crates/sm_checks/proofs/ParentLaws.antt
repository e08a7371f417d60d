-- The first visible image that is a parent, found among the parents of the images in memory, and the first volume that the check
-- of trees names.
use Rattle.std.proofs.Common.{◌≡◌, ◌⊎◌, inl, inr, ⊎_elim, Bool, true, false, cond, not, ◌&&◌, ◌||◌, ◌==◌, List, [], ◌∷◌, length, fold, Option, Some, None, is_some, refl, sym, ap, ap₂, ◌∙◌, subst, nat_le}
use Rattle.std.specs.List.{AllByRecursion, find}
use Rattle.std.specs.List.Sorted.{IsStrictlySortedBy}
use Rattle.std.specs.Ordering.{is_lt}
use Rattle.std.specs.declared.cmp.Ordering.TheVariants.{Less}
use Rattle.std.proofs.lemmas.Bool.{true≢false}
use Rattle.std.proofs.lemmas.Option.{same_Some}
use Rattle.common_laws.specs.Lists.{In, given}
use Rattle.common_laws.proofs.Lists.{In-filter, filter-In, In-map_at, find-some}
use Rattle.sm_base.specs.declared.names.Name.{Name}
use Rattle.sm_base.specs.declared.names.Name.TheVariants.{Mgt, Vhd, Raw, Old, Cbt, Clone, Inflate, Coalesce, Relink, Leaf}
use Rattle.sm_base.specs.Names.{name_cmp}
use Rattle.sm_base.proofs.OrderLemmas.{name_cmp-itself}
use Rattle.sm_machine.proofs.ImageNames.{before_le, le_chain, names_total}
use Rattle.vg_meta.specs.Tables.{Row, VolumeTable, name_eq, names_of, rows}
use Rattle.vg_meta.proofs.NameLaws.{name_eq-same, name_eq-true}
use Rattle.vhd_image.specs.Bodies.{parent_name}
use Rattle.vhd_chain.specs.Trees.{chain_length, children as children_in, is_child_of, tree_row}
use Rattle.vhd_chain.specs.declared.rows.TreeRow.{TreeRow}
use Rattle.sm_base.specs.declared.faults.Place.TheVariants as at
use Rattle.sm_standing.specs.Checks.{first_name, lesser, name_in, placed, tree_fault}
use Rattle.sm_standing.specs.Outlines.{Outline}
use Rattle.sm_standing.specs.Entries.{of_row}
use Rattle.sm_standing.proofs.DisksShown.{row_of-In}
use Rattle.sm_ready.proofs.RowLaws.{All-In, found_in}
use Rattle.sm_checks.proofs.CheckLaws.{find_same}
use Rattle.sm_checks.proofs.LinkLaws.{not_empty}
use Rattle.sm_checks.proofs.TreeLaws.{both_true, tree_seen}
use Rattle.sm_checks.specs.Faults.{HasChildren, HasLinks, IsFirstName, IsLeafParent, is_astray_in, is_leaf_name, is_linked_in, is_misplaced_in, is_tree_astray, leaf_parent, tree_wrong_in}

-- ---- the first of some names

unnot : (b : Bool) → not b ≡ true → b ≡ false
unnot true h = absurd (true≢false (sym h))
unnot false h = refl

pub first_as : (P Q : Name → Type 0) (o : Option Name) → ((n : Name) → P n → Q n) → ((n : Name) → Q n → P n) → IsFirstName P o → IsFirstName Q o
first_as P Q None to back first = λ n q. first n (back n q)
first_as P Q (Some n) to back first = (to n first.0, λ m q. first.1 m (back m q))

not_before_itself : (x m : Name) → Some x ≡ Some m → is_lt (name_cmp m x) ≡ false
not_before_itself x m e = subst (λ w. is_lt (name_cmp w x) ≡ false) (same_Some x m e) (ap is_lt (name_cmp-itself x))

first_lesser : (Q : Name → Type 0) (a b : Option Name) → IsFirstName Q a → IsFirstName (λ n. Q n ⊎ (b ≡ Some n)) (lesser a b)
first_lesser Q None None first = λ n. ⊎_elim (first n) (λ e. (let k = e in cc))
first_lesser Q None (Some x) first = (inr refl, λ m. ⊎_elim (λ q. absurd (first m q)) (not_before_itself x m))
first_lesser Q (Some y) None first = (inl first.0, λ m. ⊎_elim (first.1 m) (λ e. absurd (let k = e in cc)))
first_lesser Q (Some y) (Some x) first = by (is_lt (name_cmp y x)) refl
  where
    by : (b : Bool) → is_lt (name_cmp y x) ≡ b → IsFirstName (λ n. Q n ⊎ (Some x ≡ Some n)) (cond b (Some y) (Some x))
    by true before = (
      inl first.0,
      λ m. ⊎_elim (first.1 m) (λ e. subst (λ w. is_lt (name_cmp w y) ≡ false) (same_Some x m e) (unnot _ (before_le name_cmp names_total y x before))),
    )
    by false behind = (
      inr refl,
      λ m. ⊎_elim (λ q. unnot _ (le_chain name_cmp names_total x y m (ap not behind) (ap not (first.1 m q)))) (not_before_itself x m),
    )

-- one of the elements gives it
abbrev IsGiven : {X : Type 0} → (X → Option Name) → List X → Name → Type 0
IsGiven {X} f xs n = (y : X) × In y xs × (f y ≡ Some n)

first_fold : {X : Type 0} (f : X → Option Name) (xs : List X) (Q : Name → Type 0) (a : Option Name) → IsFirstName Q a
    → IsFirstName (λ n. Q n ⊎ IsGiven f xs n) (fold (λ o y. lesser o (f y)) a xs)
first_fold f [] Q a first = first_as Q (λ n. Q n ⊎ IsGiven f [] n) a (λ n q. inl q) (λ n. ⊎_elim (λ q. q) (λ g. absurd g.1)) first
first_fold f (x ∷ xs) Q a first =
    first_as (λ n. (Q n ⊎ (f x ≡ Some n)) ⊎ IsGiven f xs n) (λ n. Q n ⊎ IsGiven f (x ∷ xs) n) (fold (λ o y. lesser o (f y)) (lesser a (f x)) xs)
    (λ n. ⊎_elim (⊎_elim (λ q. inl q) (λ e. inr (x, inl refl, e))) (λ g. inr (g.0, inr g.1, g.2)))
    (λ n. ⊎_elim (λ q. inl (inl q)) (λ g. ⊎_elim (λ same. inl (inr (ap f (sym same) ∙ g.2))) (λ i. inr (g.0, i, g.2)) g.1))
    (first_fold f xs (λ n. Q n ⊎ (f x ≡ Some n)) (lesser a (f x)) (first_lesser Q a (f x) first))

abbrev pub with_leaf_parent : VolumeTable → List TreeRow → Option Name → TreeRow → Option Name
with_leaf_parent t xs o y = lesser o (leaf_parent t xs y)

pub first_leaf_parent : (t : VolumeTable) (xs : List TreeRow) → IsFirstName (IsLeafParent t xs) (fold (with_leaf_parent t xs) None xs)
first_leaf_parent t xs =
    first_as (λ n. ⊥ ⊎ IsGiven (leaf_parent t xs) xs n) (IsLeafParent t xs) (fold (λ o y. lesser o (leaf_parent t xs y)) None xs)
    (λ n. ⊎_elim (λ q. absurd q) (λ g. g)) (λ n g. inr g) (first_fold (leaf_parent t xs) xs (λ n. ⊥) None (λ n q. q))

-- ---- the first volume that fails either of two tests

-- the first name of a volume that passes, with no such name before it
pub record IsPassing (test : Row → Bool) (rs : List Row) (n : Name) : Type 0 where
  pub row : Row
  pub there : In row rs
  pub named : row.name ≡ n
  pub passes : test row ≡ true
  pub first : (s : Row) → In s rs → test s ≡ true → is_lt (name_cmp s.name n) ≡ false

abbrev pub IsFirstOf : (Row → Bool) → List Row → Option Name → Type 0
IsFirstOf test rs None = (s : Row) → In s rs → test s ≡ true → ⊥
IsFirstOf test rs (Some n) = IsPassing test rs n

later_less : (r : Row) (rs : List Row) → AllByRecursion (λ (m : Name). name_cmp r.name m ≡ Less) (names_of rs) → (s : Row) → In s rs → name_cmp r.name s.name ≡ Less
later_less r rs all s i = All-In (λ (m : Name). name_cmp r.name m ≡ Less) (names_of rs) s.name all (In-map_at (λ (z : Row). z.name) rs s i)

less_name : (r s : Row) (n : Name) → name_cmp r.name s.name ≡ Less → s.name ≡ n → is_lt (name_cmp r.name n) ≡ true
less_name r s n less named = subst (λ m. is_lt (name_cmp r.name m) ≡ true) named (ap is_lt less)

lesser_itself : (n : Name) → lesser (Some n) (Some n) ≡ Some n
lesser_itself n = by (is_lt (name_cmp n n))
  where
    by : (b : Bool) → cond b (Some n) (Some n) ≡ Some n
    by true = refl
    by false = refl

lesser_first : (a b : Name) → is_lt (name_cmp a b) ≡ true → lesser (Some a) (Some b) ≡ Some a
lesser_first a b e = ap (λ c. cond c (Some a) (Some b)) e

lesser_second : (a b : Name) → is_lt (name_cmp a b) ≡ false → lesser (Some a) (Some b) ≡ Some b
lesser_second a b e = ap (λ c. cond c (Some a) (Some b)) e

module _ (a b : Row → Bool) (r : Row) (rs : List Row) (later : (s : Row) → In s rs → name_cmp r.name s.name ≡ Less) where
  -- a volume in front that passes is the first
  front_named : (n : Name) → IsPassing b (r ∷ rs) n → b r ≡ true → n ≡ r.name
  front_named n first is = ⊎_elim (λ same. sym first.named ∙ ap (λ (z : Row). z.name) same)
      (λ i. absurd (true≢false (sym (less_name r first.row n (later first.row i) first.named) ∙ first.first r (inl refl) is))) first.there

  -- and one that does not is none of them
  passing_later : (n : Name) → IsPassing b (r ∷ rs) n → b r ≡ false → IsPassing b rs n
  passing_later n first isnt = record {
    row = first.row;
    there = ⊎_elim (λ same. absurd (true≢false (sym first.passes ∙ ap b same ∙ isnt))) (λ i. i) first.there;
    named = first.named;
    passes = first.passes;
    first = λ s i p. first.first s (inr i) p;
  }

  of_later : (o : Option Name) → IsFirstOf b (r ∷ rs) o → b r ≡ false → IsFirstOf b rs o
  of_later None first isnt = λ s i p. first s (inr i) p
  of_later (Some n) first isnt = passing_later n first isnt

  behind_front : (f : Option Row) → ((s : Row) → f ≡ Some s → In s rs) → lesser (name_in f) (Some r.name) ≡ Some r.name
  behind_front None found = refl
  behind_front (Some s) found = lesser_second s.name r.name (unnot _ (before_le name_cmp names_total r.name s.name (ap is_lt (later s (found s refl)))))

  front_passes : (p : Bool) (o : Option Name) → IsFirstOf b (r ∷ rs) o → b r ≡ true → Some r.name ≡ lesser (name_in (cond p (Some r) (find a rs))) o
  front_passes p None first is = absurd (first r (inl refl) is)
  front_passes true (Some n) first is = sym (ap (λ m. lesser (Some r.name) (Some m)) (front_named n first is) ∙ lesser_itself r.name)
  front_passes false (Some n) first is =
      sym (ap (λ m. lesser (name_in (find a rs)) (Some m)) (front_named n first is) ∙ behind_front (find a rs) (λ s e. (find-some a rs s e).0))

  front_alone : (o : Option Name) → IsFirstOf b (r ∷ rs) o → b r ≡ false → Some r.name ≡ lesser (Some r.name) o
  front_alone None first isnt = refl
  front_alone (Some n) first isnt =
      let rest = passing_later n first isnt in
      sym (lesser_first r.name n (less_name r rest.row n (later rest.row rest.there) rest.named))

pub first_either : (a b : Row → Bool) (rs : List Row) → IsStrictlySortedBy name_cmp (names_of rs) → (o : Option Name) → IsFirstOf b rs o → name_in (find (λ r. a r || b r) rs) ≡ lesser (name_in (find a rs)) o
unfolding IsStrictlySortedBy
first_either a b [] rising None first = refl
first_either a b [] rising (Some n) first = absurd first.there
first_either a b (r ∷ rs) rising o first = by (a r) (b r) refl (λ isnt. first_either a b rs rising.1 o (of_later a b r rs later o first isnt))
  where
    later : (s : Row) → In s rs → name_cmp r.name s.name ≡ Less
    later = later_less r rs rising.0

    by : (p q : Bool) → b r ≡ q → (b r ≡ false → name_in (find (λ s. a s || b s) rs) ≡ lesser (name_in (find a rs)) o) → name_in (cond (p || q) (Some r) (find (λ s. a s || b s) rs)) ≡ lesser (name_in (cond p (Some r) (find a rs))) o
    by true true is rest = front_passes a b r rs later true o first is
    by false true is rest = front_passes a b r rs later false o first is
    by true false is rest = front_alone a b r rs later o first is
    by false false is rest = rest is

-- ---- what the check says of a volume

abbrev has_children : List TreeRow → Row → Option TreeRow → Bool
has_children xs r None = false
has_children xs r (Some y) = not r.hidden && not (length (children_in xs r.name) == 0)

-- a VHD image in memory that is visible and has children
abbrev is_bad_parent : List TreeRow → Row → Name → Bool
is_bad_parent xs r (Vhd u) = has_children xs r (tree_row xs (Vhd u))
is_bad_parent xs r Mgt = false
is_bad_parent xs r (Raw u) = false
is_bad_parent xs r (Old u) = false
is_bad_parent xs r (Cbt u) = false
is_bad_parent xs r (Clone disk base twin) = false
is_bad_parent xs r (Inflate image extents) = false
is_bad_parent xs r (Coalesce child parent) = false
is_bad_parent xs r (Relink child parent) = false
is_bad_parent xs r (Leaf leaf parent) = false

apart : (a b c d : Bool) → not (a && (b && (c || d))) ≡ (not (a && b) || (not c && not d))
apart false b c d = refl
apart true false c d = refl
apart true true true d = refl
apart true true false true = refl
apart true true false false = refl

wrong_either : (t : VolumeTable) (xs : List TreeRow) (r : Row) (n : Name) → tree_wrong_in t xs r n ≡ (is_tree_astray t xs r n || is_bad_parent xs r n)
wrong_either t xs r (Vhd u) = by (tree_row xs (Vhd u))
  where
    by : (o : Option TreeRow) → is_misplaced_in t xs r o ≡ (is_astray_in t xs r o || has_children xs r o)
    by None = refl
    by (Some y) = apart (is_linked_in t xs y.image) (nat_le (chain_length xs 31 r.name) 30) r.hidden (length (children_in xs r.name) == 0)
wrong_either t xs r Mgt = refl
wrong_either t xs r (Raw u) = refl
wrong_either t xs r (Old u) = refl
wrong_either t xs r (Cbt u) = refl
wrong_either t xs r (Clone disk base twin) = refl
wrong_either t xs r (Inflate image extents) = refl
wrong_either t xs r (Coalesce child parent) = refl
wrong_either t xs r (Relink child parent) = refl
wrong_either t xs r (Leaf leaf parent) = refl

-- ---- parents that are visible

some_in : {A : Type 0} (xs : List A) → not (length xs == 0) ≡ true → (x : A) × In x xs
some_in [] h = absurd (true≢false (sym h))
some_in (x ∷ xs) h = (x, inl refl)

child_parent : (y : TreeRow) (n : Name) → is_child_of n y ≡ true → parent_name y.image ≡ Some n
child_parent y n = by (parent_name y.image)
  where
    by : (o : Option Name) → elim o as (λ _. Bool) [ None ↦ false | Some q ↦ name_eq q n ] ≡ true → o ≡ Some n
    by None h = absurd (true≢false (sym h))
    by (Some q) h = ap Some (name_eq-true q n h)

parent_child : (y : TreeRow) (q n : Name) → parent_name y.image ≡ Some q → q ≡ n → is_child_of n y ≡ true
parent_child y q n is same = ap (λ o. elim o as (λ _. Bool) [ None ↦ false | Some p ↦ name_eq p n ]) is ∙ name_eq-same q n same

-- a volume that has this name, and is a visible parent
record IsBad (t : VolumeTable) (xs : List TreeRow) (n : Name) : Type 0 where
  row : Row
  there : In row t.volumes
  named : row.name ≡ n
  passes : is_bad_parent xs row row.name ≡ true

module _ (t : VolumeTable) (xs : List TreeRow) (rising : IsStrictlySortedBy name_cmp (names_of t.volumes)) where
  given_parent : (y : TreeRow) (n : Name) → parent_name y.image ≡ Some n → is_leaf_name t xs n ≡ true → leaf_parent t xs y ≡ Some n
  given_parent y n is leaf = ap (λ o. elim o as (λ _. Option Name) [ None ↦ None | Some p ↦ given (is_leaf_name t xs p) p ]) is ∙ ap (λ b. given b n) leaf

  bad_is_leaf : (r : Row) → In r t.volumes → is_bad_parent xs r r.name ≡ true → IsLeafParent t xs r.name
  bad_is_leaf r i = by r.name refl
    where
      by : (n : Name) → r.name ≡ n → is_bad_parent xs r n ≡ true → IsLeafParent t xs n
      by (Vhd u) named bad = at (tree_row xs (Vhd u)) refl bad
        where
          at : (o : Option TreeRow) → tree_row xs (Vhd u) ≡ o → has_children xs r o ≡ true → IsLeafParent t xs (Vhd u)
          at None there h = absurd (true≢false (sym h))
          at (Some y) there h =
              let parts = both_true (not r.hidden) (not (length (children_in xs r.name) == 0)) h in
              let child = some_in (children_in xs r.name) parts.1 in
              let z = In-filter (is_child_of r.name) xs child.0 child.1 in
              let found : rows t (Vhd u) ≡ Some r = subst (λ m. rows t m ≡ Some r) named (found_in t.volumes rising r i) in
              let leaf : is_leaf_name t xs (Vhd u) ≡ true = ap₂ (λ o q. is_some o && of_row (λ s. not s.hidden) q) there found ∙ parts.0 in
              (child.0, z.0, given_parent child.0 (Vhd u) (child_parent child.0 r.name z.1 ∙ ap Some named) leaf)
      by Mgt named bad = absurd (true≢false (sym bad))
      by (Raw u) named bad = absurd (true≢false (sym bad))
      by (Old u) named bad = absurd (true≢false (sym bad))
      by (Cbt u) named bad = absurd (true≢false (sym bad))
      by (Clone d b w) named bad = absurd (true≢false (sym bad))
      by (Inflate u e) named bad = absurd (true≢false (sym bad))
      by (Coalesce a p) named bad = absurd (true≢false (sym bad))
      by (Relink a p) named bad = absurd (true≢false (sym bad))
      by (Leaf l p) named bad = absurd (true≢false (sym bad))

  leaf_bad : (n : Name) → is_leaf_name t xs n ≡ true → (y : TreeRow) → In y xs → parent_name y.image ≡ Some n → IsBad t xs n
  leaf_bad (Vhd u) leaf y i is = at (tree_row xs (Vhd u)) (rows t (Vhd u)) refl refl leaf
    where
      at : (o : Option TreeRow) (q : Option Row) → tree_row xs (Vhd u) ≡ o → rows t (Vhd u) ≡ q → (is_some o && of_row (λ s. not s.hidden) q) ≡ true → IsBad t xs (Vhd u)
      at None q there found h = absurd (true≢false (sym h))
      at (Some z) None there found h = absurd (true≢false (sym h))
      at (Some z) (Some r) there found h =
          let row = row_of-In t.volumes (Vhd u) r found in
          let named : r.name ≡ Vhd u = name_eq-true r.name (Vhd u) row.1 in
          let child = filter-In (is_child_of r.name) xs y i (parent_child y (Vhd u) r.name is (sym named)) in
          let some = not_empty (children_in xs r.name) y child in
          record {
            row = r;
            there = row.0;
            named = named;
            passes = ap (is_bad_parent xs r) named ∙ ap (has_children xs r) there ∙ ap₂ (λ a b. a && not b) h some;
          }
  leaf_bad Mgt leaf y i is = absurd (true≢false (sym leaf))
  leaf_bad (Raw u) leaf y i is = absurd (true≢false (sym leaf))
  leaf_bad (Old u) leaf y i is = absurd (true≢false (sym leaf))
  leaf_bad (Cbt u) leaf y i is = absurd (true≢false (sym leaf))
  leaf_bad (Clone d b w) leaf y i is = absurd (true≢false (sym leaf))
  leaf_bad (Inflate u e) leaf y i is = absurd (true≢false (sym leaf))
  leaf_bad (Coalesce a p) leaf y i is = absurd (true≢false (sym leaf))
  leaf_bad (Relink a p) leaf y i is = absurd (true≢false (sym leaf))
  leaf_bad (Leaf l p) leaf y i is = absurd (true≢false (sym leaf))

  leaf_is_bad : (n : Name) → IsLeafParent t xs n → IsBad t xs n
  leaf_is_bad n (y, i, e) = by (parent_name y.image) refl e
    where
      of_given : (q : Name) (b : Bool) → parent_name y.image ≡ Some q → is_leaf_name t xs q ≡ b → given b q ≡ Some n → IsBad t xs n
      of_given q true is leaf h = subst (IsBad t xs) (same_Some q n h) (leaf_bad q leaf y i is)
      of_given q false is leaf h = absurd (let k = h in cc)

      by : (o : Option Name) → parent_name y.image ≡ o → elim o as (λ _. Option Name) [ None ↦ None | Some p ↦ given (is_leaf_name t xs p) p ] ≡ Some n → IsBad t xs n
      by None is h = absurd (let k = h in cc)
      by (Some q) is h = of_given q (is_leaf_name t xs q) is refl h

  first_bad : (o : Option Name) → IsFirstName (IsLeafParent t xs) o → IsFirstOf (λ r. is_bad_parent xs r r.name) t.volumes o
  first_bad None first = λ s i h. first s.name (bad_is_leaf s i h)
  first_bad (Some n) first =
      let bad = leaf_is_bad n first.0 in
      record { row = bad.row; there = bad.there; named = bad.named; passes = bad.passes; first = λ s i h. first.1 s.name (bad_is_leaf s i h) }

  -- the first volume that is astray or a visible parent is what the check names
  pub trees_at : (x : Outline) (a o : Option Name) → x.table ≡ t → HasLinks xs x → HasChildren xs x → a ≡ first_name (λ r. is_tree_astray t xs r r.name) t.volumes
      → IsFirstName (IsLeafParent t xs) o → placed at.Tree (lesser a o) ≡ tree_fault x
  unfolding first_name
  trees_at x a o is links counted found first =
      ap (λ b. placed at.Tree (lesser b o)) found
      ∙ ap (placed at.Tree) (sym (first_either (λ r. is_tree_astray t xs r r.name) (λ r. is_bad_parent xs r r.name) t.volumes rising o (first_bad o first)))
      ∙ sym (ap (λ q. placed at.Tree (name_in q)) (find_same (λ r. tree_wrong_in t xs r r.name) (λ r. is_tree_astray t xs r r.name || is_bad_parent xs r r.name) t.volumes (λ r i. wrong_either t xs r r.name)))
      ∙ sym (ap (λ u. placed at.Tree (name_in (find (λ r. tree_wrong_in u xs r r.name) u.volumes))) is)
      ∙ sym (tree_seen xs x links counted)
