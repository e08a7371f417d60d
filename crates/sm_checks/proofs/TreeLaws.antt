-- The check of trees: what it says by the images in memory, and that where it passes each parent is in memory, and each chain
-- ends.
use Rattle.std.proofs.Common.{◌≡◌, inl, inr, ℕ, zero, suc, ◌≤◌, Bool, true, false, cond, not, ◌&&◌, ◌||◌, ◌==◌, List, [], ◌∷◌, length, map, filter, Option, Some, None, refl, sym, ap, ap₂, ◌∙◌, subst, arith, nat_le}
use Rattle.std.specs.List.{cons_option, filter_map}
use Rattle.std.proofs.lemmas.Bool.{true≢false, leb-true}
use Rattle.std.proofs.lemmas.Option.{same_Some}
use Rattle.common_laws.proofs.Booleans.{not_false}
use Rattle.sm_base.specs.declared.faults.Place.TheVariants as at
use Rattle.sm_base.specs.declared.names.Name.{Name}
use Rattle.sm_base.specs.declared.names.Name.TheVariants.{Mgt, Vhd, Raw, Old, Cbt, Clone, Inflate, Coalesce, Relink, Leaf}
use Rattle.vg_meta.specs.Tables.{Row, name_eq}
use Rattle.common_laws.specs.Lists.{In}
use Rattle.common_laws.proofs.Lists.{In-map}
use Rattle.sm_machine.specs.Shapes.{ImageRow, parent_of, same_image, chain_limit}
use Rattle.sm_machine.specs.WellFormed.{EndsWithin}
use Rattle.sm_machine.proofs.Chains.{parent_of-some}
use Rattle.vhd_image.specs.Bodies.{parent_name, sector_count}
use Rattle.vhd_image.specs.declared.images.Body.{Body}
use Rattle.vhd_chain.specs.Trees.{chain_length as chain_in, children as children_in, is_child_of, row_name, tree_row}
use Rattle.vhd_chain.specs.declared.rows.TreeRow.{TreeRow}
use Rattle.sm_standing.specs.Checks.{chain_length, children, first_name, is_linked, is_misplaced, is_no_larger, is_parent_right, is_tree_wrong, name_in, parent_is, placed, tree_fault, tree_wrong_as}
use Rattle.sm_standing.specs.Entries.{is_hidden}
use Rattle.sm_standing.specs.Outlines.{Link, Outline}
use Rattle.sm_ready.specs.Known.{machine_row}
use Rattle.sm_ready.specs.Outlined.{link_in}
use Rattle.sm_checks.specs.Faults.{HasChildren, HasLinks, is_linked_in, is_misplaced_in, is_parent_right_in, tree_wrong_in}
use Rattle.sm_checks.proofs.CheckLaws.{find_same}

-- ---- by memory

module _ (xs : List TreeRow) (x : Outline) (links : HasLinks xs x) where
  -- a chain is as long
  chain_seen : (k : ℕ) (n : Name) → chain_in xs k n ≡ chain_length x k n
  unfolding chain_in chain_length
  chain_seen zero n = refl
  chain_seen (suc k) n = by (tree_row xs n) refl (λ p. chain_seen k p)
    where
      below : Option Name → ℕ
      below o = elim o as (λ _. ℕ) [ None ↦ 0 | Some p ↦ chain_in xs k p ]

      beneath : Option Name → ℕ
      beneath o = elim o as (λ _. ℕ) [ None ↦ 0 | Some p ↦ chain_length x k p ]

      up : (o : Option Name) → ((p : Name) → chain_in xs k p ≡ chain_length x k p) → below o ≡ beneath o
      up None rest = refl
      up (Some p) rest = rest p

      in_rows : Option TreeRow → ℕ
      in_rows o = elim o as (λ _. ℕ) [ None ↦ 0 | Some r ↦ suc (below (parent_name r.image)) ]

      in_links : Option Link → ℕ
      in_links o = elim o as (λ _. ℕ) [ None ↦ 0 | Some i ↦ suc (beneath i.parent) ]

      by : (o : Option TreeRow) → tree_row xs n ≡ o → ((p : Name) → chain_in xs k p ≡ chain_length x k p) → in_rows (tree_row xs n) ≡ in_links (x.links n)
      by None is rest = ap in_rows is ∙ sym (ap in_links (links n ∙ ap link_in is))
      by (Some y) is rest = ap in_rows is ∙ ap suc (up (parent_name y.image) rest) ∙ sym (ap in_links (links n ∙ ap link_in is))

  -- an image is linked as rightly
  linked_seen : (image : Body) → is_linked_in x.table xs image ≡ is_linked x (record { size = sector_count image; parent = parent_name image })
  linked_seen image = by (parent_name image)
    where
      by : (o : Option Name) → elim o as (λ _. Bool) [ None ↦ true | Some p ↦ is_parent_right_in x.table xs (sector_count image) p ] ≡ elim o as (λ _. Bool) [ None ↦ true | Some p ↦ is_parent_right x (sector_count image) p ]
      by None = refl
      by (Some p) = ap (λ l. is_hidden x.table p && is_no_larger (sector_count image) l) (sym (links p))

  -- and stands as rightly
  module _ (counted : HasChildren xs x) where
    misplaced_seen : (r : Row) (u : List ℕ) → r.name ≡ Vhd u → (o : Option TreeRow) → is_misplaced_in x.table xs r o ≡ is_misplaced x r (link_in o)
    misplaced_seen r u named None = refl
    misplaced_seen r u named (Some y) =
        let childless = ap (λ n. length (children_in xs n)) named ∙ sym (counted.vhd u) ∙ ap (λ n. length (children x n)) (sym named) in
        let short = ap₂ (λ k n. nat_le k 30 && (r.hidden || (n == 0))) (chain_seen 31 r.name) childless in
        ap₂ (λ a b. not (a && b)) (linked_seen y.image) short

    wrong_seen : (r : Row) (n : Name) → r.name ≡ n → tree_wrong_in x.table xs r n ≡ tree_wrong_as x r n
    wrong_seen r (Vhd u) named = misplaced_seen r u named (tree_row xs (Vhd u)) ∙ ap (is_misplaced x r) (sym (links (Vhd u)))
    wrong_seen r Mgt named = refl
    wrong_seen r (Raw u) named = refl
    wrong_seen r (Old u) named = refl
    wrong_seen r (Cbt u) named = refl
    wrong_seen r (Clone d b w) named = refl
    wrong_seen r (Inflate u e) named = refl
    wrong_seen r (Coalesce a p) named = refl
    wrong_seen r (Relink a p) named = refl
    wrong_seen r (Leaf l p) named = refl

-- by memory the check names the same
pub tree_seen : (xs : List TreeRow) (x : Outline) → HasLinks xs x → HasChildren xs x → tree_fault x ≡ placed at.Tree (first_name (λ r. tree_wrong_in x.table xs r r.name) x.table.volumes)
unfolding tree_fault first_name
tree_seen xs x links counted =
    sym (ap (λ q. placed at.Tree (name_in q)) (find_same (λ r. tree_wrong_in x.table xs r r.name) (is_tree_wrong x) x.table.volumes (λ r i. wrong_seen xs x links counted r r.name refl)))

-- ---- children

-- whether a name is that of an image, by either equality
pub named_vhd : (n : Name) (u : List ℕ) → same_image n (Vhd u) ≡ name_eq n (Vhd u)
unfolding same_image name_eq
named_vhd (Vhd v) u = refl
named_vhd Mgt u = refl
named_vhd (Raw v) u = refl
named_vhd (Old v) u = refl
named_vhd (Cbt v) u = refl
named_vhd (Clone d b w) u = refl
named_vhd (Inflate v e) u = refl
named_vhd (Coalesce a p) u = refl
named_vhd (Relink a p) u = refl
named_vhd (Leaf l p) u = refl

pub named_raw : (n : Name) (u : List ℕ) → same_image n (Raw u) ≡ name_eq n (Raw u)
unfolding same_image name_eq
named_raw (Raw v) u = refl
named_raw Mgt u = refl
named_raw (Vhd v) u = refl
named_raw (Old v) u = refl
named_raw (Cbt v) u = refl
named_raw (Clone d b w) u = refl
named_raw (Inflate v e) u = refl
named_raw (Coalesce a p) u = refl
named_raw (Relink a p) u = refl
named_raw (Leaf l p) u = refl

abbrev passes : (TreeRow → Bool) → Option TreeRow → Bool
passes test None = false
passes test (Some y) = test y

-- the row of a volume is a child where the link of its name is
pub child_seen : (p : Name) → ((q : Name) → same_image q p ≡ name_eq q p) → (o : Option TreeRow) (f : TreeRow → TreeRow) → ((y : TreeRow) → (f y).image ≡ y.image)
    → parent_is p (link_in o) ≡ passes (is_child_of p) (elim o as (λ _. Option TreeRow) [ None ↦ None | Some y ↦ Some (f y) ])
child_seen p named None f same = refl
child_seen p named (Some y) f same = by (parent_name y.image) ∙ sym (ap (λ b. elim (parent_name b) as (λ _. Bool) [ None ↦ false | Some q ↦ name_eq q p ]) (same y))
  where
    by : (o : Option Name) → elim o as (λ _. Bool) [ None ↦ false | Some q ↦ same_image q p ] ≡ elim o as (λ _. Bool) [ None ↦ false | Some q ↦ name_eq q p ]
    by None = refl
    by (Some q) = named q

-- as many volumes pass a test as their rows do
pub count_through : (change : Row → Row) (f : Row → Option TreeRow) (test : Row → Bool) (of : TreeRow → Bool) (rs : List Row) → ((r : Row) → In r rs → test r ≡ passes of (f (change r)))
    → length (filter test rs) ≡ length (filter of (filter_map f (map change rs)))
count_through change f test of [] same = refl
count_through change f test of (r ∷ rs) same = by (f (change r)) (same r (inl refl)) (count_through change f test of rs (λ s i. same s (inr i)))
  where
    front : List Row
    front = filter test rs

    behind : List TreeRow
    behind = filter_map f (map change rs)

    step : (b : Bool) (y : TreeRow) → length front ≡ length (filter of behind) → length (cond b (r ∷ front) front) ≡ length (cond b (y ∷ filter of behind) (filter of behind))
    step true y rest = ap suc rest
    step false y rest = rest

    by : (o : Option TreeRow) → test r ≡ passes of o → length front ≡ length (filter of behind) → length (cond (test r) (r ∷ front) front) ≡ length (filter of (cons_option o behind))
    by None is rest = ap (λ b. length (cond b (r ∷ front) front)) is ∙ rest
    by (Some y) is rest = ap (λ b. length (cond b (r ∷ front) front)) is ∙ step (of y) y rest

-- ---- where it passes

pub both_true : (a b : Bool) → (a && b) ≡ true → (a ≡ true) × (b ≡ true)
both_true true true h = (refl, refl)
both_true true false h = absurd (true≢false (sym h))
both_true false b h = absurd (true≢false (sym h))

-- an image that stands as it should has its parent in memory, and a short chain
pub record StandsRight (x : Outline) (n : Name) (l : Link) : Type 0 where
  pub linked : is_linked x l ≡ true
  pub short : chain_length x (suc chain_limit) n ≤ chain_limit

pub stands_right : (x : Outline) (r : Row) (u : List ℕ) (l : Link) → x.links (Vhd u) ≡ Some l → r.name ≡ Vhd u → is_tree_wrong x r ≡ false → StandsRight x (Vhd u) l
stands_right x r u l is named right =
    let right_as : is_misplaced x r (Some l) ≡ false = sym (ap (tree_wrong_as x r) named ∙ ap (is_misplaced x r) is) ∙ right in
    let all = both_true (is_linked x l) (nat_le (chain_length x 31 r.name) 30 && (r.hidden || (length (children x r.name) == 0))) (not_false _ right_as) in
    let short = both_true (nat_le (chain_length x 31 r.name) 30) (r.hidden || (length (children x r.name) == 0)) all.1 in
    record { linked = all.0; short = subst (λ n. chain_length x 31 n ≤ 30) named (leb-true (chain_length x 31 r.name) 30 short.0) }

-- a parent that is there in memory, hidden by the table, and not larger
pub record HasParentIn (xs : List TreeRow) (x : Outline) (size : ℕ) (p : Name) : Type 0 where
  pub row : TreeRow
  pub there : tree_row xs p ≡ Some row
  pub hidden : is_hidden x.table p ≡ true
  pub not_larger : sector_count row.image ≤ size

module _ (xs : List TreeRow) (x : Outline) (links : HasLinks xs x) where
  pub parent_in : (l : Link) (p : Name) → is_linked x l ≡ true → l.parent ≡ Some p → HasParentIn xs x l.size p
  parent_in l p linked is =
      let right : is_parent_right x l.size p ≡ true = sym (ap (λ o. elim o as (λ _. Bool) [ None ↦ true | Some q ↦ is_parent_right x l.size q ]) is) ∙ linked in
      let parts = both_true (is_hidden x.table p) (is_no_larger l.size (x.links p)) right in
      by parts.0 (tree_row xs p) refl (sym (ap (is_no_larger l.size) (links p)) ∙ parts.1)
    where
      by : is_hidden x.table p ≡ true → (o : Option TreeRow) → tree_row xs p ≡ o → is_no_larger l.size (link_in (tree_row xs p)) ≡ true → HasParentIn xs x l.size p
      by hidden None there least = absurd (true≢false (sym least ∙ ap (λ o. is_no_larger l.size (link_in o)) there))
      by hidden (Some y) there least = record {
        row = y;
        there = there;
        hidden = hidden;
        not_larger = leb-true (sector_count y.image) l.size (sym (ap (λ o. is_no_larger l.size (link_in o)) there) ∙ least);
      }

  -- each row is found by its name, and its parent is there
  module _ (found : (y : TreeRow) → In y xs → link_in (tree_row xs (row_name y)) ≡ link_in (Some y)) (up : (y : TreeRow) (p : Name) → In y xs → parent_name y.image ≡ Some p → (z : TreeRow) × (tree_row xs p ≡ Some z)) where
    chain_step : (k : ℕ) (n : Name) (l : Link) → x.links n ≡ Some l → chain_length x (suc k) n ≡ suc (elim l.parent as (λ _. ℕ) [ None ↦ 0 | Some p ↦ chain_length x k p ])
    unfolding chain_length
    chain_step k n l is = ap (λ (o : Option Link). elim o as (λ _. ℕ) [ None ↦ 0 | Some i ↦ suc (elim i.parent as (λ _. ℕ) [ None ↦ 0 | Some p ↦ chain_length x k p ]) ]) is

    -- each chain ends
    pub ends : (k : ℕ) (n : Name) (l : Link) → x.links n ≡ Some l → chain_length x (suc k) n ≤ k → EndsWithin k (Some n) (map machine_row xs)
    ends zero n l is short = absurd (let long = chain_step zero n l is in omega (arith, long, short))
    ends (suc k) n l is short = by (parent_of n (map machine_row xs)) refl (λ p i at. ends k p i at)
      where
        by : (o : Option Name) → parent_of n (map machine_row xs) ≡ o → ((p : Name) (i : Link) → x.links p ≡ Some i → chain_length x (suc k) p ≤ k → EndsWithin k (Some p) (map machine_row xs)) → EndsWithin k (parent_of n (map machine_row xs)) (map machine_row xs)
        by None over rest = subst (λ o. EndsWithin k o (map machine_row xs)) (sym over) (ends_none k)
          where
            ends_none : (k : ℕ) → EndsWithin k None (map machine_row xs)
            ends_none zero = tt
            ends_none (suc k) = tt
        by (Some p) over rest =
            let i = parent_of-some (map machine_row xs) n p over in
            let y = In-map machine_row xs i.0 i.1 in
            let named : row_name y.0 ≡ n = sym (ap (λ (z : ImageRow). z.name) y.2) ∙ i.2 in
            let linked : parent_name y.0.image ≡ Some p = sym (ap (λ (z : ImageRow). z.parent) y.2) ∙ i.3 in
            let same : l.parent ≡ Some p = ap (λ (j : Link). j.parent) (same_Some l _ (sym is ∙ links n ∙ ap (λ m. link_in (tree_row xs m)) (sym named) ∙ found y.0 y.1)) ∙ linked in
            let z = up y.0 p y.1 linked in
            let long = chain_step (suc k) n l is ∙ ap (λ o. suc (elim o as (λ _. ℕ) [ None ↦ 0 | Some q ↦ chain_length x (suc k) q ])) same in
            subst (λ o. EndsWithin k o (map machine_row xs)) (sym over) (rest p _ (links p ∙ ap link_in z.1) (omega (arith, long, short)))
