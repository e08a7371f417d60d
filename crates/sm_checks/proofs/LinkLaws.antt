-- The check of the entries by parents and children: what it says by the images in memory.
use Rattle.std.proofs.Common.{◌≡◌, ◌⊎◌, arith, inl, inr, ⊎_elim, ℕ, zero, suc, ◌+◌, ◌==◌, Bool, true, false, cond, not, ◌&&◌, ◌||◌, List, [], ◌∷◌, ◌++◌, length, filter, Option, Some, None, refl, sym, ap, ap₂, ◌∙◌, nat_le}
use Rattle.std.specs.List.{find, list_any}
use Rattle.std.proofs.lemmas.Bool.{and_parts, le-leb, ne_eqb, true≢false}
use Rattle.std.proofs.lemmas.List.{length-append}
use Rattle.sm_base.specs.declared.faults.Place.{Place}
use Rattle.sm_base.specs.declared.faults.Place.TheVariants as at
use Rattle.sm_base.specs.declared.names.Name.{Name}
use Rattle.sm_base.specs.declared.names.Name.TheVariants.{Mgt, Vhd, Raw, Old, Cbt, Clone, Inflate, Coalesce, Relink, Leaf}
use Rattle.vg_meta.specs.Roomy.{RoomyRow, RoomyTable, table_alone}
use Rattle.vg_meta.specs.Tables.{Row}
use Rattle.common_laws.specs.Lists.{In, ◌>>=◌}
use Rattle.common_laws.proofs.Booleans.{or_cases}
use Rattle.common_laws.proofs.Lists.{In-append, In-filter, In-left, filter-In}
use Rattle.sm_machine.specs.Shapes.{same_image}
use Rattle.sm_machine.proofs.Changes.{list_any-some}
use Rattle.vhd_image.specs.Bodies.{parent_name, sector_count}
use Rattle.vhd_chain.specs.Trees.{children as children_in, parent_of, row_name, tree_row}
use Rattle.vhd_chain.specs.declared.rows.TreeRow.{TreeRow}
use Rattle.sm_standing.specs.Checks.{children, children_with, entry_link_fault, first_name, has_such_parent, has_uuid, is_base_of, is_entry_linked, is_leaf_linked, name_in, of_image, parent_is, placed}
use Rattle.sm_standing.specs.Entries.{is_fork_made, is_leaf_copied, is_leaf_renamed, is_leaf_swapped}
use Rattle.sm_standing.specs.Outlines.{Link, Outline}
use Rattle.sm_ready.specs.Outlined.{link_in}
use Rattle.sm_ready.proofs.Orders.{In-tree_row}
use Rattle.sm_checks.specs.Faults.{HasChildren, HasLinks, HasVolumes, has_one_child, has_parent_in, is_as_large_in, is_copy_in, is_fork_linked_in, is_leaf_linked_in, is_link_in, is_new_over, is_other_child, is_over, is_parent_named, is_unlinked_in}
use Rattle.sm_checks.proofs.CheckLaws.{find_same, first_at, held_name}
use Rattle.sm_checks.proofs.TableLaws.{own_name}
use Rattle.sm_checks.proofs.TreeLaws.{named_vhd}

In-right : {A : Type 0} (xs ys : List A) (x : A) → In x ys → In x (xs ++ ys)
In-right [] ys x i = i
In-right (y ∷ xs) ys x i = inr (In-right xs ys x i)

-- a list of which an element is known
pub not_empty : {A : Type 0} (xs : List A) (x : A) → In x xs → (length xs == 0) ≡ false
not_empty [] x i = absurd i
not_empty {A} (y ∷ xs) x i = ne_eqb (length (y ∷ xs)) 0 (λ e. absurd (omega (arith, e)))

empty : {A : Type 0} (xs : List A) → ((x : A) → In x xs → ⊥) → (length xs == 0) ≡ true
empty [] none = refl
empty (x ∷ xs) none = absurd (none x (inl refl))

pub any_some : {A : Type 0} (test : A → Bool) (xs : List A) → list_any test xs ≡ true → (x : A) × In x xs × (test x ≡ true)
any_some test [] is = absurd (true≢false (sym is))
any_some {A} test (x ∷ xs) is = by (test x) refl is (λ later. any_some test xs later)
  where
    by : (b : Bool) → test x ≡ b → (b || list_any test xs) ≡ true → (list_any test xs ≡ true → (y : A) × In y xs × (test y ≡ true)) → (y : A) × In y (x ∷ xs) × (test y ≡ true)
    by true at is rest = (x, inl refl, at)
    by false at is rest = let w = rest is in (w.0, inr w.1, w.2)

-- by either order of its names
turned : (u : List ℕ) (n : Name) → same_image n (Vhd u) ≡ same_image (Vhd u) n
turned u n = named_vhd n u ∙ sym (own_name u n)

module _ (xs : List TreeRow) (x : Outline) (links : HasLinks xs x) (seen : HasVolumes xs x) where
  new_seen : (b u : List ℕ) → is_new_over xs b u ≡ is_base_of b (x.links (Vhd u))
  new_seen b u = by (tree_row xs (Vhd u)) ∙ sym (ap (is_base_of b) (links (Vhd u)))
    where
      by : (o : Option TreeRow) → elim o as (λ _. Bool) [ None ↦ true | Some y ↦ is_over b y.image ] ≡ is_base_of b (link_in o)
      by None = refl
      by (Some y) = refl

  module _ (d b w : List ℕ) where
    abbrev other : Row → Bool
    other r = not (same_image r.name (Vhd d) || same_image r.name (Vhd w))

    -- a child by either name of the base
    over_either : (o : Option Name) → elim o as (λ _. Bool) [ None ↦ false | Some q ↦ has_uuid b q ] ≡ true
        → (elim o as (λ _. Bool) [ None ↦ false | Some q ↦ same_image q (Vhd b) ] ≡ true) ⊎ (elim o as (λ _. Bool) [ None ↦ false | Some q ↦ same_image q (Raw b) ] ≡ true)
    over_either None is = absurd (true≢false (sym is))
    over_either (Some q) is = or_cases (same_image q (Vhd b)) (same_image q (Raw b)) is

    over_by : (o : Option Name) → (elim o as (λ _. Bool) [ None ↦ false | Some q ↦ same_image q (Vhd b) ] ≡ true) ⊎ (elim o as (λ _. Bool) [ None ↦ false | Some q ↦ same_image q (Raw b) ] ≡ true)
        → elim o as (λ _. Bool) [ None ↦ false | Some q ↦ has_uuid b q ] ≡ true
    over_by None (inl is) = is
    over_by None (inr is) = is
    over_by (Some q) (inl is) = ap (λ c. c || same_image q (Raw b)) is
    over_by (Some q) (inr is) = by (same_image q (Vhd b))
      where
        by : (c : Bool) → (c || same_image q (Raw b)) ≡ true
        by true = refl
        by false = is

    other_of : (n : Name) → (not (same_image (Vhd d) n) && not (same_image (Vhd w) n)) ≡ not (same_image n (Vhd d) || same_image n (Vhd w))
    other_of n = by (same_image (Vhd d) n) (same_image (Vhd w) n) ∙ sym (ap₂ (λ p q. not (p || q)) (turned d n) (turned w n))
      where
        by : (p q : Bool) → (not p && not q) ≡ not (p || q)
        by true q = refl
        by false q = refl

    abbrev ours : List Row
    ours = children_with x b

    -- a volume of another image that has the base as parent
    found : (r : Row) → In r ours → other r ≡ true → (y : TreeRow) × In y xs × (is_other_child d b w y ≡ true)
    unfolding children
    found r i apart = by (tree_row xs r.name) refl
      where
        linked : (In r x.table.volumes) × ((parent_is (Vhd b) (x.links r.name) ≡ true) ⊎ (parent_is (Raw b) (x.links r.name) ≡ true))
        linked = ⊎_elim (λ j. let v = In-filter (λ (q : Row). parent_is (Vhd b) (x.links q.name)) x.table.volumes r j in (v.0, inl v.1))
            (λ j. let v = In-filter (λ (q : Row). parent_is (Raw b) (x.links q.name)) x.table.volumes r j in (v.0, inr v.1))
            (In-append (children x (Vhd b)) (children x (Raw b)) r i)

        by : (o : Option TreeRow) → tree_row xs r.name ≡ o → (y : TreeRow) × In y xs × (is_other_child d b w y ≡ true)
        by None is =
            let none = links r.name ∙ ap link_in is in
            absurd (⊎_elim (λ e. true≢false (sym e ∙ ap (parent_is (Vhd b)) none)) (λ e. true≢false (sym e ∙ ap (parent_is (Raw b)) none)) linked.1)
        by (Some y) is =
            let v = In-tree_row xs r.name y is in
            let there = links r.name ∙ ap link_in is in
            let over = over_by (parent_name y.image) (⊎_elim (λ e. inl (sym (ap (parent_is (Vhd b)) there) ∙ e)) (λ e. inr (sym (ap (parent_is (Raw b)) there) ∙ e)) linked.1) in
            (y, v.0, ap₂ (λ p q. p && q) over (other_of (row_name y) ∙ ap (λ n. not (same_image n (Vhd d) || same_image n (Vhd w))) v.1 ∙ apart))

    listed : (y : TreeRow) → In y xs → is_other_child d b w y ≡ true → (r : Row) × In r (filter other ours)
    unfolding children
    listed y i is =
        let r = seen y i in
        let parts = and_parts (is_over b y.image) (not (same_image (Vhd d) (row_name y)) && not (same_image (Vhd w) (row_name y))) is in
        let there : x.links r.0.name ≡ link_in (Some y) = links r.0.name ∙ ap (λ n. link_in (tree_row xs n)) r.2 ∙ r.3 in
        let apart : other r.0 ≡ true = ap (λ n. not (same_image n (Vhd d) || same_image n (Vhd w))) r.2 ∙ sym (other_of (row_name y)) ∙ parts.1 in (
          r.0,
          filter-In other ours r.0 (⊎_elim
              (λ e. In-left (children x (Vhd b)) (children x (Raw b)) r.0 (filter-In (λ (q : Row). parent_is (Vhd b) (x.links q.name)) x.table.volumes r.0 r.1 (ap (parent_is (Vhd b)) there ∙ e)))
              (λ e. In-right (children x (Vhd b)) (children x (Raw b)) r.0 (filter-In (λ (q : Row). parent_is (Raw b) (x.links q.name)) x.table.volumes r.0 r.1 (ap (parent_is (Raw b)) there ∙ e)))
              (over_either (parent_name y.image) parts.0)) apart,
        )

    others_seen : (length (filter other ours) == 0) ≡ not (list_any (is_other_child d b w) xs)
    others_seen = by (list_any (is_other_child d b w) xs) refl
      where
        by : (c : Bool) → list_any (is_other_child d b w) xs ≡ c → (length (filter other ours) == 0) ≡ not c
        by true is = let y = any_some (is_other_child d b w) xs is in let r = listed y.0 y.1 y.2 in not_empty (filter other ours) r.0 r.1
        by false is = empty (filter other ours) (λ r i.
            let v = In-filter other ours r i in
            let y = found r v.0 v.1 in
            true≢false (sym (list_any-some (is_other_child d b w) xs y.0 y.1 y.2) ∙ is))

    fork_seen : is_fork_linked_in xs d b w ≡ (is_base_of b (x.links (Vhd d)) && (is_base_of b (x.links (Vhd w)) && (length (filter other ours) == 0)))
    fork_seen = ap₂ (λ p q. p && q) (new_seen b d) (ap₂ (λ p q. p && q) (new_seen b w) (sym others_seen))

  -- ---- a copy or a link

  -- a parent of this UUID is there
  parent_seen : (p : List ℕ) (size : ℕ) (o : Option Name) → elim o as (λ _. Bool) [ None ↦ false | Some q ↦ has_uuid p q && is_as_large_in xs (nat_le size) q ]
      ≡ has_such_parent x p (λ (l : Link). nat_le size l.size) o
  parent_seen p size None = refl
  parent_seen p size (Some q) = ap (λ b. has_uuid p q && b) (large (tree_row xs q) ∙ sym (ap (of_image (λ (l : Link). nat_le size l.size)) (links q)))
    where
      large : (o : Option TreeRow) → elim o as (λ _. Bool) [ None ↦ false | Some y ↦ nat_le size (sector_count y.image) ] ≡ of_image (λ (l : Link). nat_le size l.size) (link_in o)
      large None = refl
      large (Some y) = refl

  pub link_seen : (c p : List ℕ) → is_link_in xs c p ≡ is_entry_linked x (Relink c p)
  unfolding is_entry_linked
  link_seen c p = by (tree_row xs (Vhd c)) ∙ sym (ap (of_image (λ v. has_such_parent x p (λ (l : Link). nat_le v.size l.size) v.parent)) (links (Vhd c)))
    where
      by : (o : Option TreeRow) → elim o as (λ _. Bool) [ None ↦ false | Some y ↦ has_parent_in xs p (nat_le (sector_count y.image)) y.image ]
          ≡ of_image (λ v. has_such_parent x p (λ (l : Link). nat_le v.size l.size) v.parent) (link_in o)
      by None = refl
      by (Some y) = parent_seen p (sector_count y.image) (parent_name y.image)

  module _ (counted : HasChildren xs x) where
    one_child : (p : List ℕ) → has_one_child xs p ≡ (length (children_with x p) == 1)
    one_child p =
        by (length (children_in xs (Vhd p))) (length (children_in xs (Raw p)))
        ∙ ap (λ n. n == 1) (ap₂ (λ m n. m + n) (sym (counted.vhd p)) (sym (counted.raw p)) ∙ sym (length-append (children x (Vhd p)) (children x (Raw p))))
      where
        by : (m n : ℕ) → (((m == 1) && (n == 0)) || ((m == 0) && (n == 1))) ≡ (m + n == 1)
        by zero zero = refl
        by zero (suc zero) = refl
        by zero (suc (suc n)) = let e : suc (suc n) ≡ 0 + suc (suc n) = omega arith in ap (λ k. k == 1) e
        by (suc zero) zero = refl
        by (suc zero) (suc n) = ap (λ b. b || false) (ne_eqb (suc n) 0 (λ e. absurd (omega (arith, e)))) ∙ sym (ne_eqb (1 + suc n) 1 (λ e. absurd (omega (arith, e))))
        by (suc (suc m)) n =
            ap₂ (λ a b. (a && (n == 0)) || (b && (n == 1))) (ne_eqb (suc (suc m)) 1 (λ e. absurd (omega (arith, e)))) (ne_eqb (suc (suc m)) 0 (λ e. absurd (omega (arith, e))))
            ∙ sym (ne_eqb (suc (suc m) + n) 1 (λ e. absurd (omega (arith, e))))

    copy_seen : (c p : List ℕ) → is_copy_in xs c p ≡ is_entry_linked x (Coalesce c p)
    unfolding is_entry_linked
    copy_seen c p = by (tree_row xs (Vhd c)) ∙ sym (ap (λ o. of_image (λ v. has_such_parent x p (λ (l : Link). true) v.parent) o && (length (children_with x p) == 1)) (links (Vhd c)))
      where
        any : (o : Option Link) → of_image (λ (l : Link). nat_le 0 l.size) o ≡ of_image (λ (l : Link). true) o
        any None = refl
        any (Some l) = le-leb 0 l.size (omega arith)

        any_size : (o : Option Name) → has_such_parent x p (λ (l : Link). nat_le 0 l.size) o ≡ has_such_parent x p (λ (l : Link). true) o
        any_size None = refl
        any_size (Some q) = ap (λ b. has_uuid p q && b) (any (x.links q))

        by : (o : Option TreeRow) → elim o as (λ _. Bool) [ None ↦ false | Some y ↦ has_parent_in xs p (nat_le 0) y.image && has_one_child xs p ]
            ≡ (of_image (λ v. has_such_parent x p (λ (l : Link). true) v.parent) (link_in o) && (length (children_with x p) == 1))
        by None = refl
        by (Some y) = ap₂ (λ a b. a && b) (parent_seen p 0 (parent_name y.image) ∙ any_size (parent_name y.image)) (one_child p)

    -- ---- the folding of a leaf

    -- the parent is seen
    above_seen : (l p : List ℕ) → is_parent_named (Vhd p) (parent_of xs (Vhd l)) ≡ parent_is (Vhd p) (x.links (Vhd l))
    above_seen l p = by (tree_row xs (Vhd l)) ∙ sym (ap (parent_is (Vhd p)) (links (Vhd l)))
      where
        named : (o : Option Name) → is_parent_named (Vhd p) o ≡ elim o as (λ _. Bool) [ None ↦ false | Some q ↦ same_image q (Vhd p) ]
        named None = refl
        named (Some q) = refl

        by : (o : Option TreeRow) → is_parent_named (Vhd p) (o >>= (λ (y : TreeRow). parent_name y.image)) ≡ parent_is (Vhd p) (link_in o)
        by None = refl
        by (Some y) = named (parent_name y.image)

    leaf_seen : (l p : List ℕ) → is_leaf_linked_in x.table xs l p ≡ is_leaf_linked x l p
    leaf_seen l p =
        ap₂ (λ a n. cond (is_leaf_copied x.table l p) (a && (n == 1)) (cond (is_leaf_renamed x.table l p) (n == 0) (cond (is_leaf_swapped x.table l p) (length (children_in xs (Vhd l)) == 0) true)))
        (above_seen l p) (sym (counted.vhd p))
        ∙ ap (λ n. cond (is_leaf_copied x.table l p) (parent_is (Vhd p) (x.links (Vhd l)) && (length (children x (Vhd p)) == 1))
        (cond (is_leaf_renamed x.table l p) (length (children x (Vhd p)) == 0) (cond (is_leaf_swapped x.table l p) (n == 0) true))) (sym (counted.vhd l))

  pub unlinked_seen : HasChildren xs x → (n : Name) → is_unlinked_in x.table xs n ≡ not (is_entry_linked x n)
  unfolding is_entry_linked
  unlinked_seen counted (Clone d b w) = by (is_fork_made x.table d b w) (is_fork_linked_in xs d b w) ∙ ap (λ p. not (not (is_fork_made x.table d b w) || p)) (fork_seen d b w)
    where
      by : (p q : Bool) → (p && not q) ≡ not (not p || q)
      by true q = refl
      by false q = refl
  unlinked_seen counted Mgt = refl
  unlinked_seen counted (Vhd u) = refl
  unlinked_seen counted (Raw u) = refl
  unlinked_seen counted (Old u) = refl
  unlinked_seen counted (Cbt u) = refl
  unlinked_seen counted (Inflate u e) = refl
  unlinked_seen counted (Coalesce c p) = ap not (copy_seen counted c p)
  unlinked_seen counted (Relink c p) = ap not (link_seen c p)
  unlinked_seen counted (Leaf l p) = ap not (leaf_seen counted l p)

-- what is found among the volumes is what the check names
pub links_at : (k : RoomyTable) (xs : List TreeRow) (x : Outline) {hs : List RoomyRow} {o : Option RoomyRow} {answer : Option Place}
    → x.table ≡ table_alone k → HasLinks xs x → HasVolumes xs x → HasChildren xs x → hs ≡ k.rows → o ≡ find (λ h. is_unlinked_in (table_alone k) xs h.row.name) hs → answer ≡ placed at.Journal (held_name o) → answer ≡ entry_link_fault x
unfolding entry_link_fault first_name
links_at k xs x is links seen counted held found said =
    first_at at.Journal (λ t r. is_unlinked_in t xs r.name) k is held found said
    ∙ ap (λ q. placed at.Journal (name_in q)) (find_same (λ r. is_unlinked_in x.table xs r.name) (λ r. not (is_entry_linked x r.name)) x.table.volumes
    (λ r i. unlinked_seen xs x links seen counted r.name))
