-- The rows of memory, once the volume of one image has other extents.
use Rattle.std.proofs.Common.{◌≡◌, ◌≢◌, ◌⊎◌, inl, inr, ℕ, Bool, true, false, not, cond, ◌||◌, List, [], ◌∷◌, map, Option, Some, refl, sym, ap, ap₂, ◌∙◌, subst}
use Rattle.std.specs.List.Sorted.{IsStrictlySortedBy}
use Rattle.std.specs.Ordering.{is_lt, ordering_reverse}
use Rattle.std.specs.declared.cmp.Ordering.TheVariants.{Less}
use Rattle.sm_base.specs.Names.{name_cmp}
use Rattle.sm_base.proofs.OrderLemmas.{name_cmp_total}
use Rattle.sm_ready.proofs.Orders.{In-tree_row}
use Rattle.sm_ready.proofs.RowLaws.{All-In}
use Rattle.std.proofs.lemmas.Option.{none-some, same_Some}
use Rattle.common_laws.specs.Lists.{In, insert_by, when}
use Rattle.common_laws.proofs.Lists.{In-map, In-map_at}
use Rattle.sm_base.specs.declared.names.Name.{Name}
use Rattle.sm_base.specs.declared.names.Name.TheVariants.{Mgt, Vhd, Raw, Old, Cbt, Clone, Inflate, Coalesce, Relink, Leaf}
use Rattle.vg_meta.specs.Tables.{name_eq}
use Rattle.vg_meta.proofs.NameLaws.{name_eq-other, name_eq-true, name_eq-false}
use Rattle.vhd_chain.specs.Trees.{has_name, is_before, row_name, tree_row, with_row, without}
use Rattle.vhd_chain.specs.declared.rows.TreeRow.{TreeRow}
use Rattle.vhd_chain.proofs.OrderLaws.{IsRising, others_behind, without_none}
use Rattle.vhd_chain.proofs.PlaceLaws.{AreOthers}
use Rattle.sm_machine.specs.Shapes.{is_image, is_image_of, on_image, same_image}
use Rattle.sm_machine.proofs.Listed.{map-change}
use Rattle.sm_ready.specs.Known.{is_shown, machine_row, shown_places}
use Rattle.sm_ready.proofs.ShapeLaws.{shown_same}
use Rattle.sm_record.specs.declared.records.Record.{Record}
use Rattle.sm_space.specs.Inflating.{with_extents}

-- a row with so many extents
abbrev pub sized : ℕ → TreeRow → TreeRow
sized to r = record r { extents = to }

module _ (n : Name) (to : ℕ) where
  abbrev turned : TreeRow → TreeRow
  turned r = when (has_name n r) (sized to) r

  turned_name : (r : TreeRow) → row_name (turned r) ≡ row_name r
  turned_name r = by (has_name n r)
    where
      by : (b : Bool) → row_name (when b (sized to) r) ≡ row_name r
      by true = refl
      by false = refl

  -- a row behind it is one from before of another name, or one of this name with so many extents
  pub record IsTurned (rs : List TreeRow) (r : TreeRow) : Type 0 where
    pub row : TreeRow
    pub there : In row rs
    pub how : ((row_name row ≢ n) × (r ≡ row)) ⊎ ((row_name row ≡ n) × (r ≡ sized to row))

  pub In-turned : (rs : List TreeRow) (r : TreeRow) → In r (with_extents n to rs) → IsTurned rs r
  In-turned rs r i = let w = In-map turned rs r i in by w.0 w.1 (has_name n w.0) refl w.2
    where
      by : (x : TreeRow) → In x rs → (b : Bool) → has_name n x ≡ b → r ≡ when b (sized to) x → IsTurned rs r
      by x there true is same = record { row = x; there = there; how = inr (name_eq-true (row_name x) n is, same) }
      by x there false is same = record { row = x; there = there; how = inl (name_eq-false (row_name x) n is, same) }

  -- it is found by its name, and each other one as before
  pub turned_other : (rs : List TreeRow) (x : Name) → x ≢ n → tree_row (with_extents n to rs) x ≡ tree_row rs x
  unfolding tree_row
  turned_other [] x other = refl
  turned_other (r ∷ rs) x other = by (has_name n r) refl (turned_other rs x other)
    where
      by : (b : Bool) → has_name n r ≡ b → tree_row (with_extents n to rs) x ≡ tree_row rs x → tree_row (when b (sized to) r ∷ with_extents n to rs) x ≡ tree_row (r ∷ rs) x
      by true is rest =
          let away : name_eq (row_name r) x ≡ false = name_eq-other (row_name r) x (λ same. other (sym same ∙ name_eq-true (row_name r) n is)) in
          ap (λ b. cond b (Some (sized to r)) (tree_row (with_extents n to rs) x)) away ∙ rest ∙ sym (ap (λ b. cond b (Some r) (tree_row rs x)) away)
      by false is rest = ap (λ o. cond (name_eq (row_name r) x) (Some r) o) rest

  pub turned_same : (rs : List TreeRow) (r : TreeRow) → tree_row rs n ≡ Some r → tree_row (with_extents n to rs) n ≡ Some (sized to r)
  unfolding tree_row
  turned_same [] r found = absurd (none-some r found)
  turned_same (x ∷ rs) r found = by (has_name n x) refl (λ f. turned_same rs r f) found
    where
      by : (b : Bool) → has_name n x ≡ b → (tree_row rs n ≡ Some r → tree_row (with_extents n to rs) n ≡ Some (sized to r)) → cond b (Some x) (tree_row rs n) ≡ Some r
          → tree_row (when b (sized to) x ∷ with_extents n to rs) n ≡ Some (sized to r)
      by true is rest f = ap (λ b. cond b (Some (sized to x)) (tree_row (with_extents n to rs) n)) is ∙ ap (λ y. Some (sized to y)) (same_Some x r f)
      by false is rest f = ap (λ b. cond b (Some x) (tree_row (with_extents n to rs) n)) is ∙ rest f

  -- the same images are visible
  pub shown_turned : (u : List ℕ) (rs : List TreeRow) → is_shown (with_extents n to rs) u ≡ is_shown rs u
  shown_turned u [] = refl
  shown_turned u (r ∷ rs) = ap₂ (λ a b. a || b) (by (has_name n r)) (shown_turned u rs)
    where
      by : (b : Bool) → is_image_of u (machine_row (when b (sized to) r)) ≡ is_image_of u (machine_row r)
      by true = refl
      by false = refl

  pub places_turned : (rs : List TreeRow) (places : List (Option Record)) → shown_places (with_extents n to rs) places ≡ shown_places rs places
  places_turned rs places = shown_same (with_extents n to rs) rs places (λ u. shown_turned u rs)

  -- ---- taken out, changed and put in again

  least_first : (r : TreeRow) (rs : List TreeRow) → IsRising (r ∷ rs) → with_row r rs ≡ r ∷ rs
  unfolding insert_by IsStrictlySortedBy
  least_first r [] rising = refl
  least_first r (s ∷ rs) rising = ap (λ b. cond b (r ∷ s ∷ rs) (s ∷ insert_by is_before r rs)) (ap is_lt rising.0.0)

  none_turned : (rs : List TreeRow) → AreOthers n rs → with_extents n to rs ≡ rs
  none_turned [] others = refl
  none_turned (r ∷ rs) others = ap₂ (λ x xs. x ∷ xs) (ap (λ b. when b (sized to) r) others.0) (none_turned rs others.1)

  pub put_back : (rs : List TreeRow) (r : TreeRow) → IsRising rs → tree_row rs n ≡ Some r → with_row (sized to r) (without n rs) ≡ with_extents n to rs
  unfolding tree_row IsStrictlySortedBy insert_by
  put_back [] r rising found = absurd (none-some r found)
  put_back (x ∷ rs) r rising found = by (has_name n x) refl (λ f. put_back rs r rising.1 f) found
    where
      by : (b : Bool) → has_name n x ≡ b → (tree_row rs n ≡ Some r → with_row (sized to r) (without n rs) ≡ with_extents n to rs) → cond b (Some x) (tree_row rs n) ≡ Some r
          → with_row (sized to r) (cond (not b) (x ∷ without n rs) (without n rs)) ≡ when b (sized to) x ∷ with_extents n to rs
      by true is rest f =
          let others : AreOthers n rs = subst (λ k. AreOthers k rs) (name_eq-true (row_name x) n is) (others_behind rs (row_name x) rising.0) in
          ap (with_row (sized to r)) (without_none rs n others) ∙ ap (λ y. with_row (sized to y) rs) (sym (same_Some x r f)) ∙ least_first (sized to x) rs rising
          ∙ sym (ap (λ l. sized to x ∷ l) (none_turned rs others))
      by false is rest f = ap (λ b. cond b (sized to r ∷ x ∷ without n rs) (x ∷ with_row (sized to r) (without n rs))) (behind f) ∙ ap (λ l. x ∷ l) (rest f)
        where
          behind : tree_row rs n ≡ Some r → is_before (sized to r) x ≡ false
          behind f =
              let less = All-In (λ m. name_cmp (row_name x) m ≡ Less) (map row_name rs) (row_name r) rising.0 (In-map_at row_name rs r (In-tree_row rs n r f).0) in
              ap is_lt (name_cmp_total.antisymm (row_name r) (row_name x) ∙ ap ordering_reverse less)

-- the machine's image is changed alike
image_named : (x : Name) (u : List ℕ) → name_eq x (Vhd u) ≡ same_image x (Vhd u)
unfolding name_eq same_image
image_named Mgt u = refl
image_named (Vhd v) u = refl
image_named (Raw v) u = refl
image_named (Old v) u = refl
image_named (Cbt v) u = refl
image_named (Clone d b t) u = refl
image_named (Inflate v k) u = refl
image_named (Coalesce v p) u = refl
image_named (Relink v p) u = refl
image_named (Leaf v p) u = refl

pub images_turned : (u : List ℕ) (to : ℕ) (rs : List TreeRow) → map machine_row (with_extents (Vhd u) to rs) ≡ on_image (Vhd u) (λ i. record i { extents = to }) (map machine_row rs)
images_turned u to rs = map-change machine_row (has_name (Vhd u)) (is_image (Vhd u)) (sized to) (λ i. record i { extents = to }) (λ r. image_named (row_name r) u) (λ r. refl) rs
