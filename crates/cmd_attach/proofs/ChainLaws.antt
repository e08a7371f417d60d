-- The names of a chain, read off the rows of the tree into a buffer.
use Rattle.std.proofs.Common.{◌≡◌, ◌≢◌, inl, inr, ℕ, zero, suc, ◌+◌, ◌-◌, ◌<◌, Bool, true, false, cond, List, [], ◌∷◌, ◌++◌, map, length, Option, Some, None, refl, sym, ap, ap₂, ◌∙◌, subst, arith}
use Rattle.std.specs.Prelude.{AllPairs, slice_index_or, slice_set, take}
use Rattle.std.proofs.lemmas.List.{append_assoc, append-nil, take_more_set}
use Rattle.std.specs.Option.{option_map}
use Rattle.sm_base.specs.declared.names.Name.{Name}
use Rattle.common_laws.specs.Lists.{◌>>=◌, In, Distinct}
use Rattle.vg_meta.specs.Tables.{name_eq}
use Rattle.vg_meta.proofs.NameLaws.{name_eq-true, name_eq-false}
use Rattle.vhd_image.specs.Bodies.{parent_name}
use Rattle.vhd_chain.specs.declared.rows.TreeRow.{TreeRow}
use Rattle.vhd_chain.specs.Trees.{row_name, tree_row, parent_of as tree_parent}
use Rattle.sm_machine.specs.Shapes.{ImageRow, chain_limit, find_image, parent_of, same_image}
use Rattle.sm_machine.specs.WellFormed.{is_image_name}
use Rattle.sm_machine.proofs.ImageNames.{other_image, same_image-refl}
use Rattle.sm_ready.specs.Known.{machine_row}
use Rattle.sm_ready.proofs.ChainNames.{rest, rest_more, rest_none}
use Rattle.cmd_attach.specs.Attaching.{AreImages}

-- ---- the machine's images are the rows

same_as : (x n : Name) → is_image_name x ≡ true → same_image x n ≡ name_eq x n
same_as x n image = by (name_eq x n) refl
  where
    by : (b : Bool) → name_eq x n ≡ b → same_image x n ≡ b
    by true e = subst (λ y. same_image x y ≡ true) (name_eq-true x n e) (same_image-refl x image)
    by false e = other_image x n (name_eq-false x n e)

row_alike : (rows : List TreeRow) (n : Name) → AreImages rows → find_image n (map machine_row rows) ≡ option_map machine_row (tree_row rows n)
unfolding tree_row
row_alike [] n all = refl
row_alike (r ∷ rows) n all =
    ap₂ (λ (b : Bool) (o : Option ImageRow). cond b (Some (machine_row r)) o) (same_as (row_name r) n (all r (inl refl))) (row_alike rows n (λ q i. all q (inr i)))
    ∙ by (name_eq (row_name r) n)
  where
    by : (b : Bool) → cond b (Some (machine_row r)) (option_map machine_row (tree_row rows n)) ≡ option_map machine_row (cond b (Some r) (tree_row rows n))
    by true = refl
    by false = refl

pub parent_alike : (rows : List TreeRow) (n : Name) → AreImages rows → parent_of n (map machine_row rows) ≡ tree_parent rows n
parent_alike rows n all = ap (λ o. o >>= (λ (i : ImageRow). i.parent)) (row_alike rows n all) ∙ by (tree_row rows n)
  where
    by : (o : Option TreeRow) → (option_map machine_row o >>= (λ (i : ImageRow). i.parent)) ≡ (o >>= (λ (r : TreeRow). parent_name r.image))
    by None = refl
    by (Some r) = refl

-- ---- each once, told by places

pub In-at : {A : Type 0} (xs : List A) (j : ℕ) (d : A) → j < length xs → In (slice_index_or xs j d) xs
In-at [] j d below = absurd (omega (arith, below))
In-at (x ∷ xs) zero d below = inl refl
In-at (x ∷ xs) (suc j) d below = inr (In-at xs j d (omega (arith, below)))

pub differ_by_place : {A : Type 0} (xs : List A) → Distinct xs → AllPairs (λ a b. a ≢ b) xs
differ_by_place [] d i j z less below = absurd (omega (arith, below))
differ_by_place (x ∷ xs) d i zero z less below = absurd (omega (arith, less))
differ_by_place (x ∷ xs) d zero (suc j) z less below = λ same. d.0 (subst (λ y. In y xs) (sym same) (In-at xs j z (omega (arith, below))))
differ_by_place (x ∷ xs) d (suc i) (suc j) z less below = differ_by_place xs d.1 i j z (omega (arith, less)) (omega (arith, below))

-- ---- the loop that puts them into a buffer

-- one name more
pub one_more : (rows : List TreeRow) (to : List Name) (count : ℕ) (n : Name) (o p : Option Name) (whole : List Name) → AreImages rows → length to ≡ chain_limit → count < chain_limit → o ≡ Some n → p ≡ tree_parent rows n
    → take count to ++ rest (chain_limit - count) (map machine_row rows) o ≡ whole → take (count + 1) (slice_set to count n) ++ rest (chain_limit - (count + 1)) (map machine_row rows) p ≡ whole
one_more rows to count n o p whole images long below is parent so_far =
    ap (λ ns. ns ++ rest (chain_limit - (count + 1)) (map machine_row rows) p) (take_more_set to count n (omega (arith, long, below)))
    ∙ append_assoc (take count to) (n ∷ []) (rest (chain_limit - (count + 1)) (map machine_row rows) p)
    ∙ ap (λ q. take count to ++ n ∷ rest (chain_limit - (count + 1)) (map machine_row rows) q) (parent ∙ sym (parent_alike rows n images))
    ∙ ap (λ ns. take count to ++ ns) (sym (rest_more (chain_limit - (count + 1)) (map machine_row rows) n))
    ∙ ap₂ (λ k q. take count to ++ rest k (map machine_row rows) q) (omega (arith, below)) (sym is)
    ∙ so_far

-- none is left, or no room
pub none_left : (rows : List TreeRow) (to : List Name) (count : ℕ) (o : Option Name) (whole : List Name) → o ≡ None → take count to ++ rest (chain_limit - count) (map machine_row rows) o ≡ whole → take count to ≡ whole
none_left rows to count o whole none so_far = sym (append-nil (take count to)) ∙ ap (λ q. take count to ++ rest (chain_limit - count) (map machine_row rows) q) (sym none) ∙ so_far

pub no_room : (rows : List TreeRow) (to : List Name) (count : ℕ) (o : Option Name) (whole : List Name) → count ≡ chain_limit → take count to ++ rest (chain_limit - count) (map machine_row rows) o ≡ whole → take count to ≡ whole
no_room rows to count o whole full so_far =
    sym (append-nil (take count to)) ∙ ap (λ ns. take count to ++ ns) (sym (rest_none (map machine_row rows) o)) ∙ ap (λ k. take count to ++ rest k (map machine_row rows) o) (omega (arith, full)) ∙ so_far
