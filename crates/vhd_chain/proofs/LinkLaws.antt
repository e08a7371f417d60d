-- The children of an image, and the chain from one up.
use Rattle.std.proofs.Common.{◌≡◌, ◌≢◌, ℕ, suc, ◌+◌, ◌-◌, ◌<◌, ◌≤◌, true, false, List, ◌∷◌, length, get_or, drop, Option, Some, None, refl, sym, ap, ◌∙◌, arith}
use Rattle.sm_machine.specs.Shapes.{chain_limit}
use Rattle.sm_base.specs.declared.names.Name.{Name}
use Rattle.vg_meta.specs.Tables.{name_eq}
use Rattle.vg_meta.proofs.NameLaws.{name_eq-refl, name_eq-other}
use Rattle.vhd_image.specs.Bodies.{parent_name}
use Rattle.vhd_chain.specs.Trees.{row_name, tree_row, is_child_of, children, first_name, chain_length}
use Rattle.vhd_chain.specs.declared.rows.TreeRow.{TreeRow}
use Rattle.vhd_chain.proofs.PlaceLaws.{opened, gone}

pub child_true : (r : TreeRow) (p : Name) → parent_name r.image ≡ Some p → is_child_of p r ≡ true
child_true r p h = ap (λ (o : Option Name). elim o [ None ↦ false | Some q ↦ name_eq q p ]) h ∙ name_eq-refl p

pub child_false : (r : TreeRow) (p : Name) → parent_name r.image ≢ Some p → is_child_of p r ≡ false
child_false r p h = go (parent_name r.image) h
  where
    go : (o : Option Name) → o ≢ Some p → elim o [ None ↦ false | Some q ↦ name_eq q p ] ≡ false
    go None h = refl
    go (Some q) h = name_eq-other q p (λ e. h (ap Some e))

-- a row that is no child, and one that is
past_child : (r : TreeRow) (rs : List TreeRow) (p : Name) → is_child_of p r ≡ false → children (r ∷ rs) p ≡ children rs p
past_child r rs p h = rw h refl

at_child : (r : TreeRow) (rs : List TreeRow) (p : Name) → is_child_of p r ≡ true → children (r ∷ rs) p ≡ r ∷ children rs p
at_child r rs p h = rw h refl

-- no row below this place is a child
pub no_child : (rs : List TreeRow) (p : Name) (i : ℕ) (r : TreeRow) → i < length rs → r ≡ get_or rs i r → parent_name r.image ≢ Some p
    → children (drop i rs) p ≡ children rs p → children (drop (i + 1) rs) p ≡ children rs p
no_child rs p i r lt is other h =
    sym (past_child r (drop (i + 1) rs) p (child_false r p other)) ∙ sym (ap (λ (l : List TreeRow). children l p) (opened rs i r lt is)) ∙ h

pub first_is : (rs : List TreeRow) (p : Name) (i : ℕ) (r : TreeRow) → i < length rs → r ≡ get_or rs i r → parent_name r.image ≡ Some p
    → children (drop i rs) p ≡ children rs p → Some (row_name r) ≡ first_name (children rs p)
first_is rs p i r lt is same h =
    ap first_name (sym (at_child r (drop (i + 1) rs) p (child_true r p same)) ∙ sym (ap (λ (l : List TreeRow). children l p) (opened rs i r lt is)) ∙ h)

pub none_is : (rs : List TreeRow) (p : Name) (i : ℕ) → length rs ≤ i → children (drop i rs) p ≡ children rs p → None ≡ first_name (children rs p)
none_is rs p i le h = ap first_name (sym (ap (λ (l : List TreeRow). children l p) (gone rs i le)) ∙ h)

-- ---- how many

pub count_child : (rs : List TreeRow) (p : Name) (i : ℕ) (r : TreeRow) → i < length rs → r ≡ get_or rs i r → parent_name r.image ≡ Some p
    → length (children (drop i rs) p) ≡ length (children (drop (i + 1) rs) p) + 1
count_child rs p i r lt is same =
    ap (λ (l : List TreeRow). length (children l p)) (opened rs i r lt is)
    ∙ ap length (at_child r (drop (i + 1) rs) p (child_true r p same)) ∙ omega arith

pub count_other : (rs : List TreeRow) (p : Name) (i : ℕ) (r : TreeRow) → i < length rs → r ≡ get_or rs i r → parent_name r.image ≢ Some p
    → length (children (drop i rs) p) ≡ length (children (drop (i + 1) rs) p)
count_other rs p i r lt is other =
    ap (λ (l : List TreeRow). length (children l p)) (opened rs i r lt is)
    ∙ ap length (past_child r (drop (i + 1) rs) p (child_false r p other))

pub count_none : (rs : List TreeRow) (p : Name) (i : ℕ) → length rs ≤ i → length (children (drop i rs) p) ≡ 0
count_none rs p i le = ap (λ (l : List TreeRow). length (children l p)) (gone rs i le)

-- ---- the chain from a name up

chain_none : (rs : List TreeRow) (most : ℕ) (n : Name) → None ≡ tree_row rs n → chain_length rs (suc most) n ≡ 0
unfolding chain_length
chain_none rs most n h =
    sym (ap (λ (o : Option TreeRow). elim o [ None ↦ 0 | Some r ↦ suc (elim (parent_name r.image) [ None ↦ 0 | Some p ↦ chain_length rs most p ]) ]) h)

chain_top : (rs : List TreeRow) (most : ℕ) (n : Name) (r : TreeRow) → Some r ≡ tree_row rs n → None ≡ parent_name r.image → chain_length rs (suc most) n ≡ 1
unfolding chain_length
chain_top rs most n r h k =
    sym (ap (λ (o : Option TreeRow). elim o [ None ↦ 0 | Some r ↦ suc (elim (parent_name r.image) [ None ↦ 0 | Some p ↦ chain_length rs most p ]) ]) h)
    ∙ sym (ap (λ (o : Option Name). suc (elim o [ None ↦ 0 | Some p ↦ chain_length rs most p ])) k)

chain_up : (rs : List TreeRow) (most : ℕ) (n : Name) (r : TreeRow) (p : Name) → Some r ≡ tree_row rs n → Some p ≡ parent_name r.image
    → chain_length rs (suc most) n ≡ suc (chain_length rs most p)
unfolding chain_length
chain_up rs most n r p h k =
    sym (ap (λ (o : Option TreeRow). elim o [ None ↦ 0 | Some r ↦ suc (elim (parent_name r.image) [ None ↦ 0 | Some p ↦ chain_length rs most p ]) ]) h)
    ∙ sym (ap (λ (o : Option Name). suc (elim o [ None ↦ 0 | Some p ↦ chain_length rs most p ])) k)

-- one more than a chain has may be counted
abbrev pub most_counted : ℕ
most_counted = suc chain_limit

left : (b : ℕ) → b < most_counted → most_counted - b ≡ suc (most_counted - (b + 1))
left b lt = omega arith

-- a chain that ends at a name, and one that goes on
pub ends_below : (rs : List TreeRow) (b : ℕ) (n : Name) → b < most_counted → None ≡ tree_row rs n → chain_length rs (most_counted - b) n ≡ 0
ends_below rs b n lt h = rw (left b lt) (chain_none rs (most_counted - (b + 1)) n h)

pub ends_at : (rs : List TreeRow) (b : ℕ) (n : Name) (r : TreeRow) → b < most_counted → Some r ≡ tree_row rs n → None ≡ parent_name r.image → chain_length rs (most_counted - b) n ≡ 1
ends_at rs b n r lt h k = rw (left b lt) (chain_top rs (most_counted - (b + 1)) n r h k)

pub goes_on : (rs : List TreeRow) (b : ℕ) (n : Name) (r : TreeRow) (p : Name) → b < most_counted → Some r ≡ tree_row rs n → Some p ≡ parent_name r.image
    → chain_length rs (most_counted - b) n ≡ suc (chain_length rs (most_counted - (b + 1)) p)
goes_on rs b n r p lt h k = ap (λ (m : ℕ). chain_length rs m n) (left b lt) ∙ chain_up rs (most_counted - (b + 1)) n r p h k

pub full : (rs : List TreeRow) (b : ℕ) (n : Name) → most_counted ≤ b → chain_length rs (most_counted - b) n ≡ 0
unfolding chain_length
full rs b n le = let e : most_counted - b ≡ 0 = omega arith in ap (λ (m : ℕ). chain_length rs m n) e
