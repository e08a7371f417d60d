-- The first of all faults, and the longest chain.
use Rattle.std.proofs.Common.{◌≡◌, ℕ, inl, inr, Bool, true, false, ◌||◌, ◌==◌, List, [], ◌∷◌, ◌++◌, length, Option, Some, None, refl, sym, ap, ◌∙◌}
use Rattle.std.specs.Prelude.{nat_le}
use Rattle.common_laws.proofs.Booleans.{second_fails, all_hold}
use Rattle.sm_base.specs.declared.faults.Place.{Place}
use Rattle.sm_base.specs.declared.names.Name.TheVariants.{Vhd}
use Rattle.common_laws.specs.Lists.{In, first_some}
use Rattle.vg_meta.specs.Tables.{Row}
use Rattle.sm_standing.specs.Checks.{first_name, name_in, placed, all_faults, fault_of, children, chain_length, is_linked, is_misplaced, tree_wrong_as, is_tree_wrong}
use Rattle.sm_standing.specs.Outlines.{Outline, Link}
use Rattle.std.specs.List.{find}
use Rattle.common_laws.specs.Lists.{given}
use Rattle.common_laws.proofs.Lists.{none_first, find_none, none_find}
use Rattle.sm_base.specs.declared.names.Name.{Name}

-- ---- the first of all

first_at : {A : Type 0} (before after : List (Option A)) (x : A) → ((o : Option A) → In o before → o ≡ None) → first_some (before ++ (Some x ∷ after)) ≡ Some x
first_at [] after x none = refl
first_at (None ∷ before) after x none = first_at before after x (λ o h. none o (inr h))
first_at (Some y ∷ before) after x none = absurd (let e = none (Some y) (inl refl) in cc)

first-In : {A : Type 0} (os : List (Option A)) (x : A) → first_some os ≡ Some x → In (Some x) os
first-In [] x h = absurd (let e = h in cc)
first-In (None ∷ os) x h = inr (first-In os x h)
first-In (Some y ∷ os) x h = inl (sym h)

pub first_of_all : (o : Outline) (before after : List (Option Place)) (p : Place) → all_faults o ≡ before ++ (Some p ∷ after)
    → ((f : Option Place) → In f before → f ≡ None) → fault_of o ≡ Some p
unfolding fault_of
first_of_all o before after p is none = ap first_some is ∙ first_at before after p none

pub one_of_all : (o : Outline) (p : Place) → fault_of o ≡ Some p → In (Some p) (all_faults o)
unfolding fault_of
one_of_all o p h = first-In (all_faults o) p h

pub all_none : (o : Outline) → fault_of o ≡ None → (f : Option Place) → In f (all_faults o) → f ≡ None
unfolding fault_of
all_none o h f k = none_first (all_faults o) h f k

-- ---- the longest chain

pub wrong_at : (o : Outline) (u : List ℕ) (r : Row) (i : Link) → r.name ≡ Vhd u → o.links (Vhd u) ≡ Some i → is_tree_wrong o r ≡ is_misplaced o r (Some i)
wrong_at o u r i name is = ap (tree_wrong_as o r) name ∙ ap (is_misplaced o r) is

pub chain_most : (o : Outline) (r : Row) (u : List ℕ) (i : Link) → r.name ≡ Vhd u → r.hidden ≡ true → o.links (Vhd u) ≡ Some i → is_linked o i ≡ true
    → chain_length o 31 (Vhd u) ≡ 30 → is_tree_wrong o r ≡ false
chain_most o r u i name hidden is linked long =
    wrong_at o u r i name is
    ∙ all_hold (is_linked o i) (nat_le (chain_length o 31 r.name) 30) (r.hidden || (length (children o r.name) == 0)) linked
    (ap (λ n. nat_le (chain_length o 31 n) 30) name ∙ ap (λ k. nat_le k 30) long) (ap (λ b. b || (length (children o r.name) == 0)) hidden)

pub chain_more : (o : Outline) (r : Row) (u : List ℕ) (i : Link) → r.name ≡ Vhd u → r.hidden ≡ true → o.links (Vhd u) ≡ Some i → is_linked o i ≡ true
    → chain_length o 31 (Vhd u) ≡ 31 → is_tree_wrong o r ≡ true
chain_more o r u i name hidden is linked long =
    wrong_at o u r i name is
    ∙ second_fails (is_linked o i) (nat_le (chain_length o 31 r.name) 30) (r.hidden || (length (children o r.name) == 0))
    (ap (λ n. nat_le (chain_length o 31 n) 30) name ∙ ap (λ k. nat_le k 30) long)

-- ---- one check

-- a test that no row passes names no place
pub none_named : (place : Name → Place) (test : Row → Bool) (rs : List Row) → ((r : Row) → In r rs → test r ≡ false) → placed place (first_name test rs) ≡ None
unfolding first_name
none_named place test rs fails = ap (λ o. placed place (name_in o)) (find_none test rs fails)

named_step : (place : Name → Place) (o : Option Row) → placed place (name_in o) ≡ None → o ≡ None
named_step place None h = refl
named_step place (Some r) h = absurd (let e = h in cc)

pub named_none : (place : Name → Place) (test : Row → Bool) (rs : List Row) → placed place (first_name test rs) ≡ None → (r : Row) → In r rs → test r ≡ false
unfolding first_name
named_none place test rs h = none_find test rs (named_step place (find test rs) h)

pub given_none : (b : Bool) (p : Place) → b ≡ false → given b p ≡ None
given_none true p h = absurd (let e = h in cc)
given_none false p h = refl

pub none_given : (b : Bool) (p : Place) → given b p ≡ None → b ≡ false
none_given true p h = absurd (let e = h in cc)
none_given false p h = refl
