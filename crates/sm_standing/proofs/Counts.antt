-- Lists of which few elements pass a test, and the volumes of a table, each of which is found by its name.
use Rattle.std.proofs.Common.{◌≡◌, ◌≢◌, inl, inr, ℕ, zero, suc, ◌+◌, ◌||◌, Bool, true, false, cond, List, [], ◌∷◌, length, Some, refl, sym, ap, ap₂, ◌∙◌, subst, arith}
use Rattle.std.specs.List.{AllByRecursion, filter, list_any}
use Rattle.std.specs.List.Sorted.{IsStrictlySortedBy}
use Rattle.std.specs.declared.cmp.Ordering.TheVariants.{Less}
use Rattle.std.proofs.lemmas.Bool.{false_from_ne_true}
use Rattle.common_laws.specs.Lists.{In}
use Rattle.common_laws.proofs.Lists.{In-map_at}
use Rattle.sm_base.specs.Names.{name_cmp}
use Rattle.sm_base.specs.declared.names.Name.{Name}
use Rattle.vg_meta.specs.Tables.{Row, row_of, names_of}
use Rattle.vg_meta.proofs.NameLaws.{name_eq-same, name_eq-other, less_other}

-- ---- lists, of which few elements pass a test

pub none_left : {A : Type 0} (test : A → Bool) (xs : List A) → ((x : A) → In x xs → test x ≡ false) → filter test xs ≡ []
none_left test [] none = refl
none_left test (x ∷ xs) none = ap (λ b. cond b (x ∷ filter test xs) (filter test xs)) (none x (inl refl)) ∙ none_left test xs (λ y i. none y (inr i))

pub no_member : {A : Type 0} (xs : List A) (x : A) → length xs ≡ 0 → In x xs → ⊥
no_member [] x none i = i
no_member (y ∷ xs) x none i = absurd (omega (arith, none))

pub only_member : {A : Type 0} (xs : List A) (x y : A) → length xs ≡ 1 → In x xs → In y xs → x ≡ y
only_member [] x y one i j = absurd i
only_member (z ∷ []) x y one (inl p) (inl q) = p ∙ sym q
only_member (z ∷ []) x y one (inl p) (inr none) = absurd none
only_member (z ∷ []) x y one (inr none) j = absurd none
only_member (z ∷ w ∷ xs) x y one i j = absurd (omega (arith, one))

-- the names of a table rise, so a row is found by its name, and a test that rows of one name pass finds one
before_each : (x : Row) (rs : List Row) (r : Row) → IsStrictlySortedBy name_cmp (names_of (x ∷ rs)) → In r rs → x.name ≢ r.name
unfolding IsStrictlySortedBy
before_each x rs r rising i = less_other x.name r.name (at_name (names_of rs) r.name rising.0 (In-map_at (λ (z : Row). z.name) rs r i))
  where
    at_name : (ns : List Name) (n : Name) → AllByRecursion (λ n. name_cmp x.name n ≡ Less) ns → In n ns → name_cmp x.name n ≡ Less
    at_name [] n all i = absurd i
    at_name (m ∷ ns) n all (inl is) = subst (λ y. name_cmp x.name y ≡ Less) (sym is) all.0
    at_name (m ∷ ns) n all (inr i) = at_name ns n all.1 i

pub found_in : (rs : List Row) → IsStrictlySortedBy name_cmp (names_of rs) → (r : Row) → In r rs → row_of rs r.name ≡ Some r
unfolding row_of IsStrictlySortedBy
found_in [] rising r i = absurd i
found_in (x ∷ rs) rising r (inl is) =
    ap (λ b. cond b (Some x) (row_of rs r.name)) (name_eq-same x.name r.name (ap (λ (y : Row). y.name) (sym is))) ∙ ap Some (sym is)
found_in (x ∷ rs) rising r (inr i) =
    ap (λ b. cond b (Some x) (row_of rs r.name)) (name_eq-other x.name r.name (before_each x rs r rising i)) ∙ found_in rs rising.1 r i

pub one_left : (test : Row → Bool) (rs : List Row) (r : Row) → IsStrictlySortedBy name_cmp (names_of rs) → In r rs → test r ≡ true → ((x : Row) → In x rs → test x ≡ true → x.name ≡ r.name)
    → length (filter test rs) ≡ 1
unfolding IsStrictlySortedBy
one_left test [] r rising i passes only = absurd i
one_left test (x ∷ rs) r rising (inl is) passes only =
    ap (λ b. length (cond b (x ∷ filter test rs) (filter test rs))) (ap test (sym is) ∙ passes)
    ∙ ap (λ ys. length (x ∷ ys)) (none_left test rs (λ y i. false_from_ne_true (test y) (λ e. before_each x rs y rising i (ap (λ (z : Row). z.name) (sym is) ∙ sym (only y (inr i) e)))))
one_left test (x ∷ rs) r rising (inr i) passes only =
    ap (λ b. length (cond b (x ∷ filter test rs) (filter test rs))) (false_from_ne_true (test x) (λ e. before_each x rs r rising i (only x (inl refl) e)))
    ∙ one_left test rs r rising.1 i passes (λ y k. only y (inr k))

pub any_same : (f g : Name → Bool) (ns : List Name) → ((x : Name) → In x ns → f x ≡ g x) → list_any f ns ≡ list_any g ns
any_same f g [] same = refl
any_same f g (x ∷ ns) same = ap₂ (λ p q. p || q) (same x (inl refl)) (any_same f g ns (λ y j. same y (inr j)))

pub one_of_two : (x y : ℕ) → x + y ≡ 1 → (x ≡ 0 → ⊥) → (x ≡ 1) × (y ≡ 0)
one_of_two zero y one some = absurd (some refl)
one_of_two (suc x) y one some = (omega (arith, one), omega (arith, one))
