-- The first answer among those of a list's elements, and the least of those, element by element.
use Rattle.std.proofs.Common.{◌≡◌, inl, inr, ℕ, zero, suc, ◌+◌, ◌<◌, ◌≤◌, Bool, true, false, cond, List, [], ◌∷◌, ◌++◌, map, length, drop, get_or, Option, Some, None, refl, sym, ap, ap₂, ◌∙◌, arith}
use Rattle.std.specs.Prelude.{is_some}
use Rattle.std.proofs.lemmas.Bool.{true≢false}
use Rattle.std.specs.List.{cons_option, filter_map, find}
use Rattle.std.specs.Option.{option_map}
use Rattle.std.proofs.lemmas.List.{at_drop_more}
use Rattle.std.proofs.lemmas.Option.{none-some, same_Some}
use Rattle.std.proofs.Math.ListN.{drop_of_length-le}
use Rattle.common_laws.specs.Lists.{In, first_some, given, ◌>>=◌}
use Rattle.sm_machine.specs.Collector.{Pair, blocked, growth}
use Rattle.sm_machine.specs.Collector as machine
use Rattle.sm_machine.specs.Shapes.{Shape, free}
use Rattle.sm_base.specs.declared.operations.Plan.TheVariants as plan
use Rattle.gc_plan.specs.Planning.{least_of, lesser}

-- ---- the first

-- the first element that passes, and what is made of it
pub first_found : {A B C : Type 0} (t : B → Bool) (f : A → B) (g : B → C) (xs : List A) → option_map g (find t (map f xs)) ≡ first_some (map (λ x. given (t (f x)) (g (f x))) xs)
first_found t f g [] = refl
first_found t f g (x ∷ xs) = by (t (f x)) (first_found t f g xs)
  where
    by : (b : Bool) → option_map g (find t (map f xs)) ≡ first_some (map (λ x. given (t (f x)) (g (f x))) xs)
        → option_map g (cond b (Some (f x)) (find t (map f xs))) ≡ first_some (given b (g (f x)) ∷ map (λ x. given (t (f x)) (g (f x))) xs)
    by true rest = refl
    by false rest = rest

-- the same among what is selected
pub first_selected : {A B C D : Type 0} (t : C → Bool) (h : B → Option C) (f : A → B) (g : C → D) (xs : List A)
    → option_map g (find t (filter_map h (map f xs))) ≡ first_some (map (λ x. h (f x) >>= (λ y. given (t y) (g y))) xs)
first_selected t h f g [] = refl
first_selected t h f g (x ∷ xs) = by (h (f x)) (first_selected t h f g xs)
  where
    of_test : (b : Bool) (y : _) → option_map g (find t (filter_map h (map f xs))) ≡ first_some (map (λ x. h (f x) >>= (λ y. given (t y) (g y))) xs)
        → option_map g (cond b (Some y) (find t (filter_map h (map f xs)))) ≡ first_some (given b (g y) ∷ map (λ x. h (f x) >>= (λ y. given (t y) (g y))) xs)
    of_test true y rest = refl
    of_test false y rest = rest

    by : (o : Option _) → option_map g (find t (filter_map h (map f xs))) ≡ first_some (map (λ x. h (f x) >>= (λ y. given (t y) (g y))) xs)
        → option_map g (find t (cons_option o (filter_map h (map f xs)))) ≡ first_some ((o >>= (λ y. given (t y) (g y))) ∷ map (λ x. h (f x) >>= (λ y. given (t y) (g y))) xs)
    by None rest = rest
    by (Some y) rest = of_test (t y) y rest

module _ {A B : Type 0} (F : A → Option B) (xs : List A) (i : ℕ) where
  opened : (x : A) → i < length xs → x ≡ get_or xs i x → first_some (map F (drop i xs)) ≡ first_some (F x ∷ map F (drop (i + 1) xs))
  opened x lt is = at_drop_more (λ ys. first_some (map F ys)) xs i x lt ∙ ap (λ y. first_some (F y ∷ map F (drop (i + 1) xs))) (sym is)

  -- an element that gives no answer is passed by
  pub passed : (x : A) → i < length xs → x ≡ get_or xs i x → F x ≡ None → first_some (map F (drop (i + 1) xs)) ≡ first_some (map F (drop i xs))
  passed x lt is none = sym (opened x lt is ∙ ap (λ o. first_some (o ∷ map F (drop (i + 1) xs))) none)

  -- and one that gives one ends the search
  pub caught : (x : A) (y : B) → i < length xs → x ≡ get_or xs i x → F x ≡ Some y → first_some (map F (drop i xs)) ≡ Some y
  caught x y lt is some = opened x lt is ∙ ap (λ o. first_some (o ∷ map F (drop (i + 1) xs))) some

  pub caught_by : (o : Option B) (x : A) → i < length xs → x ≡ get_or xs i x → o ≡ F x → is_some o ≡ true → first_some (map F (drop i xs)) ≡ o
  caught_by None x lt is some there = absurd (true≢false (sym there))
  caught_by (Some y) x lt is some there = caught x y lt is (sym some)

  pub ended : length xs ≤ i → first_some (map F (drop i xs)) ≡ None
  ended end = ap (λ ys. first_some (map F ys)) (drop_of_length-le xs end)

-- an element of a list is in it
pub item_in : {A : Type 0} (xs : List A) (i : ℕ) (x : A) → i < length xs → x ≡ get_or xs i x → In x xs
item_in [] i x lt is = absurd (omega (arith, lt))
item_in (y ∷ xs) zero x lt is = inl is
item_in (y ∷ xs) (suc i) x lt is = inr (item_in xs i x (omega (arith, lt)) is)

-- ---- the least

lesser_none : (o : Option ℕ) → lesser o None ≡ o
lesser_none None = refl
lesser_none (Some a) = refl

pub lesser_twice : (a b c : Option ℕ) → lesser (lesser a b) c ≡ lesser a (lesser b c)
lesser_twice None b c = refl
lesser_twice (Some a) None c = refl
lesser_twice (Some a) (Some b) None = refl
lesser_twice (Some a) (Some b) (Some c) = ap Some (omega arith)

-- the least of those that are there
abbrev pub least_in : List (Option ℕ) → Option ℕ
least_in [] = None
least_in (o ∷ os) = lesser o (least_in os)

least_first : (σ : Shape) (p : Pair) (ps : List Pair) → least_of σ (p ∷ ps) ≡ lesser (Some (growth σ p)) (least_of σ ps)
unfolding machine.least_growth
least_first σ p [] = refl
least_first σ p (q ∷ ps) = refl

pub least_selected : {A B : Type 0} (σ : Shape) (h : B → Option Pair) (f : A → B) (xs : List A) → least_of σ (filter_map h (map f xs)) ≡ least_in (map (λ x. option_map (growth σ) (h (f x))) xs)
least_selected σ h f [] = refl
least_selected σ h f (x ∷ xs) = by (h (f x)) (least_selected σ h f xs)
  where
    by : (o : Option Pair) → least_of σ (filter_map h (map f xs)) ≡ least_in (map (λ x. option_map (growth σ) (h (f x))) xs)
        → least_of σ (cons_option o (filter_map h (map f xs))) ≡ lesser (option_map (growth σ) o) (least_in (map (λ x. option_map (growth σ) (h (f x))) xs))
    by None rest = rest
    by (Some p) rest = least_first σ p (filter_map h (map f xs)) ∙ ap (lesser (Some (growth σ p))) rest

least_both : (σ : Shape) (ps qs : List Pair) → least_of σ (ps ++ qs) ≡ lesser (least_of σ ps) (least_of σ qs)
least_both σ [] qs = refl
least_both σ (p ∷ ps) qs =
    least_first σ p (ps ++ qs) ∙ ap (lesser (Some (growth σ p))) (least_both σ ps qs)
    ∙ sym (lesser_twice (Some (growth σ p)) (least_of σ ps) (least_of σ qs)) ∙ ap (λ o. lesser o (least_of σ qs)) (sym (least_first σ p ps))

-- and of three lists, by the least of each
pub least_three : (σ : Shape) (ps qs rs : List Pair) {a b c : Option ℕ} → a ≡ least_of σ ps → b ≡ least_of σ qs → c ≡ least_of σ rs → least_of σ (ps ++ (qs ++ rs)) ≡ lesser a (lesser b c)
least_three σ ps qs rs {a} {b} {c} p q r =
    least_both σ ps (qs ++ rs) ∙ ap (lesser (least_of σ ps)) (least_both σ qs rs)
    ∙ ap₂ lesser (sym p) (ap₂ lesser (sym q) (sym r))

module _ {A : Type 0} (F : A → Option ℕ) (xs : List A) (i : ℕ) where
  pub least_more : (o : Option ℕ) (x : A) → i < length xs → x ≡ get_or xs i x → lesser (lesser o (F x)) (least_in (map F (drop (i + 1) xs))) ≡ lesser o (least_in (map F (drop i xs)))
  least_more o x lt is =
      lesser_twice o (F x) (least_in (map F (drop (i + 1) xs)))
      ∙ sym (at_drop_more (λ ys. lesser o (least_in (map F ys))) xs i x lt ∙ ap (λ y. lesser o (lesser (F y) (least_in (map F (drop (i + 1) xs))))) (sym is))

  pub least_ended : (o : Option ℕ) → length xs ≤ i → lesser o (least_in (map F (drop i xs))) ≡ o
  least_ended o end = ap (λ ys. lesser o (least_in (map F ys))) (drop_of_length-le xs end) ∙ lesser_none o

-- what is said where images are left that do not fit, by the least of them
pub blocked_is : (σ : Shape) (ps : List Pair) (need : ℕ) → least_of σ ps ≡ Some need → plan.Blocked need (free σ) ≡ blocked σ ps
blocked_is σ [] need is = absurd (none-some need is)
blocked_is σ (p ∷ ps) need is = ap (λ n. plan.Blocked n (free σ)) (sym (same_Some (machine.least_growth σ p ps) need is))

pub idle_is : (σ : Shape) (ps : List Pair) → least_of σ ps ≡ None → plan.Idle ≡ blocked σ ps
idle_is σ [] is = refl
idle_is σ (p ∷ ps) is = absurd (none-some (machine.least_growth σ p ps) (sym is))
