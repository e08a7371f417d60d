-- Words on lists and options.
use Rattle.std.specs.Prelude.{◌≡◌, ℕ, zero, suc, ◌+◌, ◌⊎◌, Bool, true, false, cond, List, [], ◌∷◌, map, Option, Some, None, IsTrue}

-- the next step, where the one before gave a value
infixl 10 ◌>>=◌
abbrev pub ◌>>=◌ : {A B : Type 0} → Option A → (A → Option B) → Option B
None >>= f = None
Some x >>= f = f x

-- f x where the test passed, else x
abbrev pub when : {A : Type 0} → Bool → (A → A) → A → A
when true f x = f x
when false f x = x

-- f for each element that passes the test, the others as they are
abbrev pub change : {A : Type 0} → (A → Bool) → (A → A) → List A → List A
change test f xs = map (λ x. when (test x) f x) xs

-- a new element before the first that it comes before, else at the end
unfoldable pub insert_by : {A : Type 0} → (A → A → Bool) → A → List A → List A
insert_by before x [] = x ∷ []
insert_by before x (y ∷ ys) = cond (before x y) (x ∷ y ∷ ys) (y ∷ insert_by before x ys)

-- n numbers from a on
unfoldable pub numbers : ℕ → ℕ → List ℕ
numbers a zero = []
numbers a (suc n) = a ∷ numbers (a + 1) n

-- the first that is there
abbrev pub first_some : {A : Type 0} → List (Option A) → Option A
first_some [] = None
first_some (Some x ∷ xs) = Some x
first_some (None ∷ xs) = first_some xs

-- a value where the test passes
abbrev pub given : {A : Type 0} → Bool → A → Option A
given true x = Some x
given false x = None

-- x is an element
abbrev pub In : {A : Type 0} → A → List A → Type 0
In x [] = ⊥
In x (y ∷ ys) = (x ≡ y) ⊎ In x ys

-- no element stands twice
abbrev pub Distinct : {A : Type 0} → List A → Type 0
Distinct [] = Unit {0}
Distinct (x ∷ xs) = (¬ In x xs) × Distinct xs

-- each element may stand before each later one
abbrev pub Sorted : {A : Type 0} → (A → A → Bool) → List A → Type 0
Sorted {A} le [] = Unit {0}
Sorted {A} le (x ∷ xs) = ((y : A) → In y xs → IsTrue (le x y)) × Sorted le xs
