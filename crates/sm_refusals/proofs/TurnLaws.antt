-- The first of causes that are asked in turn, and tests of which the second is asked where the first leaves it open.
use Rattle.std.proofs.Common.{◌≡◌, ◌&&◌, ◌||◌, Bool, true, false, List, [], ◌∷◌, ◌++◌, Option, Some, None, refl, sym, ap, ◌∙◌}
use Rattle.std.specs.Prelude.{is_some}
use Rattle.std.proofs.lemmas.Bool.{true≢false}
use Rattle.common_laws.specs.Lists.{first_some, given}

-- a cause that does not apply is passed by
pub passed_by : {A : Type 0} (b : Bool) (x : A) (rest : List (Option A)) (answer : Option A) → b ≡ false → answer ≡ first_some rest → answer ≡ first_some (given b x ∷ rest)
passed_by true x rest answer e is = absurd (true≢false e)
passed_by false x rest answer e is = is

-- and one that applies is the answer
pub caught : {A : Type 0} (b : Bool) (x : A) (rest : List (Option A)) → b ≡ true → Some x ≡ first_some (given b x ∷ rest)
caught true x rest e = refl
caught false x rest e = absurd (true≢false (sym e))

-- one that is not there does not apply
pub ungiven : {A : Type 0} (b : Bool) (x : A) → given b x ≡ None → b ≡ false
ungiven true x e = cc
ungiven false x e = refl

-- of two lists the first that has one
pub in_first : {A : Type 0} (xs ys : List (Option A)) (answer : Option A) → is_some answer ≡ true → answer ≡ first_some xs → answer ≡ first_some (xs ++ ys)
in_first [] ys answer there is = absurd (true≢false (sym there ∙ ap is_some is))
in_first (None ∷ xs) ys answer there is = in_first xs ys answer there is
in_first (Some y ∷ xs) ys answer there is = is

pub in_second : {A : Type 0} (xs ys : List (Option A)) (without answer : Option A) → is_some without ≡ false → without ≡ first_some xs → answer ≡ first_some ys → answer ≡ first_some (xs ++ ys)
in_second [] ys without answer not_there is second = second
in_second (None ∷ xs) ys without answer not_there is second = in_second xs ys without answer not_there is second
in_second (Some y ∷ xs) ys without answer not_there is second = absurd (true≢false (sym (ap is_some is) ∙ not_there))

-- either of two tests
pub or_first : (a b y : Bool) → a ≡ true → a ≡ b → a ≡ (b || y)
or_first a true y e is = e
or_first a false y e is = absurd (true≢false (sym e ∙ is))

pub or_rest : (a b x y : Bool) → a ≡ false → a ≡ b → x ≡ y → x ≡ (b || y)
or_rest a true x y e is same = absurd (true≢false (sym is ∙ e))
or_rest a false x y e is same = same

-- both of two tests
pub and_first : (a b y : Bool) → a ≡ false → a ≡ b → a ≡ (b && y)
and_first a true y e is = absurd (true≢false (sym is ∙ e))
and_first a false y e is = e

pub and_rest : (a b x y : Bool) → a ≡ true → a ≡ b → x ≡ y → x ≡ (b && y)
and_rest a true x y e is same = same
and_rest a false x y e is same = absurd (true≢false (sym e ∙ is))
