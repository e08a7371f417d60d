-- Laws of options.
use Rattle.std.proofs.Common.{◌≡◌, ◌⊎◌, inl, inr, true, false, Option, Some, None, refl}
use Rattle.std.specs.Prelude.{is_some}
use Rattle.common_laws.specs.Lists.{◌>>=◌}

pub none_of_some : {A : Type 0} (o : Option A) → is_some o ≡ false → o ≡ None
none_of_some None h = refl
none_of_some (Some x) h = absurd (let e = h in cc)

pub is_some-parts : {A : Type 0} (o : Option A) → is_some o ≡ true → (x : A) × (o ≡ Some x)
is_some-parts None h = absurd (let e = h in cc)
is_some-parts (Some x) h = (x, refl)

pub option_cases : {A : Type 0} (o : Option A) → (o ≡ None) ⊎ ((x : A) × (o ≡ Some x))
option_cases None = inl refl
option_cases (Some x) = inr (x, refl)

-- where a second step gave a value, the first did
pub bind-some : {A B : Type 0} (o : Option A) (f : A → Option B) (y : B) → (o >>= f) ≡ Some y → (x : A) × (o ≡ Some x)
bind-some None f y h = absurd (let e = h in cc)
bind-some (Some x) f y h = (x, refl)
