-- What is read through turns, without a bound on their number. At one fixed sector each image answers or sends up;
-- here the images of one content, or of two, are functions from a name to its turn. Laws of chains are laws of such
-- functions: they never speak of maps, slots or bitmaps.
use Rattle.std.specs.Prelude.{◌≡◌, ◌≢◌, ℕ, zero, suc, List, Option, Some, None}
use Rattle.sm_base.specs.declared.names.Name.{Name}
use Rattle.sm_standing.specs.Images.{ImageAnswer, here, up}

-- at one sector, what each image does by its name: it answers, or sends up
abbrev pub ImageAnswers : Type 0
ImageAnswers = Name → ImageAnswer

-- what so many turns give, where one of them answers
unfoldable pub answer : ℕ → ImageAnswers → Name → Option (List ℕ)
answer zero f n = None
answer (suc k) f n = elim (f n) [ here bytes ↦ Some bytes | up p ↦ answer k f p ]

-- some number of turns gives these bytes
abbrev pub Reads : ImageAnswers → Name → List ℕ → Type 0
Reads f n bytes = (k : ℕ) × (answer k f n ≡ Some bytes)

-- what is read of n through f is read of m through g
abbrev pub ReadsAlike : ImageAnswers → Name → ImageAnswers → Name → Type 0
ReadsAlike f n g m = (bytes : List ℕ) → Reads f n bytes → Reads g m bytes

-- names related by R read alike: where the one answers, the other reads the answer; where the one sends up to p, some
-- name that p is related to reads no other than the other name
pub record Carries (R : Name → Name → Type 0) (f g : ImageAnswers) : Type 0 where
  pub answers : (n m : Name) (bytes : List ℕ) → R n m → f n ≡ here bytes → Reads g m bytes
  pub sends : (n m p : Name) → R n m → f n ≡ up p → (q : Name) × R p q × ReadsAlike g q g m

-- a set of names that parents do not leave
pub record IsClosed (P : Name → Type 0) (f : ImageAnswers) : Type 0 where
  pub closed : (n p : Name) → P n → f n ≡ up p → P p

-- nobody sends up to this name
abbrev pub IsNoParent : ImageAnswers → Name → Type 0
IsNoParent f x = (n : Name) → f n ≢ up x

-- all turns but one are the same
abbrev pub SameBut : ImageAnswers → ImageAnswers → Name → Type 0
SameBut f g x = (n : Name) → n ≢ x → g n ≡ f n

-- the only name that sends up to p is v
abbrev pub SendsUpAlone : ImageAnswers → Name → Name → Type 0
SendsUpAlone f v p = (n : Name) → f n ≡ up p → n ≡ v

-- a turn under another name for one image
abbrev pub renamed_answer : (Name → Name) → ImageAnswer → ImageAnswer
renamed_answer f (here bytes) = here bytes
renamed_answer f (up p) = up (f p)
