-- A device of two parts: the first part's sectors, and then the second's (this project's).
--
-- The border is the number of the first part's sectors. A place below it is that place of the first part; a place from the
-- border on is a place of the second part, which counts its own from 0.
use Rattle.std.specs.Prelude.{◌≡◌, ℕ, ◌+◌, ◌-◌, ◌*◌, ◌%◌, ◌^◌, ◌<◌, ◌≤◌, ◌⊎◌, ◌↔◌, min, nat_lt, if◌then◌else◌, List}
use Rattle.sm_disk.specs.Held.{Held, Allows, Rose}

-- below the border what the first gives at a place, and from the border on what the second gives so many places lower
abbrev pub parted : {A : Type 0} → ℕ → (ℕ → A) → (ℕ → A) → ℕ → A
parted border first second p = if nat_lt p border then first p else second (p - border)

-- what two parts hold as one device, with the border between them
abbrev pub joined : ℕ → Held → Held → Held
joined border first second = record {
  floor = parted border first.floor second.floor;
  pending = parted border first.pending second.pending;
}

-- what two parts hold as one device, where each part tells its sectors and what it holds
abbrev pub held_of : {A B : Type 0} → (A → ℕ) → (A → Held) → (B → Held) → A → B → Held
held_of sectors front back first second = joined (sectors first) (front first) (back second)

-- an image that a first part of so many sectors allows, followed by one that a second part of so many allows
pub record IsImageOfParts (border more : ℕ) (first second : Held) (image : ℕ → List ℕ) : Type 0 where
  pub front : ℕ → List ℕ
  pub back : ℕ → List ℕ
  pub front_allowed : Allows border first front
  pub back_allowed : Allows more second back
  pub follows : (p : ℕ) → p < border + more → image p ≡ parted border front back p

-- two parts as one device allow an image exactly where it is one of the first part followed by one of the second
abbrev pub PartsAllow : Type 0
PartsAllow = (border more : ℕ) (first second : Held) (image : ℕ → List ℕ)
    → Allows (border + more) (joined border first second) image ↔ IsImageOfParts border more first second image

-- of so many bytes from the place `at` on, those that lie below the border
abbrev pub bytes_below : ℕ → ℕ → ℕ → ℕ
bytes_below border at len = min (512 * (border - at)) len

-- so many bytes, from the place `at` on, are whole sectors of a device of so many sectors, or none
pub record IsPiece (at len size : ℕ) : Type 0 where
  pub whole : len % 512 ≡ 0
  pub within : 0 < len → 512 * at + len ≤ 512 * size

-- a count of faults that no fault can raise
abbrev pub IsSpent : ℕ → Type 0
IsSpent faults = 2 ^ 64 - 1 ≤ faults

-- the sum of two counts is spent where one of them is
abbrev pub SumIsSpent : Type 0
SumIsSpent = (first second : ℕ) → IsSpent first ⊎ IsSpent second → IsSpent (first + second)

-- a call failed in the first part, whose count rose, and the second part is as it was; or the first part's count is as it was, and the second's rose
abbrev pub FailsInOne : {A B : Type 0} → (A → ℕ) → (B → ℕ) → A → A → B → B → Type 0
FailsInOne faults more first first' second second' =
    (Rose (faults first) (faults first') × (second' ≡ second)) ⊎ ((faults first' ≡ faults first) × Rose (more second) (more second'))
