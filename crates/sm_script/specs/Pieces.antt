-- What a call did that was to write a text piece by piece (this project's way of printing).
use Rattle.std.specs.Prelude.{ℕ, ◌≤◌, ◌∷◌, ⊤, List, Option, Result, OnOk, OnErr}
use Rattle.std.specs.List.{flat_map}
use Rattle.sm_base.specs.declared.faults.Failed.{Failed}
use Rattle.sm_disk.specs.Held.{IsCounted}
use Rattle.sm_disk.specs.Streams.{Adds, AddsFront}

-- each part, with the separator in front of it
abbrev pub led : ℕ → List (List ℕ) → List ℕ
led separator parts = flat_map (λ part. separator ∷ part) parts

-- The whole text was added and no call failed, or one did: then the count of faults rose, and a front of the text was added.
pub record Writes (text : List ℕ) (had has : Option (List ℕ)) (before now : ℕ) (result : Result ⊤ Failed) : Type 0 where
  pub adds : OnOk result (Adds had text has)
  pub front : OnErr result (AddsFront had text has)
  pub counts : before ≤ now
  pub cause : IsCounted result before now
