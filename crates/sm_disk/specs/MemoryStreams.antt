-- What a source and a sink in memory stand for (this project's fakes of streams). Each may be told to fail once so
-- many bytes went through it.
use Rattle.std.specs.Prelude.{ℕ, ◌-◌, min, Bool, false, ◌==◌, List, length, Option}
use Rattle.std.specs.Option.{option_map, option_map_or}

-- a source in memory
pub record Spring : Type 0 where
  -- what is left
  pub left : List ℕ
  -- the most bytes of one call
  pub chunk : ℕ
  -- after so many more bytes every call fails
  pub until : Option ℕ
  -- how many calls have failed
  pub faults : ℕ

-- a sink in memory
pub record Basin : Type 0 where
  -- what it holds
  pub bytes : List ℕ
  -- after so many more bytes every call fails
  pub until : Option ℕ
  -- how many calls have failed
  pub faults : ℕ
  -- the last write found no memory
  pub short : Bool

-- the bytes are used up after which every call fails
abbrev pub is_over : Option ℕ → Bool
is_over until = option_map_or (λ n. n == 0) until false

-- so many bytes, or fewer where every call fails after fewer
abbrev pub at_most : Option ℕ → ℕ → ℕ
at_most until n = option_map_or (λ m. min m n) until n

-- after so many bytes
abbrev pub after : Option ℕ → ℕ → Option ℕ
after until n = option_map (λ m. m - n) until

-- how many bytes a call gives, with a buffer of this length
abbrev pub given_by : Spring → ℕ → ℕ
given_by s len = at_most s.until (min (min len s.chunk) (length s.left))
