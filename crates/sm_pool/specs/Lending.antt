-- What becomes of a buffer whose bytes are lent to be written.
use Rattle.std.specs.Prelude.{ℕ, List, ◌++◌, length, take, drop}
use Rattle.std.specs.Borrow.{Lends, MutBor, Fml, Array, u8}
use Rattle.sm_pool.specs.contracts.Buf.{the_row}

-- the bytes `written` in the place of `had`. A slice keeps its length, so they are as many, and this is `written`;
-- others would be cut, or filled up from `had`
abbrev pub overwritten : List ℕ → List ℕ → List ℕ
overwritten had written = take (length had) (written ++ drop (length written) had)

-- the buffer ends as the bytes that were last written
abbrev pub LendsBytes : MutBor (List ℕ) → MutBor (List ℕ) → Fml
LendsBytes buf bytes = Lends the_row (Array u8 0) buf bytes (overwritten buf.now)
