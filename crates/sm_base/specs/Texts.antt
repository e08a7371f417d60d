-- A text that is written into a buffer.
use Rattle.std.specs.Prelude.{ℕ, ◌+◌, List, ◌++◌, take, drop, length}

-- the buffer with the text from this place on, and all else as it was
unfoldable pub placed : ℕ → List ℕ → List ℕ → List ℕ
placed at text buffer = take at buffer ++ (text ++ drop (at + length text) buffer)
