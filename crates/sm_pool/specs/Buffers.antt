-- What a pool of buffers is to its users (this project's own).
use Rattle.std.specs.Prelude.{ℕ}

-- the length of each buffer, in bytes; how many buffers there are; how many of them are free. The others are out
pub record Buffers : Type 0 where
  pub bytes : ℕ
  pub count : ℕ
  pub free : ℕ
