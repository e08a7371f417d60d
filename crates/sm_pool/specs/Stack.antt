-- How a pool is kept: its free buffers stand in one stack (this project's own).
use Rattle.std.specs.Prelude.{◌≡◌, ◌≤◌, length, All, vec_capacity}
use Rattle.sm_pool.specs.Buffers.{Buffers}
use Rattle.sm_pool.specs.declared.Pool.TheInside.{Inside}

-- as many are free as stand in the stack
abbrev pub buffers_of : Inside → Buffers
buffers_of p = record { bytes = p.bytes; count = p.count; free = length p.free.items }

-- each free buffer has the pool's length, there are no more of them than there are buffers, and the stack has a
-- place for every buffer
pub record IsStack (p : Inside) : Type 0 where
  pub long : All (λ b. length b.items ≡ p.bytes) p.free.items
  pub within : length p.free.items ≤ p.count
  pub room : p.count ≤ vec_capacity p.free
