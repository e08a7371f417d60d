-- Which calls to come of a device in memory fail (this project's fake of a device). A call is named by its number,
-- counted from 0, the next call, over reads, writes and syncs.
use Rattle.std.specs.Prelude.{◌≡◌, ℕ, ◌+◌, ◌-◌, map, filter, Bool, false, ◌||◌, ◌==◌, nat_lt, nat_le, List, [], Option, None}
use Rattle.std.specs.List.{list_any}
use Rattle.std.specs.Option.{option_map_or}

pub record Orders : Type 0 where
  -- these calls fail
  pub named : List ℕ
  -- this call and every later one fail
  pub stop : Option ℕ
  -- the call that a stop named has come
  pub stopped : Bool

-- the call comes after one that a stop named: it fails, and does nothing
unfoldable pub comes_late : Orders → ℕ → Bool
comes_late o k = o.stopped || option_map_or (λ s. nat_lt s k) o.stop false

-- the call is named in a list
abbrev pub is_named : List ℕ → ℕ → Bool
is_named named k = list_any (λ n. n == k) named

-- the call fails
unfoldable pub fails : Orders → ℕ → Bool
fails o k = o.stopped || option_map_or (λ s. nat_le s k) o.stop false || is_named o.named k

-- no call fails
abbrev pub no_orders : Orders
no_orders = record { named = []; stop = None; stopped = false }

-- a call has gone by
pub record HasPassed (old new : Orders) : Type 0 where
  pub failing : (k : ℕ) → fails new k ≡ fails old (k + 1)
  pub late : (k : ℕ) → comes_late new k ≡ comes_late old (k + 1)

-- these calls fail too
pub record Names (calls : List ℕ) (old new : Orders) : Type 0 where
  pub failing : (k : ℕ) → fails new k ≡ (fails old k || is_named calls k)
  pub late : (k : ℕ) → comes_late new k ≡ comes_late old k

-- this call and every later one fail too, and the later ones do nothing
pub record Stops (call : ℕ) (old new : Orders) : Type 0 where
  pub failing : (k : ℕ) → fails new k ≡ (fails old k || nat_le call k)
  pub late : (k : ℕ) → comes_late new k ≡ (comes_late old k || nat_lt call k)

-- the numbers of the calls of a list once a call has gone by
abbrev pub passed : List ℕ → List ℕ
passed named = map (λ n. n - 1) (filter (λ n. nat_lt 0 n) named)
