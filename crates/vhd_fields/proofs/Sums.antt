-- A bound on the sum of bytes.
use Rattle.std.proofs.Common.{ℕ, ◌*◌, ◌<◌, ◌≤◌, List, length, get_or, sum, arith}
use Rattle.std.proofs.lemmas.List.Elements.{All-from_get_or}
use Rattle.std.proofs.lemmas.List.Sums.{sum_by-le}

pub sum_of_bytes : (bytes : List ℕ) → ((i : ℕ) → get_or bytes i 0 < 256) → sum bytes ≤ length bytes * 255
sum_of_bytes bytes fits =
    sum_by-le (λ x. x) 255 bytes (All-from_get_or (λ x. x ≤ 255) bytes 0 (λ i within. let fit = fits i in omega arith))
