-- Laws of a window: a device seen through a function of places.
use Rattle.std.proofs.Common.{ℕ, ◌<◌}
use Rattle.sm_disk.specs.Held.{Held, Keeps, HasSectors, moved}

pub Keeps-moved : (place : ℕ → ℕ) {old new : Held} → Keeps old new → Keeps (moved place old) (moved place new)
Keeps-moved place k = record { reads = λ p. k.reads (place p); may = λ p v m. k.may (place p) v m }

pub HasSectors-moved : (place : ℕ → ℕ) {size wide : ℕ} {h : Held} → ((p : ℕ) → p < size → place p < wide)
    → HasSectors wide h → HasSectors size (moved place h)
HasSectors-moved place inside s = record {
  floor = λ p below. s.floor (place p) (inside p below);
  pending = λ p v below among. s.pending (place p) v (inside p below) among;
}
