-- What stays at the places that no step may write.
use Rattle.std.proofs.Common.{ℕ, List, ⊎_elim}
use Rattle.sm_disk.specs.Held.{Held, Reaches}
use Rattle.vhd_volumes.specs.Writes.{KeepsBut}

-- steps that put their values at these places alone
pub KeepsBut-reaches : {V : ℕ → List ℕ → Type 0} {W : ℕ → Type 0} {a b : Held} → ((p : ℕ) (v : List ℕ) → V p v → W p) → Reaches V a b → KeepsBut W a b
KeepsBut-reaches {V} {W} {a} {b} inside r = record {
  reads = λ p away. ⊎_elim (λ same. same) (λ puts. absurd (away (inside p _ puts))) (r.gives p);
  may = λ p v away m. ⊎_elim (λ was. was) (λ puts. absurd (away (inside p v puts))) (r.may p v m);
}
