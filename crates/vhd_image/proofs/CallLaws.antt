-- What calls of a store did, one after the other.
use Rattle.std.proofs.Common.{◌≡◌, ◌≢◌, ℕ, ◌≤◌, ◌<◌, ◌-◌, ◌*◌, ◌+◌, List, length, ap, ◌∙◌, inl, inr, ⊎_elim, arith}
use mathlib.Core.Path.{fun_ext}
use Rattle.sm_base.specs.declared.names.Name.{Name}
use Rattle.sm_disk.specs.Held.{Held, SameHeld, Torn, Wrote, Puts, reads}
use Rattle.sm_disk.specs.Sectors.{sector}
use Rattle.sm_disk.proofs.HeldLaws.{in_one, reads-elsewhere, reads-wrote, reads-same}
use Rattle.sm_disk.proofs.ReachesLaws.{Reaches-same, Reaches-then, Reaches-torn, Reaches-wider}
use Rattle.sm_disk.proofs.SectorLaws.{sector-one}
use Rattle.vg_volumes.specs.Stored.{stored, held_in, OnlyReads}
use Rattle.vg_volumes.specs.declared.stores.Store.{Ghosts}
use Rattle.vhd_volumes.specs.Writes.{KeepsBut}
use Rattle.vhd_volumes.proofs.KeptLaws.{KeepsBut-reaches}
use Rattle.vg_volumes.proofs.CallLaws.{same_in}
use Rattle.vhd_image.specs.Calls.{IsAt, IsEnd, IsEnds, MayPut}

-- ---- calls that wrote nothing

module _ {S : Type 0} {g : Ghosts S} where
  pub only-reads : (n : Name) {a b : S} → OnlyReads g a b → g.told → (p : ℕ) → reads (held_in (stored g b) n) p ≡ reads (held_in (stored g a) n) p
  only-reads n r told p = reads-same (same_in n r told) p

  -- the same for all places at once, where the volume's name is given in two ways
  pub only-reads_all : {m n : Name} {a b : S} → m ≡ n → OnlyReads g a b → g.told → reads (held_in (stored g b) m) ≡ reads (held_in (stored g a) n)
  only-reads_all {m} {n} {a} {b} e r told = ap (λ (x : Name). reads (held_in (stored g b) x)) e ∙ fun_ext (λ p. only-reads n r told p)

-- ---- one sector is written

put_one : (place : ℕ) (bytes : List ℕ) → length bytes ≡ 512 → (p : ℕ) (v : List ℕ) → Puts place bytes p v → IsAt place bytes p v
put_one place bytes long p v puts =
    let here : p ≡ place = in_one place (length bytes) p long puts.0 in
    let none : p - place ≡ 0 = omega arith in
    (here, puts.1 ∙ (ap (sector bytes) none ∙ sector-one bytes long))

pub may_put : {place : ℕ} {bytes : List ℕ} {old new : Held} → length bytes ≡ 512 → Torn place bytes old new → MayPut place bytes old new
may_put {place} {bytes} {old} {new} long t = record {
  reaches = Reaches-wider (put_one place bytes long) (Reaches-torn t);
  others = λ p away. reads-elsewhere t p (λ here. away (in_one place (length bytes) p long here));
}

pub reads-put : {place : ℕ} {bytes : List ℕ} {old new : Held} → length bytes ≡ 512 → Wrote place bytes old new → reads new place ≡ bytes
reads-put {place} {bytes} {old} {new} long w =
    let from : place ≤ place = omega arith in
    let to : 512 * place < 512 * place + length bytes = omega arith in
    let none : place - place ≡ 0 = omega arith in
    reads-wrote w place (from, to) ∙ (ap (sector bytes) none ∙ sector-one bytes long)

-- ---- reads around a write of one sector

pub may_put_same : (place : ℕ) (bytes : List ℕ) {a b : Held} → SameHeld a b → MayPut place bytes a b
may_put_same place bytes s = record { reaches = Reaches-same (IsAt place bytes) s; others = λ p away. reads-same s p }

pub may_put_after : {place : ℕ} {bytes : List ℕ} {a b c : Held} → SameHeld a b → MayPut place bytes b c → MayPut place bytes a c
may_put_after {place} {bytes} s put = record {
  reaches = Reaches-then (Reaches-same (IsAt place bytes) s) put.reaches;
  others = λ p away. put.others p away ∙ reads-same s p;
}

-- ---- what stays elsewhere

pub put-others : (place : ℕ) (bytes : List ℕ) {a b : Held} → MayPut place bytes a b → KeepsBut (λ p. p ≡ place) a b
put-others place bytes put = KeepsBut-reaches (λ p v here. here.0) put.reaches

pub ends-others : (n : ℕ) (bytes : List ℕ) {a b : Held} → IsEnds n bytes a b → ((p : ℕ) → p ≢ 0 → p ≢ n - 1 → reads b p ≡ reads a p) → KeepsBut (IsEnd n) a b
ends-others n bytes ends others = record {
  reads = λ p away. others p (λ front. away (inl front)) (λ last. away (inr last));
  may = λ p v away m. ⊎_elim (λ was. was) (λ new. absurd (away new.0)) (ends p v m);
}
