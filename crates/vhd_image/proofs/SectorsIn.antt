-- What a volume holds is sectors, where all of the area does.
use Rattle.std.proofs.Common.{◌≡◌, ℕ, ◌*◌, ◌/◌, ◌%◌, ◌<◌, List, [], ◌∷◌, cond, length, Some, zero, suc, Contains, refl, sym, subst, arith}
use Rattle.std.specs.Prelude.{slice_get, slice_index}
use Rattle.std.proofs.lemmas.Bool.{lt-ltb}
use Rattle.std.proofs.lemmas.Nat.{div_below, mul-add-lt}
use Rattle.sm_disk.specs.Held.{Held, HasSectors}
use Rattle.sm_disk.specs.Sectors.{IsSector}
use Rattle.vg_volumes.specs.Volumes.{span, spot, volume}

get-at : (es : List ℕ) (i : ℕ) → i < length es → slice_get es i ≡ Some (slice_index es i)
get-at [] i below = absurd (omega arith)
get-at (e ∷ es) zero below = refl
get-at (e ∷ es) (suc i) below = get-at es i (omega arith)

spot-below : (count extent : ℕ) (es : List ℕ) (p : ℕ) → 0 < extent → ((i e : ℕ) → slice_get es i ≡ Some e → e < count) → p < span extent es → spot extent es p < extent * count
unfolding spot
spot-below count extent es p some each below =
    let row : p / extent < length es = div_below p extent (length es) some below in
    let small : slice_index es (p / extent) < count = each (p / extent) (slice_index es (p / extent)) (get-at es (p / extent) row) in
    mul-add-lt (slice_index es (p / extent)) extent (p % extent) count small (omega arith)

pub HasSectors-volume : (count extent : ℕ) (es : List ℕ) (a : Held) → 0 < extent → ((i e : ℕ) → slice_get es i ≡ Some e → e < count) → HasSectors (count * extent) a → HasSectors (span extent es) (volume extent es a)
unfolding volume
HasSectors-volume count extent es a some each s = record {
  floor = λ p below.
      let inside = spot-below count extent es p some each below in
      subst (λ b. IsSector (cond b (a.floor (spot extent es p)) [])) (sym (lt-ltb p (span extent es) below)) (s.floor (spot extent es p) (omega (arith, inside)));
  pending = λ p v below among.
      let inside = spot-below count extent es p some each below in
      s.pending (spot extent es p) v (omega (arith, inside)) (subst (λ b. Contains (cond b (a.pending (spot extent es p)) []) v) (lt-ltb p (span extent es) below) among);
}
