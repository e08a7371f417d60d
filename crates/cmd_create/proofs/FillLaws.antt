-- Zeros are written into a volume, one extent after the other.
use Rattle.std.proofs.Common.{◌≡◌, ℕ, ◌+◌, ◌-◌, ◌*◌, ◌<◌, ◌≤◌, ◌⊎◌, inl, inr, List, length, take, drop, replicate, sym, ap, ap₂, ◌∙◌, subst, arith}
use Rattle.std.proofs.Math.Nat.{mul-le-mul_right}
use Rattle.std.proofs.lemmas.Bool.{cases_lt}
use Rattle.std.proofs.lemmas.List.{length-replicate, drop-replicate, take-replicate}
use Rattle.sm_base.specs.declared.names.Name.{Name}
use Rattle.sm_disk.specs.Held.{Held, IsIn, IsWhole, Wrote, reads}
use Rattle.sm_disk.specs.Sectors.{sector, zeros}
use Rattle.sm_disk.proofs.HeldLaws.{in_or_not, reads-wrote, reads-elsewhere, torn_from_wrote}
use Rattle.vg_meta.specs.Tables.{VolumeTable, rows, extents_of}
use Rattle.vg_volumes.specs.Sites.{Site, size_of}
use Rattle.cmd_create.specs.Stages.{HasZeros}

-- an extent of a volume is whole sectors of it
pub whole_extent : (index extent n at len : ℕ) → index < n → 0 < extent → at ≡ index * extent → len ≡ 512 * extent → IsWhole at len (n * extent)
whole_extent index extent n at len below pos is long =
    let enough : (index + 1) * extent ≤ n * extent = mul-le-mul_right extent (omega arith) in
    let next : (index + 1) * extent ≡ index * extent + extent = omega arith in
    record {
      some = omega arith;
      whole = omega arith;
      within = omega (arith, enough, next);
    }

-- the same at a turn of the loop
pub whole_turn : (s : Site) (t : VolumeTable) (name : Name) (index n extent at : ℕ) (bytes : List ℕ) → index < n → length (extents_of (rows t name)) ≡ n → extent ≡ s.geometry.extent → 0 < extent
    → at ≡ index * extent → bytes ≡ replicate (512 * s.geometry.extent) 0 → IsWhole at (length bytes) (size_of s t name)
whole_turn s t name index n extent at bytes below long same pos is are =
    let size : n * extent ≡ size_of s t name = ap₂ (λ x y. x * y) (sym long) same in
    subst (λ m. IsWhole at (length bytes) m) size
    (whole_extent index extent n at (length bytes) below pos is (ap length are ∙ length-replicate (512 * s.geometry.extent) 0 ∙ ap (λ e. 512 * e) (sym same)))

-- after the last turn all is filled
pub all_filled : (s : Site) (t : VolumeTable) (name : Name) (index n : ℕ) → length (extents_of (rows t name)) ≡ n → n ≤ index → (a b : Held) → HasZeros (index * s.geometry.extent) a b → HasZeros (size_of s t name) a b
all_filled s t name index n long past a b done p below =
    let most : length (extents_of (rows t name)) * s.geometry.extent ≤ index * s.geometry.extent = mul-le-mul_right s.geometry.extent (omega (arith, long, past)) in
    done p (omega (arith, most, below))

-- each sector of zeros is one
pub zero_sector : (bytes : List ℕ) (n i : ℕ) → bytes ≡ replicate n 0 → 512 * i + 512 ≤ n → sector bytes i ≡ zeros
unfolding sector zeros
zero_sector bytes n i is within =
    ap (λ l. take 512 (drop (512 * i) l)) is
    ∙ ap (take 512) (drop-replicate (512 * i) n 0)
    ∙ take-replicate 512 (n - 512 * i) 0 (omega arith)

-- one extent more
pub fill_step : (extent index at : ℕ) (bytes : List ℕ) → at ≡ index * extent → bytes ≡ replicate (512 * extent) 0 → (a b d : Held) → HasZeros (index * extent) a b → Wrote at bytes b d
    → HasZeros ((index + 1) * extent) a d
fill_step extent index at bytes place are a b d before w p below = by (in_or_not at (length bytes) p)
  where
    long : length bytes ≡ 512 * extent
    long = ap length are ∙ length-replicate (512 * extent) 0

    next : (index + 1) * extent ≡ index * extent + extent
    next = omega arith

    by : IsIn at (length bytes) p ⊎ (IsIn at (length bytes) p → ⊥) → reads d p ≡ zeros
    by (inl inside) = reads-wrote w p inside ∙ zero_sector bytes (512 * extent) (p - at) are (omega (arith, inside.0, inside.1, long))
    by (inr away) = reads-elsewhere (torn_from_wrote w) p away ∙ before p (not_inside (cases_lt p at))
      where
        not_inside : (p < at) ⊎ (at ≤ p) → p < index * extent
        not_inside (inl lower) = omega (arith, place)
        not_inside (inr from) = absurd (away (from, omega (arith, place, next, long, below)))
