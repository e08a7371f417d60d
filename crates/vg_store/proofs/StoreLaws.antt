-- What the calls of a group ask and promise as a store of volumes.
use Rattle.std.proofs.Common.{◌≡◌, ℕ, ◌+◌, ◌*◌, ◌<◌, ◌≤◌, List, length, Some, sym, ap, subst, ◌∙◌, arith}
use Rattle.std.specs.Prelude.{slice_index, slice_get}
use Rattle.std.proofs.lemmas.Option.{slice_get-get_or}
use Rattle.std.proofs.Math.Nat.{mul-le-mul_right}
use Rattle.sm_base.specs.declared.names.Name.{Name}
use Rattle.sm_disk.specs.Held.{Held, HasSectors}
use Rattle.sm_disk.proofs.WindowLaws.{HasSectors-moved}
use Rattle.vg_meta.specs.Tables.{Row, VolumeTable, IsTable, IsSpread, rows, extents_of}
use Rattle.vg_meta.proofs.ByName.{spread}
use Rattle.vg_layout.specs.Places.{area_place}
use Rattle.vg_store.specs.Groups.{area_of}
use Rattle.vg_store.specs.Runs.{AreOn}

-- the extents of a volume of a table stand on a device that has all extents
pub extents_on_device : (l size count x : ℕ) (t : VolumeTable) (n : Name) (r : Row) (es : List ℕ) → IsTable count t → area_place l + count * x ≤ size
    → rows t n ≡ Some r → es ≡ r.extents → AreOn l size x es
extents_on_device l size count x t n r es table fits there is = subst (AreOn l size x) (ap extents_of there ∙ sym is) (record {
  within = λ i below. within i (s.below n i (slice_index own i) (found i below));
  once = λ i j i_below j_below same. s.same_place n i j (slice_index own i) (found i i_below) (found j j_below ∙ ap Some (sym same));
})
  where
    own : List ℕ
    own = extents_of (rows t n)

    s : IsSpread count (rows t)
    s = spread count t table

    found : (i : ℕ) → i < length own → slice_get own i ≡ Some (slice_index own i)
    found i below = slice_get-get_or own i 0 below

    within : (i : ℕ) → slice_index own i < count → area_place l + (slice_index own i + 1) * x ≤ size
    within i low =
        let most : slice_index own i + 1 ≤ count = omega arith in
        omega (arith, fits, mul-le-mul_right x most)

-- the extents hold sectors
pub area_sectors : (l size area : ℕ) (h : Held) → area_place l + area ≤ size → HasSectors size h → HasSectors area (area_of l h)
area_sectors l size area h fits s = HasSectors-moved (λ q. area_place l + q) (λ q below. omega (arith, fits, below)) s
