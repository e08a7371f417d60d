-- Where the sectors of a volume stand in the area.
use Rattle.std.proofs.Common.{◌≡◌, ℕ, zero, suc, ◌+◌, ◌*◌, ◌/◌, ◌%◌, ◌<◌, List, length, sym, ap, ap₂, ◌∙◌, arith}
use Rattle.std.specs.Prelude.{slice_index}
use Rattle.std.proofs.lemmas.Nat.{same_from_place, mod_below, div-add-mod'}
use Rattle.std.proofs.Math.Nat.{div-lt_iff_lt-mul, mul-add-div_right, mul-add-mod_self_right}
use Rattle.sm_disk.specs.Held.{IsWhole}
use Rattle.vg_volumes.specs.Volumes.{AreIn, spot, span}

-- a volume that has a sector has extents with sectors
pub extent_some : (p many x : ℕ) → p < many * x → 0 < x
extent_some p many zero h = absurd (omega arith)
extent_some p many (suc x) h = omega arith

-- the extent of a sector is one of the volume's
pub in_extents : (x : ℕ) (es : List ℕ) (p : ℕ) → p < span x es → p / x < length es
in_extents x es p below = (div-lt_iff_lt-mul (extent_some p (length es) x below)).1 below

ahead_split : (a d x : ℕ) → a / x * x + (a % x + d) ≡ a + d
ahead_split a d x = omega (arith, div-add-mod' a x)

pub ahead_div : (a d x : ℕ) → 0 < x → a / x + (a % x + d) / x ≡ (a + d) / x
ahead_div a d x some = sym (mul-add-div_right some (a / x) (a % x + d)) ∙ ap (λ n. n / x) (ahead_split a d x)

pub ahead_mod : (a d x : ℕ) → (a % x + d) % x ≡ (a + d) % x
ahead_mod a d x = sym (mul-add-mod_self_right (a / x) x (a % x + d)) ∙ ap (λ n. n % x) (ahead_split a d x)

-- the extent of the sector that is so many behind another
pub ahead_in : (x : ℕ) (es : List ℕ) (a d : ℕ) → a + d < span x es → a / x + (a % x + d) / x < length es
ahead_in x es a d below =
    let index = ahead_div a d x (extent_some (a + d) (length es) x below) in omega (arith, index, in_extents x es (a + d) below)

-- and its place
pub ahead_spot : (x : ℕ) (es : List ℕ) (a d : ℕ) → a + d < span x es → slice_index es (a / x + (a % x + d) / x) * x + (a % x + d) % x ≡ spot x es (a + d)
unfolding spot
ahead_spot x es a d below =
    let index = ahead_div a d x (extent_some (a + d) (length es) x below) in
    ap₂ (λ i r. slice_index es i * x + r) index (ahead_mod a d x)

-- no two sectors of a volume stand in one place
pub spot_once : {size x : ℕ} {es : List ℕ} (p q : ℕ) → AreIn size x es → p < span x es → q < span x es → spot x es p ≡ spot x es q → p ≡ q
unfolding spot
spot_once {size} {x} {es} p q on p_in q_in same =
    let some = extent_some p (length es) x p_in in
    let two = same_from_place (slice_index es (p / x)) (p % x) (slice_index es (q / x)) (q % x) x (mod_below p x some) (mod_below q x some) same in
    let index : p / x ≡ q / x = on.once (p / x) (q / x) (in_extents x es p p_in) (in_extents x es q q_in) two.0 in
    sym (div-add-mod' p x) ∙ ap₂ (λ i r. i * x + r) index two.1 ∙ div-add-mod' q x

-- each stands in the area
pub spot_below : {size x : ℕ} {es : List ℕ} (p : ℕ) → AreIn size x es → p < span x es → spot x es p < size
unfolding spot
spot_below {size} {x} {es} p on p_in =
    let low = mod_below p x (extent_some p (length es) x p_in) in
    let most = on.within (p / x) (in_extents x es p p_in) in
    omega (arith, low, most)

-- so a call for it is for whole sectors of the area
pub spot_whole : {size x : ℕ} {es : List ℕ} (p place len wide : ℕ) → AreIn size x es → p < span x es → place ≡ spot x es p → len ≡ 512 → wide ≡ size
    → IsWhole place len wide
spot_whole {size} {x} {es} p place len wide on p_in is long same =
    let below = spot_below p on p_in in
    record { some = omega (arith, long); whole = omega (arith, long); within = omega (arith, long, same, is, below) }
