-- The extents that no volume beside a new one has: they stay, as it is made and grows; and an image with so many extents has room for its slots.
use Rattle.std.proofs.Common.{◌≡◌, ℕ, ◌+◌, ◌*◌, ◌<◌, ◌≤◌, Bool, true, false, cond, List, [], ◌∷◌, length, nat_lt, Some, refl, ap, arith}
use Rattle.std.specs.List.{AllByRecursion}
use Rattle.std.specs.Ordering.{is_lt}
use Rattle.std.proofs.lemmas.Bool.{lt-ltb}
use Rattle.std.proofs.lemmas.List.{length-append, length-take}
use Rattle.std.proofs.lemmas.List.Sums.{sum_by-cons}
use Rattle.std.proofs.lemmas.Nat.{mul-le}
use Rattle.sm_base.proofs.NumberLemmas.{div_up-le, le-div_up}
use Rattle.sm_base.specs.Names.{name_cmp}
use Rattle.sm_base.specs.Numbers.{div_up, first, thin}
use Rattle.sm_base.specs.declared.names.Name.{Name}
use Rattle.sm_base.specs.declared.sizes.Geometry.{Geometry}
use Rattle.vg_extents.specs.Fits.{AreLeastFree}
use Rattle.vg_extents.proofs.CountLaws.{length-free, low}
use Rattle.vg_meta.specs.Changes.{put, without}
use Rattle.vg_meta.specs.Tables.{IsTable, Row, VolumeTable, extents_in, free as free_of, rows, used}
use Rattle.vhd_volumes.specs.Truth.{HasRoomFor}
use Rattle.sm_importing.specs.Disks.{room_beside}
use Rattle.sm_importing.proofs.EndLaws.{used_without}

-- ---- extents that are free

all_low : (count : ℕ) (es : List ℕ) → AllByRecursion (λ (e : ℕ). e < count) es → low count es ≡ length es
all_low count [] all = refl
all_low count (e ∷ es) all =
    let one : cond {A = ℕ} (nat_lt e count) 1 0 ≡ 1 = ap (λ b. cond b 1 0) (lt-ltb e count all.0) in
    omega (arith, sum_by-cons (λ (x : ℕ). cond (nat_lt x count) 1 0) e es, one, all_low count es all.1)

-- free and used extents are all
pub free_used : (count : ℕ) (t : VolumeTable) → IsTable count t → length (free_of count t) + length (used t) ≡ count
free_used count t h = omega (arith, length-free count t h.volumes.distinct, all_low count (used t) h.volumes.below)

-- those that no volume beside this one has are the free ones and its own
pub room_split : (count : ℕ) (t : VolumeTable) (n : Name) (r : Row) → IsTable count t → rows t n ≡ Some r → room_beside count t n ≡ length (free_of count t) + length r.extents
room_split count t n r h there = omega (arith, free_used count t h, used_without t.volumes n r there)

-- ---- the volume is made

put_long : (r : Row) (rs : List Row) → length (extents_in (put r rs)) ≡ length r.extents + length (extents_in rs)
unfolding put
put_long r [] = length-append r.extents []
put_long r (s ∷ rs) = by (is_lt (name_cmp r.name s.name)) (put_long r rs)
  where
    by : (b : Bool) → length (extents_in (put r rs)) ≡ length r.extents + length (extents_in rs)
        → length (extents_in (cond b (r ∷ s ∷ rs) (s ∷ put r rs))) ≡ length r.extents + length (extents_in (s ∷ rs))
    by true rest = length-append r.extents (extents_in (s ∷ rs))
    by false rest = omega (arith, length-append s.extents (extents_in (put r rs)), length-append s.extents (extents_in rs), rest)

-- where the other volumes are those from before, so are the extents that they leave
pub room_made : (count : ℕ) (t u : VolumeTable) (n : Name) → IsTable count t → without n u.volumes ≡ t.volumes → room_beside count u n ≡ length (free_of count t)
room_made count t u n h same = omega (arith, free_used count t h, ap (λ (rs : List Row). length (extents_in rs)) same)

-- the volume that was put among them has its extents
pub made_long : (t u : VolumeTable) (n : Name) (new r : Row) → u.volumes ≡ put new t.volumes → without n u.volumes ≡ t.volumes → rows u n ≡ Some r → length r.extents ≡ length new.extents
made_long t u n new r is same there =
    omega (arith, used_without u.volumes n r there, ap (λ (rs : List Row). length (extents_in rs)) same, ap (λ (rs : List Row). length (extents_in rs)) is, put_long new t.volumes)

-- as many as were found are free
pub least_enough : (count need : ℕ) (t : VolumeTable) (es : List ℕ) → AreLeastFree count need t es → need ≤ length (free_of count t)
least_enough count need t es h = omega (arith, h.many, ap length h.least, length-take need (free_of count t))

-- ---- slots

-- so many slots have room in the extents of an image with them
pub thin_room : (g : Geometry) (slots most extents : ℕ) → slots ≤ most → thin g.extent g.block g.entries most ≤ extents → HasRoomFor g slots (extents * g.extent)
unfolding thin
thin_room g slots most extents few fits =
    let some = g.in_range.extent_least in
    let one = le-div_up (first g.entries + most * (1 + g.block) + 1) g.extent (omega (arith, some)) in
    let two = mul-le (div_up (first g.entries + most * (1 + g.block) + 1) g.extent) g.extent extents g.extent fits (omega arith) in
    let three = mul-le slots (1 + g.block) most (1 + g.block) few (omega arith) in
    omega (arith, one, two, three)

-- an image with more slots has no fewer extents
pub thin_more : (g : Geometry) (slots most : ℕ) → slots ≤ most → thin g.extent g.block g.entries slots ≤ thin g.extent g.block g.entries most
unfolding thin
thin_more g slots most few =
    let some = g.in_range.extent_least in
    let three = mul-le slots (1 + g.block) most (1 + g.block) few (omega arith) in
    let all = le-div_up (first g.entries + most * (1 + g.block) + 1) g.extent (omega (arith, some)) in
    div_up-le (first g.entries + slots * (1 + g.block) + 1) g.extent (div_up (first g.entries + most * (1 + g.block) + 1) g.extent) (omega (arith, some)) (omega (arith, all, three))
