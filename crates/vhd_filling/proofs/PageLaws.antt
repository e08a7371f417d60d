-- A page that is changed in one part.
use Rattle.std.proofs.Common.{◌≡◌, ℕ, ◌+◌, ◌-◌, ◌*◌, ◌≤◌, ◌<◌, List, length, take, replicate, sym, ap, ◌∙◌, arith}
use Rattle.std.proofs.lemmas.List.{drop-replicate, take-replicate}
use Rattle.std.proofs.lemmas.Slice.{take-put_mid_below, drop-put_mid, between-put_mid}
use borrow.Rule.Slice.PartMut.{put_mid}
use Rattle.sm_disk.specs.Sectors.{sector, zeros}
use Rattle.sm_disk.proofs.SectorLaws.{sector-part}

-- behind the part that was put each sector is as it was
pub sector-put_mid_above : (xs ys : List ℕ) (a k i j : ℕ) → a ≡ 512 * i → k ≡ 512 → 512 * i + 512 ≤ length xs → length ys ≡ 512 → i < j → sector (put_mid a k xs ys) j ≡ sector xs j
unfolding sector
sector-put_mid_above xs ys a k i j from wide within long above = ap (take 512) (drop-put_mid a k xs ys (512 * j) (omega arith) (omega arith) (omega arith))

-- a sector of zeros
pub sector-replicate : (n i : ℕ) → 512 * i + 512 ≤ n → sector (replicate n 0) i ≡ zeros
unfolding sector zeros
sector-replicate n i within = ap (take 512) (drop-replicate (512 * i) n 0) ∙ take-replicate 512 (n - 512 * i) 0 (omega arith)

-- in front of the part that was put, and in it
pub sector-put_mid_first : (xs ys : List ℕ) (k : ℕ) → 512 ≤ length xs → sector (put_mid 512 k xs ys) 0 ≡ sector xs 0
unfolding sector
sector-put_mid_first xs ys k long = take-put_mid_below 512 k xs ys 512 (omega arith) long

pub sector-cleared : (xs ys : List ℕ) (k n i : ℕ) → ys ≡ replicate n 0 → n ≡ length xs - 512 → length ys ≡ length xs - 512 → 512 ≤ length xs → 1 ≤ i → 512 * i + 512 ≤ length xs → sector (put_mid 512 k xs ys) i ≡ zeros
sector-cleared xs ys k n i is many wide long some within =
    let at : i ≡ 1 + (i - 1) = omega arith in
    let part = between-put_mid 512 k xs ys (length xs) long wide in
    ap (sector (put_mid 512 k xs ys)) at
    ∙ (sym (sector-part (put_mid 512 k xs ys) 1 (length xs - 512) (i - 1) (omega arith))
    ∙ (ap (λ (z : List ℕ). sector z (i - 1)) (part ∙ is) ∙ sector-replicate n (i - 1) (omega arith)))
