-- Laws of sectors in a run of bytes.
use Rattle.std.proofs.Common.{◌≡◌, ℕ, ◌+◌, ◌-◌, ◌*◌, ◌<◌, ◌≤◌, List, ◌++◌, length, take, drop, sym, refl, ap, ◌∙◌, arith}
use Rattle.std.proofs.lemmas.List.{length-take, length-drop, length-replicate, take_all, take-append-le, drop-append-le, drop-drop, drop-take, take-take}
use Rattle.std.proofs.lemmas.Slice.{take-put_mid_below, between-put_mid}
use borrow.Rule.Slice.PartMut.{put_mid}
use Rattle.std.proofs.lemmas.List.Elements.{All-replicate}
use Rattle.sm_disk.specs.Sectors.{IsSector, sector, zeros}

pub length-sector : (bytes : List ℕ) (i : ℕ) → 512 * i + 512 ≤ length bytes → length (sector bytes i) ≡ 512
unfolding sector
length-sector bytes i h = omega (arith, length-take 512 (drop (512 * i) bytes), length-drop (512 * i) bytes)

pub IsSector-zeros : IsSector zeros
unfolding zeros
IsSector-zeros = record {
  long = length-replicate {A = ℕ} 512 0;
  bytes = All-replicate (λ b. b < 256) 512 0 (omega arith);
}

-- the only sector of 512 bytes
pub sector-one : (bytes : List ℕ) → length bytes ≡ 512 → sector bytes 0 ≡ bytes
unfolding sector
sector-one bytes long = take_all 512 bytes (omega arith)

pub sector-append_left : (xs ys : List ℕ) (i : ℕ) → 512 * i + 512 ≤ length xs → sector (xs ++ ys) i ≡ sector xs i
unfolding sector
sector-append_left xs ys i h =
    let near : 512 * i ≤ length xs = omega arith in
    ap (take 512) (drop-append-le (512 * i) xs ys near)
    ∙ take-append-le 512 (drop (512 * i) xs) ys (omega (arith, length-drop (512 * i) xs))

pub sector-drop : (bytes : List ℕ) (n i : ℕ) → sector (drop (512 * n) bytes) i ≡ sector bytes (n + i)
unfolding sector
sector-drop bytes n i =
    let at : 512 * n + 512 * i ≡ 512 * (n + i) = omega arith in
    ap (take 512) (drop-drop (512 * i) (512 * n) bytes ∙ ap (λ m. drop m bytes) at)

pub sector-take : (bytes : List ℕ) (len i : ℕ) → 512 * i + 512 ≤ len → sector (take len bytes) i ≡ sector bytes i
unfolding sector
sector-take bytes len i h =
    let all : len ≡ 512 * i + (len - 512 * i) = omega arith in
    ap (λ m. take 512 (drop (512 * i) (take m bytes))) all
    ∙ ap (take 512) (drop-take (512 * i) (len - 512 * i) bytes)
    ∙ take-take 512 (len - 512 * i) (drop (512 * i) bytes) (omega arith)

-- the sectors of a part
pub sector-part : (bytes : List ℕ) (n len i : ℕ) → 512 * i + 512 ≤ len → sector (take len (drop (512 * n) bytes)) i ≡ sector bytes (n + i)
sector-part bytes n len i h = sector-take (drop (512 * n) bytes) len i h ∙ sector-drop bytes n i

-- a part of one sector
pub range-sector : (bytes : List ℕ) (a b i : ℕ) → a ≡ 512 * i → b ≡ a + 512 → take (b - a) (drop a bytes) ≡ sector bytes i
unfolding sector
range-sector bytes a b i from to =
    let long : b - a ≡ 512 = omega arith in
    ap (λ n. take n (drop a bytes)) long ∙ ap (λ n. take 512 (drop n bytes)) from

-- after a write to such a part
pub sector-put_mid_same : (xs ys : List ℕ) (a k i : ℕ) → a ≡ 512 * i → 512 * i + 512 ≤ length xs → length ys ≡ 512 → sector (put_mid a k xs ys) i ≡ ys
sector-put_mid_same xs ys a k i from within long =
    let to : a + 512 ≡ a + 512 = refl in
    sym (range-sector (put_mid a k xs ys) a (a + 512) i from refl) ∙ between-put_mid a k xs ys (a + 512) (omega arith) (omega arith)

pub sector-put_mid_below : (xs ys : List ℕ) (a k i j : ℕ) → a ≡ 512 * i → 512 * i + 512 ≤ length xs → j < i → sector (put_mid a k xs ys) j ≡ sector xs j
sector-put_mid_below xs ys a k i j from within below =
    sym (sector-take (put_mid a k xs ys) a j (omega arith))
    ∙ ap (λ l. sector l j) (take-put_mid_below a k xs ys a (omega arith) (omega arith))
    ∙ sector-take xs a j (omega arith)
