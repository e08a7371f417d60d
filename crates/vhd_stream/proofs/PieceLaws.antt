-- Where the blocks of an exported file stand.
use Rattle.std.proofs.Common.{◌≡◌, ℕ, zero, suc, ◌+◌, ◌-◌, ◌*◌, ◌/◌, ◌%◌, ◌<◌, ◌≤◌, Bool, true, false, List, [], ◌∷◌, ◌++◌, length, length-append, take, drop, replicate, get_or, refl, sym, ap, ◌∙◌, arith}
use Rattle.std.specs.Int.{bit_at}
use Rattle.std.specs.List.{flat_map, range_with_len}
use Rattle.std.proofs.lemmas.List.{get_or-replicate, length-replicate, length-take, length-drop}
use Rattle.std.proofs.Math.ListN.{get_or-append}
use Rattle.std.proofs.Math.Nat.{mul-le-mul_right}
use Rattle.std.proofs.lemmas.List.Concat.{get_or-flat_map}
use Rattle.std.proofs.lemmas.List.Folds.{length-flat_map-take}
use Rattle.std.proofs.lemmas.List.FromFn.{length-range_with_len, get_or-range_with_len}
use Rattle.vhd_map.specs.Bitmaps.{is_set}
use Rattle.vhd_stream.specs.Exports.{DiskBlocks, full_bitmap, piece, pieces}

pub take-range : (a n k : ℕ) → k ≤ n → take k (range_with_len a n) ≡ range_with_len a k
take-range a n zero h = refl
take-range a zero (suc k) h = absurd (omega (arith, h))
take-range a (suc n) (suc k) h = let less : k ≤ n = omega (arith, h) in ap (λ l. a ∷ l) (take-range (a + 1) n k less)

-- ---- bitmaps

pub length-bitmap : (block : ℕ) → block ≤ 4096 → length (full_bitmap block) ≡ 512
unfolding full_bitmap
length-bitmap block h =
    let set : List ℕ = replicate (block / 8) 255 in
    let unset : List ℕ = replicate (512 - block / 8) 0 in
    let few : block / 8 ≤ 512 = omega arith in
    let many : length set ≡ block / 8 = length-replicate (block / 8) 255 in
    let others : length unset ≡ 512 - block / 8 = length-replicate (512 - block / 8) 0 in
    omega (arith, few, length-append set unset, many, others)

ones : (k : ℕ) → k < 8 → bit_at 255 k ≡ 1
ones zero h = refl
ones (suc zero) h = refl
ones (suc (suc zero)) h = refl
ones (suc (suc (suc zero))) h = refl
ones (suc (suc (suc (suc zero)))) h = refl
ones (suc (suc (suc (suc (suc zero))))) h = refl
ones (suc (suc (suc (suc (suc (suc zero)))))) h = refl
ones (suc (suc (suc (suc (suc (suc (suc zero))))))) h = refl
ones (suc (suc (suc (suc (suc (suc (suc (suc k)))))))) h = absurd (omega (arith, h))

pub set-bitmap : (block i : ℕ) → block % 8 ≡ 0 → i < block → is_set (full_bitmap block) i ≡ true
unfolding full_bitmap is_set
set-bitmap block i whole within =
    let set : List ℕ = replicate (block / 8) 255 in
    let unset : List ℕ = replicate (512 - block / 8) 0 in
    let few : i / 8 < block / 8 = omega arith in
    let many : length set ≡ block / 8 = length-replicate (block / 8) 255 in
    let front : i / 8 < length set = omega (arith, few, many) in
    let byte : get_or (set ++ unset) (i / 8) 0 ≡ 255 = get_or-append set unset 0 (i / 8) front ∙ get_or-replicate (block / 8) (i / 8) 255 0 few in
    let small : 7 - i % 8 < 8 = omega arith in
    rw (byte, ones (7 - i % 8) small) refl

-- ---- pieces

pub piece-there : (x : DiskBlocks) (b : ℕ) → x.there b ≡ true → piece x b ≡ full_bitmap x.block ∷ take x.block (drop (b * x.block) x.sectors)
unfolding piece
piece-there x b h = rw h refl

-- so many sectors
pub length-data : (x : DiskBlocks) (blocks b : ℕ) → length x.sectors ≡ blocks * x.block → b < blocks → length (take x.block (drop (b * x.block) x.sectors)) ≡ x.block
length-data x blocks b sized within =
    let more : b + 1 ≤ blocks = omega arith in
    let next : (b + 1) * x.block ≤ blocks * x.block = mul-le-mul_right x.block more in
    omega (arith, length-take x.block (drop (b * x.block) x.sectors), length-drop (b * x.block) x.sectors, sized, next)

pub length-piece : (x : DiskBlocks) (blocks b : ℕ) → length x.sectors ≡ blocks * x.block → b < blocks → x.there b ≡ true → length (piece x b) ≡ 1 + x.block
length-piece x blocks b sized within there = ap length (piece-there x b there) ∙ omega (arith, length-data x blocks b sized within)

pub length-piece_most : (x : DiskBlocks) (b : ℕ) → length (piece x b) ≤ 1 + x.block
unfolding piece
length-piece_most x b = by (x.there b) refl
  where
    by : (t : Bool) → x.there b ≡ t → length (piece x b) ≤ 1 + x.block
    by true h = rw h (omega (arith, length-take x.block (drop (b * x.block) x.sectors)))
    by false h = rw h (omega arith)

-- the pieces in front of a block, and the block's own
front : (x : DiskBlocks) (n b : ℕ) → b ≤ n → flat_map (piece x) (take b (range_with_len 0 n)) ≡ pieces x b
front x n b h = ap (flat_map (piece x)) (take-range 0 n b h)

nth : (n b : ℕ) → b < n → get_or (range_with_len 0 n) b 0 ≡ b
nth n b h = get_or-range_with_len 0 n b 0 h ∙ omega arith

pub pieces-at : (x : DiskBlocks) (n b j : ℕ) → b < n → j < length (piece x b) → get_or (pieces x n) (length (pieces x b) + j) [] ≡ get_or (piece x b) j []
pieces-at x n b j within part =
    let short : b ≤ n = omega arith in
    let long : b < length (range_with_len 0 n) = omega (arith, within, length-range_with_len 0 n) in
    let is = nth n b within in
    let has : j < length (piece x (get_or (range_with_len 0 n) b 0)) = rw is part in
    ap (λ (l : List (List ℕ)). get_or (pieces x n) (length l + j) []) (sym (front x n b short))
    ∙ get_or-flat_map (piece x) (range_with_len 0 n) b j 0 [] long has
    ∙ ap (λ k. get_or (piece x k) j []) is

-- what stands in front of a later block has the earlier one in it
pub pieces-more : (x : DiskBlocks) (n b : ℕ) → b < n → length (pieces x b) + length (piece x b) ≤ length (pieces x n)
pieces-more x n b within =
    let short : b ≤ n = omega arith in
    let long : b < length (range_with_len 0 n) = omega (arith, within, length-range_with_len 0 n) in
    let is = nth n b within in
    let all = length-flat_map-take (piece x) (range_with_len 0 n) b 0 long in
    omega (arith, all, ap length (front x n b short), ap (λ k. length (piece x k)) is)

flat-most : (x : DiskBlocks) (xs : List ℕ) → length (flat_map (piece x) xs) ≤ length xs * (1 + x.block)
flat-most x [] = omega arith
flat-most x (b ∷ xs) =
    let one : (length xs + 1) * (1 + x.block) ≡ length xs * (1 + x.block) + (1 + x.block) = omega arith in
    omega (arith, length-append (piece x b) (flat_map (piece x) xs), length-piece_most x b, flat-most x xs, one)

pub pieces-most : (x : DiskBlocks) (b : ℕ) → length (pieces x b) ≤ b * (1 + x.block)
pieces-most x b = rw (length-range_with_len 0 b) at (flat-most x (range_with_len 0 b))
