-- The table of an exported file.
use Rattle.std.proofs.Common.{◌≡◌, ℕ, ◌+◌, ◌*◌, ◌^◌, ◌<◌, ◌≤◌, List, [], ◌∷◌, length, take, get_or, refl, sym, ap, ◌∙◌, add-zero, arith}
use Rattle.std.specs.List.{flat_map, range_with_len}
use Rattle.byteorder.specs.Endian.{big_bytes}
use Rattle.std.proofs.lemmas.Nat.{from_be_bytes-to_be_bytes_4}
use Rattle.std.proofs.lemmas.List.Concat.{get_or-flat_map}
use Rattle.std.proofs.lemmas.List.FromFn.{length-range_with_len, get_or-range_with_len}
use Rattle.vhd_map.specs.Places.{word}
use Rattle.vhd_stream.specs.Exports.{DiskBlocks, entry_of, table_sector}
use Rattle.vhd_stream.proofs.PieceLaws.{take-range}

-- numbers of four bytes each
length-fours : (f : ℕ → ℕ) (xs : List ℕ) → length (flat_map (λ b. big_bytes 4 (f b)) xs) ≡ 4 * length xs
length-fours f [] = refl
length-fours f (x ∷ xs) = omega (arith, length-fours f xs)

four : (f : ℕ → ℕ) (a n j k : ℕ) → j < n → k < 4 → get_or (flat_map (λ b. big_bytes 4 (f b)) (range_with_len a n)) (4 * j + k) 0 ≡ get_or (big_bytes 4 (f (a + j))) k 0
four f a n j k within small =
    let xs = range_with_len a n in
    let short : j ≤ n = omega arith in
    let long : j < length xs = omega (arith, within, length-range_with_len a n) in
    let ahead : length (flat_map (λ b. big_bytes 4 (f b)) (take j xs)) ≡ 4 * j =
    ap (λ (l : List ℕ). length (flat_map (λ b. big_bytes 4 (f b)) l)) (take-range a n j short) ∙ length-fours f (range_with_len a j) ∙ ap (λ m. 4 * m) (length-range_with_len a j) in
    ap (λ m. get_or (flat_map (λ b. big_bytes 4 (f b)) xs) (m + k) 0) (sym ahead)
    ∙ get_or-flat_map (λ b. big_bytes 4 (f b)) xs j k 0 0 long small
    ∙ ap (λ m. get_or (big_bytes 4 (f m)) k 0) (get_or-range_with_len a n j 0 within)

pub length-table : (x : DiskBlocks) (t : ℕ) → length (table_sector x t) ≡ 512
unfolding table_sector
length-table x t = length-fours (entry_of x) (range_with_len (128 * t) 128) ∙ ap (λ m. 4 * m) (length-range_with_len (128 * t) 128)

pub word-table : (x : DiskBlocks) (t j : ℕ) → j < 128 → entry_of x (128 * t + j) < 2 ^ 32 → word (table_sector x t) j ≡ entry_of x (128 * t + j)
unfolding table_sector word
word-table x t j within small =
    let e = entry_of x (128 * t + j) in
    let at : (k : ℕ) → k < 4 → get_or (table_sector x t) (4 * j + k) 0 ≡ get_or (big_bytes 4 e) k 0 = λ k h. four (entry_of x) (128 * t) 128 j k within h in
    let first : get_or (table_sector x t) (4 * j) 0 ≡ get_or (big_bytes 4 e) 0 0 = rw (← add-zero (4 * j)) (at 0 (omega arith)) in
    rw (first, at 1 (omega arith), at 2 (omega arith), at 3 (omega arith)) (from_be_bytes-to_be_bytes_4 e small)
