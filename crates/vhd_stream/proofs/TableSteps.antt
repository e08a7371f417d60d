-- The table of an exported file, entry by entry.
use Rattle.std.proofs.Common.{◌≡◌, ◌⊎◌, inl, inr, ℕ, suc, ◌+◌, ◌*◌, ◌/◌, ◌<◌, ◌≤◌, min, nat_lt, Bool, true, false, cond, List, [], ◌∷◌, length, length-append, take, drop, refl, sym, ap, ◌∙◌, arith}
use Rattle.std.proofs.Math.Path.{fun_ext}
use Rattle.std.proofs.Math.Nat.{mul-div_cancel, mul-le-mul}
use Rattle.std.proofs.lemmas.List.{length-take, length-drop}
use Rattle.std.proofs.lemmas.Bool.{cases_lt, lt-ltb, le-ltb}
use Rattle.std.specs.List.{flat_map, range_with_len}
use Rattle.std.specs.Prelude.{◌&&◌}
use Rattle.byteorder.specs.Endian.{big_bytes}
use Rattle.sm_base.specs.Numbers.{div_up}
use Rattle.vhd_map.specs.Places.{blank}
use Rattle.vhd_stream.specs.Exports.{DiskBlocks, block_count, entry_of, piece, pieces, place, table_sector, table_sectors}
use Rattle.vhd_stream.proofs.PieceLaws.{length-piece, pieces-most}
use Rattle.vhd_stream.proofs.RangeLaws.{flat-more}

-- ---- a disk with other sectors, as many of them, has the same table

module _ (block : ℕ) (there : ℕ → Bool) (xs ys : List (List ℕ)) (long : length xs ≡ length ys) where
  abbrev x : DiskBlocks
  x = record { block = block; there = there; sectors = xs }

  abbrev y : DiskBlocks
  y = record { block = block; there = there; sectors = ys }

  piece-same : (b : ℕ) → length (piece x b) ≡ length (piece y b)
  unfolding piece
  piece-same b = by (there b)
    where
      by : (t : Bool) → length (cond t (Rattle.vhd_stream.specs.Exports.full_bitmap block ∷ take block (drop (b * block) xs)) []) ≡ length (cond t (Rattle.vhd_stream.specs.Exports.full_bitmap block ∷ take block (drop (b * block) ys)) [])
      by true = omega (arith, long, length-take block (drop (b * block) xs), length-take block (drop (b * block) ys), length-drop (b * block) xs, length-drop (b * block) ys)
      by false = refl

  pieces-same : (bs : List ℕ) → length (flat_map (piece x) bs) ≡ length (flat_map (piece y) bs)
  pieces-same [] = refl
  pieces-same (b ∷ bs) = omega (arith, length-append (piece x b) (flat_map (piece x) bs), length-append (piece y b) (flat_map (piece y) bs), piece-same b, pieces-same bs)

  count-same : block_count x ≡ block_count y
  count-same = ap (λ m. m / block) long

  entry-same : (b : ℕ) → entry_of x b ≡ entry_of y b
  unfolding entry_of place
  entry-same b =
      ap (λ m. cond (nat_lt b m && there b) (3 + div_up m 128 + length (pieces x b)) blank) count-same
      ∙ ap (λ m. cond (nat_lt b (block_count y) && there b) (3 + table_sectors y + m) blank) (pieces-same (range_with_len 0 b))

  pub table-same : (t : ℕ) → table_sector x t ≡ table_sector y t
  unfolding table_sector
  table-same t = ap (λ (f : ℕ → ℕ). flat_map (λ b. big_bytes 4 (f b)) (range_with_len (128 * t) 128)) (fun_ext entry-same)

pub piece-empty : (x : DiskBlocks) (b : ℕ) → x.there b ≡ false → piece x b ≡ []
unfolding piece
piece-empty x b h = rw h refl

piece-none : (x : DiskBlocks) (b : ℕ) → x.there b ≡ false → length (piece x b) ≡ 0
piece-none x b h = ap length (piece-empty x b h)

-- ---- from one entry to the next

module _ (x : DiskBlocks) (count : ℕ) (sized : length x.sectors ≡ count * x.block) (least : 8 ≤ x.block) (most : x.block ≤ 4096) (few : count ≤ 1044480) where
  pub count-is : block_count x ≡ count
  count-is = ap (λ m. m / x.block) sized ∙ mul-div_cancel count (let some : 0 < x.block = omega (arith, least) in some)

  pub place-first : place x 0 ≡ 3 + div_up count 128
  unfolding place
  place-first = let e = ap (λ m. div_up m 128) count-is in omega (arith, e)

  pub place-bound : (b : ℕ) → b ≤ count → place x b ≤ 4279242723
  unfolding place div_up
  place-bound b within =
      let short : b ≤ 1044480 = omega (arith, within, few) in
      let wide : 1 + x.block ≤ 4097 = omega (arith, most) in
      let all : b * (1 + x.block) ≤ 1044480 * 4097 = mul-le-mul short wide in
      omega (arith, count-is, few, all, pieces-most x b)

  pub place-min : (b : ℕ) → place x (min b count) ≤ 4279242723
  place-min b = place-bound (min b count) (omega arith)

  -- whether a block is sent
  abbrev sent : ℕ → Bool
  sent b = nat_lt b count && x.there b

  place-more : (b : ℕ) → b < count → place x (suc b) ≡ cond (x.there b) (place x b + (1 + x.block)) (place x b)
  unfolding place
  place-more b within = by (x.there b) refl
    where
      grown : length (pieces x (suc b)) ≡ length (pieces x b) + length (piece x b)
      grown = ap length (sym (flat-more (piece x) 0 b b (suc b) (omega arith) (omega arith))) ∙ length-append (pieces x b) (piece x b)

      by : (t : Bool) → x.there b ≡ t → 3 + table_sectors x + length (pieces x (suc b)) ≡ cond (x.there b) (3 + table_sectors x + length (pieces x b) + (1 + x.block)) (3 + table_sectors x + length (pieces x b))
      by true h = rw h (omega (arith, grown, length-piece x count b sized within h))
      by false h = rw h (omega (arith, grown, piece-none x b h))

  pub place-next : (b : ℕ) → place x (min (b + 1) count) ≡ cond (sent b) (place x (min b count) + (1 + x.block)) (place x (min b count))
  place-next b = by (cases_lt b count)
    where
      by : (b < count) ⊎ (count ≤ b) → place x (min (b + 1) count) ≡ cond (sent b) (place x (min b count) + (1 + x.block)) (place x (min b count))
      by (inl below) =
          let here : min b count ≡ b = omega arith in
          let next : min (b + 1) count ≡ suc b = omega (arith, below) in
          rw (here, next, lt-ltb b count below) (place-more b below)
      by (inr past) =
          let here : min b count ≡ count = omega (arith, past) in
          let next : min (b + 1) count ≡ count = omega (arith, past) in
          rw (here, next, le-ltb b count past) refl

  pub entry-is : (b : ℕ) → cond (sent b) (place x (min b count)) blank ≡ entry_of x b
  unfolding entry_of
  entry-is b = by (cases_lt b count)
    where
      by : (b < count) ⊎ (count ≤ b) → cond (sent b) (place x (min b count)) blank ≡ cond (nat_lt b (block_count x) && x.there b) (place x b) blank
      by (inl below) =
          let here : min b count ≡ b = omega arith in
          rw (here, count-is) refl
      by (inr past) = rw (count-is, le-ltb b count past) refl

-- ---- so far

-- so many entries of a sector of the table are in place, and the next block that is there begins at this place
pub record IsFilledTo (x : DiskBlocks) (count first at next : ℕ) (to : List ℕ) : Type 0 where
  pub long : length to ≡ 512
  pub place_is : next ≡ place x (min (first + at) count)
  pub bytes : take (4 * at) to ≡ flat_map (λ b. big_bytes 4 (entry_of x b)) (range_with_len first at)
