-- An exported file holds the disk's sectors.
use Rattle.std.proofs.Common.{◌≡◌, ◌≢◌, ◌⊎◌, inl, inr, ℕ, ◌+◌, ◌-◌, ◌*◌, ◌/◌, ◌%◌, ◌^◌, ◌<◌, ◌≤◌, Bool, true, false, List, [], ◌∷◌, ◌++◌, length, length-append, map, take, drop, replicate, get_or, refl, sym, ap, ◌∙◌, add-zero, arith, subst}
use Rattle.std.specs.Prelude.{nat_lt, ◌==◌, sum, All, IsTrue}
use Rattle.std.specs.List.{concat, flat_map, range_with_len}
use Rattle.std.proofs.lemmas.List.{get_or-append-add, get_or-take, get_or-drop, length-replicate, length-take, length-drop, take-append-drop}
use Rattle.std.proofs.lemmas.List.Elements.{All-append, All-cons, All-nil, All-take, All-drop}
use Rattle.std.proofs.Math.ListN.{get_or-append}
use Rattle.std.proofs.Math.Nat.{mul-div_cancel, mul-div_cancel_left, mul-le-mul, div-lt_iff_lt-mul, mod-lt, mod-add-div}
use Rattle.std.proofs.lemmas.Nat.{div-mul-add}
use Rattle.std.proofs.lemmas.List.FromFn.{length-map-range_with_len, get_or-map-range_with_len}
use Rattle.std.proofs.lemmas.Bool.{cases_lt}
use Rattle.std.proofs.lemmas.Bool.Decides.{nat_tests}
use Rattle.byteorder.specs.Endian.{big_bytes}
use Rattle.sm_base.specs.Numbers.{div_up}
use Rattle.vhd_fields.specs.declared.footers.Footer.{Footer}
use Rattle.vhd_fields.specs.Checksums.{ones_complement, sealed}
use Rattle.vhd_fields.specs.Footers.{FooterFits, IsFooter, footer_back, footer_bytes, footer_front, is_size}
use Rattle.vhd_fields.specs.Headers.{HeaderFits, IsHeader, header_back, header_bytes, header_front, header_read, is_block, is_entries}
use Rattle.vhd_fields.specs.ParentNames.{IsParent, parent_bytes}
use Rattle.vhd_fields.proofs.FooterLaws as footers
use Rattle.vhd_fields.proofs.HeaderLaws as headers
use Rattle.vhd_map.specs.Places.{blank, word}
use Rattle.vhd_stream.specs.Exports.{DiskBlocks, block_count, entry_of, export_footer, export_header, exported, full_bitmap, piece, pieces, place, table_sector, table_sectors}
use Rattle.vhd_stream.specs.Files.{AreSectors, File, FileOf, FileLayout, IsCutInto, IsDynamic, IsTable, IsThere, block_end, entry, file_sector, layout_of, sector_at, sector_in, table_end}
use Rattle.vhd_stream.specs.Laws.{AreExportable}
use Rattle.vhd_stream.proofs.PieceLaws.{length-bitmap, length-piece, piece-there, pieces-at, pieces-more, pieces-most, set-bitmap}
use Rattle.vhd_stream.proofs.TableLaws.{length-table, word-table}

-- ---- footer and header

fits-footer : (size : ℕ) (uuid : List ℕ) (now : ℕ) → length uuid ≡ 16 → now < 2 ^ 32 → size ≤ 1044480 * 4096 → FooterFits (export_footer size uuid now)
fits-footer size uuid now long early small = record {
  stamp = early;
  creator = refl;
  creator_version = omega arith;
  host = omega arith;
  original = omega arith;
  current = omega arith;
  kind = omega arith;
  data_offset = omega arith;
  uid = long;
}

good-footer : (size : ℕ) (uuid : List ℕ) (now : ℕ) → 1 ≤ size → IsFooter (export_footer size uuid now)
good-footer size uuid now some = record {
  data_offset = refl;
  size = let h : is_size (512 * size) ≡ true = grind (arith, nat_tests) in h;
  kind = refl;
}

length-footer : (f : Footer) → FooterFits f → length (footer_bytes f) ≡ 512
unfolding footer_bytes sealed footer_back
length-footer f room =
    let front : List ℕ = concat (footer_front f) in
    let tail : List ℕ = replicate 428 0 in
    let back : List ℕ = f.uid ++ (tail ++ []) in
    let many : length tail ≡ 428 = length-replicate {A = ℕ} 428 0 in
    omega (arith, footers.length_front f room, length-append front (big_bytes 4 (ones_complement (sum front + sum back)) ++ back), length-append f.uid (tail ++ []), length-append tail [], many, room.uid)

good-header : (blocks block : ℕ) → 1 ≤ blocks → blocks ≤ 1044480 → IsTrue (is_block (512 * block)) → IsHeader (export_header blocks block)
unfolding IsParent
good-header blocks block some few block_fits = record {
  table_offset = refl;
  entries = let h : is_entries blocks ≡ true = grind (arith, nat_tests) in h;
  block = block_fits;
  parent = tt;
}

fits-header : (blocks block : ℕ) → blocks ≤ 1044480 → block ≤ 4096 → HeaderFits (export_header blocks block)
fits-header blocks block few small = record {
  table_offset = omega arith;
  entries = omega arith;
  block = omega arith;
  parent_uid = refl;
  parent_stamp = omega arith;
}

length-header : (blocks block : ℕ) → length (header_bytes (export_header blocks block)) ≡ 1024
unfolding header_bytes sealed header_front header_back parent_bytes
length-header blocks block =
    let name : List ℕ = replicate 512 0 in
    let tail : List ℕ = replicate 448 0 in
    let many : length name ≡ 512 = length-replicate {A = ℕ} 512 0 in
    let others : length tail ≡ 448 = length-replicate {A = ℕ} 448 0 in
    omega (arith, length-append name (tail ++ []), length-append tail [], many, others)

-- ---- the sectors of a file of these parts

file_with : List ℕ → List ℕ → List ℕ → List (List ℕ) → List (List ℕ) → List ℕ → File
file_with h i j ts ps f = h ∷ i ∷ j ∷ (ts ++ (ps ++ f ∷ []))

behind_head : (h i j : List ℕ) (rest : List (List ℕ)) (k : ℕ) → get_or (h ∷ i ∷ j ∷ rest) (3 + k) [] ≡ get_or rest k []
behind_head h i j rest k = get_or-append-add (h ∷ i ∷ j ∷ []) rest k []

in_table : (h i j f : List ℕ) (ts ps : List (List ℕ)) (t : ℕ) → t < length ts → sector_at (file_with h i j ts ps f) (3 + t) ≡ get_or ts t []
unfolding file_with
in_table h i j f ts ps t within = behind_head h i j (ts ++ (ps ++ f ∷ [])) t ∙ get_or-append ts (ps ++ f ∷ []) [] t within

in_pieces : (h i j f : List ℕ) (ts ps : List (List ℕ)) (k : ℕ) → k < length ps → sector_at (file_with h i j ts ps f) (3 + (length ts + k)) ≡ get_or ps k []
unfolding file_with
in_pieces h i j f ts ps k within =
    behind_head h i j (ts ++ (ps ++ f ∷ [])) (length ts + k) ∙ get_or-append-add ts (ps ++ f ∷ []) k [] ∙ get_or-append ps (f ∷ []) [] k within

length_with : (h i j f : List ℕ) (ts ps : List (List ℕ)) → length (file_with h i j ts ps f) ≡ 3 + length ts + length ps + 1
unfolding file_with
length_with h i j f ts ps = omega (arith, length-append ts (ps ++ f ∷ []), length-append ps (f ∷ []))

-- ---- the exported file

-- what is needed of it: its parts and their numbers
record Exported (x : DiskBlocks) (blocks : ℕ) (file : File) : Type 0 where
  count : block_count x ≡ blocks
  long : length file ≡ 3 + table_sectors x + length (pieces x blocks) + 1
  table : (t : ℕ) → t < table_sectors x → sector_at file (3 + t) ≡ table_sector x t
  pieces_are : (b j : ℕ) → b < blocks → j < length (piece x b) → sector_at file (place x b + j) ≡ get_or (piece x b) j []

block-count : (x : DiskBlocks) (blocks : ℕ) → AreExportable x blocks → block_count x ≡ blocks
block-count x blocks s =
    let some : 0 < x.block = omega (arith, s.block_least) in
    ap (λ m. m / x.block) s.sized ∙ mul-div_cancel blocks some

is-exported : (x : DiskBlocks) (blocks : ℕ) (uuid : List ℕ) (now : ℕ) → AreExportable x blocks → Exported x blocks (exported x uuid now)
unfolding file_with place
is-exported x blocks uuid now s =
    let count = block-count x blocks s in
    let footer : List ℕ = footer_bytes (export_footer (length x.sectors) uuid now) in
    let header : List ℕ = header_bytes (export_header (block_count x) x.block) in
    let ts = map (table_sector x) (range_with_len 0 (table_sectors x)) in
    let ps = pieces x (block_count x) in
    let many : length ts ≡ table_sectors x = length-map-range_with_len (table_sector x) 0 (table_sectors x) in
    let same : length ps ≡ length (pieces x blocks) = ap (λ m. length (pieces x m)) count in
    record {
      count = count;
      long = omega (arith, length_with footer (take 512 header) (drop 512 header) footer ts ps, many, same);
      table = λ t within.
          let has : t < length ts = omega (arith, many, within) in
          in_table footer (take 512 header) (drop 512 header) footer ts ps t has
          ∙ get_or-map-range_with_len (table_sector x) 0 (table_sectors x) t t [] within (omega arith);
      pieces_are = λ b j within part.
          let k = length (pieces x b) + j in
          let room : k < length ps = omega (arith, pieces-more x blocks b within, part, same) in
          let at : place x b + j ≡ 3 + (length ts + k) = omega (arith, many) in
          ap (sector_at (exported x uuid now)) at
          ∙ in_pieces footer (take 512 header) (drop 512 header) footer ts ps k room
          ∙ ap (λ m. get_or (pieces x m) k []) count ∙ pieces-at x blocks b j within part;
    }

-- ---- its numbers

abbrev layout : DiskBlocks → ℕ → FileLayout
layout x blocks = record { table = 3; entries = blocks; block = x.block; blocks = blocks }

whole-blocks : (blocks block : ℕ) → 1 ≤ block → div_up (blocks * block) block ≡ blocks
unfolding div_up
whole-blocks blocks block some =
    let same : blocks * block + block - 1 ≡ blocks * block + (block - 1) = omega arith in
    let part : block - 1 < block = omega arith in
    ap (λ m. m / block) same ∙ div-mul-add blocks block (block - 1) part

same-layout : (x : DiskBlocks) (blocks : ℕ) (uuid : List ℕ) (now : ℕ) → AreExportable x blocks → layout_of (export_footer (length x.sectors) uuid now) (export_header (block_count x) x.block) ≡ layout x blocks
same-layout x blocks uuid now s =
    let some : 0 < 512 = omega arith in
    let least : 1 ≤ x.block = omega (arith, s.block_least) in
    let count = block-count x blocks s in
    let block_is : (512 * x.block) / 512 ≡ x.block = mul-div_cancel_left x.block some in
    let size_is : (512 * length x.sectors) / 512 ≡ length x.sectors = mul-div_cancel_left (length x.sectors) some in
    let blocks_are : div_up (length x.sectors) x.block ≡ blocks = ap (λ m. div_up m x.block) s.sized ∙ whole-blocks blocks x.block least in
    rw (count, block_is, size_is, blocks_are) refl

place-small : (x : DiskBlocks) (blocks b : ℕ) → AreExportable x blocks → b ≤ blocks → place x b < blank
unfolding place div_up
place-small x blocks b s within =
    let count = block-count x blocks s in
    let few : b ≤ 1044480 = omega (arith, s.most, within) in
    let short : 1 + x.block ≤ 4097 = omega (arith, s.block_most) in
    let most : b * (1 + x.block) ≤ 1044480 * 4097 = mul-le-mul few short in
    let front : length (pieces x b) ≤ b * (1 + x.block) = pieces-most x b in
    omega (arith, count, s.most, most, front)

entry-there : (x : DiskBlocks) (blocks b : ℕ) → block_count x ≡ blocks → b < blocks → x.there b ≡ true → entry_of x b ≡ place x b
unfolding entry_of
entry-there x blocks b count within there =
    let below : nat_lt b (block_count x) ≡ true = grind (arith, nat_tests) in
    rw (below, there) refl

entry-blank : (x : DiskBlocks) (b : ℕ) → x.there b ≡ false → entry_of x b ≡ blank
unfolding entry_of
entry-blank x b there = by (nat_lt b (block_count x)) refl
  where
    by : (t : Bool) → nat_lt b (block_count x) ≡ t → entry_of x b ≡ blank
    by true h = rw (h, there) refl
    by false h = rw h refl

there_or_not : (b : Bool) → (b ≡ true) ⊎ (b ≡ false)
there_or_not true = inl refl
there_or_not false = inr refl

entry-small : (x : DiskBlocks) (blocks b : ℕ) → AreExportable x blocks → b < blocks → entry_of x b < 2 ^ 32
entry-small x blocks b s within = by (there_or_not (x.there b))
  where
    by : (x.there b ≡ true) ⊎ (x.there b ≡ false) → entry_of x b < 2 ^ 32
    by (inl h) = let short : b ≤ blocks = omega arith in omega (arith, entry-there x blocks b (block-count x blocks s) within h, place-small x blocks b s short)
    by (inr h) = omega (arith, entry-blank x b h)

file-entry : (x : DiskBlocks) (blocks b : ℕ) (file : File) → AreExportable x blocks → Exported x blocks file → b < blocks → entry (layout x blocks) file b ≡ entry_of x b
unfolding entry div_up
file-entry x blocks b file s e within =
    let t = b / 128 in
    let row : t < table_sectors x = omega (arith, e.count) in
    let column : b % 128 < 128 = omega arith in
    let is : 128 * t + b % 128 ≡ b = omega arith in
    let small : entry_of x (128 * t + b % 128) < 2 ^ 32 = rw is (entry-small x blocks b s within) in
    ap (λ (l : List ℕ). word l (b % 128)) (e.table t row) ∙ word-table x t (b % 128) column small ∙ ap (entry_of x) is

-- ---- its table

is-there : (x : DiskBlocks) (blocks b : ℕ) (file : File) → AreExportable x blocks → Exported x blocks file → IsThere (layout x blocks) file b → (x.there b ≡ true) × (entry (layout x blocks) file b ≡ place x b)
is-there x blocks b file s e is = by (there_or_not (x.there b))
  where
    by : (x.there b ≡ true) ⊎ (x.there b ≡ false) → (x.there b ≡ true) × (entry (layout x blocks) file b ≡ place x b)
    by (inl h) = (h, file-entry x blocks b file s e is.below ∙ entry-there x blocks b e.count is.below h)
    by (inr h) = absurd (is.named (file-entry x blocks b file s e is.below ∙ entry-blank x b h))

is-table : (x : DiskBlocks) (blocks : ℕ) (file : File) → AreExportable x blocks → Exported x blocks file → IsTable (layout x blocks) file
unfolding place
is-table x blocks file s e = record {
  behind = λ b is. let t = is-there x blocks b file s e is in omega (arith, t.1, ap (λ m. div_up m 128) e.count);
  whole = λ b is.
      let t = is-there x blocks b file s e is in
      omega (arith, t.1, e.long, pieces-more x blocks b is.below, length-piece x blocks b s.sized is.below t.0);
  apart = λ b c is other differ.
      let t = is-there x blocks b file s e is in
      let u = is-there x blocks c file s e other in
      by b c is.below other.below t.0 u.0 t.1 u.1 differ (cases_lt b c);
}
  where
    by : (b c : ℕ) → b < blocks → c < blocks → x.there b ≡ true → x.there c ≡ true → entry (layout x blocks) file b ≡ place x b → entry (layout x blocks) file c ≡ place x c → b ≢ c
        → (b < c) ⊎ (c ≤ b) → (block_end (layout x blocks) file b ≤ entry (layout x blocks) file c) ⊎ (block_end (layout x blocks) file c ≤ entry (layout x blocks) file b)
    by b c low high t u at other differ (inl less) = inl (omega (arith, at, other, pieces-more x c b less, length-piece x blocks b s.sized low t))
    by b c low high t u at other differ (inr more) =
        let less : c < b = omega (arith, more, differ) in
        inr (omega (arith, at, other, pieces-more x b c less, length-piece x blocks c s.sized high u))

-- ---- its sectors

data_at : (x : DiskBlocks) (b i : ℕ) → i < x.block → get_or (take x.block (drop (b * x.block) x.sectors)) i [] ≡ sector_at x.sectors (b * x.block + i)
data_at x b i within = get_or-take x.block (drop (b * x.block) x.sectors) i [] within ∙ get_or-drop (b * x.block) x.sectors i []

-- sector i of block b
sector-there : (x : DiskBlocks) (blocks b i : ℕ) (file : File) → AreExportable x blocks → Exported x blocks file → b < blocks → i < x.block → x.there b ≡ true
    → sector_in file (entry (layout x blocks) file b) i ≡ sector_at x.sectors (b * x.block + i)
unfolding sector_in
sector-there x blocks b i file s e within part there =
    let short : b ≤ blocks = omega arith in
    let at : entry (layout x blocks) file b ≡ place x b = file-entry x blocks b file s e within ∙ entry-there x blocks b e.count within there in
    let named : (place x b == blank) ≡ false = let small = place-small x blocks b s short in grind (arith, nat_tests) in
    let long : length (piece x b) ≡ 1 + x.block = length-piece x blocks b s.sized within there in
    let first : 0 < length (piece x b) = omega (arith, long) in
    let next : 1 + i < length (piece x b) = omega (arith, long, part) in
    let held : List (List ℕ) = take x.block (drop (b * x.block) x.sectors) in
    let bitmap : sector_at file (place x b) ≡ full_bitmap x.block =
    rw (← add-zero (place x b)) (e.pieces_are b 0 within first ∙ ap (λ (l : List (List ℕ)). get_or l 0 []) (piece-there x b there)) in
    let bytes : sector_at file (place x b + (1 + i)) ≡ sector_at x.sectors (b * x.block + i) =
    e.pieces_are b (1 + i) within next ∙ ap (λ (l : List (List ℕ)). get_or l (1 + i) []) (piece-there x b there)
    ∙ get_or-append-add (full_bitmap x.block ∷ []) held i [] ∙ data_at x b i part in
    rw (at, named, bitmap, set-bitmap x.block i s.eighths part) bytes

sector-not_there : (x : DiskBlocks) (blocks b i : ℕ) (file : File) → AreExportable x blocks → Exported x blocks file → b < blocks → i < x.block → x.there b ≡ false
    → sector_in file (entry (layout x blocks) file b) i ≡ sector_at x.sectors (b * x.block + i)
unfolding sector_in
sector-not_there x blocks b i file s e within part there =
    let at : entry (layout x blocks) file b ≡ blank = file-entry x blocks b file s e within ∙ entry-blank x b there in
    rw at (sym (s.empty b i within there part))

are-sectors : (x : DiskBlocks) (blocks : ℕ) (file : File) → AreExportable x blocks → Exported x blocks file → AreSectors (length x.sectors) (file_sector (layout x blocks) file) x.sectors
are-sectors x blocks file s e = record {
  count = refl;
  each = λ k within.
      let some : 0 < x.block = omega (arith, s.block_least) in
      let b = k / x.block in
      let i = k % x.block in
      let low : b < blocks = (div-lt_iff_lt-mul {x = k} {y = blocks} some).1 (omega (arith, s.sized, within)) in
      let part : i < x.block = mod-lt k some in
      let is : b * x.block + i ≡ k = omega (arith, mod-add-div k x.block) in
      ap (sector_at x.sectors) (sym is) ∙ sym (by b i low part (there_or_not (x.there b)));
}
  where
    by : (b i : ℕ) → b < blocks → i < x.block → (x.there b ≡ true) ⊎ (x.there b ≡ false) → sector_in file (entry (layout x blocks) file b) i ≡ sector_at x.sectors (b * x.block + i)
    by b i low part (inl h) = sector-there x blocks b i file s e low part h
    by b i low part (inr h) = sector-not_there x blocks b i file s e low part h

-- ---- all of it

is-dynamic : (x : DiskBlocks) (blocks : ℕ) (uuid : List ℕ) (now : ℕ) → AreExportable x blocks → length uuid ≡ 16 → now < 2 ^ 32 → IsDynamic (exported x uuid now) x.sectors
unfolding div_up
is-dynamic x blocks uuid now s named early =
    let e = is-exported x blocks uuid now s in
    let f = same-layout x blocks uuid now s in
    let footer = export_footer (length x.sectors) uuid now in
    let header = export_header (block_count x) x.block in
    let most : blocks * x.block ≤ 1044480 * 4096 = mul-le-mul s.most s.block_most in
    let least : 1 * 8 ≤ blocks * x.block = mul-le-mul s.least s.block_least in
    let small : length x.sectors ≤ 1044480 * 4096 = omega (arith, s.sized, most) in
    let some : 1 ≤ length x.sectors = omega (arith, s.sized, least) in
    let few : block_count x ≤ 1044480 = omega (arith, e.count, s.most) in
    let none : 1 ≤ block_count x = omega (arith, e.count, s.least) in
    let half : 0 < 512 = omega arith in
    let size_is : (512 * length x.sectors) / 512 ≡ length x.sectors = mul-div_cancel_left (length x.sectors) half in
    record {
      footer = footer;
      header = header;
      footer_reads = footers.reads_back footer (good-footer (length x.sectors) uuid now some) (fits-footer (length x.sectors) uuid now named early small);
      kind = refl;
      header_reads = ap header_read (take-append-drop 512 (header_bytes header))
          ∙ headers.reads_back header (good-header (block_count x) x.block none few s.block_fits) (fits-header (block_count x) x.block few s.block_most);
      alone = refl;
      fits = subst (λ (g : FileLayout). g.blocks ≤ block_count x) (sym f) (omega (arith, e.count));
      table_whole = subst (λ (g : FileLayout). table_end g ≤ length (exported x uuid now)) (sym f) (omega (arith, e.long, ap (λ m. div_up m 128) e.count));
      table = subst (λ (g : FileLayout). IsTable g (exported x uuid now)) (sym f) (is-table x blocks (exported x uuid now) s e);
      disk = subst (λ (g : FileLayout). AreSectors ((512 * length x.sectors) / 512) (file_sector g (exported x uuid now)) x.sectors) (sym f) (rw size_is (are-sectors x blocks (exported x uuid now) s e));
    }

abbrev IsLong : List ℕ → Type 0
IsLong l = length l ≡ 512

whole-piece : (x : DiskBlocks) (blocks b : ℕ) → AreExportable x blocks → All IsLong (piece x b)
unfolding piece
whole-piece x blocks b s = by (x.there b) refl
  where
    by : (t : Bool) → x.there b ≡ t → All IsLong (piece x b)
    by true h =
        rw h (All-cons IsLong (full_bitmap x.block) (take x.block (drop (b * x.block) x.sectors)) (length-bitmap x.block s.block_most)
        (All-take IsLong x.block (drop (b * x.block) x.sectors) (All-drop IsLong (b * x.block) x.sectors s.whole)))
    by false h = rw h (All-nil IsLong)

whole-pieces : (x : DiskBlocks) (blocks : ℕ) (xs : List ℕ) → AreExportable x blocks → All IsLong (flat_map (piece x) xs)
whole-pieces x blocks [] s = All-nil IsLong
whole-pieces x blocks (b ∷ xs) s = All-append IsLong (piece x b) (flat_map (piece x) xs) (whole-piece x blocks b s) (whole-pieces x blocks xs s)

whole-tables : (x : DiskBlocks) (xs : List ℕ) → All IsLong (map (table_sector x) xs)
whole-tables x [] = All-nil IsLong
whole-tables x (t ∷ xs) = All-cons IsLong (table_sector x t) (map (table_sector x) xs) (length-table x t) (whole-tables x xs)

is-cut : (x : DiskBlocks) (blocks : ℕ) (uuid : List ℕ) (now : ℕ) → AreExportable x blocks → length uuid ≡ 16 → now < 2 ^ 32 → IsCutInto (concat (exported x uuid now)) (exported x uuid now)
is-cut x blocks uuid now s named early =
    let most : blocks * x.block ≤ 1044480 * 4096 = mul-le-mul s.most s.block_most in
    let small : length x.sectors ≤ 1044480 * 4096 = omega (arith, s.sized, most) in
    let footer : List ℕ = footer_bytes (export_footer (length x.sectors) uuid now) in
    let header : List ℕ = header_bytes (export_header (block_count x) x.block) in
    let long : IsLong footer = length-footer (export_footer (length x.sectors) uuid now) (fits-footer (length x.sectors) uuid now named early small) in
    let both : length header ≡ 1024 = length-header (block_count x) x.block in
    let first : IsLong (take 512 header) = omega (arith, length-take 512 header, both) in
    let second : IsLong (drop 512 header) = omega (arith, length-drop 512 header, both) in
    let ts = map (table_sector x) (range_with_len 0 (table_sectors x)) in
    let ps = pieces x (block_count x) in
    let tail : List (List ℕ) = ts ++ (ps ++ footer ∷ []) in
    record {
      joined = refl;
      whole = All-cons IsLong footer (take 512 header ∷ drop 512 header ∷ tail) long (All-cons IsLong (take 512 header) (drop 512 header ∷ tail) first
          (All-cons IsLong (drop 512 header) tail second
          (All-append IsLong ts (ps ++ footer ∷ []) (whole-tables x (range_with_len 0 (table_sectors x)))
          (All-append IsLong ps (footer ∷ []) (whole-pieces x blocks (range_with_len 0 (block_count x)) s) (All-cons IsLong footer [] long (All-nil IsLong))))));
    }

-- the file holds the disk
pub file-holds : (x : DiskBlocks) (blocks : ℕ) (uuid : List ℕ) (now : ℕ) → AreExportable x blocks → length uuid ≡ 16 → now < 2 ^ 32 → FileOf (concat (exported x uuid now)) x.sectors
file-holds x blocks uuid now s named early = record {
  file = exported x uuid now;
  cut = is-cut x blocks uuid now s named early;
  is = inl (is-dynamic x blocks uuid now s named early);
}
