-- The bytes of a block in an exported file.
use Rattle.std.proofs.Common.{◌≡◌, ℕ, ◌+◌, ◌*◌, ◌^◌, ◌<◌, ◌≤◌, true, List, [], ◌∷◌, ◌++◌, length, map, take, drop, replicate, refl, sym, ap, ap₂, ◌∙◌, append_assoc, arith}
use Rattle.std.proofs.Math.Nat.{mul-le-mul, mul-le-mul_right}
use Rattle.std.proofs.lemmas.List.{append-nil, length-drop, length-replicate, take-append-drop, nil_from_length}
use Rattle.std.proofs.lemmas.List.FromFn.{length-map-range_with_len}
use borrow.Rule.Slice.PartMut.{put_mid}
use Rattle.std.specs.List.{concat, flat_map, range_with_len}
use Rattle.sm_base.specs.Numbers.{div_up}
use Rattle.sm_disk.specs.Held.{IsWhole}
use Rattle.sm_disk.specs.Sectors.{sector}
use Rattle.sm_machine.specs.Disks.{bytes_at}
use Rattle.cmd_guest.proofs.SectorLists.{bytes_read}
use Rattle.vhd_fields.specs.Footers.{footer_bytes}
use Rattle.vhd_fields.specs.Headers.{header_bytes}
use Rattle.vhd_chain.specs.Reading.{chain_reads}
use Rattle.vhd_chain.specs.declared.rows.TreeRow.{TreeRow}
use Rattle.sm_base.specs.declared.names.Name.{Name}
use Rattle.vg_volumes.specs.Stored.{Stored}
use Rattle.vhd_stream.specs.Exports.{DiskBlocks, block_count, export_footer, export_header, exported, full_bitmap, piece, pieces, table_sector, table_sectors}
use Rattle.vhd_stream.specs.Known.{blocks_known, blocks_read}
use Rattle.vhd_stream.proofs.DiskLaws.{same-numbers}
use Rattle.vhd_stream.proofs.PieceLaws.{piece-there}
use Rattle.vhd_stream.proofs.RangeLaws.{concat-append, concat-flat, concat-map}
use Rattle.vhd_stream.proofs.TableSteps.{count-is, table-same}

-- ---- a page

-- the part behind the first bytes was read into
pub page-is : (at k : ℕ) (page ys : List ℕ) → at + k ≡ length page → length ys ≡ k → put_mid at k page ys ≡ take at page ++ ys
page-is at k page ys whole long =
    let none : drop k (drop at page) ≡ [] = nil_from_length (drop k (drop at page)) (omega (arith, length-drop k (drop at page), length-drop at page, whole)) in
    ap (λ l. take at page ++ (ys ++ l)) none ∙ ap (λ l. take at page ++ l) (append-nil ys)

-- a block lies in the disk
pub block-whole : (at b count block len : ℕ) → at ≡ b * block → b < count → count ≤ 1044480 → 8 ≤ block → block ≤ 4096 → len ≡ 512 * block → IsWhole at len (2 ^ 32)
block-whole at b count block len from within few least most long =
    let more : b + 1 ≤ 1044480 = omega arith in
    let next : (b + 1) * block ≤ 1044480 * 4096 = mul-le-mul more most in
    record { some = omega (arith, long, least); whole = omega (arith, long); within = omega (arith, from, long, next) }

pub block-small : (b count block : ℕ) → b < count → count ≤ 1044480 → block ≤ 4096 → b * block < 2 ^ 64
block-small b count block within few most =
    let less : b ≤ 1044480 = omega arith in
    let all : b * block ≤ 1044480 * 4096 = mul-le-mul less most in
    omega (arith, all)

-- its sectors in a row are the disk's
pub data-is : (f : ℕ → List ℕ) (bytes : List ℕ) (b count block : ℕ) → b < count → length bytes ≡ 512 * block → ((k : ℕ) → k < block → sector bytes k ≡ f (b * block + k))
    → bytes ≡ concat (take block (drop (b * block) (map f (range_with_len 0 (count * block)))))
unfolding bytes_at
data-is f bytes b count block within long same =
    let less : b + 1 ≤ count = omega arith in
    let next : (b + 1) * block ≤ count * block = mul-le-mul_right block less in
    let fits : b * block + block ≤ count * block = omega (arith, next) in
    bytes_read f bytes (b * block) block (count * block) fits long same
    ∙ ap (λ l. concat (take block (drop (b * block) (map f l)))) (same-numbers 0 (count * block))

-- a page that holds the bitmap and the block's sectors is the block's piece
pub page-piece : (x : DiskBlocks) (b : ℕ) (bitmap rest : List ℕ) → x.there b ≡ true → bitmap ≡ full_bitmap x.block → rest ≡ concat (take x.block (drop (b * x.block) x.sectors)) → bitmap ++ rest ≡ concat (piece x b)
page-piece x b bitmap rest there first behind = ap₂ (λ l m. l ++ m) first behind ∙ sym (ap concat (piece-there x b there))

-- ---- the whole file

-- footer, header and table of the images in memory, and then the blocks and the footer again
module _ (x : Stored) (rows : List TreeRow) (n : Name) (count : ℕ) (uuid : List ℕ) (now : ℕ) (least : 8 ≤ x.site.geometry.block) (most : x.site.geometry.block ≤ 4096) (few : count ≤ 1044480) where
  abbrev block : ℕ
  block = x.site.geometry.block

  abbrev disk : DiskBlocks
  disk = blocks_read x rows n count

  abbrev footer : List ℕ
  footer = footer_bytes (export_footer (count * x.site.geometry.block) uuid now)

  abbrev header : List ℕ
  header = header_bytes (export_header count x.site.geometry.block)

  abbrev front : List ℕ
  front = footer_bytes (export_footer (count * x.site.geometry.block) uuid now)
      ++ (header_bytes (export_header count x.site.geometry.block)
      ++ flat_map (table_sector (blocks_known x.site.geometry.block rows n count)) (range_with_len 0 (div_up count 128)))

  abbrev blocks : List ℕ
  blocks = flat_map (λ b. concat (piece (blocks_read x rows n count) b)) (range_with_len 0 count)

  sized : length (blocks_read x rows n count).sectors ≡ count * x.site.geometry.block
  sized = length-map-range_with_len (chain_reads x rows n) 0 (count * x.site.geometry.block)

  counted : block_count (blocks_read x rows n count) ≡ count
  counted = count-is (blocks_read x rows n count) count sized least most few

  tables : (t : ℕ) → table_sector (blocks_known x.site.geometry.block rows n count) t ≡ table_sector (blocks_read x rows n count) t
  tables t = table-same x.site.geometry.block (blocks_read x rows n count).there (replicate (count * x.site.geometry.block) []) (blocks_read x rows n count).sectors (length-replicate (count * x.site.geometry.block) [] ∙ sym sized) t

  map-same : (f g : ℕ → List ℕ) → ((t : ℕ) → f t ≡ g t) → (ts : List ℕ) → flat_map f ts ≡ flat_map g ts
  map-same f g same [] = refl
  map-same f g same (t ∷ ts) = ap₂ (λ a b. a ++ b) (same t) (map-same f g same ts)

  with-parts : (f a h : List ℕ) (ts ps : List (List ℕ)) → concat (f ∷ take 512 h ∷ drop 512 h ∷ (ts ++ (ps ++ f ∷ []))) ≡ (f ++ (h ++ concat ts)) ++ (concat ps ++ f)
  with-parts f a h ts ps =
      ap (λ l. f ++ (take 512 h ++ (drop 512 h ++ l))) (concat-append ts (ps ++ f ∷ []) ∙ ap (λ l. concat ts ++ l) (concat-append ps (f ∷ []) ∙ ap (λ l. concat ps ++ l) (append-nil f)))
      ∙ ap (λ l. f ++ l) (sym (append_assoc (take 512 h) (drop 512 h) (concat ts ++ (concat ps ++ f))) ∙ ap (λ l. l ++ (concat ts ++ (concat ps ++ f))) (take-append-drop 512 h))
      ∙ ap (λ l. f ++ l) (sym (append_assoc h (concat ts) (concat ps ++ f)))
      ∙ sym (append_assoc f (h ++ concat ts) (concat ps ++ f))

  pub file-parts : front ++ (blocks ++ footer) ≡ concat (exported (blocks_read x rows n count) uuid now)
  file-parts = sym (
      with-parts _ [] _ (map (table_sector disk) (range_with_len 0 (table_sectors disk))) (pieces disk (block_count disk))
      ∙ ap (λ k. (footer_bytes (export_footer k uuid now) ++ (header_bytes (export_header (block_count disk) x.site.geometry.block) ++ concat (map (table_sector disk) (range_with_len 0 (table_sectors disk)))))
      ++ (concat (pieces disk (block_count disk)) ++ footer_bytes (export_footer k uuid now))) sized
      ∙ ap (λ k. (footer ++ (header_bytes (export_header k x.site.geometry.block) ++ concat (map (table_sector disk) (range_with_len 0 (div_up k 128))))) ++ (concat (pieces disk k) ++ footer)) counted
      ∙ ap₂ (λ t p. (footer ++ (header ++ t)) ++ (p ++ footer))
      (concat-map (table_sector disk) (range_with_len 0 (div_up count 128)) ∙ sym (map-same (table_sector (blocks_known x.site.geometry.block rows n count)) (table_sector disk) tables (range_with_len 0 (div_up count 128))))
      (concat-flat (piece disk) (range_with_len 0 count)))
