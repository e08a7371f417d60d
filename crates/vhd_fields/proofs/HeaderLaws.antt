-- What is written of a header is read as it was.
use Rattle.std.proofs.Common.{◌≡◌, ℕ, ◌+◌, true, List, [], ◌∷◌, ◌++◌, length, take, drop, codes, sum, replicate, Some, None, Ok, refl, sym, ap, ◌∙◌, eq-eqb, ◌≤◌, arith}
use Rattle.std.specs.Prelude.{◌==◌}
use Rattle.std.specs.List.{concat}
use Rattle.std.specs.Str.{bytes_eq}
use Rattle.std.proofs.lemmas.List.{take_at, drop_at, drop-drop, drop-append-le}
use Rattle.byteorder.specs.Endian.{big_bytes, big_number}
use Rattle.byteorder.specs.Numbers.{big_number-reads_back}
use Rattle.vhd_fields.specs.declared.headers.Header.{Header}
use Rattle.vhd_fields.specs.Checksums.{checksum, ones_complement, sealed}
use Rattle.vhd_fields.specs.Fields.{bytes_at, number_at, version}
use Rattle.vhd_fields.specs.Headers.{IsHeader, HeaderFits, header_front, header_back, header_bytes, header_fields, header_tests, header_fault, header_read, is_table_offset, is_entries, is_block}
use Rattle.vhd_fields.specs.ParentNames.{IsParent, parent_bytes, parent_read}
use Rattle.vhd_fields.proofs.ParentLaws.{ends_in_zeros, length_parent, parent_again}
use Rattle.vhd_fields.proofs.Sealing.{behind_checksum, checks}

-- the fields that bytes have
record Fields (h : Header) (bytes : List ℕ) : Type 0 where
  cookie : bytes_at 0 8 bytes ≡ codes "cxsparse"
  table_offset : number_at 16 8 bytes ≡ h.table_offset
  version_is : number_at 24 4 bytes ≡ version
  entries : number_at 28 4 bytes ≡ h.entries
  block : number_at 32 4 bytes ≡ h.block

-- the front's fields, whatever stands behind the front
reads_front : (h : Header) (tail : List ℕ) → HeaderFits h → Fields h (concat (header_front h) ++ tail)
unfolding header_front
reads_front h tail room =
    let all = concat (header_front h) ++ tail in
    record {
      cookie = refl;
      table_offset = big_number-reads_back 8 h.table_offset (drop 24 all) room.table_offset;
      version_is = refl;
      entries = big_number-reads_back 4 h.entries (drop 32 all) room.entries;
      block = big_number-reads_back 4 h.block (drop 36 all) room.block;
    }

pub length_front : (h : Header) → length (concat (header_front h)) ≡ 36
unfolding header_front
length_front h = refl

reads_all : (h : Header) → HeaderFits h → Fields h (header_bytes h)
unfolding header_bytes sealed
reads_all h room =
    reads_front h (big_bytes 4 (ones_complement (sum (concat (header_front h)) + sum (concat (header_back h)))) ++ concat (header_back h)) room

-- the fields behind the checksum, and those behind the parent's unique id
behind_header : (h : Header) → drop 40 (header_bytes h) ≡ concat (header_back h)
unfolding header_bytes
behind_header h = behind_checksum 36 (concat (header_front h)) (concat (header_back h)) (length_front h)

from_stamp : Header → List ℕ
from_stamp h = concat (big_bytes 4 h.parent_stamp ∷ big_bytes 4 0 ∷ parent_bytes h.parent ∷ replicate 448 0 ∷ [])

behind_uid : (h : Header) → HeaderFits h → drop 56 (header_bytes h) ≡ from_stamp h
unfolding header_back from_stamp
behind_uid h room =
    sym (drop-drop 16 40 (header_bytes h)) ∙ ap (drop 16) (behind_header h) ∙ drop_at h.parent_uid (from_stamp h) 16 room.parent_uid

reads_uid : (h : Header) → HeaderFits h → bytes_at 40 16 (header_bytes h) ≡ h.parent_uid
unfolding header_back from_stamp
reads_uid h room = ap (take 16) (behind_header h) ∙ take_at h.parent_uid (from_stamp h) 16 room.parent_uid

reads_stamp : (h : Header) → HeaderFits h → number_at 56 4 (header_bytes h) ≡ h.parent_stamp
unfolding from_stamp
reads_stamp h room =
    ap (big_number 4) (behind_uid h room) ∙ big_number-reads_back 4 h.parent_stamp (drop 4 (from_stamp h)) room.parent_stamp

reads_parent : (h : Header) → HeaderFits h → IsParent h.parent → bytes_at 64 512 (header_bytes h) ≡ parent_bytes h.parent
unfolding from_stamp
reads_parent h room image =
    let behind : drop 64 (header_bytes h) ≡ drop 8 (from_stamp h) = sym (drop-drop 8 56 (header_bytes h)) ∙ ap (drop 8) (behind_uid h room) in
    ap (take 512) behind ∙ take_at (parent_bytes h.parent) (concat (replicate 448 0 ∷ [])) 512 (length_parent h.parent image)

is_checked : (h : Header) → number_at 36 4 (header_bytes h) ≡ checksum 36 (header_bytes h)
unfolding header_bytes
is_checked h = checks 36 (concat (header_front h)) (concat (header_back h)) (length_front h)

reads_name : (h : Header) → HeaderFits h → IsParent h.parent → parent_read (bytes_at 64 512 (header_bytes h)) ≡ Some h.parent
reads_name h room image = ap parent_read (reads_parent h room image) ∙ parent_again h.parent image

passes : (h : Header) (bytes : List ℕ) → IsHeader h → Fields h bytes → number_at 36 4 bytes ≡ checksum 36 bytes → parent_read (bytes_at 64 512 bytes) ≡ Some h.parent → header_fault bytes ≡ None
unfolding header_tests
passes h bytes good fields checked parent =
    let cookie : bytes_eq (bytes_at 0 8 bytes) (codes "cxsparse") ≡ true = ap (λ (x : List ℕ). bytes_eq x (codes "cxsparse")) fields.cookie in
    let sum_is : (number_at 36 4 bytes == checksum 36 bytes) ≡ true = eq-eqb _ _ checked in
    let version_ok : (number_at 24 4 bytes == version) ≡ true = eq-eqb _ _ fields.version_is in
    let offset_ok : is_table_offset (number_at 16 8 bytes) ≡ true = rw fields.table_offset good.table_offset in
    let entries_ok : is_entries (number_at 28 4 bytes) ≡ true = rw fields.entries good.entries in
    let block_ok : is_block (number_at 32 4 bytes) ≡ true = rw fields.block good.block in
    rw (cookie, sum_is, version_ok, offset_ok, entries_ok, block_ok, parent) refl

same_fields : (h : Header) (bytes : List ℕ) → Fields h bytes → bytes_at 40 16 bytes ≡ h.parent_uid → number_at 56 4 bytes ≡ h.parent_stamp → parent_read (bytes_at 64 512 bytes) ≡ Some h.parent → header_fields bytes ≡ h
unfolding header_fields
same_fields h bytes fields uid stamp parent =
    rw (fields.table_offset, fields.entries, fields.block, uid, stamp, parent) refl

-- what is written of fields that pass the tests is read as they are
pub reads_back : (h : Header) → IsHeader h → HeaderFits h → header_read (header_bytes h) ≡ Ok h
reads_back h good room =
    let fields = reads_all h room in
    let parent = reads_name h room good.parent in
    rw (passes h (header_bytes h) good fields (is_checked h) parent) (ap Ok (same_fields h (header_bytes h) fields (reads_uid h room) (reads_stamp h room) parent))

-- the second sector of a header is zeros
pub second_sector : (h : Header) → HeaderFits h → IsParent h.parent → drop 512 (header_bytes h) ≡ replicate 512 0
unfolding from_stamp
second_sector h room image =
    let field = parent_bytes h.parent in
    let locators : List ℕ = concat (replicate 448 0 ∷ []) in
    let long : 448 ≤ length field = omega (arith, length_parent h.parent image) in
    sym (drop-drop 456 56 (header_bytes h)) ∙ ap (drop 456) (behind_uid h room) ∙ drop-append-le 448 field locators long ∙ ap (λ (zeros : List ℕ). zeros ++ locators) (ends_in_zeros h.parent image)
