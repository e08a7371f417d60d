-- What is written of a footer is read as it was.
use Rattle.std.proofs.Common.{◌≡◌, ℕ, ◌+◌, ◌*◌, ◌/◌, ◌<◌, Bool, true, false, ◌&&◌, cond, List, [], ◌∷◌, ◌++◌, length, length-append, take, drop, codes, sum, All, replicate, min, None, Ok, refl, sym, ap, subst, ◌∙◌, append_assoc, eq-eqb, arith}
use Rattle.std.specs.Prelude.{nat_le, ◌==◌}
use Rattle.std.specs.List.{concat}
use Rattle.std.specs.Str.{bytes_eq}
use Rattle.std.proofs.lemmas.List.{take_at}
use Rattle.std.proofs.Math.Seq.{drop-append-add}
use Rattle.byteorder.specs.Endian.{big_bytes, big_number}
use Rattle.byteorder.specs.Numbers.{big_number-reads_back}
use Rattle.vhd_fields.specs.declared.footers.Footer.{Footer}
use Rattle.vhd_fields.specs.Checksums.{checksum, ones_complement, sealed}
use Rattle.vhd_fields.specs.DiskGeometry.{chs, heads_for, reach, geometry, geometry_within}
use Rattle.vhd_fields.specs.Fields.{bytes_at, number_at, version}
use Rattle.vhd_fields.specs.Footers.{FooterOf, IsFooter, FooterFits, KeepsFields, footer_front, footer_back, footer_bytes, footer_fields, footer_tests, footer_fault, footer_read, is_data_offset, is_size, is_disk_type}
use Rattle.vhd_fields.proofs.BytesAgain.{bytes_again_4, bytes_again_8, five}
use Rattle.vhd_fields.proofs.Sealing.{behind_checksum, checks}

-- past a field of four bytes
skip : (x rest tail : List ℕ) (n m : ℕ) → length x ≡ 4 → m ≡ 4 + n → drop m ((x ++ rest) ++ tail) ≡ drop n (rest ++ tail)
skip x rest tail n m len e =
    ap (λ (k : ℕ). drop k ((x ++ rest) ++ tail)) e ∙ ap (drop (4 + n)) (append_assoc x rest tail) ∙ subst (λ (k : ℕ). drop (k + n) (x ++ (rest ++ tail)) ≡ drop n (rest ++ tail)) len (drop-append-add x (rest ++ tail) n)

-- the fields behind the creator, and those behind the geometry
from_version : Footer → List ℕ
from_version f = concat (big_bytes 4 f.creator_version ∷ big_bytes 4 f.host ∷ big_bytes 8 f.original ∷ big_bytes 8 f.current ∷ geometry (f.current / 512) ∷ big_bytes 4 f.kind ∷ [])

from_kind : Footer → List ℕ
from_kind f = concat (big_bytes 4 f.kind ∷ [])

-- the fields that bytes have
record Fields (f : Footer) (bytes : List ℕ) : Type 0 where
  cookie : bytes_at 0 8 bytes ≡ codes "conectix"
  version_is : number_at 12 4 bytes ≡ version
  data_offset : number_at 16 8 bytes ≡ f.data_offset
  stamp : number_at 24 4 bytes ≡ f.stamp
  creator : bytes_at 28 4 bytes ≡ f.creator
  creator_version : number_at 32 4 bytes ≡ f.creator_version
  host : number_at 36 4 bytes ≡ f.host
  original : number_at 40 8 bytes ≡ f.original
  current : number_at 48 8 bytes ≡ f.current
  kind : number_at 60 4 bytes ≡ f.kind

of_four : (a b c : Bool) (w x y z : List ℕ) → length w ≡ 4 → length x ≡ 4 → length y ≡ 4 → length z ≡ 4 → length (cond a w (cond b x (cond c y z))) ≡ 4
of_four true b c w x y z lw lx ly lz = lw
of_four false true c w x y z lw lx ly lz = lx
of_four false false true w x y z lw lx ly lz = ly
of_four false false false w x y z lw lx ly lz = lz

within_four : (n : ℕ) → length (geometry_within n) ≡ 4
within_four n =
    of_four (nat_le (65535 * 16 * 63) n) (reach (heads_for (n / 17)) (n / 17) && nat_le (heads_for (n / 17)) 16) (reach 16 (n / 31))
    (chs (n / 255) 16 255) (chs (n / 17) (heads_for (n / 17)) 17) (chs (n / 31) 16 31) (chs (n / 63) 16 63) refl refl refl refl

length_geometry : (n : ℕ) → length (geometry n) ≡ 4
unfolding geometry
length_geometry n = within_four (min n (65535 * 16 * 255))

-- the front's fields, whatever stands behind the front
reads_front : (f : Footer) (tail : List ℕ) → FooterFits f → Fields f (concat (footer_front f) ++ tail)
unfolding footer_front from_version from_kind
reads_front f tail room =
    let all = concat (footer_front f) ++ tail in
    let later = from_version f ++ tail in
    let shape = geometry (f.current / 512) in
    record {
      cookie = refl;
      version_is = refl;
      data_offset = big_number-reads_back 8 f.data_offset (drop 24 all) room.data_offset;
      stamp = big_number-reads_back 4 f.stamp (drop 28 all) room.stamp;
      creator = ap (take 4) (append_assoc f.creator (from_version f) tail) ∙ take_at f.creator later 4 room.creator;
      creator_version =
          ap (big_number 4) (skip f.creator (from_version f) tail 0 4 room.creator refl) ∙ big_number-reads_back 4 f.creator_version (drop 4 later) room.creator_version;
      host =
          ap (big_number 4) (skip f.creator (from_version f) tail 4 8 room.creator refl) ∙ big_number-reads_back 4 f.host (drop 8 later) room.host;
      original =
          ap (big_number 8) (skip f.creator (from_version f) tail 8 12 room.creator refl) ∙ big_number-reads_back 8 f.original (drop 16 later) room.original;
      current =
          ap (big_number 8) (skip f.creator (from_version f) tail 16 20 room.creator refl) ∙ big_number-reads_back 8 f.current (drop 24 later) room.current;
      kind =
          ap (big_number 4) (skip f.creator (from_version f) tail 28 32 room.creator refl ∙ skip shape (from_kind f) tail 0 4 (length_geometry (f.current / 512)) refl) ∙ big_number-reads_back 4 f.kind tail room.kind;
    }

pub length_front : (f : Footer) → FooterFits f → length (concat (footer_front f)) ≡ 64
unfolding footer_front from_version from_kind
length_front f room =
    let shape = geometry (f.current / 512) in
    omega (arith, room.creator, length_geometry (f.current / 512), length-append f.creator (from_version f), length-append shape (from_kind f))

reads_all : (f : Footer) → FooterFits f → Fields f (footer_bytes f)
unfolding footer_bytes sealed
reads_all f room =
    reads_front f (big_bytes 4 (ones_complement (sum (concat (footer_front f)) + sum (concat (footer_back f)))) ++ concat (footer_back f)) room

reads_uid : (f : Footer) → FooterFits f → bytes_at 68 16 (footer_bytes f) ≡ f.uid
unfolding footer_bytes footer_back
reads_uid f room =
    ap (take 16) (behind_checksum 64 (concat (footer_front f)) (concat (footer_back f)) (length_front f room)) ∙ take_at f.uid (concat (replicate 428 0 ∷ [])) 16 room.uid

is_checked : (f : Footer) → FooterFits f → number_at 64 4 (footer_bytes f) ≡ checksum 64 (footer_bytes f)
unfolding footer_bytes
is_checked f room = checks 64 (concat (footer_front f)) (concat (footer_back f)) (length_front f room)

passes : (f : Footer) (bytes : List ℕ) → IsFooter f → Fields f bytes → number_at 64 4 bytes ≡ checksum 64 bytes → footer_fault bytes ≡ None
unfolding footer_tests
passes f bytes good fields checked =
    let cookie : bytes_eq (bytes_at 0 8 bytes) (codes "conectix") ≡ true = ap (λ (x : List ℕ). bytes_eq x (codes "conectix")) fields.cookie in
    let sum_is : (number_at 64 4 bytes == checksum 64 bytes) ≡ true = eq-eqb _ _ checked in
    let version_ok : (number_at 12 4 bytes == version) ≡ true = eq-eqb _ _ fields.version_is in
    let offset_ok : is_data_offset (number_at 60 4 bytes) (number_at 16 8 bytes) ≡ true = rw (fields.kind, fields.data_offset) good.data_offset in
    let size_ok : is_size (number_at 48 8 bytes) ≡ true = rw fields.current good.size in
    let kind_ok : is_disk_type (number_at 60 4 bytes) ≡ true = rw fields.kind good.kind in
    rw (cookie, sum_is, version_ok, offset_ok, size_ok, kind_ok) refl

same_fields : (f : Footer) (bytes : List ℕ) → Fields f bytes → bytes_at 68 16 bytes ≡ f.uid → footer_fields bytes ≡ f
unfolding footer_fields
same_fields f bytes fields uid =
    rw (fields.stamp, fields.creator, fields.creator_version, fields.host, fields.original, fields.current, fields.kind, fields.data_offset, uid) refl

-- what is written of fields that pass the tests is read as they are
pub reads_back : (f : Footer) → IsFooter f → FooterFits f → footer_read (footer_bytes f) ≡ Ok f
reads_back f good room =
    let fields = reads_all f room in
    rw (passes f (footer_bytes f) good fields (is_checked f room)) (ap Ok (same_fields f (footer_bytes f) fields (reads_uid f room)))

-- the bytes of the front's fields that are kept
record Kept (f : Footer) (bytes : List ℕ) : Type 0 where
  stamp : bytes_at 24 4 bytes ≡ big_bytes 4 f.stamp
  creator : bytes_at 28 4 bytes ≡ f.creator
  creator_version : bytes_at 32 4 bytes ≡ big_bytes 4 f.creator_version
  host : bytes_at 36 4 bytes ≡ big_bytes 4 f.host
  original : bytes_at 40 8 bytes ≡ big_bytes 8 f.original

kept_front : (f : Footer) (tail : List ℕ) → FooterFits f → Kept f (concat (footer_front f) ++ tail)
unfolding footer_front from_version
kept_front f tail room = record {
  stamp = refl;
  creator = ap (take 4) (append_assoc f.creator (from_version f) tail) ∙ take_at f.creator (from_version f ++ tail) 4 room.creator;
  creator_version = ap (take 4) (skip f.creator (from_version f) tail 0 4 room.creator refl);
  host = ap (take 4) (skip f.creator (from_version f) tail 4 8 room.creator refl);
  original = ap (take 8) (skip f.creator (from_version f) tail 8 12 room.creator refl);
}

kept_all : (f : Footer) → FooterFits f → Kept f (footer_bytes f)
unfolding footer_bytes sealed
kept_all f room =
    kept_front f (big_bytes 4 (ones_complement (sum (concat (footer_front f)) + sum (concat (footer_back f)))) ++ concat (footer_back f)) room

kept_old : (f : Footer) (old : List ℕ) → length old ≡ 512 → All (λ byte. byte < 256) old → f ≡ footer_fields old → Kept f old
unfolding footer_fields
kept_old f old long fits same = record {
  stamp = sym (ap (λ (g : Footer). big_bytes 4 g.stamp) same ∙ bytes_again_4 24 old (omega arith) fits);
  creator = sym (ap (λ (g : Footer). g.creator) same);
  creator_version = sym (ap (λ (g : Footer). big_bytes 4 g.creator_version) same ∙ bytes_again_4 32 old (omega arith) fits);
  host = sym (ap (λ (g : Footer). big_bytes 4 g.host) same ∙ bytes_again_4 36 old (omega arith) fits);
  original = sym (ap (λ (g : Footer). big_bytes 8 g.original) same ∙ bytes_again_8 40 old (omega arith) fits);
}

kept_is : (f : Footer) (bytes : List ℕ) → Kept f bytes → bytes_at 24 24 bytes ≡ big_bytes 4 f.stamp ++ (f.creator ++ (big_bytes 4 f.creator_version ++ (big_bytes 4 f.host ++ big_bytes 8 f.original)))
kept_is f bytes kept =
    five bytes ∙ rw (kept.stamp, kept.creator, kept.creator_version, kept.host, kept.original) refl

-- a footer that is read and written again keeps these fields
pub keeps : (f : Footer) (old : List ℕ) → FooterFits f → length old ≡ 512 → All (λ byte. byte < 256) old → FooterOf old f → KeepsFields old (footer_bytes f)
unfolding footer_fields
keeps f old room long fits is = record {
  stamp_to_original = kept_is f (footer_bytes f) (kept_all f room) ∙ sym (kept_is f old (kept_old f old long fits is.fields));
  uid = reads_uid f room ∙ ap (λ (g : Footer). g.uid) is.fields;
}
