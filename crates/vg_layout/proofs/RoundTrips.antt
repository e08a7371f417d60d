-- What is written of a label and of a header is read as that label and that header.
use Rattle.std.proofs.Common.{◌≡◌, ℕ, ◌+◌, ◌<◌, ◌≤◌, ◌^◌, true, leb, min, length-append, List, ◌++◌, length, take, drop, replicate, sum, refl, sym, ap, ◌∙◌, append_assoc, Ok, arith}
use Rattle.std.proofs.Math.Seq.{drop-append-add, take-append_seam}
use Rattle.std.proofs.lemmas.Bool.{and_parts, le-leb, le-ltb, leb-true}
use Rattle.std.proofs.lemmas.List.{drop-drop, length-replicate, length-take}
use Rattle.std.proofs.lemmas.Nat.{from_be_bytes-to_be_bytes_4}
use Rattle.std.proofs.lemmas.Slice.Eq.{bytes_eq-Decides}
use Rattle.std.specs.Int.{w32, from_be_bytes}
use Rattle.std.specs.Str.{bytes_eq}
use Rattle.sm_base.specs.Numbers.{IsGeometry}
use Rattle.vg_layout.specs.Places.{extents_on, label_place, record_extents, slot_bytes}
use Rattle.vg_layout.specs.Sectors.{Plate, Pointer, number, number_at, label_cookie, sealed, label_front, label_sector, plate_in, version_in, header_front, header_sector, pointer_in}
use Rattle.vg_layout.specs.Opening.{frame_in, is_header_right, is_version, plate_of, pointer_by, pointer_of, version_of}
use Rattle.vg_layout.proofs.SectorLaws.{geometry_from, label_right}
use Rattle.vg_layout.proofs.StandingLaws.{IsRightPlate, right_few}

-- ---- a label

-- the fields of a label are numbers of four bytes, and its UUID has 16 bytes
pub record IsFields (p : Plate) : Type 0 where
  pub extent : p.extent < 2 ^ 32
  pub block : p.block < 2 ^ 32
  pub entries : p.entries < 2 ^ 32
  pub count : p.count < 2 ^ 32
  pub layout : p.layout < 2 ^ 32
  pub identity : length p.identity ≡ 16

-- what stands behind the UUID
behind : ℕ → Plate → List ℕ
behind v p = (number p.extent ++ (number p.block ++ (number p.entries ++ (number p.count ++ (number p.layout ++ replicate 460 0))))) ++ number (sum (label_front v p))

from_identity : (v : ℕ) (p : Plate) → drop 12 (label_sector v p) ≡ p.identity ++ behind v p
unfolding label_sector label_front sealed behind
from_identity v p =
    append_assoc p.identity (number p.extent ++ (number p.block ++ (number p.entries ++ (number p.count ++ (number p.layout ++ replicate 460 0))))) (number (sum (label_front v p)))

number_behind : (v : ℕ) (p : Plate) (n : ℕ) → length p.identity ≡ 16 → number_at (28 + n) (label_sector v p) ≡ number_at n (behind v p)
number_behind v p n long =
    let from : 28 + n ≡ 12 + (16 + n) = omega arith in
    let to : 16 + n ≡ length p.identity + n = omega (arith, long) in
    ap (λ l. from_be_bytes w32 (take 4 l))
    (ap (λ k. drop k (label_sector v p)) from ∙ sym (drop-drop (16 + n) 12 (label_sector v p)) ∙ ap (drop (16 + n)) (from_identity v p)
    ∙ ap (λ k. drop k (p.identity ++ behind v p)) to ∙ drop-append-add p.identity (behind v p) n)

identity_again : (v : ℕ) (p : Plate) → length p.identity ≡ 16 → take 16 (drop 12 (label_sector v p)) ≡ p.identity
identity_again v p long =
    ap (take 16) (from_identity v p) ∙ ap (λ k. take k (p.identity ++ behind v p)) (sym long) ∙ take-append_seam p.identity (behind v p)

pub plate_again : (v : ℕ) (p : Plate) → IsFields p → plate_in (label_sector v p) ≡ p
unfolding plate_in behind
plate_again v p f =
    let s = label_sector v p in
    let extent : number_at 28 s ≡ p.extent = number_behind v p 0 f.identity ∙ from_be_bytes-to_be_bytes_4 p.extent f.extent in
    let block : number_at 32 s ≡ p.block = number_behind v p 4 f.identity ∙ from_be_bytes-to_be_bytes_4 p.block f.block in
    let entries : number_at 36 s ≡ p.entries = number_behind v p 8 f.identity ∙ from_be_bytes-to_be_bytes_4 p.entries f.entries in
    let count : number_at 40 s ≡ p.count = number_behind v p 12 f.identity ∙ from_be_bytes-to_be_bytes_4 p.count f.count in
    let layout : number_at 44 s ≡ p.layout = number_behind v p 16 f.identity ∙ from_be_bytes-to_be_bytes_4 p.layout f.layout in
    let identity = identity_again v p f.identity in
    rw (extent, block, entries, count, layout, identity) refl

pub cookie_again : (v : ℕ) (p : Plate) → bytes_eq (take 8 (label_sector v p)) label_cookie ≡ true
unfolding label_sector label_front sealed
cookie_again v p = (bytes_eq-Decides (take 8 (label_sector v p)) label_cookie).1 refl

pub version_again : (v : ℕ) (p : Plate) → v < 2 ^ 32 → version_in (label_sector v p) ≡ v
unfolding label_sector label_front sealed
version_again v p low = from_be_bytes-to_be_bytes_4 v low

-- the UUID of a label that is spelled by its own fields has 16 bytes
identity_long : (v : ℕ) (p : Plate) (s : List ℕ) → s ≡ label_sector v p → plate_in s ≡ p → length p.identity ≡ 16
unfolding plate_in behind
identity_long v p s is fields =
    let own : take 16 (drop 12 s) ≡ p.identity = ap (λ (q : Plate). q.identity) fields in
    let rest : length (behind v p) ≡ length (number p.extent ++ (number p.block ++ (number p.entries ++ (number p.count ++ (number p.layout ++ replicate 460 0))))) + length (number (sum (label_front v p))) =
    length-append (number p.extent ++ (number p.block ++ (number p.entries ++ (number p.count ++ (number p.layout ++ replicate 460 0))))) (number (sum (label_front v p))) in
    let more = length-append (number p.extent) (number p.block ++ (number p.entries ++ (number p.count ++ (number p.layout ++ replicate 460 0)))) in
    let more2 = length-append (number p.block) (number p.entries ++ (number p.count ++ (number p.layout ++ replicate 460 0))) in
    let more3 = length-append (number p.entries) (number p.count ++ (number p.layout ++ replicate 460 0)) in
    let more4 = length-append (number p.count) (number p.layout ++ replicate 460 0) in
    let more5 = length-append (number p.layout) (replicate 460 0) in
    let whole : length (p.identity ++ behind v p) ≡ length p.identity + length (behind v p) = length-append p.identity (behind v p) in
    let cut : length (take 16 (p.identity ++ behind v p)) ≡ min 16 (length (p.identity ++ behind v p)) = length-take 16 (p.identity ++ behind v p) in
    let same : p.identity ≡ take 16 (p.identity ++ behind v p) = sym own ∙ ap (λ (l : List ℕ). take 16 (drop 12 l)) is ∙ ap (take 16) (from_identity v p) in
    let long : length p.identity ≡ length (take 16 (p.identity ++ behind v p)) = ap length same in
    let zeros : length {A = ℕ} (replicate 460 0) ≡ 460 = length-replicate {A = ℕ} 460 0 in
    omega (arith, long, cut, whole, rest, more, more2, more3, more4, more5, zeros)

-- the fields of a label that is right
pub right_fields : {size : ℕ} {m : ℕ → List ℕ} {p : Plate} → IsRightPlate size m p → IsFields p
right_fields {size} {m} {p} right =
    let g = geometry_from p.extent p.block p.entries right.sizes in
    let parts = and_parts (leb 1 (version_of m)) (leb (version_of m) 2) right.version in
    let few = leb-true _ _ parts.1 in
    record {
      extent = omega (arith, g.extent_most);
      block = omega (arith, g.block_most);
      entries = omega (arith, g.entries_most);
      count = omega (arith, right_few right);
      layout = omega (arith, right.layout, few);
      identity = identity_long (version_of m) p (m label_place) right.spelled right.fields;
    }

-- the sizes of a label are in their ranges, and its layout and its extents in theirs
pub record HasSizes (size version : ℕ) (p : Plate) : Type 0 where
  pub layout : p.layout < version
  pub sizes : IsGeometry p.extent p.block p.entries
  pub most : p.count ≤ extents_on p.layout size p.extent
  pub least : record_extents p.extent ≤ p.count

pub label_again : (size v : ℕ) (p : Plate) (m : ℕ → List ℕ) → 2 ≤ size → is_version v ≡ true → v < 2 ^ 32 → IsFields p → HasSizes size v p
    → m label_place ≡ label_sector v p → plate_of size m ≡ Ok p
unfolding plate_of
label_again size v p m some version low f g is =
    let again = version_again v p low in
    let right = label_right size v (label_sector v p) p again (plate_again v p f) refl g.layout g.sizes g.most g.least in
    rw (is, le-ltb size 2 some, cookie_again v p, again, version, right, plate_again v p f) refl

-- ---- a header

pub pointer_again : (h : Pointer) → h.slot < 2 ^ 32 → h.size < 2 ^ 32 → h.total < 2 ^ 32 → pointer_in (header_sector h) ≡ h
unfolding pointer_in header_sector header_front sealed
pointer_again h a b c =
    let s = header_sector h in
    let slot : number_at 8 s ≡ h.slot = from_be_bytes-to_be_bytes_4 h.slot a in
    let size : number_at 12 s ≡ h.size = from_be_bytes-to_be_bytes_4 h.size b in
    let total : number_at 16 s ≡ h.total = from_be_bytes-to_be_bytes_4 h.total c in
    ap (λ (x : ℕ). let p : Pointer = record { slot = x; size = number_at 12 s; total = number_at 16 s } in p) slot
    ∙ ap (λ (x : ℕ). let p : Pointer = record { slot = h.slot; size = x; total = number_at 16 s } in p) size
    ∙ ap (λ (x : ℕ). let p : Pointer = record { slot = h.slot; size = h.size; total = x } in p) total

pub header_again : (h : Pointer) (image : ℕ → List ℕ) → h.slot ≤ 1 → h.size ≤ slot_bytes (frame_in image) → h.size < 2 ^ 32 → h.total < 2 ^ 32
    → image (frame_in image).header ≡ header_sector h → pointer_of image ≡ Ok h
unfolding pointer_of pointer_by is_header_right
header_again h image slot size small total is =
    let fields = pointer_again h (omega arith) small total in
    let same : bytes_eq (header_sector h) (header_sector h) ≡ true = (bytes_eq-Decides (header_sector h) (header_sector h)).1 refl in
    rw (is, fields, same, le-leb h.slot 1 slot, le-leb h.size (slot_bytes (frame_in image)) size) refl
