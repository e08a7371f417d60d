-- A header whose first sector names another parent reads as it did, but for the parent.
use Rattle.std.proofs.Common.{◌≡◌, ℕ, ◌+◌, ◌-◌, ◌*◌, ◌^◌, ◌<◌, ◌≤◌, List, [], ◌++◌, Bool, true, false, cond, length, take, drop, get_or, sum, replicate, All, Option, Some, None, Ok, is_some, refl, sym, ap, ap₂, ◌∙◌, subst, inl, inr, append_assoc, eq-eqb, eqb-true, arith}
use Rattle.std.specs.Prelude.{◌==◌, codes, unwrap_or}
use Rattle.std.specs.Str.{bytes_eq}
use Rattle.std.proofs.lemmas.Bool.{cases_lt}
use Rattle.std.proofs.lemmas.List.{take-take, take-append-le, take-append-drop, drop-append-le, drop-take, drop-drop, take_at, drop_at, length-take-le, length-drop, get_or_past, append-nil}
use Rattle.std.proofs.lemmas.List.Elements.{All-get_or}
use Rattle.std.proofs.lemmas.List.Sums.{sum_by-append}
use Rattle.std.proofs.lemmas.Option.{none-some, same_Some}
use Rattle.byteorder.specs.Endian.{big_bytes, big_number}
use Rattle.byteorder.specs.Numbers.{big_from-append, big_from-take, big_number-reads_back}
use Rattle.sm_disk.specs.Sectors.{IsSector}
use Rattle.vhd_fields.specs.declared.faults.FieldFault.{FieldFault}
use Rattle.vhd_fields.specs.declared.faults.FieldFault.TheVariants.{Cookie, Checksum, Version, Field}
use Rattle.vhd_fields.specs.declared.headers.Header.{Header}
use Rattle.vhd_fields.specs.Checksums.{checksum, ones_complement, sealed}
use Rattle.vhd_fields.specs.Fields.{bytes_at, number_at, version, unless_fault}
use Rattle.vhd_fields.specs.Headers.{header_fault, header_fields, header_read, header_tests, is_block, is_entries, is_table_offset}
use Rattle.vhd_fields.specs.ParentNames.{IsParent, parent_bytes, parent_read}
use Rattle.vhd_fields.proofs.ParentLaws.{ends_in_zeros, length_parent, parent_again, parent_is}
use Rattle.vhd_fields.proofs.Joining.{six}
use Rattle.vhd_fields.proofs.Sealing.{behind_checksum, checks}
use Rattle.vhd_fields.proofs.Sums.{sum_of_bytes}
use Rattle.vhd_image.specs.declared.images.Body.{Body}
use Rattle.std.specs.Option.{ForSome}
use Rattle.vhd_image.specs.Bodies.{sector_count, volume_name}
use Rattle.vhd_image.specs.Links.{link_bytes, link_tail}
use Rattle.vhd_image.specs.Made.{IsParentImage, MayHave, linked, uid_of, stamp_of}

-- ---- a header that was read passes the tests

step : (t : Bool) (e : FieldFault) (rest : Option FieldFault) → cond t rest (Some e) ≡ None → (t ≡ true) × (rest ≡ None)
step true e rest none = (refl, none)
step false e rest none = absurd (none-some e (sym none))

read_of : (fault : Option FieldFault) (fields h : Header) → unless_fault fault fields ≡ Ok h → (fault ≡ None) × (fields ≡ h)
read_of None fields h is = (refl, cc)
read_of (Some e) fields h is = absurd cc

record Passed (bytes : List ℕ) : Type 0 where
  cookie : bytes_eq (bytes_at 0 8 bytes) (codes "cxsparse") ≡ true
  checked : (number_at 36 4 bytes == checksum 36 bytes) ≡ true
  version_is : (number_at 24 4 bytes == version) ≡ true
  offset : is_table_offset (number_at 16 8 bytes) ≡ true
  entries : is_entries (number_at 28 4 bytes) ≡ true
  block : is_block (number_at 32 4 bytes) ≡ true
  parent : is_some (parent_read (bytes_at 64 512 bytes)) ≡ true

passed : (bytes : List ℕ) → header_fault bytes ≡ None → Passed bytes
unfolding header_tests
passed bytes none =
    let t7 = is_some (parent_read (bytes_at 64 512 bytes)) in
    let t6 = is_block (number_at 32 4 bytes) in
    let t5 = is_entries (number_at 28 4 bytes) in
    let t4 = is_table_offset (number_at 16 8 bytes) in
    let t3 = number_at 24 4 bytes == version in
    let t2 = number_at 36 4 bytes == checksum 36 bytes in
    let t1 = bytes_eq (bytes_at 0 8 bytes) (codes "cxsparse") in
    let r7 : Option FieldFault = cond t7 None (Some (Field 64)) in
    let r6 : Option FieldFault = cond t6 r7 (Some (Field 32)) in
    let r5 : Option FieldFault = cond t5 r6 (Some (Field 28)) in
    let r4 : Option FieldFault = cond t4 r5 (Some (Field 16)) in
    let r3 : Option FieldFault = cond t3 r4 (Some Version) in
    let r2 : Option FieldFault = cond t2 r3 (Some Checksum) in
    let s1 = step t1 Cookie r2 none in
    let s2 = step t2 Checksum r3 s1.1 in
    let s3 = step t3 Version r4 s2.1 in
    let s4 = step t4 (Field 16) r5 s3.1 in
    let s5 = step t5 (Field 28) r6 s4.1 in
    let s6 = step t6 (Field 32) r7 s5.1 in
    let s7 = step t7 (Field 64) None s6.1 in
    record { cookie = s1.0; checked = s2.0; version_is = s3.0; offset = s4.0; entries = s5.0; block = s6.0; parent = s7.0 }

passes : (bytes : List ℕ) → Passed bytes → header_fault bytes ≡ None
unfolding header_tests
passes bytes p = rw (p.cookie, p.checked, p.version_is, p.offset, p.entries, p.block, p.parent) refl

-- ---- the parent's name

-- what a read gave as the parent is spelled in the field
pub spelled : (bytes : List ℕ) (h : Header) → header_read bytes ≡ Ok h → (IsParent h.parent) × (bytes_at 64 512 bytes ≡ parent_bytes h.parent)
unfolding header_fields
spelled bytes h is =
    let read = read_of (header_fault bytes) (header_fields bytes) h is in
    let good = passed bytes read.0 in
    let named : h.parent ≡ unwrap_or (parent_read (bytes_at 64 512 bytes)) None = ap (λ (x : Header). x.parent) (sym read.1) in
    let found = some_of (parent_read (bytes_at 64 512 bytes)) h.parent good.parent named in
    let of = parent_is (bytes_at 64 512 bytes) h.parent found in
    (of.image, of.spelled)
  where
    some_of : {A : Type 0} (o : Option (Option A)) (p : Option A) → is_some o ≡ true → p ≡ unwrap_or o None → o ≡ Some p
    some_of None p is same = cc
    some_of (Some q) p is same = ap Some (sym same)

-- behind the first sector it has zeros
zeros-behind : (front x : List ℕ) (h : Header) → length front ≡ 512 → header_read (front ++ x) ≡ Ok h → take 64 x ≡ replicate 64 0
zeros-behind front x h long is =
    let name = spelled (front ++ x) h is in
    let whole : drop 448 (take (448 + 64) (drop 64 (front ++ x))) ≡ take 64 (drop 448 (drop 64 (front ++ x))) = drop-take 448 64 (drop 64 (front ++ x)) in
    let past : drop 448 (drop 64 (front ++ x)) ≡ x = drop-drop 448 64 (front ++ x) ∙ drop_at front x 512 long in
    sym (ap (take 64) past) ∙ (sym whole ∙ (ap (drop 448) name.1 ∙ ends_in_zeros h.parent name.0))

field-is : (front x : List ℕ) → length front ≡ 512 → bytes_at 64 512 (front ++ x) ≡ drop 64 front ++ take 64 x
field-is front x long =
    let some : 64 ≤ length front = omega arith in
    let front_long : length (drop 64 front) ≡ 448 = omega (arith, length-drop 64 front) in
    ap (take 512) (drop-append-le 64 front x some) ∙ take-past (drop 64 front) x 448 64 front_long
  where
    take-past : (xs ys : List ℕ) (n k : ℕ) → length xs ≡ n → take (n + k) (xs ++ ys) ≡ xs ++ take k ys
    take-past xs ys n k is =
        sym (take-append-drop n (take (n + k) (xs ++ ys)))
        ∙ ap₂ (λ (a b : List ℕ). a ++ b)
        (take-take n (n + k) (xs ++ ys) (omega arith) ∙ take_at xs ys n is)
        (drop-take n k (xs ++ ys) ∙ ap (take k) (drop_at xs ys n is))

-- so one first sector names one parent
pub same-parent : (front x y : List ℕ) (h k : Header) → length front ≡ 512 → header_read (front ++ x) ≡ Ok h → header_read (front ++ y) ≡ Ok k → h.parent ≡ k.parent
same-parent front x y h k long is is' =
    let one = spelled (front ++ x) h is in
    let two = spelled (front ++ y) k is' in
    let fields : bytes_at 64 512 (front ++ x) ≡ bytes_at 64 512 (front ++ y) = field-is front x long ∙ (ap (λ (z : List ℕ). drop 64 front ++ z) (zeros-behind front x h long is ∙ sym (zeros-behind front y k long is')) ∙ sym (field-is front y long)) in
    same_Some h.parent k.parent (sym (parent_again h.parent one.0) ∙ (ap parent_read (sym one.1 ∙ (fields ∙ two.1)) ∙ parent_again k.parent two.0))

-- ---- sums

sum-append : (xs ys : List ℕ) → sum (xs ++ ys) ≡ sum xs + sum ys
sum-append xs ys = sum_by-append (λ x. x) xs ys

each_fits : (xs : List ℕ) → All (λ b. b < 256) xs → (i : ℕ) → get_or xs i 0 < 256
each_fits xs fits i =
    elim (cases_lt i (length xs)) [
      | inl within ↦ All-get_or (λ b. b < 256) xs i 0 within fits
      | inr past ↦ rw (get_or_past xs i 0 past) (omega arith)
    ]

sum-sector : (xs : List ℕ) → IsSector xs → sum xs ≤ 512 * 255
sum-sector xs s = omega (arith, sum_of_bytes xs (each_fits xs s.bytes), s.long)

sum-take : (n : ℕ) (xs : List ℕ) → sum (take n xs) ≤ sum xs
sum-take n xs = omega (arith, sum-append (take n xs) (drop n xs), ap sum (take-append-drop n xs))

sum-drop : (n : ℕ) (xs : List ℕ) → sum (drop n xs) ≤ sum xs
sum-drop n xs = omega (arith, sum-append (take n xs) (drop n xs), ap sum (take-append-drop n xs))

-- ---- the bytes in front of the checksum

number-front : (front rest : List ℕ) (at many : ℕ) → length front ≡ 512 → at + many ≤ 512 → number_at at many (front ++ rest) ≡ number_at at many front
number-front front rest at many long within =
    let some : at ≤ length front = omega arith in
    let left : many ≤ length (drop at front) = omega (arith, length-drop at front) in
    ap (big_number many) (drop-append-le at front rest some) ∙ big_from-append many (drop at front) rest left

number-cut : (front rest : List ℕ) (at many : ℕ) → length front ≡ 512 → at + many ≤ 36 → number_at at many (take 36 front ++ rest) ≡ number_at at many front
number-cut front rest at many long within =
    let cut : length (take 36 front) ≡ 36 = length-take-le 36 front (omega arith) in
    let some : at ≤ length (take 36 front) = omega (arith, cut) in
    let left : many ≤ length (drop at (take 36 front)) = omega (arith, cut, length-drop at (take 36 front)) in
    let split : at + (36 - at) ≡ 36 = omega arith in
    let inner : drop at (take 36 front) ≡ take (36 - at) (drop at front) = ap (λ (n : ℕ). drop at (take n front)) (sym split) ∙ drop-take at (36 - at) front in
    ap (big_number many) (drop-append-le at (take 36 front) rest some) ∙ (big_from-append many (drop at (take 36 front)) rest left
    ∙ (ap (big_number many) inner ∙ big_from-take 0 many (36 - at) (drop at front) (omega arith)))

checked-of : (bytes : List ℕ) (h : Header) → header_read bytes ≡ Ok h → number_at 36 4 bytes ≡ checksum 36 bytes
checked-of bytes h is = eqb-true (number_at 36 4 bytes) (checksum 36 bytes) (passed bytes (read_of (header_fault bytes) (header_fields bytes) h is).0).checked

-- two second sectors behind one first have the same sum
pub same-sum : (front x y : List ℕ) (h k : Header) → IsSector front → IsSector x → IsSector y → header_read (front ++ x) ≡ Ok h → header_read (front ++ y) ≡ Ok k → sum x ≡ sum y
unfolding checksum
same-sum front x y h k first one two is is' =
    let long = first.long in
    let cs : number_at 36 4 (front ++ x) ≡ number_at 36 4 (front ++ y) = number-front front x 36 4 long (omega arith) ∙ sym (number-front front y 36 4 long (omega arith)) in
    let equal = sym (checked-of (front ++ x) h is) ∙ (cs ∙ checked-of (front ++ y) k is') in
    let some : 40 ≤ length front = omega (arith, long) in
    let few : 36 ≤ length front = omega (arith, long) in
    let tx : sum (drop 40 (front ++ x)) ≡ sum (drop 40 front) + sum x = ap sum (drop-append-le 40 front x some) ∙ sum-append (drop 40 front) x in
    let ty : sum (drop 40 (front ++ y)) ≡ sum (drop 40 front) + sum y = ap sum (drop-append-le 40 front y some) ∙ sum-append (drop 40 front) y in
    let ax : sum (take 36 (front ++ x)) ≡ sum (take 36 front) = ap sum (take-append-le 36 front x few) in
    let ay : sum (take 36 (front ++ y)) ≡ sum (take 36 front) = ap sum (take-append-le 36 front y few) in
    omega (arith, equal, tx, ty, ax, ay, sum-sector front first, sum-sector x one, sum-sector y two, sum-take 36 front, sum-drop 40 front)

-- ---- the new first sector

module _ (front x back : List ℕ) (old : Header) (parent : Body) (long : length front ≡ 512) (is : header_read (front ++ x) ≡ Ok old) (sums : sum x ≡ sum back)
    (image : IsParent (Some (volume_name parent))) (uid : length (uid_of parent) ≡ 16) (stamp : stamp_of parent < 2 ^ 32) where
  name : List ℕ
  name = parent_bytes (Some (volume_name parent))

  cut : length (take 36 front) ≡ 36
  cut = length-take-le 36 front (omega (arith, long))

  whole : link_bytes front back parent ++ x ≡ sealed (take 36 front) (link_tail front parent ++ x)
  unfolding link_bytes sealed
  whole =
      let tail = link_tail front parent in
      let same : sum (tail ++ back) ≡ sum (tail ++ x) = sum-append tail back ∙ (ap (λ (n : ℕ). sum tail + n) (sym sums) ∙ sym (sum-append tail x)) in
      append_assoc (take 36 front) (big_bytes 4 (ones_complement (sum (take 36 front) + sum (tail ++ back))) ++ tail) x
      ∙ ap (λ (z : List ℕ). take 36 front ++ z) (append_assoc (big_bytes 4 (ones_complement (sum (take 36 front) + sum (tail ++ back)))) tail x
      ∙ ap (λ (n : ℕ). big_bytes 4 (ones_complement (sum (take 36 front) + n)) ++ (tail ++ x)) same)

  checked : number_at 36 4 (link_bytes front back parent ++ x) ≡ checksum 36 (link_bytes front back parent ++ x)
  checked = subst (λ (z : List ℕ). number_at 36 4 z ≡ checksum 36 z) (sym whole) (checks 36 (take 36 front) (link_tail front parent ++ x) cut)

  behind : drop 40 (link_bytes front back parent ++ x) ≡ link_tail front parent ++ x
  behind = ap (drop 40) whole ∙ behind_checksum 36 (take 36 front) (link_tail front parent ++ x) cut

  number-kept : (at many : ℕ) → at + many ≤ 36 → number_at at many (link_bytes front back parent ++ x) ≡ number_at at many (front ++ x)
  unfolding sealed
  number-kept at many within =
      ap (number_at at many) whole ∙ (number-cut front (big_bytes 4 (ones_complement (sum (take 36 front) + sum (link_tail front parent ++ x))) ++ (link_tail front parent ++ x)) at many long within ∙ sym (number-front front x at many long (omega (arith, within))))

  cookie-kept : bytes_at 0 8 (link_bytes front back parent ++ x) ≡ bytes_at 0 8 (front ++ x)
  unfolding sealed
  cookie-kept =
      ap (bytes_at 0 8) whole ∙ (take-append-le 8 (take 36 front) (big_bytes 4 (ones_complement (sum (take 36 front) + sum (link_tail front parent ++ x))) ++ (link_tail front parent ++ x)) (omega (arith, cut))
      ∙ (take-take 8 36 front (omega arith) ∙ sym (take-append-le 8 front x (omega (arith, long)))))

  -- the tail, field by field
  rest_stamp : List ℕ
  rest_stamp = big_bytes 4 (stamp_of parent) ++ (bytes_at 60 4 front ++ (take 448 name ++ []))

  tail-is : link_tail front parent ++ x ≡ uid_of parent ++ (rest_stamp ++ x)
  unfolding link_tail rest_stamp name
  tail-is = append_assoc (uid_of parent) rest_stamp x

  uid-is : bytes_at 40 16 (link_bytes front back parent ++ x) ≡ uid_of parent
  uid-is = ap (take 16) (behind ∙ tail-is) ∙ take_at (uid_of parent) (rest_stamp ++ x) 16 uid

  behind-uid : drop 56 (link_bytes front back parent ++ x) ≡ rest_stamp ++ x
  behind-uid = sym (drop-drop 16 40 (link_bytes front back parent ++ x)) ∙ (ap (drop 16) (behind ∙ tail-is) ∙ drop_at (uid_of parent) (rest_stamp ++ x) 16 uid)

  stamp-is : number_at 56 4 (link_bytes front back parent ++ x) ≡ stamp_of parent
  unfolding rest_stamp
  stamp-is = ap (big_number 4) behind-uid ∙ big_number-reads_back 4 (stamp_of parent) ((bytes_at 60 4 front ++ (take 448 name ++ [])) ++ x) stamp

  reserved-long : length (bytes_at 60 4 front) ≡ 4
  reserved-long = length-take-le 4 (drop 60 front) (omega (arith, long, length-drop 60 front))

  behind-stamp : drop 64 (link_bytes front back parent ++ x) ≡ take 448 name ++ x
  unfolding rest_stamp
  behind-stamp =
      let reserved = bytes_at 60 4 front in
      let four : drop 4 (rest_stamp ++ x) ≡ (reserved ++ (take 448 name ++ [])) ++ x = refl in
      let last : drop 4 ((reserved ++ (take 448 name ++ [])) ++ x) ≡ take 448 name ++ x =
      ap (drop 4) (append_assoc reserved (take 448 name ++ []) x) ∙ (drop_at reserved ((take 448 name ++ []) ++ x) 4 reserved-long ∙ ap (λ (z : List ℕ). z ++ x) (append-nil (take 448 name))) in
      sym (drop-drop 8 56 (link_bytes front back parent ++ x)) ∙ (ap (drop 8) behind-uid ∙ (sym (drop-drop 4 4 (rest_stamp ++ x)) ∙ (ap (drop 4) four ∙ last)))

  name-is : bytes_at 64 512 (link_bytes front back parent ++ x) ≡ name
  unfolding name
  name-is =
      let full : length name ≡ 512 = length_parent (Some (volume_name parent)) image in
      let part : length (take 448 name) ≡ 448 = length-take-le 448 name (omega (arith, full)) in
      let pieces : take 512 (take 448 name ++ x) ≡ take 448 name ++ take 64 x =
      sym (take-append-drop 448 (take 512 (take 448 name ++ x)))
      ∙ ap₂ (λ (a b : List ℕ). a ++ b)
      (take-take 448 512 (take 448 name ++ x) (omega arith) ∙ take_at (take 448 name) x 448 part)
      (drop-take 448 64 (take 448 name ++ x) ∙ ap (take 64) (drop_at (take 448 name) x 448 part)) in
      ap (take 512) behind-stamp ∙ (pieces ∙ (ap (λ (z : List ℕ). take 448 name ++ z) (zeros-behind front x old long is ∙ sym (ends_in_zeros (Some (volume_name parent)) image)) ∙ take-append-drop 448 name))

  name-reads : parent_read (bytes_at 64 512 (link_bytes front back parent ++ x)) ≡ Some (Some (volume_name parent))
  unfolding name
  name-reads = ap parent_read name-is ∙ parent_again (Some (volume_name parent)) image

  was : (header_fault (front ++ x) ≡ None) × (header_fields (front ++ x) ≡ old)
  was = read_of (header_fault (front ++ x)) (header_fields (front ++ x)) old is

  fields-are : header_fields (link_bytes front back parent ++ x) ≡ linked old parent
  unfolding header_fields
  fields-are = rw (number-kept 16 8 (omega arith), number-kept 28 4 (omega arith), number-kept 32 4 (omega arith), uid-is, stamp-is, name-reads) (ap (λ (h : Header). linked h parent) was.1)

  -- the header reads as it did, with this parent
  pub link-reads : header_read (link_bytes front back parent ++ x) ≡ Ok (linked old parent)
  link-reads =
      let good = passed (front ++ x) was.0 in
      let none : header_fault (link_bytes front back parent ++ x) ≡ None = passes (link_bytes front back parent ++ x) (record {
        cookie = ap (λ (z : List ℕ). bytes_eq z (codes "cxsparse")) cookie-kept ∙ good.cookie;
        checked = eq-eqb (number_at 36 4 (link_bytes front back parent ++ x)) (checksum 36 (link_bytes front back parent ++ x)) checked;
        version_is = ap (λ (n : ℕ). n == version) (number-kept 24 4 (omega arith)) ∙ good.version_is;
        offset = ap is_table_offset (number-kept 16 8 (omega arith)) ∙ good.offset;
        entries = ap is_entries (number-kept 28 4 (omega arith)) ∙ good.entries;
        block = ap is_block (number-kept 32 4 (omega arith)) ∙ good.block;
        parent = ap is_some name-reads;
      }) in
      rw none (ap Ok fields-are)

-- the one parent that an image may have
pub one-parent : (parent : Body) → IsParentImage parent → ForSome (Some parent) (MayHave (sector_count parent))
one-parent parent proper p is = subst (λ (q : Body). MayHave (sector_count parent) q) (same_Some parent p is) (proper, omega arith)

-- ---- the bytes, put together field by field

pub link-is : (front back : List ℕ) (parent : Body) (n s1 s2 s3 s4 s5 s6 : ℕ) (new : List ℕ) → s1 ≡ sum (uid_of parent) → s2 ≡ sum (big_bytes 4 (stamp_of parent)) → s3 ≡ sum (bytes_at 60 4 front) → s4 ≡ sum (take 448 (parent_bytes (Some (volume_name parent))))
    → s5 ≡ sum (take 36 front) → s6 ≡ sum back → n ≡ 4294967295 - (s5 + (s1 + s2 + s3 + s4 + s6))
    → new ≡ ((((([] ++ take 36 front) ++ big_bytes 4 n) ++ uid_of parent) ++ big_bytes 4 (stamp_of parent)) ++ bytes_at 60 4 front) ++ take 448 (parent_bytes (Some (volume_name parent))) → new ≡ link_bytes front back parent
unfolding link_bytes link_tail
link-is front back parent n s1 s2 s3 s4 s5 s6 new e1 e2 e3 e4 e5 e6 is whole =
    let a = take 36 front in
    let u = uid_of parent in
    let s = big_bytes 4 (stamp_of parent) in
    let r = bytes_at 60 4 front in
    let f = take 448 (parent_bytes (Some (volume_name parent))) in
    let tail = u ++ (s ++ (r ++ (f ++ []))) in
    let t4 : sum (f ++ []) ≡ sum f = ap sum (append-nil f) in
    let t3 = sum-append r (f ++ []) in
    let t2 = sum-append s (r ++ (f ++ [])) in
    let t1 = sum-append u (s ++ (r ++ (f ++ []))) in
    let t0 = sum-append tail back in
    let same : n ≡ ones_complement (sum a + sum (tail ++ back)) = omega (arith, e1, e2, e3, e4, e5, e6, is, t0, t1, t2, t3, t4) in
    whole ∙ (six a (big_bytes 4 n) u s r f ∙ ap (λ (k : ℕ). a ++ (big_bytes 4 k ++ tail)) same)
