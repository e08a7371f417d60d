-- A head as a sector, and a sector as a head.
use Rattle.std.proofs.Common.{◌≡◌, ℕ, ◌+◌, ◌-◌, ◌^◌, ◌<◌, Bool, true, false, ◌&&◌, eqb, List, [], ◌∷◌, ◌++◌, length, get_or, take, drop, All, Some, refl, sym, ap, ap₂, subst, ◌∙◌, arith, append_assoc}
use Rattle.std.specs.Prelude.{sum}
use Rattle.std.specs.Str.{bytes_eq}
use Rattle.std.specs.Int.{w32, w64, to_be_bytes, from_be_bytes}
use Rattle.std.proofs.lemmas.Bool.{and_parts, eqb-true, eq-eqb}
use Rattle.std.proofs.lemmas.Nat.{be_bytes_4, be_bytes_8, from_be_bytes-to_be_bytes_4, from_be_bytes-to_be_bytes_8}
use Rattle.std.proofs.lemmas.List.{take_at, drop_at, take_all, drop_all, append-nil, take-take, take_rest, drop-take, length-take, length-drop, length-append}
use Rattle.std.proofs.lemmas.List.Elements.{All-append, All-replicate, All-take, All-drop, All-from_recursion}
use Rattle.std.proofs.lemmas.Slice.Eq.{bytes_eq-Decides}
use Rattle.common_laws.proofs.Bytes.{byte_below}
use Rattle.byteorder.specs.Endian.{big_number, big_bytes}
use Rattle.sm_record.specs.Records.{IsSector, zeros, is_zeros, at}
use Rattle.sm_record.proofs.Fields.{cut, length-at, is_zeros-zeros, zeros_from, guard_from, sum_fits}
use Rattle.sm_record.proofs.Sectors.{put_next}
use Rattle.sm_log.specs.declared.heads.Head.{Head}
use Rattle.sm_log.specs.Heads.{IsHead, cookie, head_fields, head_sector, is_sealed, numbers_in, head_in}
use borrow.Rule.Slice.PartMut.{put_mid}

abbrev AreBytes : List ℕ → Type 0
AreBytes bytes = All (λ b. b < 256) bytes

number8_bytes : (n : ℕ) → AreBytes (to_be_bytes w64 n)
number8_bytes n = All-from_recursion (λ b. b < 256) (to_be_bytes w64 n) (omega arith, (omega arith, (omega arith, (omega arith, (omega arith, (omega arith, (omega arith, (omega arith, tt))))))))

number4_bytes : (n : ℕ) → AreBytes (to_be_bytes w32 n)
number4_bytes n = All-from_recursion (λ b. b < 256) (to_be_bytes w32 n) (omega arith, (omega arith, (omega arith, (omega arith, tt))))

cookie_bytes : AreBytes cookie
cookie_bytes = All-from_recursion (λ b. b < 256) cookie (omega arith, (omega arith, (omega arith, (omega arith, (omega arith, (omega arith, (omega arith, (omega arith, tt))))))))

-- the fields and what is behind them, each field with what is behind it
glue : (a b c d e f : List ℕ) → (a ++ (b ++ (c ++ (d ++ e)))) ++ f ≡ a ++ (b ++ (c ++ (d ++ (e ++ f))))
glue a b c d e f = simp append_assoc

length-five : (a b c d e : List ℕ) → length a ≡ 8 → length b ≡ 8 → length c ≡ 8 → length d ≡ 4 → length e ≡ 480 → length (a ++ (b ++ (c ++ (d ++ e)))) ≡ 508
length-five a b c d e la lb lc ld le = omega (arith, length-append a (b ++ (c ++ (d ++ e))), length-append b (c ++ (d ++ e)), length-append c (d ++ e), length-append d e)

pub length-fields : (h : Head) → length (head_fields h) ≡ 508
unfolding head_fields
length-fields h = length-five cookie (to_be_bytes w64 h.tag) (to_be_bytes w64 h.since) (to_be_bytes w32 h.pieces) (zeros 480) refl refl refl refl refl

fields_fit : (h : Head) → AreBytes (head_fields h)
unfolding head_fields
fields_fit h =
    let P : ℕ → Type 0 = λ b. b < 256 in
    let pieces = All-append P (to_be_bytes w32 h.pieces) (zeros 480) (number4_bytes h.pieces) (All-replicate P 480 0 (omega arith)) in
    let since = All-append P (to_be_bytes w64 h.since) (to_be_bytes w32 h.pieces ++ zeros 480) (number8_bytes h.since) pieces in
    let tag = All-append P (to_be_bytes w64 h.tag) (to_be_bytes w64 h.since ++ (to_be_bytes w32 h.pieces ++ zeros 480)) (number8_bytes h.tag) since in
    All-append P cookie (to_be_bytes w64 h.tag ++ (to_be_bytes w64 h.since ++ (to_be_bytes w32 h.pieces ++ zeros 480))) cookie_bytes tag

-- a head's sector is 512 bytes
pub sector_fits : (h : Head) → IsHead h → IsSector (head_sector h)
unfolding head_sector
sector_fits h is = record {
  long = omega (arith, length-append (head_fields h) (to_be_bytes w32 (sum (head_fields h))), length-fields h);
  bytes = All-append (λ b. b < 256) (head_fields h) (to_be_bytes w32 (sum (head_fields h))) (fields_fit h) (number4_bytes (sum (head_fields h)));
}

-- ---- what is written is read so

record Parts (s : List ℕ) (h : Head) : Type 0 where
  front : at 0 8 s ≡ cookie
  tag : at 8 8 s ≡ to_be_bytes w64 h.tag
  since : at 16 8 s ≡ to_be_bytes w64 h.since
  pieces : at 24 4 s ≡ to_be_bytes w32 h.pieces
  blank : at 28 480 s ≡ zeros 480

in_front : (a b : List ℕ) (n m k : ℕ) → length a ≡ n → length b ≡ m → n + m ≡ k → length (a ++ b) ≡ k
in_front a b n m k la lb e = omega (arith, length-append a b)

part : (from count : ℕ) (front field back s : List ℕ) → s ≡ front ++ (field ++ back) → length front ≡ from → length field ≡ count → at from count s ≡ field
part from count front field back s e a b = rw e (ap (λ (x : List ℕ). take count x) (drop_at front (field ++ back) from a) ∙ take_at field back count b)

parted : (h : Head) (back : List ℕ) → Parts (head_fields h ++ back) h
unfolding head_fields
parted h back =
    let a = cookie in
    let b = to_be_bytes w64 h.tag in
    let c = to_be_bytes w64 h.since in
    let d = to_be_bytes w32 h.pieces in
    let e = zeros 480 in
    let s = (a ++ (b ++ (c ++ (d ++ e)))) ++ back in
    let whole : s ≡ a ++ (b ++ (c ++ (d ++ (e ++ back)))) = glue a b c d e back in
    let three : s ≡ (a ++ b) ++ (c ++ (d ++ (e ++ back))) = whole ∙ sym (append_assoc a b (c ++ (d ++ (e ++ back)))) in
    let four : s ≡ ((a ++ b) ++ c) ++ (d ++ (e ++ back)) = three ∙ sym (append_assoc (a ++ b) c (d ++ (e ++ back))) in
    let five : s ≡ (((a ++ b) ++ c) ++ d) ++ (e ++ back) = four ∙ sym (append_assoc ((a ++ b) ++ c) d (e ++ back)) in
    let lab : length (a ++ b) ≡ 16 = in_front a b 8 8 16 refl refl refl in
    let labc : length ((a ++ b) ++ c) ≡ 24 = in_front (a ++ b) c 16 8 24 lab refl refl in
    let labcd : length (((a ++ b) ++ c) ++ d) ≡ 28 = in_front ((a ++ b) ++ c) d 24 4 28 labc refl refl in
    record {
      front = part 0 8 [] a (b ++ (c ++ (d ++ (e ++ back)))) s whole refl refl;
      tag = part 8 8 a b (c ++ (d ++ (e ++ back))) s whole refl refl;
      since = part 16 8 (a ++ b) c (d ++ (e ++ back)) s three lab refl;
      pieces = part 24 4 ((a ++ b) ++ c) d (e ++ back) s four labc refl;
      blank = part 28 480 (((a ++ b) ++ c) ++ d) e back s five labcd refl;
    }

sealed_again : (h : Head) → is_sealed (head_sector h) ≡ true
unfolding is_sealed head_sector
sealed_again h =
    let f = head_fields h in
    let end = to_be_bytes w32 (sum f) in
    let long = length-fields h in
    let p = parted h end in
    let a : bytes_eq cookie (at 0 8 (f ++ end)) ≡ true = (bytes_eq-Decides cookie (at 0 8 (f ++ end))).1 (sym p.front) in
    let z : is_zeros (at 28 480 (f ++ end)) ≡ true = ap is_zeros p.blank ∙ is_zeros-zeros 480 in
    let b : at 508 4 (f ++ end) ≡ end = ap (take 4) (drop_at f end 508 long) ∙ take_all 4 end (omega arith) in
    let c : take 508 (f ++ end) ≡ f = take_at f end 508 long in
    let d : from_be_bytes w32 end ≡ sum f = from_be_bytes-to_be_bytes_4 (sum f) (sum_fits f (omega (arith, long)) (fields_fit h)) in
    rw (a, z, b, c, d) (eq-eqb (sum f) (sum f) refl)

sector_parts : (h : Head) → Parts (head_sector h) h
unfolding head_sector
sector_parts h = parted h (to_be_bytes w32 (sum (head_fields h)))

pub again : (h : Head) → IsHead h → head_in (head_sector h) ≡ Some h
unfolding head_in
again h is =
    let s = head_sector h in
    let p = sector_parts h in
    let tag : from_be_bytes w64 (at 8 8 s) ≡ h.tag = ap (from_be_bytes w64) p.tag ∙ from_be_bytes-to_be_bytes_8 h.tag is.tag in
    let since : from_be_bytes w64 (at 16 8 s) ≡ h.since = ap (from_be_bytes w64) p.since ∙ from_be_bytes-to_be_bytes_8 h.since is.since in
    let pieces : from_be_bytes w32 (at 24 4 s) ≡ h.pieces = ap (from_be_bytes w32) p.pieces ∙ from_be_bytes-to_be_bytes_4 h.pieces is.pieces in
    rw (sealed_again h, tag, since, pieces) refl

-- ---- what is read is written so

-- bytes that a number was read of are those that are written of it, and it fits
word8 : (bs : List ℕ) → length bs ≡ 8 → AreBytes bs → (to_be_bytes w64 (from_be_bytes w64 bs) ≡ bs) × (from_be_bytes w64 bs < 2 ^ 64)
word8 bs long fit =
    let b : (i : ℕ) → get_or bs i 0 < 256 = byte_below bs fit in
    (be_bytes_8 bs (from_be_bytes w64 bs) long b refl, omega (arith, b 0, b 1, b 2, b 3, b 4, b 5, b 6, b 7))

word4 : (bs : List ℕ) → length bs ≡ 4 → AreBytes bs → (to_be_bytes w32 (from_be_bytes w32 bs) ≡ bs) × (from_be_bytes w32 bs < 2 ^ 32)
word4 bs long fit =
    let b : (i : ℕ) → get_or bs i 0 < 256 = byte_below bs fit in
    (be_bytes_4 bs (from_be_bytes w32 bs) long b refl, omega (arith, b 0, b 1, b 2, b 3))

at_bytes : (from count : ℕ) (s : List ℕ) → AreBytes s → AreBytes (at from count s)
at_bytes from count s h = All-take (λ b. b < 256) count (drop from s) (All-drop (λ b. b < 256) from s h)

whole : (s : List ℕ) → IsSector s → is_sealed s ≡ true → IsHead (numbers_in s) × (s ≡ head_sector (numbers_in s))
unfolding is_sealed head_sector head_fields
whole s sector is =
    let p = and_parts (bytes_eq cookie (at 0 8 s)) (is_zeros (at 28 480 s) && eqb (from_be_bytes w32 (at 508 4 s)) (sum (at 0 508 s))) is in
    let q = and_parts (is_zeros (at 28 480 s)) (eqb (from_be_bytes w32 (at 508 4 s)) (sum (at 0 508 s))) p.1 in
    let a : at 0 8 s ≡ cookie = sym ((bytes_eq-Decides cookie (at 0 8 s)).0 p.0) in
    let l480 : length (at 28 480 s) ≡ 480 = length-at 28 480 s (omega (arith, sector.long)) in
    let z : at 28 480 s ≡ zeros 480 = zeros_from (at 28 480 s) q.0 ∙ ap zeros l480 in
    let tag = word8 (at 8 8 s) (length-at 8 8 s (omega (arith, sector.long))) (at_bytes 8 8 s sector.bytes) in
    let since = word8 (at 16 8 s) (length-at 16 8 s (omega (arith, sector.long))) (at_bytes 16 8 s sector.bytes) in
    let pieces = word4 (at 24 4 s) (length-at 24 4 s (omega (arith, sector.long))) (at_bytes 24 4 s sector.bytes) in
    let h = numbers_in s in
    let back = drop 508 s in
    let d28 : drop 28 s ≡ zeros 480 ++ back = cut 28 480 s ∙ ap (λ (x : List ℕ). x ++ back) z in
    let d24 : drop 24 s ≡ to_be_bytes w32 h.pieces ++ (zeros 480 ++ back) = cut 24 4 s ∙ ap₂ (λ (x y : List ℕ). x ++ y) (sym pieces.0) d28 in
    let d16 : drop 16 s ≡ to_be_bytes w64 h.since ++ (to_be_bytes w32 h.pieces ++ (zeros 480 ++ back)) = cut 16 8 s ∙ ap₂ (λ (x y : List ℕ). x ++ y) (sym since.0) d24 in
    let d8 : drop 8 s ≡ to_be_bytes w64 h.tag ++ (to_be_bytes w64 h.since ++ (to_be_bytes w32 h.pieces ++ (zeros 480 ++ back))) = cut 8 8 s ∙ ap₂ (λ (x y : List ℕ). x ++ y) (sym tag.0) d16 in
    let d0 : s ≡ cookie ++ (to_be_bytes w64 h.tag ++ (to_be_bytes w64 h.since ++ (to_be_bytes w32 h.pieces ++ (zeros 480 ++ back)))) = cut 0 8 s ∙ ap₂ (λ (x y : List ℕ). x ++ y) a d8 in
    let parts : s ≡ head_fields h ++ back = d0 ∙ sym (glue cookie (to_be_bytes w64 h.tag) (to_be_bytes w64 h.since) (to_be_bytes w32 h.pieces) (zeros 480) back) in
    let same : take 508 s ≡ head_fields h = ap (take 508) parts ∙ take_at (head_fields h) back 508 (length-fields h) in
    let all : at 508 4 s ≡ back = take_all 4 back (omega (arith, length-drop 508 s, sector.long)) in
    let total : from_be_bytes w32 back ≡ sum (head_fields h) = ap (from_be_bytes w32) (sym all) ∙ eqb-true _ _ q.1 ∙ ap (λ (x : List ℕ). sum x) same in
    let last = word4 back (omega (arith, length-drop 508 s, sector.long)) (All-drop (λ b. b < 256) 508 s sector.bytes) in
    let end : back ≡ to_be_bytes w32 (sum (head_fields h)) = sym last.0 ∙ ap (to_be_bytes w32) total in
    (record { tag = tag.1; since = since.1; pieces = pieces.1 }, parts ∙ ap (λ (x : List ℕ). head_fields h ++ x) end)

pub found : (s : List ℕ) (h : Head) → IsSector s → head_in s ≡ Some h → IsHead h × (s ≡ head_sector h)
unfolding head_in
found s h sector e =
    let g = guard_from (is_sealed s) (numbers_in s) h e in
    subst (λ (x : Head). IsHead x × (s ≡ head_sector x)) g.1 (whole s sector g.0)

-- ---- what the calls read and write, in the words of the definitions

pub starts_is : (s : List ℕ) (r : Bool) → r ≡ bytes_eq cookie (take 8 (take 508 s)) → r ≡ bytes_eq cookie (at 0 8 s)
starts_is s r h = h ∙ ap (bytes_eq cookie) (take-take 8 508 s (omega arith))

blank_is : (s : List ℕ) → take (length (take 508 s) - 28) (drop 28 (take 508 s)) ≡ at 28 480 s
blank_is s = take_rest (take 508 s) 28 ∙ drop-take 28 480 s

pub no_cookie : (s : List ℕ) (starts : Bool) → starts ≡ bytes_eq cookie (take 8 (take 508 s)) → starts ≡ false → false ≡ is_sealed s
unfolding is_sealed
no_cookie s starts h e =
    let f : bytes_eq cookie (at 0 8 s) ≡ false = sym (starts_is s starts h) ∙ e in
    rw f refl

pub not_blank : (s : List ℕ) (starts blank : Bool) → starts ≡ bytes_eq cookie (take 8 (take 508 s)) → starts ≡ true
    → blank ≡ is_zeros (take (length (take 508 s) - 28) (drop 28 (take 508 s))) → blank ≡ false → false ≡ is_sealed s
unfolding is_sealed
not_blank s starts blank h e z f =
    let a : bytes_eq cookie (at 0 8 s) ≡ true = sym (starts_is s starts h) ∙ e in
    let b : is_zeros (at 28 480 s) ≡ false = ap is_zeros (sym (blank_is s)) ∙ sym z ∙ f in
    rw (a, b) refl

pub summed : (s : List ℕ) (starts blank : Bool) (number total : ℕ) → length s ≡ 512 → starts ≡ bytes_eq cookie (take 8 (take 508 s)) → starts ≡ true
    → blank ≡ is_zeros (take (length (take 508 s) - 28) (drop 28 (take 508 s))) → blank ≡ true
    → number ≡ big_number 4 (drop 508 s) → total ≡ sum (take 508 s) → eqb number total ≡ is_sealed s
unfolding is_sealed
summed s starts blank number total long h e z f n t =
    let a : bytes_eq cookie (at 0 8 s) ≡ true = sym (starts_is s starts h) ∙ e in
    let b : is_zeros (at 28 480 s) ≡ true = ap is_zeros (sym (blank_is s)) ∙ sym z ∙ f in
    let all : at 508 4 s ≡ drop 508 s = take_all 4 (drop 508 s) (omega (arith, length-drop 508 s)) in
    let m : number ≡ from_be_bytes w32 (drop 508 s) = omega (arith, n) in
    rw (a, b, all, m, t) refl

-- a number that is written over bytes of its length
pub written8 : (new rest : List ℕ) (n : ℕ) → new ≡ big_bytes 8 n ++ rest → length new ≡ 8 → new ≡ to_be_bytes w64 n
written8 new [] n h long = h ∙ append-nil (big_bytes 8 n)
written8 new (x ∷ rest) n h long = absurd (omega (arith, long, ap length h))

pub written4 : (new rest : List ℕ) (n : ℕ) → new ≡ big_bytes 4 n ++ rest → length new ≡ 4 → new ≡ to_be_bytes w32 n
written4 new [] n h long = h ∙ append-nil (big_bytes 4 n)
written4 new (x ∷ rest) n h long = absurd (omega (arith, long, ap length h))

-- the writes of all fields, one after the other
pub written : (old c1 c2 c3 c4 fill : List ℕ) → length old ≡ 508 → c1 ≡ cookie → length c2 ≡ 8 → length c3 ≡ 8 → length c4 ≡ 4
    →
    let front = put_mid 24 4 (put_mid 16 8 (put_mid 8 8 (c1 ++ drop 8 old) c2) c3) c4 in
    fill ≡ zeros (length (take (length front - 28) (drop 28 front))) → put_mid 28 (length front - 28) front fill ≡ cookie ++ (c2 ++ (c3 ++ (c4 ++ zeros 480)))
written old c1 c2 c3 c4 fill long e1 l2 l3 l4 ef =
    let s1 : c1 ++ drop 8 old ≡ cookie ++ drop 8 old = ap (λ (x : List ℕ). x ++ drop 8 old) e1 in
    let d2 = cookie ++ c2 in
    let n2 : length d2 ≡ 16 = omega (arith, length-append cookie c2) in
    let s2 = put_next 8 8 16 (c1 ++ drop 8 old) cookie c2 old s1 refl refl in
    let d3 = d2 ++ c3 in
    let n3 : length d3 ≡ 24 = omega (arith, length-append d2 c3) in
    let s3 = put_next 16 8 24 (put_mid 8 8 (c1 ++ drop 8 old) c2) d2 c3 old s2 n2 refl in
    let d4 = d3 ++ c4 in
    let n4 : length d4 ≡ 28 = omega (arith, length-append d3 c4) in
    let front = put_mid 24 4 (put_mid 16 8 (put_mid 8 8 (c1 ++ drop 8 old) c2) c3) c4 in
    let s4 = put_next 24 4 28 (put_mid 16 8 (put_mid 8 8 (c1 ++ drop 8 old) c2) c3) d3 c4 old s3 n3 refl in
    let all : length front ≡ 508 = omega (arith, ap length s4, length-append d4 (drop 28 old), length-drop 28 old) in
    let s5 = put_next 28 (length front - 28) 508 front d4 fill old s4 n4 (omega arith) in
    let none : drop 508 old ≡ [] = drop_all 508 old (omega arith) in
    let left : length (take (length front - 28) (drop 28 front)) ≡ 480 = omega (arith, all, length-take (length front - 28) (drop 28 front), length-drop 28 front) in
    s5 ∙ rw none (append-nil (d4 ++ fill) ∙ rw (ef ∙ ap zeros left) (regroup cookie c2 c3 c4 (zeros 480)))
  where
    regroup : (a b c d e : List ℕ) → (((a ++ b) ++ c) ++ d) ++ e ≡ a ++ (b ++ (c ++ (d ++ e)))
    regroup a b c d e = simp append_assoc
