-- The laws of the format.
use Rattle.std.proofs.Common.{◌≡◌, ℕ, ◌+◌, ◌-◌, ◌<◌, ◌≤◌, Bool, true, false, cond, eqb, List, [], ◌∷◌, ◌++◌, length, get_or, take, drop, All, Option, Some, None, refl, sym, ap, ap₂, subst, ◌∙◌, arith, append_assoc}
use Rattle.std.specs.Prelude.{sum, slice_index, IfSome}
use Rattle.std.specs.Str.{bytes_eq}
use Rattle.std.specs.Int.{w32, to_be_bytes, from_be_bytes}
use Rattle.std.proofs.lemmas.Bool.{and_parts, eqb-true, eq-eqb}
use Rattle.std.proofs.lemmas.Nat.{be_bytes_4, from_be_bytes-to_be_bytes_4}
use Rattle.std.proofs.lemmas.List.{take-append-drop, take_at, drop_at, take_all, drop_more, get_or_at, length-take, length-drop, length-append, length-replicate, replicate-append-replicate}
use Rattle.std.proofs.lemmas.List.Elements.{All-append, All-cons, All-replicate, All-take, All-drop, All-get_or, All-from_recursion}
use Rattle.std.proofs.lemmas.Slice.Eq.{bytes_eq-Decides}
use Rattle.uuid.specs.Parts.{is_nil_bytes}
use Rattle.common_laws.proofs.Bytes.{byte_below}
use Rattle.sm_base.specs.Labels.{is_label}
use Rattle.sm_record.specs.declared.records.Record.{Record}
use Rattle.sm_record.specs.declared.records.Reading.{Reading}
use Rattle.sm_record.specs.declared.records.Reading.TheVariants.{Free, Taken, Damaged}
use Rattle.sm_record.specs.Records.{IsSector, IsGiven, IsRecord, IfTaken, zeros, cookie, origin_bytes, flag_byte, label_bytes, fields, record_sector, at, is_zeros, is_sealed, given, flag_of, label_of, ◌>>=◌, record_in, taken_or_damaged, reading}
use Rattle.sm_record.proofs.Fields.{cut, at_is, length-at, is_zeros-zeros, zeros_from, given_from, given_again, origin_from, origin_again, flag_from, flag_again, LabelStands, label_from, label_again, label_facts, bind_from, guard_from, sum_fits}

-- ---- the whole of a sector

-- the fields and what is behind them, and each field with what is behind it
glue : (a b c m d : List ℕ) (f n : ℕ) → (a ++ (b ++ (c ++ (f ∷ (n ∷ m))))) ++ d ≡ a ++ (b ++ (c ++ (f ∷ (n ∷ (m ++ d)))))
glue a b c m d f n = append_assoc a (b ++ (c ++ (f ∷ (n ∷ m)))) d ∙ ap (λ (x : List ℕ). a ++ x) (append_assoc b (c ++ (f ∷ (n ∷ m))) d ∙ ap (λ (x : List ℕ). b ++ x) (append_assoc c (f ∷ (n ∷ m)) d))

length-fields : (a b c m : List ℕ) (f n : ℕ) → length a ≡ 8 → length b ≡ 16 → length c ≡ 16 → length m ≡ 466 → length (a ++ (b ++ (c ++ (f ∷ (n ∷ m))))) ≡ 508
length-fields a b c m f n la lb lc lm = omega (arith, length-append a (b ++ (c ++ (f ∷ (n ∷ m)))), length-append b (c ++ (f ∷ (n ∷ m))), length-append c (f ∷ (n ∷ m)))

length-label : (text : List ℕ) → length text ≤ 64 → length (label_bytes text ++ zeros 402) ≡ 466
length-label text le = omega (arith, length-append (label_bytes text) (zeros 402), length-append text (zeros (64 - length text)), length-replicate {A = ℕ} (64 - length text) 0)

label_rest : (text : List ℕ) → length text ≤ 64 → label_bytes text ++ zeros 402 ≡ text ++ zeros (466 - length text)
label_rest text le =
    let e : (64 - length text) + 402 ≡ 466 - length text = omega arith in
    append_assoc text (zeros (64 - length text)) (zeros 402) ∙ ap (λ (x : List ℕ). text ++ x) (replicate-append-replicate (64 - length text) 402 0 ∙ ap zeros e)

-- the sum that stands at the end is the bytes that are written for it
sum_bytes : (s : List ℕ) → IsSector s → from_be_bytes w32 (at 508 4 s) ≡ sum (take 508 s) → drop 508 s ≡ to_be_bytes w32 (sum (take 508 s))
sum_bytes s sector e =
    let all : at 508 4 s ≡ drop 508 s = take_all 4 (drop 508 s) (omega (arith, length-drop 508 s, sector.long)) in
    let bytes : (i : ℕ) → get_or (drop 508 s) i 0 < 256 = λ i. byte_below (drop 508 s) (All-drop (λ b. b < 256) 508 s sector.bytes) i in
    sym (be_bytes_4 (drop 508 s) (sum (take 508 s)) (omega (arith, length-drop 508 s, sector.long)) bytes (rw (← all) (sym e)))

-- fields that read well are those of a record's sector
assembled : (s : List ℕ) (r : Record) (n : ℕ) → IsSector s → at 8 16 s ≡ r.uuid → origin_bytes r.origin ≡ at 24 16 s → slice_index s 40 ≡ flag_byte r.read_only
    → slice_index s 41 ≡ n → LabelStands n (at 42 466 s) r.label → is_sealed s ≡ true → s ≡ record_sector r
unfolding is_sealed record_sector fields
assembled s r n sector u o f k label is =
    let ok = and_parts (bytes_eq cookie (at 0 8 s)) (eqb (from_be_bytes w32 (at 508 4 s)) (sum (at 0 508 s))) is in
    let c : at 0 8 s ≡ cookie = sym ((bytes_eq-Decides cookie (at 0 8 s)).0 ok.0) in
    let text = r.label in
    let short = (label_facts text label.label).most in
    let b41 : n < 256 = rw (← k) (All-get_or (λ b. b < 256) s 41 0 (omega (arith, sector.long)) sector.bytes) in
    let l466 : length (at 42 466 s) ≡ 466 = length-at 42 466 s (omega (arith, sector.long)) in
    let count : n ≡ length text = omega (arith, ap length label.front, length-take n (at 42 466 s)) in
    let front : at 42 466 s ≡ text ++ zeros (466 - length text) =
    sym (take-append-drop n (at 42 466 s)) ∙ ap₂ (λ (x y : List ℕ). x ++ y) label.front (label.filled ∙ ap₂ (λ (x y : ℕ). zeros (x - y)) l466 count) in
    let mid : at 42 466 s ≡ label_bytes text ++ zeros 402 = front ∙ sym (label_rest text short) in
    let back = drop 508 s in
    let d42 : drop 42 s ≡ (label_bytes text ++ zeros 402) ++ back = cut 42 466 s ∙ ap (λ (x : List ℕ). x ++ back) mid in
    let d41 : drop 41 s ≡ length text ∷ ((label_bytes text ++ zeros 402) ++ back) = drop_more s 41 0 (omega (arith, sector.long)) ∙ ap₂ (λ (x : ℕ) (y : List ℕ). x ∷ y) (k ∙ count) d42 in
    let d40 : drop 40 s ≡ flag_byte r.read_only ∷ (length text ∷ ((label_bytes text ++ zeros 402) ++ back)) = drop_more s 40 0 (omega (arith, sector.long)) ∙ ap₂ (λ (x : ℕ) (y : List ℕ). x ∷ y) f d41 in
    let d24 = cut 24 16 s ∙ ap₂ (λ (x y : List ℕ). x ++ y) (sym o) d40 in
    let d8 = cut 8 16 s ∙ ap₂ (λ (x y : List ℕ). x ++ y) u d24 in
    let d0 = cut 0 8 s ∙ ap₂ (λ (x y : List ℕ). x ++ y) c d8 in
    let parts : s ≡ fields r ++ back = d0 ∙ sym (glue cookie r.uuid (origin_bytes r.origin) (label_bytes text ++ zeros 402) back (flag_byte r.read_only) (length text)) in
    let l16 : length r.uuid ≡ 16 = sym (ap length u) ∙ length-at 8 16 s (omega (arith, sector.long)) in
    let lo : length (origin_bytes r.origin) ≡ 16 = ap length o ∙ length-at 24 16 s (omega (arith, sector.long)) in
    let long : length (fields r) ≡ 508 = length-fields cookie r.uuid (origin_bytes r.origin) (label_bytes text ++ zeros 402) (flag_byte r.read_only) (length text) refl l16 lo (length-label text short) in
    let same : take 508 s ≡ fields r = ap (take 508) parts ∙ take_at (fields r) back 508 long in
    let end : back ≡ to_be_bytes w32 (sum (fields r)) = sum_bytes s sector (eqb-true _ _ ok.1) ∙ ap (λ (x : List ℕ). to_be_bytes w32 (sum x)) same in
    parts ∙ ap (λ (x : List ℕ). fields r ++ x) end

-- ---- what is read is written so

abbrev made : List ℕ → List ℕ → Bool → List ℕ → Record
made s uuid read_only label = record { uuid = uuid; label = label; origin = given (at 24 16 s); read_only = read_only }

abbrev checked : List ℕ → List ℕ → Bool → List ℕ → Option Record
checked s uuid read_only label = cond (is_sealed s) (Some (made s uuid read_only label)) None

abbrev labelled : List ℕ → List ℕ → Bool → Option Record
labelled s uuid read_only = label_of (slice_index s 41) (at 42 466 s) >>= checked s uuid read_only

given_bytes : (s : List ℕ) (from : ℕ) (u : List ℕ) → IsSector s → from + 16 ≤ 512 → at from 16 s ≡ u → is_nil_bytes u ≡ false → IsGiven u
given_bytes s from u sector le e not_nil = record {
  uuid = record {
    long = sym (ap length e) ∙ length-at from 16 s (omega (arith, sector.long));
    bytes = rw (← e) (All-take (λ b. b < 256) 16 (drop from s) (All-drop (λ b. b < 256) from s sector.bytes));
  };
  not_nil = not_nil;
}

origin_given : (s : List ℕ) (o : Option (List ℕ)) → IsSector s → IfSome o (λ v. (v ≡ at 24 16 s) × (is_nil_bytes v ≡ false)) → IfSome o IsGiven
origin_given s None sector h = tt
origin_given s (Some v) sector h = given_bytes s 24 v sector (omega arith) (sym h.0) h.1

pub found : (s : List ℕ) (r : Record) → IsSector s → record_in s ≡ Some r → IsRecord r × (s ≡ record_sector r)
unfolding record_in
found s r sector e =
    let a = bind_from (given (at 8 16 s)) (λ uuid. flag_of (slice_index s 40) >>= labelled s uuid) r e in
    let b = bind_from (flag_of (slice_index s 40)) (labelled s a.0) r a.2 in
    let c = bind_from (label_of (slice_index s 41) (at 42 466 s)) (checked s a.0 b.0) r b.2 in
    let d = guard_from (is_sealed s) (made s a.0 b.0 c.0) r c.2 in
    let uuid = given_from (at 8 16 s) a.0 a.1 in
    let origin = origin_from (at 24 16 s) in
    let label = label_from (slice_index s 41) (at 42 466 s) c.0 c.1 in
    let m = made s a.0 b.0 c.0 in
    let proper : IsRecord m = record {
      uuid = given_bytes s 8 a.0 sector (omega arith) uuid.0 uuid.1;
      origin = origin_given s (given (at 24 16 s)) sector origin.1;
      label = label.label;
    } in
    let whole = assembled s m (slice_index s 41) sector uuid.0 origin.0 (flag_from (slice_index s 40) b.0 b.1) refl label d.0 in
    subst (λ (x : Record). IsRecord x × (s ≡ record_sector x)) d.1 (proper, whole)

-- ---- what is written is read so

record Parts (s : List ℕ) (r : Record) : Type 0 where
  uuid : at 8 16 s ≡ r.uuid
  origin : at 24 16 s ≡ origin_bytes r.origin
  flag : slice_index s 40 ≡ flag_byte r.read_only
  count : slice_index s 41 ≡ length r.label
  label : at 42 466 s ≡ label_bytes r.label ++ zeros 402

length-origin : (o : Option (List ℕ)) → IfSome o IsGiven → length (origin_bytes o) ≡ 16
length-origin None h = refl
length-origin (Some u) h = h.uuid.long

pub length-fields_of : (r : Record) → IsRecord r → length (fields r) ≡ 508
unfolding fields
length-fields_of r h =
    length-fields cookie r.uuid (origin_bytes r.origin) (label_bytes r.label ++ zeros 402) (flag_byte r.read_only) (length r.label) refl h.uuid.uuid.long
    (length-origin r.origin h.origin) (length-label r.label (label_facts r.label h.label).most)

parted : (r : Record) (back : List ℕ) → IsRecord r → Parts (fields r ++ back) r
unfolding fields
parted r back h =
    let b = r.uuid in
    let c = origin_bytes r.origin in
    let f = flag_byte r.read_only in
    let n = length r.label in
    let m = label_bytes r.label ++ zeros 402 in
    let lb : length b ≡ 16 = h.uuid.uuid.long in
    let lc : length c ≡ 16 = length-origin r.origin h.origin in
    let lm : length m ≡ 466 = length-label r.label (label_facts r.label h.label).most in
    let whole = glue cookie b c m back f n in
    let ab = cookie ++ b in
    let lab : length ab ≡ 24 = omega (arith, length-append cookie b) in
    let abc = ab ++ c in
    let labc : length abc ≡ 40 = omega (arith, length-append ab c) in
    let two = whole ∙ sym (append_assoc cookie b (c ++ (f ∷ (n ∷ (m ++ back))))) in
    let three = two ∙ sym (append_assoc ab c (f ∷ (n ∷ (m ++ back)))) in
    let four = three ∙ sym (append_assoc abc (f ∷ []) (n ∷ (m ++ back))) in
    let abcf = abc ++ f ∷ [] in
    let labcf : length abcf ≡ 41 = omega (arith, length-append abc (f ∷ [])) in
    let five = four ∙ sym (append_assoc abcf (n ∷ []) (m ++ back)) in
    let front = abcf ++ n ∷ [] in
    let lfront : length front ≡ 42 = omega (arith, length-append abcf (n ∷ [])) in
    record {
      uuid = ap (at 8 16) whole ∙ at_is 8 16 cookie b (c ++ (f ∷ (n ∷ (m ++ back)))) refl lb;
      origin = ap (at 24 16) two ∙ at_is 24 16 ab c (f ∷ (n ∷ (m ++ back))) lab lc;
      flag = ap (λ (x : List ℕ). get_or x 40 0) three ∙ get_or_at abc f (n ∷ (m ++ back)) 0 40 labc;
      count = ap (λ (x : List ℕ). get_or x 41 0) four ∙ get_or_at abcf n (m ++ back) 0 41 labcf;
      label = ap (at 42 466) five ∙ at_is 42 466 front m back lfront lm;
    }

-- all bytes below 256

abbrev pub AreBytes : List ℕ → Type 0
AreBytes bytes = All (λ b. b < 256) bytes

cookie_bytes : AreBytes cookie
cookie_bytes = All-from_recursion (λ b. b < 256) cookie (omega arith, (omega arith, (omega arith, (omega arith, (omega arith, (omega arith, (omega arith, (omega arith, tt))))))))

flag_fits : (f : Bool) → flag_byte f < 256
flag_fits true = omega arith
flag_fits false = omega arith

origin_fits : (o : Option (List ℕ)) → IfSome o IsGiven → AreBytes (origin_bytes o)
origin_fits None h = All-replicate (λ b. b < 256) 16 0 (omega arith)
origin_fits (Some u) h = h.uuid.bytes

fields_fit : (r : Record) → IsRecord r → AreBytes (fields r)
unfolding fields
fields_fit r h =
    let P : ℕ → Type 0 = λ b. b < 256 in
    let label = label_facts r.label h.label in
    let filled = All-append P r.label (zeros (64 - length r.label)) label.bytes (All-replicate P (64 - length r.label) 0 (omega arith)) in
    let rest = All-append P (label_bytes r.label) (zeros 402) filled (All-replicate P 402 0 (omega arith)) in
    let counted = All-cons P (length r.label) (label_bytes r.label ++ zeros 402) (omega (arith, label.most)) rest in
    let flagged = All-cons P (flag_byte r.read_only) (length r.label ∷ (label_bytes r.label ++ zeros 402)) (flag_fits r.read_only) counted in
    All-append P cookie _ cookie_bytes (All-append P r.uuid _ h.uuid.uuid.bytes (All-append P (origin_bytes r.origin) _ (origin_fits r.origin h.origin) flagged))

number_fits : (n : ℕ) → AreBytes (to_be_bytes w32 n)
number_fits n = All-from_recursion (λ b. b < 256) (to_be_bytes w32 n) (omega arith, (omega arith, (omega arith, (omega arith, tt))))

-- a record's sector is 512 bytes
pub sector_fits : (r : Record) → IsRecord r → IsSector (record_sector r)
unfolding record_sector
sector_fits r h = record {
  long = omega (arith, length-append (fields r) (to_be_bytes w32 (sum (fields r))), length-fields_of r h);
  bytes = All-append (λ b. b < 256) (fields r) (to_be_bytes w32 (sum (fields r))) (fields_fit r h) (number_fits (sum (fields r)));
}

-- and begins with the cookie, so it is not free
pub not_free : (r : Record) → is_zeros (record_sector r) ≡ false
unfolding record_sector fields
not_free r = refl

front_is : (r : Record) (back : List ℕ) → at 0 8 (fields r ++ back) ≡ cookie
unfolding fields
front_is r back = refl

sealed_again : (r : Record) → IsRecord r → is_sealed (record_sector r) ≡ true
unfolding is_sealed record_sector
sealed_again r h =
    let f = fields r in
    let end = to_be_bytes w32 (sum f) in
    let long = length-fields_of r h in
    let a : bytes_eq cookie (at 0 8 (f ++ end)) ≡ true = (bytes_eq-Decides cookie (at 0 8 (f ++ end))).1 (sym (front_is r end)) in
    let b : at 508 4 (f ++ end) ≡ end = ap (take 4) (drop_at f end 508 long) ∙ take_all 4 end (omega arith) in
    let c : take 508 (f ++ end) ≡ f = take_at f end 508 long in
    let d : from_be_bytes w32 end ≡ sum f = from_be_bytes-to_be_bytes_4 (sum f) (sum_fits f (omega (arith, long)) (fields_fit r h)) in
    rw (a, b, c, d) (eq-eqb (sum f) (sum f) refl)

origin_not_nil : (o : Option (List ℕ)) → IfSome o IsGiven → IfSome o (λ u. is_nil_bytes u ≡ false)
origin_not_nil None h = tt
origin_not_nil (Some u) h = h.not_nil

pub again : (r : Record) → IsRecord r → record_in (record_sector r) ≡ Some r
unfolding record_in record_sector
again r h =
    let end = to_be_bytes w32 (sum (fields r)) in
    let p = parted r end h in
    let label = label_facts r.label h.label in
    let m : at 42 466 (fields r ++ end) ≡ r.label ++ zeros (466 - length r.label) = p.label ∙ label_rest r.label label.most in
    rw (p.uuid, p.origin, p.flag, p.count, m, given_again r.uuid h.uuid.not_nil, flag_again r.read_only, label_again r.label (466 - length r.label) h.label, sealed_again r h, origin_again r.origin (origin_not_nil r.origin h.origin)) refl

-- ---- the laws of reading

pub reading_again : (r : Record) → IsRecord r → reading (record_sector r) ≡ Taken r
unfolding reading
reading_again r h = rw (not_free r, again r h) refl

taken_from : (o : Option Record) (r : Record) → taken_or_damaged o ≡ Taken r → o ≡ Some r
taken_from None r e = absurd cc
taken_from (Some x) r e = let same : x ≡ r = cc in ap (λ (y : Record). Some y) same

pub reading_only : (s : List ℕ) (r : Record) → IsSector s → reading s ≡ Taken r → IsRecord r × (s ≡ record_sector r)
unfolding reading
reading_only s r sector e = go (is_zeros s) e
  where
    go : (b : Bool) → cond b Free (taken_or_damaged (record_in s)) ≡ Taken r → IsRecord r × (s ≡ record_sector r)
    go true h = absurd cc
    go false h = found s r sector (taken_from (record_in s) r h)

pub reading_zeros : (n : ℕ) → reading (zeros n) ≡ Free
unfolding reading
reading_zeros n = rw (is_zeros-zeros n) refl

not_taken_free : (o : Option Record) → taken_or_damaged o ≡ Free → ⊥
not_taken_free None e = cc
not_taken_free (Some r) e = cc

pub reading_free : (s : List ℕ) → reading s ≡ Free → s ≡ zeros (length s)
unfolding reading
reading_free s e = go (is_zeros s) refl e
  where
    go : (b : Bool) → is_zeros s ≡ b → cond b Free (taken_or_damaged (record_in s)) ≡ Free → s ≡ zeros (length s)
    go true p h = zeros_from s p
    go false p h = absurd (not_taken_free (record_in s) h)

pub taken_is : (s : List ℕ) (x : Reading) → IsSector s → reading s ≡ x → IfTaken x (λ r. IsRecord r × (s ≡ record_sector r))
taken_is s Free sector e = tt
taken_is s Damaged sector e = tt
taken_is s (Taken r) sector e = reading_only s r sector e

-- ---- a record of the program is one of the format

in_front : (a b : List ℕ) → AreBytes (a ++ b) → AreBytes a
in_front a b h = subst AreBytes (take_at a b (length a) refl) (All-take (λ b. b < 256) (length a) (a ++ b) h)

behind : (a b : List ℕ) → AreBytes (a ++ b) → AreBytes b
behind a b h = subst AreBytes (drop_at a b (length a) refl) (All-drop (λ b. b < 256) (length a) (a ++ b) h)

proper_origin : (o : Option (List ℕ)) → length (origin_bytes o) ≡ 16 → AreBytes (origin_bytes o) → IfSome o (λ u. is_nil_bytes u ≡ false) → IfSome o IsGiven
proper_origin None long bytes not_nil = tt
proper_origin (Some u) long bytes not_nil = record { uuid = record { long = long; bytes = bytes }; not_nil = not_nil }

pub proper : (r : Record) → length r.uuid ≡ 16 → length (origin_bytes r.origin) ≡ 16 → AreBytes (fields r) → is_nil_bytes r.uuid ≡ false → IfSome r.origin (λ u. is_nil_bytes u ≡ false)
    → is_label r.label ≡ true → IsRecord r
unfolding fields
proper r u o bytes not_nil origin label =
    let rest = flag_byte r.read_only ∷ (length r.label ∷ (label_bytes r.label ++ zeros 402)) in
    let behind_cookie : AreBytes (r.uuid ++ (origin_bytes r.origin ++ rest)) = behind cookie (r.uuid ++ (origin_bytes r.origin ++ rest)) bytes in
    let behind_uuid = behind r.uuid (origin_bytes r.origin ++ rest) behind_cookie in
    record {
      uuid = record { uuid = record { long = u; bytes = in_front r.uuid (origin_bytes r.origin ++ rest) behind_cookie }; not_nil = not_nil };
      origin = proper_origin r.origin o (in_front (origin_bytes r.origin) rest behind_uuid) origin;
      label = label;
    }
