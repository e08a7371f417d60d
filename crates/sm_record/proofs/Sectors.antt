-- What the calls read and write, in the words of the definitions.
use Rattle.std.proofs.Common.{◌≡◌, ℕ, ◌+◌, ◌-◌, ◌<◌, ◌≤◌, Bool, true, false, eqb, List, [], ◌∷◌, ◌++◌, length, get_or, set, take, drop, Option, Some, None, refl, sym, ap, ap₂, ◌∙◌, arith, append_assoc}
use Rattle.std.specs.Prelude.{sum, unwrap_or}
use Rattle.std.specs.Str.{bytes_eq}
use Rattle.std.specs.Int.{w32, from_be_bytes, to_be_bytes}
use Rattle.std.proofs.lemmas.List.{drop-drop, take_at, drop_at, set_at, drop_more, drop_all, take_all, take-take, length-take, length-drop, length-append, replicate-append-replicate, append-nil}
use Rattle.byteorder.specs.Endian.{big_number, big_bytes}
use Rattle.sm_record.specs.Records.{zeros, at, cookie, origin_bytes, flag_byte, label_bytes, is_sealed}
use mir.Val.{bool_byte}
use borrow.Rule.Slice.PartMut.{put_mid}

-- ---- reading

pub starts_is : (s : List ℕ) (r : Bool) → r ≡ bytes_eq cookie (take 8 (take 508 s)) → r ≡ bytes_eq cookie (at 0 8 s)
starts_is s r h = h ∙ ap (bytes_eq cookie) (take-take 8 508 s (omega arith))

pub unsealed : (s : List ℕ) (starts : Bool) → starts ≡ bytes_eq cookie (take 8 (take 508 s)) → starts ≡ false → starts ≡ is_sealed s
unfolding is_sealed
unsealed s starts h e =
    let f : bytes_eq cookie (at 0 8 s) ≡ false = sym (starts_is s starts h) ∙ e in
    rw (f, e) refl

pub sealed : (s : List ℕ) (starts : Bool) (number total : ℕ) → starts ≡ bytes_eq cookie (take 8 (take 508 s)) → starts ≡ true → length s ≡ 512
    → number ≡ big_number 4 (drop 508 s) → total ≡ sum (take 508 s) → eqb number total ≡ is_sealed s
unfolding is_sealed
sealed s starts number total h e long n t =
    let f : bytes_eq cookie (at 0 8 s) ≡ true = sym (starts_is s starts h) ∙ e in
    let all : at 508 4 s ≡ drop 508 s = take_all 4 (drop 508 s) (omega (arith, length-drop 508 s)) in
    let m : number ≡ from_be_bytes w32 (drop 508 s) = omega (arith, n) in
    rw (f, all, m, t) refl

-- ---- writing

-- one more field behind those that are written
pub put_next : (from count next : ℕ) (s done field old : List ℕ) → s ≡ done ++ drop from old → length done ≡ from → from + count ≡ next
    → put_mid from count s field ≡ (done ++ field) ++ drop next old
put_next from count next s done field old h a e =
    let front : take from s ≡ done = rw h (take_at done (drop from old) from a) in
    let back : drop count (drop from s) ≡ drop next old = rw h (ap (drop count) (drop_at done (drop from old) from a) ∙ drop-drop count from old ∙ ap (λ n. drop n old) e) in
    ap₂ (λ (x y : List ℕ). x ++ (field ++ y)) front back ∙ sym (append_assoc done field (drop next old))

pub set_next : (from next : ℕ) (s done : List ℕ) (b : ℕ) (old : List ℕ) → s ≡ done ++ drop from old → length done ≡ from → from < length old → from + 1 ≡ next
    → set s from b ≡ (done ++ b ∷ []) ++ drop next old
set_next from next s done b old h a lt e =
    let more : drop from old ≡ get_or old from 0 ∷ drop next old = drop_more old from 0 lt ∙ ap (λ n. get_or old from 0 ∷ drop n old) e in
    ap (λ (x : List ℕ). set x from b) (h ∙ ap (λ (x : List ℕ). done ++ x) more) ∙ set_at done (get_or old from 0) (drop next old) b from a
    ∙ sym (append_assoc done (b ∷ []) (drop next old))

pub origin_is : (o : Option (List ℕ)) → unwrap_or o (zeros 16) ≡ origin_bytes o
origin_is None = refl
origin_is (Some u) = refl

regroup : (a b c d e f g h : List ℕ) → (((((a ++ b) ++ c) ++ d) ++ e) ++ f) ++ (g ++ h) ≡ a ++ (b ++ (c ++ (d ++ (e ++ ((f ++ g) ++ h)))))
regroup a b c d e f g h = simp append_assoc

pub flag_is : (flag : Bool) → bool_byte flag ≡ flag_byte flag
flag_is true = refl
flag_is false = refl

-- the writes of all fields, one after the other
pub written : (old c1 c2 c3 c4 text fill : List ℕ) (flag : ℕ) → length old ≡ 508 → c1 ≡ cookie → length c2 ≡ 16 → length c3 ≡ 16 → length text ≤ 64 → c4 ≡ text
    →
    let n = length text in
    let front = put_mid 24 16 (put_mid 8 16 (c1 ++ drop 8 old) c2) c3 in
    let label = put_mid 42 (42 + n - 42) (set (set front 40 flag) 41 n) c4 in
    fill ≡ zeros (length (take (length label - (42 + n)) (drop (42 + n) label))) → put_mid (42 + n) (length label - (42 + n)) label fill ≡ cookie ++ (c2 ++ (c3 ++ (flag ∷ (n ∷ (label_bytes text ++ zeros 402)))))
written old c1 c2 c3 c4 text fill flag long e1 l2 l3 short e4 ef =
    let n = length text in
    let a = 42 + n - 42 in
    let s1 : c1 ++ drop 8 old ≡ cookie ++ drop 8 old = ap (λ (x : List ℕ). x ++ drop 8 old) e1 in
    let d2 = cookie ++ c2 in
    let n2 : length d2 ≡ 24 = omega (arith, length-append cookie c2) in
    let s2 = put_next 8 16 24 (c1 ++ drop 8 old) cookie c2 old s1 refl refl in
    let d3 = d2 ++ c3 in
    let n3 : length d3 ≡ 40 = omega (arith, length-append d2 c3) in
    let front = put_mid 24 16 (put_mid 8 16 (c1 ++ drop 8 old) c2) c3 in
    let s3 = put_next 24 16 40 (put_mid 8 16 (c1 ++ drop 8 old) c2) d2 c3 old s2 n2 refl in
    let d4 = d3 ++ flag ∷ [] in
    let n4 : length d4 ≡ 41 = omega (arith, length-append d3 (flag ∷ [])) in
    let s4 = set_next 40 41 front d3 flag old s3 n3 (omega arith) refl in
    let d5 = d4 ++ n ∷ [] in
    let n5 : length d5 ≡ 42 = omega (arith, length-append d4 (n ∷ [])) in
    let s5 = set_next 41 42 (set front 40 flag) d4 n old s4 n4 (omega arith) refl in
    let d6 = d5 ++ c4 in
    let n6 : length d6 ≡ 42 + n = omega (arith, length-append d5 c4, ap length e4) in
    let label = put_mid 42 a (set (set front 40 flag) 41 n) c4 in
    let s6 = put_next 42 a (42 + n) (set (set front 40 flag) 41 n) d5 c4 old s5 n5 (omega arith) in
    let all : length label ≡ 508 = omega (arith, ap length s6, length-append d6 (drop (42 + n) old), length-drop (42 + n) old) in
    let s7 = put_next (42 + n) (length label - (42 + n)) 508 label d6 fill old s6 n6 (omega arith) in
    let none : drop 508 old ≡ [] = drop_all 508 old (omega arith) in
    let left : length (take (length label - (42 + n)) (drop (42 + n) label)) ≡ (64 - n) + 402 = omega (arith, all, length-take (length label - (42 + n)) (drop (42 + n) label), length-drop (42 + n) label) in
    let rest : fill ≡ zeros (64 - n) ++ zeros 402 = ef ∙ ap zeros left ∙ sym (replicate-append-replicate (64 - n) 402 0) in
    s7 ∙ rw none (append-nil (d6 ++ fill) ∙ rw (e4, rest) (regroup cookie c2 c3 (flag ∷ []) (n ∷ []) text (zeros (64 - n)) (zeros 402)))

-- the fields, and their sum behind them
pub ended : (front end old f : List ℕ) (n : ℕ) → front ≡ f → n ≡ sum front → length old ≡ 4 → end ≡ big_bytes 4 n ++ drop 4 old → front ++ end ≡ f ++ to_be_bytes w32 (sum f)
ended front end old f n e s long h =
    let none : drop 4 old ≡ [] = drop_all 4 old (omega (arith, long)) in
    let m : n ≡ sum f = s ∙ ap (λ (x : List ℕ). sum x) e in
    ap₂ (λ (x y : List ℕ). x ++ y) e (h ∙ rw (none, m) refl)
