-- Segments that are counted, read and written one after the other.
use Rattle.std.proofs.Common.{◌≡◌, ◌≢◌, ℕ, ◌+◌, ◌*◌, ◌<◌, ◌≤◌, ◌^◌, List, [], ◌∷◌, ◌++◌, length, take, drop, get_or, Some, refl, sym, ap, subst, ◌∙◌, arith, length-append, append_assoc}
use Rattle.std.specs.Prelude.{slice_get}
use Rattle.std.specs.List.{flat_map, range_with_len, AllByRecursion}
use Rattle.std.proofs.lemmas.List.{append-nil, take-append-drop}
use Rattle.std.proofs.lemmas.List.FromFn.{length-range_with_len}
use Rattle.byteorder.specs.Endian.{big_bytes}
use Rattle.common_laws.proofs.Lists.{take_next}
use Rattle.vg_meta.specs.declared.grammars.Grammar.TheVariants.{Segmented}
use Rattle.vg_meta.specs.Segments.{Segment, segments, spread_all, CountsUp, GoesOn, AreFew}
use Rattle.vg_meta.specs.Text.{extents_by, numbers_of}
use Rattle.vg_meta.specs.Writing.{WritesText}
use Rattle.vg_meta.proofs.ExtentLaws.{All-weaken}
use Rattle.vg_meta.proofs.RangeLaws.{range-push, range-below}
use Rattle.vg_meta.proofs.SegmentLaws.{segments-push, spread-segments}
use Rattle.vg_meta.proofs.SegmentTextLaws.{length-numbers}
use Rattle.vg_meta.proofs.WriteLaws.{puts_none, puts_then}

-- ---- extents that count up

-- one more that does
pub counted_more : (es : List ℕ) (from i e : ℕ) → i < length es → e ≡ get_or es i e → e ≡ from + i → take i es ≡ range_with_len from i
    → take (i + 1) es ≡ range_with_len from (i + 1)
counted_more es from i e within is next so_far =
    take_next es i e within is ∙ ap (λ (l : List ℕ). l ++ e ∷ []) so_far ∙ ap (λ (x : ℕ). range_with_len from i ++ x ∷ []) next ∙ sym (range-push from i)

pub counts_up : (es : List ℕ) (from i : ℕ) → i ≤ length es → take i es ≡ range_with_len from i → ((e : ℕ) → slice_get es i ≡ Some e → e ≢ from + i) → CountsUp from i es
counts_up es from i within so_far ends = record {
  within = within;
  run = sym (take-append-drop i es) ∙ ap (λ (l : List ℕ). l ++ drop i es) so_far;
  ends = ends;
}

-- ---- what is left behind a segment

pub left_most : (xs ys : List ℕ) (s : Segment) → segments xs ≡ s ∷ segments ys → length ys ≤ length xs
left_most xs ys s is =
    let whole : xs ≡ range_with_len s.first s.count ++ ys =
    sym (spread-segments xs) ∙ ap spread_all is ∙ ap (λ (l : List ℕ). range_with_len s.first s.count ++ l) (spread-segments ys) in
    omega (arith, ap length whole, length-append (range_with_len s.first s.count) ys)

numbers-push : (ss : List Segment) (a n : ℕ) → (let s : Segment = record { first = a; count = n } in
    flat_map (big_bytes 4) (numbers_of (ss ++ s ∷ [])) ≡ flat_map (big_bytes 4) (numbers_of ss) ++ (big_bytes 4 a ++ big_bytes 4 n))
numbers-push [] a n = ap (λ (l : List ℕ). big_bytes 4 a ++ l) (append-nil (big_bytes 4 n))
numbers-push (t ∷ ss) a n =
    let front = big_bytes 4 t.first in
    let behind = big_bytes 4 t.count in
    let rest = flat_map (big_bytes 4) (numbers_of ss) in
    let last = big_bytes 4 a ++ big_bytes 4 n in
    ap (λ (l : List ℕ). front ++ (behind ++ l)) (numbers-push ss a n)
    ∙ ap (λ (l : List ℕ). front ++ l) (sym (append_assoc behind rest last)) ∙ sym (append_assoc front (behind ++ rest) last)

-- ---- reading

-- so many of the segments were read, which are those of these extents
pub record ReadSegments (count most : ℕ) (bytes : List ℕ) (number : ℕ) (rest es : List ℕ) (i : ℕ) : Type 0 where
  pub read : bytes ≡ big_bytes 4 number ++ (flat_map (big_bytes 4) (numbers_of (segments es)) ++ rest)
  pub many : length (segments es) ≡ i
  pub few : AreFew count most es

pub segments_first : (count most : ℕ) (bytes : List ℕ) (number : ℕ) (rest es : List ℕ) → es ≡ [] → bytes ≡ big_bytes 4 number ++ rest → ReadSegments count most bytes number rest es 0
unfolding segments
segments_first count most bytes number rest es none read =
    subst (λ (l : List ℕ). ReadSegments count most bytes number rest l 0) (sym none) (record { read = read; many = refl; few = record { below = tt; few = omega arith } })

all_both : (P : ℕ → Type 0) (xs ys : List ℕ) → AllByRecursion P xs → AllByRecursion P ys → AllByRecursion P (xs ++ ys)
all_both P [] ys a b = b
all_both P (x ∷ xs) ys a b = (a.0, all_both P xs ys a.1 b)

pub segments_more : (count most : ℕ) (bytes : List ℕ) (number : ℕ) (rest after es now : List ℕ) (first many i : ℕ) → ReadSegments count most bytes number rest es i
    → GoesOn count most es first many → rest ≡ big_bytes 4 first ++ (big_bytes 4 many ++ after) → now ≡ es ++ range_with_len first many
    → ReadSegments count most bytes number after now (i + 1)
segments_more count most bytes number rest after es now first many i r g next is =
    let s : Segment = record { first = first; count = many } in
    let pushed : segments now ≡ segments es ++ s ∷ [] = ap segments is ∙ segments-push es first many g.some g.apart in
    let text = flat_map (big_bytes 4) (numbers_of (segments es)) in
    let last = big_bytes 4 first ++ big_bytes 4 many in
    record {
      read = r.read ∙ ap (λ (l : List ℕ). big_bytes 4 number ++ (text ++ l)) (next ∙ sym (append_assoc (big_bytes 4 first) (big_bytes 4 many) after))
          ∙ ap (λ (l : List ℕ). big_bytes 4 number ++ l)
          (sym (append_assoc text last after) ∙ ap (λ (l : List ℕ). l ++ after) (sym (ap (λ ss. flat_map (big_bytes 4) (numbers_of ss)) pushed ∙ numbers-push (segments es) first many)));
      many = ap length pushed ∙ omega (arith, length-append (segments es) (s ∷ []), r.many);
      few = record {
        below = subst (λ (l : List ℕ). AllByRecursion (λ e. e < count) l) (sym is)
            (all_both (λ e. e < count) es (range_with_len first many) r.few.below
            (All-weaken (λ (e : ℕ). e < first + many) (λ (e : ℕ). e < count) (range_with_len first many) (λ e h. omega (arith, h, g.below)) (range-below first many)));
        few = omega (arith, ap length is, length-append es (range_with_len first many), length-range_with_len first many, g.few);
      };
    }

pub segments_read : (count most : ℕ) (bytes : List ℕ) (number : ℕ) (rest es : List ℕ) (i : ℕ) → ReadSegments count most bytes number rest es i → i ≡ number
    → bytes ≡ extents_by Segmented es ++ rest
segments_read count most bytes number rest es i r all =
    let text = flat_map (big_bytes 4) (numbers_of (segments es)) in
    r.read ∙ ap (λ (n : ℕ). big_bytes 4 n ++ (text ++ rest)) (sym (r.many ∙ all)) ∙ sym (append_assoc (big_bytes 4 (length (segments es))) text rest)

-- ---- writing

-- the segments of all are written but for those of what is left
pub record PutSegments (at : ℕ) (all left old new : List ℕ) (end : ℕ) : Type 0 where
  pub front : List Segment
  pub whole : segments all ≡ front ++ segments left
  pub written : WritesText at (flat_map (big_bytes 4) (numbers_of front)) old new end
  pub few : length left < 2 ^ 32

pub put_first : (at : ℕ) (all old : List ℕ) → length all < 2 ^ 32 → PutSegments at all all old old at
put_first at all old few = record { front = []; whole = refl; written = puts_none at old; few = few }

pub put_room : (at : ℕ) (all left next old new : List ℕ) (end : ℕ) (s : Segment) → PutSegments at all left old new end → segments left ≡ s ∷ segments next
    → at + 8 * length (segments all) ≤ length old → end + 8 ≤ length old
put_room at all left next old new end s p is room =
    omega (arith, room, p.written.behind, length-numbers p.front, ap length p.whole, length-append p.front (segments left), ap length is)

pub put_more : (at : ℕ) (all left next old half new : List ℕ) (middle end first many : ℕ) → at ≤ length old → PutSegments at all left old half middle
    → (let s : Segment = record { first = first; count = many } in segments left ≡ s ∷ segments next)
    → WritesText middle (big_bytes 4 first ++ big_bytes 4 many) half new end → PutSegments at all next old new end
put_more at all left next old half new middle end first many within p is w =
    let s : Segment = record { first = first; count = many } in
    record {
      front = p.front ++ s ∷ [];
      whole = p.whole ∙ ap (λ (l : List Segment). p.front ++ l) is ∙ sym (append_assoc p.front (s ∷ []) (segments next));
      written = subst (λ (t : List ℕ). WritesText at t old new end) (sym (numbers-push p.front first many))
          (puts_then at middle end (flat_map (big_bytes 4) (numbers_of p.front)) (big_bytes 4 first ++ big_bytes 4 many) old half new within p.written w);
      few = omega (arith, p.few, left_most left next s is);
    }

pub put_all : (at : ℕ) (all left old new : List ℕ) (end : ℕ) → PutSegments at all left old new end → segments left ≡ []
    → WritesText at (flat_map (big_bytes 4) (numbers_of (segments all))) old new end
put_all at all left old new end p none =
    subst (λ (ss : List Segment). WritesText at (flat_map (big_bytes 4) (numbers_of ss)) old new end)
    (sym (p.whole ∙ ap (λ (l : List Segment). p.front ++ l) none ∙ append-nil p.front)) p.written
