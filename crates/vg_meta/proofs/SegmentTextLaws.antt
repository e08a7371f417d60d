-- The text of segments: how long it is, that it reads in one way, and what stands behind those that were read.
use Rattle.std.proofs.Common.{◌≡◌, ℕ, zero, suc, ◌+◌, ◌*◌, ◌<◌, ◌≤◌, ◌^◌, ◌==◌, cond, true, false, List, [], ◌∷◌, ◌++◌, length, refl, sym, ap, ap₂, subst, ◌∙◌, arith, length-append, append_assoc}
use Rattle.std.specs.List.{flat_map, range_with_len, AllByRecursion}
use Rattle.std.proofs.lemmas.Grind.{flat_map-append}
use Rattle.std.proofs.lemmas.List.FromFn.{length-range_with_len}
use Rattle.byteorder.specs.Endian.{big_bytes}
use Rattle.byteorder.specs.Numbers.{length-bytes_high_first}
use Rattle.vg_meta.specs.declared.grammars.Grammar.TheVariants.{Segmented}
use Rattle.vg_meta.specs.Segments.{Segment, joined, segments, spread_all, AreMaximal, GoesOn, AreFew}
use Rattle.vg_meta.specs.Text.{extents_by, numbers_of}
use Rattle.vg_meta.proofs.NumberLaws.{number_same}
use Rattle.vg_meta.proofs.SegmentLaws.{spread-segments, maximal-segments, few-segments, maximal_behind, end_last}

-- ---- how long

pub length-numbers : (ss : List Segment) → length (flat_map (big_bytes 4) (numbers_of ss)) ≡ 8 * length ss
length-numbers [] = refl
length-numbers (s ∷ ss) = omega (
  arith,
  length-append (big_bytes 4 s.first) (big_bytes 4 s.count ++ flat_map (big_bytes 4) (numbers_of ss)),
  length-append (big_bytes 4 s.count) (flat_map (big_bytes 4) (numbers_of ss)),
  length-bytes_high_first 4 s.first,
  length-bytes_high_first 4 s.count,
  length-numbers ss,
)

pub length-segmented : (es : List ℕ) → length (extents_by Segmented es) ≡ 4 + 8 * length (segments es)
length-segmented es = omega (
  arith,
  length-append (big_bytes 4 (length (segments es))) (flat_map (big_bytes 4) (numbers_of (segments es))),
  length-bytes_high_first 4 (length (segments es)),
  length-numbers (segments es),
)

-- ---- read in one way

-- the numbers of segments have room in their bytes
abbrev pub AreSmall : List Segment → Type 0
AreSmall ss = AllByRecursion (λ s. (s.first < 2 ^ 32) × (s.count < 2 ^ 32)) ss

small-joined : (e : ℕ) (ss : List Segment) (most : ℕ) → e < 2 ^ 32 → AllByRecursion (λ s. (s.first < 2 ^ 32) × (s.count ≤ most)) ss → AllByRecursion (λ s. (s.first < 2 ^ 32) × (s.count ≤ suc most)) (joined e ss)
unfolding joined
small-joined e [] most low all = ((low, omega arith), tt)
small-joined e (s ∷ ss) most low all = elim (s.first == e + 1) as (λ b. AllByRecursion (λ s. (s.first < 2 ^ 32) × (s.count ≤ suc most)) (cond b (record { first = e; count = s.count + 1 } ∷ ss) (record { first = e; count = 1 } ∷ s ∷ ss))) [
  | true ↦ ((low, omega (arith, all.0.1)), wider ss all.1)
  | false ↦ ((low, omega arith), ((all.0.0, omega (arith, all.0.1)), wider ss all.1))
]
  where
    wider : (ts : List Segment) → AllByRecursion (λ s. (s.first < 2 ^ 32) × (s.count ≤ most)) ts → AllByRecursion (λ s. (s.first < 2 ^ 32) × (s.count ≤ suc most)) ts
    wider [] h = tt
    wider (t ∷ ts) h = ((h.0.0, omega (arith, h.0.1)), wider ts h.1)

small_most : (es : List ℕ) → AllByRecursion (λ e. e < 2 ^ 32) es → AllByRecursion (λ s. (s.first < 2 ^ 32) × (s.count ≤ length es)) (segments es)
unfolding segments
small_most [] all = tt
small_most (e ∷ es) all = small-joined e (segments es) (length es) all.0 (small_most es all.1)

small_below : (ss : List Segment) (most : ℕ) → most < 2 ^ 32 → AllByRecursion (λ s. (s.first < 2 ^ 32) × (s.count ≤ most)) ss → AreSmall ss
small_below [] most fits h = tt
small_below (s ∷ ss) most fits h = ((h.0.0, omega (arith, h.0.1, fits)), small_below ss most fits h.1)

small-segments : (es : List ℕ) → length es < 2 ^ 32 → AllByRecursion (λ e. e < 2 ^ 32) es → AreSmall (segments es)
small-segments es few all = small_below (segments es) (length es) few (small_most es all)

-- the bytes begin with the text of the former segments, and these are the first of the latter
record Follows (ss ts : List Segment) (x y : List ℕ) : Type 0 where
  more : List Segment
  whole : ts ≡ ss ++ more
  left : x ≡ flat_map (big_bytes 4) (numbers_of more) ++ y

apart : (u : Segment) (us : List Segment) (z : List ℕ) → flat_map (big_bytes 4) (numbers_of (u ∷ us)) ++ z ≡ big_bytes 4 u.first ++ (big_bytes 4 u.count ++ (flat_map (big_bytes 4) (numbers_of us) ++ z))
apart u us z =
    append_assoc (big_bytes 4 u.first) (big_bytes 4 u.count ++ flat_map (big_bytes 4) (numbers_of us)) z
    ∙ ap (λ l. big_bytes 4 u.first ++ l) (append_assoc (big_bytes 4 u.count) (flat_map (big_bytes 4) (numbers_of us)) z)

follows : (ss ts : List Segment) (x y : List ℕ) → length ss ≤ length ts → AreSmall ss → AreSmall ts
    → flat_map (big_bytes 4) (numbers_of ss) ++ x ≡ flat_map (big_bytes 4) (numbers_of ts) ++ y → Follows ss ts x y
follows [] ts x y long p q e = record { more = ts; whole = refl; left = e }
follows (s ∷ ss) [] x y long p q e = absurd (omega (arith, long))
follows (s ∷ ss) (t ∷ ts) x y long p q e =
    let a = number_same 4 s.first t.first (big_bytes 4 s.count ++ (flat_map (big_bytes 4) (numbers_of ss) ++ x)) (big_bytes 4 t.count ++ (flat_map (big_bytes 4) (numbers_of ts) ++ y)) p.0.0 q.0.0
    (sym (apart s ss x) ∙ e ∙ apart t ts y) in
    let b = number_same 4 s.count t.count (flat_map (big_bytes 4) (numbers_of ss) ++ x) (flat_map (big_bytes 4) (numbers_of ts) ++ y) p.0.1 q.0.1 a.1 in
    let rest = follows ss ts x y (omega (arith, long)) p.1 q.1 b.1 in
    let same : t ≡ s = ap₂ (λ f n. record { first = f; count = n }) (sym a.0) (sym b.0) in
    record { more = rest.more; whole = ap₂ (λ (u : Segment) us. u ∷ us) same rest.whole; left = rest.left }

split : (gs z : List ℕ) → extents_by Segmented gs ++ z ≡ big_bytes 4 (length (segments gs)) ++ (flat_map (big_bytes 4) (numbers_of (segments gs)) ++ z)
split gs z = append_assoc (big_bytes 4 (length (segments gs))) (flat_map (big_bytes 4) (numbers_of (segments gs))) z

-- the number of segments reads in one way
both : (es fs x y : List ℕ) → length es < 2 ^ 32 → length fs < 2 ^ 32 → extents_by Segmented es ++ x ≡ extents_by Segmented fs ++ y
    → (length (segments es) ≡ length (segments fs)) × (flat_map (big_bytes 4) (numbers_of (segments es)) ++ x ≡ flat_map (big_bytes 4) (numbers_of (segments fs)) ++ y)
both es fs x y few small e =
    number_same 4 (length (segments es)) (length (segments fs)) _ _ (omega (arith, few-segments es, few)) (omega (arith, few-segments fs, small)) (sym (split es x) ∙ e ∙ split fs y)

pub segments_many : (es fs x y : List ℕ) → length es < 2 ^ 32 → length fs < 2 ^ 32 → extents_by Segmented es ++ x ≡ extents_by Segmented fs ++ y
    → length (segments es) ≡ length (segments fs)
segments_many es fs x y few small e = (both es fs x y few small e).0

pub segmented_same : (es fs x y : List ℕ) → length es < 2 ^ 32 → length fs < 2 ^ 32 → AllByRecursion (λ e. e < 2 ^ 32) es → AllByRecursion (λ e. e < 2 ^ 32) fs
    → extents_by Segmented es ++ x ≡ extents_by Segmented fs ++ y → (es ≡ fs) × (x ≡ y)
segmented_same es fs x y few small p q e =
    let n = both es fs x y few small e in
    let f = follows (segments es) (segments fs) x y (omega (arith, n.0)) (small-segments es few p) (small-segments fs small q) n.1 in
    go f.more f.whole f.left n.0
  where
    go : (more : List Segment) → segments fs ≡ segments es ++ more → x ≡ flat_map (big_bytes 4) (numbers_of more) ++ y → length (segments es) ≡ length (segments fs) → (es ≡ fs) × (x ≡ y)
    go [] whole left many = (sym (spread-segments es) ∙ ap spread_all (sym (whole ∙ nil (segments es))) ∙ spread-segments fs, left)
      where
        nil : (ss : List Segment) → ss ++ [] ≡ ss
        nil [] = refl
        nil (s ∷ ss) = ap (λ us. s ∷ us) (nil ss)
    go (m ∷ more) whole left many = absurd (omega (arith, ap length whole, length-append (segments es) (m ∷ more), many))

-- ---- what stands behind the segments that were read

-- a segment that goes on with extents begins the bytes
pub record IsNext (count most : ℕ) (es left : List ℕ) : Type 0 where
  pub first : ℕ
  pub many : ℕ
  pub behind : List ℕ
  pub spelled : left ≡ big_bytes 4 first ++ (big_bytes 4 many ++ behind)
  pub first_fits : first < 2 ^ 32
  pub many_fits : many < 2 ^ 32
  pub goes_on : GoesOn count most es first many

pub long_next : (count most : ℕ) (es left : List ℕ) → IsNext count most es left → 8 ≤ length left
long_next count most es left n =
    omega (
      arith,
      ap length n.spelled,
      length-append (big_bytes 4 n.first) (big_bytes 4 n.many ++ n.behind),
      length-append (big_bytes 4 n.many) n.behind,
      length-bytes_high_first 4 n.first,
      length-bytes_high_first 4 n.many,
    )

-- the segment that was read is the one that goes on, where any does
pub goes_on_there : (count most : ℕ) (es left after : List ℕ) (first many : ℕ) → IsNext count most es left → left ≡ big_bytes 4 first ++ (big_bytes 4 many ++ after)
    → first < 2 ^ 32 → many < 2 ^ 32 → GoesOn count most es first many
goes_on_there count most es left after first many n read low small =
    let a = number_same 4 n.first first (big_bytes 4 n.many ++ n.behind) (big_bytes 4 many ++ after) n.first_fits low (sym n.spelled ∙ read) in
    let b = number_same 4 n.many many n.behind after n.many_fits small a.1 in
    subst (λ (k : ℕ). GoesOn count most es first k) b.0 (subst (λ (f : ℕ). GoesOn count most es f n.many) a.0 n.goes_on)

weaker : (count : ℕ) (es : List ℕ) → count < 2 ^ 32 → AllByRecursion (λ e. e < count) es → AllByRecursion (λ e. e < 2 ^ 32) es
weaker count [] small all = tt
weaker count (e ∷ es) small all = (omega (arith, all.0, small), weaker count es small all.1)

all_behind : (P : ℕ → Type 0) (xs ys : List ℕ) → AllByRecursion P (xs ++ ys) → AllByRecursion P ys
all_behind P [] ys all = all
all_behind P (x ∷ xs) ys all = all_behind P xs ys all.1

run_below : (a n count : ℕ) (ys : List ℕ) → 1 ≤ n → AllByRecursion (λ e. e < count) (range_with_len a n ++ ys) → a + n ≤ count
run_below a zero count ys some all = absurd (omega arith)
run_below a (suc zero) count ys some all = omega (arith, all.0)
run_below a (suc (suc n)) count ys some all = let rest = run_below (a + 1) (suc n) count ys (omega arith) all.1 in omega (arith, rest)

pub next_segment : (bytes left : List ℕ) (number count most : ℕ) (es : List ℕ) → count < 2 ^ 32 → most ≤ count → AreFew count most es → number < 2 ^ 32 → length (segments es) < number
    → bytes ≡ big_bytes 4 number ++ (flat_map (big_bytes 4) (numbers_of (segments es)) ++ left)
    → (all rest : List ℕ) → AreFew count most all → bytes ≡ extents_by Segmented all ++ rest → IsNext count most es left
next_segment bytes left number count most es small under few fits fewer read all rest among e =
    let n = number_same 4 number (length (segments all)) _ _ fits (omega (arith, few-segments all, among.few, under, small)) (sym read ∙ e ∙ split all rest) in
    let f = follows (segments es) (segments all) left rest (omega (arith, n.0, fewer)) (small-segments es (omega (arith, few.few, under, small)) (weaker count es small few.below))
    (small-segments all (omega (arith, among.few, under, small)) (weaker count all small among.below)) n.1 in
    go f.more f.whole f.left (omega (arith, n.0, fewer)) (small-segments all (omega (arith, among.few, under, small)) (weaker count all small among.below))
  where
    small_at : (ss : List Segment) (m : Segment) (more : List Segment) → AreSmall (ss ++ m ∷ more) → (m.first < 2 ^ 32) × (m.count < 2 ^ 32)
    small_at [] m more h = h.0
    small_at (s ∷ ss) m more h = small_at ss m more h.1

    go : (more : List Segment) → segments all ≡ segments es ++ more → left ≡ flat_map (big_bytes 4) (numbers_of more) ++ rest → length (segments es) < length (segments all)
        → AreSmall (segments all) → IsNext count most es left
    go [] whole behind some low = absurd (omega (arith, ap length whole, length-append (segments es) [], some))
    go (m ∷ more) whole behind some low =
        let text = flat_map (λ (s : Segment). range_with_len s.first s.count) in
        let extents : all ≡ es ++ (range_with_len m.first m.count ++ spread_all more) =
        sym (spread-segments all) ∙ ap spread_all whole ∙ flat_map-append (λ (s : Segment). range_with_len s.first s.count) (segments es) (m ∷ more)
        ∙ ap (λ (l : List ℕ). l ++ (range_with_len m.first m.count ++ spread_all more)) (spread-segments es) in
        let at = maximal_behind (segments es) m more (subst AreMaximal whole (maximal-segments all)) in
        let fit = small_at (segments es) m more (subst AreSmall whole low) in
        record {
          first = m.first;
          many = m.count;
          behind = flat_map (big_bytes 4) (numbers_of more) ++ rest;
          spelled = behind ∙ apart m more rest;
          first_fits = fit.0;
          many_fits = fit.1;
          goes_on = record {
            some = at.0;
            below = run_below m.first m.count count (spread_all more) at.0
                (all_behind (λ e. e < count) es _ (subst (λ (l : List ℕ). AllByRecursion (λ e. e < count) l) extents among.below));
            few = omega (
              arith,
              among.few,
              ap length extents,
              length-append es (range_with_len m.first m.count ++ spread_all more),
              length-append (range_with_len m.first m.count) (spread_all more),
              length-range_with_len m.first m.count,
            );
            apart = end_last es m.first at.1;
          };
        }
