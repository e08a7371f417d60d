-- Runs: their extents, how many these are, and one extent more behind them.
use Rattle.std.proofs.Common.{◌≡◌, ◌≢◌, ℕ, zero, suc, ◌+◌, ◌-◌, ◌≤◌, ◌<◌, List, [], ◌∷◌, ◌++◌, length, get_or, take, drop, min, Result, Ok, Err, OnOk, refl, sym, ap, subst, ◌∙◌, arith}
use Rattle.std.specs.List.{range_with_len}
use Rattle.std.proofs.lemmas.List.{append-nil, append_assoc, length-append, map-append, take-append-le, take_all, take_more, length-take}
use Rattle.std.proofs.lemmas.List.FromFn.{length-range_with_len}
use Rattle.std.proofs.lemmas.Grind.{flat_map-append}
use Rattle.std.proofs.Math.Seq.{take-append-add}
use Rattle.vg_meta.specs.Segments.{Segment, spread_all}
use Rattle.vg_meta.proofs.RangeLaws.{range-push}
use Rattle.vg_extents.specs.declared.runs.Run.{Run}
use Rattle.vg_extents.specs.Runs.{AreApart, segment_of, segments_of, extents_of}

-- ---- what runs that are apart are

-- the room up to the end holds them, and one extent more
room_apart : (from end : ℕ) (ss : List Segment) → AreApart from end ss → length (spread_all ss) + from ≤ end + 1
room_apart from end [] apart = omega (arith, apart)
room_apart from end (s ∷ ss) apart = omega (
  arith,
  length-append (range_with_len s.first s.count) (spread_all ss),
  length-range_with_len s.first s.count,
  apart.0,
  room_apart (s.first + s.count + 1) end ss apart.2,
)

-- there are no more extents than places below the end
pub length-apart : (end : ℕ) (rs : List Run) → AreApart 0 end (segments_of rs) → length (extents_of rs) ≤ end
length-apart end [] apart = omega arith
length-apart end (r ∷ rs) apart = omega (
  arith,
  length-append (range_with_len r.first r.count) (extents_of rs),
  length-range_with_len r.first r.count,
  room_apart (r.first + r.count + 1) end (segments_of rs) apart.2,
)

from_apart : (from end : ℕ) (ss : List Segment) → AreApart from end ss → from ≤ end + 1
from_apart from end ss apart = omega (arith, room_apart from end ss apart)

-- each run ends by the end
pub end_apart : (from end : ℕ) (rs : List Run) (i : ℕ) (d : Run) → AreApart from end (segments_of rs) → i < length rs → (get_or rs i d).first + (get_or rs i d).count ≤ end
end_apart from end [] i d apart lt = absurd (omega arith)
end_apart from end (r ∷ rs) zero d apart lt = omega (arith, from_apart (r.first + r.count + 1) end (segments_of rs) apart.2)
end_apart from end (r ∷ rs) (suc i) d apart lt = end_apart (r.first + r.count + 1) end rs i d apart.2 (omega arith)

pub wider_apart : (from end more : ℕ) (ss : List Segment) → end ≤ more → AreApart from end ss → AreApart from more ss
wider_apart from end more [] le apart = omega (arith, apart)
wider_apart from end more (s ∷ ss) le apart = (apart.0, apart.1, wider_apart (s.first + s.count + 1) end more ss le apart.2)

-- ---- one extent more

abbrev run_of : ℕ → ℕ → Run
run_of f n = record { first = f; count = n }

segments-push : (rs : List Run) (r : Run) → segments_of (rs ++ r ∷ []) ≡ segments_of rs ++ segment_of r ∷ []
segments-push rs r = map-append segment_of rs (r ∷ [])

extents-push : (rs : List Run) (r : Run) → extents_of (rs ++ r ∷ []) ≡ extents_of rs ++ range_with_len r.first r.count
extents-push rs r =
    ap spread_all (segments-push rs r) ∙ flat_map-append (λ (s : Segment). range_with_len s.first s.count) (segments_of rs) (segment_of r ∷ [])
    ∙ ap (λ (l : List ℕ). extents_of rs ++ l) (append-nil (range_with_len r.first r.count))

-- the last run gets longer by one
longer_apart : (from e : ℕ) (rs : List Run) (r : Run) → r.first + r.count ≡ e → AreApart from e (segments_of (rs ++ r ∷ [])) → AreApart from (e + 1) (segments_of (rs ++ run_of r.first (r.count + 1) ∷ []))
longer_apart from e [] r is apart = (apart.0, omega arith, omega (arith, is))
longer_apart from e (s ∷ rs) r is apart = (apart.0, apart.1, longer_apart (s.first + s.count + 1) e rs r is apart.2)

-- a run of one extent stands behind the last, and does not touch it
more_apart : (from e : ℕ) (rs : List Run) (r : Run) → r.first + r.count ≢ e → AreApart from e (segments_of (rs ++ r ∷ [])) → AreApart from (e + 1) (segments_of ((rs ++ r ∷ []) ++ run_of e 1 ∷ []))
more_apart from e [] r other apart = (apart.0, apart.1, (next, omega arith, omega arith))
  where
    next : r.first + r.count + 1 ≤ e
    next = omega (arith, apart.2, other)
more_apart from e (s ∷ rs) r other apart = (apart.0, apart.1, more_apart (s.first + s.count + 1) e rs r other apart.2)

pub runs_longer : {all new : List Run} (rs : List Run) (r : Run) (e : ℕ) → all ≡ rs ++ r ∷ [] → new ≡ rs ++ run_of r.first (r.count + 1) ∷ [] → r.first + r.count ≡ e
    → AreApart 0 e (segments_of all) → AreApart 0 (e + 1) (segments_of new)
runs_longer {all} {new} rs r e is now next apart =
    subst (λ (l : List Run). AreApart 0 (e + 1) (segments_of l)) (sym now) (longer_apart 0 e rs r next (subst (λ (l : List Run). AreApart 0 e (segments_of l)) is apart))

pub extents_longer : {all new : List Run} (rs : List Run) (r : Run) (e : ℕ) → all ≡ rs ++ r ∷ [] → new ≡ rs ++ run_of r.first (r.count + 1) ∷ [] → r.first + r.count ≡ e
    → extents_of new ≡ extents_of all ++ e ∷ []
extents_longer {all} {new} rs r e is now next =
    ap extents_of now ∙ extents-push rs (run_of r.first (r.count + 1))
    ∙ ap (λ (l : List ℕ). extents_of rs ++ l) (range-push r.first r.count ∙ ap (λ (x : ℕ). range_with_len r.first r.count ++ x ∷ []) next)
    ∙ sym (append_assoc (extents_of rs) (range_with_len r.first r.count) (e ∷ []))
    ∙ ap (λ (l : List ℕ). l ++ e ∷ []) (sym (ap extents_of is ∙ extents-push rs r))

pub runs_more : {all new : List Run} (rs : List Run) (r : Run) (e : ℕ) → all ≡ rs ++ r ∷ [] → new ≡ all ++ run_of e 1 ∷ [] → r.first + r.count ≢ e
    → AreApart 0 e (segments_of all) → AreApart 0 (e + 1) (segments_of new)
runs_more {all} {new} rs r e is now other apart =
    subst (λ (l : List Run). AreApart 0 (e + 1) (segments_of l)) (sym (now ∙ ap (λ (l : List Run). l ++ run_of e 1 ∷ []) is))
    (more_apart 0 e rs r other (subst (λ (l : List Run). AreApart 0 e (segments_of l)) is apart))

pub extents_more : {new : List Run} (all : List Run) (e : ℕ) → new ≡ all ++ run_of e 1 ∷ [] → extents_of new ≡ extents_of all ++ e ∷ []
extents_more all e now = ap extents_of now ∙ extents-push all (run_of e 1)

-- ---- the runs so far

-- the first extents of a run
pub take_range : (n a m : ℕ) → take n (range_with_len a m) ≡ range_with_len a (min m n)
take_range zero a m = let none : min m 0 ≡ 0 = omega arith in ap (range_with_len a) (sym none)
take_range (suc n) a zero = let none : min 0 (suc n) ≡ 0 = omega arith in ap (range_with_len a) (sym none)
take_range (suc n) a (suc m) =
    let next : suc (min m n) ≡ min (suc m) (suc n) = omega arith in
    ap (λ (l : List ℕ). a ∷ l) (take_range n (a + 1) m) ∙ ap (range_with_len a) next

pub extents-taken : (rs : List Run) (i : ℕ) (d : Run) → i < length rs → extents_of (take (i + 1) rs) ≡ extents_of (take i rs) ++ range_with_len (get_or rs i d).first (get_or rs i d).count
extents-taken rs i d lt = ap extents_of (take_more rs i d lt) ∙ extents-push (take i rs) (get_or rs i d)

rest-taken : (i : ℕ) (rs : List Run) → extents_of rs ≡ extents_of (take i rs) ++ extents_of (drop i rs)
rest-taken zero rs = refl
rest-taken (suc i) [] = refl
rest-taken (suc i) (r ∷ rs) = ap (λ (l : List ℕ). range_with_len r.first r.count ++ l) (rest-taken i rs) ∙ sym (append_assoc (range_with_len r.first r.count) (extents_of (take i rs)) (extents_of (drop i rs)))

-- the extents of the next run are counted
pub count-more : (rs : List Run) (i : ℕ) (d : Run) → i < length rs → length (extents_of (take (i + 1) rs)) ≡ length (extents_of (take i rs)) + (get_or rs i d).count
count-more rs i d lt =
    let r = get_or rs i d in
    ap length (extents-taken rs i d lt) ∙ length-append (extents_of (take i rs)) (range_with_len r.first r.count)
    ∙ ap (λ (n : ℕ). length (extents_of (take i rs)) + n) (length-range_with_len r.first r.count)

-- what was counted so far is no more than all
pub count-taken : (rs : List Run) (i : ℕ) (end : ℕ) → AreApart 0 end (segments_of rs) → length (extents_of (take i rs)) ≤ end
count-taken rs i end apart = omega (arith, length-apart end rs apart, ap length (rest-taken i rs), length-append (extents_of (take i rs)) (extents_of (drop i rs)))

-- enough were found
pub least_full : (rs : List Run) (i need : ℕ) (found : List ℕ) → found ≡ take need (extents_of (take i rs)) → length found ≡ need → found ≡ take need (extents_of rs)
least_full rs i need found is full =
    let enough : need ≤ length (extents_of (take i rs)) = omega (arith, ap length is, length-take need (extents_of (take i rs))) in
    is ∙ sym (ap (take need) (rest-taken i rs) ∙ take-append-le need (extents_of (take i rs)) (extents_of (drop i rs)) enough)

-- one run further
pub least_more : (rs : List Run) (i need : ℕ) (d : Run) (found : List ℕ) → i < length rs → found ≡ take need (extents_of (take i rs)) → length found < need
    → found ++ take (need - length found) (range_with_len (get_or rs i d).first (get_or rs i d).count) ≡ take need (extents_of (take (i + 1) rs))
least_more rs i need d found lt is few =
    let so_far = extents_of (take i rs) in
    let next = range_with_len (get_or rs i d).first (get_or rs i d).count in
    let whole : found ≡ so_far = is ∙ take_all need so_far (omega (arith, ap length is, length-take need so_far)) in
    let room = need - length so_far in
    let split : length so_far + room ≡ need = omega (arith, ap length whole, few) in
    ap (λ (l : List ℕ). l ++ take (need - length l) next) whole ∙ sym (take-append-add so_far next room)
    ∙ ap (λ (n : ℕ). take n (so_far ++ next)) split ∙ sym (ap (take need) (extents-taken rs i d lt))

pub on_ok : {T E : Type 0} (r : Result T E) {A B : Type 0} → OnOk r A → (A → B) → OnOk r B
on_ok (Ok x) a f = f a
on_ok (Err e) a f = tt

-- the last run ends by the end
pub end_last : {all : List Run} (rs : List Run) (r : Run) (end : ℕ) → all ≡ rs ++ r ∷ [] → AreApart 0 end (segments_of all) → r.first + r.count ≤ end
end_last {all} rs r end is apart = last 0 rs (subst (λ (l : List Run). AreApart 0 end (segments_of l)) is apart)
  where
    last : (from : ℕ) (qs : List Run) → AreApart from end (segments_of (qs ++ r ∷ [])) → r.first + r.count ≤ end
    last from [] h = omega (arith, h.2)
    last from (q ∷ qs) h = last (q.first + q.count + 1) qs h.2
