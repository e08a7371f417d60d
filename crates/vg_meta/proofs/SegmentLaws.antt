-- Extents and their segments: the one from the other, there and back.
use Rattle.std.proofs.Common.{◌≡◌, ◌≢◌, ℕ, zero, suc, ◌+◌, ◌-◌, ◌≤◌, ◌<◌, ◌==◌, eqb, cond, true, false, List, [], ◌∷◌, ◌++◌, get_or, length, drop, Option, None, Some, refl, sym, ap, subst, ◌∙◌, arith, append_assoc}
use Rattle.std.specs.Prelude.{slice_get}
use Rattle.std.specs.List.{range_with_len}
use Rattle.std.proofs.lemmas.Bool.{eqb-true, eq-eqb, ne_eqb, true≢false}
use Rattle.std.proofs.lemmas.Grind.{flat_map-append}
use Rattle.std.proofs.lemmas.List.{append-nil, drop_all, drop_more, length-drop}
use Rattle.vg_meta.specs.Segments.{Segment, joined, segments, follows, beginnings, spread_all, AreMaximal, GoesOnElsewhere, CountsUp}

abbrev one : ℕ → Segment
one e = record { first = e; count = 1 }

-- ---- there

front : (e f n : ℕ) (rest : List ℕ) → e + 1 ≡ f → range_with_len e (n + 1) ++ rest ≡ e ∷ (range_with_len f n ++ rest)
front e f n rest h =
    let more : n + 1 ≡ suc n = omega arith in
    subst (λ (x : ℕ). range_with_len e (n + 1) ++ rest ≡ e ∷ (range_with_len x n ++ rest)) h (ap (λ (k : ℕ). range_with_len e k ++ rest) more)

spread-joined : (e : ℕ) (ss : List Segment) → spread_all (joined e ss) ≡ e ∷ spread_all ss
unfolding joined
spread-joined e [] = refl
spread-joined e (s ∷ ss) = (elim (s.first == e + 1) as (λ b. (s.first == e + 1) ≡ b → spread_all (cond b (record { first = e; count = s.count + 1 } ∷ ss) (record { first = e; count = 1 } ∷ s ∷ ss)) ≡ e ∷ spread_all (s ∷ ss)) [
  | true ↦ λ h. front e s.first s.count (spread_all ss) (sym (eqb-true s.first (e + 1) h))
  | false ↦ λ h. refl
]) refl

pub spread-segments : (es : List ℕ) → spread_all (segments es) ≡ es
unfolding segments
spread-segments [] = refl
spread-segments (e ∷ es) = spread-joined e (segments es) ∙ ap (λ l. e ∷ l) (spread-segments es)

-- ---- and back

maximal-joined : (e : ℕ) (ss : List Segment) → AreMaximal ss → AreMaximal (joined e ss)
unfolding joined
maximal-joined e [] m = (omega arith, tt, tt)
maximal-joined e (s ∷ ss) m = (elim (s.first == e + 1) as (λ b. (s.first == e + 1) ≡ b → AreMaximal (cond b (record { first = e; count = s.count + 1 } ∷ ss) (record { first = e; count = 1 } ∷ s ∷ ss))) [
  | true ↦ λ h. let next = eqb-true s.first (e + 1) h in (omega arith, elsewhere ss next m.1, m.2)
  | false ↦ λ h. (omega arith, λ same. true≢false (sym (eq-eqb s.first (e + 1) same) ∙ h), m)
]) refl
  where
    elsewhere : (ts : List Segment) → s.first ≡ e + 1 → GoesOnElsewhere s ts → GoesOnElsewhere (record { first = e; count = s.count + 1 }) ts
    elsewhere [] next g = tt
    elsewhere (t ∷ ts) next g = λ same. g (omega (arith, same, next))

pub maximal-segments : (es : List ℕ) → AreMaximal (segments es)
unfolding segments
maximal-segments [] = tt
maximal-segments (e ∷ es) = maximal-joined e (segments es) (maximal-segments es)

joined_alone : (e : ℕ) (ss : List Segment) → GoesOnElsewhere (one e) ss → joined e ss ≡ one e ∷ ss
unfolding joined
joined_alone e [] g = refl
joined_alone e (s ∷ ss) g = (elim (s.first == e + 1) as (λ b. (s.first == e + 1) ≡ b → cond b (record { first = e; count = s.count + 1 } ∷ ss) (record { first = e; count = 1 } ∷ s ∷ ss) ≡ one e ∷ s ∷ ss) [
  | true ↦ λ h. absurd (g (eqb-true s.first (e + 1) h))
  | false ↦ λ h. refl
]) refl

joined_on : (e n : ℕ) (ss : List Segment) → joined e (record { first = e + 1; count = n } ∷ ss) ≡ record { first = e; count = n + 1 } ∷ ss
unfolding joined
joined_on e n ss = ap (λ b. cond b (record { first = e; count = n + 1 } ∷ ss) (record { first = e; count = 1 } ∷ record { first = e + 1; count = n } ∷ ss)) (eq-eqb (e + 1) (e + 1) refl)

-- a run in front of segments that go on elsewhere
run_in_front : (a n : ℕ) (es : List ℕ) (ss : List Segment) → segments es ≡ ss → GoesOnElsewhere (record { first = a; count = suc n }) ss
    → segments (range_with_len a (suc n) ++ es) ≡ record { first = a; count = suc n } ∷ ss
unfolding segments
run_in_front a zero es ss is g = ap (joined a) is ∙ joined_alone a ss g
run_in_front a (suc n) es ss is g =
    ap (joined a) (run_in_front (a + 1) n es ss is (shifted ss g)) ∙ joined_on a (suc n) ss ∙ ap (λ k. record { first = a; count = k } ∷ ss) (omega arith)
  where
    shifted : (ts : List Segment) → GoesOnElsewhere (record { first = a; count = suc (suc n) }) ts → GoesOnElsewhere (record { first = a + 1; count = suc n }) ts
    shifted [] h = tt
    shifted (t ∷ ts) h = λ same. h (omega (arith, same))

pub segments-spread : (ss : List Segment) → AreMaximal ss → segments (spread_all ss) ≡ ss
unfolding segments
segments-spread [] m = refl
segments-spread (s ∷ ss) m = by (segments-spread ss m.2) s.count refl m.0
  where
    by : segments (spread_all ss) ≡ ss → (n : ℕ) → s.count ≡ n → 1 ≤ n → segments (range_with_len s.first s.count ++ spread_all ss) ≡ s ∷ ss
    by rest zero is some = absurd (omega (arith, some))
    by rest (suc n) is some =
        ap (λ (k : ℕ). segments (range_with_len s.first k ++ spread_all ss)) is
        ∙ run_in_front s.first n (spread_all ss) ss rest (subst (λ k. GoesOnElsewhere (record { first = s.first; count = k }) ss) is m.1)
        ∙ ap (λ (k : ℕ). record { first = s.first; count = k } ∷ ss) (sym is)

-- ---- where they begin

-- extents begin with the first of their segments
begin-joined : (e : ℕ) (ss : List Segment) → (t : Segment) × (ts : List Segment) × (joined e ss ≡ t ∷ ts) × (t.first ≡ e)
unfolding joined
begin-joined e [] = (one e, [], refl, refl)
begin-joined e (s ∷ ss) = (elim (s.first == e + 1) as (λ b. (t : Segment) × (ts : List Segment) × (cond b (record { first = e; count = s.count + 1 } ∷ ss) (record { first = e; count = 1 } ∷ s ∷ ss) ≡ t ∷ ts) × (t.first ≡ e)) [
  | true ↦ (record { first = e; count = s.count + 1 }, ss, refl, refl)
  | false ↦ (one e, s ∷ ss, refl, refl)
])

length-joined : (e : ℕ) (t : Segment) (ts : List Segment) → length (joined e (t ∷ ts)) ≡ cond (t.first == e + 1) 0 1 + length (t ∷ ts)
unfolding joined
length-joined e t ts = elim (t.first == e + 1) as (λ b. length (cond b (record { first = e; count = t.count + 1 } ∷ ts) (record { first = e; count = 1 } ∷ t ∷ ts)) ≡ cond b 0 1 + length (t ∷ ts)) [
  | true ↦ omega arith
  | false ↦ omega arith
]

beginnings_behind : (e : ℕ) (es : List ℕ) → length (segments (e ∷ es)) ≡ suc (beginnings (Some e) es)
unfolding segments beginnings
beginnings_behind e [] = ap length (joined_alone e [] tt)
beginnings_behind e (x ∷ xs) =
    let b = begin-joined x (segments xs) in
    let rest : length (b.0 ∷ b.1) ≡ suc (beginnings (Some x) xs) = sym (ap length b.2) ∙ beginnings_behind x xs in
    ap (λ ss. length (joined e ss)) b.2 ∙ length-joined e b.0 b.1 ∙ ap (λ (n : ℕ). cond (n == e + 1) 0 1 + length (b.0 ∷ b.1)) b.3 ∙ omega (arith, rest)

-- as many segments as extents that do not follow the one in front of them
pub length-segments : (es : List ℕ) → length (segments es) ≡ beginnings None es
unfolding segments beginnings
length-segments [] = refl
length-segments (e ∷ es) = beginnings_behind e es ∙ omega arith

-- the last of extents, or what was the last in front of them
abbrev pub last_behind : Option ℕ → List ℕ → Option ℕ
last_behind last [] = last
last_behind last (e ∷ es) = last_behind (Some e) es

pub beginnings-append : (last : Option ℕ) (es ms : List ℕ) → beginnings last (es ++ ms) ≡ beginnings last es + beginnings (last_behind last es) ms
unfolding beginnings
beginnings-append last [] ms = omega arith
beginnings-append last (e ∷ es) ms = omega (arith, beginnings-append (Some e) es ms)

-- counted as far as the extents were seen, one further
pub begun_more : (es : List ℕ) (i : ℕ) (last next : Option ℕ) (count more total : ℕ) → i < length es → next ≡ Some (get_or es i 0)
    → more ≡ count + cond (follows last (get_or es i 0)) 0 1 → count + beginnings last (drop i es) ≡ total → more + beginnings next (drop (i + 1) es) ≡ total
unfolding beginnings
begun_more es i last next count more total within is one so_far =
    let e = get_or es i 0 in
    let here : beginnings last (drop i es) ≡ cond (follows last e) 0 1 + beginnings (Some e) (drop (i + 1) es) = ap (beginnings last) (drop_more es i 0 within) in
    let rest : beginnings next (drop (i + 1) es) ≡ beginnings (Some e) (drop (i + 1) es) = ap (λ (o : Option ℕ). beginnings o (drop (i + 1) es)) is in
    omega (arith, here, rest, one, so_far)

pub begun_all : (es : List ℕ) (i : ℕ) (last : Option ℕ) → length es ≤ i → beginnings last (drop i es) ≡ 0
unfolding beginnings
begun_all es i last all = ap (beginnings last) (drop_all i es all)

-- the last of extents is what stands at their end
last_of : (e : ℕ) (es : List ℕ) → last_behind (Some e) es ≡ slice_get (e ∷ es) (length es)
last_of e [] = refl
last_of e (x ∷ xs) = last_of x xs

pub last_at : (es : List ℕ) → last_behind None es ≡ slice_get es (length es - 1)
last_at [] = refl
last_at (e ∷ es) = let same : length es ≡ length (e ∷ es) - 1 = omega arith in last_of e es ∙ ap (slice_get (e ∷ es)) same

-- ---- how many

few-joined : (e : ℕ) (ss : List Segment) → length (joined e ss) ≤ suc (length ss)
unfolding joined
few-joined e [] = omega arith
few-joined e (s ∷ ss) = elim (s.first == e + 1) as (λ b. length (cond b (record { first = e; count = s.count + 1 } ∷ ss) (record { first = e; count = 1 } ∷ s ∷ ss)) ≤ suc (length (s ∷ ss))) [
  | true ↦ omega arith
  | false ↦ omega arith
]

pub few-segments : (es : List ℕ) → length (segments es) ≤ length es
unfolding segments
few-segments [] = omega arith
few-segments (e ∷ es) = omega (arith, few-joined e (segments es), few-segments es)

none-joined : (e : ℕ) (ss : List Segment) → 0 < length (joined e ss)
unfolding joined
none-joined e [] = omega arith
none-joined e (s ∷ ss) = elim (s.first == e + 1) as (λ b. 0 < length (cond b (record { first = e; count = s.count + 1 } ∷ ss) (record { first = e; count = 1 } ∷ s ∷ ss))) [
  | true ↦ omega arith
  | false ↦ omega arith
]

-- no extents have no segments, and others have some
pub none-segments : (es : List ℕ) → eqb (length (segments es)) 0 ≡ eqb (length es) 0
unfolding segments
none-segments [] = refl
none-segments (e ∷ es) =
    ne_eqb (length (joined e (segments es))) 0 (λ same. absurd (omega (arith, same, none-joined e (segments es))))
    ∙ sym (ne_eqb (length (e ∷ es)) 0 (λ same. absurd (omega (arith, same))))

-- ---- a run in front

elsewhere_joined : (s : Segment) (e : ℕ) (ss : List Segment) → e ≢ s.first + s.count → GoesOnElsewhere s (joined e ss)
unfolding joined
elsewhere_joined s e [] h = h
elsewhere_joined s e (t ∷ ss) h = elim (t.first == e + 1) as (λ b. GoesOnElsewhere s (cond b (record { first = e; count = t.count + 1 } ∷ ss) (record { first = e; count = 1 } ∷ t ∷ ss))) [
  | true ↦ h
  | false ↦ h
]

pub segments-run : (a n : ℕ) (es : List ℕ) → 1 ≤ n → ((e : ℕ) → slice_get es 0 ≡ Some e → e ≢ a + n)
    → segments (range_with_len a n ++ es) ≡ record { first = a; count = n } ∷ segments es
unfolding segments
segments-run a zero es some h = absurd (omega arith)
segments-run a (suc n) [] some h = run_in_front a n [] [] refl tt
segments-run a (suc n) (e ∷ es) some h =
    run_in_front a n (e ∷ es) (segments (e ∷ es)) refl (elsewhere_joined (record { first = a; count = suc n }) e (segments es) (h e refl))

drop_first : (n : ℕ) (es : List ℕ) (e : ℕ) → slice_get (drop n es) 0 ≡ Some e → slice_get es n ≡ Some e
drop_first zero es e h = h
drop_first (suc n) [] e h = absurd cc
drop_first (suc n) (x ∷ es) e h = drop_first n es e h

front_first : (es ms : List ℕ) (e : ℕ) → 0 < length es → slice_get (es ++ ms) 0 ≡ Some e → slice_get es 0 ≡ Some e
front_first [] ms e some h = absurd (omega arith)
front_first (x ∷ es) ms e some h = h

-- the first segment ends among the extents in front
pub first_in_front : (a n : ℕ) (es ms : List ℕ) → CountsUp a n es → 1 ≤ n → 0 < length (drop n es)
    → segments (es ++ ms) ≡ record { first = a; count = n } ∷ segments (drop n es ++ ms)
first_in_front a n es ms c some left =
    ap (λ (l : List ℕ). segments (l ++ ms)) c.run
    ∙ ap segments (append_assoc (range_with_len a n) (drop n es) ms)
    ∙ segments-run a n (drop n es ++ ms) some (λ e h. c.ends e (drop_first n es e (front_first (drop n es) ms e left h)))

range-append : (a n m : ℕ) → range_with_len a (n + m) ≡ range_with_len a n ++ range_with_len (a + n) m
range-append a zero m =
    let less : 0 + m ≡ m = omega arith in
    let here : a + 0 ≡ a = omega arith in
    rw (less, here) refl
range-append a (suc n) m =
    let more : suc n + m ≡ suc (n + m) = omega arith in
    let from : a + 1 + n ≡ a + suc n = omega arith in
    rw more (ap (λ (l : List ℕ). a ∷ l) (range-append (a + 1) n m ∙ ap (λ (x : ℕ). range_with_len (a + 1) n ++ range_with_len x m) from))

-- or it goes on into those behind
pub first_in_both : (a n k : ℕ) (es ms : List ℕ) → CountsUp a n es → drop n es ≡ [] → CountsUp (a + n) k ms → 1 ≤ n + k
    → segments (es ++ ms) ≡ record { first = a; count = n + k } ∷ segments (drop n es ++ drop k ms)
first_in_both a n k es ms c none d some =
    let front : es ≡ range_with_len a n = c.run ∙ ap (λ (l : List ℕ). range_with_len a n ++ l) none ∙ append-nil (range_with_len a n) in
    let next : (e : ℕ) → slice_get (drop k ms) 0 ≡ Some e → e ≢ a + (n + k) = λ e h same. d.ends e (drop_first k ms e h) (omega (arith, same)) in
    ap (λ (l : List ℕ). segments (l ++ ms)) front
    ∙ ap (λ (l : List ℕ). segments (range_with_len a n ++ l)) d.run
    ∙ ap segments (sym (append_assoc (range_with_len a n) (range_with_len (a + n) k) (drop k ms)))
    ∙ ap (λ (l : List ℕ). segments (l ++ drop k ms)) (sym (range-append a n k))
    ∙ segments-run a (n + k) (drop k ms) some next
    ∙ ap (λ (l : List ℕ). record { first = a; count = n + k } ∷ segments (l ++ drop k ms)) (sym none)

-- extents that begin with a number count up from it
starts : (a n : ℕ) (es : List ℕ) → slice_get es 0 ≡ Some a → CountsUp a n es → 1 ≤ n
starts a zero es first c = absurd (c.ends a first (omega arith))
starts a (suc n) es first c = omega arith

-- the first segment, where it ends among the extents in front
pub split_front : (es ms behind : List ℕ) (a n : ℕ) → slice_get (es ++ ms) 0 ≡ Some a → CountsUp a n es → n < length es → behind ≡ drop n es
    → segments (es ++ ms) ≡ record { first = a; count = n } ∷ segments (behind ++ ms)
split_front es ms behind a n first c less is =
    let left : 0 < length (drop n es) = omega (arith, length-drop n es) in
    first_in_front a n es ms c (starts a n es (front_first es ms a (omega arith) first) c) left
    ∙ ap (λ (l : List ℕ). record { first = a; count = n } ∷ segments (l ++ ms)) (sym is)

-- and where it goes on into those behind
pub split_both : (es ms behind left : List ℕ) (a n k : ℕ) → slice_get (es ++ ms) 0 ≡ Some a → CountsUp a n es → length es ≤ n → behind ≡ drop n es
    → CountsUp (a + n) k ms → left ≡ drop k ms → segments (es ++ ms) ≡ record { first = a; count = n + k } ∷ segments (behind ++ left)
split_both es ms behind left a n k first c all is d is_left =
    first_in_both a n k es ms c (drop_all n es all) d (some es first c)
    ∙ ap (λ (l : List ℕ). record { first = a; count = n + k } ∷ segments (l ++ drop k ms)) (sym is)
    ∙ ap (λ (l : List ℕ). record { first = a; count = n + k } ∷ segments (behind ++ l)) (sym is_left)
  where
    some : (es : List ℕ) → slice_get (es ++ ms) 0 ≡ Some a → CountsUp a n es → 1 ≤ n + k
    some [] first c =
        let none : n ≡ 0 = omega (arith, c.within) in
        let here : a + n ≡ a = omega (arith, none) in
        let there = starts a k ms first (subst (λ (x : ℕ). CountsUp x k ms) here d) in
        omega (arith, there)
    some (e ∷ es) first c = let one = starts a n (e ∷ es) first c in omega (arith, one)

-- ---- a run behind

-- the last segment does not end at this extent
abbrev pub EndElsewhere : List Segment → ℕ → Type 0
EndElsewhere [] f = Unit {0}
EndElsewhere (s ∷ []) f = f ≢ s.first + s.count
EndElsewhere (s ∷ t ∷ ss) f = EndElsewhere (t ∷ ss) f

pub maximal-push : (ss : List Segment) (s : Segment) → AreMaximal ss → 1 ≤ s.count → EndElsewhere ss s.first → AreMaximal (ss ++ s ∷ [])
maximal-push [] s m some apart = (some, tt, tt)
maximal-push (t ∷ []) s m some apart = (m.0, apart, (some, tt, tt))
maximal-push (t ∷ u ∷ ss) s m some apart = (m.0, m.1, maximal-push (u ∷ ss) s m.2 some apart)

-- what stands behind maximal segments
pub maximal_behind : (ss : List Segment) (s : Segment) (more : List Segment) → AreMaximal (ss ++ s ∷ more) → (1 ≤ s.count) × EndElsewhere ss s.first
maximal_behind [] s more m = (m.0, tt)
maximal_behind (t ∷ []) s more m = (m.2.0, m.1)
maximal_behind (t ∷ u ∷ ss) s more m = maximal_behind (u ∷ ss) s more m.2

end_joined : (e f : ℕ) (s : Segment) (ss : List Segment) → EndElsewhere (joined e (s ∷ ss)) f → EndElsewhere (s ∷ ss) f
unfolding joined
end_joined e f s ss = (elim (s.first == e + 1) as (λ b. (s.first == e + 1) ≡ b → EndElsewhere (cond b (record { first = e; count = s.count + 1 } ∷ ss) (record { first = e; count = 1 } ∷ s ∷ ss)) f → EndElsewhere (s ∷ ss) f) [
  | true ↦ λ h. on ss (eqb-true s.first (e + 1) h)
  | false ↦ λ h apart. apart
]) refl
  where
    on : (ss : List Segment) → s.first ≡ e + 1 → EndElsewhere (record { first = e; count = s.count + 1 } ∷ ss) f → EndElsewhere (s ∷ ss) f
    on [] next apart = λ same. apart (omega (arith, same, next))
    on (t ∷ ts) next apart = apart

joined_end : (e f : ℕ) (s : Segment) (ss : List Segment) → EndElsewhere (s ∷ ss) f → EndElsewhere (joined e (s ∷ ss)) f
unfolding joined
joined_end e f s ss = (elim (s.first == e + 1) as (λ b. (s.first == e + 1) ≡ b → EndElsewhere (s ∷ ss) f → EndElsewhere (cond b (record { first = e; count = s.count + 1 } ∷ ss) (record { first = e; count = 1 } ∷ s ∷ ss)) f) [
  | true ↦ λ h. on ss (eqb-true s.first (e + 1) h)
  | false ↦ λ h apart. apart
]) refl
  where
    on : (ss : List Segment) → s.first ≡ e + 1 → EndElsewhere (s ∷ ss) f → EndElsewhere (record { first = e; count = s.count + 1 } ∷ ss) f
    on [] next apart = λ same. apart (omega (arith, same, next))
    on (t ∷ ts) next apart = apart

-- the segments of extents, of which there is one at least
some_segments : (e : ℕ) (es : List ℕ) (P : List Segment → Type 0) → ((s : Segment) (ss : List Segment) → segments (e ∷ es) ≡ s ∷ ss → P (s ∷ ss)) → P (segments (e ∷ es))
some_segments e es P each = by (segments (e ∷ es)) refl
  where
    by : (ss : List Segment) → segments (e ∷ es) ≡ ss → P (segments (e ∷ es))
    by [] is = absurd (true≢false (sym (ap (λ (l : List Segment). eqb (length l) 0) is) ∙ none-segments (e ∷ es) ∙ ne_eqb (length (e ∷ es)) 0 (λ same. absurd (omega (arith, same)))))
    by (s ∷ ss) is = subst P (sym is) (each s ss is)

last_index : (e f : ℕ) (es : List ℕ) → length (e ∷ f ∷ es) - 1 ≡ suc (length (f ∷ es) - 1)
last_index e f es = omega arith

-- the last segment ends where the extents end
pub end_last : (es : List ℕ) (f : ℕ) → EndElsewhere (segments es) f → (e : ℕ) → slice_get es (length es - 1) ≡ Some e → f ≢ e + 1
unfolding segments joined
end_last [] f apart e last = absurd cc
end_last (x ∷ []) f apart e last = let same : x ≡ e = cc in subst (λ (y : ℕ). f ≢ y + 1) same apart
end_last (x ∷ y ∷ es) f apart e last =
    end_last (y ∷ es) f (some_segments y es (λ ss. EndElsewhere (joined x ss) f → EndElsewhere ss f) (λ s ss _. end_joined x f s ss) apart) e
    (subst (λ (k : ℕ). slice_get (x ∷ y ∷ es) k ≡ Some e) (last_index x y es) last)

pub last_end : (es : List ℕ) (f : ℕ) → ((e : ℕ) → slice_get es (length es - 1) ≡ Some e → f ≢ e + 1) → EndElsewhere (segments es) f
unfolding segments joined
last_end [] f apart = tt
last_end (x ∷ []) f apart = apart x refl
last_end (x ∷ y ∷ es) f apart =
    some_segments y es (λ ss. EndElsewhere ss f → EndElsewhere (joined x ss) f) (λ s ss _. joined_end x f s ss)
    (last_end (y ∷ es) f (λ e last. apart e (subst (λ (k : ℕ). slice_get (x ∷ y ∷ es) k ≡ Some e) (sym (last_index x y es)) last)))

pub spread-push : (ss : List Segment) (s : Segment) → spread_all (ss ++ s ∷ []) ≡ spread_all ss ++ range_with_len s.first s.count
spread-push ss s =
    flat_map-append (λ (t : Segment). range_with_len t.first t.count) ss (s ∷ []) ∙ ap (λ (l : List ℕ). spread_all ss ++ l) (append-nil (range_with_len s.first s.count))

-- one more segment behind extents that do not end where it begins
pub segments-push : (es : List ℕ) (a n : ℕ) → 1 ≤ n → ((e : ℕ) → slice_get es (length es - 1) ≡ Some e → a ≢ e + 1)
    → segments (es ++ range_with_len a n) ≡ segments es ++ record { first = a; count = n } ∷ []
segments-push es a n some apart =
    let s : Segment = record { first = a; count = n } in
    let maximal = maximal-push (segments es) s (maximal-segments es) some (last_end es a apart) in
    ap (λ (l : List ℕ). segments (l ++ range_with_len a n)) (sym (spread-segments es))
    ∙ ap segments (sym (spread-push (segments es) s)) ∙ segments-spread (segments es ++ s ∷ []) maximal
