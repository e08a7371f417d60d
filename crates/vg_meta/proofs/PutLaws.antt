-- The place at which a volume is put in.
use Rattle.std.proofs.Common.{◌≡◌, ◌≢◌, ℕ, zero, suc, ◌+◌, ◌<◌, ◌≤◌, Bool, true, false, cond, List, [], ◌∷◌, ◌++◌, length, get_or, take, drop, drop-cons, add-one, Some, None, refl, sym, ap, ◌∙◌, append_assoc, arith, subst}
use Rattle.std.specs.Prelude.{insert, slice_get}
use Rattle.std.specs.List.{AllByRecursion}
use Rattle.std.proofs.lemmas.Option.{get_or_from_slice_get, slice_get_within}
use Rattle.std.specs.Ordering.{is_lt}
use Rattle.common_laws.proofs.Lists.{take_next}
use Rattle.sm_base.specs.declared.names.Name.{Name}
use Rattle.sm_base.specs.Names.{name_cmp}
use Rattle.vg_meta.specs.Tables.{Row, row_of, name_eq}
use Rattle.vg_meta.specs.Roomy.{RoomyRow, rows_alone, places_in, IsSlot}
use Rattle.vg_meta.specs.Changes.{put}
use Rattle.vg_meta.proofs.NameLaws.{name_eq-same, name_eq-other}
use Rattle.vg_meta.proofs.Places.{All-push}

-- a volume of this name is put in at or behind this place
pub record Passed (hs : List RoomyRow) (n : Name) (i : ℕ) : Type 0 where
  pub before : AllByRecursion (λ h. is_lt (name_cmp n h.row.name) ≡ false) (take i hs)
  pub so_far : (r : Row) → r.name ≡ n → rows_alone (take i hs) ++ put r (rows_alone (drop i hs)) ≡ put r (rows_alone hs)

pub passed_first : (hs : List RoomyRow) (n : Name) → Passed hs n 0
passed_first hs n = record { before = tt; so_far = λ r named. refl }

opened : (hs : List RoomyRow) (i : ℕ) (h : RoomyRow) → i < length hs → h ≡ get_or hs i h → drop i hs ≡ h ∷ drop (i + 1) hs
opened hs i h lt is = rw (add-one) (drop-cons hs i h lt ∙ ap (λ (x : RoomyRow). x ∷ drop (suc i) hs) (sym is))

rows-append : (xs ys : List RoomyRow) → rows_alone (xs ++ ys) ≡ rows_alone xs ++ rows_alone ys
rows-append [] ys = refl
rows-append (x ∷ xs) ys = ap (λ (l : List Row). x.row ∷ l) (rows-append xs ys)

put_before : (r s : Row) (rs : List Row) → is_lt (name_cmp r.name s.name) ≡ true → put r (s ∷ rs) ≡ r ∷ s ∷ rs
unfolding put
put_before r s rs h = rw h refl

put_behind : (r s : Row) (rs : List Row) → is_lt (name_cmp r.name s.name) ≡ false → put r (s ∷ rs) ≡ s ∷ put r rs
unfolding put
put_behind r s rs h = rw h refl

put_last : (r : Row) → put r [] ≡ r ∷ []
unfolding put
put_last r = refl

pub passed_more : (hs : List RoomyRow) (n : Name) (i : ℕ) (h : RoomyRow) → i < length hs → h ≡ get_or hs i h
    → is_lt (name_cmp n h.row.name) ≡ false → Passed hs n i → Passed hs n (i + 1)
passed_more hs n i h lt is behind p = record {
  before = rw (take_next hs i h lt is) (All-push (λ (x : RoomyRow). is_lt (name_cmp n x.row.name) ≡ false) (take i hs) h p.before behind);
  so_far = λ r named.
      let test : is_lt (name_cmp r.name h.row.name) ≡ false = rw named behind in
      let rest = rows_alone (drop (i + 1) hs) in
      let front : rows_alone (take (i + 1) hs) ≡ rows_alone (take i hs) ++ h.row ∷ [] =
      ap rows_alone (take_next hs i h lt is) ∙ rows-append (take i hs) (h ∷ []) in
      let back : put r (rows_alone (drop i hs)) ≡ h.row ∷ put r rest =
      ap (λ (l : List RoomyRow). put r (rows_alone l)) (opened hs i h lt is) ∙ put_behind r h.row rest test in
      ap (λ (l : List Row). l ++ put r rest) front ∙ append_assoc (rows_alone (take i hs)) (h.row ∷ []) (put r rest)
      ∙ ap (λ (l : List Row). rows_alone (take i hs) ++ l) (sym back) ∙ p.so_far r named;
}

pub put_here : (hs : List RoomyRow) (n : Name) (i : ℕ) (h : RoomyRow) → i < length hs → h ≡ get_or hs i h
    → is_lt (name_cmp n h.row.name) ≡ true → Passed hs n i
    → (r : Row) → r.name ≡ n → rows_alone (take i hs) ++ r ∷ rows_alone (drop i hs) ≡ put r (rows_alone hs)
put_here hs n i h lt is before p r named =
    let test : is_lt (name_cmp r.name h.row.name) ≡ true = rw named before in
    let rest = rows_alone (drop (i + 1) hs) in
    let here : rows_alone (drop i hs) ≡ h.row ∷ rest = ap rows_alone (opened hs i h lt is) in
    let back : put r (rows_alone (drop i hs)) ≡ r ∷ rows_alone (drop i hs) =
    ap (put r) here ∙ put_before r h.row rest test ∙ ap (λ (l : List Row). r ∷ l) (sym here) in
    ap (λ (l : List Row). rows_alone (take i hs) ++ l) (sym back) ∙ p.so_far r named

gone : {X : Type 0} (xs : List X) (i : ℕ) → length xs ≤ i → drop i xs ≡ []
gone [] zero h = refl
gone [] (suc i) h = refl
gone (x ∷ xs) zero h = absurd (omega arith)
gone (x ∷ xs) (suc i) h = gone xs i (omega arith)

whole : {X : Type 0} (xs : List X) (i : ℕ) → length xs ≤ i → take i xs ≡ xs
whole [] zero h = refl
whole [] (suc i) h = refl
whole (x ∷ xs) zero h = absurd (omega arith)
whole (x ∷ xs) (suc i) h = ap (λ (l : _). x ∷ l) (whole xs i (omega arith))

pub put_at_end : (hs : List RoomyRow) (n : Name) (i : ℕ) → length hs ≤ i → Passed hs n i
    → (r : Row) → r.name ≡ n → rows_alone (take (length hs) hs) ++ r ∷ rows_alone (drop (length hs) hs) ≡ put r (rows_alone hs)
put_at_end hs n i le p r named =
    let now = p.so_far r named in
    let front : rows_alone (take (length hs) hs) ≡ rows_alone (take i hs) =
    ap rows_alone (whole hs (length hs) (omega arith) ∙ sym (whole hs i le)) in
    let none : rows_alone (drop (length hs) hs) ≡ [] = ap rows_alone (gone hs (length hs) (omega arith)) in
    let back : put r (rows_alone (drop i hs)) ≡ r ∷ [] = ap (λ (l : List RoomyRow). put r (rows_alone l)) (gone hs i le) ∙ put_last r in
    rw (front, none) (ap (λ (l : List Row). rows_alone (take i hs) ++ l) (sym back) ∙ now)

pub slot_here : (hs : List RoomyRow) (n : Name) (i : ℕ) (h : RoomyRow) → i < length hs → h ≡ get_or hs i h
    → is_lt (name_cmp n h.row.name) ≡ true → Passed hs n i → IsSlot hs n i
slot_here hs n i h lt is before p = record {
  before = p.before;
  here = λ g at.
      let same : h ≡ g = is ∙ get_or_from_slice_get hs i g h at in
      subst (λ (x : RoomyRow). is_lt (name_cmp n x.row.name) ≡ true) same before;
}

pub slot_at_end : (hs : List RoomyRow) (n : Name) (i : ℕ) → length hs ≤ i → Passed hs n i → IsSlot hs n (length hs)
slot_at_end hs n i le p = record {
  before = rw (whole hs (length hs) (omega arith) ∙ sym (whole hs i le)) p.before;
  here = λ g at. let lt = slice_get_within hs (length hs) g at in absurd (omega arith);
}

-- ---- a volume put in where a list goes on

put_left : (r : Row) (xs : List RoomyRow) (ys : List Row) (i : ℕ) → AllByRecursion (λ h. is_lt (name_cmp r.name h.row.name) ≡ false) (take i xs)
    → ((h : RoomyRow) → slice_get xs i ≡ Some h → is_lt (name_cmp r.name h.row.name) ≡ true) → i < length xs
    → put r (rows_alone xs ++ ys) ≡ put r (rows_alone xs) ++ ys
put_left r [] ys i before here lt = absurd (omega arith)
put_left r (x ∷ xs) ys zero before here lt =
    let test = here x refl in
    put_before r x.row (rows_alone xs ++ ys) test ∙ sym (ap (λ (l : List Row). l ++ ys) (put_before r x.row (rows_alone xs) test))
put_left r (x ∷ xs) ys (suc i) before here lt =
    put_behind r x.row (rows_alone xs ++ ys) before.0
    ∙ ap (λ (l : List Row). x.row ∷ l) (put_left r xs ys i before.1 here (omega arith))
    ∙ sym (ap (λ (l : List Row). l ++ ys) (put_behind r x.row (rows_alone xs) before.0))

put_right : (r : Row) (xs : List RoomyRow) (ys : List Row) (i : ℕ) → AllByRecursion (λ h. is_lt (name_cmp r.name h.row.name) ≡ false) (take i xs)
    → length xs ≤ i → put r (rows_alone xs ++ ys) ≡ rows_alone xs ++ put r ys
put_right r [] ys i before le = refl
put_right r (x ∷ xs) ys zero before le = absurd (omega arith)
put_right r (x ∷ xs) ys (suc i) before le =
    put_behind r x.row (rows_alone xs ++ ys) before.0 ∙ ap (λ (l : List Row). x.row ∷ l) (put_right r xs ys i before.1 (omega arith))

-- the volume belongs in front, where its place there is not the end
pub put_in_front : (r : Row) (n : Name) (xs : List RoomyRow) (ys : List Row) (i : ℕ) → r.name ≡ n → IsSlot xs n i → i < length xs
    → put r (rows_alone xs ++ ys) ≡ put r (rows_alone xs) ++ ys
put_in_front r n xs ys i named s lt =
    put_left r xs ys i (rw named s.before) (rw named s.here) lt

-- else behind it
pub put_in_back : (r : Row) (n : Name) (xs : List RoomyRow) (ys : List Row) (i : ℕ) → r.name ≡ n → IsSlot xs n i → length xs ≤ i
    → put r (rows_alone xs ++ ys) ≡ rows_alone xs ++ put r ys
put_in_back r n xs ys i named s le =
    put_right r xs ys i (rw named s.before) le

-- ---- a volume put in at a place

absent_head : (x : RoomyRow) (hs : List RoomyRow) (n : Name) → row_of (rows_alone (x ∷ hs)) n ≡ None → (x.row.name ≢ n) × (row_of (rows_alone hs) n ≡ None)
unfolding row_of
absent_head x hs n h = parts (name_eq x.row.name n) refl h
  where
    parts : (b : Bool) → name_eq x.row.name n ≡ b → cond b (Some x.row) (row_of (rows_alone hs) n) ≡ None → (x.row.name ≢ n) × (row_of (rows_alone hs) n ≡ None)
    parts true e h = absurd cc
    parts false e h = ((λ same. let t = name_eq-same x.row.name n same in absurd cc), h)

pub places-insert_same : (hs : List RoomyRow) (i : ℕ) (h : RoomyRow) → row_of (rows_alone hs) h.row.name ≡ None → places_in (insert hs i h) h.row.name ≡ h.spare
unfolding places_in
places-insert_same hs zero h none = rw (name_eq-same h.row.name h.row.name refl) refl
places-insert_same [] (suc i) h none = rw (name_eq-same h.row.name h.row.name refl) refl
places-insert_same (x ∷ hs) (suc i) h none =
    let p = absent_head x hs h.row.name none in
    rw (name_eq-other x.row.name h.row.name p.0) (places-insert_same hs i h p.1)

pub places-insert_other : (hs : List RoomyRow) (i : ℕ) (h : RoomyRow) (n : Name) → h.row.name ≢ n → places_in (insert hs i h) n ≡ places_in hs n
unfolding places_in
places-insert_other hs zero h n other = rw (name_eq-other h.row.name n other) refl
places-insert_other [] (suc i) h n other = rw (name_eq-other h.row.name n other) refl
places-insert_other (x ∷ hs) (suc i) h n other =
    ap (λ (k : ℕ). cond (name_eq x.row.name n) x.spare k) (places-insert_other hs i h n other)
