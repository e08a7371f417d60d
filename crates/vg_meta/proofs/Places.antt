-- The place of a volume, sought from the front, and in a list in order from any place.
use Rattle.std.proofs.Common.{◌≡◌, ◌≢◌, ℕ, zero, suc, ◌+◌, ◌<◌, ◌≤◌, false, List, [], ◌∷◌, map, length, get_or, take, ◌++◌, drop, drop-cons, add-one, Some, None, refl, sym, ap, subst, ◌∙◌, arith}
use Rattle.std.specs.Prelude.{slice_get}
use Rattle.std.specs.List.{AllByRecursion}
use Rattle.std.specs.List.Sorted.{IsStrictlySortedBy}
use Rattle.std.specs.declared.cmp.Ordering.TheVariants.{Less}
use Rattle.common_laws.proofs.Lists.{take_next}
use Rattle.sm_base.specs.declared.names.Name.{Name}
use Rattle.sm_base.specs.Names.{name_cmp}
use Rattle.vg_meta.specs.Halves.{AreUpTo, IsInOrder}
use Rattle.vg_meta.specs.Tables.{IsTable, names_of, row_of, name_eq}
use Rattle.vg_meta.specs.Roomy.{RoomyRow, RoomyTable, rows_alone, table_alone, places_in, IsPlace}
use Rattle.vg_meta.proofs.NameLaws.{name_eq-same, name_eq-other, less_other}
use Rattle.vg_meta.proofs.Halving.{name_of, stands_last}

-- no volume below this place has the name
pub record Sought (hs : List RoomyRow) (n : Name) (i : ℕ) : Type 0 where
  pub row : row_of (rows_alone (drop i hs)) n ≡ row_of (rows_alone hs) n
  pub spare : places_in (drop i hs) n ≡ places_in hs n
  pub before : AllByRecursion (λ (h : RoomyRow). name_eq h.row.name n ≡ false) (take i hs)

pub sought_first : (hs : List RoomyRow) (n : Name) → Sought hs n 0
sought_first hs n = record { row = refl; spare = refl; before = tt }

-- the volume at a place
opened : (hs : List RoomyRow) (i : ℕ) (h : RoomyRow) → i < length hs → h ≡ get_or hs i h → drop i hs ≡ h ∷ drop (i + 1) hs
opened hs i h lt is = rw (add-one) (drop-cons hs i h lt ∙ ap (λ (x : RoomyRow). x ∷ drop (suc i) hs) (sym is))

get_at : (hs : List RoomyRow) (i : ℕ) (h : RoomyRow) → i < length hs → h ≡ get_or hs i h → slice_get hs i ≡ Some h
get_at [] i h lt is = absurd (omega arith)
get_at (x ∷ hs) zero h lt is = ap Some (sym is)
get_at (x ∷ hs) (suc i) h lt is = get_at hs i h (omega arith) is

row_head : (h : RoomyRow) (hs : List RoomyRow) (n : Name) → h.row.name ≡ n → row_of (rows_alone (h ∷ hs)) n ≡ Some h.row
unfolding row_of
row_head h hs n e = rw (name_eq-same h.row.name n e) refl

row_past : (h : RoomyRow) (hs : List RoomyRow) (n : Name) → h.row.name ≢ n → row_of (rows_alone (h ∷ hs)) n ≡ row_of (rows_alone hs) n
unfolding row_of
row_past h hs n e = rw (name_eq-other h.row.name n e) refl

spare_head : (h : RoomyRow) (hs : List RoomyRow) (n : Name) → h.row.name ≡ n → places_in (h ∷ hs) n ≡ h.spare
unfolding places_in
spare_head h hs n e = rw (name_eq-same h.row.name n e) refl

spare_past : (h : RoomyRow) (hs : List RoomyRow) (n : Name) → h.row.name ≢ n → places_in (h ∷ hs) n ≡ places_in hs n
unfolding places_in
spare_past h hs n e = rw (name_eq-other h.row.name n e) refl

pub All-push : {X : Type 0} (P : X → Type 0) (xs : List X) (x : X) → AllByRecursion P xs → P x → AllByRecursion P (xs ++ x ∷ [])
All-push P [] x all one = (one, tt)
All-push P (y ∷ xs) x all one = (all.0, All-push P xs x all.1 one)

pub sought_more : (hs : List RoomyRow) (n : Name) (i : ℕ) (h : RoomyRow) → i < length hs → h ≡ get_or hs i h → h.row.name ≢ n
    → Sought hs n i → Sought hs n (i + 1)
sought_more hs n i h lt is other s =
    let head = opened hs i h lt is in
    record {
      row = sym (row_past h (drop (i + 1) hs) n other) ∙ sym (ap (λ (l : List RoomyRow). row_of (rows_alone l) n) head) ∙ s.row;
      spare = sym (spare_past h (drop (i + 1) hs) n other) ∙ sym (ap (λ (l : List RoomyRow). places_in l n) head) ∙ s.spare;
      before = rw (take_next hs i h lt is) (All-push (λ (x : RoomyRow). name_eq x.row.name n ≡ false) (take i hs) h s.before (name_eq-other h.row.name n other));
    }

pub sought_found : (hs : List RoomyRow) (n : Name) (i : ℕ) (h : RoomyRow) → i < length hs → h ≡ get_or hs i h → h.row.name ≡ n
    → Sought hs n i → IsPlace hs n i
sought_found hs n i h lt is named s =
    let head = opened hs i h lt is in
    record {
      held = h;
      at = get_at hs i h lt is;
      is = record {
        row = sym s.row ∙ ap (λ (l : List RoomyRow). row_of (rows_alone l) n) head ∙ row_head h (drop (i + 1) hs) n named;
        spare = sym s.spare ∙ ap (λ (l : List RoomyRow). places_in l n) head ∙ spare_head h (drop (i + 1) hs) n named;
      };
      before = s.before;
    }

past_end : {X : Type 0} (xs : List X) (i : ℕ) → length xs ≤ i → drop i xs ≡ []
past_end [] zero h = refl
past_end [] (suc i) h = refl
past_end (x ∷ xs) zero h = absurd (omega arith)
past_end (x ∷ xs) (suc i) h = past_end xs i (omega arith)

pub sought_none : (hs : List RoomyRow) (n : Name) (i : ℕ) → length hs ≤ i → Sought hs n i → row_of (rows_alone hs) n ≡ None
unfolding row_of
sought_none hs n i le s = sym s.row ∙ ap (λ (l : List RoomyRow). row_of (rows_alone l) n) (past_end hs i le)

-- ---- in a list in order

abbrev pub row_name : RoomyRow → Name
row_name h = h.row.name

in_order_at : (hs : List RoomyRow) → IsStrictlySortedBy name_cmp (names_of (rows_alone hs)) → IsInOrder row_name hs
in_order_at hs rising = subst (IsStrictlySortedBy name_cmp) (names hs) rising
  where
    names : (xs : List RoomyRow) → names_of (rows_alone xs) ≡ map row_name xs
    names [] = refl
    names (x ∷ xs) = ap (λ (ns : List Name). x.row.name ∷ ns) (names xs)

-- the volumes of a table are in order
pub in_order : (count : ℕ) (t : RoomyTable) → IsTable count (table_alone t) → IsInOrder row_name t.rows
in_order count t table = in_order_at t.rows table.volumes.rising

-- no volume in front of that of the name has it
sought_in_order : (hs : List RoomyRow) (n : Name) (i : ℕ) (h : RoomyRow) → i < length hs → h ≡ get_or hs i h → h.row.name ≡ n → IsInOrder row_name hs → Sought hs n i
unfolding IsStrictlySortedBy
sought_in_order [] n i h lt is named order = absurd (omega arith)
sought_in_order (x ∷ hs) n zero h lt is named order = sought_first (x ∷ hs) n
sought_in_order (x ∷ hs) n (suc i) h lt is named order =
    let rest = sought_in_order hs n i h (omega arith) is named order.1 in
    let behind = name_of row_name (λ (m : Name). name_cmp x.row.name m ≡ Less) hs i h (omega arith) order.0 in
    let other : x.row.name ≢ n = λ e. less_other x.row.name (row_name (get_or hs i h)) behind (e ∙ sym named ∙ ap row_name is) in
    record {
      row = rest.row ∙ sym (row_past x hs n other);
      spare = rest.spare ∙ sym (spare_past x hs n other);
      before = (name_eq-other x.row.name n other, rest.before);
    }

pub place_in_order : (hs : List RoomyRow) (n : Name) (i : ℕ) (h : RoomyRow) → i < length hs → h ≡ get_or hs i h → h.row.name ≡ n → IsInOrder row_name hs → IsPlace hs n i
place_in_order hs n i h lt is named order = sought_found hs n i h lt is named (sought_in_order hs n i h lt is named order)

none_of_each : (hs : List RoomyRow) (n : Name) → ((j : ℕ) (d : RoomyRow) → j < length hs → row_name (get_or hs j d) ≡ n → ⊥) → row_of (rows_alone hs) n ≡ None
unfolding row_of
none_of_each [] n never = refl
none_of_each (x ∷ hs) n never = row_past x hs n (λ e. never 0 x (omega arith) e) ∙ none_of_each hs n (λ j d within e. never (suc j) d (omega arith) e)

-- where no name is up to this one, no volume has it
pub none_up_to : (hs : List RoomyRow) (n : Name) (i : ℕ) → i ≡ 0 → i ≤ length hs → IsInOrder row_name hs → AreUpTo row_name n hs i → row_of (rows_alone hs) n ≡ None
none_up_to hs n i zero_is long order up_to = none_of_each hs n (λ j d within e. let last = stands_last row_name n hs i order long up_to j d within e in absurd (omega (arith, last, zero_is)))

-- and where the last that is has another name
pub none_last : (hs : List RoomyRow) (n : Name) (i k : ℕ) (h : RoomyRow) → k + 1 ≡ i → i ≤ length hs → IsInOrder row_name hs → AreUpTo row_name n hs i
    → h ≡ get_or hs k h → h.row.name ≢ n → row_of (rows_alone hs) n ≡ None
none_last hs n i k h last_is long order up_to is other = none_of_each hs n (λ j d within e.
    let last = stands_last row_name n hs i order long up_to j d within e in
    let same : j ≡ k = omega (arith, last, last_is) in
    other (ap row_name is ∙ ap row_name (get_or_same hs k h d (omega arith)) ∙ sym (ap (λ (m : ℕ). row_name (get_or hs m d)) same) ∙ e))
  where
    get_or_same : (xs : List RoomyRow) (m : ℕ) (a b : RoomyRow) → m < length xs → get_or xs m a ≡ get_or xs m b
    get_or_same [] m a b within = absurd (omega arith)
    get_or_same (x ∷ xs) zero a b within = refl
    get_or_same (x ∷ xs) (suc m) a b within = get_or_same xs m a b (omega arith)
