-- The checks by the table: what is found among the volumes in memory is what the checks name.
use Rattle.std.proofs.Common.{◌≡◌, ℕ, suc, ◌+◌, ◌<◌, ◌≤◌, inl, inr, Bool, true, false, cond, not, ◌&&◌, ◌||◌, ◌==◌, List, [], ◌∷◌, length, drop, position, slice_get, Option, Some, None, refl, sym, ap, ap₂, ◌∙◌, subst, arith, nat_lt}
use Rattle.std.specs.List.{filter, find, list_any, position_or_len}
use Rattle.std.specs.Str.{bytes_eq}
use Rattle.std.proofs.lemmas.Bool.{ltb-true, ltb-false}
use Rattle.std.proofs.lemmas.Option.{none-some, same_Some}
use Rattle.sm_base.specs.declared.faults.Place.{Place}
use Rattle.sm_base.specs.declared.faults.Place.TheVariants as at
use Rattle.sm_base.specs.declared.names.Name.{Name}
use Rattle.sm_base.specs.declared.names.Name.TheVariants.{Mgt, Vhd, Raw, Old, Cbt, Clone, Inflate, Coalesce, Relink, Leaf}
use Rattle.sm_base.specs.declared.sizes.Geometry.{Geometry}
use Rattle.vg_meta.specs.Tables.{VolumeTable, Row, names_of, rows}
use Rattle.sm_base.specs.Kinds.{is_image as is_data, is_entry}
use Rattle.vg_meta.specs.Roomy.{RoomyTable, RoomyRow, table_alone, rows_alone}
use Rattle.common_laws.specs.Lists.{In, given, first_some}
use Rattle.sm_machine.specs.Shapes.{image_limit}
use Rattle.sm_standing.specs.Entries.{are_past, folding, has_image, head, is_at_stage, is_coalescing, is_folding_leaf, is_fork_begun, is_fork_made, is_forking, is_inflating, is_old_of, is_past, is_there, making, names_in, second}
use Rattle.sm_standing.specs.Checks.{first_name, name_in, placed, has_records, record_volume_fault, images, too_many_fault, is_lost, is_orphaned, lesser, second_entry_fault, lost_entry_fault, old_leaf_fault}
use Rattle.sm_standing.specs.Outlines.{Outline}
use Rattle.std.specs.Ordering.{is_lt}
use Rattle.sm_base.specs.Names.{name_cmp}
use Rattle.sm_checks.specs.Faults.{HasTable, has_any, is_any_visible, is_apart, is_begun, is_fork_at_stage, is_entry_lost, is_old_besides, is_old_by}

-- ---- the first of the volumes in memory

abbrev pub held_name : Option RoomyRow → Option Name
held_name None = None
held_name (Some h) = Some h.row.name

pub held_first : (test : Row → Bool) (hs : List RoomyRow) → first_name test (rows_alone hs) ≡ held_name (find (λ h. test h.row) hs)
unfolding first_name
held_first test [] = refl
held_first test (h ∷ hs) = by (test h.row) (held_first test hs)
  where
    by : (b : Bool) → name_in (find test (rows_alone hs)) ≡ held_name (find (λ h. test h.row) hs) → name_in (cond b (Some h.row) (find test (rows_alone hs))) ≡ held_name (cond b (Some h) (find (λ h. test h.row) hs))
    by true is = refl
    by false is = is

-- a check answers the first volume that fails its test
pub first_at : (place : Name → Place) (test : VolumeTable → Row → Bool) (k : RoomyTable) {t : VolumeTable} {hs : List RoomyRow} {o : Option RoomyRow} {answer : Option Place} → t ≡ table_alone k → hs ≡ k.rows
    → o ≡ find (λ h. test (table_alone k) h.row) hs → answer ≡ placed place (held_name o) → answer ≡ placed place (first_name (test t) t.volumes)
first_at place test k is held found said =
    said ∙ ap (λ q. placed place (held_name q)) (found ∙ ap (find (λ h. test (table_alone k) h.row)) held) ∙ ap (placed place) (sym (held_first (test (table_alone k)) k.rows))
    ∙ sym (ap (λ u. placed place (first_name (test u) u.volumes)) is)

pub find_same : (p q : Row → Bool) (rs : List Row) → ((r : Row) → In r rs → p r ≡ q r) → find p rs ≡ find q rs
find_same p q [] same = refl
find_same p q (r ∷ rs) same = ap₂ (λ b o. cond b (Some r) o) (same r (inl refl)) (find_same p q rs (λ s h. same s (inr h)))

-- ---- the volume of records, and how many images there are

pub record_volume_at : {x : Outline} {g : Geometry} {t : VolumeTable} {o : Option Row} → HasTable g t x → rows t Mgt ≡ o → record_volume_fault x ≡ given (not (has_records x o)) at.Mgt
unfolding record_volume_fault
record_volume_at {x} is there = ap (λ u. given (not (has_records x (rows u Mgt))) at.Mgt) is.table ∙ ap (λ q. given (not (has_records x q)) at.Mgt) there

count_step : (b : Bool) (h : RoomyRow) (rs : List Row) (hs : List RoomyRow) → length rs ≡ length hs → length (cond b (h.row ∷ rs) rs) ≡ length (cond b (h ∷ hs) hs)
count_step true h rs hs same = omega (arith, same)
count_step false h rs hs same = same

images_counted : (hs : List RoomyRow) → length (filter (λ r. is_data r.name) (rows_alone hs)) ≡ length (filter (λ h. is_data h.row.name) hs)
images_counted [] = refl
images_counted (h ∷ hs) = count_step (is_data h.row.name) h _ _ (images_counted hs)

pub too_many_at : (x : Outline) (k : RoomyTable) {hs : List RoomyRow} {n : ℕ} → x.table ≡ table_alone k → hs ≡ k.rows → n ≡ length (filter (λ h. is_data h.row.name) hs) → too_many_fault x ≡ given (nat_lt image_limit n) at.Images
unfolding too_many_fault
too_many_at x k is held count =
    ap (λ t. given (nat_lt image_limit (length (images t))) at.Images) is
    ∙ ap (λ m. given (nat_lt image_limit m) at.Images) (images_counted k.rows ∙ sym (count ∙ ap (λ gs. length (filter (λ (h : RoomyRow). is_data h.row.name) gs)) held))

-- ---- what is known where they pass

pub only : {A : Type 0} (o : Option A) → first_some (o ∷ []) ≡ o
only None = refl
only (Some x) = refl

-- the last of six checks, where the others pass
pub last_of : {a b d e f : Option Place} (o : Option Place) → a ≡ None → b ≡ None → d ≡ None → e ≡ None → f ≡ None → first_some (a ∷ b ∷ d ∷ e ∷ f ∷ o ∷ []) ≡ o
last_of o is_a is_b is_d is_e is_f = rw (is_a, is_b, is_d, is_e, is_f) (only o)

-- ---- the entries

first_passing : {A : Type 0} (test : A → Bool) (xs : List A) → find test xs ≡ slice_get (filter test xs) 0
first_passing test [] = refl
first_passing {A} test (x ∷ xs) = by (test x) (first_passing test xs)
  where
    by : (b : Bool) → find test xs ≡ slice_get (filter test xs) 0 → cond b (Some x) (find test xs) ≡ slice_get (cond b (x ∷ filter test xs) (filter test xs)) 0
    by true rest = refl
    by false rest = rest

second_passing : {A : Type 0} (test : A → Bool) (xs : List A) (k : ℕ) → position_or_len test xs ≡ k → k < length xs → find test (drop (suc k) xs) ≡ slice_get (filter test xs) 1
second_passing test [] k is within = absurd (omega (arith, within))
second_passing {A} test (x ∷ xs) k is within = by (test x) refl (second_passing test xs (position_or_len test xs) refl)
  where
    by : (b : Bool) → test x ≡ b → (position_or_len test xs < length xs → find test (drop (suc (position_or_len test xs)) xs) ≡ slice_get (filter test xs) 1)
        → find test (drop (suc k) (x ∷ xs)) ≡ slice_get (cond b (x ∷ filter test xs) (filter test xs)) 1
    by true at rest =
        let none : 0 ≡ k = sym (ap (λ b. cond (not b) (1 + position_or_len test xs) 0) at) ∙ is in
        subst (λ n. find test (drop n xs) ≡ slice_get (filter test xs) 0) none (first_passing test xs)
    by false at rest =
        let one : 1 + position_or_len test xs ≡ k = sym (ap (λ b. cond (not b) (1 + position_or_len test xs) 0) at) ∙ is in
        let e : suc (position_or_len test xs) ≡ k = omega (arith, one) in
        subst (λ n. find test (drop n xs) ≡ slice_get (filter test xs) 1) e (rest (omega (arith, one, within)))

none_passing : {A : Type 0} (test : A → Bool) (xs : List A) → length xs ≤ position_or_len test xs → filter test xs ≡ []
none_passing test [] past = refl
none_passing {A} test (x ∷ xs) past = by (test x) refl (none_passing test xs)
  where
    by : (b : Bool) → test x ≡ b → (length xs ≤ position_or_len test xs → filter test xs ≡ []) → cond b (x ∷ filter test xs) (filter test xs) ≡ []
    by true at rest = let none = ap (λ b. cond (not b) (1 + position_or_len test xs) 0) at in absurd (omega (arith, past, none))
    by false at rest = let one = ap (λ b. cond (not b) (1 + position_or_len test xs) 0) at in rest (omega (arith, past, one))

place_of : {A : Type 0} (test : A → Bool) (xs : List A) (k : ℕ) → position test xs ≡ Some k → (position_or_len test xs ≡ k) × (k < length xs)
place_of test xs k is = by (nat_lt (position_or_len test xs) (length xs)) refl is
  where
    by : (b : Bool) → nat_lt (position_or_len test xs) (length xs) ≡ b → cond b (Some (position_or_len test xs)) None ≡ Some k → (position_or_len test xs ≡ k) × (k < length xs)
    by true below e = let same = same_Some (position_or_len test xs) k e in (same, subst (λ n. n < length xs) same (ltb-true (position_or_len test xs) (length xs) below))
    by false past e = absurd (none-some k e)

-- the second that passes stands behind the first, where there is one
pub second_behind : {A : Type 0} (test : A → Bool) (xs : List A) (k : ℕ) → position test xs ≡ Some k → find test (drop (k + 1) xs) ≡ slice_get (filter test xs) 1
second_behind test xs k is =
    let w = place_of test xs k is in
    subst (λ n. find test (drop n xs) ≡ slice_get (filter test xs) 1) (let e : suc k ≡ k + 1 = omega arith in e) (second_passing test xs k w.0 w.1)

pub second_none : {A : Type 0} (test : A → Bool) (xs : List A) → position test xs ≡ None → slice_get (filter test xs) 1 ≡ None
second_none {A} test xs is = by (nat_lt (position_or_len test xs) (length xs)) refl is
  where
    by : (b : Bool) → nat_lt (position_or_len test xs) (length xs) ≡ b → cond b (Some (position_or_len test xs)) None ≡ None → slice_get (filter test xs) 1 ≡ None
    by true below e = absurd (none-some (position_or_len test xs) (sym e))
    by false past e = ap (λ (ys : List A). slice_get ys 1) (none_passing test xs (ltb-false (position_or_len test xs) (length xs) past))

-- the second name of a group is that of the second volume
second_name : (test : Name → Bool) (hs : List RoomyRow) → second (filter test (names_of (rows_alone hs))) ≡ held_name (slice_get (filter (λ h. test h.row.name) hs) 1)
second_name test hs = ap second (names_passing hs) ∙ behind (filter (λ h. test h.row.name) hs)
  where
    behind : (gs : List RoomyRow) → second (names_of (rows_alone gs)) ≡ held_name (slice_get gs 1)
    behind [] = refl
    behind (g ∷ []) = refl
    behind (g ∷ h ∷ gs) = refl

    names_passing : (gs : List RoomyRow) → filter test (names_of (rows_alone gs)) ≡ names_of (rows_alone (filter (λ h. test h.row.name) gs))
    names_passing [] = refl
    names_passing (g ∷ gs) = by (test g.row.name) (names_passing gs)
      where
        by : (b : Bool) → filter test (names_of (rows_alone gs)) ≡ names_of (rows_alone (filter (λ h. test h.row.name) gs))
            → cond b (g.row.name ∷ filter test (names_of (rows_alone gs))) (filter test (names_of (rows_alone gs))) ≡ names_of (rows_alone (cond b (g ∷ filter (λ h. test h.row.name) gs) (filter (λ h. test h.row.name) gs)))
        by true rest = ap (λ ns. g.row.name ∷ ns) rest
        by false rest = rest

pub second_name_at : (test : Name → Bool) (k : RoomyTable) {hs : List RoomyRow} {o : Option RoomyRow} {answer : Option Name} → hs ≡ k.rows → o ≡ slice_get (filter (λ h. test h.row.name) hs) 1
    → answer ≡ held_name o → answer ≡ second (names_in (table_alone k) test)
second_name_at test k held found said =
    said ∙ ap held_name (found ∙ ap (λ gs. slice_get (filter (λ (h : RoomyRow). test h.row.name) gs) 1) held) ∙ sym (second_name test k.rows)

pub second_at : (k : RoomyTable) (x : Outline) {a b : Option Name} {answer : Option Place} → x.table ≡ table_alone k → a ≡ second (folding (table_alone k)) → b ≡ second (making (table_alone k))
    → answer ≡ placed at.Journal (lesser a b) → answer ≡ second_entry_fault x
unfolding second_entry_fault
second_at k x is folds makes said =
    said ∙ ap₂ (λ p q. placed at.Journal (lesser p q)) folds makes ∙ sym (ap (λ (u : VolumeTable). placed at.Journal (lesser (second (folding u)) (second (making u)))) is)

-- some of three names, in their order
abbrev three : (a b c : Bool) (x y z : Name) → List Name
three a b c x y z = cond a (x ∷ cond b (y ∷ cond c (z ∷ []) []) (cond c (z ∷ []) [])) (cond b (y ∷ cond c (z ∷ []) []) (cond c (z ∷ []) []))

some_of : (a b c : Bool) (x y z : Name) → not (length (three a b c x y z) == 0) ≡ (a || (b || c))
some_of true true true x y z = refl
some_of true true false x y z = refl
some_of true false true x y z = refl
some_of true false false x y z = refl
some_of false true true x y z = refl
some_of false true false x y z = refl
some_of false false true x y z = refl
some_of false false false x y z = refl

one_of : (a b c : Bool) (x y z : Name) → (length (three a b c x y z) == 1) ≡ cond a (not b && not c) (cond b (not c) c)
one_of true true true x y z = refl
one_of true true false x y z = refl
one_of true false true x y z = refl
one_of true false false x y z = refl
one_of false true true x y z = refl
one_of false true false x y z = refl
one_of false false true x y z = refl
one_of false false false x y z = refl

-- the stages of a fork are those that are looked for
begun_as : (t : VolumeTable) (d b w : List ℕ) → is_fork_begun t d b w ≡ is_begun t d b w
begun_as t d b w =
    ap₂ (λ x y. not x && y) (some b) (ap₂ (λ x y. not x && y) (some w)
    (ap (λ x. x && is_any_visible t d) (one_of (is_there t (Vhd d)) (is_there t (Raw d)) (is_there t (Old d)) (Vhd d) (Raw d) (Old d))))
  where
    some : (u : List ℕ) → has_image t u ≡ has_any t u
    some u = some_of (is_there t (Vhd u)) (is_there t (Raw u)) (is_there t (Old u)) (Vhd u) (Raw u) (Old u)

pub stage_as : (t : VolumeTable) (d b w : List ℕ) → is_forking t d b w ≡ is_fork_at_stage t d b w
stage_as t d b w =
    ap (λ x. not (bytes_eq d b) && (not (bytes_eq d w) && (not (bytes_eq b w) && (is_apart t d b w && (x || is_fork_made t d b w))))) (begun_as t d b w)

copy_lost : (a p q : Bool) → not (a && (p && q)) ≡ not (a && (p && (q && true)))
copy_lost false p q = refl
copy_lost true false q = refl
copy_lost true true true = refl
copy_lost true true false = refl

-- an entry is lost as the check says it
lost_as : (t : VolumeTable) (n : Name) → is_entry_lost t n ≡ (is_entry n && not (is_at_stage t n && are_past t n))
unfolding is_at_stage
lost_as t (Inflate u e) = by (is_inflating t u e) (is_past t.sequence u)
  where
    by : (a b : Bool) → (not a || not b) ≡ not (a && (b && true))
    by true true = refl
    by true false = refl
    by false b = refl
lost_as t (Clone d b w) =
    by (is_fork_at_stage t d b w) (is_past t.sequence d) (is_past t.sequence b) (is_past t.sequence w)
    ∙ ap (λ x. not (x && (is_past t.sequence d && (is_past t.sequence b && (is_past t.sequence w && true))))) (sym (stage_as t d b w))
  where
    by : (a p q r : Bool) → (not a || not (p && (q && r))) ≡ not (a && (p && (q && (r && true))))
    by false p q r = refl
    by true false q r = refl
    by true true false r = refl
    by true true true false = refl
    by true true true true = refl
lost_as t Mgt = refl
lost_as t (Vhd u) = refl
lost_as t (Raw u) = refl
lost_as t (Old u) = refl
lost_as t (Cbt u) = refl
lost_as t (Coalesce c p) = copy_lost (is_coalescing t c p) (is_past t.sequence c) (is_past t.sequence p)
lost_as t (Relink c p) = copy_lost (is_coalescing t c p) (is_past t.sequence c) (is_past t.sequence p)
lost_as t (Leaf l p) = copy_lost (is_folding_leaf t l p) (is_past t.sequence l) (is_past t.sequence p)

pub lost_at : (k : RoomyTable) (x : Outline) {hs : List RoomyRow} {o : Option RoomyRow} {answer : Option Place} → x.table ≡ table_alone k → hs ≡ k.rows
    → o ≡ find (λ h. is_entry_lost (table_alone k) h.row.name) hs → answer ≡ placed at.Journal (held_name o) → answer ≡ lost_entry_fault x
unfolding lost_entry_fault first_name
lost_at k x is held found said =
    first_at at.Journal (λ t r. is_entry_lost t r.name) k is held found said
    ∙ ap (λ q. placed at.Journal (name_in q)) (find_same (λ r. is_entry_lost x.table r.name) (is_lost x.table) x.table.volumes
    (λ r i. lost_as x.table r.name))

-- an old leaf belongs to the one entry of its group, or to none
old_as : (t : VolumeTable) (n : Name) → second (folding t) ≡ None → is_old_besides t (head (folding t)) n ≡ is_orphaned t n
old_as t (Old u) one = ap not (by (folding t) one)
  where
    last : (b : Bool) → b ≡ (b || false)
    last true = refl
    last false = refl

    by : (ns : List Name) → second ns ≡ None → is_old_by t u (head ns) ≡ list_any (is_old_of t u) ns
    by [] h = refl
    by (e ∷ []) h = last (is_old_of t u e)
    by (e ∷ m ∷ ns) h = absurd (none-some m (sym h))
old_as t Mgt one = refl
old_as t (Vhd u) one = refl
old_as t (Raw u) one = refl
old_as t (Cbt u) one = refl
old_as t (Clone d b w) one = refl
old_as t (Inflate u e) one = refl
old_as t (Coalesce c p) one = refl
old_as t (Relink c p) one = refl
old_as t (Leaf l p) one = refl

-- where no second entry is found there is one of each group at most
pub lesser_none : (a b : Option Name) → lesser a b ≡ None → (a ≡ None) × (b ≡ None)
lesser_none None None h = (refl, refl)
lesser_none None (Some n) h = absurd (none-some n (sym h))
lesser_none (Some m) None h = absurd (none-some m (sym h))
lesser_none (Some m) (Some n) h = by (is_lt (name_cmp m n)) h
  where
    by : (c : Bool) → cond c (Some m) (Some n) ≡ None → (Some m ≡ None) × (Some n ≡ None)
    by true is = absurd (none-some m (sym is))
    by false is = absurd (none-some n (sym is))

pub placed_none : (place : Name → Place) (o : Option Name) → placed place o ≡ None → o ≡ None
placed_none place None h = refl
placed_none place (Some n) h = absurd (none-some (place n) (sym h))

pub one_folding : (x : Outline) → second_entry_fault x ≡ None → second (folding x.table) ≡ None
unfolding second_entry_fault
one_folding x none = (lesser_none (second (folding x.table)) (second (making x.table)) (placed_none at.Journal _ none)).0

pub old_at : (k : RoomyTable) (x : Outline) {hs : List RoomyRow} {o : Option RoomyRow} {answer : Option Place} → x.table ≡ table_alone k → second_entry_fault x ≡ None → hs ≡ k.rows
    → o ≡ find (λ h. is_old_besides (table_alone k) (head (folding (table_alone k))) h.row.name) hs → answer ≡ placed at.Image (held_name o) → answer ≡ old_leaf_fault x
unfolding old_leaf_fault first_name
old_at k x is no_second held found said =
    first_at at.Image (λ t r. is_old_besides t (head (folding t)) r.name) k is held found said
    ∙ ap (λ q. placed at.Image (name_in q)) (find_same (λ r. is_old_besides x.table (head (folding x.table)) r.name) (λ r. is_orphaned x.table r.name) x.table.volumes
    (λ r i. old_as x.table r.name (one_folding x no_second)))

-- the first name of a group is that of the first volume
pub first_entry_at : (test : Name → Bool) (k : RoomyTable) {hs : List RoomyRow} {o : Option RoomyRow} {answer : Option Name} → hs ≡ k.rows → o ≡ find (λ h. test h.row.name) hs → answer ≡ held_name o
    → answer ≡ head (names_in (table_alone k) test)
first_entry_at test k held found said =
    said ∙ ap held_name (found ∙ ap (find (λ (h : RoomyRow). test h.row.name)) held) ∙ first_name_at k.rows
  where
    first_name_at : (hs : List RoomyRow) → held_name (find (λ h. test h.row.name) hs) ≡ head (filter test (names_of (rows_alone hs)))
    first_name_at [] = refl
    first_name_at (h ∷ hs) = by (test h.row.name) (first_name_at hs)
      where
        by : (b : Bool) → held_name (find (λ h. test h.row.name) hs) ≡ head (filter test (names_of (rows_alone hs)))
            → held_name (cond b (Some h) (find (λ h. test h.row.name) hs)) ≡ head (cond b (h.row.name ∷ filter test (names_of (rows_alone hs))) (filter test (names_of (rows_alone hs))))
        by true e = refl
        by false e = e
