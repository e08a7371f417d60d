-- The volumes that a change leaves, as the pieces that are written.
use Rattle.std.proofs.Common.{◌≡◌, ℕ, zero, suc, ◌+◌, ◌<◌, ◌≤◌, ◌^◌, Bool, false, List, [], ◌∷◌, ◌++◌, length, get_or, take, drop, Some, refl, sym, ap, subst, ◌∙◌, arith, inl, inr, append_assoc, length-append}
use Rattle.std.specs.Prelude.{◌⊎◌, slice_get}
use Rattle.std.specs.List.{AllByRecursion}
use Rattle.std.specs.Ordering.{is_lt}
use Rattle.std.proofs.lemmas.Bool.{cond_both}
use Rattle.std.proofs.lemmas.Grind.{flat_map-append}
use Rattle.std.proofs.lemmas.Option.{get_or_from_slice_get}
use Rattle.sm_base.specs.declared.names.Name.{Name}
use Rattle.sm_base.specs.Names.{name_cmp}
use Rattle.vg_meta.specs.Tables.{Row, VolumeTable, row_of, name_eq, extents_in}
use Rattle.vg_meta.specs.Roomy.{RoomyRow, rows_alone, IsPlace, IsSlot}
use Rattle.vg_meta.specs.Text.{volume_by, text_by, HasText}
use Rattle.vg_meta.specs.declared.grammars.Grammar.{Grammar}
use Rattle.vg_meta.specs.declared.changes.Tag.{Tag}
use Rattle.vg_meta.specs.declared.changes.Change.{Change}
use Rattle.vg_meta.specs.declared.changes.Change.TheVariants.{Create, Remove, Rename, Grow, Cut, Mark}
use Rattle.vg_meta.specs.Changes.{put, without, with_row, put_some, changed, made, renamed, grown, cut_to, tagged, AllowsIn, AllowsRemove, AllowsRename}
use Rattle.vg_meta.specs.Writing.{WritesText, HaveRoom, volumes_by}
use Rattle.vg_meta.proofs.NameLaws.{name_eq-same}
use Rattle.vg_meta.proofs.EditLaws.{held_name}
use Rattle.vg_meta.proofs.PutLaws.{put_in_front, put_in_back}
use Rattle.vg_meta.proofs.WriteLaws.{puts_then, few_each, length-text_by}

-- ---- room for pieces

extents-both : (xs ys : List Row) → length (extents_in (xs ++ ys)) ≡ length (extents_in xs) + length (extents_in ys)
extents-both [] ys = omega arith
extents-both (x ∷ xs) ys =
    omega (arith, extents-both xs ys, length-append x.extents (extents_in (xs ++ ys)), length-append x.extents (extents_in xs))

texts-both : (g : Grammar) (xs ys : List Row) → length (volumes_by g (xs ++ ys)) ≡ length (volumes_by g xs) + length (volumes_by g ys)
texts-both g xs ys = ap length (flat_map-append (volume_by g) xs ys) ∙ length-append (volumes_by g xs) (volumes_by g ys)

pub room_front : {g : Grammar} (xs ys : List Row) (at size : ℕ) → HaveRoom g (xs ++ ys) at size → HaveRoom g xs at size
room_front {g = g} xs ys at size h = record {
  few = omega (arith, extents-both xs ys, h.few);
  room = omega (arith, texts-both g xs ys, h.room);
}

pub room_back : {g : Grammar} (xs ys : List Row) (at end size : ℕ) → HaveRoom g (xs ++ ys) at size → end ≡ at + length (volumes_by g xs) → HaveRoom g ys end size
room_back {g = g} xs ys at end size h is = record {
  few = omega (arith, extents-both xs ys, h.few);
  room = omega (arith, texts-both g xs ys, h.room, is);
}

pub room_as : {g : Grammar} (xs ys : List Row) (at size : ℕ) → xs ≡ ys → HaveRoom g ys at size → HaveRoom g xs at size
room_as {g = g} xs ys at size e h = subst (λ (l : List Row). HaveRoom g l at size) (sym e) h

pub few_all : {g : Grammar} (hs : List RoomyRow) (at size : ℕ) → HaveRoom g (rows_alone hs) at size → AllByRecursion (λ (v : RoomyRow). length v.row.extents < 2 ^ 32) hs
few_all {g = g} hs at size h = few_each hs h.few

-- ---- pieces one behind the other

pub puts_as : (g : Grammar) (xs ys : List Row) (at end : ℕ) (old new : List ℕ) → xs ≡ ys → WritesText at (volumes_by g xs) old new end → WritesText at (volumes_by g ys) old new end
puts_as g xs ys at end old new e p = subst (λ (l : List Row). WritesText at (volumes_by g l) old new end) e p

pub rows_then : (g : Grammar) (xs ys : List Row) (at middle end : ℕ) (old half new : List ℕ) → at ≤ length old → WritesText at (volumes_by g xs) old half middle
    → WritesText middle (volumes_by g ys) half new end → WritesText at (volumes_by g (xs ++ ys)) old new end
rows_then g xs ys at middle end old half new within p q =
    subst (λ (t : List ℕ). WritesText at t old new end) (sym (flat_map-append (volume_by g) xs ys))
    (puts_then at middle end (volumes_by g xs) (volumes_by g ys) old half new within p q)

pub rows_between : (g : Grammar) (xs ys : List Row) (r : Row) (at first second end : ℕ) (old one two new : List ℕ) → at ≤ length old
    → WritesText at (volumes_by g xs) old one first → WritesText first (volume_by g r) one two second → WritesText second (volumes_by g ys) two new end
    → WritesText at (volumes_by g (xs ++ r ∷ ys)) old new end
rows_between g xs ys r at first second end old one two new within a b c =
    let ab = puts_then at first second (volumes_by g xs) (volume_by g r) old one two within a b in
    let abc = puts_then at second end (volumes_by g xs ++ volume_by g r) (volumes_by g ys) old two new within ab c in
    subst (λ (t : List ℕ). WritesText at t old new end)
    (append_assoc (volumes_by g xs) (volume_by g r) (volumes_by g ys) ∙ sym (flat_map-append (volume_by g) xs (r ∷ ys))) abc

-- few extents behind the front and one more
pub few_behind : {g : Grammar} (xs : List Row) (r : Row) (ys : List RoomyRow) (at size : ℕ) → HaveRoom g (xs ++ r ∷ rows_alone ys) at size
    → AllByRecursion (λ (v : RoomyRow). length v.row.extents < 2 ^ 32) ys
few_behind {g = g} xs r ys at size h =
    few_each ys (omega (arith, extents-both xs (r ∷ rows_alone ys), length-append r.extents (extents_in (rows_alone ys)), h.few))

-- ---- the volumes as pieces

without-pieces : (hs : List RoomyRow) (n : Name) (i : ℕ) (h : RoomyRow) → slice_get hs i ≡ Some h → h.row.name ≡ n
    → AllByRecursion (λ (h : RoomyRow). name_eq h.row.name n ≡ false) (take i hs)
    → rows_alone (take i hs) ++ rows_alone (drop (i + 1) hs) ≡ without n (rows_alone hs)
unfolding without
without-pieces [] n i h at named before = absurd cc
without-pieces (x ∷ hs) n zero h at named before =
    let same : x ≡ h = cc in
    rw (name_eq-same x.row.name n (ap (λ (y : RoomyRow). y.row.name) same ∙ named)) refl
without-pieces (x ∷ hs) n (suc i) h at named before =
    let next : suc i + 1 ≡ suc (i + 1) = omega arith in
    rw (next, before.0) (ap (λ (l : List Row). x.row ∷ l) (without-pieces hs n i h at named before.1))

with-pieces : (hs : List RoomyRow) (n : Name) (f : Row → Row) (i : ℕ) (h : RoomyRow) → slice_get hs i ≡ Some h → h.row.name ≡ n
    → AllByRecursion (λ (h : RoomyRow). name_eq h.row.name n ≡ false) (take i hs)
    → rows_alone (take i hs) ++ f h.row ∷ rows_alone (drop (i + 1) hs) ≡ with_row n f (rows_alone hs)
unfolding with_row
with-pieces [] n f i h at named before = absurd cc
with-pieces (x ∷ hs) n f zero h at named before =
    let same : x ≡ h = cc in
    rw (name_eq-same x.row.name n (ap (λ (y : RoomyRow). y.row.name) same ∙ named))
    (ap (λ (y : RoomyRow). f y.row ∷ rows_alone hs) (sym same))
with-pieces (x ∷ hs) n f (suc i) h at named before =
    let next : suc i + 1 ≡ suc (i + 1) = omega arith in
    rw (next, before.0) (ap (λ (l : List Row). x.row ∷ l) (with-pieces hs n f i h at named before.1))

-- the pieces by the slices that they stand in
pub pieces : (us vs front back : List RoomyRow) (r : Row) → us ≡ front → vs ≡ back → rows_alone us ++ r ∷ rows_alone vs ≡ rows_alone front ++ r ∷ rows_alone back
pieces us vs front back r e f = rw (e, f) refl

pub two_pieces : (us vs front back : List RoomyRow) → us ≡ front → vs ≡ back → rows_alone us ++ rows_alone vs ≡ rows_alone front ++ rows_alone back
two_pieces us vs front back e f = rw (e, f) refl

-- without the volume at its place
pub without_place : (hs : List RoomyRow) (n : Name) (i : ℕ) → IsPlace hs n i
    → rows_alone (take i hs) ++ rows_alone (drop (i + 1) hs) ≡ without n (rows_alone hs)
without_place hs n i p = without-pieces hs n i p.held p.at (held_name hs n i p) p.before

-- with the volume at its place as f makes it
pub with_place : (hs : List RoomyRow) (n : Name) (f : Row → Row) (i : ℕ) (v : RoomyRow) (r : Row) → IsPlace hs n i → v ≡ get_or hs i v → r ≡ f v.row
    → rows_alone (take i hs) ++ r ∷ rows_alone (drop (i + 1) hs) ≡ with_row n f (rows_alone hs)
with_place hs n f i v r p is made =
    let same : v ≡ p.held = is ∙ get_or_from_slice_get hs i p.held v p.at in
    let row : r ≡ f p.held.row = made ∙ ap (λ (h : RoomyRow). f h.row) same in
    ap (λ (x : Row). rows_alone (take i hs) ++ x ∷ rows_alone (drop (i + 1) hs)) row
    ∙ with-pieces hs n f i p.held p.at (held_name hs n i p) p.before

moved : (hs : List RoomyRow) (n m : Name) (i : ℕ) (v : RoomyRow) (r : Row) → IsPlace hs n i → v ≡ get_or hs i v → r ≡ renamed m v.row
    → put r (rows_alone (take i hs) ++ rows_alone (drop (i + 1) hs))
    ≡ put_some (row_of (rows_alone hs) n) (renamed m) (without n (rows_alone hs))
moved hs n m i v r p is made =
    let same : v ≡ p.held = is ∙ get_or_from_slice_get hs i p.held v p.at in
    let row : r ≡ renamed m p.held.row = made ∙ ap (λ (h : RoomyRow). renamed m h.row) same in
    rw (p.is.row, without_place hs n i p, row) refl

-- under another name, in front of the place it had, and behind it
pub moved_front : (hs : List RoomyRow) (n m : Name) (i k : ℕ) (v : RoomyRow) (r : Row) (front back : List RoomyRow) → front ≡ take i hs → back ≡ drop (i + 1) hs
    → IsPlace hs n i → v ≡ get_or hs i v → r ≡ renamed m v.row → IsSlot front m k → k < length front
    → put r (rows_alone front) ++ rows_alone back ≡ put_some (row_of (rows_alone hs) n) (renamed m) (without n (rows_alone hs))
moved_front hs n m i k v r front back e f p is made s lt =
    sym (put_in_front r m front (rows_alone back) k (ap (λ (x : Row). x.name) made) s lt)
    ∙ ap (put r) (two_pieces front back (take i hs) (drop (i + 1) hs) e f) ∙ moved hs n m i v r p is made

pub moved_back : (hs : List RoomyRow) (n m : Name) (i k : ℕ) (v : RoomyRow) (r : Row) (front back : List RoomyRow) → front ≡ take i hs → back ≡ drop (i + 1) hs
    → IsPlace hs n i → v ≡ get_or hs i v → r ≡ renamed m v.row → IsSlot front m k → length front ≤ k
    → rows_alone front ++ put r (rows_alone back) ≡ put_some (row_of (rows_alone hs) n) (renamed m) (without n (rows_alone hs))
moved_back hs n m i k v r front back e f p is made s le =
    sym (put_in_back r m front (rows_alone back) k (ap (λ (x : Row). x.name) made) s le)
    ∙ ap (put r) (two_pieces front back (take i hs) (drop (i + 1) hs) e f) ∙ moved hs n m i v r p is made

-- ---- how many volumes

pub length-put : (rs : List Row) (r : Row) → length (put r rs) ≡ length rs + 1
unfolding put
length-put [] r = omega arith
length-put (s ∷ rs) r =
    cond_both (is_lt (name_cmp r.name s.name)) (r ∷ s ∷ rs) (s ∷ put r rs) (λ (l : List Row). length l ≡ suc (length rs) + 1)
    (λ e. omega arith) (λ e. omega (arith, length-put rs r))

pub length-without : (rs : List Row) (n : Name) (r : Row) → row_of rs n ≡ Some r → length (without n rs) + 1 ≡ length rs
unfolding row_of without
length-without [] n r h = absurd cc
length-without (s ∷ rs) n r h =
    cond_both (name_eq s.name n) (Some s) (row_of rs n) (λ o. o ≡ Some r → length (without n (s ∷ rs)) + 1 ≡ suc (length rs))
    (λ e k. rw e (omega arith))
    (λ e k. rw e (omega (arith, length-without rs n r k))) h

pub length-with_row : (rs : List Row) (n : Name) (f : Row → Row) → length (with_row n f rs) ≡ length rs
unfolding with_row
length-with_row [] n f = refl
length-with_row (s ∷ rs) n f =
    cond_both (name_eq s.name n) (f s ∷ rs) (s ∷ with_row n f rs) (λ (l : List Row). length l ≡ suc (length rs))
    (λ e. refl) (λ e. ap suc (length-with_row rs n f))

length-moved : (rs : List Row) (n m : Name) (r : Row) → row_of rs n ≡ Some r
    → length (put_some (row_of rs n) (renamed m) (without n rs)) ≡ length rs
length-moved rs n m r there =
    rw there (omega (arith, length-put (without n rs) (renamed m r), length-without rs n r there))

-- how many a change leaves: one more, one fewer, or as many
pub count_created : (rs : List Row) (change : Change) (name : Name) (fresh : Bool) (es : List ℕ) → change ≡ Create name fresh es
    → length rs + 1 ≡ length (changed rs change)
count_created rs change name fresh es is = rw is (sym (length-put rs (made name fresh es)))

pub count_removed : (count : ℕ) (rs : List Row) (change : Change) (name : Name) → change ≡ Remove name → AllowsIn count rs change
    → length (changed rs change) + 1 ≡ length rs
count_removed count rs change name is a =
    let allowed : AllowsRemove rs name = subst (λ (x : Change). AllowsIn count rs x) is a in
    rw is (length-without rs name allowed.row allowed.there)

-- a change that is neither a Create nor a Remove
abbrev pub KeepsNumber : Change → Type 0
KeepsNumber change =
    ((from : Name) × (to : Name) × (change ≡ Rename from to))
    ⊎ (((name : Name) × (es : List ℕ) × (change ≡ Grow name es))
    ⊎ (((name : Name) × (keep : ℕ) × (change ≡ Cut name keep)) ⊎ ((name : Name) × (tag : Tag) × (on : Bool) × (change ≡ Mark name tag on))))

pub count_same : (count : ℕ) (rs : List Row) (change : Change) → KeepsNumber change → AllowsIn count rs change → length rs ≡ length (changed rs change)
count_same count rs change (inl (from, to, is)) a =
    let allowed : AllowsRename rs from to = subst (λ (x : Change). AllowsIn count rs x) is a in
    rw is (sym (length-moved rs from to allowed.row allowed.there))
count_same count rs change (inr (inl (name, es, is))) a = rw is (sym (length-with_row rs name (grown es)))
count_same count rs change (inr (inr (inl (name, keep, is)))) a = rw is (sym (length-with_row rs name (cut_to keep)))
count_same count rs change (inr (inr (inr (name, tag, on, is)))) a = rw is (sym (length-with_row rs name (tagged tag on)))

-- a text that has room has room for its volumes behind the two numbers in front
pub room_behind : {g : Grammar} (t : VolumeTable) (at size : ℕ) → HasText t → length (text_by g t) ≤ size → at ≡ 12 → HaveRoom g t.volumes at size
room_behind {g = g} t at size h fits is = record {
  few = h.extents;
  room = omega (arith, length-text_by g t, fits, is);
}
