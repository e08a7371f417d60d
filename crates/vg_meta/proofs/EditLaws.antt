-- Edits of a list of volumes at the place of a name.
use Rattle.std.proofs.Common.{◌≡◌, ◌≢◌, ℕ, zero, suc, ◌<◌, false, cond, List, [], ◌∷◌, length, get_or, take, set, Bool, true, None, Some, refl, sym, ap, subst, ◌∙◌}
use Rattle.std.specs.Prelude.{slice_get, remove}
use Rattle.std.specs.List.{AllByRecursion}
use Rattle.std.proofs.lemmas.Bool.{cond_both}
use Rattle.std.proofs.lemmas.Option.{slice_get_within, get_or_from_slice_get}
use Rattle.sm_base.specs.declared.names.Name.{Name}
use Rattle.vg_meta.specs.Tables.{Row, name_eq, row_of}
use Rattle.vg_meta.specs.Roomy.{RoomyRow, rows_alone, places_in, IsPlace}
use Rattle.vg_meta.specs.Changes.{without, with_row}
use Rattle.vg_meta.proofs.NameLaws.{name_eq-same, name_eq-other}
use Rattle.vg_meta.proofs.RowLaws.{row_of-name}

pub within : (hs : List RoomyRow) (n : Name) (i : ℕ) → IsPlace hs n i → i < length hs
within hs n i p = slice_get_within hs i p.held p.at

-- the volume at the place has the name
pub held_name : (hs : List RoomyRow) (n : Name) (i : ℕ) (p : IsPlace hs n i) → p.held.row.name ≡ n
held_name hs n i p = row_of-name (rows_alone hs) n p.held.row p.is.row

rows-remove : (hs : List RoomyRow) (n : Name) (i : ℕ) (h : RoomyRow) → slice_get hs i ≡ Some h → h.row.name ≡ n
    → AllByRecursion (λ (h : RoomyRow). name_eq h.row.name n ≡ false) (take i hs)
    → rows_alone (remove hs i) ≡ without n (rows_alone hs)
unfolding without
rows-remove [] n i h at named before = absurd cc
rows-remove (x ∷ hs) n zero h at named before =
    let same : x ≡ h = cc in
    rw (name_eq-same x.row.name n (ap (λ (y : RoomyRow). y.row.name) same ∙ named)) refl
rows-remove (x ∷ hs) n (suc i) h at named before =
    rw before.0 (ap (λ (l : List Row). x.row ∷ l) (rows-remove hs n i h at named before.1))

pub without_at : (hs : List RoomyRow) (n : Name) (i : ℕ) → IsPlace hs n i → rows_alone (remove hs i) ≡ without n (rows_alone hs)
without_at hs n i p = rows-remove hs n i p.held p.at (held_name hs n i p) p.before

places-remove : (hs : List RoomyRow) (n m : Name) (i : ℕ) (h : RoomyRow) → slice_get hs i ≡ Some h → h.row.name ≡ n → n ≢ m
    → places_in (remove hs i) m ≡ places_in hs m
unfolding places_in
places-remove [] n m i h at named other = absurd cc
places-remove (x ∷ hs) n m zero h at named other =
    let same : x ≡ h = cc in
    rw (name_eq-other x.row.name m (λ e. other (sym (ap (λ (y : RoomyRow). y.row.name) same ∙ named) ∙ e))) refl
places-remove (x ∷ hs) n m (suc i) h at named other =
    ap (λ (k : ℕ). cond (name_eq x.row.name m) x.spare k) (places-remove hs n m i h at named other)

pub places_without : (hs : List RoomyRow) (n : Name) (i : ℕ) → IsPlace hs n i → (m : Name) → n ≢ m → places_in (remove hs i) m ≡ places_in hs m
places_without hs n i p m other = places-remove hs n m i p.held p.at (held_name hs n i p) other

rows-set : (hs : List RoomyRow) (n : Name) (i : ℕ) (h g : RoomyRow) (f : Row → Row) → slice_get hs i ≡ Some h → h.row.name ≡ n
    → AllByRecursion (λ (h : RoomyRow). name_eq h.row.name n ≡ false) (take i hs) → g.row ≡ f h.row
    → rows_alone (set hs i g) ≡ with_row n f (rows_alone hs)
unfolding with_row
rows-set [] n i h g f at named before is = absurd cc
rows-set (x ∷ hs) n zero h g f at named before is =
    let same : x ≡ h = cc in
    rw (name_eq-same x.row.name n (ap (λ (y : RoomyRow). y.row.name) same ∙ named))
    (ap (λ (r : Row). r ∷ rows_alone hs) (is ∙ ap (λ (y : RoomyRow). f y.row) (sym same)))
rows-set (x ∷ hs) n (suc i) h g f at named before is =
    rw before.0 (ap (λ (l : List Row). x.row ∷ l) (rows-set hs n i h g f at named before.1 is))

pub with_at : (hs : List RoomyRow) (n : Name) (i : ℕ) (p : IsPlace hs n i) (g : RoomyRow) (f : Row → Row) → g.row ≡ f p.held.row
    → rows_alone (set hs i g) ≡ with_row n f (rows_alone hs)
with_at hs n i p g f is = rows-set hs n i p.held g f p.at (held_name hs n i p) p.before is

places-set_same : (hs : List RoomyRow) (n : Name) (i : ℕ) (h g : RoomyRow) → slice_get hs i ≡ Some h → g.row.name ≡ n
    → AllByRecursion (λ (h : RoomyRow). name_eq h.row.name n ≡ false) (take i hs)
    → places_in (set hs i g) n ≡ g.spare
unfolding places_in
places-set_same [] n i h g at named before = absurd cc
places-set_same (x ∷ hs) n zero h g at named before = rw (name_eq-same g.row.name n named) refl
places-set_same (x ∷ hs) n (suc i) h g at named before = rw before.0 (places-set_same hs n i h g at named before.1)

places-set_other : (hs : List RoomyRow) (n m : Name) (i : ℕ) (h g : RoomyRow) → slice_get hs i ≡ Some h → h.row.name ≡ n → g.row.name ≡ n → n ≢ m
    → places_in (set hs i g) m ≡ places_in hs m
unfolding places_in
places-set_other [] n m i h g at named now other = absurd cc
places-set_other (x ∷ hs) n m zero h g at named now other =
    let same : x ≡ h = cc in
    rw (
      name_eq-other g.row.name m (λ e. other (sym now ∙ e)),
      name_eq-other x.row.name m (λ e. other (sym (ap (λ (y : RoomyRow). y.row.name) same ∙ named) ∙ e)),
    ) refl
places-set_other (x ∷ hs) n m (suc i) h g at named now other =
    ap (λ (k : ℕ). cond (name_eq x.row.name m) x.spare k) (places-set_other hs n m i h g at named now other)

pub places_same : (hs : List RoomyRow) (n : Name) (i : ℕ) (p : IsPlace hs n i) (g : RoomyRow) → g.row.name ≡ p.held.row.name
    → places_in (set hs i g) n ≡ g.spare
places_same hs n i p g keeps = places-set_same hs n i p.held g p.at (keeps ∙ held_name hs n i p) p.before

pub places_other : (hs : List RoomyRow) (n : Name) (i : ℕ) (p : IsPlace hs n i) (g : RoomyRow) → g.row.name ≡ p.held.row.name
    → (m : Name) → n ≢ m → places_in (set hs i g) m ≡ places_in hs m
places_other hs n i p g keeps m other = places-set_other hs n m i p.held g p.at (held_name hs n i p) (keeps ∙ held_name hs n i p) other

-- a volume was changed at the place of its name, and keeps the name
pub record Edited (hs : List RoomyRow) (n : Name) (f : Row → Row) (i : ℕ) (v g : RoomyRow) : Type 0 where
  pub rows : rows_alone (set hs i g) ≡ with_row n f (rows_alone hs)
  pub was : places_in hs n ≡ v.spare
  pub now : places_in (set hs i g) n ≡ g.spare
  pub others : (m : Name) → n ≢ m → places_in (set hs i g) m ≡ places_in hs m

edited_at : (hs : List RoomyRow) (n : Name) (f : Row → Row) (i : ℕ) (v g : RoomyRow) → ((r : Row) → (f r).name ≡ r.name)
    → (p : IsPlace hs n i) → v ≡ get_or hs i v → g.row ≡ f v.row → Edited hs n f i v g
edited_at hs n f i v g keeps p is made =
    let same : v ≡ p.held = is ∙ get_or_from_slice_get hs i p.held v p.at in
    let row : g.row ≡ f p.held.row = made ∙ ap (λ (h : RoomyRow). f h.row) same in
    let name : g.row.name ≡ p.held.row.name = ap (λ (r : Row). r.name) row ∙ keeps p.held.row in
    record {
      rows = with_at hs n i p g f row;
      was = p.is.spare ∙ sym (ap (λ (h : RoomyRow). h.spare) same);
      now = places_same hs n i p g name;
      others = places_other hs n i p g name;
    }

pub edited : (us hs : List RoomyRow) (n : Name) (f : Row → Row) (i : ℕ) (v g : RoomyRow) → ((r : Row) → (f r).name ≡ r.name)
    → us ≡ hs → IsPlace us n i → v ≡ get_or hs i v → g.row ≡ f v.row → Edited hs n f i v g
edited us hs n f i v g keeps e p is made =
    edited_at hs n f i v g keeps (subst (λ (l : List RoomyRow). IsPlace l n i) e p) is made

-- an edit that changes nothing
pub with_row-same : (rs : List Row) (n : Name) → with_row n (λ (r : Row). r) rs ≡ rs
unfolding with_row
with_row-same [] n = refl
with_row-same (s ∷ rs) n =
    cond_both (name_eq s.name n) (s ∷ rs) (s ∷ with_row n (λ (r : Row). r) rs) (λ (l : List Row). l ≡ s ∷ rs)
    (λ e. refl) (λ e. ap (λ (l : List Row). s ∷ l) (with_row-same rs n))

-- where no volume has the name it has no spare places
pub places_none : (hs : List RoomyRow) (n : Name) → row_of (rows_alone hs) n ≡ None → places_in hs n ≡ 0
unfolding places_in row_of
places_none [] n none = refl
places_none (h ∷ hs) n none = by (name_eq h.row.name n) none (places_none hs n)
  where
    by : (b : Bool) → cond b (Some h.row) (row_of (rows_alone hs) n) ≡ None → (row_of (rows_alone hs) n ≡ None → places_in hs n ≡ 0)
        → cond b h.spare (places_in hs n) ≡ 0
    by true is later = absurd cc
    by false is later = later is
