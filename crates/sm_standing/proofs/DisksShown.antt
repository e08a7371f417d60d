-- The disks of a content: the list has each disk once, in order of UUID, so it is determined by the disk of each UUID.
use Rattle.std.proofs.Common.{◌≡◌, ◌≢◌, ℕ, ◌⊎◌, inl, inr, ⊎_elim, Bool, true, false, cond, not, ◌&&◌, ◌||◌, List, [], ◌∷◌, ◌++◌, Option, Some, None, refl, sym, ap, subst, bytes_eq}
use Rattle.std.specs.declared.cmp.Ordering.{Ordering}
use Rattle.std.specs.declared.cmp.Ordering.TheVariants.{Less, Equal, Greater}
use Rattle.std.specs.Cmp.{IsTotalOrder}
use Rattle.std.specs.Ordering.{is_lt}
use Rattle.std.specs.List.{filter, flat_map}
use Rattle.std.proofs.lemmas.Cmp.{nat_list_cmp_total}
use Rattle.std.proofs.lemmas.Map.Lookups.{exact_bytes}
use Rattle.std.proofs.lemmas.Slice.Eq.{bytes_eq-Decides}
use Rattle.common_laws.specs.Lists.{In}
use Rattle.sm_base.specs.declared.names.Name.{Name}
use Rattle.sm_base.specs.declared.names.Name.TheVariants.{Mgt, Vhd, Raw, Old, Cbt, Clone, Inflate, Coalesce, Relink, Leaf}
use Rattle.vg_meta.specs.Tables.{VolumeTable, Row, rows, row_of, name_eq, names_of}
use Rattle.sm_standing.specs.Entries.{names_in, head, making, folding, is_making, is_folding, is_visible, of_row, is_leaf_renamed, is_leaf_swapped, image_with}
use Rattle.sm_standing.specs.Standing.{uuids, with_uuid, in_order, candidates, standing_volume, stands_plainly, stands_forked, stands_folded, under}
use Rattle.sm_standing.specs.Ordered.{Rising, uuid_cmp, disk_cmp}

pub disk_cmp_total : IsTotalOrder disk_cmp
disk_cmp_total = record {
  antisymm = λ x y. nat_list_cmp_total.antisymm x.uuid y.uuid;
  trans = λ x y z. nat_list_cmp_total.trans x.uuid y.uuid z.uuid;
  congr = λ x y z. nat_list_cmp_total.congr x.uuid y.uuid z.uuid;
}

-- ---- UUIDs in order

In-with : (o : Ordering) (same : Bool) (u v x : List ℕ) (vs rest : List (List ℕ)) → (In x rest → (x ≡ u) ⊎ In x vs)
    → In x (cond (is_lt o) (u ∷ v ∷ vs) (cond same (v ∷ vs) (v ∷ rest))) → (x ≡ u) ⊎ In x (v ∷ vs)
In-with Less same u v x vs rest from (inl is) = inl is
In-with Less same u v x vs rest from (inr h) = inr h
In-with Equal true u v x vs rest from h = inr h
In-with Equal false u v x vs rest from (inl is) = inr (inl is)
In-with Equal false u v x vs rest from (inr h) = ⊎_elim (λ is. inl is) (λ k. inr (inr k)) (from h)
In-with Greater true u v x vs rest from h = inr h
In-with Greater false u v x vs rest from (inl is) = inr (inl is)
In-with Greater false u v x vs rest from (inr h) = ⊎_elim (λ is. inl is) (λ k. inr (inr k)) (from h)

pub In-with_uuid : (u x : List ℕ) (vs : List (List ℕ)) → In x (with_uuid u vs) → (x ≡ u) ⊎ In x vs
unfolding with_uuid
In-with_uuid u x [] (inl is) = inl is
In-with_uuid u x [] (inr none) = elim none [ ]
In-with_uuid u x (v ∷ vs) h = In-with (uuid_cmp u v) (bytes_eq u v) u v x vs (with_uuid u vs) (In-with_uuid u x vs) h

with-new : (o : Ordering) (same : Bool) (u v : List ℕ) (vs rest : List (List ℕ)) → (same ≡ true → u ≡ v) → In u rest
    → In u (cond (is_lt o) (u ∷ v ∷ vs) (cond same (v ∷ vs) (v ∷ rest)))
with-new Less same u v vs rest is h = inl refl
with-new Equal true u v vs rest is h = inl (is refl)
with-new Equal false u v vs rest is h = inr h
with-new Greater true u v vs rest is h = inl (is refl)
with-new Greater false u v vs rest is h = inr h

pub new-with_uuid : (u : List ℕ) (vs : List (List ℕ)) → In u (with_uuid u vs)
unfolding with_uuid
new-with_uuid u [] = inl refl
new-with_uuid u (v ∷ vs) = with-new (uuid_cmp u v) (bytes_eq u v) u v vs (with_uuid u vs) ((bytes_eq-Decides u v).0) (new-with_uuid u vs)

with-old : (o : Ordering) (same : Bool) (u v x : List ℕ) (vs rest : List (List ℕ)) → (In x vs → In x rest)
    → In x (v ∷ vs) → In x (cond (is_lt o) (u ∷ v ∷ vs) (cond same (v ∷ vs) (v ∷ rest)))
with-old Less same u v x vs rest from h = inr h
with-old Equal true u v x vs rest from h = h
with-old Equal false u v x vs rest from (inl is) = inl is
with-old Equal false u v x vs rest from (inr h) = inr (from h)
with-old Greater true u v x vs rest from h = h
with-old Greater false u v x vs rest from (inl is) = inl is
with-old Greater false u v x vs rest from (inr h) = inr (from h)

pub old-with_uuid : (u x : List ℕ) (vs : List (List ℕ)) → In x vs → In x (with_uuid u vs)
unfolding with_uuid
old-with_uuid u x [] h = elim h [ ]
old-with_uuid u x (v ∷ vs) h = with-old (uuid_cmp u v) (bytes_eq u v) u v x vs (with_uuid u vs) (old-with_uuid u x vs) h

with-rising : (o : Ordering) (same : Bool) (u v : List ℕ) (vs rest : List (List ℕ)) → uuid_cmp u v ≡ o → (same ≡ false → u ≢ v)
    → Rising uuid_cmp (v ∷ vs) → Rising uuid_cmp rest → ((x : List ℕ) → In x rest → (x ≡ u) ⊎ In x vs)
    → Rising uuid_cmp (cond (is_lt o) (u ∷ v ∷ vs) (cond same (v ∷ vs) (v ∷ rest)))
with-rising Less same u v vs rest is no_other r rr from = (all, r)
  where
    all : (x : List ℕ) → In x (v ∷ vs) → uuid_cmp u x ≡ Less
    all x (inl at) = subst (λ w. uuid_cmp u w ≡ Less) (sym at) is
    all x (inr h) = nat_list_cmp_total.trans u v x is (r.0 x h)
with-rising Equal true u v vs rest is no_other r rr from = r
with-rising Equal false u v vs rest is no_other r rr from = absurd (no_other refl (exact_bytes u v is))
with-rising Greater true u v vs rest is no_other r rr from = r
with-rising Greater false u v vs rest is no_other r rr from = (all, rr)
  where
    behind : uuid_cmp v u ≡ Less
    behind = let e = nat_list_cmp_total.antisymm v u in cc

    all : (x : List ℕ) → In x rest → uuid_cmp v x ≡ Less
    all x h = ⊎_elim (λ at. subst (λ w. uuid_cmp v w ≡ Less) (sym at) behind) (λ k. r.0 x k) (from x h)

pub rising-with_uuid : (u : List ℕ) (vs : List (List ℕ)) → Rising uuid_cmp vs → Rising uuid_cmp (with_uuid u vs)
unfolding with_uuid
rising-with_uuid u [] r = ((λ x h. absurd h), tt)
rising-with_uuid u (v ∷ vs) r =
    with-rising (uuid_cmp u v) (bytes_eq u v) u v vs (with_uuid u vs) refl (λ not_same at. let e = (bytes_eq-Decides u v).1 at in cc)
    r (rising-with_uuid u vs r.1) (λ x h. In-with_uuid u x vs h)

pub rising-in_order : (us : List (List ℕ)) → Rising uuid_cmp (in_order us)
unfolding in_order
rising-in_order [] = tt
rising-in_order (u ∷ us) = rising-with_uuid u (in_order us) (rising-in_order us)

pub old-in_order : (us : List (List ℕ)) (x : List ℕ) → In x us → In x (in_order us)
unfolding in_order
old-in_order [] x h = elim h [ ]
old-in_order (u ∷ us) x (inl is) = subst (λ y. In y (with_uuid u (in_order us))) (sym is) (new-with_uuid u (in_order us))
old-in_order (u ∷ us) x (inr h) = old-with_uuid u x (in_order us) (old-in_order us x h)

-- ---- where a UUID stands, it is listed

In-append_left : (xs ys : List (List ℕ)) (u : List ℕ) → In u xs → In u (xs ++ ys)
In-append_left [] ys u h = elim h [ ]
In-append_left (x ∷ xs) ys u (inl is) = inl is
In-append_left (x ∷ xs) ys u (inr h) = inr (In-append_left xs ys u h)

In-append_right : (xs ys : List (List ℕ)) (u : List ℕ) → In u ys → In u (xs ++ ys)
In-append_right [] ys u h = h
In-append_right (x ∷ xs) ys u h = inr (In-append_right xs ys u h)

-- the names of volumes
In-names : (rs : List Row) (n : Name) → In n (names_of rs) → (r : Row) × In r rs × (r.name ≡ n)
In-names [] n h = elim h [ ]
In-names (r ∷ rs) n (inl is) = (r, inl refl, sym is)
In-names (r ∷ rs) n (inr h) = let w = In-names rs n h in (w.0, inr w.1, w.2)

first-filter : (test : Name → Bool) (b : Bool) (n e : Name) (ns rest : List Name) → (head rest ≡ Some e → In e ns) → head (cond b (n ∷ rest) rest) ≡ Some e → In e (n ∷ ns)
first-filter test true n e ns rest from h = inl (let x = h in cc)
first-filter test false n e ns rest from h = inr (from h)

-- the first of the names that pass a test is one of them
In-head : (test : Name → Bool) (ns : List Name) (e : Name) → head (filter test ns) ≡ Some e → In e ns
In-head test [] e h = absurd (let x = h in cc)
In-head test (n ∷ ns) e h = first-filter test (test n) n e ns (filter test ns) (In-head test ns e) h

-- a name that is tested equal to an image's is that name
pub is_vhd : (a : Name) (u : List ℕ) → name_eq a (Vhd u) ≡ true → a ≡ Vhd u
unfolding name_eq
is_vhd (Vhd v) u h = ap Vhd ((bytes_eq-Decides v u).0 h)
is_vhd _ u h = absurd (let x = h in cc)

pub is_raw : (a : Name) (u : List ℕ) → name_eq a (Raw u) ≡ true → a ≡ Raw u
unfolding name_eq
is_raw (Raw v) u h = ap Raw ((bytes_eq-Decides v u).0 h)
is_raw _ u h = absurd (let x = h in cc)

-- the row that is found stands among the volumes, and its name is tested equal
found-step : (b : Bool) (r s : Row) (rs : List Row) (n : Name) → name_eq r.name n ≡ b → (found : Option Row)
    → (found ≡ Some s → In s rs × (name_eq s.name n ≡ true)) → cond b (Some r) found ≡ Some s → In s (r ∷ rs) × (name_eq s.name n ≡ true)
found-step true r s rs n is found from h = let same : r ≡ s = (let x = h in cc) in (inl (sym same), subst (λ t. name_eq t.name n ≡ true) same is)
found-step false r s rs n is found from h = let w = from h in (inr w.0, w.1)

pub row_of-In : (rs : List Row) (n : Name) (s : Row) → row_of rs n ≡ Some s → In s rs × (name_eq s.name n ≡ true)
unfolding row_of
row_of-In [] n s h = absurd (let x = h in cc)
row_of-In (r ∷ rs) n s h = found-step (name_eq r.name n) r s rs n refl (row_of rs n) (row_of-In rs n s) h

-- an element of a part is an element of all parts together
pub In-flat_map : (f : Row → List (List ℕ)) (rs : List Row) (r : Row) (u : List ℕ) → In r rs → In u (f r) → In u (flat_map f rs)
In-flat_map f [] r u h k = elim h [ ]
In-flat_map f (s ∷ rs) r u (inl is) k = In-append_left (f s) (flat_map f rs) u (subst (λ x. In u (f x)) is k)
In-flat_map f (s ∷ rs) r u (inr h) k = In-append_right (f s) (flat_map f rs) u (In-flat_map f rs r u h k)

-- a row of this name lists the UUIDs that the name speaks of
listed_by : (t : VolumeTable) (r : Row) (n : Name) (u : List ℕ) → In r t.volumes → r.name ≡ n → In u (candidates n) → In u (flat_map (λ r. candidates r.name) t.volumes)
listed_by t r n u h is k = In-flat_map (λ r. candidates r.name) t.volumes r u h (subst (λ m. In u (candidates m)) (sym is) k)

abbrev Listed : VolumeTable → List ℕ → Type 0
Listed t u = In u (flat_map (λ r. candidates r.name) t.volumes)

visible_there : (o : Option Row) → of_row (λ r. not r.hidden && not r.fresh) o ≡ true → (r : Row) × (o ≡ Some r)
visible_there None h = absurd (let x = h in cc)
visible_there (Some r) h = (r, refl)

plainly-step : (t : VolumeTable) (u : List ℕ) (a b : Bool) → is_visible t (Vhd u) ≡ a → is_visible t (Raw u) ≡ b → (n : Name)
    → cond a (Some (Vhd u)) (cond b (Some (Raw u)) None) ≡ Some n → Listed t u
plainly-step t u true b is_a is_b n h =
    let w = visible_there (rows t (Vhd u)) is_a in
    let f = row_of-In t.volumes (Vhd u) w.0 w.1 in
    listed_by t w.0 (Vhd u) u f.0 (is_vhd w.0.name u f.1) (inl refl)
plainly-step t u false true is_a is_b n h =
    let w = visible_there (rows t (Raw u)) is_b in
    let f = row_of-In t.volumes (Raw u) w.0 w.1 in
    listed_by t w.0 (Raw u) u f.0 (is_raw w.0.name u f.1) (inl refl)
plainly-step t u false false is_a is_b n h = absurd (let x = h in cc)

plainly_listed : (t : VolumeTable) (u : List ℕ) (n : Name) → stands_plainly t u ≡ Some n → Listed t u
plainly_listed t u n h = plainly-step t u (is_visible t (Vhd u)) (is_visible t (Raw u)) refl refl n h

folded-step : (t : VolumeTable) (e : Name) (u : List ℕ) (n : Name) (plainly : Option Name) → (r : Row) → In r t.volumes → r.name ≡ e → (plainly ≡ Some n → Listed t u)
    → stands_folded t e u plainly ≡ Some n → Listed t u
folded-step t (Leaf leaf parent) u n plainly r h is from k = of_same (bytes_eq u leaf) refl k
  where
    here : bytes_eq u leaf ≡ true → Listed t u
    here same = listed_by t r (Leaf leaf parent) u h is (inl ((bytes_eq-Decides u leaf).0 same))

    of_same : (b : Bool) → bytes_eq u leaf ≡ b
        → cond (b && is_leaf_renamed t leaf parent) (Some (Vhd parent)) (cond (b && is_leaf_swapped t leaf parent) (Some (Vhd leaf)) plainly) ≡ Some n → Listed t u
    of_same true same k = here same
    of_same false same k = from k
folded-step t Mgt u n plainly r h is from k = from k
folded-step t (Vhd v) u n plainly r h is from k = from k
folded-step t (Raw v) u n plainly r h is from k = from k
folded-step t (Old v) u n plainly r h is from k = from k
folded-step t (Cbt v) u n plainly r h is from k = from k
folded-step t (Clone d b w) u n plainly r h is from k = from k
folded-step t (Inflate i m) u n plainly r h is from k = from k
folded-step t (Coalesce c p) u n plainly r h is from k = from k
folded-step t (Relink c p) u n plainly r h is from k = from k

forked-step : (t : VolumeTable) (e : Name) (u : List ℕ) (n : Name) (plainly : Option Name) → (r : Row) → In r t.volumes → r.name ≡ e → (plainly ≡ Some n → Listed t u)
    → stands_forked t e u plainly ≡ Some n → Listed t u
forked-step t (Clone d b w) u n plainly r h is from k = of_same (bytes_eq u d) (bytes_eq u b || bytes_eq u w) refl k
  where
    of_same : (s other : Bool) → bytes_eq u d ≡ s
        → cond s (elim (image_with t b) [ None ↦ plainly | Some m ↦ Some m ]) (cond other None plainly) ≡ Some n → Listed t u
    of_same true other same k = listed_by t r (Clone d b w) u h is (inl ((bytes_eq-Decides u d).0 same))
    of_same false true same k = absurd (let x = k in cc)
    of_same false false same k = from k
forked-step t _ u n plainly r h is from k = from k

entry_row : (t : VolumeTable) (test : Name → Bool) (e : Name) → head (names_in t test) ≡ Some e → (r : Row) × In r t.volumes × (r.name ≡ e)
entry_row t test e h = In-names t.volumes e (In-head test (names_of t.volumes) e h)

under_folded : (t : VolumeTable) (u : List ℕ) (n : Name) (o : Option Name) → head (folding t) ≡ o
    → under (λ e. stands_folded t e u) o (stands_plainly t u) ≡ Some n → Listed t u
under_folded t u n None is h = plainly_listed t u n h
under_folded t u n (Some e) is h = let w = entry_row t is_folding e is in folded-step t e u n (stands_plainly t u) w.0 w.1 w.2 (plainly_listed t u n) h

under_forked : (t : VolumeTable) (u : List ℕ) (n : Name) (o : Option Name) → head (making t) ≡ o
    → under (λ e. stands_forked t e u) o (under (λ e. stands_folded t e u) (head (folding t)) (stands_plainly t u)) ≡ Some n → Listed t u
under_forked t u n None is h = under_folded t u n (head (folding t)) refl h
under_forked t u n (Some e) is h =
    let w = entry_row t is_making e is in
    forked-step t e u n (under (λ e. stands_folded t e u) (head (folding t)) (stands_plainly t u)) w.0 w.1 w.2 (λ k. under_folded t u n (head (folding t)) refl k) h

-- a UUID that stands anywhere is listed
pub stands_listed : (t : VolumeTable) (u : List ℕ) (n : Name) → standing_volume t u ≡ Some n → In u (uuids t)
unfolding standing_volume uuids
stands_listed t u n h = old-in_order (flat_map (λ r. candidates r.name) t.volumes) u (under_forked t u n (head (making t)) refl h)
