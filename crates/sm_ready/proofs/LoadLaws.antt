-- The rows that an opening reads off a table, volume by volume, for images of any kind, and what the table says of them.
use Rattle.std.proofs.Common.{◌≡◌, inl, inr, ℕ, suc, ◌+◌, ◌^◌, ◌<◌, ◌≤◌, Bool, true, false, cond, not, List, [], ◌∷◌, ◌++◌, length, map, filter, take, drop, get_or, Option, Some, None, refl, sym, ap, ap₂, ◌∙◌, subst, arith, length-append, append_assoc}
use Rattle.std.specs.List.{cons_option, filter_map}
use Rattle.std.specs.Ordering.{is_lt}
use Rattle.std.specs.declared.cmp.Ordering.{Ordering}
use Rattle.std.specs.declared.cmp.Ordering.TheVariants.{Less}
use Rattle.std.proofs.lemmas.Bool.{true≢false}
use Rattle.std.proofs.lemmas.List.{append-nil, map-append, take-append-drop}
use Rattle.std.proofs.lemmas.List.Elements.{filter_map-append}
use Rattle.std.proofs.lemmas.Option.{none-some, same_Some}
use Rattle.sm_base.specs.Limits.{extent_limit}
use Rattle.sm_base.specs.Kinds.{is_image}
use Rattle.sm_base.specs.Names.{IsName, name_cmp}
use Rattle.sm_base.specs.declared.names.Name.{Name}
use Rattle.sm_base.specs.declared.names.Name.TheVariants.{Mgt}
use Rattle.vg_meta.specs.Roomy.{RoomyRow, RoomyTable, rows_alone, table_alone}
use Rattle.vg_meta.specs.Tables.{Row, IsTable, IsVolume, row_of, name_eq, extents_of, extents_in}
use Rattle.vg_meta.proofs.DecodeLaws.{used-le}
use Rattle.vg_meta.proofs.NameLaws.{name_eq-true, name_eq-other, less_other}
use Rattle.vg_meta.proofs.RowLaws.{IsRising, row_of-name}
use Rattle.common_laws.specs.Lists.{In, Distinct, Sorted, insert_by}
use Rattle.common_laws.proofs.Booleans.{not_true}
use Rattle.common_laws.proofs.Lists.{In-map, In-map_at, find_none, take_next}
use Rattle.sm_machine.specs.Shapes.{ImageRow, image_extents, image_uuid}
use Rattle.sm_machine.specs.WellFormed.{name_le}
use Rattle.sm_machine.proofs.ImageNames.{before_le, names_total}
use Rattle.sm_standing.specs.Ordered.{Rising}
use Rattle.sm_standing.proofs.DisksShown.{row_of-In}
use Rattle.sm_standing.proofs.Orders.{In-filter_map, filter_map-In, rising-filter_map}
use Rattle.vhd_chain.specs.Trees.{tree_row, row_name, has_name, is_before, with_row}
use Rattle.vhd_chain.specs.declared.rows.TreeRow.{TreeRow}
use Rattle.sm_ready.specs.Known.{machine_row, row_face, tree_face}
use Rattle.sm_ready.proofs.Orders.{filled_face, fresh_face}
use Rattle.sm_ready.proofs.RowLaws.{All-In, found_in, tree_found}
use Rattle.sm_ready.proofs.RowLaws.{row_cmp, rising_rows}

-- a row was read off the volume of an image that is not new
pub record IsReadFrom (r : Row) (x : TreeRow) : Type 0 where
  pub named : row_name x ≡ r.name
  pub image : is_image r.name ≡ true
  pub filled : r.fresh ≡ false
  pub hidden : x.hidden ≡ r.hidden
  pub extents : x.extents ≡ length r.extents

-- ---- rows in rising order of name

abbrev pub tree_cmp : TreeRow → TreeRow → Ordering
tree_cmp a b = name_cmp (row_name a) (row_name b)

pub among : {A : Type 0} (xs ys : List A) (y : A) → In y (xs ++ y ∷ ys)
among [] ys y = inl refl
among (x ∷ xs) ys y = inr (among xs ys y)

rising_before : {A : Type 0} (R : A → A → Ordering) (xs ys : List A) (y : A) → Rising R (xs ++ y ∷ ys) → (x : A) → In x xs → R x y ≡ Less
rising_before R [] ys y r x none = absurd none
rising_before R (z ∷ xs) ys y r x (inl is) = subst (λ v. R v y ≡ Less) (sym is) (r.0 y (among xs ys y))
rising_before R (z ∷ xs) ys y r x (inr i) = rising_before R xs ys y r.1 x i

behind : (a b : Name) → name_cmp a b ≡ Less → is_lt (name_cmp b a) ≡ false
behind a b less = not_true (is_lt (name_cmp b a)) (before_le name_cmp names_total a b (ap is_lt less))

insert_end : (r : TreeRow) (xs : List TreeRow) → ((x : TreeRow) → In x xs → is_before r x ≡ false) → with_row r xs ≡ xs ++ r ∷ []
unfolding insert_by
insert_end r [] last = refl
insert_end r (y ∷ xs) last = ap (λ b. cond b (r ∷ y ∷ xs) (y ∷ insert_by is_before r xs)) (last y (inl refl)) ∙ ap (λ zs. y ∷ zs) (insert_end r xs (λ x i. last x (inr i)))

image_from : {B : Type 0} (key : ImageRow → B) (xs : List TreeRow) (y : B) → In y (map key (map machine_row xs)) → (x : TreeRow) × In x xs × (y ≡ key (machine_row x))
image_from key xs y i =
    let a = In-map key (map machine_row xs) y i in
    let b = In-map machine_row xs a.0 a.1 in
    (b.0, b.1, a.2 ∙ ap key b.2)

pub images_sorted : (xs : List TreeRow) → Rising tree_cmp xs → Sorted name_le (map (λ i. i.name) (map machine_row xs))
images_sorted [] r = tt
images_sorted (x ∷ xs) r = (
  (λ y i. let w = image_from (λ (z : ImageRow). z.name) xs y i in ap (λ n. not (is_lt (name_cmp n (row_name x)))) w.2 ∙ ap not (behind (row_name x) (row_name w.0) (r.0 w.0 w.1))),
  images_sorted xs r.1,
)

-- no two of other names have one UUID
pub images_distinct : (xs : List TreeRow) → Rising tree_cmp xs → ((x y : TreeRow) → In x xs → In y xs → image_uuid (row_name x) ≡ image_uuid (row_name y) → row_name x ≡ row_name y)
    → Distinct (map (λ i. image_uuid i.name) (map machine_row xs))
images_distinct [] r apart = tt
images_distinct (x ∷ xs) r apart = (
  (λ i.
      let w = image_from (λ (z : ImageRow). image_uuid z.name) xs (image_uuid (row_name x)) i in
      less_other (row_name x) (row_name w.0) (r.0 w.0 w.1) (apart x w.0 (inl refl) (inr w.1) w.2)),
  images_distinct xs r.1 (λ y z i j. apart y z (inr i) (inr j)),
)

-- ---- a volume among those of a table, as a loop comes to it

pub record IsItem (hs : List RoomyRow) (i : ℕ) (h : RoomyRow) : Type 0 where
  pub rising : IsRising (rows_alone hs)
  pub split : hs ≡ take i hs ++ h ∷ drop (i + 1) hs
  pub next : take (i + 1) hs ≡ take i hs ++ h ∷ []

pub at_item : {count : ℕ} {k kept : RoomyTable} {hs : List RoomyRow} {i : ℕ} {h : RoomyRow} → IsTable count (table_alone kept) → k ≡ kept → hs ≡ k.rows → i < length hs → h ≡ get_or hs i h → IsItem hs i h
at_item {hs = hs} {i = i} {h = h} table same is within at =
    let next = take_next hs i h within at in
    record {
      rising = subst (λ xs. IsRising (rows_alone xs)) (sym (is ∙ ap (λ (k : RoomyTable). k.rows) same)) table.volumes.rising;
      split = sym (take-append-drop (i + 1) hs) ∙ ap (λ zs. zs ++ drop (i + 1) hs) next ∙ append_assoc (take i hs) (h ∷ []) (drop (i + 1) hs);
      next = next;
    }

abbrev row_alone : RoomyRow → Row
row_alone h = h.row

item_in : {hs : List RoomyRow} {i : ℕ} {h : RoomyRow} → IsItem hs i h → In h.row (rows_alone hs)
item_in {hs} {i} {h} a = In-map_at row_alone hs h (subst (In h) (sym a.split) (among (take i hs) (drop (i + 1) hs) h))

one_within : (rs : List Row) (r : Row) → In r rs → length r.extents ≤ length (extents_in rs)
one_within [] r none = absurd none
one_within (q ∷ rs) r (inl is) = omega (arith, ap (λ (x : Row). length x.extents) is, length-append q.extents (extents_in rs))
one_within (q ∷ rs) r (inr there) = omega (arith, one_within rs r there, length-append q.extents (extents_in rs))

module _ {count : ℕ} (kept : RoomyTable) {hs : List RoomyRow} {i : ℕ} {h : RoomyRow} (table : IsTable count (table_alone kept)) (is : hs ≡ kept.rows) (a : IsItem hs i h) where
  there : In h.row (rows_alone kept.rows)
  there = subst (λ xs. In h.row (rows_alone xs)) is (item_in a)

  pub extents_few : count ≤ extent_limit → length h.row.extents < 2 ^ 32
  extents_few few = omega (arith, one_within (rows_alone kept.rows) h.row there, used-le count (rows_alone kept.rows) table.volumes, few)

  pub item_named : {x : TreeRow} → IsReadFrom h.row x → IsName (row_name x)
  item_named f = subst IsName (sym f.named) (All-In IsVolume (rows_alone kept.rows) h.row table.volumes.each there).name

-- ---- rows that are read off volumes

module _ (read : Row → Option TreeRow) (from : (r : Row) (x : TreeRow) → read r ≡ Some x → IsReadFrom r x) where
  abbrev so_far : List RoomyRow → List TreeRow
  so_far hs = filter_map read (rows_alone hs)

  so_far-append : (xs ys : List RoomyRow) → so_far (xs ++ ys) ≡ so_far xs ++ so_far ys
  so_far-append xs ys = ap (filter_map read) (map-append row_alone xs ys) ∙ filter_map-append read (rows_alone xs) (rows_alone ys)

  pub read_rising : (rs : List Row) → IsRising rs → Rising tree_cmp (filter_map read rs)
  read_rising rs rising =
      rising-filter_map row_cmp tree_cmp read (λ u v x y ux vy less. ap₂ name_cmp (from u x ux).named (from v y vy).named ∙ less) rs (rising_rows rs rising)

  -- how many
  fewer_step : (r : Row) (xs : List TreeRow) (all : List Row) (o : Option TreeRow) → read r ≡ o → length xs ≤ length all → length (cons_option o xs) ≤ length (cond (is_image r.name) (r ∷ all) all)
  fewer_step r xs all None is fewer = by (is_image r.name)
    where
      by : (b : Bool) → length xs ≤ length (cond b (r ∷ all) all)
      by true = omega (arith, fewer)
      by false = fewer
  fewer_step r xs all (Some x) is fewer = subst (λ b. suc (length xs) ≤ length (cond b (r ∷ all) all)) (sym (from r x is).image) (omega (arith, fewer))

  pub read_fewer : (rs : List Row) → length (filter_map read rs) ≤ length (filter (λ r. is_image r.name) rs)
  read_fewer [] = omega arith
  read_fewer (r ∷ rs) = fewer_step r (filter_map read rs) (filter (λ r. is_image r.name) rs) (read r) refl (read_fewer rs)

  -- a volume of another kind, or one that is new
  pub read_none : {hs : List RoomyRow} {i : ℕ} {h : RoomyRow} → IsItem hs i h → read h.row ≡ None → so_far (take (i + 1) hs) ≡ so_far (take i hs)
  read_none {hs} {i} {h} a none = ap so_far a.next ∙ so_far-append (take i hs) (h ∷ []) ∙ ap (λ o. so_far (take i hs) ++ cons_option o []) none ∙ append-nil (so_far (take i hs))

  -- an image that is not new
  module _ {hs : List RoomyRow} {i : ℕ} {h : RoomyRow} {x : TreeRow} (a : IsItem hs i h) (some : read h.row ≡ Some x) where
    all_read : so_far hs ≡ so_far (take i hs) ++ x ∷ so_far (drop (i + 1) hs)
    all_read = ap so_far a.split ∙ so_far-append (take i hs) (h ∷ drop (i + 1) hs) ∙ ap (λ o. so_far (take i hs) ++ cons_option o (so_far (drop (i + 1) hs))) some

    before_it : (y : TreeRow) → In y (so_far (take i hs)) → name_cmp (row_name y) (row_name x) ≡ Less
    before_it = rising_before tree_cmp (so_far (take i hs)) (so_far (drop (i + 1) hs)) x (subst (Rising tree_cmp) all_read (read_rising (rows_alone hs) a.rising))

    pub read_some : so_far (take (i + 1) hs) ≡ with_row x (so_far (take i hs))
    read_some =
        ap so_far a.next ∙ so_far-append (take i hs) (h ∷ []) ∙ ap (λ o. so_far (take i hs) ++ cons_option o []) some
        ∙ sym (insert_end x (so_far (take i hs)) (λ y there. behind (row_name y) (row_name x) (before_it y there)))

    pub read_absent : tree_row (so_far (take i hs)) (row_name x) ≡ None
    unfolding tree_row
    read_absent = find_none (has_name (row_name x)) (so_far (take i hs)) (λ y there. name_eq-other (row_name y) (row_name x) (less_other (row_name y) (row_name x) (before_it y there)))

    pub read_less : 1 + length (so_far (take i hs)) ≤ length (filter (λ r. is_image r.name) (rows_alone hs))
    read_less = omega (arith, ap length all_read, length-append (so_far (take i hs)) (x ∷ so_far (drop (i + 1) hs)), read_fewer (rows_alone hs))

  -- ---- the rows of a table and those in memory have the same faces

  absent : (rs : List Row) (n : Name) → ((r : Row) → In r rs → r.name ≡ n → r.fresh ≡ true) → tree_row (filter_map read rs) n ≡ None
  unfolding tree_row
  absent rs n new = find_none (has_name n) (filter_map read rs) (λ y i.
      let w = In-filter_map read rs y i in
      let f = from w.0 y w.2 in
      name_eq-other (row_name y) n (λ e. true≢false (sym (new w.0 w.1 (sym f.named ∙ e)) ∙ f.filled)))

  -- where each image that is not new was read
  pub faces_same : (rs : List Row) → IsRising rs → ((r : Row) → In r rs → is_image r.name ≡ true → r.fresh ≡ false → (x : TreeRow) × (read r ≡ Some x))
      → Distinct (map (λ i. image_uuid i.name) (map machine_row (filter_map read rs))) → (n : Name) → is_image n ≡ true → row_face (row_of rs n) ≡ tree_face (tree_row (filter_map read rs) n)
  faces_same rs rising all apart n image = by (row_of rs n) refl
    where
      at : (r : Row) → In r rs → r.name ≡ n → row_of rs n ≡ Some r
      at r i e = ap (row_of rs) (sym e) ∙ found_in rs rising r i

      of : (r : Row) → row_of rs n ≡ Some r → (b : Bool) → r.fresh ≡ b → row_face (Some r) ≡ tree_face (tree_row (filter_map read rs) n)
      of r is true new = fresh_face r new ∙ sym (ap tree_face (absent rs n (λ q i e. ap (λ (x : Row). x.fresh) (same_Some q r (sym (at q i e) ∙ is)) ∙ new)))
      of r is false filled =
          let named = row_of-name rs n r is in
          let i = (row_of-In rs n r is).0 in
          let w = all r i (ap is_image named ∙ image) filled in
          let f = from r w.0 w.1 in
          let found = tree_found (filter_map read rs) w.0 apart (filter_map-In read rs r w.0 i w.1) in
          filled_face r filled
          ∙ ap₂ (λ h e. Some (record { hidden = h; extents = e })) (sym f.hidden) (sym f.extents)
          ∙ ap tree_face (sym found ∙ ap (tree_row (filter_map read rs)) (f.named ∙ named))

      by : (o : Option Row) → row_of rs n ≡ o → row_face o ≡ tree_face (tree_row (filter_map read rs) n)
      by None is = sym (ap tree_face (absent rs n (λ r i e. absurd (none-some r (sym is ∙ at r i e)))))
      by (Some r) is = of r is r.fresh refl
