-- A row that was taken out of the tree, changed and put back stands in its place.
use Rattle.std.specs.Prelude.{IfSome}
use Rattle.std.proofs.lemmas.Option.{none-some, same_Some}
use Rattle.std.proofs.Common.{ap₂, ◌||◌, ◌⊎◌, ℕ, ◌+◌, Option, Some, None, arith, ◌≡◌, ◌≢◌, inl, inr, ⊎_elim, not, Bool, true, false, cond, List, [], ◌∷◌, map, refl, sym, ap, ◌∙◌, subst}
use Rattle.std.proofs.Math.Logic.{∥∥₁_elim}
use Rattle.std.proofs.Props.{props}
use Rattle.std.proofs.lemmas.Bool.{true≢false}
use Rattle.std.specs.List.{filter, list_any}
use Rattle.std.specs.declared.cmp.Ordering.{Ordering}
use Rattle.common_laws.specs.Lists.{In, when}
use Rattle.common_laws.proofs.Lists.{In-map, In-map_at, In-filter, filter-In}
use Rattle.sm_base.specs.Names.{IsName, name_cmp}
use Rattle.vg_meta.specs.Tables.{VolumeTable, IsVolume, name_eq}
use Rattle.vg_meta.proofs.NameLaws.{name_eq-true, name_eq-false, name_eq-same, name_eq-other}
use Rattle.vg_meta.proofs.RowLaws.{All-row_of, row_of-name}
use Rattle.sm_base.proofs.OrderLemmas.{name_cmp-same, name_cmp_total}
use Rattle.sm_ready.proofs.Orders.{named_row}
use Rattle.sm_ready.proofs.RowLaws.{image_named, volume_there}
use Rattle.sm_ready.proofs.TruthLaws.{row_found}
use Rattle.vg_volumes.specs.Sites.{Site}
use Rattle.vhd_chain.specs.Trees.{tree_row, row_name, has_name, with_row, with_replaced, without}
use Rattle.vhd_chain.specs.declared.rows.TreeRow.{TreeRow}
use Rattle.sm_machine.specs.Shapes.{ImageRow}
use Rattle.sm_machine.specs.WellFormed.{IsWellFormed}
use Rattle.sm_standing.specs.Ordered.{Rising}
use Rattle.std.specs.Cmp.{IsTotalOrder}
use Rattle.sm_standing.proofs.Orders.{rising_ext, rising-insert, In-insert, new-insert, old-insert}
use Rattle.vhd_chain.proofs.ByName.{tree_row-replaced_other, tree_row-replaced_same}
use Rattle.sm_base.specs.declared.names.Name.{Name}
use Rattle.sm_ready.specs.Known.{Face, tree_face, Known, machine_row, shape_in}
use Rattle.sm_ready.specs.Orderly.{IsOrderly}
use Rattle.sm_ready.proofs.ShapeLaws.{image_cmp, rising_images}

any_alike : {A : Type 0} (test : A → Bool) (f : A → A) (xs : List A) → ((x : A) → In x xs → test (f x) ≡ test x) → list_any test (map f xs) ≡ list_any test xs
any_alike test f [] same = refl
any_alike test f (x ∷ xs) same = ap₂ (λ a b. a || b) (same x (inl refl)) (any_alike test f xs (λ y i. same y (inr i)))

map_alike : {A B : Type 0} (k : A → B) (f : A → A) (g : B → B) (xs : List A) → ((x : A) → In x xs → k (f x) ≡ g (k x)) → map k (map f xs) ≡ map g (map k xs)
map_alike k f g [] same = refl
map_alike k f g (x ∷ xs) same = ap₂ (λ y ys. y ∷ ys) (same x (inl refl)) (map_alike k f g xs (λ y i. same y (inr i)))

abbrev row_cmp : TreeRow → TreeRow → Ordering
row_cmp a b = name_cmp (row_name a) (row_name b)

row_total : IsTotalOrder row_cmp
row_total = record {
  antisymm = λ x y. name_cmp_total.antisymm (row_name x) (row_name y);
  trans = λ x y z. name_cmp_total.trans (row_name x) (row_name y) (row_name z);
  congr = λ x y z. name_cmp_total.congr (row_name x) (row_name y) (row_name z);
}

rows_rising : (rs : List TreeRow) → Rising image_cmp (map machine_row rs) → Rising row_cmp rs
rows_rising [] h = tt
rows_rising (r ∷ rs) h = (λ y i. h.0 (machine_row y) (In-map_at machine_row rs y i), rows_rising rs h.1)

rising_kept : (keep : TreeRow → Bool) (rs : List TreeRow) → Rising row_cmp rs → Rising row_cmp (filter keep rs)
rising_kept keep [] h = tt
rising_kept keep (r ∷ rs) h = by (rising_kept keep rs h.1) (keep r)
  where
    by : Rising row_cmp (filter keep rs) → (b : Bool) → Rising row_cmp (cond b (r ∷ filter keep rs) (filter keep rs))
    by rest true = (λ x i. h.0 x (In-filter keep rs x i).0, rest)
    by rest false = rest

rising_named : (g : TreeRow → TreeRow) (rs : List TreeRow) → ((r : TreeRow) → In r rs → row_name (g r) ≡ row_name r) → Rising row_cmp rs → Rising row_cmp (map g rs)
rising_named g [] same h = tt
rising_named g (r ∷ rs) same h = (
  λ x i. (let w = In-map g rs x i in
      ap (name_cmp (row_name (g r))) (ap row_name w.2 ∙ same w.0 (inr w.1)) ∙ ap (λ n. name_cmp n (row_name w.0)) (same r (inl refl)) ∙ h.0 w.0 w.1),
  rising_named g rs (λ y i. same y (inr i)) h.1,
)

module _ (s : Site) (t : VolumeTable) (m : Known) (o : IsOrderly s t m) where
  pub row_proper : (r : TreeRow) → In r m.rows → IsName (row_name r)
  row_proper r i =
      let v = volume_there s t m r o (image_named (row_name r) (named_row s t m r o i)) (row_found s t m o r i) in
      subst IsName (row_of-name t.volumes (row_name r) v.row v.there) (All-row_of IsVolume t.volumes (row_name r) v.row o.table.volumes.each v.there).name

  rising : IsWellFormed (shape_in s t m) → Rising row_cmp m.rows
  unfolding shape_in
  rising w = rows_rising m.rows (rising_images (map machine_row m.rows) (λ x i. let y = In-map machine_row m.rows x i in subst IsName (sym (ap (λ (z : ImageRow). z.name) y.2)) (row_proper y.0 y.1)) w.images_in_order w.one_image)

  module _ (r q : TreeRow) (there : In r m.rows) (named : row_name q ≡ row_name r) where
    rest : List TreeRow
    rest = without (row_name r) m.rows

    of_rest : (y : TreeRow) → In y (without (row_name r) m.rows) → In y m.rows × (row_name y ≢ row_name r)
    of_rest y i =
        let w = In-filter (λ x. not (has_name (row_name r) x)) m.rows y i in
        (w.0, λ same. true≢false (sym w.1 ∙ ap not (name_eq-same (row_name y) (row_name r) same)))

    mine : (y : TreeRow) → row_name y ≡ row_name r → when (has_name (row_name q) y) (λ _. q) y ≡ q
    mine y same = ap (λ b. when b (λ _. q) y) (name_eq-same (row_name y) (row_name q) (same ∙ sym named))

    other : (y : TreeRow) → row_name y ≢ row_name r → when (has_name (row_name q) y) (λ _. q) y ≡ y
    other y apart = ap (λ b. when b (λ _. q) y) (name_eq-other (row_name y) (row_name q) (λ same. apart (same ∙ named)))

    by_name : {P : Type 0} (y : TreeRow) → (row_name y ≡ row_name r → P) → (row_name y ≢ row_name r → P) → P
    by_name {P} y at_it away = by (name_eq (row_name y) (row_name r)) refl
      where
        by : (b : Bool) → name_eq (row_name y) (row_name r) ≡ b → P
        by true is = at_it (name_eq-true (row_name y) (row_name r) is)
        by false is = away (name_eq-false (row_name y) (row_name r) is)

    into : (y : TreeRow) → In y (with_row q (without (row_name r) m.rows)) → In y (with_replaced q m.rows)
    into y i = ⊎_elim
        (λ is. subst (λ x. In x (with_replaced q m.rows)) (mine r refl ∙ sym is) (In-map_at (λ x. when (has_name (row_name q) x) (λ _. q) x) m.rows r there))
        (λ old. let w = of_rest y old in subst (λ x. In x (with_replaced q m.rows)) (other y w.1) (In-map_at (λ x. when (has_name (row_name q) x) (λ _. q) x) m.rows y w.0))
        (In-insert row_cmp row_total q y (without (row_name r) m.rows) i)

    back : (y : TreeRow) → In y (with_replaced q m.rows) → In y (with_row q (without (row_name r) m.rows))
    back y i =
        let w = In-map (λ x. when (has_name (row_name q) x) (λ _. q) x) m.rows y i in
        by_name w.0
        (λ same. subst (λ x. In x (with_row q (without (row_name r) m.rows))) (sym (w.2 ∙ mine w.0 same)) (new-insert row_cmp row_total q (without (row_name r) m.rows)))
        (λ apart. subst (λ x. In x (with_row q (without (row_name r) m.rows))) (sym (w.2 ∙ other w.0 apart))
        (old-insert row_cmp row_total q w.0 (without (row_name r) m.rows) (filter-In (λ x. not (has_name (row_name r) x)) m.rows w.0 w.1 (ap not (name_eq-other (row_name w.0) (row_name r) apart)))))

    pub put_back : with_row q (without (row_name r) m.rows) ≡ with_replaced q m.rows
    put_back = ∥∥₁_elim o.well_formed (hlevel props) (λ w.
        rising_ext row_cmp row_total (with_row q (without (row_name r) m.rows)) (with_replaced q m.rows)
        (rising-insert row_cmp row_total q (without (row_name r) m.rows)
        (λ y i same. (let f = of_rest y i in f.1 (sym (name_cmp-same (row_name q) (row_name y) (subst IsName (sym named) (row_proper r there)) (row_proper y f.0) same) ∙ named)))
        (rising_kept (λ x. not (has_name (row_name r) x)) m.rows (rising w)))
        (rising_named (λ x. when (has_name (row_name q) x) (λ _. q) x) m.rows (λ x i. by_name x (λ same. ap row_name (mine x same) ∙ named ∙ sym same) (λ apart. ap row_name (other x apart))) (rising w))
        into back)

    -- a row of it is one from before of another name, or the new one
    pub of_rows : (x : TreeRow) → In x (with_replaced q m.rows) → (In x m.rows × (row_name x ≢ row_name r)) ⊎ (x ≡ q)
    of_rows x i = let w = In-map (λ p. when (has_name (row_name q) p) (λ _. q) p) m.rows x i in by_name w.0
        (λ same. inr (w.2 ∙ mine w.0 same))
        (λ apart. (let at = w.2 ∙ other w.0 apart in inl (subst (λ y. In y m.rows) (sym at) w.1, λ same. apart (ap row_name (sym at) ∙ same))))

    -- what stands in the place of a row
    unfoldable pub on_row : TreeRow → TreeRow
    on_row p = when (has_name (row_name q) p) (λ _. q) p

    -- the new row stands in place of the one of its name, each other in its own
    pub by_row : (P : TreeRow → TreeRow → Type 0) → P r q → ((p : TreeRow) → In p m.rows → row_name p ≢ row_name r → P p p) → (p : TreeRow) → In p m.rows → P p (on_row p)
    unfolding on_row
    by_row P new old p i = by_name p
        (λ same. subst (P p) (sym (mine p same)) (subst (λ x. P x q) (same_Some r p (sym (row_found s t m o r there) ∙ ap (tree_row m.rows) (sym same) ∙ row_found s t m o p i)) new))
        (λ apart. subst (P p) (sym (other p apart)) (old p i apart))

    -- what a list of all rows says of each
    pub any_replaced : (test : TreeRow → Bool) → test q ≡ test r → list_any test (with_replaced q m.rows) ≡ list_any test m.rows
    unfolding on_row
    any_replaced test same = any_alike test on_row m.rows (by_row (λ x y. test y ≡ test x) same (λ p i apart. refl))

    pub map_replaced : {B : Type 0} (k : TreeRow → B) (f : B → B) → k q ≡ f (k r) → ((p : TreeRow) → In p m.rows → row_name p ≢ row_name r → k p ≡ f (k p)) → map k (with_replaced q m.rows) ≡ map f (map k m.rows)
    unfolding on_row
    map_replaced k f new old = map_alike k on_row f m.rows (by_row (λ x y. k y ≡ f (k x)) new old)

    -- whether an image is hidden, and how many extents it has
    pub face_replaced : q.hidden ≡ r.hidden → q.extents ≡ r.extents → (n : Name) → tree_face (tree_row (with_replaced q m.rows) n) ≡ tree_face (tree_row m.rows n)
    face_replaced hidden extents n = by (name_eq (row_name q) n) refl
      where
        by : (b : Bool) → name_eq (row_name q) n ≡ b → tree_face (tree_row (with_replaced q m.rows) n) ≡ tree_face (tree_row m.rows n)
        by true is =
            let at = name_eq-true (row_name q) n is in
            let was = ap (tree_row m.rows) named ∙ row_found s t m o r there in
            ap (λ x. tree_face (tree_row (with_replaced q m.rows) x)) (sym at) ∙ ap tree_face (tree_row-replaced_same m.rows q r was)
            ∙ ap₂ (λ (b : Bool) (k : ℕ). let x : Face = record { hidden = b; extents = k } in Some x) hidden extents
            ∙ sym (ap tree_face (sym (ap (tree_row m.rows) at) ∙ was))
        by false is = ap tree_face (tree_row-replaced_other m.rows q n (name_eq-false (row_name q) n is))

-- the room of a row that was taken out and put back
pub spared : {x : Option TreeRow} {r : TreeRow} {was taken now : ℕ} → IfSome x (λ _. taken ≡ was + 1) → x ≡ Some r → now + 1 ≡ taken → now ≡ was
spared {x} {r} {was} {taken} {now} some is back = by x is some
  where
    by : (y : Option TreeRow) → y ≡ Some r → IfSome y (λ _. taken ≡ was + 1) → now ≡ was
    by None e h = absurd (none-some r e)
    by (Some q) e h = omega (arith, h, back)
