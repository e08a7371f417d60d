-- The images in memory, once all were read, are what the checks look at.
use Rattle.std.proofs.Common.{◌≡◌, ℕ, Bool, true, false, List, Option, Some, None, length, filter, refl, sym, ap, ◌∙◌, subst}
use Rattle.std.proofs.lemmas.Bool.{true≢false}
use Rattle.std.proofs.lemmas.Option.{none-some, same_Some}
use Rattle.sm_machine.specs.WellFormed.{is_image_name}
use Rattle.sm_base.specs.declared.faults.Place.TheVariants as at
use Rattle.sm_base.specs.declared.names.Name.{Name}
use Rattle.sm_base.specs.declared.names.Name.TheVariants.{Mgt, Vhd, Raw, Old, Cbt, Clone, Inflate, Coalesce, Relink, Leaf}
use Rattle.vg_meta.specs.Tables.{Row, VolumeTable, name_eq, rows}
use Rattle.vg_meta.proofs.RowLaws.{row_of-name}
use Rattle.vg_volumes.specs.declared.stores.Store.{Ghosts}
use Rattle.common_laws.specs.Lists.{In}
use Rattle.sm_machine.specs.Shapes.{same_image}
use Rattle.sm_standing.specs.Checks.{children, invalid_fault, is_invalid, parent_is}
use Rattle.sm_standing.specs.Contents.{Content}
use Rattle.sm_standing.specs.Images.{image_of}
use Rattle.sm_standing.specs.Outlines.{Outline, link_of, outline}
use Rattle.sm_standing.proofs.DisksShown.{row_of-In}
use Rattle.sm_standing.proofs.FaultLaws.{none_named}
use Rattle.sm_standing.proofs.Orders.{In-filter_map}
use Rattle.vhd_chain.specs.Trees.{children as children_in, is_child_of, row_name, tree_row}
use Rattle.vhd_chain.specs.declared.rows.TreeRow.{TreeRow}
use Rattle.sm_ready.specs.Outlined.{link_in}
use Rattle.sm_ready.specs.Stores.{content_now}
use Rattle.sm_ready.proofs.LeftLaws.{new_raw, new_vhd, none_of_raw, none_of_vhd}
use Rattle.sm_ready.proofs.Orders.{In-tree_row}
use Rattle.sm_checks.specs.Faults.{HasChildren, HasLinks, HasTable, HasVolumes}
use Rattle.sm_checks.specs.Loaded.{AreRowsOf, HasEachRow, IsFilledImage, as_read, read_volumes, row_among, shortened, stored_with}
use Rattle.sm_standing.specs.Entries.{making}
use Rattle.common_laws.proofs.Lists.{In-map, In-map_at}
use Rattle.sm_checks.proofs.EntryLaws.{IsStaged}
use Rattle.sm_checks.proofs.TableLaws.{found_read, short_sized}
use Rattle.sm_checks.proofs.FoundLaws.{image_short, invalid_as_read, link_read, skipped, valid_read}
use Rattle.sm_checks.proofs.LoadedLaws.{among_is, among_of, named_data, none_among, read_from, read_row}
use Rattle.sm_checks.proofs.TreeLaws.{child_seen, count_through, named_raw, named_vhd}
use Rattle.sm_ready.proofs.RowLaws.{found_in}

module _ {S : Type 0} (g : Ghosts S) (store : S) {t : VolumeTable} (c : IsStaged (g.site store) t) (xs : List TreeRow) (each : HasEachRow g.told (stored_with g store (shortened t)) (read_volumes t) xs) where
  -- a volume as it is read
  abbrev seen : Row → Row
  seen r = as_read (making t) r

  seen_in : (r : Row) → In r t.volumes → In (seen r) (read_volumes t)
  seen_in r i = In-map_at seen t.volumes r i

  -- each image is valid
  pub all_valid : (x : Outline) → HasTable (g.site store).geometry t x → HasLinks xs x → invalid_fault x ≡ None
  unfolding invalid_fault
  all_valid x has links = none_named at.Image (is_invalid x) x.table.volumes (λ r i. valid r (subst (λ (u : VolumeTable). In r u.volumes) has.table i))
    where
      valid : (r : Row) → In r t.volumes → is_invalid x r ≡ false
      valid r i = by (is_image_name r.name) r.fresh refl refl
        where
          by : (k f : Bool) → is_image_name r.name ≡ k → r.fresh ≡ f → is_invalid x r ≡ false
          by true false image fresh =
              let w = each (seen r) (seen_in r i) (record { image = image; filled = fresh }) in
              sym (invalid_as_read (making t) x r) ∙ valid_read g.told (g.site store) (shortened t) (g.area store) (seen r) has w.0.image w.2.image (links r.name ∙ ap link_in w.1)
          by false f image fresh = skipped x r (λ w. true≢false (sym w.image ∙ image))
          by true true image fresh = skipped x r (λ w. true≢false (sym fresh ∙ w.filled))

  -- a volume that is none of an image that is not new has no row
  unfound : AreRowsOf (read_volumes t) xs → (r : Row) → In r t.volumes → (IsFilledImage r → ⊥) → tree_row xs r.name ≡ None
  unfound are r i none = by (tree_row xs r.name) refl
    where
      by : (o : Option TreeRow) → tree_row xs r.name ≡ o → o ≡ None
      by None is = refl
      by (Some y) is =
          let v = In-tree_row xs r.name y is in
          let w = In-filter_map (row_among xs) (read_volumes t) y (subst (In y) are v.0) in
          let f = (among_of xs w.0 y w.2).filled in
          let q = In-map seen t.volumes w.0 w.1 in
          let named : q.0.name ≡ r.name = sym (ap (λ (z : Row). z.name) q.2) ∙ sym (read_from xs w.0 y w.2).named ∙ v.1 in
          let same = same_Some q.0 r (sym (found_in t.volumes c.table.volumes.rising q.0 q.1) ∙ ap (rows t) named ∙ found_in t.volumes c.table.volumes.rising r i) in
          let filled : IsFilledImage (seen q.0) = subst IsFilledImage q.2 f in
          absurd (none (subst IsFilledImage same (record { image = filled.image; filled = filled.filled })))

  -- the children of an image are as many as in memory
  counted : (p : Name) → ((q : Name) → same_image q p ≡ name_eq q p) → AreRowsOf (read_volumes t) xs → (x : Outline) → x.table ≡ t → HasLinks xs x → length (children x p) ≡ length (children_in xs p)
  unfolding children
  counted p named are x is links =
      ap (λ (v : VolumeTable). length (filter (λ r. parent_is p (x.links r.name)) v.volumes)) is
      ∙ count_through seen (row_among xs) (λ r. parent_is p (x.links r.name)) (is_child_of p) t.volumes (λ r i. one r i)
      ∙ ap (λ ys. length (filter (is_child_of p) ys)) (sym are)
    where
      one : (r : Row) → In r t.volumes → parent_is p (x.links r.name) ≡ elim (row_among xs (seen r)) as (λ _. Bool) [ None ↦ false | Some y ↦ is_child_of p y ]
      one r i = ap (parent_is p) (links r.name) ∙ by (is_image_name r.name) r.fresh refl refl
        where
          not_filled : (IsFilledImage r → ⊥) → parent_is p (link_in (tree_row xs r.name)) ≡ elim (row_among xs (seen r)) as (λ _. Bool) [ None ↦ false | Some y ↦ is_child_of p y ]
          not_filled none =
              ap (λ o. parent_is p (link_in o)) (unfound are r i none)
              ∙ sym (ap (λ o. elim o as (λ _. Bool) [ None ↦ false | Some y ↦ is_child_of p y ]) (none_among xs (seen r) (λ f. none (record { image = f.image; filled = f.filled }))))

          by : (k f : Bool) → is_image_name r.name ≡ k → r.fresh ≡ f → parent_is p (link_in (tree_row xs r.name)) ≡ elim (row_among xs (seen r)) as (λ _. Bool) [ None ↦ false | Some y ↦ is_child_of p y ]
          by false f image fresh = not_filled (λ w. true≢false (sym w.image ∙ image))
          by true true image fresh = not_filled (λ w. true≢false (sym fresh ∙ w.filled))
          by true false image fresh =
              child_seen p named (tree_row xs r.name) (λ y. record { image = y.image; hidden = r.hidden; extents = length (seen r).extents }) (λ y. refl)
              ∙ sym (ap (λ o. elim o as (λ _. Bool) [ None ↦ false | Some y ↦ is_child_of p y ]) (among_is xs (seen r) (record { image = image; filled = fresh })))

  pub children_counted : AreRowsOf (read_volumes t) xs → (x : Outline) → x.table ≡ t → HasLinks xs x → HasChildren xs x
  children_counted are x is links = record {
    vhd = λ u. counted (Vhd u) (λ q. named_vhd q u) are x is links;
    raw = λ u. counted (Raw u) (λ q. named_raw q u) are x is links;
  }

  -- and each of them is that of a volume
  pub volumes_seen : AreRowsOf (read_volumes t) xs → (x : Outline) → x.table ≡ t → HasVolumes xs x
  volumes_seen are x is y i =
      let w = read_row are each y i in
      let q = In-map seen t.volumes w.volume w.there in
      let named : q.0.name ≡ row_name y = sym (ap (λ (z : Row). z.name) q.2) ∙ sym w.row.named in (
        q.0,
        subst (λ (v : VolumeTable). In q.0 v.volumes) (sym is) q.1,
        named,
        ap (λ n. link_in (tree_row xs n)) w.row.named ∙ ap link_in w.at ∙ ap (λ b. link_in (Some (record { image = b; hidden = y.hidden; extents = y.extents }))) w.same,
      )

  module _ (are : AreRowsOf (read_volumes t) xs) (told : g.told) where
    abbrev now : Content
    now = content_now (g.site store) t (g.area store)

    some_link : (n : Name) (y : TreeRow) → tree_row xs n ≡ Some y → link_of (image_of now n) ≡ link_in (tree_row xs n)
    some_link n y is =
        let v = In-tree_row xs n y is in
        let w = In-filter_map (row_among xs) (read_volumes t) y (subst (In y) are v.0) in
        let r = w.0 in
        let filled = (among_of xs r y w.2).filled in
        let e = each r w.1 filled in
        subst (λ m. link_of (image_of now m) ≡ link_in (tree_row xs m)) (sym (read_from xs r y w.2).named ∙ v.1)
        (ap link_of (sym (image_short (g.site store) t (g.area store) c r.name))
        ∙ link_read g.told (g.site store) (shortened t) (g.area store) r e.0.image (short_sized c) (found_read c r w.1 (named_data r.name filled.image)) filled.filled e.2.image told ∙ sym (ap link_in e.1))

    filled_none : (n : Name) (r : Row) → is_image_name n ≡ true → rows t n ≡ Some r → r.fresh ≡ false → tree_row xs n ≡ None → ⊥
    filled_none n r image there filled none =
        let named = row_of-name t.volumes n r there in
        let w = each (seen r) (seen_in r (row_of-In t.volumes n r there).0) (record { image = ap is_image_name named ∙ image; filled = filled }) in
        none-some w.0 (sym none ∙ ap (tree_row xs) (sym named) ∙ w.1)

    no_vhd : (u : List ℕ) (o : Option Row) → rows t (Vhd u) ≡ o → tree_row xs (Vhd u) ≡ None → image_of now (Vhd u) ≡ None
    unfolding is_image_name
    no_vhd u None there none = none_of_vhd now u there
    no_vhd u (Some r) there none = by r.fresh refl
      where
        by : (f : Bool) → r.fresh ≡ f → image_of now (Vhd u) ≡ None
        by true new = new_vhd now u r there new
        by false filled = absurd (filled_none (Vhd u) r refl there filled none)

    no_raw : (u : List ℕ) (o : Option Row) → rows t (Raw u) ≡ o → tree_row xs (Raw u) ≡ None → image_of now (Raw u) ≡ None
    unfolding is_image_name
    no_raw u None there none = none_of_raw now u there
    no_raw u (Some r) there none = by r.fresh refl
      where
        by : (f : Bool) → r.fresh ≡ f → image_of now (Raw u) ≡ None
        by true new = new_raw now u r there new
        by false filled = absurd (filled_none (Raw u) r refl there filled none)

    no_image : (n : Name) → tree_row xs n ≡ None → image_of now n ≡ None
    unfolding image_of
    no_image (Vhd u) none = no_vhd u (rows t (Vhd u)) refl none
    no_image (Raw u) none = no_raw u (rows t (Raw u)) refl none
    no_image Mgt none = refl
    no_image (Old u) none = refl
    no_image (Cbt u) none = refl
    no_image (Clone d b w) none = refl
    no_image (Inflate u e) none = refl
    no_image (Coalesce a p) none = refl
    no_image (Relink a p) none = refl
    no_image (Leaf l p) none = refl

    -- the content shows the links that are in memory
    pub links_now : HasLinks xs (outline now)
    links_now n = by (tree_row xs n) refl
      where
        by : (o : Option TreeRow) → tree_row xs n ≡ o → link_of (image_of now n) ≡ link_in (tree_row xs n)
        by None is = ap link_of (no_image n is) ∙ sym (ap link_in is)
        by (Some y) is = some_link n y is
