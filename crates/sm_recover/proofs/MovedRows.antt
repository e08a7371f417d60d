-- Memory where one image goes on under a name, shown: what the rows are beside the table in which its volume has that name.
use Rattle.std.proofs.Common.{◌≡◌, ◌≢◌, ◌⊎◌, inl, inr, ⊎_elim, ℕ, ◌*◌, ◌&&◌, not, true, false, cond, List, length, Some, None, refl, sym, ap, ap₂, ◌∙◌, subst}
use Rattle.std.specs.List.{filter_map}
use Rattle.std.proofs.lemmas.Option.{none-some, same_Some}
use Rattle.sm_base.specs.Names.{IsName}
use Rattle.sm_base.specs.declared.names.Name.{Name}
use Rattle.sm_base.specs.declared.names.Name.TheVariants.{Vhd}
use Rattle.sm_base.proofs.OrderLemmas.{name_cmp-same}
use Rattle.sm_machine.specs.WellFormed.{is_image_name}
use Rattle.vg_meta.specs.Tables.{Row, VolumeTable, extents_of, rows}
use Rattle.vg_meta.proofs.RowLaws.{IsRising, row_of-name}
use Rattle.vg_volumes.specs.Volumes.{volume}
use Rattle.vg_volumes.specs.declared.stores.Store.{Ghosts}
use Rattle.common_laws.specs.Lists.{In}
use Rattle.sm_standing.specs.Ordered.{Rising}
use Rattle.sm_standing.specs.Outlines.{Link}
use Rattle.sm_standing.proofs.Orders.{In-filter_map, filter_map-In, In-insert, new-insert, old-insert, rising-insert, rising_ext}
use Rattle.vhd_chain.specs.Trees.{has_name, row_name, tree_row, with_row, without}
use Rattle.vhd_chain.specs.declared.rows.TreeRow.{TreeRow}
use Rattle.vhd_chain.proofs.ByName.{tree_row-with_other, tree_row-with_same, tree_row-without_other, tree_row-without_same}
use Rattle.sm_ready.specs.Outlined.{link_in}
use Rattle.sm_ready.proofs.LoadLaws.{read_rising, tree_cmp}
use Rattle.sm_recover.specs.Backs.{base_back, row_back}
use Rattle.sm_checks.specs.Loaded.{AreRowsOf, HasEachRow, IsReadAs, IsRow, row_among, row_with, stored_with}
use Rattle.sm_recover.proofs.ForkedMemory.{named_in, parent_in_volume, read_renamed, row_moved, sized_in}
use Rattle.sm_checks.proofs.LoadedLaws.{among_is, among_of, read_from}
use Rattle.sm_recover.proofs.RowsLaws.{in_without, rising_kept, row_total, without_in}
use Rattle.sm_recover.proofs.UndoneLaws.{decide}

-- two lists of volumes that are found by name in two tables
pub record AreFound (t : VolumeTable) (rs : List Row) : Type 0 where
  pub found : (r : Row) → In r rs → is_image_name r.name ≡ true → rows t r.name ≡ Some r
  pub listed : (n : Name) (r : Row) → is_image_name n ≡ true → rows t n ≡ Some r → In r rs
  pub rising : IsRising rs
  pub named : (n : Name) (r : Row) → is_image_name n ≡ true → rows t n ≡ Some r → IsName n

-- b is a, but that the image of one name goes on under another, or under the same, and is shown
pub record IsMoved (a b : VolumeTable) (from to : Name) (own : Row) : Type 0 where
  pub there : rows a from ≡ Some own
  pub filled : own.fresh ≡ false
  pub now : rows b to ≡ Some (record { name = to; hidden = false; fresh = false; extents = own.extents })
  pub gone : from ≢ to → rows b from ≡ None
  pub others : (n : Name) → is_image_name n ≡ true → n ≢ from → n ≢ to → rows b n ≡ rows a n

module _ {S : Type 0} (g : Ghosts S) (store : S) (xs : List TreeRow) {a b : VolumeTable} {vs ws : List Row} (in_a : AreFound a vs) (in_b : AreFound b ws) (f u : List ℕ) (own : Row) (k : IsMoved a b (Vhd f) (Vhd u) own)
    (are : AreRowsOf vs xs) (each : HasEachRow g.told (stored_with g store a) vs xs) (free : Vhd f ≢ Vhd u → tree_row xs (Vhd u) ≡ None) where
  abbrev from : Name
  from = Vhd f

  abbrev to : Name
  to = Vhd u

  vhd_image : (v : List ℕ) → is_image_name (Vhd v) ≡ true
  unfolding is_image_name
  vhd_image v = refl

  own_name : own.name ≡ from
  own_name = row_of-name a.volumes from own k.there

  pub own_read : (y : TreeRow) × (tree_row xs own.name ≡ Some y) × IsRow g.told (stored_with g store a) own y
  own_read = each own (in_a.listed from own (vhd_image f) k.there) (record { image = ap is_image_name own_name ∙ vhd_image f; filled = k.filled })

  abbrev y₀ : TreeRow
  y₀ = own_read.0

  y₀_at : tree_row xs from ≡ Some y₀
  y₀_at = ap (tree_row xs) (sym own_name) ∙ own_read.1

  abbrev zs : List TreeRow
  zs = without from xs

  abbrev new : TreeRow
  new = row_back to y₀

  abbrev ys : List TreeRow
  ys = with_row new zs

  pub rows_are : base_back from to xs ≡ ys
  rows_are = ap (λ o. elim o as (λ _. List TreeRow) [ None ↦ xs | Some y ↦ with_row (row_back to y) (without from xs) ]) y₀_at

  new_name : row_name new ≡ to
  new_name = named_in to y₀.image

  free_now : tree_row zs to ≡ None
  free_now = by (decide from to)
    where
      by : (from ≡ to) ⊎ (from ≢ to) → tree_row zs to ≡ None
      by (inl is) = ap (tree_row zs) (sym is) ∙ tree_row-without_same xs from
      by (inr other) = tree_row-without_other xs from to other ∙ free other

  pub at_new : tree_row ys to ≡ Some new
  at_new = ap (tree_row ys) (sym new_name) ∙ tree_row-with_same zs new (ap (tree_row zs) new_name ∙ free_now)

  pub at_other : (n : Name) → n ≢ from → n ≢ to → tree_row ys n ≡ tree_row xs n
  at_other n h j = tree_row-with_other zs new n (λ is. j (sym is ∙ new_name)) ∙ tree_row-without_other xs from n (λ is. h (sym is))

  pub at_gone : from ≢ to → tree_row ys from ≡ None
  at_gone other = tree_row-with_other zs new from (λ is. other (sym is ∙ new_name)) ∙ tree_row-without_same xs from

  pub link_new : link_in (tree_row ys to) ≡ link_in (tree_row xs from)
  link_new =
      ap link_in at_new ∙ ap₂ (λ n p. let l : Link = record { size = n; parent = p } in Some l) (sized_in to y₀.image) (parent_in_volume to y₀.image) ∙ sym (ap link_in y₀_at)

  -- ---- the rows are those of the volumes

  abbrev back : Row
  back = record { name = to; hidden = false; fresh = false; extents = own.extents }

  among_new : row_among ys back ≡ Some new
  among_new =
      among_is ys back (record { image = vhd_image u; filled = refl }) ∙ ap (row_with back) at_new
      ∙ ap (λ n. let z : TreeRow = record { image = new.image; hidden = false; extents = n } in Some z) (sym own_read.2.extents)

  among_other : (r : Row) → r.name ≢ from → r.name ≢ to → row_among ys r ≡ row_among xs r
  among_other r h j = ap (λ o. cond (is_image_name r.name && not r.fresh) (row_with r o) None) (at_other r.name h j)

  -- a row of a volume
  record IsOf (z : TreeRow) : Type 0 where
    row : Row
    there : In row vs
    among : row_among xs row ≡ Some z
    named : row_name z ≡ row.name
    image : is_image_name row.name ≡ true

  is_of : (z : TreeRow) → In z xs → IsOf z
  is_of z i =
      let q = In-filter_map (row_among xs) vs z (subst (In z) are i) in
      record { row = q.0; there = q.1; among = q.2; named = (read_from xs q.0 z q.2).named; image = (among_of xs q.0 z q.2).filled.image }

  row_named : (z : TreeRow) → In z xs → IsName (row_name z)
  row_named z i = let q = is_of z i in subst IsName (sym q.named) (in_a.named q.row.name q.row q.image (in_a.found q.row q.there q.image))

  not_to : (z : TreeRow) → In z zs → row_name z ≢ to
  not_to z i is = by (decide from to)
    where
      v : In z xs × (row_name z ≢ from)
      v = in_without from xs z i

      by : (from ≡ to) ⊎ (from ≢ to) → ⊥
      by (inl same) = v.1 (is ∙ sym same)
      by (inr other) =
          let q = is_of z v.0 in
          let e = each q.row q.there (among_of xs q.row z q.among).filled in
          none-some e.0 (sym (free other) ∙ ap (tree_row xs) (sym is ∙ q.named) ∙ e.1)

  rising_xs : Rising tree_cmp xs
  rising_xs = subst (Rising tree_cmp) (sym are) (read_rising (row_among xs) (read_from xs) vs in_a.rising)

  rising_ys : Rising tree_cmp ys
  rising_ys = rising-insert tree_cmp row_total new zs
      (λ z i same. not_to z i (sym (name_cmp-same (row_name new) (row_name z) (subst IsName (sym new_name) (in_b.named to back (vhd_image u) k.now)) (row_named z (in_without from xs z i).0) same) ∙ new_name))
      (rising_kept (λ r. not (has_name from r)) xs rising_xs)

  into : (z : TreeRow) → In z ys → In z (filter_map (row_among ys) ws)
  into z i = ⊎_elim (λ is. subst (λ v. In v (filter_map (row_among ys) ws)) (sym is) (filter_map-In (row_among ys) ws back new (in_b.listed to back (vhd_image u) k.now) among_new)) old (In-insert tree_cmp row_total new z zs i)
    where
      old : In z zs → In z (filter_map (row_among ys) ws)
      old j =
          let v = in_without from xs z j in
          let q = is_of z v.0 in
          let h : q.row.name ≢ from = λ is. v.1 (q.named ∙ is) in
          let t : q.row.name ≢ to = λ is. not_to z j (q.named ∙ is) in
          filter_map-In (row_among ys) ws q.row z (in_b.listed q.row.name q.row q.image (k.others q.row.name q.image h t ∙ in_a.found q.row q.there q.image)) (among_other q.row h t ∙ q.among)

  out : (z : TreeRow) → In z (filter_map (row_among ys) ws) → In z ys
  out z i = by (decide q.0.name to) (decide q.0.name from)
    where
      q : (r : Row) × In r ws × (row_among ys r ≡ Some z)
      q = In-filter_map (row_among ys) ws z i

      image : is_image_name q.0.name ≡ true
      image = (among_of ys q.0 z q.2).filled.image

      by : (q.0.name ≡ to) ⊎ (q.0.name ≢ to) → (q.0.name ≡ from) ⊎ (q.0.name ≢ from) → In z ys
      by (inl is) h =
          let same = same_Some q.0 back (sym (in_b.found q.0 q.1 image) ∙ ap (rows b) is ∙ k.now) in
          subst (λ v. In v ys) (same_Some new z (sym among_new ∙ ap (row_among ys) (sym same) ∙ q.2)) (new-insert tree_cmp row_total new zs)
      by (inr other) (inl is) = absurd (none-some q.0 (sym (k.gone (λ same. other (is ∙ same))) ∙ ap (rows b) (sym is) ∙ in_b.found q.0 q.1 image))
      by (inr other) (inr apart) =
          let e : row_among xs q.0 ≡ Some z = sym (among_other q.0 apart other) ∙ q.2 in
          let there = in_a.listed q.0.name q.0 image (sym (k.others q.0.name image apart other) ∙ in_b.found q.0 q.1 image) in
          let named_z = (read_from xs q.0 z e).named in
          old-insert tree_cmp row_total new z zs (without_in from xs z (subst (In z) (sym are) (filter_map-In (row_among xs) vs q.0 z there e)) (λ is. apart (sym named_z ∙ is)))

  are_ys : AreRowsOf ws ys
  are_ys = rising_ext tree_cmp row_total ys (filter_map (row_among ys) ws) rising_ys (read_rising (row_among ys) (read_from ys) ws in_b.rising) into out

  new_row : IsRow g.told (stored_with g store b) back new
  new_row = record {
    named = new_name;
    hidden = refl;
    extents = own_read.2.extents;
    image = subst (λ o. IsReadAs g.told (g.site store).geometry (length own.extents * (g.site store).geometry.extent) (volume (g.site store).geometry.extent (extents_of o) (g.area store)) to new.image) (sym k.now)
        (read_renamed g.told (g.site store).geometry (length own.extents * (g.site store).geometry.extent) (volume (g.site store).geometry.extent own.extents (g.area store)) from u y₀.image
        (subst (λ o. IsReadAs g.told (g.site store).geometry (length own.extents * (g.site store).geometry.extent) (volume (g.site store).geometry.extent (extents_of o) (g.area store)) from y₀.image) k.there
        (subst (λ n. IsReadAs g.told (g.site store).geometry (length own.extents * (g.site store).geometry.extent) (volume (g.site store).geometry.extent (extents_of (rows a n)) (g.area store)) n y₀.image) own_name own_read.2.image)));
  }

  each_ys : HasEachRow g.told (stored_with g store b) ws ys
  each_ys r i filled = by (decide r.name to) (decide r.name from)
    where
      by : (r.name ≡ to) ⊎ (r.name ≢ to) → (r.name ≡ from) ⊎ (r.name ≢ from) → (y : TreeRow) × (tree_row ys r.name ≡ Some y) × IsRow g.told (stored_with g store b) r y
      by (inl is) h =
          let same = same_Some r back (sym (in_b.found r i filled.image) ∙ ap (rows b) is ∙ k.now) in
          subst (λ q. (y : TreeRow) × (tree_row ys q.name ≡ Some y) × IsRow g.told (stored_with g store b) q y) (sym same) (new, at_new, new_row)
      by (inr other) (inl is) = absurd (none-some r (sym (k.gone (λ same. other (is ∙ same))) ∙ ap (rows b) (sym is) ∙ in_b.found r i filled.image))
      by (inr other) (inr apart) =
          let same = k.others r.name filled.image apart other in
          let v = each r (in_a.listed r.name r filled.image (sym same ∙ in_b.found r i filled.image)) filled in
          (v.0, at_other r.name apart other ∙ v.1, row_moved g.told (stored_with g store a) a b r v.0 same v.2)

  -- memory then
  pub moved_are : AreRowsOf ws (base_back from to xs)
  moved_are = subst (AreRowsOf ws) (sym rows_are) are_ys

  pub moved_each : HasEachRow g.told (stored_with g store b) ws (base_back from to xs)
  moved_each = subst (HasEachRow g.told (stored_with g store b) ws) (sym rows_are) each_ys
