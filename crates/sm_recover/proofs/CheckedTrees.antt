-- What the checks say of the images as they are read, and of the places of the records.
use Rattle.std.proofs.Common.{suc, ◌≡◌, ◌⊎◌, inl, inr, ℕ, ◌*◌, ◌≤◌, true, false, not, ◌&&◌, List, [], length, map, filter, Option, Some, None, is_some, refl, sym, ap, ◌∙◌, subst, arith}
use Rattle.std.proofs.lemmas.Bool.{true≢false}
use Rattle.std.proofs.lemmas.List.Sums.{length-filter}
use Rattle.std.proofs.lemmas.Option.{none-some, get_or_from_slice_get}
use Rattle.sm_base.specs.declared.names.Name.{Name}
use Rattle.sm_base.specs.declared.names.Name.TheVariants.{Mgt, Vhd, Raw, Old, Cbt, Clone, Inflate, Coalesce, Relink, Leaf}
use Rattle.sm_base.specs.declared.sizes.Geometry.{Geometry}
use Rattle.sm_disk.specs.Held.{Held}
use Rattle.vg_meta.specs.Tables.{VolumeTable, Row, rows}
use Rattle.vg_volumes.specs.Sites.{Site}
use Rattle.vg_volumes.specs.Stored.{held_in}
use Rattle.vg_volumes.specs.declared.stores.Store.{Ghosts}
use Rattle.common_laws.specs.Lists.{In}
use Rattle.common_laws.proofs.Lists.{In-map_at}
use Rattle.common_laws.proofs.Options.{is_some-parts}
use Rattle.sm_machine.specs.Shapes.{chain_limit}
use Rattle.sm_machine.specs.WellFormed.{EndsWithin, HasParent}
use Rattle.sm_record.specs.declared.records.Record.{Record}
use Rattle.sm_mgt.specs.Places.{as_reading, is_of, place_count}
use Rattle.sm_standing.specs.Checks.{is_entry_linked, is_misnamed, chain_length, is_tree_wrong, PassesButLeaf}
use Rattle.sm_standing.specs.Entries.{of_row}
use Rattle.sm_standing.specs.PlainSound.{AllSound}
use Rattle.sm_standing.specs.Outlines.{Link, Outline}
use Rattle.sm_standing.specs.Standing.{standing_volume}
use Rattle.sm_standing.proofs.PlainKept.{sound_all}
use Rattle.sm_standing.proofs.WalkLaws.{length_top}
use Rattle.vhd_chain.specs.Trees.{row_name, tree_row}
use Rattle.vhd_chain.specs.declared.rows.TreeRow.{TreeRow}
use Rattle.vhd_image.specs.Bodies.{parent_name, sector_count}
use Rattle.vhd_image.specs.declared.images.Body.{Body}
use Rattle.sm_ready.proofs.EntryKinds.{image_not_making}
use Rattle.sm_ready.specs.Known.{machine_row}
use Rattle.sm_ready.specs.Outlined.{link_in, outline_in}
use Rattle.sm_ready.proofs.BegunLaws.{begun_with}
use Rattle.sm_ready.proofs.RowLaws.{found_in}
use Rattle.sm_checks.specs.Faults.{HasLinks, HasPlaces, HasTable}
use Rattle.sm_checks.specs.Loaded.{AreRowsOf, HasEachRow, IsReadAs, read_volumes, row_among, shortened, stored_with}
use Rattle.sm_checks.proofs.EntryLaws.{IsStaged}
use Rattle.sm_checks.proofs.DiskLaws.{records_counted}
use Rattle.sm_checks.proofs.TableLaws.{short_filtered, short_from, short_in}
use Rattle.sm_ready.proofs.Orders.{In-tree_row}
use Rattle.sm_checks.proofs.TreeLaws.{HasParentIn, StandsRight, both_true, ends, parent_in, stands_right}
use Rattle.sm_checks.proofs.LoadedLaws.{named_data, none_among, read_row}

-- a raw one has no parent, and each other is a VHD image
raw_or_vhd : (told : Type 0) (g : Geometry) (h : Held) (n : Name) (image : Body) (sectors : ℕ) → IsReadAs told g sectors h n image → (parent_name image ≡ None) ⊎ ((u : List ℕ) × (n ≡ Vhd u))
raw_or_vhd told g h (Raw u) image sectors read = inl (ap parent_name read.is)
raw_or_vhd told g h (Vhd u) image sectors read = inr (u, refl)
raw_or_vhd told g h Mgt image sectors read = absurd read
raw_or_vhd told g h (Old u) image sectors read = absurd read
raw_or_vhd told g h (Cbt u) image sectors read = absurd read
raw_or_vhd told g h (Clone d b w) image sectors read = absurd read
raw_or_vhd told g h (Inflate u e) image sectors read = absurd read
raw_or_vhd told g h (Coalesce a p) image sectors read = absurd read
raw_or_vhd told g h (Relink a p) image sectors read = absurd read
raw_or_vhd told g h (Leaf l p) image sectors read = absurd read

-- ---- what the checks say

module _ {S : Type 0} (g : Ghosts S) (store : S) (xs : List TreeRow) (places : List (Option Record)) {was : VolumeTable} (c : IsStaged (g.site store) was) (are_read : AreRowsOf (read_volumes was) xs)
    (each_read : HasEachRow g.told (stored_with g store (shortened was)) (read_volumes was) xs) where
  abbrev s : Site
  s = g.site store

  -- the table without an enlargement
  abbrev pub t : VolumeTable
  t = shortened was

  pub are : AreRowsOf t.volumes xs
  are = are_read ∙ sym (short_filtered c (row_among xs) (λ r making. none_among xs r (λ f. true≢false (sym making ∙ image_not_making r.name (named_data r.name f.image)))))

  pub each : HasEachRow g.told (stored_with g store (shortened was)) t.volumes xs
  each r i = each_read r (short_in c r i)

  module _ (long : length places ≡ place_count) (pass : (x : Outline) → HasTable s.geometry was x → HasLinks xs x → HasPlaces places x → PassesButLeaf x) where
    abbrev pub seen : Outline
    seen = outline_in s was (begun_with xs places [] 0)

    has : HasPlaces places seen
    unfolding outline_in
    has = record { long = long; each = λ k o at. ap as_reading (get_or_from_slice_get places k o None at) }

    pub links : HasLinks xs seen
    unfolding outline_in
    links n = refl

    sound : AllSound seen
    unfolding outline_in
    sound = let whole = pass seen (record { extent = refl; block = refl; entries = refl; table = refl }) links has in sound_all seen whole.sound

    pub named : (r : Row) → In r was.volumes → is_misnamed was r ≡ false
    unfolding outline_in
    named = sound.named

    placed_at : (r : Row) → In r was.volumes → is_tree_wrong seen r ≡ false
    unfolding outline_in
    placed_at = sound.placed

    -- the images of a fork are linked as its entry says
    pub linked : (r : Row) → In r was.volumes → is_entry_linked seen r.name ≡ true
    unfolding outline_in
    linked = sound.linked

    pub recorded : (u : List ℕ) → is_some (standing_volume was u) ≡ true → length (filter (is_of u) places) ≡ 1
    unfolding outline_in
    recorded u stands =
        let n = is_some-parts (standing_volume was u) stands in
        length-filter (is_of u) places ∙ sym (records_counted seen places u has) ∙ sound.recorded u n.0 n.1

    -- its link is seen by its name
    pub found_link : (x : TreeRow) → In x xs → link_in (tree_row xs (row_name x)) ≡ link_in (Some x)
    found_link x i =
        let w = read_row are each x i in
        ap (λ n. link_in (tree_row xs n)) w.row.named ∙ ap link_in w.at ∙ ap (λ b. Some (record { size = sector_count b; parent = parent_name b })) w.same

    abbrev link_of : TreeRow → Link
    link_of x = record { size = sector_count x.image; parent = parent_name x.image }

    link_seen : (x : TreeRow) → In x xs → seen.links (row_name x) ≡ Some (link_of x)
    link_seen x i = links (row_name x) ∙ found_link x i

    -- it stands in its tree as it should, where it has a parent
    stands_in_tree : (x : TreeRow) (p : Name) → In x xs → parent_name x.image ≡ Some p → StandsRight seen (row_name x) (link_of x)
    stands_in_tree x p i is =
        let w = read_row are each x i in
        let f = short_from c w.volume w.there in
        by w.volume f.volume f.there (ap (λ (r : Row). r.name) f.is) w.row.named (raw_or_vhd g.told s.geometry (held_in (stored_with g store (shortened was)) w.volume.name) w.volume.name x.image (length w.volume.extents * s.geometry.extent) w.row.image)
      where
        by : (v q : Row) → In q was.volumes → v.name ≡ q.name → row_name x ≡ v.name → (parent_name x.image ≡ None) ⊎ ((u : List ℕ) × (v.name ≡ Vhd u)) → StandsRight seen (row_name x) (link_of x)
        by v q there same named (inl none) = absurd (none-some p (sym none ∙ is))
        by v q there same named (inr (u, vhd)) =
            let at : row_name x ≡ Vhd u = named ∙ vhd in
            subst (λ n. StandsRight seen n (link_of x)) (sym at) (stands_right seen q u (link_of x) (ap seen.links (sym at) ∙ link_seen x i) (sym same ∙ vhd) (placed_at q there))

    pub parent_there : (x : TreeRow) (p : Name) → In x xs → parent_name x.image ≡ Some p → HasParentIn xs seen (sector_count x.image) p
    parent_there x p i is = parent_in xs seen links (link_of x) p (stands_in_tree x p i is).linked is

    pub parents : (x : TreeRow) (p : Name) → In x xs → parent_name x.image ≡ Some p → HasParent (map machine_row xs) (machine_row x) p
    unfolding outline_in
    parents x p i is =
        let h = parent_there x p i is in
        let v = In-tree_row xs p h.row h.there in
        let w = read_row are each h.row v.0 in
        let f = short_from c w.volume w.there in
        let named : f.volume.name ≡ p = sym (ap (λ (r : Row). r.name) f.is) ∙ sym w.row.named ∙ v.1 in
        let there : rows was p ≡ Some f.volume = ap (rows was) (sym named) ∙ found_in was.volumes c.table.volumes.rising f.volume f.there in
        record {
          parent = machine_row h.row;
          there = In-map_at machine_row xs h.row v.0;
          is_named = v.1;
          is_hidden = w.row.hidden ∙ ap (λ (r : Row). r.hidden) f.is ∙ (both_true f.volume.hidden (not f.volume.fresh) (sym (ap (of_row (λ r. r.hidden && not r.fresh)) there) ∙ h.hidden)).0;
          not_larger = h.not_larger;
        }

    -- each chain is short, and ends
    pub short : (x : TreeRow) → In x xs → chain_length seen (suc chain_limit) (row_name x) ≤ chain_limit
    short x i = by (parent_name x.image) refl
      where
        by : (o : Option Name) → parent_name x.image ≡ o → chain_length seen 31 (row_name x) ≤ 30
        by None is = let one = length_top seen 30 (row_name x) (link_of x) (link_seen x i) is in omega (arith, one)
        by (Some p) is = (stands_in_tree x p i is).short

    pub chains : (x : TreeRow) → In x xs → EndsWithin chain_limit (Some (row_name x)) (map machine_row xs)
    chains x i = ends xs seen links found_link (λ y p j is. let h = parent_there y p j is in (h.row, h.there)) 30 (row_name x) (link_of x) (link_seen x i) (short x i)
