-- Memory once a fork is undone: what the rows are beside the table without it.
use Rattle.std.proofs.Common.{◌≡◌, ◌≢◌, ◌⊎◌, inl, inr, ⊎_elim, ℕ, zero, suc, ◌*◌, ◌≤◌, Bool, true, false, cond, not, ◌&&◌, ◌||◌, List, [], ◌∷◌, ◌++◌, length, map, Option, Some, None, is_none, is_some, refl, sym, ap, ap₂, ◌∙◌, subst, arith}
use Rattle.std.specs.List.{filter_map, list_any}
use Rattle.std.specs.Str.{bytes_eq}
use Rattle.std.proofs.lemmas.Bool.{and_parts, true≢false}
use Rattle.std.proofs.lemmas.Option.{none-some, same_Some}
use Rattle.sm_base.specs.Kinds.{is_image}
use Rattle.sm_machine.specs.WellFormed.{is_image_name}
use Rattle.sm_base.specs.Names.{IsName}
use Rattle.sm_base.specs.declared.names.Name.{Name}
use Rattle.sm_base.specs.declared.names.Name.TheVariants.{Mgt, Vhd, Raw, Old, Cbt, Clone, Inflate, Coalesce, Relink, Leaf}
use Rattle.sm_base.specs.declared.sizes.Geometry.{Geometry}
use Rattle.sm_base.proofs.OrderLemmas.{name_cmp-same}
use Rattle.sm_disk.specs.Held.{Held}
use Rattle.vg_meta.specs.Changes.{without as without_row}
use Rattle.vg_meta.specs.Tables.{IsVolume, Row, VolumeTable, extents_of, rows}
use Rattle.vg_meta.specs.declared.changes.Change.TheVariants.{Remove}
use Rattle.vg_meta.proofs.NameLaws.{name_eq-other}
use Rattle.vg_meta.proofs.RowLaws.{row_of-name}
use Rattle.vg_volumes.specs.Stored.{Stored}
use Rattle.vg_volumes.specs.Volumes.{volume}
use Rattle.vg_volumes.specs.declared.stores.Store.{Ghosts}
use Rattle.common_laws.specs.Lists.{In}
use Rattle.common_laws.proofs.Booleans.{not_false, not_true}
use Rattle.common_laws.proofs.Bytes.{bytes_eq-refl, bytes_eq-same}
use Rattle.common_laws.proofs.Lists.{In-map, In-map_at}
use Rattle.common_laws.proofs.Options.{none_of_some}
use Rattle.sm_machine.specs.Shapes.{ImageRow, same_image}
use Rattle.sm_machine.proofs.Changes.{list_any-some}
use Rattle.sm_machine.specs.WellFormed.{EndsWithin, HasParent}
use Rattle.sm_record.specs.declared.records.Record.{Record}
use Rattle.sm_mgt.specs.Places.{place_count}
use Rattle.sm_standing.specs.Checks.{chain_length, PassesButLeaf, has_twin, has_uuid, is_entry_linked, is_misnamed}
use Rattle.sm_standing.specs.Entries.{are_past, head, image_with, is_filled, is_fork_made, is_past, is_there, is_visible, is_visible_or_gone, making, of_row, uuids_in}
use Rattle.sm_standing.specs.Opened.{applied_all, base_changes, changes_back, under_name, undone, wanted}
use Rattle.sm_standing.specs.Ordered.{Rising}
use Rattle.sm_standing.specs.Outlines.{Link, Outline}
use Rattle.sm_standing.specs.Standing.{standing_volume}
use Rattle.sm_standing.proofs.PlainKept.{simple_known}
use Rattle.sm_standing.proofs.NamedLaws.{all_past, named_still, past_later}
use Rattle.sm_standing.proofs.Orders.{In-filter_map, filter_map-In, In-insert, new-insert, old-insert, rising-insert, rising_ext}
use Rattle.vhd_image.specs.Bodies.{in_volume, parent_name, sector_count, volume_name}
use Rattle.vhd_image.specs.declared.images.Body.{Body}
use Rattle.vhd_image.specs.declared.images.Body.TheVariants as body
use Rattle.vhd_chain.specs.Trees.{has_name, row_name, tree_row, with_row, without}
use Rattle.vhd_chain.specs.declared.rows.TreeRow.{TreeRow}
use Rattle.vhd_chain.proofs.ByName.{tree_row-with_other, tree_row-with_same, tree_row-without_other}
use Rattle.sm_ready.specs.Known.{machine_row}
use Rattle.sm_ready.specs.Outlined.{link_in, outline_in}
use Rattle.sm_ready.proofs.LoadLaws.{read_rising, tree_cmp}
use Rattle.sm_ready.proofs.Orders.{In-tree_row}
use Rattle.sm_ready.proofs.RowLaws.{All-In, found_in}
use Rattle.sm_recover.specs.Backs.{fork_back, row_back, rows_back}
use Rattle.sm_checks.specs.Faults.{HasLinks, HasPlaces, HasTable, has_any, has_one, is_any_visible, is_begun, is_disk_by, is_fork_linked_in, is_new_over, is_other_child, is_shown, is_unlinked_in}
use Rattle.sm_checks.specs.Loaded.{AreRowsOf, HasEachRow, IsReadAs, IsRow, read_volumes, row_among, row_with, shortened, stored_with}
use Rattle.sm_recover.specs.Repairs.{IsUndoable}
use Rattle.sm_recover.proofs.CheckedTrees as checked
use Rattle.sm_checks.proofs.DiskLaws.{disk_by, own_plain}
use Rattle.sm_recover.proofs.BackLaws.{HasBase}
use Rattle.sm_checks.proofs.EntryLaws.{IsFork, IsMade, at_stage, base_found, base_made, disk_twin, made_parts}
use Rattle.sm_recover.proofs.UndoTables.{IsDropped, IsTakenBack, back_image, from_not_twin, has_base, staged, undoable_small}
use Rattle.sm_recover.proofs.GiveBackLaws.{free_back, rows_some}
use Rattle.sm_checks.proofs.TreeLaws.{ends}
use Rattle.sm_checks.proofs.LinkLaws.{unlinked_seen}
use Rattle.sm_recover.proofs.SeenLaws.{children_counted, volumes_seen}
use Rattle.sm_checks.proofs.TableLaws.{own_name as own_image}
use Rattle.sm_checks.proofs.LoadedLaws.{among_is, named_data, none_among, one_of_two, read_from}
use Rattle.sm_recover.proofs.OpenedWell.{IsBeside}
use Rattle.sm_recover.proofs.CountLaws.{later_all}
use Rattle.sm_recover.proofs.RowsLaws.{in_without, kept_all, rising_kept, row_total, without_in, HasVolume, can_give_back, has_volume}
use Rattle.sm_checks.proofs.TableLaws.{In-without, IsWhole, filtered_without, read_whole, whole_alone}
use Rattle.sm_recover.proofs.UndoneLaws.{IsOther, base_row, back_row, decide, dropped, fork, row_listed, taken, taken_from, undone_by, undone_checked}

-- ---- an image under another name

pub named_in : (n : Name) (image : Body) → volume_name (in_volume n image) ≡ n
named_in n (body.Raw v size) = refl
named_in n (body.Vhd top m) = refl

pub parent_in_volume : (n : Name) (image : Body) → parent_name (in_volume n image) ≡ parent_name image
parent_in_volume n (body.Raw v size) = refl
parent_in_volume n (body.Vhd top m) = refl

pub sized_in : (n : Name) (image : Body) → sector_count (in_volume n image) ≡ sector_count image
sized_in n (body.Raw v size) = refl
sized_in n (body.Vhd top m) = refl

-- it is read as it was, under a name of its kind
pub read_renamed : (told : Type 0) (g : Geometry) (sectors : ℕ) (h : Held) (n : Name) (d : List ℕ) (image : Body) → IsReadAs told g sectors h n image → IsReadAs told g sectors h (under_name n d) (in_volume (under_name n d) image)
read_renamed told g sectors h (Raw v) d image read = record { is = ap (in_volume (Raw d)) read.is; fits = read.fits }
read_renamed told g sectors h (Vhd v) d (body.Raw of size) read = absurd read.vhd
read_renamed told g sectors h (Vhd v) d (body.Vhd top m) read =
    let q = read.stands in
    record {
      vhd = tt;
      stands = record { entries = q.entries; block = q.block; size = q.size; least = q.least; most = q.most; sized = q.sized; room = q.room };
      gives = λ known. read.gives known;
    }
read_renamed told g sectors h Mgt d image read = absurd read
read_renamed told g sectors h (Old u) d image read = absurd read
read_renamed told g sectors h (Cbt u) d image read = absurd read
read_renamed told g sectors h (Clone x y z) d image read = absurd read
read_renamed told g sectors h (Inflate u e) d image read = absurd read
read_renamed told g sectors h (Coalesce a p) d image read = absurd read
read_renamed told g sectors h (Relink a p) d image read = absurd read
read_renamed told g sectors h (Leaf l p) d image read = absurd read

pub back_named_image : (n : Name) (d : List ℕ) → is_image_name (under_name n d) ≡ true
unfolding is_image_name
back_named_image (Raw b) d = refl
back_named_image _ d = refl

-- what a store with this table holds
abbrev pub with_table : Stored → VolumeTable → Stored
with_table x t = record x { table = t }

pub row_moved : (told : Type 0) (x : Stored) (t u : VolumeTable) (r : Row) (y : TreeRow) → rows u r.name ≡ rows t r.name → IsRow told (with_table x t) r y → IsRow told (with_table x u) r y
row_moved told x t u r y same row = record {
  named = row.named;
  hidden = row.hidden;
  extents = row.extents;
  image = subst (λ o. IsReadAs told x.site.geometry (length r.extents * x.site.geometry.extent) (volume x.site.geometry.extent (extents_of o) x.area) r.name y.image) (sym same) row.image;
}

module _ {S : Type 0} (g : Ghosts S) (store : S) (xs : List TreeRow) (places : List (Option Record)) {was : VolumeTable} (c : IsUndoable (g.site store) was) (are_read : AreRowsOf (read_volumes was) xs)
    (each_read : HasEachRow g.told (stored_with g store (shortened was)) (read_volumes was) xs) (long : length places ≡ place_count)
    (pass : (x : Outline) → HasTable (g.site store).geometry was x → HasLinks xs x → HasPlaces places x → PassesButLeaf x)
    (d b w : List ℕ) (found : head (making was) ≡ Some (Clone d b w)) where
  abbrev now : VolumeTable
  now = undone was

  abbrev held : Stored
  held = record { site = g.site store; table = was; area = g.area store }

  f : IsFork was d b w
  f = fork c d b w found

  whole : IsWhole was
  whole = whole_alone was (Clone d b w) f.entry (λ u e is. let x = is in cc)

  are : AreRowsOf was.volumes xs
  are = are_read ∙ ap (filter_map (row_among xs)) (read_whole was whole)

  each : HasEachRow g.told held was.volumes xs
  each = subst (λ t. HasEachRow g.told (with_table held t) t.volumes xs) whole.table (checked.each g store xs places (staged c) are_read each_read)

  named : (r : Row) → In r was.volumes → is_misnamed was r ≡ false
  named = checked.named g store xs places (staged c) are_read each_read long pass

  later : was.sequence ≤ now.sequence
  later = subst (λ (t : VolumeTable). was.sequence ≤ t.sequence) (sym (undone_by was (Clone d b w) found)) (later_all was (changes_back was (Clone d b w)) (let q = c.table.sequence in omega (arith, q)))

  -- a row in memory has the name of a volume
  row_volume : (y : TreeRow) → In y xs → HasVolume was y
  row_volume y i = has_volume (staged c) are_read y i

  rows_are : rows_back was xs ≡ fork_back (image_with was b) d (without (Vhd w) xs)
  rows_are = rows_some was xs (Clone d b w) found

  -- a volume of it is plain, and no other entry is there
  now_volumes : (r : Row) → In r now.volumes → rows now r.name ≡ Some r
  now_volumes r i = found_in now.volumes (undone_checked c).table.volumes.rising r i

  was_volumes : (r : Row) → In r was.volumes → rows was r.name ≡ Some r
  was_volumes r i = found_in was.volumes c.table.volumes.rising r i

  stands_now : (u : List ℕ) → is_some (standing_volume now u) ≡ is_shown now u
  stands_now u = own_plain now (undone_checked c).plain u

  stands_was : (u : List ℕ) → is_some (standing_volume was u) ≡ is_disk_by was (Some (Clone d b w)) u
  stands_was u = disk_by was (simple_known was c.simple) u ∙ ap (λ o. is_disk_by was o u) found

  -- a name of no volume is shown by none
  hidden_none : (t : VolumeTable) (n : Name) → rows t n ≡ None → is_visible t n ≡ false
  hidden_none t n none = ap (of_row (λ r. not r.hidden && not r.fresh)) none

  shown_none : (t : VolumeTable) (u : List ℕ) → rows t (Vhd u) ≡ None → rows t (Raw u) ≡ None → is_shown t u ≡ false
  shown_none t u vhd raw = ap₂ (λ x y. x || y) (hidden_none t (Vhd u) vhd) (hidden_none t (Raw u) raw)

  shown_same : (u : List ℕ) → rows now (Vhd u) ≡ rows was (Vhd u) → rows now (Raw u) ≡ rows was (Raw u) → is_shown now u ≡ is_shown was u
  shown_same u vhd raw = ap₂ (λ o q. of_row (λ r. not r.hidden && not r.fresh) o || of_row (λ r. not r.hidden && not r.fresh) q) vhd raw

  -- ---- no image has the base's UUID

  module _ (none : image_with was b ≡ None) where
    k : IsDropped (g.site store).count was now d b w
    k = dropped c d b w found none

    none_there : (is_there was (Vhd b) ≡ false) × (is_there was (Raw b) ≡ false)
    unfolding image_with
    none_there = by (is_there was (Vhd b)) (is_there was (Raw b)) refl refl none
      where
        by : (x y : Bool) → is_there was (Vhd b) ≡ x → is_there was (Raw b) ≡ y → cond x (Some (Vhd b)) (cond y (Some (Raw b)) None) ≡ None → (is_there was (Vhd b) ≡ false) × (is_there was (Raw b) ≡ false)
        by false false vhd raw is = (vhd, raw)
        by true y vhd raw is = absurd (none-some (Vhd b) (sym is))
        by false true vhd raw is = absurd (none-some (Raw b) (sym is))

    -- an image that is not there is not filled
    unfilled : (n : Name) → is_there was n ≡ false → is_filled was n ≡ false
    unfilled n gone = ap (of_row (λ r. not r.fresh)) (none_of_some (rows was n) gone)

    begun : is_begun was d b w ≡ true
    begun = by (is_fork_made was d b w) refl (at_stage f)
      where
        by : (x : Bool) → is_fork_made was d b w ≡ x → (is_begun was d b w || x) ≡ true → is_begun was d b w ≡ true
        by true is h = let made = made_parts {t = was} {d = d} {b = b} {w = w} is in absurd (true≢false (sym made.filled ∙ ap₂ (λ p q. p || q) (unfilled (Vhd b) none_there.0) (unfilled (Raw b) none_there.1)))
        by false is h = or_false (is_begun was d b w) h
          where
            or_false : (x : Bool) → (x || false) ≡ true → x ≡ true
            or_false true h = refl
            or_false false h = h

    no_base : has_any was b ≡ false
    no_base = not_true (has_any was b) (and_parts (not (has_any was b)) (not (has_any was w) && (has_one was d && is_any_visible was d)) begun).0

    no_twin : has_any was w ≡ false
    no_twin = not_true (has_any was w) (and_parts (not (has_any was w)) (has_one was d && is_any_visible was d) (and_parts (not (has_any was b)) (not (has_any was w) && (has_one was d && is_any_visible was d)) begun).1).0

    three_false : (x y z : Bool) → (x || (y || z)) ≡ false → (x ≡ false) × (y ≡ false)
    three_false false false z h = (refl, refl)
    three_false true y z h = absurd (true≢false h)
    three_false false true z h = absurd (true≢false h)

    twin_none : rows was (Vhd w) ≡ None
    twin_none = none_of_some (rows was (Vhd w)) (three_false (is_there was (Vhd w)) (is_there was (Raw w)) (is_there was (Old w)) no_twin).0

    -- each but the entry is as it was
    same_row : (n : Name) → n ≢ Clone d b w → rows now n ≡ rows was n
    same_row n other = by (decide n (Vhd w))
      where
        by : (n ≡ Vhd w) ⊎ (n ≢ Vhd w) → rows now n ≡ rows was n
        by (inl is) = ap (rows now) is ∙ k.twin_gone ∙ sym (ap (rows was) is ∙ twin_none)
        by (inr apart) = k.others n apart other

    volumes_now : now.volumes ≡ without_row (Clone d b w) was.volumes
    volumes_now = ap (λ (t : VolumeTable). t.volumes)
        (undone_by was (Clone d b w) found ∙ ap₂ (λ x o. applied_all was (wanted x (Remove (Vhd w)) ++ (base_changes was d o ++ Remove (Clone d b w) ∷ []))) (ap is_some twin_none) none)

    ys_are : rows_back was xs ≡ xs
    ys_are = rows_are ∙ ap (λ o. fork_back o d (without (Vhd w) xs)) none
        ∙ kept_all (λ r. not (has_name (Vhd w) r)) xs (λ y i. ap not (name_eq-other (row_name y) (Vhd w) (λ is. let v = row_volume y i in none-some v.volume (sym twin_none ∙ ap (rows was) (sym is) ∙ v.there))))

    from_was : (r : Row) → In r now.volumes → In r was.volumes × (rows now r.name ≡ rows was r.name)
    from_was r i = let j = In-without (Clone d b w) was.volumes r (subst (In r) volumes_now i) in (j, now_volumes r i ∙ sym (was_volumes r j))

    pub dropped_beside : IsBeside g store was (rows_back was xs) places
    dropped_beside = subst (λ ys. IsBeside g store was ys places) (sym ys_are) (record {
      are = are ∙ sym (ap (filter_map (row_among xs)) volumes_now ∙ filtered_without (row_among xs) (Clone d b w) was.volumes (λ r is. none_among xs r (λ q. true≢false (sym (named_data r.name q.image) ∙ ap is_image is))));
      each = λ r i filled. let v = from_was r i in let y = each r v.0 filled in (y.0, y.1, row_moved g.told held was now r y.0 v.1 y.2);
      named = λ r i. named_still was now r later (λ n gone. gone_still n gone) (named r (from_was r i).0);
      parents = checked.parents g store xs places (staged c) are_read each_read long pass;
      chains = checked.chains g store xs places (staged c) are_read each_read long pass;
      recorded = λ u stood. checked.recorded g store xs places (staged c) are_read each_read long pass u (stands_was u ∙ still u (sym (stands_now u) ∙ stood));
      source = λ u r there filled. (u, r, ap (λ t. rows t (Vhd u)) whole.table ∙ sym (same_row (Vhd u) (λ e. let x = e in cc)) ∙ there, filled, refl);
    })
      where
        gone_still : (n : Name) → is_there was n ≡ false → is_there now n ≡ false
        gone_still n gone = by (decide n (Clone d b w))
          where
            by : (n ≡ Clone d b w) ⊎ (n ≢ Clone d b w) → is_there now n ≡ false
            by (inl is) = ap is_some (ap (rows now) is ∙ k.entry_gone)
            by (inr other) = ap is_some (same_row n other) ∙ gone

        alike : (u : List ℕ) → is_shown now u ≡ is_shown was u
        alike u = shown_same u (same_row (Vhd u) (λ e. let x = e in cc)) (same_row (Raw u) (λ e. let x = e in cc))

        shown_any : (u : List ℕ) → has_any was u ≡ false → is_shown was u ≡ false
        shown_any u gone = let p = three_false (is_there was (Vhd u)) (is_there was (Raw u)) (is_there was (Old u)) gone in shown_none was u (none_of_some (rows was (Vhd u)) p.0) (none_of_some (rows was (Raw u)) p.1)

        still : (u : List ℕ) → is_shown now u ≡ true → is_disk_by was (Some (Clone d b w)) u ≡ true
        still u stood = by (bytes_eq u d) (bytes_eq u b) (bytes_eq u w) refl refl
          where
            here : is_shown was u ≡ true
            here = sym (alike u) ∙ stood

            by : (x y z : Bool) → bytes_eq u b ≡ y → bytes_eq u w ≡ z → cond x (is_some (image_with was b) || is_shown was u) (not y && (not z && is_shown was u)) ≡ true
            by true y z is_b is_w = or_true (is_some (image_with was b)) (is_shown was u) here
              where
                or_true : (p q : Bool) → q ≡ true → (p || q) ≡ true
                or_true true q h = refl
                or_true false q h = h
            by false true z is_b is_w = absurd (true≢false (sym here ∙ ap (is_shown was) (bytes_eq-same u b is_b) ∙ shown_any b no_base))
            by false false true is_b is_w = absurd (true≢false (sym here ∙ ap (is_shown was) (bytes_eq-same u w is_w) ∙ shown_any w no_twin))
            by false false false is_b is_w = here

  -- ---- an image has it

  module _ (from : Name) (at_base : image_with was b ≡ Some from) where
    abbrev own : Row
    own = base_row c d b w found from at_base

    abbrev to : Name
    to = under_name from d

    abbrev back : Row
    back = back_row c d b w found from at_base

    turned : IsTakenBack (g.site store).count was now d b w from own
    turned = taken c d b w found from at_base

    base : HasBase was d from own
    base = has_base f from at_base

    made : IsMade was d b w
    made = made_parts {t = was} {d = d} {b = b} {w = w} (base_made f from at_base)

    from_kind : (from ≡ Vhd b) ⊎ (from ≡ Raw b)
    from_kind = (base_found was b from at_base).name

    not_twin : from ≢ Vhd w
    not_twin = from_not_twin (g.site store).count c.few_extents f (undoable_small c) from at_base

    own_name : own.name ≡ from
    own_name = row_of-name was.volumes from own base.there

    own_in : In own was.volumes
    own_in = row_listed was from own base.there

    raw_none : rows was (Raw d) ≡ None
    raw_none = none_of_some (rows was (Raw d)) made.no_raw

    -- a name that passed its check
    passed : (n : Name) → is_image n ≡ true → (is_image n && (has_twin was n || not (are_past was n))) ≡ false → (has_twin was n ≡ false) × (are_past was n ≡ true)
    passed n image right = by (has_twin was n) (are_past was n) refl refl (sym (ap (λ x. x && (has_twin was n || not (are_past was n))) image) ∙ right)
      where
        by : (x y : Bool) → has_twin was n ≡ x → are_past was n ≡ y → (x || not y) ≡ false → (has_twin was n ≡ false) × (are_past was n ≡ true)
        by false true is_x is_y h = (is_x, is_y)
        by true y is_x is_y h = absurd (true≢false h)
        by false false is_x is_y h = absurd (true≢false h)

    from_passed : (has_twin was from ≡ false) × (are_past was from ≡ true)
    from_passed = passed from base.image (ap (λ n. is_image n && (has_twin was n || not (are_past was n))) (sym own_name) ∙ named own own_in)

    pub own_filled : own.fresh ≡ false
    own_filled = not_true own.fresh (sym (ap (of_row (λ r. not r.fresh)) base.there) ∙ ⊎_elim vhd raw from_kind)
      where
        unfilled : (n : Name) → is_there was n ≡ false → is_filled was n ≡ false
        unfilled n gone = ap (of_row (λ r. not r.fresh)) (none_of_some (rows was n) gone)

        left_true : (p q : Bool) → q ≡ false → (p || q) ≡ true → p ≡ true
        left_true true q h e = refl
        left_true false q h e = absurd (true≢false (sym e ∙ h))

        right_true : (p q : Bool) → p ≡ false → (p || q) ≡ true → q ≡ true
        right_true true q h e = absurd (true≢false h)
        right_true false q h e = e

        vhd : from ≡ Vhd b → is_filled was from ≡ true
        vhd is = ap (is_filled was) is ∙ left_true (is_filled was (Vhd b)) (is_filled was (Raw b)) (unfilled (Raw b) (sym (ap (has_twin was) is) ∙ from_passed.0)) made.filled

        raw : from ≡ Raw b → is_filled was from ≡ true
        raw is = ap (is_filled was) is ∙ right_true (is_filled was (Vhd b)) (is_filled was (Raw b)) (unfilled (Vhd b) (sym (ap (has_twin was) is) ∙ from_passed.0)) made.filled

    own_read : (y : TreeRow) × (tree_row xs own.name ≡ Some y) × IsRow g.told held own y
    own_read = each own own_in (record { image = ap is_image_name own_name ∙ one_of_two from b from_kind; filled = own_filled })

    abbrev y₀ : TreeRow
    y₀ = own_read.0

    abbrev zs : List TreeRow
    zs = without from (without (Vhd d) (without (Vhd w) xs))

    abbrev new : TreeRow
    new = row_back to y₀

    abbrev ys : List TreeRow
    ys = with_row new zs

    y₀_at : tree_row xs from ≡ Some y₀
    y₀_at = ap (tree_row xs) (sym own_name) ∙ own_read.1

    taken_are : rows_back was xs ≡ ys
    taken_are = rows_are ∙ ap (λ o. fork_back o d (without (Vhd w) xs)) at_base
        ∙ ap (λ o. elim o as (λ _. List TreeRow) [ None ↦ without (Vhd d) (without (Vhd w) xs) | Some y ↦ with_row (row_back to y) zs ])
        (tree_row-without_other (without (Vhd w) xs) (Vhd d) from (λ e. base.not_own (sym e)) ∙ tree_row-without_other xs (Vhd w) from (λ e. not_twin (sym e)) ∙ y₀_at)

    new_name : row_name new ≡ to
    new_name = named_in to y₀.image

    free : tree_row zs to ≡ None
    free = free_back from d w xs (can_give_back xs (staged c) are_read d b w found from at_base)

    at_new : tree_row ys to ≡ Some new
    at_new = ap (tree_row ys) (sym new_name) ∙ tree_row-with_same zs new (ap (tree_row zs) new_name ∙ free)

    at_other : (n : Name) → n ≢ Vhd w → n ≢ Vhd d → n ≢ from → n ≢ to → tree_row ys n ≡ tree_row xs n
    at_other n a e h j =
        tree_row-with_other zs new n (λ is. j (sym is ∙ new_name)) ∙ tree_row-without_other (without (Vhd d) (without (Vhd w) xs)) from n (λ is. h (sym is))
        ∙ tree_row-without_other (without (Vhd w) xs) (Vhd d) n (λ is. e (sym is)) ∙ tree_row-without_other xs (Vhd w) n (λ is. a (sym is))

    -- a row that stays
    record Stays (z : TreeRow) : Type 0 where
      pub there : In z xs
      pub not_twin : row_name z ≢ Vhd w
      pub not_own : row_name z ≢ Vhd d
      pub not_from : row_name z ≢ from

    in_zs : (z : TreeRow) → In z zs → Stays z
    in_zs z i =
        let p = in_without from (without (Vhd d) (without (Vhd w) xs)) z i in
        let q = in_without (Vhd d) (without (Vhd w) xs) z p.0 in
        let r = in_without (Vhd w) xs z q.0 in
        record { there = r.0; not_twin = r.1; not_own = q.1; not_from = p.1 }

    zs_in : (z : TreeRow) → Stays z → In z zs
    zs_in z v = without_in from (without (Vhd d) (without (Vhd w) xs)) z (without_in (Vhd d) (without (Vhd w) xs) z (without_in (Vhd w) xs z v.there v.not_twin) v.not_own) v.not_from

    stays_not_to : (z : TreeRow) → Stays z → row_name z ≢ to
    stays_not_to z v is = ⊎_elim (λ e. v.not_own (is ∙ e)) (λ e. let r = row_volume z v.there in none-some r.volume (sym e.1 ∙ ap (rows was) (sym (is ∙ e.0)) ∙ r.there)) base.kind

    row_named : (z : TreeRow) → In z xs → IsName (row_name z)
    row_named z i =
        let v = row_volume z i in
        subst IsName (row_of-name was.volumes (row_name z) v.volume v.there) (All-In IsVolume was.volumes v.volume c.table.volumes.each (row_listed was (row_name z) v.volume v.there)).name

    rising_ys : Rising tree_cmp ys
    rising_ys = rising-insert tree_cmp row_total new zs
        (λ z i same. let v = in_zs z i in stays_not_to z v (sym (name_cmp-same (row_name new) (row_name z) (subst IsName (sym new_name) base.named) (row_named z v.there) same) ∙ new_name))
        (rising_kept (λ r. not (has_name from r)) (without (Vhd d) (without (Vhd w) xs)) (rising_kept (λ r. not (has_name (Vhd d) r)) (without (Vhd w) xs) (rising_kept (λ r. not (has_name (Vhd w) r)) xs
        (subst (Rising tree_cmp) (sym are) (read_rising (row_among xs) (read_from xs) was.volumes c.table.volumes.rising)))))

    among_new : row_among ys back ≡ Some new
    among_new =
        among_is ys back (record { image = back_named_image from d; filled = own_filled }) ∙ ap (row_with back) at_new
        ∙ ap (λ n. let z : TreeRow = record { image = new.image; hidden = false; extents = n } in Some z) (sym own_read.2.extents)

    among_other : (r : Row) → r.name ≢ Vhd w → r.name ≢ Vhd d → r.name ≢ from → r.name ≢ to → row_among ys r ≡ row_among xs r
    among_other r a e h j = ap (λ o. cond (is_image_name r.name && not r.fresh) (row_with r o) None) (at_other r.name a e h j)

    back_in : In back now.volumes
    back_in = row_listed now to back turned.there

    into : (z : TreeRow) → In z ys → In z (filter_map (row_among ys) now.volumes)
    into z i = ⊎_elim (λ is. subst (λ v. In v (filter_map (row_among ys) now.volumes)) (sym is) (filter_map-In (row_among ys) now.volumes back new back_in among_new)) old (In-insert tree_cmp row_total new z zs i)
      where
        old : In z zs → In z (filter_map (row_among ys) now.volumes)
        old j =
            let v = in_zs z j in
            let q = In-filter_map (row_among xs) was.volumes z (subst (In z) are v.there) in
            let e = read_from xs q.0 z q.2 in
            let a : q.0.name ≢ Vhd w = λ is. v.not_twin (e.named ∙ is) in
            let o : q.0.name ≢ Vhd d = λ is. v.not_own (e.named ∙ is) in
            let h : q.0.name ≢ from = λ is. v.not_from (e.named ∙ is) in
            let t : q.0.name ≢ to = λ is. stays_not_to z v (e.named ∙ is) in
            let same = turned.others q.0.name a o h t (λ is. true≢false (sym e.image ∙ ap is_image is)) in
            filter_map-In (row_among ys) now.volumes q.0 z (row_listed now q.0.name q.0 (same ∙ was_volumes q.0 q.1)) (among_other q.0 a o h t ∙ q.2)

    out : (z : TreeRow) → In z (filter_map (row_among ys) now.volumes) → In z ys
    out z i =
        let q = In-filter_map (row_among ys) now.volumes z i in
        ⊎_elim (λ is. subst (λ v. In v ys) (same_Some new z (sym among_new ∙ ap (row_among ys) (sym is) ∙ q.2)) (new-insert tree_cmp row_total new zs))
        (λ o. let e : row_among xs q.0 ≡ Some z = sym (among_other q.0 o.not_twin o.not_own o.not_from o.not_to) ∙ q.2 in
        let named_z = (read_from xs q.0 z e).named in
        old-insert tree_cmp row_total new z zs (zs_in z (record {
          there = subst (In z) (sym are) (filter_map-In (row_among xs) was.volumes q.0 z o.there e);
          not_twin = λ is. o.not_twin (sym named_z ∙ is);
          not_own = λ is. o.not_own (sym named_z ∙ is);
          not_from = λ is. o.not_from (sym named_z ∙ is);
        })))
        (taken_from c d b w found from at_base q.0 q.1)

    are_ys : AreRowsOf now.volumes ys
    are_ys = rising_ext tree_cmp row_total ys (filter_map (row_among ys) now.volumes) rising_ys (read_rising (row_among ys) (read_from ys) now.volumes (undone_checked c).table.volumes.rising) into out

    new_row : IsRow g.told (with_table held now) back new
    new_row = record {
      named = new_name;
      hidden = refl;
      extents = own_read.2.extents;
      image = subst (λ o. IsReadAs g.told (g.site store).geometry (length own.extents * (g.site store).geometry.extent) (volume (g.site store).geometry.extent (extents_of o) (g.area store)) to new.image) (sym turned.there)
          (read_renamed g.told (g.site store).geometry (length own.extents * (g.site store).geometry.extent) (volume (g.site store).geometry.extent own.extents (g.area store)) from d y₀.image
          (subst (λ o. IsReadAs g.told (g.site store).geometry (length own.extents * (g.site store).geometry.extent) (volume (g.site store).geometry.extent (extents_of o) (g.area store)) from y₀.image) base.there
          (subst (λ n. IsReadAs g.told (g.site store).geometry (length own.extents * (g.site store).geometry.extent) (volume (g.site store).geometry.extent (extents_of (rows was n)) (g.area store)) n y₀.image) own_name own_read.2.image)));
    }

    each_ys : HasEachRow g.told (with_table held now) now.volumes ys
    each_ys r i filled = ⊎_elim
        (λ is. subst (λ q. (y : TreeRow) × (tree_row ys q.name ≡ Some y) × IsRow g.told (with_table held now) q y) (sym is) (new, at_new, new_row))
        (λ o. let v = each r o.there filled in
        (v.0, at_other r.name o.not_twin o.not_own o.not_from o.not_to ∙ v.1, row_moved g.told held was now r v.0 (now_volumes r i ∙ sym (was_volumes r o.there)) v.2))
        (taken_from c d b w found from at_base r i)

    -- ---- names

    gone_still : (n : Name) → n ≢ to → is_there was n ≡ false → is_there now n ≡ false
    gone_still n other gone = by (decide n (Vhd w)) (decide n (Vhd d)) (decide n from) (decide n (Clone d b w))
      where
        by : (n ≡ Vhd w) ⊎ (n ≢ Vhd w) → (n ≡ Vhd d) ⊎ (n ≢ Vhd d) → (n ≡ from) ⊎ (n ≢ from) → (n ≡ Clone d b w) ⊎ (n ≢ Clone d b w) → is_there now n ≡ false
        by (inl is) q r e = ap is_some (ap (rows now) is ∙ turned.twin_gone)
        by (inr p) (inl is) r e = ap is_some (ap (rows now) is ∙ turned.own_gone (λ same. other (is ∙ same)))
        by (inr p) (inr q) (inl is) e = ap is_some (ap (rows now) is ∙ turned.from_gone)
        by (inr p) (inr q) (inr r) (inl is) = ap is_some (ap (rows now) is ∙ turned.entry_gone)
        by (inr p) (inr q) (inr r) (inr e) = ap is_some (turned.others n p q r other e) ∙ gone

    to_by : (P : Name → Type 0) → (from ≡ Vhd b → to ≡ Vhd d → P (Vhd d)) → (from ≡ Raw b → to ≡ Raw d → P (Raw d)) → P to
    to_by P vhd raw = ⊎_elim
        (λ is. let e : to ≡ Vhd d = ap (λ n. under_name n d) is in subst P (sym e) (vhd is e))
        (λ is. let e : to ≡ Raw d = ap (λ n. under_name n d) is in subst P (sym e) (raw is e)) from_kind

    to_twin : has_twin now to ≡ false
    to_twin = to_by (λ n. has_twin now n ≡ false) (λ is e. gone_still (Raw d) (λ x. let y : Raw d ≡ Vhd d = x ∙ e in cc) made.no_raw) (λ is e. ap is_some (turned.own_gone (λ x. let y : Vhd d ≡ Raw d = x ∙ e in cc)))

    past_d : is_past now.sequence d ≡ true
    past_d = past_later d was.sequence now.sequence later (and_parts (is_past was.sequence d) (is_past was.sequence b && (is_past was.sequence w && true)) f.past).0

    to_past : are_past now to ≡ true
    to_past = to_by (λ n. are_past now n ≡ true) (λ is e. ap (λ x. x && true) past_d) (λ is e. ap (λ x. x && true) past_d)

    back_named : is_misnamed now back ≡ false
    back_named = ap₂ (λ x y. is_image to && (x || not y)) to_twin to_past ∙ ap (λ x. x && false) (back_image from d)

    twin_still : (n : Name) → n ≢ Vhd d → n ≢ Raw d → has_twin was n ≡ false → has_twin now n ≡ false
    twin_still (Vhd v) not_own not_raw gone = gone_still (Raw v) (λ is. to_by (λ n. Raw v ≡ n → ⊥) (λ x e same. let y = same in cc) (λ x e same. not_own (let y = same in let z : v ≡ d = cc in ap Vhd z)) is) gone
    twin_still (Raw v) not_own not_raw gone = gone_still (Vhd v) (λ is. to_by (λ n. Vhd v ≡ n → ⊥) (λ x e same. not_raw (let y = same in let z : v ≡ d = cc in ap Raw z)) (λ x e same. let y = same in cc) is) gone
    twin_still Mgt not_own not_raw gone = refl
    twin_still (Old v) not_own not_raw gone = refl
    twin_still (Cbt v) not_own not_raw gone = refl
    twin_still (Clone x y z) not_own not_raw gone = refl
    twin_still (Inflate v e) not_own not_raw gone = refl
    twin_still (Coalesce v p) not_own not_raw gone = refl
    twin_still (Relink v p) not_own not_raw gone = refl
    twin_still (Leaf l p) not_own not_raw gone = refl

    other_named : (r : Row) → IsOther was d b w from r → is_misnamed now r ≡ false
    other_named r o = by (is_image r.name) refl
      where
        not_raw : r.name ≢ Raw d
        not_raw is = none-some r (sym raw_none ∙ ap (rows was) (sym is) ∙ was_volumes r o.there)

        by : (x : Bool) → is_image r.name ≡ x → is_misnamed now r ≡ false
        by false other = ap (λ x. x && (has_twin now r.name || not (are_past now r.name))) other
        by true image =
            let v = passed r.name image (named r o.there) in
            ap₂ (λ x y. is_image r.name && (x || not y)) (twin_still r.name o.not_own not_raw v.0) (all_past (uuids_in r.name) was.sequence now.sequence later v.1) ∙ ap (λ x. x && false) image

    named_ys : (r : Row) → In r now.volumes → is_misnamed now r ≡ false
    named_ys r i = ⊎_elim (λ is. ap (is_misnamed now) is ∙ back_named) (λ o. other_named r o) (taken_from c d b w found from at_base r i)

    -- ---- parents

    -- a hidden row is none of the new images
    not_hidden : (u : List ℕ) (z : TreeRow) → is_visible_or_gone was (Vhd u) ≡ true → In z xs → z.hidden ≡ true → row_name z ≢ Vhd u
    not_hidden u z shown i hidden is =
        let v = row_volume z i in
        let at : rows was (Vhd u) ≡ Some v.volume = ap (rows was) (sym is) ∙ v.there in
        true≢false (sym shown ∙ ap (λ o. is_none o || of_row (λ r. not r.hidden) o) at ∙ ap not (sym v.hidden ∙ hidden))

    linked_in : is_fork_linked_in xs d b w ≡ true
    unfolding outline_in
    linked_in =
        let seen = checked.seen g store xs places (staged c) are_read each_read long pass in
        let entry = checked.linked g store xs places (staged c) are_read each_read long pass f.row (row_listed was (Clone d b w) f.row f.there) in
        let right = unlinked_seen xs seen (checked.links g store xs places (staged c) are_read each_read long pass) (volumes_seen g store (staged c) xs each_read are_read seen refl)
        (children_counted g store (staged c) xs each_read are_read seen refl (checked.links g store xs places (staged c) are_read each_read long pass)) (Clone d b w) in
        let same : is_unlinked_in was xs (Clone d b w) ≡ false = right ∙ ap not (ap (is_entry_linked seen) (sym (row_of-name was.volumes (Clone d b w) f.row f.there)) ∙ entry) in
        not_false (is_fork_linked_in xs d b w) (sym (ap (λ x. x && not (is_fork_linked_in xs d b w)) (base_made f from at_base)) ∙ same)

    no_other_child : list_any (is_other_child d b w) xs ≡ false
    no_other_child = not_true (list_any (is_other_child d b w) xs)
        (and_parts (is_new_over xs b w) (not (list_any (is_other_child d b w) xs)) (and_parts (is_new_over xs b d) (is_new_over xs b w && not (list_any (is_other_child d b w) xs)) linked_in).1).1

    -- no other image has the base as parent
    not_over : (x : TreeRow) (p : Name) → In x xs → row_name x ≢ Vhd d → row_name x ≢ Vhd w → parent_name x.image ≡ Some p → p ≢ from
    unfolding same_image
    not_over x p i not_own not_new is same = true≢false (sym (list_any-some (is_other_child d b w) xs x i child) ∙ no_other_child)
      where
        over : has_uuid b p ≡ true
        over = ⊎_elim
            (λ e. ap (has_uuid b) (same ∙ e) ∙ ap (λ q. q || false) (bytes_eq-refl b))
            (λ e. ap (has_uuid b) (same ∙ e) ∙ bytes_eq-refl b) from_kind

        child : is_other_child d b w x ≡ true
        child = ap₂ (λ q r. q && r) (ap (λ o. elim o as (λ _. Bool) [ None ↦ false | Some q ↦ has_uuid b q ]) is ∙ over)
            (ap₂ (λ q r. not q && not r) (own_image d (row_name x) ∙ name_eq-other (row_name x) (Vhd d) not_own) (own_image w (row_name x) ∙ name_eq-other (row_name x) (Vhd w) not_new))

    -- the row of a parent stays
    record HasStay (x : TreeRow) (p : Name) : Type 0 where
      pub row : TreeRow
      pub stays : Stays row
      pub is_named : row_name row ≡ p
      pub is_hidden : row.hidden ≡ true
      pub not_larger : sector_count row.image ≤ sector_count x.image

    parent_stays : (x : TreeRow) (p : Name) → In x xs → row_name x ≢ Vhd d → row_name x ≢ Vhd w → parent_name x.image ≡ Some p → HasStay x p
    parent_stays x p i not_own not_new is =
        let h = checked.parents g store xs places (staged c) are_read each_read long pass x p i is in
        let q = In-map machine_row xs h.parent h.there in
        let hidden : q.0.hidden ≡ true = ap (λ (z : ImageRow). z.hidden) (sym q.2) ∙ h.is_hidden in
        let named_p : row_name q.0 ≡ p = ap (λ (z : ImageRow). z.name) (sym q.2) ∙ h.is_named in
        record {
          row = q.0;
          stays = record {
            there = q.1;
            not_twin = not_hidden w q.0 made.twin_shown q.1 hidden;
            not_own = not_hidden d q.0 made.own_shown q.1 hidden;
            not_from = λ same. not_over x p i not_own not_new is (sym named_p ∙ same);
          };
          is_named = named_p;
          is_hidden = hidden;
          not_larger = subst (λ (z : ImageRow). z.size ≤ sector_count x.image) q.2 h.not_larger;
        }

    y₀_in : In y₀ xs × (row_name y₀ ≡ from)
    y₀_in = In-tree_row xs from y₀ y₀_at

    -- what a row was
    record Was (z : TreeRow) : Type 0 where
      pub row : TreeRow
      pub in_xs : In row xs
      pub apart_own : row_name row ≢ Vhd d
      pub apart_twin : row_name row ≢ Vhd w
      pub parent : parent_name z.image ≡ parent_name row.image
      pub size : sector_count z.image ≡ sector_count row.image

    was_row : (z : TreeRow) → In z ys → Was z
    was_row z i = ⊎_elim
        (λ is. subst Was (sym is) (record {
          row = y₀;
          in_xs = y₀_in.0;
          apart_own = λ e. base.not_own (sym y₀_in.1 ∙ e);
          apart_twin = λ e. not_twin (sym y₀_in.1 ∙ e);
          parent = parent_in_volume to y₀.image;
          size = sized_in to y₀.image;
        }))
        (λ j. let v = in_zs z j in record { row = z; in_xs = v.there; apart_own = v.not_own; apart_twin = v.not_twin; parent = refl; size = refl })
        (In-insert tree_cmp row_total new z zs i)

    stay_in : (z : TreeRow) → Stays z → In z ys
    stay_in z v = old-insert tree_cmp row_total new z zs (zs_in z v)

    parents_ys : (z : TreeRow) (p : Name) → In z ys → parent_name z.image ≡ Some p → HasParent (map machine_row ys) (machine_row z) p
    parents_ys z p i is =
        let v = was_row z i in
        let h = parent_stays v.row p v.in_xs v.apart_own v.apart_twin (sym v.parent ∙ is) in
        record {
          parent = machine_row h.row;
          there = In-map_at machine_row ys h.row (stay_in h.row h.stays);
          is_named = h.is_named;
          is_hidden = h.is_hidden;
          not_larger = subst (λ n. sector_count h.row.image ≤ n) (sym v.size) h.not_larger;
        }

    -- ---- chains

    abbrev seen : Outline
    seen = checked.seen g store xs places (staged c) are_read each_read long pass

    abbrev seen_now : Outline
    seen_now = record seen { links = λ n. link_in (tree_row ys n) }

    abbrev link : TreeRow → Link
    link z = record { size = sector_count z.image; parent = parent_name z.image }

    abbrev below : Outline → ℕ → Option Name → ℕ
    below x n o = elim o as (λ _. ℕ) [ None ↦ 0 | Some p ↦ chain_length x n p ]

    chain_at : (x : Outline) (n : ℕ) (m : Name) (z : TreeRow) → x.links m ≡ Some (link z) → chain_length x (suc n) m ≡ suc (below x n (parent_name z.image))
    unfolding chain_length
    chain_at x n m z is = ap (λ (o : Option Link). elim o as (λ _. ℕ) [ None ↦ 0 | Some i ↦ suc (elim i.parent as (λ _. ℕ) [ None ↦ 0 | Some p ↦ chain_length x n p ]) ]) is

    link_was : (z : TreeRow) → In z xs → seen.links (row_name z) ≡ Some (link z)
    link_was z i = checked.links g store xs places (staged c) are_read each_read long pass (row_name z) ∙ checked.found_link g store xs places (staged c) are_read each_read long pass z i

    found_ys : (z : TreeRow) → In z ys → link_in (tree_row ys (row_name z)) ≡ link_in (Some z)
    found_ys z i = ⊎_elim
        (λ is. subst (λ v. link_in (tree_row ys (row_name v)) ≡ link_in (Some v)) (sym is) (ap (λ n. link_in (tree_row ys n)) new_name ∙ ap link_in at_new))
        (λ j. let v = in_zs z j in ap link_in (at_other (row_name z) v.not_twin v.not_own v.not_from (stays_not_to z v)) ∙ checked.found_link g store xs places (staged c) are_read each_read long pass z v.there)
        (In-insert tree_cmp row_total new z zs i)

    up : (z : TreeRow) (p : Name) → In z ys → parent_name z.image ≡ Some p → (q : TreeRow) × (tree_row ys p ≡ Some q)
    up z p i is =
        let v = was_row z i in
        let h = parent_stays v.row p v.in_xs v.apart_own v.apart_twin (sym v.parent ∙ is) in
        subst (λ n. (q : TreeRow) × (tree_row ys n ≡ Some q)) h.is_named (some_row (tree_row ys (row_name h.row)) h.row (found_ys h.row (stay_in h.row h.stays)))
      where
        some_row : (o : Option TreeRow) (q : TreeRow) → link_in o ≡ link_in (Some q) → (r : TreeRow) × (o ≡ Some r)
        some_row None q same = absurd (none-some (link q) same)
        some_row (Some r) q same = (r, refl)

    chain_same : (n : ℕ) (z : TreeRow) → Stays z → chain_length seen_now n (row_name z) ≡ chain_length seen n (row_name z)
    unfolding chain_length
    chain_same zero z v = refl
    chain_same (suc n) z v =
        chain_at seen_now n (row_name z) z (found_ys z (stay_in z v)) ∙ ap suc (by (parent_name z.image) refl (λ q s. chain_same n q s)) ∙ sym (chain_at seen n (row_name z) z (link_was z v.there))
      where
        by : (o : Option Name) → parent_name z.image ≡ o → ((q : TreeRow) → Stays q → chain_length seen_now n (row_name q) ≡ chain_length seen n (row_name q)) → below seen_now n o ≡ below seen n o
        by None is rest = refl
        by (Some p) is rest = let h = parent_stays z p v.there v.not_own v.not_twin is in subst (λ m. chain_length seen_now n m ≡ chain_length seen n m) h.is_named (rest h.row h.stays)

    short_ys : (z : TreeRow) → In z ys → chain_length seen_now 31 (row_name z) ≤ 30
    short_ys z i =
        let v = was_row z i in
        let long_now = chain_at seen_now 30 (row_name z) z (found_ys z i) in
        let long_was = chain_at seen 30 (row_name v.row) v.row (link_was v.row v.in_xs) in
        let same = ap (below seen_now 30) v.parent ∙ by v (parent_name v.row.image) refl in
        omega (arith, long_now, long_was, same, checked.short g store xs places (staged c) are_read each_read long pass v.row v.in_xs)
      where
        by : (v : Was z) (o : Option Name) → parent_name v.row.image ≡ o → below seen_now 30 o ≡ below seen 30 o
        by v None is = refl
        by v (Some p) is = let h = parent_stays v.row p v.in_xs v.apart_own v.apart_twin is in subst (λ m. chain_length seen_now 30 m ≡ chain_length seen 30 m) h.is_named (chain_same 30 h.row h.stays)

    chains_ys : (z : TreeRow) → In z ys → EndsWithin 30 (Some (row_name z)) (map machine_row ys)
    chains_ys z i = ends ys seen_now (λ n. refl) found_ys up 30 (row_name z) (link z) (found_ys z i) (short_ys z i)

    -- ---- disks

    still : (u : List ℕ) → is_shown now u ≡ true → is_disk_by was (Some (Clone d b w)) u ≡ true
    still u stood = by (bytes_eq u d) (bytes_eq u b) (bytes_eq u w) refl refl refl
      where
        unlike : (v : List ℕ) → bytes_eq u v ≡ false → u ≢ v
        unlike v other same = true≢false (sym (bytes_eq-refl u) ∙ ap (bytes_eq u) same ∙ other)

        vhd_u : {v : List ℕ} → Vhd u ≡ Vhd v → u ≡ v
        vhd_u e = let x = e in cc

        raw_u : {v : List ℕ} → Raw u ≡ Raw v → u ≡ v
        raw_u e = let x = e in cc

        gone_b : is_shown now b ≡ false
        gone_b = ⊎_elim
            (λ is. shown_none now b (ap (rows now) (sym is) ∙ turned.from_gone)
            (none_of_some (rows now (Raw b)) (gone_still (Raw b) (λ e. let t : to ≡ Vhd d = ap (λ n. under_name n d) is in let x : Raw b ≡ Vhd d = e ∙ t in cc) (sym (ap (has_twin was) is) ∙ from_passed.0))))
            (λ is. shown_none now b
            (none_of_some (rows now (Vhd b)) (gone_still (Vhd b) (λ e. let t : to ≡ Raw d = ap (λ n. under_name n d) is in let x : Vhd b ≡ Raw d = e ∙ t in cc) (sym (ap (has_twin was) is) ∙ from_passed.0)))
            (ap (rows now) (sym is) ∙ turned.from_gone)) from_kind

        gone_w : is_shown now w ≡ false
        gone_w = shown_none now w turned.twin_gone
            (none_of_some (rows now (Raw w)) (gone_still (Raw w) (λ e. to_by (λ n. Raw w ≡ n → ⊥) (λ x t same. let y = same in cc) (λ x t same. disk_twin f (let y = same in let z : w ≡ d = cc in sym z)) e) made.no_raw_twin))

        from_vhd : u ≢ b → Vhd u ≢ from
        from_vhd other is = ⊎_elim (λ e. other (vhd_u (is ∙ e))) (λ e. let x : Vhd u ≡ Raw b = is ∙ e in cc) from_kind

        from_raw : u ≢ b → Raw u ≢ from
        from_raw other is = ⊎_elim (λ e. let x : Raw u ≡ Vhd b = is ∙ e in cc) (λ e. other (raw_u (is ∙ e))) from_kind

        alike : u ≢ d → u ≢ b → u ≢ w → is_shown now u ≡ is_shown was u
        alike not_d not_b not_w = shown_same u
            (turned.others (Vhd u) (λ e. not_w (vhd_u e)) (λ e. not_d (vhd_u e)) (from_vhd not_b) (λ e. to_by (λ n. Vhd u ≡ n → ⊥) (λ x t same. not_d (vhd_u same)) (λ x t same. let y = same in cc) e) (λ e. let x = e in cc))
            (turned.others (Raw u) (λ e. let x = e in cc) (λ e. let x = e in cc) (from_raw not_b) (λ e. to_by (λ n. Raw u ≡ n → ⊥) (λ x t same. let y = same in cc) (λ x t same. not_d (raw_u same)) e) (λ e. let x = e in cc))

        by : (x y z : Bool) → bytes_eq u d ≡ x → bytes_eq u b ≡ y → bytes_eq u w ≡ z → cond x (is_some (image_with was b) || is_shown was u) (not y && (not z && is_shown was u)) ≡ true
        by true y z is_d is_b is_w = ap (λ o. is_some o || is_shown was u) at_base
        by false true z is_d is_b is_w = absurd (true≢false (sym stood ∙ ap (is_shown now) (bytes_eq-same u b is_b) ∙ gone_b))
        by false false true is_d is_b is_w = absurd (true≢false (sym stood ∙ ap (is_shown now) (bytes_eq-same u w is_w) ∙ gone_w))
        by false false false is_d is_b is_w = sym (alike (unlike d is_d) (unlike b is_b) (unlike w is_w)) ∙ stood

    -- ---- where a VHD image stood

    source_ys : (u : List ℕ) (r : Row) → rows now (Vhd u) ≡ Some r → r.fresh ≡ false → (v : List ℕ) × (q : Row) × (rows (shortened was) (Vhd v) ≡ Some q) × (q.fresh ≡ false) × (q.extents ≡ r.extents)
    source_ys u r at filled = ⊎_elim
        (λ is.
        let vhd : Vhd u ≡ to = sym (row_of-name now.volumes (Vhd u) r at) ∙ ap (λ (q : Row). q.name) is in
        ⊎_elim
        (λ e. (b, own, ap (λ t. rows t (Vhd b)) whole.table ∙ ap (rows was) (sym e) ∙ base.there, own_filled, ap (λ (q : Row). q.extents) (sym is)))
        (λ e. absurd (let t : to ≡ Raw d = ap (λ n. under_name n d) e in let x : Vhd u ≡ Raw d = vhd ∙ t in cc)) from_kind)
        (λ o. (u, r, ap (λ t. rows t (Vhd u)) whole.table ∙ ap (rows was) (sym (row_of-name now.volumes (Vhd u) r at)) ∙ was_volumes r o.there, filled, refl))
        (taken_from c d b w found from at_base r (row_listed now (Vhd u) r at))

    pub taken_beside : IsBeside g store was (rows_back was xs) places
    taken_beside = subst (λ zs. IsBeside g store was zs places) (sym taken_are) (record {
      are = are_ys;
      each = each_ys;
      named = named_ys;
      parents = parents_ys;
      chains = chains_ys;
      recorded = λ u stood. checked.recorded g store xs places (staged c) are_read each_read long pass u (stands_was u ∙ still u (sym (stands_now u) ∙ stood));
      source = source_ys;
    })
