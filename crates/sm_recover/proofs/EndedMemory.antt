-- What is known once the folding of a leaf is ended, where there is one: the table is one of which nothing but a copy, a link, a fork or
-- an enlargement says that it is under way, memory is what is read beside it, and the checks pass.
use Rattle.std.proofs.Common.{◌≡◌, ◌≢◌, inl, ℕ, Bool, true, false, cond, not, ◌&&◌, ◌||◌, List, [], ◌∷◌, length, take, Option, Some, None, is_some, refl, sym, ap, ap₂, ◌∙◌, subst, arith}
use Rattle.std.proofs.Math.Path.{fun_ext}
use Rattle.std.specs.Prelude.{option_map}
use Rattle.std.proofs.lemmas.Bool.{and_parts, true≢false}
use Rattle.std.proofs.lemmas.List.{take_all}
use Rattle.std.proofs.lemmas.Option.{get_or_from_slice_get, none-some, same_Some}
use Rattle.common_laws.specs.Lists.{In, ◌>>=◌}
use Rattle.common_laws.proofs.Booleans.{not_false, not_true}
use Rattle.common_laws.proofs.Lists.{In-filter, In-map}
use Rattle.sm_base.specs.Kinds.{is_entry}
use Rattle.sm_base.specs.Names.{IsName}
use Rattle.sm_base.specs.declared.names.Name.{Name}
use Rattle.sm_base.specs.declared.names.Name.TheVariants.{Vhd, Raw, Old, Inflate, Leaf}
use Rattle.sm_machine.specs.WellFormed.{is_image_name}
use Rattle.vg_meta.specs.Tables.{IsTable, IsVolume, Row, VolumeTable, name_eq, names_of, rows}
use Rattle.vg_meta.proofs.NameLaws.{name_eq-false, name_eq-true}
use Rattle.vg_meta.proofs.RowLaws.{row_of-name}
use Rattle.vg_volumes.specs.Sites.{Site}
use Rattle.vg_volumes.specs.declared.stores.Store.{Ghosts}
use Rattle.sm_record.specs.declared.records.Record.{Record}
use Rattle.sm_mgt.specs.Places.{as_reading, place_count}
use Rattle.sm_standing.specs.Checks.{fault_of}
use Rattle.sm_standing.specs.Entries.{are_past, folding, head, is_at_stage, is_filled, is_folding, is_folding_leaf, is_hidden, is_leaf_copied, is_leaf_folded, is_leaf_renamed, is_leaf_swapped, is_there, is_visible, making}
use Rattle.sm_standing.specs.Plain.{IsSimple}
use Rattle.sm_standing.specs.Undone.{AllPermit}
use Rattle.sm_standing.specs.Images.{image_extents}
use Rattle.sm_standing.specs.Leaves.{ended_from, ended_outline, from_leaf}
use Rattle.sm_standing.specs.Opened.{applied_all, ended, leaf_changes}
use Rattle.sm_standing.specs.Outlines.{HasImages, Link, Outline}
use Rattle.sm_standing.proofs.DisksShown.{row_of-In}
use Rattle.sm_standing.proofs.ForkTables.{of_row_parts}
use Rattle.sm_standing.proofs.LeafEnds.{ended_folding, ended_permits, ended_simple, ended_sound, ended_table, ends_are}
use Rattle.sm_standing.proofs.LeafRows.{ended_extents, ended_leaf, ended_named, ended_other, ended_parent, ended_same, ended_whole, named_row, same_making}
use Rattle.sm_disk.specs.Held.{Held}
use Rattle.vhd_image.specs.Bodies.{parent_name, sector_count}
use Rattle.vhd_image.specs.declared.images.Body.{Body}
use Rattle.common_laws.proofs.Options.{none_of_some}
use Rattle.std.specs.List.Sorted.{IsStrictlySortedBy}
use Rattle.sm_base.specs.Names.{name_cmp}
use Rattle.std.specs.List.{slice_index_or}
use Rattle.vhd_chain.specs.Trees.{tree_row}
use Rattle.vhd_chain.specs.declared.rows.TreeRow.{TreeRow}
use Rattle.vhd_chain.proofs.ByName.{tree_row-without_other}
use Rattle.sm_ready.proofs.EntryKinds.{image_not_making}
use Rattle.sm_ready.specs.Outlined.{link_in}
use Rattle.sm_ready.proofs.Orders.{In-tree_row}
use Rattle.sm_ready.proofs.RowLaws.{All-In, found_in}
use Rattle.sm_recover.specs.Ending.{CanEnd, leaf_back, leaf_ends, unleafed}
use Rattle.sm_checks.specs.Faults.{HasLinks, HasPlaces, HasTable}
use Rattle.sm_recover.specs.Backs.{base_back}
use Rattle.sm_checks.specs.Loaded.{AreRowsOf, HasEachRow, IsReadAs, as_read, read_volumes, shortened, stored_with}
use Rattle.sm_checks.specs.Openable.{IsOpenable}
use Rattle.sm_checks.proofs.EntryLaws.{IsStaged, head_alone, staged_open}
use Rattle.sm_checks.proofs.LoadedLaws.{named_data, read_row}
use Rattle.sm_recover.proofs.MovedRows.{AreFound, IsMoved, at_gone, at_other, link_new, moved_are, moved_each, rows_are}
use Rattle.sm_recover.proofs.RowsLaws.{has_volume, no_row}
use Rattle.sm_checks.proofs.TableLaws.{found_read, names_mapped, short_in, short_row}

-- ---- the volumes that are read are found in the table without an enlargement

pub volumes_found : {s : Site} {t : VolumeTable} → IsStaged s t → AreFound (shortened t) (read_volumes t)
volumes_found {s} {t} c = record {
  found = λ r i image. found_read c r i (named_data r.name image);
  listed = λ n r image there. short_in c r (row_of-In (shortened t).volumes n r there).0;
  rising = subst (IsStrictlySortedBy name_cmp) (sym (names_mapped (as_read (making t)) (λ r. refl) t.volumes)) c.table.volumes.rising;
  named = λ n r image there.
      let q = In-map (as_read (making t)) t.volumes r (short_in c r (row_of-In (shortened t).volumes n r there).0) in
      let name : q.0.name ≡ n = ap (λ (z : Row). z.name) (sym q.2) ∙ row_of-name (shortened t).volumes n r there in
      subst IsName name (All-In IsVolume t.volumes q.0 c.table.volumes.each q.1).name;
}

-- an image is none of the other kinds
not_old : (n : Name) (u : List ℕ) → is_image_name n ≡ true → n ≢ Old u
unfolding is_image_name
not_old n u image is = true≢false (sym image ∙ ap is_image_name is)

not_leaf : (n : Name) (u v : List ℕ) → is_image_name n ≡ true → n ≢ Leaf u v
unfolding is_image_name
not_leaf n u v image is = true≢false (sym image ∙ ap is_image_name is)

not_inflate : (n : Name) (u : List ℕ) (e : ℕ) → is_image_name n ≡ true → n ≢ Inflate u e
unfolding is_image_name
not_inflate n u e image is = true≢false (sym image ∙ ap is_image_name is)

vhd_image : (u : List ℕ) → is_image_name (Vhd u) ≡ true
unfolding is_image_name
vhd_image u = refl

-- a volume is read alike by entries that say alike of it
read_alike : (ms ns : List Name) (n : Name) (o : Option Row) → ((r : Row) → o ≡ Some r → r.name ≡ n) → ((all : ℕ) → image_extents ms n all ≡ image_extents ns n all) → option_map (as_read ms) o ≡ option_map (as_read ns) o
read_alike ms ns n None named same = refl
read_alike ms ns n (Some r) named same =
    ap (λ k. let q : Row = record r { extents = take k r.extents } in Some q)
    (ap (λ m. image_extents ms m (length r.extents)) (named r refl) ∙ same (length r.extents) ∙ sym (ap (λ m. image_extents ns m (length r.extents)) (named r refl)))

module _ {S : Type 0} (g : Ghosts S) (store : S) (xs : List TreeRow) (places : List (Option Record)) {t : VolumeTable} (c : IsOpenable (g.site store) t) (are : AreRowsOf (read_volumes t) xs)
    (each : HasEachRow g.told (stored_with g store (shortened t)) (read_volumes t) xs) (long : length places ≡ place_count)
    (pass : (x : Outline) → HasTable (g.site store).geometry t x → HasLinks xs x → HasPlaces places x → fault_of x ≡ None) where
  abbrev s : Site
  s = g.site store

  -- an outline with this table and these rows
  abbrev with_rows : Outline → Outline
  with_rows x = record x { table = t; links = λ n. link_in (tree_row xs n) }

  abbrev pub seen : Outline
  seen = record {
    extent = s.geometry.extent;
    block = s.geometry.block;
    entries = s.geometry.entries;
    table = t;
    links = λ n. link_in (tree_row xs n);
    readings = λ k. as_reading (slice_index_or places k None);
  }

  pub sound : fault_of seen ≡ None
  sound = pass seen (record { extent = refl; block = refl; entries = refl; table = refl }) (λ n. refl) (record { long = long; each = λ k o at. ap as_reading (get_or_from_slice_get places k o None at) })

  -- the images are those of volumes
  pub homes : (x : Outline) → HasImages (with_rows x)
  homes x = record { named = λ n other. of (tree_row xs n) n refl other; there = λ n i is. found (tree_row xs n) n i refl is; alone = λ u i is. raw (tree_row xs (Raw u)) u i refl is }
    where
      of : (o : Option TreeRow) (n : Name) → tree_row xs n ≡ o → is_image_name n ≡ false → link_in o ≡ None
      of None n at other = refl
      of (Some y) n at other =
          let v = In-tree_row xs n y at in
          let w = read_row are each y v.0 in
          absurd (true≢false (sym w.filled.image ∙ ap is_image_name (sym w.row.named ∙ v.1) ∙ other))

      found : (o : Option TreeRow) (n : Name) (i : Link) → tree_row xs n ≡ o → link_in o ≡ Some i → is_some (rows t n) ≡ true
      found None n i at is = absurd (none-some i is)
      found (Some y) n i at is =
          let v = In-tree_row xs n y at in
          let w = has_volume (staged_open c) are y v.0 in
          ap is_some (ap (rows t) (sym v.1) ∙ w.there)

      no_parent : (sectors : ℕ) (h : Held) (n : Name) (u : List ℕ) (image : Body) → IsReadAs g.told s.geometry sectors h n image → n ≡ Raw u → parent_name image ≡ None
      no_parent sectors h n u image read is = ap parent_name (subst (λ m. IsReadAs g.told s.geometry sectors h m image) is read).is

      raw : (o : Option TreeRow) (u : List ℕ) (i : Link) → tree_row xs (Raw u) ≡ o → link_in o ≡ Some i → i.parent ≡ None
      raw None u i at is = absurd (none-some i is)
      raw (Some y) u i at is =
          let v = In-tree_row xs (Raw u) y at in
          let w = read_row are each y v.0 in
          ap (λ (l : Link). l.parent) (sym (same_Some (record { size = sector_count y.image; parent = parent_name y.image }) i is)) ∙ no_parent _ _ w.volume.name u y.image w.row.image (sym w.row.named ∙ v.1)

  -- ---- a leaf is being folded

  module _ (l p : List ℕ) (found : head (folding t) ≡ Some (Leaf l p)) where
    pub one : folding t ≡ Leaf l p ∷ []
    one = head_alone (folding t) (Leaf l p) found c.one_folding

    abbrev u : VolumeTable
    u = ended t

    pub unleafed_is : unleafed t ≡ u
    unfolding ended
    unleafed_is = ap (λ o. applied_all t (leaf_ends t o)) found ∙ ap (applied_all t) (sym (ends_are t l p one))

    entry : (r : Row) × (rows t (Leaf l p) ≡ Some r) × In r t.volumes
    entry =
        let k = In-filter is_folding (names_of t.volumes) (Leaf l p) (subst (In (Leaf l p)) (sym one) (inl refl)) in
        let r = In-map (λ (r : Row). r.name) t.volumes (Leaf l p) k.0 in
        (r.0, ap (rows t) r.2 ∙ found_in t.volumes c.table.volumes.rising r.0 r.1, r.1)

    entry_named : IsName (Leaf l p)
    entry_named = subst IsName (row_of-name t.volumes (Leaf l p) entry.0 entry.1) (All-In IsVolume t.volumes entry.0 c.table.volumes.each entry.2).name

    pub leaf_named : IsName (Vhd l)
    unfolding IsName
    leaf_named = entry_named.0

    stage : is_folding_leaf t l p ≡ true
    unfolding is_at_stage
    stage = (and_parts (is_folding_leaf t l p) (are_past t (Leaf l p))
        (not_false _ (sym (ap (λ n. is_entry n && not (is_at_stage t n && are_past t n)) (row_of-name t.volumes (Leaf l p) entry.0 entry.1)) ∙ c.at_stage entry.0 entry.2))).0

    pub table_now : IsTable s.count u
    table_now = ended_table s.count seen sound c.table (homes seen) l p one

    pub left_sound : fault_of (ended_outline seen) ≡ None
    left_sound = ended_sound s.count seen sound c.table (homes seen) l p one

    pub left_simple : IsSimple u
    left_simple = ended_simple s.count seen sound c.table (homes seen) l p one

    pub left_quiet : folding u ≡ []
    left_quiet = ended_folding s.count seen sound c.table (homes seen) l p one

    pub left_permits : AllPermit s.count t (leaf_changes t l p)
    left_permits = ended_permits s.count seen sound c.table (homes seen) l p one

    making_kept : is_leaf_renamed t l p ≡ false → making u ≡ making t
    making_kept not_renamed = same_making s.count seen sound c.table (homes seen) l p one not_renamed

    -- a volume is read off the one table as off the other
    read_other : (n : Name) → is_image_name n ≡ true → rows u n ≡ rows t n → ((all : ℕ) → image_extents (making u) n all ≡ image_extents (making t) n all) → IsStaged s u → rows (shortened u) n ≡ rows (shortened t) n
    read_other n image same alike staged_now =
        short_row staged_now n (image_not_making n (named_data n image)) ∙ ap (option_map (as_read (making u))) same
        ∙ read_alike (making u) (making t) n (rows t n) (λ r is. row_of-name t.volumes n r is) alike ∙ sym (short_row (staged_open c) n (image_not_making n (named_data n image)))

    -- the leaf was renamed
    module _ (renamed : is_leaf_renamed t l p ≡ true) (staged_now : IsStaged s u) where
      hidden : (r : Row) × (rows t (Vhd p) ≡ Some r) × ((r.hidden && not r.fresh) ≡ true)
      hidden = of_row_parts (λ r. r.hidden && not r.fresh) (rows t (Vhd p))
          (and_parts (is_hidden t (Vhd p)) (not (is_there t (Vhd l)) && not (is_there t (Raw l)))
          (and_parts (is_there t (Old l)) (is_hidden t (Vhd p) && (not (is_there t (Vhd l)) && not (is_there t (Raw l)))) renamed).1).0

      no_leaf : rows t (Vhd l) ≡ None
      no_leaf = none_of_some (rows t (Vhd l)) (not_true (is_there t (Vhd l)) (and_parts (not (is_there t (Vhd l))) (not (is_there t (Raw l)))
          (and_parts (is_hidden t (Vhd p)) (not (is_there t (Vhd l)) && not (is_there t (Raw l)))
          (and_parts (is_there t (Old l)) (is_hidden t (Vhd p) && (not (is_there t (Vhd l)) && not (is_there t (Raw l)))) renamed).1).1).0)

      abbrev r : Row
      r = hidden.0

      r_name : r.name ≡ Vhd p
      r_name = row_of-name t.volumes (Vhd p) r hidden.1

      fresh_no : r.fresh ≡ false
      fresh_no = not_true r.fresh (and_parts r.hidden (not r.fresh) hidden.2).1

      abbrev own : Row
      own = as_read (making t) r

      distinct : Vhd p ≢ Vhd l
      distinct is = none-some r (sym no_leaf ∙ ap (rows t) (sym is) ∙ hidden.1)

      whole_row : Row → Row
      whole_row q = as_read (making u) q

      now_row : rows (shortened u) (Vhd l) ≡ Some (record { name = Vhd l; hidden = false; fresh = false; extents = own.extents })
      now_row =
          let q = named_row s.count seen sound c.table (homes seen) l p one renamed r in
          short_row staged_now (Vhd l) refl ∙ ap (option_map (as_read (making u))) (ended_named s.count seen sound c.table (homes seen) l p one renamed r hidden.1)
          ∙ ap (λ k. let z : Row = record { name = Vhd l; hidden = false; fresh = r.fresh; extents = take k q.extents } in Some z) (ended_whole s.count seen sound c.table (homes seen) l p one renamed (length q.extents))
          ∙ ap (λ es. let z : Row = record { name = Vhd l; hidden = false; fresh = r.fresh; extents = es } in Some z) (take_all (length q.extents) q.extents (omega arith))
          ∙ ap₂ (λ f n. let z : Row = record { name = Vhd l; hidden = false; fresh = f; extents = take (image_extents (making t) n (length r.extents)) r.extents } in Some z) fresh_no (sym r_name)

      moved : IsMoved (shortened t) (shortened u) (Vhd p) (Vhd l) own
      moved = record {
        there = short_row (staged_open c) (Vhd p) refl ∙ ap (option_map (as_read (making t))) hidden.1;
        filled = fresh_no;
        now = now_row;
        gone = λ other. short_row staged_now (Vhd p) refl ∙ ap (option_map (as_read (making u))) (ended_parent s.count seen sound c.table (homes seen) l p one renamed);
        others = λ n image not_from not_to. read_other n image
            (ended_other s.count seen sound c.table (homes seen) l p one renamed n not_to not_from (not_old n l image) (not_leaf n l p image) (λ e made. not_inflate n p e image))
            (ended_extents s.count seen sound c.table (homes seen) l p one renamed n not_from) staged_now;
      }

    -- it was not
    module _ (not_renamed : is_leaf_renamed t l p ≡ false) (staged_now : IsStaged s u) where
      own_row : (r : Row) × (rows t (Vhd l) ≡ Some r) × (r.fresh ≡ false)
      own_row = by (is_leaf_copied t l p) (is_leaf_swapped t l p) (is_leaf_folded t l p) refl refl refl (sym (ap (λ b. is_leaf_copied t l p || (b || (is_leaf_swapped t l p || is_leaf_folded t l p))) not_renamed) ∙ stage)
        where
          shown : is_visible t (Vhd l) ≡ true → (r : Row) × (rows t (Vhd l) ≡ Some r) × (r.fresh ≡ false)
          shown h = let k = of_row_parts (λ r. not r.hidden && not r.fresh) (rows t (Vhd l)) h in (k.0, k.1, not_true k.0.fresh (and_parts (not k.0.hidden) (not k.0.fresh) k.2).1)

          full : is_filled t (Vhd l) ≡ true → (r : Row) × (rows t (Vhd l) ≡ Some r) × (r.fresh ≡ false)
          full h = let k = of_row_parts (λ r. not r.fresh) (rows t (Vhd l)) h in (k.0, k.1, not_true k.0.fresh k.2)

          by : (a w f : Bool) → is_leaf_copied t l p ≡ a → is_leaf_swapped t l p ≡ w → is_leaf_folded t l p ≡ f → (a || (false || (w || f))) ≡ true → (r : Row) × (rows t (Vhd l) ≡ Some r) × (r.fresh ≡ false)
          by true w f is_a is_w is_f h = shown (and_parts (is_visible t (Vhd l)) (is_hidden t (Vhd p) && not (is_there t (Old l))) is_a).0
          by false true f is_a is_w is_f h = full (and_parts (is_filled t (Vhd l)) (not (is_there t (Vhd p))) (and_parts (is_there t (Old l)) (is_filled t (Vhd l) && not (is_there t (Vhd p))) is_w).1).0
          by false false true is_a is_w is_f h = shown (and_parts (is_visible t (Vhd l)) (not (is_there t (Old l)) && not (is_there t (Vhd p))) is_f).0
          by false false false is_a is_w is_f h = absurd (true≢false (sym h))

      abbrev q : Row
      q = own_row.0

      q_name : q.name ≡ Vhd l
      q_name = row_of-name t.volumes (Vhd l) q own_row.1

      kept_making : making u ≡ making t
      kept_making = making_kept not_renamed

      shown_now : rows (shortened u) (Vhd l) ≡ Some (record { name = Vhd l; hidden = false; fresh = false; extents = (as_read (making t) q).extents })
      shown_now =
          short_row staged_now (Vhd l) refl ∙ ap₂ (λ ns o. option_map (as_read ns) o) kept_making (ended_leaf s.count seen sound c.table (homes seen) l p one not_renamed q own_row.1)
          ∙ ap₂ (λ n f. let z : Row = record { name = n; hidden = false; fresh = f; extents = take (image_extents (making t) q.name (length q.extents)) q.extents } in Some z) q_name own_row.2

      stays : IsMoved (shortened t) (shortened u) (Vhd l) (Vhd l) (as_read (making t) q)
      stays = record {
        there = short_row (staged_open c) (Vhd l) refl ∙ ap (option_map (as_read (making t))) own_row.1;
        filled = own_row.2;
        now = shown_now;
        gone = λ other. absurd (other refl);
        others = λ n image not_from not_to. read_other n image (ended_same s.count seen sound c.table (homes seen) l p one not_renamed n not_to (not_old n l image) (not_leaf n l p image))
            (λ all. ap (λ ns. image_extents ns n all) kept_making) staged_now;
      }

    -- ---- the links

    abbrev link_of : Bool → Name → Option Link
    link_of b n = (cond b (cond (name_eq n (Vhd l)) (Some (Vhd p)) (cond (name_eq n (Vhd p)) None (Some n))) (Some n)) >>= (λ m. link_in (tree_row xs m))

    from_is : (n : Name) → (ended_from t n >>= (λ m. link_in (tree_row xs m))) ≡ link_of (is_leaf_renamed t l p) n
    unfolding ended_from
    from_is n = ap (λ o. from_leaf t o n >>= (λ m. link_in (tree_row xs m))) found

    -- ---- all of it, where the table that is left is known

    module _ (staged_now : IsStaged s u) where
      free : is_leaf_renamed t l p ≡ true → tree_row xs (Vhd l) ≡ None
      free renamed = no_row (staged_open c) are (Vhd l) (no_leaf renamed staged_now)

      pub can_end : CanEnd t (Some (Leaf l p)) xs
      can_end = (leaf_named, λ renamed. tree_row-without_other xs (Vhd p) (Vhd l) (distinct renamed staged_now) ∙ free renamed)

      abbrev pub ys : List TreeRow
      ys = leaf_back t (Some (Leaf l p)) xs

      back_as : (b : Bool) → is_leaf_renamed t l p ≡ b → ys ≡ cond b (base_back (Vhd p) (Vhd l) xs) (base_back (Vhd l) (Vhd l) xs)
      back_as b is = ap (λ b. cond b (base_back (Vhd p) (Vhd l) xs) (base_back (Vhd l) (Vhd l) xs)) is

      from_t : AreFound (shortened t) (read_volumes t)
      from_t = volumes_found (staged_open c)

      to_u : AreFound (shortened u) (read_volumes u)
      to_u = volumes_found staged_now

      pub ended_are : AreRowsOf (read_volumes u) ys
      ended_are = by (is_leaf_renamed t l p) refl
        where
          by : (b : Bool) → is_leaf_renamed t l p ≡ b → AreRowsOf (read_volumes u) ys
          by true is = subst (AreRowsOf (read_volumes u)) (sym (back_as true is)) (moved_are g store xs from_t to_u p l (own is staged_now) (moved is staged_now) are each (λ other. free is))
          by false is = subst (AreRowsOf (read_volumes u)) (sym (back_as false is)) (moved_are g store xs from_t to_u l l (as_read (making t) (q is staged_now)) (stays is staged_now) are each (λ other. absurd (other refl)))

      pub ended_each : HasEachRow g.told (stored_with g store (shortened u)) (read_volumes u) ys
      ended_each = by (is_leaf_renamed t l p) refl
        where
          by : (b : Bool) → is_leaf_renamed t l p ≡ b → HasEachRow g.told (stored_with g store (shortened u)) (read_volumes u) ys
          by true is = subst (HasEachRow g.told (stored_with g store (shortened u)) (read_volumes u)) (sym (back_as true is)) (moved_each g store xs from_t to_u p l (own is staged_now) (moved is staged_now) are each (λ other. free is))
          by false is = subst (HasEachRow g.told (stored_with g store (shortened u)) (read_volumes u)) (sym (back_as false is)) (moved_each g store xs from_t to_u l l (as_read (making t) (q is staged_now)) (stays is staged_now) are each (λ other. absurd (other refl)))

      pub ended_links : (n : Name) → link_in (tree_row ys n) ≡ (ended_from t n >>= (λ m. link_in (tree_row xs m)))
      ended_links n = by (is_leaf_renamed t l p) refl ∙ sym (from_is n)
        where
          renamed : (is : is_leaf_renamed t l p ≡ true) (a b : Bool) → name_eq n (Vhd l) ≡ a → name_eq n (Vhd p) ≡ b
              → link_in (tree_row (base_back (Vhd p) (Vhd l) xs) n) ≡ ((cond a (Some (Vhd p)) (cond b None (Some n))) >>= (λ m. link_in (tree_row xs m)))
          renamed is true b at_leaf at_parent =
              ap₂ (λ zs m. link_in (tree_row zs m)) (rows_are g store xs from_t to_u p l (own is staged_now) (moved is staged_now) are each (λ other. free is)) (name_eq-true n (Vhd l) at_leaf)
              ∙ link_new g store xs from_t to_u p l (own is staged_now) (moved is staged_now) are each (λ other. free is)
          renamed is false true at_leaf at_parent =
              ap₂ (λ zs m. link_in (tree_row zs m)) (rows_are g store xs from_t to_u p l (own is staged_now) (moved is staged_now) are each (λ other. free is)) (name_eq-true n (Vhd p) at_parent)
              ∙ ap link_in (at_gone g store xs from_t to_u p l (own is staged_now) (moved is staged_now) are each (λ other. free is) (distinct is staged_now))
          renamed is false false at_leaf at_parent =
              ap (λ zs. link_in (tree_row zs n)) (rows_are g store xs from_t to_u p l (own is staged_now) (moved is staged_now) are each (λ other. free is))
              ∙ ap link_in (at_other g store xs from_t to_u p l (own is staged_now) (moved is staged_now) are each (λ other. free is) n (name_eq-false n (Vhd p) at_parent) (name_eq-false n (Vhd l) at_leaf))

          same : (is : is_leaf_renamed t l p ≡ false) (a : Bool) → name_eq n (Vhd l) ≡ a → link_in (tree_row (base_back (Vhd l) (Vhd l) xs) n) ≡ link_in (tree_row xs n)
          same is true at_leaf =
              ap₂ (λ zs m. link_in (tree_row zs m)) (rows_are g store xs from_t to_u l l (as_read (making t) (q is staged_now)) (stays is staged_now) are each (λ other. absurd (other refl))) (name_eq-true n (Vhd l) at_leaf)
              ∙ link_new g store xs from_t to_u l l (as_read (making t) (q is staged_now)) (stays is staged_now) are each (λ other. absurd (other refl))
              ∙ ap (λ m. link_in (tree_row xs m)) (sym (name_eq-true n (Vhd l) at_leaf))
          same is false at_leaf =
              ap (λ zs. link_in (tree_row zs n)) (rows_are g store xs from_t to_u l l (as_read (making t) (q is staged_now)) (stays is staged_now) are each (λ other. absurd (other refl)))
              ∙ ap link_in (at_other g store xs from_t to_u l l (as_read (making t) (q is staged_now)) (stays is staged_now) are each (λ other. absurd (other refl)) n (name_eq-false n (Vhd l) at_leaf) (name_eq-false n (Vhd l) at_leaf))

          by : (b : Bool) → is_leaf_renamed t l p ≡ b → link_in (tree_row ys n) ≡ link_of b n
          by true is = ap (λ zs. link_in (tree_row zs n)) (back_as true is) ∙ renamed is (name_eq n (Vhd l)) (name_eq n (Vhd p)) refl refl
          by false is = ap (λ zs. link_in (tree_row zs n)) (back_as false is) ∙ same is (name_eq n (Vhd l)) refl

      -- the checks pass of the table that is left, beside these rows
      pub ended_pass : (x : Outline) → HasTable s.geometry u x → HasLinks ys x → HasPlaces places x → fault_of x ≡ None
      ended_pass x is links in_places =
          ap₂ (λ v f. fault_of (record x { table = v; links = f })) is.table (fun_ext (λ n. links n ∙ ended_links n))
          ∙ ended_sound s.count (with_rows x) (pass (with_rows x) (record { extent = is.extent; block = is.block; entries = is.entries; table = refl }) (λ n. refl) (record { long = in_places.long; each = in_places.each }))
          c.table (homes x) l p one
