-- Memory beside the table without the entry of a copy or of a link: the images are read as they are with it.
use Rattle.std.proofs.Common.{◌≡◌, ⊎_elim, ℕ, true, false, List, [], ◌∷◌, length, map, Option, Some, None, is_some, refl, sym, ap, ap₂, ◌∙◌, subst}
use Rattle.std.specs.Prelude.{option_map}
use Rattle.std.specs.List.{filter_map, cons_option}
use Rattle.std.proofs.lemmas.Bool.{true≢false}
use Rattle.common_laws.specs.Lists.{In}
use Rattle.common_laws.proofs.Lists.{In-map, In-map_at}
use Rattle.sm_base.specs.Kinds.{is_image}
use Rattle.sm_base.specs.declared.names.Name.{Name}
use Rattle.sm_base.specs.declared.names.Name.TheVariants.{Mgt, Vhd, Raw, Old, Cbt, Clone, Inflate, Coalesce, Relink, Leaf}
use Rattle.vg_meta.specs.Changes.{raised}
use Rattle.vg_meta.specs.Tables.{Row, VolumeTable, rows}
use Rattle.vg_volumes.specs.Sites.{Site}
use Rattle.vg_volumes.specs.declared.stores.Store.{Ghosts}
use Rattle.sm_record.specs.declared.records.Reading.TheVariants.{Free}
use Rattle.sm_record.specs.declared.records.Record.{Record}
use Rattle.sm_mgt.specs.Places.{place_count}
use Rattle.sm_standing.specs.Checks.{PassesButLeaf}
use Rattle.sm_standing.specs.Entries.{folding, head, image_with, is_folding, making}
use Rattle.sm_standing.specs.Outlines.{Outline}
use Rattle.sm_standing.specs.Opened.{undone}
use Rattle.sm_standing.specs.Standing.{standing_volume}
use Rattle.sm_standing.specs.Unfolded.{unfolded}
use Rattle.sm_standing.proofs.Orders.{In-filter_map}
use Rattle.sm_standing.proofs.UnfoldedLaws.{In-bare}
use Rattle.sm_standing.proofs.UnfoldedButLeaf.{fold_cases, fold_or_not, unfolded_but_leaf, unfolded_is as without_is, unfolded_none as without_none}
use Rattle.sm_standing.proofs.UnfoldedChecks.{standing_bare}
use Rattle.vhd_chain.specs.Trees.{tree_row, without as without_row}
use Rattle.vhd_chain.specs.declared.rows.TreeRow.{TreeRow}
use Rattle.sm_ready.proofs.EntryKinds.{image_not_folding, image_not_making}
use Rattle.sm_ready.specs.Outlined.{link_in}
use Rattle.sm_ready.proofs.Orders.{In-tree_row}
use Rattle.sm_recover.specs.Backs.{entry_back, fork_back, rows_back}
use Rattle.sm_checks.specs.Faults.{HasLinks, HasPlaces, HasTable}
use Rattle.sm_checks.specs.Loaded.{AreRowsOf, HasEachRow, as_read, read_volumes, row_among, shortened, stored_with}
use Rattle.sm_recover.specs.Repairs.{IsEndable, IsUndoable}
use Rattle.sm_recover.proofs.UndoTables.{staged, staged_end}
use Rattle.sm_recover.proofs.ForkedMemory.{row_moved}
use Rattle.sm_checks.proofs.LoadedLaws.{among_of, named_data, none_among, read_from}
use Rattle.sm_recover.proofs.MemoryLaws.{beside}
use Rattle.sm_recover.proofs.OpenedWell.{IsBeside}
use Rattle.sm_recover.proofs.StandingLaws.{stands_then}
use Rattle.sm_checks.proofs.TableLaws.{filtered_without, short_row}
use Rattle.sm_recover.proofs.UnfoldLaws.{folding_found, image_same, making_same, still, undoable_unfolded, unfolded_is, unfolded_none}

-- ---- the table without the entry

-- what is the same in it
pub record IsBare (t u : VolumeTable) : Type 0 where
  pub making_as : making u ≡ making t
  pub row_as : (n : Name) → is_folding n ≡ false → rows u n ≡ rows t n
  pub image_as : (v : List ℕ) → image_with u v ≡ image_with t v
  pub volume_in : (r : Row) → In r u.volumes → In r t.volumes
  pub given : (f : Row → Option TreeRow) → ((r : Row) → is_folding r.name ≡ true → f r ≡ None) → filter_map f u.volumes ≡ filter_map f t.volumes

pub bare : {s : Site} {t : VolumeTable} → IsEndable s t → IsBare t (unfolded t)
bare {s} {t} c = by (head (folding t)) refl
  where
    by : (o : Option Name) → head (folding t) ≡ o → IsBare t (unfolded t)
    by None none = subst (IsBare t) (sym (unfolded_none none)) (record { making_as = refl; row_as = λ n other. refl; image_as = λ v. refl; volume_in = λ r i. i; given = λ f nothing. refl })
    by (Some e) found =
        let h = folding_found e c found in
        subst (IsBare t) (sym (unfolded_is t e h)) (record {
          making_as = making_same t e h;
          row_as = still t e h;
          image_as = image_same t e h;
          volume_in = In-bare e t.volumes;
          given = λ f nothing. filtered_without f e t.volumes (λ r is. nothing r (ap is_folding is ∙ h.folds));
        })

pub filtered_map : {B : Type 0} (f : Row → Option B) (change : Row → Row) (rs : List Row) → filter_map f (map change rs) ≡ filter_map (λ r. f (change r)) rs
filtered_map f change [] = refl
filtered_map f change (r ∷ rs) = ap (cons_option (f (change r))) (filtered_map f change rs)

-- an outline with this table alone
abbrev alone : VolumeTable → Outline
alone t = record { extent = 0; block = 0; entries = 0; table = t; links = λ n. None; readings = λ k. Free }

-- a row of no image is none of memory
no_link : (t : VolumeTable) (xs : List TreeRow) → AreRowsOf (read_volumes t) xs → (n : Name) → is_folding n ≡ true → link_in (tree_row xs n) ≡ None
no_link t xs are n folds = by (tree_row xs n) refl
  where
    by : (o : Option TreeRow) → tree_row xs n ≡ o → link_in o ≡ None
    by None is = refl
    by (Some y) is =
        let v = In-tree_row xs n y is in
        let w = In-filter_map (row_among xs) (read_volumes t) y (subst (In y) are v.0) in
        let named : w.0.name ≡ n = sym (read_from xs w.0 y w.2).named ∙ v.1 in
        absurd (true≢false (sym folds ∙ ap is_folding (sym named) ∙ image_not_folding w.0.name (named_data w.0.name (among_of xs w.0 y w.2).filled.image)))

module _ {S : Type 0} (g : Ghosts S) (store : S) (xs : List TreeRow) (places : List (Option Record)) {t : VolumeTable} (c : IsEndable (g.site store) t) (are : AreRowsOf (read_volumes t) xs)
    (each : HasEachRow g.told (stored_with g store (shortened t)) (read_volumes t) xs) (long : length places ≡ place_count)
    (pass : (x : Outline) → HasTable (g.site store).geometry t x → HasLinks xs x → HasPlaces places x → PassesButLeaf x) where
  abbrev u : VolumeTable
  u = unfolded t

  b : IsBare t u
  b = bare c

  k : IsUndoable (g.site store) u
  k = undoable_unfolded c

  are_bare : AreRowsOf (read_volumes u) xs
  are_bare =
      are ∙ filtered_map (row_among xs) (as_read (making t)) t.volumes
      ∙ sym (b.given (λ r. row_among xs (as_read (making t) r)) (λ r folds. none_among xs (as_read (making t) r) (λ f. true≢false (sym folds ∙ image_not_folding r.name (named_data r.name f.image)))))
      ∙ sym (filtered_map (row_among xs) (as_read (making t)) u.volumes) ∙ ap (λ ns. filter_map (row_among xs) (map (as_read ns) u.volumes)) (sym b.making_as)

  read_in : (r : Row) → In r (read_volumes u) → In r (read_volumes t)
  read_in r i =
      let q = In-map (as_read (making u)) u.volumes r i in
      subst (λ x. In x (read_volumes t)) (ap (λ ns. as_read ns q.0) (sym b.making_as) ∙ sym q.2) (In-map_at (as_read (making t)) t.volumes q.0 (b.volume_in q.0 q.1))

  short_as : (n : Name) → is_image n ≡ true → rows (shortened u) n ≡ rows (shortened t) n
  short_as n image =
      short_row (staged k) n (image_not_making n image)
      ∙ ap₂ (λ ns o. option_map (as_read ns) o) b.making_as (b.row_as n (image_not_folding n image)) ∙ sym (short_row (staged_end c) n (image_not_making n image))

  each_bare : HasEachRow g.told (stored_with g store (shortened u)) (read_volumes u) xs
  each_bare r i filled =
      let w = each r (read_in r i) filled in
      (w.0, w.1, row_moved g.told (stored_with g store t) (shortened t) (shortened u) r w.0 (short_as r.name (named_data r.name filled.image)) w.2)

  pass_bare : (x : Outline) → HasTable (g.site store).geometry u x → HasLinks xs x → HasPlaces places x → PassesButLeaf x
  pass_bare x has links in_places =
      subst (λ v. PassesButLeaf (record x { table = v })) (sym has.table)
      (unfolded_but_leaf (g.site store).count (record x { table = t }) (λ n folds. links n ∙ no_link t xs are n folds) c.table
      (pass (record x { table = t }) (record { extent = has.extent; block = has.block; entries = has.entries; table = refl }) links (record { long = in_places.long; each = in_places.each })))

  back_as : rows_back u xs ≡ rows_back t xs
  unfolding rows_back
  back_as = ap (λ ns. entry_back u (head ns) xs) b.making_as ∙ by (head (making t))
    where
      by : (o : Option Name) → entry_back u o xs ≡ entry_back t o xs
      by (Some (Clone d a w)) = ap (λ o. fork_back o d (without_row (Vhd w) xs)) (b.image_as a)
      by None = refl
      by (Some Mgt) = refl
      by (Some (Vhd v)) = refl
      by (Some (Raw v)) = refl
      by (Some (Old v)) = refl
      by (Some (Cbt v)) = refl
      by (Some (Inflate v e)) = refl
      by (Some (Coalesce v p)) = refl
      by (Some (Relink v p)) = refl
      by (Some (Leaf l p)) = refl

  -- memory as it is answered
  pub beside_bare : IsBeside g store u (rows_back t xs) places
  beside_bare = subst (λ ys. IsBeside g store u ys places) back_as (beside g store xs places k are_bare each_bare long pass_bare)

  -- the volume of records is the same
  pub records_bare : rows u Mgt ≡ rows t Mgt
  records_bare = b.row_as Mgt refl

  -- a UUID that is a disk is one at last
  bare_stands : (v : List ℕ) → standing_volume u v ≡ standing_volume t v
  bare_stands v = ⊎_elim
      (λ none. ap (λ x. standing_volume x v) (without_none t none))
      (λ h. ap (λ x. standing_volume x v) (without_is t h.0 h.2) ∙ standing_bare (alone t) (λ n folds. refl) h.0 h.1 (raised t.sequence) h.2 v) (fold_or_not t (fold_cases t c.known c.one_folding))

  pub stands_bare : (v : List ℕ) → is_some (standing_volume t v) ≡ true → is_some (standing_volume (undone u) v) ≡ true
  stands_bare v stands = stands_then g store xs places k are_bare each_bare long pass_bare v (ap is_some (bare_stands v) ∙ stands)
