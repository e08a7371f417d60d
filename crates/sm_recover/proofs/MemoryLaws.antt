-- Memory beside the table without a fork or an enlargement: the images as they were read, and where a fork is undone, the base as
-- the disk's image.
use Rattle.std.proofs.Common.{◌≡◌, ℕ, false, List, [], ◌∷◌, length, Option, Some, None, is_some, refl, sym, ap, ◌∙◌, subst}
use Rattle.std.proofs.lemmas.Option.{none-some}
use Rattle.sm_base.specs.declared.names.Name.{Name}
use Rattle.sm_base.specs.declared.names.Name.TheVariants.{Mgt, Vhd, Raw, Old, Cbt, Clone, Inflate, Coalesce, Relink, Leaf}
use Rattle.vg_meta.specs.Tables.{Row, VolumeTable, rows}
use Rattle.vg_volumes.specs.declared.stores.Store.{Ghosts}
use Rattle.common_laws.specs.Lists.{In}
use Rattle.sm_record.specs.declared.records.Record.{Record}
use Rattle.sm_mgt.specs.Places.{place_count}
use Rattle.sm_standing.specs.Checks.{PassesButLeaf, is_misnamed}
use Rattle.sm_standing.specs.Entries.{head, image_with, making}
use Rattle.sm_standing.specs.Opened.{undone}
use Rattle.sm_standing.specs.Outlines.{Outline}
use Rattle.sm_standing.specs.Standing.{standing_volume}
use Rattle.sm_standing.specs.Undone.{IsBeingEnlarged}
use Rattle.sm_standing.proofs.UndoneLaws.{named_undone, stands_undone, undone_later}
use Rattle.vhd_chain.specs.declared.rows.TreeRow.{TreeRow}
use Rattle.sm_recover.specs.Backs.{rows_back}
use Rattle.sm_checks.specs.Faults.{HasLinks, HasPlaces, HasTable}
use Rattle.sm_checks.specs.Loaded.{AreRowsOf, HasEachRow, read_volumes, shortened, stored_with}
use Rattle.sm_recover.specs.Repairs.{IsUndoable}
use Rattle.sm_recover.proofs.CheckedTrees as checked
use Rattle.sm_checks.proofs.EntryLaws.{enlarged_found}
use Rattle.sm_recover.proofs.UndoTables.{staged}
use Rattle.sm_recover.proofs.ForkedMemory.{dropped_beside, taken_beside}
use Rattle.sm_recover.proofs.GiveBackLaws.{rows_none, rows_some}
use Rattle.sm_recover.proofs.OpenedWell.{IsBeside}
use Rattle.sm_checks.proofs.TableLaws.{shortened_undone, whole_none}
use Rattle.sm_recover.proofs.UndoneLaws.{not_making, undone_nothing}

module _ {S : Type 0} (g : Ghosts S) (store : S) (xs : List TreeRow) (places : List (Option Record)) {was : VolumeTable} (c : IsUndoable (g.site store) was) (are_read : AreRowsOf (read_volumes was) xs)
    (each_read : HasEachRow g.told (stored_with g store (shortened was)) (read_volumes was) xs) (long : length places ≡ place_count)
    (pass : (x : Outline) → HasTable (g.site store).geometry was x → HasLinks xs x → HasPlaces places x → PassesButLeaf x) where
  named : (r : Row) → In r was.volumes → is_misnamed was r ≡ false
  named = checked.named g store xs places (staged c) are_read each_read long pass

  -- ---- no fork is under way

  unforked : undone was ≡ shortened was → ((r : Row) → In r (undone was).volumes → is_misnamed (undone was) r ≡ false) → ((u : List ℕ) → standing_volume (undone was) u ≡ standing_volume was u) → IsBeside g store was xs places
  unforked same named_now stands = record {
    are = subst (λ (t : VolumeTable). AreRowsOf t.volumes xs) (sym same) (checked.are g store xs places (staged c) are_read each_read);
    each = subst (λ (t : VolumeTable). HasEachRow g.told (stored_with g store t) t.volumes xs) (sym same) (checked.each g store xs places (staged c) are_read each_read);
    named = named_now;
    parents = checked.parents g store xs places (staged c) are_read each_read long pass;
    chains = checked.chains g store xs places (staged c) are_read each_read long pass;
    recorded = λ u stood. checked.recorded g store xs places (staged c) are_read each_read long pass u (ap is_some (sym (stands u)) ∙ stood);
    source = λ u r there filled. (u, r, ap (λ t. rows t (Vhd u)) (sym same) ∙ there, filled, refl);
  }

  nothing : head (making was) ≡ None → IsBeside g store was xs places
  nothing none =
      let same = undone_nothing was none in
      unforked (same ∙ sym (whole_none was (no_names (making was) none)).table) (subst (λ t. (r : Row) → In r t.volumes → is_misnamed t r ≡ false) (sym same) named) (λ u. ap (λ t. standing_volume t u) same)
    where
      no_names : (ns : List Name) → head ns ≡ None → ns ≡ []
      no_names [] none = refl
      no_names (n ∷ ns) none = absurd (none-some n (sym none))

  enlarged : (u : List ℕ) (e : ℕ) → IsBeingEnlarged was u e → IsBeside g store was xs places
  enlarged u e w =
      unforked (sym (shortened_undone was u e w.entry)) (named_undone was u e w (undone was).sequence (undone_later was u e w (g.site store).count c.table) named)
      (stands_undone was u e w (undone was).sequence c.simple)

  -- ---- the fork that is under way

  forked : (d b w : List ℕ) → head (making was) ≡ Some (Clone d b w) → IsBeside g store was (rows_back was xs) places
  forked d b w found = by (image_with was b) refl
    where
      by : (o : Option Name) → image_with was b ≡ o → IsBeside g store was (rows_back was xs) places
      by None none = dropped_beside g store xs places c are_read each_read long pass d b w found none
      by (Some from) there = taken_beside g store xs places c are_read each_read long pass d b w found from there

  -- ---- memory as it is answered

  pub beside : IsBeside g store was (rows_back was xs) places
  beside = by (head (making was)) refl
    where
      same : rows_back was xs ≡ xs → IsBeside g store was xs places → IsBeside g store was (rows_back was xs) places
      same is k = subst (λ ys. IsBeside g store was ys places) (sym is) k

      by : (o : Option Name) → head (making was) ≡ o → IsBeside g store was (rows_back was xs) places
      by None none = same (rows_none was xs none) (nothing none)
      by (Some (Inflate u e)) found = same (rows_some was xs (Inflate u e) found) (enlarged u e (enlarged_found u e (staged c) found))
      by (Some (Clone d b w)) found = forked d b w found
      by (Some Mgt) found = absurd (not_making c Mgt found refl)
      by (Some (Vhd u)) found = absurd (not_making c (Vhd u) found refl)
      by (Some (Raw u)) found = absurd (not_making c (Raw u) found refl)
      by (Some (Old u)) found = absurd (not_making c (Old u) found refl)
      by (Some (Cbt u)) found = absurd (not_making c (Cbt u) found refl)
      by (Some (Coalesce v p)) found = absurd (not_making c (Coalesce v p) found refl)
      by (Some (Relink v p)) found = absurd (not_making c (Relink v p) found refl)
      by (Some (Leaf l p)) found = absurd (not_making c (Leaf l p) found refl)
