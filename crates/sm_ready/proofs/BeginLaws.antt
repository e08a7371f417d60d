-- A new volume for an image whose UUID no image has: that its commit is allowed and leaves table and memory orderly, and that the
-- disk's record goes into a free place.
use Rattle.std.proofs.Common.{◌≡◌, ◌≢◌, ⊎_elim, ℕ, ◌+◌, ◌<◌, ◌≤◌, Bool, true, false, cond, ◌&&◌, ◌||◌, not, nat_lt, bytes_eq, List, [], ◌∷◌, length, filter, get_or, position, is_none, is_some, Option, Some, None, refl, sym, ap, ap₂, ◌∙◌, subst, arith}
use Rattle.std.proofs.Math.Logic.{∥∥₁_elim}
use Rattle.std.proofs.Props.{props}
use Rattle.std.specs.Option.{option_or}
use Rattle.std.specs.Ordering.{is_lt}
use Rattle.std.proofs.lemmas.Bool.{true≢false, lt-ltb, cond_both, or_parts}
use Rattle.std.proofs.lemmas.List.Quantifiers.{position-Some}
use Rattle.std.proofs.lemmas.Option.{none-some}
use Rattle.std.proofs.lemmas.Slice.Eq.{bytes_eq-Decides}
use Rattle.common_laws.specs.Lists.{In}
use Rattle.common_laws.proofs.Lists.{find_none, list_any-find}
use Rattle.common_laws.proofs.Options.{none_of_some}
use Rattle.sm_base.specs.Kinds.{is_image}
use Rattle.sm_base.specs.Names.{IsName, is_base, name_cmp}
use Rattle.sm_base.specs.declared.names.Name.{Name}
use Rattle.sm_base.specs.declared.names.Name.TheVariants.{Mgt, Vhd, Raw, Old, Cbt, Clone, Inflate, Coalesce, Relink, Leaf}
use Rattle.vg_meta.specs.Tables.{VolumeTable, Row, rows, suits}
use Rattle.vg_meta.specs.Changes.{AreFree, Permits, applied, made, put}
use Rattle.vg_meta.specs.declared.changes.Change.TheVariants.{Create}
use Rattle.vg_meta.proofs.RowLaws.{row_of-put_same, row_of-put_other}
use Rattle.vg_volumes.specs.Sites.{Site, Fits}
use Rattle.sm_machine.specs.Shapes.{image_limit, image_uuid, is_image_of}
use Rattle.sm_machine.specs.WellFormed.{is_image_name}
use Rattle.sm_record.specs.declared.records.Record.{Record}
use Rattle.sm_mgt.specs.Places.{is_of, place_for}
use Rattle.sm_mgt.proofs.PlaceLaws.{place_below}
use Rattle.sm_standing.specs.Checks.{is_misnamed}
use Rattle.sm_standing.specs.Entries.{base_number}
use Rattle.sm_standing.proofs.DisksShown.{row_of-In}
use Rattle.vhd_chain.specs.Trees.{tree_row}
use Rattle.sm_ready.specs.Known.{Known, has_image, is_shown, machine_row, row_face, tree_face}
use Rattle.sm_ready.specs.Middle.{IsStray}
use Rattle.sm_ready.specs.Orderly.{IsOrderly}
use Rattle.sm_ready.specs.Ready.{HasNoStray, IsTidy}
use Rattle.sm_ready.proofs.CauseLaws.{named_as, raw_uuid, row_without, vhd_uuid}
use Rattle.sm_ready.proofs.FirstLaws.{IsNew}
use Rattle.sm_ready.proofs.FitLaws.{fits_orderly}
use Rattle.sm_ready.proofs.FreshLaws.{orderly_new}
use Rattle.sm_ready.proofs.Orders.{filled_face}
use Rattle.sm_ready.proofs.RowLaws.{image_named}
use Rattle.sm_ready.proofs.ShapeLaws.{at_place, mgt_image}
use Rattle.sm_ready.proofs.SumLaws.{images_counted}

-- ---- one row more that passes a test

filter-put : (test : Row → Bool) (r : Row) (rs : List Row) → test r ≡ true → length (filter test (put r rs)) ≡ length (filter test rs) + 1
unfolding put
filter-put test r [] is = subst (λ b. length (cond b (r ∷ []) []) ≡ 1) (sym is) refl
filter-put test r (s ∷ rs) is =
    cond_both (is_lt (name_cmp r.name s.name)) (r ∷ s ∷ rs) (s ∷ put r rs) (λ (l : List Row). length (filter test l) ≡ length (filter test (s ∷ rs)) + 1)
    (λ e. subst (λ b. length (cond b (r ∷ filter test (s ∷ rs)) (filter test (s ∷ rs))) ≡ length (filter test (s ∷ rs)) + 1) (sym is) (omega arith))
    (λ e. alike (test s) (filter-put test r rs is))
  where
    alike : (b : Bool) → length (filter test (put r rs)) ≡ length (filter test rs) + 1
        → length (cond b (s ∷ filter test (put r rs)) (filter test (put r rs))) ≡ length (cond b (s ∷ filter test rs) (filter test rs)) + 1
    alike true h = omega (arith, h)
    alike false h = h

-- an image that memory has not has no volume, where none is new
pub volume_less : (s : Site) (t : VolumeTable) (m : Known) (n : Name) → IsOrderly s t m → IsTidy t m → is_image n ≡ true → tree_row m.rows n ≡ None → rows t n ≡ None
volume_less s t m n o tidy image none = by (rows t n) refl (o.images n image ∙ ap tree_face none)
  where
    by : (x : Option Row) → rows t n ≡ x → row_face x ≡ None → x ≡ None
    by None is e = refl
    by (Some r) is e = absurd (none-some _ (sym e ∙ filled_face r (tidy.none_new r (row_of-In t.volumes n r is).0)))

-- ---- the place of the record

-- no image has the UUID, so none shows it
pub none_shown : (s : Site) (t : VolumeTable) (m : Known) (u : List ℕ) → IsOrderly s t m → has_image m.rows u ≡ false → is_shown m.rows u ≡ false
none_shown s t m u o absent = ∥∥₁_elim o.well_formed (hlevel props) (λ w.
    list_any-find (λ q. is_image_of u (machine_row q)) m.rows (find_none (λ q. is_image_of u (machine_row q)) m.rows
    (λ q i. ap (λ x. not q.hidden && x) (row_without s t m u o w absent q i) ∙ and_false (not q.hidden))))
  where
    and_false : (x : Bool) → (x && false) ≡ false
    and_false true = refl
    and_false false = refl

-- no place has a record of the UUID, so its record goes into a free one
pub stray_for : (s : Site) (t : VolumeTable) (m : Known) (k : ℕ) (r : Record) → IsOrderly s t m → HasNoStray m → has_image m.rows r.uuid ≡ false → place_for m.places r.uuid ≡ Some k → IsStray m k r
unfolding place_for
stray_for s t m k r o no_stray absent placed = record {
  within = omega (arith, place_below m.places r.uuid k placed, o.places);
  free = free_by (position (is_of r.uuid) m.places) refl placed;
  unseen = none_shown s t m r.uuid o absent;
}
  where
    no_record : (j : ℕ) → is_of r.uuid (get_or m.places j None) ≡ false
    no_record j = of (get_or m.places j None) refl
      where
        by : (q : Record) → In (Some q) m.places → (x : Bool) → bytes_eq q.uuid r.uuid ≡ x → x ≡ false
        by q i false e = refl
        by q i true e = absurd (true≢false (sym (no_stray q i) ∙ ap (is_shown m.rows) ((bytes_eq-Decides q.uuid r.uuid).0 e) ∙ none_shown s t m r.uuid o absent))

        of : (x : Option Record) → get_or m.places j None ≡ x → is_of r.uuid x ≡ false
        of None at = refl
        of (Some q) at = by q (at_place m.places j q at) (bytes_eq q.uuid r.uuid) refl

    free_by : (x : Option ℕ) → position (is_of r.uuid) m.places ≡ x → option_or x (position is_none m.places) ≡ Some k → get_or m.places k None ≡ None
    free_by None none at = none_at (get_or m.places k None) (position-Some is_none m.places k None at).1
      where
        none_at : (x : Option Record) → is_none x ≡ true → x ≡ None
        none_at None e = refl
        none_at (Some q) e = absurd (true≢false (sym e))
    free_by (Some j) some at =
        let found = position-Some (is_of r.uuid) m.places j None some in
        absurd (true≢false (sym found.1 ∙ no_record j))

-- ---- the commit that makes the volume

-- what a command knows that makes a new volume of this name, for an image of this UUID, on these extents
pub record IsToBegin (s : Site) (t : VolumeTable) (m : Known) (own : Name) (es u : List ℕ) : Type 0 where
  pub orderly : IsOrderly s t m
  pub tidy : IsTidy t m
  pub proper : IsName own
  pub image : is_image_name own ≡ true
  pub uuid : image_uuid own ≡ u
  pub not_base : is_base u ≡ false
  pub absent : has_image m.rows u ≡ false
  pub few : length m.rows + 1 ≤ image_limit
  pub some_extents : 0 < length es
  pub extents_free : AreFree s.count t.volumes es

-- a new volume for an image suits a table, where it has an extent
image_suits : (n : Name) (es : List ℕ) → is_image_name n ≡ true → nat_lt 0 (length es) ≡ true → suits (made n true es) ≡ true
unfolding is_image_name
image_suits (Vhd u) es image some = some
image_suits (Raw u) es image some = some
image_suits Mgt es image some = absurd (true≢false (sym image))
image_suits (Old u) es image some = absurd (true≢false (sym image))
image_suits (Cbt u) es image some = absurd (true≢false (sym image))
image_suits (Clone d b w) es image some = absurd (true≢false (sym image))
image_suits (Inflate u k) es image some = absurd (true≢false (sym image))
image_suits (Coalesce v p) es image some = absurd (true≢false (sym image))
image_suits (Relink v p) es image some = absurd (true≢false (sym image))
image_suits (Leaf l p) es image some = absurd (true≢false (sym image))

module _ (s : Site) (t : VolumeTable) (m : Known) (own : Name) (es u : List ℕ) (b : IsToBegin s t m own es u) where
  abbrev next : VolumeTable
  next = applied t (Create own true es)

  -- no image has the UUID, and no volume has it as an image's
  pub row_less : (n : Name) → is_image_name n ≡ true → image_uuid n ≡ u → tree_row m.rows n ≡ None
  row_less n image uuid =
      let none = or_parts (is_some (tree_row m.rows (Vhd u))) (is_some (tree_row m.rows (Raw u))) b.absent in
      ⊎_elim (λ is. ap (tree_row m.rows) is ∙ none_of_some (tree_row m.rows (Vhd u)) none.0) (λ is. ap (tree_row m.rows) is ∙ none_of_some (tree_row m.rows (Raw u)) none.1)
      (named_as n u image uuid)

  gone : (n : Name) → is_image_name n ≡ true → image_uuid n ≡ u → rows t n ≡ None
  gone n image uuid = volume_less s t m n b.orderly b.tidy (image_named n image) (row_less n image uuid)

  -- it is allowed
  pub may_begin : Permits s.count t (Create own true es)
  may_begin = record {
    name_proper = b.proper;
    new_name = gone own b.image b.uuid;
    not_mgt = λ e. true≢false (sym b.image ∙ ap is_image_name e ∙ mgt_image);
    kind = image_suits own es b.image (lt-ltb 0 (length es) b.some_extents);
    extents_free = b.extents_free;
  }

  -- and makes a new volume for an image
  pub new_begun : IsNew s t m own es
  unfolding is_image_name
  new_begun = record {
    no_new = b.tidy.none_new;
    allows = may_begin;
    image = b.image;
    few = omega (arith, filter-put (λ r. is_image r.name) (made own true es) t.volumes (image_named own b.image), images_counted s t m b.tidy.none_new b.orderly, b.few);
    right = ⊎_elim
        (λ is. subst (λ n. is_misnamed next (made n true es) ≡ false) (sym is) (ap₂ passes (ap is_some (twin (Raw u) (λ e. let x = sym is ∙ e in cc) refl (raw_uuid u))) b.not_base))
        (λ is. subst (λ n. is_misnamed next (made n true es) ≡ false) (sym is) (ap₂ passes (ap is_some (twin (Vhd u) (λ e. let x = sym is ∙ e in cc) refl (vhd_uuid u))) b.not_base))
        (named_as own u b.image b.uuid);
  }
    where
      passes : Bool → Bool → Bool
      passes x y = x || not ((not y || nat_lt (base_number u) next.sequence) && true)

      twin : (n : Name) → own ≢ n → is_image_name n ≡ true → image_uuid n ≡ u → rows next n ≡ None
      twin n other image uuid = row_of-put_other t.volumes (made own true es) n other ∙ gone n image uuid

  pub orderly_begun_as : IsOrderly s next m
  orderly_begun_as = orderly_new s t m own es b.orderly b.tidy.none_new may_begin b.image new_begun.few new_begun.right

  pub fits_begun_as : Fits s.count t (Create own true es)
  fits_begun_as = fits_orderly s next m orderly_begun_as

  pub begun_there : rows next own ≡ Some (made own true es)
  begun_there = row_of-put_same t.volumes (made own true es) (gone own b.image b.uuid)
