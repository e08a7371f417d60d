-- A UUID that is a disk is one once a fork or an enlargement is undone.
use Rattle.std.proofs.Common.{◌≡◌, ◌≢◌, ℕ, ⊎_elim, Bool, true, false, not, ◌&&◌, ◌||◌, cond, List, length, Option, Some, None, is_some, refl, sym, ap, ap₂, ◌∙◌, subst}
use Rattle.std.specs.Str.{bytes_eq}
use Rattle.std.proofs.lemmas.Bool.{true≢false}
use Rattle.common_laws.proofs.Bytes.{bytes_eq-refl, bytes_eq-same}
use Rattle.sm_base.specs.declared.names.Name.{Name}
use Rattle.sm_base.specs.declared.names.Name.TheVariants.{Mgt, Vhd, Raw, Old, Cbt, Clone, Inflate, Coalesce, Relink, Leaf}
use Rattle.vg_meta.specs.Tables.{VolumeTable, rows}
use Rattle.vg_volumes.specs.declared.stores.Store.{Ghosts}
use Rattle.sm_record.specs.declared.records.Record.{Record}
use Rattle.sm_mgt.specs.Places.{place_count}
use Rattle.sm_standing.specs.Checks.{PassesButLeaf}
use Rattle.sm_standing.specs.Entries.{head, image_with, is_visible, making, of_row}
use Rattle.sm_standing.specs.Opened.{under_name, undone}
use Rattle.sm_standing.specs.Outlines.{Outline}
use Rattle.sm_standing.specs.Standing.{standing_volume}
use Rattle.sm_standing.proofs.PlainKept.{simple_known}
use Rattle.sm_standing.proofs.UndoneLaws.{stands_undone}
use Rattle.vhd_chain.specs.declared.rows.TreeRow.{TreeRow}
use Rattle.sm_checks.specs.Faults.{HasLinks, HasPlaces, HasTable, is_disk_by, is_shown}
use Rattle.sm_checks.specs.Loaded.{AreRowsOf, HasEachRow, read_volumes, shortened, stored_with}
use Rattle.sm_checks.proofs.DiskLaws.{disk_by, own_plain}
use Rattle.sm_checks.proofs.EntryLaws.{IsFork, base_found, disk_twin, enlarged_found}
use Rattle.sm_recover.specs.Repairs.{IsUndoable}
use Rattle.sm_recover.proofs.ForkedMemory.{own_filled}
use Rattle.sm_recover.proofs.UndoTables.{IsDropped, IsTakenBack, staged}
use Rattle.sm_recover.proofs.UndoneLaws.{base_row, dropped, fork, not_making, taken, undone_checked, undone_nothing}

left_or : (p q : Bool) → p ≡ true → (p || q) ≡ true
left_or true q e = refl
left_or false q e = absurd (true≢false (sym e))

right_or : (p q : Bool) → q ≡ true → (p || q) ≡ true
right_or true q e = refl
right_or false q e = e

module _ {S : Type 0} (g : Ghosts S) (store : S) (xs : List TreeRow) (places : List (Option Record)) {was : VolumeTable} (c : IsUndoable (g.site store) was) (are_read : AreRowsOf (read_volumes was) xs)
    (each_read : HasEachRow g.told (stored_with g store (shortened was)) (read_volumes was) xs) (long : length places ≡ place_count)
    (pass : (x : Outline) → HasTable (g.site store).geometry was x → HasLinks xs x → HasPlaces places x → PassesButLeaf x) where
  abbrev now : VolumeTable
  now = undone was

  shown_now : (u : List ℕ) → is_some (standing_volume now u) ≡ is_shown now u
  shown_now u = own_plain now (undone_checked c).plain u

  -- ---- a fork

  module _ (d b w : List ℕ) (found : head (making was) ≡ Some (Clone d b w)) where
    f : IsFork was d b w
    f = fork c d b w found

    disk_was : (u : List ℕ) → is_some (standing_volume was u) ≡ is_disk_by was (Some (Clone d b w)) u
    disk_was u = disk_by was (simple_known was c.simple) u ∙ ap (λ o. is_disk_by was o u) found

    shown_same : (u : List ℕ) → rows now (Vhd u) ≡ rows was (Vhd u) → rows now (Raw u) ≡ rows was (Raw u) → is_shown now u ≡ is_shown was u
    shown_same u vhd raw = ap₂ (λ o q. of_row (λ r. not r.hidden && not r.fresh) o || of_row (λ r. not r.hidden && not r.fresh) q) vhd raw

    unlike : (u v : List ℕ) → bytes_eq u v ≡ false → u ≢ v
    unlike u v other same = true≢false (sym (bytes_eq-refl u) ∙ ap (bytes_eq u) same ∙ other)

    -- no image has the base's UUID
    not_based : image_with was b ≡ None → (u : List ℕ) → is_disk_by was (Some (Clone d b w)) u ≡ true → is_shown now u ≡ true
    not_based none u is = by (bytes_eq u d) (bytes_eq u b) (bytes_eq u w) refl refl is
      where
        k : IsDropped (g.site store).count was now d b w
        k = dropped c d b w found none

        as_shown : u ≢ w → is_shown was u ≡ true → is_shown now u ≡ true
        as_shown other shown = shown_same u (k.others (Vhd u) (λ e. other (let x = e in cc)) (λ e. let x = e in cc)) (k.others (Raw u) (λ e. let x = e in cc) (λ e. let x = e in cc)) ∙ shown

        by : (x y z : Bool) → bytes_eq u d ≡ x → bytes_eq u w ≡ z → cond x (is_some (image_with was b) || is_shown was u) (not y && (not z && is_shown was u)) ≡ true → is_shown now u ≡ true
        by true y z own twin h = as_shown (λ same. disk_twin f (sym (bytes_eq-same u d own) ∙ same)) (sym (ap (λ o. is_some o || is_shown was u) none) ∙ h)
        by false true z own twin h = absurd (true≢false (sym h))
        by false false true own twin h = absurd (true≢false (sym h))
        by false false false own twin h = as_shown (unlike u w twin) h

    -- the base is the disk's image
    module _ (from : Name) (there : image_with was b ≡ Some from) where
      k : IsTakenBack (g.site store).count was now d b w from (base_row c d b w found from there)
      k = taken c d b w found from there

      abbrev to : Name
      to = under_name from d

      visible_to : is_visible now to ≡ true
      visible_to = ap (of_row (λ r. not r.hidden && not r.fresh)) k.there ∙ ap not (own_filled g store xs places c are_read each_read long pass d b w found from there)

      own_shown : is_shown now d ≡ true
      own_shown = ⊎_elim
          (λ is. left_or (is_visible now (Vhd d)) (is_visible now (Raw d)) (sym (ap (λ n. is_visible now (under_name n d)) is) ∙ visible_to))
          (λ is. right_or (is_visible now (Vhd d)) (is_visible now (Raw d)) (sym (ap (λ n. is_visible now (under_name n d)) is) ∙ visible_to)) (base_found was b from there).name

      other_shown : (u : List ℕ) → u ≢ d → u ≢ b → u ≢ w → is_shown was u ≡ true → is_shown now u ≡ true
      other_shown u not_own not_base not_twin shown =
          shown_same u
          (k.others (Vhd u) (λ e. not_twin (let x = e in cc)) (λ e. not_own (let x = e in cc)) from_vhd to_vhd (λ e. let x = e in cc))
          (k.others (Raw u) (λ e. let x = e in cc) (λ e. let x = e in cc) from_raw to_raw (λ e. let x = e in cc)) ∙ shown
        where
          from_vhd : Vhd u ≢ from
          from_vhd is = ⊎_elim (λ e. not_base (let x : Vhd u ≡ Vhd b = is ∙ e in cc)) (λ e. let x : Vhd u ≡ Raw b = is ∙ e in cc) (base_found was b from there).name

          from_raw : Raw u ≢ from
          from_raw is = ⊎_elim (λ e. let x : Raw u ≡ Vhd b = is ∙ e in cc) (λ e. not_base (let x : Raw u ≡ Raw b = is ∙ e in cc)) (base_found was b from there).name

          to_vhd : Vhd u ≢ under_name from d
          to_vhd is = ⊎_elim
              (λ e. not_own (let x : Vhd u ≡ Vhd d = is ∙ ap (λ n. under_name n d) e in cc)) (λ e. let x : Vhd u ≡ Raw d = is ∙ ap (λ n. under_name n d) e in cc) (base_found was b from there).name

          to_raw : Raw u ≢ under_name from d
          to_raw is = ⊎_elim
              (λ e. let x : Raw u ≡ Vhd d = is ∙ ap (λ n. under_name n d) e in cc) (λ e. not_own (let x : Raw u ≡ Raw d = is ∙ ap (λ n. under_name n d) e in cc)) (base_found was b from there).name

      based : (u : List ℕ) → is_disk_by was (Some (Clone d b w)) u ≡ true → is_shown now u ≡ true
      based u is = by (bytes_eq u d) (bytes_eq u b) (bytes_eq u w) refl refl refl is
        where
          by : (x y z : Bool) → bytes_eq u d ≡ x → bytes_eq u b ≡ y → bytes_eq u w ≡ z → cond x (is_some (image_with was b) || is_shown was u) (not y && (not z && is_shown was u)) ≡ true → is_shown now u ≡ true
          by true y z own base twin h = subst (λ v. is_shown now v ≡ true) (sym (bytes_eq-same u d own)) own_shown
          by false true z own base twin h = absurd (true≢false (sym h))
          by false false true own base twin h = absurd (true≢false (sym h))
          by false false false own base twin h = other_shown u (unlike u d own) (unlike u b base) (unlike u w twin) h

    forked : (u : List ℕ) → is_some (standing_volume was u) ≡ true → is_some (standing_volume now u) ≡ true
    forked u stands = shown_now u ∙ by (image_with was b) refl
      where
        by : (o : Option Name) → image_with was b ≡ o → is_shown now u ≡ true
        by None none = not_based none u (sym (disk_was u) ∙ stands)
        by (Some from) there = based from there u (sym (disk_was u) ∙ stands)

  -- ---- in each case

  pub stands_then : (u : List ℕ) → is_some (standing_volume was u) ≡ true → is_some (standing_volume now u) ≡ true
  stands_then u stands = by (head (making was)) refl
    where
      by : (o : Option Name) → head (making was) ≡ o → is_some (standing_volume now u) ≡ true
      by None none = ap (λ t. is_some (standing_volume t u)) (undone_nothing was none) ∙ stands
      by (Some (Inflate v e)) found = ap is_some (stands_undone was v e (enlarged_found v e (staged c) found) now.sequence c.simple u) ∙ stands
      by (Some (Clone d b w)) found = forked d b w found u stands
      by (Some Mgt) found = absurd (not_making c Mgt found refl)
      by (Some (Vhd v)) found = absurd (not_making c (Vhd v) found refl)
      by (Some (Raw v)) found = absurd (not_making c (Raw v) found refl)
      by (Some (Old v)) found = absurd (not_making c (Old v) found refl)
      by (Some (Cbt v)) found = absurd (not_making c (Cbt v) found refl)
      by (Some (Coalesce v p)) found = absurd (not_making c (Coalesce v p) found refl)
      by (Some (Relink v p)) found = absurd (not_making c (Relink v p) found refl)
      by (Some (Leaf l p)) found = absurd (not_making c (Leaf l p) found refl)
