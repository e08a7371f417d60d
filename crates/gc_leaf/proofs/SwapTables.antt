-- The tables of a swap, one after each of its commits: what each volume is by name, that each commit is allowed, and that its text fits.
-- A store that does not tell its content makes these commits too, so that they are allowed is shown from the table alone. What `law_leaf`
-- of `sm_standing` says of all but the first asks for a content whose checks pass.
use Rattle.std.proofs.Common.{◌≡◌, ◌≢◌, inl, ⊎_elim, ℕ, ◌≤◌, Bool, true, false, List, [], ◌∷◌, filter, length, Option, Some, None, refl, sym, ap, ◌∙◌, subst, arith}
use Rattle.std.proofs.lemmas.Bool.{true≢false}
use Rattle.std.proofs.lemmas.Option.{same_Some}
use Rattle.std.specs.Option.{option_map}
use Rattle.common_laws.specs.Lists.{In}
use Rattle.common_laws.proofs.Lists.{In-filter}
use Rattle.sm_base.specs.Kinds.{is_entry, is_image, is_log}
use Rattle.sm_base.specs.declared.names.Name.{Name}
use Rattle.sm_base.specs.declared.names.Name.TheVariants.{Cbt, Leaf, Old, Vhd}
use Rattle.vg_meta.specs.Tables.{IsTable, Row, VolumeTable, name_eq, names_of, rows}
use Rattle.vg_meta.specs.Changes.{Permits, applied, renamed, tagged}
use Rattle.vg_meta.specs.Text.{text}
use Rattle.vg_meta.specs.declared.changes.Change.TheVariants.{Mark, Remove, Rename}
use Rattle.vg_meta.specs.declared.changes.Tag.TheVariants.{Hidden}
use Rattle.vg_meta.proofs.ByName.{changes_by_name}
use Rattle.vg_meta.proofs.ChangeLaws.{IsTable-applied, tagged_name}
use Rattle.vg_meta.proofs.NameLaws.{name_eq-false, name_eq-true}
use Rattle.vg_meta.proofs.RowLaws.{names_of-with_row}
use Rattle.vg_volumes.specs.Sites.{Site, text_limit}
use Rattle.sm_machine.specs.Shapes.{image_limit}
use Rattle.sm_standing.specs.Checks.{images as table_images}
use Rattle.sm_standing.specs.Entries.{names_in}
use Rattle.sm_standing.proofs.UndoneLaws.{named_found}
use Rattle.sm_ready.specs.Known.{Known}
use Rattle.sm_ready.specs.Runs.{AllMay}
use Rattle.sm_ready.proofs.FitLaws.{fits_few}
use Rattle.sm_ready.proofs.GoneLaws.{fewer_left}
use Rattle.sm_ready.proofs.LogRows.{few_log_rows, image_apart}
use Rattle.sm_ready.proofs.RemoveLaws.{names_without}
use Rattle.gc_abandon.proofs.EntryLaws.{as_many, counted, entry_gone}
use Rattle.gc_leaf.specs.Swapping.{IsMoved, shown_as, swap_changes}
use Rattle.gc_leaf.proofs.SwapNames.{entries_renamed, images_renamed}
use Rattle.gc_leaf.proofs.SwapPair.{apart, entry_alone, leaf_is, leaf_proper, leaf_vol, none_old, old_proper, parent_is, parent_vol, u, v}
use Rattle.gc_leaf.proofs.SwapSteps.{IsToSwap}

-- a table of a swap, with the volumes of these three names, and all others as before
pub record IsSwapTable (count : ℕ) (t : VolumeTable) (u v : List ℕ) (x : VolumeTable) (leaf base gone : Option Row) (entries : List Name) : Type 0 where
  pub table : IsTable count x
  pub leaf_row : rows x (Vhd u) ≡ leaf
  pub base_row : rows x (Vhd v) ≡ base
  pub gone_row : rows x (Old u) ≡ gone
  pub others : (n : Name) → n ≢ Vhd u → n ≢ Vhd v → n ≢ Old u → is_entry n ≡ false → rows x n ≡ rows t n
  pub entries_are : names_in x is_entry ≡ entries
  pub few : length (table_images x) ≤ image_limit

module _ {s : Site} {t : VolumeTable} {m : Known} {l p : Name} {cursor : ℕ} (h : IsToSwap s t m l p cursor) where
  abbrev leaf : List ℕ
  leaf = u h

  abbrev parent : List ℕ
  parent = v h

  abbrev entry : List Name
  entry = Leaf leaf parent ∷ []

  abbrev pub table_1 : VolumeTable
  table_1 = applied t (Rename (Vhd leaf) (Old leaf))

  abbrev pub table_2 : VolumeTable
  table_2 = applied table_1 (Rename (Vhd parent) (Vhd leaf))

  abbrev pub table_3 : VolumeTable
  table_3 = applied table_2 (Mark (Vhd leaf) Hidden false)

  abbrev pub table_4 : VolumeTable
  table_4 = applied table_3 (Remove (Old leaf))

  -- that at the end
  abbrev pub table_then : VolumeTable
  table_then = applied table_4 (Remove (Leaf leaf parent))

  -- the rows: the old leaf's; the parent's, under the leaf's name, hidden and not
  abbrev pub own_row : Row
  own_row = (leaf_vol h).row

  abbrev pub base_was : Row
  base_was = (parent_vol h).row

  abbrev pub old_row : Row
  old_row = renamed (Old leaf) own_row

  abbrev pub named_row : Row
  named_row = renamed (Vhd leaf) base_was

  abbrev pub shown_row : Row
  shown_row = tagged Hidden false named_row

  abbrev Stage : VolumeTable → Option Row → Option Row → Option Row → List Name → Type 0
  Stage = IsSwapTable s.count t leaf parent

  -- ---- names apart

  pub leaf_parent : Vhd leaf ≢ Vhd parent
  leaf_parent is = apart h (let x = is in cc)

  -- ---- the text fits

  -- the volumes of logs are as before
  pub logs_stay : {x : VolumeTable} {a b c : Option Row} {es : List Name} → Stage x a b c es → (n : Name) → is_log n ≡ true → rows x n ≡ rows t n
  logs_stay z (Cbt d) log = z.others (Cbt d) (image_apart (Vhd leaf) refl d) (image_apart (Vhd parent) refl d) (image_apart (Old leaf) refl d) refl
  logs_stay z _ log = absurd (let e = log in cc)

  fits : {x : VolumeTable} {a b c : Option Row} {es : List Name} → Stage x a b c es → length es ≤ 1 → length (text x) ≤ text_limit s.count
  fits {x = x} z one =
      fits_few s.count x z.table h.orderly.few_extents z.few (omega (arith, as_many is_log s.count x t z.table h.orderly.table (logs_stay z), few_log_rows s t m h.orderly))
      (omega (arith, ap (λ (ns : List Name). length ns) z.entries_are, one))

  -- ---- each table

  pub stage_0 : Stage t (Some own_row) (Some base_was) None entry
  stage_0 = record {
    table = h.orderly.table;
    leaf_row = (leaf_vol h).there;
    base_row = (parent_vol h).there;
    gone_row = none_old h leaf;
    others = λ n _ _ _ _. refl;
    entries_are = entry_alone h;
    few = h.orderly.few;
  }

  pub may_1 : Permits s.count t (Rename (Vhd leaf) (Old leaf))
  may_1 = record { row = own_row; there = stage_0.leaf_row; name_proper = old_proper h; new_name = stage_0.gone_row; same_kind = inl (refl, refl) }

  pub stage_1 : Stage table_1 None (Some base_was) (Some old_row) entry
  stage_1 = let c = changes_by_name s.count t (Rename (Vhd leaf) (Old leaf)) h.orderly.table may_1 in record {
    table = IsTable-applied s.count t (Rename (Vhd leaf) (Old leaf)) h.orderly.table may_1;
    leaf_row = c.does.3;
    base_row = c.others (Vhd parent) (λ of. ⊎_elim (λ is. leaf_parent (sym is)) (λ is. (let x = is in cc)) of) ∙ stage_0.base_row;
    gone_row = c.does.4 ∙ ap (λ r. Some (renamed (Old leaf) r)) (same_Some c.does.0 own_row (sym c.does.1 ∙ stage_0.leaf_row));
    others = λ n a b d _. c.others n (λ of. ⊎_elim a d of);
    entries_are = entries_renamed t (Vhd leaf) (Old leaf) own_row stage_0.leaf_row refl refl ∙ stage_0.entries_are;
    few = omega (arith, images_renamed t (Vhd leaf) (Old leaf) own_row stage_0.leaf_row refl refl, stage_0.few);
  }

  pub may_2 : Permits s.count table_1 (Rename (Vhd parent) (Vhd leaf))
  may_2 = record { row = base_was; there = stage_1.base_row; name_proper = leaf_proper h; new_name = stage_1.leaf_row; same_kind = inl (refl, refl) }

  pub stage_2 : Stage table_2 (Some named_row) None (Some old_row) entry
  stage_2 = let c = changes_by_name s.count table_1 (Rename (Vhd parent) (Vhd leaf)) stage_1.table may_2 in record {
    table = IsTable-applied s.count table_1 (Rename (Vhd parent) (Vhd leaf)) stage_1.table may_2;
    leaf_row = c.does.4 ∙ ap (λ r. Some (renamed (Vhd leaf) r)) (same_Some c.does.0 base_was (sym c.does.1 ∙ stage_1.base_row));
    base_row = c.does.3;
    gone_row = c.others (Old leaf) (λ of. ⊎_elim (λ is. (let x = is in cc)) (λ is. (let x = is in cc)) of) ∙ stage_1.gone_row;
    others = λ n a b d e. c.others n (λ of. ⊎_elim b a of) ∙ stage_1.others n a b d e;
    entries_are = entries_renamed table_1 (Vhd parent) (Vhd leaf) base_was stage_1.base_row refl refl ∙ stage_1.entries_are;
    few = omega (arith, images_renamed table_1 (Vhd parent) (Vhd leaf) base_was stage_1.base_row refl refl, stage_1.few);
  }

  pub may_3 : Permits s.count table_2 (Mark (Vhd leaf) Hidden false)
  may_3 = record { row = named_row; there = stage_2.leaf_row; taking = refl; otherwise = (parent_vol h).shown }

  marked : (test : Name → Bool) → names_in table_3 test ≡ names_in table_2 test
  marked test = ap (filter test) (names_of-with_row table_2.volumes (Vhd leaf) (tagged Hidden false) (tagged_name Hidden false))

  pub stage_3 : Stage table_3 (Some shown_row) None (Some old_row) entry
  stage_3 = let c = changes_by_name s.count table_2 (Mark (Vhd leaf) Hidden false) stage_2.table may_3 in record {
    table = IsTable-applied s.count table_2 (Mark (Vhd leaf) Hidden false) stage_2.table may_3;
    leaf_row = c.does.2 ∙ ap (λ r. Some (tagged Hidden false r)) (same_Some c.does.0 named_row (sym c.does.1 ∙ stage_2.leaf_row));
    base_row = c.others (Vhd parent) (λ is. leaf_parent (sym is)) ∙ stage_2.base_row;
    gone_row = c.others (Old leaf) (λ is. (let x = is in cc)) ∙ stage_2.gone_row;
    others = λ n a b d e. c.others n a ∙ stage_2.others n a b d e;
    entries_are = marked is_entry ∙ stage_2.entries_are;
    few = omega (arith, counted is_image table_3.volumes, counted is_image table_2.volumes, ap (λ (ns : List Name). length ns) (marked is_image), stage_2.few);
  }

  pub may_4 : Permits s.count table_3 (Remove (Old leaf))
  may_4 = record { row = old_row; there = stage_3.gone_row; not_mgt = λ is. (let x = is in cc) }

  pub stage_4 : Stage table_4 (Some shown_row) None None entry
  stage_4 = let c = changes_by_name s.count table_3 (Remove (Old leaf)) stage_3.table may_4 in record {
    table = IsTable-applied s.count table_3 (Remove (Old leaf)) stage_3.table may_4;
    leaf_row = c.others (Vhd leaf) (λ is. (let x = is in cc)) ∙ stage_3.leaf_row;
    base_row = c.others (Vhd parent) (λ is. (let x = is in cc)) ∙ stage_3.base_row;
    gone_row = c.does.2;
    others = λ n a b d e. c.others n d ∙ stage_3.others n a b d e;
    entries_are = names_without table_3.volumes (Old leaf) refl ∙ stage_3.entries_are;
    few = omega (arith, fewer_left (λ r. is_image r.name) (Old leaf) table_3.volumes, stage_3.few);
  }

  -- the entry's volume is there to the end
  entry_row : (r : Row) × (rows table_4 (Leaf leaf parent) ≡ Some r)
  entry_row = named_found table_4.volumes (Leaf leaf parent) (In-filter is_entry (names_of table_4.volumes) (Leaf leaf parent) (subst (In (Leaf leaf parent)) (sym stage_4.entries_are) (inl refl))).0

  pub may_5 : Permits s.count table_4 (Remove (Leaf leaf parent))
  may_5 = record { row = entry_row.0; there = entry_row.1; not_mgt = λ is. (let x = is in cc) }

  pub stage_5 : Stage table_then (Some shown_row) None None []
  stage_5 = let c = changes_by_name s.count table_4 (Remove (Leaf leaf parent)) stage_4.table may_5 in record {
    table = IsTable-applied s.count table_4 (Remove (Leaf leaf parent)) stage_4.table may_5;
    leaf_row = c.others (Vhd leaf) (λ is. (let x = is in cc)) ∙ stage_4.leaf_row;
    base_row = c.others (Vhd parent) (λ is. (let x = is in cc)) ∙ stage_4.base_row;
    gone_row = c.others (Old leaf) (λ is. (let x = is in cc)) ∙ stage_4.gone_row;
    others = λ n a b d e. c.others n (λ is. true≢false (sym (ap is_entry is) ∙ e)) ∙ stage_4.others n a b d e;
    entries_are = entry_gone table_4 (Leaf leaf parent) refl stage_4.entries_are;
    few = omega (arith, fewer_left (λ r. is_image r.name) (Leaf leaf parent) table_4.volumes, stage_4.few);
  }

  -- ---- all of them are allowed

  pub all_may : AllMay s.count t (swap_changes leaf parent)
  all_may = (
    may_1,
    fits stage_1 (omega arith),
    (
      may_2,
      fits stage_2 (omega arith),
      (
        may_3,
        fits stage_3 (omega arith),
        (
          may_4,
          fits stage_4 (omega arith),
          (
            may_5,
            fits stage_5 (omega arith),
            tt,
          ),
        ),
      ),
    ),
  )

  -- ---- what it leaves of the volumes

  pub moved_then : IsMoved t table_then l p
  moved_then = record {
    leaf_row = ap (rows table_then) (leaf_is h) ∙ stage_5.leaf_row
        ∙ ap (λ n. Some (shown_as n base_was)) (sym (leaf_is h)) ∙ sym (ap (option_map (shown_as l)) (ap (rows t) (parent_is h) ∙ (parent_vol h).there));
    parent_gone = ap (rows table_then) (parent_is h) ∙ stage_5.base_row;
    others = λ n a b e. other n a b e (name_eq n (Old leaf)) refl;
  }
    where
      other : (n : Name) → n ≢ l → n ≢ p → is_entry n ≡ false → (c : Bool) → name_eq n (Old leaf) ≡ c → rows table_then n ≡ rows t n
      other n a b e true is = let at = name_eq-true n (Old leaf) is in ap (rows table_then) at ∙ stage_5.gone_row ∙ sym (ap (rows t) at ∙ stage_0.gone_row)
      other n a b e false is = stage_5.others n (λ same. a (same ∙ sym (leaf_is h))) (λ same. b (same ∙ sym (parent_is h))) (name_eq-false n (Old leaf) is) e
