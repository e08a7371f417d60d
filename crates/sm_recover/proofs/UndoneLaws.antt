-- The table without a fork or an enlargement: what becomes of its volumes, and what is known of it.
use Rattle.std.proofs.Common.{◌≡◌, ◌≢◌, ◌⊎◌, inl, inr, ⊎_elim, ℕ, ◌≤◌, Bool, true, false, List, [], ◌∷◌, length, Option, Some, None, refl, sym, ap, ◌∙◌, subst}
use Rattle.std.proofs.lemmas.Bool.{true≢false}
use Rattle.std.proofs.lemmas.Option.{none-some, same_Some}
use Rattle.common_laws.specs.Lists.{In}
use Rattle.common_laws.proofs.Lists.{In-filter, In-map_at, filter-In}
use Rattle.sm_base.specs.Kinds.{is_image}
use Rattle.sm_base.specs.declared.names.Name.{Name}
use Rattle.sm_base.specs.declared.names.Name.TheVariants.{Mgt, Vhd, Raw, Old, Cbt, Clone, Inflate, Coalesce, Relink, Leaf}
use Rattle.vg_meta.specs.Tables.{Row, VolumeTable, extents_of, name_eq, names_of, rows}
use Rattle.vg_meta.proofs.NameLaws.{name_eq-false, name_eq-true}
use Rattle.vg_volumes.specs.Sites.{Site}
use Rattle.sm_machine.specs.Shapes.{image_limit}
use Rattle.sm_standing.specs.Entries.{head, image_with, is_making, making}
use Rattle.sm_standing.specs.Opened.{applied_all, changes_back, under_name, undone}
use Rattle.sm_standing.specs.Plain.{is_plain, is_plain_name, is_simple}
use Rattle.sm_standing.specs.Undone.{IsBeingEnlarged}
use Rattle.sm_standing.proofs.DisksShown.{row_of-In}
use Rattle.sm_standing.proofs.PlainDisks.{all-In}
use Rattle.sm_standing.proofs.PlainKept.{all-of, simple_plain_name}
use Rattle.sm_standing.proofs.UndoneLaws.{images_undone, undone_is_table, undone_plain}
use Rattle.sm_ready.proofs.RowLaws.{found_in}
use Rattle.sm_recover.specs.Repairs.{HasFewLogs, IsChecked, IsUndoable}
use Rattle.sm_checks.proofs.EntryLaws.{IsFork, base_found, changes_none, changes_some, enlarged_found, fork_found, undone_applied}
use Rattle.sm_recover.proofs.UndoTables.{IsDropped, IsTakenBack, back_image, enlargement_small, none_back, some_back, staged, undoable_small}
use Rattle.sm_checks.proofs.TableLaws.{records_short, shortened_undone}

pub decide : (a b : Name) → (a ≡ b) ⊎ (a ≢ b)
decide a b = by (name_eq a b) refl
  where
    by : (x : Bool) → name_eq a b ≡ x → (a ≡ b) ⊎ (a ≢ b)
    by true is = inl (name_eq-true a b is)
    by false is = inr (name_eq-false a b is)

-- the volume of a name stands among the others
pub row_listed : (t : VolumeTable) (n : Name) (r : Row) → rows t n ≡ Some r → In r t.volumes
row_listed t n r there = (row_of-In t.volumes n r there).0

pub undone_by : (t : VolumeTable) (n : Name) → head (making t) ≡ Some n → undone t ≡ applied_all t (changes_back t n)
undone_by t n found = undone_applied t ∙ ap (applied_all t) (changes_some t n found)

pub undone_nothing : (t : VolumeTable) → head (making t) ≡ None → undone t ≡ t
undone_nothing t none = undone_applied t ∙ ap (applied_all t) (changes_none t none)

-- a volume that the undoing of a fork does not speak of
pub record IsOther (t : VolumeTable) (d b w : List ℕ) (from : Name) (r : Row) : Type 0 where
  pub there : In r t.volumes
  pub not_twin : r.name ≢ Vhd w
  pub not_own : r.name ≢ Vhd d
  pub not_from : r.name ≢ from
  pub not_to : r.name ≢ under_name from d
  pub not_entry : r.name ≢ Clone d b w

module _ {s : Site} {t : VolumeTable} (c : IsUndoable s t) where
  -- a volume that is not that of the entry
  plain_of : (n : Name) → making t ≡ n ∷ [] → (r : Row) → In r t.volumes → r.name ≢ n → is_plain r ≡ true
  plain_of n alone r i other = simple_plain_name r.name (all-In (λ (x : Row). is_simple x ≡ true) t.volumes r c.simple i) (by (is_making r.name) refl)
    where
      only : In r.name (n ∷ []) → ⊥
      only (inl is) = other is
      only (inr none) = absurd none

      by : (x : Bool) → is_making r.name ≡ x → x ≡ false
      by false is = refl
      by true is = absurd (only (subst (In r.name) alone (filter-In is_making (names_of t.volumes) r.name (In-map_at (λ (x : Row). x.name) t.volumes r i) is)))

  plain_none : making t ≡ [] → (r : Row) → In r t.volumes → is_plain r ≡ true
  plain_none none r i = simple_plain_name r.name (all-In (λ (x : Row). is_simple x ≡ true) t.volumes r c.simple i) (by (is_making r.name) refl)
    where
      by : (x : Bool) → is_making r.name ≡ x → x ≡ false
      by false is = refl
      by true is = absurd (subst (In r.name) none (filter-In is_making (names_of t.volumes) r.name (In-map_at (λ (x : Row). x.name) t.volumes r i) is))

  module _ (d b w : List ℕ) (found : head (making t) ≡ Some (Clone d b w)) where
    pub fork : IsFork t d b w
    fork = fork_found d b w (staged c) found

    -- no image has the base's UUID
    pub dropped : image_with t b ≡ None → IsDropped s.count t (undone t) d b w
    dropped none = subst (λ u. IsDropped s.count t u d b w) (sym (undone_by t (Clone d b w) found)) (none_back s.count c.few_extents fork (undoable_small c) none).behind

    -- one has it
    module _ (from : Name) (there : image_with t b ≡ Some from) where
      abbrev pub base_row : Row
      base_row = (base_found t b from there).row

      abbrev pub back_row : Row
      back_row = record base_row { name = under_name from d; hidden = false }

      pub taken : IsTakenBack s.count t (undone t) d b w from base_row
      taken = subst (λ u. IsTakenBack s.count t u d b w from base_row) (sym (undone_by t (Clone d b w) found)) (some_back s.count c.few_extents fork (undoable_small c) from there).behind

      -- a volume is the disk's image, or an other
      pub taken_from : (r : Row) → In r (undone t).volumes → (r ≡ back_row) ⊎ IsOther t d b w from r
      taken_from r i = by (decide r.name to) (decide r.name (Vhd w)) (decide r.name (Vhd d)) (decide r.name from) (decide r.name (Clone d b w))
        where
          to : Name
          to = under_name from d

          at : rows (undone t) r.name ≡ Some r
          at = found_in (undone t).volumes taken.small.table.volumes.rising r i

          gone : (n : Name) → r.name ≡ n → rows (undone t) n ≡ None → ⊥
          gone n is none = none-some r (sym none ∙ ap (rows (undone t)) (sym is) ∙ at)

          by : (r.name ≡ to) ⊎ (r.name ≢ to) → (r.name ≡ Vhd w) ⊎ (r.name ≢ Vhd w) → (r.name ≡ Vhd d) ⊎ (r.name ≢ Vhd d) → (r.name ≡ from) ⊎ (r.name ≢ from) → (r.name ≡ Clone d b w) ⊎ (r.name ≢ Clone d b w)
              → (r ≡ back_row) ⊎ IsOther t d b w from r
          by (inl is) twin disk base entry = inl (same_Some r back_row (sym at ∙ ap (rows (undone t)) is ∙ taken.there))
          by (inr a) (inl is) disk base entry = absurd (gone (Vhd w) is taken.twin_gone)
          by (inr a) (inr x) (inl is) base entry = absurd (gone (Vhd d) is (taken.own_gone (λ e. a (is ∙ e))))
          by (inr a) (inr x) (inr y) (inl is) entry = absurd (gone from is taken.from_gone)
          by (inr a) (inr x) (inr y) (inr z) (inl is) = absurd (gone (Clone d b w) is taken.entry_gone)
          by (inr a) (inr x) (inr y) (inr z) (inr e) = inr (record {
            there = row_listed t r.name r (sym (taken.others r.name x y z a e) ∙ at);
            not_twin = x;
            not_own = y;
            not_from = z;
            not_to = a;
            not_entry = e;
          })

    back_plain : (n : Name) → is_plain_name (under_name n d) ≡ true
    back_plain (Raw v) = refl
    back_plain _ = refl

    mgt_other : {n : Name} → is_image n ≡ true → Mgt ≢ n
    mgt_other image is = true≢false (sym image ∙ ap is_image (sym is))

    pub base_image : (from : Name) → image_with t b ≡ Some from → is_image from ≡ true
    base_image from there = ⊎_elim (λ is. ap is_image is) (λ is. ap is_image is) (base_found t b from there).name

    fork_checked : (o : Option Name) → image_with t b ≡ o → IsChecked s (undone t)
    fork_checked None none = let k = dropped none in record {
      table = k.small.table;
      few_extents = c.few_extents;
      plain = all-of (λ r. is_plain r ≡ true) (undone t).volumes (λ r i.
          let at = found_in (undone t).volumes k.small.table.volumes.rising r i in
          let not_twin : r.name ≢ Vhd w = λ is. none-some r (sym k.twin_gone ∙ ap (rows (undone t)) (sym is) ∙ at) in
          let not_entry : r.name ≢ Clone d b w = λ is. none-some r (sym k.entry_gone ∙ ap (rows (undone t)) (sym is) ∙ at) in
          plain_of (Clone d b w) fork.entry r (row_listed t r.name r (sym (k.others r.name not_twin not_entry) ∙ at)) not_entry);
      few_images = k.small.few_images;
      few_logs = k.small.few_logs;
      record_volume = ap (λ o. length (extents_of o)) (k.others Mgt (λ e. let x = e in cc) (λ e. let x = e in cc)) ∙ c.record_volume;
    }
    fork_checked (Some from) there = let k = taken from there in record {
      table = k.small.table;
      few_extents = c.few_extents;
      plain = all-of (λ r. is_plain r ≡ true) (undone t).volumes (λ r i. ⊎_elim (λ is. ap is_plain is ∙ back_plain from) (λ o. plain_of (Clone d b w) fork.entry r o.there o.not_entry) (taken_from from there r i));
      few_images = k.small.few_images;
      few_logs = k.small.few_logs;
      record_volume = ap (λ o. length (extents_of o)) (k.others Mgt (λ e. let x = e in cc) (λ e. let x = e in cc) (mgt_other (base_image from there)) (mgt_other (back_image from d)) (λ e. let x = e in cc)) ∙ c.record_volume;
    }

  enlarged_checked : (u : List ℕ) (e : ℕ) → head (making t) ≡ Some (Inflate u e) → IsBeingEnlarged t u e → IsChecked s (undone t)
  enlarged_checked u e found w = record {
    table = undone_is_table t u e w s.count c.table;
    few_extents = c.few_extents;
    plain = undone_plain t u e w c.simple;
    few_images = subst (λ n. n ≤ image_limit) (sym (images_undone t u e w)) c.few_images;
    few_logs = subst HasFewLogs (sym (undone_by t (Inflate u e) found)) (enlargement_small s.count c.few_extents w (undoable_small c)).few_logs;
    record_volume = ap (λ o. length (extents_of o)) (ap (λ x. rows x Mgt) (sym (shortened_undone t u e w.entry)) ∙ records_short (staged c)) ∙ c.record_volume;
  }

  -- where no entry is there, it is as it is
  pub nothing_checked : head (making t) ≡ None → IsChecked s (undone t)
  nothing_checked none = subst (IsChecked s) (sym (undone_nothing t none)) (record {
    table = c.table;
    few_extents = c.few_extents;
    plain = all-of (λ r. is_plain r ≡ true) t.volumes (plain_none (nothing (making t) none));
    few_images = c.few_images;
    few_logs = c.few_logs;
    record_volume = c.record_volume;
  })
    where
      nothing : (ns : List Name) → head ns ≡ None → ns ≡ []
      nothing [] none = refl
      nothing (n ∷ ns) none = absurd (none-some n (sym none))

  -- the first entry of its group is one of it
  pub not_making : (n : Name) → head (making t) ≡ Some n → is_making n ≡ false → ⊥
  not_making n found none = true≢false (sym (In-filter is_making (names_of t.volumes) n (first (making t) found)).1 ∙ none)
    where
      first : (ns : List Name) → head ns ≡ Some n → In n ns
      first [] is = absurd (none-some n is)
      first (m ∷ ns) is = inl (sym (same_Some m n is))

  -- what is known of it
  pub undone_checked : IsChecked s (undone t)
  undone_checked = by (head (making t)) refl
    where
      by : (o : Option Name) → head (making t) ≡ o → IsChecked s (undone t)
      by None none = nothing_checked none
      by (Some (Inflate u e)) found = enlarged_checked u e found (enlarged_found u e (staged c) found)
      by (Some (Clone d b w)) found = fork_checked d b w found (image_with t b) refl
      by (Some Mgt) found = absurd (not_making Mgt found refl)
      by (Some (Vhd u)) found = absurd (not_making (Vhd u) found refl)
      by (Some (Raw u)) found = absurd (not_making (Raw u) found refl)
      by (Some (Old u)) found = absurd (not_making (Old u) found refl)
      by (Some (Cbt u)) found = absurd (not_making (Cbt u) found refl)
      by (Some (Coalesce v p)) found = absurd (not_making (Coalesce v p) found refl)
      by (Some (Relink v p)) found = absurd (not_making (Relink v p) found refl)
      by (Some (Leaf l p)) found = absurd (not_making (Leaf l p) found refl)

  -- its volume of records is the same
  pub records_undone : rows (undone t) Mgt ≡ rows t Mgt
  records_undone = by (head (making t)) refl
    where
      forked : (d b w : List ℕ) (found : head (making t) ≡ Some (Clone d b w)) (o : Option Name) → image_with t b ≡ o → rows (undone t) Mgt ≡ rows t Mgt
      forked d b w found None none = (dropped d b w found none).others Mgt (λ e. let x = e in cc) (λ e. let x = e in cc)
      forked d b w found (Some from) there = (taken d b w found from there).others Mgt (λ e. let x = e in cc) (λ e. let x = e in cc)
          (mgt_other d b w found (base_image d b w found from there)) (mgt_other d b w found (back_image from d)) (λ e. let x = e in cc)

      by : (o : Option Name) → head (making t) ≡ o → rows (undone t) Mgt ≡ rows t Mgt
      by None none = ap (λ x. rows x Mgt) (undone_nothing t none)
      by (Some (Inflate u e)) found = ap (λ x. rows x Mgt) (sym (shortened_undone t u e (enlarged_found u e (staged c) found).entry)) ∙ records_short (staged c)
      by (Some (Clone d b w)) found = forked d b w found (image_with t b) refl
      by (Some Mgt) found = absurd (not_making Mgt found refl)
      by (Some (Vhd u)) found = absurd (not_making (Vhd u) found refl)
      by (Some (Raw u)) found = absurd (not_making (Raw u) found refl)
      by (Some (Old u)) found = absurd (not_making (Old u) found refl)
      by (Some (Cbt u)) found = absurd (not_making (Cbt u) found refl)
      by (Some (Coalesce v p)) found = absurd (not_making (Coalesce v p) found refl)
      by (Some (Relink v p)) found = absurd (not_making (Relink v p) found refl)
      by (Some (Leaf l p)) found = absurd (not_making (Leaf l p) found refl)
