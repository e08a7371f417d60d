-- Where all checks pass and no leaf is being folded: what is left of a content without the entry of a copy or of a link, where there is one.
use Rattle.std.proofs.Common.{◌≡◌, ◌⊎◌, inl, inr, ℕ, true, false, List, [], ◌∷◌, Some, None, refl, sym, ap, ◌∙◌, subst}
use Rattle.std.proofs.lemmas.Bool.{true≢false}
use Rattle.common_laws.specs.Lists.{In}
use Rattle.common_laws.proofs.Lists.{In-filter, In-map}
use Rattle.sm_base.specs.Numbers.{IsGeometry}
use Rattle.sm_base.specs.declared.names.Name.{Name}
use Rattle.sm_base.specs.declared.names.Name.TheVariants.{Coalesce, Relink, Leaf}
use Rattle.vg_meta.specs.Changes.{Permits, applied, raised}
use Rattle.vg_meta.specs.declared.changes.Change.TheVariants.{Remove}
use Rattle.vg_meta.specs.Tables.{VolumeTable, Row, IsTable, names_of, rows}
use Rattle.vg_meta.proofs.ChangeLaws.{IsTable-applied}
use Rattle.sm_standing.specs.Checks.{PassesButLeaf}
use Rattle.sm_standing.specs.Contents.{Content}
use Rattle.sm_standing.specs.Entries.{folding, head, is_folding, making, second}
use Rattle.sm_standing.specs.Images.{image_of}
use Rattle.sm_standing.specs.Keeping.{HasNoEmptySlot, IsKept}
use Rattle.sm_standing.specs.Opened.{ended, linked_up, opened}
use Rattle.sm_standing.specs.Outlines.{Outline}
use Rattle.sm_standing.specs.Plain.{IsKnown, is_known, is_known_name}
use Rattle.sm_standing.specs.PlainSound.{KnownSound, SimpleSound}
use Rattle.sm_standing.specs.Standing.{disks}
use Rattle.sm_standing.specs.Undone.{IsSameArea}
use Rattle.sm_standing.specs.Unfolded.{unfolded, unfolded_content, without_entry}
use Rattle.sm_standing.specs.Worlds.{with_table}
use Rattle.sm_standing.proofs.AreaLaws.{area_disks, area_kept}
use Rattle.sm_standing.proofs.OpenedLaws.{ended_is, opened_unfolded}
use Rattle.sm_standing.proofs.PlainDisks.{all-In, simple_folding}
use Rattle.sm_standing.proofs.PlainKept.{sound_all, known_is_simple, known_sound_simple, known_table, simple_is_known, simple_well}
use Rattle.sm_standing.proofs.UndoneLaws.{head_alone, named_found, raised_later}
use Rattle.sm_standing.proofs.UnfoldedChecks.{but_leaf_bare}
use Rattle.sm_standing.proofs.UnfoldedContents.{bare, disks_bare, holding_bare, images_bare, sound_bare}
use Rattle.sm_standing.proofs.UnfoldedLaws.{IsFold, fold_copy, fold_link, making_bare, rows_bare}

-- ---- which entry there is

-- there is none, or one of a copy, or one of a link
abbrev pub FoldCases : VolumeTable → Type 0
FoldCases t = (folding t ≡ []) ⊎ ((child parent : List ℕ) × ((folding t ≡ Coalesce child parent ∷ []) ⊎ (folding t ≡ Relink child parent ∷ [])))

pub fold_cases : (t : VolumeTable) → IsKnown t → second (folding t) ≡ None → FoldCases t
fold_cases t known one = by (folding t) refl one
  where
    of : (n : Name) → is_known_name n ≡ true → is_folding n ≡ true → folding t ≡ n ∷ [] → FoldCases t
    of (Coalesce child parent) a b is = inr (child, parent, inl is)
    of (Relink child parent) a b is = inr (child, parent, inr is)
    of (Leaf leaf parent) a b is = absurd (true≢false (sym a))
    of _ a b is = absurd (true≢false (sym b))

    by : (ns : List Name) → folding t ≡ ns → second ns ≡ None → FoldCases t
    by [] is none = inl is
    by (n ∷ ns) is none =
        let alone = is ∙ head_alone (n ∷ ns) n refl none in
        let k = In-filter is_folding (names_of t.volumes) n (subst (In n) (sym alone) (inl refl)) in
        let r = In-map (λ (r : Row). r.name) t.volumes n k.0 in
        of n (ap is_known_name r.2 ∙ all-In (λ r. is_known r ≡ true) t.volumes r.0 known r.1) k.1 alone

abbrev pub HasFold : VolumeTable → Type 0
HasFold t = (e : Name) × IsFold e × (folding t ≡ e ∷ [])

pub fold_or_not : (t : VolumeTable) → FoldCases t → (folding t ≡ []) ⊎ HasFold t
fold_or_not t (inl none) = inl none
fold_or_not t (inr (child, parent, inl is)) = inr (Coalesce child parent, fold_copy child parent, is)
fold_or_not t (inr (child, parent, inr is)) = inr (Relink child parent, fold_link child parent, is)

-- ---- the table

pub unfolded_is : (t : VolumeTable) (e : Name) → folding t ≡ e ∷ [] → unfolded t ≡ applied t (Remove e)
unfolding unfolded
unfolded_is t e one = ap (λ ns. without_entry t (head ns)) one

pub unfolded_none : (t : VolumeTable) → folding t ≡ [] → unfolded t ≡ t
unfolding unfolded
unfolded_none t none = ap (λ ns. without_entry t (head ns)) none

fold_named : (t : VolumeTable) (e : Name) → folding t ≡ e ∷ [] → In e (names_of t.volumes) × (is_folding e ≡ true)
fold_named t e one = In-filter is_folding (names_of t.volumes) e (subst (In e) (sym one) (inl refl))

pub fold_row : (t : VolumeTable) (e : Name) → folding t ≡ e ∷ [] → (r : Row) × (rows t e ≡ Some r)
fold_row t e one = named_found t.volumes e (fold_named t e one).0

pub fold_permits : (count : ℕ) (t : VolumeTable) (e : Name) → folding t ≡ e ∷ [] → Permits count t (Remove e)
fold_permits count t e one =
    let r = fold_row t e one in
    record { row = r.0; there = r.1; not_mgt = λ is. true≢false (sym (fold_named t e one).1 ∙ ap is_folding is) }

-- ---- the checks

pub but_leaf_folds : (o : Outline) → PassesButLeaf o → IsKnown o.table × (second (folding o.table) ≡ None)
but_leaf_folds o h = (known_table o h, (sound_all o h.sound).one_folding)

-- they pass without the entry too, on whatever has no image of such a name
pub unfolded_but_leaf : (count : ℕ) (o : Outline) → ((n : Name) → is_folding n ≡ true → o.links n ≡ None) → IsTable count o.table → PassesButLeaf o
    → PassesButLeaf (record o { table = unfolded o.table })
unfolded_but_leaf count o quiet table h = by (fold_or_not o.table (let k = but_leaf_folds o h in fold_cases o.table k.0 k.1))
  where
    by : (folding o.table ≡ []) ⊎ HasFold o.table → PassesButLeaf (record o { table = unfolded o.table })
    by (inl none) = subst (λ t. PassesButLeaf (record o { table = t })) (sym (unfolded_none o.table none)) h
    by (inr k) =
        subst (λ t. PassesButLeaf (record o { table = t })) (sym (unfolded_is o.table k.0 k.2))
        (but_leaf_bare o quiet k.0 k.1 (raised o.table.sequence) k.2 (raised_later o.table.sequence table.sequence) h)

-- ---- the content

module _ (c : Content) (s : KnownSound c) where
  abbrev t : VolumeTable
  t = c.table

  abbrev now : (e : Name) → IsFold e → Content
  now e f = bare c e f (raised t.sequence)

  pub cases : FoldCases t
  cases = fold_cases t s.only s.one_folding

  either : (folding t ≡ []) ⊎ HasFold t
  either = fold_or_not t cases

  abbrev at_table : VolumeTable → Content
  at_table x = record c { table = x }

  -- what holds of the content where there is no entry, and without it where there is one, holds of what is left
  by_case : (P : Content → Type 0) → (folding t ≡ [] → P c) → ((e : Name) (f : IsFold e) → folding t ≡ e ∷ [] → P (now e f)) → P (unfolded_content c)
  by_case P same less = by either
    where
      by : (folding t ≡ []) ⊎ HasFold t → P (unfolded_content c)
      by (inl none) = subst (λ x. P (at_table x)) (sym (unfolded_none t none)) (same none)
      by (inr k) = subst (λ x. P (at_table x)) (sym (unfolded_is t k.0 k.2)) (less k.0 k.1 k.2)

  pub unfolded_making : making (unfolded t) ≡ making t
  unfolded_making = by_case (λ x. making x.table ≡ making t) (λ none. refl) (λ e f one. making_bare e f t (raised t.sequence))

  pub unfolded_rows : (n : Name) → is_folding n ≡ false → rows (unfolded t) n ≡ rows t n
  unfolded_rows n apart = by_case (λ x. rows x.table n ≡ rows t n) (λ none. refl) (λ e f one. rows_bare e f t (raised t.sequence) n apart)

  pub unfolded_images : (n : Name) → image_of (unfolded_content c) n ≡ image_of c n
  unfolded_images n = by_case (λ x. image_of x n ≡ image_of c n) (λ none. refl) (λ e f one. images_bare c e f (raised t.sequence) n)

  pub unfolded_holding : HasNoEmptySlot c → HasNoEmptySlot (unfolded_content c)
  unfolded_holding holding = by_case HasNoEmptySlot (λ none. holding) (λ e f one. holding_bare c e f (raised t.sequence) holding)

  module _ (table : IsTable c.count c.table) where
    pub unfolded_sound : SimpleSound (unfolded_content c)
    unfolded_sound =
        by_case SimpleSound (λ none. known_sound_simple c s (known_is_simple t s.only none))
        (λ e f one. sound_bare c e f (raised t.sequence) one (raised_later t.sequence table.sequence) s)

    pub unfolded_disks : disks (unfolded_content c) ≡ disks c
    unfolded_disks = by_case (λ x. disks x ≡ disks c) (λ none. refl) (λ e f one. disks_bare c e f (raised t.sequence) one)

    pub unfolded_table : IsTable c.count (unfolded t)
    unfolded_table = by_case (λ x. IsTable c.count x.table) (λ none. table) (λ e f one. IsTable-applied c.count t (Remove e) table (fold_permits c.count t e one))

    pub unfolded_opened : opened c ≡ linked_up t (opened (unfolded_content c))
    unfolded_opened = opened_unfolded c (by cases) (simple_folding (unfolded t).volumes (let d = unfolded_sound in d.only))
      where
        by : FoldCases t → ended t ≡ unfolded t
        by (inl none) = ended_is t [] none ∙ sym (unfolded_none t none)
        by (inr (child, parent, inl one)) = ended_is t (Coalesce child parent ∷ []) one ∙ sym (unfolded_is t (Coalesce child parent) one)
        by (inr (child, parent, inr one)) = ended_is t (Relink child parent ∷ []) one ∙ sym (unfolded_is t (Relink child parent) one)

    module _ (geometry : IsGeometry c.extent c.block c.entries) (area : ℕ → List ℕ) (same : IsSameArea c area) where
      pub unfolded_kept : HasNoEmptySlot c → IsKept (with_table c (unfolded t) area)
      unfolded_kept holding =
          let d = unfolded_sound in
          area_kept (unfolded_content c) unfolded_table geometry (simple_is_known (unfolded_content c) d) area same (simple_well (unfolded_content c) d.only (unfolded_holding holding))

      pub unfolded_shown : disks (with_table c (unfolded t) area) ≡ disks c
      unfolded_shown = area_disks (unfolded_content c) unfolded_table geometry (simple_is_known (unfolded_content c) unfolded_sound) area same ∙ unfolded_disks
