-- A repository in which nothing is under way but that images may be being enlarged, disks forked, and images copied or linked, is
-- sound exactly fact by fact; it is kept where it holds well.
use Rattle.std.proofs.Common.{eq-eqb, ◌≡◌, ℕ, ◌≤◌, inl, inr, Bool, true, false, cond, not, ◌||◌, ◌==◌, List, [], ◌∷◌, length, Option, Some, None, is_some, refl, sym, ap, ap₂, ◌∙◌, arith, nat_lt}
use Rattle.std.specs.List.{AllByRecursion, filter, list_any}
use Rattle.std.proofs.lemmas.Bool.{true≢false, le-ltb, ltb-false, eqb-true}
use Rattle.std.proofs.lemmas.Option.{none-some}
use Rattle.std.specs.Ordering.{is_lt}
use Rattle.sm_base.specs.Names.{name_cmp}
use Rattle.common_laws.proofs.Options.{is_some-parts}
use Rattle.common_laws.proofs.Booleans.{not_false}
use Rattle.sm_base.specs.declared.faults.Place.{Place}
use Rattle.sm_base.specs.declared.faults.Place.TheVariants as at
use Rattle.sm_base.specs.declared.names.Name.{Name}
use Rattle.sm_base.specs.declared.names.Name.TheVariants.{Mgt, Vhd, Raw, Cbt, Old, Clone, Inflate, Coalesce, Relink, Leaf}
use Rattle.vg_layout.specs.Places.{record_extents}
use Rattle.sm_base.specs.Kinds.{is_entry}
use Rattle.vg_meta.specs.Tables.{VolumeTable, Row, names_of, rows}
use Rattle.vg_meta.proofs.ExtentLaws.{All-weaken}
use Rattle.vg_meta.proofs.RowLaws.{row_of-name}
use Rattle.common_laws.specs.Lists.{In, numbers}
use Rattle.sm_standing.specs.Plain.{is_plain, is_plain_name, IsPlain, is_simple, is_simple_name, IsSimple, is_known, is_known_name, IsKnown}
use Rattle.sm_standing.specs.PlainSound.{AllSound, KnownSound, PlainSound, SimpleSound, SoundBy}
use Rattle.sm_standing.specs.Contents.{Content, row, record_count, is_record_of}
use Rattle.sm_standing.specs.Entries.{folding, is_folding, is_making, is_old_of, making, second}
use Rattle.sm_standing.specs.Standing.{standing_volume, uuids}
use Rattle.sm_standing.specs.Checks.{placed, has_records, record_volume_fault, images, too_many_fault, misnamed_fault, lesser, second_entry_fault, lost_entry_fault, is_orphaned, old_leaf_fault, invalid_fault, tree_fault, is_entry_linked, entry_link_fault, record_place, record_fault, disk_place, disk_uuids, is_unrecorded, disk_fault, all_faults, PassesButLeaf, fault_of, first_fault, is_damaged, is_leaf_entry, IsSoundButLeaf}
use Rattle.sm_standing.specs.Outlines.{Outline, outline, outline_records}
use Rattle.sm_standing.specs.Keeping.{HasNoEmptySlot, HoldsWell, IsKept}
use Rattle.common_laws.proofs.Lists.{find_none, none_find, none_first, first_none, numbers-In, In-numbers, In-filter, filter-In}
use Rattle.sm_standing.proofs.OutlineLaws.{reading_within, outline_records_same}
use Rattle.sm_standing.proofs.DisksShown.{stands_listed, row_of-In}
use Rattle.sm_standing.proofs.FaultLaws.{given_none, none_given, named_none, none_named}
use Rattle.sm_standing.proofs.PlainDisks.{all-In}

-- ---- each check of a plain row, by its name

-- what a plain name is not
pub record NotSpecial (n : Name) : Type 0 where
  pub no_journal : is_entry n ≡ false
  pub no_old_name : (t : VolumeTable) → is_orphaned t n ≡ false
  pub linked : (o : Outline) → is_entry_linked o n ≡ true

pub not_special : (n : Name) → is_plain_name n ≡ true → NotSpecial n
unfolding is_entry_linked
not_special Mgt h = record { no_journal = refl; no_old_name = λ t. refl; linked = λ o. refl }
not_special (Raw u) h = record { no_journal = refl; no_old_name = λ t. refl; linked = λ o. refl }
not_special (Vhd u) h = record { no_journal = refl; no_old_name = λ t. refl; linked = λ o. refl }
not_special (Cbt u) h = record { no_journal = refl; no_old_name = λ t. refl; linked = λ o. refl }
not_special _ h = absurd (true≢false (sym h))

-- nor is a known one
pub record NotAhead (n : Name) : Type 0 where
  pub no_leaf_entry : is_leaf_entry n ≡ false
  pub no_old_name : (t : VolumeTable) → is_orphaned t n ≡ false

pub not_ahead : (n : Name) → is_known_name n ≡ true → NotAhead n
not_ahead Mgt h = record { no_leaf_entry = refl; no_old_name = λ t. refl }
not_ahead (Raw u) h = record { no_leaf_entry = refl; no_old_name = λ t. refl }
not_ahead (Vhd u) h = record { no_leaf_entry = refl; no_old_name = λ t. refl }
not_ahead (Cbt u) h = record { no_leaf_entry = refl; no_old_name = λ t. refl }
not_ahead (Clone disk base twin) h = record { no_leaf_entry = refl; no_old_name = λ t. refl }
not_ahead (Inflate u extents) h = record { no_leaf_entry = refl; no_old_name = λ t. refl }
not_ahead (Coalesce child parent) h = record { no_leaf_entry = refl; no_old_name = λ t. refl }
not_ahead (Relink child parent) h = record { no_leaf_entry = refl; no_old_name = λ t. refl }
not_ahead _ h = absurd (true≢false (sym h))

-- a simple volume is a known one, and a known one that is no entry of a copy or a link is simple
pub simple_known_name : (n : Name) → is_simple_name n ≡ true → is_known_name n ≡ true
simple_known_name Mgt h = refl
simple_known_name (Raw u) h = h
simple_known_name (Vhd u) h = h
simple_known_name (Cbt u) h = h
simple_known_name (Clone disk base twin) h = h
simple_known_name (Inflate u extents) h = h
simple_known_name _ h = absurd (true≢false (sym h))

pub known_simple_name : (n : Name) → is_known_name n ≡ true → is_folding n ≡ false → is_simple_name n ≡ true
known_simple_name Mgt h no_entry = refl
known_simple_name (Raw u) h no_entry = refl
known_simple_name (Vhd u) h no_entry = refl
known_simple_name (Cbt u) h no_entry = refl
known_simple_name (Clone disk base twin) h no_entry = refl
known_simple_name (Inflate u extents) h no_entry = refl
known_simple_name (Old u) h no_entry = absurd (true≢false (sym h))
known_simple_name _ h no_entry = absurd (true≢false no_entry)

pub simple_known : (t : VolumeTable) → IsSimple t → IsKnown t
simple_known t simple = All-weaken (λ r. is_simple r ≡ true) (λ r. is_known r ≡ true) t.volumes (λ r. simple_known_name r.name) simple

-- a plain volume is a simple one, and a simple one that is no entry is plain
pub plain_simple_name : (n : Name) → is_plain_name n ≡ true → is_simple_name n ≡ true
plain_simple_name Mgt h = refl
plain_simple_name (Raw u) h = h
plain_simple_name (Vhd u) h = h
plain_simple_name (Cbt u) h = h
plain_simple_name _ h = absurd (true≢false (sym h))

pub simple_plain_name : (n : Name) → is_simple_name n ≡ true → is_making n ≡ false → is_plain_name n ≡ true
simple_plain_name Mgt h no_entry = refl
simple_plain_name (Raw u) h no_entry = h
simple_plain_name (Vhd u) h no_entry = h
simple_plain_name (Cbt u) h no_entry = h
simple_plain_name (Clone disk base twin) h no_entry = absurd (true≢false no_entry)
simple_plain_name (Inflate u extents) h no_entry = absurd (true≢false no_entry)
simple_plain_name _ h no_entry = absurd (true≢false (sym h))

pub plain_simple : (t : VolumeTable) → IsPlain t → IsSimple t
plain_simple t plain = All-weaken (λ r. is_plain r ≡ true) (λ r. is_simple r ≡ true) t.volumes (λ r. plain_simple_name r.name) plain

records_fault : (o : Outline) (m : Option Row) (s : Row) → m ≡ Some s → length s.extents ≡ record_extents o.extent → not (has_records o m) ≡ false
records_fault o None s is long = absurd (let e = is in cc)
records_fault o (Some r) s is long = ap not (eq-eqb (length r.extents) (record_extents o.extent) (let same : r ≡ s = (let e = is in cc) in ap (λ t. length t.extents) same ∙ long))

known_row : (c : Content) → KnownSound c → (r : Row) → In r c.table.volumes → is_known r ≡ true
known_row c s r h = all-In (λ r. is_known r ≡ true) c.table.volumes r s.only h

not_below : (n : ℕ) → n ≤ 500 → nat_lt 500 n ≡ false
not_below n h = le-ltb 500 n h

recorded_once : (c : Content) → KnownSound c → (u : List ℕ) → In u (disk_uuids (outline c)) → is_unrecorded (outline c) u ≡ false
recorded_once c s u h =
    let w = is_some-parts (standing_volume c.table u) (In-filter (λ v. is_some (standing_volume c.table v)) (uuids c.table) u h).1 in
    ap not (eq-eqb (length (filter (is_record_of u) (outline_records (outline c)))) 1 (ap (λ rs. length (filter (is_record_of u) rs)) (outline_records_same c) ∙ s.recorded u w.0 w.1))

-- each check passes
checks_pass : (c : Content) → KnownSound c → (o : Option Place)
    → In o (all_faults (outline c)) → o ≡ None
unfolding record_volume_fault too_many_fault misnamed_fault second_entry_fault lost_entry_fault old_leaf_fault invalid_fault tree_fault entry_link_fault record_fault disk_fault
checks_pass c s o (inl is) = is ∙ given_none _ at.Mgt (records_fault (outline c) (row c Mgt) s.records_row s.records_there s.records_extents)
checks_pass c s o (inr (inl is)) = is ∙ given_none _ at.Images (not_below (length (images c.table)) s.few_images)
checks_pass c s o (inr (inr (inl is))) = is ∙ none_named at.Image _ c.table.volumes s.named
checks_pass c s o (inr (inr (inr (inl is)))) = is ∙ ap (λ o. placed at.Journal (lesser o (second (making c.table)))) s.one_folding
    ∙ ap (placed at.Journal) s.one_entry
checks_pass c s o (inr (inr (inr (inr (inl is))))) = is ∙ none_named at.Journal _ c.table.volumes s.at_stage
checks_pass c s o (inr (inr (inr (inr (inr (inl is)))))) = is ∙ none_named at.Image _ c.table.volumes (λ r h.
    (not_ahead r.name (known_row c s r h)).no_old_name c.table)
checks_pass c s o (inr (inr (inr (inr (inr (inr (inl is))))))) = is ∙ none_named at.Image _ c.table.volumes s.valid
checks_pass c s o (inr (inr (inr (inr (inr (inr (inr (inl is)))))))) = is ∙ none_named at.Tree _ c.table.volumes s.placed
checks_pass c s o (inr (inr (inr (inr (inr (inr (inr (inr (inl is))))))))) = is ∙ none_named at.Journal _ c.table.volumes (λ r h.
    ap not (s.linked r h))
checks_pass c s o (inr (inr (inr (inr (inr (inr (inr (inr (inr (inl is)))))))))) = is ∙ ap record_place (find_none _ (numbers 0 record_count) (λ k h.
    let below = (In-numbers 0 record_count k h).1 in ap is_damaged (reading_within c k below) ∙ s.right k below))
checks_pass c s o (inr (inr (inr (inr (inr (inr (inr (inr (inr (inr (inl is))))))))))) = is ∙ ap disk_place (find_none _ (disk_uuids (outline c)) (λ u h. recorded_once c s u h))
checks_pass c s o (inr (inr (inr (inr (inr (inr (inr (inr (inr (inr (inr none))))))))))) = elim none [ ]

-- sound, fact by fact
pub known_sound : (c : Content) → KnownSound c → first_fault c ≡ None
unfolding fault_of
known_sound c s = first_none (all_faults (outline c)) (checks_pass c s)

-- the facts with another test of the names
abbrev as_tested : {p q : Name → Bool} (c : Content) → SoundBy p c → AllByRecursion (λ r. q r.name ≡ true) c.table.volumes → SoundBy q c
as_tested c s only = record {
  only = only;
  records_row = s.records_row;
  records_there = s.records_there;
  records_extents = s.records_extents;
  few_images = s.few_images;
  named = s.named;
  one_folding = s.one_folding;
  one_entry = s.one_entry;
  at_stage = s.at_stage;
  valid = s.valid;
  placed = s.placed;
  linked = s.linked;
  right = s.right;
  recorded = s.recorded;
}

pub simple_is_known : (c : Content) → SimpleSound c → KnownSound c
simple_is_known c s = as_tested c s (simple_known c.table s.only)

pub simple_sound : (c : Content) → SimpleSound c → first_fault c ≡ None
simple_sound c s = known_sound c (simple_is_known c s)

-- and kept
pub simple_well : (c : Content) → IsSimple c.table → HasNoEmptySlot c → HoldsWell c
simple_well c simple holding = record {
  holding = holding;
  linking = λ child parent r v p n there is linked held.
      let i = row_of-In c.table.volumes (Relink child parent) r there in
      absurd (true≢false (sym (all-In (λ r. is_simple r ≡ true) c.table.volumes r simple i.0) ∙ ap is_simple_name (row_of-name c.table.volumes (Relink child parent) r there)));
}

pub known_kept : (c : Content) → KnownSound c → HoldsWell c → IsKept c
known_kept c s well = record { sound = known_sound c s; holding = well.holding; linking = well.linking }

pub simple_kept : (c : Content) → SimpleSound c → HasNoEmptySlot c → IsKept c
simple_kept c s holding = known_kept c (simple_is_known c s) (simple_well c s.only holding)

-- ---- where nothing is under way

pub plain_is_simple : (c : Content) → PlainSound c → SimpleSound c
plain_is_simple c s = as_tested c s (plain_simple c.table s.only)

pub plain_sound : (c : Content) → PlainSound c → first_fault c ≡ None
plain_sound c s = simple_sound c (plain_is_simple c s)

pub plain_kept : (c : Content) → PlainSound c → HasNoEmptySlot c → IsKept c
plain_kept c s = simple_kept c (plain_is_simple c s)

-- ---- from the checks to the facts

not_old : (t : VolumeTable) (u : List ℕ) (n : Name) → is_leaf_entry n ≡ false → is_old_of t u n ≡ false
not_old t u (Leaf leaf parent) h = absurd (true≢false h)
not_old t u _ h = refl

-- no entry takes an old leaf for its own, where no leaf is being folded
pub none_old : (t : VolumeTable) (u : List ℕ) (rs : List Row) → ((r : Row) → In r rs → is_leaf_entry r.name ≡ false) → list_any (is_old_of t u) (filter is_folding (names_of rs)) ≡ false
none_old t u [] none = refl
none_old t u (r ∷ rs) none = by (is_folding r.name) (none_old t u rs (λ s i. none s (inr i)))
  where
    by : (b : Bool) → list_any (is_old_of t u) (filter is_folding (names_of rs)) ≡ false → list_any (is_old_of t u) (cond b (r.name ∷ filter is_folding (names_of rs)) (filter is_folding (names_of rs))) ≡ false
    by true rest = ap₂ (λ x y. x || y) (not_old t u r.name (none r (inl refl))) rest
    by false rest = rest

-- so each old leaf is refused
known_from : (t : VolumeTable) (n : Name) → ((u : List ℕ) → list_any (is_old_of t u) (folding t) ≡ false) → is_leaf_entry n ≡ false → is_orphaned t n ≡ false → is_known_name n ≡ true
known_from t (Old u) none j h = absurd (true≢false (sym (ap not (none u)) ∙ h))
known_from t (Leaf leaf parent) none j h = absurd (true≢false j)
known_from t _ none j h = refl

pub all-of : (P : Row → Type 0) (rs : List Row) → ((r : Row) → In r rs → P r) → AllByRecursion P rs
all-of P [] each = tt
all-of P (r ∷ rs) each = (each r (inl refl), all-of P rs (λ s h. each s (inr h)))

records_right : (o : Outline) (m : Option Row) → rows o.table Mgt ≡ m → not (has_records o m) ≡ false → (r : Row) × (rows o.table Mgt ≡ Some r) × (length r.extents ≡ record_extents o.extent)
records_right o None is h = absurd (let e = h in cc)
records_right o (Some r) is h = (r, is, eqb-true (length r.extents) (record_extents o.extent) (not_false (length r.extents == record_extents o.extent) h))

record_none : (o : Option ℕ) → record_place o ≡ None → o ≡ None
record_none None h = refl
record_none (Some k) h = absurd (let e = h in cc)

pub place_none : (place : Name → Place) (o : Option Name) → placed place o ≡ None → o ≡ None
place_none place None h = refl
place_none place (Some n) h = absurd (let e = h in cc)

pub disk_none : (o : Option (List ℕ)) → disk_place o ≡ None → o ≡ None
disk_none None h = refl
disk_none (Some k) h = absurd (let e = h in cc)

not_above : (n : ℕ) → nat_lt 500 n ≡ false → n ≤ 500
not_above n h = ltb-false 500 n h

listed_disk : (o : Outline) (u : List ℕ) (n : Name) → standing_volume o.table u ≡ Some n → In u (disk_uuids o)
listed_disk o u n is = filter-In (λ v. is_some (standing_volume o.table v)) (uuids o.table) u (stands_listed o.table u n is) (ap is_some is)

pub lesser_none : (a b : Option Name) → lesser a b ≡ None → (a ≡ None) × (b ≡ None)
lesser_none None b h = (refl, h)
lesser_none (Some a) None h = absurd (none-some a (sym h))
lesser_none (Some a) (Some b) h = absurd (by (is_lt (name_cmp a b)) h)
  where
    by : (l : Bool) → cond l (Some a) (Some b) ≡ None → ⊥
    by true is = none-some a (sym is)
    by false is = none-some b (sym is)

-- where all checks pass, fact by fact
pub sound_all : (o : Outline) → fault_of o ≡ None → AllSound o
unfolding fault_of record_volume_fault too_many_fault misnamed_fault second_entry_fault lost_entry_fault old_leaf_fault invalid_fault tree_fault entry_link_fault record_fault disk_fault
sound_all o h =
    let each = none_first (all_faults o) h in
    let w = records_right o (rows o.table Mgt) refl (none_given _ at.Mgt (each (record_volume_fault o) (inl refl))) in
    let entries = lesser_none (second (folding o.table)) (second (making o.table)) (place_none at.Journal _ (each (second_entry_fault o) (inr (inr (inr (inl refl)))))) in
    record {
      records_row = w.0;
      records_there = w.1;
      records_extents = w.2;
      few_images = not_above (length (images o.table)) (none_given _ at.Images (each (too_many_fault o) (inr (inl refl))));
      named = named_none at.Image _ o.table.volumes (each (misnamed_fault o) (inr (inr (inl refl))));
      one_folding = entries.0;
      one_entry = entries.1;
      at_stage = named_none at.Journal _ o.table.volumes (each (lost_entry_fault o) (inr (inr (inr (inr (inl refl))))));
      owned = named_none at.Image (λ r. is_orphaned o.table r.name) o.table.volumes (each (old_leaf_fault o) (inr (inr (inr (inr (inr (inl refl)))))));
      valid = named_none at.Image _ o.table.volumes (each (invalid_fault o) (inr (inr (inr (inr (inr (inr (inl refl))))))));
      placed = named_none at.Tree _ o.table.volumes (each (tree_fault o) (inr (inr (inr (inr (inr (inr (inr (inl refl)))))))));
      linked = λ r i. not_false (is_entry_linked o r.name) (named_none at.Journal (λ q. not (is_entry_linked o q.name)) o.table.volumes
          (each (entry_link_fault o) (inr (inr (inr (inr (inr (inr (inr (inr (inl refl)))))))))) r i);
      right = λ k below. none_find _ (numbers 0 record_count) (record_none _ (each (record_fault o) (inr (inr (inr (inr (inr (inr (inr (inr (inr (inl refl)))))))))))) k (numbers-In 0 record_count k (omega arith) (omega arith));
      recorded = λ u n is. eqb-true _ 1 (not_false _ (none_find _ (disk_uuids o) (disk_none _ (each (disk_fault o) (inr (inr (inr (inr (inr (inr (inr (inr (inr (inr (inl refl))))))))))))) u (listed_disk o u n is)));
    }

-- where no entry of the folding of a leaf is there besides, no old leaf is either
pub known_table : (o : Outline) → PassesButLeaf o → IsKnown o.table
known_table o h =
    let s = sound_all o h.sound in
    all-of (λ r. is_known r ≡ true) o.table.volumes (λ r k. known_from o.table r.name (λ u. none_old o.table u o.table.volumes h.no_leaf) (h.no_leaf r k) (s.owned r k))

pub but_leaf_known : (c : Content) → IsSoundButLeaf c → KnownSound c
but_leaf_known c h =
    let s = sound_all (outline c) h.sound in
    record {
      only = known_table (outline c) h;
      records_row = s.records_row;
      records_there = s.records_there;
      records_extents = s.records_extents;
      few_images = s.few_images;
      named = s.named;
      one_folding = s.one_folding;
      one_entry = s.one_entry;
      at_stage = s.at_stage;
      valid = s.valid;
      placed = s.placed;
      linked = s.linked;
      right = λ k below. sym (ap is_damaged (reading_within c k below)) ∙ s.right k below;
      recorded = λ u n is. ap (λ rs. length (filter (is_record_of u) rs)) (sym (outline_records_same c)) ∙ s.recorded u n is;
    }

-- where no entry of a copy or a link is there, at most images are being enlarged or disks forked
pub known_is_simple : (t : VolumeTable) → IsKnown t → folding t ≡ [] → IsSimple t
known_is_simple t known none = each t.volumes known none
  where
    each : (rs : List Row) → AllByRecursion (λ r. is_known r ≡ true) rs → filter is_folding (names_of rs) ≡ [] → AllByRecursion (λ r. is_simple r ≡ true) rs
    each [] all none = tt
    each (r ∷ rs) all none = by (is_folding r.name) refl none (each rs all.1)
      where
        by : (b : Bool) → is_folding r.name ≡ b → cond b (r.name ∷ filter is_folding (names_of rs)) (filter is_folding (names_of rs)) ≡ []
            → (filter is_folding (names_of rs) ≡ [] → AllByRecursion (λ r. is_simple r ≡ true) rs) → AllByRecursion (λ r. is_simple r ≡ true) (r ∷ rs)
        by true is h rest = absurd (let x = h in cc)
        by false is h rest = (known_simple_name r.name all.0 is, rest h)

pub known_sound_simple : (c : Content) → KnownSound c → IsSimple c.table → SimpleSound c
known_sound_simple = as_tested

pub but_leaf_sound : (c : Content) → IsSoundButLeaf c → folding c.table ≡ [] → SimpleSound c
but_leaf_sound c h none = let s = but_leaf_known c h in known_sound_simple c s (known_is_simple c.table s.only none)

-- where no entry is there, nothing is under way
pub simple_none_plain : (t : VolumeTable) → IsSimple t → making t ≡ [] → IsPlain t
simple_none_plain t simple none = each t.volumes simple none
  where
    each : (rs : List Row) → AllByRecursion (λ r. is_simple r ≡ true) rs → filter is_making (names_of rs) ≡ [] → AllByRecursion (λ r. is_plain r ≡ true) rs
    each [] all none = tt
    each (r ∷ rs) all none = by (is_making r.name) refl none (each rs all.1)
      where
        by : (b : Bool) → is_making r.name ≡ b → cond b (r.name ∷ filter is_making (names_of rs)) (filter is_making (names_of rs)) ≡ []
            → (filter is_making (names_of rs) ≡ [] → AllByRecursion (λ r. is_plain r ≡ true) rs) → AllByRecursion (λ r. is_plain r ≡ true) (r ∷ rs)
        by true is h rest = absurd (let x = h in cc)
        by false is h rest = (simple_plain_name r.name all.0 is, rest h)

pub simple_is_plain : (c : Content) → SimpleSound c → making c.table ≡ [] → PlainSound c
simple_is_plain c s none = as_tested c s (simple_none_plain c.table s.only none)

-- ---- and back

pub outline_but_leaf : (x : Outline) → fault_of x ≡ None → IsKnown x.table → PassesButLeaf x
outline_but_leaf x sound known = record { sound = sound; no_leaf = λ r h. (not_ahead r.name (all-In (λ s. is_known s ≡ true) x.table.volumes r known h)).no_leaf_entry }

pub known_but_leaf : (c : Content) → first_fault c ≡ None → IsKnown c.table → IsSoundButLeaf c
known_but_leaf c = outline_but_leaf (outline c)

pub simple_but_leaf : (c : Content) → first_fault c ≡ None → IsSimple c.table → IsSoundButLeaf c
simple_but_leaf c sound simple = known_but_leaf c sound (simple_known c.table simple)
