-- The checks one after another: which place is the first, and what is known where none is.
use Rattle.std.proofs.Common.{◌≡◌, ℕ, zero, suc, ◌+◌, ◌<◌, ◌≤◌, ◌⊎◌, inl, inr, Bool, true, false, cond, not, List, [], ◌∷◌, ◌++◌, length, get_or, Option, Some, None, refl, sym, ap, ◌∙◌, subst, subst₂, arith}
use Rattle.std.specs.List.{find}
use Rattle.std.specs.Prelude.{Result, Err, IfErr, IfNone, IfSome}
use Rattle.std.proofs.lemmas.Bool.{cases_lt, ltb-false, eqb-true}
use Rattle.std.proofs.lemmas.Option.{slice_get-get_or, slice_get_within}
use Rattle.sm_base.specs.Limits.{extent_limit}
use Rattle.sm_base.specs.declared.faults.OpenFault.{OpenFault}
use Rattle.sm_base.specs.declared.faults.OpenFault.TheVariants as fault
use Rattle.sm_base.specs.declared.faults.Place.{Place}
use Rattle.sm_base.specs.declared.faults.Place.TheVariants as at
use Rattle.sm_base.specs.declared.names.Name.TheVariants.{Mgt}
use Rattle.sm_base.specs.declared.sizes.Geometry.{Geometry}
use Rattle.sm_disk.specs.Held.{Held, reads, Rose}
use Rattle.vg_layout.specs.Places.{record_extents}
use Rattle.vg_meta.specs.Tables.{VolumeTable, Row, IsTable, rows, extents_of}
use Rattle.vg_meta.specs.Roomy.{RoomyTable, table_alone}
use Rattle.vg_volumes.specs.Sites.{Site, size_of}
use Rattle.vg_volumes.specs.Stored.{OnlyReads, Stored}
use Rattle.vg_volumes.specs.declared.stores.Store.{Ghosts}
use Rattle.sm_ready.proofs.AgainLaws.{stored_as}
use Rattle.common_laws.specs.Lists.{first_some, numbers}
use Rattle.sm_record.specs.declared.records.Record.{Record}
use Rattle.sm_record.specs.declared.records.Reading.{Reading}
use Rattle.sm_record.specs.declared.records.Reading.TheVariants.{Free, Taken, Damaged}
use Rattle.sm_record.specs.Records.{reading}
use Rattle.sm_mgt.specs.Places.{Agrees, as_reading, records_held, records_of, IsFirstDamaged, reading_of}
use Rattle.sm_standing.specs.Contents.{record_count}
use Rattle.sm_standing.specs.Checks.{has_records, is_lost, is_misnamed, is_orphaned, record_volume_fault, too_many_fault, misnamed_fault, second_entry_fault, lost_entry_fault, old_leaf_fault, invalid_fault, tree_fault, entry_link_fault, record_fault, record_place, is_damaged, disk_fault, fault_of, first_fault}
use Rattle.sm_standing.specs.Outlines.{Outline, reading_in, outline}
use Rattle.sm_standing.proofs.OutlineLaws.{reading_within}
use Rattle.common_laws.proofs.Lists.{none_first, find_none, In-numbers}
use Rattle.sm_ready.specs.Stores.{content_in, content_now}
use Rattle.sm_checks.specs.Faults.{HasTable, HasPlaces, PassImages, table_faults}
use Rattle.sm_checks.specs.Openable.{IsOpenable, IsCheckStopped, IsStoppedBy}
use Rattle.sm_standing.proofs.FaultLaws.{named_none, none_given}
use Rattle.sm_standing.specs.Entries.{folding, making, second}
use Rattle.sm_checks.proofs.CheckLaws.{only}
use Rattle.sm_checks.proofs.CheckLaws.{lesser_none, placed_none}
use Rattle.sm_checks.proofs.TableLaws.{records_room}
use Rattle.common_laws.proofs.Booleans.{not_false}
use Rattle.sm_ready.proofs.LeftLaws.{now_sector}

-- ---- the volume of records

-- it has all its sectors
pub records_fit : {s : Site} {t : VolumeTable} → IsOpenable s t → record_count ≤ size_of s t Mgt
records_fit {s} {t} c = records_room s t c.record_volume

-- a reading is that of the sector that the store holds
reading_held : {s : Site} {t : VolumeTable} (area : Held) (k : ℕ) → IsOpenable s t → k < record_count → reading_in (content_now s t area) k ≡ reading_of (records_held s t area) k
reading_held {s} {t} area k c below = reading_within (content_now s t area) k below ∙ ap reading (now_sector s t area Mgt k (omega (arith, below, records_fit c)))

-- ---- the first of all

first_front : {A : Type 0} (xs ys : List (Option A)) (x : A) → first_some xs ≡ Some x → first_some (xs ++ ys) ≡ Some x
first_front [] ys x h = absurd (let e = h in cc)
first_front (Some y ∷ xs) ys x h = h
first_front (None ∷ xs) ys x h = first_front xs ys x h

first_behind : {A : Type 0} (xs ys : List (Option A)) → first_some xs ≡ None → first_some (xs ++ ys) ≡ first_some ys
first_behind [] ys h = refl
first_behind (Some y ∷ xs) ys h = absurd (let e = h in cc)
first_behind (None ∷ xs) ys h = first_behind xs ys h

abbrev behind : Outline → List (Option Place)
behind x = invalid_fault x ∷ tree_fault x ∷ entry_link_fault x ∷ record_fault x ∷ disk_fault x ∷ []

-- a check by the table is the first that fails
pub whole_table : (x : Outline) (place : Place) → first_some (table_faults x) ≡ Some place → fault_of x ≡ Some place
unfolding fault_of
whole_table x place h = first_front (table_faults x) (behind x) place h

-- where they pass, it is one of the images, of their parents, of the records, of the disks, or none
pub whole_images : (x : Outline) → first_some (table_faults x) ≡ None → fault_of x ≡ first_some (behind x)
unfolding fault_of
whole_images x none = first_behind (table_faults x) (behind x) none

pub whole_valid : (x : Outline) (place : Place) → first_some (table_faults x) ≡ None → invalid_fault x ≡ Some place → fault_of x ≡ Some place
whole_valid x place none h = whole_images x none ∙ ap (λ o. first_some (o ∷ tree_fault x ∷ entry_link_fault x ∷ record_fault x ∷ disk_fault x ∷ [])) h

pub whole_trees : (x : Outline) (place : Place) → first_some (table_faults x) ≡ None → invalid_fault x ≡ None → tree_fault x ≡ Some place → fault_of x ≡ Some place
whole_trees x place none valid h =
    whole_images x none ∙ ap (λ o. first_some (o ∷ tree_fault x ∷ entry_link_fault x ∷ record_fault x ∷ disk_fault x ∷ [])) valid
    ∙ ap (λ o. first_some (o ∷ entry_link_fault x ∷ record_fault x ∷ disk_fault x ∷ [])) h

whole_behind : (x : Outline) → first_some (table_faults x) ≡ None → invalid_fault x ≡ None → tree_fault x ≡ None → fault_of x ≡ first_some (entry_link_fault x ∷ record_fault x ∷ disk_fault x ∷ [])
whole_behind x none valid trees =
    whole_images x none ∙ ap (λ o. first_some (o ∷ tree_fault x ∷ entry_link_fault x ∷ record_fault x ∷ disk_fault x ∷ [])) valid
    ∙ ap (λ o. first_some (o ∷ entry_link_fault x ∷ record_fault x ∷ disk_fault x ∷ [])) trees

pub whole_links : (x : Outline) (place : Place) → first_some (table_faults x) ≡ None → invalid_fault x ≡ None → tree_fault x ≡ None → entry_link_fault x ≡ Some place → fault_of x ≡ Some place
whole_links x place none valid trees h = whole_behind x none valid trees ∙ ap (λ o. first_some (o ∷ record_fault x ∷ disk_fault x ∷ [])) h

whole_last : (x : Outline) → first_some (table_faults x) ≡ None → PassImages x → fault_of x ≡ first_some (record_fault x ∷ disk_fault x ∷ [])
whole_last x none pass = whole_behind x none pass.valid pass.placed ∙ ap (λ o. first_some (o ∷ record_fault x ∷ disk_fault x ∷ [])) pass.linked

pub whole_records : (x : Outline) (place : Place) → first_some (table_faults x) ≡ None → PassImages x → record_fault x ≡ Some place → fault_of x ≡ Some place
whole_records x place none pass h = whole_last x none pass ∙ ap (λ o. first_some (o ∷ disk_fault x ∷ [])) h

pub whole_disks : (x : Outline) → first_some (table_faults x) ≡ None → PassImages x → record_fault x ≡ None → fault_of x ≡ disk_fault x
whole_disks x none pass right = whole_last x none pass ∙ ap (λ q. first_some (q ∷ disk_fault x ∷ [])) right ∙ only (disk_fault x)

-- ---- where the checks by the table pass

-- the outline of a content of this table
pub has_table : (s : Site) (t : VolumeTable) (image : ℕ → List ℕ) → HasTable s.geometry t (outline (content_in s t image))
has_table s t image = record { extent = refl; block = refl; entries = refl; table = refl }

-- that is what the checks by the table say
abbrev pub TablesSay : Site → VolumeTable → Option Place → Type 0
TablesSay s t o = (x : Outline) → HasTable s.geometry t x → first_some (table_faults x) ≡ o

records_long : (x : Outline) (o : Option Row) → not (has_records x o) ≡ false → length (extents_of o) ≡ record_extents x.extent
records_long x None h = absurd (let e = h in cc)
records_long x (Some r) h = eqb-true _ _ (not_false _ h)

pub checked_from : (s : Site) (t : VolumeTable) → IsTable s.count t → s.count ≤ extent_limit → TablesSay s t None → IsOpenable s t
unfolding record_volume_fault too_many_fault misnamed_fault second_entry_fault lost_entry_fault old_leaf_fault
checked_from s t table extents none =
    let x : Outline = outline (content_in s t (λ p. [])) in
    let each = none_first (table_faults x) (none x (has_table s t (λ p. []))) in
    let entries = lesser_none (second (folding t)) (second (making t)) (placed_none at.Journal _ (each (second_entry_fault x) (inr (inr (inr (inl refl)))))) in
    record {
      table = table;
      few_extents = extents;
      owned = named_none at.Image (λ r. is_orphaned t r.name) t.volumes (each (old_leaf_fault x) (inr (inr (inr (inr (inr (inl refl)))))));
      one_entry = entries.1;
      one_folding = entries.0;
      at_stage = named_none at.Journal (is_lost t) t.volumes (each (lost_entry_fault x) (inr (inr (inr (inr (inl refl))))));
      named = named_none at.Image (is_misnamed t) t.volumes (each (misnamed_fault x) (inr (inr (inl refl))));
      few_images = ltb-false _ _ (none_given _ at.Images (each (too_many_fault x) (inr (inl refl))));
      record_volume = records_long x (rows t Mgt) (none_given _ at.Mgt (each (record_volume_fault x) (inl refl)));
    }

-- ---- the records

has_places : {s : Site} {t : VolumeTable} (area : Held) (places : List (Option Record)) → IsOpenable s t → Agrees (records_held s t area) places
    → HasPlaces places (outline (content_now s t area))
has_places area places c agrees = record {
  long = agrees.long;
  each = λ k o at. reading_held area k c (omega (arith, slice_get_within places k o at, agrees.long)) ∙ agrees.each k o at;
}

as_right : (o : Option Record) → is_damaged (as_reading o) ≡ false
as_right None = refl
as_right (Some r) = refl

records_right : (x : Outline) (places : List (Option Record)) → HasPlaces places x → record_fault x ≡ None
unfolding record_fault
records_right x places has =
    ap record_place (find_none (λ k. is_damaged (x.readings k)) (numbers 0 record_count) (λ k h.
    let found = slice_get-get_or places k None (omega (arith, (In-numbers 0 record_count k h).1, has.long)) in
    ap is_damaged (has.each k (get_or places k None) found) ∙ as_right (get_or places k None)))

first_number : (test : ℕ → Bool) (a n k : ℕ) → a ≤ k → k < a + n → test k ≡ true → ((j : ℕ) → a ≤ j → j < k → test j ≡ false) → find test (numbers a n) ≡ Some k
unfolding numbers
first_number test a zero k from below passes before = absurd (omega arith)
first_number test a (suc n) k from below passes before =
    by (cases_lt a k) (λ less. first_number test (a + 1) n k (omega (arith, less)) (omega arith) passes (λ j lo hi. before j (omega arith) hi))
  where
    by : (a < k) ⊎ (k ≤ a) → (a < k → find test (numbers (a + 1) n) ≡ Some k) → cond (test a) (Some a) (find test (numbers (a + 1) n)) ≡ Some k
    by (inl less) rest = ap (λ v. cond v (Some a) (find test (numbers (a + 1) n))) (before a (omega arith) less) ∙ rest less
    by (inr least) rest =
        let e : a ≡ k = omega (arith, least, from) in
        ap (λ v. cond v (Some a) (find test (numbers (a + 1) n))) (ap test e ∙ passes) ∙ ap Some e

damaged_test : (r : Reading) → (r ≡ Damaged → ⊥) → is_damaged r ≡ false
damaged_test Free h = refl
damaged_test (Taken x) h = refl
damaged_test Damaged h = absurd (h refl)

-- the first sector that is damaged
records_wrong : {s : Site} {t : VolumeTable} (area : Held) (k : ℕ) → IsOpenable s t → IsFirstDamaged (records_held s t area) k → record_fault (outline (content_now s t area)) ≡ Some (at.Record k)
unfolding record_fault
records_wrong {s} {t} area k c first =
    ap record_place (first_number (λ j. is_damaged (reading_in (content_now s t area) j)) 0 record_count k (omega arith) (omega (arith, first.within))
    (ap is_damaged (reading_held area k c first.within ∙ first.damaged))
    (λ j lo hi. damaged_test (reading_in (content_now s t area) j) (λ e. first.before j hi (sym (reading_held area j c (omega (arith, first.within))) ∙ e))))

-- ---- as the checks are called

pub tables_say : (s : Site) (g : Geometry) (k kept : RoomyTable) (o : Option Place) → k ≡ kept → g ≡ s.geometry
    → ((x : Outline) → HasTable g (table_alone k) x → o ≡ first_some (table_faults x)) → TablesSay s (table_alone kept) o
tables_say s g k kept o same geometry says x has = sym (says x (subst₂ (λ h (y : RoomyTable). HasTable h (table_alone y) x) (sym geometry) (sym same) has))

-- of an outline with this table and these places
pub all_pass : (s : Site) {t u : VolumeTable} (places : List (Option Record)) (o : Option Place) → u ≡ t → TablesSay s t None
    → ((x : Outline) → x.table ≡ u → HasPlaces places x → o ≡ disk_fault x) → (x : Outline) → HasTable s.geometry t x → PassImages x → HasPlaces places x → fault_of x ≡ o
all_pass s places o same none says x is images has = whole_disks x (none x is) images (records_right x places has) ∙ sym (says x (is.table ∙ sym same) has)

pub all_say : {s : Site} {t u : VolumeTable} (area : Held) (places : List (Option Record)) (o : Option Place) → IsOpenable s t → u ≡ t → Agrees (records_held s t area) places
    → TablesSay s t None → ((x : Outline) → x.table ≡ u → HasPlaces places x → o ≡ disk_fault x) → PassImages (outline (content_now s t area)) → first_fault (content_now s t area) ≡ o
all_say {s} {t} area places o c same agrees none says images =
    all_pass s places o same none says (outline (content_now s t area)) (has_table s t (reads area)) images (has_places area places c agrees)

-- why the images were not read
pub not_read : (s : Site) (t : VolumeTable) (told : Type 0) (area : Held) (before now : ℕ) (e : OpenFault) → TablesSay s t None
    → IsStoppedBy told (invalid_fault (outline (content_now s t area))) before now e → IsCheckStopped told (content_now s t area) before now e
not_read s t told area before now (fault.Damaged place) none is = λ known.
    let x = outline (content_now s t area) in whole_valid x place (none x (has_table s t (reads area))) (is known)
not_read s t told area before now fault.Device none is = is
not_read s t told area before now fault.NoMemory none is = tt
not_read s t told area before now fault.NotARepository none is = is
not_read s t told area before now (fault.Unsupported version) none is = is

-- the records of a store that was only read are those from before
module _ {S : Type 0} {g : Ghosts S} {a b : S} (only : OnlyReads g a b) (told : g.told) where
  pub agrees_before : (places : List (Option Record)) → Agrees (records_of g b) places → Agrees (records_of g a) places
  agrees_before places = subst (λ (y : Stored). Agrees (records_held y.site y.table y.area) places) (stored_as only told)

  pub damaged_before : (k : ℕ) → IsFirstDamaged (records_of g b) k → IsFirstDamaged (records_of g a) k
  damaged_before k = subst (λ (y : Stored). IsFirstDamaged (records_held y.site y.table y.area) k) (stored_as only told)

-- why the records were not read
pub stopped_by : {s : Site} {t : VolumeTable} (told : Type 0) (area : Held) (before mid now : ℕ) (e : OpenFault) {First : ℕ → Type 0} → IsOpenable s t → TablesSay s t None → (told → PassImages (outline (content_now s t area))) → before ≤ mid
    → (told → (k : ℕ) → First k → IsFirstDamaged (records_held s t area) k)
    → (e ≡ fault.NoMemory) ⊎ ((e ≡ fault.Device) × Rose mid now) ⊎ ((k : ℕ) × (e ≡ fault.Damaged (at.Record k)) × (told → First k))
    → IsCheckStopped told (content_now s t area) before now e
stopped_by {s} {t} told area before mid now e c none images later to_first (inl is) = subst (IsCheckStopped told (content_now s t area) before now) (sym is) tt
stopped_by {s} {t} told area before mid now e c none images later to_first (inr (inl (is, rose))) = subst (IsCheckStopped told (content_now s t area) before now) (sym is) (omega (arith, rose, later))
stopped_by {s} {t} told area before mid now e c none images later to_first (inr (inr (k, is, first))) =
    let x = outline (content_now s t area) in
    subst (IsCheckStopped told (content_now s t area) before now) (sym is)
    (λ known. whole_records x (at.Record k) (none x (has_table s t (reads area))) (images known) (records_wrong area k c (to_first known k (first known))))

pub if_err : {T E : Type 0} (P : E → Type 0) (r : Result T E) (e : E) → r ≡ Err e → P e → IfErr r P
if_err P r e is p = subst (λ x. IfErr x P) (sym is) p

pub none_only : {A P : Type 0} (o : Option A) → (o ≡ None → P) → IfNone o P
none_only None p = p refl
none_only (Some x) p = tt

pub if_some : {A : Type 0} (P : A → Type 0) {o : Option A} {x : A} → o ≡ Some x → IfSome o P → P x
if_some P is p = subst (λ o. IfSome o P) is p

pub if_none : {A : Type 0} (P : Type 0) {o : Option A} → o ≡ None → IfNone o P → P
if_none P is p = subst (λ o. IfNone o P) is p
