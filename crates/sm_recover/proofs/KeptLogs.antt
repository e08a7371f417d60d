-- Behind changes of images and entries, and in whatever a stop leaves of them, the volumes of logs are the same, and so is what a read of
-- them gives.
use Rattle.std.proofs.Common.{◌≡◌, ⊎_elim, ℕ, zero, suc, ◌+◌, ◌*◌, ◌/◌, ◌%◌, ◌<◌, ◌≤◌, nat_lt, not, true, false, cond, List, [], ◌∷◌, length, take, Option, Some, None, refl, sym, ap, ◌∙◌, subst, arith}
use Rattle.std.specs.Prelude.{slice_index}
use Rattle.std.specs.List.{AllByRecursion}
use Rattle.std.proofs.Math.Nat.{mul_comm}
use Rattle.std.proofs.Math.Path.{fun_ext}
use Rattle.std.proofs.lemmas.Bool.{and_parts, cases_lt, ltb-true, true≢false}
use Rattle.std.proofs.lemmas.List.{get_or_past}
use Rattle.std.proofs.lemmas.Nat.{mod_below, mul-add-lt}
use Rattle.std.proofs.lemmas.Option.{slice_get-get_or}
use Rattle.common_laws.specs.Lists.{◌>>=◌}
use Rattle.sm_base.specs.Kinds.{is_image, is_log}
use Rattle.sm_base.specs.declared.names.Name.{Name}
use Rattle.sm_base.specs.declared.names.Name.TheVariants.{Mgt, Vhd, Raw, Old, Cbt, Clone, Inflate, Coalesce, Relink, Leaf}
use Rattle.sm_disk.specs.Held.{reads}
use Rattle.vg_meta.specs.Changes.{Permits, applied}
use Rattle.vg_meta.specs.Tables.{IsSpread, IsTable, IsVolume, Row, Rows, VolumeTable, extents_of, rows, suits}
use Rattle.vg_meta.specs.declared.changes.Change.{Change}
use Rattle.vg_meta.specs.declared.changes.Change.TheVariants.{Create, Cut, Grow, Mark, Remove, Rename}
use Rattle.vg_meta.specs.declared.changes.Tag.TheVariants.{Hidden}
use Rattle.vg_meta.proofs.ByName.{spread}
use Rattle.vg_meta.proofs.ChangeLaws.{IsTable-applied}
use Rattle.vg_meta.proofs.RowLaws.{All-row_of, row_of-name}
use Rattle.vg_volumes.specs.Sites.{Site, area_size}
use Rattle.vg_volumes.specs.Stored.{IsEitherOf, Stored}
use Rattle.vg_volumes.specs.Volumes.{piece, spot}
use Rattle.sm_standing.specs.Contents.{Content, sectors_of}
use Rattle.sm_standing.specs.Entries.{folding, head, image_with, is_there, making, of_row}
use Rattle.sm_standing.specs.LogChecks.{HasLogsOf}
use Rattle.sm_standing.specs.Logs.{log_at, log_in, log_read}
use Rattle.sm_standing.specs.Opened.{applied_all, base_changes, changes_back, is_longer, under_name, undo_changes, wanted}
use Rattle.sm_ready.specs.Repairs.{IsSame, content_of}
use Rattle.sm_ready.specs.Runs.{AllMay}
use Rattle.sm_ready.specs.Stores.{content_in}
use Rattle.sm_ready.proofs.LogStores.{SpeaksOfNoLog, log_rows_stay}
use Rattle.sm_ready.proofs.SameLogs.{raised_same}
use Rattle.sm_recover.specs.Ending.{leaf_ends}
use Rattle.sm_recover.specs.Repairs.{IsEndable}
use Rattle.sm_recover.specs.Steps.{IsPartOf, ends_copy, first_changes, uncopied}
use Rattle.sm_checks.proofs.EntryLaws.{base_found}
use Rattle.sm_recover.proofs.CountLaws.{image_no_log}
use Rattle.sm_recover.proofs.EndLaws.{all_join, all_wanted, first_allowed}
use Rattle.sm_recover.proofs.EndedThen.{of_changes}
use Rattle.sm_recover.proofs.UndoLaws.{IsKeptAs}
use Rattle.sm_recover.proofs.UndoTables.{back_image}

-- ---- tables

-- the volumes of logs are those of another table, and the sequence number is no lower
pub record KeepsLogs (count : ℕ) (t v : VolumeTable) : Type 0 where
  pub table : IsTable count v
  pub volumes : (u : List ℕ) → rows v (Cbt u) ≡ rows t (Cbt u)
  pub later : t.sequence ≤ v.sequence

pub keeps_none : {count : ℕ} {t : VolumeTable} → IsTable count t → KeepsLogs count t t
keeps_none table = record { table = table; volumes = λ u. refl; later = omega arith }

pub keeps_then : {count : ℕ} {t u v : VolumeTable} → KeepsLogs count t u → KeepsLogs count u v → KeepsLogs count t v
keeps_then p q = record { table = q.table; volumes = λ u. q.volumes u ∙ p.volumes u; later = omega (arith, p.later, q.later) }

-- a change of another volume
abbrev pub IsBesideLogs : Change → Type 0
IsBesideLogs (Create name fresh extents) = is_log name ≡ false
IsBesideLogs (Remove name) = is_log name ≡ false
IsBesideLogs (Rename from to) = (is_log from ≡ false) × (is_log to ≡ false)
IsBesideLogs (Grow name extents) = is_log name ≡ false
IsBesideLogs (Cut name keep) = is_log name ≡ false
IsBesideLogs (Mark name tag on) = is_log name ≡ false

not_log : (n : Name) (u : List ℕ) → is_log n ≡ false → Cbt u ≡ n → ⊥
not_log n u none same = true≢false (ap is_log same ∙ none)

speaks_none : (c : Change) → IsBesideLogs c → SpeaksOfNoLog c
speaks_none (Create name fresh extents) none u = not_log name u none
speaks_none (Remove name) none u = not_log name u none
speaks_none (Rename from to) none u = ⊎_elim (not_log from u none.0) (not_log to u none.1)
speaks_none (Grow name extents) none u = not_log name u none
speaks_none (Cut name keep) none u = not_log name u none
speaks_none (Mark name tag on) none u = not_log name u none

pub keeps_one : {count : ℕ} {t : VolumeTable} (c : Change) → IsTable count t → Permits count t c → IsBesideLogs c → KeepsLogs count t (applied t c)
keeps_one {count} {t} c table may none = record {
  table = IsTable-applied count t c table may;
  volumes = log_rows_stay c table may (speaks_none c none);
  later = raised_same c table;
}

-- whatever a stop leaves of one
pub either_keeps : (x : Stored) (v : VolumeTable) (image : ℕ → List ℕ) (c : Change) → IsTable x.site.count x.table → Permits x.site.count x.table c → IsBesideLogs c → IsEitherOf x c v image
    → KeepsLogs x.site.count x.table v
either_keeps x v image c table may none either =
    ⊎_elim (λ before. subst (KeepsLogs x.site.count x.table) (sym before.table_is) (keeps_none table))
    (λ after. subst (KeepsLogs x.site.count x.table) (sym after.table_is) (keeps_one c table may none)) either

-- some of such changes
pub keeps_part : (count : ℕ) (t : VolumeTable) (cs : List Change) (v : VolumeTable) → IsTable count t → AllMay count t cs → AllByRecursion IsBesideLogs cs → IsPartOf t cs v → KeepsLogs count t v
keeps_part count t [] v table may none (k, is) = subst (KeepsLogs count t) (sym (is ∙ nothing k)) (keeps_none table)
  where
    nothing : (k : ℕ) → applied_all t (take k []) ≡ t
    nothing zero = refl
    nothing (suc k) = refl
keeps_part count t (c ∷ cs) v table may none (zero, is) = subst (KeepsLogs count t) (sym is) (keeps_none table)
keeps_part count t (c ∷ cs) v table may none (suc k, is) =
    keeps_then (keeps_one c table may.0 none.0) (keeps_part count (applied t c) cs v (IsTable-applied count t c table may.0) may.2 none.1 (k, is))

-- ---- what a read of them gives

-- the volume of a log has an extent
some_extents : (u : List ℕ) (r : Row) → IsVolume r → r.name ≡ Cbt u → 0 < length r.extents
some_extents u r volume named =
    let kind : suits (record r { name = Cbt u }) ≡ true = subst (λ n. suits (record r { name = n }) ≡ true) named volume.kind in
    ltb-true 0 (length r.extents) (and_parts (not r.hidden) (nat_lt 0 (length r.extents)) kind).1

-- so each place that is asked for is within the extents
module _ (count extent : ℕ) (vs : Rows) (n : Name) (sp : IsSpread count vs) (pos : 0 < extent) (some : 0 < length (extents_of (vs n))) where
  index_below : (i : ℕ) → slice_index (extents_of (vs n)) i < count
  index_below i = ⊎_elim (inside i) past (cases_lt i (length (extents_of (vs n))))
    where
      inside : (j : ℕ) → j < length (extents_of (vs n)) → slice_index (extents_of (vs n)) j < count
      inside j below = sp.below n j (slice_index (extents_of (vs n)) j) (slice_get-get_or (extents_of (vs n)) j 0 below)

      past : length (extents_of (vs n)) ≤ i → slice_index (extents_of (vs n)) i < count
      past le = let first = inside 0 some in omega (arith, first, get_or_past (extents_of (vs n)) i 0 le)

  spot_within : (p : ℕ) → spot extent (extents_of (vs n)) p < count * extent
  unfolding spot
  spot_within p =
      subst (λ most. slice_index (extents_of (vs n)) (p / extent) * extent + p % extent < most) (mul_comm extent count)
      (mul-add-lt (slice_index (extents_of (vs n)) (p / extent)) extent (p % extent) count (index_below (p / extent)) (mod_below p extent pos))

module _ (x : Stored) (v : VolumeTable) (image : ℕ → List ℕ) (table : IsTable x.site.count x.table) (same : (p : ℕ) → p < area_size x.site → image p ≡ reads x.area p) (k : KeepsLogs x.site.count x.table v) where
  abbrev now : Content
  now = content_in x.site v image

  sectors_kept : (u : List ℕ) (r : Row) → rows x.table (Cbt u) ≡ Some r → sectors_of now (Cbt u) ≡ sectors_of (content_of x) (Cbt u)
  unfolding sectors_of piece
  sectors_kept u r is = fun_ext (λ p.
      ap (λ o. image (spot x.site.geometry.extent (extents_of o) p)) (k.volumes u)
      ∙ same (spot x.site.geometry.extent (extents_of (rows x.table (Cbt u))) p)
      (spot_within x.site.count x.site.geometry.extent (rows x.table) (Cbt u) (spread x.site.count x.table table) (omega (arith, x.site.geometry.in_range.extent_least))
      (subst (λ o. 0 < length (extents_of o)) (sym is) (some_extents u r (All-row_of IsVolume x.table.volumes (Cbt u) r table.volumes.each is) (row_of-name x.table.volumes (Cbt u) r is))) p))

  read_kept : (u : List ℕ) (o : Option Row) → rows x.table (Cbt u) ≡ o → log_at now u ≡ log_at (content_of x) u
  unfolding log_at
  read_kept u None none = ap (λ (o : Option Row). o >>= (λ r. log_in now u r)) (k.volumes u ∙ none) ∙ sym (ap (λ (o : Option Row). o >>= (λ r. log_in (content_of x) u r)) none)
  read_kept u (Some r) is =
      ap (λ (o : Option Row). o >>= (λ r. log_in now u r)) (k.volumes u ∙ is)
      ∙ ap (λ f. cond r.fresh None (log_read u (length r.extents) f)) (sectors_kept u r is)
      ∙ sym (ap (λ (o : Option Row). o >>= (λ r. log_in (content_of x) u r)) is)

  -- of another table with the same volumes of logs, and of sectors that are the same
  pub logs_kept : HasLogsOf (content_of x) now
  logs_kept = record { volumes = k.volumes; logs = λ u. read_kept u (rows x.table (Cbt u)) refl; sequence = k.later }

  pub same_kept : IsKeptAs (content_of x) now → IsSame (content_of x) now
  same_kept w = record { table = k.table; kept = w.kept; same_disks = w.same_disks; same_logs = logs_kept }

-- ---- the changes of an opening

base_beside : (t : VolumeTable) (d b : List ℕ) (o : Option Name) → image_with t b ≡ o → AllByRecursion IsBesideLogs (base_changes t d o)
base_beside t d b None none = tt
base_beside t d b (Some from) found =
    let k = base_found t b from found in
    let none = image_no_log from (⊎_elim (λ is. ap is_image is) (λ is. ap is_image is) k.name) in
    all_join IsBesideLogs (wanted (is_there t (Vhd d)) (Remove (Vhd d))) _ (all_wanted IsBesideLogs (is_there t (Vhd d)) (Remove (Vhd d)) refl)
    (all_join IsBesideLogs (wanted (of_row (λ r. r.hidden) (rows t from)) (Mark from Hidden false)) _
    (all_wanted IsBesideLogs (of_row (λ r. r.hidden) (rows t from)) (Mark from Hidden false) none)
    ((none, image_no_log (under_name from d) (back_image from d)), tt))

back_beside : (t : VolumeTable) (n : Name) → AllByRecursion IsBesideLogs (changes_back t n)
back_beside t (Inflate u e) = all_join IsBesideLogs (wanted (of_row (is_longer e) (rows t (Vhd u))) (Cut (Vhd u) e)) _ (all_wanted IsBesideLogs (of_row (is_longer e) (rows t (Vhd u))) (Cut (Vhd u) e) refl) (refl, tt)
back_beside t (Clone d b w) =
    all_join IsBesideLogs (wanted (is_there t (Vhd w)) (Remove (Vhd w))) _ (all_wanted IsBesideLogs (is_there t (Vhd w)) (Remove (Vhd w)) refl)
    (all_join IsBesideLogs (base_changes t d (image_with t b)) _ (base_beside t d b (image_with t b) refl) (refl, tt))
back_beside t Mgt = tt
back_beside t (Vhd u) = tt
back_beside t (Raw u) = tt
back_beside t (Old u) = tt
back_beside t (Cbt u) = tt
back_beside t (Coalesce v p) = tt
back_beside t (Relink v p) = tt
back_beside t (Leaf l p) = tt

pub undo_beside : (t : VolumeTable) → AllByRecursion IsBesideLogs (undo_changes t)
unfolding undo_changes
undo_beside t = by (head (making t))
  where
    by : (o : Option Name) → AllByRecursion IsBesideLogs (elim o as (λ _. List Change) [ None ↦ [] | Some n ↦ changes_back t n ])
    by None = tt
    by (Some n) = back_beside t n

copy_beside : (o : Option Name) → AllByRecursion IsBesideLogs (ends_copy o)
copy_beside None = tt
copy_beside (Some (Coalesce v p)) = (refl, tt)
copy_beside (Some Mgt) = tt
copy_beside (Some (Vhd u)) = tt
copy_beside (Some (Raw u)) = tt
copy_beside (Some (Old u)) = tt
copy_beside (Some (Cbt u)) = tt
copy_beside (Some (Clone d b w)) = tt
copy_beside (Some (Inflate u e)) = tt
copy_beside (Some (Relink v p)) = tt
copy_beside (Some (Leaf l p)) = tt

leaf_beside : (t : VolumeTable) (o : Option Name) → AllByRecursion IsBesideLogs (leaf_ends t o)
leaf_beside t (Some (Leaf l p)) = of_changes IsBesideLogs (λ u k. refl) (λ n none. none) (λ u. refl) (λ u v. (refl, refl)) t l p
leaf_beside t None = tt
leaf_beside t (Some Mgt) = tt
leaf_beside t (Some (Vhd u)) = tt
leaf_beside t (Some (Raw u)) = tt
leaf_beside t (Some (Old u)) = tt
leaf_beside t (Some (Cbt u)) = tt
leaf_beside t (Some (Clone d b w)) = tt
leaf_beside t (Some (Inflate u e)) = tt
leaf_beside t (Some (Coalesce v p)) = tt
leaf_beside t (Some (Relink v p)) = tt

-- those in front of the links
pub first_keeps : {s : Site} {t : VolumeTable} → IsEndable s t → (v : VolumeTable) → IsPartOf t (first_changes t) v → KeepsLogs s.count t v
first_keeps {s} {t} c v part =
    keeps_part s.count t (first_changes t) v c.table (first_allowed c)
    (all_join IsBesideLogs (ends_copy (head (folding t))) (undo_changes (uncopied t)) (copy_beside (head (folding t))) (undo_beside (uncopied t))) part

-- and those that end the folding of a leaf
pub leaf_keeps : {count : ℕ} {t : VolumeTable} → IsTable count t → AllMay count t (leaf_ends t (head (folding t))) → (v : VolumeTable) → IsPartOf t (leaf_ends t (head (folding t))) v → KeepsLogs count t v
leaf_keeps {count} {t} table may v part = keeps_part count t (leaf_ends t (head (folding t))) v table may (leaf_beside t (head (folding t))) part
