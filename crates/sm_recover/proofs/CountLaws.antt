-- Changes that make nothing: how many images and entries a table has behind them, and that its text still fits.
use Rattle.std.proofs.Common.{◌-◌, ◌^◌, ◌≡◌, ℕ, suc, ◌≤◌, Bool, true, false, cond, List, [], ◌∷◌, ◌++◌, length, filter, Some, refl, sym, ap, ◌∙◌, arith}
use Rattle.std.specs.List.{AllByRecursion}
use Rattle.std.specs.Ordering.{is_lt}
use Rattle.std.proofs.lemmas.Bool.{true≢false}
use Rattle.std.proofs.lemmas.Option.{none-some, same_Some}
use Rattle.sm_base.specs.Limits.{extent_limit}
use Rattle.sm_base.specs.Kinds.{is_entry, is_image, is_log}
use Rattle.sm_base.specs.Names.{name_cmp}
use Rattle.sm_base.specs.declared.names.Name.{Name}
use Rattle.sm_base.specs.declared.names.Name.TheVariants.{Vhd, Raw, Old}
use Rattle.vg_meta.specs.Changes.{Permits, applied, cut_to, put, put_some, renamed, tagged, with_row, without}
use Rattle.vg_meta.specs.Tables.{IsTable, Row, VolumeTable, name_eq, names_of, row_of}
use Rattle.vg_meta.specs.Text.{text}
use Rattle.vg_meta.specs.declared.changes.Change.{Change}
use Rattle.vg_meta.specs.declared.changes.Change.TheVariants.{Create, Remove, Rename, Grow, Cut, Mark}
use Rattle.vg_meta.proofs.ChangeLaws.{IsTable-applied, tagged_name}
use Rattle.vg_meta.proofs.RowLaws.{row_of-name}
use Rattle.vg_volumes.specs.Sites.{text_limit}
use Rattle.sm_logs.specs.Held.{log_limit}
use Rattle.sm_machine.specs.Shapes.{image_limit}
use Rattle.sm_standing.specs.Checks.{images}
use Rattle.sm_standing.specs.Opened.{applied_all}
use Rattle.sm_ready.specs.Runs.{AllMay}
use Rattle.sm_ready.proofs.FitLaws.{fits_entries}
use Rattle.sm_ready.proofs.GoneLaws.{fewer_left}
use Rattle.sm_ready.proofs.LogRows.{table_logs}

-- ---- volumes that pass a test

-- a change of one volume that the test does not see
module _ (test : Row → Bool) (n : Name) (f : Row → Row) (same : (r : Row) → test (f r) ≡ test r) where
  pub count_changed : (rs : List Row) → length (filter test (with_row n f rs)) ≡ length (filter test rs)
  unfolding with_row
  count_changed [] = refl
  count_changed (r ∷ rs) = by (name_eq r.name n) (count_changed rs)
    where
      step : (a b : Bool) (x y : Row) (xs ys : List Row) → a ≡ b → length xs ≡ length ys → length (cond a (x ∷ xs) xs) ≡ length (cond b (y ∷ ys) ys)
      step true true x y xs ys is long = ap suc long
      step false false x y xs ys is long = long
      step true false x y xs ys is long = absurd (true≢false is)
      step false true x y xs ys is long = absurd (true≢false (sym is))

      by : (b : Bool) → length (filter test (with_row n f rs)) ≡ length (filter test rs) → length (filter test (cond b (f r ∷ rs) (r ∷ with_row n f rs))) ≡ length (filter test (r ∷ rs))
      by true rest = step (test (f r)) (test r) (f r) r (filter test rs) (filter test rs) (same r) refl
      by false rest = step (test r) (test r) r r (filter test (with_row n f rs)) (filter test rs) refl rest

-- in either order of two
turn : (a b : Bool) (r s : Row) (xs ys : List Row) → length xs ≡ length (cond b (r ∷ ys) ys) → length (cond a (s ∷ xs) xs) ≡ length (cond b (r ∷ cond a (s ∷ ys) ys) (cond a (s ∷ ys) ys))
turn true true r s xs ys h = omega (arith, h)
turn true false r s xs ys h = omega (arith, h)
turn false true r s xs ys h = omega (arith, h)
turn false false r s xs ys h = omega (arith, h)

count_put : (test : Row → Bool) (r : Row) (rs : List Row) → length (filter test (put r rs)) ≡ length (filter test (r ∷ rs))
unfolding put
count_put test r [] = refl
count_put test r (s ∷ rs) = by (is_lt (name_cmp r.name s.name)) (count_put test r rs)
  where
    by : (b : Bool) → length (filter test (put r rs)) ≡ length (filter test (r ∷ rs)) → length (filter test (cond b (r ∷ s ∷ rs) (s ∷ put r rs))) ≡ length (filter test (r ∷ s ∷ rs))
    by true rest = refl
    by false rest = turn (test s) (test r) r s (filter test (put r rs)) (filter test rs) rest

count_without : (test : Row → Bool) (n : Name) (rs : List Row) (r : Row) → row_of rs n ≡ Some r → length (filter test rs) ≡ length (filter test (r ∷ without n rs))
unfolding without row_of
count_without test n [] r there = absurd (none-some r there)
count_without test n (s ∷ rs) r there = by (name_eq s.name n) there (λ later. count_without test n rs r later)
  where
    by : (b : Bool) → cond b (Some s) (row_of rs n) ≡ Some r → (row_of rs n ≡ Some r → length (filter test rs) ≡ length (filter test (r ∷ without n rs)))
        → length (filter test (s ∷ rs)) ≡ length (filter test (r ∷ cond b rs (s ∷ without n rs)))
    by true is rest = ap (λ q. length (filter test (q ∷ rs))) (same_Some s r is)
    by false is rest = turn (test s) (test r) r s (filter test rs) (filter test (without n rs)) (rest is)

-- ---- behind a change

-- it makes no volume, and a name stays that of an image
abbrev pub IsLean : Change → Type 0
IsLean (Create name fresh extents) = ⊥
IsLean (Remove name) = Unit {0}
IsLean (Rename from to) = (is_image from ≡ true) × (is_image to ≡ true)
IsLean (Grow name extents) = ⊥
IsLean (Cut name keep) = Unit {0}
IsLean (Mark name tag on) = Unit {0}

-- a test that does not see it
abbrev pub IsUnseenBy : (Row → Bool) → Change → Type 0
IsUnseenBy test (Rename from to) = (r : Row) → r.name ≡ from → test (renamed to r) ≡ test r
IsUnseenBy test (Cut name keep) = (r : Row) → test (cut_to keep r) ≡ test r
IsUnseenBy test (Mark name tag on) = (r : Row) → test (tagged tag on r) ≡ test r
IsUnseenBy test _ = Unit {0}

module _ (test : Row → Bool) where
  pub no_more : (count : ℕ) (t : VolumeTable) (c : Change) → Permits count t c → IsLean c → IsUnseenBy test c → length (filter test (applied t c).volumes) ≤ length (filter test t.volumes)
  no_more count t (Create name fresh es) allowed lean unseen = absurd lean
  no_more count t (Grow name es) allowed lean unseen = absurd lean
  no_more count t (Remove n) allowed lean unseen = fewer_left test n t.volumes
  no_more count t (Cut n keep) allowed lean unseen = omega (arith, count_changed test n (cut_to keep) unseen t.volumes)
  no_more count t (Mark n tag on) allowed lean unseen = omega (arith, count_changed test n (tagged tag on) unseen t.volumes)
  no_more count t (Rename from to) allowed lean unseen =
      let r = allowed.row in
      let at = ap (λ o. length (filter test (put_some o (renamed to) (without from t.volumes)))) allowed.there in
      let same = by (test (renamed to r)) (test r) (unseen r (row_of-name t.volumes from r allowed.there)) in
      omega (arith, at, count_put test (renamed to r) (without from t.volumes), same, count_without test from t.volumes r allowed.there)
    where
      by : (a b : Bool) → a ≡ b → length (cond a (renamed to allowed.row ∷ filter test (without from t.volumes)) (filter test (without from t.volumes))) ≡ length (cond b (allowed.row ∷ filter test (without from t.volumes)) (filter test (without from t.volumes)))
      by true true is = refl
      by false false is = refl
      by true false is = absurd (true≢false is)
      by false true is = absurd (true≢false (sym is))

  -- behind several
  pub none_more : (count : ℕ) (t : VolumeTable) (cs : List Change) → AllMay count t cs → AllByRecursion (λ c. IsLean c × IsUnseenBy test c) cs → length (filter test (applied_all t cs).volumes) ≤ length (filter test t.volumes)
  none_more count t [] may each = omega arith
  none_more count t (c ∷ cs) may each = omega (arith, none_more count (applied t c) cs may.2 each.1, no_more count t c may.0 each.0.0 each.0.1)

-- ---- the text fits

-- a table of few images, logs and entries
pub record IsSmall (count : ℕ) (t : VolumeTable) : Type 0 where
  pub table : IsTable count t
  pub few_images : length (images t) ≤ image_limit
  pub few_logs : length (table_logs t) ≤ log_limit
  pub few_entries : length (filter (λ r. is_entry r.name) t.volumes) ≤ 4

pub names_counted : (rs : List Row) → length (filter is_entry (names_of rs)) ≡ length (filter (λ r. is_entry r.name) rs)
names_counted [] = refl
names_counted (r ∷ rs) = by (is_entry r.name) (names_counted rs)
  where
    by : (b : Bool) → length (filter is_entry (names_of rs)) ≡ length (filter (λ r. is_entry r.name) rs)
        → length (cond b (r.name ∷ filter is_entry (names_of rs)) (filter is_entry (names_of rs))) ≡ length (cond b (r ∷ filter (λ r. is_entry r.name) rs) (filter (λ r. is_entry r.name) rs))
    by true rest = ap suc rest
    by false rest = rest

pub small_fits : {count : ℕ} {t : VolumeTable} → count ≤ extent_limit → IsSmall count t → length (text t) ≤ text_limit count
small_fits {count} {t} extents small =
    fits_entries count t small.table extents small.few_images small.few_logs (omega (arith, names_counted t.volumes, small.few_entries))

image_no_entry : (n : Name) → is_image n ≡ true → is_entry n ≡ false
image_no_entry n image = not_both n image
  where
    not_both : (n : Name) → is_image n ≡ true → is_entry n ≡ false
    not_both (Vhd u) h = refl
    not_both (Raw u) h = refl
    not_both (Old u) h = refl
    not_both _ h = absurd (true≢false (sym h))

images_unseen : (c : Change) → IsLean c → IsUnseenBy (λ r. is_image r.name) c
images_unseen (Rename from to) lean = λ r named. lean.1 ∙ sym (ap is_image named ∙ lean.0)
images_unseen (Create name fresh es) lean = tt
images_unseen (Grow name es) lean = tt
images_unseen (Remove n) lean = tt
images_unseen (Cut n keep) lean = λ r. refl
images_unseen (Mark n tag on) lean = λ r. ap is_image (tagged_name tag on r)

pub image_no_log : (n : Name) → is_image n ≡ true → is_log n ≡ false
image_no_log n image = not_both n image
  where
    not_both : (n : Name) → is_image n ≡ true → is_log n ≡ false
    not_both (Vhd u) h = refl
    not_both (Raw u) h = refl
    not_both (Old u) h = refl
    not_both _ h = absurd (true≢false (sym h))

logs_unseen : (c : Change) → IsLean c → IsUnseenBy (λ r. is_log r.name) c
logs_unseen (Rename from to) lean = λ r named. image_no_log to lean.1 ∙ sym (ap is_log named ∙ image_no_log from lean.0)
logs_unseen (Create name fresh es) lean = tt
logs_unseen (Grow name es) lean = tt
logs_unseen (Remove n) lean = tt
logs_unseen (Cut n keep) lean = λ r. refl
logs_unseen (Mark n tag on) lean = λ r. ap is_log (tagged_name tag on r)

entries_unseen : (c : Change) → IsLean c → IsUnseenBy (λ r. is_entry r.name) c
entries_unseen (Rename from to) lean = λ r named. image_no_entry to lean.1 ∙ sym (ap is_entry named ∙ image_no_entry from lean.0)
entries_unseen (Create name fresh es) lean = tt
entries_unseen (Grow name es) lean = tt
entries_unseen (Remove n) lean = tt
entries_unseen (Cut n keep) lean = λ r. refl
entries_unseen (Mark n tag on) lean = λ r. ap is_entry (tagged_name tag on r)

pub small_next : {count : ℕ} {t : VolumeTable} (c : Change) → IsSmall count t → Permits count t c → IsLean c → IsSmall count (applied t c)
small_next {count} {t} c small allowed lean = record {
  table = IsTable-applied count t c small.table allowed;
  few_images = omega (arith, no_more (λ r. is_image r.name) count t c allowed lean (images_unseen c lean), small.few_images);
  few_logs = omega (arith, no_more (λ r. is_log r.name) count t c allowed lean (logs_unseen c lean), small.few_logs);
  few_entries = omega (arith, no_more (λ r. is_entry r.name) count t c allowed lean (entries_unseen c lean), small.few_entries);
}

-- ---- one after the other

pub small_all : {count : ℕ} (t : VolumeTable) (cs : List Change) → IsSmall count t → AllMay count t cs → AllByRecursion IsLean cs → IsSmall count (applied_all t cs)
small_all t [] small may lean = small
small_all t (c ∷ cs) small may lean = small_all (applied t c) cs (small_next c small may.0 lean.0) may.2 lean.1

pub may_join : (count : ℕ) (t : VolumeTable) (xs ys : List Change) → AllMay count t xs → AllMay count (applied_all t xs) ys → AllMay count t (xs ++ ys)
may_join count t [] ys may rest = rest
may_join count t (c ∷ xs) ys may rest = (may.0, may.1, may_join count (applied t c) xs ys may.2 rest)

-- one change
pub may_one : {count : ℕ} {t : VolumeTable} (c : Change) → count ≤ extent_limit → IsSmall count t → Permits count t c → IsLean c → AllMay count t (c ∷ [])
may_one c extents small allowed lean = (allowed, small_fits extents (small_next c small allowed lean), tt)

-- ---- sequence numbers never fall

pub later_all : (t : VolumeTable) (cs : List Change) → t.sequence ≤ 2 ^ 48 - 1 → t.sequence ≤ (applied_all t cs).sequence
later_all t [] within = omega arith
later_all t (c ∷ cs) within = let rest = later_all (applied t c) cs (omega arith) in omega (arith, rest, within)
