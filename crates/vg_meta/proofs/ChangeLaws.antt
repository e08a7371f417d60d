-- What changes keep: a table stays a table, and by name a change does what its case says.
use Rattle.std.proofs.Common.{◌≡◌, ◌≢◌, ℕ, zero, suc, ◌+◌, ◌<◌, ◌≤◌, Bool, true, false, List, length, Some, None, refl, sym, ap, subst, ◌∙◌, arith, inl, inr, ⊎_elim, length-append, length-take}
use Rattle.std.specs.Prelude.{◌⊎◌, nat_lt}
use Rattle.std.specs.List.{AllByRecursion}
use Rattle.std.specs.List.Sorted.{IsStrictlySortedBy}
use Rattle.std.proofs.lemmas.Bool.{lt-ltb, ltb-true}
use Rattle.sm_base.specs.declared.names.Name.{Name}
use Rattle.sm_base.specs.Names.{IsName, name_cmp}
use Rattle.vg_meta.specs.declared.changes.Tag.{Tag}
use Rattle.vg_meta.specs.declared.changes.Tag.TheVariants.{Hidden, Fresh}
use Rattle.vg_meta.specs.declared.changes.Change.{Change}
use Rattle.vg_meta.specs.declared.changes.Change.TheVariants.{Create, Remove, Rename, Grow, Cut, Mark}
use Rattle.sm_base.proofs.KindLaws.{entry-no_image, entry-no_log}
use Rattle.sm_base.specs.Kinds.{is_image, is_log, is_entry}
use Rattle.vg_meta.specs.Tables.{Row, VolumeTable, rows, row_of, used, suits, extents_in, IsVolume, AreVolumes, IsTable}
use Rattle.vg_meta.specs.Changes.{put, without, with_row, put_some, changed, applied, made, grown, cut_to, renamed, tagged, Permits, takes_tag, AllowsCreate, AllowsRename, AllowsGrow, AllowsCut, AllowsMark}
use Rattle.vg_meta.proofs.RowLaws.{row_of-name, All-row_of, All-put, row_of-without_other, All-without, All-with_row, names_of-with_row, IsRising, rising-put, rising-without}
use Rattle.vg_meta.proofs.ExtentLaws.{times, times-append, times-take, below_times, times_below, distinct-times, times-distinct, times-put, times-without, times-with_row, All-weaken, Once, free_once}

-- ---- volumes by how often each extent stands there

pub once_from : (count : ℕ) (rs : List Row) → AreVolumes count rs → Once count (extents_in rs)
once_from count rs h = record {
  once = λ e. distinct-times e (extents_in rs) h.distinct;
  below = λ e k. below_times count e (extents_in rs) h.below k;
}

pub volumes_from : (count : ℕ) (rs : List Row) → AllByRecursion IsVolume rs → IsRising rs → Once count (extents_in rs) → AreVolumes count rs
volumes_from count rs each rising o = record {
  each = each;
  rising = rising;
  below = times_below count (extents_in rs) o.below;
  distinct = times-distinct (extents_in rs) o.once;
}

named : (rs : List Row) → AllByRecursion IsVolume rs → AllByRecursion (λ (r : Row). IsName r.name) rs
named rs each = All-weaken IsVolume (λ (r : Row). IsName r.name) rs (λ r v. v.name) each

-- ---- kinds

image_suits : (r : Row) → is_image r.name ≡ true → suits r ≡ nat_lt 0 (length r.extents)
image_suits r h = rw h refl

kind_renamed : (r : Row) (to : Name) → ((is_image r.name ≡ true) × (is_image to ≡ true)) ⊎ ((is_entry r.name ≡ true) × (is_entry to ≡ true))
    → suits (renamed to r) ≡ suits r
kind_renamed r to (inl p) = rw (p.0, p.1) refl
kind_renamed r to (inr p) = rw (entry-no_image r.name p.0, entry-no_image to p.1, entry-no_log r.name p.0, entry-no_log to p.1, p.0, p.1) refl

pub tagged_name : (tag : Tag) (on : Bool) (r : Row) → (tagged tag on r).name ≡ r.name
tagged_name Hidden on r = refl
tagged_name Fresh on r = refl

tagged_extents : (tag : Tag) (on : Bool) (r : Row) → (tagged tag on r).extents ≡ r.extents
tagged_extents Hidden on r = refl
tagged_extents Fresh on r = refl

-- a mark that a volume takes
tag_suits : (tag : Tag) (on : Bool) (r : Row) → takes_tag tag r.name ≡ true → suits (tagged tag on r) ≡ suits r
tag_suits Hidden on r h = rw h refl
tag_suits Fresh on r h = by (is_image r.name) refl
  where
    by : (b : Bool) → is_image r.name ≡ b → suits (tagged Fresh on r) ≡ suits r
    by true e = rw e refl
    by false e = let log : is_log r.name ≡ true = rw e at h in rw (e, log) refl

-- an image with extents
image_volume : (r : Row) → IsName r.name → is_image r.name ≡ true → 0 < length r.extents → IsVolume r
image_volume r is image some = record { name = is; kind = image_suits r image ∙ lt-ltb 0 (length r.extents) some }

image_extents : (r : Row) → IsVolume r → is_image r.name ≡ true → 0 < length r.extents
image_extents r v image = ltb-true 0 (length r.extents) (sym (image_suits r image) ∙ v.kind)

-- ---- a table stays a table

created : (count : ℕ) (t : VolumeTable) (name : Name) (fresh : Bool) (es : List ℕ) → AreVolumes count t.volumes → AllowsCreate count t.volumes name fresh es
    → AreVolumes count (put (made name fresh es) t.volumes)
created count t name fresh es v a =
    let r = made name fresh es in
    let o = once_from count t.volumes v in
    volumes_from count (put r t.volumes)
    (All-put IsVolume t.volumes r (record { name = a.name_proper; kind = a.kind }) v.each)
    (rising-put t.volumes r a.name_proper (named t.volumes v.each) a.new_name v.rising)
    (record {
      once = λ e. omega (arith, times-put e t.volumes r, free_once e (used t) es a.extents_free.unused (distinct-times e es a.extents_free.distinct) (o.once e));
      below = λ e h. ⊎_elim (λ in_new. below_times count e es a.extents_free.below in_new) (λ in_old. o.below e in_old)
          (some_of (times e es) (times e (used t)) (omega (arith, times-put e t.volumes r)));
    })
  where
    some_of : (m n : ℕ) → 0 < m + n → (0 < m) ⊎ (0 < n)
    some_of zero n h = inr (omega arith)
    some_of (suc m) n h = inl (omega arith)

removed : (count : ℕ) (rs : List Row) (name : Name) (r : Row) → AreVolumes count rs → row_of rs name ≡ Some r → AreVolumes count (without name rs)
removed count rs name r v there =
    let o = once_from count rs v in
    volumes_from count (without name rs) (All-without IsVolume rs name v.each) (rising-without rs name v.rising)
    (record {
      once = λ e. omega (arith, times-without e rs name r there, o.once e);
      below = λ e h. o.below e (omega (arith, times-without e rs name r there));
    })

from_other : (rs : List Row) (from to : Name) (r : Row) → row_of rs from ≡ Some r → row_of rs to ≡ None → from ≢ to
from_other rs from to r there none e = let k : row_of rs from ≡ row_of rs to = ap (row_of rs) e in absurd cc

kind_of_found : (rs : List Row) (from to : Name) (r : Row) → row_of rs from ≡ Some r
    → ((is_image from ≡ true) × (is_image to ≡ true)) ⊎ ((is_entry from ≡ true) × (is_entry to ≡ true))
    → ((is_image r.name ≡ true) × (is_image to ≡ true)) ⊎ ((is_entry r.name ≡ true) × (is_entry to ≡ true))
kind_of_found rs from to r there h =
    subst (λ (n : Name). ((is_image n ≡ true) × (is_image to ≡ true)) ⊎ ((is_entry n ≡ true) × (is_entry to ≡ true))) (sym (row_of-name rs from r there)) h

moved : (count : ℕ) (t : VolumeTable) (from to : Name) → AreVolumes count t.volumes → AllowsRename t.volumes from to
    → AreVolumes count (put_some (rows t from) (renamed to) (without from t.volumes))
moved count t from to v a =
    let rs = t.volumes in
    let r = a.row in
    let o = once_from count rs v in
    let w = removed count rs from r v a.there in
    let is = All-row_of IsVolume rs from r v.each a.there in
    let other = from_other rs from to r a.there a.new_name in
    rw a.there (volumes_from count (put (renamed to r) (without from rs))
    (All-put IsVolume (without from rs) (renamed to r)
    (record { name = a.name_proper; kind = kind_renamed r to (kind_of_found rs from to r a.there a.same_kind) ∙ is.kind }) w.each)
    (rising-put (without from rs) (renamed to r) a.name_proper (named (without from rs) w.each) (row_of-without_other rs from to other ∙ a.new_name) w.rising)
    (record {
      once = λ e. omega (arith, times-put e (without from rs) (renamed to r), times-without e rs from r a.there, o.once e);
      below = λ e h. o.below e (omega (arith, times-put e (without from rs) (renamed to r), times-without e rs from r a.there));
    }))

-- a volume changed, which keeps its name
edited : (count : ℕ) (rs : List Row) (name : Name) (f : Row → Row) (r : Row) → AreVolumes count rs → row_of rs name ≡ Some r
    → ((s : Row) → (f s).name ≡ s.name) → IsVolume (f r)
    → ((e : ℕ) → times e (f r).extents + times e (extents_in rs) ≤ times e r.extents + 1)
    → ((e : ℕ) → times e r.extents < times e (f r).extents → e < count)
    → AreVolumes count (with_row name f rs)
edited count rs name f r v there keeps is once below =
    let o = once_from count rs v in
    volumes_from count (with_row name f rs)
    (All-with_row IsVolume rs name f r there is v.each)
    (subst (λ (ns : List Name). IsStrictlySortedBy name_cmp ns) (sym (names_of-with_row rs name f keeps)) v.rising)
    (record {
      once = λ e. omega (arith, times-with_row e rs name f r there, once e);
      below = λ e h. ⊎_elim (λ new. below e new) (λ old. o.below e old)
          (more_or (times e r.extents) (times e (f r).extents) (times e (extents_in (with_row name f rs))) (times e (extents_in rs))
          (times-with_row e rs name f r there) h);
    })
  where
    more_or : (a b c d : ℕ) → c + a ≡ b + d → 0 < c → (a < b) ⊎ (0 < d)
    more_or a b c zero e h = inl (omega arith)
    more_or a b c (suc d) e h = inr (omega arith)

found_image : (rs : List Row) (name : Name) (r : Row) → row_of rs name ≡ Some r → is_image name ≡ true → is_image r.name ≡ true
found_image rs name r there image = ap is_image (row_of-name rs name r there) ∙ image

grew : (count : ℕ) (t : VolumeTable) (name : Name) (es : List ℕ) → AreVolumes count t.volumes → AllowsGrow count t.volumes name es
    → AreVolumes count (with_row name (grown es) t.volumes)
grew count t name es v a =
    let rs = t.volumes in
    let r = a.row in
    let o = once_from count rs v in
    let is = All-row_of IsVolume rs name r v.each a.there in
    edited count rs name (grown es) r v a.there (λ s. refl)
    (image_volume (grown es r) is.name (found_image rs name r a.there a.image) (omega (arith, length-append r.extents es, a.some_extents)))
    (λ e. omega (arith, times-append e r.extents es, free_once e (used t) es a.extents_free.unused (distinct-times e es a.extents_free.distinct) (o.once e)))
    (λ e h. below_times count e es a.extents_free.below (omega (arith, times-append e r.extents es)))

cut : (count : ℕ) (t : VolumeTable) (name : Name) (keep : ℕ) → AreVolumes count t.volumes → AllowsCut t.volumes name keep
    → AreVolumes count (with_row name (cut_to keep) t.volumes)
cut count t name keep v a =
    let rs = t.volumes in
    let r = a.row in
    let o = once_from count rs v in
    let is = All-row_of IsVolume rs name r v.each a.there in
    edited count rs name (cut_to keep) r v a.there (λ s. refl)
    (image_volume (cut_to keep r) is.name (found_image rs name r a.there a.image) (omega (arith, length-take keep r.extents, a.some_kept, a.some_gone)))
    (λ e. omega (arith, times-take e keep r.extents, o.once e))
    (λ e h. absurd (omega (arith, times-take e keep r.extents)))

marked : (count : ℕ) (t : VolumeTable) (name : Name) (tag : Tag) (on : Bool) → AreVolumes count t.volumes → AllowsMark t.volumes name tag on
    → AreVolumes count (with_row name (tagged tag on) t.volumes)
marked count t name tag on v a =
    let rs = t.volumes in
    let r = a.row in
    let o = once_from count rs v in
    let is = All-row_of IsVolume rs name r v.each a.there in
    let taking : takes_tag tag r.name ≡ true = ap (takes_tag tag) (row_of-name rs name r a.there) ∙ a.taking in
    let same = tagged_extents tag on r in
    edited count rs name (tagged tag on) r v a.there (tagged_name tag on)
    (record { name = subst IsName (sym (tagged_name tag on r)) is.name; kind = tag_suits tag on r taking ∙ is.kind })
    (λ e. rw same (omega (arith, o.once e)))
    (λ e h. absurd (let k : times e r.extents < times e r.extents = rw same at h in omega arith))

pub changed-volumes : (count : ℕ) (t : VolumeTable) (change : Change) → AreVolumes count t.volumes → Permits count t change
    → AreVolumes count (changed t.volumes change)
changed-volumes count t (Create name fresh es) v a = created count t name fresh es v a
changed-volumes count t (Remove name) v a = removed count t.volumes name a.row v a.there
changed-volumes count t (Rename from to) v a = moved count t from to v a
changed-volumes count t (Grow name es) v a = grew count t name es v a
changed-volumes count t (Cut name keep) v a = cut count t name keep v a
changed-volumes count t (Mark name tag on) v a = marked count t name tag on v a

-- an allowed change leaves a table
pub IsTable-applied : (count : ℕ) (t : VolumeTable) (change : Change) → IsTable count t → Permits count t change → IsTable count (applied t change)
IsTable-applied count t change h a = record {
  sequence = omega arith;
  volumes = changed-volumes count t change h.volumes a;
}
