-- The text of a table of few images, of few logs and of one journal entry at most fits its slot, so that of a table of which memory is
-- orderly.
use Rattle.std.proofs.Common.{◌≡◌, suc, ℕ, ◌+◌, ◌*◌, ◌<◌, ◌≤◌, Bool, true, false, cond, leb, List, [], ◌∷◌, length, filter, refl, sym, ap, ◌∙◌, subst, arith, length-append}
use Rattle.std.specs.List.{AllByRecursion, flat_map}
use Rattle.std.specs.List.Sorted.{IsStrictlySortedBy}
use Rattle.std.specs.declared.cmp.Ordering.TheVariants.{Less}
use Rattle.std.proofs.lemmas.Bool.{leb-true, true≢false}
use Rattle.sm_base.proofs.KindLaws.{by_kind}
use Rattle.sm_base.specs.Limits.{extent_limit}
use Rattle.sm_base.specs.declared.names.Name.{Name}
use Rattle.sm_base.specs.declared.names.Name.TheVariants.{Mgt}
use Rattle.sm_machine.specs.Operations.{Op}
use Rattle.sm_machine.specs.Operations as op
use Rattle.sm_base.specs.Kinds.{is_image, is_log, is_entry}
use Rattle.sm_base.specs.Names.{name_cmp}
use Rattle.sm_base.proofs.NameLemmas.{length-spelling-le}
use Rattle.vg_meta.specs.Tables.{VolumeTable, Row, IsTable, IsVolume, names_of, extents_in}
use Rattle.sm_machine.specs.Shapes.{image_limit}
use Rattle.sm_standing.specs.Checks.{images}
use Rattle.sm_standing.specs.Entries.{names_in}
use Rattle.vg_meta.specs.Text.{text, volume_text}
use Rattle.vg_meta.proofs.DecodeLaws.{used-le}
use Rattle.vg_meta.proofs.NameLaws.{less_other}
use Rattle.vg_meta.proofs.RowLaws.{IsRising}
use Rattle.vg_meta.proofs.SegmentLaws.{few-segments}
use Rattle.vg_meta.proofs.SegmentTextLaws.{length-segmented}
use Rattle.vg_meta.proofs.WriteLaws.{length-text, length-volume_text}
use Rattle.vg_volumes.specs.Sites.{Site, text_limit}
use Rattle.sm_ready.specs.Sessions.{row_limit}
use Rattle.sm_ready.specs.Known.{Known, entry_of}
use Rattle.sm_ready.specs.Orderly.{IsOrderly}
use Rattle.sm_logs.specs.Held.{log_limit}
use Rattle.sm_ready.proofs.LogRows.{few_log_rows, table_logs}

long_volumes : (rs : List Row) → AllByRecursion IsVolume rs → length (flat_map volume_text rs) ≤ 122 * length rs + 8 * length (extents_in rs)
long_volumes [] all = omega arith
long_volumes (r ∷ rs) all =
    omega (
      arith,
      long_volumes rs all.1,
      length-append (volume_text r) (flat_map volume_text rs),
      length-volume_text r,
      length-segmented r.extents,
      few-segments r.extents,
      length-spelling-le r.name all.0.name,
      length-append r.extents (extents_in rs),
    )

-- ---- how many volumes there are

abbrev image_rows : List Row → List Row
image_rows rs = filter (λ r. is_image r.name) rs

abbrev entries : List Row → List Name
entries rs = filter is_entry (names_of rs)

abbrev log_rows : List Row → List Row
log_rows rs = filter (λ r. is_log r.name) rs

-- a volume that is no image, no entry and no log is one more
step : (b c d : Bool) (r : Row) (rs : List Row) (most : ℕ) → (b ≡ false → c ≡ false → d ≡ false → suc (length rs) ≤ length (image_rows rs) + length (entries rs) + length (log_rows rs) + most)
    → length rs ≤ length (image_rows rs) + length (entries rs) + length (log_rows rs) + most
    → suc (length rs) ≤ length (cond b (r ∷ image_rows rs) (image_rows rs)) + length (cond c (r.name ∷ entries rs) (entries rs)) + length (cond d (r ∷ log_rows rs) (log_rows rs)) + most
step true true true r rs most none rest = omega (arith, rest)
step true true false r rs most none rest = omega (arith, rest)
step true false true r rs most none rest = omega (arith, rest)
step true false false r rs most none rest = omega (arith, rest)
step false true true r rs most none rest = omega (arith, rest)
step false true false r rs most none rest = omega (arith, rest)
step false false true r rs most none rest = omega (arith, rest)
step false false false r rs most none rest = none refl refl refl

-- what is neither an image nor an entry nor a log has the records
pub the_records : (n : Name) → is_image n ≡ false → is_entry n ≡ false → is_log n ≡ false → n ≡ Mgt
the_records n no_image no_entry no_log = by_kind n (λ is. is)
    (λ image. absurd (true≢false (sym image ∙ no_image))) (λ log. absurd (true≢false (sym log ∙ no_log))) (λ entry. absurd (true≢false (sym entry ∙ no_entry)))

-- behind the volume of records all are images, entries or logs
behind : (rs : List Row) → AllByRecursion (λ (m : Name). name_cmp Mgt m ≡ Less) (names_of rs) → length rs ≤ length (image_rows rs) + length (entries rs) + length (log_rows rs) + 0
behind [] all = omega arith
behind (r ∷ rs) all =
    step (is_image r.name) (is_entry r.name) (is_log r.name) r rs 0 (λ e f g. absurd (less_other Mgt r.name all.0 (sym (the_records r.name e f g)))) (behind rs all.1)

one_other : (rs : List Row) → IsRising rs → length rs ≤ length (image_rows rs) + length (entries rs) + length (log_rows rs) + 1
unfolding IsStrictlySortedBy
one_other [] rising = omega arith
one_other (r ∷ rs) rising = step (is_image r.name) (is_entry r.name) (is_log r.name) r rs 1 (λ e f g. first (the_records r.name e f g)) (one_other rs rising.1)
  where
    first : r.name ≡ Mgt → suc (length rs) ≤ length (image_rows rs) + length (entries rs) + length (log_rows rs) + 1
    first is = let rest = behind rs (subst (λ (n : Name). AllByRecursion (λ (m : Name). name_cmp n m ≡ Less) (names_of rs)) is rising.0) in omega (arith, rest)

one_entry : (o : Op) → length (entry_of o) ≤ 1
one_entry op.Idle = omega arith
one_entry (op.Copy v p cursor) = omega arith
one_entry (op.Relink v p) = omega arith
one_entry (op.Leaf l p cursor) = omega arith
one_entry (op.Live l p cursor dirty) = omega arith

-- 12 bytes and 122 for each of 1,005 volumes, and 8 for each extent
limit_holds : (count : ℕ) → count ≤ extent_limit → 8 * count + 122622 ≤ text_limit count
limit_holds count few = (elim (leb count 65536) as (λ b. leb count 65536 ≡ b → 8 * count + 122622 ≤ cond b 1047040 8519680) [
  | true ↦ λ h. omega (arith, leb-true _ _ h)
  | false ↦ λ h. omega (arith, few)
]) refl

-- a table of few images, of few logs and of few entries
pub fits_entries : (count : ℕ) (t : VolumeTable) → IsTable count t → count ≤ extent_limit → length (images t) ≤ image_limit → length (table_logs t) ≤ log_limit → length (names_in t is_entry) ≤ 4 → length (text t) ≤ text_limit count
fits_entries count t table extents few few_logs entries =
    omega (arith, length-text t, long_volumes t.volumes table.volumes.each, one_other t.volumes table.volumes.rising, entries, few, few_logs, used-le count t.volumes table.volumes, limit_holds count extents)

-- and of one entry at most
pub fits_few : (count : ℕ) (t : VolumeTable) → IsTable count t → count ≤ extent_limit → length (images t) ≤ image_limit → length (table_logs t) ≤ log_limit → length (names_in t is_entry) ≤ 1 → length (text t) ≤ text_limit count
fits_few count t table extents few few_logs one = fits_entries count t table extents few few_logs (omega (arith, one))

pub fits_orderly : (s : Site) (t : VolumeTable) (m : Known) → IsOrderly s t m → length (text t) ≤ text_limit s.count
fits_orderly s t m o = fits_few s.count t o.table o.few_extents o.few (few_log_rows s t m o) (omega (arith, ap (λ (ns : List Name). length ns) o.entries, one_entry m.op))

-- the table of an orderly store has fewer volumes than a table may come to have
pub few_volumes : (s : Site) (t : VolumeTable) (m : Known) → IsOrderly s t m → length t.volumes < row_limit
few_volumes s t m o =
    let entries = ap (λ (ns : List Name). length ns) o.entries in
    omega (arith, one_other t.volumes o.table.volumes.rising, o.few, few_log_rows s t m o, entries, one_entry m.op)
