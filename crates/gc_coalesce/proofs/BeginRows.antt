-- A table that may come to have all its rows without memory has a row for an entry, while no entry stands.
use Rattle.std.proofs.Common.{◌≡◌, suc, ℕ, ◌+◌, ◌<◌, ◌≤◌, Bool, true, false, cond, List, [], ◌∷◌, length, filter, refl, sym, ap, ◌∙◌, subst, arith}
use Rattle.std.specs.List.{AllByRecursion}
use Rattle.std.specs.List.Sorted.{IsStrictlySortedBy}
use Rattle.std.specs.declared.cmp.Ordering.TheVariants.{Less}
use Rattle.sm_base.specs.Kinds.{is_entry, is_image, is_log}
use Rattle.sm_base.specs.Names.{name_cmp}
use Rattle.sm_base.specs.declared.names.Name.{Name}
use Rattle.sm_base.specs.declared.names.Name.TheVariants.{Mgt}
use Rattle.sm_machine.specs.Operations as op
use Rattle.vg_meta.specs.Roomy.{RoomyTable, table_alone}
use Rattle.vg_meta.specs.Tables.{Row, names_of}
use Rattle.vg_meta.proofs.NameLaws.{less_other}
use Rattle.vg_meta.proofs.RowLaws.{IsRising}
use Rattle.vg_volumes.specs.Sites.{Site}
use Rattle.sm_ready.proofs.FitLaws.{the_records}
use Rattle.sm_ready.proofs.LogRows.{few_log_rows}
use Rattle.sm_ready.specs.Known.{Known, entry_of}
use Rattle.sm_ready.specs.Orderly.{IsOrderly}
use Rattle.sm_ready.specs.Sessions.{HasRows}

abbrev image_rows : List Row → List Row
image_rows rs = filter (λ r. is_image r.name) rs

abbrev log_rows : List Row → List Row
log_rows rs = filter (λ r. is_log r.name) rs

abbrev entries : List Row → List Name
entries rs = filter is_entry (names_of rs)

-- beside images, logs and entries there is the volume of records alone
one_more : (most : ℕ) (r : Row) (rs : List Row) → (r.name ≡ Mgt → suc (length rs) ≤ length (image_rows rs) + length (log_rows rs) + length (entries rs) + most)
    → length rs ≤ length (image_rows rs) + length (log_rows rs) + length (entries rs) + most → suc (length rs) ≤ length (image_rows (r ∷ rs)) + length (log_rows (r ∷ rs)) + length (entries (r ∷ rs)) + most
one_more most r rs first rest = by (is_image r.name) (is_log r.name) (is_entry r.name) (λ i l e. first (the_records r.name i e l))
  where
    by : (a b c : Bool) → (a ≡ false → b ≡ false → c ≡ false → suc (length rs) ≤ length (image_rows rs) + length (log_rows rs) + length (entries rs) + most)
        → suc (length rs) ≤ length (cond a (r ∷ image_rows rs) (image_rows rs)) + length (cond b (r ∷ log_rows rs) (log_rows rs)) + length (cond c (r.name ∷ entries rs) (entries rs)) + most
    by true true true none = omega (arith, rest)
    by true true false none = omega (arith, rest)
    by true false true none = omega (arith, rest)
    by true false false none = omega (arith, rest)
    by false true true none = omega (arith, rest)
    by false true false none = omega (arith, rest)
    by false false true none = omega (arith, rest)
    by false false false none = none refl refl refl

-- behind it all are images, logs or entries
behind : (rs : List Row) → AllByRecursion (λ (m : Name). name_cmp Mgt m ≡ Less) (names_of rs) → length rs ≤ length (image_rows rs) + length (log_rows rs) + length (entries rs) + 0
behind [] all = omega arith
behind (r ∷ rs) all = one_more 0 r rs (λ is. absurd (less_other Mgt r.name all.0 (sym is))) (behind rs all.1)

counted : (rs : List Row) → IsRising rs → length rs ≤ length (image_rows rs) + length (log_rows rs) + length (entries rs) + 1
unfolding IsStrictlySortedBy
counted [] rising = omega arith
counted (r ∷ rs) rising = one_more 1 r rs
    (λ is. let rest = behind rs (subst (λ (n : Name). AllByRecursion (λ (m : Name). name_cmp n m ≡ Less) (names_of rs)) is rising.0) in omega (arith, rest))
    (counted rs rising.1)

pub spare_row : (s : Site) (k : RoomyTable) (m : Known) → IsOrderly s (table_alone k) m → m.op ≡ op.Idle → HasRows k → 0 < k.spare
spare_row s k m o idle rows =
    let none : length (entries (table_alone k).volumes) ≡ 0 = ap (λ (ns : List Name). length ns) o.entries ∙ ap (λ x. length (entry_of x)) idle in
    omega (arith, counted (table_alone k).volumes o.table.volumes.rising, none, o.few, few_log_rows s (table_alone k) m o, rows)
