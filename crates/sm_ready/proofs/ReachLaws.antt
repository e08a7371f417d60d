-- The middle moment is reached by the contracts: writes at the new volume, then one write at the records, which may have failed.
use Rattle.std.proofs.Common.{◌≡◌, ◌≢◌, inl, inr, ⊎_elim, ℕ, ◌-◌, true, List, length, Some, sym, ap, ◌∙◌, arith}
use Rattle.std.proofs.Math.Logic.{∥∥₁_elim}
use Rattle.std.proofs.Props.{props}
use Rattle.std.proofs.lemmas.Option.{none-some}
use Rattle.std.proofs.lemmas.Bool.{true≢false}
use Rattle.sm_base.specs.declared.names.Name.{Name}
use Rattle.sm_base.specs.declared.names.Name.TheVariants.{Mgt, Cbt}
use Rattle.sm_disk.specs.Held.{Held, Torn}
use Rattle.sm_disk.specs.Sectors.{sector}
use Rattle.sm_disk.proofs.HeldLaws.{Keeps-then, may-torn, in_one}
use Rattle.vg_meta.specs.Tables.{VolumeTable, Row, rows, extents_of}
use Rattle.vg_volumes.specs.Sites.{Site}
use Rattle.vg_volumes.specs.Volumes.{KeepsElsewhere}
use Rattle.common_laws.specs.Lists.{In}
use Rattle.sm_machine.specs.WellFormed.{is_image_name}
use Rattle.sm_record.specs.Records.{reading}
use Rattle.sm_record.specs.declared.records.Record.{Record}
use Rattle.sm_record.specs.declared.records.Reading.TheVariants.{Taken}
use Rattle.sm_ready.specs.Known.{Known, shape_in}
use Rattle.vhd_chain.specs.declared.rows.TreeRow.{TreeRow}
use Rattle.vhd_chain.specs.Trees.{row_name, tree_row}
use Rattle.sm_ready.specs.Orderly.{IsOrderly}
use Rattle.sm_mgt.specs.Places.{records_held}
use Rattle.sm_ready.proofs.AfterLaws.{other_keeps}
use Rattle.sm_ready.proofs.LeftLaws.{extent_some}
use Rattle.sm_ready.specs.Middle.{IsMiddle}
use Rattle.sm_ready.proofs.LogRows.{name_apart}
use Rattle.sm_ready.proofs.Orders.{new_unrowed, named_row}
use Rattle.sm_ready.proofs.RowLaws.{tree_found, image_named}

mgt_no_image : is_image_name Mgt ≡ true → ⊥
unfolding is_image_name
mgt_no_image e = true≢false (sym e)

pub reached : (s : Site) (t : VolumeTable) (m : Known) (old mid new : Held) (x : Name) (k : ℕ) (r : Record) (row : Row) (bytes : List ℕ) → IsOrderly s t m
    → is_image_name x ≡ true → rows t x ≡ Some row → row.fresh ≡ true
    → KeepsElsewhere s.geometry.extent (extents_of (rows t x)) old mid → KeepsElsewhere s.geometry.extent (extents_of (rows t Mgt)) mid new
    → Torn k bytes (records_held s t mid) (records_held s t new) → length bytes ≡ 512 → reading (sector bytes 0) ≡ Taken r
    → IsMiddle s t m old new k r
unfolding shape_in
reached s t m old mid new x k r row bytes o image there fresh first then torn long reads = record {
  images = λ q i. Keeps-then (other_keeps s t old mid x (row_name q) o.table (extent_some s t m o) first (away q i))
      (other_keeps s t mid new Mgt (row_name q) o.table (extent_some s t m o) then (λ e. mgt_no_image (sym (ap is_image_name e) ∙ named_row s t m q o i)));
  logs = λ u. Keeps-then (other_keeps s t old mid x (Cbt u) o.table (extent_some s t m o) first (name_apart x image u))
      (other_keeps s t mid new Mgt (Cbt u) o.table (extent_some s t m o) then (λ e. let z = e in cc));
  records = λ p v below may. ⊎_elim
      (λ was. inl ((other_keeps s t old mid x Mgt o.table (extent_some s t m o) first (λ e. mgt_no_image (ap is_image_name e ∙ image))).may p v was))
      (λ w. let at : p ≡ k = in_one k (length bytes) p long w.0 in inr (at, ap reading (w.1 ∙ ap (λ j. sector bytes (j - k)) at ∙ ap (sector bytes) (omega arith)) ∙ reads))
      (may-torn torn p v may);
}
  where
    away : (q : TreeRow) → In q m.rows → row_name q ≢ x
    away q i same = ∥∥₁_elim o.well_formed (hlevel props) (λ w. none-some q (sym (new_unrowed s t m x row o (image_named x image) there fresh) ∙ ap (tree_row m.rows) (sym same) ∙ tree_found m.rows q w.one_image i))
