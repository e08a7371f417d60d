use Rattle.std.proofs.Common.{◌≡◌, ◌-◌, ◌^◌, length, take, Bool, List, ℕ, sym, ap, subst, ◌∙◌, arith}
use Rattle.std.specs.Slice.Iter.{iter_rest}
use Rattle.vg_meta.specs.Tables.{extents_in}
use Rattle.vg_meta.specs.Roomy.{RoomyRow, table_alone, rows_alone}
use Rattle.vg_meta.specs.Taken.{IsMarked}
use Rattle.vg_extents.specs.Runs.{segments_of}
use Rattle.vg_extents.proofs.CountLaws.{others, others_free, without_mark, unmarked_others}
use Rattle.vg_extents.proofs.RunLaws.{wider_apart}
use Rattle.vg_extents.proofs.runs.Runs.least_of.Goals as goal

pub invariant_of-result : goal.invariant_of-result
invariant_of-result c =
    let marks = iter_rest c.iter.result in
    let many : length marks ≡ c.args.extents = ap length (c.iter.ensures.rest ∙ c.deref.ensures.value) ∙ c.in_ok-marks.ensures.many in
    wider_apart 0 (length marks) (2 ^ 32 - 1) (segments_of c.in_ok-runs.runs.items) (omega (arith, many)) c.in_ok-runs.ensures.apart

pub returns : goal.returns
returns c =
    let us = extents_in (rows_alone c.volumes.result.now) in
    let marks = iter_rest c.iter.result in
    let need = c.args.need in
    let same : marks ≡ c.in_ok-marks.marks.items = c.iter.ensures.rest ∙ c.deref.ensures.value in
    let many : length marks ≡ c.args.extents = ap length same ∙ c.in_ok-marks.ensures.many in
    let marked : IsMarked us marks = subst (λ (l : List Bool). IsMarked us l) (sym same) c.in_ok-marks.ensures.marks in
    c.in_ok-runs.ensures.least ∙ ap (λ (n : ℕ). take need (without_mark marks n)) many ∙ ap (take need) (unmarked_others us marks c.args.extents marked (omega (arith, many)))
    ∙ ap (λ (hs : List RoomyRow). take need (others (extents_in (rows_alone hs)) c.args.extents)) c.volumes.ensures.volumes ∙ ap (take need) (others_free c.args.extents (table_alone c.args.table.now))
