use Rattle.std.proofs.Common.{◌≡◌, [], false, length, get_or, take, Bool, List, ℕ, sym, ap, subst, ◌∙◌, rules, arith}
use Rattle.vg_meta.specs.Tables.{extents_in}
use Rattle.vg_meta.specs.Roomy.{RoomyRow, rows_alone, table_alone}
use Rattle.vg_meta.specs.Taken.{IsMarked}
use Rattle.vg_meta.proofs.ReadSteps.{no_marks, refilled}
use Rattle.vg_extents.proofs.CountLaws.{others, others_free, unmarked_others, without_mark}
use Rattle.sm_tracking.proofs.rooms.find_least.Goals as goal

pub returns : goal.returns
returns c =
    let us = extents_in (rows_alone c.volumes.result.now) in
    let marks = c.deref.result.now in
    let need = c.args.need in
    let count = length c.args.marks.now.items in
    let none : IsMarked [] c.deref_mut.result.now = λ e _. ap (λ (l : List Bool). get_or l e false) (c.deref_mut.ensures.value ∙ c.requires.clear) ∙ no_marks count e in
    let kept : length c.mark_all.new.marks ≡ length c.deref_mut.result.now = search rules in
    let same = refilled c.args.marks.now.len c.mark_all.new.marks c.args.marks.now.items (kept ∙ c.deref_mut.ensures.len) in
    let is : marks ≡ c.mark_all.new.marks = search rules in
    let many : length marks ≡ count = search rules in
    let marked : IsMarked us marks = subst (λ (l : List Bool). IsMarked us l) (sym is) (c.mark_all.ensures [] none) in
    c.take_unmarked.ensures ∙ ap (λ (n : ℕ). take need (without_mark marks n)) many ∙ ap (take need) (unmarked_others us marks count marked (omega (arith, many)))
    ∙ ap (λ (hs : List RoomyRow). take need (others (extents_in (rows_alone hs)) count)) c.volumes.ensures.volumes ∙ ap (take need) (others_free count (table_alone c.args.table.now))
