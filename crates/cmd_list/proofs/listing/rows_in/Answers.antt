use Rattle.std.proofs.Common.{sym, ap, ◌∙◌, Option, Some}
use Rattle.std.specs.Option.{option_copied}
use Rattle.cmd_list.proofs.ListLaws.{none_yet, next_free, next_stray, next_row}
use Rattle.cmd_list.proofs.listing.rows_in.Goals as goal

pub loop-place-init : goal.loop-place-init
loop-place-init c = none_yet c.args.memory.now.tree.rows c.args.memory.now.records c.new-rows.result.items c.new-rows.ensures.items

pub loop-place-preserved-in_default : goal.loop-place-preserved-in_default
loop-place-preserved-in_default c =
    next_free c.args.memory.now.tree.rows c.args.memory.now.records c.loop-place.place c.loop-place.rows.items c.loop-place-test.true
    (c.at.ensures ∙ ap (λ (o : Option _). Some (option_copied o)) c.in_default.is) c.loop-place.invariant

pub loop-place-preserved-in_default-disk_row : goal.loop-place-preserved-in_default-disk_row
loop-place-preserved-in_default-disk_row c =
    next_stray c.args.memory.now.tree.rows c.args.memory.now.records c.loop-place.place c.in-Some.entry.now c.loop-place.rows.items c.loop-place-test.true
    (c.at.ensures ∙ ap (λ (o : Option _). Some (option_copied o)) c.in-Some.is) (sym c.disk_row.ensures ∙ c.in_default-disk_row.is) c.loop-place.invariant

pub loop-place-preserved : goal.loop-place-preserved
loop-place-preserved c =
    next_row c.args.memory.now.tree.rows c.args.memory.now.records c.loop-place.place c.in-Some.entry.now c.in-Some-disk_row.row c.loop-place.rows.items c.put.new.rows.items c.loop-place-test.true
    (c.at.ensures ∙ ap (λ (o : Option _). Some (option_copied o)) c.in-Some.is) (sym c.disk_row.ensures ∙ c.in-Some-disk_row.is) c.in_ok-put.ensures c.loop-place.invariant
