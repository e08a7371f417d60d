use Rattle.std.proofs.Common.{sym, ap, ◌∙◌}
use Rattle.sm_machine.specs.Collector.{next_block}
use Rattle.sm_ready.specs.Known.{known}
use Rattle.sm_ready.proofs.MapLaws.{next_alike}
use Rattle.gc_plan.proofs.ImageLaws.{next_none, slots_none, slots_some, table_none, table_some}
use Rattle.gc_plan.proofs.images.next_block.Goals as goal

pub returns-in_err-row : goal.returns-in_err-row
returns-in_err-row c = λ s t o tidy.
    c.from_residual.ensures ∙ next_none c.args.cursor ∙ ap (next_block c.args.cursor) (sym (table_none s t (known c.args.memory.now) c.args.name.now o (sym c.in_err-row.ensures)))

pub returns-in_err-map : goal.returns-in_err-map
returns-in_err-map c = λ s t o tidy.
    c.from_residual-in_err-map.ensures ∙ next_none c.args.cursor
    ∙ ap (next_block c.args.cursor) (sym (table_some s t (known c.args.memory.now) c.args.name.now c.in_ok-row.row.now o (sym c.in_ok-row.ensures) ∙ slots_none c.in_ok-row.row.now.image (sym c.in_err-map.ensures)))

pub returns : goal.returns
returns c = λ s t o tidy.
    let m = c.in_ok-map.map.now in
    c.next.ensures ∙ sym (next_alike c.args.cursor m)
    ∙ ap (next_block c.args.cursor) (sym (table_some s t (known c.args.memory.now) c.args.name.now c.in_ok-row.row.now o (sym c.in_ok-row.ensures) ∙ slots_some c.in_ok-row.row.now.image m (sym c.in_ok-map.ensures)))
