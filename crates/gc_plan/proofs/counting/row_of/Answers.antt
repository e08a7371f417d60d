use Rattle.std.proofs.Common.{List, sym, ap, ◌∙◌, subst}
use Rattle.std.specs.Option.{option_copied}
use Rattle.vhd_chain.specs.Trees.{AreOrdered, tree_row}
use Rattle.vhd_chain.specs.declared.rows.TreeRow.{TreeRow}
use Rattle.gc_plan.proofs.CountLaws.{found_at, found_none}
use Rattle.gc_plan.proofs.counting.row_of.Goals as goal

pub returns-in_err-at : goal.returns-in_err-at
returns-in_err-at c =
    let n = c.args.name.now in
    ap option_copied c.from_residual.ensures ∙ found_none c.rows-rows.result.now n c.in_err-at.ensures.none
    ∙ ap (λ (rs : List TreeRow). tree_row rs n) c.rows-rows.ensures.rows

pub returns : goal.returns
returns c =
    let n = c.args.name.now in
    found_at c.rows-rows.result.now n c.in_ok-at.at c.index-rows-at.result (subst AreOrdered (sym c.rows-rows.ensures.rows) c.rows-rows.ensures.order) c.in_ok-at.ensures.found c.index-rows-at.is
    ∙ ap (λ (rs : List TreeRow). tree_row rs n) c.rows-rows.ensures.rows
