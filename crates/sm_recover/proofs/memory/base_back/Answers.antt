use Rattle.std.proofs.Common.{◌≡◌, List, None, length, sym, ap, ◌∙◌, arith, rules}
use Rattle.common_laws.proofs.Lists.{length-insert_by}
use Rattle.vhd_chain.specs.Trees.{Tree, is_before}
use Rattle.vhd_chain.specs.declared.rows.TreeRow.{TreeRow}
use Rattle.sm_recover.proofs.GiveBackLaws.{base_none, if_none_of}
use Rattle.sm_recover.proofs.memory.base_back.Goals as goal

pub returns-in_default-clause-rows : goal.returns-in_default-clause-rows
returns-in_default-clause-rows c =
    let none : c.take_out.result ≡ None = search rules in
    ap (λ (t : Tree). t.rows) (if_none_of none c.take_out.ensures.none) ∙ sym (base_none c.args.from.now c.args.to c.args.tree.now.rows (sym c.take_out.ensures.taken ∙ none))

pub returns-clause-room : goal.returns-clause-room
returns-clause-room c =
    omega (arith, c.take_out.ensures.room, c.add.ensures.spare, ap (λ (xs : List TreeRow). length xs) c.add.ensures.rows, length-insert_by is_before c.show_as.new.row c.take_out.new.tree.rows)
