use Rattle.std.proofs.Common.{◌≡◌, None, Some, sym, ap, ◌∙◌, subst, rules}
use Rattle.sm_base.specs.declared.names.Name.TheVariants.{Vhd}
use Rattle.vhd_chain.specs.Trees.{tree_row, without}
use Rattle.sm_standing.specs.Entries.{image_with}
use Rattle.vg_meta.specs.Roomy.{table_alone}
use Rattle.sm_standing.specs.Opened.{under_name}
use Rattle.sm_recover.proofs.GiveBackLaws.{free_back}
use Rattle.sm_recover.proofs.memory.fork_back.Goals as goal

pub base_back-requires-clause-free : goal.base_back-requires-clause-free
base_back-requires-clause-free c =
    let found : image_with (table_alone c.args.table.now) c.args.base.now ≡ Some c.in-Some.from = search rules in
    subst (λ n. tree_row (without c.in-Some.from c.take_out-3.new.tree.rows) n ≡ None) (sym c.under_name.ensures)
    (ap (λ xs. tree_row (without c.in-Some.from xs) (under_name c.in-Some.from c.args.disk.now)) (c.take_out-3.ensures.rows ∙ ap (without (Vhd c.args.disk.now)) c.take_out.ensures.rows)
    ∙ free_back c.in-Some.from c.args.disk.now c.args.twin.now c.args.tree.now.rows (c.requires c.in-Some.from found))
