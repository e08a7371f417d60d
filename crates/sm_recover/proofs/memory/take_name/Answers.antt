use Rattle.std.proofs.Common.{◌≡◌, None, Some, sym, ◌∙◌, rules, arith}
use Rattle.sm_base.specs.declared.names.Name.TheVariants.{Leaf}
use Rattle.sm_standing.specs.Entries.{folding, head}
use Rattle.vg_meta.specs.Roomy.{table_alone}
use Rattle.sm_recover.proofs.EndingRows.{ended_none, ended_some, other_ended}
use Rattle.sm_recover.proofs.memory.take_name.Goals as goal

pub returns-in_default-clause-rows : goal.returns-in_default-clause-rows
returns-in_default-clause-rows c =
    let none : head (folding (table_alone c.args.table.now)) ≡ None = search rules in
    sym (ended_none (table_alone c.args.table.now) c.args.tree.now.rows none)

pub returns-in-Leaf-clause-rows : goal.returns-in-Leaf-clause-rows
returns-in-Leaf-clause-rows c =
    let found : head (folding (table_alone c.args.table.now)) ≡ Some (Leaf c.in-Leaf.leaf c.in-Leaf.parent) = search rules in
    c.leaf_back.ensures.rows ∙ sym (ended_some (table_alone c.args.table.now) c.args.tree.now.rows (Leaf c.in-Leaf.leaf c.in-Leaf.parent) found)

pub returns-in_default-entry : goal.returns-in_default-entry
returns-in_default-entry c =
    let t = table_alone c.args.table.now in
    let found : head (folding t) ≡ Some c.in-Some.entry = search rules in
    record {
      rows = sym (ended_some t c.args.tree.now.rows c.in-Some.entry found ∙ other_ended t c.in-Some.entry c.args.tree.now.rows c.in_default-entry.not-Leaf);
      room = omega arith;
    }
