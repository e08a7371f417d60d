use Rattle.std.proofs.Common.{◌≡◌, None, Some, sym, ◌∙◌, rules, arith}
use Rattle.sm_base.specs.declared.names.Name.TheVariants.{Clone}
use Rattle.sm_standing.specs.Entries.{head, making}
use Rattle.vg_meta.specs.Roomy.{table_alone}
use Rattle.sm_recover.proofs.GiveBackLaws.{other_back, rows_none, rows_some}
use Rattle.sm_recover.proofs.memory.give_back.Goals as goal

pub returns-in_default-clause-rows : goal.returns-in_default-clause-rows
returns-in_default-clause-rows c =
    let none : head (making (table_alone c.args.table.now)) ≡ None = search rules in
    sym (rows_none (table_alone c.args.table.now) c.args.tree.now.rows none)

pub fork_back-requires : goal.fork_back-requires
fork_back-requires c =
    let found : head (making (table_alone c.args.table.now)) ≡ Some (Clone c.in-Clone.disk c.in-Clone.base c.in-Clone.twin) = search rules in
    λ from there. c.requires c.in-Clone.disk c.in-Clone.base c.in-Clone.twin found from there

pub returns-in-Clone-clause-rows : goal.returns-in-Clone-clause-rows
returns-in-Clone-clause-rows c =
    let found : head (making (table_alone c.args.table.now)) ≡ Some (Clone c.in-Clone.disk c.in-Clone.base c.in-Clone.twin) = search rules in
    c.fork_back.ensures.rows ∙ sym (rows_some (table_alone c.args.table.now) c.args.tree.now.rows (Clone c.in-Clone.disk c.in-Clone.base c.in-Clone.twin) found)

pub returns-in_default-entry : goal.returns-in_default-entry
returns-in_default-entry c =
    let t = table_alone c.args.table.now in
    let found : head (making t) ≡ Some c.in-Some.entry = search rules in
    record {
      rows = sym (rows_some t c.args.tree.now.rows c.in-Some.entry found ∙ other_back t c.in-Some.entry c.args.tree.now.rows c.in_default-entry.not-Clone);
      room = omega arith;
    }
