use Rattle.std.proofs.Common.{ℕ, List, sym, subst}
use Rattle.sm_base.specs.declared.names.Name.{Name}
use Rattle.vhd_chain.specs.Trees.{row_name}
use Rattle.vhd_chain.specs.declared.rows.TreeRow.{TreeRow}
use Rattle.gc_plan.specs.Counting.{AreCounted, HasNone, IsPlaceOf}
use Rattle.gc_plan.proofs.CountLaws.{count_read, has_place}
use Rattle.gc_plan.proofs.counting.ChildCounts.child_count.Goals as goal

pub returns-in-Some : goal.returns-in-Some
returns-in-Some c = λ there.
    let rs = c.args.tree.now.rows in
    let at = c.in-Some.at in
    let counted = subst (λ (ns : List ℕ). AreCounted rs ns) (sym c.self.view_is) c.requires.counted in
    let place = subst (λ (n : Name). IsPlaceOf rs n at) c.name.ensures (subst (λ (l : List TreeRow). IsPlaceOf l c.name.result at) c.rows.ensures.rows c.in-Some.ensures.found) in
    count_read rs c.self.inside.counts.items (row_name c.args.row.now) at c.index.result.now c.args.row.now counted place c.index.ensures

pub returns-in-None : goal.returns-in-None
returns-in-None c = λ there.
    let rs = c.args.tree.now.rows in
    let none = subst (λ (n : Name). HasNone rs n) c.name.ensures (subst (λ (l : List TreeRow). HasNone l c.name.result) c.rows.ensures.rows c.in-None.ensures.none) in
    absurd (has_place rs c.args.row.now there none)
