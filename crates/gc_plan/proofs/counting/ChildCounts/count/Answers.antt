use Rattle.std.proofs.Common.{rules, ◌≡◌, ◌≤◌, ℕ, List, length, vec_len, set, ◌+◌, refl, sym, ◌∙◌, subst, arith}
use Rattle.std.proofs.lemmas.List.{get_or_default, length-set}
use Rattle.vhd_chain.specs.Trees.{AreOrdered}
use Rattle.vhd_chain.specs.declared.rows.TreeRow.{TreeRow}
use Rattle.gc_plan.specs.Counting.{AreCounted}
use Rattle.gc_plan.proofs.CountLaws.{AreCountedTo, counted_few, counted_first, counted_last, counted_more, counted_past}
use Rattle.gc_plan.proofs.counting.ChildCounts.count.Goals as goal
use Rattle.gc_plan.proofs.counting.ChildCounts.count.Goals.{in-Some, in_default}

pub loop-row-init : goal.loop-row-init
loop-row-init c =
    let is = c.fill.ensures.items (λ y e. e) in
    let rs = c.rows-rows.result.now in
    let long : length c.fill.new.self.items ≡ length c.self.inside.counts.items = search rules in
    let same : vec_len c.self.inside.counts ≡ length c.self.inside.counts.items = search rules in
    let few : length rs ≤ length c.self.inside.counts.items =
    subst (λ (rs : List TreeRow). length rs ≤ length c.self.inside.counts.items) (sym c.rows-rows.ensures.rows)
    (subst (λ (ns : List ℕ). length c.args.tree.now.rows ≤ length ns) (sym c.self.view_is) c.requires.few) in
    record {
      long = refl;
      room = omega (arith, long, few);
      counted = subst (AreCountedTo rs 0) (sym is) (counted_first rs (vec_len c.self.inside.counts) (omega (arith, few, same)));
    }

pub overflow_add-index_mut : goal.overflow_add-index_mut
overflow_add-index_mut c =
    let rs = c.rows-rows.result.now in
    let counts = c.loop-row.self-inside.counts.items in
    let up = c.in-Some.ensures.found in
    let few = counted_few rs c.loop-row.row-index counts c.in-Some.at c.row-item.result c.loop-row.invariant.counted up.place.within in
    let was = c.index_mut.ensures.value ∙ get_or_default counts c.in-Some.at c.index_mut.result.now 0 (omega (arith, up.place.within, c.loop-row.invariant.room)) in
    omega (arith, few, was, c.rows-rows.type_inv.1)

pub loop-row-preserved : goal.loop-row-preserved
loop-row-preserved c =
    let rs = c.rows-rows.result.now in
    let counts = c.loop-row.self-inside.counts.items in
    let k = c.loop-row.row-index in
    let inv = c.loop-row.invariant in
    elim c.match-parent_place.branch [
      | in-Some w ↦
          let at = w.in-Some.at in
          let up = w.in-Some.ensures.found in
          let was = w.index_mut.ensures.value ∙ get_or_default counts at w.index_mut.result.now 0 (omega (arith, up.place.within, inv.room)) in
          let ordered = subst AreOrdered (sym c.rows-rows.ensures.rows) c.rows-rows.ensures.order in
          rw w.self-inside-is (record {
            long = length-set counts at (w.index_mut.result.now + 1) ∙ inv.long;
            room = omega (arith, inv.room, length-set counts at (w.index_mut.result.now + 1));
            counted = subst (λ n. AreCountedTo rs (k + 1) (set counts at (n + 1))) (sym was)
                (counted_more rs k c.row-item.result counts at ordered c.loop-row-test.true c.row-item.is inv.room up inv.counted);
          })
      | in_default w ↦
          rw w.self-inside-is (record {
            long = inv.long;
            room = inv.room;
            counted = counted_past rs k c.row-item.result counts c.loop-row-test.true c.row-item.is w.in_default.ensures.none inv.counted;
          })
    ]

pub returns-clause-counted : goal.returns-clause-counted
returns-clause-counted c =
    let inv = c.loop-row.invariant in
    subst (λ (rs : List TreeRow). AreCounted rs c.loop-row.self-inside.counts.items) c.rows-rows.ensures.rows
    (counted_last c.rows-rows.result.now c.loop-row.row-index c.loop-row.self-inside.counts.items c.loop-row-test.false inv.room inv.counted)
