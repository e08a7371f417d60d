use Rattle.std.proofs.Common.{ℕ, List, get_or, inl, inr, rules, sym, ap, ◌∙◌, arith}
use Rattle.vg_meta.specs.Tables.{is_one_of}
use Rattle.tests_reader.proofs.TextLaws.{met_more, met_stop, met_end}
use Rattle.tests_reader.proofs.texts.are_new.Goals as goal
use Rattle.tests_reader.proofs.texts.are_new.Goals.{then-extent-count-via-then-extent-count, then-extent-count-via-else-extent-count+then-contains}

pub returns-then-extent-count-clause-new : goal.returns-then-extent-count-clause-new
returns-then-extent-count-clause-new c =
    sym (met_stop c.args.count c.args.met.now.items c.args.extents.now c.loop-extent.met.items c.loop-extent.extent-index c.loop-extent.invariant c.loop-extent-test.true
    (elim c.then-extent-count.branch [
      | then-extent-count-via-then-extent-count w ↦ inl w.if-extent-count.true
      | then-extent-count-via-else-extent-count+then-contains w ↦ inr (ap (λ (l : List ℕ). is_one_of l (get_or c.args.extents.now c.loop-extent.extent-index 0)) (sym w.deref.ensures.value) ∙ sym w.contains.ensures.value ∙ w.if-contains.true)
    ]))

pub loop-extent-preserved : goal.loop-extent-preserved
loop-extent-preserved c =
    met_more c.args.count c.args.met.now.items c.args.extents.now c.loop-extent.met.items c.push.new.self.items c.loop-extent.extent-index c.loop-extent.invariant c.loop-extent-test.true
    (omega (arith, c.if-extent-count.false))
    (ap (λ (l : List ℕ). is_one_of l (get_or c.args.extents.now c.loop-extent.extent-index 0)) (sym c.deref.ensures.value) ∙ sym c.contains.ensures.value ∙ c.if-contains.false) (search rules)

pub returns-clause-new : goal.returns-clause-new
returns-clause-new c =
    sym (met_end c.args.count c.args.met.now.items c.args.extents.now c.loop-extent.met.items c.loop-extent.extent-index c.loop-extent.invariant (omega (arith, c.loop-extent-test.false))).0
