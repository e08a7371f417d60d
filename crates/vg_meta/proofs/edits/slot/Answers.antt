use Rattle.std.proofs.Common.{◌≡◌, true, false, sym, ap, ◌∙◌}
use Rattle.std.specs.Ordering.{is_lt}
use Rattle.sm_base.specs.Names.{name_cmp}
use Rattle.sm_base.specs.declared.names.Name.{Name}
use Rattle.vg_meta.proofs.PutLaws.{passed_first, passed_more, put_here, put_at_end, slot_here, slot_at_end}
use Rattle.vg_meta.proofs.edits.slot.Goals as goal

pub loop-at-init : goal.loop-at-init
loop-at-init c = passed_first c.args.volumes.now c.args.name.now

pub returns-then-is_lt-clause-place : goal.returns-then-is_lt-clause-place
returns-then-is_lt-clause-place c =
    let before : is_lt (name_cmp c.args.name.now c.index-volumes-at.result.row.name) ≡ true =
    ap (λ (m : Name). is_lt (name_cmp c.args.name.now m)) (sym c.name.ensures.name) ∙ ap is_lt (sym c.compare.ensures) ∙ sym c.is_lt.ensures ∙ c.if-is_lt.true in
    put_here c.args.volumes.now c.args.name.now c.loop-at.at c.index-volumes-at.result c.loop-at-test.true c.index-volumes-at.is before c.loop-at.invariant

pub loop-at-preserved : goal.loop-at-preserved
loop-at-preserved c =
    let behind : is_lt (name_cmp c.args.name.now c.index-volumes-at.result.row.name) ≡ false =
    ap (λ (m : Name). is_lt (name_cmp c.args.name.now m)) (sym c.name.ensures.name) ∙ ap is_lt (sym c.compare.ensures) ∙ sym c.is_lt.ensures ∙ c.if-is_lt.false in
    passed_more c.args.volumes.now c.args.name.now c.loop-at.at c.index-volumes-at.result c.loop-at-test.true c.index-volumes-at.is behind c.loop-at.invariant

pub returns-clause-place : goal.returns-clause-place
returns-clause-place c = put_at_end c.args.volumes.now c.args.name.now c.loop-at.at c.loop-at-test.false c.loop-at.invariant

pub returns-then-is_lt-clause-slot : goal.returns-then-is_lt-clause-slot
returns-then-is_lt-clause-slot c =
    let before : is_lt (name_cmp c.args.name.now c.index-volumes-at.result.row.name) ≡ true =
    ap (λ (m : Name). is_lt (name_cmp c.args.name.now m)) (sym c.name.ensures.name) ∙ ap is_lt (sym c.compare.ensures) ∙ sym c.is_lt.ensures ∙ c.if-is_lt.true in
    slot_here c.args.volumes.now c.args.name.now c.loop-at.at c.index-volumes-at.result c.loop-at-test.true c.index-volumes-at.is before c.loop-at.invariant

pub returns-clause-slot : goal.returns-clause-slot
returns-clause-slot c = slot_at_end c.args.volumes.now c.args.name.now c.loop-at.at c.loop-at-test.false c.loop-at.invariant
