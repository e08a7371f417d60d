use Rattle.std.proofs.Common.{◌≡◌, ◌+◌, ◌-◌, sym, ap, ◌∙◌, arith}
use Rattle.sm_machine.specs.Shapes.{chain_limit}
use Rattle.vhd_stream.specs.Known.{is_known}
use Rattle.vhd_stream.proofs.KnownSteps.{end_known, has_known, none_known, none_left, up_known}
use Rattle.vhd_stream.proofs.blocks.is_there.Goals as goal

pub returns-in_default : goal.returns-in_default
returns-in_default c = sym (c.loop.invariant ∙ none_known c.args.block c.args.b c.args.tree.now.rows c.loop.next (chain_limit - c.loop.counter) (sym c.in_default.ensures))

pub returns-then-has_block : goal.returns-then-has_block
returns-then-has_block c =
    sym (c.loop.invariant ∙ has_known c.args.block c.args.b c.args.tree.now.rows c.loop.next (chain_limit - c.loop.counter) c.in-Some.row.now (omega arith) (sym c.in-Some.ensures) (sym c.has_block.ensures ∙ c.if-has_block.true))

pub returns-in_default-parent : goal.returns-in_default-parent
returns-in_default-parent c =
    sym (c.loop.invariant ∙ end_known c.args.block c.args.b c.args.tree.now.rows c.loop.next (chain_limit - c.loop.counter) c.in-Some.row.now (omega arith) (sym c.in-Some.ensures) (sym c.has_block.ensures ∙ c.if-has_block.false)
    (sym c.in_default-parent.ensures))

pub loop-preserved : goal.loop-preserved
loop-preserved c =
    let next : chain_limit - c.loop.counter - 1 ≡ chain_limit - (c.loop.counter + 1) = omega arith in
    c.loop.invariant
    ∙ up_known c.args.block c.args.b c.args.tree.now.rows c.loop.next (chain_limit - c.loop.counter) c.in-Some.row.now c.in-Some-parent.parent (omega arith) (sym c.in-Some.ensures) (sym c.has_block.ensures ∙ c.if-has_block.false)
    (sym c.in-Some-parent.ensures)
    ∙ ap (λ most. is_known most c.args.block c.args.tree.now.rows c.in-Some-parent.parent c.args.b) next

pub returns : goal.returns
returns c =
    let end : chain_limit - c.loop.counter ≡ 0 = omega arith in
    sym (c.loop.invariant ∙ ap (λ most. is_known most c.args.block c.args.tree.now.rows c.loop.next c.args.b) end ∙ none_left c.args.block c.args.b c.args.tree.now.rows c.loop.next)
