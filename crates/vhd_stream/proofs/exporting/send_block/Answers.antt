use Rattle.std.proofs.Common.{ap, sym, ◌∙◌}
use Rattle.std.specs.List.{concat}
use Rattle.sm_base.specs.declared.sizes.Geometry.{Geometry}
use Rattle.sm_machine.specs.Shapes.{chain_limit}
use Rattle.vg_volumes.specs.Stored.{Stored, stored}
use Rattle.vhd_stream.specs.Exports.{DiskBlocks, piece}
use Rattle.vhd_stream.specs.Known.{blocks_read, is_known}
use Rattle.vhd_stream.proofs.SendLaws.{Sends-none, Sends-same}
use Rattle.vhd_stream.proofs.TableSteps.{piece-empty}
use Rattle.vhd_stream.proofs.exporting.send_block.Goals as goal

pub send_there-requires-clause-there : goal.send_there-requires-clause-there
send_there-requires-clause-there g c =
    ap (λ (x : Geometry). is_known chain_limit x.block c.args.tree.now.rows c.args.name.now c.args.b) (sym c.geometry-block.ensures) ∙ sym c.is_there.ensures ∙ c.if-is_there.true

pub returns-else-is_there-clause-sends : goal.returns-else-is_there-clause-sends
returns-else-is_there-clause-sends g c =
    let x : Stored = stored g.S.Store c.args.store.now in
    let disk : DiskBlocks = blocks_read x c.args.tree.now.rows c.args.name.now c.args.count in
    let none = ap (λ (y : Geometry). is_known chain_limit y.block c.args.tree.now.rows c.args.name.now c.args.b) (sym c.geometry-block.ensures) ∙ sym c.is_there.ensures ∙ c.if-is_there.false in
    Sends-same _ (concat (piece disk c.args.b)) _ (sym (ap concat (piece-empty disk c.args.b none))) (Sends-none tt _ _ _)
