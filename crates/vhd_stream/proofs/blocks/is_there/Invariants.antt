use Rattle.std.proofs.Common.{◌≡◌, ◌-◌}
use Rattle.sm_machine.specs.Shapes.{chain_limit}
use Rattle.vhd_stream.specs.Known.{is_known}
use Rattle.vhd_stream.proofs.blocks.is_there.Given as goal

abbrev pub invariant-loop : goal.invariant-loop
invariant-loop l = is_known chain_limit l.block l.tree.rows l.name l.b ≡ is_known (chain_limit - l.counter) l.block l.tree.rows l.next l.b
