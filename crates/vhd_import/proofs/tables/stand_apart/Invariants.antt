use Rattle.std.proofs.Common.{◌≡◌, ◌+◌, drop}
use Rattle.vhd_import.specs.Apart.{stand_apart}
use Rattle.vhd_import.proofs.tables.stand_apart.Given as goal

-- what is left stands apart from here on exactly where all do from the begin
abbrev pub invariant-loop-entry : goal.invariant-loop-entry
invariant-loop-entry l = record {
  rest : stand_apart l.from (1 + l.block) (drop l.entry-index l.entries) ≡ stand_apart l.end (1 + l.block) l.entries;
}
