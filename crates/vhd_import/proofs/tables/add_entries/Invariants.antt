use Rattle.std.proofs.Common.{◌≡◌, ◌-◌, ◌++◌}
use Rattle.vhd_map.specs.Places.{word}
use Rattle.vhd_import.specs.Entries.{entries_from}
use Rattle.vhd_import.proofs.tables.add_entries.Given as goal

abbrev pub invariant-loop-j : goal.invariant-loop-j
invariant-loop-j l = l.to.items ≡ l.fn.to.items ++ entries_from (λ b. word l.sector (b - l.first)) l.first l.j
