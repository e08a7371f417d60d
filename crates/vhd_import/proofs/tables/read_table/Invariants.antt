use Rattle.vhd_import.proofs.KeptLaws.{IsKept}
use Rattle.vhd_import.proofs.tables.read_table.Given as goal

abbrev pub invariant-loop-index : goal.invariant-loop-index
invariant-loop-index g l = IsKept (g.S.Source.content l.fn.source) (g.S.Source.content l.source) l.index l.blocks l.kept.items (g.S.Source.faults l.fn.source) (g.S.Source.faults l.source)
