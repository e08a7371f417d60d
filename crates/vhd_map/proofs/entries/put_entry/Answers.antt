use Rattle.std.proofs.Common.{arith}
use Rattle.vhd_map.proofs.EntryLemmas.{word-put_same, word-put_other}
use Rattle.vhd_map.proofs.entries.put_entry.Goals as goal

pub returns-clause-put : goal.returns-clause-put
returns-clause-put c = word-put_same c.args.sector.now c.args.j c.args.entry _ c.to_be_bytes.ensures c.ranges.entry.fits (omega arith)

pub returns-clause-others : goal.returns-clause-others
returns-clause-others c = λ k apart. word-put_other c.args.sector.now c.args.j k _ _ _ _ apart
