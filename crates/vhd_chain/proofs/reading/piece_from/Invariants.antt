use Rattle.vhd_chain.proofs.ReadingLaws.{IsWalked}
use Rattle.vhd_chain.proofs.reading.piece_from.Given as goal

abbrev pub invariant-loop : goal.invariant-loop
invariant-loop g l = IsWalked g.S.Store l.rows l.leaf l.sector l.most l.initial.store l.store l.counter l.next l.sectors
