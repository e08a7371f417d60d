use Rattle.std.proofs.Common.{arith}
use Rattle.sm_mgt.proofs.AgreeLaws.{agrees_put, agrees_wipe, agrees_clear, reads-zeroed}
use Rattle.sm_mgt.proofs.FindLaws.{put_found, clear_none}
use Rattle.sm_mgt.proofs.agreement.laws.Goals as goal

pub returns : goal.returns
returns c = record {
  put = agrees_put;
  put_found = put_found;
  wipe = λ places k old new below wrote was. agrees_wipe places k old new (omega (arith, below, was.long)) wrote was;
  clear = agrees_clear;
  clear_reads = λ places u old new p w here. reads-zeroed w p here;
  clear_none = clear_none;
}
