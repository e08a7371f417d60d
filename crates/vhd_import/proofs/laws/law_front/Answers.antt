use Rattle.std.proofs.Common.{arith}
use Rattle.vhd_import.proofs.AgreeLaws.{agree-front, same-denial, same-put, same-used-front}
use Rattle.vhd_import.proofs.laws.law_front.Goals as goal

pub returns : goal.returns
returns c = record {
  agree = λ t k x y same. same-denial k x y same t;
  denial = λ t front rest k less. same-denial k _ front (agree-front front rest k less) t;
  put = λ front rest k less. same-put k _ front (agree-front front rest k less) k (omega arith);
  slots = same-used-front;
}
