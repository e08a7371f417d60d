use Rattle.std.proofs.Common.{arith}
use Rattle.examples_vhd.proofs.SmallImageLaws.{first_64}
use Rattle.examples_vhd.proofs.no_room.Goals as goal

pub returns : goal.returns
returns c = λ v h. omega (arith, first_64, h.4.head.room)
