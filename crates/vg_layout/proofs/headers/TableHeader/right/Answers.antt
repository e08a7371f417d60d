use Rattle.vg_layout.specs.Fields.{places_in}
use Rattle.vg_layout.proofs.SectorLaws.{wrong_slot}
use Rattle.vg_layout.proofs.headers.TableHeader.right.Goals as goal

pub returns-in_err-header-clause-none : goal.returns-in_err-header-clause-none
returns-in_err-header-clause-none c = rw c.from_residual.ensures (wrong_slot (places_in c.args.frame.now) c.args.bytes.now c.in_err-header.ensures.none)
