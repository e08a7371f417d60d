use Rattle.std.proofs.Common.{◌/◌}
use Rattle.sm_log.specs.Logs.{piece_sectors}
use Rattle.sm_log.specs.Told.{IsWithin}
use Rattle.sm_log.proofs.TellLaws.{tells_written, within_touched}
use Rattle.sm_log.proofs.laws.law_written.Goals as goal

pub returns : goal.returns
returns g c = λ ls u sector count h shown untagged set.
    tells_written g.S.Shows.before g.S.Shows.after ls u (IsWithin sector count) h shown untagged
    (λ l k i e w. set l (k / piece_sectors) i e (within_touched sector count k w))
