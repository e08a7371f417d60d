use Rattle.std.proofs.Common.{sym, arith}
use Rattle.sm_record.specs.Records.{IsSector}
use Rattle.sm_record.proofs.Fields.{bytes_are}
use Rattle.sm_record.proofs.RoundTrips.{found}
use Rattle.sm_record.proofs.records.Record.read.Goals as goal

pub returns-in-Some-clause-taken : goal.returns-in-Some-clause-taken
returns-in-Some-clause-taken c =
    let sector : IsSector c.args.bytes.now = record { long = omega arith; bytes = bytes_are c.args.bytes.now c.fits-bytes } in
    found c.args.bytes.now c.in-Some.record sector (sym c.in-Some.ensures)
