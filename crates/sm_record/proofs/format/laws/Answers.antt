use Rattle.sm_record.proofs.RoundTrips.{reading_again, reading_only, reading_zeros, reading_free, sector_fits, not_free}
use Rattle.sm_record.proofs.format.laws.Goals as goal

pub returns : goal.returns
returns c = record {
  again = reading_again;
  only = reading_only;
  zeros_free = reading_zeros;
  only_zeros = reading_free;
  sector = sector_fits;
  not_free = not_free;
}
