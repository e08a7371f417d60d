use Rattle.vg_meta.specs.Changes.{applied}
use Rattle.sm_log_rows.proofs.ApartLaws.{log_rows_sound, standing_alike, uuids_alike}
use Rattle.sm_log_rows.proofs.ChangedLaws.{apart_from_logs, no_link}
use Rattle.sm_log_rows.proofs.law_log_row.Goals as goal

pub returns : goal.returns
returns c = record {
  sound = λ x change log unlinked low sound. log_rows_sound x (applied x.table change) (apart_from_logs x.table change log low) unlinked sound;
  stands = λ t change u log low. standing_alike t (applied t change) (apart_from_logs t change log low) u;
  uuids = λ t change log low. uuids_alike t (applied t change) (apart_from_logs t change log low);
  links = no_link;
}
