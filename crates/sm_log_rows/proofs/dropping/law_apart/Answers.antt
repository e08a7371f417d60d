use Rattle.sm_log_rows.proofs.ApartLaws.{log_rows_sound, standing_alike, uuids_alike}
use Rattle.sm_log_rows.proofs.DroppedLaws.{apart_itself, apart_then}
use Rattle.sm_log_rows.proofs.dropping.law_apart.Goals as goal

pub returns : goal.returns
returns c = record {
  sound = λ x b k unlinked sound. log_rows_sound x b k unlinked sound;
  stands = λ a b u k. standing_alike a b k u;
  uuids = uuids_alike;
  itself = apart_itself;
  then = apart_then;
}
