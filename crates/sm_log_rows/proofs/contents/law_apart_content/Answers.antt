use Rattle.sm_log_rows.proofs.ContentLaws.{disks_apart, images_apart, kept_apart, sound_apart, well_apart}
use Rattle.sm_log_rows.proofs.contents.law_apart_content.Goals as goal

pub returns : goal.returns
returns c = record {
  images = λ x u n k. images_apart x u k n;
  disks = disks_apart;
  sound = sound_apart;
  well = well_apart;
  kept = kept_apart;
}
