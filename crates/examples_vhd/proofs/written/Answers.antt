use Rattle.std.proofs.Common.{refl}
use Rattle.vhd_map.specs.Bitmaps.{is_set}
use Rattle.vhd_map.specs.Places.{word}
use Rattle.vhd_layout.specs.Contents.{own, value}
use Rattle.examples_vhd.proofs.SmallImageLaws.{written_valid, written_holds}
use Rattle.examples_vhd.proofs.written.Goals as goal

pub returns : goal.returns
unfolding own value is_set word
returns c = record {
  valid = written_valid;
  holds = written_holds;
  before = refl;
  last_of_a_block = refl;
  first_of_a_block = refl;
  behind = refl;
  without_slot = refl;
  past_the_size = refl;
}
