use Rattle.std.proofs.Common.{◌≡◌, [], ◌∷◌, true, refl, Some, None, replicate, lit≤}
use Rattle.std.proofs.lemmas.Bool.{cond-true, false_from_ne_true}
use lib.Count.{ones}
use Rattle.sm_base.specs.Numbers.{IsGeometry, first, div_up}
use Rattle.vhd_map.specs.Places.{word}
use Rattle.vhd_layout.specs.Contents.{content_at, slot_at, slot_number}
use Rattle.examples_vhd.specs.SmallImages.{written_image, with_table}
use Rattle.vhd_layout.specs.Readings.{is_valid}
use Rattle.examples_vhd.proofs.SmallImageLaws.{written_valid, five_refused}
use Rattle.vhd_layout.proofs.ReadingLaws.{valid-decided}
use Rattle.examples_vhd.proofs.reading.Goals as goal

geometry : IsGeometry 32 8 64
unfolding ones
geometry = record { extent_power = refl; extent_least = lit≤ tt; extent_most = lit≤ tt; block_power = refl; block_least = lit≤ tt; block_most = lit≤ tt; within = lit≤ tt; entries_least = lit≤ tt; entries_most = lit≤ tt }

passes : is_valid 8 64 160 written_image ≡ true
passes = (valid-decided 32 8 64 160 written_image geometry).1 written_valid

slots : (content_at 8 64 160 written_image).slots ≡ (Some 0 ∷ Some 1 ∷ replicate 62 None)
unfolding slot_at slot_number word first div_up
slots = refl

pub returns : goal.returns
returns c = record {
  test = passes;
  broken = false_from_ne_true (is_valid 8 64 160 (with_table (0 ∷ 0 ∷ 0 ∷ 5 ∷ []))) (λ e. five_refused ((valid-decided 32 8 64 160 (with_table (0 ∷ 0 ∷ 0 ∷ 5 ∷ [])) geometry).0 e));
  slots = slots;
  image = cond-true (is_valid 8 64 160 written_image) (Some (content_at 8 64 160 written_image)) None passes;
}
