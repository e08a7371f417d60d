use Rattle.std.proofs.Common.{◌≡◌, [], ◌∷◌, ◌++◌, replicate, refl, arith, lit<, lit≤}
use Rattle.vhd_map.specs.Places.{word}
use Rattle.examples_vhd.specs.SmallImages.{table_of}
use Rattle.examples_vhd.proofs.SmallImageLaws.{five_refused, twice, past_the_size, past_the_slots}
use Rattle.examples_vhd.proofs.broken_tables.Goals as goal

four : word (table_of (0 ∷ 0 ∷ 0 ∷ 4 ∷ 0 ∷ 0 ∷ 0 ∷ 4 ∷ [])) 0 ≡ 4
unfolding word
four = refl

four_again : word (table_of (0 ∷ 0 ∷ 0 ∷ 4 ∷ 0 ∷ 0 ∷ 0 ∷ 4 ∷ [])) 1 ≡ 4
unfolding word
four_again = refl

sixteenth : word (table_of (replicate 64 255 ++ 0 ∷ 0 ∷ 0 ∷ 4 ∷ [])) 16 ≡ 4
unfolding word
sixteenth = refl

far : word (table_of (0 ∷ 0 ∷ 0 ∷ 157 ∷ [])) 0 ≡ 157
unfolding word
far = refl

last : word (table_of (replicate 256 255 ++ 0 ∷ 0 ∷ 0 ∷ 0 ∷ [])) 64 ≡ 0
unfolding word
last = refl

pub returns : goal.returns
returns c = record {
  between_slots = five_refused;
  twice = twice (0 ∷ 0 ∷ 0 ∷ 4 ∷ 0 ∷ 0 ∷ 0 ∷ 4 ∷ []) four four_again;
  past_the_size = past_the_size (replicate 64 255 ++ 0 ∷ 0 ∷ 0 ∷ 4 ∷ []) 16 (lit< tt) (lit≤ tt) (omega (arith, sixteenth));
  past_the_slots = past_the_slots (0 ∷ 0 ∷ 0 ∷ 157 ∷ []) far;
  past_the_entries = past_the_size (replicate 256 255 ++ 0 ∷ 0 ∷ 0 ∷ 0 ∷ []) 64 (lit< tt) (lit≤ tt) (omega (arith, last));
}
