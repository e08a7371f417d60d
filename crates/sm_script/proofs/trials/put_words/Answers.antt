use Rattle.std.proofs.Common.{ℕ, List, ◌≡◌, ◌+◌, ◌<◌, ◌≤◌, ◌∷◌, length, take, get_or, arith, ap}
use Rattle.std.proofs.lemmas.List.Folds.{length-flat_map-take}
use Rattle.sm_script.specs.Pieces.{led}
use Rattle.sm_script.proofs.trials.put_words.Goals as goal

-- behind the words in front of it a word has room, with its space
fits : (words : List (List ℕ)) (i : ℕ) (word : List ℕ) → i < length words → word ≡ get_or words i word → length (led 32 (take i words)) + (1 + length word) ≤ length (led 32 words)
fits words i word within is =
    let all : length (led 32 (take i words)) + length (32 ∷ get_or words i word) ≤ length (led 32 words) = length-flat_map-take (λ w. 32 ∷ w) words i word within in
    omega (arith, all, ap length is)

pub put-at-requires-in-loop-word : goal.put-at-requires-in-loop-word
put-at-requires-in-loop-word c =
    let within : c.loop-word.word-index < length c.args.words.now = omega arith in
    let room = fits c.args.words.now c.loop-word.word-index c.word-item.result within c.word-item.is in
    omega (arith, room, c.loop-word.invariant.place, c.requires)

pub put-at-requires-in-loop-word-2 : goal.put-at-requires-in-loop-word-2
put-at-requires-in-loop-word-2 c =
    let within : c.loop-word.word-index < length c.args.words.now = omega arith in
    let room = fits c.args.words.now c.loop-word.word-index c.word-item.result within c.word-item.is in
    omega (arith, room, c.loop-word.invariant.place, c.requires, c.put-at-in-loop-word.ensures.next, ap length c.bytes.ensures)
