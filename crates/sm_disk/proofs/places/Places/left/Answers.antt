use Rattle.std.proofs.Common.{◌≡◌, ◌++◌, ◌∷◌, map, sym, ap, ◌∙◌, subst, arith, rules}
use Rattle.std.specs.Map.Iter.{deref_pair}
use Rattle.std.specs.Map.{keys_of}
use Rattle.std.specs.Ordering.{nat_cmp}
use Rattle.std.specs.List.Sorted.{IsStrictlySortedBy}
use Rattle.std.proofs.lemmas.List.{map_push, length-map}
use Rattle.std.proofs.lemmas.Map.Iter.{rest_so_far, rest_more, iter_turn, iter_end}
use Rattle.sm_disk.specs.Memory.{WrittenPlaces, pick}
use Rattle.sm_disk.proofs.LeftLaws.{left_of, rested, left_of-turn, weights, weights-push, weights-le, AllSectors-left_of, IsLeft-left_of}
use Rattle.sm_disk.proofs.places.Places.left.Goals as goal

pub overflow_add-before : goal.overflow_add-before
overflow_add-before c =
    let given = c.into_iter-place-iterator.ensures.into_iter_gives in
    let turn = iter_turn deref_pair c.self.inside.slots.entries c.loop-place.yielded _ _ _ _ given.0 c.loop-place.yielded_by (c.in-Some.place, c.in-Some.slot) c.in-Some.is c.next.ensures.steps in
    omega (arith, given.1, turn.0, c.loop-place.invariant.count, weights-le (map deref_pair c.loop-place.yielded), length-map c.loop-place.yielded deref_pair, c.weight-before.ensures)

pub loop-place-preserved : goal.loop-place-preserved
loop-place-preserved c =
    let given = c.into_iter-place-iterator.ensures.into_iter_gives in
    let xs = map deref_pair c.loop-place.yielded in
    let place = c.in-Some.place.now in
    let slot = c.in-Some.slot.now in
    let choice = c.args.choice.now in
    let before = c.loop-place.before in
    let next = rest_more deref_pair _ _ _ (c.in-Some.place, c.in-Some.slot) c.in-Some.is c.next.ensures.steps in
    let split : c.self.inside.slots.entries ≡ xs ++ (place, slot) ∷ c.next.new.self =
    sym given.0 ∙ rest_so_far deref_pair c.loop-place.yielded _ _ c.loop-place.yielded_by ∙ ap (λ l. xs ++ l) next in
    let P : WrittenPlaces → Type 0 = λ l. IsStrictlySortedBy nat_cmp (keys_of l) in
    let rests : c.at_rest-slot_left.result ≡ rested slot (pick choice before) =
    rw (c.at_rest-slot_left.ensures, c.value.ensures, c.pick.ensures) in
    let pushed = map_push deref_pair c.loop-place.yielded (c.in-Some.place, c.in-Some.slot) in
    record {
      made = c.in_ok-put.ensures
          ∙ left_of-turn choice xs place slot c.next.new.self _ before _ (subst P split given.5) c.loop-place.invariant.made c.loop-place.invariant.count rests
          ∙ ap (left_of choice 0) (sym pushed);
      count = (let sum = weights-push xs (place, slot) in omega (arith, sum, c.loop-place.invariant.count, c.weight-before.ensures)) ∙ ap weights (sym pushed);
    }

pub invariant_of-result : goal.invariant_of-result
invariant_of-result c =
    let all : map deref_pair c.loop-place.yielded ≡ c.self.inside.slots.entries = search (rules, iter_end) in
    rw (c.loop-place.invariant.made, all) (AllSectors-left_of c.args.choice.now 0 _ c.self.invariant)

pub returns : goal.returns
returns c =
    let given = c.into_iter-place-iterator.ensures.into_iter_gives in
    let all : map deref_pair c.loop-place.yielded ≡ c.self.inside.slots.entries = search (rules, iter_end) in
    rw (c.loop-place.invariant.made, all, ← c.self.view_is) (IsLeft-left_of c.args.choice.now _ given.5)
