use Rattle.std.proofs.Common.{◌≡◌, ℕ, ◌+◌, ◌<◌, ◌||◌, true, false, length, is_some, sym, ap, ◌∙◌, arith}
use Rattle.vhd_map.specs.Slots.{slot_of}
use Rattle.std.proofs.lemmas.Bool.{or_left, or_right, or_from}
use Rattle.vhd_map.proofs.SlotLemmas.{union_size-more_yes, union_size-more_no, union_size-all}
use Rattle.vhd_map.proofs.maps.Map.union_count.Goals as goal
use Rattle.vhd_map.proofs.maps.Map.union_count.Goals.{then-is_some, then-is_some-via-then-is_some, then-is_some-via-else-is_some+then-is_some-2, else-is_some+else-is_some-2}

pub loop-block-preserved : goal.loop-block-preserved
loop-block-preserved c =
    let i = c.loop-block.block in
    let m = c.args.self.now in
    let n = c.args.other.now in
    let within : i < length m = omega arith in
    let here : c.is_some.result ≡ is_some (slot_of m i) = c.is_some.ensures ∙ ap is_some c.slot-here.ensures.slot in
    let there : is_some c.slot-there.result ≡ is_some (slot_of n i) = ap is_some c.slot-there.ensures.slot in
    elim c.if-is_some.branch [
      | then-is_some w ↦
          let some : (is_some (slot_of m i) || is_some (slot_of n i)) ≡ true =
          elim w.then-is_some.branch [
            | then-is_some-via-then-is_some w' ↦ or_left _ _ (sym here ∙ w'.if-is_some.true)
            | then-is_some-via-else-is_some+then-is_some-2 w' ↦ or_right _ _ (sym there ∙ (sym w'.is_some-else-is_some.ensures ∙ w'.if-is_some-2.true))
          ] in
          (omega (arith, w.blocks-is), w.blocks-is ∙ (ap (λ (k : ℕ). k + 1) c.loop-block.invariant.1 ∙ sym (union_size-more_yes m n i within c.requires some)))
      | else-is_some+else-is_some-2 w ↦
          let neither : (is_some (slot_of m i) || is_some (slot_of n i)) ≡ false =
          or_from _ _ (sym here ∙ w.if-is_some.false) (sym there ∙ (sym w.is_some-else-is_some.ensures ∙ w.if-is_some-2.false)) in
          (omega (arith, w.blocks-is), w.blocks-is ∙ (c.loop-block.invariant.1 ∙ sym (union_size-more_no m n i within c.requires neither)))
    ]

pub returns : goal.returns
returns c = c.loop-block.invariant.1 ∙ union_size-all c.args.self.now c.args.other.now c.loop-block.block c.requires (omega arith)
