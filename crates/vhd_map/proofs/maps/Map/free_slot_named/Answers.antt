use Rattle.std.proofs.Common.{sym, ap, ◌∙◌, arith}
use Rattle.sm_base.specs.Numbers.{first}
use Rattle.std.proofs.lemmas.Bool.{true≢false}
use Rattle.vhd_map.specs.Slots.{is_used}
use Rattle.vhd_map.proofs.SectorLemmas.{code-same}
use Rattle.vhd_map.proofs.maps.Map.free_slot_named.Goals as goal
use Rattle.vhd_map.proofs.maps.Map.free_slot_named.Goals.{else-block-blocks-via-then-block-blocks+then-slot-slots+else-not-is_in_use, else-block-blocks-via-then-block-blocks+else-slot-slots, else-block-blocks-via-else-block-blocks}

pub returns-else-block-blocks : goal.returns-else-block-blocks
returns-else-block-blocks c = λ h.
    let g = c.args.geometry.now in
    let same = code-same (first g.entries) g.block h.1.0 c.in_ok-slot.slot (sym h.1.1.named ∙ c.in_ok-slot.ensures) in
    elim c.else-block-blocks.branch [
      | else-block-blocks-via-then-block-blocks+then-slot-slots+else-not-is_in_use w ↦ true≢false (w.if-not-is_in_use.ensures ∙ (sym (ap (is_used c.args.self.now) same) ∙ h.1.1.free))
      | else-block-blocks-via-then-block-blocks+else-slot-slots w ↦ omega (arith, same, h.1.1.within, w.if-slot-slots.false)
      | else-block-blocks-via-else-block-blocks w ↦ omega (arith, h.0, w.if-block-blocks.false)
    ]
