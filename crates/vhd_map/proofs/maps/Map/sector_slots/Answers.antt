use Rattle.std.proofs.Common.{◌≢◌, refl, sym, ◌∙◌, arith, length-set, get_or-set_other}
use Rattle.std.proofs.lemmas.List.{get_or-replicate}
use Rattle.sm_base.specs.Numbers.{first}
use Rattle.vhd_map.specs.Places.{word, blank}
use Rattle.vhd_map.proofs.SectorLemmas.{NamesSlots-none, NamesSlots-blank, NamesSlots-slot, unreadable_twice, found_before, not_found_before}
use Rattle.vhd_map.proofs.maps.Map.sector_slots.Goals as goal
use Rattle.vhd_map.proofs.maps.Map.sector_slots.Goals.{then-entry+in_ok-slot+else-contains, else-entry}

pub loop-j-init : goal.loop-j-init
loop-j-init c = (refl, NamesSlots-none _ _ _ _ _ _ _ _, λ k low high. get_or-replicate 128 k 4294967295 0 high)

pub returns-then-contains : goal.returns-then-contains
returns-then-contains c =
    let g = c.args.geometry.now in
    let found = c.loop-j.found in
    let j = c.loop-j.j in
    let slot = c.in_ok-slot.slot in
    let at = c.if-contains.ensures.cases in
    let before = found_before found j slot at.0 (omega (arith, c.loop-j.invariant.0)) at.1 (at.2 0) in
    let named = c.in_ok-slot.ensures.1 in
    let entry = c.entry_at-entry.ensures in
    let filled : word c.args.bytes.now j ≢ blank = rw (← entry) c.if-entry.true in
    unreadable_twice (first g.entries) g.block c.args.blocks c.args.slots c.args.self.now c.args.index c.args.bytes.now found j at.0 slot c.loop-j.invariant.1 (omega arith) before.0 (omega (arith, named.within)) filled (sym entry ∙ named.named) before.1

pub loop-j-preserved : goal.loop-j-preserved
loop-j-preserved c =
    let g = c.args.geometry.now in
    let found = c.loop-j.found in
    let j = c.loop-j.j in
    let entry = c.entry_at-entry.ensures in
    elim c.if-entry.branch [
      | then-entry+in_ok-slot+else-contains w ↦
          let slot = w.in_ok-slot.slot in
          let ok = w.in_ok-slot.ensures in
          rw w.found-is (
            length-set found j slot ∙ c.loop-j.invariant.0,
            NamesSlots-slot (first g.entries) g.block c.args.blocks c.args.slots c.args.self.now c.args.index c.args.bytes.now found j slot c.loop-j.invariant.1 (omega (arith, c.loop-j.invariant.0)) ok.0 (rw (← entry) ok.1) (not_found_before found j slot (omega (arith, c.loop-j.invariant.0)) (sym w.contains.ensures.value ∙ w.if-contains.false)),
            λ k low high. get_or-set_other found j k slot 0 (λ e. omega arith) ∙ c.loop-j.invariant.2 k (omega arith) high,
          )
      | else-entry w ↦
          rw w.found-is (
            c.loop-j.invariant.0,
            NamesSlots-blank (first g.entries) g.block c.args.blocks c.args.slots c.args.self.now c.args.index c.args.bytes.now found j c.loop-j.invariant.1 (sym entry ∙ w.if-entry.false) (c.loop-j.invariant.2 j (omega arith) (omega arith)),
            λ k low high. c.loop-j.invariant.2 k (omega arith) high,
          )
    ]
