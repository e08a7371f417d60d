use Rattle.std.proofs.Common.{get_or, refl, ⊎_elim, arith}
use Rattle.vhd_map.proofs.SectorLemmas.{Filled-skip, Filled-put, IsReadable-from}
use Rattle.vhd_map.proofs.maps.Map.read_sector.Goals as goal
use Rattle.vhd_map.proofs.maps.Map.read_sector.Goals.{then-slot, else-slot}

pub loop-j-preserved : goal.loop-j-preserved
loop-j-preserved c =
    let found = c.in-Some.found in
    let j = c.loop-j.j in
    let named = c.in-Some.ensures in
    elim c.if-slot.branch [
      | then-slot w ↦
          rw (w.self-is, w.put.ensures) (Filled-put c.args.self.now c.loop-j.self c.args.index found j (get_or found j 0) c.loop-j.invariant (omega arith) refl w.if-slot.true (⊎_elim (λ e. absurd (w.if-slot.true e.1)) (λ ok. omega (arith, ok.0, c.requires.blocks_in, c.loop-j.invariant.long)) (named.each j (omega arith))) (λ k low high filled same. named.once j k low high filled same))
      | else-slot w ↦ rw w.self-is (Filled-skip c.args.self.now c.loop-j.self c.args.index found j c.loop-j.invariant (omega arith) w.if-slot.false)
    ]

pub returns-clause-readable : goal.returns-clause-readable
returns-clause-readable c = (λ _. IsReadable-from _ _ _ _ _ _ _ _ (omega arith) c.in-Some.ensures, λ _. refl)
