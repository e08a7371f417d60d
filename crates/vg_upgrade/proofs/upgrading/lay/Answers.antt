use Rattle.sm_disk.specs.Held.{IsIn}
use Rattle.std.proofs.Common.{◌≡◌, ◌-◌, length, inl, inr, sym, ap, ◌∙◌, arith}
use Rattle.sm_disk.proofs.HeldLaws.{reads-elsewhere, reads-wrote}
use Rattle.sm_disk.proofs.ReachesLaws.{Reaches-keeps, Reaches-then, Reaches-torn, Reaches-wider}
use Rattle.sm_disk.proofs.SectorLaws.{sector-one}
use Rattle.sm_disk.specs.Sectors.{sector}
use Rattle.vg_upgrade.proofs.upgrading.lay.Goals as goal

pub returns-in_err-write-clause-reaches : goal.returns-in_err-write-clause-reaches
returns-in_err-write-clause-reaches g c = λ told. Reaches-wider (λ q v is. inl is) (Reaches-torn (c.write.ensures.torn told))

pub returns-in_err-write_sector-clause-reaches : goal.returns-in_err-write_sector-clause-reaches
returns-in_err-write_sector-clause-reaches g c = λ told.
    Reaches-then (Reaches-wider (λ q v is. inl is) (Reaches-torn (c.write.ensures.torn told)))
    (Reaches-wider (λ q v is. inr is) (Reaches-torn (c.write_sector.ensures.torn told)))

pub returns-in_err-sync-clause-reaches : goal.returns-in_err-sync-clause-reaches
returns-in_err-sync-clause-reaches g c = λ told.
    Reaches-then
    (Reaches-then (Reaches-wider (λ q v is. inl is) (Reaches-torn (c.write.ensures.torn told)))
    (Reaches-wider (λ q v is. inr is) (Reaches-torn (c.write_sector.ensures.torn told))))
    (Reaches-keeps _ (c.sync.ensures.keeps told))

pub returns-clause-reaches : goal.returns-clause-reaches
returns-clause-reaches g c = λ told.
    Reaches-then
    (Reaches-then (Reaches-wider (λ q v is. inl is) (Reaches-torn (c.write.ensures.torn told)))
    (Reaches-wider (λ q v is. inr is) (Reaches-torn (c.write_sector.ensures.torn told))))
    (Reaches-keeps _ (c.sync.ensures.keeps told))

pub returns-clause-text : goal.returns-clause-text
returns-clause-text g c = λ told p here.
    let long : length c.args.sector.now ≡ 512 = omega arith in
    let apart : IsIn c.args.place (length c.args.sector.now) p → ⊥ = λ i. omega (arith, i.1, long, here.0, c.requires.front) in
    sym ((c.sync.ensures.keeps told).reads p ∙ reads-elsewhere (c.write_sector.ensures.torn told) p apart ∙ reads-wrote (c.in_ok-write.ensures.wrote told) p here)

pub returns-clause-sector : goal.returns-clause-sector
returns-clause-sector g c = λ told.
    let at = c.args.place in
    let long : length c.args.sector.now ≡ 512 = omega arith in
    let here : IsIn at (length c.args.sector.now) at = (omega arith, omega (arith, long)) in
    let none : at - at ≡ 0 = omega arith in
    (c.sync.ensures.keeps told).reads at ∙ reads-wrote (c.in_ok-write_sector.ensures.wrote told) at here ∙ ap (λ k. sector c.args.sector.now k) none ∙ sector-one c.args.sector.now long
