use Rattle.std.proofs.Common.{◌≡◌, ℕ, List, length, subst, sym, rules}
use Rattle.sm_disk.specs.Sectors.{IsSector}
use Rattle.sm_disk.proofs.HeldLaws.{gave_one, IsSector-reads}
use Rattle.sm_disk.proofs.devices.read_sector.Goals as goal

pub returns-clause-gave : goal.returns-clause-gave
returns-clause-gave g c = λ told.
    let long : length c.read.new.to ≡ 512 = search rules in
    gave_one _ (g.D.Disk.held c.args.disk.now) _ long (c.in_ok-read.ensures.gave told)

pub returns-clause-sector : goal.returns-clause-sector
returns-clause-sector g c = λ told.
    let long : length c.read.new.to ≡ 512 = search rules in
    let gave = gave_one _ (g.D.Disk.held c.args.disk.now) _ long (c.in_ok-read.ensures.gave told) in
    let P : List ℕ → Type 0 = λ s. IsSector s in
    subst P (sym gave) (IsSector-reads (c.sectors-sectors.ensures.sectors told) _ c.requires)
