use Rattle.std.proofs.Common.{◌≡◌, None, Option, length, sym, ap, subst, ◌∙◌, arith, rules}
use Rattle.std.specs.Option.{option_copied}
use Rattle.sm_disk.specs.Sectors.{sector}
use Rattle.vg_volumes.specs.Stored.{stored}
use Rattle.vhd_image.specs.declared.images.Body.{Body}
use Rattle.vhd_chain.specs.Pieces.{AreFilled}
use Rattle.vhd_chain.proofs.PieceLaws.{sector-zeros}
use Rattle.vhd_chain.proofs.reading.fill.Goals as goal

pub returns-in-None-clause-filled : goal.returns-in-None-clause-filled
returns-in-None-clause-filled g c = λ told.
    let none : None ≡ option_copied c.args.image = ap option_copied (sym c.in-None.is) in
    let long : length c.fill.new.self ≡ length c.args.to.now = search rules in
    subst (λ (o : Option Body). AreFilled (stored g.S.Store c.args.store.now) o c.args.sector c.fill.new.self) none
    (λ k below. ap (λ b. sector b k) (c.fill.ensures.after (λ y same. same)) ∙ sector-zeros (length c.args.to.now) k (omega (arith, below, long, c.requires.whole.1)))
