use Rattle.std.proofs.Common.{◌≡◌, ◌*◌, length, refl, ◌∙◌, ap, ⊎_elim, arith, rules}
use Rattle.std.proofs.lemmas.Bool.{cases_lt}
use Rattle.sm_disk.proofs.SectorLaws.{sector-put_mid_same, sector-put_mid_below}
use Rattle.vhd_filling.proofs.PageLaws.{sector-put_mid_above}
use Rattle.vhd_filling.proofs.pages.put_sector.Goals as goal

pub returns-clause-here : goal.returns-clause-here
returns-clause-here c =
    let copied = c.copy_from_slice.ensures.after in
    let whole : length c.args.bytes.now ≡ 512 = search rules in
    sector-put_mid_same c.args.page.now _ (512 * c.args.index) _ c.args.index refl c.requires (ap length copied ∙ whole) ∙ copied

pub returns-clause-others : goal.returns-clause-others
returns-clause-others c = λ i away.
    let copied = c.copy_from_slice.ensures.after in
    let whole : length c.args.bytes.now ≡ 512 = search rules in
    ⊎_elim
    (λ below. sector-put_mid_below c.args.page.now _ (512 * c.args.index) _ c.args.index i refl c.requires below)
    (λ above. sector-put_mid_above c.args.page.now _ (512 * c.args.index) _ c.args.index i refl (omega arith) c.requires (ap length copied ∙ whole) (omega (arith, above, away)))
    (cases_lt i c.args.index)
