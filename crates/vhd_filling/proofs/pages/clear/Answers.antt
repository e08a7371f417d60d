use Rattle.std.proofs.Common.{◌≡◌, ◌-◌, length, rules}
use Rattle.vhd_filling.proofs.PageLaws.{sector-put_mid_first, sector-cleared}
use Rattle.vhd_filling.proofs.pages.clear.Goals as goal

pub returns-clause-bitmap : goal.returns-clause-bitmap
returns-clause-bitmap c = sector-put_mid_first c.args.page.now _ _ c.requires

pub returns-clause-blank : goal.returns-clause-blank
returns-clause-blank c = λ i some within.
    let filled = c.fill.ensures.after (λ y h. h) in
    let wide : length c.fill.new.self ≡ length c.args.page.now - 512 = search rules in
    sector-cleared c.args.page.now c.fill.new.self _ _ i filled (search rules) wide c.requires some within
