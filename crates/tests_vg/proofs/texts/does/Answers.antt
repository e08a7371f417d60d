use Rattle.std.proofs.Common.{◌≤◌, ◌^◌, length, refl, sym, ap, subst, ◌∙◌, arith}
use Rattle.vg_meta.specs.Roomy.{table_alone}
use Rattle.vg_meta.specs.Changes.{Permits, applied}
use Rattle.vg_meta.specs.Tables.{VolumeTable}
use Rattle.vg_meta.specs.Text.{text, HasText}
use Rattle.vg_meta.proofs.ChangeLaws.{IsTable-applied}
use Rattle.vg_meta.proofs.CommitLaws.{HasText-few, Permits-wider}
use Rattle.tests_vg.proofs.texts.does.Goals as goal

pub foretold-requires-clause-numbers : goal.foretold-requires-clause-numbers
foretold-requires-clause-numbers g c =
    let t = table_alone c.args.table.now in
    let allowed : Permits 8 t c.args.change = c.if-not-allows.ensures.allowed.0 refl in
    let short : length (text (applied t c.args.change)) ≤ 4096 = c.if-not-fits.ensures.fits.0 refl in
    HasText-few 8 (applied t c.args.change) (IsTable-applied 8 t c.args.change c.requires allowed) (omega arith) (omega (arith, short))

pub apply-requires-clause-allowed : goal.apply-requires-clause-allowed
apply-requires-clause-allowed g c =
    let t = table_alone c.args.table.now in
    let allowed : Permits 8 t c.args.change = c.if-not-allows.ensures.allowed.0 refl in
    let P : VolumeTable → Type 0 = λ u. Permits (2 ^ 32) u c.args.change in
    subst P (sym c.make_room.ensures.table) (Permits-wider 8 (2 ^ 32) t c.args.change (omega arith) allowed)

pub written-requires : goal.written-requires
written-requires g c =
    let t = table_alone c.args.table.now in
    let allowed : Permits 8 t c.args.change = c.if-not-allows.ensures.allowed.0 refl in
    let short : length (text (applied t c.args.change)) ≤ 4096 = c.if-not-fits.ensures.fits.0 refl in
    let fits : HasText (applied t c.args.change) = HasText-few 8 (applied t c.args.change) (IsTable-applied 8 t c.args.change c.requires allowed) (omega arith) (omega (arith, short)) in
    subst HasText (sym (c.apply.ensures.table ∙ ap (λ (u : VolumeTable). applied u c.args.change) c.make_room.ensures.table)) fits
