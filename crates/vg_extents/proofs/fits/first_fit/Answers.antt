use Rattle.std.proofs.Common.{List, ℕ, length, subst}
use Rattle.std.proofs.lemmas.Result.{IfOk-weaker, IfErr-weaker}
use Rattle.vg_meta.specs.Tables.{free}
use Rattle.vg_meta.specs.Roomy.{table_alone}
use Rattle.vg_extents.specs.Fits.{IsShortOf}
use Rattle.vg_extents.proofs.CountLaws.{short_of, least_free, least_taken, AreFree-least}
use Rattle.vg_extents.proofs.fits.first_fit.Goals as goal

pub returns-in-Ok-clause-fit : goal.returns-in-Ok-clause-fit
returns-in-Ok-clause-fit c =
    least_free c.args.extents c.args.need (table_alone c.args.table.now) c.in-Ok.ensures c.first.result c.first.ensures.least c.first.ensures.many

pub returns-in-Ok-clause-free : goal.returns-in-Ok-clause-free
returns-in-Ok-clause-free c =
    let t = table_alone c.args.table.now in
    IfOk-weaker c.first.result _ _
    (λ found is. AreFree-least c.args.extents c.args.need t found.items (least_taken c.args.extents c.args.need t c.in-Ok.ensures is)) c.first.ensures.least

pub returns-in-Ok-clause-short : goal.returns-in-Ok-clause-short
returns-in-Ok-clause-short c =
    let t = table_alone c.args.table.now in
    IfErr-weaker c.first.result _ _ (λ e short. short_of c.args.need (free c.args.extents t) e (subst (λ (l : List ℕ). IsShortOf c.args.need (length l) e) c.in-Ok.ensures short)) c.first.ensures.short
