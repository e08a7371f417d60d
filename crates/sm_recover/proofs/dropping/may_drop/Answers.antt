use Rattle.std.proofs.Common.{sym, ap, ◌∙◌, subst}
use Rattle.std.proofs.lemmas.Option.{none-some, same_Some}
use Rattle.vg_meta.specs.Roomy.{RoomyTable, table_alone}
use Rattle.vg_meta.specs.declared.changes.Change.TheVariants.{Remove}
use Rattle.vg_volumes.specs.Sites.{Fits}
use Rattle.sm_standing.specs.Dropped.{first_useless}
use Rattle.sm_recover.proofs.DropLaws.{may_all}
use Rattle.sm_recover.proofs.dropping.may_drop.Goals as goal

pub returns-in-Some : goal.returns-in-Some
returns-in-Some g c = λ ready.
    let count = (g.S.Store.site c.args.store.now).count in
    let t = table_alone (g.S.Store.table c.args.store.now) in
    let first = sym (c.first_useless.ensures ∙ ap (λ (k : RoomyTable). first_useless (table_alone k)) c.table.ensures.table) ∙ c.in-Some.is in
    may_all count t c.table.ensures.spread (λ n found. subst (λ m. Fits count t (Remove m)) (same_Some c.in-Some.name n (sym first ∙ found)) (c.is_ready.ensures.ready.0 ready).2)

pub returns-in-None : goal.returns-in-None
returns-in-None g c = λ ready.
    let first = sym (c.first_useless.ensures ∙ ap (λ (k : RoomyTable). first_useless (table_alone k)) c.table.ensures.table) ∙ c.in-None.is in
    may_all (g.S.Store.site c.args.store.now).count (table_alone (g.S.Store.table c.args.store.now)) c.table.ensures.spread (λ n found. absurd (none-some n (sym first ∙ found)))
