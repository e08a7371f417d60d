use Rattle.std.proofs.Common.{subst}
use Rattle.vg_meta.specs.Roomy.{table_alone}
use Rattle.sm_checks.proofs.OpeningLaws.{TablesSay, tables_say, checked_from, none_only}
use Rattle.sm_recover.proofs.opening.first_by_table.Goals as goal

pub returns-clause-says : goal.returns-clause-says
returns-clause-says g c =
    tables_say (g.S.Store.site c.args.store.now) c.geometry-geometry.result c.table.result.now (g.S.Store.table c.args.store.now) c.table_fault.result c.table.ensures.table c.geometry-geometry.ensures c.table_fault.ensures

pub returns-clause-checked : goal.returns-clause-checked
returns-clause-checked g c =
    let s = g.S.Store.site c.args.store.now in
    let t = table_alone (g.S.Store.table c.args.store.now) in
    none_only c.table_fault.result (λ none. checked_from s t c.table.ensures.spread c.extents-extents.ensures.few (subst (TablesSay s t) none (returns-clause-says g c)))
