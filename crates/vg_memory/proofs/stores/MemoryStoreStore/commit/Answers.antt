use Rattle.std.proofs.Common.{◌^◌, rules, sym, subst, arith}
use Rattle.vg_meta.specs.Tables.{VolumeTable, IsTable}
use Rattle.vg_meta.specs.Roomy.{table_alone}
use Rattle.vg_meta.specs.Changes.{Permits}
use Rattle.vg_meta.proofs.ByName.{Permits-wider}
use Rattle.vg_meta.proofs.ChangeLaws.{IsTable-applied}
use Rattle.vg_memory.proofs.StoreLaws.{leaves_undecided, kept_table}
use Rattle.vg_memory.proofs.stores.MemoryStoreStore.commit.Goals as goal

pub returns-in_default-call-clause-crash : goal.returns-in_default-call-clause-crash
returns-in_default-call-clause-crash c =
    leaves_undecided c.args.self.now _ c.args.change (search rules) (search rules) (search rules) (search rules) (search rules)

pub apply-requires-clause-allowed : goal.apply-requires-clause-allowed
apply-requires-clause-allowed c =
    let s = c.self-2.inside in
    let allowed : Permits s.extents (table_alone s.table) c.args.change = search rules in
    Permits-wider s.extents (2 ^ 32) (table_alone s.table) c.args.change (omega (arith, c.self-2.invariant.few)) allowed

pub invariant_of-self-2 : goal.invariant_of-self-2
invariant_of-self-2 c =
    let s = c.self-2.inside in
    let allowed : Permits s.extents (table_alone s.table) c.args.change = search rules in
    let spread = IsTable-applied s.extents (table_alone s.table) c.args.change c.self-2.invariant.spread allowed in
    kept_table c.self-2.invariant (subst (λ (t : VolumeTable). IsTable s.extents t) (sym c.apply.ensures.table) spread)
