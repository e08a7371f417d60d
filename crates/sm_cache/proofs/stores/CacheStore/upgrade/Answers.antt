use Rattle.vg_meta.specs.Roomy.{table_alone}
use Rattle.sm_cache.proofs.TrueLaws.{reads_kept, true_same}
use Rattle.sm_cache.proofs.stores.CacheStore.upgrade.Goals as goal

pub invariant_of-self : goal.invariant_of-self
invariant_of-self g c =
    let s = c.args.self.now.inner in
    let e = c.upgrade.ensures in
    record {
      true_entries = λ told. true_same e.site e.table (reads_kept (g.S.Store.site s) (table_alone (g.S.Store.table s)) (e.keeps told)) (λ x there. there) (c.args.self.now.true_entries told);
    }
