use Rattle.std.proofs.Common.{refl, arith}
use Rattle.vg_meta.specs.Roomy.{table_alone}
use Rattle.sm_cache.proofs.TrueLaws.{size_small, true_after, true_same}
use Rattle.sm_cache.proofs.stores.CacheStore.write.Goals as goal

pub invariant_of-self : goal.invariant_of-self
invariant_of-self g c =
    let e = c.write-done.ensures in
    let f = c.after_write.ensures in
    let s = c.args.self.now.inner in
    record {
      true_entries = λ told. true_same e.site e.table.0 (λ k. refl) (λ x there. there)
          (true_after told c.write-done.result (g.S.Store.site s) (table_alone (g.S.Store.table s)) (g.S.Store.area s) (g.S.Store.area c.write-done.new.self) c.args.self.now.kept c.after_write.new.kept
          c.args.volume.now c.args.at c.args.from.now c.requires.whole c.table-table.ensures.spread (e.torn told) e.wrote (e.elsewhere told)
          f.renewed f.none f.longer f.bad (c.args.self.now.true_entries told));
    }

pub after_write-requires : goal.after_write-requires
after_write-requires g c =
    let s = c.args.self.now.inner in
    let small = size_small (g.S.Store.site s) (table_alone (g.S.Store.table s)) c.args.volume.now c.table-table.ensures.spread c.extents-extents.ensures.few in
    omega (arith, small, c.requires.within)
