use Rattle.std.proofs.Common.{Result, Ok, Err, OnOk, OnErr, refl, sym, ◌∙◌}
use Rattle.vg_meta.specs.Changes.{applied}
use Rattle.vg_meta.specs.Roomy.{table_alone}
use Rattle.sm_cache.proofs.LightLaws.{extents_stay, true_commit}
use Rattle.sm_cache.proofs.TrueLaws.{true_same}
use Rattle.sm_cache.proofs.stores.CacheStore.commit.Goals as goal

-- the table is one of the two
either : {T E A B C : Type 0} (r : Result T E) → OnOk r A → OnErr r B → (A → C) → (B → C) → C
either (Ok x) a b f h = f a
either (Err e) a b f h = h b

pub invariant_of-self-else-not-light : goal.invariant_of-self-else-not-light
invariant_of-self-else-not-light g c = record {
  true_entries = λ told.
      let e = c.commit-done.ensures in
      let s = c.args.self.now.inner in
      let site = g.S.Store.site s in
      let t = table_alone (g.S.Store.table s) in
      let a = g.S.Store.area s in
      let b = g.S.Store.area c.commit-done.new.self in
      let es = c.args.self.now.kept.entries in
      let was = c.args.self.now.true_entries told in
      let stay = extents_stay site.count t c.args.change c.table-table.ensures.spread c.requires.allowed (sym c.is_light-light.ensures ∙ c.if-not-light.false) in
      either c.commit-done.result e.changed e.unchanged
      (λ ok. true_same e.site ok.0 (λ k. refl) (λ x there. there) (true_commit site t (applied t c.args.change) a b es stay (e.keeps told) was))
      (λ bad. true_same e.site bad.0 (λ k. refl) (λ x there. there) (true_commit site t t a b es (λ m. refl) (e.keeps told) was));
}
