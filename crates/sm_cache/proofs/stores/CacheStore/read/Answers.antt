use Rattle.std.proofs.Common.{◌≡◌, length, Result, Ok, Err, OnOk, is_ok, true, subst, rules, sym, ◌∙◌}
use Rattle.std.proofs.lemmas.Bool.{false≢true}
use Rattle.common_laws.specs.Lists.{In}
use Rattle.sm_disk.proofs.HeldLaws.{Keeps-same}
use Rattle.vg_meta.specs.Roomy.{table_alone}
use Rattle.vg_volumes.specs.Sites.{volume_of}
use Rattle.sm_cache.specs.Kept.{AreTrue, Kept, spot_of}
use Rattle.sm_cache.proofs.TrueLaws.{gave_one, one_gave, reads_kept, true_entered, true_found, true_front, true_same}
use Rattle.sm_cache.proofs.stores.CacheStore.read.Goals as goal

at_ok : {T E P : Type 0} (r : Result T E) → is_ok r ≡ true → OnOk r P → P
at_ok (Ok x) h p = p
at_ok (Err e) h p = absurd (false≢true h)

pub invariant_of-self : goal.invariant_of-self
invariant_of-self g c =
    let e = c.read.ensures in
    let s = c.args.self.now.inner in
    record {
      true_entries = λ told. true_same e.site e.table.0 (reads_kept (g.S.Store.site s) (table_alone (g.S.Store.table s)) (Keeps-same (e.same told))) (λ x there. there)
          (c.args.self.now.true_entries told);
    }

pub invariant_of-self-then-recall : goal.invariant_of-self-then-recall
invariant_of-self-then-recall g c =
    let found = c.recall.ensures.found c.if-recall.true in
    let s = c.args.self.now.inner in
    let here = spot_of c.args.volume.now c.args.at in
    record {
      true_entries = λ told.
          let was = c.args.self.now.true_entries told in
          subst (λ (k : Kept). AreTrue (g.S.Store.site s) (table_alone (g.S.Store.table s)) (g.S.Store.area s) k.entries) (sym found.1)
          (true_front c.args.self.now.kept c.args.volume.now c.args.at c.recall.new.to (true_found c.args.self.now.kept.entries here c.recall.new.to was found.0.there) was);
    }

pub returns-then-recall-clause-gave : goal.returns-then-recall-clause-gave
returns-then-recall-clause-gave g c = λ told.
    let found = c.recall.ensures.found c.if-recall.true in
    let s = c.args.self.now.inner in
    one_gave (volume_of (g.S.Store.site s) (table_alone (g.S.Store.table s)) (g.S.Store.area s) c.args.volume.now) c.args.at c.recall.new.to c.recall.ensures.long
    (true_found c.args.self.now.kept.entries (spot_of c.args.volume.now c.args.at) c.recall.new.to (c.args.self.now.true_entries told) found.0.there)

pub invariant_of-self-else-is_ok : goal.invariant_of-self-else-is_ok
invariant_of-self-else-is_ok g c =
    let e = c.read-done.ensures in
    let s = c.args.self.now.inner in
    let same = (c.recall.ensures.none c.if-recall.false).1 in
    record {
      true_entries = λ told. true_same e.site e.table.0 (reads_kept (g.S.Store.site s) (table_alone (g.S.Store.table s)) (Keeps-same (e.same told)))
          (λ x there. subst (λ (k : Kept). In x k.entries) same there) (c.args.self.now.true_entries told);
    }

pub invariant_of-self-then-is_ok : goal.invariant_of-self-then-is_ok
invariant_of-self-then-is_ok g c =
    let e = c.read-done.ensures in
    let s = c.args.self.now.inner in
    let site = g.S.Store.site s in
    let t = table_alone (g.S.Store.table s) in
    let same = (c.recall.ensures.none c.if-recall.false).1 in
    record {
      true_entries = λ told.
          let long : length c.read-done.new.to ≡ 512 = search rules in
          let gave = gave_one (volume_of site t (g.S.Store.area s) c.args.volume.now) c.args.at c.read-done.new.to long (at_ok c.read-done.result (sym c.is_ok.ensures.value ∙ c.if-is_ok.true) e.gave told) in
          let was = subst (λ (k : Kept). AreTrue site t (g.S.Store.area s) k.entries) (sym same) (c.args.self.now.true_entries told) in
          true_same e.site e.table.0 (reads_kept site t (Keeps-same (e.same told))) (λ x there. there)
          (true_entered c.recall.new.kept c.remember.new.kept c.args.volume.now c.args.at c.read-done.new.to gave c.remember.ensures was);
    }
