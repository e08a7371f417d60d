use Rattle.std.proofs.Common.{◌≡◌, ◌+◌, ◌*◌, false, ap, refl, sym, ◌∙◌, subst, rules, arith}
use Rattle.sm_base.specs.declared.sizes.Geometry.{Geometry}
use Rattle.vg_volumes.specs.Sites.{Site}
use Rattle.vg_volumes.specs.Stored.{Stored, stored}
use Rattle.vg_volumes.proofs.StoredLaws.{reads_none, reads_then}
use Rattle.vhd_map.specs.Bitmaps.{is_set}
use Rattle.vhd_write.proofs.BitLaws.{is_set-zeros}
use Rattle.vhd_image.proofs.ReadLaws.{same-stored, true-still}
use Rattle.vhd_chain.specs.Reading.{own_read}
use Rattle.gc_coalesce.specs.Blocks.{AreGathered}
use Rattle.gc_coalesce.proofs.CopyBlockLaws.{gathered_nothing}
use Rattle.gc_coalesce.proofs.blocks.gather.Goals as goal

pub loop-part-init : goal.loop-part-init
loop-part-init g c = record {
  reads_only = reads_none c.args.store.now;
  steady = refl;
  long = refl;
  within = omega arith;
  gathered = λ told i none. absurd (omega (arith, none));
  clean = λ i low. is_set-zeros 512 i;
}

pub gather_run-requires-clause-true_now : goal.gather_run-requires-clause-true_now
gather_run-requires-clause-true_now g c = λ told. true-still c.loop-part.invariant.reads_only c.args.child.now told (c.requires.true_now told)

pub gather_run-requires-clause-before : goal.gather_run-requires-clause-before
gather_run-requires-clause-before g c = λ told.
    subst (λ (x : Stored). AreGathered (own_read x c.args.child.now) (c.args.block * x.site.geometry.block) c.loop-part.marks c.loop-part.bytes c.loop-part.part)
    (sym (same-stored c.loop-part.invariant.reads_only told)) (c.loop-part.invariant.gathered told)

pub returns-in_err-part-clause-reads_only : goal.returns-in_err-part-clause-reads_only
returns-in_err-part-clause-reads_only g c = reads_then c.loop-part.invariant.reads_only c.gather_run.ensures.reads_only

pub loop-part-preserved : goal.loop-part-preserved
loop-part-preserved g c =
    let i = c.loop-part.invariant in
    let e = c.in_ok-part.ensures in
    let wide = ap (λ (x : Geometry). x.block) c.geometry-wide.ensures in
    let later = ap (λ (x : Site). x.geometry.block) i.reads_only.stays.site in
    record {
      reads_only = reads_then i.reads_only c.gather_run.ensures.reads_only;
      steady = e.cause.1 ∙ i.steady;
      long = c.gather_run.auto.bytes ∙ i.long;
      within = omega (arith, e.inside.1, later, wide);
      gathered = λ told. subst (λ (x : Stored). AreGathered (own_read x c.args.child.now) (c.args.block * x.site.geometry.block) c.gather_run.new.marks c.gather_run.new.bytes (c.loop-part.part + c.in_ok-part.field-0))
          (same-stored i.reads_only told) (e.gathered told);
      clean = e.clean;
    }

pub returns-then-alike-wide-clause-none : goal.returns-then-alike-wide-clause-none
returns-then-alike-wide-clause-none g c = λ told.
    let i = c.loop-part.invariant in
    let wide = ap (λ (x : Geometry). x.block) c.geometry-wide.ensures in
    let off : is_set c.loop-part.marks 0 ≡ false = search rules in
    let all : c.alike.result ≡ c.geometry-wide.result.block = search rules in
    let ended : c.loop-part.part ≡ (g.S.Store.site c.args.store.now).geometry.block = omega (arith, i.within, c.loop-part-test.false, wide) in
    let base = c.args.block * (g.S.Store.site c.args.store.now).geometry.block in
    gathered_nothing (own_read (stored g.S.Store c.args.store.now) c.args.child.now) base (g.S.Store.site c.args.store.now).geometry.block c.loop-part.marks c.loop-part.bytes
    (subst (AreGathered (own_read (stored g.S.Store c.args.store.now) c.args.child.now) base c.loop-part.marks c.loop-part.bytes) ended (i.gathered told))
    (λ k below. ap (is_set c.loop-part.marks) (let e : k ≡ 0 + k = omega arith in e) ∙ (c.alike.ensures.alike k (omega (arith, below, all, wide)) ∙ off))
