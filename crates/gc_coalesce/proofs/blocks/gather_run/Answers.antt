use Rattle.std.proofs.Common.{◌≡◌, ℕ, ◌+◌, ◌*◌, ◌<◌, ◌≤◌, None, length, ap, ◌∙◌, subst, arith}
use Rattle.sm_base.specs.declared.sizes.Geometry.{Geometry}
use Rattle.vg_volumes.specs.Stored.{Stored, stored}
use Rattle.vg_volumes.proofs.StoredLaws.{reads_then}
use Rattle.vhd_chain.specs.Reading.{own_read}
use Rattle.vhd_chain.proofs.PieceLaws.{piece-long}
use Rattle.vhd_image.specs.Runs.{HoldsBytes}
use Rattle.vhd_image.proofs.ReadLaws.{same-stored, true-still}
use Rattle.gc_coalesce.proofs.CopyBlockLaws.{gathered_none, gathered_run, held_read, run_empty, unmarked_then}
use Rattle.gc_coalesce.proofs.blocks.gather_run.Goals as goal

pub read_held-requires-clause-true_now : goal.read_held-requires-clause-true_now
read_held-requires-clause-true_now g c = λ told. true-still c.run.ensures.reads_only c.args.child.now told (c.requires.true_now told)

pub read_held-requires-clause-held : goal.read_held-requires-clause-held
read_held-requires-clause-held g c = λ told k below.
    let some = c.in_ok-run.ensures.some in
    let wide = ap (λ (x : Geometry). x.block) c.geometry-wide.ensures in
    let long = piece-long c.args.bytes.now c.args.part c.in_ok-run.run'.sectors (omega (arith, some.1, wide, c.requires.inside, c.requires.long)) in
    held_read g.S.Store c.args.child.now _ _ c.in_ok-run.run' c.run.ensures.reads_only (c.in_ok-run.ensures.run told) c.if-run.true told k (omega (arith, below, long))

pub returns-in_err-read_held-clause-reads_only : goal.returns-in_err-read_held-clause-reads_only
returns-in_err-read_held-clause-reads_only g c = reads_then c.run.ensures.reads_only c.read_held.ensures.reads_only

pub returns-in_ok-read_held-clause-reads_only : goal.returns-in_ok-read_held-clause-reads_only
returns-in_ok-read_held-clause-reads_only g c = reads_then c.run.ensures.reads_only c.read_held.ensures.reads_only

pub returns-in_ok-read_held-clause-clean : goal.returns-in_ok-read_held-clause-clean
returns-in_ok-read_held-clause-clean g c =
    unmarked_then c.args.part c.in_ok-run.run'.sectors c.args.marks.now c.mark.new.bitmap c.requires.clean c.mark.ensures.others

pub returns-in_ok-read_held-clause-gathered : goal.returns-in_ok-read_held-clause-gathered
returns-in_ok-read_held-clause-gathered g c = λ told.
    let some = c.in_ok-run.ensures.some in
    let wide = ap (λ (x : Geometry). x.block) c.geometry-wide.ensures in
    let own = own_read (stored g.S.Store c.args.store.now) c.args.child.now in
    let base = c.args.block * (g.S.Store.site c.args.store.now).geometry.block in
    let fits : 512 * (c.args.part + c.in_ok-run.run'.sectors) ≤ length c.args.bytes.now = omega (arith, some.1, wide, c.requires.inside, c.requires.long) in
    let long = c.read_held.auto.to ∙ piece-long c.args.bytes.now c.args.part c.in_ok-run.run'.sectors fits in
    let holds = subst (λ (x : Stored). HoldsBytes (own_read x c.args.child.now) (c.args.block * c.geometry-wide.result.block + c.args.part) c.read_held.new.to) (same-stored c.run.ensures.reads_only told) (c.in_ok-read_held.ensures.gave told) in
    let there = subst (λ w. HoldsBytes own (c.args.block * w + c.args.part) c.read_held.new.to) wide holds in
    gathered_run own base c.args.part c.in_ok-run.run'.sectors c.args.marks.now c.args.bytes.now (c.requires.before told) c.mark.new.bitmap c.mark.ensures.set c.mark.ensures.others c.read_held.new.to long fits there

pub returns-else-run-clause-gathered : goal.returns-else-run-clause-gathered
returns-else-run-clause-gathered g c = λ told.
    let wide = ap (λ (x : Geometry). x.block) c.geometry-wide.ensures in
    let none = run_empty _ _ _ c.in_ok-run.run' (c.in_ok-run.ensures.run told) c.if-run.false in
    gathered_none (own_read (stored g.S.Store c.args.store.now) c.args.child.now) (c.args.block * (g.S.Store.site c.args.store.now).geometry.block) c.args.part c.in_ok-run.run'.sectors c.args.marks.now c.args.bytes.now
    (c.requires.before told) c.requires.clean
    (subst (λ w. (k : ℕ) → c.args.block * w + c.args.part ≤ k → k < c.args.block * w + c.args.part + c.in_ok-run.run'.sectors → own_read (stored g.S.Store c.args.store.now) c.args.child.now k ≡ None) wide none)
