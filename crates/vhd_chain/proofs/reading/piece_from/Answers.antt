use Rattle.std.proofs.Common.{◌≡◌, ℕ, ◌+◌, ◌-◌, ◌<◌, Some, sym, ap, subst, ◌∙◌, arith}
use Rattle.std.proofs.lemmas.Bool.{OnTrue_at}
use Rattle.sm_machine.specs.Shapes.{chain_limit}
use Rattle.vg_volumes.specs.Sites.{Site}
use Rattle.vg_volumes.specs.Stored.{stored}
use Rattle.vg_volumes.proofs.StoredLaws.{reads_then}
use Rattle.vhd_image.specs.declared.images.Body.{Body}
use Rattle.vhd_image.specs.Bodies.{ImageStands, ImageIsTrue, sector_count}
use Rattle.vhd_image.specs.Runs.{AreInRow}
use Rattle.vhd_image.proofs.ReadLaws.{stands-still, true-still}
use Rattle.vhd_chain.specs.Reading.{chain_reads}
use Rattle.vhd_chain.proofs.PieceLaws.{zeros-piece, alike-still}
use Rattle.vhd_chain.proofs.ReadingLaws.{reaching_is, zeros_none, walk_ends, turn_held, turn_top, turn_up}
use Rattle.vhd_chain.proofs.reading.piece_from.Goals as goal

pub returns-in_default-clause-piece : goal.returns-in_default-clause-piece
returns-in_default-clause-piece g c = λ told.
    let x = stored g.S.Store c.args.store.now in
    zeros-piece x (chain_reads x c.args.rows.now c.args.leaf.now) c.args.sector c.zeros.result.sectors _ c.zeros.ensures.image
    (λ k below. c.loop.invariant.same told k (omega (arith, below, c.zeros.ensures.sectors))
    ∙ zeros_none x c.args.rows.now (chain_limit - c.loop.counter) c.loop.next c.args.sector (c.args.sector + k) c.in_default.ensures (omega arith))

pub run-requires-clause-stands : goal.run-requires-clause-stands
run-requires-clause-stands g c =
    let x = stored g.S.Store c.args.store.now in
    let it = reaching_is c.args.rows.now c.loop.next c.args.sector c.in-Some.image.now c.in-Some.ensures in
    stands-still c.loop.invariant.reads_only c.in-Some.image.now (subst (λ (b : Body). ImageStands x b) it.image (c.requires.stand it.row it.among))

pub run-requires-clause-true_now : goal.run-requires-clause-true_now
run-requires-clause-true_now g c = λ told.
    let x = stored g.S.Store c.args.store.now in
    let it = reaching_is c.args.rows.now c.loop.next c.args.sector c.in-Some.image.now c.in-Some.ensures in
    true-still c.loop.invariant.reads_only c.in-Some.image.now told (subst (λ (b : Body). ImageIsTrue x b) it.image (c.requires.true_now told it.row it.among))

pub returns-in_err-run-clause-reads_only : goal.returns-in_err-run-clause-reads_only
returns-in_err-run-clause-reads_only g c = reads_then c.loop.invariant.reads_only c.run.ensures.reads_only

pub returns-then-run-clause-reads_only : goal.returns-then-run-clause-reads_only
returns-then-run-clause-reads_only g c = reads_then c.loop.invariant.reads_only c.run.ensures.reads_only

pub returns-then-run-clause-holds : goal.returns-then-run-clause-holds
returns-then-run-clause-holds g c =
    let x = stored g.S.Store c.args.store.now in
    let it = reaching_is c.args.rows.now c.loop.next c.args.sector c.in-Some.image.now c.in-Some.ensures in
    let image = c.in-Some.image.now in
    let run = c.in_ok-run.run' in
    record {
      stands = subst (λ (b : Body). ImageStands x b) it.image (c.requires.stand it.row it.among);
      true_now = λ told. subst (λ (b : Body). ImageIsTrue x b) it.image (c.requires.true_now told it.row it.among);
      within = omega (arith, it.past, c.within.ensures, c.in_ok-run.ensures.some.1);
      in_row = subst (λ (s : Site). AreInRow s.geometry.block c.args.sector run.sectors image) c.loop.invariant.reads_only.stays.site (OnTrue_at c.if-run.true c.in_ok-run.ensures.in_row);
      held = λ told k below. alike-still c.loop.invariant.reads_only told image c.args.sector run.sectors run.held (c.in_ok-run.ensures.run told).alike k below ∙ c.if-run.true;
    }

pub returns-then-run-clause-piece : goal.returns-then-run-clause-piece
returns-then-run-clause-piece g c = λ told k below.
    let x = stored g.S.Store c.args.store.now in
    let it = reaching_is c.args.rows.now c.loop.next c.args.sector c.in-Some.image.now c.in-Some.ensures in
    let image = c.in-Some.image.now in
    let run = c.in_ok-run.run' in
    let inside : c.args.sector + k < sector_count image = omega (arith, it.past, c.within.ensures, c.in_ok-run.ensures.some.1) in
    let held = alike-still c.loop.invariant.reads_only told image c.args.sector run.sectors run.held (c.in_ok-run.ensures.run told).alike k below ∙ c.if-run.true in
    let few : k < c.loop.sectors = omega (arith, c.within.ensures, c.in_ok-run.ensures.some.1) in
    turn_held x c.args.rows.now c.loop.counter c.loop-test.true c.loop.next c.args.sector (c.args.sector + k) image c.in-Some.ensures inside held
    ∙ ap Some (sym (c.loop.invariant.same told k few))

pub returns-in_default-parent-clause-reads_only : goal.returns-in_default-parent-clause-reads_only
returns-in_default-parent-clause-reads_only g c = reads_then c.loop.invariant.reads_only c.run.ensures.reads_only

pub returns-in_default-parent-clause-piece : goal.returns-in_default-parent-clause-piece
returns-in_default-parent-clause-piece g c = λ told.
    let x = stored g.S.Store c.args.store.now in
    let it = reaching_is c.args.rows.now c.loop.next c.args.sector c.in-Some.image.now c.in-Some.ensures in
    let image = c.in-Some.image.now in
    let run = c.in_ok-run.run' in
    let inside : (k : ℕ) → k < run.sectors → c.args.sector + k < sector_count image = λ k below. omega (arith, it.past, c.within.ensures, c.in_ok-run.ensures.some.1) in
    let few : (k : ℕ) → k < run.sectors → k < c.loop.sectors = λ k below. omega (arith, c.within.ensures, c.in_ok-run.ensures.some.1) in
    let short : (k : ℕ) → k < c.zeros-in_default-parent.result.sectors → k < run.sectors = λ k below. omega (arith, c.zeros-in_default-parent.ensures.sectors) in
    zeros-piece x (chain_reads x c.args.rows.now c.args.leaf.now) c.args.sector c.zeros-in_default-parent.result.sectors _ c.zeros-in_default-parent.ensures.image
    (λ k below. c.loop.invariant.same told k (few k (short k below))
    ∙ turn_top x c.args.rows.now c.loop.counter c.loop-test.true c.loop.next c.args.sector (c.args.sector + k) image c.in-Some.ensures (inside k (short k below))
    (alike-still c.loop.invariant.reads_only told image c.args.sector run.sectors run.held (c.in_ok-run.ensures.run told).alike k (short k below) ∙ c.if-run.false) c.in_default-parent.ensures)

pub loop-preserved : goal.loop-preserved
loop-preserved g c =
    let x = stored g.S.Store c.args.store.now in
    let it = reaching_is c.args.rows.now c.loop.next c.args.sector c.in-Some.image.now c.in-Some.ensures in
    let image = c.in-Some.image.now in
    let run = c.in_ok-run.run' in
    let inside : (k : ℕ) → k < run.sectors → c.args.sector + k < sector_count image = λ k below. omega (arith, it.past, c.within.ensures, c.in_ok-run.ensures.some.1) in
    let few : (k : ℕ) → k < run.sectors → k < c.loop.sectors = λ k below. omega (arith, c.within.ensures, c.in_ok-run.ensures.some.1) in
    record {
      reads_only = reads_then c.loop.invariant.reads_only c.run.ensures.reads_only;
      calm = c.in_ok-run.ensures.cause.1 ∙ c.loop.invariant.calm;
      some = c.in_ok-run.ensures.some.0;
      fits = omega (arith, c.within.ensures, c.in_ok-run.ensures.some.1, c.loop.invariant.fits);
      same = λ told k below. c.loop.invariant.same told k (few k below)
          ∙ turn_up x c.args.rows.now c.loop.counter c.loop-test.true c.loop.next c.args.sector (c.args.sector + k) image c.in-Some.ensures (inside k below)
          c.in-Some-parent.parent (alike-still c.loop.invariant.reads_only told image c.args.sector run.sectors run.held (c.in_ok-run.ensures.run told).alike k below ∙ c.if-run.false) c.in-Some-parent.ensures;
    }

pub returns-clause-piece : goal.returns-clause-piece
returns-clause-piece g c = λ told.
    let x = stored g.S.Store c.args.store.now in
    let done : chain_limit - c.loop.counter ≡ 0 = omega arith in
    zeros-piece x (chain_reads x c.args.rows.now c.args.leaf.now) c.args.sector c.zeros-2.result.sectors _ c.zeros-2.ensures.image
    (λ k below. c.loop.invariant.same told k (omega (arith, below, c.zeros-2.ensures.sectors)) ∙ walk_ends x c.args.rows.now (chain_limit - c.loop.counter) done c.loop.next (c.args.sector + k))
