use Rattle.std.proofs.Common.{◌+◌, List, sym, ap, subst, ◌∙◌}
use Rattle.vg_volumes.specs.Stored.{Stored, stored}
use Rattle.vg_volumes.proofs.StoredLaws.{reads_then}
use Rattle.vhd_image.proofs.ReadLaws.{same-stored}
use Rattle.vhd_chain.specs.Reading.{chain_reads, AllStand, AllAreTrue}
use Rattle.vhd_chain.specs.declared.rows.TreeRow.{TreeRow}
use Rattle.vhd_chain.proofs.PieceLaws.{all-stand-still, all-true-still, read-more}
use Rattle.vhd_chain.proofs.trees.Tree.read.Goals as goal

pub read_on-requires-clause-stand : goal.read_on-requires-clause-stand
read_on-requires-clause-stand g c =
    let x = stored g.S.Store c.args.store.now in
    all-stand-still c.loop-done.invariant.0 c.rows-rows.result.now (subst (λ (rows : List TreeRow). AllStand x rows) (sym c.rows-rows.ensures.rows) c.requires.stand)

pub read_on-requires-clause-true_now : goal.read_on-requires-clause-true_now
read_on-requires-clause-true_now g c =
    let x = stored g.S.Store c.args.store.now in
    all-true-still c.loop-done.invariant.0 c.rows-rows.result.now (λ told. subst (λ (rows : List TreeRow). AllAreTrue x rows) (sym c.rows-rows.ensures.rows) (c.requires.true_now told))

pub returns-in_err-done-clause-reads_only : goal.returns-in_err-done-clause-reads_only
returns-in_err-done-clause-reads_only g c = reads_then c.loop-done.invariant.0 c.read_on.ensures.reads_only

pub loop-done-preserved : goal.loop-done-preserved
loop-done-preserved g c =
    let sides = c.loop-done.invariant in (
      reads_then sides.0 c.read_on.ensures.reads_only,
      c.in_ok-done.ensures.cause.1 ∙ sides.1,
      c.in_ok-done.ensures.more.1,
      λ told. read-more (chain_reads (stored g.S.Store c.args.store.now) c.rows-rows.result.now c.args.leaf.now) c.args.sector c.loop-done.done c.in_ok-done.done c.loop-done.to c.read_on.new.to
          (sides.3 told) c.read_on.ensures.front
          (λ k from below. c.in_ok-done.ensures.read told k from below ∙ ap (λ (x : Stored). chain_reads x c.rows-rows.result.now c.args.leaf.now (c.args.sector + k)) (same-stored sides.0 told)),
    )
