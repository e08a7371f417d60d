use Rattle.std.proofs.Common.{◌≡◌, ℕ, ◌+◌, ◌*◌, List, drop, refl, sym, ap, ◌∙◌, arith}
use Rattle.std.specs.List.{concat, flat_map, range_with_len}
use Rattle.vg_volumes.specs.Sites.{Site}
use Rattle.vg_volumes.specs.Stored.{Stored, stored}
use Rattle.vg_volumes.proofs.StoredLaws.{reads_none, reads_then}
use Rattle.vhd_image.proofs.ReadLaws.{same-stored}
use Rattle.vhd_chain.proofs.PieceLaws.{all-stand-still, all-true-still}
use Rattle.vhd_stream.specs.Exports.{full_bitmap, piece}
use Rattle.vhd_stream.specs.Known.{blocks_read}
use Rattle.vhd_stream.proofs.RangeLaws.{flat-at, flat-more}
use Rattle.vhd_stream.proofs.SendLaws.{Sends-after, Sends-as, Sends-cut, Sends-none, Sends-same}
use Rattle.vhd_stream.proofs.exporting.send_blocks.Goals as goal

pub loop-b-init : goal.loop-b-init
loop-b-init g c = (reads_none c.args.store.now, refl, Sends-none tt _ _ _)

pub send_block-requires-clause-stand : goal.send_block-requires-clause-stand
send_block-requires-clause-stand g c = all-stand-still c.loop-b.invariant.0 c.args.tree.now.rows c.requires.stand

pub send_block-requires-clause-true_now : goal.send_block-requires-clause-true_now
send_block-requires-clause-true_now g c = all-true-still c.loop-b.invariant.0 c.args.tree.now.rows c.requires.true_now

pub send_block-requires-clause-long : goal.send_block-requires-clause-long
send_block-requires-clause-long g c = c.loop-b.auto.page ∙ c.requires.long ∙ ap (λ (s : Site). 512 + 512 * s.geometry.block) (sym c.loop-b.invariant.0.stays.site)

pub send_block-requires-clause-bitmap : goal.send_block-requires-clause-bitmap
send_block-requires-clause-bitmap g c = c.loop-b.invariant.1 ∙ c.requires.bitmap ∙ ap (λ (s : Site). full_bitmap s.geometry.block) (sym c.loop-b.invariant.0.stays.site)

pub loop-b-preserved : goal.loop-b-preserved
loop-b-preserved g c =
    let x : Stored = stored g.S.Store c.args.store.now in
    let f : ℕ → List ℕ = λ b. concat (piece (blocks_read x c.args.tree.now.rows c.args.name.now c.args.count) b) in
    let b = c.loop-b.b in
    let so_far = c.loop-b.invariant in
    let e = c.in-Ok.ensures in (
      reads_then so_far.0 e.reads,
      e.bitmap ∙ so_far.1,
      Sends-same _ _ _ (flat-more f 0 b b (b + 1) (omega arith) refl)
          (Sends-after (flat_map f (range_with_len 0 b)) (f b) _ _ _ _ (λ t. so_far.2.adds t) so_far.2.cause.0 so_far.2.cause.1
          (Sends-as _ (f b) _ (λ told. ap (λ (y : Stored). concat (piece (blocks_read y c.args.tree.now.rows c.args.name.now c.args.count) b)) (same-stored so_far.0 told)) e.sends)),
    )

pub returns-in-Err-clause-reads : goal.returns-in-Err-clause-reads
returns-in-Err-clause-reads g c = reads_then c.loop-b.invariant.0 c.in-Err.ensures.reads

pub returns-in-Err-clause-sends : goal.returns-in-Err-clause-sends
returns-in-Err-clause-sends g c =
    let x : Stored = stored g.S.Store c.args.store.now in
    let f : ℕ → List ℕ = λ b. concat (piece (blocks_read x c.args.tree.now.rows c.args.name.now c.args.count) b) in
    let b = c.loop-b.b in
    let so_far = c.loop-b.invariant in
    let rest : List ℕ = flat_map f (drop (b + 1) (range_with_len 0 c.args.count)) in
    Sends-same _ _ _ (flat-at f c.args.count b c.loop-b-test.true)
    (Sends-after (flat_map f (range_with_len 0 b)) _ _ _ _ _ (λ t. so_far.2.adds t) so_far.2.cause.0 so_far.2.cause.1
    (Sends-cut (f b) rest _
    (Sends-as _ (f b) _ (λ told. ap (λ (y : Stored). concat (piece (blocks_read y c.args.tree.now.rows c.args.name.now c.args.count) b)) (same-stored so_far.0 told)) c.in-Err.ensures.sends)))

pub returns-clause-sends : goal.returns-clause-sends
returns-clause-sends g c =
    let x : Stored = stored g.S.Store c.args.store.now in
    let f : ℕ → List ℕ = λ b. concat (piece (blocks_read x c.args.tree.now.rows c.args.name.now c.args.count) b) in
    let end : c.loop-b.b ≡ c.args.count = omega arith in
    Sends-same _ _ _ (ap (λ n. flat_map f (range_with_len 0 n)) end) c.loop-b.invariant.2
