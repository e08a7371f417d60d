use Rattle.std.proofs.Common.{◌≡◌, ℕ, ◌+◌, ◌-◌, ◌*◌, List, length, take, drop, ap, ap₂, ◌∙◌, arith}
use Rattle.std.proofs.lemmas.List.{length-take, length-drop}
use Rattle.std.proofs.lemmas.Slice.{take-put_mid_below}
use borrow.Rule.Slice.PartMut.{put_mid}
use Rattle.std.specs.List.{concat}
use Rattle.sm_base.specs.declared.sizes.Geometry.{Geometry}
use Rattle.vg_volumes.specs.Stored.{Stored, stored}
use Rattle.vhd_chain.specs.Reading.{chain_reads}
use Rattle.vhd_stream.specs.Exports.{DiskBlocks, piece}
use Rattle.vhd_stream.specs.Known.{blocks_read}
use Rattle.vhd_stream.proofs.BlockLaws.{block-whole, data-is, page-is, page-piece}
use Rattle.vhd_stream.proofs.SendLaws.{Sends-as, Sends-quiet, Sends-stopped, Sends-told}
use Rattle.vhd_stream.proofs.exporting.send_there.Goals as goal

part-long : (page : List ℕ) (block : ℕ) → length page ≡ 512 + 512 * block → length (take (length page - 512) (drop 512 page)) ≡ 512 * block
part-long page block long = omega (arith, long, length-take (length page - 512) (drop 512 page), length-drop 512 page)

pub read-requires-clause-whole : goal.read-requires-clause-whole
read-requires-clause-whole g c =
    let block = (g.S.Store.site c.args.store.now).geometry.block in
    let r = c.geometry-block.result.in_range in
    let is : c.geometry-block.result.block ≡ block = ap (λ (x : Geometry). x.block) c.geometry-block.ensures in
    block-whole (c.from.result * c.from-2.result) c.args.b c.args.count block _ (ap₂ (λ i j. i * j) c.from.ensures (c.from-2.ensures ∙ is)) c.requires.within.0 c.requires.within.1
    (omega (arith, is, r.block_least)) (omega (arith, is, r.block_most)) (part-long c.args.page.now block c.requires.long)

pub returns-in-Ok-clause-bitmap : goal.returns-in-Ok-clause-bitmap
returns-in-Ok-clause-bitmap g c = take-put_mid_below 512 (length c.args.page.now - 512) c.args.page.now c.read.new.to 512 (omega arith) (omega (arith, c.requires.long))

pub returns-in-Err-clause-bitmap : goal.returns-in-Err-clause-bitmap
returns-in-Err-clause-bitmap g c = take-put_mid_below 512 (length c.args.page.now - 512) c.args.page.now c.read.new.to 512 (omega arith) (omega (arith, c.requires.long))

pub returns-in-Ok-clause-sends : goal.returns-in-Ok-clause-sends
returns-in-Ok-clause-sends g c =
    let x : Stored = stored g.S.Store c.args.store.now in
    let block = x.site.geometry.block in
    let page = c.args.page.now in
    let read = c.read.new.to in
    let b = c.args.b in
    let disk : DiskBlocks = blocks_read x c.args.tree.now.rows c.args.name.now c.args.count in
    let long = part-long page block c.requires.long in
    let whole : length read ≡ 512 * block = c.read.auto.to ∙ long in
    let sector : c.from.result * c.from-2.result ≡ b * block = ap₂ (λ i j. i * j) c.from.ensures (c.from-2.ensures ∙ ap (λ (y : Geometry). y.block) c.geometry-block.ensures) in
    let text : List ℕ = put_mid 512 (length page - 512) page read in
    Sends-quiet (concat (piece disk b)) _ _ _ _ _ _ c.in-Ok.ensures.cause.1
    (Sends-as text (concat (piece disk b)) _
    (λ told. page-is 512 (length page - 512) page read (omega (arith, c.requires.long)) (omega (arith, whole, c.requires.long))
    ∙ page-piece disk b (take 512 page) read c.requires.there c.requires.bitmap
    (data-is (chain_reads x c.args.tree.now.rows c.args.name.now) read b c.args.count block c.requires.within.0 whole
    (λ k below. c.in-Ok.ensures.read told k (omega arith) (omega (arith, below, whole)) ∙ ap (λ m. chain_reads x c.args.tree.now.rows c.args.name.now (m + k)) sector)))
    (Sends-told text _ (c.send.ensures (g.S.Store.faults c.args.store.now))))

pub returns-in-Err-clause-sends : goal.returns-in-Err-clause-sends
returns-in-Err-clause-sends g c = Sends-stopped _ _ _ _ _ c.in-Err.ensures.cause.0
