use Rattle.std.proofs.Common.{◌≡◌, ℕ, ◌*◌, List, ◌++◌, ◌≤◌, refl, ap, ◌∙◌, subst}
use Rattle.std.specs.List.{concat, flat_map, range_with_len}
use Rattle.sm_base.specs.Numbers.{div_up}
use Rattle.sm_base.specs.declared.sizes.Geometry.{Geometry}
use Rattle.vg_volumes.specs.Stored.{Stored, stored}
use Rattle.vhd_fields.specs.Footers.{footer_bytes}
use Rattle.vhd_fields.specs.Headers.{header_bytes}
use Rattle.vhd_stream.specs.Exports.{export_footer, export_header, piece, table_sector}
use Rattle.vhd_stream.specs.Known.{blocks_known, blocks_read}
use Rattle.vhd_stream.proofs.BlockLaws.{file-parts}
use Rattle.vhd_stream.proofs.SendLaws.{Sends-after, Sends-cut, Sends-same, Sends-sink}
use Rattle.vhd_stream.proofs.exporting.send_file.Goals as goal

pub send_front-requires : goal.send_front-requires
send_front-requires g c = let r = c.geometry-geometry.result.in_range in record { few = (r.block_least, r.block_most, c.requires.few) }

pub returns-in-Ok-clause-sends : goal.returns-in-Ok-clause-sends
returns-in-Ok-clause-sends g c =
    let x : Stored = stored g.S.Store c.args.store.now in
    let r = c.geometry-geometry.result.in_range in
    let same = c.geometry-geometry.ensures in
    let count = c.args.count in
    let blocks : List ℕ = flat_map (λ b. concat (piece (blocks_read x c.args.tree.now.rows c.args.name.now count) b)) (range_with_len 0 count) in
    let front : ℕ → List ℕ = λ k. header_bytes (export_header count k) ++ flat_map (table_sector (blocks_known k c.args.tree.now.rows c.args.name.now count)) (range_with_len 0 (div_up count 128)) in
    let footer : ℕ → List ℕ = λ k. footer_bytes (export_footer (count * k) c.args.uuid.now c.args.now) in
    let is : c.write.new.to ≡ footer c.geometry-geometry.result.block = c.write.ensures.bytes ∙ ap footer_bytes c.footer_of-made.ensures in
    let w = c.in-Ok.ensures in
    Sends-same _ _ _
    (ap (λ l. (l ++ front c.geometry-geometry.result.block) ++ (blocks ++ l)) is
    ∙ ap (λ (y : Geometry). (footer y.block ++ front y.block) ++ (blocks ++ footer y.block)) same
    ∙ file-parts x c.args.tree.now.rows c.args.name.now count c.args.uuid.now c.args.now
    (subst (λ (y : Geometry). 8 ≤ y.block) same r.block_least) (subst (λ (y : Geometry). y.block ≤ 4096) same r.block_most) c.requires.few)
    (Sends-after (c.write.new.to ++ front c.geometry-geometry.result.block) (blocks ++ c.write.new.to) _ _ _ _ (λ t. w.adds) w.cause.1 refl c.send_rest.ensures.sends)

pub returns-in-Err-clause-sends : goal.returns-in-Err-clause-sends
returns-in-Err-clause-sends g c =
    let x : Stored = stored g.S.Store c.args.store.now in
    let r = c.geometry-geometry.result.in_range in
    let same = c.geometry-geometry.ensures in
    let count = c.args.count in
    let blocks : List ℕ = flat_map (λ b. concat (piece (blocks_read x c.args.tree.now.rows c.args.name.now count) b)) (range_with_len 0 count) in
    let front : ℕ → List ℕ = λ k. header_bytes (export_header count k) ++ flat_map (table_sector (blocks_known k c.args.tree.now.rows c.args.name.now count)) (range_with_len 0 (div_up count 128)) in
    let footer : ℕ → List ℕ = λ k. footer_bytes (export_footer (count * k) c.args.uuid.now c.args.now) in
    let is : c.write.new.to ≡ footer c.geometry-geometry.result.block = c.write.ensures.bytes ∙ ap footer_bytes c.footer_of-made.ensures in
    let w = c.in-Err.ensures in
    Sends-same _ _ _
    (ap (λ l. (l ++ front c.geometry-geometry.result.block) ++ (blocks ++ l)) is
    ∙ ap (λ (y : Geometry). (footer y.block ++ front y.block) ++ (blocks ++ footer y.block)) same
    ∙ file-parts x c.args.tree.now.rows c.args.name.now count c.args.uuid.now c.args.now
    (subst (λ (y : Geometry). 8 ≤ y.block) same r.block_least) (subst (λ (y : Geometry). y.block ≤ 4096) same r.block_most) c.requires.few)
    (Sends-cut (c.write.new.to ++ front c.geometry-geometry.result.block) (blocks ++ c.write.new.to) _ (Sends-sink _ _ _ _ _ _ w.front w.cause.0 w.counts))
