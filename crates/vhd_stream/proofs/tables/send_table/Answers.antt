use Rattle.std.proofs.Common.{◌≡◌, ℕ, ◌+◌, ◌*◌, ◌<◌, List, [], drop, min, refl, sym, ap, ◌∙◌, subst, arith}
use Rattle.std.proofs.lemmas.List.{length-replicate}
use Rattle.std.specs.List.{flat_map, range_with_len}
use Rattle.sm_base.specs.Numbers.{div_up}
use Rattle.sm_base.proofs.NumberLemmas.{div_up-div_ceil}
use Rattle.sm_disk.specs.Streams.{AddsFront}
use Rattle.sm_script.proofs.PieceLaws.{Writes-after, Writes-cut, Writes-none, Writes-one, Writes-same}
use Rattle.vhd_stream.specs.Exports.{DiskBlocks, place, table_sector}
use Rattle.vhd_stream.specs.Known.{blocks_known}
use Rattle.vhd_stream.proofs.RangeLaws.{flat-at, flat-more}
use Rattle.vhd_stream.proofs.TableSteps.{place-first}
use Rattle.vhd_stream.proofs.tables.send_table.Goals as goal

pub loop-index-init : goal.loop-index-init
loop-index-init g c =
    let few = c.requires.few in
    let count = c.args.count in
    let x : DiskBlocks = blocks_known c.args.block c.args.tree.now.rows c.args.name.now count in
    let first : min (128 * 0) count ≡ 0 = omega arith in (
      ap (λ k. 3 + k) (c.div_ceil-sectors.ensures ∙ div_up-div_ceil count 128 (omega arith)) ∙ sym (place-first x count (length-replicate (count * c.args.block) []) few.0 few.1 few.2) ∙ ap (place x) (sym first),
      Writes-none _ _ tt,
    )

pub fill_sector-place-requires-clause-within : goal.fill_sector-place-requires-clause-within
unfolding div_up
fill_sector-place-requires-clause-within g c =
    let e : c.div_ceil-sectors.result ≡ div_up c.args.count 128 = c.div_ceil-sectors.ensures ∙ div_up-div_ceil c.args.count 128 (omega arith) in
    omega (arith, e)

pub loop-index-preserved : goal.loop-index-preserved
loop-index-preserved g c =
    let x : DiskBlocks = blocks_known c.args.block c.args.tree.now.rows c.args.name.now c.args.count in
    let index = c.loop-index.index in
    let so_far = c.loop-index.invariant.1 in
    let e = c.in_ok-write_all.ensures in (
      c.fill_sector-place.ensures.behind,
      Writes-same (flat-more (table_sector x) 0 index index (index + 1) (omega arith) refl)
          (Writes-after (flat_map (table_sector x) (range_with_len 0 index))
          (Writes-same c.fill_sector-place.ensures.sector (Writes-one c.fill_sector-place.new.to e.adds tt e.counts e.cause)) so_far.adds so_far.cause.1),
    )

pub returns-in_err-write_all : goal.returns-in_err-write_all
returns-in_err-write_all g c =
    let x : DiskBlocks = blocks_known c.args.block c.args.tree.now.rows c.args.name.now c.args.count in
    let so_far = c.loop-index.invariant.1 in
    let e = c.in_err-write_all.ensures in
    let n : ℕ = div_up c.args.count 128 in
    let index = c.loop-index.index in
    let many : c.div_ceil-sectors.result ≡ div_up c.args.count 128 = c.div_ceil-sectors.ensures ∙ div_up-div_ceil c.args.count 128 (omega arith) in
    let within : index < n = omega (arith, many) in
    let rest : List ℕ = flat_map (table_sector x) (drop (index + 1) (range_with_len 0 n)) in
    Writes-same (flat-at (table_sector x) n index within)
    (Writes-after (flat_map (table_sector x) (range_with_len 0 index))
    (Writes-cut (table_sector x index) rest c.from_residual.ensures.0 (subst (λ l. AddsFront (g.K.Sink.content c.loop-index.sink) l (g.K.Sink.content c.write_all.new.sink)) c.fill_sector-place.ensures.sector e.front) e.counts e.cause.0)
    so_far.adds so_far.cause.1)

pub returns : goal.returns
returns g c =
    let x : DiskBlocks = blocks_known c.args.block c.args.tree.now.rows c.args.name.now c.args.count in
    let e : c.div_ceil-sectors.result ≡ div_up c.args.count 128 = c.div_ceil-sectors.ensures ∙ div_up-div_ceil c.args.count 128 (omega arith) in
    let end : c.loop-index.index ≡ div_up c.args.count 128 = omega (arith, e) in
    Writes-same (ap (λ n. flat_map (table_sector x) (range_with_len 0 n)) end) c.loop-index.invariant.1
