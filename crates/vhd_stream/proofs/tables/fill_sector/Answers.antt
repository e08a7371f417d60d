use Rattle.std.proofs.Common.{◌≡◌, ℕ, ◌+◌, ◌*◌, ◌≤◌, List, [], ◌++◌, length, take, replicate, min, cond, refl, sym, ap, ap₂, ◌∙◌, arith}
use Rattle.std.proofs.lemmas.List.{length-replicate, take_all}
use Rattle.std.specs.List.{flat_map, range_with_len}
use Rattle.byteorder.specs.Endian.{big_bytes}
use Rattle.vhd_map.specs.Places.{blank}
use Rattle.vhd_stream.specs.Exports.{DiskBlocks, entry_of, place, table_sector}
use Rattle.vhd_stream.specs.Known.{blocks_known}
use Rattle.vhd_stream.proofs.RangeLaws.{flat-more}
use Rattle.vhd_stream.proofs.TableSteps.{entry-is, place-min, place-next}
use Rattle.vhd_stream.proofs.tables.fill_sector.Goals as goal

sized : (count block : ℕ) → length (replicate {A = List ℕ} (count * block) []) ≡ count * block
sized count block = length-replicate (count * block) []

pub behind-place-requires : goal.behind-place-requires
behind-place-requires c =
    let few = c.requires.few in
    let x : DiskBlocks = blocks_known c.args.block c.args.tree.now.rows c.args.name.now c.args.count in
    omega (arith, few.1, c.loop-at.invariant.place_is, place-min x c.args.count (sized c.args.count c.args.block) few.0 few.1 few.2 (128 * c.args.index + c.loop-at.at))

pub loop-at-preserved : goal.loop-at-preserved
loop-at-preserved c =
    let few = c.requires.few in
    let count = c.args.count in
    let x : DiskBlocks = blocks_known c.args.block c.args.tree.now.rows c.args.name.now count in
    let long = sized count c.args.block in
    let b : ℕ = 128 * c.args.index + c.loop-at.at in
    let so_far = c.loop-at.invariant in
    let next : b + 1 ≡ 128 * c.args.index + (c.loop-at.at + 1) = omega arith in
    let bytes : ℕ → List ℕ = λ k. big_bytes 4 (entry_of x k) in
    let from : 4 * (c.loop-at.at + 1) ≡ 4 * c.loop-at.at + 4 = omega arith in record {
      long = c.put_entry.array_long;
      place_is = c.behind-place.ensures ∙ ap₂ (λ t m. cond t (m + (1 + c.args.block)) m) c.is_sent-there.ensures so_far.place_is
          ∙ sym (place-next x count long few.0 few.1 few.2 b) ∙ ap (λ k. place x (min k count)) next;
      bytes = ap (λ k. take k c.put_entry.new.to) from ∙ c.put_entry.ensures
          ∙ ap₂ (λ l e. l ++ big_bytes 4 e) so_far.bytes
          (c.entry.ensures ∙ ap₂ (λ t m. cond t m blank) c.is_sent-there.ensures so_far.place_is ∙ entry-is x count long few.0 few.1 few.2 b)
          ∙ flat-more bytes (128 * c.args.index) c.loop-at.at b (c.loop-at.at + 1) refl refl;
    }

pub returns-clause-behind : goal.returns-clause-behind
returns-clause-behind c =
    let x : DiskBlocks = blocks_known c.args.block c.args.tree.now.rows c.args.name.now c.args.count in
    let end : 128 * c.args.index + c.loop-at.at ≡ 128 * (c.args.index + 1) = omega arith in
    c.loop-at.invariant.place_is ∙ ap (λ k. place x (min k c.args.count)) end

pub returns-clause-sector : goal.returns-clause-sector
unfolding table_sector
returns-clause-sector c =
    let x : DiskBlocks = blocks_known c.args.block c.args.tree.now.rows c.args.name.now c.args.count in
    let end : c.loop-at.at ≡ 128 = omega arith in
    let all : length c.loop-at.to ≤ 4 * c.loop-at.at = omega (arith, end, c.loop-at.invariant.long) in
    sym (take_all (4 * c.loop-at.at) c.loop-at.to all) ∙ c.loop-at.invariant.bytes
    ∙ ap (λ k. flat_map (λ b. big_bytes 4 (entry_of x b)) (range_with_len (128 * c.args.index) k)) end
