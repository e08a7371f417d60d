use Rattle.std.proofs.Common.{◌≡◌, ◌*◌, ◌≤◌, Some, length, sym, ap, ◌∙◌, arith}
use Rattle.std.proofs.lemmas.Nat.{mul-le}
use Rattle.sm_base.specs.Limits.{extent_limit}
use Rattle.vg_meta.specs.Roomy.{RoomyTable, table_alone, rows_alone}
use Rattle.vg_meta.specs.Tables.{row_of, extents_of}
use Rattle.vg_meta.proofs.DecodeLaws.{used-le}
use Rattle.vhd_image.proofs.MakingLaws.{extents-le}
use Rattle.vhd_image.proofs.sizes.sectors_in.Goals as goal

pub overflow_mul-result : goal.overflow_mul-result
overflow_mul-result g c =
    let kept = g.S.Store.table c.args.store.now in
    let n = c.args.volume.now in
    let all = used-le (g.S.Store.site c.args.store.now).count (table_alone kept).volumes c.table-table.ensures.spread.volumes in
    let own = extents-le (table_alone kept).volumes n in
    let row : row_of (rows_alone c.table-table.result.now.rows) n ≡ Some c.in-Some.row.now.row = c.in-Some.ensures.found.row in
    let here : extents_of (row_of (table_alone kept).volumes n) ≡ c.in-Some.row.now.row.extents = ap extents_of (ap (λ (k : RoomyTable). row_of (rows_alone k.rows) n) (sym c.table-table.ensures.table) ∙ row) in
    let long : length c.extents.result.now ≡ length (extents_of (row_of (table_alone kept).volumes n)) = ap length (c.extents.ensures.extents ∙ sym here) in
    let most : length c.extents.result.now * c.geometry-extent.result.extent ≤ extent_limit * 8192 = mul-le (length c.extents.result.now) c.geometry-extent.result.extent extent_limit 8192 (omega (arith, long, own, all, c.extents-extents.ensures.few)) c.geometry-extent.result.in_range.extent_most in
    omega (arith, most)
