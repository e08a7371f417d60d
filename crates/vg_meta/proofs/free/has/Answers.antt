use Rattle.vg_meta.proofs.FreeLaws.{found_by_halves}
use Rattle.vg_meta.proofs.free.has.Goals as goal

pub returns-then-rising : goal.returns-then-rising
returns-then-rising c = found_by_halves c.args.extents.now c.args.extent c.binary_search.result c.is_ok.result (c.requires c.if-rising.true) c.binary_search.ensures.position c.is_ok.ensures.value
