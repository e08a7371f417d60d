use Rattle.std.proofs.Common.{rules}
use Rattle.std.specs.Ordering.{nat_cmp}
use Rattle.std.specs.Cmp.Lexicographic.{slice_cmp}
use Rattle.std.proofs.lemmas.Fn.{always_returns_same}
use Rattle.sm_log.specs.Logs.{Log}
use Rattle.sm_logs.proofs.PlaceLaws.{searched}
use Rattle.sm_logs.proofs.rows.place.Goals as goal

pub returns : goal.returns
returns c =
    let found = searched c.args.logs.now c.args.disk.now c.binary_search_by.result c.requires.rising c.binary_search_by.ensures.bound
    (c.binary_search_by.ensures.position (λ (l : Log). slice_cmp nat_cmp l.disk c.args.disk.now) (always_returns_same _ _ _ (λ a r f k. search rules))) in
    record { found = found.0; none = found.1 }
