use Rattle.std.proofs.Common.{◌≡◌}
use Rattle.std.specs.List.{list_any}
use Rattle.sm_cache.specs.Kept.{Entries, is_among}
use Rattle.sm_cache.proofs.kept.has_among.Given as goal

abbrev pub invariant-loop-spot : goal.invariant-loop-spot
invariant-loop-spot l =
    let es : Entries = l.spot-iterator in
    list_any (λ e. is_among l.volume l.at l.sectors e.0) l.kept.entries ≡ list_any (λ e. is_among l.volume l.at l.sectors e.0) es
