use Rattle.std.proofs.Common.{◌≡◌}
use Rattle.lru.specs.LruCache.{lru_cache}
use Rattle.sm_cache.specs.Kept.{others}
use Rattle.sm_cache.proofs.kept.forget.Given as goal

abbrev pub invariant-loop-done : goal.invariant-loop-done
invariant-loop-done l = l.kept ≡ lru_cache (others l.volume l.at l.done l.initial.kept.entries) l.initial.kept.cap
