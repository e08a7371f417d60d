use Rattle.std.proofs.Common.{◌≡◌, ap, sym, ◌∙◌, arith}
use Rattle.lru.specs.LruCache.{lru_cache}
use Rattle.sm_cache.specs.Kept.{others, same_spot}
use Rattle.sm_cache.proofs.EntryLaws.{others_all, others_more, others_none}
use Rattle.sm_cache.proofs.kept.forget.Goals as goal

pub returns-then-not-has_among : goal.returns-then-not-has_among
returns-then-not-has_among c = ap (λ es. lru_cache es c.args.kept.now.cap)
    (others_all c.args.volume.now c.args.at c.args.sectors c.args.kept.now.entries (sym c.has_among.ensures ∙ c.if-not-has_among.true))

pub loop-done-init : goal.loop-done-init
loop-done-init c = ap (λ es. lru_cache es c.args.kept.now.cap) (others_none c.args.volume.now c.args.at c.args.kept.now.entries)

pub loop-done-preserved : goal.loop-done-preserved
unfolding same_spot
loop-done-preserved c =
    others_more c.args.volume.now c.args.at c.loop-done.done c.args.kept.now c.loop-done.kept c.pop.new.self c.loop-done.invariant c.len-len.ensures.valid.0 c.pop.ensures.entries

pub returns : goal.returns
returns c =
    let all : c.loop-done.done ≡ c.args.sectors = omega (arith, c.loop-done-test.false, c.loop-done.auto.done-end) in
    c.loop-done.invariant ∙ ap (λ n. lru_cache (others c.args.volume.now c.args.at n c.args.kept.now.entries) c.args.kept.now.cap) all
