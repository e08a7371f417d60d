use Rattle.std.proofs.Common.{◌||◌, ap, sym, ◌∙◌}
use Rattle.std.specs.List.{list_any}
use Rattle.sm_cache.specs.Kept.{Entries, is_among}
use Rattle.sm_cache.proofs.SpotLaws.{among_told}
use Rattle.sm_cache.proofs.kept.has_among.Goals as goal

pub returns-then-is_one_of : goal.returns-then-is_one_of
returns-then-is_one_of c =
    let es : Entries = c.next.new.self in
    sym (c.loop-spot.invariant ∙ ap (λ (l : Entries). list_any (λ e. is_among c.args.volume.now c.args.at c.args.sectors e.0) l) c.in-Some.ensures.steps
    ∙ ap (λ b. b || list_any (λ e. is_among c.args.volume.now c.args.at c.args.sectors e.0) es)
    (among_told c.args.volume.now c.args.at c.args.sectors c.in-Some.spot.now c.is_one_of.result c.is_one_of.ensures ∙ c.if-is_one_of.true))

pub loop-spot-preserved : goal.loop-spot-preserved
loop-spot-preserved c =
    let es : Entries = c.next.new.self in
    c.loop-spot.invariant ∙ ap (λ (l : Entries). list_any (λ e. is_among c.args.volume.now c.args.at c.args.sectors e.0) l) c.in-Some.ensures.steps
    ∙ ap (λ b. b || list_any (λ e. is_among c.args.volume.now c.args.at c.args.sectors e.0) es)
    (among_told c.args.volume.now c.args.at c.args.sectors c.in-Some.spot.now c.is_one_of.result c.is_one_of.ensures ∙ c.if-is_one_of.false)
