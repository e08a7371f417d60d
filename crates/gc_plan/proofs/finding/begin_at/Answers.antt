use Rattle.std.proofs.Common.{Option, Some, sym, ap, ◌∙◌}
use Rattle.common_laws.specs.Lists.{given, ◌>>=◌}
use Rattle.sm_machine.specs.Collector.{Pair, fits}
use Rattle.sm_ready.specs.Known.{known, shape_in}
use Rattle.gc_plan.specs.Planning.{as_pair, begun}
use Rattle.gc_plan.proofs.finding.begin_at.Goals as goal

pub returns-in_err-pair : goal.returns-in_err-pair
returns-in_err-pair c = λ s t same o tidy room i.
    let σ = shape_in s t (known c.args.memory.now) in
    c.from_residual.ensures ∙ ap (λ (x : Option Pair). x >>= (λ p. given (fits σ p) (begun c.args.kind σ p))) (c.in_err-pair.ensures.exact s t o tidy i)

pub returns-then-fits : goal.returns-then-fits
returns-then-fits c = λ s t same o tidy room i.
    let m = known c.args.memory.now in
    let σ = shape_in s t m in
    let q = as_pair c.in_ok-pair.pair in
    let there = c.in_ok-pair.ensures.there i in
    ap Some (c.begin.ensures s t same o tidy there)
    ∙ ap (λ b. given b (begun c.args.kind σ q)) (sym c.if-fits.true ∙ c.fits.ensures s t same o tidy room there)
    ∙ ap (λ (x : Option Pair). x >>= (λ p. given (fits σ p) (begun c.args.kind σ p))) (c.in_ok-pair.ensures.exact s t o tidy i)

pub returns-else-fits : goal.returns-else-fits
returns-else-fits c = λ s t same o tidy room i.
    let m = known c.args.memory.now in
    let σ = shape_in s t m in
    let q = as_pair c.in_ok-pair.pair in
    let there = c.in_ok-pair.ensures.there i in
    ap (λ b. given b (begun c.args.kind σ q)) (sym c.if-fits.false ∙ c.fits.ensures s t same o tidy room there)
    ∙ ap (λ (x : Option Pair). x >>= (λ p. given (fits σ p) (begun c.args.kind σ p))) (c.in_ok-pair.ensures.exact s t o tidy i)
