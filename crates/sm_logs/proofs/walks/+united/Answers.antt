use Rattle.std.proofs.Common.{◌≡◌, ℕ, ◌-◌, max, Bool, List, length, Option, Some, None, refl, sym, ap, ◌∙◌, arith}
use Rattle.std.specs.Prelude.{is_some}
use Rattle.common_laws.specs.Lists.{◌>>=◌}
use Rattle.sm_log.specs.Logs.{either, walk}
use Rattle.sm_logs.specs.Held.{bits_of}
use Rattle.sm_logs.proofs.UniteLaws.{bits_long, on_err, some_more, walk_ended, walk_met, walk_none, walk_step}
use Rattle.sm_logs.proofs.walks.+united.Goals as goal

pub returns-then-most-eq0-clause-united : goal.returns-then-most-eq0-clause-united
returns-then-most-eq0-clause-united t c =
    rw c.if-most-eq0.true (sym (walk_ended c.args.pieces c.args.disk.now c.args.logs.now (Some c.args.log.now)))

pub returns-in_err-bits-clause-memory : goal.returns-in_err-bits-clause-memory
returns-in_err-bits-clause-memory t c =
    let met = walk_met c.args.pieces (c.args.most - 1) c.args.most c.args.disk.now c.args.logs.now c.args.log.now (omega (arith, c.if-most-eq0.false)) (sym c.is_of.ensures ∙ c.if-is_of.true) in
    on_err c.from_residual.result (ap is_some met)

pub returns-then-is_of-clause-united : goal.returns-then-is_of-clause-united
returns-then-is_of-clause-united t c =
    let met = walk_met c.args.pieces (c.args.most - 1) c.args.most c.args.disk.now c.args.logs.now c.args.log.now (omega (arith, c.if-most-eq0.false)) (sym c.is_of.ensures ∙ c.if-is_of.true) in
    ap Some c.in_ok-bits.ensures ∙ sym met

pub returns-in_default-clause-united : goal.returns-in_default-clause-united
returns-in_default-clause-united t c =
    let u = c.args.disk.now in
    let logs = c.args.logs.now in
    let l = c.args.log.now in
    let more = walk_step c.args.pieces (max c.args.pieces (length l.bits)) c.args.most u logs l None (λ z. c.if-most-eq0.false z) (sym c.is_of.ensures ∙ c.if-is_of.false) c.in_default.ensures refl in
    sym (more ∙ ap (λ (o : Option (List Bool)). o >>= λ bits. Some (either bits l.bits)) (walk_none (max c.args.pieces (length l.bits)) (c.args.most - 1) u logs))

pub returns-in_err-bits-2-clause-memory : goal.returns-in_err-bits-2-clause-memory
returns-in_err-bits-2-clause-memory t c =
    let u = c.args.disk.now in
    let logs = c.args.logs.now in
    let l = c.args.log.now in
    let wide : c.max-longest.result ≡ max c.args.pieces (length l.bits) = c.max-longest.ensures ∙ ap (max c.args.pieces) (c.pieces.ensures ∙ ap (λ (b : List Bool). length b) c.bits.ensures) in
    let more = walk_step c.args.pieces c.max-longest.result c.args.most u logs l (Some c.in-Some.earlier.now) (λ z. c.if-most-eq0.false z) (sym c.is_of.ensures ∙ c.if-is_of.false) c.in-Some.ensures wide in
    on_err c.from_residual-in_err-bits-2.result
    (ap is_some more ∙ some_more (bits_of c.max-longest.result (walk (c.args.most - 1) u logs (Some c.in-Some.earlier.now))) (λ bits. either bits l.bits) c.in_err-bits-2.ensures.memory)

pub returns-in_default-2-clause-united : goal.returns-in_default-2-clause-united
returns-in_default-2-clause-united t c =
    let u = c.args.disk.now in
    let logs = c.args.logs.now in
    let l = c.args.log.now in
    let wide : c.max-longest.result ≡ max c.args.pieces (length l.bits) = c.max-longest.ensures ∙ ap (max c.args.pieces) (c.pieces.ensures ∙ ap (λ (b : List Bool). length b) c.bits.ensures) in
    let more = walk_step c.args.pieces c.max-longest.result c.args.most u logs l (Some c.in-Some.earlier.now) (λ z. c.if-most-eq0.false z) (sym c.is_of.ensures ∙ c.if-is_of.false) c.in-Some.ensures wide in
    sym (more ∙ ap (λ (o : Option (List Bool)). o >>= λ bits. Some (either bits l.bits)) (sym c.in_ok-bits-2.ensures.united ∙ c.in_default-2.is))

pub add-requires : goal.add-requires
add-requires t c =
    let l = c.args.log.now in
    let wide : c.max-longest.result ≡ max c.args.pieces (length l.bits) = c.max-longest.ensures ∙ ap (max c.args.pieces) (c.pieces.ensures ∙ ap (λ (b : List Bool). length b) c.bits.ensures) in
    let inner : c.in_ok-bits-2.field-0 ≡ bits_of c.max-longest.result (walk (c.args.most - 1) c.args.disk.now c.args.logs.now (Some c.in-Some.earlier.now)) = c.in_ok-bits-2.ensures.united in
    let rest : bits_of (max c.args.pieces (length l.bits)) (walk (c.args.most - 1) c.args.disk.now c.args.logs.now (Some c.in-Some.earlier.now)) ≡ Some c.in-Some-2.bits =
    ap (λ (n : ℕ). bits_of n (walk (c.args.most - 1) c.args.disk.now c.args.logs.now (Some c.in-Some.earlier.now))) (sym wide) ∙ sym inner ∙ c.in-Some-2.is in
    rw c.bits-2.ensures (bits_long c.args.pieces (length l.bits) (walk (c.args.most - 1) c.args.disk.now c.args.logs.now (Some c.in-Some.earlier.now)) c.in-Some-2.bits rest)

pub returns-clause-united : goal.returns-clause-united
returns-clause-united t c =
    let u = c.args.disk.now in
    let logs = c.args.logs.now in
    let l = c.args.log.now in
    let wide : c.max-longest.result ≡ max c.args.pieces (length l.bits) = c.max-longest.ensures ∙ ap (max c.args.pieces) (c.pieces.ensures ∙ ap (λ (b : List Bool). length b) c.bits.ensures) in
    let more = walk_step c.args.pieces c.max-longest.result c.args.most u logs l (Some c.in-Some.earlier.now) (λ z. c.if-most-eq0.false z) (sym c.is_of.ensures ∙ c.if-is_of.false) c.in-Some.ensures wide in
    ap Some (c.add.ensures ∙ ap (either c.in-Some-2.bits) c.bits-2.ensures)
    ∙ sym (more ∙ ap (λ (o : Option (List Bool)). o >>= λ bits. Some (either bits l.bits)) (sym c.in_ok-bits-2.ensures.united ∙ c.in-Some-2.is))
