use Rattle.std.proofs.Common.{◌≡◌, None, Some, Option, Bool, Bor, not, true, false, refl, sym, ap, ◌∙◌, subst}
use Rattle.std.specs.Prelude.{IsSome}
use Rattle.std.specs.Option.{is_some, option_copied}
use Rattle.std.proofs.lemmas.Bool.{true≢false}
use Rattle.sm_log.specs.Logs.{log_of}
use Rattle.sm_ready.specs.Does.{store_shape}
use Rattle.sm_ready.specs.Known.{shape_in}
use Rattle.sm_ready.proofs.TakenLaws.{is_told}
use Rattle.sm_session.proofs.UntrackLaws.{memory_less, none_removed, nothing_removed, on_removed}
use Rattle.sm_session.proofs.tracking.untrack.Given.{Over}
use Rattle.sm_session.proofs.tracking.untrack.Goals as goal

-- whether a log was found
none_found : {A : Type 0} (x : Option (Bor A)) (r : Bool) → is_some x ≡ not r → r ≡ true → option_copied x ≡ None
none_found None r e t = refl
none_found (Some l) r e t = absurd (true≢false (e ∙ ap not t))

some_found : {A : Type 0} (x : Option (Bor A)) (r : Bool) → is_some x ≡ not r → r ≡ false → IsSome (option_copied x)
some_found None r e f = absurd (true≢false (sym (e ∙ ap not f)))
some_found (Some l) r e f = refl

none : (g : Over) (c : goal.Then-is_none g) → log_of c.args.disk.now c.args.memory.now.logs ≡ None
none g c = sym c.get.ensures ∙ none_found c.get.result _ c.is_none.ensures c.if-is_none.true

pub returns-then-is_none-clause-memory : goal.returns-then-is_none-clause-memory
returns-then-is_none-clause-memory g c = memory_less c.args.memory.now c.args.disk.now (none g c)

pub returns-then-is_none-clause-shape : goal.returns-then-is_none-clause-shape
unfolding shape_in
returns-then-is_none-clause-shape g c =
    none_removed (store_shape g.S.Store c.args.store.now c.args.memory.now) c.args.disk.now (none g c) c.requires.session.orderly.table.sequence

pub returns-then-is_none-clause-removed : goal.returns-then-is_none-clause-removed
returns-then-is_none-clause-removed g c = λ told ready.
    nothing_removed c.args.disk.now _
    (is_told g.S.Store c.args.store.now c.args.memory.now c.requires.session.orderly c.requires.session.usable told ready (g.met.S.Store.leaves_now c.args.store.now told c.requires.session.usable)) (none g c)

pub end-requires-clause-tracked : goal.end-requires-clause-tracked
end-requires-clause-tracked g c = subst IsSome c.get.ensures (some_found c.get.result _ c.is_none.ensures c.if-is_none.false)

pub returns-clause-shape : goal.returns-clause-shape
returns-clause-shape g c = on_removed g.S.Store c.args.store.now c.end.new.store c.args.memory.now c.end.new.memory c.args.disk.now c.end.result (subst IsSome c.get.ensures (some_found c.get.result _ c.is_none.ensures c.if-is_none.false)) c.end.ensures.shape
