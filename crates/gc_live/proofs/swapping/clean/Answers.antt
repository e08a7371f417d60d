use Rattle.std.proofs.Common.{◌≡◌, ◌<◌, Ok, length, sym, ap, ◌∙◌, subst, rules}
use Rattle.sm_machine.specs.Steps.{disks_next}
use Rattle.sm_operation.specs.Kept.{dirty_in}
use Rattle.sm_ready.specs.Known.{known}
use Rattle.sm_ready.proofs.ChainLaws.{err_not_ok, only_crash}
use Rattle.sm_ready.proofs.FramingLaws.{then_steps}
use Rattle.gc_live.proofs.CleaningLaws.{any_done, cleaned_next, cleaned_once, dirty_less, done_then, now_done, still_then}
use Rattle.gc_live.proofs.swapping.clean.Goals as goal

pub loop-block-init : goal.loop-block-init
unfolding disks_next
loop-block-init g c =
    let e = c.copy_dirty.ensures in
    let ok = c.in_ok-copy_dirty.ensures in
    let is : c.copy_dirty.result ≡ Ok tt = search rules in (
      cleaned_once {g = g.S.Store} c.requires.session c.args.first c.requires.first c.copy_dirty.new.store c.copy_dirty.new.memory ok.operation e.step ok.cause.1 ok.session_still e.images e.others.0 e.logs e.others.1 ok.next ok.shape
          (λ told made. now_done g.S.Store c.args.store.now c.copy_dirty.new.store is (e.done told made)) e.still,
      e.pool,
    )

pub loop-block-smaller : goal.loop-block-smaller
loop-block-smaller g c =
    let less = dirty_less {g = g.S.Store} c.loop-block.invariant.0.session c.in-Some.block (sym c.least_dirty.ensures ∙ c.in-Some.is) in
    let is = ap (λ o. dirty_in o) c.in_ok-copy_dirty-2.ensures.operation in
    subst (λ ds. length ds < length (dirty_in c.loop-block.memory.operation)) (sym is) less

pub loop-block-preserved : goal.loop-block-preserved
unfolding disks_next
loop-block-preserved g c =
    let i = c.loop-block.invariant in
    let e = c.copy_dirty-in-Some.ensures in
    let ok = c.in_ok-copy_dirty-2.ensures in
    let is : c.copy_dirty-in-Some.result ≡ Ok tt = search rules in (
      cleaned_next {g = g.S.Store} g.met.S.Store.leaves_now c.requires.session i.0 c.in-Some.block (sym c.least_dirty.ensures ∙ c.in-Some.is) c.copy_dirty-in-Some.new.store c.copy_dirty-in-Some.new.memory ok.operation
          e.step ok.cause.1 ok.session_still e.images e.others.0 e.logs e.others.1 ok.next ok.shape
          (λ told made. now_done g.S.Store c.loop-block.store c.copy_dirty-in-Some.new.store is (e.done told made)) e.still,
      e.pool ∙ i.1,
    )

pub returns-in_err-copy_dirty-clause-done : goal.returns-in_err-copy_dirty-clause-done
unfolding disks_next
returns-in_err-copy_dirty-clause-done g c = λ told ready. let d = c.copy_dirty.ensures.done told ready in only_crash (λ fine. err_not_ok _ tt c.from_residual.ensures.0 fine) d.crash d.logged

pub returns-in_err-copy_dirty-2-clause-step : goal.returns-in_err-copy_dirty-2-clause-step
returns-in_err-copy_dirty-2-clause-step g c = then_steps c.loop-block.invariant.0.step c.copy_dirty-in-Some.ensures.step

pub returns-in_err-copy_dirty-2-clause-done : goal.returns-in_err-copy_dirty-2-clause-done
unfolding disks_next
returns-in_err-copy_dirty-2-clause-done g c = λ told ready.
    let d = done_then {g = g.S.Store} g.met.S.Store.leaves_now c.requires.session c.loop-block.invariant.0 (known c.copy_dirty-in-Some.new.memory) (c.copy_dirty-in-Some.result ≡ Ok tt) told ready (λ made. c.copy_dirty-in-Some.ensures.done told made) in
    only_crash (λ fine. err_not_ok _ tt c.from_residual-in_err-copy_dirty-2.ensures.0 fine) d.crash d.logged

pub returns-in_err-copy_dirty-2-clause-still : goal.returns-in_err-copy_dirty-2-clause-still
returns-in_err-copy_dirty-2-clause-still g c = λ told ready again.
    still_then {g = g.S.Store} g.met.S.Store.leaves_now c.requires.session c.loop-block.invariant.0 told ready (λ made. c.copy_dirty-in-Some.ensures.still told made)

pub returns-clause-done : goal.returns-clause-done
returns-clause-done g c = λ told ready. any_done g.S.Store c.args.store.now c.loop-block.store _ (c.loop-block.invariant.0.done told ready)
