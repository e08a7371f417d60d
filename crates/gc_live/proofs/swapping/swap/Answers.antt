use Rattle.std.proofs.Common.{◌≡◌, Ok, sym, ◌∙◌}
use Rattle.std.proofs.Math.Logic.{∥∥₁_map}
use Rattle.std.proofs.lemmas.Result.{on_ok_weaker}
use Rattle.sm_machine.specs.Steps.{disks_next}
use Rattle.sm_ready.specs.Known.{known}
use Rattle.sm_ready.proofs.ChainLaws.{err_not_ok, only_crash}
use Rattle.sm_ready.proofs.FramingLaws.{then_steps}
use Rattle.gc_live.proofs.CleaningLaws.{done_then, still_then}
use Rattle.gc_live.proofs.SwapLaws.{counts_then, fewer_images, lowered_then, none_dirty, shape_then}
use Rattle.gc_live.proofs.swapping.swap.Goals as goal

-- ---- no block is dirty

pub swap-requires-clause-clean : goal.swap-requires-clause-clean
swap-requires-clause-clean g c = none_dirty _ (sym c.least_dirty.ensures ∙ c.in_default.is)

pub returns-in_default-clause-lowered : goal.returns-in_default-clause-lowered
returns-in_default-clause-lowered g c =
    on_ok_weaker c.swap.result (λ less. ∥∥₁_map c.requires.session.orderly.well_formed (λ w. fewer_images g.S.Store c.args.store.now c.swap.new.store c.args.memory.now c.swap.new.memory less)) c.swap.ensures.images

-- ---- some are

pub returns-in_err-clean-clause-done : goal.returns-in_err-clean-clause-done
unfolding disks_next
returns-in_err-clean-clause-done g c = λ told ready. let d = c.clean.ensures.done told ready in only_crash (λ fine. err_not_ok _ tt c.from_residual.ensures.0 fine) d.crash d.logged

pub returns-clause-step : goal.returns-clause-step
returns-clause-step g c = then_steps c.clean.ensures.step c.swap-2.ensures.step

pub returns-clause-counts : goal.returns-clause-counts
returns-clause-counts g c =
    let ok = c.in_ok-clean.ensures in
    on_ok_weaker c.swap-2.result (λ counted leaf parent is. counts_then {g = g.S.Store} ok.cleaned ok.none leaf parent c.swap-2.new.memory.attached counted is) c.swap-2.ensures.counts

pub returns-clause-lowered : goal.returns-clause-lowered
returns-clause-lowered g c =
    let ok = c.in_ok-clean.ensures in
    on_ok_weaker c.swap-2.result (λ less. ∥∥₁_map c.requires.session.orderly.well_formed (λ w. lowered_then {g = g.S.Store} ok.cleaned ok.none c.swap-2.new.store c.swap-2.new.memory less)) c.swap-2.ensures.images

pub returns-clause-shape : goal.returns-clause-shape
returns-clause-shape g c = λ told ready.
    let ok = c.in_ok-clean.ensures in
    on_ok_weaker c.swap-2.result (λ swapped. shape_then {g = g.S.Store} ok.cleaned ok.none c.swap-2.new.store c.swap-2.new.memory c.requires.planned swapped told ready) c.swap-2.ensures.shape

pub returns-clause-done : goal.returns-clause-done
unfolding disks_next
returns-clause-done g c = λ told ready.
    done_then {g = g.S.Store} g.met.S.Store.leaves_now c.requires.session c.in_ok-clean.ensures.cleaned (known c.swap-2.new.memory) (c.swap-2.result ≡ Ok tt) told ready (λ made. c.swap-2.ensures.done told made)

pub returns-clause-still : goal.returns-clause-still
returns-clause-still g c = λ told ready again.
    still_then {g = g.S.Store} g.met.S.Store.leaves_now c.requires.session c.in_ok-clean.ensures.cleaned told ready (λ made. c.swap-2.ensures.still told made)
