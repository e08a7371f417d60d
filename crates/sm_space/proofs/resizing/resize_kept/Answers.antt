use Rattle.std.proofs.Common.{◌≡◌, ◌*◌, false, List, sym, ap, ap₂, ◌∙◌, subst}
use Rattle.std.specs.Prelude.{IfOk}
use Rattle.std.specs.Result.{IsOk}
use Rattle.std.proofs.lemmas.Result.{on_ok_weaker}
use Rattle.vg_meta.specs.Roomy.{table_alone}
use Rattle.sm_machine.specs.declared.commands.Command.TheVariants as command
use Rattle.sm_machine.specs.Commits.{is_given_up}
use Rattle.sm_machine.specs.Disks.{Disk, sector_bytes}
use Rattle.sm_machine.specs.Refusals.{need as needed, refusal, rounded}
use Rattle.sm_machine.specs.Steps.{disks_next, shape_next}
use Rattle.sm_ready.specs.Does.{store_shape}
use Rattle.sm_ready.specs.Done.{HasDone}
use Rattle.sm_ready.specs.Known.{known}
use Rattle.sm_ready.specs.Ready.{IsReady}
use Rattle.sm_ready.specs.Stores.{StoreLeaves, content_now, store_content}
use Rattle.sm_ready.proofs.ChainLaws.{might_show, only_crash, still_before}
use Rattle.sm_ready.proofs.FramingLaws.{stays_steps, then_steps}
use Rattle.sm_ready.proofs.TakenLaws.{is_told}
use Rattle.sm_ready.proofs.ThenLaws.{then_done}
use Rattle.sm_space.specs.Growing.{HasGrowth}
use Rattle.sm_space.specs.Inflating.{IsBelow, inflated}
use Rattle.sm_standing.specs.Standing.{disks}
use Rattle.sm_space.proofs.LargerLaws.{allowed_then, disks_then, is_below, needs_none_then, next_then, rounded_then}
use Rattle.sm_space.proofs.ResizedLaws.{never_ok}
use Rattle.sm_space.proofs.resizing.resize_kept.Goals as goal

pub enlarge-requires-clause-there : goal.enlarge-requires-clause-there
enlarge-requires-clause-there g c =
    let p = subst (HasGrowth g.S.Store c.args.store.now c.args.memory.now (command.Resize c.args.disk.now c.args.size) c.args.disk.now) c.in-Some.is c.requires.growth in
    subst (λ k. IsBelow c.args.memory.now.tree.rows c.args.disk.now k) (sym p.extents) (is_below (g.S.Store.site c.args.store.now) (table_alone (g.S.Store.table c.args.store.now)) (known c.args.memory.now) c.args.disk.now c.args.size c.requires.session.orderly c.requires.allowed p.some)

-- the store did not give the extents
pub returns-in_err-enlarge-clause-done : goal.returns-in_err-enlarge-clause-done
returns-in_err-enlarge-clause-done g c = λ told ready. only_crash (λ fine. never_ok _ c.from_residual.ensures.0 fine) (λ v image l.
    let w = (c.enlarge.ensures.done told ready).crash v image l in
    (w.0, still_before (disks_next (disks (store_content g.S.Store c.args.store.now)) (store_shape g.S.Store c.args.store.now c.args.memory.now) (command.Resize c.args.disk.now c.args.size)) _ (might_show g.S.Store c.requires.session.usable told) w.1)) (c.enlarge.ensures.done told ready).logged

pub make_larger-requires-2-clause-allowed : goal.make_larger-requires-2-clause-allowed
make_larger-requires-2-clause-allowed g c =
    let p = subst (HasGrowth g.S.Store c.args.store.now c.args.memory.now (command.Resize c.args.disk.now c.args.size) c.args.disk.now) c.in-Some.is c.requires.growth in
    let now = c.in_ok-enlarge.ensures.shape ∙ ap (λ k. inflated c.args.disk.now k (store_shape g.S.Store c.args.store.now c.args.memory.now)) p.extents in
    ap (λ σ. refusal σ (command.Resize c.args.disk.now c.args.size)) now ∙ allowed_then (g.S.Store.site c.args.store.now) (table_alone (g.S.Store.table c.args.store.now)) (known c.args.memory.now) c.args.disk.now c.args.size c.requires.session.orderly c.requires.allowed p.some

pub make_larger-requires-2-clause-kept_up : goal.make_larger-requires-2-clause-kept_up
unfolding is_given_up
make_larger-requires-2-clause-kept_up g c = ap (λ σ. is_given_up σ (command.Resize c.args.disk.now c.args.size)) c.in_ok-enlarge.ensures.shape ∙ c.requires.kept_up

pub make_larger-requires-2-clause-enough : goal.make_larger-requires-2-clause-enough
make_larger-requires-2-clause-enough g c =
    let p = subst (HasGrowth g.S.Store c.args.store.now c.args.memory.now (command.Resize c.args.disk.now c.args.size) c.args.disk.now) c.in-Some.is c.requires.growth in
    let now = c.in_ok-enlarge.ensures.shape ∙ ap (λ k. inflated c.args.disk.now k (store_shape g.S.Store c.args.store.now c.args.memory.now)) p.extents in
    ap (λ σ. needed σ (command.Resize c.args.disk.now c.args.size)) now ∙ needs_none_then (g.S.Store.site c.args.store.now) (table_alone (g.S.Store.table c.args.store.now)) (known c.args.memory.now) c.args.disk.now c.args.size c.requires.session.orderly c.requires.allowed p.some

pub returns-clause-step : goal.returns-clause-step
returns-clause-step g c =
    let s = c.make_larger-2.ensures.stays in
    then_steps c.enlarge.ensures.step (stays_steps s (λ told. g.met.S.Store.leaves_now c.make_larger-2.new.store told (s.failed ∙ c.in_ok-enlarge.ensures.session_still.usable)))

pub returns-clause-size : goal.returns-clause-size
returns-clause-size g c =
    subst (λ n. IfOk c.make_larger-2.result (λ bytes. bytes ≡ n * sector_bytes))
    (ap (λ σ. rounded σ false c.args.size) c.in_ok-enlarge.ensures.shape ∙ rounded_then (store_shape g.S.Store c.args.store.now c.args.memory.now) c.args.disk.now c.in-Some.to c.args.size) c.make_larger-2.ensures.size

pub returns-clause-shape : goal.returns-clause-shape
returns-clause-shape g c =
    let p = subst (HasGrowth g.S.Store c.args.store.now c.args.memory.now (command.Resize c.args.disk.now c.args.size) c.args.disk.now) c.in-Some.is c.requires.growth in
    let now = c.in_ok-enlarge.ensures.shape ∙ ap (λ k. inflated c.args.disk.now k (store_shape g.S.Store c.args.store.now c.args.memory.now)) p.extents in
    on_ok_weaker c.make_larger-2.result (λ shaped. shaped ∙ ap (λ σ. shape_next σ (command.Resize c.args.disk.now c.args.size)) now
    ∙ next_then (g.S.Store.site c.args.store.now) (table_alone (g.S.Store.table c.args.store.now)) (known c.args.memory.now) c.args.disk.now c.args.size c.requires.session.orderly c.requires.allowed p.some c.requires.kept_up) c.make_larger-2.ensures.shape

-- the extents were given, and then it got larger
pub returns-clause-done : goal.returns-clause-done
returns-clause-done g c = λ told ready.
    let resize = command.Resize c.args.disk.now c.args.size in
    let was = store_shape g.S.Store c.args.store.now c.args.memory.now in
    let e = c.enlarge.new.store in
    let d = c.enlarge.ensures.done told ready in
    let h = is_told g.S.Store c.args.store.now c.args.memory.now c.requires.session.orderly c.requires.session.usable told ready (g.met.S.Store.leaves_now c.args.store.now told c.requires.session.usable) in
    let made = subst (λ s. IsReady s (table_alone (g.S.Store.table e)) (g.S.Store.area e) (known c.enlarge.new.memory)) (sym c.enlarge.ensures.step.site) (d.ready c.in_ok-enlarge.was) in
    let mid = is_told g.S.Store e c.enlarge.new.memory c.in_ok-enlarge.ensures.session_still.orderly c.in_ok-enlarge.ensures.session_still.usable told made (g.met.S.Store.leaves_now e told c.in_ok-enlarge.ensures.session_still.usable) in
    let same = ap (λ s. disks (content_now s (table_alone (g.S.Store.table e)) (g.S.Store.area e))) c.enlarge.ensures.step.site ∙ d.shown c.in_ok-enlarge.was in
    let after : disks_next (disks (store_content g.S.Store e)) (store_shape g.S.Store e c.enlarge.new.memory) resize ≡ disks_next (disks (store_content g.S.Store c.args.store.now)) was resize
    = ap₂ (λ ds σ. disks_next ds σ resize) same c.in_ok-enlarge.ensures.shape ∙ disks_then (disks (store_content g.S.Store c.args.store.now)) was c.args.disk.now c.in-Some.to c.args.size in
    then_done h mid c.enlarge.ensures.step.site (d.settled c.in_ok-enlarge.was) same (known c.make_larger-2.new.memory) (IsOk c.make_larger-2.result) (disks_next (disks (store_content g.S.Store c.args.store.now)) was resize)
    (subst (λ (ds : List Disk). HasDone (g.S.Store.site e) (table_alone (g.S.Store.table e)) (table_alone (g.S.Store.table c.make_larger-2.new.store)) (g.S.Store.area e) (g.S.Store.area c.make_larger-2.new.store) (known c.make_larger-2.new.memory) (StoreLeaves g.S.Store e) (StoreLeaves g.S.Store c.make_larger-2.new.store) (IsOk c.make_larger-2.result) ds)
    after (c.make_larger-2.ensures.done told made))
