use Rattle.std.proofs.Common.{◌≡◌, ◌+◌, ◌*◌, inl, inr, refl, sym, ap, ◌∙◌, arith, length}
use Rattle.std.proofs.lemmas.Bool.{true≢false}
use Rattle.sm_disk.proofs.HeldLaws.{Keeps-same}
use Rattle.vg_meta.specs.Roomy.{table_alone}
use Rattle.vg_volumes.specs.Stored.{stored}
use Rattle.vg_volumes.proofs.StoredLaws.{reads_none}
use Rattle.vhd_chain.specs.Reading.{chain_reads}
use Rattle.sm_machine.specs.Runs.{is_settling}
use Rattle.sm_machine.specs.declared.commands.Command.TheVariants.{Read}
use Rattle.sm_machine.specs.declared.replies.Reply.TheVariants.{Bytes}
use Rattle.sm_ready.specs.Known.{known, shape_in}
use Rattle.sm_ready.specs.Sessions.{store_state}
use Rattle.sm_ready.proofs.FramingLaws.{reads_between}
use Rattle.sm_ready.proofs.TruthLaws.{row_stands, row_true}
use Rattle.cmd_guest.proofs.ReadLaws.{read_bytes, read_range, read_reply, read_still, read_whole, taken_all}
use Rattle.cmd_guest.proofs.TakenLaws.{err_if, few_numbers, taken_keeps}
use Rattle.cmd_guest.proofs.reading.read.Given.{Over}
use Rattle.cmd_guest.proofs.reading.read.Goals as goal

pub overflow_mul-count : goal.overflow_mul-count
overflow_mul-count g c =
    let r = read_range (shape_in (g.S.Store.site c.args.store.now) (table_alone (g.S.Store.table c.args.store.now)) (known c.args.memory.now)) c.args.disk.now c.args.sector c.args.count c.requires.allowed in
    omega (arith, r.1)

pub returns-in_default-clause-taken : goal.returns-in_default-clause-taken
unfolding is_settling shape_in
returns-in_default-clause-taken g c = λ told ready.
    let none = reads_none {g = g.S.Store} c.args.store.now in
    taken_keeps g.S.Store c.args.store.now c.args.store.now c.args.memory.now (Read c.args.disk.now c.args.sector c.args.count) c.requires.session.orderly c.requires.session.usable told ready (g.met.S.Store.leaves_now c.args.store.now told c.requires.session.usable)
    none.stays (Keeps-same (none.held told)) (λ t image l. l) _ (inl refl)
    (read_still (store_state g.S.Store c.args.store.now c.args.memory.now) _ _ _ c.requires.allowed (few_numbers _ _ _ c.requires.session.orderly)) (λ yes settles. absurd (true≢false (sym settles)))

long : (g : Over) (c : goal.After-deref_mut g) → length c.deref_mut.result.now ≡ 512 * c.args.count
long g c = c.deref_mut.ensures.len ∙ c.in-Ok.ensures.len

pub read-requires-clause-stand : goal.read-requires-clause-stand
read-requires-clause-stand g c = λ r i. row_stands _ _ _ c.requires.session.orderly r i

pub read-requires-clause-true_now : goal.read-requires-clause-true_now
read-requires-clause-true_now g c = λ told r i. row_true g.S.Store c.args.store.now c.args.memory.now c.requires.session.orderly c.requires.session.true_images told r i

pub read-requires-clause-whole : goal.read-requires-clause-whole
read-requires-clause-whole g c = read_whole _ _ _ _ _ _ c.requires.session.orderly c.requires.allowed _ (long g c)

pub returns-in_err-read-clause-session_still : goal.returns-in_err-read-clause-session_still
returns-in_err-read-clause-session_still g c = reads_between c.args.memory.now c.read.ensures.reads_only c.requires.session

pub returns-clause-session_still : goal.returns-clause-session_still
returns-clause-session_still g c = reads_between c.args.memory.now c.read.ensures.reads_only c.requires.session

pub returns-in_err-read-clause-taken : goal.returns-in_err-read-clause-taken
unfolding shape_in
returns-in_err-read-clause-taken g c = λ told ready.
    let only = c.read.ensures.reads_only in
    taken_keeps g.S.Store c.args.store.now c.read.new.store c.args.memory.now (Read c.args.disk.now c.args.sector c.args.count) c.requires.session.orderly c.requires.session.usable told ready (g.met.S.Store.leaves_now c.args.store.now told c.requires.session.usable)
    only.stays (Keeps-same (only.held told)) (only.leaves told) c.from_residual.result (err_if _ c.from_residual.result c.from_residual.ensures.0)
    (read_still (store_state g.S.Store c.args.store.now c.args.memory.now) _ _ _ c.requires.allowed (few_numbers _ _ _ c.requires.session.orderly)) (err_if _ c.from_residual.result c.from_residual.ensures.0)

pub returns-clause-taken : goal.returns-clause-taken
unfolding is_settling shape_in
returns-clause-taken g c = λ told ready.
    let only = c.read.ensures.reads_only in
    let wide : length c.read.new.to ≡ 512 * c.args.count = c.read.auto.to ∙ c.deref_mut.ensures.len ∙ c.in-Ok.ensures.len in
    taken_keeps g.S.Store c.args.store.now c.read.new.store c.args.memory.now (Read c.args.disk.now c.args.sector c.args.count) c.requires.session.orderly c.requires.session.usable told ready (g.met.S.Store.leaves_now c.args.store.now told c.requires.session.usable)
    only.stays (Keeps-same (only.held told)) (only.leaves told) _
    (inr (ap Bytes (taken_all _ _ _ (wide ∙ sym c.in-Ok.ensures.len)
    ∙ read_bytes _ _ _ c.args.disk.now c.args.sector c.args.count c.requires.session.orderly c.requires.allowed _ c.read.new.to ready wide
    (λ k below. c.in_ok-read.ensures.read told k (omega arith) (omega (arith, below, wide)) ∙ ap (λ n. chain_reads (stored g.S.Store c.args.store.now) c.args.memory.now.tree.rows n (c.args.sector + k)) c.image_name-volume.ensures))
    ∙ sym (read_reply (store_state g.S.Store c.args.store.now c.args.memory.now) _ _ _ c.requires.allowed)))
    (read_still (store_state g.S.Store c.args.store.now c.args.memory.now) _ _ _ c.requires.allowed (few_numbers _ _ _ c.requires.session.orderly)) (λ yes settles. absurd (true≢false (sym settles)))
