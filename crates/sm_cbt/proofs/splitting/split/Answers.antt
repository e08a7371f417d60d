use Rattle.std.proofs.Common.{◌≤◌, ℕ, List, refl, sym, ap, subst, subst₂, ◌∙◌}
use Rattle.sm_base.specs.declared.names.Name.TheVariants.{Cbt}
use Rattle.vg_volumes.specs.Stored.{Leaves, sectors_in, stored}
use Rattle.sm_log.specs.Logs.{begun_anew, log_of, log_sectors, on_log}
use Rattle.sm_log.specs.declared.heads.Head.{Head}
use Rattle.sm_cbt.specs.Splitting.{FailsToSplit, IsInSplit, Splits}
use Rattle.sm_cbt.proofs.LogLaws.{begun_long, found_was, some_still, still_none, two_disks}
use Rattle.sm_cbt.proofs.MakeLaws.{on_err}
use Rattle.sm_cbt.proofs.MarkLaws.{log_disk, some_more}
use Rattle.sm_cbt.proofs.splitting.split.Goals as goal

pub unreachable-requires : goal.unreachable-requires
unreachable-requires g c =
    let is = c.begin.ensures ∙ ap (λ (h : Head). on_log c.args.disk.now (begun_anew h.tag) c.args.logs.now) c.head-tag.ensures in
    some_still c.args.disk.now (begun_anew c.args.twin.tag) c.args.logs.now c.begin.new.self (λ k. refl) is c.in_default.ensures c.requires.tracked

pub split_volumes-requires-clause-apart : goal.split_volumes-requires-clause-apart
split_volumes-requires-clause-apart g c = λ same.
    two_disks c.args.disk.now c.args.twin.disk c.args.logs.now c.requires.absent c.requires.tracked (same ∙ log_disk c.args.disk.now c.begin.new.self c.in-Some.log.now (sym c.in-Some.ensures))

pub split_volumes-requires-clause-some : goal.split_volumes-requires-clause-some
split_volumes-requires-clause-some g c =
    let is = c.begin.ensures ∙ ap (λ (h : Head). on_log c.args.disk.now (begun_anew h.tag) c.args.logs.now) c.head-tag.ensures in
    subst (λ (n : ℕ). 1 ≤ n) (sym (begun_long c.args.disk.now c.args.twin c.args.logs.now c.begin.new.self c.in-Some.log.now is c.in-Some.ensures c.requires.twin)) c.requires.may.some

pub split_volumes-requires-clause-room : goal.split_volumes-requires-clause-room
split_volumes-requires-clause-room g c =
    let is = c.begin.ensures ∙ ap (λ (h : Head). on_log c.args.disk.now (begun_anew h.tag) c.args.logs.now) c.head-tag.ensures in
    subst₂ (λ (n : ℕ) (u : List ℕ). log_sectors n ≤ sectors_in (stored g.S.Store c.args.store.now) (Cbt u))
    (sym (begun_long c.args.disk.now c.args.twin c.args.logs.now c.begin.new.self c.in-Some.log.now is c.in-Some.ensures c.requires.twin))
    (sym (log_disk c.args.disk.now c.begin.new.self c.in-Some.log.now (sym c.in-Some.ensures))) c.requires.room

pub returns-in_err-split_volumes-clause-crash : goal.returns-in_err-split_volumes-clause-crash
returns-in_err-split_volumes-clause-crash g c =
    let is = c.begin.ensures ∙ ap (λ (h : Head). on_log c.args.disk.now (begun_anew h.tag) c.args.logs.now) c.head-tag.ensures in
    found_was c.args.disk.now (begun_anew c.args.twin.tag) (λ k. Leaves g.S.Store c.split_volumes.new.store (IsInSplit (stored g.S.Store c.args.store.now) c.args.twin k c.args.extents.items))
    c.args.logs.now c.begin.new.self c.in-Some.log.now (λ k. refl) is c.in-Some.ensures c.split_volumes.ensures.crash

pub returns-in_err-split_volumes-clause-fails : goal.returns-in_err-split_volumes-clause-fails
returns-in_err-split_volumes-clause-fails g c =
    let is = c.begin.ensures ∙ ap (λ (h : Head). on_log c.args.disk.now (begun_anew h.tag) c.args.logs.now) c.head-tag.ensures in
    some_more (log_of c.args.disk.now c.args.logs.now) (λ k. FailsToSplit g.S.Store c.args.twin (begun_anew c.args.twin.tag k) c.args.extents.items c.args.store.now c.split_volumes.new.store) _
    (λ k h. on_err _ h)
    (found_was c.args.disk.now (begun_anew c.args.twin.tag) (λ k. FailsToSplit g.S.Store c.args.twin k c.args.extents.items c.args.store.now c.split_volumes.new.store)
    c.args.logs.now c.begin.new.self c.in-Some.log.now (λ k. refl) is c.in-Some.ensures c.in_err-split_volumes.ensures.fails)

pub insert-requires-clause-absent : goal.insert-requires-clause-absent
insert-requires-clause-absent g c =
    ap (log_of c.args.twin.disk) c.begin.ensures ∙ still_none c.args.disk.now c.args.twin.disk (begun_anew c.head-tag.result.tag) c.args.logs.now (λ k. refl) c.requires.absent

pub returns-clause-crash : goal.returns-clause-crash
returns-clause-crash g c =
    let is = c.begin.ensures ∙ ap (λ (h : Head). on_log c.args.disk.now (begun_anew h.tag) c.args.logs.now) c.head-tag.ensures in
    found_was c.args.disk.now (begun_anew c.args.twin.tag) (λ k. Leaves g.S.Store c.split_volumes.new.store (IsInSplit (stored g.S.Store c.args.store.now) c.args.twin k c.args.extents.items))
    c.args.logs.now c.begin.new.self c.in-Some.log.now (λ k. refl) is c.in-Some.ensures c.split_volumes.ensures.crash

pub returns-clause-splits : goal.returns-clause-splits
returns-clause-splits g c =
    let is = c.begin.ensures ∙ ap (λ (h : Head). on_log c.args.disk.now (begun_anew h.tag) c.args.logs.now) c.head-tag.ensures in
    found_was c.args.disk.now (begun_anew c.args.twin.tag) (λ k. Splits g.S.Store c.args.twin k c.args.extents.items c.args.store.now c.split_volumes.new.store)
    c.args.logs.now c.begin.new.self c.in-Some.log.now (λ k. refl) is c.in-Some.ensures c.in_ok-split_volumes.ensures.splits
