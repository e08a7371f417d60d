use Rattle.std.proofs.Common.{◌≡◌, ◌+◌, false, List, Ok, Option, None, Some, drop, length, take, ap, sym, subst, subst₂, ◌∙◌, arith}
use Rattle.std.specs.Prelude.{IfNone, IfSome}
use Rattle.vg_meta.specs.Roomy.{table_alone}
use Rattle.vg_volumes.specs.Sites.{Site}
use Rattle.vg_volumes.specs.Stored.{stored}
use Rattle.vg_volumes.proofs.StoredLaws.{reads_then}
use Rattle.sm_log.specs.Logs.{Log}
use Rattle.sm_standing.specs.Contents.{Content}
use Rattle.sm_log_reading.specs.Reading.{IsReadOf, content_of}
use Rattle.sm_log_reading.specs.Right.{AreNumbered, AreReadOf, is_tag_wrong, is_to_read, logs_behind, next_log}
use Rattle.sm_log_reading.proofs.ReadOf.{all_read, next_read, next_skipped}
use Rattle.sm_log_reading.proofs.NumberLaws.{more_numbered}
use Rattle.sm_log_reading.proofs.NextLaws.{behind_end, behind_next, behind_wrong, content_same, later_reason, length-with_log}
use Rattle.sm_log_reading.proofs.logs.read_logs.Goals as goal

none_there : {P : Type 0} (o : Option Log) → o ≡ None → IfNone o P → P
none_there None is p = p
none_there (Some l) is p = absurd cc

some_there : (P : Log → Type 0) (o : Option Log) (l : Log) → o ≡ Some l → IfSome o P → P l
some_there P None l is p = absurd cc
some_there P (Some k) l is p = let same : k ≡ l = cc in subst P same p

pub returns-in-Err-clause-only : goal.returns-in-Err-clause-only
returns-in-Err-clause-only g c = reads_then c.loop-disk.invariant.only c.read_next.ensures.only

pub returns-in-Err-clause-cause : goal.returns-in-Err-clause-cause
returns-in-Err-clause-cause g c =
    let i = c.loop-disk.invariant in
    let d = c.disk-item.result in
    let now = content_of (stored g.S.Store c.args.store.now) in
    later_reason g.S.Store c.args.store.now c.loop-disk.store c.read_next.new.store c.in-Err.fault i.calm
    (λ told u wrong. sym (i.so_far told) ∙ behind_wrong now c.loop-disk.logs c.args.disks.now c.loop-disk.disk-index d u c.loop-disk-test.true c.disk-item.is
    (sym (ap (λ (x : Content). next_log x c.loop-disk.logs d) (content_same i.only told)) ∙ wrong)) c.in-Err.ensures.cause

pub loop-disk-preserved-in_default-found : goal.loop-disk-preserved-in_default-found
loop-disk-preserved-in_default-found g c =
    let i = c.loop-disk.invariant in
    let d = c.disk-item.result in
    let now = content_of (stored g.S.Store c.args.store.now) in
    record {
      calm = c.in-Ok-read_next.ensures.calm (λ is. absurd cc) ∙ i.calm;
      only = reads_then i.only c.read_next.ensures.only;
      few = omega (arith, i.few);
      read = next_skipped (table_alone (g.S.Store.table c.args.store.now)) (g.S.Store.site c.args.store.now).geometry.extent c.args.disks.now c.loop-disk.disk-index c.loop-disk.logs d c.loop-disk-test.true c.disk-item.is i.read
          (subst (λ t. is_to_read t c.loop-disk.logs d ≡ false) i.only.stays.table (none_there c.in-Ok-read_next.found c.in_default-found.is c.in-Ok-read_next.ensures.none));
      numbered = i.numbered;
      so_far = λ told. sym (behind_next now c.loop-disk.logs c.args.disks.now c.loop-disk.disk-index d _ c.loop-disk-test.true c.disk-item.is
          (sym (ap (λ (x : Content). next_log x c.loop-disk.logs d) (content_same i.only told)) ∙ c.in-Ok-read_next.ensures.next told ∙ ap Ok c.in_default-found.is)) ∙ i.so_far told;
    }

pub loop-disk-preserved : goal.loop-disk-preserved
loop-disk-preserved g c =
    let i = c.loop-disk.invariant in
    let d = c.disk-item.result in
    let now = content_of (stored g.S.Store c.args.store.now) in
    record {
      calm = c.in-Ok-read_next.ensures.calm (λ is. absurd cc) ∙ i.calm;
      only = reads_then i.only c.read_next.ensures.only;
      few = omega (arith, i.few, ap length c.insert.ensures, length-with_log c.in-Some.log c.loop-disk.logs);
      read = subst (AreReadOf (table_alone (g.S.Store.table c.args.store.now)) (g.S.Store.site c.args.store.now).geometry.extent (take (c.loop-disk.disk-index + 1) c.args.disks.now)) (sym c.insert.ensures)
          (next_read (table_alone (g.S.Store.table c.args.store.now)) (g.S.Store.site c.args.store.now).geometry.extent c.args.disks.now c.loop-disk.disk-index c.loop-disk.logs d c.in-Some.log c.loop-disk-test.true c.disk-item.is i.read
          (some_there _ c.in-Ok-read_next.found c.in-Some.log c.in-Some.is c.in-Ok-read_next.ensures.absent)
          (subst₂ (λ (s : Site) t. IsReadOf t s.geometry.extent d.disk d.pieces c.in-Some.log) i.only.stays.site i.only.stays.table (some_there _ c.in-Ok-read_next.found c.in-Some.log c.in-Some.is c.in-Ok-read_next.ensures.own)));
      numbered = subst (AreNumbered (table_alone (g.S.Store.table c.args.store.now)).sequence) (sym c.insert.ensures)
          (more_numbered (table_alone (g.S.Store.table c.args.store.now)).sequence c.loop-disk.logs c.in-Some.log i.numbered
          (subst (λ t. is_tag_wrong t.sequence c.loop-disk.logs c.in-Some.log ≡ false) i.only.stays.table (some_there _ c.in-Ok-read_next.found c.in-Some.log c.in-Some.is c.in-Ok-read_next.ensures.numbered)));
      so_far = λ told. ap (λ (ls : List Log). logs_behind now ls (drop (c.loop-disk.disk-index + 1) c.args.disks.now)) c.insert.ensures
          ∙ sym (behind_next now c.loop-disk.logs c.args.disks.now c.loop-disk.disk-index d _ c.loop-disk-test.true c.disk-item.is
          (sym (ap (λ (x : Content). next_log x c.loop-disk.logs d) (content_same i.only told)) ∙ c.in-Ok-read_next.ensures.next told ∙ ap Ok c.in-Some.is)) ∙ i.so_far told;
    }

pub returns-clause-read : goal.returns-clause-read
returns-clause-read g c =
    all_read (table_alone (g.S.Store.table c.args.store.now)) (g.S.Store.site c.args.store.now).geometry.extent c.args.disks.now c.loop-disk.disk-index c.loop-disk.logs (omega (arith, c.loop-disk-test.false)) c.loop-disk.invariant.read

pub returns-clause-logs : goal.returns-clause-logs
returns-clause-logs g c = λ told.
    sym (c.loop-disk.invariant.so_far told) ∙ behind_end (content_of (stored g.S.Store c.args.store.now)) c.loop-disk.logs c.args.disks.now c.loop-disk.disk-index (omega (arith, c.loop-disk-test.false))
