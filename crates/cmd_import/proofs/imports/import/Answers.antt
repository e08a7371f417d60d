use Rattle.std.proofs.Common.{◌≡◌, refl, ap, ap₂, ◌∙◌, subst, subst₂, IfOk}
use Rattle.vhd_import.specs.Progress.{FaultCounts}
use Rattle.sm_disk.proofs.HeldLaws.{Keeps-then}
use Rattle.vg_meta.specs.Roomy.{table_alone}
use Rattle.sm_ready.specs.Framing.{IsBetweenSteps}
use Rattle.sm_ready.specs.Known.{known, shape_in}
use Rattle.sm_ready.specs.declared.memory.Memory.{Memory}
use Rattle.sm_importing.specs.Disks.{target_of}
use Rattle.sm_importing.proofs.LowerLaws.{lower_then}
use Rattle.vhd_import.specs.declared.faults.ImportFault.TheVariants.{NoMemory, Refused}
use Rattle.cmd_import.specs.Ends.{IsCut}
use Rattle.cmd_import.specs.Importing.{HasNewImage, shape_of}
use Rattle.cmd_import.proofs.AnswerLaws.{answers_fault, answers_made}
use Rattle.cmd_import.proofs.BlockLaws.{blocks_below}
use Rattle.cmd_import.proofs.EndLaws.{few_ends, made_in}
use Rattle.cmd_import.proofs.ImportedLogs.{kept_imported}
use Rattle.cmd_import.proofs.EntryLaws.{entry_none, may_import, target_is}
use Rattle.cmd_import.proofs.StillLaws.{begin_of, end_counts, ends_still, since_new, untouched, with_memory}
use Rattle.cmd_import.proofs.imports.import.Goals as goal

pub returns-in-Some-clause-done : goal.returns-in-Some-clause-done
returns-in-Some-clause-done g c = λ told ready.
    ends_still g.S.Store c.args.uuid.now (g.R.Source.content c.args.source.now) c.args.memory c.args.memory c.args.store c.args.store (Refused c.in-Some.refusal) refl told
    (untouched g.S.Store c.args.store c.args.memory g.met.S.Store.leaves_now c.requires.session ready)

pub returns-in_default-new-clause-done : goal.returns-in_default-new-clause-done
returns-in_default-new-clause-done g c = λ told ready.
    ends_still g.S.Store c.args.uuid.now (g.R.Source.content c.args.source.now) c.args.memory c.args.memory c.args.store c.args.store NoMemory refl told
    (untouched g.S.Store c.args.store c.args.memory g.met.S.Store.leaves_now c.requires.session ready)

pub new-disk-requires-clause-may : goal.new-disk-requires-clause-may
new-disk-requires-clause-may g c =
    let s = g.S.Store.site c.args.store in
    let t = table_alone (g.S.Store.table c.args.store) in
    let r = c.requires.session in
    may_import s t (known c.args.memory) r.orderly r.tidy c.args.uuid.now
    (entry_none s t (known c.args.memory) r.orderly r.tidy (table_alone c.table.result.now) c.args.uuid.now c.refuse_import.result (ap table_alone c.table.ensures.table) c.refuse_import.ensures.exact c.in_default.is)

pub end_import-requires-clause-named : goal.end_import-requires-clause-named
end_import-requires-clause-named g c =
    let d = c.new-disk.ensures in
    (c.read_file.ensures.since (begin_of c.args.store c.args.memory c.args.uuid.now) (since_new g.S.Store c.args.store c.args.memory c.args.uuid.now _ _ _ _ _ d.store d.memory d.disk d.begun.0 d.begun.1)).disk

pub end_import-requires-clause-blocks : goal.end_import-requires-clause-blocks
end_import-requires-clause-blocks g c =
    let w = c.in-Ok-read_file.ensures.answered.1 in
    let n = c.read_file.new.disk in
    blocks_below n.filling (target_of n.sizes n.room) c.in-Ok-read_file.sectors w.puts w.held.1.blocks w.below

pub undo_import-requires : goal.undo_import-requires
undo_import-requires g c =
    let d = c.new-disk.ensures in
    record {
      named = (c.read_file.ensures.since (begin_of c.args.store c.args.memory c.args.uuid.now) (since_new g.S.Store c.args.store c.args.memory c.args.uuid.now _ _ _ _ _ d.store d.memory d.disk d.begun.0 d.begun.1)).disk;
    }

pub returns-in-Ok-read_file-clause-site : goal.returns-in-Ok-read_file-clause-site
returns-in-Ok-read_file-clause-site g c =
    let d = c.new-disk.ensures in
    let since = c.read_file.ensures.since (begin_of c.args.store c.args.memory c.args.uuid.now) (since_new g.S.Store c.args.store c.args.memory c.args.uuid.now _ _ _ _ _ d.store d.memory d.disk d.begun.0 d.begun.1) in
    c.end_import.ensures.site ∙ since.site

pub returns-in-Ok-read_file-clause-beside : goal.returns-in-Ok-read_file-clause-beside
returns-in-Ok-read_file-clause-beside g c = λ told.
    let d = c.new-disk.ensures in
    let since = c.read_file.ensures.since (begin_of c.args.store c.args.memory c.args.uuid.now) (since_new g.S.Store c.args.store c.args.memory c.args.uuid.now _ _ _ _ _ d.store d.memory d.disk d.begun.0 d.begun.1) in
    Keeps-then (since.beside told) (c.end_import.ensures.beside told)

pub returns-in-Ok-read_file-clause-answered : goal.returns-in-Ok-read_file-clause-answered
unfolding shape_in
returns-in-Ok-read_file-clause-answered g c =
    let s = g.S.Store.site c.args.store in
    let t = table_alone (g.S.Store.table c.args.store) in
    let r = c.requires.session in
    let d = c.new-disk.ensures in
    let since = c.read_file.ensures.since (begin_of c.args.store c.args.memory c.args.uuid.now) (since_new g.S.Store c.args.store c.args.memory c.args.uuid.now _ _ _ _ _ d.store d.memory d.disk d.begun.0 d.begun.1) in
    let none = entry_none s t (known c.args.memory) r.orderly r.tidy (table_alone c.table.result.now) c.args.uuid.now c.refuse_import.result (ap table_alone c.table.ensures.table) c.refuse_import.ensures.exact c.in_default.is in
    let w = c.in-Ok-read_file.ensures.answered.1 in
    answers_made (shape_of g.S.Store c.args.store c.args.memory) c.args.uuid.now none _ (ap₂ target_of d.sizes d.room ∙ target_is s t (known c.args.memory) r.orderly r.tidy)
    c.in-Ok-read_file.sectors w.puts (g.S.Store.site c.read_file.new.disk.store).geometry.block (ap (λ x. x.geometry.block) since.site)
    (g.R.Source.content c.args.source.now) c.end_import.result.0 w.made c.end_import.ensures.device c.end_import.ensures.size

pub returns-in-Ok-read_file-clause-done : goal.returns-in-Ok-read_file-clause-done
returns-in-Ok-read_file-clause-done g c = λ told ready.
    let s = g.S.Store.site c.args.store in
    let t = table_alone (g.S.Store.table c.args.store) in
    let r = c.requires.session in
    let d = c.new-disk.ensures in
    let o = begin_of c.args.store c.args.memory c.args.uuid.now in
    let since = c.read_file.ensures.since o (since_new g.S.Store c.args.store c.args.memory c.args.uuid.now _ _ _ _ _ d.store d.memory d.disk d.begun.0 d.begun.1) in
    let was = ap₂ target_of d.sizes d.room ∙ target_is s t (known c.args.memory) r.orderly r.tidy in
    let n = c.read_file.new.disk in
    c.end_import.ensures.ends o (g.R.Source.content c.args.source.now) since
    (made_in g.S.Store n.filling n.store (g.R.Source.content c.args.source.now) c.in-Ok-read_file.sectors c.args.store c.args.memory _ _ n.over was (c.read_file.ensures.target ∙ was) c.in-Ok-read_file.ensures.answered.1)
    told ready

pub returns-in-Err-clause-site : goal.returns-in-Err-clause-site
returns-in-Err-clause-site g c =
    let d = c.new-disk.ensures in
    let since = c.read_file.ensures.since (begin_of c.args.store c.args.memory c.args.uuid.now) (since_new g.S.Store c.args.store c.args.memory c.args.uuid.now _ _ _ _ _ d.store d.memory d.disk d.begun.0 d.begun.1) in
    c.undo_import.ensures.site ∙ since.site

pub returns-in-Err-clause-beside : goal.returns-in-Err-clause-beside
returns-in-Err-clause-beside g c = λ told.
    let d = c.new-disk.ensures in
    let since = c.read_file.ensures.since (begin_of c.args.store c.args.memory c.args.uuid.now) (since_new g.S.Store c.args.store c.args.memory c.args.uuid.now _ _ _ _ _ d.store d.memory d.disk d.begun.0 d.begun.1) in
    Keeps-then (since.beside told) (c.undo_import.ensures.beside told)

pub returns-in-Err-clause-answered : goal.returns-in-Err-clause-answered
returns-in-Err-clause-answered g c =
    let s = g.S.Store.site c.args.store in
    let t = table_alone (g.S.Store.table c.args.store) in
    let r = c.requires.session in
    let d = c.new-disk.ensures in
    let none = entry_none s t (known c.args.memory) r.orderly r.tidy (table_alone c.table.result.now) c.args.uuid.now c.refuse_import.result (ap table_alone c.table.ensures.table) c.refuse_import.ensures.exact c.in_default.is in
    answers_fault (shape_of g.S.Store c.args.store c.args.memory) c.args.uuid.now none _ (ap₂ target_of d.sizes d.room ∙ target_is s t (known c.args.memory) r.orderly r.tidy)
    g.S.Store (IsCut c.read_file.new.disk.begun c.read_file.new.disk.over) c.read_file.new.disk.store c.undo_import.result.1 c.in-Err.fault (g.R.Source.content c.args.source.now) c.undo_import.result.0 c.in-Err.ensures.answered.0 c.undo_import.ensures.answer c.undo_import.ensures.fails

pub returns-in-Err-clause-done : goal.returns-in-Err-clause-done
returns-in-Err-clause-done g c = λ told ready.
    let d = c.new-disk.ensures in
    let o = begin_of c.args.store c.args.memory c.args.uuid.now in
    let since = c.read_file.ensures.since o (since_new g.S.Store c.args.store c.args.memory c.args.uuid.now _ _ _ _ _ d.store d.memory d.disk d.begun.0 d.begun.1) in
    c.undo_import.ensures.ends o (g.R.Source.content c.args.source.now) since told ready

pub returns-in-Err-clause-counted : goal.returns-in-Err-clause-counted
returns-in-Err-clause-counted g c =
    let d = c.new-disk.ensures in
    let n = c.read_file.new.disk in
    let since = c.read_file.ensures.since (begin_of c.args.store c.args.memory c.args.uuid.now) (since_new g.S.Store c.args.store c.args.memory c.args.uuid.now _ _ _ _ _ d.store d.memory d.disk d.begun.0 d.begun.1) in
    end_counts g.S.Store c.args.store n.store c.undo_import.result.1 (IsCut n.begun n.over) c.in-Err.fault (g.R.Source.faults c.args.source.now) (g.R.Source.faults c.read_file.new.source) c.undo_import.result.0
    (subst (λ x. FaultCounts (g.R.Source.faults c.args.source.now) (g.R.Source.faults c.read_file.new.source) (g.S.Store.faults x) (g.S.Store.faults n.store) c.in-Err.fault) d.store c.in-Err.ensures.counts.1)
    (λ cut. since.failed cut.0 cut.1) since.counts c.undo_import.ensures.answer c.undo_import.ensures.fails

pub returns-in-Ok-read_file-clause-image : goal.returns-in-Ok-read_file-clause-image
returns-in-Ok-read_file-clause-image g c =
    let d = c.new-disk.ensures in
    let e = c.end_import in
    let since = c.read_file.ensures.since (begin_of c.args.store c.args.memory c.args.uuid.now) (since_new g.S.Store c.args.store c.args.memory c.args.uuid.now _ _ _ _ _ d.store d.memory d.disk d.begun.0 d.begun.1) in
    subst₂ (λ s m. IfOk e.result.0 (λ size. HasNewImage s (table_alone (g.S.Store.table e.result.1)) c.args.uuid.now c.args.now size m e.result.2)) since.site since.memory e.ensures.image

pub returns-in-Err-clause-restored : goal.returns-in-Err-clause-restored
returns-in-Err-clause-restored g c =
    let d = c.new-disk.ensures in
    let u = c.undo_import in
    let since = c.read_file.ensures.since (begin_of c.args.store c.args.memory c.args.uuid.now) (since_new g.S.Store c.args.store c.args.memory c.args.uuid.now _ _ _ _ _ d.store d.memory d.disk d.begun.0 d.begun.1) in
    with_memory (IsBetweenSteps g.S.Store u.result.1 u.result.2) (u.result.2 ≡ c.args.memory) u.result.0 u.ensures.restored (u.ensures.memory ∙ since.memory)

pub returns-in-Ok-read_file-clause-few : goal.returns-in-Ok-read_file-clause-few
returns-in-Ok-read_file-clause-few g c =
    let d = c.new-disk.ensures in
    let n = c.read_file.new.disk in
    let e = c.end_import in
    let since = c.read_file.ensures.since (begin_of c.args.store c.args.memory c.args.uuid.now) (since_new g.S.Store c.args.store c.args.memory c.args.uuid.now _ _ _ _ _ d.store d.memory d.disk d.begun.0 d.begun.1) in
    let had = since.few c.in-Ok-read_file.ensures.answered.1.held.0 c.in-Ok-read_file.ensures.begun in
    few_ends g.S.Store c.args.store n.store e.result.1 c.args.uuid.now n.disk e.result.0 since.disk had e.ensures.few e.ensures.extents

pub returns-in-Ok-read_file-clause-logs : goal.returns-in-Ok-read_file-clause-logs
returns-in-Ok-read_file-clause-logs g c =
    let d = c.new-disk.ensures in
    let since = c.read_file.ensures.since (begin_of c.args.store c.args.memory c.args.uuid.now) (since_new g.S.Store c.args.store c.args.memory c.args.uuid.now _ _ _ _ _ d.store d.memory d.disk d.begun.0 d.begun.1) in
    c.end_import.ensures.logs ∙ ap (λ (m : Memory). m.logs) since.memory

pub returns-in-Err-clause-logs : goal.returns-in-Err-clause-logs
returns-in-Err-clause-logs g c =
    let d = c.new-disk.ensures in
    let since = c.read_file.ensures.since (begin_of c.args.store c.args.memory c.args.uuid.now) (since_new g.S.Store c.args.store c.args.memory c.args.uuid.now _ _ _ _ _ d.store d.memory d.disk d.begun.0 d.begun.1) in
    ap (λ (m : Memory). m.logs) (c.undo_import.ensures.memory ∙ since.memory)

pub returns-in-Ok-read_file-clause-kept : goal.returns-in-Ok-read_file-clause-kept
returns-in-Ok-read_file-clause-kept g c = λ told ready good keeps.
    let s = g.S.Store.site c.args.store in
    let t = table_alone (g.S.Store.table c.args.store) in
    let r = c.requires.session in
    let d = c.new-disk.ensures in
    let o = begin_of c.args.store c.args.memory c.args.uuid.now in
    let since = c.read_file.ensures.since o (since_new g.S.Store c.args.store c.args.memory c.args.uuid.now _ _ _ _ _ d.store d.memory d.disk d.begun.0 d.begun.1) in
    let was = ap₂ target_of d.sizes d.room ∙ target_is s t (known c.args.memory) r.orderly r.tidy in
    let n = c.read_file.new.disk in
    let did = c.end_import.ensures.ends o (g.R.Source.content c.args.source.now) since
    (made_in g.S.Store n.filling n.store (g.R.Source.content c.args.source.now) c.in-Ok-read_file.sectors c.args.store c.args.memory _ _ n.over was (c.read_file.ensures.target ∙ was) c.in-Ok-read_file.ensures.answered.1)
    told ready in
    kept_imported r.orderly ready good did (c.end_import.ensures.logs ∙ ap (λ (m : Memory). m.logs) since.memory) (lower_then since.no_lower c.end_import.ensures.no_lower) told keeps

pub returns-in-Err-clause-kept : goal.returns-in-Err-clause-kept
returns-in-Err-clause-kept g c = λ told ready good keeps.
    let d = c.new-disk.ensures in
    let o = begin_of c.args.store c.args.memory c.args.uuid.now in
    let since = c.read_file.ensures.since o (since_new g.S.Store c.args.store c.args.memory c.args.uuid.now _ _ _ _ _ d.store d.memory d.disk d.begun.0 d.begun.1) in
    let did = c.undo_import.ensures.ends o (g.R.Source.content c.args.source.now) since told ready in
    kept_imported c.requires.session.orderly ready good did (ap (λ (m : Memory). m.logs) (c.undo_import.ensures.memory ∙ since.memory)) (lower_then since.no_lower c.undo_import.ensures.no_lower) told keeps
