-- Logs, one after the other.
use Rattle.std.proofs.Common.{◌≡◌, ℕ, ◌+◌, ◌<◌, ◌≤◌, true, false, List, length, get_or, drop, Option, None, Result, Ok, Err, sym, ap, ap₂, subst, suc, ◌∙◌}
use mathlib.Core.Path.{fun_ext}
use Rattle.std.proofs.lemmas.Bool.{cond-true, cond-false}
use Rattle.std.proofs.lemmas.List.{drop_more}
use Rattle.std.proofs.Math.ListN.{drop_of_length-le}
use Rattle.sm_disk.specs.Held.{Rose, reads}
use Rattle.sm_disk.proofs.HeldLaws.{reads-same}
use Rattle.vg_meta.specs.Tables.{VolumeTable}
use Rattle.vg_meta.specs.Roomy.{table_alone}
use Rattle.vg_volumes.specs.Sites.{Site}
use Rattle.vg_volumes.specs.Stored.{OnlyReads, stored}
use Rattle.vg_volumes.specs.declared.stores.Store.{Ghosts}
use Rattle.common_laws.proofs.Lists.{length-insert_by}
use Rattle.sm_log.specs.Logs.{Log, log_before, with_log}
use Rattle.sm_standing.specs.Contents.{Content}
use Rattle.sm_log_reading.specs.Reading.{content_of}
use Rattle.sm_log_reading.specs.Right.{IsNotRead, is_to_read, judged_log, logs_behind, next_log, with_next}
use Rattle.sm_log_reading.specs.declared.logs.DiskPieces.{DiskPieces}
use Rattle.sm_log_reading.specs.declared.logs.LogFault.{LogFault}
use Rattle.sm_log_reading.specs.declared.logs.LogFault.TheVariants as fault

-- ---- a store that was only read

abbrev made : Site → VolumeTable → (ℕ → List ℕ) → Content
made s t area = record { extent = s.geometry.extent; block = s.geometry.block; entries = s.geometry.entries; count = s.count; table = t; area = area }

-- what stands there is the same
pub content_same : {S : Type 0} {g : Ghosts S} {a b : S} → OnlyReads g a b → g.told → content_of (stored g b) ≡ content_of (stored g a)
content_same {S} {g} {a} {b} r told =
    ap₂ (λ (s : Site) (t : VolumeTable). made s t (reads (g.area b))) r.stays.site r.stays.table
    ∙ ap (made (g.site a) (table_alone (g.table a))) (fun_ext (λ p. reads-same (r.held told) p))

-- the reason is the same
pub same_reason : {S : Type 0} (g : Ghosts S) {P Q : List ℕ → Type 0} (old new : S) (e : LogFault) → (g.told → (u : List ℕ) → P u → Q u) → IsNotRead g P old new e → IsNotRead g Q old new e
same_reason g old new (fault.Log u) f h = λ told. f told u (h told)
same_reason g old new fault.Device f h = h
same_reason g old new fault.NoMemory f h = tt

-- and so it is where nothing failed before
pub later_reason : {S : Type 0} (g : Ghosts S) {P Q : List ℕ → Type 0} (old mid new : S) (e : LogFault) → g.faults mid ≡ g.faults old → (g.told → (u : List ℕ) → P u → Q u)
    → IsNotRead g P mid new e → IsNotRead g Q old new e
later_reason g old mid new (fault.Log u) same f h = λ told. f told u (h told)
later_reason g old mid new fault.Device same f h = subst (λ (k : ℕ). Rose k (g.faults new)) same h
later_reason g old mid new fault.NoMemory same f h = tt

-- ---- one disk

pub next_none : (c : Content) (earlier : List Log) (d : DiskPieces) → is_to_read c.table earlier d ≡ false → next_log c earlier d ≡ Ok None
unfolding next_log
next_none c earlier d not_there = cond-false (is_to_read c.table earlier d) (judged_log c earlier d) (Ok None) not_there

pub next_judged : (c : Content) (earlier : List Log) (d : DiskPieces) → is_to_read c.table earlier d ≡ true → next_log c earlier d ≡ judged_log c earlier d
unfolding next_log
next_judged c earlier d there = cond-true (is_to_read c.table earlier d) (judged_log c earlier d) (Ok None) there

-- ---- one disk after the other

-- its log goes in
pub behind_next : (c : Content) (earlier : List Log) (ds : List DiskPieces) (i : ℕ) (d : DiskPieces) (found : Option Log) → i < length ds → d ≡ get_or ds i d → next_log c earlier d ≡ Ok found
    → logs_behind c earlier (drop i ds) ≡ logs_behind c (with_next found earlier) (drop (i + 1) ds)
unfolding logs_behind
behind_next c earlier ds i d found below here is =
    ap (logs_behind c earlier) (drop_more ds i d below)
    ∙ ap (λ (r : Result (Option Log) (List ℕ)). elim r as (λ _. Result (List Log) (List ℕ)) [ Ok o ↦ logs_behind c (with_next o earlier) (drop (i + 1) ds) | Err u ↦ Err u ]) (ap (next_log c earlier) (sym here) ∙ is)

-- or it is wrong
pub behind_wrong : (c : Content) (earlier : List Log) (ds : List DiskPieces) (i : ℕ) (d : DiskPieces) (u : List ℕ) → i < length ds → d ≡ get_or ds i d → next_log c earlier d ≡ Err u
    → logs_behind c earlier (drop i ds) ≡ Err u
unfolding logs_behind
behind_wrong c earlier ds i d u below here is =
    ap (logs_behind c earlier) (drop_more ds i d below)
    ∙ ap (λ (r : Result (Option Log) (List ℕ)). elim r as (λ _. Result (List Log) (List ℕ)) [ Ok o ↦ logs_behind c (with_next o earlier) (drop (i + 1) ds) | Err v ↦ Err v ]) (ap (next_log c earlier) (sym here) ∙ is)

-- no disk is left
pub behind_end : (c : Content) (earlier : List Log) (ds : List DiskPieces) (i : ℕ) → length ds ≤ i → logs_behind c earlier (drop i ds) ≡ Ok earlier
unfolding logs_behind
behind_end c earlier ds i past = ap (logs_behind c earlier) (drop_of_length-le ds past)

pub length-with_log : (l : Log) (earlier : List Log) → length (with_log l earlier) ≡ suc (length earlier)
unfolding with_log
length-with_log l earlier = length-insert_by log_before l earlier
