-- The moments of an import, by site, table and sectors: the volume is made, grows or goes, and is written to. Behind each of them memory is
-- ready at rest, what is pending is pending in that volume alone, and a stop leaves the disks from before.
use Rattle.std.proofs.Common.{◌≡◌, ◌≢◌, inl, ℕ, ◌*◌, true, List, Some, refl, sym, ap, ◌∙◌, subst}
use Rattle.std.proofs.Math.Logic.{∥∥₁_elim}
use Rattle.std.proofs.Props.{props}
use Rattle.std.proofs.lemmas.Option.{none-some}
use Rattle.std.proofs.lemmas.Bool.{true≢false}
use Rattle.sm_base.specs.declared.names.Name.{Name}
use Rattle.sm_base.specs.declared.names.Name.TheVariants.{Mgt, Cbt}
use Rattle.sm_disk.specs.Held.{Held, Keeps, May, reads}
use Rattle.sm_disk.proofs.HeldLaws.{Keeps-then, May-reads, may_settled}
use Rattle.vg_meta.specs.Tables.{VolumeTable, Row, extents_of, rows}
use Rattle.vg_meta.specs.Changes.{applied}
use Rattle.vg_meta.specs.declared.changes.Change.{Change}
use Rattle.vg_meta.specs.declared.changes.Change.TheVariants.{Create}
use Rattle.vg_volumes.specs.Sites.{Site, volume_of}
use Rattle.vg_volumes.specs.Stored.{Stored}
use Rattle.vg_volumes.specs.Volumes.{KeepsElsewhere}
use Rattle.vg_volumes.proofs.VolumeLaws.{KeepsAt-none, KeepsAt-then, Keeps-volume}
use Rattle.common_laws.specs.Lists.{In}
use Rattle.sm_machine.specs.Disks.{Disk}
use Rattle.sm_machine.specs.WellFormed.{is_image_name}
use Rattle.sm_mgt.specs.Places.{records_held}
use Rattle.sm_record.specs.declared.records.Record.{Record}
use Rattle.sm_standing.specs.Images.{image_of}
use Rattle.sm_standing.specs.Standing.{disks}
use Rattle.vhd_chain.specs.declared.rows.TreeRow.{TreeRow}
use Rattle.vhd_chain.specs.Trees.{row_name, tree_row}
use Rattle.sm_ready.specs.Done.{at_rest}
use Rattle.sm_ready.specs.Known.{Known, shape_in}
use Rattle.sm_ready.specs.Middle.{IsMiddle, IsStray}
use Rattle.sm_ready.specs.Orderly.{IsOrderly}
use Rattle.sm_ready.specs.Ready.{IsReady}
use Rattle.sm_ready.specs.Runs.{committed}
use Rattle.sm_ready.specs.Stores.{Leaving, MayShow, content_now}
use Rattle.sm_ready.proofs.AfterLaws.{other_keeps}
use Rattle.sm_ready.proofs.BesideLaws.{IsAlone, IsBeside, disks_beside, orderly_beside, ready_beside}
use Rattle.sm_ready.proofs.CommitLaws.{volume_rested}
use Rattle.sm_ready.proofs.FirstLaws.{IsNew, disks_new, ready_new}
use Rattle.sm_ready.proofs.FreshLaws.{orderly_new}
use Rattle.sm_ready.proofs.LeftLaws.{extent_some, image_quiet, left_now}
use Rattle.sm_ready.proofs.MiddleLaws.{middle_disks, middle_in, middle_safe}
use Rattle.sm_ready.proofs.OperationLaws.{below_alike}
use Rattle.sm_ready.proofs.Orders.{new_unrowed}
use Rattle.sm_ready.proofs.RestLaws.{agrees_keeps, keeps_rest, steady_keeps}
use Rattle.sm_ready.proofs.LogLaws.{HoldsLogs, holds_keeps, holds_ready, logged_left}
use Rattle.sm_ready.proofs.LogRows.{name_apart}
use Rattle.sm_ready.proofs.RowLaws.{image_named, tree_found}
use Rattle.sm_ready.proofs.ShapeLaws.{mgt_image}
use Rattle.sm_calls.specs.Calls.{IsFine, IsReadyWith, ShowsBetween, worked}
use Rattle.sm_calls.proofs.StoreLaws.{ready_fine, safe_fine}
use Rattle.sm_importing.specs.Imports.{IsFilling}

-- what stands at a site
abbrev pub at : Site → VolumeTable → Held → Stored
at s t area = record { site = s; table = t; area = area }

-- ---- the volume is made

module _ (s : Site) (t : VolumeTable) (area : Held) (m : Known) (x : Name) (es : List ℕ) (was : List Disk) (before : Leaving) (o : IsOrderly s t m) (ready : IsReady s t area m) (h : IsNew s t m x es)
    (shown : disks (content_now s t area) ≡ was) where
  made_orderly : IsOrderly s (applied t (Create x true es)) m
  made_orderly = orderly_new s t m x es o h.no_new h.allows h.image h.few h.right

  made_shown : disks (content_now s (applied t (Create x true es)) (at_rest (reads area))) ≡ was
  made_shown = disks_new s t area m x es o ready h ∙ shown

  pub made_fine : IsFine (ShowsBetween s before was was m.logs) (committed (at s t area) (Create x true es))
  made_fine = ready_fine s (applied t (Create x true es)) m (reads area) before was was made_orderly (ready_new s t area m x es o ready h) made_shown

  pub made_filling : IsFilling m x was (committed (at s t area) (Create x true es))
  made_filling = record { ready = ready_new s t area m x es o ready h; beside = KeepsAt-none _ (at_rest (reads area)); shown = made_shown }

-- ---- it grows or goes

module _ (s : Site) (t : VolumeTable) (area : Held) (m : Known) (x : Name) (r : Row) (c : Change) (was : List Disk) (before : Leaving) (o : IsOrderly s t m) (f : IsFilling m x was (at s t area)) (h : IsBeside s t x r c)
    (alone : IsAlone t x c) where
  then_ready : IsReady s (applied t c) (at_rest (reads area)) m
  then_ready = ready_beside s t (at_rest (reads area)) m x r c o f.ready h alone

  then_shown : disks (content_now s (applied t c) (at_rest (reads area))) ≡ was
  then_shown = disks_beside s t (at_rest (reads area)) m x r c o f.ready h alone ∙ f.shown

  pub then_fine : IsFine (ShowsBetween s before was was m.logs) (committed (at s t area) c)
  then_fine = ready_fine s (applied t c) m (reads area) before was was (orderly_beside s t m x r c o h alone) then_ready then_shown

  pub then_filling : IsFilling m x was (committed (at s t area) c)
  then_filling = record { ready = then_ready; beside = KeepsAt-none _ (at_rest (reads area)); shown = then_shown }

  pub then_rested : IsReadyWith m was (committed (at s t area) c)
  then_rested = record { ready = then_ready; settled = λ p. refl; shown = then_shown }

-- ---- it is written to

-- no image in memory has the name of a new volume
pub image_away : (s : Site) (t : VolumeTable) (m : Known) (x : Name) (r : Row) → IsOrderly s t m → is_image_name x ≡ true → rows t x ≡ Some r → r.fresh ≡ true → (q : TreeRow) → In q m.rows → row_name q ≢ x
unfolding shape_in
image_away s t m x r o image there fresh q i same = ∥∥₁_elim o.well_formed (hlevel props) (λ w.
    none-some q (sym (new_unrowed s t m x r o (image_named x image) there fresh) ∙ ap (tree_row m.rows) (sym same) ∙ tree_found m.rows q w.one_image i))

module _ (s : Site) (t : VolumeTable) (area new : Held) (m : Known) (x : Name) (r : Row) (was : List Disk) (o : IsOrderly s t m) (image : is_image_name x ≡ true) (there : rows t x ≡ Some r) (fresh : r.fresh ≡ true)
    (f : IsFilling m x was (at s t area)) (wrote : KeepsElsewhere s.geometry.extent (extents_of (rows t x)) area new) (k : ℕ) (entry : Record) (stray : IsStray m k entry) where
  abbrev base : Held
  base = at_rest (reads area)

  kept : KeepsElsewhere s.geometry.extent (extents_of (rows t x)) base new
  kept = KeepsAt-then f.beside wrote

  volume_kept : (n : Name) → n ≢ x → Keeps (volume_of s t base n) (volume_of s t new n)
  volume_kept n other = other_keeps s t base new x n o.table (extent_some s t m o) kept other

  records_away : Mgt ≢ x
  records_away same = true≢false (sym image ∙ ap is_image_name (sym same) ∙ mgt_image)

  middle : IsMiddle s t m base new k entry
  middle = record {
    images = λ q i. volume_kept (row_name q) (image_away s t m x r o image there fresh q i);
    logs = λ v. volume_kept (Cbt v) (name_apart x image v);
    records = λ p v below may. inl ((volume_kept Mgt records_away).may p v may);
  }

  rested : (n : Name) → n ≢ x → Keeps (volume_of s t base n) (volume_of s t (at_rest (reads new)) n)
  rested n other = Keeps-then (volume_kept n other) (Keeps-volume s.geometry.extent (extents_of (rows t n)) (keeps_rest new))

  image_same : (n : Name) → image_of (content_now s t (at_rest (reads new))) n ≡ image_of (content_now s t base) n
  image_same n = image_quiet s t base m (reads new) n o f.ready.firm (middle_in s t m base new k entry o f.ready stray.within middle (reads new) (left_now s new)) (volume_rested s t (reads area) n)

  base_logs : HoldsLogs s t base m.logs
  base_logs = holds_ready s t base m o f.ready

  wrote_ready : IsReady s t (at_rest (reads new)) m
  wrote_ready = record {
    firm = record {
      images = λ q i. steady_keeps s.geometry (q.extents * s.geometry.extent) (volume_of s t base (row_name q)) (volume_of s t (at_rest (reads new)) (row_name q)) q.image
          (rested (row_name q) (image_away s t m x r o image there fresh q i)) (f.ready.firm.images q i);
      quiet = λ q i _. volume_rested s t (reads new) (row_name q);
      below = below_alike (content_now s t base) (content_now s t (at_rest (reads new))) m.op refl refl (λ n _. image_same n) f.ready.firm.below;
    };
    records = agrees_keeps (records_held s t base) (records_held s t (at_rest (reads new))) m.places (rested Mgt records_away) f.ready.records;
    recorded = volume_rested s t (reads new) Mgt;
    logs = (holds_keeps base_logs (at_rest (reads new)) (λ v. rested (Cbt v) (name_apart x image v))).logs;
    logged = λ v. volume_rested s t (reads new) (Cbt v);
  }

  wrote_beside : KeepsElsewhere s.geometry.extent (extents_of (rows t x)) (at_rest (reads new)) new
  wrote_beside = record {
    reads = λ p away. refl;
    may = λ p v away may. subst (λ y. May (at_rest (reads new)) p y) (sym (may_settled base p v refl (kept.may p v away may) ∙ sym (kept.reads p away))) (May-reads (at_rest (reads new)) p);
  }

  pub wrote_filling : IsFilling m x was (at s t new)
  wrote_filling = record {
    ready = wrote_ready;
    beside = wrote_beside;
    shown = middle_disks s t m base new k entry o f.ready stray middle (reads new) (left_now s new) (volume_rested s t (reads area)) ∙ f.shown;
  }

  pub wrote_fine : (before : Leaving) → MayShow s before was → IsFine (ShowsBetween s before was was m.logs) (worked (at s t area) new)
  wrote_fine before might = safe_fine m.logs was (middle_safe s t m base new k entry before was o f.ready stray middle (volume_rested s t (reads area)) f.shown might)
      (logged_left (holds_keeps base_logs new middle.logs) o.table)
