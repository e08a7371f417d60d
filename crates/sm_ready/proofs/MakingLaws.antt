-- A command makes an image and the record of its disk in a store: a commit that makes the volume, marked new; work on it,
-- and the record; a commit that takes the mark away. What a stop leaves at each point, and what is known at the end.
use Rattle.std.proofs.Common.{◌≡◌, inr, ℕ, ◌*◌, ◌≤◌, true, false, List, set, Option, Some, refl, sym, ap, ap₂, ◌∙◌, subst, subst₂}
use Rattle.sm_base.specs.declared.names.Name.{Name}
use Rattle.sm_base.specs.declared.names.Name.TheVariants.{Mgt}
use Rattle.sm_disk.specs.Held.{Held, Keeps, Torn, Wrote, reads}
use Rattle.sm_disk.specs.Sectors.{sector}
use Rattle.sm_disk.proofs.HeldLaws.{torn_from_same, SameHeld-none}
use Rattle.sm_disk.proofs.SectorLaws.{sector-one}
use Rattle.vg_meta.specs.Tables.{VolumeTable, Row, rows}
use Rattle.vg_meta.specs.Changes.{HasRoom, Permits, applied, made}
use Rattle.vg_meta.specs.declared.changes.Change.TheVariants.{Create, Mark}
use Rattle.vg_meta.specs.declared.changes.Tag.TheVariants.{Fresh}
use Rattle.vg_volumes.specs.Sites.{Site, Fits, volume_of}
use Rattle.vg_volumes.specs.Stored.{stored, Stays, Writes, WorksOn, CanCommit, Commits, FailsToCommit, IsChoiceOf, IsEitherOf}
use Rattle.vg_volumes.specs.declared.stores.Store.{Ghosts}
use Rattle.vg_volumes.proofs.StoredLaws.{did_in, beside_in, size_stays}
use Rattle.vg_volumes.proofs.VolumeLaws.{KeepsAt-none, KeepsElsewhere-same}
use Rattle.vhd_chain.specs.declared.rows.TreeRow.{TreeRow}
use Rattle.vhd_chain.specs.Trees.{Tree, with_row}
use Rattle.sm_log.specs.Logs.{Log}
use Rattle.sm_machine.specs.Operations.{Op}
use Rattle.sm_refs.specs.Attached.{Attached}
use Rattle.vhd_image.specs.Steady.{IsSteady}
use Rattle.sm_machine.specs.Disks.{Disk, with_disk}
use Rattle.sm_machine.specs.WellFormed.{is_image_name}
use Rattle.sm_record.specs.declared.records.Record.{Record}
use Rattle.sm_record.specs.declared.records.Reading.TheVariants.{Taken}
use Rattle.sm_record.specs.Records.{IsRecord, record_sector, reading}
use Rattle.sm_record.proofs.RoundTrips.{sector_fits, reading_again}
use Rattle.sm_mgt.proofs.AgreeLaws.{agrees_put}
use Rattle.sm_mgt.specs.Places.{HasAllPlaces, place_count, records_held}
use Rattle.sm_standing.specs.Logs.{IsLogged}
use Rattle.sm_standing.specs.Standing.{disk_in, disks}
use Rattle.sm_ready.specs.Done.{HasDone, HasDoneFrom, IsCommit, at_rest}
use Rattle.sm_ready.specs.Known.{Known, known}
use Rattle.sm_ready.specs.Middle.{IsMiddle}
use Rattle.sm_ready.specs.Orderly.{IsOrderly}
use Rattle.sm_ready.specs.Ready.{IsTidy}
use Rattle.sm_ready.specs.Sessions.{IsOrderlyStore, IsReadyStore, IsTidyStore}
use Rattle.sm_ready.specs.Stores.{MayShow, StoreLeaves, content_in, content_now, store_content}
use Rattle.sm_ready.specs.declared.memory.Memory.{Memory}
use Rattle.sm_ready.proofs.ChainLaws.{tab, only_crash, still_before, might_show, commit_made, commit_failed, stopped_at}
use Rattle.sm_ready.proofs.CommitLaws.{IsSafe}
use Rattle.sm_ready.proofs.FirstLaws.{law_new}
use Rattle.sm_ready.proofs.LastLaws.{IsWritten, after, law_made, made_memory}
use Rattle.sm_ready.proofs.LeftLaws.{IsLeft, mgt_long}
use Rattle.sm_ready.proofs.LogLaws.{holds_keeps, holds_ready, logged_left}
use Rattle.sm_ready.proofs.MiddleLaws.{middle_safe}
use Rattle.sm_ready.proofs.NewLaws.{IsToMake, allowed, is_new, orderly_begun, fits_begun, there, stray, made_is, stepped_is, orderly_made, fits_made, tidy_made}
use Rattle.sm_ready.proofs.ReachLaws.{reached}
use Rattle.sm_ready.proofs.RepairLaws.{all_quiet}
use Rattle.sm_ready.proofs.RestLaws.{agrees_keeps}

-- the first sector of a record's bytes reads as the record
record_reads : (r : Record) → IsRecord r → reading (sector (record_sector r) 0) ≡ Taken r
record_reads r proper = ap reading (sector-one (record_sector r) (sector_fits r proper).long) ∙ reading_again r proper

-- ---- writes to a new volume, and the record that is put

module _ {S : Type 0} {g : Ghosts S} (m : Memory) (own : Name) (k : ℕ) (r : Record) (row : Row) (image : is_image_name own ≡ true) (proper : IsRecord r) {a : S} (o : IsOrderlyStore g a m)
    (there : rows (tab g a) own ≡ Some row) (fresh : row.fresh ≡ true) where
  -- while the volume is worked on
  pub middle_first : {b : S} → WorksOn g own a b → g.told → IsMiddle (g.site a) (tab g a) (known m) (g.area a) (g.area b) k r
  middle_first {b} first told =
      reached (g.site a) (tab g a) (known m) (g.area a) (g.area b) (g.area b) own k r row (record_sector r) o image there fresh (first.elsewhere told) (KeepsAt-none _ (g.area b))
      (torn_from_same k (record_sector r) (SameHeld-none (records_held (g.site a) (tab g a) (g.area b)))) (sector_fits r proper).long (record_reads r proper)

  -- and while the record goes into its place
  pub middle_then : {b d : S} → WorksOn g own a b → Writes g Mgt (Torn k (record_sector r)) b d → g.told → IsMiddle (g.site a) (tab g a) (known m) (g.area a) (g.area d) k r
  middle_then {b} {d} first second told =
      reached (g.site a) (tab g a) (known m) (g.area a) (g.area b) (g.area d) own k r row (record_sector r) o image there fresh (first.elsewhere told)
      (KeepsElsewhere-same (beside_in first.stays second told)) (did_in first.stays second told) (sector_fits r proper).long (record_reads r proper)

-- the volume of records has all places
pub places_stay : {S : Type 0} {g : Ghosts S} (m : Memory) {a b : S} → IsOrderlyStore g a m → Stays g a b → HasAllPlaces g b
places_stay {g = g} m {a} {b} o stays = subst (λ x. place_count ≤ x) (sym (size_stays Mgt stays)) (mgt_long (g.site a) (tab g a) (known m) o)

-- ---- the commits

-- what a command knows of a store
pub record MakesIn {S : Type 0} (g : Ghosts S) (a : S) (m : Memory) (own : Name) (es : List ℕ) (added : TreeRow) (k : ℕ) (r : Record) : Type 0 where
  pub begins : IsToMake (g.site a) (tab g a) (known m) own es added k r
  pub usable : g.failed a ≡ false

module _ {S : Type 0} {g : Ghosts S} {a : S} {m : Memory} {own : Name} {es : List ℕ} {added : TreeRow} {k : ℕ} {r : Record} (h : MakesIn g a m own es added k r) where
  abbrev made_known : Known
  made_known = made_memory added k r (known m)

  pub can_begin : HasRoom (g.table a) (Create own true es) → CanCommit g (Create own true es) a
  can_begin room = record {
    usable = h.usable;
    allowed = allowed (g.site a) (tab g a) (known m) own es added k r h.begins;
    room = room;
    fits = fits_begun (g.site a) (tab g a) (known m) own es added k r h.begins;
  }

  module _ {b : S} (c : Commits g (Create own true es) a b) where
    pub next_orderly : IsOrderlyStore g b m
    next_orderly = subst₂ (λ x y. IsOrderly x y (known m)) (sym c.site) (sym c.table) (orderly_begun (g.site a) (tab g a) (known m) own es added k r h.begins)

    pub next_there : rows (tab g b) own ≡ Some (made own true es)
    next_there = ap (λ y. rows y own) c.table ∙ there (g.site a) (tab g a) (known m) own es added k r h.begins

    module _ {d : S} (stays : Stays g b d) where
      pub can_end : CanCommit g (Mark own Fresh false) d
      can_end = record {
        usable = stays.failed ∙ c.usable;
        allowed = subst₂ (λ x y. Permits x.count y (Mark own Fresh false)) (sym (stays.site ∙ c.site)) (sym (stays.table ∙ c.table)) (made_is (g.site a) (tab g a) (known m) own es added k r h.begins).allows;
        room = tt;
        fits = subst₂ (λ x y. Fits x.count y (Mark own Fresh false)) (sym (stays.site ∙ c.site)) (sym (stays.table ∙ c.table)) (fits_made (g.site a) (tab g a) (known m) own es added k r h.begins);
      }

      module _ {f : S} (e : Commits g (Mark own Fresh false) d f) where
        pub table_end : tab g f ≡ after (applied (tab g a) (Create own true es)) own
        table_end = e.table ∙ ap (λ y. after y own) (stays.table ∙ c.table)

        pub orderly_end : (n : Memory) → known n ≡ made_known → IsOrderlyStore g f n
        orderly_end n is =
            subst₂ (λ x y. IsOrderly x y (known n)) (sym (e.site ∙ stays.site ∙ c.site)) (sym table_end)
            (subst (IsOrderly (g.site a) (after (applied (tab g a) (Create own true es)) own)) (sym is) (orderly_made (g.site a) (tab g a) (known m) own es added k r h.begins))

        pub tidy_end : (n : Memory) → known n ≡ made_known → IsTidyStore g f n
        tidy_end n is =
            subst₂ IsTidy (sym table_end) (sym is) (tidy_made (g.site a) (tab g a) (known m) own es added k r h.begins)

-- memory has the record in its place, then the image
pub known_made : (m f n : Memory) (added : TreeRow) (k : ℕ) (r : Record) → f.tree ≡ m.tree → f.logs ≡ m.logs → f.attached ≡ m.attached → f.operation ≡ m.operation → f.records ≡ set m.records k (Some r)
    → n.tree.rows ≡ with_row added f.tree.rows → n.records ≡ f.records → n.logs ≡ f.logs → n.attached ≡ f.attached → n.operation ≡ f.operation → known n ≡ made_memory added k r (known m)
known_made m f n added k r tree logs attached operation records rows_are records_are logs_are attached_are operation_is =
    ap₂ (λ (rs : List TreeRow) (ps : List (Option Record)). let x : Known = record { rows = rs; places = ps; logs = n.logs; attached = n.attached; op = n.operation } in x)
    (rows_are ∙ ap (λ (x : Tree). with_row added x.rows) tree) (records_are ∙ records)
    ∙ ap₂ (λ (x : Attached) (o : Op). let y : Known = record { rows = with_row added m.tree.rows; places = set m.records k (Some r); logs = n.logs; attached = x; op = o } in y) (attached_are ∙ attached) (operation_is ∙ operation)
    ∙ ap (λ (ls : List Log). let x : Known = record { rows = with_row added m.tree.rows; places = set m.records k (Some r); logs = ls; attached = m.attached; op = m.operation } in x) (logs_are ∙ logs)

-- ---- what a stop leaves, and what is done at the end

module _ {S : Type 0} {g : Ghosts S} {a : S} {m : Memory} {own : Name} {es : List ℕ} {added : TreeRow} {k : ℕ} {r : Record} (h : MakesIn g a m own es added k r) (told : g.told) (ready : IsReadyStore g a m) where
  abbrev s : Site
  s = g.site a

  abbrev t1 : VolumeTable
  t1 = applied (tab g a) (Create own true es)

  abbrev was : List Disk
  was = disks (store_content g a)

  first : {x : S} (ok : Type 0) → IsCommit s (tab g a) t1 (g.area a) (g.area x) (StoreLeaves g x) ok → HasDone s (tab g a) t1 (g.area a) (g.area x) (known m) (StoreLeaves g a) (StoreLeaves g x) ok was
  first {x} ok commit =
      law_new s (tab g a) (g.area a) (known m) own es h.begins.orderly ready (is_new s (tab g a) (known m) own es added k r h.begins) (g.area x) (StoreLeaves g a) (StoreLeaves g x) ok
      (λ image is. inr (told, h.usable, is)) commit

  pub begin_failed : {x : S} (n : Known) (ok : Type 0) (ds : List Disk) → (ok → ⊥) → n.logs ≡ (known m).logs → FailsToCommit g a x → ((v : VolumeTable) (image : ℕ → List ℕ) → g.leaves x v image → IsEitherOf (stored g a) (Create own true es) v image)
      → HasDone s (tab g a) (tab g x) (g.area a) (g.area x) n (StoreLeaves g a) (StoreLeaves g x) ok ds
  begin_failed {x} n ok ds never same_logs fails crash =
      let done = first ok (commit_failed g (Create own true es) ok never refl refl told fails crash) in
      only_crash never (λ v image l. let c = done.crash v image l in (c.0, still_before ds _ (might_show g h.usable told) c.1))
      (λ v image l. subst (IsLogged (content_in s v image)) (sym same_logs) (done.logged v image l))

  -- where it succeeded
  module _ {b : S} (c : Commits g (Create own true es) a b) (b_crash : (v : VolumeTable) (image : ℕ → List ℕ) → g.leaves b v image → IsEitherOf (stored g a) (Create own true es) v image)
      {d : S} (stays : Stays g b d) (middle : IsMiddle (g.site b) (tab g b) (known m) (g.area b) (g.area d) k r) where
    done_first : HasDone s (tab g a) t1 (g.area a) (g.area b) (known m) (StoreLeaves g a) (StoreLeaves g b) (Unit {0}) was
    done_first = first (Unit {0}) (commit_made g (Create own true es) (Unit {0}) refl refl told c b_crash)

    middle_here : IsMiddle s t1 (known m) (g.area b) (g.area d) k r
    middle_here = subst₂ (λ x y. IsMiddle x y (known m) (g.area b) (g.area d) k r) c.site c.table middle

    safe : IsSafe s t1 (g.area d) (StoreLeaves g a) was
    safe = middle_safe s t1 (known m) (g.area b) (g.area d) k r (StoreLeaves g a) was (orderly_begun s (tab g a) (known m) own es added k r h.begins) (done_first.ready tt)
        (stray s (tab g a) (known m) own es added k r h.begins) middle_here (all_quiet s t1 (g.area b) (c.settled told)) (done_first.shown tt) (might_show g h.usable told)

    pub fill_failed : (n : Known) (ok : Type 0) (ds : List Disk) → (ok → ⊥) → n.logs ≡ (known m).logs → ((v : VolumeTable) (image : ℕ → List ℕ) → g.leaves d v image → IsChoiceOf (stored g d) v image)
        → HasDone s (tab g a) (tab g d) (g.area a) (g.area d) n (StoreLeaves g a) (StoreLeaves g d) ok ds
    fill_failed n ok ds never same_logs choice = stopped_at g n ok ds never (stays.site ∙ c.site) (stays.table ∙ c.table) safe logged choice
      where
        begun : IsOrderly s t1 (known m)
        begun = orderly_begun s (tab g a) (known m) own es added k r h.begins

        logged : (image : ℕ → List ℕ) → IsLeft s (g.area d) image → IsLogged (content_in s t1 image) n.logs
        logged image left = subst (IsLogged (content_in s t1 image)) (sym same_logs)
            (logged_left (holds_keeps (holds_ready s t1 (g.area b) (known m) begun (done_first.ready tt)) (g.area d) middle_here.logs) begun.table image left)

    -- the image and the record are written
    module _ (mid : Held) (kept : Keeps (records_held (g.site b) (tab g b) (g.area b)) mid) (put : Wrote k (record_sector r) mid (records_held (g.site b) (tab g b) (g.area d)))
        (steady : IsSteady s.geometry (added.extents * s.geometry.extent) (volume_of s t1 (at_rest (reads (g.area d))) own) added.image)
        (made_disk : Disk) (disk_is : disk_in (content_now s (after t1 own) (at_rest (reads (g.area d)))) r.uuid r own ≡ made_disk) where
      written : IsWritten s t1 (known m) (g.area b) (g.area d) own added k r
      written = record {
        ready = done_first.ready tt;
        settled = all_quiet s t1 (g.area b) (c.settled told);
        middle = middle_here;
        agrees = agrees_put m.records r k mid (records_held s t1 (g.area d)) h.begins.recorded h.begins.placed
            (subst₂ (λ x y. Wrote k (record_sector r) mid (records_held x y (g.area d))) c.site c.table put)
            (agrees_keeps (records_held s t1 (g.area b)) mid m.records (subst₂ (λ x y. Keeps (records_held x y (g.area b)) mid) c.site c.table kept) (done_first.ready tt).records);
        steady = steady;
      }

      last : {x : S} (ok : Type 0) → IsCommit s t1 (after t1 own) (g.area d) (g.area x) (StoreLeaves g x) ok
          → HasDoneFrom s (after t1 own) (g.area x) (made_memory added k r (known m)) (StoreLeaves g a) (StoreLeaves g x) ok was (with_disk made_disk was)
      last {x} ok commit =
          subst₂ (λ p q. HasDoneFrom s (after t1 own) (g.area x) (made_memory added k r (known m)) (StoreLeaves g a) (StoreLeaves g x) ok p q) (done_first.shown tt) (ap₂ with_disk disk_is (done_first.shown tt))
          (law_made s t1 (known m) (g.area b) (g.area d) own added k r (made own true es) (made_is s (tab g a) (known m) own es added k r h.begins) (stepped_is s (tab g a) (known m) own es added k r h.begins) written
          (g.area x) (StoreLeaves g a) (StoreLeaves g x) ok (subst (MayShow s (StoreLeaves g a)) (sym (done_first.shown tt)) (might_show g h.usable told)) commit)

      pub end_failed : {x : S} (n : Known) (ok : Type 0) → (ok → ⊥) → n.logs ≡ (known m).logs → FailsToCommit g d x → ((v : VolumeTable) (image : ℕ → List ℕ) → g.leaves x v image → IsEitherOf (stored g d) (Mark own Fresh false) v image)
          → HasDone s (tab g a) (tab g x) (g.area a) (g.area x) n (StoreLeaves g a) (StoreLeaves g x) ok (with_disk made_disk was)
      end_failed n ok never same_logs fails crash =
          let done = last ok (commit_failed g (Mark own Fresh false) ok never (stays.site ∙ c.site) (stays.table ∙ c.table) told fails crash) in
          only_crash never done.crash (λ v image l. subst (IsLogged (content_in s v image)) (sym same_logs) (done.logged v image l))

      pub end_made : {x : S} (n : Memory) (ok : Type 0) → Commits g (Mark own Fresh false) d x → ((v : VolumeTable) (image : ℕ → List ℕ) → g.leaves x v image → IsEitherOf (stored g d) (Mark own Fresh false) v image)
          → known n ≡ made_memory added k r (known m) → HasDone s (tab g a) (tab g x) (g.area a) (g.area x) (known n) (StoreLeaves g a) (StoreLeaves g x) ok (with_disk made_disk was)
      end_made {x} n ok e crash memory =
          subst₂ (λ u z. HasDone s (tab g a) u (g.area a) (g.area x) z (StoreLeaves g a) (StoreLeaves g x) ok (with_disk made_disk was)) (sym (table_end h c stays e)) (sym memory)
          (last ok (commit_made g (Mark own Fresh false) ok (stays.site ∙ c.site) (stays.table ∙ c.table) told e crash))
