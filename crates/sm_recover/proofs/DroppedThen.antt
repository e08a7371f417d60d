-- While logs of no use go, and behind them: what a stop leaves is a content that an opening may leave, and what is known of memory holds beside the
-- table that is left.
use Rattle.std.proofs.Common.{◌≡◌, ℕ, List, [], ◌∷◌, Option, None, Some, refl, sym, ap, ap₂, ◌∙◌, subst, subst₂, arith}
use Rattle.std.proofs.lemmas.Option.{none-some}
use Rattle.sm_disk.specs.Held.{Held, IsSettled, reads}
use Rattle.sm_base.specs.declared.faults.Place.{Place}
use Rattle.common_laws.specs.Lists.{first_some}
use Rattle.vg_meta.specs.Roomy.{table_alone}
use Rattle.vg_meta.specs.Tables.{IsTable, VolumeTable}
use Rattle.vg_volumes.specs.Sites.{Site}
use Rattle.vg_volumes.specs.Stored.{Stored, stored}
use Rattle.vg_volumes.specs.declared.stores.Store.{Ghosts}
use Rattle.sm_machine.specs.Shapes.{Shape}
use Rattle.sm_machine.specs.Tracking.{AreGoodLogs}
use Rattle.sm_standing.specs.Checks.{first_fault}
use Rattle.sm_standing.specs.Contents.{Content}
use Rattle.sm_standing.specs.Dropped.{drop_changes, dropped, opening}
use Rattle.sm_standing.specs.Entries.{folding, head}
use Rattle.sm_standing.specs.Keeping.{HoldsWell}
use Rattle.sm_standing.specs.LogChecks.{IsKeptWithLogs, first_place, log_fault}
use Rattle.sm_standing.specs.Logs.{logs}
use Rattle.sm_standing.specs.Opened.{applied_all, opened, undone}
use Rattle.sm_standing.specs.Shapes.{shape}
use Rattle.sm_standing.specs.Standing.{disks}
use Rattle.sm_standing.specs.Unfolded.{unfolded}
use Rattle.sm_standing.proofs.AreaLaws.{disks_there, kept_there}
use Rattle.sm_standing.proofs.LogPassLaws.{logs_stay, passes_still}
use Rattle.sm_log_rows.proofs.ContentLaws.{disks_apart, logs_then, pass_then, sound_apart, well_apart}
use Rattle.sm_log_rows.proofs.DroppedLaws.{IsDroppedTo, some_dropped}
use Rattle.vhd_chain.specs.Reading.{AllAreTrue}
use Rattle.sm_ready.proofs.StateLaws.{law_shape}
use Rattle.sm_ready.specs.Known.{known, shape_in}
use Rattle.sm_ready.specs.Orderly.{IsOrderly}
use Rattle.sm_ready.specs.Ready.{HasNoStrayLog, IsReady}
use Rattle.sm_ready.specs.Repairs.{IsSame, content_of}
use Rattle.sm_ready.specs.Runs.{AllMay}
use Rattle.sm_ready.specs.Sessions.{IsOrderlyStore, IsReadyStore, IsTidyStore}
use Rattle.sm_ready.specs.Stores.{content_in, store_content}
use Rattle.sm_ready.specs.declared.memory.Memory.{Memory}
use Rattle.sm_checks.specs.Links.{IsLinkRight}
use Rattle.sm_checks.specs.Openable.{IsOpenable}
use Rattle.sm_recover.specs.Ending.{HasFewEnds, HasFewMends, IsEndedSo, leaf_ends, unleafed}
use Rattle.sm_recover.specs.Repairs.{IsEndable, IsLeftOf, StandsAs}
use Rattle.sm_recover.specs.Steps.{IsPartOf, MakesAll, MakesPart}
use Rattle.sm_recover.specs.Stores.{IsOpenedOn, IsRepairedFrom, MayBeRepairedFrom}
use Rattle.sm_recover.proofs.DroppedChecks.{dropped_all}
use Rattle.sm_recover.proofs.KeptLogs.{keeps_none, logs_kept}
use Rattle.sm_recover.proofs.StepLaws.{part_all, part_few}
use Rattle.sm_recover.proofs.TakenOver.{same_stored}
use Rattle.sm_recover.proofs.UndoLaws.{held_same}

-- ---- all checks passed

pub place_passes : (c : Content) → first_place c ≡ None → (first_fault c ≡ None) × (log_fault c ≡ None)
place_passes c none = by (first_fault c) (log_fault c) none
  where
    by : (a b : Option Place) → first_some (a ∷ b ∷ []) ≡ None → (a ≡ None) × (b ≡ None)
    by None None e = (refl, refl)
    by None (Some p) e = absurd (none-some p (sym e))
    by (Some p) b e = absurd (none-some p (sym e))

-- where the checks of one content pass, and another has its disks and its logs, it is kept and so are they
pub same_repaired : (was now : Content) → first_place was ≡ None → IsTable was.count was.table → now.extent ≡ was.extent → IsSame was now → IsKeptWithLogs now × (logs now ≡ logs was)
same_repaired was now passed table extent same =
    let p = place_passes was passed in (
      record { kept = same.kept; passes = passes_still was now table same.table extent same.same_logs same.same_disks p.0 same.kept.sound p.1 },
      logs_stay was now table same.table extent same.same_logs same.same_disks p.0 same.kept.sound,
    )

-- ---- the table behind some of these commits

module _ (x : Stored) (table : IsTable x.site.count x.table) (passed : first_place (content_of x) ≡ None) where
  abbrev at : VolumeTable → Stored
  at v = record { site = x.site; table = v; area = x.area }

  abbrev c : Content
  c = content_of x

  -- logs of no use went, with the sectors as they were
  module _ (v : VolumeTable) (d : IsDroppedTo x.site.count x.table v) where
    pub place_then : first_place (content_of (at v)) ≡ None
    place_then =
        let p = place_passes c passed in
        let k = d.dropping in
        ap₂ (λ a b. first_some (a ∷ b ∷ [])) (sound_apart c v k.apart p.0) (pass_then c v table d.table d.dropping p.1)

    pub shown_then : disks (content_of (at v)) ≡ disks c
    shown_then = let k = d.dropping in disks_apart c v k.apart

    pub well_then : HoldsWell c → HoldsWell (content_of (at v))
    well_then well = let k = d.dropping in well_apart c v k.apart well

    pub listed_then : logs (content_of (at v)) ≡ logs c
    listed_then = logs_then c v table d.table d.dropping

  -- whatever a stop leaves of them
  pub dropping_left : (v : VolumeTable) (image : ℕ → List ℕ) → IsLeftOf x (IsPartOf x.table (drop_changes x.table)) v image → IsSettled x.area → MayBeRepairedFrom c (content_in x.site v image)
  dropping_left v image left settled =
      let part = left.table in
      let d = subst (IsDroppedTo x.site.count x.table) (sym part.1) (some_dropped x.site.count part.0 (drop_changes x.table) x.table table refl) in
      let place = place_then v d in
      let sound = (place_passes (content_of (at v)) place).0 in
      record {
        was_sound = passed;
        repaired = λ well.
            let same : IsSame (content_of (at v)) (content_in x.site v image) = record {
              table = d.table;
              kept = kept_there (content_of (at v)) d.table x.site.geometry.in_range sound image (left.sectors settled) (well_then v d well);
              same_disks = disks_there (content_of (at v)) d.table x.site.geometry.in_range sound image (left.sectors settled);
              same_logs = logs_kept (at v) v image d.table (left.sectors settled) (keeps_none d.table);
            } in
            let w = same_repaired (content_of (at v)) (content_in x.site v image) place d.table refl same in
            record { was_sound = passed; sound = w.0; same_disks = same.same_disks ∙ shown_then v d; same_logs = w.1 ∙ listed_then v d };
      }

-- ---- a store, from a on: once it was taken over, b; once logs of no use went, d

pub few_dropping : {S : Type 0} {g : Ghosts S} {a b : S} → StandsAs g a b → {v : VolumeTable} → IsPartOf (table_alone (g.table b)) (drop_changes (table_alone (g.table b))) v → HasFewEnds (table_alone (g.table a)) v
few_dropping {g = g} {a} {b} r {v} part =
    let t = table_alone (g.table a) in
    omega (arith, part_few t (drop_changes t) v (subst (λ u. IsPartOf u (drop_changes u) v) r.table part))

module _ {S : Type 0} {g : Ghosts S} {a b : S} (r : StandsAs g a b) (told : g.told) (table : IsTable (g.site a).count (table_alone (g.table a))) (passed : first_place (store_content g a) ≡ None) (was : IsSettled (g.area a)) where
  pub left_dropping : {v : VolumeTable} {image : ℕ → List ℕ} → IsLeftOf (stored g b) (IsPartOf (table_alone (g.table b)) (drop_changes (table_alone (g.table b)))) v image
      → MayBeRepairedFrom (store_content g a) (content_in (g.site a) v image)
  left_dropping {v} {image} left =
      dropping_left (stored g a) table passed v image (subst (λ (y : Stored). IsLeftOf y (IsPartOf y.table (drop_changes y.table)) v image) (same_stored r told was) left) was

module _ {S : Type 0} {g : Ghosts S} {a b d : S} (r : StandsAs g a b) (part : MakesPart g (drop_changes (table_alone (g.table b))) b d) (all : MakesAll g (drop_changes (table_alone (g.table b))) b d) where
  abbrev first : VolumeTable
  first = table_alone (g.table a)

  pub site_dropped : g.site d ≡ g.site a
  site_dropped = part.site ∙ r.site

  pub table_dropped : table_alone (g.table d) ≡ dropped first
  unfolding dropped
  table_dropped = all.table ∙ ap (λ t. applied_all t (drop_changes t)) r.table

  -- how many commits that takes
  pub few_dropped : (v : VolumeTable) → HasFewMends (table_alone (g.table d)) v → HasFewEnds first v
  unfolding dropped
  few_dropped v few =
      let now = subst (λ u. HasFewMends u v) table_dropped few in
      omega (arith, now, part_few first (drop_changes first) (applied_all first (drop_changes first)) (part_all first (drop_changes first)))

  module _ (told : g.told) (was : IsSettled (g.area a)) where
    settled_before : IsSettled (g.area b)
    settled_before = subst IsSettled (sym (ap (λ (x : Stored). x.area) (same_stored r told was))) was

    pub settled_dropped : IsSettled (g.area d)
    settled_dropped = all.settled told settled_before

    area_dropped : g.area d ≡ g.area a
    area_dropped = held_same (g.area b) (g.area d) (part.keeps told) settled_before settled_dropped ∙ ap (λ (x : Stored). x.area) (same_stored r told was)

    stored_dropped : stored g d ≡ record { site = g.site a; table = dropped first; area = g.area a }
    stored_dropped = ap₂ (λ s u. let x : Stored = record { site = s; table = u; area = g.area d } in x) site_dropped table_dropped ∙ ap (λ (h : Held). let x : Stored = record { site = g.site a; table = dropped first; area = h } in x) area_dropped

    pub opened_dropped : opened (store_content g d) ≡ opening (store_content g a)
    unfolding opening
    opened_dropped = ap (λ (x : Stored). opened (content_of x)) stored_dropped

    module _ (table : IsTable (g.site a).count first) (passed : first_place (store_content g a) ≡ None) where
      pub place_dropped : first_place (store_content g d) ≡ None
      place_dropped = subst (λ (x : Stored). first_place (content_of x) ≡ None) (sym stored_dropped) (place_then (stored g a) table passed (dropped first) (dropped_all (g.site a).count first table))

      pub shown_dropped : disks (store_content g d) ≡ disks (store_content g a)
      shown_dropped = ap (λ (x : Stored). disks (content_of x)) stored_dropped ∙ shown_then (stored g a) table passed (dropped first) (dropped_all (g.site a).count first table)

      listed_dropped : logs (store_content g d) ≡ logs (store_content g a)
      listed_dropped = ap (λ (x : Stored). logs (content_of x)) stored_dropped ∙ listed_then (stored g a) table passed (dropped first) (dropped_all (g.site a).count first table)

      pub well_dropped : HoldsWell (store_content g a) → HoldsWell (store_content g d)
      well_dropped well = subst (λ (x : Stored). HoldsWell (content_of x)) (sym stored_dropped) (well_then (stored g a) table passed (dropped first) (dropped_all (g.site a).count first table) well)

      -- what has the disks and the logs of what stands there may be left
      pub left_mending : {v : VolumeTable} {image : ℕ → List ℕ} → (HoldsWell (store_content g d) → IsSame (store_content g d) (content_in (g.site d) v image)) → MayBeRepairedFrom (store_content g a) (content_in (g.site a) v image)
      left_mending {v} {image} left = record {
        was_sound = passed;
        repaired = λ well.
            let same = left (well_dropped well) in
            let less = subst₂ IsTable (sym (ap (λ (s : Site). s.count) site_dropped)) (sym table_dropped) (dropped_all (g.site a).count first table).table in
            let w = same_repaired (store_content g d) (content_in (g.site d) v image) place_dropped less refl same in
            subst (λ s. IsRepairedFrom (store_content g a) (content_in s v image)) site_dropped
            (record { was_sound = passed; sound = w.0; same_disks = same.same_disks ∙ shown_dropped; same_logs = w.1 ∙ listed_dropped });
      }

  -- what the checks leave known of memory holds beside it
  pub opened_then : (g.told → IsSettled (g.area a)) → (m : Memory) → IsOpenedOn g a (dropped first) m → IsOpenedOn g d (table_alone (g.table d)) m
  opened_then was m o = record {
    openable = subst₂ IsOpenable (sym site_dropped) (sym table_dropped) o.openable;
    checked = subst₂ (λ s t. IsEndable s (unleafed t)) (sym site_dropped) (sym table_dropped) o.checked;
    allowed = subst₂ (λ (s : Site) t. AllMay s.count t (leaf_ends t (head (folding t)))) (sym site_dropped) (sym table_dropped) o.allowed;
    ended = subst IsEndedSo (sym table_dropped) o.ended;
    orderly = subst₂ (λ s t. IsOrderly s (undone (unfolded (unleafed t))) (known m)) (sym site_dropped) (sym table_dropped) o.orderly;
    linking = subst (λ t. IsLinkRight (unleafed t) m.tree.rows) (sym table_dropped) o.linking;
    no_stray_log = o.no_stray_log;
    good_logs = subst₂ (λ s t. ∥ AreGoodLogs (shape_in s (undone (unfolded (unleafed t))) (known m)) ∥₁) (sym site_dropped) (sym table_dropped) o.good_logs;
    ready = λ told settled. subst (λ (x : Stored). HoldsWell (content_of x) → IsReady x.site (undone (unfolded (unleafed x.table))) x.area (known m)) (sym (stored_dropped told (was told))) (o.ready told (was told));
    true_images = λ told settled.
        subst (λ (x : Stored). AllAreTrue (record { site = x.site; table = undone (unfolded (unleafed x.table)); area = x.area }) m.tree.rows) (sym (stored_dropped told (was told))) (o.true_images told (was told));
  }

-- ---- once all is repaired

-- memory has the logs from before
pub logs_behind : {S : Type 0} (g : Ghosts S) (a e : S) (m : Memory) → g.site e ≡ g.site a → IsOrderlyStore g e m → IsTidyStore g e m → HasNoStrayLog (known m) → IsReadyStore g e m
    → IsRepairedFrom (store_content g a) (content_in (g.site a) (table_alone (g.table e)) (reads (g.area e))) → m.logs ≡ logs (store_content g a)
unfolding shape shape_in
logs_behind g a e m site orderly tidy no_stray ready repaired =
    sym (ap (λ (σ : Shape). σ.logs) (law_shape (g.site e) (table_alone (g.table e)) (g.area e) (known m) tidy.none_new no_stray orderly ready))
    ∙ ap (λ (s : Site). logs (content_in s (table_alone (g.table e)) (reads (g.area e)))) site ∙ repaired.same_logs
