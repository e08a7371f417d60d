-- Memory at rest beside a store is so again behind each repair of an opening, and a stop leaves the disks from before.
use Rattle.std.proofs.Common.{◌≡◌, inl, inr, ⊎_elim, unwrap_or, ℕ, ◌<◌, false, List, Option, Some, None, refl, sym, ap, ap₂, ◌∙◌, subst, subst₂, arith}
use Rattle.std.proofs.Math.Path.{fun_ext}
use Rattle.std.proofs.lemmas.Bool.{true≢false}
use Rattle.std.proofs.lemmas.Option.{unwrap_or-slice_get, get_or_from_slice_get, slice_get-get_or}
use Rattle.sm_base.specs.declared.names.Name.{Name}
use Rattle.sm_base.specs.declared.names.Name.TheVariants.{Mgt, Cbt}
use Rattle.sm_disk.specs.Held.{IsSettled, Keeps, reads}
use Rattle.sm_disk.specs.Sectors.{zeros}
use Rattle.vg_meta.specs.Changes.{applied}
use Rattle.vg_meta.specs.Roomy.{table_alone}
use Rattle.vg_meta.specs.Tables.{VolumeTable, Row}
use Rattle.vg_meta.specs.declared.changes.Change.TheVariants.{Remove}
use Rattle.vg_volumes.specs.Sites.{Site, area_size}
use Rattle.vg_volumes.specs.Stored.{Stored, stored, Stays, OnlyReads, Writes, IsChoiceOf, IsEitherOf}
use Rattle.vg_volumes.specs.declared.stores.Store.{Ghosts}
use Rattle.vg_volumes.proofs.StoredLaws.{stays_none, did_in}
use Rattle.vg_volumes.proofs.VolumeLaws.{Keeps-volume, KeepsElsewhere-same}
use Rattle.common_laws.specs.Lists.{In}
use Rattle.common_laws.proofs.Options.{is_some-parts}
use Rattle.sm_machine.specs.WellFormed.{is_image_name}
use Rattle.sm_record.specs.Records.{reading}
use Rattle.sm_record.specs.declared.records.Record.{Record}
use Rattle.sm_record.proofs.RoundTrips.{reading_zeros}
use Rattle.sm_mgt.specs.Places.{Agrees, records_held, records_of, place_count}
use Rattle.sm_standing.specs.Images.{image_of}
use Rattle.sm_standing.specs.Standing.{standing_volume}
use Rattle.vhd_chain.specs.Trees.{row_name}
use Rattle.sm_ready.specs.Known.{Known, known}
use Rattle.sm_ready.specs.Sessions.{IsAtEase, IsOrderlyStore, IsReadyStore}
use Rattle.sm_ready.specs.declared.memory.Memory.{Memory}
use Rattle.sm_ready.specs.Orderly.{IsOrderly}
use Rattle.sm_ready.specs.Ready.{IsTidy}
use Rattle.sm_ready.specs.Stores.{content_in, store_content}
use Rattle.sm_ready.proofs.AfterLaws.{other_keeps}
use Rattle.sm_ready.proofs.BesideLaws.{images_beside, orderly_beside}
use Rattle.sm_ready.proofs.GoneLaws.{goes_alone}
use Rattle.sm_ready.proofs.LeftLaws.{image_quiet, left_now}
use Rattle.sm_ready.proofs.LogLaws.{HoldsLogs, holds_keeps, holds_ready}
use Rattle.sm_ready.proofs.Orders.{named_row}
use Rattle.sm_ready.proofs.RepairLaws.{all_quiet, gone_ready, gone_disks, gone_same_logs, gone_stop, same_left, swept_ready, swept_now, swept_same_logs}
use Rattle.sm_ready.proofs.SameLogs.{same_logs_keep, same_logs_left, same_logs_none, same_logs_then}
use Rattle.sm_ready.proofs.ShapeLaws.{place_of, standing_shown}
use Rattle.sm_ready.proofs.StrayLaws.{IsFreed, IsSwept, stray_unseen, with_places, orderly_freed, swept_in, swept_kept, swept_disks}
use Rattle.sm_ready.specs.Repairs.{IsAtRest, IsNewVolume, IsRightAt, IsSame, IsStrayAt, IsWithoutStrays, IsZeroedAt, RestsAgain, content_of}
use Rattle.sm_ready.proofs.NewVolumeLaws.{new_beside}

-- ---- one repair after another

pub again_none : (x : Stored) (m : Known) → RestsAgain x x m m
again_none x m = record { rest = λ r. r; same_disks = λ r. refl; same_logs = refl; logs_kept = λ r. same_logs_none (content_of x); same_images = λ r n. refl }

pub again_then : {x y z : Stored} {a b c : Known} → RestsAgain x y a b → RestsAgain y z b c → RestsAgain x z a c
again_then p q = record {
  rest = λ r. q.rest (p.rest r);
  same_disks = λ r. q.same_disks (p.rest r) ∙ p.same_disks r;
  same_logs = q.same_logs ∙ p.same_logs;
  logs_kept = λ r. same_logs_then (p.logs_kept r) (q.logs_kept (p.rest r));
  same_images = λ r n. q.same_images (p.rest r) n ∙ p.same_images r n;
}

-- what a stop leaves behind the first
pub stop_then : {x y : Stored} {a b : Known} {t : VolumeTable} {image : ℕ → List ℕ} → y.site ≡ x.site → RestsAgain x y a b → IsAtRest x a
    → (IsAtRest y b → IsSame (content_of y) (content_in y.site t image)) → IsSame (content_of x) (content_in x.site t image)
stop_then {x} {y} {a} {b} {t} {image} site p r stop =
    let w = subst (λ s. IsSame (content_of y) (content_in s t image)) site (stop (p.rest r)) in
    record { table = w.table; kept = w.kept; same_disks = w.same_disks ∙ p.same_disks r; same_logs = same_logs_then (p.logs_kept r) w.same_logs }

-- and of what is at rest
pub stop_now : (x : Stored) (m : Known) (t : VolumeTable) (image : ℕ → List ℕ) → IsChoiceOf x t image → IsAtRest x m → IsSame (content_of x) (content_in x.site t image)
stop_now x m t image stop r =
    subst (λ u. IsSame (content_of x) (content_in x.site u image)) (sym stop.table_is) (same_left x.site x.table x.area m image r.orderly r.ready r.settled stop.sectors)

-- ---- a new volume goes

module _ (x : Stored) (n : Name) (new : IsNewVolume x.table n) where
  pub orderly_less : (y : Stored) (m : Known) → y.site ≡ x.site → y.table ≡ applied x.table (Remove n) → IsOrderly x.site x.table m → IsOrderly y.site y.table m
  orderly_less y m site table o =
      subst₂ (λ s t. IsOrderly s t m) (sym site) (sym table) (orderly_beside x.site x.table m n new.0 (Remove n) o (new_beside n new o) (goes_alone o.table (new_beside n new o)))

  pub again_less : (y : Stored) (m : Known) → y.site ≡ x.site → y.table ≡ applied x.table (Remove n) → Keeps x.area y.area → IsSettled y.area → RestsAgain x y m m
  again_less y m site table keeps settled =
      subst₂ (λ s t. RestsAgain x (record { site = s; table = t; area = y.area }) m m) (sym site) (sym table) (record {
        rest = λ r. record {
          orderly = orderly_less (record { site = x.site; table = applied x.table (Remove n); area = y.area }) m refl refl r.orderly;
          ready = gone_ready x.site x.table x.area m n new.0 r.orderly r.ready (new_beside n new r.orderly) y.area keeps settled;
          settled = settled;
          idle = r.idle;
        };
        same_disks = λ r. gone_disks x.site x.table x.area m n new.0 r.orderly r.ready (new_beside n new r.orderly) y.area keeps settled;
        same_logs = refl;
        logs_kept = λ r. gone_same_logs x.site x.table x.area m n new.0 r.orderly r.ready (new_beside n new r.orderly) y.area keeps settled;
        same_images = λ r k. ap (λ f. image_of (content_in x.site (applied x.table (Remove n)) f) k) (fun_ext keeps.reads)
            ∙ images_beside x.site x.table x.area m n new.0 (Remove n) r.orderly r.ready (new_beside n new r.orderly) (goes_alone r.orderly.table (new_beside n new r.orderly)) k;
      })

  pub stop_less : (m : Known) (t : VolumeTable) (image : ℕ → List ℕ) → IsEitherOf x (Remove n) t image → IsAtRest x m → IsSame (content_of x) (content_in x.site t image)
  stop_less m t image either r =
      ⊎_elim (λ before. stop_now x m t image before r) (gone_stop x.site x.table x.area m n new.0 r.orderly r.ready (new_beside n new r.orderly) t image) either

-- ---- records of no disk are wiped

pub freed_from : {s : Site} {t : VolumeTable} {m : Known} (ps : List (Option Record)) → IsOrderly s t m → IsWithoutStrays t m.places ps → IsFreed m.rows m.places ps
freed_from {s} {t} {m} ps o w = record {
  long = w.long;
  each = λ k. ⊎_elim
      (λ same. inl (sym (unwrap_or-slice_get ps k None) ∙ ap (λ x. unwrap_or x None) same ∙ unwrap_or-slice_get m.places k None))
      (λ v. inr (
        get_or_from_slice_get ps k None None v.0,
        record { entry = v.1.0; held = get_or_from_slice_get m.places k (Some v.1.0) None v.1.1; unseen = stray_unseen s t m v.1.0.uuid o v.1.2 },
      )) (w.each k);
}

pub tidy_freed : (s : Site) (t : VolumeTable) (m : Known) → IsOrderly s t m → ((r : Row) → In r t.volumes → r.fresh ≡ false) → ((k : ℕ) → k < place_count → IsRightAt t m.places k) → IsTidy t m
tidy_freed s t m o none_new right = record {
  none_new = none_new;
  no_stray = λ r i.
      let k = place_of m.places r i in
      let at = slice_get-get_or m.places k.0 None k.1 ∙ ap Some k.2 in
      let n = is_some-parts (standing_volume t r.uuid) (right k.0 (omega (arith, k.1, o.places)) r at) in
      standing_shown s t m r.uuid n.0 o n.1;
}

pub right_as : {t u : VolumeTable} (places : List (Option Record)) → u ≡ t → ((k : ℕ) → k < place_count → IsRightAt t places k) → (k : ℕ) → k < place_count → IsRightAt u places k
right_as {t} {u} places same right k below = subst (λ x. IsRightAt x places k) (sym same) (right k below)

-- they are wiped in the volume of records
abbrev pub Wipes : {S : Type 0} → Ghosts S → List (Option Record) → S → S → Type 0
Wipes g places a b = Writes g Mgt (IsZeroedAt (IsStrayAt (table_alone (g.table a)) places)) a b

module _ {S : Type 0} {g : Ghosts S} where
  swept : {a b : S} {m : Known} → Wipes g m.places a b → g.told → IsOrderly (g.site a) (table_alone (g.table a)) m → IsSwept (g.site a) (table_alone (g.table a)) m (g.area a) (g.area b)
  unfolding is_image_name zeros
  swept {a} {b} {m} w told o = record {
    images = λ q i. other_keeps (g.site a) (table_alone (g.table a)) (g.area a) (g.area b) Mgt (row_name q) o.table (omega (arith, (g.site a).geometry.in_range.extent_least))
        (KeepsElsewhere-same (w.beside told)) (λ e. true≢false (sym (named_row (g.site a) (table_alone (g.table a)) m q o i) ∙ ap is_image_name e));
    logs = λ u. other_keeps (g.site a) (table_alone (g.table a)) (g.area a) (g.area b) Mgt (Cbt u) o.table (omega (arith, (g.site a).geometry.in_range.extent_least))
        (KeepsElsewhere-same (w.beside told)) (λ e. let z = e in cc);
    records = λ p v below may. ⊎_elim (λ was. inl was)
        (λ z. inr (
          ap reading z.0 ∙ reading_zeros 512,
          record { entry = z.1.0; held = get_or_from_slice_get m.places p (Some z.1.0) None z.1.1; unseen = stray_unseen (g.site a) (table_alone (g.table a)) m z.1.0.uuid o z.1.2 },
        )) (did_in (stays_none a) w told p v may);
  }

  -- a stop before the sync
  pub stop_wiped : {a b : S} (m : Known) {t : VolumeTable} {image : ℕ → List ℕ} → Wipes g m.places a b → g.told → IsChoiceOf (stored g b) t image → IsAtRest (stored g a) m
      → IsSame (store_content g a) (content_in (g.site a) t image)
  stop_wiped {a} {b} m {t} {image} w told stop r =
      let k = swept w told r.orderly in
      let left = λ (p : ℕ) (below : p < area_size (g.site a)). stop.sectors p (subst (λ z. p < area_size z) (sym w.stays.site) below) in
      subst (λ u. IsSame (store_content g a) (content_in (g.site a) u image)) (sym (stop.table_is ∙ w.stays.table)) (record {
        table = r.orderly.table;
        kept = swept_kept (g.site a) (table_alone (g.table a)) m (g.area a) (g.area b) r.orderly r.ready k image left;
        same_disks = swept_disks (g.site a) (table_alone (g.table a)) m (g.area a) (g.area b) r.orderly r.ready k image left
            (all_quiet (g.site a) (table_alone (g.table a)) (g.area a) r.settled);
        same_logs = same_logs_then (same_logs_keep (was_held r) (g.area b) k.logs) (same_logs_left (holds_keeps (was_held r) (g.area b) k.logs) r.orderly.table image left);
      })
    where
      was_held : IsAtRest (stored g a) m → HoldsLogs (g.site a) (table_alone (g.table a)) (g.area a) m.logs
      was_held r = holds_ready (g.site a) (table_alone (g.table a)) (g.area a) m r.orderly r.ready

  synced : {a b d : S} (m : Known) (ps : List (Option Record)) → Wipes g m.places a b → Keeps (g.area b) (g.area d) → Agrees (records_of g b) ps
      → Agrees (records_held (g.site a) (table_alone (g.table a)) (g.area d)) ps
  synced {a} {b} {d} m ps w keeps agrees =
      let was = subst₂ (λ s t. Agrees (records_held s t (g.area b)) ps) w.stays.site w.stays.table agrees in
      record { long = was.long; each = λ k o at. ap reading ((Keeps-volume _ _ keeps).reads k) ∙ was.each k o at }

  -- behind it
  pub again_wiped : {a b d : S} (m : Known) (ps : List (Option Record)) → Wipes g m.places a b → Stays g b d → g.told → Keeps (g.area b) (g.area d) → IsSettled (g.area d)
      → IsWithoutStrays (table_alone (g.table a)) m.places ps → (Agrees (records_of g a) m.places → Agrees (records_of g b) ps)
      → RestsAgain (stored g a) (stored g d) m (with_places ps m)
  again_wiped {a} {b} {d} m ps w stays told keeps settled freed agrees =
      subst₂ (λ s t. RestsAgain (stored g a) (record { site = s; table = t; area = g.area d }) m (with_places ps m)) (sym (stays.site ∙ w.stays.site)) (sym (stays.table ∙ w.stays.table)) (record {
        rest = λ r. record {
          orderly = orderly_freed (g.site a) (table_alone (g.table a)) m ps r.orderly (freed_from ps r.orderly freed);
          ready = swept_ready (g.site a) (table_alone (g.table a)) m (g.area a) (g.area b) (g.area d) r.orderly r.ready (swept w told r.orderly) keeps ps settled
              (synced m ps w keeps (agrees r.ready.records)) r.settled;
          settled = settled;
          idle = r.idle;
        };
        same_disks = λ r. swept_now (g.site a) (table_alone (g.table a)) m (g.area a) (g.area b) (g.area d) r.orderly r.ready (swept w told r.orderly) keeps r.settled;
        same_logs = refl;
        logs_kept = λ r. swept_same_logs (g.site a) (table_alone (g.table a)) m (g.area a) (g.area b) (g.area d) r.orderly r.ready (swept w told r.orderly) keeps;
        same_images = λ r n. ap (λ f. image_of (content_in (g.site a) (table_alone (g.table a)) f) n) (fun_ext keeps.reads)
            ∙ image_quiet (g.site a) (table_alone (g.table a)) (g.area a) m (reads (g.area b)) n r.orderly r.ready.firm
            (swept_in (g.site a) (table_alone (g.table a)) m (g.area a) (g.area b) r.orderly r.ready (swept w told r.orderly) (reads (g.area b)) (left_now (g.site a) (g.area b)))
            (all_quiet (g.site a) (table_alone (g.table a)) (g.area a) r.settled n);
      })

  -- ---- where nothing was written

  pub stored_as : {a b : S} → OnlyReads g a b → g.told → stored g b ≡ stored g a
  stored_as {a} {b} r told =
      ap₂ (λ s t. record { site = s; table = t; area = g.area b }) r.stays.site r.stays.table
      ∙ ap₂ (λ f p. record { site = g.site a; table = table_alone (g.table a); area = record { floor = f; pending = p } }) (fun_ext (r.held told).floor) (fun_ext (r.held told).pending)

  -- memory as the checks leave it
  pub begun_at_rest : {a b : S} {m : Memory} → OnlyReads g a b → g.told → IsOrderlyStore g a m → (g.told → IsSettled (g.area a) → IsReadyStore g a m) → (g.told → IsSettled (g.area a)) → IsAtEase m
      → IsAtRest (stored g b) (known m)
  begun_at_rest {a} {b} {m} r told o ready settled ease =
      subst (λ x. IsAtRest x (known m)) (sym (stored_as r told)) (record { orderly = o; ready = ready told (settled told); settled = settled told; idle = ease.idle })
