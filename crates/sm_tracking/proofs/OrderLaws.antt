-- Memory with other logs is orderly beside a table in which the volume of one log is another.
use Rattle.std.proofs.Common.{◌≡◌, ◌≢◌, ℕ, ◌+◌, ◌≤◌, Bool, true, false, List, length, Option, Some, refl, sym, ap, ◌∙◌, subst}
use Rattle.std.proofs.lemmas.Bool.{true≢false}
use Rattle.common_laws.specs.Lists.{In}
use Rattle.sm_base.specs.Kinds.{is_entry, is_image, is_log}
use Rattle.sm_base.specs.declared.names.Name.{Name}
use Rattle.sm_base.specs.declared.names.Name.TheVariants.{Mgt, Vhd, Raw, Old, Cbt, Clone, Inflate, Coalesce, Relink, Leaf}
use Rattle.sm_log.specs.Logs.{Log, log_extents, log_of}
use Rattle.sm_log_rows.proofs.ApartLaws.{names_alike}
use Rattle.sm_log_rows.specs.LogRows.{AreApartFromLogs}
use Rattle.sm_logs.specs.Held.{IsRising, log_limit}
use Rattle.sm_machine.specs.Operations.{Op}
use Rattle.sm_machine.specs.Operations as op
use Rattle.sm_machine.specs.Shapes.{Shape, image_limit, refs}
use Rattle.sm_machine.specs.WellFormed.{IsWellFormed, is_image_name}
use Rattle.vg_layout.specs.Places.{record_extents}
use Rattle.vg_meta.specs.Tables.{IsTable, Row, VolumeTable, extents_of, name_eq, rows}
use Rattle.vg_meta.proofs.NameLaws.{name_eq-false, name_eq-true}
use Rattle.vg_volumes.specs.Sites.{Site}
use Rattle.sm_ready.proofs.LogRows.{log-no_image}
use Rattle.sm_ready.proofs.RowLaws.{found_in}
use Rattle.sm_ready.specs.Known.{Known, log_face, row_face, shape_in}
use Rattle.sm_ready.specs.Orderly.{HasLogRoom, IsOrderly, IsRoomyIn}
use Rattle.sm_ready.specs.Ready.{IsTidy}
use Rattle.sm_ready.specs.declared.memory.Memory.{Memory}
use Rattle.sm_standing.proofs.DisksShown.{row_of-In}

-- no image is a log, and no entry
pub image_no_log : (n : Name) → is_image_name n ≡ true → is_log n ≡ false
unfolding is_image_name
image_no_log (Cbt u) e = absurd (true≢false (sym e))
image_no_log Mgt e = refl
image_no_log (Vhd u) e = refl
image_no_log (Raw u) e = refl
image_no_log (Old u) e = refl
image_no_log (Clone d b w) e = refl
image_no_log (Inflate u k) e = refl
image_no_log (Coalesce c p) e = refl
image_no_log (Relink c p) e = refl
image_no_log (Leaf l p) e = refl

kind_no_log : (n : Name) → is_image n ≡ true → is_log n ≡ false
kind_no_log (Cbt u) e = absurd (true≢false (sym e))
kind_no_log Mgt e = refl
kind_no_log (Vhd u) e = refl
kind_no_log (Raw u) e = refl
kind_no_log (Old u) e = refl
kind_no_log (Clone d b w) e = refl
kind_no_log (Inflate u k) e = refl
kind_no_log (Coalesce c p) e = refl
kind_no_log (Relink c p) e = refl
kind_no_log (Leaf l p) e = refl

-- memory with these logs
abbrev pub with_known : List Log → Known → Known
with_known ls m = record m { logs = ls }

abbrev pub with_memory : List Log → Memory → Memory
with_memory ls m = record m { logs = ls }

-- the volume of one log is made, goes, or is no longer new: it is this afterwards
pub record IsOneLog (s : Site) (t v : VolumeTable) (d : List ℕ) (own : Option Row) : Type 0 where
  pub tables : AreApartFromLogs t v
  pub table : IsTable s.count v
  pub others : (n : Name) → n ≢ Cbt d → rows v n ≡ rows t n
  pub there : rows v (Cbt d) ≡ own
  pub full : (r : Row) → own ≡ Some r → r.fresh ≡ false

-- memory's logs are those of a table, few and in order, and their volumes have room for them
pub record AreLogsOf (s : Site) (v : VolumeTable) (ls : List Log) : Type 0 where
  pub faces : (u : List ℕ) → row_face (rows v (Cbt u)) ≡ log_face (log_of u ls)
  pub few : length ls ≤ log_limit
  pub rising : IsRising ls
  pub room : (l : Log) → In l ls → HasLogRoom s.geometry.extent l

roomy_with : (σ : Shape) (k n : ℕ) (ls : List Log) (x : Op) → IsRoomyIn σ x → IsRoomyIn (record σ { sequence = k; others = n; logs = ls }) x
roomy_with σ k n ls op.Idle h = tt
roomy_with σ k n ls (op.Copy v p c) h = h
roomy_with σ k n ls (op.Relink v p) h = tt
roomy_with σ k n ls (op.Leaf l p c) h = h
roomy_with σ k n ls (op.Live l p c dirty) h = h

refs_with : (σ : Shape) (k o : ℕ) (ls : List Log) (n : Name) → refs n (record σ { sequence = k; others = o; logs = ls }) ≡ refs n σ
unfolding refs
refs_with σ k o ls n = refl

module _ {s : Site} {t v : VolumeTable} {m : Known} {d : List ℕ} {own : Option Row} (o : IsOrderly s t m) (tidy : IsTidy t m) (x : IsOneLog s t v d own) where
  pub full_beside : (r : Row) → In r v.volumes → r.fresh ≡ false
  full_beside r i = by (name_eq r.name (Cbt d)) refl
    where
      found : rows v r.name ≡ Some r
      found = found_in v.volumes x.table.volumes.rising r i

      by : (b : Bool) → name_eq r.name (Cbt d) ≡ b → r.fresh ≡ false
      by true e = x.full r (sym x.there ∙ ap (rows v) (sym (name_eq-true r.name (Cbt d) e)) ∙ found)
      by false e = tidy.none_new r (row_of-In t.volumes r.name r (sym (x.others r.name (name_eq-false r.name (Cbt d) e)) ∙ found)).0

  pub tidy_beside : (ls : List Log) → IsTidy v (with_known ls m)
  tidy_beside ls = record { none_new = full_beside; no_stray = tidy.no_stray }

  pub orderly_beside : (ls : List Log) → AreLogsOf s v ls → ∥ IsWellFormed (shape_in s v (with_known ls m)) ∥₁ → IsOrderly s v (with_known ls m)
  unfolding shape_in
  orderly_beside ls logs well = record {
    table = x.table;
    few_extents = o.few_extents;
    record_volume = ap (λ (r : Option Row). length (extents_of r)) (x.tables.same Mgt refl) ∙ o.record_volume;
    few = subst (λ (rs : List Row). length rs ≤ image_limit) (sym (x.tables.kept (λ r. is_image r.name) (λ r log. log-no_image r.name log))) o.few;
    new_named = λ r i new. absurd (true≢false (sym new ∙ full_beside r i));
    images = λ n e. ap row_face (x.tables.same n (kind_no_log n e)) ∙ o.images n e;
    logs = logs.faces;
    few_logs = logs.few;
    logs_in_order = logs.rising;
    log_room = logs.room;
    places = o.places;
    entries = names_alike t v x.tables is_entry (λ u. refl) ∙ o.entries;
    stands = o.stands;
    well_formed = well;
    roomy = roomy_with (shape_in s t m) v.sequence (log_extents ls + record_extents s.geometry.extent) ls m.op o.roomy;
    counts = λ n. o.counts n ∙ sym (refs_with (shape_in s t m) v.sequence (log_extents ls + record_extents s.geometry.extent) ls n);
  }
