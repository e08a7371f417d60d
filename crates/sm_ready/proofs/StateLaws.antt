-- What a read gives is the machine's state: the shape of what is in memory, but for attachments and the operation.
use Rattle.std.proofs.Common.{◌≡◌, ℕ, ◌+◌, Bool, true, cond, List, [], ◌∷◌, filter, inl, inr, refl, sym, ap, ap₂, ◌∙◌}
use Rattle.std.proofs.Math.Logic.{∥∥₁_elim}
use Rattle.std.proofs.Math.Path.{fun_ext}
use Rattle.std.proofs.Props.{props}
use Rattle.std.specs.List.{filter_map}
use Rattle.std.specs.Prelude.{is_some}
use Rattle.common_laws.specs.Lists.{In}
use Rattle.sm_base.specs.declared.names.Name.{Name}
use Rattle.sm_base.specs.declared.names.Name.TheVariants.{Mgt, Vhd, Raw, Old, Cbt, Clone, Inflate, Coalesce, Relink, Leaf}
use Rattle.sm_disk.specs.Held.{Held}
use Rattle.sm_log.specs.Logs.{Log, log_extents}
use Rattle.sm_machine.specs.Operations.{Idle}
use Rattle.sm_machine.specs.Shapes.{DiskRecord, ImageRow, Shape}
use Rattle.sm_standing.specs.Logs.{IsLogged, log_named, logs, logs_in}
use Rattle.sm_standing.specs.Shapes.{IsStateOf, image_rows, shape, unattached}
use Rattle.sm_standing.specs.Standing.{standing_volume}
use Rattle.vg_layout.specs.Places.{record_extents}
use Rattle.vg_meta.specs.Tables.{VolumeTable}
use Rattle.vg_volumes.specs.Sites.{Site}
use Rattle.sm_ready.specs.Known.{Known, records_in, shape_in, shown_places}
use Rattle.sm_ready.specs.Orderly.{IsOrderly}
use Rattle.sm_ready.specs.Ready.{HasNoStrayLog, IsReady, IsTidy}
use Rattle.sm_ready.specs.Sessions.{state_in}
use Rattle.sm_ready.specs.Stores.{content_now}
use Rattle.sm_ready.proofs.LogRows.{log_by, logs_listed}
use Rattle.sm_ready.proofs.ShapeLaws.{HasNoNew, content_records, images_now, others_now, records_now}
use Rattle.sm_ready.proofs.StrayLaws.{shown_stands}

filter_all : {A : Type 0} (test : A → Bool) (xs : List A) → ((x : A) → In x xs → test x ≡ true) → filter test xs ≡ xs
filter_all test [] each = refl
filter_all test (x ∷ xs) each =
    ap (λ b. cond b (x ∷ filter test xs) (filter test xs)) (each x (inl refl)) ∙ ap (λ ys. x ∷ ys) (filter_all test xs (λ y i. each y (inr i)))

-- the logs that stand there are those of memory, where each is that of a disk
logs_now : (s : Site) (t : VolumeTable) (area : Held) (m : Known) → IsOrderly s t m → IsLogged (content_now s t area) m.logs → HasNoStrayLog m → logs (content_now s t area) ≡ m.logs
unfolding logs logs_in
logs_now s t area m o logged no_stray =
    ap (filter (λ l. is_some (standing_volume t l.disk))) (ap (λ f. filter_map f t.volumes) (fun_ext (λ r. by_log r.name)) ∙ logs_listed s t m o)
    ∙ filter_all (λ l. is_some (standing_volume t l.disk)) m.logs (λ l i. shown_stands s t m l.disk o (no_stray l i))
  where
    by_log : (n : Name) → log_named (content_now s t area) n ≡ log_by m.logs n
    by_log (Cbt u) = (logged u).read
    by_log Mgt = refl
    by_log (Vhd u) = refl
    by_log (Raw u) = refl
    by_log (Old u) = refl
    by_log (Clone d b x) = refl
    by_log (Inflate u k) = refl
    by_log (Coalesce v p) = refl
    by_log (Relink v p) = refl
    by_log (Leaf l p) = refl

abbrev shape_with : Site → VolumeTable → ℕ → List DiskRecord → List ImageRow → List Log → Shape
shape_with s t others records images ls = record {
  sequence = t.sequence;
  extent = s.geometry.extent;
  block = s.geometry.block;
  entries = s.geometry.entries;
  extents = s.count;
  others = others;
  records = records;
  images = images;
  logs = ls;
  attached = [];
  op = Idle;
}

pub law_shape : (s : Site) (t : VolumeTable) (area : Held) (m : Known) → HasNoNew t → HasNoStrayLog m → IsOrderly s t m → IsReady s t area m
    → shape (content_now s t area) ≡ unattached (shape_in s t m)
unfolding shape shape_in
law_shape s t area m none_new no_stray o ready = ∥∥₁_elim o.well_formed (hlevel props) (λ w.
    ap₂ (λ (k : ℕ) (rs : List DiskRecord). shape_with s t k rs (image_rows (content_now s t area)) (logs (content_now s t area))) (others_now s t area m none_new o ready.firm) (records_now s t area m o ready w)
    ∙ ap₂ (shape_with s t (log_extents m.logs + record_extents s.geometry.extent) (records_in (shown_places m.rows m.places))) (images_now s t area m none_new o ready.firm w) (logs_now s t area m o ready.logs no_stray))

-- between two commands, where each log is that of a disk, it gives the machine's state
pub law_state : (s : Site) (t : VolumeTable) (area : Held) (m : Known) → IsOrderly s t m → IsTidy t m → HasNoStrayLog m → IsReady s t area m → IsStateOf (content_now s t area) (state_in s t area m)
law_state s t area m o tidy no_stray_log ready = record {
  same_disks = refl;
  same_shape = sym (law_shape s t area m tidy.none_new no_stray_log o ready);
  no_stray = λ r i. shown_stands s t m r.uuid o (tidy.no_stray r (content_records s t area m r o ready i));
}
