-- Memory in which the log of one disk begins anew is orderly, and what is known before that log is split.
use Rattle.std.proofs.Common.{◌≡◌, ◌≢◌, ⊎_elim, ℕ, ◌+◌, ◌-◌, ◌*◌, ◌≤◌, ◌<◌, Bool, true, false, List, length, Option, Some, None, refl, sym, ap, ap₂, ◌∙◌, subst, arith}
use Rattle.std.specs.Option.{option_map}
use Rattle.std.proofs.Math.Logic.{∥∥₁_map}
use Rattle.std.proofs.lemmas.List.{length-map, length-replicate}
use Rattle.common_laws.specs.Lists.{when}
use Rattle.common_laws.proofs.Bytes.{same_or_not}
use Rattle.common_laws.proofs.Lists.{In-map}
use Rattle.sm_base.specs.Names.{IsUuid}
use Rattle.sm_base.specs.declared.names.Name.TheVariants.{Cbt}
use Rattle.sm_log.specs.Logs.{Log, begun_anew, is_log_of, log_extents, log_of, log_sectors, on_log, split, split_of, twin_log, with_log}
use Rattle.sm_log_rows.proofs.DroppedLaws.{apart_itself}
use Rattle.sm_logs.proofs.OrderLaws.{rising_on}
use Rattle.sm_logs.specs.Held.{log_limit}
use Rattle.sm_machine.proofs.LogLists.{extents-on_log}
use Rattle.sm_machine.proofs.Tracked.{keeps_logged}
use Rattle.sm_machine.specs.Shapes.{Shape, free, risen}
use Rattle.sm_machine.specs.Tracking.{with_logs}
use Rattle.sm_machine.specs.WellFormed.{IsWellFormed}
use Rattle.vg_layout.specs.Places.{record_extents}
use Rattle.vg_meta.specs.Changes.{AreFree}
use Rattle.vg_meta.specs.Tables.{VolumeTable, rows}
use Rattle.vg_volumes.specs.Sites.{Site}
use Rattle.sm_ready.proofs.LogRows.{log_in_list, log_old}
use Rattle.sm_ready.specs.Known.{Known, log_face, shape_in}
use Rattle.sm_ready.specs.Orderly.{HasLogRoom, IsOrderly}
use Rattle.sm_ready.specs.Ready.{IsTidy}
use Rattle.sm_tracking.proofs.ListLaws.{other_on}
use Rattle.sm_tracking.proofs.MadeLaws.{IsToLog}
use Rattle.sm_tracking.proofs.OrderLaws.{AreLogsOf, IsOneLog, orderly_beside, with_known}
use Rattle.sm_tracking.proofs.TwinLaws.{own_on}

-- what is known of a disk's log that is to be split, with the twin's log on these extents
pub record IsToSplit (s : Site) (t : VolumeTable) (m : Known) (u : List ℕ) (own twin : Log) (es : List ℕ) : Type 0 where
  pub orderly : IsOrderly s t m
  pub tidy : IsTidy t m
  pub found : log_of u m.logs ≡ Some own
  pub is_twin : twin ≡ twin_log twin.disk twin.tag own
  pub absent : log_of twin.disk m.logs ≡ None
  pub few : length m.logs < log_limit
  pub some : 1 ≤ length own.bits
  pub proper : IsUuid twin.disk
  pub long : twin.extents ≡ length es
  pub extents_free : AreFree s.count t.volumes es
  pub enough : twin.extents ≤ free (shape_in s t m)

face_map : (tag : ℕ) (o : Option Log) → log_face (option_map (begun_anew tag) o) ≡ log_face o
face_map tag None = refl
face_map tag (Some l) = refl

module _ {s : Site} {t : VolumeTable} {m : Known} {u : List ℕ} {own twin : Log} {es : List ℕ} (x : IsToSplit s t m u own twin es) where
  abbrev pub begun : List Log
  begun = on_log u (begun_anew twin.tag) m.logs

  abbrev pub logs_split : List Log
  logs_split = with_log twin begun

  pub split_is : split u twin.disk twin.tag m.logs ≡ logs_split
  split_is = ap (λ (o : Option Log). split_of u twin.disk twin.tag o m.logs) x.found ∙ ap (λ (l : Log). with_log l begun) (sym x.is_twin)

  own_anew : log_of u begun ≡ Some (begun_anew twin.tag own)
  own_anew = own_on u (begun_anew twin.tag) m.logs own (λ l. refl) x.found

  face_anew : (v : List ℕ) → log_face (log_of v m.logs) ≡ log_face (log_of v begun)
  face_anew v = ⊎_elim
      (λ is. subst (λ (w : List ℕ). log_face (log_of w m.logs) ≡ log_face (log_of w begun)) (sym is) (ap log_face x.found ∙ sym (ap log_face own_anew)))
      (λ apart. ap log_face (sym (other_on u v (begun_anew twin.tag) m.logs (λ l. refl) apart))) (same_or_not v u)

  room_when : (b : Bool) (l : Log) → HasLogRoom s.geometry.extent l → HasLogRoom s.geometry.extent (when b (begun_anew twin.tag) l)
  room_when true l room = subst (λ (n : ℕ). log_sectors n ≤ l.extents * s.geometry.extent) (sym (length-replicate {A = Bool} (length l.bits) false)) room
  room_when false l room = room

  logs_anew : AreLogsOf s t begun
  logs_anew = record {
    faces = λ v. x.orderly.logs v ∙ face_anew v;
    few = let long = length-map m.logs (λ (y : Log). when (is_log_of u y) (begun_anew twin.tag) y) in let most = x.orderly.few_logs in omega (arith, long, most);
    rising = rising_on m.logs u (begun_anew twin.tag) (λ l. refl) x.orderly.logs_in_order;
    room = λ y i. let w = In-map (λ (z : Log). when (is_log_of u z) (begun_anew twin.tag) z) m.logs y i in
        subst (HasLogRoom s.geometry.extent) (sym w.2) (room_when (is_log_of u w.0) w.0 (x.orderly.log_room w.0 w.1));
  }

  extents_anew : log_extents begun ≡ log_extents m.logs
  extents_anew = extents-on_log u (begun_anew twin.tag) (λ l. refl) m.logs

  shape_anew : shape_in s t (with_known begun m) ≡ with_logs begun 0 (shape_in s t m)
  unfolding shape_in
  shape_anew = ap₂ (λ (k n : ℕ). let σ : Shape = record (shape_in s t m) { sequence = k; others = n; logs = begun } in σ)
      (let few = x.orderly.table.sequence in let e : t.sequence ≡ risen t.sequence 0 = omega (arith, few) in e)
      (let e : log_extents begun + record_extents s.geometry.extent ≡ log_extents m.logs + record_extents s.geometry.extent + log_extents begun - log_extents m.logs = omega arith in e)

  well_anew : ∥ IsWellFormed (shape_in s t (with_known begun m)) ∥₁
  unfolding shape_in
  well_anew = ∥∥₁_map x.orderly.well_formed (λ w. subst IsWellFormed (sym shape_anew) (keeps_logged (shape_in s t m) begun 0 w (omega arith) (let e = extents_anew in omega (arith, e))))

  same_table : IsOneLog s t t u (rows t (Cbt u))
  same_table = record { tables = apart_itself t; table = x.orderly.table; others = λ n other. refl; there = refl; full = λ r is. log_old s t m u r x.orderly is }

  orderly_anew : IsOrderly s t (with_known begun m)
  orderly_anew = orderly_beside x.orderly x.tidy same_table begun logs_anew well_anew

  twin_room : HasLogRoom s.geometry.extent twin
  twin_room = subst (HasLogRoom s.geometry.extent) (sym x.is_twin) (x.orderly.log_room own (log_in_list m.logs u own x.found).0)

  twin_some : 1 ≤ length twin.bits
  twin_some = subst (λ (l : Log). 1 ≤ length l.bits) (sym x.is_twin) x.some

  -- the twin's log may be made beside the logs from before
  pub to_log : IsToLog s t m twin es
  to_log = record {
    orderly = x.orderly;
    tidy = x.tidy;
    absent = x.absent;
    few = x.few;
    some = twin_some;
    long = x.long;
    room = twin_room;
    proper = x.proper;
    extents_free = x.extents_free;
    enough = x.enough;
  }

  own_apart : twin.disk ≢ u
  own_apart same = absurd (let e : Some own ≡ None = sym x.found ∙ ap (λ (v : List ℕ). log_of v m.logs) (sym same) ∙ x.absent in cc)

  enough_anew : twin.extents ≤ free (shape_in s t (with_known begun m))
  unfolding shape_in free
  enough_anew = subst (λ (n : ℕ). twin.extents ≤ n) (ap (λ (n : ℕ). free (record (shape_in s t m) { others = n + record_extents s.geometry.extent; logs = begun })) (sym extents_anew)) x.enough

  -- and beside those of which the disk's begins anew
  pub to_log_anew : IsToLog s t (with_known begun m) twin es
  to_log_anew = record {
    orderly = orderly_anew;
    tidy = record { none_new = x.tidy.none_new; no_stray = x.tidy.no_stray };
    absent = other_on u twin.disk (begun_anew twin.tag) m.logs (λ l. refl) own_apart ∙ x.absent;
    few = let long = length-map m.logs (λ (y : Log). when (is_log_of u y) (begun_anew twin.tag) y) in let most = x.few in omega (arith, long, most);
    some = twin_some;
    long = x.long;
    room = twin_room;
    proper = x.proper;
    extents_free = x.extents_free;
    enough = enough_anew;
  }
