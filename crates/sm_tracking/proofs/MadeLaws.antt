-- A log is made beside what is in memory: the two commits that make its volume are allowed, and behind them table and memory are orderly.
use Rattle.std.proofs.Common.{◌≡◌, ◌≢◌, ⊎_elim, zero, suc, ℕ, ◌+◌, ◌-◌, ◌*◌, ◌<◌, ◌≤◌, ◌^◌, min, Bool, true, false, cond, List, [], ◌∷◌, length, filter, Option, Some, None, refl, sym, ap, ap₂, ◌∙◌, subst, arith}
use Rattle.std.proofs.Math.Logic.{∥∥₁_map}
use Rattle.std.proofs.lemmas.Bool.{lt-ltb}
use Rattle.std.proofs.lemmas.Option.{none-some, same_Some}
use Rattle.common_laws.proofs.Bytes.{same_or_not}
use Rattle.sm_base.specs.Kinds.{is_entry, is_image, is_log}
use Rattle.sm_base.specs.Names.{IsName, IsUuid, name_cmp}
use Rattle.sm_base.specs.declared.names.Name.{Name}
use Rattle.sm_base.specs.declared.names.Name.TheVariants.{Cbt}
use Rattle.sm_cbt.proofs.MakeLaws.{begun_there, made_there}
use Rattle.sm_cbt.specs.Making.{MayMake, begun_table, creating, finishing, made_table}
use Rattle.sm_log.specs.Logs.{Log, log_extents, log_of, log_sectors, with_log}
use Rattle.sm_log_rows.proofs.ApartLaws.{names_alike}
use Rattle.sm_log_rows.proofs.ChangedLaws.{apart_from_logs}
use Rattle.sm_log_rows.proofs.DroppedLaws.{apart_then}
use Rattle.sm_log_rows.specs.LogRows.{AreApartFromLogs}
use Rattle.sm_logs.proofs.OrderLaws.{rising_with}
use Rattle.sm_logs.specs.Held.{log_limit}
use Rattle.sm_machine.proofs.LogLists.{extents-with_log}
use Rattle.sm_machine.proofs.Tracked.{keeps_logged}
use Rattle.sm_machine.specs.Operations.{Op}
use Rattle.sm_machine.specs.Operations as op
use Rattle.sm_machine.specs.Shapes.{Shape, free, image_limit, risen}
use Rattle.sm_machine.specs.Tracking.{with_logs}
use Rattle.sm_machine.specs.WellFormed.{IsWellFormed}
use Rattle.sm_standing.specs.Checks.{images as table_images}
use Rattle.sm_standing.specs.Entries.{names_in}
use Rattle.vg_layout.specs.Places.{record_extents}
use Rattle.vg_meta.proofs.ByName.{changes_by_name}
use Rattle.vg_meta.proofs.ChangeLaws.{IsTable-applied}
use Rattle.vg_meta.specs.Changes.{AreFree, Permits, made, put}
use Rattle.vg_meta.specs.Tables.{IsTable, Row, VolumeTable, rows}
use Rattle.vg_volumes.specs.Sites.{Fits, Site}
use Rattle.sm_ready.proofs.FitLaws.{fits_few}
use Rattle.sm_ready.proofs.LogRows.{log-no_image, logs_counted, table_logs}
use Rattle.sm_ready.proofs.Orders.{filled_face}
use Rattle.sm_standing.proofs.DisksShown.{row_of-In}
use Rattle.sm_ready.specs.Known.{Face, Known, entry_of, log_face, row_face, shape_in}
use Rattle.sm_ready.specs.Orderly.{HasLogRoom, IsOrderly}
use Rattle.sm_ready.specs.Ready.{IsTidy}
use Rattle.std.specs.Ordering.{is_lt}
use Rattle.sm_tracking.proofs.TwinLaws.{among_with, length-with, other_with, own_with}
use Rattle.sm_tracking.proofs.OrderLaws.{AreLogsOf, IsOneLog, orderly_beside, tidy_beside, with_known}

-- what is known of a log that is to be made on these extents
pub record IsToLog (s : Site) (t : VolumeTable) (m : Known) (l : Log) (es : List ℕ) : Type 0 where
  pub orderly : IsOrderly s t m
  pub tidy : IsTidy t m
  pub absent : log_of l.disk m.logs ≡ None
  pub few : length m.logs < log_limit
  pub some : 1 ≤ length l.bits
  pub long : l.extents ≡ length es
  pub room : HasLogRoom s.geometry.extent l
  pub proper : IsUuid l.disk
  pub extents_free : AreFree s.count t.volumes es
  pub enough : l.extents ≤ free (shape_in s t m)

filter_put : (test : Row → Bool) (r : Row) (rs : List Row) → test r ≡ true → length (filter test (put r rs)) ≡ suc (length (filter test rs))
unfolding put
filter_put test r [] e = ap (λ (b : Bool). length (cond b (r ∷ []) [])) e
filter_put test r (q ∷ rs) e = by (is_lt (name_cmp r.name q.name)) (filter_put test r rs e)
  where
    kept : (c : Bool) → length (filter test (put r rs)) ≡ suc (length (filter test rs))
        → length (cond c (q ∷ filter test (put r rs)) (filter test (put r rs))) ≡ suc (length (cond c (q ∷ filter test rs) (filter test rs)))
    kept true rest = ap suc rest
    kept false rest = rest

    by : (b : Bool) → length (filter test (put r rs)) ≡ suc (length (filter test rs)) → length (filter test (cond b (r ∷ q ∷ rs) (q ∷ put r rs))) ≡ suc (length (filter test (q ∷ rs)))
    by true rest = ap (λ (b : Bool). length (cond b (r ∷ filter test (q ∷ rs)) (filter test (q ∷ rs)))) e
    by false rest = kept (test q) rest

one_entry : (x : Op) → length (entry_of x) ≤ 1
one_entry op.Idle = omega arith
one_entry (op.Copy v p cursor) = omega arith
one_entry (op.Relink v p) = omega arith
one_entry (op.Leaf l p cursor) = omega arith
one_entry (op.Live l p cursor dirty) = omega arith

-- the sequence number, by two changes and by two commits
twice_raised : (n : ℕ) → n < 2 ^ 48 → min (min (n + 1) (2 ^ 48 - 1) + 1) (2 ^ 48 - 1) ≡ risen n 2
twice_raised n low = omega (arith, low)

module _ {s : Site} {t : VolumeTable} {m : Known} {l : Log} {es : List ℕ} (x : IsToLog s t m l es) where
  abbrev begun : VolumeTable
  begun = begun_table t l es

  abbrev after : VolumeTable
  after = made_table t l es

  -- no volume has the log's name
  pub volumeless : rows t (Cbt l.disk) ≡ None
  volumeless = by (rows t (Cbt l.disk)) refl
    where
      face_none : (r : Row) → r.fresh ≡ false → row_face (Some r) ≡ None → ⊥
      face_none r full e = none-some (record { hidden = r.hidden; extents = length r.extents }) (sym e ∙ filled_face r full)

      by : (o : Option Row) → rows t (Cbt l.disk) ≡ o → rows t (Cbt l.disk) ≡ None
      by None is = is
      by (Some r) is = absurd (face_none r (tidy_row r is) (ap row_face (sym is) ∙ x.orderly.logs l.disk ∙ ap log_face x.absent))
        where
          tidy_row : (r : Row) → rows t (Cbt l.disk) ≡ Some r → r.fresh ≡ false
          tidy_row r is = x.tidy.none_new r (row_of-In t.volumes (Cbt l.disk) r is).0

  some_extents : 0 < length es
  some_extents = some (length es) (subst (λ (n : ℕ). log_sectors (length l.bits) ≤ n * s.geometry.extent) x.long x.room)
    where
      some : (n : ℕ) → log_sectors (length l.bits) ≤ n * s.geometry.extent → 0 < n
      some zero e = absurd (omega (arith, e))
      some (suc n) e = omega arith

  pub allowed : Permits s.count t (creating l es)
  unfolding IsName
  allowed = record {
    name_proper = x.proper;
    new_name = volumeless;
    not_mgt = λ e. (let z = e in cc);
    kind = lt-ltb 0 (length es) some_extents;
    extents_free = x.extents_free;
  }

  table_begun : IsTable s.count begun
  table_begun = IsTable-applied s.count t (creating l es) x.orderly.table allowed

  pub apart_begun : AreApartFromLogs t begun
  apart_begun = apart_from_logs t (creating l es) refl x.orderly.table.sequence

  fits_begun : Fits s.count t (creating l es)
  fits_begun = fits_few s.count begun table_begun x.orderly.few_extents images logs entries
    where
      images : length (table_images begun) ≤ image_limit
      images = subst (λ (rs : List Row). length rs ≤ image_limit) (sym (apart_begun.kept (λ r. is_image r.name) (λ r log. log-no_image r.name log))) x.orderly.few

      logs : length (table_logs begun) ≤ log_limit
      logs = omega (arith, filter_put (λ (r : Row). is_log r.name) (made (Cbt l.disk) true es) t.volumes refl, logs_counted s t m x.orderly, x.few)

      entries : length (names_in begun is_entry) ≤ 1
      entries = omega (arith, ap (λ (ns : List Name). length ns) (names_alike t begun apart_begun is_entry (λ u. refl) ∙ x.orderly.entries), one_entry m.op)

  pub may_make : MayMake s t l es
  may_make = record {
    some = x.some;
    counted = x.long;
    sectors = subst (λ (n : ℕ). log_sectors (length l.bits) ≤ n * s.geometry.extent) x.long x.room;
    allowed = allowed;
    fits = fits_begun;
  }

  finishes : Permits s.count begun (finishing l)
  finishes = record { row = made (Cbt l.disk) true es; there = begun_there s t l es may_make; taking = refl; otherwise = refl }

  pub one_log : IsOneLog s t after l.disk (Some (made (Cbt l.disk) false es))
  one_log = record {
    tables = apart_then t begun after apart_begun (apart_from_logs begun (finishing l) refl table_begun.sequence);
    table = IsTable-applied s.count begun (finishing l) table_begun finishes;
    others = λ n other.
        (changes_by_name s.count begun (finishing l) table_begun finishes).others n other
        ∙ (changes_by_name s.count t (creating l es) x.orderly.table allowed).others n other;
    there = made_there s t l es may_make;
    full = λ r is. ap (λ (q : Row). q.fresh) (sym (same_Some _ _ is));
  }

  -- the table in the middle
  pub begun_others : (n : Name) → n ≢ Cbt l.disk → rows begun n ≡ rows t n
  begun_others n other = (changes_by_name s.count t (creating l es) x.orderly.table allowed).others n other

  pub begun_is_table : IsTable s.count begun
  begun_is_table = table_begun

  pub begun_row : rows begun (Cbt l.disk) ≡ Some (made (Cbt l.disk) true es)
  begun_row = begun_there s t l es may_make

  -- ---- memory with the log

  abbrev more : List Log
  more = with_log l m.logs

  pub logs_made : AreLogsOf s after more
  logs_made = record {
    faces = λ u. ⊎_elim (own u) (other u) (same_or_not u l.disk);
    few = omega (arith, length-with l m.logs, x.few);
    rising = rising_with m.logs l x.absent x.orderly.logs_in_order;
    room = λ k i. ⊎_elim (λ is. subst (HasLogRoom s.geometry.extent) (sym is) x.room) (λ j. x.orderly.log_room k j) (among_with l k m.logs i);
  }
    where
      own : (u : List ℕ) → u ≡ l.disk → row_face (rows after (Cbt u)) ≡ log_face (log_of u more)
      own u is = subst (λ (v : List ℕ). row_face (rows after (Cbt v)) ≡ log_face (log_of v more)) (sym is)
          (ap row_face one_log.there ∙ ap (λ (n : ℕ). Some (let f : Face = record { hidden = false; extents = n } in f)) (sym x.long) ∙ ap log_face (sym (own_with l m.logs x.absent)))

      other : (u : List ℕ) → u ≢ l.disk → row_face (rows after (Cbt u)) ≡ log_face (log_of u more)
      other u apart = ap row_face (one_log.others (Cbt u) (λ e. apart (let z : u ≡ l.disk = cc in z))) ∙ x.orderly.logs u ∙ ap log_face (sym (other_with u l m.logs apart))

  -- the shape, whatever the logs are by then
  pub shape_after : (ls : List Log) → shape_in s after (with_known ls m) ≡ with_logs ls 2 (shape_in s t m)
  unfolding shape_in
  shape_after ls = ap₂ (λ (k n : ℕ). let σ : Shape = record (shape_in s t m) { sequence = k; others = n; logs = ls } in σ)
      (twice_raised t.sequence x.orderly.table.sequence)
      (let e : log_extents ls + record_extents s.geometry.extent ≡ log_extents m.logs + record_extents s.geometry.extent + log_extents ls - log_extents m.logs = omega arith in e)

  pub well_after : (ls : List Log) → log_extents ls ≡ l.extents + log_extents m.logs → ∥ IsWellFormed (shape_in s after (with_known ls m)) ∥₁
  unfolding shape_in
  well_after ls extents = ∥∥₁_map x.orderly.well_formed (λ w. subst IsWellFormed (sym (shape_after ls)) (keeps_logged (shape_in s t m) ls 2 w (omega arith) (omega (arith, extents, x.enough))))

  pub shape_made : shape_in s after (with_known more m) ≡ with_logs more 2 (shape_in s t m)
  shape_made = shape_after more

  pub orderly_made : IsOrderly s after (with_known more m)
  orderly_made = orderly_beside x.orderly x.tidy one_log more logs_made (well_after more (extents-with_log l m.logs))

  pub tidy_made : IsTidy after (with_known more m)
  tidy_made = tidy_beside x.orderly x.tidy one_log more
