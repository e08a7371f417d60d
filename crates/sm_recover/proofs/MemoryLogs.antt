-- The logs that an opening has read are those of the table without logs of no use, and of each table that keeps their volumes.
use Rattle.std.proofs.Common.{◌≡◌, ◌*◌, ◌≤◌, ◌||◌, ℕ, Bool, true, false, not, List, length, Option, Some, None, is_some, refl, sym, ap, ap₂, ◌∙◌, subst, arith}
use Rattle.std.specs.Prelude.{if◌then◌else◌, nat_lt}
use Rattle.std.proofs.lemmas.Bool.{and_parts, true≢false}
use Rattle.std.proofs.lemmas.Option.{none-some, same_Some}
use Rattle.common_laws.specs.Lists.{In, ◌>>=◌}
use Rattle.common_laws.proofs.Booleans.{not_true}
use Rattle.common_laws.proofs.Lists.{In-filter, filter-In}
use Rattle.sm_base.specs.declared.names.Name.TheVariants.{Cbt}
use Rattle.sm_disk.specs.Held.{reads}
use Rattle.vg_meta.specs.Roomy.{table_alone}
use Rattle.vg_meta.specs.Tables.{IsTable, IsVolume, Row, VolumeTable, extents_of, rows, suits}
use Rattle.vg_meta.proofs.RowLaws.{row_of-name}
use Rattle.vg_volumes.specs.Sites.{Site}
use Rattle.vg_volumes.specs.Volumes.{piece}
use Rattle.vg_volumes.specs.declared.stores.Store.{Ghosts}
use Rattle.sm_log.specs.Logs.{Log, log_of, log_sectors}
use Rattle.sm_logs.specs.Held.{log_limit}
use Rattle.sm_standing.specs.Contents.{sectors_of}
use Rattle.sm_standing.specs.Dropped.{dropped, is_useless, is_useless_as}
use Rattle.sm_standing.specs.Logs.{IsLogOf, IsLogged, log_at, log_in, log_read}
use Rattle.sm_standing.specs.Standing.{standing_volume}
use Rattle.sm_standing.proofs.DisksShown.{row_of-In}
use Rattle.sm_standing.proofs.LogLaws.{log_listed}
use Rattle.sm_log_rows.proofs.DroppedLaws.{dropped_volumes}
use Rattle.sm_log_reading.specs.Reading.{filled_extents}
use Rattle.vhd_chain.specs.declared.rows.TreeRow.{TreeRow}
use Rattle.sm_ready.specs.Known.{log_face, row_face}
use Rattle.sm_ready.specs.Orderly.{HasLogRoom}
use Rattle.sm_ready.specs.Stores.{content_now, store_content}
use Rattle.sm_ready.proofs.LogLaws.{there_of}
use Rattle.sm_ready.proofs.LogRead.{AreLogsOf}
use Rattle.sm_ready.proofs.LogRows.{log_in_list}
use Rattle.sm_ready.proofs.Orders.{filled_face}
use Rattle.sm_ready.proofs.RowLaws.{All-In, found_in}
use Rattle.sm_recover.specs.Tracked.{AreLogsRead, logged_disks, tree_pieces}
use Rattle.sm_recover.proofs.DroppedChecks.{dropped_all}
use Rattle.sm_recover.proofs.KeptLogs.{KeepsLogs}
use Rattle.sm_recover.proofs.TrackedLaws.{in_list, listed}

module _ {S : Type 0} (g : Ghosts S) (store : S) (xs : List TreeRow) (ls : List Log) (table : IsTable (g.site store).count (table_alone (g.table store))) (read : AreLogsRead g store xs ls) where
  abbrev s : Site
  s = g.site store

  -- the table that the opening found, and that without logs of no use
  abbrev was : VolumeTable
  was = table_alone (g.table store)

  abbrev t : VolumeTable
  t = dropped was

  less : IsTable s.count t
  less = (dropped_all s.count was table).table

  -- a log that is left
  record IsLeft (u : List ℕ) (r : Row) : Type 0 where
    here : In r was.volumes
    there : rows was (Cbt u) ≡ Some r
    named : r.name ≡ Cbt u
    filled : r.fresh ≡ false
    shown : r.hidden ≡ false
    stands : is_some (standing_volume was u) ≡ true

  left : (u : List ℕ) (r : Row) → rows t (Cbt u) ≡ Some r → IsLeft u r
  left u r is =
      let i = subst (λ (rs : List Row). In r rs) (dropped_volumes s.count was table) (row_of-In t.volumes (Cbt u) r is).0 in
      let w = In-filter (λ r. not (is_useless was r)) was.volumes r i in
      let named = row_of-name t.volumes (Cbt u) r is in
      let useful = sym (ap (is_useless_as was r.fresh) named) ∙ not_true (is_useless was r) w.1 in
      let kind : suits (record r { name = Cbt u }) ≡ true = subst (λ n. suits (record r { name = n }) ≡ true) named (All-In IsVolume was.volumes r table.volumes.each w.0).kind in
      record {
        here = w.0;
        there = ap (rows was) (sym named) ∙ found_in was.volumes table.volumes.rising r w.0;
        named = named;
        filled = (neither r.fresh (is_some (standing_volume was u)) useful).0;
        shown = not_true r.hidden (and_parts (not r.hidden) (nat_lt 0 (length r.extents)) kind).0;
        stands = (neither r.fresh (is_some (standing_volume was u)) useful).1;
      }
    where
      neither : (a b : Bool) → (a || not b) ≡ false → (a ≡ false) × (b ≡ true)
      neither false true e = (refl, refl)
      neither true b e = absurd (true≢false e)
      neither false false e = absurd (true≢false e)

  -- it was read
  found : (u : List ℕ) (r : Row) → rows t (Cbt u) ≡ Some r → (l : Log) × (log_of u ls ≡ Some l) × (l.extents ≡ length r.extents)
  found u r is =
      let k = left u r is in
      let i = in_list was xs r u k.here k.named k.filled k.stands in
      let here : filled_extents was u ≡ Some (length r.extents) = ap (λ (o : Option Row). o >>= λ r. if r.fresh then None else Some (length r.extents)) k.there ∙ ap (λ b. if b then None else Some (length r.extents)) k.filled in
      by (log_of u ls) refl (sym here ∙ read.read.found (record { disk = u; pieces = tree_pieces xs u }) i)
    where
      by : (o : Option Log) → log_of u ls ≡ o → Some (length r.extents) ≡ (o >>= λ l. Some l.extents) → (l : Log) × (log_of u ls ≡ Some l) × (l.extents ≡ length r.extents)
      by None none e = absurd (none-some (length r.extents) (sym e))
      by (Some l) is e = (l, is, sym (same_Some (length r.extents) l.extents e))

  -- and no other was
  none_found : (u : List ℕ) → rows t (Cbt u) ≡ None → log_of u ls ≡ None
  none_found u none = by (log_of u ls) refl
    where
      by : (o : Option Log) → log_of u ls ≡ o → o ≡ None
      by None e = refl
      by (Some l) e =
          let w = log_in_list ls u l e in
          let d = read.read.from l w.0 in
          let r = listed was xs d.0 d.1 in
          let own : d.0.disk ≡ u = sym d.2.own ∙ w.1 in
          let useful = ap (is_useless_as was r.0.fresh) r.2.named ∙ ap₂ (λ a b. a || not b) r.2.filled r.2.stands in
          let i = filter-In (λ r. not (is_useless was r)) was.volumes r.0 r.1 (ap not useful) in
          let j : In r.0 t.volumes = subst (λ (rs : List Row). In r.0 rs) (sym (dropped_volumes s.count was table)) i in
          absurd (none-some r.0 (sym none ∙ ap (rows t) (ap Cbt (sym own) ∙ sym r.2.named) ∙ found_in t.volumes less.volumes.rising r.0 j))

  pub logs_of : AreLogsOf t ls
  logs_of = record {
    faces = λ u. by u (rows t (Cbt u)) refl;
    old = λ u r is. (left u r is).filled;
    order = read.rising;
  }
    where
      by : (u : List ℕ) (o : Option Row) → rows t (Cbt u) ≡ o → row_face o ≡ log_face (log_of u ls)
      by u None none = sym (ap log_face (none_found u none))
      by u (Some r) is =
          let k = left u r is in
          let l = found u r is in
          filled_face r k.filled ∙ ap₂ (λ h e. Some (record { hidden = h; extents = e })) k.shown (sym l.2) ∙ sym (ap log_face l.1)

  pub few_logs : length (logged_disks was xs) ≤ log_limit → length ls ≤ log_limit
  few_logs few = omega (arith, few, read.few)

  pub log_room : (l : Log) → In l ls → HasLogRoom s.geometry.extent l
  log_room l i = let d = read.read.from l i in subst (λ n. log_sectors n ≤ l.extents * s.geometry.extent) (sym d.2.long) d.2.room

  pub log_stands : (l : Log) → In l ls → is_some (standing_volume was l.disk) ≡ true
  log_stands l i = let d = read.read.from l i in let r = listed was xs d.0 d.1 in subst (λ u. is_some (standing_volume was u) ≡ true) (sym d.2.own) r.2.stands

  pub log_pieces : (l : Log) → In l ls → length l.bits ≡ tree_pieces xs l.disk
  log_pieces l i = let d = read.read.from l i in let r = listed was xs d.0 d.1 in d.2.long ∙ r.2.pieces ∙ ap (tree_pieces xs) (sym d.2.own)

  -- ---- what a read gives of them, beside a table that keeps their volumes

  module _ {v : VolumeTable} (k : KeepsLogs s.count t v) where
    pub kept_logs : AreLogsOf v ls
    kept_logs = record { faces = λ u. ap row_face (k.volumes u) ∙ logs_of.faces u; old = λ u r is. logs_of.old u r (sym (k.volumes u) ∙ is); order = logs_of.order }

    module _ (told : g.told) where
      abbrev at_rows : List ℕ → Option Row → Option Log
      at_rows u o = o >>= λ r. if r.fresh then None else log_read u (length r.extents) (piece s.geometry.extent (extents_of o) (reads (g.area store)))

      read_at : (u : List ℕ) (r : Row) → rows t (Cbt u) ≡ Some r → log_at (content_now s v (g.area store)) u ≡ log_at (store_content g store) u
      unfolding log_at sectors_of
      read_at u r is = ap (at_rows u) (k.volumes u ∙ is ∙ sym (left u r is).there)

      logged_at : (u : List ℕ) (o : Option Row) → rows t (Cbt u) ≡ o → IsLogOf (content_now s v (g.area store)) u (log_of u ls)
      unfolding log_at
      logged_at u None none = record {
        read = ap (λ (o : Option Row). o >>= λ r. log_in (content_now s v (g.area store)) u r) (k.volumes u ∙ none) ∙ sym (none_found u none);
        there = there_of s.count v k.table u (log_of u ls) (kept_logs.faces u);
      }
      logged_at u (Some r) is =
          record {
            read = read_at u r is ∙ sym (ap (λ b. if b then log_at (store_content g store) u else None) (left u r is).stands) ∙ sym (log_listed (store_content g store) u) ∙ sym (ap (log_of u) (read.are told));
            there = there_of s.count v k.table u (log_of u ls) (kept_logs.faces u);
          }

      pub logged_last : IsLogged (content_now s v (g.area store)) ls
      logged_last u = logged_at u (rows t (Cbt u)) refl
