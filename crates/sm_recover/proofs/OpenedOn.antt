-- Memory as the checks answer it, beside the table without logs of no use: what the repairs ask of both.
use Rattle.std.proofs.Common.{◌≡◌, ◌≤◌, true, List, [], length, Option, None, is_some, refl, sym, ap, ap₂, ◌∙◌, subst, arith}
use Rattle.std.proofs.Math.Path.{fun_ext}
use Rattle.common_laws.specs.Lists.{In, ◌>>=◌}
use Rattle.common_laws.proofs.Options.{is_some-parts}
use Rattle.sm_base.specs.declared.names.Name.{Name}
use Rattle.sm_base.specs.declared.names.Name.TheVariants.{Mgt}
use Rattle.sm_disk.specs.Held.{Held, IsSettled}
use Rattle.vg_meta.specs.Roomy.{table_alone}
use Rattle.vg_meta.specs.Tables.{VolumeTable, extents_of}
use Rattle.vg_volumes.specs.Sites.{Site}
use Rattle.vg_volumes.specs.Volumes.{volume}
use Rattle.vg_volumes.specs.declared.stores.Store.{Ghosts}
use Rattle.sm_log.specs.Logs.{Log}
use Rattle.sm_machine.specs.Operations.{Idle}
use Rattle.sm_machine.specs.Tracking.{AreGoodLogs}
use Rattle.sm_record.specs.declared.records.Record.{Record}
use Rattle.sm_refs.specs.Attached.{Attached}
use Rattle.sm_mgt.specs.Places.{Agrees, place_count, records_of}
use Rattle.sm_standing.specs.Checks.{fault_of, first_fault}
use Rattle.sm_standing.specs.Dropped.{dropped}
use Rattle.sm_standing.specs.Entries.{folding, head}
use Rattle.sm_standing.specs.Images.{Image}
use Rattle.sm_standing.specs.Keeping.{HoldsWell}
use Rattle.sm_standing.specs.LogChecks.{pieces_in, standing_pieces}
use Rattle.sm_standing.specs.Opened.{undone}
use Rattle.sm_standing.specs.Outlines.{Outline}
use Rattle.sm_standing.specs.Standing.{standing_volume}
use Rattle.sm_standing.specs.Unfolded.{unfolded}
use Rattle.sm_log_rows.specs.LogRows.{AreApartFromLogs}
use Rattle.sm_log_rows.proofs.ApartLaws.{standing_alike}
use Rattle.sm_log_rows.proofs.ContentLaws.{images_apart, sound_apart}
use Rattle.vhd_chain.specs.Reading.{AllAreTrue}
use Rattle.vhd_chain.specs.declared.rows.TreeRow.{TreeRow}
use Rattle.sm_ready.specs.Known.{Known, is_shown, known, shape_in}
use Rattle.sm_ready.specs.Orderly.{IsOrderly}
use Rattle.sm_ready.specs.Ready.{IsReady}
use Rattle.sm_ready.specs.Stores.{content_now, store_content}
use Rattle.sm_ready.specs.declared.memory.Memory.{Memory}
use Rattle.sm_ready.proofs.ShapeLaws.{standing_shown}
use Rattle.sm_checks.specs.Faults.{HasLinks, HasPlaces, HasTable}
use Rattle.sm_checks.specs.Links.{IsLinkRight}
use Rattle.sm_checks.specs.Loaded.{AreRowsOf, HasEachRow, read_volumes, shortened, stored_with}
use Rattle.sm_checks.specs.Openable.{IsOpenable}
use Rattle.sm_recover.specs.Backs.{CanGiveBack, rows_back}
use Rattle.sm_recover.specs.Ending.{CanEnd, rows_ended, unleafed}
use Rattle.sm_recover.specs.Repairs.{HasFewLogs}
use Rattle.sm_recover.specs.Stores.{IsOpenedOn}
use Rattle.sm_recover.specs.Tracked.{AreLogsRead, HasPiecesOf, logged_disks}
use Rattle.sm_recover.proofs.CheckedMemory.{agrees_then, back_is, holding_then}
use Rattle.sm_recover.proofs.DroppedChecks.{apart, are_dropped, back_alike, can_back_alike, can_end_alike, each_dropped, ended_alike, open_dropped, pass_dropped}
use Rattle.sm_recover.proofs.EndedForks.{can_back}
use Rattle.sm_recover.proofs.EndedThen.{IsThen, can_take, ended_so, is_then, may_end}
use Rattle.sm_recover.proofs.FewLogs.{few_disks, few_useful}
use Rattle.sm_recover.proofs.GoodLaws.{good_logs}
use Rattle.sm_recover.proofs.LinkedLaws.{linked_right}
use Rattle.sm_recover.proofs.MemoryLogs.{few_logs, kept_logs, log_pieces, log_room, log_stands, logged_last}
use Rattle.sm_recover.proofs.OpenedLogs.{beside_last, keeps_last, pieces_last, stands_last}
use Rattle.sm_recover.proofs.OpenedWell.{opened_ready, opened_true, opened_with}
use Rattle.sm_recover.proofs.UnfoldLaws.{undoable_unfolded}

module _ {S : Type 0} (g : Ghosts S) (store : S) (xs : List TreeRow) (places : List (Option Record)) (c : IsOpenable (g.site store) (table_alone (g.table store))) (are : AreRowsOf (read_volumes (table_alone (g.table store))) xs)
    (each : HasEachRow g.told (stored_with g store (shortened (table_alone (g.table store)))) (read_volumes (table_alone (g.table store))) xs) (long : length places ≡ place_count)
    (pass : (x : Outline) → HasTable (g.site store).geometry (table_alone (g.table store)) x → HasLinks xs x → HasPlaces places x → fault_of x ≡ None) where
  abbrev s : Site
  s = g.site store

  abbrev area : Held
  area = g.area store

  -- the table that was found, and that without logs of no use
  abbrev was : VolumeTable
  was = table_alone (g.table store)

  abbrev t : VolumeTable
  t = dropped was

  abbrev last : VolumeTable
  last = undone (unfolded (unleafed t))

  abbrev ys : List TreeRow
  ys = rows_back (unleafed t) (rows_ended t xs)

  k : AreApartFromLogs was t
  k = apart g store xs places c are each long pass

  few : HasFewLogs t
  few = few_useful c

  open_then : IsOpenable s t
  open_then = open_dropped g store xs places c are each long pass

  are_then : AreRowsOf (read_volumes t) xs
  are_then = are_dropped g store xs places c are each long pass

  each_then : HasEachRow g.told (stored_with g store (shortened t)) (read_volumes t) xs
  each_then = each_dropped g store xs places c are each long pass

  pass_then : (x : Outline) → HasTable s.geometry t x → HasLinks xs x → HasPlaces places x → fault_of x ≡ None
  pass_then = pass_dropped g store xs places c are each long pass

  th : IsThen g store xs (rows_ended t xs) places t (unleafed t)
  th = is_then g store xs places open_then few are_then each_then long pass_then

  -- ---- the images in memory

  pub can_name : CanEnd was (head (folding was)) xs
  can_name = can_end_alike was t k xs (can_take g store xs places open_then few are_then each_then long pass_then)

  pub can_give : CanGiveBack was (rows_ended was xs)
  can_give = can_back_alike was t k (rows_ended was xs) (subst (CanGiveBack t) (ended_alike was t k xs) (can_back g store xs places open_then few are_then each_then long pass_then))

  pub rows_are : {mid rs : List TreeRow} → mid ≡ rows_ended was xs → rs ≡ rows_back was mid → rs ≡ ys
  rows_are {mid} ended back = back_is g store xs places open_then few are_then each_then long pass_then (ended ∙ sym (ended_alike was t k xs)) (back ∙ sym (back_alike was t k mid))

  -- ---- the logs to read

  pub few_read : (rs : List TreeRow) → length (logged_disks was rs) ≤ 500
  few_read rs = few_disks c rs

  sound_then : first_fault (store_content g store) ≡ None → first_fault (content_now s t area) ≡ None
  sound_then sound = sound_apart (store_content g store) t k sound

  pub pieces_are : first_fault (store_content g store) ≡ None → g.told → HasPiecesOf (store_content g store) ys
  unfolding standing_pieces
  pieces_are sound told w stands =
      pieces_last g store xs places open_then few are_then each_then long pass_then (sound_then sound) told w (ap is_some (standing_alike was t k w) ∙ stands)
      ∙ ap₂ (λ (o : Option Name) (f : Name → Option Image). pieces_in (o >>= f)) (standing_alike was t k w) (fun_ext (images_apart (store_content g store) t k))

  -- ---- memory

  module _ (ls : List Log) (attached : Attached) (disks : attached.disks ≡ []) (counts : attached.counts ≡ []) (read : AreLogsRead g store ys ls) where
    abbrev m : Known
    m = record { rows = ys; places = places; logs = ls; attached = attached; op = Idle }

    orderly : IsOrderly s last m
    orderly =
        opened_with g store ys places (undoable_unfolded th.checked) (beside_last g store xs places open_then few are_then each_then long pass_then) long ls
        (kept_logs g store ys ls c.table read (keeps_last g store xs places open_then few are_then each_then long pass_then))
        (few_logs g store ys ls c.table read (few_read ys)) (log_room g store ys ls c.table read) attached disks counts

    stands : (l : Log) → In l ls → is_some (standing_volume last l.disk) ≡ true
    stands l i = stands_last g store xs places open_then few are_then each_then long pass_then l.disk (ap is_some (standing_alike was t k l.disk) ∙ log_stands g store ys ls c.table read l i)

    shown : (l : Log) → In l ls → is_shown ys l.disk ≡ true
    shown l i = let n = is_some-parts (standing_volume last l.disk) (stands l i) in standing_shown s last m l.disk n.0 orderly n.1

    good : ∥ AreGoodLogs (shape_in s last m) ∥₁
    good =
        good_logs s last m orderly read.numbered (let later = (keeps_last g store xs places open_then few are_then each_then long pass_then).later in omega (arith, later, k.later))
        stands
        (log_pieces g store ys ls c.table read)

    ready : g.told → IsSettled area → first_fault (store_content g store) ≡ None → Agrees (records_of g store) places → HoldsWell (content_now s t area) → IsReady s last area m
    ready told settled sound agrees well =
        opened_ready g store ys places (undoable_unfolded th.checked) (beside_last g store xs places open_then few are_then each_then long pass_then) told settled
        (holding_then g store xs places open_then few are_then each_then long pass_then (sound_then sound) well) ls attached
        (agrees_then g store xs places open_then few are_then each_then long pass_then (subst (λ o. Agrees (volume s.geometry.extent (extents_of o) area) places) (sym (k.same Mgt refl)) agrees))
        (logged_last g store ys ls c.table read (keeps_last g store xs places open_then few are_then each_then long pass_then) told)

  -- as it is answered
  pub opened_on : (n : Memory) → n.tree.rows ≡ ys → n.records ≡ places → n.attached.disks ≡ [] → n.attached.counts ≡ [] → n.operation ≡ Idle → AreLogsRead g store n.tree.rows n.logs
      → (g.told → first_fault (store_content g store) ≡ None) → (g.told → Agrees (records_of g store) places) → IsOpenedOn g store t n
  opened_on n rows records disks counts idle read sound agrees =
      let read_ys = subst (λ rs. AreLogsRead g store rs n.logs) rows read in
      let same : known n ≡ record { rows = ys; places = places; logs = n.logs; attached = n.attached; op = Idle } = (λ i. record { rows = rows i; places = records i; logs = n.logs; attached = n.attached; op = idle i }) in
      record {
        openable = open_then;
        checked = th.checked;
        allowed = may_end g store xs places open_then few are_then each_then long pass_then;
        ended = ended_so g store xs places open_then few are_then each_then long pass_then;
        orderly = subst (IsOrderly s last) (sym same) (orderly n.logs n.attached disks counts read_ys);
        linking = subst (IsLinkRight (unleafed t)) (sym rows) (linked_right g store (rows_ended t xs) places th.checked th.are th.each long th.pass);
        no_stray_log = λ l i. ap (λ rs. is_shown rs l.disk) rows ∙ shown n.logs n.attached disks counts read_ys l i;
        good_logs = subst (λ m. ∥ AreGoodLogs (shape_in s last m) ∥₁) (sym same) (good n.logs n.attached disks counts read_ys);
        ready = λ told settled well. subst (IsReady s last area) (sym same) (ready n.logs n.attached disks counts read_ys told settled (sound told) (agrees told) well);
        true_images = λ told settled. subst (AllAreTrue (stored_with g store last)) (sym rows)
            (opened_true g store ys places (undoable_unfolded th.checked) (beside_last g store xs places open_then few are_then each_then long pass_then) told settled);
      }
