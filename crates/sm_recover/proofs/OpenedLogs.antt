-- The logs of an opening, from the table that it finds, without those of no use, to the table in which nothing is under way: their volumes are the same,
-- the same UUIDs are disks, and each disk has as many pieces.
use Rattle.std.proofs.Common.{◌≡◌, ⊎_elim, ℕ, true, false, List, length, Option, None, is_some, refl, sym, ap, ◌∙◌, subst}
use Rattle.common_laws.specs.Lists.{In}
use Rattle.sm_base.specs.Kinds.{is_log}
use Rattle.sm_base.specs.Numbers.{IsGeometry}
use Rattle.sm_base.specs.declared.names.Name.{Name}
use Rattle.sm_base.specs.declared.names.Name.TheVariants.{Coalesce, Relink}
use Rattle.sm_disk.specs.Held.{Held}
use Rattle.vg_meta.specs.Tables.{IsTable, VolumeTable}
use Rattle.vg_meta.specs.declared.changes.Change.TheVariants.{Remove}
use Rattle.vg_volumes.specs.Sites.{Site}
use Rattle.vg_volumes.specs.declared.stores.Store.{Ghosts}
use Rattle.sm_record.specs.declared.records.Record.{Record}
use Rattle.sm_mgt.specs.Places.{place_count}
use Rattle.sm_standing.specs.Checks.{fault_of, first_fault}
use Rattle.sm_standing.specs.Contents.{Content}
use Rattle.sm_standing.specs.Entries.{folding, head}
use Rattle.sm_standing.specs.LogChecks.{standing_pieces}
use Rattle.sm_standing.specs.Opened.{applied_all, ended, undo_changes, undone}
use Rattle.sm_standing.specs.Outlines.{Outline}
use Rattle.sm_standing.specs.Plain.{IsKnown}
use Rattle.sm_standing.specs.Standing.{disks, standing_volume}
use Rattle.sm_standing.specs.Unfolded.{unfolded}
use Rattle.sm_standing.proofs.LeafContents.{left_at_last}
use Rattle.sm_standing.proofs.LeafStands.{ended_stands_some}
use Rattle.sm_standing.proofs.LogPassLaws.{disk_of, pieces_of}
use Rattle.sm_standing.proofs.PlainKept.{but_leaf_known, known_but_leaf}
use Rattle.sm_standing.proofs.UndoneButLeaf.{but_leaf_disks}
use Rattle.sm_standing.proofs.UnfoldedButLeaf.{unfolded_disks, unfolded_sound, unfolded_table}
use Rattle.vhd_chain.specs.declared.rows.TreeRow.{TreeRow}
use Rattle.sm_ready.specs.Stores.{content_now}
use Rattle.sm_checks.specs.Faults.{HasLinks, HasPlaces, HasTable}
use Rattle.sm_checks.specs.Loaded.{AreRowsOf, HasEachRow, read_volumes, shortened, stored_with}
use Rattle.sm_checks.specs.Openable.{IsOpenable}
use Rattle.sm_recover.specs.Backs.{rows_back}
use Rattle.sm_recover.specs.Ending.{leaf_ends, rows_ended, unleafed}
use Rattle.sm_recover.specs.Repairs.{HasFewLogs, IsEndable}
use Rattle.sm_recover.specs.Tracked.{tree_pieces}
use Rattle.sm_recover.proofs.EndLaws.{end_case}
use Rattle.sm_recover.proofs.EndedMemory as memory
use Rattle.sm_recover.proofs.EndedThen.{IsThen, as_was, is_then, may_end, of_leaf}
use Rattle.sm_recover.proofs.KeptLogs.{KeepsLogs, keeps_none, keeps_one, keeps_part, keeps_then, leaf_keeps, undo_beside}
use Rattle.sm_recover.proofs.OpenedWell.{IsBeside}
use Rattle.sm_recover.proofs.PiecesLaws.{pieces_beside}
use Rattle.sm_recover.proofs.StepLaws.{part_all}
use Rattle.sm_recover.proofs.UndoTables.{undo_allowed}
use Rattle.sm_recover.proofs.UnfoldLaws.{HasFolding, may_end as may_remove, undoable_unfolded, unfolded_is, unfolded_none}
use Rattle.sm_recover.proofs.UnfoldedMemory.{beside_bare, stands_bare}

-- ---- where no leaf is being folded

-- the entry of a copy or of a link goes
unfolded_keeps : {s : Site} {t : VolumeTable} → IsEndable s t → KeepsLogs s.count t (unfolded t)
unfolded_keeps {s} {t} c = ⊎_elim
    (λ none. subst (KeepsLogs s.count t) (sym (unfolded_none none)) (keeps_none c.table))
    (⊎_elim (λ k. less (Coalesce k.0 k.1) k.2 refl) (λ k. less (Relink k.0 k.1) k.2 refl)) (end_case c)
  where
    less : (e : Name) (f : HasFolding t e) → is_log e ≡ false → KeepsLogs s.count t (unfolded t)
    less e f other = subst (KeepsLogs s.count t) (sym (unfolded_is t e f)) (keeps_one (Remove e) c.table (may_remove t e f s c.table) other)

-- and then what is being made is undone
undone_keeps : {s : Site} {t : VolumeTable} → IsEndable s t → KeepsLogs s.count t (undone (unfolded t))
unfolding undone
undone_keeps {s} {t} c =
    let k = undoable_unfolded c in
    let u = unfolded t in
    keeps_then (unfolded_keeps c) (keeps_part s.count u (undo_changes u) (applied_all u (undo_changes u)) k.table (undo_allowed k) (undo_beside u) (part_all u (undo_changes u)))

-- the disks are the same
undone_shown : (c : Content) → first_fault c ≡ None → IsKnown c.table → IsTable c.count c.table → IsGeometry c.extent c.block c.entries → disks (record c { table = undone (unfolded c.table) }) ≡ disks c
undone_shown c sound known table geometry =
    let k = but_leaf_known c (known_but_leaf c sound known) in
    let u : Content = record c { table = unfolded c.table } in
    but_leaf_disks u (unfolded_table c k table) geometry (unfolded_sound c k table) ∙ unfolded_disks c k table

-- ---- from the table that an opening finds

module _ {S : Type 0} (g : Ghosts S) (store : S) (xs : List TreeRow) (places : List (Option Record)) {t : VolumeTable} (c : IsOpenable (g.site store) t) (few : HasFewLogs t) (are : AreRowsOf (read_volumes t) xs)
    (each : HasEachRow g.told (stored_with g store (shortened t)) (read_volumes t) xs) (long : length places ≡ place_count)
    (pass : (x : Outline) → HasTable (g.site store).geometry t x → HasLinks xs x → HasPlaces places x → fault_of x ≡ None) where
  abbrev s : Site
  s = g.site store

  abbrev area : Held
  area = g.area store

  abbrev last : VolumeTable
  last = undone (unfolded (unleafed t))

  abbrev ys : List TreeRow
  ys = rows_back (unleafed t) (rows_ended t xs)

  th : IsThen g store xs (rows_ended t xs) places t (unleafed t)
  th = is_then g store xs places c few are each long pass

  pub beside_last : IsBeside g store (unfolded (unleafed t)) ys places
  beside_last = beside_bare g store (rows_ended t xs) places th.checked th.are th.each long th.pass

  pub keeps_last : KeepsLogs s.count t last
  keeps_last = keeps_then (leaf_keeps c.table (may_end g store xs places c few are each long pass) (unleafed t) (part_all t (leaf_ends t (head (folding t))))) (undone_keeps th.checked)

  -- the same UUIDs are disks
  leaf_stands : (w : List ℕ) → is_some (standing_volume (unleafed t) w) ≡ is_some (standing_volume t w)
  leaf_stands w = of_leaf g store xs places c few are each long pass (is_some (standing_volume (unleafed t) w) ≡ is_some (standing_volume t w))
      (λ l p found.
      let x = memory.seen g store xs places c are each long pass in
      ap (λ v. is_some (standing_volume v w)) (memory.unleafed_is g store xs places c are each long pass l p found)
      ∙ ended_stands_some s.count x (memory.sound g store xs places c are each long pass) c.table (memory.homes g store xs places c are each long pass x) l p (memory.one g store xs places c are each long pass l p found) w)
      (λ other. ap (λ v. is_some (standing_volume v w)) (as_was g store xs places c few are each long pass other))

  pub stands_last : (w : List ℕ) → is_some (standing_volume t w) ≡ true → is_some (standing_volume last w) ≡ true
  stands_last w stands = stands_bare g store (rows_ended t xs) places th.checked th.are th.each long th.pass w (leaf_stands w ∙ stands)

  -- the disks are the same
  module _ (sound : first_fault (content_now s t area) ≡ None) where
    pub shown_last : disks (content_now s last area) ≡ disks (content_now s t area)
    shown_last = of_leaf g store xs places c few are each long pass (disks (content_now s last area) ≡ disks (content_now s t area))
        (λ l p found.
        let is = memory.unleafed_is g store xs places c are each long pass l p found in
        let left = left_at_last (content_now s t area) sound c.table s.geometry.in_range l p (memory.one g store xs places c are each long pass l p found) in
        ap (λ v. disks (content_now s (undone (unfolded v)) area)) is
        ∙ undone_shown (content_now s (ended t) area) left.sound (subst IsKnown is th.checked.known) left.table s.geometry.in_range ∙ left.shown)
        (λ other.
        let is = as_was g store xs places c few are each long pass other in
        ap (λ v. disks (content_now s (undone (unfolded v)) area)) is ∙ undone_shown (content_now s t area) sound (subst IsKnown is th.checked.known) c.table s.geometry.in_range)

    -- and so are their pieces, which are those of their images in memory
    pub pieces_last : g.told → (w : List ℕ) → is_some (standing_volume t w) ≡ true → tree_pieces ys w ≡ standing_pieces (content_now s t area) w
    pieces_last told w stands =
        let d = disk_of (content_now s t area) w sound stands in
        let now : In d.0 (disks (content_now s last area)) = subst (In d.0) (sym shown_last) d.1 in
        pieces_beside g store ys places (undoable_unfolded th.checked) beside_last told w (stands_last w stands)
        ∙ ap (standing_pieces (content_now s last area)) (sym d.2)
        ∙ pieces_of (content_now s last area) d.0 now ∙ sym (pieces_of (content_now s t area) d.0 d.1)
        ∙ ap (standing_pieces (content_now s t area)) d.2
