-- The volume of an image is cut, as a run of two calls: what it asks, what is known at its end, and why each moment is fine.
use Rattle.std.proofs.Common.{◌≡◌, ◌≢◌, inr, ℕ, ◌*◌, ◌<◌, ◌≤◌, false, List, take, drop, Option, refl, sym, ap, ap₂, ◌∙◌, subst, subst₂}
use Rattle.sm_base.specs.declared.names.Name.TheVariants.{Vhd, Cbt}
use Rattle.sm_disk.specs.Held.{Held, reads}
use Rattle.common_laws.specs.Lists.{In}
use Rattle.vg_meta.specs.Tables.{VolumeTable, extents_of, rows}
use Rattle.vg_volumes.specs.Sites.{Site, size_of, volume_of}
use Rattle.vg_volumes.specs.Stored.{held_in, sectors_in, stored}
use Rattle.vg_volumes.specs.Volumes.{KeepsAt, span, volume}
use Rattle.vg_volumes.specs.declared.stores.Store.{Ghosts}
use Rattle.vg_volumes.proofs.VolumeLaws.{IsSettled-volume, Keeps-volume, KeepsAt-none}
use Rattle.vhd_volumes.proofs.SteadyLaws.{KeepsAt-shorter}
use Rattle.vhd_image.specs.Bodies.{IfVhd, ImageIsTrue, TrueIn, volume_name}
use Rattle.vhd_image.specs.Changes.{EndsAt, StaysTrueIn}
use Rattle.vhd_chain.specs.Trees.{row_name, tree_row}
use Rattle.vhd_chain.specs.declared.rows.TreeRow.{TreeRow}
use Rattle.sm_refs.specs.Attached.{Attached}
use Rattle.sm_machine.specs.Disks.{Disk}
use Rattle.sm_machine.specs.Shapes.{image_limit}
use Rattle.sm_standing.specs.Standing.{disks}
use Rattle.sm_ready.specs.Does.{store_shape}
use Rattle.sm_ready.specs.Done.{HasDoneFrom, at_rest}
use Rattle.sm_ready.specs.Framing.{IsBetweenSteps}
use Rattle.sm_ready.specs.Known.{Known, known, shape_in}
use Rattle.sm_ready.specs.Orderly.{IsOrderly}
use Rattle.sm_ready.specs.Ready.{IsTidy}
use Rattle.sm_ready.specs.Sessions.{IsOrderlyStore, IsReadyStore, IsTidyStore}
use Rattle.sm_ready.specs.Stores.{StoreLeaves, store_content}
use Rattle.sm_ready.specs.declared.memory.Memory.{Memory}
use Rattle.sm_ready.proofs.AfterLaws.{other_keeps}
use Rattle.sm_ready.proofs.ChainLaws.{tab}
use Rattle.sm_ready.proofs.CommitLaws.{IsSafe, ready_safe}
use Rattle.sm_ready.proofs.FrameLaws.{KeepsVolume}
use Rattle.sm_ready.proofs.LeftLaws.{extent_some}
use Rattle.sm_ready.proofs.LogLaws.{HoldsLogs, holds_keeps, holds_ready, logged_left}
use Rattle.sm_ready.proofs.LogRows.{image_apart}
use Rattle.sm_ready.proofs.Orders.{geometry_of}
use Rattle.sm_ready.proofs.RestLaws.{keeps_rest}
use Rattle.sm_calls.specs.Calls.{Call, CanRun, DoesRun, GoesWell, IsReadyWith, ShowsBetween}
use Rattle.sm_calls.proofs.StoreLaws.{law_run, ready_fine, safe_fine}
use Rattle.sm_space.specs.Deflating.{CanDeflate, cut_calls, deflated}
use Rattle.sm_space.specs.Inflating.{CanEnd, EndsIn, IfRow, WritesEnd, with_extents}
use Rattle.sm_space.proofs.CutLaws.{IsToCut, after, cut, cut_other, cut_own, cut_shape, fits_cut, is_its_vhd, its, kept_long, less, may_cut, orderly_cut, parts, tidy_cut, to_cut}
use Rattle.sm_space.proofs.FooterLaws.{disks_cut, footer_safe, ready_cut}
use Rattle.sm_space.proofs.InflatingLaws.{tree_room_sized}
use Rattle.sm_space.proofs.OwnLaws.{in_rows, only}
use Rattle.sm_space.proofs.TrueLaws.{body_ended, body_front, true_sized, volume_ended}

-- what a call knows of a store
pub record CutsIn {S : Type 0} (g : Ghosts S) (a : S) (m : Memory) (u : List ℕ) (to : ℕ) (row : TreeRow) : Type 0 where
  pub cuts : IsToCut (g.site a) (tab g a) (known m) u to row
  pub usable : g.failed a ≡ false

pub cuts_in : {S : Type 0} (g : Ghosts S) (a : S) (m : Memory) (u : List ℕ) (to : ℕ) → IsOrderlyStore g a m → IsTidyStore g a m → g.failed a ≡ false
    → CanDeflate (store_shape g a m) (Vhd u) to → (row : TreeRow) × CutsIn g a m u to row
cuts_in g a m u to orderly tidy usable can = let w = to_cut (g.site a) (tab g a) (known m) u to orderly tidy can in (w.0, record { cuts = w.1; usable = usable })

module _ {S : Type 0} {g : Ghosts S} {a : S} {m : Memory} {u : List ℕ} {to : ℕ} {row : TreeRow} (h : CutsIn g a m u to row) where
  abbrev s : Site
  s = g.site a

  abbrev t : VolumeTable
  t = tab g a

  abbrev o : Option TreeRow
  o = tree_row m.tree.rows (Vhd u)

  abbrev calls : List Call
  calls = cut_calls s t (Vhd u) o to

  abbrev next : VolumeTable
  next = cut s t (known m) u to row h.cuts

  abbrev then : Known
  then = after s t (known m) u to row h.cuts

  own_name : volume_name row.image ≡ Vhd u
  own_name = (in_rows s t (known m) u row h.cuts.orderly h.cuts.found).1

  -- ---- what it asks

  pub can_calls : CanRun g calls a
  can_calls = record { usable = h.usable; allowed = (may_cut s t (known m) u to row h.cuts, fits_cut s t (known m) u to row h.cuts, tt); room = (tt, tt) }

  pub image_there : CanEnd g a m.tree.rows (Vhd u) to
  image_there = record {
    row = row;
    there = h.cuts.found;
    named = own_name;
    vhd = is_its_vhd s t (known m) u to row h.cuts;
    within = less s t (known m) u to row h.cuts;
    room = h.cuts.room;
  }

  -- ---- what is known at its end

  module _ {z : S} {ok : Type 0} (run : DoesRun g calls a z ok) (fine : ok) (n : Memory) where
    pub shape_end : known n ≡ then → store_shape g z n ≡ deflated (Vhd u) to (store_shape g a m)
    shape_end is = ap₂ (λ (x : Site) (y : VolumeTable). shape_in x y (known n)) run.site (run.table fine) ∙ ap (shape_in s next) is ∙ cut_shape s t (known m) u to row h.cuts

    abbrev extents : List ℕ
    extents = (its s t (known m) u to row h.cuts).volume.extents

    abbrev extent : ℕ
    extent = s.geometry.extent

    extents_had : extents_of (rows t (Vhd u)) ≡ extents
    extents_had = ap extents_of (its s t (known m) u to row h.cuts).there

    extents_now : extents_of (rows next (Vhd u)) ≡ take to extents
    extents_now = ap extents_of (cut_own s t (known m) u to row h.cuts)

    size_now : to * extent ≡ span extent (take to extents)
    size_now = ap (λ k. k * extent) (sym (kept_long s t (known m) u to row h.cuts))

    -- the volume of another image is kept
    other : g.told → (r : TreeRow) → In r m.tree.rows → row_name r ≢ Vhd u → KeepsVolume g a z r
    other told r i away =
        let ran = run.ran fine told in
        volume_ended ran.0 r ran.3 (cut_other s t (known m) u to row h.cuts (row_name r) away)
        (other_keeps s t (g.area a) ran.0 (Vhd u) (row_name r) h.cuts.orderly.table (extent_some s t (known m) h.cuts.orderly) ran.1.beside away)

    -- its own ends where its volume ends
    own_true : g.told → ImageIsTrue (stored g a) row.image → ImageIsTrue (stored g z) row.image
    own_true told was =
        let ran = run.ran fine told in
        let last = at_rest (reads ran.0) in
        let ok = geometry_of s t (known m) h.cuts.orderly in
        subst (λ x. ImageIsTrue x row.image) (sym ran.3)
        (subst (λ k. TrueIn s.geometry (size_of s next k) (volume_of s next last k) row.image) (sym own_name)
        (subst (λ fs. TrueIn s.geometry (span extent fs) (volume extent fs last) row.image) (sym extents_now)
        (body_front s.geometry (span extent (take to extents)) row.image ok
        (subst (λ es. KeepsAt (λ p. p < span extent (take to extents)) (volume extent es last) (volume extent (take to extents) last))
        (parts s t (known m) u to row h.cuts ∙ sym extents_had) (KeepsAt-shorter extent (take to extents) (drop to extents) last))
        (subst (λ k. TrueIn s.geometry k (volume_of s t last (Vhd u)) row.image) size_now
        (body_ended s.geometry (size_of s t (Vhd u)) (to * extent) row.image ok (KeepsAt-none _ _)
        (subst (λ x. IfRow x (λ r. IfVhd r.image (λ head slots. EndsAt s.geometry (to * extent) head slots (volume_of s t (g.area a) (Vhd u)) (volume_of s t ran.0 (Vhd u))))) h.cuts.found ran.2)
        (Keeps-volume extent (extents_of (rows t (Vhd u))) (keeps_rest ran.0)) (IsSettled-volume extent (extents_of (rows t (Vhd u))) last (λ p. refl))
        (subst (λ k. TrueIn s.geometry (sectors_in (stored g a) k) (held_in (stored g a) k) row.image) own_name was))))))

    pub session_end : IsBetweenSteps g a m → n.tree.rows ≡ with_extents (Vhd u) to m.tree.rows → n.tree.spare ≡ m.tree.spare → n.attached ≡ m.attached → known n ≡ then → IsBetweenSteps g z n
    session_end session rows_are spare attached is = record {
      usable = run.usable fine;
      orderly = subst₂ (λ x y. IsOrderly x y (known n)) (sym run.site) (sym (run.table fine)) (subst (IsOrderly s next) (sym is) (orderly_cut s t (known m) u to row h.cuts));
      tidy = subst₂ IsTidy (sym (run.table fine)) (sym is) (tidy_cut s t (known m) u to row h.cuts);
      true_images = true_sized (Vhd u) to m n row run.site rows_are (only s t (known m) u row h.cuts.orderly h.cuts.found) other own_true session.true_images;
      rows = run.rows fine session.rows;
      tree_room = tree_room_sized m n (Vhd u) to rows_are spare session.tree_room;
      attachment_room = subst (λ (x : Attached). image_limit ≤ x.room) (sym attached) session.attachment_room;
    }

  -- ---- each moment is fine

  module _ (told : g.told) (ready : IsReadyStore g a m) where
    abbrev was : List Disk
    was = disks (store_content g a)

    module _ (area : Held) (did : WritesEnd s t (Vhd u) o to (g.area a) area) where
      stays : IfVhd row.image (λ head slots. StaysTrueIn s.geometry head slots (volume_of s t (g.area a) (Vhd u)) (volume_of s t area (Vhd u)))
      stays = subst (λ x. IfRow x (λ r. IfVhd r.image (λ head slots. StaysTrueIn s.geometry head slots (volume_of s t (g.area a) (Vhd u)) (volume_of s t area (Vhd u))))) h.cuts.found did.stays

      safe_written : IsSafe s t area (StoreLeaves g a) was
      safe_written = footer_safe s t (known m) u to row h.cuts (g.area a) ready area did.beside stays (StoreLeaves g a) (λ image left. inr (told, h.usable, record { table_is = refl; sectors = left }))

      last_ready : EndsIn s t (Vhd u) o to (g.area a) area → IsReadyWith then was (record { site = s; table = next; area = at_rest (reads area) })
      last_ready done =
          let ends = subst (λ x. IfRow x (λ r. IfVhd r.image (λ head slots. EndsAt s.geometry (to * s.geometry.extent) head slots (volume_of s t (g.area a) (Vhd u)) (volume_of s t area (Vhd u))))) h.cuts.found done in
          record {
            ready = ready_cut s t (known m) u to row h.cuts (g.area a) ready area did.beside stays ends;
            settled = λ p. refl;
            shown = disks_cut s t (known m) u to row h.cuts (g.area a) ready area did.beside stays ends;
          }

    -- the logs stay
    holds : HoldsLogs s t (g.area a) (known m).logs
    holds = holds_ready s t (g.area a) (known m) h.cuts.orderly ready

    holds_written : (area : Held) → WritesEnd s t (Vhd u) o to (g.area a) area → HoldsLogs s t area (known m).logs
    holds_written area did =
        holds_keeps holds area (λ v. other_keeps s t (g.area a) area (Vhd u) (Cbt v) h.cuts.orderly.table (extent_some s t (known m) h.cuts.orderly) did.beside (image_apart (Vhd u) refl v))

    well : GoesWell (ShowsBetween s (StoreLeaves g a) was was (known m).logs) (IsReadyWith then was) (stored g a) calls
    well = record {
      first = safe_fine (known m).logs was (ready_safe s t (g.area a) (known m) (StoreLeaves g a) h.cuts.orderly ready (λ image is. inr (told, h.usable, is))) (logged_left holds h.cuts.orderly.table);
      next = (
        λ area did. safe_fine (known m).logs was (safe_written area did) (logged_left (holds_written area did) h.cuts.orderly.table),
        λ area did done. let last = last_ready area did done in (ready_fine s next then (reads area) (StoreLeaves g a) was was (orderly_cut s t (known m) u to row h.cuts) last.ready last.shown, last),
      );
    }

    pub done : {z : S} {came ok : Type 0} (n : Known) → n.logs ≡ (known m).logs → DoesRun g calls a z came → (ok → came × (n ≡ then)) → HasDoneFrom s (tab g z) (g.area z) n (StoreLeaves g a) (StoreLeaves g z) ok was was
    done n same run by = law_run n told run well same by
