-- A volume gets more extents, as a run of four calls: what it asks, what is known at its end, and why each moment is fine.
use Rattle.std.proofs.Common.{◌≡◌, ◌≢◌, inl, inr, ℕ, ◌+◌, ◌-◌, ◌*◌, ◌<◌, ◌≤◌, false, List, [], ◌∷◌, ◌++◌, length, Option, refl, sym, ap, ap₂, ◌∙◌, subst, subst₂, arith}
use Rattle.std.proofs.lemmas.Bool.{true≢false}
use Rattle.common_laws.specs.Lists.{In}
use Rattle.sm_base.specs.declared.names.Name.{Name}
use Rattle.sm_base.specs.declared.names.Name.TheVariants.{Vhd, Cbt, Inflate}
use Rattle.sm_disk.specs.Held.{Held, Keeps, reads}
use Rattle.sm_disk.proofs.HeldLaws.{Keeps-then}
use Rattle.vg_extents.specs.Fits.{AreLeastFree}
use Rattle.vg_meta.specs.Roomy.{places}
use Rattle.vg_meta.specs.Tables.{VolumeTable, extents_of, name_eq, rows}
use Rattle.vg_meta.specs.Changes.{applied, grown, made}
use Rattle.vg_meta.specs.declared.changes.Change.{Change}
use Rattle.vg_meta.specs.declared.changes.Change.TheVariants.{Grow}
use Rattle.vg_meta.proofs.RowLaws.{row_of-put_other, row_of-with_row_other}
use Rattle.vg_volumes.specs.Sites.{Site, size_of, volume_of}
use Rattle.vg_volumes.specs.Stored.{IsChoiceOf, WorksOn, held_in, sectors_in, stored}
use Rattle.vg_volumes.specs.Volumes.{span, volume}
use Rattle.vg_volumes.specs.declared.stores.Store.{Ghosts}
use Rattle.vg_volumes.proofs.VolumeLaws.{IsSettled-volume, Keeps-volume, KeepsAt-keeps, KeepsAt-then}
use Rattle.vhd_map.specs.Slots.{top_of}
use Rattle.vhd_volumes.specs.Steps.{Does}
use Rattle.vhd_volumes.specs.Truth.{HasRoomFor}
use Rattle.vhd_volumes.specs.Writes.{KeepsBut}
use Rattle.vhd_volumes.proofs.SteadyLaws.{KeepsAt-longer}
use Rattle.vhd_image.specs.Bodies.{IfVhd, IfVhdDoes, ImageIsTrue, IsVhd, StandsIn, TrueIn, top_slot}
use Rattle.vhd_image.specs.Changes.{EndsAt, StaysTrueIn}
use Rattle.vhd_chain.specs.Trees.{row_name, tree_row}
use Rattle.vhd_chain.specs.declared.rows.TreeRow.{TreeRow}
use Rattle.sm_refs.specs.Attached.{Attached}
use Rattle.sm_machine.specs.Disks.{Disk}
use Rattle.sm_machine.specs.Shapes.{image_limit}
use Rattle.sm_machine.specs.WellFormed.{is_image_name}
use Rattle.sm_standing.specs.Standing.{disks}
use Rattle.sm_ready.specs.Does.{store_shape}
use Rattle.sm_ready.specs.Done.{HasDoneFrom, at_rest}
use Rattle.sm_ready.specs.Known.{Known, known, shape_in}
use Rattle.sm_ready.specs.Orderly.{IsOrderly}
use Rattle.sm_ready.specs.Ready.{IsTidy}
use Rattle.sm_ready.specs.Framing.{IsBetweenSteps}
use Rattle.sm_ready.specs.Sessions.{IsReadyStore}
use Rattle.sm_ready.specs.Stores.{MayShow, StoreLeaves, content_in, store_content}
use Rattle.sm_ready.specs.declared.memory.Memory.{Memory}
use Rattle.sm_ready.proofs.AfterLaws.{other_keeps}
use Rattle.sm_ready.proofs.ChainLaws.{might_show, tab}
use Rattle.sm_ready.proofs.CommitLaws.{IsSafe, law_settled, ready_safe, volume_rested}
use Rattle.sm_ready.proofs.FrameLaws.{KeepsVolume}
use Rattle.sm_ready.proofs.LeftLaws.{IsLeft, extent_some}
use Rattle.sm_ready.proofs.LogLaws.{HoldsLogs, holds_commit, holds_keeps, holds_ready, logged_left}
use Rattle.sm_ready.proofs.LogRows.{entry_apart, image_apart}
use Rattle.sm_ready.proofs.Orders.{In-tree_row, geometry_of, named_row, vhd_row}
use Rattle.sm_ready.proofs.RestLaws.{keeps_rest}
use Rattle.sm_journal.specs.Entries.{putting}
use Rattle.sm_calls.specs.Calls.{Call, CanRun, Commit, DoesRun, GoesWell, IsReadyWith, ShowsBetween}
use Rattle.sm_calls.proofs.CallLaws.{law_among}
use Rattle.sm_calls.proofs.StoreLaws.{law_run, ready_fine, run_then, safe_fine}
use Rattle.sm_space.specs.Inflating.{CanEnd, CanEndIn, EndsIn, IfRow, IsEnlarged, WritesEnd, footer_call, growth_calls, inflated, with_extents}
use Rattle.sm_space.proofs.EndLaws.{disks_ended, ready_ended}
use Rattle.sm_space.proofs.InflatingLaws.{GrowsIn, own_name, tree_room_sized}
use Rattle.sm_space.proofs.MomentLaws.{front_larger, front_noted, front_written, larger_other, moment_larger, moment_noted, moment_safe, moment_shows, noted_other}
use Rattle.sm_space.proofs.OrderlyLaws.{after, ended, ended_other, ended_own, ended_shape, ended_volumes, fits_ended, fits_larger, fits_noted, larger, larger_own, larger_size, larger_table, may_drop, may_grow, may_note, noted, noted_table, only, orderly_ended, own, tidy_ended}
use Rattle.sm_space.proofs.SizedLaws.{sized, turned_same}
use Rattle.sm_space.proofs.TrueLaws.{body_ended, true_sized, volume_ended}
use Rattle.sm_space.proofs.WritingLaws.{writes_footer}

-- ---- the first three calls

module _ {S : Type 0} {g : Ghosts S} {a d : S} {rs : List TreeRow} {n entry : Name} {growth : Change} {to : ℕ} {came : Type 0} (fine : came) (run : DoesRun g (Commit (putting entry) ∷ Commit growth ∷ []) a d came)
    (can : CanEndIn (g.site a) (applied (applied (tab g a) (putting entry)) growth) rs n to) where
  pub end_there : CanEnd g d rs n to
  end_there = subst₂ (λ x y. CanEndIn x y rs n to) (sym run.site) (sym (run.table fine)) can

  pub footer_run : {f : S} {ok : Type 0} → WorksOn g n d f → Does g n (KeepsBut (λ p. p ≡ to * (g.site d).geometry.extent - 1)) d f → IfRow (tree_row rs n) (λ r. IfVhdDoes g r.image (StaysTrueIn (g.site d).geometry) d f)
      → (ok → IfRow (tree_row rs n) (λ r. IfVhdDoes g r.image (EndsAt (g.site d).geometry (to * (g.site d).geometry.extent)) d f))
      → (g.told → g.failed f ≡ false → (v : VolumeTable) (image : ℕ → List ℕ) → g.leaves f v image → IsChoiceOf (stored g f) v image)
      → DoesRun g (Commit (putting entry) ∷ Commit growth ∷ footer_call (g.site a) (applied (applied (tab g a) (putting entry)) growth) n (tree_row rs n) to ∷ []) a f ok
  footer_run {f} {ok} works others true_still ends now =
      run_then (Commit (putting entry) ∷ Commit growth ∷ []) (footer_call (g.site a) (applied (applied (tab g a) (putting entry)) growth) n (tree_row rs n) to ∷ []) fine run
      (subst₂ (λ x y. DoesRun g (footer_call x y n (tree_row rs n) to ∷ []) d f ok) run.site (run.table fine) (writes_footer end_there (run.usable fine) works others true_still ends now))

module _ {S : Type 0} {g : Ghosts S} {a : S} {m : Memory} {u es : List ℕ} {row : TreeRow} (h : GrowsIn g a m u es row) (to : ℕ) (sum : row.extents + length es ≡ to) where
  abbrev s : Site
  s = g.site a

  abbrev t : VolumeTable
  t = tab g a

  abbrev pub calls : List Call
  calls = growth_calls s t (Inflate u row.extents) (Grow (Vhd u) es) (Vhd u) (tree_row m.tree.rows (Vhd u)) to

  abbrev rest : Held
  rest = at_rest (reads (g.area a))

  abbrev t2 : VolumeTable
  t2 = larger s t (known m) u es row h.grows

  abbrev t3 : VolumeTable
  t3 = ended s t (known m) u es row h.grows

  abbrev pub then : Known
  then = after s t (known m) u es row h.grows

  -- ---- what it asks

  pub can_calls : 0 < (g.table a).spare → length es ≤ places (g.table a) (Vhd u) → CanRun g calls a
  unfolding name_eq
  can_calls spare room = record {
    usable = h.usable;
    allowed = (
      may_note s t (known m) u es row h.grows,
      fits_noted s t (known m) u es row h.grows,
      (may_grow s t (known m) u es row h.grows, fits_larger s t (known m) u es row h.grows, (may_drop s t (known m) u es row h.grows, fits_ended s t (known m) u es row h.grows, tt)),
    );
    room = (spare, (room, (tt, tt)));
  }

  pub image_there : CanEndIn s t2 m.tree.rows (Vhd u) to
  image_there =
      let i = In-tree_row m.tree.rows (Vhd u) row h.grows.found in
      let head = vhd_row s t (known m) row u h.grows.orderly i.0 i.1 in
      let j = In-tree_row then.rows (Vhd u) (sized (row.extents + length es) row) (turned_same (Vhd u) (row.extents + length es) m.tree.rows row h.grows.found) in
      let stands = subst (λ b. StandsIn s.geometry ((row.extents + length es) * s.geometry.extent) b) head.is ((orderly_ended s t (known m) u es row h.grows).stands (sized (row.extents + length es) row) j.0) in
      record {
        row = row;
        there = h.grows.found;
        named = i.1;
        vhd = subst IsVhd (sym head.is) tt;
        within = let long = larger_size s t (known m) u es row h.grows in omega (arith, long, ap (λ n. n * s.geometry.extent) sum);
        room = subst (λ b. HasRoomFor s.geometry (top_slot b) (to * s.geometry.extent)) (sym head.is) (subst (λ n. HasRoomFor s.geometry (top_of head.slots) (n * s.geometry.extent)) sum stands.room);
      }

  -- ---- what is known at its end

  module _ {z : S} {ok : Type 0} (run : DoesRun g calls a z ok) (fine : ok) (n : Memory) where
    pub shape_end : known n ≡ then → store_shape g z n ≡ inflated u to (store_shape g a m)
    shape_end is =
        ap₂ (λ (x : Site) (y : VolumeTable). shape_in x y (known n)) run.site (run.table fine) ∙ ap (shape_in s t3) is ∙ ended_shape s t (known m) u es row h.grows ∙ ap (λ k. inflated u k (shape_in s t (known m))) sum

    pub enlarged_end : AreLeastFree s.count (to - row.extents) t es → IsEnlarged s.count t u to (tab g z)
    enlarged_end least =
        let own_row = own s t (known m) u es row h.grows in
        record {
          row = own_row.volume;
          there = own_row.there;
          more = es;
          least = subst (λ k. AreLeastFree s.count (to - k) t es) own_row.long least;
          volumes = ap (λ (x : VolumeTable). x.volumes) (run.table fine) ∙ ended_volumes s t (known m) u es row h.grows;
        }

    abbrev had : List ℕ
    had = (own s t (known m) u es row h.grows).volume.extents

    abbrev extent : ℕ
    extent = s.geometry.extent

    extents_then : extents_of (rows t2 (Vhd u)) ≡ had ++ es
    extents_then = ap extents_of (larger_own s t (known m) u es row h.grows)

    size_now : to * extent ≡ span extent (had ++ es)
    size_now = ap (λ j. j * extent) (sym sum) ∙ sym (larger_size s t (known m) u es row h.grows) ∙ ap (λ fs. span extent fs) extents_then

    -- the volume of another image is kept
    other : g.told → (r : TreeRow) → In r m.tree.rows → row_name r ≢ Vhd u → KeepsVolume g a z r
    unfolding is_image_name
    other told r i away =
        let ran = run.ran fine told in
        let x = row_name r in
        let no_entry : x ≢ Inflate u row.extents = λ is. true≢false (sym (named_row s t (known m) r h.grows.orderly i) ∙ ap is_image_name is) in
        let same : rows t2 x ≡ rows t x = row_of-with_row_other (noted s t (known m) u es row h.grows).volumes (Vhd u) x (grown es) (λ k. refl) (λ is. away (sym is))
        ∙ row_of-put_other t.volumes (made (Inflate u row.extents) false []) x (λ is. no_entry (sym is)) in
        let beside = other_keeps s t2 rest ran.0 (Vhd u) x (larger_table s t (known m) u es row h.grows) (extent_some s t (known m) h.grows.orderly) ran.1.beside away in
        volume_ended ran.0 r ran.3 (ended_other s t (known m) u es row h.grows x away) (Keeps-then (Keeps-volume extent (extents_of (rows t x)) (keeps_rest (g.area a)))
        (subst (λ o. Keeps (volume extent (extents_of o) rest) (volume extent (extents_of o) ran.0)) same beside))

    -- its own ends where its volume ends
    own_true : g.told → ImageIsTrue (stored g a) row.image → ImageIsTrue (stored g z) row.image
    own_true told was =
        let ran = run.ran fine told in
        let done = subst (λ o. IfRow o (λ r. IfVhd r.image (λ head slots. EndsAt s.geometry (to * extent) head slots (volume_of s t2 (at_rest (reads (g.area a))) (Vhd u)) (volume_of s t2 ran.0 (Vhd u))))) h.grows.found ran.2 in
        let there = subst (λ fs. IfVhd row.image (λ head slots. EndsAt s.geometry (to * extent) head slots (volume extent fs (at_rest (reads (g.area a)))) (volume extent fs ran.0))) extents_then done in
        subst (λ x. ImageIsTrue x row.image) (sym ran.3)
        (subst (λ k. TrueIn s.geometry (size_of s t3 k) (volume_of s t3 (at_rest (reads ran.0)) k) row.image) (sym (own_name h))
        (subst (λ o. TrueIn s.geometry (span extent (extents_of o)) (volume extent (extents_of o) (at_rest (reads ran.0))) row.image) (sym (ended_own s t (known m) u es row h.grows))
        (subst (λ j. TrueIn s.geometry j (volume extent (had ++ es) (at_rest (reads ran.0))) row.image) size_now
        (body_ended s.geometry (span extent had) (to * extent) row.image (geometry_of s t (known m) h.grows.orderly)
        (KeepsAt-then (KeepsAt-keeps _ (Keeps-volume extent had (keeps_rest (g.area a)))) (KeepsAt-longer extent had es (at_rest (reads (g.area a)))))
        there (Keeps-volume extent (had ++ es) (keeps_rest ran.0)) (IsSettled-volume extent (had ++ es) (at_rest (reads ran.0)) (λ p. refl))
        (subst (λ o. TrueIn s.geometry (span extent (extents_of o)) (volume extent (extents_of o) (g.area a)) row.image) (own s t (known m) u es row h.grows).there
        (subst (λ k. TrueIn s.geometry (sectors_in (stored g a) k) (held_in (stored g a) k) row.image) (own_name h) was))))))

    pub session_end : IsBetweenSteps g a m → n.tree.rows ≡ with_extents (Vhd u) to m.tree.rows → n.tree.spare ≡ m.tree.spare → n.attached ≡ m.attached → known n ≡ then → IsBetweenSteps g z n
    session_end session rows_are spare attached is = record {
      usable = run.usable fine;
      orderly = subst₂ (λ x y. IsOrderly x y (known n)) (sym run.site) (sym (run.table fine)) (subst (IsOrderly s t3) (sym is) (orderly_ended s t (known m) u es row h.grows));
      tidy = subst₂ IsTidy (sym (run.table fine)) (sym is) (tidy_ended s t (known m) u es row h.grows);
      true_images = true_sized (Vhd u) to m n row run.site rows_are (only s t (known m) u es row h.grows) other own_true session.true_images;
      rows = run.rows fine session.rows;
      tree_room = tree_room_sized m n (Vhd u) to rows_are spare session.tree_room;
      attachment_room = subst (λ (x : Attached). image_limit ≤ x.room) (sym attached) session.attachment_room;
    }

  -- ---- each moment is fine

  module _ (told : g.told) (ready : IsReadyStore g a m) where
    abbrev was : List Disk
    was = disks (store_content g a)

    abbrev o : Option TreeRow
    o = tree_row m.tree.rows (Vhd u)

    safe : IsSafe s t (g.area a) (StoreLeaves g a) was
    safe = ready_safe s t (g.area a) (known m) (StoreLeaves g a) h.grows.orderly ready (λ image is. inr (told, h.usable, is))

    safe_noted : IsSafe s (noted s t (known m) u es row h.grows) rest (StoreLeaves g a) was
    safe_noted = moment_safe s t (known m) u es row h.grows (g.area a) ready (noted s t (known m) u es row h.grows) rest (StoreLeaves g a) (moment_noted s t (known m) u es row h.grows (g.area a) ready)
        (front_noted s t (known m) u es row h.grows (g.area a) ready) (might_show g h.usable told)

    but : (area : Held) → WritesEnd s t2 (Vhd u) o to rest area → KeepsBut (λ p. p ≡ (row.extents + length es) * s.geometry.extent - 1) (volume_of s t2 rest (Vhd u)) (volume_of s t2 area (Vhd u))
    but area did = subst (λ k. KeepsBut (λ p. p ≡ k * s.geometry.extent - 1) (volume_of s t2 rest (Vhd u)) (volume_of s t2 area (Vhd u))) (sym sum) did.others

    safe_at : (area : Held) → WritesEnd s t2 (Vhd u) o to rest area → IsSafe s t2 area (StoreLeaves g a) was
    safe_at area did = moment_safe s t (known m) u es row h.grows (g.area a) ready t2 area (StoreLeaves g a) (moment_larger s t (known m) u es row h.grows (g.area a) ready)
        (front_written s t (known m) u es row h.grows (g.area a) ready area did.beside (but area did)) (might_show g h.usable told)

    safe_larger : IsSafe s t2 rest (StoreLeaves g a) was
    safe_larger = moment_safe s t (known m) u es row h.grows (g.area a) ready t2 rest (StoreLeaves g a) (moment_larger s t (known m) u es row h.grows (g.area a) ready)
        (front_larger s t (known m) u es row h.grows (g.area a) ready) (might_show g h.usable told)

    module _ (area : Held) (did : WritesEnd s t2 (Vhd u) o to rest area) (done : EndsIn s t2 (Vhd u) o to rest area) where
      stays : IfVhd row.image (λ head slots. StaysTrueIn s.geometry head slots (volume_of s t2 rest (Vhd u)) (volume_of s t2 area (Vhd u)))
      stays = subst (λ x. IfRow x (λ r. IfVhd r.image (λ head slots. StaysTrueIn s.geometry head slots (volume_of s t2 rest (Vhd u)) (volume_of s t2 area (Vhd u))))) h.grows.found did.stays

      ends : IfVhd row.image (λ head slots. EndsAt s.geometry ((row.extents + length es) * s.geometry.extent) head slots (volume_of s t2 rest (Vhd u)) (volume_of s t2 area (Vhd u)))
      ends = subst (λ k. IfVhd row.image (λ head slots. EndsAt s.geometry (k * s.geometry.extent) head slots (volume_of s t2 rest (Vhd u)) (volume_of s t2 area (Vhd u)))) (sym sum)
          (subst (λ x. IfRow x (λ r. IfVhd r.image (λ head slots. EndsAt s.geometry (to * s.geometry.extent) head slots (volume_of s t2 rest (Vhd u)) (volume_of s t2 area (Vhd u))))) h.grows.found done)

      last_ready : IsReadyWith then was (record { site = s; table = t3; area = at_rest (reads area) })
      last_ready = record {
        ready = ready_ended s t (known m) u es row h.grows (g.area a) ready area did.beside (but area did) stays ends;
        settled = λ p. refl;
        shown = disks_ended s t (known m) u es row h.grows (g.area a) ready area did.beside (but area did) stays ends;
      }

    -- the logs stay
    holds : HoldsLogs s t (g.area a) (known m).logs
    holds = holds_ready s t (g.area a) (known m) h.grows.orderly ready

    holds_noted : HoldsLogs s (noted s t (known m) u es row h.grows) rest (known m).logs
    holds_noted = holds_commit holds (noted s t (known m) u es row h.grows) (noted_table s t (known m) u es row h.grows) (λ v. noted_other s t (known m) u es row h.grows (g.area a) ready (Cbt v) (entry_apart (Inflate u row.extents) refl v))
        (λ v. volume_rested s (noted s t (known m) u es row h.grows) (reads (g.area a)) (Cbt v))

    holds_larger : HoldsLogs s t2 rest (known m).logs
    holds_larger = holds_commit holds t2 (larger_table s t (known m) u es row h.grows) (λ v. larger_other s t (known m) u es row h.grows (g.area a) ready (Cbt v) (entry_apart (Inflate u row.extents) refl v) (image_apart (Vhd u) refl v))
        (λ v. volume_rested s t2 (reads (g.area a)) (Cbt v))

    holds_written : (area : Held) → WritesEnd s t2 (Vhd u) o to rest area → HoldsLogs s t2 area (known m).logs
    holds_written area did = holds_keeps holds_larger area
        (λ v. other_keeps s t2 rest area (Vhd u) (Cbt v) (larger_table s t (known m) u es row h.grows) (extent_some s t (known m) h.grows.orderly) did.beside (image_apart (Vhd u) refl v))

    well : GoesWell (ShowsBetween s (StoreLeaves g a) was was (known m).logs) (IsReadyWith then was) (stored g a) calls
    well = record {
      first = safe_fine (known m).logs was safe (logged_left holds h.grows.orderly.table);
      next = (
        safe_fine (known m).logs was safe_noted (logged_left holds_noted (noted_table s t (known m) u es row h.grows)),
        (
          safe_fine (known m).logs was safe_larger (logged_left holds_larger (larger_table s t (known m) u es row h.grows)),
          (
            λ area did. safe_fine (known m).logs was (safe_at area did) (logged_left (holds_written area did) (larger_table s t (known m) u es row h.grows)),
            λ area did done. let last = last_ready area did done in (ready_fine s t3 then (reads area) (StoreLeaves g a) was was (orderly_ended s t (known m) u es row h.grows) last.ready last.shown, last),
          ),
        ),
      );
    }

    pub done : {z : S} {came ok : Type 0} (n : Known) → n.logs ≡ (known m).logs → DoesRun g calls a z came → (ok → came × (n ≡ then)) → HasDoneFrom s (tab g z) (g.area z) n (StoreLeaves g a) (StoreLeaves g z) ok was was
    done n same run by = law_run n told run well same by

    -- whatever a stop leaves among them shows the disks of an image that might be left before
    shows : GoesWell (λ v image. MayShow s (StoreLeaves g a) (disks (content_in s v image))) (λ x. Unit {0}) (stored g a) calls
    shows = record {
      first = λ image allowed. record { table = t; image = image; left = inr (told, h.usable, record { table_is = refl; sectors = allowed }); shown = refl };
      next = (
        moment_shows s t (known m) u es row h.grows (g.area a) ready (noted s t (known m) u es row h.grows) rest (StoreLeaves g a) (moment_noted s t (known m) u es row h.grows (g.area a) ready)
            (front_noted s t (known m) u es row h.grows (g.area a) ready) (might_show g h.usable told),
        (
          moment_shows s t (known m) u es row h.grows (g.area a) ready t2 rest (StoreLeaves g a) (moment_larger s t (known m) u es row h.grows (g.area a) ready)
              (front_larger s t (known m) u es row h.grows (g.area a) ready) (might_show g h.usable told),
          (
            λ area did. moment_shows s t (known m) u es row h.grows (g.area a) ready t2 area (StoreLeaves g a) (moment_larger s t (known m) u es row h.grows (g.area a) ready)
                (front_written s t (known m) u es row h.grows (g.area a) ready area did.beside (but area did)) (might_show g h.usable told),
            λ area did done. (last_shows area did done, tt),
          ),
        ),
      );
    }
      where
        last_shows : (area : Held) → WritesEnd s t2 (Vhd u) o to rest area → EndsIn s t2 (Vhd u) o to rest area → (image : ℕ → List ℕ) → IsLeft s (at_rest (reads area)) image → MayShow s (StoreLeaves g a) (disks (content_in s t3 image))
        last_shows area did done image left =
            let last = last_ready area did done in
            subst (λ (ds : List Disk). MayShow s (StoreLeaves g a) ds)
            (sym (law_settled s t3 (at_rest (reads area)) then image (orderly_ended s t (known m) u es row h.grows) last.ready (volume_rested s t3 (reads area)) left ∙ last.shown)) (might_show g h.usable told)

    pub still : {z : S} {came : Type 0} → DoesRun g calls a z came → (v : VolumeTable) (image : ℕ → List ℕ) → g.leaves z v image → MayShow s (StoreLeaves g a) (disks (content_in s v image))
    still run v image l = law_among (λ v image. MayShow s (StoreLeaves g a) (disks (content_in s v image))) (λ x. Unit {0}) (stored g a) calls shows v image (run.left told v image (inl l))
