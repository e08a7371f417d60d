-- A guest's write as a session tells it: what a store and memory are behind it.
use Rattle.std.proofs.Common.{◌≡◌, ◌⊎◌, inr, ⊎_elim, ℕ, ◌+◌, ◌*◌, ◌/◌, ◌%◌, ◌^◌, ◌==◌, ◌<◌, ◌≤◌, not, ◌&&◌, Bool, true, false, List, length, Option, Some, None, Ok, Err, refl, sym, ap, ap₂, ◌∙◌, subst, subst₂, arith, eqb-true}
use Rattle.std.proofs.Math.Logic.{∥∥₁_elim, ∥∥₁_map}
use Rattle.std.proofs.Props.{props}
use Rattle.std.proofs.lemmas.Bool.{true≢false}
use Rattle.std.proofs.lemmas.Nat.{div-add-mod'}
use Rattle.std.specs.Option.{option_map}
use Rattle.std.specs.Prelude.{Result, OnOk}
use Rattle.common_laws.specs.Lists.{In}
use Rattle.common_laws.proofs.Lists.{In-map_at}
use Rattle.sm_base.specs.declared.faults.Failed.{Failed}
use Rattle.sm_base.specs.declared.names.Name.{Name}
use Rattle.sm_disk.specs.Held.{Held, Allows, IsWhole, reads}
use Rattle.vg_meta.specs.Roomy.{table_alone}
use Rattle.vg_meta.specs.Tables.{VolumeTable}
use Rattle.vg_volumes.specs.Sites.{Site, area_size, size_of, volume_of}
use Rattle.vg_volumes.specs.Stored.{stored, sectors_in, held_in, IsChoiceOf, WorksOn}
use Rattle.vg_volumes.specs.declared.stores.Store.{Ghosts}
use Rattle.vhd_volumes.specs.Steps.{Does, Holds}
use Rattle.vhd_volumes.specs.Writes.{KeepsHeads}
use Rattle.vhd_chain.specs.Reading.{AllAreTrue}
use Rattle.vhd_image.specs.Bodies.{ImageIsTrue, StandsIn, TrueIn, IfVhdDoes, own_of, sector_count, volume_name}
use Rattle.vhd_image.specs.Steady.{IsSteady}
use Rattle.vhd_image.specs.Written.{HasRoomToWrite, IsWriting, IsBodyWritten, MayHaveGrown, written}
use Rattle.vhd_image.specs.declared.images.Body.{Body}
use Rattle.vhd_image.proofs.SteadyStores.{steady_write}
use Rattle.vhd_chain.specs.Trees.{row_name, tree_row, with_replaced}
use Rattle.vhd_chain.specs.declared.rows.TreeRow.{TreeRow}
use Rattle.sm_machine.specs.Commits.{commits, own_commits, is_given_up, gives_up}
use Rattle.sm_machine.specs.Disks.{Disk, on_disk}
use Rattle.sm_machine.specs.Refusals.{refusal, named, is_not_attached, is_read_only, is_out_of_range, is_outside}
use Rattle.sm_machine.specs.Runs.{is_settling}
use Rattle.sm_machine.specs.Shapes.{Shape, ImageRow, attached_as, find_image, image_uuid, is_image, is_rw, same_image}
use Rattle.sm_machine.specs.Steps.{State, Outcome, accepted, disks_next as machine_disks, reply_to, shape_after, shape_next, step, write_shape, written_image}
use Rattle.sm_machine.specs.WellFormed.{IsWellFormed}
use Rattle.sm_machine.specs.declared.commands.Command.TheVariants.{Write}
use Rattle.sm_machine.specs.declared.replies.Reply.TheVariants.{Done}
use Rattle.sm_machine.proofs.Chains.{find_image-in}
use Rattle.sm_machine.proofs.Changes.{find-map}
use Rattle.sm_machine.proofs.Guests.{on_write, written_key}
use Rattle.sm_machine.proofs.Passed.{passed}
use Rattle.sm_run.specs.Between.{IsBetween}
use Rattle.sm_standing.specs.Keeping.{IsKept}
use Rattle.sm_standing.specs.Standing.{disks}
use Rattle.sm_ready.specs.Known.{Known, known, machine_row, shape_in}
use Rattle.sm_ready.specs.Orderly.{IsOrderly}
use Rattle.sm_ready.specs.Ready.{HasNoStray, IsFirm, IsReady, is_written_as, is_written_in}
use Rattle.sm_ready.specs.Sessions.{IsOrderlyStore, IsTidyStore, IsReadyStore, state_in, store_state}
use Rattle.sm_ready.specs.Stores.{MayShow, StoreLeaves, content_in, content_now}
use Rattle.sm_ready.specs.declared.memory.Memory.{Memory}
use Rattle.sm_ready.specs.Does.{ShapesAs}
use Rattle.sm_ready.specs.Frames.{HasTrueImages, IsBesideTree}
use Rattle.sm_ready.specs.Framing.{IsBetweenSteps}
use Rattle.sm_ready.proofs.RoomLaws.{rows_stays}
use Rattle.sm_ready.specs.Refusing.{IsAllowed}
use Rattle.sm_ready.specs.Taken.{StoreTakes}
use Rattle.sm_ready.proofs.LeftLaws.{IsLeft, extent_some}
use Rattle.sm_ready.proofs.Orders.{geometry_of, named_row}
use Rattle.sm_ready.proofs.RestLaws.{true_keeps}
use Rattle.sm_ready.proofs.AfterLaws.{other_keeps}
use Rattle.sm_ready.proofs.LogLaws.{holds_keeps, holds_ready, logged_left}
use Rattle.sm_ready.proofs.LogRows.{name_apart}
use Rattle.sm_standing.specs.Logs.{IsLogged}
use Rattle.sm_base.specs.declared.names.Name.TheVariants.{Cbt}
use Rattle.sm_ready.proofs.TakenLaws.{step_accepted}
use Rattle.cmd_guest.specs.Taken.{answered}
use Rattle.sm_ready.proofs.PutBackLaws.{of_rows}
use Rattle.sm_ready.proofs.TruthLaws.{row_sectors}
use Rattle.cmd_guest.proofs.AskLaws.{room_own, whole_bytes, within_own}
use Rattle.cmd_guest.proofs.OwnLaws.{IsOwn, own_row}
use Rattle.cmd_guest.specs.Writing.{own_name}
use Rattle.cmd_guest.proofs.ReadLaws.{or_none}
use Rattle.cmd_guest.proofs.ReplacedLaws.{IsLike, behind_write, orderly_replaced, others, ready_replaced, shape_replaced, stray_replaced, there_replaced}
use Rattle.cmd_guest.proofs.TakenLaws.{few_numbers, shape_unnumbered}
use Rattle.cmd_guest.proofs.DiskLaws.{over}
use Rattle.cmd_guest.proofs.WriteLaws.{bytes_next, disks_next, like_grown, own_outside, row_written, with_image, written_stop}

-- the shape behind a write, which makes no commit and gives nothing up
pub write_next : (σ : Shape) (u : List ℕ) (at : ℕ) (bytes : List ℕ) → σ.sequence < 2 ^ 48 → shape_next σ (Write u at bytes) ≡ write_shape σ u at (length bytes / 512)
unfolding shape_next shape_after commits own_commits is_given_up gives_up
write_next σ u at bytes few = ap (λ (k : ℕ). let x : Shape = record (write_shape σ u at (length bytes / 512)) { sequence = k } in x) (omega (arith, few))

-- what a write that is not refused asks of its sectors
pub write_range : (s : Shape) (u : List ℕ) (at : ℕ) (bytes : List ℕ) → refusal s (Write u at bytes) ≡ None → (is_outside s u at (length bytes / 512) ≡ false) × (length bytes % 512 ≡ 0)
unfolding is_out_of_range
write_range s u at bytes allowed =
    let h = or_none (is_outside s u at (length bytes / 512)) (not (length bytes % 512 == 0)) (passed s (Write u at bytes) allowed).out_of_range in
    (h.0, eqb-true (length bytes % 512) 0 (not_false (length bytes % 512 == 0) h.1))
  where
    not_false : (b : Bool) → not b ≡ false → b ≡ true
    not_false true e = refl
    not_false false e = absurd (true≢false e)

-- the row of the disk
pub own_write : (s : Site) (t : VolumeTable) (m : Known) (u : List ℕ) (at : ℕ) (bytes : List ℕ) (o : IsOrderly s t m) (r : TreeRow) → refusal (shape_in s t m) (Write u at bytes) ≡ None → tree_row m.rows (own_name m.rows u) ≡ Some r → IsOwn s t m u r
unfolding named is_not_attached is_read_only
own_write s t m u at bytes o r allowed found = let p = passed (shape_in s t m) (Write u at bytes) allowed in own_row s t m u o (Write u at bytes) r refl allowed p.not_attached p.read_only found

-- as it was taken out of the tree
pub row_taken : (rs : List TreeRow) (u : List ℕ) (name : Name) (x : Option TreeRow) (r : TreeRow) → name ≡ own_name rs u → x ≡ tree_row rs name → x ≡ Some r → tree_row rs (own_name rs u) ≡ Some r
row_taken rs u name x r its taken is = ap (tree_row rs) (sym its) ∙ sym taken ∙ is

module _ (s : Site) (t : VolumeTable) (m : Known) (u : List ℕ) (r : TreeRow) (o : IsOrderly s t m) (h : IsOwn s t m u r) (at : ℕ) (bytes : List ℕ) (allowed : refusal (shape_in s t m) (Write u at bytes) ≡ None) where
  pub some_fits : (0 < length bytes / 512) × (at + length bytes / 512 ≤ sector_count r.image)
  some_fits = within_own s t m u r o h.there h.shown h.uuid at (length bytes / 512) (write_range (shape_in s t m) u at bytes allowed).0

  pub write_whole : IsWhole at (length bytes) (sector_count r.image)
  write_whole = let f = some_fits in whole_bytes at (length bytes) (sector_count r.image) (write_range (shape_in s t m) u at bytes allowed).1 f.0 f.1

  pub write_room : HasRoomToWrite s.geometry (size_of s t (row_name r)) at (length bytes) r.image
  write_room = let f = some_fits in room_own s t m u r o h at (length bytes) f.0 f.1

  pub even : length bytes ≡ 512 * (length bytes / 512)
  even = let e = div-add-mod' (length bytes) 512 in let z = (write_range (shape_in s t m) u at bytes allowed).1 in omega (arith, e, z)

  -- which images are written to is as it was
  written_same : (k : ℕ) (p : Name) → is_written_in (write_shape (shape_in s t m) u at k) p ≡ is_written_in (shape_in s t m) p
  unfolding is_written_in
  written_same k p = ∥∥₁_elim o.well_formed (hlevel props) (λ w.
      ap (is_written_as (write_shape (shape_in s t m) u at k) p)
      (find-map (is_image p) (on_write (shape_in s t m) w u at k) (λ y. ap (λ x. same_image x p) (written_key (shape_in s t m) w u at k (λ (z : ImageRow). z.name) (λ z xs. refl) y)) (shape_in s t m).images)
      ∙ by w (find_image p (shape_in s t m).images))
    where
      by : (w : IsWellFormed (shape_in s t m)) (x : Option ImageRow) → is_written_as (write_shape (shape_in s t m) u at k) p (option_map (on_write (shape_in s t m) w u at k) x) ≡ is_written_as (shape_in s t m) p x
      by w None = refl
      by w (Some i) = ap (λ b. not b && is_rw (attached_as (image_uuid p) (shape_in s t m))) (written_key (shape_in s t m) w u at k (λ (z : ImageRow). z.hidden) (λ z xs. refl) i)

  written_own : is_written_in (shape_in s t m) (row_name r) ≡ true
  unfolding is_written_in shape_in
  written_own = ∥∥₁_elim o.well_formed (hlevel props) (λ w.
      let i = In-map_at machine_row m.rows r h.there in
      ap (is_written_as (shape_in s t m) (row_name r)) (find_image-in (shape_in s t m).images (machine_row r) w.one_image i (w.images (machine_row r) i).named)
      ∙ ap₂ (λ (b : Bool) (v : List ℕ). not b && is_rw (attached_as v (shape_in s t m))) h.shown h.uuid ∙ h.attached)

-- ---- of a store

module _ {S : Type 0} (g : Ghosts S) (a b : S) (m n : Memory) (u : List ℕ) (at : ℕ) (bytes : List ℕ) (r : TreeRow) (new : Body) (orderly : IsOrderlyStore g a m) (allowed : IsAllowed g (Write u at bytes) a m)
    (found : tree_row m.tree.rows (own_name m.tree.rows u) ≡ Some r) (works : WorksOn g (row_name r) a b) (grown : MayHaveGrown r.image new)
    (memory : known n ≡ behind_write (g.site a) (table_alone (g.table a)) (known m) u at (length bytes / 512) (with_image new r)) where
  abbrev s : Site
  s = g.site a

  abbrev t : VolumeTable
  t = table_alone (g.table a)

  own : IsOwn s t (known m) u r
  own = own_write s t (known m) u at bytes orderly r allowed found

  like : IsLike r (with_image new r)
  like = like_grown r new grown

  -- the images are true behind it, where the written one is
  true_after : Holds g (row_name r) (λ x. TrueIn s.geometry (sectors_in (stored g a) (row_name r)) x new) b → HasTrueImages g a m → HasTrueImages g b n
  true_after truth was told = ∥∥₁_map (was told) (λ each. subst (AllAreTrue (stored g b)) (sym (ap (λ (k : Known). k.rows) memory)) (λ x i. ⊎_elim
      (λ old. subst₂ (λ y z. TrueIn y.geometry (size_of y z (row_name x)) (volume_of y z (g.area b) (row_name x)) x.image) (sym works.stays.site) (sym works.stays.table)
      (true_keeps s.geometry (size_of s t (row_name x)) (volume_of s t (g.area a) (row_name x)) (volume_of s t (g.area b) (row_name x)) x.image
      (others s t (known m) u r (with_image new r) orderly own like (g.area a) (g.area b) (works.elsewhere told) (row_name x) old.1) (each x old.0)))
      (λ is. subst (λ (y : TreeRow). ImageIsTrue (stored g b) y.image) (sym is)
      (subst (λ k. TrueIn (g.site b).geometry (sectors_in (stored g b) k) (held_in (stored g b) k) new) (sym like.name)
      (subst₂ (λ y z. TrueIn y.geometry (size_of y z (row_name r)) (held_in (stored g b) (row_name r)) new) (sym works.stays.site) (sym works.stays.table) (truth told))))
      (of_rows s t (known m) orderly r (with_image new r) own.there like.name x i)))

  module _ (is : new ≡ written s.geometry.block at (length bytes) r.image) where
    row : machine_row (with_image new r) ≡ written_image (shape_in s t (known m)) at (length bytes / 512) (machine_row r)
    row = row_written s t (known m) r new at (length bytes) orderly own.there (let e = (geometry_of s t (known m) orderly).block_least in omega (arith, e)) (some_fits s t (known m) u r orderly own at bytes allowed).0 is

    shaped : shape_in s t (behind_write s t (known m) u at (length bytes / 512) (with_image new r)) ≡ write_shape (shape_in s t (known m)) u at (length bytes / 512)
    shaped = shape_replaced s t (known m) u r (with_image new r) orderly own like at (length bytes / 512) row

    -- the shape of what is in memory is the machine's
    pub shape_now : ShapesAs g (Write u at bytes) a m b n
    unfolding shape_in
    shape_now = ap₂ (λ (x : Site) (y : VolumeTable). shape_in x y (known n)) works.stays.site works.stays.table ∙ ap (shape_in s t) memory ∙ shaped
        ∙ sym (write_next (shape_in s t (known m)) u at bytes (few_numbers s t (known m) orderly))

    orderly_after : StandsIn s.geometry (size_of s t (row_name r)) new → IsOrderlyStore g b n
    orderly_after stands =
        subst (λ (x : Site). IsOrderly x (table_alone (g.table b)) (known n)) (sym works.stays.site) (subst (λ (x : VolumeTable). IsOrderly s x (known n)) (sym works.stays.table)
        (subst (IsOrderly s t) (sym memory) (orderly_replaced s t (known m) u r (with_image new r) orderly own like at (length bytes / 512) row grown
        (subst (λ k. StandsIn s.geometry k new) (row_sectors s t (known m) orderly r own.there) stands))))

    tidy_after : IsTidyStore g a m → IsTidyStore g b n
    tidy_after tidy = record {
      none_new = λ x i. tidy.none_new x (subst (λ (y : VolumeTable). In x y.volumes) works.stays.table i);
      no_stray = subst HasNoStray (sym memory) (stray_replaced s t (known m) u r (with_image new r) orderly own like at (length bytes / 512) row tidy.no_stray);
    }

    -- the session is between two steps, as it was
    pub between_after : StandsIn s.geometry (size_of s t (row_name r)) new → Holds g (row_name r) (λ x. TrueIn s.geometry (sectors_in (stored g a) (row_name r)) x new) b
        → IsBesideTree (record m { operation = n.operation }) n → IsBetweenSteps g a m → IsBetweenSteps g b n
    between_after stands truth beside i = record {
      usable = works.stays.failed ∙ i.usable;
      orderly = orderly_after stands;
      tidy = tidy_after i.tidy;
      true_images = true_after truth i.true_images;
      rows = rows_stays works.stays i.rows;
      tree_room = omega (arith, beside.images, beside.spare, i.tree_room);
      attachment_room = omega (arith, ap (λ x. x.room) beside.attached, i.attachment_room);
    }

  -- ---- told

  module _ (usable : g.failed a ≡ false) (told : g.told) (ready : IsReadyStore g a m) (later : (v : VolumeTable) (image : ℕ → List ℕ) → g.leaves b v image → IsChoiceOf (stored g b) v image)
      (writing : Does g (row_name r) (IsWriting s.geometry (sectors_in (stored g a) (row_name r)) r.image at bytes) a b) where
    held : held_in (stored g b) (row_name r) ≡ volume_of s t (g.area b) (row_name r)
    held = ap₂ (λ (x : Site) (y : VolumeTable). volume_of x y (g.area b) (row_name r)) works.stays.site works.stays.table

    -- the machine's disks
    after : List Disk
    after = on_disk u (over at (length bytes / 512) bytes) (disks (content_now s t (g.area a)))

    machine_after : (step (store_state g a m) (Write u at bytes)).after.disks ≡ on_disk u (over at (length bytes / 512) bytes) (disks (content_now s t (g.area a)))
    unfolding accepted machine_disks
    machine_after = ap (λ (x : Outcome). x.after.disks) (step_accepted (store_state g a m) (Write u at bytes) allowed)

    left_now : (v : VolumeTable) (image : ℕ → List ℕ) → StoreLeaves g b v image → (v ≡ t) × IsLeft s (g.area b) image
    left_now v image l = ⊎_elim (λ x. at_choice (later v image x)) (λ x. at_choice x.2) l
      where
        at_choice : IsChoiceOf (stored g b) v image → (v ≡ t) × IsLeft s (g.area b) image
        at_choice x = (x.table_is ∙ works.stays.table, subst (λ (y : Site). Allows (area_size y) (g.area b) image) works.stays.site x.sectors)

    stopped : (image : ℕ → List ℕ) → IsLeft s (g.area b) image
        → IsKept (content_in s t image) × IsBetween (MayShow s (StoreLeaves g a)) (disks (content_now s t (g.area a))) (on_disk u (over at (length bytes / 512) bytes) (disks (content_now s t (g.area a)))) (disks (content_in s t image))
    unfolding named
    stopped image left = written_stop s t (known m) u r orderly own (g.area a) (g.area b) ready at bytes (works.elsewhere told)
        (subst (λ (x : Held). IsWriting s.geometry (size_of s t (row_name r)) r.image at bytes (volume_of s t (g.area a) (row_name r)) x) held (writing told))
        (on_disk u (over at (length bytes / 512) bytes) (disks (content_now s t (g.area a)))) (StoreLeaves g a)
        (bytes_next s t (known m) u r orderly own (g.area a) (g.area b) ready at bytes (even s t (known m) u r orderly own at bytes allowed) (some_fits s t (known m) u r orderly own at bytes allowed).1 (works.elsewhere told) (Write u at bytes) refl allowed)
        (λ other is. inr (told, usable, record { table_is = refl; sectors = is })) image left

    crash : (v : VolumeTable) (image : ℕ → List ℕ) → StoreLeaves g b v image
        → IsKept (content_in s v image) × IsBetween (MayShow s (StoreLeaves g a)) (disks (content_now s t (g.area a))) (step (store_state g a m) (Write u at bytes)).after.disks (disks (content_in s v image))
    crash v image l =
        let x = left_now v image l in
        subst (λ ds. IsKept (content_in s v image) × IsBetween (MayShow s (StoreLeaves g a)) (disks (content_now s t (g.area a))) ds (disks (content_in s v image))) (sym machine_after)
        (subst (λ y. IsKept (content_in s y image) × IsBetween (MayShow s (StoreLeaves g a)) (disks (content_now s t (g.area a))) (on_disk u (over at (length bytes / 512) bytes) (disks (content_now s t (g.area a)))) (disks (content_in s y image))) (sym x.0)
        (stopped image x.1))

    logged : (v : VolumeTable) (image : ℕ → List ℕ) → StoreLeaves g b v image → IsLogged (content_in s v image) (known n).logs
    logged v image l =
        let x = left_now v image l in
        subst₂ (λ y (k : Known). IsLogged (content_in s y image) k.logs) (sym x.0) (sym memory) (logged_left (holds_keeps (holds_ready s t (g.area a) (known m) orderly ready) (g.area b)
        (λ w. other_keeps s t (g.area a) (g.area b) (row_name r) (Cbt w) orderly.table (extent_some s t (known m) orderly) (works.elsewhere told) (name_apart (row_name r) (named_row s t (known m) r orderly own.there) w)))
        orderly.table image x.1)

    -- it failed
    pub write_stopped : (f : Failed) → StoreTakes g (Write u at bytes) a m b n (Err f)
    write_stopped f = record { reply = tt; ready = tt; settled = tt; crash = crash; logged = logged }

    -- and it did its work
    module _ (is : new ≡ written s.geometry.block at (length bytes) r.image) (stands : StandsIn s.geometry (size_of s t (row_name r)) new)
        (heads : IfVhdDoes g r.image (λ head slots. KeepsHeads (sectors_in (stored g a) head.volume)) a b)
        (truth : Holds g (row_name r) (λ x. TrueIn s.geometry (sectors_in (stored g a) (row_name r)) x new) b)
        (done : Does g (row_name r) (IsBodyWritten s.geometry (sectors_in (stored g a) (row_name r)) r.image at bytes) a b) where
      still : IsOrderly s t (behind_write s t (known m) u at (length bytes / 512) (with_image new r))
      still = orderly_replaced s t (known m) u r (with_image new r) orderly own like at (length bytes / 512) (row is) grown (subst (λ k. StandsIn s.geometry k new) (row_sectors s t (known m) orderly r own.there) stands)

      steady : IsSteady s.geometry (r.extents * s.geometry.extent) (volume_of s t (g.area b) (row_name r)) new
      steady =
          let was = subst (λ k. IsSteady s.geometry k (volume_of s t (g.area a) (row_name r)) r.image) (sym (row_sectors s t (known m) orderly r own.there)) (ready.firm.images r own.there) in
          let now = steady_write g told at bytes r.image new works writing heads grown truth was in
          subst (λ k. IsSteady s.geometry k (volume_of s t (g.area b) (row_name r)) new) (row_sectors s t (known m) orderly r own.there)
          (subst (λ x. IsSteady s.geometry (size_of s t x) (volume_of s t (g.area b) x) new) like.name
          (subst (λ (y : VolumeTable). IsSteady s.geometry (size_of s y (volume_name new)) (volume_of s y (g.area b) (volume_name new)) new) works.stays.table
          (subst (λ (x : Site). IsSteady x.geometry (size_of x (table_alone (g.table b)) (volume_name new)) (volume_of x (table_alone (g.table b)) (g.area b) (volume_name new)) new) works.stays.site now)))

      -- beside the sectors that were written the image holds what it held
      outside : (k : ℕ) → (k < at) ⊎ (at + length bytes / 512 ≤ k) → own_of s.geometry (size_of s t (row_name r)) new (reads (volume_of s t (g.area b) (row_name r))) k
          ≡ own_of s.geometry (size_of s t (row_name r)) r.image (reads (volume_of s t (g.area a) (row_name r))) k
      outside k away = ap (λ x. own_of s.geometry (size_of s t (row_name r)) x (reads (volume_of s t (g.area b) (row_name r))) k) is
          ∙ own_outside s.geometry (size_of s t (row_name r)) at bytes r.image (volume_of s t (g.area a) (row_name r)) (volume_of s t (g.area b) (row_name r))
          (subst (λ (x : Held). IsBodyWritten s.geometry (size_of s t (row_name r)) r.image at bytes (volume_of s t (g.area a) (row_name r)) x) held (done told)) k
          (λ here. let e = even s t (known m) u r orderly own at bytes allowed in ⊎_elim (λ low. omega (arith, low, here.0)) (λ high. omega (arith, high, here.1, e)) away)

      ready_now : IsReady s t (g.area b) (behind_write s t (known m) u at (length bytes / 512) (with_image new r))
      ready_now = ready_replaced s t (known m) u r (with_image new r) orderly own like (g.area a) (g.area b) (works.elsewhere told) at (length bytes / 512) (some_fits s t (known m) u r orderly own at bytes allowed).0 still ready steady outside
          (λ p. ap (λ (x : Shape). is_written_in x p) (shaped is) ∙ written_same s t (known m) u r orderly own at bytes allowed (length bytes / 512) p) (written_own s t (known m) u r orderly own at bytes allowed)

      shown : disks (content_now s t (g.area b)) ≡ on_disk u (over at (length bytes / 512) bytes) (disks (content_now s t (g.area a)))
      shown =
          let q = with_image (written s.geometry.block at (length bytes) r.image) r in
          let same : with_image new r ≡ q = ap (λ x. with_image x r) is in
          disks_next s t (known m) u r orderly own (g.area a) (g.area b) ready at bytes (even s t (known m) u r orderly own at bytes allowed) (some_fits s t (known m) u r orderly own at bytes allowed).1 (works.elsewhere told)
          (subst (λ (x : Held). IsBodyWritten s.geometry (size_of s t (row_name r)) r.image at bytes (volume_of s t (g.area a) (row_name r)) x) held (done told))
          (subst (IsLike r) same like) (subst (λ x. IsOrderly s t (behind_write s t (known m) u at (length bytes / 512) x)) same still) (subst (λ x. IsFirm s t (g.area b) (behind_write s t (known m) u at (length bytes / 512) x)) same ready_now.firm)
          (subst (λ x. In x (with_replaced x m.tree.rows)) same (there_replaced s t (known m) u r (with_image new r) orderly own like))

      machine_shape : (step (store_state g a m) (Write u at bytes)).after.shape ≡ write_shape (shape_in s t (known m)) u at (length bytes / 512)
      unfolding shape_after own_commits is_given_up gives_up shape_in
      machine_shape = shape_unnumbered (store_state g a m) (Write u at bytes) allowed (few_numbers s t (known m) orderly) refl refl

      pub write_done : StoreTakes g (Write u at bytes) a m b n (Ok Done)
      unfolding accepted reply_to is_settling
      write_done = record {
        reply = inr (
          sym (ap (λ (x : Outcome). x.reply) (step_accepted (store_state g a m) (Write u at bytes) allowed)),
          ap₂ (λ (y : VolumeTable) (k : Known). state_in s y (g.area b) k) works.stays.table memory
              ∙ ap₂ (λ (ds : List Disk) (x : Shape). let z : State = record { disks = ds; shape = x } in z) (shown ∙ sym machine_after) (shaped is ∙ sym machine_shape),
        );
        ready = subst (λ (y : VolumeTable). IsReady s y (g.area b) (known n)) (sym works.stays.table) (subst (IsReady s t (g.area b)) (sym memory) ready_now);
        settled = λ yes settles. absurd (true≢false (sym settles));
        crash = crash;
        logged = logged;
      }

    -- whichever
    pub write_taken : (result : Result (Unit {0}) Failed) → OnOk result (new ≡ written s.geometry.block at (length bytes) r.image) → OnOk result (StandsIn s.geometry (size_of s t (row_name r)) new)
        → IfVhdDoes g r.image (λ head slots. KeepsHeads (sectors_in (stored g a) head.volume)) a b
        → OnOk result (Holds g (row_name r) (λ x. TrueIn s.geometry (sectors_in (stored g a) (row_name r)) x new) b)
        → OnOk result (Does g (row_name r) (IsBodyWritten s.geometry (sectors_in (stored g a) (row_name r)) r.image at bytes) a b) → StoreTakes g (Write u at bytes) a m b n (answered Done result)
    write_taken (Ok x) is stands heads truth done = write_done is stands heads truth done
    write_taken (Err f) is stands heads truth done = write_stopped f

-- two facts of a call that succeeded
pub both_ok : {T E : Type 0} (P Q : Type 0) (result : Result T E) → OnOk result P → OnOk result Q → OnOk result (P × Q)
both_ok P Q (Ok x) p q = (p, q)
both_ok P Q (Err e) p q = tt
