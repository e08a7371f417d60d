-- A disk gets larger, as a session tells it: what a store and memory are behind the footers and the sync.
use Rattle.std.proofs.Common.{Fits, w64, ◌/◌, Result, Ok, Err, ◌≡◌, ◌≢◌, inl, inr, ⊎_elim, ℕ, ◌*◌, false, List, Some, refl, sym, ap, ◌∙◌, subst, subst₂, arith}
use Rattle.std.proofs.Math.Path.{fun_ext}
use Rattle.std.specs.Result.{IsErr, IsOk}
use Rattle.std.proofs.lemmas.Nat.{mul-le}
use Rattle.sm_base.specs.Numbers.{IsGeometry}
use Rattle.sm_base.specs.declared.sizes.Geometry.{Geometry}
use Rattle.vhd_image.specs.Made.{IsDiskSize}
use Rattle.std.proofs.lemmas.Option.{same_Some}
use Rattle.sm_base.specs.declared.names.Name.{Name}
use Rattle.sm_base.specs.declared.names.Name.TheVariants.{Vhd}
use Rattle.sm_disk.specs.Held.{Allows, IsSettled, Keeps, reads}
use Rattle.sm_disk.proofs.HeldLaws.{Keeps-then}
use Rattle.vg_meta.specs.Roomy.{table_alone}
use Rattle.vg_meta.specs.Tables.{VolumeTable, extents_of, rows}
use Rattle.vg_volumes.specs.Sites.{Site, area_size, volume_of}
use Rattle.vg_volumes.specs.Stored.{IsChoiceOf, WorksOn, sectors_in, stored}
use Rattle.vg_volumes.specs.declared.stores.Store.{Ghosts}
use Rattle.vg_volumes.proofs.VolumeLaws.{Keeps-volume}
use Rattle.vhd_volumes.specs.Steps.{Holds}
use Rattle.vhd_volumes.specs.Truth.{layout_now}
use Rattle.vhd_image.specs.Bodies.{IfVhdDoes, StandsIn, TrueIn, parent_name}
use Rattle.vhd_image.specs.Changes.{ChangesBy, IsResized, resized}
use Rattle.vhd_image.specs.declared.images.Body.{Body}
use Rattle.vhd_chain.specs.Trees.{row_name, tree_row, with_replaced}
use Rattle.vhd_chain.specs.declared.rows.TreeRow.{TreeRow}
use Rattle.sm_machine.specs.declared.commands.Command.TheVariants.{Resize}
use Rattle.sm_machine.specs.Disks.{Disk, on_disk}
use Rattle.sm_machine.specs.Refusals.{rounded}
use Rattle.sm_machine.specs.Steps.{disks_next as machine_disks, grown_disk}
use Rattle.sm_run.specs.Between.{IsBetween}
use Rattle.sm_standing.specs.Contents.{sectors_of}
use Rattle.sm_standing.specs.Images.{image_of}
use Rattle.sm_standing.specs.Keeping.{IsKept}
use Rattle.sm_standing.specs.Logs.{IsLogged}
use Rattle.sm_standing.specs.Outlines.{Link, link_of}
use Rattle.sm_standing.specs.Standing.{disks}
use Rattle.sm_ready.specs.Done.{HasDone}
use Rattle.sm_ready.specs.Known.{Known, known, shape_in}
use Rattle.sm_ready.specs.Outlined.{link_in}
use Rattle.sm_ready.specs.Ready.{IsReady}
use Rattle.sm_ready.specs.Stores.{MayShow, StoreLeaves, content_in, content_now, store_content}
use Rattle.sm_ready.specs.declared.memory.Memory.{Memory}
use Rattle.sm_ready.proofs.AfterLaws.{other_keeps}
use Rattle.sm_ready.proofs.ChainLaws.{only_crash, tab}
use Rattle.sm_ready.proofs.GrownLaws.{IsGrowing, grown_now, grown_stop, others_same}
use Rattle.sm_ready.proofs.GrownStores.{grows, ready_sized, steady_sized}
use Rattle.sm_ready.proofs.LeaveLaws.{left_choice}
use Rattle.sm_ready.proofs.LeftLaws.{IsLeft, extent_some, left_in, left_now, left_volume, links_left, now_sector}
use Rattle.sm_ready.proofs.LogRows.{image_apart}
use Rattle.sm_ready.proofs.OperationLaws.{below_alike}
use Rattle.sm_ready.proofs.RepairLaws.{all_quiet}
use Rattle.sm_ready.proofs.SizedRows.{link_sized, other_sized, sized, with_image}
use Rattle.sm_ready.proofs.StopLaws.{image_by_sectors, link_at, name_or_not}
use Rattle.sm_ready.proofs.SyncLaws.{IsSynced}
use Rattle.sm_ready.proofs.TakenLaws.{IsTold}
use Rattle.sm_space.proofs.ResizeLaws.{IsToResize, grown, named_vhd, no_less, orderly_grown, own_vhd, sectors, sound_sized, works_apart}
use Rattle.sm_space.proofs.SyncedLaws.{logged_work}

pub never_ok : {T E : Type 0} (result : Result T E) → IsErr result → IsOk result → ⊥
never_ok (Ok x) err ok = (let z = err in cc)
never_ok (Err x) err ok = (let z = ok in cc)

-- the disk of a store that gets a size
abbrev pub IsToResizeIn : {S : Type 0} → Ghosts S → S → Memory → List ℕ → ℕ → TreeRow → Type 0
IsToResizeIn g a m u bytes r = IsToResize (g.site a) (table_alone (g.table a)) (known m) u bytes r

-- what may have changed, by the machine's size
pub changes_as : {S : Type 0} (g : Ghosts S) (a b : S) (image : Body) {k size : ℕ} → k ≡ size → IfVhdDoes g image (λ head slots. ChangesBy (layout_now (stored g a) head) (IsResized (layout_now (stored g a) head) k)) a b
    → IfVhdDoes g image (λ head slots. ChangesBy (layout_now (stored g a) head) (IsResized (layout_now (stored g a) head) size)) a b
changes_as g a b image is = subst (λ k. IfVhdDoes g image (λ head slots. ChangesBy (layout_now (stored g a) head) (IsResized (layout_now (stored g a) head) k)) a b) is

-- memory has the machine's size
pub memory_resized : {S : Type 0} (g : Ghosts S) (a : S) (m : Memory) (u : List ℕ) (bytes : ℕ) (r : TreeRow) (new : Body) (h : IsToResizeIn g a m u bytes r) (rows : List TreeRow) → rows ≡ with_replaced (with_image new r) m.tree.rows
    → new ≡ resized (sectors h) r.image → record (known m) { rows = rows } ≡ grown h
memory_resized g a m u bytes r new h rows is same = ap (λ (rs : List TreeRow). let k : Known = record (known m) { rows = rs } in k) (is ∙ ap (λ x. with_replaced (with_image x r) m.tree.rows) same)

-- a size in bytes fits a machine word
pub bytes_fit : (g : Geometry) (sectors : ℕ) → IsGeometry g.extent g.block g.entries → IsDiskSize g sectors → Fits w64 (sectors * 512)
bytes_fit g sectors ok size =
    let many = mul-le (sectors / g.block) g.block 1044480 4096 (omega (arith, size.most, ok.entries_most)) ok.block_most in
    omega (arith, many, size.whole)

module _ {S : Type 0} (g : Ghosts S) (a b : S) (m : Memory) (u : List ℕ) (bytes : ℕ) (r : TreeRow) (h : IsToResize (g.site a) (tab g a) (known m) u bytes r) (works : WorksOn g (row_name r) a b) where
  abbrev s : Site
  s = g.site a

  abbrev t : VolumeTable
  t = tab g a

  abbrev size : ℕ
  size = rounded (shape_in (g.site a) (tab g a) (known m)) false bytes

  abbrev next : TreeRow
  next = sized size r

  others : g.told → (n : Name) → n ≢ row_name r → Keeps (volume_of s t (g.area a) n) (volume_of s t (g.area b) n)
  others told n other = other_keeps s t (g.area a) (g.area b) (row_name r) n h.orderly.table (extent_some s t (known m) h.orderly) (works.elsewhere told) other

  -- ---- what is told

  module _ (i : IsTold g a m) (changes : IfVhdDoes g r.image (λ head slots. ChangesBy (layout_now (stored g a) head) (IsResized (layout_now (stored g a) head) size)) a b)
      (later : (v : VolumeTable) (image : ℕ → List ℕ) → g.leaves b v image → IsChoiceOf (stored g b) v image) where
    left_grown : (image : ℕ → List ℕ) → IsLeft s (g.area b) image → IsGrowing s t (known m) (g.area a) u r size image
    left_grown image left = grows g a b m size r h.orderly h.there works u (named_vhd h) i changes image left

    -- the disks that the machine has then
    abbrev pub after : List Disk
    after = machine_disks (disks (store_content g a)) (shape_in (g.site a) (tab g a) (known m)) (Resize u bytes)

    after_is : on_disk u (grown_disk size) (disks (content_now s t (g.area a))) ≡ machine_disks (disks (store_content g a)) (shape_in (g.site a) (tab g a) (known m)) (Resize u bytes)
    unfolding machine_disks
    after_is = refl

    module _ (stands : StandsIn s.geometry (r.extents * s.geometry.extent) next.image) where
      link_own : link_in (tree_row (with_replaced next m.tree.rows) (Vhd u)) ≡ Some (link_at size (parent_name r.image))
      link_own = ap (λ n. link_in (tree_row (with_replaced next m.tree.rows) n)) (sym (named_vhd h)) ∙ link_sized s t (known m) h.orderly r h.there size (own_vhd h)

      stopped : (image : ℕ → List ℕ) → IsLeft s (g.area b) image
          → IsKept (content_in s t image) × IsBetween (MayShow s (StoreLeaves g a)) (disks (content_now s t (g.area a))) (on_disk u (grown_disk size) (disks (content_now s t (g.area a)))) (disks (content_in s t image))
      stopped image left =
          grown_stop s t (known m) (g.area a) u r size image h.orderly i.ready (left_grown image left) h.shown (no_less h) (with_replaced next m.tree.rows)
          (λ n other. other_sized s t (known m) h.orderly r h.there size n (λ same. other (same ∙ named_vhd h))) link_own
          (sound_sized h (g.area a) i.ready.firm (orderly_grown h stands)) (StoreLeaves g a)
          (λ other is. inr (i.told, i.usable, record { table_is = refl; sectors = is }))

      crash_at : (w : VolumeTable) (image : ℕ → List ℕ) → IsChoiceOf (stored g b) w image
          → IsKept (content_in s w image) × IsBetween (MayShow s (StoreLeaves g a)) (disks (store_content g a)) (machine_disks (disks (store_content g a)) (shape_in (g.site a) (tab g a) (known m)) (Resize u bytes)) (disks (content_in s w image))
      crash_at w image x =
          let is = stopped image (subst (λ (y : Site). Allows (area_size y) (g.area b) image) works.stays.site x.sectors) in
          subst (λ y. IsKept (content_in s y image) × IsBetween (MayShow s (StoreLeaves g a)) (disks (store_content g a)) (machine_disks (disks (store_content g a)) (shape_in (g.site a) (tab g a) (known m)) (Resize u bytes)) (disks (content_in s y image)))
          (sym (x.table_is ∙ works.stays.table))
          (is.0, subst (λ ds. IsBetween (MayShow s (StoreLeaves g a)) (disks (store_content g a)) ds (disks (content_in s t image))) after_is is.1)

      -- and it has the logs of memory
      logged_at : (n : Known) → n.logs ≡ (known m).logs → (w : VolumeTable) (image : ℕ → List ℕ) → IsChoiceOf (stored g b) w image → IsLogged (content_in s w image) n.logs
      logged_at = logged_work i works (λ v is. image_apart (Vhd u) refl v (is ∙ named_vhd h))

      left_written : (w : VolumeTable) (image : ℕ → List ℕ) → StoreLeaves g b w image → IsChoiceOf (stored g b) w image
      left_written w image l = left_choice g.told (g.site b) (tab g b) (g.area b) (g.leaves b) (g.failed b) later w image l

      -- a footer was not written
      pub resized_failed : (n : Known) (ok : Type 0) → (ok → ⊥) → n.logs ≡ (known m).logs → HasDone s t (tab g b) (g.area a) (g.area b) n (StoreLeaves g a) (StoreLeaves g b) ok (machine_disks (disks (store_content g a)) (shape_in (g.site a) (tab g a) (known m)) (Resize u bytes))
      resized_failed n ok never same_logs = only_crash never (λ w image l. crash_at w image (left_written w image l)) (λ w image l. logged_at n same_logs w image (left_written w image l))

      module _ (e : S) (y : IsSynced g b e) where
        left_end : (w : VolumeTable) (image : ℕ → List ℕ) → StoreLeaves g e w image → IsChoiceOf (stored g b) w image
        left_end w image l = ⊎_elim (λ k. left_written w image (inl (y.leaves w image k)))
            (λ z. let now = subst₂ (λ p q. IsChoiceOf (record { site = p; table = q; area = g.area e }) w image) y.site y.table z.2 in
            record { table_is = now.table_is; sectors = λ p below. y.keeps.may p (image p) (now.sectors p below) }) l

        end_crash : (w : VolumeTable) (image : ℕ → List ℕ) → StoreLeaves g e w image
            → IsKept (content_in s w image) × IsBetween (MayShow s (StoreLeaves g a)) (disks (store_content g a)) (machine_disks (disks (store_content g a)) (shape_in (g.site a) (tab g a) (known m)) (Resize u bytes)) (disks (content_in s w image))
        end_crash w image l = crash_at w image (left_end w image l)

        -- the sync failed
        pub resized_unsettled : (n : Known) (ok : Type 0) → (ok → ⊥) → n.logs ≡ (known m).logs → HasDone s t (tab g e) (g.area a) (g.area e) n (StoreLeaves g a) (StoreLeaves g e) ok (machine_disks (disks (store_content g a)) (shape_in (g.site a) (tab g a) (known m)) (Resize u bytes))
        resized_unsettled n ok never same_logs = only_crash never end_crash (λ w image l. logged_at n same_logs w image (left_end w image l))

        -- all lasts
        module _ (rested : IsSettled (g.area a)) (settled : IsSettled (g.area e)) (new : Body) (is : new ≡ resized size r.image) (truth : Holds g (row_name r) (λ x. TrueIn s.geometry (sectors_in (stored g a) (row_name r)) x new) b) where
          kept : (n : Name) → n ≢ row_name r → Keeps (volume_of s t (g.area a) n) (volume_of s t (g.area e) n)
          kept n other = Keeps-then (others i.told n other) (Keeps-volume s.geometry.extent (extents_of (rows t n)) y.keeps)

          image_other : (n : Name) → n ≢ row_name r → image_of (content_now s t (g.area e)) n ≡ image_of (content_now s t (g.area a)) n
          image_other n other = image_by_sectors s t (known m) (reads (g.area a)) (reads (g.area e)) n (rows t n) h.orderly refl
              (λ p below. now_sector s t (g.area e) n p below ∙ (kept n other).reads p ∙ sym (now_sector s t (g.area a) n p below))

          ready_end : IsReady s t (g.area e) (grown h)
          ready_end = ready_sized s t (known m) (g.area a) (g.area e) r size h.orderly h.there i.ready kept settled
              (steady_sized g a b m size r h.orderly h.there works u (named_vhd h) i changes (g.area e) y.keeps settled new is truth)
              (below_alike (content_now s t (g.area a)) (content_now s t (g.area e)) m.operation refl refl (λ n w. image_other n (works_apart h n w)) i.ready.firm.below)

          reads_end : reads (g.area e) ≡ reads (g.area b)
          reads_end = fun_ext y.keeps.reads

          at_end : IsLeft s (g.area b) (reads (g.area e))
          at_end = subst (IsLeft s (g.area b)) (sym reads_end) (left_now s (g.area b))

          end : IsGrowing s t (known m) (g.area a) u r size (reads (g.area e))
          end = left_grown (reads (g.area e)) at_end

          size_end : end.now.size ≡ size
          size_end = ap (λ (l : Link). l.size) (same_link (sym (ap link_of end.after)
              ∙ links_left s t (g.area e) (grown h) (reads (g.area e)) (Vhd u) (orderly_grown h stands) ready_end.firm (left_in s t (grown h) (g.area e) (reads (g.area e)) (orderly_grown h stands) (left_now s (g.area e)))
              ∙ link_own))
            where
              same_link : {x z : Link} → Some x ≡ Some z → x ≡ z
              same_link {x} {z} is = same_Some x z is

          earlier_same : (n : Name) → image_of (content_in s t end.earlier) n ≡ image_of (content_now s t (g.area a)) n
          earlier_same n = by_name n
              (λ same. ap (image_of (content_in s t end.earlier)) same
              ∙ image_by_sectors s t (known m) (reads (g.area a)) end.earlier (row_name r) (rows t (row_name r)) h.orderly refl
              (λ k below. all_quiet s t (g.area a) rested (row_name r) k (sectors_of (content_in s t end.earlier) (row_name r) k) (left_volume s t (known m) (g.area a) end.earlier (row_name r) h.orderly end.might k below) ∙ sym (now_sector s t (g.area a) (row_name r) k below))
              ∙ sym (ap (image_of (content_now s t (g.area a))) same))
              (λ other. sym (others_same s t (known m) (g.area a) u r size (reads (g.area e)) h.orderly i.ready end n (λ same. other (same ∙ sym (named_vhd h)))) ∙ image_other n other)
            where
              by_name : {P : Type 0} (n : Name) → (n ≡ row_name r → P) → (n ≢ row_name r → P) → P
              by_name n here away = ⊎_elim here away (name_or_not n (row_name r))

          pub resized_done : (n : Known) → n ≡ grown h → (ok : Type 0) → HasDone s t (tab g e) (g.area a) (g.area e) n (StoreLeaves g a) (StoreLeaves g e) ok (machine_disks (disks (store_content g a)) (shape_in (g.site a) (tab g a) (known m)) (Resize u bytes))
          resized_done n same ok = record {
            ready = λ _. subst₂ (λ z k. IsReady s z (g.area e) k) (sym (y.table ∙ works.stays.table)) (sym same) ready_end;
            settled = λ _. settled;
            shown = λ _. ap (λ z. disks (content_now s z (g.area e))) (y.table ∙ works.stays.table)
                ∙ grown_now s t (known m) (g.area a) u r size (reads (g.area e)) h.orderly i.ready end h.shown (no_less h) size_end earlier_same ∙ after_is;
            crash = end_crash;
            logged = λ w image l. logged_at n (ap (λ (k : Known). k.logs) same) w image (left_end w image l);
          }
