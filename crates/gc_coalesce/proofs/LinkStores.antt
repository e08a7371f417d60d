-- A child is linked past an image, over a store: what is so behind the link and the sync.
use Rattle.std.proofs.Common.{◌≡◌, ◌≢◌, inl, inr, ⊎_elim, ℕ, ◌*◌, List, Result, Ok, Err, length, Some, refl, sym, ap, ◌∙◌, subst, subst₂}
use Rattle.std.specs.Prelude.{OnErr, OnOk}
use Rattle.std.proofs.Math.Path.{fun_ext}
use Rattle.std.proofs.lemmas.List.{length-map}
use Rattle.std.proofs.lemmas.Option.{same_Some}
use Rattle.common_laws.specs.Lists.{In}
use Rattle.sm_base.specs.declared.names.Name.{Name}
use Rattle.sm_base.specs.declared.names.Name.TheVariants.{Mgt, Vhd, Cbt}
use Rattle.sm_disk.specs.Held.{Allows, IsSettled, Keeps, reads}
use Rattle.sm_disk.proofs.HeldLaws.{Keeps-then}
use Rattle.vg_meta.specs.Tables.{VolumeTable, extents_of, rows}
use Rattle.vg_volumes.specs.Sites.{Site, area_size, size_of, volume_of}
use Rattle.vg_volumes.specs.Stored.{IsChoiceOf, Stays, WorksOn, held_in, sectors_in, stored}
use Rattle.vg_volumes.specs.Volumes.{KeepsElsewhere}
use Rattle.vg_volumes.specs.declared.stores.Store.{Ghosts}
use Rattle.vg_volumes.proofs.StoredLaws.{held_stays, size_stays}
use Rattle.vg_volumes.proofs.VolumeLaws.{Keeps-volume}
use Rattle.vhd_volumes.specs.Steps.{Holds}
use Rattle.vhd_volumes.specs.Truth.{layout_in, layout_now}
use Rattle.vhd_image.specs.Bodies.{IfVhd, IfVhdDoes, ImageIsTrue, TrueIn, volume_name}
use Rattle.vhd_image.specs.Changes.{relinked}
use Rattle.vhd_image.specs.Steady.{IsSteady}
use Rattle.vhd_image.specs.declared.images.Body.{Body}
use Rattle.vhd_image.specs.declared.images.Body.TheVariants as body
use Rattle.vhd_image.proofs.SteadyStores.{steady_set_parent}
use Rattle.vhd_chain.specs.Trees.{row_name, tree_row, with_replaced, with_row, without}
use Rattle.vhd_chain.specs.declared.rows.TreeRow.{TreeRow}
use Rattle.vhd_chain.proofs.ByName.{tree_row-without_other}
use Rattle.sm_machine.specs.Disks.{Disk}
use Rattle.sm_machine.specs.Shapes.{image_uuid}
use Rattle.sm_mgt.specs.Places.{records_held}
use Rattle.sm_refs.specs.Attached.{Attached}
use Rattle.sm_run.specs.Between.{IsBetween}
use Rattle.sm_standing.specs.Images.{image_of}
use Rattle.sm_standing.specs.Keeping.{IsKept}
use Rattle.sm_standing.specs.Logs.{IsLogged}
use Rattle.sm_standing.specs.Standing.{disks}
use Rattle.sm_ready.specs.Done.{HasDone}
use Rattle.sm_ready.specs.Frames.{HasTrueImages}
use Rattle.sm_ready.specs.Known.{Known, known}
use Rattle.sm_ready.specs.Ready.{IsReady}
use Rattle.sm_ready.specs.Stores.{MayShow, StoreLeaves, content_in, content_now, store_content}
use Rattle.sm_ready.specs.declared.memory.Memory.{Memory}
use Rattle.sm_ready.proofs.AfterLaws.{other_keeps}
use Rattle.sm_ready.proofs.ChainLaws.{only_crash, tab}
use Rattle.sm_ready.proofs.CommitLaws.{already}
use Rattle.sm_ready.proofs.FrameLaws.{KeepsVolume, not_mgt, true_turned, volume_stays, volume_then, volume_works}
use Rattle.sm_ready.proofs.LeaveLaws.{left_choice}
use Rattle.sm_ready.proofs.LeftLaws.{IsLeft, IsVhdIn, extent_some, left_now, now_sector, size_there, vhd_in}
use Rattle.sm_ready.proofs.LogLaws.{holds_keeps}
use Rattle.sm_ready.proofs.LogRows.{image_apart}
use Rattle.sm_ready.proofs.LogStores.{logs_told}
use Rattle.sm_ready.proofs.OperationLaws.{WorksAt, below_alike}
use Rattle.sm_ready.proofs.Orders.{In-tree_row, named_row}
use Rattle.sm_ready.proofs.PutBackLaws.{put_back}
use Rattle.sm_ready.proofs.RepairLaws.{all_quiet}
use Rattle.sm_ready.proofs.RestLaws.{agrees_keeps, steady_keeps, true_keeps}
use Rattle.sm_ready.proofs.RowLaws.{HasVolume, image_named, volume_there}
use Rattle.sm_ready.proofs.StopLaws.{image_by_sectors}
use Rattle.sm_ready.proofs.SyncLaws.{IsSynced}
use Rattle.sm_ready.proofs.TakenLaws.{IsTold}
use Rattle.sm_ready.proofs.TruthLaws.{row_sectors}
use Rattle.sm_space.proofs.SyncedLaws.{logged_work}
use Rattle.gc_coalesce.proofs.LinkLaws.{IsToLink, child_named, found, linked_name, linked_row, not_out, not_parent, own_vhd, rows_linked}
use Rattle.gc_coalesce.proofs.LinkLeft.{Links, LinksIn, disks_left, kept_left}

-- ---- rows

-- the name stays, whether the call succeeded or failed
pub same_name : {T E : Type 0} (result : Result T E) (parent old new : Body) → OnOk result (new ≡ relinked parent old) → OnErr result (new ≡ old) → volume_name new ≡ volume_name old
same_name (Ok x) parent old new ok err = ap volume_name ok ∙ linked_name parent old
same_name (Err x) parent old new ok err = ap volume_name err

-- the row with this image
abbrev pub with_image : Body → TreeRow → TreeRow
with_image b r = record r { image = b }

-- the row of the parent, which was looked up while the child's was taken out
pub parent_row : (s : Site) (t : VolumeTable) (m : Known) (child v p : Name) (r q : TreeRow) {rest : List TreeRow} → IsToLink s t m child v p r → rest ≡ without child m.rows
    → tree_row rest p ≡ Some q → In q m.rows × (row_name q ≡ p)
parent_row s t m child v p r q h taken at = In-tree_row m.rows p q (sym (ap (λ rs. tree_row rs p) taken ∙ tree_row-without_other m.rows child p (not_parent h)) ∙ at)

-- the row is back in its place
pub rows_back : (s : Site) (t : VolumeTable) (m : Known) (child v p : Name) (r : TreeRow) (new : Body) {mid now : List TreeRow} → IsToLink s t m child v p r → volume_name new ≡ row_name r
    → mid ≡ without child m.rows → now ≡ with_row (with_image new r) mid → now ≡ with_replaced (with_image new r) m.rows
rows_back s t m child v p r new h same taken added =
    added ∙ ap (with_row (with_image new r)) (taken ∙ ap (λ n. without n m.rows) (sym h.named)) ∙ put_back s t m h.orderly r (with_image new r) h.there same

pub rows_length : (q : TreeRow) (rs : List TreeRow) {now : List TreeRow} → now ≡ with_replaced q rs → length now ≡ length rs
rows_length q rs is = ap (λ (xs : List TreeRow). length xs) is ∙ length-map rs _

-- ---- the store

module _ {S : Type 0} (g : Ghosts S) (b d : S) (m : Memory) (child v p : Name) (r q : TreeRow) (h : IsToLink (g.site b) (tab g b) (known m) child v p r) (higher : In q m.tree.rows)
    (q_named : row_name q ≡ p) (works : WorksOn g (row_name r) b d) where
  abbrev s : Site
  s = g.site b

  abbrev t : VolumeTable
  t = tab g b

  abbrev next : TreeRow
  next = linked_row q r

  next_named : row_name next ≡ row_name r
  next_named = linked_name q.image r.image

  others : g.told → (n : Name) → n ≢ row_name r → Keeps (volume_of s t (g.area b) n) (volume_of s t (g.area d) n)
  others told n other = other_keeps s t (g.area b) (g.area d) (row_name r) n h.orderly.table (extent_some s t (known m) h.orderly) (works.elsewhere told) other

  -- ---- images are true behind it

  module _ (e : S) (site : g.site e ≡ g.site d) (table : tab g e ≡ tab g d) (keeps : g.told → Keeps (g.area d) (g.area e)) where
    true_own : (new : Body) → new ≡ relinked q.image r.image → Holds g (row_name r) (λ x. TrueIn s.geometry (sectors_in (stored g b) (row_name r)) x new) d → g.told
        → ImageIsTrue (stored g e) next.image
    true_own new is truth told =
        let now = subst (TrueIn s.geometry (sectors_in (stored g b) (row_name r)) (held_in (stored g d) (row_name r))) is (truth told) in
        let kept : KeepsVolume g d e r = volume_stays r site table (keeps told) in
        subst (λ n. TrueIn (g.site e).geometry (sectors_in (stored g e) n) (held_in (stored g e) n) next.image) (sym next_named)
        (subst₂ (λ (x : Site) k. TrueIn x.geometry k (held_in (stored g e) (row_name r)) next.image) (sym (site ∙ works.stays.site)) (sym (kept.size ∙ size_stays {g = g} (row_name r) works.stays))
        (true_keeps s.geometry (sectors_in (stored g b) (row_name r)) (held_in (stored g d) (row_name r)) (held_in (stored g e) (row_name r)) next.image kept.keeps now))

    pub true_linked : (n : Memory) (new : Body) → n.tree.rows ≡ with_replaced next m.tree.rows → new ≡ relinked q.image r.image
        → Holds g (row_name r) (λ x. TrueIn s.geometry (sectors_in (stored g b) (row_name r)) x new) d
        → HasTrueImages g b m → HasTrueImages g e n
    true_linked n new rows is truth = true_turned g m n (site ∙ works.stays.site) (λ told each x i. ⊎_elim
        (λ was. inl (was.0, volume_then x (volume_works x h.orderly.table was.1 works told) (volume_stays x site table (keeps told))))
        (λ own. inr (subst (λ (z : TreeRow). ImageIsTrue (stored g e) z.image) (sym own) (true_own new is truth told)))
        (rows_linked h q higher q_named m.attached refl x (subst (In x) rows i)))

    -- and steady, once all lasts
    pub steady_linked : g.told → Stays g d e → IsSettled (g.area e) → (new : Body) → new ≡ relinked q.image r.image
        → Holds g (row_name r) (λ x. TrueIn s.geometry (sectors_in (stored g b) (row_name r)) x new) d
        → IfVhdDoes g r.image (λ head slots. LinksIn (layout_now (stored g b) head) (volume_name q.image)) b d → IsReady s t (g.area b) (known m)
        → IsSteady s.geometry (r.extents * s.geometry.extent) (volume_of s t (g.area e) (row_name r)) next.image
    steady_linked told stays settled new is truth changes ready =
        let long = row_sectors s t (known m) h.orderly r h.there in
        let was = subst (λ k. IsSteady s.geometry k (volume_of s t (g.area b) (row_name r)) r.image) (sym long) (ready.firm.images r h.there) in
        let now = steady_set_parent g told {a = b} {b = d} {c = e} stays (keeps told) settled q.image r.image new (own_vhd h) works changes is truth was in
        subst (λ k. IsSteady s.geometry k (volume_of s t (g.area e) (row_name r)) next.image) long
        (subst (λ x. IsSteady s.geometry (size_of s t x) (volume_of s t (g.area e) x) next.image) next_named
        (subst₂ (λ (x : Site) (y : VolumeTable). IsSteady x.geometry (size_of x y (volume_name next.image)) (volume_of x y (g.area e) (volume_name next.image)) next.image) (site ∙ works.stays.site)
        (table ∙ works.stays.table)
        (subst (λ x. IsSteady (g.site e).geometry (size_of (g.site e) (tab g e) (volume_name x)) (volume_of (g.site e) (tab g e) (g.area e) (volume_name x)) x) is now)))

  -- ---- what is told

  module _ (i : IsTold g b m) (resting : IsSettled (g.area b))
      (changes : IfVhdDoes g r.image (λ head slots. LinksIn (layout_now (stored g b) head) (volume_name q.image)) b d)
      (later : (x : VolumeTable) (image : ℕ → List ℕ) → g.leaves d x image → IsChoiceOf (stored g d) x image) where
    abbrev u : List ℕ
    u = image_uuid child

    named : row_name r ≡ Vhd (image_uuid child)
    named = h.named ∙ child_named h

    y : HasVolume t (row_name r)
    y = volume_there s t (known m) r h.orderly (image_named (row_name r) (named_row s t (known m) r h.orderly h.there)) (found h)

    there : rows t (Vhd (image_uuid child)) ≡ Some y.row
    there = ap (rows t) (sym named) ∙ y.there

    at : IsVhdIn s t (g.area b) (known m) (image_uuid child) y.row
    at = vhd_in s t (g.area b) (known m) u y.row h.orderly i.ready.firm there y.filled

    same_row : at.at.row ≡ r
    same_row = same_Some at.at.row r (sym at.at.found ∙ ap (tree_row m.tree.rows) (sym named) ∙ found h)

    image_is : r.image ≡ body.Vhd at.head at.slots
    image_is = ap (λ (z : TreeRow). z.image) (sym same_row) ∙ at.is

    volume_is : at.head.volume ≡ Vhd (image_uuid child)
    volume_is = sym (ap volume_name image_is) ∙ named

    changed : LinksIn (layout_in s.geometry at.head.footer (length y.row.extents * s.geometry.extent)) p (volume_of s t (g.area b) (Vhd u)) (volume_of s t (g.area d) (Vhd u))
    changed =
        subst (λ n. LinksIn (layout_in s.geometry at.head.footer (length y.row.extents * s.geometry.extent)) n (volume_of s t (g.area b) (Vhd u)) (volume_of s t (g.area d) (Vhd u))) q_named
        (subst (λ x. LinksIn (layout_in s.geometry at.head.footer (length y.row.extents * s.geometry.extent)) (volume_name q.image) (volume_of s t (g.area b) (Vhd u)) x)
        (held_stays {g = g} (Vhd u) works.stays)
        (subst (λ k. LinksIn (layout_in s.geometry at.head.footer k) (volume_name q.image) (held_in (stored g b) (Vhd u)) (held_in (stored g d) (Vhd u))) (size_there s t (Vhd u) y.row there)
        (subst (λ n. LinksIn (layout_in s.geometry at.head.footer (sectors_in (stored g b) n)) (volume_name q.image) (held_in (stored g b) n) (held_in (stored g d) n)) volume_is
        (subst (λ x. IfVhd x (λ head slots. LinksIn (layout_now (stored g b) head) (volume_name q.image) (held_in (stored g b) head.volume) (held_in (stored g d) head.volume))) image_is
        (changes i.told)))))

    linking : Links s t (known m) (g.area b) (g.area d) child v p r q (image_uuid child) y.row
    linking = record {
      links = h;
      higher = higher;
      q_named = q_named;
      ready = i.ready;
      rests = all_quiet s t (g.area b) resting;
      named = child_named h;
      there = there;
      at = at;
      keeps = subst (λ n. KeepsElsewhere s.geometry.extent (extents_of (rows t n)) (g.area b) (g.area d)) named (works.elsewhere i.told);
      changes = changed;
    }

    crash_at : (ds : List Disk) → ds ≡ disks (store_content g b) → (w : VolumeTable) (image : ℕ → List ℕ) → IsChoiceOf (stored g d) w image
        → IsKept (content_in s w image) × IsBetween (MayShow s (StoreLeaves g b)) (disks (store_content g b)) ds (disks (content_in s w image))
    crash_at ds same w image x =
        let left : IsLeft s (g.area d) image = subst (λ (z : Site). Allows (area_size z) (g.area d) image) works.stays.site x.sectors in
        subst (λ z. IsKept (content_in s z image) × IsBetween (MayShow s (StoreLeaves g b)) (disks (store_content g b)) ds (disks (content_in s z image))) (sym (x.table_is ∙ works.stays.table)) (
          kept_left s t (known m) (g.area b) (g.area d) child v p r q u y.row linking image left,
          inr (already (MayShow s (StoreLeaves g b)) ds (disks (content_in s t image)) (disks_left s t (known m) (g.area b) (g.area d) child v p r q u y.row linking image left ∙ sym same)),
        )

    log_apart : (x : List ℕ) → Cbt x ≢ row_name r
    log_apart x is = image_apart (Vhd u) refl x (is ∙ named)

    logged_at : (n : Known) → n.logs ≡ (known m).logs → (w : VolumeTable) (image : ℕ → List ℕ) → IsChoiceOf (stored g d) w image → IsLogged (content_in (g.site b) w image) n.logs
    logged_at = logged_work i works log_apart

    left_written : (w : VolumeTable) (image : ℕ → List ℕ) → StoreLeaves g d w image → IsChoiceOf (stored g d) w image
    left_written w image l = left_choice g.told (g.site d) (tab g d) (g.area d) (g.leaves d) (g.failed d) later w image l

    -- the sector was not written
    pub linked_failed : (n : Known) → n.logs ≡ (known m).logs → (ok : Type 0) (ds : List Disk) → ds ≡ disks (store_content g b) → (ok → ⊥) → HasDone s t (tab g d) (g.area b) (g.area d) n (StoreLeaves g b) (StoreLeaves g d) ok ds
    linked_failed n same_logs ok ds same never = only_crash never (λ w image l. crash_at ds same w image (left_written w image l)) (λ w image l. logged_at n same_logs w image (left_written w image l))

    module _ (e : S) (z : IsSynced g d e) where
      left_end : (w : VolumeTable) (image : ℕ → List ℕ) → StoreLeaves g e w image → IsChoiceOf (stored g d) w image
      left_end w image l = ⊎_elim (λ k. left_written w image (inl (z.leaves w image k)))
          (λ y. let now = subst₂ (λ x j. IsChoiceOf (record { site = x; table = j; area = g.area e }) w image) z.site z.table y.2 in
          record { table_is = now.table_is; sectors = λ j below. z.keeps.may j (image j) (now.sectors j below) }) l

      end_crash : (ds : List Disk) → ds ≡ disks (store_content g b) → (w : VolumeTable) (image : ℕ → List ℕ) → StoreLeaves g e w image
          → IsKept (content_in s w image) × IsBetween (MayShow s (StoreLeaves g b)) (disks (store_content g b)) ds (disks (content_in s w image))
      end_crash ds same w image l = crash_at ds same w image (left_end w image l)

      -- the sync failed
      pub linked_unsettled : (n : Known) → n.logs ≡ (known m).logs → (ok : Type 0) (ds : List Disk) → ds ≡ disks (store_content g b) → (ok → ⊥)
          → HasDone s t (tab g e) (g.area b) (g.area e) n (StoreLeaves g b) (StoreLeaves g e) ok ds
      linked_unsettled n same_logs ok ds same never = only_crash never (end_crash ds same) (λ w image l. logged_at n same_logs w image (left_end w image l))

      -- all lasts
      module _ (settled : IsSettled (g.area e)) (steady : IsSteady s.geometry (r.extents * s.geometry.extent) (volume_of s t (g.area e) (row_name r)) next.image) where
        kept : (n : Name) → n ≢ row_name r → Keeps (volume_of s t (g.area b) n) (volume_of s t (g.area e) n)
        kept n other = Keeps-then (others i.told n other) (Keeps-volume s.geometry.extent (extents_of (rows t n)) z.keeps)

        image_there : (n : Name) → n ≢ row_name r → image_of (content_now s t (g.area e)) n ≡ image_of (content_now s t (g.area b)) n
        image_there n other = image_by_sectors s t (known m) (reads (g.area b)) (reads (g.area e)) n (rows t n) h.orderly refl
            (λ j below. now_sector s t (g.area e) n j below ∙ (kept n other).reads j ∙ sym (now_sector s t (g.area b) n j below))

        works_apart : (n : Name) → WorksAt m.operation n → n ≢ row_name r
        works_apart n at same = ⊎_elim (λ is. not_out h (sym h.named ∙ sym same ∙ is)) (λ is. not_parent h (sym h.named ∙ sym same ∙ is)) (subst (λ o. WorksAt o n) h.is at)

        ready_end : (a : Attached) → IsReady s t (g.area e) (record (known m) { rows = with_replaced (linked_row q r) m.tree.rows; attached = a })
        ready_end a = record {
          firm = record {
            images = λ x j. ⊎_elim
                (λ was. steady_keeps s.geometry (x.extents * s.geometry.extent) (volume_of s t (g.area b) (row_name x)) (volume_of s t (g.area e) (row_name x)) x.image (kept (row_name x) was.1)
                (i.ready.firm.images x was.0))
                (λ is. subst (λ (k : TreeRow). IsSteady s.geometry (k.extents * s.geometry.extent) (volume_of s t (g.area e) (row_name k)) k.image) (sym is)
                (subst (λ n. IsSteady s.geometry (r.extents * s.geometry.extent) (volume_of s t (g.area e) n) next.image) (sym next_named) steady)) (rows_linked h q higher q_named m.attached refl x j);
            quiet = λ x j _. all_quiet s t (g.area e) settled (row_name x);
            below = below_alike (content_now s t (g.area b)) (content_now s t (g.area e)) m.operation refl refl (λ n w. image_there n (works_apart n w)) i.ready.firm.below;
          };
          records = agrees_keeps (records_held s t (g.area b)) (records_held s t (g.area e)) m.records (kept Mgt record_apart) i.ready.records;
          recorded = all_quiet s t (g.area e) settled Mgt;
          logs = (holds_keeps (logs_told i) (g.area e) (λ x. kept (Cbt x) (log_apart x))).logs;
          logged = λ x. all_quiet s t (g.area e) settled (Cbt x);
        }
          where
            record_apart : Mgt ≢ row_name r
            record_apart same = not_mgt s t (known m) h.orderly r h.there (sym same)

        at_end : IsLeft s (g.area d) (reads (g.area e))
        at_end = subst (IsLeft s (g.area d)) (sym (fun_ext z.keeps.reads)) (left_now s (g.area d))

        pub linked_done : (n : Known) (a : Attached) → n ≡ record (known m) { rows = with_replaced (linked_row q r) m.tree.rows; attached = a } → (ok : Type 0) (ds : List Disk)
            → ds ≡ disks (store_content g b)
            → HasDone s t (tab g e) (g.area b) (g.area e) n (StoreLeaves g b) (StoreLeaves g e) ok ds
        linked_done n a is ok ds same = record {
          ready = λ _. subst₂ (λ x k. IsReady s x (g.area e) k) (sym (z.table ∙ works.stays.table)) (sym is) (ready_end a);
          settled = λ _. settled;
          shown = λ _. ap (λ x. disks (content_now s x (g.area e))) (z.table ∙ works.stays.table)
              ∙ disks_left s t (known m) (g.area b) (g.area d) child v p r q u y.row linking (reads (g.area e)) at_end ∙ sym same;
          crash = end_crash ds same;
          logged = λ w image l. logged_at n (ap (λ (k : Known). k.logs) is) w image (left_end w image l);
        }
