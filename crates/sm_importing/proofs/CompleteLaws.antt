-- The end of an import over a store: its record is put and its mark goes, and what that leaves of a session and of the disks.
use Rattle.std.proofs.Common.{◌≡◌, ◌⊎◌, ⊎_elim, inl, inr, ℕ, zero, suc, ◌+◌, ◌*◌, ◌/◌, ◌^◌, ◌<◌, ◌≤◌, true, false, List, length, Some, refl, sym, ap, ◌∙◌, subst, subst₂, arith}
use Rattle.std.proofs.lemmas.Bool.{true≢false}
use Rattle.std.proofs.Math.Nat.{zero-mul}
use Rattle.sm_base.specs.declared.names.Name.{Name}
use Rattle.sm_base.specs.declared.names.Name.TheVariants.{Vhd}
use Rattle.sm_disk.specs.Held.{Held, Keeps, reads}
use Rattle.sm_disk.proofs.HeldLaws.{Keeps-then}
use Rattle.vg_meta.proofs.DecodeLaws.{used-le}
use Rattle.vg_meta.specs.Tables.{Row, VolumeTable, extents_of, rows}
use Rattle.vg_meta.specs.Changes.{Permits}
use Rattle.vg_meta.specs.declared.changes.Change.TheVariants.{Mark}
use Rattle.vg_meta.specs.declared.changes.Tag.TheVariants.{Fresh}
use Rattle.vg_volumes.specs.Sites.{Fits, Site, size_of, volume_of}
use Rattle.vg_volumes.specs.Stored.{CanCommit, Stored, held_in, sectors_in, stored}
use Rattle.vg_volumes.specs.Volumes.{volume}
use Rattle.vg_volumes.proofs.VolumeLaws.{Keeps-volume}
use Rattle.vg_volumes.specs.declared.stores.Store.{Ghosts}
use Rattle.common_laws.specs.Lists.{In}
use Rattle.common_laws.proofs.Lists.{In-insert}
use Rattle.sm_machine.specs.Disks.{Disk, with_disk}
use Rattle.sm_machine.specs.Shapes.{image_limit, image_uuid, is_vhd}
use Rattle.sm_machine.specs.WellFormed.{IsImageRow, is_image_name, table_length}
use Rattle.sm_mgt.specs.Places.{place_for}
use Rattle.sm_record.specs.Records.{IsRecord}
use Rattle.sm_record.specs.declared.records.Record.{Record}
use Rattle.sm_standing.specs.Standing.{disks}
use Rattle.sm_standing.specs.Logs.{IsLogged}
use Rattle.sm_log.specs.Logs.{Log}
use Rattle.vhd_chain.specs.declared.rows.TreeRow.{TreeRow}
use Rattle.vhd_chain.specs.Trees.{is_before, row_name, with_row}
use Rattle.vhd_chain.specs.Reading.{AllAreTrue}
use Rattle.vhd_image.specs.Bodies.{ImageIsTrue, IsVhd, StandsIn, TrueIn, volume_name}
use Rattle.vhd_image.specs.Steady.{IsSteady}
use Rattle.vhd_image.specs.declared.images.Body.{Body}
use Rattle.vhd_image.specs.declared.images.Body.TheVariants as body
use Rattle.sm_ready.specs.Done.{HasDoneFrom, at_rest}
use Rattle.sm_ready.specs.Frames.{HasTrueImages}
use Rattle.sm_ready.specs.Framing.{IsBetweenSteps}
use Rattle.sm_ready.specs.Known.{Known, known, machine_row, shape_in}
use Rattle.sm_ready.specs.Orderly.{IsOrderly}
use Rattle.sm_ready.specs.Ready.{IsReady, IsTidy}
use Rattle.sm_ready.specs.Sessions.{HasTreeRoom}
use Rattle.sm_ready.specs.Stores.{Leaving, MayShow, StoreLeaves, content_in, content_now, store_content}
use Rattle.sm_ready.specs.declared.memory.Memory.{Memory}
use Rattle.sm_ready.proofs.ChainLaws.{might_show, only_crash, still_before, tab}
use Rattle.sm_ready.proofs.FitLaws.{fits_orderly}
use Rattle.sm_ready.proofs.FrameLaws.{KeepsVolume, not_mgt, true_turned}
use Rattle.sm_ready.proofs.LastLaws.{after, made_memory, same_extents}
use Rattle.vhd_image.proofs.SteadyLaws.{body_true}
use Rattle.sm_ready.proofs.RestLaws.{keeps_rest}
use Rattle.sm_calls.specs.Calls.{DoesRun, GoesOn, IsReadyWith, IsSoFar, ShowsBetween}
use Rattle.sm_calls.proofs.StoreLaws.{so_far_cut, so_far_then}
use Rattle.sm_importing.specs.Endings.{IsDiskOf, IsImageIn, IsSteadyAtRest, end_calls, place_of, record_calls, row_of}
use Rattle.sm_importing.specs.Imports.{ImportsSince, IsImporting, extents_of_volume}
use Rattle.sm_importing.proofs.EndLaws.{IsEnding, used_without, last_steady, made_fine, made_is, made_orderly, made_rested, made_tidy, mark_allowed, put_fine, volume_same}
use Rattle.sm_importing.proofs.ImportLaws.{so_far_now, some_of, vhd_image}

-- a volume has few extents
pub volume_few : {s : Site} {t : VolumeTable} {m : Known} (n : Name) (row : Row) → IsOrderly s t m → rows t n ≡ Some row → extents_of_volume t n < 2 ^ 32
volume_few {s} {t} n row o there =
    omega (arith, ap (λ x. length (extents_of x)) there, used_without t.volumes n row there, used-le s.count t.volumes o.table.volumes, o.few_extents)

-- an image that stands is one of the machine's
good_row : (s : Site) (t : VolumeTable) (m : Known) (u : List ℕ) (extents : ℕ) (image : Body) → IsVhd image → volume_name image ≡ Vhd u → StandsIn s.geometry (extents * s.geometry.extent) image
    → IsImageRow (shape_in s t m) (machine_row (row_of image extents))
unfolding shape_in table_length is_vhd
good_row s t m u extents (body.Raw v z) vhd named stands = absurd vhd
good_row s t m u extents (body.Vhd head slots) vhd named stands = record {
  named = subst (λ n. is_image_name n ≡ true) (sym named) (vhd_image u);
  whole = (_, ap (λ c. c / 512) stands.size ∙ back _, stands.least, stands.most);
  volume = some extents _ stands.room;
  table = stands.entries ∙ sym (ap (λ n. table_length (shape_in s t m) n) named);
  raw = λ e. absurd (true≢false (sym (ap is_vhd named) ∙ e));
}
  where
    back : (k : ℕ) → 512 * k / 512 ≡ k
    back k = omega arith

    some : (n x : ℕ) → x + 1 ≤ n * s.geometry.extent → 0 < n
    some zero x h = absurd (omega (arith, zero-mul s.geometry.extent, h))
    some (suc n) x h = omega arith

module _ {S : Type 0} {g : Ghosts S} where
  -- what is between the disks from before and those is between them and others
  so_far_wider : {a b : S} {Now : Stored → Type 0} (ls : List Log) (before : Leaving) (was ds : List Disk) → MayShow (g.site a) before was → IsSoFar g (ShowsBetween (g.site a) before was was ls) Now a b
      → IsSoFar g (ShowsBetween (g.site a) before was ds ls) Now a b
  so_far_wider ls before was ds might so = record {
    site = so.site;
    faults = so.faults;
    usable = so.usable;
    beside = so.beside;
    left = λ told t image l. let w = so.left told t image l in (w.0, still_before ds _ might w.1, w.2);
    now = so.now;
  }

  module _ {b : S} {m : Memory} {r : Record} {image : Body} (h : IsImporting g b m r.uuid) (proper : IsRecord r) (writable : r.read_only ≡ false) (img : IsImageIn (g.site b) (tab g b) (Vhd r.uuid) image) where
    abbrev own : Name
    own = Vhd r.uuid

    abbrev added : TreeRow
    added = row_of image (extents_of_volume (tab g b) own)

    abbrev k : ℕ
    k = place_of m r

    abbrev pub last_known : Known
    last_known = made_memory added k r (known m)

    ending : IsEnding (g.site b) (tab g b) (known m) own added k r h.volume.row
    unfolding image_uuid
    ending = record {
      orderly = h.orderly;
      no_stray = h.no_stray;
      there = h.volume.there;
      fresh = h.volume.fresh;
      visible = h.volume.visible;
      only_new = h.only_new;
      image = vhd_image r.uuid;
      uuid = refl;
      not_base = h.may.not_base;
      absent = h.may.absent;
      few = h.may.few;
      placed = some_of (place_for m.records r.uuid) h.place;
      recorded = proper;
      writable = writable;
      named = img.named;
      shown = refl;
      long = ap (λ o. length (extents_of o)) h.volume.there;
      root = img.root;
      good = good_row (g.site b) (tab g b) (known m) r.uuid (extents_of_volume (tab g b) own) image img.vhd img.named img.stands;
      stands = img.stands;
    }

    last_orderly : IsOrderly (g.site b) (after (tab g b) own) last_known
    last_orderly = made_orderly (g.site b) (tab g b) (known m) own added k r h.volume.row ending

    pub can_mark : {d : S} → DoesRun g (record_calls (g.site b) (tab g b) k r) b d (Unit {0}) → CanCommit g (Mark own Fresh false) d
    can_mark run = record {
      usable = run.usable tt;
      allowed = subst₂ (λ (s : Site) t. Permits s.count t (Mark own Fresh false)) (sym run.site) (sym (run.table tt)) (mark_allowed (g.site b) (tab g b) (known m) own added k r h.volume.row ending);
      room = tt;
      fits = subst₂ (λ (s : Site) t. Fits s.count t (Mark own Fresh false)) (sym run.site) (sym (run.table tt)) (fits_orderly (g.site b) (after (tab g b) own) last_known last_orderly);
    }

    -- ---- the disks

    module _ {a : S} (since : ImportsSince g r.uuid m a b) (made : Disk) (told : g.told) (disk : IsDiskOf g b r made) (steady : IsSteadyAtRest g b own image) where
      abbrev was : List Disk
      was = disks (store_content g a)

      abbrev ds : List Disk
      ds = with_disk made was

      before_end : IsSoFar g (ShowsBetween (g.site a) (StoreLeaves g a) was ds (known m).logs) (λ y. y ≡ stored g b) a b
      before_end = so_far_wider (known m).logs (StoreLeaves g a) was ds (might_show g since.usable told) (so_far_now since.so_far)

      goes : g.told → (y : Stored) → y ≡ stored g b → GoesOn (ShowsBetween (g.site a) (StoreLeaves g a) was ds (known m).logs) (IsReadyWith last_known ds) y (end_calls (g.site b) (tab g b) k r)
      goes told y is =
          let s = g.site b in
          let f = since.so_far.now told in
          let might = subst (λ z. MayShow z (StoreLeaves g a) was) (sym since.so_far.site) (might_show g since.usable told) in
          subst (λ z. GoesOn (ShowsBetween (g.site a) (StoreLeaves g a) was ds (known m).logs) (IsReadyWith last_known ds) z (end_calls s (tab g b) k r)) (sym is)
          (subst (λ z. GoesOn (ShowsBetween z (StoreLeaves g a) was ds (known m).logs) (IsReadyWith last_known ds) (stored g b) (end_calls s (tab g b) k r)) since.so_far.site (
            λ new did. put_fine s (tab g b) (known m) own added k r h.volume.row ending (g.area b) new was f did.beside did.torn (StoreLeaves g a) ds might,
            λ new did put. (
              made_fine s (tab g b) (known m) own added k r h.volume.row ending (g.area b) new was f did.beside did.torn put (steady told) made (disk new did.beside) (StoreLeaves g a),
              made_rested s (tab g b) (known m) own added k r h.volume.row ending (g.area b) new was f did.beside did.torn put (steady told) made (disk new did.beside),
            ),
          ))

      pub completes_made : {e : S} (n : Memory) (ok : Type 0) → known n ≡ last_known → DoesRun g (end_calls (g.site b) (tab g b) k r) b e (Unit {0})
          → HasDoneFrom (g.site a) (tab g e) (g.area e) (known n) (StoreLeaves g a) (StoreLeaves g e) ok was ds
      completes_made {e} n ok is run =
          let so = so_far_then (ShowsBetween (g.site a) (StoreLeaves g a) was ds (known m).logs) (λ y. y ≡ stored g b) (IsReadyWith last_known ds) before_end (end_calls (g.site b) (tab g b) k r) tt run goes in
          let now = so.now told in
          record {
            ready = λ fine. subst₂ (λ s x. IsReady s (tab g e) (g.area e) x) so.site (sym is) now.ready;
            settled = λ fine. now.settled;
            shown = λ fine. subst (λ s. disks (content_now s (tab g e) (g.area e)) ≡ ds) so.site now.shown;
            crash = λ v image l. let w = so.left told v image l in (w.0, w.1);
            logged = λ v image l. subst (λ (x : Known). IsLogged (content_in (g.site a) v image) x.logs) (sym is) (let w = so.left told v image l in w.2);
          }

      pub completes_cut : {e : S} {came : Type 0} (n : Known) (ok : Type 0) → (ok → ⊥) → n.logs ≡ (known m).logs → DoesRun g (end_calls (g.site b) (tab g b) k r) b e came
          → HasDoneFrom (g.site a) (tab g e) (g.area e) n (StoreLeaves g a) (StoreLeaves g e) ok was ds
      completes_cut {e} n ok never same run =
          only_crash never (λ v image l. let w = cut v image l in (w.0, w.1)) (λ v image l. subst (IsLogged (content_in (g.site a) v image)) (sym same) (let w = cut v image l in w.2))
        where
          cut : (v : VolumeTable) (image : ℕ → List ℕ) → StoreLeaves g e v image → ShowsBetween (g.site a) (StoreLeaves g a) was ds (known m).logs v image
          cut = so_far_cut (ShowsBetween (g.site a) (StoreLeaves g a) was ds (known m).logs) (λ y. y ≡ stored g b) (IsReadyWith last_known ds) before_end (end_calls (g.site b) (tab g b) k r) run goes told

    -- ---- the session

    module _ {e : S} (n : Memory) (is : known n ≡ last_known) (run : DoesRun g (end_calls (g.site b) (tab g b) k r) b e (Unit {0})) (steady : IsSteadyAtRest g b own image) where
      last_true : HasTrueImages g e n
      last_true = true_turned g m n run.site from h.true_images
        where
          s : Site
          s = g.site b

          volume_last : (area : Held) (q : TreeRow) → In q m.tree.rows → Keeps (volume_of s (tab g b) (g.area b) (row_name q)) (volume_of s (tab g b) (at_rest (reads area)) (row_name q))
              → stored g e ≡ record { site = s; table = after (tab g b) own; area = at_rest (reads area) } → KeepsVolume g b e q
          volume_last area q i keeps at =
              let same = same_extents s (tab g b) (known m) own added k r h.volume.row (made_is s (tab g b) (known m) own added k r h.volume.row ending) (row_name q) in
              record {
                size = ap (λ (x : Stored). sectors_in x (row_name q)) at ∙ ap (λ (es : List ℕ). length es * s.geometry.extent) same;
                keeps = subst (λ (x : Stored). Keeps (held_in (stored g b) (row_name q)) (held_in x (row_name q))) (sym at)
                    (subst (λ es. Keeps (held_in (stored g b) (row_name q)) (volume s.geometry.extent es (at_rest (reads area)))) (sym same) keeps);
              }

          own_last : (area : Held) → IsSteady s.geometry (size_of s (tab g b) own) (volume_of s (tab g b) (at_rest (reads area)) own) image
              → stored g e ≡ record { site = s; table = after (tab g b) own; area = at_rest (reads area) } → ImageIsTrue (stored g e) image
          own_last area still at =
              let same = same_extents s (tab g b) (known m) own added k r h.volume.row (made_is s (tab g b) (known m) own added k r h.volume.row ending) own in
              subst (λ (x : Stored). ImageIsTrue x image) (sym at)
              (subst (λ y. TrueIn s.geometry (size_of s (after (tab g b) own) y) (volume_of s (after (tab g b) own) (at_rest (reads area)) y) image) (sym img.named)
              (subst (λ (es : List ℕ). TrueIn s.geometry (length es * s.geometry.extent) (volume s.geometry.extent es (at_rest (reads area))) image) (sym same) (body_true _ _ _ image still)))

          from : g.told → AllAreTrue (stored g b) m.tree.rows → (q : TreeRow) → In q n.tree.rows → (In q m.tree.rows × KeepsVolume g b e q) ⊎ ImageIsTrue (stored g e) q.image
          from told each q i =
              let ran = run.ran tt told in
              let rows_are : n.tree.rows ≡ with_row added m.tree.rows = ap (λ (x : Known). x.rows) is in
              ⊎_elim
              (λ new. inr (subst (λ (x : TreeRow). ImageIsTrue (stored g e) x.image) (sym new)
              (own_last ran.0 (last_steady s (tab g b) (known m) own added k r h.volume.row ending (g.area b) ran.0 ran.1.beside (steady told)) ran.3)))
              (λ was. inl (
                was,
                volume_last ran.0 q was (Keeps-then (Keeps-volume _ _ (keeps_rest (g.area b)))
                    (volume_same s (tab g b) (known m) own added k r h.volume.row ending (g.area b) ran.0 ran.1.beside (row_name q) (not_mgt s (tab g b) (known m) h.orderly q was))) ran.3,
              ))
              (In-insert is_before added m.tree.rows q (subst (In q) rows_are i))

      pub between_made : HasTreeRoom n → IsBetweenSteps g e n
      between_made tree_room = record {
        usable = run.usable tt;
        orderly = subst₂ (λ s t. IsOrderly s t (known n)) (sym run.site) (sym (run.table tt)) (subst (IsOrderly (g.site b) (after (tab g b) own)) (sym is) last_orderly);
        tidy = subst₂ IsTidy (sym (run.table tt)) (sym is) (made_tidy (g.site b) (tab g b) (known m) own added k r h.volume.row ending);
        true_images = last_true;
        rows = run.rows tt h.rows;
        tree_room = tree_room;
        attachment_room = subst (λ (x : Known). image_limit ≤ x.attached.room) (sym is) h.attachment_room;
      }
