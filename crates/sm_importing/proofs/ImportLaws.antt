-- An import over a store: what its calls leave of a session and of the disks, from its begin to its end, and that writes to its volume
-- keep both.
use Rattle.std.proofs.Common.{◌≡◌, ◌≢◌, ⊎_elim, inl, inr, ℕ, ◌+◌, ◌*◌, ◌^◌, ◌<◌, ◌≤◌, Bool, true, false, List, [], ◌∷◌, length, unwrap_or, Option, Some, None, IsSome, refl, sym, ap, ◌∙◌, subst, subst₂, arith}
use Rattle.std.proofs.lemmas.Bool.{true≢false}
use Rattle.std.proofs.lemmas.Option.{none-some}
use Rattle.std.proofs.Math.Nat.{le-mul_of_pos_right}
use Rattle.sm_base.proofs.NumberLemmas.{div_up-le, image_fits}
use Rattle.sm_base.specs.Names.{IsName, IsUuid}
use Rattle.sm_base.specs.Numbers.{first, thin}
use Rattle.sm_machine.proofs.Numbers.{thin-positive}
use Rattle.sm_base.specs.declared.names.Name.TheVariants.{Vhd}
use Rattle.sm_disk.specs.Held.{Held}
use Rattle.sm_disk.proofs.HeldLaws.{Keeps-none, Keeps-then}
use Rattle.vg_meta.specs.Tables.{VolumeTable, Row, extents_of, rows}
use Rattle.vg_meta.specs.Changes.{AreFree, HasRoom, Permits, applied, grown, made}
use Rattle.vg_meta.specs.declared.changes.Change.{Change}
use Rattle.vg_meta.specs.declared.changes.Change.TheVariants.{Create, Grow, Remove}
use Rattle.vg_meta.proofs.ByName.{changes_by_name}
use Rattle.vg_volumes.specs.Sites.{Fits, Site}
use Rattle.vg_volumes.specs.Stored.{CanCommit, IsChoiceOf, OnlyReads, Stays, Stored, WorksOn, stored}
use Rattle.vg_volumes.specs.Volumes.{KeepsElsewhere}
use Rattle.vg_volumes.specs.declared.stores.Store.{Ghosts}
use Rattle.common_laws.specs.Lists.{In}
use Rattle.sm_machine.specs.Disks.{Disk}
use Rattle.sm_machine.specs.Shapes.{image_uuid}
use Rattle.sm_machine.specs.WellFormed.{is_image_name}
use Rattle.sm_mgt.specs.Places.{place_for}
use Rattle.sm_record.specs.declared.records.Record.{Record}
use Rattle.sm_standing.specs.Standing.{disks}
use Rattle.vhd_chain.specs.declared.rows.TreeRow.{TreeRow}
use Rattle.vhd_chain.specs.Trees.{row_name}
use Rattle.sm_ready.specs.Done.{HasDone}
use Rattle.sm_ready.specs.Frames.{HasTrueImages}
use Rattle.sm_ready.specs.Framing.{IsBetweenSteps}
use Rattle.sm_ready.specs.Known.{known}
use Rattle.sm_ready.specs.Middle.{IsStray}
use Rattle.sm_ready.specs.Orderly.{IsOrderly}
use Rattle.sm_ready.specs.Ready.{IsReady}
use Rattle.sm_ready.specs.Sessions.{IsOrderlyStore, IsReadyStore}
use Rattle.sm_ready.specs.Stores.{Leaving, MayShow, StoreLeaves, content_now, store_content}
use Rattle.sm_ready.specs.declared.memory.Memory.{Memory}
use Rattle.sm_ready.proofs.BeginLaws.{IsToBegin, begun_there, fits_begun_as, may_begin, new_begun, orderly_begun_as, stray_for}
use Rattle.sm_ready.proofs.BesideLaws.{IsAlone, IsBeside, orderly_beside}
use Rattle.sm_ready.proofs.LogLaws.{holds_ready, logged_left}
use Rattle.sm_ready.proofs.ChainLaws.{might_show, only_crash, stored_same, tab}
use Rattle.sm_ready.proofs.CommitLaws.{ready_safe}
use Rattle.sm_ready.proofs.FitLaws.{fits_orderly}
use Rattle.sm_ready.proofs.FrameLaws.{true_kept, true_reads, volume_area, volume_works}
use Rattle.sm_ready.proofs.FramingLaws.{reads_between}
use Rattle.sm_ready.proofs.FreshLaws.{In-put}
use Rattle.sm_ready.proofs.GoneLaws.{goes_alone, grown_there, grows_alone}
use Rattle.sm_ready.proofs.LeaveLaws.{left_choice}
use Rattle.sm_ready.proofs.RoomLaws.{rows_stays}
use Rattle.sm_ready.proofs.RowLaws.{found_in, image_named}
use Rattle.sm_calls.specs.Calls.{Call, Commit, DoesRun, GoesOn, IsReadyWith, IsSoFar, ShowsBetween, Work}
use Rattle.sm_calls.proofs.StoreLaws.{run_works, safe_fine, so_far_cut, so_far_then}
use Rattle.sm_importing.specs.Imports.{GoesOnImporting, HasNewVolume, ImportsSince, IsFilling, IsGrowth, IsImporting, LeavesStill, MayImport, ShowsStill, StopsImporting, thin_in}
use Rattle.sm_importing.proofs.MomentLaws.{image_away, made_filling, made_fine, then_filling, then_fine, then_rested, wrote_filling, wrote_fine}

pub vhd_image : (u : List ℕ) → is_image_name (Vhd u) ≡ true
unfolding is_image_name
vhd_image u = refl

pub some_of : (x : Option ℕ) → IsSome x → x ≡ Some (unwrap_or x 0)
some_of None h = absurd (let k = h in cc)
some_of (Some k) h = refl

-- what a store leaves while it is usable, as the trait says
abbrev pub LeavesNow : {S : Type 0} → Ghosts S → Type 0
LeavesNow {S} g = (s : S) → g.told → g.failed s ≡ false → (t : VolumeTable) (image : ℕ → List ℕ) → g.leaves s t image → IsChoiceOf (stored g s) t image

-- whatever was written
abbrev Anything : Held → Held → Type 0
Anything old new = Unit {0}

-- the disks that a read gives
abbrev was : {S : Type 0} → Ghosts S → S → List Disk
was g a = disks (store_content g a)

-- an image has few extents
pub thin_few : (s : Site) (slots : ℕ) → slots ≤ s.geometry.entries → thin_in s slots < 2 ^ 32
unfolding thin
thin_few s slots within =
    let g = s.geometry.in_range in
    let x = first s.geometry.entries + slots * (1 + s.geometry.block) + 1 in
    let most = div_up-le x s.geometry.extent x (omega (arith, g.extent_least)) (le-mul_of_pos_right x (omega (arith, g.extent_least))) in
    omega (arith, most, image_fits s.geometry.extent s.geometry.block s.geometry.entries slots g within)

pub thin_some : (s : Site) (slots : ℕ) → 0 < thin_in s slots
thin_some s slots = thin-positive s.geometry.extent s.geometry.block s.geometry.entries slots (let g = s.geometry.in_range.extent_least in omega (arith, g))

module _ {S : Type 0} {g : Ghosts S} where
  -- ---- what was done so far

  pub so_far_first : {a : S} (m : Memory) → LeavesNow g → g.failed a ≡ false → IsOrderlyStore g a m → IsReadyStore g a m → IsSoFar g (ShowsStill g m a) (λ y. y ≡ stored g a) a a
  so_far_first {a} m leaves usable o ready = record {
    site = refl;
    faults = omega arith;
    usable = usable;
    beside = λ told. Keeps-none (g.beside a);
    left = λ told t image l.
        let c = left_choice g.told (g.site a) (tab g a) (g.area a) (g.leaves a) (g.failed a) (leaves a told usable) t image l in
        subst (λ v. ShowsStill g m a v image) (sym c.table_is)
        (safe_fine (known m).logs (was g a) (ready_safe (g.site a) (tab g a) (g.area a) (known m) (StoreLeaves g a) o ready (λ i is. inr (told, usable, is)))
        (logged_left (holds_ready (g.site a) (tab g a) (g.area a) (known m) o ready) o.table) image c.sectors);
    now = λ told. refl;
  }

  pub so_far_now : {a b : S} {Fine : Leaving} {Now : Stored → Type 0} → IsSoFar g Fine Now a b → IsSoFar g Fine (λ y. y ≡ stored g b) a b
  so_far_now so = record { site = so.site; faults = so.faults; usable = so.usable; beside = so.beside; left = so.left; now = λ told. refl }

  pub so_far_reads : {a b p : S} {Fine : Leaving} (Now : Stored → Type 0) → OnlyReads g b p → g.area p ≡ g.area b → ((t : VolumeTable) (image : ℕ → List ℕ) → g.leaves p t image → g.leaves b t image)
      → IsSoFar g Fine Now a b → IsSoFar g Fine Now a p
  so_far_reads {a} {b} {p} Now reads area fewer so = record {
    site = reads.stays.site ∙ so.site;
    faults = omega (arith, so.faults, reads.stays.faults);
    usable = reads.stays.failed ∙ so.usable;
    beside = λ told. Keeps-then (so.beside told) (reads.stays.beside told);
    left = λ told t image l. so.left told t image (⊎_elim
        (λ h. inl (fewer t image h))
        (λ w. inr (w.0, sym reads.stays.failed ∙ w.1, subst (λ (x : Stored). IsChoiceOf x t image) (stored_same reads area) w.2)) l);
    now = λ told. subst Now (sym (stored_same reads area)) (so.now told);
  }

  -- ---- the begin

  begins : {p : S} (m : Memory) (u es : List ℕ) → IsBetweenSteps g p m → MayImport (known m) u → IsUuid u → 0 < length es → AreFree (g.site p).count (tab g p).volumes es
      → IsToBegin (g.site p) (tab g p) (known m) (Vhd u) es u
  unfolding IsName is_image_name image_uuid
  begins m u es session may proper some free = record {
    orderly = session.orderly;
    tidy = session.tidy;
    proper = proper;
    image = refl;
    uuid = refl;
    not_base = may.not_base;
    absent = may.absent;
    few = may.few;
    some_extents = some;
    extents_free = free;
  }

  module _ {p : S} (m : Memory) (u es : List ℕ) (session : IsBetweenSteps g p m) (may : MayImport (known m) u) (proper : IsUuid u) (some : 0 < length es) (free : AreFree (g.site p).count (tab g p).volumes es) where
    begin : IsToBegin (g.site p) (tab g p) (known m) (Vhd u) es u
    begin = begins m u es session may proper some free

    pub begin_allowed : Permits (g.site p).count (tab g p) (Create (Vhd u) true es)
    begin_allowed = may_begin (g.site p) (tab g p) (known m) (Vhd u) es u begin

    pub begin_fits : Fits (g.site p).count (tab g p) (Create (Vhd u) true es)
    begin_fits = fits_begun_as (g.site p) (tab g p) (known m) (Vhd u) es u begin

    away : (q : TreeRow) → In q m.tree.rows → row_name q ≢ Vhd u
    away q i same =
        let there = begun_there (g.site p) (tab g p) (known m) (Vhd u) es u begin in
        let orderly = orderly_begun_as (g.site p) (tab g p) (known m) (Vhd u) es u begin in
        image_away (g.site p) (applied (tab g p) (Create (Vhd u) true es)) (known m) (Vhd u) (made (Vhd u) true es) orderly (vhd_image u) there refl q i same

    module _ {b : S} (run : DoesRun g (Commit (Create (Vhd u) true es) ∷ []) p b (Unit {0})) where
      begun_true : HasTrueImages g b m
      begun_true = true_kept g m m run.site (λ told q i. (
        i,
        volume_area q run.site
            (ap (λ t. extents_of (rows t (row_name q))) (run.table tt)
            ∙ ap extents_of ((changes_by_name (g.site p).count (tab g p) (Create (Vhd u) true es) session.orderly.table begin_allowed).others (row_name q) (away q i)))
            (run.keeps tt told),
      )) session.true_images

      pub importing_begun : IsSome (place_for m.records u) → IsImporting g b m u
      importing_begun place = record {
        usable = run.usable tt;
        orderly = subst₂ (λ s t. IsOrderly s t (known m)) (sym run.site) (sym (run.table tt)) (orderly_begun_as (g.site p) (tab g p) (known m) (Vhd u) es u begin);
        volume = record {
          row = made (Vhd u) true es;
          there = ap (λ t. rows t (Vhd u)) (run.table tt) ∙ begun_there (g.site p) (tab g p) (known m) (Vhd u) es u begin;
          fresh = refl;
          visible = refl;
        };
        only_new = λ q i new. ⊎_elim (λ is. ap (λ (x : Row). x.name) is) (λ j. absurd (true≢false (sym new ∙ session.tidy.none_new q j)))
            (In-put (made (Vhd u) true es) q (tab g p).volumes (subst (λ (t : VolumeTable). In q t.volumes) (run.table tt) i));
        no_stray = session.tidy.no_stray;
        may = may;
        place = place;
        true_images = begun_true;
        rows = run.rows tt session.rows;
        tree_room = session.tree_room;
        attachment_room = session.attachment_room;
      }

  -- since the store in front of it, of which the begin only read before its commit
  module _ {a p : S} (m : Memory) (u es : List ℕ) (leaves : LeavesNow g) (session : IsBetweenSteps g a m) (may : MayImport (known m) u) (proper : IsUuid u) (some : 0 < length es)
      (free : AreFree (g.site a).count (tab g a).volumes es) (reads : OnlyReads g a p) (area : g.area p ≡ g.area a) (fewer : (t : VolumeTable) (image : ℕ → List ℕ) → g.leaves p t image → g.leaves a t image)
      (ready : IsReadyStore g a m) where
    abbrev calls : List Call
    calls = Commit (Create (Vhd u) true es) ∷ []

    at_begin : IsSoFar g (ShowsStill g m a) (λ y. y ≡ stored g a) a p
    at_begin = so_far_reads (λ y. y ≡ stored g a) reads area fewer (so_far_first m leaves session.usable session.orderly ready)

    goes : (y : Stored) → y ≡ stored g a → GoesOn (ShowsStill g m a) (IsFilling (known m) (Vhd u) (was g a)) y calls
    goes y is =
        let new = new_begun (g.site a) (tab g a) (known m) (Vhd u) es u (begins m u es session may proper some free) in
        subst (λ z. GoesOn (ShowsStill g m a) (IsFilling (known m) (Vhd u) (was g a)) z calls) (sym is) (
          made_fine (g.site a) (tab g a) (g.area a) (known m) (Vhd u) es (was g a) (StoreLeaves g a) session.orderly ready new refl,
          made_filling (g.site a) (tab g a) (g.area a) (known m) (Vhd u) es (was g a) (StoreLeaves g a) session.orderly ready new refl,
        )

    pub since_begun : {b : S} → DoesRun g calls p b (Unit {0}) → ImportsSince g u m a b
    since_begun run = record { usable = session.usable; so_far = so_far_then (ShowsStill g m a) (λ y. y ≡ stored g a) (IsFilling (known m) (Vhd u) (was g a)) at_begin calls tt run (λ told y is. goes y is) }

    pub stops_begun : {b : S} {ok : Type 0} → DoesRun g calls p b ok → LeavesStill g m a b
    stops_begun run = so_far_cut (ShowsStill g m a) (λ y. y ≡ stored g a) (IsFilling (known m) (Vhd u) (was g a)) at_begin calls run (λ told y is. goes y is)

  -- its commit, and the session behind it
  module _ {a p : S} (m : Memory) (u es : List ℕ) (session : IsBetweenSteps g a m) (may : MayImport (known m) u) (proper : IsUuid u) (some : 0 < length es) (free : AreFree (g.site a).count (tab g a).volumes es)
      (reads : OnlyReads g a p) where
    free_now : AreFree (g.site p).count (tab g p).volumes es
    free_now = subst₂ (λ (s : Site) (t : VolumeTable). AreFree s.count t.volumes es) (sym reads.stays.site) (sym reads.stays.table) free

    session_now : IsBetweenSteps g p m
    session_now = reads_between m reads session

    pub begin_can : 0 < (g.table p).spare → CanCommit g (Create (Vhd u) true es) p
    begin_can row = record {
      usable = session_now.usable;
      allowed = begin_allowed m u es session_now may proper some free_now;
      room = row;
      fits = begin_fits m u es session_now may proper some free_now;
    }

    pub begin_importing : {b : S} → DoesRun g (Commit (Create (Vhd u) true es) ∷ []) p b (Unit {0}) → IsSome (place_for m.records u) → IsImporting g b m u
    begin_importing run place = importing_begun m u es session_now may proper some free_now run place

  -- where it only read
  pub stops_unbegun : {a p : S} (m : Memory) → LeavesNow g → IsBetweenSteps g a m → IsReadyStore g a m → OnlyReads g a p → g.area p ≡ g.area a
      → ((t : VolumeTable) (image : ℕ → List ℕ) → g.leaves p t image → g.leaves a t image) → LeavesStill g m a p
  stops_unbegun {a} m leaves session ready reads area fewer = (so_far_reads (λ y. y ≡ stored g a) reads area fewer (so_far_first m leaves session.usable session.orderly ready)).left

  -- ---- calls that only read, and writes to the volume

  pub importing_stays : {b d : S} {m : Memory} {u : List ℕ} → Stays g b d → HasTrueImages g d m → IsImporting g b m u → IsImporting g d m u
  importing_stays {b} {d} {m} {u} stays images h = record {
    usable = stays.failed ∙ h.usable;
    orderly = subst₂ (λ s t. IsOrderly s t (known m)) (sym stays.site) (sym stays.table) h.orderly;
    volume = subst (λ t. HasNewVolume t (Vhd u)) (sym stays.table) h.volume;
    only_new = subst (λ (t : VolumeTable). (r : Row) → In r t.volumes → r.fresh ≡ true → r.name ≡ Vhd u) (sym stays.table) h.only_new;
    no_stray = h.no_stray;
    may = h.may;
    place = h.place;
    true_images = images;
    rows = rows_stays stays h.rows;
    tree_room = h.tree_room;
    attachment_room = h.attachment_room;
  }

  pub importing_reads : {b p : S} {m : Memory} {u : List ℕ} → OnlyReads g b p → IsImporting g b m u → IsImporting g p m u
  importing_reads {m = m} reads h = importing_stays reads.stays (true_reads g m m refl reads h.true_images) h

  pub since_reads : {a b p : S} {m : Memory} {u : List ℕ} → OnlyReads g b p → g.area p ≡ g.area b → ((t : VolumeTable) (image : ℕ → List ℕ) → g.leaves p t image → g.leaves b t image) → ImportsSince g u m a b
      → ImportsSince g u m a p
  since_reads {a} {m = m} {u = u} reads area fewer since = record { usable = since.usable; so_far = so_far_reads (IsFilling (known m) (Vhd u) (was g a)) reads area fewer since.so_far }

  pub importing_works : {b d : S} {m : Memory} {u : List ℕ} → WorksOn g (Vhd u) b d → IsImporting g b m u → IsImporting g d m u
  importing_works {b} {d} {m} {u} works h =
      let away = λ (q : TreeRow) (i : In q m.tree.rows). image_away (g.site b) (tab g b) (known m) (Vhd u) h.volume.row h.orderly (vhd_image u) h.volume.there h.volume.fresh q i in
      importing_stays works.stays (true_kept g m m works.stays.site (λ told q i. (i, volume_works q h.orderly.table (away q i) works told)) h.true_images) h

  -- ---- a change of the new volume alone

  module _ {b : S} {m : Memory} {u : List ℕ} (c : Change) (h : IsImporting g b m u) (allows : Permits (g.site b).count (tab g b) c) where
    pub beside_now : IsBeside (g.site b) (tab g b) (Vhd u) h.volume.row c
    beside_now = record { there = h.volume.there; fresh = h.volume.fresh; allows = allows; image = vhd_image u }

    module _ (alone : IsAlone (tab g b) (Vhd u) c) where
      pub change_orderly : IsOrderly (g.site b) (applied (tab g b) c) (known m)
      change_orderly = orderly_beside (g.site b) (tab g b) (known m) (Vhd u) h.volume.row c h.orderly beside_now alone

      pub change_fits : Fits (g.site b).count (tab g b) c
      change_fits = fits_orderly (g.site b) (applied (tab g b) c) (known m) change_orderly

      away_now : (q : TreeRow) → In q m.tree.rows → row_name q ≢ Vhd u
      away_now q i = image_away (g.site b) (tab g b) (known m) (Vhd u) h.volume.row h.orderly (vhd_image u) h.volume.there h.volume.fresh q i

      module _ {d : S} (run : DoesRun g (Commit c ∷ []) b d (Unit {0})) where
        pub orderly_then : IsOrderlyStore g d m
        orderly_then = subst₂ (λ s t. IsOrderly s t (known m)) (sym run.site) (sym (run.table tt)) change_orderly

        pub true_then : HasTrueImages g d m
        true_then = true_kept g m m run.site (λ told q i. (
          i,
          volume_area q run.site
              (ap (λ t. extents_of (rows t (row_name q))) (run.table tt) ∙ ap extents_of (alone.others (row_name q) (away_now q i)))
              (run.keeps tt told),
        )) h.true_images

        pub only_then : (q : Row) → In q (tab g d).volumes → q.fresh ≡ true → q.name ≡ Vhd u
        only_then q i new = let w = alone.news q (subst (λ (t : VolumeTable). In q t.volumes) (run.table tt) i) new in sym w.3 ∙ h.only_new w.0 w.1 w.2

  pub importing_grown : {b d : S} {m : Memory} {u : List ℕ} (es : List ℕ) → IsImporting g b m u → Permits (g.site b).count (tab g b) (Grow (Vhd u) es) → DoesRun g (Commit (Grow (Vhd u) es) ∷ []) b d (Unit {0})
      → IsImporting g d m u
  importing_grown {b} {d} {m} {u} es h allows run =
      let beside = beside_now (Grow (Vhd u) es) h allows in
      let alone = grows_alone es h.orderly.table beside in
      record {
        usable = run.usable tt;
        orderly = orderly_then (Grow (Vhd u) es) h allows alone run;
        volume = record {
          row = grown es h.volume.row;
          there = ap (λ t. rows t (Vhd u)) (run.table tt) ∙ grown_there es h.orderly.table beside;
          fresh = h.volume.fresh;
          visible = h.volume.visible;
        };
        only_new = only_then (Grow (Vhd u) es) h allows alone run;
        no_stray = h.no_stray;
        may = h.may;
        place = h.place;
        true_images = true_then (Grow (Vhd u) es) h allows alone run;
        rows = run.rows tt h.rows;
        tree_room = h.tree_room;
        attachment_room = h.attachment_room;
      }

  pub between_gone : {b d : S} {m : Memory} {u : List ℕ} → IsImporting g b m u → Permits (g.site b).count (tab g b) (Remove (Vhd u)) → DoesRun g (Commit (Remove (Vhd u)) ∷ []) b d (Unit {0}) → IsBetweenSteps g d m
  between_gone {b} {d} {m} {u} h allows run =
      let alone = goes_alone h.orderly.table (beside_now (Remove (Vhd u)) h allows) in
      let orderly = orderly_then (Remove (Vhd u)) h allows alone run in
      record {
        usable = run.usable tt;
        orderly = orderly;
        tidy = record {
          none_new = λ q i. old q i orderly (only_then (Remove (Vhd u)) h allows alone run) q.fresh refl;
          no_stray = h.no_stray;
        };
        true_images = true_then (Remove (Vhd u)) h allows alone run;
        rows = run.rows tt h.rows;
        tree_room = h.tree_room;
        attachment_room = h.attachment_room;
      }
    where
      old : (q : Row) → In q (tab g d).volumes → IsOrderlyStore g d m → ((r : Row) → In r (tab g d).volumes → r.fresh ≡ true → r.name ≡ Vhd u) → (x : Bool) → q.fresh ≡ x → q.fresh ≡ false
      old q i orderly only false e = e
      old q i orderly only true e =
          let none : rows (tab g d) (Vhd u) ≡ None = ap (λ t. rows t (Vhd u)) (run.table tt) ∙ (changes_by_name (g.site b).count (tab g b) (Remove (Vhd u)) h.orderly.table allows).does.2 in
          absurd (none-some q (sym none ∙ ap (rows (tab g d)) (sym (only q i e)) ∙ found_in (tab g d).volumes orderly.table.volumes.rising q i))

  -- since the begin
  module _ {a b p : S} {m : Memory} {u : List ℕ} (c : Change) (since : ImportsSince g u m a b) (h : IsImporting g b m u) (allows : Permits (g.site b).count (tab g b) c) (alone : IsAlone (tab g b) (Vhd u) c)
      (reads : OnlyReads g b p) (area : g.area p ≡ g.area b) (fewer : (t : VolumeTable) (image : ℕ → List ℕ) → g.leaves p t image → g.leaves b t image) where
    before_change : IsSoFar g (ShowsStill g m a) (λ y. y ≡ stored g b) a p
    before_change = so_far_reads (λ y. y ≡ stored g b) reads area fewer (so_far_now since.so_far)

    to_filling : g.told → (y : Stored) → y ≡ stored g b → GoesOn (ShowsStill g m a) (IsFilling (known m) (Vhd u) (was g a)) y (Commit c ∷ [])
    to_filling told y is =
        let f = since.so_far.now told in
        let k = beside_now c h allows in
        subst (λ z. GoesOn (ShowsStill g m a) (IsFilling (known m) (Vhd u) (was g a)) z (Commit c ∷ [])) (sym is)
        (subst (λ s. GoesOn (ShowsBetween s (StoreLeaves g a) (was g a) (was g a) (known m).logs) (IsFilling (known m) (Vhd u) (was g a)) (stored g b) (Commit c ∷ [])) since.so_far.site (
          then_fine (g.site b) (tab g b) (g.area b) (known m) (Vhd u) h.volume.row c (was g a) (StoreLeaves g a) h.orderly f k alone,
          then_filling (g.site b) (tab g b) (g.area b) (known m) (Vhd u) h.volume.row c (was g a) (StoreLeaves g a) h.orderly f k alone,
        ))

    to_rest : g.told → (y : Stored) → y ≡ stored g b → GoesOn (ShowsStill g m a) (IsReadyWith (known m) (was g a)) y (Commit c ∷ [])
    to_rest told y is =
        let f = since.so_far.now told in
        let k = beside_now c h allows in
        subst (λ z. GoesOn (ShowsStill g m a) (IsReadyWith (known m) (was g a)) z (Commit c ∷ [])) (sym is)
        (subst (λ s. GoesOn (ShowsBetween s (StoreLeaves g a) (was g a) (was g a) (known m).logs) (IsReadyWith (known m) (was g a)) (stored g b) (Commit c ∷ [])) since.so_far.site (
          then_fine (g.site b) (tab g b) (g.area b) (known m) (Vhd u) h.volume.row c (was g a) (StoreLeaves g a) h.orderly f k alone,
          then_rested (g.site b) (tab g b) (g.area b) (known m) (Vhd u) h.volume.row c (was g a) (StoreLeaves g a) h.orderly f k alone,
        ))

    pub since_change : {d : S} → DoesRun g (Commit c ∷ []) p d (Unit {0}) → ImportsSince g u m a d
    since_change run = record { usable = since.usable; so_far = so_far_then (ShowsStill g m a) (λ y. y ≡ stored g b) (IsFilling (known m) (Vhd u) (was g a)) before_change (Commit c ∷ []) tt run to_filling }

    pub stops_change : {d : S} {ok : Type 0} → DoesRun g (Commit c ∷ []) p d ok → LeavesStill g m a d
    stops_change run = so_far_cut (ShowsStill g m a) (λ y. y ≡ stored g b) (IsFilling (known m) (Vhd u) (was g a)) before_change (Commit c ∷ []) run to_filling

    pub ends_change : {d : S} (ok : Type 0) → DoesRun g (Commit c ∷ []) p d (Unit {0}) → g.told
        → HasDone (g.site a) (tab g a) (tab g d) (g.area a) (g.area d) (known m) (StoreLeaves g a) (StoreLeaves g d) ok (was g a)
    ends_change {d} ok run told =
        let so = so_far_then (ShowsStill g m a) (λ y. y ≡ stored g b) (IsReadyWith (known m) (was g a)) before_change (Commit c ∷ []) tt run to_rest in
        let now = so.now told in
        record {
          ready = λ fine. subst (λ s. IsReady s (tab g d) (g.area d) (known m)) so.site now.ready;
          settled = λ fine. now.settled;
          shown = λ fine. subst (λ s. disks (content_now s (tab g d) (g.area d)) ≡ was g a) so.site now.shown;
          crash = λ v image l. let w = so.left told v image l in (w.0, w.1);
          logged = λ v image l. let w = so.left told v image l in w.2;
        }

    pub ends_cut : {d : S} {came : Type 0} (ok : Type 0) → (ok → ⊥) → DoesRun g (Commit c ∷ []) p d came → g.told
        → HasDone (g.site a) (tab g a) (tab g d) (g.area a) (g.area d) (known m) (StoreLeaves g a) (StoreLeaves g d) ok (was g a)
    ends_cut ok never run told = only_crash never (λ v image l. let w = stops_change run told v image l in (w.0, w.1)) (λ v image l. let w = stops_change run told v image l in w.2)

  -- ---- it goes

  pub remove_allowed : {b : S} {m : Memory} {u : List ℕ} → IsImporting g b m u → Permits (g.site b).count (tab g b) (Remove (Vhd u))
  remove_allowed h = record { row = h.volume.row; there = h.volume.there; not_mgt = λ e. (let x = e in cc) }

  pub can_remove : {b : S} {m : Memory} {u : List ℕ} → IsImporting g b m u → CanCommit g (Remove (Vhd u)) b
  can_remove {u = u} h =
      let allows = remove_allowed h in
      record { usable = h.usable; allowed = allows; room = tt; fits = change_fits (Remove (Vhd u)) h allows (goes_alone h.orderly.table (beside_now (Remove (Vhd u)) h allows)) }

  -- ---- it grows

  module _ {b p : S} {m : Memory} {u : List ℕ} {more : ℕ} {growth : Change} (h : IsImporting g b m u) (w : IsGrowth (g.site b).count (tab g b) (Vhd u) more growth) (some : 0 < more)
      (reads : OnlyReads g b p) (area : g.area p ≡ g.area b) (fewer : (t : VolumeTable) (image : ℕ → List ℕ) → g.leaves p t image → g.leaves b t image) where
    grow_allowed : Permits (g.site b).count (tab g b) (Grow (Vhd u) w.extents)
    grow_allowed = record { row = h.volume.row; there = h.volume.there; image = image_named (Vhd u) (vhd_image u); some_extents = omega (arith, w.least.many, some); extents_free = w.extents_free }

    allows : Permits (g.site b).count (tab g b) growth
    allows = subst (Permits (g.site b).count (tab g b)) (sym w.is) grow_allowed

    alone : IsAlone (tab g b) (Vhd u) growth
    alone = subst (IsAlone (tab g b) (Vhd u)) (sym w.is) (grows_alone w.extents h.orderly.table (beside_now (Grow (Vhd u) w.extents) h grow_allowed))

    pub growth_can : (Permits (g.site b).count (tab g b) growth → HasRoom (g.table p) growth) → CanCommit g growth p
    growth_can room = record {
      usable = reads.stays.failed ∙ h.usable;
      allowed = subst₂ (λ (s : Site) t. Permits s.count t growth) (sym reads.stays.site) (sym reads.stays.table) allows;
      room = room allows;
      fits = subst₂ (λ (s : Site) t. Fits s.count t growth) (sym reads.stays.site) (sym reads.stays.table) (change_fits growth h allows alone);
    }

    pub growth_importing : {d : S} → DoesRun g (Commit growth ∷ []) p d (Unit {0}) → IsImporting g d m u
    growth_importing {d} run = importing_grown w.extents (importing_reads reads h)
        (subst₂ (λ (s : Site) t. Permits s.count t (Grow (Vhd u) w.extents)) (sym reads.stays.site) (sym reads.stays.table) grow_allowed)
        (subst (λ c. DoesRun g (Commit c ∷ []) p d (Unit {0})) w.is run)

    pub growth_since : {d : S} → DoesRun g (Commit growth ∷ []) p d (Unit {0}) → GoesOnImporting g u m b d
    growth_since run a since = since_change growth since h allows alone reads area fewer run

    pub growth_stops : {d : S} {ok : Type 0} → DoesRun g (Commit growth ∷ []) p d ok → StopsImporting g u m b d
    growth_stops run a since = stops_change growth since h allows alone reads area fewer run

  -- ---- it is written to

  -- whatever is written into the volume, and in whatever order: at each return a stop leaves the disks from before
  pub since_works : {a b d : S} {m : Memory} {u : List ℕ} → LeavesNow g → WorksOn g (Vhd u) b d → IsImporting g b m u → ImportsSince g u m a b → ImportsSince g u m a d
  since_works {a} {b} {d} {m} {u} leaves works h since = record {
    usable = since.usable;
    so_far = so_far_then (ShowsStill g m a) (λ y. y ≡ stored g b) (IsFilling (known m) (Vhd u) (was g a)) (so_far_now since.so_far) (Work wrote Anything ∷ []) tt
        (run_works {ok = Unit {0}} h.usable works.stays works.elsewhere (λ ok told. ok) (λ told. leaves d told (works.stays.failed ∙ h.usable))) goes;
  }
    where
      wrote : Held → Held → Type 0
      wrote = KeepsElsewhere (g.site b).geometry.extent (extents_of (rows (tab g b) (Vhd u)))

      entry : Record
      entry = record { uuid = u; label = []; origin = None; read_only = false }

      stray : IsStray (known m) (unwrap_or (place_for m.records u) 0) entry
      stray = stray_for (g.site b) (tab g b) (known m) (unwrap_or (place_for m.records u) 0) entry h.orderly h.no_stray h.may.absent (some_of (place_for m.records u) h.place)

      goes : g.told → (y : Stored) → y ≡ stored g b → GoesOn (ShowsStill g m a) (IsFilling (known m) (Vhd u) (was g a)) y (Work wrote Anything ∷ [])
      goes told y is =
          let f = since.so_far.now told in
          let s = g.site b in
          let might = might_show g since.usable told in
          subst (λ z. GoesOn (ShowsStill g m a) (IsFilling (known m) (Vhd u) (was g a)) z (Work wrote Anything ∷ [])) (sym is)
          (subst (λ z. GoesOn (ShowsBetween z (StoreLeaves g a) (was g a) (was g a) (known m).logs) (IsFilling (known m) (Vhd u) (was g a)) (stored g b) (Work wrote Anything ∷ [])) since.so_far.site (
            λ new did. wrote_fine s (tab g b) (g.area b) new (known m) (Vhd u) h.volume.row (was g a) h.orderly (vhd_image u) h.volume.there h.volume.fresh f did _ entry stray (StoreLeaves g a)
                (subst (λ z. MayShow z (StoreLeaves g a) (was g a)) (sym since.so_far.site) might),
            λ new did done. wrote_filling s (tab g b) (g.area b) new (known m) (Vhd u) h.volume.row (was g a) h.orderly (vhd_image u) h.volume.there h.volume.fresh f did _ entry stray,
          ))
