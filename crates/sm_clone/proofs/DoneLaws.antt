-- The calls of a fork as one run: what each part of them did, why each moment is fine, and what was done once all of them succeeded.
use Rattle.std.proofs.Common.{◌≡◌, ◌≢◌, inr, ℕ, ◌-◌, Bool, true, false, List, [], ◌∷◌, ◌++◌, length, unwrap_or, Option, Some, refl, sym, ap, ap₂, ◌∙◌, subst, subst₂, arith}
use Rattle.std.proofs.lemmas.Option.{same_Some}
use Rattle.std.proofs.lemmas.Map.Entries.{lookup_head, lookup_tail}
use Rattle.sm_base.specs.Names.{base_uuid}
use Rattle.sm_base.specs.declared.names.Name.{Name}
use Rattle.sm_base.specs.declared.names.Name.TheVariants.{Vhd}
use Rattle.sm_disk.specs.Held.{Held, reads}
use Rattle.vg_meta.specs.Tables.{VolumeTable}
use Rattle.vg_volumes.specs.Sites.{Site}
use Rattle.vg_volumes.specs.Stored.{IsChoiceOf, Stays, stored}
use Rattle.vg_volumes.specs.declared.stores.Store.{Ghosts}
use Rattle.vhd_chain.specs.Trees.{tree_row}
use Rattle.vhd_chain.specs.declared.rows.TreeRow.{TreeRow}
use Rattle.vhd_image.specs.declared.images.Body.{Body}
use Rattle.sm_machine.specs.Disks.{Disk}
use Rattle.sm_machine.specs.Refusals.{wanted}
use Rattle.sm_machine.specs.Shapes.{attached_as, is_rw}
use Rattle.sm_machine.specs.Steps.{disks_next}
use Rattle.sm_record.specs.Records.{IsRecord}
use Rattle.sm_record.specs.declared.records.Record.{Record}
use Rattle.sm_refs.specs.Attached.{Attached, count_of, same_name, tally}
use Rattle.sm_refs.proofs.NameLemmas.{other_name, same_name-refl}
use Rattle.sm_mgt.specs.Places.{place_for}
use Rattle.sm_standing.specs.Standing.{disks}
use Rattle.sm_ready.specs.Done.{HasDoneFrom, at_rest}
use Rattle.sm_ready.specs.Does.{store_shape}
use Rattle.sm_ready.specs.Known.{Known, known}
use Rattle.sm_ready.specs.Orderly.{IsOrderly}
use Rattle.sm_ready.specs.Sessions.{IsReadyStore}
use Rattle.sm_ready.specs.Stores.{Leaving, MayShow, StoreLeaves, store_content}
use Rattle.sm_ready.specs.declared.memory.Memory.{Memory}
use Rattle.sm_ready.proofs.ChainLaws.{might_show, tab}
use Rattle.sm_ready.proofs.CommitLaws.{ready_safe}
use Rattle.sm_ready.proofs.LogLaws.{holds_ready, logged_left}
use Rattle.sm_calls.specs.Calls.{Call, DoesRun, GoesWell, IsFine, IsReadyWith, ShowsBetween, commits}
use Rattle.sm_calls.proofs.StoreLaws.{law_run, ready_fine, run_front, run_then, run_works, safe_fine}
use Rattle.sm_clone.specs.Forking.{CanFork, IsBesideFork, IsFilled, IsUsedAs, base_body, base_name, child_head, fill_call, first_changes, fork_calls, fork_of, forking, last_changes, own_uid, sectors_of, table_begun, twin_record, twin_uid}
use Rattle.sm_clone.specs.declared.forks.Fork.{Fork}
use Rattle.sm_clone.specs.declared.preparing.Parts.{Parts}
use Rattle.sm_clone.proofs.AreaLaws.{area_fill, area_front}
use Rattle.sm_clone.proofs.EndedLaws as ended
use Rattle.sm_clone.proofs.ForkOrderly.{forked_table, orderly_then}
use Rattle.sm_clone.proofs.ForkRows.{base_not_leaf, base_not_own}
use Rattle.sm_clone.proofs.ForkedLaws.{IsForkedMemory, known_is, placed}
use Rattle.sm_clone.proofs.MakingLaws.{twin_uuid}
use Rattle.sm_clone.proofs.MomentLaws.{IsMomentArea, IsMomentTable, moment_logged, moment_safe}
use Rattle.sm_clone.proofs.PassedLaws.{found, own as own_of}
use Rattle.sm_clone.proofs.ShapeLaws.{known_then}
use Rattle.sm_clone.proofs.TableLaws as tables
use Rattle.sm_clone.proofs.TableMoments.{moment_1, moment_2, moment_3, moment_4, moment_5, moment_6, moment_7}

-- ---- counts as a fork leaves them

-- a count in front of others
first_count : (n x : Name) (c : ℕ) (es : List (Name × ℕ)) → same_name n x ≡ true → tally ((x, c) ∷ es) n ≡ c
first_count n x c es is = ap (λ (y : Option ℕ). unwrap_or y 0) (lookup_head (same_name n) (x, c) es is)

next_count : (n x : Name) (c : ℕ) (es : List (Name × ℕ)) → n ≢ x → tally ((x, c) ∷ es) n ≡ tally es n
next_count n x c es other = ap (λ (y : Option ℕ). unwrap_or y 0) (lookup_tail (same_name n) (x, c) es (other_name n x other))

module _ (f : Fork) (a : Attached) where
  abbrev c : ℕ
  c = count_of a f.own

  abbrev own_on : List (Name × ℕ)
  own_on = (f.own, 0) ∷ a.counts

  abbrev leaf_on : List (Name × ℕ)
  leaf_on = (Vhd f.disk, c) ∷ own_on

  abbrev used_as : Attached
  used_as = record a { counts = (base_name f, c) ∷ leaf_on }

  is_used_as : base_name f ≢ Vhd f.disk → base_name f ≢ f.own → IsUsedAs f a used_as
  is_used_as leaf own = record {
    disks = refl;
    base = first_count (base_name f) (base_name f) c leaf_on (same_name-refl (base_name f));
    own = next_count (Vhd f.disk) (base_name f) c leaf_on (λ is. leaf (sym is)) ∙ first_count (Vhd f.disk) (Vhd f.disk) c own_on (same_name-refl (Vhd f.disk));
    gone = λ raw. next_count f.own (base_name f) c leaf_on (λ is. own (sym is)) ∙ next_count f.own (Vhd f.disk) c own_on raw ∙ first_count f.own f.own 0 a.counts (same_name-refl f.own);
    others = λ n not_base not_leaf not_own. next_count n (base_name f) c leaf_on not_base ∙ next_count n (Vhd f.disk) c own_on not_leaf ∙ next_count n f.own 0 a.counts not_own;
  }

-- ---- the run, call by call

module _ {S : Type 0} {g : Ghosts S} {a : S} {f : Fork} {own twins : List ℕ} (now : ℕ) (image : Body) (k : ℕ) (entry : Record) where
  -- one of the first commits failed
  pub run_begun : {b : S} → DoesRun g (commits (first_changes f own twins)) a b ⊥ → DoesRun g (fork_calls (g.site a) (tab g a) f own twins now image k entry) a b ⊥
  run_begun begun = run_front (commits (first_changes f own twins)) (fill_call (g.site a) (table_begun (tab g a) f own twins) f now image k entry ∷ commits (last_changes f)) begun

  module _ {b d : S} (begun : DoesRun g (commits (first_changes f own twins)) a b (Unit {0})) (stays : Stays g b d) (middle : g.told → IsBesideFork (g.site b) (tab g b) f (g.area b) (g.area d) k entry)
      (now_left : g.told → g.failed d ≡ false → (v : VolumeTable) (leaves : ℕ → List ℕ) → g.leaves d v leaves → IsChoiceOf (stored g d) v leaves) where
    filled_run : {ok : Type 0} → (ok → g.told → IsFilled (g.site b) (tab g b) (child_head (g.site b).geometry f.disk now (base_uuid ((tab g b).sequence - 1)) image)
        (child_head (g.site b).geometry f.twin now (base_uuid (tab g b).sequence) image) k entry (g.area b) (g.area d)) → DoesRun g (commits (first_changes f own twins) ++ fill_call (g.site a) (table_begun (tab g a) f own twins) f now image k entry ∷ []) a d ok
    filled_run filled = run_then (commits (first_changes f own twins)) (fill_call (g.site a) (table_begun (tab g a) f own twins) f now image k entry ∷ []) tt begun
        (run_works (begun.usable tt) stays
        (λ told. subst₂ (λ (x : Site) (y : VolumeTable). IsBesideFork x y f (g.area b) (g.area d) k entry) begun.site (begun.table tt) (middle told))
        (λ ok told. subst₂ (λ (x : Site) (y : VolumeTable). IsFilled x y (child_head x.geometry f.disk now (base_uuid (y.sequence - 1)) image) (child_head x.geometry f.twin now (base_uuid y.sequence) image)
        k entry (g.area b) (g.area d)) begun.site (begun.table tt) (filled ok told))
        (λ told. now_left told (stays.failed ∙ begun.usable tt)))

    -- one of the writes failed
    pub run_filled : DoesRun g (fork_calls (g.site a) (tab g a) f own twins now image k entry) a d ⊥
    run_filled = run_front (commits (first_changes f own twins) ++ fill_call (g.site a) (table_begun (tab g a) f own twins) f now image k entry ∷ []) (commits (last_changes f)) (filled_run (λ never. absurd never))

    -- all but the last commits were made, and these succeeded or not
    pub run_ended : {e : S} {ok : Type 0} → (g.told → IsFilled (g.site b) (tab g b) (child_head (g.site b).geometry f.disk now (base_uuid ((tab g b).sequence - 1)) image)
        (child_head (g.site b).geometry f.twin now (base_uuid (tab g b).sequence) image) k entry (g.area b) (g.area d))
        → DoesRun g (commits (last_changes f)) d e ok → DoesRun g (fork_calls (g.site a) (tab g a) f own twins now image k entry) a e ok
    run_ended filled ended = run_then (commits (first_changes f own twins) ++ fill_call (g.site a) (table_begun (tab g a) f own twins) f now image k entry ∷ []) (commits (last_changes f)) tt (filled_run {ok = Unit {0}} (λ fine. filled)) ended

module _ {S : Type 0} {g : Ghosts S} {a : S} {m : Memory} {f : Fork} {p : Parts} {entry : Record} (can : CanFork g a m f p entry) (told : g.told) (ready : IsReadyStore g a m) where
  abbrev s : Site
  s = g.site a

  abbrev t : VolumeTable
  t = tab g a

  abbrev own : List ℕ
  own = p.own.items

  abbrev twins : List ℕ
  twins = p.twins.items

  abbrev sectors : ℕ
  sectors = sectors_of (tree_row m.tree.rows f.own)

  -- the fork, its place and its record as table and memory give them
  abbrev fork_now : Fork
  fork_now = fork_of can.allowed.number m.tree.rows f.disk f.twin

  abbrev k_now : ℕ
  k_now = unwrap_or (place_for m.records entry.uuid) 0

  abbrev entry_now : Record
  entry_now = twin_record f.disk f.twin entry.read_only can.origin

  abbrev before : Leaving
  before = StoreLeaves g a

  abbrev was : List Disk
  was = disks (store_content g a)

  abbrev then : List Disk
  then = disks_next was (store_shape g a m) (forking f.disk f.twin entry.read_only)

  abbrev rest : Held
  rest = at_rest (reads (g.area a))

  might : MayShow s before was
  might = might_show g can.session.usable told

  abbrev table_1 : VolumeTable
  table_1 = tables.table_1 s t (known m) f.disk f.twin entry.read_only can.session.orderly can.session.tidy can.allowed sectors own twins can.extents (twin_uuid can)

  abbrev table_2 : VolumeTable
  table_2 = tables.table_2 s t (known m) f.disk f.twin entry.read_only can.session.orderly can.session.tidy can.allowed sectors own twins can.extents (twin_uuid can)

  abbrev table_3 : VolumeTable
  table_3 = tables.table_3 s t (known m) f.disk f.twin entry.read_only can.session.orderly can.session.tidy can.allowed sectors own twins can.extents (twin_uuid can)

  abbrev table_4 : VolumeTable
  table_4 = tables.table_4 s t (known m) f.disk f.twin entry.read_only can.session.orderly can.session.tidy can.allowed sectors own twins can.extents (twin_uuid can)

  abbrev table_5 : VolumeTable
  table_5 = tables.table_5 s t (known m) f.disk f.twin entry.read_only can.session.orderly can.session.tidy can.allowed sectors own twins can.extents (twin_uuid can)

  abbrev table_6 : VolumeTable
  table_6 = tables.table_6 s t (known m) f.disk f.twin entry.read_only can.session.orderly can.session.tidy can.allowed sectors own twins can.extents (twin_uuid can)

  abbrev table_7 : VolumeTable
  table_7 = tables.table_7 s t (known m) f.disk f.twin entry.read_only can.session.orderly can.session.tidy can.allowed sectors own twins can.extents (twin_uuid can)

  abbrev table_8 : VolumeTable
  table_8 = tables.table_8 s t (known m) f.disk f.twin entry.read_only can.session.orderly can.session.tidy can.allowed sectors own twins can.extents (twin_uuid can)

  -- ---- among the first commits

  abbrev Moment : VolumeTable → Name → Bool → Type 0
  Moment = IsMomentTable s t (known m) f.disk f.twin entry.read_only can.session.orderly can.session.tidy can.allowed (g.area a) ready k_now can.origin (placed can)

  abbrev Area : VolumeTable → Name → Bool → Held → Type 0
  Area = IsMomentArea s t (known m) f.disk f.twin entry.read_only can.session.orderly can.session.tidy can.allowed (g.area a) ready k_now can.origin (placed can)

  abbrev Fine : VolumeTable → Held → Type 0
  Fine v area = IsFine (ShowsBetween s before was then (known m).logs) (record { site = s; table = v; area = area })

  moment_fine : (v : VolumeTable) (n : Name) (written : Bool) (area : Held) → Moment v n written → Area v n written area → Fine v area
  moment_fine v n written area h x = safe_fine (known m).logs then
      (moment_safe s t (known m) f.disk f.twin entry.read_only can.session.orderly can.session.tidy can.allowed (g.area a) ready k_now can.origin (placed can) can.kept_up v n written area before h x might)
      (moment_logged s t (known m) f.disk f.twin entry.read_only can.session.orderly can.session.tidy can.allowed (g.area a) ready k_now can.origin (placed can) v n written area h.same x)

  front_fine : (v : VolumeTable) (n : Name) → Moment v n false → Fine v rest
  front_fine v n h = moment_fine v n false rest h (area_front s t (known m) f.disk f.twin entry.read_only can.session.orderly can.session.tidy can.allowed (g.area a) ready k_now can.origin (placed can) v n h.same)

  -- ---- what it makes

  abbrev own_image : Body
  own_image = base_body fork_now (own_of s t (known m) f.disk f.twin entry.read_only can.session.orderly can.session.tidy can.allowed).row.image

  many : length own ≡ wanted (store_shape g a m) (is_rw (attached_as f.disk (store_shape g a m))) (sectors_of (tree_row m.tree.rows fork_now.own))
  many = can.extents.own_many ∙ ap (λ (y : Fork). wanted (store_shape g a m) (is_rw (attached_as f.disk (store_shape g a m))) (sectors_of (tree_row m.tree.rows y.own))) can.fork

  right : IsRecord entry_now
  right = subst IsRecord can.entry_is can.proper

  module _ (now : ℕ) where
    abbrev calls : List Call
    calls = fork_calls s t fork_now own twins now own_image k_now entry_now

    abbrev memory_then : (used : Attached) → IsUsedAs fork_now m.attached used → Known
    memory_then used uses = known_then s t (known m) f.disk f.twin entry.read_only can.session.orderly can.session.tidy can.allowed now (length own)
        (length twins) k_now can.origin (placed can) can.recorded many can.extents.twin_many used uses.disks

    -- ---- among the last commits

    module _ (area : Held) (did : IsBesideFork s table_5 fork_now rest area k_now entry_now) where
      fine_5 : Fine table_5 area
      fine_5 =
          let h = moment_5 s t (known m) f.disk f.twin entry.read_only can.session.orderly can.session.tidy can.allowed can.kept_up sectors own twins can.extents (twin_uuid can) (g.area a) ready k_now can.origin (placed can) in
          moment_fine table_5 (base_name fork_now) false area h (area_fill s t (known m) f.disk f.twin entry.read_only can.session.orderly can.session.tidy can.allowed (g.area a) ready k_now can.origin (placed can) table_5 area h.same did)

      module _ (done : IsFilled s table_5 (child_head s.geometry f.disk now (base_uuid (table_5.sequence - 1)) own_image) (child_head s.geometry f.twin now (base_uuid table_5.sequence) own_image) k_now entry_now rest area) where
        filled : IsFilled s table_5 (child_head s.geometry f.disk now (own_uid t) own_image) (child_head s.geometry f.twin now (twin_uid t) own_image) k_now entry_now rest area
        filled =
            let number = (tables.stage_5 s t (known m) f.disk f.twin entry.read_only can.session.orderly can.session.tidy can.allowed sectors own twins can.extents (twin_uuid can)).number in
            subst₂ (λ (i j : List ℕ). IsFilled s table_5 (child_head s.geometry f.disk now i own_image) (child_head s.geometry f.twin now j own_image) k_now entry_now rest area)
            (ap base_uuid (omega (arith, number))) (ap base_uuid number) done

        abbrev end : Held
        end = at_rest (reads area)

        fine_6 : Fine table_6 end
        fine_6 = moment_fine table_6 (base_name fork_now) true end
            (moment_6 s t (known m) f.disk f.twin entry.read_only can.session.orderly can.session.tidy can.allowed can.kept_up sectors own twins can.extents (twin_uuid can) (g.area a) ready k_now can.origin (placed can))
            (ended.area_6 s t (known m) f.disk f.twin entry.read_only can.session.orderly can.session.tidy can.allowed can.kept_up sectors own twins can.extents (twin_uuid can)
            (g.area a) ready k_now can.origin (placed can) now area did filled)

        fine_7 : Fine table_7 end
        fine_7 = moment_fine table_7 (base_name fork_now) true end
            (moment_7 s t (known m) f.disk f.twin entry.read_only can.session.orderly can.session.tidy can.allowed can.kept_up sectors own twins can.extents (twin_uuid can) (g.area a) ready k_now can.origin (placed can))
            (ended.area_7 s t (known m) f.disk f.twin entry.read_only can.session.orderly can.session.tidy can.allowed can.kept_up sectors own twins can.extents (twin_uuid can)
            (g.area a) ready k_now can.origin (placed can) now area did filled)

        module _ (used : Attached) (uses : IsUsedAs fork_now m.attached used) where
          orderly_8 : IsOrderly s table_8 (memory_then used uses)
          orderly_8 = orderly_then s t (known m) f.disk f.twin entry.read_only can.session.orderly can.session.tidy can.allowed can.kept_up now k_now can.origin (placed can) can.recorded own twins many can.extents.twin_many
              used uses table_8 (forked_table s t (known m) f.disk f.twin entry.read_only can.session.orderly can.session.tidy can.allowed sectors own twins can.extents (twin_uuid can)) (tables.stage_8 s t
              (known m) f.disk f.twin entry.read_only can.session.orderly can.session.tidy can.allowed sectors own twins can.extents (twin_uuid can)).number

          last_ready : IsReadyWith (memory_then used uses) then (record { site = s; table = table_8; area = end })
          last_ready = record {
            ready = ended.ready_ended s t (known m) f.disk f.twin entry.read_only can.session.orderly can.session.tidy can.allowed can.kept_up sectors own twins can.extents (twin_uuid can)
                (g.area a) ready k_now can.origin (placed can) now area did filled right (memory_then used uses) refl refl refl refl;
            settled = λ p. refl;
            shown = ended.disks_ended s t (known m) f.disk f.twin entry.read_only can.session.orderly can.session.tidy can.allowed can.kept_up sectors own twins can.extents (twin_uuid can)
                (g.area a) ready k_now can.origin (placed can) now area did filled right can.recorded;
          }

          last_fine : Fine table_8 end
          last_fine = ready_fine s table_8 (memory_then used uses) (reads area) before was then orderly_8 last_ready.ready last_ready.shown

    -- ---- each moment is fine

    module _ (used : Attached) (uses : IsUsedAs fork_now m.attached used) where
      well : GoesWell (ShowsBetween s before was then (known m).logs) (IsReadyWith (memory_then used uses) then) (stored g a) calls
      well = record {
        first = safe_fine (known m).logs then (ready_safe s t (g.area a) (known m) before can.session.orderly ready (λ image is. inr (told, can.session.usable, is)))
            (logged_left (holds_ready s t (g.area a) (known m) can.session.orderly ready) can.session.orderly.table);
        next = (
          front_fine table_1 fork_now.own (moment_1 s t (known m) f.disk f.twin entry.read_only can.session.orderly can.session.tidy can.allowed can.kept_up sectors own twins can.extents (twin_uuid can)
              (g.area a) ready k_now can.origin (placed can)),
          (
            front_fine table_2 (base_name fork_now) (moment_2 s t (known m) f.disk f.twin entry.read_only can.session.orderly can.session.tidy can.allowed can.kept_up sectors own twins can.extents
                (twin_uuid can) (g.area a) ready k_now can.origin (placed can)),
            (
              front_fine table_3 (base_name fork_now) (moment_3 s t (known m) f.disk f.twin entry.read_only can.session.orderly can.session.tidy can.allowed can.kept_up sectors own twins can.extents
                  (twin_uuid can) (g.area a) ready k_now can.origin (placed can)),
              (
                front_fine table_4 (base_name fork_now) (moment_4 s t (known m) f.disk f.twin entry.read_only can.session.orderly can.session.tidy can.allowed can.kept_up sectors own twins can.extents
                    (twin_uuid can) (g.area a) ready k_now can.origin (placed can)),
                (
                  front_fine table_5 (base_name fork_now) (moment_5 s t (known m) f.disk f.twin entry.read_only can.session.orderly can.session.tidy can.allowed can.kept_up sectors own twins can.extents
                      (twin_uuid can) (g.area a) ready k_now can.origin (placed can)),
                  (
                    λ area did. fine_5 area did,
                    λ area did done. (fine_6 area did done, (fine_7 area did done, (last_fine area did done used uses, last_ready area did done used uses))),
                  ),
                ),
              ),
            ),
          ),
        );
      }

    -- ---- over the store

    module _ (image : Body) (row : TreeRow) (at : tree_row m.tree.rows f.own ≡ Some row) (over : image ≡ base_body f row.image) where
      image_is : image ≡ own_image
      image_is =
          over ∙ ap₂ (λ (y : Fork) (r : TreeRow). base_body y r.image) can.fork
          (same_Some row (own_of s t (known m) f.disk f.twin entry.read_only can.session.orderly can.session.tidy can.allowed).row (sym at ∙ ap (λ (y : Fork). tree_row m.tree.rows y.own) can.fork
          ∙ found s t (known m) f.disk f.twin entry.read_only can.session.orderly can.session.tidy can.allowed))

      run_now : {z : S} {ok : Type 0} → DoesRun g (fork_calls s t f own twins now image k_now entry) a z ok → DoesRun g calls a z ok
      run_now {z} {ok} run = subst (λ (r : Record). DoesRun g (fork_calls s t fork_now own twins now own_image k_now r) a z ok) can.entry_is
          (subst₂ (λ (y : Fork) (x : Body). DoesRun g (fork_calls s t y own twins now x k_now entry) a z ok) can.fork image_is run)

      -- one of the calls failed
      pub fork_failed : {z : S} (n : Known) → n.logs ≡ (known m).logs → (ok : Type 0) → (ok → ⊥) → DoesRun g (fork_calls s t f own twins now image k_now entry) a z ⊥ → HasDoneFrom s (tab g z) (g.area z) n before (StoreLeaves g z) ok was then
      fork_failed n same ok never run = law_run n told (run_now run) (well (used_as fork_now m.attached)
          (is_used_as fork_now m.attached (base_not_leaf s t (known m) f.disk f.twin entry.read_only can.session.orderly can.session.tidy can.allowed)
          (base_not_own s t (known m) f.disk f.twin entry.read_only can.session.orderly can.session.tidy can.allowed))) same (λ fine. absurd (never fine))

      -- all of them succeeded: the store is ready, and shows the machine's disks
      pub fork_done : {z : S} (n : Memory) (ok : Type 0) → DoesRun g (fork_calls s t f own twins now image k_now entry) a z (Unit {0})
          → (memory : IsForkedMemory s t m n f (length own) (length twins) entry now) → HasDoneFrom s (tab g z) (g.area z) (known n) before (StoreLeaves g z) ok was then
      fork_done n ok run memory =
          let is = known_is can n now run.site (run.table tt) memory in
          law_run (known n) told (run_now run) (well n.attached (subst (λ (x : Fork). IsUsedAs x m.attached n.attached) can.fork memory.uses)) (ap (λ (k : Known). k.logs) is) (λ fine. (tt, is))
