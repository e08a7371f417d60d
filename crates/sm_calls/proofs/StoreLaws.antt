-- Runs of a store: one call, runs in two parts, what they ask in their turn, and what a command shows of its run.
use Rattle.std.proofs.Common.{refl, ◌≡◌, inl, inr, ⊎_elim, ℕ, false, List, [], ◌∷◌, ◌++◌, length, sym, ap, ap₂, ◌∙◌, subst, subst₂, arith}
use Rattle.std.proofs.lemmas.Bool.{true≢false}
use Rattle.std.proofs.lemmas.List.{append_assoc, length-append}
use Rattle.sm_disk.specs.Held.{Held, IsSettled, Keeps}
use Rattle.sm_disk.proofs.HeldLaws.{Keeps-then, Allows-keeps}
use Rattle.vg_meta.specs.Tables.{VolumeTable}
use Rattle.vg_meta.specs.Changes.{applied}
use Rattle.vg_meta.specs.Roomy.{places}
use Rattle.vg_meta.specs.declared.changes.Change.{Change}
use Rattle.vg_volumes.specs.Sites.{Site, area_size}
use Rattle.vg_volumes.specs.Stored.{CanCommit, Commits, FailsToCommit, IsChoiceOf, IsEitherOf, Stays, Stored, stored}
use Rattle.vg_volumes.specs.declared.stores.Store.{Ghosts}
use Rattle.sm_log.specs.Logs.{Log}
use Rattle.sm_machine.specs.Disks.{Disk}
use Rattle.sm_standing.specs.Logs.{IsLogged}
use Rattle.sm_standing.specs.Standing.{disks}
use Rattle.sm_standing.specs.Opened.{applied_all}
use Rattle.sm_ready.specs.Done.{HasDoneFrom, at_rest}
use Rattle.sm_ready.specs.Framing.{StepsOn}
use Rattle.sm_ready.specs.Known.{Known}
use Rattle.sm_ready.specs.Orderly.{IsOrderly}
use Rattle.sm_ready.specs.Ready.{IsReady}
use Rattle.sm_ready.specs.Runs.{AllMay, committed}
use Rattle.sm_ready.specs.Stores.{Leaving, MayShow, StoreLeaves, content_in, content_now}
use Rattle.sm_ready.proofs.ChainLaws.{tab}
use Rattle.sm_ready.proofs.CommitLaws.{IsSafe, already, law_settled, rested, volume_rested}
use Rattle.sm_ready.proofs.KeptLaws.{law_kept}
use Rattle.sm_ready.proofs.LeaveLaws.{left_choice}
use Rattle.sm_ready.proofs.LeftLaws.{IsLeft, left_in, ready_places}
use Rattle.sm_ready.proofs.LogLaws.{holds_ready, logged_left}
use Rattle.sm_ready.proofs.RoomLaws.{rows_commits, rows_stays}
use Rattle.sm_ready.proofs.RunLaws.{applied_append, may_back, may_front}
use Rattle.sm_calls.specs.Calls.{Call, CanRun, Commit, DoesRun, GoesOn, GoesWell, IsSoFar, RoomFor, IsAmong, IsFine, IsReadyWith, Settle, ShowsBetween, Work, changes, worked}
use Rattle.sm_calls.proofs.CallLaws.{among_behind, among_front, changes_append, commits_back, commits_front, few_among, law_among, law_end, no_lower_among, ran_then}
use Rattle.sm_calls.proofs.SpareLaws.{more_room, room_for, room_front}

-- what the trait says of a commit
either : (x : Stored) (c : Change) (t : VolumeTable) (image : ℕ → List ℕ) → IsEitherOf x c t image → IsAmong x (Commit c ∷ []) t image
either x c t image (inl before) = inl before
either x c t image (inr after) = inr (record { table_is = after.table_is; sectors = λ p below. inl (after.sectors p below) })

long : (xs ys : List Call) → length (changes (xs ++ ys)) ≡ length (changes xs ++ changes ys)
long xs ys = ap (λ (cs : List Change). length cs) (changes_append xs ys)

module _ {S : Type 0} {g : Ghosts S} where
  -- ---- one call

  stored_commits : {a b : S} {c : Change} → g.told → Commits g c a b → stored g b ≡ committed (stored g a) c
  stored_commits {a} {b} {c} told made =
      ap₂ (λ (s : Site) (t : VolumeTable). let x : Stored = record { site = s; table = t; area = g.area b } in x) made.site made.table
      ∙ ap (λ (h : Held). let x : Stored = record { site = g.site a; table = applied (tab g a) c; area = h } in x) (rested (g.area a) (g.area b) (made.keeps told) (made.settled told))

  pub run_commits : {a b : S} {c : Change} → CanCommit g c a → Commits g c a b → (g.told → (t : VolumeTable) (image : ℕ → List ℕ) → g.leaves b t image → IsEitherOf (stored g a) c t image)
      → DoesRun g (Commit c ∷ []) a b (Unit {0})
  run_commits {a} {b} {c} can made crash = record {
    site = made.site;
    faults = made.faults;
    few = omega (arith, ap (λ (t : VolumeTable). t.sequence) made.table);
    no_lower = omega (arith, ap (λ (t : VolumeTable). t.sequence) made.table);
    beside = made.beside;
    left = λ told t image l. ⊎_elim (λ k. either (stored g a) c t image (crash told t image k)) (λ w. inr (subst (λ x. IsChoiceOf x t image) (stored_commits told made) w.2)) l;
    keeps = λ all. made.keeps;
    stuck = λ all never. absurd (never tt);
    table = λ ok. made.table;
    usable = λ ok. made.usable;
    room = λ ok cs room. more_room cs _ _ _ _ made.room.spare_rows made.room.spare_extents room.1;
    rows = λ ok had. rows_commits can made had;
    ran = λ ok told. stored_commits told made;
  }

  pub run_fails : {a b : S} {c : Change} → FailsToCommit g a b → (g.told → (t : VolumeTable) (image : ℕ → List ℕ) → g.leaves b t image → IsEitherOf (stored g a) c t image) → DoesRun g (Commit c ∷ []) a b ⊥
  run_fails {a} {b} {c} fails crash = record {
    site = fails.site;
    faults = fails.faults;
    few = omega (arith, ap (λ (t : VolumeTable). t.sequence) fails.table);
    no_lower = omega (arith, ap (λ (t : VolumeTable). t.sequence) fails.table);
    beside = fails.beside;
    left = λ told t image l. ⊎_elim (λ k. either (stored g a) c t image (crash told t image k)) (λ w. absurd (true≢false (sym fails.stuck ∙ w.1))) l;
    keeps = λ all. fails.keeps;
    stuck = λ all never. fails.stuck;
    table = λ ok. absurd ok;
    usable = λ ok. absurd ok;
    room = λ ok. absurd ok;
    rows = λ ok. absurd ok;
    ran = λ ok. absurd ok;
  }

  -- the store behind calls that commit nothing
  stored_stays : {a b : S} → Stays g a b → stored g b ≡ worked (stored g a) (g.area b)
  stored_stays {a} {b} stays = ap₂ (λ (s : Site) (t : VolumeTable). let x : Stored = record { site = s; table = t; area = g.area b } in x) stays.site stays.table

  choice_left : {a b : S} → Stays g a b → g.told → ((t : VolumeTable) (image : ℕ → List ℕ) → g.leaves b t image → IsChoiceOf (stored g b) t image) → (t : VolumeTable) (image : ℕ → List ℕ) → StoreLeaves g b t image
      → IsChoiceOf (worked (stored g a) (g.area b)) t image
  choice_left {a} {b} stays told now t image l =
      subst (λ x. IsChoiceOf x t image) (stored_stays stays) (left_choice g.told (g.site b) (tab g b) (g.area b) (g.leaves b) (g.failed b) now t image l)

  pub run_works : {a b : S} {did done : Held → Held → Type 0} {ok : Type 0} → g.failed a ≡ false → Stays g a b → (g.told → did (g.area a) (g.area b)) → (ok → g.told → done (g.area a) (g.area b))
      → (g.told → (t : VolumeTable) (image : ℕ → List ℕ) → g.leaves b t image → IsChoiceOf (stored g b) t image) → DoesRun g (Work did done ∷ []) a b ok
  run_works {a} {b} usable stays did done now = record {
    site = stays.site;
    faults = stays.faults;
    few = omega (arith, ap (λ (t : VolumeTable). t.sequence) stays.table);
    no_lower = omega (arith, ap (λ (t : VolumeTable). t.sequence) stays.table);
    beside = stays.beside;
    left = λ told t image l. inr (g.area b, did told, inl (choice_left stays told (now told) t image l));
    keeps = λ all. absurd all;
    stuck = λ all. absurd all;
    table = λ ok. stays.table;
    usable = λ ok. stays.failed ∙ usable;
    room = λ ok cs room. more_room cs _ _ _ _ stays.room.spare_rows stays.room.spare_extents room;
    rows = λ ok had. rows_stays stays had;
    ran = λ ok told. (g.area b, did told, done ok told, stored_stays stays);
  }

  pub run_settles : {a b : S} {ok : Type 0} → g.failed a ≡ false → Stays g a b → (g.told → Keeps (g.area a) (g.area b)) → (ok → g.told → IsSettled (g.area b))
      → (g.told → (t : VolumeTable) (image : ℕ → List ℕ) → g.leaves b t image → IsChoiceOf (stored g b) t image) → DoesRun g (Settle ∷ []) a b ok
  run_settles {a} {b} usable stays keeps still now = record {
    site = stays.site;
    faults = stays.faults;
    few = omega (arith, ap (λ (t : VolumeTable). t.sequence) stays.table);
    no_lower = omega (arith, ap (λ (t : VolumeTable). t.sequence) stays.table);
    beside = stays.beside;
    left = λ told t image l. let i = choice_left stays told (now told) t image l in
        inl (record { table_is = i.table_is; sectors = Allows-keeps (area_size (g.site a)) image (keeps told) i.sectors });
    keeps = λ all. absurd all;
    stuck = λ all. absurd all;
    table = λ ok. stays.table;
    usable = λ ok. stays.failed ∙ usable;
    room = λ ok cs room. more_room cs _ _ _ _ stays.room.spare_rows stays.room.spare_extents room;
    rows = λ ok had. rows_stays stays had;
    ran = λ ok told. stored_stays stays ∙ ap (λ (h : Held). worked (stored g a) h) (rested (g.area a) (g.area b) (keeps told) (still ok told));
  }

  -- ---- runs in two parts

  pub run_then : {a b d : S} {first second : Type 0} (xs ys : List Call) → first → DoesRun g xs a b first → DoesRun g ys b d second → DoesRun g (xs ++ ys) a d second
  run_then {a} {b} {d} xs ys came p q = record {
    site = q.site ∙ p.site;
    faults = omega (arith, p.faults, q.faults);
    few = omega (arith, p.few, q.few, long xs ys, length-append (changes xs) (changes ys));
    no_lower = omega (arith, p.no_lower, q.no_lower);
    beside = λ told. Keeps-then (p.beside told) (q.beside told);
    left = λ told t image l. among_behind (stored g a) (stored g b) xs ys t image (p.ran came told) (q.left told t image l);
    keeps = λ all told. Keeps-then (p.keeps (commits_front xs ys all) told) (q.keeps (commits_back xs ys all) told);
    stuck = λ all. q.stuck (commits_back xs ys all);
    table = λ ok. q.table ok ∙ ap (λ t. applied_all t (changes ys)) (p.table came) ∙ sym (applied_append (tab g a) (changes xs) (changes ys)) ∙ ap (applied_all (tab g a)) (sym (changes_append xs ys));
    usable = q.usable;
    room = λ ok cs room. q.room ok cs (p.room came (changes ys ++ cs)
        (subst (λ zs. RoomFor (g.table a).spare (places (g.table a)) zs) (ap (λ zs. zs ++ cs) (changes_append xs ys) ∙ append_assoc (changes xs) (changes ys) cs) room));
    rows = λ ok had. q.rows ok (p.rows came had);
    ran = λ ok told. ran_then (stored g a) (stored g b) (stored g d) xs ys (p.ran came told) (q.ran ok told);
  }

  -- a run that was cut short is the front of a longer one
  pub run_front : {a b : S} (xs ys : List Call) → DoesRun g xs a b ⊥ → DoesRun g (xs ++ ys) a b ⊥
  run_front {a} {b} xs ys p = record {
    site = p.site;
    faults = p.faults;
    few = omega (arith, p.few, long xs ys, length-append (changes xs) (changes ys));
    no_lower = p.no_lower;
    beside = p.beside;
    left = λ told t image l. among_front (stored g a) xs ys t image (p.left told t image l);
    keeps = λ all. p.keeps (commits_front xs ys all);
    stuck = λ all. p.stuck (commits_front xs ys all);
    table = λ ok. absurd ok;
    usable = λ ok. absurd ok;
    room = λ ok. absurd ok;
    rows = λ ok. absurd ok;
    ran = λ ok. absurd ok;
  }

  -- ---- what is asked in its turn

  pub can_commit : {a : S} {c : Change} {cs : List Call} → CanRun g (Commit c ∷ cs) a → CanCommit g c a
  can_commit {a} {c} can = record { usable = can.usable; allowed = can.allowed.0; room = room_for (g.table a) c can.room.0; fits = can.allowed.1 }

  pub can_front : {a : S} (xs ys : List Call) → CanRun g (xs ++ ys) a → CanRun g xs a
  can_front {a} xs ys can = record {
    usable = can.usable;
    allowed = may_front (g.site a).count (tab g a) (changes xs) (changes ys) (subst (AllMay (g.site a).count (tab g a)) (changes_append xs ys) can.allowed);
    room = room_front (changes xs) (changes ys) (g.table a).spare (places (g.table a)) (subst (RoomFor (g.table a).spare (places (g.table a))) (changes_append xs ys) can.room);
  }

  pub can_next : {a b : S} {ok : Type 0} (xs ys : List Call) → ok → CanRun g (xs ++ ys) a → DoesRun g xs a b ok → CanRun g ys b
  can_next {a} {b} xs ys came can run = record {
    usable = run.usable came;
    allowed = subst₂ (λ (s : Site) t. AllMay s.count t (changes ys)) (sym run.site) (sym (run.table came))
        (may_back (g.site a).count (tab g a) (changes xs) (changes ys) (subst (AllMay (g.site a).count (tab g a)) (changes_append xs ys) can.allowed));
    room = run.room came (changes ys) (subst (RoomFor (g.table a).spare (places (g.table a))) (changes_append xs ys) can.room);
  }

  -- ---- what a command shows of its run

  -- what a step says of the store, whatever it holds
  pub run_steps : {a b : S} {calls : List Call} {ok : Type 0} → DoesRun g calls a b ok → StepsOn g (length (changes calls)) a b
  run_steps {a} {b} {calls} run = record {
    site = run.site;
    counts = run.faults;
    beside = run.beside;
    few = run.few;
    few_left = λ told t image l. few_among (stored g a) calls t image (run.left told t image (inl l));
    no_lower = run.no_lower;
    no_lower_left = λ told t image l. no_lower_among (stored g a) calls t image (run.left told t image (inl l));
  }

  -- and what it says of disks and stops
  pub law_run : {a b : S} {calls : List Call} {came ok : Type 0} {was ds : List Disk} {ls : List Log} {n : Known} (k : Known) → g.told → DoesRun g calls a b came
      → GoesWell (ShowsBetween (g.site a) (StoreLeaves g a) was ds ls) (IsReadyWith n ds) (stored g a) calls → k.logs ≡ ls → (ok → came × (k ≡ n))
      → HasDoneFrom (g.site a) (tab g b) (g.area b) k (StoreLeaves g a) (StoreLeaves g b) ok was ds
  law_run {a} {b} {calls} {came} {ok} {was} {ds} {ls} {n} k told run well same by = record {
    ready = λ fine. subst₂ (λ s m. IsReady s (tab g b) (g.area b) m) (run.site) (sym (by fine).1) (end (by fine).0).ready;
    settled = λ fine. (end (by fine).0).settled;
    shown = λ fine. subst (λ s. disks (content_now s (tab g b) (g.area b)) ≡ ds) run.site (end (by fine).0).shown;
    crash = λ v image l. let w = among v image l in (w.0, w.1);
    logged = λ v image l. subst (IsLogged (content_in (g.site a) v image)) (sym same) (let w = among v image l in w.2);
  }
    where
      among : (v : VolumeTable) (image : ℕ → List ℕ) → StoreLeaves g b v image → ShowsBetween (g.site a) (StoreLeaves g a) was ds ls v image
      among v image l = law_among (ShowsBetween (g.site a) (StoreLeaves g a) was ds ls) (IsReadyWith n ds) (stored g a) calls well v image (run.left told v image l)

      end : came → IsReadyWith n ds (stored g b)
      end fine = law_end (ShowsBetween (g.site a) (StoreLeaves g a) was ds ls) (IsReadyWith n ds) (stored g a) (stored g b) calls well (run.ran fine told)

-- ---- moments

pub safe_fine : {s : Site} {t : VolumeTable} {area : Held} {before : Leaving} {was : List Disk} (ls : List Log) (ds : List Disk) → IsSafe s t area before was
    → ((image : ℕ → List ℕ) → IsLeft s area image → IsLogged (content_in s t image) ls) → IsFine (ShowsBetween s before was ds ls) (record { site = s; table = t; area = area })
safe_fine ls ds safe logged image left = (safe.kept image left, inl (safe.shown image left), logged image left)

-- at rest, with a table of which memory is ready
pub ready_fine : (s : Site) (t : VolumeTable) (m : Known) (floor : ℕ → List ℕ) (before : Leaving) (was ds : List Disk) → IsOrderly s t m → IsReady s t (at_rest floor) m → disks (content_now s t (at_rest floor)) ≡ ds
    → IsFine (ShowsBetween s before was ds m.logs) (record { site = s; table = t; area = at_rest floor })
ready_fine s t m floor before was ds o ready is image left = (
  law_kept s t (at_rest floor) m image o ready.firm (left_in s t m (at_rest floor) image o left) (ready_places s t (at_rest floor) m image o ready left),
  inr (already (MayShow s before) ds (disks (content_in s t image)) (law_settled s t (at_rest floor) m image o ready (volume_rested s t floor) left ∙ is)),
  logged_left (holds_ready s t (at_rest floor) m o ready) o.table image left,
)

-- ---- calls of a loop

module _ {S : Type 0} {g : Ghosts S} {a b : S} (Fine : Leaving) (Mid End : Stored → Type 0) (so : IsSoFar g Fine Mid a b) where
  -- so far, each moment is fine, and so is what comes next
  well_now : g.told → (calls : List Call) → ((y : Stored) → Mid y → GoesOn Fine End y calls) → GoesWell Fine End (stored g b) calls
  well_now told calls next = record {
    first = λ image left. so.left told (tab g b) image (inr (told, so.usable, record { table_is = refl; sectors = left }));
    next = next (stored g b) (so.now told);
  }

  pub so_far_then : {d : S} {ok : Type 0} (calls : List Call) → ok → DoesRun g calls b d ok → (g.told → (y : Stored) → Mid y → GoesOn Fine End y calls) → IsSoFar g Fine End a d
  so_far_then {d} calls came run next = record {
    site = run.site ∙ so.site;
    faults = omega (arith, so.faults, run.faults);
    usable = run.usable came;
    beside = λ told. Keeps-then (so.beside told) (run.beside told);
    left = λ told t image l. law_among Fine End (stored g b) calls (well_now told calls (next told)) t image (run.left told t image l);
    now = λ told. law_end Fine End (stored g b) (stored g d) calls (well_now told calls (next told)) (run.ran came told);
  }

  -- and where one of them fails
  pub so_far_cut : {d : S} {ok : Type 0} (calls : List Call) → DoesRun g calls b d ok → (g.told → (y : Stored) → Mid y → GoesOn Fine End y calls) → g.told → (t : VolumeTable) (image : ℕ → List ℕ) → StoreLeaves g d t image → Fine t image
  so_far_cut calls run next told t image l = law_among Fine End (stored g b) calls (well_now told calls (next told)) t image (run.left told t image l)
