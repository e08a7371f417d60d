-- A chain of calls of a store, as a command makes it: what a stop leaves at each moment of it, by what its commits and its
-- writes leave. A commit may keep the disks, or be the one that changes them.
use Rattle.std.proofs.Common.{◌≡◌, ◌≢◌, inl, inr, ⊎_elim, ℕ, ◌<◌, false, List, Result, Ok, Err, refl, sym, ap, ap₂, ◌∙◌, subst, subst₂, arith}
use Rattle.std.proofs.lemmas.Bool.{true≢false}
use Rattle.std.specs.Result.{IsErr}
use Rattle.sm_base.specs.declared.names.Name.{Name}
use Rattle.sm_disk.specs.Held.{Held, reads}
use Rattle.sm_disk.proofs.HeldLaws.{May-reads}
use Rattle.vg_meta.specs.Roomy.{table_alone}
use Rattle.vg_meta.specs.Tables.{VolumeTable, IsTable, extents_of, rows}
use Rattle.vg_meta.specs.Changes.{applied}
use Rattle.vg_meta.specs.declared.changes.Change.{Change}
use Rattle.vg_volumes.specs.Commits.{IsBefore, IsEither}
use Rattle.vg_volumes.proofs.StoredLaws.{beside_in, did_in, stays_none}
use Rattle.vg_volumes.specs.Volumes.{SameElsewhere}
use Rattle.vg_volumes.specs.Sites.{Site, area_size, volume_of}
use Rattle.vg_volumes.specs.Stored.{Stored, stored, OnlyReads, Writes, Commits, FailsToCommit, IsChoiceOf, IsEitherOf}
use Rattle.vg_volumes.specs.declared.stores.Store.{Ghosts}
use Rattle.sm_machine.specs.Disks.{Disk}
use Rattle.sm_run.specs.Between.{IsBetween}
use Rattle.sm_standing.specs.Keeping.{IsKept}
use Rattle.sm_standing.specs.Logs.{IsLogged}
use Rattle.sm_standing.specs.Standing.{disks}
use Rattle.sm_standing.proofs.WorldLaws.{other_floor, other_pending}
use Rattle.sm_ready.specs.Done.{HasDone, HasDoneFrom, IsCommit}
use Rattle.sm_ready.specs.Known.{Known, known}
use Rattle.sm_ready.specs.Ready.{IsReady}
use Rattle.sm_ready.specs.Sessions.{IsReadyStore}
use Rattle.sm_ready.specs.declared.memory.Memory.{Memory}
use Rattle.sm_ready.specs.Stores.{Leaving, MayShow, StoreLeaves, content_in, store_content}
use Rattle.sm_ready.proofs.CommitLaws.{IsSafe}
use Rattle.sm_ready.proofs.LeaveLaws.{left_commit, left_choice}
use Rattle.sm_ready.proofs.LeftLaws.{IsLeft}
use Rattle.sm_ready.proofs.TakenLaws.{held_same}

abbrev pub tab : {S : Type 0} → Ghosts S → S → VolumeTable
tab g x = table_alone (g.table x)

-- what failed did not succeed
pub err_not_ok : {T E : Type 0} (r : Result T E) (x : T) → IsErr r → r ≡ Ok x → ⊥
err_not_ok (Ok y) x h e = (let z = h in cc)
err_not_ok (Err y) x h e = (let z = e in cc)

-- ---- what a stop shows

-- a call that did not succeed owes what a stop leaves, and no more
pub only_crash : {s : Site} {u : VolumeTable} {new : Held} {m : Known} {before leaves : Leaving} {ok : Type 0} {was ds : List Disk} → (ok → ⊥)
    → ((v : VolumeTable) (image : ℕ → List ℕ) → leaves v image → IsKept (content_in s v image) × IsBetween (MayShow s before) was ds (disks (content_in s v image)))
    → ((v : VolumeTable) (image : ℕ → List ℕ) → leaves v image → IsLogged (content_in s v image) m.logs)
    → HasDoneFrom s u new m before leaves ok was ds
only_crash never crash logged = record { ready = λ fine. absurd (never fine); settled = λ fine. absurd (never fine); shown = λ fine. absurd (never fine); crash = crash; logged = logged }

-- the disks from before, still there, are so whatever comes after
pub still_before : {s : Site} {before : Leaving} {was : List Disk} (ds now : List Disk) → MayShow s before was → IsBetween (MayShow s before) was was now → IsBetween (MayShow s before) was ds now
still_before ds now might (inl still) = inl still
still_before {was = was} ds now might (inr already) = inl (record {
  faces = already.faces;
  sectors = λ u k bytes h. ⊎_elim (λ (had : _). had) (λ has. (was, might, has)) (already.sectors u k bytes h);
})

-- and where more might have been left
pub wider_between : {s : Site} {few more : Leaving} → ((v : VolumeTable) (image : ℕ → List ℕ) → few v image → more v image) → {was ds now : List Disk}
    → IsBetween (MayShow s few) was ds now → IsBetween (MayShow s more) was ds now
wider_between {s} {few} {more} wider = ⊎_elim
    (λ still. inl (record { faces = still.faces; sectors = λ u k bytes h. let w = still.sectors u k bytes h in (w.0, shown w.0 w.1, w.2) }))
    (λ already. inr (record { faces = already.faces; sectors = λ u k bytes h. ⊎_elim (λ w. inl (w.0, shown w.0 w.1, w.2)) (λ w. inr w) (already.sectors u k bytes h) }))
  where
    shown : (ds : List Disk) → MayShow s few ds → MayShow s more ds
    shown ds m = record { table = m.table; image = m.image; left = wider m.table m.image m.left; shown = m.shown }

module _ {S : Type 0} (g : Ghosts S) where
  -- what a read gives might have been left
  pub might_show : {a : S} → g.failed a ≡ false → g.told → MayShow (g.site a) (StoreLeaves g a) (disks (store_content g a))
  might_show {a} usable told = record {
    table = tab g a;
    image = reads (g.area a);
    left = inr (told, usable, record { table_is = refl; sectors = λ p below. May-reads (g.area a) p });
    shown = refl;
  }

  -- ---- a commit, told at a site and a table

  pub commit_made : {d x : S} {s : Site} {t : VolumeTable} (change : Change) (ok : Type 0) → g.site d ≡ s → tab g d ≡ t → g.told → Commits g change d x
      → ((v : VolumeTable) (image : ℕ → List ℕ) → g.leaves x v image → IsEitherOf (stored g d) change v image) → IsCommit s t (applied t change) (g.area d) (g.area x) (StoreLeaves g x) ok
  commit_made {d} {x} change ok site table told c crash =
      subst₂ (λ y z. IsCommit y z (applied z change) (g.area d) (g.area x) (StoreLeaves g x) ok) (c.site ∙ site) table
      (left_commit g.told (g.site x) (tab g d) (applied (tab g d) change) (tab g x) (g.area d) (g.area x) (g.leaves x) (g.failed x) ok (c.keeps told) (λ _. c.settled told) (λ _. (c.table, c.settled told))
      (λ v image l. subst (λ y. IsEither (area_size y) (tab g d) (applied (tab g d) change) (g.area d) v image) (sym c.site) (crash v image l)))

  pub commit_failed : {d x : S} {s : Site} {t : VolumeTable} (change : Change) (ok : Type 0) → (ok → ⊥) → g.site d ≡ s → tab g d ≡ t → g.told → FailsToCommit g d x
      → ((v : VolumeTable) (image : ℕ → List ℕ) → g.leaves x v image → IsEitherOf (stored g d) change v image) → IsCommit s t (applied t change) (g.area d) (g.area x) (StoreLeaves g x) ok
  commit_failed {d} {x} change ok never site table told c crash =
      subst₂ (λ y z. IsCommit y z (applied z change) (g.area d) (g.area x) (StoreLeaves g x) ok) (c.site ∙ site) table
      (left_commit g.told (g.site x) (tab g d) (applied (tab g d) change) (tab g x) (g.area d) (g.area x) (g.leaves x) (g.failed x) ok (c.keeps told) (λ fine. absurd (never fine)) (λ e. absurd (true≢false (sym c.stuck ∙ e)))
      (λ v image l. subst (λ y. IsEither (area_size y) (tab g d) (applied (tab g d) change) (g.area d) v image) (sym c.site) (crash v image l)))

  -- ---- between two commits: a stop at a safe moment

  pub stopped_at : {x : S} {s : Site} {t : VolumeTable} {before : Leaving} {was : List Disk} (n : Known) (ok : Type 0) (ds : List Disk) → (ok → ⊥) → g.site x ≡ s → tab g x ≡ t → IsSafe s t (g.area x) before was
      → ((image : ℕ → List ℕ) → IsLeft s (g.area x) image → IsLogged (content_in s t image) n.logs) → ((v : VolumeTable) (image : ℕ → List ℕ) → g.leaves x v image → IsChoiceOf (stored g x) v image) → HasDoneFrom s (tab g x) (g.area x) n before (StoreLeaves g x) ok was ds
  stopped_at {x} {s} {t} {before} {was} n ok ds never site table safe logged choice = only_crash never
      (λ v image l. let at = here v image l in
      subst (λ y. IsKept (content_in s y image) × IsBetween (MayShow s before) was ds (disks (content_in s y image))) (sym at.table_is) (safe.kept image at.sectors, inl (safe.shown image at.sectors)))
      (λ v image l. let at = here v image l in subst (λ y. IsLogged (content_in s y image) n.logs) (sym at.table_is) (logged image at.sectors))
    where
      here : (v : VolumeTable) (image : ℕ → List ℕ) → StoreLeaves g x v image → IsBefore (area_size s) t (g.area x) v image
      here v image l = subst₂ (λ y z. IsBefore (area_size y) z (g.area x) v image) site table (left_choice g.told (g.site x) (tab g x) (g.area x) (g.leaves x) (g.failed x) choice v image l)

module _ {S : Type 0} {g : Ghosts S} where
  -- ---- in front of it: a call that only read

  -- site, table and area are as they were
  pub stored_same : {a p : S} → OnlyReads g a p → g.area p ≡ g.area a → stored g p ≡ stored g a
  stored_same {a} {p} reads area =
      ap (λ (s : Site). let x : Stored = record { site = s; table = tab g p; area = g.area p } in x) reads.stays.site
      ∙ ap₂ (λ (t : VolumeTable) (h : Held). let x : Stored = record { site = g.site a; table = t; area = h } in x) reads.stays.table area

  pub ready_read : {a p : S} (m : Memory) → OnlyReads g a p → g.area p ≡ g.area a → IsReadyStore g a m → IsReadyStore g p m
  ready_read m reads area ready = subst (λ (x : Stored). IsReady x.site x.table x.area (known m)) (sym (stored_same reads area)) ready

  -- what was done behind it was done from before it
  pub done_behind : {a p : S} {u : VolumeTable} {new : Held} {n : Known} {leaves : Leaving} {ok : Type 0} (fine : Type 0) (ds : Stored → List Disk) → OnlyReads g a p → g.area p ≡ g.area a
      → ((t : VolumeTable) (image : ℕ → List ℕ) → g.leaves p t image → g.leaves a t image) → (fine → ok)
      → HasDone (g.site p) (tab g p) u (g.area p) new n (StoreLeaves g p) leaves ok (ds (stored g p)) → HasDone (g.site a) (tab g a) u (g.area a) new n (StoreLeaves g a) leaves fine (ds (stored g a))
  done_behind {a} {p} {u} {new} {n} {leaves} {ok} fine ds reads area fewer passes done =
      let told = subst (λ (x : Stored). HasDone x.site x.table u x.area new n (StoreLeaves g p) leaves ok (ds x)) (stored_same reads area) done in
      record {
        ready = λ f. told.ready (passes f);
        settled = λ f. told.settled (passes f);
        shown = λ f. told.shown (passes f);
        crash = λ v image l. let c = told.crash v image l in (c.0, wider_between before c.1);
        logged = told.logged;
      }
    where
      before : (v : VolumeTable) (image : ℕ → List ℕ) → StoreLeaves g p v image → StoreLeaves g a v image
      before v image l = ⊎_elim (λ h. inl (fewer v image h)) (λ w. inr (w.0, sym reads.stays.failed ∙ w.1, subst (λ (x : Stored). IsChoiceOf x v image) (stored_same reads area) w.2)) l

-- ---- writes to one volume leave what each other holds

pub volume_other : (s : Site) (t : VolumeTable) (old new : Held) (name n : Name) → IsTable s.count t → SameElsewhere s.geometry.extent (extents_of (rows t name)) old new → n ≢ name → volume_of s t new n ≡ volume_of s t old n
volume_other s t old new name n table same other =
    let some : 0 < s.geometry.extent = omega (arith, s.geometry.in_range.extent_least) in
    held_same (volume_of s t old n) (volume_of s t new n) (record {
      floor = other_floor s.geometry.extent s.count t old new name n table some same other;
      pending = other_pending s.geometry.extent s.count t old new name n table some same other;
    })

-- two volumes are written, one after the other: each holds what its own writes did
pub writes_both : {S : Type 0} {g : Ghosts S} {a b d : S} {n m : Name} {P Q : Held → Held → Type 0} → IsTable (g.site a).count (tab g a) → n ≢ m → Writes g n P a b → Writes g m Q b d → g.told
    → P (volume_of (g.site a) (tab g a) (g.area a) n) (volume_of (g.site a) (tab g a) (g.area d) n) × Q (volume_of (g.site a) (tab g a) (g.area a) m) (volume_of (g.site a) (tab g a) (g.area d) m)
writes_both {g = g} {a} {b} {d} {n} {m} {P} {Q} table other first second told = (
  subst (P (volume_of (g.site a) (tab g a) (g.area a) n)) (sym (volume_other (g.site a) (tab g a) (g.area b) (g.area d) m n table (beside_in first.stays second told) other)) (did_in (stays_none a) first told),
  subst (λ x. Q x (volume_of (g.site a) (tab g a) (g.area d) m)) (volume_other (g.site a) (tab g a) (g.area a) (g.area b) n m table (first.beside told) (λ e. other (sym e))) (did_in first.stays second told),
)
