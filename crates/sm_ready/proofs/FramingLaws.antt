-- What the calls of a step do to the store, one behind the other, and what a step that wrote nothing leaves of a session.
use Rattle.std.proofs.Common.{◌≡◌, false, inl, inr, ℕ, List, ◌+◌, ◌≤◌, refl, ap, sym, subst, ◌∙◌, arith}
use Rattle.sm_disk.proofs.HeldLaws.{Keeps-then}
use Rattle.vg_meta.specs.Roomy.{table_alone}
use Rattle.vg_meta.specs.Tables.{VolumeTable}
use Rattle.vg_meta.specs.declared.changes.Change.{Change}
use Rattle.vg_volumes.specs.Sites.{Site}
use Rattle.vg_volumes.specs.Stored.{Commits, FailsToCommit, IsChoiceOf, IsEitherOf, Leaves, OnlyReads, Stays, stored}
use Rattle.vg_volumes.specs.declared.stores.Store.{Ghosts}
use Rattle.sm_ready.specs.Framing.{IsBetweenSteps, StepsOn}
use Rattle.sm_ready.specs.Frames.{HasCommits, IsNoLower}
use Rattle.sm_ready.specs.Known.{known}
use Rattle.sm_ready.specs.Orderly.{IsOrderly}
use Rattle.sm_ready.specs.Ready.{IsTidy}
use Rattle.sm_ready.specs.declared.memory.Memory.{Memory}
use Rattle.sm_ready.proofs.FrameLaws.{true_reads}
use Rattle.sm_ready.proofs.RoomLaws.{rows_stays}

-- whatever a commit leaves has one number more at most
left_one : {S : Type 0} (g : Ghosts S) (a b : S) (change : Change) → Leaves g b (IsEitherOf (stored g a) change) → Leaves g b (λ t image. HasCommits 1 (table_alone (g.table a)) t)
left_one g a b change crash = λ told t image l. by t image (crash told t image l)
  where
    by : (t : VolumeTable) (image : ℕ → List ℕ) → IsEitherOf (stored g a) change t image → HasCommits 1 (table_alone (g.table a)) t
    by t image (inl i) = let is = ap (λ (v : VolumeTable). v.sequence) i.table_is in omega (arith, is)
    by t image (inr i) = let is = ap (λ (v : VolumeTable). v.sequence) i.table_is in omega (arith, is)

-- and no number less
left_no_lower : {S : Type 0} (g : Ghosts S) (a b : S) (change : Change) → Leaves g b (IsEitherOf (stored g a) change) → Leaves g b (λ t image. IsNoLower (table_alone (g.table a)) t)
left_no_lower g a b change crash = λ told t image l. by t image (crash told t image l)
  where
    by : (t : VolumeTable) (image : ℕ → List ℕ) → IsEitherOf (stored g a) change t image → IsNoLower (table_alone (g.table a)) t
    by t image (inl i) = let is = ap (λ (v : VolumeTable). v.sequence) i.table_is in omega (arith, is)
    by t image (inr i) = let is = ap (λ (v : VolumeTable). v.sequence) i.table_is in omega (arith, is)

module _ {S : Type 0} {g : Ghosts S} {a b : S} where
  -- a commit
  pub commit_steps : {change : Change} → Commits g change a b → Leaves g b (IsEitherOf (stored g a) change) → StepsOn g 1 a b
  commit_steps {change} c crash = record {
    site = c.site;
    counts = c.faults;
    beside = c.beside;
    few = let is = ap (λ (t : VolumeTable). t.sequence) c.table in omega (arith, is);
    few_left = left_one g a b change crash;
    no_lower = let is = ap (λ (t : VolumeTable). t.sequence) c.table in omega (arith, is);
    no_lower_left = left_no_lower g a b change crash;
  }

  -- a commit that failed
  pub failed_steps : (change : Change) → FailsToCommit g a b → Leaves g b (IsEitherOf (stored g a) change) → StepsOn g 1 a b
  failed_steps change c crash = record {
    site = c.site;
    counts = c.faults;
    beside = c.beside;
    few = let is = ap (λ (t : VolumeTable). t.sequence) c.table in omega (arith, is);
    few_left = left_one g a b change crash;
    no_lower = let is = ap (λ (t : VolumeTable). t.sequence) c.table in omega (arith, is);
    no_lower_left = left_no_lower g a b change crash;
  }

  -- a call that commits nothing, while no commit has failed
  pub stays_steps : Stays g a b → Leaves g b (IsChoiceOf (stored g b)) → StepsOn g 0 a b
  stays_steps s now = record {
    site = s.site;
    counts = s.faults;
    beside = s.beside;
    few = let is = ap (λ (t : VolumeTable). t.sequence) s.table in omega (arith, is);
    few_left = λ told t image l. let i = now told t image l in let is = ap (λ (v : VolumeTable). v.sequence) (i.table_is ∙ s.table) in omega (arith, is);
    no_lower = let is = ap (λ (t : VolumeTable). t.sequence) s.table in omega (arith, is);
    no_lower_left = λ told t image l. let i = now told t image l in let is = ap (λ (v : VolumeTable). v.sequence) (i.table_is ∙ s.table) in omega (arith, is);
  }

  -- the same by what a store says of all its states
  pub stays_now : ((s : S) → g.told → g.failed s ≡ false → (t : VolumeTable) (image : ℕ → List ℕ) → g.leaves s t image → IsChoiceOf (stored g s) t image) → g.failed a ≡ false → Stays g a b → StepsOn g 0 a b
  stays_now now usable s = stays_steps s (λ told. now b told (s.failed ∙ usable))

  -- a step that wrote nothing, by memory that is as it was
  pub reads_between : (m : Memory) → OnlyReads g a b → IsBetweenSteps g a m → IsBetweenSteps g b m
  reads_between m r i = record {
    usable = r.stays.failed ∙ i.usable;
    orderly = subst (λ (t : VolumeTable). IsOrderly (g.site b) t (known m)) (sym r.stays.table) (subst (λ (s : Site). IsOrderly s (table_alone (g.table a)) (known m)) (sym r.stays.site) i.orderly);
    tidy = subst (λ (t : VolumeTable). IsTidy t (known m)) (sym r.stays.table) i.tidy;
    true_images = true_reads g m m refl r i.true_images;
    rows = rows_stays r.stays i.rows;
    tree_room = i.tree_room;
    attachment_room = i.attachment_room;
  }

-- one behind the other
pub then_steps : {S : Type 0} {g : Ghosts S} {a b c : S} {n k : ℕ} → StepsOn g n a b → StepsOn g k b c → StepsOn g (n + k) a c
then_steps x y = record {
  site = y.site ∙ x.site;
  counts = let first = x.counts in let second = y.counts in omega (arith, first, second);
  beside = λ told. Keeps-then (x.beside told) (y.beside told);
  few = let first = x.few in let second = y.few in omega (arith, first, second);
  few_left = λ told t image l. let first = x.few in let second = y.few_left told t image l in omega (arith, first, second);
  no_lower = let first = x.no_lower in let second = y.no_lower in omega (arith, first, second);
  no_lower_left = λ told t image l. let first = x.no_lower in let second = y.no_lower_left told t image l in omega (arith, first, second);
}

-- so many commits are no more than so many others
pub more_steps : {S : Type 0} {g : Ghosts S} {a b : S} {n k : ℕ} → n ≤ k → StepsOn g n a b → StepsOn g k a b
more_steps at x = record {
  site = x.site;
  counts = x.counts;
  beside = x.beside;
  few = let first = x.few in omega (arith, first, at);
  few_left = λ told t image l. let first = x.few_left told t image l in omega (arith, first, at);
  no_lower = x.no_lower;
  no_lower_left = x.no_lower_left;
}
