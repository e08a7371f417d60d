-- Lists of calls: runs in two parts, and what makes each moment fine.
use Rattle.std.proofs.Common.{◌≡◌, inl, inr, ⊎_elim, ℕ, ◌+◌, ◌≤◌, List, [], ◌∷◌, ◌++◌, length, refl, sym, ap, subst, arith}
use Rattle.sm_disk.specs.Held.{reads}
use Rattle.sm_disk.proofs.HeldLaws.{Allows-from_reads, may_settled}
use Rattle.vg_meta.specs.Tables.{VolumeTable}
use Rattle.vg_meta.specs.declared.changes.Change.{Change}
use Rattle.vg_volumes.specs.Sites.{area_size}
use Rattle.vg_volumes.specs.Stored.{IsChoiceOf, Stored}
use Rattle.sm_ready.specs.Done.{at_rest}
use Rattle.sm_ready.specs.Runs.{committed}
use Rattle.sm_ready.specs.Stores.{Leaving}
use Rattle.sm_ready.specs.Frames.{IsNoLower}
use Rattle.sm_calls.specs.Calls.{AreCommits, Call, Commit, GoesOn, GoesWell, IsAmong, IsFine, Ran, Settle, Work, changes, settled, worked}

-- ---- the law: whatever a stop leaves among them is fine, and what they make is as wanted

at_choice : (Fine : Leaving) (x : Stored) → IsFine Fine x → (v : VolumeTable) (image : ℕ → List ℕ) → IsChoiceOf x v image → Fine v image
at_choice Fine x fine v image c = subst (λ t. Fine t image) (sym c.table_is) (fine image c.sectors)

settled_fine : (Fine : Leaving) (x : Stored) → IsFine Fine x → IsFine Fine (settled x)
settled_fine Fine x fine image left = fine image (Allows-from_reads (area_size x.site) x.area image (λ p below. may_settled (at_rest (reads x.area)) p (image p) refl (left p below)))

module _ (Fine : Leaving) (End : Stored → Type 0) where
  fine_among : (x : Stored) (cs : List Call) → IsFine Fine x → GoesOn Fine End x cs → (v : VolumeTable) (image : ℕ → List ℕ) → IsAmong x cs v image → Fine v image
  fine_among x [] fine next v image i = at_choice Fine x fine v image i
  fine_among x (Commit c ∷ cs) fine next v image (inl i) = at_choice Fine x fine v image i
  fine_among x (Commit c ∷ cs) fine next v image (inr i) = fine_among (committed x c) cs next.0 next.1 v image i
  fine_among x (Work did done ∷ cs) fine next v image (inl i) = at_choice Fine x fine v image i
  fine_among x (Work did done ∷ cs) fine next v image (inr w) = ⊎_elim
      (λ i. at_choice Fine (worked x w.0) (next.0 w.0 w.1) v image i)
      (λ d. fine_among (worked x w.0) cs (next.0 w.0 w.1) (next.1 w.0 w.1 d.0) v image d.1) w.2
  fine_among x (Settle ∷ cs) fine next v image (inl i) = at_choice Fine x fine v image i
  fine_among x (Settle ∷ cs) fine next v image (inr i) = fine_among (settled x) cs (settled_fine Fine x fine) next v image i

  ends : (x y : Stored) (cs : List Call) → GoesOn Fine End x cs → Ran x cs y → End y
  ends x y [] next ran = subst End (sym ran) next
  ends x y (Commit c ∷ cs) next ran = ends (committed x c) y cs next.1 ran
  ends x y (Work did done ∷ cs) next ran = ends (worked x ran.0) y cs (next.1 ran.0 ran.1 ran.2) ran.3
  ends x y (Settle ∷ cs) next ran = ends (settled x) y cs next ran

  pub law_among : (x : Stored) (cs : List Call) → GoesWell Fine End x cs → (v : VolumeTable) (image : ℕ → List ℕ) → IsAmong x cs v image → Fine v image
  law_among x cs well = fine_among x cs well.first well.next

  pub law_end : (x y : Stored) (cs : List Call) → GoesWell Fine End x cs → Ran x cs y → End y
  law_end x y cs well = ends x y cs well.next

-- ---- runs in two parts

pub changes_append : (xs ys : List Call) → changes (xs ++ ys) ≡ changes xs ++ changes ys
changes_append [] ys = refl
changes_append (Commit c ∷ xs) ys = ap (λ (cs : List Change). c ∷ cs) (changes_append xs ys)
changes_append (Work did done ∷ xs) ys = changes_append xs ys
changes_append (Settle ∷ xs) ys = changes_append xs ys

pub commits_front : (xs ys : List Call) → AreCommits (xs ++ ys) → AreCommits xs
commits_front [] ys all = tt
commits_front (Commit c ∷ xs) ys all = commits_front xs ys all
commits_front (Work did done ∷ xs) ys all = all
commits_front (Settle ∷ xs) ys all = all

pub commits_back : (xs ys : List Call) → AreCommits (xs ++ ys) → AreCommits ys
commits_back [] ys all = all
commits_back (Commit c ∷ xs) ys all = commits_back xs ys all
commits_back (Work did done ∷ xs) ys all = absurd all
commits_back (Settle ∷ xs) ys all = absurd all

pub choice_among : (x : Stored) (cs : List Call) (v : VolumeTable) (image : ℕ → List ℕ) → IsChoiceOf x v image → IsAmong x cs v image
choice_among x [] v image i = i
choice_among x (Commit c ∷ cs) v image i = inl i
choice_among x (Work did done ∷ cs) v image i = inl i
choice_among x (Settle ∷ cs) v image i = inl i

pub among_front : (x : Stored) (xs ys : List Call) (v : VolumeTable) (image : ℕ → List ℕ) → IsAmong x xs v image → IsAmong x (xs ++ ys) v image
among_front x [] ys v image i = choice_among x ys v image i
among_front x (Commit c ∷ xs) ys v image (inl i) = inl i
among_front x (Commit c ∷ xs) ys v image (inr i) = inr (among_front (committed x c) xs ys v image i)
among_front x (Work did done ∷ xs) ys v image (inl i) = inl i
among_front x (Work did done ∷ xs) ys v image (inr w) =
    inr (w.0, w.1, ⊎_elim (λ i. inl i) (λ d. inr (d.0, among_front (worked x w.0) xs ys v image d.1)) w.2)
among_front x (Settle ∷ xs) ys v image (inl i) = inl i
among_front x (Settle ∷ xs) ys v image (inr i) = inr (among_front (settled x) xs ys v image i)

pub among_behind : (x y : Stored) (xs ys : List Call) (v : VolumeTable) (image : ℕ → List ℕ) → Ran x xs y → IsAmong y ys v image → IsAmong x (xs ++ ys) v image
among_behind x y [] ys v image ran i = subst (λ z. IsAmong z ys v image) ran i
among_behind x y (Commit c ∷ xs) ys v image ran i = inr (among_behind (committed x c) y xs ys v image ran i)
among_behind x y (Work did done ∷ xs) ys v image ran i = inr (ran.0, ran.1, inr (ran.2, among_behind (worked x ran.0) y xs ys v image ran.3 i))
among_behind x y (Settle ∷ xs) ys v image ran i = inr (among_behind (settled x) y xs ys v image ran i)

pub ran_then : (x y z : Stored) (xs ys : List Call) → Ran x xs y → Ran y ys z → Ran x (xs ++ ys) z
ran_then x y z [] ys first second = subst (λ a. Ran a ys z) first second
ran_then x y z (Commit c ∷ xs) ys first second = ran_then (committed x c) y z xs ys first second
ran_then x y z (Work did done ∷ xs) ys first second = (first.0, first.1, first.2, ran_then (worked x first.0) y z xs ys first.3 second)
ran_then x y z (Settle ∷ xs) ys first second = ran_then (settled x) y z xs ys first second

-- what a stop leaves has a number that was raised at most once for each commit
pub few_among : (x : Stored) (cs : List Call) (v : VolumeTable) (image : ℕ → List ℕ) → IsAmong x cs v image → v.sequence ≤ x.table.sequence + length (changes cs)
few_among x [] v image i = omega (arith, ap (λ (t : VolumeTable). t.sequence) i.table_is)
few_among x (Commit c ∷ cs) v image (inl i) = omega (arith, ap (λ (t : VolumeTable). t.sequence) i.table_is)
few_among x (Commit c ∷ cs) v image (inr i) = omega (arith, few_among (committed x c) cs v image i)
few_among x (Work did done ∷ cs) v image (inl i) = omega (arith, ap (λ (t : VolumeTable). t.sequence) i.table_is)
few_among x (Work did done ∷ cs) v image (inr w) = ⊎_elim
    (λ i. omega (arith, ap (λ (t : VolumeTable). t.sequence) i.table_is))
    (λ d. few_among (worked x w.0) cs v image d.1) w.2
few_among x (Settle ∷ cs) v image (inl i) = omega (arith, ap (λ (t : VolumeTable). t.sequence) i.table_is)
few_among x (Settle ∷ cs) v image (inr i) = few_among (settled x) cs v image i

-- and none lower
pub no_lower_among : (x : Stored) (cs : List Call) (v : VolumeTable) (image : ℕ → List ℕ) → IsAmong x cs v image → IsNoLower x.table v
no_lower_among x [] v image i = omega (arith, ap (λ (t : VolumeTable). t.sequence) i.table_is)
no_lower_among x (Commit c ∷ cs) v image (inl i) = omega (arith, ap (λ (t : VolumeTable). t.sequence) i.table_is)
no_lower_among x (Commit c ∷ cs) v image (inr i) = omega (arith, no_lower_among (committed x c) cs v image i)
no_lower_among x (Work did done ∷ cs) v image (inl i) = omega (arith, ap (λ (t : VolumeTable). t.sequence) i.table_is)
no_lower_among x (Work did done ∷ cs) v image (inr w) = ⊎_elim
    (λ i. omega (arith, ap (λ (t : VolumeTable). t.sequence) i.table_is))
    (λ d. no_lower_among (worked x w.0) cs v image d.1) w.2
no_lower_among x (Settle ∷ cs) v image (inl i) = omega (arith, ap (λ (t : VolumeTable). t.sequence) i.table_is)
no_lower_among x (Settle ∷ cs) v image (inr i) = no_lower_among (settled x) cs v image i

goes_then : (Fine : Leaving) (Mid End : Stored → Type 0) (x : Stored) (xs ys : List Call) → GoesOn Fine Mid x xs → ((y : Stored) → Mid y → GoesOn Fine End y ys) → GoesOn Fine End x (xs ++ ys)
goes_then Fine Mid End x [] ys next then = then x next
goes_then Fine Mid End x (Commit c ∷ xs) ys next then = (next.0, goes_then Fine Mid End (committed x c) xs ys next.1 then)
goes_then Fine Mid End x (Work did done ∷ xs) ys next then = (next.0, λ area d e. goes_then Fine Mid End (worked x area) xs ys (next.1 area d e) then)
goes_then Fine Mid End x (Settle ∷ xs) ys next then = goes_then Fine Mid End (settled x) xs ys next then

-- a run in two parts goes well where each does
pub well_then : (Fine : Leaving) (Mid End : Stored → Type 0) (x : Stored) (xs ys : List Call) → GoesWell Fine Mid x xs → ((y : Stored) → Mid y → GoesOn Fine End y ys) → GoesWell Fine End x (xs ++ ys)
well_then Fine Mid End x xs ys well then = record { first = well.first; next = goes_then Fine Mid End x xs ys well.next then }
