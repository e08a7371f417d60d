-- How the trail of a run grows by one turn.
use Rattle.std.proofs.Common.{◌≡◌, ◌⊎◌, inl, inr, ℕ, true, false, List, [], ◌∷◌, ◌++◌, map, refl, sym, ap, ◌∙◌, subst}
use Rattle.sm_machine.specs.Disks.{Disk}
use Rattle.common_laws.specs.Lists.{In}
use Rattle.sm_machine.specs.Runs.{Turn, taken, after_run, trail_after, trail_more, trail_of, settles, face, HasSector, IsFrom, IsAsAfter, IsAsDuring}
use Rattle.sm_machine.specs.Steps.{State}
use Rattle.sm_run.specs.Between.{HadSector, IsBetween, IsSettledAs}

-- the state after one turn more
pub after_run-push : (σ : State) (turns : List Turn) (t : Turn) → after_run σ (turns ++ t ∷ []) ≡ (taken (after_run σ turns) t).after
unfolding after_run
after_run-push σ [] t = refl
after_run-push σ (s ∷ turns) t = after_run-push ((taken σ s).after) turns t

-- the trail after one turn more
pub trail_after-push : (σ : State) (trail : List State) (turns : List Turn) (t : Turn)
    → trail_after σ trail (turns ++ t ∷ []) ≡ trail_more (trail_after σ trail turns) ((taken (after_run σ turns) t).after) (settles (after_run σ turns) t)
unfolding after_run trail_after
trail_after-push σ trail [] t = refl
trail_after-push σ trail (s ∷ turns) t = trail_after-push ((taken σ s).after) (trail_more trail ((taken σ s).after) (settles σ s)) turns t

In-left : (x : State) (xs ys : List State) → In x xs → In x (xs ++ ys)
In-left x [] ys h = elim h [ ]
In-left x (y ∷ xs) ys (inl is) = inl is
In-left x (y ∷ xs) ys (inr h) = inr (In-left x xs ys h)

In-last : (x : State) (xs : List State) → In x (xs ++ x ∷ [])
In-last x [] = inl refl
In-last x (y ∷ xs) = inr (In-last x xs)

-- a sector that was in some state of the trail, or is in the new one
grown : (σ : State) (turns : List Turn) (new : State) (before : List Disk → Type 0) (u : List ℕ) (k : ℕ) (bytes : List ℕ)
    → ((es : List Disk) → before es → IsFrom (trail_of σ turns) (after_run σ turns) es)
    → HadSector before u k bytes ⊎ HasSector new.disks u k bytes
    → (τ : State) × In τ (trail_of σ turns ++ new ∷ []) × HasSector τ.disks u k bytes
grown σ turns new before u k bytes was (inl h) =
    let w = (was h.0 h.1).sectors u k bytes h.2 in (w.0, In-left w.0 (trail_of σ turns) (new ∷ []) w.1, w.2)
grown σ turns new before u k bytes was (inr h) = (new, In-last new (trail_of σ turns), h)

pub during : (σ : State) (turns : List Turn) (t : Turn) (before : List Disk → Type 0) (ds : List Disk)
    → ((es : List Disk) → before es → IsAsAfter σ turns es)
    → IsBetween before ((after_run σ turns).disks) (((taken (after_run σ turns) t).after).disks) ds
    → IsAsAfter σ turns ds ⊎ IsAsDuring σ turns t ds
unfolding IsAsAfter IsAsDuring
during σ turns t before ds was (inl still) = inl (record {
  faces = still.faces;
  sectors = λ u k bytes h. let had = still.sectors u k bytes h in (was had.0 had.1).sectors u k bytes had.2;
})
during σ turns t before ds was (inr already) = inr (record {
  faces = already.faces;
  sectors = λ u k bytes h. grown σ turns ((taken (after_run σ turns) t).after) before u k bytes was (already.sectors u k bytes h);
})

either_sector : (before : List Disk → Type 0) (old new ds : List Disk) (u : List ℕ) (k : ℕ) (bytes : List ℕ) → IsBetween before old new ds
    → HasSector ds u k bytes → HadSector before u k bytes ⊎ HasSector new u k bytes
either_sector before old new ds u k bytes (inl still) h = inl (still.sectors u k bytes h)
either_sector before old new ds u k bytes (inr already) h = already.sectors u k bytes h

pub after : (σ : State) (turns : List Turn) (t : Turn) (before : List Disk → Type 0) (ds : List Disk)
    → ((es : List Disk) → before es → IsAsAfter σ turns es) → settles (after_run σ turns) t ≡ false
    → IsBetween before ((after_run σ turns).disks) (((taken (after_run σ turns) t).after).disks) ds
    → map face ds ≡ map face (((taken (after_run σ turns) t).after).disks)
    → IsAsAfter σ (turns ++ t ∷ []) ds
unfolding IsAsAfter
after σ turns t before ds was none between faces =
    let new : State = (taken (after_run σ turns) t).after in
    let trail = trail_after-push σ (σ ∷ []) turns t ∙ ap (trail_more (trail_of σ turns) new) none in
    record {
      faces = faces ∙ ap (λ (s : State). map face s.disks) (sym (after_run-push σ turns t));
      sectors = λ u k bytes h. subst (λ states. (τ : State) × In τ states × HasSector τ.disks u k bytes) (sym trail)
          (grown σ turns new before u k bytes was (either_sector before ((after_run σ turns).disks) new.disks ds u k bytes between h));
    }

pub settled : (σ : State) (turns : List Turn) (t : Turn) (ds : List Disk) → settles (after_run σ turns) t ≡ true
    → IsSettledAs (((taken (after_run σ turns) t).after).disks) ds → IsAsAfter σ (turns ++ t ∷ []) ds
unfolding IsAsAfter
settled σ turns t ds all is =
    let new : State = (taken (after_run σ turns) t).after in
    let trail = trail_after-push σ (σ ∷ []) turns t ∙ ap (trail_more (trail_of σ turns) new) all in
    record {
      faces = is.faces ∙ ap (λ (s : State). map face s.disks) (sym (after_run-push σ turns t));
      sectors = λ u k bytes h. subst (λ states. (τ : State) × In τ states × HasSector τ.disks u k bytes) (sym trail)
          (new, inl refl, is.sectors u k bytes h);
    }
