-- The logs do not lead from a snapshot of a disk back to a later one of it, where that disk is no snapshot itself.
use Rattle.std.proofs.Common.{◌≡◌, ◌≢◌, ℕ, zero, suc, Bool, true, false, List, [], ◌∷◌, ◌++◌, Option, Some, None, refl, sym, ap, ◌∙◌, subst, inl, inr, arith}
use Rattle.std.proofs.lemmas.Bool.{true≢false}
use Rattle.common_laws.specs.Lists.{In}
use Rattle.common_laws.proofs.Lists.{In-left}
use Rattle.sm_log.specs.Logs.{Log, changed}
use Rattle.sm_machine.specs.declared.commands.Command.{Command}
use Rattle.sm_machine.specs.declared.commands.Command.TheVariants.{Snapshot}
use Rattle.sm_machine.specs.Shapes.{Shape}
use Rattle.sm_machine.specs.Refusals.{is_snapshot, new_uuid, refusal}
use Rattle.sm_machine.specs.Runs.{Turn, after_run}
use Rattle.sm_machine.specs.Steps.{State}
use Rattle.sm_machine.specs.Tracking.{AreGoodLogs, AreOfSnapshots}
use Rattle.sm_machine.specs.WellFormed.{IsWellFormed}
use Rattle.sm_machine.proofs.Passed.{passed}
use Rattle.sm_reached.specs.Reached.{MakesNone, NotLedBack, accepted_in}
use Rattle.sm_reached.proofs.StepLaws.{AllPass, IsSound, next, next_all, next_append, next_sound, pass_append, sound_all}
use Rattle.sm_reached.proofs.RunLaws.{run_is}
use Rattle.sm_reached.proofs.DescentLaws.{IsLine, One, line_begun}
use Rattle.sm_reached.proofs.SourceLaws.{Comes, comes}
use Rattle.sm_reached.proofs.WalkLaws.{IsApart, apart_all, apart_untold}
use Rattle.sm_reached.proofs.ReachedLaws.{In-right}
use Rattle.sm_reached.proofs.TagLaws.{IsOwn, own_all, own_begun, own_next}

-- ---- a disk that is no snapshot

-- its log has no tag
abbrev IsUntagged : List ℕ → Shape → Type 0
IsUntagged d s = (l : Log) → In l s.logs → l.disk ≡ d → l.tag ≡ 0

-- none of these commands makes a snapshot of this UUID
abbrev MadeBy : List ℕ → List Command → Type 0
MadeBy d cs = (u : List ℕ) → ¬ In (Snapshot u d) cs

begins_untagged : (s : Shape) (d : List ℕ) → AreOfSnapshots s → is_snapshot d s ≡ false → IsUntagged d s
begins_untagged s d m none l h q = by l.tag refl
  where
    by : (n : ℕ) → l.tag ≡ n → l.tag ≡ 0
    by zero e = e
    by (suc n) e =
        let marked : is_snapshot l.disk s ≡ true = m l h (λ z. (let y : suc n ≡ 0 = sym e ∙ z in omega (arith, y))) in
        absurd (true≢false (sym marked ∙ (ap (λ (v : List ℕ). is_snapshot v s) q ∙ none)))

module _ (s : Shape) (b : IsSound s) (c : Command) (e : refusal s c ≡ None) (d : List ℕ) (none : (u : List ℕ) → c ≢ Snapshot u d) (i : IsUntagged d s) where
  untagged : (m : Log) → Comes s c m → m.disk ≡ d → m.tag ≡ 0
  untagged m (inl (inl k)) q = k.tag ∙ i k.log k.there (sym k.disk ∙ q)
  untagged m (inl (inr k)) q = k.tag
  untagged m (inr (inl k)) q =
      let named : k.twin ≡ d = sym (ap (λ (x : Log). x.disk) k.same) ∙ q in
      absurd (none k.log.disk (k.command ∙ ap (λ (v : List ℕ). Snapshot k.log.disk v) named))
  untagged m (inr (inr k)) q = ap (λ (x : Log). x.tag) k.same ∙ i k.log k.there (sym (ap (λ (x : Log). x.disk) k.same) ∙ q)

  untagged_next : IsUntagged d (next s c)
  untagged_next m h q = untagged m (comes s b.well b.good b.snapshots c (passed s c e) m h) q

-- a command of a list that makes no such snapshot
not_made : (d : List ℕ) (cs : List Command) (c : Command) → MadeBy d cs → In c cs → (u : List ℕ) → c ≢ Snapshot u d
not_made d cs c none h u q = none u (subst (λ (x : Command). In x cs) q h)

untagged_all : (s : Shape) (cs : List Command) (d : List ℕ) → IsSound s → AllPass s cs → MadeBy d cs → IsUntagged d s → IsUntagged d (next_all s cs)
unfolding next_all
untagged_all s [] d b a none i = i
untagged_all s (c ∷ cs) d b a none i =
    untagged_all (next s c) cs d (next_sound s c a.0 b) a.1 (λ u h. none u (inr h)) (untagged_next s b c a.0 d (not_made d (c ∷ cs) c none (inl refl)) i)

-- ---- two snapshots

module _ (s : Shape) (b : IsSound s) (d n u : List ℕ) (between rest : List Command) (a : AllPass s (Snapshot d n ∷ (between ++ (Snapshot d u ∷ rest))))
    (earlier : MakesNone n (between ++ (Snapshot d u ∷ rest))) (later : MakesNone u rest) (i : IsUntagged d s) (none : MadeBy d (Snapshot d n ∷ (between ++ (Snapshot d u ∷ rest)))) where
  abbrev behind : Shape
  behind = next s (Snapshot d n)

  abbrev at_later : Shape
  at_later = next_all behind between

  abbrev taken : Shape
  taken = next at_later (Snapshot d u)

  parts : AllPass behind between × AllPass at_later (Snapshot d u ∷ rest)
  parts = pass_append behind between (Snapshot d u ∷ rest) a.1

  behind_sound : IsSound behind
  behind_sound = next_sound s (Snapshot d n) a.0 b

  later_sound : IsSound at_later
  later_sound = sound_all behind between parts.0 behind_sound

  taken_sound : IsSound taken
  taken_sound = next_sound at_later (Snapshot d u) parts.1.0 later_sound

  -- the later command, and those behind it, are some of all
  at_last : In (Snapshot d u) (between ++ (Snapshot d u ∷ rest))
  at_last = In-right between (Snapshot d u ∷ rest) (Snapshot d u) (inl refl)

  apart : new_uuid (Snapshot d u) ≢ Some n
  apart = earlier (Snapshot d u) at_last

  differ : u ≢ n
  unfolding new_uuid
  differ q = apart (ap (λ (v : List ℕ). Some v) q)

  own_later : IsOwn n s.sequence at_later
  own_later = own_all behind between n s.sequence behind_sound parts.0 (λ c h. earlier c (In-left between (Snapshot d u ∷ rest) c h)) (own_begun s b d n a.0)

  own_taken : IsOwn n s.sequence taken
  own_taken = own_next at_later later_sound (Snapshot d u) parts.1.0 n s.sequence apart own_later

  own_end : IsOwn n s.sequence (next_all taken rest)
  own_end = own_all taken rest n s.sequence taken_sound parts.1.1 (λ c h. earlier c (In-right between (Snapshot d u ∷ rest) c (inr h))) own_taken

  twin_end : IsOwn u at_later.sequence (next_all taken rest)
  twin_end = own_all taken rest u at_later.sequence taken_sound parts.1.1 later (own_begun at_later later_sound d u parts.1.0)

  untagged_taken : IsUntagged d taken
  untagged_taken = untagged_next at_later later_sound (Snapshot d u) parts.1.0 d (not_made d (Snapshot d n ∷ (between ++ (Snapshot d u ∷ rest))) (Snapshot d u) none (inr at_last))
      (untagged_all behind between d behind_sound parts.0 (λ v h. none v (inr (In-left between (Snapshot d u ∷ rest) (Snapshot v d) h)))
      (untagged_next s b (Snapshot d n) a.0 d (not_made d (Snapshot d n ∷ (between ++ (Snapshot d u ∷ rest))) (Snapshot d n) none (inl refl)) i))

  abbrev Last : ℕ → Type 0
  Last = One at_later later_sound d u parts.1.0 0 []

  line : IsLine d at_later.sequence 0 [] Last taken
  line = line_begun at_later later_sound d u parts.1.0 0 []

  apart_taken : IsApart at_later.sequence s.sequence Last taken
  apart_taken = record {
    begins = line.begins;
    out = λ h. omega (arith, h.0, own_later.used);
    below = own_taken.used;
    used = line.used;
    tags = λ l h t. elim (line.member l h t) [ inl y ↦ inl y | inr q ↦ inr (untagged_taken l h q) ];
  }

  pub untold : (pieces : ℕ) (bits : List Bool) → changed pieces u n (next_all taken rest).logs ≡ Some bits → ⊥
  untold pieces bits e = apart_all ⊥ at_later.sequence s.sequence taken rest Last taken_sound parts.1.1 apart_taken
      (λ T j. apart_untold (next_all taken rest) u at_later.sequence s.sequence T twin_end j pieces n bits differ own_end e)

-- ---- a run

none_unless : {A : Type 0} (o : Option A) → ((x : A) → o ≡ Some x → ⊥) → o ≡ None
none_unless None h = refl
none_unless (Some x) h = absurd (h x refl)

all_untold : (s : Shape) (d u n : List ℕ) (front between rest : List Command) (pieces : ℕ) (bits : List Bool) → IsSound s → IsUntagged d s
    → AllPass s (front ++ (Snapshot d n ∷ (between ++ (Snapshot d u ∷ rest)))) → MakesNone n (between ++ (Snapshot d u ∷ rest)) → MakesNone u rest
    → MadeBy d (front ++ (Snapshot d n ∷ (between ++ (Snapshot d u ∷ rest))))
    → changed pieces u n (next_all s (front ++ (Snapshot d n ∷ (between ++ (Snapshot d u ∷ rest))))).logs ≡ Some bits → ⊥
unfolding next_all
all_untold s d u n front between rest pieces bits b i a earlier later none e =
    let tail : List Command = Snapshot d n ∷ (between ++ (Snapshot d u ∷ rest)) in
    let p : AllPass s front × AllPass (next_all s front) tail = pass_append s front tail a in
    let ends : next_all s (front ++ tail) ≡ next_all (next (next_all (next (next_all s front) (Snapshot d n)) between) (Snapshot d u)) rest =
    next_append s front tail ∙ next_append (next (next_all s front) (Snapshot d n)) between (Snapshot d u ∷ rest) in
    untold (next_all s front) (sound_all s front p.0 b) d n u between rest p.1 earlier later
    (untagged_all s front d b p.0 (λ v h. none v (In-left front tail (Snapshot v d) h)) i) (λ v h. none v (In-right front tail (Snapshot v d) h))
    pieces bits (ap (λ (x : Shape). changed pieces u n x.logs) (sym ends) ∙ e)

pub back_is_not_told : (σ : State) (turns : List Turn) → IsWellFormed σ.shape → AreGoodLogs σ.shape → AreOfSnapshots σ.shape → NotLedBack σ turns
back_is_not_told σ turns w g m d u n between pieces r k = none_unless (changed pieces u n (after_run σ turns).shape.logs) (λ bits e.
    (let run : ((after_run σ turns).shape ≡ next_all σ.shape (accepted_in σ turns)) × AllPass σ.shape (accepted_in σ turns) = run_is σ turns σ.shape refl in
    all_untold σ.shape d u n r.front between r.rest pieces bits (record { well = w; good = g; snapshots = m }) (begins_untagged σ.shape d m k.begins)
    (subst (λ (cs : List Command). AllPass σ.shape cs) r.order run.1) r.earlier r.later
    (λ v h. k.made v (subst (λ (cs : List Command). In (Snapshot v d) cs) (sym r.order) h))
    (ap (λ (s : Shape). changed pieces u n s.logs) (sym (run.0 ∙ ap (next_all σ.shape) r.order)) ∙ e)))
