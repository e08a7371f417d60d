-- No piece too many is told of two snapshots of one disk that were made in one run.
use Rattle.std.proofs.Common.{◌≡◌, ◌≢◌, ℕ, ◌<◌, Bool, true, List, [], ◌∷◌, ◌++◌, Some, None, refl, sym, ap, ◌∙◌, subst, inl, inr, arith}
use Rattle.std.specs.Str.{bytes_eq}
use Rattle.std.proofs.lemmas.Bool.{true≢false}
use Rattle.common_laws.specs.Lists.{In}
use Rattle.common_laws.proofs.Bytes.{bytes_eq-refl, bytes_eq-same}
use Rattle.common_laws.proofs.Lists.{Distinct-key, In-left, find-only}
use Rattle.sm_log.specs.Logs.{Log, bit, changed, is_log_of}
use Rattle.sm_machine.specs.declared.commands.Command.{Command}
use Rattle.sm_machine.specs.declared.commands.Command.TheVariants.{Snapshot, Track}
use Rattle.sm_machine.specs.Shapes.{Shape}
use Rattle.sm_machine.specs.Refusals.{new_uuid, refusal}
use Rattle.sm_machine.specs.Runs.{Turn, after_run}
use Rattle.sm_machine.specs.Steps.{State}
use Rattle.sm_machine.specs.Tracking.{AreGoodLogs, AreOfSnapshots}
use Rattle.sm_machine.specs.WellFormed.{IsWellFormed}
use Rattle.sm_machine.proofs.Passed.{passed}
use Rattle.sm_reached.specs.Reached.{MakesNone, NamesReached, accepted_in}
use Rattle.sm_reached.proofs.WalkLaws.{IsApart, IsInside, apart_all, apart_untold, inside_all, inside_told}
use Rattle.sm_reached.proofs.DescentLaws.{HasReached, IsLine, One, Then, line_all, line_begun, line_next, more_old, new_more}
use Rattle.sm_reached.proofs.TagLaws.{IsOwn, own_all, own_begun, own_next}
use Rattle.sm_reached.proofs.RunLaws.{run_is}
use Rattle.sm_reached.proofs.SourceLaws.{Comes, comes, source}
use Rattle.sm_reached.proofs.StepLaws.{AllPass, IsSound, next, next_all, next_append, next_sound, pass_append, sound_all}

pub In-right : (xs ys : List Command) (x : Command) → In x ys → In x (xs ++ ys)
In-right [] ys x h = h
In-right (y ∷ xs) ys x h = inr (In-right xs ys x h)

-- the log of the disk of which a snapshot is taken
source_of : (s : Shape) (d n : List ℕ) (l : Log) → AreGoodLogs s → In l s.logs → l.disk ≡ d → source s (Snapshot d n) ≡ Some l
source_of s d n l g h q = find-only (is_log_of d) s.logs l h (subst (λ (v : List ℕ). bytes_eq v d ≡ true) (sym q) (bytes_eq-refl d))
    (λ y i m. Distinct-key (λ (x : Log). x.disk) s.logs y l g.one_log i h (bytes_eq-same y.disk d m ∙ sym q))

-- ---- at the later snapshot

module _ (s : Shape) (b : IsSound s) (d n : List ℕ) (e : refusal s (Snapshot d n) ≡ None) (first piece : ℕ) (between : List Command) (T : ℕ → Type 0) (i : IsLine d first piece between T s) where
  abbrev pub Since : ℕ → Type 0
  Since = Then s b (Snapshot d n) e d first piece between T (λ r. absurd (true≢false (sym r))) i

  pub line : IsLine d first piece between Since (next s (Snapshot d n))
  line = line_next s b (Snapshot d n) e d first piece between T (λ r. absurd (true≢false (sym r))) i

  pub inside_begun : IsInside d first piece between Since (next s (Snapshot d n))
  inside_begun = record { used = line.used; since = line.closed; bits = λ l h t z q. line.bits l h (line.closed l h t z) q }

  -- where its log is none that descends, each that does has a tag
  module _ (out : Since s.sequence → ⊥) where
    none_source : (x : ℕ) (l : Log) → source s (Snapshot d n) ≡ Some l → T l.since → ⊥
    none_source x l f t = out (new_more s b (Snapshot d n) e T (λ (y : Log). T y.since) i.used s.sequence l refl f t)

    old : (l : Log) → In l s.logs → Since l.since → T l.since
    old l h t = more_old s b (Snapshot d n) e T (λ (y : Log). T y.since) i.used l.since (b.good.good l h).since t

    no_disk : (m : Log) → Comes s (Snapshot d n) m → Since m.since → m.disk ≡ d → ⊥
    no_disk m (inl (inl k)) h q = none_source 0 k.log (source_of s d n k.log b.good k.there (sym k.disk ∙ q)) (old k.log k.there (subst Since k.since h))
    no_disk m (inl (inr k)) h q = let x : Snapshot d n ≡ Track m.disk true = k.command in cc
    no_disk m (inr (inl k)) h q = none_source 0 k.log k.found (old k.log k.there (subst Since (ap (λ (x : Log). x.since) k.same) h))
    no_disk m (inr (inr k)) h q = out (subst Since (ap (λ (x : Log). x.since) k.same) h)

    tags : (m : Log) → In m (next s (Snapshot d n)).logs → Since m.since → Since m.tag
    tags m h t = elim (line.member m h t) [
      | inl y ↦ y
      | inr q ↦ absurd (no_disk m (comes s b.well b.good b.snapshots (Snapshot d n) (passed s (Snapshot d n) e) m h) t q)
    ]

    pub apart_begun : s.sequence < (next s (Snapshot d n)).sequence → IsApart first s.sequence Since (next s (Snapshot d n))
    apart_begun up = record { begins = line.begins; out = out; below = up; used = line.used; tags = λ m h t. inl (tags m h t) }

-- ---- two snapshots

module _ (s : Shape) (b : IsSound s) (d u n : List ℕ) (between rest : List Command) (piece pieces : ℕ) (bits : List Bool)
    (a : AllPass s (Snapshot d u ∷ (between ++ (Snapshot d n ∷ rest)))) (earlier : MakesNone u (between ++ (Snapshot d n ∷ rest))) (later : MakesNone n rest) where
  abbrev behind : Shape
  behind = next s (Snapshot d u)

  abbrev at_later : Shape
  at_later = next_all behind between

  abbrev taken : Shape
  taken = next at_later (Snapshot d n)

  parts : AllPass behind between × AllPass at_later (Snapshot d n ∷ rest)
  parts = pass_append behind between (Snapshot d n ∷ rest) a.1

  behind_sound : IsSound behind
  behind_sound = next_sound s (Snapshot d u) a.0 b

  later_sound : IsSound at_later
  later_sound = sound_all behind between parts.0 behind_sound

  taken_sound : IsSound taken
  taken_sound = next_sound at_later (Snapshot d n) parts.1.0 later_sound

  apart : new_uuid (Snapshot d n) ≢ Some u
  apart = earlier (Snapshot d n) (In-right between (Snapshot d n ∷ rest) (Snapshot d n) (inl refl))

  differ : u ≢ n
  unfolding new_uuid
  differ q = apart (ap (λ (v : List ℕ). Some v) (sym q))

  own_later : IsOwn u s.sequence at_later
  own_later = own_all behind between u s.sequence behind_sound parts.0 (λ c h. earlier c (In-left between (Snapshot d n ∷ rest) c h)) (own_begun s b d u a.0)

  own_taken : IsOwn u s.sequence taken
  own_taken = own_next at_later later_sound (Snapshot d n) parts.1.0 u s.sequence apart own_later

  own_end : IsOwn u s.sequence (next_all taken rest)
  own_end = own_all taken rest u s.sequence taken_sound parts.1.1 (λ c h. earlier c (In-right between (Snapshot d n ∷ rest) c (inr h))) own_taken

  twin_taken : IsOwn n at_later.sequence taken
  twin_taken = own_begun at_later later_sound d n parts.1.0

  twin_end : IsOwn n at_later.sequence (next_all taken rest)
  twin_end = own_all taken rest n at_later.sequence taken_sound parts.1.1 later twin_taken

  module _ (e : changed pieces u n (next_all taken rest).logs ≡ Some bits) (q : bit bits piece ≡ true) where
    at_end : (T : ℕ → Type 0) → IsLine d s.sequence piece between T at_later → HasReached d piece between
    at_end T i = elim (l.known at_later.sequence) [
      | inl y ↦ inside_all (HasReached d piece between) d s.sequence at_later.sequence piece between taken rest (Since at_later later_sound d n parts.1.0 s.sequence piece between T i) taken_sound parts.1.1 own_taken.used y
          (inside_begun at_later later_sound d n parts.1.0 s.sequence piece between T i)
          (λ U t j. inside_told (next_all taken rest) d u s.sequence piece pieces between U own_end j n at_later.sequence bits differ twin_end t (λ z. omega (arith, z, own_later.used)) e q)
      | inr out ↦ apart_all (HasReached d piece between) s.sequence at_later.sequence taken rest (Since at_later later_sound d n parts.1.0 s.sequence piece between T i) taken_sound parts.1.1
          (apart_begun at_later later_sound d n parts.1.0 s.sequence piece between T i out twin_taken.used)
          (λ U j. absurd (apart_untold (next_all taken rest) u s.sequence at_later.sequence U own_end j pieces n bits differ twin_end e))
    ]
      where
        l : IsLine d s.sequence piece between (Since at_later later_sound d n parts.1.0 s.sequence piece between T i) taken
        l = line at_later later_sound d n parts.1.0 s.sequence piece between T i

    pub reached : HasReached d piece between
    reached = line_all (HasReached d piece between) d s.sequence piece between behind between (One s b d u a.0 piece between) behind_sound parts.0 (λ c h. h) (line_begun s b d u a.0 piece between) at_end

all_reached : (s : Shape) (d u n : List ℕ) (front between rest : List Command) (pieces piece : ℕ) (bits : List Bool) → IsSound s
    → AllPass s (front ++ (Snapshot d u ∷ (between ++ (Snapshot d n ∷ rest)))) → MakesNone u (between ++ (Snapshot d n ∷ rest)) → MakesNone n rest
    → changed pieces u n (next_all s (front ++ (Snapshot d u ∷ (between ++ (Snapshot d n ∷ rest))))).logs ≡ Some bits → bit bits piece ≡ true → HasReached d piece between
unfolding next_all
all_reached s d u n front between rest pieces piece bits b a earlier later e q =
    let tail : List Command = Snapshot d u ∷ (between ++ (Snapshot d n ∷ rest)) in
    let p : AllPass s front × AllPass (next_all s front) tail = pass_append s front tail a in
    let ends : next_all s (front ++ tail) ≡ next_all (next (next_all (next (next_all s front) (Snapshot d u)) between) (Snapshot d n)) rest =
    next_append s front tail ∙ next_append (next (next_all s front) (Snapshot d u)) between (Snapshot d n ∷ rest) in
    reached (next_all s front) (sound_all s front p.0 b) d u n between rest piece pieces bits p.1 earlier later (ap (λ (x : Shape). changed pieces u n x.logs) (sym ends) ∙ e) q

pub changed_is_reached : (σ : State) (turns : List Turn) → IsWellFormed σ.shape → AreGoodLogs σ.shape → AreOfSnapshots σ.shape → NamesReached σ turns
changed_is_reached σ turns w g m d u n between pieces piece bits r e q =
    let run : ((after_run σ turns).shape ≡ next_all σ.shape (accepted_in σ turns)) × AllPass σ.shape (accepted_in σ turns) = run_is σ turns σ.shape refl in
    all_reached σ.shape d u n r.front between r.rest pieces piece bits (record { well = w; good = g; snapshots = m })
    (subst (λ (cs : List Command). AllPass σ.shape cs) r.order run.1) r.earlier r.later
    (ap (λ (s : Shape). changed pieces u n s.logs) (sym (run.0 ∙ ap (next_all σ.shape) r.order)) ∙ e) q
