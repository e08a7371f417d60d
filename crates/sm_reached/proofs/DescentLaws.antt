-- The logs that descend from the one with which a disk began anew at a snapshot, by the tags that were given since.
use Rattle.std.proofs.Common.{◌≡◌, ◌≢◌, ℕ, ◌<◌, ◌⊎◌, true, false, List, [], ◌∷◌, length, Option, Some, None, refl, sym, ap, ◌∙◌, subst, inl, inr, arith}
use Rattle.std.specs.List.{list_any}
use Rattle.std.proofs.lemmas.Bool.{cases_eq, true≢false}
use Rattle.common_laws.specs.Lists.{In}
use Rattle.sm_log.specs.Logs.{Log, bit}
use Rattle.sm_machine.specs.declared.commands.Command.{Command}
use Rattle.sm_machine.specs.declared.commands.Command.TheVariants.{Snapshot}
use Rattle.sm_machine.specs.Shapes.{Shape}
use Rattle.sm_machine.specs.Refusals.{refusal}
use Rattle.sm_machine.proofs.Passed.{passed}
use Rattle.sm_reached.specs.Reached.{reaches}
use Rattle.sm_reached.proofs.SourceLaws.{Comes, Reaches, any_in, blank, comes, source}
use Rattle.sm_reached.proofs.StepLaws.{AllPass, IsSound, higher, higher_source, next, next_all, next_sound, not_lower, source_in}

-- one of these commands writes or fills sectors in a piece of a disk
abbrev pub HasReached : List ℕ → ℕ → List Command → Type 0
HasReached d piece between = list_any (reaches d piece) between ≡ true

-- ---- tags

-- what holds of a log, where there is one
abbrev pub OfSource : (Log → Type 0) → Option Log → Type 0
OfSource P None = ⊥
OfSource P (Some l) = P l

-- these tags, and that of the snapshot that a command takes, where its disk's log is such a one
abbrev pub More : (ℕ → Type 0) → (Log → Type 0) → Shape → Command → ℕ → Type 0
More T P s c x = T x ⊎ ((x ≡ s.sequence) × OfSource P (source s c))

-- tags are numbers that were used, other than 0
abbrev pub AreUsed : (ℕ → Type 0) → Shape → Type 0
AreUsed T s = (x : ℕ) → T x → (x < s.sequence) × (x ≢ 0)

module _ (s : Shape) (b : IsSound s) (c : Command) (e : refusal s c ≡ None) (T : ℕ → Type 0) (P : Log → Type 0) (used : AreUsed T s) where
  of_source : (o : Option Log) → source s c ≡ o → OfSource P o → (l : Log) × (source s c ≡ Some l)
  of_source None q h = absurd h
  of_source (Some l) q h = (l, q)

  pub more_used : AreUsed (More T P s c) (next s c)
  more_used x (inl h) = let u : (x < s.sequence) × (x ≢ 0) = used x h in (omega (arith, u.0, not_lower s c b.well), u.1)
  more_used x (inr h) =
      let l : (l : Log) × (source s c ≡ Some l) = of_source (source s c) refl h.1 in
      let up : s.sequence < (next s c).sequence = higher_source s c l.0 e l.1 in
      let below : l.0.tag < s.sequence = (b.good.good l.0 (source_in s c l.0 l.1)).tag in
      (omega (arith, h.0, up), λ z. omega (arith, h.0, below, z))

  -- a number that was used before is one of these tags where it was
  pub more_old : (x : ℕ) → x < s.sequence → More T P s c x → T x
  more_old x below (inl h) = h
  more_old x below (inr h) = absurd (omega (arith, below, h.0))

  -- the number of a snapshot that is taken
  pub more_new : (x : ℕ) (l : Log) → x ≡ s.sequence → source s c ≡ Some l → More T P s c x → P l
  more_new x l q f (inl h) = absurd (omega (arith, q, (used x h).0))
  more_new x l q f (inr h) = subst (λ (o : Option Log). OfSource P o) f h.1

  pub new_more : (x : ℕ) (l : Log) → x ≡ s.sequence → source s c ≡ Some l → P l → More T P s c x
  new_more x l q f h = inr (q, subst (λ (o : Option Log). OfSource P o) (sym f) h)

  pub not_zero : (x : ℕ) → x ≡ 0 → More T P s c x → ⊥
  not_zero x q h = (more_used x h).1 q

-- ---- the logs that descend

-- Of the logs since such a tag each has such a tag itself, or is that of the disk, and its bits were reached; a log with such a tag
-- other than the first is since such a one.
pub record IsLine (d : List ℕ) (first piece : ℕ) (between : List Command) (T : ℕ → Type 0) (s : Shape) : Type 0 where
  pub begins : first ≢ 0 → T first
  pub known : (x : ℕ) → T x ⊎ (T x → ⊥)
  pub used : AreUsed T s
  pub closed : (l : Log) → In l s.logs → T l.tag → l.tag ≢ first → T l.since
  pub member : (l : Log) → In l s.logs → T l.since → T l.tag ⊎ (l.disk ≡ d)
  pub bits : (l : Log) → In l s.logs → T l.since → bit l.bits piece ≡ true → HasReached d piece between

-- ---- a snapshot is taken

module _ (s : Shape) (b : IsSound s) (d u : List ℕ) (e : refusal s (Snapshot d u) ≡ None) (piece : ℕ) (between : List Command) where
  -- its tag
  abbrev pub One : ℕ → Type 0
  One x = (x ≡ s.sequence) × (x ≢ 0)

  one_known : (x : ℕ) → One x ⊎ (One x → ⊥)
  one_known x = elim (cases_eq x s.sequence) [
    | inr n ↦ inr (λ h. n h.0)
    | inl q ↦ (elim (cases_eq x 0) [
      | inl z ↦ inr (λ h. h.1 z)
      | inr n ↦ inl (q, n)
    ])
  ]

  -- a log since that tag is that of the disk, with no bit set
  one_since : (m : Log) → Comes s (Snapshot d u) m → One m.since → (m.disk ≡ d) × (bit m.bits piece ≡ false)
  one_since m (inl (inl k)) h = let below : k.log.since < s.sequence = (b.good.good k.log k.there).since in absurd (omega (arith, below, h.0, k.since))
  one_since m (inl (inr k)) h = absurd (h.1 k.since)
  one_since m (inr (inl k)) h =
      let below : k.log.since < s.sequence = (b.good.good k.log k.there).since in
      let same : m.since ≡ k.log.since = ap (λ (x : Log). x.since) k.same in
      absurd (omega (arith, below, h.0, same))
  one_since m (inr (inr k)) h =
      let q : Snapshot d u ≡ Snapshot k.log.disk k.twin = k.command in
      let named : k.log.disk ≡ d = cc in
      (ap (λ (x : Log). x.disk) k.same ∙ named, ap (λ (x : Log). bit x.bits piece) k.same ∙ blank (length k.log.bits) piece)

  from : (m : Log) → In m (next s (Snapshot d u)).logs → Comes s (Snapshot d u) m
  from = comes s b.well b.good b.snapshots (Snapshot d u) (passed s (Snapshot d u) e)

  pub line_begun : IsLine d s.sequence piece between One (next s (Snapshot d u))
  line_begun = record {
    begins = λ n. (refl, n);
    known = one_known;
    used = λ x h. (let up : s.sequence < (next s (Snapshot d u)).sequence = higher s d u e in (omega (arith, up, h.0), h.1));
    closed = λ l i h n. absurd (n h.0);
    member = λ l i h. inr (one_since l (from l i) h).0;
    bits = λ l i h q. absurd (true≢false (sym q ∙ (one_since l (from l i) h).1));
  }

-- ---- over each command

module _ (s : Shape) (b : IsSound s) (c : Command) (e : refusal s c ≡ None) (d : List ℕ) (first piece : ℕ) (between : List Command) (T : ℕ → Type 0)
    (within : Reaches d piece c → HasReached d piece between) (i : IsLine d first piece between T s) where
  abbrev P : Log → Type 0
  P l = T l.since

  abbrev pub Then : ℕ → Type 0
  Then = More T P s c

  old : (x : ℕ) → x < s.sequence → Then x → T x
  old = more_old s b c e T P i.used

  fresh : (x : ℕ) (l : Log) → x ≡ s.sequence → source s c ≡ Some l → Then x → T l.since
  fresh = more_new s b c e T P i.used

  then_new : (x : ℕ) (l : Log) → x ≡ s.sequence → source s c ≡ Some l → T l.since → Then x
  then_new = new_more s b c e T P i.used

  zero_out : (x : ℕ) → x ≡ 0 → Then x → ⊥
  zero_out = not_zero s b c e T P i.used

  source_known : (o : Option Log) → OfSource P o ⊎ (OfSource P o → ⊥)
  source_known None = inr (λ h. h)
  source_known (Some l) = i.known l.since

  then_known : (x : ℕ) → Then x ⊎ (Then x → ⊥)
  then_known x = elim (i.known x) [
    | inl h ↦ inl (inl h)
    | inr n ↦ (elim (cases_eq x s.sequence) [
      | inr apart ↦ inr (λ h. elim h [ inl y ↦ n y | inr y ↦ apart y.0 ])
      | inl q ↦ (elim (source_known (source s c)) [
        | inl y ↦ inl (inr (q, y))
        | inr z ↦ inr (λ h. elim h [ inl y ↦ n y | inr y ↦ z y.1 ])
      ])
    ])
  ]

  then_closed : (m : Log) → Comes s c m → Then m.tag → m.tag ≢ first → Then m.since
  then_closed m (inl (inl k)) h n =
      let was : T k.log.tag = old k.log.tag (b.good.good k.log k.there).tag (subst Then k.tag h) in
      subst Then (sym k.since) (inl (i.closed k.log k.there was (λ q. n (k.tag ∙ q))))
  then_closed m (inl (inr k)) h n = absurd (zero_out m.tag k.tag h)
  then_closed m (inr (inl k)) h n =
      let was : T k.log.since = fresh m.tag k.log (ap (λ (x : Log). x.tag) k.same) k.found h in
      subst Then (sym (ap (λ (x : Log). x.since) k.same)) (inl was)
  then_closed m (inr (inr k)) h n =
      let tag : m.tag ≡ k.log.tag = ap (λ (x : Log). x.tag) k.same in
      let was : T k.log.tag = old k.log.tag (b.good.good k.log k.there).tag (subst Then tag h) in
      then_new m.since k.log (ap (λ (x : Log). x.since) k.same) k.found (i.closed k.log k.there was (λ q. n (tag ∙ q)))

  then_member : (m : Log) → Comes s c m → Then m.since → Then m.tag ⊎ (m.disk ≡ d)
  then_member m (inl (inl k)) h = elim (i.member k.log k.there (old k.log.since (b.good.good k.log k.there).since (subst Then k.since h))) [
    | inl t ↦ inl (subst Then (sym k.tag) (inl t))
    | inr q ↦ inr (k.disk ∙ q)
  ]
  then_member m (inl (inr k)) h = absurd (zero_out m.since k.since h)
  then_member m (inr (inl k)) h =
      let was : T k.log.since = old k.log.since (b.good.good k.log k.there).since (subst Then (ap (λ (x : Log). x.since) k.same) h) in
      inl (then_new m.tag k.log (ap (λ (x : Log). x.tag) k.same) k.found was)
  then_member m (inr (inr k)) h = elim (i.member k.log k.there (fresh m.since k.log (ap (λ (x : Log). x.since) k.same) k.found h)) [
    | inl t ↦ inl (subst Then (sym (ap (λ (x : Log). x.tag) k.same)) (inl t))
    | inr q ↦ inr (ap (λ (x : Log). x.disk) k.same ∙ q)
  ]

  -- a log without a tag is that of the disk
  untagged : (l : Log) → In l s.logs → T l.since → l.tag ≡ 0 → l.disk ≡ d
  untagged l h t z = elim (i.member l h t) [
    | inl y ↦ absurd ((i.used l.tag y).1 z)
    | inr q ↦ q
  ]

  then_bits : (m : Log) → Comes s c m → Then m.since → bit m.bits piece ≡ true → HasReached d piece between
  then_bits m (inl (inl k)) h q =
      let was : T k.log.since = old k.log.since (b.good.good k.log k.there).since (subst Then k.since h) in
      elim (k.bits piece q) [
        | inl set ↦ i.bits k.log k.there was set
        | inr r ↦ within (subst (λ (v : List ℕ). Reaches v piece c) (untagged k.log k.there was r.0) r.1)
      ]
  then_bits m (inl (inr k)) h q = absurd (zero_out m.since k.since h)
  then_bits m (inr (inl k)) h q =
      let was : T k.log.since = old k.log.since (b.good.good k.log k.there).since (subst Then (ap (λ (x : Log). x.since) k.same) h) in
      i.bits k.log k.there was (sym (ap (λ (x : Log). bit x.bits piece) k.same) ∙ q)
  then_bits m (inr (inr k)) h q = absurd (true≢false (sym q ∙ (ap (λ (x : Log). bit x.bits piece) k.same ∙ blank (length k.log.bits) piece)))

  then_from : (m : Log) → In m (next s c).logs → Comes s c m
  then_from = comes s b.well b.good b.snapshots c (passed s c e)

  pub line_next : IsLine d first piece between Then (next s c)
  line_next = record {
    begins = λ n. inl (i.begins n);
    known = then_known;
    used = more_used s b c e T P i.used;
    closed = λ l h t n. then_closed l (then_from l h) t n;
    member = λ l h t. then_member l (then_from l h) t;
    bits = λ l h t q. then_bits l (then_from l h) t q;
  }

-- ---- one command after the other: what follows from such a line behind them

pub line_all : (goal : Type 0) (d : List ℕ) (first piece : ℕ) (between : List Command) (s : Shape) (cs : List Command) (T : ℕ → Type 0) → IsSound s → AllPass s cs
    → ((c : Command) → In c cs → In c between) → IsLine d first piece between T s
    → ((U : ℕ → Type 0) → IsLine d first piece between U (next_all s cs) → goal) → goal
unfolding next_all
line_all goal d first piece between s [] T b a within i done = done T i
line_all goal d first piece between s (c ∷ cs) T b a within i done =
    let mine : Reaches d piece c → HasReached d piece between = λ r. any_in (reaches d piece) between c (within c (inl refl)) r in
    line_all goal d first piece between (next s c) cs (Then s b c a.0 d first piece between T mine i) (next_sound s c a.0 b) a.1
    (λ x h. within x (inr h)) (line_next s b c a.0 d first piece between T mine i) done
