-- What the walk from the later snapshot's log meets: logs that descend from the disk's log at the earlier snapshot, or none of them.
use Rattle.std.proofs.Common.{◌≡◌, ◌≢◌, ℕ, zero, suc, ◌<◌, ◌==◌, ◌⊎◌, ◌||◌, Bool, true, false, List, [], ◌∷◌, length, replicate, Option, Some, None, refl, sym, ap, ◌∙◌, subst, inl, inr, if◌then◌else◌, arith}
use Rattle.std.specs.List.{find}
use Rattle.std.specs.Str.{bytes_eq}
use Rattle.std.proofs.lemmas.Bool.{cases_eq, eq-eqb, eqb-true, or_cases, true≢false}
use Rattle.common_laws.specs.Lists.{In, ◌>>=◌}
use Rattle.common_laws.proofs.Bytes.{bytes_eq-apart, bytes_eq-refl, bytes_eq-same}
use Rattle.common_laws.proofs.Lists.{find-some}
use Rattle.sm_log.specs.Logs.{Log, before, bit, changed, log_of, united, walk, walked}
use Rattle.sm_log.specs.Told.{Follows}
use Rattle.sm_log.proofs.BitLaws.{bit-either}
use Rattle.sm_machine.specs.declared.commands.Command.{Command}
use Rattle.sm_machine.specs.Shapes.{Shape}
use Rattle.sm_machine.specs.Refusals.{refusal}
use Rattle.sm_machine.proofs.LogLists.{log_found}
use Rattle.sm_machine.proofs.Passed.{passed}
use Rattle.sm_reached.proofs.DescentLaws.{AreUsed, HasReached, More, more_new, more_old, more_used, new_more, not_zero}
use Rattle.sm_reached.proofs.TagLaws.{IsOwn}
use Rattle.sm_reached.proofs.SourceLaws.{Comes, blank, comes, source}
use Rattle.sm_reached.proofs.StepLaws.{AllPass, IsSound, next, next_all, next_sound, not_lower}

-- ---- the walk

before_parts : (l m : Log) (logs : List Log) → before l logs ≡ Some m → In m logs × Follows m l
before_parts l m logs h = by (l.since == 0) refl h
  where
    by : (b : Bool) → (l.since == 0) ≡ b → (if b then None else find (λ k. k.tag == l.since) logs) ≡ Some m → In m logs × Follows m l
    by true e q = let z : None ≡ Some m = q in cc
    by false e q =
        let p : In m logs × ((m.tag == l.since) ≡ true) = find-some (λ k. k.tag == l.since) logs m q in
        let same : m.tag ≡ l.since = eqb-true m.tag l.since p.1 in
        let begun : l.since ≢ 0 = λ z. let t : (l.since == 0) ≡ true = eq-eqb l.since 0 z in cc in
        (p.0, record { tagged = λ z. begun (sym same ∙ z); since = sym same })

no_walk : (most : ℕ) (u : List ℕ) (logs : List Log) → walk most u logs None ≡ None
unfolding walk
no_walk zero u logs = refl
no_walk (suc most) u logs = refl

one_step : (l : Log) (ls : List Log) (r : Option (List Log)) → (r >>= λ rest. Some (l ∷ rest)) ≡ Some ls → (rest : List Log) × (r ≡ Some rest) × (ls ≡ l ∷ rest)
one_step l ls None e = let z : None ≡ Some ls = e in cc
one_step l ls (Some rest) e = let z : Some (l ∷ rest) ≡ Some ls = e in let s : l ∷ rest ≡ ls = cc in (rest, refl, sym s)

-- a walk that leads to the log of a disk: it is there, or it goes on from the log before
record GoesOn (most : ℕ) (u : List ℕ) (logs : List Log) (l : Log) (ls : List Log) : Type 0 where
  log : Log
  rest : List Log
  there : In log logs
  follows : Follows log l
  further : walk most u logs (Some log) ≡ Some rest
  same : ls ≡ l ∷ rest

steps : (most : ℕ) (u : List ℕ) (logs : List Log) (l : Log) (ls : List Log) → walk (suc most) u logs (Some l) ≡ Some ls → ((l.disk ≡ u) × (ls ≡ [])) ⊎ GoesOn most u logs l ls
unfolding walk
steps most u logs l ls e = by (bytes_eq l.disk u) refl e
  where
    goes : (o : Option Log) → before l logs ≡ o → (rest : List Log) → walk most u logs o ≡ Some rest → ls ≡ l ∷ rest → GoesOn most u logs l ls
    goes None q rest w is = let z : None ≡ Some rest = sym (no_walk most u logs) ∙ w in absurd (cc)
    goes (Some m) q rest w is = let p : In m logs × Follows m l = before_parts l m logs q in record { log = m; rest = rest; there = p.0; follows = p.1; further = w; same = is }

    by : (b : Bool) → bytes_eq l.disk u ≡ b → (if b then Some [] else (walk most u logs (before l logs) >>= λ rest. Some (l ∷ rest))) ≡ Some ls → ((l.disk ≡ u) × (ls ≡ [])) ⊎ GoesOn most u logs l ls
    by true q w = let z : Some [] ≡ Some ls = w in let s : [] ≡ ls = cc in inl (bytes_eq-same l.disk u q, sym s)
    by false q w =
        let p : (rest : List Log) × (walk most u logs (before l logs) ≡ Some rest) × (ls ≡ l ∷ rest) = one_step l ls (walk most u logs (before l logs)) w in
        inr (goes (before l logs) refl p.0 p.1 p.2)

-- what is told of two disks comes from a walk
record IsWalked (pieces : ℕ) (u n : List ℕ) (logs : List Log) (bits : List Bool) : Type 0 where
  log : Log
  ls : List Log
  there : In log logs
  named : log.disk ≡ n
  leads : walk (length logs) u logs (Some log) ≡ Some ls
  told : bits ≡ united (replicate pieces false) ls

told_walked : (pieces : ℕ) (u n : List ℕ) (logs : List Log) (bits : List Bool) → u ≢ n → changed pieces u n logs ≡ Some bits → IsWalked pieces u n logs bits
unfolding changed
told_walked pieces u n logs bits apart e = by (bytes_eq u n) (bytes_eq-apart u n apart) e
  where
    by_log : (o : Option Log) → log_of n logs ≡ o → (r : Option (List Log)) → walk (length logs) u logs o ≡ r → (r >>= λ ls. Some (united (replicate pieces false) ls)) ≡ Some bits → IsWalked pieces u n logs bits
    by_log o q None w b = let z : None ≡ Some bits = b in absurd (cc)
    by_log None q (Some ls) w b = let z : None ≡ Some ls = sym (no_walk (length logs) u logs) ∙ w in absurd (cc)
    by_log (Some l) q (Some ls) w b =
        let z : Some (united (replicate pieces false) ls) ≡ Some bits = b in
        let s : united (replicate pieces false) ls ≡ bits = cc in
        let p : In l logs × (l.disk ≡ n) = log_found n logs l q in
        record { log = l; ls = ls; there = p.0; named = p.1; leads = w; told = sym s }

    by : (b : Bool) → b ≡ false → (if b then Some (replicate pieces false) else (walked u n logs >>= λ ls. Some (united (replicate pieces false) ls))) ≡ Some bits → IsWalked pieces u n logs bits
    by true f q = absurd (true≢false f)
    by false f q = by_log (log_of n logs) refl (walk (length logs) u logs (log_of n logs)) refl q

-- ---- the later snapshot descends from the disk's log at the earlier one

-- each log with such a tag other than the first is since such a one, and its bits were reached between the two
pub record IsInside (d : List ℕ) (first piece : ℕ) (between : List Command) (T : ℕ → Type 0) (s : Shape) : Type 0 where
  pub used : AreUsed T s
  pub since : (l : Log) → In l s.logs → T l.tag → l.tag ≢ first → T l.since
  pub bits : (l : Log) → In l s.logs → T l.tag → l.tag ≢ first → bit l.bits piece ≡ true → HasReached d piece between

module _ (s : Shape) (b : IsSound s) (c : Command) (e : refusal s c ≡ None) (d : List ℕ) (first piece : ℕ) (between : List Command) (T : ℕ → Type 0)
    (low : first < s.sequence) (i : IsInside d first piece between T s) where
  abbrev P : Log → Type 0
  P l = T l.tag × (l.tag ≢ first)

  abbrev Then : ℕ → Type 0
  Then = More T P s c

  old : (x : ℕ) → x < s.sequence → Then x → T x
  old = more_old s b c e T P i.used

  fresh : (x : ℕ) (l : Log) → x ≡ s.sequence → source s c ≡ Some l → Then x → T l.tag × (l.tag ≢ first)
  fresh = more_new s b c e T P i.used

  then_since : (m : Log) → Comes s c m → Then m.tag → m.tag ≢ first → Then m.since
  then_since m (inl (inl k)) h n =
      let was : T k.log.tag = old k.log.tag (b.good.good k.log k.there).tag (subst Then k.tag h) in
      subst Then (sym k.since) (inl (i.since k.log k.there was (λ q. n (k.tag ∙ q))))
  then_since m (inl (inr k)) h n = absurd (not_zero s b c e T P i.used m.tag k.tag h)
  then_since m (inr (inl k)) h n =
      let was : T k.log.tag × (k.log.tag ≢ first) = fresh m.tag k.log (ap (λ (x : Log). x.tag) k.same) k.found h in
      subst Then (sym (ap (λ (x : Log). x.since) k.same)) (inl (i.since k.log k.there was.0 was.1))
  then_since m (inr (inr k)) h n =
      let tag : m.tag ≡ k.log.tag = ap (λ (x : Log). x.tag) k.same in
      let was : T k.log.tag = old k.log.tag (b.good.good k.log k.there).tag (subst Then tag h) in
      new_more s b c e T P i.used m.since k.log (ap (λ (x : Log). x.since) k.same) k.found (was, λ q. n (tag ∙ q))

  then_bits : (m : Log) → Comes s c m → Then m.tag → m.tag ≢ first → bit m.bits piece ≡ true → HasReached d piece between
  then_bits m (inl (inl k)) h n q =
      let was : T k.log.tag = old k.log.tag (b.good.good k.log k.there).tag (subst Then k.tag h) in
      elim (k.bits piece q) [
        | inl set ↦ i.bits k.log k.there was (λ z. n (k.tag ∙ z)) set
        | inr r ↦ absurd ((i.used k.log.tag was).1 r.0)
      ]
  then_bits m (inl (inr k)) h n q = absurd (not_zero s b c e T P i.used m.tag k.tag h)
  then_bits m (inr (inl k)) h n q =
      let was : T k.log.tag × (k.log.tag ≢ first) = fresh m.tag k.log (ap (λ (x : Log). x.tag) k.same) k.found h in
      i.bits k.log k.there was.0 was.1 (sym (ap (λ (x : Log). bit x.bits piece) k.same) ∙ q)
  then_bits m (inr (inr k)) h n q = absurd (true≢false (sym q ∙ (ap (λ (x : Log). bit x.bits piece) k.same ∙ blank (length k.log.bits) piece)))

  inside_from : (m : Log) → In m (next s c).logs → Comes s c m
  inside_from = comes s b.well b.good b.snapshots c (passed s c e)

  inside_next : IsInside d first piece between Then (next s c)
  inside_next = record {
    used = more_used s b c e T P i.used;
    since = λ l h t n. then_since l (inside_from l h) t n;
    bits = λ l h t n q. then_bits l (inside_from l h) t n q;
  }

pub inside_all : (goal : Type 0) (d : List ℕ) (first later piece : ℕ) (between : List Command) (s : Shape) (cs : List Command) (T : ℕ → Type 0) → IsSound s → AllPass s cs → first < s.sequence
    → T later → IsInside d first piece between T s → ((U : ℕ → Type 0) → U later → IsInside d first piece between U (next_all s cs) → goal) → goal
unfolding next_all
inside_all goal d first later piece between s [] T b a low h i done = done T h i
inside_all goal d first later piece between s (c ∷ cs) T b a low h i done =
    inside_all goal d first later piece between (next s c) cs (Then s b c a.0 d first piece between T low i) (next_sound s c a.0 b) a.1 (omega (arith, low, not_lower s c b.well))
    (inl h) (inside_next s b c a.0 d first piece between T low i) done

module _ (s : Shape) (d u : List ℕ) (first piece pieces : ℕ) (between : List Command) (T : ℕ → Type 0) (o : IsOwn u first s) (i : IsInside d first piece between T s) where
  -- a walk that is at its end tells of no piece
  ended : (most : ℕ) (m : Log) (rest : List Log) → m.disk ≡ u → walk most u s.logs (Some m) ≡ Some rest → bit (united (replicate pieces false) rest) piece ≡ false
  unfolding walk united
  ended zero m rest q w = let z : None ≡ Some rest = w in cc
  ended (suc most) m rest q w = by (bytes_eq m.disk u) (subst (λ (v : List ℕ). bytes_eq v u ≡ true) (sym q) (bytes_eq-refl u)) w
    where
      by : (b : Bool) → b ≡ true → (if b then Some [] else (walk most u s.logs (before m s.logs) >>= λ ls. Some (m ∷ ls))) ≡ Some rest → bit (united (replicate pieces false) rest) piece ≡ false
      by true f r = let z : Some [] ≡ Some rest = r in let y : [] ≡ rest = cc in subst (λ (ls : List Log). bit (united (replicate pieces false) ls) piece ≡ false) y (blank pieces piece)
      by false f r = absurd (true≢false (sym f))

  walk_inside : (most : ℕ) (l : Log) (ls : List Log) → In l s.logs → T l.tag → l.tag ≢ first → walk most u s.logs (Some l) ≡ Some ls
      → bit (united (replicate pieces false) ls) piece ≡ true → HasReached d piece between
  unfolding walk united
  walk_inside zero l ls h t n w q = let z : None ≡ Some ls = w in absurd (cc)
  walk_inside (suc most) l ls h t n w q = elim (steps most u s.logs l ls w) [
    | inl r ↦ absurd (n (o.tagged l h r.0).0)
    | inr g ↦
        (let either_set : (bit l.bits piece || bit (united (replicate pieces false) g.rest) piece) ≡ true = sym (bit-either l.bits (united (replicate pieces false) g.rest) piece) ∙ (sym (ap (λ (x : List Log). bit (united (replicate pieces false) x) piece) g.same) ∙ q) in
        elim (or_cases (bit l.bits piece) (bit (united (replicate pieces false) g.rest) piece) either_set) [
          | inl set ↦ i.bits l h t n set
          | inr set ↦ (elim (cases_eq g.log.tag first) [
            | inr apart ↦ walk_inside most g.log g.rest g.there (subst T g.follows.since (i.since l h t n)) apart g.further set
            | inl same ↦ absurd (true≢false (sym set ∙ ended most g.log g.rest (o.only g.log g.there same (λ z. g.follows.tagged (same ∙ z))) g.further))
          ])
        ])
  ]

  pub inside_told : (n : List ℕ) (later : ℕ) (bits : List Bool) → u ≢ n → IsOwn n later s → T later → later ≢ first → changed pieces u n s.logs ≡ Some bits → bit bits piece ≡ true
      → HasReached d piece between
  inside_told n later bits differ own t apart e q =
      let k : IsWalked pieces u n s.logs bits = told_walked pieces u n s.logs bits differ e in
      let tag : k.log.tag ≡ later = (own.tagged k.log k.there k.named).0 in
      walk_inside (length s.logs) k.log k.ls k.there (subst T (sym tag) t) (λ z. apart (sym tag ∙ z)) k.leads (sym (ap (λ (x : List Bool). bit x piece) k.told) ∙ q)

-- ---- the later snapshot does not descend from it

-- each log since such a tag has such a tag, or none at all, and that of the snapshot from which the walk begins is no such tag
pub record IsApart (first later : ℕ) (T : ℕ → Type 0) (s : Shape) : Type 0 where
  pub begins : first ≢ 0 → T first
  pub out : T later → ⊥
  pub below : later < s.sequence
  pub used : AreUsed T s
  pub tags : (l : Log) → In l s.logs → T l.since → T l.tag ⊎ (l.tag ≡ 0)

module _ (s : Shape) (b : IsSound s) (c : Command) (e : refusal s c ≡ None) (first later : ℕ) (T : ℕ → Type 0) (i : IsApart first later T s) where
  abbrev Q : Log → Type 0
  Q l = T l.since

  abbrev Thus : ℕ → Type 0
  Thus = More T Q s c

  thus_old : (x : ℕ) → x < s.sequence → Thus x → T x
  thus_old = more_old s b c e T Q i.used

  thus_tags : (m : Log) → Comes s c m → Thus m.since → Thus m.tag ⊎ (m.tag ≡ 0)
  thus_tags m (inl (inl k)) h = elim (i.tags k.log k.there (thus_old k.log.since (b.good.good k.log k.there).since (subst Thus k.since h))) [
    | inl t ↦ inl (subst Thus (sym k.tag) (inl t))
    | inr z ↦ inr (k.tag ∙ z)
  ]
  thus_tags m (inl (inr k)) h = inr k.tag
  thus_tags m (inr (inl k)) h =
      let was : T k.log.since = thus_old k.log.since (b.good.good k.log k.there).since (subst Thus (ap (λ (x : Log). x.since) k.same) h) in
      inl (new_more s b c e T Q i.used m.tag k.log (ap (λ (x : Log). x.tag) k.same) k.found was)
  thus_tags m (inr (inr k)) h = elim (i.tags k.log k.there (more_new s b c e T Q i.used m.since k.log (ap (λ (x : Log). x.since) k.same) k.found h)) [
    | inl t ↦ inl (subst Thus (sym (ap (λ (x : Log). x.tag) k.same)) (inl t))
    | inr z ↦ inr (ap (λ (x : Log). x.tag) k.same ∙ z)
  ]

  apart_next : IsApart first later Thus (next s c)
  apart_next = record {
    begins = λ n. inl (i.begins n);
    out = λ h. i.out (thus_old later i.below h);
    below = omega (arith, i.below, not_lower s c b.well);
    used = more_used s b c e T Q i.used;
    tags = λ l h t. thus_tags l (comes s b.well b.good b.snapshots c (passed s c e) l h) t;
  }

pub apart_all : (goal : Type 0) (first later : ℕ) (s : Shape) (cs : List Command) (T : ℕ → Type 0) → IsSound s → AllPass s cs → IsApart first later T s
    → ((U : ℕ → Type 0) → IsApart first later U (next_all s cs) → goal) → goal
unfolding next_all
apart_all goal first later s [] T b a i done = done T i
apart_all goal first later s (c ∷ cs) T b a i done =
    apart_all goal first later (next s c) cs (Thus s b c a.0 first later T i) (next_sound s c a.0 b) a.1 (apart_next s b c a.0 first later T i) done

module _ (s : Shape) (u : List ℕ) (first later : ℕ) (T : ℕ → Type 0) (o : IsOwn u first s) (i : IsApart first later T s) where
  -- a walk from a log with another tag does not lead to the snapshot
  no_lead : (most : ℕ) (l : Log) (ls : List Log) → In l s.logs → (T l.tag → ⊥) → l.tag ≢ 0 → l.disk ≢ u → walk most u s.logs (Some l) ≡ Some ls → ⊥
  unfolding walk
  no_lead zero l ls h n some apart w = let z : None ≡ Some ls = w in cc
  no_lead (suc most) l ls h n some apart w = elim (steps most u s.logs l ls w) [
    | inl q ↦ apart q.0
    | inr g ↦
        (let out : T l.since → ⊥ = λ t. elim (i.tags l h t) [ inl y ↦ n y | inr z ↦ some z ] in
        no_lead most g.log g.rest g.there (λ t. out (subst T (sym g.follows.since) t)) g.follows.tagged
        (λ q. (let t : (g.log.tag ≡ first) × (first ≢ 0) = o.tagged g.log g.there q in out (subst T (sym (g.follows.since ∙ t.0)) (i.begins t.1))))
        g.further)
  ]

  pub apart_untold : (pieces : ℕ) (n : List ℕ) (bits : List Bool) → u ≢ n → IsOwn n later s → changed pieces u n s.logs ≡ Some bits → ⊥
  apart_untold pieces n bits differ own e =
      let k : IsWalked pieces u n s.logs bits = told_walked pieces u n s.logs bits differ e in
      let t : (k.log.tag ≡ later) × (later ≢ 0) = own.tagged k.log k.there k.named in
      no_lead (length s.logs) k.log k.ls k.there (λ h. i.out (subst T t.0 h)) (λ z. t.1 (sym t.0 ∙ z)) (λ q. differ (sym q ∙ k.named)) k.leads
