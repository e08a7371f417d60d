-- A snapshot's log keeps the tag that it was given, and no other log has it.
use Rattle.std.proofs.Common.{◌≡◌, ◌≢◌, ℕ, ◌<◌, true, List, [], ◌∷◌, Some, None, refl, sym, ap, ◌∙◌, inl, inr, arith}
use Rattle.common_laws.specs.Lists.{In}
use Rattle.sm_log.specs.Logs.{Log}
use Rattle.sm_machine.specs.declared.commands.Command.{Command}
use Rattle.sm_machine.specs.declared.commands.Command.TheVariants.{Snapshot, Track}
use Rattle.sm_machine.specs.Shapes.{Shape}
use Rattle.sm_machine.specs.Refusals.{new_uuid, refusal}
use Rattle.sm_machine.specs.WellFormed.{HasRecord}
use Rattle.sm_machine.proofs.Passed.{IsPassed, passed}
use Rattle.sm_reached.specs.Reached.{MakesNone}
use Rattle.sm_reached.proofs.SnapshotLaws.{IsMarked, marked_next, no_twin, not_begun, twin_marked}
use Rattle.sm_reached.proofs.SourceLaws.{Comes, comes}
use Rattle.sm_reached.proofs.StepLaws.{AllPass, IsSound, higher, next, next_all, next_sound, not_lower}

-- a disk for reading alone, whose log has this tag, other than 0, where it has one; no other log has the tag
pub record IsOwn (u : List ℕ) (tag : ℕ) (s : Shape) : Type 0 where
  pub marked : IsMarked u s
  pub used : tag < s.sequence
  pub tagged : (l : Log) → In l s.logs → l.disk ≡ u → (l.tag ≡ tag) × (tag ≢ 0)
  pub only : (l : Log) → In l s.logs → l.tag ≡ tag → tag ≢ 0 → l.disk ≡ u

-- ---- a snapshot is taken

module _ (s : Shape) (b : IsSound s) (d u : List ℕ) (e : refusal s (Snapshot d u) ≡ None) where
  p : IsPassed s (Snapshot d u)
  p = passed s (Snapshot d u) e

  -- no log is that of the snapshot yet
  none_yet : (l : Log) → In l s.logs → l.disk ≡ u → ⊥
  none_yet l h q = let r : HasRecord s l.disk = (b.good.good l h).disk in no_twin s b.well d u p r.0 r.1 (r.2 ∙ q)

  -- no log has its tag yet
  no_tag : (l : Log) → In l s.logs → l.tag ≡ s.sequence → ⊥
  no_tag l h q = let below : l.tag < s.sequence = (b.good.good l h).tag in absurd (omega (arith, below, q))

  -- the command is this one
  twin_is : (l : Log) (twin : List ℕ) → Snapshot d u ≡ Snapshot l.disk twin → twin ≡ u
  twin_is l twin q = cc

  begun_tagged : (m : Log) → Comes s (Snapshot d u) m → m.disk ≡ u → (m.tag ≡ s.sequence) × (s.sequence ≢ 0)
  begun_tagged m (inl (inl k)) q = absurd (none_yet k.log k.there (sym k.disk ∙ q))
  begun_tagged m (inl (inr k)) q = absurd (let x : Snapshot d u ≡ Track m.disk true = k.command in cc)
  begun_tagged m (inr (inl k)) q = let below : k.log.tag < s.sequence = (b.good.good k.log k.there).tag in (ap (λ (x : Log). x.tag) k.same, λ z. omega (arith, below, z))
  begun_tagged m (inr (inr k)) q = absurd (none_yet k.log k.there (sym (ap (λ (x : Log). x.disk) k.same) ∙ q))

  begun_only : (m : Log) → Comes s (Snapshot d u) m → m.tag ≡ s.sequence → m.disk ≡ u
  begun_only m (inl (inl k)) q = absurd (no_tag k.log k.there (sym k.tag ∙ q))
  begun_only m (inl (inr k)) q = absurd (let x : Snapshot d u ≡ Track m.disk true = k.command in cc)
  begun_only m (inr (inl k)) q = ap (λ (x : Log). x.disk) k.same ∙ twin_is k.log k.twin k.command
  begun_only m (inr (inr k)) q = absurd (no_tag k.log k.there (sym (ap (λ (x : Log). x.tag) k.same) ∙ q))

  pub own_begun : IsOwn u s.sequence (next s (Snapshot d u))
  own_begun = record {
    marked = twin_marked s b.well d u p;
    used = higher s d u e;
    tagged = λ m h q. begun_tagged m (comes s b.well b.good b.snapshots (Snapshot d u) p m h) q;
    only = λ m h q t. begun_only m (comes s b.well b.good b.snapshots (Snapshot d u) p m h) q;
  }

-- ---- over each command that does not make the disk again

module _ (s : Shape) (b : IsSound s) (c : Command) (e : refusal s c ≡ None) (u : List ℕ) (tag : ℕ) (apart : new_uuid c ≢ Some u) (o : IsOwn u tag s) where
  made_other : (l : Log) (twin : List ℕ) → c ≡ Snapshot l.disk twin → twin ≢ u
  unfolding new_uuid
  made_other l twin q same = apart (ap new_uuid q ∙ ap (λ (v : List ℕ). Some v) same)

  not_made : (m : Log) → c ≡ Track m.disk true → m.disk ≡ u → ⊥
  not_made m q same =
      let is : c ≡ Track u true = q ∙ ap (λ (v : List ℕ). Track v true) same in
      not_begun s u o.marked (passed s (Track u true) (sym (ap (refusal s) is) ∙ e))

  next_tagged : (m : Log) → Comes s c m → m.disk ≡ u → (m.tag ≡ tag) × (tag ≢ 0)
  next_tagged m (inl (inl k)) q = let t : (k.log.tag ≡ tag) × (tag ≢ 0) = o.tagged k.log k.there (sym k.disk ∙ q) in (k.tag ∙ t.0, t.1)
  next_tagged m (inl (inr k)) q = absurd (not_made m k.command q)
  next_tagged m (inr (inl k)) q = absurd (made_other k.log k.twin k.command (sym (ap (λ (x : Log). x.disk) k.same) ∙ q))
  next_tagged m (inr (inr k)) q =
      let t : (k.log.tag ≡ tag) × (tag ≢ 0) = o.tagged k.log k.there (sym (ap (λ (x : Log). x.disk) k.same) ∙ q) in
      (ap (λ (x : Log). x.tag) k.same ∙ t.0, t.1)

  next_only : (m : Log) → Comes s c m → m.tag ≡ tag → tag ≢ 0 → m.disk ≡ u
  next_only m (inl (inl k)) q t = k.disk ∙ o.only k.log k.there (sym k.tag ∙ q) t
  next_only m (inl (inr k)) q t = absurd (t (sym q ∙ k.tag))
  next_only m (inr (inl k)) q t = let x : m.tag ≡ s.sequence = ap (λ (x : Log). x.tag) k.same in absurd (omega (arith, x, q, o.used))
  next_only m (inr (inr k)) q t = ap (λ (x : Log). x.disk) k.same ∙ o.only k.log k.there (sym (ap (λ (x : Log). x.tag) k.same) ∙ q) t

  pub own_next : IsOwn u tag (next s c)
  own_next = record {
    marked = marked_next s b.well u c (passed s c e) apart o.marked;
    used = omega (arith, o.used, not_lower s c b.well);
    tagged = λ m h q. next_tagged m (comes s b.well b.good b.snapshots c (passed s c e) m h) q;
    only = λ m h q t. next_only m (comes s b.well b.good b.snapshots c (passed s c e) m h) q t;
  }

pub own_all : (s : Shape) (cs : List Command) (u : List ℕ) (tag : ℕ) → IsSound s → AllPass s cs → MakesNone u cs → IsOwn u tag s → IsOwn u tag (next_all s cs)
unfolding next_all
own_all s [] u tag b a none o = o
own_all s (c ∷ cs) u tag b a none o = own_all (next s c) cs u tag (next_sound s c a.0 b) a.1 (λ x h. none x (inr h)) (own_next s b c a.0 u tag (none c (inl refl)) o)
