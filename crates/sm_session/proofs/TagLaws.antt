-- Each log that a stop leaves, and that has a tag, is that of a read-only disk.
use Rattle.std.proofs.Common.{◌≡◌, ◌≢◌, ◌⊎◌, inl, inr, ⊎_elim, ℕ, Bool, true, List, length, map, refl, sym, ap, ◌∙◌, subst}
use Rattle.common_laws.specs.Lists.{In}
use Rattle.common_laws.proofs.Lists.{In-insert_new}
use Rattle.sm_log.specs.Logs.{Log, begun_anew, log_before, log_of, on_log, twin_log, with_log}
use Rattle.sm_machine.proofs.LogDisks.{disk_snapshot}
use Rattle.sm_machine.specs.Disks.{Disk}
use Rattle.sm_machine.specs.Runs.{Face, face}
use Rattle.sm_machine.specs.Steps.{State}
use Rattle.sm_machine.specs.Tracking.{AreOfSnapshots}
use Rattle.sm_standing.specs.Contents.{Content}
use Rattle.sm_standing.specs.LogChecks.{IsLogLike}
use Rattle.sm_tracking.specs.Tracking.{IsLoggedBetween}
use Rattle.sm_session.specs.Truth.{AreTaken, StandIn}
use Rattle.sm_session.proofs.PassLaws.{Carries, IsGoodState, seen}
use Rattle.sm_session.proofs.TruthLaws.{IsOfSplit, IsWithinBoth, origin}

-- the disk of a log with a tag is read-only
pub state_taken : (σ : State) → IsGoodState σ → AreOfSnapshots σ.shape → AreTaken σ.disks σ.shape.logs
state_taken σ g marked l i tagged d j own = sym (disk_snapshot σ.disks σ.shape g.well g.are d l.disk j own) ∙ marked l i tagged

-- a log with the disk and the tag of another
pub record HasTagOf (m l : Log) : Type 0 where
  pub disk : l.disk ≡ m.disk
  pub tag : l.tag ≡ m.tag

pub tag_like : {m l : Log} → IsLogLike m l → HasTagOf m l
tag_like x = record { disk = x.disk; tag = x.tag }

pub tag_same : (l : Log) → HasTagOf l l
tag_same l = record { disk = refl; tag = refl }

-- disks with the faces of those from before or from after a step, and logs of which each has the tag of one from before, or of one from after whose disk is new
module _ (ds : List Disk) (old new : State) (was : IsGoodState old) (now : IsGoodState new) (marked : AreOfSnapshots old.shape) (still_marked : AreOfSnapshots new.shape) (faces : (map face ds ≡ map face old.disks) ⊎ (map face ds ≡ map face new.disks)) where
  abbrev pub IsFromEither : Log → Type 0
  IsFromEither l = ((m : Log) × In m old.shape.logs × HasTagOf m l) ⊎ ((m : Log) × In m new.shape.logs × HasTagOf m l × ((d : Disk) → In d old.disks → d.uuid ≡ m.disk → ⊥))

  -- each log from before has an heir, where its disk is still there
  abbrev pub HaveHeirs : Type 0
  HaveHeirs = (m : Log) → In m old.shape.logs → (d : Disk) → In d new.disks → d.uuid ≡ m.disk → (k : Log) × In k new.shape.logs × HasTagOf m k

  read_only_of : (d e : Disk) → face d ≡ face e → e.read_only ≡ true → d.read_only ≡ true
  read_only_of d e same is = ap (λ (f : Face). f.read_only) same ∙ is

  uuid_of_face : (d e : Disk) (u v : List ℕ) → face d ≡ face e → d.uuid ≡ u → u ≡ v → e.uuid ≡ v
  uuid_of_face d e u v same own is = sym (ap (λ (f : Face). f.uuid) same) ∙ own ∙ is

  old_taken : (m l : Log) → In m old.shape.logs → HasTagOf m l → l.tag ≢ 0 → (d e : Disk) → In e old.disks → face d ≡ face e → d.uuid ≡ l.disk → d.read_only ≡ true
  old_taken m l i like tagged d e j same own = read_only_of d e same (state_taken old was marked m i (λ z. tagged (like.tag ∙ z)) e j (uuid_of_face d e l.disk m.disk same own like.disk))

  new_taken : (m l : Log) → In m new.shape.logs → HasTagOf m l → l.tag ≢ 0 → (d e : Disk) → In e new.disks → face d ≡ face e → d.uuid ≡ l.disk → d.read_only ≡ true
  new_taken m l i like tagged d e j same own = read_only_of d e same (state_taken new now still_marked m i (λ z. tagged (like.tag ∙ z)) e j (uuid_of_face d e l.disk m.disk same own like.disk))

  pub left_taken : (ls : List Log) → HaveHeirs → ((l : Log) → In l ls → l.tag ≢ 0 → IsFromEither l) → AreTaken ds ls
  left_taken ls heirs from l i tagged d j own = ⊎_elim early late faces
    where
      early : map face ds ≡ map face old.disks → d.read_only ≡ true
      early same =
          let e = seen d ds old.disks j same in
          ⊎_elim (λ w. old_taken w.0 l w.1 w.2 tagged d e.0 e.1 e.2 own)
          (λ w. absurd (w.3 e.0 e.1 (uuid_of_face d e.0 l.disk (w.0).disk e.2 own w.2.disk))) (from l i tagged)

      late : map face ds ≡ map face new.disks → d.read_only ≡ true
      late same =
          let e = seen d ds new.disks j same in
          ⊎_elim
          (λ w. (let k = heirs w.0 w.1 e.0 e.1 (uuid_of_face d e.0 l.disk (w.0).disk e.2 own w.2.disk) in
          new_taken k.0 l k.1 (record { disk = w.2.disk ∙ sym k.2.disk; tag = w.2.tag ∙ sym k.2.tag }) tagged d e.0 e.1 e.2 own))
          (λ w. new_taken w.0 l w.1 w.2 tagged d e.0 e.1 e.2 own) (from l i tagged)

-- of a stop that leaves disks as they were, and only logs with the tags of those from before
pub still_taken : (ds : List Disk) (σ : State) → IsGoodState σ → AreOfSnapshots σ.shape → map face ds ≡ map face σ.disks → (ls : List Log) → ((l : Log) → In l ls → l.tag ≢ 0 → (m : Log) × In m σ.shape.logs × HasTagOf m l) → AreTaken ds ls
still_taken ds σ g marked same ls each = left_taken ds σ σ g g marked marked (inl same) ls (λ m i d j own. (m, i, tag_same m)) (λ l i tagged. inl (each l i tagged))

-- of a step that carries logs along
pub carried_taken : (c : Content) (ds : List Disk) (old new : State) → IsGoodState old → IsGoodState new → AreOfSnapshots old.shape → AreOfSnapshots new.shape → (map face ds ≡ map face old.disks) ⊎ (map face ds ≡ map face new.disks)
    → Carries old new → IsLoggedBetween c old.shape.logs new.shape.logs → (ls : List Log) → StandIn c ls → AreTaken ds ls
carried_taken c ds old new was now marked still_marked faces carried logged ls stand =
    left_taken ds old new was now marked still_marked faces ls
    (λ m i d j own. (let k = carried.to m i d j own in (k.0, k.1, tag_like k.2)))
    (λ l i tagged. inl (⊎_elim (λ early. (l, early, tag_same l)) (λ v. ⊎_elim (λ late. (let w = carried.from l late in (w.0, w.1, tag_like w.2))) both v) (origin c old.shape.logs new.shape.logs logged l (stand l i))))
  where
    both : {l : Log} → IsWithinBoth old.shape.logs new.shape.logs l → (m : Log) × In m old.shape.logs × HasTagOf m l
    both b = (b.was, b.in_old, record { disk = b.between.disk; tag = b.between.tag })

-- of a split, for a disk that was not there
pub split_taken : (ds : List Disk) (old new : State) (u twin : List ℕ) (tag : ℕ) (own : Log) → In own old.shape.logs → IsGoodState old → IsGoodState new → AreOfSnapshots old.shape → AreOfSnapshots new.shape → (map face ds ≡ map face old.disks) ⊎ (map face ds ≡ map face new.disks)
    → new.shape.logs ≡ with_log (twin_log twin tag own) (on_log u (begun_anew tag) old.shape.logs) → ((d : Disk) → In d old.disks → d.uuid ≢ twin)
    → ((m : Log) → In m old.shape.logs → (k : Log) × In k new.shape.logs × IsLogLike m k)
    → (ls : List Log) → ((l : Log) → In l ls → IsOfSplit u own (twin_log twin tag own) tag old.shape.logs l) → AreTaken ds ls
unfolding with_log
split_taken ds old new u twin tag own at was now marked still_marked faces is fresh behind ls each =
    left_taken ds old new was now marked still_marked faces ls
    (λ m i d j same. (let k = behind m i in (k.0, k.1, tag_like k.2)))
    (λ l i tagged. ⊎_elim
    (λ e. inr (twin_log twin tag own, subst (In (twin_log twin tag own)) (sym is) (In-insert_new log_before (twin_log twin tag own) (on_log u (begun_anew tag) old.shape.logs)), record { disk = ap (λ (x : Log). x.disk) e; tag = ap (λ (x : Log). x.tag) e }, fresh))
    (λ v. ⊎_elim (λ j. inl (l, j, tag_same l)) (λ w. inl (own, at, record { disk = w.0; tag = w.1 })) v) (each l i))
