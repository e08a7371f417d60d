-- What disks with a log show behind a step.
use Rattle.std.proofs.Common.{◌≡◌, ◌≢◌, ℕ, zero, suc, ◌+◌, ◌*◌, ◌<◌, ◌≤◌, ◌⊎◌, Bool, true, false, not, List, [], ◌∷◌, ◌++◌, map, length, take, drop, Option, Some, None, refl, sym, ap, ◌∙◌, subst, inl, inr, arith}
use Rattle.std.specs.Prelude.{is_none, is_some}
use Rattle.std.specs.List.{filter, find, slice_get}
use Rattle.std.specs.Str.{bytes_eq}
use Rattle.std.proofs.lemmas.Bool.{cases_lt, true≢false}
use Rattle.common_laws.specs.Lists.{In, Distinct, when, ◌>>=◌}
use Rattle.common_laws.proofs.Bytes.{bytes_eq-same}
use Rattle.common_laws.proofs.Lists.{Distinct-key, In-filter, In-insert, In-insert_old, In-map, find-some}
use Rattle.sm_base.proofs.NumberLemmas.{le-div_up}
use Rattle.sm_base.specs.declared.operations.Mode.TheVariants.{Ro, Rw}
use Rattle.sm_log.specs.Logs.{Log, log_of, piece_count, piece_sectors}
use Rattle.sm_log.specs.Told.{IsWithin}
use Rattle.sm_machine.specs.declared.commands.Command.{Command}
use Rattle.sm_machine.specs.declared.commands.Command.TheVariants.{Create, Delete, Snapshot, Clone, Resize, Label, Write, Fill}
use Rattle.sm_machine.specs.Disks.{Disk, is_disk, on_disk, overwritten, with_disk}
use Rattle.sm_machine.specs.Shapes.{Shape, Attachment, DiskRecord, attached_as, is_ro}
use Rattle.sm_machine.specs.Refusals.{is_tracked, is_outside, is_snapshot, is_taken, new_uuid, rounded}
use Rattle.sm_machine.specs.Runs.{HasSector}
use Rattle.sm_machine.specs.Steps.{disks_next, fork_disks, grown_disk, written_disk}
use Rattle.sm_machine.specs.Tracking.{AreGoodLogs, AreOfSnapshots}
use Rattle.sm_machine.specs.WellFormed.{AreDisksOf, HasRecord, IsWellFormed, record_of}
use Rattle.sm_machine.proofs.Forks.{IsForkable, recorded}
use Rattle.sm_machine.proofs.Fresh
use Rattle.sm_machine.proofs.LogDisks.{IsOfDisk, disk_recorded, disk_snapshot, disk_there, its_record, log_disk}
use Rattle.sm_machine.proofs.LogLists.{no_log}
use Rattle.sm_machine.proofs.Passed.{IsPassed}
use Rattle.sm_machine.proofs.Steps.{clone_facts, snapshot_facts}
use Rattle.sm_machine.proofs.Together.{within}

-- ---- sectors that are not written over

before : (at : ℕ) (old rest : List (List ℕ)) (k : ℕ) → k < at → at ≤ length old → slice_get (take at old ++ rest) k ≡ slice_get old k
before zero old rest k h l = absurd (omega (arith, h))
before (suc at) [] rest k h l = absurd (omega (arith, l))
before (suc at) (x ∷ old) rest zero h l = refl
before (suc at) (x ∷ old) rest (suc k) h l = before at old rest k (omega (arith, h)) (omega (arith, l))

behind : (at : ℕ) (new old : List (List ℕ)) (m k : ℕ) → m ≡ at + length new → m ≤ k → m ≤ length old → slice_get (take at old ++ (new ++ drop m old)) k ≡ slice_get old k
behind zero [] old zero k e h l = refl
behind zero [] old (suc m) k e h l = absurd (omega (arith, e))
behind zero (y ∷ new) old zero k e h l = absurd (omega (arith, e))
behind zero (y ∷ new) [] (suc m) k e h l = absurd (omega (arith, l))
behind zero (y ∷ new) (x ∷ old) (suc m) zero e h l = absurd (omega (arith, h))
behind zero (y ∷ new) (x ∷ old) (suc m) (suc k) e h l = behind zero new old m k (omega (arith, e)) (omega (arith, h)) (omega (arith, l))
behind (suc at) new old zero k e h l = absurd (omega (arith, e))
behind (suc at) new [] (suc m) k e h l = absurd (omega (arith, l))
behind (suc at) new (x ∷ old) (suc m) zero e h l = absurd (omega (arith, h))
behind (suc at) new (x ∷ old) (suc m) (suc k) e h l = behind at new old m k (omega (arith, e)) (omega (arith, h)) (omega (arith, l))

-- a sector of a disk that is written over is the disk's, or lies within
over : (at count : ℕ) (new old : List (List ℕ)) (k : ℕ) → length new ≡ count → at + count ≤ length old → (slice_get (overwritten at new old) k ≡ slice_get old k) ⊎ IsWithin at count k
unfolding overwritten
over at count new old k n l = elim (cases_lt k at) [
  | inl h ↦ inl (before at old (new ++ drop (at + length new) old) k h (omega (arith, l)))
  | inr h ↦ (elim (cases_lt k (at + count)) [
    | inl i ↦ inr (record { from = h; to = i })
    | inr i ↦ inl (behind at new old (at + length new) k refl (omega (arith, i, n)) (omega (arith, l, n)))
  ])
]

-- ---- disks before and after

-- each sector of a disk was one of it
abbrev pub Had : List Disk → List Disk → List ℕ → Type 0
Had old new v = (k : ℕ) (x : List ℕ) → HasSector new v k x → HasSector old v k x

pub had_beside : (n : Disk) (disks : List Disk) (v : List ℕ) → n.uuid ≢ v → Had disks (with_disk n disks) v
unfolding with_disk
had_beside n disks v other k x h = elim (In-insert _ n disks h.disk h.is_there) [
  | inl e ↦ absurd (other (sym (ap (λ (d : Disk). d.uuid) e) ∙ h.is_named))
  | inr i ↦ record { disk = h.disk; is_there = i; is_named = h.is_named; holds = h.holds }
]

pub had_forked : (u twin : List ℕ) (read_only : Bool) (o : Option Disk) (disks : List Disk) (v : List ℕ) → twin ≢ v → Had disks (fork_disks u twin read_only o disks) v
had_forked u twin read_only None disks v other k x h = h
had_forked u twin read_only (Some b) disks v other k x h = had_beside (record { uuid = twin; label = b.label; origin = Some u; read_only = read_only; sectors = b.sectors }) disks v other k x h

pub had_filter : (u : List ℕ) (disks : List Disk) (v : List ℕ) → Had disks (filter (λ (d : Disk). not (is_disk u d)) disks) v
had_filter u disks v k x h = record { disk = h.disk; is_there = (In-filter (λ (d : Disk). not (is_disk u d)) disks h.disk h.is_there).0; is_named = h.is_named; holds = h.holds }

-- a disk among those of which one is changed: that one, or one of before
record WasChanged (u : List ℕ) (f : Disk → Disk) (disks : List Disk) (d : Disk) : Type 0 where
  old : Disk
  there : In old disks
  cases : ((old.uuid ≡ u) × (d ≡ f old)) ⊎ (d ≡ old)

was_changed : (u : List ℕ) (f : Disk → Disk) (disks : List Disk) (d : Disk) → In d (on_disk u f disks) → WasChanged u f disks d
was_changed u f disks d h = record { old = r.0; there = r.1; cases = by (is_disk u r.0) refl r.2 }
  where
    r : (b : Disk) × In b disks × (d ≡ when (is_disk u b) f b)
    r = In-map (λ (x : Disk). when (is_disk u x) f x) disks d h

    by : (c : Bool) → is_disk u r.0 ≡ c → d ≡ when c f r.0 → ((r.0.uuid ≡ u) × (d ≡ f r.0)) ⊎ (d ≡ r.0)
    by true e q = inl (bytes_eq-same r.0.uuid u e, q)
    by false e q = inr q

-- a sector of a disk of before
held : (disks : List Disk) (old d : Disk) (v : List ℕ) (k : ℕ) (x : List ℕ) → In old disks → old.uuid ≡ d.uuid → slice_get d.sectors k ≡ slice_get old.sectors k → d.uuid ≡ v → slice_get d.sectors k ≡ Some x → HasSector disks v k x
held disks old d v k x h e s n q = record { disk = old; is_there = h; is_named = e ∙ n; holds = sym s ∙ q }

pub had_other : (u : List ℕ) (f : Disk → Disk) → ((d : Disk) → (f d).uuid ≡ d.uuid) → (disks : List Disk) (v : List ℕ) → u ≢ v → Had disks (on_disk u f disks) v
had_other u f keeps disks v other k x h =
    let c : WasChanged u f disks h.disk = was_changed u f disks h.disk h.is_there in
    elim c.cases [
      | inl p ↦ absurd (other (sym p.0 ∙ (sym (keeps c.old) ∙ (sym (ap (λ (d : Disk). d.uuid) p.1) ∙ h.is_named))))
      | inr e ↦ held disks c.old h.disk v k x c.there (sym (ap (λ (d : Disk). d.uuid) e)) (ap (λ (d : Disk). slice_get d.sectors k) e) h.is_named h.holds
    ]

pub had_same : (u : List ℕ) (f : Disk → Disk) → ((d : Disk) → ((f d).uuid ≡ d.uuid) × ((f d).sectors ≡ d.sectors)) → (disks : List Disk) (v : List ℕ) → Had disks (on_disk u f disks) v
had_same u f keeps disks v k x h =
    let c : WasChanged u f disks h.disk = was_changed u f disks h.disk h.is_there in
    elim c.cases [
      | inl p ↦ held disks c.old h.disk v k x c.there (sym (ap (λ (d : Disk). d.uuid) p.1 ∙ (keeps c.old).0)) (ap (λ (d : Disk). slice_get d.sectors k) p.1 ∙ ap (λ (ss : List (List ℕ)). slice_get ss k) (keeps c.old).1) h.is_named h.holds
      | inr e ↦ held disks c.old h.disk v k x c.there (sym (ap (λ (d : Disk). d.uuid) e)) (ap (λ (d : Disk). slice_get d.sectors k) e) h.is_named h.holds
    ]

-- a command writes sectors
unfoldable pub writes : Command → Bool
writes (Write u sector bytes) = true
writes (Fill u sector count byte) = true
writes _ = false

-- ---- from one state to the next

module _ (disks : List Disk) (s : Shape) (w : IsWellFormed s) (a : AreDisksOf disks s) (g : AreGoodLogs s) where
  -- no disk with a log has a UUID that no disk has
  pub no_disk : (u : List ℕ) → ((r : DiskRecord) → In r s.records → r.uuid ≡ u → ⊥) → (l : Log) → In l s.logs → u ≢ l.disk
  no_disk u free l h e = let r : HasRecord s l.disk = (g.good l h).disk in free r.0 r.1 (r.2 ∙ sym e)

  -- ---- sectors written

  module _ (u : List ℕ) (sector count : ℕ) (sectors : List (List ℕ)) (n : length sectors ≡ count) (in_range : is_outside s u sector count ≡ false) where
    pub written : (v : List ℕ) (k : ℕ) (x : List ℕ) → HasSector (on_disk u (written_disk sector sectors) disks) v k x → HasSector disks v k x ⊎ ((v ≡ u) × IsWithin sector count k)
    written v k x h =
        let c : WasChanged u (written_disk sector sectors) disks h.disk = was_changed u (written_disk sector sectors) disks h.disk h.is_there in
        elim c.cases [
          | inr e ↦ inl (held disks c.old h.disk v k x c.there (sym (ap (λ (d : Disk). d.uuid) e)) (ap (λ (d : Disk). slice_get d.sectors k) e) h.is_named h.holds)
          | inl p ↦ (elim (over sector count sectors c.old.sectors k n (within disks s w a u sector count in_range c.old c.there p.0)) [
            | inl q ↦ inl (held disks c.old h.disk v k x c.there (sym (ap (λ (d : Disk). d.uuid) p.1)) (ap (λ (d : Disk). slice_get d.sectors k) p.1 ∙ q) h.is_named h.holds)
            | inr i ↦ inr (sym h.is_named ∙ (ap (λ (d : Disk). d.uuid) p.1 ∙ p.0), i)
          ])
        ]

    -- a disk that is written to is no snapshot, and its log has a bit for each sector
    module _ (marked : AreOfSnapshots s) (attached : is_none (attached_as u s) ≡ false) (writable : is_ro (attached_as u s) ≡ false) where
      pub fits : (l : Log) → In l s.logs → l.disk ≡ u → (l.tag ≡ 0) × (sector + count ≤ piece_sectors * length l.bits)
      fits l h e =
          let d : (d : Disk) × In d disks × (d.uuid ≡ l.disk) = disk_there disks s w a l.disk (g.good l h).disk in
          let o : IsOfDisk d.0 l = log_disk disks s w a l (g.good l h) d.0 d.1 d.2 in
          let r : sector + count ≤ length d.0.sectors = within disks s w a u sector count in_range d.0 d.1 (d.2 ∙ e) in
          let up : length d.0.sectors ≤ piece_count (length d.0.sectors) * 128 = le-div_up (length d.0.sectors) 128 (omega arith) in
          let free : d.0.read_only ≡ false = not_marked d.0 d.1 (d.2 ∙ e) in
          (untagged l h d.0 d.1 d.2 free, omega (arith, r, up, o.pieces))
        where
          untagged : (l : Log) → In l s.logs → (d : Disk) → In d disks → d.uuid ≡ l.disk → d.read_only ≡ false → l.tag ≡ 0
          untagged l h d i n free = by l.tag refl
            where
              by : (t : ℕ) → l.tag ≡ t → l.tag ≡ 0
              by zero e = e
              by (suc t) e = let m : is_snapshot l.disk s ≡ true = marked l h (λ z. let q : suc t ≡ 0 = sym e ∙ z in absurd (omega (arith, q))) in
                  let r : is_snapshot l.disk s ≡ d.read_only = disk_snapshot disks s w a d l.disk i n in cc

          not_marked : (d : Disk) → In d disks → d.uuid ≡ u → d.read_only ≡ false
          not_marked d h e = by_mode (find (λ (b : Attachment). bytes_eq b.disk u) s.attached) refl
            where
              of_row : (b : Attachment) → In b s.attached → bytes_eq b.disk u ≡ true → b.mode ≡ Rw → d.read_only ≡ false
              of_row b i q m = w.attachments.writable b (record_of d) i m (its_record disks s w a d h) (e ∙ sym (bytes_eq-same b.disk u q))

              by_mode : (o : Option Attachment) → find (λ (b : Attachment). bytes_eq b.disk u) s.attached ≡ o → d.read_only ≡ false
              by_mode None q = let n : is_none (attached_as u s) ≡ true = ap (λ (o : Option Attachment). is_none (o >>= (λ b. Some b.mode))) q in cc
              by_mode (Some b) q =
                  let f : In b s.attached × (bytes_eq b.disk u ≡ true) = find-some (λ (b : Attachment). bytes_eq b.disk u) s.attached b q in
                  of_row b f.0 f.1 (rw_of b.mode refl)
                where
                  rw_of : (m : _) → b.mode ≡ m → b.mode ≡ Rw
                  rw_of Rw e = e
                  rw_of Ro e = let t : is_ro (attached_as u s) ≡ true = ap (λ (o : Option Attachment). is_ro (o >>= (λ b. Some b.mode))) q ∙ ap (λ (m : _). is_ro (Some m)) e in cc

  -- ---- a snapshot

  module _ (u twin : List ℕ) (f : IsForkable s u twin) where
    pub no_twin : (r : DiskRecord) → In r s.records → r.uuid ≡ twin → ⊥
    no_twin = Fresh.no_record s w twin f.not_taken

    no_twin_disk : (d : Disk) → In d disks → d.uuid ≡ twin → ⊥
    no_twin_disk d h e = let r : HasRecord s twin = disk_recorded disks s w a d twin h e in no_twin r.0 r.1 r.2

    abbrev twin_of : Disk → Disk
    twin_of b = record { uuid = twin; label = b.label; origin = Some u; read_only = true; sectors = b.sectors }

    abbrev pub forked : Option Disk → List Disk
    forked o = fork_disks u twin true o disks

    -- what the snapshot shows stands on the disk that was found
    record IsShown (o : Option Disk) (k : ℕ) (x : List ℕ) : Type 0 where
      disk : Disk
      found : o ≡ Some disk
      holds : slice_get disk.sectors k ≡ Some x

    twin_shown : (o : Option Disk) (k : ℕ) (x : List ℕ) → HasSector (forked o) twin k x → IsShown o k x
    unfolding with_disk
    twin_shown None k x h = absurd (no_twin_disk h.disk h.is_there h.is_named)
    twin_shown (Some b) k x h = elim (In-insert _ (twin_of b) disks h.disk h.is_there) [
      | inl e ↦ record { disk = b; found = refl; holds = sym (ap (λ (d : Disk). slice_get d.sectors k) e) ∙ h.holds }
      | inr i ↦ absurd (no_twin_disk h.disk i h.is_named)
    ]

    stays : (o : Option Disk) (d : Disk) → In d disks → In d (forked o)
    unfolding with_disk
    stays None d h = h
    stays (Some b) d h = In-insert_old _ (twin_of b) disks d h

    found_disk : (d : Disk) → find (is_disk u) disks ≡ Some d → In d disks × (d.uuid ≡ u)
    found_disk d e = let k : In d disks × (is_disk u d ≡ true) = find-some (is_disk u) disks d e in (k.0, bytes_eq-same d.uuid u k.1)

    abbrev pub fork : List Disk
    fork = forked (find (is_disk u) disks)

    pub less : (k : ℕ) (x : List ℕ) → HasSector fork twin k x → HasSector fork u k x
    less k x h =
        let p : IsShown (find (is_disk u) disks) k x = twin_shown (find (is_disk u) disks) k x h in
        let q : In p.disk disks × (p.disk.uuid ≡ u) = found_disk p.disk p.found in
        record { disk = p.disk; is_there = stays (find (is_disk u) disks) p.disk q.0; is_named = q.1; holds = p.holds }

    not_same : u ≢ twin
    not_same e = let r : HasRecord s u = known in no_twin r.0 r.1 (r.2 ∙ e)
      where
        known : HasRecord s u
        known = recorded s w u twin f

    pub same : (k : ℕ) (x y : List ℕ) → HasSector fork twin k x → HasSector fork u k y → x ≡ y
    same k x y h i =
        let p : IsShown (find (is_disk u) disks) k x = twin_shown (find (is_disk u) disks) k x h in
        let q : In p.disk disks × (p.disk.uuid ≡ u) = found_disk p.disk p.found in
        let r : HasSector disks u k y = had_forked u twin true (find (is_disk u) disks) disks u (λ e. not_same (sym e)) k y i in
        let one : r.disk ≡ p.disk = one_disk r.disk p.disk r.is_there q.0 (r.is_named ∙ sym q.1) in
        let z : Some x ≡ Some y = sym p.holds ∙ (sym (ap (λ (d : Disk). slice_get d.sectors k) one) ∙ r.holds) in
        cc
      where
        uuids : (ds : List Disk) → map (λ (r : DiskRecord). r.uuid) (map record_of ds) ≡ map (λ (d : Disk). d.uuid) ds
        uuids [] = refl
        uuids (d ∷ ds) = ap (λ (us : List (List ℕ)). d.uuid ∷ us) (uuids ds)

        one_disk : (d b : Disk) → In d disks → In b disks → d.uuid ≡ b.uuid → d ≡ b
        one_disk d b h k e = Distinct-key (λ (x : Disk). x.uuid) disks d b
            (subst (λ (us : List (List ℕ)). Distinct us) (uuids disks) (subst (λ (rs : List DiskRecord). Distinct (map (λ (r : DiskRecord). r.uuid) rs)) (sym a.recorded) w.one_record)) h k e

  -- ---- every command

  none_of : (o : Option Log) → is_some o ≡ false → o ≡ None
  none_of None e = refl
  none_of (Some l) e = cc

  -- what disks with a log show behind a command that writes no sectors, they showed before it
  pub had_next : (c : Command) → IsPassed s c → writes c ≡ false → (l : Log) → In l s.logs → Had disks (disks_next disks s c) l.disk
  unfolding disks_next is_tracked is_taken new_uuid writes
  had_next (Create u size raw label) p no_write l h = had_beside _ disks l.disk (no_disk u (Fresh.no_record s w u p.taken) l h)
  had_next (Delete u) p no_write l h = had_filter u disks l.disk
  had_next (Snapshot u twin) p no_write l h = had_forked u twin true (find (is_disk u) disks) disks l.disk (no_disk twin (Fresh.no_record s w twin (snapshot_facts s u twin p).not_taken) l h)
  had_next (Clone u twin) p no_write l h = had_forked u twin false (find (is_disk u) disks) disks l.disk (no_disk twin (Fresh.no_record s w twin (clone_facts s u twin p).not_taken) l h)
  had_next (Resize u size) p no_write l h = had_other u (grown_disk (rounded s false size)) (λ d. refl) disks l.disk (λ q. no_log u s.logs l (none_of (log_of u s.logs) p.tracked) h (sym q))
  had_next (Label u text) p no_write l h = had_same u (λ (d : Disk). record d { label = text }) (λ d. (refl, refl)) disks l.disk
  had_next (Write u sector bytes) p no_write l h = absurd (true≢false no_write)
  had_next (Fill u sector count byte) p no_write l h = absurd (true≢false no_write)
  had_next _ p no_write l h = λ k x i. i
