-- What logs tell stays true over a write to a tracked disk, and over a snapshot of one.
use Rattle.std.proofs.Common.{◌≡◌, ◌≢◌, ℕ, ◌+◌, ◌-◌, ◌*◌, ◌/◌, ◌<◌, ◌≤◌, ◌⊎◌, Bool, true, false, List, ◌∷◌, length, map, Option, Some, None, refl, sym, ap, ◌∙◌, inl, inr, subst, arith, true≢false}
use Rattle.std.specs.Str.{bytes_eq}
use Rattle.common_laws.specs.Lists.{In, Distinct, when}
use Rattle.common_laws.proofs.Lists.{In-map, In-numbers, In-insert, find-some, Distinct-key}
use Rattle.common_laws.proofs.Bytes.{bytes_eq-same, bytes_eq-refl}
use Rattle.sm_log.specs.Logs.{Log, bit, piece_sectors, pieces_touched, touched, on_log, is_log_of, log_of, log_before, with_log, twin_log, begun_anew, split, split_of}
use Rattle.sm_log.specs.Told.{Showing, Tells, HasMore, HaveMore, IsWithin}
use Rattle.sm_log.proofs.BitLaws.{marked-keeps, marked-sets}
use Rattle.sm_log.proofs.TellLaws.{tells_more, tells_written, tells_twin, tells_anew, within_touched}

-- a log of a list in which the log of a disk is changed
record Changed (u : List ℕ) (f : Log → Log) (logs : List Log) (m : Log) : Type 0 where
  log : Log
  is_there : In log logs
  cases : ((log.disk ≡ u) × (m ≡ f log)) ⊎ ((log.disk ≢ u) × (m ≡ log))

changed_log : (u : List ℕ) (f : Log → Log) (logs : List Log) (m : Log) → In m (on_log u f logs) → Changed u f logs m
changed_log u f logs m i = record { log = l; is_there = found.1; cases = by (is_log_of u l) refl found.2 }
  where
    found : (l : Log) × In l logs × (m ≡ when (is_log_of u l) f l)
    found = In-map (λ (l : Log). when (is_log_of u l) f l) logs m i

    l : Log
    l = found.0

    by : (b : Bool) → is_log_of u l ≡ b → m ≡ when b f l → ((l.disk ≡ u) × (m ≡ f l)) ⊎ ((l.disk ≢ u) × (m ≡ l))
    by true e q = inl (bytes_eq-same l.disk u e, q)
    by false e q = inr (λ same. true≢false (sym (subst (λ (v : List ℕ). bytes_eq v u ≡ true) (sym same) (bytes_eq-refl u)) ∙ e), q)

touched_more : (sector count : ℕ) (l : Log) → HasMore l (touched sector count l)
touched_more sector count l = record { disk = refl; tag = refl; since = refl; bits = λ k. marked-keeps (pieces_touched sector count) l.bits k }

same_more : (l m : Log) → m ≡ l → HasMore l m
same_more l m e = subst (λ (x : Log). HasMore l x) (sym e) (record { disk = refl; tag = refl; since = refl; bits = λ k h. h })

pub have_more : (u : List ℕ) (sector count : ℕ) (logs : List Log) → HaveMore logs (on_log u (touched sector count) logs)
have_more u sector count logs m i =
    let c = changed_log u (touched sector count) logs m i in (
      c.log,
      c.is_there,
      elim c.cases [
        | inl p ↦ subst (λ (x : Log). HasMore c.log x) (sym p.1) (touched_more sector count c.log)
        | inr p ↦ same_more c.log m p.1
      ],
    )

pub tells_touched : (shows : Showing) (logs : List Log) (u : List ℕ) (sector count : ℕ) → Tells shows logs → Tells shows (on_log u (touched sector count) logs)
tells_touched shows logs u sector count h = tells_more shows logs (on_log u (touched sector count) logs) h (have_more u sector count logs)

-- each piece that is touched has a bit
piece_within : (sector count pieces p : ℕ) → sector + count ≤ piece_sectors * pieces → 1 ≤ count → In p (pieces_touched sector count) → p < pieces
piece_within sector count pieces p within some i =
    let q = In-numbers (sector / 128) ((sector + count - 1) / 128 + 1 - sector / 128) p i in
    omega (arith, within, some, q.0, q.1)

pub tells_guest : (old new : Showing) (logs : List Log) (u : List ℕ) (sector count : ℕ) → Tells old logs
    → ((v : List ℕ) (k : ℕ) (x : List ℕ) → new v k x → old v k x ⊎ ((v ≡ u) × IsWithin sector count k))
    → ((l : Log) → In l logs → l.disk ≡ u → (l.tag ≡ 0) × (sector + count ≤ piece_sectors * length l.bits))
    → Tells new (on_log u (touched sector count) logs)
tells_guest old new logs u sector count h shown fits =
    tells_written old new (on_log u (touched sector count) logs) u (IsWithin sector count) (tells_touched old logs u sector count h) shown untagged set
  where
    at_log : (m : Log) → In m (on_log u (touched sector count) logs) → m.disk ≡ u → (l : Log) × In l logs × (l.disk ≡ u) × (m ≡ touched sector count l)
    at_log m i e =
        let c = changed_log u (touched sector count) logs m i in
        elim c.cases [
          | inl p ↦ (c.log, c.is_there, p.0, p.1)
          | inr p ↦ absurd (p.0 (ap (λ (x : Log). x.disk) (sym p.1) ∙ e))
        ]

    untagged : (m : Log) → In m (on_log u (touched sector count) logs) → m.disk ≡ u → m.tag ≡ 0
    untagged m i e = let a = at_log m i e in ap (λ (x : Log). x.tag) a.3 ∙ (fits a.0 a.1 a.2).0

    set : (m : Log) (k : ℕ) → In m (on_log u (touched sector count) logs) → m.disk ≡ u → IsWithin sector count k → bit m.bits (k / piece_sectors) ≡ true
    set m k i e w =
        let a = at_log m i e in
        let there = within_touched sector count k w in
        let some : 1 ≤ count = omega (arith, w.from, w.to) in
        ap (λ (x : Log). bit x.bits (k / piece_sectors)) a.3
        ∙ marked-sets (pieces_touched sector count) (a.0).bits (k / piece_sectors) there
        (piece_within sector count (length (a.0).bits) (k / piece_sectors) (fits a.0 a.1 a.2).1 some there)

-- a snapshot of a disk with this log
split_log : (shows : Showing) (logs : List Log) (u twin : List ℕ) (tag : ℕ) (l : Log) → Tells shows logs → Distinct (map (λ (l : Log). l.disk) logs)
    → ((m : Log) → In m logs → (m.tag < tag) × (m.since < tag))
    → ((k : ℕ) (x : List ℕ) → shows twin k x → shows u k x)
    → ((k : ℕ) (x y : List ℕ) → shows twin k x → shows u k y → x ≡ y)
    → In l logs → l.disk ≡ u → Tells shows (with_log (twin_log twin tag l) (on_log u (begun_anew tag) logs))
unfolding with_log
split_log shows logs u twin tag l h distinct below less same in_l named =
    tells_anew shows twins (with_log (twin_log twin tag l) (on_log u (begun_anew tag) logs)) l tag twin beside tagged
    (λ k x y sx sy. same k x y sx (subst (λ (v : List ℕ). shows v k y) named sy)) each (inr in_l)
  where
    twins : List Log
    twins = twin_log twin tag l ∷ logs

    beside : Tells shows twins
    beside = tells_twin shows logs twins l twin tag h in_l (λ m i. (below m i).1) (λ k x s. subst (λ (v : List ℕ). shows v k x) (sym named) (less k x s)) (λ m i. i)

    tagged : (m : Log) → In m twins → m.tag ≡ tag → m.disk ≡ twin
    tagged m (inl e) t = ap (λ (x : Log). x.disk) e
    tagged m (inr i) t = let lower : m.tag < tag = (below m i).0 in absurd (omega arith)

    each : (m : Log) → In m (with_log (twin_log twin tag l) (on_log u (begun_anew tag) logs)) → In m twins ⊎ ((m.disk ≡ l.disk) × (m.tag ≡ l.tag) × (m.since ≡ tag))
    each m i = elim (In-insert log_before (twin_log twin tag l) (on_log u (begun_anew tag) logs) m i) [
      | inl e ↦ inl (inl e)
      | inr j ↦ by (changed_log u (begun_anew tag) logs m j)
    ]
      where
        by : Changed u (begun_anew tag) logs m → In m twins ⊎ ((m.disk ≡ l.disk) × (m.tag ≡ l.tag) × (m.since ≡ tag))
        by c = elim c.cases [
          | inl p ↦
              let one : c.log ≡ l = Distinct-key (λ (x : Log). x.disk) logs c.log l distinct c.is_there in_l (p.0 ∙ sym named) in
              inr (ap (λ (x : Log). x.disk) p.1 ∙ ap (λ (x : Log). x.disk) one, ap (λ (x : Log). x.tag) p.1 ∙ ap (λ (x : Log). x.tag) one, ap (λ (x : Log). x.since) p.1)
          | inr p ↦ inl (inr (subst (λ (x : Log). In x logs) (sym p.1) c.is_there))
        ]

pub tells_split : (shows : Showing) (logs : List Log) (u twin : List ℕ) (tag : ℕ) → Tells shows logs → Distinct (map (λ (l : Log). l.disk) logs)
    → ((l : Log) → In l logs → (l.tag < tag) × (l.since < tag))
    → ((k : ℕ) (x : List ℕ) → shows twin k x → shows u k x)
    → ((k : ℕ) (x y : List ℕ) → shows twin k x → shows u k y → x ≡ y)
    → Tells shows (split u twin tag logs)
tells_split shows logs u twin tag h distinct below less same = by (log_of u logs) refl
  where
    by : (o : Option Log) → log_of u logs ≡ o → Tells shows (split_of u twin tag o logs)
    by None q = h
    by (Some l) q =
        let p : In l logs × (is_log_of u l ≡ true) = find-some (is_log_of u) logs l q in
        split_log shows logs u twin tag l h distinct below less same p.0 (bytes_eq-same l.disk u p.1)
