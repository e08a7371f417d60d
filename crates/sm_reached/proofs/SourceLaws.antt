-- Where each log behind an accepted command comes from.
use Rattle.std.proofs.Common.{◌≡◌, ℕ, zero, suc, ◌/◌, ◌==◌, ◌&&◌, ◌||◌, ◌⊎◌, Bool, true, false, not, List, [], ◌∷◌, length, replicate, Option, Some, None, refl, sym, ap, ◌∙◌, subst, inl, inr}
use Rattle.std.specs.List.{list_any}
use Rattle.std.specs.Str.{bytes_eq}
use Rattle.std.proofs.lemmas.Bool.{and_from, cases_eq, eq-eqb, or_parts, true≢false}
use Rattle.std.proofs.lemmas.List.{length-replicate}
use Rattle.common_laws.specs.Lists.{In, when, ◌>>=◌}
use Rattle.common_laws.proofs.Bytes.{bytes_eq-refl, bytes_eq-same}
use Rattle.common_laws.proofs.Lists.{Distinct-key, In-filter, In-insert, In-map}
use Rattle.sm_log.specs.Logs.{Log, begun_anew, bit, is_log_of, log_before, log_of, new_log, on_log, pieces_touched, split_of, touched, twin_log, with_log, without_log}
use Rattle.sm_log.proofs.BitLaws.{marked-others}
use Rattle.sm_machine.specs.declared.commands.Command.{Command}
use Rattle.sm_machine.specs.declared.commands.Command.TheVariants.{Create, Delete, Attach, Detach, Snapshot, Clone, Resize, Label, Write, Fill, Read, Flush, Gc, List as Listing, Stat, Track, Changed}
use Rattle.sm_machine.specs.Disks.{filled, sector_bytes, sectors_of_bytes}
use Rattle.sm_machine.specs.Shapes.{Shape}
use Rattle.sm_machine.specs.Refusals.{disk_pieces, is_not_attached, is_outside, is_out_of_range, is_read_only, log_room}
use Rattle.sm_machine.specs.Tracking.{AreGoodLogs, AreOfSnapshots, logs_after}
use Rattle.sm_machine.specs.WellFormed.{IsWellFormed}
use Rattle.sm_machine.proofs.LogDisks.{are_blanks, blanks}
use Rattle.sm_machine.proofs.LogLists.{log_found}
use Rattle.sm_machine.proofs.Passed.{IsPassed}
use Rattle.sm_machine.proofs.Together.{length-cut}
use Rattle.sm_machine.proofs.TrackedDisks.{fits}
use Rattle.sm_reached.specs.Reached.{reaches}

-- a command writes or fills sectors in this piece of a disk
abbrev pub Reaches : List ℕ → ℕ → Command → Type 0
Reaches d piece c = reaches d piece c ≡ true

-- the disk of which a command takes a snapshot
abbrev pub taken_of : Command → Option (List ℕ)
taken_of (Snapshot u twin) = Some u
taken_of _ = None

-- the log of the disk of which a command takes a snapshot
abbrev pub source : Shape → Command → Option Log
source s c = taken_of c >>= λ u. log_of u s.logs

-- ---- where a log may come from

-- it was there: its bits are those of before, but that a write or fill of its disk may have set some, where it has no tag
pub record IsKept (s : Shape) (c : Command) (m : Log) : Type 0 where
  pub log : Log
  pub there : In log s.logs
  pub disk : m.disk ≡ log.disk
  pub tag : m.tag ≡ log.tag
  pub since : m.since ≡ log.since
  pub bits : (piece : ℕ) → bit m.bits piece ≡ true → (bit log.bits piece ≡ true) ⊎ ((log.tag ≡ 0) × Reaches log.disk piece c)

-- tracking began for its disk
pub record IsMade (c : Command) (m : Log) : Type 0 where
  pub command : c ≡ Track m.disk true
  pub tag : m.tag ≡ 0
  pub since : m.since ≡ 0

-- it is that of a snapshot that was taken
pub record IsTwin (s : Shape) (c : Command) (m : Log) : Type 0 where
  pub log : Log
  pub twin : List ℕ
  pub there : In log s.logs
  pub command : c ≡ Snapshot log.disk twin
  pub found : source s c ≡ Some log
  pub same : m ≡ twin_log twin s.sequence log

-- it is that of the disk of which a snapshot was taken
pub record IsAnew (s : Shape) (c : Command) (m : Log) : Type 0 where
  pub log : Log
  pub twin : List ℕ
  pub there : In log s.logs
  pub command : c ≡ Snapshot log.disk twin
  pub found : source s c ≡ Some log
  pub same : m ≡ begun_anew s.sequence log

abbrev pub Comes : Shape → Command → Log → Type 0
Comes s c m = (IsKept s c m ⊎ IsMade c m) ⊎ (IsTwin s c m ⊎ IsAnew s c m)

-- ---- pieces

or_left : (a b : Bool) → a ≡ true → (a || b) ≡ true
or_left true b h = refl
or_left false b h = absurd (true≢false (sym h))

or_right : (a b : Bool) → b ≡ true → (a || b) ≡ true
or_right true b h = refl
or_right false b h = h

piece_in : (k : ℕ) (ks : List ℕ) → In k ks ⊎ (In k ks → ⊥)
piece_in k [] = inr (λ h. h)
piece_in k (j ∷ ks) = elim (cases_eq k j) [
  | inl e ↦ inl (inl e)
  | inr n ↦ (elim (piece_in k ks) [
    | inl h ↦ inl (inr h)
    | inr m ↦ inr (λ h. elim h [ inl e ↦ n e | inr i ↦ m i ])
  ])
]

-- an element that passes a test
pub any_in : {A : Type 0} (test : A → Bool) (xs : List A) (x : A) → In x xs → test x ≡ true → list_any test xs ≡ true
any_in test [] x h t = absurd h
any_in test (y ∷ ys) x (inl e) t = or_left (test y) (list_any test ys) (ap test (sym e) ∙ t)
any_in test (y ∷ ys) x (inr h) t = or_right (test y) (list_any test ys) (any_in test ys x h t)

-- sectors in a piece of this disk are written
piece_reached : (u : List ℕ) (piece : ℕ) (ks : List ℕ) → In piece ks → (bytes_eq u u && list_any (λ k. k == piece) ks) ≡ true
piece_reached u piece ks h = and_from (bytes_eq u u) (list_any (λ k. k == piece) ks) (bytes_eq-refl u) (any_in (λ k. k == piece) ks piece h (eq-eqb piece piece refl))

-- no bit is set of those that are all clear
pub blank : (n k : ℕ) → bit (replicate n false) k ≡ false
blank zero k = refl
blank (suc n) zero = refl
blank (suc n) (suc k) = blank n k

-- ---- each command

module _ (s : Shape) (w : IsWellFormed s) (g : AreGoodLogs s) (marked : AreOfSnapshots s) where
  same_log : (c : Command) (m : Log) → In m s.logs → Comes s c m
  same_log c m h = inl (inl (record { log = m; there = h; disk = refl; tag = refl; since = refl; bits = λ k e. inl e }))

  fewer_log : (c : Command) (u : List ℕ) (m : Log) → In m (without_log u s.logs) → Comes s c m
  fewer_log c u m h = same_log c m (In-filter (λ (x : Log). not (is_log_of u x)) s.logs m h).0

  begun_log : (u : List ℕ) (extents pieces : ℕ) (m : Log) → In m (with_log (new_log u extents pieces) s.logs) → Comes s (Track u true) m
  unfolding with_log
  begun_log u extents pieces m h = elim (In-insert log_before (new_log u extents pieces) s.logs m h) [
    | inl e ↦ inl (inr (record { command = ap (λ (x : Log). Track x.disk true) (sym e); tag = ap (λ (x : Log). x.tag) e; since = ap (λ (x : Log). x.since) e }))
    | inr i ↦ same_log (Track u true) m i
  ]

  touched_log : (c : Command) (u : List ℕ) (sector count : ℕ) → ((piece : ℕ) → In piece (pieces_touched sector count) → Reaches u piece c)
      → ((l : Log) → In l s.logs → l.disk ≡ u → l.tag ≡ 0) → (m : Log) → In m (on_log u (touched sector count) s.logs) → Comes s c m
  touched_log c u sector count reaches untagged m h = by (is_log_of u r.0) refl r.2
    where
      r : (l : Log) × In l s.logs × (m ≡ when (is_log_of u l) (touched sector count) l)
      r = In-map (λ (l : Log). when (is_log_of u l) (touched sector count) l) s.logs m h

      set : (piece : ℕ) → r.0.disk ≡ u → bit (touched sector count r.0).bits piece ≡ true → (bit r.0.bits piece ≡ true) ⊎ ((r.0.tag ≡ 0) × Reaches r.0.disk piece c)
      set piece named b = elim (piece_in piece (pieces_touched sector count)) [
        | inl i ↦ inr (untagged r.0 r.1 named, subst (λ (v : List ℕ). Reaches v piece c) (sym named) (reaches piece i))
        | inr n ↦ inl (sym (marked-others (pieces_touched sector count) r.0.bits piece n) ∙ b)
      ]

      by : (b : Bool) → is_log_of u r.0 ≡ b → m ≡ when b (touched sector count) r.0 → Comes s c m
      by true e q = subst (λ (x : Log). Comes s c x) (sym q)
          (inl (inl (record { log = r.0; there = r.1; disk = refl; tag = refl; since = refl; bits = λ piece b. set piece (bytes_eq-same r.0.disk u e) b })))
      by false e q = subst (λ (x : Log). Comes s c x) (sym q) (same_log c r.0 r.1)

  split_log : (u twin : List ℕ) (o : Option Log) → log_of u s.logs ≡ o → (m : Log) → In m (split_of u twin s.sequence o s.logs) → Comes s (Snapshot u twin) m
  unfolding with_log
  split_log u twin None e m h = same_log (Snapshot u twin) m h
  split_log u twin (Some l) e m h = elim (In-insert log_before (twin_log twin s.sequence l) (on_log u (begun_anew s.sequence) s.logs) m h) [
    | inl q ↦ inr (inl (record { log = l; twin = twin; there = found.0; command = ap (λ (v : List ℕ). Snapshot v twin) (sym found.1); found = e; same = q }))
    | inr i ↦ anew (In-map (λ (x : Log). when (is_log_of u x) (begun_anew s.sequence) x) s.logs m i)
  ]
    where
      found : In l s.logs × (l.disk ≡ u)
      found = log_found u s.logs l e

      by : (x : Log) → In x s.logs → (b : Bool) → is_log_of u x ≡ b → m ≡ when b (begun_anew s.sequence) x → Comes s (Snapshot u twin) m
      by x i false q r = subst (λ (y : Log). Comes s (Snapshot u twin) y) (sym r) (same_log (Snapshot u twin) x i)
      by x i true q r =
          let named : x.disk ≡ u = bytes_eq-same x.disk u q in
          let one : x ≡ l = Distinct-key (λ (y : Log). y.disk) s.logs x l g.one_log i found.0 (named ∙ sym found.1) in
          inr (inr (record { log = l; twin = twin; there = found.0; command = ap (λ (v : List ℕ). Snapshot v twin) (sym found.1); found = e; same = r ∙ ap (begun_anew s.sequence) one }))

      anew : (x : Log) × In x s.logs × (m ≡ when (is_log_of u x) (begun_anew s.sequence) x) → Comes s (Snapshot u twin) m
      anew r = by r.0 r.1 (is_log_of u r.0) refl r.2

  pub comes : (c : Command) → IsPassed s c → (m : Log) → In m (logs_after s c) → Comes s c m
  unfolding logs_after is_out_of_range is_not_attached is_read_only
  comes (Create u size raw label) p = same_log (Create u size raw label)
  comes (Delete u) p = fewer_log (Delete u) u
  comes (Attach u mode) p = same_log (Attach u mode)
  comes (Detach u) p = same_log (Detach u)
  comes (Snapshot u twin) p = split_log u twin (log_of u s.logs) refl
  comes (Clone u twin) p = same_log (Clone u twin)
  comes (Resize u size) p = same_log (Resize u size)
  comes (Label u text) p = same_log (Label u text)
  comes (Write u sector bytes) p = touched_log (Write u sector bytes) u sector (length bytes / sector_bytes) (λ piece i. piece_reached u piece (pieces_touched sector (length bytes / sector_bytes)) i)
      (λ l h e. (fits (blanks s) s w (are_blanks s w) g u sector (length bytes / sector_bytes) (sectors_of_bytes bytes) (length-cut (length bytes / sector_bytes) bytes)
      (or_parts (is_outside s u sector (length bytes / sector_bytes)) _ p.out_of_range).0 marked p.not_attached p.read_only l h e).0)
  comes (Fill u sector count byte) p = touched_log (Fill u sector count byte) u sector count (λ piece i. piece_reached u piece (pieces_touched sector count) i)
      (λ l h e. (fits (blanks s) s w (are_blanks s w) g u sector count (filled count byte) (length-replicate count _) p.out_of_range marked p.not_attached p.read_only l h e).0)
  comes (Read u sector count) p = same_log (Read u sector count)
  comes (Flush u) p = same_log (Flush u)
  comes Gc p = same_log Gc
  comes Listing p = same_log Listing
  comes Stat p = same_log Stat
  comes (Track u true) p = begun_log u (log_room s u) (disk_pieces u s)
  comes (Track u false) p = fewer_log (Track u false) u
  comes (Changed u n) p = same_log (Changed u n)
