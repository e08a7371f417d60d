-- Entries stay true: what each call of a cache makes of them.
use Rattle.std.proofs.Common.{◌≡◌, ◌≢◌, ◌⊎◌, inl, inr, ℕ, zero, suc, ◌+◌, ◌-◌, ◌*◌, ◌/◌, ◌%◌, ◌<◌, ◌≤◌, Bool, true, false, not, cond, List, [], ◌∷◌, take, length, length-append, Option, Some, None, Result, Ok, Err, OnOk, OnErr, ◌==◌, refl, sym, ap, ap₂, subst, subst₂, ◌∙◌, arith}
use Rattle.std.specs.Prelude.{if◌then◌else◌}
use Rattle.std.specs.Map.{lookup}
use Rattle.std.proofs.lemmas.Bool.{eq-eqb, eqb-true, false≢true}
use Rattle.std.proofs.lemmas.Nat.{div-add-mod', mul-le}
use Rattle.common_laws.specs.Lists.{In}
use Rattle.common_laws.proofs.Booleans.{not_true}
use Rattle.common_laws.proofs.Lists.{In-filter}
use Rattle.sm_base.specs.Limits.{extent_limit}
use Rattle.sm_base.specs.declared.names.Name.{Name}
use Rattle.sm_disk.specs.Held.{Held, Gave, IsIn, Keeps, Torn, Wrote, reads}
use Rattle.sm_disk.specs.Sectors.{sector}
use Rattle.sm_disk.proofs.HeldLaws.{in_one, reads-at, reads-elsewhere, reads-wrote}
use Rattle.sm_disk.proofs.SectorLaws.{sector-one}
use Rattle.vg_meta.specs.Tables.{VolumeTable, Row, IsTable, row_of, rows, extents_in, extents_of, name_eq}
use Rattle.vg_meta.proofs.DecodeLaws.{used-le}
use Rattle.vg_meta.proofs.NameLaws.{name_eq-true, name_eq-false}
use Rattle.vg_volumes.specs.Sites.{Site, size_of, volume_of}
use Rattle.vg_volumes.specs.Volumes.{SameElsewhere, volume}
use Rattle.vg_volumes.proofs.ApartLaws.{other_floor, other_pending}
use Rattle.vg_volumes.proofs.VolumeLaws.{Keeps-volume}
use Rattle.sm_cache.specs.declared.keys.Spot.{Spot}
use Rattle.sm_cache.specs.Kept.{AreTrue, Entries, HasEntry, HasNoEntry, Kept, dropped, in_front, is_among, others, same_spot, spot_of, with_entry}
use Rattle.sm_cache.proofs.SpotLaws.{among_from, spot_same, same_spot-refl}

-- ---- entries that stand

-- where reads give what they gave, entries that were there are true
pub true_same : {s s' : Site} {t t' : VolumeTable} {a b : Held} {es fs : Entries} → s' ≡ s → t' ≡ t
    → ((k : Spot) → reads (volume_of s t b k.volume) k.at ≡ reads (volume_of s t a k.volume) k.at)
    → ((e : Spot × List ℕ) → In e fs → In e es) → AreTrue s t a es → AreTrue s' t' b fs
true_same {s} {s'} {t} {t'} {a} {b} {es} {fs} site table same fewer was =
    subst₂ (λ x y. AreTrue x y b fs) (sym site) (sym table) (record { each = λ k v there. same k ∙ was.each k v (fewer (k, v) there) })

-- a sync, a read, a commit that leaves the extents: a read gives what it gave
pub reads_kept : (s : Site) (t : VolumeTable) {a b : Held} → Keeps a b → (k : Spot) → reads (volume_of s t b k.volume) k.at ≡ reads (volume_of s t a k.volume) k.at
reads_kept s t {a} {b} kept k = (Keeps-volume s.geometry.extent (extents_of (rows t k.volume)) kept).reads k.at

but_first : {s : Site} {t : VolumeTable} {a : Held} (e : Spot × List ℕ) (es : Entries) → AreTrue s t a (e ∷ es) → AreTrue s t a es
but_first e es was = record { each = λ k v there. was.each k v (inr there) }

-- the entry that is found has what a read gives
pub true_found : {s : Site} {t : VolumeTable} {a : Held} (es : Entries) (k : Spot) (v : List ℕ) → AreTrue s t a es → lookup (same_spot k) es ≡ Some v
    → reads (volume_of s t a k.volume) k.at ≡ v
true_found [] k v was found = cc
true_found {s} {t} {a} (e ∷ es) k v was found = by (true_found es k v (but_first e es was)) (same_spot k e.0) refl found
  where
    by : (lookup (same_spot k) es ≡ Some v → reads (volume_of s t a k.volume) k.at ≡ v) → (b : Bool) → same_spot k e.0 ≡ b
        → cond b (Some e.1) (lookup (same_spot k) es) ≡ Some v → reads (volume_of s t a k.volume) k.at ≡ v
    by ih true is here =
        let value : e.1 ≡ v = cc in
        subst (λ (q : Spot). reads (volume_of s t a q.volume) q.at ≡ v) (sym (spot_same k e.0 is)) (was.each e.0 e.1 (inl refl) ∙ value)
    by ih false is here = ih here

-- ---- entries less, and one more

others_fewer : (volume : Name) (at many : ℕ) (es : Entries) (e : Spot × List ℕ) → In e (others volume at many es) → In e es × (is_among volume at many e.0 ≡ false)
others_fewer volume at many es e there =
    let r : In e es × (not (is_among volume at many e.0) ≡ true) = In-filter (λ f. not (is_among volume at many f.0)) es e there in
    (r.0, not_true (is_among volume at many e.0) r.1)

In-take : (n : ℕ) (es : Entries) (e : Spot × List ℕ) → In e (take n es) → In e es
In-take zero es e there = absurd there
In-take (suc n) [] e there = there
In-take (suc n) (f ∷ es) e (inl same) = inl same
In-take (suc n) (f ∷ es) e (inr there) = inr (In-take n es e there)

-- an entry with what a read gives, in front of true ones
true_first : {s : Site} {t : VolumeTable} {a : Held} {es : Entries} (volume : Name) (at : ℕ) (v : List ℕ) → reads (volume_of s t a volume) at ≡ v
    → AreTrue s t a es → AreTrue s t a ((spot_of volume at, v) ∷ es)
true_first {s} {t} {a} {es} volume at v is was = record { each = λ k w there. by k w there }
  where
    by : (k : Spot) (w : List ℕ) → In (k, w) ((spot_of volume at, v) ∷ es) → reads (volume_of s t a k.volume) k.at ≡ w
    by k w (inl same) =
        let spot : k ≡ spot_of volume at = ap (λ (e : Spot × List ℕ). e.0) same in
        let value : w ≡ v = ap (λ (e : Spot × List ℕ). e.1) same in
        subst (λ (q : Spot). reads (volume_of s t a q.volume) q.at ≡ w) (sym spot) (is ∙ sym value)
    by k w (inr there) = was.each k w there

pub true_front : {s : Site} {t : VolumeTable} {a : Held} (kept : Kept) (volume : Name) (at : ℕ) (v : List ℕ) → reads (volume_of s t a volume) at ≡ v
    → AreTrue s t a kept.entries → AreTrue s t a (in_front volume at v kept).entries
true_front kept volume at v is was =
    true_first volume at v is (record { each = λ k w there. was.each k w (others_fewer volume at 1 kept.entries (k, w) there).0 })

pub true_entered : {s : Site} {t : VolumeTable} {a : Held} (old new : Kept) (volume : Name) (at : ℕ) (v : List ℕ) → reads (volume_of s t a volume) at ≡ v
    → (new ≡ with_entry volume at v old) ⊎ (new ≡ old) → AreTrue s t a old.entries → AreTrue s t a new.entries
true_entered {s} {t} {a} old new volume at v is (inl e) was = subst (λ (k : Kept). AreTrue s t a k.entries) (sym e)
    (true_first volume at v is (record { each = λ k w there. was.each k w (In-take (old.cap - 1) old.entries (k, w) there) }))
true_entered {s} {t} {a} old new volume at v is (inr e) was = subst (λ (k : Kept). AreTrue s t a k.entries) (sym e) was

-- ---- one sector that was read

-- what it gave is what an entry has
pub gave_one : (h : Held) (at : ℕ) (bytes : List ℕ) → length bytes ≡ 512 → Gave at h bytes → reads h at ≡ bytes
gave_one h at bytes long gave = sym (gave at (omega arith, omega (arith, long))) ∙ ap (sector bytes) (omega arith) ∙ sector-one bytes long

-- and what an entry has is what it would give
pub one_gave : (h : Held) (at : ℕ) (bytes : List ℕ) → length bytes ≡ 512 → reads h at ≡ bytes → Gave at h bytes
one_gave h at bytes long is p here =
    let same : p ≡ at = in_one at (length bytes) p long here in
    ap (sector bytes) (omega (arith, same)) ∙ sector-one bytes long ∙ sym is ∙ ap (reads h) (sym same)

-- ---- a write

-- at each other place, of this volume or of another, a read gives what it gave
reads_outside : (s : Site) (t : VolumeTable) (a b : Held) (n : Name) (at : ℕ) (bytes : List ℕ) → IsTable s.count t
    → Torn at bytes (volume_of s t a n) (volume_of s t b n) → SameElsewhere s.geometry.extent (extents_of (rows t n)) a b
    → (k : Spot) → (k.volume ≡ n → IsIn at (length bytes) k.at → ⊥) → reads (volume_of s t b k.volume) k.at ≡ reads (volume_of s t a k.volume) k.at
reads_outside s t a b n at bytes table torn beside k out = by (name_eq k.volume n) refl
  where
    by : (y : Bool) → name_eq k.volume n ≡ y → reads (volume_of s t b k.volume) k.at ≡ reads (volume_of s t a k.volume) k.at
    by true h =
        let same = name_eq-true k.volume n h in
        subst (λ (m : Name). reads (volume_of s t b m) k.at ≡ reads (volume_of s t a m) k.at) (sym same) (reads-elsewhere torn k.at (out same))
    by false h =
        let other = name_eq-false k.volume n h in
        let some : 0 < s.geometry.extent = omega (arith, s.geometry.in_range.extent_least) in
        reads-at (volume_of s t a k.volume) (volume_of s t b k.volume) k.at
        (other_floor s.geometry.extent s.count t a b n k.volume table some beside other k.at)
        (other_pending s.geometry.extent s.count t a b n k.volume table some beside other k.at)

covered : (at len p : ℕ) → len % 512 ≡ 0 → 512 * p < 512 * at + len → p < at + len / 512
covered at len p whole below = omega (arith, whole, below, div-add-mod' len 512)

-- a write that may have failed, or a longer one: the others are true
true_torn : (s : Site) (t : VolumeTable) (a b : Held) (es : Entries) (n : Name) (at : ℕ) (bytes : List ℕ) → length bytes % 512 ≡ 0 → IsTable s.count t
    → Torn at bytes (volume_of s t a n) (volume_of s t b n) → SameElsewhere s.geometry.extent (extents_of (rows t n)) a b
    → AreTrue s t a es → AreTrue s t b (others n at (length bytes / 512) es)
true_torn s t a b es n at bytes whole table torn beside was = record {
  each = λ k v there.
      let old = others_fewer n at (length bytes / 512) es (k, v) there in
      reads_outside s t a b n at bytes table torn beside k
      (λ is here. false≢true (sym old.1 ∙ among_from n at (length bytes / 512) k is here.0 (covered at (length bytes) k.at whole here.1)))
      ∙ was.each k v old.0;
}

-- one sector was written, and its entry, where it has one, has its bytes
true_wrote : (s : Site) (t : VolumeTable) (a b : Held) (kept : Kept) (n : Name) (at : ℕ) (bytes : List ℕ) → length bytes ≡ 512 → IsTable s.count t
    → Wrote at bytes (volume_of s t a n) (volume_of s t b n) → Torn at bytes (volume_of s t a n) (volume_of s t b n)
    → SameElsewhere s.geometry.extent (extents_of (rows t n)) a b → AreTrue s t a kept.entries → AreTrue s t b (in_front n at bytes kept).entries
true_wrote s t a b kept n at bytes long table wrote torn beside was = true_first n at bytes now (record {
  each = λ k v there.
      let old = others_fewer n at 1 kept.entries (k, v) there in
      reads_outside s t a b n at bytes table torn beside k
      (λ is here. false≢true (sym old.1 ∙ among_from n at 1 k is here.0 (omega (arith, in_one at (length bytes) k.at long here))))
      ∙ was.each k v old.0;
})
  where
    now : reads (volume_of s t b n) at ≡ bytes
    now = reads-wrote wrote at (omega arith, omega (arith, long)) ∙ ap (sector bytes) (omega arith) ∙ sector-one bytes long

-- a sector that is not found has no entry
not_there : (spot : Spot) (es : Entries) → lookup (same_spot spot) es ≡ None → (k : Spot) (v : List ℕ) → In (k, v) es → k ≢ spot
not_there spot [] none k v there = absurd there
not_there spot (e ∷ es) none k v there = by (λ found. not_there spot es found k v) (same_spot spot e.0) refl none there
  where
    by : (lookup (same_spot spot) es ≡ None → In (k, v) es → k ≢ spot) → (b : Bool) → same_spot spot e.0 ≡ b
        → cond b (Some e.1) (lookup (same_spot spot) es) ≡ None → In (k, v) (e ∷ es) → k ≢ spot
    by ih true is found _ = cc
    by ih false is found (inl same) = λ here. false≢true (sym is ∙ subst (λ q. same_spot spot q ≡ true) (sym here ∙ ap (λ (f : Spot × List ℕ). f.0) same) (same_spot-refl spot))
    by ih false is found (inr rest) = ih found rest

-- it has none: all are true as they are
true_unkept : (s : Site) (t : VolumeTable) (a b : Held) (es : Entries) (n : Name) (at : ℕ) (bytes : List ℕ) → length bytes ≡ 512 → IsTable s.count t
    → Torn at bytes (volume_of s t a n) (volume_of s t b n) → SameElsewhere s.geometry.extent (extents_of (rows t n)) a b
    → ((k : Spot) (v : List ℕ) → In (k, v) es → k ≢ spot_of n at) → AreTrue s t a es → AreTrue s t b es
true_unkept s t a b es n at bytes long table torn beside none was = record {
  each = λ k v there.
      reads_outside s t a b n at bytes table torn beside k
      (λ is here. none k v there (ap₂ (λ m p. spot_of m p) is (in_one at (length bytes) k.at long here)))
      ∙ was.each k v there;
}

-- one sector was written: its entry was renewed, or it has none
true_renewed : (s : Site) (t : VolumeTable) (a b : Held) (old new : Kept) (n : Name) (at : ℕ) (bytes : List ℕ) → length bytes ≡ 512 → IsTable s.count t
    → Wrote at bytes (volume_of s t a n) (volume_of s t b n) → Torn at bytes (volume_of s t a n) (volume_of s t b n) → SameElsewhere s.geometry.extent (extents_of (rows t n)) a b
    → ((v : List ℕ) → HasEntry old n at (length bytes) v → new ≡ in_front n at bytes old) → (HasNoEntry old n at (length bytes) → new ≡ old)
    → AreTrue s t a old.entries → AreTrue s t b new.entries
true_renewed s t a b old new n at bytes long table wrote torn beside renewed none was = by (lookup (same_spot (spot_of n at)) old.entries) refl
  where
    by : (o : Option (List ℕ)) → lookup (same_spot (spot_of n at)) old.entries ≡ o → AreTrue s t b new.entries
    by (Some v) is = subst (λ (k : Kept). AreTrue s t b k.entries) (sym (renewed v (record { one = long; there = is }))) (true_wrote s t a b old n at bytes long table wrote torn beside was)
    by None is = subst (λ (k : Kept). AreTrue s t b k.entries) (sym (none (record { one = long; none = is })))
        (true_unkept s t a b old.entries n at bytes long table torn beside (not_there (spot_of n at) old.entries is) was)

-- what a write leaves of true entries, by what it answered
pub true_after : {T E Told : Type 0} (told : Told) (done : Result T E) (s : Site) (t : VolumeTable) (a b : Held) (old new : Kept) (n : Name) (at : ℕ) (bytes : List ℕ) → length bytes % 512 ≡ 0 → IsTable s.count t
    → Torn at bytes (volume_of s t a n) (volume_of s t b n) → OnOk done (Told → Wrote at bytes (volume_of s t a n) (volume_of s t b n)) → SameElsewhere s.geometry.extent (extents_of (rows t n)) a b
    → OnOk done ((v : List ℕ) → HasEntry old n at (length bytes) v → new ≡ in_front n at bytes old) → OnOk done (HasNoEntry old n at (length bytes) → new ≡ old)
    → (length bytes ≢ 512 → new ≡ dropped n at (length bytes) old) → OnErr done (new ≡ dropped n at (length bytes) old)
    → AreTrue s t a old.entries → AreTrue s t b new.entries
true_after {T} {E} {Told} told done s t a b old new n at bytes whole table torn wrote beside renewed none longer bad was = by done wrote renewed none bad
  where
    others_left : new ≡ dropped n at (length bytes) old → AreTrue s t b new.entries
    others_left is = subst (λ (k : Kept). AreTrue s t b k.entries) (sym is) (true_torn s t a b old.entries n at bytes whole table torn beside was)

    long_or : (y : Bool) → (length bytes == 512) ≡ y → Wrote at bytes (volume_of s t a n) (volume_of s t b n)
        → ((v : List ℕ) → HasEntry old n at (length bytes) v → new ≡ in_front n at bytes old) → (HasNoEntry old n at (length bytes) → new ≡ old) → AreTrue s t b new.entries
    long_or true is w renewed none = true_renewed s t a b old new n at bytes (eqb-true (length bytes) 512 is) table w torn beside renewed none was
    long_or false is w renewed none = others_left (longer (λ one. false≢true (sym is ∙ eq-eqb (length bytes) 512 one)))

    by : (r : Result T E) → OnOk r (Told → Wrote at bytes (volume_of s t a n) (volume_of s t b n))
        → OnOk r ((v : List ℕ) → HasEntry old n at (length bytes) v → new ≡ in_front n at bytes old) → OnOk r (HasNoEntry old n at (length bytes) → new ≡ old)
        → OnErr r (new ≡ dropped n at (length bytes) old) → AreTrue s t b new.entries
    by (Ok x) w renewed none bad = long_or (length bytes == 512) refl (w told) renewed none
    by (Err e) w renewed none bad = others_left bad

-- ---- how large a volume is

extents_few : (rs : List Row) (n : Name) → length (extents_of (row_of rs n)) ≤ length (extents_in rs)
unfolding row_of
extents_few [] n = omega arith
extents_few (r ∷ rs) n =
    let rest = extents_few rs n in
    let all = length-append r.extents (extents_in rs) in
    elim (name_eq r.name n) as (λ (b : Bool). length (extents_of (if b then Some r else row_of rs n)) ≤ length (extents_in (r ∷ rs))) [
      | true ↦ omega (arith, all)
      | false ↦ omega (arith, all, rest)
    ]

pub size_small : (s : Site) (t : VolumeTable) (n : Name) → IsTable s.count t → s.count ≤ extent_limit → size_of s t n ≤ extent_limit * 8192
size_small s t n table few = mul-le (length (extents_of (rows t n))) s.geometry.extent extent_limit 8192
    (omega (arith, extents_few t.volumes n, used-le s.count t.volumes table.volumes, few)) s.geometry.in_range.extent_most
