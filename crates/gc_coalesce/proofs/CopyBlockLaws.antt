-- Copying what an image holds in a block into another image: at every moment, and once it was copied.
use Rattle.std.proofs.Common.{◌≡◌, ◌⊎◌, inl, inr, ⊎_elim, ℕ, suc, ◌+◌, ◌-◌, ◌*◌, ◌<◌, ◌≤◌, if◌then◌else◌, Bool, false, true, is_some, List, length, Option, Some, None, refl, sym, ap, ap₂, ◌∙◌, subst, subst₂, arith}
use Rattle.std.specs.Prelude.{IfNone, IfSome}
use Rattle.std.proofs.lemmas.Bool.{cases_Bool, cases_lt, cond-false, cond-true, true≢false}
use Rattle.std.proofs.lemmas.Option.{none-some, same_Some}
use borrow.Rule.Slice.PartMut.{put_mid}
use Rattle.sm_base.specs.declared.sizes.Geometry.{Geometry}
use Rattle.sm_disk.specs.Held.{Held, Allows, reads}
use Rattle.sm_disk.specs.Sectors.{sector}
use Rattle.vg_meta.specs.Tables.{VolumeTable}
use Rattle.vg_volumes.specs.Sites.{Site, size_of}
use Rattle.vg_volumes.specs.Stored.{Stored, stored, sectors_in, held_in, OnlyReads, WorksOn}
use Rattle.vg_volumes.specs.declared.stores.Store.{Ghosts}
use Rattle.vg_volumes.proofs.StoredLaws.{works_reads, works_then}
use Rattle.vhd_map.specs.Bitmaps.{is_set}
use Rattle.vhd_layout.specs.Layouts.{Layout, Sectors}
use Rattle.vhd_layout.specs.Images.{IsValid}
use Rattle.vhd_volumes.specs.Steps.{Does, Holds}
use Rattle.vhd_volumes.specs.Writes.{IsGuarded, with_block}
use Rattle.vhd_write.specs.Marks.{IsMarkedIn, PutsMarkedIn}
use Rattle.vhd_write.proofs.GivenLaws.{IsGivenBy}
use Rattle.vhd_write.proofs.MapLaws.{grown-none, with_block-gives}
use Rattle.vhd_write.proofs.MarkLaws.{marks-given}
use Rattle.vhd_image.specs.Bodies.{ImageIsTrue, StandsIn, TrueIn, own_of, sector_count, volume_name}
use Rattle.vhd_image.specs.Runs.{IsRunOf}
use Rattle.vhd_image.specs.declared.reading.Run.{Run}
use Rattle.vhd_image.specs.Written.{HasPut, IsPutting, MayHaveGrown, MayHaveSlot, with_slot}
use Rattle.vhd_image.specs.declared.images.Body.{Body}
use Rattle.vhd_image.specs.declared.images.Body.TheVariants.{Raw, Vhd}
use Rattle.vhd_image.proofs.ReadLaws.{same-stored}
use Rattle.vhd_chain.specs.Reading.{own_read}
use Rattle.vhd_chain.proofs.PieceLaws.{front-stays, piece-put}
use Rattle.gc_coalesce.specs.Blocks.{AreGathered, AreUnmarkedFrom, Copies, HasCopied, IsMaskedBy}

-- one block more
pub add_one : (x y : ℕ) → (x + 1) * y ≡ x * y + y
add_one x y = let e : x + 1 ≡ suc x = omega arith in ap (λ k. k * y) e ∙ (let f : suc x * y ≡ x * y + y = omega arith in f)

-- ---- images that follow

guarded_none : (l : Layout) (W : ℕ → List ℕ → Type 0) (h : Held) → ((w : Sectors) → Allows l.sectors h w → IsValid l.block l.entries l.sectors w) → IsGuarded l W h h
guarded_none l W h valid = record {
  valid = valid;
  follows = λ w allows. record { before = w; allowed = allows; follows = record { size = refl; parent = refl; own = λ s. inl refl; holds = λ x. x } };
}

guarded_wider : (l : Layout) (W V : ℕ → List ℕ → Type 0) {a b : Held} → ((s : ℕ) (bytes : List ℕ) → W s bytes → V s bytes) → IsGuarded l W a b → IsGuarded l V a b
guarded_wider l W V wider guarded = record {
  valid = guarded.valid;
  follows = λ w allows.
      let f = guarded.follows w allows in
      record {
        before = f.before;
        allowed = f.allowed;
        follows = record {
          size = f.follows.size;
          parent = f.follows.parent;
          own = λ s. ⊎_elim inl (λ put. inr (put.0, wider s put.0 put.1, put.2)) (f.follows.own s);
          holds = f.follows.holds;
        };
      };
}

-- ---- what a stop leaves

module _ (g : Geometry) (n : ℕ) (own : ℕ → Option (List ℕ)) where
  masked_none : (b : Body) (h : Held) → TrueIn g n h b → IsMaskedBy g n b own h h
  masked_none (Raw volume size) h is = λ p v may. inl may
  masked_none (Vhd head m) h is = guarded_none _ _ h is.valid

  -- what is put is what the other image holds
  masked_put : (b : Body) (W : ℕ → List ℕ → Type 0) (x y : Held) → ((k : ℕ) (v : List ℕ) → W k v → own k ≡ Some v) → IsPutting g n b W x y → IsMaskedBy g n b own x y
  masked_put (Raw volume size) W x y holds reaches = λ p v may. ⊎_elim inl (λ put. inr (holds p v put)) (reaches.may p v may)
  masked_put (Vhd head m) W x y holds guarded = guarded_wider _ W _ holds guarded

pub grown_name : (b d : Body) → MayHaveGrown b d → volume_name d ≡ volume_name b
grown_name (Raw volume size) d is = ap volume_name is
grown_name (Vhd head m) d (grown, is, more) = ap volume_name is

pub grown_count : (b d : Body) → MayHaveGrown b d → sector_count d ≡ sector_count b
grown_count (Raw volume size) d is = ap sector_count is
grown_count (Vhd head m) d (grown, is, more) = ap sector_count is

grown_self : (b : Body) → MayHaveGrown b b
grown_self (Raw volume size) = refl
grown_self (Vhd head m) = (m, refl, grown-none m)

pub slot_grown : (block : ℕ) (b d : Body) → MayHaveSlot block b d → MayHaveGrown b d
slot_grown block b d (inl is) = subst (MayHaveGrown b) (sym is) (grown_self b)
slot_grown block (Raw volume size) d (inr is) = is
slot_grown block (Vhd head m) d (inr is) = (with_block block m, is, (with_block-gives block m).grown)

-- what it holds does not turn on its map
pub own_grown : (g : Geometry) (n : ℕ) (b d : Body) (v : Sectors) (k : ℕ) → MayHaveGrown b d → own_of g n d v k ≡ own_of g n b v k
own_grown g n (Raw volume size) d v k is = ap (λ x. own_of g n x v k) is
own_grown g n (Vhd head m) d v k (grown, is, more) = ap (λ x. own_of g n x v k) is

-- ---- one call after the other

module _ {S : Type 0} (g : Ghosts S) (child : Body) where
  -- where the store was only read
  pub copies_none : (p : Body) {a b : S} → OnlyReads g a b → (g.told → ImageIsTrue (stored g a) p) → Copies g child p p a b
  copies_none p {a} {b} r is = record {
    works = works_reads (volume_name p) r;
    masked = λ told.
        subst (λ (x : Stored). IsMaskedBy (g.site a).geometry (sectors_in (stored g a) (volume_name p)) p (own_read (stored g a) child) (held_in (stored g a) (volume_name p)) (held_in x (volume_name p))) (sym (same-stored r told))
        (masked_none (g.site a).geometry (sectors_in (stored g a) (volume_name p)) (own_read (stored g a) child) p (held_in (stored g a) (volume_name p)) (is told));
    grown = grown_self p;
  }

-- ---- the sectors that it holds

-- those of the block that were gathered are what it holds
gathered_held : (own : ℕ → Option (List ℕ)) (block wide : ℕ) (marks bytes : List ℕ) → AreGathered own (block * wide) marks bytes wide → (k : ℕ) (v : List ℕ) → PutsMarkedIn wide block marks bytes k v → own k ≡ Some v
gathered_held own block wide marks bytes all k v h =
    ap own h.here ∙ (all h.i h.within ∙ (cond-true (is_set marks h.i) (Some (sector bytes h.i)) None h.marked ∙ ap Some (sym h.is)))

-- and each that it holds was gathered
gathered_all : (own : ℕ → Option (List ℕ)) (block wide : ℕ) (marks bytes : List ℕ) → AreGathered own (block * wide) marks bytes wide → (k : ℕ) (v : List ℕ) → block * wide ≤ k → k < block * wide + wide → own k ≡ Some v
    → PutsMarkedIn wide block marks bytes k v
gathered_all own block wide marks bytes all k v low below has = ⊎_elim
    (λ on. record {
      i = i;
      within = small;
      here = place;
      marked = on;
      is = same_Some v (sector bytes i) (sym has ∙ (ap own place ∙ (all i small ∙ cond-true (is_set marks i) (Some (sector bytes i)) None on)));
    })
    (λ off. absurd (none-some v (sym (ap own place ∙ (all i small ∙ cond-false (is_set marks i) (Some (sector bytes i)) None off)) ∙ has)))
    (cases_Bool (is_set marks i))
  where
    i : ℕ
    i = k - block * wide

    small : k - block * wide < wide
    small = omega (arith, low, below)

    place : k ≡ block * wide + (k - block * wide)
    place = omega (arith, low)

-- ---- a block that is written

module _ {S : Type 0} (g : Ghosts S) (child p q : Body) (block : ℕ) (marks bytes : List ℕ) {a c d : S} (r : OnlyReads g a c)
    (all : g.told → AreGathered (own_read (stored g a) child) (block * (g.site a).geometry.block) marks bytes (g.site a).geometry.block) (works : WorksOn g (volume_name p) c d) where
  -- at any moment of it
  pub copies_put : Does g (volume_name p) (IsPutting (g.site c).geometry (sectors_in (stored g c) (volume_name p)) p (PutsMarkedIn (g.site c).geometry.block block marks bytes)) c d
      → MayHaveSlot block p q → Copies g child p q a d
  copies_put putting slot = record {
    works = works_then (works_reads (volume_name p) r) works;
    masked = λ told.
        masked_put (g.site a).geometry (sectors_in (stored g a) (volume_name p)) (own_read (stored g a) child) p (PutsMarkedIn (g.site a).geometry.block block marks bytes) _ _
        (gathered_held (own_read (stored g a) child) block (g.site a).geometry.block marks bytes (all told))
        (subst (λ (x : Stored). IsPutting x.site.geometry (sectors_in x (volume_name p)) p (PutsMarkedIn x.site.geometry.block block marks bytes) (held_in x (volume_name p)) (held_in (stored g d) (volume_name p))) (same-stored r told) (putting told));
    grown = slot_grown block p q slot;
  }

  -- and once it is done
  pub copied_put : q ≡ with_slot block p → StandsIn (g.site c).geometry (sectors_in (stored g c) (volume_name p)) q
      → Holds g (volume_name p) (λ h. TrueIn (g.site c).geometry (sectors_in (stored g c) (volume_name p)) h q) d
      → Does g (volume_name p) (HasPut (g.site c).geometry (sectors_in (stored g c) (volume_name p)) p (PutsMarkedIn (g.site c).geometry.block block marks bytes)) c d
      → HasCopied g child block (block * (g.site a).geometry.block) (g.site a).geometry.block p q a d
  copied_put slot stands now written = record {
    slot = inr slot;
    stands = subst₂ (λ (s : Site) (t : VolumeTable). StandsIn s.geometry (size_of s t (volume_name p)) q) r.stays.site r.stays.table stands;
    is_true = λ told. subst (λ (x : Stored). TrueIn x.site.geometry (sectors_in x (volume_name p)) (held_in (stored g d) (volume_name p)) q) (same-stored r told) (now told);
    copied = λ told k v low below has. (done told).inside k v (gathered_all (own_read (stored g a) child) block wide marks bytes (all told) k v low below has);
    kept = λ told k v has was. ⊎_elim
        (λ m. (done told).inside k v (gathered_all (own_read (stored g a) child) block wide marks bytes (all told) k v (omega (arith, m.here)) (omega (arith, m.here, m.within)) has))
        (λ away. (done told).outside k (λ v h. away (by.inside k v h)) ∙ was)
        (by.either k);
  }
    where
      wide : ℕ
      wide = (g.site a).geometry.block

      by : IsGivenBy (PutsMarkedIn (g.site a).geometry.block block marks bytes) (IsMarkedIn (g.site a).geometry.block block marks)
      by = marks-given (g.site a).geometry.block (block * (g.site a).geometry.block) marks bytes

      done : g.told → HasPut (g.site a).geometry (sectors_in (stored g a) (volume_name p)) p (PutsMarkedIn (g.site a).geometry.block block marks bytes) (held_in (stored g a) (volume_name p)) (held_in (stored g d) (volume_name p))
      done told = subst (λ (x : Stored). HasPut x.site.geometry (sectors_in x (volume_name p)) p (PutsMarkedIn x.site.geometry.block block marks bytes) (held_in x (volume_name p)) (held_in (stored g d) (volume_name p))) (same-stored r told) (written told)

-- a run of which the other image holds nothing
pub copied_none : {S : Type 0} (g : Ghosts S) (child p : Body) (block at count : ℕ) {a b : S} → OnlyReads g a b → StandsIn (g.site a).geometry (sectors_in (stored g a) (volume_name p)) p → (g.told → ImageIsTrue (stored g a) p)
    → (g.told → (k : ℕ) → at ≤ k → k < at + count → own_read (stored g a) child k ≡ None) → HasCopied g child block at count p p a b
copied_none g child p block at count {a} {b} r stands is none = record {
  slot = inl refl;
  stands = stands;
  is_true = λ told. subst (λ (x : Stored). TrueIn (g.site a).geometry (sectors_in (stored g a) (volume_name p)) (held_in x (volume_name p)) p) (sym (same-stored r told)) (is told);
  copied = λ told k bytes low below has. absurd (none-some bytes (sym (none told k low below) ∙ has));
  kept = λ told k bytes has was. subst (λ (x : Stored). own_of (g.site a).geometry (sectors_in (stored g a) (volume_name p)) p (reads (held_in x (volume_name p))) k ≡ Some bytes) (sym (same-stored r told)) was;
}

-- of a run that is not held each sector is held by none
pub run_empty : (own : ℕ → Option (List ℕ)) (at most : ℕ) (run : Run) → IsRunOf own at most run → run.held ≡ false → (k : ℕ) → at ≤ k → k < at + run.sectors → own k ≡ None
run_empty own at most run is none k low below =
    let e : at + (k - at) ≡ k = omega (arith, low) in
    none_there (own k) (ap (λ j. is_some (own j)) (sym e) ∙ is.alike (k - at) (omega (arith, low, below)) ∙ none)
  where
    none_there : (o : Option (List ℕ)) → is_some o ≡ false → o ≡ None
    none_there None e = refl
    none_there (Some x) e = absurd (true≢false e)

-- and of one that is held each, in the store that was read
pub held_read : {S : Type 0} (g : Ghosts S) (child : Body) (at most : ℕ) (run : Run) {a c : S} → OnlyReads g a c → IsRunOf (own_read (stored g a) child) at most run → run.held ≡ true → g.told
    → (k : ℕ) → k < run.sectors → is_some (own_read (stored g c) child (at + k)) ≡ true
held_read g child at most run r is held told k below = subst (λ (x : Stored). is_some (own_read x child (at + k)) ≡ true) (sym (same-stored r told)) (is.alike k below ∙ held)

-- ---- a run that is gathered

-- from one sector on none is marked, where only those in front were
pub unmarked_then : (part count : ℕ) (marks marks' : List ℕ) → AreUnmarkedFrom part marks → ((i : ℕ) → (i < part) ⊎ (part + count ≤ i) → is_set marks' i ≡ is_set marks i) → AreUnmarkedFrom (part + count) marks'
unmarked_then part count marks marks' clean others i past = others i (inr past) ∙ clean i (omega (arith, past))

module _ (own : ℕ → Option (List ℕ)) (base part count : ℕ) (marks bytes : List ℕ) (before : AreGathered own base marks bytes part) where
  -- that is not held
  pub gathered_none : AreUnmarkedFrom part marks → ((k : ℕ) → base + part ≤ k → k < base + part + count → own k ≡ None) → AreGathered own base marks bytes (part + count)
  gathered_none clean none i below = ⊎_elim (λ front. before i front)
      (λ behind. none (base + i) (omega (arith, behind)) (omega (arith, below)) ∙ sym (cond-false (is_set marks i) (Some (sector bytes i)) None (clean i behind))) (cases_lt i part)

  -- that is held, and read to its place
  pub gathered_run : (marks' : List ℕ) → ((i : ℕ) → part ≤ i → i < part + count → is_set marks' i ≡ true) → ((i : ℕ) → (i < part) ⊎ (part + count ≤ i) → is_set marks' i ≡ is_set marks i)
      → (run : List ℕ) → length run ≡ 512 * count → 512 * (part + count) ≤ length bytes → ((k : ℕ) → 512 * k < length run → own (base + part + k) ≡ Some (sector run k))
      → AreGathered own base marks' (put_mid (512 * part) (512 * (part + count) - 512 * part) bytes run) (part + count)
  gathered_run marks' set others run long fits holds i below = ⊎_elim
      (λ front. before i front ∙ ap₂ (λ (c : Bool) (x : List ℕ). if c then Some x else None) (sym (others i (inl front))) (sym (front-stays bytes run part count i fits front)))
      (λ behind.
      let place : base + i ≡ base + part + (i - part) = omega (arith, behind) in
      ap own place
      ∙ (holds (i - part) (omega (arith, behind, below, long))
      ∙ (ap Some (sym (piece-put bytes run part count i long fits behind below))
      ∙ sym (cond-true (is_set marks' i) (Some (sector (put_mid (512 * part) (512 * (part + count) - 512 * part) bytes run) i)) None (set i behind below)))))
      (cases_lt i part)

-- where no sector is marked none is held
pub gathered_nothing : (own : ℕ → Option (List ℕ)) (base count : ℕ) (marks bytes : List ℕ) → AreGathered own base marks bytes count → ((i : ℕ) → i < count → is_set marks i ≡ false) → (i : ℕ) → i < count → own (base + i) ≡ None
gathered_nothing own base count marks bytes all off i below = all i below ∙ cond-false (is_set marks i) (Some (sector bytes i)) None (off i below)

-- ---- what is said where there is something, or nothing

pub some_fact : {A : Type 0} (P : A → Type 0) {o : Option A} {x : A} → o ≡ Some x → IfSome o P → P x
some_fact P is h = subst (λ q. IfSome q P) is h

pub none_fact : {A P : Type 0} {o : Option A} → o ≡ None → IfNone o P → P
none_fact {A} {P} is h = subst (λ (q : Option A). IfNone q P) is h
