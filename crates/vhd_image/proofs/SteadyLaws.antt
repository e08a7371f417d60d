-- What keeps an image steady: over the calls, and once they are synced.
use Rattle.std.proofs.Common.{◌≡◌, ◌≢◌, ℕ, ◌-◌, ◌<◌, ◌⊎◌, inl, inr, List, replicate, Option, None, true, sym, ap, ◌∙◌, subst, subst₂, ⊎_elim, arith}
use Rattle.std.proofs.Math.Path.{fun_ext}
use Rattle.sm_base.specs.Numbers.{IsGeometry}
use Rattle.sm_base.proofs.NumberLemmas.{first-ge}
use Rattle.sm_base.specs.declared.sizes.Geometry.{Geometry}
use Rattle.sm_disk.specs.Held.{Held, Allows, Keeps, IsSettled, reads}
use Rattle.sm_disk.proofs.HeldLaws.{Allows-reads}
use Rattle.vg_volumes.specs.Volumes.{KeepsAt}
use Rattle.vhd_map.specs.Bitmaps.{is_set}
use Rattle.vhd_map.specs.Places.{blank}
use Rattle.vhd_map.specs.Slots.{slot_of}
use Rattle.vhd_map.proofs.SlotLemmas.{slot_of-replicate}
use Rattle.vhd_layout.specs.Layouts.{Sectors, Layout, code, entries_in_sectors, entry, place}
use Rattle.vhd_layout.specs.Images.{EachSlotHolds, IsImage}
use Rattle.vhd_layout.proofs.ImageLaws.{in_entries, option_cases, place-within}
use Rattle.vhd_volumes.specs.declared.heads.Head.{Head}
use Rattle.vhd_volumes.specs.Steady.{IsHeadSector, IsLeftImage, IsQuiet, IsSteadyIn}
use Rattle.vhd_volumes.specs.Truth.{IsTrueIn, layout_in}
use Rattle.vhd_volumes.specs.Writes.{KeepsBut, KeepsHeads}
use Rattle.vhd_volumes.proofs.SteadyLaws.{quiet_settled, steady_keeps, steady_left, steady_synced, steady_written}
use Rattle.vhd_write.proofs.ImageKept.{SameEnds, entry-kept, image-kept, valid-from_image}
use Rattle.vhd_image.specs.Bodies.{IfVhd, TrueIn, volume_name}
use Rattle.vhd_image.specs.Changes.{ChangesBy, EndsAt, IsRelinked, IsResized, SaysSame, StaysTrueIn, with_parent, with_size}
use Rattle.vhd_image.specs.Opened.{ReadsAsImage}
use Rattle.vhd_image.specs.Steady.{IsSteady}
use Rattle.vhd_image.specs.Written.{IsWriting, MayHaveGrown}
use Rattle.vhd_image.specs.declared.images.Body.{Body}
use Rattle.vhd_image.specs.declared.images.Body.TheVariants.{Raw, Vhd}
use Rattle.vhd_image.proofs.ContentLaws.{is-layout}

-- ---- images of either kind

-- a steady image is true
pub body_true : (g : Geometry) (n : ℕ) (h : Held) (body : Body) → IsSteady g n h body → TrueIn g n h body
body_true g n h (Raw volume size) was = tt
body_true g n h (Vhd head m) was = was.is_true

-- a steady image stays so over a sync, a commit that leaves its extents, and work on another volume
pub body_keeps : (g : Geometry) (n : ℕ) (body : Body) {a b : Held} → Keeps a b → IsSteady g n a body → IsSteady g n b body
body_keeps g n (Raw volume size) keeps was = was
body_keeps g n (Vhd head m) keeps was = steady_keeps g n head m keeps was

-- and over a guest's write that succeeded
pub body_written : (g : Geometry) (n at : ℕ) (bytes : List ℕ) (old new : Body) (a b : Held) → IsWriting g n old at bytes a b → IfVhd old (λ head m. KeepsHeads n a b)
    → MayHaveGrown old new → TrueIn g n b new → IsSteady g n a old → IsSteady g n b new
body_written g n at bytes (Raw volume size) new a b writing heads grown now was = subst (λ body. IsSteady g n b body) (sym grown) was
body_written g n at bytes (Vhd head m) new a b writing heads (after, is, more) now was =
    subst (λ body. IsSteady g n b body) (sym is) (steady_written g n head m _ after writing heads (subst (λ body. TrueIn g n b body) is now) was)

-- ---- of an image that a read gives

module _ (g : Geometry) (n : ℕ) (head : Head) (m : List (Option ℕ)) (ok : IsGeometry g.extent g.block g.entries) where
  l : Layout
  l = layout_in g head.footer n

  -- where nothing is pending a stop leaves what a read gives
  quiet_ends : (h : Held) (v : Sectors) → IsQuiet h → ReadsAsImage g n h head m → Allows n h v → SameEnds l (reads h) v
  unfolding l
  quiet_ends h v quiet is allows =
      let room = is.head.room in
      record { front = λ p below. quiet p (v p) (allows p (omega (arith, below, room))); last = quiet (n - 1) (v (n - 1)) (allows (n - 1) (omega (arith, room))) }

  -- so an image that a read gives is true of it
  pub true_quiet : (h : Held) → IsQuiet h → ReadsAsImage g n h head m → IsTrueIn g n h head m
  unfolding l
  true_quiet h quiet is =
      let ly = is-layout g head.footer n ok in
      record {
        now = is;
        valid = λ v allows. valid-from_image l ly (image-kept ly (quiet_ends h v quiet is allows) is);
        within = λ v allows b below. inr (entry-kept ly (quiet_ends h v quiet is allows) b below ∙ is.table b below);
      }

  -- and its slots hold what they hold in a read
  holding_quiet : (h : Held) (v : Sectors) → IsQuiet h → ReadsAsImage g n h head m → EachSlotHolds g.block g.entries (reads h) → Allows n h v → EachSlotHolds g.block g.entries v
  unfolding l
  holding_quiet h v quiet is holds allows = record { holds = held }
    where
      held : (b : ℕ) → b < g.entries → entry v b ≢ blank → (i : ℕ) × (i < g.block) × (is_set (v (entry v b)) i ≡ true)
      held b below filled = ⊎_elim
          (λ none. absurd (filled (e ∙ (is.table b inside ∙ ap (code l) none))))
          (λ some.
          let at : entry (reads h) b ≡ place l some.0 0 = is.table b inside ∙ ap (code l) some.1 in
          let low : entry (reads h) b < n = omega (arith, at, place-within l some.0 0 (is.slots.fits b some.0 some.1).1 (omega arith)) in
          let found = holds.holds b below (λ none. filled (e ∙ none)) in
          let bits : v (entry v b) ≡ reads h (entry (reads h) b) = ap v e ∙ quiet (entry (reads h) b) (v (entry (reads h) b)) (allows (entry (reads h) b) low) in
          (found.0, found.1, ap (λ (x : List ℕ). is_set x found.0) bits ∙ found.2))
          (option_cases (slot_of m b))
        where
          inside : b < entries_in_sectors l
          inside = in_entries l b below

          e : entry v b ≡ entry (reads h) b
          e = entry-kept (is-layout g head.footer n ok) (quiet_ends h v quiet is allows) b inside

  -- an image that a read gives, with a sector in each slot, is steady where nothing is pending
  pub steady_quiet : (h : Held) → IsQuiet h → ReadsAsImage g n h head m → EachSlotHolds g.block g.entries (reads h) → IsSteadyIn g n h head m
  steady_quiet h quiet is holds = record {
    is_true = true_quiet h quiet is;
    still = λ p v here may. quiet p v may;
    holding = λ v allows. holding_quiet h v quiet is holds allows;
  }

-- ---- in the first sectors of a volume

module _ (g : Geometry) (n : ℕ) (head : Head) (m : List (Option ℕ)) (ok : IsGeometry g.extent g.block g.entries) where
  -- an image stays steady where its own sectors are kept
  pub steady_kept : (a b : Held) → KeepsAt (λ p. p < n) a b → IsSteadyIn g n a head m → IsSteadyIn g n b head m
  steady_kept a b keeps was =
      let ly = is-layout g head.footer n ok in
      let room = was.is_true.now.head.room in
      let before : (v : Sectors) → Allows n b v → Allows n a v = λ v allows p below. keeps.may p (v p) below (allows p below) in
      record {
        is_true = record {
          now = image-kept {l = layout_in g head.footer n} ly (record { front = λ p below. keeps.reads p (omega (arith, below, room)); last = keeps.reads (n - 1) (omega (arith, room)) }) was.is_true.now;
          valid = λ v allows. was.is_true.valid v (before v allows);
          within = λ v allows. was.is_true.within v (before v allows);
        };
        still = λ p v here may.
            let below : p < n = ⊎_elim (λ front. omega (arith, front, room, first-ge g.entries ok.entries_least)) (λ last. omega (arith, last)) here in
            was.still p v here (keeps.may p v below may) ∙ sym (keeps.reads p below);
        holding = λ v allows. was.holding v (before v allows);
      }

-- and so does one of either kind
pub body_kept : (g : Geometry) (n : ℕ) (body : Body) (a b : Held) → IsGeometry g.extent g.block g.entries → KeepsAt (λ p. p < n) a b → IsSteady g n a body → IsSteady g n b body
body_kept g n (Raw volume size) a b ok keeps was = was
body_kept g n (Vhd head m) a b ok keeps was = steady_kept g n head m ok a b keeps was

-- ---- after a change, once it is synced

-- a new image, which has no slot, is steady
pub steady_made : (g : Geometry) (n : ℕ) (head : Head) {a b : Held} → IsGeometry g.extent g.block g.entries → IsImage (layout_in g head.footer n) (reads a) head.footer head.header (λ k. None)
    → Keeps a b → IsSettled b → IsSteadyIn g n b head (replicate g.entries None)
steady_made g n head {a} {b} ok is keeps settled = steady_quiet g n head none ok b (quiet_settled b settled) there
    (record { holds = λ k below filled. absurd (filled (there.table k (in_entries (layout_in g head.footer n) k below) ∙ ap (code (layout_in g head.footer n)) (slot_of-replicate g.entries k))) })
  where
    none : List (Option ℕ)
    none = replicate g.entries None

    there : ReadsAsImage g n b head none
    there = subst₂ (λ (v : Sectors) (slots : ℕ → Option ℕ). IsImage (layout_in g head.footer n) v head.footer head.header slots) (fun_ext (λ p. sym (keeps.reads p))) (fun_ext (λ k. sym (slot_of-replicate g.entries k))) is

module _ (g : Geometry) (n : ℕ) (head : Head) (m : List (Option ℕ)) (a b c : Held) (keeps : Keeps b c) (settled : IsSettled c) (was : IsSteadyIn g n a head m) where
  -- each slot holds what it held
  changed_holds : (R : Sectors → Sectors → Type 0) → ((v w : Sectors) → R v w → SaysSame (layout_in g head.footer n) v w)
      → ChangesBy (layout_in g head.footer n) R a b → (w : Sectors) → Allows n b w → EachSlotHolds g.block g.entries w
  changed_holds R says by w allows = let f = by.from w allows in (says f.before w f.changed).holds (was.holding f.before f.allowed)

  -- an image that has this size now
  pub steady_resized : (sectors : ℕ) → ChangesBy (layout_in g head.footer n) (IsResized (layout_in g head.footer n) sectors) a b → IsTrueIn g n b (with_size head sectors) m
      → IsSteadyIn g n c (with_size head sectors) m
  steady_resized sectors by now = steady_synced g n (with_size head sectors) m keeps settled now (changed_holds _ (λ v w is. is.says) by)

  -- an image that has this parent now
  pub steady_relinked : (parent : Body) → ChangesBy (layout_in g head.footer n) (IsRelinked (layout_in g head.footer n) (volume_name parent)) a b → IsTrueIn g n b (with_parent head parent) m
      → IsSteadyIn g n c (with_parent head parent) m
  steady_relinked parent by now = steady_synced g n (with_parent head parent) m keeps settled now (changed_holds _ (λ v w is. is.says) by)

  -- an image that got one footer more, where it lies
  pub steady_ended : StaysTrueIn g head m a b → IsSteadyIn g n c head m
  steady_ended stays = let s = stays n was.is_true in steady_synced g n head m keeps settled s.true_now (changed_holds _ (λ v w is. is.says) s.same)

  -- and where it is to end
  pub steady_at_end : (sectors : ℕ) → IsGeometry g.extent g.block g.entries → StaysTrueIn g head m a b → EndsAt g sectors head m a b → IsSteadyIn g sectors c head m
  steady_at_end sectors ok stays ends =
      let same : (λ p. reads c p) ≡ (λ p. reads b p) = fun_ext keeps.reads in
      let there = subst (λ (v : Sectors). IsImage (layout_in g head.footer sectors) v head.footer head.header (slot_of m)) (sym same) (ends n was.is_true) in
      let holds = (steady_ended stays).holding (reads c) (Allows-reads n c) in
      steady_quiet g sectors head m ok c (quiet_settled c settled) there holds

-- ---- at any moment of a change, and of one that failed

module _ (g : Geometry) (n : ℕ) (head : Head) (m : List (Option ℕ)) (a b : Held) (was : IsSteadyIn g n a head m) where
  -- a stop leaves the image with its size or with the new one
  pub resized_left : (sectors : ℕ) (w : Sectors) → ChangesBy (layout_in g head.footer n) (IsResized (layout_in g head.footer n) sectors) a b → Allows n b w
      → IsLeftImage g n head w ⊎ IsLeftImage g n (with_size head sectors) w
  resized_left sectors w by allows =
      let f = by.from w allows in
      let old = steady_left g n head m f.before was f.allowed in
      ⊎_elim
      (λ same. inl (record { valid = by.valid w allows; size = same ∙ old.size; parent = f.changed.parent ∙ old.parent; holding = f.changed.says.holds old.holding }))
      (λ new. inr (record { valid = by.valid w allows; size = omega (arith, new); parent = f.changed.parent ∙ old.parent; holding = f.changed.says.holds old.holding })) f.changed.size

  -- with its parent or with the new one
  pub relinked_left : (parent : Body) (w : Sectors) → ChangesBy (layout_in g head.footer n) (IsRelinked (layout_in g head.footer n) (volume_name parent)) a b → Allows n b w
      → IsLeftImage g n head w ⊎ IsLeftImage g n (with_parent head parent) w
  relinked_left parent w by allows =
      let f = by.from w allows in
      let old = steady_left g n head m f.before was f.allowed in
      ⊎_elim
      (λ same. inl (record { valid = by.valid w allows; size = f.changed.size ∙ old.size; parent = same ∙ old.parent; holding = f.changed.says.holds old.holding }))
      (λ new. inr (record { valid = by.valid w allows; size = f.changed.size ∙ old.size; parent = new; holding = f.changed.says.holds old.holding })) f.changed.parent

  -- with both as they were, where it gets one footer more
  pub ended_left : (w : Sectors) → StaysTrueIn g head m a b → Allows n b w → IsLeftImage g n head w
  ended_left w stays allows =
      let by = (stays n was.is_true).same in
      let f = by.from w allows in
      let old = steady_left g n head m f.before was f.allowed in
      record { valid = by.valid w allows; size = f.changed.size ∙ old.size; parent = f.changed.parent ∙ old.parent; holding = f.changed.says.holds old.holding }

  -- where the footer is no sector of its head it is steady without a sync
  pub steady_ended_apart : (q : ℕ) → ¬ IsHeadSector n q → KeepsBut (λ p. p ≡ q) a b → StaysTrueIn g head m a b → IsSteadyIn g n b head m
  steady_ended_apart q apart keeps stays =
      let s = stays n was.is_true in
      record {
        is_true = s.true_now;
        still = λ p v here may.
            let far : p ≡ q → ⊥ = λ e. apart (subst (IsHeadSector n) e here) in
            was.still p v here (keeps.may p v far may) ∙ sym (keeps.reads p far);
        holding = λ v allows. let f = s.same.from v allows in f.changed.says.holds (was.holding f.before f.allowed);
      }
