-- Where the two writes of a flip go.
use Rattle.std.proofs.Common.{◌≡◌, ℕ, ◌+◌, ◌*◌, ◌%◌, ◌<◌, ◌≤◌, ◌⊎◌, inl, inr, List, sym, ap, subst, ◌∙◌, ◌-◌, arith}
use Rattle.sm_base.specs.Numbers.{div_up}
use Rattle.sm_disk.specs.Held.{Held, IsIn, IsWhole, Puts, Reaches}
use Rattle.sm_disk.proofs.HeldLaws.{in_one}
use Rattle.vg_layout.specs.Places.{Frame, IsApart, area_place, frame_of, slot_bytes, slot_place}
use Rattle.vg_layout.specs.declared.places.Slot.{Slot}
use Rattle.vg_layout.specs.declared.places.Slot.TheVariants.{Zero, One}
use Rattle.vg_layout.specs.Fields.{slot_number}
use Rattle.vg_volumes.specs.Commits.{current_version}
use Rattle.vg_layout.specs.Opening.{frame_in}
use Rattle.vg_layout.specs.Sectors.{Plate, Pointer}
use Rattle.vg_meta.specs.Tables.{VolumeTable}
use Rattle.vg_store.specs.Groups.{IsFrameOf, IsNextOf}
use Rattle.vg_store.proofs.BesideLaws.{IsNoPart}
use Rattle.vg_store.proofs.CommitLaws.{IsStaged, IsStep}
use Rattle.vg_store.proofs.ImageLaws.{frame_apart, plate_area, sectors_most, sectors_hold, slot_front}

-- the parts of the frame by which commits are made stand apart
pub current_apart : (layout : ℕ) (f : Frame) → IsFrameOf f layout → IsApart f (area_place layout)
current_apart layout f is = subst (λ (k : Frame). IsApart k (area_place layout)) (sym is) (frame_apart current_version layout)

slot_low : (s : Slot) → slot_number s ≤ 1
slot_low Zero = omega arith
slot_low One = omega arith

-- what is written into a slot of a frame ends in front of each place that the slot does
pub in_front : (f : Frame) (from : ℕ) (s : Slot) (place len size : ℕ) → IsApart f from → place ≡ slot_place f (slot_number s) → len ≡ 512 * div_up size 512 → size ≤ slot_bytes f
    → 512 * place + len ≤ 512 * from
in_front f from s place len size apart is long most =
    let few = sectors_most f size most in
    let front = slot_front (slot_number s) (slot_low s) apart in
    omega (arith, is, long, few, front)

-- and lies where the frame has something
pub slot_clear : (f : Frame) (layout : ℕ) (s : Slot) (place len size : ℕ) → IsFrameOf f layout → place ≡ slot_place f (slot_number s) → len ≡ 512 * div_up size 512 → size ≤ slot_bytes f
    → (q : ℕ) → IsNoPart (frame_of current_version layout) q → IsIn place len q → ⊥
slot_clear f layout s place len size own is long most q none here =
    let free : IsNoPart f q = subst (λ (k : Frame). IsNoPart k q) (sym own) none in
    by (free.slots (slot_number s) (slot_low s))
  where
    by : (q < slot_place f (slot_number s)) ⊎ (slot_place f (slot_number s) + f.room ≤ q) → ⊥
    by (inl before) = omega (arith, is, before, here.0)
    by (inr behind) = omega (arith, is, behind, here.1, long, sectors_most f size most)

-- and so does what is written at the header
pub header_clear : (f : Frame) (layout len : ℕ) → IsFrameOf f layout → len ≡ 512 → (q : ℕ) → IsNoPart (frame_of current_version layout) q → IsIn f.header len q → ⊥
header_clear f layout len own long q none here =
    let free : IsNoPart f q = subst (λ (k : Frame). IsNoPart k q) (sym own) none in
    free.header (in_one f.header len q long here)

pub header_front : (f : Frame) (from len : ℕ) → IsApart f from → len ≡ 512 → 512 * f.header + len ≤ 512 * from
header_front f from len apart long = omega (arith, apart.front.0, long)

whole : (len n : ℕ) → len ≡ 512 * n → len % 512 ≡ 0
whole len n e = omega (arith, e)

pub whole_from : (f : Frame) (s : Slot) (place len size wide : ℕ) → IsApart f wide → place ≡ slot_place f (slot_number s) → len ≡ 512 * div_up size 512 → size ≤ slot_bytes f
    → 0 < size → IsWhole place len wide
whole_from f s place len size wide apart is long most some =
    let front = in_front f wide s place len size apart is long most in
    let holds = sectors_hold size in
    record { some = omega (arith, long, holds, some); whole = whole len (div_up size 512) long; within = omega (arith, front) }

pub len_most : (f : Frame) (len size : ℕ) → len ≡ 512 * div_up size 512 → size ≤ slot_bytes f → len ≤ slot_bytes f
len_most f len size long most = let few = sectors_most f size most in omega (arith, long, few)

-- ---- the next table of a group

module _ {size : ℕ} {a : Held} {f : Frame} {p : Plate} {at : Pointer} {t : VolumeTable} {bytes : List ℕ} {next : Pointer} {u : VolumeTable} {written : List ℕ} (n : IsNextOf size a f p at t bytes next u written) where
  -- the device reaches to the extents
  pub reaches_area : area_place p.layout ≤ size
  reaches_area = omega (arith, plate_area size a.floor p n.group.rests.labelled)

  -- a place of the other slot
  pub other_place : (place : ℕ) → place ≡ slot_place f next.slot → place ≡ slot_place (frame_in a.floor) (1 - at.slot)
  other_place place is = is ∙ ap (λ (k : Frame). slot_place k next.slot) n.frame ∙ ap (slot_place (frame_in a.floor)) n.is_next.slot

  pub in_slot : (len : ℕ) → len ≤ slot_bytes f → len ≤ slot_bytes (frame_in a.floor)
  in_slot len = subst (λ (k : Frame). len ≤ slot_bytes k) n.frame

  pub step_of : {b : Held} (place : ℕ) → place ≡ slot_place f next.slot → IsStaged a b place written → IsStep size a b p at next t u bytes written place
  step_of place is staged = record { group = n.group; staged = staged; is_next = n.is_next; is_place = is ∙ ap (λ (k : Frame). slot_place k next.slot) n.frame }

  pub header_puts : {b c : Held} (head : List ℕ) → Reaches (Puts f.header head) b c → Reaches (Puts (frame_in a.floor).header head) b c
  header_puts {b} {c} head = subst (λ (k : Frame). Reaches (Puts k.header head) b c) n.frame

  pub header_staged : {b c : Held} {head : List ℕ} → IsStaged b c f.header head → IsStaged b c (frame_in a.floor).header head
  header_staged {b} {c} {head} = subst (λ (k : Frame). IsStaged b c k.header head) n.frame
