-- The frames of each version and layout: their parts stand apart, in front of the layout's extents.
use Rattle.std.proofs.Common.{◌≡◌, ◌⊎◌, inl, inr, ℕ, zero, suc, ◌+◌, ◌-◌, ◌*◌, ◌<◌, ◌≤◌, Bool, true, false, cond, eqb, arith}
use Rattle.sm_base.specs.Numbers.{div_up}
use Rattle.vg_layout.specs.Places.{Frame, IsApart, frame_of, old_frame, narrow_frame, wide_frame, slot_bytes, slot_place, area_place}

apart_old : (from : ℕ) → 2050 ≤ from → IsApart old_frame from
apart_old from far = record { label = (omega arith, omega arith, omega arith); header = header; slots = slots; front = (omega (arith, far), omega (arith, far), omega (arith, far)) }
  where
    header : (s : ℕ) → s ≤ 1 → (1 < slot_place old_frame s) ⊎ (slot_place old_frame s + 1024 ≤ 1)
    header zero h = inl (omega arith)
    header (suc zero) h = inl (omega arith)
    header (suc (suc n)) h = absurd (omega (arith, h))

    slots : (s : ℕ) → s ≤ 1 → (slot_place old_frame s + 1024 ≤ slot_place old_frame (1 - s)) ⊎ (slot_place old_frame (1 - s) + 1024 ≤ slot_place old_frame s)
    slots zero h = inl (omega arith)
    slots (suc zero) h = inr (omega arith)
    slots (suc (suc n)) h = absurd (omega (arith, h))

apart_narrow : IsApart narrow_frame 4096
apart_narrow = record { label = (omega arith, omega arith, omega arith); header = header; slots = slots; front = (omega arith, omega arith, omega arith) }
  where
    header : (s : ℕ) → s ≤ 1 → (2050 < slot_place narrow_frame s) ⊎ (slot_place narrow_frame s + 2045 ≤ 2050)
    header zero h = inl (omega arith)
    header (suc zero) h = inr (omega arith)
    header (suc (suc n)) h = absurd (omega (arith, h))

    slots : (s : ℕ) → s ≤ 1 → (slot_place narrow_frame s + 2045 ≤ slot_place narrow_frame (1 - s)) ⊎ (slot_place narrow_frame (1 - s) + 2045 ≤ slot_place narrow_frame s)
    slots zero h = inr (omega arith)
    slots (suc zero) h = inl (omega arith)
    slots (suc (suc n)) h = absurd (omega (arith, h))

apart_wide : IsApart wide_frame 37376
apart_wide = record { label = (omega arith, omega arith, omega arith); header = header; slots = slots; front = (omega arith, omega arith, omega arith) }
  where
    header : (s : ℕ) → s ≤ 1 → (2050 < slot_place wide_frame s) ⊎ (slot_place wide_frame s + 16640 ≤ 2050)
    header zero h = inl (omega arith)
    header (suc zero) h = inl (omega arith)
    header (suc (suc n)) h = absurd (omega (arith, h))

    slots : (s : ℕ) → s ≤ 1 → (slot_place wide_frame s + 16640 ≤ slot_place wide_frame (1 - s)) ⊎ (slot_place wide_frame (1 - s) + 16640 ≤ slot_place wide_frame s)
    slots zero h = inl (omega arith)
    slots (suc zero) h = inr (omega arith)
    slots (suc (suc n)) h = absurd (omega (arith, h))

pub frame_apart : (version layout : ℕ) → IsApart (frame_of version layout) (area_place layout)
unfolding frame_of area_place
frame_apart version layout = by (eqb version 1) (eqb layout 0)
  where
    by : (old narrow : Bool) → IsApart (cond old old_frame (cond narrow narrow_frame wide_frame)) (cond narrow 4096 37376)
    by true true = apart_old 4096 (omega arith)
    by true false = apart_old 37376 (omega arith)
    by false true = apart_narrow
    by false false = apart_wide

-- no slot has more bytes than one of the wide layout
pub frame_room : (version layout : ℕ) → slot_bytes (frame_of version layout) ≤ 8519680
unfolding frame_of
frame_room version layout = by (eqb version 1) (eqb layout 0)
  where
    by : (old narrow : Bool) → slot_bytes (cond old old_frame (cond narrow narrow_frame wide_frame)) ≤ 8519680
    by true narrow = omega arith
    by false true = omega arith
    by false false = omega arith

-- parts that stand in front of a place stand in front of each later one
pub apart_within : {f : Frame} {from size : ℕ} → IsApart f from → from ≤ size → IsApart f size
apart_within a le = record { label = a.label; header = a.header; slots = a.slots; front = (omega (arith, a.front.0, le), omega (arith, a.front.1, le), omega (arith, a.front.2, le)) }

-- each slot is in front of the place
pub slot_front : {f : Frame} {from : ℕ} (slot : ℕ) → slot ≤ 1 → IsApart f from → slot_place f slot + f.room ≤ from
slot_front zero low a = a.front.1
slot_front (suc zero) low a = a.front.2
slot_front (suc (suc n)) low a = absurd (omega (arith, low))

-- and behind the label
pub slot_behind : {f : Frame} {from : ℕ} (slot : ℕ) → slot ≤ 1 → IsApart f from → 1 ≤ slot_place f slot
slot_behind zero low a = a.label.1
slot_behind (suc zero) low a = a.label.2
slot_behind (suc (suc n)) low a = absurd (omega (arith, low))

-- so many sectors hold a text that is no longer than a slot
pub sectors_most : (f : Frame) (size : ℕ) → size ≤ slot_bytes f → div_up size 512 ≤ f.room
unfolding div_up
sectors_most f size h = omega (arith, h)
