-- What a change writes is a next table, and what the group is afterwards.
use Rattle.std.proofs.Common.{◌≡◌, ℕ, ◌-◌, ◌*◌, ◌^◌, ◌<◌, ◌≤◌, ◌⊎◌, inl, inr, Bool, true, false, cond, eqb, leb, List, ◌++◌, length, take, drop, sum, refl, sym, ap, subst, ◌∙◌, arith, length-append}
use Rattle.std.proofs.lemmas.List.{take-take, take_at, length-take, length-drop}
use Rattle.std.proofs.lemmas.Bool.{le-leb}
use Rattle.std.specs.Int.{div_ceil}
use Rattle.sm_base.proofs.NumberLemmas.{div_up-div_ceil}
use Rattle.sm_base.specs.Limits.{extent_limit}
use Rattle.sm_base.specs.Numbers.{div_up}
use Rattle.sm_disk.specs.Held.{Held}
use Rattle.vg_meta.specs.Tables.{VolumeTable, IsTable}
use Rattle.vg_meta.specs.Roomy.{RoomyTable, places}
use Rattle.vg_meta.specs.Text.{HasText, text}
use Rattle.vg_meta.specs.Reading.{Spells}
use Rattle.vg_meta.specs.declared.changes.Change.{Change}
use Rattle.vg_meta.specs.Changes.{applied, spare_after, places_after}
use Rattle.vg_meta.specs.Changes as changes
use Rattle.vg_meta.proofs.ChangeLaws.{IsTable-applied}
use Rattle.vg_meta.proofs.CommitLaws.{HasText-few}
use Rattle.vg_meta.proofs.WriteLaws.{length-text}
use Rattle.vg_layout.specs.Sectors.{Plate, Pointer}
use Rattle.vg_layout.specs.Places.{Frame, frame_of, most_extents, narrow_frame, slot_bytes, wide_frame}
use Rattle.vg_layout.specs.Opening.{StandsOn, frame_in}
use Rattle.vg_volumes.specs.Commits.{current_version}
use Rattle.vg_volumes.specs.Sites.{RoomAfter, text_limit}
use Rattle.vg_store.specs.Groups.{Rests, IsGroup, IsNext, IsNextOf, GroupStands}
use Rattle.vg_store.specs.Heads.{IsPointerOf}
use Rattle.vg_store.proofs.ImageLaws.{frame_room, plate_few, plate_frame, sectors_most, sectors_hold}

-- ---- the text of the next table

-- a text is never empty
pub some_text : (t : VolumeTable) → 0 < length (text t)
some_text t = omega (arith, length-text t)

-- a text was written to the beginning of a buffer
pub head_from : (u : VolumeTable) (at : Pointer) (rest buffer : List ℕ) → buffer ≡ text u ++ rest → at.size ≡ length (text u)
    → at.total ≡ sum (take at.size buffer) → at.total < 2 ^ 32 → IsPointerOf u at buffer
head_from u at rest buffer is size total fits =
    let begins : take at.size buffer ≡ text u = ap (take at.size) is ∙ take_at (text u) rest at.size (sym size) in
    record { size = size; total = total ∙ ap sum begins; total_fits = fits; begins = begins }

-- and the buffer is as long as before
pub long_as_before : (bytes old new : List ℕ) → length bytes ≤ length old → new ≡ bytes ++ drop (length bytes) old → length new ≡ length old
long_as_before bytes old new fits is = ap length is ∙ omega (arith, length-append bytes (drop (length bytes) old), length-drop (length bytes) old)

-- the changed table has room in its numbers
pub numbers_after : (count most : ℕ) (t : VolumeTable) (change : Change) → IsTable count t → changes.Permits count t change → count ≤ extent_limit → length (text (applied t change)) ≤ most → most ≤ 8519680
    → HasText (applied t change)
numbers_after count most t change table allowed few fits short =
    HasText-few count (applied t change) (IsTable-applied count t change table allowed) (omega (arith, few)) (omega (arith, fits, short))

-- ---- the frame by which commits are made

pub slot_few : (layout : ℕ) (f : Frame) → f ≡ frame_of current_version layout → slot_bytes f ≤ 8519680
slot_few layout f is = subst (λ (k : Frame). slot_bytes k ≤ 8519680) (sym is) (frame_room current_version layout)

-- a text within the limit for so many extents fits a slot of the layout that may have them
limit_fits : (count layout : ℕ) → count ≤ most_extents layout → text_limit count ≤ slot_bytes (frame_of current_version layout)
unfolding frame_of most_extents
limit_fits count layout = by (eqb layout 0)
  where
    within : (low : Bool) → cond low 1047040 8519680 ≤ 8519680
    within true = omega arith
    within false = omega arith

    by : (narrow : Bool) → count ≤ cond narrow 65536 1048576 → cond (leb count 65536) 1047040 8519680 ≤ slot_bytes (cond narrow narrow_frame wide_frame)
    by true few = subst (λ (b : Bool). cond b 1047040 8519680 ≤ 1047040) (sym (le-leb count 65536 few)) (omega arith)
    by false few = within (leb count 65536)

pub fits_slot : (count layout length : ℕ) (f : Frame) → f ≡ frame_of current_version layout → count ≤ most_extents layout → length ≤ text_limit count → length ≤ slot_bytes f
fits_slot count layout length f is most few = subst (λ (k : Frame). length ≤ slot_bytes k) (sym is) (omega (arith, few, limit_fits count layout most))

-- and the buffer, which has the bytes of one
pub text_fits : {bytes : ℕ} (u v : VolumeTable) (f : Frame) (layout : ℕ) → f ≡ frame_of current_version layout → bytes ≡ slot_bytes (frame_of current_version layout) → v ≡ u → length (text u) ≤ slot_bytes f
    → length (text v) ≤ bytes
text_fits {bytes} u v f layout is room same fits =
    subst (λ (w : VolumeTable). length (text w) ≤ bytes) (sym same) (omega (arith, fits, room, ap slot_bytes is))

-- the current version is no earlier one
pub not_early : {version : ℕ} → version ≡ current_version → version < current_version → ⊥
not_early is early = omega (arith, is, early)

-- ---- the flip

pub group_from : (size : ℕ) (h : Held) (p : Plate) (at : Pointer) (t : VolumeTable) → Rests size h p at (text t) → sum (text t) ≡ at.total → Spells p.count (text t) t
    → IsGroup size h p at t (text t)
group_from size h p at t rests summed spelled = record { rests = rests; summed = summed; spelled = spelled; few = plate_few size h.floor p rests.labelled }

-- a buffer that was written to shows what was written
pub buffer_shown : (n : ℕ) (old new : List ℕ) → length new ≡ n → take n (new ++ drop (length new) old) ≡ new
buffer_shown n old new long = take_at new (drop (length new) old) n long

-- its first sectors
pub record IsFront (f : Frame) (sectors size : ℕ) (buffer written : List ℕ) : Type 0 where
  pub count : sectors ≡ div_ceil size 512
  pub long : length buffer ≡ slot_bytes f
  pub front : written ≡ take (512 * sectors) buffer

pub front_reach : (f : Frame) (size sectors : ℕ) → size ≤ slot_bytes f → sectors ≡ div_ceil size 512 → (sectors ≡ div_up size 512) × (512 * sectors ≤ slot_bytes f)
front_reach f size sectors short count =
    let up = div_up-div_ceil size 512 (omega arith) in
    (omega (arith, up, count), omega (arith, up, count, sectors_most f size short))

pub front_long : (f : Frame) (size sectors : ℕ) (buffer written : List ℕ) → size ≤ slot_bytes f → IsFront f sectors size buffer written → length written ≡ 512 * div_up size 512
front_long f size sectors buffer written short front =
    let reach = front_reach f size sectors short front.count in
    ap length front.front ∙ omega (arith, length-take (512 * sectors) buffer, front.long, reach.0, reach.1)

-- the sectors that the text of the changed table reaches are those of a next table
pub next_from : (f : Frame) (p : Plate) (at next : Pointer) (t : VolumeTable) (change : Change) (bytes buffer written : List ℕ) (sectors : ℕ)
    → HasText (applied t change) → Spells p.count bytes t → changes.Permits p.count t change → length (text (applied t change)) ≤ slot_bytes f → next.slot ≡ 1 - at.slot
    → IsPointerOf (applied t change) next buffer → IsFront f sectors next.size buffer written → IsNext f p at next (applied t change) written
next_from f p at next t change bytes buffer written sectors numbers spells allowed fits slot head front = record {
  slot = slot;
  size = short;
  total_fits = head.total_fits;
  long = front_long f next.size sectors buffer written short front;
  total = ap sum same ∙ sym head.total;
  spelled = let P : List ℕ → Type 0 = λ b. Spells p.count b (applied t change) in subst P (sym same) spelled;
}
  where
    short : next.size ≤ slot_bytes f
    short = omega (arith, head.size, fits)

    within : next.size ≤ 512 * sectors
    within = omega (arith, sectors_hold next.size, (front_reach f next.size sectors short front.count).0)

    same : take next.size written ≡ text (applied t change)
    same = ap (take next.size) front.front ∙ take-take next.size (512 * sectors) buffer within ∙ head.begins

    spelled : Spells p.count (text (applied t change)) (applied t change)
    spelled = record { spelled = refl; table = IsTable-applied p.count t change spells.table allowed; fits = numbers }

-- of the group that stands
pub next_of : (size : ℕ) (h : Held) (f : Frame) (p : Plate) (at next : Pointer) (t u : VolumeTable) (bytes written : List ℕ) → f ≡ frame_of current_version p.layout
    → IsGroup size h p at t bytes → IsNext f p at next u written → IsNextOf size h f p at t bytes next u written
next_of size h f p at next t u bytes written is group next_is = record {
  group = group;
  frame = frame;
  is_next = subst (λ (k : Frame). IsNext k p at next u written) frame next_is;
}
  where
    frame : f ≡ frame_in h.floor
    frame = is ∙ sym (plate_frame size h.floor p group.rests.labelled ∙ ap (λ (v : ℕ). frame_of v p.layout) group.rests.current)

-- after a flip that failed a group with the label stands wherever a stop leaves an image
pub either_stands : (size : ℕ) (image : ℕ → List ℕ) (p : Plate) (at next : Pointer) (t u : VolumeTable)
    → StandsOn size image (record { plate = p; pointer = at; table = t }) ⊎ StandsOn size image (record { plate = p; pointer = next; table = u })
    → GroupStands size image p
either_stands size image p at next t u (inl stands) = record { pointer = at; table = t; stands = stands }
either_stands size image p at next t u (inr stands) = record { pointer = next; table = u; stands = stands }

-- after one that succeeded the group stands with the changed table, which stands in memory too
pub spelled_again : (count : ℕ) (bytes : List ℕ) (u v : VolumeTable) → v ≡ u → Spells count bytes u → Spells count (text v) v
spelled_again count bytes u v same s =
    let P : VolumeTable → Type 0 = λ w. Spells count (text w) w in
    let Q : List ℕ → Type 0 = λ b. Spells count b u in
    subst P (sym same) (subst Q s.spelled s)

pub group_flipped : (size now : ℕ) (h : Held) (p : Plate) (next : Pointer) (u v : VolumeTable) (bytes : List ℕ) → now ≡ size → v ≡ u → bytes ≡ text u
    → IsGroup size h p next u bytes → IsGroup now h p next v (text v)
group_flipped size now h p next u v bytes same table spelled g =
    let P : ℕ → Type 0 = λ n. IsGroup n h p next v (text v) in
    let Q : VolumeTable → Type 0 = λ w. IsGroup size h p next w (text w) in
    let R : List ℕ → Type 0 = λ b. IsGroup size h p next u b in
    subst P (sym same) (subst Q (sym table) (subst R spelled g))

pub room_after : (change : Change) (old new : RoomyTable) → new.spare ≡ spare_after old.spare change
    → ((n : _) → places_after (places old) change n ≤ places new n) → RoomAfter change old new
room_after change old new spare each = record { spare_rows = omega (arith, spare); spare_extents = each }
