-- What a crash leaves at each stage of a commit.
use Rattle.std.proofs.Common.{◌≡◌, ℕ, ◌+◌, ◌-◌, ◌*◌, ◌<◌, ◌≤◌, ◌⊎◌, inl, inr, List, length, take, Ok, refl, sym, ap, subst, ◌∙◌, arith}
use Rattle.std.proofs.lemmas.Bool.{cases_eq}
use Rattle.sm_base.specs.Limits.{extent_limit}
use Rattle.sm_base.specs.Numbers.{div_up}
use Rattle.sm_disk.specs.Held.{Held, May, Allows, IsIn, IsSettled, Reaches, Puts, Gave, ReadsElsewhere, Keeps, reads}
use Rattle.sm_disk.proofs.HeldLaws.{may_settled, reads-settled, May-reads, in_one}
use Rattle.sm_disk.proofs.ReachesLaws.{may_reached}
use Rattle.sm_disk.proofs.SectorLaws.{sector-one}
use Rattle.sm_disk.specs.Sectors.{sector}
use Rattle.vg_layout.proofs.RoundTrips.{header_again}
use Rattle.vg_meta.specs.Tables.{VolumeTable}
use Rattle.vg_layout.specs.Places.{Frame, IsApart, area_place, label_place, slot_bytes, slot_place}
use Rattle.vg_layout.specs.Sectors.{Plate, Pointer, header_sector, plate_in, version_in}
use Rattle.vg_layout.specs.Opening.{StandsOn, frame_in, plate_of, pointer_of, text_in, version_of}
use Rattle.vg_volumes.specs.Commits.{IsBefore, IsEither}
use Rattle.vg_store.specs.Groups.{LeavesGroup, area_of, IsGroup, IsNext}
use Rattle.vg_store.specs.Leaving.{spells_current}
use Rattle.vg_store.proofs.ImageLaws.{frame_room, frame_same, plate_apart, plate_same, pointer_same, slot_behind, slot_front, text_same, text_written, stands_from, stands_once, sectors_most, pointer_right, IsRightPointer}

-- an image that shows in front of the extents of a layout what a read gives, but perhaps in some sectors
abbrev pub ShowsElsewhere : ℕ → ℕ → ℕ → Held → (ℕ → List ℕ) → Type 0
ShowsElsewhere layout at len h m = (q : ℕ) → q < area_place layout → (IsIn at len q → ⊥) → m q ≡ h.floor q

-- bytes at a place that are neither label nor header, nor in a slot, nor behind the front of the extents
record AreOther (f : Frame) (from slot place len : ℕ) : Type 0 where
  label : 1 ≤ place
  header : IsIn place len f.header → ⊥
  own : (q : ℕ) → slot_place f slot ≤ q → q < slot_place f slot + f.room → IsIn place len q → ⊥
  front : 512 * place + len ≤ 512 * from

-- those of the other slot
other_slot : {f : Frame} {from : ℕ} (slot place len : ℕ) → IsApart f from → slot ≤ 1 → place ≡ slot_place f (1 - slot) → len ≤ slot_bytes f → AreOther f from slot place len
other_slot {f} {from} slot place len a low is most = record {
  label = omega (arith, is, slot_behind (1 - slot) (omega arith) a);
  header = λ i. by_header i (a.header (1 - slot) (omega arith));
  own = λ q at below i. by_slot q at below i (a.slots slot low);
  front = omega (arith, is, most, slot_front (1 - slot) (omega arith) a);
}
  where
    by_header : IsIn place len f.header → (f.header < slot_place f (1 - slot)) ⊎ (slot_place f (1 - slot) + f.room ≤ f.header) → ⊥
    by_header i (inl before) = omega (arith, is, before, i.0)
    by_header i (inr past) = omega (arith, is, past, i.1, most)

    by_slot : (q : ℕ) → slot_place f slot ≤ q → q < slot_place f slot + f.room → IsIn place len q
        → (slot_place f slot + f.room ≤ slot_place f (1 - slot)) ⊎ (slot_place f (1 - slot) + f.room ≤ slot_place f slot) → ⊥
    by_slot q at below i (inl before) = omega (arith, is, below, before, i.0)
    by_slot q at below i (inr past) = omega (arith, is, at, past, i.1, most)

-- what the slot that is not in use is to a group
unused : {size : ℕ} {h : Held} {p : Plate} {at : Pointer} {t : VolumeTable} {bytes : List ℕ} (place len : ℕ) → IsGroup size h p at t bytes
    → place ≡ slot_place (frame_in h.floor) (1 - at.slot) → len ≤ slot_bytes (frame_in h.floor) → AreOther (frame_in h.floor) (area_place p.layout) at.slot place len
unused {size} {h} {p} {at} place len g is most =
    other_slot at.slot place len (plate_apart size h.floor p g.rests.labelled) (pointer_right h.floor at g.rests.headed).slot is most

-- an image that shows all but the slot that is not in use stands as before
pub stands_before : (size : ℕ) (h : Held) (p : Plate) (at : Pointer) (t : VolumeTable) (bytes : List ℕ) (m : ℕ → List ℕ) (place len : ℕ)
    → IsGroup size h p at t bytes → place ≡ slot_place (frame_in h.floor) (1 - at.slot) → len ≤ slot_bytes (frame_in h.floor)
    → ShowsElsewhere p.layout place len h m → StandsOn size m (record { plate = p; pointer = at; table = t })
stands_before size h p at t bytes m place len g is most shows =
    stands_from size m p at t bytes (plate_same size h.floor m label ∙ g.rests.labelled)
    (pointer_same h.floor m label (shows (frame_in h.floor).header apart.front.0 other.header) ∙ g.rests.headed) (text_same h.floor m at label slot ∙ g.rests.text) g.summed
    (spells_current m p.count bytes t (ap version_in label ∙ g.rests.current) g.spelled)
  where
    right : IsRightPointer (frame_in h.floor) at
    right = pointer_right h.floor at g.rests.headed

    apart : IsApart (frame_in h.floor) (area_place p.layout)
    apart = plate_apart size h.floor p g.rests.labelled

    other : AreOther (frame_in h.floor) (area_place p.layout) at.slot place len
    other = unused place len g is most

    label : m label_place ≡ h.floor label_place
    label = shows label_place (omega (arith, apart.front.0)) (λ i. omega (arith, i.0, other.label))

    slot : (q : ℕ) → slot_place (frame_in h.floor) at.slot ≤ q → q < slot_place (frame_in h.floor) at.slot + div_up at.size 512 → m q ≡ h.floor q
    slot q a b =
        let few = sectors_most (frame_in h.floor) at.size right.size in
        let front = slot_front at.slot right.slot apart in
        shows q (omega (arith, b, few, front)) (other.own q a (omega (arith, b, few)))

-- ---- the first stage: the sectors of the text, and the sync behind them

pub shows_torn : (size wide : ℕ) (a b : Held) (p : Plate) (at : Pointer) (t : VolumeTable) (bytes written : List ℕ) (place : ℕ) (m : ℕ → List ℕ)
    → IsGroup size a p at t bytes → area_place p.layout ≤ wide → Reaches (Puts place written) a b → Allows wide b m → ShowsElsewhere p.layout place (length written) a m
shows_torn size wide a b p at t bytes written place m g all r allowed = λ q below apart. by q below apart (r.may q (m q) (allowed q (omega arith)))
  where
    by : (q : ℕ) → q < area_place p.layout → (IsIn place (length written) q → ⊥) → May a q (m q) ⊎ Puts place written q (m q) → m q ≡ a.floor q
    by q below apart (inl was) = g.rests.still q (m q) below was
    by q below apart (inr (here, is)) = absurd (apart here)

-- what was written in front of the extents leaves their choices
pub area_kept : (layout wide area place : ℕ) (a b : Held) (written : List ℕ) (m : ℕ → List ℕ) → area_place layout + area ≤ wide → 512 * place + length written ≤ 512 * area_place layout
    → Reaches (Puts place written) a b → Allows wide b m → Allows area (area_of layout a) (λ q. m (area_place layout + q))
area_kept layout wide area place a b written m fits front r allowed = λ q below. by q (r.may (area_place layout + q) (m (area_place layout + q)) (allowed (area_place layout + q) (omega arith)))
  where
    by : (q : ℕ) → May a (area_place layout + q) (m (area_place layout + q)) ⊎ Puts place written (area_place layout + q) (m (area_place layout + q))
        → May a (area_place layout + q) (m (area_place layout + q))
    by q (inl was) = was
    by q (inr (here, is)) = absurd (omega (arith, here.1))

-- what a stop leaves, where each image that is allowed stands as before
pub before_from : (size area : ℕ) (a b : Held) (p : Plate) (at : Pointer) (t u : VolumeTable) (image : ℕ → List ℕ) → p.count ≤ extent_limit
    → (l : LeavesGroup size b p u image) → StandsOn size l.whole (record { plate = p; pointer = at; table = t })
    → Allows area (area_of p.layout a) (λ q. l.whole (area_place p.layout + q)) → IsBefore area t (area_of p.layout a) u image
before_from size area a b p at t u image few l stands choices = record {
  table_is = sym (stands_once size l.whole p at l.pointer t u few stands l.stands);
  sectors = λ q below. let P : List ℕ → Type 0 = λ v. May (area_of p.layout a) q v in subst P (sym (l.sectors q)) (choices q below);
}

-- each image that may be left while the text is written stands as before
pub slot_stands : (size : ℕ) (a b : Held) (p : Plate) (at : Pointer) (t : VolumeTable) (bytes written : List ℕ) (place : ℕ) (m : ℕ → List ℕ)
    → IsGroup size a p at t bytes → area_place p.layout ≤ size → place ≡ slot_place (frame_in a.floor) (1 - at.slot) → length written ≤ slot_bytes (frame_in a.floor)
    → Reaches (Puts place written) a b → Allows size b m → StandsOn size m (record { plate = p; pointer = at; table = t })
slot_stands size a b p at t bytes written place m g room is most r allowed =
    stands_before size a p at t bytes m place (length written) g is most (shows_torn size size a b p at t bytes written place m g room r allowed)

pub slot_crash : (size area : ℕ) (a b : Held) (p : Plate) (at : Pointer) (t next u : VolumeTable) (bytes written : List ℕ) (place : ℕ) (image : ℕ → List ℕ)
    → IsGroup size a p at t bytes → area_place p.layout + area ≤ size → place ≡ slot_place (frame_in a.floor) (1 - at.slot) → length written ≤ slot_bytes (frame_in a.floor)
    → Reaches (Puts place written) a b → LeavesGroup size b p u image → IsEither area t next (area_of p.layout a) u image
slot_crash size area a b p at t next u bytes written place image g fits is most r l =
    let stands = slot_stands size a b p at t bytes written place l.whole g (omega arith) is most r l.allowed in
    let other = unused place (length written) g is most in
    inl (before_from size area a b p at t u image g.few l stands (area_kept p.layout size area place a b written l.whole fits other.front r l.allowed))

-- ---- the second stage: the header, and the sync behind it

-- the sectors of the text lasted
pub record IsStaged (a b : Held) (place : ℕ) (written : List ℕ) : Type 0 where
  pub settled : IsSettled b
  pub within : Gave place b written
  pub elsewhere : ReadsElsewhere place (length written) a b

-- what stands in front of the extents once the text lasted, at each place that the text has not
pub staged_reads : (size : ℕ) (a b : Held) (p : Plate) (at : Pointer) (t : VolumeTable) (bytes written : List ℕ) (place q : ℕ) → IsGroup size a p at t bytes → IsStaged a b place written
    → q < area_place p.layout → (IsIn place (length written) q → ⊥) → reads b q ≡ a.floor q
staged_reads size a b p at t bytes written place q g s below apart = s.elsewhere q apart ∙ g.rests.still q (reads a q) below (May-reads a q)

-- the next table of a group, whose text goes to a place
pub record IsStep (size : ℕ) (a b : Held) (p : Plate) (at next : Pointer) (t u : VolumeTable) (bytes written : List ℕ) (place : ℕ) : Type 0 where
  pub group : IsGroup size a p at t bytes
  pub staged : IsStaged a b place written
  pub is_next : IsNext (frame_in a.floor) p at next u written
  pub is_place : place ≡ slot_place (frame_in a.floor) next.slot

-- it is no longer than a slot, which is the one that is not in use
step_other : {size : ℕ} {a b : Held} {p : Plate} {at next : Pointer} {t u : VolumeTable} {bytes written : List ℕ} {place : ℕ} → IsStep size a b p at next t u bytes written place
    → AreOther (frame_in a.floor) (area_place p.layout) at.slot place (length written)
step_other {size} {a} {b} {p} {at} {next} {t} {u} {bytes} {written} {place} s =
    let few = sectors_most (frame_in a.floor) next.size s.is_next.size in
    unused place (length written) s.group (s.is_place ∙ ap (slot_place (frame_in a.floor)) s.is_next.slot) (omega (arith, s.is_next.long, few))

-- an image that shows the next header and the next text
record ShowsNext (size : ℕ) (a : Held) (p : Plate) (next : Pointer) (written : List ℕ) (m : ℕ → List ℕ) : Type 0 where
  label : m label_place ≡ a.floor label_place
  labelled : plate_of size m ≡ Ok p
  headed : pointer_of m ≡ Ok next
  text : text_in m next ≡ take next.size written

next_shown : (size : ℕ) (a b : Held) (p : Plate) (at next : Pointer) (t u : VolumeTable) (bytes written : List ℕ) (place : ℕ) (m : ℕ → List ℕ)
    → IsStep size a b p at next t u bytes written place
    → m (frame_in a.floor).header ≡ header_sector next → ((q : ℕ) → q < area_place p.layout → (q ≡ (frame_in a.floor).header → ⊥) → m q ≡ reads b q)
    → ShowsNext size a p next written m
next_shown size a b p at next t u bytes written place m s header shows = record {
  label = label;
  labelled = plate_same size a.floor m label ∙ s.group.rests.labelled;
  headed = pointer;
  text = text_written m next written (omega (arith, s.is_next.long)) slot;
}
  where
    f : Frame
    f = frame_in a.floor

    apart : IsApart f (area_place p.layout)
    apart = plate_apart size a.floor p s.group.rests.labelled

    other : AreOther f (area_place p.layout) at.slot place (length written)
    other = step_other s

    label : m label_place ≡ a.floor label_place
    label =
        shows label_place (omega (arith, apart.front.0)) (λ e. omega (arith, e, apart.label.0))
        ∙ staged_reads size a b p at t bytes written place label_place s.group s.staged (omega (arith, apart.front.0)) (λ i. omega (arith, i.0, other.label))

    frame : frame_in m ≡ f
    frame = frame_same a.floor m label

    short : next.size ≤ slot_bytes f
    short = s.is_next.size

    few : slot_bytes f ≤ 8519680
    few = frame_room (version_of a.floor) (plate_in (a.floor label_place)).layout

    pointer : pointer_of m ≡ Ok next
    pointer =
        header_again next m (omega (arith, s.is_next.slot)) (subst (λ (k : Frame). next.size ≤ slot_bytes k) (sym frame) short) (omega (arith, short, few)) s.is_next.total_fits
        (subst (λ (k : Frame). m k.header ≡ header_sector next) (sym frame) header)

    slot : (i : ℕ) → i < div_up next.size 512 → m (slot_place (frame_in m) next.slot + i) ≡ sector written i
    slot i below =
        let q = place + i in
        let same : slot_place (frame_in m) next.slot + i ≡ q = ap (λ (k : Frame). slot_place k next.slot + i) frame ∙ ap (λ x. x + i) (sym s.is_place) in
        let back : q - place ≡ i = omega arith in
        let inside : IsIn place (length written) q = (omega arith, omega (arith, s.is_next.long, below)) in
        ap m same ∙ shows q (omega (arith, other.front, s.is_next.long, below)) (λ e. other.header (subst (IsIn place (length written)) e inside)) ∙ sym (s.staged.within q inside) ∙ ap (λ k. sector written k) back

next_stands : (size : ℕ) (a b : Held) (p : Plate) (at next : Pointer) (t u : VolumeTable) (bytes written : List ℕ) (place : ℕ) (m : ℕ → List ℕ)
    → IsStep size a b p at next t u bytes written place → ShowsNext size a p next written m → StandsOn size m (record { plate = p; pointer = next; table = u })
next_stands size a b p at next t u bytes written place m s shown =
    stands_from size m p next u (take next.size written) shown.labelled shown.headed shown.text s.is_next.total
    (spells_current m p.count (take next.size written) u (ap version_in shown.label ∙ s.group.rests.current) s.is_next.spelled)

-- but for the header an image shows what a read gave once the text lasted
header_shown : (size header : ℕ) (b c : Held) (head : List ℕ) (m : ℕ → List ℕ) → IsSettled b → length head ≡ 512 → Reaches (Puts header head) b c → Allows size c m
    → (q : ℕ) → q < size → (q ≡ header → ⊥) → m q ≡ reads b q
header_shown size header b c head m settled long r allowed q below apart = at_place (may_reached settled r q (m q) (allowed q below))
  where
    at_place : (m q ≡ reads b q) ⊎ Puts header head q (m q) → m q ≡ reads b q
    at_place (inl same) = same
    at_place (inr (here, there)) = absurd (apart (in_one header (length head) q long here))

-- each image that may be left while the header is written stands as before, or with the next table
pub header_stands : (size : ℕ) (a b c : Held) (p : Plate) (at next : Pointer) (t u : VolumeTable) (bytes written head : List ℕ) (place : ℕ) (m : ℕ → List ℕ)
    → IsStep size a b p at next t u bytes written place → area_place p.layout ≤ size
    → head ≡ header_sector next → length head ≡ 512
    → Reaches (Puts (frame_in a.floor).header head) b c → Allows size c m
    → StandsOn size m (record { plate = p; pointer = at; table = t }) ⊎ StandsOn size m (record { plate = p; pointer = next; table = u })
header_stands size a b c p at next t u bytes written head place m s room head_is long r allowed =
    by (may_reached s.staged.settled r f.header (m f.header) (allowed f.header (omega (arith, apart.front.0))))
  where
    f : Frame
    f = frame_in a.floor

    apart : IsApart f (area_place p.layout)
    apart = plate_apart size a.floor p s.group.rests.labelled

    other : AreOther f (area_place p.layout) at.slot place (length written)
    other = step_other s

    most : length written ≤ slot_bytes f
    most = omega (arith, s.is_next.long, sectors_most f next.size s.is_next.size)

    shown : (q : ℕ) → q < size → (q ≡ f.header → ⊥) → m q ≡ reads b q
    shown = header_shown size f.header b c head m s.staged.settled long r allowed

    by : (m f.header ≡ reads b f.header) ⊎ Puts f.header head f.header (m f.header)
        → StandsOn size m (record { plate = p; pointer = at; table = t }) ⊎ StandsOn size m (record { plate = p; pointer = next; table = u })
    by (inl same) =
        inl (stands_before size a p at t bytes m place (length written) s.group (s.is_place ∙ ap (slot_place f) s.is_next.slot) most (λ q below out. at_place q below out (cases_eq q f.header)))
      where
        at_place : (q : ℕ) → q < area_place p.layout → (IsIn place (length written) q → ⊥) → (q ≡ f.header) ⊎ (q ≡ f.header → ⊥) → m q ≡ a.floor q
        at_place q below out (inl e) =
            let Q : ℕ → Type 0 = λ x. m x ≡ a.floor x in
            subst Q (sym e) (same ∙ staged_reads size a b p at t bytes written place f.header s.group s.staged apart.front.0 other.header)
        at_place q below out (inr far) = shown q (omega arith) far ∙ staged_reads size a b p at t bytes written place q s.group s.staged below out
    by (inr (here, there)) =
        let none : f.header - f.header ≡ 0 = omega arith in
        let header : m f.header ≡ header_sector next = there ∙ ap (sector head) none ∙ sector-one head long ∙ head_is in
        inr (next_stands size a b p at next t u bytes written place m s (next_shown size a b p at next t u bytes written place m s header (λ q below far. shown q (omega arith) far)))

pub header_crash : (size area : ℕ) (a b c : Held) (p : Plate) (at next : Pointer) (t u v : VolumeTable) (bytes written head : List ℕ) (place : ℕ) (image : ℕ → List ℕ)
    → IsStep size a b p at next t u bytes written place → area_place p.layout + area ≤ size
    → head ≡ header_sector next → length head ≡ 512
    → Reaches (Puts (frame_in a.floor).header head) b c → LeavesGroup size c p v image → IsEither area t u (area_of p.layout a) v image
header_crash size area a b c p at next t u v bytes written head place image s fits head_is long r l =
    by (header_stands size a b c p at next t u bytes written head place m s (omega arith) head_is long r l.allowed)
  where
    m : ℕ → List ℕ
    m = l.whole

    apart : IsApart (frame_in a.floor) (area_place p.layout)
    apart = plate_apart size a.floor p s.group.rests.labelled

    other : AreOther (frame_in a.floor) (area_place p.layout) at.slot place (length written)
    other = step_other s

    area_reads : (q : ℕ) → q < area → m (area_place p.layout + q) ≡ reads a (area_place p.layout + q)
    area_reads q below =
        header_shown size (frame_in a.floor).header b c head m s.staged.settled long r l.allowed (area_place p.layout + q) (omega arith) (λ e. omega (arith, e, apart.front.0))
        ∙ s.staged.elsewhere (area_place p.layout + q) (λ i. omega (arith, i.1, other.front))

    by : StandsOn size m (record { plate = p; pointer = at; table = t }) ⊎ StandsOn size m (record { plate = p; pointer = next; table = u }) → IsEither area t u (area_of p.layout a) v image
    by (inl stands) =
        inl (before_from size area a c p at t v image s.group.few l stands (λ q below. let P : List ℕ → Type 0 = λ x. May a (area_place p.layout + q) x in subst P (sym (area_reads q below)) (May-reads a (area_place p.layout + q))))
    by (inr stands) =
        inr (record {
          table_is = sym (stands_once size m p next l.pointer u v s.group.few stands l.stands);
          sectors = λ q below. l.sectors q ∙ area_reads q below;
        })

-- ---- the end

pub group_after : (size : ℕ) (a b c : Held) (p : Plate) (at next : Pointer) (t u : VolumeTable) (bytes written head : List ℕ) (place : ℕ)
    → IsStep size a b p at next t u bytes written place
    → head ≡ header_sector next → length head ≡ 512 → IsStaged b c (frame_in a.floor).header head → IsGroup size c p next u (take next.size written)
group_after size a b c p at next t u bytes written head place s head_is long e =
    record {
      rests = record { still = λ q v below m. may_settled c q v (e.settled q) m ∙ reads-settled c q (e.settled q); current = ap version_in shows.label ∙ s.group.rests.current; labelled = shows.labelled; headed = shows.headed; text = shows.text };
      summed = s.is_next.total;
      spelled = s.is_next.spelled;
      few = s.group.few;
    }
  where
    floor_reads : (q : ℕ) → c.floor q ≡ reads c q
    floor_reads q = sym (reads-settled c q (e.settled q))

    header : c.floor (frame_in a.floor).header ≡ header_sector next
    header =
        let none : (frame_in a.floor).header - (frame_in a.floor).header ≡ 0 = omega arith in
        floor_reads (frame_in a.floor).header ∙ sym (e.within (frame_in a.floor).header (omega arith, omega (arith, long))) ∙ ap (sector head) none ∙ sector-one head long ∙ head_is

    shows : ShowsNext size a p next written c.floor
    shows = next_shown size a b p at next t u bytes written place c.floor s header (λ q below other. floor_reads q ∙ e.elsewhere q (λ i. other (in_one (frame_in a.floor).header (length head) q long i)))

-- what is written in front of the extents changes nothing in them
pub area_same : (layout place : ℕ) (a b : Held) (written : List ℕ) → 512 * place + length written ≤ 512 * area_place layout → Reaches (Puts place written) a b
    → Keeps (area_of layout a) (area_of layout b)
area_same layout place a b written front r = record {
  reads = λ q. gave q (r.gives (area_place layout + q));
  may = λ q v m. left q v (r.may (area_place layout + q) v m);
}
  where
    gave : (q : ℕ) → (reads b (area_place layout + q) ≡ reads a (area_place layout + q)) ⊎ Puts place written (area_place layout + q) (reads b (area_place layout + q))
        → reads b (area_place layout + q) ≡ reads a (area_place layout + q)
    gave q (inl same) = same
    gave q (inr (here, is)) = absurd (omega (arith, here.1))

    left : (q : ℕ) (v : List ℕ) → May a (area_place layout + q) v ⊎ Puts place written (area_place layout + q) v → May a (area_place layout + q) v
    left q v (inl was) = was
    left q v (inr (here, is)) = absurd (omega (arith, here.1))

-- while a group rests, each image that may be left stands as the group does
pub stands_now : (size : ℕ) (h : Held) (p : Plate) (at : Pointer) (t : VolumeTable) (bytes : List ℕ) (m : ℕ → List ℕ) → area_place p.layout ≤ size
    → IsGroup size h p at t bytes → Allows size h m → StandsOn size m (record { plate = p; pointer = at; table = t })
stands_now size h p at t bytes m room g allowed =
    stands_before size h p at t bytes m (slot_place (frame_in h.floor) (1 - at.slot)) 0 g refl (omega arith)
    (λ q below apart. g.rests.still q (m q) below (allowed q (omega arith)))
