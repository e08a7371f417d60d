-- Each write of an upgrade keeps what is taken over, and the last leaves version 2.
use Rattle.std.proofs.Common.{◌≡◌, ◌⊎◌, inl, inr, ℕ, ◌-◌, ◌*◌, ◌%◌, ◌<◌, ◌≤◌, ◌^◌, List, length, sum, take, sym, ap, subst, ◌∙◌, arith}
use Rattle.std.specs.Int.{div_ceil}
use Rattle.sm_base.proofs.NumberLemmas.{div_up-div_ceil}
use Rattle.sm_disk.specs.Held.{Held, May, IsIn, IsSettled, IsWhole, Puts, Gave, Reaches, ReadsElsewhere, reads}
use Rattle.sm_disk.specs.Sectors.{sector}
use Rattle.sm_disk.proofs.HeldLaws.{May-reads, in_one, may_settled}
use Rattle.sm_disk.proofs.ReachesLaws.{Reaches-then, Reaches-wider}
use Rattle.sm_disk.proofs.SectorLaws.{sector-one}
use Rattle.vg_meta.specs.Tables.{VolumeTable}
use Rattle.vg_meta.specs.Text.{text}
use Rattle.vg_layout.proofs.FrameLaws.{sectors_most}
use Rattle.vg_layout.proofs.ImageLaws.{sectors_hold}
use Rattle.vg_layout.specs.Fields.{places_in, pointer, slot_number}
use Rattle.vg_layout.specs.Places.{Frame, frame_of, narrow_frame, slot_bytes, slot_place, label_place}
use Rattle.vg_layout.specs.declared.headers.TableHeader.{TableHeader}
use Rattle.vg_layout.specs.declared.places.Frame.{Frame as FrameHere}
use Rattle.vg_upgrade.proofs.UpgradeLaws.{new_long}
use Rattle.vg_layout.specs.Sectors.{Plate, Pointer, header_sector, label_sector}
use Rattle.vg_upgrade.specs.Upgrades.{IsLaidAt, IsNewLabel, IsNewPart, IsTaken, IsTakenOver, IsUpgradeWrite, new_bytes, new_pointer, new_sectors}

-- a part of the new text or header was written, or was not
pub taken_parts : {size : ℕ} {was : ℕ → List ℕ} {a b : Held} {p : Plate} {at : Pointer} {t : VolumeTable} → Reaches (IsNewPart t) a b → IsTakenOver size was a p at t → IsTakenOver size was b p at t
taken_parts {size} {was} {a} {b} {p} {at} {t} r k = record {
  stands = k.stands;
  old = k.old;
  still = λ q v some low m. elim (r.may q v m) [
    | inl before ↦ k.still q v some low before
    | inr new ↦ let from = new.from in absurd (omega (arith, low, from))
  ];
  label = λ v m. k.label v (label_before v m);
  lasts = λ v m other q w here. elim (r.may q w here) [
    | inl before ↦ k.lasts v (label_before v m) other q w before
    | inr new ↦ new.laid
  ];
  total = λ v m other. k.total v (label_before v m) other;
}
  where
    label_before : (v : List ℕ) → May b label_place v → May a label_place v
    label_before v m = elim (r.may label_place v m) [
      | inl before ↦ before
      | inr new ↦ let from = new.from in absurd (omega (arith, from))
    ]

-- where nothing is pending and reads give the new text and header, the new label was written, or was not
pub taken_label : {size : ℕ} {was : ℕ → List ℕ} {a b : Held} {p : Plate} {at : Pointer} {t : VolumeTable} → Reaches (IsNewLabel p) a b → ((q : ℕ) (v : List ℕ) → May a q v → IsLaidAt t q v)
    → sum (text t) < 2 ^ 32 → IsTakenOver size was a p at t → IsTakenOver size was b p at t
taken_label {size} {was} {a} {b} {p} {at} {t} r laid total k = record {
  stands = k.stands;
  old = k.old;
  still = λ q v some low m. elim (r.may q v m) [
    | inl before ↦ k.still q v some low before
    | inr new ↦ let place = new.place in absurd (omega (arith, some, place))
  ];
  label = λ v m other. elim (r.may label_place v m) [
    | inl before ↦ k.label v before other
    | inr new ↦ new.label
  ];
  lasts = λ v m other q w here. elim (r.may q w here) [
    | inl before ↦ laid q w before
    | inr new ↦ at_label q w new.place
  ];
  total = λ v m other. total;
}
  where
    at_label : (q : ℕ) (w : List ℕ) → q ≡ label_place → IsLaidAt t q w
    at_label q w place = record { header = λ e. absurd (omega (arith, place, e)); text = λ i below e. absurd (omega (arith, place, e)) }

-- what is put into the slot and in front of it is a part of the new text and header
pub is_part : (t : VolumeTable) (place : ℕ) (written head : List ℕ) → length (text t) ≤ slot_bytes narrow_frame → place ≡ narrow_frame.header → written ≡ new_bytes t → length written ≡ 512 * new_sectors t
    → head ≡ header_sector (new_pointer t) → length head ≡ 512 → (q : ℕ) (v : List ℕ) → Puts narrow_frame.first written q v ⊎ Puts place head q v → IsNewPart t q v
is_part t place written head fits is same long own wide q v (inl (here, there)) =
    let few = sectors_most narrow_frame (length (text t)) fits in
    record {
      from = omega (arith, here.0);
      to = omega (arith, here.1, long, few);
      reached = omega (arith, here.1, long);
      laid = record {
        header = λ e. absurd (omega (arith, here.0, e));
        text = λ i below e. let back : q - narrow_frame.first ≡ i = omega (arith, e) in there ∙ ap (λ k. sector written k) back ∙ ap (λ b. sector b i) same;
      };
    }
is_part t place written head fits is same long own wide q v (inr (here, there)) =
    let only : q ≡ place = in_one place (length head) q wide here in
    let none : q - place ≡ 0 = omega (arith, only) in
    record {
      from = omega (arith, only, is);
      to = omega (arith, only, is);
      reached = omega (arith, only, is);
      laid = record {
        header = λ e. there ∙ ap (λ k. sector head k) none ∙ sector-one head wide ∙ own;
        text = λ i below e. absurd (omega (arith, only, is, e));
      };
    }

-- where the new text and header last, each value that a stop leaves is theirs
pub laid_settled : (t : VolumeTable) (h : Held) (written : List ℕ) → IsSettled h → written ≡ new_bytes t → length written ≡ 512 * new_sectors t
    → Gave narrow_frame.first h written → reads h narrow_frame.header ≡ header_sector (new_pointer t) → (q : ℕ) (v : List ℕ) → May h q v → IsLaidAt t q v
laid_settled t h written settled same long gave head q v m =
    let is : v ≡ reads h q = may_settled h q v (settled q) m in
    record {
      header = λ e. is ∙ ap (λ x. reads h x) e ∙ head;
      text = λ i below e.
          let inside : IsIn narrow_frame.first (length written) q = (omega (arith, e), omega (arith, e, below, long)) in
          let back : q - narrow_frame.first ≡ i = omega (arith, e) in
          is ∙ sym (gave q inside) ∙ ap (λ k. sector written k) back ∙ ap (λ b. sector b i) same;
    }

-- behind the label, too
pub taken_after : (p : Plate) (t : VolumeTable) (a b : Held) (head : List ℕ) → IsSettled b → head ≡ label_sector 2 p → length head ≡ 512 → sum (text t) < 2 ^ 32 → ((q : ℕ) (v : List ℕ) → May a q v → IsLaidAt t q v)
    → Gave label_place b head → ReadsElsewhere label_place (length head) a b → IsTaken p t b
taken_after p t a b head settled own wide total laid gave elsewhere = record {
  total = total;
  settled = settled;
  label = sym (gave label_place (omega arith, omega (arith, wide))) ∙ sector-one head wide ∙ own;
  laid = λ q. by q;
}
  where
    moved : (q : ℕ) → (q ≡ label_place → ⊥) → reads b q ≡ reads a q
    moved q apart = elsewhere q (λ i. apart (in_one label_place (length head) q wide i))

    by : (q : ℕ) → IsLaidAt t q (reads b q)
    by q = record {
      header = λ e. moved q (λ z. omega (arith, e, z)) ∙ (laid q (reads a q) (May-reads a q)).header e;
      text = λ i below e. moved q (λ z. omega (arith, e, z)) ∙ (laid q (reads a q) (May-reads a q)).text i below e;
    }

-- ---- in the words of the program

-- the two runs of sectors that are written first: the text and, in front of it, the header
pub record ArePut (t : VolumeTable) (place at : ℕ) (written head : List ℕ) : Type 0 where
  pub in_front : place ≡ narrow_frame.header
  pub first : at ≡ narrow_frame.first
  pub same : written ≡ new_bytes t
  pub long : length written ≡ 512 * new_sectors t
  pub own : head ≡ header_sector (new_pointer t)
  pub wide : length head ≡ 512
  pub fits : length (text t) ≤ slot_bytes narrow_frame
  pub total : sum (text t) < 2 ^ 32

pub puts_from : (t : VolumeTable) (frame : FrameHere) (h : TableHeader) (sectors at : ℕ) (buffer written head : List ℕ) → places_in frame ≡ frame_of 2 0 → at ≡ slot_place (places_in frame) (slot_number h.slot)
    → pointer h ≡ new_pointer t → sectors ≡ div_ceil h.length 512 → take (512 * new_sectors t) buffer ≡ new_bytes t → written ≡ take (512 * sectors) buffer
    → head ≡ header_sector (pointer h) → length head ≡ 512 → length (text t) ≤ slot_bytes narrow_frame → h.sum < 2 ^ 32 → ArePut t frame.header at written head
unfolding frame_of
puts_from t frame h sectors at buffer written head framed from is many bytes front own wide fits total =
    let slot : slot_number h.slot ≡ 0 = ap (λ (p : Pointer). p.slot) is in
    let size : h.length ≡ length (text t) = ap (λ (p : Pointer). p.size) is in
    let count : sectors ≡ new_sectors t = many ∙ ap (λ (n : ℕ). div_ceil n 512) size ∙ div_up-div_ceil (length (text t)) 512 (omega arith) in
    let same : written ≡ new_bytes t = front ∙ ap (λ (n : ℕ). take (512 * n) buffer) count ∙ bytes in
    record {
      in_front = ap (λ (f : Frame). f.header) framed;
      first = from ∙ ap (λ (f : Frame). slot_place f (slot_number h.slot)) framed ∙ ap (slot_place narrow_frame) slot;
      same = same;
      long = ap length same ∙ new_long t;
      own = own ∙ ap header_sector is;
      wide = wide;
      fits = fits;
      total = subst (λ (n : ℕ). n < 2 ^ 32) (ap (λ (p : Pointer). p.total) is) total;
    }

-- they are whole sectors of the device
pub puts_whole : (t : VolumeTable) (place at size : ℕ) (written head : List ℕ) → ArePut t place at written head → 0 < length (text t) → 4096 ≤ size → IsWhole at (length written) size
puts_whole t place at size written head put some room =
    let few = sectors_most narrow_frame (length (text t)) put.fits in
    let hold = sectors_hold (length (text t)) in
    record {
      some = omega (arith, put.long, hold, some);
      whole = whole (length written) (new_sectors t) put.long;
      within = omega (arith, put.first, put.long, few, room);
    }
  where
    whole : (len n : ℕ) → len ≡ 512 * n → len % 512 ≡ 0
    whole len n e = omega (arith, e)

-- and parts of the new text and header
pub puts_parts : {t : VolumeTable} {place at : ℕ} {written head : List ℕ} {a b : Held} → ArePut t place at written head → Reaches (λ q v. Puts at written q v ⊎ Puts place head q v) a b → Reaches (IsNewPart t) a b
puts_parts {t} {place} {at} {written} {head} put r =
    Reaches-wider (λ q v is. is_part t place written head put.fits put.in_front put.same put.long put.own put.wide q v (moved q v is)) r
  where
    moved : (q : ℕ) (v : List ℕ) → Puts at written q v ⊎ Puts place head q v → Puts narrow_frame.first written q v ⊎ Puts place head q v
    moved q v = subst (λ (k : ℕ). Puts at written q v ⊎ Puts place head q v → Puts k written q v ⊎ Puts place head q v) put.first (λ is. is)

-- the sector of the label is put
pub puts_label : {p : Plate} {head : List ℕ} {a b : Held} → head ≡ label_sector 2 p → length head ≡ 512 → Reaches (Puts label_place head) a b → Reaches (IsNewLabel p) a b
puts_label {p} {head} own wide r = Reaches-wider (λ q v is. label q v is) r
  where
    label : (q : ℕ) (v : List ℕ) → Puts label_place head q v → IsNewLabel p q v
    label q v (here, there) =
        let only : q ≡ 0 = in_one label_place (length head) q wide here in
        let none : q - label_place ≡ 0 = omega (arith, only) in
        record { place = only; label = there ∙ ap (λ k. sector head k) none ∙ sector-one head wide ∙ own }

-- once text and header last, each value that a stop leaves is theirs
pub puts_laid : {t : VolumeTable} {place at : ℕ} {written head : List ℕ} (h : Held) → ArePut t place at written head → IsSettled h → Gave at h written → reads h place ≡ head → (q : ℕ) (v : List ℕ) → May h q v → IsLaidAt t q v
puts_laid {t} {place} {at} {written} {head} h put settled gave there q v m =
    laid_settled t h written settled put.same put.long (subst (λ (k : ℕ). Gave k h written) put.first gave) (ap (reads h) (sym put.in_front) ∙ there ∙ put.own) q v m

-- all that is written
pub puts_writes : {p : Plate} {t : VolumeTable} {a b c : Held} → Reaches (IsNewPart t) a b → Reaches (IsNewLabel p) b c → Reaches (IsUpgradeWrite p t) a c
puts_writes r s = Reaches-then (Reaches-wider (λ q v is. inl is) r) (Reaches-wider (λ q v is. inr is) s)
