-- The volume of a disk's log while pieces are marked in it: what it is read as.
use Rattle.std.proofs.Common.{◌≡◌, ◌⊎◌, inl, inr, ⊎_elim, ℕ, ◌+◌, ◌-◌, ◌*◌, ◌/◌, ◌%◌, ◌<◌, ◌≤◌, Bool, false, List, drop, length, map, Option, Some, None, refl, sym, ap, ap₂, ◌∙◌, subst, arith}
use Rattle.std.proofs.lemmas.Bool.{cases_lt}
use Rattle.std.proofs.lemmas.List.{get_or-drop}
use Rattle.std.proofs.lemmas.Option.{none-some, same_Some}
use Rattle.common_laws.specs.Lists.{In, numbers, ◌>>=◌}
use Rattle.common_laws.proofs.Lists.{In-numbers, numbers-In}
use Rattle.sm_base.specs.Numbers.{div_up}
use Rattle.sm_cbt.proofs.MarkLaws.{touched_long}
use Rattle.sm_cbt.proofs.SpellLaws.{packed_bit}
use Rattle.sm_cbt.specs.Making.{Spells}
use Rattle.sm_cbt.specs.Marks.{IsMark, IsMarkPlace}
use Rattle.sm_log.proofs.BitLaws.{marked-others}
use Rattle.sm_log.proofs.ByteLaws.{bit-flags, length-flags, same_flags}
use Rattle.sm_log.specs.Coded.{packed_sector}
use Rattle.sm_log.specs.Heads.{head_in}
use Rattle.sm_log.specs.Logs.{Log, bit, log_sectors, pieces_touched, touched}
use Rattle.sm_log.specs.declared.heads.Head.{Head}
use Rattle.sm_standing.specs.Logs.{bit_in, log_read}
use Rattle.vhd_map.specs.Bitmaps.{is_set}
use Rattle.sm_tracking.specs.Tracking.{IsLogBetween}

-- ---- what the volume of a log spells

-- the sectors of a log that was read spell it
pub record IsSpelled (u : List ℕ) (n : ℕ) (sectors : ℕ → List ℕ) (l : Log) : Type 0 where
  pub disk : l.disk ≡ u
  pub extents : l.extents ≡ n
  pub spells : Spells l sectors

pub spelled_read : (u : List ℕ) (n : ℕ) (sectors : ℕ → List ℕ) (l : Log) → log_read u n sectors ≡ Some l → IsSpelled u n sectors l
unfolding log_read
spelled_read u n sectors l e = by (head_in (sectors 0)) refl e
  where
    read : Head → Log
    read h = record { disk = u; extents = n; tag = h.tag; since = h.since; bits = map (bit_in sectors) (numbers 0 h.pieces) }

    spelled : (h : Head) → head_in (sectors 0) ≡ Some h → IsSpelled u n sectors (read h)
    spelled h is = record {
      disk = refl;
      extents = refl;
      spells = record {
        head = is ∙ ap (λ (k : ℕ). Some (record h { pieces = k })) (sym (length-flags (bit_in sectors) h.pieces));
        bits = λ k below. sym (bit-flags (bit_in sectors) h.pieces k (subst (λ (z : ℕ). k < z) (length-flags (bit_in sectors) h.pieces) below));
      };
    }

    by : (x : Option Head) → head_in (sectors 0) ≡ x → (x >>= (λ h. Some (read h))) ≡ Some l → IsSpelled u n sectors l
    by None is found = absurd (none-some l found)
    by (Some h) is found = subst (IsSpelled u n sectors) (same_Some (read h) l found) (spelled h is)

-- ---- marks

-- a bit of a sector of bits
packed_at : (bits : List Bool) (k : ℕ) → is_set (packed_sector (k / 4096) bits) (k % 4096) ≡ bit bits k
packed_at bits k =
    let z : 4096 * (k / 4096) + k % 4096 ≡ k = omega arith in
    packed_bit 512 (k % 4096) (drop (4096 * (k / 4096)) bits) (omega arith) ∙ get_or-drop (4096 * (k / 4096)) bits (k % 4096) false ∙ ap (bit bits) z

-- the sector with a piece's bit is one of the log's
bit_place : (pieces k : ℕ) → k < pieces → 1 + k / 4096 < log_sectors pieces
unfolding div_up
bit_place pieces k below = omega (arith, below)

-- and of the marked ones, where the piece is touched
touched_place : (sector count k : ℕ) → 1 ≤ count → In k (pieces_touched sector count) → IsMarkPlace sector count (1 + k / 4096)
touched_place sector count k some i =
    let w = In-numbers (sector / 128) ((sector + count - 1) / 128 + 1 - sector / 128) k i in
    record { from = omega (arith, w.0); to = omega (arith, some, w.0, w.1) }

touched_or : (sector count k : ℕ) → In k (pieces_touched sector count) ⊎ (In k (pieces_touched sector count) → ⊥)
touched_or sector count k = ⊎_elim
    (λ early. inr (λ i. let w = In-numbers first many k i in absurd (omega (arith, early, w.0))))
    (λ from. ⊎_elim (λ below. inl (numbers-In first many k from below)) (λ past. inr (λ i. let w = In-numbers first many k i in absurd (omega (arith, past, w.1)))) (cases_lt k (first + many)))
    (cases_lt k first)
  where
    first : ℕ
    first = sector / 128

    many : ℕ
    many = (sector + count - 1) / 128 + 1 - sector / 128

-- each sector of a log's volume is as it was, or has the bits of the marked log
module _ (u : List ℕ) (n : ℕ) (old now : ℕ → List ℕ) (l : Log) (sector count : ℕ) (was : log_read u n old ≡ Some l)
    (each : (p : ℕ) → p < log_sectors (length l.bits) → (now p ≡ old p) ⊎ IsMark (touched sector count l).bits sector count p (now p)) where
  abbrev after : Log
  after = touched sector count l

  -- what is read of it
  abbrev pub read_now : Log
  read_now = record l { bits = map (bit_in now) (numbers 0 (length l.bits)) }

  -- the head has no bits
  head_still : now 0 ≡ old 0
  head_still = ⊎_elim (λ same. same) (λ mark. absurd (omega (arith, mark.place.from))) (each 0 (omega arith))

  pub read_marked : log_read u n now ≡ Some read_now
  unfolding log_read
  read_marked =
      let x = spelled_read u n old l was in
      ap (λ (o : Option Head). o >>= (λ h. Some (let l : Log = record { disk = u; extents = n; tag = h.tag; since = h.since; bits = map (bit_in now) (numbers 0 h.pieces) } in l))) (ap head_in head_still ∙ x.spells.head)
      ∙ ap₂ (λ (w : List ℕ) (k : ℕ). Some (let r : Log = record read_now { disk = w; extents = k } in r)) (sym x.disk) (sym x.extents)

  bit_either : (k : ℕ) → k < length l.bits → (bit_in now k ≡ bit l.bits k) ⊎ (bit_in now k ≡ bit after.bits k)
  bit_either k below = ⊎_elim
      (λ same. inl (ap (λ (v : List ℕ). is_set v (k % 4096)) same ∙ (spelled_read u n old l was).spells.bits k below))
      (λ mark. inr (marked_bit mark.value)) (each (1 + k / 4096) (bit_place (length l.bits) k below))
    where
      marked_bit : now (1 + k / 4096) ≡ packed_sector (1 + k / 4096 - 1) after.bits → bit_in now k ≡ bit after.bits k
      marked_bit value =
          let at : 1 + k / 4096 - 1 ≡ k / 4096 = omega arith in
          ap (λ (v : List ℕ). is_set v (k % 4096)) (value ∙ ap (λ (i : ℕ). packed_sector i after.bits) at) ∙ packed_at after.bits k

  pub between_marked : IsLogBetween l after read_now
  between_marked = record {
    disk = refl;
    extents = refl;
    tag = refl;
    since = refl;
    pieces = length-flags (bit_in now) (length l.bits);
    bits = λ k below.
        let here : bit read_now.bits k ≡ bit_in now k = bit-flags (bit_in now) (length l.bits) k below in
        ⊎_elim (λ same. inl (here ∙ same)) (λ new. inr (here ∙ new)) (bit_either k below);
  }

  -- where all marks are there it is the marked log
  pub whole_marked : 1 ≤ count → ((p : ℕ) → p < log_sectors (length l.bits) → IsMarkPlace sector count p → now p ≡ packed_sector (p - 1) after.bits) → read_now ≡ after
  whole_marked some marks = ap (λ (bs : List Bool). let r : Log = record l { bits = bs } in r)
      (same_flags read_now.bits after.bits (length-flags (bit_in now) (length l.bits) ∙ sym (touched_long sector count l))
      (λ k low. let below : k < length l.bits = subst (λ (z : ℕ). k < z) (length-flags (bit_in now) (length l.bits)) low in
      bit-flags (bit_in now) (length l.bits) k below ∙ by k below (touched_or sector count k)))
    where
      by : (k : ℕ) → k < length l.bits → In k (pieces_touched sector count) ⊎ (In k (pieces_touched sector count) → ⊥) → bit_in now k ≡ bit after.bits k
      by k below (inl i) =
          let at : 1 + k / 4096 - 1 ≡ k / 4096 = omega arith in
          ap (λ (v : List ℕ). is_set v (k % 4096)) (marks (1 + k / 4096) (bit_place (length l.bits) k below) (touched_place sector count k some i) ∙ ap (λ (j : ℕ). packed_sector j after.bits) at) ∙ packed_at after.bits k
      by k below (inr out) = ⊎_elim (λ same. same ∙ sym (marked-others (pieces_touched sector count) l.bits k out)) (λ new. new) (bit_either k below)
