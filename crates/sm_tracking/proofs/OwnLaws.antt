-- The volume of a disk's log while the log is written anew: what it is read as.
use Rattle.std.proofs.Common.{◌≡◌, ◌⊎◌, inl, inr, ⊎_elim, zero, suc, ℕ, ◌+◌, ◌-◌, ◌*◌, ◌/◌, ◌%◌, ◌<◌, ◌≤◌, Bool, false, List, drop, length, map, replicate, Option, Some, refl, sym, ap, ◌∙◌, subst, arith}
use Rattle.std.proofs.lemmas.List.{length-replicate}
use Rattle.common_laws.specs.Lists.{numbers, ◌>>=◌}
use Rattle.sm_base.specs.Numbers.{div_up}
use Rattle.sm_cbt.proofs.FillLaws.{length-head}
use Rattle.sm_cbt.proofs.MarkLaws.{sector-packed}
use Rattle.sm_cbt.proofs.SpellLaws.{packed_bit, spells_same}
use Rattle.sm_cbt.specs.Making.{Spells, bits_bytes, head_of}
use Rattle.sm_cbt.specs.Splitting.{LeavesEitherHead, LeavesNewHead}
use Rattle.sm_disk.proofs.SectorLaws.{sector-one}
use Rattle.sm_disk.specs.Held.{Puts}
use Rattle.sm_disk.specs.Sectors.{sector}
use Rattle.sm_log.proofs.ByteLaws.{bit-flags, length-flags}
use Rattle.sm_log.proofs.HeadLaws.{again}
use Rattle.sm_log.specs.Coded.{packed_sector}
use Rattle.sm_log.specs.Heads.{IsHead, head_in, head_sector}
use Rattle.sm_log.specs.Logs.{Log, begun_anew, bit, log_sectors}
use Rattle.sm_log.specs.declared.heads.Head.{Head}
use Rattle.sm_standing.specs.Logs.{bit_in, log_read}
use Rattle.vhd_map.specs.Bitmaps.{is_set}
use Rattle.sm_tracking.proofs.SpelledLaws.{read_spelled}

-- a log that begins anew since a tag: it is of the same disk, and each of its bits is as it was, or cleared
pub record HasBegunAnew (tag : ℕ) (old new : Log) : Type 0 where
  pub disk : new.disk ≡ old.disk
  pub extents : new.extents ≡ old.extents
  pub tag_stays : new.tag ≡ old.tag
  pub since : new.since ≡ tag
  pub pieces : length new.bits ≡ length old.bits
  pub bits : (k : ℕ) → k < length old.bits → (bit new.bits k ≡ bit old.bits k) ⊎ (bit new.bits k ≡ false)

-- the log that these sectors spell: the one from before, or one that begins anew
pub record IsReadAnew (tag : ℕ) (l : Log) (sectors : ℕ → List ℕ) : Type 0 where
  pub now : Log
  pub begins : (now ≡ l) ⊎ HasBegunAnew tag l now
  pub read : log_read l.disk l.extents sectors ≡ Some now

bit_place : (pieces k : ℕ) → k < pieces → 1 + k / 4096 < log_sectors pieces
unfolding div_up
bit_place pieces k below = omega (arith, below)

in_bits : (pieces k : ℕ) → k < pieces → k / 4096 < div_up pieces 4096
unfolding div_up
in_bits pieces k below = omega (arith, below)

-- the bits of a log that begins anew are cleared
pub cleared_bit : (n k : ℕ) → bit (replicate n false) k ≡ false
cleared_bit zero k = refl
cleared_bit (suc n) zero = refl
cleared_bit (suc n) (suc k) = cleared_bit n k

cleared_drop : (n i k : ℕ) → bit (drop i (replicate n false)) k ≡ false
cleared_drop n zero k = cleared_bit n k
cleared_drop zero (suc i) k = refl
cleared_drop (suc n) (suc i) k = cleared_drop n i k

module _ (tag : ℕ) (l : Log) (proper : IsHead (head_of (begun_anew tag l))) (size : ℕ) (old now : ℕ → List ℕ) (room : log_sectors (length l.bits) ≤ size) (was : Spells l old) where
  abbrev anew : Log
  anew = begun_anew tag l

  long : length anew.bits ≡ length l.bits
  long = length-replicate {A = Bool} (length l.bits) false

  -- the new head, in the first sector
  head_new : now 0 ≡ head_sector (head_of anew) → head_in (now 0) ≡ Some (record { tag = l.tag; since = tag; pieces = length l.bits })
  head_new is = ap head_in is ∙ again (head_of anew) proper ∙ ap (λ (n : ℕ). let h : Head = record { tag = l.tag; since = tag; pieces = n } in Some h) long

  puts_head : (q : ℕ) → Puts 0 (head_sector (head_of anew)) q (now q) → (q ≡ 0) × (now 0 ≡ head_sector (head_of anew))
  puts_head q p =
      let none : q ≡ 0 = omega (arith, p.0.1, length-head (head_of anew)) in
      (none, ap now (sym none) ∙ p.1 ∙ ap (λ (n : ℕ). sector (head_sector (head_of anew)) (n - 0)) none ∙ sector-one (head_sector (head_of anew)) (length-head (head_of anew)))

  -- one head or the other, and all bits
  read_either : LeavesEitherHead anew size old now → IsReadAnew tag l now
  read_either either = ⊎_elim
      (λ still. record { now = l; begins = inl refl; read = read_spelled l.disk l.extents now l refl refl (spells_same l old now (λ q low. same q (either q (omega (arith, low, room))) still) was) })
      (λ new. record {
        now = record l { since = tag };
        begins = inr (record { disk = refl; extents = refl; tag_stays = refl; since = refl; pieces = refl; bits = λ k below. inl refl });
        read = read_spelled l.disk l.extents now (record l { since = tag }) refl refl (record {
          head = head_new (puts_head 0 new).1;
          bits = λ k below. (let place = bit_place (length l.bits) k below in
              ap (λ (x : List ℕ). is_set x (k % 4096)) (behind (1 + k / 4096) (omega arith) (either (1 + k / 4096) (omega (arith, place, room)))) ∙ was.bits k below);
        });
      }) (either 0 (omega (arith, room)))
    where
      behind : (q : ℕ) → 1 ≤ q → (now q ≡ old q) ⊎ Puts 0 (head_sector (head_of anew)) q (now q) → now q ≡ old q
      behind q one (inl is) = is
      behind q one (inr p) = absurd (omega (arith, one, (puts_head q p).0))

      same : (q : ℕ) → (now q ≡ old q) ⊎ Puts 0 (head_sector (head_of anew)) q (now q) → now 0 ≡ old 0 → now q ≡ old q
      same q (inl is) still = is
      same q (inr p) still = subst (λ (n : ℕ). now n ≡ old n) (sym (puts_head q p).0) still

  -- the new head, and of the bits each sector as it was or cleared
  read_new : LeavesNewHead anew size old now → IsReadAnew tag l now
  unfolding log_read
  read_new new = record {
    now = x;
    begins = inr (record {
      disk = refl;
      extents = refl;
      tag_stays = refl;
      since = refl;
      pieces = length-flags (bit_in now) (length l.bits);
      bits = λ k below. (let place = bit_place (length l.bits) k below in
          by k below (new.bits (1 + k / 4096) (omega arith) (omega (arith, place, room))));
    });
    read = ap (λ (h : Option Head). h >>= (λ h. Some (read h))) (head_new new.head);
  }
    where
      read : Head → Log
      read h = record { disk = l.disk; extents = l.extents; tag = h.tag; since = h.since; bits = map (bit_in now) (numbers 0 h.pieces) }

      x : Log
      x = read (record { tag = l.tag; since = tag; pieces = length l.bits })

      zeros : (k : ℕ) → k < length l.bits → now (1 + k / 4096) ≡ sector (bits_bytes anew) (1 + k / 4096 - 1) → is_set (now (1 + k / 4096)) (k % 4096) ≡ false
      zeros k below is =
          let there : k / 4096 < div_up (length anew.bits) 4096 = subst (λ (n : ℕ). k / 4096 < div_up n 4096) (sym long) (in_bits (length l.bits) k below) in
          let at : 1 + k / 4096 - 1 ≡ k / 4096 = omega arith in
          let none : 0 + k / 4096 ≡ k / 4096 = omega arith in
          ap (λ (v : List ℕ). is_set v (k % 4096))
          (is ∙ ap (sector (bits_bytes anew)) at ∙ sector-packed (div_up (length anew.bits) 4096) 0 (k / 4096) anew.bits there ∙ ap (λ (n : ℕ). packed_sector n anew.bits) none)
          ∙ packed_bit 512 (k % 4096) (drop (4096 * (k / 4096)) anew.bits) (omega arith)
          ∙ cleared_drop (length l.bits) (4096 * (k / 4096)) (k % 4096)

      by : (k : ℕ) → k < length l.bits → (now (1 + k / 4096) ≡ old (1 + k / 4096)) ⊎ Puts 1 (bits_bytes anew) (1 + k / 4096) (now (1 + k / 4096)) → (bit x.bits k ≡ bit l.bits k) ⊎ (bit x.bits k ≡ false)
      by k below (inl is) = inl (bit-flags (bit_in now) (length l.bits) k below ∙ ap (λ (v : List ℕ). is_set v (k % 4096)) is ∙ was.bits k below)
      by k below (inr p) = inr (bit-flags (bit_in now) (length l.bits) k below ∙ zeros k below p.1)

  pub read_anew : LeavesEitherHead anew size old now ⊎ LeavesNewHead anew size old now → IsReadAnew tag l now
  read_anew (inl either) = read_either either
  read_anew (inr new) = read_new new
