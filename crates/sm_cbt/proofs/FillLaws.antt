-- A log's head and its bits in its volume.
use Rattle.std.proofs.Common.{◌≡◌, ℕ, ◌+◌, ◌-◌, ◌*◌, ◌/◌, ◌<◌, ◌≤◌, Bool, List, length, length-append, ap, ◌∙◌, arith}
use Rattle.std.specs.Prelude.{sum}
use Rattle.std.specs.Int.{to_be_bytes, w32}
use Rattle.std.proofs.lemmas.List.{take_all}
use Rattle.sm_base.specs.Numbers.{div_up}
use Rattle.sm_base.specs.declared.names.Name.{Name}
use Rattle.sm_disk.specs.Held.{Held, IsIn, IsWhole, Wrote, reads}
use Rattle.sm_disk.specs.Sectors.{sector}
use Rattle.sm_disk.proofs.HeldLaws.{reads-elsewhere, reads-wrote, torn_from_wrote}
use Rattle.vg_volumes.specs.Stored.{Writes, held_in, stored}
use Rattle.vg_volumes.specs.declared.stores.Store.{Ghosts}
use Rattle.sm_log.specs.Coded.{packed, packed_sector}
use Rattle.sm_log.specs.Heads.{head_fields, head_sector}
use Rattle.sm_log.specs.Logs.{Log, log_sectors}
use Rattle.sm_log.specs.declared.heads.Head.{Head}
use Rattle.sm_log.proofs.HeadLaws.{length-fields}
use Rattle.sm_cbt.specs.Making.{AreOf, bits_bytes, head_of}
use Rattle.sm_cbt.proofs.MarkLaws.{length-packed, sector-packed}

-- ---- the bytes that are written

pub length-head : (h : Head) → length (head_sector h) ≡ 512
unfolding head_sector
length-head h = omega (arith, length-append (head_fields h) (to_be_bytes w32 (sum (head_fields h))), length-fields h)

-- the head's one sector
pub head_whole : (h : Head) (from : List ℕ) (size : ℕ) → from ≡ head_sector h → 1 ≤ size → IsWhole 0 (length from) size
head_whole h from size is some =
    let long : length from ≡ 512 = ap length is ∙ length-head h in
    record { some = omega (arith, long); whole = omega (arith, long); within = omega (arith, long, some) }

-- how many sectors the bits have
pub count_is : (n p q : ℕ) → p ≡ n → q ≡ p → (q + 4095) / 4096 ≡ div_up n 4096
unfolding div_up
count_is n p q e f = omega (arith, e, f)

some_sectors : (n : ℕ) → 1 ≤ n → 1 ≤ div_up n 4096
unfolding div_up
some_sectors n some = omega arith

-- all of the bits' sectors
pub bits_whole : (bits : List Bool) (from : List ℕ) (size : ℕ) → from ≡ packed (512 * div_up (length bits) 4096) bits → 1 ≤ length bits → log_sectors (length bits) ≤ size
    → IsWhole 1 (length from) size
bits_whole bits from size is some room =
    let long : length from ≡ 512 * div_up (length bits) 4096 = ap length is ∙ length-packed (512 * div_up (length bits) 4096) bits in
    let least = some_sectors (length bits) some in
    record { some = omega (arith, long, least); whole = omega (arith, long); within = omega (arith, long, room) }

-- ---- what a read gives

-- behind the write of the head
pub head_reads : (l : Log) {a b : Held} → Wrote 0 (head_sector (head_of l)) a b → reads b 0 ≡ head_sector (head_of l)
unfolding sector
head_reads l w =
    let here : IsIn 0 (length (head_sector (head_of l))) 0 = (omega arith, omega (arith, length-head (head_of l))) in
    reads-wrote w 0 here ∙ take_all 512 (head_sector (head_of l)) (omega (arith, length-head (head_of l)))

-- and behind that of the bits
module _ (l : Log) {b c : Held} (head : reads b 0 ≡ head_sector (head_of l)) (second : Wrote 1 (bits_bytes l) b c) where
  bits_there : (i : ℕ) → i < div_up (length l.bits) 4096 → reads c (1 + i) ≡ packed_sector i l.bits
  bits_there i below =
      let long : length (bits_bytes l) ≡ 512 * div_up (length l.bits) 4096 = length-packed (512 * div_up (length l.bits) 4096) l.bits in
      let here : IsIn 1 (length (bits_bytes l)) (1 + i) = (omega arith, omega (arith, long, below)) in
      let at : 1 + i - 1 ≡ i = omega arith in
      let none : 0 + i ≡ i = omega arith in
      reads-wrote second (1 + i) here
      ∙ ap (sector (bits_bytes l)) at
      ∙ sector-packed (div_up (length l.bits) 4096) 0 i l.bits below
      ∙ ap (λ (k : ℕ). packed_sector k l.bits) none

  pub are_written : AreOf l (reads c)
  are_written = record { head = reads-elsewhere (torn_from_wrote second) 0 (λ h. absurd (omega (arith, h.0))) ∙ head; bits = bits_there }

-- sectors that are as those of a log
pub of_same : (l : Log) (f h : ℕ → List ℕ) → ((q : ℕ) → q < log_sectors (length l.bits) → h q ≡ f q) → AreOf l f → AreOf l h
of_same l f h same are = record {
  head = same 0 (omega arith) ∙ are.head;
  bits = λ i below. same (1 + i) (omega (arith, below)) ∙ are.bits i below;
}

pub are_filled : {S : Type 0} {g : Ghosts S} (n : Name) (l : Log) {a b c : S} → Writes g n (Wrote 0 (head_sector (head_of l))) a b
    → Writes g n (Wrote 1 (bits_bytes l)) b c → g.told → AreOf l (reads (held_in (stored g c) n))
are_filled n l p q told = are_written l (head_reads l (p.did told)) (q.did told)
