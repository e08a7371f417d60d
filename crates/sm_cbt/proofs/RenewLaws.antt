-- A log is written over what its volume has.
use Rattle.std.proofs.Common.{◌≡◌, ℕ, ◌≤◌, ◌⊎◌, inl, inr, List, sym, subst, ◌∙◌, arith}
use Rattle.sm_base.specs.declared.names.Name.TheVariants.{Cbt}
use Rattle.sm_disk.specs.Held.{Held, IsSettled, Keeps, May, Puts, Torn, Wrote, reads}
use Rattle.sm_disk.proofs.HeldLaws.{may-torn, may_settled, torn_from_wrote}
use Rattle.vg_volumes.specs.Stored.{Stays, WorksOn, Writes, held_in, sectors_in, stored}
use Rattle.vg_volumes.specs.declared.stores.Store.{Ghosts}
use Rattle.vg_volumes.proofs.CallLaws.{keeps_in}
use Rattle.vg_volumes.proofs.StoredLaws.{size_stays, works_keeps, works_then, works_writes}
use Rattle.vg_volumes.proofs.VolumeLaws.{IsSettled-volume}
use Rattle.sm_log.specs.Heads.{IsHead, head_sector}
use Rattle.sm_log.specs.Logs.{Log}
use Rattle.sm_cbt.specs.Making.{bits_bytes, head_of}
use Rattle.sm_cbt.specs.Splitting.{HasEitherHead, HasNewHead, IsRenewed}
use Rattle.sm_cbt.proofs.FillLaws.{are_written, head_reads, length-head, of_same}

-- ---- what is held of the volume

pub head_left : (l : Log) {a b : Held} → Torn 0 (head_sector (head_of l)) a b → HasEitherHead l a b
head_left l t = λ q v m. may-torn t q v m

pub head_left_then : (l : Log) (a b c : Held) → HasEitherHead l a b → Keeps b c → HasEitherHead l a c
head_left_then l a b c e k = λ q v m. e q v (k.may q v m)

-- once the head lasts
pub head_new : (l : Log) {a b c : Held} → Wrote 0 (head_sector (head_of l)) a b → Keeps b c → IsSettled c → HasNewHead l a c
head_new l {a} {b} {c} w k settled = record {
  head = λ v m. may_settled c 0 v (settled 0) m ∙ k.reads 0 ∙ head_reads l w;
  bits = λ q v some m. by q v some (may-torn (torn_from_wrote w) q v (k.may q v m));
}
  where
    by : (q : ℕ) (v : List ℕ) → 1 ≤ q → May a q v ⊎ Puts 0 (head_sector (head_of l)) q v → May a q v ⊎ Puts 1 (bits_bytes l) q v
    by q v some (inl was) = inl was
    by q v some (inr p) = absurd (omega (arith, some, p.0.1, length-head (head_of l)))

-- and the bits are written behind it
pub bits_left : (l : Log) {a b c : Held} → HasNewHead l a b → Torn 1 (bits_bytes l) b c → HasNewHead l a c
bits_left l {a} {b} {c} h t = record {
  head = λ v m. first v (may-torn t 0 v m);
  bits = λ q v some m. by q v some (may-torn t q v m);
}
  where
    first : (v : List ℕ) → May b 0 v ⊎ Puts 1 (bits_bytes l) 0 v → v ≡ head_sector (head_of l)
    first v (inl was) = h.head v was
    first v (inr p) = absurd (omega (arith, p.0.0))

    by : (q : ℕ) (v : List ℕ) → 1 ≤ q → May b q v ⊎ Puts 1 (bits_bytes l) q v → May a q v ⊎ Puts 1 (bits_bytes l) q v
    by q v some (inl was) = h.bits q v some was
    by q v some (inr p) = inr p

pub new_then : (l : Log) {a b c : Held} → HasNewHead l a b → Keeps b c → HasNewHead l a c
new_then l h k = record { head = λ v m. h.head v (k.may 0 v m); bits = λ q v some m. h.bits q v some (k.may q v m) }

-- ---- on a store

module _ {S : Type 0} {g : Ghosts S} (l : Log) {a b c : S} (first : Writes g (Cbt l.disk) (Torn 0 (head_sector (head_of l))) a b) (stays : Stays g b c) (keeps : g.told → Keeps (g.area b) (g.area c)) where
  pub head_works : WorksOn g (Cbt l.disk) a c
  head_works = works_then (works_writes first) (works_keeps (Cbt l.disk) stays keeps)

  pub room_then : {n : ℕ} → n ≤ sectors_in (stored g a) (Cbt l.disk) → n ≤ sectors_in (stored g c) (Cbt l.disk)
  room_then {n} room = subst (λ (k : ℕ). n ≤ k) (sym (size_stays (Cbt l.disk) head_works.stays)) room

  pub head_synced : g.told → HasEitherHead l (held_in (stored g a) (Cbt l.disk)) (held_in (stored g c) (Cbt l.disk))
  head_synced told = head_left_then l _ _ _ (head_left l (first.did told)) (keeps_in (Cbt l.disk) stays (keeps told))

  module _ (wrote : Writes g (Cbt l.disk) (Wrote 0 (head_sector (head_of l))) a b) (settled : g.told → IsSettled (g.area c)) where
    pub head_lasts : g.told → HasNewHead l (held_in (stored g a) (Cbt l.disk)) (held_in (stored g c) (Cbt l.disk))
    head_lasts told = head_new l (wrote.did told) (keeps_in (Cbt l.disk) stays (keeps told)) (IsSettled-volume _ _ (g.area c) (settled told))

    head_given : g.told → reads (held_in (stored g c) (Cbt l.disk)) 0 ≡ head_sector (head_of l)
    head_given told = (keeps_in (Cbt l.disk) stays (keeps told)).reads 0 ∙ head_reads l (wrote.did told)

    module _ {d : S} (second : Writes g (Cbt l.disk) (Torn 1 (bits_bytes l)) c d) where
      pub bits_torn : g.told → HasNewHead l (held_in (stored g a) (Cbt l.disk)) (held_in (stored g d) (Cbt l.disk))
      bits_torn told = bits_left l (head_lasts told) (second.did told)

      module _ {e : S} (still : Stays g d e) (kept : g.told → Keeps (g.area d) (g.area e)) where
        pub all_works : WorksOn g (Cbt l.disk) a e
        all_works = works_then head_works (works_then (works_writes second) (works_keeps (Cbt l.disk) still kept))

        pub bits_synced : g.told → HasNewHead l (held_in (stored g a) (Cbt l.disk)) (held_in (stored g e) (Cbt l.disk))
        bits_synced told = new_then l (bits_torn told) (keeps_in (Cbt l.disk) still (kept told))

        pub renewed : IsHead (head_of l) → Writes g (Cbt l.disk) (Wrote 1 (bits_bytes l)) c d → (g.told → IsSettled (g.area e)) → IsRenewed g l e
        renewed proper bits last = record {
          proper = proper;
          settled = last;
          written = λ told. of_same l _ _ (λ q low. (keeps_in (Cbt l.disk) still (kept told)).reads q) (are_written l (head_given told) (bits.did told));
        }
