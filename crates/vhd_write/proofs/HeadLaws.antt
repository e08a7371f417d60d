-- What the passes of a write leave of the head: they put nothing there.
use Rattle.std.proofs.Common.{ℕ, ◌+◌, ◌*◌, ◌/◌, ◌<◌, ◌≤◌, List, sym, ◌∙◌, subst, inl, inr, ⊎_elim, arith}
use Rattle.sm_disk.specs.Held.{Held, May, Reaches, reads}
use Rattle.sm_disk.proofs.HeldLaws.{May-reads}
use Rattle.vhd_layout.specs.Layouts.{Sectors, Layout, IsLayout, Slots, IsSlots}
use Rattle.vhd_layout.proofs.ImageLaws.{place-first, place-within, in_entries, table-first}
use Rattle.vg_volumes.proofs.VolumeLaws.{KeepsAt-then, KeepsAt-keeps}
use Rattle.vhd_volumes.specs.Writes.{KeepsHeads}
use Rattle.vhd_volumes.proofs.KeptLaws.{KeepsBut-reaches}
use Rattle.vhd_write.specs.Passes.{PutsData, PutsRest, GoesOn}
use Rattle.vhd_write.proofs.ImageKept.{head_in_front}

module _ (l : Layout) (ok : IsLayout l) (room : l.first + 1 ≤ l.sectors) where
  first-inside : (W : ℕ → List ℕ → Type 0) (m : Slots) → IsSlots l m → (p : ℕ) (v : List ℕ) → PutsData l W m p v → (3 ≤ p) × (p + 1 < l.sectors)
  first-inside W m slots p v (inl (b, k, has, h)) =
      let front = head_in_front l ok in
      let low = place-first l k (1 + h.i) in
      let high = place-within l k (1 + h.i) (slots.fits b k has).1 (omega (arith, h.within)) in
      (omega (arith, front, low, h.here), omega (arith, high, h.here))
  first-inside W m slots p v (inr f) =
      let front = head_in_front l ok in
      let low = place-first l f.k f.j in
      let high = place-within l f.k f.j f.below f.within in
      (omega (arith, front, low, f.here), omega (arith, high, f.here))

  rest-inside : (M : ℕ → Type 0) (n : Slots) → IsSlots l n → (r : Sectors) (p : ℕ) (v : List ℕ) → PutsRest l M n r p v → (3 ≤ p) × (p + 1 < l.sectors)
  rest-inside M n slots r p v (inl (b, k, has, h)) =
      let front = head_in_front l ok in
      let low = place-first l k 0 in
      let high = place-within l k 0 (slots.fits b k has).1 (omega arith) in
      (omega (arith, front, low, h.here), omega (arith, high, h.here))
  rest-inside M n slots r p v (inr h) =
      let low = table-first l (128 * (h.b / 128)) ok (in_entries l (128 * (h.b / 128)) h.puts.within) in
      (omega (arith, h.puts.here), omega (arith, low, h.puts.here, room))

  pub heads-first : (W : ℕ → List ℕ → Type 0) (m : Slots) → IsSlots l m → {old mid : Held} → Reaches (PutsData l W m) old mid → KeepsHeads l.sectors old mid
  heads-first W m slots r = KeepsBut-reaches (first-inside W m slots) r

  pub heads-after : (M : ℕ → Type 0) (n : Slots) → IsSlots l n → {old mid new : Held} → KeepsHeads l.sectors old mid → GoesOn l M n mid new → KeepsHeads l.sectors old new
  heads-after M n slots k (inl keeps) = KeepsAt-then k (KeepsAt-keeps _ keeps)
  heads-after M n slots {old} {mid} {new} k (inr goes) = record {
    reads = λ p away. ⊎_elim (λ same. same) (λ puts. absurd (away (rest-inside M n slots (reads mid) p (reads new p) puts))) (goes.gives p) ∙ k.reads p away;
    may = λ p v away m. ⊎_elim
        (λ is. subst (λ (x : List ℕ). May old p x) (sym (is ∙ k.reads p away)) (May-reads old p))
        (λ puts. absurd (away (rest-inside M n slots (reads mid) p v puts)))
        (goes.may p v m);
  }
