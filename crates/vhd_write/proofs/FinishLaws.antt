-- What follows the first pass: the sync from a to b, the bitmaps to c, the table to d. The two passes are told in the
-- layouts of the stores that they begin with, `l'` and `l''`, equal to the layout `l` of the store before the sync.
use Rattle.std.proofs.Common.{◌≡◌, ℕ, ◌+◌, ◌-◌, ◌/◌, ◌<◌, ◌≤◌, Bool, true, List, sym, ap, ◌∙◌, subst, inl, inr, ⊎_elim, arith}
use Rattle.std.proofs.lemmas.Bool.{true≢false}
use Rattle.sm_base.specs.Numbers.{first as first_of}
use Rattle.sm_disk.specs.Held.{Held, Keeps, IsSettled, Reaches, reads}
use Rattle.sm_disk.proofs.ReachesLaws.{may_reached}
use Rattle.vhd_map.specs.Bitmaps.{is_set}
use Rattle.vhd_layout.specs.Layouts.{Layout, Slots, place}
use Rattle.vhd_layout.proofs.ImageLaws.{place-first}
use Rattle.vhd_write.specs.Passes.{PutsBitsAll, AreSet, IsTableSector, PutsTable, PutsRest, Goes, IsFinished}
use Rattle.vhd_write.specs.WritePlaces.{HasMoreBits}
use Rattle.vhd_write.proofs.BitLaws.{table-low}

module _ {l l' : Layout} {M : ℕ → Type 0} {m : Slots} {a b c : Held} (same : l' ≡ l) (keeps : Keeps a b) (settled : IsSettled b) (r : Reaches (PutsBitsAll l' M m (reads b)) b c) where
  -- ---- the sync and the bitmaps

  bits-pass : Reaches (PutsBitsAll l M m (reads b)) b c
  bits-pass = subst (λ x. Reaches (PutsBitsAll x M m (reads b)) b c) same r

  rest-bits : (p : ℕ) (v : List ℕ) → PutsBitsAll l M m (reads b) p v → PutsRest l M m (reads a) p v
  rest-bits p v (o, k, has, h) =
      let P : List ℕ → Type 0 = λ x. HasMoreBits l M o x v in
      inl (o, k, has, record { touched = h.touched; here = h.here; more = subst P (keeps.reads p) h.more })

  pub goes-bits : Goes (PutsRest l M m) a c
  goes-bits = record {
    may = λ p v is. ⊎_elim (λ e. inl (e ∙ keeps.reads p)) (λ h. inr (rest-bits p v h)) (may_reached settled bits-pass p v is);
    gives = λ p. ⊎_elim (λ e. inl (e ∙ keeps.reads p)) (λ h. inr (rest-bits p (reads c p) h)) (bits-pass.gives p);
  }

  module _ {first end : ℕ} (set : (o : ℕ) → first ≤ o → o < end → AreSet l' M (m o) o (reads c)) where
    set-bits : (o : ℕ) → first ≤ o → o < end → AreSet l M (m o) o (reads c)
    set-bits = subst (λ x. (o : ℕ) → first ≤ o → o < end → AreSet x M (m o) o (reads c)) same set

    -- all blocks had slots
    pub finished-bits : {held : Bool} → held ≡ true → IsFinished l M m first end held a c
    finished-bits on = record { goes = goes-bits; bits = set-bits; table = λ off. absurd (true≢false (sym on ∙ off)) }

  -- ---- and the table

  module _ {l'' : Layout} {d : Held} (same' : l'' ≡ l') (t : Reaches (PutsTable l'' M m) c d) where
    table-pass : Reaches (PutsTable l M m) c d
    table-pass = subst (λ x. Reaches (PutsTable x M m) c d) (same' ∙ same) t

    pub goes-table : Goes (PutsRest l M m) a d
    goes-table = record {
      may = λ p v is. ⊎_elim (λ was. goes-bits.may p v was) (λ h. inr (inr h)) (table-pass.may p v is);
      gives = λ p. ⊎_elim (λ e. ⊎_elim (λ was. inl (e ∙ was)) (λ h. inr (moved p e h)) (goes-bits.gives p)) (λ h. inr (inr h)) (table-pass.gives p);
    }
      where
        moved : (p : ℕ) → reads d p ≡ reads c p → PutsRest l M m (reads a) p (reads c p) → PutsRest l M m (reads a) p (reads d p)
        moved p e h = let P : List ℕ → Type 0 = λ x. PutsRest l M m (reads a) p x in subst P (sym e) h

    -- the table's pass leaves the bitmaps
    bitmap-kept : (k : ℕ) → l.first ≡ first_of l.entries → reads d (place l k 0) ≡ reads c (place l k 0)
    bitmap-kept k begins = ⊎_elim (λ e. e) (λ h. absurd (omega (arith, h.puts.here, place-first l k 0, table-low l (h.b / 128) begins h.puts.within))) (table-pass.gives (place l k 0))

    pub finished-table : {first end : ℕ} {held : Bool} → l.first ≡ first_of l.entries → ((o : ℕ) → first ≤ o → o < end → AreSet l' M (m o) o (reads c))
        → ((index : ℕ) → first / 128 ≤ index → index ≤ (end - 1) / 128 → IsTableSector l'' m index (reads d (3 + index))) → IsFinished l M m first end held a d
    finished-table {first} {end} begins set stands = record {
      goes = goes-table;
      bits = λ o low high k has i within here. ap (λ x. is_set x i) (bitmap-kept k begins) ∙ set-bits set o low high k has i within here;
      table = λ off. subst (λ x. (index : ℕ) → first / 128 ≤ index → index ≤ (end - 1) / 128 → IsTableSector x m index (reads d (3 + index))) (same' ∙ same) stands;
    }
