-- The slots of an image that holds some puts within a disk are of the disk's blocks.
use Rattle.std.proofs.Common.{◌≡◌, ℕ, ◌*◌, ◌/◌, ◌<◌, ◌==◌, ◌||◌, Bool, true, false, List, [], ◌∷◌, All, is_some, refl, sym, ap, ◌∙◌, subst, arith}
use Rattle.std.specs.Prelude.{bytes_eq}
use Rattle.std.specs.List.{filter_map, list_any}
use Rattle.std.proofs.lemmas.Bool.{eqb-true, true≢false}
use Rattle.std.proofs.lemmas.List.Elements.{All-head, All-tail}
use Rattle.std.proofs.lemmas.Nat.{div_below}
use Rattle.sm_base.proofs.NumberLemmas.{le-div_up}
use Rattle.sm_base.specs.Numbers.{div_up}
use Rattle.sm_disk.specs.Sectors.{zeros}
use Rattle.vhd_filling.specs.Filled.{HasBlocksBelow}
use Rattle.vhd_filling.specs.declared.fillings.Filling.{Filling}
use Rattle.vhd_import.specs.Puts.{Put}
use Rattle.vhd_import.specs.Room.{Target, block_of}
use Rattle.sm_importing.specs.Disks.{HasBlocksOf}

module _ (t : Target) (size : ℕ) (some : 0 < t.block) where
  abbrev IsWithin : Put → Type 0
  IsWithin p = p.sector < size

  -- a block into which something was put is one of the disk's
  any_below : (puts : List Put) → All IsWithin puts → (b : ℕ) → list_any (λ c. c == b) (filter_map (block_of t) puts) ≡ true → b < div_up size t.block
  any_below [] all b any = absurd (true≢false (sym any))
  any_below (p ∷ puts) all b any = by (bytes_eq p.bytes zeros) refl (any_below puts (All-tail IsWithin p puts all) b)
    where
      rest : Bool
      rest = list_any (λ c. c == b) (filter_map (block_of t) puts)

      there : (x : Bool) → (p.sector / t.block == b) ≡ x → (x || rest) ≡ true → (rest ≡ true → b < div_up size t.block) → b < div_up size t.block
      there true is sure below =
          let at : p.sector / t.block ≡ b = eqb-true (p.sector / t.block) b is in
          let inside : p.sector < div_up size t.block * t.block = omega (arith, le-div_up size t.block some, All-head IsWithin p puts all) in
          omega (arith, at, div_below p.sector t.block (div_up size t.block) some inside)
      there false is sure below = below sure

      by : (x : Bool) → bytes_eq p.bytes zeros ≡ x → (rest ≡ true → b < div_up size t.block) → b < div_up size t.block
      by true e below = let same : list_any (λ c. c == b) (filter_map (block_of t) (p ∷ puts)) ≡ rest = rw e refl in below (sym same ∙ any)
      by false e below =
          let same : list_any (λ c. c == b) (filter_map (block_of t) (p ∷ puts)) ≡ ((p.sector / t.block == b) || rest) = rw e refl in
          there (p.sector / t.block == b) refl (sym same ∙ any) below

pub blocks_below : (f : Filling) (t : Target) (size : ℕ) (puts : List Put) → HasBlocksOf f t puts → All (λ (p : Put). p.sector < size) puts → HasBlocksBelow (div_up size f.geometry.block) f
blocks_below f t size puts h all b k has =
    subst (λ n. b < div_up size n) h.block
    (any_below t size (let e = h.block in omega (arith, e, f.geometry.in_range.block_least)) puts all b (sym (h.blocks b) ∙ ap is_some has))
