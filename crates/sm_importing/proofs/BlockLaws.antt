-- The blocks that have slots are those into which other bytes than zeros were put, and a put asks for extents where it takes a slot.
use Rattle.std.proofs.Common.{◌≡◌, ◌≢◌, ◌⊎◌, inl, inr, ⊎_elim, ℕ, suc, ◌+◌, ◌-◌, ◌/◌, ◌<◌, ◌≤◌, ◌||◌, Bool, true, false, cond, List, [], ◌∷◌, length, set, length-set, nat_lt, is_some, Option, Some, None, refl, sym, ap, ◌∙◌, arith}
use Rattle.std.specs.Prelude.{◌==◌, bytes_eq, count_by}
use Rattle.std.specs.List.{filter_map, list_any}
use Rattle.std.proofs.lemmas.Bool.{cases_Bool, cases_eq, true≢false}
use Rattle.std.proofs.lemmas.Bool.Decides.{nat_tests}
use Rattle.std.proofs.lemmas.List.Sums.{sum_by-cons}
use Rattle.std.proofs.lemmas.Slice.Eq.{bytes_eq-Decides}
use Rattle.std.proofs.lemmas.Option.{none-some}
use Rattle.common_laws.specs.Lists.{numbers}
use Rattle.sm_base.specs.declared.sizes.Geometry.{Geometry}
use Rattle.sm_base.specs.declared.refusals.Refusal.{Refusal}
use Rattle.sm_base.specs.declared.refusals.Refusal.TheVariants as refusal
use Rattle.sm_disk.specs.Sectors.{zeros}
use Rattle.vhd_map.specs.Slots.{slot_of, used_count}
use Rattle.vhd_map.proofs.SlotLemmas.{slot_of-set_other, slot_of-set_same, used_count-le, used_count-set}
use Rattle.vhd_layout.proofs.ImageLaws.{option_cases}
use Rattle.vhd_filling.specs.Filled.{IsSound, TakesSlot, slots_taken, with_slot}
use Rattle.vhd_filling.specs.declared.fillings.Filling.{Filling}
use Rattle.vhd_filling.proofs.FilledLaws.{with_slot-new}
use Rattle.vhd_import.specs.Making.{put_lacks, slots_of}
use Rattle.vhd_import.specs.Puts.{Put}
use Rattle.vhd_import.specs.Room.{Target, block_of, distinct_blocks, extents_for, lacks}
use Rattle.sm_importing.specs.Disks.{HasBlocksOf}

-- ---- they are counted

count_at : (m : List (Option ℕ)) (q : ℕ → Bool) (a : ℕ) → ((i : ℕ) → is_some (slot_of m i) ≡ q (a + i)) → used_count m ≡ count_by q (numbers a (length m))
unfolding numbers
count_at [] q a h = refl
count_at (o ∷ m) q a h =
    let here : a + 0 ≡ a = omega arith in
    let first : is_some o ≡ q a = h 0 ∙ ap q here in
    let rest = count_at m q (a + 1) (λ i. let next : a + suc i ≡ a + 1 + i = omega arith in h (suc i) ∙ ap q next) in
    let one : cond {A = ℕ} (is_some o) 1 0 ≡ cond (q a) 1 0 = ap (λ b. cond b 1 0) first in
    omega (arith, sum_by-cons (λ (x : Option ℕ). cond (is_some x) 1 0) o m, sum_by-cons (λ (b : ℕ). cond (q b) 1 0) a (numbers (a + 1) (length m)), one, rest)

-- the puts take as many slots as the image has
pub slots_are : (f : Filling) (t : Target) (puts : List Put) → length f.map ≡ f.geometry.entries → HasBlocksOf f t puts → slots_of t puts ≡ slots_taken f
unfolding slots_of distinct_blocks
slots_are f t puts long h =
    let q : ℕ → Bool = λ b. list_any (λ c. c == b) (filter_map (block_of t) puts) in
    let counted = count_at f.map q 0 (λ i. let same : 0 + i ≡ i = omega arith in h.blocks i ∙ ap q (sym same)) in
    ap (λ n. count_by q (numbers 0 n)) (h.entries ∙ sym long) ∙ sym counted

-- ---- a put

-- a put of zeros fills no block
any_blank : (t : Target) (puts : List Put) (sector : ℕ) (bytes : List ℕ) (b : ℕ) → bytes ≡ zeros
    → list_any (λ c. c == b) (filter_map (block_of t) (record { sector = sector; bytes = bytes } ∷ puts)) ≡ list_any (λ c. c == b) (filter_map (block_of t) puts)
any_blank t puts sector bytes b is = let e : bytes_eq bytes zeros ≡ true = (bytes_eq-Decides bytes zeros).1 is in rw e refl

-- one of other bytes fills its own
any_filled : (t : Target) (puts : List Put) (sector : ℕ) (bytes : List ℕ) (b : ℕ) → bytes ≢ zeros
    → list_any (λ c. c == b) (filter_map (block_of t) (record { sector = sector; bytes = bytes } ∷ puts)) ≡ ((sector / t.block == b) || list_any (λ c. c == b) (filter_map (block_of t) puts))
any_filled t puts sector bytes b other =
    let e : bytes_eq bytes zeros ≡ false = ⊎_elim (λ is. absurd (other ((bytes_eq-Decides bytes zeros).0 is))) (λ no. no) (cases_Bool (bytes_eq bytes zeros)) in rw e refl

some_set : (m : List (Option ℕ)) (b k x : ℕ) → b < length m → is_some (slot_of (set m b (Some k)) x) ≡ ((b == x) || is_some (slot_of m x))
some_set m b k x below = ⊎_elim
    (λ (same : x ≡ b). let here : (b == x) ≡ true = grind (arith, nat_tests) in
    ap (λ c. is_some (slot_of (set m b (Some k)) c)) same ∙ ap is_some (slot_of-set_same m b k below) ∙ sym (ap (λ d. d || is_some (slot_of m x)) here))
    (λ (other : x ≢ b). let away : (b == x) ≡ false = grind (arith, nat_tests) in
    ap is_some (slot_of-set_other m b k x other) ∙ sym (ap (λ d. d || is_some (slot_of m x)) away))
    (cases_eq x b)

module _ (f n : Filling) (t : Target) (puts : List Put) (sector : ℕ) (bytes : List ℕ) (sizes : n.geometry ≡ f.geometry) (h : HasBlocksOf f t puts) where
  block_is : sector / t.block ≡ sector / f.geometry.block
  block_is = ap (λ b. sector / b) h.block

  -- that takes a slot
  pub blocks_more : IsSound f → sector / f.geometry.block < f.geometry.entries → TakesSlot f sector bytes → n.map ≡ with_slot (sector / f.geometry.block) f.map
      → HasBlocksOf n t (record { sector = sector; bytes = bytes } ∷ puts)
  blocks_more sound within takes map =
      let b = sector / f.geometry.block in
      record {
        block = h.block ∙ ap (λ (g : Geometry). g.block) (sym sizes);
        entries = h.entries ∙ ap (λ (g : Geometry). g.entries) (sym sizes);
        blocks = λ x.
            ap (λ (m : List (Option ℕ)). is_some (slot_of m x)) (map ∙ with_slot-new b f.map takes.1)
            ∙ some_set f.map b (used_count f.map) x (omega (arith, within, sound.entries))
            ∙ ap (λ d. (b == x) || d) (h.blocks x)
            ∙ ap (λ c. (c == x) || list_any (λ d. d == x) (filter_map (block_of t) puts)) (sym block_is)
            ∙ sym (any_filled t puts sector bytes x takes.0);
      }

  -- that takes none
  pub blocks_same : (TakesSlot f sector bytes → ⊥) → n.map ≡ f.map → HasBlocksOf n t (record { sector = sector; bytes = bytes } ∷ puts)
  blocks_same none map = record {
    block = h.block ∙ ap (λ (g : Geometry). g.block) (sym sizes);
    entries = h.entries ∙ ap (λ (g : Geometry). g.entries) (sym sizes);
    blocks = λ x. ap (λ (m : List (Option ℕ)). is_some (slot_of m x)) map ∙ h.blocks x ∙ sym (by x (cases_Bool (bytes_eq bytes zeros)));
  }
    where
      there : bytes ≢ zeros → is_some (slot_of f.map (sector / f.geometry.block)) ≡ true
      there other = ⊎_elim (λ gone. absurd (none (other, gone))) (λ some. ap is_some some.1) (option_cases (slot_of f.map (sector / f.geometry.block)))

      filled_before : (x : ℕ) → bytes ≢ zeros → ((sector / t.block == x) || list_any (λ c. c == x) (filter_map (block_of t) puts)) ≡ list_any (λ c. c == x) (filter_map (block_of t) puts)
      filled_before x other = ⊎_elim
          (λ (is : sector / t.block ≡ x).
          let had : list_any (λ c. c == x) (filter_map (block_of t) puts) ≡ true = sym (h.blocks x) ∙ ap (λ c. is_some (slot_of f.map c)) (sym is ∙ block_is) ∙ there other in
          rw had (or_true (sector / t.block == x)))
          (λ (no : sector / t.block ≢ x). let away : (sector / t.block == x) ≡ false = grind (arith, nat_tests) in ap (λ d. d || list_any (λ c. c == x) (filter_map (block_of t) puts)) away)
          (cases_eq (sector / t.block) x)
        where
          or_true : (d : Bool) → (d || true) ≡ true
          or_true true = refl
          or_true false = refl

      by : (x : ℕ) → (bytes_eq bytes zeros ≡ true) ⊎ (bytes_eq bytes zeros ≡ false)
          → list_any (λ c. c == x) (filter_map (block_of t) (record { sector = sector; bytes = bytes } ∷ puts)) ≡ list_any (λ c. c == x) (filter_map (block_of t) puts)
      by x (inl is) = any_blank t puts sector bytes x ((bytes_eq-Decides bytes zeros).0 is)
      by x (inr differ) =
          let other : bytes ≢ zeros = λ is. true≢false (sym ((bytes_eq-Decides bytes zeros).1 is) ∙ differ) in
          any_filled t puts sector bytes x other ∙ filled_before x other

-- it takes a slot, or none
pub takes_or_not : (f : Filling) (sector : ℕ) (bytes : List ℕ) → TakesSlot f sector bytes ⊎ (TakesSlot f sector bytes → ⊥)
takes_or_not f sector bytes = ⊎_elim
    (λ is. inr (λ takes. takes.0 ((bytes_eq-Decides bytes zeros).0 is)))
    (λ differ. ⊎_elim
    (λ free. inl ((λ is. true≢false (sym ((bytes_eq-Decides bytes zeros).1 is) ∙ differ)), free))
    (λ some. inr (λ takes. none-some some.0 (sym takes.1 ∙ some.1)))
    (option_cases (slot_of f.map (sector / f.geometry.block))))
    (cases_Bool (bytes_eq bytes zeros))

-- a block that takes a slot leaves room for it in the map
pub slots_below : (f : Filling) (sector : ℕ) (bytes : List ℕ) → IsSound f → sector / f.geometry.block < f.geometry.entries → TakesSlot f sector bytes → slots_taken f < f.geometry.entries
slots_below f sector bytes sound within takes =
    let b = sector / f.geometry.block in
    omega (arith, used_count-set f.map b 0 (omega (arith, within, sound.entries)) takes.1, used_count-le (set f.map b (Some 0)), length-set f.map b (Some 0), sound.entries)

-- ---- what it asks for

pub lacks_none : (need left : ℕ) → need ≤ left → lacks need left ≡ None
lacks_none need left enough = let e : nat_lt left need ≡ false = grind (arith, nat_tests) in rw e refl

pub lacks_some : (need left : ℕ) → left < need → lacks need left ≡ Some (refusal.NoSpace need left)
lacks_some need left short = let e : nat_lt left need ≡ true = grind (arith, nat_tests) in rw e refl

module _ (t : Target) (p : Put) (puts : List Put) (k : ℕ) (before : slots_of t puts ≡ k) where
  asks : (n : ℕ) → slots_of t (p ∷ puts) ≡ n → put_lacks t p puts ≡ lacks (extents_for t n - extents_for t k) (t.free - extents_for t k)
  unfolding put_lacks
  asks n after =
      let room : ℕ → ℕ → Option Refusal = λ a b. lacks (extents_for t b - extents_for t a) (t.free - extents_for t a) in
      ap (λ a. room a (slots_of t (p ∷ puts))) before ∙ ap (room k) after

  pub asks_nothing : slots_of t (p ∷ puts) ≡ k → put_lacks t p puts ≡ None
  asks_nothing after = asks k after ∙ lacks_none (extents_for t k - extents_for t k) (t.free - extents_for t k) (omega arith)

  pub asks_enough : (n : ℕ) → slots_of t (p ∷ puts) ≡ n → extents_for t n - extents_for t k ≤ t.free - extents_for t k → put_lacks t p puts ≡ None
  asks_enough n after enough = asks n after ∙ lacks_none (extents_for t n - extents_for t k) (t.free - extents_for t k) enough

  pub asks_more : (n : ℕ) → slots_of t (p ∷ puts) ≡ n → t.free - extents_for t k < extents_for t n - extents_for t k
      → put_lacks t p puts ≡ Some (refusal.NoSpace (extents_for t n - extents_for t k) (t.free - extents_for t k))
  asks_more n after short = asks n after ∙ lacks_some (extents_for t n - extents_for t k) (t.free - extents_for t k) short
