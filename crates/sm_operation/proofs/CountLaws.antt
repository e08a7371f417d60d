-- An operation and its flags, as one of them is set or cleared.
use Rattle.std.proofs.Common.{◌≡◌, ℕ, ◌+◌, ◌-◌, ◌<◌, ◌≤◌, Bool, true, false, cond, List, [], length, slice_index_or, slice_set, Option, refl, sym, ap, ap₂, ◌∙◌, subst, arith}
use Rattle.std.proofs.lemmas.Bool.{lt-ltb}
use Rattle.std.proofs.lemmas.List.{length-set}
use Rattle.sm_base.specs.declared.names.Name.{Name}
use Rattle.sm_base.specs.declared.operations.Op.{Op as Told}
use Rattle.sm_base.specs.declared.operations.Op.TheVariants as as_told
use Rattle.sm_machine.specs.Operations.{advanced, dirtied, told, touched, went_on, with_dirty, without_dirty}
use Rattle.sm_machine.specs.Operations as op
use Rattle.sm_operation.specs.Kept.{AreCounted, block_limit, count_of, dirty_in, flagged, least, lengthened, seen}
use Rattle.sm_operation.proofs.FlagLaws.{clear_behind, few_flagged, flag_cleared, flag_kept, flag_less, flag_more, flag_none, flag_set, flagged_behind, lengthened_few, lengthened_long, not_less}

at_zero : (b : ℕ) → 0 + b ≡ b
at_zero b = omega arith

-- it is told as it is kept
pub told_seen : (o : Told) (room : ℕ) (bs : List Bool) → AreCounted o room bs → o ≡ told (seen o bs)
unfolding told
told_seen as_told.Idle room bs h = refl
told_seen (as_told.Copy v p c) room bs h = refl
told_seen (as_told.Relink v p) room bs h = refl
told_seen (as_told.Leaf l p c) room bs h = refl
told_seen (as_told.Live l p c n) room bs h = ap (as_told.Live l p c) (sym h.counted)

-- each block that an image may have has room for its flag
pub has_room : (o : Told) (room : ℕ) (bs : List Bool) (b : ℕ) → AreCounted o room bs → b < 1044480 → b < room
unfolding block_limit
has_room o room bs b h less = omega (arith, h.room, less)

-- the count stays below 2 ^ 32
pub few_told : (o : Told) (room : ℕ) (bs : List Bool) → AreCounted o room bs → count_of o ≤ 1044480
unfolding block_limit
few_told o room bs h = let e = few_flagged 0 bs in omega (arith, e, h.few, h.counted)

pub small_room : (o : Told) (room : ℕ) (bs : List Bool) → AreCounted o room bs → length bs < 4294967296
unfolding block_limit
small_room o room bs h = omega (arith, h.few)

-- none is set
pub counted_clear : (o : Told) (room : ℕ) → block_limit ≤ room → count_of o ≡ 0 → AreCounted o room []
unfolding flagged
counted_clear o room enough none = record { room = enough; few = omega arith; counted = sym none }

-- ---- a block of a live folding is written to

module _ (l p : Name) (cursor n room b : ℕ) (bs : List Bool) (h : AreCounted (as_told.Live l p cursor n) room bs) where
  there : (k : ℕ) → k < length (lengthened (k + 1) bs)
  there k = let e = lengthened_long (k + 1) bs in omega (arith, e)

  still_clear : slice_index_or bs b false ≡ false → slice_index_or (lengthened (b + 1) bs) b false ≡ false
  still_clear clear = clear_behind (b + 1 - length bs) b bs ∙ clear

  -- at or behind the cursor
  pub touch_behind : cursor ≤ b → seen (as_told.Live l p cursor n) bs ≡ touched b (seen (as_told.Live l p cursor n) bs)
  unfolding dirtied
  touch_behind up = ap (λ c. op.Live l p cursor (cond c (with_dirty b (flagged 0 bs)) (flagged 0 bs))) (sym (not_less b cursor up))

  module _ (below : b < cursor) where
    is_below : op.Live l p cursor (with_dirty b (flagged 0 bs)) ≡ touched b (seen (as_told.Live l p cursor n) bs)
    unfolding dirtied
    is_below = ap (λ c. op.Live l p cursor (cond c (with_dirty b (flagged 0 bs)) (flagged 0 bs))) (sym (lt-ltb b cursor below))

    pub touch_again : slice_index_or bs b false ≡ true → seen (as_told.Live l p cursor n) bs ≡ touched b (seen (as_told.Live l p cursor n) bs)
    touch_again set = ap (op.Live l p cursor) (sym (subst (λ j. with_dirty j (flagged 0 bs) ≡ flagged 0 bs) (at_zero b) (flag_kept 0 b bs set))) ∙ is_below

    pub touch_new : slice_index_or bs b false ≡ false → seen (as_told.Live l p cursor (n + 1)) (slice_set (lengthened (b + 1) bs) b true) ≡ touched b (seen (as_told.Live l p cursor n) bs)
    touch_new clear = ap (op.Live l p cursor) (flag_set 0 b (lengthened (b + 1) bs) (there b) (still_clear clear)
        ∙ ap₂ (λ j xs. with_dirty j xs) (at_zero b) (flagged_behind 0 (b + 1 - length bs) bs)) ∙ is_below

  pub counted_more : (more : ℕ) → room ≤ more → b < 1044480 → slice_index_or bs b false ≡ false → AreCounted (as_told.Live l p cursor (n + 1)) more (slice_set (lengthened (b + 1) bs) b true)
  unfolding block_limit
  counted_more more enough less clear = record {
    room = omega (arith, h.room, enough);
    few = let e = length-set (lengthened (b + 1) bs) b true in let f = lengthened_few (b + 1) 1044480 bs (omega (arith, less)) h.few in omega (arith, e, f);
    counted = flag_more 0 b (lengthened (b + 1) bs) (there b) (still_clear clear) ∙ ap (λ (xs : List ℕ). length xs + 1) (flagged_behind 0 (b + 1 - length bs) bs) ∙ ap (λ k. k + 1) h.counted;
  }

  -- ---- or copied

  pub copied_behind : cursor ≤ b → seen (as_told.Live l p (b + 1) n) bs ≡ advanced b (seen (as_told.Live l p cursor n) bs)
  copied_behind up = ap (λ c. elim c as (λ _. op.Op) [ true ↦ op.Live l p cursor (without_dirty b (flagged 0 bs)) | false ↦ op.Live l p (b + 1) (flagged 0 bs) ]) (sym (not_less b cursor up))

  pub counted_on : AreCounted (as_told.Live l p (b + 1) n) room bs
  counted_on = record { room = h.room; few = h.few; counted = h.counted }

  module _ (below : b < cursor) where
    goes : op.Live l p cursor (without_dirty b (flagged 0 bs)) ≡ advanced b (seen (as_told.Live l p cursor n) bs)
    goes = ap (λ c. elim c as (λ _. op.Op) [ true ↦ op.Live l p cursor (without_dirty b (flagged 0 bs)) | false ↦ op.Live l p (b + 1) (flagged 0 bs) ]) (sym (lt-ltb b cursor below))

    pub copied_clean : slice_index_or bs b false ≡ false → seen (as_told.Live l p cursor n) bs ≡ advanced b (seen (as_told.Live l p cursor n) bs)
    copied_clean clear = ap (op.Live l p cursor) (sym (subst (λ j. without_dirty j (flagged 0 bs) ≡ flagged 0 bs) (at_zero b) (flag_none 0 b bs clear))) ∙ goes

    pub copied_dirty : seen (as_told.Live l p cursor (n - 1)) (slice_set bs b false) ≡ advanced b (seen (as_told.Live l p cursor n) bs)
    copied_dirty = ap (op.Live l p cursor) (flag_cleared 0 b bs ∙ ap (λ j. without_dirty j (flagged 0 bs)) (at_zero b)) ∙ goes

  pub some_dirty : slice_index_or bs b false ≡ true → 1 ≤ n
  some_dirty set = let e = flag_less 0 b bs set in omega (arith, e, h.counted)

  pub counted_less : (more : ℕ) → room ≤ more → slice_index_or bs b false ≡ true → AreCounted (as_told.Live l p cursor (n - 1)) more (slice_set bs b false)
  counted_less more enough set = record { room = omega (arith, h.room, enough); few = let e = length-set bs b false in omega (arith, e, h.few); counted = let e = flag_less 0 b bs set in omega (arith, e, h.counted) }

-- the least one
pub least_seen : (o : Told) (bs : List Bool) (r : Option ℕ) → r ≡ least (flagged 0 bs) → (l p : Name) (c n : ℕ) → o ≡ as_told.Live l p c n → r ≡ least (dirty_in (seen o bs))
least_seen o bs r is l p c n live = is ∙ ap (λ x. least (dirty_in (seen x bs))) (sym live)
