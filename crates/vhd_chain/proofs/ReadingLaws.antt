-- A walk up the chain of an image, and what is read by it.
use Rattle.std.proofs.Common.{◌≡◌, ◌⊎◌, inl, inr, ℕ, zero, suc, ◌+◌, ◌-◌, ◌<◌, ◌≤◌, true, false, nat_lt, if◌then◌else◌, List, Option, Some, None, refl, sym, ap, subst, ◌∙◌, arith}
use Rattle.std.specs.Prelude.{is_some}
use Rattle.std.proofs.lemmas.Bool.{cond-true, cond-false, cases_lt, lt-ltb, le-ltb}
use Rattle.sm_machine.specs.Shapes.{chain_limit}
use Rattle.common_laws.specs.Lists.{In, ◌>>=◌}
use Rattle.sm_base.specs.declared.names.Name.{Name}
use Rattle.sm_disk.specs.Sectors.{zeros}
use Rattle.vg_volumes.specs.Stored.{Stored, stored, OnlyReads}
use Rattle.vg_volumes.specs.declared.stores.Store.{Ghosts}
use Rattle.sm_standing.specs.Images.{ImageAnswer, here, up, held_or, answer_of, walk}
use Rattle.vhd_image.specs.declared.images.Body.{Body}
use Rattle.vhd_image.specs.Bodies.{sector_count, parent_name}
use Rattle.vhd_chain.specs.Trees.{tree_row}
use Rattle.vhd_chain.specs.Reading.{own_read, row_image, image_in, reads_up, chain_reads}
use Rattle.vhd_chain.specs.Pieces.{reaching}
use Rattle.vhd_chain.specs.declared.rows.TreeRow.{TreeRow}
use Rattle.vhd_chain.proofs.ByName.{tree_row-In}

-- ---- one image

-- an image that reaches past a sector is that of a row
pub record IsReaching (rows : List TreeRow) (at : ℕ) (b : Body) : Type 0 where
  pub row : TreeRow
  pub among : In row rows
  pub image : row.image ≡ b
  pub past : at < sector_count b

reaching_row : (rows : List TreeRow) (n : Name) (at : ℕ) (b : Body) → Some b ≡ reaching rows n at → (r : TreeRow) × (tree_row rows n ≡ Some r) × (r.image ≡ b) × (at < sector_count b)
reaching_row rows n at b h = go (tree_row rows n) refl h
  where
    at_row : (r : TreeRow) → tree_row rows n ≡ Some r → (at < sector_count r.image) ⊎ (sector_count r.image ≤ at)
        → Some b ≡ (if nat_lt at (sector_count r.image) then Some r.image else None) → (r : TreeRow) × (tree_row rows n ≡ Some r) × (r.image ≡ b) × (at < sector_count b)
    at_row r e (inl lt) h =
        let same : Some b ≡ Some r.image = h ∙ cond-true (nat_lt at (sector_count r.image)) (Some r.image) None (lt-ltb at (sector_count r.image) lt) in
        let image : r.image ≡ b = cc in
        (r, e, image, subst (λ (x : Body). at < sector_count x) image lt)
    at_row r e (inr le) h =
        let none : Some b ≡ None = h ∙ cond-false (nat_lt at (sector_count r.image)) (Some r.image) None (le-ltb at (sector_count r.image) le) in
        absurd cc

    go : (o : Option TreeRow) → tree_row rows n ≡ o → Some b ≡ (o >>= (λ r. if nat_lt at (sector_count r.image) then Some r.image else None))
        → (r : TreeRow) × (tree_row rows n ≡ Some r) × (r.image ≡ b) × (at < sector_count b)
    go None e h = absurd cc
    go (Some r) e h = at_row r e (cases_lt at (sector_count r.image)) h

pub reaching_is : (rows : List TreeRow) (n : Name) (at : ℕ) (b : Body) → Some b ≡ reaching rows n at → IsReaching rows at b
reaching_is rows n at b h =
    let found = reaching_row rows n at b h in
    record { row = found.0; among = tree_row-In rows n found.0 found.1; image = found.2; past = found.3 }

-- where none of this name reaches past a sector, zeros are read from it on
none_answers : (x : Stored) (rows : List TreeRow) (n : Name) (at s : ℕ) → None ≡ reaching rows n at → at ≤ s → answer_of s (image_in x rows n) ≡ here zeros
unfolding answer_of
none_answers x rows n at s h le = go (tree_row rows n) h
  where
    at_row : (r : TreeRow) → (at < sector_count r.image) ⊎ (sector_count r.image ≤ at) → None ≡ (if nat_lt at (sector_count r.image) then Some r.image else None)
        → answer_of s (Some (row_image x r)) ≡ here zeros
    at_row r (inl lt) h =
        let some : None ≡ Some r.image = h ∙ cond-true (nat_lt at (sector_count r.image)) (Some r.image) None (lt-ltb at (sector_count r.image) lt) in
        absurd cc
    at_row r (inr short) h = cond-false (nat_lt s (sector_count r.image)) (held_or (own_read x r.image s) (parent_name r.image)) (here zeros) (le-ltb s (sector_count r.image) (omega arith))

    go : (o : Option TreeRow) → None ≡ (o >>= (λ r. if nat_lt at (sector_count r.image) then Some r.image else None))
        → answer_of s (o >>= (λ r. Some (row_image x r))) ≡ here zeros
    go None h = refl
    go (Some r) h = at_row r (cases_lt at (sector_count r.image)) h

-- and one that reaches past it answers by what it holds and by its parent
image_answers : (x : Stored) (rows : List TreeRow) (n : Name) (at s : ℕ) (b : Body) → Some b ≡ reaching rows n at → s < sector_count b
    → answer_of s (image_in x rows n) ≡ held_or (own_read x b s) (parent_name b)
unfolding answer_of
image_answers x rows n at s b h below =
    let found = reaching_row rows n at b h in
    let within : s < sector_count found.0.image = subst (λ (y : Body). s < sector_count y) (sym found.2) below in
    ap (λ (o : Option TreeRow). answer_of s (o >>= (λ r. Some (row_image x r)))) found.1
    ∙ cond-true (nat_lt s (sector_count found.0.image)) (held_or (own_read x found.0.image s) (parent_name found.0.image)) (here zeros) (lt-ltb s (sector_count found.0.image) within)
    ∙ ap (λ (y : Body). held_or (own_read x y s) (parent_name y)) found.2

-- ---- the walk

module _ (x : Stored) (rows : List TreeRow) where
  step : (most : ℕ) (n : Name) (s : ℕ) (a : ImageAnswer) → answer_of s (image_in x rows n) ≡ a → reads_up x rows (suc most) n s ≡ elim a [ here v ↦ v | up p ↦ reads_up x rows most p s ]
  unfolding reads_up walk
  step most n s a e = ap (λ (t : ImageAnswer). elim t [ here v ↦ v | up p ↦ walk most (λ m. answer_of s (image_in x rows m)) p ]) e

  walk_zero : (n : Name) (s : ℕ) → reads_up x rows 0 n s ≡ zeros
  unfolding reads_up walk
  walk_zero n s = refl

  pub walk_ends : (most : ℕ) → most ≡ 0 → (n : Name) (s : ℕ) → reads_up x rows most n s ≡ zeros
  walk_ends most e n s = ap (λ (m : ℕ). reads_up x rows m n s) e ∙ walk_zero n s

  pub zeros_none : (most : ℕ) (n : Name) (at s : ℕ) → None ≡ reaching rows n at → at ≤ s → reads_up x rows most n s ≡ zeros
  zeros_none zero n at s h le = walk_zero n s
  zeros_none (suc most) n at s h le = step most n s (here zeros) (none_answers x rows n at s h le)

  left : (b : ℕ) → b < chain_limit → chain_limit - b ≡ suc (chain_limit - (b + 1))
  left b lt = omega arith

  module _ (below : ℕ) (few : below < chain_limit) (n : Name) (at s : ℕ) (b : Body) (here_is : Some b ≡ reaching rows n at) (within : s < sector_count b) where
    turn : (own : Option (List ℕ)) (parent : Option Name) → own_read x b s ≡ own → parent_name b ≡ parent
        → reads_up x rows (chain_limit - below) n s ≡ elim (held_or own parent) [ here v ↦ v | up p ↦ reads_up x rows (chain_limit - (below + 1)) p s ]
    turn own parent e1 e2 =
        ap (λ (m : ℕ). reads_up x rows m n s) (left below few)
        ∙ step (chain_limit - (below + 1)) n s (held_or own parent) (image_answers x rows n at s b here_is within ∙ ap (λ o. held_or o (parent_name b)) e1 ∙ ap (held_or own) e2)

    -- an image that holds the sector
    pub turn_held : is_some (own_read x b s) ≡ true → own_read x b s ≡ Some (reads_up x rows (chain_limit - below) n s)
    turn_held held = go (own_read x b s) refl held
      where
        go : (o : Option (List ℕ)) → own_read x b s ≡ o → is_some o ≡ true → own_read x b s ≡ Some (reads_up x rows (chain_limit - below) n s)
        go None e h = absurd cc
        go (Some v) e h = e ∙ ap Some (sym (turn (Some v) (parent_name b) e refl))

    own_none : is_some (own_read x b s) ≡ false → own_read x b s ≡ None
    own_none held = go (own_read x b s) held
      where
        go : (o : Option (List ℕ)) → is_some o ≡ false → o ≡ None
        go None h = refl
        go (Some v) h = absurd cc

    -- one that does not, without a parent and with one
    pub turn_top : is_some (own_read x b s) ≡ false → None ≡ parent_name b → reads_up x rows (chain_limit - below) n s ≡ zeros
    turn_top held top = turn None None (own_none held) (sym top)

    pub turn_up : (p : Name) → is_some (own_read x b s) ≡ false → Some p ≡ parent_name b → reads_up x rows (chain_limit - below) n s ≡ reads_up x rows (chain_limit - (below + 1)) p s
    turn_up p held e = turn None (Some p) (own_none held) (sym e)

-- ---- what the loop keeps

-- the sectors from this one on, so many of at most so many, are those that are read from `next` on
pub record IsWalked {S : Type 0} (g : Ghosts S) (rows : List TreeRow) (leaf : Name) (at most : ℕ) (old new : S) (below : ℕ) (next : Name) (sectors : ℕ) : Type 0 where
  pub reads_only : OnlyReads g old new
  pub calm : g.faults new ≡ g.faults old
  pub some : 1 ≤ sectors
  pub fits : sectors ≤ most
  pub same : g.told → (k : ℕ) → k < sectors → chain_reads (stored g old) rows leaf (at + k) ≡ reads_up (stored g old) rows (chain_limit - below) next (at + k)
