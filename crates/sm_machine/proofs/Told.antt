-- The operation behind what is told of it, and how the guest's writes change it.
use Rattle.std.proofs.Common.{◌≡◌, ℕ, Bool, true, false, List, [], ◌∷◌, ◌++◌, length, refl, ap}
use Rattle.std.specs.Str.{bytes_eq}
use Rattle.sm_base.specs.declared.names.Name.{Name}
use Rattle.sm_base.specs.declared.operations.Op.TheVariants as as_told
use Rattle.sm_machine.specs.Operations.{Op, dirtied, told, touched}
use Rattle.sm_machine.specs.Operations as op
use Rattle.sm_machine.specs.Commits.{folds}
use Rattle.sm_machine.specs.Shapes.{image_uuid}
use Rattle.sm_machine.specs.Steps.{written_op}

-- ---- which operation is told so

pub told_idle : (o : Op) → told o ≡ as_told.Idle → o ≡ op.Idle
unfolding told
told_idle op.Idle e = refl
told_idle (op.Copy v p c) e = cc
told_idle (op.Relink v p) e = cc
told_idle (op.Leaf l p c) e = cc
told_idle (op.Live l p c dirty) e = cc

pub told_copy : (v p : Name) (c : ℕ) (o : Op) → told o ≡ as_told.Copy v p c → o ≡ op.Copy v p c
unfolding told
told_copy v p c op.Idle e = cc
told_copy v p c (op.Copy w q d) e = cc
told_copy v p c (op.Relink w q) e = cc
told_copy v p c (op.Leaf w q d) e = cc
told_copy v p c (op.Live w q d dirty) e = cc

pub told_relink : (v p : Name) (o : Op) → told o ≡ as_told.Relink v p → o ≡ op.Relink v p
unfolding told
told_relink v p op.Idle e = cc
told_relink v p (op.Copy w q d) e = cc
told_relink v p (op.Relink w q) e = cc
told_relink v p (op.Leaf w q d) e = cc
told_relink v p (op.Live w q d dirty) e = cc

pub told_leaf : (l p : Name) (c : ℕ) (o : Op) → told o ≡ as_told.Leaf l p c → o ≡ op.Leaf l p c
unfolding told
told_leaf l p c op.Idle e = cc
told_leaf l p c (op.Copy w q d) e = cc
told_leaf l p c (op.Relink w q) e = cc
told_leaf l p c (op.Leaf w q d) e = cc
told_leaf l p c (op.Live w q d dirty) e = cc

pub told_live : (l p : Name) (c n : ℕ) (o : Op) → told o ≡ as_told.Live l p c n → (dirty : List ℕ) × (o ≡ op.Live l p c dirty) × (length dirty ≡ n)
unfolding told
told_live l p c n op.Idle e = absurd (cc)
told_live l p c n (op.Copy w q d) e = absurd (cc)
told_live l p c n (op.Relink w q) e = absurd (cc)
told_live l p c n (op.Leaf w q d) e = absurd (cc)
told_live l p c n (op.Live w q d dirty) e = (dirty, cc, cc)

-- ---- a guest's writes

-- blocks of one write after those of another
dirtied_more : (c : ℕ) (bs cs dirty : List ℕ) → dirtied c (bs ++ cs) dirty ≡ dirtied c cs (dirtied c bs dirty)
unfolding dirtied
dirtied_more c [] cs dirty = refl
dirtied_more c (b ∷ bs) cs dirty = dirtied_more c bs cs (dirtied c (b ∷ []) dirty)

pub written_more : (u : List ℕ) (bs cs : List ℕ) (o : Op) → written_op u (bs ++ cs) o ≡ written_op u cs (written_op u bs o)
unfolding written_op
written_more u bs cs op.Idle = refl
written_more u bs cs (op.Copy v p c) = refl
written_more u bs cs (op.Relink v p) = refl
written_more u bs cs (op.Leaf l p c) = refl
written_more u bs cs (op.Live l p c dirty) = by (bytes_eq (image_uuid l) u)
  where
    of : Bool → List ℕ → List ℕ → List ℕ
    of x blocks ds = elim x [ true ↦ dirtied c blocks ds | false ↦ ds ]

    by : (x : Bool) → op.Live l p c (of x (bs ++ cs) dirty) ≡ op.Live l p c (of x cs (of x bs dirty))
    by true = ap (op.Live l p c) (dirtied_more c bs cs dirty)
    by false = refl

-- of no block
pub written_none : (u : List ℕ) (o : Op) → written_op u [] o ≡ o
unfolding written_op dirtied
written_none u op.Idle = refl
written_none u (op.Copy v p c) = refl
written_none u (op.Relink v p) = refl
written_none u (op.Leaf l p c) = refl
written_none u (op.Live l p c dirty) = by (bytes_eq (image_uuid l) u)
  where
    by : (x : Bool) → op.Live l p c (elim x as (λ _. List ℕ) [ true ↦ dirtied c [] dirty | false ↦ dirty ]) ≡ op.Live l p c dirty
    by true = refl
    by false = refl

-- where the disk's leaf is not folded
pub written_apart : (u bs : List ℕ) (o : Op) → folds o u ≡ false → written_op u bs o ≡ o
unfolding written_op folds
written_apart u bs op.Idle e = refl
written_apart u bs (op.Copy v p c) e = refl
written_apart u bs (op.Relink v p) e = refl
written_apart u bs (op.Leaf l p c) e = refl
written_apart u bs (op.Live l p c dirty) e = ap (λ x. op.Live l p c (elim x as (λ _. List ℕ) [ true ↦ dirtied c bs dirty | false ↦ dirty ])) e

-- where it is, block by block
pub written_touched : (u : List ℕ) (b : ℕ) (bs : List ℕ) (o : Op) → folds o u ≡ true → written_op u (b ∷ bs) o ≡ written_op u bs (touched b o)
unfolding written_op folds dirtied
written_touched u b bs op.Idle e = refl
written_touched u b bs (op.Copy v p c) e = refl
written_touched u b bs (op.Relink v p) e = refl
written_touched u b bs (op.Leaf l p c) e = refl
written_touched u b bs (op.Live l p c dirty) e = by (bytes_eq (image_uuid l) u) e
  where
    by : (x : Bool) → x ≡ true → op.Live l p c (elim x as (λ _. List ℕ) [ true ↦ dirtied c (b ∷ bs) dirty | false ↦ dirty ])
        ≡ op.Live l p c (elim x as (λ _. List ℕ) [ true ↦ dirtied c bs (dirtied c (b ∷ []) dirty) | false ↦ dirtied c (b ∷ []) dirty ])
    by true is = refl
    by false is = absurd (cc)

-- a write leaves open which leaf is folded
pub folds_written : (u v bs : List ℕ) (o : Op) → folds (written_op u bs o) v ≡ folds o v
unfolding written_op folds
folds_written u v bs op.Idle = refl
folds_written u v bs (op.Copy w p c) = refl
folds_written u v bs (op.Relink w p) = refl
folds_written u v bs (op.Leaf l p c) = refl
folds_written u v bs (op.Live l p c dirty) = refl

pub folds_touched : (u : List ℕ) (b : ℕ) (o : Op) → folds (touched b o) u ≡ folds o u
unfolding folds
folds_touched u b op.Idle = refl
folds_touched u b (op.Copy v p c) = refl
folds_touched u b (op.Relink v p) = refl
folds_touched u b (op.Leaf l p c) = refl
folds_touched u b (op.Live l p c dirty) = refl
