-- How long a change makes the texts of the volumes.
use Rattle.std.proofs.Common.{◌≡◌, Bool, true, false, cond, ◌+◌, List, [], ◌∷◌, ◌++◌, length, Option, Some, None, refl, ap, ◌∙◌, arith, length-append}
use Rattle.std.proofs.lemmas.Option.{same_Some}
use Rattle.sm_base.specs.declared.names.Name.{Name}
use Rattle.vg_meta.specs.Tables.{Row, row_of, name_eq}
use Rattle.vg_meta.specs.Text.{volume_text}
use Rattle.vg_meta.specs.Changes.{without, with_row, put_some, renamed}
use Rattle.vg_meta.specs.Writing.{volumes_text}
use Rattle.vg_meta.proofs.GrowthLaws.{volumes-put, volumes-without, found_length}

-- texts one behind the other
pub volumes-append : (xs ys : List Row) → length (volumes_text (xs ++ ys)) ≡ length (volumes_text xs) + length (volumes_text ys)
volumes-append [] ys = omega arith
volumes-append (x ∷ xs) ys =
    omega (arith, length-append (volume_text x) (volumes_text (xs ++ ys)), length-append (volume_text x) (volumes_text xs), volumes-append xs ys)

changed_case : (n : Name) (f : Row → Row) (r s : Row) (rs : List Row) (b : Bool) → cond b (Some s) (row_of rs n) ≡ Some r
    → (row_of rs n ≡ Some r → length (volumes_text (with_row n f rs)) ≡ length (volumes_text (without n rs)) + length (volume_text (f r)))
    → length (volumes_text (cond b (f s ∷ rs) (s ∷ with_row n f rs))) ≡ length (volumes_text (cond b rs (s ∷ without n rs))) + length (volume_text (f r))
changed_case n f r s rs true is rest =
    omega (arith, length-append (volume_text (f s)) (volumes_text rs), ap (λ (q : Row). length (volume_text (f q))) (same_Some s r is))
changed_case n f r s rs false is rest =
    omega (arith, length-append (volume_text s) (volumes_text (with_row n f rs)), length-append (volume_text s) (volumes_text (without n rs)), rest is)

-- the others, and the volume as it is changed
pub volumes-changed : (n : Name) (f : Row → Row) (r : Row) (rs : List Row) → row_of rs n ≡ Some r
    → length (volumes_text (with_row n f rs)) ≡ length (volumes_text (without n rs)) + length (volume_text (f r))
unfolding row_of without with_row
volumes-changed n f r [] is = absurd (let e = is in cc)
volumes-changed n f r (s ∷ rs) is = changed_case n f r s rs (name_eq s.name n) is (volumes-changed n f r rs)

unchanged_case : (n : Name) (f : Row → Row) (s : Row) (rs : List Row) (b : Bool) → cond b (Some s) (row_of rs n) ≡ None
    → (row_of rs n ≡ None → with_row n f rs ≡ rs) → cond b (f s ∷ rs) (s ∷ with_row n f rs) ≡ s ∷ rs
unchanged_case n f s rs true is rest = absurd (let e = is in cc)
unchanged_case n f s rs false is rest = ap (λ (qs : List Row). s ∷ qs) (rest is)

-- where no volume has the name, nothing changes
pub with_row-none : (n : Name) (f : Row → Row) (rs : List Row) → row_of rs n ≡ None → with_row n f rs ≡ rs
unfolding row_of with_row
with_row-none n f [] is = refl
with_row-none n f (s ∷ rs) is = unchanged_case n f s rs (name_eq s.name n) is (with_row-none n f rs)

pub without-none : (n : Name) (rs : List Row) → row_of rs n ≡ None → length (volumes_text (without n rs)) ≡ length (volumes_text rs)
without-none n rs is = omega (arith, volumes-without n rs, ap found_length is)

-- the volume moves to another name, or nothing does
pub moved_length : (from to : Name) (r : Row) (rs : List Row) → row_of rs from ≡ Some r
    → length (volumes_text (put_some (row_of rs from) (renamed to) (without from rs))) ≡ length (volumes_text (without from rs)) + length (volume_text (renamed to r))
moved_length from to r rs is =
    ap (λ (o : Option Row). length (volumes_text (put_some o (renamed to) (without from rs)))) is
    ∙ omega (arith, volumes-put (renamed to r) (without from rs))

pub moved_none : (from to : Name) (rs : List Row) → row_of rs from ≡ None
    → length (volumes_text (put_some (row_of rs from) (renamed to) (without from rs))) ≡ length (volumes_text rs)
moved_none from to rs is =
    ap (λ (o : Option Row). length (volumes_text (put_some o (renamed to) (without from rs)))) is ∙ without-none from rs is
