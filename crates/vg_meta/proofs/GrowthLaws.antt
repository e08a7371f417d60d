-- How long the texts of volumes are with one more, and without one.
use Rattle.std.proofs.Common.{◌≡◌, ℕ, ◌+◌, List, [], ◌∷◌, length, Some, None, refl, arith, length-append}
use Rattle.std.specs.Ordering.{is_lt}
use Rattle.std.specs.Prelude.{Option}
use Rattle.std.proofs.lemmas.Bool.{cond_both}
use Rattle.sm_base.specs.declared.names.Name.{Name}
use Rattle.sm_base.specs.Names.{name_cmp}
use Rattle.vg_meta.specs.Tables.{Row, row_of, name_eq}
use Rattle.vg_meta.specs.Text.{volume_text}
use Rattle.vg_meta.specs.Changes.{put, without}
use Rattle.vg_meta.specs.Writing.{volumes_text}

pub volumes-put : (r : Row) (rs : List Row) → length (volumes_text (put r rs)) ≡ length (volume_text r) + length (volumes_text rs)
unfolding put
volumes-put r [] = omega (arith, length-append (volume_text r) [])
volumes-put r (s ∷ rs) =
    cond_both (is_lt (name_cmp r.name s.name)) (r ∷ s ∷ rs) (s ∷ put r rs)
    (λ (l : List Row). length (volumes_text l) ≡ length (volume_text r) + length (volumes_text (s ∷ rs)))
    (λ e. omega (arith, length-append (volume_text r) (volumes_text (s ∷ rs))))
    (λ e. omega (arith, length-append (volume_text s) (volumes_text (put r rs)), length-append (volume_text s) (volumes_text rs), volumes-put r rs))

-- the text of the volume of this name, where there is one
abbrev pub found_length : Option Row → ℕ
found_length None = 0
found_length (Some r) = length (volume_text r)

pub volumes-without : (n : Name) (rs : List Row) → length (volumes_text (without n rs)) + found_length (row_of rs n) ≡ length (volumes_text rs)
unfolding row_of without
volumes-without n [] = refl
volumes-without n (s ∷ rs) =
    cond_both (name_eq s.name n) (Some s) (row_of rs n)
    (λ o. length (volumes_text (without n (s ∷ rs))) + found_length o ≡ length (volumes_text (s ∷ rs)))
    (λ e. rw e (omega (arith, length-append (volume_text s) (volumes_text rs))))
    (λ e. rw e (omega (arith, length-append (volume_text s) (volumes_text (without n rs)), length-append (volume_text s) (volumes_text rs), volumes-without n rs)))
