-- A volume that was made, and grew, and goes leaves the volumes from before.
use Rattle.std.proofs.Common.{◌≡◌, Bool, true, false, cond, List, [], ◌∷◌, Some, None, refl, sym, ap, ◌∙◌}
use Rattle.std.specs.Ordering.{is_lt}
use Rattle.std.proofs.lemmas.Option.{none-some}
use Rattle.sm_base.specs.Names.{name_cmp}
use Rattle.sm_base.specs.declared.names.Name.{Name}
use Rattle.vg_meta.specs.Changes.{put, with_row, without}
use Rattle.vg_meta.specs.Tables.{Row, name_eq, row_of}
use Rattle.vg_meta.proofs.NameLaws.{name_eq-refl}

pub without_put : (r : Row) (rs : List Row) → row_of rs r.name ≡ None → without r.name (put r rs) ≡ rs
unfolding without put row_of
without_put r [] none = ap (λ b. cond b [] (r ∷ [])) (name_eq-refl r.name)
without_put r (s ∷ rs) none = by (is_lt (name_cmp r.name s.name)) (name_eq s.name r.name) refl none (λ e. without_put r rs e)
  where
    by : (b d : Bool) → name_eq s.name r.name ≡ d → cond d (Some s) (row_of rs r.name) ≡ None → (row_of rs r.name ≡ None → without r.name (put r rs) ≡ rs)
        → without r.name (cond b (r ∷ s ∷ rs) (s ∷ put r rs)) ≡ s ∷ rs
    by true d is none rest = ap (λ c. cond c (s ∷ rs) (r ∷ without r.name (s ∷ rs))) (name_eq-refl r.name)
    by false true is none rest = absurd (none-some s (sym none))
    by false false is none rest = ap (λ c. cond c (put r rs) (s ∷ without r.name (put r rs))) is ∙ ap (λ (xs : List Row). s ∷ xs) (rest none)

pub without_with_row : (n : Name) (f : Row → Row) → ((s : Row) → (f s).name ≡ s.name) → (rs : List Row) → without n (with_row n f rs) ≡ without n rs
unfolding without with_row
without_with_row n f named [] = refl
without_with_row n f named (s ∷ rs) = by (name_eq s.name n) refl (without_with_row n f named rs)
  where
    by : (b : Bool) → name_eq s.name n ≡ b → without n (with_row n f rs) ≡ without n rs → without n (cond b (f s ∷ rs) (s ∷ with_row n f rs)) ≡ cond b rs (s ∷ without n rs)
    by true is rest = ap (λ c. cond c rs (f s ∷ without n rs)) (ap (λ (x : Name). name_eq x n) (named s) ∙ is)
    by false is rest = ap (λ c. cond c (with_row n f rs) (s ∷ without n (with_row n f rs))) is ∙ ap (λ (xs : List Row). s ∷ xs) rest
