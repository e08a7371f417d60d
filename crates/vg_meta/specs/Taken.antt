-- Which extents were met so far while a text is read: one mark for each extent below a count.
use Rattle.std.specs.Prelude.{◌≡◌, ℕ, ◌<◌, ◌++◌, Bool, true, false, not, ◌&&◌, nat_lt, List, [], ◌∷◌, length, slice_index_or}
use Rattle.vg_meta.specs.Tables.{is_one_of}

-- the marks are those of these extents
abbrev pub IsMarked : List ℕ → List Bool → Type 0
IsMarked us marks = (e : ℕ) → e < length marks → slice_index_or marks e false ≡ is_one_of us e

-- whether extents are below the count, none of them among others, and none twice
unfoldable pub are_new : ℕ → List ℕ → List ℕ → Bool
are_new count us [] = true
are_new count us (e ∷ es) = nat_lt e count && (not (is_one_of us e) && are_new count (us ++ e ∷ []) es)
