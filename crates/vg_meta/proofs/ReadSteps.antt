-- The volumes of a text, one after the other.
use Rattle.std.proofs.Common.{◌≡◌, ℕ, zero, suc, ◌+◌, Bool, false, List, [], ◌∷◌, ◌++◌, length, get_or, take, drop, replicate, refl, sym, ap, subst, ◌∙◌, append_assoc, arith, length-append}
use Rattle.std.specs.List.{flat_map, IsDistinct}
use Rattle.std.specs.List.Sorted.{IsStrictlySortedBy}
use Rattle.std.proofs.lemmas.List.{take_at, length-replicate}
use Rattle.vg_meta.specs.Tables.{Row, AreVolumes, extents_in}
use Rattle.vg_meta.specs.Roomy.{RoomyRow, rows_alone}
use Rattle.vg_meta.specs.Text.{volume_by}
use Rattle.vg_meta.specs.declared.grammars.Grammar.{Grammar}
use Rattle.vg_meta.specs.Taken.{IsMarked}
use Rattle.vg_meta.proofs.WriteLaws.{flat_map-push}

-- so many volumes were read
pub record Read (g : Grammar) (count : ℕ) (bytes rest : List ℕ) (vs : List RoomyRow) (marks : List Bool) (number : ℕ) : Type 0 where
  pub read : bytes ≡ flat_map (volume_by g) (rows_alone vs) ++ rest
  pub many : length vs ≡ number
  pub volumes : AreVolumes count (rows_alone vs)
  pub long : length marks ≡ count
  pub marked : IsMarked (extents_in (rows_alone vs)) marks

pub no_marks : (n e : ℕ) → get_or (replicate n false) e false ≡ false
no_marks zero e = refl
no_marks (suc n) zero = refl
no_marks (suc n) (suc e) = no_marks n e

pub no_volumes : (count : ℕ) → AreVolumes count []
unfolding IsStrictlySortedBy IsDistinct
no_volumes count = record { each = tt; rising = tt; below = tt; distinct = tt }

pub read_first : (g : Grammar) (count : ℕ) (bytes : List ℕ) (vs : List RoomyRow) (marks : List Bool) → vs ≡ [] → marks ≡ replicate count false → Read g count bytes bytes vs marks 0
read_first g count bytes vs marks none fresh =
    rw (none, fresh) (record { read = refl; many = refl; volumes = no_volumes count; long = length-replicate count false; marked = λ e _. no_marks count e })

pub rows-push : (vs : List RoomyRow) (v : RoomyRow) → rows_alone (vs ++ v ∷ []) ≡ rows_alone vs ++ v.row ∷ []
rows-push [] v = refl
rows-push (x ∷ vs) v = ap (λ (l : List Row). x.row ∷ l) (rows-push vs v)

-- one more volume has so many extents more
pub extents-push : (vs : List RoomyRow) (v : RoomyRow) → length (extents_in (rows_alone (vs ++ v ∷ []))) ≡ length (extents_in (rows_alone vs)) + length v.row.extents
extents-push [] v = omega (arith, length-append v.row.extents [])
extents-push (x ∷ vs) v =
    omega (arith, extents-push vs v, length-append x.row.extents (extents_in (rows_alone (vs ++ v ∷ []))), length-append x.row.extents (extents_in (rows_alone vs)))

pub read_more : (g : Grammar) (count : ℕ) (bytes rest after : List ℕ) (vs now : List RoomyRow) (v : RoomyRow) (marks new : List Bool) (i : ℕ) → Read g count bytes rest vs marks i
    → now ≡ vs ++ v ∷ [] → rest ≡ volume_by g v.row ++ after → AreVolumes count (rows_alone vs ++ v.row ∷ []) → length new ≡ count
    → IsMarked (extents_in (rows_alone vs) ++ v.row.extents) new → Read g count bytes after now new (i + 1)
read_more g count bytes rest after vs now v marks new i r is text volumes long marked =
    let rows : rows_alone now ≡ rows_alone vs ++ v.row ∷ [] = ap rows_alone is ∙ rows-push vs v in
    record {
      read = r.read ∙ ap (λ (l : List ℕ). flat_map (volume_by g) (rows_alone vs) ++ l) text
          ∙ sym (append_assoc (flat_map (volume_by g) (rows_alone vs)) (volume_by g v.row) after)
          ∙ ap (λ (l : List ℕ). l ++ after) (sym (ap (flat_map (volume_by g)) rows ∙ flat_map-push (volume_by g) (rows_alone vs) v.row));
      many = ap length is ∙ omega (arith, length-append vs (v ∷ []), r.many);
      volumes = rw rows volumes;
      long = long;
      marked = subst (λ (l : List ℕ). IsMarked l new) (sym (ap extents_in rows ∙ flat_map-push (λ (x : Row). x.extents) (rows_alone vs) v.row)) marked;
    }

-- what a vector has after its slice was written
pub refilled : {X : Type 0} (n : ℕ) (ws items : List X) → length ws ≡ n → take n (ws ++ drop (length ws) items) ≡ ws
refilled n ws items long = take_at ws (drop (length ws) items) n long
