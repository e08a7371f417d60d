-- What is found and counted of the volumes, told of their names.
use Rattle.std.proofs.Common.{◌≡◌, ℕ, ◌+◌, ◌<◌, ◌≤◌, Bool, true, false, ◌||◌, nat_lt, cond, List, [], ◌∷◌, find, count_by, Option, Some, refl, sym, ap, ◌∙◌, arith}
use Rattle.std.proofs.lemmas.Bool.{lt-ltb, le-ltb, or_left}
use Rattle.std.proofs.lemmas.List.Folds.{fold-map}
use Rattle.std.specs.Option.{option_map}
use Rattle.sm_base.specs.declared.names.Name.{Name}
use Rattle.vg_meta.specs.Tables.{Row, names_of}
use Rattle.vg_meta.specs.Roomy.{RoomyRow, rows_alone}

pub found_name : (test : Name → Bool) (hs : List RoomyRow) → find test (names_of (rows_alone hs)) ≡ option_map (λ h. h.row.name) (find (λ h. test h.row.name) hs)
found_name test [] = refl
found_name test (h ∷ hs) =
    ap (cond (test h.row.name) (Some h.row.name)) (found_name test hs) ∙ by (test h.row.name)
  where
    rest : Option RoomyRow
    rest = find (λ h. test h.row.name) hs

    by : (b : Bool) → cond b (Some h.row.name) (option_map (λ h. h.row.name) rest) ≡ option_map (λ h. h.row.name) (cond b (Some h) rest)
    by true = refl
    by false = refl

pub counted_names : (test : Name → Bool) (hs : List RoomyRow) → count_by test (names_of (rows_alone hs)) ≡ count_by (λ h. test h.row.name) hs
counted_names test hs =
    fold-map (λ (n : ℕ) (name : Name). n + cond (test name) 1 0) (λ (r : Row). r.name) 0 (rows_alone hs)
    ∙ fold-map (λ (n : ℕ) (r : Row). n + cond (test r.name) 1 0) (λ (h : RoomyRow). h.row) 0 hs

-- two classes, counted
pub more_first : (m k l : ℕ) → m ≡ k → 1 < m → nat_lt 1 m ≡ (nat_lt 1 k || nat_lt 1 l)
more_first m k l same more = lt-ltb 1 m more ∙ sym (or_left (nat_lt 1 k) (nat_lt 1 l) (lt-ltb 1 k (omega (arith, same, more))))

pub more_second : (m n k l : ℕ) → m ≡ k → n ≡ l → m ≤ 1 → nat_lt 1 n ≡ (nat_lt 1 k || nat_lt 1 l)
more_second m n k l same also few =
    ap (nat_lt 1) also ∙ sym (ap (λ b. b || nat_lt 1 l) (le-ltb 1 k (omega (arith, same, few))))
