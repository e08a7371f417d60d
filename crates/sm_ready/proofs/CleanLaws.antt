-- A table without its new volumes is the same however many of them are gone already.
use Rattle.std.proofs.Common.{◌≡◌, ℕ, suc, ◌+◌, ◌≤◌, min, inl, inr, Bool, true, false, cond, not, List, [], ◌∷◌, length, Some, refl, sym, ap, ap₂, ◌∙◌, subst, arith}
use Rattle.std.specs.List.{filter}
use Rattle.std.proofs.lemmas.Option.{none-some, same_Some}
use Rattle.sm_base.specs.declared.names.Name.{Name}
use Rattle.vg_meta.specs.Tables.{VolumeTable, Row, IsTable, row_of, name_eq}
use Rattle.vg_meta.specs.declared.changes.Change.TheVariants.{Remove}
use Rattle.vg_meta.specs.Changes.{applied, without, raised}
use Rattle.common_laws.specs.Lists.{In}
use Rattle.sm_machine.specs.Shapes.{risen, last_sequence}
use Rattle.sm_ready.specs.Cleaned.{HasFewRemovals}
use Rattle.sm_ready.specs.Repairs.{IsNewVolume}
use Rattle.sm_standing.specs.Opened.{cleaned, filled, new_count}

-- ---- one new volume less

-- the others stay, and there is one new volume less
abbrev IsOneLess : List Row → List Row → Type 0
IsOneLess rs rest = (filled rest ≡ filled rs) × (new_count rs ≡ suc (new_count rest))

count_step : (d : Bool) (s : Row) (xs ys : List Row) → length ys ≡ suc (length xs) → length (cond d (s ∷ ys) ys) ≡ suc (length (cond d (s ∷ xs) xs))
count_step true s xs ys h = ap suc h
count_step false s xs ys h = h

one_less : (n : Name) (rs : List Row) (r : Row) → row_of rs n ≡ Some r → r.fresh ≡ true → IsOneLess rs (without n rs)
unfolding without row_of
one_less n [] r there fresh = absurd (none-some r there)
one_less n (s ∷ rs) r there fresh = by (name_eq s.name n) there (λ later. one_less n rs r later fresh)
  where
    by : (b : Bool) → cond b (Some s) (row_of rs n) ≡ Some r → (row_of rs n ≡ Some r → IsOneLess rs (without n rs)) → IsOneLess (s ∷ rs) (cond b rs (s ∷ without n rs))
    by true is rest =
        let new : s.fresh ≡ true = ap (λ (x : Row). x.fresh) (same_Some s r is) ∙ fresh in (
          sym (ap (λ d. cond (not d) (s ∷ filled rs) (filled rs)) new),
          ap (λ d. length (cond d (s ∷ filter (λ (x : Row). x.fresh) rs) (filter (λ (x : Row). x.fresh) rs))) new,
        )
    by false is rest =
        let w = rest is in
        (ap (λ v. cond (not s.fresh) (s ∷ v) v) w.0, count_step s.fresh s (filter (λ (x : Row). x.fresh) (without n rs)) (filter (λ (x : Row). x.fresh) rs) w.1)

min_twice : (q k last : ℕ) → min (min (q + 1) last + k) last ≡ min (q + suc k) last
min_twice q k last = omega arith

pub risen_once : (q k : ℕ) → risen (raised q) k ≡ risen q (suc k)
risen_once q k = min_twice q k last_sequence

pub risen_twice : (q k : ℕ) → risen (risen q 1) k ≡ risen q (suc k)
risen_twice q k = min_twice q k last_sequence

pub cleaned_one : (t : VolumeTable) (n : Name) → IsNewVolume t n → cleaned (applied t (Remove n)) ≡ cleaned t
unfolding cleaned
cleaned_one t n new =
    let w = one_less n t.volumes new.0 new.1 new.2 in
    ap₂ (λ q v. let x : VolumeTable = record { sequence = q; volumes = v } in x)
    (risen_once t.sequence (new_count (without n t.volumes)) ∙ ap (risen t.sequence) (sym w.1)) w.0

-- one commit more
pub cleaned_more : (a t u : VolumeTable) (n : Name) → cleaned t ≡ cleaned a → IsNewVolume t n → u ≡ applied t (Remove n) → cleaned u ≡ cleaned a
cleaned_more a t u n so new is = ap cleaned is ∙ cleaned_one t n new ∙ so

-- ---- none of them left

none_left : (rs : List Row) → ((r : Row) → In r rs → r.fresh ≡ false) → (filled rs ≡ rs) × (new_count rs ≡ 0)
none_left [] old = (refl, refl)
none_left (r ∷ rs) old =
    let w = none_left rs (λ s h. old s (inr h)) in
    let e = old r (inl refl) in (
      ap (λ d. cond (not d) (r ∷ filled rs) (filled rs)) e ∙ ap (λ v. r ∷ v) w.0,
      ap (λ d. length (cond d (r ∷ filter (λ (x : Row). x.fresh) rs) (filter (λ (x : Row). x.fresh) rs))) e ∙ w.1,
    )

pub min_same : (q last : ℕ) → q ≤ last → min (q + 0) last ≡ q
min_same q last h = omega (arith, h)

pub cleaned_same : (count : ℕ) (t : VolumeTable) → IsTable count t → ((r : Row) → In r t.volumes → r.fresh ≡ false) → cleaned t ≡ t
unfolding cleaned
cleaned_same count t table old =
    ap₂ (λ q v. let x : VolumeTable = record { sequence = q; volumes = v } in x)
    (ap (risen t.sequence) (none_left t.volumes old).1 ∙ min_same t.sequence last_sequence (omega (arith, table.sequence))) (none_left t.volumes old).0

-- where none is new any more, the table is the one from before without its new volumes
pub cleaned_all : (count : ℕ) (a t : VolumeTable) → IsTable count t → ((r : Row) → In r t.volumes → r.fresh ≡ false) → cleaned t ≡ cleaned a → t ≡ cleaned a
cleaned_all count a t table old so = sym (cleaned_same count t table old) ∙ so

-- ---- how many commits that is

pub few_removals : {count : ℕ} (a t : VolumeTable) → IsTable count t → cleaned t ≡ cleaned a → HasFewRemovals a t
unfolding cleaned
few_removals {count} a t table so =
    let same : risen t.sequence (new_count t.volumes) ≡ risen a.sequence (new_count a.volumes) = ap (λ (x : VolumeTable). x.sequence) so in
    omega (arith, same, table.sequence)

pub few_same : (a : VolumeTable) → HasFewRemovals a a
few_same a = omega arith

-- said of one of two tables, it holds of the table that it is
pub few_at : (a : VolumeTable) {t u : VolumeTable} → u ≡ t → HasFewRemovals a t → HasFewRemovals a u
few_at a same few = subst (HasFewRemovals a) (sym same) few

pub few_from : {a b : VolumeTable} (t : VolumeTable) → b ≡ a → HasFewRemovals b t → HasFewRemovals a t
few_from t same few = subst (λ x. HasFewRemovals x t) same few
