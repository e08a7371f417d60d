-- A name that passed the checks of its twin and of its numbers passes them in each later table of no more volumes.
use Rattle.std.proofs.Common.{◌≡◌, ℕ, ◌≤◌, ◌&&◌, ◌||◌, not, Bool, true, false, List, [], ◌∷◌, nat_lt, refl, sym, ap₂, arith}
use Rattle.std.specs.List.{list_all}
use Rattle.std.proofs.lemmas.Bool.{true≢false, lt-ltb, ltb-true}
use Rattle.sm_base.specs.Kinds.{is_image}
use Rattle.sm_base.specs.Names.{is_base}
use Rattle.sm_base.specs.declared.names.Name.{Name}
use Rattle.sm_base.specs.declared.names.Name.TheVariants.{Mgt, Vhd, Raw, Old, Cbt, Clone, Inflate, Coalesce, Relink, Leaf}
use Rattle.vg_meta.specs.Tables.{VolumeTable, Row}
use Rattle.sm_standing.specs.Checks.{has_twin, is_misnamed}
use Rattle.sm_standing.specs.Entries.{base_number, is_past, are_past, is_there, uuids_in}

pub past_later : (u : List ℕ) (s t : ℕ) → s ≤ t → is_past s u ≡ true → is_past t u ≡ true
past_later u s t le h = by (is_base u) h
  where
    by : (b : Bool) → (not b || nat_lt (base_number u) s) ≡ true → (not b || nat_lt (base_number u) t) ≡ true
    by false h = refl
    by true h = lt-ltb (base_number u) t (let lt = ltb-true (base_number u) s h in omega arith)

pub all_past : (us : List (List ℕ)) (s t : ℕ) → s ≤ t → list_all (is_past s) us ≡ true → list_all (is_past t) us ≡ true
all_past [] s t le h = refl
all_past (u ∷ us) s t le h = by (λ e. all_past us s t le e) (is_past s u) refl h
  where
    by : (list_all (is_past s) us ≡ true → list_all (is_past t) us ≡ true) → (b : Bool) → is_past s u ≡ b → (b && list_all (is_past s) us) ≡ true → (is_past t u && list_all (is_past t) us) ≡ true
    by rest true is e = ap₂ (λ (c d : Bool). c && d) (past_later u s t le is) (rest e)
    by rest false is e = absurd (true≢false (sym e))

twin_gone : (t u : VolumeTable) (n : Name) → ((m : Name) → is_there t m ≡ false → is_there u m ≡ false) → has_twin t n ≡ false → has_twin u n ≡ false
twin_gone t u (Vhd v) fewer e = fewer (Raw v) e
twin_gone t u (Raw v) fewer e = fewer (Vhd v) e
twin_gone t u Mgt fewer e = refl
twin_gone t u (Old v) fewer e = refl
twin_gone t u (Cbt v) fewer e = refl
twin_gone t u (Clone d b w) fewer e = refl
twin_gone t u (Inflate v k) fewer e = refl
twin_gone t u (Coalesce c p) fewer e = refl
twin_gone t u (Relink c p) fewer e = refl
twin_gone t u (Leaf l p) fewer e = refl

-- a volume that has its name to itself keeps it
pub named_still : (t u : VolumeTable) (r : Row) → t.sequence ≤ u.sequence → ((m : Name) → is_there t m ≡ false → is_there u m ≡ false) → is_misnamed t r ≡ false → is_misnamed u r ≡ false
named_still t u r later fewer e = by (is_image r.name) (has_twin t r.name) (are_past t r.name) refl refl e
  where
    by : (a b c : Bool) → has_twin t r.name ≡ b → are_past t r.name ≡ c → (a && (b || not c)) ≡ false → (a && (has_twin u r.name || not (are_past u r.name))) ≡ false
    by false b c twin past e = refl
    by true true c twin past e = absurd (true≢false e)
    by true false false twin past e = absurd (true≢false e)
    by true false true twin past e = ap₂ (λ (x y : Bool). x || not y) (twin_gone t u r.name fewer twin) (all_past (uuids_in r.name) t.sequence u.sequence later past)
