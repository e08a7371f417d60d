-- Spare places after a change, and the invariant of a table.
use Rattle.std.proofs.Common.{◌≡◌, ◌≢◌, ℕ, ◌<◌, ◌≤◌, ◌^◌, cond, List, None, sym, ap, subst, ◌∙◌, arith}
use Rattle.std.proofs.lemmas.Bool.{cond_both}
use Rattle.sm_base.specs.declared.names.Name.{Name}
use Rattle.vg_meta.specs.declared.changes.Change.{Change}
use Rattle.vg_meta.specs.Tables.{Row, row_of, name_eq, AreVolumes, IsTable}
use Rattle.vg_meta.specs.Changes.{without, changed, AllowsIn, AllowsRename}
use Rattle.vg_meta.proofs.NameLaws.{name_eq-true, name_eq-false}
use Rattle.vg_meta.proofs.RowLaws.{row_of-without_other}
use Rattle.vg_meta.proofs.ChangeLaws.{changed-volumes}

-- where all but one volume keep their places
pub at_name : (old new x : Name → ℕ) (name : Name) → x name ≤ new name → ((n : Name) → name ≢ n → new n ≡ old n)
    → (n : Name) → cond (name_eq n name) (x n) (old n) ≤ new n
at_name old new x name own others n =
    cond_both (name_eq n name) (x n) (old n) (λ (k : ℕ). k ≤ new n)
    (λ e. subst (λ (m : Name). x m ≤ new m) (sym (name_eq-true n name e)) own)
    (λ e. let same = others n (λ k. name_eq-false n name e (sym k)) in omega arith)

-- where a volume carries its places to another name
pub at_names : (old mid new : Name → ℕ) (from to : Name) → old from ≤ new to → ((n : Name) → from ≢ n → mid n ≡ old n) → ((n : Name) → to ≢ n → new n ≡ mid n)
    → (n : Name) → cond (name_eq n to) (old from) (cond (name_eq n from) 0 (old n)) ≤ new n
at_names old mid new from to own first second n =
    cond_both (name_eq n to) (old from) (cond (name_eq n from) 0 (old n)) (λ (k : ℕ). k ≤ new n)
    (λ e. subst (λ (m : Name). old from ≤ new m) (sym (name_eq-true n to e)) own)
    (λ e. cond_both (name_eq n from) 0 (old n) (λ (k : ℕ). k ≤ new n)
    (λ _. omega arith)
    (λ other. let one = first n (λ k. name_eq-false n from other (sym k)) in
    let two = second n (λ k. name_eq-false n to e (sym k)) in omega arith))

-- the new name is not there once the old one is gone
pub absent_then : (rs mid : List Row) (from to name : Name) → AllowsRename rs from to → mid ≡ without from rs → name ≡ to → row_of mid name ≡ None
absent_then rs mid from to name a is same =
    let other : from ≢ to = λ e. let k : row_of rs from ≡ row_of rs to = ap (row_of rs) e in let l = a.there in let m = a.new_name in absurd cc in
    rw (same, is) (row_of-without_other rs from to other ∙ a.new_name)

-- a table after an allowed change
pub stays_table : (count sequence : ℕ) (rs new : List Row) (change : Change) → AreVolumes count rs → AllowsIn count rs change → new ≡ changed rs change
    → sequence < 2 ^ 48 → IsTable count (record { sequence = sequence; volumes = new })
stays_table count sequence rs new change v a is fits = record {
  sequence = fits;
  volumes = rw is (changed-volumes count (record { sequence = 0; volumes = rs }) change v a);
}
