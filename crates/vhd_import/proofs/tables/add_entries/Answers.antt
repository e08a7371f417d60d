use Rattle.std.proofs.Common.{◌≡◌, ◌+◌, ◌-◌, ℕ, true, false, List, ◌∷◌, [], ◌++◌, refl, sym, ap, ◌∙◌, arith, append_assoc}
use Rattle.std.specs.Prelude.{◌==◌}
use Rattle.std.proofs.lemmas.Bool.Decides.{nat_tests}
use Rattle.std.proofs.lemmas.List.{append-nil}
use Rattle.common_laws.specs.Lists.{numbers}
use Rattle.vhd_map.specs.Places.{blank, word}
use Rattle.vhd_import.specs.declared.tables.Entry.{Entry}
use Rattle.vhd_import.specs.Entries.{entries_from}
use Rattle.vhd_import.proofs.KeptLaws.{entries-none, entries-there}
use Rattle.vhd_import.proofs.tables.add_entries.Goals as goal
use Rattle.vhd_import.proofs.tables.add_entries.Goals.{then-place+in-Ok, else-place}

pub loop-j-init : goal.loop-j-init
unfolding entries_from numbers
loop-j-init c = sym (append-nil c.args.to.now.items)

pub loop-j-preserved : goal.loop-j-preserved
loop-j-preserved c =
    let sector : List ℕ = c.args.sector.now in
    let first : ℕ = c.args.first in
    let place : ℕ → ℕ = λ b. word sector (b - first) in
    let back : first + c.loop-j.j - first ≡ c.loop-j.j = omega arith in
    let is : place (first + c.loop-j.j) ≡ c.place_at-place.result = ap (word sector) back ∙ sym c.place_at-place.ensures in
    elim c.if-place.branch [
      | then-place+in-Ok w ↦ (
          let there : (c.place_at-place.result == blank) ≡ false = let n = w.if-place.true in grind (arith, nat_tests) in
          ap (λ v. v.items) w.to-is ∙ w.in-Ok.ensures.items ∙ ap (λ (l : List Entry). l ++ record { place = c.place_at-place.result; block = first + c.loop-j.j } ∷ []) c.loop-j.invariant
          ∙ append_assoc c.args.to.now.items (entries_from place first c.loop-j.j) (record { place = c.place_at-place.result; block = first + c.loop-j.j } ∷ [])
          ∙ ap (λ (l : List Entry). c.args.to.now.items ++ l) (sym (entries-there place first c.loop-j.j c.place_at-place.result (first + c.loop-j.j) is there refl))
          )
      | else-place w ↦ (
          let none : (c.place_at-place.result == blank) ≡ true = let n = w.if-place.false in grind (arith, nat_tests) in
          ap (λ v. v.items) w.to-is ∙ c.loop-j.invariant ∙ ap (λ (l : List Entry). c.args.to.now.items ++ l) (sym (entries-none place first c.loop-j.j c.place_at-place.result is none))
          )
    ]
