use Rattle.std.proofs.Common.{◌+◌, sym, ap, ◌∙◌, rules, subst}
use Rattle.std.specs.Prelude.{IsPermutation}
use Rattle.std.specs.List.Sorted.{IsNonDecreasingBy}
use Rattle.std.proofs.lemmas.List.Sorted.{IsNonDecreasingBy-from_sort_by_key}
use Rattle.vhd_stream.specs.Files.{table_end}
use Rattle.vhd_import.specs.Apart.{stand_apart}
use Rattle.vhd_import.specs.declared.tables.Entry.{Entry}
use Rattle.vhd_import.proofs.EntryLaws.{sorted-right}
use Rattle.vhd_import.proofs.tables.sort_entries.Goals as goal

pub returns-clause-sorted : goal.returns-clause-sorted
returns-clause-sorted c = IsNonDecreasingBy-from_sort_by_key (λ (e : Entry). e.place) _ c.sort_unstable_by_key.ensures.sorted (λ a r q k. search rules)

pub returns-clause-stands : goal.returns-clause-stands
returns-clause-stands c = c.stand_apart.ensures ∙ ap (stand_apart c.args.end (1 + c.args.block)) c.deref.ensures.value

pub returns-clause-right : goal.returns-clause-right
returns-clause-right c = λ f file end block listed.
    let sorted : IsNonDecreasingBy (λ (e : Entry). e.place) c.sort_unstable_by_key.new.self.items = IsNonDecreasingBy-from_sort_by_key (λ (e : Entry). e.place) _ c.sort_unstable_by_key.ensures.sorted (λ a r q k. search rules) in
    let same = subst (λ (es : _). IsPermutation es c.sort_unstable_by_key.new.self.items) listed c.sort_unstable_by_key.ensures.permutation in
    c.stand_apart.ensures ∙ ap (stand_apart c.args.end (1 + c.args.block)) c.deref.ensures.value
    ∙ ap (λ n. stand_apart n (1 + c.args.block) c.sort_unstable_by_key.new.self.items) (sym end)
    ∙ ap (λ n. stand_apart (table_end f) (1 + n) c.sort_unstable_by_key.new.self.items) (sym block)
    ∙ sorted-right f file c.sort_unstable_by_key.new.self.items same sorted
