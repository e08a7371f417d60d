use Rattle.std.proofs.Common.{◌≡◌, ℕ, ◌-◌, ◌^◌, ◌<◌, ◌≤◌, List, get_or, set, arith, ap, ◌∙◌, subst, Option, Some}
use Rattle.vhd_map.proofs.KeptLemmas.{may_put, marks_read, word_in, differs, AgreesWithEntries-put, put-fits, put-last, kept_map-set}
use Rattle.vhd_map.proofs.maps.Map.put.Goals as goal

pub overflow_add-self : goal.overflow_add-self
overflow_add-self c =
    let a = c.self.inside in
    let may = may_put a.entries.items c.args.self.now c.args.block c.args.slot c.self.view_is c.requires.block_in c.requires.without c.requires.free c.requires.slot_in in
    let fits = put-fits a.entries.items a.used.items a.count a.top a.least c.self.invariant c.args.block c.args.slot may in
    omega (arith, fits)

pub first_with_room-self-inside-requires-clause-last : goal.first_with_room-self-inside-requires-clause-last
first_with_room-self-inside-requires-clause-last c =
    let a = c.self.inside in
    let may = may_put a.entries.items c.args.self.now c.args.block c.args.slot c.self.view_is c.requires.block_in c.requires.without c.requires.free c.requires.slot_in in
    let within = word_in a.entries.items a.used.items a.count a.top a.least c.self.invariant c.args.block c.args.slot may in
    let words = c.deref.ensures.value ∙ marks_read a.used.items c.args.slot c.index_mut-2.result.now within c.index_mut-2.ensures.value in
    rw words (put-last a.entries.items a.used.items a.count a.top a.least c.self.invariant c.args.block c.args.slot may)

pub invariant_of-self : goal.invariant_of-self
invariant_of-self c =
    let a = c.self.inside in
    let may = may_put a.entries.items c.args.self.now c.args.block c.args.slot c.self.view_is c.requires.block_in c.requires.without c.requires.free c.requires.slot_in in
    let within = word_in a.entries.items a.used.items a.count a.top a.least c.self.invariant c.args.block c.args.slot may in
    let marked = marks_read a.used.items c.args.slot c.index_mut-2.result.now within c.index_mut-2.ensures.value in
    let words = c.deref.ensures.value ∙ marked in
    let later = c.first_with_room-self-inside.result in
    let found = c.first_with_room-self-inside.ensures in
    let Full : List ℕ → Type 0 = λ v. (w : ℕ) → a.least ≤ w → w < later → get_or v w 0 ≡ 2 ^ 64 - 1 in
    rw (marked, c.max-self-inside.ensures)
    (AgreesWithEntries-put a.entries.items a.used.items a.count a.top a.least c.self.invariant c.args.block c.args.slot may later (rw words at found.within) (rw words at found.room) (subst Full words found.full))

pub returns : goal.returns
returns c =
    let a = c.self.inside in
    let may = may_put a.entries.items c.args.self.now c.args.block c.args.slot c.self.view_is c.requires.block_in c.requires.without c.requires.free c.requires.slot_in in
    kept_map-set a.entries.items c.args.block c.args.slot (differs a.entries.items a.used.items a.count a.top a.least c.self.invariant c.args.block c.args.slot may) ∙ ap (λ (m : List (Option ℕ)). set m c.args.block (Some c.args.slot)) c.self.view_is
