use Rattle.std.proofs.Common.{arith, ap, ◌∙◌, w64}
use Rattle.std.specs.Int.{trailing_ones}
use Rattle.std.proofs.lemmas.List.{get_or_read}
use Rattle.vhd_map.specs.Kept.{kept_map}
use Rattle.vhd_map.proofs.SlotLemmas.{least_free_slot-free}
use Rattle.vhd_map.proofs.KeptLemmas.{least_free_slot-read}
use Rattle.vhd_map.proofs.maps.Map.least_free.Goals as goal

pub overflow_add-result : goal.overflow_add-result
overflow_add-result c =
    let a = c.self.inside in
    let read = get_or_read a.used.items a.least c.index-word.result.now c.self.invariant.within c.index-word.ensures 0 in
    let ones = c.trailing_ones.ensures ∙ ap (trailing_ones w64) read in
    let found = least_free_slot-read a.entries.items a.used.items a.count a.top a.least c.self.invariant (omega (arith, read)) in
    omega (arith, ones, found.1, c.self.invariant.fits)

pub returns-clause-least : goal.returns-clause-least
returns-clause-least c =
    let a = c.self.inside in
    let read = get_or_read a.used.items a.least c.index-word.result.now c.self.invariant.within c.index-word.ensures 0 in
    let ones = c.trailing_ones.ensures ∙ ap (trailing_ones w64) read in
    let found = least_free_slot-read a.entries.items a.used.items a.count a.top a.least c.self.invariant (omega (arith, read)) in
    rw (ones, ← c.self.view_is) found.0

pub returns-clause-free : goal.returns-clause-free
returns-clause-free c =
    let a = c.self.inside in
    let read = get_or_read a.used.items a.least c.index-word.result.now c.self.invariant.within c.index-word.ensures 0 in
    let ones = c.trailing_ones.ensures ∙ ap (trailing_ones w64) read in
    let found = least_free_slot-read a.entries.items a.used.items a.count a.top a.least c.self.invariant (omega (arith, read)) in
    rw (ones, ← c.self.view_is, found.0) (least_free_slot-free (kept_map a.entries.items) c.self.invariant.good)
