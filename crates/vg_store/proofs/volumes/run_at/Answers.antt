use Rattle.std.proofs.Common.{◌+◌, ◌%◌, ◌/◌, ◌<◌, length, refl, subst, arith}
use Rattle.std.proofs.lemmas.Nat.{mod_below}
use Rattle.vg_volumes.specs.Volumes.{span}
use Rattle.vg_store.specs.Runs.{AreAdjacent}
use Rattle.vg_volumes.proofs.SpotLaws.{ahead_div, in_extents, extent_some}
use Rattle.vg_layout.specs.Fields.{layout_number}
use Rattle.vg_store.proofs.RunLaws.{run_fits, run_from}
use Rattle.vg_store.proofs.volumes.run_at.Goals as goal

pub adjacent-requires-clause-there : goal.adjacent-requires-clause-there
adjacent-requires-clause-there c =
    let es = c.args.extents.now in
    let x = c.args.extent in
    let below : c.args.at + c.args.done < span x es = omega (arith, c.requires.within, c.requires.some) in
    rw (c.from-extent.ensures, ahead_div c.args.at c.args.done x (extent_some _ _ x below)) (in_extents x es (c.args.at + c.args.done) below)

pub bounds-extents-index : goal.bounds-extents-index
bounds-extents-index c =
    let es = c.args.extents.now in
    let x = c.args.extent in
    let below : c.args.at + c.args.done < span x es = omega (arith, c.requires.within, c.requires.some) in
    rw (c.from-extent.ensures, ahead_div c.args.at c.args.done x (extent_some _ _ x below)) (in_extents x es (c.args.at + c.args.done) below)

pub returns-clause-run : goal.returns-clause-run
returns-clause-run c =
    let beside = subst (λ y. AreAdjacent c.args.extents.now (c.args.at / y + (c.args.at % y + c.args.done) / y) c.adjacent.result) c.from-extent.ensures c.adjacent.ensures.each in
    rw (c.area.ensures, c.from.ensures, c.min.ensures, c.from-extent.ensures)
    (run_from (layout_number c.args.layout) c.args.extent c.args.extents.now c.args.at c.args.done c.args.left _ _ c.adjacent.result c.requires.some c.requires.within c.adjacent.ensures.some beside refl refl)

pub overflow_add-result-2 : goal.overflow_add-result-2
overflow_add-result-2 c =
    let es = c.args.extents.now in
    let x = c.args.extent in
    let y = c.from-extent.result in
    let below : c.args.at + c.args.done < span x es = omega (arith, c.requires.within, c.requires.some) in
    let wide : 0 < y = omega (arith, extent_some _ _ x below, c.from-extent.ensures) in
    let index : c.args.at / y + (c.args.at % y + c.args.done) / y < length es = rw (c.from-extent.ensures, ahead_div c.args.at c.args.done x (extent_some _ _ x below)) (in_extents x es (c.args.at + c.args.done) below) in
    run_fits (layout_number c.args.layout) x es (c.args.at / y + (c.args.at % y + c.args.done) / y) ((c.args.at % y + c.args.done) % y) c.area.result c.from.result y c.requires.on index
    (mod_below (c.args.at % y + c.args.done) y wide) c.area.ensures c.from.ensures c.from-extent.ensures
