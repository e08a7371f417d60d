use Rattle.std.proofs.Common.{◌≡◌, ℕ, ◌+◌, ◌*◌, ◌<◌, length, refl, subst, rules, arith}
use Rattle.sm_base.specs.declared.sizes.Geometry.{Geometry}
use Rattle.vhd_map.specs.Slots.{slot_of}
use Rattle.sm_base.specs.Numbers.{first}
use Rattle.vhd_map.specs.Places.{code, word}
use Rattle.vg_volumes.specs.Stored.{stored}
use Rattle.vhd_volumes.specs.Truth.{layout_now}
use Rattle.vhd_write.specs.Passes.{IsTableSector}
use Rattle.vhd_write.proofs.BitLaws.{table-low, table-reaches, table-done, sector-whole}
use Rattle.vhd_write.proofs.tables.put_entries.Goals as goal

pub put-requires : goal.put-requires
put-requires g c =
    let l = layout_now (stored g.S.Store c.args.store.now) c.args.head.now in
    let m = slot_of c.args.map.now in
    let within : 128 * c.args.index < l.entries = omega (arith, c.requires.within, c.requires.entries) in
    let low = table-low l c.args.index refl within in
    sector-whole _ _ _ (omega (arith, low, c.requires.room, c.from.ensures)) (search rules)

pub returns-in_err-put-clause-reaches : goal.returns-in_err-put-clause-reaches
returns-in_err-put-clause-reaches g c = λ told.
    let l = layout_now (stored g.S.Store c.args.store.now) c.args.head.now in
    let m = slot_of c.args.map.now in
    let within : 128 * c.args.index < l.entries = omega (arith, c.requires.within, c.requires.entries) in
    let low = table-low l c.args.index refl within in
    let right : IsTableSector l m c.args.index c.write_sector.new.to = subst (λ (x : Geometry). (j : ℕ) → j < 128 → word c.write_sector.new.to j ≡ code (first x.entries) x.block (slot_of c.args.map.now (128 * c.args.index + j))) c.geometry.ensures c.write_sector.ensures in
    let is : 3 + c.from.result ≡ 3 + c.args.index = omega (arith, c.from.ensures) in
    let long : length c.write_sector.new.to ≡ 512 = search rules in
    table-reaches l m c.args.index _ c.write_sector.new.to within is long right (c.put.ensures.torn told)

pub returns-clause-reaches : goal.returns-clause-reaches
returns-clause-reaches g c = λ told.
    let l = layout_now (stored g.S.Store c.args.store.now) c.args.head.now in
    let m = slot_of c.args.map.now in
    let within : 128 * c.args.index < l.entries = omega (arith, c.requires.within, c.requires.entries) in
    let low = table-low l c.args.index refl within in
    let right : IsTableSector l m c.args.index c.write_sector.new.to = subst (λ (x : Geometry). (j : ℕ) → j < 128 → word c.write_sector.new.to j ≡ code (first x.entries) x.block (slot_of c.args.map.now (128 * c.args.index + j))) c.geometry.ensures c.write_sector.ensures in
    let is : 3 + c.from.result ≡ 3 + c.args.index = omega (arith, c.from.ensures) in
    let long : length c.write_sector.new.to ≡ 512 = search rules in
    table-reaches l m c.args.index _ c.write_sector.new.to within is long right (c.put.ensures.torn told)

pub returns-clause-done : goal.returns-clause-done
returns-clause-done g c = λ told.
    let l = layout_now (stored g.S.Store c.args.store.now) c.args.head.now in
    let m = slot_of c.args.map.now in
    let within : 128 * c.args.index < l.entries = omega (arith, c.requires.within, c.requires.entries) in
    let low = table-low l c.args.index refl within in
    let right : IsTableSector l m c.args.index c.write_sector.new.to = subst (λ (x : Geometry). (j : ℕ) → j < 128 → word c.write_sector.new.to j ≡ code (first x.entries) x.block (slot_of c.args.map.now (128 * c.args.index + j))) c.geometry.ensures c.write_sector.ensures in
    let is : 3 + c.from.result ≡ 3 + c.args.index = omega (arith, c.from.ensures) in
    let long : length c.write_sector.new.to ≡ 512 = search rules in
    table-done l m c.args.index _ c.write_sector.new.to is long right (c.in_ok-put.ensures.wrote told)
