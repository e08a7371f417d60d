use Rattle.std.proofs.Common.{◌≡◌, ℕ, ◌+◌, ◌<◌, ◌≤◌, ◌*◌, ◌^◌, length, take, ap, subst, sym, arith, rules}
use Rattle.sm_disk.specs.Held.{Reaches}
use Rattle.vg_meta.specs.Text.{text}
use Rattle.vg_layout.specs.Fields.{layout_number, plate, pointer}
use Rattle.vg_layout.specs.Places.{area_place, best_layout, new_extents}
use Rattle.vg_layout.specs.Sectors.{Plate}
use Rattle.vg_store.specs.Formats.{IsFormatWrite, new_group}
use Rattle.std.proofs.lemmas.Nat.{mul-le}
use Rattle.vg_store.proofs.FormatLaws.{beside_formatted, narrow_area}
use Rattle.vg_store.proofs.NewGroups.{fits_records, records_few, formatted_from, left_from, enough_from}
use Rattle.vg_store.proofs.formats.format.Goals as goal

pub lay_out-requires : goal.lay_out-requires
lay_out-requires g c =
    let size = g.D.Disk.size c.args.disk.now in
    let e = c.args.geometry.extent in
    let enough = enough_from size c.sectors-sectors.result c.area.result c.record_extents-records.result c.from.result c.from-2.result e c.area.ensures c.record_extents-records.ensures c.from.ensures c.from-2.ensures c.sectors-sectors.ensures.size c.if-sectors-least.false in
    let layout : layout_number c.in-Ok.draft.label.layout ≡ best_layout size e = rw (← c.sectors-sectors.ensures.size) (ap (λ (p : Plate). p.layout) c.in-Ok.ensures.label) in
    record { room = subst (λ (l : ℕ). area_place l + 512 ≤ size) (sym layout) (fits_records size e c.args.geometry.in_range.extent_least enough).room }

pub returns-in_default-lay_out-clause-crash : goal.returns-in_default-lay_out-clause-crash
returns-in_default-lay_out-clause-crash g c = λ told image allowed.
    let size = g.D.Disk.size c.args.disk.now in
    let e = c.args.geometry.extent in
    let enough = enough_from size c.sectors-sectors.result c.area.result c.record_extents-records.result c.from.result c.from-2.result e c.area.ensures c.record_extents-records.ensures c.from.ensures c.from-2.ensures c.sectors-sectors.ensures.size c.if-sectors-least.false in
    let d = c.in-Ok.draft in
    let r = c.args.repository in
    let label : plate d.label ≡ (new_group size c.args.geometry r).plate = rw (← c.sectors-sectors.ensures.size) c.in-Ok.ensures.label in
    let header : pointer d.header ≡ (new_group size c.args.geometry r).pointer = c.in-Ok.ensures.header in
    let front : take d.header.length d.text ≡ text (new_group size c.args.geometry r).table = c.in-Ok.ensures.text in
    let sixteen : length r ≡ 16 = search rules in
    let low : d.header.sum < 2 ^ 32 = omega arith in
    let long : length d.text ≡ 512 = omega arith in
    let finished = formatted_from size c.args.geometry r d.text (plate d.label) (pointer d.header) enough low sixteen long label header front in
    left_from size (g.D.Disk.held c.args.disk.now) c.args.geometry r d.text (plate d.label) (pointer d.header) image (finished image) (c.lay_out.ensures.crash told image allowed)

pub overflow_sub-result : goal.overflow_sub-result
overflow_sub-result g c =
    let size = g.D.Disk.size c.args.disk.now in
    let e = c.args.geometry.extent in
    let enough = enough_from size c.sectors-sectors.result c.area.result c.record_extents-records.result c.from.result c.from-2.result e c.area.ensures c.record_extents-records.ensures c.from.ensures c.from-2.ensures c.sectors-sectors.ensures.size c.if-sectors-least.false in
    let count : c.in-Ok.draft.label.extents ≡ new_extents size e = rw (← c.sectors-sectors.ensures.size) (ap (λ (p : Plate). p.count) c.in-Ok.ensures.label) in
    omega (arith, (fits_records size e c.args.geometry.in_range.extent_least enough).least, count, c.record_extents-records.ensures)

pub returns-clause-free : goal.returns-clause-free
returns-clause-free g c =
    let size = g.D.Disk.size c.args.disk.now in
    let e = c.args.geometry.extent in
    let enough = enough_from size c.sectors-sectors.result c.area.result c.record_extents-records.result c.from.result c.from-2.result e c.area.ensures c.record_extents-records.ensures c.from.ensures c.from-2.ensures c.sectors-sectors.ensures.size c.if-sectors-least.false in
    let count : c.in-Ok.draft.label.extents ≡ new_extents size e = rw (← c.sectors-sectors.ensures.size) (ap (λ (p : Plate). p.count) c.in-Ok.ensures.label) in
    omega (arith, (fits_records size e c.args.geometry.in_range.extent_least enough).least, count, c.record_extents-records.ensures)

pub returns-clause-formatted : goal.returns-clause-formatted
returns-clause-formatted g c = λ told.
    let size = g.D.Disk.size c.args.disk.now in
    let e = c.args.geometry.extent in
    let enough = enough_from size c.sectors-sectors.result c.area.result c.record_extents-records.result c.from.result c.from-2.result e c.area.ensures c.record_extents-records.ensures c.from.ensures c.from-2.ensures c.sectors-sectors.ensures.size c.if-sectors-least.false in
    let d = c.in-Ok.draft in
    let r = c.args.repository in
    let label : plate d.label ≡ (new_group size c.args.geometry r).plate = rw (← c.sectors-sectors.ensures.size) c.in-Ok.ensures.label in
    let header : pointer d.header ≡ (new_group size c.args.geometry r).pointer = c.in-Ok.ensures.header in
    let front : take d.header.length d.text ≡ text (new_group size c.args.geometry r).table = c.in-Ok.ensures.text in
    let sixteen : length r ≡ 16 = search rules in
    let low : d.header.sum < 2 ^ 32 = omega arith in
    let long : length d.text ≡ 512 = omega arith in
    let finished = formatted_from size c.args.geometry r d.text (plate d.label) (pointer d.header) enough low sixteen long label header front in
    finished (g.D.Disk.held c.lay_out.new.disk).floor (c.in-Ok-lay_out.ensures.laid told)

pub returns-clause-crash : goal.returns-clause-crash
returns-clause-crash g c = λ told image allowed.
    let size = g.D.Disk.size c.args.disk.now in
    let e = c.args.geometry.extent in
    let enough = enough_from size c.sectors-sectors.result c.area.result c.record_extents-records.result c.from.result c.from-2.result e c.area.ensures c.record_extents-records.ensures c.from.ensures c.from-2.ensures c.sectors-sectors.ensures.size c.if-sectors-least.false in
    let d = c.in-Ok.draft in
    let r = c.args.repository in
    let label : plate d.label ≡ (new_group size c.args.geometry r).plate = rw (← c.sectors-sectors.ensures.size) c.in-Ok.ensures.label in
    let header : pointer d.header ≡ (new_group size c.args.geometry r).pointer = c.in-Ok.ensures.header in
    let front : take d.header.length d.text ≡ text (new_group size c.args.geometry r).table = c.in-Ok.ensures.text in
    let sixteen : length r ≡ 16 = search rules in
    let low : d.header.sum < 2 ^ 32 = omega arith in
    let long : length d.text ≡ 512 = omega arith in
    let finished = formatted_from size c.args.geometry r d.text (plate d.label) (pointer d.header) enough low sixteen long label header front in
    left_from size (g.D.Disk.held c.args.disk.now) c.args.geometry r d.text (plate d.label) (pointer d.header) image (finished image) (c.lay_out.ensures.crash told image allowed)

pub returns-in_default-lay_out-clause-beside : goal.returns-in_default-lay_out-clause-beside
returns-in_default-lay_out-clause-beside g c = λ told.
    let size = g.D.Disk.size c.args.disk.now in
    let e = c.args.geometry.extent in
    let enough = enough_from size c.sectors-sectors.result c.area.result c.record_extents-records.result c.from.result c.from-2.result e c.area.ensures c.record_extents-records.ensures c.from.ensures c.from-2.ensures c.sectors-sectors.ensures.size c.if-sectors-least.false in
    let layout : layout_number c.in-Ok.draft.label.layout ≡ best_layout size e = rw (← c.sectors-sectors.ensures.size) (ap (λ (p : Plate). p.layout) c.in-Ok.ensures.label) in
    let old = g.D.Disk.held c.args.disk.now in
    let new = g.D.Disk.held c.lay_out.new.disk in
    beside_formatted (best_layout size e) (new_extents size e * e) old new (fits_records size e c.args.geometry.in_range.extent_least enough).large
    (subst (λ (l : ℕ). Reaches (IsFormatWrite l) old new) layout (c.lay_out.ensures.reaches told))

pub returns-clause-beside : goal.returns-clause-beside
returns-clause-beside g c = λ told.
    let size = g.D.Disk.size c.args.disk.now in
    let e = c.args.geometry.extent in
    let enough = enough_from size c.sectors-sectors.result c.area.result c.record_extents-records.result c.from.result c.from-2.result e c.area.ensures c.record_extents-records.ensures c.from.ensures c.from-2.ensures c.sectors-sectors.ensures.size c.if-sectors-least.false in
    let layout : layout_number c.in-Ok.draft.label.layout ≡ best_layout size e = rw (← c.sectors-sectors.ensures.size) (ap (λ (p : Plate). p.layout) c.in-Ok.ensures.label) in
    let old = g.D.Disk.held c.args.disk.now in
    let new = g.D.Disk.held c.lay_out.new.disk in
    beside_formatted (best_layout size e) (new_extents size e * e) old new (fits_records size e c.args.geometry.in_range.extent_least enough).large
    (subst (λ (l : ℕ). Reaches (IsFormatWrite l) old new) layout (c.lay_out.ensures.reaches told))

pub overflow_add-least : goal.overflow_add-least
overflow_add-least g c =
    let e = c.args.geometry.extent in
    let few = records_few e c.args.geometry.in_range.extent_least in
    let most : c.from.result * c.from-2.result ≤ 16 * 8192 = mul-le c.from.result c.from-2.result 16 8192 (omega (arith, few, c.record_extents-records.ensures, c.from.ensures)) (omega (arith, c.from-2.ensures, c.args.geometry.in_range.extent_most)) in
    omega (arith, most, c.area.ensures, narrow_area)
