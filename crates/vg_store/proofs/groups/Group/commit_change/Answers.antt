use Rattle.std.proofs.Common.{◌≤◌, ◌+◌, ◌*◌, ◌^◌, length, take, sum, sym, ap, ◌∙◌, arith}
use Rattle.vg_meta.proofs.ByName.{Permits-wider}
use Rattle.vg_meta.specs.Changes.{applied}
use Rattle.vg_meta.specs.Roomy.{table_alone}
use Rattle.vg_meta.specs.Tables.{VolumeTable}
use Rattle.vg_meta.specs.Text.{text}
use Rattle.vg_layout.specs.Fields.{layout_number, places_in, plate, pointer, slot_number}
use Rattle.vg_layout.specs.Places.{area_place, slot_bytes}
use Rattle.vg_layout.proofs.FrameLaws.{apart_within}
use Rattle.vg_store.specs.Groups.{IsGroup, IsNext, IsNextOf}
use Rattle.vg_store.proofs.CommittedLaws.{IsFront, some_text, front_reach, buffer_shown, fits_slot, next_from, next_of, not_early, numbers_after, text_fits, slot_few, group_from, group_flipped, spelled_again, either_stands, room_after}
use Rattle.vg_store.specs.Leaving.{few_extents}
use Rattle.vg_store.proofs.FlipLaws.{current_apart}
use Rattle.vg_store.proofs.OpenedLaws.{group_stands}
use Rattle.vg_store.proofs.groups.Group.commit_change.Goals as goal

pub next_header-next-requires-clause-allowed : goal.next_header-next-requires-clause-allowed
next_header-next-requires-clause-allowed g c =
    Permits-wider c.args.self.now.label.extents (2 ^ 32) (table_alone c.args.self.now.table) c.args.change (omega (arith, few_extents (layout_number c.args.self.now.label.layout) c.args.self.now.few)) c.requires.allowed

pub next_header-next-requires-clause-fits : goal.next_header-next-requires-clause-fits
next_header-next-requires-clause-fits g c =
    let s = c.args.self.now in
    let fits = fits_slot s.label.extents (layout_number s.label.layout) (length (text (applied (table_alone s.table) c.args.change))) (places_in c.of-frame.result) c.of-frame.ensures s.few c.requires.fits in
    omega (arith, fits, ap slot_bytes c.of-frame.ensures, s.room, c.deref_mut.ensures.len)

pub next_header-next-requires-clause-numbers : goal.next_header-next-requires-clause-numbers
next_header-next-requires-clause-numbers g c =
    let s = c.args.self.now in
    numbers_after s.label.extents (slot_bytes (places_in c.of-frame.result)) (table_alone s.table) c.args.change s.spelled.table c.requires.allowed (few_extents (layout_number s.label.layout) s.few)
    (fits_slot s.label.extents (layout_number s.label.layout) (length (text (applied (table_alone s.table) c.args.change))) (places_in c.of-frame.result) c.of-frame.ensures s.few c.requires.fits) (slot_few (layout_number s.label.layout) (places_in c.of-frame.result) c.of-frame.ensures)

pub next_header-next-requires-clause-few : goal.next_header-next-requires-clause-few
next_header-next-requires-clause-few g c =
    let s = c.args.self.now in
    omega (arith, slot_few (layout_number s.label.layout) (places_in c.of-frame.result) c.of-frame.ensures, ap slot_bytes c.of-frame.ensures, s.room, c.deref_mut.ensures.len)

pub split_at-requires : goal.split_at-requires
split_at-requires g c =
    let s = c.args.self.now in
    let short : c.next_header-next.result.length ≤ slot_bytes (places_in c.of-frame.result) =
    fits_slot s.label.extents (layout_number s.label.layout) c.next_header-next.result.length (places_in c.of-frame.result) c.of-frame.ensures s.few (omega (arith, c.next_header-next.ensures.head.size, c.requires.fits))
    in
    let reach = front_reach (places_in c.of-frame.result) c.next_header-next.result.length c.div_ceil-sectors.result short c.div_ceil-sectors.ensures in
    omega (arith, reach.1, ap slot_bytes c.of-frame.ensures, c.deref.ensures.len, s.room)

pub flip-requires-clause-apart : goal.flip-requires-clause-apart
flip-requires-clause-apart g c =
    let s = c.args.self.now in
    apart_within (current_apart (layout_number s.label.layout) (places_in c.of-frame.result) c.of-frame.ensures) (omega (arith, s.area))

pub flip-requires-clause-some : goal.flip-requires-clause-some
flip-requires-clause-some g c = omega (arith, c.next_header-next.ensures.head.size, some_text (applied (table_alone c.args.self.now.table) c.args.change))

pub flip-requires-clause-fits : goal.flip-requires-clause-fits
flip-requires-clause-fits g c =
    let s = c.args.self.now in
    fits_slot s.label.extents (layout_number s.label.layout) c.next_header-next.result.length (places_in c.of-frame.result) c.of-frame.ensures s.few (omega (arith, c.next_header-next.ensures.head.size, c.requires.fits))

pub flip-requires-clause-sectors : goal.flip-requires-clause-sectors
flip-requires-clause-sectors g c =
    let s = c.args.self.now in
    let u = applied (table_alone s.table) c.args.change in
    let written = c.split_at.result.0.now in
    let front : IsFront (places_in c.of-frame.result) c.div_ceil-sectors.result c.next_header-next.result.length c.next_header-next.new.buffer written =
    record {
      count = c.div_ceil-sectors.ensures;
      long = c.next_header-next.ensures.long ∙ c.deref_mut.ensures.len ∙ s.room ∙ ap slot_bytes (sym c.of-frame.ensures);
      front = c.split_at.ensures.front ∙ ap (take (512 * c.div_ceil-sectors.result)) (c.deref.ensures.value ∙ buffer_shown s.buffer.len s.buffer.items c.next_header-next.new.buffer (c.next_header-next.ensures.long ∙ c.deref_mut.ensures.len));
    }
    in
    let next : IsNext (places_in c.of-frame.result) (plate s.label) (pointer s.header) (pointer c.next_header-next.result) u written =
    next_from (places_in c.of-frame.result) (plate s.label) (pointer s.header) (pointer c.next_header-next.result) (table_alone s.table) c.args.change (text (table_alone s.table)) c.next_header-next.new.buffer written c.div_ceil-sectors.result
    (numbers_after s.label.extents (slot_bytes (places_in c.of-frame.result)) (table_alone s.table) c.args.change s.spelled.table c.requires.allowed (few_extents (layout_number s.label.layout) s.few)
    (fits_slot s.label.extents (layout_number s.label.layout) (length (text (applied (table_alone s.table) c.args.change))) (places_in c.of-frame.result) c.of-frame.ensures s.few c.requires.fits) (slot_few (layout_number s.label.layout) (places_in c.of-frame.result) c.of-frame.ensures)) s.spelled c.requires.allowed
    (fits_slot s.label.extents (layout_number s.label.layout) (length (text u)) (places_in c.of-frame.result) c.of-frame.ensures s.few c.requires.fits) (ap slot_number c.next_header-next.ensures.slot ∙ c.other.ensures) c.next_header-next.ensures.head front
    in
    next.long

pub invariant_of-self : goal.invariant_of-self
invariant_of-self g c =
    let s = c.args.self.now in
    let u = applied (table_alone s.table) c.args.change in
    let written = c.split_at.result.0.now in
    let front : IsFront (places_in c.of-frame.result) c.div_ceil-sectors.result c.next_header-next.result.length c.next_header-next.new.buffer written =
    record {
      count = c.div_ceil-sectors.ensures;
      long = c.next_header-next.ensures.long ∙ c.deref_mut.ensures.len ∙ s.room ∙ ap slot_bytes (sym c.of-frame.ensures);
      front = c.split_at.ensures.front ∙ ap (take (512 * c.div_ceil-sectors.result)) (c.deref.ensures.value ∙ buffer_shown s.buffer.len s.buffer.items c.next_header-next.new.buffer (c.next_header-next.ensures.long ∙ c.deref_mut.ensures.len));
    }
    in
    let next : IsNext (places_in c.of-frame.result) (plate s.label) (pointer s.header) (pointer c.next_header-next.result) u written =
    next_from (places_in c.of-frame.result) (plate s.label) (pointer s.header) (pointer c.next_header-next.result) (table_alone s.table) c.args.change (text (table_alone s.table)) c.next_header-next.new.buffer written c.div_ceil-sectors.result
    (numbers_after s.label.extents (slot_bytes (places_in c.of-frame.result)) (table_alone s.table) c.args.change s.spelled.table c.requires.allowed (few_extents (layout_number s.label.layout) s.few)
    (fits_slot s.label.extents (layout_number s.label.layout) (length (text (applied (table_alone s.table) c.args.change))) (places_in c.of-frame.result) c.of-frame.ensures s.few c.requires.fits) (slot_few (layout_number s.label.layout) (places_in c.of-frame.result) c.of-frame.ensures)) s.spelled c.requires.allowed
    (fits_slot s.label.extents (layout_number s.label.layout) (length (text u)) (places_in c.of-frame.result) c.of-frame.ensures s.few c.requires.fits) (ap slot_number c.next_header-next.ensures.slot ∙ c.other.ensures) c.next_header-next.ensures.head front
    in
    let d = g.D.Disk in
    let group : d.told → IsGroup (d.size s.disk) (d.held s.disk) (plate s.label) (pointer s.header) (table_alone s.table) (text (table_alone s.table)) =
    λ told. group_from (d.size s.disk) (d.held s.disk) (plate s.label) (pointer s.header) (table_alone s.table) (s.rests told c.requires.usable) (s.summed c.requires.usable) s.spelled
    in
    let step : d.told → IsNextOf (d.size s.disk) (d.held s.disk) (places_in c.of-frame.result) (plate s.label) (pointer s.header) (table_alone s.table) (text (table_alone s.table)) (pointer c.next_header-next.result) u written =
    λ told. next_of (d.size s.disk) (d.held s.disk) (places_in c.of-frame.result) (plate s.label) (pointer s.header) (pointer c.next_header-next.result) (table_alone s.table) u (text (table_alone s.table)) written c.of-frame.ensures (group told) next
    in
    record {
      few = s.few;
      area = rw c.flip.ensures.size s.area;
      known = s.known;
      room = s.room;
      spelled = s.spelled;
      fits = s.fits;
      current = λ usable. absurd cc;
      summed = λ usable. absurd cc;
      rests = λ told usable. absurd cc;
      taken = λ told early. absurd (not_early (s.current c.requires.usable) early);
      stands = λ told image allowed. either_stands (d.size c.flip.new.disk) image (plate s.label) (pointer s.header) (pointer c.next_header-next.result) (table_alone s.table) u
          (rw c.flip.ensures.size (c.flip.ensures.stands told (plate s.label) (pointer s.header) (table_alone s.table) u (text (table_alone s.table)) (step told) image (rw (← c.flip.ensures.size) allowed)));
    }

pub returns-in_default-clause-crash : goal.returns-in_default-clause-crash
returns-in_default-clause-crash g c =
    let s = c.args.self.now in
    let u = applied (table_alone s.table) c.args.change in
    let written = c.split_at.result.0.now in
    let front : IsFront (places_in c.of-frame.result) c.div_ceil-sectors.result c.next_header-next.result.length c.next_header-next.new.buffer written =
    record {
      count = c.div_ceil-sectors.ensures;
      long = c.next_header-next.ensures.long ∙ c.deref_mut.ensures.len ∙ s.room ∙ ap slot_bytes (sym c.of-frame.ensures);
      front = c.split_at.ensures.front ∙ ap (take (512 * c.div_ceil-sectors.result)) (c.deref.ensures.value ∙ buffer_shown s.buffer.len s.buffer.items c.next_header-next.new.buffer (c.next_header-next.ensures.long ∙ c.deref_mut.ensures.len));
    }
    in
    let next : IsNext (places_in c.of-frame.result) (plate s.label) (pointer s.header) (pointer c.next_header-next.result) u written =
    next_from (places_in c.of-frame.result) (plate s.label) (pointer s.header) (pointer c.next_header-next.result) (table_alone s.table) c.args.change (text (table_alone s.table)) c.next_header-next.new.buffer written c.div_ceil-sectors.result
    (numbers_after s.label.extents (slot_bytes (places_in c.of-frame.result)) (table_alone s.table) c.args.change s.spelled.table c.requires.allowed (few_extents (layout_number s.label.layout) s.few)
    (fits_slot s.label.extents (layout_number s.label.layout) (length (text (applied (table_alone s.table) c.args.change))) (places_in c.of-frame.result) c.of-frame.ensures s.few c.requires.fits) (slot_few (layout_number s.label.layout) (places_in c.of-frame.result) c.of-frame.ensures)) s.spelled c.requires.allowed
    (fits_slot s.label.extents (layout_number s.label.layout) (length (text u)) (places_in c.of-frame.result) c.of-frame.ensures s.few c.requires.fits) (ap slot_number c.next_header-next.ensures.slot ∙ c.other.ensures) c.next_header-next.ensures.head front
    in
    let d = g.D.Disk in
    let group : d.told → IsGroup (d.size s.disk) (d.held s.disk) (plate s.label) (pointer s.header) (table_alone s.table) (text (table_alone s.table)) =
    λ told. group_from (d.size s.disk) (d.held s.disk) (plate s.label) (pointer s.header) (table_alone s.table) (s.rests told c.requires.usable) (s.summed c.requires.usable) s.spelled
    in
    let step : d.told → IsNextOf (d.size s.disk) (d.held s.disk) (places_in c.of-frame.result) (plate s.label) (pointer s.header) (table_alone s.table) (text (table_alone s.table)) (pointer c.next_header-next.result) u written =
    λ told. next_of (d.size s.disk) (d.held s.disk) (places_in c.of-frame.result) (plate s.label) (pointer s.header) (pointer c.next_header-next.result) (table_alone s.table) u (text (table_alone s.table)) written c.of-frame.ensures (group told) next
    in
    λ told v image left. c.flip.ensures.crash told (s.label.extents * s.label.geometry.extent) (plate s.label) (pointer s.header) (table_alone s.table) u (text (table_alone s.table)) (step told) s.area v image
    (rw (← c.flip.ensures.size) left)

pub apply-requires-clause-allowed : goal.apply-requires-clause-allowed
apply-requires-clause-allowed g c =
    Permits-wider c.args.self.now.label.extents (2 ^ 32) (table_alone c.args.self.now.table) c.args.change (omega (arith, few_extents (layout_number c.args.self.now.label.layout) c.args.self.now.few)) c.requires.allowed

pub invariant_of-self-2 : goal.invariant_of-self-2
invariant_of-self-2 g c =
    let s = c.args.self.now in
    let u = applied (table_alone s.table) c.args.change in
    let written = c.split_at.result.0.now in
    let front : IsFront (places_in c.of-frame.result) c.div_ceil-sectors.result c.next_header-next.result.length c.next_header-next.new.buffer written =
    record {
      count = c.div_ceil-sectors.ensures;
      long = c.next_header-next.ensures.long ∙ c.deref_mut.ensures.len ∙ s.room ∙ ap slot_bytes (sym c.of-frame.ensures);
      front = c.split_at.ensures.front ∙ ap (take (512 * c.div_ceil-sectors.result)) (c.deref.ensures.value ∙ buffer_shown s.buffer.len s.buffer.items c.next_header-next.new.buffer (c.next_header-next.ensures.long ∙ c.deref_mut.ensures.len));
    }
    in
    let next : IsNext (places_in c.of-frame.result) (plate s.label) (pointer s.header) (pointer c.next_header-next.result) u written =
    next_from (places_in c.of-frame.result) (plate s.label) (pointer s.header) (pointer c.next_header-next.result) (table_alone s.table) c.args.change (text (table_alone s.table)) c.next_header-next.new.buffer written c.div_ceil-sectors.result
    (numbers_after s.label.extents (slot_bytes (places_in c.of-frame.result)) (table_alone s.table) c.args.change s.spelled.table c.requires.allowed (few_extents (layout_number s.label.layout) s.few)
    (fits_slot s.label.extents (layout_number s.label.layout) (length (text (applied (table_alone s.table) c.args.change))) (places_in c.of-frame.result) c.of-frame.ensures s.few c.requires.fits) (slot_few (layout_number s.label.layout) (places_in c.of-frame.result) c.of-frame.ensures)) s.spelled c.requires.allowed
    (fits_slot s.label.extents (layout_number s.label.layout) (length (text u)) (places_in c.of-frame.result) c.of-frame.ensures s.few c.requires.fits) (ap slot_number c.next_header-next.ensures.slot ∙ c.other.ensures) c.next_header-next.ensures.head front
    in
    let d = g.D.Disk in
    let group : d.told → IsGroup (d.size s.disk) (d.held s.disk) (plate s.label) (pointer s.header) (table_alone s.table) (text (table_alone s.table)) =
    λ told. group_from (d.size s.disk) (d.held s.disk) (plate s.label) (pointer s.header) (table_alone s.table) (s.rests told c.requires.usable) (s.summed c.requires.usable) s.spelled
    in
    let step : d.told → IsNextOf (d.size s.disk) (d.held s.disk) (places_in c.of-frame.result) (plate s.label) (pointer s.header) (table_alone s.table) (text (table_alone s.table)) (pointer c.next_header-next.result) u written =
    λ told. next_of (d.size s.disk) (d.held s.disk) (places_in c.of-frame.result) (plate s.label) (pointer s.header) (pointer c.next_header-next.result) (table_alone s.table) u (text (table_alone s.table)) written c.of-frame.ensures (group told) next
    in
    let h = pointer c.next_header-next.result in
    let v = table_alone c.apply.new.self in
    let fits : area_place (layout_number s.label.layout) + s.label.extents * s.label.geometry.extent ≤ d.size c.flip.new.disk = rw c.flip.ensures.size s.area in
    let flipped : d.told → IsGroup (d.size c.flip.new.disk) (d.held c.flip.new.disk) (plate s.label) h v (text v) =
    λ told. group_flipped (d.size s.disk) (d.size c.flip.new.disk) (d.held c.flip.new.disk) (plate s.label) h u v (take c.next_header-next.result.length written) c.flip.ensures.size c.apply.ensures.table next.spelled.spelled
    (c.in-Ok.ensures.flipped told (plate s.label) (pointer s.header) (table_alone s.table) u (text (table_alone s.table)) (step told))
    in
    record {
      few = s.few;
      area = fits;
      known = s.known;
      room = s.room;
      spelled = spelled_again s.label.extents (take c.next_header-next.result.length written) u v c.apply.ensures.table next.spelled;
      fits = text_fits u v (places_in c.of-frame.result) (layout_number s.label.layout) c.of-frame.ensures s.room c.apply.ensures.table
          (fits_slot s.label.extents (layout_number s.label.layout) (length (text u)) (places_in c.of-frame.result) c.of-frame.ensures s.few c.requires.fits);
      current = s.current;
      summed = λ usable. ap (λ (w : VolumeTable). sum (text w)) c.apply.ensures.table ∙ sym c.next_header-next.ensures.head.total;
      rests = λ told usable. (flipped told).rests;
      taken = λ told early. absurd (not_early (s.current c.requires.usable) early);
      stands = λ told image allowed. group_stands (d.size c.flip.new.disk) (s.label.extents * s.label.geometry.extent) (d.held c.flip.new.disk) (plate s.label) h v (text v) image fits (flipped told) allowed;
    }

pub returns-clause-room_after : goal.returns-clause-room_after
returns-clause-room_after g c = room_after c.args.change c.args.self.now.table c.apply.new.self c.apply.ensures.spare c.apply.ensures.places

pub returns-clause-settled : goal.returns-clause-settled
returns-clause-settled g c = λ told q. c.in-Ok.ensures.settled told (area_place (layout_number c.args.self.now.label.layout) + q)

pub returns-clause-crash : goal.returns-clause-crash
returns-clause-crash g c =
    let s = c.args.self.now in
    let u = applied (table_alone s.table) c.args.change in
    let written = c.split_at.result.0.now in
    let front : IsFront (places_in c.of-frame.result) c.div_ceil-sectors.result c.next_header-next.result.length c.next_header-next.new.buffer written =
    record {
      count = c.div_ceil-sectors.ensures;
      long = c.next_header-next.ensures.long ∙ c.deref_mut.ensures.len ∙ s.room ∙ ap slot_bytes (sym c.of-frame.ensures);
      front = c.split_at.ensures.front ∙ ap (take (512 * c.div_ceil-sectors.result)) (c.deref.ensures.value ∙ buffer_shown s.buffer.len s.buffer.items c.next_header-next.new.buffer (c.next_header-next.ensures.long ∙ c.deref_mut.ensures.len));
    }
    in
    let next : IsNext (places_in c.of-frame.result) (plate s.label) (pointer s.header) (pointer c.next_header-next.result) u written =
    next_from (places_in c.of-frame.result) (plate s.label) (pointer s.header) (pointer c.next_header-next.result) (table_alone s.table) c.args.change (text (table_alone s.table)) c.next_header-next.new.buffer written c.div_ceil-sectors.result
    (numbers_after s.label.extents (slot_bytes (places_in c.of-frame.result)) (table_alone s.table) c.args.change s.spelled.table c.requires.allowed (few_extents (layout_number s.label.layout) s.few)
    (fits_slot s.label.extents (layout_number s.label.layout) (length (text (applied (table_alone s.table) c.args.change))) (places_in c.of-frame.result) c.of-frame.ensures s.few c.requires.fits) (slot_few (layout_number s.label.layout) (places_in c.of-frame.result) c.of-frame.ensures)) s.spelled c.requires.allowed
    (fits_slot s.label.extents (layout_number s.label.layout) (length (text u)) (places_in c.of-frame.result) c.of-frame.ensures s.few c.requires.fits) (ap slot_number c.next_header-next.ensures.slot ∙ c.other.ensures) c.next_header-next.ensures.head front
    in
    let d = g.D.Disk in
    let group : d.told → IsGroup (d.size s.disk) (d.held s.disk) (plate s.label) (pointer s.header) (table_alone s.table) (text (table_alone s.table)) =
    λ told. group_from (d.size s.disk) (d.held s.disk) (plate s.label) (pointer s.header) (table_alone s.table) (s.rests told c.requires.usable) (s.summed c.requires.usable) s.spelled
    in
    let step : d.told → IsNextOf (d.size s.disk) (d.held s.disk) (places_in c.of-frame.result) (plate s.label) (pointer s.header) (table_alone s.table) (text (table_alone s.table)) (pointer c.next_header-next.result) u written =
    λ told. next_of (d.size s.disk) (d.held s.disk) (places_in c.of-frame.result) (plate s.label) (pointer s.header) (pointer c.next_header-next.result) (table_alone s.table) u (text (table_alone s.table)) written c.of-frame.ensures (group told) next
    in
    λ told v image left. c.flip.ensures.crash told (s.label.extents * s.label.geometry.extent) (plate s.label) (pointer s.header) (table_alone s.table) u (text (table_alone s.table)) (step told) s.area v image
    (rw (← c.flip.ensures.size) left)

pub returns-in_default-clause-keeps : goal.returns-in_default-clause-keeps
returns-in_default-clause-keeps g c = λ told.
    let l = layout_number c.args.self.now.label.layout in
    c.flip.ensures.keeps told l c.of-frame.ensures

pub returns-in_default-clause-beside : goal.returns-in_default-clause-beside
returns-in_default-clause-beside g c = λ told area.
    let l = layout_number c.args.self.now.label.layout in
    c.flip.ensures.beside told l area c.of-frame.ensures

pub returns-clause-keeps : goal.returns-clause-keeps
returns-clause-keeps g c = λ told.
    let l = layout_number c.args.self.now.label.layout in
    c.flip.ensures.keeps told l c.of-frame.ensures

pub returns-clause-beside : goal.returns-clause-beside
returns-clause-beside g c = λ told area.
    let l = layout_number c.args.self.now.label.layout in
    c.flip.ensures.beside told l area c.of-frame.ensures
