use Rattle.std.proofs.Common.{length, sym, ap, ◌∙◌}
use Rattle.vg_volumes.specs.Sites.{Site}
use Rattle.vg_volumes.specs.Stored.{stored, sectors_in}
use Rattle.vhd_filling.proofs.FilledLaws.{page_slot, slot_whole_at, left_sound, left_page_at}
use Rattle.vhd_filling.proofs.fillings.Filling.leave.Goals as goal

pub slot-requires : goal.slot-requires
slot-requires g c = page_slot c.args.self.now c.requires.fills.sound c.in-Some.block c.in-Some.is

pub put-requires : goal.put-requires
put-requires g c =
    let f = c.args.self.now in
    slot_whole_at f c.requires.fills.sound (g.S.Store.site c.args.store.now).geometry c.in-Some.block c.in-Some-slot.slot (sectors_in (stored g.S.Store c.args.store.now) f.volume) _ _
    c.requires.fills.sizes (sym c.in-Some-slot.ensures.slot) c.slot_place.ensures (ap length c.deref.ensures.value) c.requires.room

pub returns-clause-fills : goal.returns-clause-fills
returns-clause-fills g c =
    let f = c.args.self.now in
    let fills = c.requires.fills in
    record {
      sound = left_sound f fills.sound;
      sizes = ap (λ (s : Site). s.geometry) c.put.ensures.works.stays.site ∙ fills.sizes;
      marked = λ told. (left_page_at f fills.sound c.in-Some.block c.in-Some-slot.slot c.slot_place.result c.deref.result.now c.in-Some.is (sym c.in-Some-slot.ensures.slot) c.slot_place.ensures c.deref.ensures.value (c.in_ok-put.ensures.wrote told) (fills.marked told)).bitmaps;
    }

pub returns-clause-held : goal.returns-clause-held
returns-clause-held g c = λ told.
    let f = c.args.self.now in
    let fills = c.requires.fills in
    (left_page_at f fills.sound c.in-Some.block c.in-Some-slot.slot c.slot_place.result c.deref.result.now c.in-Some.is (sym c.in-Some-slot.ensures.slot) c.slot_place.ensures c.deref.ensures.value (c.in_ok-put.ensures.wrote told) (fills.marked told)).same
