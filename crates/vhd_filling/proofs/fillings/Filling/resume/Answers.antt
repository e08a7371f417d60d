use Rattle.std.proofs.Common.{◌≡◌, ℕ, List, length, sym, ap, ◌∙◌, subst, arith}
use Rattle.std.proofs.lemmas.List.{with_items_is}
use Rattle.std.specs.Vec.{with_items}
use Rattle.sm_disk.specs.Held.{Gave}
use Rattle.sm_disk.proofs.HeldLaws.{reads-same}
use Rattle.vg_volumes.specs.Sites.{Site}
use Rattle.vg_volumes.specs.Stored.{stored, sectors_in, held_in}
use Rattle.vhd_filling.specs.declared.fillings.Filling.{Filling}
use Rattle.vhd_filling.proofs.FilledLaws.{slot_whole_at, resumed_sound, resumed, reread}
use Rattle.vhd_filling.proofs.fillings.Filling.resume.Goals as goal

pub get-requires : goal.get-requires
get-requires g c =
    let f = c.args.self.now in
    slot_whole_at f c.requires.fills.sound (g.S.Store.site c.args.store.now).geometry c.args.block c.args.slot (sectors_in (stored g.S.Store c.args.store.now) f.volume) _ _
    c.requires.fills.sizes c.requires.slot c.slot_place.ensures (ap length c.deref_mut.ensures.value) c.requires.room

pub returns-clause-fills : goal.returns-clause-fills
returns-clause-fills g c =
    let f = c.args.self.now in
    let fills = c.requires.fills in
    let n : Filling = record f { page = with_items f.page c.get.new.to } in
    let items : n.page.items ≡ c.get.new.to = with_items_is f.page c.get.new.to (omega (arith, c.get.ensures.long, c.deref_mut.ensures.len)) in
    let long = ap length items ∙ (c.get.ensures.long ∙ ap length c.deref_mut.ensures.value) in
    record {
      sound = resumed_sound f n fills.sound c.args.block c.requires.free c.args.slot c.requires.slot long;
      sizes = ap (λ (s : Site). s.geometry) c.get.ensures.works.stays.site ∙ fills.sizes;
      marked = λ told.
          let x = held_in (stored g.S.Store c.args.store.now) f.volume in
          (reread (held_in (stored g.S.Store c.get.new.store) f.volume) (reads-same (c.get.ensures.same told)) (resumed f n fills.sound c.args.block c.requires.free c.args.slot c.requires.slot long x c.slot_place.result c.slot_place.ensures (subst (λ (z : List ℕ). Gave c.slot_place.result x z) (sym items) (c.in_ok-get.ensures.gave told)) (fills.marked told))).bitmaps;
    }

pub returns-clause-held : goal.returns-clause-held
returns-clause-held g c = λ told.
    let f = c.args.self.now in
    let fills = c.requires.fills in
    let n : Filling = record f { page = with_items f.page c.get.new.to } in
    let items : n.page.items ≡ c.get.new.to = with_items_is f.page c.get.new.to (omega (arith, c.get.ensures.long, c.deref_mut.ensures.len)) in
    let long = ap length items ∙ (c.get.ensures.long ∙ ap length c.deref_mut.ensures.value) in
    let x = held_in (stored g.S.Store c.args.store.now) f.volume in
    (reread (held_in (stored g.S.Store c.get.new.store) f.volume) (reads-same (c.get.ensures.same told)) (resumed f n fills.sound c.args.block c.requires.free c.args.slot c.requires.slot long x c.slot_place.result c.slot_place.ensures (subst (λ (z : List ℕ). Gave c.slot_place.result x z) (sym items) (c.in_ok-get.ensures.gave told)) (fills.marked told))).same
