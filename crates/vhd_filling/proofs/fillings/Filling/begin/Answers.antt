use Rattle.std.proofs.Common.{◌≡◌, false, ℕ, List, length, Some, sym, ap, ◌∙◌, subst, arith}
use Rattle.std.specs.Prelude.{slice_set}
use Rattle.std.proofs.lemmas.List.{with_items_is}
use Rattle.std.specs.Vec.{with_items}
use Rattle.sm_disk.specs.Sectors.{sector}
use Rattle.vhd_map.specs.Slots.{is_used}
use Rattle.vhd_filling.specs.declared.fillings.Filling.{Filling}
use Rattle.vhd_filling.proofs.FilledLaws.{next_free, next_within, begun_sound, begun_bitmaps}
use Rattle.vhd_filling.proofs.fillings.Filling.begin.Goals as goal

pub put-requires-clause-free : goal.put-requires-clause-free
put-requires-clause-free c =
    let f = c.args.self.now in
    let r = c.requires in
    subst (λ (k : ℕ). is_used f.map k ≡ false) (sym c.count-slot.ensures) (next_free f f r.sound c.args.block r.free r.within r.without)

pub put-requires-clause-slot_in : goal.put-requires-clause-slot_in
put-requires-clause-slot_in c =
    let f = c.args.self.now in
    let r = c.requires in
    omega (arith, c.count-slot.ensures, next_within f f r.sound c.args.block r.free r.within r.without)

pub returns-clause-sound : goal.returns-clause-sound
returns-clause-sound c =
    let f = c.args.self.now in
    let r = c.requires in
    let value = c.deref_mut.ensures.value in
    let n : Filling = record f { map = c.put.new.self; page = with_items f.page c.clear.new.page } in
    let items : n.page.items ≡ c.clear.new.page = with_items_is f.page c.clear.new.page (omega (arith, c.clear.ensures.long, c.deref_mut.ensures.len)) in
    begun_sound f n r.sound c.args.block r.free r.within r.without (c.put.ensures ∙ ap (λ (k : ℕ). slice_set f.map c.args.block (Some k)) c.count-slot.ensures) (ap length items ∙ (c.clear.ensures.long ∙ ap length value))
    (ap (λ (z : List ℕ). sector z 0) items ∙ (c.clear.ensures.bitmap ∙ ap (λ (z : List ℕ). sector z 0) value)) (λ i some within. ap (λ (z : List ℕ). sector z i) items ∙ c.clear.ensures.blank i some (omega (arith, within, ap length value)))

pub returns-clause-bitmaps : goal.returns-clause-bitmaps
returns-clause-bitmaps c =
    let f = c.args.self.now in
    let r = c.requires in
    let value = c.deref_mut.ensures.value in
    let n : Filling = record f { map = c.put.new.self; page = with_items f.page c.clear.new.page } in
    let items : n.page.items ≡ c.clear.new.page = with_items_is f.page c.clear.new.page (omega (arith, c.clear.ensures.long, c.deref_mut.ensures.len)) in
    begun_bitmaps f n r.sound c.args.block r.free r.within r.without (c.put.ensures ∙ ap (λ (k : ℕ). slice_set f.map c.args.block (Some k)) c.count-slot.ensures) (ap length items ∙ (c.clear.ensures.long ∙ ap length value))
    (ap (λ (z : List ℕ). sector z 0) items ∙ (c.clear.ensures.bitmap ∙ ap (λ (z : List ℕ). sector z 0) value)) (λ i some within. ap (λ (z : List ℕ). sector z i) items ∙ c.clear.ensures.blank i some (omega (arith, within, ap length value)))
