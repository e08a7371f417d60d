use Rattle.std.proofs.Common.{ℕ, List, Option, None, length, ap, sym, subst, ◌∙◌}
use Rattle.std.proofs.Math.Path.{fun_ext}
use Rattle.std.proofs.lemmas.List.{length-replicate}
use Rattle.std.proofs.lemmas.Option.{none-some}
use Rattle.std.proofs.lemmas.Result.{IfOk-weaker, on_ok_weaker}
use Rattle.std.specs.Option.{option_copied}
use Rattle.sm_disk.specs.Held.{reads}
use Rattle.vg_volumes.specs.Stored.{stored, sectors_in, held_in}
use Rattle.vhd_map.specs.Slots.{top_of}
use Rattle.vhd_map.proofs.SlotLemmas.{top_of-replicate}
use Rattle.vhd_layout.specs.Layouts.{Slots}
use Rattle.vhd_layout.specs.Images.{IsImage}
use Rattle.vhd_volumes.specs.Truth.{HasRoomFor, layout_now}
use Rattle.vhd_image.specs.Made.{new_head}
use Rattle.vhd_image.specs.declared.images.Body.TheVariants.{Vhd}
use Rattle.vhd_image.proofs.TableLaws.{slot_of-blank_map}
use Rattle.vhd_image.proofs.images.Image.make.Goals as goal

pub seal-requires-clause-map : goal.seal-requires-clause-map
seal-requires-clause-map g c =
    let entries = (g.S.Store.site c.args.store.now).geometry.entries in
    record {
      entries = ap length c.requires.blank ∙ length-replicate entries None;
      sized = λ b k has. absurd (none-some k (sym (slot_of-blank_map entries b c.args.map c.requires.blank) ∙ has));
    }

pub seal-requires-clause-room : goal.seal-requires-clause-room
seal-requires-clause-room g c =
    let geometry = (g.S.Store.site c.args.store.now).geometry in
    subst (λ (k : ℕ). HasRoomFor geometry k (sectors_in (stored g.S.Store c.args.store.now) c.args.volume.now)) (sym (ap top_of c.requires.blank ∙ top_of-replicate geometry.entries)) c.requires.room

pub returns-clause-fields : goal.returns-clause-fields
returns-clause-fields g c =
    let head = new_head (g.S.Store.site c.args.store.now).geometry c.args.volume.now c.args.now c.args.sectors c.args.uid (option_copied c.args.parent) in
    IfOk-weaker c.seal.result _ _ (λ image is. is ∙ ap (λ (m : List (Option ℕ)). Vhd head m) c.requires.blank) c.seal.ensures.fields

pub returns-clause-image : goal.returns-clause-image
returns-clause-image g c =
    let x = stored g.S.Store c.args.store.now in
    let head = new_head (g.S.Store.site c.args.store.now).geometry c.args.volume.now c.args.now c.args.sectors c.args.uid (option_copied c.args.parent) in
    let none = fun_ext (λ b. slot_of-blank_map (g.S.Store.site c.args.store.now).geometry.entries b c.args.map c.requires.blank) in
    on_ok_weaker c.seal.result (λ is told. subst (λ (s : Slots). IsImage (layout_now x head) (reads (held_in (stored g.S.Store c.seal.new.store) c.args.volume.now)) head.footer head.header s) none (is told)) c.seal.ensures.image
