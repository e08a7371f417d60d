use Rattle.std.proofs.Common.{◌≡◌, ◌∷◌, [], length, take, ap, ap₂, ◌∙◌, List, ℕ, arith}
use Rattle.sm_base.specs.Names.{spelling}
use Rattle.sm_base.proofs.NameLemmas.{text_front}
use Rattle.vg_meta.specs.Text.{flags_of, extents_by}
use Rattle.vg_meta.proofs.WriteLaws.{length-volume_by, volume_written}
use Rattle.vg_meta.proofs.encoding.put_entry.Goals as goal

pub put_bytes-name_at-requires : goal.put_bytes-name_at-requires
put_bytes-name_at-requires c = omega (arith, length-volume_by c.args.grammar c.args.entry.now, c.requires.room)

pub put_bytes-flags_at-requires : goal.put_bytes-flags_at-requires
put_bytes-flags_at-requires c =
    let name : take c.spell-size.result c.spell-size.new.to ≡ spelling c.args.entry.now.name =
    text_front (spelling c.name.result) _ c.spell-size.new.to c.spell-size.result c.spell-size.ensures.text c.spell-size.ensures.length ∙ ap spelling c.name.ensures in
    omega (arith, c.put_bytes-name_at.ensures.behind, ap length name, length-volume_by c.args.grammar c.args.entry.now, c.requires.room)

pub put_bytes-extents_at-requires : goal.put_bytes-extents_at-requires
put_bytes-extents_at-requires c =
    let name : take c.spell-size.result c.spell-size.new.to ≡ spelling c.args.entry.now.name =
    text_front (spelling c.name.result) _ c.spell-size.new.to c.spell-size.result c.spell-size.ensures.text c.spell-size.ensures.length ∙ ap spelling c.name.ensures in
    omega (arith, c.put_bytes-name_at.ensures.behind, c.put_bytes-flags_at.ensures.behind, ap length name, length-volume_by c.args.grammar c.args.entry.now, c.requires.room)

pub put_extents-requires-clause-room : goal.put_extents-requires-clause-room
put_extents-requires-clause-room c =
    let name : take c.spell-size.result c.spell-size.new.to ≡ spelling c.args.entry.now.name =
    text_front (spelling c.name.result) _ c.spell-size.new.to c.spell-size.result c.spell-size.ensures.text c.spell-size.ensures.length ∙ ap spelling c.name.ensures in
    omega (
      arith,
      c.put_bytes-name_at.ensures.behind,
      c.put_bytes-flags_at.ensures.behind,
      c.put_bytes-extents_at.ensures.behind,
      ap length name,
      ap (λ (es : List ℕ). length (extents_by c.args.grammar es)) c.extents.ensures,
      length-volume_by c.args.grammar c.args.entry.now,
      c.requires.room,
    )

pub returns : goal.returns
returns c =
    let r = c.args.entry.now in
    let name : take c.spell-size.result c.spell-size.new.to ≡ spelling r.name =
    text_front (spelling c.name.result) _ c.spell-size.new.to c.spell-size.result c.spell-size.ensures.text c.spell-size.ensures.length ∙ ap spelling c.name.ensures in
    let size : c.spell-size.result ≡ length (spelling r.name) = c.spell-size.ensures.length ∙ ap (λ n. length (spelling n)) c.name.ensures in
    let flag : c.flags-marks.result ≡ flags_of r.hidden r.fresh = c.flags-marks.ensures ∙ ap₂ flags_of c.is_hidden.ensures c.is_fresh.ensures in
    volume_written c.args.grammar r c.args.at _ _ _ _ c.args.to.now _ _ _ _ _ _ _ _ (omega (arith, c.requires.room))
    (ap (λ (k : ℕ). k ∷ []) size) name (ap (λ (k : ℕ). k ∷ []) flag) (ap (extents_by c.args.grammar) c.extents.ensures)
    c.put_bytes-name_at.ensures c.put_bytes-flags_at.ensures c.put_bytes-extents_at.ensures c.put_extents.ensures
