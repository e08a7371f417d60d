use Rattle.std.proofs.Common.{◌≡◌, Some, drop, take, sym, ap, subst, ◌∙◌, arith}
use Rattle.std.proofs.lemmas.List.{take-take}
use Rattle.vhd_fields.specs.declared.headers.Header.{Header}
use Rattle.vhd_fields.specs.Headers.{IsHeader}
use Rattle.vhd_fields.specs.ParentNames.{parent_bytes}
use Rattle.vhd_image.specs.Bodies.{sector_count, volume_name}
use Rattle.vhd_image.proofs.MakingLaws.{header-proper}
use Rattle.vhd_image.proofs.LinkLaws.{spelled, one-parent}
use Rattle.vhd_image.proofs.linking.name_front.Goals as goal

pub returns : goal.returns
returns c =
    let geometry = c.args.geometry.now in
    let parent = c.args.parent.now in
    let may = one-parent parent c.requires in
    let proper = subst (λ (h : Header). IsHeader h) (sym c.new_header-header.ensures) (header-proper geometry (sector_count parent) (Some parent) geometry.in_range may) in
    let name = (spelled c.write.new.to c.new_header-header.result (c.write.ensures.reads_back proper)).1 in
    let named : parent_bytes c.new_header-header.result.parent ≡ parent_bytes (Some (volume_name parent)) = ap (λ (h : Header). parent_bytes h.parent) c.new_header-header.ensures in
    c.copy_from_slice.ensures.after ∙ (sym (take-take 448 512 (drop 64 c.write.new.to) (omega arith)) ∙ ap (take 448) (name ∙ named))
