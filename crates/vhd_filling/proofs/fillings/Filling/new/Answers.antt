use Rattle.std.proofs.Common.{None, length, sym, ap, ◌∙◌}
use Rattle.std.proofs.lemmas.List.{length-replicate}
use Rattle.std.proofs.lemmas.Option.{none-some}
use Rattle.vhd_map.specs.Slots.{top_of, used_count}
use Rattle.vhd_map.proofs.SlotLemmas.{top_of-replicate, used_count-replicate}
use Rattle.vhd_image.proofs.TableLaws.{IsMap-blank, slot_of-blank_map}
use Rattle.vhd_filling.proofs.fillings.Filling.new.Goals as goal

pub returns-clause-sound : goal.returns-clause-sound
returns-clause-sound c =
    let blank = c.in_ok-map.ensures.blank in
    let n = c.args.geometry.entries in
    record {
      long = c.in_ok-page.ensures.long;
      entries = ap length blank ∙ length-replicate n None;
      good = IsMap-blank n c.in_ok-map.map blank;
      in_row = ap top_of blank ∙ (top_of-replicate n ∙ (sym (used_count-replicate n) ∙ sym (ap used_count blank)));
      there = λ b at none. none-some b at;
    }

pub returns-clause-slots : goal.returns-clause-slots
returns-clause-slots c = ap used_count c.in_ok-map.ensures.blank ∙ used_count-replicate c.args.geometry.entries

pub returns-clause-blocks : goal.returns-clause-blocks
returns-clause-blocks c = λ count b k has. absurd (none-some k (sym (slot_of-blank_map c.args.geometry.entries b c.in_ok-map.map c.in_ok-map.ensures.blank) ∙ has))
