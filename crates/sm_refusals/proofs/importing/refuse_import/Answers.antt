use Rattle.std.proofs.Common.{◌+◌, ◌^◌, ◌-◌, List, length, Some, refl, sym, ap, ◌∙◌, arith}
use Rattle.std.proofs.lemmas.Bool.{le-leb, le-ltb, lt-leb, lt-ltb}
use Rattle.std.proofs.lemmas.List.{length-map}
use Rattle.sm_base.specs.declared.refusals.Refusal.TheVariants.{TooMany}
use Rattle.sm_machine.specs.Refusals.{images_needed, is_reserved, is_spent, is_too_many, new_uuid}
use Rattle.sm_ready.specs.Known.{known, machine_row, shape_in}
use Rattle.sm_ready.proofs.CauseLaws.{taken_is}
use Rattle.sm_ready.proofs.RefusalLaws.{few_rows}
use Rattle.vg_meta.specs.Roomy.{table_alone}
use Rattle.vhd_chain.specs.declared.rows.TreeRow.{TreeRow}
use Rattle.sm_refusals.specs.Importing.{as_create, entry_refusal}
use Rattle.sm_refusals.proofs.TurnLaws.{caught, passed_by}
use Rattle.sm_refusals.proofs.importing.refuse_import.Goals as goal

pub returns-then-is_reserved_uuid : goal.returns-then-is_reserved_uuid
unfolding entry_refusal is_reserved new_uuid
returns-then-is_reserved_uuid c = record { exact = λ s o tidy. caught _ _ _ (sym c.is_reserved_uuid.ensures ∙ c.if-is_reserved_uuid.true) }

pub returns-then-has_image : goal.returns-then-has_image
unfolding entry_refusal is_reserved new_uuid
returns-then-has_image c = record {
  exact = λ s o tidy.
      let taken = taken_is s (table_alone c.args.table.now) (known c.args.memory.now) (as_create c.args.disk.now) c.args.disk.now o refl in
      passed_by _ _ _ _ (sym c.is_reserved_uuid.ensures ∙ c.if-is_reserved_uuid.false) (caught _ _ _ (taken ∙ sym c.has_image.ensures ∙ c.if-has_image.true));
}

pub returns-then-images-ge-IMAGE_LIMIT : goal.returns-then-images-ge-IMAGE_LIMIT
unfolding entry_refusal is_reserved is_too_many new_uuid images_needed shape_in
returns-then-images-ge-IMAGE_LIMIT c = record {
  exact = λ s o tidy.
      let m = known c.args.memory.now in
      let rows = ap (λ (rs : List TreeRow). length rs) c.rows-images.ensures.rows in
      let few = few_rows s (table_alone c.args.table.now) m o in
      let taken = taken_is s (table_alone c.args.table.now) m (as_create c.args.disk.now) c.args.disk.now o refl in
      let have = c.count_of.ensures (omega (arith, rows, few)) ∙ rows ∙ sym (length-map m.rows machine_row) in
      let full = lt-ltb 500 (length (shape_in s (table_alone c.args.table.now) m).images + 1) (omega (arith, rows, length-map m.rows machine_row, c.if-images-ge-IMAGE_LIMIT.true)) in
      ap (λ n. Some (TooMany n 1)) have
      ∙ passed_by _ _ _ _ (sym c.is_reserved_uuid.ensures ∙ c.if-is_reserved_uuid.false)
      (passed_by _ _ _ _ (taken ∙ sym c.has_image.ensures ∙ c.if-has_image.false) (caught _ _ _ full));
}

pub returns-then-seq-ge-SPENT_SEQUENCE : goal.returns-then-seq-ge-SPENT_SEQUENCE
unfolding entry_refusal is_reserved is_too_many is_spent new_uuid images_needed shape_in
returns-then-seq-ge-SPENT_SEQUENCE c = record {
  exact = λ s o tidy.
      let m = known c.args.memory.now in
      let rows = ap (λ (rs : List TreeRow). length rs) c.rows-images.ensures.rows in
      let taken = taken_is s (table_alone c.args.table.now) m (as_create c.args.disk.now) c.args.disk.now o refl in
      let few = le-ltb 500 (length (shape_in s (table_alone c.args.table.now) m).images + 1) (omega (arith, rows, length-map m.rows machine_row, c.if-images-ge-IMAGE_LIMIT.false)) in
      let spent = le-leb (2 ^ 48 - 16) (shape_in s (table_alone c.args.table.now) m).sequence (omega (arith, c.seq.ensures.seq, c.if-seq-ge-SPENT_SEQUENCE.true)) in
      passed_by _ _ _ _ (sym c.is_reserved_uuid.ensures ∙ c.if-is_reserved_uuid.false)
      (passed_by _ _ _ _ (taken ∙ sym c.has_image.ensures ∙ c.if-has_image.false)
      (passed_by _ _ _ _ few (caught _ _ _ spent)));
}

pub returns : goal.returns
unfolding entry_refusal is_reserved is_too_many is_spent new_uuid images_needed shape_in
returns c = record {
  exact = λ s o tidy.
      let m = known c.args.memory.now in
      let rows = ap (λ (rs : List TreeRow). length rs) c.rows-images.ensures.rows in
      let taken = taken_is s (table_alone c.args.table.now) m (as_create c.args.disk.now) c.args.disk.now o refl in
      let few = le-ltb 500 (length (shape_in s (table_alone c.args.table.now) m).images + 1) (omega (arith, rows, length-map m.rows machine_row, c.if-images-ge-IMAGE_LIMIT.false)) in
      let unspent = lt-leb (2 ^ 48 - 16) (shape_in s (table_alone c.args.table.now) m).sequence (omega (arith, c.seq.ensures.seq, c.if-seq-ge-SPENT_SEQUENCE.false)) in
      passed_by _ _ _ _ (sym c.is_reserved_uuid.ensures ∙ c.if-is_reserved_uuid.false)
      (passed_by _ _ _ _ (taken ∙ sym c.has_image.ensures ∙ c.if-has_image.false)
      (passed_by _ _ _ _ few (passed_by _ _ _ _ unspent refl)));
}
