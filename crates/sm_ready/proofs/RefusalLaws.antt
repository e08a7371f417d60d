-- What is known of a command that makes a disk where no cause refuses it: by the table and by what is in memory.
use Rattle.std.proofs.Common.{◌≡◌, ℕ, ◌+◌, ◌-◌, ◌^◌, ◌<◌, ◌≤◌, false, ◌||◌, nat_lt, List, length, Some, None, sym, ap, ◌∙◌, subst}
use Rattle.std.proofs.Math.Logic.{∥∥₁_elim}
use Rattle.std.proofs.Props.{props}
use Rattle.std.proofs.lemmas.Bool.{ltb-false, leb-false, or_parts}
use Rattle.std.proofs.lemmas.List.{length-map}
use Rattle.uuid.specs.Parts.{is_nil_bytes}
use Rattle.sm_base.specs.Names.{is_base}
use Rattle.vg_meta.specs.Tables.{VolumeTable, free as free_of}
use Rattle.vg_volumes.specs.Sites.{Site}
use Rattle.sm_machine.specs.Shapes.{image_limit}
use Rattle.sm_machine.specs.declared.commands.Command.{Command}
use Rattle.sm_machine.specs.Refusals.{refusal, of_some, is_reserved, is_too_many, is_spent, lacks_space, need, images_needed, new_uuid}
use Rattle.sm_machine.proofs.Passed.{passed}
use Rattle.sm_ready.specs.Known.{Known, has_image, machine_row, shape_in}
use Rattle.sm_ready.specs.Orderly.{IsOrderly}
use Rattle.sm_ready.specs.Ready.{IsTidy}
use Rattle.sm_ready.proofs.CauseLaws.{taken_is}
use Rattle.sm_ready.proofs.SumLaws.{free_counted}

-- there are no more images than a repository may have
pub few_rows : (s : Site) (t : VolumeTable) (m : Known) → IsOrderly s t m → length m.rows ≤ image_limit
unfolding shape_in
few_rows s t m o = ∥∥₁_elim o.well_formed (hlevel props) (λ w. subst (λ n. n ≤ image_limit) (length-map m.rows machine_row) w.few)

-- the new UUID of a command is that of no image, and the number, the images and the extents that it needs are there
pub record IsNewUuid (s : Site) (t : VolumeTable) (m : Known) (c : Command) (u : List ℕ) : Type 0 where
  pub not_nil : is_nil_bytes u ≡ false
  pub not_base : is_base u ≡ false
  pub absent : has_image m.rows u ≡ false
  pub few : length m.rows + images_needed c ≤ image_limit
  pub unspent : t.sequence < 2 ^ 48 - 16
  pub enough : need (shape_in s t m) c ≤ length (free_of s.count t)

-- of create, snapshot and clone
pub new_passed : (s : Site) (t : VolumeTable) (m : Known) (c : Command) (u : List ℕ) → IsOrderly s t m → IsTidy t m → new_uuid c ≡ Some u → refusal (shape_in s t m) c ≡ None → IsNewUuid s t m c u
unfolding is_reserved is_too_many is_spent lacks_space shape_in
new_passed s t m c u o tidy is none =
    let p = passed (shape_in s t m) c none in
    let names = or_parts (is_nil_bytes u) (is_base u) (sym (ap (of_some (λ v. is_nil_bytes v || is_base v)) is) ∙ p.reserved) in
    record {
      not_nil = names.0;
      not_base = names.1;
      absent = sym (taken_is s t m c u o is) ∙ p.taken;
      few = ltb-false image_limit (length m.rows + images_needed c) (ap (λ n. nat_lt image_limit (n + images_needed c)) (sym (length-map m.rows machine_row)) ∙ (rw is at p.too_many));
      unspent = leb-false (2 ^ 48 - 16) t.sequence (rw is at p.spent);
      enough = ltb-false (length (free_of s.count t)) (need (shape_in s t m) c) (ap (λ n. nat_lt n (need (shape_in s t m) c)) (sym (free_counted s t m tidy.none_new o)) ∙ p.space);
    }
