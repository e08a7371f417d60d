-- What is known where no cause from before the first read refuses an import, and the repository that its file goes into.
use Rattle.std.proofs.Common.{◌≡◌, ℕ, ◌+◌, Bool, true, false, nat_lt, List, ◌∷◌, length, Option, None, refl, sym, ap, ◌∙◌, subst}
use Rattle.std.proofs.lemmas.Bool.{ltb-false, or_parts}
use Rattle.std.proofs.lemmas.List.{length-map}
use Rattle.common_laws.specs.Lists.{first_some, given}
use Rattle.uuid.specs.Parts.{is_nil_bytes}
use Rattle.sm_base.specs.Names.{is_base}
use Rattle.vg_meta.specs.Tables.{VolumeTable, free as free_of}
use Rattle.vg_volumes.specs.Sites.{Site}
use Rattle.sm_machine.specs.Refusals.{images_needed, is_reserved, is_taken, is_too_many, new_uuid}
use Rattle.sm_machine.specs.Shapes.{image_limit}
use Rattle.sm_ready.specs.Known.{Known, machine_row, shape_in}
use Rattle.sm_ready.specs.Orderly.{IsOrderly}
use Rattle.sm_ready.specs.Ready.{IsTidy}
use Rattle.sm_ready.proofs.CauseLaws.{taken_is}
use Rattle.sm_ready.proofs.SumLaws.{free_counted}
use Rattle.sm_refusals.specs.Importing.{AnswersEntry, as_create, entry_refusal}
use Rattle.sm_base.specs.declared.refusals.Refusal.{Refusal}
use Rattle.sm_importing.specs.Disks.{target_of}
use Rattle.sm_importing.specs.Imports.{MayImport}
use Rattle.cmd_import.specs.Importing.{target_in}

pub first_none : {A : Type 0} (b : Bool) (x : A) (rest : List (Option A)) → first_some (given b x ∷ rest) ≡ None → (b ≡ false) × (first_some rest ≡ None)
first_none true x rest e = cc
first_none false x rest e = (refl, e)

module _ (s : Site) (t : VolumeTable) (m : Known) (o : IsOrderly s t m) (tidy : IsTidy t m) where
  -- no cause refuses it, so a new disk may have the UUID
  pub may_import : (u : List ℕ) → entry_refusal (shape_in s t m) u ≡ None → MayImport m u
  unfolding entry_refusal is_reserved is_too_many shape_in new_uuid images_needed
  may_import u none =
      let c = as_create u in
      let one = first_none (is_reserved c) _ _ none in
      let two = first_none (is_taken (shape_in s t m) c) _ _ one.1 in
      let three = first_none (is_too_many (shape_in s t m) c) _ _ two.1 in
      let names = or_parts (is_nil_bytes u) (is_base u) one.0 in
      record {
        not_nil = names.0;
        not_base = names.1;
        absent = sym (taken_is s t m c u o refl) ∙ two.0;
        few = ltb-false image_limit (length m.rows + 1) (ap (λ n. nat_lt image_limit (n + 1)) (sym (length-map m.rows machine_row)) ∙ three.0);
      }

  -- its sizes, and as many extents as no volume has
  pub target_is : target_of s.geometry (length (free_of s.count t)) ≡ target_in (shape_in s t m)
  unfolding shape_in
  target_is = ap (λ n. target_of s.geometry n) (sym (free_counted s t m tidy.none_new o))

  -- nothing refuses it at once, by what was asked of the table
  pub entry_none : (t' : VolumeTable) (u : List ℕ) (answer : Option Refusal) → t' ≡ t → AnswersEntry t' m u answer → answer ≡ None → entry_refusal (shape_in s t m) u ≡ None
  entry_none t' u answer same says is = sym (subst (λ x. AnswersEntry x m u answer) same says s o tidy) ∙ is
