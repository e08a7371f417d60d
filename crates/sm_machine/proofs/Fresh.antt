-- A UUID that no disk and no hidden image has.
use Rattle.std.proofs.Common.{◌≡◌, ℕ, Bool, true, false, ◌&&◌, ◌||◌, List, Option, Some, None, refl, sym, ◌∙◌, subst}
use Rattle.std.specs.Prelude.{is_some}
use Rattle.std.specs.List.{list_any, find}
use Rattle.std.specs.Str.{bytes_eq}
use Rattle.std.proofs.lemmas.Bool.{or_parts}
use Rattle.common_laws.proofs.Bytes.{bytes_eq-refl}
use Rattle.common_laws.specs.Lists.{In}
use Rattle.sm_machine.specs.Shapes.{Shape, ImageRow, DiskRecord, image_uuid, disk_record}
use Rattle.sm_machine.specs.WellFormed.{IsWellFormed, HasRecord}
use Rattle.common_laws.proofs.Lists.{find-none}
use Rattle.sm_machine.proofs.Numbers.{list_any-none}

module _ (s : Shape) (w : IsWellFormed s) (u : List ℕ) (not_taken : is_some (disk_record u s) || list_any (λ (i : ImageRow). i.hidden && bytes_eq (image_uuid i.name) u) s.images ≡ false) where
  pub no_record : (r : DiskRecord) → In r s.records → r.uuid ≡ u → ⊥
  no_record r h e =
      let n : find (λ (q : DiskRecord). bytes_eq q.uuid u) s.records ≡ None = none_of (disk_record u s) ((or_parts (is_some (disk_record u s)) _ not_taken).0) in
      let f : bytes_eq r.uuid u ≡ false = find-none (λ (q : DiskRecord). bytes_eq q.uuid u) s.records r n h in
      let t : bytes_eq r.uuid u ≡ true = subst (λ (v : List ℕ). bytes_eq v u ≡ true) (sym e) (bytes_eq-refl u) in
      cc
    where
      none_of : (o : Option DiskRecord) → is_some o ≡ false → o ≡ None
      none_of None e = refl
      none_of (Some r) e = cc

  shown_case : (i : ImageRow) (hidden : Bool) → i.hidden ≡ hidden → In i s.images → image_uuid i.name ≡ u → ⊥
  shown_case i true g h e =
      let f : i.hidden && bytes_eq (image_uuid i.name) u ≡ false = list_any-none (λ (j : ImageRow). j.hidden && bytes_eq (image_uuid j.name) u) s.images i ((or_parts (is_some (disk_record u s)) _ not_taken).1) h in
      let t : bytes_eq (image_uuid i.name) u ≡ true = subst (λ (v : List ℕ). bytes_eq v u ≡ true) (sym e) (bytes_eq-refl u) in
      let k : true ≡ false = subst (λ (b : Bool). true && b ≡ false) t (subst (λ (b : Bool). b && bytes_eq (image_uuid i.name) u ≡ false) g f) in
      cc
  shown_case i false g h e = let r : HasRecord s (image_uuid i.name) = w.visible i h g in no_record r.0 r.1 (r.2 ∙ e)

  pub no_image : (i : ImageRow) → In i s.images → image_uuid i.name ≡ u → ⊥
  no_image i h e = shown_case i i.hidden refl h e
