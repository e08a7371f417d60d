-- Volumes whose names speak of none of some UUIDs, in tables that are written out.
use Rattle.std.proofs.Common.{◌≡◌, inl, inr, ℕ, Bool, true, false, cond, List, [], ◌∷◌, Option, Some, None, refl, sym, ap, ◌∙◌}
use Rattle.std.specs.List.{filter}
use Rattle.sm_base.specs.declared.names.Name.{Name}
use Rattle.sm_base.specs.declared.names.Name.TheVariants.{Mgt}
use Rattle.common_laws.specs.Lists.{In}
use Rattle.vg_meta.specs.Tables.{Row, row_of, name_eq}
use Rattle.vg_meta.proofs.NameLaws.{name_eq-true}
use Rattle.sm_standing.specs.Contents.{Content}
use Rattle.examples_standing.specs.SmallContents.{record_row}
use Rattle.sm_standing.specs.Images.{Image, image_of}
use Rattle.sm_standing.proofs.DisksShown.{row_of-In}
use Rattle.sm_standing.proofs.ImageLaws.{image_there}
use Rattle.sm_standing.specs.Apart.{is_apart, IsSameApart}

-- the volumes whose names speak of none of these UUIDs
abbrev pub apart_rows : List (List ℕ) → List Row → List Row
apart_rows us rs = filter (λ r. is_apart us r.name) rs

row-step : (us : List (List ℕ)) (r : Row) (n : Name) (found rest : Option Row) (kept : List Row) (b e : Bool) → is_apart us r.name ≡ b → name_eq r.name n ≡ e → is_apart us n ≡ true
    → found ≡ row_of kept n → cond e (Some r) found ≡ row_of (cond b (r ∷ kept) kept) n
unfolding row_of
row-step us r n found rest kept true e is_b is_e apart same =
    ap (λ o. cond e (Some r) o) same ∙ ap (λ b. cond b (Some r) (row_of kept n)) (sym is_e)
row-step us r n found rest kept false true is_b is_e apart same =
    let at = name_eq-true r.name n is_e in
    let x : true ≡ false = sym apart ∙ ap (is_apart us) (sym at) ∙ is_b in absurd (let y = x in cc)
row-step us r n found rest kept false false is_b is_e apart same = same

pub row_apart : (us : List (List ℕ)) (rs : List Row) (n : Name) → is_apart us n ≡ true → row_of rs n ≡ row_of (apart_rows us rs) n
unfolding row_of
row_apart us [] n apart = refl
row_apart us (r ∷ rs) n apart =
    row-step us r n (row_of rs n) None (apart_rows us rs) (is_apart us r.name) (name_eq r.name n) refl refl apart (row_apart us rs n apart)

-- where the volume of records is the only one, no other holds an image
lone_row : (extents : List ℕ) (n : Name) (r : Row) → row_of (record_row extents ∷ []) n ≡ Some r → n ≡ Mgt
lone_row extents n r there = by (row_of-In (record_row extents ∷ []) n r there)
  where
    by : In r (record_row extents ∷ []) × (name_eq r.name n ≡ true) → n ≡ Mgt
    by (inl is, named) = sym (name_eq-true r.name n named) ∙ ap (λ (s : Row). s.name) is
    by (inr none, named) = elim none [ ]

records_image : (c : Content) → image_of c Mgt ≡ None
unfolding image_of
records_image c = refl

pub no_image_apart : (c : Content) (us : List (List ℕ)) (extents : List ℕ) (n : Name) → apart_rows us c.table.volumes ≡ record_row extents ∷ [] → is_apart us n ≡ true
    → image_of c n ≡ None
no_image_apart c us extents n lone apart = by (image_of c n) refl
  where
    by : (o : Option Image) → image_of c n ≡ o → image_of c n ≡ None
    by None is = is
    by (Some i) is =
        let w = image_there c n i is in
        let at = lone_row extents n w.0 (sym (row_apart us c.table.volumes n apart ∙ ap (λ rs. row_of rs n) lone) ∙ w.1) in
        ap (image_of c) at ∙ records_image c

pub same_apart : (a b : Content) (us : List (List ℕ)) (extents : List ℕ) → apart_rows us a.table.volumes ≡ record_row extents ∷ []
    → apart_rows us b.table.volumes ≡ record_row extents ∷ [] → IsSameApart a b us
same_apart a b us extents lone_a lone_b = record {
  rows = λ n apart. row_apart us b.table.volumes n apart
      ∙ ap (λ rs. row_of rs n) lone_b
      ∙ sym (row_apart us a.table.volumes n apart ∙ ap (λ rs. row_of rs n) lone_a);
  images = λ n apart. no_image_apart b us extents n lone_b apart ∙ sym (no_image_apart a us extents n lone_a apart);
}
