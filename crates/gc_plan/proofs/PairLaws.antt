-- Images and their parents, as the machine pairs them, by the rows in memory.
use Rattle.std.proofs.Common.{◌≡◌, ℕ, ◌*◌, ◌≤◌, ◌==◌, ◌&&◌, ◌||◌, not, max, Bool, true, false, List, [], ◌∷◌, length, Option, Some, None, refl, sym, ap, ◌∙◌, arith}
use Rattle.std.proofs.Math.Logic.{∥∥₁_elim}
use Rattle.std.proofs.Props.{props}
use Rattle.std.specs.Prelude.{is_some}
use Rattle.std.specs.Option.{option_map}
use Rattle.std.proofs.lemmas.Bool.{true≢false}
use Rattle.std.proofs.lemmas.Option.{none-some}
use Rattle.sm_base.specs.declared.names.Name.{Name}
use Rattle.sm_base.specs.declared.names.Name.TheVariants.{Vhd}
use Rattle.vg_meta.specs.Tables.{VolumeTable}
use Rattle.vg_volumes.specs.Sites.{Site}
use Rattle.common_laws.specs.Lists.{In, given, ◌>>=◌}
use Rattle.common_laws.proofs.Lists.{In-map_at}
use Rattle.vhd_image.specs.Bodies.{IsVhd, StandsIn, parent_name}
use Rattle.vhd_image.specs.declared.images.Body.{Body}
use Rattle.vhd_image.specs.declared.images.Body.TheVariants as body
use Rattle.vhd_chain.specs.Reading.{slots_of}
use Rattle.vhd_chain.specs.Trees.{row_name, tree_row}
use Rattle.vhd_chain.specs.declared.rows.TreeRow.{TreeRow}
use Rattle.sm_machine.specs.Collector.{Pair, count_either, has_one_child, is_childless, is_written, leaf_of, live_of, needed, pair_of, target, with_parent}
use Rattle.sm_machine.specs.Shapes.{ImageRow, Shape, attached_as, count_blocks, find_image, image_uuid, is_vhd, thick_in, thin_in, top}
use Rattle.sm_machine.specs.WellFormed.{IsWellFormed, table_length}
use Rattle.sm_ready.specs.Known.{Known, machine_row, shape_in}
use Rattle.sm_ready.specs.Orderly.{IsOrderly}
use Rattle.gc_plan.specs.Planning.{IsPairIn}
use Rattle.gc_plan.specs.declared.pairs.Pair as code
use Rattle.gc_plan.proofs.ImageLaws.{image_found}

-- ---- an image and its parent

abbrev paired : Shape → ImageRow → ImageRow → Option Pair
paired σ v p = given (has_one_child σ p) (let q : Pair = record { child = v; parent = p } in q)

pub parent_is : (s : Site) (t : VolumeTable) (m : Known) (r : TreeRow) (n : Name) (x : Option TreeRow) → IsOrderly s t m → parent_name r.image ≡ Some n → tree_row m.rows n ≡ x
    → with_parent (shape_in s t m) (machine_row r) ≡ (option_map machine_row x >>= paired (shape_in s t m) (machine_row r))
parent_is s t m r n x o linked found =
    ap (λ (y : Option Name). y >>= (λ k. find_image k (shape_in s t m).images >>= paired (shape_in s t m) (machine_row r))) linked
    ∙ ap (λ (y : Option ImageRow). y >>= paired (shape_in s t m) (machine_row r)) (image_found s t m n o ∙ ap (option_map machine_row) found)

-- an image that has a parent is a VHD image
pub vhd_child : (b : Body) (n : Name) → parent_name b ≡ Some n → IsVhd b
vhd_child (body.Raw volume size) n is = absurd (none-some n is)
vhd_child (body.Vhd head m) n is = tt

-- ---- a pair

abbrev pub pair_test : Pair → Bool
pair_test p = is_vhd p.parent.name || (p.parent.size == p.child.size)

abbrev pub leaf_test : Pair → Bool
leaf_test p = is_vhd p.parent.name

-- the image and its parent, where they pass a test
abbrev tested : (Pair → Bool) → Shape → ImageRow → Option Pair
tested test σ v = with_parent σ v >>= (λ p. given (test p) p)

-- three tests in turn, the first two at once
in_turn : (a b : Bool) (test : ImageRow → Bool) (v : ImageRow) (f : ImageRow → Option Pair) → (given (a && b) v >>= (λ i. given (test i) i >>= f)) ≡ (given (a && (b && test v)) v >>= f)
in_turn true true test v f = refl
in_turn true false test v f = refl
in_turn false b test v f = refl

pub pair_by : (σ : Shape) (v : ImageRow) (b : Bool) → b ≡ (v.hidden && (is_vhd v.name && not (is_childless σ v))) → pair_of σ v ≡ (given b v >>= tested pair_test σ)
unfolding pair_of
pair_by σ v b is = in_turn v.hidden (is_vhd v.name) (λ i. not (is_childless σ i)) v (tested pair_test σ) ∙ ap (λ c. given c v >>= tested pair_test σ) (sym is)

pub leaf_by : (σ : Shape) (v : ImageRow) (b : Bool) → b ≡ (not v.hidden && (is_vhd v.name && not (is_some (attached_as (image_uuid v.name) σ)))) → leaf_of σ v ≡ (given b v >>= tested leaf_test σ)
unfolding leaf_of
leaf_by σ v b is = in_turn (not v.hidden) (is_vhd v.name) (λ i. not (is_some (attached_as (image_uuid i.name) σ))) v (tested leaf_test σ) ∙ ap (λ c. given c v >>= tested leaf_test σ) (sym is)

pub live_by : (σ : Shape) (v : ImageRow) (b : Bool) → b ≡ (not v.hidden && (is_vhd v.name && is_some (attached_as (image_uuid v.name) σ))) → live_of σ v ≡ (given b v >>= tested leaf_test σ)
unfolding live_of
live_by σ v b is = in_turn (not v.hidden) (is_vhd v.name) (λ i. is_some (attached_as (image_uuid i.name) σ)) v (tested leaf_test σ) ∙ ap (λ c. given c v >>= tested leaf_test σ) (sym is)

-- the answer, by what the image and its parent pass
module _ (σ : Shape) (v : ImageRow) (b : Bool) (test : Pair → Bool) (whole : Option Pair) (is : whole ≡ (given b v >>= tested test σ)) where
  pub skipped : b ≡ false → None ≡ whole
  skipped e = sym (is ∙ ap (λ c. given c v >>= tested test σ) e)

  pub unlinked : b ≡ true → None ≡ with_parent σ v → None ≡ whole
  unlinked e none = ap (λ x. x >>= (λ p. given (test p) p)) none ∙ sym (is ∙ ap (λ c. given c v >>= tested test σ) e)

  pub linked : b ≡ true → (p : Pair) → Some p ≡ with_parent σ v → (d : Bool) → d ≡ test p → given d p ≡ whole
  linked e p some d at = ap (λ c. given c p) at ∙ ap (λ x. x >>= (λ p. given (test p) p)) some ∙ sym (is ∙ ap (λ c. given c v >>= tested test σ) e)

-- ---- the blocks of both

pub no_blocks : (xs ys : List (Option ℕ)) → length xs ≡ length ys → length xs ≡ 0 → 0 ≡ count_either xs ys
unfolding count_either count_blocks
no_blocks [] [] same none = refl
no_blocks [] (y ∷ ys) same none = absurd (omega (arith, same))
no_blocks (x ∷ xs) ys same none = absurd (omega (arith, none))

pub either_few : (xs ys : List (Option ℕ)) → length xs ≡ length ys → count_either xs ys ≤ length xs
unfolding count_either count_blocks
either_few [] [] same = omega arith
either_few [] (y ∷ ys) same = absurd (omega (arith, same))
either_few (x ∷ xs) [] same = absurd (omega (arith, same))
either_few (None ∷ xs) (None ∷ ys) same = let rest = either_few xs ys (omega (arith, same)) in omega (arith, rest)
either_few (None ∷ xs) (Some k ∷ ys) same = let rest = either_few xs ys (omega (arith, same)) in omega (arith, rest)
either_few (Some k ∷ xs) (y ∷ ys) same = let rest = either_few xs ys (omega (arith, same)) in omega (arith, rest)

-- the tables of two VHD images are equally long
module _ (s : Site) (t : VolumeTable) (m : Known) (o : IsOrderly s t m) where
  child_long : (r : TreeRow) → In r m.rows → IsVhd r.image → length (slots_of r.image) ≡ s.geometry.entries
  child_long r i vhd = by r.image vhd (o.stands r i)
    where
      by : (b : Body) → IsVhd b → StandsIn s.geometry (r.extents * s.geometry.extent) b → length (slots_of b) ≡ s.geometry.entries
      by (body.Raw volume size) vhd stands = absurd vhd
      by (body.Vhd head slots) vhd stands = stands.entries

  parent_long : (r : TreeRow) → IsWellFormed (shape_in s t m) → In r m.rows → is_vhd (row_name r) ≡ true → length (slots_of r.image) ≡ s.geometry.entries
  unfolding shape_in table_length is_vhd
  parent_long r w i vhd = by (row_name r) vhd ((w.images (machine_row r) (In-map_at machine_row m.rows r i)).table)
    where
      by : (n : Name) → is_vhd n ≡ true → length (slots_of r.image) ≡ table_length (shape_in s t m) n → length (slots_of r.image) ≡ s.geometry.entries
      by (Vhd u) e is = is
      by _ e is = absurd (true≢false (sym e))

  pub same_tables : (p : code.Pair) → IsPairIn m.rows p → is_vhd (row_name p.parent.now) ≡ true → length (slots_of p.parent.now.image) ≡ length (slots_of p.child.now.image)
  same_tables p in_rows vhd =
      ∥∥₁_elim o.well_formed (hlevel props) (λ w. parent_long p.parent.now w in_rows.parent vhd) ∙ sym (child_long p.child.now in_rows.child in_rows.vhd)

-- ---- the room that a parent needs

pub needed_thick : (σ : Shape) (p : Pair) → is_written σ p.child ≡ true → thick_in σ p.child.size ≡ needed σ p
needed_thick σ p is =
    sym (ap (λ b. elim b as (λ _. ℕ) [ true ↦ thick_in σ p.child.size | false ↦ thin_in σ (max (top p.parent.slots) (count_either p.parent.slots p.child.slots)) ]) is)

pub needed_thin : (σ : Shape) (p : Pair) → is_written σ p.child ≡ false → thin_in σ (max (top p.parent.slots) (count_either p.parent.slots p.child.slots)) ≡ needed σ p
needed_thin σ p is =
    sym (ap (λ b. elim b as (λ _. ℕ) [ true ↦ thick_in σ p.child.size | false ↦ thin_in σ (max (top p.parent.slots) (count_either p.parent.slots p.child.slots)) ]) is)

pub target_vhd : (σ : Shape) (p : Pair) → is_vhd p.parent.name ≡ true → target σ p ≡ max p.parent.extents (needed σ p)
unfolding target
target_vhd σ p is = ap (λ b. elim b as (λ _. ℕ) [ true ↦ max p.parent.extents (needed σ p) | false ↦ p.parent.extents ]) is

pub target_raw : (σ : Shape) (p : Pair) → is_vhd p.parent.name ≡ false → target σ p ≡ p.parent.extents
unfolding target
target_raw σ p is = ap (λ b. elim b as (λ _. ℕ) [ true ↦ max p.parent.extents (needed σ p) | false ↦ p.parent.extents ]) is
