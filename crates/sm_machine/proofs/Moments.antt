-- One image whose volume gets other extents, or that gets a greater size, keeps a shape well-formed.
use Rattle.std.proofs.Common.{◌≡◌, ℕ, ◌+◌, ◌-◌, ◌≤◌, Bool, true, false, map, Some, refl, sym, ap, ◌∙◌, subst, arith}
use Rattle.std.proofs.lemmas.Bool.{true≢false}
use Rattle.common_laws.specs.Lists.{In, when}
use Rattle.common_laws.proofs.Lists.{Distinct-key}
use Rattle.sm_machine.specs.Laws.{MayHave, MayGrow, with_extents, with_size}
use Rattle.sm_machine.specs.Shapes.{Shape, ImageRow, free, image_extents, image_uuid, is_image, thick_in}
use Rattle.sm_machine.specs.WellFormed.{IsImageRow, IsOperation, IsWellFormed}
use Rattle.sm_machine.proofs.Changes.{when-key}
use Rattle.sm_machine.proofs.ImageNames.{same_image-sound, same_image-refl}
use Rattle.sm_machine.proofs.Mapped.{keeps_mapped, attachments_mapped, extents-change_one, extents-map_same}

-- what holds of the changed image, and of each other one as it is, holds of each
module _ (s : Shape) (w : IsWellFormed s) (i : ImageRow) (there : In i s.images) (f : ImageRow → ImageRow) where
  itself : is_image i.name i ≡ true
  itself = same_image-refl i.name (w.images i there).named

  only : (y : ImageRow) → In y s.images → is_image i.name y ≡ true → y ≡ i
  only y h is = Distinct-key (λ (x : ImageRow). image_uuid x.name) s.images y i w.one_image h there (ap image_uuid (same_image-sound y.name i.name is))

  abbrev pub changed : ImageRow → ImageRow
  changed y = when (is_image i.name y) f y

  by_image : (P : ImageRow → ImageRow → Type 0) → P i (f i) → ((y : ImageRow) → In y s.images → P y y) → (y : ImageRow) → In y s.images → P y (changed y)
  by_image P here rest y h = by (is_image i.name y) refl
    where
      by : (b : Bool) → is_image i.name y ≡ b → P y (when b f y)
      by true is = subst (λ x. P x (f x)) (sym (only y h is)) here
      by false is = rest y h

  key : {B : Type 0} (k : ImageRow → B) → ((y : ImageRow) → k (f y) ≡ k y) → (y : ImageRow) → k (changed y) ≡ k y
  key k same y = when-key k f same (is_image i.name y) y

-- ---- other extents

module _ (s : Shape) (i : ImageRow) (extents : ℕ) (w : IsWellFormed s) (m : MayHave s i extents) where
  abbrev sized : ImageRow → ImageRow
  sized y = record y { extents = extents }

  abbrev at : ImageRow → ImageRow
  at = changed s w i m.there sized

  room : s.others + image_extents (map at s.images) ≤ s.extents
  unfolding free
  room =
      let sum = extents-change_one (is_image i.name) sized s.images i w.one_image m.there (itself s w i m.there sized) (only s w i m.there sized) in
      let most : extents ≤ i.extents + (s.extents - (s.others + image_extents s.images)) = m.room in
      let was = w.room in
      omega arith

  good : IsImageRow s (sized i)
  good = let g = w.images i m.there in record {
    named = g.named;
    whole = g.whole;
    volume = m.some;
    table = g.table;
    raw = λ not_vhd. absurd (true≢false (sym m.vhd ∙ not_vhd));
  }

  pub extents_keep : IsOperation (with_extents extents i s) s.op → IsWellFormed (with_extents extents i s)
  extents_keep operation =
      let sizes = key s w i m.there sized (λ y. y.size) (λ y. refl) in
      let name = key s w i m.there sized (λ y. y.name) (λ y. refl) in
      let hidden = key s w i m.there sized (λ y. y.hidden) (λ y. refl) in
      let parent = key s w i m.there sized (λ y. y.parent) (λ y. refl) in
      keeps_mapped s w at name hidden parent s.attached s.op room
      (by_image s w i m.there sized (λ y z. IsImageRow s z) good w.images)
      (λ y q h k hid e le. subst (λ n. n ≤ (at y).size) (sym (sizes q)) (subst (λ n. q.size ≤ n) (sym (sizes y)) le))
      (attachments_mapped s w at name hidden parent s.attached s.op refl
      (λ a y h rw k hid uuid vhd thick. by_image s w i m.there sized (λ x z. x.hidden ≡ false → image_uuid x.name ≡ a.disk → thick_in s x.size ≤ x.extents → thick_in s z.size ≤ z.extents)
      (λ shown own _. m.thick a h rw shown own) (λ x j _ _ same. same) y k hid uuid thick))
      operation

-- ---- a greater size

module _ (s : Shape) (i : ImageRow) (size : ℕ) (w : IsWellFormed s) (m : MayGrow s i size) where
  abbrev grown : ImageRow → ImageRow
  grown y = record y { size = size }

  abbrev grows : ImageRow → ImageRow
  grows = changed s w i m.there grown

  good_grown : IsImageRow s (grown i)
  good_grown = let g = w.images i m.there in record {
    named = g.named;
    whole = m.whole;
    volume = g.volume;
    table = g.table;
    raw = λ not_vhd. absurd (true≢false (sym m.vhd ∙ not_vhd));
  }

  not_smaller : (y : ImageRow) → In y s.images → y.size ≤ (grows y).size
  not_smaller = by_image s w i m.there grown (λ y z. y.size ≤ z.size) m.more (λ y h. omega arith)

  parent_fits : (y q : ImageRow) → In y s.images → In q s.images → y.parent ≡ Some q.name → q.size ≤ y.size → (grows q).size ≤ (grows y).size
  parent_fits y q h k linked le =
      let at_most = by_image s w i m.there grown (λ x z. y.parent ≡ Some x.name → x.size ≤ y.size → z.size ≤ y.size) (λ own _. m.children y h own) (λ x j _ same. same) q k linked le in
      let more = not_smaller y h in
      omega arith

  pub size_keep : IsOperation (with_size size i s) s.op → IsWellFormed (with_size size i s)
  size_keep operation =
      let extents = key s w i m.there grown (λ y. y.extents) (λ y. refl) in
      let name = key s w i m.there grown (λ y. y.name) (λ y. refl) in
      let hidden = key s w i m.there grown (λ y. y.hidden) (λ y. refl) in
      let parent = key s w i m.there grown (λ y. y.parent) (λ y. refl) in
      keeps_mapped s w grows name hidden parent s.attached s.op (subst (λ n. s.others + n ≤ s.extents) (sym (extents-map_same grows extents s.images)) w.room)
      (by_image s w i m.there grown (λ y z. IsImageRow s z) good_grown w.images)
      (λ y q h k hid linked le. parent_fits y q h k linked le)
      (attachments_mapped s w grows name hidden parent s.attached s.op refl
      (λ a y h rw k hid uuid vhd thick. by_image s w i m.there grown (λ x z. x.hidden ≡ false → image_uuid x.name ≡ a.disk → thick_in s x.size ≤ x.extents → thick_in s z.size ≤ z.extents)
      (λ shown own _. m.thick a h rw shown own) (λ x j _ _ same. same) y k hid uuid thick))
      operation
