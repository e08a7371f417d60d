-- The content without the entry of a copy or of a link, beside the one with it: the same images, records and disks; and it is sound
-- where that is, and that where the entry stands at its stage.
use Rattle.std.proofs.Common.{◌≡◌, ◌⊎◌, inl, inr, ℕ, ◌*◌, ◌≤◌, true, false, cond, not, ◌&&◌, ◌||◌, List, [], ◌∷◌, length, Option, Some, None, refl, sym, ap, ap₂, ◌∙◌, arith, nat_lt, subst}
use Rattle.std.specs.List.{filter, filter_map, find}
use Rattle.std.proofs.Math.Path.{fun_ext}
use Rattle.std.proofs.lemmas.Bool.{true≢false}
use Rattle.common_laws.specs.Lists.{In, numbers, ◌>>=◌}
use Rattle.sm_base.specs.Kinds.{is_image as is_data, is_entry}
use Rattle.sm_base.specs.declared.names.Name.{Name}
use Rattle.sm_base.specs.declared.names.Name.TheVariants.{Mgt, Vhd, Raw, Old, Cbt, Clone, Inflate, Coalesce, Relink, Leaf}
use Rattle.vg_meta.specs.Changes.{without}
use Rattle.vg_meta.specs.Tables.{VolumeTable, Row, extents_of, rows}
use Rattle.vg_volumes.specs.Volumes.{piece, span}
use Rattle.sm_record.specs.declared.records.Reading.TheVariants.{Free}
use Rattle.sm_record.specs.Records.{reading}
use Rattle.vhd_layout.specs.Contents.{raw_content}
use Rattle.vhd_layout.specs.Readings.{image_at}
use Rattle.sm_standing.specs.Checks.{PassesButLeaf, has_twin, is_damaged, is_entry_linked, is_image_wrong, is_invalid, is_lost, is_misnamed, is_tree_wrong, tree_wrong_as}
use Rattle.sm_standing.specs.Contents.{Content, record_count, is_record_of, reading_at, records, sectors_of, taken}
use Rattle.sm_standing.specs.Entries.{are_past, folding, is_at_stage, is_folding, second, uuids_in}
use Rattle.sm_standing.specs.Images.{Image, image_extents, image_of, raw_image, vhd_image}
use Rattle.sm_standing.specs.Keeping.{HasNoEmptySlot}
use Rattle.sm_standing.specs.Outlines.{Outline, outline, link_of}
use Rattle.sm_standing.specs.Plain.{is_known, is_known_name, is_simple_name}
use Rattle.sm_standing.specs.PlainSound.{KnownSound, SimpleSound}
use Rattle.sm_standing.specs.Standing.{disks}
use Rattle.sm_standing.proofs.ImageLaws.{disks_as}
use Rattle.sm_standing.proofs.NamedLaws.{all_past}
use Rattle.sm_standing.proofs.OutlineLaws.{made-of}
use Rattle.sm_standing.proofs.PlainKept.{all-of, known_sound, known_but_leaf, simple_known_name, but_leaf_sound}
use Rattle.sm_standing.proofs.UnfoldedChecks.{IsApartFork, and_false, images_same, invalid_bare, less, linked_as, lost_step, mgt_same, misnamed_step, none_folding, simple_at, stage_from, standing_bare, but_leaf_bare, tree_bare}
use Rattle.sm_standing.proofs.UnfoldedLaws.{IsFold, In-or, bare_at, making_bare, rows_bare, twin_bare}

-- no image has the name of such an entry
no_image : (c : Content) (n : Name) → is_folding n ≡ true → image_of c n ≡ None
unfolding image_of
no_image c (Coalesce x y) is = refl
no_image c (Relink x y) is = refl
no_image c (Leaf x y) is = refl
no_image c _ is = absurd (true≢false (sym is))

module _ (c : Content) (e : Name) (f : IsFold e) (sequence : ℕ) where
  abbrev t : VolumeTable
  t = c.table

  -- the content without the entry
  abbrev pub bare : Content
  bare = record c { table = bare_at e sequence c.table }

  pub quiet : (n : Name) → is_folding n ≡ true → (outline c).links n ≡ None
  quiet n is = ap link_of (no_image c n is)

  abbrev o : Outline
  o = less (outline c) quiet e f sequence

  mgt_is : rows (bare_at e sequence t) Mgt ≡ rows t Mgt
  mgt_is = mgt_same (outline c) quiet e f sequence

  -- ---- images, records and disks

  abbrev vhd_by : Name → Option Row → List Name → Option Image
  vhd_by n r es = r >>= (λ x. cond x.fresh None (image_at c.block c.entries (image_extents es n (length x.extents) * c.extent) (piece c.extent (extents_of r) c.area)))

  abbrev raw_by : Option Row → Option Image
  raw_by r = r >>= (λ x. cond x.fresh None (Some (raw_content (span c.extent (extents_of r)) (piece c.extent (extents_of r) c.area))))

  pub images_bare : (n : Name) → image_of bare n ≡ image_of c n
  unfolding image_of vhd_image raw_image sectors_of
  images_bare (Vhd u) = ap₂ (vhd_by (Vhd u)) (rows_bare e f t sequence (Vhd u) refl) (making_bare e f t sequence)
  images_bare (Raw u) = ap raw_by (rows_bare e f t sequence (Raw u) refl)
  images_bare Mgt = refl
  images_bare (Old v) = refl
  images_bare (Cbt v) = refl
  images_bare (Clone x y z) = refl
  images_bare (Inflate x y) = refl
  images_bare (Coalesce x y) = refl
  images_bare (Relink x y) = refl
  images_bare (Leaf x y) = refl

  readings_bare : (k : ℕ) → reading_at bare k ≡ reading_at c k
  unfolding sectors_of
  readings_bare k = ap (λ r. reading (piece c.extent (extents_of r) c.area k)) mgt_is

  records_bare : records bare ≡ records c
  unfolding records sectors_of
  records_bare = ap (λ r. filter_map (λ k. taken (reading (piece c.extent (extents_of r) c.area k))) (numbers 0 record_count)) mgt_is

  pub outline_bare : outline bare ≡ o
  unfolding sectors_of
  outline_bare =
      made-of refl refl refl refl (fun_ext (λ n. ap link_of (images_bare n)))
      (ap (λ r k. cond (nat_lt k record_count) (reading (piece c.extent (extents_of r) c.area k)) Free) mgt_is)

  pub holding_bare : HasNoEmptySlot c → HasNoEmptySlot bare
  holding_bare holding u i is = holding u i (sym (images_bare (Vhd u)) ∙ is)

  -- ---- sound

  module _ (one : folding t ≡ e ∷ []) where
    pub disks_bare : disks bare ≡ disks c
    disks_bare = disks_as c bare (standing_bare (outline c) quiet e f sequence one) images_bare (λ u. ap (find (is_record_of u)) records_bare)

    -- without the entry, with this number or a later one
    pub sound_bare : t.sequence ≤ sequence → KnownSound c → SimpleSound bare
    sound_bare later s =
        but_leaf_sound bare (subst PassesButLeaf (sym outline_bare) (but_leaf_bare (outline c) quiet e f sequence one later (known_but_leaf c (known_sound c s) s.only))) (none_folding (outline c) quiet e f sequence one)

    abbrev pub IsApart : Name → Type 0
    IsApart n = IsApartFork (outline c) quiet e f sequence one n

    -- with the entry too, where it stands at its stage, and of a fork beside it speaks not
    pub sound_with : sequence ≤ t.sequence → is_at_stage t e ≡ true → are_past t e ≡ true → is_entry_linked (outline c) e ≡ true → ((r : Row) → In r t.volumes → IsApart r.name)
        → SimpleSound bare → KnownSound c
    sound_with later stage past linked apart s = record {
      only = all-of (λ r. is_known r ≡ true) t.volumes (λ r i. each (λ x. is_known x ≡ true) r (λ is. ap is_known_name is ∙ f.known) (λ j. simple_known_name r.name (at_simple s r j)) (In-or e t.volumes r i));
      records_row = s.records_row;
      records_there = sym mgt_is ∙ s.records_there;
      records_extents = s.records_extents;
      few_images = let few = s.few_images in let same = ap (λ (rs : List Row). length rs) (images_same (outline c) quiet e f sequence) in omega (arith, few, same);
      named = λ r i. each (λ x. is_misnamed t x ≡ false) r (λ is. ap (λ n. is_data n && (has_twin t n || not (are_past t n))) is ∙ ap (λ b. b && (has_twin t e || not (are_past t e))) f.no_image)
          (λ j. misnamed_step (is_data r.name) (has_twin t r.name) (are_past (bare_at e sequence t) r.name) (are_past t r.name) (all_past (uuids_in r.name) sequence t.sequence later)
          (sym (ap (λ b. is_data r.name && (b || not (are_past (bare_at e sequence t) r.name))) (twin_bare e f t sequence r.name)) ∙ s.named r j)) (In-or e t.volumes r i);
      one_folding = ap second one;
      one_entry = sym (ap second (making_bare e f t sequence)) ∙ s.one_entry;
      at_stage = λ r i. each (λ x. is_lost t x ≡ false) r (λ is. ap (λ n. is_entry n && not (is_at_stage t n && are_past t n)) is ∙ ap₂ (λ x y. is_entry e && not (x && y)) stage past ∙ and_false (is_entry e))
          (λ j. lost_step (is_entry r.name) (is_at_stage (bare_at e sequence t) r.name) (are_past (bare_at e sequence t) r.name) (is_at_stage t r.name) (are_past t r.name)
          (stage_from (outline c) quiet e f sequence one r.name (at_simple s r j) (apart r i)) (all_past (uuids_in r.name) sequence t.sequence later) (s.at_stage r j)) (In-or e t.volumes r i);
      valid = λ r i. each (λ x. is_invalid (outline c) x ≡ false) r (λ is. ap (λ n. not r.fresh && is_image_wrong (outline c) r n) is ∙ ap (λ b. not r.fresh && b) (entry_wrong r) ∙ and_false (not r.fresh))
          (λ j. sym (invalid_is r) ∙ s.valid r j) (In-or e t.volumes r i);
      placed = λ r i. each (λ x. is_tree_wrong (outline c) x ≡ false) r (λ is. ap (tree_wrong_as (outline c) r) is ∙ entry_placed r) (λ j. sym (tree_is r) ∙ s.placed r j) (In-or e t.volumes r i);
      linked = λ r i. each (λ x. is_entry_linked (outline c) x.name ≡ true) r (λ is. ap (is_entry_linked (outline c)) is ∙ linked)
          (λ j. sym (entry_is r.name (at_simple s r j)) ∙ s.linked r j) (In-or e t.volumes r i);
      right = λ k below. sym (ap is_damaged (readings_bare k)) ∙ s.right k below;
      recorded = λ u n is. sym (ap (λ rs. length (filter (is_record_of u) rs)) records_bare) ∙ s.recorded u n (standing_bare (outline c) quiet e f sequence one u ∙ is);
    }
      where
        tree_is : (r : Row) → is_tree_wrong (outline bare) r ≡ is_tree_wrong (outline c) r
        tree_is r = ap (λ y. is_tree_wrong y r) outline_bare ∙ tree_bare (outline c) quiet e f sequence r

        invalid_is : (r : Row) → is_invalid (outline bare) r ≡ is_invalid (outline c) r
        invalid_is r = ap (λ y. is_invalid y r) outline_bare ∙ invalid_bare (outline c) quiet e f sequence r

        entry_is : (n : Name) → is_simple_name n ≡ true → is_entry_linked (outline bare) n ≡ is_entry_linked (outline c) n
        entry_is n simple = ap (λ y. is_entry_linked y n) outline_bare ∙ linked_as (outline c) quiet e f sequence n simple

        at_simple : SimpleSound bare → (r : Row) → In r (without e t.volumes) → is_simple_name r.name ≡ true
        at_simple s r j = simple_at (outline c) quiet e f sequence one s.only r j

        each : (P : Row → Type 0) (r : Row) → (r.name ≡ e → P r) → (In r (without e t.volumes) → P r) → (r.name ≡ e) ⊎ In r (without e t.volumes) → P r
        each P r at other (inl is) = at is
        each P r at other (inr j) = other j

        wrong_entry : (n : Name) → is_folding n ≡ true → (r : Row) → is_image_wrong (outline c) r n ≡ false
        wrong_entry (Coalesce x y) is r = refl
        wrong_entry (Relink x y) is r = refl
        wrong_entry (Leaf x y) is r = refl
        wrong_entry _ is r = absurd (true≢false (sym is))

        placed_entry : (n : Name) → is_folding n ≡ true → (r : Row) → tree_wrong_as (outline c) r n ≡ false
        placed_entry (Coalesce x y) is r = refl
        placed_entry (Relink x y) is r = refl
        placed_entry (Leaf x y) is r = refl
        placed_entry _ is r = absurd (true≢false (sym is))

        entry_wrong : (r : Row) → is_image_wrong (outline c) r e ≡ false
        entry_wrong r = wrong_entry e f.folds r

        entry_placed : (r : Row) → tree_wrong_as (outline c) r e ≡ false
        entry_placed r = placed_entry e f.folds r
