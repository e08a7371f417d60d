-- Work under way stands in the names of journal entries, and an image is none.
use Rattle.std.proofs.Common.{◌≡◌, true, false, refl, sym, ◌∙◌}
use Rattle.std.proofs.lemmas.Bool.{false_from_ne_true, true≢false}
use Rattle.sm_base.specs.Kinds.{is_entry, is_image}
use Rattle.sm_base.specs.declared.names.Name.{Name}
use Rattle.sm_base.specs.declared.names.Name.TheVariants.{Clone, Inflate, Coalesce, Relink, Leaf}
use Rattle.sm_base.proofs.KindLaws.{image-no_entry}
use Rattle.sm_standing.specs.Entries.{is_folding, is_making}

pub folding_journal : (n : Name) → is_folding n ≡ true → is_entry n ≡ true
folding_journal (Coalesce child parent) folds = refl
folding_journal (Relink child parent) folds = refl
folding_journal (Leaf leaf parent) folds = refl
folding_journal _ folds = absurd (true≢false (sym folds))

pub making_journal : (n : Name) → is_making n ≡ true → is_entry n ≡ true
making_journal (Clone disk base twin) makes = refl
making_journal (Inflate image extents) makes = refl
making_journal _ makes = absurd (true≢false (sym makes))

-- by the kind of a name: an image is no entry
pub image_not_folding : (n : Name) → is_image n ≡ true → is_folding n ≡ false
image_not_folding n image = false_from_ne_true (is_folding n) (λ folds. true≢false (sym (folding_journal n folds) ∙ image-no_entry n image))

pub image_not_making : (n : Name) → is_image n ≡ true → is_making n ≡ false
image_not_making n image = false_from_ne_true (is_making n) (λ makes. true≢false (sym (making_journal n makes) ∙ image-no_entry n image))
