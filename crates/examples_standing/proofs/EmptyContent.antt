-- The empty repository is sound, and has no disks.
use Rattle.std.proofs.Common.{true, ◌≡◌, ℕ, inl, inr, List, [], ◌∷◌, length, arith, false, None, refl, sym, ap, subst, ◌∙◌}
use Rattle.std.proofs.lemmas.Option.{none-some}
use Rattle.sm_base.specs.declared.names.Name.TheVariants.{Vhd}
use Rattle.sm_disk.specs.Sectors.{zeros}
use Rattle.vg_layout.specs.Places.{record_extents}
use Rattle.vg_meta.specs.Tables.{Row, row_of, name_eq}
use Rattle.vg_volumes.specs.Volumes.{piece}
use Rattle.sm_base.specs.Numbers.{div_up}
use Rattle.sm_machine.specs.Disks.{Disk}
use Rattle.common_laws.specs.Lists.{In}
use Rattle.sm_record.specs.declared.records.Reading.TheVariants.{Free}
use Rattle.sm_record.proofs.RoundTrips.{reading_zeros}
use Rattle.sm_standing.specs.Contents.{reading_at, sectors_of}
use Rattle.sm_standing.specs.Checks.{is_entry_linked, is_lost, is_damaged, is_invalid, is_misnamed, is_tree_wrong}
use Rattle.sm_standing.specs.Images.{image_of}
use Rattle.sm_standing.specs.Outlines.{outline}
use Rattle.examples_standing.specs.SmallContents.{record_row, empty_content}
use Rattle.sm_standing.specs.Plain.{IsPlain}
use Rattle.sm_standing.specs.PlainSound.{PlainSound}
use Rattle.sm_standing.specs.Standing.{standing_volume, disks}
use Rattle.sm_standing.proofs.DiskLists.{disks_at}
use Rattle.sm_standing.proofs.PlainDisks.{none_stands, plain_stands}

empty_is_plain : (extents : List ℕ) → IsPlain (empty_content extents).table
empty_is_plain extents = (refl, tt)

free_everywhere : (extents : List ℕ) (k : ℕ) → reading_at (empty_content extents) k ≡ Free
unfolding sectors_of zeros piece
free_everywhere extents k = reading_zeros 512

nowhere : (extents u : List ℕ) → standing_volume (empty_content extents).table u ≡ None
unfolding row_of name_eq
nowhere extents u = plain_stands (empty_content extents).table u (empty_is_plain extents)

-- there is no image
pub no_image : (extents u : List ℕ) → image_of (empty_content extents) (Vhd u) ≡ None
unfolding image_of row_of name_eq
no_image extents u = refl

each_alone : (extents : List ℕ) (P : Row → Type 0) → P (record_row extents) → (r : Row) → In r (empty_content extents).table.volumes → P r
each_alone extents P here r (inl is) = subst P (sym is) here
each_alone extents P here r (inr none) = elim none [ ]

sixteen : record_extents 32 ≡ 16
unfolding record_extents div_up
sixteen = refl

-- sixteen extents of 16 KiB hold 512 records
pub empty_sound : (extents : List ℕ) → length extents ≡ 16 → PlainSound (empty_content extents)
unfolding row_of name_eq is_entry_linked
empty_sound extents long = record {
  only = empty_is_plain extents;
  records_row = record_row extents;
  records_there = refl;
  records_extents = long ∙ sym sixteen;
  few_images = omega arith;
  named = each_alone extents (λ r. is_misnamed (empty_content extents).table r ≡ false) refl;
  one_folding = refl;
  one_entry = refl;
  at_stage = each_alone extents (λ r. is_lost (empty_content extents).table r ≡ false) refl;
  valid = each_alone extents (λ r. is_invalid (outline (empty_content extents)) r ≡ false) refl;
  placed = each_alone extents (λ r. is_tree_wrong (outline (empty_content extents)) r ≡ false) refl;
  linked = each_alone extents (λ r. is_entry_linked (outline (empty_content extents)) r.name ≡ true) refl;
  right = λ k below. ap is_damaged (free_everywhere extents k);
  recorded = λ u n is. absurd (none-some n (sym (nowhere extents u) ∙ is));
}

no_disks : (ds : List Disk) → ((d : Disk) → In d ds → ⊥) → ds ≡ []
no_disks [] none = refl
no_disks (d ∷ ds) none = absurd (none d (inl refl))

pub empty_disks : (extents : List ℕ) → disks (empty_content extents) ≡ []
empty_disks extents = no_disks (disks (empty_content extents)) (λ d h.
    absurd (none-some d (sym (none_stands (empty_content extents) d.uuid (nowhere extents d.uuid)) ∙ disks_at (empty_content extents) d h)))
