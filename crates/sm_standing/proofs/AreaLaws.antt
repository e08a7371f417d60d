-- The same table with an area that is the same as far as the extents go: each image, each record and each disk is the same, and all
-- that is kept stays kept.
use Rattle.std.proofs.Common.{◌≡◌, ◌⊎◌, inl, inr, ℕ, ◌*◌, ◌<◌, ◌≤◌, List, [], length, None, Some, refl, sym, ap, ◌∙◌, arith, true}
use Rattle.sm_base.specs.Numbers.{IsGeometry, div_up}
use Rattle.sm_base.proofs.NumberLemmas.{le-div_up}
use Rattle.sm_base.specs.declared.names.Name.{Name}
use Rattle.sm_base.specs.declared.names.Name.TheVariants.{Mgt, Vhd, Raw, Old, Cbt, Clone, Inflate, Coalesce, Relink, Leaf}
use Rattle.vg_layout.specs.Places.{record_extents}
use Rattle.vg_meta.specs.Tables.{Row, IsTable, extents_of, rows}
use Rattle.vg_meta.proofs.ByName.{spread}
use Rattle.vg_volumes.specs.Volumes.{piece, spot}
use Rattle.sm_record.specs.Records.{reading}
use Rattle.sm_standing.specs.Apart.{is_apart}
use Rattle.sm_standing.specs.Checks.{fault_of, first_fault}
use Rattle.sm_standing.specs.Contents.{Content, row, record_count, sectors_of, size_of}
use Rattle.sm_standing.specs.Entries.{head, making}
use Rattle.sm_standing.specs.Images.{image_of}
use Rattle.sm_standing.specs.Keeping.{HoldsWell, IsKept}
use Rattle.sm_standing.specs.Outlines.{link_of, outline}
use Rattle.sm_standing.specs.PlainSound.{AllSound, KnownSound}
use Rattle.sm_standing.specs.Readings.{SameReadings}
use Rattle.sm_standing.specs.Standing.{disks}
use Rattle.sm_standing.specs.Undone.{IsBeingEnlarged, IsSameArea}
use Rattle.sm_standing.specs.Volumes.{IsAtSize}
use Rattle.sm_standing.specs.Worlds.{with_table}
use Rattle.sm_standing.proofs.EnlargedLaws.{images_enlarging}
use Rattle.sm_standing.proofs.ImageLaws.{disks_as}
use Rattle.sm_standing.proofs.ImageSectors.{same_images, whole_fork, whole_none}
use Rattle.sm_standing.proofs.OutlineLaws.{outline_same}
use Rattle.sm_standing.proofs.PlainKept.{known_sound, sound_all}
use Rattle.sm_standing.proofs.RecordLists.{first_of, record_of_first, records_same}
use Rattle.sm_standing.proofs.UndoneContents.{before_it, between_enlarging, between_now, now}
use Rattle.sm_standing.proofs.UndoneLaws.{IsBeingForked, enlarged_or_not}
use Rattle.sm_standing.proofs.WorldLaws.{spot_below}

-- the volume of records has room for them
records_fit : (c : Content) (r : Row) → 0 < c.extent → row c Mgt ≡ Some r → length r.extents ≡ record_extents c.extent → record_count ≤ size_of c Mgt
unfolding record_extents
records_fit c r some there long =
    let fits = le-div_up 512 c.extent some in
    let size : size_of c Mgt ≡ div_up 512 c.extent * c.extent = ap (λ o. length (extents_of o) * c.extent) there ∙ ap (λ k. k * c.extent) long in
    omega (arith, fits, size)

extent_some : (c : Content) → IsGeometry c.extent c.block c.entries → 0 < c.extent
extent_some c geometry = let least = geometry.extent_least in omega (arith, least)

pub room_there : (c : Content) → IsGeometry c.extent c.block c.entries → first_fault c ≡ None → record_count ≤ size_of c Mgt
room_there c geometry sound = let s = sound_all (outline c) sound in records_fit c s.records_row (extent_some c geometry) s.records_there s.records_extents

pub records_room : (c : Content) → IsGeometry c.extent c.block c.entries → KnownSound c → record_count ≤ size_of c Mgt
records_room c geometry s = room_there c geometry (known_sound c s)

apart_of_none : (n : Name) → is_apart [] n ≡ true
apart_of_none Mgt = refl
apart_of_none (Vhd u) = refl
apart_of_none (Raw u) = refl
apart_of_none (Old u) = refl
apart_of_none (Cbt u) = refl
apart_of_none (Clone x y z) = refl
apart_of_none (Inflate x y) = refl
apart_of_none (Coalesce x y) = refl
apart_of_none (Relink x y) = refl
apart_of_none (Leaf x y) = refl

module _ (c : Content) (table : IsTable c.count c.table) (geometry : IsGeometry c.extent c.block c.entries) (sound : first_fault c ≡ None) (area : ℕ → List ℕ) (same : IsSameArea c area) where
  s : AllSound (outline c)
  s = sound_all (outline c) sound

  room : record_count ≤ size_of c Mgt
  room = room_there c geometry sound

  abbrev there : Content
  there = with_table c c.table area

  sectors_alike : (n : Name) (p : ℕ) → p < size_of c n → sectors_of there n p ≡ sectors_of c n p
  unfolding sectors_of piece
  sectors_alike n p below =
      same (spot c.extent (extents_of (rows c.table n)) p) (spot_below c.count c.extent (rows c.table) n p (spread c.count c.table table) (extent_some c geometry) below)

  images_whole : ((n : Name) → IsAtSize c.table n) → (n : Name) → image_of there n ≡ image_of c n
  images_whole whole n =
      (same_images c there [] geometry (record {
        extent = refl;
        block = refl;
        entries = refl;
        rows = λ m apart. refl;
        sectors = λ m p apart below. sectors_alike m p below;
        whole = λ m apart. whole m;
        still_whole = λ m apart. whole m;
      })).images n (apart_of_none n)

  pub images_there : (n : Name) → image_of there n ≡ image_of c n
  images_there n = by (enlarged_or_not c.count c.table table s.one_entry s.at_stage)
    where
      by : (making c.table ≡ []) ⊎ (((u : List ℕ) × (extents : ℕ) × IsBeingEnlarged c.table u extents) ⊎ IsBeingForked c.table) → image_of there n ≡ image_of c n
      by (inl none) = images_whole (λ m. whole_none c.table m none) n
      by (inr (inl k)) =
          images_enlarging (before_it c k.0 k.1 k.2 table geometry room) there k.0 k.1 (between_enlarging c k.0 k.1 k.2 table geometry room c.table area (between_now c k.0 k.1 k.2 table geometry room) same) n
          ∙ sym (images_enlarging (before_it c k.0 k.1 k.2 table geometry room) c k.0 k.1 (now c k.0 k.1 k.2 table geometry room) n)
      by (inr (inr k)) = images_whole (λ m. whole_fork c.table m k.0 k.1 k.2 (ap head k.3)) n

  readings_alike : SameReadings c there
  readings_alike k below = ap reading (sectors_alike Mgt k (omega (arith, below, room)))

  pub outline_there : outline there ≡ outline c
  outline_there = outline_same c there (record { extent = refl; block = refl; entries = refl; table = refl; links = λ n. ap link_of (images_there n); readings = readings_alike })

  pub kept_there : HoldsWell c → IsKept there
  kept_there well = record {
    sound = ap fault_of outline_there ∙ sound;
    holding = λ v i is. well.holding v i (sym (images_there (Vhd v)) ∙ is);
    linking = λ child parent r v p n entry is linked above. well.linking child parent r v p n entry (sym (images_there (Vhd child)) ∙ is) linked (sym (images_there n) ∙ above);
  }

  pub disks_there : disks there ≡ disks c
  disks_there = disks_as c there (λ v. refl) images_there (λ v. record_of_first there v ∙ ap first_of (records_same c there v readings_alike) ∙ sym (record_of_first c v))

-- the same where at most an image is being copied or linked
module _ (c : Content) (table : IsTable c.count c.table) (geometry : IsGeometry c.extent c.block c.entries) (s : KnownSound c) (area : ℕ → List ℕ) (same : IsSameArea c area) where
  pub area_images : (n : Name) → image_of (with_table c c.table area) n ≡ image_of c n
  area_images = images_there c table geometry (known_sound c s) area same

  pub area_kept : HoldsWell c → IsKept (with_table c c.table area)
  area_kept = kept_there c table geometry (known_sound c s) area same

  pub area_disks : disks (with_table c c.table area) ≡ disks c
  area_disks = disks_there c table geometry (known_sound c s) area same
