-- The worked fork's second commit, the rename, leaves each volume as it is.
use Rattle.std.proofs.Common.{false, [], ◌∷◌, Option, refl, sym, ap, subst}
use Rattle.sm_base.specs.declared.names.Name.TheVariants.{Vhd}
use Rattle.common_laws.specs.Lists.{numbers}
use Rattle.vg_meta.specs.Tables.{Row, VolumeTable, row_of, name_eq, extents_of}
use Rattle.vg_volumes.specs.Volumes.{piece}
use Rattle.sm_standing.specs.Contents.{Content, sectors_of}
use Rattle.sm_standing.specs.Forks.{forked}
use Rattle.sm_standing.specs.Volumes.{IsSameVolume, AreSameApart}
use Rattle.examples_moments.specs.Worked.{first, second, base, first_record, content_with, image_row, one_disk, fork_area, unforked, forking_at}
use Rattle.examples_moments.proofs.ForkMoments.{fork_2, is_fork_2}
use Rattle.sm_standing.proofs.ImageSectors.{whole_none, whole_fork}
use Rattle.examples_moments.proofs.TableLaws.{same_apart}

abbrev renamed : VolumeTable → Content
renamed t = content_with t (fork_area (first_record ∷ []))

same_2 : IsSameVolume unforked (renamed fork_2) (Vhd first) (Vhd base) (image_row false (Vhd first) 16) (image_row false (Vhd base) 16)
unfolding sectors_of row_of name_eq
same_2 = record { extent = refl; block = refl; entries = refl; before = refl; after = refl; extents = refl; fresh = refl; sectors = λ p below. refl }

pub same_volume : IsSameVolume unforked (forking_at 2) (Vhd first) (Vhd base) (image_row false (Vhd first) 16) (image_row false (Vhd base) 16)
same_volume =
    subst (λ t. IsSameVolume unforked (renamed t) (Vhd first) (Vhd base) (image_row false (Vhd first) 16) (image_row false (Vhd base) 16)) (sym is_fork_2) same_2

apart_2 : AreSameApart unforked (renamed fork_2) (forked first base second)
unfolding sectors_of
apart_2 =
    let apart = same_apart unforked (renamed fork_2) (forked first base second) (numbers 0 16) refl refl in record {
      extent = refl;
      block = refl;
      entries = refl;
      rows = apart.rows;
      sectors = λ n p is below. ap (λ (o : Option Row). piece 32 (extents_of o) (fork_area (first_record ∷ [])) p) (apart.rows n is);
      whole = λ n is. whole_none one_disk n refl;
      still_whole = λ n is. whole_fork fork_2 n first base second refl;
    }

pub same_elsewhere : AreSameApart unforked (forking_at 2) (forked first base second)
same_elsewhere = subst (λ t. AreSameApart unforked (renamed t) (forked first base second)) (sym is_fork_2) apart_2
