-- The content without an enlargement that a stop has cut short, beside the one with it: the same images, records and disks.
-- Between the two commits that undo it, and whatever a stop leaves of them, what stands is kept and shows the same disks.
use Rattle.std.proofs.Common.{◌≡◌, ℕ, ◌+◌, ◌*◌, ◌/◌, ◌%◌, ◌<◌, ◌≤◌, Bool, true, false, List, [], ◌++◌, length, drop, None, refl, sym, ap, ◌∙◌, arith}
use Rattle.std.proofs.Math.Path.{fun_ext}
use Rattle.std.specs.List.{filter_map, find}
use Rattle.std.proofs.lemmas.List.{append-nil, take-append-drop, get_or_append_left}
use Rattle.std.proofs.Math.Nat.{div-lt_iff_lt-mul}
use Rattle.common_laws.specs.Lists.{numbers}
use Rattle.sm_base.specs.Numbers.{IsGeometry}
use Rattle.sm_base.specs.declared.names.Name.{Name}
use Rattle.sm_base.specs.declared.names.Name.TheVariants.{Mgt, Vhd, Raw, Old, Cbt, Clone, Inflate, Coalesce, Relink, Leaf}
use Rattle.vg_meta.specs.Tables.{VolumeTable, IsTable, extents_of, row_of, rows, name_eq}
use Rattle.vg_meta.proofs.ByName.{spread}
use Rattle.vg_meta.proofs.NameLaws.{name_eq-true, name_eq-false}
use Rattle.vg_meta.proofs.RowLaws.{row_of-without_other}
use Rattle.vg_volumes.specs.Volumes.{piece, span, spot}
use Rattle.sm_record.specs.Records.{reading}
use Rattle.sm_standing.specs.Checks.{fault_of, first_fault}
use Rattle.sm_standing.specs.Contents.{Content, record_count, is_record_of, records, reading_at, sectors_of, size_of, taken}
use Rattle.sm_standing.specs.Enlarging.{HasEntry, IsEnlargingOn}
use Rattle.sm_standing.specs.Images.{image_of, raw_image, vhd_image}
use Rattle.sm_standing.specs.Keeping.{HasNoEmptySlot, IsKept}
use Rattle.sm_standing.specs.Opened.{undone}
use Rattle.sm_standing.specs.Outlines.{Outline, outline, link_of}
use Rattle.sm_standing.specs.Plain.{IsSimple}
use Rattle.sm_standing.specs.PlainSound.{PlainSound, SimpleSound}
use Rattle.sm_standing.specs.Standing.{disks}
use Rattle.sm_standing.specs.Undone.{IsBeingEnlarged, IsSameArea, undone_at, undone_content_at}
use Rattle.sm_standing.specs.Worlds.{with_table}
use Rattle.sm_standing.proofs.EnlargedLaws.{enlarging_disks, enlarging_kept, images_enlarging, outline_enlarging}
use Rattle.sm_standing.proofs.EnlargedOutlines.{sound_with, sound_without}
use Rattle.sm_standing.proofs.ImageLaws.{disks_as}
use Rattle.sm_standing.proofs.OutlineLaws.{made-of}
use Rattle.sm_standing.proofs.PlainDisks.{simple_folding}
use Rattle.sm_standing.proofs.PlainKept.{plain_kept, simple_sound, simple_but_leaf, but_leaf_sound, simple_is_plain}
use Rattle.sm_standing.proofs.UndoneLaws.{cut_later, cut_table, entry_gone, entry_still, entry_there, is_enlarging, other_undone, own_long, own_undone, undone_is, undone_is_table, undone_later, undone_simple, undone_making, undone_stands}
use Rattle.sm_standing.proofs.WorldLaws.{spot_below}

-- where extents stand behind these each place stays where it was
spot_front : (extent : ℕ) (es more : List ℕ) (p : ℕ) → 0 < extent → p < span extent es → spot extent (es ++ more) p ≡ spot extent es p
unfolding spot
spot_front extent es more p some below = ap (λ e. e * extent + p % extent) (get_or_append_left es more 0 (p / extent) ((div-lt_iff_lt-mul some).1 below))

module _ (c : Content) (u : List ℕ) (extents : ℕ) (w : IsBeingEnlarged c.table u extents) (table : IsTable c.count c.table) (geometry : IsGeometry c.extent c.block c.entries) (room : record_count ≤ size_of c Mgt) where
  abbrev entry : Name
  entry = Inflate u extents

  -- without the enlargement, but for the sequence number
  abbrev pub before_it : Content
  before_it = undone_content_at c.table.sequence c

  extent_some : 0 < c.extent
  extent_some = let least = geometry.extent_least in omega (arith, least)

  -- ---- the tables with the entry

  -- a later table with the entry, in which each volume begins with the extents that it has without the entry
  pub record IsBetween (v : VolumeTable) : Type 0 where
    pub later : c.table.sequence ≤ v.sequence
    pub volumes : HasEntry (Inflate u extents) u (undone c.table).volumes v.volumes
    pub front : (n : Name) → (more : List ℕ) × (extents_of (rows v n) ≡ extents_of (rows (undone c.table) n) ++ more)

  front_entry : (v : VolumeTable) (n : Name) → n ≡ entry → (more : List ℕ) × (extents_of (rows v n) ≡ extents_of (rows (undone c.table) n) ++ more)
  front_entry v n is = (extents_of (rows v n), sym (ap (λ o. extents_of o ++ extents_of (rows v n)) (ap (rows (undone c.table)) is ∙ entry_gone c.table u extents w c.count table)))

  front_same : (v : VolumeTable) (n : Name) → rows v n ≡ rows (undone c.table) n → (more : List ℕ) × (extents_of (rows v n) ≡ extents_of (rows (undone c.table) n) ++ more)
  front_same v n same = ([], ap extents_of same ∙ sym (append-nil (extents_of (rows (undone c.table) n))))

  pub between_now : IsBetween c.table
  between_now = record { later = omega arith; volumes = entry_there c.table u extents w; front = λ n. by n (name_eq n entry) (name_eq n (Vhd u)) refl refl }
    where
      by : (n : Name) (a b : Bool) → name_eq n entry ≡ a → name_eq n (Vhd u) ≡ b → (more : List ℕ) × (extents_of (rows c.table n) ≡ extents_of (rows (undone c.table) n) ++ more)
      by n true b is own = front_entry c.table n (name_eq-true n entry is)
      by n false true is own =
          let at = name_eq-true n (Vhd u) own in (
            drop extents w.own.extents,
            ap extents_of (ap (rows c.table) at ∙ w.there) ∙ sym (take-append-drop extents w.own.extents)
                ∙ sym (ap (λ o. extents_of o ++ drop extents w.own.extents) (ap (rows (undone c.table)) at ∙ own_undone c.table u extents w)),
          )
      by n false false is own = front_same c.table n (sym (other_undone c.table u extents w n (name_eq-false n entry is) (name_eq-false n (Vhd u) own)))

  pub between_cut : IsBetween (cut_table c.table u extents w)
  between_cut = record { later = cut_later c.table u extents w c.count table; volumes = entry_still c.table u extents w; front = λ n. by n (name_eq n entry) refl }
    where
      by : (n : Name) (b : Bool) → name_eq n entry ≡ b → (more : List ℕ) × (extents_of (rows (cut_table c.table u extents w) n) ≡ extents_of (rows (undone c.table) n) ++ more)
      by n true is = front_entry (cut_table c.table u extents w) n (name_eq-true n entry is)
      by n false is =
          front_same (cut_table c.table u extents w) n
          (sym (ap (λ (x : VolumeTable). row_of x.volumes n) (undone_is c.table u extents w) ∙ row_of-without_other (cut_table c.table u extents w).volumes entry n (λ at. name_eq-false n entry is (sym at))))

  mgt_same : rows (undone c.table) Mgt ≡ rows c.table Mgt
  mgt_same = other_undone c.table u extents w Mgt (λ is. (let x = is in cc)) (λ is. (let x = is in cc))

  pub between_enlarging : (v : VolumeTable) (area : ℕ → List ℕ) → IsBetween v → IsSameArea c area → IsEnlargingOn before_it (with_table c v area) u extents
  unfolding image_of sectors_of piece
  between_enlarging v area between same = record {
    extent = refl;
    block = refl;
    entries = refl;
    geometry = geometry;
    table = is_enlarging c.table u extents w (outline before_it) c.table.sequence v refl between.later between.volumes;
    all = sym (own_long c.table u extents w);
    sectors = λ n p below.
        let front = between.front n in
        ap (λ es. area (spot c.extent es p)) front.1
        ∙ ap area (spot_front c.extent (extents_of (rows (undone c.table) n)) front.0 p extent_some below)
        ∙ same (spot c.extent (extents_of (rows (undone c.table) n)) p)
        (spot_below c.count c.extent (rows (undone c.table)) n p (spread c.count (undone c.table) (undone_is_table c.table u extents w c.count table)) extent_some below);
    records = omega (arith, room, ap (λ o. length (extents_of o) * c.extent) mgt_same);
  }

  pub now : IsEnlargingOn before_it c u extents
  now = between_enlarging c.table c.area between_now (λ p below. refl)

  -- ---- images, records and disks

  images_at : (sequence : ℕ) (n : Name) → image_of (undone_content_at sequence c) n ≡ image_of before_it n
  unfolding image_of vhd_image raw_image sectors_of
  images_at sequence (Vhd v) = refl
  images_at sequence (Raw v) = refl
  images_at sequence Mgt = refl
  images_at sequence (Old v) = refl
  images_at sequence (Cbt v) = refl
  images_at sequence (Clone x y z) = refl
  images_at sequence (Inflate x y) = refl
  images_at sequence (Coalesce x y) = refl
  images_at sequence (Relink x y) = refl
  images_at sequence (Leaf x y) = refl

  pub outline_at : (sequence : ℕ) → outline (undone_content_at sequence c) ≡ record (outline before_it) { table = undone_at sequence c.table }
  unfolding sectors_of
  outline_at sequence = made-of refl refl refl refl (fun_ext (λ n. ap link_of (images_at sequence n))) refl

  -- each image is the same
  pub images_undone_at : (sequence : ℕ) (n : Name) → image_of (undone_content_at sequence c) n ≡ image_of c n
  images_undone_at sequence n = images_at sequence n ∙ sym (images_enlarging before_it c u extents now n)

  readings_undone : (sequence k : ℕ) → reading_at (undone_content_at sequence c) k ≡ reading_at c k
  unfolding sectors_of
  readings_undone sequence k = ap (λ o. reading (piece c.extent (extents_of o) c.area k)) mgt_same

  pub records_undone : (sequence : ℕ) → records (undone_content_at sequence c) ≡ records c
  unfolding records sectors_of
  records_undone sequence = ap (λ o. filter_map (λ k. taken (reading (piece c.extent (extents_of o) c.area k))) (numbers 0 record_count)) mgt_same

  pub holding_undone : (sequence : ℕ) → HasNoEmptySlot c → HasNoEmptySlot (undone_content_at sequence c)
  holding_undone sequence holding v i is = holding v i (sym (images_undone_at sequence (Vhd v)) ∙ is)

  -- the same disks
  pub disks_undone_at : (sequence : ℕ) → disks (undone_content_at sequence c) ≡ disks c
  disks_undone_at sequence =
      disks_as c (undone_content_at sequence c) (undone_stands c.table u extents w sequence) (images_undone_at sequence) (λ v. ap (λ rs. find (is_record_of v) rs) (records_undone sequence))

  -- whatever a stop leaves while the entry stands shows them
  pub between_disks : (v : VolumeTable) (area : ℕ → List ℕ) → IsBetween v → IsSameArea c area → disks (with_table c v area) ≡ disks c
  between_disks v area between same = enlarging_disks before_it (with_table c v area) u extents (between_enlarging v area between same) ∙ disks_undone_at c.table.sequence

  -- ---- sound

  module _ (sound : first_fault c ≡ None) where
    no_image : (outline c).links entry ≡ None
    unfolding image_of
    no_image = refl

    -- with another table of the enlargement each image is linked as before
    retabled : (v : VolumeTable) → record (outline before_it) { table = v } ≡ record (outline c) { table = v }
    retabled v = ap (λ (o : Outline). record o { table = v }) (sym (outline_enlarging before_it c u extents now))

    pub sound_between : (v : VolumeTable) (area : ℕ → List ℕ) → IsBetween v → IsSameArea c area → first_fault (with_table c v area) ≡ None
    sound_between v area between same =
        ap fault_of (outline_enlarging before_it (with_table c v area) u extents (between_enlarging v area between same) ∙ retabled v)
        ∙ sound_with (outline c) sound u extents w no_image v between.later between.volumes

    pub sound_undone_at : (sequence : ℕ) → c.table.sequence ≤ sequence → first_fault (undone_content_at sequence c) ≡ None
    sound_undone_at sequence later = ap fault_of (outline_at sequence ∙ retabled (undone_at sequence c.table)) ∙ sound_without (outline c) sound u extents w no_image sequence later

  -- ---- and kept, where nothing else is under way

  module _ (s : SimpleSound c) where
    pub sound_undone : (sequence : ℕ) → c.table.sequence ≤ sequence → PlainSound (undone_content_at sequence c)
    sound_undone sequence later =
        let d = undone_content_at sequence c in
        let simple : IsSimple d.table = undone_simple c.table u extents w s.only in
        simple_is_plain d (but_leaf_sound d (simple_but_leaf d (sound_undone_at (simple_sound c s) sequence later) simple) (simple_folding d.table.volumes simple)) (undone_making c.table u extents w)

    -- whatever a stop leaves while the entry stands is kept
    pub between_kept : HasNoEmptySlot c → (v : VolumeTable) (area : ℕ → List ℕ) → IsBetween v → IsSameArea c area → IsKept (with_table c v area)
    between_kept holding v area between same =
        enlarging_kept before_it (with_table c v area) u extents (between_enlarging v area between same)
        (plain_kept before_it (sound_undone c.table.sequence (omega arith)) (holding_undone c.table.sequence holding))

    -- so is what it leaves with this area and the table from before
    pub sound_alike : (area : ℕ → List ℕ) → IsSameArea c area → SimpleSound (with_table c c.table area)
    sound_alike area same =
        but_leaf_sound (with_table c c.table area) (simple_but_leaf (with_table c c.table area) (sound_between (simple_sound c s) c.table area between_now same) s.only) (simple_folding c.table.volumes s.only)

    pub holding_alike : (area : ℕ → List ℕ) → IsSameArea c area → HasNoEmptySlot c → HasNoEmptySlot (with_table c c.table area)
    holding_alike area same holding v i is =
        holding v i
        (images_enlarging before_it c u extents now (Vhd v) ∙ sym (images_enlarging before_it (with_table c c.table area) u extents (between_enlarging c.table area between_now same) (Vhd v)) ∙ is)

-- ---- without the entry

module _ (c : Content) (u : List ℕ) (extents : ℕ) (w : IsBeingEnlarged c.table u extents) (table : IsTable c.count c.table) (geometry : IsGeometry c.extent c.block c.entries) (room : record_count ≤ size_of c Mgt) where
  pub undone_disks : (area : ℕ → List ℕ) → IsSameArea c area → disks (with_table c (undone c.table) area) ≡ disks c
  undone_disks area same =
      disks_undone_at (with_table c c.table area) u extents w table geometry room (undone c.table).sequence
      ∙ between_disks c u extents w table geometry room c.table area (between_now c u extents w table geometry room) same

  pub undone_kept : SimpleSound c → HasNoEmptySlot c → (area : ℕ → List ℕ) → IsSameArea c area → IsKept (with_table c (undone c.table) area)
  undone_kept s holding area same =
      plain_kept (with_table c (undone c.table) area)
      (sound_undone (with_table c c.table area) u extents w table geometry room (sound_alike c u extents w table geometry room s area same) (undone c.table).sequence (undone_later c.table u extents w c.count table))
      (holding_undone (with_table c c.table area) u extents w table geometry room (undone c.table).sequence (holding_alike c u extents w table geometry room s area same holding))
