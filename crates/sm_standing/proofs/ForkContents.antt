-- What stands while a fork is undone, and behind it: the images, and that each check passes.
use Rattle.std.proofs.Common.{◌≡◌, ◌⊎◌, inl, inr, ℕ, zero, suc, ◌*◌, ◌<◌, ◌≤◌, Bool, true, false, not, ◌&&◌, ◌||◌, ◌==◌, List, [], ◌∷◌, length, nat_le, nat_lt, Option, Some, None, is_none, refl, sym, ap, ap₂, ◌∙◌, subst, arith, bytes_eq}
use Rattle.std.specs.List.{filter, list_any}
use Rattle.sm_base.specs.Kinds.{is_image as is_data, is_entry}
use Rattle.sm_base.specs.Numbers.{IsGeometry}
use Rattle.sm_base.specs.declared.names.Name.{Name}
use Rattle.sm_base.specs.declared.names.Name.TheVariants.{Mgt, Vhd, Raw, Old, Cbt, Clone, Inflate, Coalesce, Relink, Leaf}
use Rattle.common_laws.specs.Lists.{In, ◌>>=◌}
use Rattle.common_laws.proofs.Booleans.{all_hold, not_false}
use Rattle.common_laws.proofs.Bytes.{bytes_eq-apart, bytes_eq-refl}
use Rattle.common_laws.proofs.Lists.{filter-In, In-append, In-filter}
use Rattle.common_laws.proofs.Options.{option_cases}
use Rattle.std.proofs.lemmas.Bool.{true≢false, and_from, and_parts, or_right, eqb-true}
use Rattle.std.proofs.lemmas.Option.{none-some, same_Some}
use Rattle.vg_meta.specs.Tables.{VolumeTable, Row, IsTable, rows, extents_of}
use Rattle.vg_meta.proofs.ByName.{spread}
use Rattle.vg_meta.proofs.RowLaws.{row_of-name}
use Rattle.vg_volumes.specs.Volumes.{piece, span, spot}
use Rattle.sm_machine.specs.Shapes.{same_image}
use Rattle.sm_machine.proofs.ImageNames.{same_image-sound}
use Rattle.sm_record.specs.Records.{reading}
use Rattle.sm_standing.specs.Apart.{is_apart, IsSameApart}
use Rattle.sm_standing.specs.Besides.{PassesAlone, is_settled_name}
use Rattle.sm_standing.specs.Changes.{parent_of}
use Rattle.sm_standing.specs.Checks.{chain_length, children, children_with, has_twin, is_base_of, is_damaged, is_entry_linked, is_fork_linked, is_image_wrong, is_linked, is_misplaced, is_no_larger, is_orphaned, is_parent_right, parent_is, tree_wrong_as}
use Rattle.sm_standing.specs.Contents.{Content, record_count, record_of, row, sectors_of, size_of}
use Rattle.sm_standing.specs.Entries.{are_past, folding, folding_uuids, head, image_with, is_among, is_at_stage, is_fork_begun, is_fork_made, is_forking, is_hidden, is_making, is_past, making, of_row, second, uuids_in}
use Rattle.sm_standing.specs.Forks.{IsForkPlace, IsForking, forked}
use Rattle.sm_standing.specs.Images.{Image, image_of}
use Rattle.sm_standing.specs.Keeping.{HasNoEmptySlot, IsHolding}
use Rattle.sm_standing.specs.Outlines.{Link, Outline, link_of, outline}
use Rattle.sm_standing.specs.Plain.{IsSimple, is_simple, is_simple_name}
use Rattle.sm_standing.specs.PlainSound.{SimpleSound}
use Rattle.sm_standing.specs.Readings.{SameReadings}
use Rattle.sm_standing.specs.Standing.{disks, standing_volume, stands_folded, stands_plainly, under}
use Rattle.sm_standing.specs.Undone.{IsSameArea}
use Rattle.sm_standing.specs.Volumes.{IsAtSize, IsSameVolume}
use Rattle.sm_standing.specs.Worlds.{with_table}
use Rattle.sm_standing.proofs.ApartLaws.{beside, plainly_same, stands_beside, stands_making}
use Rattle.sm_standing.proofs.BesideLaws.{IsAlikeApart, by_name, chain_alike, parent_alike}
use Rattle.sm_standing.proofs.DisksShown.{row_of-In}
use Rattle.sm_standing.proofs.ForkNames.{AreNamed, IsThree, base_old, entry_speaks, named_so, new_speaks, raw_speaks, vhd_speaks}
use Rattle.sm_standing.proofs.ForkLaws.{IsUnforked, fork_disk, fork_new, fork_other, forking_disks, which}
use Rattle.sm_standing.proofs.ForkParents.{linked_image, linked_then, no_entry_link, parent_right, parents}
use Rattle.sm_standing.proofs.ForkParts.{IsForkPart, entry_found, kept_as, part_now}
use Rattle.sm_standing.proofs.ForkTables.{IsForkStage, IsNew, only_entry, simple_row}
use Rattle.sm_standing.proofs.ImageLaws.{image_there}
use Rattle.sm_standing.proofs.ImageSectors.{raw_same, same_images, vhd_same, whole_fork, whole_none}
use Rattle.sm_standing.proofs.NamedLaws.{all_past}
use Rattle.sm_standing.proofs.PlainDisks.{simple_folding}
use Rattle.sm_standing.proofs.PlainKept.{all-of, simple_sound}
use Rattle.sm_standing.proofs.RecordLists.{first_of, record_of_first, records_same}
use Rattle.sm_standing.proofs.VolumeLists.{found_in}
use Rattle.sm_standing.proofs.WorldLaws.{spot_below}

-- both of them VHD images, or raw ones
abbrev pub AreAlike : Name → Name → Type 0
AreAlike x y = ((a b : List ℕ) × (x ≡ Vhd a) × (y ≡ Vhd b)) ⊎ ((a b : List ℕ) × (x ≡ Raw a) × (y ≡ Raw b))

module _ (c : Content) (disk base twin : List ℕ) (n : Name) (table : IsTable c.count c.table) (geometry : IsGeometry c.extent c.block c.entries) (room : record_count ≤ size_of c Mgt)
    (entry : making c.table ≡ Clone disk base twin ∷ []) (s : SimpleSound c) (σ : IsForkStage c.table disk base twin n) where
  abbrev us : List (List ℕ)
  us = forked disk base twin

  abbrev e : Name
  e = Clone disk base twin

  abbrev o : Outline
  o = outline c

  extent_some : 0 < c.extent
  extent_some = let least = geometry.extent_least in omega (arith, least)

  module _ (v : VolumeTable) (m : Name) (hidden : Bool) (p : IsForkPart c.count c.table disk base twin n σ.own v m hidden) (area : ℕ → List ℕ) (same : IsSameArea c area) where
    abbrev d : Content
    d = with_table c v area

    abbrev od : Outline
    od = outline d

    -- where a volume is from
    pub data Source (x : Name) (r : Row) : Type 0 where
      settled : is_apart us x ≡ true → rows c.table x ≡ Some r → Source x r
      the_entry : x ≡ e → making v ≡ e ∷ [] → Source x r
      the_image : x ≡ m → r ≡ kept_as σ.own m hidden → Source x r
      a_new : IsNew disk base twin m x hidden r → m ≡ n → rows c.table x ≡ Some r → Source x r

    pub source : (x : Name) (r : Row) → rows v x ≡ Some r → Source x r
    source x r at = by (is_apart us x) refl
      where
        of : ((x ≡ e) × (making v ≡ e ∷ [])) ⊎ ((x ≡ m) ⊎ (IsNew disk base twin m x hidden r × (m ≡ n) × (rows c.table x ≡ Some r))) → Source x r
        of (inl k) = the_entry k.0 k.1
        of (inr (inl is)) = the_image is (same_Some r (kept_as σ.own m hidden) (sym at ∙ ap (rows v) is ∙ p.there))
        of (inr (inr k)) = a_new k.0 k.1 k.2

        by : (b : Bool) → is_apart us x ≡ b → Source x r
        by true is = settled is (sym (p.apart x is) ∙ at)
        by false is = of (p.volumes x r at is)

    -- ---- images

    whole_then : (x : Name) → IsAtSize c.table x
    whole_then x = whole_fork c.table x disk base twin (ap head entry)

    whole_now : (x : Name) → IsAtSize v x
    whole_now x = by p.entries
      where
        by : (making v ≡ e ∷ []) ⊎ ((making v ≡ []) × (hidden ≡ false) × ((m ≡ Vhd disk) ⊎ (m ≡ Raw disk))) → IsAtSize v x
        by (inl is) = whole_fork v x disk base twin (ap head is)
        by (inr k) = whole_none v x k.0

    sectors_moved : (x y : Name) (was now : Row) → rows c.table x ≡ Some was → rows v y ≡ Some now → now.extents ≡ was.extents → (q : ℕ) → q < size_of c x → sectors_of d y q ≡ sectors_of c x q
    unfolding sectors_of piece
    sectors_moved x y was now at there long q below =
        ap (λ es. area (spot c.extent es q)) (ap extents_of there ∙ long ∙ sym (ap extents_of at))
        ∙ same (spot c.extent (extents_of (rows c.table x)) q) (spot_below c.count c.extent (rows c.table) x q (spread c.count c.table table) extent_some below)

    alike_volume : (x y : Name) (was now : Row) → rows c.table x ≡ Some was → rows v y ≡ Some now → now.extents ≡ was.extents → now.fresh ≡ was.fresh → IsSameVolume c d x y was now
    alike_volume x y was now at there long fresh = record {
      extent = refl;
      block = refl;
      entries = refl;
      before = at;
      after = there;
      extents = long;
      fresh = fresh;
      sectors = sectors_moved x y was now at there long;
    }

    pub image_moved : (x y : Name) (was now : Row) → AreAlike x y → rows c.table x ≡ Some was → rows v y ≡ Some now → now.extents ≡ was.extents → now.fresh ≡ was.fresh → image_of d y ≡ image_of c x
    image_moved x y was now (inl k) at there long fresh =
        ap (image_of d) k.3
        ∙ vhd_same c d k.0 k.1 was now geometry (alike_volume (Vhd k.0) (Vhd k.1) was now (sym (ap (rows c.table) k.2) ∙ at) (sym (ap (rows v) k.3) ∙ there) long fresh) (whole_then (Vhd k.0)) (whole_now (Vhd k.1))
        ∙ ap (image_of c) (sym k.2)
    image_moved x y was now (inr k) at there long fresh =
        ap (image_of d) k.3
        ∙ raw_same c d k.0 k.1 was now (alike_volume (Raw k.0) (Raw k.1) was now (sym (ap (rows c.table) k.2) ∙ at) (sym (ap (rows v) k.3) ∙ there) long fresh)
        ∙ ap (image_of c) (sym k.2)

    apart_sectors : (y : Name) (q : ℕ) → is_apart us y ≡ true → q < size_of c y → sectors_of d y q ≡ sectors_of c y q
    unfolding sectors_of piece
    apart_sectors y q apart below =
        ap (λ es. area (spot c.extent es q)) (ap extents_of (p.apart y apart))
        ∙ same (spot c.extent (extents_of (rows c.table y)) q) (spot_below c.count c.extent (rows c.table) y q (spread c.count c.table table) extent_some below)

    pub images_apart : (x : Name) → is_apart us x ≡ true → image_of d x ≡ image_of c x
    images_apart x is =
        (same_images c d us geometry (record {
          extent = refl;
          block = refl;
          entries = refl;
          rows = λ y apart. p.apart y apart;
          sectors = λ y q apart below. apart_sectors y q apart below;
          whole = λ y apart. whole_then y;
          still_whole = λ y apart. whole_now y;
        })).images x is

    pub kinds : AreAlike n m
    kinds = by p.moved p.place
      where
        same_name : m ≡ n → (k : Name) → m ≡ k → AreAlike k k → AreAlike n m
        same_name is k at alike = subst (λ x. AreAlike x m) is (subst (λ x. AreAlike x x) (sym at) alike)

        by : (m ≡ n) ⊎ (((n ≡ Vhd base) × (m ≡ Vhd disk)) ⊎ ((n ≡ Raw base) × (m ≡ Raw disk))) → ((hidden ≡ false) × ((m ≡ Vhd disk) ⊎ (m ≡ Raw disk))) ⊎ ((m ≡ n) × ((m ≡ Vhd base) ⊎ (m ≡ Raw base))) → AreAlike n m
        by (inr (inl k)) place = inl (base, disk, k.0, k.1)
        by (inr (inr k)) place = inr (base, disk, k.0, k.1)
        by (inl is) (inl (free, inl at)) = same_name is (Vhd disk) at (inl (disk, disk, refl, refl))
        by (inl is) (inl (free, inr at)) = same_name is (Raw disk) at (inr (disk, disk, refl, refl))
        by (inl is) (inr (_, inl at)) = same_name is (Vhd base) at (inl (base, base, refl, refl))
        by (inl is) (inr (_, inr at)) = same_name is (Raw base) at (inr (base, base, refl, refl))

    -- the disk's image
    pub image_kept : image_of d m ≡ image_of c n
    image_kept = image_moved n m σ.own (kept_as σ.own m hidden) kinds σ.there p.there refl refl

    new_alike : (x : Name) → (x ≡ Vhd disk) ⊎ (x ≡ Vhd twin) → AreAlike x x
    new_alike x (inl is) = inl (disk, disk, is, is)
    new_alike x (inr is) = inl (twin, twin, is, is)

    pub image_new : (x : Name) (r : Row) → IsNew disk base twin m x hidden r → rows c.table x ≡ Some r → rows v x ≡ Some r → image_of d x ≡ image_of c x
    image_new x r new at there = image_moved x x r r (new_alike x new.name) at there refl refl

    pub no_image : (x : Name) → rows v x ≡ None → image_of d x ≡ None
    no_image x none = by (option_cases (image_of d x))
      where
        by : (image_of d x ≡ None) ⊎ ((i : Image) × (image_of d x ≡ Some i)) → image_of d x ≡ None
        by (inl is) = is
        by (inr k) = let r = image_there d x k.0 k.1 in absurd (none-some r.0 (sym none ∙ r.1))

    readings_alike : SameReadings c d
    unfolding sectors_of piece
    readings_alike k below =
        ap reading (ap (λ es. area (spot c.extent es k)) (ap extents_of (p.apart Mgt refl))
        ∙ same (spot c.extent (extents_of (rows c.table Mgt)) k) (spot_below c.count c.extent (rows c.table) Mgt k (spread c.count c.table table) extent_some (omega (arith, below, room))))

    -- ---- parents and children

    links_apart : (x : Name) → is_apart us x ≡ true → od.links x ≡ o.links x
    links_apart x is = ap link_of (images_apart x is)

    links_kept : od.links m ≡ o.links n
    links_kept = ap link_of image_kept

    -- a parent is apart, or it is the hidden base, of one of the new images
    pub parents_now : (x q : Name) (i : Link) → od.links x ≡ Some i → i.parent ≡ Some q
        → (is_apart us q ≡ true) ⊎ ((q ≡ m) × (hidden ≡ true) × (m ≡ n) × ((n ≡ Vhd base) ⊎ (n ≡ Raw base)) × ((x ≡ Vhd disk) ⊎ (x ≡ Vhd twin)))
    parents_now x q i at up = of (source x there.0 there.1)
      where
        image : (y : Image) × (image_of d x ≡ Some y) × (y.parent ≡ i.parent)
        image = linked_image (image_of d x) i at

        there : (r : Row) × (row d x ≡ Some r)
        there = image_there d x image.0 image.1

        of_settled : is_apart us x ≡ true → (is_apart us q ≡ true) ⊎ ((q ≡ n) × ((n ≡ Vhd base) ⊎ (n ≡ Raw base)) × ((x ≡ Vhd disk) ⊎ (x ≡ Vhd twin))) → is_apart us q ≡ true
        of_settled apart (inl is) = is
        of_settled apart (inr k) = absurd (true≢false (sym apart ∙ new_speaks disk base twin x k.2))

        of_image : (is_apart us q ≡ true) ⊎ ((q ≡ n) × ((n ≡ Vhd base) ⊎ (n ≡ Raw base)) × ((n ≡ Vhd disk) ⊎ (n ≡ Vhd twin))) → is_apart us q ≡ true
        of_image (inl is) = is
        of_image (inr k) = absurd (base_old disk base twin c.table n σ n k.1 k.2)

        of_new : hidden ≡ true → m ≡ n → (is_apart us q ≡ true) ⊎ ((q ≡ n) × ((n ≡ Vhd base) ⊎ (n ≡ Raw base)) × ((x ≡ Vhd disk) ⊎ (x ≡ Vhd twin)))
            → (is_apart us q ≡ true) ⊎ ((q ≡ m) × (hidden ≡ true) × (m ≡ n) × ((n ≡ Vhd base) ⊎ (n ≡ Raw base)) × ((x ≡ Vhd disk) ⊎ (x ≡ Vhd twin)))
        of_new over here (inl is) = inl is
        of_new over here (inr k) = inr (k.0 ∙ sym here, over, here, k.1, k.2)

        of : Source x there.0 → (is_apart us q ≡ true) ⊎ ((q ≡ m) × (hidden ≡ true) × (m ≡ n) × ((n ≡ Vhd base) ⊎ (n ≡ Raw base)) × ((x ≡ Vhd disk) ⊎ (x ≡ Vhd twin)))
        of (settled apart was) = inl (of_settled apart (parents c disk base twin n entry s σ x q i (sym (links_apart x apart) ∙ at) up))
        of (the_entry is made) = absurd (none-some i (sym (ap od.links is ∙ no_entry_link d disk base twin) ∙ at))
        of (the_image is row_is) = inl (of_image (parents c disk base twin n entry s σ n q i (sym links_kept ∙ sym (ap od.links is) ∙ at) up))
        of (a_new new here was) = of_new new.over here (parents c disk base twin n entry s σ x q i (sym (ap link_of (image_new x there.0 new was there.1)) ∙ at) up)

    -- what a child's link says
    parent_said : (q : Name) (l : Option Link) → parent_is q l ≡ true → (i : Link) × (l ≡ Some i) × (i.parent ≡ Some q)
    parent_said q None h = absurd (true≢false (sym h))
    parent_said q (Some i) h = by i.parent refl h
      where
        by : (x : Option Name) → i.parent ≡ x → elim x as (λ _. Bool) [ None ↦ false | Some z ↦ same_image z q ] ≡ true → (j : Link) × (Some i ≡ Some j) × (j.parent ≡ Some q)
        by None is k = absurd (true≢false (sym k))
        by (Some z) is k = (i, refl, is ∙ ap Some (same_image-sound z q k))

    nothing_in : (xs : List Row) → ((r : Row) → In r xs → ⊥) → (length xs == 0) ≡ true
    nothing_in [] none = refl
    nothing_in (x ∷ xs) none = absurd (none x (inl refl))

    is_empty : (xs : List Row) (r : Row) → (length xs == 0) ≡ true → In r xs → ⊥
    is_empty [] r h i = i
    is_empty (x ∷ xs) r h i = let z = eqb-true (length (x ∷ xs)) 0 h in cc

    found_now : (r : Row) → In r v.volumes → rows v r.name ≡ Some r
    found_now r i = found_in v.volumes (let t = p.table in t.volumes.rising) r i

    was_child : (q z : Name) (r : Row) → rows c.table z ≡ Some r → parent_is q (o.links z) ≡ true → In r (children o q)
    unfolding children
    was_child q z r at h =
        filter-In (λ r. parent_is q (o.links r.name)) c.table.volumes r (row_of-In c.table.volumes z r at).0 (ap (λ x. parent_is q (o.links x)) (row_of-name c.table.volumes z r at) ∙ h)

    -- where an image had no children it has none
    childless_apart : (q : Name) → is_apart us q ≡ true → (length (children o q) == 0) ≡ true → (length (children od q) == 0) ≡ true
    unfolding children
    childless_apart q apart none = nothing_in (children od q) (λ r i. let k = In-filter (λ r. parent_is q (od.links r.name)) v.volumes r i in each r (found_now r k.0) k.1 (source r.name r (found_now r k.0)))
      where
        each : (r : Row) → rows v r.name ≡ Some r → parent_is q (od.links r.name) ≡ true → Source r.name r → ⊥
        each r there h (settled away was) = is_empty (children o q) r none (was_child q r.name r was (ap (parent_is q) (sym (links_apart r.name away)) ∙ h))
        each r there h (the_entry is made) = true≢false (sym h ∙ ap (λ x. parent_is q (od.links x)) is ∙ ap (parent_is q) (no_entry_link d disk base twin))
        each r there h (the_image is row_is) = is_empty (children o q) σ.own none (was_child q n σ.own σ.there (ap (parent_is q) (sym links_kept ∙ sym (ap od.links is)) ∙ h))
        each r there h (a_new new here was) = is_empty (children o q) r none (was_child q r.name r was (ap (parent_is q) (sym (ap link_of (image_new r.name r new was there))) ∙ h))

    parents_apart : (x q : Name) (i : Link) → is_apart us x ≡ true → o.links x ≡ Some i → i.parent ≡ Some q → is_apart us q ≡ true
    parents_apart x q i apart at up = by (parents c disk base twin n entry s σ x q i at up)
      where
        by : (is_apart us q ≡ true) ⊎ ((q ≡ n) × ((n ≡ Vhd base) ⊎ (n ≡ Raw base)) × ((x ≡ Vhd disk) ⊎ (x ≡ Vhd twin))) → is_apart us q ≡ true
        by (inl is) = is
        by (inr k) = absurd (true≢false (sym apart ∙ new_speaks disk base twin x k.2))

    pub alike : IsAlikeApart o od us
    alike = record {
      extent = refl;
      block = refl;
      entries = refl;
      later = p.later;
      found = found_now;
      rows_apart = p.apart;
      links_apart = links_apart;
      parents_apart = parents_apart;
      childless_apart = childless_apart;
    }

    -- ---- chains

    chain_step : (k : ℕ) (x y : Name) → od.links y ≡ o.links x → ((q : Name) (i : Link) → o.links x ≡ Some i → i.parent ≡ Some q → chain_length od k q ≡ chain_length o k q)
        → chain_length od (suc k) y ≡ chain_length o (suc k) x
    unfolding chain_length
    chain_step k x y links further =
        ap (λ (l : Option Link). elim l as (λ _. ℕ) [ None ↦ 0 | Some i ↦ suc (elim i.parent as (λ _. ℕ) [ None ↦ 0 | Some q ↦ chain_length od k q ]) ]) links ∙ by (o.links x) refl
      where
        up : (i : Link) → o.links x ≡ Some i → (z : Option Name) → i.parent ≡ z
            → elim z as (λ _. ℕ) [ None ↦ 0 | Some q ↦ chain_length od k q ] ≡ elim z as (λ _. ℕ) [ None ↦ 0 | Some q ↦ chain_length o k q ]
        up i is None at = refl
        up i is (Some q) at = further q i is at

        by : (l : Option Link) → o.links x ≡ l
            → elim l as (λ _. ℕ) [ None ↦ 0 | Some i ↦ suc (elim i.parent as (λ _. ℕ) [ None ↦ 0 | Some q ↦ chain_length od k q ]) ]
            ≡ elim l as (λ _. ℕ) [ None ↦ 0 | Some i ↦ suc (elim i.parent as (λ _. ℕ) [ None ↦ 0 | Some q ↦ chain_length o k q ]) ]
        by None is = refl
        by (Some i) is = ap suc (up i is i.parent refl)

    pub chain_kept : (k : ℕ) → chain_length od k m ≡ chain_length o k n
    unfolding chain_length
    chain_kept zero = refl
    chain_kept (suc k) = chain_step k n m links_kept (λ q i at up. by q (parents c disk base twin n entry s σ n q i at up))
      where
        by : (q : Name) → (is_apart us q ≡ true) ⊎ ((q ≡ n) × ((n ≡ Vhd base) ⊎ (n ≡ Raw base)) × ((n ≡ Vhd disk) ⊎ (n ≡ Vhd twin))) → chain_length od k q ≡ chain_length o k q
        by q (inl is) = chain_alike o od us alike k q is
        by q (inr z) = absurd (base_old disk base twin c.table n σ n z.1 z.2)

    chain_new : (k : ℕ) (x : Name) → od.links x ≡ o.links x → m ≡ n → chain_length od (suc k) x ≡ chain_length o (suc k) x
    chain_new k x links here = chain_step k x x links (λ q i at up. by q (parents c disk base twin n entry s σ x q i at up))
      where
        by : (q : Name) → (is_apart us q ≡ true) ⊎ ((q ≡ n) × ((n ≡ Vhd base) ⊎ (n ≡ Raw base)) × ((x ≡ Vhd disk) ⊎ (x ≡ Vhd twin))) → chain_length od k q ≡ chain_length o k q
        by q (inl is) = chain_alike o od us alike k q is
        by q (inr z) = ap (chain_length od k) (z.0 ∙ sym here) ∙ chain_kept k ∙ ap (chain_length o k) (sym z.0)

    -- ---- links

    right_base : (size : ℕ) → hidden ≡ true → is_parent_right o size n ≡ true → is_parent_right od size m ≡ true
    right_base size over h =
        and_from (is_hidden v m) (is_no_larger size (od.links m)) (ap (of_row (λ r. r.hidden && not r.fresh)) p.there ∙ ap₂ (λ a b. a && not b) over σ.filled)
        (ap (is_no_larger size) links_kept ∙ (and_parts (is_hidden c.table n) (is_no_larger size (o.links n)) h).1)

    linked_now : (x y : Name) (i : Link) → od.links y ≡ o.links x → o.links x ≡ Some i → is_linked o i ≡ true → is_linked od i ≡ true
    linked_now x y i links at h = by i.parent refl
      where
        of : (q : Name) → i.parent ≡ Some q → (is_apart us q ≡ true) ⊎ ((q ≡ m) × (hidden ≡ true) × (m ≡ n) × ((n ≡ Vhd base) ⊎ (n ≡ Raw base)) × ((y ≡ Vhd disk) ⊎ (y ≡ Vhd twin))) → is_parent_right od i.size q ≡ true
        of q up (inl is) = parent_alike o od us alike i.size q is ∙ parent_right c disk base twin n entry s σ i q h up
        of q up (inr k) =
            ap (is_parent_right od i.size) k.0 ∙ right_base i.size k.1 (ap (is_parent_right o i.size) (sym k.2 ∙ sym k.0) ∙ parent_right c disk base twin n entry s σ i q h up)

        by : (z : Option Name) → i.parent ≡ z → is_linked od i ≡ true
        by None up = ap (λ w. elim w as (λ _. Bool) [ None ↦ true | Some q ↦ is_parent_right od i.size q ]) up
        by (Some q) up = ap (λ w. elim w as (λ _. Bool) [ None ↦ true | Some q ↦ is_parent_right od i.size q ]) up ∙ of q up (parents_now y q i (links ∙ at) up)

    -- ---- names, and the numbers in them

    named_now : AreNamed disk base twin n v m hidden
    named_now = named_so disk base twin c.table n σ c.count v m hidden p

    entry_then : (r : Row) × (rows c.table e ≡ Some r)
    entry_then = entry_found c.table e entry

    stage_then : (is_forking c.table disk base twin ≡ true) × (are_past c.table e ≡ true)
    unfolding is_at_stage
    stage_then =
        let named = row_of-name c.table.volumes e entry_then.0 entry_then.1 in
        and_parts (is_forking c.table disk base twin) (are_past c.table e)
        (not_false (is_forking c.table disk base twin && are_past c.table e)
        (sym (ap (λ x. is_entry x && not (is_at_stage c.table x && are_past c.table x)) named) ∙ s.at_stage entry_then.0 (row_of-In c.table.volumes e entry_then.0 entry_then.1).0))

    entry_past : are_past v e ≡ true
    entry_past = all_past (disk ∷ base ∷ twin ∷ []) c.table.sequence v.sequence p.later stage_then.1

    past_now : (u : List ℕ) → IsThree disk base twin u → (is_past v.sequence u && true) ≡ true
    past_now u k =
        let first = and_parts (is_past v.sequence disk) (is_past v.sequence base && (is_past v.sequence twin && true)) entry_past in
        let second = and_parts (is_past v.sequence base) (is_past v.sequence twin && true) first.1 in
        by first.0 second.0 second.1 k
      where
        by : is_past v.sequence disk ≡ true → is_past v.sequence base ≡ true → (is_past v.sequence twin && true) ≡ true → IsThree disk base twin u → (is_past v.sequence u && true) ≡ true
        by d b t (inl is) = ap (λ x. is_past v.sequence x && true) is ∙ ap (λ x. x && true) d
        by d b t (inr (inl is)) = ap (λ x. is_past v.sequence x && true) is ∙ ap (λ x. x && true) b
        by d b t (inr (inr is)) = ap (λ x. is_past v.sequence x && true) is ∙ t

    m_past : are_past v m ≡ true
    m_past = by p.place
      where
        by : ((hidden ≡ false) × ((m ≡ Vhd disk) ⊎ (m ≡ Raw disk))) ⊎ ((m ≡ n) × ((m ≡ Vhd base) ⊎ (m ≡ Raw base))) → are_past v m ≡ true
        by (inl (_, inl at)) = ap (are_past v) at ∙ past_now disk (inl refl)
        by (inl (_, inr at)) = ap (are_past v) at ∙ past_now disk (inl refl)
        by (inr (_, inl at)) = ap (are_past v) at ∙ past_now base (inr (inl refl))
        by (inr (_, inr at)) = ap (are_past v) at ∙ past_now base (inr (inl refl))

    new_past : (x : Name) → (x ≡ Vhd disk) ⊎ (x ≡ Vhd twin) → are_past v x ≡ true
    new_past x (inl is) = ap (are_past v) is ∙ past_now disk (inl refl)
    new_past x (inr is) = ap (are_past v) is ∙ past_now twin (inr (inr refl))

    -- ---- each volume passes

    and_false : (b : Bool) → (b && false) ≡ false
    and_false true = refl
    and_false false = refl

    -- a volume that holds what one held passes the checks that the one passed
    pass_moved : (x y : Name) (was now : Row) → AreAlike x y → rows c.table x ≡ Some was → rows v y ≡ Some now → now.name ≡ y → now.extents ≡ was.extents → now.fresh ≡ was.fresh
        → has_twin v y ≡ false → are_past v y ≡ true → (now.hidden || (length (children od now.name) == 0)) ≡ true → chain_length od 31 y ≡ chain_length o 31 x → PassesAlone od now
    unfolding is_entry_linked is_at_stage
    pass_moved x y was now (inl k) at there named long fresh twin_gone past seen chain = record {
      named = ap (λ z. is_data z && (has_twin v z || not (are_past v z))) named ∙ ap₂ (λ f g. is_data y && (f || not g)) twin_gone past ∙ and_false (is_data y);
      at_stage = ap (λ z. is_entry z && not (is_at_stage v z && are_past v z)) (named ∙ k.3);
      owned = ap (is_orphaned v) (named ∙ k.3);
      valid = ap (λ z. not now.fresh && is_image_wrong od now z) (named ∙ k.3) ∙ ap₂ (λ f l. not f && is_none l) fresh links
          ∙ sym (ap (λ z. not was.fresh && is_image_wrong o was z) (was_named ∙ k.2)) ∙ s.valid was inside;
      placed = ap (tree_wrong_as od now) (named ∙ k.3) ∙ ap (is_misplaced od now) links ∙ placed (o.links (Vhd k.0)) refl;
      linked = ap (is_entry_linked od) (named ∙ k.3);
    }
      where
        inside : In was c.table.volumes
        inside = (row_of-In c.table.volumes x was at).0

        was_named : was.name ≡ x
        was_named = row_of-name c.table.volumes x was at

        moved : od.links y ≡ o.links x
        moved = ap link_of (image_moved x y was now (inl k) at there long fresh)

        links : od.links (Vhd k.1) ≡ o.links (Vhd k.0)
        links = ap od.links (sym k.3) ∙ moved ∙ ap o.links k.2

        wrong_then : is_misplaced o was (o.links (Vhd k.0)) ≡ false
        wrong_then = sym (ap (tree_wrong_as o was) (was_named ∙ k.2)) ∙ s.placed was inside

        placed : (l : Option Link) → o.links (Vhd k.0) ≡ l → is_misplaced od now l ≡ false
        placed None is = refl
        placed (Some i) is =
            let right = and_parts (is_linked o i) (nat_le (chain_length o 31 was.name) 30 && (was.hidden || (length (children o was.name) == 0))) (not_false _ (sym (ap (is_misplaced o was) is) ∙ wrong_then)) in
            let short = and_parts (nat_le (chain_length o 31 was.name) 30) (was.hidden || (length (children o was.name) == 0)) right.1 in
            all_hold (is_linked od i) (nat_le (chain_length od 31 now.name) 30) (now.hidden || (length (children od now.name) == 0)) (linked_now x y i moved (ap o.links k.2 ∙ is) right.0)
            (ap (λ z. nat_le (chain_length od 31 z) 30) named ∙ ap (λ q. nat_le q 30) chain ∙ ap (λ z. nat_le (chain_length o 31 z) 30) (sym was_named) ∙ short.0) seen
    pass_moved x y was now (inr k) at there named long fresh twin_gone past seen chain = record {
      named = ap (λ z. is_data z && (has_twin v z || not (are_past v z))) named ∙ ap₂ (λ f g. is_data y && (f || not g)) twin_gone past ∙ and_false (is_data y);
      at_stage = ap (λ z. is_entry z && not (is_at_stage v z && are_past v z)) (named ∙ k.3);
      owned = ap (is_orphaned v) (named ∙ k.3);
      valid = ap (λ z. not now.fresh && is_image_wrong od now z) (named ∙ k.3) ∙ ap₂ (λ f es. not f && nat_lt (c.entries * c.block) (span c.extent es)) fresh long
          ∙ sym (ap (λ z. not was.fresh && is_image_wrong o was z) (row_of-name c.table.volumes x was at ∙ k.2)) ∙ s.valid was (row_of-In c.table.volumes x was at).0;
      placed = ap (tree_wrong_as od now) (named ∙ k.3);
      linked = ap (is_entry_linked od) (named ∙ k.3);
    }

    -- no image has the disk's image as parent while that is visible
    m_childless : (b : Bool) → hidden ≡ b → (b || (length (children od m) == 0)) ≡ true
    unfolding children
    m_childless true is = refl
    m_childless false is = nothing_in (children od m) (λ r i.
        let k = In-filter (λ r. parent_is m (od.links r.name)) v.volumes r i in
        let w = parent_said m (od.links r.name) k.1 in
        of r (parents_now r.name m w.0 w.1 w.2))
      where
        of : (r : Row) → (is_apart us m ≡ true) ⊎ ((m ≡ m) × (hidden ≡ true) × (m ≡ n) × ((n ≡ Vhd base) ⊎ (n ≡ Raw base)) × ((r.name ≡ Vhd disk) ⊎ (r.name ≡ Vhd twin))) → ⊥
        of r (inl apart) = true≢false (sym apart ∙ named_now.speaks)
        of r (inr k) = true≢false (sym k.1 ∙ is)

    new_childless : (x : Name) → (x ≡ Vhd disk) ⊎ (x ≡ Vhd twin) → (length (children od x) == 0) ≡ true
    unfolding children
    new_childless x new = nothing_in (children od x) (λ r i.
        let k = In-filter (λ r. parent_is x (od.links r.name)) v.volumes r i in
        let w = parent_said x (od.links r.name) k.1 in
        of r (parents_now r.name x w.0 w.1 w.2))
      where
        of : (r : Row) → (is_apart us x ≡ true) ⊎ ((x ≡ m) × (hidden ≡ true) × (m ≡ n) × ((n ≡ Vhd base) ⊎ (n ≡ Raw base)) × ((r.name ≡ Vhd disk) ⊎ (r.name ≡ Vhd twin))) → ⊥
        of r (inl apart) = true≢false (sym apart ∙ new_speaks disk base twin x new)
        of r (inr k) = base_old disk base twin c.table n σ n k.3 (subst (λ y. (y ≡ Vhd disk) ⊎ (y ≡ Vhd twin)) (k.0 ∙ k.2) new)

    pass_image : PassesAlone od (kept_as σ.own m hidden)
    pass_image = pass_moved n m σ.own (kept_as σ.own m hidden) kinds σ.there p.there refl refl refl named_now.alone m_past (m_childless hidden refl) (chain_kept 31)

    pass_new : (x : Name) (r : Row) → rows v x ≡ Some r → IsNew disk base twin m x hidden r → m ≡ n → rows c.table x ≡ Some r → PassesAlone od r
    pass_new x r there new here was =
        let named = row_of-name v.volumes x r there in
        pass_moved x x r r (new_alike x new.name) was there named refl refl (named_now.new_alone x here new.base_is new.name) (new_past x new.name)
        (or_right r.hidden (length (children od r.name) == 0) (ap (λ y. length (children od y) == 0) named ∙ new_childless x new.name))
        (chain_new 30 x (ap link_of (image_new x r new was there)) here)

    -- ---- the entry

    simple_now : IsSimple v
    simple_now = all-of (λ r. is_simple r ≡ true) v.volumes (λ r i. each r (source r.name r (found_now r i)))
      where
        new_simple : (x : Name) → (x ≡ Vhd disk) ⊎ (x ≡ Vhd twin) → is_simple_name x ≡ true
        new_simple x (inl is) = ap is_simple_name is
        new_simple x (inr is) = ap is_simple_name is

        m_simple : AreAlike n m → is_simple_name m ≡ true
        m_simple (inl k) = ap is_simple_name k.3
        m_simple (inr k) = ap is_simple_name k.3

        each : (r : Row) → Source r.name r → is_simple r ≡ true
        each r (settled apart was) = simple_row disk base twin c.table s.only entry r.name r was
        each r (the_entry is made) = ap is_simple_name is
        each r (the_image is row_is) = ap is_simple_name is ∙ m_simple kinds
        each r (a_new new here was) = new_simple r.name new.name

    folding_none : folding v ≡ []
    folding_none = simple_folding v.volumes simple_now

    forking_now : is_forking v disk base twin ≡ true
    forking_now =
        and_from (not (bytes_eq disk base)) _ (ap not (bytes_eq-apart disk base σ.disk_base))
        (and_from (not (bytes_eq disk twin)) _ (ap not (bytes_eq-apart disk twin σ.disk_twin))
        (and_from (not (bytes_eq base twin)) _ (ap not (bytes_eq-apart base twin σ.base_twin))
        (and_from (not (list_any (is_among (disk ∷ base ∷ twin ∷ [])) (folding_uuids v))) _
        (ap (λ ns. not (list_any (is_among (disk ∷ base ∷ twin ∷ [])) (elim (head ns) as (λ _. List (List ℕ)) [ None ↦ [] | Some x ↦ uuids_in x ]))) folding_none) (by p.place))))
      where
        by : ((hidden ≡ false) × ((m ≡ Vhd disk) ⊎ (m ≡ Raw disk))) ⊎ ((m ≡ n) × ((m ≡ Vhd base) ⊎ (m ≡ Raw base))) → (is_fork_begun v disk base twin || is_fork_made v disk base twin) ≡ true
        by (inl k) = ap (λ b. b || is_fork_made v disk base twin) (named_now.begun k.0 k.1)
        by (inr k) = or_right (is_fork_begun v disk base twin) (is_fork_made v disk base twin) (named_now.made k.0 k.1)

    linked_entry : is_fork_linked od disk base twin ≡ true
    unfolding children same_image
    linked_entry = by p.place
      where
        last : Bool
        last = length (filter (λ r. not (same_image r.name (Vhd disk) || same_image r.name (Vhd twin))) (children_with od base)) == 0

        new_name : (r : Row) → (r.name ≡ Vhd disk) ⊎ (r.name ≡ Vhd twin) → not (same_image r.name (Vhd disk) || same_image r.name (Vhd twin)) ≡ false
        new_name r (inl is) = ap not (ap (λ x. same_image x (Vhd disk) || same_image x (Vhd twin)) is ∙ ap (λ b. b || bytes_eq disk twin) (bytes_eq-refl disk))
        new_name r (inr is) = ap not (ap (λ x. same_image x (Vhd disk) || same_image x (Vhd twin)) is ∙ or_right (bytes_eq twin disk) (bytes_eq twin twin) (bytes_eq-refl twin))

        of_child : (r : Row) (q : Name) → is_apart us q ≡ false → In r (children od q) → not (same_image r.name (Vhd disk) || same_image r.name (Vhd twin)) ≡ true → ⊥
        of_child r q speaks i h =
            let k = In-filter (λ r. parent_is q (od.links r.name)) v.volumes r i in
            let w = parent_said q (od.links r.name) k.1 in
            of (parents_now r.name q w.0 w.1 w.2)
          where
            of : (is_apart us q ≡ true) ⊎ ((q ≡ m) × (hidden ≡ true) × (m ≡ n) × ((n ≡ Vhd base) ⊎ (n ≡ Raw base)) × ((r.name ≡ Vhd disk) ⊎ (r.name ≡ Vhd twin))) → ⊥
            of (inl apart) = true≢false (sym apart ∙ speaks)
            of (inr z) = true≢false (sym h ∙ new_name r z.4)

        of_children : (r : Row) → In r (children od (Vhd base)) ⊎ In r (children od (Raw base)) → not (same_image r.name (Vhd disk) || same_image r.name (Vhd twin)) ≡ true → ⊥
        of_children r (inl i) h = of_child r (Vhd base) (vhd_speaks disk base twin base (inr (inl refl))) i h
        of_children r (inr i) h = of_child r (Raw base) (raw_speaks disk base twin base (inr (inl refl))) i h

        no_others : (length (filter (λ r. not (same_image r.name (Vhd disk) || same_image r.name (Vhd twin))) (children_with od base)) == 0) ≡ true
        no_others = nothing_in (filter (λ r. not (same_image r.name (Vhd disk) || same_image r.name (Vhd twin))) (children_with od base)) (λ r i.
            let k = In-filter (λ r. not (same_image r.name (Vhd disk) || same_image r.name (Vhd twin))) (children_with od base) r i in
            of_children r (In-append (children od (Vhd base)) (children od (Raw base)) r k.0) k.1)

        made_then : m ≡ n → (m ≡ Vhd base) ⊎ (m ≡ Raw base) → is_fork_made c.table disk base twin ≡ true
        made_then here at_base = from σ.place
          where
            apart_kinds : (m ≡ Vhd base) ⊎ (m ≡ Raw base) → (n ≡ Vhd disk) ⊎ (n ≡ Raw disk) → ⊥
            apart_kinds (inl a) (inl b) = σ.disk_base (let z = sym b ∙ sym here ∙ a in cc)
            apart_kinds (inr a) (inr b) = σ.disk_base (let z = sym b ∙ sym here ∙ a in cc)
            apart_kinds (inl a) (inr b) = let z = sym b ∙ sym here ∙ a in cc
            apart_kinds (inr a) (inl b) = let z = sym b ∙ sym here ∙ a in cc

            from : ((image_with c.table base ≡ None) × (σ.own.hidden ≡ false) × ((n ≡ Vhd disk) ⊎ (n ≡ Raw disk))) ⊎ ((image_with c.table base ≡ Some n) × ((n ≡ Vhd base) ⊎ (n ≡ Raw base)) × (is_fork_made c.table disk base twin ≡ true))
                → is_fork_made c.table disk base twin ≡ true
            from (inl k) = absurd (apart_kinds at_base k.2)
            from (inr k) = k.2

        based : (m ≡ Vhd base) ⊎ (m ≡ Raw base) → (x : Name) → (x ≡ Vhd disk) ⊎ (x ≡ Vhd twin) → is_base_of base (o.links x) ≡ true → is_base_of base (od.links x) ≡ true
        based at_base x new h = from (option_cases (rows v x))
          where
            of : (r : Row) → rows v x ≡ Some r → Source x r → is_base_of base (od.links x) ≡ true
            of r there (settled apart was) = absurd (true≢false (sym apart ∙ new_speaks disk base twin x new))
            of r there (the_entry is made) = ap (λ y. is_base_of base (od.links y)) is ∙ ap (is_base_of base) (no_entry_link d disk base twin)
            of r there (the_image is row_is) = absurd (base_old disk base twin c.table n σ m at_base (subst (λ y. (y ≡ Vhd disk) ⊎ (y ≡ Vhd twin)) is new))
            of r there (a_new one here was) = ap (is_base_of base) (ap link_of (image_new x r one was there)) ∙ h

            from : (rows v x ≡ None) ⊎ ((r : Row) × (rows v x ≡ Some r)) → is_base_of base (od.links x) ≡ true
            from (inl none) = ap (λ l. is_base_of base (link_of l)) (no_image x none)
            from (inr k) = of k.0 k.1 (source x k.0 k.1)

        by : ((hidden ≡ false) × ((m ≡ Vhd disk) ⊎ (m ≡ Raw disk))) ⊎ ((m ≡ n) × ((m ≡ Vhd base) ⊎ (m ≡ Raw base))) → is_fork_linked od disk base twin ≡ true
        by (inl k) = ap (λ b. not b || (is_base_of base (od.links (Vhd disk)) && (is_base_of base (od.links (Vhd twin)) && last))) (named_now.not_made k.0 k.1)
        by (inr k) =
            let first = and_parts (is_base_of base (o.links (Vhd disk))) _ (linked_then c disk base twin n entry s σ (made_then k.0 k.1)) in
            let second = and_parts (is_base_of base (o.links (Vhd twin))) _ first.1 in
            or_right (not (is_fork_made v disk base twin)) (is_base_of base (od.links (Vhd disk)) && (is_base_of base (od.links (Vhd twin)) && last))
            (and_from (is_base_of base (od.links (Vhd disk))) _ (based k.1 (Vhd disk) (inl refl) first.0) (and_from (is_base_of base (od.links (Vhd twin))) _ (based k.1 (Vhd twin) (inr refl) second.0) no_others))

    pass_entry : (r : Row) → r.name ≡ e → PassesAlone od r
    unfolding is_entry_linked is_at_stage
    pass_entry r named = record {
      named = ap (λ x. is_data x && (has_twin v x || not (are_past v x))) named;
      at_stage = ap (λ x. is_entry x && not (is_at_stage v x && are_past v x)) named ∙ ap₂ (λ a b. not (a && b)) forking_now entry_past;
      owned = ap (is_orphaned v) named;
      valid = ap (λ x. not r.fresh && is_image_wrong od r x) named ∙ and_false (not r.fresh);
      placed = ap (tree_wrong_as od r) named;
      linked = ap (is_entry_linked od) named ∙ linked_entry;
    }

    -- a volume that speaks of none of them is that of the records, or an image
    settled_name : (x : Name) (r : Row) → rows c.table x ≡ Some r → is_apart us x ≡ true → is_settled_name us x ≡ true
    settled_name x r was apart = by x (is_making x) refl refl (simple_row disk base twin c.table s.only entry x r was) apart
      where
        no_entry : (y : Name) → x ≡ y → is_making y ≡ true → ⊥
        no_entry y is made = true≢false (sym apart ∙ ap (is_apart us) (only_entry disk base twin c.table s.only entry x r was (ap is_making is ∙ made)) ∙ entry_speaks disk base twin)

        by : (y : Name) (b : Bool) → is_making y ≡ b → x ≡ y → is_simple_name y ≡ true → is_apart us y ≡ true → is_settled_name us y ≡ true
        by Mgt b made is simple away = refl
        by (Vhd u) b made is simple away = away
        by (Raw u) b made is simple away = away
        by (Clone a k w) b made is simple away = absurd (no_entry (Clone a k w) is refl)
        by (Inflate u k) b made is simple away = absurd (no_entry (Inflate u k) is refl)
        by (Old u) b made is simple away = absurd (true≢false (sym simple))
        by (Cbt u) b made is simple away = refl
        by (Coalesce a k) b made is simple away = absurd (true≢false (sym simple))
        by (Relink a k) b made is simple away = absurd (true≢false (sym simple))
        by (Leaf a k) b made is simple away = absurd (true≢false (sym simple))

    passes : (r : Row) → In r v.volumes → PassesAlone od r
    passes r i = of (source r.name r (found_now r i))
      where
        of : Source r.name r → PassesAlone od r
        of (settled apart was) = by_name o od us alike (simple_sound c s) r i r.name refl (settled_name r.name r was apart)
        of (the_entry is made) = pass_entry r is
        of (the_image is row_is) = subst (PassesAlone od) (sym row_is) pass_image
        of (a_new new here was) = pass_new r.name r (found_now r i) new here was

    -- ---- where UUIDs stand

    beside_plain : (u : List ℕ) → beside v u ≡ stands_plainly v u
    beside_plain u = ap (λ ns. under (λ x. stands_folded v x u) (head ns) (stands_plainly v u)) folding_none

    pub stands_disk : standing_volume v disk ≡ Some m
    stands_disk = by p.entries
      where
        forked_by : ((hidden ≡ false) × ((m ≡ Vhd disk) ⊎ (m ≡ Raw disk))) ⊎ ((m ≡ n) × ((m ≡ Vhd base) ⊎ (m ≡ Raw base)))
            → elim (image_with v base) as (λ _. Option Name) [ None ↦ beside v disk | Some b ↦ Some b ] ≡ Some m
        forked_by (inl k) = ap (λ x. elim x as (λ _. Option Name) [ None ↦ beside v disk | Some b ↦ Some b ]) (named_now.no_base k.0 k.1) ∙ beside_plain disk ∙ named_now.disk_stands k.0 k.1
        forked_by (inr k) = ap (λ x. elim x as (λ _. Option Name) [ None ↦ beside v disk | Some b ↦ Some b ]) (named_now.has_base k.0 k.1)

        by : (making v ≡ e ∷ []) ⊎ ((making v ≡ []) × (hidden ≡ false) × ((m ≡ Vhd disk) ⊎ (m ≡ Raw disk))) → standing_volume v disk ≡ Some m
        by (inl is) = stands_making v disk e (ap head is) ∙ fork_disk v disk base twin (beside v disk) ∙ forked_by p.place
        by (inr k) = stands_beside v disk k.0 ∙ beside_plain disk ∙ named_now.disk_stands k.1 k.2

    pub stands_base : standing_volume v base ≡ None
    stands_base = by p.entries
      where
        by : (making v ≡ e ∷ []) ⊎ ((making v ≡ []) × (hidden ≡ false) × ((m ≡ Vhd disk) ⊎ (m ≡ Raw disk))) → standing_volume v base ≡ None
        by (inl is) =
            stands_making v base e (ap head is) ∙ fork_new v disk base twin base (beside v base) (bytes_eq-apart base disk (λ at. σ.disk_base (sym at))) (ap (λ b. b || bytes_eq base twin) (bytes_eq-refl base))
        by (inr k) = stands_beside v base k.0 ∙ beside_plain base ∙ named_now.base_fails k.1 k.2

    pub stands_twin : standing_volume v twin ≡ None
    stands_twin = by p.entries
      where
        by : (making v ≡ e ∷ []) ⊎ ((making v ≡ []) × (hidden ≡ false) × ((m ≡ Vhd disk) ⊎ (m ≡ Raw disk))) → standing_volume v twin ≡ None
        by (inl is) =
            stands_making v twin e (ap head is)
            ∙ fork_new v disk base twin twin (beside v twin) (bytes_eq-apart twin disk (λ at. σ.disk_twin (sym at))) (or_right (bytes_eq twin base) (bytes_eq twin twin) (bytes_eq-refl twin))
        by (inr k) = stands_beside v twin k.0 ∙ beside_plain twin ∙ named_now.twin_fails k.1 k.2

    pub stands_apart : (u : List ℕ) → is_among us u ≡ false → standing_volume v u ≡ stands_plainly v u
    stands_apart u other = by p.entries
      where
        by : (making v ≡ e ∷ []) ⊎ ((making v ≡ []) × (hidden ≡ false) × ((m ≡ Vhd disk) ⊎ (m ≡ Raw disk))) → standing_volume v u ≡ stands_plainly v u
        by (inl is) = stands_making v u e (ap head is) ∙ fork_other v disk base twin u (beside v u) other ∙ beside_plain u
        by (inr k) = stands_beside v u k.0 ∙ beside_plain u

    pub same_apart : IsSameApart c d us
    same_apart = record { rows = p.apart; images = images_apart }

  -- ---- sound, fact by fact

  now : IsForkPart c.count c.table disk base twin n σ.own c.table n σ.own.hidden
  now = part_now c.count c.table disk base twin n table entry σ

  module _ (v : VolumeTable) (m : Name) (hidden : Bool) (p : IsForkPart c.count c.table disk base twin n σ.own v m hidden) (area : ℕ → List ℕ) (same : IsSameArea c area) where
    stands_then : (u : List ℕ) (x : Name) → standing_volume v u ≡ Some x → (y : Name) × (standing_volume c.table u ≡ Some y)
    stands_then u x is = by (which disk base twin u).cases
      where
        by : (u ≡ disk) ⊎ ((u ≡ base) ⊎ ((u ≡ twin) ⊎ (is_among us u ≡ false))) → (y : Name) × (standing_volume c.table u ≡ Some y)
        by (inl at) = (n, ap (standing_volume c.table) at ∙ stands_disk c.table n σ.own.hidden now c.area (λ q below. refl))
        by (inr (inl at)) = absurd (none-some x (sym (stands_base v m hidden p area same) ∙ ap (standing_volume v) (sym at) ∙ is))
        by (inr (inr (inl at))) = absurd (none-some x (sym (stands_twin v m hidden p area same) ∙ ap (standing_volume v) (sym at) ∙ is))
        by (inr (inr (inr other))) = (
          x,
          stands_apart c.table n σ.own.hidden now c.area (λ q below. refl) u other
              ∙ sym (plainly_same c (with_table c v area) us u (same_apart v m hidden p area same) other) ∙ sym (stands_apart v m hidden p area same u other) ∙ is,
        )

    pub part_sound : SimpleSound (with_table c v area)
    part_sound = record {
      only = simple_now v m hidden p area same;
      records_row = s.records_row;
      records_there = p.apart Mgt refl ∙ s.records_there;
      records_extents = s.records_extents;
      few_images = let few = p.few in let all = s.few_images in omega (arith, few, all);
      named = λ r i. (passes v m hidden p area same r i).named;
      one_folding = ap second (simple_folding v.volumes (simple_now v m hidden p area same));
      one_entry = by p.entries;
      at_stage = λ r i. (passes v m hidden p area same r i).at_stage;
      valid = λ r i. (passes v m hidden p area same r i).valid;
      placed = λ r i. (passes v m hidden p area same r i).placed;
      linked = λ r i. (passes v m hidden p area same r i).linked;
      right = λ k below. ap is_damaged (readings_alike v m hidden p area same k below) ∙ s.right k below;
      recorded = λ u x is. ap (λ rs. length rs) (records_same c (with_table c v area) u (readings_alike v m hidden p area same)) ∙ s.recorded u (stands_then u x is).0 (stands_then u x is).1;
    }
      where
        by : (making v ≡ e ∷ []) ⊎ ((making v ≡ []) × (hidden ≡ false) × ((m ≡ Vhd disk) ⊎ (m ≡ Raw disk))) → second (making v) ≡ None
        by (inl is) = ap second is
        by (inr k) = ap second k.0

    pub part_holding : HasNoEmptySlot c → HasNoEmptySlot (with_table c v area)
    part_holding holding u i is = by (source v m hidden p area same (Vhd u) there.0 there.1)
      where
        there : (r : Row) × (row (with_table c v area) (Vhd u) ≡ Some r)
        there = image_there (with_table c v area) (Vhd u) i is

        kept : Vhd u ≡ m → AreAlike n m → IsHolding c.block i
        kept at (inl k) = holding k.0 i (ap (image_of c) (sym k.2) ∙ sym (image_kept v m hidden p area same) ∙ ap (image_of (with_table c v area)) (sym at) ∙ is)
        kept at (inr k) = absurd (let z = at ∙ k.3 in cc)

        by : Source v m hidden p area same (Vhd u) there.0 → IsHolding c.block i
        by (settled apart was) = holding u i (sym (images_apart v m hidden p area same (Vhd u) apart) ∙ is)
        by (the_entry at made) = absurd (let z = at in cc)
        by (the_image at row_is) = kept at (kinds v m hidden p area same)
        by (a_new new here was) = holding u i (sym (image_new v m hidden p area same (Vhd u) there.0 new was there.1) ∙ is)

    -- without the entry: the fork was not begun
    pub part_unforked : making v ≡ [] → hidden ≡ false → IsUnforked (with_table c v area) disk base twin m
    part_unforked none free = record {
      stood = stands_disk v m hidden p area same;
      no_base = stands_base v m hidden p area same;
      no_twin = stands_twin v m hidden p area same;
      none_making = none;
      beside = ap (λ ns. list_any (is_among us) (elim (head ns) as (λ _. List (List ℕ)) [ None ↦ [] | Some x ↦ uuids_in x ])) (folding_none v m hidden p area same);
      childless = λ x q up. each x q (link_of (image_of (with_table c v area) x)) refl up;
    }
      where
        of : (x q : Name) → (is_apart us q ≡ true) ⊎ ((q ≡ m) × (hidden ≡ true) × (m ≡ n) × ((n ≡ Vhd base) ⊎ (n ≡ Raw base)) × ((x ≡ Vhd disk) ⊎ (x ≡ Vhd twin))) → is_apart us q ≡ true
        of x q (inl is) = is
        of x q (inr k) = absurd (true≢false (sym k.1 ∙ free))

        each : (x q : Name) (l : Option Link) → link_of (image_of (with_table c v area) x) ≡ l → parent_of (with_table c v area) x ≡ Some q → is_apart us q ≡ true
        each x q None at up = absurd (none-some q (sym (ap (λ l. l >>= (λ i. i.parent)) at) ∙ up))
        each x q (Some i) at up = of x q (parents_now v m hidden p area same x q i at (sym (ap (λ l. l >>= (λ i. i.parent)) at) ∙ up))

    part_place : IsForkPlace v disk base m
    part_place = by p.place
      where
        names : AreNamed disk base twin n v m hidden
        names = named_now v m hidden p area same

        by : ((hidden ≡ false) × ((m ≡ Vhd disk) ⊎ (m ≡ Raw disk))) ⊎ ((m ≡ n) × ((m ≡ Vhd base) ⊎ (m ≡ Raw base))) → IsForkPlace v disk base m
        by (inl k) = inl (names.no_base k.0 k.1, names.disk_stands k.0 k.1)
        by (inr k) = inr (names.has_base k.0 k.1)

    record_same : (u : List ℕ) → record_of (with_table c v area) u ≡ record_of c u
    record_same u = record_of_first (with_table c v area) u ∙ ap first_of (records_same c (with_table c v area) u (readings_alike v m hidden p area same)) ∙ sym (record_of_first c u)

  -- ---- the disks

  module _ (u : VolumeTable) (k : Name) (p : IsForkPart c.count c.table disk base twin n σ.own u k false) (area : ℕ → List ℕ) (same : IsSameArea c area) (none : making u ≡ []) where
    abbrev before_it : Content
    before_it = with_table c u area

    module _ (v : VolumeTable) (m : Name) (hidden : Bool) (q : IsForkPart c.count c.table disk base twin n σ.own v m hidden) (other : ℕ → List ℕ) (same_other : IsSameArea c other) (made : making v ≡ e ∷ []) where
      pub forking_then : IsForking before_it (with_table c v other) disk base twin k m
      forking_then = record {
        entry = ap head made;
        folding = folding_none v m hidden q other same_other ∙ sym (folding_none u k false p area same);
        apart = record {
          rows = λ x is. q.apart x is ∙ sym (p.apart x is);
          images = λ x is. images_apart v m hidden q other same_other x is ∙ sym (images_apart u k false p area same x is);
        };
        place = part_place v m hidden q other same_other;
        image = image_kept v m hidden q other same_other ∙ sym (image_kept u k false p area same);
        recorded = λ x away. record_same v m hidden q other same_other x ∙ sym (record_same u k false p area same x);
      }

      pub disks_then : disks (with_table c v other) ≡ disks before_it
      disks_then = forking_disks before_it (with_table c v other) disk base twin k m (part_unforked u k false p area same none refl) forking_then

    -- they are those from before
    pub disks_ended : disks before_it ≡ disks c
    disks_ended = sym (disks_then c.table n σ.own.hidden now c.area (λ q below. refl) entry)

  pub part_disks : (u : VolumeTable) (k : Name) → IsForkPart c.count c.table disk base twin n σ.own u k false → making u ≡ []
      → (v : VolumeTable) (m : Name) (hidden : Bool) → IsForkPart c.count c.table disk base twin n σ.own v m hidden → (area : ℕ → List ℕ) → IsSameArea c area → disks (with_table c v area) ≡ disks c
  part_disks u k p none v m hidden q area same = by q.entries
    where
      by : (making v ≡ e ∷ []) ⊎ ((making v ≡ []) × (hidden ≡ false) × ((m ≡ Vhd disk) ⊎ (m ≡ Raw disk))) → disks (with_table c v area) ≡ disks c
      by (inl made) = disks_then u k p area same none v m hidden q area same made ∙ disks_ended u k p area same none
      by (inr w) = disks_ended v m (subst (λ h. IsForkPart c.count c.table disk base twin n σ.own v m h) w.1 q) area same w.0
