-- The volume in which a disk of a sound content stands has an image, of a whole number of blocks.
use Rattle.std.proofs.Common.{◌≡◌, ◌⊎◌, inl, inr, ℕ, zero, suc, ◌*◌, ◌/◌, ◌<◌, ◌≤◌, nat_lt, not, ◌&&◌, ◌||◌, Bool, true, false, cond, List, [], ◌∷◌, length, Option, Some, None, is_some, is_none, refl, sym, ap, ◌∙◌, subst, arith}
use Rattle.std.specs.Prelude.{◌==◌, nat_le}
use Rattle.std.specs.List.{list_any}
use Rattle.std.specs.Str.{bytes_eq}
use Rattle.std.specs.Option.{option_map_or}
use Rattle.std.proofs.Math.Nat.{mul-div_cancel_left, mul-le-mul, mul_assoc, le_of_mul-le-mul_right}
use Rattle.std.proofs.lemmas.Bool.{true≢false, and_parts, or_cases, eqb-true, leb-true, ltb-true, ltb-false}
use Rattle.std.proofs.lemmas.Option.{none-some, same_Some}
use Rattle.common_laws.specs.Lists.{In, ◌>>=◌}
use Rattle.common_laws.proofs.Lists.{In-filter, In-map}
use Rattle.sm_base.specs.Numbers.{IsGeometry}
use Rattle.sm_base.specs.Kinds.{is_entry, is_image, is_log}
use Rattle.sm_base.specs.declared.names.Name.{Name}
use Rattle.sm_base.specs.declared.names.Name.TheVariants.{Mgt, Vhd, Raw, Old, Cbt, Clone, Inflate, Coalesce, Relink, Leaf}
use Rattle.vg_meta.specs.Tables.{Row, VolumeTable, IsTable, IsVolume, suits, rows, names_of, extents_of}
use Rattle.vg_meta.proofs.RowLaws.{row_of-name}
use Rattle.vhd_fields.specs.declared.footers.Footer.{Footer}
use Rattle.vhd_fields.specs.declared.headers.Header.{Header}
use Rattle.vhd_layout.specs.Layouts.{Layout, Sectors, entry}
use Rattle.vhd_layout.specs.Contents.{layout_at, size_at}
use Rattle.vhd_layout.specs.Images.{footer_at, header_at}
use Rattle.vhd_layout.specs.Readings.{is_footer_of, is_header_of, is_head_of, is_image_of, is_valid}
use Rattle.sm_standing.specs.Checks.{first_fault, is_image_wrong, has_twin}
use Rattle.sm_standing.specs.Contents.{Content}
use Rattle.sm_standing.specs.Entries.{is_at_stage, is_filled, is_fork_begun, is_fork_made, is_forking, is_hidden, is_leaf_renamed, is_leaf_swapped, is_making, is_there, is_visible, image_with, folding, folding_uuids, making, head, of_row, has_image, is_among, are_past, names_in}
use Rattle.sm_standing.specs.Images.{Image, image_of, raw_image}
use Rattle.sm_standing.specs.Outlines.{link_of, outline}
use Rattle.sm_standing.specs.PlainSound.{AllSound}
use Rattle.sm_standing.specs.Standing.{standing_volume, stands_folded, stands_forked, stands_plainly, under}
use Rattle.sm_standing.proofs.DisksShown.{row_of-In}
use Rattle.sm_standing.proofs.ForkPlaces.{found_kind}
use Rattle.sm_standing.proofs.ForkTables.{of_row_parts, none_with, image_none}
use Rattle.sm_standing.proofs.PlainDisks.{all-In}
use Rattle.sm_standing.proofs.PlainKept.{sound_all}
use Rattle.sm_ready.proofs.NumberLaws.{whole_blocks}
use Rattle.vhd_stream.proofs.StandingLaws.{vhd-is}

-- one of two, by a test
chose : {A : Type 0} (b : Bool) (x y z : A) → cond b x y ≡ z → ((b ≡ true) × (x ≡ z)) ⊎ ((b ≡ false) × (y ≡ z))
chose true x y z e = inl (refl, e)
chose false x y z e = inr (refl, e)

-- a VHD or a raw image that is there and not new
record IsFilled (t : VolumeTable) (n : Name) : Type 0 where
  row : Row
  there : rows t n ≡ Some row
  filled : row.fresh ≡ false
  uuid : List ℕ
  named : (n ≡ Vhd uuid) ⊎ (n ≡ Raw uuid)

filled_by : (t : VolumeTable) (test : Row → Bool) (n : Name) (u : List ℕ) → (n ≡ Vhd u) ⊎ (n ≡ Raw u) → ((r : Row) → test r ≡ true → r.fresh ≡ false) → of_row test (rows t n) ≡ true → IsFilled t n
filled_by t test n u named old h = let w = of_row_parts test (rows t n) h in record { row = w.0; there = w.1; filled = old w.0 w.2; uuid = u; named = named }

not-true : (b : Bool) → not b ≡ true → b ≡ false
not-true true h = absurd (true≢false (sym h))
not-true false h = refl

filled_old : (r : Row) → not r.fresh ≡ true → r.fresh ≡ false
filled_old r h = not-true r.fresh h

second_old : (a : Bool) (r : Row) → (a && not r.fresh) ≡ true → r.fresh ≡ false
second_old a r h = not-true r.fresh (and_parts a (not r.fresh) h).1

-- ---- the volume of a disk

module _ (c : Content) (table : IsTable c.count c.table) (geometry : IsGeometry c.extent c.block c.entries) (sound : first_fault c ≡ None) where
  abbrev t : VolumeTable
  t = c.table

  all : AllSound (outline c)
  all = sound_all (outline c) sound

  stage_of : (a b : Bool) → not (a && b) ≡ false → a ≡ true
  stage_of true b h = refl
  stage_of false b h = absurd (true≢false h)

  -- an entry stands at a stage
  staged : (test : Name → Bool) (e : Name) → head (names_in t test) ≡ Some e → is_entry e ≡ true → is_at_stage t e ≡ true
  staged test e first entry = by (names_in t test) refl first
    where
      by : (ns : List Name) → names_in t test ≡ ns → head ns ≡ Some e → is_at_stage t e ≡ true
      by [] is h = absurd (none-some e h)
      by (n ∷ ns) is h =
          let same : n ≡ e = same_Some n e h in
          let k = In-filter test (names_of t.volumes) n (subst (In n) (sym is) (inl refl)) in
          let r = In-map (λ (r : Row). r.name) t.volumes n k.0 in
          let lost = all.at_stage r.0 r.1 in
          let named : r.0.name ≡ e = sym r.2 ∙ same in
          stage_of (is_at_stage t e) (are_past t e)
          (ap (λ b. b && not (is_at_stage t e && are_past t e)) (sym entry) ∙ ap (λ m. is_entry m && not (is_at_stage t m && are_past t m)) (sym named) ∙ lost)

  -- under the folding of a leaf
  folded : (e : Name) (u : List ℕ) (n : Name) (plainly : Option Name) → stands_folded t e u plainly ≡ Some n → (plainly ≡ Some n → IsFilled t n) → IsFilled t n
  folded (Leaf leaf parent) u n plainly h rest =
      by (chose (bytes_eq u leaf && is_leaf_renamed t leaf parent) (Some (Vhd parent)) (cond (bytes_eq u leaf && is_leaf_swapped t leaf parent) (Some (Vhd leaf)) plainly) (Some n) h)
    where
      swapped : ((bytes_eq u leaf && is_leaf_swapped t leaf parent) ≡ true) × (Some (Vhd leaf) ≡ Some n) ⊎ ((bytes_eq u leaf && is_leaf_swapped t leaf parent) ≡ false) × (plainly ≡ Some n) → IsFilled t n
      swapped (inl k) =
          let stage = (and_parts (bytes_eq u leaf) (is_leaf_swapped t leaf parent) k.0).1 in
          let parts = (and_parts _ _ (and_parts (is_there t (Old leaf)) _ stage).1).0 in
          subst (IsFilled t) (same_Some (Vhd leaf) n k.1) (filled_by t (λ r. not r.fresh) (Vhd leaf) leaf (inl refl) filled_old parts)
      swapped (inr k) = rest k.1

      by : ((bytes_eq u leaf && is_leaf_renamed t leaf parent) ≡ true) × (Some (Vhd parent) ≡ Some n)
          ⊎ ((bytes_eq u leaf && is_leaf_renamed t leaf parent) ≡ false) × (cond (bytes_eq u leaf && is_leaf_swapped t leaf parent) (Some (Vhd leaf)) plainly ≡ Some n) → IsFilled t n
      by (inl k) =
          let stage = (and_parts (bytes_eq u leaf) (is_leaf_renamed t leaf parent) k.0).1 in
          let hidden = (and_parts (is_hidden t (Vhd parent)) _ (and_parts (is_there t (Old leaf)) _ stage).1).0 in
          subst (IsFilled t) (same_Some (Vhd parent) n k.1) (filled_by t (λ r. r.hidden && not r.fresh) (Vhd parent) parent (inl refl) (λ r. second_old r.hidden r) hidden)
      by (inr k) = swapped (chose (bytes_eq u leaf && is_leaf_swapped t leaf parent) (Some (Vhd leaf)) plainly (Some n) k.1)
  folded Mgt u n plainly h rest = rest h
  folded (Vhd v) u n plainly h rest = rest h
  folded (Raw v) u n plainly h rest = rest h
  folded (Old v) u n plainly h rest = rest h
  folded (Cbt v) u n plainly h rest = rest h
  folded (Clone disk base twin) u n plainly h rest = rest h
  folded (Inflate image extents) u n plainly h rest = rest h
  folded (Coalesce child parent) u n plainly h rest = rest h
  folded (Relink child parent) u n plainly h rest = rest h

  -- no VHD image and raw image have one UUID
  no_twins : (u : List ℕ) → is_there t (Vhd u) ≡ true → is_there t (Raw u) ≡ true → ⊥
  no_twins u vhd raw = by (rows t (Vhd u)) refl vhd
    where
      by : (o : Option Row) → rows t (Vhd u) ≡ o → is_some o ≡ true → ⊥
      by None is h = true≢false (sym h)
      by (Some r) is h =
          let named : r.name ≡ Vhd u = row_of-name t.volumes (Vhd u) r is in
          let w = all.named r (row_of-In t.volumes (Vhd u) r is).0 in
          true≢false (ap (λ b. b || not (are_past t (Vhd u))) (sym raw) ∙ ap (λ (m : Name). is_image m && (has_twin t m || not (are_past t m))) (sym named) ∙ w)

  -- the base of a fork, where it is there
  base_filled : (disk base twin : List ℕ) (b : Name) → is_forking t disk base twin ≡ true → image_with t base ≡ Some b → IsFilled t b
  unfolding image_with
  base_filled disk base twin b stage found = by (or_cases (is_fork_begun t disk base twin) (is_fork_made t disk base twin) both)
    where
      both : (is_fork_begun t disk base twin || is_fork_made t disk base twin) ≡ true
      both =
          (and_parts (not (list_any (is_among (disk ∷ base ∷ twin ∷ [])) (folding_uuids t))) (is_fork_begun t disk base twin || is_fork_made t disk base twin)
          (and_parts (not (bytes_eq base twin)) _ (and_parts (not (bytes_eq disk twin)) _ (and_parts (not (bytes_eq disk base)) _ stage).1).1).1).1

      kind : ((b ≡ Vhd base) ⊎ (b ≡ Raw base)) × (is_there t b ≡ true)
      kind = found_kind (is_there t) base b found

      there_of : (n : Name) → is_filled t n ≡ true → is_there t n ≡ true
      there_of n h = let w = of_row_parts (λ r. not r.fresh) (rows t n) h in ap (λ (o : Option Row). is_some o) w.1

      in_kind : (is_filled t (Vhd base) ≡ true) ⊎ (is_filled t (Raw base) ≡ true) → (b ≡ Vhd base) ⊎ (b ≡ Raw base) → IsFilled t b
      in_kind (inl h) (inl is) = subst (IsFilled t) (sym is) (filled_by t (λ r. not r.fresh) (Vhd base) base (inl refl) filled_old h)
      in_kind (inr h) (inr is) = subst (IsFilled t) (sym is) (filled_by t (λ r. not r.fresh) (Raw base) base (inr refl) filled_old h)
      in_kind (inl h) (inr is) = absurd (no_twins base (there_of (Vhd base) h) (ap (is_there t) (sym is) ∙ kind.1))
      in_kind (inr h) (inl is) = absurd (no_twins base (ap (is_there t) (sym is) ∙ kind.1) (there_of (Raw base) h))

      by : (is_fork_begun t disk base twin ≡ true) ⊎ (is_fork_made t disk base twin ≡ true) → IsFilled t b
      by (inl begun) =
          let none = none_with t base (not-true (has_image t base) (and_parts (not (has_image t base)) _ begun).0) in
          absurd (none-some b (sym (image_none t base none.0 none.1) ∙ found))
      by (inr made) = in_kind (or_cases (is_filled t (Vhd base)) (is_filled t (Raw base)) (and_parts _ _ made).0) kind.0

  -- under a fork
  forked : (e : Name) (u : List ℕ) (n : Name) (plainly : Option Name) → head (making t) ≡ Some e → stands_forked t e u plainly ≡ Some n → (plainly ≡ Some n → IsFilled t n) → IsFilled t n
  unfolding is_at_stage
  forked (Clone disk base twin) u n plainly first h rest =
      by (chose (bytes_eq u disk) (elim (image_with t base) as (λ _. Option Name) [ None ↦ plainly | Some b ↦ Some b ]) (cond (bytes_eq u base || bytes_eq u twin) None plainly) (Some n) h)
    where
      stage : is_forking t disk base twin ≡ true
      stage = staged is_making (Clone disk base twin) first refl

      in_base : (o : Option Name) → image_with t base ≡ o → elim o as (λ _. Option Name) [ None ↦ plainly | Some b ↦ Some b ] ≡ Some n → IsFilled t n
      in_base None is k = rest k
      in_base (Some b) is k = subst (IsFilled t) (same_Some b n k) (base_filled disk base twin b stage is)

      other : ((bytes_eq u base || bytes_eq u twin) ≡ true) × (None ≡ Some n) ⊎ ((bytes_eq u base || bytes_eq u twin) ≡ false) × (plainly ≡ Some n) → IsFilled t n
      other (inl k) = absurd (none-some n k.1)
      other (inr k) = rest k.1

      by : (bytes_eq u disk ≡ true) × (elim (image_with t base) as (λ _. Option Name) [ None ↦ plainly | Some b ↦ Some b ] ≡ Some n)
          ⊎ (bytes_eq u disk ≡ false) × (cond (bytes_eq u base || bytes_eq u twin) None plainly ≡ Some n) → IsFilled t n
      by (inl k) = in_base (image_with t base) refl k.1
      by (inr k) = other (chose (bytes_eq u base || bytes_eq u twin) None plainly (Some n) k.1)
  forked Mgt u n plainly first h rest = rest h
  forked (Vhd v) u n plainly first h rest = rest h
  forked (Raw v) u n plainly first h rest = rest h
  forked (Old v) u n plainly first h rest = rest h
  forked (Cbt v) u n plainly first h rest = rest h
  forked (Inflate image extents) u n plainly first h rest = rest h
  forked (Coalesce child parent) u n plainly first h rest = rest h
  forked (Relink child parent) u n plainly first h rest = rest h
  forked (Leaf leaf parent) u n plainly first h rest = rest h

  plain : (u : List ℕ) (n : Name) → stands_plainly t u ≡ Some n → IsFilled t n
  plain u n h = let k = found_kind (is_visible t) u n h in filled_by t (λ r. not r.hidden && not r.fresh) n u k.0 (λ r. second_old (not r.hidden) r) k.1

  -- the volume of a disk is there and not new
  stands_filled : (u : List ℕ) (n : Name) → standing_volume t u ≡ Some n → IsFilled t n
  unfolding standing_volume
  stands_filled u n h = making_first (head (making t)) refl h
    where
      below : Option Name
      below = under (λ e. stands_folded t e u) (head (folding t)) (stands_plainly t u)

      folding_first : (o : Option Name) → under (λ e. stands_folded t e u) o (stands_plainly t u) ≡ Some n → IsFilled t n
      folding_first None k = plain u n k
      folding_first (Some e) k = folded e u n (stands_plainly t u) k (plain u n)

      making_first : (o : Option Name) → head (making t) ≡ o → under (λ e. stands_forked t e u) o below ≡ Some n → IsFilled t n
      making_first None first k = folding_first (head (folding t)) k
      making_first (Some e) first k = forked e u n below first k (folding_first (head (folding t)))

  -- ---- its image

  -- an image of a whole number of blocks
  pub record IsOfBlocks (n : Name) : Type 0 where
    pub image : Image
    pub there : image_of c n ≡ Some image
    pub blocks : ℕ
    pub size : image.size ≡ blocks * c.block
    pub least : 1 ≤ blocks
    pub most : blocks ≤ c.entries

  -- the numbers of a valid image
  vhd_size : (block entries sectors : ℕ) (v : Sectors) → is_valid block entries sectors v ≡ true → (blocks : ℕ) × (size_at sectors v ≡ blocks * block) × (1 ≤ blocks) × (blocks ≤ entries)
  unfolding is_image_of size_at
  vhd_size block entries sectors v e = of (footer_at sectors v) refl (header_at v) (and_parts _ _ e).0
    where
      laid : Layout
      laid = layout_at block entries sectors v

      of : (f : Option Footer) → footer_at sectors v ≡ f → (g : Option Header) → is_head_of laid f g ≡ true → (blocks : ℕ) × (size_at sectors v ≡ blocks * block) × (1 ≤ blocks) × (blocks ≤ entries)
      of None is g e = absurd (true≢false (sym e))
      of (Some f) is None e = absurd (true≢false (sym e))
      of (Some f) is (Some g) e =
          let footer = (and_parts (is_footer_of laid f) (is_header_of laid f g) e).0 in
          let rest = (and_parts ((f.kind == 3) || (f.kind == 4)) _ footer).1 in
          let size = and_parts (f.current == 512 * (laid.blocks * laid.block)) _ rest in
          let both = and_parts (nat_le 1 laid.blocks) (nat_le laid.blocks entries) size.1 in
          let some : 0 < 512 = omega arith in (
            laid.blocks,
            ap (λ (o : Option Footer). option_map_or (λ (k : Footer). k.current / 512) o 0) is
                ∙ ap (λ m. m / 512) (eqb-true f.current (512 * (laid.blocks * laid.block)) size.0) ∙ mul-div_cancel_left (laid.blocks * laid.block) some,
            leb-true 1 laid.blocks both.0,
            leb-true laid.blocks entries both.1,
          )

  -- the row of a name has the name, and fails no check
  row_valid : (n : Name) (r : Row) → rows t n ≡ Some r → r.fresh ≡ false → is_image_wrong (outline c) r n ≡ false
  row_valid n r is filled =
      let named : r.name ≡ n = row_of-name t.volumes n r is in
      ap (λ b. not b && is_image_wrong (outline c) r n) (sym filled) ∙ ap (λ m. not r.fresh && is_image_wrong (outline c) r m) (sym named) ∙ all.valid r (row_of-In t.volumes n r is).0

  of_vhd : (u : List ℕ) (r : Row) → rows t (Vhd u) ≡ Some r → r.fresh ≡ false → IsOfBlocks (Vhd u)
  of_vhd u r is filled = by (image_of c (Vhd u)) refl (row_valid (Vhd u) r is filled)
    where
      by : (o : Option Image) → image_of c (Vhd u) ≡ o → is_none (link_of o) ≡ false → IsOfBlocks (Vhd u)
      by None there h = absurd (true≢false h)
      by (Some i) there h =
          let v = vhd-is c u i there in
          let w = vhd_size c.block c.entries v.sectors v.volume v.valid in
          record { image = i; there = there; blocks = w.0; size = ap (λ (k : Image). k.size) v.is ∙ w.1; least = w.2; most = w.3 }

  -- a raw image has an extent
  some_extents : (u : List ℕ) (r : Row) → r.name ≡ Raw u → suits r ≡ true → 0 < length r.extents
  some_extents u r named suited =
      ltb-true 0 (length r.extents)
      (sym (ap (λ (m : Name). cond (is_image m) (nat_lt 0 (length r.extents)) (cond (is_log m) (not r.hidden && nat_lt 0 (length r.extents)) (not r.hidden && (not r.fresh && (not (is_entry m) || (length r.extents == 0)))))) named)
      ∙ suited)

  of_raw : (u : List ℕ) (r : Row) → rows t (Raw u) ≡ Some r → r.fresh ≡ false → IsOfBlocks (Raw u)
  unfolding image_of raw_image
  of_raw u r is filled =
      let w = whole_blocks c.extent c.block geometry.extent_power geometry.block_power geometry.within in
      let member = (row_of-In t.volumes (Raw u) r is).0 in
      let some : 1 ≤ length r.extents = some_extents u r (row_of-name t.volumes (Raw u) r is) (all-In IsVolume t.volumes r table.volumes.each member).kind in
      let count : ℕ = length r.extents * w.0 in
      let span_is : length r.extents * c.extent ≡ count * c.block = ap (λ e. length r.extents * e) w.1 ∙ sym (mul_assoc (length r.extents) w.0 c.block) in
      let few : length r.extents * c.extent ≤ c.entries * c.block = ltb-false (c.entries * c.block) (length r.extents * c.extent) (row_valid (Raw u) r is filled) in
      record {
        image = raw_image c (Raw u);
        there = ap (λ (o : Option Row). o >>= (λ (q : Row). cond q.fresh None (Some (raw_image c (Raw u))))) is ∙ ap (λ b. cond b None (Some (raw_image c (Raw u)))) filled;
        blocks = count;
        size = ap (λ (o : Option Row). length (extents_of o) * c.extent) is ∙ span_is;
        least = mul-le-mul some (block_some w.0 w.1);
        most = le_of_mul-le-mul_right {k = c.block} (subst (λ m. m ≤ c.entries * c.block) span_is few) (omega (arith, geometry.block_least));
      }
    where
      block_some : (m : ℕ) → c.extent ≡ m * c.block → 1 ≤ m
      block_some zero is = absurd (let least = geometry.extent_least in omega (arith, is, least))
      block_some (suc m) is = omega arith

  -- the volume of a disk has an image of a whole number of blocks
  pub stands_blocks : (u : List ℕ) (n : Name) → standing_volume t u ≡ Some n → IsOfBlocks n
  stands_blocks u n h = let f = stands_filled u n h in by f f.named
    where
      by : (f : IsFilled t n) → (n ≡ Vhd f.uuid) ⊎ (n ≡ Raw f.uuid) → IsOfBlocks n
      by f (inl is) = subst IsOfBlocks (sym is) (of_vhd f.uuid f.row (ap (rows t) (sym is) ∙ f.there) f.filled)
      by f (inr is) = subst IsOfBlocks (sym is) (of_raw f.uuid f.row (ap (rows t) (sym is) ∙ f.there) f.filled)
