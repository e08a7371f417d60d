-- What was read of a volume is what the checks look at: the image that the content has there, or that it has none.
use Rattle.std.proofs.Common.{◌≡◌, inl, inr, ℕ, ◌*◌, ◌<◌, Bool, true, false, cond, not, ◌&&◌, nat_lt, List, Option, Some, None, is_none, refl, sym, ap, ap₂, ◌∙◌, subst, arith, length}
use Rattle.std.proofs.lemmas.Bool.{true≢false, cond-true, le-ltb, lt-ltb}
use Rattle.sm_machine.specs.WellFormed.{is_image_name}
use Rattle.sm_base.specs.declared.names.Name.{Name}
use Rattle.sm_base.specs.declared.names.Name.TheVariants.{Mgt, Vhd, Raw, Old, Cbt, Clone, Inflate, Coalesce, Relink, Leaf}
use Rattle.sm_disk.specs.Held.{Held, reads}
use Rattle.vg_meta.specs.Tables.{Row, VolumeTable, rows}
use Rattle.vg_volumes.specs.Sites.{Site, volume_of}
use Rattle.vhd_map.specs.Slots.{slot_of}
use Rattle.vhd_layout.specs.Contents.{content_at}
use Rattle.vhd_layout.specs.Layouts.{Sectors}
use Rattle.vhd_layout.specs.Readings.{image_at, is_valid}
use Rattle.vhd_layout.proofs.ImageLaws.{content-of_head}
use Rattle.vhd_layout.proofs.ReadingLaws.{valid-decided}
use Rattle.vhd_volumes.specs.declared.heads.Head.{Head}
use Rattle.vhd_volumes.specs.Truth.{IsStanding, disk_blocks, layout_in}
use Rattle.vhd_image.specs.Bodies.{sector_count, parent_name}
use Rattle.vhd_image.specs.Opened.{HasNoImage, ReadsAsImage}
use Rattle.vhd_image.specs.declared.images.Body.{Body}
use Rattle.vhd_image.specs.declared.images.Body.TheVariants as body
use Rattle.sm_standing.specs.Checks.{is_image_wrong, is_invalid, is_oversize}
use Rattle.sm_standing.specs.Contents.{sectors_of}
use Rattle.sm_standing.specs.Images.{image_of, raw_image}
use Rattle.sm_standing.specs.Opened.{undone}
use Rattle.sm_standing.specs.Outlines.{Link, Outline, link_of, outline}
use Rattle.sm_standing.specs.Volumes.{IsAtSize}
use Rattle.sm_standing.proofs.ImageSectors.{image_same}
use Rattle.sm_ready.specs.Outlined.{link_in}
use Rattle.sm_ready.specs.Stores.{content_now}
use Rattle.sm_ready.proofs.LeftLaws.{now_sector, raw_of, size_there, vhd_of}
use Rattle.sm_checks.specs.Faults.{HasTable}
use Rattle.sm_checks.specs.Loaded.{IsFilledImage, IsNoneRead, IsReadAs, as_read, shortened}
use Rattle.sm_standing.proofs.UndoneContents.{images_undone_at}
use Rattle.sm_checks.proofs.EntryLaws.{IsStaged}
use Rattle.sm_checks.proofs.TableLaws.{Cases, cases, other_extents, other_whole, records_room, shortened_undone}

and_no : (b : Bool) → (b && false) ≡ false
and_no true = refl
and_no false = refl

-- each image lies in all the extents of its volume
abbrev pub IsSized : VolumeTable → Type 0
IsSized t = (n : Name) → IsAtSize t n

-- the sectors of a volume
abbrev pub sectors_by : Site → Row → ℕ
sectors_by s r = length r.extents * s.geometry.extent

link : ℕ → Option Name → Option Link
link size parent = Some (record { size = size; parent = parent })

module _ (s : Site) (t : VolumeTable) (area : Held) (u : List ℕ) (r : Row) (sized : IsSized t) (there : rows t (Vhd u) ≡ Some r) (filled : r.fresh ≡ false) where
  abbrev pub n : ℕ
  n = sectors_by s r

  abbrev pub v : Sectors
  v = reads (volume_of s t area (Vhd u))

  -- the image by what a read gives
  image_read : image_of (content_now s t area) (Vhd u) ≡ image_at s.geometry.block s.geometry.entries n v
  image_read =
      vhd_of (content_now s t area) u r there filled (sized (Vhd u))
      ∙ image_same s.geometry.extent s.geometry.block s.geometry.entries n (sectors_of (content_now s t area) (Vhd u)) v s.geometry.in_range
      (λ p below. now_sector s t area (Vhd u) p (subst (λ k. p < k) (sym (size_there s t (Vhd u) r there)) below))

  -- none where none is valid
  pub none_there : HasNoImage s.geometry n (volume_of s t area (Vhd u)) → image_of (content_now s t area) (Vhd u) ≡ None
  none_there none = image_read ∙ by (is_valid s.geometry.block s.geometry.entries n v) refl
    where
      by : (b : Bool) → is_valid s.geometry.block s.geometry.entries n v ≡ b → cond b (Some (content_at s.geometry.block s.geometry.entries n v)) None ≡ None
      by false is = refl
      by true is = absurd (none ((valid-decided s.geometry.extent s.geometry.block s.geometry.entries n v s.geometry.in_range).0 is))

  module _ (head : Head) (m : List (Option ℕ)) (stands : IsStanding s.geometry n head m) (is : ReadsAsImage s.geometry n (volume_of s t area (Vhd u)) head m) where
    pub valid_there : image_of (content_now s t area) (Vhd u) ≡ Some (content_at s.geometry.block s.geometry.entries n v)
    valid_there =
        image_read ∙ cond-true (is_valid s.geometry.block s.geometry.entries n v) (Some (content_at s.geometry.block s.geometry.entries n v)) None
        ((valid-decided s.geometry.extent s.geometry.block s.geometry.entries n v s.geometry.in_range).1 (disk_blocks s.geometry head.footer, head.footer, head.header, slot_of m, is))

    pub link_there : link_of (image_of (content_now s t area) (Vhd u)) ≡ link_in (Some (record { image = body.Vhd head m; hidden = r.hidden; extents = length r.extents }))
    unfolding link
    link_there =
        let w = content-of_head (layout_in s.geometry head.footer n) v head.footer head.header is.head in
        ap link_of valid_there ∙ ap₂ link (w.0 ∙ omega (arith, stands.size)) w.1

-- ---- a volume of an image that is not new

raw_link : (s : Site) (t : VolumeTable) (area : Held) (u : List ℕ) (r : Row) → rows t (Raw u) ≡ Some r → r.fresh ≡ false
    → link_of (image_of (content_now s t area) (Raw u)) ≡ link (length r.extents * s.geometry.extent) None
unfolding raw_image link
raw_link s t area u r there filled = ap link_of (raw_of (content_now s t area) u r there filled) ∙ ap (λ k. link k None) (size_there s t (Raw u) r there)

abbrev shown : Body → Option Link
shown image = Some (record { size = sector_count image; parent = parent_name image })

module _ (told : Type 0) (s : Site) (t : VolumeTable) (area : Held) (r : Row) where
  link_named : (n : Name) (image : Body) → IsSized t → rows t n ≡ Some r → r.fresh ≡ false → IsReadAs told s.geometry (sectors_by s r) (volume_of s t area n) n image → told → link_of (image_of (content_now s t area) n) ≡ shown image
  unfolding link
  link_named (Raw u) image sized there filled read known = raw_link s t area u r there filled ∙ sym (ap shown read.is)
  link_named (Vhd u) (body.Raw volume size) sized there filled read known = absurd read.vhd
  link_named (Vhd u) (body.Vhd head m) sized there filled read known = link_there s t area u r sized there filled head m read.stands (read.gives known)
  link_named Mgt image sized there filled read known = absurd read
  link_named (Old u) image sized there filled read known = absurd read
  link_named (Cbt u) image sized there filled read known = absurd read
  link_named (Clone d b w) image sized there filled read known = absurd read
  link_named (Inflate u e) image sized there filled read known = absurd read
  link_named (Coalesce x y) image sized there filled read known = absurd read
  link_named (Relink x y) image sized there filled read known = absurd read
  link_named (Leaf l p) image sized there filled read known = absurd read

  -- the checks see the image that was read
  pub link_read : (image : Body) → IsSized t → rows t r.name ≡ Some r → r.fresh ≡ false → IsReadAs told s.geometry (sectors_by s r) (volume_of s t area r.name) r.name image → told
      → link_of (image_of (content_now s t area) r.name) ≡ shown image
  link_read image sized there filled read known = link_named r.name image sized there filled read known

  module _ {u : VolumeTable} {x : Outline} (is : HasTable s.geometry u x) where
    oversize : nat_lt (s.geometry.entries * s.geometry.block) (sectors_by s r) ≡ is_oversize x.extent x.block x.entries r
    oversize = rw (is.extent, is.block, is.entries) refl

    valid_named : (n : Name) (image : Body) → IsReadAs told s.geometry (sectors_by s r) (volume_of s t area n) n image → x.links n ≡ shown image → (not r.fresh && is_image_wrong x r n) ≡ false
    valid_named (Raw u) image read found = ap (λ b. not r.fresh && b) (sym oversize ∙ le-ltb (s.geometry.entries * s.geometry.block) (sectors_by s r) read.fits) ∙ and_no (not r.fresh)
    valid_named (Vhd u) image read found = ap (λ o. not r.fresh && is_none o) found ∙ and_no (not r.fresh)
    valid_named Mgt image read found = absurd read
    valid_named (Old u) image read found = absurd read
    valid_named (Cbt u) image read found = absurd read
    valid_named (Clone d b w) image read found = absurd read
    valid_named (Inflate u e) image read found = absurd read
    valid_named (Coalesce a b) image read found = absurd read
    valid_named (Relink a b) image read found = absurd read
    valid_named (Leaf l p) image read found = absurd read

    -- it is valid
    pub valid_read : (image : Body) → IsReadAs told s.geometry (sectors_by s r) (volume_of s t area r.name) r.name image → x.links r.name ≡ shown image → is_invalid x r ≡ false
    valid_read image read found = valid_named r.name image read found

  -- or there is none
  invalid_named : (n : Name) → IsSized t → rows t n ≡ Some r → r.fresh ≡ false → IsNoneRead told s.geometry (sectors_by s r) (volume_of s t area n) n → told → is_image_wrong (outline (content_now s t area)) r n ≡ true
  invalid_named (Raw u) sized there filled none known = lt-ltb (s.geometry.entries * s.geometry.block) (sectors_by s r) none
  invalid_named (Vhd u) sized there filled none known = ap (λ o. is_none (link_of o)) (none_there s t area u r sized there filled (none known))
  invalid_named Mgt sized there filled none known = absurd none
  invalid_named (Old u) sized there filled none known = absurd none
  invalid_named (Cbt u) sized there filled none known = absurd none
  invalid_named (Clone d b w) sized there filled none known = absurd none
  invalid_named (Inflate u e) sized there filled none known = absurd none
  invalid_named (Coalesce a b) sized there filled none known = absurd none
  invalid_named (Relink a b) sized there filled none known = absurd none
  invalid_named (Leaf l p) sized there filled none known = absurd none

  pub invalid_read : IsSized t → rows t r.name ≡ Some r → r.fresh ≡ false → IsNoneRead told s.geometry (sectors_by s r) (volume_of s t area r.name) r.name → told → is_invalid (outline (content_now s t area)) r ≡ true
  invalid_read sized there filled none known = ap₂ (λ f w. not f && w) filled (invalid_named r.name sized there filled none known)

-- a volume that has no image in memory is none that the check speaks of
wrong_kind : (x : Outline) (r : Row) (n : Name) → is_image_name n ≡ false → is_image_wrong x r n ≡ false
unfolding is_image_name
wrong_kind x r Mgt other = refl
wrong_kind x r (Vhd u) other = absurd (true≢false other)
wrong_kind x r (Raw u) other = absurd (true≢false other)
wrong_kind x r (Old u) other = refl
wrong_kind x r (Cbt u) other = refl
wrong_kind x r (Clone d b w) other = refl
wrong_kind x r (Inflate u e) other = refl
wrong_kind x r (Coalesce a b) other = refl
wrong_kind x r (Relink a b) other = refl
wrong_kind x r (Leaf l p) other = refl

pub skipped : (x : Outline) (r : Row) → (IsFilledImage r → ⊥) → is_invalid x r ≡ false
skipped x r none = by (is_image_name r.name) r.fresh refl refl
  where
    by : (i f : Bool) → is_image_name r.name ≡ i → r.fresh ≡ f → is_invalid x r ≡ false
    by false f other fresh = ap (λ w. not r.fresh && w) (wrong_kind x r r.name other) ∙ and_no (not r.fresh)
    by true true image fresh = ap (λ f. not f && is_image_wrong x r r.name) fresh
    by true false image fresh = absurd (none (record { image = image; filled = fresh }))

-- ---- beside a table in which a fork or an enlargement is under way

-- a volume is as wrong as it is read
wrong_read : (ns : List Name) (x : Outline) (q : Row) (n : Name) → q.name ≡ n → is_image_wrong x (as_read ns q) n ≡ is_image_wrong x q n
wrong_read ns x q (Raw u) is = ap (λ r. is_image_wrong x r (Raw u)) (other_whole ns q (other_extents ns q.name (length q.extents) (λ v same. let e = sym is ∙ same in cc)))
wrong_read ns x q (Vhd u) is = refl
wrong_read ns x q Mgt is = refl
wrong_read ns x q (Old u) is = refl
wrong_read ns x q (Cbt u) is = refl
wrong_read ns x q (Clone d b w) is = refl
wrong_read ns x q (Inflate u e) is = refl
wrong_read ns x q (Coalesce a b) is = refl
wrong_read ns x q (Relink a b) is = refl
wrong_read ns x q (Leaf l p) is = refl

pub invalid_as_read : (ns : List Name) (x : Outline) (q : Row) → is_invalid x (as_read ns q) ≡ is_invalid x q
invalid_as_read ns x q = ap (λ w. not q.fresh && w) (wrong_read ns x q q.name refl)

module _ (s : Site) (t : VolumeTable) (area : Held) (c : IsStaged s t) where
  -- each image is the same without the enlargement
  pub image_short : (n : Name) → image_of (content_now s (shortened t) area) n ≡ image_of (content_now s t area) n
  image_short n = by (cases c)
    where
      by : Cases c → image_of (content_now s (shortened t) area) n ≡ image_of (content_now s t area) n
      by (inl k) = ap (λ x. image_of (content_now s x area) n) k.table
      by (inr (u, e, w)) =
          ap (λ x. image_of (content_now s x area) n) (shortened_undone t u e w.entry)
          ∙ images_undone_at (content_now s t area) u e w c.table s.geometry.in_range (records_room s t c.record_volume) (undone t).sequence n

  wrong_short : (r : Row) (n : Name) → is_image_wrong (outline (content_now s t area)) r n ≡ is_image_wrong (outline (content_now s (shortened t) area)) r n
  wrong_short r (Vhd u) = ap (λ i. is_none (link_of i)) (sym (image_short (Vhd u)))
  wrong_short r (Raw u) = refl
  wrong_short r Mgt = refl
  wrong_short r (Old u) = refl
  wrong_short r (Cbt u) = refl
  wrong_short r (Clone d b w) = refl
  wrong_short r (Inflate u e) = refl
  wrong_short r (Coalesce a b) = refl
  wrong_short r (Relink a b) = refl
  wrong_short r (Leaf l p) = refl

  pub invalid_short : (r : Row) → is_invalid (outline (content_now s t area)) r ≡ is_invalid (outline (content_now s (shortened t) area)) r
  invalid_short r = ap (λ w. not r.fresh && w) (wrong_short r r.name)
