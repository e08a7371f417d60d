-- What a guest's write and read may ask of the images below, by what holds between two steps.
use Rattle.std.proofs.Common.{◌≡◌, ◌⊎◌, inl, inr, ⊎_elim, ℕ, ◌+◌, ◌-◌, ◌*◌, ◌/◌, ◌%◌, ◌==◌, ◌<◌, ◌≤◌, nat_lt, max, ◌||◌, Bool, true, false, List, Option, Some, None, refl, sym, ap, ◌∙◌, subst, arith, eq-eqb}
use Rattle.std.proofs.Math.Logic.{∥∥₁_elim}
use Rattle.std.proofs.Math.Nat.{div-lt_iff_lt-mul, div-mul-le_self, le-div_iff_mul-le, le_of_mul-le-mul_right}
use Rattle.std.proofs.Props.{props}
use Rattle.std.proofs.lemmas.Bool.{true≢false, ltb-false, cases_lt}
use Rattle.std.proofs.lemmas.Nat.{mul-le, div-add-mod'}
use Rattle.std.proofs.lemmas.Slice.Eq.{bytes_eq-Decides}
use Rattle.std.specs.List.{find}
use Rattle.std.specs.Str.{bytes_eq}
use Rattle.common_laws.specs.Lists.{In, ◌>>=◌}
use Rattle.common_laws.proofs.Lists.{In-map_at, find-some}
use Rattle.sm_base.specs.Numbers.{IsGeometry, div_up, first, thick, thin}
use Rattle.sm_base.proofs.NumberLemmas.{le-div_up}
use Rattle.sm_base.specs.declared.names.Name.{Name}
use Rattle.sm_base.specs.declared.operations.Mode.{Mode}
use Rattle.sm_base.specs.declared.operations.Mode.TheVariants.{Ro, Rw}
use Rattle.sm_base.specs.declared.sizes.Geometry.{Geometry}
use Rattle.sm_disk.specs.Held.{IsWhole}
use Rattle.vg_meta.specs.Tables.{VolumeTable}
use Rattle.vg_volumes.specs.Sites.{Site, size_of}
use Rattle.vhd_chain.specs.Trees.{row_name}
use Rattle.vhd_chain.specs.declared.rows.TreeRow.{TreeRow}
use Rattle.vhd_map.specs.Slots.{slot_of, top_of}
use Rattle.vhd_layout.proofs.ImageLaws.{option_cases}
use Rattle.vhd_volumes.specs.declared.heads.Head.{Head}
use Rattle.vhd_volumes.specs.Truth.{IsStanding, HasRoomFor, disk_blocks, disk_sectors}
use Rattle.vhd_volumes.specs.Writes.{blocks_touched, written_map}
use Rattle.vhd_write.proofs.WorkLaws.{room-less}
use Rattle.vhd_image.specs.Bodies.{StandsIn, sector_count}
use Rattle.vhd_image.specs.Written.{HasRoomToWrite}
use Rattle.vhd_image.specs.declared.images.Body.{Body}
use Rattle.vhd_image.specs.declared.images.Body.TheVariants as body
use Rattle.sm_machine.specs.Shapes.{Attachment, image_uuid, is_rw, is_vhd, thick_in}
use Rattle.sm_machine.specs.Refusals.{is_outside, of_some}
use Rattle.sm_machine.proofs.Attaches.{is_its_image}
use Rattle.sm_machine.proofs.Guests.{disk_image_is}
use Rattle.sm_ready.specs.Known.{Known, machine_row, shape_in}
use Rattle.sm_ready.specs.Orderly.{IsOrderly}
use Rattle.sm_ready.proofs.CauseLaws.{named_as}
use Rattle.sm_ready.proofs.Orders.{geometry_of, named_row, raw_row, vhd_row}
use Rattle.sm_ready.proofs.TruthLaws.{row_sectors, row_stands}
use Rattle.cmd_guest.proofs.OwnLaws.{IsOwn}
use Rattle.cmd_guest.proofs.SlotLaws.{few_blocks}

-- ---- sectors within the disk

record AreWithin (size sector count : ℕ) : Type 0 where
  some : 0 < count
  fits : sector + count ≤ size

outside_none : (size sector count : ℕ) → ((count == 0) || nat_lt size (sector + count)) ≡ false → AreWithin size sector count
outside_none size sector count e = by (count == 0) (nat_lt size (sector + count)) refl refl e
  where
    by : (a b : Bool) → (count == 0) ≡ a → nat_lt size (sector + count) ≡ b → (a || b) ≡ false → AreWithin size sector count
    by true b is at e = absurd (true≢false e)
    by false true is at e = absurd (true≢false e)
    by false false is at e = record { some = ⊎_elim (λ none. absurd (true≢false (sym (eq-eqb count 0 (omega (arith, none))) ∙ is))) (λ some. omega (arith, some)) (cases_lt count 1); fits = ltb-false size (sector + count) at }

pub within_own : (s : Site) (t : VolumeTable) (m : Known) (u : List ℕ) (r : TreeRow) (o : IsOrderly s t m) (there : In r m.rows) (shown : r.hidden ≡ false) (uuid : image_uuid (row_name r) ≡ u) (sector count : ℕ)
    → is_outside (shape_in s t m) u sector count ≡ false → (0 < count) × (sector + count ≤ sector_count r.image)
unfolding shape_in
within_own s t m u r o there shown uuid sector count e = ∥∥₁_elim o.well_formed (hlevel props) (λ w.
    let found = disk_image_is (shape_in s t m) w u (machine_row r) (In-map_at machine_row m.rows r there) (is_its_image (machine_row r) u shown uuid) in
    let h = outside_none (sector_count r.image) sector count (ap (λ x. (count == 0) || of_some (λ i. nat_lt i.size (sector + count)) x) (sym found) ∙ e) in
    (h.some, h.fits))

pub whole_bytes : (sector len size : ℕ) → len % 512 ≡ 0 → 0 < len / 512 → sector + len / 512 ≤ size → IsWhole sector len size
whole_bytes sector len size even some fits =
    let e = div-add-mod' len 512 in
    record { some = omega (arith, e, some); whole = even; within = omega (arith, e, even, fits) }

-- ---- whichever blocks get slots, they have room

attachment_rw : (u : List ℕ) (x : Option Attachment) → is_rw (x >>= (λ a. Some a.mode)) ≡ true → (a : Attachment) × (x ≡ Some a) × (a.mode ≡ Rw)
attachment_rw u None e = absurd (true≢false (sym e))
attachment_rw u (Some a) e = (a, refl, by a.mode e)
  where
    by : (x : Mode) → is_rw (Some x) ≡ true → x ≡ Rw
    by Ro f = absurd (true≢false (sym f))
    by Rw f = refl

thick_own : (s : Site) (t : VolumeTable) (m : Known) (u : List ℕ) (r : TreeRow) (o : IsOrderly s t m) (h : IsOwn s t m u r) → is_vhd (row_name r) ≡ true → thick_in (shape_in s t m) (sector_count r.image) ≤ r.extents
unfolding shape_in
thick_own s t m u r o h vhd = ∥∥₁_elim o.well_formed (hlevel props) (λ w.
    let a = attachment_rw u (find (λ (a : Attachment). bytes_eq a.disk u) (shape_in s t m).attached) h.attached in
    let f = find-some (λ (a : Attachment). bytes_eq a.disk u) (shape_in s t m).attached a.0 a.1 in
    w.attachments.thick a.0 (machine_row r) f.0 a.2 (In-map_at machine_row m.rows r h.there) h.shown (h.uuid ∙ sym ((bytes_eq-Decides a.0.disk u).0 f.1)) vhd)

pub le-div : (a b k : ℕ) → 0 < k → a ≤ b → a / k ≤ b / k
le-div a b k pos le = (le-div_iff_mul-le {k = k} {x = a / k} {y = b} pos).1 (let e = div-mul-le_self a k in omega (arith, e, le))

pub blocks_fit : (g : Geometry) (blocks at len : ℕ) → 0 < g.block → 0 < len / 512 → at + len / 512 ≤ blocks * g.block → at / g.block + blocks_touched g.block at len ≤ blocks
blocks_fit g blocks at len pos some fits =
    let last = (div-lt_iff_lt-mul {x = at + len / 512 - 1} {y = blocks} pos).1 (omega (arith, some, fits)) in
    let low = le-div at (at + len / 512 - 1) g.block pos (omega (arith, some)) in
    omega (arith, last, low)

max_cases : (x a b : ℕ) → x ≤ max a b → (x ≤ a) ⊎ (x ≤ b)
max_cases x a b le = ⊎_elim (λ high. inr (omega (arith, le, high))) (λ low. inl low) (cases_lt a x)

room_in : (g : Geometry) (n at len extents : ℕ) (head : Head) (slots : List (Option ℕ)) → IsGeometry g.extent g.block g.entries → IsStanding g n head slots
    → 0 < len / 512 → at + len / 512 ≤ disk_sectors head.footer → n ≡ extents * g.extent → thick g.extent g.block g.entries (disk_sectors head.footer) ≤ extents
    → HasRoomFor g (top_of (written_map g.block at len slots)) n
unfolding thick thin
room_in g n at len extents head slots ok stands some fits long enough =
    let d = disk_blocks g head.footer in
    let within : (b : ℕ) → d ≤ b → slot_of slots b ≡ None = λ b past. ⊎_elim (λ none. none) (λ has. absurd (let low = stands.sized b has.0 has.1 in omega (arith, low, past))) (option_cases (slot_of slots b)) in
    let pos : 0 < g.block = omega (arith, ok.block_least) in
    let size : disk_sectors head.footer ≡ d * g.block = omega (arith, stands.size) in
    let f = few_blocks d (at / g.block) (blocks_touched g.block at len) slots (blocks_fit g d at len pos some (omega (arith, fits, size))) (omega (arith, stands.most, stands.entries)) within in
    let reach = le-div_up (first g.entries + div_up (disk_sectors head.footer) g.block * (1 + g.block) + 1) g.extent (omega (arith, ok.extent_least)) in
    let wide = mul-le (div_up (first g.entries + div_up (disk_sectors head.footer) g.block * (1 + g.block) + 1) g.extent) g.extent extents g.extent enough (omega arith) in
    let blocks = le_of_mul-le-mul_right {m = d} {n = div_up (disk_sectors head.footer) g.block} {k = g.block} (subst (λ k. k ≤ div_up (disk_sectors head.footer) g.block * g.block) size (le-div_up (disk_sectors head.footer) g.block pos)) pos in
    let many = mul-le d (1 + g.block) (div_up (disk_sectors head.footer) g.block) (1 + g.block) blocks (omega arith) in
    let thick_room : HasRoomFor g d n = omega (arith, reach, wide, many, long) in
    ⊎_elim (λ low. room-less g (top_of (written_map g.block at len slots)) (top_of slots) n low stands.room) (λ low. room-less g (top_of (written_map g.block at len slots)) d n low thick_room) (max_cases (top_of (written_map g.block at len slots)) (top_of slots) d f)

pub vhd_name : (s : Site) (t : VolumeTable) (m : Known) (r : TreeRow) (head : Head) (slots : List (Option ℕ)) → IsOrderly s t m → In r m.rows → r.image ≡ body.Vhd head slots → is_vhd (row_name r) ≡ true
unfolding is_vhd
vhd_name s t m r head slots o i is = ⊎_elim (λ vhd. ap is_vhd vhd) (λ raw. absurd (let w = raw_row s t m r (image_uuid (row_name r)) o i raw in let x = sym is ∙ w.is in cc)) (named_as (row_name r) (image_uuid (row_name r)) (named_row s t m r o i) refl)

pub raw_name : (s : Site) (t : VolumeTable) (m : Known) (r : TreeRow) (volume : Name) (size : ℕ) → IsOrderly s t m → In r m.rows → r.image ≡ body.Raw volume size → is_vhd (row_name r) ≡ false
unfolding is_vhd
raw_name s t m r volume size o i is = ⊎_elim (λ vhd. absurd (let w = vhd_row s t m r (image_uuid (row_name r)) o i vhd in let x = sym is ∙ w.is in cc)) (λ raw. ap is_vhd raw) (named_as (row_name r) (image_uuid (row_name r)) (named_row s t m r o i) refl)

pub room_own : (s : Site) (t : VolumeTable) (m : Known) (u : List ℕ) (r : TreeRow) (o : IsOrderly s t m) (h : IsOwn s t m u r) (at len : ℕ) → 0 < len / 512 → at + len / 512 ≤ sector_count r.image
    → HasRoomToWrite s.geometry (size_of s t (row_name r)) at len r.image
unfolding shape_in
room_own s t m u r o h at len some fits = by r.image refl
  where
    by : (b : Body) → r.image ≡ b → HasRoomToWrite s.geometry (size_of s t (row_name r)) at len r.image
    by (body.Raw volume size) is = subst (HasRoomToWrite s.geometry (size_of s t (row_name r)) at len) (sym is) tt
    by (body.Vhd head slots) is =
        subst (HasRoomToWrite s.geometry (size_of s t (row_name r)) at len) (sym is)
        (room_in s.geometry (size_of s t (row_name r)) at len r.extents head slots (geometry_of s t m o)
        (subst (StandsIn s.geometry (size_of s t (row_name r))) is (row_stands s t m o r h.there)) some
        (subst (λ b. at + len / 512 ≤ sector_count b) is fits) (row_sectors s t m o r h.there)
        (subst (λ b. thick_in (shape_in s t m) (sector_count b) ≤ r.extents) is (thick_own s t m u r o h (vhd_name s t m r head slots o h.there is))))
