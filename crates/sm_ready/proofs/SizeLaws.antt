-- Each disk that a read gives is as large as its visible image in memory.
use Rattle.std.proofs.Common.{◌≡◌, ℕ, zero, suc, ◌+◌, not, ◌&&◌, Bool, true, false, cond, List, [], length, map, Option, Some, None, refl, sym, ap, ◌∙◌, subst}
use Rattle.std.proofs.lemmas.Bool.{true≢false}
use Rattle.std.proofs.lemmas.List.{length-map}
use Rattle.std.proofs.lemmas.Option.{none-some, same_Some}
use Rattle.common_laws.specs.Lists.{In, numbers}
use Rattle.sm_base.specs.Kinds.{is_image}
use Rattle.sm_base.specs.declared.names.Name.{Name}
use Rattle.sm_base.specs.declared.names.Name.TheVariants.{Vhd, Raw}
use Rattle.sm_disk.specs.Held.{Held, reads}
use Rattle.vg_meta.specs.Tables.{VolumeTable, Row, rows}
use Rattle.vg_volumes.specs.Sites.{Site}
use Rattle.vhd_image.specs.Bodies.{sector_count, parent_name}
use Rattle.vhd_chain.specs.Trees.{row_name, tree_row}
use Rattle.vhd_chain.specs.declared.rows.TreeRow.{TreeRow}
use Rattle.sm_machine.specs.Disks.{Disk}
use Rattle.sm_machine.specs.Shapes.{image_uuid}
use Rattle.sm_standing.specs.Contents.{Content}
use Rattle.sm_standing.specs.Entries.{is_visible, of_row}
use Rattle.sm_standing.specs.Images.{Image, image_of, image_reads, sectors_read}
use Rattle.sm_standing.specs.Outlines.{Link, link_of}
use Rattle.sm_standing.specs.Standing.{disks, standing_volume}
use Rattle.sm_standing.proofs.DiskLists.{disk_parts, disks_at}
use Rattle.sm_ready.specs.Known.{Known}
use Rattle.sm_ready.specs.Orderly.{IsOrderly}
use Rattle.sm_ready.specs.Outlined.{link_in}
use Rattle.sm_ready.specs.Ready.{IsReady}
use Rattle.sm_ready.specs.Stores.{content_now}
use Rattle.sm_ready.proofs.LeftLaws.{left_in, left_now, links_left}
use Rattle.sm_ready.proofs.Orders.{rowed}
use Rattle.sm_ready.proofs.ShapeLaws.{plainly_stands}

-- a visible image in memory has the UUID, and so many sectors
pub record HasVisible (m : Known) (u : List ℕ) (sectors : ℕ) : Type 0 where
  pub row : TreeRow
  pub there : In row m.rows
  pub shown : row.hidden ≡ false
  pub named : image_uuid (row_name row) ≡ u
  pub size : sectors ≡ sector_count row.image

-- ---- how many sectors are read of an image

length-numbers : (a n : ℕ) → length (numbers a n) ≡ n
unfolding numbers
length-numbers a zero = refl
length-numbers a (suc n) = ap suc (length-numbers (a + 1) n)

as_many : (c : Content) (n : Name) (o : Option Image) (size : ℕ) (parent : Option Name) → image_of c n ≡ o → link_of o ≡ Some (record { size = size; parent = parent }) → length (sectors_read c n) ≡ size
unfolding sectors_read
as_many c n None size parent is e = absurd (none-some (record { size = size; parent = parent }) e)
as_many c n (Some i) size parent is e =
    ap (λ (o : Option Image). length (elim o as (λ o. List (List ℕ)) [ None ↦ [] | Some j ↦ map (image_reads c n) (numbers 0 j.size) ])) is
    ∙ length-map (numbers 0 i.size) (image_reads c n) ∙ length-numbers 0 i.size
    ∙ ap (λ (k : Link). k.size) (same_Some (record { size = i.size; parent = i.parent }) (record { size = size; parent = parent }) e)

read_long : (s : Site) (t : VolumeTable) (area : Held) (m : Known) (n : Name) (r : TreeRow) → IsOrderly s t m → IsReady s t area m → tree_row m.rows n ≡ Some r
    → length (sectors_read (content_now s t area) n) ≡ sector_count r.image
read_long s t area m n r o ready found =
    as_many (content_now s t area) n (image_of (content_now s t area) n) (sector_count r.image) (parent_name r.image) refl
    (links_left s t area m (reads area) n o ready.firm (left_in s t m area (reads area) o (left_now s area)) ∙ ap link_in found)

-- ---- the row of a UUID that stands

visible_of : (s : Site) (t : VolumeTable) (area : Held) (m : Known) (n : Name) (u : List ℕ) (x : Option Row) → IsOrderly s t m → IsReady s t area m → is_image n ≡ true → image_uuid n ≡ u → rows t n ≡ x
    → of_row (λ q. not q.hidden && not q.fresh) x ≡ true → HasVisible m u (length (sectors_read (content_now s t area) n))
visible_of s t area m n u None o ready image named is e = absurd (true≢false (sym e))
visible_of s t area m n u (Some r) o ready image named is e = by r.hidden r.fresh refl refl e
  where
    by : (a b : Bool) → r.hidden ≡ a → r.fresh ≡ b → (not a && not b) ≡ true → HasVisible m u (length (sectors_read (content_now s t area) n))
    by true b h f e = absurd (true≢false (sym e))
    by false true h f e = absurd (true≢false (sym e))
    by false false h f e =
        let w = rowed s t m n r o image is f in
        record { row = w.row; there = w.there; shown = w.hidden ∙ h; named = ap image_uuid w.named ∙ named; size = read_long s t area m n w.row o ready w.found }

standing_visible : (s : Site) (t : VolumeTable) (area : Held) (m : Known) (u : List ℕ) (n : Name) → IsOrderly s t m → IsReady s t area m → standing_volume t u ≡ Some n
    → HasVisible m u (length (sectors_read (content_now s t area) n))
unfolding image_uuid
standing_visible s t area m u n o ready is = vhd (is_visible t (Vhd u)) refl
  where
    Result : Name → Type 0
    Result x = HasVisible m u (length (sectors_read (content_now s t area) x))

    raw : (b : Bool) → is_visible t (Raw u) ≡ b → cond b (Some (Raw u)) None ≡ Some n → Result n
    raw true e h = subst Result (same_Some (Raw u) n h) (visible_of s t area m (Raw u) u (rows t (Raw u)) o ready refl refl refl e)
    raw false e h = absurd (none-some n h)

    vhd : (b : Bool) → is_visible t (Vhd u) ≡ b → Result n
    vhd true e =
        subst Result (same_Some (Vhd u) n (sym (ap (λ b. cond b (Some (Vhd u)) (cond (is_visible t (Raw u)) (Some (Raw u)) None)) e) ∙ sym (plainly_stands s t m u o) ∙ is))
        (visible_of s t area m (Vhd u) u (rows t (Vhd u)) o ready refl refl refl e)
    vhd false e = raw (is_visible t (Raw u)) refl (sym (ap (λ b. cond b (Some (Vhd u)) (cond (is_visible t (Raw u)) (Some (Raw u)) None)) e) ∙ sym (plainly_stands s t m u o) ∙ is)

-- each disk is as large as its visible image
pub law_size : (s : Site) (t : VolumeTable) (area : Held) (m : Known) (d : Disk) → IsOrderly s t m → IsReady s t area m → In d (disks (content_now s t area)) → HasVisible m d.uuid (length d.sectors)
law_size s t area m d o ready i =
    let p = disk_parts (content_now s t area) d.uuid d (disks_at (content_now s t area) d i) in
    subst (HasVisible m d.uuid) (ap (λ (e : Disk). length e.sectors) (sym p.made)) (standing_visible s t area m d.uuid p.name o ready p.standing)
