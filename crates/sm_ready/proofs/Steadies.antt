-- What an image that is steady says, whatever a stop may leave of its volume.
use Rattle.std.proofs.Common.{◌≡◌, inl, inr, ℕ, ◌-◌, ◌/◌, ◌<◌, ◌≤◌, List, ◌++◌, Option, Some, None, ap₂, ◌∙◌, arith}
use Rattle.std.proofs.lemmas.Bool.{cond-true}
use Rattle.std.specs.Option.{option_or, option_map_or}
use Rattle.std.specs.Result.{result_ok}
use Rattle.std.specs.Prelude.{option_and_then}
use Rattle.sm_base.specs.Numbers.{IsGeometry, first}
use Rattle.sm_base.specs.declared.sizes.Geometry.{Geometry}
use Rattle.sm_disk.specs.Held.{Held, Allows, reads}
use Rattle.vhd_fields.specs.Footers.{footer_read}
use Rattle.vhd_fields.specs.Headers.{header_read}
use Rattle.vhd_layout.specs.Contents.{content_at, size_at, parent_at}
use Rattle.vhd_layout.specs.Images.{footer_at, header_at}
use Rattle.vhd_layout.specs.Layouts.{Sectors}
use Rattle.vhd_layout.specs.Readings.{image_at, is_valid}
use Rattle.vhd_layout.proofs.ImageLaws.{content-of_head}
use Rattle.vhd_layout.proofs.ReadingLaws.{valid-decided}
use Rattle.vhd_volumes.specs.declared.heads.Head.{Head}
use Rattle.vhd_volumes.specs.Truth.{IsStanding, disk_sectors, layout_in}
use Rattle.vhd_volumes.specs.Steady.{IsHeadSector, IsSteadyIn}

-- it is valid
pub steady_valid : (g : Geometry) (sectors : ℕ) (h : Held) (head : Head) (m : List (Option ℕ)) (v : Sectors) → IsGeometry g.extent g.block g.entries
    → IsSteadyIn g sectors h head m → Allows sectors h v → image_at g.block g.entries sectors v ≡ Some (content_at g.block g.entries sectors v)
steady_valid g sectors h head m v geometry steady allows =
    cond-true (is_valid g.block g.entries sectors v) (Some (content_at g.block g.entries sectors v)) None
    ((valid-decided g.extent g.block g.entries sectors v geometry).1 (steady.is_true.valid v allows))

three_first : (entries : ℕ) → 3 ≤ first entries
unfolding first
three_first entries = omega arith

-- it has so many sectors at least
pub steady_long : (g : Geometry) (sectors : ℕ) (h : Held) (head : Head) (m : List (Option ℕ)) → IsSteadyIn g sectors h head m → 4 ≤ sectors
steady_long g sectors h head m steady = omega (arith, steady.is_true.now.head.room, three_first g.entries)

-- its head's sectors are those of a read
steady_sector : (g : Geometry) (sectors : ℕ) (h : Held) (head : Head) (m : List (Option ℕ)) (v : Sectors) → IsSteadyIn g sectors h head m → Allows sectors h v
    → (p : ℕ) → IsHeadSector sectors p → p < sectors → v p ≡ reads h p
steady_sector g sectors h head m v steady allows p here below = steady.still p (v p) here (allows p below)

same_size : (sectors : ℕ) (v w : Sectors) → v (sectors - 1) ≡ w (sectors - 1) → v 0 ≡ w 0 → size_at sectors v ≡ size_at sectors w
unfolding size_at footer_at
same_size sectors v w last first_one =
    ap₂ (λ (x y : List ℕ). option_map_or (λ footer. footer.current / 512) (option_or (result_ok (footer_read x)) (result_ok (footer_read y))) 0) last first_one

same_parent : (v w : Sectors) → v 1 ≡ w 1 → v 2 ≡ w 2 → parent_at v ≡ parent_at w
unfolding parent_at header_at
same_parent v w one two = ap₂ (λ (x y : List ℕ). option_and_then (λ header. header.parent) (result_ok (header_read (x ++ y)))) one two

-- and so it has the head's size and parent
pub steady_size : (g : Geometry) (sectors : ℕ) (h : Held) (head : Head) (m : List (Option ℕ)) (v : Sectors) → IsStanding g sectors head m → IsSteadyIn g sectors h head m
    → Allows sectors h v → size_at sectors v ≡ disk_sectors head.footer
steady_size g sectors h head m v stands steady allows =
    let long = steady_long g sectors h head m steady in
    let at = steady_sector g sectors h head m v steady allows in
    let now = steady.is_true.now.head in
    let l = layout_in g head.footer sectors in
    same_size sectors v (reads h) (at (sectors - 1) (inr (omega (arith, long))) (omega (arith, long))) (at 0 (inl (omega arith)) (omega (arith, long)))
    ∙ (content-of_head l (reads h) head.footer head.header now).0
    ∙ omega (arith, stands.size)

pub steady_parent : (g : Geometry) (sectors : ℕ) (h : Held) (head : Head) (m : List (Option ℕ)) (v : Sectors) → IsSteadyIn g sectors h head m
    → Allows sectors h v → parent_at v ≡ head.header.parent
steady_parent g sectors h head m v steady allows =
    let long = steady_long g sectors h head m steady in
    let at = steady_sector g sectors h head m v steady allows in
    same_parent v (reads h) (at 1 (inl (omega arith)) (omega (arith, long))) (at 2 (inl (omega arith)) (omega (arith, long)))
    ∙ (content-of_head (layout_in g head.footer sectors) (reads h) head.footer head.header steady.is_true.now.head).1
