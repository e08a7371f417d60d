-- The image of a volume as a function: a test that computes whether the volume holds a valid image, and what that
-- image says. The test is tied to the definition of a valid image by a law.
use Rattle.std.specs.Prelude.{ℕ, ◌+◌, ◌*◌, ◌==◌, ◌&&◌, ◌||◌, not, nat_lt, nat_le, Bool, true, false, zero, suc, if◌then◌else◌, Option, None, Some, is_some}
use Rattle.vhd_fields.specs.declared.footers.Footer.{Footer}
use Rattle.vhd_fields.specs.declared.headers.Header.{Header}
use Rattle.vhd_map.specs.Places.{blank}
use Rattle.vhd_layout.specs.Contents.{ImageContent, content_at, layout_at, slot_number}
use Rattle.vhd_layout.specs.Images.{footer_at, header_at}
use Rattle.vhd_layout.specs.Layouts.{Sectors, Layout, entry, code, slot_count, entries_in_sectors}

-- the test passes at each number below n
unfoldable pub each_below : (ℕ → Bool) → ℕ → Bool
each_below test zero = true
each_below test (suc n) = test n && each_below test n

-- it passes at some number below n
unfoldable pub some_below : (ℕ → Bool) → ℕ → Bool
some_below test zero = false
some_below test (suc n) = test n || some_below test n

-- a dynamic or differencing disk of the layout's blocks, from 1 to the number of entries
abbrev pub is_footer_of : Layout → Footer → Bool
is_footer_of l footer =
    ((footer.kind == 3) || (footer.kind == 4))
    && ((footer.current == 512 * (l.blocks * l.block)) && (nat_le 1 l.blocks && nat_le l.blocks l.entries))

-- two answers are the same
abbrev pub same_answer : Bool → Bool → Bool
same_answer true b = b
same_answer false b = not b

-- the header of an image of this layout, with a parent exactly where the disk is a differencing one
abbrev pub is_header_of : Layout → Footer → Header → Bool
is_header_of l footer header =
    (header.table_offset == 1536)
    && ((header.entries == l.entries) && ((header.block == 512 * l.block) && same_answer (is_some header.parent) (footer.kind == 4)))

-- both read, and are so
abbrev pub is_head_of : Layout → Option Footer → Option Header → Bool
is_head_of l None header = false
is_head_of l (Some footer) None = false
is_head_of l (Some footer) (Some header) = is_footer_of l footer && is_header_of l footer header

-- an entry that is not blank is that of a block of the disk, and names a slot of the image
unfoldable pub is_entry_of : Layout → ℕ → ℕ → Bool
is_entry_of l b e =
    let k = slot_number l e in
    nat_lt b l.blocks && (nat_lt k l.entries && (nat_lt k (slot_count l) && (code l (Some k) == e)))

-- entry b is blank, or is so and differs from each entry in front of it
unfoldable pub is_entry_right : Layout → Sectors → ℕ → Bool
is_entry_right l v b =
    (entry v b == blank) || (is_entry_of l b (entry v b) && not (some_below (λ c. entry v c == entry v b) b))

-- an image of this layout
unfoldable pub is_image_of : Layout → Sectors → Bool
is_image_of l v =
    is_head_of l (footer_at l.sectors v) (header_at v)
    && (nat_le (l.first + 1) l.sectors && each_below (is_entry_right l v) (entries_in_sectors l))

-- whether the volume holds a valid image in its first so many sectors
abbrev pub is_valid : ℕ → ℕ → ℕ → Sectors → Bool
is_valid block entries sectors v = is_image_of (layout_at block entries sectors v) v

-- what the image says, where the volume holds a valid one
abbrev pub image_at : ℕ → ℕ → ℕ → Sectors → Option ImageContent
image_at block entries sectors v = if is_valid block entries sectors v then Some (content_at block entries sectors v) else None
