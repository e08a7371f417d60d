-- A device that was formatted is kept, and has no disks.
use Rattle.std.proofs.Common.{true, ◌≡◌, ℕ, zero, suc, ◌+◌, ◌*◌, ◌/◌, ◌%◌, ◌<◌, ◌≤◌, inl, inr, false, List, [], ◌∷◌, map, length, sum, get_or, Some, None, refl, sym, ap, ap₂, subst, ◌∙◌, arith}
use Rattle.std.specs.List.{range_with_len, AllByRecursion}
use Rattle.std.proofs.Math.Nat.{div-lt_iff_lt-mul, mul-le-mul_right}
use Rattle.std.proofs.lemmas.List.{append-nil}
use Rattle.std.proofs.lemmas.List.FromFn.{length-range_with_len, get_or-range_with_len}
use Rattle.std.proofs.lemmas.Nat.{div-add-mod'}
use Rattle.std.proofs.lemmas.Option.{none-some}
use Rattle.sm_base.specs.declared.names.Name.TheVariants.{Mgt, Vhd}
use Rattle.sm_base.specs.declared.sizes.Geometry.{Geometry}
use Rattle.sm_base.proofs.NumberLemmas.{le-div_up}
use Rattle.sm_disk.specs.Held.{Held, Allows, IsSettled}
use Rattle.sm_disk.specs.Sectors.{zeros}
use Rattle.sm_disk.proofs.HeldLaws.{allows_settled, reads-settled}
use Rattle.sm_machine.specs.Operations.{Idle}
use Rattle.sm_machine.specs.Disks.{Disk}
use Rattle.sm_machine.specs.Shapes.{Shape, new_shape}
use Rattle.common_laws.specs.Lists.{In}
use Rattle.sm_record.specs.Records.{reading}
use Rattle.sm_record.specs.declared.records.Reading.TheVariants.{Free}
use Rattle.sm_record.proofs.RoundTrips.{reading_zeros}
use Rattle.vg_meta.specs.Tables.{IsTable, VolumeTable, Row, row_of, name_eq, new_table}
use Rattle.vg_layout.specs.Places.{area_place, best_layout, label_place, new_extents, record_extents}
use Rattle.vg_layout.specs.Sectors.{Plate, Pointer}
use Rattle.vg_layout.specs.Opening.{GroupFound, StandsOn, text_in}
use Rattle.vg_layout.proofs.ImageLaws.{plate_apart, plate_area, plate_few, plate_same, pointer_front, spells_same, stands_from, stands_once, text_front}
use Rattle.vg_store.specs.Formats.{IsFormatted, new_group}
use Rattle.vg_volumes.specs.Volumes.{piece, spot}
use Rattle.sm_standing.specs.Checks.{first_name, is_entry_linked, is_lost, is_damaged, is_invalid, is_misnamed, is_tree_wrong}
use Rattle.sm_standing.specs.Dropped.{dropped, opening}
use Rattle.sm_standing.specs.Images.{image_of}
use Rattle.sm_standing.specs.LogChecks.{log_fault}
use Rattle.sm_standing.specs.Logs.{logs, logs_in}
use Rattle.sm_standing.specs.Outlines.{outline}
use Rattle.sm_standing.specs.Contents.{Content, row, reading_at, sectors_of}
use Rattle.sm_standing.specs.Opened.{cleaned, end_changes, ended, opened, undo_changes, undone}
use Rattle.sm_standing.specs.Shapes.{disk_record, row_of as image_row_of, shape}
use Rattle.sm_standing.specs.Devices.{IsKeptOn, Shows, content_of}
use Rattle.sm_standing.specs.Plain.{IsPlain}
use Rattle.sm_standing.specs.PlainSound.{PlainSound}
use Rattle.sm_standing.specs.Standing.{standing_volume, disks}
use Rattle.sm_standing.proofs.DiskLists.{disks_at}
use Rattle.sm_standing.proofs.PlainDisks.{none_stands, plain_stands}
use Rattle.sm_standing.proofs.PlainKept.{plain_kept}
use Rattle.lvhd_command.specs.Devices.{IsKeptDevice, IsOpenedOn, MayShowOn}
use Rattle.lvhd_command.proofs.OpenLaws.{plate_once}

-- ---- a content with the table of a new group

-- a content with the table of a new group of so many extents of records
abbrev emptied : Content → ℕ → Content
emptied c n = record { extent = c.extent; block = c.block; entries = c.entries; count = c.count; table = new_table n; area = c.area }

new_plain : (n : ℕ) → IsPlain (new_table n)
new_plain n = (refl, tt)

records_there : (c : Content) (n : ℕ) → row (emptied c n) Mgt ≡ Some (record { name = Mgt; hidden = false; fresh = false; extents = range_with_len 0 n })
unfolding row_of name_eq
records_there c n = refl

nowhere : (n : ℕ) (u : List ℕ) → standing_volume (new_table n) u ≡ None
unfolding row_of name_eq
nowhere n u = plain_stands (new_table n) u (new_plain n)

-- there is no image
no_image : (c : Content) (n : ℕ) (u : List ℕ) → image_of (emptied c n) (Vhd u) ≡ None
unfolding image_of row_of name_eq
no_image c n u = refl

each_alone : (n : ℕ) (P : Row → Type 0) → P (record { name = Mgt; hidden = false; fresh = false; extents = range_with_len 0 n }) → (r : Row) → In r (new_table n).volumes → P r
each_alone n P here r (inl is) = subst P (sym is) here
each_alone n P here r (inr none) = elim none [ ]

-- on the first extents each sector of a volume is the same of the area
spot_first : (extent n p : ℕ) → 0 < extent → p < n * extent → spot extent (range_with_len 0 n) p ≡ p
unfolding spot
spot_first extent n p some below =
    let first = get_or-range_with_len 0 n (p / extent) 0 ((div-lt_iff_lt-mul some).1 below) in
    let here : get_or (range_with_len 0 n) (p / extent) 0 ≡ p / extent = omega (arith, first) in
    ap (λ (i : ℕ). i * extent + p % extent) here ∙ div-add-mod' p extent

-- what is said of the sectors of the records
abbrev AreFree : (ℕ → List ℕ) → Type 0
AreFree area = (q : ℕ) → q < 512 → area q ≡ zeros

free_sector : (c : Content) (n : ℕ) → 0 < c.extent → 512 ≤ n * c.extent → AreFree c.area → (k : ℕ) → k < 512 → sectors_of (emptied c n) Mgt k ≡ zeros
unfolding sectors_of piece row_of name_eq
free_sector c n some room free k below = ap c.area (spot_first c.extent n k some (omega (arith, room, below))) ∙ free k below

zeros_free : reading zeros ≡ Free
unfolding zeros
zeros_free = reading_zeros 512

free_at : (c : Content) (n : ℕ) → 0 < c.extent → 512 ≤ n * c.extent → AreFree c.area → (k : ℕ) → k < 512 → reading_at (emptied c n) k ≡ Free
free_at c n some room free k below = ap reading (free_sector c n some room free k below) ∙ zeros_free

-- ---- it is sound, and has no disks

new_sound : (c : Content) (n : ℕ) → 0 < c.extent → 512 ≤ n * c.extent → n ≡ record_extents c.extent → AreFree c.area → PlainSound (emptied c n)
unfolding is_entry_linked
new_sound c n some room long free = record {
  only = new_plain n;
  records_row = record { name = Mgt; hidden = false; fresh = false; extents = range_with_len 0 n };
  records_there = records_there c n;
  records_extents = length-range_with_len 0 n ∙ long;
  few_images = omega arith;
  named = each_alone n (λ r. is_misnamed (new_table n) r ≡ false) refl;
  one_folding = refl;
  one_entry = refl;
  at_stage = each_alone n (λ r. is_lost (new_table n) r ≡ false) refl;
  valid = each_alone n (λ r. is_invalid (outline (emptied c n)) r ≡ false) refl;
  placed = each_alone n (λ r. is_tree_wrong (outline (emptied c n)) r ≡ false) refl;
  linked = each_alone n (λ r. is_entry_linked (outline (emptied c n)) r.name ≡ true) refl;
  right = λ k below. ap is_damaged (free_at c n some room free k below);
  recorded = λ u m is. absurd (none-some m (sym (nowhere n u) ∙ is));
}

no_disks : (ds : List Disk) → ((d : Disk) → In d ds → ⊥) → ds ≡ []
no_disks [] none = refl
no_disks (d ∷ ds) none = absurd (none d (inl refl))

new_disks : (c : Content) (n : ℕ) → disks (emptied c n) ≡ []
new_disks c n = no_disks (disks (emptied c n)) (λ d h. absurd (none-some d (sym (none_stands (emptied c n) d.uuid (nowhere n d.uuid)) ∙ disks_at (emptied c n) d h)))

-- no volume is a log
no_logs_pass : (c : Content) (n : ℕ) → log_fault (emptied c n) ≡ None
unfolding log_fault first_name
no_logs_pass c n = refl

-- ---- a device

records_room : (extent : ℕ) → 0 < extent → 512 ≤ record_extents extent * extent
unfolding record_extents
records_room extent some = le-div_up 512 extent some

some_extent : (g : Geometry) → 0 < g.extent
some_extent g = omega (arith, g.in_range.extent_least)

pub formatted_kept : (size : ℕ) (image : ℕ → List ℕ) (g : Geometry) (repository : List ℕ) → IsFormatted size image g repository → IsKeptOn size image
formatted_kept size image g repository f =
    let c : Content = content_of (new_group size g repository) image in
    record {
      group = new_group size g repository;
      stands = f.stands;
      kept = record {
        kept = plain_kept c (new_sound c (record_extents g.extent) (some_extent g) (records_room g.extent (some_extent g)) refl f.records)
            (λ u i is. absurd (none-some i (sym (no_image c (record_extents g.extent) u) ∙ is)));
        passes = no_logs_pass c (record_extents g.extent);
      };
    }

pub formatted_empty : (size : ℕ) (image : ℕ → List ℕ) (g : Geometry) (repository : List ℕ) → IsFormatted size image g repository → Shows size image []
formatted_empty size image g repository f = record {
  group = new_group size g repository;
  stands = f.stands;
  shown = sym (new_disks (content_of (new_group size g repository) image) (record_extents g.extent));
}

-- ---- a device with nothing pending

-- the first extents are those of the group
range_within : (a n count : ℕ) → AllByRecursion (λ (e : ℕ). e < count) (range_with_len a (suc n)) → a + suc n ≤ count
range_within a zero count all = omega (arith, all.0)
range_within a (suc n) count all = omega (arith, range_within (a + 1) n count all.1)

new_within : (count n : ℕ) → IsTable count (new_table n) → n ≤ count
new_within count zero t = omega arith
new_within count (suc n) t =
    let below = subst (λ (l : List ℕ). AllByRecursion (λ (e : ℕ). e < count) l) (append-nil (range_with_len 0 (suc n))) t.volumes.below in
    omega (arith, range_within 0 n count below)

-- so the records are on the device
formatted_room : (size : ℕ) (image : ℕ → List ℕ) (g : Geometry) (repository : List ℕ) → IsFormatted size image g repository → area_place (best_layout size g.extent) + 512 ≤ size
formatted_room size image g repository f =
    let p : Plate = (new_group size g repository).plate in
    let area = plate_area size image p f.stands.labelled in
    let most = mul-le-mul_right g.extent (new_within p.count (record_extents g.extent) f.stands.spelled.table) in
    omega (arith, area, most, records_room g.extent (some_extent g))

-- only the sectors of the device count
formatted_same : (size : ℕ) (image other : ℕ → List ℕ) (g : Geometry) (repository : List ℕ) → IsFormatted size image g repository
    → ((q : ℕ) → q < size → other q ≡ image q) → IsFormatted size other g repository
formatted_same size image other g repository f same =
    let s : GroupFound = new_group size g repository in
    let room = formatted_room size image g repository f in
    let from = area_place s.plate.layout in
    let front = λ (q : ℕ) (below : q < from). same q (omega (arith, room, below)) in
    let apart = plate_apart size image s.plate f.stands.labelled in
    let label = front label_place (omega (arith, apart.front.0)) in
    record {
      stands = stands_from size other s.plate s.pointer s.table (text_in image s.pointer)
          (plate_same size image other label ∙ f.stands.labelled)
          (pointer_front from image other apart front ∙ f.stands.headed)
          (text_front from image other s.pointer apart f.stands.headed front) f.stands.summed
          (spells_same image other s.plate.count (text_in image s.pointer) s.table label f.stands.spelled);
      records = λ q below. same (from + q) (omega (arith, room, below)) ∙ f.records q below;
    }

pub formatted_allowed : (size : ℕ) (h : Held) (g : Geometry) (repository : List ℕ) → IsFormatted size h.floor g repository → IsSettled h
    → (image : ℕ → List ℕ) → Allows size h image → IsFormatted size image g repository
formatted_allowed size h g repository f settled image allowed =
    formatted_same size h.floor image g repository f (λ q below. allows_settled size h image settled allowed q below ∙ reads-settled h q (settled q))

pub device_kept : (size : ℕ) (h : Held) (g : Geometry) (repository : List ℕ) → IsFormatted size h.floor g repository → IsSettled h → IsKeptDevice size h
device_kept size h g repository f settled = λ image allowed. formatted_kept size image g repository (formatted_allowed size h g repository f settled image allowed)

-- a content with the table of a new group has no disks, whatever else it has
table_disks : (c : Content) (n : ℕ) → c.table ≡ new_table n → disks c ≡ []
table_disks c n is =
    ap (λ (t : VolumeTable). disks (record { extent = c.extent; block = c.block; entries = c.entries; count = c.count; table = t; area = c.area })) is ∙ new_disks c n

-- where the new group stands, no other does
table_once : (size : ℕ) (m : ℕ → List ℕ) (p : Plate) (at : Pointer) (t : VolumeTable) (g : GroupFound) → StandsOn size m (record { plate = p; pointer = at; table = t })
    → StandsOn size m g → g.table ≡ t
table_once size m p at t g a b =
    let here : StandsOn size m (record { plate = p; pointer = g.pointer; table = g.table }) =
    subst (λ (q : Plate). StandsOn size m (record { plate = q; pointer = g.pointer; table = g.table })) (plate_once size m g.plate p b.labelled a.labelled) b in
    stands_once size m p g.pointer at g.table t (plate_few size m p a.labelled) here a

pub device_empty : (size : ℕ) (h : Held) (g : Geometry) (repository : List ℕ) → IsFormatted size h.floor g repository → IsSettled h
    → (ds : List Disk) → MayShowOn size h ds → ds ≡ []
device_empty size h g repository f settled ds m =
    let s : GroupFound = new_group size g repository in
    let there = (formatted_allowed size h g repository f settled m.image m.allowed).stands in
    m.shows.shown ∙ table_disks (content_of m.shows.group m.image) (record_extents g.extent)
    (table_once size m.image s.plate s.pointer s.table m.shows.group there m.shows.stands)

-- ---- what an opening makes of it

-- a content with the table of a new group: the shape of a new repository
abbrev shape_of : Content → ℕ → List Disk → Shape
shape_of c m ds = record { sequence = 1; extent = c.extent; block = c.block; entries = c.entries; extents = c.count; others = m; records = map disk_record ds; images = []; logs = []; attached = []; op = Idle }

opened_so : (c : Content) (n : ℕ) → opening (emptied c n) ≡ shape_of c (sum (length (range_with_len 0 n) ∷ [])) (disks (emptied c n))
unfolding opening dropped opened ended end_changes undone undo_changes cleaned shape image_row_of image_of logs logs_in
opened_so c n = refl

records_alone : (n : ℕ) → sum (length (range_with_len 0 n) ∷ []) ≡ n
records_alone n = let long = length-range_with_len 0 n in omega (arith, long)

opened_new : (c : Content) (n : ℕ) → opening (emptied c n) ≡ new_shape c.extent c.block c.entries c.count n
opened_new c n = opened_so c n ∙ ap₂ (λ m ds. shape_of c m ds) (records_alone n) (new_disks c n)

opened_at : Plate → VolumeTable → (ℕ → List ℕ) → Shape
opened_at p t image = opening (record { extent = p.extent; block = p.block; entries = p.entries; count = p.count; table = t; area = λ q. image (area_place p.layout + q) })

-- a device that was formatted: no disks, and that shape
pub formatted_start : (size : ℕ) (image : ℕ → List ℕ) (g : Geometry) (repository : List ℕ) (ds : List Disk) (shape : Shape) → IsFormatted size image g repository → Shows size image ds → IsOpenedOn size image shape
    → (ds ≡ []) × (shape ≡ new_shape g.extent g.block g.entries (new_extents size g.extent) (record_extents g.extent))
unfolding opened_at
formatted_start size image g repository ds shape f shown o =
    let s : GroupFound = new_group size g repository in
    let none : ds ≡ [] = shown.shown ∙ table_disks (content_of shown.group image) (record_extents g.extent) (table_once size image s.plate s.pointer s.table shown.group f.stands shown.stands) in
    let plate : o.group.plate ≡ s.plate = plate_once size image o.group.plate s.plate o.stands.labelled f.stands.labelled in
    let table : o.group.table ≡ s.table = table_once size image s.plate s.pointer s.table o.group f.stands o.stands in
    (none, o.shape_is ∙ ap₂ (λ p t. opened_at p t image) plate table ∙ opened_new (content_of s image) (record_extents g.extent))
