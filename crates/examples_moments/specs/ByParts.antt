-- What an opening makes of a content (this project's format), as a shape, in a second description, made by itself: the repairs
-- line by line, then the shape of what is left. Each cut, removal, renaming and mark raises the table's sequence number by one,
-- up to the last. Here a repair is no commit but an edit of a working copy: the sequence number, and a row for each volume with
-- what its image says.
--   1. An image that was being enlarged is cut to the extents that it had; the entry goes.
--   2. A fork: the twin goes; where the base is there the disk's new image goes, and the base is unmarked and takes
--      the disk's name, keeping its kind; the entry goes.
--   3. A relink: each child is linked to the parent; the entry goes.
--   4. A copy: the entry goes.
--   5. A leaf: where it was renamed the parent takes its name; where the parent has its name that is unmarked, and the
--      old leaf goes; the entry goes.
--   6. Each volume marked new goes. Stray records are cleared, which no shape shows.
use Rattle.std.specs.Prelude.{ℕ, ◌&&◌, not, nat_lt, Bool, false, List, [], ◌∷◌, length, map, Option, Some, None, if◌then◌else◌}
use Rattle.std.specs.List.{filter, filter_map, list_any, sum}
use Rattle.sm_base.specs.declared.names.Name.{Name}
use Rattle.sm_base.specs.declared.names.Name.TheVariants.{Vhd, Old, Clone, Inflate, Coalesce, Relink, Leaf}
use Rattle.sm_machine.specs.Operations.{Idle}
use Rattle.vg_meta.specs.Tables.{Row, VolumeTable, name_eq}
use Rattle.common_laws.specs.Lists.{when}
use Rattle.sm_machine.specs.Shapes.{Shape, ImageRow, risen, same_image, with_image}
use Rattle.sm_standing.specs.Contents.{Content}
use Rattle.sm_standing.specs.Entries.{folding, making, head, image_with, is_leaf_renamed, is_leaf_swapped}
use Rattle.sm_standing.specs.Images.{Image, image_of}
use Rattle.sm_standing.specs.Opened.{parent_name, under_name}
use Rattle.sm_standing.specs.Logs.{logs}
use Rattle.sm_standing.specs.Shapes.{disk_record}
use Rattle.sm_standing.specs.Standing.{disks}

-- a volume of the working copy: its name, marks and number of extents, and what its image says where it has one
pub record Part : Type 0 where
  pub name : Name
  pub hidden : Bool
  pub fresh : Bool
  pub extents : ℕ
  pub image : Option Image

pub record Work : Type 0 where
  pub sequence : ℕ
  pub parts : List Part

abbrev pub part_of : Content → Row → Part
part_of c r = record { name = r.name; hidden = r.hidden; fresh = r.fresh; extents = length r.extents; image = image_of c r.name }

abbrev pub begun : Content → Work
begun c = record { sequence = c.table.sequence; parts = map (part_of c) c.table.volumes }

-- ---- the edits

abbrev pub is_part : Name → Part → Bool
is_part n p = name_eq p.name n

abbrev pub has_part : Name → Work → Bool
has_part n w = list_any (is_part n) w.parts

-- a commit more
abbrev pub committed : Work → List Part → Work
committed w parts = record { sequence = risen w.sequence 1; parts = parts }

-- one volume less, where it is there
abbrev pub removed : Name → Work → Work
removed n w = when (has_part n w) (λ v. committed v (filter (λ p. not (is_part n p)) v.parts)) w

abbrev pub part_cut : ℕ → Part → Part
part_cut e p = record p { extents = e }

-- cut to so many extents, where it has more
abbrev pub cut : Name → ℕ → Work → Work
cut n e w = when (list_any (λ p. is_part n p && nat_lt e p.extents) w.parts)
    (λ v. committed v (map (λ p. when (is_part n p) (part_cut e) p) v.parts)) w

-- not hidden, where it is hidden
abbrev pub shown : Name → Work → Work
shown n w = when (list_any (λ p. is_part n p && p.hidden) w.parts)
    (λ v. committed v (map (λ p. when (is_part n p) (λ q. record q { hidden = false }) p) v.parts)) w

-- another name
abbrev pub renamed : Name → Name → Work → Work
renamed n m w = committed w (map (λ p. when (is_part n p) (λ q. record q { name = m }) p) w.parts)

-- the children of one image linked to another, without a commit
abbrev pub has_parent : Name → Option Image → Bool
has_parent n None = false
has_parent n (Some i) = elim i.parent [ None ↦ false | Some p ↦ same_image p n ]

abbrev pub linked_image : Name → Option Image → Option Image
linked_image m None = None
linked_image m (Some i) = Some (record i { parent = Some m })

abbrev pub linked : Name → Name → Work → Work
linked n m w = record w { parts = map (λ p. when (has_parent n p.image) (λ q. record q { image = linked_image m q.image }) p) w.parts }

-- ---- the repairs

abbrev pub enlarging_undone : Name → Work → Work
enlarging_undone (Inflate u extents) w = removed (Inflate u extents) (cut (Vhd u) extents w)
enlarging_undone _ w = w

abbrev pub base_back : List ℕ → Option Name → Work → Work
base_back disk None w = w
base_back disk (Some base) w = renamed base (under_name base disk) (shown base (removed (Vhd disk) w))

abbrev pub forking_undone : VolumeTable → Name → Work → Work
forking_undone t (Clone disk base twin) w = removed (Clone disk base twin) (base_back disk (image_with t base) (removed (Vhd twin) w))
forking_undone t _ w = w

abbrev pub leaf_done : VolumeTable → List ℕ → List ℕ → Work → Work
leaf_done t leaf parent w =
    if is_leaf_renamed t leaf parent then removed (Old leaf) (shown (Vhd leaf) (renamed (Vhd parent) (Vhd leaf) w))
    else if is_leaf_swapped t leaf parent then removed (Old leaf) (shown (Vhd leaf) w)
    else w

abbrev pub folding_ended : VolumeTable → Name → Work → Work
folding_ended t (Relink child parent) w = removed (Relink child parent) (linked (Vhd child) (parent_name t parent) w)
folding_ended t (Coalesce child parent) w = removed (Coalesce child parent) w
folding_ended t (Leaf leaf parent) w = removed (Leaf leaf parent) (leaf_done t leaf parent w)
folding_ended t _ w = w

abbrev pub by_entry : (Name → Work → Work) → Option Name → Work → Work
by_entry f None w = w
by_entry f (Some e) w = f e w

-- each volume that is new goes, one commit each
unfoldable pub new_removed : List Part → Work → Work
new_removed [] w = w
new_removed (p ∷ parts) w = new_removed parts (when p.fresh (removed p.name) w)

abbrev pub repaired : VolumeTable → Work → Work
repaired t w =
    let made = by_entry (forking_undone t) (head (making t)) (by_entry enlarging_undone (head (making t)) w) in
    let folded = by_entry (folding_ended t) (head (folding t)) made in
    new_removed folded.parts folded

-- ---- the shape of what is left

abbrev pub part_row : Part → Image → ImageRow
part_row p i = record { name = p.name; hidden = p.hidden; parent = i.parent; size = i.size; slots = i.slots; extents = p.extents }

abbrev pub row_of_part : Part → Option ImageRow
row_of_part p = elim p.image [ None ↦ None | Some i ↦ Some (part_row p i) ]

abbrev pub in_name_order : List ImageRow → List ImageRow
in_name_order [] = []
in_name_order (r ∷ rs) = with_image r (in_name_order rs)

abbrev pub extents_besides : Part → ℕ
extents_besides p = elim p.image [ None ↦ p.extents | Some i ↦ 0 ]

-- what an opening makes of a content
unfoldable pub opened_by_parts : Content → Shape
opened_by_parts c =
    let w = repaired c.table (begun c) in
    record {
      sequence = w.sequence;
      extent = c.extent;
      block = c.block;
      entries = c.entries;
      extents = c.count;
      others = sum (map extents_besides w.parts);
      records = map disk_record (disks c);
      images = in_name_order (filter_map row_of_part w.parts);
      logs = logs c;
      attached = [];
      op = Idle;
    }
