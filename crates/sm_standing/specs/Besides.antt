-- One outline beside another: whatever speaks of none of some UUIDs is as it was, and what speaks of one passes each check by
-- itself (this project's format). Entries and old leaves, of which there are few, are looked at one by one.
use Rattle.std.specs.Prelude.{◌≡◌, ℕ, ◌≤◌, Bool, true, false, List, length, Some, None}
use Rattle.sm_base.specs.declared.names.Name.{Name}
use Rattle.sm_base.specs.declared.names.Name.TheVariants.{Mgt, Vhd, Raw, Old, Cbt, Clone, Inflate, Coalesce, Relink, Leaf}
use Rattle.common_laws.specs.Lists.{In}
use Rattle.vg_meta.specs.Tables.{Row, rows}
use Rattle.sm_standing.specs.Apart.{is_apart}
use Rattle.sm_standing.specs.Checks.{too_many_fault, second_entry_fault, record_fault, disk_fault, is_misnamed, is_lost, is_orphaned, is_invalid, is_tree_wrong, is_entry_linked, children}
use Rattle.sm_standing.specs.Outlines.{Outline, Link}

-- a volume passes each check that looks at one volume at a time
pub record PassesAlone (o : Outline) (r : Row) : Type 0 where
  pub named : is_misnamed o.table r ≡ false
  pub at_stage : is_lost o.table r ≡ false
  pub owned : is_orphaned o.table r.name ≡ false
  pub valid : is_invalid o r ≡ false
  pub placed : is_tree_wrong o r ≡ false
  pub linked : is_entry_linked o r.name ≡ true

-- the volume of records, or a VHD or raw image of none of the UUIDs
abbrev pub is_settled_name : List (List ℕ) → Name → Bool
is_settled_name us Mgt = true
is_settled_name us (Cbt u) = true
is_settled_name us (Vhd u) = is_apart us (Vhd u)
is_settled_name us (Raw u) = is_apart us (Raw u)
is_settled_name us (Old u) = false
is_settled_name us (Clone disk base twin) = false
is_settled_name us (Inflate image extents) = false
is_settled_name us (Coalesce child parent) = false
is_settled_name us (Relink child parent) = false
is_settled_name us (Leaf leaf parent) = false

-- An outline beside another that speaks of some UUIDs besides: whatever speaks of none of them is as it was, and each other volume
-- passes the checks by itself.
pub record IsBeside (a b : Outline) (us : List (List ℕ)) : Type 0 where
  pub extent : b.extent ≡ a.extent
  pub block : b.block ≡ a.block
  pub entries : b.entries ≡ a.entries
  pub later : a.table.sequence ≤ b.table.sequence
  pub found : (r : Row) → In r b.table.volumes → rows b.table r.name ≡ Some r
  -- images apart are the same, their parents are apart, and those that had no children have none
  pub rows_apart : (n : Name) → is_apart us n ≡ true → rows b.table n ≡ rows a.table n
  pub links_apart : (n : Name) → is_apart us n ≡ true → b.links n ≡ a.links n
  pub parents_apart : (n p : Name) (i : Link) → is_apart us n ≡ true → a.links n ≡ Some i → i.parent ≡ Some p → is_apart us p ≡ true
  pub children_apart : (n : Name) → is_apart us n ≡ true → length (children a n) ≡ 0 → length (children b n) ≡ 0
  -- every other volume passes
  pub others : (r : Row) → In r b.table.volumes → is_settled_name us r.name ≡ false → PassesAlone b r
  pub few : too_many_fault b ≡ None
  pub one_each : second_entry_fault b ≡ None
  pub records : record_fault b ≡ None
  pub disks : disk_fault b ≡ None
