-- Which changes of a table leave the sectors of each volume where they are.
use Rattle.std.specs.Prelude.{Bool, true, false, ◌&&◌}
use Rattle.sm_base.specs.Kinds.{is_entry}
use Rattle.vg_meta.specs.declared.changes.Change.{Change}
use Rattle.vg_meta.specs.declared.changes.Change.TheVariants.{Create, Remove, Rename, Grow, Cut, Mark}

-- a change that names journal entries alone, which have no sectors, or that changes a mark; a Grow and a Cut name an image
abbrev pub is_light : Change → Bool
is_light (Create name fresh extents) = is_entry name
is_light (Remove name) = is_entry name
is_light (Rename from to) = is_entry from && is_entry to
is_light (Grow name extents) = false
is_light (Cut name keep) = false
is_light (Mark name tag on) = true
