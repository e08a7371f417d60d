-- Room for rows of the table and of the tree, as calls of a store and changes of memory leave it.
use Rattle.std.proofs.Common.{◌≡◌, suc, ℕ, ◌+◌, ◌≤◌, List, length, inl, inr, refl, ap, ◌∙◌, arith}
use Rattle.common_laws.proofs.Lists.{length-insert_by}
use Rattle.vg_meta.specs.Roomy.{table_alone}
use Rattle.vg_meta.specs.Tables.{VolumeTable, Row}
use Rattle.vg_meta.specs.Changes.{AllowsIn, HasRoom, changed, spare_after}
use Rattle.vg_meta.specs.Roomy.{RoomyTable}
use Rattle.vg_meta.specs.declared.changes.Change.{Change}
use Rattle.vg_meta.specs.declared.changes.Change.TheVariants.{Create, Remove, Rename, Grow, Cut, Mark}
use Rattle.vg_meta.proofs.SpliceLaws.{count_created, count_removed, count_same}
use Rattle.vg_volumes.specs.Stored.{Stays, CanCommit, Commits}
use Rattle.vg_volumes.specs.declared.stores.Store.{Ghosts}
use Rattle.vhd_chain.specs.Trees.{Tree, is_before, with_row}
use Rattle.vhd_chain.specs.declared.rows.TreeRow.{TreeRow}
use Rattle.sm_machine.specs.Shapes.{image_limit}
use Rattle.sm_ready.specs.Sessions.{HasRows}

-- rows and spare rows are at least as many after any change that is allowed
room_after : (count : ℕ) (rs : List Row) (k : RoomyTable) (change : Change) → AllowsIn count rs change → HasRoom k change → length rs + k.spare ≤ length (changed rs change) + spare_after k.spare change
room_after count rs k (Create name fresh es) a room = omega (arith, count_created rs (Create name fresh es) name fresh es refl, room)
room_after count rs k (Remove name) a room = omega (arith, count_removed count rs (Remove name) name refl a)
room_after count rs k (Rename from to) a room = omega (arith, count_same count rs (Rename from to) (inl (from, to, refl)) a)
room_after count rs k (Grow name es) a room = omega (arith, count_same count rs (Grow name es) (inr (inl (name, es, refl))) a)
room_after count rs k (Cut name keep) a room = omega (arith, count_same count rs (Cut name keep) (inr (inr (inl (name, keep, refl)))) a)
room_after count rs k (Mark name tag on) a room = omega (arith, count_same count rs (Mark name tag on) (inr (inr (inr (name, tag, on, refl)))) a)

module _ {S : Type 0} {g : Ghosts S} {a b : S} where
  pub rows_commits : {change : Change} → CanCommit g change a → Commits g change a b → HasRows (g.table a) → HasRows (g.table b)
  rows_commits {change} can c had =
      let long = ap (λ (t : VolumeTable). length t.volumes) c.table in
      omega (arith, long, room_after (g.site a).count (table_alone (g.table a)).volumes (g.table a) change can.allowed can.room, c.room.spare_rows, had)

  pub rows_stays : Stays g a b → HasRows (g.table a) → HasRows (g.table b)
  rows_stays stays had = let long = ap (λ (t : VolumeTable). length t.volumes) stays.table in omega (arith, long, stays.room.spare_rows, had)

-- one image more: the tree still has room for all
pub tree_room_with : (a b c : Tree) (r : TreeRow) → b ≡ a → c.rows ≡ with_row r b.rows → c.spare + 1 ≡ b.spare → image_limit ≤ length a.rows + a.spare → image_limit ≤ length c.rows + c.spare
tree_room_with a b c r same rows spare room =
    let long : length c.rows ≡ length a.rows + 1 = ap (λ (rs : List TreeRow). length rs) rows ∙ length-insert_by is_before r b.rows ∙ ap (λ (t : Tree). suc (length t.rows)) same ∙ omega arith in
    let left : c.spare + 1 ≡ a.spare = spare ∙ ap (λ (t : Tree). t.spare) same in
    omega (arith, long, left, room)
