-- While no commit has failed, a stop leaves the one table and of the area any choice sector by sector, among them what reads
-- give.
use Rattle.std.specs.Prelude.{◌≡◌, ℕ, false, ◌⊎◌, List}
use Rattle.std.proofs.Common.{inl, inr, refl}
use Rattle.sm_disk.specs.Held.{reads}
use Rattle.sm_disk.proofs.HeldLaws.{Allows-reads}
use Rattle.vg_meta.specs.Tables.{VolumeTable}
use Rattle.vg_meta.specs.Roomy.{table_alone}
use Rattle.vg_volumes.specs.Commits.{IsBefore}
use Rattle.vg_volumes.specs.Sites.{area_size}
use Rattle.vg_memory.specs.Stores.{StoreInMemory, LeavesMemory, area_of, MayMake, has_failed}
use Rattle.vg_memory.specs.declared.memory.Course.{Course}
use Rattle.vg_memory.specs.declared.memory.Course.TheVariants.{Sound, Stopped, Undecided}

-- while no commit has failed there is the one table
one_table : (c : Course) (t u : VolumeTable) → has_failed c ≡ false → (u ≡ t) ⊎ MayMake c t u → u ≡ t
one_table c t u usable (inl same) = same
one_table Sound t u usable (inr made) = absurd made
one_table Stopped t u usable (inr made) = absurd made
one_table (Undecided change) t u usable (inr made) = absurd cc

pub leaves_one : (s : StoreInMemory) (t : VolumeTable) (image : ℕ → List ℕ) → has_failed s.course ≡ false → LeavesMemory s t image
    → IsBefore (area_size s.site) (table_alone s.table) (area_of s) t image
leaves_one s t image usable left = record {
  table_is = one_table s.course (table_alone s.table) t usable left.table_is;
  sectors = left.sectors;
}

pub leaves_reads : (s : StoreInMemory) → LeavesMemory s (table_alone s.table) (reads (area_of s))
leaves_reads s = record { table_is = inl refl; sectors = Allows-reads (area_size s.site) (area_of s) }
