-- A disk is made by two commits, with writes between them: what the calls do to the store, and what is known of the session at the end.
use Rattle.std.proofs.Common.{◌≡◌, ◌*◌, ◌≤◌, ℕ, true, false, List, ap, sym, subst, ◌∙◌}
use Rattle.sm_base.specs.declared.names.Name.{Name}
use Rattle.sm_disk.specs.Held.{reads}
use Rattle.vg_meta.specs.Changes.{HasRoom, applied}
use Rattle.vg_meta.specs.Tables.{VolumeTable}
use Rattle.vg_meta.specs.declared.changes.Change.{Change}
use Rattle.vg_meta.specs.declared.changes.Change.TheVariants.{Create, Mark}
use Rattle.vg_meta.specs.declared.changes.Tag.TheVariants.{Fresh}
use Rattle.vg_volumes.specs.Sites.{volume_of}
use Rattle.vg_volumes.specs.Stored.{Commits, IsChoiceOf, IsEitherOf, Leaves, Stays, stored}
use Rattle.vg_volumes.specs.declared.stores.Store.{Ghosts}
use Rattle.vhd_image.specs.Steady.{IsSteady}
use Rattle.vhd_chain.specs.declared.rows.TreeRow.{TreeRow}
use Rattle.sm_machine.specs.Shapes.{image_limit}
use Rattle.sm_record.specs.declared.records.Record.{Record}
use Rattle.sm_ready.specs.Done.{at_rest}
use Rattle.sm_ready.specs.Framing.{IsBetweenSteps, StepsOn}
use Rattle.sm_ready.specs.Known.{Known, known}
use Rattle.sm_ready.specs.Middle.{IsMiddle}
use Rattle.sm_ready.specs.Sessions.{HasTreeRoom}
use Rattle.sm_ready.specs.declared.memory.Memory.{Memory}
use Rattle.sm_ready.proofs.ChainLaws.{tab}
use Rattle.sm_ready.proofs.FrameLaws.{true_made}
use Rattle.sm_ready.proofs.FramingLaws.{commit_steps, stays_steps, then_steps}
use Rattle.sm_ready.proofs.LastLaws.{made_memory}
use Rattle.sm_ready.proofs.MakingLaws.{MakesIn, can_begin, can_end, orderly_end, tidy_end}
use Rattle.sm_ready.proofs.RoomLaws.{rows_commits, rows_stays}

-- a commit, and calls behind it that commit nothing
pub begun_steps : {S : Type 0} {g : Ghosts S} {a b d : S} {change : Change} → Commits g change a b → Leaves g b (IsEitherOf (stored g a) change) → Stays g b d
    → ((s : S) → g.told → g.failed s ≡ false → (t : VolumeTable) (image : ℕ → List ℕ) → g.leaves s t image → IsChoiceOf (stored g s) t image) → StepsOn g 1 a d
begun_steps {d = d} c crash stays now = then_steps (commit_steps c crash) (stays_steps stays (λ told. now d told (stays.failed ∙ c.usable)))

module _ {S : Type 0} {g : Ghosts S} {a b d e : S} {m : Memory} {own : Name} {es : List ℕ} {added : TreeRow} {k : ℕ} {r : Record} (h : MakesIn g a m own es added k r)
    (c : Commits g (Create own true es) a b) (stays : Stays g b d) (f : Commits g (Mark own Fresh false) d e) where
  -- the session is between two steps again
  pub between_made : HasRoom (g.table a) (Create own true es) → (n : Memory) → known n ≡ made_memory added k r (known m) → HasTreeRoom n
      → (g.told → IsMiddle (g.site b) (tab g b) (known m) (g.area b) (g.area d) k r)
      → (g.told → IsSteady (g.site a).geometry (added.extents * (g.site a).geometry.extent) (volume_of (g.site a) (applied (tab g a) (Create own true es)) (at_rest (reads (g.area d))) own) added.image)
      → IsBetweenSteps g a m → IsBetweenSteps g e n
  between_made room n is tree_room middle steady i = record {
    usable = f.usable;
    orderly = orderly_end h c stays f n is;
    tidy = tidy_end h c stays f n is;
    true_images = true_made h c stays f n (ap (λ (x : Known). x.rows) is) middle steady i.true_images;
    rows = rows_commits (can_end h c stays) f (rows_stays stays (rows_commits (can_begin h room) c i.rows));
    tree_room = tree_room;
    attachment_room = subst (λ (x : Known). image_limit ≤ x.attached.room) (sym is) i.attachment_room;
  }
