-- What a stop may leave of a store: what the store says, or any choice of its sectors while no commit has failed.
use Rattle.std.proofs.Common.{◌≡◌, inr, ⊎_elim, ℕ, Bool, false, List, ◌∙◌}
use Rattle.sm_disk.specs.Held.{Held, Keeps, IsSettled}
use Rattle.sm_disk.proofs.HeldLaws.{may_settled}
use Rattle.vg_meta.specs.Tables.{VolumeTable}
use Rattle.vg_volumes.specs.Commits.{IsBefore, IsEither}
use Rattle.vg_volumes.specs.Sites.{Site, area_size}
use Rattle.sm_ready.specs.Done.{IsCommit}
use Rattle.sm_ready.specs.Stores.{Leaving, Left}

-- what a store promises of a commit, with what a stop may leave told so
pub left_commit : (told : Type 0) (s : Site) (t u now : VolumeTable) (old new : Held) (leaves : Leaving) (failed : Bool) (ok : Type 0) → Keeps old new
    → (ok → IsSettled new) → (failed ≡ false → (now ≡ u) × IsSettled new)
    → ((v : VolumeTable) (image : ℕ → List ℕ) → leaves v image → IsEither (area_size s) t u old v image)
    → IsCommit s t u old new (Left told s leaves failed now new) ok
left_commit told s t u now old new leaves failed ok keeps settled done crash = record {
  keeps = keeps;
  settled = settled;
  crash = λ v image l. ⊎_elim (λ a. crash v image a) (λ w. inr (record {
    table_is = w.2.table_is ∙ (done w.1).0;
    sectors = λ p below. may_settled new p (image p) ((done w.1).1 p) (w.2.sectors p below) ∙ keeps.reads p;
  })) l;
}

-- while no commit has failed, what is left is a choice of the sectors
pub left_choice : (told : Type 0) (s : Site) (t : VolumeTable) (area : Held) (leaves : Leaving) (failed : Bool)
    → ((v : VolumeTable) (image : ℕ → List ℕ) → leaves v image → IsBefore (area_size s) t area v image)
    → (v : VolumeTable) (image : ℕ → List ℕ) → Left told s leaves failed t area v image → IsBefore (area_size s) t area v image
left_choice told s t area leaves failed now v image l = ⊎_elim (λ a. now v image a) (λ w. w.2) l
