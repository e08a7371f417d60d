-- What the call that writes a footer at the end of an image did, as a run of one call.
use Rattle.std.proofs.Common.{◌≡◌, ℕ, ◌-◌, ◌*◌, false, List, [], ◌∷◌, Option, sym, ◌∙◌, subst}
use Rattle.sm_base.specs.declared.names.Name.{Name}
use Rattle.sm_disk.specs.Held.{Held}
use Rattle.vg_meta.specs.Tables.{VolumeTable}
use Rattle.vg_volumes.specs.Sites.{volume_of}
use Rattle.vg_volumes.specs.Stored.{IsChoiceOf, Stays, WorksOn, held_in, stored}
use Rattle.vg_volumes.specs.declared.stores.Store.{Ghosts}
use Rattle.vg_volumes.proofs.StoredLaws.{held_stays}
use Rattle.vhd_volumes.specs.Steps.{Does}
use Rattle.vhd_volumes.specs.Writes.{KeepsBut}
use Rattle.vhd_volumes.specs.declared.heads.Head.{Head}
use Rattle.vhd_image.specs.Bodies.{IfVhd, IfVhdDoes}
use Rattle.vhd_image.specs.Changes.{EndsAt, StaysTrueIn}
use Rattle.vhd_chain.specs.Trees.{tree_row}
use Rattle.vhd_chain.specs.declared.rows.TreeRow.{TreeRow}
use Rattle.sm_ready.proofs.ChainLaws.{tab}
use Rattle.sm_calls.specs.Calls.{DoesRun}
use Rattle.sm_calls.proofs.StoreLaws.{run_works}
use Rattle.sm_space.specs.Inflating.{CanEnd, IfRow, WritesEnd, footer_call}
use Rattle.sm_space.proofs.InflatingLaws.{at_name}

module _ {S : Type 0} {g : Ghosts S} {d f : S} {rs : List TreeRow} {n : Name} {to : ℕ} (can : CanEnd g d rs n to) where
  -- what happened to the image's volume
  row_does : (P : Head → List (Option ℕ) → Held → Held → Type 0) → Stays g d f → g.told → IfRow (tree_row rs n) (λ r. IfVhdDoes g r.image P d f)
      → IfRow (tree_row rs n) (λ r. IfVhd r.image (λ head slots. P head slots (held_in (stored g d) n) (volume_of (g.site d) (tab g d) (g.area f) n)))
  row_does P stays told had =
      subst (λ o. IfRow o (λ r. IfVhd r.image (λ head slots. P head slots (held_in (stored g d) n) (volume_of (g.site d) (tab g d) (g.area f) n)))) (sym can.there)
      (subst (λ (x : Held). IfVhd can.row.image (λ head slots. P head slots (held_in (stored g d) n) x)) (held_stays n stays)
      (at_name can.row.image n P (λ x. held_in (stored g d) x) (λ x. held_in (stored g f) x) can.named (subst (λ o. IfRow o (λ r. IfVhdDoes g r.image P d f)) can.there had told)))

  pub writes_footer : {ok : Type 0} → g.failed d ≡ false → WorksOn g n d f → Does g n (KeepsBut (λ p. p ≡ to * (g.site d).geometry.extent - 1)) d f
      → IfRow (tree_row rs n) (λ r. IfVhdDoes g r.image (StaysTrueIn (g.site d).geometry) d f)
      → (ok → IfRow (tree_row rs n) (λ r. IfVhdDoes g r.image (EndsAt (g.site d).geometry (to * (g.site d).geometry.extent)) d f))
      → (g.told → g.failed f ≡ false → (v : VolumeTable) (image : ℕ → List ℕ) → g.leaves f v image → IsChoiceOf (stored g f) v image)
      → DoesRun g (footer_call (g.site d) (tab g d) n (tree_row rs n) to ∷ []) d f ok
  writes_footer usable works others true_still ends now =
      run_works usable works.stays written (λ ok told. row_does (EndsAt (g.site d).geometry (to * (g.site d).geometry.extent)) works.stays told (ends ok)) (λ told. now told (works.stays.failed ∙ usable))
    where
      written : g.told → WritesEnd (g.site d) (tab g d) n (tree_row rs n) to (g.area d) (g.area f)
      written told = record {
        beside = works.elsewhere told;
        others = subst (λ (x : Held). KeepsBut (λ p. p ≡ to * (g.site d).geometry.extent - 1) (held_in (stored g d) n) x) (held_stays n works.stays) (others told);
        stays = row_does (StaysTrueIn (g.site d).geometry) works.stays told true_still;
      }
