-- What was planned of extents for a command holds behind the folding of a leaf that is given up.
use Rattle.std.proofs.Common.{◌≡◌, ℕ, ◌+◌, ◌-◌, ◌<◌, Bool, true, false, List, Option, Some, None, refl, sym, ap, ap₂, ◌∙◌, subst, subst₂, arith}
use Rattle.sm_base.specs.declared.names.Name.TheVariants.{Vhd}
use Rattle.vg_meta.specs.Tables.{VolumeTable}
use Rattle.vg_meta.specs.declared.changes.Change.{Change}
use Rattle.vg_volumes.specs.declared.stores.Store.{Ghosts}
use Rattle.vhd_chain.specs.Trees.{Tree, tree_row}
use Rattle.sm_machine.specs.Commits.{folds}
use Rattle.sm_machine.specs.Refusals.{need}
use Rattle.sm_machine.specs.declared.commands.Command.{Command}
use Rattle.sm_ready.specs.Does.{store_shape}
use Rattle.sm_ready.specs.declared.memory.Memory.{Memory}
use Rattle.sm_ready.proofs.ChainLaws.{tab}
use Rattle.gc_abandon.specs.Abandoning.{abandoned_where, is_own, unfolded_table}
use Rattle.gc_abandon.proofs.AbandonedLaws.{GaveUp, need_abandoned}
use Rattle.sm_space.specs.Inflating.{IsEnlarged, IsGrowth, extents_in}
use Rattle.sm_space.proofs.KeptRoom.{KeepsRoom, growth_kept, places_kept}
use Rattle.sm_space.specs.Growing.{HasGrowth, IsPlanned}

-- ---- the extents that are needed

module _ {S : Type 0} {g : Ghosts S} {u : List ℕ} {a b : S} {m k : Memory} (w : GaveUp g u a m b k) (room : KeepsRoom g a b) (tree : k.tree ≡ m.tree)
    (c : Command) (own : is_own c ≡ true) where
  need_given : need (store_shape g b k) c ≡ need (store_shape g a m) c
  need_given = ap (λ σ. need σ c) w.shape ∙ by (folds m.operation u)
    where
      by : (f : Bool) → need (abandoned_where f (store_shape g a m)) c ≡ need (store_shape g a m) c
      by true = need_abandoned (store_shape g a m) c own
      by false = refl

  had_given : extents_in (tree_row k.tree.rows (Vhd u)) ≡ extents_in (tree_row m.tree.rows (Vhd u))
  had_given = ap (λ (t : Tree). extents_in (tree_row t.rows (Vhd u))) tree

  planned_given : (to : ℕ) (growth : Change) → IsPlanned g a m c u to growth → IsPlanned g b k c u to growth
  planned_given to growth p =
      let grows : IsGrowth (g.site b).count (tab g b) (Vhd u) (to - extents_in (tree_row k.tree.rows (Vhd u))) growth =
      subst₂ (λ n more. IsGrowth n (tab g b) (Vhd u) more growth) (sym (ap (λ s. s.count) w.site)) (ap (λ n. to - n) (sym had_given)) (growth_kept room (g.site a).count (Vhd u) _ growth p.grows) in
      record {
        some = subst (λ n. 0 < n) (sym need_given) p.some;
        extents = p.extents ∙ sym (ap₂ (λ x y. x + y) had_given need_given);
        grows = grows;
        row = let some = p.row in let more = room.spare in omega (arith, some, more);
        places = places_kept room p.grows p.places;
      }

  pub growth_given : (growth : Option (ℕ × Change)) → HasGrowth g a m c u growth → HasGrowth g b k c u growth
  growth_given None none = need_given ∙ none
  growth_given (Some (to, growth)) p = planned_given to growth p

  pub least_given : (next : VolumeTable) → tab g b ≡ unfolded_table m.operation u (tab g a)
      → (0 < need (store_shape g b k) c → IsEnlarged (g.site b).count (tab g b) u (extents_in (tree_row k.tree.rows (Vhd u)) + need (store_shape g b k) c) next)
      → 0 < need (store_shape g a m) c
      → IsEnlarged (g.site a).count (unfolded_table m.operation u (tab g a)) u (extents_in (tree_row m.tree.rows (Vhd u)) + need (store_shape g a m) c) next
  least_given next table made some =
      subst₂ (λ n t. IsEnlarged n t u (extents_in (tree_row m.tree.rows (Vhd u)) + need (store_shape g a m) c) next) (ap (λ s. s.count) w.site) table
      (subst (λ to. IsEnlarged (g.site b).count (tab g b) u to next) (ap₂ (λ x y. x + y) had_given need_given) (made (subst (λ n. 0 < n) (sym need_given) some)))
