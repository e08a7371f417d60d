-- The commits that end the folding of a leaf, made one after the other: each is allowed in its turn, and no check fails on the table
-- that it leaves.
use Rattle.std.proofs.Common.{◌≡◌, ◌≢◌, ◌⊎◌, inl, inr, ℕ, ◌&&◌, not, Bool, true, false, List, [], ◌∷◌, ◌++◌, Option, Some, None, refl, ap, ◌∙◌}
use Rattle.std.proofs.lemmas.Bool.{and_parts}
use Rattle.common_laws.specs.Lists.{◌>>=◌}
use Rattle.sm_base.specs.declared.names.Name.{Name}
use Rattle.sm_base.specs.declared.names.Name.TheVariants.{Vhd, Old, Inflate, Leaf}
use Rattle.vg_meta.specs.Changes.{applied, renamed}
use Rattle.vg_meta.specs.declared.changes.Change.{Change}
use Rattle.vg_meta.specs.declared.changes.Change.TheVariants.{Mark, Remove, Rename}
use Rattle.vg_meta.specs.declared.changes.Tag.TheVariants.{Hidden}
use Rattle.vg_meta.specs.Tables.{VolumeTable, Row, IsTable, rows}
use Rattle.sm_standing.specs.Checks.{fault_of}
use Rattle.sm_standing.specs.Entries.{folding, is_leaf_renamed, is_leaf_swapped, is_there, making}
use Rattle.sm_standing.specs.Opened.{leaf_gone, undone, wanted}
use Rattle.sm_standing.specs.Outlines.{HasImages, Outline}
use Rattle.sm_standing.specs.Undone.{IsBeingEnlarged}
use Rattle.sm_standing.proofs.ForkRuns.{AllRun}
use Rattle.sm_standing.proofs.LeafMoves.{drop_folding, drop_none, drop_steady, end_steady, folding_gone, may_drop, may_end, may_show, show_folding, show_steady, shown_row, still_swapped}
use Rattle.sm_standing.proofs.LeafRename.{its, leaf_row, may_rename, moved, now_swapped, rename_homes, rename_sound, renamed_folding, renamed_making, renamed_table}
use Rattle.sm_standing.proofs.LeafSteady.{IsSteady, steady_homes, steady_sound}
use Rattle.sm_standing.proofs.UndoneLaws.{cut_table}

module _ (count : ℕ) (x : Outline) (leaf parent : List ℕ) where
  abbrev e : Name
  e = Leaf leaf parent

  -- the outline with a table, each image under the name that it has then
  abbrev pub at : VolumeTable → (Name → Option Name) → Outline
  at v from = record x { table = v; links = λ n. from n >>= x.links }

  -- a table on the way
  pub record IsReached (v : VolumeTable) (from : Name → Option Name) : Type 0 where
    pub table : IsTable count v
    pub homes : HasImages (at v from)
    pub sound : fault_of (at v from) ≡ None

  -- the parent is not being enlarged
  abbrev pub IsFree : VolumeTable → Type 0
  IsFree v = (extents : ℕ) → making v ≢ Inflate parent extents ∷ []

  -- what holds at first, and behind each commit where it held in front of it
  pub record IsCarried (K : VolumeTable → (Name → Option Name) → Type 0) : Type 0 where
    pub first : K x.table Some
    pub cut : (extents : ℕ) (w : IsBeingEnlarged x.table parent extents) → K (cut_table x.table parent extents w) Some
    pub without : (extents : ℕ) (w : IsBeingEnlarged x.table parent extents) → K (undone x.table) Some
    pub steady : (v w : VolumeTable) (from : Name → Option Name) → IsReached v from → IsSteady count (at v from) leaf parent w → K v from → K w from
    pub named : (v : VolumeTable) → IsReached v Some → folding v ≡ e ∷ [] → is_leaf_renamed v leaf parent ≡ true → IsFree v → K v Some → K (applied v (Rename (Vhd parent) (Vhd leaf))) (moved leaf parent)

  module _ (K : VolumeTable → (Name → Option Name) → Type 0) (carried : IsCarried K) where
    abbrev pub IsOn : VolumeTable → Type 0
    IsOn v = (from : Name → Option Name) × IsReached v from × K v from × ((folding v ≡ e ∷ []) ⊎ (folding v ≡ []))

    -- the last one: no such entry is left, and what is being made is this
    abbrev pub IsLast : List Name → (Name → Option Name) → VolumeTable → Type 0
    IsLast made from v = IsReached v from × K v from × (folding v ≡ []) × (making v ≡ made)

    steady_reached : (v w : VolumeTable) (from : Name → Option Name) → IsReached v from → (one : folding v ≡ e ∷ []) → IsSteady count (at v from) leaf parent w → IsReached w from
    steady_reached v w from p one k = record {
      table = k.table;
      homes = steady_homes (at v from) p.homes p.sound leaf parent one w k;
      sound = steady_sound (at v from) p.homes p.sound leaf parent one w k;
    }

    module _ (made : List Name) (from : Name → Option Name) where
      abbrev Run : VolumeTable → List Change → Type 0
      Run v cs = AllRun count IsOn (IsLast made from) v cs

      -- the entry goes
      pub end_run : (v : VolumeTable) → IsReached v from → K v from → (one : folding v ≡ e ∷ []) → is_leaf_renamed v leaf parent ≡ false → is_leaf_swapped v leaf parent ≡ false → making v ≡ made
          → Run v (Remove e ∷ [])
      end_run v p held one r w same =
          let k = end_steady (at v from) p.table p.homes p.sound leaf parent one r w in
          let q = steady_reached v (applied v (Remove e)) from p one k in
          let none = folding_gone (at v from) p.table p.homes p.sound leaf parent one r w in
          let now = carried.steady v (applied v (Remove e)) from p k held in
          ((from, p, held, inl one), may_end (at v from) p.table p.homes p.sound leaf parent one r w, ((from, q, now, inr none), (q, now, none, k.making ∙ same)))

      -- the old leaf goes, and the entry
      pub gone_run : (v : VolumeTable) → IsReached v from → K v from → (one : folding v ≡ e ∷ []) → is_leaf_swapped v leaf parent ≡ true → (own : Row) → rows v (Vhd leaf) ≡ Some own → own.hidden ≡ false
          → making v ≡ made → Run v (leaf_gone leaf parent)
      gone_run v p held one stage own before vis same =
          let k = drop_steady (at v from) p.table p.homes p.sound leaf parent one stage own before vis in
          let w = applied v (Remove (Old leaf)) in
          let off = not_there w (Old leaf) (drop_none (at v from) p.table p.homes p.sound leaf parent one stage own before vis) in (
            (from, p, held, inl one),
            may_drop (at v from) p.table p.homes p.sound leaf parent one stage own before vis,
            end_run w (steady_reached v w from p one k) (carried.steady v w from p k held) (drop_folding (at v from) p.table p.homes p.sound leaf parent one stage own before vis ∙ one) (off _) (off _) (k.making ∙ same),
          )
        where
          not_there : (w : VolumeTable) (n : Name) → is_there w n ≡ false → (b : Bool) → (is_there w n && b) ≡ false
          not_there w n none b = ap (λ a. a && b) none

      -- the image is shown where it is hidden, the old leaf goes, and the entry
      pub show_run : (v : VolumeTable) → IsReached v from → K v from → (one : folding v ≡ e ∷ []) → is_leaf_swapped v leaf parent ≡ true → (own : Row) → rows v (Vhd leaf) ≡ Some own → (b : Bool) → own.hidden ≡ b
          → making v ≡ made → Run v (wanted b (Mark (Vhd leaf) Hidden false) ++ leaf_gone leaf parent)
      show_run v p held one stage own before false vis same = gone_run v p held one stage own before vis same
      show_run v p held one stage own before true hid same =
          let k = show_steady (at v from) p.table p.homes p.sound leaf parent one stage own before hid in
          let w = applied v (Mark (Vhd leaf) Hidden false) in (
            (from, p, held, inl one),
            may_show (at v from) p.table p.homes p.sound leaf parent one stage own before hid,
            gone_run w (steady_reached v w from p one k) (carried.steady v w from p k held) (show_folding (at v from) p.table p.homes p.sound leaf parent one stage own before hid ∙ one)
                (still_swapped (at v from) p.table p.homes p.sound leaf parent one stage own before hid) (record own { hidden = false })
                (shown_row (at v from) p.table p.homes p.sound leaf parent one stage own before hid) refl (k.making ∙ same),
          )

    -- ---- all of them

    renamed_reached : (v : VolumeTable) → IsReached v Some → (one : folding v ≡ e ∷ []) → is_leaf_renamed v leaf parent ≡ true → IsFree v → IsReached (applied v (Rename (Vhd parent) (Vhd leaf))) (moved leaf parent)
    renamed_reached v p one stage free = record {
      table = renamed_table (at v Some) p.table p.homes p.sound leaf parent one stage free;
      homes = rename_homes (at v Some) p.table p.homes p.sound leaf parent one stage free;
      sound = rename_sound (at v Some) p.table p.homes p.sound leaf parent one stage free;
    }

    pub rename_run : (made : List Name) (v : VolumeTable) → IsReached v Some → K v Some → (one : folding v ≡ e ∷ []) → is_leaf_renamed v leaf parent ≡ true → IsFree v → making v ≡ made
        → AllRun count IsOn (IsLast made (moved leaf parent)) v (Rename (Vhd parent) (Vhd leaf) ∷ Mark (Vhd leaf) Hidden false ∷ leaf_gone leaf parent)
    rename_run made v p held one stage free same =
        let w = applied v (Rename (Vhd parent) (Vhd leaf)) in
        let own = its (at v Some) p.table p.homes p.sound leaf parent one stage free in (
          (Some, p, held, inl one),
          may_rename (at v Some) p.table p.homes p.sound leaf parent one stage free,
          show_run made (moved leaf parent) w (renamed_reached v p one stage free) (carried.named v p one stage free held) (renamed_folding (at v Some) p.table p.homes p.sound leaf parent one stage free ∙ one)
              (now_swapped (at v Some) p.table p.homes p.sound leaf parent one stage free) (renamed (Vhd leaf) own.0) (leaf_row (at v Some) p.table p.homes p.sound leaf parent one stage free) true
              (and_parts own.0.hidden (not own.0.fresh) own.2).0 (renamed_making (at v Some) p.table p.homes p.sound leaf parent one stage free ∙ same),
        )
