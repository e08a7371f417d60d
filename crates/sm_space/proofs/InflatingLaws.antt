-- What is known of a store and of memory where a volume is to get more extents, and what a call does for which memory is wanting.
use Rattle.std.proofs.Common.{◌≡◌, ℕ, ◌+◌, ◌-◌, false, List, length, Option, sym, ap, ap₂, ◌∙◌, subst, subst₂, inl, inr, ⊎_elim, arith}
use Rattle.std.proofs.lemmas.List.{length-map, length-take}
use Rattle.sm_base.specs.declared.names.Name.{Name}
use Rattle.sm_base.specs.declared.names.Name.TheVariants.{Vhd}
use Rattle.sm_disk.specs.Held.{Held, reads}
use Rattle.vg_meta.specs.Tables.{VolumeTable, rows, free as free_of}
use Rattle.vg_extents.specs.Fits.{AreLeastFree}
use Rattle.vg_meta.specs.declared.changes.Change.{Change}
use Rattle.vg_volumes.specs.Sites.{Site}
use Rattle.vg_volumes.specs.Stored.{IsChoiceOf, OnlyReads, Stored, stored}
use Rattle.vg_volumes.specs.declared.stores.Store.{Ghosts}
use Rattle.vhd_volumes.specs.declared.heads.Head.{Head}
use Rattle.vhd_image.specs.Bodies.{IfVhd, volume_name}
use Rattle.vhd_image.specs.declared.images.Body.{Body}
use Rattle.vhd_image.specs.declared.images.Body.TheVariants as body
use Rattle.vhd_chain.specs.Trees.{tree_row}
use Rattle.vhd_chain.specs.declared.rows.TreeRow.{TreeRow}
use Rattle.sm_machine.specs.Disks.{Disk}
use Rattle.sm_log.specs.Logs.{Log}
use Rattle.sm_machine.specs.Operations.{Op}
use Rattle.sm_refs.specs.Attached.{Attached}
use Rattle.sm_record.specs.declared.records.Record.{Record}
use Rattle.sm_run.specs.Between.{IsBetween}
use Rattle.sm_standing.specs.Keeping.{IsKept}
use Rattle.sm_standing.specs.Logs.{IsLogged}
use Rattle.sm_standing.specs.Standing.{disks}
use Rattle.sm_ready.specs.Done.{HasDoneFrom}
use Rattle.sm_ready.specs.Known.{Known, known}
use Rattle.sm_ready.specs.Sessions.{HasTreeRoom, IsOrderlyStore, IsReadyStore, IsTidyStore}
use Rattle.sm_ready.specs.Stores.{MayShow, StoreLeaves, content_in, store_content}
use Rattle.sm_ready.specs.declared.memory.Memory.{Memory}
use Rattle.sm_ready.proofs.ChainLaws.{only_crash, stored_same, tab}
use Rattle.sm_ready.proofs.LeaveLaws.{left_choice}
use Rattle.sm_ready.proofs.CommitLaws.{ready_safe}
use Rattle.sm_ready.proofs.LogLaws.{holds_ready, logged_before}
use Rattle.sm_ready.proofs.Orders.{In-tree_row}
use Rattle.sm_space.specs.Inflating.{IsBelow, IsGrowth, extents_in, with_extents}
use Rattle.sm_space.proofs.OrderlyLaws.{IsToGrow}

-- what a call knows of a store
pub record GrowsIn {S : Type 0} (g : Ghosts S) (a : S) (m : Memory) (u es : List ℕ) (row : TreeRow) : Type 0 where
  pub grows : IsToGrow (g.site a) (tab g a) (known m) u es row
  pub usable : g.failed a ≡ false

-- a fact of a VHD image's volume, told by its name
pub at_name : (b : Body) (n : Name) (P : Head → List (Option ℕ) → Held → Held → Type 0) (f k : Name → Held) → volume_name b ≡ n → IfVhd b (λ head m. P head m (f head.volume) (k head.volume)) → IfVhd b (λ head m. P head m (f n) (k n))
at_name (body.Raw volume size) n P f k is had = tt
at_name (body.Vhd head m) n P f k is had = subst (λ x. P head m (f x) (k x)) is had

module _ {S : Type 0} {g : Ghosts S} {a : S} {m : Memory} {u es : List ℕ} {row : TreeRow} (h : GrowsIn g a m u es row) where
  pub own_name : volume_name row.image ≡ Vhd u
  own_name = (In-tree_row m.tree.rows (Vhd u) row h.grows.found).1

-- memory is that from after
pub known_after : (m n : Memory) (u : List ℕ) (to sum : ℕ) → sum ≡ to → n.tree.rows ≡ with_extents (Vhd u) to m.tree.rows → n.records ≡ m.records → n.logs ≡ m.logs → n.attached ≡ m.attached → n.operation ≡ m.operation
    → known n ≡ record (known m) { rows = with_extents (Vhd u) sum (known m).rows }
known_after m n u to sum is rows records logs attached operation =
    ap₂ (λ (rs : List TreeRow) (ps : List (Option Record)). let x : Known = record { rows = rs; places = ps; logs = n.logs; attached = n.attached; op = n.operation } in x) (rows ∙ ap (λ k. with_extents (Vhd u) k m.tree.rows) (sym is)) records
    ∙ ap₂ (λ (x : Attached) (o : Op). let y : Known = record { rows = with_extents (Vhd u) sum m.tree.rows; places = m.records; logs = n.logs; attached = x; op = o } in y) attached operation
    ∙ ap (λ (ls : List Log). let x : Known = record { rows = with_extents (Vhd u) sum m.tree.rows; places = m.records; logs = ls; attached = m.attached; op = m.operation } in x) logs

-- one row has another number of extents: the tree has as many, and room for all
pub tree_room_sized : (m n : Memory) (k : Name) (to : ℕ) → n.tree.rows ≡ with_extents k to m.tree.rows → n.tree.spare ≡ m.tree.spare → HasTreeRoom m → HasTreeRoom n
tree_room_sized m n k to rows spare room = let long = ap (λ (rs : List TreeRow). length rs) rows ∙ length-map m.tree.rows _ in omega (arith, long, spare, room)

-- ---- a call for which memory is wanting

pub only_read : {S : Type 0} {g : Ghosts S} {a b : S} (m : Memory) → IsOrderlyStore g a m → g.failed a ≡ false → g.told → IsReadyStore g a m → ((v : VolumeTable) (image : ℕ → List ℕ) → g.leaves a v image → IsChoiceOf (stored g a) v image)
    → OnlyReads g a b → g.area b ≡ g.area a → ((v : VolumeTable) (image : ℕ → List ℕ) → g.leaves b v image → g.leaves a v image) → (n : Known) (ok : Type 0) → (ok → ⊥) → n.logs ≡ (known m).logs
    → HasDoneFrom (g.site a) (tab g b) (g.area b) n (StoreLeaves g a) (StoreLeaves g b) ok (disks (store_content g a)) (disks (store_content g a))
only_read {g = g} {a} {b} m orderly usable told ready now reads area fewer n ok never same =
    let safe = ready_safe (g.site a) (tab g a) (g.area a) (known m) (StoreLeaves g a) orderly ready (λ image is. inr (told, usable, is)) in
    subst₂ (λ y z. HasDoneFrom (g.site a) y z n (StoreLeaves g a) (StoreLeaves g b) ok (disks (store_content g a)) (disks (store_content g a))) (sym reads.stays.table) (sym area) (only_crash never (λ v image l.
    let here = before v image l in
    subst (λ y. IsKept (content_in (g.site a) y image) × IsBetween (MayShow (g.site a) (StoreLeaves g a)) (disks (store_content g a)) (disks (store_content g a)) (disks (content_in (g.site a) y image))) (sym here.table_is)
    (safe.kept image here.sectors, inl (safe.shown image here.sectors)))
    (λ v image l. subst (IsLogged (content_in (g.site a) v image)) (sym same) (logged_before (holds_ready (g.site a) (tab g a) (g.area a) (known m) orderly ready) orderly.table v image (before v image l))))
  where
    before : (v : VolumeTable) (image : ℕ → List ℕ) → StoreLeaves g b v image → IsChoiceOf (stored g a) v image
    before v image l = left_choice g.told (g.site a) (tab g a) (g.area a) (g.leaves a) (g.failed a) now v image
        (⊎_elim (λ k. inl (fewer v image k)) (λ w. inr (w.0, usable, subst (λ (x : Stored). IsChoiceOf x v image) (stored_same reads area) w.2)) l)

-- what might be left behind it might be left before it
pub still_read : {S : Type 0} {g : Ghosts S} {a b : S} → OnlyReads g a b → g.area b ≡ g.area a → ((v : VolumeTable) (image : ℕ → List ℕ) → g.leaves b v image → g.leaves a v image)
    → (ds : Site → List Disk) → MayShow (g.site b) (StoreLeaves g b) (ds (g.site b)) → MayShow (g.site a) (StoreLeaves g a) (ds (g.site a))
still_read {g = g} {a} {b} reads area fewer ds may =
    subst (λ s. MayShow s (StoreLeaves g a) (ds s)) reads.stays.site (record {
      table = may.table;
      image = may.image;
      left = ⊎_elim (λ l. inl (fewer may.table may.image l)) (λ w. inr (w.0, sym reads.stays.failed ∙ w.1, subst (λ (x : Stored). IsChoiceOf x may.table may.image) (stored_same reads area) w.2)) may.left;
      shown = may.shown;
    })

-- ---- what is known before

module _ {S : Type 0} (g : Ghosts S) (a : S) (m : Memory) (u : List ℕ) (to : ℕ) (growth : Change) (orderly : IsOrderlyStore g a m) (tidy : IsTidyStore g a m) (usable : g.failed a ≡ false) (below : IsBelow m.tree.rows u to)
    (gives : IsGrowth (g.site a).count (tab g a) (Vhd u) (to - extents_in (tree_row m.tree.rows (Vhd u))) growth) where
  pub many : length gives.extents ≡ to - below.row.extents
  many = gives.least.many ∙ ap (λ o. to - extents_in o) below.there

  pub sum_is : below.row.extents + length gives.extents ≡ to
  sum_is = omega (arith, many, below.below)

  pub least_is : AreLeastFree (g.site a).count (to - below.row.extents) (tab g a) gives.extents
  least_is = subst (λ o. AreLeastFree (g.site a).count (to - extents_in o) (tab g a) gives.extents) below.there gives.least

  pub grows_in : GrowsIn g a m u gives.extents below.row
  grows_in = record {
    grows = record {
      orderly = orderly;
      tidy = tidy;
      found = below.there;
      extents_free = gives.extents_free;
      some_extents = omega (arith, many, below.below);
      enough = let part = length-take (to - extents_in (tree_row m.tree.rows (Vhd u))) (free_of (g.site a).count (tab g a)) in omega (arith, part, ap (λ (xs : List ℕ). length xs) gives.least.least);
    };
    usable = usable;
  }
