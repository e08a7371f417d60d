-- A fork or an enlargement is undone: how many commits that takes, and that what a stop leaves is kept.
use Rattle.std.proofs.Common.{◌≡◌, inl, inr, ℕ, ◌≤◌, Bool, true, false, List, [], ◌∷◌, ◌++◌, length, Option, Some, None, refl, sym, ap, ap₂, ◌∙◌, arith}
use Rattle.std.proofs.Math.Path.{fun_ext}
use Rattle.std.specs.List.{AllByRecursion}
use Rattle.sm_base.specs.declared.names.Name.{Name}
use Rattle.sm_base.specs.declared.names.Name.TheVariants.{Mgt, Vhd, Raw, Old, Cbt, Clone, Inflate, Coalesce, Relink, Leaf}
use Rattle.sm_base.specs.Kinds.{is_image}
use Rattle.sm_disk.specs.Held.{Held, IsSettled, Keeps}
use Rattle.sm_disk.proofs.HeldLaws.{reads-settled}
use Rattle.vg_meta.specs.Tables.{IsTable, VolumeTable, rows}
use Rattle.vg_meta.specs.declared.changes.Change.{Change}
use Rattle.vg_meta.specs.declared.changes.Change.TheVariants.{Cut, Mark, Remove}
use Rattle.vg_meta.specs.declared.changes.Tag.TheVariants.{Hidden}
use Rattle.vg_volumes.specs.Sites.{Site}
use Rattle.vg_volumes.specs.Stored.{Stored}
use Rattle.sm_standing.specs.Contents.{Content}
use Rattle.sm_standing.specs.Entries.{folding, head, image_with, is_there, making, of_row}
use Rattle.sm_standing.specs.Keeping.{HasNoEmptySlot, IsKept}
use Rattle.sm_standing.specs.Opened.{applied_all, base_changes, changes_back, is_longer, new_count, undo_changes, undone, wanted}
use Rattle.sm_standing.specs.PlainSound.{SimpleSound}
use Rattle.sm_standing.specs.Standing.{disks}
use Rattle.sm_standing.proofs.PlainDisks.{no_making, simple_folding}
use Rattle.sm_standing.proofs.PlainKept.{plain_simple}
use Rattle.sm_standing.proofs.UndoneButLeaf.{undoing_disks, undoing_kept}
use Rattle.sm_ready.specs.Cleaned.{HasFewRemovals}
use Rattle.sm_ready.specs.Repairs.{content_of}
use Rattle.sm_ready.specs.Stores.{content_in}
use Rattle.sm_recover.specs.Repairs.{IsLeftOf, IsUndoable}
use Rattle.sm_recover.specs.Steps.{IsPartOf}
use Rattle.sm_recover.proofs.CountLaws.{IsLean, IsUnseenBy, none_more}
use Rattle.sm_checks.proofs.EntryLaws.{base_found, undone_applied}
use Rattle.sm_recover.proofs.UndoTables.{back_image, undo_allowed}
use Rattle.sm_recover.proofs.StepLaws.{part_all, part_few}
use Rattle.sm_recover.proofs.UndoneLaws.{undone_checked}

-- ---- no volume is new behind it that was not

abbrev pub IsOld : Change → Type 0
IsOld c = IsLean c × IsUnseenBy (λ r. r.fresh) c

old_wanted : (b : Bool) (c : Change) → IsOld c → AllByRecursion IsOld (wanted b c)
old_wanted true c old = (old, tt)
old_wanted false c old = tt

old_join : (xs ys : List Change) → AllByRecursion IsOld xs → AllByRecursion IsOld ys → AllByRecursion IsOld (xs ++ ys)
old_join [] ys xs_old ys_old = ys_old
old_join (c ∷ xs) ys xs_old ys_old = (xs_old.0, old_join xs ys xs_old.1 ys_old)

base_old : (t : VolumeTable) (d b : List ℕ) (o : Option Name) → image_with t b ≡ o → AllByRecursion IsOld (base_changes t d o)
base_old t d b None none = tt
base_old t d b (Some from) found =
    let k = base_found t b from found in
    old_join (wanted (is_there t (Vhd d)) (Remove (Vhd d))) _ (old_wanted (is_there t (Vhd d)) (Remove (Vhd d)) (tt, tt))
    (old_join (wanted (of_row (λ r. r.hidden) (rows t from)) (Mark from Hidden false)) _ (old_wanted (of_row (λ r. r.hidden) (rows t from)) (Mark from Hidden false) (tt, λ r. refl))
    (((elim k.name [ inl is ↦ ap is_image is | inr is ↦ ap is_image is ], back_image from d), λ r named. refl), tt))

back_old : (t : VolumeTable) (n : Name) → AllByRecursion IsOld (changes_back t n)
back_old t (Inflate u e) =
    old_join (wanted (of_row (is_longer e) (rows t (Vhd u))) (Cut (Vhd u) e)) _ (old_wanted (of_row (is_longer e) (rows t (Vhd u))) (Cut (Vhd u) e) (tt, λ r. refl)) ((tt, tt), tt)
back_old t (Clone d b w) =
    old_join (wanted (is_there t (Vhd w)) (Remove (Vhd w))) _ (old_wanted (is_there t (Vhd w)) (Remove (Vhd w)) (tt, tt))
    (old_join (base_changes t d (image_with t b)) _ (base_old t d b (image_with t b) refl) ((tt, tt), tt))
back_old t Mgt = tt
back_old t (Vhd u) = tt
back_old t (Raw u) = tt
back_old t (Old u) = tt
back_old t (Cbt u) = tt
back_old t (Coalesce v p) = tt
back_old t (Relink v p) = tt
back_old t (Leaf l p) = tt

undo_old : (t : VolumeTable) → AllByRecursion IsOld (undo_changes t)
unfolding undo_changes
undo_old t = by (head (making t))
  where
    by : (o : Option Name) → AllByRecursion IsOld (elim o as (λ _. List Change) [ None ↦ [] | Some n ↦ changes_back t n ])
    by None = tt
    by (Some n) = back_old t n

-- ---- how many commits that is

-- while it is undone
pub few_part : (t v : VolumeTable) → IsPartOf t (undo_changes t) v → HasFewRemovals t v
few_part t v part = omega (arith, part_few t (undo_changes t) v part)

nothing_left : {s : Site} {t : VolumeTable} → IsUndoable s t → undo_changes (undone t) ≡ []
unfolding undo_changes
nothing_left {s} {t} c = ap (λ ns. elim (head ns) as (λ _. List Change) [ None ↦ [] | Some n ↦ changes_back (undone t) n ]) (no_making (undone t).volumes (undone_checked c).plain)

-- no entry is left
pub none_folded : {s : Site} {t : VolumeTable} → IsUndoable s t → folding (undone t) ≡ []
none_folded {s} {t} c = simple_folding (undone t).volumes (plain_simple (undone t) (undone_checked c).plain)

-- and behind it
pub few_behind : {s : Site} {t : VolumeTable} (v : VolumeTable) → IsUndoable s t → HasFewRemovals (undone t) v → HasFewRemovals t v
few_behind {s} {t} v c few =
    let fewer : new_count (applied_all t (undo_changes t)).volumes ≤ new_count t.volumes = none_more (λ r. r.fresh) s.count t (undo_changes t) (undo_allowed c) (undo_old t) in
    let later = part_few t (undo_changes t) (applied_all t (undo_changes t)) (part_all t (undo_changes t)) in
    omega (
      arith,
      few,
      ap (λ (cs : List Change). length cs) (nothing_left c),
      ap (λ (ns : List Name). length ns) (none_folded c),
      ap (λ (x : VolumeTable). x.sequence) (undone_applied t),
      ap (λ (x : VolumeTable). new_count x.volumes) (undone_applied t),
      fewer,
      later,
    )

-- ---- what is left is kept, and has the same disks

pub record IsKeptAs (was now : Content) : Type 0 where
  pub kept : IsKept now
  pub same_disks : disks now ≡ disks was

pub left_same : (x : Stored) (v : VolumeTable) (image : ℕ → List ℕ) → IsTable x.site.count x.table → IsLeftOf x (IsPartOf x.table (undo_changes x.table)) v image → IsSettled x.area → SimpleSound (content_of x)
    → HasNoEmptySlot (content_of x) → IsKeptAs (content_of x) (content_in x.site v image)
left_same x v image table left settled s holding =
    let g = x.site.geometry.in_range in
    record {
      kept = undoing_kept (content_of x) table g s holding v image left.table (left.sectors settled);
      same_disks = undoing_disks (content_of x) table g s v image left.table (left.sectors settled);
    }

-- ---- what stands where nothing is pending

pub held_same : (old new : Held) → Keeps old new → IsSettled old → IsSettled new → new ≡ old
held_same old new keeps was settled =
    ap₂ (λ (f : ℕ → List ℕ) (p : ℕ → List (List ℕ)). let h : Held = record { floor = f; pending = p } in h)
    (fun_ext (λ p. sym (reads-settled new p (settled p)) ∙ keeps.reads p ∙ reads-settled old p (was p))) (fun_ext (λ p. settled p ∙ sym (was p)))
