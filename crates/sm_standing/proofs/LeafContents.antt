-- What the end of a leaf's folding leaves of a content: it is sound, and has the same images, under the names that they have then,
-- and the same disks.
use Rattle.std.proofs.Common.{◌≡◌, ◌⊎◌, inl, inr, ℕ, ◌≤◌, Bool, true, false, cond, List, [], ◌∷◌, Option, Some, None, refl, sym, ap, ◌∙◌, subst}
use Rattle.std.proofs.Math.Path.{fun_ext}
use Rattle.std.proofs.lemmas.Bool.{cases_lt}
use Rattle.std.proofs.lemmas.Option.{none-some}
use Rattle.common_laws.specs.Lists.{In, ◌>>=◌}
use Rattle.common_laws.proofs.Options.{option_cases}
use Rattle.sm_base.specs.Numbers.{IsGeometry}
use Rattle.sm_base.specs.declared.names.Name.{Name}
use Rattle.sm_base.specs.declared.names.Name.TheVariants.{Mgt, Vhd, Relink, Leaf}
use Rattle.vg_meta.specs.Changes.{applied, cut_to}
use Rattle.vg_meta.specs.declared.changes.Change.TheVariants.{Rename}
use Rattle.vg_meta.specs.Tables.{VolumeTable, Row, IsTable, name_eq, row_of, rows}
use Rattle.vg_meta.proofs.RowLaws.{row_of-with_row_other}
use Rattle.sm_standing.specs.Checks.{fault_of, first_fault}
use Rattle.sm_standing.specs.Contents.{Content, record_count, size_of}
use Rattle.sm_standing.specs.Entries.{folding, is_folding}
use Rattle.sm_standing.specs.Images.{Image, image_of}
use Rattle.sm_standing.specs.Keeping.{HasNoEmptySlot, HoldsWell, IsHolding, IsKept}
use Rattle.sm_standing.specs.Leaves.{IsEnding, ended_content, image_ended}
use Rattle.sm_standing.specs.Opened.{ended, undone}
use Rattle.sm_standing.specs.Outlines.{Outline, link_of, outline}
use Rattle.sm_standing.specs.Standing.{disks}
use Rattle.sm_standing.specs.Undone.{IsBeingEnlarged, IsSameArea}
use Rattle.sm_standing.specs.Worlds.{with_table}
use Rattle.sm_standing.proofs.AreaLaws.{disks_there, kept_there, room_there}
use Rattle.sm_standing.proofs.EnlargedLaws.{images_enlarging}
use Rattle.sm_standing.proofs.LeafEnds.{end_last, end_of, end_reached}
use Rattle.sm_standing.proofs.LeafRename.{moved, rename_disks, rename_images, rename_others}
use Rattle.sm_standing.proofs.LeafRuns.{IsCarried, IsReached, at as outline_at}
use Rattle.sm_standing.proofs.LeafStages.{content_images, listed}
use Rattle.sm_standing.proofs.LeafSteady.{readings_same, steady_disks, steady_images}
use Rattle.sm_standing.proofs.OutlineLaws.{in_same, made-of}
use Rattle.sm_standing.proofs.UndoneContents.{before_it, between_cut, between_disks, between_enlarging, disks_undone_at, images_undone_at, now}
use Rattle.sm_standing.proofs.UndoneLaws.{cut_table, cut_volumes, other_undone}

bind_same : {A B : Type 0} (o : Option A) (f g : A → Option B) → ((x : A) → f x ≡ g x) → (o >>= f) ≡ (o >>= g)
bind_same None f g same = refl
bind_same (Some x) f g same = same x

module _ (c : Content) where
  abbrev pub at : VolumeTable → Content
  at v = record c { table = v }

  -- what a stop may leave
  pub record IsLeft (v : VolumeTable) : Type 0 where
    pub table : IsTable c.count v
    pub sound : first_fault (at v) ≡ None
    pub shown : disks (at v) ≡ disks c
    pub holding : HasNoEmptySlot c → HasNoEmptySlot (at v)
    pub no_link : (a d : List ℕ) → rows v (Relink a d) ≡ None

  -- whatever it leaves is kept, and shows the same disks
  pub left_kept : (v : VolumeTable) → IsLeft v → IsGeometry c.extent c.block c.entries → HoldsWell c → (area : ℕ → List ℕ) → IsSameArea c area → IsKept (with_table c v area)
  left_kept v p geometry well area same =
      kept_there (at v) p.table geometry p.sound area same
      (record { holding = p.holding well.holding; linking = λ child parent r i j n there is above below. absurd (none-some r (sym (p.no_link child parent) ∙ there)) })

  pub left_shown : (v : VolumeTable) → IsLeft v → IsGeometry c.extent c.block c.entries → (area : ℕ → List ℕ) → IsSameArea c area → disks (with_table c v area) ≡ disks c
  left_shown v p geometry area same = disks_there (at v) p.table geometry p.sound area same ∙ p.shown

  no_relink : (leaf parent : List ℕ) (v : VolumeTable) → (folding v ≡ Leaf leaf parent ∷ []) ⊎ (folding v ≡ []) → (a d : List ℕ) → rows v (Relink a d) ≡ None
  no_relink leaf parent v which a d = by (option_cases (rows v (Relink a d)))
    where
      other : In (Relink a d) (Leaf leaf parent ∷ []) → ⊥
      other (inl is) = let z = is in cc
      other (inr none) = none

      not_in : (folding v ≡ Leaf leaf parent ∷ []) ⊎ (folding v ≡ []) → In (Relink a d) (folding v) → ⊥
      not_in (inl is) i = other (subst (In (Relink a d)) is i)
      not_in (inr is) i = subst (In (Relink a d)) is i

      by : (rows v (Relink a d) ≡ None) ⊎ ((r : Row) × (rows v (Relink a d) ≡ Some r)) → rows v (Relink a d) ≡ None
      by (inl is) = is
      by (inr k) = absurd (not_in which (listed v is_folding (Relink a d) k.0 k.1 refl))

module _ (c : Content) (sound : first_fault c ≡ None) (table : IsTable c.count c.table) (geometry : IsGeometry c.extent c.block c.entries) (leaf parent : List ℕ) (one : folding c.table ≡ Leaf leaf parent ∷ []) where
  abbrev t : VolumeTable
  t = c.table

  abbrev o : Outline
  o = outline c

  -- the same images, records and disks
  pub record IsAlike (v : VolumeTable) (from : Name → Option Name) : Type 0 where
    pub images : (n : Name) → image_of (at c v) n ≡ (from n >>= image_of c)
    pub records : rows v Mgt ≡ rows t Mgt
    pub shown : disks (at c v) ≡ disks c
    pub holding : HasNoEmptySlot c → HasNoEmptySlot (at c v)

  images_alike : (v : VolumeTable) → rows v Mgt ≡ rows t Mgt → disks (at c v) ≡ disks c → ((n : Name) → image_of (at c v) n ≡ image_of c n)
      → IsAlike v Some
  images_alike v records shown same = record { images = same; records = records; shown = shown; holding = λ holds u i is. holds u i (sym (same (Vhd u)) ∙ is) }

  -- ---- an enlargement is undone

  room : record_count ≤ size_of c Mgt
  room = room_there c geometry sound

  module _ (extents : ℕ) (w : IsBeingEnlarged t parent extents) where
    abbrev cut_to_it : VolumeTable
    cut_to_it = cut_table t parent extents w

    mgt_cut : rows cut_to_it Mgt ≡ rows t Mgt
    mgt_cut = ap (λ rs. row_of rs Mgt) (cut_volumes t parent extents w) ∙ row_of-with_row_other t.volumes (Vhd parent) Mgt (cut_to extents) (λ r. refl) (λ is. let z = is in cc)

    cut_alike : IsAlike cut_to_it Some
    cut_alike =
        let between = between_cut c parent extents w table geometry room in
        images_alike cut_to_it mgt_cut (between_disks c parent extents w table geometry room cut_to_it c.area between (λ p below. refl)) (λ n.
        images_enlarging (before_it c parent extents w table geometry room) (at c cut_to_it) parent extents (between_enlarging c parent extents w table geometry room cut_to_it c.area between (λ p below. refl)) n
        ∙ sym (images_enlarging (before_it c parent extents w table geometry room) c parent extents (now c parent extents w table geometry room) n))

    undone_alike : IsAlike (undone t) Some
    undone_alike =
        images_alike (undone t) (other_undone t parent extents w Mgt (λ is. let z = is in cc) (λ is. let z = is in cc)) (disks_undone_at c parent extents w table geometry room (undone t).sequence)
        (images_undone_at c parent extents w table geometry room (undone t).sequence)

  -- ---- the commits

  -- each image is linked as it was under the name that it had
  linked : (v : VolumeTable) (from : Name → Option Name) → IsAlike v from → (n : Name) → link_of (image_of (at c v) n) ≡ (from n >>= o.links)
  linked v from k n = ap link_of (k.images n) ∙ by (from n)
    where
      by : (m : Option Name) → link_of (m >>= image_of c) ≡ (m >>= o.links)
      by None = refl
      by (Some q) = refl

  outline_alike : (v : VolumeTable) (from : Name → Option Name) → IsAlike v from → outline (at c v) ≡ outline_at c.count o leaf parent v from
  outline_alike v from k =
      made-of refl refl refl refl (fun_ext (linked v from k)) (fun_ext (λ j. in_same c (at c v) j (readings_same c v k.records j) (cases_lt j record_count)))

  carried : IsCarried c.count o leaf parent IsAlike
  carried = record {
    first = images_alike t refl refl (λ n. refl);
    cut = cut_alike;
    without = undone_alike;
    steady = λ v w from p k held. record {
      images = λ n. steady_images k c n ∙ held.images n;
      records = k.apart Mgt refl ∙ held.records;
      shown = steady_disks k c ∙ held.shown;
      holding = λ holds u i is. held.holding holds u i (sym (steady_images k c (Vhd u)) ∙ is);
    };
    named = λ v p one stage free held.
        let same : (n : Name) → image_of (at c (applied v (Rename (Vhd parent) (Vhd leaf)))) n ≡ (moved leaf parent n >>= image_of c) = λ n.
        rename_images (outline_at c.count o leaf parent v Some) p.table p.homes p.sound leaf parent one stage free c n ∙ bind_same (moved leaf parent n) (image_of (at c v)) (image_of c) held.images in
        record {
          images = same;
          records = rename_others (outline_at c.count o leaf parent v Some) p.table p.homes p.sound leaf parent one stage free Mgt (λ is. let z = is in cc) (λ is. let z = is in cc) ∙ held.records;
          shown = rename_disks (outline_at c.count o leaf parent v Some) p.table p.homes p.sound leaf parent one stage free c (linked v Some held) ∙ held.shown;
          holding = λ holds u i is. kept holds u i (name_eq (Vhd u) (Vhd leaf)) (name_eq (Vhd u) (Vhd parent)) (sym (same (Vhd u)) ∙ is);
        };
  }
    where
      kept : HasNoEmptySlot c → (u : List ℕ) (i : Image) (a d : Bool) → (cond a (Some (Vhd parent)) (cond d None (Some (Vhd u))) >>= image_of c) ≡ Some i → IsHolding c.block i
      kept holds u i true d is = holds parent i is
      kept holds u i false true is = absurd (none-some i is)
      kept holds u i false false is = holds u i is

  -- ---- what is left

  left : (v : VolumeTable) (from : Name → Option Name) → IsReached c.count o leaf parent v from → IsAlike v from → (folding v ≡ Leaf leaf parent ∷ []) ⊎ (folding v ≡ []) → IsLeft c v
  left v from p k entry = record {
    table = p.table;
    sound = ap fault_of (outline_alike v from k) ∙ p.sound;
    shown = k.shown;
    holding = k.holding;
    no_link = no_relink c leaf parent v entry;
  }

  pub left_on_the_way : (v : VolumeTable) → IsEnding t v → IsLeft c v
  left_on_the_way v ending = let k = end_reached c.count o sound table (content_images c) leaf parent one IsAlike carried v ending in left v k.0 k.1 k.2 k.3

  pub left_at_last : IsLeft c (ended t)
  left_at_last =
      let run = end_of c.count o sound table (content_images c) leaf parent one IsAlike carried in
      let k = end_last c.count o sound table (content_images c) leaf parent one IsAlike carried in left (ended t) run.from k.0 k.1 (inr k.2)

  pub images_at_last : (n : Name) → image_of (ended_content c) n ≡ image_ended c n
  images_at_last n =
      let run = end_of c.count o sound table (content_images c) leaf parent one IsAlike carried in
      let k = (end_last c.count o sound table (content_images c) leaf parent one IsAlike carried).1 in
      k.images n ∙ ap (λ m. m >>= image_of c) (run.as_ended n)
