-- A VHD image, shown or hidden, gets larger by its footers: whatever a stop leaves of it is that image, with its old size or the new
-- one, and what is left is kept. Of a visible one, the disks are those from before or those from after.
use Rattle.std.proofs.Common.{◌≡◌, ◌≢◌, ◌⊎◌, inl, inr, ⊎_elim, ℕ, ◌*◌, ◌/◌, ◌%◌, ◌<◌, ◌≤◌, Bool, true, false, cond, List, length, Option, Some, None, refl, sym, ap, ap₂, ◌∙◌, subst, arith}
use Rattle.std.proofs.Math.Path.{fun_ext}
use Rattle.std.proofs.Math.Logic.{∥∥₁_elim}
use Rattle.std.proofs.Props.{props}
use Rattle.std.proofs.lemmas.Bool.{cond-true, le-ltb}
use Rattle.std.proofs.lemmas.Option.{same_Some}
use Rattle.common_laws.specs.Lists.{In}
use Rattle.common_laws.proofs.Lists.{In-map, In-map_at}
use Rattle.sm_base.specs.declared.names.Name.{Name}
use Rattle.sm_base.specs.declared.names.Name.TheVariants.{Vhd, Raw, Relink}
use Rattle.sm_disk.specs.Held.{Held, Allows, reads}
use Rattle.vg_meta.specs.Tables.{VolumeTable, Row, rows, extents_of}
use Rattle.vg_volumes.specs.Sites.{Site, size_of, volume_of}
use Rattle.vg_volumes.specs.Volumes.{KeepsElsewhere}
use Rattle.vhd_layout.specs.Contents.{content_at, own, size_at, value}
use Rattle.vhd_layout.specs.Layouts.{Sectors}
use Rattle.vhd_layout.specs.Readings.{is_valid}
use Rattle.vhd_layout.proofs.ReadingLaws.{valid-decided}
use Rattle.vhd_volumes.specs.Truth.{layout_in}
use Rattle.vhd_image.specs.Bodies.{parent_name, sector_count}
use Rattle.vhd_image.specs.Changes.{ChangesBy, IsChanged, IsResized}
use Rattle.vhd_chain.specs.Trees.{row_name, tree_row}
use Rattle.vhd_chain.specs.declared.rows.TreeRow.{TreeRow}
use Rattle.sm_machine.specs.Disks.{on_disk}
use Rattle.sm_machine.specs.Shapes.{ImageRow}
use Rattle.sm_machine.specs.Steps.{grown_disk}
use Rattle.sm_machine.proofs.Debts.{own_parent}
use Rattle.sm_record.specs.declared.records.Reading.{Reading}
use Rattle.sm_run.specs.Between.{IsAlready, IsBetween}
use Rattle.sm_standing.specs.Changes.{IsRaised}
use Rattle.sm_standing.specs.Checks.{fault_of}
use Rattle.sm_standing.specs.Contents.{Content, record_of, sectors_of}
use Rattle.sm_standing.specs.Entries.{is_visible}
use Rattle.sm_standing.specs.Images.{Image, image_of}
use Rattle.sm_standing.specs.Keeping.{IsHolding, IsKept}
use Rattle.sm_standing.specs.Outlines.{Link, Outline, link_of, outline, reading_in}
use Rattle.sm_standing.specs.Standing.{disks, standing_volume}
use Rattle.sm_standing.proofs.ImageSectors.{image_same}
use Rattle.sm_ready.specs.Known.{Known, machine_row, shape_in}
use Rattle.sm_ready.specs.Orderly.{IsOrderly}
use Rattle.sm_ready.specs.Outlined.{link_in, outline_in}
use Rattle.sm_ready.specs.Ready.{IsReady}
use Rattle.sm_ready.specs.Stores.{Leaving, MayShow, content_in, content_now}
use Rattle.sm_ready.proofs.AlikeLaws.{disks_alike, faces_alike}
use Rattle.sm_ready.proofs.ChainLaws.{still_before}
use Rattle.sm_ready.proofs.KeptLaws.{holding_at, law_kept}
use Rattle.sm_ready.proofs.LeftLaws.{IsLeft, IsVhdIn, extent_some, law_left_now, left_in, left_now, links_left, outline_left, ready_places, size_there, vhd_allowed, vhd_of}
use Rattle.sm_ready.proofs.Orders.{geometry_of, whole}
use Rattle.sm_ready.proofs.RaisedLaws.{disks_raised, raised_already}
use Rattle.sm_ready.proofs.RowLaws.{tree_found}
use Rattle.sm_ready.proofs.ShapeLaws.{plainly_stands, visible_row}
use Rattle.sm_ready.proofs.SpliceLaws.{splice_here, splice_left, splice_other, with_volume}
use Rattle.sm_ready.proofs.Steadies.{steady_valid}
use Rattle.sm_ready.proofs.StopLaws.{IsStopped, childless, image_beside, link_at, name_or_not, reading_beside, recorded_beside, relink_apart, row_beside, stop_between}

-- a stop leaves this image of the area while the image of u, shown or hidden, gets this size: beside its volume it is one that a stop
-- might have left before, and the image in it is the one in that, with the one size or the other
pub record IsGrowing (s : Site) (t : VolumeTable) (m : Known) (old : Held) (u : List ℕ) (r : TreeRow) (size : ℕ) (image : Sectors) : Type 0 where
  pub there : In r m.rows
  pub named : row_name r ≡ Vhd u
  pub earlier : Sectors
  pub might : IsLeft s old earlier
  pub others : (n : Name) → n ≢ Vhd u → (p : ℕ) → p < size_of s t n → sectors_of (content_in s t image) n p ≡ sectors_of (content_in s t earlier) n p
  pub was : Image
  pub now : Image
  pub before : image_of (content_in s t earlier) (Vhd u) ≡ Some was
  pub after : image_of (content_in s t image) (Vhd u) ≡ Some now
  pub sized : (now.size ≡ was.size) ⊎ (now.size ≡ size)
  pub parent : now.parent ≡ was.parent
  pub own : (k : ℕ) → now.own k ≡ was.own k
  pub empty : (k : ℕ) → was.size ≤ k → was.own k ≡ None
  pub holding : IsHolding s.geometry.block now

-- no entry of a relink speaks of u, as the child or as the parent that the child has
abbrev pub IsUnlinked : Content → List ℕ → Type 0
IsUnlinked c u = (child parent : List ℕ) (q : Row) → rows c.table (Relink child parent) ≡ Some q → (Vhd child ≢ Vhd u) × ((v : Image) → image_of c (Vhd child) ≡ Some v → v.parent ≢ Some (Vhd u))

module _ (s : Site) (t : VolumeTable) (m : Known) (old : Held) (u : List ℕ) (r : TreeRow) (size : ℕ) (image : Sectors) (o : IsOrderly s t m) (ready : IsReady s t old m) (h : IsGrowing s t m old u r size image) where
  -- ---- all but the image is as it was

  pub recorded : (v : List ℕ) → record_of (content_in s t image) v ≡ record_of (content_in s t h.earlier) v
  recorded = recorded_beside s t m old (Vhd u) image h.earlier r o ready h.there h.named h.might h.others

  pub others_same : (n : Name) → n ≢ Vhd u → image_of (content_in s t image) n ≡ image_of (content_in s t h.earlier) n
  others_same = image_beside s t m old (Vhd u) image h.earlier r o ready h.there h.named h.might h.others

  reading_same : (k : ℕ) → reading_in (content_in s t image) k ≡ reading_in (content_in s t h.earlier) k
  reading_same = reading_beside s t m old (Vhd u) image h.earlier r o ready h.there h.named h.might h.others

  kept_was : IsKept (content_in s t h.earlier)
  kept_was = law_kept s t old m h.earlier o ready.firm (left_in s t m old h.earlier o h.might) (ready_places s t old m h.earlier o ready h.might)

  -- ---- the image, with its old size or the new one

  found : tree_row m.rows (Vhd u) ≡ Some r
  unfolding shape_in
  found = ∥∥₁_elim o.well_formed (hlevel props) (λ w. ap (tree_row m.rows) (sym h.named) ∙ tree_found m.rows r w.one_image h.there)

  link_was : (n : Name) → link_of (image_of (content_in s t h.earlier) n) ≡ link_in (tree_row m.rows n)
  link_was n = links_left s t old m h.earlier n o ready.firm (left_in s t m old h.earlier o h.might)

  was_is : link_at h.was.size h.was.parent ≡ link_at (sector_count r.image) (parent_name r.image)
  was_is = same_Some (link_at h.was.size h.was.parent) (link_at (sector_count r.image) (parent_name r.image)) (sym (ap link_of h.before) ∙ link_was (Vhd u) ∙ ap link_in found)

  was_size : h.was.size ≡ sector_count r.image
  was_size = ap (λ (x : Link). x.size) was_is

  was_parent : h.was.parent ≡ parent_name r.image
  was_parent = ap (λ (x : Link). x.parent) was_is

  fits : (p : Name) (q : Image) → h.was.parent ≡ Some p → image_of (content_in s t h.earlier) p ≡ Some q → q.size ≤ h.was.size
  unfolding shape_in
  fits p q up is = ∥∥₁_elim o.well_formed (hlevel props) (λ w.
      let z = w.parents (machine_row r) p (In-map_at machine_row m.rows r h.there) (sym was_parent ∙ up) in
      let y = In-map machine_row m.rows z.parent z.there in
      let x = row_beside s t m old (Vhd u) image h.earlier r o ready h.there h.named h.might h.others p q is in
      let same : y.0 ≡ x.0 = same_Some y.0 x.0 (sym (tree_found m.rows y.0 w.one_image y.1) ∙ ap (tree_row m.rows) (sym (ap (λ (i : ImageRow). i.name) y.2) ∙ z.is_named) ∙ x.1) in
      let long : q.size ≡ z.parent.size = ap (λ (l : Link). l.size) x.2 ∙ ap (λ (i : TreeRow). sector_count i.image) (sym same) ∙ sym (ap (λ (i : ImageRow). i.size) y.2) in
      omega (arith, z.not_larger, long, was_size))

  no_loop : h.was.parent ≢ Some (Vhd u)
  unfolding shape_in
  no_loop up = ∥∥₁_elim o.well_formed (hlevel props) (λ w.
      own_parent (shape_in s t m) w (machine_row r) (In-map_at machine_row m.rows r h.there) (sym was_parent ∙ up ∙ ap Some (sym h.named)))

  pub raised : sector_count r.image ≤ size → IsRaised (content_in s t h.earlier) (content_in s t image) (Vhd u) h.was h.now
  raised larger = record {
    before = h.before;
    after = h.after;
    larger = ⊎_elim (λ same. omega (arith, same)) (λ new. omega (arith, larger, was_size, new)) h.sized;
    parent = h.parent;
    own = h.own;
    empty = h.empty;
    fits = fits;
    no_loop = no_loop;
    others = others_same;
  }

  -- ---- memory with the new size, of which no check fails

  abbrev outline_by : (Name → Option Link) → (ℕ → Reading) → Outline
  outline_by ls rs = record { extent = s.geometry.extent; block = s.geometry.block; entries = s.geometry.entries; table = t; links = ls; readings = rs }

  link_same : h.now.size ≡ h.was.size → (n : Name) → link_of (image_of (content_in s t image) n) ≡ link_of (image_of (content_in s t h.earlier) n)
  link_same same n = ⊎_elim
      (λ is. ap (λ y. link_of (image_of (content_in s t image) y)) is ∙ ap link_of h.after ∙ ap₂ (λ (k : ℕ) (p : Option Name). Some (link_at k p)) same h.parent
      ∙ sym (ap (λ y. link_of (image_of (content_in s t h.earlier) y)) is ∙ ap link_of h.before))
      (λ other. ap link_of (others_same n other)) (name_or_not n (Vhd u))

  module _ (after : List TreeRow) (links : (n : Name) → n ≢ Vhd u → tree_row after n ≡ tree_row m.rows n) (mine : link_in (tree_row after (Vhd u)) ≡ Some (record { size = size; parent = parent_name r.image }))
      (sound : fault_of (outline_in s t (record m { rows = after })) ≡ None) where
    link_now : h.now.size ≡ size → (n : Name) → link_of (image_of (content_in s t image) n) ≡ link_in (tree_row after n)
    link_now new n = ⊎_elim
        (λ same. ap (λ y. link_of (image_of (content_in s t image) y)) same ∙ ap link_of h.after
        ∙ ap₂ (λ (k : ℕ) (p : Option Name). Some (link_at k p)) new (h.parent ∙ was_parent) ∙ sym mine ∙ sym (ap (λ y. link_in (tree_row after y)) same))
        (λ other. ap link_of (others_same n other) ∙ link_was n ∙ ap link_in (sym (links n other))) (name_or_not n (Vhd u))

    outline_now : h.now.size ≡ size → outline (content_in s t image) ≡ outline_in s t (record m { rows = after })
    unfolding outline_in
    outline_now new =
        ap₂ outline_by (fun_ext (link_now new))
        (fun_ext reading_same ∙ ap (λ (x : Outline). x.readings) (outline_left s t old m h.earlier o ready.firm (left_in s t m old h.earlier o h.might) (ready_places s t old m h.earlier o ready h.might)))

    -- what a stop leaves is kept
    pub grown_kept : IsUnlinked (content_in s t h.earlier) u → IsKept (content_in s t image)
    grown_kept unlinked = record {
      sound = ⊎_elim (λ same. ap fault_of (ap₂ outline_by (fun_ext (link_same same)) (fun_ext reading_same)) ∙ kept_was.sound) (λ new. ap fault_of (outline_now new) ∙ sound) h.sized;
      holding = λ v i is. ⊎_elim
          (λ same. subst (IsHolding s.geometry.block) (same_Some _ i (sym h.after ∙ ap (image_of (content_in s t image)) (sym same) ∙ is)) h.holding)
          (λ other. kept_was.holding v i (sym (others_same (Vhd v) other) ∙ is)) (name_or_not (Vhd v) (Vhd u));
      linking = λ child parent q v p n entry child_is linked under.
          let apart = unlinked child parent q entry in
          let child_was = sym (others_same (Vhd child) apart.0) ∙ child_is in
          kept_was.linking child parent q v p n entry child_was linked (sym (others_same n (λ same. apart.1 v child_was (linked ∙ ap Some same))) ∙ under);
    }

  -- ---- a visible image: the disks are those from before, or one of them is larger

  module _ (shown : r.hidden ≡ false) where
    -- while it has its old size, nothing changed
    stopped : h.now.size ≡ h.was.size → IsStopped s t m old (Vhd u) (λ k bytes. ⊥) image
    stopped same = record {
      row = r;
      there = h.there;
      shown = shown;
      named = h.named;
      earlier = h.earlier;
      might = h.might;
      others = h.others;
      was = h.was;
      now = h.now;
      before = h.before;
      after = h.after;
      size = same;
      parent = h.parent;
      own = λ k. inl (h.own k);
      holding = λ v is. h.holding;
    }

    unlinked : IsUnlinked (content_in s t h.earlier) u
    unlinked child parent q entry = (
      λ same. relink_apart s t m r o h.there shown child parent q entry (same ∙ sym h.named),
      childless s t m old (Vhd u) image h.earlier r o ready h.there h.named h.might h.others shown (Vhd child),
    )

    owner : (v : List ℕ) → standing_volume t v ≡ Some (Vhd u) → v ≡ u
    owner v is = by (is_visible t (Vhd v)) (is_visible t (Raw v)) (sym (plainly_stands s t m v o) ∙ is)
      where
        by : (a b : Bool) → cond a (Some (Vhd v)) (cond b (Some (Raw v)) None) ≡ Some (Vhd u) → v ≡ u
        by true b e = (let x = e in cc)
        by false true e = absurd (let x = e in cc)
        by false false e = absurd (let x = e in cc)

    stands : standing_volume t u ≡ Some (Vhd u)
    stands = ∥∥₁_elim o.well_formed (hlevel props) (λ w.
        plainly_stands s t m u o
        ∙ ap (λ b. cond b (Some (Vhd u)) (cond (is_visible t (Raw u)) (Some (Raw u)) None)) (ap (is_visible t) (sym h.named) ∙ visible_row s t m r o w h.there shown))

    module _ (larger : sector_count r.image ≤ size) where
      -- the disks with the new size
      disks_grown : h.now.size ≡ size → disks (content_in s t image) ≡ on_disk u (grown_disk size) (disks (content_in s t h.earlier))
      disks_grown new =
          disks_raised (content_in s t h.earlier) (content_in s t image) (Vhd u) h.was h.now (raised larger) refl recorded u stands owner
          ∙ ap (λ k. on_disk u (grown_disk k) (disks (content_in s t h.earlier))) new

      -- where each image of the earlier one is what a read gives, they are those after it
      pub grown_now : h.now.size ≡ size → ((n : Name) → image_of (content_in s t h.earlier) n ≡ image_of (content_now s t old) n) → disks (content_in s t image) ≡ on_disk u (grown_disk size) (disks (content_now s t old))
      grown_now new same =
          disks_grown new
          ∙ ap (on_disk u (grown_disk size)) (disks_alike (content_now s t old) (content_in s t h.earlier) refl same (law_left_now s t old m h.earlier o ready h.might).records)

      -- what a stop leaves is kept, and shows the disks from before or those from after
      pub grown_stop : (after : List TreeRow) → ((n : Name) → n ≢ Vhd u → tree_row after n ≡ tree_row m.rows n) → link_in (tree_row after (Vhd u)) ≡ Some (record { size = size; parent = parent_name r.image })
          → fault_of (outline_in s t (record m { rows = after })) ≡ None → (before : Leaving) → ((other : Sectors) → IsLeft s old other → before t other)
          → IsKept (content_in s t image) × IsBetween (MayShow s before) (disks (content_now s t old)) (on_disk u (grown_disk size) (disks (content_now s t old))) (disks (content_in s t image))
      grown_stop after links mine sound before might = (
        grown_kept after links mine sound unlinked,
        ⊎_elim
            (λ same. still_before _ _ (record { table = t; image = reads old; left = might (reads old) (left_now s old); shown = refl })
            (stop_between s t m old (Vhd u) u (λ k bytes. ⊥) image o ready (stopped same) owner (disks (content_now s t old)) before (record { faces = refl; bytes = λ k bytes none. absurd none }) might))
            (λ new. inr (subst (IsAlready (MayShow s before) (on_disk u (grown_disk size) (disks (content_now s t old)))) (sym (disks_grown new))
            (raised_already size u (disks (content_now s t old)) (disks (content_in s t h.earlier)) (MayShow s before)
            (let alike = law_left_now s t old m h.earlier o ready h.might in faces_alike (content_now s t old) (content_in s t h.earlier) alike.outline alike.records)
            (record { table = t; image = h.earlier; left = might h.earlier h.might; shown = refl })))) h.sized,
      )

-- ---- by what is said of the volume

-- what is known as the footers are written
pub record Resizes (s : Site) (t : VolumeTable) (m : Known) (old new : Held) (u : List ℕ) (v : Row) (size : ℕ) : Type 0 where
  pub orderly : IsOrderly s t m
  pub ready : IsReady s t old m
  pub there : rows t (Vhd u) ≡ Some v
  pub at : IsVhdIn s t old m u v
  pub keeps : KeepsElsewhere s.geometry.extent (extents_of (rows t (Vhd u))) old new
  pub changes : ChangesBy (layout_in s.geometry at.head.footer (length v.extents * s.geometry.extent)) (IsResized (layout_in s.geometry at.head.footer (length v.extents * s.geometry.extent)) size) (volume_of s t old (Vhd u)) (volume_of s t new (Vhd u))

module _ (s : Site) (t : VolumeTable) (m : Known) (old new : Held) (u : List ℕ) (v : Row) (size : ℕ) (h : Resizes s t m old new u v size) (image : Sectors) (left : IsLeft s new image) where
  abbrev count : ℕ
  count = length v.extents * s.geometry.extent

  abbrev now : Sectors
  now = sectors_of (content_in s t image) (Vhd u)

  pub allowed_now : Allows (length v.extents * s.geometry.extent) (volume_of s t new (Vhd u)) (sectors_of (content_in s t image) (Vhd u))
  allowed_now = vhd_allowed s t new m image u v h.orderly (left_in s t m new image h.orderly left) h.there h.at.at.filled

  abbrev changed : IsChanged (layout_in s.geometry h.at.head.footer (length v.extents * s.geometry.extent)) (IsResized (layout_in s.geometry h.at.head.footer (length v.extents * s.geometry.extent)) size) (volume_of s t old (Vhd u)) (sectors_of (content_in s t image) (Vhd u))
  changed = h.changes.from (sectors_of (content_in s t image) (Vhd u)) allowed_now

  -- the earlier choice
  abbrev earlier : Sectors
  earlier = with_volume s.geometry.extent (extents_of (rows t (Vhd u))) changed.before image

  pos : 0 < s.geometry.extent
  pos = extent_some s t m h.orderly

  pub earlier_left : IsLeft s old earlier
  earlier_left = splice_left s t (Vhd u) old new changed.before image h.keeps
      (subst (λ k. Allows k (volume_of s t old (Vhd u)) changed.before) (sym (size_there s t (Vhd u) v h.there)) changed.allowed) left

  valid_now : image_of (content_in s t image) (Vhd u) ≡ Some (content_at s.geometry.block s.geometry.entries count now)
  valid_now =
      vhd_of (content_in s t image) u v h.there h.at.at.filled (whole s t m (Vhd u) h.orderly)
      ∙ cond-true (is_valid s.geometry.block s.geometry.entries count now) (Some _) None
      ((valid-decided s.geometry.extent s.geometry.block s.geometry.entries count now (geometry_of s t m h.orderly)).1 (h.changes.valid now allowed_now))

  valid_before : image_of (content_in s t earlier) (Vhd u) ≡ Some (content_at s.geometry.block s.geometry.entries count changed.before)
  valid_before =
      vhd_of (content_in s t earlier) u v h.there h.at.at.filled (whole s t m (Vhd u) h.orderly)
      ∙ image_same s.geometry.extent s.geometry.block s.geometry.entries count (sectors_of (content_in s t earlier) (Vhd u)) changed.before (geometry_of s t m h.orderly)
      (λ p below. splice_here s t (Vhd u) changed.before image p h.orderly.table pos (omega (arith, below, size_there s t (Vhd u) v h.there)))
      ∙ steady_valid s.geometry count (volume_of s t old (Vhd u)) h.at.head h.at.slots changed.before (geometry_of s t m h.orderly) h.at.steady changed.allowed

  past_none : (k : ℕ) → size_at count changed.before ≤ k → own s.geometry.block (size_at count changed.before) changed.before k ≡ None
  unfolding own
  past_none k past = ap (λ b. cond b (value changed.before (k / s.geometry.block) (k % s.geometry.block)) None) (le-ltb k (size_at count changed.before) past)

  pub growing : IsGrowing s t m old u h.at.at.row size image
  growing = record {
    there = h.at.at.there;
    named = h.at.at.named;
    earlier = earlier;
    might = earlier_left;
    others = λ n other p below. sym (splice_other s t (Vhd u) n changed.before image p h.orderly.table pos other below);
    was = content_at s.geometry.block s.geometry.entries count changed.before;
    now = content_at s.geometry.block s.geometry.entries count now;
    before = valid_before;
    after = valid_now;
    sized = changed.changed.size;
    parent = changed.changed.parent;
    own = changed.changed.says.own;
    empty = past_none;
    holding = holding_at s.geometry.block s.geometry.entries count now (h.changes.valid now allowed_now) (changed.changed.says.holds (h.at.steady.holding changed.before changed.allowed));
  }
