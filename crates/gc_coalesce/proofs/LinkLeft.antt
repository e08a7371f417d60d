-- What a stop leaves while a child is linked past an image, of a ready store in which nothing was pending: its image is that one, with
-- the old parent or the new one, and all else is the same. So it is kept, and shows the disks from before.
use Rattle.std.proofs.Common.{◌≡◌, ◌≢◌, ◌⊎◌, inl, inr, ⊎_elim, ℕ, ◌*◌, ◌<◌, cond, List, [], length, Option, Some, None, refl, sym, ap, ap₂, ◌∙◌, subst, arith}
use Rattle.std.proofs.Math.Path.{fun_ext}
use Rattle.std.proofs.lemmas.Bool.{cases_lt, cond-true, le-ltb}
use Rattle.std.proofs.lemmas.Option.{none-some, same_Some}
use Rattle.std.specs.Prelude.{nat_lt}
use Rattle.common_laws.specs.Lists.{In}
use Rattle.common_laws.proofs.Lists.{In-filter, In-map}
use Rattle.sm_base.specs.Kinds.{is_entry}
use Rattle.sm_base.specs.declared.names.Name.{Name}
use Rattle.sm_base.specs.declared.names.Name.TheVariants.{Mgt, Relink, Vhd}
use Rattle.sm_machine.specs.Operations as op
use Rattle.sm_disk.specs.Held.{Allows, Held, reads}
use Rattle.sm_disk.proofs.HeldLaws.{Allows-keeps}
use Rattle.vg_meta.specs.Tables.{Row, VolumeTable, extents_of, names_of, rows}
use Rattle.vg_volumes.specs.Sites.{Site, size_of, volume_of}
use Rattle.vg_volumes.specs.Volumes.{KeepsElsewhere}
use Rattle.vhd_layout.specs.Contents.{content_at}
use Rattle.vhd_layout.specs.Layouts.{Layout, Sectors}
use Rattle.vhd_layout.specs.Readings.{is_valid}
use Rattle.vhd_layout.proofs.ReadingLaws.{valid-decided}
use Rattle.vhd_volumes.specs.Steady.{IsQuiet}
use Rattle.vhd_volumes.specs.Truth.{layout_in}
use Rattle.vhd_image.specs.Bodies.{parent_name, sector_count}
use Rattle.vhd_image.specs.Changes.{ChangesBy, IsChanged, IsRelinked}
use Rattle.vhd_chain.specs.Trees.{row_name, tree_row, with_replaced}
use Rattle.vhd_chain.specs.declared.rows.TreeRow.{TreeRow}
use Rattle.vhd_chain.proofs.ByName.{tree_row-replaced_other, tree_row-replaced_same}
use Rattle.sm_machine.specs.Shapes.{image_uuid}
use Rattle.sm_record.specs.Records.{reading}
use Rattle.sm_record.specs.declared.records.Reading.{Reading}
use Rattle.sm_record.specs.declared.records.Reading.TheVariants.{Free}
use Rattle.sm_standing.specs.Changes.{IsCopied}
use Rattle.sm_refs.specs.Attached.{Attached}
use Rattle.sm_standing.specs.Checks.{fault_of}
use Rattle.sm_standing.specs.Entries.{names_in}
use Rattle.sm_standing.specs.Contents.{reading_at, record_count, record_of, sectors_of}
use Rattle.sm_standing.specs.Images.{Image, image_of}
use Rattle.sm_standing.specs.Keeping.{IsHolding, IsKept}
use Rattle.sm_standing.specs.Outlines.{Link, Outline, link_of, outline, reading_in}
use Rattle.sm_standing.specs.Readings.{SameReadings}
use Rattle.sm_standing.specs.Standing.{disks}
use Rattle.sm_standing.proofs.ImageSectors.{image_same}
use Rattle.sm_standing.proofs.RecordLists.{first_of, record_of_first, records_same}
use Rattle.sm_ready.specs.Known.{Known, entry_of}
use Rattle.sm_ready.specs.Orderly.{IsOrderly}
use Rattle.sm_ready.specs.Outlined.{link_in, outline_in}
use Rattle.sm_ready.specs.Ready.{IsBelow, IsHeldBelow, IsReady}
use Rattle.sm_ready.specs.Stores.{content_in, content_now}
use Rattle.sm_ready.proofs.AfterLaws.{other_keeps}
use Rattle.sm_ready.proofs.KeptLaws.{entry_relink, holding_at, law_kept}
use Rattle.sm_ready.proofs.LeftLaws.{IsLeft, IsVhdIn, extent_some, left_in, left_now, left_volume, links_left, mgt_long, now_sector, outline_left, quiet_sector, ready_places, size_there, vhd_allowed, vhd_of}
use Rattle.sm_ready.proofs.Orders.{geometry_of, whole}
use Rattle.sm_ready.proofs.RowLaws.{found_in}
use Rattle.sm_ready.proofs.Steadies.{steady_valid}
use Rattle.sm_ready.proofs.StopLaws.{image_by_sectors, link_at, name_or_not}
use Rattle.gc_coalesce.proofs.LinkChains.{all_short}
use Rattle.gc_coalesce.proofs.LinkDisks.{IsLinkedPast, disks_linked}
use Rattle.gc_coalesce.proofs.LinkLaws.{IsToLink, base_link, base_named, found, linked_name, linked_parent, linked_row, linked_size, not_out, not_parent, noted, noted_others, noted_out, own_vhd, sound_linked}

-- what may happen to a volume of this layout whose image is linked to p
abbrev pub LinksIn : Layout → Name → Held → Held → Type 0
LinksIn l p old new = ChangesBy l (IsRelinked l p) old new

-- what is known as the header of the child is written
pub record Links (s : Site) (t : VolumeTable) (m : Known) (old new : Held) (child v p : Name) (r q : TreeRow) (u : List ℕ) (vr : Row) : Type 0 where
  pub links : IsToLink s t m child v p r
  pub higher : In q m.rows
  pub q_named : row_name q ≡ p
  pub ready : IsReady s t old m
  pub rests : (n : Name) → IsQuiet (volume_of s t old n)
  pub named : child ≡ Vhd u
  pub there : rows t (Vhd u) ≡ Some vr
  pub at : IsVhdIn s t old m u vr
  pub keeps : KeepsElsewhere s.geometry.extent (extents_of (rows t (Vhd u))) old new
  pub changes : LinksIn (layout_in s.geometry at.head.footer (length vr.extents * s.geometry.extent)) p (volume_of s t old (Vhd u)) (volume_of s t new (Vhd u))

module _ (s : Site) (t : VolumeTable) (m : Known) (old new : Held) (child v p : Name) (r q : TreeRow) (u : List ℕ) (vr : Row) (h : Links s t m old new child v p r q u vr) where
  o : IsOrderly s t m
  o = h.links.orderly

  -- ---- what a read gives

  was_outline : outline (content_now s t old) ≡ outline_in s t m
  was_outline = outline_left s t old m (reads old) o h.ready.firm (left_in s t m old (reads old) o (left_now s old)) (ready_places s t old m (reads old) o h.ready (left_now s old))

  was_kept : IsKept (content_now s t old)
  was_kept = law_kept s t old m (reads old) o h.ready.firm (left_in s t m old (reads old) o (left_now s old)) (ready_places s t old m (reads old) o h.ready (left_now s old))

  was_link : (n : Name) → link_of (image_of (content_now s t old) n) ≡ link_in (tree_row m.rows n)
  was_link n = links_left s t old m (reads old) n o h.ready.firm (left_in s t m old (reads old) o (left_now s old))

  found_child : tree_row m.rows child ≡ Some r
  found_child = ap (tree_row m.rows) (sym h.links.named) ∙ found h.links

  not_v : Vhd u ≢ v
  not_v same = not_out h.links (h.named ∙ same)

  not_p : Vhd u ≢ p
  not_p same = not_parent h.links (h.named ∙ same)

  -- the image and its parent, of which the operation speaks
  held : IsHeldBelow (content_now s t old) v p s.geometry.entries []
  held = subst (IsBelow (content_now s t old)) h.links.is h.ready.firm.below

  held_parent : held.child.parent ≡ Some p
  held_parent = by (tree_row m.rows v) refl (sym (ap link_of held.image) ∙ was_link v)
    where
      by : (x : Option TreeRow) → tree_row m.rows v ≡ x → Some (link_at held.child.size held.child.parent) ≡ link_in (tree_row m.rows v) → held.child.parent ≡ Some p
      by None f e = absurd (none-some (link_at held.child.size held.child.parent) (sym (e ∙ ap link_in f)))
      by (Some y) f e = ap (λ (l : Link). l.parent) (same_Some (link_at held.child.size held.child.parent) (link_at (sector_count y.image) (parent_name y.image)) (e ∙ ap link_in f)) ∙ base_link h.links y f

  -- the entry of the operation stands
  entry : (x : Row) × (rows t (Relink (image_uuid v) (image_uuid p)) ≡ Some x)
  entry =
      let named : In (Relink (image_uuid v) (image_uuid p)) (names_in t is_entry) = subst (λ (ns : List Name). In (Relink (image_uuid v) (image_uuid p)) ns)
      (sym (o.entries ∙ ap entry_of h.links.is)) (inl refl) in
      let i = In-filter is_entry (names_of t.volumes) (Relink (image_uuid v) (image_uuid p)) named in
      let x = In-map (λ (y : Row). y.name) t.volumes (Relink (image_uuid v) (image_uuid p)) i.0 in
      (x.0, ap (rows t) x.2 ∙ found_in t.volumes o.table.volumes.rising x.0 x.1)

  -- so the parent holds alike whatever the image holds
  copied : IsCopied (content_now s t old) v p held.child held.parent
  copied = record {
    image = held.image;
    parent = held_parent;
    below = held.under;
    size = held.size;
    held = was_kept.linking (image_uuid v) (image_uuid p) entry.0 held.child held.parent p entry.1 (ap (image_of (content_now s t old)) (sym (base_named h.links)) ∙ held.image) held_parent held.under;
  }

  -- ---- what a stop leaves

  module _ (image : Sectors) (left : IsLeft s new image) where
    abbrev count : ℕ
    count = length vr.extents * s.geometry.extent

    abbrev now : Sectors
    now = sectors_of (content_in s t image) (Vhd u)

    allowed_now : Allows (length vr.extents * s.geometry.extent) (volume_of s t new (Vhd u)) (sectors_of (content_in s t image) (Vhd u))
    allowed_now = vhd_allowed s t new m image u vr o (left_in s t m new image o left) h.there h.at.at.filled

    abbrev l : Layout
    l = layout_in s.geometry h.at.head.footer (length vr.extents * s.geometry.extent)

    abbrev changed : IsChanged l (IsRelinked l p) (volume_of s t old (Vhd u)) (sectors_of (content_in s t image) (Vhd u))
    changed = h.changes.from (sectors_of (content_in s t image) (Vhd u)) allowed_now

    abbrev was_image : Image
    was_image = content_at s.geometry.block s.geometry.entries count changed.before

    abbrev now_image : Image
    now_image = content_at s.geometry.block s.geometry.entries count now

    valid_now : image_of (content_in s t image) (Vhd u) ≡ Some now_image
    valid_now =
        vhd_of (content_in s t image) u vr h.there h.at.at.filled (whole s t m (Vhd u) o)
        ∙ cond-true (is_valid s.geometry.block s.geometry.entries count now) (Some _) None
        ((valid-decided s.geometry.extent s.geometry.block s.geometry.entries count now (geometry_of s t m o)).1 (h.changes.valid now allowed_now))

    valid_was : image_of (content_now s t old) (Vhd u) ≡ Some was_image
    valid_was =
        vhd_of (content_now s t old) u vr h.there h.at.at.filled (whole s t m (Vhd u) o)
        ∙ image_same s.geometry.extent s.geometry.block s.geometry.entries count (sectors_of (content_now s t old) (Vhd u)) changed.before (geometry_of s t m o)
        (λ p below. now_sector s t old (Vhd u) p (omega (arith, below, size_there s t (Vhd u) vr h.there)) ∙ sym (h.rests (Vhd u) p (changed.before p) (changed.allowed p below)))
        ∙ steady_valid s.geometry count (volume_of s t old (Vhd u)) h.at.head h.at.slots changed.before (geometry_of s t m o) h.at.steady changed.allowed

    -- all but the child's image is as it was
    sector_other : (n : Name) → n ≢ Vhd u → (k : ℕ) → k < size_of s t n → sectors_of (content_in s t image) n k ≡ sectors_of (content_now s t old) n k
    sector_other n other k below = quiet_sector s t old image n
        (Allows-keeps (size_of s t n) (sectors_of (content_in s t image) n) (other_keeps s t old new (Vhd u) n o.table (extent_some s t m o) h.keeps other)
        (left_volume s t m new image n o left)) (h.rests n) k below

    pub image_other : (n : Name) → n ≢ Vhd u → image_of (content_in s t image) n ≡ image_of (content_now s t old) n
    image_other n other = image_by_sectors s t m (reads old) image n (rows t n) o refl (sector_other n other)

    same_readings : SameReadings (content_now s t old) (content_in s t image)
    same_readings k below = ap reading (sector_other Mgt (λ e. let x = e in cc) k (omega (arith, below, mgt_long s t m o)))

    recorded : (x : List ℕ) → record_of (content_in s t image) x ≡ record_of (content_now s t old) x
    recorded x = record_of_first (content_in s t image) x ∙ ap first_of (records_same (content_now s t old) (content_in s t image) x same_readings) ∙ sym (record_of_first (content_now s t old) x)

    reading_same : (k : ℕ) → reading_in (content_in s t image) k ≡ reading_in (content_now s t old) k
    reading_same k = ⊎_elim
        (λ below. ap (λ y. cond (nat_lt k record_count) y Free) (same_readings k below))
        (λ past. ap (λ b. cond b (reading_at (content_in s t image) k) Free) (le-ltb k record_count past)
        ∙ sym (ap (λ b. cond b (reading_at (content_now s t old) k) Free) (le-ltb k record_count past))) (cases_lt k record_count)

    was_is : link_at was_image.size was_image.parent ≡ link_at (sector_count r.image) (parent_name r.image)
    was_is =
        same_Some (link_at was_image.size was_image.parent) (link_at (sector_count r.image) (parent_name r.image))
        (sym (ap link_of valid_was) ∙ was_link (Vhd u) ∙ ap link_in (ap (tree_row m.rows) (sym h.named) ∙ found_child))

    was_parent : was_image.parent ≡ Some v
    was_parent = ap (λ (l : Link). l.parent) was_is ∙ h.links.linked

    now_parent : (now_image.parent ≡ Some v) ⊎ (now_image.parent ≡ Some p)
    now_parent = ⊎_elim (λ e. inl (e ∙ was_parent)) (λ e. inr e) changed.changed.parent

    now_size : now_image.size ≡ sector_count r.image
    now_size = changed.changed.size ∙ ap (λ (l : Link). l.size) was_is

    linked_past : IsLinkedPast (content_now s t old) (content_in s t image) (Vhd u) v p was_image now_image held.child held.parent
    linked_past = record {
      before = valid_was;
      after = valid_now;
      size = changed.changed.size;
      was = was_parent;
      now = now_parent;
      own = changed.changed.says.own;
      others = image_other;
      apart = not_v;
      below = not_p;
      copied = copied;
    }

    -- the disks are those from before
    pub disks_left : disks (content_in s t image) ≡ disks (content_now s t old)
    disks_left =
        disks_linked (content_now s t old) (content_in s t image) (Vhd u) v p was_image now_image held.child held.parent linked_past (all_short s t m o (content_now s t old) was_outline) refl recorded

    -- ---- kept

    -- memory with such rows tells what is left
    outline_of : (rs : List TreeRow) (a : Attached) → ((n : Name) → n ≢ Vhd u → tree_row rs n ≡ tree_row m.rows n) → link_in (tree_row rs (Vhd u)) ≡ Some (link_at now_image.size now_image.parent)
        → outline (content_in s t image) ≡ outline_in s t (record m { rows = rs; attached = a })
    unfolding outline_in
    outline_of rs a others mine =
        ap₂ (λ (ls : Name → Option Link) (qs : ℕ → Reading). let l : Outline = record { extent = s.geometry.extent; block = s.geometry.block; entries = s.geometry.entries; table = t; links = ls; readings = qs } in l)
        (fun_ext link_now) (fun_ext reading_same ∙ ap (λ (x : Outline). x.readings) was_outline)
      where
        link_now : (n : Name) → link_of (image_of (content_in s t image) n) ≡ link_in (tree_row rs n)
        link_now n = ⊎_elim
            (λ same. ap (λ y. link_of (image_of (content_in s t image) y)) same ∙ ap link_of valid_now ∙ sym mine ∙ sym (ap (λ y. link_in (tree_row rs y)) same))
            (λ other. ap link_of (image_other n other) ∙ was_link n ∙ ap link_in (sym (others n other))) (name_or_not n (Vhd u))

    sound_now : fault_of (outline (content_in s t image)) ≡ None
    sound_now = ⊎_elim
        (λ old_one. ap fault_of (outline_of m.rows m.attached (λ n _. refl)
        (ap link_in (ap (tree_row m.rows) (sym h.named) ∙ found_child) ∙ ap₂ (λ (k : ℕ) (x : Option Name). Some (link_at k x)) (sym now_size) (h.links.linked ∙ sym old_one)))
        ∙ ap fault_of (sym was_outline) ∙ was_kept.sound)
        (λ new_one. ap fault_of (outline_of (with_replaced (linked_row q r) m.rows) (noted h.links)
        (λ n other. tree_row-replaced_other m.rows (linked_row q r) n (λ same. other (sym same ∙ linked_name q.image r.image ∙ h.links.named ∙ h.named)))
        (ap link_in (ap (tree_row (with_replaced (linked_row q r) m.rows)) (sym (linked_name q.image r.image ∙ h.links.named ∙ h.named))
        ∙ tree_row-replaced_same m.rows (linked_row q r) r (ap (tree_row m.rows) (linked_name q.image r.image) ∙ found h.links))
        ∙ ap₂ (λ (k : ℕ) (x : Option Name). Some (link_at k x)) (linked_size q.image r.image ∙ sym now_size) (linked_parent q.image r.image (own_vhd h.links) ∙ ap Some h.q_named ∙ sym new_one)))
        ∙ sound_linked h.links q h.higher h.q_named (noted h.links) refl (noted_out h.links) (noted_others h.links) old h.ready.firm)
        now_parent

    pub kept_left : IsKept (content_in s t image)
    kept_left = record {
      sound = sound_now;
      holding = λ x i is. ⊎_elim
          (λ same. subst (IsHolding s.geometry.block) (same_Some now_image i (sym valid_now ∙ ap (image_of (content_in s t image)) (sym same) ∙ is))
          (holding_at s.geometry.block s.geometry.entries count now (h.changes.valid now allowed_now) (changed.changed.says.holds (h.at.steady.holding changed.before changed.allowed))))
          (λ other. was_kept.holding x i (sym (image_other (Vhd x) other) ∙ is)) (name_or_not (Vhd x) (Vhd u));
      linking = λ c d y i j n there image_is linked under.
          let e = entry_relink s t m c d y o there in
          let same_v : e.v ≡ v = relink_out (sym e.is ∙ h.links.is) in
          let named : Vhd c ≡ v = sym (base_named h.links ∙ ap Vhd (ap image_uuid (sym same_v) ∙ e.uuid)) in
          let was_c = sym (image_other (Vhd c) (λ same. not_v (sym same ∙ named))) ∙ image_is in
          let mine : i ≡ held.child = same_Some i held.child (sym was_c ∙ ap (image_of (content_now s t old)) named ∙ held.image) in
          let up : n ≡ p = same_Some n p (sym linked ∙ ap (λ (z : Image). z.parent) mine ∙ held_parent) in
          was_kept.linking c d y i j n there was_c linked (sym (image_other n (λ same. not_p (sym same ∙ up))) ∙ under);
    }
      where
        relink_out : {a b c d : Name} → op.Relink a b ≡ op.Relink c d → a ≡ c
        relink_out e = (let x = e in cc)
