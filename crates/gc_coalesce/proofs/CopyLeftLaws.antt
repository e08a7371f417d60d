-- What a stop leaves while a block is copied into a hidden parent: it is kept, and shows the disks from before.
use Rattle.std.proofs.Common.{◌≡◌, ◌≢◌, ◌⊎◌, inl, inr, ⊎_elim, ℕ, ◌*◌, ◌<◌, not, ◌&&◌, nat_lt, Bool, false, cond, List, [], ◌∷◌, length, Option, Some, None, refl, sym, ap, ap₂, ◌∙◌, subst, arith}
use Rattle.std.proofs.Math.Path.{fun_ext}
use Rattle.std.proofs.lemmas.Bool.{cases_lt, cond-true, le-ltb, lt-ltb, true≢false}
use Rattle.std.proofs.lemmas.Option.{none-some, same_Some}
use Rattle.common_laws.proofs.Lists.{find-some}
use Rattle.sm_base.specs.declared.names.Name.{Name}
use Rattle.sm_base.specs.declared.names.Name.TheVariants.{Mgt, Vhd, Raw}
use Rattle.sm_disk.specs.Held.{Held, Allows, IsSettled, Keeps, reads}
use Rattle.vg_meta.specs.Tables.{VolumeTable, Row, rows, extents_of}
use Rattle.vg_volumes.specs.Sites.{Site, size_of, volume_of}
use Rattle.vg_volumes.specs.Volumes.{KeepsElsewhere}
use Rattle.vhd_layout.specs.Contents.{content_at}
use Rattle.vhd_layout.specs.Images.{IsValid}
use Rattle.vhd_layout.specs.Layouts.{Sectors}
use Rattle.vhd_layout.specs.Readings.{is_valid}
use Rattle.vhd_layout.proofs.ReadingLaws.{valid-decided}
use Rattle.vhd_volumes.specs.Steady.{IsSteadyIn}
use Rattle.vhd_volumes.specs.Truth.{layout_in}
use Rattle.vhd_volumes.specs.declared.heads.Head.{Head}
use Rattle.vhd_volumes.specs.Writes.{IsGuarded}
use Rattle.vhd_image.specs.Bodies.{own_of}
use Rattle.vhd_image.specs.declared.images.Body.TheVariants as body
use Rattle.vhd_chain.specs.Trees.{row_name, tree_row}
use Rattle.vhd_chain.specs.declared.rows.TreeRow.{TreeRow}
use Rattle.sm_machine.specs.Shapes.{image_uuid}
use Rattle.sm_machine.specs.WellFormed.{is_image_name}
use Rattle.sm_record.specs.Records.{reading}
use Rattle.sm_record.specs.declared.records.Reading.{Reading}
use Rattle.sm_record.specs.declared.records.Reading.TheVariants.{Free}
use Rattle.sm_standing.specs.Checks.{fault_of}
use Rattle.sm_standing.specs.Contents.{reading_at, record_count, record_of, sectors_of}
use Rattle.sm_standing.specs.Entries.{is_visible, of_row}
use Rattle.sm_standing.specs.Images.{Image, image_of, raw_image}
use Rattle.sm_standing.specs.Keeping.{IsHolding, IsKept}
use Rattle.sm_standing.specs.Outlines.{Link, Outline, link_of, outline, reading_in}
use Rattle.sm_standing.specs.Readings.{SameReadings}
use Rattle.sm_standing.specs.Standing.{standing_volume}
use Rattle.sm_standing.proofs.ImageSectors.{image_same}
use Rattle.sm_standing.proofs.RecordLists.{first_of, record_of_first, records_same}
use Rattle.sm_ready.specs.Known.{Known}
use Rattle.sm_ready.specs.Outlined.{link_in}
use Rattle.sm_ready.specs.Ready.{IsReady}
use Rattle.sm_ready.specs.Stores.{content_in, content_now}
use Rattle.sm_ready.proofs.AfterLaws.{other_keeps}
use Rattle.sm_ready.proofs.CauseLaws.{named_as}
use Rattle.sm_ready.proofs.KeptLaws.{entry_relink, holding_at, law_kept}
use Rattle.sm_ready.proofs.LeftLaws.{IsLeft, extent_some, left_in, left_now, left_volume, links_left, mgt_long, now_sector, raw_of, ready_places, size_there, vhd_in, vhd_of}
use Rattle.sm_ready.proofs.Orders.{In-tree_row, geometry_of, named_row, raw_row, rowed, whole}
use Rattle.sm_ready.proofs.RepairLaws.{all_quiet}
use Rattle.sm_ready.proofs.RowLaws.{HasVolume, image_named, volume_there}
use Rattle.sm_ready.proofs.ShapeLaws.{mgt_image, plainly_stands}
use Rattle.sm_ready.proofs.Steadies.{steady_valid}
use Rattle.sm_ready.proofs.StopLaws.{image_by_sectors, name_or_not}
use Rattle.sm_ready.proofs.TruthLaws.{row_found}
use Rattle.gc_coalesce.specs.Blocks.{IsMaskedBy}
use Rattle.gc_coalesce.proofs.CopyKinds.{no_relink}
use Rattle.sm_ready.proofs.NowLaws.{IsNow, row_now}
use Rattle.gc_coalesce.proofs.CopyPlanLaws.{IsToCopy, child_named, child_there, hidden, named, only, same_size, there}
use Rattle.gc_coalesce.proofs.CopyShownLaws.{IsCopyLeft}

-- the image that a stop leaves in x: one that a read gave, with sectors that `own` has
pub record IsParentLeft (s : Site) (t : VolumeTable) (old : Held) (x : Name) (own : ℕ → Option (List ℕ)) (image : Sectors) : Type 0 where
  pub was : Image
  pub now : Image
  pub before : image_of (content_now s t old) x ≡ Some was
  pub after : image_of (content_in s t image) x ≡ Some now
  pub size : now.size ≡ was.size
  pub parent : now.parent ≡ was.parent
  pub own_is : (k : ℕ) → (now.own k ≡ was.own k) ⊎ ((bytes : List ℕ) × (own k ≡ Some bytes) × (now.own k ≡ Some bytes))
  pub holding : (w : List ℕ) → Vhd w ≡ x → IsHolding s.geometry.block now

module _ {s : Site} {t : VolumeTable} {m : Known} {v p : Name} {cursor b : ℕ} {i q : TreeRow} (h : IsToCopy s t m v p cursor b i q) (old new : Held) (ready : IsReady s t old m) (settled : IsSettled old)
    (keeps : KeepsElsewhere s.geometry.extent (extents_of (rows t p)) old new) where
  -- what the child holds
  abbrev pub child_own : ℕ → Option (List ℕ)
  child_own = own_of s.geometry (size_of s t v) i.image (reads (volume_of s t old v))

  pub kept_other : (n : Name) → n ≢ p → Keeps (volume_of s t old n) (volume_of s t new n)
  kept_other n other = other_keeps s t old new p n h.orderly.table (extent_some s t m h.orderly) keeps other

  volume : HasVolume t (row_name q)
  volume = volume_there s t m q h.orderly (image_named (row_name q) (named_row s t m q h.orderly (there h))) (row_found s t m h.orderly q (there h))

  pub not_records : Mgt ≢ p
  not_records same = true≢false (sym (named_row s t m q h.orderly (there h)) ∙ ap is_image_name (named h ∙ sym same) ∙ mgt_image)

  -- ---- the images in memory

  pub child_now : IsNow (content_now s t old) v s.geometry (size_of s t v) i.image (reads (volume_of s t old v))
  child_now = subst (λ n. IsNow (content_now s t old) n s.geometry (size_of s t n) i.image (reads (volume_of s t old n))) (child_named h) (row_now s t old m h.orderly i (child_there h) (ready.firm.images i (child_there h)))

  pub parent_now : IsNow (content_now s t old) p s.geometry (size_of s t p) q.image (reads (volume_of s t old p))
  parent_now = subst (λ n. IsNow (content_now s t old) n s.geometry (size_of s t n) q.image (reads (volume_of s t old n))) (named h) (row_now s t old m h.orderly q (there h) (ready.firm.images q (there h)))

  module _ (masked : IsMaskedBy s.geometry (size_of s t p) q.image child_own (volume_of s t old p) (volume_of s t new p)) (image : Sectors) (left : IsLeft s new image) where
    -- ---- the parent

    -- the image that a read gives is that of any choice that a stop could leave before
    choice_image : (u : List ℕ) (r : Row) → rows t (Vhd u) ≡ Some r → r.fresh ≡ false → (head : Head) (slots : List (Option ℕ))
        → IsSteadyIn s.geometry (length r.extents * s.geometry.extent) (volume_of s t old (Vhd u)) head slots → (w : Sectors) → Allows (length r.extents * s.geometry.extent) (volume_of s t old (Vhd u)) w
        → image_of (content_now s t old) (Vhd u) ≡ Some (content_at s.geometry.block s.geometry.entries (length r.extents * s.geometry.extent) w)
    choice_image u r at filled head slots steady w allowed =
        let n : ℕ = length r.extents * s.geometry.extent in
        let ok = geometry_of s t m h.orderly in
        vhd_of (content_now s t old) u r at filled (whole s t m (Vhd u) h.orderly)
        ∙ image_same s.geometry.extent s.geometry.block s.geometry.entries n (sectors_of (content_now s t old) (Vhd u)) w ok
        (λ k below. now_sector s t old (Vhd u) k (omega (arith, below, size_there s t (Vhd u) r at)) ∙ sym (all_quiet s t old settled (Vhd u) k (w k) (allowed k below)))
        ∙ steady_valid s.geometry n (volume_of s t old (Vhd u)) head slots w ok steady allowed

    -- and what is left is one where it is valid
    valid_image : (u : List ℕ) (r : Row) → rows t (Vhd u) ≡ Some r → r.fresh ≡ false
        → IsValid s.geometry.block s.geometry.entries (length r.extents * s.geometry.extent) (sectors_of (content_in s t image) (Vhd u))
        → image_of (content_in s t image) (Vhd u) ≡ Some (content_at s.geometry.block s.geometry.entries (length r.extents * s.geometry.extent) (sectors_of (content_in s t image) (Vhd u)))
    valid_image u r at filled valid =
        let n : ℕ = length r.extents * s.geometry.extent in
        let now : Sectors = sectors_of (content_in s t image) (Vhd u) in
        vhd_of (content_in s t image) u r at filled (whole s t m (Vhd u) h.orderly)
        ∙ cond-true (is_valid s.geometry.block s.geometry.entries n now) (Some _) None ((valid-decided s.geometry.extent s.geometry.block s.geometry.entries n now (geometry_of s t m h.orderly)).1 valid)

    vhd_left : (u : List ℕ) → row_name q ≡ Vhd u → IsParentLeft s t old (Vhd u) child_own image
    vhd_left u is =
        let at : rows t (Vhd u) ≡ Some volume.row = ap (rows t) (sym is) ∙ volume.there in
        let w = vhd_in s t old m u volume.row h.orderly ready.firm at volume.filled in
        let n : ℕ = length volume.row.extents * s.geometry.extent in
        let long = size_there s t (Vhd u) volume.row at in
        let same : w.at.row ≡ q = same_Some w.at.row q (sym w.at.found ∙ ap (tree_row m.rows) (sym is) ∙ row_found s t m h.orderly q (there h)) in
        let image_is : q.image ≡ body.Vhd w.head w.slots = ap (λ (x : TreeRow). x.image) (sym same) ∙ w.is in
        let guarded : IsGuarded (layout_in s.geometry w.head.footer n) (λ k bytes. child_own k ≡ Some bytes) (volume_of s t old (Vhd u)) (volume_of s t new (Vhd u)) =
        subst (λ k. IsMaskedBy s.geometry k (body.Vhd w.head w.slots) child_own (volume_of s t old (Vhd u)) (volume_of s t new (Vhd u))) long
        (subst (λ x. IsMaskedBy s.geometry (size_of s t x) (body.Vhd w.head w.slots) child_own (volume_of s t old x) (volume_of s t new x)) (sym (named h) ∙ is)
        (subst (λ x. IsMaskedBy s.geometry (size_of s t p) x child_own (volume_of s t old p) (volume_of s t new p)) image_is masked)) in
        let now : Sectors = sectors_of (content_in s t image) (Vhd u) in
        let allowed : Allows n (volume_of s t new (Vhd u)) now = subst (λ k. Allows k (volume_of s t new (Vhd u)) now) long (left_volume s t m new image (Vhd u) h.orderly left) in
        let f = guarded.follows now allowed in
        record {
          was = content_at s.geometry.block s.geometry.entries n f.before;
          now = content_at s.geometry.block s.geometry.entries n now;
          before = choice_image u volume.row at volume.filled w.head w.slots w.steady f.before f.allowed;
          after = valid_image u volume.row at volume.filled (guarded.valid now allowed);
          size = f.follows.size;
          parent = f.follows.parent;
          own_is = f.follows.own;
          holding = λ x e. holding_at s.geometry.block s.geometry.entries n now (guarded.valid now allowed) (f.follows.holds (w.steady.holding f.before f.allowed));
        }

    raw_left : (u : List ℕ) → row_name q ≡ Raw u → IsParentLeft s t old (Raw u) child_own image
    unfolding raw_image
    raw_left u is =
        let at : rows t (Raw u) ≡ Some volume.row = ap (rows t) (sym is) ∙ volume.there in
        let w = raw_row s t m q u h.orderly (there h) is in
        record {
          was = raw_image (content_now s t old) (Raw u);
          now = raw_image (content_in s t image) (Raw u);
          before = raw_of (content_now s t old) u volume.row at volume.filled;
          after = raw_of (content_in s t image) u volume.row at volume.filled;
          size = refl;
          parent = refl;
          own_is = λ k. ⊎_elim
              (λ below. ⊎_elim
              (λ may. inl (ap (λ x. cond (nat_lt k (size_of s t (Raw u))) (Some x) None) (all_quiet s t old settled (Raw u) k (sectors_of (content_in s t image) (Raw u) k) may ∙ sym (now_sector s t old (Raw u) k below))))
              (λ put. inr (sectors_of (content_in s t image) (Raw u) k, put, ap (λ c. cond c (Some (sectors_of (content_in s t image) (Raw u) k)) None) (lt-ltb k (size_of s t (Raw u)) below)))
              (subst (λ x. IsMaskedBy s.geometry (size_of s t x) (body.Raw w.volume w.sectors) child_own (volume_of s t old x) (volume_of s t new x)) (sym (named h) ∙ is)
              (subst (λ x. IsMaskedBy s.geometry (size_of s t p) x child_own (volume_of s t old p) (volume_of s t new p)) w.is masked) k (sectors_of (content_in s t image) (Raw u) k)
              (left_volume s t m new image (Raw u) h.orderly left k below)))
              (λ past. inl (ap (λ c. cond c (Some (sectors_of (content_in s t image) (Raw u) k)) None) (le-ltb k (size_of s t (Raw u)) past)
              ∙ sym (ap (λ c. cond c (Some (sectors_of (content_now s t old) (Raw u) k)) None) (le-ltb k (size_of s t (Raw u)) past)))) (cases_lt k (size_of s t (Raw u)));
          holding = λ x e. absurd (let z = e in cc);
        }

    pub parent_left : IsParentLeft s t old p child_own image
    parent_left = subst (λ x. IsParentLeft s t old x child_own image) (named h)
        (⊎_elim (λ is. subst (λ x. IsParentLeft s t old x child_own image) (sym is) (vhd_left (image_uuid (row_name q)) is))
        (λ is. subst (λ x. IsParentLeft s t old x child_own image) (sym is) (raw_left (image_uuid (row_name q)) is))
        (named_as (row_name q) (image_uuid (row_name q)) (named_row s t m q h.orderly (there h)) refl))

    -- ---- all but the parent

    sector_other : (n : Name) → n ≢ p → (k : ℕ) → k < size_of s t n → sectors_of (content_in s t image) n k ≡ sectors_of (content_now s t old) n k
    sector_other n other k below =
        all_quiet s t old settled n k (sectors_of (content_in s t image) n k) ((kept_other n other).may k _ (left_volume s t m new image n h.orderly left k below)) ∙ sym (now_sector s t old n k below)

    readings_same : SameReadings (content_now s t old) (content_in s t image)
    readings_same k below = ap reading (sector_other Mgt not_records k (omega (arith, below, mgt_long s t m h.orderly)))

    recorded : (u : List ℕ) → record_of (content_in s t image) u ≡ record_of (content_now s t old) u
    recorded u = record_of_first (content_in s t image) u ∙ ap first_of (records_same (content_now s t old) (content_in s t image) u readings_same) ∙ sym (record_of_first (content_now s t old) u)

    reading_alike : (k : ℕ) → reading_in (content_in s t image) k ≡ reading_in (content_now s t old) k
    reading_alike k = ⊎_elim
        (λ below. ap (λ y. cond (nat_lt k record_count) y Free) (readings_same k below))
        (λ past. ap (λ c. cond c (reading_at (content_in s t image) k) Free) (le-ltb k record_count past) ∙ sym (ap (λ c. cond c (reading_at (content_now s t old) k) Free) (le-ltb k record_count past))) (cases_lt k record_count)

    image_other : (n : Name) → n ≢ p → image_of (content_in s t image) n ≡ image_of (content_now s t old) n
    image_other n other = image_by_sectors s t m (reads old) image n (rows t n) h.orderly refl (sector_other n other)

    only_child : (n : Name) (x : Image) → image_of (content_now s t old) n ≡ Some x → x.parent ≡ Some p → n ≡ v
    only_child n x is parent = by (tree_row m.rows n) refl (sym (ap link_of is) ∙ links_left s t old m (reads old) n h.orderly ready.firm (left_in s t m old (reads old) h.orderly (left_now s old)))
      where
        by : (y : Option TreeRow) → tree_row m.rows n ≡ y → link_of (Some x) ≡ link_in y → n ≡ v
        by None e l = absurd (none-some _ (sym l))
        by (Some y) e l =
            let at = In-tree_row m.rows n y e in
            let link = same_Some _ _ l in
            sym at.1 ∙ only h y at.0 (sym (ap (λ (z : Link). z.parent) link) ∙ parent)

    stands_other : (u : List ℕ) (n : Name) → standing_volume t u ≡ Some n → n ≢ p
    stands_other u n stands same =
        let f = find-some (is_visible t) (Vhd u ∷ Raw u ∷ []) n (sym (plainly_stands s t m u h.orderly) ∙ stands) in
        let w = rowed s t m (row_name q) volume.row h.orderly (image_named (row_name q) (named_row s t m q h.orderly (there h))) volume.there volume.filled in
        let row_is : w.row ≡ q = same_Some w.row q (sym w.found ∙ row_found s t m h.orderly q (there h)) in
        let none : is_visible t (row_name q) ≡ false = ap (of_row (λ (r : Row). not r.hidden && not r.fresh)) volume.there
        ∙ ap (λ (a : Bool). not a && not volume.row.fresh) (sym w.hidden ∙ ap (λ (x : TreeRow). x.hidden) row_is ∙ hidden h) in
        true≢false (sym f.1 ∙ ap (is_visible t) (same ∙ sym (named h)) ∙ none)

    pub copy_left : IsCopyLeft (content_now s t old) (content_in s t image) v p
    copy_left = record {
      table = refl;
      recorded = recorded;
      others = image_other;
      child = child_now.image;
      was = parent_left.was;
      now = parent_left.now;
      there = child_now.there;
      before = parent_left.before;
      after = parent_left.after;
      size = parent_left.size;
      parent = parent_left.parent;
      alike = ap (λ (x : Image). x.size) (same_Some parent_left.was parent_now.image (sym parent_left.before ∙ parent_now.there)) ∙ parent_now.size ∙ same_size h ∙ sym child_now.size;
      own = λ k. ⊎_elim inl (λ put. inr (put.0, child_now.own k ∙ put.1, put.2)) (parent_left.own_is k);
      only = only_child;
      stands = stands_other;
    }

    -- ---- what is left is kept

    link_same : (n : Name) → link_of (image_of (content_in s t image) n) ≡ link_of (image_of (content_now s t old) n)
    link_same n = ⊎_elim
        (λ same. ap (λ y. link_of (image_of (content_in s t image) y)) same ∙ ap link_of parent_left.after
        ∙ ap₂ (λ (k : ℕ) (x : Option Name). let l : Link = record { size = k; parent = x } in Some l) parent_left.size parent_left.parent
        ∙ sym (ap (λ y. link_of (image_of (content_now s t old) y)) same ∙ ap link_of parent_left.before))
        (λ other. ap link_of (image_other n other)) (name_or_not n p)

    outline_same : outline (content_in s t image) ≡ outline (content_now s t old)
    outline_same = ap₂ (λ (ls : Name → Option Link) (rs : ℕ → Reading). let l : Outline = record { extent = s.geometry.extent; block = s.geometry.block; entries = s.geometry.entries; table = t; links = ls; readings = rs } in l)
        (fun_ext link_same) (fun_ext reading_alike)

    pub copy_kept : IsKept (content_in s t image)
    copy_kept =
        let kept = law_kept s t old m (reads old) h.orderly ready.firm (left_in s t m old (reads old) h.orderly (left_now s old)) (ready_places s t old m (reads old) h.orderly ready (left_now s old)) in
        record {
          sound = ap fault_of outline_same ∙ kept.sound;
          holding = λ u x is. ⊎_elim
              (λ same. subst (IsHolding s.geometry.block) (same_Some parent_left.now x (sym parent_left.after ∙ ap (image_of (content_in s t image)) (sym same) ∙ is)) (parent_left.holding u same))
              (λ other. kept.holding u x (sym (image_other (Vhd u) other) ∙ is)) (name_or_not (Vhd u) p);
          linking = λ child parent r x y n entry child_is linked under. absurd (no_relink h.kind v p cursor h.dirty (sym h.op ∙ (entry_relink s t m child parent r h.orderly entry).is));
        }
